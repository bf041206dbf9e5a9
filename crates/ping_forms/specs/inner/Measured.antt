-- What is measured of a tuple's normal form. Assumes nothing.
use Rattle.std.specs.Prelude.{◌≡◌, ℕ, ◌*◌, ◌≤◌, Bool, length}
use Rattle.std.proofs.Math.Option.{Option, some, none}
use Rattle.frame.specs.Frames.{Tup}
use Rattle.content.specs.Items.{Item, item_of}
use Rattle.content.specs.Forms.{form_of, form_bytes}
use Rattle.ping_forms.specs.declared.Form.{Form}

-- the type of an item's form; a tuple without content, of type k, has none, and its own type stands for it
abbrev pub form_type : ℕ → Option Item → ℕ
form_type k none = k
form_type k (some i) = (form_of i).kind

-- of a tuple of n bytes and type k: the bytes of its form, at most twice as many, and its form's type
pub record Measured (o : Bool) (t : Tup) (n k : ℕ) (m : Form) : Type 0 where
  pub bytes : m.bytes ≡ length (form_bytes o t)
  pub twice : m.bytes ≤ 2 * n
  pub code : m.code ≡ form_type k (item_of o t)
