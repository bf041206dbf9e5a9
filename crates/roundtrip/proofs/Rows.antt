-- Values that fill a row: their tuple is sound and has them as its content, in either byte order, and so they are read back; and
-- signed numbers are found again from their patterns. Assumes nothing.
use mathlib.Core.Path.{◌≡◌, refl, sym, ap, ap₂, subst, ◌∙◌}
use Prim.Native.Nat.{ℕ, suc, ◌+◌, ◌-◌, ◌*◌, ◌^◌, ◌<◌}
use mathlib.Core.Bool.{Bool}
use mathlib.Core.List.{List}
use mathlib.Core.Option.{some}
use native.Mathlib.Nat.{pow-suc}
use native.Mathlib.Omega.{arith}
use borrow.Author.Tests.{lt-ltb, le-ltb, eq-eqb}
use lib.IntN.{ℤ, pos, negsuc}
use lib.ListN.{length}
use Rattle.order.specs.Order.{signed_of, pattern_of, Bytes}
use Rattle.layout.specs.Fields.{Field, size}
use Rattle.layout.specs.Types.{Shape, row, shape_of}
use Rattle.layout.specs.Answers.{accepting}
use Rattle.frame.specs.Frames.{allowed}
use Rattle.turning.specs.Rows.{Value, values_of, encode, identified}
use Rattle.turning.proofs.Contents.{values-encode, identified-encode, length-encode, bytes-encode}
use Rattle.content.specs.Items.{plain, row_in, item_by, item_of}
use Rattle.content.specs.Forms.{encode_by, plain_tuple}
use Rattle.content.proofs.Fine.{Sound, head-fine, inner-fine, row-size}
use Rattle.content.proofs.Plain.{encode-any}
use Rattle.tuples.specs.Readers.{read_answer, values_by, read_values, only}
use Rattle.tuples.specs.Writers.{plain_bytes}
use Rattle.roundtrip.specs.Held.{Holds, Filled, InRange}
use Rattle.roundtrip.proofs.Tuples.{read_answer_lem, read-item}

-- ---- signed numbers
-- it is found again from its pattern
pub signed-pattern : (w : ℕ) (z : ℤ) → InRange (suc w) z → signed_of (suc w) (pattern_of (suc w) z) ≡ z
signed-pattern w (pos n) h = rw (lt-ltb (n + n) (256 ^ suc w) h)
signed-pattern w (negsuc n) h =
    let even : 256 ^ suc w ≡ 256 ^ w * 256 = pow-suc 256 w in
    let m = 256 ^ suc w - suc n in
    let back : 256 ^ suc w - suc (256 ^ suc w - suc n) ≡ n = omega arith in
    rw (le-ltb (m + m) (256 ^ suc w) (omega arith), back)

pub pattern-below : (w : ℕ) (z : ℤ) → InRange (suc w) z → pattern_of (suc w) z < 256 ^ suc w
pattern-below w (pos n) h = omega arith
pattern-below w (negsuc n) h = omega arith

-- ---- the tuple of values that fill a row
module _ {k : ℕ} {vs : List Value} (g : Filled k vs) (o : Bool) where
  abbrev gs : List Field
  gs = row_in g.fields g.characters g.size

  body-row : encode_by o (shape_of k) vs ≡ encode o gs vs
  body-row = ap (λ (q : Shape). encode_by o q vs) g.shape ∙ encode-any o g.fields g.characters 0 g.size vs

  size-row : size gs ≡ g.size
  size-row = row-size g.fields g.characters g.size g.fits

  length-row : length (encode_by o (shape_of k) vs) ≡ g.size
  length-row = ap length body-row ∙ length-encode o g.fit ∙ size-row

  pub sound-row : Sound o (plain_tuple o k vs)
  sound-row =
      record {
        framed =
            record {
              kind = g.code;
              bytes = subst Bytes (sym body-row) (bytes-encode o g.fit g.lettered);
              allowed = rw length-row g.whole;
            };
        head = head-fine o (plain_tuple o k vs) (row g.fields g.characters) g.shape (rw length-row g.fits)
            (ap₂ (λ (n : ℕ) (b : List ℕ). identified o (row_in g.fields g.characters n) b) length-row body-row
            ∙ identified-encode o g.fit);
        inner = inner-fine o (plain_tuple o k vs) (row g.fields g.characters) g.shape refl;
      }

  pub item-row : item_of o (plain_tuple o k vs) ≡ some (plain k vs)
  unfolding item_of
  item-row =
      subst (λ (q : Shape). item_by q o (plain_tuple o k vs) ≡ some (plain k vs)) (sym g.shape)
      (ap (λ (ws : List Value). some (plain k ws))
      (ap₂ (λ (n : ℕ) (b : List ℕ). values_of o (row_in g.fields g.characters n) b) length-row body-row ∙ values-encode o g.fit))

-- ---- read back
module _ {k : ℕ} {vs : List Value} (g : Filled k vs) {f : List ℕ} {p : ℕ} {o : Bool} (h : Holds f p o (plain_bytes o k vs)) where
  pub row-answer : read_answer (only k) f p ≡ accepting 1 0
  row-answer = read_answer_lem (sound-row g o) h (only k) (eq-eqb k k refl)

  pub row-values : read_values f p ≡ vs
  row-values = ap values_by (read-item (sound-row g o) h ∙ item-row g o)
