-- The tuples that are written for a content, in either byte order, and its normal form. Assumes nothing.
use Rattle.std.specs.Prelude.{ℕ, ◌^◌, Bool, true, false, not, ◌&&◌, ◌||◌, List, [], ◌∷◌, eqb, ltb, length}
use Rattle.std.proofs.Math.Option.{Option, some, none}
use Rattle.layout.specs.Families.{number_bytes, type_u, type_c, has_u, has_c}
use Rattle.layout.specs.Types.{Shape, indexed, row, uncompressed, compressed, unlisted, shape_of}
use Rattle.turning.specs.Rows.{Value, encode}
use Rattle.frame.specs.Frames.{Tup, frames}
use Rattle.samples.specs.Runs.{behind}
use Rattle.samples.specs.Values.{words_for}
use Rattle.content.specs.Pings.{Ping, data_u, data_c}
use Rattle.content.specs.Items.{Item, plain, ping, raw, row_in, item_of}

-- ---- written tuples
-- a row's values: spaces 0, the identifier 44204; the characters are as many as there are
abbrev pub encode_by : Bool → Shape → List Value → List ℕ
encode_by o indexed vs = []
encode_by o (row fs x) vs = encode o (row_in fs x 0) vs
encode_by o (uncompressed f) vs = []
encode_by o (compressed f) vs = []
encode_by o unlisted vs = []

abbrev pub plain_tuple : Bool → ℕ → List Value → Tup
plain_tuple o k vs = record { kind = k; body = encode_by o (shape_of k) vs }

abbrev pub tuple_u : Bool → Ping → Tup
tuple_u o p = record { kind = type_u p.family; body = data_u o p }

-- compressed, in the fewest words
abbrev pub tuple_c : Bool → Ping → Tup
tuple_c o p = record { kind = type_c p.family; body = data_c o p (words_for p.family p.samples p.length) }

-- ---- the normal form
abbrev pub has_length : Option ℕ → Bool
has_length none = false
has_length (some n) = true

-- an uncompressed ping can't say a length, no samples at all, or a number past its width
abbrev pub needs_words : Ping → Bool
needs_words p = has_length p.length || (eqb (length p.samples) 0 || ltb (256 ^ number_bytes p.family) (behind 0 p.samples))

-- such a ping is compressed, where its family has runs; and each one of a family without an uncompressed kind
unfoldable pub packs : Ping → Bool
packs p = not (has_u p.family) || (has_c p.family && needs_words p)

unfoldable pub ping_form : Ping → Tup
ping_form p = elim (packs p) [ true ↦ tuple_c false p | false ↦ tuple_u false p ]

unfoldable pub form_of : Item → Tup
form_of (plain k vs) = plain_tuple false k vs
form_of (ping p) = ping_form p
form_of (raw k d) = record { kind = k; body = d }

-- the normal tuples of a tuple: one, or none for the index class, and their bytes
abbrev pub forms_of : Option Item → List Tup
forms_of none = []
forms_of (some i) = form_of i ∷ []

unfoldable pub form_bytes : Bool → Tup → List ℕ
form_bytes o t = frames false (forms_of (item_of o t))
