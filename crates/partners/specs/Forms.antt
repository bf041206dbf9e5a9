-- Private tuples in a normal form: of a file in LSB order they are kept where they stand; one in MSB order is refused by 18 at the first.
-- Assumes nothing.
use Rattle.std.specs.Prelude.{◌≡◌, ℕ, ◌+◌, Bool, false, List, [], ◌∷◌}
use Rattle.std.proofs.Math.Option.{Option, some, none}
use Rattle.layout.specs.Types.{shape_of}
use Rattle.frame.specs.Frames.{Tup, length_of}
use Rattle.content.specs.Items.{Item, item_of}
use Rattle.content.specs.Forms.{form_of}
use Rattle.normal.specs.Normaliser.{is_unlisted}
use Rattle.partners.specs.Private.{Part, own, put}

-- each of a file's own tuples in its normal form, the index class left out; those put in as they are
abbrev pub own_form : Option Item → List Part → List Part
own_form none ps = ps
own_form (some i) ps = own (form_of i) ∷ ps

unfoldable pub form_parts : Bool → List Part → List Part
form_parts o [] = []
form_parts o (own t ∷ ps) = own_form (item_of o t) (form_parts o ps)
form_parts o (put x ∷ ps) = put x ∷ form_parts o ps

-- the place of the first that is put in, the first of all standing at a place; where none is, that of the end
unfoldable pub first_put : ℕ → List Part → ℕ
first_put at [] = at
first_put at (own t ∷ ps) = first_put (at + length_of t) ps
first_put at (put x ∷ ps) = at

-- no tuple is of an unlisted type
abbrev pub NoneUnlisted : List Tup → Type 0
NoneUnlisted [] = Unit {0}
NoneUnlisted (t ∷ ts) = (is_unlisted (shape_of t.kind) ≡ false) × NoneUnlisted ts
