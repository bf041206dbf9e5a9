-- What the functions that write a tuple are handed. Assumes nothing.
use Rattle.std.specs.Prelude.{◌≡◌, ℕ, ◌+◌, ◌≤◌, true, List, [], ◌∷◌, ◌++◌, length}
use Rattle.std.proofs.Math.Option.{some, none}
use Rattle.layout.specs.Fields.{size}
use Rattle.layout.specs.Types.{Shape, indexed, row, uncompressed, compressed, unlisted}
use Rattle.turning.specs.Rows.{Value, number, text, woven}
use Rattle.turning.specs.inner.Codes.{text_fits}

-- ---- what a writer of a row hands over: its numbers in order, a remark's characters, the characters behind the fields, the attribute
abbrev pub handed_values : Shape → List ℕ → List ℕ → List ℕ → ℕ → List Value
handed_values indexed ns t b a = []
handed_values (row fs none) ns t b a = woven fs ns t ++ (number a ∷ [])
handed_values (row fs (some least)) ns t b a = woven fs ns t ++ (text b ∷ number a ∷ [])
handed_values (uncompressed f) ns t b a = []
handed_values (compressed f) ns t b a = []
handed_values unlisted ns t b a = []

-- they fill the row and make a tuple of n bytes
abbrev pub Handable : Shape → List ℕ → List ℕ → List ℕ → ℕ → Type 0
Handable indexed ns t b n = ⊥
Handable (row fs none) ns t b n = (text_fits fs t ≡ true) × (b ≡ []) × (n ≡ size fs + length b + 14) × (n ≤ 262144)
Handable (row fs (some least)) ns t b n = (text_fits fs t ≡ true) × (n ≡ size fs + length b + 14) × (n ≤ 262144)
Handable (uncompressed f) ns t b n = ⊥
Handable (compressed f) ns t b n = ⊥
Handable unlisted ns t b n = ⊥
