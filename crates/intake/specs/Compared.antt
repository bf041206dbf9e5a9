-- How many identifiers are compared while the tuples of a file are linked. Assumes nothing.
use Rattle.std.specs.Prelude.{ℕ, ◌+◌, Bool, List, [], ◌∷◌}
use Rattle.frame.specs.Frames.{Tup}
use Rattle.frame.specs.Files.{is_msb}
use Rattle.frame.specs.Tuples.{tuples_of}
use Rattle.links.specs.Links.{Links, start, compares, note}
use Rattle.content.specs.Items.{digest}

-- each tuple is linked among the declarations before it
unfoldable pub comparisons : Bool → Links → List Tup → ℕ
comparisons o k [] = 0
comparisons o k (t ∷ ts) = compares k (digest o t).link + comparisons o (note k (digest o t)) ts

abbrev pub comparisons_of : List ℕ → ℕ
comparisons_of f = comparisons (is_msb f) start (tuples_of f)
