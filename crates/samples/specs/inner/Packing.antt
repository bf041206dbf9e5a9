-- Words as the loops that pack them have them: each stretch of runs as the fewest, each value w as g w. Assumes nothing.
use Rattle.std.specs.Prelude.{◌≡◌, ℕ, ◌+◌, ◌≤◌, true, false, List, [], ◌∷◌, ◌++◌, length}
use Rattle.std.proofs.lemmas.List.Edits.{sets}
use Rattle.samples.specs.Words.{unwords}
use Rattle.samples.specs.Runs.{is_run, run_length, gap}

-- q samples below threshold stand before these words
unfoldable pub pack_from : ℕ → (ℕ → ℕ) → ℕ → List ℕ → List ℕ
pack_from R g q [] = gap R q
pack_from R g q (w ∷ ws) =
    elim (is_run R w) [
      | true ↦ pack_from R g (q + run_length R w) ws
      | false ↦ gap R q ++ (g w ∷ pack_from R g 0 ws)
    ]

abbrev pub packed : ℕ → (ℕ → ℕ) → List ℕ → List ℕ
packed R g ws = pack_from R g 0 ws

-- a value as it stands
abbrev pub same : ℕ → ℕ
same w = w

-- these words of k bytes stand at `to`, up to `end`, once eight more bytes at least are stored behind them, whichever these are
abbrev pub PackedAt : ℕ → List ℕ → ℕ → List ℕ → List ℕ → ℕ → Type 0
PackedAt k out to ws left end = (t : List ℕ) → 8 ≤ length t → sets left end t ≡ sets out to (unwords k false ws ++ t)
