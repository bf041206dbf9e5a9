-- Steps of the iterator over a file's tuples, for loops over a file: what it gives stands where the iterator stood, and it gives nothing
-- only where no whole tuple stands. Assumes nothing.
use mathlib.Core.Path.{◌≡◌, sym, ap, ◌∙◌}
use mathlib.Core.Bool.{Bool}
use mathlib.Core.List.{List}
use Prim.Native.Nat.{ℕ, ◌+◌, ◌<◌, ◌≤◌}
use native.Mathlib.Omega.{arith}
use lib.ListN.{length, drop}
use Rattle.frame.specs.declared.passing.Located.{Located}
use Rattle.frame.specs.declared.passing.Tuples.{Tuples}
use Rattle.frame.specs.Frames.{len_at, kind_at}
use Rattle.frame.specs.inner.Located.{Roomy, Passes}
use Rattle.frame.proofs.Places.{Whole}

-- a step, told of the file and the order that the loop knows
module _ (s t : Tuples) (x : Located) (p : Passes s x t) (f : List ℕ) (o : Bool) (ef : s.file.now ≡ f) (eo : s.msb ≡ o) where
  pub passes-below : s.at < length f
  passes-below = omega (arith, p.room.least, ap length ef)

  pub passes-at : x.at ≡ s.at
  passes-at = p.at

  pub passes-whole : x.whole ≡ len_at o (drop s.at f)
  passes-whole = rw (eo, ef) at p.whole

  pub passes-code : x.code ≡ kind_at o (drop s.at f)
  passes-code = rw (eo, ef) at p.code

  pub passes-next : t.at ≡ s.at + x.whole
  passes-next = p.next ∙ ap (λ (n : ℕ). s.at + n) (sym p.whole)

  pub passes-file : t.file.now ≡ f
  passes-file = rw p.file ef

  pub passes-msb : t.msb ≡ o
  passes-msb = p.msb ∙ eo

-- where it gives nothing, no whole tuple stands
pub passed-all : (s : Tuples) (f : List ℕ) (o : Bool) → s.file.now ≡ f → s.msb ≡ o → (Roomy s → ⊥)
    → (s.at < length f → Whole o f s.at (len_at o (drop s.at f))) → s.at < length f → ⊥
passed-all s f o ef eo none whole h =
    let w = whole h in
    none (record { least = rw ef (omega (arith, w.long, w.fits)); whole = rw (ef, eo) w.fits })
