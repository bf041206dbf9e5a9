-- What is found in two files, by their checks and by what is found in each. Assumes nothing.
use mathlib.Core.Path.{◌≡◌, sym, ap, ap₂, ◌∙◌}
use mathlib.Core.Bool.{true, false}
use mathlib.Core.List.{List}
use Prim.Native.Nat.{ℕ}
use Rattle.layout.specs.declared.Counts.{Counts}
use Rattle.layout.specs.Answer.{Answer}
use Rattle.layout.specs.Answer.{Accepted}
use Rattle.layout.specs.declared.SoftwareChannel.{SoftwareChannel}
use Rattle.intake.specs.Check.{check_file}
use Rattle.corrections.specs.Found.{Found}
use Rattle.corrections.specs.Found.{Refused}
use Rattle.corrections.specs.Spot.{Spot}
use Rattle.corrections.specs.Corrections.{ping_in, chosen, found_by, found_of}

module _ (d k : List ℕ) (c : SoftwareChannel) (n : ℕ) where
  pub found_deposit : (x p : ℕ) → check_file d ≡ Answer.Refused x p → Refused 1 x p ≡ found_of d k c n
  unfolding found_of
  found_deposit x p e = sym (ap (λ (a : Answer). found_by d k c n a (check_file k)) e)

  pub found-corrections : {i : Counts} → check_file d ≡ Accepted i → (x p : ℕ) → check_file k ≡ Answer.Refused x p
      → Refused 2 x p ≡ found_of d k c n
  unfolding found_of
  found-corrections a x p e = sym (ap₂ (found_by d k c n) a e)

  pub found-both : {i j : Counts} → check_file d ≡ Accepted i → check_file k ≡ Accepted j → {s t : Spot} {r : Found} → r ≡ chosen s t
      → s ≡ ping_in true k c n → t ≡ ping_in false d c n → r ≡ found_of d k c n
  unfolding found_of
  found-both a b e p q = e ∙ ap₂ chosen p q ∙ sym (ap₂ (found_by d k c n) a b)
