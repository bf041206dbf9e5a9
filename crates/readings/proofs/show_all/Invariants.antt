-- What was made so far is what the cases and the doubles say.
use Rattle.std.proofs.Common.{◌≡◌, ℕ, ◌<◌, length, get_or}
use Rattle.readings.specs.declared.Reading.TheVariants.{Silent}
use Rattle.readings.specs.Reading.{no_double}
use Rattle.readings.specs.Readings.{shown}
use Rattle.readings.specs.inner.Laying.{shown_by}
use Rattle.readings.proofs.show_all.Given as goal

abbrev pub invariant-loop-i : goal.invariant-loop-i
invariant-loop-i l =
    (length l.it-items ≡ 64)
    × ((k : ℕ) → k < l.i → get_or l.it-items k (shown Silent) ≡ shown_by (get_or l.cases k 0) (get_or l.doubles k no_double))
