-- What is weighed and what is left are all.
use Rattle.std.proofs.Common.{◌≡◌, ◌≤◌, ◌+◌, ◌*◌, drop}
use Rattle.samples.specs.inner.Narrow.{words_by}
use Rattle.weights.specs.inner.Weights.{weighed, by_words}
use Rattle.weights.proofs.Weighing.{left}
use Rattle.weights.proofs.weigh.words2.Given as goal

abbrev pub invariant-loop-i : goal.invariant-loop-i
invariant-loop-i l =
    (l.values ≤ l.i) × (l.bad ≤ l.i)
    × (l.values + 32765 * l.bad + left (by_words (words_by l.encoded) l.msb) 2 l.n l.from l.file l.i
    ≡ weighed (by_words (words_by l.encoded) l.msb) 2 l.n (drop l.from l.file))
