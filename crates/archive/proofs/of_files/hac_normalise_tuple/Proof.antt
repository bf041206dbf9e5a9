-- `archive::of_files::hac_normalise_tuple` meets its contract, which settles what it says and leaves. Assumes nothing.
use mathlib.Core.Path.{◌≡◌}
use mathlib.Core.List.{List}
use Prim.Native.Nat.{ℕ}
use borrow.Author.Rules.{rules}
use Rattle.layout.specs.Views.{as_answer}
use Rattle.normal.specs.Single.{NormalisedTuple, single_settled}
use Rattle.archive.specs.Saying.{Said, said_settled}
use Rattle.archive.specs.Numbers.{five}
use Rattle.archive.proofs.Saying.{untold, answer-told}
use Rattle.archive.proofs.of_files.hac_normalise_tuple.Statement.{statement}
use Rattle.archive.proofs.of_files.hac_normalise_tuple.Tie as tie

returns : tie.Need-returns-then-answer-lt-HEAD
returns c =
    let a = c.args in
    untold 0 five (NormalisedTuple a.file.now a.out.now) a.answer.now a.out.now c.if-answer-lt-HEAD.true

returns-2 : tie.Need-returns
returns-2 c =
    let t = c.before.before in
    let k = t.before.before.before in
    let e = k.before.before.before in
    let a = e.args in
    answer-told (NormalisedTuple a.file.now a.out.now) a.answer.now a.out.now (as_answer k.normalise_tuple.result) _ _ _
    e.if-answer-lt-HEAD.false k.normalise_tuple.ensures t.tell_answer.ensures

pub hac_normalise_tuple_spec : {M : Type 1} → statement M
hac_normalise_tuple_spec =
    tie.close
    (tie.spec
    returns
    (λ c κs. search rules)
    (λ c κs. search rules)
    (λ c. search rules)
    (λ c. search rules)
    returns-2)

pub hac-normalise-tuple-settled : (f out lent : List ℕ) {c d : ℕ} {left right kept held : List ℕ}
    → Said 0 five (NormalisedTuple f out) lent out c left kept → Said 0 five (NormalisedTuple f out) lent out d right held
    → (c ≡ d) × (left ≡ right) × (kept ≡ held)
hac-normalise-tuple-settled f out lent = said_settled 0 five (NormalisedTuple f out) lent out (λ a b p q. single_settled p q)
