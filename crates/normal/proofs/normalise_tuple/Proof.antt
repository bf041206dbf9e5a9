-- `normal::normalise_tuple` meets its contract: 1, 2 and the rules that a tuple keeps alone; what is behind them is `turn_tuple`'s.
-- Assumes nothing.
use mathlib.Core.Path.{◌≡◌, refl, sym, ap, ◌∙◌}
use mathlib.Core.Bool.{Bool, true}
use borrow.Author.Rules.{rules}
use borrow.Author.Tests.{not-true, not-false}
use lib.ListN.{drop}
use Rattle.std.specs.Prelude.{Err}
use Rattle.layout.specs.Views.{as_verdict, as_answer}
use Rattle.layout.proofs.Verdicts.{near_fault}
use Rattle.frame.specs.Files.{is_msb, marked}
use Rattle.frame.proofs.Files.{marked_4}
use Rattle.intake.specs.Alone.{alone}
use Rattle.intake.proofs.Alone.{alone-framed, alone-own}
use Rattle.intake.proofs.Said.{far, alone-near}
use Rattle.normal.proofs.Singles.{single_limit, single_mark, single_fault, single_fine}
use Rattle.normal.proofs.normalise_tuple.Statement.{statement}
use Rattle.normal.proofs.normalise_tuple.Tie as tie

-- places, named by what has been done there
abbrev start : tie.Else-not-is_marked → tie.Start
start c = c.before.before.before.before.before

marks : (c : tie.Else-not-is_marked) → marked (start c).args.file.now ≡ true
marks c = sym c.is_marked.ensures ∙ not-false _ c.if-not-is_marked.false-raw

-- what the rules say that it keeps alone
said : (c : tie.After-judge_alone) → let f = (start c.before.before).args.file.now in
    alone (is_msb f) (drop 4 f) ≡ as_verdict c.judge_alone.result
said c =
    let f = (start c.before.before).args.file.now in
    sym (c.judge_alone.ensures ∙ ap (λ (o : Bool). alone o (drop 4 f)) c.is_msb.ensures)

returns : tie.Need-returns-then-file-gt-LIMIT
returns c = rw (ap as_answer c.refuse.ensures) (single_limit _ _ c.if-file-gt-LIMIT.true)

returns-2 : tie.Need-returns-then-not-is_marked
returns-2 c =
    rw (ap as_answer c.refuse-then-not-is_marked.ensures)
    (single_mark _ _ c.if-file-gt-LIMIT.false
    (sym c.is_marked.ensures ∙ not-true _ c.if-not-is_marked.true-raw))

add-refuse : tie.Need-at-requires
add-refuse c κs =
    let j = c.before in
    let z = near_fault far (alone-near _ _) (said j ∙ ap as_verdict c.in-Err.is) in
    search rules

turn-tuple-requires : tie.Need-turn_tuple-requires
turn-tuple-requires c κs =
    let j = c.before.before in
    let f = (start j.before.before).args.file.now in
    let fine = said j ∙ ap as_verdict c.in-Ok.is in
    record {
      within = marked_4 _ (marks j.before.before);
      here = record { framed = alone-framed (is_msb f) (drop 4 f) fine; size = refl; kind = refl };
      own = alone-own (is_msb f) (drop 4 f) fine;
    }

returns-3 : tie.Need-returns-in-Err
returns-3 c =
    let j = c.before.before in
    rw (ap (λ r. as_answer (Err r)) c.at.ensures)
    (single_fault _ _ j.if-file-gt-LIMIT.false (marks j.before.before) _ _
    (said j ∙ ap as_verdict c.in-Err.is))

returns-4 : tie.Need-returns-in-Ok
returns-4 c =
    let told = c.before.before.before.before in
    let j = told.before in
    single_fine _ _ j.if-file-gt-LIMIT.false (marks j.before.before)
    (said j ∙ ap as_verdict told.in-Ok.is) _ _ c.turn_tuple.ensures

pub normalise_tuple_spec : {M : Type 1} → statement M
normalise_tuple_spec =
    tie.close
    (tie.spec
    (λ c κs. search rules)
    returns
    (λ c κs. search rules)
    (λ c κs. search rules)
    returns-2
    (λ c κs. marked_4 _ (marks c))
    (λ c κs. marked_4 _ (marks c.before))
    (λ c. search rules)
    add-refuse
    (λ c. search rules)
    turn-tuple-requires
    returns-3
    (λ c. search rules)
    returns-4)
