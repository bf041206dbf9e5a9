-- `intake::check` meets its contract: the turns give the answer, or stand at the file's length with no end of file. Assumes nothing.
use mathlib.Core.Path.{ap, ◌≡◌, sym, ◌∙◌}
use mathlib.Core.Bool.{true}
use native.Mathlib.Omega.{arith}
use borrow.Author.Rules.{rules}
use borrow.Author.Tests.{not-true, not-false}
use lib.ListN.{length}
use Rattle.intake.specs.inner.Views.{as_turned}
use Rattle.layout.specs.Views.{as_answer}
use Rattle.layout.specs.Answers.{tells}
use Rattle.frame.specs.Files.{marked}
use Rattle.frame.proofs.Files.{marked_4}
use Rattle.intake.specs.Check.{begin, check_from, check_file}
use Rattle.intake.proofs.Checks.{over-limit, no_mark, whole-check, no_end}
use Rattle.intake.proofs.Runs.{sized-zeros, ran_to}
use Rattle.intake.proofs.check.Statement.{statement}
use Rattle.intake.proofs.check.Tie as tie

-- the file is marked
marks : (c : tie.Else-not-is_marked) → marked c.args.file.now ≡ true
marks c = sym c.is_marked.ensures ∙ not-false _ c.if-not-is_marked.false-raw

returns-2 : tie.Need-returns-then-not-is_marked
returns-2 c =
    tells (ap as_answer c.refuse-then-not-is_marked.ensures
    ∙ no_mark c.args.file.now (omega arith) (sym c.is_marked.ensures ∙ not-true _ c.if-not-is_marked.true-raw))

is-msb-requires : tie.Need-is_msb-msb-requires
is-msb-requires c κs = marked_4 c.args.file.now (marks c)

-- the byte order is known, before the tables are made
abbrev ordered : tie.After-notes-1 → tie.After-is_msb-msb
ordered c = c.before.before.before

run-requires : tie.Need-run-requires
run-requires c κs = let e = (ordered c).before in (marked_4 _ (marks e), (omega arith, sized-zeros))

-- tuple by tuple, it is the whole check
whole : (c : tie.After-is_msb-msb) → let f = c.args.file.now in
    check_from (length f) c.is_msb-msb.result f begin ≡ check_file f
whole c = whole-check c.args.file.now _ (omega arith) (marks c.before) c.is_msb-msb.ensures

returns-3 : tie.Need-returns-in-Continue
returns-3 c =
    let r = c.before.before in
    tells (ap as_answer c.refuse-in-Continue.ensures
    ∙ no_end _ _ _ _ (ran_to _ _ _ _ _ _ r.run.ensures (ap as_turned c.in-Continue.is))
    ∙ whole (ordered r.before))

returns-4 : tie.Need-returns-in-Break
returns-4 c =
    let r = c.before in
    tells ((ran_to _ _ _ _ _ _ r.run.ensures (ap as_turned c.in-Break.is)).answer ∙ whole (ordered r.before))

pub check_spec : {M : Type 1} → statement M
check_spec =
    tie.close
    (tie.spec
    (λ c κs. search rules)
    (λ c. tells (ap as_answer c.refuse.ensures ∙ over-limit c.args.file.now (omega arith)))
    (λ c κs. search rules)
    (λ c κs. search rules)
    returns-2
    is-msb-requires
    run-requires
    (λ c. search rules)
    (λ c κs. search rules)
    (λ c. search rules)
    returns-3
    returns-4)
