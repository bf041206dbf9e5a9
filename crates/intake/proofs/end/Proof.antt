-- `intake::end` meets its contract: `Past k` says that the first k rules do not hold; each return adds the rule that does.
-- Assumes nothing.
use mathlib.Core.Path.{◌≡◌, sym, ap, ◌∙◌}
use mathlib.Core.Bool.{not}
use mathlib.Core.List.{[]}
use Prim.Native.Nat.{ℕ}
use borrow.Author.Rules.{rules}
use borrow.Author.Tests.{lt-ltb, le-ltb, le-leb, lt-leb}
use lib.Dec.{leb}
use lib.ListN.{get_or}
use Rattle.layout.specs.Views.{as_answer}
use Rattle.rules.specs.Rules.First.{none, here, pass}
use Rattle.rules.proofs.Laws.{Passed}
use Rattle.layout.specs.Answer.{Accepted, Refused}
use Rattle.links.specs.Links.{counted}
use Rattle.links.specs.inner.Tables.{sounder_of, tuple_of}
use Rattle.links.proofs.Rows.{rows-length, rows_at}
use Rattle.intake.specs.Check.{Course, end_rules, counts_of}
use Rattle.intake.specs.inner.Tallies.{tables, course_of}
use Rattle.intake.proofs.Tallies.{ends}
use Rattle.intake.proofs.end.Statement.{statement}
use Rattle.intake.proofs.end.Tie as tie

abbrev course : tie.Start → Course
course s = course_of s.args.w (tables s.args.sounders.now s.args.channels.now)

abbrev Past : ℕ → tie.Start → Type 0
Past k s = Passed k (end_rules s.args.total (course s)) (Accepted (counts_of (course s)))

returns : tie.Need-returns-then-at-total
returns c = ap as_answer c.refuse.ensures ∙ ends _ _ (here (lt-ltb _ _ c.if-at-total.true))

past1 : (c : tie.Else-at-total) → Past 1 c.before
past1 c x p = pass (le-ltb _ _ c.if-at-total.false) p

returns-2 : tie.Need-returns-then-not-complete
returns-2 c =
    let d = c.before.before in
    ap as_answer c.refuse-then-not-complete.ensures ∙ ends _ _ (past1 d.before _ (here (ap not (sym d.complete.ensures) ∙ c.if-not-complete.true-raw)))

past2 : (c : tie.Else-not-complete) → Past 2 c.before.before.before
past2 c x p = past1 c.before.before _ (pass (ap not (sym c.complete.ensures) ∙ c.if-not-complete.false-raw) p)

-- the test of the counts, as the code made it
tested : (c : tie.After-first_wrong-wrong) → let s = c.before.before.before.before in
    counted (course s).links ≡ leb s.args.w.sounders c.first_wrong-wrong.result
tested c =
    let s = c.before.before.before.before in
    rw (c.first_wrong-wrong.ensures, rows-length sounder_of s.args.sounders.now s.args.w.sounders s.requires.0)

returns-3 : tie.Need-returns-then-wrong-w
returns-3 c =
    let t = c.before.before.before in
    let f = t.before.before in
    let s = f.before.before.before.before in
    let p = c.wide-place.ensures
    ∙ sym (rows_at tuple_of s.args.sounders.now s.args.w.sounders _ [] t.if-wrong-w.true)
    ∙ ap (λ (y : ℕ). get_or (course s).sounders y 0) f.first_wrong-wrong.ensures in
    ap as_answer c.refuse-then-wrong-w.ensures ∙ ap (Refused 17) p ∙ ends _ _ (past2 f.before _ (here (ap not (tested f ∙ lt-leb _ _ t.if-wrong-w.true))))

returns-4 : tie.Need-returns
returns-4 c =
    ends _ _ (past2 c.before.before.before _ (pass (ap not (tested c.before.before ∙ le-leb _ _ c.if-wrong-w.false)) none))

pub end_spec : {M : Type 1} → statement M
end_spec =
    tie.close
    (tie.spec
    (λ c κs. search rules)
    returns
    (λ c κs. search rules)
    (λ c κs. search rules)
    returns-2
    (λ c κs. search rules)
    (λ c. search rules)
    (λ c. search rules)
    (λ c. search rules)
    (λ c κs. search rules)
    (λ c κs. search rules)
    returns-3
    returns-4)
