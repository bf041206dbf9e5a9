-- `edits::judge_back` meets its contract: 7 where the index would stand first, else past it and over the last part. Assumes nothing.
use mathlib.Core.Path.{ap}
use native.Mathlib.Omega.{arith}
use borrow.Author.Rules.{rules}
use Rattle.layout.specs.Views.{as_answer}
use Rattle.intake.specs.inner.Views.{as_turned}
use Rattle.intake.specs.inner.Tallies.{tables}
use Rattle.edits.proofs.Judging.{back-first, back_done, back_open, part_to}
use Rattle.edits.proofs.judge_back.Statement.{statement}
use Rattle.edits.proofs.judge_back.Tie as tie

-- places, named by what has been done there
abbrev start : tie.After-struct_known-1 → tie.Start
start c = c.before.before

abbrev passing : tie.After-judge_part → tie.After-pass_index-w
passing c = c.before.before.before.before

returns : tie.Need-returns-then-from-eq0
returns c =
    let a = (start c.before.before).args in
    rw (ap as_answer c.refuse.ensures)
    (back-first a.msb a.size.whole a.last.now a.size.index a.from (tables a.sounders.now a.channels.now)
    c.if-from-eq0.true)

pass-index-requires : tie.Need-pass_index-w-requires
pass-index-requires c κs =
    let s = start c.before in
    (s.requires.0.standing, (omega (arith, c.if-from-eq0.false), (omega (arith, s.requires.1.0), s.requires.1.1)))

judge-part-requires : tie.Need-judge_part-requires
judge-part-requires c κs =
    let i = c.before.before.before in
    let s = start i.before.before in
    let p = i.pass_index-w.ensures in (
      record { standing = p.stands; steady = p.steady _ s.requires.0.steady; sized = s.requires.0.sized },
      omega
          (arith, p.at, s.requires.1.0),
    )

returns-2 : tie.Need-returns-in-Continue
returns-2 c =
    let n = c.before in
    let j = n.before in
    let i = passing j in
    let a = (start i.before.before).args in
    rw (ap as_answer c.refuse-in-Continue.ensures)
    (back_open a.msb a.size.whole a.last.now a.size.index a.from (tables a.sounders.now a.channels.now) _
    i.pass_index-w.ensures _ _ (part_to a.msb a.size.whole a.last.now _ _ _ _ _ j.judge_part.ensures (ap as_turned n.in-Continue.is)))

returns-3 : tie.Need-returns-in-Break
returns-3 c =
    let n = c in
    let j = n.before in
    let i = passing j in
    let a = (start i.before.before).args in
    back_done a.msb a.size.whole a.last.now a.size.index a.from (tables a.sounders.now a.channels.now) _
    i.pass_index-w.ensures _ (part_to a.msb a.size.whole a.last.now _ _ _ _ _ j.judge_part.ensures (ap as_turned n.in-Break.is))

pub judge_back_spec : {M : Type 1} → statement M
judge_back_spec =
    tie.close
    (tie.spec
    (λ c κs. search rules)
    returns
    pass-index-requires
    judge-part-requires
    (λ c. search rules)
    (λ c κs. search rules)
    (λ c. search rules)
    returns-2
    returns-3)
