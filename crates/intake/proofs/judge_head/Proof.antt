-- `intake::judge_head` meets its contract: the rules one by one, the identifier's where it is a signature. Assumes nothing.
use mathlib.Core.Path.{◌≡◌, sym, ap, ◌∙◌}
use mathlib.Core.Bool.{false, not, beq}
use mathlib.Core.List.{[], ◌∷◌}
use native.Mathlib.Omega.{arith}
use borrow.Author.Rules.{rules}
use borrow.Author.Tests.{not-false}
use lib.Dec.{eqb}
use Rattle.layout.specs.Views.{as_verdict}
use Rattle.rules.specs.Rules.{◌⇒◌}
use Rattle.layout.specs.Answers.{judged, ◌byte◌}
use Rattle.layout.specs.Fields.{known}
use Rattle.layout.specs.Types.{lengths_of, fitting}
use Rattle.intake.specs.inner.Tallies.{Fits, head_verdict}
use Rattle.intake.proofs.Judges.{tup_in, identified_in, room, head-place, identifier-read, no_identifier}
use Rattle.intake.proofs.judge_head.Statement.{statement}
use Rattle.intake.proofs.judge_head.Tie as tie

-- places, named by what has been done there
abbrev start : tie.Else-not-fits → tie.Start
start c = c.before.before.before.before

returns : tie.Need-returns-then-signs-first
returns c =
    let s = c.before.before.before in
    rw (ap as_verdict c.fault.ensures, head-place s.requires s.args.first, c.if-signs-first.true)

-- it is where it may be
placed : (c : tie.Else-signs-first) → let a = c.args in not (beq (eqb a.code 65535) a.first) ≡ false
placed c = c.if-signs-first.false

-- the test of the length, as the code made it
tested : (c : tie.After-fits) → let a = c.before.before.before.args in fitting (lengths_of a.code) a.whole ≡ c.fits.result
tested c = sym c.fits.ensures

returns-2 : tie.Need-returns-then-not-fits
returns-2 c =
    let d = c.before.before in
    let s = d.before.before.before in
    rw (ap as_verdict c.fault-then-not-fits.ensures, head-place s.requires s.args.first, placed d.before, tested d, c.if-not-fits.true-raw)

-- its length fits: the identifier is left
fits : (c : tie.Else-not-fits) → let a = (start c).args in Fits a.whole a.code
fits c = tested c.before ∙ not-false _ c.if-not-fits.false-raw

past2 : (c : tie.Else-not-fits) → let a = (start c).args in
    head_verdict a.msb a.first (tup_in a.msb a.file.now a.at)
    ≡ judged ((not (identified_in a.msb a.file.now a.at) ⇒ 8 byte 0) ∷ [])
past2 c =
    let s = start c in
    rw (head-place s.requires s.args.first, placed c.before.before, fits c)

returns-3 : tie.Need-returns-then-code-ne-SIGNATURE
returns-3 c = rw (past2 c.before, no_identifier (start c.before).requires c.if-code-ne-SIGNATURE.true)

-- the identifier that was read
read : (c : tie.After-read2) → let a = (start c.before.before).args in
    identified_in a.msb a.file.now a.at ≡ known c.read2.result
read c =
    let d = c.before.before in
    identifier-read (start d).requires (fits d) c.if-code-ne-SIGNATURE.false ∙ ap known (sym c.read2.ensures)

returns-4 : tie.Need-returns-then-not-is_known
returns-4 c =
    let k = c.before.before in
    let r = k.before in
    rw (ap as_verdict c.fault-then-not-is_known.ensures, past2 r.before.before, read r, ← k.is_known.ensures, c.if-not-is_known.true-raw)

returns-5 : tie.Need-returns
returns-5 c =
    let k = c.before in
    let r = k.before in
    rw (past2 r.before.before, read r, ← k.is_known.ensures, c.if-not-is_known.false-raw)

pub judge_head_spec : {M : Type 1} → statement M
judge_head_spec =
    tie.close
    (tie.spec
    (λ c κs. search rules)
    returns
    (λ c κs. search rules)
    (λ c κs. search rules)
    returns-2
    returns-3
    (λ c. omega (arith, room (start c.before).requires))
    (λ c κs. omega (arith, room (start c.before).requires))
    (λ c κs. search rules)
    (λ c κs. search rules)
    returns-4
    returns-5)
