-- `intake::ask_accepted` meets its contract: the turns stand at the place asked for, or end before it. Assumes nothing.
use mathlib.Core.Path.{ap, sym, ◌∙◌}
use borrow.Author.Rules.{rules}
use Rattle.intake.specs.Views.{as_asked}
use Rattle.intake.specs.inner.Views.{as_turned}
use Rattle.frame.proofs.Files.{marked_4}
use Rattle.intake.proofs.Runs.{sized-zeros, ran_to}
use Rattle.intake.proofs.Seeks.{taken, seeking_in, seeking_here, seeking_missed}
use Rattle.intake.proofs.ask_accepted.Statement.{statement}
use Rattle.intake.proofs.ask_accepted.Tie as tie

-- the byte order is known, before the tables are made
abbrev ordered : tie.After-notes-1 → tie.After-is_msb-msb
ordered c = c.before.before.before

run-requires : tie.Need-run-requires
run-requires c κs =
    let t = taken _ _ (ordered c).requires in
    (marked_4 _ t.mark, (t.small, sized-zeros))

ask-here-requires : tie.Need-ask_here-requires
ask-here-requires c κs =
    let w = c.before.before in
    let r = w.before in
    let o = ordered r.before in
    seeking_in _ _ _ _ o.requires o.is_msb-msb.ensures _ _ (ran_to _ _ _ _ _ _ r.run.ensures (ap as_turned w.in-Continue.is))

returns : tie.Need-returns-in-Continue
returns c =
    let w = c.before.before.before in
    let r = w.before in
    let o = ordered r.before in
    c.ask_here.ensures
    ∙ seeking_here _ _ _ _ o.requires o.is_msb-msb.ensures _ _ (ran_to _ _ _ _ _ _ r.run.ensures (ap as_turned w.in-Continue.is))

returns-2 : tie.Need-returns-in-Break
returns-2 c =
    let b = c.before in
    let r = b.before in
    let o = ordered r.before in
    ap as_asked c.refuse.ensures
    ∙ seeking_missed _ _ _ _ o.requires o.is_msb-msb.ensures _ (ran_to _ _ _ _ _ _ r.run.ensures (ap as_turned b.in-Break.is))

pub ask_accepted_spec : {M : Type 1} → statement M
ask_accepted_spec =
    tie.close
    (tie.spec
    (λ c κs. marked_4 _ (taken _ _ c.requires).mark)
    run-requires
    (λ c. search rules)
    (λ c. let w = c.before in sym (ran_to _ _ _ _ _ _ w.run.ensures (ap as_turned w.in-Continue.is)).sized.sounders)
    (λ c. let w = c.before.before in sym (ran_to _ _ _ _ _ _ w.run.ensures (ap as_turned w.in-Continue.is)).sized.channels)
    ask-here-requires
    (λ c. search rules)
    (λ c κs. search rules)
    returns
    returns-2)
