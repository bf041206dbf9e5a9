-- `intake::judge_alone` meets its contract: the rules of the frame, then the tuple's own. Assumes nothing.
use Rattle.std.proofs.Common.{sym, ap, ◌∙◌, arith}
use Rattle.std.proofs.lemmas.Result.{err_from_is_err_and}
use Rattle.layout.specs.Views.{as_verdict}
use Rattle.frame.proofs.Places.{framing-whole}
use Rattle.intake.proofs.Alone.{alone-parts}
use Rattle.intake.proofs.judge_alone.Goals as goal

pub returns-in_err-judge_frame : goal.returns-in_err-judge_frame
returns-in_err-judge_frame c =
    let p = err_from_is_err_and c.from_residual.result c.from_residual.ensures.1 in
    rw (p.1, p.2, alone-parts, ← c.judge_frame.ensures, c.in_err-judge_frame.was)

pub length_at-whole-requires : goal.length_at-whole-requires
length_at-whole-requires c =
    let h = framing-whole c.args.msb c.args.file.now c.args.at (sym c.judge_frame.ensures ∙ ap as_verdict c.in_ok-judge_frame.was) in
    omega (arith, h.long, h.fits)

pub kind_at-code-requires : goal.kind_at-code-requires
kind_at-code-requires c =
    let h = framing-whole c.args.msb c.args.file.now c.args.at (sym c.judge_frame.ensures ∙ ap as_verdict c.in_ok-judge_frame.was) in
    omega (arith, h.long, h.fits)

pub judge_own-requires : goal.judge_own-requires
judge_own-requires c = record {
  framed = sym c.judge_frame.ensures ∙ ap as_verdict c.in_ok-judge_frame.was;
  size = sym c.length_at-whole.ensures;
  kind = sym c.kind_at-code.ensures;
}

pub returns : goal.returns
returns c = rw (alone-parts, sym c.judge_frame.ensures ∙ ap as_verdict c.in_ok-judge_frame.was) c.judge_own.ensures
