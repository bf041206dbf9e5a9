-- `salvage::seeming` meets its contract: none, or a length that is allowed. Assumes nothing.
use Rattle.std.proofs.Common.{sym, ◌∙◌, arith}
use Rattle.layout.proofs.Views.{fine_no_err}
use Rattle.frame.proofs.Frames.{allowed-most}
use Rattle.frame.proofs.Places.{framing-whole}
use Rattle.salvage.proofs.seeming.Goals as goal

pub length_at-requires : goal.length_at-requires
length_at-requires c =
    let h = framing-whole c.args.msb c.args.file.now c.args.at (sym c.judge_frame.ensures ∙ fine_no_err _ (sym c.is_err.ensures.value ∙ c.if-is_err.false)) in
    omega (arith, h.long, h.fits)

pub returns : goal.returns
returns c =
    let h = framing-whole c.args.msb c.args.file.now c.args.at (sym c.judge_frame.ensures ∙ fine_no_err _ (sym c.is_err.ensures.value ∙ c.if-is_err.false)) in
    omega (arith, c.length_at.ensures, allowed-most _ h.allowed)
