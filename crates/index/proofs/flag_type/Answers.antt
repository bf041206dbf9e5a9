-- `index::flag_type` meets its contract: the type's bit is in its byte. Assumes nothing.
use Rattle.std.proofs.Common.{sym, ◌∙◌}
use Rattle.index.proofs.Flags.{flag-outside, flag_ored}
use Rattle.index.proofs.flag_type.Goals as goal

pub returns : goal.returns
returns c =
    let a = c.args in
    rw c.from-k.ensures
    (flag_ored a.flags.now a.code (c.fits-flags _) ∙ flag-outside a.flags.now a.code (sym c.in_class.ensures ∙ c.if-in_class.false))
