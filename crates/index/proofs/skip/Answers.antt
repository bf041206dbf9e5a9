-- `index::skip` meets its contract: a byte of 0 flags none of its types. Assumes nothing.
use Rattle.index.proofs.Flags.{blank_byte}
use Rattle.index.proofs.skip.Goals as goal

pub returns-then-flags-at-eq0 : goal.returns-then-flags-at-eq0
returns-then-flags-at-eq0 c = blank_byte c.args.flags.now c.args.code c.requires c.if-flags-at-eq0.true
