-- `hexlines::lines_out::put` meets its contract. Assumes nothing.
use Rattle.std.proofs.Common.{◌+◌, ◌-◌, length, ap, arith}
use borrow.Rule.Slice.PartMut.{put_mid}
use Rattle.hexlines.proofs.Stores.{put_copied}
use Rattle.hexlines.proofs.lines_out.put.Goals as goal

pub returns : goal.returns
returns c =
    let a = c.args in
    put_copied a.out.now a.text.now a.at (a.at + length a.text.now - a.at) (omega arith) (omega arith)
    (ap (put_mid a.at (a.at + length a.text.now - a.at) a.out.now) c.copy_from_slice.ensures.after)
