-- `archive::tell` meets its contract: the numbers copied into their part are told. Assumes nothing.
use Rattle.std.proofs.Common.{◌+◌, ◌-◌, length, ap, ◌∙◌, arith}
use borrow.Rule.Slice.PartMut.{put_mid}
use Rattle.archive.proofs.Telling.{told_part}
use Rattle.archive.proofs.tell.Goals as goal

pub returns : goal.returns
returns c =
    let a = c.args in
    let n = a.at + length a.numbers.now - a.at in
    ap (put_mid a.at n a.answer.now) c.copy_from_slice.ensures.after
    ∙ told_part a.answer.now a.numbers.now a.at n (omega arith) (omega arith)
