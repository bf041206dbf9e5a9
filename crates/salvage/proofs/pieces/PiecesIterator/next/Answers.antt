-- The iterator over a file's pieces meets its contract: every piece has a byte, so fewer are left. Assumes nothing.
use Rattle.std.proofs.Common.{rules, arith}
use Rattle.salvage.proofs.Tiles.{found-lying}
use Rattle.salvage.proofs.pieces.PiecesIterator.next.Goals as goal

pub returns-then-self-clause-goes : goal.returns-then-self-clause-goes
returns-then-self-clause-goes c =
    let s = c.args.self.now in
    let l = found-lying s.msb s.file.now s.at c.piece_at-piece.result (omega arith) c.piece_at-piece.ensures in
    record { on = λ _. (c.requires, search rules, omega (arith, l.some, l.within)); keeps = c.requires; rests = λ _. search rules }
