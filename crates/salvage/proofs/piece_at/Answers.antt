-- `salvage::piece_at` meets its contract: by whether the tuple there is kept. Assumes nothing.
use Rattle.std.proofs.Common.{sym, ◌∙◌, arith}
use Rattle.layout.proofs.Verdicts.{fine-is}
use Rattle.salvage.proofs.Tiles.{kept_whole, piece-kept, piece-dropped, piece-last}
use Rattle.salvage.proofs.piece_at.Goals as goal

pub length_at-whole-requires : goal.length_at-whole-requires
length_at-whole-requires c =
    let w = kept_whole c.args.msb c.args.file.now c.args.at (fine-is _ (sym c.is_kept.ensures ∙ c.if-is_kept.true)) in
    omega (arith, w.long, w.fits)

pub overflow_add-result : goal.overflow_add-result
overflow_add-result c =
    let w = kept_whole c.args.msb c.args.file.now c.args.at (fine-is _ (sym c.is_kept.ensures ∙ c.if-is_kept.true)) in
    omega (arith, w.fits, c.length_at-whole.ensures)

pub returns-then-is_kept : goal.returns-then-is_kept
returns-then-is_kept c = piece-kept _ _ _ (fine-is _ (sym c.is_kept.ensures ∙ c.if-is_kept.true)) _ c.length_at-whole.ensures

pub returns-then-end-at-gt-STRIDE : goal.returns-then-end-at-gt-STRIDE
returns-then-end-at-gt-STRIDE c = piece-dropped _ _ _ (sym c.is_kept.ensures ∙ c.if-is_kept.false) c.if-end-at-gt-STRIDE.true

pub returns : goal.returns
returns c = piece-last _ _ _ (sym c.is_kept.ensures ∙ c.if-is_kept.false) c.if-end-at-gt-STRIDE.false
