-- `edits::stretch_end` meets its contract: kept tuples up to the next that isn't (`Stretching`). Assumes nothing.
use Rattle.std.proofs.Common.{sym, ap, ap₂, ◌∙◌, Bool, not, ◌&&◌, length, drop, arith}
use Rattle.order.proofs.Laws.{bytes_of_lem}
use Rattle.layout.specs.Types
use Rattle.layout.specs.Types.{in_class}
use Rattle.frame.specs.Frames.{kind_at}
use Rattle.edits.proofs.Onward.{judged-stands, judged-whole, judged-code, judged-next, judged-part, judged-msb, judged-none}
use Rattle.edits.proofs.Stretches.{stretching_begin, stretching_again, stretch_dropped, stretch_open}
use Rattle.edits.proofs.stretch_end.Goals as goal

pub loop-tuple-init : goal.loop-tuple-init
loop-tuple-init c =
    let i = c.into_iter-tuple-iterator.ensures.into_iter_gives in
    let b = c.tuples_from-tuple-items.ensures in
    let low = c.requires.from_in_bounds in
    rw i (omega (arith, b.from.1, low, ap length b.from.0), tt, b.from.0, b.order, rw b.from.1 (stretching_begin _ _ _ (omega (arith, low))))

pub returns-then-in_class : goal.returns-then-in_class
returns-then-in_class c =
    let i = c.loop-tuple.invariant in
    let p = c.in-Some.ensures.steps in
    let code = sym (c.in_class.ensures ∙ ap (in_class Types.index) (judged-code _ _ _ i.2 i.3 p)) ∙ c.if-in_class.true in
    let stands = judged-stands _ _ _ i.2 i.3 p in
    rw p.at (stretch_dropped i.4 c.requires.from_in_bounds c.requires.part_value (ap₂ (λ (a b : Bool). a && not b) stands code) stands)

pub loop-tuple-preserved : goal.loop-tuple-preserved
loop-tuple-preserved c =
    let i = c.loop-tuple.invariant in
    let p = c.in-Some.ensures.steps in
    let bytes = bytes_of_lem c.args.part.now (λ n. (c.type_inv.part n).fits) in
    let code = sym (c.in_class.ensures ∙ ap (in_class Types.index) (judged-code _ _ _ i.2 i.3 p)) ∙ c.if-in_class.false in
    let next = judged-next _ _ _ i.2 i.3 p in
    let kept = ap₂ (λ (a b : Bool). a && not b) (judged-stands _ _ _ i.2 i.3 p) code in
    let again = stretching_again i.4 bytes kept _ (judged-whole _ _ _ i.2 i.3 p) in (
      omega (arith, next, ap length (judged-part _ _ _ i.2 i.3 p), again.within),
      tt,
      judged-part _ _ _ i.2 i.3 p,
      judged-msb _ _ _ i.2 i.3 p,
      rw next again,
    )

pub returns : goal.returns
returns c =
    let i = c.loop-tuple.invariant in
    let s = c.loop-tuple.tuple-iterator in
    let o = c.args.msb in
    let none = judged-none s _ _ i.2 i.3 c.in-None.ensures.steps in
    let unkept = ap (λ (a : Bool). a && not (in_class Types.index (kind_at o (drop s.at c.args.part.now)))) none in
    stretch_open i.4 c.requires.from_in_bounds c.requires.part_value unkept none
