-- `edits::find_end` meets its contract: with the tuples to come before the end of file, the place is theirs. Assumes nothing.
use Rattle.std.proofs.Common.{sym, ap, ◌∙◌, length, arith}
use Rattle.order.proofs.Laws.{bytes_of_lem}
use Rattle.edits.proofs.Keeping.{seeking_found, seeking_again, seeking_end}
use Rattle.edits.proofs.Onward.{judged-front, judged-whole, judged-code, judged-next, judged-part, judged-msb, judged-none}
use Rattle.edits.proofs.find_end.Goals as goal

pub returns-then-tuple : goal.returns-then-tuple
returns-then-tuple c =
    let i = c.loop-tuple.invariant in
    let p = c.in-Some.ensures.steps in
    let front = judged-front _ _ _ i.2 i.3 p (bytes_of_lem _ (λ n. (c.type_inv.part n).fits)) in
    p.at ∙ seeking_found i.4 front (sym (judged-code _ _ _ i.2 i.3 p) ∙ c.if-tuple.true)

pub loop-tuple-preserved : goal.loop-tuple-preserved
loop-tuple-preserved c =
    let i = c.loop-tuple.invariant in
    let p = c.in-Some.ensures.steps in
    let front = judged-front _ _ _ i.2 i.3 p (bytes_of_lem _ (λ n. (c.type_inv.part n).fits)) in
    let next = judged-next _ _ _ i.2 i.3 p in
    let again = seeking_again i.4 front (λ e. c.if-tuple.false (judged-code _ _ _ i.2 i.3 p ∙ e)) _ (judged-whole _ _ _ i.2 i.3 p) in (
      omega (arith, next, ap length (judged-part _ _ _ i.2 i.3 p), again.within),
      tt,
      judged-part _ _ _ i.2 i.3 p,
      judged-msb _ _ _ i.2 i.3 p,
      rw next again,
      omega (arith, next, p.at),
    )

pub returns : goal.returns
returns c =
    let i = c.loop-tuple.invariant in
    i.5 ∙ seeking_end i.4 (judged-none c.loop-tuple.tuple-iterator _ _ i.2 i.3 c.in-None.ensures.steps)
