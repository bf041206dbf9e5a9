-- `edits::survey` meets its contract: what is found and the tuples to come are the whole. Assumes nothing.
use Rattle.std.proofs.Common.{ℕ, ap, ◌∙◌, length, arith}
use Rattle.order.proofs.Laws.{bytes_of_lem}
use Rattle.index.specs.inner.Flags.{flag_outside}
use Rattle.edits.specs.inner.Parts.{kept_length}
use Rattle.edits.proofs.Keeping.{surveying_again, surveying_end}
use Rattle.edits.proofs.Onward.{judged-front, judged-whole, judged-code, judged-next, judged-part, judged-msb, judged-none}
use Rattle.edits.proofs.survey.Goals as goal

pub loop-tuple-preserved : goal.loop-tuple-preserved
loop-tuple-preserved c =
    let i = c.loop-tuple.invariant in
    let p = c.in-Some.ensures.steps in
    let front = judged-front _ _ _ i.2 i.3 p (bytes_of_lem _ (λ n. (c.type_inv.part n).fits)) in
    let code = judged-code _ _ _ i.2 i.3 p in
    let next = judged-next _ _ _ i.2 i.3 p in
    let again = surveying_again i.4 front _ _ _ (judged-whole _ _ _ i.2 i.3 p)
    (c.kept_length-kept.ensures ∙ ap (λ (k : ℕ). kept_length k c.in-Some.tuple.whole) code)
    (c.flag_type.ensures ∙ ap (flag_outside c.loop-tuple.flags) code) in (
      omega (arith, next, ap length (judged-part _ _ _ i.2 i.3 p), again.within),
      tt,
      judged-part _ _ _ i.2 i.3 p,
      judged-msb _ _ _ i.2 i.3 p,
      rw next again,
      omega (arith, next, p.at),
    )

pub returns : goal.returns
returns c =
    let i = c.loop-tuple.invariant in
    rw i.5 (surveying_end i.4 (judged-none c.loop-tuple.tuple-iterator _ _ i.2 i.3 c.in-None.ensures.steps))
