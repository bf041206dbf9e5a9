-- `edits::copy_kept` meets its contract: the tuples to come, copied behind those copied, are the whole. Assumes nothing.
use Rattle.std.proofs.Common.{ℕ, ap, ap₂, ◌∙◌, length, arith}
use Rattle.order.proofs.Laws.{bytes_of_lem}
use Rattle.edits.specs.inner.Parts.{kept_length}
use Rattle.edits.proofs.Keeping.{copying_room, copying_again, copying_end}
use Rattle.edits.proofs.Onward.{judged-front, judged-whole, judged-code, judged-next, judged-part, judged-msb, judged-none}
use Rattle.edits.proofs.copy_kept.Goals as goal

pub copy-requires-clause-w_in_bounds_2 : goal.copy-requires-clause-w_in_bounds_2
copy-requires-clause-w_in_bounds_2 c =
    let i = c.loop-tuple.invariant in
    let p = c.in-Some.ensures.steps in
    let front = judged-front _ _ _ i.2 i.3 p (bytes_of_lem _ (λ n. (c.type_inv.part n).fits)) in
    let kept = c.kept_length-kept.ensures ∙ ap₂ kept_length (judged-code _ _ _ i.2 i.3 p) (judged-whole _ _ _ i.2 i.3 p) in
    omega (arith, copying_room i.4 front, kept, i.4.long, c.requires)

pub loop-tuple-preserved : goal.loop-tuple-preserved
loop-tuple-preserved c =
    let i = c.loop-tuple.invariant in
    let p = c.in-Some.ensures.steps in
    let front = judged-front _ _ _ i.2 i.3 p (bytes_of_lem _ (λ n. (c.type_inv.part n).fits)) in
    let w = judged-whole _ _ _ i.2 i.3 p in
    let next = judged-next _ _ _ i.2 i.3 p in
    let kept = c.kept_length-kept.ensures ∙ ap (λ (k : ℕ). kept_length k c.in-Some.tuple.whole) (judged-code _ _ _ i.2 i.3 p) in
    let again = copying_again i.4 front _ _ _ w kept (rw p.at at c.copy.ensures) in (
      omega (arith, next, ap length (judged-part _ _ _ i.2 i.3 p), again.within),
      tt,
      judged-part _ _ _ i.2 i.3 p,
      judged-msb _ _ _ i.2 i.3 p,
      rw next again,
    )

pub returns : goal.returns
returns c =
    let i = c.loop-tuple.invariant in
    let r = copying_end i.4 (judged-none c.loop-tuple.tuple-iterator _ _ i.2 i.3 c.in-None.ensures.steps) in
    record { value = r.0; out_after = r.1 }
