-- `edits::remove` meets its contract: the check's refusals, 3 where no tuple starts, then the result's. Assumes nothing.
use Rattle.std.proofs.Common.{ℕ, ◌<◌, length, refl, sym, ap, ◌∙◌, arith}
use mathlib.Core.Path.{subst}
use Rattle.std.proofs.lemmas.Result.{err_from_is_err_and}
use Rattle.order.proofs.Laws.{bytes_of_lem}
use Rattle.layout.specs.Views.{as_answer}
use Rattle.edits.specs.inner.Places.{Sought}
use Rattle.edits.proofs.Places.{sought-end, sought-none, sought-some}
use Rattle.edits.proofs.Calls.{removed-refused, removed-none, removed-given}
use Rattle.edits.proofs.remove.Goals as goal

pub returns-in_err-counts : goal.returns-in_err-counts
returns-in_err-counts c =
    let p = err_from_is_err_and c.from_residual.result c.from_residual.ensures.1 in
    rw (p.1, p.2)
    (removed-refused c.args.file.now c.args.out.now c.args.place _ _ (sym c.check.ensures.is ∙ ap as_answer c.in_err-counts.was))

pub find_place-requires : goal.find_place-requires
find_place-requires c = record { counts = c.in_ok-counts.counts; answer = sym c.check.ensures.is ∙ ap as_answer c.in_ok-counts.was }

pub returns-then-find_place-place : goal.returns-then-find_place-place
returns-then-find_place-place c =
    let a = c.args in
    let b = bytes_of_lem a.file.now (λ i. (c.type_inv.file i).fits) in
    let e = sym c.check.ensures.is ∙ ap as_answer c.in_ok-counts.was in
    rw (ap as_answer c.refuse.ensures)
    (removed-none a.file.now a.out.now a.place _ e
    (sought-none a.file.now b _ e a.place _ c.find_place.ensures c.if-find_place-place.true))

-- the place is between tuples, and behind them all
pub returns-then-place-file : goal.returns-then-place-file
returns-then-place-file c =
    let a = c.args in
    let b = bytes_of_lem a.file.now (λ i. (c.type_inv.file i).fits) in
    let e = sym c.check.ensures.is ∙ ap as_answer c.in_ok-counts.was in
    let h = subst (λ (at : ℕ). Sought a.file.now a.place at) c.if-find_place-place.false c.find_place.ensures in
    rw (ap as_answer c.refuse-then-place-file.ensures)
    (removed-none a.file.now a.out.now a.place _ e (sought-end a.file.now b _ e a.place _ h (omega (arith, c.if-place-file.true))))

-- and before the file's end
pub cut_out-requires : goal.cut_out-requires
cut_out-requires c =
    let a = c.args in
    let h = subst (λ (at : ℕ). Sought a.file.now a.place at) c.if-find_place-place.false c.find_place.ensures in
    record { taken = sym c.check.ensures.is ∙ ap as_answer c.in_ok-counts.was; sought = h; at_in_bounds = omega (arith, h.within, c.if-place-file.false) }

pub returns : goal.returns
returns c =
    let a = c.args in
    let b = bytes_of_lem a.file.now (λ i. (c.type_inv.file i).fits) in
    let e = sym c.check.ensures.is ∙ ap as_answer c.in_ok-counts.was in
    let h = subst (λ (at : ℕ). Sought a.file.now a.place at) c.if-find_place-place.false c.find_place.ensures in
    let low : a.place < length a.file.now = omega (arith, h.within, c.if-place-file.false) in
    removed-given a.file.now a.out.now a.place _ e _ (sought-some a.file.now b _ e a.place a.place h low refl) _ _ c.cut_out.ensures
