-- `settings::settings` meets its contract: the check's refusals, the room for what is counted, then what is filled. Assumes nothing.
use Rattle.std.proofs.Common.{ℕ, length, arith, sym, ap, ◌∙◌}
use Prim.Native.Nat.{min}
use Rattle.std.proofs.lemmas.Result.{err_from_is_err_and}
use Rattle.layout.specs.Views.{as_answer}
use Rattle.settings.proofs.Counted.{linked-rows}
use Rattle.settings.proofs.Answers.{told-refused, short-room, roomy, told-all}
use Rattle.settings.proofs.settings.Goals as goal

pub returns-in_err-counts : goal.returns-in_err-counts
returns-in_err-counts c =
    let p = err_from_is_err_and c.from_residual.result c.from_residual.ensures.1 in
    rw (p.1, p.2) (told-refused _ _ _ _ _ _ (sym c.check.ensures.is ∙ ap as_answer c.in_err-counts.was))

pub count_pings-n-requires : goal.count_pings-n-requires
count_pings-n-requires c = record { counts = _; answer = sym c.check.ensures.is ∙ ap as_answer c.in_ok-counts.was }

pub returns-then-room-n : goal.returns-then-room-n
returns-then-room-n c =
    let least = c.min-room.ensures ∙ ap (λ (k : ℕ). min k (length c.args.attitudes.now)) c.min.ensures in
    rw c.refuse.ensures
    (short-room _ _ _ _ _ _ (sym c.check.ensures.is ∙ ap as_answer c.in_ok-counts.was) (c.count_pings-n.ensures ∙ linked-rows _) least
    c.if-room-n.true)

pub fill-requires : goal.fill-requires
fill-requires c =
    let a = c.args in
    let least = c.min-room.ensures ∙ ap (λ (k : ℕ). min k (length c.args.attitudes.now)) c.min.ensures in
    roomy a.file.now a.pings.now a.thresholds.now a.attitudes.now _ _ (sym c.check.ensures.is ∙ ap as_answer c.in_ok-counts.was)
    (c.count_pings-n.ensures ∙ linked-rows _) (omega (arith, least)) (omega (arith, least)) (omega (arith, least))

pub returns : goal.returns
returns c =
    let e = c.fill.ensures in
    let least = c.min-room.ensures ∙ ap (λ (k : ℕ). min k (length c.args.attitudes.now)) c.min.ensures in
    told-all _ _ _ _ _ _ (sym c.check.ensures.is ∙ ap as_answer c.in_ok-counts.was) (c.count_pings-n.ensures ∙ linked-rows _)
    (omega (arith, least)) (omega (arith, least)) (omega (arith, least)) _ _ _ e.pings_after e.thresholds_after e.attitudes_after
