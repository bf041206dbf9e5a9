-- `intake::judge` meets its contract: the verdicts of the parts, one behind the other. Assumes nothing.
use Rattle.std.proofs.Common.{◌≡◌, refl, sym, ap, ◌∙◌, ◌≤◌, ℕ, Bool, List, length, drop, arith}
use Rattle.std.proofs.lemmas.Result.{err_from_is_err_and}
use lib.Dec.{eqb}
use borrow.Author.Tests.{not-true}
use Rattle.layout.specs.Verdict.{Verdict, Fine, Fault}
use Rattle.layout.specs.Code.{number}
use Rattle.layout.specs.Views.{as_verdict}
use Rattle.layout.specs.Answers.{both}
use Rattle.frame.specs.Frames.{framing, tup_at}
use Rattle.links.specs.declared.Sounder.{Sounder}
use Rattle.links.specs.declared.Channel.{Channel}
use Rattle.links.specs.inner.LinkVerdict.{Faulty}
use Rattle.links.specs.inner.Tables.{comparing}
use Rattle.frame.proofs.Places.{framing-whole}
use Rattle.intake.specs.declared.Tally.{Tally}
use Rattle.intake.specs.inner.Tallies.{Tables, tables, sounders_by, channels_by, Here, head_verdict, turn_verdict, turn_told}
use Rattle.intake.proofs.Judges.{room, head-fits, no_inner, from_links, from_head, from_frame, none_left, some_left, told-stop}
use Rattle.intake.proofs.Judges.{told_unlinked, told-linked, told-alone}
use Rattle.intake.proofs.judge.Goals as goal

-- what is said of the bytes that are left, once a part of the rules found nothing
module _ (o : Bool) (part : List ℕ) (from : ℕ) (w : Tally) (t : Tables) where
  abbrev saying : (Bool → Bool → List Sounder → List Channel → List ℕ → Verdict) → Verdict
  saying by = by o (eqb w.count 0) (sounders_by w t) (channels_by w t) (drop from part)

  past_end : from ≤ length part → (length part ≡ from → ⊥) → saying from_frame ≡ saying turn_verdict
  past_end low e = some_left _ _ _ _ _ _ low e

  module _ (left : saying from_frame ≡ saying turn_verdict) (framed : Fine ≡ framing o (drop from part)) where
    past_frame : saying from_head ≡ saying turn_verdict
    past_frame = ap (λ (v : Verdict). both v (saying from_head)) framed ∙ left

    past_head : Fine ≡ head_verdict o (eqb w.count 0) (tup_at o (drop from part)) → saying from_links ≡ saying turn_verdict
    past_head e = ap (λ (v : Verdict). both v (saying from_links)) e ∙ past_frame

  -- a part's fault is told
  stops : {a b : ℕ} {v : Verdict} (u : Verdict) → Fault a b ≡ v → both v u ≡ saying turn_verdict → Faulty a b ≡ turn_told o (drop from part) w t
  stops {a} {b} u e left = told-stop o (drop from part) w t (Fault a b) u refl (ap (λ (v : Verdict). both v u) e ∙ left)

pub returns-then-part-from : goal.returns-then-part-from
returns-then-part-from c =
    let a = c.args in
    rw c.fault.ensures (told-stop _ _ _ _ (Fault 4 0) Fine refl (none_left _ _ _ _ _ _ c.if-part-from.true))

pub returns-in_err-judge_frame : goal.returns-in_err-judge_frame
returns-in_err-judge_frame c =
    let a = c.args in
    let t = tables a.sounders.now a.channels.now in
    let p = err_from_is_err_and c.from_residual.result c.from_residual.ensures.1 in
    rw (p.1, p.2) (stops a.msb a.part.now a.from a.w t (saying a.msb a.part.now a.from a.w t from_head) c.in_err-judge_frame.ensures
    (past_end a.msb a.part.now a.from a.w t c.requires.from_in_bounds c.if-part-from.false))

pub length_at-whole-requires : goal.length_at-whole-requires
length_at-whole-requires c =
    let a = c.args in
    let h = framing-whole a.msb a.part.now a.from (sym c.in_ok-judge_frame.ensures) in
    omega (arith, h.long, h.fits)

pub kind_at-code-requires : goal.kind_at-code-requires
kind_at-code-requires c =
    let a = c.args in
    let h = framing-whole a.msb a.part.now a.from (sym c.in_ok-judge_frame.ensures) in
    omega (arith, h.long, h.fits)

pub returns-in_err-judge_head : goal.returns-in_err-judge_head
returns-in_err-judge_head c =
    let a = c.args in
    let t = tables a.sounders.now a.channels.now in
    let p = err_from_is_err_and c.from_residual-in_err-judge_head.result c.from_residual-in_err-judge_head.ensures.1 in
    rw (p.1, p.2) (stops a.msb a.part.now a.from a.w t (saying a.msb a.part.now a.from a.w t from_links) c.in_err-judge_head.ensures
    (past_frame a.msb a.part.now a.from a.w t (past_end a.msb a.part.now a.from a.w t c.requires.from_in_bounds c.if-part-from.false)
    c.in_ok-judge_frame.ensures))

pub judge_links-requires-clause-fits : goal.judge_links-requires-clause-fits
judge_links-requires-clause-fits c =
    let a = c.args in
    let here : Here a.msb a.part.now a.from c.length_at-whole.result c.kind_at-code.result
    = record { framed = sym c.in_ok-judge_frame.ensures; size = sym c.length_at-whole.ensures; kind = sym c.kind_at-code.ensures } in
    head-fits here _ c.judge_head.ensures (ap as_verdict c.in_ok-judge_head.was)

pub returns-in_err-compared : goal.returns-in_err-compared
returns-in_err-compared c =
    let a = c.args in
    let t = tables a.sounders.now a.channels.now in
    let p = err_from_is_err_and c.from_residual-in_err-compared.result c.from_residual-in_err-compared.ensures.1 in
    rw (p.1, p.2) (told_unlinked a.msb (drop a.from a.part.now) a.w t c.in_err-compared.ensures
    (past_head a.msb a.part.now a.from a.w t (past_end a.msb a.part.now a.from a.w t c.requires.from_in_bounds c.if-part-from.false)
    c.in_ok-judge_frame.ensures c.in_ok-judge_head.ensures) refl)

pub judge_inner-requires-clause-fits : goal.judge_inner-requires-clause-fits
judge_inner-requires-clause-fits c =
    let a = c.args in
    let here : Here a.msb a.part.now a.from c.length_at-whole.result c.kind_at-code.result
    = record { framed = sym c.in_ok-judge_frame.ensures; size = sym c.length_at-whole.ensures; kind = sym c.kind_at-code.ensures } in
    head-fits here _ c.judge_head.ensures (ap as_verdict c.in_ok-judge_head.was)

pub returns-in_err-judge_inner : goal.returns-in_err-judge_inner
returns-in_err-judge_inner c =
    let a = c.args in
    let t = tables a.sounders.now a.channels.now in
    let p = err_from_is_err_and c.from_residual-in_err-judge_inner.result c.from_residual-in_err-judge_inner.ensures.1 in
    rw (p.1, p.2) (ap (λ (v : Verdict). comparing v c.in_ok-compared.compared) c.in_err-judge_inner.ensures
    ∙ told-linked a.msb (drop a.from a.part.now) a.w t c.in_ok-compared.ensures
    (past_head a.msb a.part.now a.from a.w t (past_end a.msb a.part.now a.from a.w t c.requires.from_in_bounds c.if-part-from.false)
    c.in_ok-judge_frame.ensures c.in_ok-judge_head.ensures) refl)

pub returns-in_ok-judge_inner : goal.returns-in_ok-judge_inner
returns-in_ok-judge_inner c =
    let a = c.args in
    let t = tables a.sounders.now a.channels.now in
    told-alone a.msb (drop a.from a.part.now) a.w t c.in_ok-compared.ensures
    (past_head a.msb a.part.now a.from a.w t (past_end a.msb a.part.now a.from a.w t c.requires.from_in_bounds c.if-part-from.false)
    c.in_ok-judge_frame.ensures c.in_ok-judge_head.ensures) refl (sym c.in_ok-judge_inner.ensures)

pub returns-else-is_ping : goal.returns-else-is_ping
returns-else-is_ping c =
    let a = c.args in
    let t = tables a.sounders.now a.channels.now in
    let here : Here a.msb a.part.now a.from c.length_at-whole.result c.kind_at-code.result
    = record { framed = sym c.in_ok-judge_frame.ensures; size = sym c.length_at-whole.ensures; kind = sym c.kind_at-code.ensures } in
    told-alone a.msb (drop a.from a.part.now) a.w t c.in_ok-compared.ensures
    (past_head a.msb a.part.now a.from a.w t (past_end a.msb a.part.now a.from a.w t c.requires.from_in_bounds c.if-part-from.false)
    c.in_ok-judge_frame.ensures c.in_ok-judge_head.ensures) refl (no_inner here (sym c.is_ping.ensures ∙ c.if-is_ping.false))
