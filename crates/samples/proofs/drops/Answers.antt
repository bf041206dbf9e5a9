-- `samples::drops` meets its contract. Assumes nothing.
use Rattle.std.proofs.Common.{◌≡◌, ◌+◌, ◌*◌, ◌/◌, ◌<◌, ◌∙◌, sym, ap, refl, length, List, ℕ, [], ◌∷◌, get_or, take, arith, lit<}
use Rattle.std.specs.Simd.{first_chunks}
use Rattle.order.specs.Order.{num_of}
use Rattle.layout.specs.Families.{wide}
use Rattle.samples.specs.Judging.{first_drop}
use Rattle.samples.specs.Words.{sample_of}
use Rattle.samples.proofs.Judging.{any_drop}
use Rattle.samples.proofs.Chunks.{samples_none, samples_first, drop_start, drop_next, four_next, in-turn}
use Rattle.samples.proofs.drops.Goals as goal

pub returns-in_default : goal.returns-in_default
unfolding first_drop
returns-in_default c =
    let a = c.args in
    let pairs = c.as_chunks.result.0.now in
    let none = samples_none (sample_of wide a.msb) pairs 0 (omega (arith, c.in_default.ensures.cases)) in
    ap (any_drop 0) (sym none ∙ samples_first wide a.msb a.part.now pairs c.as_chunks.ensures.front)

pub loop-four-init : goal.loop-four-init
loop-four-init c =
    let a = c.args in
    let cs = first_chunks 8 (length a.part.now / 8) a.part.now in
    let whole : cs ≡ c.in-Some.start.now ∷ c.in-Some.rest.now = sym c.as_chunks.ensures.front ∙ c.in-Some.ensures.cases.0 in
    let number = c.number_in-last.ensures ∙ ap (λ (l : List (List ℕ)). num_of a.msb (take 4 (get_or l 0 []))) (sym whole) in
    drop_start (sample_of wide a.msb) cs 0 (omega (arith, ap length whole)) _ number ∙ ap (any_drop 0) (samples_first wide a.msb a.part.now cs refl)

pub loop-four-preserved : goal.loop-four-preserved
loop-four-preserved c =
    let a = c.args in
    let l = c.loop-four in
    let i = l.four-index in
    let fours = c.as_chunks-2 in
    let rest = c.in-Some.rest.now in
    let cs = first_chunks 8 (length a.part.now / 8) a.part.now in
    let whole : cs ≡ c.in-Some.start.now ∷ rest = sym c.as_chunks.ensures.front ∙ c.in-Some.ensures.cases.0 in
    let turn : i < length rest / 4 = omega (arith, c.loop-four-test.true, fours.ensures.front_len) in
    let at : (j m : ℕ) → j < 4 → m ≡ 1 + 4 * i + j
    → num_of a.msb (take 4 (get_or (get_or fours.result.0.now i []) j [])) ≡ num_of a.msb (take 4 (get_or cs m [])) =
    λ j m h e. ap (λ (f : List (List (List ℕ))). num_of a.msb (take 4 (get_or (get_or f i []) j []))) fours.ensures.front
    ∙ ap (λ (w : List ℕ). num_of a.msb (take 4 w)) (in-turn 4 i j cs c.in-Some.start.now [] rest whole turn h m e) in
    let p = 1 + 4 * i in
    let behind : 1 + 4 * (i + 1) ≡ p + 1 + 1 + 1 + 1 = omega arith in
    rw behind
    (four_next (sample_of wide a.msb) cs p (omega (arith, turn, ap length whole)) _ _ _ _
    (c.number_in-first.ensures ∙ at 0 p (lit< tt) (omega arith))
    (c.number_in-second.ensures ∙ at 1 (p + 1) (lit< tt) (omega arith))
    (c.number_in-third.ensures ∙ at 2 (p + 1 + 1) (lit< tt) (omega arith))
    (c.number_in-fourth.ensures ∙ at 3 (p + 1 + 1 + 1) (lit< tt) (omega arith))
    l.bad l.last
    ∙ l.invariant)

pub loop-pair-preserved : goal.loop-pair-preserved
loop-pair-preserved c =
    let l = c.loop-pair in
    drop_next (sample_of wide c.args.msb) c.as_chunks-2.result.1.now l.pair-index c.loop-pair-test.true _ c.number_in-next.ensures l.bad l.last
    ∙ l.invariant
