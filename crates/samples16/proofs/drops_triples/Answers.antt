-- `samples16::drops_triples` meets its contract. Assumes nothing.
use Rattle.std.proofs.Common.{◌≡◌, ◌+◌, ◌*◌, ◌/◌, ◌<◌, ◌∙◌, sym, ap, refl, length, List, ℕ, [], ◌∷◌, true, ◌||◌, map, suc, get_or, take, drop, arith, lit<}
use Rattle.std.specs.Simd.{first_chunks}
use Rattle.order.specs.Order.{num_of}
use Rattle.samples.specs.Judging.{first_drop}
use Rattle.samples.proofs.Judging.{any_drop}
use Rattle.samples.proofs.Chunks.{samples_none, drop_start, drop_next, four_next, in-turn}
use Rattle.samples16.specs.inner.Ranks.{rank_of}
use Rattle.samples16.proofs.Ranks.{ranked, part_ranked}
use Rattle.samples16.proofs.drops_triples.Goals as goal

pub returns-in_default : goal.returns-in_default
unfolding first_drop
returns-in_default c =
    let a = c.args in
    let triples = c.as_chunks.result.0.now in
    let none = samples_none (ranked a.msb) triples 0 (omega (arith, c.in_default.ensures.cases)) in
    ap (any_drop 0) (sym none) ∙ part_ranked true a.msb a.part.now triples c.as_chunks.ensures.front

pub loop-four-init : goal.loop-four-init
loop-four-init c =
    let a = c.args in
    let cs = first_chunks 6 (length a.part.now / 6) a.part.now in
    let whole : cs ≡ c.in-Some.start.now ∷ c.in-Some.rest.now = sym c.as_chunks.ensures.front ∙ c.in-Some.ensures.cases.0 in
    let number = c.rank-last.ensures ∙ ap (λ (l : List (List ℕ)). rank_of a.msb (num_of a.msb (take 2 (get_or l 0 [])))) (sym whole) in
    drop_start (ranked a.msb) cs 0 (omega (arith, ap length whole)) _ number ∙ part_ranked true a.msb a.part.now cs refl

pub loop-four-preserved : goal.loop-four-preserved
loop-four-preserved c =
    let a = c.args in
    let l = c.loop-four in
    let i = l.four-index in
    let fours = c.as_chunks-2 in
    let rest = c.in-Some.rest.now in
    let cs = first_chunks 6 (length a.part.now / 6) a.part.now in
    let whole : cs ≡ c.in-Some.start.now ∷ rest = sym c.as_chunks.ensures.front ∙ c.in-Some.ensures.cases.0 in
    let turn : i < length rest / 4 = omega (arith, c.loop-four-test.true, fours.ensures.front_len) in
    let at : (j m : ℕ) → j < 4 → m ≡ 1 + 4 * i + j
    → rank_of a.msb (num_of a.msb (take 2 (get_or (get_or fours.result.0.now i []) j []))) ≡ rank_of a.msb (num_of a.msb (take 2 (get_or cs m []))) =
    λ j m h e. ap (λ (f : List (List (List ℕ))). rank_of a.msb (num_of a.msb (take 2 (get_or (get_or f i []) j [])))) fours.ensures.front
    ∙ ap (λ (w : List ℕ). rank_of a.msb (num_of a.msb (take 2 w))) (in-turn 4 i j cs c.in-Some.start.now [] rest whole turn h m e) in
    let p = 1 + 4 * i in
    let behind : 1 + 4 * (i + 1) ≡ p + 1 + 1 + 1 + 1 = omega arith in
    rw behind
    (four_next (ranked a.msb) cs p (omega (arith, turn, ap length whole)) _ _ _ _
    (c.rank-first.ensures ∙ at 0 p (lit< tt) (omega arith))
    (c.rank-second.ensures ∙ at 1 (p + 1) (lit< tt) (omega arith))
    (c.rank-third.ensures ∙ at 2 (p + 1 + 1) (lit< tt) (omega arith))
    (c.rank-fourth.ensures ∙ at 3 (p + 1 + 1 + 1) (lit< tt) (omega arith))
    l.bad l.last
    ∙ l.invariant)

pub loop-triple-init : goal.loop-triple-init
loop-triple-init c =
    let a = c.args in
    let l = c.loop-four in
    let fours = c.as_chunks-2 in
    let start = c.in-Some.start.now in
    let rest = c.in-Some.rest.now in
    let whole : first_chunks 6 (length a.part.now / 6) a.part.now ≡ start ∷ rest = sym c.as_chunks.ensures.front ∙ c.in-Some.ensures.cases.0 in
    let all : length rest / 4 * 4 ≡ 4 * l.four-index = omega (arith, c.loop-four-test.false, l.auto.four-index-end, fours.ensures.front_len) in
    let next : suc (4 * l.four-index) ≡ 1 + 4 * l.four-index = omega arith in
    let left = fours.ensures.back
    ∙ ap (λ (n : ℕ). drop n rest) all
    ∙ ap (λ (n : ℕ). drop n (start ∷ rest)) next
    ∙ ap (drop (1 + 4 * l.four-index)) (sym whole) in
    ap (λ (cs : List (List ℕ)). l.bad || any_drop (l.last + 1) (map (ranked a.msb) cs)) left ∙ l.invariant

pub loop-triple-preserved : goal.loop-triple-preserved
loop-triple-preserved c =
    let l = c.loop-triple in
    drop_next (ranked c.args.msb) c.as_chunks-2.result.1.now l.triple-index c.loop-triple-test.true _ c.rank-next.ensures l.bad l.last
    ∙ l.invariant
