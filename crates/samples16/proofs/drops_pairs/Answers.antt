-- `samples16::drops_pairs` meets its contract. Assumes nothing.
use Rattle.std.proofs.Common.{◌≡◌, ◌+◌, ◌/◌, ◌∙◌, sym, ap, refl, length, List, ℕ, [], ◌∷◌, false, get_or, take, arith}
use Rattle.std.specs.Simd.{first_chunks}
use Rattle.order.specs.Order.{num_of}
use Rattle.samples.specs.Judging.{first_drop}
use Rattle.samples.proofs.Judging.{any_drop}
use Rattle.samples.proofs.Chunks.{samples_none, drop_start, drop_next, behind-first}
use Rattle.samples16.specs.inner.Ranks.{rank_of}
use Rattle.samples16.proofs.Ranks.{ranked, part_ranked}
use Rattle.samples16.proofs.drops_pairs.Goals as goal

pub returns-in_default : goal.returns-in_default
unfolding first_drop
returns-in_default c =
    let a = c.args in
    let pairs = c.as_chunks.result.0.now in
    let none = samples_none (ranked a.msb) pairs 0 (omega (arith, c.in_default.ensures.cases)) in
    ap (any_drop 0) (sym none) ∙ part_ranked false a.msb a.part.now pairs c.as_chunks.ensures.front

pub loop-pair-init : goal.loop-pair-init
loop-pair-init c =
    let a = c.args in
    let cs = first_chunks 4 (length a.part.now / 4) a.part.now in
    let whole : cs ≡ c.in-Some.start.now ∷ c.in-Some.rest.now = sym c.as_chunks.ensures.front ∙ c.in-Some.ensures.cases.0 in
    let number = c.rank-last.ensures ∙ ap (λ (l : List (List ℕ)). rank_of a.msb (num_of a.msb (take 2 (get_or l 0 [])))) (sym whole) in
    drop_start (ranked a.msb) cs 0 (omega (arith, ap length whole)) _ number ∙ part_ranked false a.msb a.part.now cs refl

pub loop-pair-preserved : goal.loop-pair-preserved
loop-pair-preserved c =
    let a = c.args in
    let l = c.loop-pair in
    let i = l.pair-index in
    let rest = c.in-Some.rest.now in
    let cs = first_chunks 4 (length a.part.now / 4) a.part.now in
    let whole : cs ≡ c.in-Some.start.now ∷ rest = sym c.as_chunks.ensures.front ∙ c.in-Some.ensures.cases.0 in
    let number = c.rank-number.ensures
    ∙ ap (λ (w : List ℕ). rank_of a.msb (num_of a.msb (take 2 w))) (behind-first i (1 + i) cs c.in-Some.start.now [] rest whole refl) in
    let next : 1 + (i + 1) ≡ 1 + i + 1 = omega arith in
    rw next (drop_next (ranked a.msb) cs (1 + i) (omega (arith, c.loop-pair-test.true, ap length whole)) _ number l.bad l.last ∙ l.invariant)
