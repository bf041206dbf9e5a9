-- `samples16::look` meets its contract. Assumes nothing.
use Rattle.std.proofs.Common.{◌≡◌, ◌*◌, ◌/◌, ◌∙◌, sym, ap, refl, ◌||◌, ℕ, List, [], map, take, drop, get_or, length, arith}
use Rattle.std.specs.Simd.{first_chunks}
use Rattle.std.proofs.lemmas.List.{length-take}
use Rattle.order.specs.Order.{num_of}
use Rattle.samples.specs.inner.Narrow.{words_by}
use Rattle.samples.specs.Runs.{values, first_bad}
use Rattle.samples.specs.Judging.{any_bad}
use Rattle.samples.proofs.Blocks.{values_append, bad_append}
use Rattle.samples.proofs.Chunks.{chunk-at, all_chunked}
use Rattle.samples16.proofs.Laws.{one_block, all_blocks}
use Rattle.samples16.proofs.look.Goals as goal

pub loop-block-init : goal.loop-block-init
unfolding values first_bad
loop-block-init c = record { few = omega arith; counted = refl; seen = refl }

pub loop-block-preserved : goal.loop-block-preserved
loop-block-preserved c =
    let a = c.args in
    let l = c.loop-block in
    let i = l.block-index in
    let f = words_by a.encoded in
    let read = map (num_of a.msb) in
    let cs = first_chunks 2 (length a.part.now / 2) a.part.now in
    let words = c.as_chunks.result.0.now in
    let blocks = c.as_chunks-2 in
    let block : get_or blocks.result.0.now i [] ≡ take 16384 (drop (16384 * i) cs) =
    ap (λ (bs : List (List (List ℕ))). get_or bs i []) blocks.ensures.front
    ∙ chunk-at 16384 (length words / 16384) i words [] (omega (arith, c.loop-block-test.true, blocks.ensures.front_len))
    ∙ ap (λ (ws : List (List ℕ)). take 16384 (drop (16384 * i) ws)) c.as_chunks.ensures.front in
    let next = one_block a.msb 16384 i cs in
    let seen = c.see-seen in
    let n = seen.ensures.values_value ∙ ap (λ (ws : List (List ℕ)). values 256 (read ws)) block in
    let b = seen.ensures.bad_value ∙ ap (λ (ws : List (List ℕ)). any_bad f (read ws)) block in
    record {
      few = omega (arith, l.invariant.few, seen.ensures.values_in_bounds, ap length block, length-take 16384 (drop (16384 * i) cs));
      counted = omega (arith, l.invariant.counted, n, ap (values 256) next, values_append 256 (read (take (16384 * i) cs)) (read (take 16384 (drop (16384 * i) cs))));
      seen = (λ j. l.invariant.seen j || b j)
          ∙ sym (ap (any_bad f) next ∙ bad_append f (read (take (16384 * i) cs)) (read (take 16384 (drop (16384 * i) cs))));
    }

pub returns-clause-values_value : goal.returns-clause-values_value
returns-clause-values_value c =
    let a = c.args in
    let i = c.loop-block.block-index in
    let read = map (num_of a.msb) in
    let cs = first_chunks 2 (length a.part.now / 2) a.part.now in
    let words = c.as_chunks.result.0.now in
    let blocks = c.as_chunks-2 in
    let at : length words / 16384 * 16384 ≡ 16384 * i =
    omega (arith, c.loop-block-test.false, c.loop-block.auto.block-index-end, blocks.ensures.front_len) in
    let rest = blocks.ensures.back ∙ ap (λ (m : ℕ). drop m words) at ∙ ap (drop (16384 * i)) c.as_chunks.ensures.front in
    let last = c.see-last.ensures.values_value ∙ ap (λ (ws : List (List ℕ)). values 256 (read ws)) rest in
    let all = ap (values 256) (all_chunked 2 a.msb a.part.now ∙ all_blocks a.msb 16384 i cs)
    ∙ values_append 256 (read (take (16384 * i) cs)) (read (drop (16384 * i) cs)) in
    omega (arith, all, last, c.loop-block.invariant.counted)

pub returns-clause-bad_value : goal.returns-clause-bad_value
returns-clause-bad_value c =
    let a = c.args in
    let i = c.loop-block.block-index in
    let f = words_by a.encoded in
    let read = map (num_of a.msb) in
    let cs = first_chunks 2 (length a.part.now / 2) a.part.now in
    let words = c.as_chunks.result.0.now in
    let blocks = c.as_chunks-2 in
    let at : length words / 16384 * 16384 ≡ 16384 * i =
    omega (arith, c.loop-block-test.false, c.loop-block.auto.block-index-end, blocks.ensures.front_len) in
    let rest = blocks.ensures.back ∙ ap (λ (m : ℕ). drop m words) at ∙ ap (drop (16384 * i)) c.as_chunks.ensures.front in
    let last = c.see-last.ensures.bad_value ∙ ap (λ (ws : List (List ℕ)). any_bad f (read ws)) rest in
    let all = ap (any_bad f) (all_chunked 2 a.msb a.part.now ∙ all_blocks a.msb 16384 i cs)
    ∙ bad_append f (read (take (16384 * i) cs)) (read (drop (16384 * i) cs)) in
    (λ j. c.loop-block.invariant.seen j || last j) ∙ sym all
