-- A chunk's sample is the first that is left.
use Rattle.std.proofs.Common.{◌≡◌, ◌∙◌, refl, sym, ap, List, ◌+◌, ◌*◌, ◌∷◌, false, length, length-append, arith}
use Rattle.std.proofs.lemmas.List.Edits.{sets}
use Rattle.std.specs.Slice.Iter.{chunks_exact_rest}
use Rattle.order.specs.Order.{num_of}
use Rattle.layout.specs.Families.{wide_angles}
use Rattle.samples.specs.Words.{Sample, sample_of, all_samples, unsampled}
use Rattle.spelling16.proofs.Laws.{angles-at, angles-stored, samples-first, samples-none, within-chunk}
use Rattle.spelling16.proofs.lsb.turn_angles.Goals as goal

pub loop-sample-preserved : goal.loop-sample-preserved
loop-sample-preserved c =
    let l = c.loop-sample in
    let i = l.invariant in
    let s = c.in-Some.ensures.steps in
    let x = c.in-Some.sample.now in
    let left = chunks_exact_rest c.next.new.self in
    let all = chunks_exact_rest l.sample-iterator in
    let o = c.args.msb in
    let n = c.read4.result in
    let a = c.read2.result in
    let b = c.read2-in-loop-sample.result in
    let first = samples-first wide_angles o x left s.1.0 (s.1.1 ∙ i.size) in
    let long : length x ≡ 8 = s.1.1 ∙ i.size in
    let at : (n, a + 65536 * b) ≡ sample_of wide_angles o all =
    angles-at wide_angles refl o all 0 4 6 n a b refl refl (c.read4.ensures ∙ ap (num_of o) (within-chunk x left 0 4 s.1.0 (omega arith)))
    (c.read2.ensures ∙ ap (num_of o) (within-chunk x left 4 2 s.1.0 (omega arith)))
    (c.read2-in-loop-sample.ensures ∙ ap (num_of o) (within-chunk x left 6 2 s.1.0 (omega arith))) in
    record {
      size = s.0 ∙ i.size;
      long = omega arith;
      ends = omega (arith, ap length s.1.0, length-append x left);
      rest =
          angles-stored wide_angles refl false l.out _ _ _ l.at _ _ n a b (omega arith) (omega arith) (omega arith) (omega arith)
          c.store4.ensures c.store2.ensures c.store2-in-loop-sample.ensures (all_samples wide_angles o left)
          ∙ ap (λ (y : Sample). sets l.out l.at (unsampled wide_angles false (y ∷ all_samples wide_angles o left))) at
          ∙ ap (λ (r : List Sample). sets l.out l.at (unsampled wide_angles false r)) (sym first)
          ∙ i.rest;
    }

pub returns : goal.returns
unfolding unsampled
returns c =
    let l = c.loop-sample in
    let e = samples-none wide_angles c.args.msb _ (omega (arith, c.in-None.ensures.steps.1.0, l.invariant.size)) in
    ap (λ (s : List Sample). sets l.out l.at (unsampled wide_angles false s)) (sym e) ∙ l.invariant.rest
