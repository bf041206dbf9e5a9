-- `weights::fill_row` meets its contract: the entries so far are those of the blocks so far. Assumes nothing.
use mathlib.Core.Path.{◌≡◌, sym, ap, subst, ◌∙◌}
use mathlib.Core.Bool.{Bool}
use mathlib.Core.List.{List}
use Prim.Native.Nat.{ℕ, ◌≤◌, ◌<◌, ◌+◌, ◌-◌, ◌*◌}
use native.Mathlib.Omega.{arith}
use borrow.Author.Rules.{rules}
use lib.ListN.{length, set}
use Rattle.weights.specs.declared.Kind.{Kind}
use Rattle.weights.specs.inner.Weights.{weighed, step_by, block_by, span_by, There, weight_at}
use Rattle.weights.specs.inner.Rows.{entries, rows, SummedTo}
use Rattle.weights.proofs.Filling.{Filling, Next, fill-first, fill-next, fill_end, block-next, next-block, no_block, span}
use Rattle.weights.proofs.fill_row.Statement.{statement}
use Rattle.weights.proofs.fill_row.Tie as tie

-- where the loop stands: before the j-th block, j entries behind the row's first
record Stands (o : Bool) (f t : List ℕ) (g : ℕ) (k : Kind) (b at sum from : ℕ) : Type 0 where
  behind : entries * g ≤ at
  within : from ≤ length f
  place : from ≡ b + step_by k * (block_by k * (at - entries * g))
  sums : sum ≡ weight_at k o f b (block_by k * (at - entries * g))
  few : sum ≤ 300000000 * (at - entries * g)
  filled : Filling o f t g k b (at - entries * g)

module _ (o : Bool) (f t : List ℕ) (g : ℕ) (k : Kind) (b : ℕ) (l : g < rows) where
  -- before the first block
  begin : b ≤ length f → SummedTo o f t g → Stands o f (set t (entries * g) 0) g k b (entries * g) 0 b
  unfolding weighed
  begin h s =
      let z : entries * g - entries * g ≡ 0 = omega arith in
      let e : block_by k * 0 ≡ 0 = omega arith in
      let m : step_by k * 0 ≡ 0 = omega arith in
      let p : entries * g + 0 ≡ entries * g = omega arith in
      record {
        behind = omega arith;
        within = h;
        place = rw (z, e, m) (omega arith);
        sums = rw (z, e);
        few = omega arith;
        filled = rw z (subst (λ (i : ℕ). Filling o f (set t i 0) g k b 0) p (fill-first o f t g k b l s));
      }

  -- past a block
  again : (at sum from bytes w : ℕ) → Stands o f t g k b at sum from → Next k b (at - entries * g) from (length f) → bytes ≡ span_by k
      → w ≡ weight_at k o f from (block_by k) → w ≤ 32766 * block_by k
      → Stands o f (set t (at + 1) (sum + w)) g k b (at + 1) (sum + w) (from + bytes)
  again at sum from bytes w s n e h m =
      let j = at - entries * g in
      let one : at + 1 - entries * g ≡ j + 1 = omega (arith, s.behind) in
      let here : entries * g + (j + 1) ≡ at + 1 = omega (arith, s.behind) in
      let more : sum + w ≡ weight_at k o f b (block_by k * (j + 1)) = (λ i. s.sums i + h i) ∙ sym (block-next k o f b j from s.place) in
      record {
        behind = omega (arith, s.behind);
        within = omega (arith, n.within, e);
        place = rw one (omega (arith, n.behind, e));
        sums = rw one more;
        few = omega (arith, s.few, s.behind, m, span k);
        filled = rw one
            (subst (λ (i : ℕ). Filling o f (set t i (sum + w)) g k b (j + 1)) here
            (fill-next o f t g k b j (sum + w) l n.few more s.filled));
      }

abbrev invariant-loop : tie.invariant-loop-from
invariant-loop file msb kind base row sums₀ block bytes ahead at₀ sum₀ from₀ sums at sum from = Stands msb file sums row kind base at sum from

abbrev decreases-loop : tie.decreases-loop-from
decreases-loop file msb kind base row sums₀ block bytes ahead at₀ sum₀ from₀ sums at sum from = length file - from

-- places, named by what has been done there
abbrev known : tie.At-loop-from invariant-loop decreases-loop → tie.After-ahead_of-ahead invariant-loop decreases-loop
known c = c.before

abbrev start : tie.At-loop-from invariant-loop decreases-loop → tie.Start invariant-loop decreases-loop
start c = c.before.before.before.before.before.before

loop-holds : tie.Need-loop-from-init invariant-loop decreases-loop
loop-holds c =
    let s = c.before.before.before.before.before in
    let a = s.args in
    let p = s.requires in
    begin a.msb a.file.now a.sums.now a.row a.kind a.base p.1.0.0 (omega (arith, p.0, p.1.0)) p.1.1.1.1

-- the block that the loop comes to
next : (c : tie.In-loop-from invariant-loop decreases-loop) →
    let l = c.loop-from in
    let a = (start c.before).args in
    Next a.kind a.base (l.at - entries * a.row) l.from (length a.file.now)
next c =
    let l = c.loop-from in
    let a = (start c.before).args in
    let k = known c.before in
    next-block a.kind a.base (l.at - entries * a.row) l.from (length a.file.now) l.invariant.place l.invariant.within
    (start c.before).requires.0.1
    (omega (arith, c.loop-from-test.true, k.bytes_of-bytes.ensures, k.ahead_of-ahead.ensures))

-- what it weighs
weight : (c : tie.After-weigh-sum invariant-loop decreases-loop) →
    let l = c.loop-from in
    let a = (start c.before.before).args in
    (c.weigh-sum.result ≡ weight_at a.kind a.msb a.file.now l.from (block_by a.kind))
    × (c.weigh-sum.result ≤ 32766 * block_by a.kind)
weight c =
    let l = c.loop-from in
    let a = (start c.before.before).args in
    let block = (known c.before.before).block_of-block.ensures in
    (c.weigh-sum.ensures.0 ∙ ap (weight_at a.kind a.msb a.file.now l.from) block, omega (arith, c.weigh-sum.ensures.1, block))

loop-again : tie.Need-loop-from-preserved invariant-loop decreases-loop
loop-again c =
    let l = c.loop-from in
    let s = start c.before.before in
    let a = s.args in
    let w = weight c in
    again a.msb a.file.now l.sums a.row a.kind a.base s.requires.1.0.0 l.at l.sum l.from _ _
    l.invariant (next c.before)
    (known c.before.before).bytes_of-bytes.ensures w.0 w.1

returns : tie.Need-returns invariant-loop decreases-loop
returns c =
    let l = c.loop-from in
    let s = start c.before in
    let a = s.args in
    let k = known c.before in
    let j = l.at - entries * a.row in
    fill_end a.msb a.file.now l.sums a.row a.kind a.base j s.requires.1.1.0 s.requires.1.1.1.0
    (no_block a.kind a.base j l.from (length a.file.now) l.invariant.place
    (omega (arith, c.loop-from-test.false, k.bytes_of-bytes.ensures, k.ahead_of-ahead.ensures)))
    l.invariant.filled

-- the next entry is there
there : (c : tie.In-loop-from invariant-loop decreases-loop) →
    let l = c.loop-from in
    (l.at + 1 < length l.sums) × (l.at + 1 < 10000)
there c =
    let l = c.loop-from in
    let s = start c.before in
    omega (arith, (next c).few, l.invariant.behind, l.invariant.filled.before.long, s.requires.1.0)

pub fill_row_spec : {M : Type 1} → statement M
fill_row_spec =
    tie.close
    (tie.spec
    invariant-loop
    decreases-loop
    (λ c κs. search rules)
    (λ c κs. search rules)
    (λ c κs. search rules)
    (λ c. let p = c.requires in omega (arith, p.1.0))
    (λ c. let p = c.requires in omega (arith, p.1.0))
    (λ c. let p = c.requires in omega (arith, p.1.0, p.1.1.1.1.long))
    loop-holds
    (λ c. let k = known c in omega (arith, k.bytes_of-bytes.ensures, k.ahead_of-ahead.ensures, span (start c).args.kind))
    (λ c. c.loop-from.invariant.within)
    (λ c κs.
    let block = (known c.before).block_of-block.ensures in
    let a = (start c.before).args in (
      subst (λ (n : ℕ). There a.kind c.loop-from.from n (length a.file.now)) (sym block) (next c).there,
      omega (arith, block),
    ))
    (λ c. let l = c.loop-from in
    omega (arith, l.invariant.few, (weight c).1, span (start c.before.before).args.kind, there c.before))
    (λ c. let k = known c.before.before in
    omega (arith, (next c.before).within, k.bytes_of-bytes.ensures, (start c.before.before).requires.0))
    (λ c. omega (arith, there c.before))
    (λ c. omega (arith, there c.before))
    (λ c. omega (arith, there c.before))
    (λ c. let k = known c.before.before in
    omega (arith, (next c.before).within, k.bytes_of-bytes.ensures, span (start c.before.before).args.kind))
    loop-again
    (λ c. let s = start c.before in c.loop-from.invariant.filled.before.long ∙ sym s.requires.1.1.1.1.long)
    returns)
