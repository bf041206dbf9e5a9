-- Sums filled in, row by row and block by block. Assumes nothing.
use mathlib.Core.Path.{◌≡◌, sym, subst, ◌∙◌}
use mathlib.Core.Bool.{Bool}
use mathlib.Core.List.{List}
use lib.Dec.{leb}
use borrow.Author.Tests.{leb-true, leb-false}
use Rattle.samples.proofs.Runs.{by_bool}
use Prim.Native.Nat.{ℕ, ◌+◌, ◌-◌, ◌*◌, ◌≤◌, ◌<◌}
use native.Mathlib.Omega.{arith}
use lib.ListN.{length, get_or, set, drop, length-set}
use lib.Seq.{drop-drop, get_or-set_same, get_or-set_other}
use Rattle.weights.specs.declared.Kind.{Kind}
use Rattle.weights.specs.declared.Kind.TheVariants.{C32, C16, CE16, Pairs, Shorts, Triples}
use Rattle.weights.specs.inner.Weights.{weighed, weight_by, step_by, block_by, span_by, beyond_by, There, weight_at}
use Rattle.weights.specs.inner.Rows.{rows, kind_at, base_at, entries, place_of, Entry, SummedTo}
use Rattle.weights.proofs.Weighing.{weighed-parted}

-- fewer are there too
pub there-less : (k : Kind) (from m n size : ℕ) → m ≤ n → There k from n size → There k from m size
there-less C32 from m n size h t = omega arith
there-less C16 from m n size h t = omega arith
there-less CE16 from m n size h t = omega arith
there-less Pairs from m n size h t = omega arith
there-less Shorts from m n size h t = omega arith
there-less Triples from m n size h t = omega arith

-- m of them from a place on, and n behind these
pub weight_parted : (k : Kind) (o : Bool) (f : List ℕ) (from m n : ℕ)
    → weight_at k o f from (m + n) ≡ weight_at k o f from m + weight_at k o f (from + step_by k * m) n
weight_parted k o f from m n =
    rw (← drop-drop (step_by k * m) from f) (weighed-parted (weight_by k o) (step_by k) m n (drop from f))

-- before the first row
pub none_filled : (o : Bool) (f t : List ℕ) → length t ≡ entries * rows → SummedTo o f t 0
none_filled o f t e = record { long = e; sums = λ i j h. absurd (omega arith) }

-- ---- a row that is being filled: its first entries, up to the j-th
pub record Filling (o : Bool) (f t : List ℕ) (g : ℕ) (k : Kind) (b j : ℕ) : Type 0 where
  pub before : SummedTo o f t g
  pub here : (i : ℕ) → i ≤ j → get_or t (place_of g i) 0 ≡ weight_at k o f b (block_by k * i)

-- an entry stored leaves those of the rows before
rows_stay : (o : Bool) (f t : List ℕ) (g j v : ℕ) → SummedTo o f t g → SummedTo o f (set t (place_of g j) v) g
rows_stay o f t g j v s =
    record {
      long = length-set t (place_of g j) v ∙ s.long;
      sums = λ i m h l there.
          get_or-set_other t (place_of g j) (place_of i m) v 0 (λ (q : place_of i m ≡ place_of g j). omega arith) ∙ s.sums i m h l there;
    }

-- the first, with nothing before it
pub fill-first : (o : Bool) (f t : List ℕ) (g : ℕ) (k : Kind) (b : ℕ) → g < rows → SummedTo o f t g
    → Filling o f (set t (place_of g 0) 0) g k b 0
unfolding weighed
fill-first o f t g k b h s =
    record {
      before = rows_stay o f t g 0 0 s;
      here = λ i l.
          let z : i ≡ 0 = omega arith in
          let e : block_by k * 0 ≡ 0 = omega arith in
          rw (z, e) (get_or-set_same t (place_of g 0) 0 0 (omega (arith, s.long)));
    }

-- one more
pub fill-next : (o : Bool) (f t : List ℕ) (g : ℕ) (k : Kind) (b j v : ℕ) → g < rows → j + 1 < entries
    → v ≡ weight_at k o f b (block_by k * (j + 1)) → Filling o f t g k b j → Filling o f (set t (place_of g (j + 1)) v) g k b (j + 1)
fill-next o f t g k b j v h m e s =
    record {
      before = rows_stay o f t g (j + 1) v s.before;
      here = λ i l. by_bool (leb i j)
          (λ q. let r = leb-true i j q in
          get_or-set_other t (place_of g (j + 1)) (place_of g i) v 0 (λ (z : place_of g i ≡ place_of g (j + 1)). omega arith) ∙ s.here i r)
          (λ q. let r = leb-false i j q in
          let z : i ≡ j + 1 = omega arith in
          rw z (get_or-set_same t (place_of g (j + 1)) v 0 (omega (arith, s.before.long)) ∙ e));
    }

-- a block more
pub block-next : (k : Kind) (o : Bool) (f : List ℕ) (b j from : ℕ) → from ≡ b + step_by k * (block_by k * j)
    → weight_at k o f b (block_by k * (j + 1)) ≡ weight_at k o f b (block_by k * j) + weight_at k o f from (block_by k)
block-next k o f b j from e =
    let m : block_by k * (j + 1) ≡ block_by k * j + block_by k = omega arith in
    rw (m, e) (weight_parted k o f b (block_by k * j) (block_by k))

-- no block more is there: the row is filled
blocks_more : (k : Kind) (i j : ℕ) → i ≤ j → block_by k * i ≤ block_by k * j
blocks_more C32 i j h = omega arith
blocks_more C16 i j h = omega arith
blocks_more CE16 i j h = omega arith
blocks_more Pairs i j h = omega arith
blocks_more Shorts i j h = omega arith
blocks_more Triples i j h = omega arith

pub fill_end : (o : Bool) (f t : List ℕ) (g : ℕ) (k : Kind) (b j : ℕ) → kind_at g ≡ k → base_at g ≡ b
    → (There k b (block_by k * (j + 1)) (length f) → ⊥) → Filling o f t g k b j → SummedTo o f t (g + 1)
fill_end o f t g k b j ek eb none s = record {
  long = s.before.long;
  sums = λ i m h l. by_bool (leb g i) (λ q. this i m (omega (arith, leb-true g i q)))
      (λ q. s.before.sums i m (leb-false g i q) l);
}
  where
    row : (m : ℕ) → There k b (block_by k * m) (length f) → get_or t (place_of g m) 0 ≡ weight_at k o f b (block_by k * m)
    row m there = by_bool (leb m j) (λ q. s.here m (leb-true m j q))
        (λ q. absurd (none (there-less k b (block_by k * (j + 1)) (block_by k * m) (length f)
        (blocks_more k (j + 1) m (omega (arith, leb-false m j q))) there)))

    at : (m : ℕ) → Entry o f t g m
    at m = subst
        (λ (x : Kind). There x (base_at g) (block_by x * m) (length f) → get_or t (place_of g m) 0 ≡ weight_at x o f (base_at g) (block_by x * m))
        (sym ek)
        (subst (λ (x : ℕ). There k x (block_by k * m) (length f) → get_or t (place_of g m) 0 ≡ weight_at k o f x (block_by k * m)) (sym eb)
        (row m))

    this : (i m : ℕ) → i ≡ g → Entry o f t i m
    this i m e = subst (λ (x : ℕ). Entry o f t x m) (sym e) (at m)

-- ---- where the j-th block of a kind starts, in a file within its limit
pub record Next (k : Kind) (base j from size : ℕ) : Type 0 where
  pub there : There k from (block_by k) size
  pub few : j + 1 < entries
  pub within : from + span_by k ≤ size
  pub behind : from + span_by k ≡ base + step_by k * (block_by k * (j + 1))

pub next-block : (k : Kind) (base j from size : ℕ) → from ≡ base + step_by k * (block_by k * j) → from ≤ size → size ≤ 16777216
    → span_by k + beyond_by k ≤ size - from → Next k base j from size
next-block C32 base j from size e l m h = omega arith
next-block C16 base j from size e l m h = omega arith
next-block CE16 base j from size e l m h = omega arith
next-block Pairs base j from size e l m h = omega arith
next-block Shorts base j from size e l m h = omega arith
next-block Triples base j from size e l m h = omega arith

pub no_block : (k : Kind) (base j from size : ℕ) → from ≡ base + step_by k * (block_by k * j)
    → size - from < span_by k + beyond_by k → There k base (block_by k * (j + 1)) size → ⊥
no_block C32 base j from size e h t = omega arith
no_block C16 base j from size e h t = omega arith
no_block CE16 base j from size e h t = omega arith
no_block Pairs base j from size e h t = omega arith
no_block Shorts base j from size e h t = omega arith
no_block Triples base j from size e h t = omega arith

-- a block is some bytes, and few
pub span : (k : Kind) → (16380 ≤ span_by k) × (span_by k ≤ 16384) × (beyond_by k ≤ 8) × (block_by k ≤ 8192) × (1 ≤ block_by k)
span C32 = omega arith
span C16 = omega arith
span CE16 = omega arith
span Pairs = omega arith
span Shorts = omega arith
span Triples = omega arith

pub some-step : (k : Kind) (step : ℕ) → step ≡ step_by k → 0 < step
some-step C32 step e = omega (arith, e)
some-step C16 step e = omega (arith, e)
some-step CE16 step e = omega (arith, e)
some-step Pairs step e = omega (arith, e)
some-step Shorts step e = omega (arith, e)
some-step Triples step e = omega (arith, e)
