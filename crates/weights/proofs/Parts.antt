-- The first n of a row: the whole blocks among them, and the rest. Assumes nothing.
use mathlib.Core.Path.{◌≡◌, sym, ap, subst, ◌∙◌}
use mathlib.Core.Bool.{Bool}
use mathlib.Core.List.{List}
use Prim.Native.Nat.{ℕ, ◌+◌, ◌*◌, ◌/◌, ◌%◌, ◌≤◌, ◌<◌}
use native.Mathlib.Omega.{arith}
use lib.ListN.{length, get_or}
use Rattle.weights.specs.declared.Kind.{Kind}
use Rattle.weights.specs.declared.Kind.TheVariants.{C32, C16, CE16, Pairs, Shorts, Triples}
use Rattle.weights.specs.inner.Weights.{step_by, block_by, span_by, There, weight_at}
use Rattle.weights.specs.inner.Rows.{rows, kind_at, base_at, entries, place_of, Entry, Summed}
use Rattle.weights.proofs.Weighing.{weight_most}
use Rattle.weights.proofs.Filling.{weight_parted}

-- n of them in blocks of so many, which are so many bytes
pub record Parted (k : Kind) (block bytes base n size : ℕ) : Type 0 where
  pub some : 0 < block
  pub few : n / block < entries
  pub before : There k base (block * (n / block)) size
  pub place : base + bytes * (n / block) ≡ base + step_by k * (block * (n / block))
  pub behind : There k (base + bytes * (n / block)) (n % block) size
  pub near : base + bytes * (n / block) ≤ size
  pub less : n % block ≤ block
  pub whole : block * (n / block) + n % block ≡ n
  pub most : n ≤ 16777216

parted : (k : Kind) (base n size : ℕ) → There k base n size → size ≤ 16777216 → Parted k (block_by k) (span_by k) base n size
parted C32 base n size t l = omega arith
parted C16 base n size t l = omega arith
parted CE16 base n size t l = omega arith
parted Pairs base n size t l = omega arith
parted Shorts base n size t l = omega arith
parted Triples base n size t l = omega arith

pub parted-by : (k : Kind) (block bytes base n size : ℕ) → block ≡ block_by k → bytes ≡ span_by k → There k base n size → size ≤ 16777216
    → Parted k block bytes base n size
parted-by k block bytes base n size e s t l =
    subst (λ (x : ℕ). Parted k x bytes base n size) (sym e)
    (subst (λ (x : ℕ). Parted k (block_by k) x base n size) (sym s) (parted k base n size t l))

-- ---- the entry of the whole blocks, and the weight of the rest
module _ (o : Bool) (f t : List ℕ) (g : ℕ) (k : Kind) (b n block bytes : ℕ) (s : Summed o f t) (l : g < rows) (ek : kind_at g ≡ k)
    (eb : base_at g ≡ b) (e : block ≡ block_by k) (p : Parted k block bytes b n (length f)) where
  pub entry-is : get_or t (entries * g + n / block) 0 ≡ weight_at k o f b (block * (n / block))
  entry-is =
      let j = n / block in
      let at : Entry o f t g j = s.sums g j l p.few in
      let there = subst (λ (x : ℕ). There k b (x * j) (length f)) e p.before in
      subst (λ (x : Kind). There x b (block_by x * j) (length f) → get_or t (place_of g j) 0 ≡ weight_at x o f b (block_by x * j)) ek
      (subst (λ (x : ℕ). There (kind_at g) x (block_by (kind_at g) * j) (length f)
      → get_or t (place_of g j) 0 ≡ weight_at (kind_at g) o f x (block_by (kind_at g) * j)) eb at) there
      ∙ ap (λ (x : ℕ). weight_at k o f b (x * j)) (sym e)

  pub first-is : (w : ℕ) → w ≡ weight_at k o f (b + bytes * (n / block)) (n % block)
      → get_or t (entries * g + n / block) 0 + w ≡ weight_at k o f b n
  first-is w h =
      (λ i. entry-is i + (h ∙ ap (λ (q : ℕ). weight_at k o f q (n % block)) p.place) i)
      ∙ sym (weight_parted k o f b (block * (n / block)) (n % block))
      ∙ ap (weight_at k o f b) p.whole

  pub entry-most : get_or t (entries * g + n / block) 0 ≤ 32766 * 16777216
  entry-most = omega (arith, entry-is, weight_most k o f b (block * (n / block)), p.whole, p.most)

-- ---- n of them from a place on are those of a row, but for the first
pub record Reached (k : Kind) (step at n size : ℕ) : Type 0 where
  pub some : 0 < step
  pub most : at / step + n ≤ 16777216
  pub all : There k (at % step) (at / step + n) size
  pub before : There k (at % step) (at / step) size
  pub place : at % step + step * (at / step) ≡ at

reached : (k : Kind) (at n size : ℕ) → There k at n size → size ≤ 16777216 → Reached k (step_by k) at n size
reached C32 at n size t l = omega arith
reached C16 at n size t l = omega arith
reached CE16 at n size t l = omega arith
reached Pairs at n size t l = omega arith
reached Shorts at n size t l = omega arith
reached Triples at n size t l = omega arith

pub reached-by : (k : Kind) (step at n size : ℕ) → step ≡ step_by k → There k at n size → size ≤ 16777216 → Reached k step at n size
reached-by k step at n size e t l = subst (λ (x : ℕ). Reached k x at n size) (sym e) (reached k at n size t l)

pub between_is : (k : Kind) (o : Bool) (f : List ℕ) (step at n size : ℕ) → step ≡ step_by k → Reached k step at n size
    → weight_at k o f (at % step) (at / step + n) ≡ weight_at k o f (at % step) (at / step) + weight_at k o f at n
between_is k o f step at n size e r =
    weight_parted k o f (at % step) (at / step) n
    ∙ ap (λ (q : ℕ). weight_at k o f (at % step) (at / step) + weight_at k o f q n)
    (ap (λ (s : ℕ). at % step + s * (at / step)) (sym e) ∙ r.place)
