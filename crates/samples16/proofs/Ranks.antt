-- Laws of ranks, which the code compares in the place of sample numbers, and of rises that are counted. Assumes nothing.
use Rattle.std.proofs.Common.{◌≡◌, refl, sym, ap, ◌∙◌, ℕ, suc, ◌+◌, ◌*◌, ◌/◌, ◌%◌, ◌≤◌, ◌<◌, Bool, true, false, ◌||◌, leb, List, [], ◌∷◌, map, length, get_or, take, drop, arith}
use Rattle.std.specs.Simd.{first_chunks}
use borrow.Author.Tests.{leb-true, leb-false, le-leb, lt-leb}
use Rattle.order.specs.Order.{low, num_of}
use Rattle.order.proofs.Stores.{run, window}
use Rattle.layout.specs.Families.{sample_bytes}
use Rattle.samples.specs.Words.{Sample, sample_of, all_samples}
use Rattle.samples.specs.inner.Narrow.{plain_by}
use Rattle.samples.specs.Judging.{first_drop, dropping}
use Rattle.samples.proofs.Runs.{by_bool}
use Rattle.samples.proofs.Judging.{any_drop, drops_cons, drops_later}
use Rattle.samples.proofs.Chunks.{samples_on, samples_first}
use Rattle.samples16.specs.inner.Ranks.{rank_of}

-- ranks stand to each other as the numbers do
rank_leb : (o : Bool) (x y : ℕ) → leb (rank_of o x) (rank_of o y) ≡ leb x y
rank_leb true x y =
    by_bool (leb x y)
    (λ e. le-leb (rank_of true x) (rank_of true y) (let h = leb-true x y e in omega arith) ∙ sym e)
    (λ e. lt-leb (rank_of true x) (rank_of true y) (let h = leb-false x y e in omega arith) ∙ sym e)
rank_leb false x y = refl

-- of bytes a and b that stand lowest first with others behind them
turned : (a b r : ℕ) → a < 256 → b < 256
    → (a + 256 * (b + 256 * r)) % 256 * 65536 + (a + 256 * (b + 256 * r)) % 65536 ≡ rank_of true (low (b ∷ a ∷ []))
turned a b r h g =
    let first : (a + 256 * (b + 256 * r)) % 256 ≡ a = omega arith in
    let both : (a + 256 * (b + 256 * r)) % 65536 ≡ a + 256 * b = omega arith in
    let upper : low (b ∷ a ∷ []) / 256 ≡ a = omega arith in
    rw (first, both, upper) (omega arith)

-- a rank from four bytes that were read lowest first, of which the number is the first two
module _ (l : List ℕ) (at t : ℕ) (known : (i : ℕ) → get_or l i 0 < 256) (h : at + 4 ≤ length l)
    (e : t ≡ num_of false (take 4 (drop at l))) where
  behind : ℕ
  behind = low (run l (suc (suc at)) 2)

  four : t ≡ get_or l at 0 + 256 * (get_or l (suc at) 0 + 256 * behind)
  unfolding behind
  four = e ∙ ap low (window 4 l at h)

  two : (o : Bool) → num_of o (take 2 (drop at l)) ≡ num_of o (get_or l at 0 ∷ get_or l (suc at) 0 ∷ [])
  two o = ap (num_of o) (window 2 l at (omega arith))

  pub rank_turned : t % 256 * 65536 + t % 65536 ≡ rank_of true (num_of true (take 2 (drop at l)))
  rank_turned =
      ap (λ (n : ℕ). n % 256 * 65536 + n % 65536) four
      ∙ turned (get_or l at 0) (get_or l (suc at) 0) behind (known at) (known (suc at))
      ∙ ap (rank_of true) (sym (two true))

  pub rank_plain : t % 65536 ≡ rank_of false (num_of false (take 2 (drop at l)))
  rank_plain = let a = known at in let b = known (suc at) in rw (two false) (omega (arith, four))

-- samples by their ranks drop where they do by their numbers
abbrev pub ranked : Bool → List ℕ → Sample
ranked o c = (rank_of o (num_of o (take 2 c)), 0)

module _ (b o : Bool) where
  number_first : (c : List ℕ) → (sample_of (plain_by b) o c).0 ≡ num_of o (take 2 c)
  number_first c = elim b as (λ (a : Bool). (sample_of (plain_by a) o c).0 ≡ num_of o (take 2 c)) [ true ↦ refl | false ↦ refl ]

  drops_behind : (cs : List (List ℕ)) (n : ℕ) → any_drop (rank_of o n + 1) (map (ranked o) cs) ≡ any_drop (n + 1) (map (sample_of (plain_by b) o) cs)
  unfolding first_drop
  drops_behind [] n = refl
  drops_behind (c ∷ cs) n =
      let x = num_of o (take 2 c) in
      drops_cons (rank_of o n) (ranked o c) (map (ranked o) cs)
      ∙ (λ i. rank_leb o x n i || drops_behind cs x i)
      ∙ ap (λ (y : ℕ). leb y n || any_drop (y + 1) (map (sample_of (plain_by b) o) cs)) (sym (number_first c))
      ∙ sym (drops_cons n (sample_of (plain_by b) o c) (map (sample_of (plain_by b) o) cs))

  pub drops_ranked : (cs : List (List ℕ)) → any_drop 0 (map (ranked o) cs) ≡ any_drop 0 (map (sample_of (plain_by b) o) cs)
  unfolding first_drop
  drops_ranked [] = refl
  drops_ranked (c ∷ cs) =
      drops_later 0 (ranked o c) (map (ranked o) cs) (omega arith)
      ∙ drops_behind cs (num_of o (take 2 c))
      ∙ ap (λ (y : ℕ). any_drop (y + 1) (map (sample_of (plain_by b) o) cs)) (sym (number_first c))
      ∙ sym (drops_later 0 (sample_of (plain_by b) o c) (map (sample_of (plain_by b) o) cs) (omega arith))

  -- and so do those of a part
  pub part_ranked : (part : List ℕ) (cs : List (List ℕ)) → cs ≡ first_chunks (sample_bytes (plain_by b)) (length part / sample_bytes (plain_by b)) part
      → any_drop 0 (samples_on (ranked o) cs 0) ≡ dropping (all_samples (plain_by b) o part)
  part_ranked part cs e = drops_ranked cs ∙ ap (any_drop 0) (samples_first (plain_by b) o part cs e)
