-- The codes of the listed types whose shapes a test takes, as a match on them leaves them; and a ping that holds values is a listed one.
-- Assumes nothing.
use mathlib.Core.Path.{◌≡◌, refl, sym, ap, subst, ◌∙◌}
use mathlib.Core.Bool.{Bool, true, false, cond, true≢false}
use mathlib.Core.List.{List, [], ◌∷◌, map}
use Prim.Native.Nat.{ℕ}
use borrow.Author.Tests.{eqb-true, eqb-false}
use lib.Dec.{eqb}
use Rattle.rules.proofs.Bools.{same_arms}
use Rattle.layout.specs.Types.{Shape, indexed, row, uncompressed, compressed, unlisted, Entry, listings, shape_of, has_samples, is_ping}
use Rattle.layout.proofs.Tables.{NoneOf, has_code, none_has, alike_all}
use Rattle.tuples.specs.Readers.{holding}

abbrev joining : Bool → ℕ → List ℕ → List ℕ
joining true k cs = k ∷ cs
joining false k cs = cs

abbrev codes_in : (Shape → Bool) → List Entry → List ℕ → List ℕ
codes_in test [] cs = cs
codes_in test (l ∷ ls) cs = codes_in test ls (joining (test l.listing.shape) l.code cs)

-- the last listed first
abbrev pub codes_of : (Shape → Bool) → List ℕ
codes_of test = codes_in test listings []

-- a test that takes none but listed types, which is computed for each
pub record Listed (test : Shape → Bool) : Type 0 where
  pub computed : map (λ (l : Entry). cond (has_code l.code (codes_of test)) false (test l.listing.shape)) listings
      ≡ map (λ (l : Entry). false) listings
  pub indexes : test indexed ≡ false
  pub others : test unlisted ≡ false

module _ {test : Shape → Bool} (c : Listed test) where
  none-by : (b : Bool) {x : Bool} → x ≡ false → cond b false x ≡ false
  none-by b e = ap (cond b false) e ∙ same_arms b false

  -- no other code's shape is taken
  pub no_code : (k : ℕ) → NoneOf (codes_of test) k → test (shape_of k) ≡ false
  no_code k h =
      ap (λ (b : Bool). cond b false (test (shape_of k))) (sym (none_has k (codes_of test) h))
      ∙ alike_all (λ j l. cond (has_code j (codes_of test)) false (test l.shape)) (λ j l. false) c.computed
      (λ j. none-by (has_code j (codes_of test)) c.indexes) (λ j. none-by (has_code j (codes_of test)) c.others) k

  -- and so behind all but the last of them the last is left
  pub last_code : (k m : ℕ) (ms : List ℕ) → codes_of test ≡ m ∷ ms → NoneOf ms k → test (shape_of k) ≡ true → k ≡ m
  last_code k m ms e h a = by (eqb k m) refl
    where
      by : (b : Bool) → eqb k m ≡ b → k ≡ m
      by true t = eqb-true k m t
      by false t =
          absurd (true≢false (sym a ∙ no_code k (subst (λ (cs : List ℕ). NoneOf cs k) (sym e) (h, eqb-false k m t))))

-- the tests of the readers: samples of one value, and of two angles
pub valued : Listed (holding 1)
unfolding listings
valued = record { computed = refl; indexes = refl; others = refl }

pub angled : Listed (holding 2)
unfolding listings
angled = record { computed = refl; indexes = refl; others = refl }

-- either asks for listed pings alone
holds-samples : (n : ℕ) (q : Shape) → holding n q ≡ true → has_samples q ≡ true
holds-samples n indexed e = absurd (true≢false (sym e))
holds-samples n (row fs x) e = absurd (true≢false (sym e))
holds-samples n (uncompressed f) e = refl
holds-samples n (compressed f) e = refl
holds-samples n unlisted e = absurd (true≢false (sym e))

pub holder_ping : (n k : ℕ) → holding n (shape_of k) ≡ true → is_ping k ≡ true
unfolding is_ping
holder_ping n k e = holds-samples n (shape_of k) e
