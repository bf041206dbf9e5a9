-- A listed ping is of a family, uncompressed or compressed; the codes of the listed pings; and where rows are listed. Assumes nothing.
use mathlib.Core.Path.{◌≡◌, refl, sym, ap, ◌∙◌}
use mathlib.Core.Logic.{◌⊎◌, inl, inr}
use mathlib.Core.Bool.{Bool, true, false, cond, true≢false}
use mathlib.Core.List.{List, [], ◌∷◌}
use Prim.Native.Nat.{ℕ, ◌<◌}
use borrow.Author.Tests.{ltb-true}
use lib.Dec.{ltb}
use Rattle.rules.proofs.Bools.{same_arms}
use Rattle.layout.specs.Families.{Family}
use Rattle.layout.specs.Types.{Shape, indexed, row, uncompressed, compressed, unlisted, Entry, listings}
use Rattle.layout.specs.Types.{shape_of, has_samples, is_ping}
use Rattle.layout.specs.inner.Codes.{place_among, place_in, rowed, has_words, family_in, family_of}
use Rattle.layout.proofs.Tables.{NoneOf, has_code, none_has, alike_all}

-- the family of a shape that has samples
abbrev pub OfFamily : Shape → Type 0
OfFamily q = (f : Family) × ((q ≡ uncompressed f) ⊎ (q ≡ compressed f))

sampled : (q : Shape) → has_samples q ≡ true → OfFamily q
sampled indexed e = absurd (true≢false (sym e))
sampled (row fs x) e = absurd (true≢false (sym e))
sampled (uncompressed f) e = (f, inl refl)
sampled (compressed f) e = (f, inr refl)
sampled unlisted e = absurd (true≢false (sym e))

pub ping-shape : (k : ℕ) → is_ping k ≡ true → OfFamily (shape_of k)
unfolding is_ping
ping-shape k e = sampled (shape_of k) e

-- ---- the codes of the listed pings, the last listed first, as a match on them leaves them
abbrev pinging : Bool → ℕ → List ℕ → List ℕ
pinging true k cs = k ∷ cs
pinging false k cs = cs

abbrev pings_of : List Entry → List ℕ → List ℕ
pings_of [] cs = cs
pings_of (l ∷ ls) cs = pings_of ls (pinging (has_samples l.listing.shape) l.code cs)

abbrev pub ping_types : List ℕ
ping_types = pings_of listings []

-- no other code is one
pub no_ping : (k : ℕ) → NoneOf ping_types k → is_ping k ≡ false
unfolding is_ping
no_ping k n =
    ap (λ (b : Bool). cond b false (has_samples (shape_of k))) (sym (none_has k ping_types n))
    ∙ alike_all (λ j l. cond (has_code j ping_types) false (has_samples l.shape)) (λ j l. false) (unfold listings in refl)
    (λ j. same_arms (has_code j ping_types) false) (λ j. same_arms (has_code j ping_types) false) k

-- ---- the same of the types whose samples are words
abbrev wording_of : List Entry → List ℕ → List ℕ
wording_of [] cs = cs
wording_of (l ∷ ls) cs = wording_of ls (pinging (has_words l.listing.shape) l.code cs)

abbrev pub word_types : List ℕ
word_types = wording_of listings []

pub no_words : (k : ℕ) → NoneOf word_types k → has_words (shape_of k) ≡ false
no_words k n =
    ap (λ (b : Bool). cond b false (has_words (shape_of k))) (sym (none_has k word_types n))
    ∙ alike_all (λ j l. cond (has_code j word_types) false (has_words l.shape)) (λ j l. false) (unfold listings in refl)
    (λ j. same_arms (has_code j word_types) false) (λ j. same_arms (has_code j word_types) false) k

-- ---- a type that a row reads is one of those listed before the other pings, whose rows the code's table has
abbrev pub IsRow : Shape → Type 0
IsRow indexed = ⊥
IsRow (row fs x) = Unit {0}
IsRow (uncompressed f) = ⊥
IsRow (compressed f) = ⊥
IsRow unlisted = ⊥

abbrev early : Shape → ℕ → Bool
early indexed i = true
early (row fs x) i = ltb i rowed
early (uncompressed f) i = true
early (compressed f) i = true
early unlisted i = true

by_shape : (q : Shape) (i : ℕ) → early q i ≡ true → IsRow q → i < rowed
by_shape indexed i h z = absurd z
by_shape (row fs x) i h z = ltb-true i rowed h
by_shape (uncompressed f) i h z = absurd z
by_shape (compressed f) i h z = absurd z
by_shape unlisted i h z = absurd z

pub row-rowed : (k : ℕ) → IsRow (shape_of k) → place_in k < rowed
unfolding place_among
row-rowed k z =
    by_shape (shape_of k) (place_in k)
    (alike_all (λ j l. early l.shape (place_in j)) (λ j l. true) (unfold listings in refl) (λ j. refl) (λ j. refl) k) z

-- ---- a ping whose samples aren't words is uncompressed
pub plain-shape : (k : ℕ) → is_ping k ≡ true → has_words (shape_of k) ≡ false → shape_of k ≡ uncompressed (family_of k)
plain-shape k e h = by (ping-shape k e)
  where
    by : OfFamily (shape_of k) → shape_of k ≡ uncompressed (family_of k)
    by (f, inl z) = z ∙ ap uncompressed (sym (ap family_in z))
    by (f, inr z) = absurd (true≢false (sym (ap has_words z) ∙ h))
