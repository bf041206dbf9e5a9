-- The listings that rows are turned by, and where the characters of a tuple that a row reads begin. Assumes nothing.
use mathlib.Core.Path.{◌≡◌, refl, sym, ap, ap₂, subst, ◌∙◌}
use mathlib.Core.Bool.{Bool, true, false, cond, ◌||◌, true≢false}
use mathlib.Core.Option.{Option, some, none}
use Prim.Native.Nat.{ℕ, ◌+◌, ◌-◌, ◌≤◌, ◌<◌}
use native.Mathlib.Omega.{arith}
use borrow.Author.Tests.{eqb-true, ne_eqb}
use lib.Dec.{eqb, lit<}
use Rattle.rules.proofs.Bools.{same_arms}
use Rattle.layout.specs.Fields.{size}
use Rattle.layout.specs.Types.{Shape, indexed, row, uncompressed, compressed, unlisted, Length, fitting, in_class, index, listings, among}
use Rattle.layout.specs.Types.{listing_of, shape_of, has_samples, is_ping, listed, length_from}
use Rattle.layout.specs.inner.Codes.{place_among, place_in, rowed, fields_in}
use Rattle.layout.proofs.Families.{IsRow, row-rowed}
use Rattle.layout.proofs.Tables.{Tabled, tabled, fields-there, alike_all, lengths-from}
use Rattle.content.proofs.Fine.{upward-least}
use Rattle.content.proofs.Places.{Shaped, shaped}
use Rattle.intake.specs.inner.Tallies.{Fits}
use Rattle.forms.specs.inner.Parts.{listed_fields, Rowed}
use Rattle.ping_forms.proofs.Placed.{within-index}

-- ---- listings
-- a type code outside the index class, by its listing
module _ (k : ℕ) (e : in_class index k ≡ false) where
  pub raw-shape : place_in k ≡ listed → shape_of k ≡ unlisted
  raw-shape p = by (shape_of k) refl (shaped k) (tabled k)
    where
      by : (q : Shape) → shape_of k ≡ q → Shaped k q → Tabled q (place_in k) → shape_of k ≡ unlisted
      by indexed z h l = absurd (within-index k e h)
      by (row fs x) z h l = absurd (omega arith)
      by (uncompressed y) z h l = absurd (omega arith)
      by (compressed y) z h l = absurd (omega arith)
      by unlisted z h l = z

  pub by_row : is_ping k ≡ false → (place_in k ≡ listed → ⊥) → Rowed k
  unfolding is_ping
  by_row c p = by (shape_of k) refl (shaped k) (tabled k) c
    where
      by : (q : Shape) → shape_of k ≡ q → Shaped k q → Tabled q (place_in k) → has_samples q ≡ false → Rowed k
      by indexed z h l d = absurd (within-index k e h)
      by (row fs x) z h l d = record { fields = fs; text = x; shape = z }
      by (uncompressed y) z h l d = absurd (true≢false d)
      by (compressed y) z h l d = absurd (true≢false d)
      by unlisted z h l d = absurd (p l)

fields-listed : (k : ℕ) → place_in k < listed → (listing : ℕ) → listing ≡ place_in k → listed_fields listing ≡ fields_in (shape_of k)
fields-listed k h listing e = ap listed_fields e ∙ fields-there k h

module _ {k listing : ℕ} (g : Rowed k) (e : listing ≡ place_in k) where
  placed : place_in k < listed
  placed = subst (λ (q : Shape). Tabled q (place_in k)) g.shape (tabled k)

  pub row_listed : listing < rowed
  row_listed = omega (arith, e, row-rowed k (subst IsRow (sym g.shape) tt))

  pub row-fields : listed_fields listing ≡ g.fields
  row-fields = fields-listed k placed listing e ∙ ap fields_in g.shape

-- ---- characters
-- the types that have some
abbrev texted : ℕ → Bool
texted k = eqb k 10110 || eqb k 65534

-- a shape without characters
abbrev Bare : Shape → Type 0
Bare indexed = Unit {0}
Bare (row fs none) = Unit {0}
Bare (row fs (some n)) = ⊥
Bare (uncompressed y) = Unit {0}
Bare (compressed y) = Unit {0}
Bare unlisted = Unit {0}

is_bare : Shape → Bool
is_bare indexed = true
is_bare (row fs none) = true
is_bare (row fs (some n)) = false
is_bare (uncompressed y) = true
is_bare (compressed y) = true
is_bare unlisted = true

bare-by : (q : Shape) → is_bare q ≡ true → Bare q
unfolding is_bare
bare-by indexed e = tt
bare-by (row fs none) e = tt
bare-by (row fs (some n)) e = true≢false (sym e)
bare-by (uncompressed y) e = tt
bare-by (compressed y) e = tt
bare-by unlisted e = tt

bare : (k : ℕ) → (k ≡ 10110 → ⊥) → (k ≡ 65534 → ⊥) → Bare (shape_of k)
unfolding is_bare
bare k a b =
    bare-by (shape_of k)
    (ap₂ (λ (u c : Bool). cond (u || c) true (is_bare (shape_of k))) (sym (ne_eqb k 10110 a)) (sym (ne_eqb k 65534 b))
    ∙ alike_all (λ j l. cond (texted j) true (is_bare l.shape)) (λ j l. true) (unfold listings in refl)
    (λ j. same_arms (texted j) true) (λ j. same_arms (texted j) true) k)

-- the fields and the least length of an event and of an end of file
pub text_event : {n k : ℕ} → Fits n k → k ≡ 10110 → (12 ≡ 6 + size (listed_fields (place_in k))) × (20 ≤ n)
unfolding listing_of among listings place_among
text_event {n} {k} f e = (
  omega (arith, ap size (fields-listed 10110 (lit< tt) (place_in k) (ap place_in e))),
  omega (arith, upward-least 24 n _ (subst (Fits n) e f)),
)

pub text-end : {n k : ℕ} → Fits n k → k ≡ 65534 → (14 ≡ 6 + size (listed_fields (place_in k))) × (22 ≤ n)
unfolding listing_of among listings place_among
text-end {n} {k} f e = (
  omega (arith, ap size (fields-listed 65534 (lit< tt) (place_in k) (ap place_in e))),
  omega (arith, upward-least 24 n _ (subst (Fits n) e f)),
)

-- all others have none
module _ {n k : ℕ} (g : Rowed k) (f : Fits n k) (a : k ≡ 10110 → ⊥) (b : k ≡ 65534 → ⊥) where
  whole_row : n ≡ size g.fields + 14
  whole_row = by g.text g.shape
    where
      by : (x : Option ℕ) → shape_of k ≡ row g.fields x → n ≡ size g.fields + 14
      by none e =
          eqb-true n (size g.fields + 14)
          (subst (λ (q : Shape). fitting (length_from q) n ≡ true) e
          (subst (λ (l : Length). fitting l n ≡ true) (lengths-from k) f))
      by (some m) e = absurd (subst Bare e (bare k a b))

  pub text-none : (n - 8 ≡ 6 + size (listed_fields (place_in k))) × (n - 8 + 8 ≤ n)
  text-none = let e = ap size (row-fields g refl) in (omega (arith, whole_row), omega (arith, whole_row))

  pub tail-fits : 8 ≤ n
  tail-fits = omega (arith, whole_row)
