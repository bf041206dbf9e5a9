-- A private tuple is of no listed type: its content is its raw data, it keeps every rule, and says nothing to other tuples. Assumes
-- nothing.
use mathlib.Core.Path.{◌≡◌, refl, sym, ap, ◌∙◌}
use mathlib.Core.Bool.{Bool, true, false, cond, ◌&&◌, true≢false}
use mathlib.Core.Option.{some}
use Prim.Native.Nat.{ℕ, ◌<◌}
use native.Mathlib.Omega.{arith}
use borrow.Author.Tests.{leb-true, lt-leb}
use lib.Dec.{leb}
use Rattle.rules.proofs.Bools.{both_true, and_false}
use Rattle.layout.specs.Types.{Shape, indexed, row, uncompressed, compressed, unlisted, Listing, not_listed, listing_of, shape_of, listings}
use Rattle.layout.specs.Types.{classes, in_class, index}
use Rattle.layout.proofs.Tables.{alike}
use Rattle.frame.specs.Frames.{Tup, Framed}
use Rattle.links.specs.Links.{nothing}
use Rattle.content.specs.Items.{raw, item_by, item_of, digest_of, digest_item, digest}
use Rattle.content.proofs.Fine.{Sound, head-fine, inner-fine}
use Rattle.normal.specs.Normaliser.{is_unlisted}
use Rattle.partners.specs.Private.{first_private, last_private, is_private}

-- ---- its type
-- within the bounds
pub private_bounds : (k : ℕ) → is_private k ≡ true → (leb first_private k ≡ true) × (leb k last_private ≡ true)
unfolding is_private
private_bounds k e = both_true (leb first_private k) (leb k last_private) e

-- a private type is listed nowhere: computed of the listed ones, and the index class begins behind it
not_in : ℕ → Listing → Bool
not_in k l = cond (is_private k) (is_unlisted l.shape) true

no_index : (k : ℕ) → in_class index k ≡ true → is_private k ≡ true → ⊥
unfolding in_class classes
no_index k c e =
    let a = leb-true k last_private (private_bounds k e).1 in
    let b = leb-true 65406 k (both_true (leb 65406 k) (leb k 65515) c).0 in
    omega arith

pub private-class : (k : ℕ) → is_private k ≡ true → in_class index k ≡ false
private-class k e = by (in_class index k) refl
  where
    by : (b : Bool) → in_class index k ≡ b → b ≡ false
    by true c = absurd (no_index k c e)
    by false c = refl

not_listed_lem : (k : ℕ) → not_in k (listing_of k) ≡ true
unfolding not_in is_private listings
not_listed_lem = alike not_in (λ k l. true) refl others
  where
    others : (k : ℕ) (b : Bool) → in_class index k ≡ b → not_in k (not_listed b) ≡ true
    others k true c = by (is_private k) refl
      where
        by : (b : Bool) → is_private k ≡ b → cond b false true ≡ true
        by true e = absurd (no_index k c e)
        by false e = refl
    others k false c = by (is_private k)
      where
        by : (b : Bool) → cond b true true ≡ true
        by true = refl
        by false = refl

pub private-shape : (k : ℕ) → is_private k ≡ true → shape_of k ≡ unlisted
unfolding not_in
private-shape k e = by (shape_of k) (sym (ap (λ (b : Bool). cond b (is_unlisted (shape_of k)) true) e) ∙ not_listed_lem k)
  where
    by : (q : Shape) → is_unlisted q ≡ true → q ≡ unlisted
    by indexed h = absurd (true≢false (sym h))
    by (row fs x) h = absurd (true≢false (sym h))
    by (uncompressed f) h = absurd (true≢false (sym h))
    by (compressed f) h = absurd (true≢false (sym h))
    by unlisted h = refl

-- ---- its content, its rules, and what it says to the others
module _ (o : Bool) (x : Tup) (e : is_private x.kind ≡ true) where
  pub private-item : item_of o x ≡ some (raw x.kind x.body)
  unfolding item_of
  private-item = ap (λ (q : Shape). item_by q o x) (private-shape x.kind e)

  pub private-digest : digest o x ≡ nothing
  unfolding digest_of in_class classes
  private-digest =
      let b = private_bounds x.kind e in
      let low = leb-true first_private x.kind b.0 in
      ap digest_item private-item
      ∙ rw (
        past 20 29 x.kind (omega arith),
        past 100 999 x.kind (omega arith),
        past 1000 9999 x.kind (omega arith),
        past 10000 10099 x.kind (omega arith),
      ) refl
    where
      past : (a b k : ℕ) → b < k → leb a k && leb k b ≡ false
      past a b k h = and_false (leb a k) (lt-leb k b h)

  pub private-sound : Framed x → Sound o x
  private-sound g =
      record {
        framed = g;
        head = head-fine o x unlisted (private-shape x.kind e) refl refl;
        inner = inner-fine o x unlisted (private-shape x.kind e) refl;
      }
