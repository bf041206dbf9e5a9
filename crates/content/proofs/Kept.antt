-- The whole interface of the tuple level to the file level: of a sound tuple's content the normal form is sound and has that
-- content. Assumes nothing.
use mathlib.Core.Path.{◌≡◌, refl, sym, subst}
use mathlib.Core.Bool.{Bool, false}
use mathlib.Core.Option.{some, none}
use Prim.Native.Nat.{ℕ}
use native.Mathlib.Omega.{arith}
use Rattle.layout.specs.Types.{Shape, indexed, row, uncompressed, compressed, unlisted, shape_of}
use Rattle.frame.specs.Frames.{Tup, length_of}
use Rattle.content.specs.Pings.{content_u, content_c}
use Rattle.content.specs.Items.{Item, raw, item_by, item_of}
use Rattle.content.specs.Forms.{form_of}
use Rattle.content.proofs.Fine.{Sound, Kept, head-length, head-fine, inner_was, inner-fine, upward-least}
use Rattle.content.proofs.Plain.{kept-plain}
use Rattle.content.proofs.Families.{plain-least, some_sample_bytes}
use Rattle.content.proofs.Places.{listed_u, listed_c}
use Rattle.content.proofs.Pings.{good_u, good_c, kept-ping}

none-some : {A : Type 0} {B : Type 0} {a : A} → none ≡ some a → B
none-some {a = a} e = absurd (let z : ◌≡◌ {A = ℕ} 0 1 = cc in omega arith)

-- an unlisted tuple is its own normal form, but for the order of its frame
kept-raw : (o : Bool) (t : Tup) → shape_of t.kind ≡ unlisted → Sound o t → Kept (raw t.kind t.body)
unfolding form_of item_of
kept-raw o t s g =
    record {
      sound = record { framed = g.framed; head = head-fine false t unlisted s refl refl; inner = inner-fine false t unlisted s refl };
      item = subst (λ (q : Shape). item_by q false t ≡ some (raw t.kind t.body)) (sym s) refl;
    }

pub kept : (o : Bool) (t : Tup) → Sound o t → (i : Item) → item_of o t ≡ some i → Kept i
unfolding item_of
kept o t g i e = by_shape (shape_of t.kind) refl
  where
    this : (q : Shape) → shape_of t.kind ≡ q → item_by q o t ≡ some i
    this q s = subst (λ (x : Shape). item_by x o t ≡ some i) s e

    by_shape : (q : Shape) → shape_of t.kind ≡ q → Kept i
    by_shape indexed s = none-some (this indexed s)
    by_shape (row fs x) s = subst Kept (cc (this (row fs x) s)) (kept-plain o t fs x s g)
    by_shape (uncompressed f) s =
        let fits = head-length o t (uncompressed f) s g.head in
        let n = plain-least f (length_of t) fits in
        subst Kept (cc (this (uncompressed f) s)) (kept-ping (content_u f o t.body)
        (good_u o t g.framed (omega (arith, some_sample_bytes f)) f (listed_u t.kind f s) fits
        (inner_was o t (uncompressed f) s g.inner)))
    by_shape (compressed f) s =
        let n = upward-least 40 (length_of t) _ (head-length o t (compressed f) s g.head) in
        subst Kept (cc (this (compressed f) s)) (kept-ping (content_c f o t.body)
        (good_c o t g.framed (omega arith) f (listed_c t.kind f s) (omega arith) (inner_was o t (compressed f) s g.inner)))
    by_shape unlisted s = subst Kept (cc (this unlisted s)) (kept-raw o t s g)
