-- The index of a normal form: it is no content, it is over the normal tuples, and the types of these are flagged one by one. Assumes
-- nothing.
use mathlib.Core.Path.{◌≡◌, refl, sym, ap, ◌∙◌}
use mathlib.Core.Bool.{Bool, true, false, cond}
use mathlib.Core.List.{List, [], ◌∷◌, ◌++◌}
use mathlib.Core.Option.{Option, some, none}
use Prim.Native.Nat.{ℕ, suc, ◌≤◌}
use native.Mathlib.Omega.{arith}
use lib.ListN.{length}
use Rattle.layout.specs.Types
use Rattle.layout.specs.Types.{Shape, indexed, row, uncompressed, compressed, unlisted, shape_of, in_class}
use Rattle.layout.proofs.Tables.{shape-index}
use Rattle.frame.specs.Frames.{Tup}
use Rattle.content.specs.Items.{Item, item_by, item_of}
use Rattle.content.specs.Forms.{forms_of}
use Rattle.index.specs.Index.{types_of, index_of, before_end, from_end, with_index, outside, reindexed}
use Rattle.index.specs.inner.Flags.{flag, flag_outside, flag_all}
use Rattle.index.proofs.Laws.{end-split, index-item, index-none}
use Rattle.index.proofs.Fresh.{outside-next, outside-indexed}
use Rattle.ping_forms.specs.inner.Measured.{form_type}
use Rattle.normal.specs.Contents.{add, items, normal_tuples, form_tuples}

-- as many tuples as items
pub length-tuples : (c : List Item) → length (normal_tuples c) ≡ length c
unfolding normal_tuples
length-tuples [] = refl
length-tuples (i ∷ c) = ap suc (length-tuples c)

-- the forms of a tuple in front of those of the rest
pub forms-next : (x : Option Item) (c : List Item) → normal_tuples (add x c) ≡ forms_of x ++ normal_tuples c
unfolding normal_tuples
forms-next none c = refl
forms-next (some i) c = refl

-- ---- a tuple without content put in changes no content
items-put : (o : Bool) (x : Tup) → item_of o x ≡ none → (us vs : List Tup) → items o (us ++ (x ∷ vs)) ≡ items o (us ++ vs)
unfolding items
items-put o x e [] vs = ap (λ (i : Option Item). add i (items o vs)) e
items-put o x e (u ∷ us) vs = ap (add (item_of o u)) (items-put o x e us vs)

pub indexed-items : (o : Bool) (ts : List Tup) → items o (with_index o ts) ≡ items o ts
unfolding with_index
indexed-items o ts = items-put o (index_of o ts) (index-item o (types_of ts)) (before_end ts) (from_end ts) ∙ ap (items o) (end-split ts)

-- ---- tuples that all have content are outside the index class
items-few : (o : Bool) (ts : List Tup) → length (items o ts) ≤ length ts
unfolding items
items-few o [] = omega arith
items-few o (t ∷ ts) = by (item_of o t) (items-few o ts)
  where
    by : (x : Option Item) → length (items o ts) ≤ length ts → length (add x (items o ts)) ≤ suc (length ts)
    by none h = omega arith
    by (some i) h = omega arith

all-outside : (o : Bool) (ts : List Tup) → length (items o ts) ≡ length ts → outside ts ≡ ts
unfolding items outside
all-outside o [] e = refl
all-outside o (t ∷ ts) e = by (item_of o t) refl e (λ h. all-outside o ts h)
  where
    by-class : (i : Item) → item_of o t ≡ some i → (b : Bool) → in_class Types.index t.kind ≡ b → outside ts ≡ ts
        → outside (t ∷ ts) ≡ t ∷ ts
    by-class i x true h ih = absurd (let y : none ≡ some i = sym (index-none o t h) ∙ x in let z : ◌≡◌ {A = ℕ} 0 1 = cc in omega arith)
    by-class i x false h ih = outside-next t ts false h ∙ ap (λ (us : List Tup). t ∷ us) ih

    by : (x : Option Item) → item_of o t ≡ x → length (add x (items o ts)) ≡ suc (length ts)
        → (length (items o ts) ≡ length ts → outside ts ≡ ts) → outside (t ∷ ts) ≡ t ∷ ts
    by none q h ih = absurd (omega (arith, h, items-few o ts))
    by (some i) q h ih = by-class i q (in_class Types.index t.kind) refl (ih (omega (arith, h)))

-- so the normal form is its own, indexed afresh
module _ (c : List Item) (same : items false (normal_tuples c) ≡ c) where
  pub forms-outside : outside (form_tuples c) ≡ normal_tuples c
  forms-outside =
      outside-indexed false (normal_tuples c) ∙ all-outside false (normal_tuples c) (ap length same ∙ sym (length-tuples c))

  pub forms-reindexed : form_tuples c ≡ reindexed false (form_tuples c)
  forms-reindexed = ap (with_index false) (sym forms-outside)

-- ---- the type of a tuple's form, flagged
pub flag-form : (o : Bool) (t : Tup) (gs : List ℕ)
    → flag_outside gs (form_type t.kind (item_of o t)) ≡ flag_all gs (forms_of (item_of o t))
unfolding item_of flag_all
flag-form o t gs = by (shape_of t.kind) refl
  where
    by : (q : Shape) → shape_of t.kind ≡ q → flag_outside gs (form_type t.kind (item_by q o t)) ≡ flag_all gs (forms_of (item_by q o t))
    by indexed e = ap (λ (b : Bool). cond b gs (flag gs t.kind)) (shape-index t.kind e)
    by (row fs x) e = refl
    by (uncompressed f) e = refl
    by (compressed f) e = refl
    by unlisted e = refl
