-- Private tuples in a normal form, in the list of types of an index, and in what salvage keeps. Assumes nothing.
use mathlib.Core.Path.{◌≡◌, refl, sym, ap, ap₂, subst, ◌∙◌}
use mathlib.Core.Bool.{Bool, true, false, ◌&&◌}
use mathlib.Core.List.{List, [], ◌∷◌, ◌++◌}
use mathlib.Core.Option.{Option, some, none}
use Prim.Native.Nat.{ℕ, ◌+◌, ◌<◌}
use native.Mathlib.Omega.{arith}
use borrow.Author.Tests.{lt-ltb}
use lib.Dec.{ltb}
use lib.ListN.{length, length-append}
use Rattle.rules.specs.Rules.First.{here}
use Rattle.rules.proofs.Laws.{first_eq}
use Rattle.layout.specs.Answer.{Accepted, Refused}
use Rattle.layout.specs.Types.{shape_of}
use Rattle.frame.specs.Frames.{Tup, length_of, frame, frames}
use Rattle.frame.specs.Files.{mark, is_msb}
use Rattle.frame.specs.Tuples.{tuples_of}
use Rattle.frame.proofs.Frames.{length-frame}
use Rattle.frame.proofs.Files.{length-mark}
use Rattle.content.specs.Items.{Item, item_of}
use Rattle.content.specs.Forms.{form_of}
use Rattle.normal.specs.Contents.{add, items, content_of, normal_tuples}
use Rattle.normal.specs.Normaliser.{is_unlisted, first_unlisted, normal_rules, behind_check, normal_answer, normal_counts}
use Rattle.partners.specs.Private.{Part, own, put, own_of, all_of, put_in, AllPrivate, parts_of, Mixed}
use Rattle.partners.specs.Answers.{more, extra, Both}
use Rattle.partners.specs.Forms.{own_form, form_parts, first_put, NoneUnlisted}
use Rattle.partners.proofs.Shapes.{private-shape, private-item}
use Rattle.partners.proofs.Files.{put-between, all-private, order-own, order-all, tuples-own, tuples-all}

-- ---- the tuples of a normal form
module _ (o : Bool) where
  own-formed : (ps : List Part) → normal_tuples (items o (own_of ps)) ≡ own_of (form_parts o ps)
  unfolding normal_tuples items form_parts
  own-formed [] = refl
  own-formed (own t ∷ ps) = by (item_of o t) (own-formed ps)
    where
      by : (i : Option Item) → normal_tuples (items o (own_of ps)) ≡ own_of (form_parts o ps)
          → normal_tuples (add i (items o (own_of ps))) ≡ own_of (own_form i (form_parts o ps))
      by none e = e
      by (some i) e = ap (λ (l : List Tup). form_of i ∷ l) e
  own-formed (put x ∷ ps) = own-formed ps

  all-formed : (ps : List Part) → AllPrivate (put_in ps) → normal_tuples (items o (all_of ps)) ≡ all_of (form_parts o ps)
  unfolding normal_tuples items form_parts form_of
  all-formed [] v = refl
  all-formed (own t ∷ ps) v = by (item_of o t) (all-formed ps v)
    where
      by : (i : Option Item) → normal_tuples (items o (all_of ps)) ≡ all_of (form_parts o ps)
          → normal_tuples (add i (items o (all_of ps))) ≡ all_of (own_form i (form_parts o ps))
      by none e = e
      by (some i) e = ap (λ (l : List Tup). form_of i ∷ l) e
  all-formed (put x ∷ ps) v =
      ap (λ (i : Option Item). normal_tuples (add i (items o (all_of ps)))) (private-item o x v.0)
      ∙ ap (λ (l : List Tup). x ∷ l) (all-formed ps v.1)

  put-formed : (ps : List Part) → put_in (form_parts o ps) ≡ put_in ps
  unfolding form_parts
  put-formed [] = refl
  put-formed (own t ∷ ps) = by (item_of o t) (put-formed ps)
    where
      by : (i : Option Item) → put_in (form_parts o ps) ≡ put_in ps → put_in (own_form i (form_parts o ps)) ≡ put_in ps
      by none e = e
      by (some i) e = e
  put-formed (put x ∷ ps) = ap (λ (l : List Tup). x ∷ l) (put-formed ps)

module _ {f g : List ℕ} (m : Mixed f g) where
  pub form-own : normal_tuples (content_of f) ≡ own_of (form_parts m.msb (parts_of m))
  unfolding content_of
  form-own = ap₂ (λ (o : Bool) (ts : List Tup). normal_tuples (items o ts)) (order-own m) (tuples-own m) ∙ own-formed m.msb (parts_of m)

  pub form-all : normal_tuples (content_of g) ≡ all_of (form_parts m.msb (parts_of m))
  unfolding content_of
  form-all =
      ap₂ (λ (o : Bool) (ts : List Tup). normal_tuples (items o ts)) (order-all m) (tuples-all m)
      ∙ all-formed m.msb (parts_of m) (all-private m)

  pub form-put : put_in (form_parts m.msb (parts_of m)) ≡ put_in m.parts
  form-put = put-formed m.msb (parts_of m) ∙ put-between m.parts m.last

-- ---- 18 in MSB order
private-unlisted : (x : Tup) → AllPrivate (x ∷ []) → is_unlisted (shape_of x.kind) ≡ true
private-unlisted x v = ap is_unlisted (private-shape x.kind v.0)

-- some tuple of an unlisted type stands before the end
before-end : (o : Bool) (ps : List Part) → AllPrivate (put_in ps) → (put_in ps ≡ [] → ⊥) → (at : ℕ)
    → first_unlisted at (all_of ps) < at + length (frames o (all_of ps))
unfolding first_unlisted
before-end o [] v n at = absurd (n refl)
before-end o (own t ∷ ps) v n at = by (is_unlisted (shape_of t.kind)) (before-end o ps v n (at + length_of t))
  where
    size : length (frame o t ++ frames o (all_of ps)) ≡ length_of t + length (frames o (all_of ps))
    size = length-append (frame o t) (frames o (all_of ps)) ∙ ap (λ (k : ℕ). k + length (frames o (all_of ps))) (length-frame o t)

    by : (b : Bool) → first_unlisted (at + length_of t) (all_of ps) < at + length_of t + length (frames o (all_of ps))
        → (elim b as (λ _. ℕ) [ true ↦ at | false ↦ first_unlisted (at + length_of t) (all_of ps) ])
        < at + length (frame o t ++ frames o (all_of ps))
    by true r = omega (arith, size)
    by false r = omega (arith, size, r)
before-end o (put x ∷ ps) v n at =
    rw (private-unlisted x (v.0, tt), first_unlisted)
    (omega (arith, length-append (frame o x) (frames o (all_of ps)), length-frame o x))

-- it is the first that is put in, where the file's own are listed
first-unlisted : (ps : List Part) → AllPrivate (put_in ps) → NoneUnlisted (own_of ps) → (at : ℕ)
    → first_unlisted at (all_of ps) ≡ first_put at ps
unfolding first_unlisted first_put
first-unlisted [] v u at = refl
first-unlisted (own t ∷ ps) v u at = rw (u.0, first_unlisted) (first-unlisted ps v u.1 (at + length_of t))
first-unlisted (put x ∷ ps) v u at = rw (private-unlisted x (v.0, tt), first_unlisted)

pub first_18 : {f g : List ℕ} (m : Mixed f g) → NoneUnlisted (tuples_of f)
    → first_unlisted 4 (tuples_of g) ≡ first_put 4 (parts_of m)
first_18 m u =
    ap (first_unlisted 4) (tuples-all m)
    ∙ first-unlisted (parts_of m) (all-private m) (subst NoneUnlisted (tuples-own m) u) 4

module _ {f g : List ℕ} (m : Mixed f g) (b : Both m) (msb : is_msb f ≡ true) (some-put : put_in m.parts ≡ [] → ⊥) where
  low : ltb (first_unlisted 4 (tuples_of g)) (length g) ≡ true
  low =
      let o = m.msb in
      let size = length-append (mark o) (frames o (all_of (parts_of m))) in
      let z = before-end o (parts_of m) (all-private m) (λ e. some-put (sym (put-between m.parts m.last) ∙ e)) 4 in
      lt-ltb (first_unlisted 4 (tuples_of g)) (length g)
      (omega (arith, z, size, length-mark o, ap length m.within, ap (first_unlisted 4) (tuples-all m)))

  pub refused_18 : (room : ℕ) → normal_answer g room ≡ Refused 18 (first_unlisted 4 (tuples_of g))
  unfolding normal_answer
  refused_18 room =
      ap (behind_check g room) b.within
      ∙ sym (first_eq {rs = normal_rules g room} {d = Accepted (normal_counts g (more (extra m) b.counts))}
      (here (ap₂ ◌&&◌ (order-all m ∙ sym (order-own m) ∙ msb) low)))
