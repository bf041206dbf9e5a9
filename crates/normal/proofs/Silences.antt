-- Two cuts of one silence have one normal form (`one_form`), and two lengths of it never have (`two-lengths`). Assumes nothing.
use mathlib.Core.Path.{◌≡◌, refl, sym, ap, ◌∙◌}
use mathlib.Core.Bool.{Bool, true}
use mathlib.Core.List.{List, [], ◌∷◌, ◌++◌}
use mathlib.Core.Option.{Option, some, none}
use Prim.Native.Nat.{ℕ}
use Rattle.layout.specs.Families.{Family, type_c, has_c}
use Rattle.layout.specs.Types.{Shape}
use Rattle.frame.specs.Frames.{Tup, frames}
use Rattle.frame.specs.Tuples.{AllFramed}
use Rattle.frame.proofs.Files.{msb-mark}
use Rattle.frame.proofs.Tuples.{tuples_of_lem}
use Rattle.content.specs.Pings.{Ping, content_c}
use Rattle.content.specs.Items.{Item, plain, ping, raw, item_by, item_of}
use Rattle.content.proofs.Families.{shape_c}
use Rattle.normal.specs.Contents.{add, items, content_of}
use Rattle.normal.specs.Silences.{among, holding, length_in, CutOtherwise}
use Rattle.normal.specs.Demand.{Call}
use Rattle.normal.proofs.Outcomes.{demand3}

-- lists with one beginning that are equal go on alike
behind-same : {A : Type 0} (xs : List A) {ys zs : List A} → xs ++ ys ≡ xs ++ zs → ys ≡ zs
behind-same [] e = e
behind-same (x ∷ xs) e = behind-same xs (cc e)

length_by : Item → Option ℕ
length_by (plain k vs) = none
length_by (ping p) = p.length
length_by (raw k d) = none

first_length : List Item → Option ℕ
first_length [] = none
first_length (i ∷ is) = length_by i

module _ (p : Family) (packs : has_c p ≡ true) (o : Bool) (xs ys : List Tup) where
  -- what stands before the ping and behind it says what it says anywhere
  add_append : (x : Option Item) (l m : List Item) → add x (l ++ m) ≡ add x l ++ m
  add_append none l m = refl
  add_append (some i) l m = refl

  items_append : (ts us : List Tup) → items o (ts ++ us) ≡ items o ts ++ items o us
  unfolding items
  items_append [] us = refl
  items_append (t ∷ ts) us = ap (add (item_of o t)) (items_append ts us) ∙ add_append (item_of o t) (items o ts) (items o us)

  -- the content of a file that holds it
  says : (d : List ℕ) → AllFramed (among p xs d ys) → content_of (holding p o xs d ys) ≡ items o xs ++ (ping (content_c p o d) ∷ items o ys)
  unfolding content_of items item_of
  says d f =
      (λ i. items (msb-mark o (frames o (among p xs d ys)) i) (tuples_of_lem o (among p xs d ys) f i))
      ∙ items_append xs _
      ∙ ap (λ (q : Shape). items o xs ++ add (item_by q o (record { kind = type_c p; body = d })) (items o ys)) (shape_c p packs)

  module _ (d e : List ℕ) (f : AllFramed (among p xs d ys)) (g : AllFramed (among p xs e ys)) {v w : List ℕ}
      (c : Call (holding p o xs d ys) v) (k : Call (holding p o xs e ys) w) where
    same-ping : CutOtherwise p o d e → content_c p o d ≡ content_c p o e
    unfolding content_c
    same-ping s = λ i. record { family = p; head = s.header i; samples = s.samples i; length = s.length i; attr = s.attribute i }

    pub one_form : CutOtherwise p o d e → v ≡ w
    one_form s =
        (demand3.equal c k).1
        (says d f ∙ ap (λ (q : Ping). items o xs ++ (ping q ∷ items o ys)) (same-ping s) ∙ sym (says e g))

    pub two-lengths : (length_in p o d ≡ length_in p o e → ⊥) → v ≡ w → ⊥
    unfolding content_c length_by first_length
    two-lengths apart same =
        let contents = sym (says d f) ∙ (demand3.equal c k).0 same ∙ says e g in
        apart (ap first_length (behind-same (items o xs) contents))
