-- What a result holds that the check accepts. Assumes nothing.
use mathlib.Core.Path.{◌≡◌, refl, sym, ap, ap₂, subst, ◌∙◌}
use mathlib.Core.Bool.{Bool, true, false, cond}
use mathlib.Core.List.{List, [], ◌∷◌, ◌++◌, append-nil}
use Prim.Native.Nat.{ℕ}
use lib.Dec.{eqb}
use Rattle.order.specs.Order.{Bytes}
use Rattle.order.proofs.Laws.{bytes_append}
use Rattle.layout.specs.declared.Counts.{Counts}
use Rattle.layout.specs.Answer.{Accepted}
use Rattle.layout.specs.Types
use Rattle.layout.specs.Types.{in_class, classes}
use Rattle.frame.specs.Frames.{Tup, frames}
use Rattle.frame.specs.Files.{mark, is_msb}
use Rattle.frame.specs.Tuples.{tuples_of, AllFramed}
use Rattle.frame.proofs.Files.{msb-mark}
use Rattle.frame.proofs.Tuples.{bytes-frames, framed_join, tuples_of_lem}
use Rattle.links.specs.Links.{start}
use Rattle.links.proofs.Linked.{Linked}
use Rattle.intake.specs.Check.{check_file}
use Rattle.intake.proofs.Accepted
use Rattle.intake.proofs.Accepted.{digests}
use Rattle.index.specs.Index.{types_of, index_data, index_of, before_end, from_end, with_index, outside}
use Rattle.index.proofs.Laws.{few-types, index-framed}
use Rattle.index.proofs.Fresh.{outside-next, outside_append, outside-again, from-outside, types-outside}
use Rattle.edits.specs.Edits.{rewritten}
use Rattle.edits.specs.Results.{indexes, Anew}
use Rattle.edits.proofs.Joining.{outside-framed}
use Rattle.edits.proofs.Ends.{no_end, before_append, from_append}
use Rattle.edits.proofs.Results.{bytes-mark}

-- ---- tuples of the index class
indexes_append : (us vs : List Tup) → indexes (us ++ vs) ≡ indexes us ++ indexes vs
unfolding indexes
indexes_append [] vs = refl
indexes_append (u ∷ us) vs = by_test (in_class Types.index u.kind) (indexes_append us vs)
  where
    by_test : (b : Bool) → indexes (us ++ vs) ≡ indexes us ++ indexes vs
        → cond b (u ∷ indexes (us ++ vs)) (indexes (us ++ vs)) ≡ cond b (u ∷ indexes us) (indexes us) ++ indexes vs
    by_test true e = ap (λ (l : List Tup). u ∷ l) e
    by_test false e = e

none-outside : (ts : List Tup) → indexes (outside ts) ≡ []
unfolding indexes outside
none-outside [] = refl
none-outside (t ∷ ts) = by_test (in_class Types.index t.kind) refl (none-outside ts)
  where
    by_test : (b : Bool) → in_class Types.index t.kind ≡ b → indexes (outside ts) ≡ []
        → indexes (elim b as (λ _. List Tup) [ true ↦ outside ts | false ↦ t ∷ outside ts ]) ≡ []
    by_test true e ih = ih
    by_test false e ih = ap (λ (b : Bool). cond b (t ∷ indexes (outside ts)) (indexes (outside ts))) e ∙ ih

-- ---- from the end of file on
before-from : (ts : List Tup) → before_end (from_end ts) ≡ []
unfolding before_end from_end
before-from [] = refl
before-from (t ∷ ts) = by_test (eqb t.kind 65534) refl (before-from ts)
  where
    by_test : (b : Bool) → eqb t.kind 65534 ≡ b → before_end (from_end ts) ≡ []
        → before_end (elim b as (λ _. List Tup) [ true ↦ t ∷ ts | false ↦ from_end ts ]) ≡ []
    by_test true e ih = rw (e, before_end)
    by_test false e ih = ih

from-from : (ts : List Tup) → from_end (from_end ts) ≡ from_end ts
unfolding from_end
from-from [] = refl
from-from (t ∷ ts) = by_test (eqb t.kind 65534) refl (from-from ts)
  where
    by_test : (b : Bool) → eqb t.kind 65534 ≡ b → from_end (from_end ts) ≡ from_end ts
        → from_end (elim b as (λ _. List Tup) [ true ↦ t ∷ ts | false ↦ from_end ts ])
        ≡ (elim b as (λ _. List Tup) [ true ↦ t ∷ ts | false ↦ from_end ts ])
    by_test true e ih = rw (e, from_end)
    by_test false e ih = ih

-- ---- a result of tuples before the index and from the end of file on
module _ (o : Bool) (us ws : List Tup) (gu : AllFramed us) (gw : AllFramed (from_end ws)) where
  abbrev vs : List Tup
  vs = from_end ws

  abbrev X : Tup
  X = index_of o (us ++ from_end ws)

  -- its tuples
  abbrev T : List Tup
  T = outside us ++ (index_of o (us ++ from_end ws) ∷ outside (from_end ws))

  pub all-result : AllFramed (outside us ++ (index_of o (us ++ from_end ws) ∷ outside (from_end ws)))
  all-result =
      framed_join (outside us) (X ∷ outside vs) (outside-framed us gu)
      (index-framed o (types_of (us ++ vs)) (few-types (us ++ vs)), outside-framed vs gw)

  pub result-tuples : tuples_of (rewritten o us (from_end ws)) ≡ outside us ++ (index_of o (us ++ from_end ws) ∷ outside (from_end ws))
  unfolding rewritten
  result-tuples = tuples_of_lem o T all-result

  pub result-order : is_msb (rewritten o us (from_end ws)) ≡ o
  unfolding rewritten
  result-order = msb-mark o (frames o T)

  pub result-bytes : Bytes (rewritten o us (from_end ws))
  unfolding rewritten
  result-bytes = bytes_append (mark o) (frames o T) (bytes-mark o) (bytes-frames o T all-result)

  dropped : outside (X ∷ outside vs) ≡ outside vs
  unfolding in_class classes
  dropped = outside-next X (outside vs) true refl ∙ outside-again vs

  pub result-others : outside (outside us ++ (index_of o (us ++ from_end ws) ∷ outside (from_end ws))) ≡ outside (us ++ from_end ws)
  result-others =
      outside_append (outside us) (X ∷ outside vs) ∙ ap₂ (λ (ps qs : List Tup). ps ++ qs) (outside-again us) dropped ∙ sym
      (outside_append us vs)

  same-types : types_of T ≡ types_of (us ++ vs)
  same-types = sym (types-outside T) ∙ ap types_of result-others ∙ types-outside (us ++ vs)

  result-one : indexes T ≡ index_of o T ∷ []
  unfolding indexes in_class classes
  result-one =
      indexes_append (outside us) (X ∷ outside vs)
      ∙ ap₂ (λ (ps qs : List Tup). ps ++ (X ∷ qs)) (none-outside us) (none-outside vs)
      ∙ ap (λ (ks : List ℕ). record { kind = 65406; body = index_data o ks } ∷ []) (sym same-types)

  module _ (n : Counts) (e : check_file (rewritten o us (from_end ws)) ≡ Accepted n) where
    linked : Linked true start (digests o T)
    linked =
        let g = rewritten o us (from_end ws) in
        subst (λ (q : Bool × List Tup). Linked true start (digests q.0 q.1)) (λ i. (result-order i, result-tuples i))
        (Accepted.divided g result-bytes n e).linked

    result-place : T ≡ with_index o (outside T)
    unfolding with_index
    result-place =
        let free = no_end o true start (outside us) X (outside vs) linked in
        let apart : outside T ≡ outside us ++ outside vs = result-others ∙ outside_append us vs in
        let tail : outside vs ≡ from_end (outside ws) = sym (from-outside ws) in
        let front : before_end (outside T) ≡ outside us = ap before_end apart
        ∙ before_append (outside us) (outside vs) free
        ∙ ap (λ (l : List Tup). outside us ++ l) (ap before_end tail ∙ before-from (outside ws))
        ∙ append-nil (outside us) in
        let back : from_end (outside T) ≡ outside vs = ap from_end apart
        ∙ from_append (outside us) (outside vs) free
        ∙ ap from_end tail
        ∙ from-from (outside ws)
        ∙ sym tail in
        let ks : types_of (us ++ vs) ≡ types_of (outside T) = sym same-types ∙ sym (types-outside T) in
        sym ((λ i. front i ++ (record { kind = 65406; body = index_data o (sym ks i) } ∷ back i)))

    pub result-anew : Anew o (us ++ from_end ws) (rewritten o us (from_end ws))
    result-anew =
        let t = result-tuples in
        record {
          order = result-order;
          counts = n;
          accepted = e;
          others = ap outside t ∙ result-others;
          one = subst (λ (ts : List Tup). indexes ts ≡ index_of o ts ∷ []) (sym t) result-one;
          place = subst (λ (ts : List Tup). ts ≡ with_index o (outside ts)) (sym t) result-place;
        }
