-- Bytes divided into tuples, one at a time: what stands at their front, and what is left behind it. Assumes nothing.
use mathlib.Core.Path.{◌≡◌, refl, sym, ap, ap₂, subst, ◌∙◌}
use mathlib.Core.Bool.{Bool, true, false, true≢false}
use mathlib.Core.List.{List, [], ◌∷◌, ◌++◌, append_assoc, append-nil}
use Prim.Native.Nat.{ℕ, zero, suc, ◌+◌, ◌≤◌}
use native.Mathlib.Omega.{arith}
use lib.ListN.{length, drop, length-append, length-drop}
use lib.Seq.{drop-drop, drop_at}
use Rattle.order.specs.Order.{Bytes}
use Rattle.order.proofs.Laws.{bytes_drop}
use Rattle.layout.proofs.Verdicts.{fine-is}
use Rattle.layout.specs.Verdict.{Verdict}
use Rattle.layout.specs.Verdict.{Fine, Fault}
use Rattle.frame.specs.Frames.{Tup, length_of, frame, frames, len_at, kind_at, tup_at, framing, Framed}
use Rattle.frame.specs.Tuples.{tuples_from, AllFramed}
use Rattle.frame.proofs.Frames.{length-frame, allowed_16, framed, cut, size-frame, kind-frame, tup_frame, framing-frame}
use Rattle.edits.specs.Edits.{tuples_in, rest_in}
use Rattle.layout.specs.Answers.{is_fine}
use Rattle.edits.specs.inner.Parts.{is_tuple}

-- ---- as many turns as there are bytes are enough
from_next : (k : ℕ) (o : Bool) (r : List ℕ) (v : Verdict) → framing o r ≡ v
    → tuples_from (suc k) o r ≡ (elim v as (λ _. List Tup) [ Fine ↦ tup_at o r ∷ tuples_from k o (drop (len_at o r) r) | Fault c p ↦ [] ])
unfolding tuples_from
from_next k o r v e =
    ap (λ (x : Verdict). elim x as (λ _. List Tup) [ Fine ↦ tup_at o r ∷ tuples_from k o (drop (len_at o r) r) | Fault c p ↦ [] ]) e

none_left : (k : ℕ) (o : Bool) (r : List ℕ) → length r ≤ 0 → tuples_from k o r ≡ []
unfolding tuples_from framing
none_left zero o r h = refl
none_left (suc k) o [] h = refl
none_left (suc k) o (x ∷ r) h = absurd (omega arith)

same-turns : (j k : ℕ) (o : Bool) (r : List ℕ) → length r ≤ j → length r ≤ k → tuples_from j o r ≡ tuples_from k o r
same-turns zero k o r h g = none_left zero o r h ∙ sym (none_left k o r h)
same-turns (suc j) zero o r h g = none_left (suc j) o r g ∙ sym (none_left zero o r g)
same-turns (suc j) (suc k) o r h g = by-frame (framing o r) refl (λ a b. same-turns j k o (drop (len_at o r) r) a b)
  where
    by-frame : (v : Verdict) → framing o r ≡ v
        → (length (drop (len_at o r) r) ≤ j → length (drop (len_at o r) r) ≤ k
        → tuples_from j o (drop (len_at o r) r) ≡ tuples_from k o (drop (len_at o r) r))
        → tuples_from (suc j) o r ≡ tuples_from (suc k) o r
    by-frame Fine e ih =
        from_next j o r Fine e
        ∙ ap (λ (ts : List Tup). tup_at o r ∷ ts) (ih (omega (arith, length-drop (len_at o r) r)) (omega (arith, length-drop (len_at o r) r)))
        ∙ sym (from_next k o r Fine e)
    by-frame (Fault c p) e ih = from_next j o r (Fault c p) e ∙ sym (from_next k o r (Fault c p) e)

in-next : (o : Bool) (r : List ℕ) (v : Verdict) → framing o r ≡ v
    → tuples_in o r ≡ (elim v as (λ _. List Tup) [ Fine ↦ tup_at o r ∷ tuples_in o (drop (len_at o r) r) | Fault c p ↦ [] ])
unfolding tuples_in
in-next o r Fine e =
    let s = drop (len_at o r) r in
    same-turns (length r) (suc (length r)) o r (omega arith) (omega arith)
    ∙ from_next (length r) o r Fine e
    ∙ ap (λ (ts : List Tup). tup_at o r ∷ ts) (same-turns (length r) (length s) o s (omega (arith, length-drop (len_at o r) r)) (omega arith))
in-next o r (Fault c p) e =
    same-turns (length r) (suc (length r)) o r (omega arith) (omega arith) ∙ from_next (length r) o r (Fault c p) e

-- ---- where the frame's rules break
pub tuples-stop : (o : Bool) (r : List ℕ) → is_tuple o r ≡ false → tuples_in o r ≡ []
tuples-stop o r e = by-verdict (framing o r) refl e
  where
    by-verdict : (v : Verdict) → framing o r ≡ v → is_fine v ≡ false → tuples_in o r ≡ []
    by-verdict Fine q h = absurd (true≢false h)
    by-verdict (Fault c p) q h = in-next o r (Fault c p) q

pub rest-stop : (o : Bool) (r : List ℕ) → is_tuple o r ≡ false → rest_in o r ≡ r
unfolding rest_in
rest-stop o r e = ap (λ (ts : List Tup). drop (length (frames o ts)) r) (tuples-stop o r e)

pub no_tuple : (o : Bool) → is_tuple o [] ≡ false
unfolding framing
no_tuple o = refl

-- ---- where they hold: the tuple at the front, its bytes, and what is left
pub record Front (o : Bool) (r : List ℕ) : Type 0 where
  pub tuple : Tup
  pub left : List ℕ
  pub framed : Framed tuple
  pub fine : framing o r ≡ Fine
  pub bytes : r ≡ frame o tuple ++ left
  pub behind : drop (len_at o r) r ≡ left
  pub same : tup_at o r ≡ tuple
  pub size : len_at o r ≡ length_of tuple
  pub kind : kind_at o r ≡ tuple.kind
  pub long : 16 ≤ length_of tuple
  pub fits : length_of tuple + length left ≡ length r
  pub tuples : tuples_in o r ≡ tuple ∷ tuples_in o left
  pub rest : rest_in o r ≡ rest_in o left

-- a framed tuple and what follows it
pub front_of : (o : Bool) (t : Tup) (s : List ℕ) → Framed t → Front o (frame o t ++ s)
unfolding rest_in
front_of o t s g =
    let r = frame o t ++ s in
    let fine = framing-frame o t g s in
    let size : len_at o r ≡ length_of t = ap (λ (k : ℕ). k + 10) (size-frame o t g s) in
    let behind : drop (len_at o r) r ≡ s = ap (λ (n : ℕ). drop n r) size ∙ drop_at (frame o t) s (length_of t) (length-frame o t) in
    let tuples : tuples_in o r ≡ t ∷ tuples_in o s = in-next o r Fine fine
    ∙ ap₂ (λ (u : Tup) (l : List ℕ). u ∷ tuples_in o l) (tup_frame o t g s) behind in
    record {
      tuple = t;
      left = s;
      framed = g;
      fine = fine;
      bytes = refl;
      behind = behind;
      same = tup_frame o t g s;
      size = size;
      kind = kind-frame o t g s;
      long = allowed_16 (length_of t) g.allowed;
      fits = omega (arith, length-append (frame o t) s, length-frame o t);
      tuples = tuples;
      rest = ap (λ (ts : List Tup). drop (length (frames o ts)) r) tuples
          ∙ ap (λ (n : ℕ). drop n r)
          (length-append (frame o t) (frames o (tuples_in o s)) ∙ ap (λ (n : ℕ). n + length (frames o (tuples_in o s))) (length-frame o t))
          ∙ sym (drop-drop (length (frames o (tuples_in o s))) (length_of t) r)
          ∙ ap (drop (length (frames o (tuples_in o s)))) (drop_at (frame o t) s (length_of t) (length-frame o t));
    }

pub front : (o : Bool) (r : List ℕ) → Bytes r → is_tuple o r ≡ true → Front o r
front o r b e =
    let fine = fine-is (framing o r) e in
    subst (Front o) (sym (cut o r b fine)) (front_of o (tup_at o r) (drop (len_at o r) r) (framed o r b fine))

-- ---- bytes that are the frames of tuples, and others behind them
pub tuples-front : (o : Bool) (ts : List Tup) (s : List ℕ) → AllFramed ts → tuples_in o (frames o ts ++ s) ≡ ts ++ tuples_in o s
unfolding front_of
tuples-front o [] s g = refl
tuples-front o (t ∷ ts) s g =
    ap (tuples_in o) (append_assoc (frame o t) (frames o ts) s)
    ∙ (front_of o t (frames o ts ++ s) g.0).tuples
    ∙ ap (λ (us : List Tup). t ∷ us) (tuples-front o ts s g.1)

pub rest-front : (o : Bool) (ts : List Tup) (s : List ℕ) → AllFramed ts → rest_in o (frames o ts ++ s) ≡ rest_in o s
unfolding front_of
rest-front o [] s g = refl
rest-front o (t ∷ ts) s g =
    ap (rest_in o) (append_assoc (frame o t) (frames o ts) s)
    ∙ (front_of o t (frames o ts ++ s) g.0).rest
    ∙ rest-front o ts s g.1

nothing-in : (o : Bool) → tuples_in o [] ≡ []
nothing-in o = tuples-stop o [] (no_tuple o)

pub rest-none : (o : Bool) → rest_in o [] ≡ []
rest-none o = rest-stop o [] (no_tuple o)

pub tuples-in : (o : Bool) (ts : List Tup) → AllFramed ts → tuples_in o (frames o ts) ≡ ts
tuples-in o ts g =
    ap (tuples_in o) (sym (append-nil (frames o ts))) ∙ tuples-front o ts [] g ∙ ap (λ (us : List Tup). ts ++ us) (nothing-in o)
    ∙ append-nil ts

pub rest_in_lem : (o : Bool) (ts : List Tup) → AllFramed ts → rest_in o (frames o ts) ≡ []
rest_in_lem o ts g = ap (rest_in o) (sym (append-nil (frames o ts))) ∙ rest-front o ts [] g ∙ rest-none o

-- ---- any bytes are their tuples and the rest
pub record Divided (o : Bool) (r : List ℕ) : Type 0 where
  pub framed : AllFramed (tuples_in o r)
  pub bytes : r ≡ frames o (tuples_in o r) ++ rest_in o r

broken : (o : Bool) (r : List ℕ) → is_tuple o r ≡ false → Divided o r
broken o r e =
    record {
      framed = subst AllFramed (sym (tuples-stop o r e)) tt;
      bytes = sym (ap₂ (λ (ts : List Tup) (s : List ℕ). frames o ts ++ s) (tuples-stop o r e) (rest-stop o r e));
    }

led : (o : Bool) (r : List ℕ) (p : Front o r) → Divided o p.left → Divided o r
led o r p d =
    let t = p.tuple in
    let s = p.left in
    record {
      framed = subst AllFramed (sym p.tuples) (p.framed, d.framed);
      bytes = p.bytes
          ∙ ap (λ (l : List ℕ). frame o t ++ l) d.bytes
          ∙ sym (append_assoc (frame o t) (frames o (tuples_in o s)) (rest_in o s))
          ∙ sym (ap₂ (λ (ts : List Tup) (l : List ℕ). frames o ts ++ l) p.tuples p.rest);
    }

within : (k : ℕ) (o : Bool) (r : List ℕ) → Bytes r → length r ≤ k → Divided o r
within zero o [] b h = broken o [] (no_tuple o)
within zero o (x ∷ r) b h = absurd (omega arith)
within (suc k) o r b h = by_test (is_tuple o r) refl (λ s c g. within k o s c g)
  where
    by_test : (t : Bool) → is_tuple o r ≡ t → ((s : List ℕ) → Bytes s → length s ≤ k → Divided o s) → Divided o r
    by_test true e ih =
        let p = front o r b e in
        led o r p (ih p.left (subst Bytes p.behind (bytes_drop (len_at o r) r b)) (omega (arith, p.fits, p.long)))
    by_test false e ih = broken o r e

pub divided : (o : Bool) (r : List ℕ) → Bytes r → Divided o r
divided o r b = within (length r) o r b (omega arith)
