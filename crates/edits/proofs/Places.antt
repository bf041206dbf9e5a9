-- A place sought among the tuples of an accepted file: what the walk carries, and what is found. Assumes nothing.
use mathlib.Core.Path.{◌≡◌, refl, sym, ap, subst, ◌∙◌}
use mathlib.Core.Bool.{Bool, true, false, cond}
use mathlib.Core.List.{List, [], ◌∷◌, ◌++◌, append_assoc}
use mathlib.Core.Option.{Option, some, none}
use Prim.Native.Nat.{ℕ, ◌+◌, ◌≤◌, ◌<◌}
use native.Mathlib.Omega.{arith}
use borrow.Author.Tests.{eq-eqb, ne_eqb, leb-true, leb-false}
use lib.Dec.{leb}
use lib.ListN.{length, drop, length-append}
use Rattle.order.specs.Order.{Bytes}
use Rattle.layout.specs.declared.Counts.{Counts}
use Rattle.frame.specs.Frames.{Tup, length_of, frame, frames, len_at}
use Rattle.frame.specs.Files.{is_msb}
use Rattle.frame.specs.Tuples.{tuples_of, AllFramed}
use Rattle.frame.proofs.Frames.{length-frame, allowed_16}
use Rattle.edits.specs.Edits.{without, behind, anew, removed_by, removed_file}
use Rattle.edits.specs.inner.Places.{before, Between, Sought, Taken}
use Rattle.frame.proofs.Tuples.{frames_append, framed-right}
use Rattle.edits.proofs.Ends.{all-taken, cut-within}
use Rattle.edits.proofs.Anew.{size-here, here-within}

-- ---- one tuple left out behind others
before_nil : (x : Option (List Tup)) → x ≡ before [] x
before_nil none = refl
before_nil (some ts) = refl

before-one : (us : List Tup) (t : Tup) (x : Option (List Tup)) → before us (behind t x) ≡ before (us ++ (t ∷ [])) x
before-one us t none = refl
before-one us t (some ts) = ap some (sym (append_assoc us (t ∷ []) ts))

pub without-here : (p at : ℕ) (t : Tup) (ts : List Tup) → at ≡ p → without p at (t ∷ ts) ≡ some ts
unfolding without
without-here p at t ts e =
    ap (λ (b : Bool). cond b (some ts) (behind t (without p (at + length_of t) ts))) (eq-eqb at p e)

pub without-next : (p at : ℕ) (t : Tup) (ts : List Tup) → (at ≡ p → ⊥) → without p at (t ∷ ts) ≡ behind t (without p (at + length_of t) ts)
unfolding without
without-next p at t ts e =
    ap (λ (b : Bool). cond b (some ts) (behind t (without p (at + length_of t) ts))) (ne_eqb at p e)

-- none stands at a place before them
without-none : (p at : ℕ) (ts : List Tup) → p < at → without p at ts ≡ none
unfolding without
without-none p at [] h = refl
without-none p at (t ∷ ts) h =
    without-next p at t ts (λ e. omega (arith, e)) ∙ ap (behind t) (without-none p (at + length_of t) ts (omega arith))

module _ (f : List ℕ) (b : Bytes f) (n : Counts) (k : Taken f n) (p : ℕ) where
  abbrev o : Bool
  o = is_msb f

  pub between-begin : Between f p 4
  between-begin = record { passed = []; coming = tuples_of f; all = refl; place = refl; same = before_nil (without p 4 (tuples_of f)) }

  -- ---- a tuple to come
  pub record Coming (at : ℕ) (g : Between f p at) : Type 0 where
    pub tuple : Tup
    pub later : List Tup
    pub next : g.coming ≡ tuple ∷ later
    pub all : tuples_of f ≡ g.passed ++ (tuple ∷ later)

  pub coming-next : (at : ℕ) (g : Between f p at) → at < length f → Coming at g
  coming-next at g h = by_list g.coming refl
    where
      by_list : (ts : List Tup) → g.coming ≡ ts → Coming at g
      by_list [] e =
          absurd (omega (
            arith,
            h,
            g.place,
            cut-within f b n k g.passed g.coming g.all,
            ap
                (λ (ts : List Tup). length (frames (is_msb f) ts)) e,
          ))
      by_list (t ∷ ts) e = record { tuple = t; later = ts; next = e; all = g.all ∙ ap (λ (us : List Tup). g.passed ++ us) e }

  module _ (at : ℕ) (g : Between f p at) (h : at < length f) where
    -- so many bytes it has
    pub next-size : len_at (is_msb f) (drop at f) ≡ length_of (coming-next at g h).tuple
    next-size =
        let c = coming-next at g h in
        size-here f b n k (is_msb f) refl g.passed c.tuple c.later c.all at g.place

    pub next-within : at + length_of (coming-next at g h).tuple ≤ length f
    next-within =
        let c = coming-next at g h in
        omega (arith, (here-within f b n k (is_msb f) refl g.passed c.tuple c.later c.all at g.place).1)

    pub next-long : 16 ≤ length_of (coming-next at g h).tuple
    next-long =
        let c = coming-next at g h in
        allowed_16 (length_of c.tuple)
        (framed-right g.passed (c.tuple ∷ c.later) (subst AllFramed c.all (all-taken f b n k))).0.allowed

    pub between_next : (at ≡ p → ⊥) → (m : ℕ) → m ≡ length_of (coming-next at g h).tuple → Between f p (at + m)
    between_next ne m e =
        let c = coming-next at g h in
        let t = c.tuple in
        record {
          passed = g.passed ++ (t ∷ []);
          coming = c.later;
          all = c.all ∙ sym (append_assoc g.passed (t ∷ []) c.later);
          place =
              omega (
                arith,
                e,
                g.place,
                ap length (frames_append (is_msb f) g.passed (t ∷ [])),
                length-append (frames (is_msb f) g.passed) (frames (is_msb f) (t ∷ [])),
                length-append (frame (is_msb f) t) [],
                length-frame (is_msb f) t,
              );
          same = g.same
              ∙ ap (before g.passed) (ap (without p at) c.next ∙ without-next p at t c.later ne)
              ∙ before-one g.passed t (without p (at + length_of t) c.later)
              ∙ ap (λ (i : ℕ). before (g.passed ++ (t ∷ [])) (without p (at + i) c.later)) (sym e);
        }

  -- ---- what is found
  module _ (at : ℕ) (s : Sought f p at) where
    abbrev g : Between f p at
    g = s.between

    -- no tuple starts at the place
    pub sought-end : length f ≤ at → without p 4 (tuples_of f) ≡ none
    unfolding without
    sought-end h = by_list s.between.coming refl
      where
        by_list : (ts : List Tup) → s.between.coming ≡ ts → without p 4 (tuples_of f) ≡ none
        by_list [] e = s.between.same ∙ ap (λ (ts : List Tup). before s.between.passed (without p at ts)) e
        by_list (t ∷ ts) e =
            let all = s.between.all ∙ ap (λ (us : List Tup). s.between.passed ++ us) e in
            let w = here-within f b n k (is_msb f) refl s.between.passed t ts all at s.between.place in
            let l = allowed_16 (length_of t)
            (framed-right s.between.passed (t ∷ ts) (subst AllFramed all (all-taken f b n k))).0.allowed in
            absurd (omega (arith, h, w.1, l))

    pub sought-none : (at ≡ p → ⊥) → without p 4 (tuples_of f) ≡ none
    sought-none ne = by_end (leb (length f) at) refl
      where
        lt_of : (p at : ℕ) → p ≤ at → (p ≡ at → ⊥) → p < at
        lt_of p at h ne = omega (arith, h, ne)

        by_end : (x : Bool) → leb (length f) at ≡ x → without p 4 (tuples_of f) ≡ none
        by_end true e = sought-end (leb-true (length f) at e)
        by_end false e =
            let low : at < length f = leb-false (length f) at e in
            let r = s.reached low in
            let h : p < at = lt_of p at r (λ z. ne (sym z)) in
            s.between.same ∙ ap (before s.between.passed) (without-none p at s.between.coming h)

    -- one does
    pub sought-some : (h : at < length f) → at ≡ p
        → without p 4 (tuples_of f) ≡ some (s.between.passed ++ (coming-next at s.between h).later)
    sought-some h e =
        let c = coming-next at s.between h in
        s.between.same
        ∙ ap (before s.between.passed) (ap (without p at) c.next ∙ without-here p at c.tuple c.later e)

    pub sought-file : (h : at < length f) → at ≡ p
        → anew (is_msb f) (s.between.passed ++ (coming-next at s.between h).later) ≡ removed_file f p
    unfolding removed_file
    sought-file h e = sym (ap (removed_by (is_msb f)) (sought-some h e))
