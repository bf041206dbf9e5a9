-- The parts that an accepted file is cut into, and the results that they make. Assumes nothing.
use mathlib.Core.Path.{◌≡◌, refl, sym, ap, ap₂, subst, ◌∙◌}
use mathlib.Core.Bool.{Bool, true, cond}
use mathlib.Core.List.{List, [], ◌∷◌, ◌++◌, append-nil}
use Prim.Native.Nat.{ℕ, ◌+◌, ◌-◌, ◌≤◌}
use native.Mathlib.Omega.{arith}
use lib.Dec.{eqb}
use lib.ListN.{length, take, drop, length-append, length-drop}
use lib.Seq.{drop_at, drop-drop, take_at, take_all}
use Rattle.order.specs.Order.{Bytes}
use Rattle.layout.specs.declared.Counts.{Counts}
use Rattle.frame.specs.Frames.{Tup, length_of, frame, frames}
use Rattle.frame.specs.Files.{limit, is_msb}
use Rattle.frame.specs.Tuples.{tuples_of, AllFramed}
use Rattle.frame.proofs.Frames.{length-frame, size-frame}
use Rattle.frame.specs.Frames.{len_at}
use Rattle.links.specs.Links.{start}
use Rattle.links.proofs.Linked.{Linked}
use Rattle.intake.proofs.Accepted
use Rattle.intake.proofs.Accepted.{digests}
use Rattle.index.specs.Index.{before_end, from_end}
use Rattle.index.proofs.Laws.{end-split}
use Rattle.edits.specs.Edits.{rewritten, anew, tuples_in, rest_in, broken_off, joined, indexed_file, appended_file}
use Rattle.edits.specs.inner.Parts.{result_of, Cut}
use Rattle.edits.specs.inner.Places.{Taken}
use Rattle.edits.proofs.Dividing.{tuples-in, rest_in_lem}
use Rattle.edits.proofs.Joining.{result-joined}
use Rattle.frame.proofs.Tuples.{frames_append, framed-left, framed-right}
use Rattle.edits.proofs.Ends.{before_append, from_append, no_end, all-taken, taken-small, cut-within}
use Rattle.edits.proofs.Ends.{cut-before, cut-behind, cut-last}

-- ---- parts that are the frames of tuples
module _ (o : Bool) (us vs : List Tup) (gu : AllFramed us) (gv : AllFramed vs) where
  pub parts-result : (a bytes z : List ℕ) → a ≡ frames o us → z ≡ frames o vs → result_of o a bytes z ≡ joined o us bytes vs
  parts-result a bytes z ea ez =
      ap₂ (λ (x y : List ℕ). result_of o x bytes y) ea ez
      ∙ result-joined o (frames o us) bytes (frames o vs) (rest_in_lem o us gu) (rest_in_lem o vs gv)
      ∙ ap₂ (λ (xs ys : List Tup). joined o xs bytes ys) (tuples-in o us gu) (tuples-in o vs gv)

  pub parts_cut : (a bytes z : List ℕ) → a ≡ frames o us → z ≡ frames o vs → length a ≤ limit → length bytes ≤ limit → length z ≤ limit
      → Cut o a bytes z
  parts_cut a bytes z ea ez la lb lz =
      record {
        first = ap (rest_in o) ea ∙ rest_in_lem o us gu;
        last = ap (rest_in o) ez ∙ rest_in_lem o vs gv;
        first_small = la;
        second_small = lb;
        last_small = lz;
      }

  -- bytes that divide
  pub joined-whole : (ws : List Tup) → AllFramed ws → (bytes : List ℕ) → bytes ≡ frames o ws → joined o us bytes vs ≡ rewritten o
      (us ++ ws) vs
  joined-whole ws gw bytes e =
      let r : rest_in o bytes ≡ [] = ap (rest_in o) e ∙ rest_in_lem o ws gw in
      let t : tuples_in o bytes ≡ ws = ap (tuples_in o) e ∙ tuples-in o ws gw in
      (λ i. cond (eqb (length (r i)) 0) (rewritten o (us ++ t i) vs) (broken_off o (us ++ t i) (r i)))

-- ---- the file cut at its end of file
module _ (f : List ℕ) (b : Bytes f) (n : Counts) (t : Taken f n) (o : Bool) (ho : o ≡ is_msb f) where
  abbrev ts : List Tup
  ts = tuples_of f

  halves : AllFramed (before_end (tuples_of f) ++ from_end (tuples_of f))
  halves = subst AllFramed (sym (end-split (tuples_of f))) (all-taken f b n t)

  -- where the code finds it
  pub end-found : (x : ℕ) → x ≡ length (frames o (before_end (tuples_in o (take (length f - 4) (drop 4 f)))))
      → 4 + x ≡ 4 + length (frames (is_msb f) (before_end (tuples_of f)))
  end-found x e =
      ap (λ (k : ℕ). 4 + k)
      (e
      ∙ ap₂ (λ (p : Bool) (l : List ℕ). length (frames p (before_end (tuples_in p l)))) ho (cut-last f b n t [] (tuples_of f) refl 4 refl)
      ∙ ap (λ (us : List Tup). length (frames (is_msb f) (before_end us))) (tuples-in (is_msb f) (tuples_of f) (all-taken f b n t)))

  module _ (end : ℕ) (h : end ≡ 4 + length (frames (is_msb f) (before_end (tuples_of f)))) where
    pub end-within : (4 ≤ end) × (end ≤ length f)
    end-within =
        let w = cut-within f b n t (before_end (tuples_of f)) (from_end (tuples_of f)) (sym (end-split (tuples_of f))) in
        (omega (arith, h), omega (arith, h, w))

    front-is : take (end - 4) (drop 4 f) ≡ frames o (before_end (tuples_of f))
    front-is =
        cut-before f b n t (before_end (tuples_of f)) (from_end (tuples_of f)) (sym (end-split (tuples_of f))) end h
        ∙ ap (λ (p : Bool). frames p (before_end (tuples_of f))) (sym ho)

    back_is : take (length f - end) (drop end f) ≡ frames o (from_end (tuples_of f))
    back_is =
        cut-last f b n t (before_end (tuples_of f)) (from_end (tuples_of f)) (sym (end-split (tuples_of f))) end h
        ∙ ap (λ (p : Bool). frames p (from_end (tuples_of f))) (sym ho)

    pub inserted_cut : (bytes : List ℕ) → length bytes ≤ limit → Cut o (take (end - 4) (drop 4 f)) bytes
        (take (length f - end) (drop end f))
    inserted_cut bytes l =
        let us = before_end (tuples_of f) in
        let vs = from_end (tuples_of f) in
        let s = taken-small f b n t in
        let w = cut-within f b n t us vs (sym (end-split (tuples_of f))) in
        let o_length : (ws : List Tup) → length (frames o ws) ≡ length (frames (is_msb f) ws) = λ ws. ap
        (λ (p : Bool). length (frames p ws)) ho in
        parts_cut o us vs (framed-left us vs halves) (framed-right us vs halves) (take (end - 4) (drop 4 f)) bytes
        (take (length f - end) (drop end f))
        front-is back_is (omega (arith, ap length front-is, o_length us, w, s)) l (omega (arith, ap length back_is, o_length vs, w, s))

    pub inserted_result : (bytes : List ℕ)
        → result_of o (take (end - 4) (drop 4 f)) bytes (take (length f - end) (drop end f)) ≡ appended_file f bytes
    unfolding appended_file
    inserted_result bytes =
        let us = before_end (tuples_of f) in
        let vs = from_end (tuples_of f) in
        parts-result o us vs (framed-left us vs halves) (framed-right us vs halves) (take (end - 4) (drop 4 f)) bytes
        (take (length f - end) (drop end f)) front-is back_is
        ∙ ap (λ (p : Bool). joined p us bytes vs) ho

-- no bytes appended: the index alone
pub nothing-appended : (f : List ℕ) (bytes : List ℕ) → bytes ≡ [] → appended_file f bytes ≡ indexed_file f
unfolding appended_file indexed_file tuples_in rest_in
nothing-appended f bytes e =
    let o = is_msb f in
    let us = before_end (tuples_of f) in
    let vs = from_end (tuples_of f) in
    joined_nil o us vs bytes e
  where
    joined_nil : (o : Bool) (us vs : List Tup) (bytes : List ℕ) → bytes ≡ [] → joined o us bytes vs ≡ rewritten o us vs
    joined_nil o us vs bytes e =
        ap (λ (l : List ℕ). joined o us l vs) e
        ∙ ap₂ (λ (ws : List Tup) (l : List ℕ). cond (eqb (length l) 0) (rewritten o (us ++ ws) vs) (broken_off o (us ++ ws) l))
        (tuples-in o [] tt) (rest_in_lem o [] tt)
        ∙ ap (λ (ws : List Tup). rewritten o ws vs) (append-nil us)

-- ---- the file with one tuple cut out
module _ (f : List ℕ) (b : Bytes f) (n : Counts) (k : Taken f n) (o : Bool) (ho : o ≡ is_msb f) (us : List Tup) (t : Tup) (vs : List Tup)
    (e : tuples_of f ≡ us ++ (t ∷ vs)) (at : ℕ) (ha : at ≡ 4 + length (frames (is_msb f) us)) where
  abbrev G : AllFramed (us ++ (t ∷ vs))
  G = subst AllFramed e (all-taken f b n k)

  framed-here : AllFramed (t ∷ vs)
  framed-here = framed-right us (t ∷ vs) (subst AllFramed e (all-taken f b n k))

  here-is : drop at f ≡ frame o t ++ frames o vs
  here-is =
      ap (λ (i : ℕ). drop i f) ha ∙ cut-behind f b n k us (t ∷ vs) e ∙ ap (λ (p : Bool). frame p t ++ frames p vs) (sym ho)

  pub size-here : len_at o (drop at f) ≡ length_of t
  size-here = ap (len_at o) here-is ∙ ap (λ (i : ℕ). i + 10) (size-frame o t framed-here.0 (frames o vs))

  o_length : (ws : List Tup) → length (frames o ws) ≡ length (frames (is_msb f) ws)
  o_length ws = ap (λ (p : Bool). length (frames p ws)) ho

  pub here-within : (4 ≤ at) × (at + length_of t + length (frames o vs) ≡ length f)
  here-within =
      let w = cut-within f b n k us (t ∷ vs) e in (
        omega (arith, ha),
        omega
            (arith, ha, w, length-append (frame (is_msb f) t) (frames (is_msb f) vs), length-frame (is_msb f) t, o_length vs),
      )

  module _ (next : ℕ) (hn : next ≡ at + length_of t) where
    behind-is : drop next f ≡ frames o vs
    behind-is =
        ap (λ (i : ℕ). drop i f) hn
        ∙ sym (drop-drop (length_of t) at f)
        ∙ ap (drop (length_of t)) here-is
        ∙ drop_at (frame o t) (frames o vs) (length_of t) (length-frame o t)

    split-is : drop next f ≡ frames o (before_end vs) ++ frames o (from_end vs)
    split-is = behind-is ∙ ap (frames o) (sym (end-split vs)) ∙ frames_append o (before_end vs) (from_end vs)

    pub end-behind : (x : ℕ) → x ≡ length (frames o (before_end (tuples_in o (take (length f - next) (drop next f)))))
        → next + x ≡ next + length (frames o (before_end vs))
    end-behind x h =
        ap (λ (i : ℕ). next + i)
        (h
        ∙ ap (λ (l : List ℕ). length (frames o (before_end (tuples_in o l))))
        (take_all (length f - next) (drop next f) (omega (arith, length-drop next f)) ∙ behind-is)
        ∙ ap (λ (ws : List Tup). length (frames o (before_end ws))) (tuples-in o vs framed-here.1))

    module _ (end : ℕ) (he : end ≡ next + length (frames o (before_end vs))) where
      pub removed-within : (at ≤ next) × (next ≤ end) × (end ≤ length f)
      removed-within = (
        omega (arith, hn),
        omega (arith, he),
        omega (
          arith,
          he,
          hn,
          here-within.1,
          ap length (sym behind-is ∙ split-is),
          length-append (frames o (before_end vs))
              (frames o (from_end vs)),
        ),
      )

      first-is : take (at - 4) (drop 4 f) ≡ frames o us
      first-is = cut-before f b n k us (t ∷ vs) e at ha ∙ ap (λ (p : Bool). frames p us) (sym ho)

      second_is : take (end - next) (drop next f) ≡ frames o (before_end vs)
      second_is =
          let m : end - next ≡ length (frames o (before_end vs)) = omega (arith, he) in
          ap₂ take m split-is ∙ take_at (frames o (before_end vs)) (frames o (from_end vs)) (length (frames o (before_end vs))) refl

      last-is : take (length f - end) (drop end f) ≡ frames o (from_end vs)
      last-is =
          take_all (length f - end) (drop end f) (omega (arith, length-drop end f))
          ∙ ap (λ (i : ℕ). drop i f) he
          ∙ sym (drop-drop (length (frames o (before_end vs))) next f)
          ∙ ap (drop (length (frames o (before_end vs)))) split-is
          ∙ drop_at (frames o (before_end vs)) (frames o (from_end vs)) (length (frames o (before_end vs))) refl

      in_halves : AllFramed (before_end vs ++ from_end vs)
      in_halves = subst AllFramed (sym (end-split vs)) framed-here.1

      framed-us : AllFramed us
      framed-us = framed-left us (t ∷ vs) (subst AllFramed e (all-taken f b n k))

      pub removed-cut : Cut o (take (at - 4) (drop 4 f)) (take (end - next) (drop next f)) (take (length f - end) (drop end f))
      removed-cut =
          let s = taken-small f b n k in
          let w = here-within in
          let x = ap length (sym behind-is ∙ split-is) in
          let y = length-append (frames o (before_end vs)) (frames o (from_end vs)) in
          parts_cut o us (from_end vs) framed-us (framed-right (before_end vs) (from_end vs) in_halves) (take (at - 4) (drop 4 f))
          (take (end - next) (drop next f)) (take (length f - end) (drop end f)) first-is last-is
          (omega (arith, ap length first-is, o_length us, ha, w.1, s)) (omega (arith, ap length second_is, w.1, x, y, s))
          (omega (arith, ap length last-is, w.1, x, y, s))

      pub removed-result : result_of o (take (at - 4) (drop 4 f)) (take (end - next) (drop next f)) (take (length f - end) (drop end f))
          ≡ anew (is_msb f) (us ++ vs)
      removed-result =
          let free = no_end (is_msb f) true start us t vs
          (subst (λ (ws : List Tup). Linked true start (digests (is_msb f) ws)) e (Accepted.divided f b n k).linked) in
          parts-result o us (from_end vs) framed-us (framed-right (before_end vs) (from_end vs) in_halves) (take (at - 4) (drop 4 f))
          (take (end - next) (drop next f)) (take (length f - end) (drop end f)) first-is last-is
          ∙ joined-whole o us (from_end vs) framed-us (framed-right (before_end vs) (from_end vs) in_halves) (before_end vs)
          (framed-left (before_end vs) (from_end vs) in_halves) (take (end - next) (drop next f)) second_is
          ∙ (λ i. rewritten (ho i) (sym (before_append us vs free) i) (sym (from_append us vs free) i))
