-- What the loops over the types carry: with the types still to come, the whole list. Assumes nothing.
use mathlib.Core.Path.{◌≡◌, refl, sym, ap, ap₂, ◌∙◌}
use mathlib.Core.Bool.{Bool, false}
use mathlib.Core.List.{List, [], ◌∷◌, ◌++◌, append-nil, append_assoc}
use Prim.Native.Nat.{ℕ, zero, suc, ◌+◌, ◌-◌, ◌*◌, ◌/◌, ◌%◌, ◌≤◌, ◌<◌}
use native.Mathlib.Omega.{arith}
use lib.ListN.{length, replicate, length-append}
use lib.Seq.{sets, length-sets}
use Rattle.order.specs.Order.{bytes_of}
use Rattle.order.proofs.Laws.{length_bytes_of}
use Rattle.order.proofs.Stores.{sets_append, stored-behind, store_step}
use Rattle.samples.specs.Words.{unwords}
use Rattle.samples.proofs.Words.{length-unwords}
use Rattle.frame.specs.Frames.{frame, length_of}
use Rattle.frame.specs.inner.Framing.{open_bytes, close_bytes}
use Rattle.frame.proofs.Framing.{length_open}
use Rattle.index.specs.Index.{chosen, spaced, index_data, index_tuple}
use Rattle.index.specs.inner.Flags.{flagged, flagged_from, flagged_types, Blank, opening_of}
use Rattle.index.proofs.Laws.{pick, chosen-next, length-chosen, length_data}

-- the types from k on that a test takes
abbrev pub to_come : (ℕ → Bool) → ℕ → List ℕ
to_come p k = chosen p (65536 - k) k

pub come_next : (p : ℕ → Bool) (k : ℕ) (b : Bool) → k < 65536 → p k ≡ b → to_come p k ≡ pick b k (to_come p (k + 1))
come_next p k b h e = let z : 65536 - k ≡ suc (65536 - (k + 1)) = omega arith in
    ap (λ (n : ℕ). chosen p n k) z ∙ chosen-next p (65536 - (k + 1)) k b e

pub come_end : (p : ℕ → Bool) (k : ℕ) → 65536 ≤ k → to_come p k ≡ []
unfolding chosen
come_end p k h = let z : 65536 - k ≡ 0 = omega arith in ap (λ (n : ℕ). chosen p n k) z

-- past types of which none is taken
past-none : (p : ℕ → Bool) (d k : ℕ) → k + d ≤ 65536 → ((j : ℕ) → k ≤ j → j < k + d → p j ≡ false) → to_come p k ≡ to_come p (k + d)
past-none p zero k h e = ap (to_come p) (let z : k ≡ k + 0 = omega arith in z)
past-none p (suc d) k h e =
    let z : k + 1 + d ≡ k + suc d = omega arith in
    come_next p k false (omega arith) (e k (omega arith) (omega arith))
    ∙ past-none p d (k + 1) (omega arith) (λ j a b. e j (omega arith) (omega arith))
    ∙ ap (to_come p) z

pub come_blank : (fs : List ℕ) (from k : ℕ) → Blank fs from k → to_come (flagged fs) from ≡ to_come (flagged fs) k
come_blank fs from k b =
    let z : from + (k - from) ≡ k = omega (arith, b.on) in
    past-none (flagged fs) (k - from) from (omega (arith, b.on, b.few)) (λ j l h. b.none j l (omega (arith, b.on)))
    ∙ ap (to_come (flagged fs)) z

-- past a type that isn't flagged, and those that are none behind it
pub come_past : (fs : List ℕ) (k r : ℕ) → k < 65536 → flagged fs k ≡ false → Blank fs (k + 1) r → flagged_from fs k ≡ flagged_from fs r
come_past fs k r h e b = come_next (flagged fs) k false h e ∙ come_blank fs (k + 1) r b

-- ---- writing: the words of ks, of which those left are to come
pub record Typing (ks : List ℕ) (o : Bool) (out₀ : List ℕ) (to : ℕ) (out : List ℕ) (q : ℕ) (left : List ℕ) : Type 0 where
  pub long : length out ≡ length out₀
  pub room : q + 2 * length left ≡ to + 2 * length ks
  pub same : sets out q (unwords 2 o left) ≡ sets out₀ to (unwords 2 o ks)

pub typing_begin : (ks : List ℕ) (o : Bool) (out : List ℕ) (to : ℕ) (left : List ℕ) → left ≡ ks → Typing ks o out to out to left
typing_begin ks o out to left e =
    record {
      long = refl;
      room = ap (λ (l : List ℕ). to + 2 * length l) e;
      same = ap (λ (l : List ℕ). sets out to (unwords 2 o l)) e;
    }

module _ {ks : List ℕ} {o : Bool} {out₀ : List ℕ} {to : ℕ} {out : List ℕ} {q : ℕ} {left : List ℕ} (c : Typing ks o out₀ to out q left) where
  pub typing_room : (k : ℕ) (rest : List ℕ) → left ≡ k ∷ rest → q + 2 ≤ to + 2 * length ks
  typing_room k rest e = omega (arith, c.room, ap length e)

  pub typing_one : (k : ℕ) (rest : List ℕ) → left ≡ k ∷ rest → (next : List ℕ) → next ≡ sets out q (bytes_of o 2 k)
      → Typing ks o out₀ to next (q + 2) rest
  unfolding unwords
  typing_one k rest e next w =
      record {
        long = ap length w ∙ length-sets out q (bytes_of o 2 k) ∙ c.long;
        room = omega (arith, c.room, ap length e);
        same =
            ap (λ (l : List ℕ). sets l (q + 2) (unwords 2 o rest)) w
            ∙ sym (store_step o 2 k out (unwords 2 o rest) q)
            ∙ ap (λ (l : List ℕ). sets out q (unwords 2 o l)) (sym e)
            ∙ c.same;
      }

  pub typing_end : left ≡ [] → (q ≡ to + 2 * length ks) × (out ≡ sets out₀ to (unwords 2 o ks))
  unfolding unwords
  typing_end e = (omega (arith, c.room, ap length e), sym (ap (λ (l : List ℕ). sets out q (unwords 2 o l)) e) ∙ c.same)

-- ---- the space
words_append : (o : Bool) (us vs : List ℕ) → unwords 2 o (us ++ vs) ≡ unwords 2 o us ++ unwords 2 o vs
unfolding unwords
words_append o [] vs = refl
words_append o (u ∷ us) vs = ap (λ (l : List ℕ). bytes_of o 2 u ++ l) (words_append o us vs)
    ∙ sym (append_assoc (bytes_of o 2 u) (unwords 2 o us) (unwords 2 o vs))

module _ (ks : List ℕ) (o : Bool) (out : List ℕ) (to q : ℕ) (e : q ≡ to + 2 * length ks) (put : List ℕ)
    (p : put ≡ sets out to (unwords 2 o ks)) where
  half : (q - to) / 2 ≡ length ks
  half = omega arith

  odd : ((q - to) / 2 % 2 ≡ 0 → ⊥) → spaced ks ≡ ks ++ (0 ∷ [])
  odd h =
      let y : length ks % 2 ≡ 0 → ⊥ = λ y. h (ap (λ (n : ℕ). n % 2) half ∙ y) in
      let z : length ks % 2 ≡ 1 = omega arith in ap (λ (n : ℕ). ks ++ replicate n 0) z

  pub spaced-odd : ((q - to) / 2 % 2 ≡ 0 → ⊥) → (left : List ℕ) → left ≡ sets put q (bytes_of o 2 0)
      → left ≡ sets out to (unwords 2 o (spaced ks))
  unfolding unwords
  spaced-odd h left w =
      w ∙ ap (λ (l : List ℕ). sets l q (bytes_of o 2 0)) p
      ∙ ap (λ (n : ℕ). sets (sets out to (unwords 2 o ks)) n (bytes_of o 2 0)) (e ∙ ap (λ (n : ℕ). to + n) (sym (length-unwords 2 o ks)))
      ∙ sym (sets_append (unwords 2 o ks) (bytes_of o 2 0) out to)
      ∙ ap (sets out to) (ap (λ (l : List ℕ). unwords 2 o ks ++ l) (sym (append-nil (bytes_of o 2 0))) ∙ sym (words_append o ks (0 ∷ []))
      ∙ ap (unwords 2 o) (sym (odd h)))

-- ---- the frame
pub length-opening : (o : Bool) (n : ℕ) → length (opening_of o n) ≡ 12
unfolding opening_of
length-opening o n =
    length-append (open_bytes o n 65406) (bytes_of o 2 0 ++ bytes_of o 4 0)
    ∙ omega (arith, length_open o n 65406, length-append (bytes_of o 2 0) (bytes_of o 4 0), length_bytes_of o 2 0, length_bytes_of o 4 0)

-- size and type, time fraction, time
pub opening-stored : (o : Bool) (n : ℕ) (out : List ℕ) (to : ℕ)
    → sets (sets (sets out to (open_bytes o n 65406)) (to + 6) (bytes_of o 2 0)) (to + 6 + 2) (bytes_of o 4 0) ≡ sets out to (opening_of o n)
unfolding opening_of
opening-stored o n out to =
    sym (store_step o 2 0 (sets out to (open_bytes o n 65406)) (bytes_of o 4 0) (to + 6))
    ∙ stored-behind (open_bytes o n 65406) (bytes_of o 2 0 ++ bytes_of o 4 0) out to (to + 6) (omega (arith, length_open o n 65406))

regroup : (a b c d e f g : List ℕ) → (((a ++ b) ++ (c ++ d)) ++ e) ++ (f ++ g) ≡ a ++ (b ++ ((c ++ (d ++ (e ++ f))) ++ g))
regroup a b c d e f g = simp append_assoc

module _ (ks : List ℕ) (o : Bool) (out : List ℕ) (to whole : ℕ) (w : whole ≡ 20 + 2 * (length ks + length ks % 2)) where
  size : whole - 10 ≡ length (index_data o ks)
  size = omega (arith, length_data o ks)

  pub whole-index : whole ≡ length_of (index_tuple o ks)
  whole-index = omega (arith, length_data o ks)

  parts : (opening_of o whole ++ unwords 2 o (spaced ks)) ++ close_bytes o whole 0 ≡ frame o (index_tuple o ks)
  unfolding frame index_data opening_of open_bytes close_bytes
  parts =
      let t = unwords 2 o (spaced ks) in
      regroup (bytes_of o 4 (whole - 10)) (bytes_of o 2 65406) (bytes_of o 2 0) (bytes_of o 4 0) t (bytes_of o 4 0) (bytes_of o 4 whole)
      ∙ ap₂
      (λ (a b : ℕ). bytes_of o 4 a ++ (bytes_of o 2 65406 ++ ((bytes_of o 2 0 ++ (bytes_of o 4 0 ++ (t ++ bytes_of o 4 0))) ++ bytes_of o 4 b)))
      size whole-index

  -- opening, types and closing, one behind the other
  pub index-stored : (end : ℕ) → end ≡ to + 12 + 2 * length (spaced ks)
      → sets (sets (sets out to (opening_of o whole)) (to + 12) (unwords 2 o (spaced ks))) end (close_bytes o whole 0)
      ≡ sets out to (frame o (index_tuple o ks))
  index-stored end h =
      let t = unwords 2 o (spaced ks) in
      let s = opening_of o whole in
      ap (λ (l : List ℕ). sets l end (close_bytes o whole 0)) (stored-behind s t out to (to + 12) (omega (arith, length-opening o whole)))
      ∙ stored-behind (s ++ t) (close_bytes o whole 0) out to end
      (omega (arith, length-append s t, length-opening o whole, length-unwords 2 o (spaced ks)))
      ∙ ap (sets out to) parts

pub few-flagged : (fs : List ℕ) → length (flagged_types fs) ≤ 65536
unfolding flagged_types
few-flagged fs = length-chosen (flagged fs) 65536 0
