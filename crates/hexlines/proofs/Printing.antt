-- The printed lines of a normal form: the loop over its tuples, in which finishing from here prints the whole. Assumes nothing.
use mathlib.Core.Path.{◌≡◌, refl, sym, ap, ap₂, subst, ◌∙◌}
use mathlib.Core.Bool.{false}
use mathlib.Core.List.{List, [], ◌∷◌, ◌++◌}
use Prim.Native.Nat.{ℕ, ◌+◌, ◌-◌, ◌*◌, ◌≤◌, ◌<◌}
use native.Mathlib.Omega.{arith}
use lib.ListN.{length, take, drop, length-append, length-drop, drop_of_length-le}
use lib.Seq.{sets, take_at, drop_at, drop-drop, length-sets}
use Rattle.frame.specs.Frames.{Tup, length_of, frame, frames, len_at}
use Rattle.frame.specs.Files.{mark}
use Rattle.frame.proofs.Frames.{allowed_16, length-frame, size-frame, rest-frame}
use Rattle.frame.proofs.Files.{length-mark}
use Rattle.frame.specs.Tuples.{AllFramed}
use Rattle.hexlines.specs.Lines.{line_feed, hex, line}
use Rattle.hexlines.specs.Programs.{tuple_lines, file_lines}
use Rattle.hexlines.specs.inner.Printing.{Put, Form}
use Rattle.hexlines.proofs.Digits.{length-hex}
use Rattle.hexlines.proofs.Stores.{put_rest}

pub length-line : (bs : List ℕ) → length (line (hex bs)) ≡ 2 * length bs + 1
length-line bs = omega (arith, length-append (hex bs) (line_feed ∷ []), length-hex bs)

-- ---- the mark's line
module _ (form : List ℕ) (ts : List Tup) (f : Form form ts) where
  pub mark-within : 4 ≤ length form
  mark-within = omega (arith, ap length f.whole, length-append (mark false) (frames false ts), length-mark false)

  pub marked : take 4 form ≡ mark false
  marked = ap (take 4) f.whole ∙ take_at (mark false) (frames false ts) 4 (length-mark false)

  pub behind-mark : drop 4 form ≡ frames false ts
  behind-mark = ap (drop 4) f.whole ∙ drop_at (mark false) (frames false ts) 4 (length-mark false)

pub length-file_lines : (ts : List Tup) → length (file_lines ts) ≡ 9 + length (tuple_lines ts)
length-file_lines ts = omega (arith, length-append (line (hex (mark false))) (tuple_lines ts), length-line (mark false), length-mark false)

-- ---- the loop over the tuples ts: at a place of the form, with the lines of those that are left to be put at a place of the memory
pub record Printing (form out₀ : List ℕ) (to₀ : ℕ) (ts : List Tup) (out : List ℕ) (to at : ℕ) : Type 0 where
  pub left : List Tup
  pub rest : drop at form ≡ frames false left
  pub framed : AllFramed left
  pub long : length out ≡ length out₀
  pub behind : to + length (tuple_lines left) ≡ to₀ + length (tuple_lines ts)
  pub memory : sets out to (tuple_lines left) ≡ sets out₀ to₀ (tuple_lines ts)

pub printing_begin : (form out₀ : List ℕ) (to₀ : ℕ) (ts : List Tup) → Form form ts → Printing form out₀ to₀ ts out₀ to₀ 4
printing_begin form out₀ to₀ ts f =
    record { left = ts; rest = behind-mark form ts f; framed = f.framed; long = refl; behind = refl; memory = refl }

-- what a turn wants and gives: the tuple at the place is n bytes
pub record Turn (form out₀ : List ℕ) (to₀ : ℕ) (ts : List Tup) (out : List ℕ) (to at n : ℕ) : Type 0 where
  pub some : 16 ≤ n
  pub within : at + n ≤ length form
  pub room : to + 2 * length (take (at + n - at) (drop at form)) + 1 ≤ to₀ + length (tuple_lines ts)
  pub next : (to' : ℕ) (out' : List ℕ) → Put out to (line (hex (take (at + n - at) (drop at form)))) to' out'
      → Printing form out₀ to₀ ts out' to' (at + n)

module _ (form out₀ : List ℕ) (to₀ : ℕ) (ts : List Tup) (out : List ℕ) (to at : ℕ) (h : at < length form) where
  turn_of_lem : (us : List Tup) → drop at form ≡ frames false us → AllFramed us → length out ≡ length out₀
      → to + length (tuple_lines us) ≡ to₀ + length (tuple_lines ts) → sets out to (tuple_lines us) ≡ sets out₀ to₀ (tuple_lines ts)
      → Turn form out₀ to₀ ts out to at (len_at false (drop at form))
  turn_of_lem [] rest framed long behind memory = absurd (omega (arith, ap length rest, length-drop at form))
  turn_of_lem (t ∷ us) rest framed long behind memory =
      let fs = frames false us in
      let n = len_at false (drop at form) in
      let m : len_at false (frame false t ++ fs) ≡ length_of t = ap (λ (k : ℕ). k + 10) (size-frame false t framed.0 fs) in
      let e : n ≡ length_of t = ap (len_at false) rest ∙ m in
      let z : at + n - at ≡ length_of t = omega arith in
      let part : take (at + n - at) (drop at form) ≡ frame false t =
      ap₂ (λ (k : ℕ) (r : List ℕ). take k r) z rest ∙ take_at (frame false t) fs (length_of t) (length-frame false t) in
      let long-line : length (line (hex (frame false t))) ≡ 2 * length_of t + 1 = length-line (frame false t)
      ∙ ap (λ (k : ℕ). 2 * k + 1) (length-frame false t) in
      let both = length-append (line (hex (frame false t))) (tuple_lines us) in
      record {
        some = omega (arith, allowed_16 (length_of t) framed.0.allowed);
        within = omega (arith, ap length rest, length-drop at form, length-append (frame false t) fs, length-frame false t);
        room = omega (arith, ap length part, length-frame false t);
        next = λ to' out' p.
            let q : Put out to (line (hex (frame false t))) to' out' = subst (λ (b : List ℕ). Put out to (line (hex b)) to' out') part p in
            record {
              left = us;
              rest = sym (drop-drop n at form) ∙ ap (λ (r : List ℕ). drop (len_at false r) r) rest ∙ rest-frame false t framed.0 fs;
              framed = framed.1;
              long = ap length q.memory ∙ length-sets out to (line (hex (frame false t))) ∙ long;
              behind = omega (arith, q.behind);
              memory = put_rest q (tuple_lines us) ∙ memory;
            };
      }

  pub printing_turn : Printing form out₀ to₀ ts out to at → (n : ℕ) → n ≡ len_at false (drop at form) → Turn form out₀ to₀ ts out to at n
  printing_turn g n e =
      subst (Turn form out₀ to₀ ts out to at) (sym e) (turn_of_lem g.left g.rest g.framed g.long g.behind g.memory)

-- nothing is left at the end
pub printing_done : {form out₀ : List ℕ} {to₀ : ℕ} {ts : List Tup} {out : List ℕ} {to at : ℕ} → Printing form out₀ to₀ ts out to at
    → length form ≤ at
    → to₀ + length (tuple_lines ts) ≤ length out₀ → Put out₀ to₀ (tuple_lines ts) to out
printing_done {form} {out₀} {to₀} {ts} {out} {to} {at} g h room =
    done g.left (sym g.rest ∙ drop_of_length-le form h) g.behind g.memory
  where
    done : (us : List Tup) → frames false us ≡ [] → to + length (tuple_lines us) ≡ to₀ + length (tuple_lines ts)
        → sets out to (tuple_lines us) ≡ sets out₀ to₀ (tuple_lines ts) → Put out₀ to₀ (tuple_lines ts) to out
    done [] none behind memory = record { behind = omega arith; within = omega (arith, g.long); memory = memory }
    done (t ∷ us) none behind memory =
        absurd (omega (arith, ap length none, length-append (frame false t) (frames false us), length-frame false t))
