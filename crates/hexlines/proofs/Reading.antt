-- The input line by line: what a line adds to it, bad or good; and the loop over the lines, in which finishing from here gives the
-- whole answer. Assumes nothing.
use mathlib.Core.Path.{◌≡◌, refl, sym, ap, ◌∙◌}
use mathlib.Core.Bool.{Bool, true, false, not, ◌||◌}
use mathlib.Core.List.{List, [], ◌∷◌, ◌++◌}
use Prim.Native.Nat.{ℕ, ◌+◌, ◌-◌, ◌/◌, ◌%◌, ◌≤◌, ◌<◌}
use native.Mathlib.Nat.{add-zero, pos_of_ne-zero}
use native.Mathlib.Omega.{arith}
use lib.Dec.{eqb, ltb}
use lib.ListN.{length, take, drop, length-append, length-drop, drop_of_length-le}
use lib.Seq.{sets, sets-eq, drop-drop, take_at, length-take-le, length-sets}
use borrow.Author.Tests.{eqb-true, eqb-false, ltb-false, not-false}
use Rattle.order.proofs.Stores.{sets_append}
use Rattle.std.specs.Prelude.{Result, Ok, Err}
use Rattle.hexlines.specs.Lines.{room, lines_of, all_digits, bytes_in, is_bad, Input, bad, bytes, joined, input_from, input_of}
use Rattle.hexlines.specs.inner.Reading.{line_length, bytes_before, counted, Read}
use Rattle.hexlines.proofs.Digits.{by_bool, length-bytes_in}
use Rattle.hexlines.proofs.Lines.{line-within, lines_cons}

-- ---- a good line
none_true : (a b : Bool) → (a || b) ≡ false → (a ≡ false) × (b ≡ false)
none_true true b e = (e, cc)
none_true false b e = (refl, e)

pub record Good (n : ℕ) (l : List ℕ) : Type 0 where
  pub some : 0 < length l
  pub even : length l % 2 ≡ 0
  pub digits : all_digits l ≡ true
  pub within : n + length l / 2 ≤ room

pub good : (n : ℕ) (l : List ℕ) → is_bad n l ≡ false → Good n l
good n l e =
    let limit = none_true (eqb (length l) 0 || not (eqb (length l % 2) 0) || not (all_digits l)) (ltb room (n + length l / 2)) e in
    let hexadecimal = none_true (eqb (length l) 0 || not (eqb (length l % 2) 0)) (not (all_digits l)) limit.0 in
    let even = none_true (eqb (length l) 0) (not (eqb (length l % 2) 0)) hexadecimal.0 in
    record {
      some = pos_of_ne-zero (eqb-false _ _ even.0);
      even = eqb-true _ _ (not-false _ even.1);
      digits = not-false _ hexadecimal.1;
      within = ltb-false _ _ limit.1;
    }

-- ---- what a first line adds
module _ (n : ℕ) (l : List ℕ) (ls : List (List ℕ)) where
  pub input_bad : (i : ℕ) → is_bad n l ≡ true → input_from i n (l ∷ ls) ≡ bad i
  unfolding input_from
  input_bad i e = rw (e, input_from)

  pub input_good : (i : ℕ) → is_bad n l ≡ false → input_from i n (l ∷ ls) ≡ joined (bytes_in l) (input_from (i + 1) (n + length l / 2) ls)
  unfolding input_from
  input_good i e = rw (e, input_from)

  before-bad : is_bad n l ≡ true → bytes_before n (l ∷ ls) ≡ []
  unfolding bytes_before
  before-bad e = rw (e, bytes_before)

  before-good : is_bad n l ≡ false → bytes_before n (l ∷ ls) ≡ bytes_in l ++ bytes_before (n + length l / 2) ls
  unfolding bytes_before
  before-good e = rw (e, bytes_before)

counted-joined : (n : ℕ) (l : List ℕ) (x : Input) → counted n (joined l x) ≡ counted (n + length l) x
counted-joined n l (bad i) = refl
counted-joined n l (bytes bs) = ap Ok (omega (arith, length-append l bs))

-- ---- the loop over the lines, at a place
pub record Reading (text bytes₀ bytes : List ℕ) (number decoded at : ℕ) : Type 0 where
  pub within : decoded ≤ room
  pub place : at ≤ length text + 1
  pub few : number ≤ at + 1
  pub long : length bytes ≡ length bytes₀
  pub answer : counted decoded (input_from number decoded (lines_of (drop at text))) ≡ counted 0 (input_of text)
  pub memory : sets bytes decoded (bytes_before decoded (lines_of (drop at text))) ≡ sets bytes₀ 0 (bytes_before 0 (lines_of text))

pub reading_begin : (text bytes₀ : List ℕ) → Reading text bytes₀ bytes₀ 1 0 0
reading_begin text bytes₀ =
    record { within = omega arith; place = omega arith; few = omega arith; long = refl; answer = refl; memory = refl }

pub reading_done : {text bytes₀ bytes : List ℕ} {number decoded at : ℕ} → Reading text bytes₀ bytes number decoded at → length text ≤ at
    → Read text bytes₀ (Ok decoded) bytes
unfolding lines_of input_from bytes_before
reading_done {text} {bytes₀} {bytes} {number} {decoded} {at} g h =
    let e : drop at text ≡ [] = drop_of_length-le text h in
    record {
      answer =
          ap Ok (sym (add-zero decoded))
          ∙ ap (λ (t : List ℕ). counted decoded (input_from number decoded (lines_of t))) (sym e)
          ∙ g.answer;
      memory = ap (λ (t : List ℕ). sets bytes decoded (bytes_before decoded (lines_of t))) (sym e) ∙ g.memory;
    }

-- the line at the place, which ends at a second place
module _ (text : List ℕ) (at end : ℕ) (h : at < length text) (e : end ≡ at + line_length (drop at text)) where
  abbrev line : List ℕ
  line = take (end - at) (drop at text)

  pub end-within : (at ≤ end) × (end ≤ length text)
  end-within = omega (arith, line-within (drop at text), length-drop at text)

  pub line-length : length line ≡ end - at
  line-length = length-take-le (end - at) (drop at text) (omega (arith, line-within (drop at text)))

  parted : lines_of (drop at text) ≡ line ∷ lines_of (drop (end + 1) text)
  parted =
      let n : line_length (drop at text) ≡ end - at = omega arith in
      let m : at + (line_length (drop at text) + 1) ≡ end + 1 = omega arith in
      lines_cons (drop at text) (omega (arith, length-drop at text))
      ∙ ap (λ (k : ℕ). take k (drop at text) ∷ lines_of (drop (line_length (drop at text) + 1) (drop at text))) n
      ∙ ap (λ (t : List ℕ). line ∷ lines_of t) (drop-drop (line_length (drop at text) + 1) at text ∙ ap (λ (k : ℕ). drop k text) m)

  module _ {bytes₀ bytes : List ℕ} {number decoded : ℕ} (g : Reading text bytes₀ bytes number decoded at) where
    pub reading_bad : is_bad decoded line ≡ true → Read text bytes₀ (Err number) bytes
    reading_bad b =
        record {
          answer =
              ap (counted decoded) (sym
              (ap (input_from number decoded) parted ∙ input_bad decoded line (lines_of (drop (end + 1) text)) number b))
              ∙ g.answer;
          memory =
              ap (sets bytes decoded) (sym (ap (bytes_before decoded) parted ∙ before-bad decoded line (lines_of (drop (end + 1) text)) b))
              ∙ g.memory;
        }

    pub reading_again : is_bad decoded line ≡ false → (left : List ℕ) → left ≡ sets bytes decoded (bytes_in line)
        → Reading text bytes₀ left (number + 1) (decoded + (end - at) / 2) (end + 1)
    reading_again b left put =
        let ls = lines_of (drop (end + 1) text) in
        let k : length line / 2 ≡ (end - at) / 2 = ap (λ (n : ℕ). n / 2) line-length in
        let n : length (bytes_in line) ≡ (end - at) / 2 = length-bytes_in line ∙ k in
        let some = (good decoded line b).some in
        record {
          within = omega (arith, (good decoded line b).within);
          place = omega (arith, end-within);
          few = omega (arith, g.few, line-length);
          long = ap length put ∙ length-sets bytes decoded (bytes_in line) ∙ g.long;
          answer =
              sym (ap (counted decoded) (ap (input_from number decoded) parted ∙ input_good decoded line ls number b)
              ∙ counted-joined decoded (bytes_in line) (input_from (number + 1) (decoded + length line / 2) ls)
              ∙ ap (λ (m : ℕ). counted (decoded + m) (input_from (number + 1) (decoded + length line / 2) ls)) n
              ∙ ap (λ (m : ℕ). counted (decoded + (end - at) / 2) (input_from (number + 1) (decoded + m) ls)) k)
              ∙ g.answer;
          memory =
              ap (λ (x : List ℕ). sets x (decoded + (end - at) / 2) (bytes_before (decoded + (end - at) / 2) ls)) put
              ∙ ap (λ (m : ℕ). sets (sets bytes decoded (bytes_in line)) (decoded + m) (bytes_before (decoded + (end - at) / 2) ls)) (sym n)
              ∙ ap (λ (m : ℕ). sets (sets bytes decoded (bytes_in line)) (decoded + length (bytes_in line)) (bytes_before (decoded + m) ls))
              (sym k)
              ∙ sym (ap (sets bytes decoded) (ap (bytes_before decoded) parted ∙ before-good decoded line ls b)
              ∙ sets_append (bytes_in line) (bytes_before (decoded + length line / 2) ls) bytes decoded)
              ∙ g.memory;
        }

-- ---- what the reader answers settles the input
-- the bytes of good lines stand in memory, within the limit
abbrev Before : List (List ℕ) → ℕ → List ℕ → Type 0
Before ls n bs = (bytes_before n ls ≡ bs) × (n + length bs ≤ room)

before-line : (l : List ℕ) (ls : List (List ℕ)) (n : ℕ) (bs : List ℕ) (x : Input) → is_bad n l ≡ false
    → ((cs : List ℕ) → x ≡ bytes cs → Before ls (n + length l / 2) cs) → joined (bytes_in l) x ≡ bytes bs → Before (l ∷ ls) n bs
before-line l ls n bs (bad k) b rest e = absurd (let z : ◌≡◌ {A = ℕ} 0 1 = cc in omega arith)
before-line l ls n bs (bytes cs) b rest e =
    let both : bytes_in l ++ cs ≡ bs = cc in
    let r = rest cs refl in (
      before-good n l ls b ∙ ap (λ (x : List ℕ). bytes_in l ++ x) r.0 ∙ both,
      omega (arith, r.1, ap length both, length-append (bytes_in l) cs, length-bytes_in l),
    )

input_before : (ls : List (List ℕ)) (i n : ℕ) (bs : List ℕ) → n ≤ room → input_from i n ls ≡ bytes bs → Before ls n bs
input_before [] i n bs h e = unfold input_from bytes_before in let none : [] ≡ bs = cc in (none, omega (arith, ap length none))
input_before (l ∷ ls) i n bs h e =
    by_bool (is_bad n l) (λ b. absurd (let z : ◌≡◌ {A = ℕ} 0 1 = cc (input_bad n l ls i b) in omega arith))
    (λ b. before-line l ls n bs _ b (λ cs q. input_before ls (i + 1) (n + length l / 2) cs (good n l b).within q)
    (sym (input_good n l ls i b) ∙ e))

module _ {text bytes₀ left : List ℕ} {r : Result ℕ ℕ} (p : Read text bytes₀ r left) (n : ℕ) where
  pub read-bad : r ≡ Err n → input_of text ≡ bad n
  read-bad e = by_input (input_of text) (sym e ∙ p.answer)
    where
      by_input : (x : Input) → Err n ≡ counted 0 x → x ≡ bad n
      by_input (bad k) q = ap bad (sym (cc q))
      by_input (bytes bs) q = absurd (let z : ◌≡◌ {A = ℕ} 0 1 = cc in omega arith)

  pub read-bytes : room ≡ length bytes₀ → r ≡ Ok n → (n ≤ room) × (input_of text ≡ bytes (take n left))
  read-bytes long e = by_input (input_of text) refl (sym e ∙ p.answer)
    where
      by_input : (x : Input) → input_of text ≡ x → Ok n ≡ counted 0 x → (n ≤ room) × (input_of text ≡ bytes (take n left))
      by_input (bad k) q z = absurd (let y : ◌≡◌ {A = ℕ} 0 1 = cc in omega arith)
      by_input (bytes bs) q z =
          let m : n ≡ 0 + length bs = cc in
          let b = input_before (lines_of text) 1 0 bs (omega arith) q in
          let stored : left ≡ bs ++ drop (0 + length bs) bytes₀ = p.memory
          ∙ ap (sets bytes₀ 0) b.0
          ∙ sets-eq bs bytes₀ 0 (omega (arith, b.1)) in
          (omega (arith, b.1), q ∙ ap bytes (sym (ap (take n) stored ∙ take_at bs (drop (0 + length bs) bytes₀) n (omega arith))))
