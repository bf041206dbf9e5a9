-- Laws of words and samples of two bytes, as the code tells them apart. Assumes nothing.
use mathlib.Core.Path.{◌≡◌, refl, sym, ap, subst, ◌∙◌}
use mathlib.Core.Logic.{◌⊎◌, ⊎_elim}
use mathlib.Core.Bool.{Bool, true, false, not, ◌&&◌, ◌||◌}
use mathlib.Core.List.{List, [], ◌∷◌, ◌++◌, map}
use Prim.Native.Nat.{ℕ, zero, suc, ◌+◌, ◌-◌, ◌*◌, ◌/◌, ◌%◌, ◌^◌, ◌≤◌, ◌<◌}
use native.Mathlib.Nat.{zero-add, suc-add, mod-eq_of_lt, mul-le-mul, pow-le-pow_right, mul-div_cancel_left}
use native.Mathlib.Omega.{arith}
use lib.Dec.{eqb, leb, ltb, lit<}
use lib.IntN.{ℤ, pos, negsuc, ◌-ℤ◌, +ℤ_idl}
use lib.Signed.{mag}
use mir.Syntax.{w32}
use mir.Val.{SFits, bool_byte}
use lib.ListN.{length, take, drop, get_or}
use Rattle.std.specs.Simd.{first_chunks}
use Rattle.std.proofs.lemmas.List.{get_or_default, map-append, take-append-drop}
use lib.Seq.{take-length, take-nil, length-take-le}
use borrow.Author.Tests.{eq-eqb, ne_eqb, leb-true, leb-false, lt-ltb, le-ltb, eqb-true}
use Rattle.order.specs.Order.{num_of, signed_of, pattern_of}
use Rattle.rules.proofs.Bools.{both_true, or_left, or_right}
use Rattle.rules.specs.Rules.{◌⇒◌}
use Rattle.layout.specs.Verdict.{Verdict}
use Rattle.layout.specs.Answers.{judged, ◌byte◌}
use Rattle.layout.specs.Families.{Family, narrow, measures_of, sample_bytes, is_bad}
use Rattle.samples.specs.Words.{sample_of, words, all_words, all_samples}
use Rattle.samples.specs.Lists.{handed_bytes}
use Rattle.samples.specs.inner.Narrow.{plain_by, words_by}
use Rattle.samples.specs.Runs.{is_run, decode_from, ends_from, values, first_bad}
use Rattle.samples.specs.Values.{scaled, magnitude, negated, count_of, meant, revalued, samples_in, front, has_space, held_words}
use Rattle.samples.specs.Judging.{most, any_bad, count_at, words_at, judged_words}
use Rattle.samples.proofs.Words.{word_at, words_from, from_all, from_cons}
use Rattle.samples.proofs.Runs.{by_bool}
use Rattle.samples.proofs.Chunks.{samples_on, samples_first}
use Rattle.samples16.specs.inner.Sizes.{plain_of}
use Rattle.samples.proofs.Held.{held-front, held_all}
use Rattle.samples.proofs.Judging.{bad_cons, space-counted}
use Rattle.samples.proofs.Blocks.{words_take}
use Rattle.samples.proofs.Lengths.{ends_last}

-- a word of two bytes is a run from ff00 on
pub run-from : (w : ℕ) → w < 65536 → leb 0xff00 w ≡ is_run 256 w
unfolding is_run
run-from w h =
    by_bool (leb 0xff00 w)
    (λ e. let l = leb-true 0xff00 w e in e ∙ sym (eq-eqb (w / 256) 255 (omega arith)))
    (λ e. let l = leb-false 0xff00 w e in e ∙ sym (ne_eqb (w / 256) 255 (λ z. omega arith)))

-- a sample starts with its number, of two bytes
pub plain_at : (b o : Bool) (part : List ℕ) (p x : ℕ) → x ≡ word_at 2 o part p → x ≡ (sample_of (plain_by b) o (drop p part)).0
plain_at true o part p x e = e
plain_at false o part p x e = e

-- a word outside the limits, as the code tests it
pub outside : (b : Bool) (w last : ℕ) (r : Bool) → r ≡ (leb 0x7f00 w && leb w last) → last ≡ (measures_of (words_by b)).last
    → r ≡ is_bad (words_by b) w
unfolding is_bad
outside true w last r e m = e ∙ ap (λ (n : ℕ). leb 0x7f00 w && leb w n) m
outside false w last r e m = e ∙ ap (λ (n : ℕ). leb 0x7f00 w && leb w n) m

-- ---- CE-16 counts
-- without an exponent a count is its mantissa
pub size_small : (w : ℕ) → w / 4096 ≡ 0 → w % 4096 ≡ magnitude w
unfolding magnitude
size_small w e = ap (λ (n : ℕ). scaled n (w % 4096)) (sym e)

-- with one it has a bit more, and is doubled
module _ (w : ℕ) (h : w < 32768) (some : 1 ≤ w / 4096) where
  abbrev size : ℕ
  size = (4096 + w % 4096) * 2 ^ (w / 4096 - 1)

  size_is : size ≡ magnitude w
  unfolding magnitude
  size_is = let e : suc (w / 4096 - 1) ≡ w / 4096 = omega arith in ap (λ (n : ℕ). scaled n (w % 4096)) e

  size-most : size ≤ 524224
  size-most =
      let a : 4096 + w % 4096 ≤ 8191 = omega arith in
      let b : 2 ^ (w / 4096 - 1) ≤ 2 ^ 6 = pow-le-pow_right {n = 2} (lit< tt) {i = w / 4096 - 1} {j = 6} (omega arith) in
      mul-le-mul a b

  pub size_large : (size % 4294967296 ≡ magnitude w) × (size % 4294967296 ≤ 524224)
  size_large =
      let e : size % 4294967296 ≡ size = mod-eq_of_lt (omega (arith, size-most)) in
      (e ∙ size_is, omega (arith, e, size-most))

-- a count less than nothing
pub minus : (n : ℕ) → pos 0 -ℤ pos n ≡ negated n
minus zero = +ℤ_idl (pos zero)
minus (suc n) = +ℤ_idl (negsuc n)

pub minus-fits : (n : ℕ) → n ≤ 524224 → SFits w32 (negated n)
minus-fits zero h = record { sfits = lit< tt }
minus-fits (suc n) h = record { sfits = omega arith }

-- a signed number of two bytes is one of four; and one of four is found again from its pattern
pub widens : (z : ℤ) → mag z < 32768 → mag z < 2147483648
widens z h = omega arith

found-again : (z : ℤ) → mag z < 2147483648 → signed_of 4 (pattern_of 4 z) ≡ z
found-again (pos n) h = rw (lt-ltb (n + n) 4294967296 (omega arith))
found-again (negsuc n) h =
    let m = 4294967296 - suc n in
    let back : 4294967296 - suc (4294967296 - suc n) ≡ n = omega arith in
    rw (le-ltb (m + m) 4294967296 (omega arith), back)

-- the value that a word stands for
abbrev value_of : Bool → ℕ → ℤ
value_of b w = signed_of (handed_bytes (words_by b)) (meant (words_by b) w)

pub value-encoded : (b : Bool) (w : ℕ) (z : ℤ) → b ≡ true → mag z < 2147483648 → z ≡ count_of w → z ≡ value_of b w
unfolding meant
value-encoded b w z e h c =
    sym (found-again z h) ∙ ap (λ (x : ℤ). signed_of 4 (pattern_of 4 x)) c ∙ ap (λ (k : Bool). value_of k w) (sym e)

pub value-plain : (b : Bool) (w : ℕ) → b ≡ false → signed_of 2 w ≡ value_of b w
unfolding meant
value-plain b w e = ap (λ (k : Bool). value_of k w) (sym e)

-- ---- a space behind words of k bytes: all words but the last are those of all bytes but the last k
pub front-words : (k : ℕ) (o : Bool) (n : ℕ) (d : List ℕ) → words k o n d ≡ front (words k o (suc n) d)
unfolding words front
front-words k o zero d = refl
front-words k o (suc n) d = ap (λ (l : List ℕ). num_of o (take k d) ∷ l) (front-words k o n (drop k d))

front-taken : (k : ℕ) → 0 < k → (o : Bool) (n : ℕ) (part : List ℕ) → length part ≡ k * suc n
    → all_words k o (take (length part - k) part) ≡ front (all_words k o part)
unfolding all_words
front-taken k some o n part e =
    let short : length part - k ≡ k * n = omega arith in
    let left : length (take (k * n) part) / k ≡ n =
    ap (λ (i : ℕ). i / k) (length-take-le (k * n) part (omega arith)) ∙ mul-div_cancel_left n some in
    let all : length part / k ≡ suc n = ap (λ (i : ℕ). i / k) e ∙ mul-div_cancel_left (suc n) some in
    rw (short, left, all) (words_take k o n part ∙ front-words k o n part)

-- where words of two bytes end, by whether the last is a space
pub record EndsAt (o : Bool) (part : List ℕ) (count end : ℕ) : Type 0 where
  pub these : all_words 2 o (take end part) ≡ held_words narrow count (all_words 2 o part)
  pub near : (end ≤ length part) × (length part ≤ end + 2) × (end % 2 ≡ 0)
  pub counted :
      values 256 (held_words narrow count (all_words 2 o part)) + bool_byte (ltb end (length part)) ≡ values 256 (all_words 2 o part)

module _ (o : Bool) (part : List ℕ) (count : ℕ) (long : 2 ≤ length part) (even : length part % 2 ≡ 0) where
  ws : List ℕ
  ws = all_words 2 o part

  first : ws ≡ word_at 2 o part 0 ∷ words_from 2 o part 2
  unfolding ws
  first = sym (from_all 2 o part) ∙ from_cons 2 o part 0 (lit< tt) (omega arith)

  -- the code's test
  pub space-tested : (run : Bool) → run ≡ is_run 256 (word_at 2 o part (length part - 2))
      → (not run && eqb (count + 1) (values 256 (all_words 2 o part))) ≡ has_space narrow count (all_words 2 o part)
  unfolding ws
  space-tested run e =
      let last = e ∙ ends_last 256 2 (length part / 2 - 1) (lit< tt) o part (omega arith) in
      ap (λ (b : Bool). not b && eqb (count + 1) (values 256 (all_words 2 o part))) last
      ∙ ap (λ (l : List ℕ). not (ends_from 256 false l) && eqb (count + 1) (values 256 l)) first
      ∙ sym (space-counted narrow count (word_at 2 o part 0) (words_from 2 o part 2))
      ∙ ap (has_space narrow count) (sym first)

  pub ends-before : values 256 (all_words 2 o part) ≡ count + 1 → has_space narrow count (all_words 2 o part) ≡ true
      → EndsAt o part count (length part - 2)
  unfolding has_space
  ends-before v e =
      let held = held-front narrow count (all_words 2 o part) e in
      let before = values 256 (front (all_words 2 o part)) in
      let same = eqb-true count before (both_true (not (eqb count (values 256 (all_words 2 o part)))) (eqb count before) e).1 in
      record {
        these = front-taken 2 (lit< tt) o (length part / 2 - 1) part (omega arith) ∙ sym held;
        near = (omega arith, omega arith, omega arith);
        counted = rw (held, lt-ltb (length part - 2) (length part) (omega arith)) (omega (arith, same, v));
      }

  pub ends-behind : has_space narrow count (all_words 2 o part) ≡ false → EndsAt o part count (length part)
  ends-behind e =
      let held = held_all narrow count (all_words 2 o part) e in
      record {
        these = ap (all_words 2 o) (take-length part) ∙ sym held;
        near = (omega arith, omega arith, even);
        counted = rw (held, le-ltb (length part) (length part) (omega arith)) (omega arith);
      }

-- ---- words block by block, k of them each
take-plus : {X : Type 0} (m n : ℕ) (xs : List X) → take (m + n) xs ≡ take m xs ++ take n (drop m xs)
take-plus zero n xs = rw zero-add
take-plus (suc m) n [] = rw suc-add (sym (take-nil n))
take-plus (suc m) n (x ∷ xs) = rw suc-add (ap (λ (l : List _). x ∷ l) (take-plus m n xs))

module _ (o : Bool) (k i : ℕ) (cs : List (List ℕ)) where
  -- those of the blocks up to the next, and of all blocks and what is left
  pub one_block : map (num_of o) (take (k * (i + 1)) cs) ≡ map (num_of o) (take (k * i) cs) ++ map (num_of o) (take k (drop (k * i) cs))
  one_block =
      let e : k * (i + 1) ≡ k * i + k = omega arith in
      ap (λ (n : ℕ). map (num_of o) (take n cs)) e
      ∙ ap (map (num_of o)) (take-plus (k * i) k cs)
      ∙ map-append (num_of o) (take (k * i) cs) (take k (drop (k * i) cs))

  pub all_blocks : map (num_of o) cs ≡ map (num_of o) (take (k * i) cs) ++ map (num_of o) (drop (k * i) cs)
  all_blocks =
      ap (map (num_of o)) (sym (take-append-drop (k * i) cs)) ∙ map-append (num_of o) (take (k * i) cs) (drop (k * i) cs)

-- ---- judging words that are held: none is bad where none of all is
bad-front : (f : Family) (ws : List ℕ) → any_bad f ws ≡ false → any_bad f (front ws) ≡ false
unfolding front first_bad
bad-front f [] e = refl
bad-front f (w ∷ []) e = refl
bad-front f (w ∷ v ∷ ws) e =
    let g = sym (bad_cons f w (v ∷ ws)) ∙ e in
    bad_cons f w (front (v ∷ ws))
    ∙ ap (λ (b : Bool). b || any_bad f (front (v ∷ ws))) (or_left (is_bad f w) (any_bad f (v ∷ ws)) g)
    ∙ bad-front f (v ∷ ws) (or_right (is_bad f w) (any_bad f (v ∷ ws)) g)

pub bad-held : (f : Family) (count : ℕ) (ws : List ℕ) → any_bad f ws ≡ false → any_bad f (held_words narrow count ws) ≡ false
bad-held f count ws e =
    by_bool (has_space narrow count ws)
    (λ t. ap (any_bad f) (held-front narrow count ws t) ∙ bad-front f ws e)
    (λ t. ap (any_bad f) (held_all narrow count ws t) ∙ e)

-- the rules by their tests and the place among the words
abbrev pub ruled : Bool → Bool → ℕ → Bool → Verdict
ruled full bad p other = judged ((full ⇒ 11 byte 0) ∷ (bad ⇒ 24 byte (words_at + p)) ∷ (other ⇒ 25 byte count_at) ∷ [])

pub said-words : (b o : Bool) (count : ℕ) (part ws : List ℕ) → ws ≡ held_words narrow count (all_words 2 o part)
    → ruled (ltb most (values 256 ws)) (any_bad (words_by b) ws) (2 * first_bad (words_by b) ws) (not (eqb count (values 256 ws)))
    ≡ judged_words (words_by b) o count part
unfolding judged_words held_words has_space
said-words true o count part ws e = rw e
said-words false o count part ws e = rw e

-- as many words as whole ones fit
length-words : (k : ℕ) (o : Bool) (n : ℕ) (d : List ℕ) → length (words k o n d) ≡ n
unfolding words
length-words k o zero d = refl
length-words k o (suc n) d = ap suc (length-words k o n (drop k d))

pub words-many : (o : Bool) (end : ℕ) (part : List ℕ) → end ≤ length part → length (all_words 2 o (take end part)) ≡ end / 2
unfolding all_words
words-many o end part h = length-words 2 o _ (take end part) ∙ ap (λ (n : ℕ). n / 2) (length-take-le end part h)

-- ---- the samples of words
pub samples-words : (b : Bool) (ws : List ℕ) → samples_in (words_by b) ws ≡ revalued (meant (words_by b)) (decode_from 256 0 ws)
unfolding samples_in
samples-words true us = refl
samples-words false us = refl

-- ---- samples with numbers of two bytes, by the bytes of a sample
module _ (n : ℕ) (h : (n ≡ 4) ⊎ (n ≡ 6)) where
  sized : sample_bytes (plain_of n) ≡ n
  sized =
      let by : ℕ → Type 0 = λ m. sample_bytes (plain_of m) ≡ m in
      let four : by 4 = refl in
      let six : by 6 = refl in
      ⊎_elim (λ e. subst by (sym e) four) (λ e. subst by (sym e) six) h

  pub sized_chunks : (o : Bool) (part : List ℕ) (cs : List (List ℕ)) → cs ≡ first_chunks n (length part / n) part
      → samples_on (sample_of (plain_of n) o) cs 0 ≡ all_samples (plain_of n) o part
  sized_chunks o part cs e =
      samples_first (plain_of n) o part cs (subst (λ (k : ℕ). cs ≡ first_chunks k (length part / k) part) (sym sized) e)

  -- a chunk's number is that of its first two bytes
  pub sized_number : (o : Bool) (cs : List (List ℕ)) (i x : ℕ) (c : List ℕ) → i < length cs → c ≡ get_or cs i c → x ≡ num_of o (take 2 c)
      → x ≡ (sample_of (plain_of n) o (get_or cs i [])).0
  sized_number o cs i x c l e t =
      t ∙ ap (λ (w : List ℕ). num_of o (take 2 w)) (e ∙ get_or_default cs i c [] l) ∙ plain_at (eqb n 6) o (get_or cs i []) 0 _ refl
