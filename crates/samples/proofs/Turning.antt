-- Samples turned from bytes to bytes, over the width, the radix and the family: what is still to be written, word by word and sample
-- by sample; and which samples are turned as plain words. Assumes nothing.
use mathlib.Core.Path.{◌≡◌, refl, sym, ap, subst, ◌∙◌}
use mathlib.Core.Bool.{Bool, true, false, not}
use mathlib.Core.List.{List, [], ◌∷◌, ◌++◌}
use Prim.Native.Nat.{ℕ, zero, suc, ◌+◌, ◌-◌, ◌*◌, ◌/◌, ◌%◌, ◌^◌, ◌≤◌, ◌<◌}
use native.Mathlib.Nat.{mul_comm, add_comm, mod-lt}
use native.Mathlib.Omega.{arith}
use lib.Arith.{digits_div, digits_mod}
use lib.Dec.{leb}
use borrow.Author.Tests.{leb-true, leb-false}
use mir.Val.{bool_byte}
use lib.ListN.{length, set, take, drop, length-drop}
use lib.Seq.{sets, set-set, set_comm, drop-drop, length-take-le}
use Rattle.order.specs.Order.{num_of, bytes_of, Bytes}
use Rattle.order.proofs.Laws.{num_of_bound, bytes_take, bytes_drop}
use Rattle.layout.specs.Families.{Family, number_bytes, value_bytes, value_count, sample_bytes}
use Rattle.samples.specs.Words.{Sample, words, all_words, unwords, joined, parted, samples, sample_of, sample_back, unsampled}
use Rattle.samples.specs.Runs.{is_run, run_length, decode_from}
use Rattle.samples.proofs.Words.{some_bytes, word_at, words_from, from_all, from_end_lem, unwords_append, length_back, length-unsampled}
use Rattle.samples.proofs.Runs.{by_bool, decode-run, decode-value}
use Rattle.samples.proofs.Judging.{next}
use Rattle.samples.proofs.Writing.{past_word, past_sample}

-- ---- words: the bytes ws are to stand at `to` of out₀; at p of the part, out holds those of the words before
module _ (k : ℕ) (pos : 0 < k) (o z : Bool) (part out₀ : List ℕ) (to : ℕ) where
  abbrev pub Turning : List ℕ → ℕ → Type 0
  Turning out p = sets out (to + p) (unwords k z (words_from k o part p)) ≡ sets out₀ to (unwords k z (all_words k o part))

  pub turning_begin : Turning out₀ 0
  turning_begin =
      let e : to + 0 ≡ to = omega arith in
      ap (λ (n : ℕ). sets out₀ n (unwords k z (words_from k o part 0))) e
      ∙ ap (λ (ws : List ℕ). sets out₀ to (unwords k z ws)) (from_all k o part)

  pub turning_one : (out put : List ℕ) (p w : ℕ) → k ≤ length part - p → w ≡ word_at k o part p → put ≡ sets out (to + p) (bytes_of z k w)
      → Turning out p → Turning put (p + k)
  turning_one out put p w h e b t =
      let a : to + (p + k) ≡ to + p + k = omega arith in
      ap (λ (l : List ℕ). sets l (to + (p + k)) (unwords k z (words_from k o part (p + k)))) b
      ∙ ap (λ (n : ℕ). sets (sets out (to + p) (bytes_of z k w)) n (unwords k z (words_from k o part (p + k)))) a
      ∙ past_word k z out (to + p) w (words_from k o part (p + k))
      ∙ ap (λ (ws : List ℕ). sets out (to + p) (unwords k z ws)) (sym (next k pos o part p w h e))
      ∙ t

  pub turning_end : (out : List ℕ) (p : ℕ) → length part - p < k → Turning out p → out ≡ sets out₀ to (unwords k z (all_words k o part))
  unfolding unwords
  turning_end out p h t = ap (λ (ws : List ℕ). sets out (to + p) (unwords k z ws)) (sym (from_end_lem k o part p pos (omega arith))) ∙ t

-- ---- samples whose numbers are as wide as their values are turned as words of that width
words_append : (k : ℕ) (o : Bool) (m n : ℕ) (d : List ℕ) → words k o (m + n) d ≡ words k o m d ++ words k o n (drop (m * k) d)
unfolding words
words_append k o zero n d = let z : 0 + n ≡ n = omega arith in let y : 0 * k ≡ 0 = omega arith in rw (z, y)
words_append k o (suc m) n d =
    let z : suc m + n ≡ suc (m + n) = omega arith in
    let y : suc m * k ≡ k + m * k = omega arith in
    rw (z, y) (ap (λ (l : List ℕ). num_of o (take k d) ∷ l) (words_append k o m n (drop k d)
    ∙ ap (λ (l : List ℕ). words k o m (drop k d) ++ words k o n l) (drop-drop (m * k) k d)))

parts-words : (w k : ℕ) (o z : Bool) (bs : List ℕ) → Bytes bs → k * w ≤ length bs
    → parted w k z (joined w k o bs) ≡ unwords w z (words w o k bs)
unfolding parted joined words unwords
parts-words w zero o z bs b h = refl
parts-words w (suc k) o z bs b h =
    let a = num_of o (take w bs) in
    let j = joined w k o (drop w bs) in
    let l : length (take w bs) ≡ w = length-take-le w bs (omega arith) in
    let low : a < 256 ^ w = rw l at (num_of_bound o (take w bs) (bytes_take w bs b)) in
    let turn : a + 256 ^ w * j ≡ j * 256 ^ w + a = add_comm a (256 ^ w * j) ∙ ap (λ (n : ℕ). n + a) (mul_comm (256 ^ w) j) in
    rw (turn, digits_mod j low, digits_div j low) (ap (λ (l : List ℕ). bytes_of z w a ++ l)
    (parts-words w k o z (drop w bs) (bytes_drop w bs b) (simp length-drop (omega arith))))

module _ (f : Family) (w : ℕ) (number : number_bytes f ≡ w) (value : value_bytes f ≡ w) (o z : Bool) where
  flat-one : (d : List ℕ) → Bytes d → sample_bytes f ≤ length d → sample_back f z (sample_of f o d) ≡ unwords w z
      (words w o (1 + value_count f) d)
  unfolding unwords words
  flat-one d b h =
      let k = value_count f in
      let one : 1 + k ≡ suc k = omega arith in
      let room : k * w ≤ length (drop w d) = simp length-drop (omega (arith, number, ap (λ (n : ℕ). k * n) value)) in
      (λ i. bytes_of z (number i) (num_of o (take (number i) d)) ++ parted (value i) k z (joined (value i) k o (drop (number i) d)))
      ∙ rw one (ap (λ (l : List ℕ). bytes_of z w (num_of o (take w d)) ++ l) (parts-words w k o z (drop w d) (bytes_drop w d b) room))

  pub flat : (n : ℕ) (d : List ℕ) → Bytes d → n * sample_bytes f ≤ length d
      → unsampled f z (samples f o n d) ≡ unwords w z (words w o (n * (1 + value_count f)) d)
  unfolding unsampled samples
  flat zero d b h = let y : 0 * (1 + value_count f) ≡ 0 = omega arith in rw y (unfold words unwords in refl)
  flat (suc n) d b h =
      let k = value_count f in
      let m : suc n * (1 + k) ≡ (1 + k) + n * (1 + k) = omega arith in
      let size : (1 + k) * w ≡ sample_bytes f = omega (arith, number, ap (λ (x : ℕ). k * x) value) in
      let rest = flat n (drop (sample_bytes f) d) (bytes_drop (sample_bytes f) d b) (simp length-drop (omega arith)) in
      (λ i. flat-one d b (omega arith) i ++ rest i)
      ∙ sym (ap (unwords w z) (ap (λ (j : ℕ). words w o j d) m ∙ words_append w o (1 + k) (n * (1 + k)) d
      ∙ ap (λ (j : ℕ). words w o (1 + k) d ++ words w o (n * (1 + k)) (drop j d)) size)
      ∙ unwords_append w z (words w o (1 + k) d) (words w o (n * (1 + k)) (drop (sample_bytes f) d)))

-- ---- stores at one place: the later ones stand
pub set_past : (vs l : List ℕ) (i j a : ℕ) → i < j → set (sets l j vs) i a ≡ sets (set l i a) j vs
set_past [] l i j a h = refl
set_past (v ∷ vs) l i j a h =
    set_past vs (set l j v) i (suc j) a (omega arith) ∙ ap (λ (x : List ℕ). sets x (suc j) vs) (set_comm l j i v a (λ e. omega arith))

pub sets_over : (us vs l : List ℕ) (i : ℕ) → length us ≤ length vs → sets (sets l i us) i vs ≡ sets l i vs
sets_over [] vs l i h = refl
sets_over (u ∷ us) [] l i h = absurd (omega arith)
sets_over (u ∷ us) (v ∷ vs) l i h =
    ap (λ (x : List ℕ). sets x (suc i) vs)
    (set_past us (set l i u) i (suc i) v (omega arith) ∙ ap (λ (x : List ℕ). sets x (suc i) us) (set-set l i u v))
    ∙ sets_over us vs (set l i v) (suc i) (omega arith)

-- ---- samples: those of s are to stand at to₀ of out₀; those left are still to come, from `to` on up to `end`
pub record Spreading (f : Family) (z : Bool) (s left : List Sample) (out₀ : List ℕ) (to₀ end : ℕ) (out : List ℕ) (to : ℕ) : Type 0 where
  pub long : length out ≡ length out₀
  pub ends : to + length left * sample_bytes f ≡ end
  pub bytes : sets out to (unsampled f z left) ≡ sets out₀ to₀ (unsampled f z s)

-- by another name for what is left
pub spreading_as : {f : Family} {z : Bool} {s left rest : List Sample} {out₀ out : List ℕ} {to₀ end to : ℕ} → left ≡ rest
    → Spreading f z s left out₀ to₀ end out to → Spreading f z s rest out₀ to₀ end out to
spreading_as {f} {z} {s} {out₀ = out₀} {out = out} {to₀ = to₀} {end = end} {to = to} e h =
    subst (λ (l : List Sample). Spreading f z s l out₀ to₀ end out to) e h

-- a sample is written at `to`, which makes put of out
module _ {f : Family} {z : Bool} {s : List Sample} (n v : ℕ) {out₀ out put : List ℕ} {to₀ end to : ℕ}
    (e : put ≡ sets out to (sample_back f z (n, v))) (l : length put ≡ length out) where
  -- the next of those left
  spreading_one : {r : List Sample} → Spreading f z s ((n, v) ∷ r) out₀ to₀ end out to
      → Spreading f z s r out₀ to₀ end put (to + sample_bytes f)
  spreading_one {r} h =
      record {
        long = l ∙ h.long;
        ends = omega (arith, h.ends);
        bytes = ap (λ (b : List ℕ). sets b (to + sample_bytes f) (unsampled f z r)) e ∙ past_sample f z out to (n, v) r ∙ h.bytes;
      }

  -- none of them: some being left, the next will be written over it
  spreading_over : {r : List Sample} → to < end → Spreading f z s r out₀ to₀ end out to → Spreading f z s r out₀ to₀ end put to
  spreading_over {r = []} m h = absurd (omega (arith, h.ends))
  spreading_over {r = x ∷ r} m h =
      let us = sample_back f z (n, v) in
      let vs = unsampled f z (x ∷ r) in
      let few : length us ≤ length vs = omega (arith, length_back f z (n, v), length-unsampled f z (x ∷ r)) in
      record {
        long = l ∙ h.long;
        ends = h.ends;
        bytes = ap (λ (b : List ℕ). sets b to vs) e ∙ sets_over us vs out to few ∙ h.bytes;
      }

  -- that of a word v, which is sample n: a run passes its samples, a value one
  pub spreading_word : (R : ℕ) (some : 0 < R) (ws : List ℕ) (run : Bool) → run ≡ is_run R v → to < end
      → Spreading f z s (decode_from R n (v ∷ ws)) out₀ to₀ end out to
      → Spreading f z s (decode_from R (n + (bool_byte run * (v % R) + 1)) ws) out₀ to₀ end put (to + sample_bytes f * bool_byte (not run))
  unfolding run_length
  spreading_word R some ws true t m h =
      let a : n + (bool_byte true * (v % R) + 1) ≡ n + (v % R + 1) = omega arith in
      let b : to + sample_bytes f * bool_byte (not true) ≡ to = omega arith in
      rw (a, b) (spreading_over m (spreading_as (decode-run R some n v ws (sym t)) h))
  spreading_word R some ws false t m h =
      let a : n + (bool_byte false * (v % R) + 1) ≡ n + 1 = omega arith in
      let b : to + sample_bytes f * bool_byte (not false) ≡ to + sample_bytes f = omega arith in
      rw (a, b) (spreading_one (spreading_as (decode-value R some n v ws (sym t)) h))

-- a run passes at most as many samples as the radix says
pub passes-few : (R : ℕ) → 0 < R → (run : Bool) (v : ℕ) → bool_byte run * (v % R) < R
passes-few R pos true v = omega (arith, mod-lt v pos)
passes-few R pos false v = omega arith

-- some are left: so is a word
pub word-left : (k R : ℕ) → 0 < k → (o : Bool) (part : List ℕ) (p n : ℕ) → 0 < length (decode_from R n (words_from k o part p))
    → k ≤ length part - p
unfolding decode_from
word-left k R pos o part p n h =
    by_bool (leb (p + k) (length part))
    (λ t. omega (arith, leb-true (p + k) (length part) t))
    (λ t. absurd (omega (arith, rw (from_end_lem k o part p pos (leb-false (p + k) (length part) t)) at h)))

-- none is left
pub spreading_end : {f : Family} {z : Bool} {s left : List Sample} {out₀ out : List ℕ} {to₀ end to : ℕ} → end ≤ to
    → Spreading f z s left out₀ to₀ end out to → out ≡ sets out₀ to₀ (unsampled f z s)
unfolding unsampled
spreading_end {left = []} m h = h.bytes
spreading_end {f} {left = x ∷ r} m h = absurd (omega (arith, h.ends, some_bytes f))

-- ---- how many words bytes hold
length-words : (k n : ℕ) (o : Bool) (d : List ℕ) → length (words k o n d) ≡ n
unfolding words
length-words k zero o d = refl
length-words k (suc n) o d = ap suc (length-words k n o (drop k d))

pub length-all : (k : ℕ) (o : Bool) (d : List ℕ) → length (all_words k o d) ≡ length d / k
unfolding all_words
length-all k o d = length-words k (length d / k) o d
