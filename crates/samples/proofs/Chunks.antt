-- Words and samples as the loops over chunks have them: each is read from a chunk of its own. Assumes nothing.
use Rattle.std.proofs.Common.{◌≡◌, refl, sym, ap, ap₂, ◌∙◌, ℕ, zero, suc, ◌+◌, ◌*◌, ◌/◌, ◌%◌, ◌^◌, ◌<◌, ◌≤◌, Bool, true, false, not, ◌||◌, cond, leb, List, [], ◌∷◌, map, length, get_or, take, drop, arith}
use mathlib.Core.Bool.{or_assoc}
use mir.Val.{bool_byte}
use borrow.Author.Tests.{lt-leb}
use Rattle.std.specs.Simd.{first_chunks}
use Rattle.std.specs.List.{prefix_len, sum_by}
use Rattle.std.proofs.Math.Nat.{mod-lt}
use Rattle.std.proofs.Math.ListN.{drop_of_length-le}
use Rattle.std.proofs.lemmas.List.{drop-take, get_or-take, get_or-drop, at_drop_more}
use Rattle.std.proofs.lemmas.List.Sums.{sum_by-cons}
use Rattle.std.proofs.Math.Seq.{take-take, drop-drop}
use Rattle.order.specs.Order.{num_of}
use Rattle.layout.specs.Families.{Family, number_bytes, value_bytes, value_count, sample_bytes, is_bad}
use Rattle.samples.specs.Words.{Sample, words, all_words, joined, sample_of, samples, all_samples}
use Rattle.samples.specs.Runs.{is_run, run_length, values, samples_from, first_bad, decode_from}
use Rattle.samples.specs.Judging.{any_bad, first_drop}
use Rattle.samples.specs.inner.Runs.{samples_by}
use Rattle.samples.proofs.Rising.{drop-later, drop_here}
use Rattle.samples.proofs.Judging.{values_cons, bad_cons, any_drop, drops_cons, drops_later}

-- chunk i of k elements each
pub chunk-at : {X : Type 0} (k n i : ℕ) (xs : List X) (d : List X) → i < n → get_or (first_chunks k n xs) i d ≡ take k (drop (k * i) xs)
chunk-at k zero i xs d h = absurd (omega arith)
chunk-at k (suc n) zero xs d h = let z : k * 0 ≡ 0 = omega arith in rw z
chunk-at k (suc n) (suc i) xs d h =
    let e : k * suc i ≡ k * i + k = omega arith in
    let f : k + k * i ≡ k * i + k = omega arith in
    chunk-at k n i (drop k xs) d (omega arith) ∙ ap (take k) (drop-drop (k * i) k xs) ∙ ap (λ (m : ℕ). take k (drop m xs)) (f ∙ sym e)

-- words are the numbers of their chunks
pub words-chunked : (k : ℕ) (o : Bool) (n : ℕ) (s : List ℕ) → words k o n s ≡ map (num_of o) (first_chunks k n s)
unfolding words
words-chunked k o zero s = refl
words-chunked k o (suc n) s = ap (λ (l : List ℕ). num_of o (take k s) ∷ l) (words-chunked k o n (drop k s))

pub all_chunked : (k : ℕ) (o : Bool) (s : List ℕ) → all_words k o s ≡ map (num_of o) (first_chunks k (length s / k) s)
unfolding all_words
all_chunked k o s = words-chunked k o (length s / k) s

-- those from chunk i on
abbrev pub words_on : Bool → List (List ℕ) → ℕ → List ℕ
words_on o cs i = map (num_of o) (drop i cs)

pub words_next : (o : Bool) (cs : List (List ℕ)) (i : ℕ) → i < length cs → words_on o cs i ≡ num_of o (get_or cs i []) ∷ words_on o cs (i + 1)
words_next o cs i h = at_drop_more (map (num_of o)) cs i [] h

pub words_none : (o : Bool) (cs : List (List ℕ)) (i : ℕ) → length cs ≤ i → words_on o cs i ≡ []
words_none o cs i h = ap (map (num_of o)) (drop_of_length-le cs h)

pub words_first : (k : ℕ) (o : Bool) (s : List ℕ) (cs : List (List ℕ)) → cs ≡ first_chunks k (length s / k) s → words_on o cs 0 ≡ all_words k o s
words_first k o s cs e = ap (map (num_of o)) e ∙ sym (all_chunked k o s)

-- past a word that was looked at
module _ (o : Bool) (cs : List (List ℕ)) (i : ℕ) (h : i < length cs) where
  pub values_next : (R : ℕ) (run : Bool) → run ≡ is_run R (num_of o (get_or cs i [])) → (n : ℕ)
      → n + bool_byte (not run) + values R (words_on o cs (i + 1)) ≡ n + values R (words_on o cs i)
  values_next R run e n = rw (words_next o cs i h, values_cons, e) (omega arith)

  pub bad_next : (f : Family) (bad : Bool) → bad ≡ is_bad f (num_of o (get_or cs i [])) → (b : Bool)
      → ((b || bad) || any_bad f (words_on o cs (i + 1))) ≡ (b || any_bad f (words_on o cs i))
  bad_next f bad e b = rw (words_next o cs i h, bad_cons, e, or_assoc)

-- the samples of the words from this one on, the next of which is sample n
module _ (R : ℕ) (o : Bool) (cs : List (List ℕ)) (i : ℕ) (h : i < length cs) (w : ℕ) (e : w ≡ num_of o (get_or cs i [])) where
  words_here : words_on o cs i ≡ w ∷ words_on o cs (i + 1)
  words_here = words_next o cs i h ∙ ap (λ (v : ℕ). v ∷ words_on o cs (i + 1)) (sym e)

  pub decode_next_run : is_run R w ≡ true → (n : ℕ) → decode_from R n (words_on o cs i) ≡ decode_from R (n + run_length R w) (words_on o cs (i + 1))
  unfolding decode_from
  decode_next_run t n = ap (decode_from R n) words_here ∙ rw (t, decode_from)

  pub decode_next_value : is_run R w ≡ false → (n : ℕ) → decode_from R n (words_on o cs i) ≡ (n, w) ∷ decode_from R (n + 1) (words_on o cs (i + 1))
  unfolding decode_from
  decode_next_value t n = ap (decode_from R n) words_here ∙ rw (t, decode_from)

-- as many good words as stand at the front are before the first bad one
abbrev pub good_ones : Family → Bool → List (List ℕ) → ℕ
good_ones f o cs = prefix_len (λ (c : List ℕ). not (is_bad f (num_of o c))) cs

bad-behind : (f : Family) (o : Bool) (cs : List (List ℕ)) → first_bad f (map (num_of o) cs) ≡ good_ones f o cs
unfolding first_bad
bad-behind f o [] = refl
bad-behind f o (c ∷ cs) =
    let good = good_ones f o cs in
    elim (is_bad f (num_of o c))
    as (λ (b : Bool). elim b [ true ↦ 0 | false ↦ first_bad f (map (num_of o) cs) + 1 ] ≡ cond (not b) (1 + good) 0) [
      | true ↦ refl
      | false ↦ omega (arith, bad-behind f o cs)
    ]

pub bad_chunked : (f : Family) (o : Bool) (k : ℕ) (s : List ℕ) → first_bad f (all_words k o s) ≡ good_ones f o (first_chunks k (length s / k) s)
bad_chunked f o k s = ap (first_bad f) (all_chunked k o s) ∙ bad-behind f o _

-- the samples of words are those of each, at most as many as the radix
abbrev pub samples_each : ℕ → Bool → List (List ℕ) → ℕ
samples_each R o cs = sum_by (λ (c : List ℕ). samples_by R (num_of o c)) cs

samples-behind : (R : ℕ) (o : Bool) (cs : List (List ℕ)) (n : ℕ) → samples_from R n (map (num_of o) cs) ≡ n + samples_each R o cs
unfolding samples_from samples_by
samples-behind R o [] n = omega arith
samples-behind R o (c ∷ cs) n =
    let w = num_of o c in
    let rest = samples_each R o cs in
    let one : samples_from R n (map (num_of o) (c ∷ cs)) ≡ n + (samples_by R w + rest) =
    elim (is_run R w)
    as (λ (b : Bool). elim b [ true ↦ samples_from R (n + run_length R w) (map (num_of o) cs) | false ↦ samples_from R (n + 1) (map (num_of o) cs) ]
    ≡ n + (elim b [ true ↦ run_length R w | false ↦ 1 ] + rest)) [
      | true ↦ omega (arith, samples-behind R o cs (n + run_length R w))
      | false ↦ omega (arith, samples-behind R o cs (n + 1))
    ] in
    omega (arith, one, sum_by-cons (λ (d : List ℕ). samples_by R (num_of o d)) c cs)

pub samples_chunked : (R : ℕ) (o : Bool) (k : ℕ) (s : List ℕ) → samples_from R 0 (all_words k o s) ≡ samples_each R o (first_chunks k (length s / k) s)
samples_chunked R o k s = ap (samples_from R 0) (all_chunked k o s) ∙ samples-behind R o _ 0 ∙ omega arith

few-samples : (R : ℕ) → 0 < R → (w : ℕ) → samples_by R w ≤ R
unfolding samples_by run_length
few-samples R pos w =
    elim (is_run R w) as (λ (b : Bool). elim b [ true ↦ w % R + 1 | false ↦ 1 ] ≤ R) [
      | true ↦ omega (arith, mod-lt w pos)
      | false ↦ omega arith
    ]

pub samples_most : (R : ℕ) → 0 < R → (o : Bool) (cs : List (List ℕ)) → samples_each R o cs ≤ R * length cs
samples_most R pos o [] = omega arith
samples_most R pos o (c ∷ cs) =
    let e : R * suc (length cs) ≡ R + R * length cs = omega arith in
    omega (arith, e, sum_by-cons (λ (d : List ℕ). samples_by R (num_of o d)) c cs, few-samples R pos (num_of o c), samples_most R pos o cs)

-- ---- samples are those of their chunks
-- nothing behind a sample is part of it
joined_alone : (w k : ℕ) (o : Bool) (s : List ℕ) → joined w k o (take (k * w) s) ≡ joined w k o s
unfolding joined
joined_alone w zero o s = refl
joined_alone w (suc k) o s =
    let e : suc k * w ≡ w + k * w = omega arith in
    rw (e, take-take w (w + k * w) s (omega arith), drop-take w (k * w) s)
    (ap (λ (n : ℕ). num_of o (take w s) + 256 ^ w * n) (joined_alone w k o (drop w s)))

sample_alone : (f : Family) (o : Bool) (s : List ℕ) → sample_of f o (take (sample_bytes f) s) ≡ sample_of f o s
sample_alone f o s =
    let a = number_bytes f in
    let b = value_count f * value_bytes f in
    rw (take-take a (a + b) s (omega arith), drop-take a b s)
    (ap (λ (v : ℕ). (num_of o (take a s), v)) (joined_alone (value_bytes f) (value_count f) o (drop a s)))

samples-chunked : (f : Family) (o : Bool) (n : ℕ) (s : List ℕ) → samples f o n s ≡ map (sample_of f o) (first_chunks (sample_bytes f) n s)
unfolding samples
samples-chunked f o zero s = refl
samples-chunked f o (suc n) s = ap₂ ◌∷◌ (sym (sample_alone f o s)) (samples-chunked f o n (drop (sample_bytes f) s))

-- those from chunk i on, by what a chunk says
abbrev pub samples_on : (List ℕ → Sample) → List (List ℕ) → ℕ → List Sample
samples_on g cs i = map g (drop i cs)

pub samples_first : (f : Family) (o : Bool) (s : List ℕ) (cs : List (List ℕ)) → cs ≡ first_chunks (sample_bytes f) (length s / sample_bytes f) s
    → samples_on (sample_of f o) cs 0 ≡ all_samples f o s
unfolding all_samples
samples_first f o s cs e = ap (map (sample_of f o)) e ∙ sym (samples-chunked f o (length s / sample_bytes f) s)

pub samples_none : (g : List ℕ → Sample) (cs : List (List ℕ)) (i : ℕ) → length cs ≤ i → samples_on g cs i ≡ []
samples_none g cs i h = ap (map g) (drop_of_length-le cs h)

-- past a sample whose number x was looked at
module _ (g : List ℕ → Sample) (cs : List (List ℕ)) (i : ℕ) (h : i < length cs) (x : ℕ) (e : x ≡ (g (get_or cs i [])).0) where
  abbrev next : Sample
  next = (x, (g (get_or cs i [])).1)

  pub samples_next : samples_on g cs i ≡ next ∷ samples_on g cs (i + 1)
  samples_next =
      at_drop_more (map g) cs i [] h
      ∙ ap (λ (y : ℕ). (y, (g (get_or cs i [])).1) ∷ samples_on g cs (i + 1)) (sym e)

  -- one more that isn't above the number n before it
  pub drop_next : (b : Bool) (n : ℕ) → ((b || leb x n) || any_drop (x + 1) (samples_on g cs (i + 1))) ≡ (b || any_drop (n + 1) (samples_on g cs i))
  drop_next b n = rw (samples_next, drops_cons, or_assoc)

  -- any number may be the first
  pub drop_start : any_drop (x + 1) (samples_on g cs (i + 1)) ≡ any_drop 0 (samples_on g cs i)
  drop_start = sym (ap (any_drop 0) samples_next ∙ drops_later 0 next (samples_on g cs (i + 1)) (omega arith))

  -- the first number below n, or not above the one before it, is this one, or the first behind it
  pub fall_here : (n : ℕ) → x < n → first_drop n (samples_on g cs i) ≡ 0
  fall_here n t = ap (first_drop n) samples_next ∙ drop_here n next (samples_on g cs (i + 1)) (lt-leb n x t)

  pub fall_next : (n : ℕ) → n ≤ x → first_drop n (samples_on g cs i) ≡ first_drop (x + 1) (samples_on g cs (i + 1)) + 1
  fall_next n t = ap (first_drop n) samples_next ∙ drop-later n next (samples_on g cs (i + 1)) t

-- chunks of chunks, k of them a turn, behind the first: chunk j of turn i
pub in-turn : {X : Type 0} (k i j : ℕ) (cs : List X) (start d : X) (rest : List X) → cs ≡ start ∷ rest → i < length rest / k → j < k
    → (m : ℕ) → m ≡ 1 + k * i + j → get_or (get_or (first_chunks k (length rest / k) rest) i []) j d ≡ get_or cs m d
in-turn k i j cs start d rest e h l m at =
    let next : suc (k * i + j) ≡ m = omega (arith, at) in
    ap (λ (c : List _). get_or c j d) (chunk-at k (length rest / k) i rest [] h)
    ∙ get_or-take k (drop (k * i) rest) j d l
    ∙ get_or-drop (k * i) rest j d
    ∙ ap (λ (n : ℕ). get_or (start ∷ rest) n d) next
    ∙ ap (λ (l : List _). get_or l m d) (sym e)

apart : (v w x y z : Bool) → (v || (w || x || y || z)) ≡ (v || w || x || y || z)
apart v w x y z = simp or_assoc

-- four samples a turn
module _ (g : List ℕ → Sample) (cs : List (List ℕ)) (i : ℕ) (h : i + 4 ≤ length cs) (a b c d : ℕ)
    (ea : a ≡ (g (get_or cs i [])).0) (eb : b ≡ (g (get_or cs (i + 1) [])).0)
    (ec : c ≡ (g (get_or cs (i + 1 + 1) [])).0) (ed : d ≡ (g (get_or cs (i + 1 + 1 + 1) [])).0) where
  pub four_next : (bad : Bool) (n : ℕ)
      → ((bad || (leb a n || leb b a || leb c b || leb d c)) || any_drop (d + 1) (samples_on g cs (i + 1 + 1 + 1 + 1)))
      ≡ (bad || any_drop (n + 1) (samples_on g cs i))
  four_next bad n =
      ap (λ (t : Bool). t || any_drop (d + 1) (samples_on g cs (i + 1 + 1 + 1 + 1))) (apart bad (leb a n) (leb b a) (leb c b) (leb d c))
      ∙ drop_next g cs (i + 1 + 1 + 1) (omega arith) d ed (bad || leb a n || leb b a || leb c b) c
      ∙ drop_next g cs (i + 1 + 1) (omega arith) c ec (bad || leb a n || leb b a) b
      ∙ drop_next g cs (i + 1) (omega arith) b eb (bad || leb a n) a
      ∙ drop_next g cs i (omega arith) a ea bad n

-- an element behind the first
pub behind-first : {X : Type 0} (i m : ℕ) (cs : List X) (start d : X) (rest : List X) → cs ≡ start ∷ rest → m ≡ 1 + i → get_or rest i d ≡ get_or cs m d
behind-first i m cs start d rest e at =
    let next : suc i ≡ m = omega (arith, at) in
    ap (λ (n : ℕ). get_or (start ∷ rest) n d) next ∙ ap (λ (l : List _). get_or l m d) (sym e)
