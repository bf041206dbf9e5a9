-- What the writers of compressed pings answer and write, over the family: by what is said of their lists. Assumes nothing.
use mathlib.Core.Path.{◌≡◌, refl, sym, ap, ◌∙◌}
use mathlib.Core.Bool.{Bool, false, not, cond, ◌&&◌}
use mathlib.Core.List.{List, [], ◌∷◌, ◌++◌}
use mathlib.Core.Option.{Option, some, none}
use Prim.Native.Nat.{ℕ, suc, ◌+◌, ◌-◌, ◌*◌, ◌%◌, ◌≤◌, ◌<◌, min}
use native.Mathlib.Omega.{arith}
use borrow.Author.Tests.{ltb-false, eqb-true, not-false}
use lib.Dec.{ltb, eqb}
use lib.IntN.{ℤ}
use lib.ListN.{length, replicate}
use lib.Seq.{sets}
use Rattle.rules.specs.Rules.{Rule, First}
use Rattle.rules.proofs.Laws.{clear, first_eq}
use Rattle.order.specs.Order.{bytes_of, pattern_of}
use Rattle.layout.specs.declared.Counts.{Counts}
use Rattle.layout.specs.Answer.{Answer}
use Rattle.layout.specs.Answer.{Accepted, Refused}
use Rattle.layout.specs.Answers.{accepting, is_accepted}
use Rattle.layout.specs.Families.{Family, wide, narrow, encoded, wide_angles, narrow_angles, type_c, value_bytes, radix_of}
use Rattle.layout.specs.Types.{ping_row}
use Rattle.turning.specs.Rows.{encode}
use Rattle.frame.specs.Frames.{Tup, length_of, frame}
use Rattle.frame.specs.inner.Framing.{opening_bytes, close_bytes}
use Rattle.frame.proofs.Frames.{length-frame}
use Rattle.samples.specs.Words.{Sample, unwords}
use Rattle.samples.specs.Lists.{handed_bytes, paired}
use Rattle.samples.specs.inner.Lists.{numbered, valued, worded}
use Rattle.samples.specs.Runs.{encode_from, quiet, fewest}
use Rattle.samples.specs.Values.{word_for, wordless, words_for}
use Rattle.samples.specs.Judging.{most, first_drop, first_wordless, too_short}
use Rattle.samples.proofs.Runs.{by_bool}
use Rattle.samples.proofs.Rising.{drop-most}
use Rattle.samples.proofs.Apart.{length-paired, length-valued, length-numbered, drop-numbered, wordless-valued}
use Rattle.samples.proofs.Apart.{behind-numbered, count-numbered}
use Rattle.samples.proofs.Written.{some-radix, quiet-map, wordless-most}
use Rattle.content.specs.Forms.{has_length, tuple_c}
use Rattle.tuples.specs.Writers.{write_answer}
use Rattle.pings.specs.declared.PingHeader.{PingHeader}
use Rattle.pings.specs.Headers.{head_of}
use Rattle.ping_writers.specs.Writers.{ping_of, count_rules, rules_c, WrittenC}
use Rattle.ping_writers.specs.inner.Judged.{packed_size, packed_rules, packed_answer}
use Rattle.ping_writers.proofs.Storing.{length-packed, packed-stored}
use Rattle.ping_writers.proofs.Answering.{refused, written}

-- a space is of two bytes, or of none
even-space : (f : Family) (n : ℕ) → (value_bytes f * n) % 4 % 2 ≡ 0
even-space wide n = omega arith
even-space narrow n = omega arith
even-space encoded n = omega arith
even-space wide_angles n = omega arith
even-space narrow_angles n = omega arith

-- ---- what is said of the lists of a compressed ping
module _ (k R : ℕ) (ns : List ℕ) (v j : ℕ) (l : Option ℕ) (room : ℕ) where
  abbrev size : ℕ
  size = packed_size k R ns (quiet (numbered ns) l)

  pub packed_said : {r : Answer} → First (packed_rules k R ns v j l room) (accepting 1 (packed_size k R ns (quiet (numbered ns) l))) r
      → r ≡ packed_answer k R ns v j l room
  unfolding packed_answer
  packed_said w = first_eq w

  -- what is known where nothing is refused
  pub record Ready (c : Counts) : Type 0 where
    pub equal : v ≡ length ns
    pub few : length ns ≤ most
    pub rising : first_drop 0 (numbered ns) ≡ length ns
    pub worded : length ns ≤ j
    pub long : too_short (numbered ns) l ≡ false
    pub whole : c.written ≡ packed_size k R ns (quiet (numbered ns) l)
    pub short : c.written ≤ 262144
    pub fits : c.written ≤ room

  pub packed-ready : {c : Counts} → packed_answer k R ns v j l room ≡ Accepted c → Ready c
  unfolding packed_answer
  packed-ready {c} e =
      let p = clear is_accepted (packed_rules k R ns v j l room) (accepting 1 size) (Accepted c)
      (refl, (refl, (refl, (refl, (refl, (refl, (refl, (refl, tt)))))))) e refl in
      let q = p.0 in
      let w : size ≡ c.written = ap (λ (x : Answer). elim x [ Accepted d ↦ d.written | Refused t u ↦ 0 ]) p.1 in
      record {
        equal = sym (eqb-true (length ns) v (not-false _ q.0));
        few = ltb-false most (length ns) q.1.0;
        rising =
            omega (
              arith,
              ltb-false (first_drop 0 (numbered ns)) (length ns) q.1.1.1.0,
              drop-most (numbered ns) 0,
              length-numbered ns,
            );
        worded = ltb-false j (length ns) q.1.1.1.1.0;
        long = q.1.1.1.1.1.0;
        whole = sym w;
        short = omega (arith, ltb-false 262144 size q.1.1.1.1.1.1.0, w);
        fits = omega (arith, ltb-false room size q.1.1.1.1.1.1.1.0, w);
      }

-- ---- numbers alone, and the samples that have them
module _ (f : Family) (ns : List ℕ) (vs : List ℤ) (l : Option ℕ) (e : length vs ≡ length ns) where
  abbrev s : List Sample
  s = paired (handed_bytes f) ns vs

  quiet-numbered : (m : Option ℕ) → quiet (numbered ns) m ≡ quiet s m
  quiet-numbered none = refl
  quiet-numbered (some n) = ap (λ (i : ℕ). n - i) (behind-numbered (handed_bytes f) ns vs e)

  short-numbered : (m : Option ℕ) → too_short (numbered ns) m ≡ too_short s m
  short-numbered none = refl
  short-numbered (some n) = ap (λ (i : ℕ). ltb n (i + 1)) (behind-numbered (handed_bytes f) ns vs e)

  -- the words, with as many quiet samples behind the last as the length says
  words-by : {t : ℕ} → t ≡ quiet (numbered ns) l → encode_from (radix_of f) 0 (worded f ns vs) t ≡ words_for f s l
  unfolding words_for fewest
  words-by {t} y = ap (encode_from (radix_of f) 0 (worded f ns vs)) (y ∙ quiet-numbered l ∙ sym (quiet-map (word_for f) s l))

  -- how many they are
  count_by : length (encode_from (radix_of f) 0 (numbered ns) (quiet (numbered ns) l)) ≡ length (words_for f s l)
  count_by =
      count-numbered (handed_bytes f) (radix_of f) (some-radix f) (word_for f) ns vs (quiet (numbered ns) l) e ∙ ap length (words-by refl)

  pub counted : {t : ℕ} → t ≡ quiet (numbered ns) l
      → length (encode_from (radix_of f) 0 (worded f ns vs) t) ≡ length (encode_from (radix_of f) 0 (numbered ns) (quiet (numbered ns) l))
  counted {t} y = ap length (words-by y) ∙ sym count_by

  pub room_by : {t m : ℕ} → t ≡ quiet (numbered ns) l → packed_size (value_bytes f) (radix_of f) ns (quiet (numbered ns) l) ≤ m
      → 28 + value_bytes f * length (encode_from (radix_of f) 0 (worded f ns vs) t) ≤ m
  room_by {t} {m} y h = rw (counted y) (omega arith)

  -- and where they end: before a space of two bytes, or of none
  pub end_by : {t end n : ℕ} → t ≡ quiet (numbered ns) l → end ≡ 28 + value_bytes f * length (encode_from (radix_of f) 0 (worded f ns vs) t)
      → n ≡ packed_size (value_bytes f) (radix_of f) ns (quiet (numbered ns) l) → (end + 8 ≤ n) × (n < end + 12) × ((n - 8 - end) % 2 ≡ 0)
  end_by {t} {end} {n} y there whole =
      let w = length (encode_from (radix_of f) 0 (numbered ns) (quiet (numbered ns) l)) in
      let behind : end ≡ 28 + value_bytes f * w = there ∙ ap (λ (i : ℕ). 28 + value_bytes f * i) (counted y) in
      let space = even-space f w in
      (omega (arith, behind, whole), omega (arith, behind, whole), omega (arith, behind, whole, space))

  pub rising-by : first_drop 0 (numbered ns) ≡ length ns → first_drop 0 (paired (handed_bytes f) ns vs) ≡ length ns
  rising-by r = sym (drop-numbered (handed_bytes f) ns vs e) ∙ r

  pub worded-by : {j : ℕ} → j ≡ first_wordless f (valued (handed_bytes f) vs) → length ns ≤ j
      → first_wordless f (valued (handed_bytes f) vs) ≡ length vs
  worded-by {j} y h = omega (arith, wordless-most f (valued (handed_bytes f) vs), length-valued (handed_bytes f) vs)

-- ---- j is the place of the first value that has no word
module _ (f : Family) (ns : List ℕ) (vs : List ℤ) (l : Option ℕ) (out : List ℕ) (j : ℕ)
    (bare : j ≡ first_wordless f (valued (handed_bytes f) vs)) (r : Answer)
    (told : r ≡ packed_answer (value_bytes f) (radix_of f) ns (length vs) j l (length out)) where
  pub ready_c : {c : Counts} → r ≡ Accepted c → Ready (value_bytes f) (radix_of f) ns (length vs) j l (length out) c
  ready_c e = packed-ready (value_bytes f) (radix_of f) ns (length vs) j l (length out) (sym told ∙ e)

  module _ (o : Bool) (h : PingHeader) (a : ℤ) where
    abbrev samples : List Sample
    samples = paired (handed_bytes f) ns vs

    abbrev tuple : Tup
    tuple = tuple_c o (ping_of f h a samples l)

    abbrev rules : List (Rule Answer)
    rules = count_rules ns vs ++ rules_c f samples l tuple

    tuple-size : length vs ≡ length ns → packed_size (value_bytes f) (radix_of f) ns (quiet (numbered ns) l) ≡ length_of tuple
    tuple-size e =
        ap (λ (n : ℕ). 36 + (value_bytes f * n + (value_bytes f * n) % 4)) (count_by f ns vs l e)
        ∙ sym (length-packed f o h a samples out 0 l)

    bytes-size : length vs ≡ length ns → packed_size (value_bytes f) (radix_of f) ns (quiet (numbered ns) l) ≡ length (frame o tuple)
    bytes-size e = tuple-size e ∙ sym (length-frame o tuple)

    -- what is said of the lists is what the rules say of the samples
    same_answer : length vs ≡ length ns
        → packed_answer (value_bytes f) (radix_of f) ns (length vs) j l (length out) ≡ write_answer rules (frame o tuple) (length out)
    unfolding packed_answer
    same_answer e =
        let many : length ns ≡ length samples = sym (length-paired (handed_bytes f) ns vs e) in
        let first : first_drop 0 (numbered ns) ≡ first_drop 0 samples = drop-numbered (handed_bytes f) ns vs e in
        let lacks : j ≡ first_wordless f samples = bare ∙ wordless-valued (handed_bytes f) f ns vs e in
        let ends = short-numbered f ns vs l e l in
        let size = tuple-size e in
        let bytes = bytes-size e in
        λ i. cond (not (eqb (length ns) (length vs))) (Refused 23 (min (length ns) (length vs)))
        (cond (ltb most (length ns)) (Refused 11 0)
        (cond (eqb (many i) 0 && not (has_length l)) (Refused 22 0)
        (cond (ltb (first i) (many i)) (Refused 23 (first i))
        (cond (ltb (lacks i) (many i)) (Refused 21 (lacks i))
        (cond (ends i) (Refused 26 0)
        (cond (ltb 262144 (size i)) (Refused 11 0)
        (cond (ltb (length out) (bytes i)) (Refused 19 0) (accepting 1 (bytes i)))))))))

    unequal : eqb (length ns) (length vs) ≡ false
        → packed_answer (value_bytes f) (radix_of f) ns (length vs) j l (length out) ≡ write_answer rules (frame o tuple) (length out)
    unfolding packed_answer
    unequal t = rw t

    said : r ≡ write_answer rules (frame o tuple) (length out)
    said = told ∙ by_bool (eqb (length ns) (length vs)) (λ t. same_answer (sym (eqb-true (length ns) (length vs) t))) unequal

    pub refused_c : {c q : ℕ} → r ≡ Refused c q → WrittenC f o h a ns vs l out r out
    refused_c e = refused rules (frame o tuple) out r said e

    -- t samples below threshold behind the last value
    pub written_c : {c : Counts} (end t : ℕ) (left : List ℕ) → r ≡ Accepted c → t ≡ quiet (numbered ns) l
        → end ≡ 28 + value_bytes f * length (encode_from (radix_of f) 0 (worded f ns vs) t)
        → left ≡ sets (sets (sets (sets (sets out 0 (opening_bytes o c.written (type_c f) (encode o ping_row (head_of h)))) 24
        (bytes_of o 4 (length ns)))
        28 (unwords (value_bytes f) o (encode_from (radix_of f) 0 (worded f ns vs) t)))
        end (replicate (c.written - 8 - end) 0))
        (c.written - 8) (close_bytes o c.written (pattern_of 4 a))
        → WrittenC f o h a ns vs l out r left
    written_c {c} end t left e y there put =
        let p = ready_c e in
        let q = p.equal in
        let n = c.written in
        let before = sets out 0 (opening_bytes o n (type_c f) (encode o ping_row (head_of h))) in
        let whole : n ≡ 36 + (value_bytes f * length (words_for f samples l) + (value_bytes f * length (words_for f samples l)) % 4) =
        p.whole ∙ ap (λ (i : ℕ). 36 + (value_bytes f * i + (value_bytes f * i) % 4)) (count_by f ns vs l q) in
        let many : length ns ≡ length samples = sym (length-paired (handed_bytes f) ns vs q) in
        let words = words-by f ns vs l q y in
        written rules (frame o tuple) out r said left e (omega (arith, p.fits, p.whole, bytes-size q))
        (put
        ∙ (λ i. sets (sets (sets (sets before 24 (bytes_of o 4 (many i))) 28 (unwords (value_bytes f) o (words i))) end
        (replicate (n - 8 - end) 0)) (n - 8) (close_bytes o n (pattern_of 4 a)))
        ∙ packed-stored f o h a samples out n l end whole
        (there ∙ ap (λ (ws : List ℕ). 28 + value_bytes f * length ws) words))
