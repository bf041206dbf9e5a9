-- Pings of every family: data of either kind are read back in either order; what a sound ping holds; and that its normal form is
-- sound and has the same content. Assumes nothing.
use mathlib.Core.Path.{◌≡◌, refl, sym, ap, ap₂, subst, ◌∙◌}
use mathlib.Core.Bool.{Bool, true, false, not, ◌&&◌, ◌||◌, true≢false}
use mathlib.Core.List.{List, ◌++◌, append_assoc}
use mathlib.Core.Option.{Option, some, none}
use Prim.Native.Nat.{ℕ, zero, suc, ◌+◌, ◌-◌, ◌*◌, ◌/◌, ◌%◌, ◌^◌, ◌≤◌, ◌<◌}
use native.Mathlib.Nat.{div-add-mod', mod-lt, div-mul-le_self, mul-le-mul_left, le_trans}
use native.Mathlib.Omega.{arith}
use borrow.Author.Tests.{ltb-false, le-ltb, eq-eqb, ne_eqb, eqb-false, le-leb, not-false}
use lib.Dec.{eqb, ltb}
use lib.ListN.{length, take, drop, replicate, length-append, length-drop, length-replicate}
use lib.Seq.{length-take-le, take_at, drop_at}
use Rattle.order.specs.Order.{num_of, bytes_of, Bytes}
use Rattle.order.proofs.Laws.{length_bytes_of, num_of_bytes_of, num_of_bound, bytes_take, bytes_drop, bytes_append, bytes-ordered, bytes-lows}
use Rattle.rules.proofs.Bools.{and_false, or_left, or_right}
use Rattle.layout.specs.Verdict.{Fine}
use Rattle.layout.specs.Answers.{judged}
use Rattle.layout.specs.Families.{Family, has_u, has_c, value_bytes, sample_bytes, radix_of}
use Rattle.layout.specs.Types.{Shape, uncompressed, compressed, fitting, ping_row}
use Rattle.layout.specs.Types.{lengths_u}
use Rattle.layout.proofs.Verdicts.{passes, passed}
use Rattle.turning.specs.Rows.{Value, values_of, encode, Fit, Lettered}
use Rattle.turning.proofs.Contents.{values-encode, values-fit, values-take, length-encode, bytes-encode}
use Rattle.frame.specs.Frames.{Tup, length_of, Framed}
use Rattle.frame.proofs.Frames.{allowed_of, allowed-most, allowed_4}
use Rattle.samples.specs.Words.{Sample, all_words, unwords, all_samples, unsampled, spaced}
use Rattle.samples.specs.Runs.{ping_length, values, behind}
use Rattle.samples.specs.Values.{samples_in, words_for, held_words}
use Rattle.samples.specs.Judging.{most, first_sample, count_at, words_at, sample_rules, word_rules}
use Rattle.samples.specs.Words.{Below}
use Rattle.samples.proofs.Words.{Within, number_limit, value_limit, length-unwords, bytes-unwords, words-below, some_bytes, length-unsampled}
use Rattle.samples.proofs.Words.{bytes-unsampled, all-samples, samples-within, length-spaced, bytes-spaced}
use Rattle.samples.proofs.Runs.{Lasting, by_bool}
use Rattle.samples.proofs.Rising.{Rising, rises, rising-passes}
use Rattle.samples.proofs.Held.{held-written, held_below, held-few, held-some}
use Rattle.samples.proofs.Written.{AllWorded, some-width, samples-there, length-there, below-words, values-words, words-pass, says-rising}
use Rattle.samples.proofs.Written.{says-lasting, says-many, says-fewest, says_some, says-worded, goods, values-few}
use Rattle.samples.proofs.Reach.{doubled, behind-within, within-behind, words-fit, words-spaced, whole_words}
use Rattle.content.specs.Pings.{Ping, head_u, head_c, part_in, attribute_in, count_in, words_in, content_u, content_c, data_u, data_c}
use Rattle.content.specs.Items.{ping, item_by, item_of}
use Rattle.content.specs.Forms.{tuple_u, tuple_c, has_length, needs_words, packs, ping_form, form_of}
use Rattle.content.proofs.Fine.{Sound, Kept, head-fine, inner-fine}
use Rattle.content.proofs.Families.{shape_u, shape_c, code_u, code_c, plain_size, PlainSize, plain_size_lem, plain-least, plain-whole}

-- ---- where the rules on samples say that these stand: behind data size and type, and behind the header
pub samples-there_u : 6 + head_u ≡ first_sample
samples-there_u = refl

pub count-there : 6 + head_u ≡ count_at
count-there = refl

pub words-there : 6 + head_c ≡ words_at
words-there = refl

-- ---- the parts of data h, m, a: a header, samples or words, an attribute
part_of : (h m a : List ℕ) (n : ℕ) → length h ≡ n → length a ≡ 4 → part_in n (h ++ (m ++ a)) ≡ m
unfolding part_in
part_of h m a n e f =
    let l : length m ≡ length (h ++ (m ++ a)) - (n + 4) = omega (arith, length-append h (m ++ a), length-append m a) in
    rw (drop_at h (m ++ a) n e, take_at m a (length (h ++ (m ++ a)) - (n + 4)) l)

attribute_of : (o : Bool) (b a : List ℕ) → length a ≡ 4 → attribute_in o (b ++ a) ≡ num_of o a
unfolding attribute_in
attribute_of o b a f =
    let l : length b ≡ length (b ++ a) - 4 = omega (arith, length-append b a) in
    rw (drop_at b a (length (b ++ a) - 4) l)

-- the header is read off the front of the data
head_of : (o : Bool) (vs : List Value) (r : List ℕ) → Fit ping_row vs → values_of o ping_row (encode o ping_row vs ++ r) ≡ vs
head_of o vs r f =
    let h = encode o ping_row vs in
    let n = length-encode o f in
    sym (values-take o ping_row (length h) (h ++ r) (omega arith)) ∙ ap (values_of o ping_row) (take_at h r (length h) refl)
    ∙ values-encode o f

-- ---- what every ping holds that can be written ..
pub record Held (c : Ping) : Type 0 where
  pub head : Fit ping_row c.head
  pub lettered : Lettered c.head
  pub attr : c.attr < 256 ^ 4
  pub few : length c.samples ≤ most
  pub rising : Rising 0 c.samples

-- .. as an uncompressed one ..
pub record Plain (c : Ping) : Type 0 where
  pub listed : has_u c.family ≡ true
  pub some : 1 ≤ length c.samples
  pub endless : c.length ≡ none
  pub within : Within (number_limit c.family) (value_limit c.family) c.samples

-- .. as a compressed one ..
pub record Packed (c : Ping) : Type 0 where
  pub listed : has_c c.family ≡ true
  pub worded : AllWorded c.family c.samples
  pub lasting : Lasting c.samples c.length
  pub some : 1 ≤ length (words_for c.family c.samples c.length)
  pub short : value_bytes c.family * length (words_for c.family c.samples c.length) ≤ 262108

-- .. and in its normal form
pub record Good (c : Ping) : Type 0 where
  pub held : Held c
  pub plain : packs c ≡ false → Plain c
  pub packed : packs c ≡ true → Packed c

module _ (o : Bool) (c : Ping) (g : Held c) where
  h : List ℕ
  h = encode o ping_row c.head

  t : List ℕ
  t = bytes_of o 4 c.attr

  length_h : length h ≡ 18
  unfolding h
  length_h = length-encode o g.head

  length_t : length t ≡ 4
  unfolding t
  length_t = length_bytes_of o 4 c.attr

  -- ---- uncompressed data
  module _ (p : Plain c) where
    m : List ℕ
    m = spaced (unsampled c.family o c.samples)

    size : PlainSize (lengths_u c.family) (sample_bytes c.family) (length c.samples)
    size = plain_size_lem c.family (length c.samples) p.some g.few

    -- a space is no sample
    samples_m : all_samples c.family o m ≡ c.samples
    unfolding m spaced
    samples_m =
        let bs = unsampled c.family o c.samples in
        let z : List ℕ = replicate (length bs % 4) 0 in
        let r : length z < sample_bytes c.family =
        omega (
          arith,
          length-replicate {A = ℕ} (length bs % 4) 0,
          ap (λ (n : ℕ). n % 4)
              (length-unsampled c.family o c.samples),
          size.under,
        ) in
        all-samples c.family o c.samples z p.within r

    -- they say what they were made from
    pub content_u_lem : content_u c.family o (data_u o c) ≡ c
    unfolding content_u data_u h t m
    content_u_lem =
        λ i. record {
          family = c.family;
          head = head_of o c.head (m ++ t) g.head i;
          samples = (ap (all_samples c.family o) (part_of h m t 18 length_h length_t) ∙ samples_m) i;
          length = sym p.endless i;
          attr = (ap (attribute_in o) (sym (append_assoc h m t)) ∙ attribute_of o (h ++ m) t length_t
              ∙ num_of_bytes_of o 4 c.attr g.attr) i;
        }

    pub length_u : length (data_u o c) + 10 ≡ plain_size (sample_bytes c.family) (length c.samples)
    unfolding data_u h t m
    length_u =
        let bs = unsampled c.family o c.samples in
        omega (
          arith,
          length-append h (m ++ t),
          length-append m t,
          length_h,
          length_t,
          length-spaced bs,
          length-unsampled c.family o
              c.samples,
          ap (λ (n : ℕ). n % 4) (length-unsampled c.family o c.samples),
        )

    bytes_u : Bytes (data_u o c)
    unfolding data_u h t m
    bytes_u =
        bytes_append h (m ++ t) (bytes-encode o g.head g.lettered)
        (bytes_append m t (bytes-spaced _ (bytes-unsampled c.family o c.samples)) (bytes-ordered o _ (bytes-lows 4 c.attr)))

    pub sound_u : Sound o (tuple_u o c)
    sound_u =
        let v = tuple_u o c in
        let d = data_u o c in
        let s = shape_u c.family p.listed in
        record {
          framed = record {
            kind = code_u c.family;
            bytes = bytes_u;
            allowed =
                allowed_of (length d + 10) (ap (λ (n : ℕ). n % 4) length_u ∙ size.whole) (omega (arith, length_u))
                (omega (arith, length_u, size.small));
          };
          head = head-fine o v (uncompressed c.family) s (ap (fitting (lengths_u c.family)) length_u ∙ size.fits) refl;
          inner = inner-fine o v (uncompressed c.family) s
              (ap (λ (q : Ping). judged (sample_rules c.family q.samples)) content_u_lem
              ∙ passed (sample_rules c.family c.samples) (
                le-ltb most (length c.samples) g.few,
                (rising-passes c.samples g.rising, tt),
              ));
        }

    pub item_u : item_of o (tuple_u o c) ≡ some (ping c)
    unfolding item_of
    item_u =
        ap (λ (q : Shape). item_by q o (tuple_u o c)) (shape_u c.family p.listed) ∙ ap (λ (q : Ping). some (ping q)) content_u_lem

  -- how long compressed data of any words are
  pub length_data : (us : List ℕ) → length (data_c o c us) ≡ 26 +
      (value_bytes c.family * length us + (value_bytes c.family * length us) % 4)
  unfolding data_c h t
  length_data us =
      let n = bytes_of o 4 (length c.samples) in
      let b = spaced (unwords (value_bytes c.family) o us) in
      let l = length-unwords (value_bytes c.family) o us in
      omega (
        arith,
        length-append h (n ++ (b ++ t)),
        length-append n (b ++ t),
        length-append b t,
        length_h,
        length_t,
        length_bytes_of o 4
            (length c.samples),
        length-spaced (unwords (value_bytes c.family) o us),
        l,
        ap (λ (i : ℕ). i % 4) l,
      )

  -- ---- compressed data, in the fewest words
  module _ (p : Packed c) where
    ws : List ℕ
    ws = words_for c.family c.samples c.length

    n : List ℕ
    n = bytes_of o 4 (length c.samples)

    b : List ℕ
    b = spaced (unwords (value_bytes c.family) o ws)

    length_n : length (h ++ n) ≡ 22
    unfolding n
    length_n = length-append h n ∙ omega (arith, length_h, length_bytes_of o 4 (length c.samples))

    count_c : count_in o (data_c o c ws) ≡ length c.samples
    unfolding count_in data_c h t n b
    count_c =
        let r = b ++ t in
        let small : length c.samples < 256 ^ 4 = omega (arith, g.few) in
        ap (λ (l : List ℕ). num_of o (take 4 l)) (drop_at h (n ++ r) 18 length_h)
        ∙ ap (num_of o) (take_at n r 4 (length_bytes_of o 4 (length c.samples)))
        ∙ num_of_bytes_of o 4 (length c.samples) small

    part_c : part_in head_c (data_c o c ws) ≡ b
    unfolding data_c h t n b
    part_c = ap (part_in head_c) (sym (append_assoc h n (b ++ t))) ∙ part_of (h ++ n) b t 22 length_n length_t

    -- the words are read back: a space is none
    words_c : words_in c.family o (data_c o c ws) ≡ ws
    unfolding words_in ws b
    words_c =
        let k = value_bytes c.family in
        let v = values-words c.family c.samples c.length g.rising p.worded in
        ap₂ (λ (i : ℕ) (l : List ℕ). held_words c.family i (all_words k o l)) (count_c ∙ sym v) part_c
        ∙ held-written c.family o ws (below-words c.family c.samples c.length g.rising p.worded) (some-width c.family)

    pub content_c_lem : content_c c.family o (data_c o c (words_for c.family c.samples c.length)) ≡ c
    unfolding content_c data_c h t n b ws
    content_c_lem =
        λ i. record {
          family = c.family;
          head = head_of o c.head (n ++ (b ++ t)) g.head i;
          samples = (ap (samples_in c.family) words_c ∙ samples-there c.family c.samples c.length g.rising p.worded) i;
          length = (ap (ping_length (radix_of c.family)) words_c
              ∙ length-there c.family c.samples c.length g.rising p.worded p.lasting) i;
          attr = (ap (attribute_in o) (sym (append_assoc h n (b ++ t)) ∙ sym (append_assoc (h ++ n) b t))
              ∙ attribute_of o (h ++ n ++ b) t length_t ∙ num_of_bytes_of o 4 c.attr g.attr) i;
        }

    -- ---- as a tuple
    length_c : length (data_c o c (words_for c.family c.samples c.length)) ≡ 26 +
        (value_bytes c.family * length ws + (value_bytes c.family * length ws) % 4)
    unfolding ws
    length_c = length_data ws

    bytes_c : Bytes (data_c o c (words_for c.family c.samples c.length))
    unfolding data_c h t n b ws
    bytes_c =
        bytes_append h (n ++ (b ++ t)) (bytes-encode o g.head g.lettered)
        (bytes_append n (b ++ t) (bytes-ordered o _ (bytes-lows 4 (length c.samples)))
        (bytes_append b t (bytes-spaced _ (bytes-unwords (value_bytes c.family) o ws)) (bytes-ordered o _ (bytes-lows 4 c.attr))))

    pub sound_c : Sound o (tuple_c o c)
    unfolding ws
    sound_c =
        let v = tuple_c o c in
        let d = data_c o c ws in
        let s = shape_c c.family p.listed in
        let k = words-spaced c.family (length ws) in
        let many = k.some p.some in
        let few = k.most 262108 refl p.short in
        let l = length_c in
        let whole = k.whole in
        record {
          framed = record {
            kind = code_c c.family;
            bytes = bytes_c;
            allowed =
                allowed_of (length d + 10) (omega arith) (omega arith) (omega arith);
          };
          head = head-fine o v (compressed c.family) s (rw (
            le-leb 40 (length d + 10) (omega arith),
            eq-eqb
                ((length d + 10 - 40) % 4) 0 (omega arith),
          )) refl;
          inner = inner-fine o v (compressed c.family) s
              (ap₂ (λ (i : ℕ) (l : List ℕ). judged (word_rules c.family i l)) count_c words_c
              ∙ words-pass c.family c.samples c.length g.rising p.worded g.few);
        }

    pub item_c : item_of o (tuple_c o c) ≡ some (ping c)
    unfolding item_of
    item_c =
        ap (λ (q : Shape). item_by q o (tuple_c o c)) (shape_c c.family p.listed) ∙ ap (λ (q : Ping). some (ping q)) content_c_lem

-- ---- what a sound ping holds
length_none : (l : Option ℕ) → has_length l ≡ false → l ≡ none
length_none none e = refl
length_none (some n) e = absurd (true≢false e)

some_of : (n : ℕ) → (n ≡ 0 → ⊥) → 1 ≤ n
some_of zero h = absurd (h refl)
some_of (suc n) h = omega arith

module _ (o : Bool) (t : Tup) (g : Framed t) (long : 26 ≤ length t.body) where
  most-body : length t.body ≤ 262134
  most-body = omega (arith, allowed-most (length_of t) g.allowed)

  head-fits : Fit ping_row (values_of o ping_row t.body)
  head-fits = values-fit o ping_row t.body g.bytes (omega arith)

  attr-fits : attribute_in o t.body < 256 ^ 4
  unfolding attribute_in
  attr-fits =
      let d = drop (length t.body - 4) t.body in
      let n : length d ≡ 4 = length-drop (length t.body - 4) t.body ∙ omega arith in
      rw n at (num_of_bound o d (bytes_drop (length t.body - 4) t.body g.bytes))

  -- the part between a header of a bytes and the attribute
  part_length_lem : (a : ℕ) → a + 4 ≤ length t.body → length (part_in a t.body) ≡ length t.body - (a + 4)
  unfolding part_in
  part_length_lem a h = length-take-le (length t.body - (a + 4)) (drop a t.body) (simp length-drop (omega arith))

  part_bytes : (a : ℕ) → Bytes (part_in a t.body)
  unfolding part_in
  part_bytes a = bytes_take (length t.body - (a + 4)) (drop a t.body) (bytes_drop a t.body g.bytes)

  -- ---- an uncompressed one
  module _ (f : Family) (listed : has_u f ≡ true) (fits : fitting (lengths_u f) (length_of t) ≡ true) where
    s : List Sample
    s = all_samples f o (part_in head_u t.body)

    inner : Within (number_limit f) (value_limit f) s × (length s ≡ (length t.body - 22) / sample_bytes f)
    unfolding s all_samples
    inner =
        let d = part_in head_u t.body in
        let n = part_length_lem 18 (omega arith) in
        let r = samples-within f o (length d / sample_bytes f) d (part_bytes 18) (div-mul-le_self (length d) (sample_bytes f)) in
        (r.0, r.1 ∙ ap (λ (k : ℕ). k / sample_bytes f) n)

    some_sample : 1 ≤ length s
    some_sample = by-many ((length t.body - 22) / sample_bytes f) refl
      where
        k : ℕ
        k = sample_bytes f

        m : ℕ
        m = length t.body - 22

        by-many : (n : ℕ) → (length t.body - 22) / sample_bytes f ≡ n → 1 ≤ length s
        by-many zero e =
            let z : 0 * sample_bytes f + m % sample_bytes f ≡ m = rw e at (div-add-mod' (length t.body - 22) (sample_bytes f)) in
            absurd (omega (arith, mod-lt m (some_bytes f), plain-least f (length_of t) fits))
        by-many (suc n) e = omega (arith, inner.1)

    pub plain_u : packs (content_u f o t.body) ≡ false
    unfolding packs content_u s
    plain_u =
        let reach = behind-within (number_limit f) (value_limit f) s 0 inner.0 (omega arith) in
        rw (listed, ne_eqb (length s) 0 (λ e. omega (arith, some_sample)), le-ltb (number_limit f) (behind 0 s) reach)
        (and_false (has_c f) refl)

    -- as long as the tuple is
    pub many_u : plain_size (sample_bytes f) (length (content_u f o t.body).samples) ≡ length_of t
    unfolding content_u s
    many_u =
        let z : length_of t - 32 ≡ length t.body - 22 = omega arith in
        ap (plain_size (sample_bytes f)) (inner.1 ∙ ap (λ (n : ℕ). n / sample_bytes f) (sym z)) ∙ plain-whole f (length_of t) fits

    -- samples of eight bytes are never too many
    pub few_u : sample_bytes f ≡ 8 → length (content_u f o t.body).samples ≤ most
    unfolding content_u s
    few_u e = let n : length s ≡ (length t.body - 22) / 8 = inner.1
        ∙ ap (λ (k : ℕ). (length t.body - 22) / k) e in omega (arith, most-body)

    pub good_u : judged (sample_rules f (content_u f o t.body).samples) ≡ Fine → Good (content_u f o t.body)
    unfolding content_u s
    good_u e =
        let p = passes (sample_rules f s) e in
        record {
          held = record {
            head = head-fits;
            lettered = tt;
            attr = attr-fits;
            few = ltb-false most (length s) p.0;
            rising =
                rises s p.1.0;
          };
          plain = λ _. record { listed = listed; some = some_sample; endless = refl; within = inner.0 };
          packed = λ q. absurd (true≢false (sym q ∙ plain_u));
        }

  -- ---- a compressed one
  module _ (f : Family) (listed : has_c f ≡ true) (more : 30 ≤ length t.body) where
    all : List ℕ
    all = all_words (value_bytes f) o (part_in head_c t.body)

    part-words : length (part_in head_c t.body) ≡ length t.body - 26
    part-words = part_length_lem 22 (omega arith)

    four : (length t.body - 26) % 4 ≡ 0
    four = omega (arith, allowed_4 (length_of t) g.allowed)

    -- every word of two or four bytes, and the bytes are all used
    inside : Below (256 ^ value_bytes f) all × (value_bytes f * length all ≡ length t.body - 26)
    unfolding all all_words
    inside =
        let d = part_in head_c t.body in
        let w = whole_words f (length t.body - 26) four in
        let e : value_bytes f * (length d / value_bytes f) ≡ length d = ap (λ (k : ℕ). value_bytes f * (k / value_bytes f)) part-words ∙ w
        ∙ sym part-words in
        let r = words-below (value_bytes f) (length d / value_bytes f) o d (part_bytes 22) (omega arith) in
        (r.0, ap (λ (k : ℕ). value_bytes f * k) r.1 ∙ e ∙ part-words)

    found : List ℕ
    found = words_in f o t.body

    below-found : Below (256 ^ value_bytes f) found
    unfolding found words_in all
    below-found = held_below f (count_in o t.body) all (256 ^ value_bytes f) inside.0

    some-found : 1 ≤ length found
    unfolding found words_in all
    some-found = held-some f (count_in o t.body) all (omega (arith, inside.1))

    few-found : length found ≤ length all
    unfolding found words_in all
    few-found = held-few f (count_in o t.body) all

    -- the words, by their own name
    pub words-below_c : Below (256 ^ value_bytes f) (words_in f o t.body)
    words-below_c = unfold found in below-found

    pub words-some_c : 1 ≤ length (words_in f o t.body)
    words-some_c = unfold found in some-found

    pub good_c : judged (word_rules f (count_in o t.body) (words_in f o t.body)) ≡ Fine → Good (content_c f o t.body)
    unfolding content_c found packs
    good_c e =
        let p = passes (word_rules f (count_in o t.body) found) e in
        let s = samples_in f found in
        let l = ping_length (radix_of f) found in
        let worded = says-worded f found below-found (goods f found p.1.0) in
        let up = says-rising f found in
        record {
          held = record {
            head = head-fits;
            lettered = tt;
            attr = attr-fits;
            few =
                omega (arith, says-many f found, ltb-false most (values (radix_of f) found) p.0);
            rising = up;
          };
          plain = λ q.
              let both = not-false (has_u f) (or_left (not (has_u f)) (has_c f && needs_words (content_c f o t.body)) q) in
              let needs : needs_words (content_c f o t.body) ≡ false = rw (both, listed) at q in
              let rest = or_right (has_length l) (eqb (length s) 0 || ltb (number_limit f) (behind 0 s)) needs in
              record {
                listed = both;
                some = some_of (length s) (eqb-false (length s) 0 (or_left (eqb (length s) 0) (ltb (number_limit f) (behind 0 s)) rest));
                endless = length_none l (or_left (has_length l) (eqb (length s) 0 || ltb (number_limit f) (behind 0 s)) needs);
                within = within-behind (number_limit f) (value_limit f) s 0 up
                    (ltb-false (number_limit f) (behind 0 s) (or_right (eqb (length s) 0) (ltb (number_limit f) (behind 0 s)) rest))
                    (words-fit f both listed s worded);
              };
          packed = λ q.
              record {
                listed = listed;
                worded = worded;
                lasting = says-lasting f found;
                some = says_some f found some-found;
                short = le_trans (mul-le-mul_left (value_bytes f) (le_trans (says-fewest f found) few-found))
                    (omega (arith, inside.1, most-body));
              };
        }

    -- values are at most as many as words of the part
    pub few_c : value_bytes f * length (content_c f o t.body).samples ≤ length t.body - 26
    unfolding content_c found
    few_c =
        let v : length (samples_in f found) ≤ length all = omega (arith, says-many f found, values-few (radix_of f) found, few-found) in
        le_trans (mul-le-mul_left (value_bytes f) v) (omega (arith, inside.1))

    -- in the fewest words it is no longer than it was
    pub short_c :
        let n = length (words_for f (content_c f o t.body).samples (content_c f o t.body).length) in
        36 + (value_bytes f * n + (value_bytes f * n) % 4) ≤ length_of t
    unfolding content_c found
    short_c =
        let n = length (words_for f (samples_in f found) (ping_length (radix_of f) found)) in
        let few = mul-le-mul_left (value_bytes f) (le_trans (says-fewest f found) few-found) in
        omega (arith, (words-spaced f n).most (length t.body - 26) four (omega (arith, inside.1, few)))

    -- and uncompressed less than twice as long
    pub twice_c : has_u f ≡ true → plain_size (sample_bytes f) (length (content_c f o t.body).samples) ≤ 2 * length_of t
    twice_c both =
        let n = length (content_c f o t.body).samples in
        let e = doubled f both listed n in
        omega (arith, few_c, e.0, e.1)

-- ---- a ping that can be written is kept
pub kept-ping : (c : Ping) → Good c → Kept (ping c)
unfolding form_of
kept-ping c g = by_bool (packs c) as_words as_samples
  where
    form_c : packs c ≡ true → ping_form c ≡ tuple_c false c
    form_c e = unfold ping_form in rw (e, ping_form)

    form_u : packs c ≡ false → ping_form c ≡ tuple_u false c
    form_u e = unfold ping_form in rw (e, ping_form)

    as_words : packs c ≡ true → Kept (ping c)
    as_words e =
        record {
          sound = subst (Sound false) (sym (form_c e)) (sound_c false c g.held (g.packed e));
          item = subst (λ (t : Tup). item_of false t ≡ some (ping c)) (sym (form_c e)) (item_c false c g.held (g.packed e));
        }

    as_samples : packs c ≡ false → Kept (ping c)
    as_samples e =
        record {
          sound = subst (Sound false) (sym (form_u e)) (sound_u false c g.held (g.plain e));
          item = subst (λ (t : Tup). item_of false t ≡ some (ping c)) (sym (form_u e)) (item_u false c g.held (g.plain e));
        }
