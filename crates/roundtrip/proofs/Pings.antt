-- Pings of every family: what a writer writes is sound in either byte order and is read back; and where both kinds of a family can be
-- written, both say the same. Assumes nothing.
use mathlib.Core.Path.{◌≡◌, refl, sym, ap, ap₂, ◌∙◌}
use Prim.Native.Nat.{ℕ, zero, suc, ◌≤◌, ◌<◌}
use mathlib.Core.Bool.{Bool, true, false, not, ◌&&◌, true≢false}
use mathlib.Core.List.{List, [], ◌∷◌, ◌++◌}
use mathlib.Core.Option.{Option, some, none}
use native.Mathlib.Omega.{arith}
use borrow.Author.Tests.{ltb-false, le-ltb, eq-eqb, eqb-true, eqb-false, not-false}
use lib.Dec.{ltb, eqb}
use lib.IntN.{ℤ}
use lib.ListN.{length, take, drop}
use Rattle.rules.proofs.Bools.{both_true}
use Rattle.layout.specs.Families.{Family, has_u, has_c, number_bytes, value_count}
use Rattle.layout.specs.Types.{Shape, uncompressed, compressed, shape_of, has_samples, is_ping}
use Rattle.layout.specs.declared.Counts.{Counts}
use Rattle.layout.specs.Answer.{Answer}
use Rattle.layout.specs.Answer.{Accepted}
use Rattle.layout.specs.Answers.{left_by, accepting}
use Rattle.frame.specs.Frames.{Tup, length_of, frame}
use Rattle.turning.specs.Rows.{fit-end, fit-num}
use Rattle.samples.specs.Words.{Sample}
use Rattle.samples.specs.Lists.{handed_bytes, paired, angled, numbers_of, values_of, alongship_of, athwartship_of}
use Rattle.samples.specs.Values.{wordless, words_for}
use Rattle.samples.specs.Judging.{most, first_drop, first_wordless}
use Rattle.samples.proofs.Runs.{by_bool, long-enough}
use Rattle.samples.proofs.Rising.{all-rising, drop-most}
use Rattle.samples.proofs.Apart.{length-paired, length-angled}
use Rattle.samples.proofs.Written.{all-worded, words-some, wordless-most}
use Rattle.content.specs.Pings.{Ping}
use Rattle.content.specs.Items.{ping, item_of}
use Rattle.content.specs.Forms.{tuple_u, tuple_c, has_length}
use Rattle.content.proofs.Fine.{Sound}
use Rattle.content.proofs.Families.{shape_u, shape_c}
use Rattle.content.proofs.Pings.{Held, Plain, Packed, sound_u, item_u, sound_c, item_c, length_data}
use Rattle.tuples.specs.Readers.{holding, is_valued, is_angled, read_item}
use Rattle.pings.specs.declared.PingHeader.{PingHeader}
use Rattle.pings.specs.PingRead.{PingRead}
use Rattle.pings.specs.PingRead.{Read}
use Rattle.pings.specs.Headers.{head_of, told_length}
use Rattle.pings.specs.Readers.{samples_by, samples_at, family_by, values_at, hand_answer, hand_angles, behind_read}
use Rattle.pings.specs.Readers.{sample_answer, angle_answer, SamplesRead, AnglesRead}
use Rattle.pings.specs.Fields.{header_of, ping_by, kind_u, kind_c, kind_by, fields_by, ping_fields, answered, PingAt}
use Rattle.ping_writers.specs.Writers.{ping_of, WrittenU, WrittenC, WrittenA}
use Rattle.roundtrip.specs.Held.{I32, Holds}
use Rattle.roundtrip.specs.Pings.{HeaderTyped, PingTyped, AnglesTyped, Listed, AnglesListed, Worded, PingBack, AnglesBack}
use Rattle.roundtrip.proofs.Tuples.{read-tuple, read_answer_lem, read-item}
use Rattle.roundtrip.proofs.Rows.{signed-pattern, pattern-below}
use Rattle.roundtrip.proofs.Written.{written-kept, written_held}
use Rattle.roundtrip.proofs.Apart.{one_value, angles_u, numbers_apart, values-apart, within-apart}
use Rattle.roundtrip.proofs.Apart.{numbers-angled, alongship-angled, athwartship-angled, within-angled}

pub header-back : (h : PingHeader) → HeaderTyped h → header_of (head_of h) ≡ h
header-back h g = rw (signed-pattern 3 h.detected_bottom_range g.5)

-- ---- a file that holds a sound tuple of this shape with this ping as its content
pub record Says (c : Ping) (q : Shape) (file : List ℕ) (p : ℕ) : Type 0 where
  pub order : Bool
  pub tuple : Tup
  pub sound : Sound order tuple
  pub item : item_of order tuple ≡ some (ping c)
  pub shape : shape_of tuple.kind ≡ q
  pub there : Holds file p order (frame order tuple)

-- what is read there is that ping, whatever the type and the byte order
pub says-item : {c : Ping} {q : Shape} {file : List ℕ} {p : ℕ} → Says c q file p → read_item file p ≡ some (ping c)
says-item s = read-item s.sound s.there ∙ s.item

-- there are samples, or a length
neither : (n : ℕ) (l : Option ℕ) → eqb n 0 && not (has_length l) ≡ false → n ≡ 0 → l ≡ none → ⊥
neither n l e z q =
    let both : eqb n 0 && not (has_length l) ≡ true = ap₂ (λ (b : Bool) (m : Option ℕ). b && not (has_length m)) (eq-eqb n 0 z) q in
    true≢false (sym both ∙ e)

above : (n : ℕ) → (n ≡ 0 → ⊥) → 0 < n
above zero z = absurd (z refl)
above (suc n) z = omega arith

-- ---- samples that rise and aren't too many, under a header and an attribute of the program
record Taken (h : PingHeader) (a : ℤ) (s : List Sample) : Type 0 where
  pub header : HeaderTyped h
  pub attribute : I32 a
  pub few : length s ≤ most
  pub rising : first_drop 0 s ≡ length s

module _ (f : Family) {h : PingHeader} {a : ℤ} {s : List Sample} (g : Taken h a s) where
  -- the ping can be written, whatever length it is given
  held : (len : Option ℕ) → Held (ping_of f h a s len)
  held len =
      let i = g.header in
      record {
        head =
            fit-num i.0 (fit-num i.1
            (fit-num i.2 (fit-num i.3 (fit-num i.4 (fit-num (pattern-below 3 h.detected_bottom_range i.5) fit-end)))));
        lettered = tt;
        attr = pattern-below 3 a g.attribute;
        few = g.few;
        rising = all-rising s 0 g.rising;
      }

  -- its tuples
  says_plain : {o : Bool} {file : List ℕ} {p : ℕ} → Plain (ping_of f h a s none) → Holds file p o (frame o (tuple_u o (ping_of f h a s none)))
      → Says (ping_of f h a s none) (uncompressed f) file p
  says_plain {o} u b =
      let c = ping_of f h a s none in
      record {
        order = o;
        tuple = tuple_u o c;
        sound = sound_u o c (held none) u;
        item = item_u o c (held none) u;
        shape = shape_u f u.listed;
        there = b;
      }

  says-packed : {len : Option ℕ} {o : Bool} {file : List ℕ} {p : ℕ} → Packed (ping_of f h a s len)
      → Holds file p o (frame o (tuple_c o (ping_of f h a s len))) → Says (ping_of f h a s len) (compressed f) file p
  says-packed {len} {o} u b =
      let c = ping_of f h a s len in
      record {
        order = o;
        tuple = tuple_c o c;
        sound = sound_c o c (held len) u;
        item = item_c o c (held len) u;
        shape = shape_c f u.listed;
        there = b;
      }

  -- what the readers find
  module _ {len : Option ℕ} {q : Shape} {file : List ℕ} {p : ℕ} (t : Says (ping_of f h a s len) q file p) where
    says-samples : samples_at file p ≡ s
    says-samples = ap samples_by (says-item t)

    says-values : values_at file p ≡ values_of (handed_bytes f) s
    says-values = ap (λ x. values_of (handed_bytes (family_by x)) (samples_by x)) (says-item t)

    says-fields : has_samples q ≡ true → (out : PingRead) → PingAt file p out → out ≡ Read h a (kind_by q) (length s) (told_length len)
    unfolding ping_fields is_ping
    says-fields is out e =
        let answer = read_answer_lem t.sound t.there is_ping (ap has_samples t.shape ∙ is) in
        let fields = ap₂ fields_by (ap ping_by (says-item t)) (ap (λ (u : Tup). u.kind) (read-tuple t.sound t.there)) in
        let same : fields_by (ping_of f h a s len) t.tuple.kind ≡ Read h a (kind_by q) (length s) (told_length len) =
        λ j. Read (header-back h g.header j) (signed-pattern 3 a g.attribute j) (kind_by (t.shape j)) (length s) (told_length len) in
        e.outcome ∙ ap₂ answered answer (fields ∙ same)

    -- the sample reader, of a ping with values
    says-handed : holding 1 q ≡ true → (numbers ms : List ℕ) (values us : List ℤ) (r : Answer) → length s ≤ length numbers
        → length s ≤ length values → SamplesRead file p numbers values r ms us
        → (r ≡ accepting 1 (length s)) × (ms ≡ left_by (accepting 1 (length s)) (numbers_of s) numbers)
        × (us ≡ left_by (accepting 1 (length s)) (values_of (handed_bytes f) s) values)
    unfolding sample_answer
    says-handed is numbers ms values us r m n e =
        let answer = read_answer_lem t.sound t.there is_valued (ap (holding 1) t.shape ∙ is) in
        let room : hand_answer (length s) (length numbers) (length values) ≡ accepting 1 (length s) =
        rw (le-ltb (length numbers) (length s) m, le-ltb (length values) (length s) n) in
        let told : sample_answer file p (length numbers) (length values) ≡ accepting 1 (length s) =
        ap₂ (λ (x : List Sample) (y : Answer). behind_read (hand_answer (length x) (length numbers) (length values)) y) says-samples answer
        ∙ room in (
          e.answer.is ∙ told,
          e.numbers_left ∙ ap₂ (λ (y : Answer) (x : List Sample). left_by y (numbers_of x) numbers) told says-samples,
          e.values_left ∙ ap₂ (λ (y : Answer) (x : List ℤ). left_by y x values) told says-values,
        )

    -- the angle reader, of one with angles
    says-angles : holding 2 q ≡ true → (numbers ms : List ℕ) (alongship athwartship us ws : List ℤ) (r : Answer)
        → length s ≤ length numbers → length s ≤ length alongship → length s ≤ length athwartship
        → AnglesRead file p numbers alongship athwartship r ms us ws
        → (r ≡ accepting 1 (length s)) × (ms ≡ left_by (accepting 1 (length s)) (numbers_of s) numbers)
        × (us ≡ left_by (accepting 1 (length s)) (alongship_of s) alongship)
        × (ws ≡ left_by (accepting 1 (length s)) (athwartship_of s) athwartship)
    unfolding angle_answer
    says-angles is numbers ms alongship athwartship us ws r m n k e =
        let answer = read_answer_lem t.sound t.there is_angled (ap (holding 2) t.shape ∙ is) in
        let hand : ℕ → Answer = λ n. hand_angles n (length numbers) (length alongship) (length athwartship) in
        let room : hand_angles (length s) (length numbers) (length alongship) (length athwartship) ≡ accepting 1 (length s) =
        rw (
          le-ltb (length numbers) (length s) m,
          le-ltb (length alongship) (length s) n,
          le-ltb (length athwartship) (length s) k,
        ) in
        let told : angle_answer file p (length numbers) (length alongship) (length athwartship) ≡ accepting 1 (length s) =
        ap₂ (λ (x : List Sample) (y : Answer). behind_read (hand (length x)) y) says-samples answer ∙ room in (
          e.answer.is ∙ told,
          e.numbers_left ∙ ap₂ (λ (y : Answer) (x : List Sample). left_by y (numbers_of x) numbers) told says-samples,
          e.alongship_left ∙ ap₂ (λ (y : Answer) (x : List Sample). left_by y (alongship_of x) alongship) told says-samples,
          e.athwartship_left ∙ ap₂ (λ (y : Answer) (x : List Sample). left_by y (athwartship_of x) athwartship) told says-samples,
        )

-- what is left where a list stands for another, and its length for a number
left_as : {A : Type 0} {m : ℕ} {xs ys : List A} (zs : List A) → xs ≡ ys → length ys ≡ m → xs ++ drop (length xs) zs ≡ ys ++ drop m zs
left_as {ys = ys} zs e l = ap (λ xs. xs ++ drop (length xs) zs) e ∙ ap (λ (k : ℕ). ys ++ drop k zs) l

-- ---- numbers of k bytes and values
module _ {f : Family} {k : ℕ} {h : PingHeader} {a : ℤ} {ns : List ℕ} {vs : List ℤ} (g : PingTyped f k h a ns vs) (l : Listed f ns vs) where
  abbrev s : List Sample
  s = paired (handed_bytes f) ns vs

  many : length (paired (handed_bytes f) ns vs) ≡ length ns
  many = length-paired (handed_bytes f) ns vs l.equal

  taken : Taken h a (paired (handed_bytes f) ns vs)
  taken =
      record { header = g.header; attribute = g.attribute; few = omega (arith, many, l.few); rising = l.rising ∙ sym many }

  -- as an uncompressed ping, and as a compressed one
  says_u : {o : Bool} {file : List ℕ} {p : ℕ} → has_u f ≡ true → value_count f ≡ 1 → k ≡ number_bytes f → 0 < length ns
      → Holds file p o (frame o (tuple_u o (ping_of f h a s none))) → Says (ping_of f h a s none) (uncompressed f) file p
  says_u u one stored any b =
      says_plain f taken (record {
        listed = u;
        some = omega (arith, many, any);
        endless = refl;
        within = within-apart f u one ns vs (rw stored at g.numbers) g.values;
      }) b

  says_c : {len : Option ℕ} {o : Bool} {file : List ℕ} {p : ℕ} → has_c f ≡ true → Worded f ns vs len
      → Holds file p o (frame o (tuple_c o (ping_of f h a s len))) → Says (ping_of f h a s len) (compressed f) file p
  says_c {len} c w b =
      let lasts = long-enough s len w.long in
      says-packed f taken (record {
        listed = c;
        worded = all-worded f s (w.worded ∙ sym many);
        lasting = lasts;
        some = words-some f s len lasts (λ z e. neither (length ns) len w.some (sym many ∙ z) e);
        short = omega (arith, w.short);
      }) b

  -- read by both readers
  says_back : {len : Option ℕ} {q : Shape} {file : List ℕ} {p : ℕ} → has_samples q ≡ true → holding 1 q ≡ true
      → Says (ping_of f h a s len) q file p → PingBack f h a ns vs len (kind_by q) file p
  says_back {len} {q} is one t =
      record {
        fields = λ out e. says-fields f taken t is out e ∙ ap (λ (n : ℕ). Read h a (kind_by q) n (told_length len)) many;
        samples = says-samples f taken t;
        handed = λ numbers ms values us r m n e.
            let z = says-handed f taken t one numbers ms values us r (omega (arith, many, m)) (omega (arith, many, n)) e in (
              z.0 ∙ ap (accepting 1) many,
              z.1 ∙ left_as numbers (numbers_apart f ns vs l.equal) refl,
              z.2 ∙ left_as values (values-apart f ns vs l.equal g.values) l.equal,
            );
      }

  -- ---- a file that holds what a writer writes
  module _ {o : Bool} {file : List ℕ} {p : ℕ} where
    pub back_u : has_u f ≡ true → value_count f ≡ 1 → k ≡ number_bytes f → 0 < length ns
        → Holds file p o (frame o (tuple_u o (ping_of f h a (paired (handed_bytes f) ns vs) none)))
        → PingBack f h a ns vs none (kind_u f) file p
    back_u u one stored any b = says_back refl (eq-eqb (value_count f) 1 one) (says_u u one stored any b)

    pub back_c : {len : Option ℕ} → has_c f ≡ true → Worded f ns vs len
        → Holds file p o (frame o (tuple_c o (ping_of f h a (paired (handed_bytes f) ns vs) len)))
        → PingBack f h a ns vs len (kind_c f) file p
    back_c c w b = says_back refl (eq-eqb (value_count f) 1 (one_value f c)) (says_c c w b)

  -- ---- where both can be written without a length, the uncompressed and the compressed ping have one content: samples, header and
  -- attribute
  pub same-samples : {x y : Bool} {d e : List ℕ} {p q : ℕ} → has_u f ≡ true → has_c f ≡ true → k ≡ number_bytes f → Worded f ns vs none
      → Holds d p x (frame x (tuple_u x (ping_of f h a (paired (handed_bytes f) ns vs) none)))
      → Holds e q y (frame y (tuple_c y (ping_of f h a (paired (handed_bytes f) ns vs) none)))
      → (read_item d p ≡ read_item e q) × (samples_at d p ≡ samples_at e q)
  same-samples u c stored w b t =
      let z = neither (length ns) none w.some in
      let any : 0 < length ns = above (length ns) (λ n. z n refl) in
      let same = says-item (says_u u (one_value f c) stored any b) ∙ sym (says-item (says_c c w t)) in
      (same, ap samples_by same)

-- ---- numbers and two angles
module _ {f : Family} {h : PingHeader} {a : ℤ} {ns : List ℕ} {xs ys : List ℤ} (g : AnglesTyped f h a ns xs ys)
    (l : AnglesListed ns xs ys) where
  abbrev both : List Sample
  both = angled ns xs ys

  many-angled : length (angled ns xs ys) ≡ length ns
  many-angled = length-angled ns xs ys l.alongship l.athwartship

  taken-angled : Taken h a (angled ns xs ys)
  taken-angled =
      record {
        header = g.header;
        attribute = g.attribute;
        few = omega (arith, many-angled, l.few);
        rising = l.rising ∙ sym many-angled;
      }

  says_a : {o : Bool} {file : List ℕ} {p : ℕ} → value_count f ≡ 2 → 0 < length ns
      → Holds file p o (frame o (tuple_u o (ping_of f h a both none))) → Says (ping_of f h a both none) (uncompressed f) file p
  says_a two any b =
      says_plain f taken-angled (record {
        listed = angles_u f two;
        some = omega (arith, many-angled, any);
        endless = refl;
        within = within-angled f two ns xs ys g.numbers g.alongship g.athwartship;
      }) b

  pub back_a : {o : Bool} {file : List ℕ} {p : ℕ} → value_count f ≡ 2 → 0 < length ns
      → Holds file p o (frame o (tuple_u o (ping_of f h a (angled ns xs ys) none))) → AnglesBack h a ns xs ys (kind_u f) file p
  back_a two any b =
      let t = says_a two any b in
      record {
        fields = λ out e. says-fields f taken-angled t refl out e ∙ ap (λ (n : ℕ). Read h a (kind_u f) n (told_length none)) many-angled;
        samples = says-samples f taken-angled t;
        handed = λ numbers ms alongship athwartship us ws r m n k e.
            let z = says-angles f taken-angled t (eq-eqb (value_count f) 2 two) numbers ms alongship athwartship us ws r
            (omega (arith, many-angled, m)) (omega (arith, many-angled, n)) (omega (arith, many-angled, k)) e in (
              z.0 ∙ ap (accepting 1) many-angled,
              z.1 ∙ left_as numbers (numbers-angled ns xs ys l.alongship l.athwartship) refl,
              z.2 ∙ left_as alongship (alongship-angled ns xs ys l.alongship l.athwartship g.alongship) l.alongship,
              z.3
                  ∙ left_as athwartship (athwartship-angled ns xs ys l.alongship l.athwartship g.alongship g.athwartship)
                  l.athwartship,
            );
      }

-- ---- what an acceptance tells of the lists handed over
rises : (s : List Sample) → ltb (first_drop 0 s) (length s) ≡ false → first_drop 0 s ≡ length s
rises s d = omega (arith, ltb-false (first_drop 0 s) (length s) d, drop-most s 0)

listed : (f : Family) (ns : List ℕ) (vs : List ℤ) → not (eqb (length ns) (length vs)) ≡ false → ltb most (length ns) ≡ false
    → ltb (first_drop 0 (paired (handed_bytes f) ns vs)) (length (paired (handed_bytes f) ns vs)) ≡ false → Listed f ns vs
listed f ns vs e m d =
    let same : length ns ≡ length vs = eqb-true _ _ (not-false _ e) in
    record {
      equal = sym same;
      few = ltb-false _ _ m;
      rising = rises (paired (handed_bytes f) ns vs) d ∙ length-paired (handed_bytes f) ns vs (sym same);
    }

module _ (f : Family) (o : Bool) (h : PingHeader) (a : ℤ) (ns : List ℕ) (vs : List ℤ) {out left : List ℕ} {n : Counts} where
  pub accepted_u : WrittenU f o h a ns vs out (Accepted n) left → Listed f ns vs × (0 < length ns)
  accepted_u w =
      let k = written-kept (refl, (refl, (refl, (refl, (refl, (refl, tt)))))) w in
      let l = listed f ns vs k.0 k.1.0 k.1.1.1.0 in
      let z = eqb-false (length (paired (handed_bytes f) ns vs)) 0 k.1.1.0 in
      (l, above (length ns) (λ e. z (length-paired (handed_bytes f) ns vs l.equal ∙ e)))

  pub accepted_c : {k : ℕ} {len : Option ℕ} → PingTyped f k h a ns vs → WrittenC f o h a ns vs len out (Accepted n) left
      → Listed f ns vs × Worded f ns vs len
  accepted_c {len = len} g w =
      let k = written-kept (refl, (refl, (refl, (refl, (refl, (refl, (refl, (refl, tt)))))))) w in
      let own = k.1.1 in
      let l = listed f ns vs k.0 k.1.0 own.1.0 in
      let many = length-paired (handed_bytes f) ns vs l.equal in
      let s = paired (handed_bytes f) ns vs in
      let c = ping_of f h a s len in
      let long = length_data o c (held f (taken g l) len) (words_for f s len) in (
        l,
        record {
          worded = omega (arith, many, ltb-false (first_wordless f s) (length s) own.1.1.0, wordless-most f s);
          long = own.1.1.1.0;
          some = ap (λ (i : ℕ). eqb i 0 && not (has_length len)) (sym many) ∙ own.0;
          short = omega (arith, ltb-false 262144 (length_of (tuple_c o c)) own.1.1.1.1.0, long);
        },
      )

  -- what a writer wrote, both readers read
  module _ {file : List ℕ} {p : ℕ} where
    pub again_u : has_u f ≡ true → value_count f ≡ 1 → PingTyped f (number_bytes f) h a ns vs → WrittenU f o h a ns vs out (Accepted n) left
        → Holds file p o (take n.written left) → PingBack f h a ns vs none (kind_u f) file p
    again_u u one g w b =
        let l = accepted_u w in
        back_u g l.0 u one refl l.1 (written_held (refl, (refl, (refl, (refl, (refl, (refl, tt)))))) w b)

    pub again_c : {len : Option ℕ} → has_c f ≡ true → PingTyped f 4 h a ns vs → WrittenC f o h a ns vs len out (Accepted n) left
        → Holds file p o (take n.written left) → PingBack f h a ns vs len (kind_c f) file p
    again_c c g w b =
        let l = accepted_c g w in
        back_c g l.0 c l.1 (written_held (refl, (refl, (refl, (refl, (refl, (refl, (refl, (refl, tt)))))))) w b)

module _ (f : Family) (o : Bool) (h : PingHeader) (a : ℤ) (ns : List ℕ) (xs ys : List ℤ) {out left : List ℕ} {n : Counts} where
  pub accepted_a : WrittenA f o h a ns xs ys out (Accepted n) left → AnglesListed ns xs ys × (0 < length ns)
  accepted_a w =
      let k = written-kept (refl, (refl, (refl, (refl, (refl, (refl, tt)))))) w in
      let equal = both_true (eqb (length ns) (length xs)) (eqb (length ns) (length ys)) (not-false _ k.0) in
      let first = sym (eqb-true _ _ equal.0) in
      let second = sym (eqb-true _ _ equal.1) in
      let s = angled ns xs ys in
      let many = length-angled ns xs ys first second in
      let z = eqb-false (length s) 0 k.1.1.0 in (
        record {
          alongship = first;
          athwartship = second;
          few = ltb-false _ _ k.1.0;
          rising = rises s k.1.1.1.0 ∙ many;
        },
        above (length ns) (λ e. z (many ∙ e)),
      )

  -- what a writer of angles wrote, the field reader and the angle reader read
  pub again_a : {file : List ℕ} {p : ℕ} → value_count f ≡ 2 → AnglesTyped f h a ns xs ys → WrittenA f o h a ns xs ys out (Accepted n) left
      → Holds file p o (take n.written left) → AnglesBack h a ns xs ys (kind_u f) file p
  again_a two g w b =
      let l = accepted_a w in
      back_a g l.0 two l.1 (written_held (refl, (refl, (refl, (refl, (refl, (refl, tt)))))) w b)
