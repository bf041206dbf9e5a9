-- A tuple by its places in the file, as the code reads it: what it says to the others, and what its own rules are asked of.
-- Assumes nothing.
use mathlib.Core.Path.{◌≡◌, refl, sym, ap, ap₂, subst, ◌∙◌}
use mathlib.Core.Bool.{Bool, true, false, cond, ◌&&◌, true≢false}
use mathlib.Core.List.{List, [], ◌∷◌, ◌++◌, append_assoc}
use mathlib.Core.Option.{Option, some, none}
use Prim.Native.Nat.{ℕ, ◌+◌, ◌-◌, ◌≤◌, ◌<◌}
use native.Mathlib.Omega.{arith}
use borrow.Author.Tests.{eqb-true, leb-true, lt-leb, ne_eqb}
use lib.Dec.{leb, eqb}
use lib.ListN.{length, take, drop, length-drop, take-append-drop}
use lib.Seq.{drop-drop, take_all, length-take-le}
use Rattle.order.specs.Order.{num_of}
use Rattle.layout.specs.Families.{Family, type_u, type_c, has_u, has_c, value_bytes, radix_of}
use Rattle.layout.specs.Fields.{Field, u, known, size}
use Rattle.layout.specs.Types
use Rattle.layout.specs.Types.{Shape, indexed, row, uncompressed, compressed, unlisted, classes, in_class, index, listings, not_listed, among}
use Rattle.layout.specs.Types.{listing_of}
use Rattle.layout.specs.Types.{shape_of, has_samples, is_ping, lengths_of, says_of, Length, fitting, length_from, ping_row}
use Rattle.layout.specs.declared.Says.{Says}
use Rattle.layout.specs.declared.Says.TheVariants.{Nothing, Sounder, Channel, Names, NamesOrAll}
use Rattle.layout.specs.inner.Codes.{fields_in}
use Rattle.layout.proofs.Tables.{alike, alike_all, lengths-from}
use Rattle.turning.specs.Rows.{Value, values_of}
use Rattle.turning.proofs.Contents.{values_at, values-at, values-take, within-take}
use Rattle.frame.specs.Frames.{Tup, length_of, size_at, kind_at, tup_at}
use Rattle.rules.proofs.Bools.{both_true, and_false, and_true, same_arms}
use Rattle.frame.proofs.Places.{Whole, body-place}
use Rattle.links.specs.Links.{Link, Digest}
use Rattle.links.specs.Links
use Rattle.samples.specs.Words.{all_words, all_samples}
use Rattle.samples.specs.Runs.{ping_length}
use Rattle.samples.specs.Values.{samples_in, held_words}
use Rattle.samples.specs.Judging.{sample_rules, word_rules, judged_samples, judged_words}
use Rattle.layout.specs.Verdict.{Fine}
use Rattle.layout.specs.Answers.{judged}
use Rattle.content.proofs.Fine.{row-size, upward-least}
use Rattle.content.proofs.Families.{PingCode, class_u, class_c, plain-least, some_sample_bytes}
use Rattle.content.specs.Pings.{Ping, part_in, words_in, attribute_in, count_in, content_u, content_c}
use Rattle.content.specs.Items.{ping, row_in, item_by, item_of, identified_by, inner_by, inner_rules, number_at, unless, link_by, digest_of}
use Rattle.content.specs.Items.{digest_item, digest}

-- ---- what a shape tells of the type code
abbrev pub Shaped : ℕ → Shape → Type 0
Shaped k indexed = (65406 ≤ k) × (k ≤ 65515)
Shaped k (row fs x) = Unit {0}
Shaped k (uncompressed f) = (k ≡ type_u f) × (has_u f ≡ true)
Shaped k (compressed f) = (k ≡ type_c f) × (has_c f ≡ true)
Shaped k unlisted = (eqb k 65535 ≡ false) × (eqb k 65534 ≡ false)

-- one test over the listed types
shaped_by : ℕ → Shape → Bool
shaped_by k indexed = in_class index k
shaped_by k (row fs x) = true
shaped_by k (uncompressed f) = eqb k (type_u f) && has_u f
shaped_by k (compressed f) = eqb k (type_c f) && has_c f
shaped_by k unlisted = true

shaped-by : (k : ℕ) → shaped_by k (shape_of k) ≡ true
unfolding shaped_by
shaped-by = alike (λ k l. shaped_by k l.shape) (λ k l. true) (unfold listings in refl) others
  where
    others : (k : ℕ) (b : Bool) → in_class index k ≡ b → shaped_by k (not_listed b).shape ≡ true
    others k true e = e
    others k false e = refl

-- a code that isn't listed is no listed one
is_listed : Shape → Bool
is_listed indexed = true
is_listed (row fs x) = true
is_listed (uncompressed f) = true
is_listed (compressed f) = true
is_listed unlisted = false

no_other : (k c : ℕ) → shape_of k ≡ unlisted → is_listed (shape_of c) ≡ true → eqb k c ≡ false
unfolding is_listed
no_other k c s h = ne_eqb k c (λ e. true≢false (sym h ∙ ap (λ (j : ℕ). is_listed (shape_of j)) (sym e) ∙ ap is_listed s))

pub shaped : (k : ℕ) → Shaped k (shape_of k)
unfolding shaped_by
shaped k = by (shape_of k) refl (shaped-by k)
  where
    by : (q : Shape) → shape_of k ≡ q → shaped_by k q ≡ true → Shaped k q
    by indexed s e = unfold in_class classes in
        let b = both_true (leb 65406 k) (leb k 65515) e in (leb-true 65406 k b.0, leb-true k 65515 b.1)
    by (row fs x) s e = tt
    by (uncompressed f) s e = let b = both_true (eqb k (type_u f)) (has_u f) e in (eqb-true k (type_u f) b.0, b.1)
    by (compressed f) s e = let b = both_true (eqb k (type_c f)) (has_c f) e in (eqb-true k (type_c f) b.0, b.1)
    by unlisted s e = unfold is_listed listing_of among listings in (no_other k 65535 s refl, no_other k 65534 s refl)

-- so the family of a ping's type has that kind
pub listed_u : (k : ℕ) (f : Family) → shape_of k ≡ uncompressed f → has_u f ≡ true
listed_u k f e = (subst (Shaped k) e (shaped k)).1

pub listed_c : (k : ℕ) (f : Family) → shape_of k ≡ compressed f → has_c f ≡ true
listed_c k f e = (subst (Shaped k) e (shaped k)).1

above : (a b k : ℕ) → b < k → leb a k && leb k b ≡ false
above a b k h = rw (lt-leb k b h) (and_false (leb a k) refl)

-- ---- a signature, an end of file and the classes, by the type code
pub record ByCode (k : ℕ) (d : Digest) : Type 0 where
  pub signs : d.signs ≡ eqb k 65535
  pub ends : d.ends ≡ eqb k 65534
  pub position : d.position ≡ in_class Types.position k
  pub sounder : d.sounder ≡ in_class Types.sounder k
  pub channel : d.channel ≡ in_class Types.channel k
  pub ping : d.ping ≡ in_class Types.ping k

pub by_code : (o : Bool) (t : Tup) → ByCode t.kind (digest o t)
unfolding item_of digest_of in_class classes
by_code o t = by_shape (shape_of t.kind) (shaped t.kind)
  where
    of_ping : (p : Ping) → PingCode t.kind → ByCode t.kind (digest_of (ping p))
    of_ping p c =
        record {
          signs = c.signs;
          ends = c.ends;
          position = c.position;
          sounder = c.sounder;
          channel = c.channel;
          ping = c.ping;
        }

    by_shape : (q : Shape) → Shaped t.kind q → ByCode t.kind (digest_item (item_by q o t))
    by_shape indexed h =
        let lo = h.0 in
        let hi = h.1 in
        record {
          signs = sym (ne_eqb t.kind 65535 (λ e. omega arith));
          ends = sym (ne_eqb t.kind 65534 (λ e. omega arith));
          position = sym (above 20 29 t.kind (omega arith));
          sounder = sym (above 100 999 t.kind (omega arith));
          channel = sym (above 1000 9999 t.kind (omega arith));
          ping = sym (above 10000 10099 t.kind (omega arith));
        }
    by_shape (row fs x) h = record { signs = refl; ends = refl; position = refl; sounder = refl; channel = refl; ping = refl }
    by_shape (uncompressed f) h = of_ping (content_u f o t.body) (subst PingCode (sym h.0) (class_u f h.1))
    by_shape (compressed f) h = of_ping (content_c f o t.body) (subst PingCode (sym h.0) (class_c f h.1))
    by_shape unlisted h = record { signs = sym h.0; ends = sym h.1; position = refl; sounder = refl; channel = refl; ping = refl }

-- the number of w bytes at a place p of the tuple at a place
abbrev pub field_at : Bool → List ℕ → ℕ → ℕ → ℕ → ℕ
field_at o f at w p = num_of o (take w (drop (at + p) f))

-- ---- what a type says is told by the fields that it opens with
abbrev opening : Says → List Field
opening Nothing = []
opening (Sounder m) = u 2 ∷ u 4 ∷ []
opening (Channel m) = u 2 ∷ u 4 ∷ u 4 ∷ u 2 ∷ []
opening Names = u 2 ∷ u 4 ∷ u 2 ∷ []
opening NamesOrAll = u 2 ∷ u 4 ∷ u 2 ∷ []

opens : (k : ℕ) → take (length (opening (says_of k))) (fields_in (shape_of k)) ≡ opening (says_of k)
opens =
    alike_all (λ k l. take (length (opening l.says)) (fields_in l.shape)) (λ k l. opening l.says) (unfold listings in refl)
    (λ k. refl) (λ k. refl)

-- every ping names a channel, and what isn't listed says nothing
abbrev sayable_by : Shape → Says → Says
sayable_by indexed a = Nothing
sayable_by (row fs x) a = a
sayable_by (uncompressed f) a = Names
sayable_by (compressed f) a = Names
sayable_by unlisted a = Nothing

sayable : (k : ℕ) → sayable_by (shape_of k) (says_of k) ≡ says_of k
sayable =
    alike_all (λ k l. sayable_by l.shape l.says) (λ k l. l.says) (unfold listings in refl) (λ k. refl) (λ k. refl)

-- ---- a whole tuple of n bytes at a place
module _ (o : Bool) (f : List ℕ) (at n : ℕ) (w : Whole o f at n) where
  t : Tup
  t = tup_at o (drop at f)

  m : ℕ
  m = size_at o (drop at f)

  size_n : m + 10 ≡ n
  unfolding m
  size_n = w.size

  body : t.body ≡ take m (drop (at + 6) f)
  unfolding t m
  body = body-place o f at

  pub length-body : length (tup_at o (drop at f)).body ≡ n - 10
  unfolding t m
  length-body =
      ap length body
      ∙ length-take-le m (drop (at + 6) f) (simp length-drop (omega (arith, w.fits, w.long, size_n)))
      ∙ omega (arith, size_n)

  pub length-place : length_of (tup_at o (drop at f)) ≡ n
  length-place = omega (arith, length-body, w.long)

  -- a row that the data hold is read by its places
  pub values-place : (fs : List Field) → size fs + 10 ≤ n → values_of o fs (tup_at o (drop at f)).body ≡ values_at o fs f at 6
  unfolding t
  values-place fs h = ap (values_of o fs) body ∙ values-take o fs m (drop (at + 6) f) (omega (arith, size_n)) ∙ values-at o fs f at 6

  -- p bytes behind the type, k bytes that the data hold
  field-place : (p k : ℕ) → p + k + 10 ≤ n → take k (drop p t.body) ≡ take k (drop (at + (6 + p)) f)
  field-place p k h =
      let e : at + 6 + p ≡ at + (6 + p) = omega arith in
      ap (λ (l : List ℕ). take k (drop p l)) body
      ∙ within-take m p k (drop (at + 6) f) (omega (arith, size_n))
      ∙ ap (take k) (drop-drop p (at + 6) f ∙ ap (λ (i : ℕ). drop i f) e)

  -- the attribute stands before the backlink
  pub attribute-place : attribute_in o (tup_at o (drop at f)).body ≡ field_at o f at 4 (n - 8)
  unfolding attribute_in t
  attribute-place =
      let last : length t.body - 4 ≡ n - 14 = omega (arith, length-body) in
      let four : length (drop (n - 14) t.body) ≤ 4 = simp length-drop (omega (arith, length-body)) in
      let z : 6 + (n - 14) ≡ n - 8 = omega (arith, w.long) in
      ap (λ (i : ℕ). num_of o (drop i t.body)) last
      ∙ ap (num_of o) (sym (take_all 4 (drop (n - 14) t.body) four))
      ∙ ap (num_of o) (field-place (n - 14) 4 (omega (arith, w.long)))
      ∙ ap (λ (i : ℕ). num_of o (take 4 (drop (at + i) f))) z

  -- what stands between a header of a bytes and the attribute
  pub part-place : (a : ℕ) → a + 14 ≤ n → part_in a (tup_at o (drop at f)).body ≡ take (n - 14 - a) (drop (at + (6 + a)) f)
  unfolding part_in t
  part-place a h =
      let e : length t.body - (a + 4) ≡ n - 14 - a = omega (arith, length-body) in
      ap (λ (k : ℕ). take k (drop a t.body)) e ∙ field-place a (n - 14 - a) (omega arith)

  -- every ping names the channel of its header
  pub header : 36 ≤ n → number_at (values_of o ping_row (tup_at o (drop at f)).body) 2 ≡ field_at o f at 2 12
  unfolding t
  header h = ap (λ (vs : List Value). number_at vs 2) (values-place ping_row (omega arith))

  -- ---- what it says to the others stands in its first fields
  -- by what its type says
  abbrev pub link_at : Says → Link
  link_at Nothing = Links.none
  link_at (Sounder m) = Links.sounder (record { doc = record { 0 = field_at o f at 4 8 }; says = field_at o f at 2 6; maker = m })
  link_at (Channel m) =
      Links.channel (record {
        id = record { 0 = field_at o f at 2 6 };
        parent = record { 0 = field_at o f at 4 8 };
        rate = field_at o f at 4 12;
        samples = field_at o f at 2 16;
        maker = m;
      })
  link_at Names = Links.names (record { 0 = field_at o f at 2 12 })
  link_at NamesOrAll = unless (eqb (field_at o f at 2 12) 65535) (Links.names (record { 0 = field_at o f at 2 12 }))

  opened : (a : Says) (gs : List Field) → link_by a (values_at o (opening a ++ gs) f at 6) ≡ link_at a
  opened Nothing gs = refl
  opened (Sounder m) gs = refl
  opened (Channel m) gs = refl
  opened Names gs = refl
  opened NamesOrAll gs = refl

  -- a row that begins so
  row-link : (a : Says) (fs gs : List Field) → take (length (opening a)) fs ≡ opening a → size (fs ++ gs) + 10 ≤ n
      → link_by a (values_of o (fs ++ gs) t.body) ≡ link_at a
  unfolding t
  row-link a fs gs e h =
      let m = length (opening a) in
      let b : fs ++ gs ≡ opening a ++ (drop m fs ++ gs) =
      ap (λ (l : List Field). l ++ gs) (sym (take-append-drop m fs) ∙ ap (λ (l : List Field). l ++ drop m fs) e)
      ∙ append_assoc (opening a) (drop m fs) gs in
      ap (link_by a) (values-place (fs ++ gs) h ∙ ap (λ (l : List Field). values_at o l f at 6) b) ∙ opened a (drop m fs ++ gs)

  texted : (a : Says) (fs : List Field) (x : Option ℕ) (j : ℕ) → take (length (opening a)) fs ≡ opening a → size (row_in fs x j) + 10 ≤ n
      → link_by a (values_of o (row_in fs x j) t.body) ≡ link_at a
  texted a fs none j e h = row-link a fs _ e h
  texted a fs (some l) j e h = row-link a fs _ e h

  pub link-place : fitting (lengths_of (kind_at o (drop at f))) n ≡ true
      → (digest o (tup_at o (drop at f))).link ≡ link_at (says_of (kind_at o (drop at f)))
  unfolding item_of digest_of content_u content_c t
  link-place g =
      let k = kind_at o (drop at f) in
      by (shape_of k) refl (says_of k) refl (opens k) (sayable k) (ap (λ (l : Length). fitting l n) (sym (lengths-from k)) ∙ g)
    where
      by : (q : Shape) → shape_of (kind_at o (drop at f)) ≡ q → (a : Says) → says_of (kind_at o (drop at f)) ≡ a
          → take (length (opening a)) (fields_in q) ≡ opening a → sayable_by q a ≡ a
          → fitting (length_from q) n ≡ true → (digest_item (item_by q o t)).link ≡ link_at a
      by indexed s a d e y g = ap link_at y
      by (row fs x) s a d e y g =
          let m = length t.body in
          let whole : m + 10 ≡ n = omega (arith, length-body, w.long) in
          let z : size (row_in fs x m) ≡ m = row-size fs x m (ap (fitting (length_from (row fs x))) whole ∙ g) in
          ap (λ (b : Says). link_by b (values_of o (row_in fs x m) t.body)) d ∙ texted a fs x m e (omega (arith, length-body, w.long))
      by (uncompressed h) s a d e y g =
          ap (λ (c : ℕ). Links.names (record { 0 = c })) (header (omega (arith, plain-least h n g, some_sample_bytes h))) ∙ ap link_at y
      by (compressed h) s a d e y g =
          ap (λ (c : ℕ). Links.names (record { 0 = c })) (header (omega (arith, upward-least 40 n _ g))) ∙ ap link_at y
      by unlisted s a d e y g = ap link_at y

  -- ---- its own rules
  pub fits-place : fitting (lengths_of (tup_at o (drop at f)).kind) (length_of (tup_at o (drop at f)))
      ≡ fitting (lengths_of (kind_at o (drop at f))) n
  fits-place = ap (fitting (lengths_of (kind_at o (drop at f)))) length-place

  pub identifier-place : kind_at o (drop at f) ≡ 65535 → n ≡ 24
      → identified_by (shape_of (kind_at o (drop at f))) o (tup_at o (drop at f)) ≡ known (field_at o f at 2 6)
  unfolding listing_of among listings t
  identifier-place e h =
      ap (λ (k : ℕ). identified_by (shape_of k) o t) e
      ∙ and_true (known (num_of o (take 2 t.body)))
      ∙ ap (λ (l : List ℕ). known (num_of o l)) (field-place 0 2 (omega arith))

  -- the samples of an uncompressed ping stand behind its header, the words of a compressed one behind its number of samples
  part_u : 36 ≤ n → part_in 18 t.body ≡ take (n - 32) (drop (at + 24) f)
  unfolding t
  part_u h = let z : n - 14 - 18 ≡ n - 32 = omega arith in part-place 18 (omega arith) ∙ ap (λ (i : ℕ). take i (drop (at + 24) f)) z

  part_c : 40 ≤ n → part_in 22 t.body ≡ take (n - 36) (drop (at + 28) f)
  unfolding t
  part_c h = let z : n - 14 - 22 ≡ n - 36 = omega arith in part-place 22 (omega arith) ∙ ap (λ (i : ℕ). take i (drop (at + 28) f)) z

  module _ (g : Family) where
    -- the words that are held: by the number of samples
    abbrev pub words_there : List ℕ
    words_there = held_words g (field_at o f at 4 24) (all_words (value_bytes g) o (take (n - 36) (drop (at + 28) f)))

    words_c : 40 ≤ n → words_in g o t.body ≡ words_there
    unfolding words_in count_in
    words_c h =
        ap₂ (λ (i : ℕ) (l : List ℕ). held_words g i (all_words (value_bytes g) o l)) (ap (num_of o) (field-place 18 4 (omega arith)))
        (part_c h)

    pub inner_u : shape_of (kind_at o (drop at f)) ≡ uncompressed g → 36 ≤ n
        → judged (inner_rules o (tup_at o (drop at f))) ≡ judged_samples g o (take (n - 32) (drop (at + 24) f))
    unfolding content_u judged_samples t
    inner_u e h =
        ap (λ (q : Shape). judged (inner_by q o t)) e ∙ ap (λ (l : List ℕ). judged (sample_rules g (all_samples g o l))) (part_u h)

    pub inner_c : shape_of (kind_at o (drop at f)) ≡ compressed g → 40 ≤ n
        → judged (inner_rules o (tup_at o (drop at f))) ≡ judged_words g o (field_at o f at 4 24) (take (n - 36) (drop (at + 28) f))
    unfolding judged_words count_in t
    inner_c e h =
        ap (λ (q : Shape). judged (inner_by q o t)) e
        ∙ ap₂ (λ (i : ℕ) (ws : List ℕ). judged (word_rules g i ws)) (ap (num_of o) (field-place 18 4 (omega arith))) (words_c h)

    -- and say its samples and its length
    pub samples_u : shape_of (kind_at o (drop at f)) ≡ uncompressed g → 36 ≤ n
        → (q : Ping) × (item_of o (tup_at o (drop at f)) ≡ some (ping q)) × (q.samples ≡ all_samples g o (take (n - 32) (drop (at + 24) f)))
        × (q.length ≡ none)
    unfolding item_of content_u t
    samples_u e h = (content_u g o t.body, ap (λ (q : Shape). item_by q o t) e, ap (all_samples g o) (part_u h), refl)

    pub samples_c : shape_of (kind_at o (drop at f)) ≡ compressed g → 40 ≤ n
        → (q : Ping) × (item_of o (tup_at o (drop at f)) ≡ some (ping q)) × (q.samples ≡ samples_in g words_there)
        × (q.length ≡ ping_length (radix_of g) words_there)
    unfolding item_of content_c t
    samples_c e h = (
      content_c g o t.body,
      ap (λ (q : Shape). item_by q o t) e,
      ap (samples_in g) (words_c h),
      ap (ping_length (radix_of g)) (words_c h),
    )

-- ---- codes of no concern to a rule
module _ (o : Bool) (t : Tup) where
  pub identified-other : (t.kind ≡ 65535 → ⊥) → identified_by (shape_of t.kind) o t ≡ true
  identified-other a =
      ap (λ (b : Bool). cond b true (identified_by (shape_of t.kind) o t)) (sym (ne_eqb t.kind 65535 a))
      ∙ alike_all (λ k l. cond (eqb k 65535) true (identified_by l.shape o t)) (λ k l. true) (unfold listings in refl)
      (λ k. same_arms (eqb k 65535) true) (λ k. same_arms (eqb k 65535) true) t.kind

  pub inner-other : is_ping t.kind ≡ false → judged (inner_rules o t) ≡ Fine
  unfolding is_ping
  inner-other a = by (shape_of t.kind) a
    where
      by : (q : Shape) → has_samples q ≡ false → judged (inner_by q o t) ≡ Fine
      by indexed e = refl
      by (row fs x) e = refl
      by (uncompressed f) e = absurd (true≢false e)
      by (compressed f) e = absurd (true≢false e)
      by unlisted e = refl
