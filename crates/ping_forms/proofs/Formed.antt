-- The normal form of a tuple that keeps its own rules, by the tuple's shape: its bytes part by part, and how many they are.
-- Assumes nothing.
use mathlib.Core.Path.{◌≡◌, refl, sym, ap, ap₂, ◌∙◌}
use mathlib.Core.Bool.{Bool, true, false}
use mathlib.Core.List.{List, [], ◌∷◌, ◌++◌, append-nil, append_assoc}
use mathlib.Core.Option.{Option, some, none}
use Prim.Native.Nat.{ℕ, ◌+◌, ◌-◌, ◌*◌, ◌%◌, ◌≤◌}
use native.Mathlib.Omega.{arith}
use borrow.Author.Tests.{eqb-true, not-false}
use lib.ListN.{length, take, drop, length-append, length-drop}
use lib.Seq.{length-take-le, take_all, drop-drop}
use Rattle.order.specs.Order.{num_of, bytes_of}
use Rattle.order.proofs.Laws.{length_bytes_of}
use Rattle.layout.specs.Verdict.{Fine}
use Rattle.layout.specs.Answers.{both, judged}
use Rattle.layout.specs.Fields.{Field, width_of, size}
use Rattle.layout.specs.Families.{Family, type_u, type_c, value_bytes, sample_bytes, is_bad}
use Rattle.layout.specs.Types.{Shape, indexed, row, uncompressed, compressed, unlisted, fitting, shape_of, ping_row, length_from}
use Rattle.layout.proofs.Verdicts.{both_left, both_right, passes, judged_append}
use Rattle.turning.specs.Rows.{values_of, encode, turned_field, turned}
use Rattle.turning.proofs.Contents.{turned-encode, length-turned}
use Rattle.frame.specs.Frames.{Tup, length_of, frame, frames, Framed}
use Rattle.frame.specs.inner.Framing.{open_bytes, opening_bytes, close_bytes}
use Rattle.frame.proofs.Frames.{length-frame}
use Rattle.samples.specs.Words.{unwords, unsampled, spaced}
use Rattle.samples.specs.Values.{words_for}
use Rattle.samples.specs.Judging.{word_rules}
use Rattle.samples.proofs.Words.{length-unwords, length-unsampled, length-spaced}
use Rattle.samples.proofs.Written.{Each, goods, says-many}
use Rattle.content.specs.Pings.{Ping, attribute_in, count_in, words_in, content_u, content_c, data_u, data_c}
use Rattle.content.specs.Items.{row_in, item_by, item_of, head_rules, inner_rules}
use Rattle.content.specs.Forms.{encode_by, tuple_u, tuple_c, packs, ping_form, form_of, forms_of, form_bytes}
use Rattle.content.proofs.Fine.{head-length, inner_was, upward-least}
use Rattle.content.proofs.Plain.{encode-any}
use Rattle.content.proofs.Families.{plain_size, plain-least, some_sample_bytes}
use Rattle.content.proofs.Places.{listed_u}
use Rattle.content.proofs.Pings.{plain_u, many_u}
use Rattle.intake.specs.inner.Tallies.{own_verdict}
use Rattle.ping_forms.specs.inner.Measured.{form_type}

-- ---- a row behind a row, and the last bytes of data
turned_append : (o : Bool) (fs gs : List Field) (bs : List ℕ) → turned o (fs ++ gs) bs ≡ turned o fs bs ++ turned o gs (drop (size fs) bs)
turned_append o [] gs bs = refl
turned_append o (f ∷ fs) gs bs =
    let rest = drop (width_of f) bs in
    ap (λ (l : List ℕ). turned_field o f bs ++ l)
    (turned_append o fs gs rest ∙ ap (λ (l : List ℕ). turned o fs rest ++ turned o gs l) (drop-drop (size fs) (width_of f) bs))
    ∙ sym (append_assoc (turned_field o f bs) (turned o fs rest) (turned o gs (drop (width_of f + size fs) bs)))

pub last-four : (o : Bool) (d : List ℕ) (p : ℕ) → p + 4 ≡ length d → num_of o (take 4 (drop p d)) ≡ attribute_in o d
unfolding attribute_in
last-four o d p e =
    let z : p ≡ length d - 4 = omega arith in
    ap (num_of o) (take_all 4 (drop p d) (simp length-drop (omega arith))) ∙ ap (λ (i : ℕ). num_of o (drop i d)) z

module _ (o : Bool) (fs : List Field) (d : List ℕ) where
  -- the characters, if any, fill what the fields and the attribute leave
  row-least : (x : Option ℕ) → fitting (length_from (row fs x)) (length d + 10) ≡ true → size fs + 4 ≤ length d
  row-least none e = omega (arith, eqb-true (length d + 10) (size fs + 14) e)
  row-least (some n) e = omega (arith, upward-least (size fs + 14 + n) (length d + 10) _ e)

  row-body : (x : Option ℕ) → fitting (length_from (row fs x)) (length d + 10) ≡ true
      → turned o (row_in fs x (length d)) d ≡ turned o fs d ++ (take (length d - (size fs + 4)) (drop (size fs) d) ++ bytes_of false 4
      (attribute_in o d))
  row-body none e =
      let n : length d + 10 ≡ size fs + 14 = eqb-true (length d + 10) (size fs + 14) e in
      let z : 0 ≡ length d - (size fs + 4) = omega arith in
      turned_append o fs _ d
      ∙ ap (λ (l : List ℕ). turned o fs d ++ l) (append-nil _ ∙ ap (bytes_of false 4) (last-four o d (size fs) (omega arith)))
      ∙ ap (λ (i : ℕ). turned o fs d ++ (take i (drop (size fs) d) ++ bytes_of false 4 (attribute_in o d))) z
  row-body (some least) e =
      let h = row-least (some least) e in
      let w = length d - (size fs + 4) in
      turned_append o fs _ d
      ∙ ap (λ (l : List ℕ). turned o fs d ++ (take w (drop (size fs) d) ++ l))
      (append-nil _
      ∙ ap (λ (l : List ℕ). bytes_of false 4 (num_of o (take 4 l))) (drop-drop w (size fs) d)
      ∙ ap (bytes_of false 4) (last-four o d (size fs + w) (omega arith)))

-- ---- a frame by its parts
regroup : (s k h m a b : List ℕ) → s ++ (k ++ ((h ++ (m ++ a)) ++ b)) ≡ s ++ k ++ h ++ (m ++ (a ++ b))
regroup s k h m a b = simp append_assoc

-- bytes that are a form of n bytes and type k, of fields h, characters or samples m and attribute a
pub record Parts (bytes : List ℕ) (n k : ℕ) (h m : List ℕ) (a : ℕ) : Type 0 where
  pub are : bytes ≡ opening_bytes false n k h ++ (m ++ close_bytes false n a)
  pub long : length bytes ≡ n

parted : (bytes : List ℕ) (n k : ℕ) (h m : List ℕ) (a : ℕ) → bytes ≡ frame false
    (record { kind = k; body = h ++ (m ++ bytes_of false 4 a) }) → length h + length m + 14 ≡ n → Parts bytes n k h m a
unfolding frame open_bytes opening_bytes close_bytes
parted bytes n k h m a e l =
    let b = h ++ (m ++ bytes_of false 4 a) in
    let whole : length b + 10 ≡ n = omega (
      arith,
      length-append h (m ++ bytes_of false 4 a),
      length-append m
          (bytes_of false 4 a),
      length_bytes_of false 4 a,
    ) in
    let size : length b ≡ n - 10 = omega arith in
    record {
      are = e ∙ ap₂ (λ (i j : ℕ). bytes_of false 4 i ++ (bytes_of false 2 k ++ (b ++ bytes_of false 4 j))) size whole
          ∙ regroup (bytes_of false 4 (n - 10)) (bytes_of false 2 k) h m (bytes_of false 4 a) (bytes_of false 4 n);
      long = ap length e ∙ length-frame false (record { kind = k; body = b }) ∙ whole;
    }

module _ (o : Bool) (t : Tup) where
  by_shape : (q : Shape) → shape_of t.kind ≡ q → form_bytes o t ≡ frames false (forms_of (item_by q o t))
  unfolding form_bytes item_of
  by_shape q e = ap (λ (x : Shape). frames false (forms_of (item_by x o t))) e

  -- the index class has none, and an unlisted tuple keeps its data
  pub form-index : shape_of t.kind ≡ indexed → form_bytes o t ≡ []
  form-index e = by_shape indexed e

  pub form-raw : shape_of t.kind ≡ unlisted → form_bytes o t ≡ frame false t
  unfolding form_of
  form-raw e = by_shape unlisted e ∙ append-nil (frame false t)

  -- a row is turned
  form-row : (fs : List Field) (x : Option ℕ) → shape_of t.kind ≡ row fs x
      → form_bytes o t ≡ frame false (record { kind = t.kind; body = turned o (row_in fs x (length t.body)) t.body })
  unfolding form_of
  form-row fs x e =
      let gs = row_in fs x (length t.body) in
      let vs = values_of o gs t.body in
      by_shape (row fs x) e
      ∙ append-nil _
      ∙ ap (λ (b : List ℕ). frame false (record { kind = t.kind; body = b }))
      (ap (λ (q : Shape). encode_by false q vs) e ∙ encode-any false fs x 0 (length t.body) vs ∙ sym (turned-encode o gs t.body))

  -- a ping is uncompressed or compressed
  packs-form : (p : Ping) → packs p ≡ true → ping_form p ≡ tuple_c false p
  unfolding ping_form
  packs-form p e = rw (e, ping_form)

  plain_form : (p : Ping) → packs p ≡ false → ping_form p ≡ tuple_u false p
  unfolding ping_form
  plain_form p e = rw (e, ping_form)

  form_u : (y : Family) → shape_of t.kind ≡ uncompressed y → packs (content_u y o t.body) ≡ false
      → form_bytes o t ≡ frame false (tuple_u false (content_u y o t.body))
  unfolding form_of
  form_u y e h = by_shape (uncompressed y) e ∙ append-nil _ ∙ ap (frame false) (plain_form (content_u y o t.body) h)

  form_c_u : (y : Family) → shape_of t.kind ≡ compressed y → packs (content_c y o t.body) ≡ false
      → form_bytes o t ≡ frame false (tuple_u false (content_c y o t.body))
  unfolding form_of
  form_c_u y e h = by_shape (compressed y) e ∙ append-nil _ ∙ ap (frame false) (plain_form (content_c y o t.body) h)

  form_c : (y : Family) → shape_of t.kind ≡ compressed y → packs (content_c y o t.body) ≡ true
      → form_bytes o t ≡ frame false (tuple_c false (content_c y o t.body))
  unfolding form_of
  form_c y e h = by_shape (compressed y) e ∙ append-nil _ ∙ ap (frame false) (packs-form (content_c y o t.body) h)

  -- ---- the type of its form, where k is the tuple's own
  type-by : (k : ℕ) (q : Shape) → shape_of t.kind ≡ q → form_type k (item_of o t) ≡ form_type k (item_by q o t)
  unfolding item_of
  type-by k q e = ap (λ (x : Shape). form_type k (item_by x o t)) e

  pub type-index : (k : ℕ) → shape_of t.kind ≡ indexed → k ≡ form_type k (item_of o t)
  type-index k e = sym (type-by k indexed e)

  pub type_row : (k : ℕ) (fs : List Field) (x : Option ℕ) → shape_of t.kind ≡ row fs x → t.kind ≡ form_type k (item_of o t)
  unfolding form_of
  type_row k fs x e = sym (type-by k (row fs x) e)

  pub type-raw : (k : ℕ) → shape_of t.kind ≡ unlisted → t.kind ≡ form_type k (item_of o t)
  unfolding form_of
  type-raw k e = sym (type-by k unlisted e)

  type_u_lem : (k : ℕ) (y : Family) → shape_of t.kind ≡ uncompressed y → packs (content_u y o t.body) ≡ false
      → type_u y ≡ form_type k (item_of o t)
  unfolding form_of content_u
  type_u_lem k y e h = sym (type-by k (uncompressed y) e ∙ ap (λ (u : Tup). u.kind) (plain_form (content_u y o t.body) h))

  pub type_c_u : (k : ℕ) (y : Family) → shape_of t.kind ≡ compressed y → packs (content_c y o t.body) ≡ false
      → type_u y ≡ form_type k (item_of o t)
  unfolding form_of content_c
  type_c_u k y e h = sym (type-by k (compressed y) e ∙ ap (λ (u : Tup). u.kind) (plain_form (content_c y o t.body) h))

  pub type_c_lem : (k : ℕ) (y : Family) → shape_of t.kind ≡ compressed y → packs (content_c y o t.body) ≡ true
      → type_c y ≡ form_type k (item_of o t)
  unfolding form_of content_c
  type_c_lem k y e h = sym (type-by k (compressed y) e ∙ ap (λ (u : Tup). u.kind) (packs-form (content_c y o t.body) h))

  -- ---- its parts, where the tuple keeps its own rules
  module _ (own : own_verdict o t ≡ Fine) where
    verdicts : both (judged (head_rules o t)) (judged (inner_rules o t)) ≡ Fine
    unfolding own_verdict
    verdicts = sym (judged_append (head_rules o t) (inner_rules o t)) ∙ own

    fits : (q : Shape) → shape_of t.kind ≡ q → fitting (length_from q) (length_of t) ≡ true
    fits q e = head-length o t q e (both_left _ _ verdicts)

    module _ (fs : List Field) (x : Option ℕ) (e : shape_of t.kind ≡ row fs x) where
      pub least-row : size fs + 14 ≤ length_of t
      least-row = omega (arith, row-least o fs t.body x (fits (row fs x) e))

      pub parts-row : Parts (form_bytes o t) (length_of t) t.kind (turned o fs t.body)
          (take (length t.body - (size fs + 4)) (drop (size fs) t.body)) (attribute_in o t.body)
      parts-row =
          let d = t.body in
          let w = length d - (size fs + 4) in
          parted (form_bytes o t) (length_of t) t.kind (turned o fs d) (take w (drop (size fs) d)) (attribute_in o d)
          (form-row fs x e ∙ ap (λ (b : List ℕ). frame false (record { kind = t.kind; body = b })) (row-body o fs d x (fits (row fs x) e)))
          (omega (
            arith,
            least-row,
            length-turned o fs d (omega (arith, least-row)),
            length-take-le w (drop (size fs) d)
                (simp length-drop (omega (arith, least-row))),
          ))

    -- a ping's header is turned, whatever stands behind it
    head-turned : (m : List ℕ) (a : ℕ) → encode false ping_row (values_of o ping_row t.body) ++ (m ++ bytes_of false 4 a)
        ≡ turned o ping_row t.body ++ (m ++ bytes_of false 4 a)
    head-turned m a = ap (λ (l : List ℕ). l ++ (m ++ bytes_of false 4 a)) (sym (turned-encode o ping_row t.body))

    -- an uncompressed ping keeps its kind and its length
    module _ (y : Family) (e : shape_of t.kind ≡ uncompressed y) where
      pub long_u : 36 ≤ length_of t
      long_u = omega (arith, plain-least y (length_of t) (fits (uncompressed y) e), some_sample_bytes y)

      pub parts_u : Framed t → Parts (form_bytes o t) (length_of t) (type_u y) (turned o ping_row t.body)
          (spaced (unsampled y false (content_u y o t.body).samples)) (attribute_in o t.body)
      unfolding content_u data_u
      parts_u g =
          let d = t.body in
          let s = (content_u y o d).samples in
          let long : 26 ≤ length d = omega (arith, long_u) in
          let listed = listed_u t.kind y e in
          let n : length (unsampled y false s) ≡ length s * sample_bytes y = length-unsampled y false s in
          parted (form_bytes o t) (length_of t) (type_u y) (turned o ping_row d) (spaced (unsampled y false s)) (attribute_in o d)
          (form_u y e (plain_u o t g long y listed (fits (uncompressed y) e))
          ∙ ap (λ (b : List ℕ). frame false (record { kind = type_u y; body = b }))
          (head-turned (spaced (unsampled y false s)) (attribute_in o d)))
          (omega (
            arith,
            length-turned o ping_row d (omega (arith, long_u)),
            length-spaced (unsampled y false s),
            n,
            ap
                (λ (i : ℕ). i % 4) n,
            many_u o t g long y listed (fits (uncompressed y) e),
          ))

      pub type-same : Framed t → (k : ℕ) → type_u y ≡ form_type k (item_of o t)
      type-same g k = type_u_lem k y e (plain_u o t g (omega (arith, long_u)) y (listed_u t.kind y e) (fits (uncompressed y) e))

    module _ (y : Family) (e : shape_of t.kind ≡ compressed y) where
      pub long_c : 40 ≤ length_of t
      long_c = upward-least 40 (length_of t) _ (fits (compressed y) e)

      -- the number of samples is the number of values
      pub count_c : count_in o t.body ≡ length (content_c y o t.body).samples
      unfolding content_c
      count_c =
          let ws = words_in y o t.body in
          let kept = passes (word_rules y (count_in o t.body) ws)
          (inner_was o t (compressed y) e (both_right (judged (head_rules o t)) _ verdicts)) in
          eqb-true _ _ (not-false _ kept.1.1.0) ∙ sym (says-many y ws)

      -- every word is within its limits
      pub goods_c : Each (λ (w : ℕ). is_bad y w ≡ false) (words_in y o t.body)
      goods_c =
          let ws = words_in y o t.body in
          let rules = word_rules y (count_in o t.body) ws in
          goods y ws (passes rules (inner_was o t (compressed y) e (both_right (judged (head_rules o t)) _ verdicts))).1.0

      -- it becomes an uncompressed one, measured by its number of samples ..
      pub parts_c_u : (n : ℕ) → n ≡ plain_size (sample_bytes y) (length (content_c y o t.body).samples)
          → packs (content_c y o t.body) ≡ false
          → Parts (form_bytes o t) n (type_u y) (turned o ping_row t.body) (spaced (unsampled y false (content_c y o t.body).samples))
          (attribute_in o t.body)
      unfolding content_c data_u
      parts_c_u n size h =
          let d = t.body in
          let s = (content_c y o d).samples in
          let m : length (unsampled y false s) ≡ length s * sample_bytes y = length-unsampled y false s in
          parted (form_bytes o t) n (type_u y) (turned o ping_row d) (spaced (unsampled y false s)) (attribute_in o d)
          (form_c_u y e h ∙ ap (λ (b : List ℕ). frame false (record { kind = type_u y; body = b }))
          (head-turned (spaced (unsampled y false s)) (attribute_in o d)))
          (omega (
            arith,
            length-turned o ping_row d (omega (arith, long_c)),
            length-spaced (unsampled y false s),
            m,
            ap
                (λ (i : ℕ). i % 4) m,
          ))

      -- .. or stays a compressed one, measured by its words
      pub parts_c : (n : ℕ) →
          let ws = words_for y (content_c y o t.body).samples (content_c y o t.body).length in
          n ≡ 36 + (value_bytes y * length ws + (value_bytes y * length ws) % 4) → packs (content_c y o t.body) ≡ true
          → Parts (form_bytes o t) n (type_c y) (turned o ping_row t.body)
          (bytes_of false 4 (length (content_c y o t.body).samples) ++ spaced (unwords (value_bytes y) false ws))
          (attribute_in o t.body)
      unfolding content_c data_c
      parts_c n size h =
          let d = t.body in
          let c = content_c y o d in
          let ws = words_for y c.samples c.length in
          let b = spaced (unwords (value_bytes y) false ws) in
          let k = bytes_of false 4 (length c.samples) in
          let m : length (unwords (value_bytes y) false ws) ≡ value_bytes y * length ws = length-unwords (value_bytes y) false ws in
          parted (form_bytes o t) n (type_c y) (turned o ping_row d) (k ++ b) (attribute_in o d)
          (form_c y e h
          ∙ ap (λ (l : List ℕ). frame false (record { kind = type_c y; body = l }))
          (ap (λ (l : List ℕ). encode false ping_row c.head ++ l) (sym (append_assoc k b (bytes_of false 4 (attribute_in o d))))
          ∙ head-turned (k ++ b) (attribute_in o d)))
          (omega (
            arith,
            length-turned o ping_row d (omega (arith, long_c)),
            length-append k b,
            length_bytes_of false 4
                (length c.samples),
            length-spaced (unwords (value_bytes y) false ws),
            m,
            ap (λ (i : ℕ). i % 4) m,
          ))
