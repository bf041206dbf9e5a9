-- The writers of the normal form of a sound tuple at a place: what each stores, one run behind the other, is its bytes. Assumes
-- nothing.
use mathlib.Core.Path.{◌≡◌, refl, sym, ap, ap₂, subst, ◌∙◌}
use mathlib.Core.Bool.{Bool, true, false}
use mathlib.Core.List.{List, ◌++◌, append_assoc}
use mathlib.Core.Option.{Option}
use Prim.Native.Nat.{ℕ, ◌+◌, ◌-◌, ◌*◌, ◌%◌, ◌≤◌}
use native.Mathlib.Omega.{arith}
use lib.ListN.{length, take, drop, replicate, length-drop, length-append}
use lib.Seq.{sets, drop-drop, length-take-le}
use Rattle.order.specs.Order.{num_of, bytes_of, Bytes}
use Rattle.order.proofs.Laws.{length_bytes_of}
use Rattle.order.proofs.Stores.{stored-behind}
use Rattle.layout.specs.Fields.{Field, size}
use Rattle.layout.specs.Families.{Family, type_u, type_c, value_bytes, sample_bytes, radix_of}
use Rattle.layout.specs.Types.{row, uncompressed, compressed, unlisted, shape_of, ping_row}
use Rattle.turning.specs.Rows.{turned}
use Rattle.turning.proofs.Contents.{within-take, turned-take, length-turned}
use Rattle.frame.specs.Frames.{Tup, frame, size_at, tup_at}
use Rattle.frame.specs.inner.Framing.{open_bytes, opening_bytes, close_bytes}
use Rattle.frame.proofs.Framing.{length-opening}
use Rattle.frame.proofs.Places.{body-place}
use Rattle.samples.specs.Words.{Sample, unwords, all_samples, unsampled, spaced}
use Rattle.samples.specs.Runs.{ping_length}
use Rattle.samples.specs.Values.{samples_in, words_for}
use Rattle.samples.specs.inner.Packing.{PackedAt}
use Rattle.samples.proofs.Words.{length-unwords}
use Rattle.content.specs.Pings.{attribute_in, content_c}
use Rattle.content.specs.Forms.{packs, form_bytes}
use Rattle.content.proofs.Families.{plain_size}
use Rattle.content.proofs.Places.{Shaped, shaped, length-body}
use Rattle.intake.specs.inner.Sound.{SoundHere}
use Rattle.ping_forms.specs.inner.Parts.{part_at, count_at, held_at}
use Rattle.ping_forms.proofs.Formed.{Parts, last-four, form-raw, least-row, parts-row, parts_u, parts_c_u, parts_c}
use Rattle.ping_forms.proofs.Placed.{there, shape_of_lem, size_of, framed-here, long-plain, samples-there, long-words, content-here}
use Rattle.ping_forms.proofs.Placed.{count_of_lem}
use Rattle.ping_forms.proofs.Stored.{stored-before, length_close, closed, enclosed}

-- the frame of a type and data
raw-frame : (k : ℕ) (d : List ℕ)
    → frame false (record { kind = k; body = d }) ≡ open_bytes false (length d + 10) k ++ (d ++ bytes_of false 4 (length d + 10))
unfolding frame open_bytes
raw-frame k d =
    let z : length d ≡ length d + 10 - 10 = omega arith in
    ap (λ (i : ℕ). bytes_of false 4 i ++ (bytes_of false 2 k ++ (d ++ bytes_of false 4 (length d + 10)))) z
    ∙ sym (append_assoc (bytes_of false 4 (length d + 10 - 10)) (bytes_of false 2 k) (d ++ bytes_of false 4 (length d + 10)))

module _ {o : Bool} {f : List ℕ} {at n k : ℕ} (s : SoundHere o f at n k) where
  abbrev t : Tup
  t = tup_at o (drop at f)

  abbrev m : ℕ
  m = size_at o (drop at f)

  -- ---- its data by their places
  fields-place : (fs : List Field) → size fs + 10 ≤ n → turned o fs t.body ≡ turned o fs (drop (at + 6) f)
  fields-place fs h = ap (turned o fs) (body-place o f at) ∙ turned-take o fs m (drop (at + 6) f) (omega (arith, (there s).size))

  part-place : (p w : ℕ) → p + w + 10 ≤ n → take w (drop p t.body) ≡ take w (drop (at + (6 + p)) f)
  part-place p w h =
      let e : at + 6 + p ≡ at + (6 + p) = omega arith in
      ap (λ (l : List ℕ). take w (drop p l)) (body-place o f at)
      ∙ within-take m p w (drop (at + 6) f) (omega (arith, (there s).size))
      ∙ ap (take w) (drop-drop p (at + 6) f ∙ ap (λ (i : ℕ). drop i f) e)

  size-body : length (tup_at o (drop at f)).body ≡ n - 10
  size-body = length-body o f at n (there s)

  attribute-place : attribute_in o t.body ≡ num_of o (take 4 (drop (at + (n - 8)) f))
  attribute-place =
      let long = (there s).long in
      let p : at + (6 + (n - 14)) ≡ at + (n - 8) = omega arith in
      sym (last-four o t.body (n - 14) (omega (arith, size-body)))
      ∙ ap (num_of o) (part-place (n - 14) 4 (omega arith))
      ∙ ap (λ (i : ℕ). num_of o (take 4 (drop i f))) p

  -- ---- its form by parts h, m and the attribute, each by its place
  moved : {i j c e : ℕ} {h g m l : List ℕ} → i ≡ j → c ≡ e → h ≡ g → m ≡ l
      → form_bytes o t ≡ opening_bytes false i c h ++ (m ++ close_bytes false i (attribute_in o t.body))
      → form_bytes o t ≡ opening_bytes false j e g ++ (l ++ close_bytes false j (num_of o (take 4 (drop (at + (n - 8)) f))))
  moved {i} {j} {c} {e} {h} {g} {m} {l} x y z w b =
      b
      ∙ ap₂ (λ (i c : ℕ). opening_bytes false i c h ++ (m ++ close_bytes false i (attribute_in o t.body))) x y
      ∙ ap₂ (λ (h m : List ℕ). opening_bytes false j e h ++ (m ++ close_bytes false j (attribute_in o t.body))) z w
      ∙ ap (λ (a : ℕ). opening_bytes false j e g ++ (l ++ close_bytes false j a)) attribute-place

  module _ (out left : List ℕ) (to : ℕ) where
    -- j bytes of type e: the fields h, at p the rest m, at q attribute and backlink
    stored : (j e : ℕ) (h m : List ℕ) (p q : ℕ) → p ≡ to + 6 + length h → q ≡ p + length m
        → form_bytes o t ≡ opening_bytes false j e h ++ (m ++ close_bytes false j (num_of o (take 4 (drop (at + (n - 8)) f))))
        → left ≡ sets (sets (sets out to (opening_bytes false j e h)) p m) q (close_bytes false j (num_of o (take 4 (drop (at + (n - 8)) f))))
        → left ≡ sets out to (form_bytes o (tup_at o (drop at f)))
    stored j e h m p q x y b w = w ∙ closed out to j e h m _ p q x y ∙ ap (sets out to) (sym b)

    -- a row, its characters at `text`
    pub row_written : (fs : List Field) (x : Option ℕ) → shape_of k ≡ row fs x → (gs : List Field) → gs ≡ fs → (text : ℕ)
        → text ≡ 6 + size fs
        → left
        ≡ sets (sets (sets out to (opening_bytes false n k (turned o gs (drop (at + 6) f)))) (to + text)
        (take (n - 8 - text) (drop (at + text) f)))
        (to + (n - 8))
        (close_bytes false n (num_of o (take 4 (drop (at + (n - 8)) f))))
        → left ≡ sets out to (form_bytes o (tup_at o (drop at f)))
    row_written fs x e gs g text z w =
        let shape = shape_of_lem s ∙ e in
        let least = least-row o t s.own fs x shape in
        let fit : size fs + 14 ≤ n = omega (arith, size_of s) in
        let head = turned o fs (drop (at + 6) f) in
        let mid = take (n - 8 - text) (drop (at + text) f) in
        let room : size fs ≤ length (drop (at + 6) f) = simp length-drop (omega (arith, (there s).fits)) in
        let rest : n - 8 - text ≤ length (drop (at + text) f) = simp length-drop (omega (arith, (there s).fits)) in
        let width : length t.body - (size fs + 4) ≡ n - 8 - text = omega (arith, size-body) in
        let middle : take (length t.body - (size fs + 4)) (drop (size fs) t.body) ≡ mid =
        ap (λ (i : ℕ). take i (drop (size fs) t.body)) width
        ∙ part-place (size fs) (n - 8 - text) (omega arith)
        ∙ ap (λ (i : ℕ). take (n - 8 - text) (drop (at + i) f)) (sym z) in
        stored n k head mid (to + text) (to + (n - 8)) (omega (arith, length-turned o fs (drop (at + 6) f) room))
        (omega (arith, length-take-le (n - 8 - text) (drop (at + text) f) rest))
        (moved (size_of s) s.here.kind (fields-place fs (omega arith)) middle (parts-row o t s.own fs x shape).are)
        (w ∙ ap (λ (us : List Field). sets (sets (sets out to (opening_bytes false n k (turned o us (drop (at + 6) f)))) (to + text) mid)
        (to + (n - 8)) (close_bytes false n (num_of o (take 4 (drop (at + (n - 8)) f)))))
        g)

    -- an unlisted tuple
    pub raw-written : shape_of k ≡ unlisted
        → left ≡ sets (sets (sets out to (open_bytes false n k)) (to + 6) (take (n - 10) (drop (at + 6) f))) (to + n - 4) (bytes_of false 4 n)
        → left ≡ sets out to (form_bytes o (tup_at o (drop at f)))
    raw-written e w =
        let d = take (n - 10) (drop (at + 6) f) in
        let long = (there s).long in
        let width : m ≡ n - 10 = omega (arith, (there s).size) in
        let body : t.body ≡ d = body-place o f at ∙ ap (λ (i : ℕ). take i (drop (at + 6) f)) width in
        let fit : length d ≡ n - 10 = ap length (sym body) ∙ size-body in
        w
        ∙ enclosed out to n k d (to + n - 4) (omega arith)
        ∙ ap (sets out to) (sym (form-raw o t (shape_of_lem s ∙ e)
        ∙ raw-frame t.kind t.body
        ∙ ap₂ (λ (c : ℕ) (b : List ℕ). open_bytes false (length b + 10) c ++ (b ++ bytes_of false 4 (length b + 10))) s.here.kind body
        ∙ ap (λ (i : ℕ). open_bytes false i k ++ (d ++ bytes_of false 4 i)) (omega arith)))

    -- a ping: its header has 18 bytes
    module _ (long : 36 ≤ n) where
      abbrev header : List ℕ
      header = turned o ping_row (drop (at + 6) f)

      length-header : length header ≡ 18
      length-header = length-turned o ping_row (drop (at + 6) f) (simp length-drop (omega (arith, (there s).fits)))

      -- its parts by their places: j bytes of type e, with m behind the header
      placed : {j e : ℕ} {m : List ℕ} → Parts (form_bytes o t) j e (turned o ping_row t.body) m (attribute_in o t.body)
          → Parts (form_bytes o t) j e header m (num_of o (take 4 (drop (at + (n - 8)) f)))
      placed {j} {e} {m} p =
          record { are = moved {m = m} refl refl (fields-place ping_row (omega arith)) refl p.are; long = p.long }

      -- what stands behind the header fills all but 32 bytes
      filled : {j e : ℕ} {m : List ℕ} → Parts (form_bytes o t) j e header m (num_of o (take 4 (drop (at + (n - 8)) f))) → length m + 32 ≡ j
      filled {j} {e} {m} p =
          let a = num_of o (take 4 (drop (at + (n - 8)) f)) in
          omega (
            arith,
            ap length p.are,
            p.long,
            length-append (opening_bytes false j e header) (m ++ close_bytes false j a),
            length-append m (close_bytes false j a),
            length-opening false j e header,
            length_close false j a,
            length-header,
          )

      ping-written : (j e : ℕ) (m : List ℕ) → Parts (form_bytes o t) j e (turned o ping_row t.body) m (attribute_in o t.body)
          → left
          ≡ sets (sets (sets out to (opening_bytes false j e (turned o ping_row (drop (at + 6) f)))) (to + 24) m) (to + (j - 8))
          (close_bytes false j (num_of o (take 4 (drop (at + (n - 8)) f))))
          → left ≡ sets out to (form_bytes o (tup_at o (drop at f)))
      ping-written j e m p w =
          let q = placed p in
          let z = filled q in
          stored j e header m (to + 24) (to + (j - 8)) (omega (arith, length-header)) (omega arith) q.are w

    -- the parts under other names for the length and the type
    renamed : {i j c d : ℕ} {x : List ℕ} → i ≡ j → c ≡ d
        → Parts (form_bytes o t) i c (turned o ping_row t.body) x (attribute_in o t.body)
        → Parts (form_bytes o t) j d (turned o ping_row t.body) x (attribute_in o t.body)
    renamed {i} {j} {c} {d} {x} g h p =
        subst (λ (l : ℕ). Parts (form_bytes o t) l d (turned o ping_row t.body) x (attribute_in o t.body)) g
        (subst (λ (l : ℕ). Parts (form_bytes o t) i l (turned o ping_row t.body) x (attribute_in o t.body)) h p)

    module _ (b : Bytes f) where
      -- an uncompressed ping, its samples turned
      pub plain-written : (y : Family) → shape_of k ≡ uncompressed y
          → left
          ≡ sets
          (sets (sets out to (opening_bytes false n k (turned o ping_row (drop (at + 6) f)))) (to + 24)
          (spaced (unsampled y false (all_samples y o (part_at f at n 24)))))
          (to + (n - 8))
          (close_bytes false n (num_of o (take 4 (drop (at + (n - 8)) f))))
          → left ≡ sets out to (form_bytes o (tup_at o (drop at f)))
      plain-written y e w =
          let code = (subst (Shaped k) e (shaped k)).0 in
          let parts =
          parts_u o t s.own y (shape_of_lem s ∙ e) (framed-here s b) in
          let named : Parts (form_bytes o t) n k (turned o ping_row t.body)
          (spaced (unsampled y false (all_samples y o (part_at f at n 24))))
          (attribute_in o t.body) =
          subst (λ (x : List Sample). Parts (form_bytes o t) n k (turned o ping_row t.body) (spaced (unsampled y false x))
          (attribute_in o t.body))
          (samples-there s y e)
          (renamed (size_of s) (sym code) parts) in
          ping-written (long-plain s y e) n k _ named w

      module _ (y : Family) (e : shape_of k ≡ compressed y) where
        shape : shape_of t.kind ≡ compressed y
        shape = shape_of_lem s ∙ e

        long : 36 ≤ n
        long = omega (arith, long-words s y e)

        -- a compressed one as an uncompressed one of j bytes
        pub sampled-written : packs (content_c y o (tup_at o (drop at f)).body) ≡ false → (j : ℕ)
            → j ≡ plain_size (sample_bytes y) (count_at o f at)
            → left
            ≡ sets
            (sets (sets out to (opening_bytes false j (type_u y) (turned o ping_row (drop (at + 6) f)))) (to + 24)
            (spaced (unsampled y false (samples_in y (held_at y o f at n)))))
            (to + (j - 8))
            (close_bytes false j (num_of o (take 4 (drop (at + (n - 8)) f))))
            → left ≡ sets out to (form_bytes o (tup_at o (drop at f)))
        sampled-written h j z w =
            let said = (content-here s y e).0 in
            let size = z ∙ ap (plain_size (sample_bytes y)) (count_of_lem s y e ∙ ap length (sym said)) in
            ping-written long j (type_u y) (spaced (unsampled y false (samples_in y (held_at y o f at n))))
            (subst (λ (x : List Sample). Parts (form_bytes o t) j (type_u y) (turned o ping_row t.body) (spaced (unsampled y false x))
            (attribute_in o t.body))
            said
            (parts_c_u o t s.own y shape j size h))
            w

        -- one that stays compressed: its words us stand at to + 28 first, up to q; then a space where one is needed, attribute and
        -- backlink behind them; then what is before them
        pub packed-written : packs (content_c y o (tup_at o (drop at f)).body) ≡ true → (us : List ℕ)
            → words_for y (samples_in y (held_at y o f at n)) (ping_length (radix_of y) (held_at y o f at n)) ≡ us → (j c q : ℕ) (l : List ℕ)
            → q ≡ to + 28 + value_bytes y * length us
            → j ≡ 36 + (value_bytes y * length us + (value_bytes y * length us) % 4)
            → c ≡ count_at o f at
            → PackedAt (value_bytes y) out (to + 28) us l q
            → left
            ≡ sets
            (sets
            (sets l q
            (replicate ((value_bytes y * length us) % 4) 0 ++ close_bytes false j (num_of o (take 4 (drop (at + (n - 8)) f)))))
            to (opening_bytes false j (type_c y) (turned o ping_row (drop (at + 6) f))))
            (to + 24) (bytes_of false 4 c)
            → left ≡ sets out to (form_bytes o (tup_at o (drop at f)))
        packed-written h us u j c q l place z count packed w =
            let k = value_bytes y in
            let said = content_c y o t.body in
            let v = unwords k false us in
            let gap : List ℕ = replicate ((k * length us) % 4) 0 in
            let tail = close_bytes false j (num_of o (take 4 (drop (at + (n - 8)) f))) in
            let b4 = bytes_of false 4 c in
            let g = opening_bytes false j (type_c y) (turned o ping_row (drop (at + 6) f)) in
            let words : words_for y said.samples said.length ≡ us =
            (λ i. words_for y ((content-here s y e).0 i) ((content-here s y e).1 i)) ∙ u in
            let many : length said.samples ≡ c = ap length (content-here s y e).0 ∙ sym (count_of_lem s y e) ∙ sym count in
            let size = z ∙ ap (λ (x : List ℕ). 36 + (k * length x + (k * length x) % 4)) (sym words) in
            let middle : bytes_of false 4 (length said.samples) ++ spaced (unwords k false (words_for y said.samples said.length))
            ≡ b4 ++ (v ++ gap) =
            ap₂ (λ (i : ℕ) (x : List ℕ). bytes_of false 4 i ++ spaced (unwords k false x)) many words
            ∙ ap (λ (x : List ℕ). b4 ++ x) (spread us) in
            let parts =
            placed long (subst (λ (x : List ℕ). Parts (form_bytes o t) j (type_c y) (turned o ping_row t.body) x (attribute_in o t.body))
            middle (parts_c o t s.own y shape j size h)) in
            let form : form_bytes o t ≡ g ++ (b4 ++ (v ++ gap) ++ tail) = parts.are in
            let eighteen : length (turned o ping_row (drop (at + 6) f)) ≡ 18 = length-header long in
            let head : length g ≡ 24 = length-opening false j (type_c y) (turned o ping_row (drop (at + 6) f)) ∙ omega arith in
            let four = length_bytes_of false 4 c in
            let eight : 8 ≤ length (gap ++ tail) = omega (
              arith,
              length-append gap tail,
              length_close false j
                  (num_of o (take 4 (drop (at + (n - 8)) f))),
            ) in
            let grouped : g ++ b4 ++ (v ++ (gap ++ tail)) ≡ g ++ (b4 ++ (v ++ gap) ++ tail) = simp append_assoc in
            w
            ∙ ap (λ (x : List ℕ). sets (sets x to g) (to + 24) b4) (packed (gap ++ tail) eight)
            ∙ stored-behind g b4 (sets out (to + 28) (v ++ (gap ++ tail))) to (to + 24) (omega (arith, head))
            ∙ stored-before (g ++ b4) (v ++ (gap ++ tail)) out to (to + 28) (omega (arith, head, length-append g b4))
            ∙ ap (sets out to) (grouped ∙ sym form)
          where
            spread : (xs : List ℕ) → spaced (unwords (value_bytes y) false xs)
                ≡ unwords (value_bytes y) false xs ++ replicate ((value_bytes y * length xs) % 4) 0
            spread xs = unfold spaced in
                ap (λ (i : ℕ). unwords (value_bytes y) false xs ++ replicate (i % 4) 0) (length-unwords (value_bytes y) false xs)
