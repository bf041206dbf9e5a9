-- Parts of a ping stored one behind the other are stored as its bytes. Assumes nothing.
use mathlib.Core.Path.{◌≡◌, refl, sym, ap, ◌∙◌}
use mathlib.Core.Bool.{Bool, true, false}
use mathlib.Core.List.{List, [], ◌++◌, append_assoc}
use mathlib.Core.Option.{Option, none}
use Prim.Native.Nat.{ℕ, ◌+◌, ◌-◌, ◌*◌, ◌%◌}
use native.Mathlib.Omega.{arith}
use lib.IntN.{ℤ}
use lib.ListN.{length, replicate, length-append}
use lib.Seq.{sets}
use Rattle.order.specs.Order.{bytes_of, pattern_of}
use Rattle.order.proofs.Laws.{length_bytes_of}
use Rattle.order.proofs.Stores.{store_step, stored-behind}
use Rattle.layout.specs.Families.{Family, type_u, type_c, value_bytes, sample_bytes}
use Rattle.layout.specs.Types.{ping_row}
use Rattle.turning.specs.Rows.{encode}
use Rattle.frame.specs.Frames.{frame}
use Rattle.frame.specs.inner.Framing.{open_bytes, opening_bytes, close_bytes}
use Rattle.frame.proofs.Framing.{length-opening}
use Rattle.samples.specs.Words.{Sample, unwords, unsampled, spaced}
use Rattle.samples.specs.Values.{words_for}
use Rattle.samples.proofs.Words.{length-unwords, length-unsampled, length-spaced}
use Rattle.content.specs.Pings.{data_u, data_c}
use Rattle.content.specs.Forms.{tuple_u, tuple_c}
use Rattle.tuples.proofs.Storing.{length_three, in_three, length-four}
use Rattle.pings.specs.declared.PingHeader.{PingHeader}
use Rattle.pings.specs.Headers.{head_of}
use Rattle.ping_writers.specs.Writers.{ping_of}
use Rattle.ping_writers.specs.inner.Judged.{plain_size}

-- ---- the header
module _ (o : Bool) (l : List ℕ) (h : PingHeader) where
  pub header-stored :
      sets (sets (sets (sets (sets (sets l 6 (bytes_of o 2 h.time_fraction)) 8 (bytes_of o 4 h.time_cpu)) 12
      (bytes_of o 2 h.software_channel_identifier.0))
      14 (bytes_of o 2 h.transmitter_mode))
      16 (bytes_of o 4 h.ping_number))
      20 (bytes_of o 4 (pattern_of 4 h.detected_bottom_range))
      ≡ sets l 6 (encode o ping_row (head_of h))
  header-stored =
      sym
      (store_step o 2 h.time_fraction l _ 6
      ∙ store_step o 4 h.time_cpu _ _ 8
      ∙ store_step o 2 h.software_channel_identifier.0 _ _ 12
      ∙ store_step o 2 h.transmitter_mode _ _ 14
      ∙ store_step o 4 h.ping_number _ _ 16
      ∙ store_step o 4 (pattern_of 4 h.detected_bottom_range) _ [] 20)

-- its row has 18 bytes
pub length-head : (o : Bool) (h : PingHeader) → length (encode o ping_row (head_of h)) ≡ 18
length-head o h =
    rw (
      length-append,
      length-append,
      length-append,
      length-append,
      length-append,
      length-append,
      length_bytes_of,
      length_bytes_of,
      length_bytes_of,
      length_bytes_of,
      length_bytes_of,
      length_bytes_of,
    )

-- ---- any ping: m are its samples, or its number of samples and its words, with the space behind them
module _ (o : Bool) (h : PingHeader) (k a : ℕ) (m out : List ℕ) (n : ℕ) (whole : n ≡ 32 + length m) where
  regroup : (s k e u t b : List ℕ) → s ++ (k ++ ((e ++ (u ++ t)) ++ b)) ≡ ((s ++ k) ++ e) ++ (u ++ (t ++ b))
  regroup s k e u t b = simp append_assoc

  ping-stored : sets (sets (sets out 0 (opening_bytes o n k (encode o ping_row (head_of h)))) 24 m) (n - 8) (close_bytes o n a)
      ≡ sets out 0 (frame o (record { kind = k; body = encode o ping_row (head_of h) ++ (m ++ bytes_of o 4 a) }))
  unfolding frame open_bytes opening_bytes close_bytes
  ping-stored =
      let e = encode o ping_row (head_of h) in
      let t = bytes_of o 4 a in
      let last : n - 8 ≡ 24 + length m = omega (arith, whole) in
      let lengths : length (e ++ (m ++ t)) ≡ 22 + length m =
      omega (arith, length-append e (m ++ t), length-append m t, length-head o h, length_bytes_of o 4 a) in
      let size : n - 10 ≡ length (e ++ (m ++ t)) = omega (arith, whole, lengths) in
      let back : n ≡ length (e ++ (m ++ t)) + 10 = omega (arith, whole, lengths) in
      let opening : length (opening_bytes o n k e) ≡ 24 = omega (arith, length-opening o n k e, length-head o h) in
      ap (λ (i : ℕ). sets (sets (sets out 0 (opening_bytes o n k e)) 24 m) i (close_bytes o n a)) last
      ∙ in_three (opening_bytes o n k e) m (close_bytes o n a) out 24 (length m) opening (λ _. length m)
      ∙ ap (sets out 0) (sym (regroup (bytes_of o 4 (n - 10)) (bytes_of o 2 k) e m t (bytes_of o 4 n)))
      ∙ ap (λ (i : ℕ). sets out 0 (bytes_of o 4 i ++ (bytes_of o 2 k ++ ((e ++ (m ++ t)) ++ bytes_of o 4 n)))) size
      ∙ ap (λ (i : ℕ). sets out 0 (bytes_of o 4 (length (e ++ (m ++ t))) ++ (bytes_of o 2 k ++ ((e ++ (m ++ t)) ++ bytes_of o 4 i)))) back

-- ---- a space
pub two-zeros : (o : Bool) → bytes_of o 2 0 ≡ replicate 2 0
two-zeros true = refl
two-zeros false = refl

-- bytes and the space behind them
space-stored : (bs l : List ℕ) (q p z : ℕ) → p ≡ q + length bs → z ≡ length bs % 4
    → sets (sets l q bs) p (replicate z 0) ≡ sets l q (spaced bs)
unfolding spaced
space-stored bs l q p z e s =
    ap (λ (i : ℕ). sets (sets l q bs) p (replicate i 0)) s ∙ stored-behind bs (replicate (length bs % 4) 0) l q p e

module _ (f : Family) (o : Bool) (h : PingHeader) (a : ℤ) (s : List Sample) (out : List ℕ) (n : ℕ) where
  -- ---- uncompressed
  pub length-plain : length (data_u o (ping_of f h a s none)) + 10 ≡ plain_size (sample_bytes f) (length s)
  unfolding data_u
  length-plain =
      let e = encode o ping_row (head_of h) in
      let m = spaced (unsampled f o s) in
      let t = bytes_of o 4 (pattern_of 4 a) in
      let l = length-unsampled f o s in
      omega (
        arith,
        length_three e m t 18 (length (unsampled f o s) + length (unsampled f o s) % 4) 4 (length-head o h)
            (length-spaced (unsampled f o s)) (length_bytes_of o 4 (pattern_of 4 a)),
        l,
        ap (λ (i : ℕ). i % 4) l,
      )

  pub plain-stored : (end : ℕ) → n ≡ plain_size (sample_bytes f) (length s) → end ≡ 24 + length s * sample_bytes f
      → sets (sets (sets (sets out 0 (opening_bytes o n (type_u f) (encode o ping_row (head_of h)))) 24 (unsampled f o s))
      end (replicate (n - 8 - end) 0))
      (n - 8) (close_bytes o n (pattern_of 4 a))
      ≡ sets out 0 (frame o (tuple_u o (ping_of f h a s none)))
  unfolding data_u
  plain-stored end whole there =
      let bs = unsampled f o s in
      let l = length-unsampled f o s in
      let r = ap (λ (i : ℕ). i % 4) l in
      let before = sets out 0 (opening_bytes o n (type_u f) (encode o ping_row (head_of h))) in
      ap (λ (x : List ℕ). sets x (n - 8) (close_bytes o n (pattern_of 4 a)))
      (space-stored bs before 24 end (n - 8 - end) (omega (arith, l, there)) (omega (arith, r, there, whole)))
      ∙ ping-stored o h (type_u f) (pattern_of 4 a) (spaced bs) out n (omega (arith, whole, length-spaced bs, l, r))

  -- ---- compressed
  module _ (l : Option ℕ) where
    abbrev us : List ℕ
    us = unwords (value_bytes f) o (words_for f s l)

    length-words : length (unwords (value_bytes f) o (words_for f s l)) ≡ value_bytes f * length (words_for f s l)
    length-words = length-unwords (value_bytes f) o (words_for f s l)

    pub length-packed : length (data_c o (ping_of f h a s l) (words_for f s l)) + 10
        ≡ 36 + (value_bytes f * length (words_for f s l) + (value_bytes f * length (words_for f s l)) % 4)
    unfolding data_c
    length-packed =
        let e = encode o ping_row (head_of h) in
        let c = bytes_of o 4 (length s) in
        let m = spaced us in
        let t = bytes_of o 4 (pattern_of 4 a) in
        omega (
          arith,
          length-four e c m t 18 4 (length us + length us % 4) 4 (length-head o h) (length_bytes_of o 4 (length s)) (length-spaced us)
              (length_bytes_of o 4 (pattern_of 4 a)),
          length-words,
          ap (λ (i : ℕ). i % 4) length-words,
        )

    pub packed-stored : (end : ℕ)
        → n ≡ 36 + (value_bytes f * length (words_for f s l) + (value_bytes f * length (words_for f s l)) % 4)
        → end ≡ 28 + value_bytes f * length (words_for f s l)
        → sets (sets (sets (sets (sets out 0 (opening_bytes o n (type_c f) (encode o ping_row (head_of h)))) 24 (bytes_of o 4 (length s)))
        28 (unwords (value_bytes f) o (words_for f s l)))
        end (replicate (n - 8 - end) 0))
        (n - 8) (close_bytes o n (pattern_of 4 a))
        ≡ sets out 0 (frame o (tuple_c o (ping_of f h a s l)))
    unfolding data_c
    packed-stored end whole there =
        let e = encode o ping_row (head_of h) in
        let c = bytes_of o 4 (length s) in
        let t = bytes_of o 4 (pattern_of 4 a) in
        let r = ap (λ (i : ℕ). i % 4) length-words in
        let before = sets out 0 (opening_bytes o n (type_c f) e) in
        let counted = length_bytes_of o 4 (length s) in
        let assoc : e ++ ((c ++ spaced us) ++ t) ≡ e ++ (c ++ (spaced us ++ t)) =
        ap (λ (x : List ℕ). e ++ x) (append_assoc c (spaced us) t) in
        ap (λ (x : List ℕ). sets x (n - 8) (close_bytes o n (pattern_of 4 a)))
        (space-stored us (sets before 24 c) 28 end (n - 8 - end) (omega (arith, length-words, there)) (omega (arith, r, there, whole))
        ∙ stored-behind c (spaced us) before 24 28 (omega (arith, counted)))
        ∙ ping-stored o h (type_c f) (pattern_of 4 a) (c ++ spaced us) out n
        (omega (arith, whole, length-append c (spaced us), counted, length-spaced us, length-words, r))
        ∙ ap (λ (x : List ℕ). sets out 0 (frame o (record { kind = type_c f; body = x }))) assoc
