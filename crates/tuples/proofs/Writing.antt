-- What a writer promises, by its answer; and the bytes of a tuple of a row, by the values handed over. Assumes nothing.
use mathlib.Core.Path.{◌≡◌, refl, sym, ap, subst, ◌∙◌}
use mathlib.Core.Bool.{Bool, true, false}
use mathlib.Core.List.{List, [], ◌∷◌, ◌++◌, append_assoc, append-nil}
use mathlib.Core.Option.{some, none}
use Prim.Native.Nat.{ℕ, ◌+◌, ◌-◌, ◌<◌, ◌≤◌}
use native.Mathlib.Omega.{arith}
use borrow.Author.Tests.{lt-ltb, le-ltb}
use lib.ListN.{length, drop, get_or, length-append}
use lib.Seq.{sets, sets-eq}
use Rattle.layout.specs.Answers.{tells, accepting}
use Rattle.rules.specs.Rules.{Rule, ◌⇒◌}
use Rattle.rules.specs.Rules.First.{none, here, pass}
use Rattle.rules.proofs.Laws.{first_eq}
use Rattle.order.specs.Order.{bytes_of}
use Rattle.order.proofs.Laws.{length_bytes_of}
use Rattle.layout.specs.Answer.{Answer}
use Rattle.layout.specs.Answer.{Refused}
use Rattle.layout.specs.Fields.{Field, num, txt, gap, ident, s, size}
use Rattle.layout.specs.Types.{Shape, indexed, row, uncompressed, compressed, unlisted, shape_of}
use Rattle.layout.specs.inner.Codes.{place_in, rowed, fields_in, fields_of, row_codes}
use Rattle.layout.proofs.Tables.{fields-there}
use Rattle.frame.specs.Frames.{frame}
use Rattle.frame.specs.inner.Framing.{open_bytes, close_bytes}
use Rattle.frame.proofs.Frames.{length-frame}
use Rattle.frame.proofs.Framing.{length_open}
use Rattle.turning.specs.Rows.{Value, number, text, woven, encode}
use Rattle.turning.specs.inner.Codes.{text_fits}
use Rattle.turning.proofs.Writes.{length-woven}
use Rattle.content.specs.Forms.{encode_by, plain_tuple}
use Rattle.tuples.specs.Writers.{write_answer, Written, plain_bytes}
use Rattle.tuples.specs.inner.Framing.{handed_values, Handable}
use Rattle.layout.proofs.Families.{IsRow, row-rowed}
use Rattle.tuples.proofs.Storing.{in_four}

-- ---- any writer, by its answer
module _ (rs : List (Rule Answer)) (bytes out : List ℕ) where
  pub unwritten : (c q : ℕ) → Refused c q ≡ write_answer rs bytes (length out) → Written rs bytes out (Refused c q) out
  unwritten c q e = record { answer = tells e; memory = rw (← e) }

  pub all-written : (n : ℕ) (left : List ℕ) → length bytes ≡ n → n ≤ length out → accepting 1 n ≡ write_answer rs bytes (length out)
      → left ≡ sets out 0 bytes → Written rs bytes out (accepting 1 n) left
  all-written n left l h e s =
      let z : 0 + length bytes ≡ length bytes = omega arith in
      record { answer = tells e; memory = rw (← e) (s ∙ sets-eq bytes out 0 (omega arith) ∙ ap (λ (k : ℕ). bytes ++ drop k out) z) }

-- a first rule that is broken, and one that isn't
pub refused-first : (b : Bool) (c q : ℕ) (rs : List (Rule Answer)) (bytes out : List ℕ) → b ≡ true
    → Written ((b ⇒ Refused c q) ∷ rs) bytes out (Refused c q) out
refused-first b c q rs bytes out e = unwritten ((b ⇒ Refused c q) ∷ rs) bytes out c q (rw e)

pub written-past : (b : Bool) (x : Answer) (rs : List (Rule Answer)) (bytes out : List ℕ) {a : Answer} {left : List ℕ} → b ≡ false
    → Written rs bytes out a left → Written ((b ⇒ x) ∷ rs) bytes out a left
written-past b x rs bytes out e w = record { answer = rw e w.answer; memory = rw e w.memory }

-- the same values give the same bytes
pub as_values : (o : Bool) (k : ℕ) {vs us : List Value} {out left : List ℕ} {r : Answer} → vs ≡ us
    → Written [] (plain_bytes o k vs) out r left → Written [] (plain_bytes o k us) out r left
as_values o k {out = out} {left = left} {r = r} e w = subst (λ (xs : List Value). Written [] (plain_bytes o k xs) out r left) e w

-- ---- a writer that refuses by 19 alone
module _ (bytes out : List ℕ) (n : ℕ) (l : length bytes ≡ n) where
  pub no_room : length out < n → Written [] bytes out (Refused 19 0) out
  no_room h =
      unwritten [] bytes out 19 0
      (first_eq {d = accepting 1 (length bytes)} (here {rs = []} (lt-ltb (length out) (length bytes) (omega (arith, l)))))

  pub with_room : n ≤ length out → (left : List ℕ) → left ≡ sets out 0 bytes → Written [] bytes out (accepting 1 n) left
  with_room h left e =
      all-written [] bytes out n left l h
      (ap (accepting 1) (sym l) ∙ first_eq (pass (le-ltb (length out) (length bytes) (omega (arith, l))) none)) e

-- ---- the values of a row, and more behind them
pub encode-behind : (o : Bool) (fs gs : List Field) (ns t : List ℕ) (vs : List Value)
    → encode o (fs ++ gs) (woven fs ns t ++ vs) ≡ encode o fs (woven fs ns t) ++ encode o gs vs
encode-behind o [] gs ns t vs = refl
encode-behind o (num g w ∷ fs) gs ns t vs = rw (encode-behind o fs gs (drop 1 ns) t vs, append_assoc)
encode-behind o (txt w ∷ fs) gs ns t vs = rw (encode-behind o fs gs ns t vs, append_assoc)
encode-behind o (gap w ∷ fs) gs ns t vs = rw (encode-behind o fs gs ns t vs, append_assoc)
encode-behind o (ident ∷ fs) gs ns t vs = rw (encode-behind o fs gs ns t vs, append_assoc)

-- ---- what is handed over
module _ (o : Bool) (ns t b : List ℕ) (n a : ℕ) where
  abbrev fields : Shape → List ℕ
  fields h = encode o (fields_in h) (woven (fields_in h) ns t)

  handed-body : (h : Shape) → Handable h ns t b n
      → encode_by o h (handed_values h ns t b a) ≡ encode o (fields_in h) (woven (fields_in h) ns t) ++ (b ++ bytes_of o 4 a)
  handed-body indexed z = absurd z
  handed-body (row fs none) z =
      encode-behind o fs (s 4 ∷ []) ns t (number a ∷ [])
      ∙ ap (λ (x : List ℕ). encode o fs (woven fs ns t) ++ x) (append-nil (bytes_of o 4 a))
      ∙ ap (λ (x : List ℕ). encode o fs (woven fs ns t) ++ (x ++ bytes_of o 4 a)) (sym z.1)
  handed-body (row fs (some least)) z =
      encode-behind o fs (txt (0 - (size fs + 4)) ∷ s 4 ∷ []) ns t (text b ∷ number a ∷ [])
      ∙ ap (λ (x : List ℕ). encode o fs (woven fs ns t) ++ (b ++ x)) (append-nil (bytes_of o 4 a))
  handed-body (uncompressed f) z = absurd z
  handed-body (compressed f) z = absurd z
  handed-body unlisted z = absurd z

  -- its sizes
  pub handed-sizes : (h : Shape) → Handable h ns t b n
      → (n ≡ size (fields_in h) + length b + 14) × (n ≤ 262144) × (text_fits (fields_in h) t ≡ true)
  handed-sizes indexed z = absurd z
  handed-sizes (row fs none) z = (z.2, z.3, z.0)
  handed-sizes (row fs (some least)) z = (z.1, z.2, z.0)
  handed-sizes (uncompressed f) z = absurd z
  handed-sizes (compressed f) z = absurd z
  handed-sizes unlisted z = absurd z

  -- it is a row's, and the code's row is its row
  handed-row : (q : Shape) → Handable q ns t b n → IsRow q
  handed-row indexed z = absurd z
  handed-row (row fs x) z = tt
  handed-row (uncompressed f) z = absurd z
  handed-row (compressed f) z = absurd z
  handed-row unlisted z = absurd z

  module _ (k : ℕ) (z : Handable (shape_of k) ns t b n) where
    pub handed-rowed : place_in k < rowed
    handed-rowed = row-rowed k (handed-row (shape_of k) z)

    pub row-there : fields_of (get_or row_codes (place_in k) []) ≡ fields_in (shape_of k)
    row-there = fields-there k (omega (arith, handed-rowed))

    pub sizes : (n ≡ size (fields_in (shape_of k)) + length b + 14) × (n ≤ 262144) × (text_fits (fields_in (shape_of k)) t ≡ true)
    sizes = handed-sizes (shape_of k) z

    abbrev es : List ℕ
    es = encode o (fields_in (shape_of k)) (woven (fields_in (shape_of k)) ns t)

    length-es : length (encode o (fields_in (shape_of k)) (woven (fields_in (shape_of k)) ns t)) ≡ size (fields_in (shape_of k))
    length-es = length-woven o (fields_in (shape_of k)) ns t sizes.2

    abbrev body : List ℕ
    body = encode_by o (shape_of k) (handed_values (shape_of k) ns t b a)

    length-body : length (encode_by o (shape_of k) (handed_values (shape_of k) ns t b a)) + 10 ≡ n
    length-body =
        ap (λ (x : List ℕ). length x + 10) (handed-body (shape_of k) z)
        ∙ omega (arith, length-append es (b ++ bytes_of o 4 a), length-append b (bytes_of o 4 a), length_bytes_of o 4 a, length-es, sizes.0)

    pub length-plain : length (plain_bytes o k (handed_values (shape_of k) ns t b a)) ≡ n
    length-plain = length-frame o (plain_tuple o k (handed_values (shape_of k) ns t b a)) ∙ omega (arith, length-body)

    regroup : (x y e c u v : List ℕ) → x ++ (y ++ ((e ++ (c ++ u)) ++ v)) ≡ (x ++ y) ++ (e ++ (c ++ (u ++ v)))
    regroup x y e c u v = simp append_assoc

    -- its four runs of stores are one
    pub put : (out : List ℕ)
        → sets (sets (sets (sets out 0 (open_bytes o n k)) 6 (encode o (fields_in (shape_of k)) (woven (fields_in (shape_of k)) ns t)))
        (n - 8 - length b) b)
        (n - 8) (close_bytes o n a)
        ≡ sets out 0 (plain_bytes o k (handed_values (shape_of k) ns t b a))
    unfolding frame open_bytes close_bytes
    put out =
        let m = size (fields_in (shape_of k)) in
        let third : n - 8 - length b ≡ 6 + size (fields_in (shape_of k)) = omega (arith, sizes.0) in
        let fourth : n - 8 ≡ 6 + size (fields_in (shape_of k)) + length b = omega (arith, sizes.0) in
        let small : n - 10 ≡ length (encode_by o (shape_of k) (handed_values (shape_of k) ns t b a)) = omega (arith, length-body) in
        ap (λ (i : ℕ). sets (sets (sets (sets out 0 (open_bytes o n k)) 6 es) i b) (n - 8) (close_bytes o n a)) third
        ∙ ap (λ (i : ℕ). sets (sets (sets (sets out 0 (open_bytes o n k)) 6 es) (6 + m) b) i (close_bytes o n a)) fourth
        ∙ in_four (open_bytes o n k) es b (close_bytes o n a) out 6 m (length b) (length_open o n k) length-es refl
        ∙ ap (sets out 0) (sym (regroup (bytes_of o 4 (n - 10)) (bytes_of o 2 k) es b (bytes_of o 4 a) (bytes_of o 4 n)))
        ∙ ap (λ (x : List ℕ). sets out 0 (bytes_of o 4 (n - 10) ++ (bytes_of o 2 k ++ (x ++ bytes_of o 4 n))))
        (sym (handed-body (shape_of k) z))
        ∙ ap (λ (i : ℕ). sets out 0 (bytes_of o 4 i ++ (bytes_of o 2 k ++ (body ++ bytes_of o 4 n)))) small
        ∙ ap (λ (i : ℕ). sets out 0 (bytes_of o 4 (length body) ++ (bytes_of o 2 k ++ (body ++ bytes_of o 4 i)))) (sym length-body)
