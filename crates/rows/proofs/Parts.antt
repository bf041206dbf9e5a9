-- A row that is read in two parts: what each part asks, and that both leave what the row would. Assumes nothing.
use mathlib.Core.Path.{◌≡◌, sym, ap, ◌∙◌}
use mathlib.Core.Bool.{Bool}
use mathlib.Core.List.{List, [], ◌∷◌, ◌++◌}
use Prim.Native.Nat.{ℕ, ◌+◌, ◌≤◌}
use native.Mathlib.Omega.{arith}
use lib.ListN.{length, take, drop}
use lib.Seq.{sets}
use Rattle.layout.specs.Fields.{Field, size, many}
use Rattle.layout.specs.inner.Codes.{fields_of}
use Rattle.turning.specs.Rows.{values_of, numbers_in}
use Rattle.content.proofs.Fine.{size_append}
use Rattle.rows.specs.inner.Listed.{listed_fields}
use Rattle.rows.proofs.Shapes.{many_append}
use Rattle.rows.proofs.Reading.{numbers-parted}

-- the row r of listing k: a codes, of m bytes and with n numbers, then b codes
pub record Parted (k a b m n : ℕ) (r : List ℕ) : Type 0 where
  pub first : length (take a r) ≤ length (fields_of (take a r))
  pub other : length (take b (drop a r)) ≤ length (fields_of (take b (drop a r)))
  pub bytes : size (fields_of (take a r)) ≡ m
  pub numbers : many (fields_of (take a r)) ≡ n
  pub whole : fields_of (take a r) ++ fields_of (take b (drop a r)) ≡ listed_fields k

module _ (k a b m n : ℕ) {r : List ℕ} (p : Parted k a b m n r) where
  abbrev fs : List Field
  fs = fields_of (take a r)

  abbrev gs : List Field
  gs = fields_of (take b (drop a r))

  all-bytes : size (listed_fields k) ≡ size (fields_of (take a r)) + size (fields_of (take b (drop a r)))
  all-bytes = sym (ap (λ (hs : List Field). size hs) p.whole) ∙ size_append fs gs

  all-numbers : many (listed_fields k) ≡ many (fields_of (take a r)) + many (fields_of (take b (drop a r)))
  all-numbers = sym (ap (λ (hs : List Field). many hs) p.whole) ∙ many_append fs gs

  module _ (f ns : List ℕ) (at : ℕ) (h : at + size (listed_fields k) ≤ length f) (l : many (listed_fields k) ≤ length ns) where
    pub first-asks : (length (take a r) ≤ length (fields_of (take a r)))
        × ((at + size (fields_of (take a r)) ≤ length f) × (0 + many (fields_of (take a r)) ≤ length ns))
    first-asks = (p.first, (omega (arith, all-bytes), omega (arith, all-numbers)))

    pub other-asks : (length (take b (drop a r)) ≤ length (fields_of (take b (drop a r))))
        × ((at + m + size (fields_of (take b (drop a r))) ≤ length f) × (n + many (fields_of (take b (drop a r))) ≤ length ns))
    other-asks = (p.other, (omega (arith, all-bytes, p.bytes), omega (arith, all-numbers, p.numbers)))

  -- the numbers of both parts, stored one behind the other
  pub both : (o : Bool) (src lent : List ℕ) (at : ℕ) {one two : List ℕ}
      → one ≡ sets lent 0 (numbers_in (values_of o (fields_of (take a r)) (drop at src)))
      → two ≡ sets one n (numbers_in (values_of o (fields_of (take b (drop a r))) (drop (at + m) src)))
      → two ≡ sets lent 0 (numbers_in (values_of o (listed_fields k) (drop at src)))
  both o src lent at d e =
      let xs = numbers_in (values_of o fs (drop at src)) in
      e
      ∙ ap (λ (x : List ℕ). sets x n (numbers_in (values_of o gs (drop (at + m) src)))) d
      ∙ ap (λ (i : ℕ). sets (sets lent 0 xs) i (numbers_in (values_of o gs (drop (at + m) src))))
      (sym p.numbers)
      ∙ ap (λ (i : ℕ). sets (sets lent 0 xs) (many fs) (numbers_in (values_of o gs (drop (at + i) src))))
      (sym p.bytes)
      ∙ numbers-parted o fs gs src lent at
      ∙ ap (λ (hs : List Field). sets lent 0 (numbers_in (values_of o hs (drop at src)))) p.whole
