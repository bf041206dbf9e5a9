-- The fields of a tuple that a reader of one type reads, by their places in the file. Assumes nothing.
use mathlib.Core.Path.{◌≡◌, refl, sym, ap, ◌∙◌}
use mathlib.Core.Bool.{Bool, true}
use mathlib.Core.List.{List}
use Prim.Native.Nat.{ℕ, ◌+◌, ◌-◌, ◌≤◌}
use native.Mathlib.Omega.{arith}
use borrow.Author.Tests.{eqb-true, leb-true}
use lib.Dec.{eqb, leb}
use lib.ListN.{length, take, drop, length-drop}
use lib.Seq.{length-take-le}
use Rattle.layout.specs.Types.{Shape, indexed, row, uncompressed, compressed, unlisted, shape_of, lengths_of}
use Rattle.layout.specs.Types.{Length, exactly, upward, fitting, length_from}
use Rattle.layout.proofs.Tables.{lengths-from}
use Rattle.layout.proofs.Families.{IsRow}
use Rattle.layout.proofs.Verdicts.{both_left}
use Rattle.turning.specs.Rows.{values_of}
use Rattle.turning.proofs.Contents.{values_at, values-at}
use Rattle.frame.specs.Files.{is_msb}
use Rattle.rules.proofs.Bools.{both_true}
use Rattle.frame.proofs.Places.{Whole}
use Rattle.content.specs.Items.{row_in, item_by, item_of}
use Rattle.content.proofs.Fine.{row-size}
use Rattle.content.proofs.Places.{length-body, values-place}
use Rattle.intake.specs.inner.Tallies.{Here, Fits, inner_verdict}
use Rattle.intake.proofs.Judges.{head-fits, own-parts}
use Rattle.tuples.specs.Readers.{tuple_there, only, values_by, read_values, row_by, row_of}
use Rattle.tuples.specs.inner.Opening.{Readable}
use Rattle.tuples.proofs.Reading.{stands, here}

-- ---- a tuple of the type asked for
module _ (k : ℕ) {f : List ℕ} {p : ℕ} {o : Bool} {n i : ℕ} (r : Readable (only k) f p o n i) where
  pub same-type : i ≡ k
  same-type = eqb-true i k r.asks

  pub whole-there : Whole (is_msb f) f p n
  whole-there = (stands r.found).whole

  pub in-file : p + n ≤ length f
  in-file = whole-there.fits

  h : Here (is_msb f) f p n i
  h = here r.found

  fits_i : Fits n i
  fits_i = head-fits h (eqb i 65535) refl (both_left _ (inner_verdict (is_msb f) (tuple_there f p)) (own-parts h ∙ r.own))

  pub fits : fitting (length_from (shape_of k)) n ≡ true
  fits =
      ap (λ (l : Length). fitting l n) (sym (lengths-from k))
      ∙ ap (λ (j : ℕ). fitting (lengths_of j) n) (sym same-type)
      ∙ fits_i

  -- a type of one length
  pub exact : (m : ℕ) → length_from (shape_of k) ≡ exactly m → n ≡ m
  exact m e = eqb-true n m (ap (λ (l : Length). fitting l n) (sym e) ∙ fits)

  -- a type of a least length
  pub at_least : (m step : ℕ) → length_from (shape_of k) ≡ upward m step → m ≤ n
  at_least m step e = leb-true m n (both_true (leb m n) _ (ap (λ (l : Length). fitting l n) (sym e) ∙ fits)).0

  module _ (z : IsRow (shape_of k)) where
    -- n is more than the frame
    data_long : n - 10 + 10 ≡ n
    data_long = omega (arith, whole-there.long)

    by_row : (q : Shape) → IsRow q → fitting (length_from q) (n - 10 + 10) ≡ true
        → values_by (item_by q (is_msb f) (tuple_there f p)) ≡ values_of (is_msb f) (row_by q (n - 10)) (drop (p + 6) f)
    by_row indexed a e = absurd a
    by_row (row fs x) a e =
        ap (λ (m : ℕ). values_of (is_msb f) (row_in fs x m) (tuple_there f p).body) (length-body (is_msb f) f p n whole-there)
        ∙ values-place (is_msb f) f p n whole-there (row_in fs x (n - 10)) (omega (arith, row-size fs x (n - 10) e, data_long))
        ∙ sym (values-at (is_msb f) (row_in fs x (n - 10)) f p 6)
    by_row (uncompressed f) a e = absurd a
    by_row (compressed f) a e = absurd a
    by_row unlisted a e = absurd a

    -- the values are those of the row behind the type
    pub values-there : read_values f p ≡ values_of o (row_of k n) (drop (p + 6) f)
    unfolding item_of
    values-there =
        ap (λ (j : ℕ). values_by (item_by (shape_of j) (is_msb f) (tuple_there f p))) (h.kind ∙ same-type)
        ∙ by_row (shape_of k) z (ap (fitting (length_from (shape_of k))) data_long ∙ fits)
        ∙ ap (λ (b : Bool). values_of b (row_of k n) (drop (p + 6) f)) (sym r.msb)

    -- each read at its place
    pub values-placed : read_values f p ≡ values_at o (row_of k n) f p 6
    values-placed = values-there ∙ values-at o (row_of k n) f p 6

-- characters in the file are as many as are taken
pub length_part : (f : List ℕ) (p m : ℕ) → p + m ≤ length f → length (take m (drop p f)) ≡ m
length_part f p m h = length-take-le m (drop p f) (simp length-drop (omega arith))
