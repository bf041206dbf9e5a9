-- `rows::read_listed` meets its contract: in each arm the listing is the arm's, and a row without the dots behind its codes has the same
-- fields. Assumes nothing.
use mathlib.Core.Path.{◌≡◌, refl, sym, ap, ◌∙◌}
use mathlib.Core.List.{List, []}
use Prim.Native.Nat.{ℕ, ◌+◌, ◌≤◌}
use native.Mathlib.Omega.{arith}
use borrow.Author.Rules.{rules}
use lib.ListN.{length, take, drop, get_or, length-take}
use lib.Seq.{sets}
use Rattle.layout.specs.Fields.{Field, size, many}
use Rattle.layout.specs.Types.{listings}
use Rattle.layout.specs.inner.Codes.{field_of, fields_of, row_codes}
use Rattle.layout.proofs.Arms.{at_least}
use Rattle.layout.proofs.Rows.{cut}
use Rattle.turning.specs.Rows.{values_of, numbers_in}
use Rattle.rows.specs.inner.Listed.{listed_fields}
use Rattle.rows.proofs.read_listed.Statement.{statement}
use Rattle.rows.proofs.read_listed.Tie as tie

-- in an arm for listing k, whose row is r and has n fields
module _ (s : tie.Start) {k n : ℕ} {r : List ℕ} (e : s.args.listing ≡ k) (h : r ≡ get_or row_codes k [])
    (c : n ≡ length (listed_fields k)) where
  of_listing : fields_of (take n r) ≡ listed_fields s.args.listing
  of_listing =
      ap (λ (l : List ℕ). fields_of (take n l)) h
      ∙ ap (λ (i : ℕ). fields_of (take i (get_or row_codes k []))) c
      ∙ cut (get_or row_codes k [])
      ∙ sym (ap (λ (i : ℕ). listed_fields i) e)

  -- what its call asks
  asked : let a = s.args in
      (length (take n r) ≤ length (fields_of (take n r)))
      × ((a.at + size (fields_of (take n r)) ≤ length a.file.now) × (0 + many (fields_of (take n r)) ≤ length a.numbers.now))
  asked =
      let l = ap (λ (fs : List Field). length fs) of_listing in
      let m = ap (λ (i : ℕ). length (listed_fields i)) e in
      let z = ap (λ (fs : List Field). size fs) of_listing in
      let y = ap (λ (fs : List Field). many fs) of_listing in
      (omega (arith, l, m, c, length-take n r), (omega (arith, s.requires.1.0), omega (arith, s.requires.1.1)))

  -- and what it leaves
  left : {numbers : List ℕ} → let a = s.args in
      numbers ≡ sets a.numbers.now 0 (numbers_in (values_of a.msb (fields_of (take n r)) (drop a.at a.file.now)))
      → numbers ≡ sets a.numbers.now 0 (numbers_in (values_of a.msb (listed_fields a.listing) (drop a.at a.file.now)))
  left g =
      let a = s.args in
      g ∙ ap (λ (fs : List Field). sets a.numbers.now 0 (numbers_in (values_of a.msb fs (drop a.at a.file.now)))) of_listing

-- in an arm that reads its row in parts: what its call asks, and what it leaves
module _ (s : tie.Start) (k : ℕ) (e : s.args.listing ≡ k) where
  parts-asked : let a = s.args in
      (a.at + size (listed_fields k) ≤ length a.file.now) × (many (listed_fields k) ≤ length a.numbers.now)
  parts-asked = rw e at s.requires.1

  parts-left : {numbers : List ℕ} → let a = s.args in
      numbers ≡ sets a.numbers.now 0 (numbers_in (values_of a.msb (listed_fields k) (drop a.at a.file.now)))
      → numbers ≡ sets a.numbers.now 0 (numbers_in (values_of a.msb (listed_fields a.listing) (drop a.at a.file.now)))
  parts-left g = rw e g

-- behind the fourteen arms one listing is left
last : (m : tie.In_default) → m.args.listing ≡ 14
last m = let s = m.before.before.before in omega (arith, s.requires.0, at_least 14 s.args.listing m.in_default.in_default-own.rest)

pub read_listed_spec : {M : Type 1} → statement M
unfolding row_codes listings fields_of field_of
read_listed_spec =
    tie.close
    (tie.spec
    (λ c κs. search rules)
    (λ c. search rules)
    (λ c. search rules)
    (λ c. search rules)
    (λ c. search rules)
    (λ c κs. asked c.before.before.before.before.before.before.before.before c.in-0.is c.row.ensures refl)
    (λ c κs. search rules)
    (λ c. search rules)
    (λ c. search rules)
    (λ c. search rules)
    (λ c. search rules)
    (λ c κs. asked c.before.before.before.before.before.before.before.before c.in-1.is c.row-in-1.ensures refl)
    (λ c κs. let m = c.before in parts-asked m.before.before.before 2 m.in-2.is)
    (λ c κs. let m = c.before in parts-asked m.before.before.before 3 m.in-3.is)
    (λ c κs. let m = c.before in parts-asked m.before.before.before 4 m.in-4.is)
    (λ c κs. search rules)
    (λ c. search rules)
    (λ c. search rules)
    (λ c. search rules)
    (λ c. search rules)
    (λ c κs. asked c.before.before.before.before.before.before.before.before c.in-5.is c.row-in-5.ensures refl)
    (λ c κs. search rules)
    (λ c. search rules)
    (λ c. search rules)
    (λ c. search rules)
    (λ c. search rules)
    (λ c κs. asked c.before.before.before.before.before.before.before.before c.in-6.is c.row-in-6.ensures refl)
    (λ c κs. search rules)
    (λ c. search rules)
    (λ c. search rules)
    (λ c. search rules)
    (λ c. search rules)
    (λ c κs. asked c.before.before.before.before.before.before.before.before c.in-7.is c.row-in-7.ensures refl)
    (λ c κs. search rules)
    (λ c. search rules)
    (λ c. search rules)
    (λ c. search rules)
    (λ c. search rules)
    (λ c κs. asked c.before.before.before.before.before.before.before.before c.in-8.is c.row-in-8.ensures refl)
    (λ c κs. search rules)
    (λ c. search rules)
    (λ c. search rules)
    (λ c. search rules)
    (λ c. search rules)
    (λ c κs. asked c.before.before.before.before.before.before.before.before c.in-9.is c.row-in-9.ensures refl)
    (λ c κs. search rules)
    (λ c. search rules)
    (λ c. search rules)
    (λ c. search rules)
    (λ c. search rules)
    (λ c κs. asked c.before.before.before.before.before.before.before.before c.in-10.is c.row-in-10.ensures refl)
    (λ c κs. search rules)
    (λ c. search rules)
    (λ c. search rules)
    (λ c. search rules)
    (λ c. search rules)
    (λ c κs. asked c.before.before.before.before.before.before.before.before c.in-11.is c.row-in-11.ensures refl)
    (λ c κs. search rules)
    (λ c. search rules)
    (λ c. search rules)
    (λ c. search rules)
    (λ c. search rules)
    (λ c κs. asked c.before.before.before.before.before.before.before.before c.in-12.is c.row-in-12.ensures refl)
    (λ c κs. search rules)
    (λ c. search rules)
    (λ c. search rules)
    (λ c. search rules)
    (λ c. search rules)
    (λ c κs. asked c.before.before.before.before.before.before.before.before c.in-13.is c.row-in-13.ensures refl)
    (λ c κs. search rules)
    (λ c. search rules)
    (λ c. search rules)
    (λ c. search rules)
    (λ c. search rules)
    (λ c κs.
    asked c.before.before.before.before.before.before.before.before (last c.before.before.before.before.before) c.row-in_default.ensures refl)
    (λ c. search rules)
    (λ c. left c.before.before.before.before.before.before.before.before.before.before.before c.in-0.is c.row.ensures refl c.read_row.ensures)
    (λ c. search rules)
    (λ c. left c.before.before.before.before.before.before.before.before.before.before.before c.in-1.is c.row-in-1.ensures refl c.read_row-in-1.ensures)
    (λ c. search rules)
    (λ c. parts-left c.before.before.before.before.before.before.before 2 c.in-2.is c.read_ek500_sounder.ensures)
    (λ c. search rules)
    (λ c. parts-left c.before.before.before.before.before.before.before 3 c.in-3.is c.read_channel.ensures)
    (λ c. search rules)
    (λ c. parts-left c.before.before.before.before.before.before.before 4 c.in-4.is c.read_ek500_channel.ensures)
    (λ c. search rules)
    (λ c. left c.before.before.before.before.before.before.before.before.before.before.before c.in-5.is c.row-in-5.ensures refl c.read_row-in-5.ensures)
    (λ c. search rules)
    (λ c. left c.before.before.before.before.before.before.before.before.before.before.before c.in-6.is c.row-in-6.ensures refl c.read_row-in-6.ensures)
    (λ c. search rules)
    (λ c. left c.before.before.before.before.before.before.before.before.before.before.before c.in-7.is c.row-in-7.ensures refl c.read_row-in-7.ensures)
    (λ c. search rules)
    (λ c. left c.before.before.before.before.before.before.before.before.before.before.before c.in-8.is c.row-in-8.ensures refl c.read_row-in-8.ensures)
    (λ c. search rules)
    (λ c. left c.before.before.before.before.before.before.before.before.before.before.before c.in-9.is c.row-in-9.ensures refl c.read_row-in-9.ensures)
    (λ c. search rules)
    (λ c. left c.before.before.before.before.before.before.before.before.before.before.before c.in-10.is c.row-in-10.ensures refl c.read_row-in-10.ensures)
    (λ c. search rules)
    (λ c. left c.before.before.before.before.before.before.before.before.before.before.before c.in-11.is c.row-in-11.ensures refl c.read_row-in-11.ensures)
    (λ c. search rules)
    (λ c. left c.before.before.before.before.before.before.before.before.before.before.before c.in-12.is c.row-in-12.ensures refl c.read_row-in-12.ensures)
    (λ c. search rules)
    (λ c. left c.before.before.before.before.before.before.before.before.before.before.before c.in-13.is c.row-in-13.ensures refl c.read_row-in-13.ensures)
    (λ c. search rules)
    (λ c.
    left c.before.before.before.before.before.before.before.before.before.before.before (last c.before.before.before.before.before.before.before.before)
    c.row-in_default.ensures refl c.read_row-in_default.ensures))
