-- `rows::read_ek500_channel` meets its contract: the row is its two parts. Assumes nothing.
use mathlib.Core.Path.{◌≡◌, refl}
use mathlib.Core.List.{List, []}
use Prim.Native.Nat.{ℕ}
use native.Mathlib.Omega.{arith}
use borrow.Author.Rules.{rules}
use lib.Dec.{lit≤}
use lib.ListN.{get_or}
use Rattle.layout.specs.Types.{listings}
use Rattle.layout.specs.inner.Codes.{field_of, fields_of, row_codes}
use Rattle.rows.proofs.Parts.{Parted, first-asks, other-asks, both}
use Rattle.rows.proofs.read_ek500_channel.Statement.{statement}
use Rattle.rows.proofs.read_ek500_channel.Tie as tie

-- places, named by what has been done there
abbrev start : tie.After-row-row → tie.Start
start c = c.before.before.before

abbrev rowed : tie.After-read_row → tie.After-row-row
rowed c = c.before.before.before

abbrev first_read : tie.After-read_row-2 → tie.After-read_row
first_read c = c.before.before.before.before.before.before.before

parted : {r : List ℕ} → r ≡ get_or row_codes 4 [] → Parted 4 14 13 36 14 r
unfolding row_codes listings fields_of field_of
parted e = rw e (record { first = lit≤ tt; other = lit≤ tt; bytes = refl; numbers = refl; whole = refl })

read-row-requires : tie.Need-read_row-requires
read-row-requires c κs =
    let a = c.args in
    first-asks _ _ _ _ _ (parted c.row-row.ensures) a.file.now a.numbers.now a.at c.requires.0 c.requires.1

read-row-requires-2 : tie.Need-read_row-requires-2
read-row-requires-2 c κs =
    let a = c.args in
    let x = other-asks _ _ _ _ _ (parted c.row-row.ensures) a.file.now a.numbers.now a.at c.requires.0 c.requires.1 in
    (x.0, (x.1.0, omega (arith, x.1.1)))

returns : tie.Need-returns
returns c =
    let q = c.before.before in
    let f = first_read q in
    let t = rowed f in
    let a = (start t).args in
    both _ _ _ _ _ (parted t.row-row.ensures) a.msb a.file.now a.numbers.now a.at f.read_row.ensures
    q.read_row-2.ensures

pub read_ek500_channel_spec : {M : Type 1} → statement M
read_ek500_channel_spec =
    tie.close
    (tie.spec
    (λ c κs. search rules)
    (λ c. search rules)
    (λ c. search rules)
    (λ c. search rules)
    read-row-requires
    (λ c. search rules)
    (λ c. search rules)
    (λ c. search rules)
    (λ c. search rules)
    (λ c. search rules)
    read-row-requires-2
    (λ c. search rules)
    returns)
