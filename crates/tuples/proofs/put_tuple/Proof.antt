-- `tuples::put_tuple` meets its contract: frame, fields and characters, one behind the other. Assumes nothing.
use mathlib.Core.Path.{◌≡◌, ap, ◌∙◌}
use mathlib.Core.List.{[]}
use mathlib.Core.Bool.{true}
use Prim.Native.Nat.{ℕ, ◌+◌, ◌≤◌}
use native.Mathlib.Omega.{arith}
use borrow.Author.Rules.{rules}
use mir.Syntax.{w32}
use mir.Facts.{to_z-of_z}
use lib.ListN.{length, get_or}
use lib.Seq.{take-length}
use Rattle.order.specs.Order.{pattern_of}
use Rattle.layout.specs.Fields.{size}
use Rattle.layout.specs.Types.{shape_of}
use Rattle.layout.specs.inner.Codes.{fields_in, fields_of, row_codes}
use Rattle.turning.specs.inner.Codes.{text_fits}
use Rattle.tuples.proofs.Writing.{handed-rowed, row-there, sizes, put}
use Rattle.tuples.proofs.put_tuple.Statement.{statement}
use Rattle.tuples.proofs.put_tuple.Tie as tie

-- ---- places: back to the function's start, from where the listing is known, the fields are written, the characters and the tail
abbrev start : tie.After-listing_of → tie.Start
start l = l.before.before.before.before.before

abbrev rowing : tie.After-write_row-arg-1 → tie.After-row-row
rowing c = c.before.before.before.before.before.before

abbrev before-copy : tie.After-copy-arg-1 → tie.Start
before-copy c = start (rowing c.before.before.before.before).before

abbrev before-tail : tie.After-put_tail-arg-1 → tie.Start
before-tail c = before-copy c.before.before.before.before

-- the row of the code's table is the type's
rowed : (c : tie.After-row-row) → fields_of c.row-row.result ≡ fields_in (shape_of (start c.before).args.code)
rowed c =
    let d = start c.before in
    let a = d.args in
    ap fields_of
    (c.row-row.ensures
    ∙ ap (λ (i : ℕ). get_or row_codes i []) c.listing_of.ensures)
    ∙ row-there a.msb a.numbers.now a.remark.now a.behind.now a.whole (pattern_of 4 a.attribute) a.code d.requires.0

-- how many bytes it has
small : (d : tie.Start)
    → let a = d.args in
    (a.whole ≡ size (fields_in (shape_of a.code)) + length a.behind.now + 14)
    × (a.whole ≤ 262144)
    × (text_fits (fields_in (shape_of a.code)) a.remark.now ≡ true)
small d =
    let a = d.args in
    sizes a.msb a.numbers.now a.remark.now a.behind.now a.whole (pattern_of 4 a.attribute) a.code d.requires.0

row-requires : tie.Need-row-row-requires
row-requires c κs =
    let d = start c in
    let a = d.args in
    rw c.listing_of.ensures
    (handed-rowed a.msb a.numbers.now a.remark.now a.behind.now a.whole (pattern_of 4 a.attribute) a.code
    d.requires.0)

open-frame-requires : tie.Need-open_frame-requires
open-frame-requires c κs =
    let z = small (start c.before.before) in
    (omega (arith, z.0), (omega (arith, z.0), omega (arith, z.1)))

write-row-requires : tie.Need-write_row-requires
write-row-requires c κs =
    let z = small (start (rowing c).before) in
    rw (rowed (rowing c)) (z.2, omega (arith, z.0))

copy-requires : tie.Need-copy-requires
copy-requires c κs = let z = small (before-copy c) in (omega arith, omega (arith, z.0))

put-tail-requires : tie.Need-put_tail-requires
put-tail-requires c κs = let z = small (before-tail c) in (omega (arith, z.0), omega arith, omega (arith, z.1))

returns : tie.Need-returns
returns c =
    let tail = c.before.before in
    let copied = tail.before.before.before.before in
    let wrote = copied.before.before.before.before in
    let opened = wrote.before.before.before.before.before in
    let r = opened.before.before in
    let d = start r.before in
    let a = d.args in
    rw (
      tail.put_tail.ensures,
      copied.copy.ensures,
      wrote.write_row.ensures,
      opened.open_frame.ensures,
      rowed r,
      to_z-of_z {w = w32} {z = a.attribute} d.ranges.attribute,
      take-length a.behind.now,
    )
    (put a.msb a.numbers.now a.remark.now a.behind.now a.whole (pattern_of 4 a.attribute) a.code d.requires.0
    a.out.now)

pub put_tuple_spec : {M : Type 1} → statement M
put_tuple_spec =
    tie.close
    (tie.spec
    (λ c κs. search rules)
    row-requires
    open-frame-requires
    (λ c. search rules)
    write-row-requires
    (λ c. omega (arith, (small (before-copy c)).0))
    (λ c. omega (arith, (small (before-copy c)).0))
    copy-requires
    put-tail-requires
    (λ c. search rules)
    returns)
