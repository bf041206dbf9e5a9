-- `archive::of_narrow_writers::hac_write_u16_angles` meets its contract, which settles what it says and leaves. Assumes nothing.
use mathlib.Core.Path.{◌≡◌}
use mathlib.Core.Bool.{Bool}
use mathlib.Core.List.{List}
use Prim.Native.Nat.{ℕ}
use borrow.Author.Rules.{rules}
use lib.IntN.{ℤ}
use Rattle.layout.specs.Views.{as_answer}
use Rattle.layout.specs.Families.{narrow_angles}
use Rattle.tuples.specs.Writers.{written-settled}
use Rattle.pings.specs.declared.PingHeader.{PingHeader}
use Rattle.ping_writers.specs.Writers.{WrittenA}
use Rattle.archive.specs.Saying.{Said, said_settled}
use Rattle.archive.specs.Numbers.{five, header_with}
use Rattle.archive.proofs.Saying.{untold, answer-told}
use Rattle.archive.proofs.Pings.{of_same}
use Rattle.archive.proofs.of_narrow_writers.hac_write_u16_angles.Statement.{statement}
use Rattle.archive.proofs.of_narrow_writers.hac_write_u16_angles.Tie as tie

returns : tie.Need-returns-then-answer-lt-HEAD
returns c =
    let a = c.args in
    untold 0 five _ a.answer.now a.out.now c.if-answer-lt-HEAD.true

returns-2 : tie.Need-returns
returns-2 c =
    let t = c.before.before in
    let k = t.before.before.before in
    let g = k.before.before.before in
    let e = g.before in
    let s = e.before.before.before.before in
    let a = s.args in
    answer-told _ a.answer.now a.out.now (as_answer k.write_u16_angles.result) _ _ _ e.if-answer-lt-HEAD.false
    (of_same
    (λ (h : PingHeader) (z : ℤ).
    WrittenA narrow_angles a.msb h z a.numbers.now a.alongship.now a.athwartship.now a.out.now
    (as_answer k.write_u16_angles.result) k.write_u16_angles.new.out)
    (header_with a.time_fraction a.time_cpu a.software_channel_identifier a.transmitter_mode a.ping_number)
    s.ranges.detected_bottom_range s.ranges.tuple_attribute g.header_of-header.ensures k.write_u16_angles.ensures)
    t.tell_answer.ensures

pub hac_write_u16_angles_spec : {M : Type 1} → statement M
hac_write_u16_angles_spec =
    tie.close
    (tie.spec
    returns
    (λ c κs. search rules)
    (λ c κs. search rules)
    (λ c κs. search rules)
    (λ c. search rules)
    (λ c. search rules)
    returns-2)

module _ (o : Bool) (h : PingHeader) (a : ℤ) (ns : List ℕ) (xs ys : List ℤ) (out lent : List ℕ) {c d : ℕ}
    {left right kept held : List ℕ} where
  pub hac-write-u16-angles-settled : Said 0 five (WrittenA narrow_angles o h a ns xs ys out) lent out c left kept
      → Said 0 five (WrittenA narrow_angles o h a ns xs ys out) lent out d right held
      → (c ≡ d) × (left ≡ right) × (kept ≡ held)
  hac-write-u16-angles-settled = said_settled 0 five (WrittenA narrow_angles o h a ns xs ys out) lent out (λ x y p q. written-settled p q)
