-- `archive::of_narrow_writers::hac_write_ce16` meets its contract, which settles what it says and leaves. Assumes nothing.
use mathlib.Core.Path.{◌≡◌, subst}
use mathlib.Core.Bool.{Bool}
use mathlib.Core.List.{List}
use mathlib.Core.Option.{Option}
use Prim.Native.Nat.{ℕ}
use borrow.Author.Rules.{rules}
use lib.IntN.{ℤ}
use Rattle.layout.specs.Views.{as_answer}
use Rattle.layout.specs.Families.{encoded}
use Rattle.tuples.specs.Writers.{written-settled}
use Rattle.pings.specs.declared.PingHeader.{PingHeader}
use Rattle.pings.specs.Headers.{handed_length}
use Rattle.ping_writers.specs.Writers.{WrittenC}
use Rattle.archive.specs.Saying.{Said, said_settled}
use Rattle.archive.specs.Numbers.{five, header_with}
use Rattle.archive.proofs.Saying.{untold, answer-told}
use Rattle.archive.proofs.Pings.{of_same}
use Rattle.archive.proofs.of_narrow_writers.hac_write_ce16.Statement.{statement}
use Rattle.archive.proofs.of_narrow_writers.hac_write_ce16.Tie as tie

returns : tie.Need-returns-then-answer-lt-HEAD
returns c =
    let a = c.args in
    untold 0 five _ a.answer.now a.out.now c.if-answer-lt-HEAD.true

returns-2 : tie.Need-returns
returns-2 c =
    let t = c.before.before in
    let k = t.before.before.before in
    let l = k.before.before.before in
    let g = l.before in
    let e = g.before in
    let s = e.before.before.before.before in
    let a = s.args in
    let header : ℤ → PingHeader = λ z.
    header_with a.time_fraction a.time_cpu a.software_channel_identifier a.transmitter_mode a.ping_number z in
    let W : PingHeader → ℤ → Option ℕ → Type 0 = λ h z n.
    WrittenC encoded a.msb h z a.numbers.now a.values.now n a.out.now (as_answer k.write_ce16.result)
    k.write_ce16.new.out in
    answer-told _ a.answer.now a.out.now (as_answer k.write_ce16.result) _ _ _ e.if-answer-lt-HEAD.false
    (subst (W (header a.detected_bottom_range) a.tuple_attribute) l.handed_length-length.ensures
    (of_same (λ (h : PingHeader) (z : ℤ). W h z (handed_length l.handed_length-length.result)) header s.ranges.detected_bottom_range
    s.ranges.tuple_attribute g.header_of-header.ensures k.write_ce16.ensures))
    t.tell_answer.ensures

pub hac_write_ce16_spec : {M : Type 1} → statement M
hac_write_ce16_spec =
    tie.close
    (tie.spec
    returns
    (λ c κs. search rules)
    (λ c κs. search rules)
    (λ c κs. search rules)
    (λ c κs. search rules)
    (λ c. search rules)
    (λ c. search rules)
    returns-2)

module _ (o : Bool) (h : PingHeader) (a : ℤ) (ns : List ℕ) (vs : List ℤ) (l : Option ℕ) (out lent : List ℕ) {c d : ℕ}
    {left right kept held : List ℕ} where
  pub hac-write-ce16-settled : Said 0 five (WrittenC encoded o h a ns vs l out) lent out c left kept
      → Said 0 five (WrittenC encoded o h a ns vs l out) lent out d right held
      → (c ≡ d) × (left ≡ right) × (kept ≡ held)
  hac-write-ce16-settled = said_settled 0 five (WrittenC encoded o h a ns vs l out) lent out (λ x y p q. written-settled p q)
