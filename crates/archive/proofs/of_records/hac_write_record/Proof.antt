-- `archive::of_records::hac_write_record` meets its contract, which settles what it says and leaves. Assumes nothing.
use mathlib.Core.Path.{◌≡◌}
use mathlib.Core.Bool.{Bool}
use mathlib.Core.List.{List}
use Prim.Native.Nat.{ℕ}
use borrow.Author.Rules.{rules}
use Rattle.layout.specs.Views.{as_answer}
use Rattle.tuples.specs.Writers.{written-settled}
use Rattle.rows.specs.Writers.{RowWritten}
use Rattle.archive.specs.Saying.{Said, said_settled}
use Rattle.archive.specs.Numbers.{five}
use Rattle.archive.proofs.Saying.{untold, answer-told}
use Rattle.archive.proofs.of_records.hac_write_record.Statement.{statement}
use Rattle.archive.proofs.of_records.hac_write_record.Tie as tie

returns : tie.Need-returns-then-answer-lt-HEAD
returns c =
    let a = c.args in
    untold 0 five (RowWritten a.code a.numbers.now a.text.now a.msb a.out.now) a.answer.now a.out.now
    c.if-answer-lt-HEAD.true

returns-2 : tie.Need-returns
returns-2 c =
    let t = c.before.before in
    let k = t.before.before.before in
    let e = k.before.before.before in
    let a = e.args in
    answer-told (RowWritten a.code a.numbers.now a.text.now a.msb a.out.now) a.answer.now a.out.now
    (as_answer k.write_row.result) _ _ _
    e.if-answer-lt-HEAD.false k.write_row.ensures t.tell_answer.ensures

pub hac_write_record_spec : {M : Type 1} → statement M
hac_write_record_spec =
    tie.close (tie.spec
    returns
    (λ c κs. search rules)
    (λ c κs. search rules)
    (λ c. search rules)
    (λ c. search rules)
    returns-2)

module _ (k : ℕ) (ns t : List ℕ) (o : Bool) (out lent : List ℕ) {c d : ℕ} {left right kept held : List ℕ} where
  pub hac-write-record-settled : Said 0 five (RowWritten k ns t o out) lent out c left kept
      → Said 0 five (RowWritten k ns t o out) lent out d right held
      → (c ≡ d) × (left ≡ right) × (kept ≡ held)
  hac-write-record-settled = said_settled 0 five (RowWritten k ns t o out) lent out (λ x y p q. written-settled p q)
