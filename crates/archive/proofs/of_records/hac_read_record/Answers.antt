-- `archive::of_records::hac_read_record` meets its contract, which settles what it says and leaves: where the characters stand behind the
-- answer's numbers. Assumes nothing.
use Rattle.std.proofs.Common.{◌≡◌, ap, ◌∙◌, ℕ, List, [], ◌∷◌, ◌++◌, arith}
use lib.Seq.{sets}
use Rattle.rows.specs.Views.{as_row}
use Rattle.layout.specs.Views.{as_answer}
use Rattle.layout.specs.Answer.{Answer}
use Rattle.layout.specs.Answers.{numbers, accepting}
use Rattle.rows.specs.Readers.{answer_numbers, row_fields, RowAt, row_settled}
use Rattle.archive.specs.Saying.{Said, said_settled}
use Rattle.archive.specs.Numbers.{five, told}
use Rattle.archive.proofs.Saying.{untold, told_as}
use Rattle.archive.proofs.of_records.hac_read_record.Goals as goal

pub returns-then-answer-lt-RECORD : goal.returns-then-answer-lt-RECORD
returns-then-answer-lt-RECORD c =
    let a = c.args in
    untold 2 (told answer_numbers row_fields) (RowAt a.code a.file.now a.place a.numbers.now) a.answer.now a.numbers.now
    c.if-answer-lt-RECORD.true

pub returns-in-Ok : goal.returns-in-Ok
returns-in-Ok c =
    let a = c.args in
    let e = ap as_answer c.accept.ensures in
    let x = c.in-Ok.text in
    told_as 2 (told answer_numbers row_fields) (RowAt a.code a.file.now a.place a.numbers.now) a.answer.now a.numbers.now
    (as_row c.read_row.result) (five (accepting 1 0) ++ (x.place ∷ x.length ∷ [])) _ _ _ c.if-answer-lt-RECORD.false (omega arith)
    c.read_row.ensures (ap (told answer_numbers row_fields) (ap as_row c.in-Ok.is))
    (c.tell_found.ensures.value ∙ ap (λ (y : Answer). (numbers y).code) e)
    (c.tell_found.ensures.answer_after ∙ ap (λ (y : Answer). sets a.answer.now 0 (five y ++ (x.place ∷ x.length ∷ []))) e)

pub returns-in-Err : goal.returns-in-Err
returns-in-Err c =
    let a = c.args in
    told_as 2 (told answer_numbers row_fields) (RowAt a.code a.file.now a.place a.numbers.now) a.answer.now a.numbers.now
    (as_row c.read_row.result) _ _ _ _ c.if-answer-lt-RECORD.false (omega arith) c.read_row.ensures
    (ap (told answer_numbers row_fields) (ap as_row c.in-Err.is))
    c.tell_refusal.ensures.value c.tell_refusal.ensures.answer_after

module _ (k : ℕ) (f : List ℕ) (p : ℕ) (ns lent : List ℕ) {c d : ℕ} {left right kept held : List ℕ} where
  pub hac-read-record-settled : Said 2 (told answer_numbers row_fields) (RowAt k f p ns) lent ns c left kept
      → Said 2 (told answer_numbers row_fields) (RowAt k f p ns) lent ns d right held
      → (c ≡ d) × (left ≡ right) × (kept ≡ held)
  hac-read-record-settled = said_settled 2 (told answer_numbers row_fields) (RowAt k f p ns) lent ns (λ a b x y. row_settled x y)
