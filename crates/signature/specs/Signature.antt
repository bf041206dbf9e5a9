-- Made from views/records.txt by views/make.
-- Signature, type 65535: TR Table 18. Its identifier is no field: 44204 and 44201 are read, and 44204 is written. Assumes
-- nothing.
use Rattle.std.specs.Prelude.{◌≡◌, refl, Bool, List, [], ◌∷◌, ℕ, ℤ, pos, Result, Ok, Err}
use Rattle.std.proofs.Common.{sym, ◌∙◌}
use Rattle.layout.specs.declared.Refusal.{Refusal}
use Rattle.layout.specs.Code.{number}
use Rattle.layout.specs.Answer.{Answer, Accepted}
use Rattle.layout.specs.Answer as answer
use Rattle.layout.specs.Answers.{numbers, Tells, accepting}
use Rattle.tuples.specs.Readers.{only, read_answer, row_of}
use Rattle.tuples.specs.Writers.{Written, plain_bytes}
use Rattle.rows.specs.Writers.{row_values}
use Rattle.rows.specs.Integers.{signed_at, unsigned_at, patterns, row_integers, Typed}
use Rattle.signature.specs.declared.Signature.{Signature}
use Rattle.signature.specs.SignatureRead.{SignatureRead, Read, Refused}

-- the integers of the row under the fields' names
abbrev pub signature_of : List ℤ → Signature
signature_of zs =
    record {
      hac_version = unsigned_at zs 0;
      acquisition_software_version = unsigned_at zs 1;
      acquisition_software_identifier = unsigned_at zs 2;
      tuple_attribute = signed_at zs 3;
    }

-- and the fields as the integers of the row
abbrev pub signature_integers : Signature → List ℤ
signature_integers r =
    pos r.hac_version
    ∷ pos r.acquisition_software_version
    ∷ pos r.acquisition_software_identifier
    ∷ r.tuple_attribute
    ∷ []

-- the fields of these integers are those that they were taken from
pub signature_inverse : (r : Signature) → signature_of (signature_integers r) ≡ r
signature_inverse r = refl

-- each field is in the range of its width and sign, as the fields of every value of the struct are
abbrev pub SignatureTyped : Signature → Type 0
SignatureTyped r = Typed (row_of 65535 0) (signature_integers r)

-- ---- reading: what the code gives, in these words
abbrev pub as_read : Result Signature Refusal → SignatureRead
as_read (Ok r) = Read r
as_read (Err r) = Refused (number r.code) r.place

-- 01's answer in each case
abbrev pub answer_of : SignatureRead → Answer
answer_of (Read r) = accepting 1 0
answer_of (Refused c p) = answer.Refused c p

-- what is given for an answer: the record, or the refusal
abbrev pub answered : Answer → Signature → SignatureRead
answered (Accepted n) r = Read r
answered (answer.Refused c p) r = Refused c p

-- the promise: 01's answer, and what is given for it
pub record SignatureAt (f : List ℕ) (p : ℕ) (r : SignatureRead) : Type 0 where
  pub answer : Tells numbers (answer_of r) (read_answer (only 65535) f p)
  pub outcome : r ≡ answered (read_answer (only 65535) f p) (signature_of (row_integers 65535 f p))

-- which settles what is given
pub signature-settled : {f : List ℕ} {p : ℕ} {r t : SignatureRead} → SignatureAt f p r → SignatureAt f p t → r ≡ t
signature-settled a b = a.outcome ∙ sym b.outcome

-- ---- writing: no rule but for room, and the row of the fields
abbrev pub SignatureWritten : Bool → Signature → List ℕ → Answer → List ℕ → Type 0
SignatureWritten o r out a left =
    Written [] (plain_bytes o 65535 (row_values 65535 (patterns (row_of 65535 0) (signature_integers r)) [])) out a left
