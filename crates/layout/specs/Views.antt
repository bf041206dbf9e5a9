-- What the code hands back, in the words of these definitions: a code as its number. Assumes nothing.
use Rattle.std.specs.Prelude.{Result, Ok, Err, ⊤}
use Rattle.layout.specs.declared.Counts.{Counts}
use Rattle.layout.specs.declared.Refusal.{Refusal}
use Rattle.layout.specs.declared.Flaw.{Flaw}
use Rattle.layout.specs.Code.{number}
use Rattle.layout.specs.Answer.{Answer, Accepted, Refused}
use Rattle.layout.specs.Verdict.{Verdict, Fine}
use Rattle.layout.specs.Verdict

abbrev pub as_answer : Result Counts Refusal → Answer
as_answer (Ok n) = Accepted n
as_answer (Err r) = Refused (number r.code) r.place

abbrev pub as_verdict : Result ⊤ Flaw → Verdict
as_verdict (Ok _) = Fine
as_verdict (Err b) = Verdict.Fault (number b.code) b.offset
