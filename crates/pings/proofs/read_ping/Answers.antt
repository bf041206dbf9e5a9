-- `pings::read_ping` meets its contract: the refusal of what opens the ping, or its fields. Assumes nothing.
use Rattle.std.proofs.Common.{ap}
use Rattle.std.proofs.lemmas.Result.{err_from_is_err_and}
use Rattle.layout.specs.Answers.{tells}
use Rattle.layout.specs.Answer.{Answer}
use Rattle.pings.specs.Fields.{answered, ping_fields}
use Rattle.pings.proofs.Fielding.{read-fields}
use Rattle.pings.proofs.read_ping.Goals as goal

pub returns-in_err-found : goal.returns-in_err-found
returns-in_err-found c =
    let a = c.args in
    let p = err_from_is_err_and c.from_residual.result c.from_residual.ensures.1 in
    let e = rw c.in_err-found.was at c.open_ping.ensures in
    rw (p.1, p.2) (record { answer = tells e; outcome = ap (λ (x : Answer). answered x (ping_fields a.file.now a.place)) e })

pub fields_at-requires : goal.fields_at-requires
fields_at-requires c = rw c.in_ok-found.was at c.open_ping.ensures

pub returns : goal.returns
returns c =
    let r = rw c.in_ok-found.was at c.open_ping.ensures in
    read-fields r _ c.fields_at.ensures
