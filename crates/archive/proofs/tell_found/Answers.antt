-- `archive::tell_found` meets its contract: the fields behind the answer's numbers. Assumes nothing.
use Rattle.std.proofs.Common.{refl}
use Rattle.layout.specs.Views.{as_answer}
use Rattle.archive.specs.Saying.{head}
use Rattle.archive.specs.Numbers.{five}
use Rattle.archive.proofs.Telling.{told-behind}
use Rattle.archive.proofs.tell_found.Goals as goal

pub returns-clause-answer_after : goal.returns-clause-answer_after
returns-clause-answer_after c =
    let a = c.args in
    told-behind (five (as_answer a.said)) a.fields.now a.answer.now head refl c.tell_answer-code.ensures.answer_after c.tell.ensures
