-- `hexlines::single::print` meets its contract: what is printed of the normal form of one tuple is what its answer says. Assumes nothing.
use mathlib.Core.Path.{sym}
use borrow.Author.Rules.{rules}
use Rattle.order.proofs.Laws.{bytes_of_lem}
use Rattle.hexlines.specs.Lines.{bytes}
use Rattle.hexlines.specs.Programs.{tuple_program}
use Rattle.hexlines.proofs.Stores.{put_same}
use Rattle.layout.specs.Views.{as_answer}
use Rattle.hexlines.proofs.Programs.{Answered, tuple-answered}
use Rattle.hexlines.proofs.single.print.Statement.{statement}
use Rattle.hexlines.proofs.single.print.Tie as tie

answers : (c : tie.After-normalise_tuple-answer)
    → Answered (tuple_program (bytes c.args.file.now)) (as_answer c.normalise_tuple-answer.result)
    c.normalise_tuple-answer.new.out
answers c =
    let known = c.before.before.before in
    let file = known.args.file.now in
    tuple-answered file _ _ (bytes_of_lem file (λ i. (known.shared_slice_known-1.given i).fits)) (sym c.space-form.ensures) _
    c.normalise_tuple-answer.ensures

print-answer-requires : tie.Need-print_answer-requires
print-answer-requires c κs =
    let n = c.before.before.before in (n.requires, (answers n).ready)

returns : tie.Need-returns
returns c = let printed = c.before.before in
    put_same (answers printed.before.before.before.before).says printed.print_answer.ensures

pub print_spec : {M : Type 1} → statement M
print_spec =
    tie.close
    (tie.spec
    (λ c κs. search rules)
    (λ c. search rules)
    (λ c κs. search rules)
    (λ c. search rules)
    print-answer-requires
    (λ c. search rules)
    returns)
