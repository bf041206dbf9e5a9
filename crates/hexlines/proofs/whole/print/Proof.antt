-- `hexlines::whole::print` meets its contract: what is printed of a file's normal form is what its answer says. Assumes nothing.
use mathlib.Core.Path.{sym}
use borrow.Author.Rules.{rules}
use Rattle.order.proofs.Laws.{bytes_of_lem}
use Rattle.hexlines.specs.Lines.{bytes}
use Rattle.hexlines.specs.Programs.{file_program}
use Rattle.hexlines.proofs.Stores.{put_same}
use Rattle.layout.specs.Views.{as_answer}
use Rattle.hexlines.proofs.Programs.{Answered, file-answered}
use Rattle.hexlines.proofs.whole.print.Statement.{statement}
use Rattle.hexlines.proofs.whole.print.Tie as tie

answers : (c : tie.After-normalise-answer)
    → Answered (file_program (bytes c.args.file.now)) (as_answer c.normalise-answer.result)
    c.normalise-answer.new.out
answers c =
    let known = c.before.before.before in
    let file = known.args.file.now in
    file-answered file _ _ (bytes_of_lem file (λ i. (known.shared_slice_known-1.given i).fits)) (sym c.space-form.ensures) _
    c.normalise-answer.ensures

print-answer-requires : tie.Need-print_answer-requires
print-answer-requires c κs =
    let n = c.before.before.before in (n.requires, (answers n).ready)

returns : tie.Need-returns
returns c = let printed = c.before.before in
    put_same (answers printed.before.before.before.before).says printed.print_answer.ensures

pub print_spec : {M : Type 1} → statement M
print_spec =
    tie.close
    (tie.spec
    (λ c κs. search rules)
    (λ c. search rules)
    (λ c κs. search rules)
    (λ c. search rules)
    print-answer-requires
    (λ c. search rules)
    returns)
