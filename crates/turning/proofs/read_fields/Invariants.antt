-- The numbers that the loop has yet to read, read, make the whole.
use Rattle.std.proofs.Common.{drop}
use Rattle.std.proofs.lemmas.List.Edits.{sets}
use Rattle.layout.specs.inner.Codes.{fields_of}
use Rattle.turning.specs.Rows.{values_of, numbers_in}
use Rattle.turning.proofs.Taking.{Untaken}
use Rattle.turning.proofs.read_fields.Given as goal

abbrev pub invariant-loop-code : goal.invariant-loop-code
invariant-loop-code l =
    Untaken l.msb l.src l.row l.fn.numbers (sets l.fn.numbers l.to (numbers_in (values_of l.msb (fields_of l.row) (drop l.at l.src))))
    l.numbers l.code-index l.next l.from
