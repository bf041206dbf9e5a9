-- What is left of the row at a code, turned, makes the whole.
use Rattle.std.proofs.Common.{drop}
use Rattle.std.proofs.lemmas.List.Edits.{sets}
use Rattle.layout.specs.inner.Codes.{fields_of}
use Rattle.turning.specs.Rows.{turned}
use Rattle.turning.proofs.Turned.{Left}
use Rattle.turning.proofs.turn_fields.Given as goal

abbrev pub invariant-loop-code : goal.invariant-loop-code
invariant-loop-code l =
    Left l.msb l.src l.row l.fn.out (sets l.fn.out l.to (turned l.msb (fields_of l.row) (drop l.at l.src))) l.out l.code-index l.from l.into
