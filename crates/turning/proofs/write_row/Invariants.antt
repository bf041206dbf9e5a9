-- The fields that the loop has yet to write, written, make the whole.
use Rattle.std.proofs.Common.{◌≡◌, ◌+◌, ◌≤◌, true, length, drop}
use Rattle.std.proofs.lemmas.List.Edits.{sets}
use Rattle.layout.specs.Fields.{size}
use Rattle.layout.specs.inner.Codes.{fields_of}
use Rattle.turning.specs.Rows.{woven, encode}
use Rattle.turning.specs.inner.Codes.{text_fits}
use Rattle.turning.proofs.write_row.Given as goal

abbrev pub invariant-loop-code : goal.invariant-loop-code
invariant-loop-code l =
    let left = fields_of (drop l.code-index l.row) in
    record {
      same : length l.out ≡ length l.fn.out;
      fits : text_fits left l.text ≡ true;
      room : l.into + size left ≤ length l.fn.out;
      few : l.next ≤ l.code-index;
      rest : sets l.out l.into (encode l.msb left (woven left (drop l.next l.numbers) l.text))
          ≡ sets l.fn.out l.to (encode l.msb (fields_of l.row) (woven (fields_of l.row) l.numbers l.text));
    }
