-- The fields of a listing in the code's tables. Assumes nothing.
use Rattle.std.specs.Prelude.{ℕ, List, [], get_or}
use Rattle.layout.specs.Fields.{Field}
use Rattle.layout.specs.inner.Codes.{fields_of, row_codes}

abbrev pub listed_fields : ℕ → List Field
listed_fields listing = fields_of (get_or row_codes listing [])
