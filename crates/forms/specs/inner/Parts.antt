-- The listings by their rows, and the types that a row reads. Assumes nothing.
use Rattle.std.specs.Prelude.{◌≡◌, ℕ, List, [], get_or}
use Rattle.std.proofs.Math.Option.{Option}
use Rattle.layout.specs.Fields.{Field}
use Rattle.layout.specs.Types.{row, shape_of}
use Rattle.layout.specs.inner.Codes.{fields_of, row_codes}

-- the fields of a listing
abbrev pub listed_fields : ℕ → List Field
listed_fields listing = fields_of (get_or row_codes listing [])

-- the listings of the signature and of what declares come first
abbrev pub first_listings : ℕ
first_listings = 5

-- a type that a row reads
pub record Rowed (k : ℕ) : Type 0 where
  pub fields : List Field
  pub text : Option ℕ
  pub shape : shape_of k ≡ row fields text
