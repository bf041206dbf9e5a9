-- Files that differ in the signature's identifier alone. Assumes nothing.
use Rattle.std.specs.Prelude.{ℕ, Bool, List, ◌∷◌, ◌++◌}
use Rattle.order.specs.Order.{bytes_of}
use Rattle.frame.specs.Frames.{Tup, frames}
use Rattle.frame.specs.Files.{mark}

-- a signature with an identifier, and what stands behind it in its data
abbrev pub signature : Bool → ℕ → List ℕ → Tup
signature o n rest = record { kind = 65535; body = bytes_of o 2 n ++ rest }

-- a file in the byte order o that begins with it
abbrev pub spelled : Bool → ℕ → List ℕ → List Tup → List ℕ
spelled o n rest ts = mark o ++ frames o (signature o n rest ∷ ts)
