-- The bytes around a tuple's data, as the functions that write a tuple put them. Assumes nothing.
use Rattle.std.specs.Prelude.{ℕ, ◌-◌, Bool, List, ◌++◌}
use Rattle.order.specs.Order.{bytes_of}

-- of a tuple of n bytes and type k: before its data, data size and type; and so with its fields, before its characters or samples
unfoldable pub open_bytes : Bool → ℕ → ℕ → List ℕ
open_bytes o n k = bytes_of o 4 (n - 10) ++ bytes_of o 2 k

unfoldable pub opening_bytes : Bool → ℕ → ℕ → List ℕ → List ℕ
opening_bytes o n k fields = open_bytes o n k ++ fields

-- behind them, where the attribute is a: attribute and backlink
unfoldable pub close_bytes : Bool → ℕ → ℕ → List ℕ
close_bytes o n a = bytes_of o 4 a ++ bytes_of o 4 n
