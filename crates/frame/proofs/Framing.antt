-- The bytes around a tuple's data: how long they are, and that stores one behind the other put them. Assumes nothing.
use mathlib.Core.Path.{◌≡◌, sym, ◌∙◌}
use mathlib.Core.Bool.{Bool}
use mathlib.Core.List.{List}
use Prim.Native.Nat.{ℕ, ◌+◌, ◌-◌}
use native.Mathlib.Omega.{arith}
use lib.ListN.{length, length-append}
use lib.Seq.{sets}
use Rattle.order.specs.Order.{bytes_of}
use Rattle.order.proofs.Laws.{length_bytes_of}
use Rattle.order.proofs.Stores.{stored-behind, store_step}
use Rattle.frame.specs.inner.Framing.{open_bytes, opening_bytes, close_bytes}

pub length_open : (o : Bool) (n k : ℕ) → length (open_bytes o n k) ≡ 6
unfolding open_bytes
length_open o n k = length-append (bytes_of o 4 (n - 10)) (bytes_of o 2 k) ∙ omega (arith, length_bytes_of o 4 (n - 10), length_bytes_of o 2 k)

pub length-opening : (o : Bool) (n k : ℕ) (h : List ℕ) → length (opening_bytes o n k h) ≡ 6 + length h
unfolding opening_bytes
length-opening o n k h = omega (arith, length-append (open_bytes o n k) h, length_open o n k)

module _ (o : Bool) (l : List ℕ) (to n : ℕ) where
  pub open_stored : (k : ℕ) → sets (sets l to (bytes_of o 4 (n - 10))) (to + 4) (bytes_of o 2 k) ≡ sets l to (open_bytes o n k)
  unfolding open_bytes
  open_stored k = sym (store_step o 4 (n - 10) l (bytes_of o 2 k) to)

  pub close_stored : (a : ℕ) → sets (sets l to (bytes_of o 4 a)) (to + 4) (bytes_of o 4 n) ≡ sets l to (close_bytes o n a)
  unfolding close_bytes
  close_stored a = sym (store_step o 4 a l (bytes_of o 4 n) to)

  -- fields behind size and type
  pub opening-stored : (k : ℕ) (h : List ℕ) → sets (sets l to (open_bytes o n k)) (to + 6) h ≡ sets l to (opening_bytes o n k h)
  unfolding opening_bytes
  opening-stored k h = stored-behind (open_bytes o n k) h l to (to + 6) (omega (arith, length_open o n k))
