-- Runs of bytes stored one behind the other are one run: those of a normal form are its bytes. Assumes nothing.
use mathlib.Core.Path.{◌≡◌, ap, ◌∙◌}
use mathlib.Core.Bool.{Bool, false}
use mathlib.Core.List.{List, [], ◌∷◌, ◌++◌}
use Prim.Native.Nat.{ℕ, suc, ◌+◌}
use native.Mathlib.Omega.{arith}
use lib.ListN.{length, set, length-append}
use lib.Seq.{sets}
use Rattle.order.specs.Order.{bytes_of}
use Rattle.order.proofs.Laws.{length_bytes_of}
use Rattle.order.proofs.Stores.{stored-behind}
use Rattle.frame.specs.inner.Framing.{open_bytes, opening_bytes, close_bytes}
use Rattle.frame.proofs.Framing.{length_open, length-opening}
use Rattle.samples.proofs.Turning.{set_past}

-- a run before another, which was stored first
pub stored-before : (x y l : List ℕ) (i q : ℕ) → q ≡ i + length x → sets (sets l q y) i x ≡ sets l i (x ++ y)
stored-before [] y l i q e = let z : i + 0 ≡ i = omega arith in ap (λ (j : ℕ). sets l j y) (e ∙ z)
stored-before (a ∷ x) y l i q e =
    ap (λ (k : List ℕ). sets k (suc i) x) (set_past y l i q a (omega arith)) ∙ stored-before x y (set l i a) (suc i) q (omega arith)

pub length_close : (o : Bool) (n a : ℕ) → length (close_bytes o n a) ≡ 8
unfolding close_bytes
length_close o n a = length-append (bytes_of o 4 a) (bytes_of o 4 n) ∙ omega (arith, length_bytes_of o 4 a, length_bytes_of o 4 n)

-- what follows the fields stands at p, attribute and backlink at q
module _ (out : List ℕ) (to n k : ℕ) where
  pub closed : (h m : List ℕ) (a p q : ℕ) → p ≡ to + 6 + length h → q ≡ p + length m
      → sets (sets (sets out to (opening_bytes false n k h)) p m) q (close_bytes false n a)
      ≡ sets out to (opening_bytes false n k h ++ (m ++ close_bytes false n a))
  closed h m a p q e f =
      stored-behind m (close_bytes false n a) (sets out to (opening_bytes false n k h)) p q f
      ∙ stored-behind (opening_bytes false n k h) (m ++ close_bytes false n a) out to p (omega (arith, length-opening false n k h))

  -- an unlisted tuple's data, and the backlink
  pub enclosed : (d : List ℕ) (p : ℕ) → p ≡ to + 6 + length d
      → sets (sets (sets out to (open_bytes false n k)) (to + 6) d) p (bytes_of false 4 n)
      ≡ sets out to (open_bytes false n k ++ (d ++ bytes_of false 4 n))
  enclosed d p e =
      stored-behind d (bytes_of false 4 n) (sets out to (open_bytes false n k)) (to + 6) p e
      ∙ stored-behind (open_bytes false n k) (d ++ bytes_of false 4 n) out to (to + 6) (omega (arith, length_open false n k))
