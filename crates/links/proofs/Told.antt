-- What the code says of a link is settled by what the view says of it. Assumes nothing.
use mathlib.Core.Path.{◌≡◌, refl, ap}
use Prim.Native.Nat.{ℕ}
use Rattle.std.specs.Prelude.{Result, Ok, Err}
use Rattle.layout.specs.declared.Flaw.{Flaw}
use Rattle.layout.proofs.Told.{flaw_by, flaw_back, same_seen}
use Rattle.links.specs.inner.LinkVerdict.{LinkVerdict, Faulty, Linked}
use Rattle.links.specs.inner.Views.{as_linked}

abbrev linked_by : LinkVerdict → Result ℕ Flaw
linked_by (Linked n) = Ok n
linked_by (Faulty c p) = Err (flaw_by c p)

linked_back : (r : Result ℕ Flaw) → linked_by (as_linked r) ≡ r
linked_back (Ok n) = refl
linked_back (Err b) = ap Err (flaw_back b)

pub same_linked : (r s : Result ℕ Flaw) → as_linked r ≡ as_linked s → r ≡ s
same_linked = same_seen as_linked linked_by linked_back
