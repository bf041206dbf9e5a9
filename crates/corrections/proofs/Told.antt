-- What finding a ping hands back is settled by what the views say of it, and so by its promise. Assumes nothing.
use mathlib.Core.Path.{◌≡◌, refl, ap, ap₂}
use mathlib.Core.List.{List, [], ◌∷◌}
use Prim.Native.Nat.{ℕ}
use lib.ListN.{get_or}
use Rattle.std.specs.Prelude.{Result, Ok, Err, Option, Some, None}
use Rattle.layout.specs.declared.Refusal.{Refusal}
use Rattle.layout.specs.declared.SoftwareChannel.{SoftwareChannel}
use Rattle.layout.proofs.Told.{refusal_by, refusal_back, same_seen}
use Rattle.corrections.specs.declared.Source.{Source}
use Rattle.corrections.specs.declared.Source.TheVariants.{Deposit, Corrections}
use Rattle.corrections.specs.declared.Span.{Span}
use Rattle.corrections.specs.declared.Held.{Held}
use Rattle.corrections.specs.declared.FileRefusal.{FileRefusal}
use Rattle.corrections.specs.Spot.{Spot, At, Nowhere}
use Rattle.corrections.specs.Found.{Found, Corrected, Deposited, Refused}
use Rattle.corrections.specs.Views.{source_mark, whose_mark, as_spot, held_as, as_found}
use Rattle.corrections.specs.Corrections.{PingFound, found-settled}

-- ---- a file by its mark; 0 is neither's
abbrev source_by : ℕ → Source
source_by m = get_or (Deposit ∷ Deposit ∷ Corrections ∷ []) m Deposit

source_back : (s : Source) → source_by (source_mark s) ≡ s
source_back Deposit = refl
source_back Corrections = refl

pub same_source : (s t : Source) → source_mark s ≡ source_mark t → s ≡ t
same_source = same_seen source_mark source_by source_back

abbrev whose_by : ℕ → Option Source
whose_by m = get_or (None ∷ Some Deposit ∷ Some Corrections ∷ []) m None

whose_back : (w : Option Source) → whose_by (whose_mark w) ≡ w
whose_back (Some Deposit) = refl
whose_back (Some Corrections) = refl
whose_back None = refl

pub same_whose : (w x : Option Source) → whose_mark w ≡ whose_mark x → w ≡ x
same_whose = same_seen whose_mark whose_by whose_back

-- ---- where a ping stands
abbrev spot_by : Spot → Option Span
spot_by (At a n) = Some (record { from = a; length = n })
spot_by Nowhere = None

spot_back : (r : Option Span) → spot_by (as_spot r) ≡ r
spot_back (Some s) = refl
spot_back None = refl

pub same_spot : (r s : Option Span) → as_spot r ≡ as_spot s → r ≡ s
same_spot = same_seen as_spot spot_by spot_back

-- ---- what is found, and what is held
abbrev found_back_by : Found → Result Held FileRefusal
found_back_by (Corrected a n) = Ok (record { source = Corrections; span = record { from = a; length = n } })
found_back_by (Deposited a n) = Ok (record { source = Deposit; span = record { from = a; length = n } })
found_back_by (Refused m c p) = Err (record { source = whose_by m; refusal = refusal_by c p })

held_back : (s : Source) (b : Span) → found_back_by (held_as s b) ≡ Ok (record { source = s; span = b })
held_back Corrections b = refl
held_back Deposit b = refl

refused_back : (r : FileRefusal) → found_back_by (as_found (Err r)) ≡ Err r
refused_back r =
    ap Err (ap₂ (λ (w : Option Source) (x : Refusal). record { source = w; refusal = x }) (whose_back r.source) (refusal_back r.refusal))

found_back : (r : Result Held FileRefusal) → found_back_by (as_found r) ≡ r
found_back (Ok h) = held_back h.source h.span
found_back (Err r) = refused_back r

pub same_found : (r s : Result Held FileRefusal) → as_found r ≡ as_found s → r ≡ s
same_found = same_seen as_found found_back_by found_back

abbrev held_in : Held → Result Held FileRefusal → Held
held_in g (Ok h) = h
held_in g (Err r) = g

pub same_held : (g h : Held) → held_as g.source g.span ≡ held_as h.source h.span → g ≡ h
same_held g h e = ap (held_in g) (same_found (Ok g) (Ok h) e)

-- ---- two outcomes that the promise allows are one
pub found_told : (d k : List ℕ) (c : SoftwareChannel) (n : ℕ) (r s : Result Held FileRefusal) → PingFound d k c n (as_found r)
    → PingFound d k c n (as_found s) → r ≡ s
found_told d k c n r s p q = same_found r s (found-settled d k c n p q)
