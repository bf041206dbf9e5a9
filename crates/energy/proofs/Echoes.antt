-- Laws of what is told of a ping: by its two rules, of its samples as they are handed over, and in a file. Assumes nothing.
use mathlib.Core.Path.{◌≡◌, refl, sym, ap, ap₂, ◌∙◌}
use mathlib.Core.Bool.{Bool, true, false, not, ◌||◌}
use mathlib.Core.Logic.{inl, inr}
use mathlib.Core.List.{List, [], ◌∷◌}
use mathlib.Core.Option.{Option, none}
use Prim.Native.Nat.{ℕ, ◌-◌, ◌≤◌, ◌<◌}
use native.Mathlib.Omega.{arith}
use borrow.Author.Tests.{lt-ltb, le-ltb}
use lib.Dec.{eqb}
use lib.IntN.{ℤ}
use lib.ListN.{length, take, drop, length-take, length-drop}
use Rattle.rules.specs.Rules.{First}
use Rattle.rules.specs.Rules.First.{none, here, pass}
use Rattle.rules.proofs.Bools.{or_true}
use Rattle.rules.proofs.Laws.{first_eq}
use Rattle.layout.specs.declared.Counts.{Counts}
use Rattle.layout.specs.Answer.{Answer}
use Rattle.layout.specs.Answer.{Accepted}
use Rattle.layout.specs.Answers.{tells}
use Rattle.layout.specs.Families.{Family, wide, narrow, encoded, wide_angles, narrow_angles, value_count}
use Rattle.layout.specs.Types.{Shape, indexed, row, uncompressed, compressed, unlisted, is_ping, shape_of}
use Rattle.layout.proofs.Families.{OfFamily, ping-shape}
use Rattle.order.specs.Order.{signed_of}
use Rattle.samples.specs.Words.{Sample}
use Rattle.samples.specs.Lists.{handed_bytes, values_of}
use Rattle.intake.specs.Check.{check_file}
use Rattle.tuples.specs.Readers.{is_valued}
use Rattle.pings.specs.inner.Handing.{part_samples, part_width}
use Rattle.quantities.specs.declared.Quantity.{Quantity}
use Rattle.quantities.specs.Quantities.{has_angles}
use Rattle.quantities.specs.inner.Codes.{family_in, family_of}
use Rattle.sampling.specs.declared.Span.{Span}
use Rattle.sampling.specs.inner.Walking.{handed_by, handed_left, SpanOf, values_handed}
use Rattle.sampling.proofs.Walking.{span-handed}
use Rattle.linear.specs.Linear.{first_outside, total}
use Rattle.linked.specs.declared.Spot.{Spot}
use Rattle.linked.specs.Linked.{Linked, linked_of, standing, sought_by, sought_in, sought_at}
use Rattle.linked.specs.inner.Here.{FoundPing}
use Rattle.energy.specs.Echo.{Echo}
use Rattle.energy.specs.Echo.{Sum, Refused}
use Rattle.energy.specs.Energy.{is_sv, values_in, echo_rules, echo_by, echo_sought, energy_at, EnergyTold}
use Rattle.energy.specs.inner.Telling.{echo_here}

-- ---- by the rules
module _ (p : ℕ) (x : Quantity) (f : Family) (s : List Sample) (n : Counts) where
  said : {r : Echo} → First (echo_rules p x f (values_in f s)) (Sum (total f (values_in f s)) n) r → r ≡ echo_by p x f s n
  unfolding echo_by
  said w = first_eq w

  pub echo_angles : has_angles f ≡ true → Refused 28 p ≡ echo_by p x f s n
  echo_angles e = said (here (ap (λ (b : Bool). b || not (is_sv x)) e))

  pub echo_other : is_sv x ≡ false → Refused 28 p ≡ echo_by p x f s n
  echo_other e = said (here (or_true (has_angles f) (ap not e)))

  module _ (plain : has_angles f ≡ false) (sv : is_sv x ≡ true) where
    fine : has_angles f || not (is_sv x) ≡ false
    fine = ap₂ (λ (a b : Bool). a || not b) plain sv

    pub echo_outside : {q : ℕ} → first_outside f (values_in f s) < length (values_in f s) → q ≡ first_outside f (values_in f s)
        → Refused 29 q ≡ echo_by p x f s n
    echo_outside h e = rw e (said (pass fine (here (lt-ltb _ _ h))))

    pub echo_sum : {e : ℕ} → first_outside f (values_in f s) ≡ length (values_in f s) → e ≡ total f (values_in f s)
        → Sum e n ≡ echo_by p x f s n
    echo_sum h e =
        let most : length (values_in f s) ≤ first_outside f (values_in f s) = omega (arith, h) in
        rw e (said (pass fine (pass (le-ltb _ _ most) none)))

-- ---- a listed ping has a value in each sample, or angles
one_or_two : (f : Family) → eqb (value_count f) 1 ≡ not (has_angles f)
one_or_two wide = refl
one_or_two narrow = refl
one_or_two encoded = refl
one_or_two wide_angles = refl
one_or_two narrow_angles = refl

pub valued_plain : (k : ℕ) → is_ping k ≡ true → is_valued k ≡ not (has_angles (family_of k))
valued_plain k listed = by (ping-shape k listed)
  where
    by : OfFamily (shape_of k) → is_valued k ≡ not (has_angles (family_of k))
    by (f, inl e) = rw e (one_or_two f)
    by (f, inr e) = rw e (one_or_two f)

-- ---- the values as they are handed over
values-handed : (w : ℕ) (s : List Sample) → values_handed (handed_by w s) ≡ values_of w s
values-handed w [] = refl
values-handed w (x ∷ s) = ap (λ (vs : List ℤ). signed_of w x.1 ∷ vs) (values-handed w s)

width-in : (q : Shape) → part_width q ≡ handed_bytes (family_in q)
width-in indexed = refl
width-in (row fs x) = refl
width-in (uncompressed f) = refl
width-in (compressed f) = refl
width-in unlisted = refl

pub values-here : {k : ℕ} {o : Bool} {part : List ℕ} {r : Span} → SpanOf k o part r
    → values_handed (handed_left (shape_of k) o 0 (take (r.end - r.from) (drop r.from part)))
    ≡ values_in (family_of k) (part_samples (shape_of k) o part)
values-here {k} {o} {part} s =
    ap values_handed (span-handed s)
    ∙ values-handed (part_width (shape_of k)) (part_samples (shape_of k) o part)
    ∙ ap (λ (w : ℕ). values_of w (part_samples (shape_of k) o part)) (width-in (shape_of k))

-- they stand in no more bytes than the part
pub span-short : {k : ℕ} {o : Bool} {part : List ℕ} {r : Span} → SpanOf k o part r → (m : ℕ) → length part ≤ m
    → length (take (r.end - r.from) (drop r.from part)) ≤ m
span-short s m h = simp (length-take, length-drop) (omega arith)

-- ---- in a file
module _ (f : List ℕ) (p : ℕ) where
  pub told-refused : {c q : ℕ} → check_file f ≡ Answer.Refused c q → EnergyTold f p (Refused c q)
  unfolding energy_at sought_at
  told-refused e = tells (sym (ap (λ (a : Answer). echo_sought (sought_in f p a)) e))

  module _ {n : Counts} (a : check_file f ≡ Accepted n) where
    at-standing : {l : Option Linked} → standing p (linked_of f) ≡ l → energy_at f p ≡ echo_sought (sought_by p n l)
    unfolding energy_at sought_at
    at-standing e = ap (λ (r : Answer). echo_sought (sought_in f p r)) a ∙ ap (λ (l : Option Linked). echo_sought (sought_by p n l)) e

    pub told-nowhere : standing p (linked_of f) ≡ none → EnergyTold f p (Refused 9 p)
    told-nowhere e = tells (sym (at-standing e))

    pub found_echo : {x : Spot} → FoundPing f p x → energy_at f p ≡ echo_here f x n
    found_echo g =
        at-standing g.stands ∙ rw (g.place, g.quantity, g.says.family, g.says.samples)
