-- The listed pings of a file and their channels are the same with private tuples put in, each ping at its new place; and so are the
-- energies and the readings that are told of them. Assumes nothing.
use mathlib.Core.Path.{◌≡◌, refl, sym, ap, ap₂, ◌∙◌}
use mathlib.Core.Bool.{Bool, true, false, not, ◌||◌}
use mathlib.Core.List.{List, [], ◌∷◌, ◌++◌, map, map-append, map-map}
use mathlib.Core.Option.{Option, some, none}
use Prim.Native.Nat.{ℕ, ◌+◌}
use native.Mathlib.Omega.{arith}
use borrow.Author.Tests.{eqb-true, eqb-false}
use lib.Dec.{eqb, ltb}
use lib.ListN.{length, length-map}
use Rattle.rules.specs.Rules.{◌⇒◌, first_of}
use Rattle.layout.specs.declared.Counts.{Counts}
use Rattle.layout.specs.Answer.{Answer}
use Rattle.layout.specs.Answer.{Accepted, Refused}
use Rattle.layout.specs.Families.{Family}
use Rattle.frame.specs.Frames.{Tup, length_of}
use Rattle.links.specs.Links.{Digest, Links, start, note}
use Rattle.links.proofs.Linked.{note-nothing}
use Rattle.samples.specs.Words.{Sample}
use Rattle.content.specs.Items.{Item, plain, ping, raw, item_of, digest}
use Rattle.intake.specs.Check.{writing}
use Rattle.quantities.specs.declared.Quantity.{Quantity}
use Rattle.quantities.specs.Quantities.{quantity_of, has_angles}
use Rattle.linear.specs.Linear.{first_outside, total}
use Rattle.linked.specs.Linked.{Linked, linked_here, linked_from, linked_of, standing, Sought, sought_by, sought_in, sought_at}
use Rattle.linked.proofs.Places.{stands_here, stands-later}
use Rattle.energy.specs.Echo.{Echo}
use Rattle.energy.specs.Echo as echo
use Rattle.energy.specs.Energy.{is_sv, values_in, echo_by, echo_sought, energy_at, sum_in, code_in, places_of, energies_of, codes_of}
use Rattle.energy.specs.Energy.{room_rules, behind_check, energies_answer}
use Rattle.readings.specs.Readings.{answer_sought, readings_answer, window_sought, window_at}
use Rattle.readings.specs.Reading.{has_readings}
use Rattle.partners.specs.Private.{Part, own, put, own_of, all_of, put_in, AllPrivate, parts_of, Mixed, moved}
use Rattle.partners.specs.Answers.{more, answer_moved, linked_moved, echo_moved, extra, Both}
use Rattle.partners.proofs.Shapes.{private-item, private-digest}
use Rattle.partners.proofs.Places.{Follows, at_own, past-own, past-put, moved-begin, moved_none, moved_apart}
use Rattle.partners.proofs.Files.{all-private, order-own, order-all, tuples-own, tuples-all}

-- ---- the list of them
module _ (o : Bool) (to : ℕ → ℕ) where
  here-moved : (s : Links) (at : ℕ) {q : ℕ} → to at ≡ q → (i : Option Item) → linked_here s q i ≡ map (linked_moved to) (linked_here s at i)
  here-moved s at e none = refl
  here-moved s at e (some (plain k vs)) = refl
  here-moved s at e (some (ping q)) = rw e
  here-moved s at e (some (raw k d)) = refl

  pub linked_on : (ps : List Part) → AllPrivate (put_in ps) → (s : Links) {at d : ℕ} → Follows to ps at d
      → linked_from o s (at + d) (all_of ps) ≡ map (linked_moved to) (linked_from o s at (own_of ps))
  unfolding linked_from
  linked_on [] v s h = refl
  linked_on (own t ∷ ps) v s {at} {d} h =
      let k = note s (digest o t) in
      let e : at + d + length_of t ≡ at + length_of t + d = omega arith in
      ap₂ ◌++◌ (here-moved s at (at_own h) (item_of o t))
      (ap (λ (q : ℕ). linked_from o k q (all_of ps)) e ∙ linked_on ps v k (past-own h))
      ∙ sym (map-append (linked_moved to) (linked_here s at (item_of o t)) (linked_from o k (at + length_of t) (own_of ps)))
  linked_on (put x ∷ ps) v s {at} {d} h =
      let e : at + d + length_of x ≡ at + (d + length_of x) = omega arith in
      ap₂ (λ (i : Option Item) (k : Digest). linked_here s (at + d) i ++ linked_from o (note s k) (at + d + length_of x) (all_of ps))
      (private-item o x v.0) (private-digest o x v.0)
      ∙ ap₂ (λ (k : Links) (q : ℕ). linked_from o k q (all_of ps)) (note-nothing s) e
      ∙ linked_on ps v.1 s (past-put h)

-- the one at a place moves with it
option_moved : (ℕ → ℕ) → Option Linked → Option Linked
option_moved to none = none
option_moved to (some l) = some (linked_moved to l)

standing-moved : (to : ℕ → ℕ) → ((p q : ℕ) → (p ≡ q → ⊥) → to p ≡ to q → ⊥) → (p : ℕ) (ls : List Linked)
    → standing (to p) (map (linked_moved to) ls) ≡ option_moved to (standing p ls)
unfolding standing option_moved
standing-moved to apart p [] = refl
standing-moved to apart p (l ∷ ls) = by (eqb l.place p) refl (standing-moved to apart p ls)
  where
    by : (b : Bool) → eqb l.place p ≡ b → standing (to p) (map (linked_moved to) ls) ≡ option_moved to (standing p ls)
        → standing (to p) (linked_moved to l ∷ map (linked_moved to) ls) ≡ option_moved to (standing p (l ∷ ls))
    by true e r =
        let h = eqb-true l.place p e in
        stands_here (linked_moved to l) (map (linked_moved to) ls) (to p) (ap to h) ∙ sym (ap (option_moved to) (stands_here l ls p h))
    by false e r =
        let h = eqb-false l.place p e in
        stands-later (linked_moved to l) (map (linked_moved to) ls) (to p) (apart l.place p h)
        ∙ r
        ∙ sym (ap (option_moved to) (stands-later l ls p h))

-- ---- what is told of it: the same, with its new place
module _ (to : ℕ → ℕ) (k : ℕ) (p : ℕ) (n : Counts) where
  echo_at : (at : ℕ) (x : Quantity) (f : Family) (s : List Sample) → echo_by (to at) x f s (more k n) ≡ echo_moved to k (echo_by at x f s n)
  unfolding echo_by
  echo_at at x f s = by (has_angles f || not (is_sv x)) (ltb (first_outside f (values_in f s)) (length (values_in f s)))
    where
      by : (a b : Bool)
          → first_of ((a ⇒ echo.Refused 28 (to at)) ∷ (b ⇒ echo.Refused 29 (first_outside f (values_in f s))) ∷ [])
          (echo.Sum (total f (values_in f s)) (more k n))
          ≡ echo_moved to k (first_of ((a ⇒ echo.Refused 28 at) ∷ (b ⇒ echo.Refused 29 (first_outside f (values_in f s))) ∷ [])
          (echo.Sum (total f (values_in f s)) n))
      by true b = refl
      by false true = refl
      by false false = refl

  echo_moved_lem : (l : Option Linked)
      → echo_sought (sought_by (to p) (more k n) (option_moved to l)) ≡ echo_moved to k (echo_sought (sought_by p n l))
  unfolding option_moved
  echo_moved_lem none = refl
  echo_moved_lem (some l) = echo_at l.place (quantity_of l.channel) l.ping.family l.ping.samples

  answer-moved : (many : ℕ) (l : Option Linked)
      → answer_sought many (sought_by (to p) (more k n) (option_moved to l)) ≡ answer_moved to k (answer_sought many (sought_by p n l))
  unfolding option_moved
  answer-moved many none = refl
  answer-moved many (some l) = by (not (has_readings (quantity_of l.channel) l.ping.family))
    where
      by : (a : Bool)
          → first_of ((a ⇒ Refused 30 (to l.place)) ∷ []) (Accepted (writing (more k n) many))
          ≡ answer_moved to k (first_of ((a ⇒ Refused 30 l.place) ∷ []) (Accepted (writing n many)))
      by true = refl
      by false = refl

  window-moved : (first many : ℕ) (l : Option Linked)
      → window_sought first many (sought_by (to p) (more k n) (option_moved to l)) ≡ window_sought first many (sought_by p n l)
  unfolding option_moved
  window-moved first many none = refl
  window-moved first many (some l) = refl

sum_moved : (to : ℕ → ℕ) (k : ℕ) (e : Echo) → sum_in (echo_moved to k e) ≡ sum_in e
sum_moved to k (echo.Sum e n) = refl
sum_moved to k (echo.Refused c p) = refl

code-moved : (to : ℕ → ℕ) (k : ℕ) (e : Echo) → code_in (echo_moved to k e) ≡ code_in e
code-moved to k (echo.Sum e n) = refl
code-moved to k (echo.Refused c p) = refl

-- 19 at 0 where slices are too short
pub room_moved : (to : ℕ → ℕ) → to 0 ≡ 0 → (k many : ℕ) (n : Counts) (b : Bool)
    → first_of ((b ⇒ Refused 19 0) ∷ []) (Accepted (writing (more k n) many))
    ≡ answer_moved to k (first_of ((b ⇒ Refused 19 0) ∷ []) (Accepted (writing n many)))
room_moved to z k many n true = ap (Refused 19) (sym z)
room_moved to z k many n false = refl

-- ---- of two files
module _ {f g : List ℕ} (m : Mixed f g) where
  pub pings : linked_of g ≡ map (linked_moved (moved m)) (linked_of f)
  unfolding linked_of
  pings =
      ap₂ (λ (o : Bool) (ts : List Tup). linked_from o start 4 ts) (order-all m) (tuples-all m)
      ∙ linked_on m.msb (moved m) (parts_of m) (all-private m) start (moved-begin m)
      ∙ sym (ap₂ (λ (o : Bool) (ts : List Tup). map (linked_moved (moved m)) (linked_from o start 4 ts)) (order-own m) (tuples-own m))

  module _ (b : Both m) where
    -- ---- asking for one: found at its new place, or 9 there
    sought-own : (p : ℕ) → sought_at f p ≡ sought_by p b.counts (standing p (linked_of f))
    unfolding sought_at
    sought-own p = ap (sought_in f p) b.without

    sought-all : (p : ℕ)
        → sought_at g (moved m p)
        ≡ sought_by (moved m p) (more (extra m) b.counts) (option_moved (moved m) (standing p (linked_of f)))
    unfolding sought_at
    sought-all p =
        ap (sought_in g (moved m p)) b.within
        ∙ ap (sought_by (moved m p) (more (extra m) b.counts))
        (ap (standing (moved m p)) pings ∙ standing-moved (moved m) (moved_apart m) p (linked_of f))

    -- ---- energies: of one ping, and of all
    pub energy : (p : ℕ) → energy_at g (moved m p) ≡ echo_moved (moved m) (extra m) (energy_at f p)
    unfolding energy_at
    energy p =
        ap echo_sought (sought-all p)
        ∙ echo_moved_lem (moved m) (extra m) p b.counts (standing p (linked_of f))
        ∙ sym (ap (λ (s : Sought). echo_moved (moved m) (extra m) (echo_sought s)) (sought-own p))

    pub places : places_of g ≡ map (moved m) (places_of f)
    unfolding places_of
    places =
        ap (map (λ (l : Linked). l.place)) pings
        ∙ map-map (λ (l : Linked). l.place) (linked_moved (moved m)) (linked_of f)
        ∙ sym (map-map (moved m) (λ (l : Linked). l.place) (linked_of f))

    told : (part : Echo → ℕ) → ((e : Echo) → part (echo_moved (moved m) (extra m) e) ≡ part e)
        → map (λ (p : ℕ). part (energy_at g p)) (places_of g) ≡ map (λ (p : ℕ). part (energy_at f p)) (places_of f)
    told part stays =
        ap (map (λ (p : ℕ). part (energy_at g p))) places
        ∙ map-map (λ (p : ℕ). part (energy_at g p)) (moved m) (places_of f)
        ∙ each (places_of f)
      where
        each : (ps : List ℕ) → map (λ (p : ℕ). part (energy_at g (moved m p))) ps ≡ map (λ (p : ℕ). part (energy_at f p)) ps
        each [] = refl
        each (p ∷ ps) = ap₂ ◌∷◌ (ap part (energy p) ∙ stays (energy_at f p)) (each ps)

    pub energies : energies_of g ≡ energies_of f
    unfolding energies_of
    energies = told sum_in (sum_moved (moved m) (extra m))

    pub codes : codes_of g ≡ codes_of f
    unfolding codes_of
    codes = told code_in (code-moved (moved m) (extra m))

    pub many-pings : length (linked_of g) ≡ length (linked_of f)
    many-pings = ap length pings ∙ length-map (linked_of f) (linked_moved (moved m))

    pub energies-answer : (x y z : ℕ) → energies_answer g x y z ≡ answer_moved (moved m) (extra m) (energies_answer f x y z)
    unfolding energies_answer
    energies-answer x y z =
        ap (behind_check g x y z) b.within
        ∙ ap (λ (n : ℕ). first_of (room_rules n x y z) (Accepted (writing (more (extra m) b.counts) n))) many-pings
        ∙ (let n = length (linked_of f) in room_moved (moved m) (moved_none m) (extra m) n b.counts (ltb x n || (ltb y n || ltb z n)))
        ∙ sym (ap (λ (a : Answer). answer_moved (moved m) (extra m) (behind_check f x y z a)) b.without)

    -- ---- readings
    pub readings-answer : (p many : ℕ) → readings_answer g (moved m p) many ≡ answer_moved (moved m) (extra m) (readings_answer f p many)
    unfolding readings_answer
    readings-answer p many =
        ap (answer_sought many) (sought-all p)
        ∙ answer-moved (moved m) (extra m) p b.counts many (standing p (linked_of f))
        ∙ sym (ap (λ (s : Sought). answer_moved (moved m) (extra m) (answer_sought many s)) (sought-own p))

    pub window : (p first many : ℕ) → window_at g (moved m p) first many ≡ window_at f p first many
    unfolding window_at
    window p first many =
        ap (window_sought first many) (sought-all p)
        ∙ window-moved (moved m) (extra m) p b.counts first many (standing p (linked_of f))
        ∙ sym (ap (window_sought first many) (sought-own p))
