-- What energies mean: no sum passes 64 bits, and equal content gives equal energies. Assumes nothing.
use mathlib.Core.Path.{◌≡◌, refl, sym, subst, ◌∙◌}
use mathlib.Core.Bool.{Bool, true, false, not, ◌||◌}
use mathlib.Core.List.{List, [], ◌∷◌}
use mathlib.Core.Option.{Option, some, none}
use Prim.Native.Nat.{ℕ, zero, suc, ◌+◌, ◌-◌, ◌^◌, ◌≤◌, ◌<◌}
use native.Mathlib.Omega.{arith}
use borrow.Author.Tests.{eqb-true, eqb-false, ltb-true, ltb-false}
use lib.Dec.{ltb, eqb}
use lib.ListN.{length, drop, length-map}
use Rattle.rules.specs.Rules.{◌⇒◌, first_of}
use Rattle.rules.proofs.Laws.{clear}
use Rattle.layout.specs.declared.Counts.{Counts}
use Rattle.layout.specs.Answer.{Answer}
use Rattle.layout.specs.Answer.{Accepted}
use Rattle.layout.specs.Families.{Family}
use Rattle.layout.specs.Types.{is_ping}
use Rattle.frame.specs.Frames.{len_at, kind_at}
use Rattle.frame.specs.Files.{is_msb}
use Rattle.samples.specs.Words.{Sample}
use Rattle.samples.proofs.Runs.{by_bool}
use Rattle.intake.specs.Check.{check_file}
use Rattle.intake.specs.inner.Sound.{Accepts}
use Rattle.quantities.specs.declared.Quantity.{Quantity}
use Rattle.quantities.specs.Quantities.{quantity_of, has_angles}
use Rattle.linear.specs.Linear.{first_outside, total}
use Rattle.linear.proofs.Totals.{total-within}
use Rattle.linked.specs.Linked.{Linked, linked_of, standing, sought, sought_by, sought_in, sought_at}
use Rattle.linked.proofs.Places.{stands_here, stands-later}
use Rattle.linked.proofs.Along.{Telling, telling-begin, telling-done, telling-less, telling-other, telling-ping, telling-stop}
use Rattle.linked.proofs.Along.{linked-at, linked-part, linked-says}
use Rattle.energy.specs.Echo.{Echo}
use Rattle.energy.specs.Echo.{Sum, Refused}
use Rattle.std.specs.Prelude.{Result, Ok, Err}
use Rattle.energy.specs.Energy.{is_sv, values_in, echo_rules, echo_by, echo_sought, energy_at, sum_in, code_in, EnergyTold}
use Rattle.energy.specs.Results.{Energies}
use Rattle.energy.specs.inner.Sums.{summed_of}
use Rattle.energy.proofs.Sums.{Tells, summed_tells}

-- ---- a linked ping of an accepted file has at most 32,764 samples
module _ (f : List ℕ) (p : ℕ) (l : Linked) (e : standing p (linked_of f) ≡ some l) where
  few-from : (room : ℕ) (o : Bool) (at : ℕ) → length f - at < room → Telling (standing p) (standing p (linked_of f)) f o at
      → length l.ping.samples ≤ 32764
  unfolding standing
  few-from zero o at h g = absurd (omega arith)
  few-from (suc room) o at h g =
      by_bool (ltb at (length f))
      (λ t. turn (few-from room) (ltb-true at (length f) t))
      (λ t. absurd (never (telling-done g (ltb-false at (length f) t) ∙ e)))
    where
      never : ◌≡◌ {A = Option Linked} none (some l) → ⊥
      never x = let z : ◌≡◌ {A = ℕ} 0 1 = cc in omega arith

      n : ℕ
      n = len_at o (drop at f)

      k : ℕ
      k = kind_at o (drop at f)

      turn : ((o : Bool) (at : ℕ) → length f - at < room → Telling (standing p) (standing p (linked_of f)) f o at
          → length l.ping.samples ≤ 32764)
          → at < length f → length l.ping.samples ≤ 32764
      turn later z =
          let less : length f - (at + n) < room = omega (arith, telling-less g z n refl) in
          by_bool (is_ping k)
          (λ t. let it = linked-at g z n k refl refl t in
          by_bool (eqb it.place p)
          (λ q.
          let same : it ≡ l = same_some (telling-stop g z n k refl refl t (some it) (λ ls. stands_here it ls p (eqb-true _ _ q)) ∙ e) in
          subst (λ (x : Linked). length x.ping.samples ≤ 32764) same
          (rw (linked-says g z n k refl refl t).samples (linked-part g z n k refl refl t).few))
          (λ q. later o (at + n) less (telling-ping g z n k refl refl t (standing p) (λ ls. stands-later it ls p (eqb-false _ _ q)))))
          (λ t. later o (at + n) less (telling-other g z n k refl refl t))
        where
          same_some : {a b : Linked} → ◌≡◌ {A = Option Linked} (some a) (some b) → a ≡ b
          same_some x = cc

  few-standing : Accepts f → length l.ping.samples ≤ 32764
  few-standing a = few-from (length f + 1) (is_msb f) 4 (omega arith) (telling-begin (standing p) f (is_msb f) a refl)

-- ---- a sum that is told is the total of values of which none is outside
is_sum : Echo → Bool
is_sum (Sum e n) = true
is_sum (Refused c p) = false

sum_within : (p : ℕ) (x : Quantity) (f : Family) (s : List Sample) (n : Counts) {e : ℕ} {m : Counts} → echo_by p x f s n ≡ Sum e m
    → length s ≤ 32764
    → e < 2 ^ 64
unfolding echo_by is_sum
sum_within p x f s n {e} {m} h few =
    let vs = values_in f s in
    let c = clear is_sum (echo_rules p x f vs) (Sum (total f vs) n) (Sum e m) (refl, (refl, tt)) h refl in
    let none : first_outside f vs ≡ length vs = by (summed_of f vs) (summed_tells f vs 0 0) (ltb-false _ _ c.0.1.0) in
    let is : total f vs ≡ e = cc in
    rw (← is) (total-within f vs none (simp length-map few))
  where
    by : (r : Result ℕ ℕ) → Tells f (values_in f s) 0 0 r → length (values_in f s) ≤ first_outside f (values_in f s)
        → first_outside f (values_in f s) ≡ length (values_in f s)
    by (Ok t) g h = g.0
    by (Err q) g h = absurd (omega arith)

refused_sum : {c q e : ℕ} {n : Counts} → Refused c q ≡ Sum e n → ⊥
refused_sum x = let z : ◌≡◌ {A = ℕ} 0 1 = cc in omega arith

most : (f : List ℕ) (p e : ℕ) (n : Counts) → EnergyTold f p (Sum e n) → e < 2 ^ 64
unfolding energy_at sought_at
most f p e n t = by_answer (check_file f) refl (sym t.is)
  where
    by-standing : {i : Counts} → check_file f ≡ Accepted i → (l : Option Linked) → standing p (linked_of f) ≡ l
        → echo_sought (sought_by p i l) ≡ Sum e n → e < 2 ^ 64
    by-standing a none z h = absurd (refused_sum h)
    by-standing a (some l) z h = sum_within _ _ _ _ _ h (few-standing f p l z (record { counts = _; answer = a }))

    by_answer : (r : Answer) → check_file f ≡ r → echo_sought (sought_in f p r) ≡ Sum e n → e < 2 ^ 64
    by_answer (Accepted i) a h = by-standing a (standing p (linked_of f)) refl h
    by_answer (Answer.Refused c q) a h = absurd (refused_sum h)

-- ---- what is told hangs on the content
abbrev told_by : Bool → Bool → ℕ → ℕ → ℕ → Counts → Echo
told_by a b place first units n = first_of ((a ⇒ Refused 28 place) ∷ (b ⇒ Refused 29 first) ∷ []) (Sum units n)

told-alike : (a b : Bool) (first units p q : ℕ) (i j : Counts)
    → (sum_in (told_by a b p first units i) ≡ sum_in (told_by a b q first units j))
    × (code_in (told_by a b p first units i) ≡ code_in (told_by a b q first units j))
told-alike true b first units p q i j = (refl, refl)
told-alike false true first units p q i j = (refl, refl)
told-alike false false first units p q i j = (refl, refl)

told_same : (x : Quantity) (f : Family) (s : List Sample) (p q : ℕ) (i j : Counts)
    → (sum_in (echo_by p x f s i) ≡ sum_in (echo_by q x f s j)) × (code_in (echo_by p x f s i) ≡ code_in (echo_by q x f s j))
unfolding echo_by
told_same x f s p q i j =
    let vs = values_in f s in
    told-alike (has_angles f || not (is_sv x)) (ltb (first_outside f vs) (length vs)) (first_outside f vs) (total f vs) p q i j

same : (f g : List ℕ) (p q : ℕ) (l m : Linked) (i j : Counts) → sought_at f p ≡ sought l i → sought_at g q ≡ sought m j
    → l.ping ≡ m.ping
    → quantity_of l.channel ≡ quantity_of m.channel
    → (sum_in (energy_at f p) ≡ sum_in (energy_at g q)) × (code_in (energy_at f p) ≡ code_in (energy_at g q))
unfolding energy_at
same f g p q l m i j a b c d =
    let z = told_same (quantity_of m.channel) m.ping.family m.ping.samples l.place m.place i j in
    rw (a, b, c, d) z

pub energies : Energies
energies = record { most = most; same = same }
