-- Laws of sums: what adding up gives is the place of the first value outside, or the total; and a turn of the adding. Assumes nothing.
use mathlib.Core.Path.{◌≡◌, refl, sym, ap, subst, ◌∙◌}
use mathlib.Core.Bool.{Bool, true, false}
use mathlib.Core.List.{List, [], ◌∷◌, ◌++◌}
use Prim.Native.Nat.{ℕ, ◌+◌, ◌*◌, ◌≤◌, ◌<◌}
use native.Mathlib.Nat.{add-zero}
use native.Mathlib.Omega.{arith}
use lib.IntN.{ℤ}
use lib.ListN.{length}
use Rattle.layout.specs.Families.{Family}
use Rattle.layout.specs.Types.{shape_of}
use Rattle.samples.proofs.Runs.{by_bool}
use Rattle.quantities.specs.inner.Codes.{family_of}
use Rattle.tuples.specs.Readers.{is_valued}
use Rattle.sampling.specs.inner.Walking.{width_of, values_left, standing, ValuedTo}
use Rattle.sampling.proofs.Values.{values-end}
use Rattle.linear.specs.Linear.{is_inside, linear_of, first_outside, total}
use Rattle.linear.proofs.Totals.{outside-first, outside-later}
use Rattle.std.specs.Prelude.{Result, Ok, Err, Option, Some, None}
use Rattle.energy.specs.inner.Sums.{summed_from, summed_of}
use Rattle.energy.proofs.Pieces.{value-first}

-- ---- past a value
module _ (f : Family) (v : ℤ) (vs : List ℤ) (i sum : ℕ) where
  summed_out : is_inside f v ≡ false → summed_from f (v ∷ vs) i sum ≡ Err i
  unfolding summed_from
  summed_out e = rw (e, summed_from)

  summed_in : is_inside f v ≡ true → summed_from f (v ∷ vs) i sum ≡ summed_from f vs (i + 1) (sum + linear_of f v)
  unfolding summed_from
  summed_in e = rw (e, summed_from)

-- ---- what all give: the total where none is outside, or the place of the first outside
abbrev pub Tells : Family → List ℤ → ℕ → ℕ → Result ℕ ℕ → Type 0
Tells f vs i sum (Ok t) = (first_outside f vs ≡ length vs) × (t ≡ sum + total f vs)
Tells f vs i sum (Err p) = (first_outside f vs < length vs) × (p ≡ i + first_outside f vs)

pub summed_tells : (f : Family) (vs : List ℤ) (i sum : ℕ) → Tells f vs i sum (summed_from f vs i sum)
unfolding summed_from first_outside total
summed_tells f [] i sum = (refl, sym (add-zero sum))
summed_tells f (v ∷ vs) i sum =
    by_bool (is_inside f v)
    (λ e. subst (Tells f (v ∷ vs) i sum) (sym (summed_in f v vs i sum e))
    (later (outside-later f v vs e) (summed_from f vs (i + 1) (sum + linear_of f v)) (summed_tells f vs (i + 1) (sum + linear_of f v))))
    (λ e. let first = outside-first f v vs e in
    subst (Tells f (v ∷ vs) i sum) (sym (summed_out f v vs i sum e)) (omega (arith, first), omega (arith, first)))
  where
    later : first_outside f (v ∷ vs) ≡ first_outside f vs + 1 → (r : Result ℕ ℕ) → Tells f vs (i + 1) (sum + linear_of f v) r
        → Tells f (v ∷ vs) i sum r
    later e (Ok t) h = (omega (arith, e), omega arith)
    later e (Err p) h = (omega (arith, e), omega (arith, e))

-- ---- a loop that adds up: what is left
pub record Summing (k : ℕ) (o : Bool) (held : List ℕ) (sum nth : ℕ) (rest : List ℕ) : Type 0 where
  pub few : sum ≤ nth * 100000000000000
  pub many : nth + length (values_left (shape_of k) o rest) ≡ length (values_left (shape_of k) o held)
  pub same : summed_from (family_of k) (values_left (shape_of k) o rest) nth sum
      ≡ summed_of (family_of k) (values_left (shape_of k) o held)

pub summing_begin : (k : ℕ) (o : Bool) (held : List ℕ) → Summing k o held 0 0 held
summing_begin k o held = record { few = omega arith; many = omega arith; same = refl }

module _ {k : ℕ} {o : Bool} {held : List ℕ} {sum nth : ℕ} {rest : List ℕ} (g : Summing k o held sum nth rest) where
  abbrev whole : Result ℕ ℕ
  whole = summed_of (family_of k) (values_left (shape_of k) o held)

  -- what is left begins so
  from-here : {vs : List ℤ} → values_left (shape_of k) o rest ≡ vs
      → (nth + length vs ≡ length (values_left (shape_of k) o held)) × (summed_from (family_of k) vs nth sum ≡ whole)
  from-here e = (
    ap (λ (vs : List ℤ). nth + length vs) (sym e) ∙ g.many,
    ap (λ (vs : List ℤ). summed_from (family_of k) vs nth sum) (sym e) ∙ g.same,
  )

  pub summing_done : length rest < width_of (shape_of k) → Ok sum ≡ whole
  unfolding summed_from
  summing_done h = (from-here (values-end (shape_of k) o rest 0 (omega (arith, h)))).1

-- ---- a turn of the loop: the piece that stands first, of the type's width
pub record Turn (k : ℕ) (o : Bool) (held : List ℕ) (sum nth : ℕ) (rest piece behind : List ℕ) (r : Option ℤ) : Type 0 where
  pub before : Summing k o held sum nth rest
  pub parts : rest ≡ piece ++ behind
  pub width : length piece ≡ width_of (shape_of k)
  pub some : 0 < width_of (shape_of k)
  pub valued_type : is_valued k ≡ true
  pub step : ValuedTo k o piece 0 r

pub turn-by : {k : ℕ} {o : Bool} {held : List ℕ} {sum nth w : ℕ} {rest piece behind : List ℕ} {r : Option ℤ}
    → Summing k o held sum nth rest → rest ≡ piece ++ behind → length piece ≡ w → (w ≡ width_of (shape_of k)) × (2 ≤ w) × (w ≤ 8)
    → is_valued k ≡ true → ValuedTo k o piece 0 r
    → Turn k o held sum nth rest piece behind r
turn-by g e l w v s =
    record { before = g; parts = e; width = l ∙ w.0; some = omega (arith, w.0, w.1); valued_type = v; step = s }

module _ {k : ℕ} {o : Bool} {held : List ℕ} {sum nth : ℕ} {rest piece behind : List ℕ} {r : Option ℤ}
    (t : Turn k o held sum nth rest piece behind r) where
  abbrev later : List ℤ
  later = values_left (shape_of k) o behind

  left : (x : Option ℤ) → r ≡ x → values_left (shape_of k) o rest ≡ standing x later
  left x e =
      ap (values_left (shape_of k) o) t.parts
      ∙ value-first k o piece behind t.width t.some t.valued_type r t.step
      ∙ ap (λ (x : Option ℤ). standing x later) e

  -- a run passed
  pub turn-run : r ≡ None → Summing k o held sum nth behind
  turn-run e =
      let here = from-here t.before (left None e) in
      record { few = t.before.few; many = here.0; same = here.1 }

  -- a value: outside, or added
  module _ {v : ℤ} (e : r ≡ Some v) where
    pub turn-stop : is_inside (family_of k) v ≡ false → Err nth ≡ summed_of (family_of k) (values_left (shape_of k) o held)
    turn-stop i = sym (summed_out (family_of k) v later nth sum i) ∙ (from-here t.before (left (Some v) e)).1

    pub turn_more : nth < length (values_left (shape_of k) o held)
    turn_more = omega (arith, (from-here t.before (left (Some v) e)).0)

    pub turn-value : is_inside (family_of k) v ≡ true → {x : ℕ} → x ≡ linear_of (family_of k) v → x ≤ 100000000000000
        → Summing k o held (sum + x) (nth + 1) behind
    turn-value i {x} is small =
        let here = from-here t.before (left (Some v) e) in
        record {
          few = omega (arith, t.before.few);
          many = omega (arith, here.0);
          same = rw is (sym (summed_in (family_of k) v later nth sum i) ∙ here.1);
        }
