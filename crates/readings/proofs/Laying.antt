-- Readings laid one by one over silence are the window's, where sample numbers rise; and what is handed over. Assumes nothing.
use mathlib.Core.Path.{◌≡◌, refl, sym, ap, ap₂, ◌∙◌}
use mathlib.Core.Bool.{Bool}
use mathlib.Core.List.{List, [], ◌∷◌, map}
use mathlib.Core.Option.{Option, some, none}
use Rattle.std.specs.Prelude as std
use Rattle.std.specs.Prelude.{Some, None}
use Prim.Native.Nat.{ℕ, zero, suc, ◌+◌, ◌-◌, ◌≤◌, ◌<◌}
use native.Mathlib.Nat.{not-suc-le-zero, le_of_suc-le-suc}
use native.Mathlib.Omega.{arith}
use borrow.Author.Tests.{eqb-true, eqb-false, le-leb, lt-leb, leb-true, leb-false}
use lib.Dec.{eqb, leb}
use lib.Ieee.{Float}
use lib.IntN.{ℤ}
use lib.ListN.{length, take, drop, get_or, set, replicate, length-set, length-replicate, length-map, get_or-replicate, get_or-map}
use lib.Seq.{get_or-set_same, get_or-set_other, ext_get_or}
use Rattle.order.specs.Order.{signed_of}
use Rattle.layout.specs.Families.{Family}
use Rattle.layout.specs.Types.{shape_of}
use Rattle.samples.specs.Words.{Sample}
use Rattle.samples.specs.Lists.{handed_bytes}
use Rattle.samples.proofs.Runs.{by_bool}
use Rattle.samples.proofs.Rising.{Rising}
use Rattle.pings.specs.inner.Handing.{part_samples}
use Rattle.quantities.specs.declared.Quantity.{Quantity}
use Rattle.quantities.specs.inner.Codes.{family_of}
use Rattle.sampling.specs.inner.Walking.{Handed, handed_by, width_of, handed_left, SpanOf, standing, stepped, SteppedTo}
use Rattle.sampling.specs.declared.Span.{Span}
use Rattle.sampling.specs.declared.Stepped.{Stepped}
use Rattle.sampling.proofs.Walking.{span-handed}
use Rattle.readings.specs.declared.Reading.{Reading}
use Rattle.readings.specs.declared.Reading.TheVariants.{Silent, Volts, Sv, Ts}
use Rattle.readings.specs.Double.{double_of}
use Rattle.readings.specs.Reading.{divisor_of, cased, reading_of, case_in, double_in}
use Rattle.readings.specs.Readings.{value_at, reading_by, readings_from, shown}
use Rattle.readings.specs.inner.Laying.{put, laid, shown_by, shown_all}
use Rattle.readings.proofs.Units.{width-in}
use Rattle.readings.proofs.Windows.{value-here, value-later, value_before, window, nth}

-- ---- one reading
module _ {A : Type 0} (first : ℕ) (out : List A) (i : ℕ) (a : A) where
  pub put-inside : first ≤ i → put first out i a ≡ set out (i - first) a
  unfolding put
  put-inside h = rw (le-leb first i h, put)

  pub put-before : i < first → put first out i a ≡ out
  unfolding put
  put-before h = rw (lt-leb first i h, put)

  pub length-put : length (put first out i a) ≡ length out
  length-put =
      by_bool (leb first i)
      (λ t. ap length (put-inside (leb-true first i t)) ∙ length-set out (i - first) a)
      (λ t. ap length (put-before (omega (arith, leb-false first i t))))

  -- at its own number, and at any other
  put_same : (j : ℕ) (d : A) → j < length out → i ≡ first + j → get_or (put first out i a) j d ≡ a
  put_same j d h e =
      let z : i - first ≡ j = omega arith in
      ap (λ (l : List A). get_or l j d) (put-inside (omega arith) ∙ ap (λ (k : ℕ). set out k a) z) ∙ get_or-set_same out j a d h

  put_other : (j : ℕ) (d : A) → (i ≡ first + j → ⊥) → get_or (put first out i a) j d ≡ get_or out j d
  put_other j d h =
      by_bool (leb first i)
      (λ t. let l = leb-true first i t in
      ap (λ (l : List A). get_or l j d) (put-inside l) ∙ get_or-set_other out (i - first) j a d (λ z. h (omega arith)))
      (λ t. ap (λ (l : List A). get_or l j d) (put-before (omega (arith, leb-false first i t))))

-- ---- all of them
module _ {A : Type 0} (g : ℤ → A) (first : ℕ) where
  pub length-laid : (s : List Handed) (out : List A) → length (laid g first out s) ≡ length out
  unfolding laid
  length-laid [] out = refl
  length-laid (x ∷ s) out = length-laid s (put first out x.0 (g x.1)) ∙ length-put first out x.0 (g x.1)

  pub laid_one : (x : Handed) (s : List Handed) (out : List A) → laid g first out (x ∷ s) ≡ laid g first (put first out x.0 (g x.1)) s
  unfolding laid
  laid_one x s out = refl

  -- at an entry stands what is made of the value of its number; where there is none, what stood there
  abbrev laid_by : ℕ → A → Option ℕ → A
  laid_by w a none = a
  laid_by w a (some v) = g (signed_of w v)

  laid-at : (w : ℕ) (s : List Sample) (n : ℕ) → Rising n s → (out : List A) (i : ℕ) (d : A) → i < length out
      → get_or (laid g first out (handed_by w s)) i d ≡ laid_by w (get_or out i d) (value_at (first + i) s)
  laid-at w [] n r out i d h = unfold laid value_at in refl
  laid-at w (x ∷ s) n r out i d h =
      let a = g (signed_of w x.1) in
      let next = put first out x.0 a in
      let behind = laid-at w s (x.0 + 1) r.1 next i d (omega (arith, length-put first out x.0 a)) in
      by_bool (eqb x.0 (first + i))
      (λ t.
      let e = eqb-true x.0 (first + i) t in
      ap (λ (l : List A). get_or l i d) (laid_one _ (handed_by w s) out)
      ∙ behind
      ∙ ap (laid_by w (get_or next i d)) (value_before s (first + i) (x.0 + 1) (omega arith) r.1)
      ∙ put_same first out x.0 a i d h e
      ∙ ap (laid_by w (get_or out i d)) (sym (value-here (first + i) x s t)))
      (λ t.
      ap (λ (l : List A). get_or l i d) (laid_one _ (handed_by w s) out)
      ∙ behind
      ∙ ap (λ (y : A). laid_by w y (value_at (first + i) s)) (put_other first out x.0 a i d (eqb-false x.0 (first + i) t))
      ∙ ap (laid_by w (get_or out i d)) (sym (value-later (first + i) x s t)))

-- ---- over silence: in numbers h of each reading
module _ {A : Type 0} (h : Reading → A) (x : Quantity) (f : Family) (s : List Sample) (r : Rising 0 s) (first n : ℕ) where
  g : ℤ → A
  g v = h (reading_of x f v)

  laid_as : (o : Option ℕ) → laid_by g first (handed_bytes f) (h Silent) o ≡ h (reading_by x f o)
  unfolding g
  laid_as none = refl
  laid_as (some v) = refl

  pub laid-window : laid (λ v. h (reading_of x f v)) first (replicate n (h Silent)) (handed_by (handed_bytes f) s)
      ≡ map h (readings_from x f s first n)
  unfolding g
  laid-window =
      let w = readings_from x f s first n in
      let over = replicate n (h Silent) in
      let long = length-laid g first (handed_by (handed_bytes f) s) over ∙ length-replicate n (h Silent) in
      ext_get_or (h Silent) _ _ (long ∙ sym (length-map w h ∙ window x f s first n))
      (λ i l.
      let k : i < n = omega (arith, long) in
      laid-at g first (handed_bytes f) s 0 r over i (h Silent) (omega (arith, length-replicate n (h Silent)))
      ∙ ap (λ (y : A). laid_by g first (handed_bytes f) y (value_at (first + i) s)) (get_or-replicate n i (h Silent) (h Silent) k)
      ∙ laid_as (value_at (first + i) s)
      ∙ ap h (sym (nth x f s first n i k))
      ∙ sym (get_or-map h w i Silent))

-- ---- a step over samples: what it lays, and what is left behind it
module _ {A : Type 0} (g : ℤ → A) (first : ℕ) where
  pub laid_none : (out : List A) (r : Stepped) → r.sample ≡ None → laid g first out (stepped r []) ≡ out
  unfolding laid
  laid_none out r e = ap (λ (x : std.Option Handed). laid g first out (standing x [])) e

  pub laid_sample : (out : List A) (r : Stepped) {x : Handed} → r.sample ≡ Some x
      → laid g first out (stepped r []) ≡ put first out x.0 (g x.1)
  unfolding laid
  laid_sample out r e = ap (λ (x : std.Option Handed). laid g first out (standing x [])) e

  pub laid-step : (out : List A) (r : Stepped) (left : List Handed)
      → laid g first (laid g first out (stepped r [])) left ≡ laid g first out (stepped r left)
  unfolding laid
  laid-step out r left = by r.sample
    where
      by : (x : std.Option Handed) → laid g first (laid g first out (standing x [])) left ≡ laid g first out (standing x left)
      by (Some x) = refl
      by None = refl

  -- where nothing is left, all is laid
  pub laid-all : {out all : List A} {left : List Handed} → left ≡ [] → laid g first out left ≡ all → out ≡ all
  unfolding laid
  laid-all {out} e h = sym (ap (laid g first out) e) ∙ h

-- a turn of the loop over samples: in numbers h of each reading, what is left is still to be laid
module _ {A : Type 0} (h : Reading → A) (x : Quantity) {k : ℕ} {o : Bool} {held : List ℕ} {at number : ℕ} {r : Stepped}
    (s : SteppedTo k o held at number r) where
  abbrev made : ℕ → ℤ → A
  made d v = h (cased x (double_of v d))

  abbrev left_at : ℕ → ℕ → List Handed
  left_at n p = handed_left (shape_of k) o n (drop p held)

  pub laid-turn : {width divisor : ℕ} → width ≡ width_of (shape_of k) → divisor ≡ divisor_of x (family_of k)
      → (first : ℕ) (out : List A) {next : List A} → next ≡ laid (λ v. h (cased x (double_of v divisor))) first out (stepped r [])
      → laid (λ v. h (reading_of x (family_of k) v)) first next (handed_left (shape_of k) o r.next (drop (at + width) held))
      ≡ laid (λ v. h (reading_of x (family_of k) v)) first out (handed_left (shape_of k) o number (drop at held))
  laid-turn w d first out e =
      let g = made (divisor_of x (family_of k)) in
      ap₂ (λ (l : List A) (n : ℕ). laid g first l (left_at r.next (at + n)))
      (e ∙ ap (λ (n : ℕ). laid (made n) first out (stepped r [])) d) w
      ∙ laid-step g first out r (left_at r.next (at + width_of (shape_of k)))
      ∙ ap (laid g first out) (sym s.left)

-- the samples of a ping's part laid over silence: the part's window
pub filled-window : {A : Type 0} (h : Reading → A) (x : Quantity) {k : ℕ} {o : Bool} {part : List ℕ} {r : Span} → SpanOf k o part r
    → Rising 0 (part_samples (shape_of k) o part) → (first n : ℕ) {over out : List A} → over ≡ replicate n (h Silent)
    → out ≡ laid (λ v. h (reading_of x (family_of k) v)) first over
    (handed_left (shape_of k) o 0 (take (r.end - r.from) (drop r.from part)))
    → out ≡ map h (readings_from x (family_of k) (part_samples (shape_of k) o part) first n)
filled-window h x {k} {o} {part} s rising first n silent e =
    e
    ∙ ap₂ (laid (λ v. h (reading_of x (family_of k) v)) first) silent
    (span-handed s ∙ ap (λ (w : ℕ). handed_by w (part_samples (shape_of k) o part)) (width-in (shape_of k)))
    ∙ laid-window h x (family_of k) (part_samples (shape_of k) o part) rising first n

-- ---- a page: a reading for each case and double
pub length-shown : (cs : List ℕ) (ds : List Float) {n : ℕ} → length cs ≡ n → length ds ≡ n → length (shown_all cs ds) ≡ n
unfolding shown_all
length-shown [] ds e h = e
length-shown (c ∷ cs) [] e h = absurd (omega (arith, e, h))
length-shown (c ∷ cs) (d ∷ ds) e h =
    let same : length cs ≡ length ds = omega (arith, e, h) in
    ap suc (length-shown cs ds refl (sym same)) ∙ e

pub shown-at : (x : Float) (cs : List ℕ) (ds : List Float) (i : ℕ) → i < length cs → i < length ds
    → get_or (shown_all cs ds) i (shown Silent) ≡ shown_by (get_or cs i 0) (get_or ds i x)
unfolding shown_all
shown-at x [] ds i h k = absurd (not-suc-le-zero h)
shown-at x (c ∷ cs) [] i h k = absurd (not-suc-le-zero k)
shown-at x (c ∷ cs) (d ∷ ds) zero h k = refl
shown-at x (c ∷ cs) (d ∷ ds) (suc i) h k = shown-at x cs ds i (le_of_suc-le-suc h) (le_of_suc-le-suc k)

-- readings are found again from their numbers
found-again : (x : Reading) → shown_by (case_in x) (double_in x) ≡ shown x
found-again Silent = refl
found-again (Volts x) = refl
found-again (Sv x) = refl
found-again (Ts x) = refl

pub shown-again : (w : List Reading) → shown_all (map case_in w) (map double_in w) ≡ map shown w
unfolding shown_all
shown-again [] = refl
shown-again (x ∷ w) = λ i. found-again x i ∷ shown-again w i
