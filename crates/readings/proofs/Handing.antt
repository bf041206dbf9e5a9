-- Readings handed over: a refusal leaves both slices, and the first entries hold the window. Assumes nothing.
use mathlib.Core.Path.{◌≡◌, refl, sym, ap, ap₂, subst, ◌∙◌}
use mathlib.Core.Bool.{true, false, not, true≢false}
use mathlib.Core.List.{List, [], ◌∷◌, ◌++◌, map, append-nil}
use mathlib.Core.Option.{none}
use Prim.Native.Nat.{ℕ, zero, suc, ◌-◌, ◌≤◌}
use native.Mathlib.Omega.{arith}
use lib.Ieee.{Float}
use lib.ListN.{length, take, drop, replicate, length-map, length-replicate}
use lib.Seq.{length-take-le}
use Rattle.rules.specs.Rules.{◌⇒◌, first_of}
use Rattle.layout.specs.Answer.{Answer}
use Rattle.layout.specs.Answer.{Accepted, Refused}
use Rattle.layout.specs.declared.Counts.{Counts}
use Rattle.layout.specs.Views.{as_answer}
use Rattle.layout.specs.Answers.{numbers, Tells, tells, left_by, is_accepted}
use Rattle.intake.specs.Check.{check_file, writing}
use Rattle.quantities.specs.inner.Codes.{family_of}
use Rattle.linked.specs.declared.Spot.{Spot}
use Rattle.linked.specs.Linked.{linked_of, standing, Sought, sought, refused, sought_by, sought_in, sought_at}
use Rattle.linked.specs.inner.Here.{FoundPing}
use Rattle.readings.specs.declared.Page.{Page}
use Rattle.readings.specs.declared.Reading.{Reading}
use Rattle.readings.specs.declared.Reading.TheVariants.{Silent}
use Rattle.readings.specs.Reading.{has_readings, case_in, double_in, no_double}
use Rattle.readings.specs.Readings.{readings_from, shorter, answer_sought, readings_answer, window_sought, window_at, ReadingsTold}
use Rattle.readings.specs.Readings.{page_size, page_by, PageTold}
use Rattle.readings.specs.inner.Laying.{spot_answer, spot_window, HandedOver, shown_all}
use Rattle.readings.proofs.Windows.{window, shorter-min}
use Rattle.readings.proofs.Laying.{shown-again}

-- ---- of a linked ping, by its bytes
-- the first entries of both slices are as many
pub same_parts : (n : ℕ) (cs : List ℕ) (ds : List Float) → n ≤ length cs → n ≤ length ds
    → length (take (n - 0) cs) ≡ length (take (n - 0) ds)
same_parts n cs ds h k = omega (arith, length-take-le (n - 0) cs (omega arith), length-take-le (n - 0) ds (omega arith))

module _ {f : List ℕ} (x : Spot) (c : Counts) (first : ℕ) where
  -- 30 at the ping
  pub refused_over : has_readings x.quantity (family_of x.code) ≡ false → (cs : List ℕ) (ds : List Float)
      → {a : Answer} → a ≡ Refused 30 x.at → HandedOver f x c first cs ds a cs ds
  refused_over has cs ds e = record { answer = rw has e; cases = rw has; doubles = rw has }

  -- as many as both slices have entries
  pub handed-over : has_readings x.quantity (family_of x.code) ≡ true → (cs : List ℕ) (ds : List Float)
      → {n : ℕ} → n ≡ shorter (length cs) (length ds) → n ≤ length cs
      → {us : List ℕ} → us ≡ map case_in (spot_window f x first (length (take (n - 0) cs)))
      → {vs : List Float} → vs ≡ map double_in (spot_window f x first (length (take (n - 0) cs)))
      → HandedOver f x c first cs ds (Accepted (writing c n)) (us ++ drop (n - 0) cs) (vs ++ drop (n - 0) ds)
  handed-over has cs ds {n} en low eu ev =
      let m = shorter (length cs) (length ds) in
      let w = spot_window f x first m in
      let many : length (take (n - 0) cs) ≡ m = length-take-le (n - 0) cs (omega arith) ∙ omega (arith, en) in
      let long : length w ≡ m = window _ _ _ first m in
      let rest : n - 0 ≡ length w = omega (arith, en, long) in
      record {
        answer = rw has (ap (λ (i : ℕ). Accepted (writing c i)) en);
        cases = rw (has, eu, many, rest, length-map w case_in);
        doubles = rw (has, ev, many, rest, length-map w double_in);
      }

-- ---- of the ping at a place
module _ (f : List ℕ) (p first : ℕ) (cs : List ℕ) (ds : List Float) where
  -- refused as asking for it is
  told-refused : {c q : ℕ} → sought_at f p ≡ refused c q → {r : Answer} → r ≡ Refused c q → ReadingsTold f p first cs ds r cs ds
  unfolding readings_answer window_at
  told-refused e h = record { answer = rw e (tells h); cases = rw e; doubles = rw e }

  pub told_unchecked : {c q : ℕ} → check_file f ≡ Refused c q → {r : Answer} → r ≡ Refused c q → ReadingsTold f p first cs ds r cs ds
  unfolding sought_at
  told_unchecked e h = told-refused (ap (sought_in f p) e) h

  module _ {c : Counts} (accepted : check_file f ≡ Accepted c) where
    sought_as : sought_at f p ≡ sought_by p c (standing p (linked_of f))
    unfolding sought_at
    sought_as = ap (sought_in f p) accepted

    pub told-nowhere : standing p (linked_of f) ≡ none → {r : Answer} → r ≡ Refused 9 p → ReadingsTold f p first cs ds r cs ds
    told-nowhere e h = told-refused (sought_as ∙ ap (sought_by p c) e) h

    module _ {x : Spot} (g : FoundPing f p x) where
      sought-it : sought_at f p ≡ sought g.linked c
      sought-it = sought_as ∙ ap (sought_by p c) g.stands

      same_answer : (n : ℕ) → readings_answer f p n ≡ spot_answer x c n
      unfolding readings_answer
      same_answer n =
          ap (answer_sought n) sought-it
          ∙ (λ i. first_of ((not (has_readings (g.quantity i) (g.says.family i)) ⇒ Refused 30 (g.place i)) ∷ []) (Accepted (writing c n)))

      same-window : (n : ℕ) → window_at f p first n ≡ spot_window f x first n
      unfolding window_at
      same-window n =
          ap (window_sought first n) sought-it
          ∙ (λ i. readings_from (g.quantity i) (g.says.family i) (g.says.samples i) first n)

      -- handed over as its bytes say
      pub told-found : {r : Answer} {us : List ℕ} {vs : List Float} → HandedOver f x c first cs ds r us vs
          → ReadingsTold f p first cs ds r us vs
      told-found h =
          let n = shorter (length cs) (length ds) in
          record {
            answer = tells (h.answer ∙ sym (same_answer n));
            cases = h.cases ∙ sym (λ i. left_by (same_answer n i) (map case_in (same-window n i)) cs);
            doubles = h.doubles ∙ sym (λ i. left_by (same_answer n i) (map double_in (same-window n i)) ds);
          }

-- ---- a page
-- an acceptance has a reading for each of its numbers
accepted-long : (first n : ℕ) (s : Sought) → is_accepted (answer_sought n s) ≡ true → length (window_sought first n s) ≡ n
accepted-long first n (sought l c) e = window _ _ _ first n
accepted-long first n (refused c p) e = absurd (true≢false (sym e))

module _ {A : Type 0} (h : Reading → A) where
  all-silent : (n : ℕ) → replicate n (h Silent) ≡ map h (replicate n Silent)
  all-silent zero = refl
  all-silent (suc n) = ap (λ (l : List A). h Silent ∷ l) (all-silent n)

  page_of : (a : Answer) (w : List Reading) → (is_accepted a ≡ true → length w ≡ page_size)
      → left_by a (map h w) (replicate page_size (h Silent)) ≡ map h (page_by a w)
  page_of (Accepted n) w long =
      let past : drop (length (map h w)) (replicate page_size (h Silent)) ≡ [] =
      ap (λ (m : ℕ). drop m (replicate page_size (h Silent))) (length-map w h ∙ long refl) in
      ap (λ (l : List A). map h w ++ l) past ∙ append-nil (map h w)
  page_of (Refused c p) w long = all-silent page_size

pub page_told : (f : List ℕ) (p first : ℕ) {us : List ℕ} {vs : List Float} {r : Page}
    → ReadingsTold f p first (replicate page_size 0) (replicate page_size no_double) (as_answer r.answer) us vs → r.readings ≡ shown_all us vs
    → PageTold f p first r
page_told f p first {us} {vs} {r} t e =
    let many : shorter (length (replicate {A = ℕ} page_size 0)) (length (replicate page_size no_double)) ≡ page_size =
    ap₂ shorter (length-replicate {A = ℕ} page_size 0) (length-replicate page_size no_double)
    ∙ sym (shorter-min page_size page_size) ∙ omega arith in
    let answer = readings_answer f p page_size in
    let readings = window_at f p first page_size in
    let long : is_accepted (readings_answer f p page_size) ≡ true → length (window_at f p first page_size) ≡ page_size =
    unfold readings_answer window_at in accepted-long first page_size (sought_at f p) in
    let w = page_by answer readings in
    let eu : us ≡ map case_in w =
    t.cases
    ∙ ap (λ (m : ℕ). left_by (readings_answer f p m) (map case_in (window_at f p first m)) (replicate page_size 0)) many
    ∙ page_of case_in answer readings long in
    let ev : vs ≡ map double_in w =
    t.doubles
    ∙ ap (λ (m : ℕ). left_by (readings_answer f p m) (map double_in (window_at f p first m)) (replicate page_size no_double)) many
    ∙ page_of double_in answer readings long in
    record {
      answer = subst (λ (m : ℕ). Tells numbers (as_answer r.answer) (readings_answer f p m)) many t.answer;
      readings = e ∙ ap₂ shown_all eu ev ∙ shown-again w;
    }
