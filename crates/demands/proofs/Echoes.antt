-- Energies and readings hang on a file's content (`echoes`): both are made of the listed pings and their channels, which do. Assumes
-- nothing.
use mathlib.Core.Path.{◌≡◌, refl, sym, ap, ◌∙◌}
use mathlib.Core.Bool.{Bool, true, false, not, ◌||◌}
use mathlib.Core.List.{List, [], ◌∷◌, map, filter_map}
use mathlib.Core.Option.{Option, Option-elim, some, none}
use Prim.Native.Nat.{ℕ}
use lib.Dec.{ltb}
use lib.ListN.{length}
use Rattle.rules.specs.Rules.{◌⇒◌, first_of}
use Rattle.layout.specs.declared.Counts.{Counts}
use Rattle.layout.specs.Answer.{Answer}
use Rattle.layout.specs.Answer.{Accepted}
use Rattle.layout.specs.Answer as answers
use Rattle.layout.specs.Answers.{counts}
use Rattle.layout.specs.Families.{Family}
use Rattle.frame.specs.Frames.{Tup}
use Rattle.frame.specs.Files.{is_msb}
use Rattle.frame.specs.Tuples.{tuples_of}
use Rattle.links.specs.declared.Channel.{Channel}
use Rattle.samples.specs.Words.{Sample}
use Rattle.content.specs.Pings.{Ping}
use Rattle.content.specs.Items.{Item, item_of}
use Rattle.intake.specs.Check.{check_file}
use Rattle.intake.proofs.Accepted.{refusal}
use Rattle.normal.specs.Contents.{add, items, content_of}
use Rattle.normal.specs.Normaliser.{behind_check, normal_answer}
use Rattle.normal.specs.Demand.{Call}
use Rattle.normal.proofs.Outcomes.{demand3}
use Rattle.quantities.specs.declared.Quantity.{Quantity}
use Rattle.quantities.specs.Quantities.{quantity_of, has_angles}
use Rattle.linear.specs.Linear.{first_outside, total}
use Rattle.linked.specs.Linked.{Linked, linked_of, standing, sought_by, sought_in, sought_at}
use Rattle.linked.specs.Contents.{items_of, pairs_of}
use Rattle.linked.proofs.Contents.{contents}
use Rattle.linked.proofs.Places.{standing-all}
use Rattle.energy.specs.Echo.{Echo}
use Rattle.energy.specs.Echo.{Sum, Refused}
use Rattle.energy.specs.Energy.{is_sv, values_in, echo_by, echo_sought, energy_at, sum_in, code_in, places_of, energies_of, codes_of}
use Rattle.readings.specs.declared.Reading.{Reading}
use Rattle.readings.specs.Readings.{readings_from}
use Rattle.demands.specs.Echoes.{windows_of, SameEnergies, Echoes}

-- ---- the content, in other words
items-are : (o : Bool) (ts : List Tup) → items o ts ≡ filter_map (item_of o) ts
unfolding items filter_map
items-are o [] = refl
items-are o (t ∷ ts) = by (item_of o t) (items-are o ts)
  where
    by : (i : Option Item) {c d : List Item} → c ≡ d → add i c ≡ Option-elim i d (λ b. b ∷ d)
    by none e = e
    by (some i) e = ap (λ (c : List Item). i ∷ c) e

same-pairs : (f g : List ℕ) → content_of f ≡ content_of g → pairs_of f ≡ pairs_of g
unfolding content_of
same-pairs f g e =
    contents.same f g (sym (items-are (is_msb f) (tuples_of f)) ∙ e ∙ items-are (is_msb g) (tuples_of g))

-- ---- what is told of a ping, wherever it stands and whatever its file counts
module _ (x : Quantity) (f : Family) (s : List Sample) (p : ℕ) (n : Counts) where
  sum_anywhere : sum_in (echo_by p x f s n) ≡ sum_in (echo_by 0 x f s (counts 0 0))
  unfolding echo_by
  sum_anywhere = by (has_angles f || not (is_sv x)) (ltb (first_outside f (values_in f s)) (length (values_in f s)))
    where
      by : (a b : Bool)
          → sum_in (first_of ((a ⇒ Refused 28 p) ∷ (b ⇒ Refused 29 (first_outside f (values_in f s))) ∷ []) (Sum (total f (values_in f s)) n))
          ≡ sum_in (first_of ((a ⇒ Refused 28 0) ∷ (b ⇒ Refused 29 (first_outside f (values_in f s))) ∷ [])
          (Sum (total f (values_in f s)) (counts 0 0)))
      by true b = refl
      by false true = refl
      by false false = refl

  code_anywhere : code_in (echo_by p x f s n) ≡ code_in (echo_by 0 x f s (counts 0 0))
  unfolding echo_by
  code_anywhere = by (has_angles f || not (is_sv x)) (ltb (first_outside f (values_in f s)) (length (values_in f s)))
    where
      by : (a b : Bool)
          → code_in (first_of ((a ⇒ Refused 28 p) ∷ (b ⇒ Refused 29 (first_outside f (values_in f s))) ∷ []) (Sum (total f (values_in f s)) n))
          ≡ code_in (first_of ((a ⇒ Refused 28 0) ∷ (b ⇒ Refused 29 (first_outside f (values_in f s))) ∷ [])
          (Sum (total f (values_in f s)) (counts 0 0)))
      by true b = refl
      by false true = refl
      by false false = refl

-- of a ping and its channel
abbrev heard : Ping × Channel → Echo
heard x = echo_by 0 (quantity_of x.1) x.0.family x.0.samples (counts 0 0)

abbrev pair : Linked → Ping × Channel
pair l = (l.ping, l.channel)

-- ---- by the pings and channels of a file
module _ (f : List ℕ) {n : Counts} (e : check_file f ≡ Accepted n) (part : Echo → ℕ)
    (sought : (p : ℕ) (l : Option Linked) → part (echo_sought (sought_by p n l)) ≡ part (echo_sought (sought_by 0 n l)))
    (anywhere : (l : Linked) → part (echo_sought (sought_by 0 n (some l))) ≡ part (heard (pair l))) where
  at_place : (p : ℕ) → part (energy_at f p) ≡ part (echo_sought (sought_by 0 n (standing p (linked_of f))))
  unfolding energy_at sought_at
  at_place p = ap (λ (a : Answer). part (echo_sought (sought_in f p a))) e ∙ sought p (standing p (linked_of f))

  each : (ls : List Linked) → map (λ (p : ℕ). part (energy_at f p)) (map (λ (l : Linked). l.place) ls)
      ≡ map (λ (l : Linked). part (echo_sought (sought_by 0 n (standing l.place (linked_of f))))) ls
  each [] = refl
  each (l ∷ ls) = λ i. at_place l.place i ∷ each ls i

  some-each : (ls : List Linked) → map (λ (l : Linked). part (echo_sought (sought_by 0 n (some l)))) ls
      ≡ map (λ (x : Ping × Channel). part (heard x)) (map pair ls)
  some-each [] = refl
  some-each (l ∷ ls) = λ i. anywhere l i ∷ some-each ls i

  by-pairs : map (λ (p : ℕ). part (energy_at f p)) (places_of f) ≡ map (λ (x : Ping × Channel). part (heard x)) (pairs_of f)
  unfolding places_of
  by-pairs =
      each (linked_of f)
      ∙ standing-all f (λ (l : Option Linked). part (echo_sought (sought_by 0 n l)))
      ∙ some-each (linked_of f)

sum_sought : (n : Counts) (p : ℕ) (l : Option Linked) → sum_in (echo_sought (sought_by p n l)) ≡ sum_in (echo_sought (sought_by 0 n l))
sum_sought n p none = refl
sum_sought n p (some l) = refl

code-sought : (n : Counts) (p : ℕ) (l : Option Linked) → code_in (echo_sought (sought_by p n l)) ≡ code_in (echo_sought (sought_by 0 n l))
code-sought n p none = refl
code-sought n p (some l) = refl

energies-by : (f : List ℕ) {n : Counts} → check_file f ≡ Accepted n
    → (energies_of f ≡ map (λ (x : Ping × Channel). sum_in (heard x)) (pairs_of f))
    × (codes_of f ≡ map (λ (x : Ping × Channel). code_in (heard x)) (pairs_of f))
unfolding energies_of codes_of
energies-by f {n} e = (
  by-pairs f e sum_in (sum_sought n) (λ l. sum_anywhere (quantity_of l.channel) l.ping.family l.ping.samples l.place n),
  by-pairs f e code_in (code-sought n) (λ l. code_anywhere (quantity_of l.channel) l.ping.family l.ping.samples l.place n),
)

same-energies : (f g : List ℕ) {m n : Counts} → check_file f ≡ Accepted m → check_file g ≡ Accepted n → content_of f ≡ content_of g
    → SameEnergies f g
same-energies f g a b e =
    let x = energies-by f a in
    let y = energies-by g b in
    let z = same-pairs f g e in
    record {
      energies = x.0 ∙ ap (map (λ (q : Ping × Channel). sum_in (heard q))) z ∙ sym y.0;
      codes = x.1 ∙ ap (map (λ (q : Ping × Channel). code_in (heard q))) z ∙ sym y.1;
    }

-- ---- readings
abbrev window : ℕ → ℕ → Ping × Channel → List Reading
window first n x = readings_from (quantity_of x.1) x.0.family x.0.samples first n

windows_are : (first n : ℕ) (ls : List Linked) → map (λ (l : Linked). window first n (pair l)) ls ≡ map (window first n) (map pair ls)
windows_are first n [] = refl
windows_are first n (l ∷ ls) = ap (λ (ws : List (List Reading)). window first n (pair l) ∷ ws) (windows_are first n ls)

same-readings : (f g : List ℕ) → content_of f ≡ content_of g → (first n : ℕ) → windows_of f first n ≡ windows_of g first n
same-readings f g e first n =
    windows_are first n (linked_of f) ∙ ap (map (window first n)) (same-pairs f g e) ∙ sym (windows_are first n (linked_of g))

-- ---- a file that the normaliser takes is accepted
call_accepted : {f w : List ℕ} → Call f w → (n : Counts) × (check_file f ≡ Accepted n)
unfolding normal_answer
call_accepted {f} c = by (check_file f) refl (sym c.promise.answer.is)
  where
    by : (a : Answer) → check_file f ≡ a → behind_check f (length c.lent) a ≡ Accepted c.counts
        → (n : Counts) × (check_file f ≡ Accepted n)
    by (answers.Refused x p) h q = refusal x p c.counts q
    by (Accepted i) h q = (i, h)

pub echoes : Echoes
echoes =
    record {
      energies = λ f g a b e. same-energies f g a b e;
      readings = λ f g e. same-readings f g e;
      normal-energies = λ {f} {w} c. same-energies w f (demand3.acceptable c) (call_accepted c).1 (demand3.kept c);
      normal-readings = λ {f} {w} c. same-readings w f (demand3.kept c);
    }
