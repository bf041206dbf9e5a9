-- A ping's samples break their rules exactly at the first offender (`offends`, `offended`). Assumes nothing.
use mathlib.Core.Path.{◌≡◌, refl, sym, ap, ap₂, subst, subst₂, ◌∙◌}
use mathlib.Core.Logic.{◌⊎◌, inl, inr, ⊎_elim}
use mathlib.Core.Bool.{Bool, true, false, not, true≢false, ◌&&◌}
use mathlib.Core.List.{List, [], ◌∷◌}
use Prim.Native.Nat.{ℕ, zero, suc, ◌+◌, ◌-◌, ◌*◌, ◌≤◌, ◌<◌}
use native.Mathlib.Numerals.{add-one}
use native.Mathlib.Omega.{arith}
use borrow.Author.Tests.{lt-ltb, le-ltb, ltb-true, ltb-false, le-leb, leb-true, leb-false, ne_eqb, eqb-false, not-true}
use lib.Dec.{eqb, leb, ltb}
use lib.ListN.{length}
use Rattle.rules.specs.Rules.{Rule, ◌⇒◌}
use Rattle.rules.proofs.Bools.{both_true}
use Rattle.layout.specs.Answers.{Breach, ◌byte◌}
use Rattle.layout.specs.Families.{Family, measures_of, value_bytes, sample_bytes, is_bad}
use Rattle.layout.specs.Types.{Shape, indexed, row, uncompressed, compressed, unlisted, shape_of}
use Rattle.frame.specs.Frames.{Tup}
use Rattle.samples.specs.Words.{Sample}
use Rattle.samples.specs.Runs.{first_bad}
use Rattle.samples.specs.Judging.{most, first_drop, dropping, sample_rules, word_rules}
use Rattle.samples.proofs.Runs.{by_bool}
use Rattle.samples.proofs.Rising.{drop_here, drop-later}
use Rattle.samples.proofs.Values.{bad-here, bad-later}
use Rattle.content.specs.Items.{inner_by, inner_rules}
use Rattle.demands.specs.Causes.{Broken, here, later}
use Rattle.demands.specs.Offenders.{FirstAt, Falls, number_in, Outside, samples_of, words_of, found, said, Uncompressed, Compressed}
use Rattle.demands.specs.Offenders.{Offends, too_many, too_many-words, not-rising, bad-word, miscounted}

-- ---- a list of rules, one after the other
abbrev pub Said : {A : Type 0} → List (Rule A) → A → Type 0
Said [] x = ⊥
Said ((b ⇒ a) ∷ rs) x = ((b ≡ true) × (a ≡ x)) ⊎ ((b ≡ false) × Said rs x)

pub broken-says : {A : Type 0} {rs : List (Rule A)} {x : A} → Broken rs x → Said rs x
broken-says (here e) = inl (e, refl)
broken-says (later e r) = inr (e, broken-says r)

-- ---- a search that ends at i, of n places: the first of which P holds, or n where there is none
pub record Search (P : ℕ → Type 0) (n i : ℕ) : Type 0 where
  pub there : i < n → P i
  pub before : (j : ℕ) → j < i → P j → ⊥
  pub within : (j : ℕ) → P j → j < n

module _ {P : ℕ → Type 0} {n i : ℕ} (s : Search P n i) where
  pub finds : ltb i n ≡ true → FirstAt P i
  finds e = record { is = s.there (ltb-true i n e); before = s.before }

  -- what it finds is the first
  pub first_found : {k : ℕ} → FirstAt P k → (ltb i n ≡ true) × (i ≡ k)
  first_found {k} g = by_order (leb i k) refl
    where
      by_order : (b : Bool) → leb i k ≡ b → (ltb i n ≡ true) × (i ≡ k)
      by_order false e = absurd (s.before k (leb-false i k e) g.is)
      by_order true e =
          let low : i < n = omega (arith, leb-true i k e, s.within k g.is) in
          by_equal low (leb k i) refl
        where
          by_equal : i < n → (b : Bool) → leb k i ≡ b → (ltb i n ≡ true) × (i ≡ k)
          by_equal low true h = (lt-ltb i n low, omega (arith, leb-true i k e, leb-true k i h))
          by_equal low false h = absurd (g.before i (leb-false k i h) (s.there low))

  pub finds-none : ltb i n ≡ false → (k : ℕ) → P k → ⊥
  finds-none e k p = s.before k (omega (arith, ltb-false i n e, s.within k p)) p

  pub none_found : ((k : ℕ) → P k → ⊥) → ltb i n ≡ false
  none_found g = by_bool (ltb i n) (λ e. absurd (g i (s.there (ltb-true i n e)))) (λ e. e)

-- ---- words outside the limits
module _ (f : Family) where
  -- the limits as numbers
  outside : (w : ℕ) → is_bad f w ≡ true → ((measures_of f).first ≤ w) × (w ≤ (measures_of f).last)
  unfolding is_bad
  outside w e =
      let b = both_true (leb (measures_of f).first w) (leb w (measures_of f).last) e in
      (leb-true (measures_of f).first w b.0, leb-true w (measures_of f).last b.1)

  inside : (w : ℕ) → is_bad f w ≡ false → (measures_of f).first ≤ w → w ≤ (measures_of f).last → ⊥
  unfolding is_bad
  inside w e l m = true≢false (sym (ap₂ ◌&&◌ (le-leb (measures_of f).first w l) (le-leb w (measures_of f).last m)) ∙ e)

  -- a word, and the same word behind one more
  behind-word : (w : ℕ) (ws : List ℕ) (i : ℕ) → Outside f ws i → Outside f (w ∷ ws) (suc i)
  behind-word w ws i g = record { within = omega (arith, g.within); least = g.least; most = g.most }

  before-word : (w : ℕ) (ws : List ℕ) (i : ℕ) → Outside f (w ∷ ws) (suc i) → Outside f ws i
  before-word w ws i g = record { within = omega (arith, g.within); least = g.least; most = g.most }

  words-there : (ws : List ℕ) → first_bad f ws < length ws → Outside f ws (first_bad f ws)
  words-there [] h = absurd (omega arith)
  words-there (w ∷ ws) h =
      by_bool (is_bad f w)
      (λ e.
      subst (Outside f (w ∷ ws)) (sym (bad-here f w ws e))
      (record { within = omega arith; least = (outside w e).0; most = (outside w e).1 }))
      (λ e.
      subst (Outside f (w ∷ ws)) (sym (bad-later f w ws e ∙ add-one (first_bad f ws)))
      (behind-word w ws (first_bad f ws) (words-there ws (omega (arith, bad-later f w ws e)))))

  words-before : (ws : List ℕ) (j : ℕ) → j < first_bad f ws → Outside f ws j → ⊥
  words-before [] j h g = absurd (omega (arith, g.within))
  words-before (w ∷ ws) zero h g =
      by_bool (is_bad f w) (λ e. absurd (omega (arith, bad-here f w ws e))) (λ e. inside w e g.least g.most)
  words-before (w ∷ ws) (suc j) h g =
      by_bool (is_bad f w)
      (λ e. absurd (omega (arith, bad-here f w ws e)))
      (λ e. words-before ws j (omega (arith, bad-later f w ws e)) (before-word w ws j g))

  pub words-search : (ws : List ℕ) → Search (Outside f ws) (length ws) (first_bad f ws)
  words-search ws = record { there = words-there ws; before = words-before ws; within = λ j g. g.within }

-- ---- numbers that don't rise
-- a number and the one before it, and the same two behind one more
module _ (x : Sample) (s : List Sample) (k : ℕ) where
  less : suc k - 1 ≡ k
  less = omega arith

  less_two : suc (suc k) - 1 ≡ suc k
  less_two = omega arith

  behind-two : Falls s (suc k) → Falls (x ∷ s) (suc (suc k))
  behind-two g =
      let pair : number_in s (suc k) ≤ number_in s k = subst (λ (m : ℕ). number_in s (suc k) ≤ number_in s m) less g.falls in
      record {
        within = omega (arith, g.within);
        behind = omega arith;
        falls = subst (λ (m : ℕ). number_in s (suc k) ≤ number_in (x ∷ s) m) (sym less_two) pair;
      }

  before-two : Falls (x ∷ s) (suc (suc k)) → Falls s (suc k)
  before-two g =
      let pair : number_in s (suc k) ≤ number_in s k = subst (λ (m : ℕ). number_in s (suc k) ≤ number_in (x ∷ s) m) less_two g.falls in
      record {
        within = omega (arith, g.within);
        behind = omega arith;
        falls = subst (λ (m : ℕ). number_in s (suc k) ≤ number_in s m) (sym less) pair;
      }

falls-there : (s : List Sample) (x : Sample) → first_drop (x.0 + 1) s < length s → Falls (x ∷ s) (suc (first_drop (x.0 + 1) s))
falls-there [] x h = absurd (omega arith)
falls-there (y ∷ s) x h =
    by_bool (leb (x.0 + 1) y.0)
    (λ e.
    let later = drop-later (x.0 + 1) y s (leb-true (x.0 + 1) y.0 e) in
    subst (λ (m : ℕ). Falls (x ∷ y ∷ s) (suc m)) (sym (later ∙ add-one (first_drop (y.0 + 1) s)))
    (behind-two x (y ∷ s) (first_drop (y.0 + 1) s) (falls-there s y (omega (arith, later)))))
    (λ e.
    subst (λ (m : ℕ). Falls (x ∷ y ∷ s) (suc m)) (sym (drop_here (x.0 + 1) y s e))
    (record { within = omega arith; behind = omega arith; falls = omega (arith, leb-false (x.0 + 1) y.0 e) }))

falls-before : (s : List Sample) (x : Sample) (j : ℕ) → j < first_drop (x.0 + 1) s → Falls (x ∷ s) (suc j) → ⊥
falls-before [] x j h g = absurd (omega (arith, g.within))
falls-before (y ∷ s) x zero h g =
    by_bool (leb (x.0 + 1) y.0)
    (λ e. absurd (omega (arith, leb-true (x.0 + 1) y.0 e, g.falls)))
    (λ e. absurd (omega (arith, drop_here (x.0 + 1) y s e)))
falls-before (y ∷ s) x (suc j) h g =
    by_bool (leb (x.0 + 1) y.0)
    (λ e. falls-before s y j (omega (arith, drop-later (x.0 + 1) y s (leb-true (x.0 + 1) y.0 e))) (before-two x (y ∷ s) j g))
    (λ e. absurd (omega (arith, drop_here (x.0 + 1) y s e)))

-- the first number may be any
numbers-there : (s : List Sample) → first_drop 0 s < length s → Falls s (first_drop 0 s)
numbers-there [] h = absurd (omega arith)
numbers-there (x ∷ s) h =
    let later = drop-later 0 x s (omega arith) in
    subst (Falls (x ∷ s)) (sym (later ∙ add-one (first_drop (x.0 + 1) s))) (falls-there s x (omega (arith, later)))

numbers-before : (s : List Sample) (j : ℕ) → j < first_drop 0 s → Falls s j → ⊥
numbers-before [] j h g = absurd (omega (arith, g.within))
numbers-before (x ∷ s) zero h g = absurd (omega (arith, g.behind))
numbers-before (x ∷ s) (suc j) h g = falls-before s x j (omega (arith, drop-later 0 x s (omega arith))) g

pub numbers-search : (s : List Sample) → Search (Falls s) (length s) (first_drop 0 s)
numbers-search s = record { there = numbers-there s; before = numbers-before s; within = λ j g. g.within }

-- ---- so a tuple's samples break a rule exactly where it offends
module _ (o : Bool) (t : Tup) where
  -- what was said is a code and an offset
  as_said : {c q d p : ℕ} → Offends o t c q → (c byte q) ≡ (d byte p) → Offends o t d p
  as_said h e = subst₂ (Offends o t) (ap (λ (b : Breach). b.code) e) (ap (λ (b : Breach). b.offset) e) h

  by-samples : (f : Family) → Uncompressed f t → {c q : ℕ} → Said (sample_rules f (samples_of f o t)) (c byte q) → Offends o t c q
  by-samples f k =
      let s = samples_of f o t in
      ⊎_elim (λ e. as_said (too_many k (ltb-true most (length s) e.0)) e.1)
      (λ l. ⊎_elim (λ e. as_said (not-rising k (ltb-false most (length s) l.0) (finds (numbers-search s) e.0)) e.1)
      (λ e. absurd e.1)
      l.1)

  module _ (f : Family) (k : Compressed f t) where
    abbrev search : Search (Outside f (words_of f o t)) (length (words_of f o t)) (first_bad f (words_of f o t))
    search = words-search f (words_of f o t)

    by-words : {c q : ℕ} → Said (word_rules f (said o t) (words_of f o t)) (c byte q) → Offends o t c q
    by-words =
        ⊎_elim (λ e. as_said (too_many-words k (ltb-true most (found f o t) e.0)) e.1)
        (λ l. ⊎_elim (λ e. as_said (bad-word k (ltb-false most (found f o t) l.0) (finds search e.0)) e.1)
        (λ g. ⊎_elim
        (λ e.
        as_said (miscounted k (ltb-false most (found f o t) l.0) (finds-none search g.0)
        (eqb-false (said o t) (found f o t) (not-true _ e.0)))
        e.1)
        (λ e. absurd e.1)
        g.1)
        l.1)

  pub offends : {c q : ℕ} → Broken (inner_rules o t) (c byte q) → Offends o t c q
  offends {c} {q} b = by (shape_of t.kind) refl (broken-says b)
    where
      by : (s : Shape) → shape_of t.kind ≡ s → Said (inner_by s o t) (c byte q) → Offends o t c q
      by indexed k z = absurd z
      by (row fs x) k z = absurd z
      by (uncompressed f) k z = by-samples f k z
      by (compressed f) k z = by-words f k z
      by unlisted k z = absurd z

  -- and the other way round: by the rules of the tuple's shape
  by_shape : {s : Shape} {x : Breach} → shape_of t.kind ≡ s → Broken (inner_by s o t) x → Broken (inner_rules o t) x
  by_shape {x = x} k b = subst (λ (s : Shape). Broken (inner_by s o t) x) (sym k) b

  -- those behind the first
  abbrev behind_samples : Family → List (Rule Breach)
  behind_samples f =
      let s = samples_of f o t in
      (dropping s ⇒ 23 byte (24 + sample_bytes f * first_drop 0 s)) ∷ []

  abbrev behind_many : Family → List (Rule Breach)
  behind_many f =
      let ws = words_of f o t in
      (ltb (first_bad f ws) (length ws) ⇒ 24 byte (28 + value_bytes f * first_bad f ws))
      ∷ (not (eqb (said o t) (found f o t)) ⇒ 25 byte 24)
      ∷ []

  pub offended : {c q : ℕ} → Offends o t c q → Broken (inner_rules o t) (c byte q)
  offended (too_many {f = f} k m) = by_shape k (here (lt-ltb most (length (samples_of f o t)) m))
  offended (too_many-words {f = f} k m) = by_shape k (here (lt-ltb most (found f o t) m))
  offended (not-rising {f = f} {i = i} k m g) =
      let g = first_found (numbers-search (samples_of f o t)) g in
      by_shape k
      (later (le-ltb most (length (samples_of f o t)) m)
      (subst (λ (j : ℕ). Broken (behind_samples f) (23 byte (24 + sample_bytes f * j))) g.1 (here g.0)))
  offended (bad-word {f = f} {i = i} k m g) =
      let g = first_found (words-search f (words_of f o t)) g in
      by_shape k
      (later (le-ltb most (found f o t) m)
      (subst (λ (j : ℕ). Broken (behind_many f) (24 byte (28 + value_bytes f * j))) g.1 (here g.0)))
  offended (miscounted {f = f} k m g e) =
      by_shape k
      (later (le-ltb most (found f o t) m)
      (later (none_found (words-search f (words_of f o t)) g) (here (ap not (ne_eqb (said o t) (found f o t) e)))))

-- no code is 10
pub no_ten : {o : Bool} {t : Tup} {c q : ℕ} → Offends o t c q → c ≡ 10 → ⊥
no_ten (too_many k m) e = absurd (omega arith)
no_ten (too_many-words k m) e = absurd (omega arith)
no_ten (not-rising k m g) e = absurd (omega arith)
no_ten (bad-word k m g) e = absurd (omega arith)
no_ten (miscounted k m g e) h = absurd (omega arith)
