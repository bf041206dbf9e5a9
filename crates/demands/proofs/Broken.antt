-- The laws of the first broken rule: of a list, of two, in other words, and of rules that are all kept. Assumes nothing.
use mathlib.Core.Path.{◌≡◌, refl, sym, ap, subst, ◌∙◌}
use mathlib.Core.Logic.{◌⊎◌, inl, inr, ⊎_elim, ◌↔◌}
use mathlib.Core.Bool.{Bool, true, false, true≢false}
use mathlib.Core.List.{List, [], ◌∷◌, ◌++◌}
use Prim.Native.Nat.{ℕ}
use Rattle.rules.specs.Rules.{Rule, ◌⇒◌, first_of, saying, AllPass}
use Rattle.rules.proofs.Laws.{Silent, clear, all_pass}
use Rattle.layout.specs.declared.Counts.{Counts}
use Rattle.layout.specs.Answer.{Answer}
use Rattle.layout.specs.Answer.{Accepted, Refused}
use Rattle.layout.specs.Answers.{is_accepted}
use Rattle.demands.specs.Causes.{Broken, here, later}

-- ---- none is broken, or one is the first
pub kept_or_broken : {A : Type 0} (rs : List (Rule A)) → AllPass rs ⊎ ((x : A) × Broken rs x)
kept_or_broken [] = inl tt
kept_or_broken ((true ⇒ a) ∷ rs) = inr (a, here refl)
kept_or_broken ((false ⇒ a) ∷ rs) = ⊎_elim (λ p. inl (refl, p)) (λ b. inr (b.0, later refl b.1)) (kept_or_broken rs)

-- what it says is said
pub broken-first : {A : Type 0} {rs : List (Rule A)} {x : A} (d : A) → Broken rs x → first_of rs d ≡ x
broken-first d (here e) = rw e
broken-first d (later e r) = rw e (broken-first d r)

-- and is no thing that no rule says
pub broken-silent : {A : Type 0} (q : A → Bool) {rs : List (Rule A)} {x : A} → Silent q rs → Broken rs x → q x ≡ false
broken-silent q s (here e) = s.0
broken-silent q s (later e r) = broken-silent q s.1 r

-- ---- in other words
pub saying-broken : {A B : Type 0} (g : A → B) {rs : List (Rule A)} {x : A} → Broken rs x → Broken (saying g rs) (g x)
saying-broken g (here e) = here e
saying-broken g (later e r) = later e (saying-broken g r)

pub broken-saying : {A B : Type 0} (g : A → B) (rs : List (Rule A)) {y : B} → Broken (saying g rs) y → (x : A) × Broken rs x × (g x ≡ y)
broken-saying {A = A} {B = B} g [] {y = y} x' = elim x' [ ]
broken-saying g ((t ⇒ a) ∷ rs) (here e) = (a, here e, refl)
broken-saying g ((t ⇒ a) ∷ rs) (later e r) = let i = broken-saying g rs r in (i.0, later e i.1, i.2)

pub broken-said : {A B : Type 0} (g : A → B) (d : B) {rs : List (Rule A)} {x : A} → Broken rs x → first_of (saying g rs) d ≡ g x
broken-said g d b = broken-first d (saying-broken g b)

-- ---- of two lists
pub broken_append : {A : Type 0} (xs ys : List (Rule A)) {x : A} → Broken (xs ++ ys) x → Broken xs x ⊎ (AllPass xs × Broken ys x)
broken_append [] ys b = inr (tt, b)
broken_append ((t ⇒ a) ∷ xs) ys (here e) = inl (here e)
broken_append ((t ⇒ a) ∷ xs) ys (later e r) = ⊎_elim (λ h. inl (later e h)) (λ h. inr ((e, h.0), h.1)) (broken_append xs ys r)

pub broken-left : {A : Type 0} (xs ys : List (Rule A)) {x : A} → Broken xs x → Broken (xs ++ ys) x
broken-left {A = A} [] ys x3 = elim x3 [ ]
broken-left ((t ⇒ a) ∷ xs) ys (here e) = here e
broken-left ((t ⇒ a) ∷ xs) ys (later e r) = later e (broken-left xs ys r)

pub broken-right : {A : Type 0} (xs ys : List (Rule A)) {x : A} → AllPass xs → Broken ys x → Broken (xs ++ ys) x
broken-right [] ys h b = b
broken-right ((t ⇒ a) ∷ xs) ys h b = later h.0 (broken-right xs ys h.1 b)

-- ---- rules that are all kept
pub kept_append : {A : Type 0} (xs ys : List (Rule A)) → AllPass (xs ++ ys) → AllPass xs × AllPass ys
kept_append [] ys h = (tt, h)
kept_append ((t ⇒ x) ∷ xs) ys h = let r = kept_append xs ys h.1 in ((h.0, r.0), r.1)

pub kept-saying : {A B : Type 0} (g : A → B) (rs : List (Rule A)) → AllPass (saying g rs) → AllPass rs
kept-saying g [] h = tt
kept-saying g ((t ⇒ x) ∷ rs) h = (h.0, kept-saying g rs h.1)

pub saying-kept : {A B : Type 0} (g : A → B) (rs : List (Rule A)) → AllPass rs → AllPass (saying g rs)
saying-kept g [] h = tt
saying-kept g ((t ⇒ a) ∷ rs) h = (h.0, saying-kept g rs h.1)

-- ---- a list of rules that accepts behind them all
module _ (rs : List (Rule Answer)) (d : Answer) (t : is_accepted d ≡ true) where
  pub refused-by : {c p : ℕ} → (first_of rs d ≡ Refused c p) ↔ Broken rs (Refused c p)
  refused-by = (
    λ e. ⊎_elim (λ k. absurd (true≢false (sym t ∙ ap is_accepted (sym (all_pass rs d k) ∙ e))))
        (λ b. subst (Broken rs) (sym (broken-first d b.1) ∙ e) b.1) (kept_or_broken rs),
    λ b. broken-first d b,
  )

  pub accepted-by : Silent is_accepted rs → {n : Counts} → (first_of rs d ≡ Accepted n) ↔ (AllPass rs × (d ≡ Accepted n))
  accepted-by s {n} = (λ e. clear is_accepted rs d (Accepted n) s e refl, λ k. all_pass rs d k.0 ∙ k.1)
