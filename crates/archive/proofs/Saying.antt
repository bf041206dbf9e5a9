-- How an exported call keeps its promise: it says 19 at once, or tells what the library's call says. Assumes nothing.
use mathlib.Core.Path.{◌≡◌, refl, sym, ap, subst, ◌∙◌}
use mathlib.Core.Bool.{Bool}
use mathlib.Core.List.{List, ◌++◌}
use Prim.Native.Nat.{ℕ, ◌+◌, ◌<◌, ◌≤◌}
use native.Mathlib.Omega.{arith}
use borrow.Author.Tests.{lt-ltb, le-ltb}
use lib.ListN.{length, drop, get_or}
use lib.Seq.{sets, sets-eq}
use Rattle.layout.specs.Answer.{Answer}
use Rattle.layout.specs.Answers.{numbers}
use Rattle.archive.specs.Saying.{head, SaidIf, Said, SaidAlone}
use Rattle.archive.specs.Numbers.{five}

module _ {O M : Type 0} (n : ℕ) (numbers : O → List ℕ) (promise : O → M → Type 0) (lent : List ℕ) (memory : M) where
  -- too few entries
  pub untold : length lent < head + n → Said n numbers promise lent memory 19 lent memory
  untold h =
      subst (λ (b : Bool). SaidIf b numbers promise lent memory 19 lent memory) (sym (lt-ltb (length lent) (head + n) h))
      (record { said = refl; entries = refl; stays = refl })

  -- entries enough, and an outcome told in them
  pub told : (o : O) (code : ℕ) (left : List ℕ) (kept : M) → head + n ≤ length lent → length (numbers o) ≤ head + n → promise o kept
      → code ≡ get_or (numbers o) 0 0 → left ≡ sets lent 0 (numbers o) → Said n numbers promise lent memory code left kept
  told o code left kept h k p c e =
      let z : 0 + length (numbers o) ≡ length (numbers o) = omega arith in
      subst (λ (b : Bool). SaidIf b numbers promise lent memory code left kept) (sym (le-ltb (length lent) (head + n) h))
      (record {
        outcome = o;
        promised = p;
        said = c;
        entries = e
            ∙ sets-eq (numbers o) lent 0 (omega arith)
            ∙ ap (λ (i : ℕ). numbers o ++ drop i lent) z;
      })

  -- an outcome, with the numbers that were told for it
  pub told_as : (o : O) (ws : List ℕ) (code : ℕ) (left : List ℕ) (kept : M) → head + n ≤ length lent → length ws ≤ head + n → promise o kept
      → numbers o ≡ ws → code ≡ get_or ws 0 0 → left ≡ sets lent 0 ws → Said n numbers promise lent memory code left kept
  told_as o ws code left kept h k p e c l = told o code left kept h (rw e k) p (rw e c) (rw e l)

-- ---- a call that says no more than an answer
module _ {M : Type 0} (promise : Answer → M → Type 0) (lent : List ℕ) (memory : M) where
  pub answer-told : (a : Answer) (code : ℕ) (left : List ℕ) (kept : M) → head ≤ length lent → promise a kept
      → (code ≡ (numbers a).code) × (left ≡ sets lent 0 (five a)) → Said 0 five promise lent memory code left kept
  answer-told a code left kept h p e = told 0 five promise lent memory a code left kept h (omega arith) p e.0 e.1

-- ---- a call that is lent nothing but entries
module _ {O : Type 0} (n : ℕ) (numbers : O → List ℕ) (promise : O → Type 0) (lent : List ℕ) where
  pub alone-untold : length lent < head + n → SaidAlone n numbers promise lent 19 lent
  alone-untold h = untold n numbers (λ o m. promise o) lent (record {}) h

  pub alone-told : (o : O) (ws : List ℕ) (code : ℕ) (left : List ℕ) → head + n ≤ length lent → length ws ≤ head + n → promise o
      → numbers o ≡ ws → code ≡ get_or ws 0 0 → left ≡ sets lent 0 ws → SaidAlone n numbers promise lent code left
  alone-told o ws code left h k p e c l = told_as n numbers (λ x m. promise x) lent (record {}) o ws code left (record {}) h k p e c l

-- .. and says no more than an answer
pub alone-answer : (promise : Answer → Type 0) (lent : List ℕ) (a : Answer) (code : ℕ) (left : List ℕ) → head ≤ length lent → promise a
    → (code ≡ (numbers a).code) × (left ≡ sets lent 0 (five a)) → SaidAlone 0 five promise lent code left
alone-answer promise lent a code left h p e = answer-told (λ o m. promise o) lent (record {}) a code left (record {}) h p e
