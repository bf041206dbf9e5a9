-- Lines in: a text's first line and the lines behind it, and what each adds to the input. Assumes nothing.
use mathlib.Core.Path.{◌≡◌, refl, sym, ap, ◌∙◌}
use mathlib.Core.Bool.{Bool, true, false, cond, not}
use mathlib.Core.List.{List, [], ◌∷◌}
use Prim.Native.Nat.{ℕ, suc, ◌+◌, ◌≤◌, ◌<◌}
use native.Mathlib.Numerals.{add-one}
use native.Mathlib.Omega.{arith}
use lib.Dec.{eqb}
use lib.ListN.{length, take, drop}
use Rattle.std.specs.List.{take_while, prefix_len}
use Rattle.std.proofs.lemmas.List.Folds.{length-prefix_len}
use Rattle.hexlines.specs.Lines.{line_feed, lines_of, in_front}
use Rattle.hexlines.specs.inner.Reading.{line_length}
use Rattle.hexlines.proofs.Digits.{by_bool}

-- ---- where the line ends
pub ends : (c : ℕ) (cs : List ℕ) → eqb c line_feed ≡ true → line_length (c ∷ cs) ≡ 0
unfolding line_length
ends c cs e = rw (e, line_length)

pub goes_on : (c : ℕ) (cs : List ℕ) → eqb c line_feed ≡ false → line_length (c ∷ cs) ≡ line_length cs + 1
unfolding line_length
goes_on c cs e = rw (e, line_length)

-- as many characters as an iterator takes while they are no line feed
pub taken_before : (t : List ℕ) → length (take_while (λ c. not (eqb c 10)) t) ≡ line_length t
taken_before t = length-prefix_len (λ c. not (eqb c 10)) t ∙ counted t
  where
    counted : (t : List ℕ) → prefix_len (λ c. not (eqb c 10)) t ≡ line_length t
    counted [] = unfold line_length in refl
    counted (c ∷ cs) =
        by_bool (eqb c line_feed) (λ e. ap (λ (b : Bool). cond (not b) (1 + prefix_len (λ c. not (eqb c 10)) cs) 0) e ∙ sym (ends c cs e))
        (λ e. ap (λ (b : Bool). cond (not b) (1 + prefix_len (λ c. not (eqb c 10)) cs) 0) e
        ∙ omega (arith, goes_on c cs e, counted cs))

pub line-within : (t : List ℕ) → line_length t ≤ length t
line-within [] = unfold line_length in omega arith
line-within (c ∷ cs) = by_bool (eqb c line_feed) (λ e. omega (arith, ends c cs e)) (λ e. omega (arith, goes_on c cs e, line-within cs))

-- ---- the first line and the others
abbrev Parted : List ℕ → Type 0
Parted t = lines_of t ≡ take (line_length t) t ∷ lines_of (drop (line_length t + 1) t)

parted-here : (c : ℕ) (cs : List ℕ) → eqb c line_feed ≡ true → Parted (c ∷ cs)
unfolding lines_of
parted-here c cs e = rw (ends c cs e, e, lines_of)

parted-past : (c : ℕ) (cs : List ℕ) → in_front c (lines_of cs) ≡ (c ∷ take (line_length cs) cs) ∷ lines_of (drop (line_length cs + 1) cs)
    → eqb c line_feed ≡ false → Parted (c ∷ cs)
unfolding lines_of
parted-past c cs f e = rw (goes_on c cs e, add-one (line_length cs), add-one (suc (line_length cs)), e, lines_of) (rw add-one at f)

pub lines_cons : (t : List ℕ) → 0 < length t → Parted t
lines_cons [] h = absurd (omega arith)
lines_cons (c ∷ []) h = by_bool (eqb c line_feed) (parted-here c []) (parted-past c [] (unfold lines_of in unfold line_length in refl))
lines_cons (c ∷ d ∷ ds) h =
    by_bool (eqb c line_feed) (parted-here c (d ∷ ds)) (parted-past c (d ∷ ds) (ap (in_front c) (lines_cons (d ∷ ds) (omega arith))))
