-- `pings::words_end` meets its contract: the words that are held stand behind the number of samples. Assumes nothing.
use mathlib.Core.Path.{◌≡◌, sym, ap, ◌∙◌}
use Prim.Native.Nat.{ℕ, ◌+◌, ◌-◌}
use native.Mathlib.Omega.{arith}
use borrow.Author.Rules.{rules}
use lib.ListN.{length, take, drop}
use lib.Seq.{take-take}
use Rattle.layout.specs.Families.{narrow}
use Rattle.samples.specs.Words.{all_words}
use Rattle.samples.specs.Values.{held_words}
use Rattle.pings.proofs.Parts.{upto}
use Rattle.pings.proofs.words_end.Statement.{statement}
use Rattle.pings.proofs.words_end.Tie as tie

returns : tie.Need-returns
returns c =
    let r = c.before.before in
    let s = r.before.before in
    let a = s.args in
    let part = a.part.now in
    let h = c.held.result in
    let words = all_words 2 a.msb (take (length part - 4) (drop 4 part)) in
    let near = c.held.ensures.1 in
    let long = upto part (length part) (omega arith) in
    let z : 4 + h - 4 ≡ h = omega arith in (
      ap (λ (i : ℕ). all_words 2 a.msb (take i (drop 4 part))) z
          ∙ ap (all_words 2 a.msb) (sym (take-take h (length part - 4) (drop 4 part) (omega (arith, near.0, long))))
          ∙ c.held.ensures.0
          ∙ ap (λ (i : ℕ). held_words narrow i words) r.read4-count.ensures,
      (
        omega (arith, near.1, long, s.requires.0),
        omega (arith, near.0, long, s.requires.0),
        omega (arith, near.2),
      ),
    )

pub words_end_spec : {M : Type 1} → statement M
words_end_spec =
    tie.close
    (tie.spec
    (λ c κs. search rules)
    (λ c. search rules)
    (λ c. search rules)
    (λ c. search rules)
    (λ c κs. search rules)
    (λ c. search rules)
    returns)
