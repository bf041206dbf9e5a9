-- `archive::of_pings::hac_read_samples` meets its contract, which settles what it says and leaves. Assumes nothing.
use mathlib.Core.Path.{◌≡◌}
use mathlib.Core.List.{List}
use Prim.Native.Nat.{ℕ}
use borrow.Author.Rules.{rules}
use lib.IntN.{ℤ}
use Rattle.layout.specs.Views.{as_answer}
use Rattle.layout.specs.Answer.{Answer}
use Rattle.pings.specs.Readers.{SamplesRead, samples-settled}
use Rattle.archive.specs.Saying.{Said, said_settled}
use Rattle.archive.specs.Numbers.{five}
use Rattle.archive.proofs.Saying.{untold, answer-told}
use Rattle.archive.proofs.of_pings.hac_read_samples.Statement.{statement}
use Rattle.archive.proofs.of_pings.hac_read_samples.Tie as tie

returns : tie.Need-returns-then-answer-lt-HEAD
returns c =
    let a = c.args in
    untold 0 five _ a.answer.now (a.numbers.now, a.values.now) c.if-answer-lt-HEAD.true

returns-2 : tie.Need-returns
returns-2 c =
    let t = c.before.before in
    let k = t.before.before.before.before in
    let e = k.before.before.before.before in
    let a = e.args in
    answer-told _ a.answer.now (a.numbers.now, a.values.now) (as_answer k.read_samples.result) _ _ _ e.if-answer-lt-HEAD.false
    k.read_samples.ensures
    t.tell_answer.ensures

pub hac_read_samples_spec : {M : Type 1} → statement M
hac_read_samples_spec =
    tie.close
    (tie.spec
    returns
    (λ c κs. search rules)
    (λ c κs. search rules)
    (λ c. search rules)
    (λ c. search rules)
    (λ c. search rules)
    returns-2)

module _ (f : List ℕ) (p : ℕ) (ns : List ℕ) (vs : List ℤ) (lent : List ℕ) where
  abbrev promise : Answer → List ℕ × List ℤ → Type 0
  promise a m = SamplesRead f p ns vs a m.0 m.1

  settled : (x y : List ℕ × List ℤ) (a b : Answer) → promise a x → promise b y → (a ≡ b) × (x ≡ y)
  settled x y a b p q = let e = samples-settled p q in (e.0, λ i. (e.1 i, e.2 i))

  pub hac-read-samples-settled : {c d : ℕ} {left right : List ℕ} {kept held : List ℕ × List ℤ}
      → Said 0 five promise lent (ns, vs) c left kept
      → Said 0 five promise lent (ns, vs) d right held → (c ≡ d) × (left ≡ right) × (kept ≡ held)
  hac-read-samples-settled {kept = kept} {held = held} = said_settled 0 five promise lent (ns, vs) (settled kept held)
