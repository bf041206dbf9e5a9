-- `archive::of_readings::hac_readings` meets its contract, which settles what it says and leaves. Assumes nothing.
use mathlib.Core.Path.{◌≡◌}
use mathlib.Core.List.{List}
use Prim.Native.Nat.{ℕ}
use borrow.Author.Rules.{rules}
use lib.Ieee.{Float}
use Rattle.layout.specs.Views.{as_answer}
use Rattle.layout.specs.Answer.{Answer}
use Rattle.readings.specs.Readings.{ReadingsTold, readings-settled}
use Rattle.archive.specs.Saying.{Said, said_settled}
use Rattle.archive.specs.Numbers.{five}
use Rattle.archive.proofs.Saying.{untold, answer-told}
use Rattle.archive.proofs.of_readings.hac_readings.Statement.{statement}
use Rattle.archive.proofs.of_readings.hac_readings.Tie as tie

-- places, named by what has been done there
abbrev start : tie.After-slice_known-3-1 → tie.Start
start c = c.before.before.before.before

abbrev asking : tie.After-readings → tie.Else-answer-lt-HEAD
asking c = c.before.before.before.before

abbrev told : tie.After-tell_answer → tie.After-readings
told c = c.before.before.before.before.before

returns : tie.Need-returns-then-answer-lt-HEAD
returns c =
    let a = (start c.before).args in
    untold 0 five _ a.answer.now (a.cases.now, a.doubles.now) c.if-answer-lt-HEAD.true

returns-2 : tie.Need-returns
returns-2 c =
    let t = c.before.before in
    let k = told t in
    let e = asking k in
    let a = (start e.before).args in
    answer-told _ a.answer.now (a.cases.now, a.doubles.now) (as_answer k.readings.result) _ _ _ e.if-answer-lt-HEAD.false
    k.readings.ensures t.tell_answer.ensures

pub hac_readings_spec : {M : Type 1} → statement M
hac_readings_spec =
    tie.close
    (tie.spec
    returns
    (λ c κs. search rules)
    (λ c κs. search rules)
    (λ c. search rules)
    (λ c. search rules)
    (λ c. search rules)
    returns-2)

module _ (f : List ℕ) (p first : ℕ) (cs : List ℕ) (ds : List Float) (lent : List ℕ) where
  abbrev promise : Answer → List ℕ × List Float → Type 0
  promise a m = ReadingsTold f p first cs ds a m.0 m.1

  settled : (x y : List ℕ × List Float) (a b : Answer) → promise a x → promise b y → (a ≡ b) × (x ≡ y)
  settled x y a b u v = let e = readings-settled u v in (e.0, λ i. (e.1 i, e.2 i))

  pub hac-readings-settled : {c d : ℕ} {left right : List ℕ} {kept held : List ℕ × List Float}
      → Said 0 five promise lent (cs, ds) c left kept
      → Said 0 five promise lent (cs, ds) d right held → (c ≡ d) × (left ≡ right) × (kept ≡ held)
  hac-readings-settled {kept = kept} {held = held} = said_settled 0 five promise lent (cs, ds) (settled kept held)
