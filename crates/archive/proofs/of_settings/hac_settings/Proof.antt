-- `archive::of_settings::hac_settings` meets its contract, which settles what it says and leaves. Assumes nothing.
use mathlib.Core.Path.{◌≡◌}
use mathlib.Core.List.{List}
use Prim.Native.Nat.{ℕ}
use borrow.Author.Rules.{rules}
use Rattle.layout.specs.Views.{as_answer}
use Rattle.layout.specs.Answer.{Answer}
use Rattle.settings.specs.Settings.{SettingsTold, settings-settled}
use Rattle.archive.specs.Saying.{Said, said_settled}
use Rattle.archive.specs.Numbers.{five}
use Rattle.archive.proofs.Saying.{untold, answer-told}
use Rattle.archive.proofs.of_settings.hac_settings.Statement.{statement}
use Rattle.archive.proofs.of_settings.hac_settings.Tie as tie

-- places, named by what has been done there
abbrev start : tie.After-slice_known-4-1 → tie.Start
start c = c.before.before.before.before.before

abbrev asking : tie.After-settings → tie.Else-answer-lt-HEAD
asking c = c.before.before.before.before.before

abbrev told : tie.After-tell_answer → tie.After-settings
told c = c.before.before.before.before.before.before.before

returns : tie.Need-returns-then-answer-lt-HEAD
returns c =
    let a = (start c.before).args in
    untold 0 five _ a.answer.now (a.pings.now, a.thresholds.now, a.attitudes.now) c.if-answer-lt-HEAD.true

returns-2 : tie.Need-returns
returns-2 c =
    let t = c.before.before in
    let k = told t in
    let e = asking k in
    let a = (start e.before).args in
    answer-told _ a.answer.now (a.pings.now, a.thresholds.now, a.attitudes.now) (as_answer k.settings.result) _ _ _ e.if-answer-lt-HEAD.false
    k.settings.ensures t.tell_answer.ensures

pub hac_settings_spec : {M : Type 1} → statement M
hac_settings_spec =
    tie.close
    (tie.spec
    returns
    (λ c κs. search rules)
    (λ c κs. search rules)
    (λ c. search rules)
    (λ c. search rules)
    (λ c. search rules)
    (λ c. search rules)
    returns-2)

module _ (f ps ts bs lent : List ℕ) where
  abbrev promise : Answer → List ℕ × List ℕ × List ℕ → Type 0
  promise a m = SettingsTold f ps ts bs a m.0 m.1 m.2

  settled : (x y : List ℕ × List ℕ × List ℕ) (a b : Answer) → promise a x → promise b y → (a ≡ b) × (x ≡ y)
  settled x y a b p q = let e = settings-settled p q in (e.0, λ i. (e.1 i, e.2 i, e.3 i))

  pub hac-settings-settled : {c d : ℕ} {left right : List ℕ} {kept held : List ℕ × List ℕ × List ℕ}
      → Said 0 five promise lent (ps, ts, bs) c left kept
      → Said 0 five promise lent (ps, ts, bs) d right held → (c ≡ d) × (left ≡ right) × (kept ≡ held)
  hac-settings-settled {kept = kept} {held = held} = said_settled 0 five promise lent (ps, ts, bs) (settled kept held)
