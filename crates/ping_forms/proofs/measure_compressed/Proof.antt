-- `ping_forms::measure_compressed` meets its contract: by the type. Assumes nothing.
use mathlib.Core.Path.{◌≡◌, sym, subst}
use Prim.Native.Nat.{ℕ}
use mathlib.Core.Bool.{Bool}
use borrow.Author.Rules.{rules}
use Rattle.intake.specs.inner.Sound.{SoundHere}
use Rattle.frame.specs.Frames.{Tup}
use Rattle.ping_forms.specs.declared.Form.{Form}
use Rattle.ping_forms.specs.inner.Measured.{Measured}
use Rattle.ping_forms.proofs.Words16.{encoded-left}
use Rattle.ping_forms.proofs.measure_compressed.Statement.{statement}
use Rattle.ping_forms.proofs.measure_compressed.Tie as tie

-- the last type of words
measure-form-requires-3 : tie.Need-measure_form-requires-in_default
measure-form-requires-3 c κs =
    let s = c.before.before in
    subst (SoundHere _ _ _ _) (encoded-left s.args.code s.requires.1 c.in_default.in_default-own.rest) s.requires.0

-- what is measured of a type, said of the code that is it
of_code : {o : Bool} {t : Tup} {n j : ℕ} (k : ℕ) {m : Form} → k ≡ j → Measured o t n j m → Measured o t n k m
of_code {o} {t} {n} k {m} e h = subst (λ (i : ℕ). Measured o t n i m) (sym e) h

returns : tie.Need-returns-in-10010
returns c = of_code _ c.in-10010.is c.measure_form.ensures

returns-2 : tie.Need-returns-in-10040
returns-2 c = of_code _ c.in-10040.is c.measure_form-in-10040.ensures

returns-3 : tie.Need-returns-in_default
returns-3 c =
    let s = c.before.before.before in
    of_code _ (encoded-left s.args.code s.requires.1 c.in_default.in_default-own.rest) c.measure_form-in_default.ensures

pub measure_compressed_spec : {M : Type 1} → statement M
measure_compressed_spec =
    tie.close
    (tie.spec
    (λ c κs. search rules)
    (λ c κs. search rules)
    measure-form-requires-3
    returns
    returns-2
    returns-3)
