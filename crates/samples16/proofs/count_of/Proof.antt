-- `samples16::count_of` meets its contract: a count's size, or as much below nothing. Assumes nothing.
use mathlib.Core.Path.{◌≡◌, sym, ap, subst, ◌∙◌}
use native.Mathlib.Omega.{arith}
use borrow.Author.Rules.{rules}
use lib.IntN.{pos, ◌-ℤ◌}
use mir.Syntax.{w32}
use mir.Val.{SFits, to_z}
use mir.ValLaws.{to_z_pos, to_z-of_z}
use Rattle.samples.specs.Values.{negated}
use Rattle.samples.proofs.Meaning.{count_plus, count-minus}
use Rattle.samples16.proofs.Laws.{minus, minus-fits}
use Rattle.samples16.proofs.count_of.Statement.{statement}
use Rattle.samples16.proofs.count_of.Tie as tie

returns : tie.Need-returns-then-word-lt32768
returns c =
    let start = c.before.before in
    let n = c.magnitude_of.result in
    to_z_pos w32 n (omega (arith, c.magnitude_of.ensures.1))
    ∙ ap pos c.magnitude_of.ensures.0
    ∙ sym (count_plus start.args.word c.if-word-lt32768.true)

-- as much below nothing
below : (c : tie.After-magnitude_of-2) → pos 0 -ℤ to_z w32 c.magnitude_of-2.result ≡ negated c.magnitude_of-2.result
below c =
    let n = c.magnitude_of-2.result in
    ap (λ z. pos 0 -ℤ z) (to_z_pos w32 n (omega (arith, c.magnitude_of-2.ensures.1))) ∙ minus n

sub-result : tie.Need-overflow_sub-result
sub-result c = subst (SFits w32) (sym (below c)) (minus-fits c.magnitude_of-2.result c.magnitude_of-2.ensures.1)

returns-2 : tie.Need-returns
returns-2 c =
    to_z-of_z w32 _ (sub-result c)
    ∙ below c
    ∙ ap negated c.magnitude_of-2.ensures.0
    ∙ sym (count-minus c.args.word c.if-word-lt32768.false)

pub count_of_spec : {M : Type 1} → statement M
count_of_spec =
    tie.close
    (tie.spec
    (λ c κs. search rules)
    (λ c. search rules)
    returns
    (λ c κs. search rules)
    (λ c. search rules)
    sub-result
    returns-2)
