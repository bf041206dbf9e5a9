-- `samples16::value_of` meets its contract: a count is found again from its pattern; a word's signed number is handed over wider. Assumes
-- nothing.
use mathlib.Core.Path.{◌≡◌, sym, subst, ◌∙◌}
use borrow.Author.Rules.{rules}
use mir.Syntax.{w16, w32}
use mir.Val.{SFits, to_z, of_z}
use mir.ValLaws.{to_z-of_z}
use Rattle.samples16.proofs.Laws.{widens, value-encoded, value-plain}
use Rattle.samples16.proofs.value_of.Statement.{statement}
use Rattle.samples16.proofs.value_of.Tie as tie

returns : tie.Need-returns-then-encoded
returns c =
    let a = c.args in
    let n = c.count_of.result in
    to_z-of_z w32 n (record { sfits = c.count_of.type_inv })
    ∙ value-encoded a.encoded a.word n c.if-encoded.true c.count_of.type_inv c.count_of.ensures

-- a word's signed number, read through its bits
narrow : (c : tie.After-signed2) → to_z w16 (of_z w16 c.signed2.result) ≡ c.signed2.result
narrow c = to_z-of_z w16 c.signed2.result (record { sfits = c.signed2.type_inv })

cast-result : tie.Need-overflow_cast-result
cast-result c = subst (SFits w32) (sym (narrow c)) (record { sfits = widens c.signed2.result c.signed2.type_inv })

returns-2 : tie.Need-returns
returns-2 c =
    let a = c.args in
    to_z-of_z w32 _ (cast-result c)
    ∙ narrow c
    ∙ c.signed2.ensures
    ∙ value-plain a.encoded a.word c.if-encoded.false

pub value_of_spec : {M : Type 1} → statement M
value_of_spec = tie.close (tie.spec
    (λ c κs. search rules)
    returns
    (λ c κs. search rules)
    cast-result
    returns-2)
