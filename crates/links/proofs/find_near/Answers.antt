-- `links::find_near` meets its contract: a guess that has the identifier is the one row. Assumes nothing.
use Rattle.std.proofs.Common.{◌∙◌}
use Rattle.links.proofs.Rows.{guessed}
use Rattle.links.proofs.find_near.Goals as goal

pub returns-then-is_on : goal.returns-then-is_on
returns-then-is_on c =
    let k = c.is_on.ensures c.if-is_on.true in
    guessed _ _ _ _ c.requires.used_in_bounds c.requires.apart k.0 (k.1 ∙ c.from-key.ensures)

pub returns-then-is_on-2 : goal.returns-then-is_on-2
returns-then-is_on-2 c =
    let k = c.is_on-then-near-gt0.ensures c.if-is_on-2.true in
    guessed _ _ _ _ c.requires.used_in_bounds c.requires.apart k.0 (k.1 ∙ c.from-key.ensures)

pub returns-then-is_on-3 : goal.returns-then-is_on-3
returns-then-is_on-3 c =
    let k = c.is_on-2.ensures c.if-is_on-3.true in
    guessed _ _ _ _ c.requires.used_in_bounds c.requires.apart k.0 (k.1 ∙ c.from-key.ensures)
