-- `salvage::salvage` meets its contract: the rules of a file, then those of its salvage. Assumes nothing.
use Rattle.std.proofs.Common.{sym, ap, ◌∙◌}
use Rattle.frame.proofs.Files.{marked_4}
use Rattle.salvage.specs.Views.{as_outcome}
use Rattle.salvage.proofs.Outcomes.{over-limit, no_mark}
use Rattle.salvage.proofs.salvage.Goals as goal

pub returns-then-file-gt-LIMIT : goal.returns-then-file-gt-LIMIT
returns-then-file-gt-LIMIT c = rw (ap as_outcome c.refuse.ensures) (over-limit _ _ _ c.if-file-gt-LIMIT.true)

pub returns-then-not-is_marked : goal.returns-then-not-is_marked
returns-then-not-is_marked c =
    rw (ap as_outcome c.refuse-then-not-is_marked.ensures)
    (no_mark _ _ _ c.if-file-gt-LIMIT.false (sym c.is_marked.ensures ∙ c.if-not-is_marked.true))

pub is_msb-requires : goal.is_msb-requires
is_msb-requires c = marked_4 _ (sym c.is_marked.ensures ∙ c.if-not-is_marked.false)

pub sum_up-dear-requires-clause-in_bounds : goal.sum_up-dear-requires-clause-in_bounds
sum_up-dear-requires-clause-in_bounds c =
    (marked_4 _ (sym c.is_marked.ensures ∙ c.if-not-is_marked.false), c.if-file-gt-LIMIT.false)
