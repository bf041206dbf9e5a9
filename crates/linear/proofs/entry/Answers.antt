-- `linear::entry` meets its contract: an entry of the defined table. Assumes nothing.
use Rattle.std.proofs.Common.{◌≡◌, ℕ, List, get_or, ap, ◌∙◌}
use Rattle.linear.specs.Roots.{roots}
use Rattle.linear.proofs.Rule.{entry-small}
use Rattle.linear.proofs.entry.Goals as goal

pub returns : goal.returns
returns c =
    let e : c.from.result ≡ get_or roots c.args.k 0 = c.from.ensures ∙ ap (λ (l : List ℕ). get_or l c.args.k 0) c.requires.0 in
    (e, rw e (entry-small c.args.k c.requires.1))
