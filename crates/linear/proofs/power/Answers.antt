-- `linear::power` meets its contract: a power of ten looked up. Assumes nothing.
use Rattle.std.proofs.Common.{◌≡◌, ℕ, List, get_or, ap, ◌∙◌}
use Rattle.linear.specs.inner.Values.{powers_of_ten}
use Rattle.linear.proofs.Rule.{power-at}
use Rattle.linear.proofs.power.Goals as goal

pub returns : goal.returns
returns c =
    let n = c.args.n in
    let e : get_or c.args.powers.now n 0 ≡ get_or powers_of_ten n 0 = ap (λ (l : List ℕ). get_or l n 0) c.requires.0 in
    let p = power-at n c.requires.1 in
    (e ∙ p.0, rw e p.1)
