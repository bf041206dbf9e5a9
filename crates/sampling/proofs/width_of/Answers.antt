-- `sampling::width_of` meets its contract: each type's shape says its width. Assumes nothing.
use Rattle.std.proofs.Common.{◌≡◌, Bool, true, false, refl, sym, ap, ◌∙◌, arith, rules}
use Rattle.layout.specs.Families.{wide, narrow}
use Rattle.layout.specs.Types.{compressed}
use Rattle.samples.specs.inner.Narrow.{words_by}
use Rattle.pings.proofs.Parts.{arm_u, arm_c}
use Rattle.sampling.specs.inner.Walking.{width_of}
use Rattle.sampling.proofs.Walking.{narrow-left}
use Rattle.sampling.proofs.width_of.Goals as goal

narrow-width : (b : Bool) → width_of (compressed (words_by b)) ≡ 2
narrow-width true = refl
narrow-width false = refl

pub returns-in-10000 : goal.returns-in-10000
returns-in-10000 c = (sym (ap width_of (arm_u wide refl c.in-10000.is)), omega arith, omega arith)

pub returns-in-10010 : goal.returns-in-10010
returns-in-10010 c = (sym (ap width_of (arm_c wide refl c.in-10010.is)), omega arith, omega arith)

pub returns-in-10030 : goal.returns-in-10030
returns-in-10030 c = (sym (ap width_of (arm_u narrow refl c.in-10030.is)), omega arith, omega arith)

pub returns-in_default : goal.returns-in_default
returns-in_default c =
    let q = narrow-left c.args.code c.requires (search rules) in
    (sym (ap width_of q.1 ∙ narrow-width q.0), omega arith, omega arith)
