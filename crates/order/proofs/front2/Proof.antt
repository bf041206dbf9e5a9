-- `order::front2` meets its contract: of the four bytes from `at` on the first two (`window`), in the order that the test found.
-- Assumes nothing.
use mathlib.Core.Path.{◌∙◌}
use native.Mathlib.Omega.{arith}
use borrow.Author.Rules.{rules}
use Rattle.order.proofs.Stores.{places, window}
use Rattle.order.proofs.front2.Statement.{statement}
use Rattle.order.proofs.front2.Tie as tie

-- places, named by what has been done there
abbrev start : tie.After-shared_slice_known-5-1 → tie.Start
start c = c.before.before.before.before.before

returns : tie.Need-returns-then-msb
returns c =
    let s = start c.before.before in
    c.turned_front.ensures
    ∙ simp (places, window 2 s.args.file.now s.args.at (omega (arith, s.requires)), c.if-msb.true)

returns-2 : tie.Need-returns-else-msb
returns-2 c =
    let s = start c.before.before in
    c.front.ensures
    ∙ simp (places, window 2 s.args.file.now s.args.at (omega (arith, s.requires)), c.if-msb.false)

pub front2_spec : {M : Type 1} → statement M
front2_spec =
    tie.close
    (tie.spec
    (λ c. search rules)
    (λ c. search rules)
    (λ c. search rules)
    (λ c. search rules)
    (λ c. search rules)
    (λ c. search rules)
    (λ c. search rules)
    (λ c κs. search rules)
    (λ c κs. search rules)
    returns
    returns-2)
