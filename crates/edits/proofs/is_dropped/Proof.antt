-- `edits::is_dropped` meets its contract: a tuple stands there, and its class decides. Assumes nothing.
use mathlib.Core.Path.{sym, ap, ◌∙◌}
use mathlib.Core.Bool.{Bool, ◌&&◌}
use native.Mathlib.Omega.{arith}
use borrow.Author.Rules.{rules}
use lib.ListN.{drop}
use Rattle.order.proofs.Laws.{bytes_of_lem}
use Rattle.layout.specs.Types
use Rattle.layout.specs.Types.{in_class}
use Rattle.frame.specs.Frames.{kind_at}
use Rattle.edits.proofs.Dividing.{Front}
use Rattle.edits.proofs.Keeping.{here, holds_16}
use Rattle.edits.proofs.is_dropped.Statement.{statement}
use Rattle.edits.proofs.is_dropped.Tie as tie

-- the tuple that stands there
front : (c : tie.Then-is_tuple) → let a = c.args in Front a.msb (drop a.at a.part.now)
front c =
    let k = c.before.before in
    let a = k.args in
    here a.msb a.part.now a.at (bytes_of_lem a.part.now (λ i. (k.shared_slice_known-1.given i).fits))
    (sym c.is_tuple.ensures ∙ c.if-is_tuple.true)

kind-at-requires : tie.Need-kind_at-requires
kind-at-requires c κs = omega (arith, holds_16 _ _ _ (front c) c.requires)

returns : tie.Need-returns-then-is_tuple
returns c =
    let e = c.before.before in
    let a = e.args in
    let q = drop a.at a.part.now in
    c.in_class.ensures
    ∙ ap (in_class Types.index) c.kind_at.ensures
    ∙ sym (ap (λ (b : Bool). b && in_class Types.index (kind_at a.msb q)) (sym e.is_tuple.ensures ∙ e.if-is_tuple.true))

returns-2 : tie.Need-returns
returns-2 c =
    let a = c.args in
    let q = drop a.at a.part.now in
    sym (ap (λ (b : Bool). b && in_class Types.index (kind_at a.msb q)) (sym c.is_tuple.ensures ∙ c.if-is_tuple.false))

pub is_dropped_spec : {M : Type 1} → statement M
is_dropped_spec = tie.close (tie.spec
    (λ c κs. search rules)
    kind-at-requires
    (λ c κs. search rules)
    returns
    returns-2)
