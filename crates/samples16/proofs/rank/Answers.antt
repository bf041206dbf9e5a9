-- `samples16::rank` meets its contract: the first two of four bytes, in the order that the test found. Assumes nothing.
use Rattle.std.proofs.Common.{◌∙◌, sym, ap, Bool, take}
use Rattle.order.specs.Order.{num_of}
use Rattle.samples16.specs.inner.Ranks.{rank_of}
use Rattle.samples16.proofs.Ranks.{rank_turned, rank_plain}
use Rattle.samples16.proofs.rank.Goals as goal

pub returns-then-msb : goal.returns-then-msb
returns-then-msb c =
    rank_turned c.args.sample.now 0 _ (λ i. (c.type_inv.sample i).fits) c.requires c.read4-front.ensures
    ∙ ap (λ (o : Bool). rank_of o (num_of o (take 2 c.args.sample.now))) (sym c.if-msb.true)

pub returns : goal.returns
returns c =
    rank_plain c.args.sample.now 0 _ (λ i. (c.type_inv.sample i).fits) c.requires c.read4-front.ensures
    ∙ ap (λ (o : Bool). rank_of o (num_of o (take 2 c.args.sample.now))) (sym c.if-msb.false)
