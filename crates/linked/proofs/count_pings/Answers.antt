-- `linked::count_pings` meets its contract: the pings counted and those to come are all (`Counting`). Assumes nothing.
use Rattle.std.proofs.Common.{sym, ◌∙◌, arith}
use Rattle.intake.proofs.Loops.{accepted_4}
use Rattle.frame.proofs.Onward.{passes-below, passes-whole, passes-code, passes-next, passes-file, passes-msb, passed-all}
use Rattle.linked.proofs.Along.{telling-whole}
use Rattle.linked.proofs.Finding.{counting-begin, counting-done, counting-ping, counting-other}
use Rattle.linked.proofs.count_pings.Goals as goal

pub is_msb-msb-requires : goal.is_msb-msb-requires
is_msb-msb-requires c = accepted_4 _ c.requires

pub loop-tuple-init : goal.loop-tuple-init
loop-tuple-init c =
    let i = c.into_iter-tuple-iterator.ensures.into_iter_gives in
    let b = c.behind_mark-tuple-items.ensures in
    rw i (tt, tt, b.from.0, b.order, rw b.from.1 (counting-begin _ _ c.requires c.is_msb-msb.ensures))

pub loop-tuple-preserved-then-is_ping : goal.loop-tuple-preserved-then-is_ping
loop-tuple-preserved-then-is_ping c =
    let i = c.loop-tuple.invariant in
    let p = c.in-Some.ensures.steps in (
      tt,
      tt,
      passes-file _ _ _ p _ _ i.2 i.3,
      passes-msb _ _ _ p _ _ i.2 i.3,
      rw (passes-next _ _ _ p _ _ i.2 i.3)
          (counting-ping i.4 (passes-below _ _ _ p _ _ i.2 i.3) _ _ (passes-whole _ _ _ p _ _ i.2 i.3) (passes-code _ _ _ p _ _ i.2 i.3)
          (sym c.is_ping.ensures ∙ c.if-is_ping.true)),
    )

pub loop-tuple-preserved : goal.loop-tuple-preserved
loop-tuple-preserved c =
    let i = c.loop-tuple.invariant in
    let p = c.in-Some.ensures.steps in (
      tt,
      tt,
      passes-file _ _ _ p _ _ i.2 i.3,
      passes-msb _ _ _ p _ _ i.2 i.3,
      rw (passes-next _ _ _ p _ _ i.2 i.3)
          (counting-other i.4 (passes-below _ _ _ p _ _ i.2 i.3) _ _ (passes-whole _ _ _ p _ _ i.2 i.3) (passes-code _ _ _ p _ _ i.2 i.3)
          (sym c.is_ping.ensures ∙ c.if-is_ping.false)),
    )

pub returns : goal.returns
returns c =
    let i = c.loop-tuple.invariant in
    let s = c.loop-tuple.tuple-iterator in
    let over = passed-all s _ _ i.2 i.3 c.in-None.ensures.steps (λ h. telling-whole i.4.telling h) in
    counting-done i.4 (omega (arith, over))
