-- `tuples::put_tail` meets its contract: the attribute's pattern, and the backlink. Assumes nothing.
use borrow.Author.Rules.{rules}
use mir.Syntax.{w32}
use Rattle.samples.proofs.Apart.{pattern-read}
use Rattle.tuples.proofs.put_tail.Statement.{statement}
use Rattle.tuples.proofs.put_tail.Tie as tie

returns : tie.Need-returns
returns c =
    let tail = c.before.before in
    let pattern = tail.before in
    let start = pattern.before.before.before in
    let read = pattern-read w32 4 start.args.attribute _ start.ranges.attribute.sfits pattern.pattern4.ensures in
    rw (tail.close_frame.ensures, read)

pub put_tail_spec : {M : Type 1} → statement M
put_tail_spec =
    tie.close
    (tie.spec
    (λ c. search rules)
    (λ c κs. search rules)
    (λ c κs. search rules)
    (λ c. search rules)
    returns)
