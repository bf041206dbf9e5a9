-- `ping_writers::parts::write_closing` meets its contract: the space, then attribute and backlink. Assumes nothing.
use borrow.Author.Rules.{rules}
use mir.Syntax.{w32}
use mir.Facts.{to_z-of_z}
use Rattle.ping_writers.proofs.parts.write_closing.Statement.{statement}
use Rattle.ping_writers.proofs.parts.write_closing.Tie as tie

returns : tie.Need-returns
returns c =
    let tail = c.before.before in
    let space = tail.before.before.before.before in
    let start = space.before.before.before in
    rw (
      tail.put_tail.ensures,
      space.write_space.ensures,
      to_z-of_z {w = w32} {z = start.args.attribute} start.ranges.attribute,
    )

pub write_closing_spec : {M : Type 1} → statement M
write_closing_spec =
    tie.close
    (tie.spec
    (λ c. search rules)
    (λ c κs. search rules)
    (λ c κs. search rules)
    (λ c. search rules)
    returns)
