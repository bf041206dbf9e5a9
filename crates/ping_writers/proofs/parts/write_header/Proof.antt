-- `ping_writers::parts::write_header` meets its contract: six stores, one behind the other. Assumes nothing.
use borrow.Author.Rules.{rules}
use mir.Syntax.{w32}
use Rattle.samples.proofs.Apart.{pattern-read}
use Rattle.ping_writers.proofs.Storing.{header-stored}
use Rattle.ping_writers.proofs.parts.write_header.Statement.{statement}
use Rattle.ping_writers.proofs.parts.write_header.Tie as tie

returns : tie.Need-returns
returns c =
    let bottom = c.before.before in
    let pattern = bottom.before in
    let number = pattern.before.before.before.before.before in
    let mode = number.before.before.before.before in
    let channel = mode.before.before.before.before in
    let time = channel.before.before.before.before in
    let fraction = time.before.before.before.before in
    let a = fraction.args in
    rw (
      bottom.store4-3.ensures,
      pattern-read w32 4 a.header.detected_bottom_range _ pattern.struct_told-1.given.1.1.1.1.1.0.1
          pattern.pattern4.ensures,
      number.store4-2.ensures,
      mode.store2-3.ensures,
      channel.store2-2.ensures,
      time.store4.ensures,
      fraction.store2.ensures,
    )
    (header-stored a.msb a.out.now a.header)

pub write_header_spec : {M : Type 1} → statement M
write_header_spec =
    tie.close
    (tie.spec
    (λ c κs. search rules)
    (λ c κs. search rules)
    (λ c κs. search rules)
    (λ c κs. search rules)
    (λ c κs. search rules)
    (λ c κs. search rules)
    (λ c κs. search rules)
    (λ c. search rules)
    returns)
