-- `pings::header_at` meets its contract: each field is read at its place. Assumes nothing.
use mathlib.Core.Path.{sym, ap, ◌∙◌}
use borrow.Author.Rules.{rules}
use mir.Syntax.{w32}
use mir.Facts.{to_z-of_z}
use Rattle.layout.specs.Types.{ping_row}
use Rattle.turning.proofs.Contents.{values-at}
use Rattle.pings.specs.Fields.{header_of}
use Rattle.pings.proofs.header_at.Statement.{statement}
use Rattle.pings.proofs.header_at.Tie as tie

returns : tie.Need-returns
returns c =
    let fraction = c.before.before.before.before.before in
    let a = fraction.args in
    (λ i. record {
      time_fraction = fraction.read2.ensures i;
      time_cpu = c.read4.ensures i;
      software_channel_identifier = record { 0 = c.read2-2.ensures i };
      transmitter_mode = c.read2-3.ensures i;
      ping_number = c.read4-2.ensures i;
      detected_bottom_range =
          (to_z-of_z {w = w32} {z = c.signed4_at.result} (record { sfits = c.signed4_at.type_inv }) ∙ c.signed4_at.ensures) i;
    })
    ∙ ap header_of (sym (values-at a.msb ping_row a.file.now a.place 6))

pub header_at_spec : {M : Type 1} → statement M
header_at_spec =
    tie.close
    (tie.spec
    (λ c. search rules)
    (λ c κs. search rules)
    (λ c. search rules)
    (λ c κs. search rules)
    (λ c. search rules)
    (λ c κs. search rules)
    (λ c. search rules)
    (λ c κs. search rules)
    (λ c. search rules)
    (λ c κs. search rules)
    (λ c. search rules)
    (λ c κs. search rules)
    returns)
