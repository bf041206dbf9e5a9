-- A text as wide as its field is copied whole.
use Rattle.layout.specs.inner.Codes.{field_of}
use Rattle.turning.proofs.Writes.{wrote_text}
use Rattle.turning.proofs.write_field.Goals as goal

pub returns-in-99-clause-out_after : goal.returns-in-99-clause-out_after
unfolding field_of
returns-in-99-clause-out_after c =
    (wrote_text c.args.code c.args.number c.args.to c.args.msb c.args.text.now c.args.out.now c.in-99.is c.requires.text_value
    c.copy.ensures).0
