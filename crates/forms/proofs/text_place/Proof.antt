-- `forms::text_place` meets its contract: an event's fields have 6 bytes, an end of file's 8; others fill their data. Assumes nothing.
use Rattle.forms.proofs.Texts.{text_event, text-end, text-none, tail-fits}
use Rattle.forms.proofs.text_place.Statement.{statement}
use Rattle.forms.proofs.text_place.Tie as tie

pub text_place_spec : {M : Type 1} → statement M
text_place_spec =
    tie.close
    (tie.spec
    (λ c. let p = c.requires in tail-fits p.0 p.1 c.in_default.in_default-own.rest.0.1 c.in_default.in_default-own.rest.1)
    (λ c. text_event c.requires.1 c.in-10110.is)
    (λ c. text-end c.requires.1 c.in-65534.is)
    (λ c. let p = c.requires in text-none p.0 p.1 c.in_default.in_default-own.rest.0.1 c.in_default.in_default-own.rest.1))
