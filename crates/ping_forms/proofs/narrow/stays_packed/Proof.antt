-- `ping_forms::narrow::stays_packed` meets its contract: encoded, or the last word is a run, or a sample is numbered past two bytes.
-- Assumes nothing.
use mathlib.Core.Path.{sym, ◌∙◌}
use borrow.Author.Rules.{rules}
use Rattle.ping_forms.proofs.narrow.stays_packed.Statement.{statement}
use Rattle.ping_forms.proofs.narrow.stays_packed.Tie as tie

returns : tie.Need-returns-then-encoded
returns c = rw c.if-encoded.true

returns-2 : tie.Need-returns-then-ends_in_run
returns-2 c =
    let e = c.before in
    rw (e.if-encoded.false, sym e.ends_in_run.ensures ∙ c.if-ends_in_run.true)

returns-3 : tie.Need-returns
returns-3 c =
    let k = c.before in
    let e = k.before in
    rw (e.if-encoded.false, sym e.ends_in_run.ensures ∙ k.if-ends_in_run.false, c.count_samples.ensures)

pub stays_packed_spec : {M : Type 1} → statement M
stays_packed_spec =
    tie.close
    (tie.spec
    returns
    (λ c κs. search rules)
    returns-2
    (λ c κs. search rules)
    returns-3)
