-- `corrections::is_wanted` meets its contract: the type code, the channel, the number, the attribute. Assumes nothing.
use mathlib.Core.Path.{◌≡◌, sym, ap, ◌∙◌}
use mathlib.Core.Bool.{true}
use native.Mathlib.Omega.{arith}
use borrow.Author.Rules.{rules}
use borrow.Author.Tests.{not-true, not-false}
use lib.ListN.{drop}
use Rattle.layout.specs.declared.SoftwareChannel.{SoftwareChannel}
use Rattle.layout.specs.Types.{is_ping}
use Rattle.frame.specs.Frames.{kind_at}
use Rattle.content.proofs.Places.{field_at}
use Rattle.intake.proofs.Judges.{room}
use Rattle.corrections.proofs.Wanted.{sound-whole, pinged, not-ping, other-channel, other-number, any-attribute, one-attribute}
use Rattle.corrections.proofs.is_wanted.Statement.{statement}
use Rattle.corrections.proofs.is_wanted.Tie as tie

-- places, named by what has been done there
abbrev start : tie.After-is_ping → tie.Start
start c = c.before.before.before

abbrev asked : tie.After-named_at-named → tie.Start
asked c = start c.before.before

abbrev named : tie.Else-named-channel → tie.After-named_at-named
named c = c.before.before.before

-- it is a ping, or it is none
tested : (c : tie.After-is_ping) → let a = (start c).args in c.is_ping.result ≡ is_ping (kind_at a.msb (drop a.at a.file.now))
tested c = c.is_ping.ensures ∙ ap is_ping c.kind_at.ensures

is : (c : tie.Else-not-is_ping) → let a = (start c.before).args in is_ping (kind_at a.msb (drop a.at a.file.now)) ≡ true
is c = sym (tested c.before) ∙ not-false _ c.if-not-is_ping.false-raw

-- the channel that it names
channel : (c : tie.After-named_at-named) → let a = (asked c).args in c.named_at-named.result.0 ≡ field_at a.msb a.file.now a.at 2 12
channel c = ap (λ (x : SoftwareChannel). x.0) c.named_at-named.ensures

returns : tie.Need-returns-then-not-is_ping
returns c = not-ping (start c.before).requires _ _ _ (sym (tested c.before) ∙ not-true _ c.if-not-is_ping.true-raw)

returns-2 : tie.Need-returns-then-named-channel
returns-2 c =
    let n = c.before.before.before in
    other-channel (asked n).requires _ _ _ (is n.before) (λ e. c.if-named-channel.true (channel n ∙ e))

returns-3 : tie.Need-returns-then-read4-number
returns-3 c =
    let n = named c.before.before in
    other-number (asked n).requires _ _ _ (is n.before) (sym (channel n) ∙ c.if-named-channel.false)
    (λ e. c.if-read4-number.true (c.read4.ensures ∙ e))

returns-4 : tie.Need-returns-then-not-edited
returns-4 c =
    let r = c.before.before in
    let n = named r.before in
    any-attribute (asked n).requires _ _ _ (is n.before) (sym (channel n) ∙ r.if-named-channel.false)
    (sym r.read4.ensures ∙ c.if-read4-number.false) (not-true _ c.if-not-edited.true-raw)

returns-5 : tie.Need-returns
returns-5 c =
    let r = c.before.before.before in
    let n = named r.before in
    one-attribute (asked n).requires _ _ _ (is n.before) (sym (channel n) ∙ r.if-named-channel.false)
    (sym r.read4.ensures ∙ c.if-read4-number.false) (not-false _ c.if-not-edited.false-raw) _ c.read4-2.ensures

pub is_wanted_spec : {M : Type 1} → statement M
is_wanted_spec =
    tie.close
    (tie.spec
    (λ c κs. let s = c.requires in omega (arith, (sound-whole s).fits, (sound-whole s).long))
    (λ c κs. search rules)
    returns
    (λ c κs. room (start c.before).requires.here)
    returns-2
    (λ c. search rules)
    (λ c κs. let n = named c in let s = (asked n).requires in omega (arith, (sound-whole s).fits, (pinged s (is n.before)).long))
    returns-3
    returns-4
    (λ c. let s = (asked (named c.before.before.before)).requires in omega (arith, (sound-whole s).fits))
    (λ c. let s = (asked (named c.before.before.before)).requires in omega (arith, (sound-whole s).long))
    (λ c κs. let s = (asked (named c.before.before.before)).requires in omega (arith, (sound-whole s).fits, (sound-whole s).long))
    returns-5)
