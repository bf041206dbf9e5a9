-- `settings::role_at` meets its contract: what the type says, and the channel that is read. Assumes nothing.
use mathlib.Core.Path.{◌≡◌, refl, sym, ap, ◌∙◌}
use mathlib.Core.Bool.{true, false}
use borrow.Author.Rules.{rules}
use Rattle.layout.specs.declared.SoftwareChannel.{SoftwareChannel}
use Rattle.layout.specs.declared.Says.{Says}
use Rattle.layout.specs.declared.Says.TheVariants as says
use Rattle.layout.specs.Types.{says_of}
use Rattle.intake.specs.inner.Tallies.{named_at}
use Rattle.intake.proofs.Judges.{room, channel-whole, sound-fits}
use Rattle.settings.specs.declared.Role.TheVariants.{Ping, Threshold, Attitude, Declares}
use Rattle.settings.proofs.Roles.{role-read, role-all, role-attitude}
use Rattle.settings.proofs.role_at.Statement.{statement}
use Rattle.settings.proofs.role_at.Tie as tie

-- places, named by what has been done there
abbrev start : tie.After-says_of → tie.Start
start c = c.before.before

abbrev looked : tie.After-is_ping → tie.After-says_of
looked c = c.before.before.before

-- what the type says, in an arm of the match
said : (c : tie.After-says_of) {a : Says} → c.says_of.result ≡ a → says_of (start c).args.tuple.code ≡ a
said c e = sym c.says_of.ensures ∙ e

-- the channel that an attitude names
named : (c : tie.After-named_at-named) → let a = (start c.before.before).args in
    c.named_at-named.result.0 ≡ (named_at a.msb a.file.now a.tuple.at).0
named c = ap (λ (x : SoftwareChannel). x.0) c.named_at-named.ensures

returns : tie.Need-returns-then-named
returns c =
    let r = c.before.before in
    let m = r.before.before in
    role-all (start m).requires (said m r.in-NamesOrAll.is) (sym (named r) ∙ c.if-named.true)

returns-2 : tie.Need-returns-then-is_ping
returns-2 c =
    let p = c.before in
    let m = looked p in
    ap Ping p.named_at-named-in-Names.ensures
    ∙ role-read (start m).requires says.Names true (said m p.in-Names.is)
    (sym p.is_ping.ensures ∙ c.if-is_ping.true)

returns-3 : tie.Need-returns-in-Nothing
returns-3 c = let m = c.before in role-read (start m).requires says.Nothing _ (said m c.in-Nothing.is) refl

returns-4 : tie.Need-returns-in-Sounder
returns-4 c = let m = c.before in role-read (start m).requires (says.Sounder _) _ (said m c.in-Sounder.is) refl

returns-5 : tie.Need-returns-in-Channel
returns-5 c =
    let e = c.before in
    let m = e.before in
    ap Declares c.channel_at.ensures ∙ role-read (start m).requires (says.Channel _) _ (said m e.in-Channel.is) refl

returns-6 : tie.Need-returns-else-named
returns-6 c =
    let r = c.before.before in
    let m = r.before.before in
    ap Attitude r.named_at-named.ensures
    ∙ role-attitude (start m).requires (said m r.in-NamesOrAll.is) (λ e. c.if-named.false (named r ∙ e))

returns-7 : tie.Need-returns-else-is_ping
returns-7 c =
    let p = c.before in
    let m = looked p in
    ap Threshold p.named_at-named-in-Names.ensures
    ∙ role-read (start m).requires says.Names false (said m p.in-Names.is)
    (sym p.is_ping.ensures ∙ c.if-is_ping.false)

pub role_at_spec : {M : Type 1} → statement M
role_at_spec =
    tie.close
    (tie.spec
    (λ c κs. search rules)
    (λ c. search rules)
    (λ c. search rules)
    (λ c. search rules)
    (λ c κs. let e = c in let m = e.before in let s = (start m).requires in
    channel-whole s.here (sound-fits s) (said m e.in-Channel.is))
    (λ c. search rules)
    (λ c κs. room (start c.before).requires.here)
    returns
    (λ c. search rules)
    (λ c κs. room (start c.before).requires.here)
    (λ c κs. search rules)
    returns-2
    returns-3
    returns-4
    returns-5
    returns-6
    returns-7)
