-- `intake::judge_links` meets its contract: what the tuple declares or names stands in its first bytes, and is judged by what its type
-- says. Assumes nothing.
use mathlib.Core.Path.{◌≡◌, sym, ap, ◌∙◌}
use native.Mathlib.Omega.{arith}
use borrow.Author.Rules.{rules}
use Rattle.layout.specs.declared.SoftwareChannel.{SoftwareChannel}
use Rattle.layout.specs.declared.Says.{Says}
use Rattle.layout.specs.Types.{says_of}
use Rattle.intake.specs.inner.Tallies.{named_at}
use Rattle.intake.proofs.Judges.{room, channel-whole, sounder-told, channel-told, attitude-all, attitude-one, names-told, no_link}
use Rattle.intake.proofs.judge_links.Statement.{statement}
use Rattle.intake.proofs.judge_links.Tie as tie

-- places, named by what has been done there
abbrev start : tie.After-says_of → tie.Start
start c = c.before.before.before

-- what the type says, in an arm of the match
said : (c : tie.After-says_of) {a : Says} → c.says_of.result ≡ a → says_of (start c).args.code ≡ a
said c e = sym c.says_of.ensures ∙ e

-- the channel that an attitude names
named : (c : tie.After-named_at-id) → let a = (start c.before.before).args in
    c.named_at-id.result.0 ≡ (named_at a.msb a.part.now a.from).0
named c = ap (λ (x : SoftwareChannel). x.0) c.named_at-id.ensures

returns-2 : tie.Need-returns-in-Nothing
returns-2 c = let m = c.before in let s = start m in no_link _ _ s.requires.0 s.requires.1.0 (said m c.in-Nothing.is)

returns-3 : tie.Need-returns-in-Sounder
returns-3 c =
    let e = c.before.before in
    let m = e.before in
    let s = start m in
    rw (c.judge_sounder.ensures, c.sounder_at-it.ensures)
    (sounder-told _ _ s.requires.0 s.requires.1.0 (said m e.in-Sounder.is))

returns-4 : tie.Need-returns-in-Channel
returns-4 c =
    let e = c.before.before in
    let m = e.before in
    let s = start m in
    rw (c.judge_channel.ensures, c.channel_at-it.ensures)
    (channel-told _ _ s.requires.0 s.requires.1.0 (said m e.in-Channel.is))

returns-6 : tie.Need-returns-in-Names
returns-6 c =
    let e = c.before.before in
    let m = e.before in
    let s = start m in
    rw (c.judge_name-in-Names.ensures, c.named_at.ensures)
    (names-told _ _ s.requires.0 s.requires.1.0 (said m e.in-Names.is))

pub judge_links_spec : {M : Type 1} → statement M
judge_links_spec =
    tie.close
    (tie.spec
    (λ c κs. search rules)
    (λ c. search rules)
    (λ c. search rules)
    (λ c κs. room (start c.before).requires.0)
    (λ c κs. search rules)
    (λ c. search rules)
    (λ c κs. let e = c in
    let m = e.before in
    let p = (start m).requires in
    channel-whole p.0 p.1.0 (said m e.in-Channel.is))
    (λ c κs. search rules)
    (λ c. search rules)
    (λ c κs. room (start c.before).requires.0)
    (λ c. let r = c.before.before in
    let m = r.before.before in
    let s = start m in
    attitude-all _ _ s.requires.0 s.requires.1.0 (said m r.in-NamesOrAll.is) (sym (named r) ∙ search rules))
    (λ c κs. search rules)
    (λ c. search rules)
    (λ c κs. room (start c.before).requires.0)
    (λ c κs. search rules)
    returns-2
    returns-3
    returns-4
    (λ c. let r = c.before.before.before in
    let m = r.before.before in
    let s = start m in
    rw (c.judge_name.ensures, r.named_at-id.ensures)
    (attitude-one _ _ s.requires.0 s.requires.1.0 (said m r.in-NamesOrAll.is) (λ e. omega (arith, named r, e))))
    returns-6)
