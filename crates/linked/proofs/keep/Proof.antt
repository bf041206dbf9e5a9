-- `linked::keep` meets its contract: what the type says declares a channel or none. Assumes nothing.
use mathlib.Core.Path.{◌≡◌, sym, ap, ◌∙◌}
use mathlib.Core.List.{[]}
use Prim.Native.Nat.{◌<◌}
use native.Mathlib.Omega.{arith}
use borrow.Author.Rules.{rules}
use lib.ListN.{length}
use Rattle.layout.specs.declared.Says.{Says}
use Rattle.layout.specs.Types.{says_of}
use Rattle.links.specs.Links.{most_channels}
use Rattle.intake.proofs.Judges.{channel-whole, sound-fits}
use Rattle.linked.specs.inner.Here.{new_here, Past}
use Rattle.linked.proofs.Kept.{new_nothing, new_sounder, new_names, new_all, new_channel, none_more, one_more}
use Rattle.linked.proofs.keep.Statement.{statement}
use Rattle.linked.proofs.keep.Tie as tie

-- places, named by what has been done there
abbrev start : tie.After-says_of → tie.Start
start c = c.before.before

abbrev looked : tie.In-Channel → tie.After-says_of
looked c = c.before

-- what the type says, in an arm of the match
said : (c : tie.After-says_of) {a : Says} → c.says_of.result ≡ a → says_of (start c).args.code ≡ a
said c e = sym c.says_of.ensures ∙ e

-- where none is declared
none : (c : tie.After-says_of) → let a = (start c).args in new_here a.msb a.file.now a.at ≡ []
    → Past a.used a.rows.now (new_here a.msb a.file.now a.at) a.used a.rows.now
none c e = none_more _ _ (start c).requires.1.1.1 e

-- a channel that is declared has room
room : (c : tie.In-Channel) → (start (looked c)).args.used < most_channels
room c =
    let s = start (looked c) in
    let one = ap length (new_channel s.requires.0 (said (looked c) c.in-Channel.is)) in
    omega (arith, one, s.requires.1.1.0)

returns-5 : tie.Need-returns-in-Channel
returns-5 c =
    let p = c.before.before in
    let i = p.before.before in
    let l = i.before in
    let s = start (looked l.before) in
    one_more _ _ s.requires.1.1.1 i.channel_at-it.result _ (new_channel s.requires.0 (said (looked l.before) l.in-Channel.is))
    i.channel_at-it.ensures p.put_channel.ensures.1 (room l.before) _ p.put_channel.ensures.0

pub keep_spec : {M : Type 1} → statement M
keep_spec =
    tie.close
    (tie.spec
    (λ c κs. search rules)
    (λ c. search rules)
    (λ c. search rules)
    (λ c. search rules)
    (λ c. search rules)
    (λ c. search rules)
    (λ c κs. let s = (start (looked c)).requires.0 in
    channel-whole s.here (sound-fits s) (said (looked c) c.in-Channel.is))
    (λ c κs. let l = c.before.before in (room l, (start (looked l)).requires.1.0))
    (λ c κs. room c.before.before.before.before.before)
    (λ c. search rules)
    (λ c. let m = c.before in none m (new_nothing (start m).requires.0 (said m c.in-Nothing.is)))
    (λ c. let m = c.before in none m (new_sounder (start m).requires.0 (said m c.in-Sounder.is)))
    (λ c. let m = c.before in none m (new_names (start m).requires.0 (said m c.in-Names.is)))
    (λ c. let m = c.before in none m (new_all (start m).requires.0 (said m c.in-NamesOrAll.is)))
    returns-5)
