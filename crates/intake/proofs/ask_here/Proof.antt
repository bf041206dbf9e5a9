-- `intake::ask_here` meets its contract: the lookups find the rows that the course names, which are declared. Assumes nothing.
use mathlib.Core.Path.{◌≡◌, sym, ap, ◌∙◌}
use mathlib.Core.Bool.{true}
use Prim.Native.Nat.{◌<◌}
use borrow.Author.Rules.{rules}
use Rattle.layout.specs.Types.{is_ping}
use lib.ListN.{length}
use Rattle.intake.specs.Views.{as_asked}
use Rattle.intake.specs.inner.Tallies.{Tables, tables, ping_at}
use Rattle.intake.proofs.Rows.{ask-other, channel-below, sounder-below, ask-ping}
use Rattle.intake.proofs.ask_here.Statement.{statement}
use Rattle.intake.proofs.ask_here.Tie as tie

-- places, named by what has been done there
abbrev start : tie.After-find_channel-found → tie.Start
start c = c.before.before.before.before.before.before

abbrev held : tie.Start → Tables
held s = tables s.args.sounders.now s.args.channels.now

-- what was read and tested is whether a listed ping stands there
tested : (c : tie.After-is_ping) → let a = c.args in c.is_ping.result ≡ ping_at a.msb a.file.now a.w.at
tested c = c.is_ping.ensures ∙ ap is_ping c.kind_at.ensures

pings : (c : tie.After-named_at-channel) → let a = c.args in ping_at a.msb a.file.now a.w.at ≡ true
pings c = sym (tested c.before.before) ∙ search rules

-- the lookups' rows are declared
below-channel : (c : tie.After-find_channel-found)
    → c.find_channel-found.result < length (start c).args.channels.now
below-channel c = let s = start c in
    channel-below _ _ _ s.args.counts (held s) s.requires (pings c.before) _ _ c.named_at-channel.ensures
    c.find_channel-found.ensures

below-sounder : (c : tie.After-find_sounder-over)
    → c.find_sounder-over.result < length (start c.before.before).args.sounders.now
below-sounder c =
    let f = c.before.before in
    let s = start f in
    sounder-below _ _ _ s.args.counts (held s) s.requires (pings f.before) _ _ f.named_at-channel.ensures
    f.find_channel-found.ensures _ c.find_sounder-over.ensures

returns-2 : tie.Need-returns
returns-2 c =
    let k = c.before.before in
    let g = k.before.before in
    let f = g.before.before in
    let s = start f in
    ask-ping _ _ s.args.w _ (held s) s.requires (pings f.before) _ _ f.named_at-channel.ensures f.find_channel-found.ensures
    _ g.find_sounder-over.ensures _ _ _ k.wide.ensures k.narrow.ensures c.wide-2.ensures

pub ask_here_spec : {M : Type 1} → statement M
ask_here_spec =
    tie.close
    (tie.spec
    (λ c κs. search rules)
    (λ c κs. search rules)
    (λ c κs. search rules)
    (λ c. let s = c.before.before.before.before.before in
    ap as_asked c.refuse.ensures ∙ ask-other _ _ s.args.w _ (held s) (sym (tested c.before.before) ∙ search rules))
    (λ c κs. search rules)
    (λ c κs. search rules)
    (λ c. let l = below-channel c in search rules)
    below-channel
    (λ c. search rules)
    (λ c κs. search rules)
    (λ c. search rules)
    (λ c κs. search rules)
    (λ c. search rules)
    (λ c. search rules)
    (λ c κs. search rules)
    (λ c. let l = below-sounder c.before.before in search rules)
    (λ c. below-sounder c.before.before)
    (λ c. search rules)
    (λ c κs. search rules)
    returns-2)
