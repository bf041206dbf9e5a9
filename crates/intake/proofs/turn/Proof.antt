-- `intake::turn` meets its contract: what was said of the tuple, and what its type says, tell which law of a turn holds. Assumes nothing.
use mathlib.Core.Path.{ap, ◌≡◌, sym, subst, ◌∙◌}
use mathlib.Core.List.{List}
use Prim.Native.Nat.{ℕ, ◌<◌}
use native.Mathlib.Omega.{arith}
use borrow.Author.Rules.{rules}
use borrow.Author.Tests.{not-true, not-false}
use lib.ListN.{drop}
use Rattle.layout.specs.Verdict.{Fine, Fault}
use Rattle.layout.specs.Code.{number}
use Rattle.links.specs.inner.Views.{as_linked}
use Rattle.layout.specs.declared.Says.{Says}
use Rattle.layout.specs.Types.{says_of}
use Rattle.frame.specs.Frames.{len_at}
use Rattle.frame.proofs.Frames.{allowed-most}
use Rattle.frame.proofs.Places.{Whole, framing-whole}
use Rattle.links.specs.declared.Sounder.{Sounder}
use Rattle.links.specs.declared.Channel.{Channel}
use Rattle.links.specs.Links.{most_channels}
use Rattle.links.specs.inner.Tables.{sounder_of, sounder_row, channel_of, channel_row}
use Rattle.intake.specs.inner.Tallies.{Tables, tables, Here, said, compares_at, TurnedTo}
use Rattle.intake.specs.declared.Tally.{Tally}
use Rattle.intake.specs.inner.Turned.{On}
use Rattle.intake.proofs.Said.{QuietBy, quiet-class, no_end-class, fault_near, fine-parts}
use Rattle.intake.proofs.Judges.{room, whole, channel-whole, turn-fine, turn_fault}
use Rattle.intake.proofs.Tallies.{compares-few, fine-fits, holds, room-sounder, room-channel, turns_fault, turns-sounder}
use Rattle.intake.proofs.Tallies.{turns-channel, turns-end, turns-other}
use Rattle.intake.proofs.turn.Statement.{statement}
use Rattle.intake.proofs.turn.Tie as tie

-- places, named by what has been done there
abbrev asked : tie.After-judge-arg-6-1 → tie.Start
asked c = c.before.before.before.before.before.before.before

abbrev passed : tie.After-says_of → tie.After-past-next
passed c = c.before.before.before

abbrev typed : tie.After-says_of → tie.After-kind_at-code
typed c = (passed c).before

abbrev of-sounder : tie.After-put_sounder-arg-1 → tie.In-Sounder
of-sounder c = c.before.before

abbrev of-channel : tie.After-put_channel-arg-1 → tie.In-Channel
of-channel c = c.before.before

abbrev held : tie.Start → Tables
held s = tables s.args.sounders.now s.args.channels.now

-- what is left of the part
abbrev left : tie.Start → List ℕ
left s = drop s.args.from s.args.part.now

abbrev start : tie.After-judge → tie.Start
start c = c.before.before.before.before.before.before.before.before

judge-requires : tie.Need-judge-requires
judge-requires c κs =
    let s = asked c in
    (s.requires.1.1.1.0, (holds s.requires.1.1.1.1 s.requires.0 s.requires.1.0, search rules))

-- no fault is found
fine : (c : tie.In-Ok) → let s = start c.before in said s.args.msb (left s) s.args.w (held s) ≡ Fine
fine c = (turn-fine _ _ _ _ c.judge.ensures (ap as_linked c.in-Ok.is)).0

-- and so many identifiers are compared
cost : (c : tie.In-Ok) → let s = start c.before in
    compares_at s.args.msb (left s) s.args.w (held s) ≡ c.in-Ok.compared
cost c = (turn-fine _ _ _ _ c.judge.ensures (ap as_linked c.in-Ok.is)).1

faulty : (c : tie.In-Err) → let s = start c.before in
    said s.args.msb (left s) s.args.w (held s) ≡ Fault (number c.in-Err.flaw.code) c.in-Err.flaw.offset
faulty c = turn_fault _ _ _ _ c.judge.ensures (ap as_linked c.in-Err.is)

add-refuse : tie.Need-at-requires
add-refuse c κs =
    let z = fault_near _ _ _ _ _ _ _ (faulty c) in
    let s = start c.before in
    omega (arith, s.requires.1.1.0)

there : (c : tie.In-Ok) → let s = start c.before in
    Whole s.args.msb s.args.part.now s.args.from (len_at s.args.msb (left s))
there c = framing-whole _ _ _ (fine-parts _ _ _ _ _ (fine c)).framed

length-at-requires : tie.Need-length_at-whole-requires
length-at-requires c κs = let h = there c in omega arith

kind-at-requires : tie.Need-kind_at-code-requires
kind-at-requires c κs = let h = there c.before in omega arith

-- the tuple, its length and its type code read
abbrev from : tie.After-kind_at-code → tie.Start
from c = start c.before.before.before

here : (c : tie.After-kind_at-code) → let s = from c in
    Here s.args.msb s.args.part.now s.args.from c.length_at-whole.result c.kind_at-code.result
here c =
    record {
      framed = (fine-parts _ _ _ _ _ (fine c.before.before)).framed;
      size = sym c.length_at-whole.ensures;
      kind = sym c.kind_at-code.ensures;
    }

past-requires : tie.Need-past-next-requires
past-requires c κs =
    let s = from c in
    let h = whole (here c) in
    let p = s.requires.0 in
    let l = s.requires.1.1.0 in
    let d = c.before.before in (
      omega (arith, allowed-most _ h.allowed, l),
      omega (arith, p.few, l),
      omega (arith, p.spent, p.few, l, cost d, compares-few s.args.msb s.requires.1.1.1.1 p (left s)),
    )

-- what the type says, in an arm of the match
says-by : (c : tie.After-says_of) {a : Says} → c.says_of.result ≡ a → says_of (typed c).kind_at-code.result ≡ a
says-by c e = sym c.says_of.ensures ∙ e

-- ---- a sounder
put-sounder-requires : tie.Need-put_sounder-requires
put-sounder-requires c κs =
    let e = of-sounder c in
    let m = e.before in
    let k = typed m in
    let s = from k in (
      room-sounder _ s.requires.1.1.1.1 s.requires.0 (here k) (fine k.before.before) (says-by m e.in-Sounder.is),
      omega (arith, s.requires.1.1.0),
    )

add-next : tie.Need-overflow_add-next
add-next c = let s = from (typed (of-sounder c.before.before).before) in omega (arith, s.requires.0.sounders)

returns-7 : tie.Need-returns-in-Sounder
returns-7 c =
    let d = c.before in
    let n = d.before.before in
    let e = n.before in
    let m = e.before in
    let k = typed m in
    let s = from k in
    rw ((passed m).past-next.ensures, d.put_sounder.ensures.0, n.sounder_at-it.ensures)
    (turns-sounder _ _ s.requires.1.1.1.1 s.requires.0 s.requires.1.0 _ (here k) (fine k.before.before)
    (cost k.before.before) (says-by m e.in-Sounder.is)
    (subst (λ (x : Sounder). sounder_of (sounder_row x s.args.w.at) ≡ x) n.sounder_at-it.ensures d.put_sounder.ensures.1))

-- ---- a channel
channel-at-requires : tie.Need-channel_at-it-requires
channel-at-requires c κs =
    let e = c in
    let m = e.before in
    let k = typed m in
    let s = from k in
    channel-whole (here k) (fine-fits _ s.requires.1.1.1.1 s.requires.0 (here k) (fine k.before.before))
    (says-by m e.in-Channel.is)

-- there is room for it
room_for : (e : tie.In-Channel) → let s = from (typed e.before) in s.args.w.channels < most_channels
room_for e =
    let m = e.before in
    let k = typed m in
    let s = from k in
    room-channel _ s.requires.1.1.1.1 s.requires.0 (here k) (fine k.before.before) (says-by m e.in-Channel.is)

put-channel-requires : tie.Need-put_channel-requires
put-channel-requires c κs =
    let e = of-channel c in
    let s = from (typed e.before) in
    (room_for e, omega (arith, s.requires.1.1.0))

add-next-2 : tie.Need-overflow_add-next-in-Channel
add-next-2 c =
    let s = from (typed (of-channel c.before.before.before.before.before).before) in
    omega (arith, s.requires.0.channels)

returns-8 : tie.Need-returns-in-Channel
returns-8 c =
    let d = c.before.before.before in
    let n = d.before.before in
    let e = n.before.before in
    let m = e in
    let k = typed m.before in
    let s = from k in
    rw ((passed m.before).past-next.ensures, d.put_channel.ensures.0, n.channel_at-it.ensures)
    (turns-channel _ _ s.requires.1.1.1.1 s.requires.0 s.requires.1.0 _ (here k) (fine k.before.before)
    (cost k.before.before) (says-by m.before e.in-Channel.is)
    (subst (λ (x : Channel). channel_of (channel_row x s.args.w.at) ≡ x) n.channel_at-it.ensures d.put_channel.ensures.1))

-- ---- the end of file
abbrev ended : tie.After-end-arg-then-code-3-1 → tie.Then-code
ended c = c.before.before.before.before

end-requires : tie.Need-end-requires
end-requires c κs =
    let p = (ended c).before.before.before in
    let s = from p.before in
    rw p.past-next.ensures (
      omega (arith, s.requires.1.1.1.1.sounders, s.requires.0.sounders),
      omega (arith, s.requires.1.1.1.1.channels, s.requires.0.channels),
    )

returns : tie.Need-returns-then-code
returns c =
    let t = ended c.before in
    let p = t.before.before.before in
    let k = p.before in
    let s = from k in
    rw (c.end.ensures, p.past-next.ensures)
    (turns-end _ _ s.requires.1.1.1.1 s.requires.0 s.requires.1.0 p.past-next.result.near (here k) (fine k.before.before)
    (cost k.before.before) t.if-code.true)

-- ---- a fault, and any other tuple
returns-3 : tie.Need-returns-in-Err
returns-3 c =
    let s = start c.before.before in
    rw c.at.ensures (turns_fault _ _ s.requires.1.1.1.1 s.requires.0 s.requires.1.0 _ _ _ (faulty c.before))

-- what is of another class than what declares
returns-2 : tie.Need-returns-then-not-may_declare
returns-2 c =
    let d = c.before.before in
    let p = d.before in
    let k = p.before in
    let s = from k in
    let q = sym d.may_declare.ensures ∙ not-true _ c.if-not-may_declare.true-raw in
    rw p.past-next.ensures (turns-other _ _ s.requires.1.1.1.1 s.requires.0 s.requires.1.0 _ (here k) (fine k.before.before)
    (cost k.before.before) (quiet-class k.kind_at-code.result q) c.if-code.false)

-- what is of such a class and declares nothing
other : (m : tie.After-says_of) → QuietBy m.says_of.result
    → let s = from (typed m) in
    TurnedTo s.args.msb s.args.total (left s) s.args.w (held s) (On (passed m).past-next.result) (held s)
other m q =
    let k = typed m in
    let s = from k in
    let d = m.before.before in
    let e = sym d.may_declare.ensures ∙ not-false _ m.if-not-may_declare.false-raw in
    subst (λ (x : Tally). TurnedTo s.args.msb s.args.total (left s) s.args.w (held s) (On x) (held s))
    (sym (passed m).past-next.ensures)
    (turns-other _ _ s.requires.1.1.1.1 s.requires.0 s.requires.1.0 _ (here k) (fine k.before.before)
    (cost k.before.before) (subst QuietBy m.says_of.ensures q) (no_end-class k.kind_at-code.result e))

returns-4 : tie.Need-returns-in-Nothing
returns-4 c = other c.before (subst QuietBy (sym c.in-Nothing.is) tt)

returns-5 : tie.Need-returns-in-Names
returns-5 c = other c.before (subst QuietBy (sym c.in-Names.is) tt)

returns-6 : tie.Need-returns-in-NamesOrAll
returns-6 c = other c.before (subst QuietBy (sym c.in-NamesOrAll.is) tt)

pub turn_spec : {M : Type 1} → statement M
turn_spec =
    tie.close
    (tie.spec
    judge-requires
    (λ c. search rules)
    add-refuse
    (λ c. search rules)
    length-at-requires
    kind-at-requires
    past-requires
    (λ c κs. search rules)
    end-requires
    returns
    returns-2
    (λ c κs. search rules)
    (λ c. search rules)
    (λ c. search rules)
    (λ c. search rules)
    (λ c. search rules)
    (λ c κs. room (here (typed c.before)))
    put-sounder-requires
    add-next
    (λ c. search rules)
    channel-at-requires
    put-channel-requires
    (λ c κs. room_for (of-channel c.before.before.before))
    add-next-2
    returns-3
    returns-4
    returns-5
    returns-6
    returns-7
    returns-8)
