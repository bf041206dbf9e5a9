-- Where the code's check stands: a tally and the tables of the declarations, and the course that they stand for. Assumes nothing.
use Rattle.std.specs.Prelude.{◌≡◌, ℕ, zero, suc, ◌+◌, ◌-◌, ◌*◌, ◌≤◌, ◌<◌, Bool, true, false, cond, ◌||◌, List, [], ◌∷◌, ◌++◌, eqb, length, take, drop, set}
use Rattle.std.proofs.Math.Option.{some}
use Rattle.std.proofs.Math.Option
use Rattle.layout.specs.Types.{is_ping}
use Rattle.order.specs.Order.{num_of}
use Rattle.rules.specs.Rules.{◌⇒◌}
use Rattle.layout.specs.declared.Maker.{Maker}
use Rattle.layout.specs.declared.SoftwareChannel.{SoftwareChannel}
use Rattle.layout.specs.declared.Counts.{Counts}
use Rattle.layout.specs.Answer.{Answer}
use Rattle.layout.specs.Verdict.{Verdict}
use Rattle.layout.specs.Verdict.{Fine}
use Rattle.layout.specs.Answers.{both, judged, ◌byte◌}
use Rattle.layout.specs.Types.{lengths_of, fitting, in_class}
use Rattle.layout.specs.Types
use Rattle.frame.specs.Frames.{Tup, len_at, kind_at, tup_at, framing}
use Rattle.links.specs.inner.LinkVerdict.{LinkVerdict}
use Rattle.links.specs.declared.Sounder.{Sounder}
use Rattle.links.specs.declared.Channel.{Channel}
use Rattle.links.specs.Links.{id_of, most_sounders, most_channels, sign_rules, rules_among, compares_among, Apart, Steady}
use Rattle.links.specs.inner.Tables.{sounders_in, channels_in, tuples_in, comparing, linking}
use Rattle.content.specs.Items.{head_rules, inner_rules, digest}
use Rattle.intake.specs.Asked.{Asked}
use Rattle.intake.specs.Asked.{Refused}
use Rattle.intake.specs.declared.Tally.{Tally}
use Rattle.intake.specs.inner.Turned.{Turned}
use Rattle.intake.specs.inner.Turned.{On, Done}
use Rattle.intake.specs.Check.{Course, begin, Turn, stop, go, turn_on, check_from}
use Rattle.intake.specs.Asking.{course_to, channel_nth, channel_for, sounder_nth, parents_in}

-- the tables: a row for each sounder, and for each channel
pub record Tables : Type 0 where
  pub sounders : List (List ℕ)
  pub channels : List (List ℕ)

abbrev pub tables : List (List ℕ) → List (List ℕ) → Tables
tables sounders channels = record { sounders = sounders; channels = channels }

-- they are as long as the most sounders and channels
pub record Sized (c : Tables) : Type 0 where
  pub sounders : length c.sounders ≡ most_sounders
  pub channels : length c.channels ≡ most_channels

-- what is declared: as many rows as the tally says
abbrev pub sounders_by : Tally → Tables → List Sounder
sounders_by w c = sounders_in w.sounders c.sounders

abbrev pub channels_by : Tally → Tables → List Channel
channels_by w c = channels_in w.channels c.channels

-- the course
abbrev pub course_of : Tally → Tables → Course
course_of w c =
    record {
      at = w.at;
      count = w.count;
      compared = w.compared;
      links = record {
        sounders = sounders_by w c;
        channels = channels_by w c;
        position = w.position;
        sounder = w.sounder;
        channel = w.channel;
        ping = w.ping;
      };
      sounders = tuples_in w.sounders c.sounders;
      channels = tuples_in w.channels c.channels;
    }

abbrev pub turn_of : Turned → Tables → Turn
turn_of (On w) c = go (course_of w c)
turn_of (Done a) c = stop a

-- the tables hold what the tally counts, and no two channels have the same identifier
pub record Held (w : Tally) (c : Tables) : Type 0 where
  pub sounders : w.sounders ≤ length c.sounders
  pub channels : w.channels ≤ length c.channels
  pub apart : Apart id_of (channels_by w c)

-- the tally counts no more than there may be before its place
pub record Standing (w : Tally) : Type 0 where
  pub few : w.count * 16 + 4 ≤ w.at
  pub spent : w.compared ≤ w.count * most_channels
  pub sounders : w.sounders ≤ most_sounders
  pub channels : w.channels ≤ most_channels

abbrev pub StandsOn : Turned → Type 0
StandsOn (On w) = Standing w
StandsOn (Done a) = Unit {0}

-- what the rules keep of the declarations, where the check goes on
abbrev pub SteadyOn : Turned → Tables → Type 0
SteadyOn (On w) c = Steady (course_of w c).links
SteadyOn (Done a) c = Unit {0}

-- ---- a tuple at a place, framed: its whole length and its type code
pub record Here (o : Bool) (f : List ℕ) (at n k : ℕ) : Type 0 where
  pub framed : framing o (drop at f) ≡ Fine
  pub size : len_at o (drop at f) ≡ n
  pub kind : kind_at o (drop at f) ≡ k

-- its length fits its type
abbrev pub Fits : ℕ → ℕ → Type 0
Fits n k = fitting (lengths_of k) n ≡ true

-- what a maker's sounder tuple and channel tuple declare, and the channel that another names, by their bytes
abbrev pub sounder_at : Bool → List ℕ → ℕ → Maker → Sounder
sounder_at o f at m =
    record { doc = record { 0 = num_of o (take 4 (drop (at + 8) f)) }; says = num_of o (take 2 (drop (at + 6) f)); maker = m }

abbrev pub channel_at : Bool → List ℕ → ℕ → Maker → Channel
channel_at o f at m =
    record {
      id = record { 0 = num_of o (take 2 (drop (at + 6) f)) };
      parent = record { 0 = num_of o (take 4 (drop (at + 8) f)) };
      rate = num_of o (take 4 (drop (at + 12) f));
      samples = num_of o (take 2 (drop (at + 16) f));
      maker = m;
    }

abbrev pub named_at : Bool → List ℕ → ℕ → SoftwareChannel
named_at o f at = record { 0 = num_of o (take 2 (drop (at + 12) f)) }

-- ---- the verdicts of its parts
-- 7; 9, 8
unfoldable pub head_verdict : Bool → Bool → Tup → Verdict
head_verdict o first t = both (judged (sign_rules first (digest o t))) (judged (head_rules o t))

-- 12, 14, 13
unfoldable pub link_verdict : Bool → Tup → List Sounder → List Channel → Verdict
link_verdict o t ss cs = judged (rules_among ss cs (digest o t).link)

-- 11; 23, or 24 and 25
unfoldable pub inner_verdict : Bool → Tup → Verdict
inner_verdict o t = judged (inner_rules o t)

-- a tuple's own rules: 9, 8, 11; 23, or 24 and 25
unfoldable pub own_verdict : Bool → Tup → Verdict
own_verdict o t = judged (head_rules o t ++ inner_rules o t)

-- all of them, of what is left of the file: 4; 3, 5, 3, 6; then the tuple's
unfoldable pub turn_verdict : Bool → Bool → List Sounder → List Channel → List ℕ → Verdict
turn_verdict o first ss cs r =
    let t = tup_at o r in
    both (judged ((eqb (length r) 0 ⇒ 4 byte 0) ∷ []))
    (both (framing o r) (both (head_verdict o first t) (both (link_verdict o t ss cs) (inner_verdict o t))))

-- ---- what is said of the tuple where a tally stands and r is left, and what is told of it: by its links alone, and by all rules
abbrev pub said : Bool → List ℕ → Tally → Tables → Verdict
said o r w c = turn_verdict o (eqb w.count 0) (sounders_by w c) (channels_by w c) r

abbrev pub compares_at : Bool → List ℕ → Tally → Tables → ℕ
compares_at o r w c = compares_among (sounders_by w c) (channels_by w c) (digest o (tup_at o r)).link

unfoldable pub link_told : Bool → List ℕ → Tally → Tables → LinkVerdict
link_told o r w c = linking (sounders_by w c) (channels_by w c) (digest o (tup_at o r)).link

unfoldable pub turn_told : Bool → List ℕ → Tally → Tables → LinkVerdict
turn_told o r w c = comparing (said o r w c) (compares_at o r w c)

-- ---- the tally behind the mark, and past a tuple of n bytes and of a type code that compares m identifiers, before what it declares;
-- the next channel is looked for first on any row
abbrev pub tally_begin : Tally
tally_begin =
    record {
      at = 4;
      count = 0;
      compared = 0;
      sounders = 0;
      channels = 0;
      near = 0;
      position = false;
      sounder = false;
      channel = false;
      ping = false;
    }

abbrev pub tally_past : Tally → ℕ → ℕ → ℕ → ℕ → Tally
tally_past w n k m near =
    record {
      at = w.at + n;
      count = w.count + 1;
      compared = w.compared + m;
      sounders = w.sounders;
      channels = w.channels;
      near = near;
      position = w.position || in_class Types.position k;
      sounder = w.sounder || in_class Types.sounder k;
      channel = w.channel || in_class Types.channel k;
      ping = w.ping || in_class Types.ping k;
    }

-- ---- what a tuple declares: so many in the tally, and its row
abbrev pub declaring : Tally → ℕ → ℕ → Tally
declaring w sounders channels =
    record {
      at = w.at;
      count = w.count;
      compared = w.compared;
      sounders = sounders;
      channels = channels;
      near = w.near;
      position = w.position;
      sounder = w.sounder;
      channel = w.channel;
      ping = w.ping;
    }

abbrev pub one_sounder : Tally → Tally
one_sounder w = declaring w (w.sounders + 1) w.channels

abbrev pub one_channel : Tally → Tally
one_channel w = declaring w w.sounders (w.channels + 1)

abbrev pub with_sounder : Tables → ℕ → List ℕ → Tables
with_sounder c i r = tables (set c.sounders i r) c.channels

abbrev pub with_channel : Tables → ℕ → List ℕ → Tables
with_channel c i r = tables c.sounders (set c.channels i r)

-- ---- what a turn takes and hands back, in a file of n bytes of which r are left
pub record TurnedTo (o : Bool) (n : ℕ) (r : List ℕ) (w : Tally) (c : Tables) (t : Turned) (d : Tables) : Type 0 where
  pub turns : turn_of t d ≡ turn_on o n (course_of w c) r
  pub stands : StandsOn t
  pub sized : Sized d
  pub steady : SteadyOn t d

-- what passing a tuple of m bytes and of the index class hands back, whatever bytes it has, and whatever the file's order, its length and
-- the tables: they stay as they are
pub record PassedIndex (w : Tally) (m : ℕ) (v : Tally) : Type 0 where
  pub at : v.at ≡ w.at + m
  pub turns : (o : Bool) (n : ℕ) (r : List ℕ) (c : Tables) → framing o r ≡ Fine → len_at o r ≡ m
      → in_class Types.index (kind_at o r) ≡ true
      → turn_on o n (course_of w c) r ≡ go (course_of v c)
  pub stands : Standing v
  pub steady : (c : Tables) → Steady (course_of w c).links → Steady (course_of v c).links

-- ---- turns one by one: from a course on, in a file of n bytes of which r are left, until it stands at a place p; at most k of them
unfoldable pub turns_to : ℕ → Bool → ℕ → ℕ → Course → List ℕ → Turn
turns_to zero o n p w r = go w
turns_to (suc k) o n p w r =
    cond (eqb w.at p) (go w) (elim (turn_on o n w r) [ stop a ↦ stop a | go v ↦ turns_to k o n p v (drop (len_at o r) r) ])

abbrev pub ThereOn : ℕ → Turned → Type 0
ThereOn p (On w) = w.at ≡ p
ThereOn p (Done a) = Unit {0}

-- what they hand back; one turn a byte that is left, and one more, are enough
pub record RanTo (o : Bool) (n p : ℕ) (r : List ℕ) (w : Tally) (c : Tables) (t : Turned) (d : Tables) : Type 0 where
  pub turns : turn_of t d ≡ turns_to (suc (length r)) o n p (course_of w c) r
  pub there : ThereOn p t
  pub stands : StandsOn t
  pub sized : Sized d
  pub steady : SteadyOn t d

-- ---- what the turns from the mark hand back: the tally that stands at a place p, with what is still to come of the check,
pub record StoodAt (o : Bool) (f : List ℕ) (p : ℕ) (w : Tally) (c : Tables) : Type 0 where
  pub there : w.at ≡ p
  pub within : w.at ≤ length f
  pub standing : Standing w
  pub sized : Sized c
  pub steady : Steady (course_of w c).links
  pub found : course_to (length f) o f p begin ≡ some (course_of w c)
  pub same : check_from (length f) o f begin ≡ check_from (length f - w.count) o f (course_of w c)

-- or the check's answer, where no turn starts at that place
pub record EndedBefore (o : Bool) (f : List ℕ) (p : ℕ) (a : Answer) : Type 0 where
  pub answer : a ≡ check_from (length f) o f begin
  pub missed : course_to (length f) o f p begin ≡ Option.none

abbrev pub RunTo : Bool → List ℕ → ℕ → Turned → Tables → Type 0
RunTo o f p (On w) c = StoodAt o f p w c
RunTo o f p (Done a) c = EndedBefore o f p a

-- ---- asking where a tally stands
-- the type code there is a listed ping's
abbrev pub ping_at : Bool → List ℕ → ℕ → Bool
ping_at o f at = is_ping (kind_at o (drop at f))

unfoldable pub ask_where : Bool → List ℕ → Counts → Course → Asked
ask_where o f n w = cond (ping_at o f w.at) (parents_in w (named_at o f w.at) n) (Refused 9 w.at)

-- what asking there rests on: a frame's bytes are left, and a ping's rows are declared
pub record AskIn (o : Bool) (f : List ℕ) (w : Tally) (c : Tables) : Type 0 where
  pub left : w.at + 16 ≤ length f
  pub sounder_room : w.sounders ≤ length c.sounders
  pub channel_room : w.channels ≤ length c.channels
  pub declared : ping_at o f w.at ≡ true
      → (channel_nth (course_of w c) (named_at o f w.at) < w.channels)
      × (sounder_nth (course_of w c) (channel_for (course_of w c) (named_at o f w.at)).parent < w.sounders)
