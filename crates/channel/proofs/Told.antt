-- Made from views/records.txt by views/make.
-- What reading hands back is settled by what the view says of it, and so by the promises of reading and writing. Assumes nothing.
use mathlib.Core.Path.{◌≡◌, refl, ap}
use mathlib.Core.Bool.{Bool}
use mathlib.Core.List.{List}
use Prim.Native.Nat.{ℕ}
use Rattle.std.specs.Prelude.{Result, Ok, Err}
use Rattle.layout.specs.declared.Counts.{Counts}
use Rattle.layout.specs.declared.Refusal.{Refusal}
use Rattle.layout.specs.Views.{as_answer}
use Rattle.layout.proofs.Told.{refusal_by, refusal_back, same_seen}
use Rattle.tuples.specs.declared.Part.{Part}
use Rattle.tuples.proofs.Told.{written_told}
use Rattle.channel.specs.declared.Channel.{Channel}
use Rattle.channel.specs.ChannelRead.{ChannelRead, Read, Refused}
use Rattle.channel.specs.Channel.{as_read, ChannelAt, channel-settled, ChannelWritten}

abbrev read_by : ChannelRead → Result (Channel × Part) Refusal
read_by (Read r t) = Ok (r, t)
read_by (Refused c p) = Err (refusal_by c p)

read_back : (r : Result (Channel × Part) Refusal) → read_by (as_read r) ≡ r
read_back (Ok r) = refl
read_back (Err r) = ap Err (refusal_back r)

pub same_read : (r s : Result (Channel × Part) Refusal) → as_read r ≡ as_read s → r ≡ s
same_read = same_seen as_read read_by read_back

-- ---- two outcomes that a promise allows are one, with the memory that it leaves
pub channel_told : {f : List ℕ} {p : ℕ} (r t : Result (Channel × Part) Refusal) → ChannelAt f p (as_read r)
    → ChannelAt f p (as_read t) → r ≡ t
channel_told r t a b = same_read r t (channel-settled a b)

pub channel_written_told : (o : Bool) (x : Channel) (t : List ℕ) (out : List ℕ) (r s : Result Counts Refusal)
    {left kept : List ℕ} → ChannelWritten o x t out (as_answer r) left
    → ChannelWritten o x t out (as_answer s) kept → (r ≡ s) × (left ≡ kept)
channel_written_told o x t out r s a b = written_told r s a b
