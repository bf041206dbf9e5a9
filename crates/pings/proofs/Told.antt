-- What the readers of pings hand back, and a length that is handed over, is settled by what the views say of it, and so by the promises.
-- Assumes nothing.
use mathlib.Core.Path.{◌≡◌, refl, ap}
use mathlib.Core.List.{List}
use Prim.Native.Nat.{ℕ}
use lib.IntN.{ℤ}
use Rattle.std.specs.Prelude.{Result, Ok, Err, Some, None}
use Rattle.layout.specs.declared.Counts.{Counts}
use Rattle.layout.specs.declared.Refusal.{Refusal}
use Rattle.layout.specs.Views.{as_answer}
use Rattle.layout.proofs.Told.{refusal_by, refusal_back, same_seen, same_answer}
use Rattle.pings.specs.declared.Ping.{Ping}
use Rattle.pings.specs.PingRead.{PingRead, Read, Refused}
use Rattle.pings.specs.PingLength.{PingLength}
use Rattle.pings.specs.Headers.{handed_length, told_length}
use Rattle.pings.specs.Views.{as_ping}
use Rattle.pings.specs.Fields.{PingAt, ping-settled}
use Rattle.pings.specs.Readers.{SamplesRead, AnglesRead, samples-settled, angles-settled}

-- ---- a ping's fields
abbrev ping_read_by : PingRead → Result Ping Refusal
ping_read_by (Read h a k n l) = Ok (record { header = h; attribute = a; kind = k; values = n; length = l })
ping_read_by (Refused c p) = Err (refusal_by c p)

ping_back : (r : Result Ping Refusal) → ping_read_by (as_ping r) ≡ r
ping_back (Ok it) = refl
ping_back (Err r) = ap Err (refusal_back r)

pub same_ping : (r s : Result Ping Refusal) → as_ping r ≡ as_ping s → r ≡ s
same_ping = same_seen as_ping ping_read_by ping_back

-- ---- a length that is handed over
length_back : (l : PingLength) → told_length (handed_length l) ≡ l
length_back None = refl
length_back (Some n) = refl

pub same_length : (l m : PingLength) → handed_length l ≡ handed_length m → l ≡ m
same_length = same_seen handed_length told_length length_back

-- ---- two outcomes that a promise allows are one, with the memory that it leaves
pub ping_told : {f : List ℕ} {p : ℕ} (r t : Result Ping Refusal) → PingAt f p (as_ping r) → PingAt f p (as_ping t) → r ≡ t
ping_told r t a b = same_ping r t (ping-settled a b)

pub samples_told : {f : List ℕ} {p : ℕ} {numbers : List ℕ} {values : List ℤ} (r s : Result Counts Refusal) {ns ms : List ℕ}
    {vs us : List ℤ} → SamplesRead f p numbers values (as_answer r) ns vs → SamplesRead f p numbers values (as_answer s) ms us
    → (r ≡ s) × (ns ≡ ms) × (vs ≡ us)
samples_told r s a b = let e = samples-settled a b in (same_answer r s e.0, e.1, e.2)

pub angles_told : {f : List ℕ} {p : ℕ} {numbers : List ℕ} {alongship athwartship : List ℤ} (r s : Result Counts Refusal)
    {ns ms : List ℕ} {xs ys us ws : List ℤ} → AnglesRead f p numbers alongship athwartship (as_answer r) ns xs ys
    → AnglesRead f p numbers alongship athwartship (as_answer s) ms us ws → (r ≡ s) × (ns ≡ ms) × (xs ≡ us) × (ys ≡ ws)
angles_told r s a b = let e = angles-settled a b in (same_answer r s e.0, e.1, e.2, e.3)
