-- Made from views/records.txt by views/make.
-- The records: where a file holds what the writer wrote of one, in either byte order, every outcome that the reader's promise allows is
-- that record, and where its characters are said to stand stand those written: in the words of the specs, and of what the code hands
-- back. Assumes nothing.
use mathlib.Core.Path.{◌≡◌, refl, ap, ap₂, ◌∙◌}
use mathlib.Core.Bool.{Bool}
use mathlib.Core.List.{List, [], ◌∷◌}
use Prim.Native.Nat.{ℕ}
use lib.Dec.{lit<}
use lib.ListN.{take}
use Rattle.std.specs.Prelude.{Result, Ok}
use Rattle.order.specs.Order.{Bytes}
use Rattle.layout.specs.declared.Counts.{Counts}
use Rattle.layout.specs.declared.Refusal.{Refusal}
use Rattle.layout.specs.Answer.{Answer, Accepted}
use Rattle.layout.specs.Types.{listings, among, listing_of}
use Rattle.tuples.specs.declared.Part.{Part}
use Rattle.rows.specs.Readers.{row_text, characters_at}
use Rattle.roundtrip.specs.Held.{Holds}
use Rattle.roundtrip.proofs.Handed.{again-row, again-plain}
use Rattle.signature.specs.declared.Signature.{Signature}
use Rattle.signature.specs.SignatureRead.{SignatureRead}
use Rattle.signature.specs.SignatureRead as signature
use Rattle.signature.specs.Signature.{signature_of, signature_integers, signature_inverse}
use Rattle.signature.specs.Signature.{SignatureTyped, SignatureAt, SignatureWritten}
use Rattle.signature.specs.Signature as signatures
use Rattle.signature.proofs.Told as signature_told
use Rattle.sounder.specs.declared.Sounder.{Sounder}
use Rattle.sounder.specs.SounderRead.{SounderRead}
use Rattle.sounder.specs.SounderRead as sounder
use Rattle.sounder.specs.Sounder.{sounder_of, sounder_integers, sounder_inverse}
use Rattle.sounder.specs.Sounder.{SounderTyped, SounderAt, SounderWritten}
use Rattle.sounder.specs.Sounder as sounders
use Rattle.sounder.proofs.Told as sounder_told
use Rattle.ek500_sounder.specs.declared.Ek500Sounder.{Ek500Sounder}
use Rattle.ek500_sounder.specs.Ek500SounderRead.{Ek500SounderRead}
use Rattle.ek500_sounder.specs.Ek500SounderRead as ek500Sounder
use Rattle.ek500_sounder.specs.Ek500Sounder.{ek500_sounder_of, ek500_sounder_integers, ek500_sounder_inverse}
use Rattle.ek500_sounder.specs.Ek500Sounder.{Ek500SounderTyped, Ek500SounderAt, Ek500SounderWritten}
use Rattle.ek500_sounder.specs.Ek500Sounder as ek500Sounders
use Rattle.ek500_sounder.proofs.Told as ek500Sounder_told
use Rattle.channel.specs.declared.Channel.{Channel}
use Rattle.channel.specs.ChannelRead.{ChannelRead}
use Rattle.channel.specs.ChannelRead as channel
use Rattle.channel.specs.Channel.{channel_of, channel_integers, channel_inverse}
use Rattle.channel.specs.Channel.{ChannelTyped, ChannelAt, ChannelWritten}
use Rattle.channel.specs.Channel as channels
use Rattle.channel.proofs.Told as channel_told
use Rattle.ek500_channel.specs.declared.Ek500Channel.{Ek500Channel}
use Rattle.ek500_channel.specs.Ek500ChannelRead.{Ek500ChannelRead}
use Rattle.ek500_channel.specs.Ek500ChannelRead as ek500Channel
use Rattle.ek500_channel.specs.Ek500Channel.{ek500_channel_of, ek500_channel_integers, ek500_channel_inverse}
use Rattle.ek500_channel.specs.Ek500Channel.{Ek500ChannelTyped, Ek500ChannelAt, Ek500ChannelWritten}
use Rattle.ek500_channel.specs.Ek500Channel as ek500Channels
use Rattle.ek500_channel.proofs.Told as ek500Channel_told
use Rattle.threshold.specs.declared.Threshold.{Threshold}
use Rattle.threshold.specs.ThresholdRead.{ThresholdRead}
use Rattle.threshold.specs.ThresholdRead as threshold
use Rattle.threshold.specs.Threshold.{threshold_of, threshold_integers, threshold_inverse}
use Rattle.threshold.specs.Threshold.{ThresholdTyped, ThresholdAt, ThresholdWritten}
use Rattle.threshold.specs.Threshold as thresholds
use Rattle.threshold.proofs.Told as threshold_told
use Rattle.position.specs.declared.Position.{Position}
use Rattle.position.specs.PositionRead.{PositionRead}
use Rattle.position.specs.PositionRead as position
use Rattle.position.specs.Position.{position_of, position_integers, position_inverse}
use Rattle.position.specs.Position.{PositionTyped, PositionAt, PositionWritten}
use Rattle.position.specs.Position as positions
use Rattle.position.proofs.Told as position_told
use Rattle.navigation.specs.declared.Navigation.{Navigation}
use Rattle.navigation.specs.NavigationRead.{NavigationRead}
use Rattle.navigation.specs.NavigationRead as navigation
use Rattle.navigation.specs.Navigation.{navigation_of, navigation_integers, navigation_inverse}
use Rattle.navigation.specs.Navigation.{NavigationTyped, NavigationAt, NavigationWritten}
use Rattle.navigation.specs.Navigation as navigations
use Rattle.navigation.proofs.Told as navigation_told
use Rattle.attitude.specs.declared.Attitude.{Attitude}
use Rattle.attitude.specs.AttitudeRead.{AttitudeRead}
use Rattle.attitude.specs.AttitudeRead as attitude
use Rattle.attitude.specs.Attitude.{attitude_of, attitude_integers, attitude_inverse}
use Rattle.attitude.specs.Attitude.{AttitudeTyped, AttitudeAt, AttitudeWritten}
use Rattle.attitude.specs.Attitude as attitudes
use Rattle.attitude.proofs.Told as attitude_told
use Rattle.event.specs.declared.Event.{Event}
use Rattle.event.specs.EventRead.{EventRead}
use Rattle.event.specs.EventRead as event
use Rattle.event.specs.Event.{event_of, event_integers, event_inverse}
use Rattle.event.specs.Event.{EventTyped, EventAt, EventWritten}
use Rattle.event.specs.Event as events
use Rattle.event.proofs.Told as event_told
use Rattle.run_start.specs.declared.RunStart.{RunStart}
use Rattle.run_start.specs.RunStartRead.{RunStartRead}
use Rattle.run_start.specs.RunStartRead as runStart
use Rattle.run_start.specs.RunStart.{run_start_of, run_start_integers, run-start_inverse}
use Rattle.run_start.specs.RunStart.{RunStartTyped, RunStartAt, RunStartWritten}
use Rattle.run_start.specs.RunStart as runStarts
use Rattle.run_start.proofs.Told as runStart_told
use Rattle.run_end.specs.declared.RunEnd.{RunEnd}
use Rattle.run_end.specs.RunEndRead.{RunEndRead}
use Rattle.run_end.specs.RunEndRead as runEnd
use Rattle.run_end.specs.RunEnd.{run_end_of, run_end_integers, run-end_inverse}
use Rattle.run_end.specs.RunEnd.{RunEndTyped, RunEndAt, RunEndWritten}
use Rattle.run_end.specs.RunEnd as runEnds
use Rattle.run_end.proofs.Told as runEnd_told
use Rattle.file_end.specs.declared.FileEnd.{FileEnd}
use Rattle.file_end.specs.FileEndRead.{FileEndRead}
use Rattle.file_end.specs.FileEndRead as fileEnd
use Rattle.file_end.specs.FileEnd.{file_end_of, file_end_integers, file-end_inverse}
use Rattle.file_end.specs.FileEnd.{FileEndTyped, FileEndAt, FileEndWritten}
use Rattle.file_end.specs.FileEnd as fileEnds
use Rattle.file_end.proofs.Told as fileEnd_told

pub signature-again : (r : Signature) → SignatureTyped r → {o : Bool} {out left f : List ℕ} {p : ℕ} {n : Counts} {x : SignatureRead}
    → SignatureWritten o r out (Accepted n) left → Holds f p o (take n.written left) → SignatureAt f p x → x ≡ signature.Read r
unfolding listing_of among listings
signature-again r g {o = o} w h a =
    let v = again-plain 65535 (signature_integers r) [] (lit< tt) g tt refl refl refl o w h in
    a.outcome ∙ ap₂ signatures.answered v.answer (ap signature_of v.integers ∙ signature_inverse r)

pub signature_given : (r : Signature) → SignatureTyped r
    → {o : Bool} {out left f : List ℕ} {p : ℕ} {n : Counts} (x : Result Signature Refusal)
    → SignatureWritten o r out (Accepted n) left → Holds f p o (take n.written left) → SignatureAt f p (signatures.as_read x)
    → x ≡ Ok r
signature_given r g x w h a = signature_told.same_read x (Ok r) (signature-again r g w h a)

pub sounder-again : (r : Sounder) (t : List ℕ) → SounderTyped r → Bytes t
    → {o : Bool} {out left f : List ℕ} {p : ℕ} {n : Counts} {x : SounderRead}
    → SounderWritten o r t out (Accepted n) left → Holds f p o (take n.written left) → SounderAt f p x
    → (x ≡ sounder.Read r (row_text 100 f p)) × (characters_at f (row_text 100 f p) ≡ t)
sounder-again r t g b {o = o} {f = f} {p = p} w h a =
    let v = again-row 100 (sounder_integers r) t (lit< tt) g b o w h in
    let fields = ap sounder_of v.integers ∙ sounder_inverse r in
    let read = ap₂ (λ (y : Answer) (z : Sounder). sounders.answered y z (row_text 100 f p)) v.answer fields in
    (a.outcome ∙ read, v.characters)

pub sounder_given : (r : Sounder) (t : List ℕ) → SounderTyped r → Bytes t
    → {o : Bool} {out left f : List ℕ} {p : ℕ} {n : Counts} (x : Result (Sounder × Part) Refusal)
    → SounderWritten o r t out (Accepted n) left → Holds f p o (take n.written left) → SounderAt f p (sounders.as_read x)
    → (x ≡ Ok (r, row_text 100 f p)) × (characters_at f (row_text 100 f p) ≡ t)
sounder_given r t g b {f = f} {p = p} x w h a =
    let e = sounder-again r t g b w h a in
    (sounder_told.same_read x (Ok (r, row_text 100 f p)) e.0, e.1)

pub ek500_sounder-again : (r : Ek500Sounder) (t : List ℕ) → Ek500SounderTyped r → Bytes t
    → {o : Bool} {out left f : List ℕ} {p : ℕ} {n : Counts} {x : Ek500SounderRead}
    → Ek500SounderWritten o r t out (Accepted n) left → Holds f p o (take n.written left) → Ek500SounderAt f p x
    → (x ≡ ek500Sounder.Read r (row_text 200 f p)) × (characters_at f (row_text 200 f p) ≡ t)
ek500_sounder-again r t g b {o = o} {f = f} {p = p} w h a =
    let v = again-row 200 (ek500_sounder_integers r) t (lit< tt) g b o w h in
    let fields = ap ek500_sounder_of v.integers ∙ ek500_sounder_inverse r in
    let read = ap₂ (λ (y : Answer) (z : Ek500Sounder). ek500Sounders.answered y z (row_text 200 f p)) v.answer fields in
    (a.outcome ∙ read, v.characters)

pub ek500_sounder_given : (r : Ek500Sounder) (t : List ℕ) → Ek500SounderTyped r → Bytes t
    → {o : Bool} {out left f : List ℕ} {p : ℕ} {n : Counts} (x : Result (Ek500Sounder × Part) Refusal)
    → Ek500SounderWritten o r t out (Accepted n) left → Holds f p o (take n.written left) → Ek500SounderAt f p (ek500Sounders.as_read x)
    → (x ≡ Ok (r, row_text 200 f p)) × (characters_at f (row_text 200 f p) ≡ t)
ek500_sounder_given r t g b {f = f} {p = p} x w h a =
    let e = ek500_sounder-again r t g b w h a in
    (ek500Sounder_told.same_read x (Ok (r, row_text 200 f p)) e.0, e.1)

pub channel-again : (r : Channel) (t : List ℕ) → ChannelTyped r → Bytes t
    → {o : Bool} {out left f : List ℕ} {p : ℕ} {n : Counts} {x : ChannelRead}
    → ChannelWritten o r t out (Accepted n) left → Holds f p o (take n.written left) → ChannelAt f p x
    → (x ≡ channel.Read r (row_text 1000 f p)) × (characters_at f (row_text 1000 f p) ≡ t)
channel-again r t g b {o = o} {f = f} {p = p} w h a =
    let v = again-row 1000 (channel_integers r) t (lit< tt) g b o w h in
    let fields = ap channel_of v.integers ∙ channel_inverse r in
    let read = ap₂ (λ (y : Answer) (z : Channel). channels.answered y z (row_text 1000 f p)) v.answer fields in
    (a.outcome ∙ read, v.characters)

pub channel_given : (r : Channel) (t : List ℕ) → ChannelTyped r → Bytes t
    → {o : Bool} {out left f : List ℕ} {p : ℕ} {n : Counts} (x : Result (Channel × Part) Refusal)
    → ChannelWritten o r t out (Accepted n) left → Holds f p o (take n.written left) → ChannelAt f p (channels.as_read x)
    → (x ≡ Ok (r, row_text 1000 f p)) × (characters_at f (row_text 1000 f p) ≡ t)
channel_given r t g b {f = f} {p = p} x w h a =
    let e = channel-again r t g b w h a in
    (channel_told.same_read x (Ok (r, row_text 1000 f p)) e.0, e.1)

pub ek500_channel-again : (r : Ek500Channel) (t : List ℕ) → Ek500ChannelTyped r → Bytes t
    → {o : Bool} {out left f : List ℕ} {p : ℕ} {n : Counts} {x : Ek500ChannelRead}
    → Ek500ChannelWritten o r t out (Accepted n) left → Holds f p o (take n.written left) → Ek500ChannelAt f p x
    → (x ≡ ek500Channel.Read r (row_text 2000 f p)) × (characters_at f (row_text 2000 f p) ≡ t)
ek500_channel-again r t g b {o = o} {f = f} {p = p} w h a =
    let v = again-row 2000 (ek500_channel_integers r) t (lit< tt) g b o w h in
    let fields = ap ek500_channel_of v.integers ∙ ek500_channel_inverse r in
    let read = ap₂ (λ (y : Answer) (z : Ek500Channel). ek500Channels.answered y z (row_text 2000 f p)) v.answer fields in
    (a.outcome ∙ read, v.characters)

pub ek500_channel_given : (r : Ek500Channel) (t : List ℕ) → Ek500ChannelTyped r → Bytes t
    → {o : Bool} {out left f : List ℕ} {p : ℕ} {n : Counts} (x : Result (Ek500Channel × Part) Refusal)
    → Ek500ChannelWritten o r t out (Accepted n) left → Holds f p o (take n.written left) → Ek500ChannelAt f p (ek500Channels.as_read x)
    → (x ≡ Ok (r, row_text 2000 f p)) × (characters_at f (row_text 2000 f p) ≡ t)
ek500_channel_given r t g b {f = f} {p = p} x w h a =
    let e = ek500_channel-again r t g b w h a in
    (ek500Channel_told.same_read x (Ok (r, row_text 2000 f p)) e.0, e.1)

pub threshold-again : (r : Threshold) → ThresholdTyped r → {o : Bool} {out left f : List ℕ} {p : ℕ} {n : Counts} {x : ThresholdRead}
    → ThresholdWritten o r out (Accepted n) left → Holds f p o (take n.written left) → ThresholdAt f p x → x ≡ threshold.Read r
unfolding listing_of among listings
threshold-again r g {o = o} w h a =
    let v = again-plain 10100 (threshold_integers r) [] (lit< tt) g tt refl refl refl o w h in
    a.outcome ∙ ap₂ thresholds.answered v.answer (ap threshold_of v.integers ∙ threshold_inverse r)

pub threshold_given : (r : Threshold) → ThresholdTyped r
    → {o : Bool} {out left f : List ℕ} {p : ℕ} {n : Counts} (x : Result Threshold Refusal)
    → ThresholdWritten o r out (Accepted n) left → Holds f p o (take n.written left) → ThresholdAt f p (thresholds.as_read x)
    → x ≡ Ok r
threshold_given r g x w h a = threshold_told.same_read x (Ok r) (threshold-again r g w h a)

pub position-again : (r : Position) → PositionTyped r → {o : Bool} {out left f : List ℕ} {p : ℕ} {n : Counts} {x : PositionRead}
    → PositionWritten o r out (Accepted n) left → Holds f p o (take n.written left) → PositionAt f p x → x ≡ position.Read r
unfolding listing_of among listings
position-again r g {o = o} w h a =
    let v = again-plain 20 (position_integers r) [] (lit< tt) g tt refl refl refl o w h in
    a.outcome ∙ ap₂ positions.answered v.answer (ap position_of v.integers ∙ position_inverse r)

pub position_given : (r : Position) → PositionTyped r
    → {o : Bool} {out left f : List ℕ} {p : ℕ} {n : Counts} (x : Result Position Refusal)
    → PositionWritten o r out (Accepted n) left → Holds f p o (take n.written left) → PositionAt f p (positions.as_read x)
    → x ≡ Ok r
position_given r g x w h a = position_told.same_read x (Ok r) (position-again r g w h a)

pub navigation_again : (r : Navigation) → NavigationTyped r → {o : Bool} {out left f : List ℕ} {p : ℕ} {n : Counts} {x : NavigationRead}
    → NavigationWritten o r out (Accepted n) left → Holds f p o (take n.written left) → NavigationAt f p x → x ≡ navigation.Read r
unfolding listing_of among listings
navigation_again r g {o = o} w h a =
    let v = again-plain 30 (navigation_integers r) [] (lit< tt) g tt refl refl refl o w h in
    a.outcome ∙ ap₂ navigations.answered v.answer (ap navigation_of v.integers ∙ navigation_inverse r)

pub navigation_given : (r : Navigation) → NavigationTyped r
    → {o : Bool} {out left f : List ℕ} {p : ℕ} {n : Counts} (x : Result Navigation Refusal)
    → NavigationWritten o r out (Accepted n) left → Holds f p o (take n.written left) → NavigationAt f p (navigations.as_read x)
    → x ≡ Ok r
navigation_given r g x w h a = navigation_told.same_read x (Ok r) (navigation_again r g w h a)

pub attitude-again : (r : Attitude) → AttitudeTyped r → {o : Bool} {out left f : List ℕ} {p : ℕ} {n : Counts} {x : AttitudeRead}
    → AttitudeWritten o r out (Accepted n) left → Holds f p o (take n.written left) → AttitudeAt f p x → x ≡ attitude.Read r
unfolding listing_of among listings
attitude-again r g {o = o} w h a =
    let v = again-plain 40 (attitude_integers r) [] (lit< tt) g tt refl refl refl o w h in
    a.outcome ∙ ap₂ attitudes.answered v.answer (ap attitude_of v.integers ∙ attitude_inverse r)

pub attitude_given : (r : Attitude) → AttitudeTyped r
    → {o : Bool} {out left f : List ℕ} {p : ℕ} {n : Counts} (x : Result Attitude Refusal)
    → AttitudeWritten o r out (Accepted n) left → Holds f p o (take n.written left) → AttitudeAt f p (attitudes.as_read x)
    → x ≡ Ok r
attitude_given r g x w h a = attitude_told.same_read x (Ok r) (attitude-again r g w h a)

pub event_again : (r : Event) (t : List ℕ) → EventTyped r → Bytes t
    → {o : Bool} {out left f : List ℕ} {p : ℕ} {n : Counts} {x : EventRead}
    → EventWritten o r t out (Accepted n) left → Holds f p o (take n.written left) → EventAt f p x
    → (x ≡ event.Read r (row_text 10110 f p)) × (characters_at f (row_text 10110 f p) ≡ t)
event_again r t g b {o = o} {f = f} {p = p} w h a =
    let v = again-row 10110 (event_integers r) t (lit< tt) g b o w h in
    let fields = ap event_of v.integers ∙ event_inverse r in
    let read = ap₂ (λ (y : Answer) (z : Event). events.answered y z (row_text 10110 f p)) v.answer fields in
    (a.outcome ∙ read, v.characters)

pub event_given : (r : Event) (t : List ℕ) → EventTyped r → Bytes t
    → {o : Bool} {out left f : List ℕ} {p : ℕ} {n : Counts} (x : Result (Event × Part) Refusal)
    → EventWritten o r t out (Accepted n) left → Holds f p o (take n.written left) → EventAt f p (events.as_read x)
    → (x ≡ Ok (r, row_text 10110 f p)) × (characters_at f (row_text 10110 f p) ≡ t)
event_given r t g b {f = f} {p = p} x w h a =
    let e = event_again r t g b w h a in
    (event_told.same_read x (Ok (r, row_text 10110 f p)) e.0, e.1)

pub run-start-again : (r : RunStart) → RunStartTyped r → {o : Bool} {out left f : List ℕ} {p : ℕ} {n : Counts} {x : RunStartRead}
    → RunStartWritten o r out (Accepted n) left → Holds f p o (take n.written left) → RunStartAt f p x → x ≡ runStart.Read r
unfolding listing_of among listings
run-start-again r g {o = o} w h a =
    let v = again-plain 65516 (run_start_integers r) [] (lit< tt) g tt refl refl refl o w h in
    a.outcome ∙ ap₂ runStarts.answered v.answer (ap run_start_of v.integers ∙ run-start_inverse r)

pub run-start_given : (r : RunStart) → RunStartTyped r
    → {o : Bool} {out left f : List ℕ} {p : ℕ} {n : Counts} (x : Result RunStart Refusal)
    → RunStartWritten o r out (Accepted n) left → Holds f p o (take n.written left) → RunStartAt f p (runStarts.as_read x)
    → x ≡ Ok r
run-start_given r g x w h a = runStart_told.same_read x (Ok r) (run-start-again r g w h a)

pub run-end-again : (r : RunEnd) → RunEndTyped r → {o : Bool} {out left f : List ℕ} {p : ℕ} {n : Counts} {x : RunEndRead}
    → RunEndWritten o r out (Accepted n) left → Holds f p o (take n.written left) → RunEndAt f p x → x ≡ runEnd.Read r
unfolding listing_of among listings
run-end-again r g {o = o} w h a =
    let v = again-plain 65517 (run_end_integers r) [] (lit< tt) g tt refl refl refl o w h in
    a.outcome ∙ ap₂ runEnds.answered v.answer (ap run_end_of v.integers ∙ run-end_inverse r)

pub run-end_given : (r : RunEnd) → RunEndTyped r
    → {o : Bool} {out left f : List ℕ} {p : ℕ} {n : Counts} (x : Result RunEnd Refusal)
    → RunEndWritten o r out (Accepted n) left → Holds f p o (take n.written left) → RunEndAt f p (runEnds.as_read x)
    → x ≡ Ok r
run-end_given r g x w h a = runEnd_told.same_read x (Ok r) (run-end-again r g w h a)

pub file-end-again : (r : FileEnd) → FileEndTyped r → {o : Bool} {out left f : List ℕ} {p : ℕ} {n : Counts} {x : FileEndRead}
    → FileEndWritten o r out (Accepted n) left → Holds f p o (take n.written left) → FileEndAt f p x
    → (x ≡ fileEnd.Read r (row_text 65534 f p)) × (characters_at f (row_text 65534 f p) ≡ (0 ∷ 0 ∷ []))
unfolding listing_of among listings
file-end-again r g {o = o} {f = f} {p = p} w h a =
    let v = again-plain 65534 (file_end_integers r) (0 ∷ 0 ∷ []) (lit< tt) g (lit< tt, (lit< tt, tt)) refl refl refl o w h in
    let fields = ap file_end_of v.integers ∙ file-end_inverse r in
    let read = ap₂ (λ (y : Answer) (z : FileEnd). fileEnds.answered y z (row_text 65534 f p)) v.answer fields in
    (a.outcome ∙ read, v.characters)

pub file-end_given : (r : FileEnd) → FileEndTyped r
    → {o : Bool} {out left f : List ℕ} {p : ℕ} {n : Counts} (x : Result (FileEnd × Part) Refusal)
    → FileEndWritten o r out (Accepted n) left → Holds f p o (take n.written left) → FileEndAt f p (fileEnds.as_read x)
    → (x ≡ Ok (r, row_text 65534 f p)) × (characters_at f (row_text 65534 f p) ≡ (0 ∷ 0 ∷ []))
file-end_given r g {f = f} {p = p} x w h a =
    let e = file-end-again r g w h a in
    (fileEnd_told.same_read x (Ok (r, row_text 65534 f p)) e.0, e.1)
