-- The channels that rows of numbers keep of those declared so far: one more past a tuple that declares one, and the one that a ping names.
-- Assumes nothing.
use mathlib.Core.Path.{◌≡◌, refl, sym, ap, subst, ◌∙◌}
use mathlib.Core.Bool.{Bool, true, false}
use mathlib.Core.List.{List, [], ◌∷◌, ◌++◌, append-nil}
use Prim.Native.Nat.{ℕ, ◌+◌, ◌≤◌, ◌<◌}
use native.Mathlib.Omega.{arith}
use borrow.Author.Tests.{ltb-true, leb-false}
use lib.Dec.{eqb}
use lib.ListN.{length, drop, set, length-set}
use Rattle.layout.specs.declared.SoftwareChannel.{SoftwareChannel}
use Rattle.layout.specs.declared.Maker.{Maker}
use Rattle.layout.specs.declared.Says.{Says}
use Rattle.layout.specs.declared.Says.TheVariants as says
use Rattle.layout.specs.Types.{says_of}
use Rattle.layout.specs.Verdict.{Fine}
use Rattle.layout.specs.Answers.{judged}
use Rattle.layout.proofs.Verdicts.{passes}
use Rattle.frame.specs.Frames.{tup_at}
use Rattle.links.specs.declared.Channel.{Channel}
use Rattle.links.specs.Links as links
use Rattle.links.specs.Links.{Link, Links, start, id_of, place_of, Apart, Steady, link_rules, new_channels, note, most_channels}
use Rattle.links.specs.inner.Tables.{channel_of, channel_row, channels_in}
use Rattle.links.proofs.Parents.{named-declared}
use Rattle.links.proofs.Rows.{rows-length, rows_more, has-place}
use Rattle.content.specs.Items.{unless, digest}
use Rattle.content.proofs.Places.{link_at}
use Rattle.intake.specs.inner.Tallies.{channel_at, named_at}
use Rattle.intake.specs.inner.Sound.{SoundHere}
use Rattle.intake.proofs.Judges.{whole, sound-fits, link-by}
use Rattle.linked.specs.inner.Here.{new_here, Past}

-- ---- what a sound tuple at a place declares, by what its type says
module _ {o : Bool} {f : List ℕ} {at n k : ℕ} (s : SoundHere o f at n k) where
  new_by : {a : Says} → says_of k ≡ a → new_here o f at ≡ new_channels (link_at o f at n (whole s.here) a)
  new_by e = ap new_channels (link-by s.here (sound-fits s) e)

  pub new_nothing : says_of k ≡ says.Nothing → new_here o f at ≡ []
  new_nothing e = new_by e

  pub new_sounder : {m : Maker} → says_of k ≡ says.Sounder m → new_here o f at ≡ []
  new_sounder e = new_by e

  pub new_names : says_of k ≡ says.Names → new_here o f at ≡ []
  new_names e = new_by e

  pub new_all : says_of k ≡ says.NamesOrAll → new_here o f at ≡ []
  new_all e = new_by e ∙ by (eqb (named_at o f at).0 65535)
    where
      by : (b : Bool) → new_channels (unless b (links.names (named_at o f at))) ≡ []
      by true = refl
      by false = refl

  pub new_channel : {m : Maker} → says_of k ≡ says.Channel m → new_here o f at ≡ channel_at o f at m ∷ []
  new_channel e = new_by e

-- ---- the rows past it: none more, or one
module _ (used : ℕ) (rows : List (List ℕ)) (long : length rows ≡ most_channels) {new : List Channel} where
  pub none_more : new ≡ [] → Past used rows new used rows
  none_more e = rw e (record { many = omega arith; declared = sym (append-nil (channels_in used rows)); long = long })

  pub one_more : (it : Channel) {c : Channel} (at : ℕ) → new ≡ c ∷ [] → it ≡ c → channel_of (channel_row it at) ≡ it → used < most_channels
      → (next : List (List ℕ)) → next ≡ set rows used (channel_row it at)
      → Past used rows new (used + 1) next
  one_more it at e d r h next z =
      rw (e, z)
      (record {
        many = refl;
        declared =
            rows_more channel_of rows used (channel_row it at) (omega (arith, long))
            ∙ ap (λ (x : Channel). channels_in used rows ++ (x ∷ [])) (r ∙ d);
        long = length-set rows used (channel_row it at) ∙ long;
      })

-- ---- what a loop keeps of the channels declared so far
pub record Keeping (used : ℕ) (rows : List (List ℕ)) (s : Links) : Type 0 where
  pub declared : channels_in used rows ≡ s.channels
  pub few : used ≤ most_channels
  pub long : length rows ≡ most_channels

-- while none is declared
pub keeping-begin : (rows : List (List ℕ)) → length rows ≡ most_channels → Keeping 0 rows start
keeping-begin rows l = record { declared = refl; few = omega arith; long = l }

-- a tuple that keeps the rules between tuples declares no channel past the most
few-more : (s : Links) (l : Link) → judged (link_rules s l) ≡ Fine → length s.channels ≤ most_channels
    → length s.channels + length (new_channels l) ≤ most_channels
few-more s links.none h z = omega arith
few-more s (links.sounder d) h z = omega arith
few-more s (links.channel c) h z =
    let p = leb-false most_channels (length s.channels) (passes (link_rules s (links.channel c)) h).1.0 in omega arith
few-more s (links.names c) h z = omega arith

module _ {used : ℕ} {rows : List (List ℕ)} {s : Links} (g : Keeping used rows s) where
  pub keeping-room : used ≤ length rows
  keeping-room = omega (arith, g.few, g.long)

  many : length s.channels ≡ used
  many = ap length (sym g.declared) ∙ rows-length channel_of rows used keeping-room

  pub keeping-apart : Steady s → Apart id_of (channels_in used rows)
  keeping-apart h = subst (λ (x : List Channel). Apart id_of x) (sym g.declared) h.ids

  -- a channel that a tuple names is on one of the rows
  pub keeping-named : (l : Link) (c : SoftwareChannel) → judged (link_rules s l) ≡ Fine → l ≡ links.names c
      → place_of id_of c.0 (channels_in used rows) < used
  keeping-named l c h e =
      let d = named-declared s l c h e in
      let p =
      ltb-true (place_of id_of c.0 s.channels) (length s.channels) (sym (has-place id_of c.0 s.channels) ∙ d) in
      omega (arith, p, many, ap (place_of id_of c.0) g.declared)

  -- past the tuple at a place
  module _ (o : Bool) (f : List ℕ) (at : ℕ) (h : judged (link_rules s (digest o (tup_at o (drop at f))).link) ≡ Fine) where
    pub keeping-more : used + length (new_here o f at) ≤ most_channels
    keeping-more = omega (arith, few-more s (digest o (tup_at o (drop at f))).link h (omega (arith, many, g.few)), many)

    pub keeping-past : (n : ℕ) (next : List (List ℕ)) → Past used rows (new_here o f at) n next
        → Keeping n next (note s (digest o (tup_at o (drop at f))))
    keeping-past n next p =
        record {
          declared = p.declared ∙ ap (λ (x : List Channel). x ++ new_here o f at) g.declared;
          few = omega (arith, keeping-more, p.many);
          long = p.long;
        }
