-- A sound listed ping of a file, by what stands at its places: its content, its part and the channel that it names. Assumes nothing.
use mathlib.Core.Path.{◌≡◌, refl, sym, ap, subst, ◌∙◌}
use mathlib.Core.Bool.{Bool, true, false, true≢false}
use mathlib.Core.Logic.{inl, inr}
use mathlib.Core.List.{List, [], ◌∷◌}
use mathlib.Core.Option.{Option, some}
use Prim.Native.Nat.{ℕ, ◌≤◌}
use native.Mathlib.Omega.{arith}
use lib.Dec.{eqb}
use lib.ListN.{length, drop}
use Rattle.layout.specs.Verdict.{Fine}
use Rattle.layout.specs.Types.{Shape, indexed, row, uncompressed, compressed, unlisted, has_samples, is_ping, shape_of}
use Rattle.layout.proofs.Families.{OfFamily, ping-shape}
use Rattle.layout.proofs.Verdicts.{both_right, passes}
use Rattle.frame.specs.Frames.{Tup, tup_at}
use Rattle.frame.specs.Files.{is_msb}
use Rattle.frame.proofs.Walks.{Stands, stands-forward}
use Rattle.links.specs.Links as links
use Rattle.links.specs.Links.{Links}
use Rattle.samples.specs.Words.{Sample, all_samples}
use Rattle.samples.specs.Values.{samples_in}
use Rattle.samples.specs.Judging.{sample_rules, judged_samples, dropping}
use Rattle.samples.proofs.Rising.{rising-passes}
use Rattle.samples.proofs.Written.{says-rising}
use Rattle.content.specs.Pings.{Ping, content_u, content_c}
use Rattle.content.specs.Items.{Item, ping, item_by, item_of, number_at, digest_item, digest_of, digest}
use Rattle.content.proofs.Places.{header}
use Rattle.intake.specs.inner.Tallies.{named_at, head_verdict, inner_verdict}
use Rattle.intake.specs.inner.Sound.{SoundHere, Accepts}
use Rattle.intake.proofs.Judges.{whole, sound-fits, own-parts, long_u, long_c, inner-samples}
use Rattle.intake.proofs.Loops.{accepted-small}
use Rattle.intake.proofs.Seeks.{taken}
use Rattle.tuples.specs.inner.Opening.{Found, Readable}
use Rattle.tuples.proofs.Reading.{fine}
use Rattle.pings.specs.Readers.{samples_by}
use Rattle.pings.specs.inner.Handing.{part_samples, part_words}
use Rattle.pings.proofs.Reading.{whole-there, samples-there, part_sound, few-samples}
use Rattle.quantities.specs.inner.Codes.{family_of, family_in}
use Rattle.linked.specs.Linked.{channel_for, linked_here}
use Rattle.linked.specs.inner.Here.{part_at, PartHere, SaysPing}

module _ {o : Bool} {f : List ℕ} {at n k : ℕ} (s : SoundHere o f at n k) where
  abbrev t : Tup
  t = tup_at o (drop at f)

  shaped : {q : Shape} → shape_of k ≡ q → item_of o t ≡ item_by q o t
  unfolding item_of
  shaped e = ap (λ (j : ℕ). item_by (shape_of j) o t) s.here.kind ∙ ap (λ (q : Shape). item_by q o t) e

  -- ---- no other tuple is a linked ping
  pub none-linked : (l : Links) → is_ping k ≡ false → linked_here l at (item_of o (tup_at o (drop at f))) ≡ []
  unfolding is_ping
  none-linked l h = by (shape_of k) refl h
    where
      by : (q : Shape) → shape_of k ≡ q → has_samples q ≡ false → linked_here l at (item_of o t) ≡ []
      by indexed e z = ap (linked_here l at) (shaped e)
      by (row fs x) e z = ap (linked_here l at) (shaped e)
      by (uncompressed g) e z = absurd (true≢false z)
      by (compressed g) e z = absurd (true≢false z)
      by unlisted e z = ap (linked_here l at) (shaped e)

  -- ---- a listed ping
  pub record Pinged : Type 0 where
    pub it : Ping
    pub item : item_of o (tup_at o (drop at f)) ≡ some (ping it)
    pub family : it.family ≡ family_of k
    pub named : number_at it.head 2 ≡ (named_at o f at).0

  module _ (listed : is_ping k ≡ true) where
    pub pinged : Pinged
    unfolding content_u content_c
    pinged = by (ping-shape k listed)
      where
        by : OfFamily (shape_of k) → Pinged
        by (g, inl e) =
            record {
              it = content_u g o t.body;
              item = shaped e;
              family = sym (ap family_in e);
              named = header o f at n (whole s.here) (long_u s.here (sound-fits s) g e);
            }
        by (g, inr e) =
            record {
              it = content_c g o t.body;
              item = shaped e;
              family = sym (ap family_in e);
              named = header o f at n (whole s.here) (omega (arith, long_c s.here (sound-fits s) g e));
            }

    -- is one, and names the channel of its header
    pub one-linked : (l : Links)
        → linked_here l at (item_of o (tup_at o (drop at f)))
        ≡ record { place = at; ping = pinged.it; channel = channel_for l pinged.it } ∷ []
    one-linked l = ap (linked_here l at) pinged.item

    pub ping-names : (digest o (tup_at o (drop at f))).link ≡ links.names (named_at o f at)
    unfolding digest_of
    ping-names =
        ap (λ (i : Option Item). (digest_item i).link) pinged.item
        ∙ ap (λ (c : ℕ). links.names (record { 0 = c })) pinged.named

    -- its numbers rise
    inner : inner_verdict o t ≡ Fine
    inner = both_right (head_verdict o (eqb k 65535) t) _ (own-parts s.here ∙ s.own)

    rising : dropping (part_samples (shape_of k) o (part_at f at n)) ≡ false
    unfolding judged_samples
    rising = by (ping-shape k listed)
      where
        by : OfFamily (shape_of k) → dropping (part_samples (shape_of k) o (part_at f at n)) ≡ false
        by (g, inl e) =
            rw e
            (passes (sample_rules g (all_samples g o (part_at f at n))) (sym (inner-samples s.here (sound-fits s) g e) ∙ inner)).1.0
        by (g, inr e) =
            let ws = part_words g o (part_at f at n) in
            rw e (rising-passes (samples_in g ws) (says-rising g ws))

    -- ---- in an accepted file it can be read
    module _ (a : Accepts f) (msb : o ≡ is_msb f) (from : 4 ≤ at) where
      there : SoundHere (is_msb f) f at n k
      there = subst (λ (x : Bool). SoundHere x f at n k) msb s

      found : Found f at n k
      found =
          let z : Stands f at n k = record {
            small = accepted-small f a;
            mark = (taken f a.counts a.answer).mark;
            from = from;
            whole = whole there.here;
            kind = there.here.kind;
          } in
          record { walk = _; step = stands-forward f z }

      readable : Readable is_ping f at o n k
      readable =
          record { answer = fine found is_ping listed there.own; msb = msb; found = found; asks = listed; own = there.own }

      pub part-here : PartHere f at o n k
      part-here =
          let r = whole-there readable listed in
          record {
            listed = listed;
            long = r.0;
            fits = r.2;
            sound = part_sound readable listed;
            few = subst (λ (x : List Sample). length x ≤ 32764) (samples-there readable listed) (few-samples readable listed);
            rising = rising;
          }

      pub says-ping : SaysPing f at o n k pinged.it
      says-ping =
          record {
            family = pinged.family;
            samples =
                sym (ap samples_by (ap (λ (x : Bool). item_of x (tup_at x (drop at f))) (sym msb) ∙ pinged.item))
                ∙ samples-there readable listed;
          }
