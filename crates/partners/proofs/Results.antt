-- Private tuples disturb nobody: `partners`. Assumes nothing.
use mathlib.Core.Path.{◌≡◌, refl, sym, ap, subst, ◌∙◌}
use mathlib.Core.Bool.{Bool, true, false}
use mathlib.Core.List.{List, [], ◌∷◌, ◌++◌}
use Prim.Native.Nat.{ℕ, ◌+◌, ◌≤◌}
use lib.Dec.{eqb}
use lib.ListN.{length}
use Rattle.order.specs.Order.{Bytes}
use Rattle.layout.specs.declared.Counts.{Counts}
use Rattle.layout.specs.Answer.{Accepted}
use Rattle.frame.specs.Frames.{Tup, frames}
use Rattle.frame.specs.Files.{mark, is_msb}
use Rattle.frame.specs.Tuples.{tuples_of, AllFramed}
use Rattle.links.specs.Links.{start}
use Rattle.links.proofs.Linked.{Linked, linked-here, linked-next, linked-some}
use Rattle.content.proofs.Places.{by_code}
use Rattle.intake.specs.Check.{check_file}
use Rattle.intake.proofs.Accepted.{digests, all-framed, divided}
use Rattle.index.proofs.Laws.{no_first}
use Rattle.salvage.specs.Outcome.{Outcome}
use Rattle.salvage.specs.Salvage.{Salvaged}
use Rattle.salvage.proofs.Calls.{salvages}
use Rattle.partners.specs.Private.{Part, own, put, own_of, all_of, put_in, AllPrivate, between, Mixed}
use Rattle.partners.specs.Answers.{extra, Both}
use Rattle.partners.specs.Partners.{KeptWhole, Partners}
use Rattle.partners.proofs.Places.{moved-rises, moved_none, still}
use Rattle.partners.proofs.Files.{put-between, accepted, taken}
use Rattle.partners.proofs.Pings.{pings, energy, places, energies, codes, energies-answer, readings-answer, window}
use Rattle.partners.proofs.Settings.{settings, settings-answer}
use Rattle.partners.proofs.Asking.{asked}
use Rattle.partners.proofs.Readers.{moved-end, others, bytes-all, there}
use Rattle.partners.proofs.Corrections.{found, part}
use Rattle.partners.proofs.Forms.{form-own, form-all, form-put, refused_18, first_18}
use Rattle.partners.proofs.Types.{types}

-- ---- which files are meant
framed-all : (ps : List Part) → AllFramed (own_of ps) → AllFramed (put_in ps) → AllFramed (all_of ps)
framed-all [] g h = tt
framed-all (own t ∷ ps) g h = (g.0, framed-all ps g.1 h)
framed-all (put x ∷ ps) g h = (h.0, framed-all ps g h.1)

module _ (first : Tup) (ps : List Part) (last : Tup) (v : AllPrivate (put_in ps)) where
  abbrev all : List Part
  all = between first ps last

  put-in : (f : List ℕ) {n : Counts} → Bytes f → check_file f ≡ Accepted n → tuples_of f ≡ own_of all → AllFramed (put_in ps)
      → Mixed f (mark (is_msb f) ++ frames (is_msb f) (all_of all))
  put-in f {n} b e ts h =
      let d = divided f b n e in
      let o = is_msb f in
      record {
        msb = o;
        first = first;
        parts = ps;
        last = last;
        private = v;
        framed =
            framed-all all (subst AllFramed ts (all-framed o (tuples_of f) d.sound))
            (subst AllFramed (sym (put-between ps last)) h);
        without = d.whole ∙ ap (λ (us : List Tup). mark o ++ frames o us) ts;
        within = refl;
      }

  take_out : (g : List ℕ) {n : Counts} → Bytes g → check_file g ≡ Accepted n → tuples_of g ≡ all_of all
      → Mixed (mark (is_msb g) ++ frames (is_msb g) (own_of all)) g
  take_out g {n} b e ts =
      let d = divided g b n e in
      let o = is_msb g in
      record {
        msb = o;
        first = first;
        parts = ps;
        last = last;
        private = v;
        framed = subst AllFramed ts (all-framed o (tuples_of g) d.sound);
        without = refl;
        within = d.whole ∙ ap (λ (us : List Tup). mark o ++ frames o us) ts;
      }

-- an accepted file has a first tuple and a last one besides
two_ends : (o : Bool) (ts : List Tup) → Linked true start (digests o ts)
    → (first : Tup) × (middle : List Tup) × (last : Tup) × (ts ≡ first ∷ (middle ++ (last ∷ [])))
two_ends o [] l = absurd (linked-some l refl)
two_ends o (t ∷ []) l = by (eqb t.kind 65534) refl
  where
    by : (b : Bool) → eqb t.kind 65534 ≡ b
        → (first : Tup) × (middle : List Tup) × (last : Tup) × (t ∷ [] ≡ first ∷ (middle ++ (last ∷ [])))
    by true e = absurd (no_first o t e (linked-here l).0)
    by false e = absurd (linked-some (linked-next l ((by_code o t).ends ∙ e)) refl)
two_ends o (t ∷ u ∷ us) l = let z = last_of u us in (t, z.0, z.1, ap (λ (xs : List Tup). t ∷ xs) z.2)
  where
    last_of : (x : Tup) (xs : List Tup) → (middle : List Tup) × (last : Tup) × (x ∷ xs ≡ middle ++ (last ∷ []))
    last_of x [] = ([], x, refl)
    last_of x (y ∷ ys) = let z = last_of y ys in (x ∷ z.0, z.1, ap (λ (ws : List Tup). x ∷ ws) z.2)

-- all of them its own
owns : List Tup → List Part
owns [] = []
owns (t ∷ ts) = own t ∷ owns ts

module _ (z : Tup) where
  all-owns : (ts : List Tup) → all_of (owns ts ++ (own z ∷ [])) ≡ ts ++ (z ∷ [])
  unfolding owns
  all-owns [] = refl
  all-owns (t ∷ ts) = ap (λ (us : List Tup). t ∷ us) (all-owns ts)

  own-owns : (ts : List Tup) → own_of (owns ts ++ (own z ∷ [])) ≡ ts ++ (z ∷ [])
  unfolding owns
  own-owns [] = refl
  own-owns (t ∷ ts) = ap (λ (us : List Tup). t ∷ us) (own-owns ts)

no_put : (ts : List Tup) → put_in (owns ts) ≡ []
unfolding owns
no_put [] = refl
no_put (t ∷ ts) = no_put ts

unmixed : (f : List ℕ) {n : Counts} → Bytes f → check_file f ≡ Accepted n → (m : Mixed f f) × (put_in m.parts ≡ [])
unmixed f {n} b e =
    let d = divided f b n e in
    let o = is_msb f in
    let z = two_ends o (tuples_of f) d.linked in
    let own-all : tuples_of f ≡ z.0 ∷ own_of (owns z.1 ++ (own z.2 ∷ [])) = z.3
    ∙ ap (λ (us : List Tup). z.0 ∷ us) (sym (own-owns z.2 z.1)) in
    let all-all : tuples_of f ≡ z.0 ∷ all_of (owns z.1 ++ (own z.2 ∷ [])) = z.3
    ∙ ap (λ (us : List Tup). z.0 ∷ us) (sym (all-owns z.2 z.1)) in (
      record {
        msb = o;
        first = z.0;
        parts = owns z.1;
        last = z.2;
        private = subst AllPrivate (sym (no_put z.1)) tt;
        framed = subst AllFramed all-all (all-framed o (tuples_of f) d.sound);
        without = d.whole ∙ ap (λ (us : List Tup). mark o ++ frames o us) own-all;
        within = d.whole ∙ ap (λ (us : List Tup). mark o ++ frames o us) all-all;
      },
      no_put z.1,
    )

-- ---- salvage
salvaged : {f g : List ℕ} (m : Mixed f g) (b : Both m) {out table left told : List ℕ} {r : Outcome}
    → Salvaged g out table r left told → length g ≤ length out → 3 ≤ length table
    → KeptWhole g (b.counts.tuples + extra m) r left told
salvaged m b s room rows =
    let k = salvages.accepted (bytes-all m) b.within s room rows in
    record { outcome = k.0; output = k.1; report = k.2 }

pub partners : Partners
partners =
    record {
      put-in = λ f b e first ps last ts v h. put-in first ps last v f b e ts h;
      take_out = λ g b e first ps last ts v. take_out first ps last v g b e ts;
      unmixed = λ f b e. unmixed f b e;
      still = λ m e p. still m (put-between m.parts m.last ∙ e) p;
      accepted = λ m e small. accepted m e small;
      taken = λ m e. taken m e;
      rises = λ m p q h. moved-rises m p q h;
      none = λ m. moved_none m;
      end = λ m. moved-end m;
      there = λ m b s. there m b s;
      others = λ m s. others m s;
      asked = λ m b p. asked m b p;
      pings = λ m. pings m;
      energy = λ m b p. energy m b p;
      places = λ m b. places m b;
      energies = λ m b. energies m b;
      codes = λ m b. codes m b;
      energies_told = λ m b x y z. energies-answer m b x y z;
      readings = λ m b p first n. window m b p first n;
      readings_told = λ m b p n. readings-answer m b p n;
      settings = λ m. settings m;
      settings_told = λ m b x y z. settings-answer m b x y z;
      found = λ m l b e c n. found m l b e c n;
      part = λ m l b e c n. part m l b e c n;
      salvaged = λ m b s room rows. salvaged m b s room rows;
      listed = λ m k h. types m k h;
      form = λ m. form-own m;
      form_with = λ m. form-all m;
      form_put = λ m. form-put m;
      refused = λ m b msb some room. refused_18 m b msb some room;
      first_one = λ m u. first_18 m u;
    }
