-- Demand 1, of the check, the normaliser, one tuple's normal form, asking and, for samples, readers: `demand1`. Assumes nothing.
use mathlib.Core.Path.{◌≡◌, refl, sym, ap, subst, subst₂, ◌∙◌}
use mathlib.Core.Logic.{◌↔◌}
use mathlib.Core.Bool.{true, true≢false}
use mathlib.Core.List.{List, [], ◌∷◌, ◌++◌}
use Prim.Native.Nat.{ℕ, ◌≤◌}
use native.Mathlib.Omega.{arith}
use borrow.Author.Tests.{not-false}
use lib.ListN.{length, drop}
use Rattle.order.specs.Order.{Bytes}
use Rattle.rules.specs.Rules.{Rule, ◌⇒◌, first_of, saying, AllPass}
use Rattle.rules.proofs.Laws.{Silent}
use Rattle.layout.specs.declared.Counts.{Counts}
use Rattle.layout.specs.Answer.{Answer}
use Rattle.layout.specs.Answer.{Accepted, Refused}
use Rattle.layout.specs.Answers.{Breach, refused_at, accepting, is_accepted, numbers}
use Rattle.layout.proofs.Verdicts.{passed}
use Rattle.frame.specs.Frames.{len_at, kind_at, tup_at, frame_rules, framing}
use Rattle.frame.specs.Files.{limit, is_msb, file_rules}
use Rattle.frame.proofs.Files.{marked_4}
use Rattle.content.specs.Items.{head_rules, inner_rules}
use Rattle.intake.specs.Asked.{Asked}
use Rattle.intake.specs.Check.{check_file}
use Rattle.intake.specs.Asking.{ask_accepted, ask_checked, ask_at}
use Rattle.intake.specs.inner.Tallies.{own_verdict}
use Rattle.intake.specs.inner.Sound.{SoundHere}
use Rattle.ping_forms.proofs.Placed.{at-most-twice, most}
use Rattle.normal.specs.Normaliser.{normal_rules, normal_counts, behind_check, normal_answer}
use Rattle.normal.specs.Single.{single_form, behind_rules, single_rules, single_answer}
use Rattle.normal.proofs.Singles.{single_length}
use Rattle.demands.specs.Causes.{Broken, here}
use Rattle.demands.specs.Refusals.{NormalCause, by_form, NormalKeeps, PingAt, AskCause, by_place, Demand1}
use Rattle.demands.specs.Refusals as refusals
use Rattle.demands.proofs.Broken.{broken-silent, kept_append, kept-saying, refused-by, accepted-by}
use Rattle.demands.proofs.Causes.{because, why, keeps-accepted, accepted-keeps}
use Rattle.demands.proofs.Named.{answered}
use Rattle.demands.proofs.Missed.{missed}
use Rattle.demands.specs.Offenders.{of_samples, Sampled}
use Rattle.demands.proofs.Offenders.{offends, offended, no_ten}
use Rattle.demands.proofs.Sampled.{cause_sampled, sampled_cause, alone-sampled, sampled-alone, read-sampled, sampled-read}

-- what holds of what is to be said holds of what is said
said : {A : Type 0} {r s x : A} {P : Type 0} → r ≡ s → (s ≡ x) ↔ P → (r ≡ x) ↔ P
said q h = (λ e. h.0 (sym q ∙ e), λ k. q ∙ h.1 k)

-- ---- lists of refusals accept nothing
silent-saying : (p : ℕ) (rs : List (Rule Breach)) → Silent is_accepted (saying (refused_at p) rs)
silent-saying p [] = tt
silent-saying p ((b ⇒ c) ∷ rs) = (refl, silent-saying p rs)

silent_append : (xs ys : List (Rule Answer)) → Silent is_accepted xs → Silent is_accepted ys → Silent is_accepted (xs ++ ys)
silent_append [] ys a b = b
silent_append ((t ⇒ x) ∷ xs) ys a b = (a.0, silent_append xs ys a.1 b)

-- ---- the normaliser
module _ (f : List ℕ) (room : ℕ) where
  -- none of its rules accepts
  refused-form : (n : Counts) {c p : ℕ}
      → (first_of (normal_rules f room) (Accepted (normal_counts f n)) ≡ Refused c p) ↔ Broken (normal_rules f room) (Refused c p)
  refused-form n = refused-by (normal_rules f room) (Accepted (normal_counts f n)) refl

  accepted-form : (n : Counts) {m : Counts}
      → (first_of (normal_rules f room) (Accepted (normal_counts f n)) ≡ Accepted m)
      ↔ (AllPass (normal_rules f room) × (Accepted (normal_counts f n) ≡ Accepted m))
  accepted-form n = accepted-by (normal_rules f room) (Accepted (normal_counts f n)) refl (refl, (refl, (refl, tt)))

  normal-refused : {c p : ℕ} → (normal_answer f room ≡ Refused c p) ↔ NormalCause f room c p
  unfolding normal_answer
  normal-refused {c} {p} = (by (check_file f) refl, back)
    where
      by : (a : Answer) → check_file f ≡ a → behind_check f room a ≡ Refused c p → NormalCause f room c p
      by (Accepted n) h q = by_form (accepted-keeps f n h) ((refused-form n).0 q)
      by (Refused d i) h q = refusals.NormalCause.by-check (why f c p (h ∙ q))

      back : NormalCause f room c p → behind_check f room (check_file f) ≡ Refused c p
      back (refusals.NormalCause.by-check k) = ap (behind_check f room) (because f k)
      back (by_form {n = n} k b) = ap (behind_check f room) (keeps-accepted f k) ∙ (refused-form n).1 b

  normal-accepted : {n : Counts} → (normal_answer f room ≡ Accepted n) ↔ NormalKeeps f room n
  unfolding normal_answer
  normal-accepted {n} = (by (check_file f) refl, back)
    where
      by : (a : Answer) → check_file f ≡ a → behind_check f room a ≡ Accepted n → NormalKeeps f room n
      by (Accepted i) h q =
          let k = (accepted-form i).0 q in
          let z : normal_counts f i ≡ n = cc k.1 in
          subst (NormalKeeps f room) z (refusals.NormalKeeps.by_all (accepted-keeps f i h) k.0)
      by (Refused d i) h q = absurd (let z : ◌≡◌ {A = ℕ} 0 1 = cc in omega arith)

      back : {m : Counts} → NormalKeeps f room m → behind_check f room (check_file f) ≡ Accepted m
      back (refusals.NormalKeeps.by_all {n = i} k h) = ap (behind_check f room) (keeps-accepted f k) ∙ (accepted-form i).1 (h, refl)

-- ---- one tuple
module _ (f : List ℕ) (room : ℕ) where
  abbrev own : List (Rule Breach)
  own = let o = is_msb f in let t = tup_at o (drop 4 f) in head_rules o t ++ inner_rules o t

  abbrev alone : List (Rule Breach)
  alone = frame_rules (is_msb f) (drop 4 f) ++ own

  silent : Silent is_accepted (single_rules f room)
  silent =
      silent_append (saying (refused_at 0) (file_rules f)) (saying (refused_at 4) alone ++ behind_rules f room) (silent-saying 0 (file_rules f))
      (silent_append (saying (refused_at 4) alone) (behind_rules f room) (silent-saying 4 alone) (refl, (refl, (refl, tt))))

  -- a tuple that keeps its rules is sound, and its form at most twice as long
  small : Bytes f → AllPass (single_rules f room) → length (single_form f) ≤ limit
  unfolding framing own_verdict
  small bytes h =
      let o = is_msb f in
      let r = drop 4 f in
      let a = kept_append (saying (refused_at 0) (file_rules f)) (saying (refused_at 4) alone ++ behind_rules f room) h in
      let file = kept-saying (refused_at 0) (file_rules f) a.0 in
      let b =
      kept_append (frame_rules o r) own
      (kept-saying (refused_at 4) alone (kept_append (saying (refused_at 4) alone) (behind_rules f room) a.1).0) in
      let s : SoundHere o f 4 (len_at o r) (kind_at o r) =
      record {
        within = marked_4 f (not-false _ file.1.0);
        here = record { framed = passed (frame_rules o r) b.0; size = refl; kind = refl };
        own = passed own b.1;
      } in
      omega (arith, single_length f, at-most-twice s bytes, most s)

-- ---- asking
module _ (f : List ℕ) (b : Bytes f) (p : ℕ) where
  back : {c q : ℕ} → AskCause f p c q → ask_checked f p (check_file f) ≡ Asked.Refused c q
  back (refusals.AskCause.by-check k) = ap (ask_checked f p) (because f k)
  back (by_place {n = n} k nowhere) = ap (ask_checked f p) (keeps-accepted f k) ∙ missed f b n (keeps-accepted f k) p nowhere

  ask-refused : {c q : ℕ} → (ask_at f p ≡ Asked.Refused c q) ↔ AskCause f p c q
  unfolding ask_at
  ask-refused {c} {q} = (by (check_file f) refl, back)
    where
      -- at a listed ping asking refuses nothing
      no_ping : (n : Counts) → check_file f ≡ Accepted n → ask_accepted f p n ≡ Asked.Refused c q → PingAt f p → ⊥
      no_ping n h z a =
          let g = answered f b n h a.ping a.listed in
          let y : ask_accepted f p n ≡ ask_at f p = sym (ap (ask_checked f p) h) in
          let x = sym z ∙ y ∙ ap (ask_at f) (sym a.place) ∙ g.answer in
          let w : ◌≡◌ {A = ℕ} 0 1 = cc (x) in
          omega arith

      by : (a : Answer) → check_file f ≡ a → ask_checked f p a ≡ Asked.Refused c q → AskCause f p c q
      by (Accepted n) h z =
          let nowhere = no_ping n h z in
          let y : Asked.Refused 9 p ≡ Asked.Refused c q = sym (missed f b n h p nowhere) ∙ z in
          subst₂ (AskCause f p) (cc) (cc) (by_place (accepted-keeps f n h) nowhere)
      by (Refused d i) h z = refusals.AskCause.by-check (why f c q (h ∙ (cc)))

-- ---- the codes of samples come from the check's rules alone
normal-sampled : (f : List ℕ) (room : ℕ) {c p : ℕ} → NormalCause f room c p → of_samples c ≡ true → Sampled f c p
normal-sampled f room (refusals.NormalCause.by-check k) h = cause_sampled f k h
normal-sampled f room (by_form k b) h =
    absurd (true≢false (sym h ∙ broken-silent (λ (a : Answer). of_samples (numbers a).code) (refl, (refl, (refl, tt))) b))

ask-sampled : (f : List ℕ) (p : ℕ) {c q : ℕ} → AskCause f p c q → of_samples c ≡ true → Sampled f c q
ask-sampled f p (refusals.AskCause.by-check k) h = cause_sampled f k h
ask-sampled f p (by_place k nowhere) h = absurd (true≢false (sym h))

pub demand1 : Demand1
unfolding single_answer
demand1 =
    record {
      check = λ {f} {r} k {c} {p}. said k.is (why f c p, because f);
      check-takes = λ {f} {r} k {n}. said k.is (accepted-keeps f n, keeps-accepted f);
      normal = λ {f} {out} k. said k.answer.is (normal-refused f (length out));
      normal-takes = λ {f} {out} k. said k.answer.is (normal-accepted f (length out));
      tuple = λ {f} {out} k. said k.answer.is (refused-by (single_rules f (length out)) (accepting 1 (length (single_form f))) refl);
      tuple-takes =
          λ {f} {out} k. said k.answer.is
          (accepted-by (single_rules f (length out)) (accepting 1 (length (single_form f))) refl (silent f (length out)));
      tuple-small = small;
      asking = λ {f} {p} b k. said k.is (ask-refused f b p);
      samples = λ o t {c} {q}. (offends o t, offended o t);
      no_ten = λ {o} {t} {q} h. no_ten h refl;
      check-samples = λ {f} {r} k {c} {p} h. said k.is (λ e. cause_sampled f (why f c p e) h, λ s. because f (sampled_cause f s));
      normal-samples =
          λ {f} {out} k h. said k.answer.is (
            λ e. normal-sampled f (length out) ((normal-refused f (length out)).0 e) h,
            λ s. (normal-refused f (length out)).1 (refusals.NormalCause.by-check (sampled_cause f s)),
          );
      ask-samples =
          λ {f} p b k h. said k.is
          (λ e. ask-sampled f p ((ask-refused f b p).0 e) h, λ s. (ask-refused f b p).1 (refusals.AskCause.by-check (sampled_cause f s)));
      tuple-samples =
          λ {f} {out} k h. said k.answer.is (
            λ e. alone-sampled f (length out) ((refused-by (single_rules f (length out)) (accepting 1 (length (single_form f))) refl).0 e) h,
            λ s. (refused-by (single_rules f (length out)) (accepting 1 (length (single_form f))) refl).1 (sampled-alone f (length out) s),
          );
      read-samples = λ asked f at h. (λ e. read-sampled asked f at e h, sampled-read asked f at);
    }
