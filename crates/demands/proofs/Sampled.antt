-- The codes of samples are given exactly where a tuple offends, at the first offender: by the check (`cause_sampled`, `sampled_cause`), by
-- one tuple's normal form and by readers. Assumes nothing.
use mathlib.Core.Path.{◌≡◌, refl, sym, ap, subst, ◌∙◌}
use mathlib.Core.Logic.{◌⊎◌, ⊎_elim}
use mathlib.Core.Bool.{Bool, true, false, not, true≢false}
use mathlib.Core.List.{List, ◌∷◌, ◌++◌}
use Prim.Native.Nat.{ℕ, ◌+◌}
use borrow.Author.Tests.{not-false}
use lib.ListN.{drop}
use Rattle.rules.specs.Rules.{Rule, ◌⇒◌, saying, AllPass}
use Rattle.rules.proofs.Laws.{Silent, clear}
use Rattle.layout.specs.Answer.{Answer}
use Rattle.layout.specs.Answer.{Refused}
use Rattle.layout.specs.Answers.{numbers, Breach, ◌byte◌, refused_at, accepting}
use Rattle.frame.specs.Step.{Step}
use Rattle.frame.specs.Step as step
use Rattle.frame.specs.Frames.{tup_at, frame_rules}
use Rattle.frame.specs.Files.{is_msb, file_rules}
use Rattle.frame.specs.Steps.{forward_rules, tuple_at, step_forward}
use Rattle.links.specs.Links.{Link, Links, link_rules}
use Rattle.links.specs.Links as links
use Rattle.content.specs.Items.{digest, head_rules, inner_rules}
use Rattle.intake.specs.Check.{Course}
use Rattle.tuples.specs.Readers.{tuple_there, read_by, read_answer}
use Rattle.tuples.proofs.Reading.{found-by}
use Rattle.normal.specs.Single.{behind_rules, single_rules}
use Rattle.demands.specs.Causes.{Broken, tuple_in, Cause, by-file, by-tuple, by_end}
use Rattle.demands.specs.Offenders.{Offends, of_samples, earlier_in, Sampled, SampledAlone, SampledThere}
use Rattle.demands.proofs.Broken.{broken-first, broken-silent, saying-broken, broken-saying, broken_append, broken-left}
use Rattle.demands.proofs.Broken.{broken-right, kept-saying, saying-kept, refused-by}
use Rattle.demands.proofs.Offenders.{offends, offended}

-- ---- rules that say no code of samples
abbrev sampling : Breach → Bool
sampling b = of_samples b.code

abbrev sampling_answer : Answer → Bool
sampling_answer a = of_samples (numbers a).code

-- such a rule isn't the one that says a code of samples
unsaid : {A C : Type 0} (q : A → Bool) {rs : List (Rule A)} {x : A} → Silent q rs → q x ≡ true → Broken rs x → C
unsaid q s h b = absurd (true≢false (sym h ∙ broken-silent q s b))

silent-link : (k : Links) (l : Link) → Silent sampling (link_rules k l)
silent-link k links.none = tt
silent-link k (links.sounder s) = (refl, (refl, tt))
silent-link k (links.channel c) = (refl, (refl, (refl, tt)))
silent-link k (links.names c) = (refl, tt)

-- ---- the check
module _ (f : List ℕ) where
  silent-earlier : (w : Course) → Silent sampling (earlier_in f w)
  silent-earlier w =
      (refl, (refl, (refl, (refl, (refl, (refl, (refl, (refl, silent-link w.links (digest (is_msb f) (tuple_in f w)).link))))))))

  pub cause_sampled : {c p : ℕ} → Cause f c p → of_samples c ≡ true → Sampled f c p
  cause_sampled (by-file b) h = unsaid sampling (refl, (refl, tt)) h b
  cause_sampled (by-tuple {b = b} {w = w} k r) h =
      ⊎_elim (λ x. unsaid sampling (silent-earlier w) h x)
      (λ x.
      record {
        course = w;
        comes = k;
        earlier = x.0;
        offset = b.offset;
        offends = offends (is_msb f) (tuple_in f w) x.1;
        place = refl;
      })
      (broken_append (earlier_in f w) (inner_rules (is_msb f) (tuple_in f w)) r)
  cause_sampled (by_end k b) h = unsaid sampling_answer (refl, (refl, (refl, tt))) h b

  pub sampled_cause : {c p : ℕ} → Sampled f c p → Cause f c p
  sampled_cause {c} {p} s =
      let w = s.course in
      subst (Cause f c) s.place
      (by-tuple {b = c byte s.offset} s.comes
      (broken-right (earlier_in f w) (inner_rules (is_msb f) (tuple_in f w)) s.earlier (offended (is_msb f) (tuple_in f w) s.offends)))

-- ---- a refusal in a reader's words
module _ (at : ℕ) (b : Breach) {c p : ℕ} (e : refused_at at b ≡ Refused c p) where
  same_code : b.code ≡ c
  same_code = ap (λ (a : Answer). (numbers a).code) e

  same_place : at + b.offset ≡ p
  same_place = ap (λ (a : Answer). (numbers a).place) e

-- ---- one tuple behind a mark
module _ (f : List ℕ) where
  abbrev front : List (Rule Breach)
  front = frame_rules (is_msb f) (drop 4 f) ++ head_rules (is_msb f) (tup_at (is_msb f) (drop 4 f))

  abbrev inner : List (Rule Breach)
  inner = inner_rules (is_msb f) (tup_at (is_msb f) (drop 4 f))

  pub alone-sampled : (room : ℕ) {c p : ℕ} → Broken (single_rules f room) (Refused c p) → of_samples c ≡ true → SampledAlone f c p
  alone-sampled room {c} {p} b h =
      ⊎_elim
      (λ x. let i = broken-saying (refused_at 0) (file_rules f) x in
      unsaid sampling (refl, (refl, tt)) (ap of_samples (same_code 0 i.0 i.2) ∙ h) i.1)
      (λ x. ⊎_elim (λ y. by (kept-saying (refused_at 0) (file_rules f) x.0) (broken-saying (refused_at 4) (front ++ inner) y))
      (λ y. unsaid sampling_answer (refl, (refl, (refl, tt))) h y.1)
      (broken_append (saying (refused_at 4) (front ++ inner)) (behind_rules f room) x.1))
      (broken_append (saying (refused_at 0) (file_rules f)) (saying (refused_at 4) (front ++ inner) ++ behind_rules f room) b)
    where
      by : AllPass (file_rules f) → (b : Breach) × Broken (front ++ inner) b × (refused_at 4 b ≡ Refused c p) → SampledAlone f c p
      by k i =
          ⊎_elim (λ y. unsaid sampling (refl, (refl, (refl, (refl, (refl, (refl, tt)))))) (ap of_samples (same_code 4 i.0 i.2) ∙ h) y)
          (λ y. record {
            file = k;
            earlier = y.0;
            offset = i.0.offset;
            offends =
                subst (λ (d : ℕ). Offends (is_msb f) (tup_at (is_msb f) (drop 4 f)) d i.0.offset) (same_code 4 i.0 i.2)
                (offends (is_msb f) (tup_at (is_msb f) (drop 4 f)) y.1);
            place = same_place 4 i.0 i.2;
          })
          (broken_append front inner i.1)

  pub sampled-alone : (room : ℕ) {c p : ℕ} → SampledAlone f c p → Broken (single_rules f room) (Refused c p)
  sampled-alone room {c} s =
      subst (λ (q : ℕ). Broken (single_rules f room) (Refused c q)) s.place
      (broken-right (saying (refused_at 0) (file_rules f)) (saying (refused_at 4) (front ++ inner) ++ behind_rules f room)
      (saying-kept (refused_at 0) (file_rules f) s.file)
      (broken-left (saying (refused_at 4) (front ++ inner)) (behind_rules f room)
      (saying-broken (refused_at 4) {x = c byte s.offset}
      (broken-right front inner s.earlier (offended (is_msb f) (tup_at (is_msb f) (drop 4 f)) s.offends)))))

-- ---- a reader
-- no step says a code of samples
abbrev sampling_step : Step → Bool
sampling_step (step.Tuple p n k w) = false
sampling_step step.End = false
sampling_step (step.Refused c p) = of_samples c

module _ (asked : ℕ → Bool) (f : List ℕ) (at : ℕ) where
  abbrev asking : List (Rule Breach)
  asking = (not (asked (tuple_there f at).kind) ⇒ 9 byte 0) ∷ head_rules (is_msb f) (tuple_there f at)

  abbrev own : List (Rule Breach)
  own = inner_rules (is_msb f) (tuple_there f at)

  stepped : (d q : ℕ) → step_forward f at ≡ step.Refused d q → of_samples d ≡ true → ⊥
  unfolding step_forward
  stepped d q e h =
      let k =
      clear sampling_step (forward_rules f at) (tuple_at f at) (step.Refused d q)
      (refl, (refl, (refl, (refl, (refl, (refl, (refl, (refl, (refl, tt))))))))) e h in
      true≢false (sym h ∙ sym (ap sampling_step k.1))

  pub read-sampled : {c p : ℕ} → read_answer asked f at ≡ Refused c p → of_samples c ≡ true → SampledThere asked f at c p
  unfolding read_answer
  read-sampled {c} {p} e h = by (step_forward f at) refl e
    where
      by : (s : Step) → step_forward f at ≡ s → read_by asked f at s ≡ Refused c p → SampledThere asked f at c p
      by (step.Tuple q n k w) g z =
          let i =
          broken-saying (refused_at at) (asking ++ own) ((refused-by (saying (refused_at at) (asking ++ own)) (accepting 1 0) refl).0 z) in
          let d = found-by f at q n k w g in
          ⊎_elim (λ y. unsaid sampling (refl, (refl, (refl, tt))) (ap of_samples (same_code at i.0 i.2) ∙ h) y)
          (λ y. record {
            size = n;
            code = k;
            walk = d.walk;
            step = d.step;
            asks = not-false _ y.0.0;
            earlier = y.0.1;
            offset = i.0.offset;
            offends =
                subst (λ (x : ℕ). Offends (is_msb f) (tuple_there f at) x i.0.offset) (same_code at i.0 i.2)
                (offends (is_msb f) (tuple_there f at) y.1);
            place = same_place at i.0 i.2;
          })
          (broken_append asking own i.1)
      by step.End g z = absurd (true≢false (sym h ∙ ap (λ (a : Answer). of_samples (numbers a).code) (sym z)))
      by (step.Refused d q) g z = absurd (stepped d q g (ap (λ (a : Answer). of_samples (numbers a).code) z ∙ h))

  pub sampled-read : {c p : ℕ} → SampledThere asked f at c p → read_answer asked f at ≡ Refused c p
  unfolding read_answer
  sampled-read {c} s =
      let ways : AllPass asking = (ap not s.asks, s.earlier) in
      ap (read_by asked f at) s.step
      ∙ broken-first (accepting 1 0)
      (saying-broken (refused_at at) {x = c byte s.offset}
      (broken-right asking own ways (offended (is_msb f) (tuple_there f at) s.offends)))
      ∙ ap (Refused c) s.place
