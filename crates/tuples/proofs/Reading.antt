-- What a reader answers, by what the step forward finds, what is asked for and what is said of the tuple's own rules. Assumes nothing.
use mathlib.Core.Path.{◌≡◌, refl, sym, ap, ◌∙◌}
use mathlib.Core.Bool.{Bool, true, false, not, ◌&&◌}
use mathlib.Core.List.{List, [], ◌∷◌, ◌++◌}
use Prim.Native.Nat.{ℕ, ◌+◌, ◌%◌, ◌≤◌}
use native.Mathlib.Omega.{arith}
use borrow.Author.Tests.{leb-true, not-false}
use lib.Dec.{eqb, leb}
use lib.ListN.{length, drop}
use Rattle.rules.specs.Rules.{Rule, ◌⇒◌, first_of, saying, AllPass}
use Rattle.rules.proofs.Laws.{Silent, clear}
use Rattle.layout.specs.Answer.{Refused}
use Rattle.layout.proofs.Verdicts.{passed, near_fault}
use Rattle.layout.specs.Verdict.{Fine, Fault}
use Rattle.frame.specs.declared.Walk.{Walk}
use Rattle.frame.specs.Step.{Step}
use Rattle.frame.specs.Step.{End}
use Rattle.frame.specs.Step as step
use Rattle.frame.specs.Frames.{allowed}
use Rattle.frame.specs.Files.{limit, is_msb}
use Rattle.frame.specs.Steps.{step_forward}
use Rattle.rules.proofs.Bools.{both_true}
use Rattle.layout.specs.Answers.{Breach, ◌byte◌, refused_at, accepting, is_accepted}
use Rattle.frame.proofs.Places.{whole-framing}
use Rattle.frame.proofs.Walks.{Stands, forward-stands}
use Rattle.frame.proofs.Ways.{said, unsaid}
use Rattle.content.specs.Items.{head_rules, inner_rules}
use Rattle.intake.specs.inner.Tallies.{Here, own_verdict}
use Rattle.intake.proofs.Said.{far, own-near}
use Rattle.tuples.specs.Readers.{tuple_there, own_rules, read_by, read_answer}
use Rattle.tuples.specs.inner.Opening.{Found, Readable}

-- ---- nothing is found
module _ (asked : ℕ → Bool) (f : List ℕ) (p : ℕ) where
  pub at-end : step_forward f p ≡ End → Refused 3 p ≡ read_answer asked f p
  unfolding read_answer
  at-end e = rw e

  pub not_found : (c q : ℕ) → step_forward f p ≡ step.Refused c q → Refused c q ≡ read_answer asked f p
  unfolding read_answer
  not_found c q e = rw e

-- ---- a tuple is found
pub found-by : (f : List ℕ) (p q n k : ℕ) (w : Walk) → step_forward f p ≡ step.Tuple q n k w → Found f p n k
found-by f p q n k w e = record { walk = w; step = e ∙ ap (λ (i : ℕ). step.Tuple i n k w) (forward-stands f e).place }

module _ {f : List ℕ} {p n k : ℕ} (g : Found f p n k) where
  pub stands : Stands f p n k
  stands = (forward-stands f g.step).stands

  pub here : Here (is_msb f) f p n k
  here = record { framed = whole-framing (is_msb f) f stands.whole; size = stands.whole.size; kind = stands.kind }

  pub four : 4 ≤ length f
  four = omega (arith, stands.from, stands.whole.fits)

  pub most : n ≤ 262144
  unfolding allowed
  most = leb-true n 262144 (both_true (eqb (n % 4) 0 && leb 16 n) (leb n 262144) stands.whole.allowed).1

  -- by what is asked for and by its own rules
  by-own : (asked : ℕ → Bool)
      → first_of (saying (refused_at p)
      ((not (asked k) ⇒ 9 byte 0) ∷ head_rules (is_msb f) (tuple_there f p) ++ inner_rules (is_msb f) (tuple_there f p)))
      (accepting 1 0)
      ≡ read_answer asked f p
  unfolding read_answer
  by-own asked = rw (g.step, stands.kind)

  pub unasked : (asked : ℕ → Bool) → asked k ≡ false → Refused 9 p ≡ read_answer asked f p
  unasked asked e = ap (Refused 9) (omega arith) ∙ rw e at (by-own asked)

  -- how far in the file a fault's place can be
  pub fault_near : (c q : ℕ) → own_verdict (is_msb f) (tuple_there f p) ≡ Fault c q → p + q ≤ limit + far
  fault_near c q e = omega (arith, near_fault far (own-near (is_msb f) (drop p f) here.framed) e, stands.whole.fits, stands.small)

  pub faulty : (asked : ℕ → Bool) (c q : ℕ) → asked k ≡ true → own_verdict (is_msb f) (tuple_there f p) ≡ Fault c q
      → Refused c (p + q) ≡ read_answer asked f p
  unfolding own_verdict
  faulty asked c q a e =
      sym (said (refused_at p) (head_rules (is_msb f) (tuple_there f p) ++ inner_rules (is_msb f) (tuple_there f p)) (accepting 1 0) c q e)
      ∙ rw a at (by-own asked)

  pub fine : (asked : ℕ → Bool) → asked k ≡ true → own_verdict (is_msb f) (tuple_there f p) ≡ Fine → accepting 1 0 ≡ read_answer asked f p
  unfolding own_verdict
  fine asked a e =
      sym (unsaid (refused_at p) (head_rules (is_msb f) (tuple_there f p) ++ inner_rules (is_msb f) (tuple_there f p)) (accepting 1 0) e)
      ∙ rw a at (by-own asked)

-- ---- and the other way round: where a reader accepts, it reads a tuple that was asked for and keeps its own rules
pub record Opens (asked : ℕ → Bool) (f : List ℕ) (p : ℕ) : Type 0 where
  pub size : ℕ
  pub code : ℕ
  pub readable : Readable asked f p (is_msb f) size code

silent : (p : ℕ) (rs : List (Rule Breach)) → Silent is_accepted (saying (refused_at p) rs)
silent p [] = tt
silent p ((b ⇒ c) ∷ rs) = (refl, silent p rs)

kept : (p : ℕ) (rs : List (Rule Breach)) → AllPass (saying (refused_at p) rs) → AllPass rs
kept p [] h = tt
kept p ((b ⇒ c) ∷ rs) h = (h.0, kept p rs h.1)

module _ (asked : ℕ → Bool) {f : List ℕ} {p : ℕ} (e : accepting 1 0 ≡ read_answer asked f p) where
  by-step : (s : Step) → step_forward f p ≡ s → accepting 1 0 ≡ read_by asked f p s → Opens asked f p
  unfolding own_verdict
  by-step (step.Tuple q n k w) h g =
      let o = is_msb f in
      let t = tuple_there f p in
      let c =
      kept p (own_rules asked o t)
      (clear is_accepted (saying (refused_at p) (own_rules asked o t)) (accepting 1 0) (accepting 1 0) (silent p (own_rules asked o t))
      (sym g) refl).0 in
      let d = found-by f p q n k w h in
      record {
        size = n;
        code = k;
        readable = record {
          answer = e;
          msb = refl;
          found = d;
          asks = ap asked (sym (stands d).kind) ∙ not-false _ c.0;
          own = passed (head_rules o t ++ inner_rules o t) c.1;
        };
      }
  by-step End h g = absurd (let z : ◌≡◌ {A = ℕ} 0 1 = cc (g) in omega arith)
  by-step (step.Refused c q) h g = absurd (let z : ◌≡◌ {A = ℕ} 0 1 = cc (g) in omega arith)

  pub opens : Opens asked f p
  unfolding read_answer
  opens = by-step (step_forward f p) refl e
