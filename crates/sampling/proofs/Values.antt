-- Values one at a time, whatever their numbers: what stands at a place taken off what is left. Assumes nothing.
use mathlib.Core.Path.{◌≡◌, refl, sym, ap, ◌∙◌}
use mathlib.Core.Bool.{Bool, true, false, not}
use mathlib.Core.List.{List, [], ◌∷◌}
use Prim.Native.Nat.{ℕ, ◌+◌, ◌-◌, ◌≤◌, ◌<◌}
use lib.IntN.{ℤ}
use lib.ListN.{length, take, drop, length-map}
use Rattle.std.specs.Prelude.{Option, Some}
use Rattle.std.specs.Bool.{then_some}
use Rattle.order.specs.Order.{signed_of}
use Rattle.layout.specs.Families.{Family, value_bytes, value_count, number_bytes, sample_bytes, radix_of}
use Rattle.layout.specs.Types.{Shape, uncompressed, compressed, shape_of}
use Rattle.samples.specs.Runs.{is_run, run_length, decode_from}
use Rattle.samples.specs.Values.{meant}
use Rattle.samples.specs.Lists.{handed_bytes}
use Rattle.samples.proofs.Words.{word_at, words_from, from_cons}
use Rattle.samples.proofs.Runs.{by_bool}
use Rattle.samples.proofs.Written.{some-width}
use Rattle.pings.specs.inner.Handing.{part_samples}
use Rattle.sampling.specs.declared.Span.{Span}
use Rattle.sampling.specs.inner.Walking.{width_of, left_in, handed_left, words_left, values_handed, values_left, standing}
use Rattle.sampling.specs.inner.Walking.{SpanOf, WordValued, ValuedTo}
use Rattle.sampling.proofs.Walking.{words_left_lem, left_end, span-many, run-passed, value-passed, plain-stepped}

-- ---- a loop's last place; and as many values as samples
pub values-end : (q : Shape) (o : Bool) (held : List ℕ) (at : ℕ) → length held < at + width_of q → values_left q o (drop at held) ≡ []
values-end q o held at h = ap values_handed (left_end q o 0 held at h)

values-many : (q : Shape) (o : Bool) (r : List ℕ) → length (values_left q o r) ≡ length (handed_left q o 0 r)
values-many q o r = simp length-map

pub span-values : {k : ℕ} {o : Bool} {part : List ℕ} {r : Span} → SpanOf k o part r
    → length (values_left (shape_of k) o (take (r.end - r.from) (drop r.from part))) ≡ length (part_samples (shape_of k) o part)
span-values {k} {o} {part} {r} s = values-many (shape_of k) o (take (r.end - r.from) (drop r.from part)) ∙ span-many s

-- ---- the values of words hang on no number
module _ (f : Family) where
  values-any : (n m : ℕ) (ws : List ℕ) → values_handed (words_left f n ws) ≡ values_handed (words_left f m ws)
  unfolding decode_from
  values-any n m [] = refl
  values-any n m (w ∷ ws) =
      let long = run_length (radix_of f) w in
      let v = signed_of (handed_bytes f) (meant f w) in
      by_bool (is_run (radix_of f) w)
      (λ e. ap values_handed ((run-passed f refl w n e refl).left ws)
      ∙ values-any (n + long) (m + long) ws
      ∙ sym (ap values_handed ((run-passed f refl w m e refl).left ws)))
      (λ e. ap values_handed ((value-passed f refl w n e refl).left ws)
      ∙ ap (λ (vs : List ℤ). v ∷ vs) (values-any (n + 1) (m + 1) ws)
      ∙ sym (ap values_handed ((value-passed f refl w m e refl).left ws)))

  -- a word passed: a run, or a value
  pub word-valued : {R : ℕ} → radix_of f ≡ R → (word : ℕ) {b : Bool} → b ≡ is_run R word
      → {v : ℤ} → v ≡ signed_of (handed_bytes f) (meant f word) → {r : Option ℤ} → r ≡ then_some (not b) v → WordValued f word r
  word-valued {R} e word {b} run {v} value stands = rw stands (by b run)
    where
      by : (b : Bool) → b ≡ is_run R word → WordValued f word (then_some (not b) v)
      by true h = record { left = λ ws. ap values_handed ((run-passed f e word 0 (sym h) refl).left ws) ∙ values-any _ 0 ws }
      by false h =
          record {
            left = λ ws. ap values_handed ((value-passed f e word 0 (sym h) value).left ws)
                ∙ ap (λ (vs : List ℤ). v ∷ vs) (values-any (0 + 1) 0 ws);
          }

-- ---- one step
module _ {k : ℕ} (f : Family) (o : Bool) (held : List ℕ) (at : ℕ) where
  -- past a sample with a number of its own
  pub plain-valued : shape_of k ≡ uncompressed f → value_count f ≡ 1 → at + sample_bytes f ≤ length held
      → {v : ℤ} → v ≡ signed_of (handed_bytes f) (word_at (value_bytes f) o held (at + number_bytes f))
      → ValuedTo k o held at (Some v)
  plain-valued e one h ve = record { left = ap values_handed (plain-stepped f o held at 0 e one h refl ve).left }

  -- past a word
  pub word-there : shape_of k ≡ compressed f → at + value_bytes f ≤ length held → {word : ℕ} → word ≡ word_at (value_bytes f) o held at
      → {r : Option ℤ} → WordValued f word r → ValuedTo k o held at r
  unfolding left_in
  word-there e h {word} we {r} p =
      let w = value_bytes f in
      let behind = words_from w o held (at + w) in
      let there = words_left_lem w o held at ∙ from_cons w o held at (some-width f) h ∙ ap (λ (x : ℕ). x ∷ behind) (sym we) in
      record {
        left = rw e
            (ap (λ (ws : List ℕ). values_handed (words_left f 0 ws)) there
            ∙ p.left behind
            ∙ ap (λ (ws : List ℕ). standing r (values_handed (words_left f 0 ws))) (sym (words_left_lem w o held (at + w))));
      }
