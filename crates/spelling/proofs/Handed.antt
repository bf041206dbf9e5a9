-- Samples handed over apart, whose words are written one sample at a time: a number and a value are taken of those left. Assumes nothing.
use Rattle.std.proofs.Common.{◌≡◌, ◌∙◌, ap₂, subst, ℕ, ℤ, ◌+◌, ◌-◌, ◌≤◌, List, [], ◌∷◌, ◌++◌, map, length}
use Rattle.std.proofs.Common.{get_or, drop, ◌<◌, add-one, sym, ap, arith}
use Rattle.std.proofs.Math.Seq.{drop-cons}
use Rattle.std.proofs.lemmas.List.{length-map}
use Rattle.order.specs.Order.{pattern_of}
use Rattle.layout.specs.Families.{Family}
use Rattle.samples.specs.Words.{Sample}
use Rattle.samples.specs.Lists.{handed_bytes, paired}
use Rattle.samples.specs.Runs.{gap, encode_from}
use Rattle.samples.specs.Values.{word_for}
use Rattle.samples.specs.inner.Lists.{worded}
use Rattle.samples.specs.Judging.{first_drop}
use Rattle.samples.proofs.Rising.{Rising, all-rising}
use Rattle.samples.proofs.Apart.{length-paired}
use Rattle.samples.proofs.Written.{rising-map}

module _ {V : Type 0} (number : V → ℤ) (f : Family) where
  abbrev pub handed : List ℕ → List V → List Sample
  handed ns vs = worded f ns (map number vs)

  -- their numbers rise
  pub handed-rises : (ns : List ℕ) (vs : List V) → length vs ≡ length ns
      → first_drop 0 (paired (handed_bytes f) ns (map number vs)) ≡ length ns
      → Rising 0 (handed ns vs)
  handed-rises ns vs e h =
      let s = paired (handed_bytes f) ns (map number vs) in
      rising-map (word_for f) s 0 (all-rising s 0 (omega (
        arith,
        length-paired (handed_bytes f) ns (map number vs)
            (length-map vs number ∙ e),
      )))

  -- the next of those left, of which w is the value's word
  module _ {ks ns : List ℕ} {us vs : List V} {n : ℕ} {v : V} (first : ks ≡ n ∷ ns) (second : us ≡ v ∷ vs) where
    pub handed-rise : {m : ℕ} → Rising m (handed ks us) → (m ≤ n) × Rising (n + 1) (handed ns vs)
    handed-rise {m} r = let e : handed ks us ≡ handed (n ∷ ns) (v ∷ vs) = ap₂ handed first second in subst (Rising m) e r

    pub handed-next : (R m t w : ℕ) → w ≡ word_for f (pattern_of (handed_bytes f) (number v))
        → encode_from R m (handed ks us) t ≡ gap R (n - m) ++ (w ∷ encode_from R (n + 1) (handed ns vs) t)
    unfolding encode_from
    handed-next R m t w e = rw (first, second, e)

  -- where there is no more number
  pub handed-end : (R m t : ℕ) (ks : List ℕ) (us : List V) → ks ≡ [] → encode_from R m (handed ks us) t ≡ gap R t
  unfolding encode_from
  handed-end R m t ks us e = rw e

-- what is left of a list from i on: its element there, by either of two defaults, and what is left from the next on
pub left-at : {A : Type 0} (xs : List A) (i : ℕ) (d : A) → i < length xs → drop i xs ≡ get_or xs i d ∷ drop (i + 1) xs
left-at xs i d h = rw (add-one, drop-cons xs i d)

pub left-is : {A : Type 0} (xs : List A) (i : ℕ) (x : A) → i < length xs → x ≡ get_or xs i x → drop i xs ≡ x ∷ drop (i + 1) xs
left-is xs i x h e = left-at xs i x h ∙ ap (λ y. y ∷ drop (i + 1) xs) (sym e)
