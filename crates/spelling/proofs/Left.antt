-- Where a loop that writes words of k bytes stands: some are left, which are to stand behind those that are written. Assumes nothing.
use Rattle.std.proofs.Common.{◌≡◌, ◌∙◌, sym, ap, subst, ℕ, suc, ◌+◌, ◌-◌, ◌*◌, ◌/◌, ◌<◌, ◌≤◌, Bool, List, [], ◌∷◌}
use Rattle.std.proofs.Common.{◌++◌, length, take, length-append, arith}
use Rattle.std.proofs.lemmas.List.Edits.{sets}
use Rattle.order.specs.Order.{num_of, bytes_of}
use Rattle.samples.specs.Words.{unwords, words, all_words}
use Rattle.samples.specs.Runs.{shortest_run, gap}
use Rattle.std.proofs.Common.{add-one}
use Rattle.std.proofs.Math.Nat.{div-eq-sub-div, div-eq_of_lt, div-le_self, mul-div-le}
use Rattle.std.proofs.Math.Seq.{drop_at}
use Rattle.std.proofs.lemmas.List.{append-nil, take-append-le}
use Rattle.samples.proofs.Turning.{length-all}
use Rattle.samples.proofs.Writing.{past_word, past_words, gap-full, gap-last}

-- the words `all` are to stand at `at` of what is lent; those left are still to come, from `to` on
pub record Unwritten (k : ℕ) (o : Bool) (all left lent out : List ℕ) (at to : ℕ) : Type 0 where
  pub long : length out ≡ length lent
  pub ends : to + k * length left ≡ at + k * length all
  pub bytes : sets out to (unwords k o left) ≡ sets lent at (unwords k o all)

module _ {k : ℕ} {o : Bool} {all lent : List ℕ} {at : ℕ} where
  pub unwritten_as : {left rest out : List ℕ} {to : ℕ} → left ≡ rest → Unwritten k o all left lent out at to
      → Unwritten k o all rest lent out at to
  unwritten_as {out = out} {to = to} e h = subst (λ (l : List ℕ). Unwritten k o all l lent out at to) e h

  module _ {out : List ℕ} {to : ℕ} where
    -- a word more has room
    pub unwritten-room : {w : ℕ} {ws : List ℕ} → Unwritten k o all (w ∷ ws) lent out at to → at + k * length all ≤ length lent
        → to + k ≤ length out
    unwritten-room {ws = ws} h r = omega (arith, h.long, h.ends)

    -- and is written
    pub unwritten_one : {put : List ℕ} {w : ℕ} {ws : List ℕ} → Unwritten k o all (w ∷ ws) lent out at to → length put ≡ length out
        → put ≡ sets out to (bytes_of o k w) → Unwritten k o all ws lent put at (to + k)
    unwritten_one {w = w} {ws = ws} h l e =
        record {
          long = l ∙ h.long;
          ends = omega (arith, h.ends);
          bytes = ap (λ (x : List ℕ). sets x (to + k) (unwords k o ws)) e ∙ past_word k o out to w ws ∙ h.bytes;
        }

    -- several have room, and are written
    pub unwritten-room_some : (us ws : List ℕ) → Unwritten k o all (us ++ ws) lent out at to → at + k * length all ≤ length lent
        → to + k * length us ≤ length out
    unwritten-room_some us ws h r =
        omega (arith, h.long, h.ends, ap (λ (n : ℕ). k * n) (length-append us ws))

    pub unwritten_some : {put : List ℕ} (us ws : List ℕ) {p : ℕ} → Unwritten k o all (us ++ ws) lent out at to → length put ≡ length out
        → put ≡ sets out to (unwords k o us) → p ≡ to + k * length us → Unwritten k o all ws lent put at p
    unwritten_some us ws {p} h l e q =
        record {
          long = l ∙ h.long;
          ends = omega (arith, h.ends, q, ap (λ (n : ℕ). k * n) (length-append us ws));
          bytes = ap (λ (x : List ℕ). sets x p (unwords k o ws)) e ∙ past_words k o out to us ws p q ∙ h.bytes;
        }

    -- the last ones are
    pub unwritten_last : {put : List ℕ} (us : List ℕ) {p : ℕ} → Unwritten k o all us lent out at to → length put ≡ length out
        → put ≡ sets out to (unwords k o us) → p ≡ to + k * length us → Unwritten k o all [] lent put at p
    unwritten_last us h l e q = unwritten_some us [] (unwritten_as (sym (append-nil us)) h) l e q

    -- none is left
    pub unwritten_end : Unwritten k o all [] lent out at to → (to ≡ at + k * length all) × (out ≡ sets lent at (unwords k o all))
    unfolding unwords
    unwritten_end h = (omega (arith, h.ends), h.bytes)

-- ---- the words of a gap, as the code makes them of the radix and of the shortest run that it reads
module _ (R : ℕ) (some : 0 < R) (g s full : ℕ) (short : s ≡ shortest_run R) (is : full ≡ R) where
  pub run-full : (less : ℕ) → less ≡ R → less ≤ g → gap R g ≡ (s + (full - 1)) ∷ gap R (g - less)
  run-full less e h = let m : R ≤ g = rw e at h in rw (short, is, e) (gap-full R some g m)

  pub run-last : (g ≡ 0 → ⊥) → g < full → gap R g ≡ (s + (g - 1)) ∷ []
  run-last h l = let m : g < R = rw is at l in rw short (gap-last R some g (omega (arith, h)) m)

-- ---- the words of bytes: that of the first k, and of those behind them
pub word-first : (k : ℕ) (o : Bool) (x rest : List ℕ) → 0 < k → length x ≡ k
    → all_words k o (x ++ rest) ≡ num_of o (take k x) ∷ all_words k o rest
unfolding all_words words
word-first k o x rest pos e =
    let l : length (x ++ rest) - k ≡ length rest = omega (arith, length-append x rest) in
    let d : length (x ++ rest) / k ≡ suc (length rest / k) =
    div-eq-sub-div pos (omega (arith, length-append x rest)) ∙ ap (λ (n : ℕ). n / k + 1) l ∙ add-one _ in
    rw (d, take-append-le k x rest (omega arith), drop_at x rest k e)

-- a chunk of k bytes and the rest, of which w is the word
pub chunk-words : {k n w : ℕ} {all : List ℕ} (o : Bool) (x rest : List ℕ) → 1 < k → all ≡ x ++ rest → length x ≡ n → n ≡ k
    → w ≡ num_of o (take k x) → all_words k o all ≡ w ∷ all_words k o rest
chunk-words {k} o x rest pos e l f g = rw (e, g) (word-first k o x rest (omega arith) (l ∙ f))

pub chunk-long : {k n : ℕ} {all : List ℕ} (x rest : List ℕ) → all ≡ x ++ rest → length x ≡ n → n ≡ k → length all ≡ k + length rest
chunk-long x rest e l f = ap length e ∙ length-append x rest ∙ ap (λ (m : ℕ). m + length rest) (l ∙ f)

-- no chunk is left
pub chunk-none : {k n : ℕ} (o : Bool) (rest : List ℕ) → length rest < n → n ≡ k → all_words k o rest ≡ []
unfolding all_words words
chunk-none {k} o rest l f = let h : length rest < k = omega arith in rw (div-eq_of_lt h)

pub words-room : (k : ℕ) (o : Bool) (d : List ℕ) → k * length (all_words k o d) ≤ length d
words-room k o d = rw (length-all k o d) (mul-div-le (length d) k)

pub words-few : (k : ℕ) (o : Bool) (d : List ℕ) → length (all_words k o d) ≤ length d
words-few k o d = rw (length-all k o d) (div-le_self (length d) k)
