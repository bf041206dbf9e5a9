-- Words packed: what is left of them, turn by turn, and that they are then the fewest. Assumes nothing.
use mathlib.Core.Path.{◌≡◌, refl, sym, ap, ap₂, subst, ◌∙◌}
use mathlib.Core.Bool.{Bool, true, false, cond, not, false≢true}
use mathlib.Core.List.{List, [], ◌∷◌, ◌++◌, append_assoc}
use Prim.Native.Nat.{ℕ, zero, suc, ◌+◌, ◌-◌, ◌*◌, ◌%◌, ◌≤◌, ◌<◌}
use native.Mathlib.Nat.{add_assoc, add-zero, zero-add, add-sub_cancel_left, mod-eq-sub-mod, mod-eq_of_lt}
use native.Mathlib.Omega.{arith}
use mir.Val.{bool_byte}
use lib.Dec.{leb, eqb}
use lib.ListN.{length, length-append}
use borrow.Author.Tests.{leb-true, leb-false, ne_eqb}
use lib.Seq.{sets}
use Rattle.order.specs.Order.{bytes_of}
use Rattle.order.proofs.Laws.{length_bytes_of}
use Rattle.order.proofs.Stores.{stored-behind}
use Rattle.samples.specs.Words.{Sample, unwords}
use Rattle.samples.specs.Runs.{is_run, run_length, decode_from, decode, ping_length, gap, encode_from, fewest}
use Rattle.samples.specs.Values.{revalued}
use Rattle.samples.specs.inner.Packing.{pack_from, packed}
use Rattle.samples.proofs.Runs.{tail_from, by_bool, run_short, decode-run, decode-value, tail-run, tail-value, quiet-tail}
use Rattle.samples.proofs.Runs.{fewest-words}
use Rattle.samples.proofs.Written.{quiet-map, fewest-map}
use Rattle.samples.proofs.Writing.{gap-full, gap-last}
use Rattle.samples.proofs.Writing.{gap-none as gap-empty}
use Rattle.samples.proofs.Turning.{sets_over}

-- once or never
pub once : (b : Bool) (x : ℕ) → bool_byte b * x ≤ x
once true x = omega arith
once false x = omega arith

module _ (R : ℕ) (pos : 0 < R) (g : ℕ → ℕ) where
  -- the two clauses, by what the word is
  pub pack_run : (q w : ℕ) (ws : List ℕ) → is_run R w ≡ true → pack_from R g q (w ∷ ws) ≡ pack_from R g (q + run_length R w) ws
  unfolding pack_from
  pack_run q w ws e = rw (e, pack_from)

  pub pack_value : (q w : ℕ) (ws : List ℕ) → is_run R w ≡ false → pack_from R g q (w ∷ ws) ≡ gap R q ++ (g w ∷ pack_from R g 0 ws)
  unfolding pack_from
  pack_value q w ws e = rw (e, pack_from)

  -- a gap, a value, and what is encoded behind it
  behind-gap : (n q w : ℕ) (s : List Sample) (t : ℕ) {us : List ℕ} → us ≡ encode_from R (n + q + 1) s t
      → gap R q ++ (w ∷ us) ≡ encode_from R n ((n + q, w) ∷ s) t
  unfolding encode_from
  behind-gap n q w s t e = rw (add-sub_cancel_left n q) (ap (λ (l : List ℕ). gap R q ++ (w ∷ l)) e)

  -- packing is encoding what the words say
  pack_encode : (ws : List ℕ) (n q : ℕ)
      → pack_from R g q ws ≡ encode_from R n (revalued g (decode_from R (n + q) ws)) (tail_from R q ws)
  pack_encode [] n q = unfold pack_from encode_from decode_from tail_from in refl
  pack_encode (w ∷ ws) n q =
      by_bool (is_run R w)
      (λ e. rw (pack_run q w ws e, decode-run R pos (n + q) w ws e, tail-run R pos q w ws e, add_assoc n q (run_length R w))
      (pack_encode ws n (q + run_length R w)))
      (λ e.
      rw (pack_value q w ws e, decode-value R pos (n + q) w ws e, tail-value R pos q w ws e)
      (behind-gap n q (g w) (revalued g (decode_from R (n + q + 1) ws)) (tail_from R 0 ws) (rw add-zero at (pack_encode ws (n + q + 1) 0))))

  -- so that packed words are the fewest, and no more than they were
  pub packed-fewest : (ws : List ℕ) → packed R g ws ≡ fewest R (revalued g (decode R ws)) (ping_length R ws)
  unfolding fewest
  packed-fewest ws =
      rw (quiet-map g (decode R ws) (ping_length R ws), quiet-tail R pos ws) (rw (zero-add 0) at (pack_encode ws 0 0))

  pub packed-few : (ws : List ℕ) → length (packed R g ws) ≤ length ws
  packed-few ws = rw (packed-fewest ws) (omega (arith, fewest-map R pos g (decode R ws) (ping_length R ws), fewest-words R pos ws))

  -- ---- a turn past the word w, behind q quiet samples
  -- how many words: `run` says whether it is one
  pub pack_count : (q w m n : ℕ) (ws : List ℕ) (run : Bool) → run ≡ is_run R w → m ≡ length (gap R q) → n ≡ run_length R w → (c : ℕ)
      → c + bool_byte (not run) * (m + 1) + length (pack_from R g (bool_byte run * (q + n)) ws) ≡ c + length (pack_from R g q (w ∷ ws))
  pack_count q w m n ws true e eg en c =
      let z : bool_byte true * (q + n) ≡ q + run_length R w = omega (arith, en) in
      rw (z, pack_run q w ws (sym e)) (omega arith)
  pack_count q w m n ws false e eg en c =
      let z : bool_byte false * (q + n) ≡ 0 = omega arith in
      rw (z, pack_value q w ws (sym e)) (omega (arith, eg, length-append (gap R q) (g w ∷ pack_from R g 0 ws)))

-- ---- a turn as the code makes it: up to two words
-- a word, or none
abbrev pub given : Bool → ℕ → List ℕ
given true w = w ∷ []
given false w = []

pub length-given : (b : Bool) (w : ℕ) → length (given b w) ≡ bool_byte b
length-given true w = refl
length-given false w = refl

-- one of two numbers
pub either : (b : Bool) (x y m : ℕ) → x ≤ m → y ≤ m → bool_byte b * x + bool_byte (not b) * y ≤ m
either true x y m h g = omega arith
either false x y m h g = omega arith

module _ (R : ℕ) (pos : 0 < R) where
  -- a full run comes first, whatever follows
  full-gap : (m : ℕ) → gap R (R + m) ≡ ((R - 1) * R + (R - 1)) ∷ gap R m
  full-gap m = gap-full R pos (R + m) (omega arith) ∙ ap (λ (i : ℕ). ((R - 1) * R + (R - 1)) ∷ gap R i) (omega arith)

  -- a gap of less than a full run
  small-gap : (m : ℕ) → m < R → (b : Bool) → b ≡ not (eqb m 0) → gap R m ≡ given b ((R - 1) * R + (m - 1))
  small-gap zero h true e = absurd (false≢true (sym e))
  small-gap zero h false e = gap-empty R pos
  small-gap (suc m) h true e = gap-last R pos (suc m) (omega arith) h
  small-gap (suc m) h false e = absurd (false≢true (e ∙ ap not (ne_eqb (suc m) 0 (λ z. omega arith))))

  module _ (g : ℕ → ℕ) where
    full-first : (ws : List ℕ) (m : ℕ) → pack_from R g (R + m) ws ≡ ((R - 1) * R + (R - 1)) ∷ pack_from R g m ws
    full-first [] m = unfold pack_from in full-gap m
    full-first (w ∷ ws) m =
        by_bool (is_run R w)
        (λ e. rw (pack_run R pos g (R + m) w ws e, pack_run R pos g m w ws e, add_assoc R m (run_length R w))
        (full-first ws (m + run_length R w)))
        (λ e. rw (pack_value R pos g (R + m) w ws e, pack_value R pos g m w ws e)
        (ap (λ (l : List ℕ). l ++ (g w ∷ pack_from R g 0 ws)) (full-gap m)))

    -- behind m samples, fewer than two full runs
    reduced : (ws : List ℕ) (m : ℕ) → m < R + R → (b : Bool) → b ≡ leb R m
        → pack_from R g m ws ≡ given b ((R - 1) * R + (R - 1)) ++ pack_from R g (m % R) ws
    reduced ws m h true e =
        let more : R ≤ m = leb-true R m (sym e) in
        let z : m ≡ R + (m - R) = omega arith in
        let y : m - R ≡ m % R = sym (mod-eq-sub-mod more ∙ mod-eq_of_lt (omega arith)) in
        ap (λ (i : ℕ). pack_from R g i ws) z
        ∙ full-first ws (m - R)
        ∙ ap (λ (i : ℕ). ((R - 1) * R + (R - 1)) ∷ pack_from R g i ws) y
    reduced ws m h false e =
        let less : m < R = leb-false R m (sym e) in
        ap (λ (i : ℕ). pack_from R g i ws) (sym (mod-eq_of_lt less))

    -- the word w behind q quiet samples
    pub pack_step : (q w : ℕ) (ws : List ℕ) → q < R → (run ends : Bool) → run ≡ is_run R w
        → ends ≡ cond run (leb R (q + run_length R w)) (not (eqb q 0))
        → pack_from R g q (w ∷ ws)
        ≡ given ends ((R - 1) * R + (bool_byte run * R + bool_byte (not run) * q - 1))
        ++ (given (not run) (g w) ++ pack_from R g (bool_byte run * ((q + run_length R w) % R)) ws)
    pack_step q w ws h true ends e f =
        let z : R - 1 ≡ bool_byte true * R + bool_byte (not true) * q - 1 = omega arith in
        let y : (q + run_length R w) % R ≡ bool_byte true * ((q + run_length R w) % R) = omega arith in
        pack_run R pos g q w ws (sym e)
        ∙ reduced ws (q + run_length R w) (omega (arith, run_short R pos w)) ends f
        ∙ ap₂ (λ (i j : ℕ). given ends ((R - 1) * R + i) ++ pack_from R g j ws) z y
    pack_step q w ws h false ends e f =
        let z : q - 1 ≡ bool_byte false * R + bool_byte (not false) * q - 1 = omega arith in
        let y : 0 ≡ bool_byte false * ((q + run_length R w) % R) = omega arith in
        pack_value R pos g q w ws (sym e)
        ∙ ap (λ (l : List ℕ). l ++ (g w ∷ pack_from R g 0 ws)) (small-gap q h ends f)
        ∙ ap₂ (λ (i j : ℕ). given ends ((R - 1) * R + i) ++ (g w ∷ pack_from R g j ws)) z y

-- a word that is given, by another name
given_as : (b : Bool) (x y : ℕ) → (b ≡ true → x ≡ y) → given b x ≡ given b y
given_as true x y h = ap (λ (w : ℕ). w ∷ []) (h refl)
given_as false x y h = refl

-- a run that ends has a sample
some-run : (R : ℕ) → 0 < R → (run ends : Bool) (q m : ℕ) → ends ≡ cond run (leb R m) (not (eqb q 0)) → ends ≡ true
    → 1 ≤ bool_byte run * R + bool_byte (not run) * q
some-run R pos true ends q m e t = omega arith
some-run R pos false ends zero m e t = absurd (false≢true (sym e ∙ t))
some-run R pos false ends (suc q) m e t = omega arith

-- the same with the run's word as the code makes it, from the pattern before the shortest run's
pub pack_words-step : (R : ℕ) → 0 < R → (g : ℕ → ℕ) (q w n x : ℕ) (ws : List ℕ) → q < R → (run ends : Bool) → run ≡ is_run R w
    → n ≡ run_length R w → ends ≡ cond run (leb R (q + n)) (not (eqb q 0))
    → x + 1 ≡ (R - 1) * R + (bool_byte run * R + bool_byte (not run) * q)
    → pack_from R g q (w ∷ ws) ≡ given ends x ++ (given (not run) (g w) ++ pack_from R g (bool_byte run * ((q + n) % R)) ws)
pack_words-step R pos g q w n x ws h run ends e en f ex =
    let ends_by = f ∙ ap (λ (i : ℕ). cond run (leb R (q + i)) (not (eqb q 0))) en in
    pack_step R pos g q w ws h run ends e ends_by
    ∙ ap₂ (λ (l : List ℕ) (i : ℕ). l ++ (given (not run) (g w) ++ pack_from R g (bool_byte run * ((q + i) % R)) ws))
    (given_as ends _ x (λ t. omega (arith, ex, some-run R pos run ends q (q + n) f t))) (sym en)

-- ---- the words `all`, of k bytes, are to stand at to₀ of out₀; those left are still to come, from `to` on, and eight bytes or more
-- behind them
pub record Packing (k : ℕ) (all left : List ℕ) (out₀ : List ℕ) (to₀ : ℕ) (out : List ℕ) (to : ℕ) : Type 0 where
  pub long : length out ≡ length out₀
  pub ends : to + k * length left ≡ to₀ + k * length all
  pub bytes : (t : List ℕ) → 8 ≤ length t → sets out to (unwords k false left ++ t) ≡ sets out₀ to₀ (unwords k false all ++ t)

-- by another name for what is left
pub packing_as : {k : ℕ} {all left rest out₀ out : List ℕ} {to₀ to : ℕ} → left ≡ rest → Packing k all left out₀ to₀ out to
    → Packing k all rest out₀ to₀ out to
packing_as {k} {all} {out₀ = out₀} {out = out} {to₀ = to₀} {to = to} e h =
    subst (λ (l : List ℕ). Packing k all l out₀ to₀ out to) e h

-- a word is stored at `to`, which makes put of out: the next of those left, or none of them, so that it will be stored over
pub packing_one : {k : ℕ} {all out₀ out put : List ℕ} {to₀ to : ℕ} → k ≤ 8 → (b : Bool) (w : ℕ) (ws : List ℕ)
    → put ≡ sets out to (bytes_of false k w) → length put ≡ length out → Packing k all (given b w ++ ws) out₀ to₀ out to
    → Packing k all ws out₀ to₀ put (to + k * bool_byte b)
unfolding unwords
packing_one {k} {out = out} {to = to} few true w ws e l h =
    let z : to + k * bool_byte true ≡ to + k = omega arith in
    rw z (record {
      long = l ∙ h.long;
      ends = omega (arith, h.ends);
      bytes = λ t n.
          ap (λ (x : List ℕ). sets x (to + k) (unwords k false ws ++ t)) e
          ∙ stored-behind (bytes_of false k w) (unwords k false ws ++ t) out to (to + k) (omega (arith, length_bytes_of false k w))
          ∙ ap (sets out to) (sym (append_assoc (bytes_of false k w) (unwords k false ws) t))
          ∙ h.bytes t n;
    })
packing_one {k} {out = out} {to = to} few false w ws e l h =
    let z : to + k * bool_byte false ≡ to = omega arith in
    rw z (record {
      long = l ∙ h.long;
      ends = h.ends;
      bytes = λ t n.
          let short : length (bytes_of false k w) ≤ length (unwords k false ws ++ t) =
          omega (arith, length_bytes_of false k w, length-append (unwords k false ws) t, n) in
          ap (λ (x : List ℕ). sets x to (unwords k false ws ++ t)) e
          ∙ sets_over (bytes_of false k w) (unwords k false ws ++ t) out to short
          ∙ h.bytes t n;
    })
