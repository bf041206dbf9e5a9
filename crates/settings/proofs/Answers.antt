-- The answers by what is counted, and the slices that they leave. Assumes nothing.
use mathlib.Core.Path.{◌≡◌, refl, sym, ap, ap₂, ◌∙◌}
use mathlib.Core.Bool.{Bool, true, false, ◌||◌}
use mathlib.Core.List.{List, map}
use Prim.Native.Nat.{ℕ, ◌≤◌, ◌<◌, min}
use native.Mathlib.Omega.{arith}
use borrow.Author.Tests.{le-ltb, ltb-false}
use lib.Dec.{ltb}
use lib.ListN.{length, length-map}
use lib.Seq.{sets}
use Rattle.rules.specs.Rules.{First}
use Rattle.rules.specs.Rules.First.{none, here, pass}
use Rattle.rules.proofs.Laws.{first_eq}
use Rattle.layout.specs.declared.Counts.{Counts}
use Rattle.layout.specs.Answer.{Answer}
use Rattle.layout.specs.Answer.{Accepted, Refused}
use Rattle.layout.specs.Answers.{tells}
use Rattle.layout.proofs.Lent.{left-refused, left-accepted}
use Rattle.intake.specs.Check.{writing, check_file}
use Rattle.settings.specs.Settings.{Row, settings_of, pings_of, thresholds_of, attitudes_of, room_rules, behind_check, settings_answer}
use Rattle.settings.specs.Settings.{SettingsTold}
use Rattle.settings.specs.inner.Tables.{Roomy}

module _ (f ps ts bs : List ℕ) where
  abbrev said : Answer
  said = settings_answer f (length ps) (length ts) (length bs)

  refusing : (x p : ℕ) → said ≡ Refused x p → SettingsTold f ps ts bs (Refused x p) ps ts bs
  refusing x p e =
      record {
        answer = tells (sym e);
        pings = left-refused said x p (pings_of (settings_of f)) ps e;
        thresholds = left-refused said x p (thresholds_of (settings_of f)) ts e;
        attitudes = left-refused said x p (attitudes_of (settings_of f)) bs e;
      }

  -- ---- the check's refusals
  pub told-refused : (x p : ℕ) → check_file f ≡ Refused x p → SettingsTold f ps ts bs (Refused x p) ps ts bs
  unfolding settings_answer
  told-refused x p e = refusing x p (ap (behind_check f (length ps) (length ts) (length bs)) e)

  -- ---- an acceptance, and the pings counted then
  module _ (n : Counts) (m : ℕ) (a : check_file f ≡ Accepted n) (c : m ≡ length (settings_of f)) where
    abbrev rows : ℕ
    rows = length (settings_of f)

    by-rule : {x : Answer} → First (room_rules rows (length ps) (length ts) (length bs)) (Accepted (writing n rows)) x → said ≡ x
    unfolding settings_answer
    by-rule p = ap (behind_check f (length ps) (length ts) (length bs)) a ∙ sym (first_eq p)

    short : ltb (length ps) rows || (ltb (length ts) rows || ltb (length bs) rows) ≡ true → SettingsTold f ps ts bs (Refused 19 0) ps ts bs
    short e = refusing 19 0 (by-rule (here e))

    pub short-room : {r : ℕ} → r ≡ min (min (length ps) (length ts)) (length bs) → r < m → SettingsTold f ps ts bs (Refused 19 0) ps ts bs
    short-room {r} e h = short (by (ltb (length ps) rows) (ltb (length ts) rows) (ltb (length bs) rows) refl refl refl)
      where
        by : (x y z : Bool) → ltb (length ps) rows ≡ x → ltb (length ts) rows ≡ y → ltb (length bs) rows ≡ z → x || (y || z) ≡ true
        by true y z p q s = refl
        by false true z p q s = refl
        by false false true p q s = refl
        by false false false p q s =
            absurd (omega (arith, ltb-false (length ps) rows p, ltb-false (length ts) rows q, ltb-false (length bs) rows s, e, c, h))

    module _ (h : m ≤ length ps) (i : m ≤ length ts) (j : m ≤ length bs) where
      pub roomy : Roomy f (length ps) (length ts) (length bs)
      roomy =
          record {
            accepted = record { counts = n; answer = a };
            ping_room = omega (arith, c);
            threshold_room = omega (arith, c);
            attitude_room = omega (arith, c);
          }

      enough : ltb (length ps) rows || (ltb (length ts) rows || ltb (length bs) rows) ≡ false
      enough =
          ap₂ (λ (x y : Bool). x || (y || ltb (length bs) rows)) (le-ltb (length ps) rows (omega (arith, c)))
          (le-ltb (length ts) rows (omega (arith, c)))
          ∙ le-ltb (length bs) rows (omega (arith, c))

      pub told-all : (ps' ts' bs' : List ℕ) → ps' ≡ sets ps 0 (pings_of (settings_of f)) → ts' ≡ sets ts 0 (thresholds_of (settings_of f))
          → bs' ≡ sets bs 0 (attitudes_of (settings_of f))
          → SettingsTold f ps ts bs (Accepted (writing n m)) ps' ts' bs'
      told-all ps' ts' bs' p t b =
          let z : said ≡ Accepted (writing n rows) = by-rule (pass enough none) in
          let l : (key : Row → ℕ) → length (map key (settings_of f)) ≡ rows = length-map (settings_of f) in
          record {
            answer = tells (ap (λ (k : ℕ). Accepted (writing n k)) c ∙ sym z);
            pings = left-accepted said _ (pings_of (settings_of f)) ps ps' z (omega (arith, c, l (λ (r : Row). r.ping))) p;
            thresholds = left-accepted said _ (thresholds_of (settings_of f)) ts ts' z (omega (arith, c, l (λ (r : Row). r.threshold))) t;
            attitudes = left-accepted said _ (attitudes_of (settings_of f)) bs bs' z (omega (arith, c, l (λ (r : Row). r.attitude))) b;
          }
