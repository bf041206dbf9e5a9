-- The settings that held at each ping are the same with private tuples put in, each row at its new places. Assumes nothing.
use mathlib.Core.Path.{◌≡◌, refl, sym, ap, ap₂, ◌∙◌}
use mathlib.Core.Bool.{Bool, true, false, cond, ◌||◌}
use mathlib.Core.List.{List, [], ◌∷◌, ◌++◌, map, map-append}
use Prim.Native.Nat.{ℕ, ◌+◌}
use native.Mathlib.Omega.{arith}
use lib.Dec.{ltb}
use lib.ListN.{length, length-map}
use Rattle.rules.specs.Rules.{first_of}
use Rattle.layout.specs.Answer.{Answer}
use Rattle.layout.specs.Answer.{Accepted}
use Rattle.frame.specs.Frames.{Tup, length_of}
use Rattle.intake.specs.Check.{writing}
use Rattle.settings.specs.declared.Role.{Role}
use Rattle.settings.specs.declared.Role.TheVariants.{Ping, Threshold, Attitude, ForAll, Declares, Other}
use Rattle.settings.specs.Settings.{role_item, role_of, Said, said, says, says_of_file, sets_threshold, sets_attitude, last_that}
use Rattle.settings.specs.Settings.{rows_here, rows_after, settings_of, room_rules, behind_check, settings_answer}
use Rattle.partners.specs.Private.{Part, own, put, own_of, all_of, put_in, AllPrivate, parts_of, Mixed, moved}
use Rattle.partners.specs.Answers.{more, answer_moved, row_moved, extra, Both}
use Rattle.partners.proofs.Shapes.{private-item}
use Rattle.partners.proofs.Places.{Follows, at_own, past-own, past-put, moved-begin, moved_none}
use Rattle.partners.proofs.Files.{all-private, order-own, order-all, tuples-own, tuples-all}
use Rattle.partners.proofs.Pings.{room_moved}

private-role : (o : Bool) (x : Tup) → AllPrivate (x ∷ []) → role_of o x ≡ Other
unfolding role_of
private-role o x v = ap role_item (private-item o x v.0)

module _ (to : ℕ → ℕ) where
  -- the second list has the tuples of the first, each at its new place, and between them others that have no part in this
  data Shifted : List Said → List Said → Type 0 where
    done : Shifted [] []
    kept : {p : ℕ} {r : Role} {xs ys : List Said} → Shifted xs ys → Shifted (said p r ∷ xs) (said (to p) r ∷ ys)
    other : {q : ℕ} {xs ys : List Said} → Shifted xs ys → Shifted xs (said q Other ∷ ys)

  says_shifted : (o : Bool) (ps : List Part) → AllPrivate (put_in ps) → {at d : ℕ} → Follows to ps at d
      → Shifted (says o at (own_of ps)) (says o (at + d) (all_of ps))
  says_shifted o [] v h = done
  says_shifted o (own t ∷ ps) v {at} {d} h =
      let e : at + d + length_of t ≡ at + length_of t + d = omega arith in
      rw (e, ← at_own h) (kept (says_shifted o ps v (past-own h)))
  says_shifted o (put x ∷ ps) v {at} {d} h =
      let e : at + d + length_of x ≡ at + (d + length_of x) = omega arith in
      rw (private-role o x (v.0, tt), e) (other (says_shifted o ps v.1 (past-put h)))

  pick_to : (b : Bool) (p a : ℕ) → cond b (to p) (to a) ≡ to (cond b p a)
  pick_to true p a = refl
  pick_to false p a = refl

  -- the last that is such moves with it
  last-moved : (such : Role → Bool) → such Other ≡ false → {xs ys : List Said} → Shifted xs ys → (a : ℕ)
      → last_that such (to a) ys ≡ to (last_that such a xs)
  unfolding last_that
  last-moved such z done a = refl
  last-moved such z (kept {p} {r} {xs} {ys} s) a =
      ap (λ (x : ℕ). last_that such x ys) (pick_to (such r) p a) ∙ last-moved such z s (cond (such r) p a)
  last-moved such z (other {q} {xs} {ys} s) a = ap (λ (b : Bool). last_that such (cond b q (to a)) ys) z ∙ last-moved such z s a

  -- one more behind them
  shifted_kept : {xs ys : List Said} (p : ℕ) (r : Role) → Shifted xs ys → Shifted (xs ++ (said p r ∷ [])) (ys ++ (said (to p) r ∷ []))
  shifted_kept p r done = kept done
  shifted_kept p r (kept s) = kept (shifted_kept p r s)
  shifted_kept p r (other s) = other (shifted_kept p r s)

  shifted_other : {xs ys : List Said} (q : ℕ) → Shifted xs ys → Shifted xs (ys ++ (said q Other ∷ []))
  shifted_other q done = other done
  shifted_other q (kept s) = kept (shifted_other q s)
  shifted_other q (other s) = other (shifted_other q s)

  module _ (zero-stays : to 0 ≡ 0) where
    last_none : (such : Role → Bool) → such Other ≡ false → {xs ys : List Said} → Shifted xs ys
        → last_that such 0 ys ≡ to (last_that such 0 xs)
    last_none such z {xs} {ys} s = ap (λ (x : ℕ). last_that such x ys) (sym zero-stays) ∙ last-moved such z s 0

    here-moved : (xs ys : List Said) → Shifted xs ys → (p : ℕ) (r : Role) → rows_here ys (to p) r ≡ map (row_moved to) (rows_here xs p r)
    here-moved xs ys s p (Ping c) =
        λ i. record {
          ping = to p;
          threshold = last_none (sets_threshold c) refl s i;
          attitude = last_none (sets_attitude c) refl s i;
        } ∷ []
    here-moved xs ys s p (Threshold c) = refl
    here-moved xs ys s p (Attitude c) = refl
    here-moved xs ys s p ForAll = refl
    here-moved xs ys s p (Declares c) = refl
    here-moved xs ys s p Other = refl

    -- and so do the rows
    rows-moved : {b c xs ys : List Said} → Shifted b c → Shifted xs ys → rows_after c ys ≡ map (row_moved to) (rows_after b xs)
    unfolding rows_after
    rows-moved s done = refl
    rows-moved {b} {c} s (kept {p} {r} {xs} {ys} t) =
        ap₂ ◌++◌ (here-moved b c s p r) (rows-moved {b = b ++ (said p r ∷ [])} {c = c ++ (said (to p) r ∷ [])} (shifted_kept p r s) t)
        ∙ sym (map-append (row_moved to) (rows_here b p r) (rows_after (b ++ (said p r ∷ [])) xs))
    rows-moved {b} {c} s (other {q} {xs} {ys} t) = rows-moved {b = b} {c = c ++ (said q Other ∷ [])} (shifted_other q s) t

-- ---- of two files
module _ {f g : List ℕ} (m : Mixed f g) where
  pub settings : settings_of g ≡ map (row_moved (moved m)) (settings_of f)
  unfolding settings_of says_of_file
  settings =
      ap₂ (λ (o : Bool) (ts : List Tup). rows_after [] (says o 4 ts)) (order-all m) (tuples-all m)
      ∙ rows-moved (moved m) (moved_none m) done
      (says_shifted (moved m) m.msb (parts_of m) (all-private m) (moved-begin m))
      ∙ sym (ap₂ (λ (o : Bool) (ts : List Tup). map (row_moved (moved m)) (rows_after [] (says o 4 ts))) (order-own m) (tuples-own m))

  pub settings-answer : Both m → (x y z : ℕ) → settings_answer g x y z ≡ answer_moved (moved m) (extra m) (settings_answer f x y z)
  unfolding settings_answer
  settings-answer b x y z =
      let many : length (settings_of g) ≡ length (settings_of f) = ap length settings ∙ length-map (settings_of f) (row_moved (moved m)) in
      ap (behind_check g x y z) b.within
      ∙ ap (λ (n : ℕ). first_of (room_rules n x y z) (Accepted (writing (more (extra m) b.counts) n))) many
      ∙ (let n = length (settings_of f) in room_moved (moved m) (moved_none m) (extra m) n b.counts (ltb x n || (ltb y n || ltb z n)))
      ∙ sym (ap (λ (a : Answer). answer_moved (moved m) (extra m) (behind_check f x y z a)) b.without)
