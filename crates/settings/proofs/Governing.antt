-- What the rows say, proved (specs/Governing). Assumes nothing.
use mathlib.Core.Path.{◌≡◌, refl, sym, ap, ap₂, subst, ◌∙◌}
use mathlib.Core.Logic.{◌⊎◌, inl, inr, ⊎_elim}
use mathlib.Core.Bool.{Bool, true, false, cond}
use mathlib.Core.List.{List, [], ◌∷◌, ◌++◌, map, append-nil, append_assoc}
use Prim.Native.Nat.{ℕ, ◌+◌, ◌≤◌}
use native.Mathlib.Omega.{arith}
use lib.ListN.{length, take, drop, length-append, length-map}
use lib.Seq.{take_at}
use Rattle.rules.proofs.Laws.{clear}
use Rattle.layout.specs.declared.Counts.{Counts}
use Rattle.layout.specs.Answer.{Answer}
use Rattle.layout.specs.Answer.{Accepted, Refused}
use Rattle.layout.specs.Answers.{left_by, is_accepted}
use Rattle.frame.specs.Frames.{Tup, length_of}
use Rattle.frame.specs.Files.{is_msb}
use Rattle.frame.specs.Tuples.{tuples_of}
use Rattle.intake.specs.Check.{writing, check_file}
use Rattle.intake.proofs.Accepted.{refusal}
use Rattle.settings.specs.declared.Role.{Role}
use Rattle.settings.specs.declared.Role.TheVariants.{Ping, Threshold, Attitude, ForAll, Declares, Other}
use Rattle.settings.specs.Settings.{Said, said, Row, role_item, role_of, says, says_of_file, sets_threshold, sets_attitude, last_that}
use Rattle.settings.specs.Settings.{rows_here, rows_after, settings_of, room_rules, behind_check, settings_answer}
use Rattle.settings.specs.Governing.{NoneSuch, LastOf, AllGoverned, pings_among, Alike, Begin, SameFirst, Call}
use Rattle.settings.specs.Governing.{SamePings, Settings}
use Rattle.settings.proofs.Roles.{is_ping_role, ping-role}

-- ---- the last that is such
last-from : (such : Role → Bool) (ss : List Said) (a : ℕ)
    → LastOf such ss (last_that such a ss) ⊎ (NoneSuch such ss × (last_that such a ss ≡ a))
unfolding last_that
last-from such [] a = inr (tt, refl)
last-from such (s ∷ ss) a = by (λ b. last-from such ss b) (such s.role) refl
  where
    after : (b : ℕ) → LastOf such ss (last_that such b ss) → LastOf such (s ∷ ss) (last_that such b ss)
    after b r =
        record {
          before = s ∷ r.before;
          it = r.it;
          behind = r.behind;
          among = ap (λ (x : List Said). s ∷ x) r.among;
          fits = r.fits;
          place = r.place;
          last = r.last;
        }

    by : ((b : ℕ) → LastOf such ss (last_that such b ss) ⊎ (NoneSuch such ss × (last_that such b ss ≡ b))) → (b : Bool)
        → such s.role ≡ b
        → LastOf such (s ∷ ss) (last_that such (cond b s.place a) ss)
        ⊎ (NoneSuch such (s ∷ ss) × (last_that such (cond b s.place a) ss ≡ a))
    by ih true e =
        ⊎_elim (λ r. inl (after s.place r))
        (λ n. inl (record { before = []; it = s; behind = ss; among = refl; fits = e; place = sym n.1; last = n.0 })) (ih s.place)
    by ih false e = ⊎_elim (λ r. inl (after a r)) (λ n. inr ((e, n.0), n.1)) (ih a)

-- ---- each row is governed
ping-governed : (before behind : List Said) (at : ℕ) (r : Role)
    → AllGoverned (before ++ (said at r ∷ behind)) (rows_here before at r)
ping-governed before behind at (Ping c) = (
  record {
    before = before;
    channel = c;
    behind = behind;
    there = refl;
    threshold = last-from (sets_threshold c) before 0;
    attitude = last-from (sets_attitude c) before 0;
  },
  tt,
)
ping-governed before behind at (Threshold c) = tt
ping-governed before behind at (Attitude c) = tt
ping-governed before behind at ForAll = tt
ping-governed before behind at (Declares c) = tt
ping-governed before behind at Other = tt

both-governed : (ss : List Said) (xs ys : List Row) → AllGoverned ss xs → AllGoverned ss ys → AllGoverned ss (xs ++ ys)
both-governed ss [] ys a b = b
both-governed ss (x ∷ xs) ys a b = (a.0, both-governed ss xs ys a.1 b)

rows-governed : (before ss : List Said) → AllGoverned (before ++ ss) (rows_after before ss)
unfolding rows_after
rows-governed before [] = tt
rows-governed before (s ∷ ss) =
    both-governed (before ++ (s ∷ ss)) (rows_here before s.place s.role) (rows_after (before ++ (s ∷ [])) ss)
    (ping-governed before ss s.place s.role)
    (subst (λ (x : List Said). AllGoverned x (rows_after (before ++ (s ∷ [])) ss)) (append_assoc before (s ∷ []) ss)
    (rows-governed (before ++ (s ∷ [])) ss))

-- ---- a row for each listed ping
one-row : (b : List Said) (at : ℕ) (r : Role) → length (rows_here b at r) ≡ cond (is_ping_role r) 1 0
one-row b at (Ping c) = refl
one-row b at (Threshold c) = refl
one-row b at (Attitude c) = refl
one-row b at ForAll = refl
one-row b at (Declares c) = refl
one-row b at Other = refl

count-rows : (o : Bool) (b : List Said) (at : ℕ) (ts : List Tup) → length (rows_after b (says o at ts)) ≡ pings_among ts
unfolding rows_after pings_among
count-rows o b at [] = refl
count-rows o b at (t ∷ ts) =
    let b⁺ = b ++ (said at (role_of o t) ∷ []) in
    length-append (rows_here b at (role_of o t)) (rows_after b⁺ (says o (at + length_of t) ts))
    ∙ ap₂ (λ (x y : ℕ). x + y) (one-row b at (role_of o t) ∙ ap (λ (p : Bool). cond p 1 0) (ping-role o t))
    (count-rows o b⁺ (at + length_of t) ts)

pub rows-many : (f : List ℕ) → length (settings_of f) ≡ pings_among (tuples_of f)
unfolding settings_of says_of_file
rows-many f = count-rows (is_msb f) [] 4 (tuples_of f)

-- ---- rows of tuples and of those that follow
rows_split : (b xs ys : List Said) → rows_after b (xs ++ ys) ≡ rows_after b xs ++ rows_after (b ++ xs) ys
unfolding rows_after
rows_split b [] ys = ap (λ (x : List Said). rows_after x ys) (sym (append-nil b))
rows_split b (x ∷ xs) ys =
    let h = rows_here b x.place x.role in
    let b⁺ = b ++ (x ∷ []) in
    ap (λ (r : List Row). h ++ r)
    (rows_split b⁺ xs ys ∙ ap (λ (c : List Said). rows_after b⁺ xs ++ rows_after c ys) (append_assoc b (x ∷ []) xs))
    ∙ sym (append_assoc h (rows_after b⁺ xs) (rows_after (b ++ (x ∷ xs)) ys))

place_behind : ℕ → List Tup → ℕ
place_behind at [] = at
place_behind at (t ∷ ts) = place_behind (at + length_of t) ts

says-split : (o : Bool) (at : ℕ) (ts us : List Tup) → says o at (ts ++ us) ≡ says o at ts ++ says o (place_behind at ts) us
unfolding place_behind
says-split o at [] us = refl
says-split o at (t ∷ ts) us = ap (λ (x : List Said). said at (role_of o t) ∷ x) (says-split o (at + length_of t) ts us)

-- ---- tuples that are alike say the same
says-alike : (o p : Bool) (at : ℕ) (ts us : List Tup) → Alike o ts p us → says o at ts ≡ says p at us
unfolding role_of
says-alike o p at [] [] a = refl
says-alike o p at [] (u ∷ us) a = absurd a
says-alike o p at (t ∷ ts) [] a = absurd a
says-alike o p at (t ∷ ts) (u ∷ us) a =
    let rest : says o (at + length_of t) ts ≡ says p (at + length_of u) us =
    says-alike o p (at + length_of t) ts us a.2 ∙ ap (λ (n : ℕ). says p (at + n) us) a.0 in
    λ i. said at (role_item (a.1 i)) ∷ rest i

alike_same : (o : Bool) (ts : List Tup) → Alike o ts o ts
alike_same o [] = tt
alike_same o (t ∷ ts) = (refl, refl, alike_same o ts)

-- ---- the rows of a file that begins with tuples
module _ (f : List ℕ) (ts fs : List Tup) (e : tuples_of f ≡ ts ++ fs) where
  abbrev firsts : List Row
  firsts = rows_after [] (says (is_msb f) 4 ts)

  abbrev others : List Row
  others = rows_after (says (is_msb f) 4 ts) (says (is_msb f) (place_behind 4 ts) fs)

  begins : settings_of f ≡ firsts ++ others
  unfolding settings_of says_of_file
  begins =
      ap (λ (us : List Tup). rows_after [] (says (is_msb f) 4 us)) e
      ∙ ap (rows_after []) (says-split (is_msb f) 4 ts fs)
      ∙ rows_split [] (says (is_msb f) 4 ts) (says (is_msb f) (place_behind 4 ts) fs)

-- ---- an accepted call tells all rows
told-rows : (f : List ℕ) (a b c : ℕ) (n : Counts) → Accepted n ≡ settings_answer f a b c → n.written ≡ length (settings_of f)
unfolding settings_answer
told-rows f a b c n e = by (check_file f) (sym e)
  where
    by : (x : Answer) → behind_check f a b c x ≡ Accepted n → n.written ≡ length (settings_of f)
    by (Refused x p) q = refusal x p n q
    by (Accepted m) q =
        let rows = length (settings_of f) in
        let z = clear is_accepted (room_rules rows a b c) (Accepted (writing m rows)) (Accepted n) (refl, tt) q refl in
        sym (cc z.1)

-- the front of a column
column-front : (key : Row → ℕ) (rows firsts others : List Row) (lent left : List ℕ) (a : Answer) (i : Counts) (n : ℕ)
    → rows ≡ firsts ++ others → length firsts ≡ n → Accepted i ≡ a → left ≡ left_by a (map key rows) lent → take n left ≡ map key firsts
column-front key rows firsts others lent left a i n e l s w =
    let more = map key others ++ drop (length (map key rows)) lent in
    let whole : left ≡ map key firsts ++ more =
    w
    ∙ ap (λ (x : Answer). left_by x (map key rows) lent) (sym s)
    ∙ ap (λ (x : List ℕ). x ++ drop (length (map key rows)) lent) (ap (map key) e ∙ map_both firsts)
    ∙ append_assoc (map key firsts) (map key others) (drop (length (map key rows)) lent) in
    ap (take n) whole ∙ take_at (map key firsts) more n (length-map firsts key ∙ l)
  where
    map_both : (xs : List Row) → map key (xs ++ others) ≡ map key xs ++ map key others
    map_both [] = refl
    map_both (x ∷ xs) = ap (λ (y : List ℕ). key x ∷ y) (map_both xs)

-- ---- two calls of files that begin alike
module _ {f g : List ℕ} {ts us : List Tup} (b : Begin f g ts us) (x : Call f) (y : Call g) where
  abbrev n : ℕ
  n = pings_among ts

  abbrev rows_f : List Row
  rows_f = firsts f ts b.fs b.first

  abbrev rows_g : List Row
  rows_g = firsts g us b.gs b.second

  same-firsts : rows_f ≡ rows_g
  same-firsts = ap (rows_after []) (says-alike (is_msb f) (is_msb g) 4 ts us b.alike)

  many : length rows_f ≡ n
  many = count-rows (is_msb f) [] 4 ts

  as_many : length rows_g ≡ n
  as_many = ap length (sym same-firsts) ∙ many

  fewer : (h : List ℕ) (vs ws : List Tup) (e : tuples_of h ≡ vs ++ ws) (j : ℕ) → length (firsts h vs ws e) ≡ n
      → j ≡ length (settings_of h) → n ≤ j
  fewer h vs ws e j l q =
      omega (arith, l, q, ap length (begins h vs ws e), length-append (firsts h vs ws e) (others h vs ws e))

  both-front : (key : Row → ℕ) (lent lent' left left' : List ℕ) (a a' : Answer) → Accepted x.counts ≡ a
      → left ≡ left_by a (map key (settings_of f)) lent → Accepted y.counts ≡ a' → left' ≡ left_by a' (map key (settings_of g)) lent'
      → SameFirst n left left'
  both-front key lent lent' left left' a a' p q p' q' =
      let first = begins f ts b.fs b.first in
      let second = begins g us b.gs b.second in
      column-front key (settings_of f) rows_f (others f ts b.fs b.first) lent left a x.counts n first many p q
      ∙ ap (map key) same-firsts
      ∙ sym (column-front key (settings_of g) rows_g (others g us b.gs b.second) lent' left' a' y.counts n second as_many p' q')

  same-pings : SamePings (pings_among ts) x y
  same-pings =
      let p = x.told.answer.is in
      let q = y.told.answer.is in
      record {
        first = fewer f ts b.fs b.first _ many (told-rows f _ _ _ x.counts p);
        second = fewer g us b.gs b.second _ as_many (told-rows g _ _ _ y.counts q);
        pings = both-front (λ (r : Row). r.ping) _ _ _ _ _ _ p x.told.pings q y.told.pings;
        thresholds = both-front (λ (r : Row). r.threshold) _ _ _ _ _ _ p x.told.thresholds q y.told.thresholds;
        attitudes = both-front (λ (r : Row). r.attitude) _ _ _ _ _ _ p x.told.attitudes q y.told.attitudes;
      }

pub settings : Settings
settings =
    record {
      rows = rows-many;
      told = λ {f} x. told-rows f _ _ _ x.counts x.told.answer.is ∙ rows-many f;
      governed = λ f. unfold settings_of in rows-governed [] (says_of_file f);
      same = alike_same;
      prefix = λ b x y. same-pings b x y;
    }
