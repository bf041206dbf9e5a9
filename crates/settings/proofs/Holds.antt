-- What the tables hold of the tuples before a place: by a channel's line, the last threshold and the last attitude before it; and how a
-- tuple changes them. Assumes nothing.
use mathlib.Core.Path.{◌≡◌, refl, sym, ap, subst, ◌∙◌}
use mathlib.Core.Bool.{Bool, true, false, cond, true≢false}
use mathlib.Core.Logic.{◌⊎◌, inl, inr, ⊎_elim}
use mathlib.Core.List.{List, [], ◌∷◌, ◌++◌, append-nil}
use Prim.Native.Nat.{ℕ, zero, suc, ◌+◌, ◌≤◌, ◌<◌}
use Rattle.std.specs.Prelude.{max}
use native.Mathlib.Omega.{arith}
use borrow.Author.Tests.{ltb-true, ltb-false, le-ltb, leb-false, eqb-true, eq-eqb}
use lib.Dec.{ltb, eqb}
use lib.ListN.{length, get_or, set, replicate, length-set}
use lib.Seq.{get_or-set_same, get_or-set_other}
use Rattle.layout.specs.declared.SoftwareChannel.{SoftwareChannel}
use Rattle.layout.specs.Verdict.{Fine}
use Rattle.layout.specs.Answers.{judged}
use Rattle.layout.proofs.Verdicts.{passes}
use Rattle.links.specs.declared.Channel.{Channel}
use Rattle.links.specs.Links.{Link, channel, names, Links, place_of, id_of, link_rules, new_channels, most_channels}
use Rattle.links.specs.inner.Tables.{channel_of, channel_row, channels_in}
use Rattle.links.proofs.Rows.{has-place, rows-length, rows_more}
use Rattle.links.proofs.Parents.{named-declared}
use Rattle.settings.specs.declared.Held.{Held}
use Rattle.settings.specs.declared.Role.{Role}
use Rattle.settings.specs.declared.Role.TheVariants.{Ping, Threshold, Attitude, ForAll, Declares, Other}
use Rattle.settings.specs.Settings.{Said, said, sets_threshold, sets_attitude, last_that, rows_here}
use Rattle.settings.specs.inner.Tables.{channel_line, line_of, threshold_in, attitude_in, held_by, rows_by, lines_by, Room, Stands, later}
use Rattle.settings.specs.inner.Tables.{told_by, rows_told, no_lines}
use Rattle.settings.proofs.Roles.{LinkOf}

-- ---- the last of tuples and of one more
last_snoc : (such : Role → Bool) (a : ℕ) (ss : List Said) (s : Said)
    → last_that such a (ss ++ (s ∷ [])) ≡ cond (such s.role) s.place (last_that such a ss)
unfolding last_that
last_snoc such a [] s = refl
last_snoc such a (x ∷ ss) s = last_snoc such (cond (such x.role) x.place a) ss s

-- ---- places in a list
module _ {A : Type 0} (key : A → ℕ) (d : A) where
  -- what is found has the key
  key_found : (x : ℕ) (l : List A) → place_of key x l < length l → key (get_or l (place_of key x l) d) ≡ x
  unfolding place_of
  key_found x [] h = absurd (omega arith)
  key_found x (y ∷ l) h = by (key_found x l) (eqb x (key y)) refl h
    where
      by : (place_of key x l < length l → key (get_or l (place_of key x l) d) ≡ x) → (b : Bool) → eqb x (key y) ≡ b
          → cond b 0 (suc (place_of key x l)) < suc (length l) → key (get_or (y ∷ l) (cond b 0 (suc (place_of key x l))) d) ≡ x
      by ih true e h = sym (eqb-true x (key y) e)
      by ih false e h = ih (omega arith)

  -- so keys of one place are one
  one_key : (x y : ℕ) (l : List A) → place_of key y l < length l → place_of key x l ≡ place_of key y l → x ≡ y
  one_key x y l h e =
      sym (key_found x l (subst (λ (i : ℕ). i < length l) (sym e) h))
      ∙ ap (λ (i : ℕ). key (get_or l i d)) e
      ∙ key_found y l h

  -- one more element: a key's place stays, or it wasn't found before
  place_snoc : (x : ℕ) (l : List A) (a : A)
      → (place_of key x (l ++ (a ∷ [])) ≡ place_of key x l) ⊎ ((length l ≤ place_of key x l) × (length l ≤ place_of key x (l ++ (a ∷ []))))
  unfolding place_of
  place_snoc x [] a = inr (omega arith, omega arith)
  place_snoc x (y ∷ l) a = by (place_of key x l) (place_of key x (l ++ (a ∷ []))) (eqb x (key y)) (place_snoc x l a)
    where
      by : (old new : ℕ) (b : Bool) → (new ≡ old) ⊎ ((length l ≤ old) × (length l ≤ new))
          → (cond b 0 (suc new) ≡ cond b 0 (suc old))
          ⊎ ((suc (length l) ≤ cond b 0 (suc old)) × (suc (length l) ≤ cond b 0 (suc new)))
      by old new true ih = inl refl
      by old new false ih = ⊎_elim (λ e. inl (ap suc e)) (λ h. inr (omega (arith, h.0), omega (arith, h.1))) ih

-- ---- what the tables hold before a place
pub record Holding (before : List Said) (at : ℕ) (h : Held) (rows ls : List (List ℕ)) : Type 0 where
  pub few : h.channels ≤ most_channels
  pub rows_long : length rows ≡ most_channels
  pub lines_long : length ls ≡ most_channels
  pub every : h.every ≤ at
  pub below : (i : ℕ) → attitude_in (get_or ls i []) ≤ at
  -- a line that isn't in use holds nothing
  pub unused : (i : ℕ) → h.channels ≤ i → (threshold_in (get_or ls i []) ≡ 0) × (attitude_in (get_or ls i []) ≡ 0)
  pub thresholds : (c : SoftwareChannel)
      → threshold_in (get_or ls (channel_line h.channels rows c) []) ≡ last_that (sets_threshold c) 0 before
  pub attitudes : (c : SoftwareChannel)
      → later (attitude_in (get_or ls (channel_line h.channels rows c) [])) h.every ≡ last_that (sets_attitude c) 0 before

-- ---- a tuple that keeps the rules of the links
-- the channel that it names is declared; there is room for one more
abbrev pub Named : Role → ℕ → List (List ℕ) → Type 0
Named (Ping c) n rows = channel_line n rows c < n
Named (Threshold c) n rows = channel_line n rows c < n
Named (Attitude c) n rows = channel_line n rows c < n
Named ForAll n rows = Unit {0}
Named (Declares c) n rows = n < most_channels
Named Other n rows = Unit {0}

pub named-line : (r : Role) (n : ℕ) (rows : List (List ℕ)) → n ≤ most_channels → Named r n rows → line_of r n rows < most_channels
named-line (Ping c) n rows l e = omega arith
named-line (Threshold c) n rows l e = omega arith
named-line (Attitude c) n rows l e = omega arith
named-line ForAll n rows l e = omega arith
named-line (Declares c) n rows l e = omega arith
named-line Other n rows l e = omega arith

pub named-room : (r : Role) (h : Held) (rows : List (List ℕ)) → Named r h.channels rows → Room r h
named-room (Ping c) h rows e = tt
named-room (Threshold c) h rows e = tt
named-room (Attitude c) h rows e = tt
named-room ForAll h rows e = tt
named-room (Declares c) h rows e = e
named-room Other h rows e = tt

-- by the links, whose channels the rows stand for
module _ (s : Links) (n : ℕ) (rows : List (List ℕ)) (fits : n ≤ length rows) (d : channels_in n rows ≡ s.channels) where
  as_many : length s.channels ≡ n
  as_many = ap length (sym d) ∙ rows-length channel_of rows n fits

  found-line : (l : Link) (c : SoftwareChannel) → l ≡ names c → judged (link_rules s l) ≡ Fine → channel_line n rows c < n
  found-line l c e j =
      let p : place_of id_of c.0 s.channels < length s.channels =
      ltb-true _ _ (sym (has-place id_of c.0 s.channels) ∙ named-declared s l c j e) in
      let q : channel_line n rows c ≡ place_of id_of c.0 s.channels = ap (place_of id_of c.0) d in
      omega (arith, p, q, as_many)

  pub named : (r : Role) (l : Link) → LinkOf r l → judged (link_rules s l) ≡ Fine → Named r n rows
  named (Ping c) l e j = found-line l c e j
  named (Threshold c) l e j = found-line l c e j
  named (Attitude c) l e j = found-line l c e j
  named ForAll l e j = tt
  named (Declares c) l e j =
      let p = passes (link_rules s (channel c)) (subst (λ (x : Link). judged (link_rules s x) ≡ Fine) e j) in
      let q : length s.channels < most_channels = leb-false most_channels (length s.channels) p.1.0 in
      omega (arith, q, as_many)
  named Other l e j = tt

  -- past it the rows stand for the channels behind it
  none_new : (l : Link) → new_channels l ≡ [] → channels_in n rows ≡ s.channels ++ new_channels l
  none_new l e = d ∙ sym (append-nil s.channels) ∙ ap (λ (x : List Channel). s.channels ++ x) (sym e)

module _ (s : Links) (h : Held) (rows : List (List ℕ)) (fits : length rows ≡ most_channels) (few : h.channels ≤ most_channels)
    (d : channels_in h.channels rows ≡ s.channels) (at near : ℕ) where
  abbrev same : (l : Link) → new_channels l ≡ [] → channels_in h.channels rows ≡ s.channels ++ new_channels l
  same l e = none_new s h.channels rows (omega (arith, fits, few)) d l e

  pub declared-past : (r : Role) (l : Link) → LinkOf r l → Named r h.channels rows → Stands r at
      → channels_in (held_by r at h near).channels (rows_by r at h rows) ≡ s.channels ++ new_channels l
  declared-past (Ping c) l e n z = same l (ap new_channels e)
  declared-past (Threshold c) l e n z = same l (ap new_channels e)
  declared-past (Attitude c) l e n z = same l (ap new_channels e)
  declared-past ForAll l e n z = same l e
  declared-past (Declares c) l e n z =
      rows_more channel_of rows h.channels (channel_row c at) (omega (arith, n, fits))
      ∙ ap (λ (x : Channel). channels_in h.channels rows ++ (x ∷ [])) z
      ∙ ap (λ (x : List Channel). x ++ (c ∷ [])) d
      ∙ ap (λ (x : Link). s.channels ++ new_channels x) (sym e)
  declared-past Other l e n z = same l e

-- ---- a store to a channel's line
module _ (n : ℕ) (rows ls : List (List ℕ)) (fits : n ≤ length rows) (few : n ≤ length ls) (c₀ : SoftwareChannel)
    (r : List ℕ) (z : channel_line n rows c₀ < n) where
  abbrev line : ℕ
  line = channel_line n rows c₀

  stored : {B : Type 0} (col : List ℕ → B) (c : SoftwareChannel)
      → col (get_or (set ls line r) (channel_line n rows c) []) ≡ cond (eqb c.0 c₀.0) (col r) (col (get_or ls (channel_line n rows c) []))
  stored {B} col c = by (eqb c.0 c₀.0) refl
    where
      by : (b : Bool) → eqb c.0 c₀.0 ≡ b
          → col (get_or (set ls line r) (channel_line n rows c) []) ≡ cond b (col r) (col (get_or ls (channel_line n rows c) []))
      by true e =
          ap (λ (x : ℕ). col (get_or (set ls line r) (place_of id_of x (channels_in n rows)) [])) (eqb-true c.0 c₀.0 e)
          ∙ ap col (get_or-set_same ls line r [] (omega (arith, z, few)))
      by false e =
          ap col (get_or-set_other ls line (channel_line n rows c) r []
          (λ q. let long = rows-length channel_of rows n fits in
          let one = one_key id_of (channel_of []) c.0 c₀.0 (channels_in n rows) (omega (arith, z, long)) q in
          true≢false (sym (eq-eqb c.0 c₀.0 one) ∙ e)))

  -- other lines stay as they were
  stored_other : (i : ℕ) → n ≤ i → get_or (set ls line r) i [] ≡ get_or ls i []
  stored_other i l = get_or-set_other ls line i r [] (λ q. omega (arith, z, l, q))

  stored-below : (up : ℕ) → attitude_in r ≤ up → ((i : ℕ) → attitude_in (get_or ls i []) ≤ up) → (i : ℕ)
      → attitude_in (get_or (set ls line r) i []) ≤ up
  stored-below up l k i = by (eqb i line) refl
    where
      by : (b : Bool) → eqb i line ≡ b → attitude_in (get_or (set ls line r) i []) ≤ up
      by true e =
          let q : i ≡ line = eqb-true i _ e in
          let v = ap (λ (j : ℕ). attitude_in (get_or (set ls line r) j [])) q
          ∙ ap attitude_in (get_or-set_same ls line r [] (omega (arith, z, few))) in
          omega (arith, l, v)
      by false e =
          let v = ap attitude_in (get_or-set_other ls line i r [] (λ q. true≢false (sym (eq-eqb i _ q) ∙ e))) in
          omega (arith, k i, v)

-- what one line says of two channels that are the same is the same
same_line : {B : Type 0} (col : List ℕ → B) (n : ℕ) (rows ls : List (List ℕ)) (c d : SoftwareChannel)
    → cond (eqb c.0 d.0) (col (get_or ls (channel_line n rows d) [])) (col (get_or ls (channel_line n rows c) []))
    ≡ col (get_or ls (channel_line n rows c) [])
same_line {B} col n rows ls c d = by (eqb c.0 d.0) refl
  where
    by : (b : Bool) → eqb c.0 d.0 ≡ b
        → cond b (col (get_or ls (channel_line n rows d) [])) (col (get_or ls (channel_line n rows c) []))
        ≡ col (get_or ls (channel_line n rows c) [])
    by true e = ap (λ (x : ℕ). col (get_or ls (place_of id_of x (channels_in n rows)) [])) (sym (eqb-true c.0 d.0 e))
    by false e = refl

-- ---- one more line: a channel that wasn't declared before has nothing yet
one_more : {B : Type 0} (col : List ℕ → B) (b : B) (n : ℕ) (rows ls : List (List ℕ)) (r : List ℕ) → n < length rows
    → ((i : ℕ) → n ≤ i → col (get_or ls i []) ≡ b) → (c : SoftwareChannel)
    → col (get_or ls (channel_line (n + 1) (set rows n r) c) []) ≡ col (get_or ls (channel_line n rows c) [])
one_more col b n rows ls r fits none c =
    let long : length (channels_in n rows) ≡ n = rows-length channel_of rows n (omega (arith, fits)) in
    ap (λ (l : List Channel). col (get_or ls (place_of id_of c.0 l) [])) (rows_more channel_of rows n r fits)
    ∙ ⊎_elim (λ e. ap (λ (i : ℕ). col (get_or ls i [])) e)
    (λ k. none _ (omega (arith, long, k.1)) ∙ sym (none _ (omega (arith, long, k.0))))
    (place_snoc id_of (channel_of []) c.0 (channels_in n rows) (channel_of r))

-- ---- the later of two attitudes
pub later-left : (a b : ℕ) → b ≤ a → later a b ≡ a
later-left a b h = ap (λ (x : Bool). cond x b a) (le-ltb a b h)

pub later-right : (a b : ℕ) → a ≤ b → later a b ≡ b
later-right a b h = by (ltb a b) refl
  where
    by : (x : Bool) → ltb a b ≡ x → cond x b a ≡ b
    by true e = refl
    by false e = let z : b ≤ a = ltb-false a b e in omega (arith, z, h)

-- which is the greater
pub max_later : (a b : ℕ) → max a b ≡ later a b
max_later a b = by (ltb a b) refl
  where
    by : (x : Bool) → ltb a b ≡ x → max a b ≡ cond x b a
    by true e = let z : a < b = ltb-true a b e in omega (arith, z)
    by false e = let z : b ≤ a = ltb-false a b e in omega (arith, z)

-- ---- behind the mark nothing is held
blank : (n i : ℕ) → let l : List ℕ = get_or (replicate n (0 ∷ 0 ∷ [])) i [] in (threshold_in l ≡ 0) × (attitude_in l ≡ 0)
blank zero i = (refl, refl)
blank (suc n) zero = (refl, refl)
blank (suc n) (suc i) = blank n i

pub holding-begin : (rows : List (List ℕ)) → length rows ≡ most_channels
    → Holding [] 4 (record { channels = 0; every = 0; near = 0 }) rows no_lines
unfolding last_that
holding-begin rows e =
    record {
      few = omega arith;
      rows_long = e;
      lines_long = refl;
      every = omega arith;
      below = λ i. omega (arith, (blank most_channels i).1);
      unused = λ i l. blank most_channels i;
      thresholds = λ c. (blank most_channels (channel_line 0 rows c)).0;
      attitudes = λ c.
          let e = (blank most_channels (channel_line 0 rows c)).1 in
          later-right (attitude_in (get_or no_lines (channel_line 0 rows c) [])) 0 (omega arith);
    }

module _ (before : List Said) (at : ℕ) (h : Held) (rows ls : List (List ℕ)) (g : Holding before at h rows ls) where
  -- ---- what is told of a ping is what the tables hold
  pub rows-held : (r : Role) → rows_told at (told_by r (line_of r h.channels rows) h ls) ≡ rows_here before at r
  rows-held (Ping c) = λ i. record { ping = at; threshold = g.thresholds c i; attitude = g.attitudes c i } ∷ []
  rows-held (Threshold c) = refl
  rows-held (Attitude c) = refl
  rows-held ForAll = refl
  rows-held (Declares c) = refl
  rows-held Other = refl

  -- ---- past a tuple
  abbrev n : ℕ
  n = h.channels

  abbrev rooms : n ≤ length rows
  rooms = omega (arith, g.few, g.rows_long)

  abbrev lines : n ≤ length ls
  lines = omega (arith, g.few, g.lines_long)

  kept : (such : Role → Bool) (r : Role) → such r ≡ false → last_that such 0 before ≡ last_that such 0 (before ++ (said at r ∷ []))
  kept such r z = sym (last_snoc such 0 before (said at r) ∙ ap (λ (b : Bool). cond b at (last_that such 0 before)) z)

  module _ (up near : ℕ) (l : at ≤ up) where
    below_up : (i : ℕ) → attitude_in (get_or ls i []) ≤ up
    below_up i = omega (arith, l, g.below i)

    -- one that sets nothing
    past_same : (r : Role) → ((c : SoftwareChannel) → sets_threshold c r ≡ false) → ((c : SoftwareChannel) → sets_attitude c r ≡ false)
        → Holding (before ++ (said at r ∷ [])) up (record { channels = n; every = h.every; near = near }) rows ls
    past_same r a b =
        record {
          few = g.few;
          rows_long = g.rows_long;
          lines_long = g.lines_long;
          every = omega (arith, l, g.every);
          below = below_up;
          unused = g.unused;
          thresholds = λ c. g.thresholds c ∙ kept (sets_threshold c) r (a c);
          attitudes = λ c. g.attitudes c ∙ kept (sets_attitude c) r (b c);
        }

    past-threshold : (d : SoftwareChannel) → channel_line n rows d < n → let i = channel_line n rows d in
        Holding (before ++ (said at (Threshold d) ∷ [])) up (record { channels = n; every = h.every; near = near }) rows
        (set ls i (at ∷ attitude_in (get_or ls i []) ∷ []))
    past-threshold d z =
        let i = channel_line n rows d in
        let new = at ∷ attitude_in (get_or ls i []) ∷ [] in
        record {
          few = g.few;
          rows_long = g.rows_long;
          lines_long = length-set ls i new ∙ g.lines_long;
          every = omega (arith, l, g.every);
          below = stored-below n rows ls rooms lines d new z up (below_up i) below_up;
          unused = λ j q. subst (λ (x : List ℕ). (threshold_in x ≡ 0) × (attitude_in x ≡ 0))
              (sym (stored_other n rows ls rooms lines d new z j q)) (g.unused j q);
          thresholds = λ c.
              stored n rows ls rooms lines d new z threshold_in c
              ∙ ap (λ (x : ℕ). cond (eqb c.0 d.0) at x) (g.thresholds c)
              ∙ sym (last_snoc (sets_threshold c) 0 before (said at (Threshold d)));
          attitudes = λ c.
              ap (λ (x : ℕ). later x h.every) (stored n rows ls rooms lines d new z attitude_in c ∙ same_line attitude_in n rows ls c d)
              ∙ g.attitudes c
              ∙ kept (sets_attitude c) (Threshold d) refl;
        }

    past-attitude : (d : SoftwareChannel) → channel_line n rows d < n → let i = channel_line n rows d in
        Holding (before ++ (said at (Attitude d) ∷ [])) up (record { channels = n; every = h.every; near = near }) rows
        (set ls i (threshold_in (get_or ls i []) ∷ at ∷ []))
    past-attitude d z =
        let i = channel_line n rows d in
        let new = threshold_in (get_or ls i []) ∷ at ∷ [] in
        record {
          few = g.few;
          rows_long = g.rows_long;
          lines_long = length-set ls i new ∙ g.lines_long;
          every = omega (arith, l, g.every);
          below = stored-below n rows ls rooms lines d new z up l below_up;
          unused = λ j q. subst (λ (x : List ℕ). (threshold_in x ≡ 0) × (attitude_in x ≡ 0))
              (sym (stored_other n rows ls rooms lines d new z j q)) (g.unused j q);
          thresholds = λ c.
              stored n rows ls rooms lines d new z threshold_in c
              ∙ same_line threshold_in n rows ls c d
              ∙ g.thresholds c
              ∙ kept (sets_threshold c) (Attitude d) refl;
          attitudes = λ c.
              ap (λ (x : ℕ). later x h.every) (stored n rows ls rooms lines d new z attitude_in c)
              ∙ by_test c (eqb c.0 d.0)
              ∙ sym (last_snoc (sets_attitude c) 0 before (said at (Attitude d)));
        }
      where
        by_test : (c : SoftwareChannel) (b : Bool)
            → later (cond b at (attitude_in (get_or ls (channel_line n rows c) []))) h.every
            ≡ cond b at (last_that (sets_attitude c) 0 before)
        by_test c true = later-left at h.every g.every
        by_test c false = g.attitudes c

    past_all : Holding (before ++ (said at ForAll ∷ [])) up (record { channels = n; every = at; near = near }) rows ls
    past_all =
        record {
          few = g.few;
          rows_long = g.rows_long;
          lines_long = g.lines_long;
          every = l;
          below = below_up;
          unused = g.unused;
          thresholds = λ c. g.thresholds c ∙ kept (sets_threshold c) ForAll refl;
          attitudes = λ c. later-right _ at (g.below _) ∙ sym (last_snoc (sets_attitude c) 0 before (said at ForAll));
        }

    past-declared : (d : Channel) → n < most_channels
        → Holding (before ++ (said at (Declares d) ∷ [])) up (record { channels = n + 1; every = h.every; near = near })
        (set rows n (channel_row d at)) ls
    past-declared d z =
        let fits : n < length rows = omega (arith, z, g.rows_long) in
        record {
          few = omega (arith, z);
          rows_long = length-set rows n (channel_row d at) ∙ g.rows_long;
          lines_long = g.lines_long;
          every = omega (arith, l, g.every);
          below = below_up;
          unused = λ i k. g.unused i (omega (arith, k));
          thresholds = λ c.
              one_more threshold_in 0 n rows ls (channel_row d at) fits (λ i q. (g.unused i q).0) c
              ∙ g.thresholds c
              ∙ kept (sets_threshold c) (Declares d) refl;
          attitudes = λ c.
              ap (λ (x : ℕ). later x h.every) (one_more attitude_in 0 n rows ls (channel_row d at) fits (λ i q. (g.unused i q).1) c)
              ∙ g.attitudes c
              ∙ kept (sets_attitude c) (Declares d) refl;
        }

    pub holding-past : (r : Role) → Named r h.channels rows
        → Holding (before ++ (said at r ∷ [])) up (held_by r at h near) (rows_by r at h rows)
        (lines_by r at (line_of r h.channels rows) ls)
    holding-past (Ping c) z = past_same (Ping c) (λ d. refl) (λ d. refl)
    holding-past (Threshold d) z = past-threshold d z
    holding-past (Attitude d) z = past-attitude d z
    holding-past ForAll z = past_all
    holding-past (Declares d) z = past-declared d z
    holding-past Other z = past_same Other (λ d. refl) (λ d. refl)
