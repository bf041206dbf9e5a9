-- What the loop carries: the filling of the slices. Assumes nothing.
use mathlib.Core.Path.{◌≡◌, refl, sym, ap, ap₂, subst, ◌∙◌}
use mathlib.Core.Bool.{Bool, true, false, cond}
use mathlib.Core.List.{List, [], ◌∷◌, ◌++◌, map, append-nil, append_assoc}
use Prim.Native.Nat.{ℕ, ◌+◌, ◌-◌, ◌≤◌, ◌<◌}
use native.Mathlib.Omega.{arith}
use lib.ListN.{length, drop, length-append, length-map}
use lib.Seq.{sets, length-sets}
use Rattle.std.specs.Prelude.{Option, Some, None}
use Rattle.order.proofs.Stores.{sets_append}
use Rattle.frame.specs.Frames.{Tup, length_of, len_at, kind_at, tup_at}
use Rattle.frame.specs.Files.{is_msb}
use Rattle.frame.specs.Tuples.{tuples_of}
use Rattle.frame.proofs.Places.{Whole}
use Rattle.links.specs.Links.{Links, start, id_of, Apart, note, most_channels}
use Rattle.links.specs.declared.Channel.{Channel}
use Rattle.links.specs.inner.Tables.{channels_in}
use Rattle.content.specs.Items.{digest}
use Rattle.intake.specs.inner.Sound.{SoundHere, Accepts}
use Rattle.intake.proofs.Loops.{Passing, passing-begin, passing-sound, passing-whole, passing-linked, passing-tells}
use Rattle.intake.proofs.Loops.{passing-again, passing-less, passing-done}
use Rattle.settings.specs.declared.Held.{Held}
use Rattle.settings.specs.declared.Told.{Told}
use Rattle.settings.specs.declared.Role.{Role}
use Rattle.settings.specs.Settings.{Said, said, Row, role_of, says, says_of_file, rows_here, rows_after, settings_of, pings_of}
use Rattle.settings.specs.Settings.{thresholds_of, attitudes_of}
use Rattle.settings.specs.inner.Tables.{line_of, held_by, rows_by, lines_by, Room, Stands, told_by, row_told, rows_told, RowRoom}
use Rattle.settings.specs.inner.Tables.{Roomy, no_lines}
use Rattle.settings.proofs.Roles.{LinkOf, role-link}
use Rattle.settings.proofs.Holds.{Holding, Named, named, named-line, named-room, declared-past, holding-begin, rows-held}
use Rattle.settings.proofs.Holds.{holding-past}

-- ---- a column of the rows
column : (key : Row → ℕ) (out₀ out next : List ℕ) (done rows : List Row) (row : ℕ) → out ≡ sets out₀ 0 (map key done) → row ≡ length done
    → next ≡ sets out row (map key rows)
    → next ≡ sets out₀ 0 (map key (done ++ rows))
column key out₀ out next done rows row a b c =
    let n : row ≡ 0 + length (map key done) = omega (arith, b, length-map done key) in
    c
    ∙ ap₂ (λ (x : List ℕ) (i : ℕ). sets x i (map key rows)) a n
    ∙ sym (sets_append (map key done) (map key rows) out₀ 0)
    ∙ ap (sets out₀ 0) (sym (map_both done))
  where
    map_both : (xs : List Row) → map key (xs ++ rows) ≡ map key xs ++ map key rows
    map_both [] = refl
    map_both (x ∷ xs) = ap (λ (l : List ℕ). key x ∷ l) (map_both xs)

-- ---- the filling: the rows told and those to come are all, and the tables hold what governs
abbrev left : Bool → List Row → List Said → ℕ → List Tup → List Row
left o done before at ts = done ++ rows_after before (says o at ts)

-- the three slices
pub record Slices : Type 0 where
  pub pings : List ℕ
  pub thresholds : List ℕ
  pub attitudes : List ℕ

abbrev pub slices : List ℕ → List ℕ → List ℕ → Slices
slices ps ts bs = record { pings = ps; thresholds = ts; attitudes = bs }

-- with rows stored from a place on
pub record Stored (a : Slices) (row : ℕ) (rows : List Row) (b : Slices) : Type 0 where
  pub pings : b.pings ≡ sets a.pings row (pings_of rows)
  pub thresholds : b.thresholds ≡ sets a.thresholds row (thresholds_of rows)
  pub attitudes : b.attitudes ≡ sets a.attitudes row (attitudes_of rows)

stored_more : {a b c : Slices} {done rows : List Row} {row : ℕ} → Stored a 0 done b → row ≡ length done → Stored b row rows c
    → Stored a 0 (done ++ rows) c
stored_more {a} {b} {c} {done} {rows} {row} p e q =
    record {
      pings = column (λ (r : Row). r.ping) a.pings b.pings c.pings done rows row p.pings e q.pings;
      thresholds =
          column (λ (r : Row). r.threshold) a.thresholds b.thresholds c.thresholds done rows row p.thresholds e
          q.thresholds;
      attitudes =
          column (λ (r : Row). r.attitude) a.attitudes b.attitudes c.attitudes done rows row p.attitudes e q.attitudes;
    }

pub record Filling (f : List ℕ) (a : Slices) (o : Bool) (at : ℕ) (h : Held) (row : ℕ) (rows ls : List (List ℕ)) (b : Slices) : Type 0 where
  pub before : List Said
  pub done : List Row
  pub links : Links
  pub passing : Passing (left o done before) (settings_of f) o f at links
  pub holding : Holding before at h rows ls
  pub declared : channels_in h.channels rows ≡ links.channels
  pub told : row ≡ length done
  pub few : row ≤ at
  pub stored : Stored a 0 done b

pub filling_begin : (f : List ℕ) (a : Slices) (o : Bool) (rows ls : List (List ℕ)) → Accepts f → o ≡ is_msb f → length rows ≡ most_channels
    → ls ≡ no_lines → Filling f a o 4 (record { channels = 0; every = 0; near = 0 }) 0 rows ls a
unfolding settings_of says_of_file
filling_begin f a o rows ls x e l z =
    rw z
    (record {
      before = [];
      done = [];
      links = start;
      passing =
          subst (λ (y : Bool). Passing (left o [] []) (rows_after [] (says y 4 (tuples_of f))) o f 4 start) e
          (passing-begin (left o [] []) f o x e);
      holding = holding-begin rows l;
      declared = refl;
      told = refl;
      few = omega arith;
      stored = record { pings = refl; thresholds = refl; attitudes = refl };
    })

module _ {f : List ℕ} {a : Slices} {o : Bool} {at : ℕ} {h : Held} {row : ℕ} {rows ls : List (List ℕ)} {b : Slices}
    (g : Filling f a o at h row rows ls b) where
  pub filling_long : (length b.pings ≡ length a.pings) × (length b.thresholds ≡ length a.thresholds)
      × (length b.attitudes ≡ length a.attitudes)
  filling_long = (
    ap length g.stored.pings ∙ length-sets a.pings 0 (pings_of g.done),
    ap length g.stored.thresholds ∙ length-sets a.thresholds 0 (thresholds_of g.done),
    ap length g.stored.attitudes ∙ length-sets a.attitudes 0 (attitudes_of g.done),
  )

  -- at the end of the file all is told
  pub filling_done : length f ≤ at → Stored a 0 (settings_of f) b
  unfolding rows_after
  filling_done z =
      subst (λ (x : List Row). Stored a 0 x b) (sym (append-nil g.done) ∙ passing-done g.passing z) g.stored

  pub filling_apart : Apart id_of (channels_in h.channels rows)
  filling_apart = subst (λ (x : List Channel). Apart id_of x) (sym g.declared) g.passing.steady.ids

  module _ (z : at < length f) where
    abbrev t : Tup
    t = tup_at o (drop at f)

    pub filling_whole : Whole o f at (len_at o (drop at f))
    filling_whole = passing-whole g.passing z

    pub filling_sound : (n k : ℕ) → n ≡ len_at o (drop at f) → k ≡ kind_at o (drop at f) → SoundHere o f at n k
    filling_sound n k p q = rw (p, q) (passing-sound g.passing z)

    pub filling_less : (n : ℕ) → n ≡ len_at o (drop at f) → length f - (at + n) < length f - at
    filling_less n e = passing-less g.passing z n e

    -- ---- the tuple's part
    module _ (r : Role) (e : r ≡ role_of o (tup_at o (drop at f))) where
      linked : LinkOf r (digest o t).link
      linked = subst (λ (x : Role). LinkOf x (digest o t).link) (sym e) (role-link o t)

      is-named : Named r h.channels rows
      is-named =
          named g.links h.channels rows (omega (arith, g.holding.few, g.holding.rows_long)) g.declared r (digest o t).link
          linked (passing-linked g.passing z)

      pub filling_line : line_of r h.channels rows < most_channels
      filling_line = named-line r h.channels rows g.holding.few is-named

      pub filling_room : Room r h
      filling_room = named-room r h rows is-named

      -- what is told of it
      module _ (told : Option Told) (u : told ≡ told_by r (line_of r h.channels rows) h ls) where
        abbrev here : List Row
        here = rows_told at told

        same : here ≡ rows_here g.before at (role_of o t)
        same = ap (rows_told at) u ∙ rows-held g.before at h rows ls g.holding r ∙ ap (rows_here g.before at) e

        step : (ts : List Tup) → left o g.done g.before at (t ∷ ts)
            ≡ left o (g.done ++ here) (g.before ++ (said at (role_of o t) ∷ [])) (at + length_of t) ts
        unfolding rows_after
        step ts =
            let rest = rows_after (g.before ++ (said at (role_of o t) ∷ [])) (says o (at + length_of t) ts) in
            ap (λ (x : List Row). g.done ++ (x ++ rest)) (sym same) ∙ sym (append_assoc g.done here rest)

        -- a ping's row has room
        pub filling_rows : Roomy f (length a.pings) (length a.thresholds) (length a.attitudes)
            → RowRoom told row (length b.pings) (length b.thresholds) (length b.attitudes)
        filling_rows m x p =
            let l = filling_long in
            passing-tells g.passing z ((row < length b.pings) × (row < length b.thresholds) × (row < length b.attitudes))
            (λ ts y.
            let rest = rows_after (g.before ++ (said at (role_of o t) ∷ [])) (says o (at + length_of t) ts) in
            let all = ap length (sym (step ts) ∙ y) in
            let one : length here ≡ 1 = ap (λ (x : Option Told). length (rows_told at x)) p in
            let n = length-append (g.done ++ here) rest in
            let k = length-append g.done here in (
              omega (arith, all, one, n, k, g.told, m.ping_room, l.0),
              omega (arith, all, one, n, k, g.told, m.threshold_room, l.1),
              omega (arith, all, one, n, k, g.told, m.attitude_room, l.2),
            ))

        -- ---- a turn
        pub filling_again : (n : ℕ) → n ≡ len_at o (drop at f) → (row' : ℕ) (c : Slices) → row' ≡ row + length (rows_told at told)
            → Stored b row (rows_told at told) c
            → (h' : Held) (rows' ls' : List (List ℕ)) → h' ≡ held_by r at h h'.near → Stands r at → rows' ≡ rows_by r at h rows
            → ls' ≡ lines_by r at (line_of r h.channels rows) ls
            → Filling f a o (at + n) h' row' rows' ls' c
        filling_again n p row' c q w h' rows' ls' x y i j =
            rw (i, j)
            (record {
              before = g.before ++ (said at (role_of o t) ∷ []);
              done = g.done ++ here;
              links = note g.links (digest o t);
              passing = passing-again g.passing z n p (left o (g.done ++ here) (g.before ++ (said at (role_of o t) ∷ []))) step;
              holding =
                  subst (λ (v : Held). Holding (g.before ++ (said at (role_of o t) ∷ [])) (at + n) v (rows_by r at h rows)
                  (lines_by r at (line_of r h.channels rows) ls)) (sym x)
                  (subst (λ (v : Role). Holding (g.before ++ (said at v ∷ [])) (at + n) (held_by r at h h'.near) (rows_by r at h rows)
                  (lines_by r at (line_of r h.channels rows) ls)) e
                  (holding-past g.before at h rows ls g.holding (at + n) h'.near (omega arith) r is-named));
              declared =
                  ap (λ (v : Held). channels_in v.channels (rows_by r at h rows)) x
                  ∙ declared-past g.links h rows g.holding.rows_long g.holding.few g.declared at h'.near r
                  (digest o t).link linked is-named y;
              told = omega (arith, q, g.told, length-append g.done here);
              few = omega (arith, q, g.few, most told, p, filling_whole.long);
              stored = stored_more g.stored g.told w;
            })
          where
            most : (v : Option Told) → length (rows_told at v) ≤ 1
            most (Some t) = omega arith
            most None = omega arith
