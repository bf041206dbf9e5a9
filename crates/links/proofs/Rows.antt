-- The rows that the code keeps stand for the sounders and the channels declared so far: lookups and declarations. Assumes nothing.
use mathlib.Core.Path.{◌≡◌, refl, sym, ap, ◌∙◌}
use mathlib.Core.Bool.{Bool, true, false, cond, ◌||◌, true≢false}
use mathlib.Core.List.{List, [], ◌∷◌, ◌++◌, map}
use Prim.Native.Nat.{ℕ, zero, suc, ◌+◌, ◌<◌, ◌≤◌}
use native.Mathlib.Numerals.{add-one}
use native.Mathlib.Omega.{arith}
use borrow.Author.Tests.{eq-eqb, ne_eqb, lt-ltb, le-ltb, ltb-true, eqb-true}
use lib.Dec.{ltb, eqb, leb-suc-suc}
use lib.ListN.{length, get_or, take, set, length-map, get_or-map}
use lib.Seq.{take-suc-set, length-take-le, get_or-take}
use Rattle.rules.proofs.Bools.{or_true}
use Rattle.layout.specs.Types.{same_maker}
use Rattle.layout.specs.Verdict.{Verdict}
use Rattle.layout.specs.Verdict.{Fine, Fault}
use Rattle.links.specs.declared.Sounder.{Sounder}
use Rattle.links.specs.declared.Channel.{Channel}
use Rattle.links.specs.Links
use Rattle.links.specs.Links.{Link, has, place_of, compared_in, compares_among, doc_of, id_of, declared_own, Apart}
use Rattle.links.specs.inner.LinkVerdict.{Faulty, Linked}
use Rattle.links.specs.inner.Tables.{key_of, channel_of, channels_in, comparing}
use Rattle.links.proofs.Parents.{In, first, later, One, has_in}

-- ---- places
module _ {A : Type 0} (key : A → ℕ) (x : ℕ) where
  -- a place is at most the length, and below it where some element has the key
  pub place-most : (l : List A) → place_of key x l ≤ length l
  unfolding place_of
  place-most [] = omega arith
  place-most (y ∷ l) = by (eqb x (key y)) (place-most l)
    where
      by : (b : Bool) → place_of key x l ≤ length l → cond b 0 (suc (place_of key x l)) ≤ suc (length l)
      by true h = omega arith
      by false h = omega arith

  pub has-place : (l : List A) → has key x l ≡ ltb (place_of key x l) (length l)
  unfolding has place_of
  has-place [] = refl
  has-place (y ∷ l) = by (eqb x (key y)) (has-place l)
    where
      by : (b : Bool) → has key x l ≡ ltb (place_of key x l) (length l)
          → b || has key x l ≡ ltb (cond b 0 (suc (place_of key x l))) (suc (length l))
      by true h = sym (lt-ltb 0 (suc (length l)) (omega arith))
      by false h = h ∙ sym (leb-suc-suc (suc (place_of key x l)) (length l))

  -- a search that finds the key compares one more than its place; none compares more than all
  pub compared-found : (l : List A) → has key x l ≡ true → compared_in key x l ≡ place_of key x l + 1
  unfolding has place_of compared_in
  compared-found [] h = absurd (true≢false (sym h))
  compared-found (y ∷ l) h = by (eqb x (key y)) h (compared-found l)
    where
      by : (b : Bool) → b || has key x l ≡ true → (has key x l ≡ true → compared_in key x l ≡ place_of key x l + 1)
          → cond b 1 (suc (compared_in key x l)) ≡ cond b 0 (suc (place_of key x l)) + 1
      by true q r = omega arith
      by false q r = let e = r q in omega arith

  pub compared-most : (l : List A) → compared_in key x l ≤ length l
  unfolding compared_in
  compared-most [] = omega arith
  compared-most (y ∷ l) = by (eqb x (key y)) (compared-most l)
    where
      by : (b : Bool) → compared_in key x l ≤ length l → cond b 1 (suc (compared_in key x l)) ≤ suc (length l)
      by true h = omega arith
      by false h = omega arith

-- a link compares no more than all of its kind
pub compares-most : (n : ℕ) (ss : List Sounder) (cs : List Channel) → length ss ≤ n → length cs ≤ n → (l : Link) → compares_among ss cs l ≤ n
compares-most n ss cs a b Links.none = omega arith
compares-most n ss cs a b (Links.sounder s) = omega arith
compares-most n ss cs a b (Links.channel c) = omega (arith, compared-most doc_of c.parent.0 ss)
compares-most n ss cs a b (Links.names c) = omega (arith, compared-most id_of c.0 cs)

-- ---- rows and what they stand for
module _ {A B : Type 0} (f : A → B) where
  -- a lookup among what rows stand for is one among the rows
  pub place_map : (key : B → ℕ) (x : ℕ) (l : List A) → place_of key x (map f l) ≡ place_of (λ (a : A). key (f a)) x l
  unfolding place_of
  place_map key x [] = refl
  place_map key x (y ∷ l) = ap (λ (n : ℕ). cond (eqb x (key (f y))) 0 (suc n)) (place_map key x l)

  pub map_snoc : (l : List A) (a : A) → map f (l ++ (a ∷ [])) ≡ map f l ++ (f a ∷ [])
  map_snoc [] a = refl
  map_snoc (y ∷ l) a = ap (λ (m : List B). f y ∷ m) (map_snoc l a)

  module _ (rows : List A) (n : ℕ) where
    pub rows-length : n ≤ length rows → length (map f (take n rows)) ≡ n
    rows-length h = length-map (take n rows) f ∙ length-take-le n rows h

    pub rows_at : (i : ℕ) (d : A) → i < n → get_or (map f (take n rows)) i (f d) ≡ f (get_or rows i d)
    rows_at i d h = get_or-map f (take n rows) i d ∙ ap f (get_or-take n rows i d h)

    -- one row more
    pub rows_more : (r : A) → n < length rows → map f (take (n + 1) (set rows n r)) ≡ map f (take n rows) ++ (f r ∷ [])
    rows_more r h = rw (add-one, take-suc-set rows n r h) (map_snoc (take n rows) r)

-- ---- what a lookup among n elements tells: its place is at most n, and below it where the key is there
module _ {A : Type 0} (key : A → ℕ) (x : ℕ) (l : List A) (n r : ℕ) (many : length l ≡ n) (e : r ≡ place_of key x l) where
  pub found-most : r ≤ n
  found-most = omega (arith, place-most key x l)

  looked : has key x l ≡ ltb r n
  looked = has-place key x l ∙ rw (e, many)

  pub found : r < n → has key x l ≡ true
  found h = looked ∙ lt-ltb r n h

  pub unfound : n ≤ r → has key x l ≡ false
  unfound h = looked ∙ le-ltb r n h

  -- and the search compared one more than its place
  pub compared : r < n → compared_in key x l ≡ r + 1
  compared h = let c = compared-found key x l (found h) in omega arith

-- ---- the element at a key's place is the one that has the key
module _ {A : Type 0} (key : A → ℕ) (x : ℕ) where
  -- what stands there is in the list, and has the key
  place_in : (l : List A) (d : A) → has key x l ≡ true → In (get_or l (place_of key x l) d) l × (key (get_or l (place_of key x l) d) ≡ x)
  unfolding has place_of
  place_in [] d h = absurd (true≢false (sym h))
  place_in (a ∷ l) d h = by (eqb x (key a)) refl h (place_in l d)
    where
      by : (b : Bool) → eqb x (key a) ≡ b → b || has key x l ≡ true
          → (has key x l ≡ true → In (get_or l (place_of key x l) d) l × (key (get_or l (place_of key x l) d) ≡ x))
          → In (get_or (a ∷ l) (cond b 0 (suc (place_of key x l))) d) (a ∷ l) × (key (get_or (a ∷ l) (cond b 0 (suc (place_of key x l))) d) ≡ x)
      by true e q r = (first, sym (eqb-true x (key a) e))
      by false e q r = let w = r q in (later w.0, w.1)

module _ {A : Type 0} {key : A → ℕ} {x : ℕ} {l : List A} (o : One key x l) where
  one_has : has key x l ≡ true
  one_has = rw (← o.keyed) (has_in key o.it l o.there)

  pub one_place : (d : A) → get_or l (place_of key x l) d ≡ o.it
  one_place d = let p = place_in key x l d one_has in o.only _ p.0 p.1

  pub one_below : place_of key x l < length l
  one_below = ltb-true _ _ (sym (has-place key x l) ∙ one_has)

-- ---- a channel's own sounder, by the place that the search for it finds
module _ (c : Channel) (d : Sounder) where
  abbrev own-place : List Sounder → ℕ
  own-place ss = place_of doc_of c.parent.0 ss

  -- none is its own where none is found
  pub own-none : (ss : List Sounder) → has doc_of c.parent.0 ss ≡ false → declared_own c ss ≡ false
  unfolding has declared_own
  own-none [] h = refl
  own-none (s ∷ ss) h = by (eqb c.parent.0 (doc_of s)) h (own-none ss)
    where
      by : (b : Bool) → b || has doc_of c.parent.0 ss ≡ false → (has doc_of c.parent.0 ss ≡ false → declared_own c ss ≡ false)
          → cond b (same_maker s.maker c.maker) (declared_own c ss) ≡ false
      by true q r = absurd (true≢false q)
      by false q r = r q

  -- the one found is, where it is of the channel's maker
  pub own-found : (ss : List Sounder) → has doc_of c.parent.0 ss ≡ true
      → declared_own c ss ≡ same_maker (get_or ss (place_of doc_of c.parent.0 ss) d).maker c.maker
  unfolding has declared_own place_of
  own-found [] h = absurd (true≢false (sym h))
  own-found (s ∷ ss) h = by (eqb c.parent.0 (doc_of s)) h (own-found ss)
    where
      by : (b : Bool) → b || has doc_of c.parent.0 ss ≡ true
          → (has doc_of c.parent.0 ss ≡ true → declared_own c ss ≡ same_maker (get_or ss (own-place ss) d).maker c.maker)
          → cond b (same_maker s.maker c.maker) (declared_own c ss)
          ≡ same_maker (get_or (s ∷ ss) (cond b 0 (suc (own-place ss))) d).maker c.maker
      by true q r = refl
      by false q r = r q

-- ---- where no two have the same key, what stands at a place is the first with its key
module _ {A : Type 0} (key : A → ℕ) (d : A) where
  has-at : (l : List A) (i : ℕ) → i < length l → has key (key (get_or l i d)) l ≡ true
  unfolding has
  has-at [] i h = absurd (omega arith)
  has-at (a ∷ l) zero h = rw (eq-eqb (key a) (key a) refl)
  has-at (a ∷ l) (suc i) h = or_true (eqb (key (get_or l i d)) (key a)) (has-at l i (omega arith))

  pub place_at : (l : List A) (i : ℕ) → Apart key l → i < length l → i ≡ place_of key (key (get_or l i d)) l
  unfolding place_of
  place_at [] i p h = absurd (omega arith)
  place_at (a ∷ l) zero p h = rw (eq-eqb (key a) (key a) refl)
  place_at (a ∷ l) (suc i) p h =
      let ne : eqb (key (get_or l i d)) (key a) ≡ false =
      ne_eqb (key (get_or l i d)) (key a) (λ e. true≢false (sym (has-at l i (omega arith)) ∙ ap (λ (x : ℕ). has key x l) e ∙ p.0)) in
      rw ne (ap suc (place_at l i p.1 (omega arith)))

-- so a row that has a channel's identifier is the one that a search finds
pub guessed : (rows : List (List ℕ)) (n x i : ℕ) → n ≤ length rows → Apart id_of (channels_in n rows) → i < n → key_of (get_or rows i []) ≡ x
    → i ≡ place_of id_of x (channels_in n rows)
guessed rows n x i fits p h e =
    place_at id_of (channel_of []) (channels_in n rows) i p (omega (arith, rows-length channel_of rows n fits))
    ∙ ap (λ (y : ℕ). place_of id_of y (channels_in n rows)) (ap id_of (rows_at channel_of rows n i [] h) ∙ e)

-- ---- what a verdict with its comparisons tells
pub told-fine : (v : Verdict) (n m : ℕ) → comparing v n ≡ Linked m → (v ≡ Fine) × (n ≡ m)
told-fine Fine n m e = (refl, cc)
told-fine (Fault c p) n m e = absurd (let z : ◌≡◌ {A = ℕ} 0 1 = cc in omega arith)

pub told_fault : (v : Verdict) (n c p : ℕ) → comparing v n ≡ Faulty c p → v ≡ Fault c p
told_fault Fine n c p e = absurd (let z : ◌≡◌ {A = ℕ} 0 1 = cc in omega arith)
told_fault (Fault b q) n c p e = cc
