-- The listed types: what is computed alike of all of them is so of every type code; and the code's tables say of a type's place what is
-- listed of its code. Assumes nothing.
use mathlib.Core.Path.{◌≡◌, refl, sym, ap, subst, ◌∙◌}
use mathlib.Core.Bool.{Bool, true, false, cond, ◌&&◌, ◌||◌, true≢false}
use mathlib.Core.List.{List, [], ◌∷◌, map, reverse}
use Prim.Native.Nat.{ℕ, zero, suc, ◌-◌, ◌%◌, ◌<◌, ◌≤◌}
use native.Mathlib.Omega.{arith}
use borrow.Author.Tests.{le-leb, lt-leb, leb-true, leb-false, eqb-true, eq-eqb, ne_eqb}
use lib.Dec.{eqb, leb}
use lib.ListN.{length, get_or, drop}
use Rattle.rules.proofs.Bools.{both_true, same_arms}
use Rattle.layout.specs.declared.Says.{Says}
use Rattle.layout.specs.declared.Says.TheVariants.{Nothing, Sounder, Channel, Names, NamesOrAll}
use Rattle.layout.specs.Fields.{size}
use Rattle.layout.specs.Types.{Shape, indexed, row, uncompressed, compressed, unlisted, classes, in_class, index}
use Rattle.layout.specs.Types.{Length, free, fitting, length_from, least_of, step_of, more_of}
use Rattle.layout.specs.Types.{Listing, Entry, entry, listings, listed, not_listed, among, listing_of, shape_of, lengths_of, says_of}
use Rattle.layout.specs.inner.Codes.{place_among, place_in, fields_in, codes_in, row_codes, field_of, fields_of}
use Rattle.layout.specs.inner.Codes.{measured_by, measures, length_by}

-- ---- by the list
-- what holds of each of some types
abbrev Every : (ℕ → Listing → Type 0) → List Entry → Type 0
Every P [] = Unit {0}
Every P (l ∷ ls) = P l.code l.listing × Every P ls

-- holds of what they say of a code, where it holds of the rest
every-at : (P : ℕ → Listing → Type 0) (l : Entry) (k : ℕ) (x : Listing) → P l.code l.listing → P k x
    → (b : Bool) → eqb k l.code ≡ b → P k (cond b l.listing x)
every-at P l k x h r true e = subst (λ (c : ℕ). P c l.listing) (sym (eqb-true k l.code e)) h
every-at P l k x h r false e = r

by-every : (P : ℕ → Listing → Type 0) (ls : List Entry) → Every P ls → (k : ℕ) (d : Listing) → P k d → P k (among k ls d)
unfolding among
by-every P [] e k d h = h
by-every P (l ∷ ls) e k d h = every-at P l k (among k ls d) e.0 (by-every P ls e.1 k d h) (eqb k l.code) refl

module _ {A : Type 0} (f g : ℕ → Listing → A) where
  abbrev of_each : (ℕ → Listing → A) → Entry → A
  of_each h l = h l.code l.listing

  each-alike : (ls : List Entry) → map (of_each f) ls ≡ map (of_each g) ls → Every (λ k l. f k l ≡ g k l) ls
  each-alike [] e = tt
  each-alike (l ∷ ls) e = (ap (λ (xs : List A). get_or xs 0 (of_each f l)) e, each-alike ls (ap (drop 1) e))

  -- what is computed alike of the listed types, and is alike of the others, is alike of every code
  pub alike : map (of_each f) listings ≡ map (of_each g) listings
      → ((k : ℕ) (b : Bool) → in_class index k ≡ b → f k (not_listed b) ≡ g k (not_listed b)) → (k : ℕ) → f k (listing_of k) ≡ g k (listing_of k)
  unfolding listing_of
  alike e h k =
      by-every (λ k l. f k l ≡ g k l) listings (each-alike listings e) k (not_listed (in_class index k)) (h k (in_class index k) refl)

  -- where the class of the others decides nothing
  pub alike_all : map (of_each f) listings ≡ map (of_each g) listings → ((k : ℕ) → f k (not_listed true) ≡ g k (not_listed true))
      → ((k : ℕ) → f k (not_listed false) ≡ g k (not_listed false)) → (k : ℕ) → f k (listing_of k) ≡ g k (listing_of k)
  alike_all e h i = alike e others
    where
      others : (k : ℕ) (b : Bool) → in_class index k ≡ b → f k (not_listed b) ≡ g k (not_listed b)
      others k true q = h k
      others k false q = i k

-- ---- by the place
-- an element of a list, in other words
get_d_in : {A B : Type 0} (f : A → B) (xs : List A) (i : ℕ) (x : A) (y : B) → i < length xs → get_or (map f xs) i y ≡ f (get_or xs i x)
get_d_in f [] i x y h = absurd (omega arith)
get_d_in f (a ∷ xs) zero x y h = refl
get_d_in f (a ∷ xs) (suc i) x y h = get_d_in f xs i x y (omega arith)

-- a code stands at its place
stands_at : (l : Entry) (ls : List Entry) (x : Listing) (p : ℕ) (d : Entry) → (p < length ls → (get_or ls p d).listing ≡ x)
    → (b : Bool) → cond b 0 (suc p) < length (l ∷ ls) → (get_or (l ∷ ls) (cond b 0 (suc p)) d).listing ≡ cond b l.listing x
stands_at l ls x p d r true h = refl
stands_at l ls x p d r false h = r (omega arith)

stands : (k : ℕ) (ls : List Entry) (x : Listing) (d : Entry) → place_among k ls < length ls
    → (get_or ls (place_among k ls) d).listing ≡ among k ls x
unfolding place_among among
stands k [] x d h = absurd (omega arith)
stands k (l ∷ ls) x d h =
    stands_at l ls (among k ls x) (place_among k ls) d (stands k ls x d) (eqb k l.code) h

-- where it has none, nothing is listed of it
apart-at : (l : Entry) (ls : List Entry) (x y : Listing) (p : ℕ) → (length ls ≤ p → x ≡ y)
    → (b : Bool) → length (l ∷ ls) ≤ cond b 0 (suc p) → cond b l.listing x ≡ y
apart-at l ls x y p r true h = absurd (omega arith)
apart-at l ls x y p r false h = r (omega arith)

apart : (k : ℕ) (ls : List Entry) (x : Listing) → length ls ≤ place_among k ls → among k ls x ≡ x
unfolding place_among among
apart k [] x h = refl
apart k (l ∷ ls) x h = apart-at l ls (among k ls x) x (place_among k ls) (apart k ls x) (eqb k l.code) h

no_more : (k : ℕ) (ls : List Entry) → place_among k ls ≤ length ls
unfolding place_among
no_more k [] = omega arith
no_more k (l ∷ ls) = by (eqb k l.code) (no_more k ls)
  where
    by : (b : Bool) → place_among k ls ≤ length ls → cond b 0 (suc (place_among k ls)) ≤ suc (length ls)
    by true h = omega arith
    by false h = omega arith

how_many : length listings ≡ listed
unfolding listings
how_many = refl

pub place-most : (k : ℕ) → place_in k ≤ listed
place-most k = omega (arith, no_more k listings, how_many)

-- a code without a place is of the index class or unlisted
pub unplaced : (k : ℕ) → place_in k ≡ listed → listing_of k ≡ not_listed (in_class index k)
unfolding listing_of
unplaced k e = apart k listings (not_listed (in_class index k)) (omega (arith, how_many))

-- for a place where none stands
other : Entry
other = entry 0 free unlisted Nothing

-- what is computed alike of the listed types is alike of a code that has a place
module _ (k : ℕ) (h : place_in k < listed) where
  there : (get_or listings (place_in k) other).listing ≡ listing_of k
  unfolding listing_of
  there = stands k listings (not_listed (in_class index k)) other (omega (arith, how_many))

  pub each-there : {A : Type 0} (x : A) (f g : Listing → A) → map (λ l. f l.listing) listings ≡ map (λ l. g l.listing) listings
      → f (listing_of k) ≡ g (listing_of k)
  each-there {A} x f g e =
      let i = place_in k in
      let j : i < length listings = omega (arith, how_many) in
      ap f (sym there)
      ∙ sym (get_d_in (λ (l : Entry). f l.listing) listings i other x j)
      ∙ ap (λ (xs : List A). get_or xs i x) e
      ∙ get_d_in (λ (l : Entry). g l.listing) listings i other x j
      ∙ ap g there

  -- the tables at its place are those of its listing: what it measures,
  pub measure_there : get_or measures (place_in k) [] ≡ measured_by (listing_of k)
  unfolding measures
  measure_there =
      get_d_in (λ (l : Entry). measured_by l.listing) listings (place_in k) other [] (omega (arith, how_many)) ∙ ap measured_by there

  -- and its row, whose codes are those of its fields
  pub fields-there : fields_of (get_or row_codes (place_in k) []) ≡ fields_in (shape_of k)
  unfolding row_codes
  fields-there =
      let j : place_in k < length listings = omega (arith, how_many) in
      ap fields_of (get_d_in (λ (l : Entry). codes_in l.listing) listings (place_in k) other [] j ∙ ap codes_in there)
      ∙ each-there [] (λ l. fields_of (codes_in l)) (λ l. fields_in l.shape) (unfold listings field_of fields_of in refl)

  -- its row is little
  pub size-there : leb (size (fields_in (shape_of k))) 255 ≡ true
  size-there = each-there true (λ l. leb (size (fields_in l.shape)) 255) (λ l. true) (unfold listings in refl)

-- ---- shapes
-- the listed types have places, and no others
abbrev pub Tabled : Shape → ℕ → Type 0
Tabled indexed i = i ≡ listed
Tabled (row fs x) i = i < listed
Tabled (uncompressed f) i = i < listed
Tabled (compressed f) i = i < listed
Tabled unlisted i = i ≡ listed

abbrev is_placed : Shape → Bool
is_placed indexed = false
is_placed (row fs x) = true
is_placed (uncompressed f) = true
is_placed (compressed f) = true
is_placed unlisted = false

placed-shape : (q : Shape) (i : ℕ) → is_placed q ≡ true → i < listed → Tabled q i
placed-shape indexed i e h = absurd (true≢false (sym e))
placed-shape (row fs x) i e h = h
placed-shape (uncompressed f) i e h = h
placed-shape (compressed f) i e h = h
placed-shape unlisted i e h = absurd (true≢false (sym e))

pub tabled : (k : ℕ) → Tabled (shape_of k) (place_in k)
tabled k = by (leb listed (place_in k)) refl
  where
    without : (b : Bool) → Tabled (not_listed b).shape listed
    without true = refl
    without false = refl

    by : (b : Bool) → leb listed (place_in k) ≡ b → Tabled (shape_of k) (place_in k)
    by true e =
        let z : place_in k ≡ listed = omega (arith, leb-true listed (place_in k) e, place-most k) in
        subst (λ (i : ℕ). Tabled (shape_of k) i) (sym z)
        (subst (λ (l : Listing). Tabled l.shape listed) (sym (unplaced k z)) (without (in_class index k)))
    by false e =
        let h = leb-false listed (place_in k) e in
        placed-shape (shape_of k) (place_in k) (each-there k h true (λ l. is_placed l.shape) (λ l. true) (unfold listings in refl)) h

-- the index class has its own
abbrev is_indexed : Shape → Bool
is_indexed indexed = true
is_indexed (row fs x) = false
is_indexed (uncompressed f) = false
is_indexed (compressed f) = false
is_indexed unlisted = false

by_index : (k : ℕ) → is_indexed (shape_of k) ≡ in_class index k
by_index = alike (λ k l. is_indexed l.shape) (λ k l. in_class index k) (unfold listings in_class classes in refl) others
  where
    others : (k : ℕ) (b : Bool) → in_class index k ≡ b → is_indexed (not_listed b).shape ≡ in_class index k
    others k true e = sym e
    others k false e = sym e

is-indexed : (q : Shape) → is_indexed q ≡ true → q ≡ indexed
is-indexed indexed e = refl
is-indexed (row fs x) e = absurd (true≢false (sym e))
is-indexed (uncompressed f) e = absurd (true≢false (sym e))
is-indexed (compressed f) e = absurd (true≢false (sym e))
is-indexed unlisted e = absurd (true≢false (sym e))

pub index_shape : (k : ℕ) → in_class index k ≡ true → shape_of k ≡ indexed
index_shape k e = is-indexed (shape_of k) (by_index k ∙ e)

pub shape-index : (k : ℕ) → shape_of k ≡ indexed → in_class index k ≡ true
shape-index k e = sym (by_index k) ∙ ap is_indexed e

-- ---- codes, as a match on them leaves them
-- k is none of some codes, of which the first was asked for last
abbrev pub NoneOf : List ℕ → ℕ → Type 0
NoneOf [] k = Unit {0}
NoneOf (c ∷ cs) k = NoneOf cs k × (k ≡ c → ⊥)

abbrev pub has_code : ℕ → List ℕ → Bool
has_code c [] = false
has_code c (d ∷ cs) = eqb c d || has_code c cs

not-this : (c d k : ℕ) → (k ≡ d → ⊥) → (b : Bool) → (b ≡ true → eqb k c ≡ false) → eqb c d || b ≡ true → eqb k c ≡ false
not-this c d k n b r e = by (eqb c d) refl b r e
  where
    by : (q : Bool) → eqb c d ≡ q → (b : Bool) → (b ≡ true → eqb k c ≡ false) → q || b ≡ true → eqb k c ≡ false
    by true h b r e = ne_eqb k c (λ z. n (z ∙ eqb-true c d h))
    by false h b r e = r e

pub not_in_lem : (k c : ℕ) (cs : List ℕ) → NoneOf cs k → has_code c cs ≡ true → eqb k c ≡ false
not_in_lem k c [] n e = absurd (true≢false (sym e))
not_in_lem k c (d ∷ cs) n e = not-this c d k n.1 (has_code c cs) (not_in_lem k c cs n.0) e

abbrev within : List ℕ → List Entry → Bool
within cs [] = true
within cs (l ∷ ls) = has_code l.code cs && within cs ls

missed_by : (k : ℕ) (cs : List ℕ) → NoneOf cs k → (ls : List Entry) → within cs ls ≡ true → place_among k ls ≡ length ls
unfolding place_among
missed_by k cs n [] e = refl
missed_by k cs n (l ∷ ls) e =
    let h = both_true (has_code l.code cs) (within cs ls) e in
    rw (not_in_lem k l.code cs n h.0) (ap suc (missed_by k cs n ls h.1))

-- a code that is none of the listed ones has no place
abbrev pub listed_codes : List ℕ
listed_codes = reverse (map (λ l. l.code) listings)

pub missed : (k : ℕ) → NoneOf listed_codes k → place_in k ≡ listed
unfolding listings
missed k n = missed_by k listed_codes n listings refl

-- the codes of the types that say something to others, and that no other does
abbrev saying : Says → ℕ → List ℕ → List ℕ
saying Nothing k cs = cs
saying (Sounder m) k cs = k ∷ cs
saying (Channel m) k cs = k ∷ cs
saying Names k cs = k ∷ cs
saying NamesOrAll k cs = k ∷ cs

abbrev sayers_of : List Entry → List ℕ → List ℕ
sayers_of [] cs = cs
sayers_of (l ∷ ls) cs = sayers_of ls (saying l.listing.says l.code cs)

abbrev pub sayers : List ℕ
sayers = sayers_of listings []

pub none_has : (k : ℕ) (cs : List ℕ) → NoneOf cs k → has_code k cs ≡ false
none_has k cs n = by (has_code k cs) refl
  where
    by : (b : Bool) → has_code k cs ≡ b → b ≡ false
    by true e = absurd (true≢false (sym (eq-eqb k k refl) ∙ not_in_lem k k cs n e))
    by false e = refl

pub quiet : (k : ℕ) → NoneOf sayers k → says_of k ≡ Nothing
quiet k n =
    ap (λ (b : Bool). cond b Nothing (says_of k)) (sym (none_has k sayers n))
    ∙ alike_all (λ j l. cond (has_code j sayers) Nothing l.says) (λ j l. Nothing) (unfold listings in refl)
    (λ j. same_arms (has_code j sayers) Nothing) (λ j. same_arms (has_code j sayers) Nothing) k

-- ---- a length by its least and its step, as the code tests it
pub fixed : (least step more n : ℕ) → step ≡ 0 → eqb n least ≡ fitting (length_by least step more) n
fixed least step more n e = rw e

pub short : (least step more n : ℕ) → (step ≡ 0 → ⊥) → n < least → false ≡ fitting (length_by least step more) n
short least zero more n e h = absurd (e refl)
short least (suc step) zero n e h = rw (lt-leb least n h)
short least (suc step) (suc more) n e h = rw (lt-leb least n h)

twice : (b : Bool) → (b || b) ≡ b
twice true = refl
twice false = refl

pub long : (least step more n : ℕ) → (step ≡ 0 → ⊥) → least ≤ n
    → (eqb ((n - least) % step) 0 || eqb ((n - least) % step) more) ≡ fitting (length_by least step more) n
long least zero more n e h = absurd (e refl)
long least (suc step) zero n e h = rw (le-leb least n h) (twice (eqb ((n - least) % suc step) 0))
long least (suc step) (suc more) n e h = rw (le-leb least n h)

-- the lengths of a listed type are those of its least and its step; a type that is not listed has any
abbrev ranged : Length → Length
ranged l = length_by (least_of l) (step_of l) (more_of l)

pub length-there : (k : ℕ) → place_in k < listed → ranged (lengths_of k) ≡ lengths_of k
length-there k h = each-there k h free (λ l. ranged l.length) (λ l. l.length) (unfold listings in refl)

-- any length fits a type that is not listed
pub any : (k : ℕ) → listed ≤ place_in k → (n : ℕ) → true ≡ fitting (lengths_of k) n
any k h n = by (in_class index k) ∙ ap (λ (l : Listing). fitting l.length n) (sym (unplaced k (omega (arith, place-most k))))
  where
    by : (b : Bool) → true ≡ fitting (not_listed b).length n
    by true = refl
    by false = refl

-- a type's lengths are those of its shape
pub lengths-from : (k : ℕ) → lengths_of k ≡ length_from (shape_of k)
unfolding listings
lengths-from = alike_all (λ k l. l.length) (λ k l. length_from l.shape) refl (λ k. refl) (λ k. refl)
