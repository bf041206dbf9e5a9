-- The index tuple is sound and says nothing to the others; put in before the end of file, it leaves sound tuples sound and linked
-- tuples linked. Assumes nothing.
use mathlib.Core.Path.{◌≡◌, refl, sym, ap, subst, ◌∙◌}
use mathlib.Core.Bool.{Bool, true, false}
use mathlib.Core.List.{List, [], ◌∷◌, ◌++◌}
use mathlib.Core.Option.{none}
use Prim.Native.Nat.{ℕ, zero, suc, ◌+◌, ◌*◌, ◌%◌, ◌≤◌, ◌<◌}
use native.Mathlib.Omega.{arith}
use borrow.Author.Tests.{eqb-true, not-false}
use lib.Dec.{eqb}
use lib.ListN.{length, length-append, length-replicate}
use Rattle.order.specs.Order.{bytes_of, Bytes}
use Rattle.order.proofs.Laws.{length_bytes_of, bytes_append, bytes-lows, bytes-ordered}
use Rattle.layout.specs.Verdict.{Fine}
use Rattle.layout.specs.Answers.{judged}
use Rattle.layout.specs.Types.{Shape, indexed, shape_of, in_class, classes}
use Rattle.layout.specs.Types
use Rattle.layout.proofs.Verdicts.{passes}
use Rattle.layout.proofs.Tables.{index_shape}
use Rattle.frame.specs.Frames.{Tup, length_of, Framed}
use Rattle.frame.proofs.Frames.{allowed_of}
use Rattle.links.specs.Links.{Links, nothing, sign_rules, note}
use Rattle.links.proofs.Linked.{Linked, next, with_nothing, linked-here, linked-next, linked-some, without, relinked}
use Rattle.samples.specs.Words.{unwords}
use Rattle.samples.proofs.Words.{length-unwords, bytes-unwords}
use Rattle.content.specs.Items.{item_of, item_by, digest, digest_item}
use Rattle.content.proofs.Fine.{Sound, head-fine, inner-fine}
use Rattle.content.proofs.Places.{by_code}
use Rattle.intake.proofs.Accepted.{AllSound, sound_append, digests}
use Rattle.index.specs.Index.{
  chosen,
  is_typed,
  types_of,
  spaced,
  index_data,
  index_tuple,
  index_of,
  before_end,
  from_end,
  with_index,
  outside,
  reindexed,
}

-- ---- what is chosen
abbrev pub pick : Bool → ℕ → List ℕ → List ℕ
pick true k l = k ∷ l
pick false k l = l

-- no more than are looked at
pub length-chosen : (p : ℕ → Bool) (n k : ℕ) → length (chosen p n k) ≤ n
unfolding chosen
length-chosen p zero k = omega arith
length-chosen p (suc n) k = by_test (p k) (length-chosen p n (k + 1))
  where
    by_test : (b : Bool) → length (chosen p n (k + 1)) ≤ n
        → length {A = ℕ} (elim b as (λ _. List ℕ) [ true ↦ k ∷ chosen p n (k + 1) | false ↦ chosen p n (k + 1) ]) ≤ suc n
    by_test true h = omega arith
    by_test false h = omega arith

-- it hangs on the test's answers alone
pub chosen-next : (p : ℕ → Bool) (n k : ℕ) (b : Bool) → p k ≡ b → chosen p (suc n) k ≡ pick b k (chosen p n (k + 1))
unfolding chosen
chosen-next p n k b e = by_test (p k) ∙ ap (λ (x : Bool). pick x k (chosen p n (k + 1))) e
  where
    by_test : (x : Bool) → (elim x as (λ _. List ℕ) [ true ↦ k ∷ chosen p n (k + 1) | false ↦ chosen p n (k + 1) ]) ≡ pick x k
        (chosen p n (k + 1))
    by_test true = refl
    by_test false = refl

pub same_chosen : (p q : ℕ → Bool) (n k : ℕ) → ((j : ℕ) → k ≤ j → j < k + n → p j ≡ q j) → chosen p n k ≡ chosen q n k
unfolding chosen
same_chosen p q zero k e = refl
same_chosen p q (suc n) k e =
    chosen-next p n k (q k) (e k (omega arith) (omega arith))
    ∙ ap (pick (q k) k) (same_chosen p q n (k + 1) (λ j a b. e j (omega arith) (omega arith)))
    ∙ sym (chosen-next q n k (q k) refl)

pub few-types : (ts : List Tup) → length (types_of ts) ≤ 65536
unfolding types_of
few-types ts = length-chosen (is_typed ts) 65536 0

-- ---- the tuple
pub length-spaced : (ks : List ℕ) → length (spaced ks) ≡ length ks + length ks % 2
length-spaced ks = length-append ks _ ∙ ap (λ (n : ℕ). length ks + n) (length-replicate (length ks % 2) 0)

pub length_data : (o : Bool) (ks : List ℕ) → length (index_data o ks) ≡ 10 + 2 * (length ks + length ks % 2)
unfolding index_data
length_data o ks =
    let zs = unwords 2 o (spaced ks) in
    let a = length-append (bytes_of o 2 0) (bytes_of o 4 0 ++ (zs ++ bytes_of o 4 0)) in
    let b = length-append (bytes_of o 4 0) (zs ++ bytes_of o 4 0) in
    let c = length-append zs (bytes_of o 4 0) in
    omega (arith, length_bytes_of o 2 0, length_bytes_of o 4 0, length-unwords 2 o (spaced ks), length-spaced ks)

bytes_data : (o : Bool) (ks : List ℕ) → Bytes (index_data o ks)
unfolding index_data
bytes_data o ks =
    let four = bytes-ordered o _ (bytes-lows 4 0) in
    bytes_append (bytes_of o 2 0) _ (bytes-ordered o _ (bytes-lows 2 0))
    (bytes_append (bytes_of o 4 0) _ four (bytes_append (unwords 2 o (spaced ks)) _ (bytes-unwords 2 o (spaced ks)) four))

pub index-framed : (o : Bool) (ks : List ℕ) → length ks ≤ 65536 → Framed (index_tuple o ks)
index-framed o ks h =
    let n = length_data o ks in
    record {
      kind = omega arith;
      bytes = bytes_data o ks;
      allowed = allowed_of (length_of (index_tuple o ks)) (omega arith) (omega arith) (omega arith);
    }

is-indexed : shape_of 65406 ≡ indexed
unfolding in_class classes
is-indexed = index_shape 65406 refl

pub index-item : (o : Bool) (ks : List ℕ) → item_of o (index_tuple o ks) ≡ none
unfolding item_of
index-item o ks = ap (λ (q : Shape). item_by q o (index_tuple o ks)) is-indexed

pub index-digest : (o : Bool) (ks : List ℕ) → digest o (index_tuple o ks) ≡ nothing
index-digest o ks = ap digest_item (index-item o ks)

pub index-sound : (o : Bool) (ks : List ℕ) → length ks ≤ 65536 → Sound o (index_tuple o ks)
index-sound o ks h =
    let t = index_tuple o ks in
    record {
      framed = index-framed o ks h;
      head = head-fine o t indexed is-indexed refl refl;
      inner = inner-fine o t indexed is-indexed
          refl;
    }

-- ---- tuples in two parts
pub all_left : (o : Bool) (us vs : List Tup) → AllSound o (us ++ vs) → AllSound o us
all_left o [] vs f = tt
all_left o (u ∷ us) vs f = (f.0, all_left o us vs f.1)

pub all_right : (o : Bool) (us vs : List Tup) → AllSound o (us ++ vs) → AllSound o vs
all_right o [] vs f = f
all_right o (u ∷ us) vs f = all_right o us vs f.1

pub end-split : (ts : List Tup) → before_end ts ++ from_end ts ≡ ts
unfolding before_end from_end
end-split [] = refl
end-split (t ∷ ts) = by_test (eqb t.kind 65534) (end-split ts)
  where
    by_test : (b : Bool) → before_end ts ++ from_end ts ≡ ts
        → (elim b as (λ _. List Tup) [ true ↦ [] | false ↦ t ∷ before_end ts ]) ++
        (elim b as (λ _. List Tup) [ true ↦ t ∷ ts | false ↦ from_end ts ]) ≡ t ∷ ts
    by_test true e = refl
    by_test false e = ap (λ (us : List Tup). t ∷ us) e

-- a first tuple is a signature, and no end of file
pub no_first : (o : Bool) (t : Tup) → eqb t.kind 65534 ≡ true → judged (sign_rules true (digest o t)) ≡ Fine → ⊥
no_first o t e g =
    let signs = not-false _ (passes (sign_rules true (digest o t)) g).0 in
    let a = eqb-true t.kind 65535 (sym (by_code o t).signs ∙ signs) in
    omega (arith, eqb-true t.kind 65534 e)

-- ---- a tuple of no concern put in before the end of file
module _ (o : Bool) (x : Tup) where
  abbrev put : List Tup → List Tup
  put ts = before_end ts ++ (x ∷ from_end ts)

  pub put-sound : Sound o x → (ts : List Tup) → AllSound o ts → AllSound o (before_end ts ++ (x ∷ from_end ts))
  put-sound s ts f =
      let g = subst (AllSound o) (sym (end-split ts)) f in
      sound_append o (before_end ts) (x ∷ from_end ts) (all_left o (before_end ts) (from_end ts) g)
      (s, all_right o (before_end ts) (from_end ts) g)

  pub length-put : (ts : List Tup) → length (before_end ts ++ (x ∷ from_end ts)) ≡ length ts + 1
  length-put ts = omega
      (arith, length-append (before_end ts) (x ∷ from_end ts), length-append (before_end ts) (from_end ts), ap length (end-split ts))

  pub put_linked : digest o x ≡ nothing → (first : Bool) (s : Links) (ts : List Tup) → Linked first s (digests o ts)
      → Linked first s (digests o (before_end ts ++ (x ∷ from_end ts)))
  unfolding before_end from_end
  put_linked n first s [] l = absurd (linked-some l refl)
  put_linked n first s (t ∷ ts) l = by_test (eqb t.kind 65534) refl first l (λ k. put_linked n false (note s (digest o t)) ts k)
    where
      by_test : (b : Bool) → eqb t.kind 65534 ≡ b → (first : Bool) → Linked first s (digests o (t ∷ ts))
          → (Linked false (note s (digest o t)) (digests o ts) → Linked false (note s (digest o t)) (digests o (put ts)))
          → Linked first s (digests o
          ((elim b as (λ _. List Tup) [ true ↦ [] | false ↦ t ∷ before_end ts ]) ++
          (x ∷ (elim b as (λ _. List Tup) [ true ↦ t ∷ ts | false ↦ from_end ts ]))))
      by_test true e true l ih = absurd (no_first o t e (linked-here l).0)
      by_test true e false l ih = with_nothing n l
      by_test false e first l ih =
          let ends : (digest o t).ends ≡ false = (by_code o t).ends ∙ e in
          next (linked-here l).0 (linked-here l).1 ends (ih (linked-next l ends))

-- ---- the index put in
pub indexed-sound : (o : Bool) (ts : List Tup) → AllSound o ts → AllSound o (with_index o ts)
unfolding with_index
indexed-sound o ts f = put-sound o (index_of o ts) (index-sound o (types_of ts) (few-types ts)) ts f

pub indexed-linked : (o : Bool) (first : Bool) (s : Links) (ts : List Tup) → Linked first s (digests o ts)
    → Linked first s (digests o (with_index o ts))
unfolding with_index
indexed-linked o first s ts l = put_linked o (index_of o ts) (index-digest o (types_of ts)) first s ts l

pub length-indexed : (o : Bool) (ts : List Tup) → length (with_index o ts) ≡ length ts + 1
unfolding with_index
length-indexed o ts = length-put o (index_of o ts) ts

-- ---- the index class dropped
pub index-none : (o : Bool) (t : Tup) → in_class Types.index t.kind ≡ true → item_of o t ≡ none
unfolding item_of
index-none o t e = ap (λ (q : Shape). item_by q o t) (index_shape t.kind e)

pub outside-sound : (o : Bool) (ts : List Tup) → AllSound o ts → AllSound o (outside ts)
unfolding outside
outside-sound o [] f = tt
outside-sound o (t ∷ ts) f = by_test (in_class Types.index t.kind) (outside-sound o ts f.1)
  where
    by_test : (b : Bool) → AllSound o (outside ts) → AllSound o (elim b as (λ _. List Tup) [ true ↦ outside ts | false ↦ t ∷ outside ts ])
    by_test true g = g
    by_test false g = (f.0, g)

none-outside : (o : Bool) (ts : List Tup) → digests o ts ≡ [] → digests o (outside ts) ≡ []
unfolding outside
none-outside o [] z = refl
none-outside o (t ∷ ts) z = absurd (let y : ◌≡◌ {A = ℕ} 0 1 = cc in omega arith)

pub outside-linked : (o : Bool) (first : Bool) (s : Links) (ts : List Tup) → Linked first s (digests o ts)
    → Linked first s (digests o (outside ts))
unfolding outside
outside-linked o first s [] l = l
outside-linked o first s (t ∷ ts) l =
    by_test (in_class Types.index t.kind) refl (λ q. outside-linked o first s ts q) (λ k q. outside-linked o false k ts q)
  where
    by_test : (b : Bool) → in_class Types.index t.kind ≡ b → (Linked first s (digests o ts) → Linked first s (digests o (outside ts)))
        → ((k : Links) → Linked false k (digests o ts) → Linked false k (digests o (outside ts)))
        → Linked first s (digests o (elim b as (λ _. List Tup) [ true ↦ outside ts | false ↦ t ∷ outside ts ]))
    by_test true e drops keeps = drops (without (ap digest_item (index-none o t e)) l)
    by_test false e drops keeps = relinked {ds = digests o ts} (none-outside o ts) keeps l

-- ---- written afresh
pub reindexed-sound : (o : Bool) (ts : List Tup) → AllSound o ts → AllSound o (reindexed o ts)
reindexed-sound o ts f = indexed-sound o (outside ts) (outside-sound o ts f)

pub reindexed-linked : (o : Bool) (first : Bool) (s : Links) (ts : List Tup) → Linked first s (digests o ts)
    → Linked first s (digests o (reindexed o ts))
reindexed-linked o first s ts l = indexed-linked o first s (outside ts) (outside-linked o first s ts l)
