-- What calls tell, proved (specs/Parts). Assumes nothing.
use mathlib.Core.Path.{◌≡◌, refl, sym, ap, ap₂, subst, ◌∙◌}
use mathlib.Core.Bool.{Bool, true, false, not, ◌||◌, true≢false}
use mathlib.Core.List.{List, [], ◌∷◌, ◌++◌}
use mathlib.Core.Logic.{◌⊎◌, inl, inr}
use mathlib.Core.Option.{Option, some, none}
use Prim.Native.Nat.{ℕ, ◌+◌}
use native.Mathlib.Omega.{arith}
use borrow.Author.Tests.{eqb-true}
use lib.Dec.{eqb}
use lib.ListN.{take, drop}
use lib.Seq.{drop-drop, drop_at, take_at}
use Rattle.rules.proofs.Bools.{both_true}
use Rattle.order.specs.Order.{Bytes}
use Rattle.layout.specs.Answer.{Answer}
use Rattle.layout.specs.Answer.{Accepted}
use Rattle.layout.specs.declared.SoftwareChannel.{SoftwareChannel}
use Rattle.frame.specs.Frames.{Tup, length_of, frame, frames}
use Rattle.frame.specs.Files.{is_msb, mark}
use Rattle.frame.specs.Tuples.{tuples_of}
use Rattle.frame.proofs.Frames.{length-frame}
use Rattle.frame.proofs.Files.{length-mark}
use Rattle.content.specs.Pings.{Ping}
use Rattle.content.specs.Items.{Item, plain, ping, raw, item_of, number_at}
use Rattle.intake.specs.Check.{check_file}
use Rattle.intake.specs.inner.Sound.{Accepts}
use Rattle.intake.proofs.Accepted.{divided}
use Rattle.corrections.specs.Found.{Found}
use Rattle.corrections.specs.Found.{Corrected, Deposited, Refused}
use Rattle.corrections.specs.Spot.{Spot}
use Rattle.corrections.specs.Spot.{At, Nowhere}
use Rattle.corrections.specs.Corrections.{wanted, first_that, ping_in, chosen, found_by, found_of, part_of, found_numbers, mark_of}
use Rattle.corrections.specs.Parts.{NoneOf, FirstPing, alone_by, Call, Hands, SameBack, Corrections}
use Rattle.corrections.proofs.Wanted.{wants, first-here, first-later}

-- ---- the first of tuples that lie at a place
module _ (want : Tup → Bool) (o : Bool) (f : List ℕ) where
  record Firstly (ts : List Tup) (a m : ℕ) : Type 0 where
    before : List Tup
    it : Tup
    behind : List Tup
    among : ts ≡ before ++ (it ∷ behind)
    wanted : want it ≡ true
    first : NoneOf want before
    bytes : take m (drop a f) ≡ frame o it

  firstly : (ts : List Tup) (at a m : ℕ) → drop at f ≡ frames o ts → first_that want at ts ≡ At a m → Firstly ts a m
  unfolding first_that
  firstly [] at a m l h = absurd (let z : ◌≡◌ {A = ℕ} 0 1 = cc in omega arith)
  firstly (t ∷ ts) at a m l h = by (λ q z. firstly ts (at + length_of t) a m q z) (want t) refl
    where
      behind-it : drop (at + length_of t) f ≡ frames o ts
      behind-it =
          sym (drop-drop (length_of t) at f)
          ∙ ap (drop (length_of t)) l
          ∙ drop_at (frame o t) (frames o ts) (length_of t) (length-frame o t)

      by : (drop (at + length_of t) f ≡ frames o ts → first_that want (at + length_of t) ts ≡ At a m → Firstly ts a m) → (b : Bool)
          → want t ≡ b → Firstly (t ∷ ts) a m
      by ih true z =
          let is : At at (length_of t) ≡ At a m = sym (first-here want at t ts z) ∙ h in
          let from : at ≡ a = cc in
          let size : length_of t ≡ m = cc in
          record {
            before = [];
            it = t;
            behind = ts;
            among = refl;
            wanted = z;
            first = tt;
            bytes =
                ap₂ (λ (i j : ℕ). take i (drop j f)) (sym size) (sym from)
                ∙ ap (take (length_of t)) l
                ∙ take_at (frame o t) (frames o ts) (length_of t) (length-frame o t);
          }
      by ih false z =
          let r = ih behind-it (sym (first-later want at t ts z) ∙ h) in
          record {
            before = t ∷ r.before;
            it = r.it;
            behind = r.behind;
            among = ap (λ (us : List Tup). t ∷ us) r.among;
            wanted = r.wanted;
            first = (z, r.first);
            bytes = r.bytes;
          }

-- ---- what is wanted is a ping
record Pinged (edited : Bool) (c : SoftwareChannel) (n : ℕ) (i : Option Item) : Type 0 where
  it : Ping
  is : i ≡ some (ping it)
  channel : number_at it.head 2 ≡ c.0
  number : number_at it.head 4 ≡ n
  attribute : edited ≡ true → it.attr ≡ 1

wanted-ping : (edited : Bool) (c : SoftwareChannel) (n : ℕ) (i : Option Item) → wanted edited c n i ≡ true → Pinged edited c n i
wanted-ping edited c n none e = absurd (true≢false (sym e))
wanted-ping edited c n (some (plain k vs)) e = absurd (true≢false (sym e))
wanted-ping edited c n (some (ping q)) e =
    let a = both_true (eqb (number_at q.head 2) c.0) _ e in
    let b = both_true (eqb (number_at q.head 4) n) _ a.1 in
    record {
      it = q;
      is = refl;
      channel = eqb-true _ _ a.0;
      number = eqb-true _ _ b.0;
      attribute = λ z. eqb-true q.attr 1 (ap (λ (x : Bool). not x || eqb q.attr 1) (sym z) ∙ b.1);
    }
wanted-ping edited c n (some (raw k d)) e = absurd (true≢false (sym e))

-- of an accepted file
first-ping : (edited : Bool) (f : List ℕ) (c : SoftwareChannel) (n a m : ℕ) → Bytes f → Accepts f → ping_in edited f c n ≡ At a m
    → FirstPing edited f c n (take m (drop a f))
unfolding ping_in
first-ping edited f c n a m b x h =
    let d = divided f b x.counts x.answer in
    let o = is_msb f in
    let l : drop 4 f ≡ frames o (tuples_of f) = ap (drop 4) d.whole ∙ drop_at (mark o) (frames o (tuples_of f)) 4 (length-mark o) in
    let r = firstly (wants edited c n o) o f (tuples_of f) 4 a m l h in
    let p = wanted-ping edited c n (item_of o r.it) r.wanted in
    record {
      before = r.before;
      it = r.it;
      behind = r.behind;
      among = r.among;
      bytes = r.bytes;
      content = p.it;
      is = p.is;
      channel = p.channel;
      number = p.number;
      attribute = p.attribute;
      first = r.first;
    }

-- ---- what was found
module _ (d k : List ℕ) (c : SoftwareChannel) (n : ℕ) where
  -- what a part tells by its mark
  abbrev Tells : Found → Type 0
  Tells (Corrected a m) = Bytes k → FirstPing true k c n (take m (drop a k))
  Tells (Deposited a m) = Bytes d → FirstPing false d c n (take m (drop a d))
  Tells (Refused mark x p) = Unit {0}

  tells : Tells (found_of d k c n)
  unfolding found_of
  tells = by_checks (check_file d) (check_file k) refl refl
    where
      by-spots : Accepts d → Accepts k → (x y : Spot) → ping_in true k c n ≡ x → ping_in false d c n ≡ y → Tells (chosen x y)
      by-spots i j (At a m) y p q = λ z. first-ping true k c n a m z j p
      by-spots i j Nowhere (At a m) p q = λ z. first-ping false d c n a m z i q
      by-spots i j Nowhere Nowhere p q = tt

      by_checks : (a b : Answer) → check_file d ≡ a → check_file k ≡ b → Tells (found_by d k c n a b)
      by_checks (Answer.Refused x p) b e h = tt
      by_checks (Accepted i) (Answer.Refused x p) e h = tt
      by_checks (Accepted i) (Accepted j) e h =
          by-spots (record { counts = i; answer = e }) (record { counts = j; answer = h }) (ping_in true k c n) (ping_in false d c n) refl
          refl

  -- of two accepted files
  found-wins : Accepts d → Accepts k → (a m : ℕ) → ping_in true k c n ≡ At a m → found_of d k c n ≡ Corrected a m
  unfolding found_of
  found-wins i j a m h =
      ap₂ (found_by d k c n) i.answer j.answer ∙ ap (λ (x : Spot). chosen x (ping_in false d c n)) h

  -- accepted corrections without such a ping: the deposit alone says what is found
  found-alone : Accepts k → ping_in true k c n ≡ Nowhere → found_of d k c n ≡ alone_by d c n (check_file d)
  unfolding found_of
  found-alone j h = ap (found_by d k c n (check_file d)) j.answer ∙ by (check_file d)
    where
      by : (x : Answer) → found_by d k c n x (Accepted j.counts) ≡ alone_by d c n x
      by (Answer.Refused x p) = refl
      by (Accepted i) = ap (λ (x : Spot). chosen x (ping_in false d c n)) h

-- its part lies in the deposit, whatever the corrections
part-alone : (d k l : List ℕ) (c : SoftwareChannel) (n : ℕ) (x : Answer) → part_of d k (alone_by d c n x) ≡ part_of d l (alone_by d c n x)
part-alone d k l c n (Answer.Refused x p) = refl
part-alone d k l c n (Accepted i) = by (ping_in false d c n)
  where
    by : (y : Spot) → part_of d k (chosen Nowhere y) ≡ part_of d l (chosen Nowhere y)
    by Nowhere = refl
    by (At a m) = refl

one-two : {A : Type 0} → ◌≡◌ {A = ℕ} 2 1 → A
one-two e = absurd (omega arith)

-- ---- by the promise
module _ {d k : List ℕ} {c : SoftwareChannel} {n : ℕ} (x : Call d k c n) where
  abbrev found : Found
  found = found_of d k c n

  is-corrected : Bytes k → Hands x → x.mark ≡ 2 → FirstPing true k c n x.part
  is-corrected b z e = by found (tells d k c n) x.promise.marked x.promise.bytes
    where
      by : (y : Found) → Tells d k c n y → x.mark ≡ mark_of y → x.part ≡ part_of d k y → FirstPing true k c n x.part
      by (Corrected a e') t m h = subst (FirstPing true k c n) (sym h) (t b)
      by (Deposited a e') t m h = one-two (sym e ∙ m)
      by (Refused m' y p) t m h = absurd (z h)

  is-deposited : Bytes d → Hands x → x.mark ≡ 1 → FirstPing false d c n x.part
  is-deposited b z e = by found (tells d k c n) x.promise.marked x.promise.bytes
    where
      by : (y : Found) → Tells d k c n y → x.mark ≡ mark_of y → x.part ≡ part_of d k y → FirstPing false d c n x.part
      by (Corrected a e') t m h = one-two (sym m ∙ e)
      by (Deposited a e') t m h = subst (FirstPing false d c n) (sym h) (t b)
      by (Refused m' y p) t m h = absurd (z h)

  no_other : Hands x → ((x.mark ≡ 1) ⊎ (x.mark ≡ 2)) × (x.code ≡ 0)
  no_other z = by found x.promise.marked x.promise.coded x.promise.bytes
    where
      by : (y : Found) → x.mark ≡ mark_of y → x.code ≡ (found_numbers y).code → x.part ≡ part_of d k y
          → ((x.mark ≡ 1) ⊎ (x.mark ≡ 2)) × (x.code ≡ 0)
      by (Corrected a e) m q h = (inr m, q)
      by (Deposited a e) m q h = (inl m, q)
      by (Refused m' y p) m q h = absurd (z h)

  is-empty : (x.code ≡ 0 → ⊥) → x.part ≡ []
  is-empty z = by found x.promise.coded x.promise.bytes
    where
      by : (y : Found) → x.code ≡ (found_numbers y).code → x.part ≡ part_of d k y → x.part ≡ []
      by (Corrected a e) q h = absurd (z q)
      by (Deposited a e) q h = absurd (z q)
      by (Refused m' y p) q h = h

  wins : Accepts d → Accepts k → (a m : ℕ) → ping_in true k c n ≡ At a m → (x.mark ≡ 2) × (x.code ≡ 0)
  wins i j a m h =
      let w = found-wins d k c n i j a m h in
      (x.promise.marked ∙ ap mark_of w, x.promise.coded ∙ ap (λ (y : Found). (found_numbers y).code) w)

same_back : {d k l : List ℕ} {c : SoftwareChannel} {n : ℕ} → Accepts k → Accepts l → ping_in true k c n ≡ Nowhere
    → ping_in true l c n ≡ Nowhere → (x : Call d k c n) (y : Call d l c n) → SameBack x y
same_back {d} {k} {l} {c} {n} i j p q x y =
    let v = found-alone d k c n i p in
    let w = found-alone d l c n j q in
    let e = v ∙ sym w in
    record {
      mark = x.promise.marked ∙ ap mark_of e ∙ sym y.promise.marked;
      code = x.promise.coded ∙ ap (λ (z : Found). (found_numbers z).code) e ∙ sym y.promise.coded;
      place = x.promise.placed ∙ ap (λ (z : Found). (found_numbers z).place) e ∙ sym y.promise.placed;
      part =
          x.promise.bytes
          ∙ ap (part_of d k) v
          ∙ part-alone d k l c n (check_file d)
          ∙ sym (ap (part_of d l) w)
          ∙ sym y.promise.bytes;
    }

pub corrections : Corrections
corrections =
    record {
      corrected = λ b x z e. is-corrected x b z e;
      deposited = λ b x z e. is-deposited x b z e;
      other = λ x z. no_other x z;
      empty = λ x z. is-empty x z;
      wins = λ i j a m h x. wins x i j a m h;
      alone = λ i j p q x y. same_back i j p q x y;
    }
