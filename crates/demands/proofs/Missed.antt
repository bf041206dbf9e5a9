-- Asking at a place of an accepted file where no listed ping starts gives 9 there: a turn that starts at a place stands at a tuple of
-- the file, and a tuple with a ping's content is a listed ping. Assumes nothing.
use mathlib.Core.Path.{◌≡◌, refl, sym, ap, subst, ◌∙◌}
use mathlib.Core.Bool.{Bool, true, false}
use mathlib.Core.List.{List, [], ◌∷◌, ◌++◌}
use mathlib.Core.Option.{Option, some, none}
use Prim.Native.Nat.{ℕ, zero, suc, ◌+◌}
use native.Mathlib.Omega.{arith}
use borrow.Author.Tests.{eqb-true, eqb-false, ne_eqb}
use lib.Dec.{eqb}
use lib.ListN.{length, drop, length-append}
use lib.Seq.{drop_at, drop-drop}
use Rattle.order.specs.Order.{Bytes}
use Rattle.layout.specs.declared.Counts.{Counts}
use Rattle.layout.specs.Answer.{Accepted}
use Rattle.layout.specs.Types.{Shape, indexed, row, uncompressed, compressed, unlisted, shape_of, has_samples, is_ping}
use Rattle.frame.specs.Frames.{Tup, length_of, frame, frames, tup_at}
use Rattle.frame.specs.Files.{mark, is_msb}
use Rattle.frame.specs.Tuples.{tuples_of}
use Rattle.frame.proofs.Frames.{length-frame}
use Rattle.frame.proofs.Files.{length-mark}
use Rattle.links.proofs.Linked.{Linked, linked-here, linked-some, linked-next}
use Rattle.content.specs.Pings.{Ping}
use Rattle.content.specs.Items.{Item, plain, ping, raw, item_by, item_of, digest}
use Rattle.intake.specs.Asked.{Asked}
use Rattle.intake.specs.Check.{Course, begin, past, onward, after, turn, check_file, ending}
use Rattle.intake.specs.Asking.{course_to, ask_item, ask_course, ask_accepted}
use Rattle.intake.proofs.Turns.{parts-judged, to_end, to_next}
use Rattle.intake.proofs.Accepted.{AllSound, digests, whole-turn, divided}
use Rattle.demands.specs.Lineages.{Among, Listed, place_after}
use Rattle.demands.specs.Refusals.{PingAt}
use Rattle.demands.proofs.Named.{stands-there}

-- a tuple with a ping's content is of a listed type
ping-listed : (o : Bool) (t : Tup) (q : Ping) → item_of o t ≡ some (ping q) → Listed t
unfolding item_of is_ping
ping-listed o t q e = by (shape_of t.kind) e
  where
    by : (s : Shape) → item_by s o t ≡ some (ping q) → has_samples s ≡ true
    by indexed z = absurd (let y : ◌≡◌ {A = ℕ} 0 1 = cc in omega arith)
    by (row fs x) z = absurd (let y : ◌≡◌ {A = ℕ} 0 1 = cc in omega arith)
    by (uncompressed f) z = refl
    by (compressed f) z = refl
    by unlisted z = absurd (let y : ◌≡◌ {A = ℕ} 0 1 = cc in omega arith)

-- ---- a turn that starts at a place p stands at one of the tuples left
module _ (o : Bool) (f : List ℕ) (p : ℕ) where
  abbrev Spot : ℕ → List Tup → Type 0
  Spot at xs = (a : Among xs) × (at + length (frames o a.before) ≡ p)

  -- behind one more tuple
  further : (at : ℕ) (x : Tup) (xs : List Tup) → Spot (at + length_of x) xs → Spot at (x ∷ xs)
  further at x xs s =
      let a = s.0 in
      let size = length-append (frame o x) (frames o a.before) in (
        record { before = x ∷ a.before; it = a.it; behind = a.behind; split = ap (λ (l : List Tup). x ∷ l) a.split },
        omega (arith, s.1, size, length-frame o x),
      )

  module _ (x : Tup) (xs : List Tup) (w : Course) (e : drop w.at f ≡ frame o x ++ frames o xs) (a : AllSound o (x ∷ xs))
      (l : Linked (eqb w.count 0) w.links (digests o (x ∷ xs))) where
    -- the turn, by whether the tuple is the end of file
    turn-past : turn o f w ≡ onward (length f) (past o w x (length_of x)) (digest o x).ends
    turn-past =
        let j = linked-here l in
        let v = parts-judged o w x (record { signing = j.0; head = a.0.head; linking = j.1; inner = a.0.inner }) in
        whole-turn o f x (frames o xs) w e a.0.framed ∙ ap (after o (length f) w x (length_of x)) v

    left : drop (w.at + length_of x) f ≡ frames o xs
    left =
        sym (drop-drop (length_of x) w.at f)
        ∙ ap (drop (length_of x)) e
        ∙ drop_at (frame o x) (frames o xs) (length_of x) (length-frame o x)

    rest : (digest o x).ends ≡ false → Linked (eqb (w.count + 1) 0) (past o w x (length_of x)).links (digests o xs)
    rest h =
        subst (λ (b : Bool). Linked b (past o w x (length_of x)).links (digests o xs)) (sym (ne_eqb (w.count + 1) 0 (omega arith)))
        (linked-next l h)

  -- what is found behind a tuple, in k turns
  abbrev Behind : ℕ → Tup → List Tup → Course → Course → Type 0
  Behind k x xs w v =
      let w⁺ = past o w x (length_of x) in
      drop w⁺.at f ≡ frames o xs → Linked (eqb w⁺.count 0) w⁺.links (digests o xs) → course_to k o f p w⁺ ≡ some v
      → Spot w⁺.at xs

  spot : (k : ℕ) (xs : List Tup) (w v : Course) → drop w.at f ≡ frames o xs → AllSound o xs
      → Linked (eqb w.count 0) w.links (digests o xs)
      → course_to k o f p w ≡ some v → Spot w.at xs
  unfolding course_to
  spot k [] w v e a l q = absurd (linked-some l refl)
  spot zero (x ∷ xs) w v e a l q = absurd (let z : ◌≡◌ {A = ℕ} 0 1 = cc in omega arith)
  spot (suc k) (x ∷ xs) w v e a l q = by (λ d g h. spot k xs (past o w x (length_of x)) v d a.1 g h) (eqb w.at p) refl
    where
      by_end : Behind k x xs w v → (w.at ≡ p → ⊥) → (b : Bool) → (digest o x).ends ≡ b → Spot w.at (x ∷ xs)
      by_end behind ne true h =
          let s = ending (length f) (past o w x (length_of x)) in
          let t = to_end k o f p w ne s (turn-past x xs w e a l ∙ ap (onward (length f) (past o w x (length_of x))) h) in
          absurd (let z : ◌≡◌ {A = ℕ} 0 1 = cc (t, q) in omega arith)
      by_end behind ne false h =
          let w⁺ = past o w x (length_of x) in
          let t = to_next k o f p w ne w⁺ (turn-past x xs w e a l ∙ ap (onward (length f) w⁺) h) in
          further w.at x xs (behind (left x xs w e a l) (rest x xs w e a l h) (sym t ∙ q))

      by : Behind k x xs w v → (b : Bool) → eqb w.at p ≡ b → Spot w.at (x ∷ xs)
      by behind true h = (record { before = []; it = x; behind = xs; split = refl }, omega (arith, eqb-true w.at p h))
      by behind false h = by_end behind (eqb-false w.at p h) (digest o x).ends refl

-- ---- so asking gives 9 where no listed ping starts
module _ (f : List ℕ) (b : Bytes f) (n : Counts) (e : check_file f ≡ Accepted n) (p : ℕ) (no : PingAt f p → ⊥) where
  by-item : (w : Course) (a : Among (tuples_of f)) → place_after (is_msb f) a.before ≡ p → (i : Option Item) → item_of (is_msb f) a.it ≡ i
      → ask_item w p n i ≡ Asked.Refused 9 p
  by-item w a h none z = refl
  by-item w a h (some (plain k vs)) z = refl
  by-item w a h (some (ping q)) z = absurd (no (record { ping = a; listed = ping-listed (is_msb f) a.it q z; place = h }))
  by-item w a h (some (raw k d)) z = refl

  by-course : (c : Option Course) → course_to (length f) (is_msb f) f p begin ≡ c → ask_course f p n c ≡ Asked.Refused 9 p
  by-course none h = refl
  by-course (some w) h =
      let o = is_msb f in
      let d = divided f b n e in
      let r = frames o (tuples_of f) in
      let behind : drop 4 f ≡ r = ap (drop 4) d.whole ∙ drop_at (mark o) r 4 (length-mark o) in
      let s = spot o f p (length f) (tuples_of f) begin w behind d.sound d.linked h in
      let t : tup_at o (drop p f) ≡ s.0.it = ap (λ (i : ℕ). tup_at o (drop i f)) (sym s.1) ∙ stands-there f b n e s.0 in
      ap (λ (x : Tup). ask_item w p n (item_of o x)) t ∙ by-item w s.0 s.1 (item_of o s.0.it) refl

  pub missed : ask_accepted f p n ≡ Asked.Refused 9 p
  unfolding ask_accepted
  missed = by-course (course_to (length f) (is_msb f) f p begin) refl
