-- Stores one behind another: what is left to store, before a step and after it; and texts put one behind another. Assumes nothing.
use mathlib.Core.Path.{◌≡◌, refl, sym, ap, subst, ◌∙◌}
use mathlib.Core.List.{List, [], ◌∷◌, ◌++◌, append_assoc}
use Prim.Native.Nat.{ℕ, ◌+◌, ◌≤◌, ◌<◌}
use native.Mathlib.Numerals.{add-one}
use native.Mathlib.Omega.{arith}
use lib.ListN.{length, set, take, drop, length-append, length-set}
use lib.Seq.{sets, sets-eq, length-sets, drop-drop}
use borrow.Rule.Slice.PartMut.{put_mid}
use Rattle.order.proofs.Stores.{add-two, sets_append}
use Rattle.hexlines.specs.inner.Printing.{Put}

-- the first of xs is stored, the rest is left
pub store_one : (l xs rest : List ℕ) (to v : ℕ) → xs ≡ v ∷ rest → sets (set l to v) (to + 1) rest ≡ sets l to xs
store_one l xs rest to v e = ap (λ (k : ℕ). sets (set l to v) k rest) (add-one to) ∙ ap (sets l to) (sym e)

-- the first two of them are stored
pub store_two : (l xs rest : List ℕ) (to v w : ℕ) → xs ≡ v ∷ w ∷ rest → sets (set (set l to v) (to + 1) w) (to + 2) rest ≡ sets l to xs
store_two l xs rest to v w e = rw (add-one to, add-two to) (ap (sets l to) (sym e))

-- ---- a text put at a place
-- copied into its part
pub put_copied : (out text : List ℕ) (at n : ℕ) → n ≡ length text → at + length text ≤ length out
    → {left : List ℕ} → left ≡ put_mid at n out text → Put out at text (at + length text) left
put_copied out text at n e h {left} p =
    let k : at + n ≡ at + length text = omega arith in
    let m : left ≡ sets out at text = p
    ∙ ap (λ (l : List ℕ). take at out ++ (text ++ l)) (drop-drop n at out ∙ ap (λ (k : ℕ). drop k out) k)
    ∙ sym (append_assoc (take at out) text (drop (at + length text) out))
    ∙ sym (sets-eq text out at h) in
    record { behind = refl; within = omega (arith, ap length m, length-sets out at text); memory = m }

pub put_one : (out text : List ℕ) (at v : ℕ) → at < length out → text ≡ v ∷ [] → Put out at text (at + 1) (set out at v)
put_one out text at v h e =
    record {
      behind = ap (λ (x : List ℕ). at + length x) (sym e);
      within = simp length-set (omega arith);
      memory = store_one out text [] at v e;
    }

pub put_same : {out a left b : List ℕ} {at r : ℕ} → a ≡ b → Put out at a r left → Put out at b r left
put_same {out} {left = left} {at = at} {r = r} e p = subst (λ (x : List ℕ). Put out at x r left) e p

-- what is left to store behind it
pub put_rest : {out a left : List ℕ} {at r : ℕ} → Put out at a r left → (b : List ℕ) → sets left r b ≡ sets out at (a ++ b)
put_rest {out} {a} {left} {at} {r} p b =
    ap (λ (x : List ℕ). sets x r b) p.memory ∙ ap (λ (k : ℕ). sets (sets out at a) k b) p.behind ∙ sym (sets_append a b out at)

pub put_then : {out a left b last : List ℕ} {at r s : ℕ} → Put out at a r left → Put left r b s last → Put out at (a ++ b) s last
put_then {a = a} {b = b} p q =
    record { behind = omega (arith, p.behind, q.behind, length-append a b); within = q.within; memory = q.memory ∙ put_rest p b }
