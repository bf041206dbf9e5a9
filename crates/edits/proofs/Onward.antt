-- Steps of the iterator over a part's judged tuples, told of the part and the order that a loop knows. Assumes nothing.
use mathlib.Core.Path.{◌≡◌, sym, ap, ◌∙◌}
use mathlib.Core.Bool.{Bool, true, false}
use mathlib.Core.List.{List}
use Prim.Native.Nat.{ℕ, ◌+◌}
use lib.ListN.{drop}
use Rattle.order.specs.Order.{Bytes}
use Rattle.frame.specs.declared.passing.Located.{Located}
use Rattle.frame.specs.Frames.{len_at, kind_at}
use Rattle.edits.specs.declared.judged.Judged.{Judged}
use Rattle.edits.specs.inner.Parts.{is_tuple}
use Rattle.edits.specs.inner.Judged.{Passes}
use Rattle.edits.proofs.Dividing.{Front}
use Rattle.edits.proofs.Keeping.{here}

module _ (s : Judged) (r : List ℕ) (o : Bool) (ef : s.part.now ≡ r) (eo : s.msb ≡ o) where
  module _ {t : Judged} {x : Located} (p : Passes s x t) where
    pub judged-stands : is_tuple o (drop s.at r) ≡ true
    judged-stands = rw (ef, eo) at p.stands

    pub judged-front : Bytes r → Front o (drop s.at r)
    judged-front b = here o r s.at b judged-stands

    pub judged-whole : x.whole ≡ len_at o (drop s.at r)
    judged-whole = rw (ef, eo) at p.whole

    pub judged-code : x.code ≡ kind_at o (drop s.at r)
    judged-code = rw (ef, eo) at p.code

    pub judged-next : t.at ≡ s.at + x.whole
    judged-next = p.next ∙ ap (λ (n : ℕ). s.at + n) (sym p.whole)

    pub judged-part : t.part.now ≡ r
    judged-part = rw p.part ef

    pub judged-msb : t.msb ≡ o
    judged-msb = p.msb ∙ eo

  -- where it gives nothing, no tuple stands
  pub judged-none : is_tuple s.msb (drop s.at s.part.now) ≡ false → is_tuple o (drop s.at r) ≡ false
  judged-none e = rw (ef, eo) at e
