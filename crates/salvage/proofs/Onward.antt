-- Where the iterator over a file's pieces stands, told of the file and the order that a loop knows. Assumes nothing.
use mathlib.Core.Path.{◌≡◌, sym, ap, ◌∙◌}
use mathlib.Core.Bool.{Bool}
use mathlib.Core.List.{List}
use Prim.Native.Nat.{ℕ, ◌≤◌, ◌<◌}
use lib.ListN.{length}
use Rattle.frame.specs.Files.{is_msb}
use Rattle.salvage.specs.declared.Piece.{Piece}
use Rattle.salvage.specs.declared.pieces.Pieces.{Pieces}
use Rattle.salvage.specs.Pieces.{piece_at}
use Rattle.salvage.specs.inner.Passes.{growing}
use Rattle.salvage.specs.inner.Onward.{Passes}
use Rattle.salvage.proofs.Tiles.{growing_to}

-- at a place
pub record Stands (s : Pieces) (f : List ℕ) (o : Bool) (n : ℕ) : Type 0 where
  pub file : s.file.now ≡ f
  pub msb : s.msb ≡ o
  pub at : s.at ≡ n

-- behind the mark, in the order that was read
pub onward-begun : (s : Pieces) (f : List ℕ) {o : Bool} → (s.file.now ≡ f) × (s.at ≡ 4) → s.msb ≡ o → o ≡ is_msb f
    → Stands s f (is_msb f) 4
onward-begun s f e o h = record { file = e.0; msb = o ∙ h; at = e.1 }

module _ {s : Pieces} {f : List ℕ} {o : Bool} {n : ℕ} (w : Stands s f o n) where
  module _ {t : Pieces} {q : Piece} (g : Passes s q t) where
    pub onward-more : n < length f
    onward-more = rw (w.file, w.at) at g.more

    pub onward-piece : q ≡ piece_at o f n
    onward-piece = rw (w.file, w.msb, w.at) at g.piece

    -- behind the piece, and so at the end of the range that it makes longer or opens
    pub onward-behind : Stands t f o q.to
    onward-behind = record { file = rw g.file w.file; msb = g.msb ∙ w.msb; at = g.next }

    pub onward-grown : (p r : Piece) → r ≡ growing p q → Stands t f o r.to
    onward-grown p r c =
        let b = onward-behind in
        record { file = b.file; msb = b.msb; at = b.at ∙ sym (ap (λ (e : Piece). e.to) c ∙ growing_to p q) }

  -- where it gives nothing, the file is at its end
  pub onward-end : length s.file.now ≤ s.at → length f ≤ n
  onward-end h = rw (w.file, w.at) at h
