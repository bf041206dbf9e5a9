-- The identifier is no content: files that differ in it alone have equal contents, and so, by demand 3, one normal form. Assumes nothing.
use mathlib.Core.Path.{◌≡◌, sym, ap, ◌∙◌}
use mathlib.Core.Bool.{Bool}
use mathlib.Core.List.{List, [], ◌∷◌}
use mathlib.Core.Option.{some}
use Prim.Native.Nat.{ℕ}
use lib.Seq.{drop_at}
use Rattle.order.specs.Order.{bytes_of}
use Rattle.order.proofs.Laws.{length_bytes_of}
use Rattle.layout.specs.Fields.{Field, u, s}
use Rattle.layout.specs.Types.{listings, among, listing_of}
use Rattle.turning.specs.Rows.{values_of}
use Rattle.frame.specs.Frames.{Tup, frames}
use Rattle.frame.specs.Tuples.{AllFramed}
use Rattle.frame.proofs.Files.{msb-mark}
use Rattle.frame.proofs.Tuples.{tuples_of_lem}
use Rattle.content.specs.Items.{plain, item_of}
use Rattle.normal.specs.Contents.{add, items, content_of}
use Rattle.normal.specs.Spellings.{signature, spelled}
use Rattle.normal.specs.Demand.{Call}
use Rattle.normal.proofs.Outcomes.{demand3}

module _ (o : Bool) (rest : List ℕ) (ts : List Tup) where
  -- what a signature says is read behind its identifier
  abbrev behind : List Field
  behind = u 2 ∷ u 2 ∷ u 4 ∷ s 4 ∷ []

  signs : (n : ℕ) → item_of o (signature o n rest) ≡ some (plain 65535 (values_of o behind rest))
  unfolding item_of listing_of among listings
  signs n = ap (λ (bs : List ℕ). some (plain 65535 (values_of o behind bs))) (drop_at (bytes_of o 2 n) rest 2 (length_bytes_of o 2 n))

  says : (n : ℕ) → AllFramed (signature o n rest ∷ ts) → content_of (spelled o n rest ts) ≡ plain 65535 (values_of o behind rest) ∷ items o ts
  unfolding content_of items
  says n f =
      let r = frames o (signature o n rest ∷ ts) in
      (λ i. items (msb-mark o r i) (tuples_of_lem o (signature o n rest ∷ ts) f i)) ∙ ap (λ x. add x (items o ts)) (signs n)

  module _ (m n : ℕ) (f : AllFramed (signature o m rest ∷ ts)) (g : AllFramed (signature o n rest ∷ ts)) where
    pub same-content : content_of (spelled o m rest ts) ≡ content_of (spelled o n rest ts)
    same-content = says m f ∙ sym (says n g)

    pub one_form : {v w : List ℕ} → Call (spelled o m rest ts) v → Call (spelled o n rest ts) w → v ≡ w
    one_form c d = (demand3.equal c d).1 same-content
