-- `edits::insert` meets its contract: the file is cut at its end of file. Assumes nothing.
use mathlib.Core.Path.{◌≡◌, subst}
use mathlib.Core.List.{List}
use Prim.Native.Nat.{ℕ, ◌+◌, ◌≤◌}
use native.Mathlib.Omega.{arith}
use borrow.Author.Rules.{rules}
use lib.ListN.{length}
use Rattle.order.specs.Order.{Bytes}
use Rattle.order.proofs.Laws.{bytes_of_lem}
use Rattle.layout.specs.Views.{as_answer}
use Rattle.frame.specs.Frames.{frames}
use Rattle.frame.specs.Files.{is_msb}
use Rattle.frame.specs.Tuples.{tuples_of}
use Rattle.index.specs.Index.{before_end}
use Rattle.edits.specs.inner.Parts.{Rewritten}
use Rattle.edits.proofs.Ends.{taken_4}
use Rattle.edits.proofs.Anew.{end-found, end-within, inserted_cut, inserted_result}
use Rattle.edits.proofs.insert.Statement.{statement}
use Rattle.edits.proofs.insert.Tie as tie

-- places, named by what has been done there
abbrev start : tie.After-slice_known-1 → tie.Start
start c = c.before.before.before

abbrev ordered : tie.After-find_end-end → tie.After-is_msb-msb
ordered c = c.before.before

abbrev sought : tie.After-rewrite-arg-3-1 → tie.After-find_end-end
sought c = c.before.before.before

bytes : (c : tie.After-slice_known-1) → Bytes (start c).args.file.now
bytes c = bytes_of_lem (start c).args.file.now (λ i. (c.shared_slice_known-1.given i).fits)

four : (c : tie.After-slice_known-1) → 4 ≤ length (start c).args.file.now
four c = taken_4 (start c).args.file.now (bytes c) _ (start c).requires.0

-- where the end of file stands
end_is : (c : tie.After-find_end-end) → let f = (start (ordered c).before).args.file.now in
    4 + c.find_end-end.result ≡ 4 + length (frames (is_msb f) (before_end (tuples_of f)))
end_is c =
    let i = ordered c in
    let s = start i.before in
    end-found s.args.file.now (bytes i.before) _ s.requires.0 i.is_msb-msb.result i.is_msb-msb.ensures _ c.find_end-end.ensures

add-end : tie.Need-overflow_add-end
add-end c =
    let i = ordered c in
    let s = start i.before in
    omega (
      arith,
      (end-within s.args.file.now (bytes i.before) _ s.requires.0 i.is_msb-msb.result i.is_msb-msb.ensures _
          (end_is c)).1,
      s.well_formed,
    )

within : (c : tie.After-find_end-end) → let f = (start (ordered c).before).args.file.now in 4 + c.find_end-end.result ≤ length f
within c =
    let i = ordered c in
    let s = start i.before in
    (end-within s.args.file.now (bytes i.before) _ s.requires.0 i.is_msb-msb.result i.is_msb-msb.ensures _ (end_is c)).1

rewrite-requires : tie.Need-rewrite-requires
rewrite-requires c κs =
    let e = sought c in
    let i = ordered e in
    let s = start i.before in
    inserted_cut s.args.file.now (bytes i.before) _ s.requires.0 i.is_msb-msb.result i.is_msb-msb.ensures _ (end_is e) _ s.requires.1

returns : tie.Need-returns
returns c =
    let r = c.before.before in
    let e = sought r.before in
    let i = ordered e in
    let s = start i.before in
    subst (λ (g : List ℕ). Rewritten g s.args.counts s.args.out.now (as_answer r.rewrite.result) r.rewrite.new.out)
    (inserted_result s.args.file.now (bytes i.before) _ s.requires.0 i.is_msb-msb.result i.is_msb-msb.ensures _ (end_is e) _)
    r.rewrite.ensures

pub insert_spec : {M : Type 1} → statement M
insert_spec =
    tie.close
    (tie.spec
    (λ c κs. four c)
    (λ c. omega (arith, four c.before))
    (λ c. four c.before)
    (λ c. search rules)
    (λ c κs. search rules)
    add-end
    (λ c. search rules)
    (λ c. search rules)
    within
    (λ c. omega (arith, within c.before))
    (λ c. within c.before)
    (λ c. search rules)
    rewrite-requires
    (λ c. search rules)
    returns)
