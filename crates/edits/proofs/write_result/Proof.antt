-- `edits::write_result` meets its contract: each part is stored behind the one before it. Assumes nothing.
use mathlib.Core.Path.{◌≡◌, ap, ◌∙◌}
use Prim.Native.Nat.{ℕ, ◌+◌, ◌≤◌}
use native.Mathlib.Omega.{arith}
use borrow.Author.Rules.{rules}
use lib.ListN.{length}
use lib.Seq.{sets}
use Rattle.frame.specs.Frames.{Tup, length_of, frame}
use Rattle.frame.specs.Files.{mark}
use Rattle.index.specs.Index.{index_tuple}
use Rattle.index.specs.inner.Flags.{flagged_types}
use Rattle.edits.specs.inner.Parts.{kept_tuples, index_in}
use Rattle.edits.proofs.Sizes.{rowed, stored}
use Rattle.edits.proofs.write_result.Statement.{statement}
use Rattle.edits.proofs.write_result.Tie as tie

-- places, named by what is stored there
abbrev start : tie.After-store4-arg-1 → tie.Start
start c = c.before.before.before.before.before

abbrev marked : tie.After-copy_kept-arg-1 → tie.After-store4
marked c = c.before.before.before

abbrev first : tie.After-copy_kept-arg-2-1 → tie.After-copy_kept-middle
first c = c.before.before.before

abbrev second : tie.After-write_index-arg-1 → tie.After-copy_kept-end
second c = c.before.before.before

abbrev index : tie.After-struct_known-1 → tie.After-write_index
index c = c.before.before.before.before

abbrev last : tie.After-slice_known-6-1 → tie.After-copy_kept
last c = c.before.before

-- the bytes of the parts, and of the whole
record Rows (s : tie.Start) : Type 0 where
  pub sum : let a = s.args in
      4 + length (kept_tuples a.msb a.first.now) + length (kept_tuples a.msb a.second.now) + a.size.index
      + length (kept_tuples a.msb a.last.now) ≤ length a.out.now
  pub index : let a = s.args in a.size.index ≡ length_of (index_in a.msb a.first.now a.second.now a.last.now)

rows : (s : tie.Start) → Rows s
rows s =
    let a = s.args in
    let p = s.requires in
    let r = rowed a.msb a.first.now a.second.now a.last.now p.0 p.1.0 in
    record { sum = omega (arith, r, p.1.1.0.whole, p.1.1.0.index, p.1.1.1.0); index = p.1.1.0.index }

store4-requires : tie.Need-store4-requires
store4-requires c κs = omega (arith, (rows (start c)).sum)

copy-kept-requires : tie.Need-copy_kept-middle-requires
copy-kept-requires c κs = let m = marked c in omega (arith, (rows (start m.before)).sum, m.store4.auto.out)

copy-kept-requires-2 : tie.Need-copy_kept-end-requires
copy-kept-requires-2 c κs =
    let f = first c in
    let m = marked f.before in
    omega (arith, (rows (start m.before)).sum, m.store4.auto.out, f.copy_kept-middle.auto.out, f.copy_kept-middle.ensures.0)

-- the index that is written is the parts' own
written : (c : tie.After-write_index-arg-1) → let s = start (marked (first (second c).before).before).before in let a = s.args in
    index_tuple a.msb (flagged_types a.flags.now) ≡ index_in a.msb a.first.now a.second.now a.last.now
written c = let s = start (marked (first (second c).before).before).before in ap (index_tuple s.args.msb) s.requires.1.1.1.1

write-index-requires : tie.Need-write_index-requires
write-index-requires c κs =
    let t = second c in
    let f = first t.before in
    let m = marked f.before in
    let r = rows (start m.before) in
    omega (
      arith,
      r.sum,
      r.index,
      ap length_of (written c),
      m.store4.auto.out,
      f.copy_kept-middle.auto.out,
      f.copy_kept-middle.ensures.0,
      t.copy_kept-end.auto.out,
      t.copy_kept-end.ensures.0,
    )

add-copy-kept : tie.Need-overflow_add-end
add-copy-kept c =
    let t = second (index c).before in
    let f = first t.before in
    let s = start (marked f.before).before in
    omega (arith, (rows s).sum, f.copy_kept-middle.ensures.0, t.copy_kept-end.ensures.0, s.well_formed)

copy-kept-requires-3 : tie.Need-copy_kept-requires
copy-kept-requires-3 c κs =
    let i = index c in
    let t = second i.before in
    let f = first t.before in
    let m = marked f.before in
    omega (
      arith,
      (rows (start m.before)).sum,
      m.store4.auto.out,
      f.copy_kept-middle.auto.out,
      f.copy_kept-middle.ensures.0,
      t.copy_kept-end.auto.out,
      t.copy_kept-end.ensures.0,
      i.write_index.auto.out,
    )

returns : tie.Need-returns
unfolding mark
returns c =
    let l = last c in
    let i = index l.before in
    let t = second i.before in
    let f = first t.before in
    let m = marked f.before in
    let s = start m.before in
    let a = s.args in
    stored a.msb a.first.now a.second.now a.last.now s.requires.0 s.requires.1.0 a.out.now _ _ _ _ _ _ _ _
    m.store4.ensures
    f.copy_kept-middle.ensures.1 f.copy_kept-middle.ensures.0 t.copy_kept-end.ensures.1 t.copy_kept-end.ensures.0
    (i.write_index.ensures ∙ ap (λ (x : Tup). sets t.copy_kept-end.new.out t.copy_kept-end.result (frame a.msb x))
    (written i.before))
    (ap (λ (n : ℕ). t.copy_kept-end.result + n) (rows s).index) l.copy_kept.ensures.1

pub write_result_spec : {M : Type 1} → statement M
write_result_spec =
    tie.close
    (tie.spec
    store4-requires
    copy-kept-requires
    copy-kept-requires-2
    write-index-requires
    add-copy-kept
    copy-kept-requires-3
    (λ c. search rules)
    returns)
