-- `hexlines::lines_out::print_form` meets its contract: behind the mark's line, what is still to be printed makes the whole
-- (`Printing`). Assumes nothing.
use Rattle.std.proofs.Common.{◌≡◌, ℕ, ◌+◌, ◌<◌, ◌≤◌, refl, sym, ap, false, List, length, take, length-append, arith}
use lib.Seq.{length-take-le}
use Rattle.frame.specs.Files.{mark}
use Rattle.frame.specs.Tuples.{tuples_of}
use Rattle.frame.proofs.Onward.{passes-below, passes-whole, passes-next, passes-file, passes-msb}
use Rattle.hexlines.specs.Lines.{hex, line}
use Rattle.hexlines.specs.Programs.{tuple_lines, file_lines}
use Rattle.hexlines.specs.inner.Printing.{Put, Form}
use Rattle.hexlines.proofs.Stores.{put_same, put_then}
use Rattle.hexlines.proofs.Printing.{mark-within, marked, length-file_lines, printing_begin, printing_turn, printing_done}
use Rattle.hexlines.proofs.lines_out.print_form.Goals as goal

pub slice_bounds-put_line-end : goal.slice_bounds-put_line-end
slice_bounds-put_line-end c = sym (length-take-le 4 c.args.form.now (mark-within c.args.form.now (tuples_of c.args.form.now) c.requires.form))

pub put_line-to-requires : goal.put_line-to-requires
put_line-to-requires c =
    omega (
      arith,
      length-take-le 4 c.args.form.now (mark-within c.args.form.now (tuples_of c.args.form.now) c.requires.form),
      length-file_lines (tuples_of c.args.form.now),
      c.requires.form_in_bounds,
    )

-- the mark's line was put first, and the tuples' lines have room behind it
module _ (form out out₀ : List ℕ) (to₀ : ℕ) (f : Form form (tuples_of form)) (p : Put out 0 (line (hex (take 4 form))) to₀ out₀) where
  first : Put out 0 (line (hex (mark false))) to₀ out₀
  first = put_same (ap (λ (b : List ℕ). line (hex b)) (marked form _ f)) p

  room : length out₀ ≡ length out → length (file_lines (tuples_of form)) ≤ length out → to₀ + length (tuple_lines (tuples_of form)) ≤ length out₀
  room e h = omega (arith, first.behind, length-append (line (hex (mark false))) (tuple_lines (tuples_of form)))

pub loop-tuple-init : goal.loop-tuple-init
loop-tuple-init c =
    let i = c.into_iter-tuple-iterator.ensures.into_iter_gives in
    let b = c.behind_mark-tuple-items.ensures in
    rw i (tt, tt, b.from.0, b.order, rw b.from.1 (printing_begin _ _ _ _ c.requires.form))

pub put_line-to-requires-in-loop-tuple : goal.put_line-to-requires-in-loop-tuple
put_line-to-requires-in-loop-tuple c =
    let i = c.loop-tuple.invariant in
    let p = c.in-Some.ensures.steps in
    let t = printing_turn _ _ _ _ _ _ _ (passes-below _ _ _ p _ _ i.2 i.3) i.4 _ (passes-whole _ _ _ p _ _ i.2 i.3) in
    let space = room _ _ _ _ c.requires.form c.put_line-to.ensures c.put_line-to.auto.out c.requires.form_in_bounds in
    rw p.at (omega (arith, t.room, space, i.4.long))

pub loop-tuple-preserved : goal.loop-tuple-preserved
loop-tuple-preserved c =
    let i = c.loop-tuple.invariant in
    let p = c.in-Some.ensures.steps in
    let t = printing_turn _ _ _ _ _ _ _ (passes-below _ _ _ p _ _ i.2 i.3) i.4 _ (passes-whole _ _ _ p _ _ i.2 i.3) in (
      tt,
      tt,
      passes-file _ _ _ p _ _ i.2 i.3,
      passes-msb _ _ _ p _ _ i.2 i.3,
      rw (passes-next _ _ _ p _ _ i.2 i.3) (t.next _ _ (rw p.at at c.put_line-to-in-loop-tuple.ensures)),
    )

pub returns : goal.returns
returns c =
    let i = c.loop-tuple.invariant in
    let s = c.loop-tuple.tuple-iterator in
    let over : s.at < length c.args.form.now → ⊥ = λ h.
    let t = printing_turn _ _ _ _ _ _ _ h i.4 _ refl in
    c.in-None.ensures.steps (record { least = rw i.2 (omega (arith, t.some, t.within)); whole = rw (i.2, i.3) t.within }) in
    let space = room _ _ _ _ c.requires.form c.put_line-to.ensures c.put_line-to.auto.out c.requires.form_in_bounds in
    put_then (first _ _ _ _ c.requires.form c.put_line-to.ensures) (printing_done i.4 (omega (arith, over)) space)
