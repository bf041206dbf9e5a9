-- `normal::write_piece` meets its contract: the form, and the index before an end of file's. Assumes nothing.
use Rattle.std.proofs.Common.{◌≡◌, ℕ, sym, ap, ◌∙◌, ◌+◌, ◌*◌, ◌%◌, Bool, false, List, ◌++◌, length, drop, length-append, arith}
use lib.Seq.{sets}
use Rattle.order.proofs.Laws.{bytes_of_lem}
use Rattle.order.proofs.Stores.{stored-behind}
use Rattle.frame.specs.Frames.{tup_at}
use Rattle.frame.proofs.Frames.{length-frame}
use Rattle.content.specs.Forms.{form_bytes}
use Rattle.index.specs.Index.{index_tuple}
use Rattle.index.specs.inner.Flags.{flagged_types}
use Rattle.index.proofs.Fresh.{length-index}
use Rattle.index.proofs.Writes.{few-flagged}
use Rattle.ping_forms.proofs.Placed.{most, at-most-twice}
use Rattle.intake.specs.inner.Sound.{SoundHere}
use Rattle.normal.specs.inner.Passes.{piece, index_bytes}
use Rattle.normal.proofs.Writing.{piece-end}
use Rattle.normal.proofs.write_piece.Goals as goal

-- before an end of file, which stands here, stands the index
module _ (gs f : List ℕ) (o : Bool) (at n k : ℕ) (s : SoundHere o f at n k) (e : k ≡ 65534) where
  both : piece (index_bytes gs) o (tup_at o (drop at f)) ≡ index_bytes gs ++ form_bytes o (tup_at o (drop at f))
  both = piece-end s (index_bytes gs) e

  long : length (piece (index_bytes gs) o (tup_at o (drop at f))) ≡ length (index_bytes gs) + length (form_bytes o (tup_at o (drop at f)))
  long = ap length both ∙ length-append (index_bytes gs) (form_bytes o (tup_at o (drop at f)))

-- it is measured by how many types are flagged
measured : (gs : List ℕ) (n m : ℕ) → n ≡ length (flagged_types gs) → m ≡ 20 + 2 * (n + n % 2) → m ≡ length (index_bytes gs)
measured gs n m a b =
    b
    ∙ ap (λ (k : ℕ). 20 + 2 * (k + k % 2)) a
    ∙ sym (length-frame false (index_tuple false (flagged_types gs)) ∙ length-index false (flagged_types gs))

pub write_index-requires : goal.write_index-requires
write_index-requires c =
    let a = c.args in
    omega (
      arith,
      c.requires.file_in_bounds,
      long a.flags.now _ _ _ _ _ c.requires.sound_here c.if-code.false,
      length-frame false (index_tuple false (flagged_types a.flags.now)),
    )

pub index_length-n-requires : goal.index_length-n-requires
index_length-n-requires c = omega (arith, c.count_types.ensures, few-flagged c.args.flags.now)

pub overflow_add-to : goal.overflow_add-to
overflow_add-to c =
    let gs = c.args.flags.now in
    omega (
      arith,
      c.requires.file_in_bounds,
      long gs _ _ _ _ _ c.requires.sound_here c.if-code.false,
      measured gs _ _ c.count_types.ensures c.index_length-n.ensures,
    )

pub write_form-requires-2-clause-file_in_bounds : goal.write_form-requires-2-clause-file_in_bounds
write_form-requires-2-clause-file_in_bounds c =
    let gs = c.args.flags.now in
    omega (
      arith,
      c.requires.file_in_bounds,
      long gs _ _ _ _ _ c.requires.sound_here c.if-code.false,
      measured gs _ _ c.count_types.ensures c.index_length-n.ensures,
      c.write_index.auto.out,
    )

pub overflow_add-result : goal.overflow_add-result
overflow_add-result c =
    let gs = c.args.flags.now in
    let s = c.requires.sound_here in
    omega (
      arith,
      c.count_types.ensures,
      c.index_length-n.ensures,
      few-flagged gs,
      c.write_form-2.ensures.value,
      at-most-twice s (bytes_of_lem _ (λ i. (c.type_inv.file i).fits)),
      (most s).1,
    )

pub returns-clause-value : goal.returns-clause-value
returns-clause-value c =
    let gs = c.args.flags.now in
    omega (
      arith,
      long gs _ _ _ _ _ c.requires.sound_here c.if-code.false,
      measured gs _ _ c.count_types.ensures c.index_length-n.ensures,
      c.write_form-2.ensures.value,
    )

pub returns-clause-out_after : goal.returns-clause-out_after
returns-clause-out_after c =
    let a = c.args in
    let gs = a.flags.now in
    let n = c.index_length-n.result in
    let form = form_bytes a.msb (tup_at a.msb (drop a.tuple.at a.file.now)) in
    let size = measured gs _ _ c.count_types.ensures c.index_length-n.ensures in
    c.write_form-2.ensures.out_after
    ∙ ap (λ (l : List ℕ). sets l (a.to + n) form) c.write_index.ensures
    ∙ stored-behind (index_bytes gs) form a.out.now a.to (a.to + n) (ap (λ (k : ℕ). a.to + k) size)
    ∙ ap (sets a.out.now a.to) (sym (both gs _ _ _ _ _ c.requires.sound_here c.if-code.false))
