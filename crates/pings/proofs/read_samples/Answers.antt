-- `pings::read_samples` meets its contract: the refusal of what opens the ping, or its samples. Assumes nothing.
use Rattle.std.proofs.Common.{◌≡◌, ◌+◌, ◌≤◌, ℕ, List, length, arith, true, Result, Ok}
use Rattle.std.proofs.lemmas.Result.{err_from_is_err_and}
use Rattle.layout.specs.declared.Refusal.{Refusal}
use Rattle.layout.specs.Types.{is_ping}
use Rattle.tuples.specs.declared.Opened.{Opened}
use Rattle.tuples.specs.Readers.{is_valued}
use Rattle.tuples.specs.inner.Opening.{Readable, OpenedAs}
use Rattle.tuples.proofs.Codes.{holder_ping}
use Rattle.pings.proofs.Reading.{refused, read, whole-there, samples-there, width-there, part_sound}
use Rattle.pings.proofs.read_samples.Goals as goal

-- the ping that was opened: a listed one, long enough for a sample, in the file
module _ (f : List ℕ) (p : ℕ) (r : Result Opened Refusal) (g : OpenedAs is_valued f p r) {t : Opened} (e : r ≡ Ok t) where
  opened : Readable is_valued f p t.msb t.whole t.code
  opened = rw e at g

  listed : is_ping t.code ≡ true
  listed = holder_ping 1 _ opened.asks

  room : (36 ≤ t.whole) × (t.whole ≤ 262144) × (p + t.whole ≤ length f)
  room = whole-there opened listed

pub returns-in_err-found : goal.returns-in_err-found
returns-in_err-found c =
    let p = err_from_is_err_and c.from_residual.result c.from_residual.ensures.1 in
    rw (p.1, p.2) (refused _ _ _ _ (rw c.in_err-found.was at c.open_valued.ensures))

pub overflow_add-part : goal.overflow_add-part
overflow_add-part c = let r = room c.args.file.now c.args.place _ c.open_valued.ensures c.in_ok-found.was in omega (arith, r)

pub overflow_add-part-2 : goal.overflow_add-part-2
overflow_add-part-2 c = let r = room c.args.file.now c.args.place _ c.open_valued.ensures c.in_ok-found.was in omega (arith, r)

pub overflow_sub-part : goal.overflow_sub-part
overflow_sub-part c = let r = room c.args.file.now c.args.place _ c.open_valued.ensures c.in_ok-found.was in omega (arith, r)

pub slice_bounds-part-count : goal.slice_bounds-part-count
slice_bounds-part-count c = let r = room c.args.file.now c.args.place _ c.open_valued.ensures c.in_ok-found.was in omega (arith, r)

pub slice_bounds-part-start : goal.slice_bounds-part-start
slice_bounds-part-start c = let r = room c.args.file.now c.args.place _ c.open_valued.ensures c.in_ok-found.was in omega (arith, r)

pub slice_bounds-part-end : goal.slice_bounds-part-end
slice_bounds-part-end c = let r = room c.args.file.now c.args.place _ c.open_valued.ensures c.in_ok-found.was in omega (arith, r)

pub hand_samples-requires-clause-sound_part : goal.hand_samples-requires-clause-sound_part
hand_samples-requires-clause-sound_part c =
    part_sound (opened c.args.file.now c.args.place _ c.open_valued.ensures c.in_ok-found.was) (listed c.args.file.now c.args.place _ c.open_valued.ensures c.in_ok-found.was)

pub returns : goal.returns
returns c =
    let s = opened c.args.file.now c.args.place _ c.open_valued.ensures c.in_ok-found.was in
    let l = listed c.args.file.now c.args.place _ c.open_valued.ensures c.in_ok-found.was in
    read _ _ s.answer (width-there s l) (samples-there s l) c.hand_samples.ensures
