-- `edits::find_place` meets its contract: tuple by tuple, until the place isn't behind. Assumes nothing.
use Rattle.std.proofs.Common.{◌≡◌, ℕ, ◌+◌, ◌<◌, ◌≤◌, ap, subst, ◌∙◌, Bool, List, length, drop, arith}
use Rattle.order.specs.Order.{Bytes}
use Rattle.order.proofs.Laws.{bytes_of_lem}
use Rattle.frame.specs.Frames.{len_at}
use Rattle.frame.specs.Files.{is_msb}
use Rattle.frame.proofs.Onward.{passes-below, passes-whole, passes-next, passes-file, passes-msb}
use Rattle.layout.specs.declared.Counts.{Counts}
use Rattle.edits.specs.inner.Places.{Between, Taken, Sought}
use Rattle.edits.proofs.Ends.{taken_4}
use Rattle.edits.proofs.Places.{between-begin, next-size, next-within, next-long, between_next}
use Rattle.edits.proofs.find_place.Goals as goal

-- a tuple stands before the file's end, where the walk is between tuples
record Here (f : List ℕ) (o : Bool) (p at : ℕ) : Type 0 where
  pub least : at + 16 ≤ length f
  pub whole : at + len_at o (drop at f) ≤ length f
  pub again : (at ≡ p → ⊥) → (m : ℕ) → m ≡ len_at o (drop at f) → Between f p (at + m)

stands : (f : List ℕ) (b : Bytes f) (n : Counts) (k : Taken f n) (o : Bool) → o ≡ is_msb f → (p at : ℕ) (g : Between f p at) → at < length f
    → Here f o p at
stands f b n k o eo p at g h =
    let size = ap (λ (x : Bool). len_at x (drop at f)) eo ∙ next-size f b n k p at g h in
    let within = next-within f b n k p at g h in
    record {
      least = omega (arith, within, next-long f b n k p at g h);
      whole = omega (arith, within, size);
      again = λ ne m e. between_next f b n k p at g h ne m (e ∙ size);
    }

pub is_msb-msb-requires : goal.is_msb-msb-requires
is_msb-msb-requires c = taken_4 _ (bytes_of_lem _ (λ i. (c.type_inv.file i).fits)) _ c.requires.answer

pub loop-tuple-init : goal.loop-tuple-init
loop-tuple-init c =
    let i = c.into_iter-tuple-iterator.ensures.into_iter_gives in
    let b = c.behind_mark-tuple-items.ensures in
    let bytes = bytes_of_lem c.args.file.now (λ i. (c.type_inv.file i).fits) in
    rw i (
      tt,
      tt,
      b.from.0,
      b.order,
      rw b.from.1 (taken_4 _ bytes _ c.requires.answer),
      rw b.from.1 (between-begin c.args.file.now bytes _ c.requires.answer c.args.place),
    )

pub returns-then-place-tuple : goal.returns-then-place-tuple
returns-then-place-tuple c =
    let i = c.loop-tuple.invariant in
    let p = c.in-Some.ensures.steps in
    let h = c.if-place-tuple.true in
    rw p.at (record { between = i.5; within = i.4; reached = λ _. omega (arith, h, p.at) })

pub loop-tuple-preserved : goal.loop-tuple-preserved
loop-tuple-preserved c =
    let i = c.loop-tuple.invariant in
    let p = c.in-Some.ensures.steps in
    let bytes = bytes_of_lem c.args.file.now (λ i. (c.type_inv.file i).fits) in
    let h = passes-below _ _ _ p _ _ i.2 i.3 in
    let w = passes-whole _ _ _ p _ _ i.2 i.3 in
    let t = stands c.args.file.now bytes _ c.requires.answer _ c.is_msb-msb.ensures _ _ i.5 h in (
      tt,
      tt,
      passes-file _ _ _ p _ _ i.2 i.3,
      passes-msb _ _ _ p _ _ i.2 i.3,
      rw (passes-next _ _ _ p _ _ i.2 i.3) (omega (arith, t.whole, w)),
      rw (passes-next _ _ _ p _ _ i.2 i.3) (t.again (λ e. omega (arith, e, p.at, c.if-place-tuple.false)) _ w),
    )

pub returns : goal.returns
returns c =
    let i = c.loop-tuple.invariant in
    let s = c.loop-tuple.tuple-iterator in
    let bytes = bytes_of_lem c.args.file.now (λ i. (c.type_inv.file i).fits) in
    let over : s.at < length c.args.file.now → ⊥ = λ h.
    let t = stands c.args.file.now bytes _ c.requires.answer _ c.is_msb-msb.ensures _ _ i.5 h in
    c.in-None.ensures.steps (record { least = rw i.2 t.least; whole = rw (i.2, i.3) t.whole }) in
    let end : s.at ≡ length c.args.file.now = omega (arith, over, i.4) in
    subst (Sought c.args.file.now c.args.place) end (record { between = i.5; within = i.4; reached = λ h. absurd (over h) })
