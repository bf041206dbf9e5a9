-- The iterator over a part's judged tuples meets its contract: a tuple that the frame's rules let stand is whole. Assumes nothing.
use Rattle.std.proofs.Common.{◌≡◌, ℕ, ◌+◌, ◌≤◌, sym, ◌∙◌, Bool, true, List, length, drop, rules, arith}
use Rattle.layout.proofs.Verdicts.{fine-is}
use Rattle.frame.specs.Frames.{len_at}
use Rattle.frame.proofs.Places.{Whole, framing-whole}
use Rattle.edits.specs.inner.Parts.{is_tuple}
use Rattle.edits.proofs.judged.JudgedIterator.next.Goals as goal

-- the tuple that stands
there : (o : Bool) (f : List ℕ) (at : ℕ) (b : Bool) → b ≡ is_tuple o (drop at f) → b ≡ true → Whole o f at (len_at o (drop at f))
there o f at b e h = framing-whole o f at (fine-is _ (sym e ∙ h))

pub length_at-whole-requires : goal.length_at-whole-requires
length_at-whole-requires c =
    let s = c.args.self.now in
    let w = there s.msb s.part.now s.at _ c.is_tuple.ensures c.if-not-is_tuple.false in
    omega (arith, w.long, w.fits)

pub kind_at-code-requires : goal.kind_at-code-requires
kind_at-code-requires c =
    let s = c.args.self.now in
    let w = there s.msb s.part.now s.at _ c.is_tuple.ensures c.if-not-is_tuple.false in
    omega (arith, w.long, w.fits)

pub overflow_add-self : goal.overflow_add-self
overflow_add-self c =
    let s = c.args.self.now in
    let w = there s.msb s.part.now s.at _ c.is_tuple.ensures c.if-not-is_tuple.false in
    omega (arith, w.fits, c.length_at-whole.ensures)

pub returns-clause-goes : goal.returns-clause-goes
returns-clause-goes c =
    let s = c.args.self.now in
    let w = there s.msb s.part.now s.at _ c.is_tuple.ensures c.if-not-is_tuple.false in
    let within : s.at + c.length_at-whole.result ≤ length s.part.now = omega (arith, w.fits, c.length_at-whole.ensures) in
    record { on = λ _. (within, search rules, omega (arith, within, w.long, c.length_at-whole.ensures)); keeps = within; rests = λ _. search rules }
