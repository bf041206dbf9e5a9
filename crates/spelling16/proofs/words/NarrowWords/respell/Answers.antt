-- A word taken once, or, where it is 8000, never.
use Rattle.std.proofs.Common.{◌≡◌, ℕ, ◌*◌, ◌≤◌, Bool, true, false, not, cond, eqb, arith}
use mir.Val.{bool_byte}
use Rattle.spelling16.proofs.words.NarrowWords.respell.Goals as goal

unless : (b : Bool) (w : ℕ) → w * bool_byte (not b) ≡ cond b 0 w
unless true w = omega arith
unless false w = omega arith

most : (b : Bool) (w : ℕ) → w * bool_byte b ≤ w
most true w = omega arith
most false w = omega arith

pub returns : goal.returns
returns c = unless (eqb c.args.word 32768) c.args.word

pub overflow_mul-result : goal.overflow_mul-result
overflow_mul-result c = omega (arith, most (not (eqb c.args.word 32768)) c.args.word, c.ranges.word.fits)
