-- `hexlines::lines_in::decode_line` meets its contract: what is stored and the bytes of the digits that are left are the line's
-- bytes. Assumes nothing.
use Rattle.std.proofs.Common.{◌≡◌, ◌+◌, ◌*◌, ◌∷◌, ℕ, drop, ap, sym, ◌∙◌, arith}
use lib.Seq.{sets}
use Rattle.hexlines.specs.Lines.{bytes_in}
use Rattle.hexlines.proofs.Digits.{digits-pair, bytes_next, bytes-end}
use Rattle.hexlines.proofs.Stores.{store_one}
use Rattle.hexlines.proofs.lines_in.decode_line.Goals as goal

pub byte_of-requires-clause-high_value : goal.byte_of-requires-clause-high_value
byte_of-requires-clause-high_value c = (digits-pair c.args.line.now (2 * c.loop-i.i) (omega arith) c.loop-i.invariant.0).0

pub byte_of-requires-clause-low_value : goal.byte_of-requires-clause-low_value
byte_of-requires-clause-low_value c = (digits-pair c.args.line.now (2 * c.loop-i.i) (omega arith) c.loop-i.invariant.0).1.0

pub loop-i-preserved : goal.loop-i-preserved
loop-i-preserved c =
    let l = c.loop-i in
    let line = c.args.line.now in
    let b = c.byte_of.result in
    let next : bytes_in (drop (2 * l.i) line) ≡ b ∷ bytes_in (drop (2 * l.i + 2) line) =
    bytes_next line (2 * l.i) (omega arith) ∙ ap (λ (b : ℕ). b ∷ bytes_in (drop (2 * l.i + 2) line)) (sym c.byte_of.ensures) in
    let two : 2 * (l.i + 1) ≡ 2 * l.i + 2 = omega arith in
    let one : c.args.at + (l.i + 1) ≡ c.args.at + l.i + 1 = omega arith in (
      rw two (digits-pair line (2 * l.i) (omega arith) l.invariant.0).1.1,
      rw (two, one) (store_one l.bytes _ _ (c.args.at + l.i) b next ∙ l.invariant.1),
    )

pub returns : goal.returns
returns c =
    let l = c.loop-i in
    ap (sets l.bytes (c.args.at + l.i)) (sym (bytes-end c.args.line.now (2 * l.i) (omega arith))) ∙ l.invariant.1
