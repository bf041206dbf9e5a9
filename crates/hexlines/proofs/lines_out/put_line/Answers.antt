-- `hexlines::lines_out::put_line` meets its contract: what is stored and the line of the bytes that are left are the whole line.
-- Assumes nothing.
use Rattle.std.proofs.Common.{◌≡◌, length, ◌+◌, ◌*◌, [], ◌∷◌, ℕ, drop, ap, sym, ◌∙◌, arith, length-append, length-set}
use Rattle.std.proofs.Math.Path.{ap₂}
use Rattle.hexlines.specs.Lines.{hex, line}
use Rattle.hexlines.proofs.Digits.{hex-next, hex-end, length-hex}
use Rattle.hexlines.proofs.Stores.{store_one, store_two}
use Rattle.hexlines.proofs.lines_out.put_line.Goals as goal

pub loop-i-preserved : goal.loop-i-preserved
loop-i-preserved c =
    let l = c.loop-i in
    let a = c.args in
    let bytes = a.bytes.now in
    let next : hex (drop l.i bytes) ≡ c.hex_digit.result ∷ c.hex_digit-in-loop-i.result ∷ hex (drop (l.i + 1) bytes) =
    hex-next bytes l.i c.loop-i-test.true
    ∙ sym (ap₂ (λ (v w : ℕ). v ∷ w ∷ hex (drop (l.i + 1) bytes)) c.hex_digit.ensures c.hex_digit-in-loop-i.ensures) in
    let z : a.at + 2 * (l.i + 1) ≡ a.at + 2 * l.i + 2 = omega arith in
    rw z (store_two l.out _ _ (a.at + 2 * l.i) _ _ (ap line next) ∙ l.invariant)

pub returns : goal.returns
returns c =
    let l = c.loop-i in
    let bytes = c.args.bytes.now in
    let e : l.i ≡ length bytes = omega arith in
    record {
      behind = omega (arith, length-hex bytes, length-append (hex bytes) (10 ∷ []));
      within = simp length-set (omega arith);
      memory = rw (← e) (store_one l.out _ [] (c.args.at + 2 * l.i) 10 (ap line (hex-end bytes l.i (omega arith))) ∙ l.invariant);
    }
