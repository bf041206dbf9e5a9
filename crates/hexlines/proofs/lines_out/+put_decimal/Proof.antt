-- The proof of the cycle of calls {put_decimal}: the last digit stands behind those of a tenth. The measure is the number. Assumes nothing.
use mathlib.Core.Path.{refl, sym}
use Prim.Native.Nat.{ℕ, ◌/◌, ◌+◌, ◌<◌}
use native.Mathlib.Omega.{arith}
use borrow.Author.Rules.{rules}
use borrow.Fn.Kinds.{In}
use borrow.Fn.PlainCycle.{Measures, is, falls, and}
use lib.ListN.{length, length-set}
use Rattle.hexlines.specs.Lines.{decimal}
use Rattle.hexlines.proofs.Decimals.{decimal-last, decimal-more, tenth_short}
use Rattle.hexlines.proofs.Stores.{put_one, put_same, put_then}
use Rattle.hexlines.proofs.lines_out.put_decimal.Reads as put-decimal
use Rattle.hexlines.proofs.lines_out.put_decimal.Kinds as put-decimal-kinds
use Rattle.hexlines.proofs.lines_out.+put_decimal.Lts-put_decimal as put-decimal-lts
use Rattle.hexlines.proofs.lines_out.+put_decimal.{statement}
use Rattle.hexlines.proofs.lines_out.+put_decimal.Tie.{close}

abbrev μ-put-decimal : Measures 1 put-decimal-kinds.ps ℕ
μ-put-decimal κs a = a.1.1.0

-- what `put_decimal` is given at the measure t, and what a call of it asks below t
abbrev put-decimal-at : ℕ → In 1 put-decimal-kinds.ps
put-decimal-at t = and 1 put-decimal-kinds.ps (is 1 put-decimal-kinds.ps μ-put-decimal t) put-decimal.Pre

abbrev put-decimal-below : ℕ → In 1 put-decimal-kinds.ps
put-decimal-below t = and 1 put-decimal-kinds.ps (falls 1 put-decimal-kinds.ps ◌<◌ μ-put-decimal t) put-decimal.Pre

-- the digits of the tenth leave room for one more
short : (t : ℕ) (c : put-decimal-lts.After-put_decimal-to (put-decimal-below t, put-decimal.Post) (put-decimal-at t) put-decimal.Post) →
    length (decimal (c.args.n / 10)) < 20
short t c = tenth_short c.args.n c.ranges.n.fits c.if-n-lt10.false

returns : (t : ℕ) → put-decimal-lts.Need-returns-then-n-lt10 (put-decimal-below t, put-decimal.Post) (put-decimal-at t) put-decimal.Post
returns t c =
    let a = c.args in
    put_one a.out.now (decimal a.n) a.at (48 + a.n) (omega arith) (decimal-last a.n c.if-n-lt10.true)

returns-2 : (t : ℕ) → put-decimal-lts.Need-returns (put-decimal-below t, put-decimal.Post) (put-decimal-at t) put-decimal.Post
returns-2 t c =
    let put = c.before.before in
    put_same (sym (decimal-more c.args.n c.ranges.n.fits c.if-n-lt10.false))
    (put_then c.put_decimal-to.ensures (put_one _ _ _ _ (omega (arith, short t put)) refl))

pub +put_decimal_spec : {M : Type 1} → statement M
+put_decimal_spec = close μ-put-decimal λ t. put-decimal-lts.spec (
  put-decimal-below t,
  put-decimal.Post,
)
    (put-decimal-at t)
    put-decimal.Post
    (λ c. search rules)
    (λ c. search rules)
    (λ c. search rules)
    (λ c. search rules)
    (λ c. simp length-set)
    (returns t)
    (λ c κs. (omega arith, omega arith))
    (λ c. search rules)
    (λ c. search rules)
    (λ c. omega (arith, short t c.before.before))
    (λ c. omega (arith, short t c.before.before))
    (λ c. simp length-set c.put_decimal-to.auto.out)
    (returns-2 t)
