-- `ping_forms::narrow::put_space` meets its contract: none, or two bytes of 0. Assumes nothing.
use mathlib.Core.Path.{◌≡◌, sym, ap, ◌∙◌}
use Prim.Native.Nat.{ℕ, ◌%◌}
use native.Mathlib.Omega.{arith}
use borrow.Author.Rules.{rules}
use lib.ListN.{replicate}
use lib.Seq.{sets}
use Rattle.ping_forms.proofs.narrow.put_space.Statement.{statement}
use Rattle.ping_forms.proofs.narrow.put_space.Tie as tie

-- what is left of an even number
past : (n : ℕ) → n % 2 ≡ 0 → (n % 4 ≡ 0 → ⊥) → n % 4 ≡ 2
past n e h = omega (arith, h)

returns : tie.Need-returns-then-bytes-eq0
returns c =
    let a = c.args in
    let e = c.if-bytes-eq0.true in
    (omega (arith, e), ap (λ (i : ℕ). sets a.out.now a.at (replicate i 0)) (sym e))

returns-2 : tie.Need-returns
returns-2 c =
    let store = c.before.before in
    let rest = store.before.before in
    let s = rest.before.before in
    let a = s.args in
    let two = past a.bytes s.requires.1 rest.if-bytes-eq0.false in
    (omega (arith, two), store.store2.ensures ∙ ap (λ (i : ℕ). sets a.out.now a.at (replicate i 0)) (sym two))

pub put_space_spec : {M : Type 1} → statement M
put_space_spec =
    tie.close
    (tie.spec
    returns
    (λ c κs. let rest = c.before in let s = rest.before.before in
    omega (arith, past s.args.bytes s.requires.1 rest.if-bytes-eq0.false, s.requires.0))
    (λ c. search rules)
    (λ c. search rules)
    returns-2)
