-- `ping_writers::judging::judge_plain` meets its contract: the first rule that is broken, or the ping's size. Assumes nothing.
use mathlib.Core.Path.{ap, ◌≡◌, ◌∙◌}
use Prim.Native.Nat.{◌+◌, ◌*◌, ◌%◌, ◌≤◌}
use native.Mathlib.Omega.{arith}
use borrow.Author.Rules.{rules}
use borrow.Author.Tests.{lt-ltb, le-ltb, eq-eqb, ne_eqb}
use Rattle.layout.specs.declared.codes.Code.TheVariants.{NoSamples}
use Rattle.layout.proofs.Views.{refused-as}
use Rattle.layout.specs.Views.{as_answer}
use Rattle.rules.specs.Rules.First.{none, here, pass}
use Rattle.layout.specs.Answer.{Refused}
use Rattle.ping_writers.specs.inner.Judged.{plain_size, plain_answer}
use Rattle.ping_writers.proofs.Plain.{plain-said, bytes-few}
use Rattle.ping_writers.proofs.judging.judge_plain.Statement.{statement}
use Rattle.ping_writers.proofs.judging.judge_plain.Tie as tie

returns : tie.Need-returns-then-not-equal
returns c =
    let a = c.args in
    ap as_answer c.refuse.ensures ∙ plain-said a.equal a.n a.first a.sample a.room (here c.if-not-equal.true-raw)

returns-2 : tie.Need-returns-then-n-gt-MOST
returns-2 c =
    let equal = c.before.before in
    let a = equal.args in
    ap as_answer c.refuse-then-n-gt-MOST.ensures
    ∙ plain-said a.equal a.n a.first a.sample a.room
    (pass equal.if-not-equal.false-raw (here (lt-ltb 32764 a.n c.if-n-gt-MOST.true)))

returns-4 : tie.Need-returns-then-first-n
returns-4 c =
    let some = c.before.before in
    let few = some.before in
    let equal = few.before in
    let a = equal.args in
    ap as_answer c.refuse-then-first-n.ensures
    ∙ plain-said a.equal a.n a.first a.sample a.room
    (pass equal.if-not-equal.false-raw (pass (le-ltb 32764 a.n few.if-n-gt-MOST.false)
    (pass (ne_eqb a.n 0 (search rules)) (here (lt-ltb a.first a.n c.if-first-n.true)))))

-- the samples' bytes are few
small : (c : tie.Else-first-n) → let a = c.args in a.n * a.sample ≤ 262112
small c =
    let start = c.before.before.before.before in
    bytes-few start.args.n start.args.sample c.if-n-gt-MOST.false start.requires

mul-bytes : tie.Need-overflow_mul-bytes
mul-bytes c = omega (arith, small c)

add-whole : tie.Need-overflow_add-whole
add-whole c = omega (arith, small c)

add-whole-2 : tie.Need-overflow_add-whole-2
add-whole-2 c = omega (arith, small c)

add-whole-3 : tie.Need-overflow_add-whole-3
add-whole-3 c = omega (arith, small c)

-- the code's sum
size : (c : tie.Else-first-n) → let a = c.args in
    24 + a.n * a.sample + a.n * a.sample % 4 + 8 ≡ plain_size a.sample a.n
size c = omega arith

returns-5 : tie.Need-returns-then-room-whole
returns-5 c =
    let rise = c.before.before in
    let some = rise.before in
    let few = some.before in
    let equal = few.before in
    let a = equal.args in
    ap as_answer c.refuse-then-room-whole.ensures
    ∙ plain-said a.equal a.n a.first a.sample a.room
    (pass equal.if-not-equal.false-raw (pass (le-ltb 32764 a.n few.if-n-gt-MOST.false)
    (pass (ne_eqb a.n 0 (search rules)) (pass (le-ltb a.first a.n rise.if-first-n.false)
    (here (lt-ltb a.room (plain_size a.sample a.n) (omega (arith, c.if-room-whole.true, size rise))))))))

returns-6 : tie.Need-returns
returns-6 c =
    let fits = c.before in
    let rise = fits.before in
    let some = rise.before in
    let few = some.before in
    let equal = few.before in
    let a = equal.args in
    rw (c.accept.ensures, size rise)
    (plain-said a.equal a.n a.first a.sample a.room
    (pass equal.if-not-equal.false-raw (pass (le-ltb 32764 a.n few.if-n-gt-MOST.false)
    (pass (ne_eqb a.n 0 (search rules)) (pass (le-ltb a.first a.n rise.if-first-n.false)
    (pass (le-ltb a.room (plain_size a.sample a.n) (omega (arith, fits.if-room-whole.false, size rise))) none))))))

pub judge_plain_spec : {M : Type 1} → statement M
judge_plain_spec =
    tie.close
    (tie.spec
    (λ c κs. search rules)
    returns
    (λ c κs. search rules)
    returns-2
    (λ c κs. search rules)
    (λ c. let a = c.args in
    let said : Refused 22 0 ≡ plain_answer a.equal a.n a.first a.sample a.room =
    plain-said a.equal a.n a.first a.sample a.room
    (pass c.if-not-equal.false-raw (pass (le-ltb 32764 a.n c.if-n-gt-MOST.false) (here (eq-eqb a.n 0 (search rules))))) in
    refused-as {k = NoSamples} {p = 0} _ said (search rules))
    (λ c κs. search rules)
    returns-4
    mul-bytes
    add-whole
    add-whole-2
    add-whole-3
    (λ c κs. search rules)
    returns-5
    (λ c κs. search rules)
    returns-6)
