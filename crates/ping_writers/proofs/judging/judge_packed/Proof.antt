-- `ping_writers::judging::judge_packed` meets its contract: the first rule that is broken, or the ping's size. Assumes nothing.
use mathlib.Core.Path.{◌≡◌, sym, ap, ◌∙◌}
use mathlib.Core.Bool.{false, not, ◌&&◌}
use native.Mathlib.Omega.{arith}
use borrow.Author.Rules.{rules}
use borrow.Author.Tests.{lt-ltb, le-ltb, eq-eqb, ne_eqb}
use lib.Dec.{ltb, eqb}
use lib.ListN.{length}
use Rattle.layout.specs.declared.codes.Code.TheVariants.{NoWord}
use Rattle.layout.proofs.Views.{refused-as}
use Rattle.rules.specs.Rules.First.{none, here, pass}
use Rattle.layout.specs.Answer.{Refused}
use Rattle.samples.specs.inner.Lists.{numbered}
use Rattle.samples.specs.Runs.{quiet}
use Rattle.samples.specs.Judging.{first_drop, too_short}
use Rattle.samples.proofs.Apart.{length-numbered}
use Rattle.samples.proofs.Rising.{drop-most}
use Rattle.content.specs.Forms.{has_length}
use Rattle.pings.specs.Headers.{handed_length}
use Rattle.ping_writers.specs.inner.Judged.{width_by, radix_by, packed_size, packed_answer}
use Rattle.ping_writers.proofs.Packed.{packed_said}
use Rattle.ping_writers.proofs.judging.judge_packed.Statement.{statement}
use Rattle.ping_writers.proofs.judging.judge_packed.Tie as tie

returns : tie.Need-returns-then-n-values
returns c =
    let a = c.args in
    rw (c.refuse.ensures, c.min.ensures)
    (packed_said (width_by a.wide) (radix_by a.wide) a.numbers.now a.values a.wordless (handed_length a.length) a.room
    (here (ap not (ne_eqb (length a.numbers.now) a.values c.if-n-values.true))))

-- each rule that is passed
equal_by : (c : tie.Else-n-values) → let a = c.args in not (eqb (length a.numbers.now) a.values) ≡ false
equal_by c = let a = c.args in ap not (eq-eqb (length a.numbers.now) a.values c.if-n-values.false)

few-by : (c : tie.Else-values-gt-MOST) → let a = c.args in ltb 32764 (length a.numbers.now) ≡ false
few-by c =
    let a = c.args in
    le-ltb 32764 (length a.numbers.now) (omega (arith, c.if-values-gt-MOST.false, c.if-n-values.false))

some-by : (c : tie.Else-is_empty) → let a = c.args in
    (eqb (length a.numbers.now) 0 && not (has_length (handed_length a.length))) ≡ false
some-by c = sym c.is_empty.ensures ∙ c.if-is_empty.false

rising-by : (c : tie.Else-first-n) → let a = c.args in
    ltb (first_drop 0 (numbered a.numbers.now)) (length a.numbers.now) ≡ false
rising-by c =
    let ns = c.args.numbers.now in
    le-ltb (first_drop 0 (numbered ns)) (length ns) (omega (arith, c.first_drop-first.ensures, c.if-first-n.false))

long-by : (c : tie.Else-is_short) → let a = c.args in
    too_short (numbered a.numbers.now) (handed_length a.length) ≡ false
long-by c = sym c.is_short.ensures ∙ c.if-is_short.false

returns-2 : tie.Need-returns-then-values-gt-MOST
returns-2 c =
    let equal = c.before.before in
    let a = equal.args in
    rw c.refuse-then-values-gt-MOST.ensures
    (packed_said (width_by a.wide) (radix_by a.wide) a.numbers.now a.values a.wordless (handed_length a.length) a.room
    (pass (equal_by equal) (here (lt-ltb 32764 (length a.numbers.now) (omega (arith, c.if-values-gt-MOST.true, equal.if-n-values.false))))))

returns-3 : tie.Need-returns-then-is_empty
returns-3 c =
    let asked = c.before.before in
    let few = asked.before in
    let equal = few.before in
    let a = equal.args in
    rw c.refuse-then-is_empty.ensures
    (packed_said (width_by a.wide) (radix_by a.wide) a.numbers.now a.values a.wordless (handed_length a.length) a.room
    (pass (equal_by equal) (pass (few-by few) (here (sym asked.is_empty.ensures ∙ c.if-is_empty.true)))))

returns-4 : tie.Need-returns-then-first-n
returns-4 c =
    let first = c.before.before in
    let some = first.before in
    let few = some.before.before in
    let equal = few.before in
    let a = equal.args in
    let ns = a.numbers.now in
    rw (c.refuse-then-first-n.ensures, first.first_drop-first.ensures)
    (packed_said (width_by a.wide) (radix_by a.wide) ns a.values a.wordless (handed_length a.length) a.room
    (pass (equal_by equal) (pass (few-by few) (pass (some-by some)
    (here (lt-ltb (first_drop 0 (numbered ns)) (length ns) (omega (arith, first.first_drop-first.ensures, c.if-first-n.true))))))))

returns-6 : tie.Need-returns-then-is_short
returns-6 c =
    let tested = c.before.before in
    let worded = tested.before in
    let rise = worded.before in
    let some = rise.before.before in
    let few = some.before.before in
    let equal = few.before in
    let a = equal.args in
    rw c.refuse-then-is_short.ensures
    (packed_said (width_by a.wide) (radix_by a.wide) a.numbers.now a.values a.wordless (handed_length a.length) a.room
    (pass (equal_by equal) (pass (few-by few) (pass (some-by some) (pass (rising-by rise)
    (pass (le-ltb a.wordless (length a.numbers.now) (search rules))
    (here (sym tested.is_short.ensures ∙ c.if-is_short.true))))))))

quiet-behind-requires : tie.Need-quiet_behind-requires
quiet-behind-requires c κs = long-by c

count-bytes-requires : tie.Need-count_bytes-whole-requires
count-bytes-requires c κs =
    let rise = c.before.before.before.before in
    let ns = rise.args.numbers.now in (
      omega (arith, rise.first_drop-first.ensures, rise.if-first-n.false, drop-most (numbered ns) 0, length-numbered ns),
      c.quiet_behind.ensures.1,
    )

-- the bytes counted
size : (c : tie.After-count_bytes-whole) →
    let a = c.args in
    c.count_bytes-whole.result
    ≡ packed_size (width_by a.wide) (radix_by a.wide) a.numbers.now (quiet (numbered a.numbers.now) (handed_length a.length))
size c =
    let a = c.args in
    c.count_bytes-whole.ensures
    ∙ ap (packed_size (width_by a.wide) (radix_by a.wide) a.numbers.now) c.quiet_behind.ensures.0

returns-7 : tie.Need-returns-then-whole-gt-MOST
returns-7 c =
    let count = c.before.before in
    let long = count.before.before in
    let worded = long.before.before in
    let rise = worded.before in
    let some = rise.before.before in
    let few = some.before.before in
    let equal = few.before in
    let a = equal.args in
    rw c.refuse-then-whole-gt-MOST.ensures
    (packed_said (width_by a.wide) (radix_by a.wide) a.numbers.now a.values a.wordless (handed_length a.length) a.room
    (pass (equal_by equal) (pass (few-by few) (pass (some-by some) (pass (rising-by rise)
    (pass (le-ltb a.wordless (length a.numbers.now) (search rules)) (pass (long-by long)
    (here (ap (ltb 262144) (sym (size count)) ∙ lt-ltb 262144 count.count_bytes-whole.result c.if-whole-gt-MOST.true)))))))))

returns-8 : tie.Need-returns-then-room-whole
returns-8 c =
    let short = c.before.before in
    let count = short.before in
    let long = count.before.before in
    let worded = long.before.before in
    let rise = worded.before in
    let some = rise.before.before in
    let few = some.before.before in
    let equal = few.before in
    let a = equal.args in
    rw c.refuse-then-room-whole.ensures
    (packed_said (width_by a.wide) (radix_by a.wide) a.numbers.now a.values a.wordless (handed_length a.length) a.room
    (pass (equal_by equal) (pass (few-by few) (pass (some-by some) (pass (rising-by rise)
    (pass (le-ltb a.wordless (length a.numbers.now) (search rules)) (pass (long-by long)
    (pass (ap (ltb 262144) (sym (size count)) ∙ le-ltb 262144 count.count_bytes-whole.result short.if-whole-gt-MOST.false)
    (here (ap (ltb a.room) (sym (size count)) ∙ lt-ltb a.room count.count_bytes-whole.result c.if-room-whole.true))))))))))

returns-9 : tie.Need-returns
returns-9 c =
    let fits = c.before in
    let short = fits.before in
    let count = short.before in
    let long = count.before.before in
    let worded = long.before.before in
    let rise = worded.before in
    let some = rise.before.before in
    let few = some.before.before in
    let equal = few.before in
    let a = equal.args in
    rw (c.accept.ensures, size count)
    (packed_said (width_by a.wide) (radix_by a.wide) a.numbers.now a.values a.wordless (handed_length a.length) a.room
    (pass (equal_by equal) (pass (few-by few) (pass (some-by some) (pass (rising-by rise)
    (pass (le-ltb a.wordless (length a.numbers.now) (search rules)) (pass (long-by long)
    (pass (ap (ltb 262144) (sym (size count)) ∙ le-ltb 262144 count.count_bytes-whole.result short.if-whole-gt-MOST.false)
    (pass (ap (ltb a.room) (sym (size count)) ∙ le-ltb a.room count.count_bytes-whole.result fits.if-room-whole.false) none)))))))))

pub judge_packed_spec : {M : Type 1} → statement M
judge_packed_spec =
    tie.close
    (tie.spec
    (λ c κs. search rules)
    (λ c κs. search rules)
    returns
    (λ c κs. search rules)
    returns-2
    (λ c κs. search rules)
    (λ c κs. search rules)
    returns-3
    (λ c κs. search rules)
    (λ c κs. search rules)
    returns-4
    (λ c κs. search rules)
    (λ c. let rise = c.before.before in
    let some = rise.before.before in
    let few = some.before.before in
    let equal = few.before in
    let a = equal.args in
    let said : Refused 21 a.wordless
    ≡ packed_answer (width_by a.wide) (radix_by a.wide) a.numbers.now a.values a.wordless (handed_length a.length) a.room =
    packed_said (width_by a.wide) (radix_by a.wide) a.numbers.now a.values a.wordless (handed_length a.length) a.room
    (pass (equal_by equal) (pass (few-by few) (pass (some-by some) (pass (rising-by rise)
    (here (lt-ltb a.wordless (length a.numbers.now) (search rules))))))) in
    refused-as {k = NoWord} {p = a.wordless} _ said (search rules))
    (λ c κs. search rules)
    (λ c κs. search rules)
    returns-6
    quiet-behind-requires
    count-bytes-requires
    (λ c κs. search rules)
    returns-7
    (λ c κs. search rules)
    returns-8
    (λ c κs. search rules)
    returns-9)
