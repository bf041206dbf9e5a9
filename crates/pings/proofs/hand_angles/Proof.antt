-- `pings::hand_angles` meets its contract: as many angles as the ping has samples, where there is room for them. Assumes nothing.
use mathlib.Core.Path.{◌≡◌}
use mathlib.Core.List.{List}
use Prim.Native.Nat.{ℕ, ◌≤◌}
use borrow.Author.Rules.{rules}
use lib.IntN.{ℤ}
use lib.ListN.{length}
use Rattle.layout.specs.Answer.{Answer}
use Rattle.layout.specs.Answer.{Refused}
use Rattle.samples.specs.Words.{Sample}
use Rattle.samples.specs.inner.Narrow.{AngleRoom}
use Rattle.pings.specs.inner.Handing.{HandedAngles}
use Rattle.pings.proofs.Handing.{lacking-numbers, lacking-alongship, lacking-athwartship, handed-angles}
use Rattle.pings.proofs.hand_angles.Statement.{statement}
use Rattle.pings.proofs.hand_angles.Tie as tie

abbrev start : tie.After-count_values-n → tie.Start
start n = n.before.before.before

returns : tie.Need-returns-then-numbers-n
returns c =
    let n = c.before.before in
    let a = (start n).args in
    rw c.refuse.ensures
    (lacking-numbers _ a.numbers.now a.alongship.now a.athwartship.now
    (rw (← n.count_values-n.ensures) c.if-numbers-n.true))

returns-2 : tie.Need-returns-then-alongship-n
returns-2 c =
    let n = c.before.before.before in
    let a = (start n).args in
    rw c.refuse-then-alongship-n.ensures
    (lacking-alongship _ a.numbers.now a.alongship.now a.athwartship.now
    (rw (← n.count_values-n.ensures) c.if-alongship-n.true))

-- a refusal, by the answer that was given
answered : {s : List Sample} {ns : List ℕ} {xs ys : List ℤ} {r : Answer} → r ≡ Refused 19 0 → HandedAngles s ns xs ys (Refused 19 0) ns xs ys
    → HandedAngles s ns xs ys r ns xs ys
answered e h = rw e h

-- no slice is short
room : {n : ℕ} (s : List Sample) (ns : List ℕ) (xs ys : List ℤ) → n ≡ length s → n ≤ length ns → n ≤ length xs → n ≤ length ys
    → AngleRoom s ns xs ys
room s ns xs ys e a b c = record { for_numbers = rw (← e) a; for_alongship = rw (← e) b; for_athwartship = rw (← e) c }

pub hand_angles_spec : {M : Type 1} → statement M
hand_angles_spec =
    tie.close
    (tie.spec
    (λ c κs. search rules)
    (λ c κs. search rules)
    returns
    (λ c κs. search rules)
    returns-2
    (λ c κs. search rules)
    (λ c. let a = c.args in
    answered (search rules)
    (lacking-athwartship _ a.numbers.now a.alongship.now a.athwartship.now
    (rw (← c.count_values-n.ensures) (search rules))))
    (λ c κs. let a = c.args in (
      c.requires.1,
      room _ a.numbers.now a.alongship.now a.athwartship.now c.count_values-n.ensures (search rules) (search rules) (search rules),
    ))
    (λ c κs. search rules)
    (λ c. search rules)
    (λ c. search rules)
    (λ c. search rules)
    (λ c. let a = c.args in
    let e = c.take_angles.ensures in
    rw (c.accept.ensures, c.count_values-n.ensures)
    (handed-angles _ a.numbers.now a.alongship.now a.athwartship.now
    (room _ a.numbers.now a.alongship.now a.athwartship.now c.count_values-n.ensures (search rules) (search rules) (search rules)) e.0
    e.1.0 e.1.1)))
