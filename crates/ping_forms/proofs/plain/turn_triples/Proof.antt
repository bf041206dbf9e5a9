-- `ping_forms::plain::turn_triples` meets its contract: whole samples are turned as words, and the two bytes behind them are 0.
-- Assumes nothing.
use mathlib.Core.Path.{◌∙◌, ap}
use Prim.Native.Nat.{ℕ, ◌-◌, ◌%◌}
use native.Mathlib.Omega.{arith}
use borrow.Author.Rules.{rules}
use lib.ListN.{length}
use lib.Seq.{sets}
use Rattle.order.specs.Order.{Bytes}
use Rattle.order.proofs.Laws.{bytes_of_lem}
use Rattle.ping_forms.proofs.Turned.{space-two, turned-even, turned-odd}
use Rattle.ping_forms.proofs.plain.turn_triples.Statement.{statement}
use Rattle.ping_forms.proofs.plain.turn_triples.Tie as tie

-- places, named by what has been done there
abbrev known : tie.After-slice_known-2-1 → tie.After-shared_slice_known-1
known c = c.before.before.before.before.before.before

-- where whole samples end, as the part of them says it
abbrev end : tie.After-shared_slice_known-1 → ℕ
end k = let part = k.args.part.now in length part - length part % 6 - 0

bytes : (k : tie.After-shared_slice_known-1) → Bytes k.args.part.now
bytes k = bytes_of_lem k.args.part.now (λ i. (k.shared_slice_known-1.given i).fits)

store2-requires : tie.Need-store2-requires
store2-requires c κs =
    let s = (known c.before.before).before in
    omega (arith, space-two _ s.requires.1 c.if-end-part.true)

returns : tie.Need-returns-then-end-part
returns c =
    let zeros = c.before.before in
    let test = zeros.before.before in
    let words = test.before.before.before in
    let k = known test.before in
    let a = k.args in
    rw (zeros.store2.ensures, words.turn_words.ensures)
    (turned-odd a.msb a.part.now (bytes k) k.requires.1 (end k) (omega arith) (omega (arith, test.if-end-part.true)) a.out.now
    a.to _ (omega arith))

returns-2 : tie.Need-returns-else-end-part
returns-2 c =
    let words = c.before.before.before in
    let k = known c.before in
    let a = k.args in
    words.turn_words.ensures
    ∙ ap (sets a.out.now a.to)
    (turned-even a.msb a.part.now (bytes k) k.requires.1 (end k) (omega arith) (omega (arith, c.if-end-part.false)))

pub turn_triples_spec : {M : Type 1} → statement M
turn_triples_spec =
    tie.close
    (tie.spec
    (λ c. search rules)
    (λ c. search rules)
    (λ c. search rules)
    (λ c. search rules)
    (λ c κs. search rules)
    (λ c. search rules)
    store2-requires
    (λ c. search rules)
    returns
    (λ c. search rules)
    returns-2)
