-- `tuples::is_record` meets its contract: a listed type's shape is a row, but for the pings'. Assumes nothing.
use mathlib.Core.Path.{◌≡◌, refl, sym, ap, ◌∙◌}
use mathlib.Core.Bool.{true, false, true≢false}
use Prim.Native.Nat.{ℕ}
use native.Mathlib.Omega.{arith}
use borrow.Author.Rules.{rules}
use borrow.Author.Tests.{lt-ltb, le-ltb}
use lib.Dec.{ltb}
use Rattle.layout.specs.Types.{Shape, indexed, row, uncompressed, compressed, unlisted, shape_of, has_samples, is_ping, listed}
use Rattle.layout.specs.inner.Codes.{place_in}
use Rattle.layout.proofs.Tables.{Tabled, tabled}
use Rattle.tuples.specs.Readers.{is_row}
use Rattle.tuples.proofs.is_record.Statement.{statement}
use Rattle.tuples.proofs.is_record.Tie as tie

-- a shape that has samples is no row
sampled : (q : Shape) → has_samples q ≡ true → false ≡ is_row q
sampled indexed e = refl
sampled (row fs x) e = absurd (true≢false (sym e))
sampled (uncompressed f) e = refl
sampled (compressed f) e = refl
sampled unlisted e = refl

-- any other is one where it has a place
by_place : (k : ℕ) (q : Shape) → has_samples q ≡ false → Tabled q (place_in k) → ltb (place_in k) listed ≡ is_row q
by_place k indexed e l = le-ltb (place_in k) listed (omega arith)
by_place k (row fs x) e l = lt-ltb (place_in k) listed l
by_place k (uncompressed f) e l = absurd (true≢false e)
by_place k (compressed f) e l = absurd (true≢false e)
by_place k unlisted e l = le-ltb (place_in k) listed (omega arith)

returns : tie.Need-returns-then-is_ping
unfolding is_ping
returns c = sampled (shape_of c.args.code) (sym c.is_ping.ensures ∙ c.if-is_ping.true)

returns-2 : tie.Need-returns
unfolding is_ping
returns-2 c =
    let ping = c.before.before in
    let k = ping.args.code in
    ap (λ (i : ℕ). ltb i listed) c.listing_of.ensures
    ∙ by_place k (shape_of k) (sym ping.is_ping.ensures ∙ c.if-is_ping.false) (tabled k)

pub is_record_spec : {M : Type 1} → statement M
is_record_spec = tie.close (tie.spec
    (λ c κs. search rules)
    returns
    (λ c κs. search rules)
    returns-2)
