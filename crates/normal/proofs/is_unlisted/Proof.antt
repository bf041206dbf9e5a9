-- `normal::is_unlisted` meets its contract: of the types that have no listing, only the index class is left out. Assumes nothing.
use mathlib.Core.Path.{◌≡◌, refl, sym, ap, ◌∙◌}
use mathlib.Core.Bool.{false, true≢false}
use Prim.Native.Nat.{ℕ}
use native.Mathlib.Omega.{arith}
use borrow.Author.Rules.{rules}
use borrow.Author.Tests.{eq-eqb, ne_eqb}
use lib.Dec.{eqb}
use Rattle.layout.specs.Types.{Shape, indexed, row, uncompressed, compressed, unlisted, in_class, index, shape_of, listed}
use Rattle.layout.specs.inner.Codes.{place_in}
use Rattle.layout.proofs.Tables.{Tabled, tabled, index_shape, shape-index}
use Rattle.normal.specs.Normaliser.{is_unlisted}
use Rattle.normal.proofs.is_unlisted.Statement.{statement}
use Rattle.normal.proofs.is_unlisted.Tie as tie

by_place : (k : ℕ) → in_class index k ≡ false → (q : Shape) → shape_of k ≡ q → Tabled q (place_in k) → eqb (place_in k) listed ≡ is_unlisted q
by_place k e indexed s l = absurd (true≢false (sym (shape-index k s) ∙ e))
by_place k e (row fs x) s l = ne_eqb (place_in k) listed (λ z. omega arith)
by_place k e (uncompressed f) s l = ne_eqb (place_in k) listed (λ z. omega arith)
by_place k e (compressed f) s l = ne_eqb (place_in k) listed (λ z. omega arith)
by_place k e unlisted s l = eq-eqb (place_in k) listed l

returns : tie.Need-returns-then-in_class
returns c = sym (ap is_unlisted (index_shape _ (sym c.in_class.ensures ∙ c.if-in_class.true)))

returns-2 : tie.Need-returns
returns-2 c =
    let i = c.before in
    let k = i.args.code in
    ap (λ (n : ℕ). eqb n listed) c.listing_of.ensures
    ∙ by_place k (sym i.in_class.ensures ∙ i.if-in_class.false) (shape_of k) refl (tabled k)

pub is_unlisted_spec : {M : Type 1} → statement M
is_unlisted_spec = tie.close (tie.spec
    (λ c κs. search rules)
    returns
    (λ c κs. search rules)
    returns-2)
