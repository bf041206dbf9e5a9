-- `layout::fits` meets its contract: the least length, the step and the bytes more of the type's listing say its lengths. Assumes nothing.
use mathlib.Core.Path.{◌≡◌, ap, ◌∙◌}
use mathlib.Core.List.{List, []}
use Prim.Native.Nat.{ℕ, ◌<◌}
use native.Mathlib.Omega.{arith}
use borrow.Author.Rules.{rules}
use lib.ListN.{get_or}
use Rattle.layout.specs.Types.{Length, fitting, listing_of, lengths_of, listed}
use Rattle.layout.specs.inner.Codes.{place_in, measures, measured_by, length_by}
use Rattle.layout.proofs.Tables.{measure_there, length-there, fixed, short, long, any}
use Rattle.layout.proofs.fits.Statement.{statement}
use Rattle.layout.proofs.fits.Tie as tie

returns : tie.Need-returns-then-listing-ge-LISTED
returns c = any c.args.code (omega (arith, c.listing_of-listing.ensures)) c.args.length

-- the lengths that were looked up are the type's
looked : (c : tie.After-measure-measure)
    → length_by (get_or c.measure-measure.result 4 0) (get_or c.measure-measure.result 5 0) (get_or c.measure-measure.result 6 0)
    ≡ lengths_of c.args.code
looked c =
    let k = c.args.code in
    let e = c.listing_of-listing.ensures in
    let h : place_in k < listed = omega (arith, c.if-listing-ge-LISTED.false) in
    let m : c.measure-measure.result ≡ measured_by (listing_of k) =
    c.measure-measure.ensures ∙ ap (λ (i : ℕ). get_or measures i []) e ∙ measure_there k h in
    ap (λ (l : List ℕ). length_by (get_or l 4 0) (get_or l 5 0) (get_or l 6 0)) m ∙ length-there k h

returns-2 : tie.Need-returns-then-step-eq0
returns-2 c =
    let n = c.args.length in
    fixed _ _ _ n c.if-step-eq0.true ∙ ap (λ (l : Length). fitting l n) (looked c.before)

returns-3 : tie.Need-returns-then-length-least
returns-3 c =
    let n = c.args.length in
    short _ _ _ n c.if-step-eq0.false c.if-length-least.true ∙ ap (λ (l : Length). fitting l n) (looked c.before.before)

returns-4 : tie.Need-returns
returns-4 c =
    let n = c.args.length in
    long _ _ _ n c.if-step-eq0.false c.if-length-least.false ∙ ap (λ (l : Length). fitting l n) (looked c.before.before)

pub fits_spec : {M : Type 1} → statement M
fits_spec =
    tie.close
    (tie.spec
    (λ c κs. search rules)
    returns
    (λ c κs. search rules)
    (λ c. search rules)
    (λ c. search rules)
    returns-2
    returns-3
    (λ c. search rules)
    (λ c. search rules)
    returns-4)
