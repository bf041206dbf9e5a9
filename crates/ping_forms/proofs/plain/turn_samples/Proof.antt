-- `ping_forms::plain::turn_samples` meets its contract: in each arm the samples are those of the arm's family. Assumes nothing.
use mathlib.Core.Path.{◌≡◌, ap, ◌∙◌}
use mathlib.Core.Bool.{true, false}
use mathlib.Core.List.{List}
use Prim.Native.Nat.{ℕ, ◌+◌}
use borrow.Author.Rules.{rules}
use lib.ListN.{length}
use lib.Seq.{sets}
use Rattle.order.specs.Order.{Bytes}
use Rattle.order.proofs.Laws.{bytes_of_lem}
use Rattle.layout.specs.Families.{Family, wide, narrow, wide_angles, narrow_angles}
use Rattle.layout.specs.Types.{listings, among, listing_of, fitting, lengths_u}
use Rattle.layout.specs.inner.Codes.{family_of}
use Rattle.samples.specs.Words.{all_samples, unsampled, spaced}
use Rattle.ping_forms.proofs.Turned.{turned-wide, turned-angles, turned-narrow, fits_as, turned_as, last-family}
use Rattle.ping_forms.proofs.plain.turn_samples.Statement.{statement}
use Rattle.ping_forms.proofs.plain.turn_samples.Tie as tie

-- the families of the arms
family-U : {k : ℕ} → k ≡ 10000 → family_of k ≡ wide
unfolding listing_of among listings
family-U e = ap family_of e

family-angles : {k : ℕ} → k ≡ 10001 → family_of k ≡ wide_angles
unfolding listing_of among listings
family-angles e = ap family_of e

family-U16 : {k : ℕ} → k ≡ 10030 → family_of k ≡ narrow
unfolding listing_of among listings
family-U16 e = ap family_of e

family-rest : (c : tie.In_default) → family_of c.args.code ≡ narrow_angles
family-rest c =
    let s = c.before.before.before in
    let none = c.in_default.in_default-own.rest in
    last-family s.args.code _ s.requires.1.0 none.0.0.1 none.0.1 none.1

bytes : (k : tie.After-shared_slice_known-1) → Bytes k.args.part.now
bytes k = bytes_of_lem k.args.part.now (λ i. (k.shared_slice_known-1.given i).fits)

-- the part fits the arm's family
fits : (k : tie.After-shared_slice_known-1) {f : Family} → family_of k.args.code ≡ f
    → fitting (lengths_u f) (length k.args.part.now + 32) ≡ true
fits k e = fits_as e (length k.args.part.now + 32) k.requires.1.1

-- what an arm leaves, by its family
left : (k : tie.After-shared_slice_known-1) {f : Family} → family_of k.args.code ≡ f → (out : List ℕ)
    → let a = k.args in out ≡ sets a.out.now a.to (spaced (unsampled f false (all_samples f a.msb a.part.now)))
    → out ≡ sets a.out.now a.to
    (spaced (unsampled (family_of a.code) false (all_samples (family_of a.code) a.msb a.part.now)))
left k e out h = let a = k.args in turned_as e a.msb a.part.now a.out.now out a.to h

turn-triples-requires : tie.Need-turn_triples-requires
turn-triples-requires c κs =
    let m = c.before in
    let k = m.before.before in
    (k.requires.0, fits k (family-rest m))

returns : tie.Need-returns-in-10000
returns c =
    let t = c.before.before in
    let m = t.before.before in
    let k = m.before.before in
    let a = k.args in
    let f = family-U m.in-10000.is in
    left k f _ (t.turn_words.ensures ∙ ap (sets a.out.now a.to) (turned-wide a.msb a.part.now (bytes k) (fits k f)))

returns-2 : tie.Need-returns-in-10001
returns-2 c =
    let t = c.before.before in
    let m = t.before.before in
    let k = m.before.before in
    let a = k.args in
    left k (family-angles m.in-10001.is) _
    (t.turn_angles.ensures ∙ ap (sets a.out.now a.to) (turned-angles a.msb a.part.now))

returns-3 : tie.Need-returns-in-10030
returns-3 c =
    let t = c.before.before in
    let m = t.before.before in
    let k = m.before.before in
    let a = k.args in
    let f = family-U16 m.in-10030.is in
    left k f _ (t.turn_words-in-10030.ensures ∙ ap (sets a.out.now a.to) (turned-narrow a.msb a.part.now (bytes k) (fits k f)))

returns-4 : tie.Need-returns-in_default
returns-4 c =
    let t = c.before.before in
    let m = t.before.before in
    left m.before.before (family-rest m) _ t.turn_triples.ensures

pub turn_samples_spec : {M : Type 1} → statement M
turn_samples_spec =
    tie.close
    (tie.spec
    (λ c κs. search rules)
    (λ c κs. search rules)
    (λ c κs. search rules)
    turn-triples-requires
    (λ c. search rules)
    returns
    (λ c. search rules)
    returns-2
    (λ c. search rules)
    returns-3
    (λ c. search rules)
    returns-4)
