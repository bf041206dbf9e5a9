-- `weights::judging::count2` meets its contract: the words weigh what is counted, or those before the last do. Assumes nothing.
use mathlib.Core.Path.{◌≡◌, refl, sym, ap, subst, ◌∙◌}
use mathlib.Core.Bool.{Bool, true, false, ◌&&◌, ◌||◌}
use Prim.Native.Nat.{ℕ, ◌-◌, ◌*◌, ◌≤◌}
use native.Mathlib.Omega.{arith}
use borrow.Author.Rules.{rules}
use borrow.Author.Tests.{le-leb, lt-leb, eq-eqb, ne_eqb}
use lib.Dec.{eqb, leb}
use lib.ListN.{length, take, drop}
use Rattle.samples.specs.Judging.{most, judged_words}
use Rattle.samples.specs.inner.Narrow.{words_by}
use Rattle.weights.specs.declared.Kind.{Kind}
use Rattle.weights.specs.inner.Weights.{There, weight_at}
use Rattle.layout.specs.Answers.{is_fine}
use Rattle.weights.specs.inner.Judging.{narrow_by}
use Rattle.weights.proofs.Judged.{count-is, narrow-there, eqb-turned}
use Rattle.weights.proofs.judging.count2.Statement.{statement}
use Rattle.weights.proofs.judging.count2.Tie as tie

-- what is to be shown, by three tests
said : (s : tie.Start) (few before all : Bool) →
    let a = s.args in
    let weight = weight_at (narrow_by a.encoded) a.msb a.file.now a.from in
    few ≡ leb a.count most → before ≡ eqb a.count (weight (a.n - 1)) → all ≡ eqb a.count (weight a.n)
    → (few && (before || all))
    ≡ is_fine (judged_words (words_by a.encoded) a.msb a.count (take (2 * a.n) (drop a.from a.file.now)))
said s few before all f b h =
    let a = s.args in
    (λ i. f i && (b i || h i))
    ∙ sym (count-is a.encoded a.msb a.file.now a.from a.n a.count s.requires.1.0.0 s.requires.1.0.1)

-- places, named by what has been done there
abbrev start : tie.After-narrow_kind-kind → tie.Start
start c = c.before.before.before.before

-- m of the words are there
there : (c : tie.After-narrow_kind-kind) (m : ℕ) → m ≤ (start c).args.n →
    There c.narrow_kind-kind.result (start c).args.from m (length (start c).args.file.now)
there c m h =
    let a = (start c).args in
    subst (λ (k : Kind). There k a.from m (length a.file.now)) (sym c.narrow_kind-kind.ensures)
    (narrow-there a.encoded a.from a.n m (length a.file.now) h (start c).requires.1.0.1)

-- what m of them weigh, held against the number of samples
counted : (c : tie.After-narrow_kind-kind) (m w : ℕ) →
    let a = (start c).args in
    w ≡ weight_at c.narrow_kind-kind.result a.msb a.file.now a.from m
    → eqb w a.count ≡ eqb a.count (weight_at (narrow_by a.encoded) a.msb a.file.now a.from m)
counted c m w e =
    let a = (start c).args in
    eqb-turned w a.count
    ∙ ap (eqb a.count) (e ∙ ap (λ (k : Kind). weight_at k a.msb a.file.now a.from m) c.narrow_kind-kind.ensures)

few : (c : tie.After-narrow_kind-kind) → true ≡ leb (start c).args.count most
few c = sym (le-leb (start c).args.count most c.if-count-gt-MOST.false)

returns : tie.Need-returns-then-count-gt-MOST
returns c = let s = c.before.before.before in said s false _ _ (sym (lt-leb s.args.count most c.if-count-gt-MOST.true)) refl refl

returns-2 : tie.Need-returns-then-before-count
returns-2 c =
    let b = c.before in
    let k = b.before in
    said (start k) true true _ (few k) (sym (eq-eqb _ _ c.if-before-count.true) ∙ counted k _ b.between-before.result b.between-before.ensures) refl

returns-3 : tie.Need-returns
returns-3 c =
    let b = c.before.before in
    let k = b.before in
    counted k _ c.between.result c.between.ensures
    ∙ said (start k) true false _ (few k)
    (sym (ne_eqb _ _ c.if-before-count.false) ∙ counted k _ b.between-before.result b.between-before.ensures) refl

pub count2_spec : {M : Type 1} → statement M
count2_spec =
    tie.close
    (tie.spec
    returns
    (λ c κs. search rules)
    (λ c. search rules)
    (λ c κs. let s = start c in (s.requires.0, (there c _ (omega (arith, s.requires.1.0)), s.requires.1.1)))
    returns-2
    (λ c κs. let k = c.before.before in let s = start k in (s.requires.0, (there k _ (omega arith), s.requires.1.1)))
    returns-3)
