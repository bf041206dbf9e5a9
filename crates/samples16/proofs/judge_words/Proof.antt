-- `samples16::judge_words` meets its contract: the words that are held are told from a space; then the rules, one by one. Assumes nothing.
use mathlib.Core.Path.{◌≡◌, refl, sym, ap, ◌∙◌}
use mathlib.Core.Bool.{Bool, true, false, not}
use mathlib.Core.List.{List}
use mathlib.Core.Logic.{⊎_elim}
use Prim.Native.Nat.{ℕ, ◌-◌, ◌*◌}
use native.Mathlib.Omega.{arith}
use borrow.Author.Rules.{rules}
use borrow.Author.Tests.{lt-ltb, le-ltb, eq-eqb, ne_eqb}
use mir.Val.{bool_byte}
use lib.Dec.{ltb, eqb}
use lib.ListN.{length, take}
use Rattle.layout.specs.Views.{as_verdict}
use Rattle.layout.specs.Families.{Family, narrow}
use Rattle.samples.specs.Words.{all_words}
use Rattle.samples.specs.inner.Narrow.{words_by}
use Rattle.samples.specs.Runs.{values, first_bad}
use Rattle.samples.specs.Values.{held_words}
use Rattle.samples.specs.Judging.{most, any_bad, judged_words}
use Rattle.samples16.proofs.Laws.{bad-held, ruled, said-words, words-many}
use Rattle.samples16.proofs.judge_words.Statement.{statement}
use Rattle.samples16.proofs.judge_words.Tie as tie

words-end-requires : tie.Need-words_end-end-requires
words-end-requires c κs = let start = c.before.before in (start.requires.0, (start.requires.1.0, c.look-seen.ensures.0))

-- the words that are held, and their values
abbrev these : tie.After-words_end-end → List ℕ
these c =
    let a = c.args in
    held_words narrow a.count (all_words 2 a.msb a.part.now)

abbrev lettered : tie.After-words_end-end → Family
lettered c = words_by c.args.encoded

sub-values : tie.Need-overflow_sub-values
sub-values c = omega (arith, c.words_end-end.ensures.1.1)

valued : (c : tie.After-words_end-end) →
    let a = c.args in
    c.look-seen.result.values - bool_byte (ltb c.words_end-end.result (length a.part.now)) ≡ values 256 (these c)
valued c = omega (arith, c.words_end-end.ensures.1.1)

-- they end where the code says
ended : (c : tie.After-words_end-end) → 2 * length (these c) ≡ c.words_end-end.result
ended c =
    let a = c.args in
    let near = c.words_end-end.ensures.1.0 in
    let many = words-many a.msb c.words_end-end.result a.part.now near.0 in
    omega (arith, many, near.2, ap length c.words_end-end.ensures.0)

-- the first bad one of them, as it is looked for
placed : (c : tie.After-find_bad-at) →
    let w = c.before.before.before.before in
    c.find_bad-at.result ≡ 2 * first_bad (lettered w) (these w)
placed c =
    let w = c.before.before.before.before in
    let a = w.args in
    let whole : w.words_end-end.result - 0 ≡ w.words_end-end.result = omega arith in
    c.find_bad-at.ensures.0
    ∙ ap (λ (ws : List ℕ). 2 * first_bad (lettered w) ws)
    (ap (λ (n : ℕ). all_words 2 a.msb (take n a.part.now)) whole ∙ w.words_end-end.ensures.0)

-- what the rules say
said : (c : tie.After-words_end-end) (full bad other : Bool) (p : ℕ) → full ≡ ltb most (values 256 (these c))
    → bad ≡ any_bad (lettered c) (these c) → p ≡ 2 * first_bad (lettered c) (these c)
    → other ≡ not (eqb c.args.count (values 256 (these c)))
    → let a = c.args in
    ruled full bad p other ≡ judged_words (lettered c) a.msb a.count a.part.now
said c full bad other p f b h o =
    let a = c.args in
    (λ i. ruled (f i) (b i) (h i) (o i)) ∙ said-words a.encoded a.msb a.count a.part.now (these c) refl

-- at most as many values as a ping holds
few : (c : tie.Else-values-gt-MOST) → false ≡ ltb most (values 256 (these c.before))
few c = sym (le-ltb most _ c.if-values-gt-MOST.false) ∙ ap (ltb most) (valued c.before)

-- none of them is bad: none of all is, or the first stands behind them
good : (c : tie.Joined-seen) → false ≡ any_bad (lettered c.before.before) (these c.before.before)
good c =
    let w = c.before.before in
    let a = w.args in
    ⊎_elim
    (λ x.
    let found : tie.After-find_bad-arg-1 =
    record { before = record { before = c.before; if-seen = x.if-seen }; find_bad-arg-1 = x.find_bad-arg-1 } in
    let p = placed (record { before = found; find_bad-at = x.find_bad-at }) in
    sym (le-ltb (first_bad (lettered w) (these w)) (length (these w)) (omega (arith, x.if-at-end.false, p, ended w))))
    (λ x. sym (bad-held (lettered w) a.count (all_words 2 a.msb a.part.now) (sym w.look-seen.ensures.1.0 ∙ x.if-seen.false)))
    c.if-seen.branch-raw

returns : tie.Need-returns-then-values-gt-MOST
returns c =
    let w = c.before.before in
    ap as_verdict c.fault.ensures
    ∙ said w true _ _ _ (sym (lt-ltb most _ c.if-values-gt-MOST.true) ∙ ap (ltb most) (valued w)) refl refl refl

-- the place is in the part
add-fault-at : tie.Need-overflow_add-at
add-fault-at c =
    let w = c.before.before.before.before.before in
    omega (arith, c.if-at-end.true, w.words_end-end.ensures.1.0, w.requires)

returns-2 : tie.Need-returns-then-at-end
returns-2 c =
    let find = c.before.before in
    let rule = find.before.before.before in
    let w = rule.before in
    let p = placed find in
    let there = lt-ltb (first_bad (lettered w) (these w)) (length (these w)) (omega (arith, c.if-at-end.true, p, ended w)) in
    ap as_verdict c.fault_at.ensures ∙ said w false true _ _ (few rule) (sym there) p refl

returns-4 : tie.Need-returns
returns-4 c =
    let join = c.before in
    let w = join.before.before in
    said w false false false _ (few join.before) (good join) refl
    (sym (ap not (eq-eqb w.args.count (values 256 (these w)) (omega (arith, valued w)))))

pub judge_words_spec : {M : Type 1} → statement M
judge_words_spec =
    tie.close
    (tie.spec
    (λ c κs. search rules)
    words-end-requires
    (λ c. search rules)
    sub-values
    (λ c. search rules)
    (λ c κs. search rules)
    returns
    (λ c. search rules)
    (λ c. search rules)
    (λ c. c.words_end-end.ensures.1.0.0)
    (λ c κs. search rules)
    add-fault-at
    (λ c κs. search rules)
    returns-2
    (λ c κs. search rules)
    (λ c.
    let join = c.before.before in
    let w = join.before.before in
    search rules
    ∙ said w false false true _ (few join.before) (good join) refl
    (sym (ap not (ne_eqb w.args.count (values 256 (these w)) (omega (arith, valued w))))))
    returns-4)
