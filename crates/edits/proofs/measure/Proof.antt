-- `edits::measure` meets its contract: three surveys, and the index. Assumes nothing.
use mathlib.Core.Path.{◌≡◌, subst}
use mathlib.Core.List.{List}
use Prim.Native.Nat.{ℕ, ◌≤◌}
use native.Mathlib.Omega.{arith}
use borrow.Author.Rules.{rules}
use lib.ListN.{replicate}
use Rattle.frame.specs.Files.{limit}
use Rattle.frame.specs.Frames.{length_of}
use Rattle.index.specs.inner.Flags.{flag_all}
use Rattle.index.proofs.Writes.{few-flagged}
use Rattle.edits.specs.inner.Parts.{index_in, all_of, Surveyed}
use Rattle.edits.proofs.Sizes.{all-flags, index-size, broken-size, whole-size}
use Rattle.edits.proofs.measure.Statement.{statement}
use Rattle.edits.proofs.measure.Tie as tie

-- places, named by what has been done there
abbrev third : tie.After-index_length-index → tie.After-survey-z
third c = c.before.before

abbrev second : tie.After-survey-z → tie.After-survey-b
second c = c.before.before

abbrev first : tie.After-survey-b → tie.After-survey-a
first c = c.before.before

abbrev start : tie.After-survey-a → tie.Start
start c = c.before.before.before.before.before

abbrev indexed : tie.After-struct_known-3-1 → tie.After-index_length-index
indexed c = c.before.before.before

abbrev began : tie.After-index_length-index → tie.Start
began c = start (first (second (third c)))

-- the three surveys
one : (c : tie.After-survey-a) → let a = (start c).args in
    Surveyed a.msb a.first.now (replicate 8192 0) c.survey-a.result.kept c.survey-a.result.end c.survey-a.new.flags
one c =
    let a = (start c).args in
    subst (λ (g : List ℕ). Surveyed a.msb a.first.now g c.survey-a.result.kept c.survey-a.result.end
    c.survey-a.new.flags) (start c).requires.1 c.survey-a.ensures

index-length-requires : tie.Need-index_length-index-requires
index-length-requires c κs = omega (arith, c.count_types.ensures, few-flagged c.survey-z.new.flags)

-- the index's bytes
index-bytes : (c : tie.After-index_length-index) → let a = (began c).args in
    c.index_length-index.result ≡ length_of (index_in a.msb a.first.now a.second.now a.last.now)
index-bytes c =
    let z = third c in
    let b = second z in
    let f = first b in
    let a = (start f).args in
    index-size a.msb a.first.now a.second.now a.last.now _ _ _ _ _ _ _ _ _ (one f) b.survey-b.ensures
    z.survey-z.ensures
    _ c.count_types.ensures _ c.index_length-index.ensures

-- all that is added stays small
record Small (c : tie.After-index_length-index) : Type 0 where
  pub first : (first (second (third c))).survey-a.result.kept ≤ limit
  pub second : (second (third c)).survey-b.result.kept ≤ limit
  pub last : (third c).survey-z.result.kept ≤ limit
  pub index : c.index_length-index.result ≤ 200000

small : (c : tie.After-index_length-index) → Small c
small c =
    let p = (began c).requires.0 in
    let z = third c in
    record {
      first = omega (arith, (first (second z)).survey-a.ensures.few, (first (second z)).survey-a.ensures.fits, p.first_small);
      second = omega (arith, (second z).survey-b.ensures.few, (second z).survey-b.ensures.fits, p.second_small);
      last = omega (arith, z.survey-z.ensures.few, z.survey-z.ensures.fits, p.last_small);
      index = omega (arith, c.index_length-index.ensures, c.count_types.ensures, few-flagged z.survey-z.new.flags);
    }

-- all types are flagged
flagged : (c : tie.After-index_length-index) → let a = (began c).args in
    (third c).survey-z.new.flags ≡ flag_all (replicate 8192 0) (all_of a.msb a.first.now a.second.now a.last.now)
flagged c =
    let z = third c in
    let b = second z in
    let f = first b in
    let a = (start f).args in
    all-flags a.msb a.first.now a.second.now a.last.now _ _ _ _ _ _ _ _ _ (one f) b.survey-b.ensures z.survey-z.ensures

sub-t18 : tie.Need-overflow_sub-result
sub-t18 c = (second (third (indexed c.before.before))).survey-b.ensures.fits

add-t19 : tie.Need-overflow_add-result
add-t19 c =
    let i = indexed c.before.before in
    let s = small i in
    omega (arith, s.first, s.second, (began i).requires.0.second_small)

returns : tie.Need-returns-then-b-second
returns c =
    let i = indexed c.before.before in
    let z = third i in
    let b = second z in
    let f = first b in
    let a = (start f).args in (
      record {
        whole = broken-size a.msb a.first.now a.second.now a.last.now _ _ _ _ _ _ _ _ _ (one f) b.survey-b.ensures
            z.survey-z.ensures
            (start f).requires.0 c.if-b-second.true;
        index = index-bytes i;
      },
      flagged i,
    )

add-t14 : tie.Need-overflow_add-result-2
add-t14 c = let s = small (indexed c.before) in omega (arith, s.first, s.second, s.index)

add-t20 : tie.Need-overflow_add-result-3
add-t20 c = let s = small (indexed c.before.before) in omega (arith, s.first, s.second, s.last, s.index)

returns-2 : tie.Need-returns
returns-2 c =
    let i = indexed c.before.before in
    let z = third i in
    let b = second z in
    let f = first b in
    let a = (start f).args in (
      record {
        whole = whole-size a.msb a.first.now a.second.now a.last.now _ _ _ _ _ _ _ _ _ (one f) b.survey-b.ensures
            z.survey-z.ensures
            (start f).requires.0 c.if-b-second.false _ (index-bytes i);
        index = index-bytes i;
      },
      flagged i,
    )

pub measure_spec : {M : Type 1} → statement M
measure_spec =
    tie.close
    (tie.spec
    (λ c κs. search rules)
    (λ c κs. search rules)
    (λ c κs. search rules)
    (λ c κs. search rules)
    index-length-requires
    (λ c. let s = small c.before in omega (arith, s.first))
    (λ c. let s = small c.before.before in omega (arith, s.first, s.second))
    sub-t18
    add-t19
    returns
    add-t14
    add-t20
    returns-2)
