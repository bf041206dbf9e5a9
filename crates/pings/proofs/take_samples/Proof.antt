-- `pings::take_samples` meets its contract: each type's samples are read by their reader. Assumes nothing.
use mathlib.Core.Path.{◌≡◌, refl}
use mathlib.Core.Bool.{true, false}
use mathlib.Core.List.{[], ◌∷◌}
use Prim.Native.Nat.{◌-◌, ◌≤◌}
use native.Mathlib.Omega.{arith}
use borrow.Author.Rules.{rules}
use lib.ListN.{length, take, drop}
use Rattle.layout.specs.Families.{wide, narrow, encoded}
use Rattle.layout.specs.Types.{listings, shape_of, compressed}
use Rattle.samples.specs.Words.{all_words, all_samples}
use Rattle.samples.specs.Runs.{radix, decode}
use Rattle.samples.specs.Values.{samples_in}
use Rattle.samples.specs.inner.Lists.{Room}
use Rattle.tuples.proofs.Codes.{valued, last_code}
use Rattle.pings.specs.inner.Handing.{part_samples}
use Rattle.pings.proofs.Parts.{arm_u, arm_c, upto-few, words-asked}
use Rattle.pings.proofs.Parts.{Says, says_plain, says-wide, says-narrow, says-room, says-left}
use Rattle.pings.proofs.take_samples.Statement.{statement}
use Rattle.pings.proofs.take_samples.Tie as tie

-- ---- the start, and what it knows
abbrev start : tie.After-slice_known-1 → tie.Start
start k = k.before.before

room : (k : tie.After-slice_known-1) → let a = (start k).args in
    Room (part_samples (shape_of a.code) a.msb a.part.now) a.numbers.now a.values.now
room k = (start k).requires.1.1

-- ---- the shapes of the compressed types, the last of which is left behind the arms
words : (m : tie.In-10010) → shape_of (start m.before).args.code ≡ compressed wide
words m = arm_c wide refl m.in-10010.is

words16 : (m : tie.In-10040) → shape_of (start m.before).args.code ≡ compressed narrow
words16 m = arm_c narrow refl m.in-10040.is

codes16 : (m : tie.In_default) → shape_of (start m.before).args.code ≡ compressed encoded
unfolding listings
codes16 m =
    let s = start m.before in
    arm_c encoded refl (last_code valued s.args.code 10050 (10040 ∷ 10030 ∷ 10010 ∷ 10000 ∷ []) refl m.in_default.in_default-own.rest s.requires.1.0)

-- ---- what each reader reads is what the part says
of-pairs : (m : tie.In-10000) → let a = (start m.before).args in
    Says a.code a.msb a.part.now 4 (all_samples wide a.msb a.part.now)
of-pairs m = says_plain _ _ _ wide (arm_u wide refl m.in-10000.is)

of_words : (m : tie.In-10010) → let a = (start m.before).args in
    Says a.code a.msb a.part.now 4
    (decode radix (all_words 4 a.msb (take (length a.part.now - 4) (drop 4 a.part.now))))
of_words m = says-wide _ _ _ (words m)

of-u16 : (m : tie.In-10030) → let a = (start m.before).args in
    Says a.code a.msb a.part.now 2 (all_samples narrow a.msb a.part.now)
of-u16 m = says_plain _ _ _ narrow (arm_u narrow refl m.in-10030.is)

of-c16 : (w : tie.After-words_end-end) → let a = (start w.before.before).args in
    Says a.code a.msb a.part.now 2
    (samples_in narrow (all_words 2 a.msb (take (w.words_end-end.result - 4) (drop 4 a.part.now))))
of-c16 w = says-narrow _ _ _ false _ (words16 w.before) w.words_end-end.ensures.0

of-ce16 : (w : tie.After-words_end-end-in_default) → let a = (start w.before.before).args in
    Says a.code a.msb a.part.now 4
    (samples_in encoded (all_words 2 a.msb (take (w.words_end-end-in_default.result - 4) (drop 4 a.part.now))))
of-ce16 w = says-narrow _ _ _ true _ (codes16 w.before) w.words_end-end-in_default.ensures.0

-- ---- what each asks
read-pairs-requires : tie.Need-read_pairs-requires
read-pairs-requires c κs = let m = c.before.before in says-room (of-pairs m) (room m.before)

-- the words stand behind the number of samples
long : (m : tie.In-10010) → 8 ≤ length (start m.before).args.part.now
long m = (words-asked (start m.before).requires.0 wide (words m)).0

read-words-requires : tie.Need-read_words-requires
read-words-requires c κs =
    let m = c.before.before.before in
    let s = start m.before in
    let part = s.args.part.now in
    (upto-few part (length part) (omega arith) s.requires.0.few, says-room (of_words m) (room m.before))

read-samples-requires : tie.Need-read_samples-requires
read-samples-requires c κs = let m = c.before.before in says-room (of-u16 m) (room m.before)

words-end-requires : tie.Need-words_end-end-requires
words-end-requires m κs = words-asked (start m.before).requires.0 narrow (words16 m)

read-words-requires-2 : tie.Need-read_words-requires-in-10040
read-words-requires-2 c κs =
    let w = c.before.before.before in
    let s = start w.before.before in
    (upto-few s.args.part.now _ w.words_end-end.ensures.1.1 s.requires.0.few, says-room (of-c16 w) (room w.before.before))

words-end-requires-2 : tie.Need-words_end-end-requires-in_default
words-end-requires-2 m κs = words-asked (start m.before).requires.0 encoded (codes16 m)

read-words-requires-3 : tie.Need-read_words-requires-in_default
read-words-requires-3 c κs =
    let w = c.before.before.before in
    let s = start w.before.before in
    (upto-few s.args.part.now _ w.words_end-end-in_default.ensures.1.1 s.requires.0.few, says-room (of-ce16 w) (room w.before.before))

-- ---- and what it leaves
returns : tie.Need-returns-in-10000
returns c =
    let r = c.before.before.before in
    let m = r.before.before.before in
    let a = (start m.before).args in
    says-left (of-pairs m) a.numbers.now a.values.now r.read_pairs.ensures.0 r.read_pairs.ensures.1

returns-2 : tie.Need-returns-in-10010
returns-2 c =
    let r = c.before.before.before in
    let m = r.before.before.before.before in
    let a = (start m.before).args in
    says-left (of_words m) a.numbers.now a.values.now r.read_words.ensures.0 r.read_words.ensures.1

returns-3 : tie.Need-returns-in-10030
returns-3 c =
    let r = c.before.before.before in
    let m = r.before.before.before in
    let a = (start m.before).args in
    says-left (of-u16 m) a.numbers.now a.values.now r.read_samples.ensures.0 r.read_samples.ensures.1

returns-4 : tie.Need-returns-in-10040
returns-4 c =
    let r = c.before.before.before in
    let w = r.before.before.before.before in
    let a = (start w.before.before).args in
    says-left (of-c16 w) a.numbers.now a.values.now r.read_words-in-10040.ensures.0 r.read_words-in-10040.ensures.1

returns-5 : tie.Need-returns-in_default
returns-5 c =
    let r = c.before.before.before in
    let w = r.before.before.before.before in
    let a = (start w.before.before).args in
    says-left (of-ce16 w) a.numbers.now a.values.now r.read_words-in_default.ensures.0 r.read_words-in_default.ensures.1

pub take_samples_spec : {M : Type 1} → statement M
take_samples_spec =
    tie.close
    (tie.spec
    read-pairs-requires
    (λ c. let l = long c in omega arith)
    (λ c. let l = long c in omega arith)
    (λ c. search rules)
    read-words-requires
    read-samples-requires
    words-end-requires
    (λ c. search rules)
    (λ c. search rules)
    (λ c. search rules)
    read-words-requires-2
    words-end-requires-2
    (λ c. search rules)
    (λ c. search rules)
    (λ c. search rules)
    read-words-requires-3
    (λ c. search rules)
    (λ c. search rules)
    returns
    (λ c. search rules)
    (λ c. search rules)
    returns-2
    (λ c. search rules)
    (λ c. search rules)
    returns-3
    (λ c. search rules)
    (λ c. search rules)
    returns-4
    (λ c. search rules)
    (λ c. search rules)
    returns-5)
