-- `intake::judge_inner` meets its contract: a ping's samples fill the part between its header and its last 8 bytes. Assumes nothing.
use mathlib.Core.Path.{◌≡◌, refl, sym, ap, ◌∙◌}
use mathlib.Core.Bool.{true}
use Prim.Native.Nat.{ℕ, ◌+◌, ◌≤◌}
use native.Mathlib.Omega.{arith}
use borrow.Author.Rules.{rules}
use lib.ListN.{length}
use Rattle.layout.specs.Families.{Family, wide, narrow, encoded, wide_angles, narrow_angles, type_u, type_c, has_u, has_c}
use Rattle.layout.specs.Types.{uncompressed, compressed, listings, shape_of}
use Rattle.layout.proofs.Families.{no_ping}
use Rattle.content.proofs.Families.{shape_u, shape_c}
use Rattle.intake.proofs.Judges.{whole, few, long_u, long_c, worded, no_inner, inner-samples, inner-words}
use Rattle.intake.proofs.judge_inner.Statement.{statement}
use Rattle.intake.proofs.judge_inner.Tie as tie

-- an arm of the match: the code is the arm's, and so is the shape
arm_u : (p : Family) → has_u p ≡ true → {k : ℕ} → k ≡ type_u p → shape_of k ≡ uncompressed p
arm_u p h e = ap shape_of e ∙ shape_u p h

arm_c : (p : Family) → has_c p ≡ true → {k : ℕ} → k ≡ type_c p → shape_of k ≡ compressed p
arm_c p h e = ap shape_of e ∙ shape_c p h

pairs : (c : tie.In-10000) → shape_of c.args.code ≡ uncompressed wide
pairs c = arm_u wide refl c.in-10000.is

words : (c : tie.In-10010) → shape_of c.args.code ≡ compressed wide
words c = arm_c wide refl c.in-10010.is

angles : (c : tie.In-10001) → shape_of c.args.code ≡ uncompressed wide_angles
angles c = arm_u wide_angles refl c.in-10001.is

pairs16 : (c : tie.In-10030) → shape_of c.args.code ≡ uncompressed narrow
pairs16 c = arm_u narrow refl c.in-10030.is

angles16 : (c : tie.In-10031) → shape_of c.args.code ≡ uncompressed narrow_angles
angles16 c = arm_u narrow_angles refl c.in-10031.is

words16 : (c : tie.In-10040) → shape_of c.args.code ≡ compressed narrow
words16 c = arm_c narrow refl c.in-10040.is

codes16 : (c : tie.In-10050) → shape_of c.args.code ≡ compressed encoded
codes16 c = arm_c encoded refl c.in-10050.is

-- a ping of either kind has room for its header and its last 8 bytes, and stands in the file
abbrev Room : ℕ → tie.Start → Type 0
Room least s = let a = s.args in (least ≤ a.whole) × (a.at + a.whole ≤ length a.file.now)

room-U : (s : tie.Start) (p : Family) → shape_of s.args.code ≡ uncompressed p → Room 36 s
room-U s p e = let h = s.requires in (long_u h.0 h.1 p e, (whole h.0).fits)

room-C : (s : tie.Start) (p : Family) → shape_of s.args.code ≡ compressed p → Room 40 s
room-C s p e = let h = s.requires in (long_c h.0 h.1 p e, (whole h.0).fits)

returns : tie.Need-returns-in-10000
returns c =
    let m = c.before.before in
    let p = m.requires in
    c.judge_pairs.ensures ∙ sym (inner-samples p.0 p.1 wide (pairs m))

returns-2 : tie.Need-returns-in-10010
returns-2 c =
    let r = c.before.before in
    let p = r.requires in
    c.judge_words.ensures ∙ rw r.read4-count.ensures (sym (inner-words p.0 p.1 wide (words r.before)))

returns-3 : tie.Need-returns-in-10001
returns-3 c =
    let m = c.before.before in
    let p = m.requires in
    c.judge_wide.ensures ∙ sym (inner-samples p.0 p.1 wide_angles (angles m))

returns-4 : tie.Need-returns-in-10030
returns-4 c =
    let m = c.before.before in
    let p = m.requires in
    c.judge_samples.ensures ∙ sym (inner-samples p.0 p.1 narrow (pairs16 m))

returns-5 : tie.Need-returns-in-10031
returns-5 c =
    let m = c.before.before in
    let p = m.requires in
    c.judge_samples-in-10031.ensures ∙ sym (inner-samples p.0 p.1 narrow_angles (angles16 m))

returns-6 : tie.Need-returns-in-10040
returns-6 c =
    let r = c.before.before in
    let p = r.requires in
    c.judge_words-in-10040.ensures ∙ rw r.read4-count-in-10040.ensures (sym (inner-words p.0 p.1 narrow (words16 r.before)))

returns-7 : tie.Need-returns-in-10050
returns-7 c =
    let r = c.before.before in
    let p = r.requires in
    c.judge_words-in-10050.ensures ∙ rw r.read4-count-in-10050.ensures (sym (inner-words p.0 p.1 encoded (codes16 r.before)))

returns-8 : tie.Need-returns-in_default
unfolding listings
returns-8 c = sym (no_inner c.requires.0 (no_ping c.args.code c.in_default.in_default-own.rest))

pub judge_inner_spec : {M : Type 1} → statement M
judge_inner_spec =
    tie.close
    (tie.spec
    (λ c. omega (arith, (whole c.requires.0).fits))
    (λ c. search rules)
    (λ c. let r = room-U c.before.before wide (pairs c) in omega arith)
    (λ c. let r = room-U c.before.before wide (pairs c) in omega arith)
    (λ c. let r = room-U c.before.before wide (pairs c) in omega arith)
    (λ c. let r = room-U c.before.before wide (pairs c) in omega arith)
    (λ c κs. few c.requires.0 24)
    (λ c. let r = room-C c.before.before wide (words c) in omega arith)
    (λ c κs. let r = room-C c.before.before wide (words c) in omega arith)
    (λ c. let r = room-C c.before.before.before wide (words c.before) in omega arith)
    (λ c. let r = room-C c.before.before.before wide (words c.before) in omega arith)
    (λ c. let r = room-C c.before.before.before wide (words c.before) in omega arith)
    (λ c. let r = room-C c.before.before.before wide (words c.before) in omega arith)
    (λ c κs. few c.requires.0 28)
    (λ c. let r = room-U c.before.before wide_angles (angles c) in omega arith)
    (λ c. let r = room-U c.before.before wide_angles (angles c) in omega arith)
    (λ c. let r = room-U c.before.before wide_angles (angles c) in omega arith)
    (λ c. let r = room-U c.before.before wide_angles (angles c) in omega arith)
    (λ c κs. few c.requires.0 24)
    (λ c. let r = room-U c.before.before narrow (pairs16 c) in omega arith)
    (λ c. let r = room-U c.before.before narrow (pairs16 c) in omega arith)
    (λ c. let r = room-U c.before.before narrow (pairs16 c) in omega arith)
    (λ c. let r = room-U c.before.before narrow (pairs16 c) in omega arith)
    (λ c κs. few c.requires.0 24)
    (λ c. let r = room-U c.before.before narrow_angles (angles16 c) in omega arith)
    (λ c. let r = room-U c.before.before narrow_angles (angles16 c) in omega arith)
    (λ c. let r = room-U c.before.before narrow_angles (angles16 c) in omega arith)
    (λ c. let r = room-U c.before.before narrow_angles (angles16 c) in omega arith)
    (λ c κs. few c.requires.0 24)
    (λ c. let r = room-C c.before.before narrow (words16 c) in omega arith)
    (λ c κs. let r = room-C c.before.before narrow (words16 c) in omega arith)
    (λ c. let r = room-C c.before.before.before narrow (words16 c.before) in omega arith)
    (λ c. let r = room-C c.before.before.before narrow (words16 c.before) in omega arith)
    (λ c. let r = room-C c.before.before.before narrow (words16 c.before) in omega arith)
    (λ c. let r = room-C c.before.before.before narrow (words16 c.before) in omega arith)
    (λ c κs. let p = c.requires in worded p.0 p.1 narrow (words16 c.before.before))
    (λ c. let r = room-C c.before.before encoded (codes16 c) in omega arith)
    (λ c κs. let r = room-C c.before.before encoded (codes16 c) in omega arith)
    (λ c. let r = room-C c.before.before.before encoded (codes16 c.before) in omega arith)
    (λ c. let r = room-C c.before.before.before encoded (codes16 c.before) in omega arith)
    (λ c. let r = room-C c.before.before.before encoded (codes16 c.before) in omega arith)
    (λ c. let r = room-C c.before.before.before encoded (codes16 c.before) in omega arith)
    (λ c κs. let p = c.requires in worded p.0 p.1 encoded (codes16 c.before.before))
    returns
    returns-2
    returns-3
    returns-4
    returns-5
    returns-6
    returns-7
    returns-8)
