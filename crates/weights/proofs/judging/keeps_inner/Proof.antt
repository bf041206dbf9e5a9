-- `weights::judging::keeps_inner` meets its contract: a ping's samples fill the part between its header and its last 8 bytes. Assumes
-- nothing.
use mathlib.Core.Path.{◌≡◌, refl, sym, ap, ◌∙◌}
use mathlib.Core.Bool.{Bool, true}
use Prim.Native.Nat.{ℕ, ◌+◌, ◌-◌, ◌*◌, ◌/◌, ◌%◌, ◌≤◌}
use native.Mathlib.Omega.{arith}
use lib.ListN.{length, take, drop}
use Rattle.frame.specs.Files.{limit}
use Rattle.layout.specs.Families.{Family, wide, narrow, encoded, wide_angles, narrow_angles, type_u, type_c, has_u, has_c, sample_bytes}
use Rattle.layout.specs.Types.{uncompressed, compressed, listings, shape_of}
use Rattle.layout.proofs.Families.{no_ping}
use Rattle.content.proofs.Families.{shape_u, shape_c}
use Rattle.samples.specs.Judging.{judged_samples, judged_words}
use Rattle.samples16.proofs.Angled.{judged-wide}
use Rattle.frame.specs.Frames.{tup_at}
use Rattle.frame.proofs.Frames.{allowed_4}
use Rattle.order.specs.Order.{num_of}
use Rattle.intake.specs.inner.Tallies.{inner_verdict}
use Rattle.intake.proofs.Judges.{whole, least_u, long_c, no_inner, inner-samples, inner-words}
use Rattle.layout.specs.Answers.{is_fine}
use Rattle.weights.proofs.judging.keeps_inner.Statement.{statement}
use Rattle.weights.proofs.judging.keeps_inner.Tie as tie

-- an arm of the match: the code is the arm's, and so is the shape
arm_u : (p : Family) → has_u p ≡ true → {k : ℕ} → k ≡ type_u p → shape_of k ≡ uncompressed p
arm_u p h e = ap shape_of e ∙ shape_u p h

arm_c : (p : Family) → has_c p ≡ true → {k : ℕ} → k ≡ type_c p → shape_of k ≡ compressed p
arm_c p h e = ap shape_of e ∙ shape_c p h

-- the part that samples fill stands in the file, at a place divisible by 4
record RoomU (p : Family) (at n size : ℕ) : Type 0 where
  some : sample_bytes p ≤ n - 32
  least : 32 ≤ n
  place : (at + 24) % 4 ≡ 0
  within : at + 24 + (n - 32) ≤ size
  part : at + n - 8 - (at + 24) ≡ n - 32

room-U : (s : tie.Start) (p : Family) → shape_of s.args.code ≡ uncompressed p →
    RoomU p s.args.at s.args.whole (length s.args.file.now)
room-U s p e =
    let h = s.requires in
    let l = least_u h.0 h.1.0 p e in
    let f = (whole h.0).fits in
    let z = h.1.1.0.0 in
    omega arith

-- and so for words, of which one of four bytes at least is there
record RoomC (at n size : ℕ) : Type 0 where
  some : 4 ≤ n - 36
  least : 36 ≤ n
  place : (at + 28) % 4 ≡ 0
  within : at + 28 + (n - 36) ≤ size
  part : at + n - 8 - (at + 28) ≡ n - 36
  fours : 4 * ((n - 36) / 4) ≡ n - 36
  twos : 2 * ((n - 36) / 2) ≡ n - 36

room-C : (s : tie.Start) (p : Family) → shape_of s.args.code ≡ compressed p →
    RoomC s.args.at s.args.whole (length s.args.file.now)
room-C s p e =
    let h = s.requires in
    let l = long_c h.0 h.1.0 p e in
    let w = whole h.0 in
    let f = w.fits in
    let four = allowed_4 s.args.whole w.allowed in
    let z = h.1.1.0.0 in
    omega arith

-- ---- what is said of the part is said of the tuple
abbrev Says : tie.Start → Bool → Type 0
Says s r = let a = s.args in r ≡ is_fine (inner_verdict a.msb (tup_at a.msb (drop a.at a.file.now)))

said-U : (s : tie.Start) (p : Family) (e : shape_of s.args.code ≡ uncompressed p) (r : Bool) →
    let a = s.args in
    r ≡ is_fine (judged_samples p a.msb (take (a.whole - 32) (drop (a.at + 24) a.file.now))) → Says s r
said-U s p e r h =
    let a = s.args in
    let q = s.requires in
    h
    ∙ ap (λ (i : ℕ). is_fine (judged_samples p a.msb (take i (drop (a.at + 24) a.file.now)))) (sym (room-U s p e).part)
    ∙ ap is_fine (sym (inner-samples q.0 q.1.0 p e))

said-C : (s : tie.Start) (p : Family) (e : shape_of s.args.code ≡ compressed p) (size count : ℕ) (r : Bool) →
    let a = s.args in
    size ≡ a.whole - 36 → count ≡ num_of a.msb (take 4 (drop (a.at + 24) a.file.now))
    → r ≡ is_fine (judged_words p a.msb count (take size (drop (a.at + 28) a.file.now))) → Says s r
said-C s p e size count r z c h =
    let a = s.args in
    let q = s.requires in
    h
    ∙ (λ i. is_fine (judged_words p a.msb (c i) (take ((z ∙ sym (room-C s p e).part) i) (drop (a.at + 28) a.file.now))))
    ∙ ap is_fine (sym (inner-words q.0 q.1.0 p e))

-- ---- the arms
pairs : (c : tie.In-10000) → shape_of c.args.code ≡ uncompressed wide
pairs c = arm_u wide refl c.in-10000.is

words : (c : tie.In-10010) → shape_of c.args.code ≡ compressed wide
words c = arm_c wide refl c.in-10010.is

angles : (c : tie.In-10001) → shape_of c.args.code ≡ uncompressed wide_angles
angles c = arm_u wide_angles refl c.in-10001.is

shorts : (c : tie.In-10030) → shape_of c.args.code ≡ uncompressed narrow
shorts c = arm_u narrow refl c.in-10030.is

triples : (c : tie.In-10031) → shape_of c.args.code ≡ uncompressed narrow_angles
triples c = arm_u narrow_angles refl c.in-10031.is

words16 : (c : tie.In-10040) → shape_of c.args.code ≡ compressed narrow
words16 c = arm_c narrow refl c.in-10040.is

codes16 : (c : tie.In-10050) → shape_of c.args.code ≡ compressed encoded
codes16 c = arm_c encoded refl c.in-10050.is

-- what rising asks for, by the room
asks-U : (s : tie.Start) (p : Family) (step : ℕ) → shape_of s.args.code ≡ uncompressed p → step ≡ sample_bytes p →
    let a = s.args in
    (((a.at + 24) % 4 ≡ 0) × (length a.file.now ≤ limit))
    × (step ≤ a.whole - 32)
    × (a.at + 24 + (a.whole - 32) ≤ length a.file.now)
asks-U s p step e z =
    let r = room-U s p e in
    ((r.place, s.requires.1.1.0.1), omega (arith, r.some, z), r.within)

-- no ping
none : tie.Need-returns-in_default
unfolding listings
none c =
    let s = c.before.before.before in
    sym (ap is_fine (no_inner s.requires.0 (no_ping s.args.code c.in_default.in_default-own.rest)))

pub keeps_inner_spec : {M : Type 1} → statement M
keeps_inner_spec =
    tie.close
    (tie.spec
    (λ c. let r = room-U c.before.before.before wide (pairs c) in omega (arith, r.within, r.least))
    (λ c. (room-U c.before.before.before wide (pairs c)).least)
    (λ c κs.
    let s = c.before.before.before in
    let q = asks-U s wide _ (pairs c) refl in
    (q.0, ((q.1, refl, q.2), s.requires.1.1.1)))
    (λ c. let r = room-C c.before.before.before wide (words c) in omega (arith, r.within, r.least))
    (λ c κs. let r = room-C c.before.before.before wide (words c) in omega (arith, r.within, r.least))
    (λ c. let r = room-C c.before.before.before.before wide (words c.before) in omega (arith, r.within, r.least))
    (λ c. (room-C c.before.before.before.before wide (words c.before)).least)
    (λ c κs.
    let s = c.before.before.before.before in
    let r = room-C s wide (words c.before) in
    ((r.place, s.requires.1.1.0.1), (omega (arith, r.within, r.fours), s.requires.1.1.1)))
    (λ c. let r = room-U c.before.before.before wide_angles (angles c) in omega (arith, r.within, r.least))
    (λ c. (room-U c.before.before.before wide_angles (angles c)).least)
    (λ c κs.
    let s = c.before.before.before in
    let q = asks-U s wide_angles _ (angles c) refl in
    (q.0, ((q.1, refl, q.2), s.requires.1.1.1)))
    (λ c. let r = room-U c.before.before.before narrow (shorts c) in omega (arith, r.within, r.least))
    (λ c. (room-U c.before.before.before narrow (shorts c)).least)
    (λ c κs.
    let s = c.before.before.before in
    let q = asks-U s narrow _ (shorts c) refl in
    (q.0, ((q.1, refl, q.2), s.requires.1.1.1)))
    (λ c. let r = room-U c.before.before.before narrow_angles (triples c) in omega (arith, r.within, r.least))
    (λ c. (room-U c.before.before.before narrow_angles (triples c)).least)
    (λ c κs.
    let s = c.before.before.before in
    let q = asks-U s narrow_angles _ (triples c) refl in
    (q.0, ((q.1, refl, q.2), s.requires.1.1.1)))
    (λ c. let r = room-C c.before.before.before narrow (words16 c) in omega (arith, r.within, r.least))
    (λ c κs. let r = room-C c.before.before.before narrow (words16 c) in omega (arith, r.within, r.least))
    (λ c. let r = room-C c.before.before.before.before narrow (words16 c.before) in omega (arith, r.within, r.least))
    (λ c. (room-C c.before.before.before.before narrow (words16 c.before)).least)
    (λ c κs.
    let s = c.before.before.before.before in
    let r = room-C s narrow (words16 c.before) in
    ((r.place, s.requires.1.1.0.1), ((omega (arith, r.some), omega (arith, r.within, r.twos)), s.requires.1.1.1)))
    (λ c. let r = room-C c.before.before.before encoded (codes16 c) in omega (arith, r.within, r.least))
    (λ c κs. let r = room-C c.before.before.before encoded (codes16 c) in omega (arith, r.within, r.least))
    (λ c. let r = room-C c.before.before.before.before encoded (codes16 c.before) in omega (arith, r.within, r.least))
    (λ c. (room-C c.before.before.before.before encoded (codes16 c.before)).least)
    (λ c κs.
    let s = c.before.before.before.before in
    let r = room-C s encoded (codes16 c.before) in
    ((r.place, s.requires.1.1.0.1), ((omega (arith, r.some), omega (arith, r.within, r.twos)), s.requires.1.1.1)))
    (λ c. said-U c.before.before.before.before wide (pairs c.before) _ c.rise.ensures)
    (λ c.
    let s = c.before.before.before.before.before in
    let e = words c.before.before in
    said-C s wide e _ _ _ (room-C s wide e).fours c.read4-count.ensures c.count4.ensures)
    (λ c.
    let s = c.before.before.before.before in
    said-U s wide_angles (angles c.before) _ (c.rise-in-10001.ensures ∙ ap is_fine (judged-wide s.args.msb _)))
    (λ c. said-U c.before.before.before.before narrow (shorts c.before) _ c.rise-in-10030.ensures)
    (λ c. said-U c.before.before.before.before narrow_angles (triples c.before) _ c.rise-in-10031.ensures)
    (λ c.
    let s = c.before.before.before.before.before in
    let e = words16 c.before.before in
    said-C s narrow e _ _ _ (room-C s narrow e).twos c.read4-count-in-10040.ensures c.count2.ensures)
    (λ c.
    let s = c.before.before.before.before.before in
    let e = codes16 c.before.before in
    said-C s encoded e _ _ _ (room-C s encoded e).twos c.read4-count-in-10050.ensures c.count2-in-10050.ensures)
    none)
