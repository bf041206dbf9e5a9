-- The identifiers compared while linking: the check, the normaliser and asking tell as many as the definition counts, and no more than
-- 1,024 for each tuple (`compared`). Assumes nothing.
use mathlib.Core.Path.{◌≡◌, refl, sym, ap, ◌∙◌}
use mathlib.Core.Bool.{Bool}
use mathlib.Core.List.{List, [], ◌∷◌, ◌++◌, append-nil}
use mathlib.Core.Option.{Option, some, none}
use Prim.Native.Nat.{ℕ, suc, ◌+◌, ◌*◌, ◌≤◌}
use native.Mathlib.Omega.{arith}
use borrow.Author.Tests.{leb-false}
use lib.Dec.{lit≤}
use lib.ListN.{length, drop, length-append}
use Rattle.rules.proofs.Laws.{clear}
use Rattle.order.specs.Order.{Bytes}
use Rattle.layout.specs.declared.Counts.{Counts}
use Rattle.layout.specs.declared.SoftwareChannel.{SoftwareChannel}
use Rattle.layout.specs.declared.DocumentId.{DocumentId}
use Rattle.layout.specs.Answer.{Answer}
use Rattle.layout.specs.Answer.{Accepted}
use Rattle.layout.specs.Answer as answers
use Rattle.layout.specs.Verdict.{Fine}
use Rattle.layout.specs.Answers.{judged, is_accepted}
use Rattle.layout.proofs.Verdicts.{passes}
use Rattle.frame.specs.Frames.{Tup, tup_at}
use Rattle.frame.specs.Files.{is_msb}
use Rattle.frame.specs.Tuples.{tuples_of}
use Rattle.links.specs.declared.Sounder.{Sounder}
use Rattle.links.specs.declared.Channel.{Channel}
use Rattle.links.specs.Links as links
use Rattle.links.specs.Links.{Link, Digest, Links, start, most_sounders, most_channels, compares, note, new_sounders, new_channels}
use Rattle.links.proofs.Linked.{Linked, last, next}
use Rattle.links.proofs.Rows.{compares-most}
use Rattle.content.specs.Items.{Item, plain, ping, raw, item_of, digest}
use Rattle.intake.specs.Asked.{Parents}
use Rattle.intake.specs.Check.{Course, begin, check_file}
use Rattle.intake.specs.Compared.{comparisons}
use Rattle.intake.specs.Asking.{course_to, ask_item, ask_course, ask_accepted, ask_checked, ask_at}
use Rattle.intake.proofs.Accepted.{digests, divided}
use Rattle.normal.specs.Normaliser.{normal_rules, normal_counts, behind_check, normal_answer}
use Rattle.demands.specs.Compared.{Compared, Comparisons}

-- ---- no more is declared than may be
pub record Few (ss : List Sounder) (cs : List Channel) : Type 0 where
  pub sounders : length ss ≤ most_sounders
  pub channels : length cs ≤ most_channels

few-more : (ss : List Sounder) (cs : List Channel) (l : Link) → Few ss cs → judged (links.rules_among ss cs l) ≡ Fine
    → Few (ss ++ new_sounders l) (cs ++ new_channels l)
few-more ss cs links.none w e = rw (append-nil ss, append-nil cs) w
few-more ss cs (links.sounder s) w e =
    let r = leb-false most_sounders (length ss) (passes (links.rules_among ss cs (links.sounder s)) e).1.0 in
    rw (append-nil cs) (record { sounders = omega (arith, length-append ss (s ∷ [])); channels = w.channels })
few-more ss cs (links.channel c) w e =
    let r = leb-false most_channels (length cs) (passes (links.rules_among ss cs (links.channel c)) e).1.0 in
    rw (append-nil ss) (record { sounders = w.sounders; channels = omega (arith, length-append cs (c ∷ [])) })
few-more ss cs (links.names c) w e = rw (append-nil ss, append-nil cs) w

-- ---- what linking compares, by the digests of the tuples
unfoldable in_digests : Links → List Digest → ℕ
in_digests k [] = 0
in_digests k (d ∷ ds) = compares k d.link + in_digests (note k d) ds

by-digests : (o : Bool) (k : Links) (ts : List Tup) → comparisons o k ts ≡ in_digests k (digests o ts)
unfolding comparisons in_digests
by-digests o k [] = refl
by-digests o k (t ∷ ts) = ap (λ (n : ℕ). compares k (digest o t).link + n) (by-digests o (note k (digest o t)) ts)

length-digests : (o : Bool) (ts : List Tup) → length (digests o ts) ≡ length ts
length-digests o [] = refl
length-digests o (t ∷ ts) = ap suc (length-digests o ts)

-- one tuple compares no more than there may be channels
one-most : (k : Links) (l : Link) → Few k.sounders k.channels → compares k l ≤ most_channels
one-most k l w = compares-most most_channels k.sounders k.channels (omega (arith, w.sounders)) w.channels l

all_most : {first : Bool} {k : Links} {ds : List Digest} → Linked first k ds → Few k.sounders k.channels
    → in_digests k ds ≤ most_channels * length ds
unfolding in_digests
all_most (last {s = k} {d = d} g j h c n) w = omega (arith, one-most k d.link w)
all_most (next {s = k} {d = d} {ds = ds} g j h l) w =
    let rest : in_digests (note k d) ds ≤ most_channels * length ds = all_most l (few-more k.sounders k.channels d.link w j) in
    omega (arith, one-most k d.link w)

-- ---- the check
checked : (f : List ℕ) (n : Counts) → Bytes f → check_file f ≡ Accepted n → Compared f n
checked f n b e =
    let d = divided f b n e in
    let o = is_msb f in
    let ts = tuples_of f in
    let none : Few start.sounders start.channels = record { sounders = lit≤ tt; channels = lit≤ tt } in
    let most = all_most d.linked none in
    let is : n.compared ≡ comparisons o start ts = ap (λ (m : Counts). m.compared) d.count in
    let many : n.tuples ≡ length ts = ap (λ (m : Counts). m.tuples) d.count in
    record { is = is; most = omega (arith, by-digests o start ts, length-digests o ts) }

-- ---- the normaliser tells what the check told
normalised : (f : List ℕ) (room : ℕ) (n : Counts) → Bytes f → normal_answer f room ≡ Accepted n → Compared f n
unfolding normal_answer
normalised f room n b e = by_answer (check_file f) refl e
  where
    by_answer : (a : Answer) → check_file f ≡ a → behind_check f room a ≡ Accepted n → Compared f n
    by_answer (answers.Refused c p) h q = absurd (let z : ◌≡◌ {A = ℕ} 0 1 = cc in omega arith)
    by_answer (Accepted i) h q =
        let c = clear is_accepted (normal_rules f room) (Accepted (normal_counts f i)) (Accepted n) (refl, (refl, (refl, tt))) q refl in
        let z : normal_counts f i ≡ n = cc c.1 in
        let k = checked f i b h in
        record {
          is = ap (λ (m : Counts). m.compared) (sym z)
              ∙ k.is;
          most = omega (arith, k.most, ap (λ (m : Counts). m.compared) z, ap (λ (m : Counts). m.tuples) z);
        }

-- ---- and so does asking
module _ (f : List ℕ) (p cp r k dp : ℕ) (c : SoftwareChannel) (d : DocumentId) (n : Counts) where
  by-item : (w : Course) (m : Counts) (x : Option Item) → Parents c cp r k d dp n ≡ ask_item w p m x → m ≡ n
  by-item w m none e = absurd (let z : ◌≡◌ {A = ℕ} 0 1 = cc in omega arith)
  by-item w m (some (plain t vs)) e = absurd (let z : ◌≡◌ {A = ℕ} 0 1 = cc in omega arith)
  by-item w m (some (ping q)) e = sym (cc (e))
  by-item w m (some (raw t vs)) e = absurd (let z : ◌≡◌ {A = ℕ} 0 1 = cc in omega arith)

  by-course : (m : Counts) (w : Option Course) → Parents c cp r k d dp n ≡ ask_course f p m w → m ≡ n
  by-course m none e = absurd (let z : ◌≡◌ {A = ℕ} 0 1 = cc in omega arith)
  by-course m (some w) e = by-item w m (item_of (is_msb f) (tup_at (is_msb f) (drop p f))) e

  asked : Bytes f → Parents c cp r k d dp n ≡ ask_at f p → Compared f n
  unfolding ask_at ask_accepted
  asked b e = by_answer (check_file f) refl e
    where
      by_answer : (a : Answer) → check_file f ≡ a → Parents c cp r k d dp n ≡ ask_checked f p a → Compared f n
      by_answer (answers.Refused x y) h q = absurd (let z : ◌≡◌ {A = ℕ} 0 1 = cc in omega arith)
      by_answer (Accepted m) h q = rw (← by-course m (course_to (length f) (is_msb f) f p begin) q) (checked f m b h)

pub compared : Comparisons
compared =
    record {
      check = λ {f} {n} b k. checked f n b (sym k.is);
      normal = λ {f} {out} {left} {n} b k. normalised f (length out) n b (sym k.answer.is);
      ask = λ {f} p {cp} {r} {k} {dp} {c} {d} {n} b q. asked f p cp r k dp c d n b q.is;
    }
