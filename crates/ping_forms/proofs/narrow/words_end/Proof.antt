-- `ping_forms::narrow::words_end` meets its contract: the words that are held stand behind the number of samples. Assumes nothing.
use mathlib.Core.Path.{◌≡◌, sym, ap, ◌∙◌}
use Prim.Native.Nat.{ℕ, ◌+◌, ◌-◌, ◌≤◌}
use native.Mathlib.Omega.{arith}
use lib.ListN.{length, take, drop}
use Rattle.turning.proofs.Contents.{within-take}
use Rattle.samples.specs.Words.{all_words}
use Rattle.samples.specs.Values.{held_words}
use Rattle.layout.specs.Families.{narrow}
use Rattle.ping_forms.specs.inner.Parts.{part_at, count_at}
use Rattle.ping_forms.proofs.Placed.{most, part_length_lem}
use Rattle.ping_forms.proofs.Words16.{long, words-part, held_by_lem}
use Rattle.ping_forms.proofs.narrow.words_end.Statement.{statement}
use Rattle.ping_forms.proofs.narrow.words_end.Tie as tie

-- the ping has room for its header and its last 8 bytes, and stands in the file
abbrev Room : tie.Start → Type 0
Room s = let a = s.args in (40 ≤ a.whole) × (a.whole ≤ 262144) × (a.at + a.whole ≤ length a.file.now)

room : (s : tie.Start) → Room s
room s = (long s.args.encoded s.requires, (most s.requires).1, (most s.requires).2)

returns : tie.Need-returns
returns c =
    let read = c.before in
    let s = read.before.before.before in
    let a = s.args in
    let r = c.held.result in
    let part = part_at a.file.now a.at a.whole 28 in
    let size : length part ≡ a.whole - 36 = part_length_lem s.requires 28 (omega (arith, (room s).0)) in
    let bounds = c.held.ensures.1 in
    let inside : take r part ≡ take r (drop (a.at + 28) a.file.now) =
    within-take (a.at + (a.whole - 8) - (a.at + 28)) 0 r (drop (a.at + 28) a.file.now) (omega (arith, bounds.0, room s)) in
    let place : a.at + (28 + r) - (a.at + 28) ≡ r = omega arith in
    record {
      words =
          ap (λ (i : ℕ). all_words 2 a.msb (take i (drop (a.at + 28) a.file.now))) place
          ∙ ap (all_words 2 a.msb) (sym inside)
          ∙ c.held.ensures.0
          ∙ ap (λ (i : ℕ). held_words narrow i (all_words 2 a.msb part)) read.read4-count.ensures
          ∙ held_by_lem a.encoded a.msb (count_at a.msb a.file.now a.at) part;
      least = omega (arith, bounds.1, (room s).0);
      most = omega (arith, bounds.0, (room s).0);
      even = omega (arith, bounds.2);
    }

pub words_end_spec : {M : Type 1} → statement M
words_end_spec =
    tie.close
    (tie.spec
    (λ c. let r = room c.before in omega arith)
    (λ c. let r = room c.before in omega arith)
    (λ c. let r = room c.before in omega arith)
    (λ c. let r = room c.before in omega arith)
    (λ c. let r = room c.before in omega arith)
    (λ c. let r = room c.before in omega arith)
    (λ c. let r = room c.before.before in omega arith)
    (λ c κs. let r = room c.before.before in omega arith)
    (λ c κs. let s = c.before.before.before in let p = words-part s.args.encoded s.requires in (omega arith, (omega arith, p.2)))
    (λ c. let s = c.before.before.before.before in omega (
      arith,
      c.held.ensures.1,
      room s,
      part_length_lem s.requires 28
          (omega (arith, (room s).0)),
    ))
    returns)
