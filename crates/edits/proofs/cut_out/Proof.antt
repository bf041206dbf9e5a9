-- `edits::cut_out` meets its contract: the file is cut before the tuple, behind it, and at its end of file. Assumes nothing.
use mathlib.Core.Path.{◌≡◌, refl, ap, subst, ◌∙◌}
use mathlib.Core.Bool.{Bool}
use mathlib.Core.List.{List}
use Prim.Native.Nat.{ℕ, ◌+◌, ◌≤◌}
use native.Mathlib.Omega.{arith}
use borrow.Author.Rules.{rules}
use lib.ListN.{length, drop}
use Rattle.order.specs.Order.{Bytes}
use Rattle.order.proofs.Laws.{bytes_of_lem}
use Rattle.layout.specs.Views.{as_answer}
use Rattle.frame.specs.Frames.{len_at, length_of, frames}
use Rattle.index.specs.Index.{before_end}
use Rattle.edits.specs.inner.Parts.{Rewritten}
use Rattle.edits.proofs.Ends.{taken_4}
use Rattle.edits.proofs.Places.{Coming, coming-next, next-size, next-within, next-long, sought-file}
use Rattle.edits.proofs.Anew.{end-behind, removed-within, removed-cut, removed-result}
use Rattle.edits.proofs.cut_out.Statement.{statement}
use Rattle.edits.proofs.cut_out.Tie as tie

-- places, named by what has been done there
abbrev start : tie.After-slice_known-1 → tie.Start
start c = c.before.before

abbrev ordered : tie.After-length_at → tie.After-is_msb-msb
ordered c = c.before

abbrev sized : tie.After-find_end → tie.After-length_at
sized c = c.before.before

bytes : (c : tie.After-slice_known-1) → Bytes (start c).args.file.now
bytes c = bytes_of_lem (start c).args.file.now (λ i. (c.shared_slice_known-1.given i).fits)

four : (c : tie.After-slice_known-1) → 4 ≤ length (start c).args.file.now
four c = taken_4 (start c).args.file.now (bytes c) _ (start c).requires.0

-- the tuple that is cut out
abbrev it : (c : tie.After-slice_known-1) → let s = start c in
    Coming s.args.file.now (bytes c) s.args.counts s.requires.0 s.args.at s.args.at s.requires.1.0.between
it c =
    let s = start c in
    coming-next s.args.file.now (bytes c) s.args.counts s.requires.0 s.args.at s.args.at s.requires.1.0.between
    s.requires.1.1

-- it is within the file
room : (c : tie.After-slice_known-1) → let s = start c in
    (s.args.at + length_of (it c).tuple ≤ length s.args.file.now) × (16 ≤ length_of (it c).tuple)
room c =
    let s = start c in (
      next-within s.args.file.now (bytes c) s.args.counts s.requires.0 s.args.at s.args.at s.requires.1.0.between
          s.requires.1.1,
      next-long s.args.file.now (bytes c) s.args.counts s.requires.0 s.args.at s.args.at s.requires.1.0.between
          s.requires.1.1,
    )

-- where it ends
next-is : (c : tie.After-length_at) → let k = (ordered c).before in let s = start k in
    s.args.at + c.length_at.result ≡ s.args.at + length_of (it k).tuple
next-is c =
    let i = ordered c in
    let k = i.before in
    let s = start k in
    ap (λ (m : ℕ). s.args.at + m)
    (c.length_at.ensures
    ∙ ap (λ (o : Bool). len_at o (drop s.args.at s.args.file.now)) i.is_msb-msb.ensures
    ∙ next-size s.args.file.now (bytes k) s.args.counts s.requires.0 s.args.at s.args.at s.requires.1.0.between
    s.requires.1.1)

next-within-file : (c : tie.After-length_at) → let s = start (ordered c).before in
    s.args.at + c.length_at.result ≤ length s.args.file.now
next-within-file c = omega (arith, next-is c, (room (ordered c).before).0)

-- where the end of file stands behind it
end_is : (c : tie.After-find_end) → let l = sized c in let i = ordered l in let s = start i.before in
    s.args.at + l.length_at.result + c.find_end.result
    ≡ s.args.at + l.length_at.result + length (frames i.is_msb-msb.result (before_end (it i.before).later))
end_is c =
    let l = sized c in
    let i = ordered l in
    let k = i.before in
    let s = start k in
    let t = it k in
    end-behind s.args.file.now (bytes k) s.args.counts s.requires.0 i.is_msb-msb.result i.is_msb-msb.ensures
    s.requires.1.0.between.passed
    t.tuple t.later t.all s.args.at s.requires.1.0.between.place _ (next-is l) _ c.find_end.ensures

within : (c : tie.After-find_end) → let l = sized c in let s = start (ordered l).before in
    (s.args.at ≤ s.args.at + l.length_at.result)
    × (s.args.at + l.length_at.result ≤ s.args.at + l.length_at.result + c.find_end.result)
    × (s.args.at + l.length_at.result + c.find_end.result ≤ length s.args.file.now)
within c =
    let l = sized c in
    let i = ordered l in
    let k = i.before in
    let s = start k in
    let t = it k in
    removed-within s.args.file.now (bytes k) s.args.counts s.requires.0 i.is_msb-msb.result i.is_msb-msb.ensures
    s.requires.1.0.between.passed
    t.tuple t.later t.all s.args.at s.requires.1.0.between.place _ (next-is l) _ (end_is c)

rewrite-requires : tie.Need-rewrite-requires
rewrite-requires c κs =
    let e = c.before.before.before.before in
    let l = sized e in
    let i = ordered l in
    let k = i.before in
    let s = start k in
    let t = it k in
    removed-cut s.args.file.now (bytes k) s.args.counts s.requires.0 i.is_msb-msb.result i.is_msb-msb.ensures
    s.requires.1.0.between.passed
    t.tuple t.later t.all s.args.at s.requires.1.0.between.place _ (next-is l) _ (end_is e)

returns : tie.Need-returns
returns c =
    let r = c.before.before in
    let e = r.before.before.before.before.before in
    let l = sized e in
    let i = ordered l in
    let k = i.before in
    let s = start k in
    let t = it k in
    subst (λ (g : List ℕ). Rewritten g s.args.counts s.args.out.now (as_answer r.rewrite.result) r.rewrite.new.out)
    (removed-result s.args.file.now (bytes k) s.args.counts s.requires.0 i.is_msb-msb.result i.is_msb-msb.ensures
    s.requires.1.0.between.passed
    t.tuple t.later t.all s.args.at s.requires.1.0.between.place _ (next-is l) _ (end_is e)
    ∙ sought-file s.args.file.now (bytes k) s.args.counts s.requires.0 s.args.at s.args.at s.requires.1.0
    s.requires.1.1 refl)
    r.rewrite.ensures

pub cut_out_spec : {M : Type 1} → statement M
cut_out_spec =
    tie.close
    (tie.spec
    (λ c κs. four c)
    (λ c κs. omega (arith, (room c.before).0, (room c.before).1))
    (λ c. omega (arith, next-within-file c, (start (ordered c).before).well_formed))
    (λ c. omega (arith, next-within-file c))
    next-within-file
    (λ c. search rules)
    (λ c κs. search rules)
    (λ c. omega (arith, (within c).2, (start (ordered (sized c)).before).well_formed))
    (λ c. search rules)
    (λ c. search rules)
    (λ c. omega (arith, (within c).0, (within c).1, (within c).2))
    (λ c. search rules)
    (λ c. search rules)
    (λ c. (within c.before).2)
    (λ c. omega (arith, (within c.before.before).2))
    (λ c. (within c.before.before).2)
    (λ c. search rules)
    rewrite-requires
    (λ c. search rules)
    returns)
