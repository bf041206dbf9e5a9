-- A file with private tuples is accepted where the file without them is, and the other way round. Assumes nothing.
use mathlib.Core.Path.{◌≡◌, refl, sym, ap, ap₂, subst, subst₂, ◌∙◌}
use mathlib.Core.Bool.{Bool, true}
use mathlib.Core.List.{List, [], ◌∷◌, ◌++◌}
use Prim.Native.Nat.{ℕ, ◌+◌, ◌≤◌}
use native.Mathlib.Omega.{arith}
use lib.ListN.{length, drop, length-append}
use lib.Seq.{drop_at}
use Rattle.order.specs.Order.{Bytes}
use Rattle.order.proofs.Laws.{bytes_append}
use Rattle.layout.specs.declared.Counts.{Counts}
use Rattle.layout.specs.Answer.{Accepted}
use Rattle.layout.specs.Answers.{counting}
use Rattle.frame.specs.Frames.{Tup, frame, frames}
use Rattle.frame.specs.Files.{limit, mark, is_msb}
use Rattle.frame.specs.Tuples.{tuples_of, AllFramed}
use Rattle.frame.proofs.Files.{length-mark, msb-mark}
use Rattle.frame.proofs.Tuples.{bytes-frames, tuples_of_lem}
use Rattle.links.specs.Links.{start}
use Rattle.links.proofs.Linked.{Linked}
use Rattle.intake.specs.Check.{check_file}
use Rattle.edits.proofs.Results.{bytes-mark}
use Rattle.intake.proofs.Accepted.{AllSound, digests, counted_all, file-accepted, Divided, divided}
use Rattle.partners.specs.Private.{Part, own, put, own_of, all_of, put_in, AllPrivate, parts_of, Mixed}
use Rattle.partners.specs.Answers.{more, extra, Both}
use Rattle.partners.proofs.Linking.{own-framed, put-sound, own-sound, length-parts, same-compared, put_first, own_first}

-- ---- parts between a first and a last one
pub put-between : (ps : List Part) (z : Tup) → put_in (ps ++ (own z ∷ [])) ≡ put_in ps
put-between [] z = refl
put-between (own t ∷ ps) z = put-between ps z
put-between (put x ∷ ps) z = ap (λ (l : List Tup). x ∷ l) (put-between ps z)

-- ---- a file of a mark and framed tuples
module _ (o : Bool) (ts : List Tup) (g : AllFramed ts) {f : List ℕ} (e : f ≡ mark o ++ frames o ts) where
  pub file-msb : is_msb f ≡ o
  file-msb = ap is_msb e ∙ msb-mark o (frames o ts)

  pub file-tuples : tuples_of f ≡ ts
  file-tuples = ap tuples_of e ∙ tuples_of_lem o ts g

  pub file-bytes : Bytes f
  file-bytes = subst Bytes (sym e) (bytes_append (mark o) (frames o ts) (bytes-mark o) (bytes-frames o ts g))

  -- behind the mark
  pub file-left : drop 4 f ≡ frames o ts
  file-left = ap (drop 4) e ∙ drop_at (mark o) (frames o ts) 4 (length-mark o)

  -- what its acceptance tells of them
  pub file-sound : {n : Counts} → Divided f n → AllSound o ts
  file-sound d = subst₂ AllSound file-msb file-tuples d.sound

  pub file-linked : {n : Counts} → Divided f n → Linked true start (digests o ts)
  file-linked d = subst₂ (λ (x : Bool) (us : List Tup). Linked true start (digests x us)) file-msb file-tuples d.linked

  pub file-counts : {n : Counts} → Divided f n → n ≡ counted_all o ts
  file-counts d = d.count ∙ ap₂ counted_all file-msb file-tuples

module _ {f g : List ℕ} (m : Mixed f g) where
  pub all-private : AllPrivate (put_in (parts_of m))
  all-private = subst AllPrivate (sym (put-between m.parts m.last)) m.private

  pub framed-own : AllFramed (own_of (parts_of m))
  framed-own = own-framed (parts_of m) m.framed

  -- their order and their tuples
  pub order-own : is_msb f ≡ m.msb
  order-own = file-msb m.msb (own_of (parts_of m)) framed-own m.without

  pub order-all : is_msb g ≡ m.msb
  order-all = file-msb m.msb (all_of (parts_of m)) m.framed m.within

  pub tuples-own : tuples_of f ≡ own_of (parts_of m)
  tuples-own = file-tuples m.msb (own_of (parts_of m)) framed-own m.without

  pub tuples-all : tuples_of g ≡ all_of (parts_of m)
  tuples-all = file-tuples m.msb (all_of (parts_of m)) m.framed m.within

  -- what the two files count
  counts-more : counted_all m.msb (all_of (parts_of m)) ≡ more (extra m) (counted_all m.msb (own_of (parts_of m)))
  counts-more =
      let many = length-parts (parts_of m) in
      let few = ap length (put-between m.parts m.last) in
      let a : length (all_of (parts_of m)) ≡ length (own_of (parts_of m)) + extra m = omega (arith, many, few) in
      let c = same-compared m.msb (parts_of m) all-private start in
      λ i. counting (a i) 0 (c i)

  -- ---- put in
  pub accepted : {n : Counts} → check_file f ≡ Accepted n → length g ≤ limit → Both m
  accepted {n} e small =
      let b = file-bytes m.msb (own_of (parts_of m)) framed-own m.without in
      let d = divided f b n e in
      let s = file-sound m.msb (own_of (parts_of m)) framed-own m.without d in
      let l = file-linked m.msb (own_of (parts_of m)) framed-own m.without d in
      let c = file-counts m.msb (own_of (parts_of m)) framed-own m.without d in
      record {
        counts = n;
        without = e;
        within =
            file-accepted g (record {
              msb = m.msb;
              tuples = all_of (parts_of m);
              whole = m.within;
              sound = put-sound m.msb (parts_of m) all-private m.framed s;
              linked = put_first m.msb m.last true start m.first m.parts m.private l;
              small = small;
            })
            ∙ ap Accepted (counts-more ∙ ap (more (extra m)) (sym c));
      }

  -- ---- taken out: the file is no longer for it
  shorter : (ps : List Part) → length (frames m.msb (own_of ps)) ≤ length (frames m.msb (all_of ps))
  shorter [] = omega arith
  shorter (own t ∷ ps) =
      let o = m.msb in
      omega (arith, shorter ps, length-append (frame o t) (frames o (own_of ps)), length-append (frame o t) (frames o (all_of ps)))
  shorter (put x ∷ ps) = let o = m.msb in omega (arith, shorter ps, length-append (frame o x) (frames o (all_of ps)))

  pub taken : {n : Counts} → check_file g ≡ Accepted n → Both m
  taken {n} e =
      let o = m.msb in
      let b = file-bytes o (all_of (parts_of m)) m.framed m.within in
      let d = divided g b n e in
      let s = file-sound o (all_of (parts_of m)) m.framed m.within d in
      let l = file-linked o (all_of (parts_of m)) m.framed m.within d in
      let c = file-counts o (all_of (parts_of m)) m.framed m.within d in
      record {
        counts = counted_all o (own_of (parts_of m));
        without =
            file-accepted f (record {
              msb = o;
              tuples = own_of (parts_of m);
              whole = m.without;
              sound = own-sound o (parts_of m) s;
              linked = own_first o m.last true start m.first m.parts m.private l;
              small =
                  omega (
                    arith,
                    d.small,
                    shorter (parts_of m),
                    ap length m.without,
                    ap length m.within,
                    length-append (mark o) (frames o (own_of (parts_of m))),
                    length-append (mark o) (frames o (all_of (parts_of m))),
                  );
            });
        within = e ∙ ap Accepted (c ∙ counts-more);
      }
