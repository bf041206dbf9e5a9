-- What is told by every call of the three that its promise allows (specs/Results.antt). Assumes nothing.
use mathlib.Core.Path.{◌≡◌, refl, sym, ap, ap₂, subst, ◌∙◌}
use mathlib.Core.Bool.{Bool, true, false, cond, true≢false}
use mathlib.Core.List.{List, [], ◌∷◌, ◌++◌, append_assoc, append-nil}
use mathlib.Core.Option.{Option, some}
use Prim.Native.Nat.{ℕ, ◌+◌, ◌≤◌}
use native.Mathlib.Omega.{arith}
use borrow.Author.Tests.{le-ltb}
use lib.Dec.{ltb, eqb}
use lib.ListN.{length, take, drop, length-append}
use lib.Seq.{take_at}
use Rattle.order.specs.Order.{Bytes}
use Rattle.rules.specs.Rules.{◌⇒◌, first_of}
use Rattle.rules.specs.Rules.First.{none, pass}
use Rattle.rules.proofs.Laws.{first_eq}
use Rattle.layout.specs.declared.Counts.{Counts}
use Rattle.layout.specs.Answer.{Answer}
use Rattle.layout.specs.Answer.{Accepted, Refused}
use Rattle.layout.specs.Answers.{left_by}
use Rattle.layout.specs.Types
use Rattle.layout.specs.Types.{in_class, classes}
use Rattle.frame.specs.Frames.{Tup, length_of, frame, frames, Framed}
use Rattle.frame.specs.Files.{limit, mark, is_msb}
use Rattle.frame.specs.Tuples.{tuples_of, AllFramed}
use Rattle.frame.proofs.Frames.{length-frame}
use Rattle.frame.proofs.Tuples.{bytes-frames, framed-left, framed-right, framed_join}
use Rattle.intake.specs.Check.{writing, check_file}
use Rattle.links.specs.Links.{start}
use Rattle.intake.proofs.Accepted
use Rattle.intake.proofs.Accepted.{refusal}
use Rattle.index.specs.Index.{index_of, before_end, from_end, with_index, outside, reindexed}
use Rattle.index.proofs.Laws.{end-split, reindexed-sound, reindexed-linked}
use Rattle.index.proofs.Fresh.{outside-next, outside_append, outside-again, reindexed-parts}
use Rattle.edits.specs.Edits.{rewritten, anew, indexed_file, appended_file, removed_file, removed_by, tuples_in}
use Rattle.edits.specs.Edits.{without, behind, behind_result, result_answer, behind_file, index_answer, append_rules}
use Rattle.edits.specs.Edits.{append_answer, remove_by}
use Rattle.edits.specs.Edits.{remove_answer, Edited, Indexed, Appended, Removed}
use Rattle.edits.specs.Results.{Anew, Handed, with_tuples, behind_kept, Without, Edits}
use Rattle.edits.proofs.Dividing.{divided, rest_in_lem}
use Rattle.edits.proofs.Results.{accepted-divides}
use Rattle.edits.proofs.Ends.{all-taken}
use Rattle.edits.proofs.Anew.{parts-result, joined-whole}
use Rattle.edits.proofs.Places.{without-here, without-next}
use Rattle.edits.proofs.Holding.{result-anew, result-tuples, result-order, result-bytes}

-- ---- what an acceptance tells
-- of the result
pub record Accepting (g : List ℕ) (m n : Counts) : Type 0 where
  pub counts : Counts
  pub accepted : check_file g ≡ Accepted counts
  pub told : n ≡ writing m (length g)

accepting : (g : List ℕ) (room : ℕ) (m n : Counts) → result_answer g room m ≡ Accepted n → Accepting g m n
unfolding result_answer
accepting g room m n e = by-check (check_file g) refl e
  where
    by-room : (k : Counts) → check_file g ≡ Accepted k → (b : Bool)
        → first_of ((b ⇒ Refused 19 0) ∷ []) (Accepted (writing m (length g))) ≡ Accepted n
        → Accepting g m n
    by-room k c true h = refusal 19 0 n h
    by-room k c false h = record { counts = k; accepted = c; told = sym (inner h) }
      where
        counts_in : Answer → Counts
        counts_in (Accepted x) = x
        counts_in (Refused c p) = n

        inner : Accepted (writing m (length g)) ≡ Accepted n → writing m (length g) ≡ n
        inner z = ap counts_in z

    by-check : (a : Answer) → check_file g ≡ a → behind_result g room m a ≡ Accepted n → Accepting g m n
    by-check (Accepted k) c h = by-room k c (ltb room (length g)) h
    by-check (Refused c p) q h = refusal c p n h

-- of the file handed in
pub record Behind (k : Counts → Answer) (f : List ℕ) (n : Counts) : Type 0 where
  pub counts : Counts
  pub accepted : check_file f ≡ Accepted counts
  pub told : k counts ≡ Accepted n

behind-file : (k : Counts → Answer) (f : List ℕ) (n : Counts) → behind_file k (check_file f) ≡ Accepted n → Behind k f n
behind-file k f n e = by-check (check_file f) refl e
  where
    by-check : (a : Answer) → check_file f ≡ a → behind_file k a ≡ Accepted n → Behind k f n
    by-check (Accepted m) c h = record { counts = m; accepted = c; told = h }
    by-check (Refused c p) q h = refusal c p n h

-- what is handed over is the result
handed-over : (said : Answer) (result out left : List ℕ) (n : Counts) → Edited said result out (Accepted n) left
    → n.written ≡ length result
    → take n.written left ≡ result
handed-over said result out left n p e =
    ap₂ take e (p.memory ∙ ap (λ (a : Answer). left_by a result out) (sym p.answer.is))
    ∙ take_at result (drop (length result) out) (length result) refl

-- ---- tuples of which one is left out
some_inj : (us vs : List Tup) → some us ≡ some vs → us ≡ vs
some_inj us vs e = ap inside e
  where
    inside : Option (List Tup) → List Tup
    inside Option.none = us
    inside (some ts) = ts

none-some : {A : Type 0} (ts : List Tup) → Option.none ≡ some ts → A
none-some ts e = absurd (true≢false (sym (ap is_some e)))
  where
    is_some : Option (List Tup) → Bool
    is_some Option.none = false
    is_some (some ts) = true

without-framed : (p at : ℕ) (us ts : List Tup) → AllFramed us → without p at us ≡ some ts → AllFramed ts
unfolding without
without-framed p at [] ts g e = none-some ts e
without-framed p at (u ∷ us) ts g e =
    by_test (eqb at p) (without p (at + length_of u) us) refl (λ vs h. without-framed p (at + length_of u) us vs g.1 h) e
  where
    by_test : (b : Bool) (x : Option (List Tup)) → without p (at + length_of u) us ≡ x
        → ((vs : List Tup) → without p (at + length_of u) us ≡ some vs → AllFramed vs)
        → cond b (some us) (behind u x) ≡ some ts
        → AllFramed ts
    by_test true x h ih z = subst AllFramed (some_inj us ts z) g.1
    by_test false Option.none h ih z = none-some ts z
    by_test false (some vs) h ih z = subst AllFramed (some_inj (u ∷ vs) ts z) (g.0, ih vs h)

module _ (f : List ℕ) (bf : Bytes f) where
  abbrev o : Bool
  o = is_msb f

  halves : (n : Counts) → check_file f ≡ Accepted n → AllFramed (before_end (tuples_of f) ++ from_end (tuples_of f))
  halves n e = subst AllFramed (sym (end-split (tuples_of f))) (all-taken f bf n e)

  -- ---- the index written
  index-result : {g : List ℕ} → Handed (Indexed f) g → (n : Counts) ×
      ((m : Counts) × ((check_file f ≡ Accepted n) × ((check_file (indexed_file f) ≡ Accepted m) × (g ≡ indexed_file f))))
  unfolding index_answer
  index-result h =
      let b = behind-file (result_answer (indexed_file f) (length h.out)) f h.counts (sym h.promise.answer.is) in
      let a = accepting (indexed_file f) (length h.out) b.counts h.counts b.told in (
        b.counts,
        (
          a.counts,
          (
            b.accepted,
            (
              a.accepted,
              h.written ∙ handed-over (index_answer f (length h.out)) (indexed_file f) h.out h.left h.counts h.promise
                  (ap (λ (c : Counts). c.written) a.told),
            ),
          ),
        ),
      )

  anew_of : (ts : List Tup) → AllFramed (before_end ts ++ from_end ts) → (m : Counts) → check_file (anew (is_msb f) ts) ≡ Accepted m
      → Anew (is_msb f) ts (anew (is_msb f) ts)
  anew_of ts g m e =
      subst (λ (us : List Tup). Anew (is_msb f) us (anew (is_msb f) ts)) (end-split ts)
      (result-anew (is_msb f) (before_end ts) ts (framed-left (before_end ts) (from_end ts) g) (framed-right (before_end ts) (from_end ts) g) m e)

  index-anew : {g : List ℕ} → Handed (Indexed f) g → Anew (is_msb f) (tuples_of f) g
  unfolding indexed_file
  index-anew h =
      let r = index-result h in
      subst (Anew (is_msb f) (tuples_of f)) (sym r.1.1.1.1)
      (anew_of (tuples_of f) (halves r.0 r.1.1.0) r.1.0 r.1.1.1.0)

  -- ---- tuples appended
  module _ (bytes : List ℕ) where
    append_result : {g : List ℕ} → Handed (Appended f bytes) g
        → (n : Counts) × ((m : Counts) ×
        ((check_file f ≡ Accepted n) × ((check_file (appended_file f bytes) ≡ Accepted m) × (g ≡ appended_file f bytes))))
    unfolding append_answer
    append_result h =
        let room = length h.out in
        let b = behind-file (λ n. first_of (append_rules bytes) (result_answer (appended_file f bytes) room n)) f h.counts
        (sym h.promise.answer.is) in
        let a = accepting (appended_file f bytes) room b.counts h.counts
        (within-limit (ltb limit (length bytes)) (result_answer (appended_file f bytes) room b.counts) h.counts b.told) in (
          b.counts,
          (
            a.counts,
            (
              b.accepted,
              (
                a.accepted,
                h.written ∙ handed-over (append_answer f bytes room) (appended_file f bytes) h.out h.left h.counts h.promise
                    (ap (λ (c : Counts). c.written) a.told),
              ),
            ),
          ),
        )
      where
        within-limit : (b : Bool) (a : Answer) (n : Counts) → first_of ((b ⇒ Refused 1 0) ∷ []) a ≡ Accepted n → a ≡ Accepted n
        within-limit true a n e = refusal 1 0 n e
        within-limit false a n e = e

    -- bytes of an accepted result divide
    module _ (bb : Bytes bytes) (n m : Counts) (e : check_file f ≡ Accepted n) (c : check_file (appended_file f bytes) ≡ Accepted m) where
      abbrev us : List Tup
      us = before_end (tuples_of f)

      abbrev vs : List Tup
      vs = from_end (tuples_of f)

      framed-us : AllFramed (before_end (tuples_of f))
      framed-us = framed-left us vs (halves n e)

      framed-vs : AllFramed (from_end (tuples_of f))
      framed-vs = framed-right us vs (halves n e)

      whole : bytes ≡ frames (is_msb f) (tuples_in (is_msb f) bytes)
      unfolding appended_file
      whole =
          let o = is_msb f in
          let r = parts-result o us vs framed-us framed-vs (frames o us) bytes (frames o vs) refl refl in
          let none = accepted-divides o (frames o us) bytes (frames o vs) (bytes-frames o us framed-us) bb (rest_in_lem o us framed-us) m
          (ap check_file r ∙ c) in
          (divided o bytes bb).bytes ∙ ap (λ (l : List ℕ). frames o (tuples_in o bytes) ++ l) none ∙ append-nil (frames o (tuples_in o bytes))

      pub append_whole : appended_file f bytes ≡ rewritten (is_msb f) (before_end (tuples_of f) ++ tuples_in (is_msb f) bytes)
          (from_end (tuples_of f))
      unfolding appended_file
      append_whole =
          let o = is_msb f in
          joined-whole o us vs framed-us framed-vs (tuples_in o bytes) (divided o bytes bb).framed bytes whole

    append_anew : {g : List ℕ} → Bytes bytes → Handed (Appended f bytes) g → Anew (is_msb f) (with_tuples f bytes) g
    append_anew bb h =
        let r = append_result h in
        let o = is_msb f in
        let us = before_end (tuples_of f) in
        let w = append_whole bb r.0 r.1.0 r.1.1.0 r.1.1.1.0 in
        subst (Anew o (with_tuples f bytes)) (sym (r.1.1.1.1 ∙ w))
        (result-anew o (us ++ tuples_in o bytes) (tuples_of f)
        (framed_join us (tuples_in o bytes) (framed-left us (from_end (tuples_of f)) (halves r.0 r.1.1.0))
        (divided o bytes bb).framed)
        (framed-right us (from_end (tuples_of f)) (halves r.0 r.1.1.0)) r.1.0 (ap check_file (sym w) ∙ r.1.1.1.0))

  -- ---- a tuple removed
  module _ (p : ℕ) where
    -- the tuples that are left, and that the check accepts them
    pub record Left (g : List ℕ) : Type 0 where
      pub taken : Counts
      pub accepts : check_file f ≡ Accepted taken
      pub tuples : List Tup
      pub found : without p 4 (tuples_of f) ≡ some tuples
      pub counts : Counts
      pub accepted : check_file (anew (is_msb f) tuples) ≡ Accepted counts
      pub result : g ≡ anew (is_msb f) tuples

    remove_result : {g : List ℕ} → Handed (Removed f p) g → Left g
    unfolding remove_answer removed_file
    remove_result {g} h =
        let room = length h.out in
        let b = behind-file (remove_by f p room (without p 4 (tuples_of f))) f h.counts (sym h.promise.answer.is) in
        by-found (without p 4 (tuples_of f)) refl b b.told
      where
        by-found : (x : Option (List Tup)) → without p 4 (tuples_of f) ≡ x
            → (b : Behind (remove_by f p (length h.out) (without p 4 (tuples_of f))) f h.counts)
            → remove_by f p (length h.out) x b.counts ≡ Accepted h.counts
            → Left g
        by-found Option.none e b t = refusal 3 p h.counts t
        by-found (some ts) e b t =
            let a = accepting (anew (is_msb f) ts) (length h.out) b.counts h.counts t in
            let r : removed_file f p ≡ anew (is_msb f) ts = ap (removed_by (is_msb f)) e in
            record {
              taken = b.counts;
              accepts = b.accepted;
              tuples = ts;
              found = e;
              counts = a.counts;
              accepted = a.accepted;
              result = h.written
                  ∙ handed-over (remove_answer f p (length h.out)) (removed_file f p) h.out h.left h.counts h.promise
                  (ap (λ (c : Counts). c.written) a.told ∙ ap length (sym r))
                  ∙ r;
            }

    remove_anew : {g : List ℕ} → Handed (Removed f p) g → (w : Without f p) × Anew (is_msb f) w.tuples g
    remove_anew {g} h =
        let l = remove_result h in
        let framed = without-framed p 4 (tuples_of f) l.tuples (all-taken f bf l.taken l.accepts) l.found in (
          record { tuples = l.tuples; found = l.found },
          subst (Anew (is_msb f) l.tuples) (sym l.result)
              (anew_of l.tuples (subst AllFramed (sym (end-split l.tuples)) framed) l.counts l.accepted),
        )

-- ---- what the check would say
index-said : (f out : List ℕ) {left : List ℕ} {r : Answer} {n : Counts} {c p : ℕ} → Indexed f out r left → check_file f ≡ Accepted n
    → check_file (indexed_file f) ≡ Refused c p → r ≡ Refused c p
unfolding index_answer result_answer
index-said f out {n = n} w e g =
    w.answer.is
    ∙ ap (behind_file (result_answer (indexed_file f) (length out))) e
    ∙ ap (behind_result (indexed_file f) (length out) n) g

append_said_lem : (f bytes out : List ℕ) {left : List ℕ} {r : Answer} {n : Counts} {c p : ℕ} → Appended f bytes out r left
    → check_file f ≡ Accepted n → length bytes ≤ limit
    → check_file (appended_file f bytes) ≡ Refused c p → r ≡ Refused c p
unfolding append_answer result_answer
append_said_lem f bytes out {n = n} w e l g =
    w.answer.is
    ∙ ap (behind_file (λ m. first_of (append_rules bytes) (result_answer (appended_file f bytes) (length out) m))) e
    ∙ sym (first_eq {rs = append_rules bytes} {d = result_answer (appended_file f bytes) (length out) n}
    (pass (le-ltb limit (length bytes) l) none))
    ∙ ap (behind_result (appended_file f bytes) (length out) n) g

remove_said_lem : (f : List ℕ) (at : ℕ) (out : List ℕ) {left : List ℕ} {r : Answer} {n : Counts} {c p : ℕ} → Removed f at out r left
    → check_file f ≡ Accepted n → Without f at
    → check_file (removed_file f at) ≡ Refused c p → r ≡ Refused c p
unfolding remove_answer result_answer removed_file
remove_said_lem f at out {n = n} w e x g =
    let h = anew (is_msb f) x.tuples in
    let z : removed_file f at ≡ h = ap (removed_by (is_msb f)) x.found in
    w.answer.is
    ∙ ap (behind_file (remove_by f at (length out) (without at 4 (tuples_of f)))) e
    ∙ ap (λ (y : Option (List Tup)). remove_by f at (length out) y n) x.found
    ∙ ap (behind_result h (length out) n) (ap check_file (sym z) ∙ g)

-- ---- a tuple left out by its place
without_at : (o : Bool) (at : ℕ) (us : List Tup) (t : Tup) (vs : List Tup)
    → without (at + length (frames o us)) at (us ++ (t ∷ vs)) ≡ some (us ++ vs)
without_at o at [] t vs = without-here (at + 0) at t vs (omega arith)
without_at o at (u ∷ us) t vs =
    let n : length (frames o (u ∷ us)) ≡ length_of u + length (frames o us) = length-append (frame o u) (frames o us)
    ∙ ap (λ (k : ℕ). k + length (frames o us)) (length-frame o u) in
    let p : at + length (frames o (u ∷ us)) ≡ at + length_of u + length (frames o us) = omega (arith, n) in
    without-next (at + length (frames o (u ∷ us))) at u (us ++ (t ∷ vs)) (λ e. omega (arith, e, n))
    ∙ ap (behind u)
    (ap (λ (k : ℕ). without k (at + length_of u) (us ++ (t ∷ vs))) p ∙ without_at o (at + length_of u) us t vs)

-- a file anew hangs on the tuples outside the index class alone
anew-parts : (o : Bool) (ts : List Tup) → anew o ts ≡ mark o ++ frames o (reindexed o ts)
unfolding rewritten
anew-parts o ts =
    ap (λ (us : List Tup). mark o ++ frames o (outside (before_end ts) ++ (index_of o us ∷ outside (from_end ts)))) (end-split ts)
    ∙ ap (λ (us : List Tup). mark o ++ frames o us) (sym (reindexed-parts o ts))

anew-same : (o : Bool) (ts us : List Tup) → outside ts ≡ outside us → anew o ts ≡ anew o us
anew-same o ts us e = anew-parts o ts ∙ ap (λ (x : List Tup). mark o ++ frames o (with_index o x)) e ∙ sym (anew-parts o us)

-- ---- the index can be written
indexable-file : (f : List ℕ) {n : Counts} → Bytes f → check_file f ≡ Accepted n → length (indexed_file f) ≤ limit
    → (m : Counts) × (check_file (indexed_file f) ≡ Accepted m)
unfolding indexed_file
indexable-file f {n} b e h =
    let d = Accepted.divided f b n e in
    let o = is_msb f in
    let ts = tuples_of f in (
      _,
      Accepted.file-accepted (indexed_file f)
          (record {
            msb = o;
            tuples = reindexed o ts;
            whole = anew-parts o ts;
            sound = reindexed-sound o ts d.sound;
            linked = reindexed-linked o true start ts d.linked;
            small = h;
          }),
    )

-- ---- removing undoes appending
-- an index between tuples outside its class
outside-between : (us vs : List Tup) (x : Tup) → in_class Types.index x.kind ≡ true
    → outside (outside us ++ (x ∷ outside vs)) ≡ outside (us ++ vs)
outside-between us vs x e =
    outside_append (outside us) (x ∷ outside vs)
    ∙ ap₂ (λ (ps qs : List Tup). ps ++ qs) (outside-again us) (outside-next x (outside vs) true e ∙ outside-again vs)
    ∙ sym (outside_append us vs)

module _ (f : List ℕ) (bf : Bytes f) (t : Tup) (gt : Framed t) (out_of_lem : in_class Types.index t.kind ≡ false) where
  -- the index that the appending leaves
  X : Tup
  X = index_of (is_msb f) ((before_end (tuples_of f) ++ (t ∷ [])) ++ from_end (tuples_of f))

  one-framed : AllFramed (t ∷ [])
  one-framed = (gt, tt)

  one-frame : frame (is_msb f) t ≡ frames (is_msb f) (t ∷ [])
  one-frame = sym (append-nil (frame (is_msb f) t))

  kept-one : outside (before_end (tuples_of f) ++ (t ∷ [])) ≡ outside (before_end (tuples_of f)) ++ (t ∷ [])
  unfolding outside
  kept-one =
      outside_append (before_end (tuples_of f)) (t ∷ [])
      ∙ ap (λ (l : List Tup). outside (before_end (tuples_of f)) ++ l) (outside-next t [] false out_of_lem)

  module _ (n : Counts) (e : check_file f ≡ Accepted n) where
    appended_one : appended_file f (frame (is_msb f) t) ≡ rewritten (is_msb f) (before_end (tuples_of f) ++ (t ∷ [])) (from_end (tuples_of f))
    unfolding appended_file
    appended_one =
        joined-whole (is_msb f) (before_end (tuples_of f)) (from_end (tuples_of f))
        (framed-left (before_end (tuples_of f)) (from_end (tuples_of f)) (halves f bf n e))
        (framed-right (before_end (tuples_of f)) (from_end (tuples_of f)) (halves f bf n e)) (t ∷ []) one-framed (frame (is_msb f) t) one-frame

    framed-front : AllFramed (before_end (tuples_of f) ++ (t ∷ []))
    framed-front =
        framed_join (before_end (tuples_of f)) (t ∷ [])
        (framed-left (before_end (tuples_of f)) (from_end (tuples_of f)) (halves f bf n e)) one-framed

    framed-back : AllFramed (from_end (tuples_of f))
    framed-back = framed-right (before_end (tuples_of f)) (from_end (tuples_of f)) (halves f bf n e)

    -- the tuple stands behind those kept
    in-result : (g : List ℕ) → g ≡ appended_file f (frame (is_msb f) t)
        → tuples_of g ≡ outside (before_end (tuples_of f)) ++ (t ∷ (X ∷ outside (from_end (tuples_of f))))
    unfolding X
    in-result g h =
        ap tuples_of (h ∙ appended_one)
        ∙ result-tuples (is_msb f) (before_end (tuples_of f) ++ (t ∷ [])) (tuples_of f) framed-front framed-back
        ∙ ap (λ (l : List Tup). l ++ (X ∷ outside (from_end (tuples_of f)))) kept-one
        ∙ append_assoc (outside (before_end (tuples_of f))) (t ∷ []) (X ∷ outside (from_end (tuples_of f)))

    undone : (g : List ℕ) → g ≡ appended_file f (frame (is_msb f) t) → (ts : List Tup) → without (behind_kept f) 4 (tuples_of g) ≡ some ts
        → anew (is_msb g) ts ≡ indexed_file f
    unfolding indexed_file X in_class classes
    undone g h ts w =
        let os = outside (before_end (tuples_of f)) in
        let zs = outside (from_end (tuples_of f)) in
        let found : without (behind_kept f) 4 (tuples_of g) ≡ some (os ++ (X ∷ zs)) = ap (without (behind_kept f) 4) (in-result g h)
        ∙ without_at (is_msb f) 4 os t (X ∷ zs) in
        let same : ts ≡ os ++ (X ∷ zs) = some_inj ts (os ++ (X ∷ zs)) (sym w ∙ found) in
        let order : is_msb g ≡ is_msb f = ap is_msb (h ∙ appended_one)
        ∙ result-order (is_msb f) (before_end (tuples_of f) ++ (t ∷ [])) (tuples_of f) framed-front framed-back in
        ap₂ anew order same
        ∙ anew-same (is_msb f) (os ++ (X ∷ zs)) (tuples_of f)
        (outside-between (before_end (tuples_of f)) (from_end (tuples_of f)) X refl ∙ ap outside (end-split (tuples_of f)))

  undoing : (g : List ℕ) {h : List ℕ} → Handed (Appended f (frame (is_msb f) t)) g → Handed (Removed g (behind_kept f)) h → h ≡ indexed_file f
  undoing g a r =
      let x = append_result f bf (frame (is_msb f) t) a in
      let y = remove_result g (subst Bytes (sym (x.1.1.1.1 ∙ appended_one x.0 x.1.1.0))
      (result-bytes (is_msb f) (before_end (tuples_of f) ++ (t ∷ [])) (tuples_of f) (framed-front x.0 x.1.1.0)
      (framed-back x.0 x.1.1.0)))
      (behind_kept f) r in
      y.result ∙ undone x.0 x.1.1.0 g x.1.1.1.1 y.tuples y.found

pub edits : Edits
edits =
    record {
      indexed = λ f b h. index-anew f b h;
      appended = λ f bytes bf bb h. append_anew f bf bytes bb h;
      removed = λ f p b h. remove_anew f b p h;
      index_said = λ f out w e g. index-said f out w e g;
      append_said = λ f bytes out w e l g. append_said_lem f bytes out w e l g;
      remove_said = λ f at out w e x g. remove_said_lem f at out w e x g;
      indexable = λ f b e h. indexable-file f b e h;
      back = λ f t g b gt o a r. undoing f b t gt o g a r;
    }
