-- A file written anew with its index: the index written, tuples appended, a tuple removed. Assumes nothing.
use Rattle.std.specs.Prelude.{◌≡◌, ℕ, ◌+◌, Bool, cond, List, [], ◌∷◌, ◌++◌, ltb, eqb, length, drop}
use Rattle.std.proofs.Common.{sym, ◌∙◌}
use Rattle.std.proofs.Math.Option.{Option, some, none}
use Rattle.rules.specs.Rules.{Rule, ◌⇒◌, first_of}
use Rattle.layout.specs.declared.Counts.{Counts}
use Rattle.layout.specs.Answer.{Answer}
use Rattle.layout.specs.Answer.{Accepted, Refused}
use Rattle.layout.specs.Answers.{numbers, Tells, left_by}
use Rattle.frame.specs.Frames.{Tup, length_of, frames}
use Rattle.frame.specs.Files.{limit, mark, is_msb}
use Rattle.frame.specs.Tuples.{tuples_from, tuples_of}
use Rattle.intake.specs.Check.{writing, check_file}
use Rattle.index.specs.Index.{index_of, before_end, from_end, outside}

-- ---- what is handed back: the mark, tuples us, the index over all, and tuples vs; the index class is dropped
unfoldable pub rewritten : Bool → List Tup → List Tup → List ℕ
rewritten o us vs = mark o ++ frames o (outside us ++ (index_of o (us ++ vs) ∷ outside vs))

-- tuples with their index just before the end of file
abbrev pub anew : Bool → List Tup → List ℕ
anew o ts = rewritten o (before_end ts) (from_end ts)

-- a file with its index written afresh
unfoldable pub indexed_file : List ℕ → List ℕ
indexed_file f = anew (is_msb f) (tuples_of f)

-- ---- appending: the tuples of the bytes handed in, and what is left of these bytes where the frame's rules break
unfoldable pub tuples_in : Bool → List ℕ → List Tup
tuples_in o r = tuples_from (length r) o r

unfoldable pub rest_in : Bool → List ℕ → List ℕ
rest_in o r = drop (length (frames o (tuples_in o r))) r

-- the file up to and with bytes that don't divide into tuples
unfoldable pub broken_off : Bool → List Tup → List ℕ → List ℕ
broken_off o us rest = mark o ++ (frames o (outside us) ++ rest)

-- the tuples handed in stand behind the file's own, before the index and the end of file
abbrev pub joined : Bool → List Tup → List ℕ → List Tup → List ℕ
joined o us bytes vs =
    let all = us ++ tuples_in o bytes in
    cond (eqb (length (rest_in o bytes)) 0) (rewritten o all vs) (broken_off o all (rest_in o bytes))

unfoldable pub appended_file : List ℕ → List ℕ → List ℕ
appended_file f bytes = joined (is_msb f) (before_end (tuples_of f)) bytes (from_end (tuples_of f))

-- ---- removing: the tuples without the one at a place, the first of them standing at `at`; none where no tuple starts there
abbrev pub behind : Tup → Option (List Tup) → Option (List Tup)
behind t none = none
behind t (some ts) = some (t ∷ ts)

unfoldable pub without : ℕ → ℕ → List Tup → Option (List Tup)
without p at [] = none
without p at (t ∷ ts) = cond (eqb at p) (some ts) (behind t (without p (at + length_of t) ts))

abbrev pub removed_by : Bool → Option (List Tup) → List ℕ
removed_by o none = []
removed_by o (some ts) = anew o ts

unfoldable pub removed_file : List ℕ → ℕ → List ℕ
removed_file f p = removed_by (is_msb f) (without p 4 (tuples_of f))

-- ---- answers: what the check says of the result g, then 19; then the counts of the file handed in, and the bytes written
abbrev pub behind_result : List ℕ → ℕ → Counts → Answer → Answer
behind_result g room n (Accepted m) = first_of ((ltb room (length g) ⇒ Refused 19 0) ∷ []) (Accepted (writing n (length g)))
behind_result g room n (Refused c p) = Refused c p

unfoldable pub result_answer : List ℕ → ℕ → Counts → Answer
result_answer g room n = behind_result g room n (check_file g)

-- the check's refusals on the file handed in come first
abbrev pub behind_file : (Counts → Answer) → Answer → Answer
behind_file k (Accepted n) = k n
behind_file k (Refused c p) = Refused c p

unfoldable pub index_answer : List ℕ → ℕ → Answer
index_answer f room = behind_file (result_answer (indexed_file f) room) (check_file f)

-- bytes over the limit are over it whatever is dropped of them
abbrev pub append_rules : List ℕ → List (Rule Answer)
append_rules bytes = (ltb limit (length bytes) ⇒ Refused 1 0) ∷ []

unfoldable pub append_answer : List ℕ → List ℕ → ℕ → Answer
append_answer f bytes room = behind_file (λ n. first_of (append_rules bytes) (result_answer (appended_file f bytes) room n)) (check_file f)

-- 3 at the place handed over where no tuple starts there
abbrev pub remove_by : List ℕ → ℕ → ℕ → Option (List Tup) → Counts → Answer
remove_by f p room none n = Refused 3 p
remove_by f p room (some ts) n = result_answer (anew (is_msb f) ts) room n

unfoldable pub remove_answer : List ℕ → ℕ → ℕ → Answer
remove_answer f p room = behind_file (remove_by f p room (without p 4 (tuples_of f))) (check_file f)

-- ---- the promises: the answer, and the result in lent memory; each settles both
pub record Edited (said : Answer) (result out : List ℕ) (r : Answer) (left : List ℕ) : Type 0 where
  pub answer : Tells numbers r said
  pub memory : left ≡ left_by said result out

abbrev pub Indexed : List ℕ → List ℕ → Answer → List ℕ → Type 0
Indexed f out r left = Edited (index_answer f (length out)) (indexed_file f) out r left

abbrev pub Appended : List ℕ → List ℕ → List ℕ → Answer → List ℕ → Type 0
Appended f bytes out r left = Edited (append_answer f bytes (length out)) (appended_file f bytes) out r left

abbrev pub Removed : List ℕ → ℕ → List ℕ → Answer → List ℕ → Type 0
Removed f p out r left = Edited (remove_answer f p (length out)) (removed_file f p) out r left

edited_settled : (said : Answer) (result out : List ℕ) {r s : Answer} {left kept : List ℕ} → Edited said result out r left
    → Edited said result out s kept
    → (r ≡ s) × (left ≡ kept)
edited_settled said result out p q = (p.answer.is ∙ sym q.answer.is, p.memory ∙ sym q.memory)

pub indexed-settled : (f out : List ℕ) {r s : Answer} {left kept : List ℕ} → Indexed f out r left → Indexed f out s kept
    → (r ≡ s) × (left ≡ kept)
indexed-settled f out p q = edited_settled (index_answer f (length out)) (indexed_file f) out p q

pub appended-settled : (f bytes out : List ℕ) {r s : Answer} {left kept : List ℕ} → Appended f bytes out r left
    → Appended f bytes out s kept
    → (r ≡ s) × (left ≡ kept)
appended-settled f bytes out p q = edited_settled (append_answer f bytes (length out)) (appended_file f bytes) out p q

pub removed-settled : (f : List ℕ) (at : ℕ) (out : List ℕ) {r s : Answer} {left kept : List ℕ} → Removed f at out r left
    → Removed f at out s kept
    → (r ≡ s) × (left ≡ kept)
removed-settled f at out p q = edited_settled (remove_answer f at (length out)) (removed_file f at) out p q
