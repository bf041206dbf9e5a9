-- Corrections beside the deposit: the ping of a software channel and a ping number, from the corrections file where it has one with
-- attribute 1, and from the deposit otherwise. Assumes nothing.
use Rattle.std.specs.Prelude.{◌≡◌, ℕ, ◌+◌, Bool, true, false, not, ◌&&◌, ◌||◌, List, [], ◌∷◌, eqb, take, drop}
use Rattle.std.proofs.Common.{sym, ◌∙◌}
use Rattle.std.proofs.Math.Option.{Option, some, none}
use Rattle.layout.specs.Answer.{Answer}
use Rattle.layout.specs.Answer.{Accepted}
use Rattle.layout.specs.declared.SoftwareChannel.{SoftwareChannel}
use Rattle.layout.specs.Answers.{Numbers, counts, acceptance, refusal, Tells}
use Rattle.frame.specs.Frames.{Tup, length_of}
use Rattle.frame.specs.Files.{is_msb}
use Rattle.frame.specs.Tuples.{tuples_of}
use Rattle.content.specs.Items.{Item, plain, ping, raw, item_of, number_at}
use Rattle.intake.specs.Check.{check_file}
use Rattle.corrections.specs.Found.{Found}
use Rattle.corrections.specs.Found.{Corrected, Deposited, Refused}
use Rattle.corrections.specs.Spot.{Spot}
use Rattle.corrections.specs.Spot.{At, Nowhere}

-- ---- the ping that is wanted
-- a listed ping of a channel and a number, by its header; where `edited` says so, with attribute 1
abbrev pub wanted : Bool → SoftwareChannel → ℕ → Option Item → Bool
wanted edited c n none = false
wanted edited c n (some (plain k vs)) = false
wanted edited c n (some (ping q)) =
    eqb (number_at q.head 2) c.0 && (eqb (number_at q.head 4) n && (not edited || eqb q.attr 1))
wanted edited c n (some (raw k d)) = false

-- the first of tuples that is wanted, the first of them all standing at a place: where it stands, and its length
unfoldable pub first_that : (Tup → Bool) → ℕ → List Tup → Spot
first_that want at [] = Nowhere
first_that want at (t ∷ ts) = elim (want t) [ true ↦ At at (length_of t) | false ↦ first_that want (at + length_of t) ts ]

unfoldable pub ping_in : Bool → List ℕ → SoftwareChannel → ℕ → Spot
ping_in edited f c n = first_that (λ (t : Tup). wanted edited c n (item_of (is_msb f) t)) 4 (tuples_of f)

-- ---- which file it is from
-- a file's mark: the deposit's, the corrections'; 0 is neither's
abbrev pub deposit_mark : ℕ
deposit_mark = 1

abbrev pub corrections_mark : ℕ
corrections_mark = 2

-- the corrections' ping, else the deposit's, else 31 at 0
abbrev pub chosen : Spot → Spot → Found
chosen (At a m) s = Corrected a m
chosen Nowhere (At a m) = Deposited a m
chosen Nowhere Nowhere = Refused 0 31 0

-- the deposit's own refusal first, then the corrections', each with its file's mark
abbrev pub found_by : List ℕ → List ℕ → SoftwareChannel → ℕ → Answer → Answer → Found
found_by d k c n (Answer.Refused x p) b = Refused deposit_mark x p
found_by d k c n (Accepted i) (Answer.Refused x p) = Refused corrections_mark x p
found_by d k c n (Accepted i) (Accepted j) = chosen (ping_in true k c n) (ping_in false d c n)

unfoldable pub found_of : List ℕ → List ℕ → SoftwareChannel → ℕ → Found
found_of d k c n = found_by d k c n (check_file d) (check_file k)

-- ---- what is handed back: the tuple's own bytes in the file that it is from; a refusal's part is empty
abbrev pub part_of : List ℕ → List ℕ → Found → List ℕ
part_of d k (Corrected a m) = take m (drop a k)
part_of d k (Deposited a m) = take m (drop a d)
part_of d k (Refused mark x p) = []

-- ---- in numbers: of a part one tuple, and its bytes as the length; and which file's mark it has
abbrev pub found_numbers : Found → Numbers
found_numbers (Corrected a m) = acceptance (counts 1 m)
found_numbers (Deposited a m) = acceptance (counts 1 m)
found_numbers (Refused mark x p) = refusal x p

abbrev pub mark_of : Found → ℕ
mark_of (Corrected a m) = corrections_mark
mark_of (Deposited a m) = deposit_mark
mark_of (Refused mark x p) = mark

-- what is told besides: the mark, with a refusal too; and the place of the part's first byte in its file
abbrev pub found_fields : Found → List ℕ
found_fields (Corrected a m) = corrections_mark ∷ a ∷ []
found_fields (Deposited a m) = deposit_mark ∷ a ∷ []
found_fields (Refused mark x p) = mark ∷ []

-- ---- the promise of finding the ping, and that it settles the answer
abbrev pub PingFound : List ℕ → List ℕ → SoftwareChannel → ℕ → Found → Type 0
PingFound d k c n r = Tells found_numbers r (found_of d k c n)

pub found-settled : (d k : List ℕ) (c : SoftwareChannel) (n : ℕ) {r s : Found} → PingFound d k c n r → PingFound d k c n s → r ≡ s
found-settled d k c n p q = p.is ∙ sym q.is

-- ---- the promise of handing its bytes back, with mark, code and place, and that it settles all four
pub record CorrectedBy (d k : List ℕ) (c : SoftwareChannel) (n mark code place : ℕ) (r : List ℕ) : Type 0 where
  pub marked : mark ≡ mark_of (found_of d k c n)
  pub coded : code ≡ (found_numbers (found_of d k c n)).code
  pub placed : place ≡ (found_numbers (found_of d k c n)).place
  pub bytes : r ≡ part_of d k (found_of d k c n)

pub corrected-settled : {d k : List ℕ} {c : SoftwareChannel} {n m x p m' x' p' : ℕ} {r s : List ℕ} → CorrectedBy d k c n m x p r
    → CorrectedBy d k c n m' x' p' s → (m ≡ m') × (x ≡ x') × (p ≡ p') × (r ≡ s)
corrected-settled a b = (
  a.marked ∙ sym b.marked,
  a.coded ∙ sym b.coded,
  a.placed ∙ sym b.placed,
  a.bytes ∙ sym b.bytes,
)
