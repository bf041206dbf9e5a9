-- A code is told by its number, so that what the views say settles what the code hands back. Assumes nothing.
use mathlib.Core.Path.{◌≡◌, refl, sym, ap, ap₂, ◌∙◌}
use mathlib.Core.List.{List, [], ◌∷◌}
use Prim.Native.Nat.{ℕ}
use lib.ListN.{get_or}
use Rattle.std.specs.Prelude.{Result, Ok, Err, ⊤}
use Rattle.layout.specs.declared.Counts.{Counts}
use Rattle.layout.specs.declared.Refusal.{Refusal}
use Rattle.layout.specs.declared.Flaw.{Flaw}
use Rattle.layout.specs.declared.codes.Code.{Code}
use Rattle.layout.specs.declared.codes.Code.TheVariants.{OverLimit, NoMark, CutShort, NoEnd, BadLength, BadBacklink, MisplacedSignature, UnknownIdentifier, Unfit, Overfull, DeclaredTwice, NoParent, TooMany, BehindEnd, ClassAbsent, WrongCount, Unturnable, NoRoom, NormalOverLimit, NoWord, NoSamples, NotRising, BadWord, Miscounted, ShortLength, ShortTable, NotSv, OutsideLevels, NoReading, NotHeld}
use Rattle.layout.specs.Code.{number}
use Rattle.layout.specs.Answer.{Answer, Accepted, Refused}
use Rattle.layout.specs.Verdict.{Verdict, Fine}
use Rattle.layout.specs.Verdict
use Rattle.layout.specs.Views.{as_answer, as_verdict}

-- the codes by their numbers; 0 and 10 are none's
codes : List Code
codes =
    OverLimit
    ∷ OverLimit
    ∷ NoMark
    ∷ CutShort
    ∷ NoEnd
    ∷ BadLength
    ∷ BadBacklink
    ∷ MisplacedSignature
    ∷ UnknownIdentifier
    ∷ Unfit
    ∷ OverLimit
    ∷ Overfull
    ∷ DeclaredTwice
    ∷ NoParent
    ∷ TooMany
    ∷ BehindEnd
    ∷ ClassAbsent
    ∷ WrongCount
    ∷ Unturnable
    ∷ NoRoom
    ∷ NormalOverLimit
    ∷ NoWord
    ∷ NoSamples
    ∷ NotRising
    ∷ BadWord
    ∷ Miscounted
    ∷ ShortLength
    ∷ ShortTable
    ∷ NotSv
    ∷ OutsideLevels
    ∷ NoReading
    ∷ NotHeld
    ∷ []

abbrev by : ℕ → Code
by n = get_or codes n OverLimit

back : (c : Code) → by (number c) ≡ c
unfolding codes
back OverLimit = refl
back NoMark = refl
back CutShort = refl
back NoEnd = refl
back BadLength = refl
back BadBacklink = refl
back MisplacedSignature = refl
back UnknownIdentifier = refl
back Unfit = refl
back Overfull = refl
back DeclaredTwice = refl
back NoParent = refl
back TooMany = refl
back BehindEnd = refl
back ClassAbsent = refl
back WrongCount = refl
back Unturnable = refl
back NoRoom = refl
back NormalOverLimit = refl
back NoWord = refl
back NoSamples = refl
back NotRising = refl
back BadWord = refl
back Miscounted = refl
back ShortLength = refl
back ShortTable = refl
back NotSv = refl
back OutsideLevels = refl
back NoReading = refl
back NotHeld = refl

pub same_code : (c d : Code) → number c ≡ number d → c ≡ d
same_code c d e = sym (back c) ∙ ap by e ∙ back d

pub same_refusal : (r s : Refusal) → number r.code ≡ number s.code → r.place ≡ s.place → r ≡ s
same_refusal r s e h = ap₂ (λ (c : Code) (p : ℕ). record { code = c; place = p }) (same_code r.code s.code e) h

-- a refusal and a flaw by their numbers
pub refusal_by : ℕ → ℕ → Refusal
refusal_by c p = record { code = by c; place = p }

pub refusal_back : (r : Refusal) → refusal_by (number r.code) r.place ≡ r
unfolding refusal_by
refusal_back r = ap (λ (c : Code). record { code = c; place = r.place }) (back r.code)

pub flaw_by : ℕ → ℕ → Flaw
flaw_by c p = record { code = by c; offset = p }

pub flaw_back : (b : Flaw) → flaw_by (number b.code) b.offset ≡ b
unfolding flaw_by
flaw_back b = ap (λ (c : Code). record { code = c; offset = b.offset }) (back b.code)

-- a view that can be taken back settles the value: equal in it, equal in themselves
pub same_seen : {A V : Type 0} (view : A → V) (undo : V → A) → ((r : A) → undo (view r) ≡ r) → (r s : A) → view r ≡ view s → r ≡ s
same_seen view undo undone r s e = sym (undone r) ∙ ap undo e ∙ undone s

-- an answer
abbrev pub answer_by : Answer → Result Counts Refusal
answer_by (Accepted n) = Ok n
answer_by (Refused c p) = Err (refusal_by c p)

pub answer_back : (r : Result Counts Refusal) → answer_by (as_answer r) ≡ r
answer_back (Ok n) = refl
answer_back (Err r) = ap Err (refusal_back r)

pub same_answer : (r s : Result Counts Refusal) → as_answer r ≡ as_answer s → r ≡ s
same_answer = same_seen as_answer answer_by answer_back

-- an answer with what is settled beside it, such as memory
pub same_beside : {P : Type 0} (r s : Result Counts Refusal) → (as_answer r ≡ as_answer s) × P → (r ≡ s) × P
same_beside r s e = (same_answer r s e.0, e.1)

-- a verdict
abbrev verdict_by : Verdict → Result ⊤ Flaw
verdict_by Fine = Ok tt
verdict_by (Verdict.Fault c p) = Err (flaw_by c p)

verdict_back : (r : Result ⊤ Flaw) → verdict_by (as_verdict r) ≡ r
verdict_back (Ok _) = refl
verdict_back (Err b) = ap Err (flaw_back b)

pub same_verdict : (r s : Result ⊤ Flaw) → as_verdict r ≡ as_verdict s → r ≡ s
same_verdict = same_seen as_verdict verdict_by verdict_back
