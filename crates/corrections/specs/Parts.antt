-- What calls tell: a part is a framed listed ping of the file that its mark names, the first of its channel and number there; the
-- corrections win exactly where they hold such a ping with attribute 1; where they hold none, the deposit alone says what is handed
-- back. Assumes nothing.
use Rattle.std.specs.Prelude.{◌≡◌, ◌⊎◌, ℕ, Bool, true, false, List, [], ◌∷◌, ◌++◌}
use Rattle.std.proofs.Math.Option.{some}
use Rattle.order.specs.Order.{Bytes}
use Rattle.layout.specs.Answer.{Answer}
use Rattle.layout.specs.Answer.{Accepted}
use Rattle.layout.specs.declared.SoftwareChannel.{SoftwareChannel}
use Rattle.frame.specs.Frames.{Tup, frame}
use Rattle.frame.specs.Files.{is_msb}
use Rattle.frame.specs.Tuples.{tuples_of}
use Rattle.content.specs.Pings.{Ping}
use Rattle.content.specs.Items.{ping, item_of, number_at}
use Rattle.intake.specs.inner.Sound.{Accepts}
use Rattle.corrections.specs.Found.{Found}
use Rattle.corrections.specs.Found.{Refused}
use Rattle.corrections.specs.Spot.{At, Nowhere}
use Rattle.corrections.specs.Corrections.{wanted, ping_in, deposit_mark, corrections_mark, chosen, CorrectedBy}

-- none of these tuples is wanted
abbrev pub NoneOf : (Tup → Bool) → List Tup → Type 0
NoneOf want [] = Unit {0}
NoneOf want (t ∷ ts) = (want t ≡ false) × NoneOf want ts

-- r is a tuple of the file f, with its frame: a listed ping of the channel and the number, with attribute 1 where it has to be an edited
-- one, and the first of them in file order
pub record FirstPing (edited : Bool) (f : List ℕ) (c : SoftwareChannel) (n : ℕ) (r : List ℕ) : Type 0 where
  pub before : List Tup
  pub it : Tup
  pub behind : List Tup
  pub among : tuples_of f ≡ before ++ (it ∷ behind)
  pub bytes : r ≡ frame (is_msb f) it
  -- its content
  pub content : Ping
  pub is : item_of (is_msb f) it ≡ some (ping content)
  -- its channel is the one asked for, by which the deposit's own is declared
  pub channel : number_at content.head 2 ≡ c.0
  pub number : number_at content.head 4 ≡ n
  pub attribute : edited ≡ true → content.attr ≡ 1
  pub first : NoneOf (λ (t : Tup). wanted edited c n (item_of (is_msb f) t)) before

-- what the deposit alone gives
abbrev pub alone_by : List ℕ → SoftwareChannel → ℕ → Answer → Found
alone_by d c n (Answer.Refused x p) = Refused deposit_mark x p
alone_by d c n (Accepted i) = chosen Nowhere (ping_in false d c n)

-- ---- a call, and what it handed back
pub record Call (d k : List ℕ) (c : SoftwareChannel) (n : ℕ) : Type 0 where
  pub mark : ℕ
  pub code : ℕ
  pub place : ℕ
  pub part : List ℕ
  pub promise : CorrectedBy d k c n mark code place part

-- it handed a ping back
abbrev pub Hands : {d k : List ℕ} {c : SoftwareChannel} {n : ℕ} → Call d k c n → Type 0
Hands x = x.part ≡ [] → ⊥

-- two calls handed the same back
pub record SameBack {d k e l : List ℕ} {c : SoftwareChannel} {n : ℕ} (x : Call d k c n) (y : Call e l c n) : Type 0 where
  pub mark : x.mark ≡ y.mark
  pub code : x.code ≡ y.code
  pub place : x.place ≡ y.place
  pub part : x.part ≡ y.part

pub record Corrections : Type 1 where
  -- a part of the corrections' mark is a ping of theirs with attribute 1,
  pub corrected : {d k : List ℕ} {c : SoftwareChannel} {n : ℕ} → Bytes k → (x : Call d k c n) → Hands x → x.mark ≡ corrections_mark
      → FirstPing true k c n x.part
  -- one of the deposit's mark is a ping of the deposit,
  pub deposited : {d k : List ℕ} {c : SoftwareChannel} {n : ℕ} → Bytes d → (x : Call d k c n) → Hands x → x.mark ≡ deposit_mark
      → FirstPing false d c n x.part
  -- and there is no other mark of a part; its code is 0
  pub other : {d k : List ℕ} {c : SoftwareChannel} {n : ℕ} (x : Call d k c n) → Hands x
      → ((x.mark ≡ deposit_mark) ⊎ (x.mark ≡ corrections_mark)) × (x.code ≡ 0)
  -- a refusal's part is empty
  pub empty : {d k : List ℕ} {c : SoftwareChannel} {n : ℕ} (x : Call d k c n) → (x.code ≡ 0 → ⊥) → x.part ≡ []
  -- of two accepted files the corrections win where they hold such a ping with attribute 1,
  pub wins : {d k : List ℕ} {c : SoftwareChannel} {n : ℕ} → Accepts d → Accepts k → (a m : ℕ) → ping_in true k c n ≡ At a m
      → (x : Call d k c n) → (x.mark ≡ corrections_mark) × (x.code ≡ 0)
  -- and only there: where they hold none, all is as the deposit alone gives it, whatever else they hold
  pub alone : {d k l : List ℕ} {c : SoftwareChannel} {n : ℕ} → Accepts k → Accepts l → ping_in true k c n ≡ Nowhere
      → ping_in true l c n ≡ Nowhere → (x : Call d k c n) (y : Call d l c n) → SameBack x y
