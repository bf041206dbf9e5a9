-- `archive::of_pings::hac_read_ping` meets its contract, which settles what it says. Assumes nothing.
use Rattle.std.proofs.Common.{◌≡◌, ap, ◌∙◌, ℕ, List, arith}
use Rattle.pings.specs.Views.{as_ping}
use Rattle.pings.specs.Fields.{ping_numbers, read_fields, PingAt, ping-settled}
use Rattle.archive.specs.Saying.{SaidAlone, alone-settled}
use Rattle.archive.specs.Numbers.{told}
use Rattle.archive.proofs.Saying.{alone-untold, alone-told}
use Rattle.archive.proofs.Pings.{two-told}
use Rattle.archive.proofs.of_pings.hac_read_ping.Goals as goal

pub returns-then-answer-lt-PING : goal.returns-then-answer-lt-PING
returns-then-answer-lt-PING c =
    let a = c.args in
    alone-untold 11 (told ping_numbers read_fields) (PingAt a.file.now a.place) a.answer.now c.if-answer-lt-PING.true

pub returns-in-Ok : goal.returns-in-Ok
returns-in-Ok c =
    let a = c.args in
    alone-told 11 (told ping_numbers read_fields) (PingAt a.file.now a.place) a.answer.now (as_ping c.read_ping.result) _ _ _
    c.if-answer-lt-PING.false (omega (arith, two-told c.in-Ok.ping.length)) c.read_ping.ensures
    (ap (told ping_numbers read_fields) (ap as_ping c.in-Ok.is))
    c.tell_ping.ensures.value c.tell_ping.ensures.answer_after

pub returns-in-Err : goal.returns-in-Err
returns-in-Err c =
    let a = c.args in
    alone-told 11 (told ping_numbers read_fields) (PingAt a.file.now a.place) a.answer.now (as_ping c.read_ping.result) _ _ _
    c.if-answer-lt-PING.false (omega arith) c.read_ping.ensures (ap (told ping_numbers read_fields) (ap as_ping c.in-Err.is))
    c.tell_refusal.ensures.value c.tell_refusal.ensures.answer_after

pub hac-read-ping-settled : (f : List ℕ) (p : ℕ) (lent : List ℕ) {c d : ℕ} {left right : List ℕ}
    → SaidAlone 11 (told ping_numbers read_fields) (PingAt f p) lent c left
    → SaidAlone 11 (told ping_numbers read_fields) (PingAt f p) lent d right
    → (c ≡ d) × (left ≡ right)
hac-read-ping-settled f p lent = alone-settled 11 (told ping_numbers read_fields) (PingAt f p) lent (λ a b x y. ping-settled x y)
