-- Made from views/records.txt by views/make.
-- `channel::Channel::read` meets its contract: the reader's refusal, or the record of the numbers that were read. Assumes
-- nothing.
use Rattle.std.proofs.Common.{refl, ap, ◌∙◌}
use Rattle.std.proofs.lemmas.Result.{err_from_is_err_and}
use Rattle.order.proofs.Laws.{bytes_of_lem}
use Rattle.layout.specs.Answer.{Answer}
use Rattle.layout.specs.Answers.{tells}
use Rattle.layout.specs.Types.{listings, among, listing_of}
use Rattle.rows.specs.Readers.{row_text}
use Rattle.rows.specs.Integers.{row_integers}
use Rattle.rows.proofs.Views.{read-text, view_refused, view_accepted, view_integers}
use Rattle.channel.specs.ChannelRead.{Read}
use Rattle.channel.specs.Channel.{channel_of, answered}
use Rattle.channel.proofs.Channel.read.Goals as goal

pub returns-in_err-remarks : goal.returns-in_err-remarks
unfolding listing_of among listings
returns-in_err-remarks c =
    let a = c.args in
    let there = channel_of (row_integers 1000 a.file.now a.place) in
    let stands = row_text 1000 a.file.now a.place in
    let p = err_from_is_err_and c.from_residual.result c.from_residual.ensures.1 in
    let e = view_refused 1000 refl refl (rw c.in_err-remarks.was at c.read_row.ensures) in
    rw (p.1, p.2) (record { answer = tells e; outcome = ap (λ (x : Answer). answered x there stands) e })

pub returns : goal.returns
unfolding listing_of among listings
returns c =
    let a = c.args in
    let there = channel_of (row_integers 1000 a.file.now a.place) in
    let stands = row_text 1000 a.file.now a.place in
    let r = rw c.in_ok-remarks.was at c.read_row.ensures in
    let e = view_accepted 1000 refl refl r in
    let bytes = bytes_of_lem a.file.now (λ i. (c.type_inv.file i).fits) in
    let fields = c.of.ensures ∙ ap channel_of (view_integers 1000 refl refl r bytes) in
    record { answer = tells e; outcome = (λ i. Read (fields i) (read-text r i)) ∙ ap (λ (x : Answer). answered x there stands) e }
