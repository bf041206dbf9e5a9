-- `samples16::held` meets its contract: its values are counted. Assumes nothing.
use borrow.Author.Rules.{rules}
use Rattle.samples16.proofs.held.Statement.{statement}
use Rattle.samples16.proofs.held.Tie as tie

words-end-requires : tie.Need-words_end-requires
words-end-requires c κs =
    let start = c.before.before in
    (start.requires.0, (start.requires.1.0, c.look.ensures.0))

returns : tie.Need-returns
returns c = (c.words_end.ensures.0, c.words_end.ensures.1.0)

pub held_spec : {M : Type 1} → statement M
held_spec = tie.close (tie.spec
    (λ c κs. search rules)
    words-end-requires
    returns)
