-- A sample is its number and its value.
use Rattle.std.proofs.Common.{false}
use Rattle.spelling.proofs.Turns.{pair-put}
use Rattle.spelling.proofs.lsb.put_pair.Goals as goal

pub returns : goal.returns
returns g c =
    let s = g.met.W.Words.sample in
    pair-put g.W.Words.family s.0 s.1 s.2 false c.args.out.now c.args.at c.args.number c.requires.value_bound c.WORD.ensures
    c.store.ensures c.store-2.ensures
