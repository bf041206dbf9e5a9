-- `layout::in_class` meets its contract: the bounds of each class are those of `classes`. Assumes nothing.
use Rattle.layout.specs.Types.{classes, in_class}
use Rattle.layout.proofs.in_class.Goals as goal
use Rattle.layout.proofs.in_class.Goals.{in-Position, in-Sounder, in-Channel, in-Ping, in-Index}

pub returns : goal.returns
unfolding in_class classes
returns c =
    elim c.match-class.branch [
      | in-Position w ↦ rw (w.bounds-is, w.in-Position.is)
      | in-Sounder w ↦ rw (w.bounds-is, w.in-Sounder.is)
      | in-Channel w ↦ rw (w.bounds-is, w.in-Channel.is)
      | in-Ping w ↦ rw (w.bounds-is, w.in-Ping.is)
      | in-Index w ↦ rw (w.bounds-is, w.in-Index.is)
    ]
