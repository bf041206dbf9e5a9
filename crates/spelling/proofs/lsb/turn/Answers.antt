-- A chunk's word is the first that is left.
use Rattle.std.proofs.Common.{◌∙◌, arith}
use Rattle.spelling.proofs.Left.{unwritten_as, unwritten-room, unwritten_one, unwritten_end, chunk-words, chunk-none, words-room}
use Rattle.spelling.proofs.lsb.turn.Goals as goal

pub store-requires : goal.store-requires
store-requires g c =
    let s = c.in-Some.ensures.steps in
    let i = c.loop-bytes.invariant in
    let r = words-room g.W.Words.WORD c.args.msb c.args.part.now in
    unwritten-room (unwritten_as (chunk-words c.args.msb _ _ g.met.W.Words.widths.0 s.1.0 s.1.1 i.size c.read.ensures.value) i.rest)
    (omega arith)

pub overflow_add-at : goal.overflow_add-at
overflow_add-at g c =
    let s = c.in-Some.ensures.steps in
    let i = c.loop-bytes.invariant in
    let r = words-room g.W.Words.WORD c.args.msb c.args.part.now in
    let room = unwritten-room (unwritten_as (chunk-words c.args.msb _ _ g.met.W.Words.widths.0 s.1.0 s.1.1 i.size c.read.ensures.value)
    i.rest) (omega arith) in
    omega (arith, room)

pub loop-bytes-preserved : goal.loop-bytes-preserved
loop-bytes-preserved g c =
    let s = c.in-Some.ensures.steps in
    let i = c.loop-bytes.invariant in
    let h = unwritten_as (chunk-words c.args.msb _ _ g.met.W.Words.widths.0 s.1.0 s.1.1 i.size c.read.ensures.value) i.rest in
    record { size = s.0 ∙ i.size; rest = rw c.WORD-at.ensures (unwritten_one h c.store.auto.out c.store.ensures) }

pub returns : goal.returns
returns g c =
    let i = c.loop-bytes.invariant in
    let e = c.in-None.ensures.steps in
    (unwritten_end (unwritten_as (chunk-none c.args.msb _ e.1.0 i.size) i.rest)).1
