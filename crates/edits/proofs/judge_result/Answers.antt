-- `edits::judge_result` meets its contract: part by part, and from the index on. Assumes nothing.
use Rattle.std.proofs.Common.{◌≡◌, ℕ, true, replicate}
use mathlib.Core.Path.{subst}
use Rattle.frame.specs.Frames.{allowed}
use Rattle.links.specs.Links.{most_sounders, most_channels}
use Rattle.intake.specs.inner.Tallies.{Tables, tables}
use Rattle.edits.proofs.Judging.{index_of, first_small_lem, first_done, second-small, second-done, behind-small, behind-done}
use Rattle.edits.proofs.judge_result.Goals as goal

-- tables with nothing declared
abbrev zeroed : Tables
zeroed = tables (replicate most_sounders (replicate 6 0)) (replicate most_channels (replicate 6 0))

pub judge_part-requires-clause-part_bound : goal.judge_part-requires-clause-part_bound
judge_part-requires-clause-part_bound c =
    let a = c.args in
    first_small_lem a.msb a.first.now a.second.now a.last.now _ c.requires.size_of.whole c.requires.whole_le_limit _ c.begin-begin.ensures

pub returns-in-Break : goal.returns-in-Break
returns-in-Break c =
    let a = c.args in
    first_done a.msb a.first.now a.second.now a.last.now _ c.requires.size_of.whole c.requires.whole_le_limit _ zeroed
    c.begin-begin.ensures c.requires.divides _ c.in-Break.ensures

pub judge_part-requires-2-clause-part_bound : goal.judge_part-requires-2-clause-part_bound
judge_part-requires-2-clause-part_bound c =
    let a = c.args in
    second-small a.msb a.first.now a.second.now a.last.now _ c.requires.size_of.whole c.requires.whole_le_limit _ zeroed
    c.begin-begin.ensures _ _ c.in-Continue.ensures

pub returns-in-Break-judge_part : goal.returns-in-Break-judge_part
returns-in-Break-judge_part c =
    let a = c.args in
    second-done a.msb a.first.now a.second.now a.last.now _ c.requires.size_of.whole c.requires.whole_le_limit _ zeroed
    c.begin-begin.ensures _ _ c.in-Continue.ensures _ c.in-Break-judge_part.ensures

pub judge_back-requires-clause-last_bound : goal.judge_back-requires-clause-last_bound
judge_back-requires-clause-last_bound c =
    let a = c.args in
    behind-small a.msb a.first.now a.second.now a.last.now _ c.requires.size_of.whole c.requires.whole_le_limit _ zeroed
    c.begin-begin.ensures _ _ c.in-Continue.ensures _ _ c.in-Continue-judge_part.ensures _ c.requires.size_of.index

pub judge_back-requires-clause-index_value : goal.judge_back-requires-clause-index_value
judge_back-requires-clause-index_value c =
    let a = c.args in
    let x = index_of a.msb a.first.now a.second.now a.last.now _ c.requires.size_of.index in
    subst (λ (m : ℕ). allowed m ≡ true) x.size x.framed.allowed

pub returns : goal.returns
returns c =
    let a = c.args in
    behind-done a.msb a.first.now a.second.now a.last.now _ c.requires.size_of.whole c.requires.whole_le_limit _ zeroed
    c.begin-begin.ensures _ _ c.in-Continue.ensures _ _ c.in-Continue-judge_part.ensures _ c.requires.size_of.index _
    c.judge_back.ensures
