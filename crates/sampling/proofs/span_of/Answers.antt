-- `sampling::span_of` meets its contract: each type's samples stand where its readers find them. Assumes nothing.
use Rattle.std.proofs.Common.{refl, rules}
use Rattle.layout.specs.Families.{wide, narrow}
use Rattle.pings.proofs.Parts.{arm_u, arm_c, words-asked}
use Rattle.sampling.proofs.Walking.{narrow-left, span-plain, span-wide, span-narrow}
use Rattle.sampling.proofs.span_of.Goals as goal

pub words_end-requires : goal.words_end-requires
words_end-requires c =
    let q = narrow-left c.args.code c.requires.code_value (search rules) in
    words-asked c.requires.sound_part _ q.1

pub returns-in-10000 : goal.returns-in-10000
returns-in-10000 c = span-plain _ _ wide (arm_u wide refl c.in-10000.is)

pub returns-in-10010 : goal.returns-in-10010
returns-in-10010 c =
    let e = arm_c wide refl c.in-10010.is in
    span-wide _ _ e (words-asked c.requires.sound_part wide e).0

pub returns-in-10030 : goal.returns-in-10030
returns-in-10030 c = span-plain _ _ narrow (arm_u narrow refl c.in-10030.is)

pub returns-in_default : goal.returns-in_default
returns-in_default c =
    let q = narrow-left c.args.code c.requires.code_value (search rules) in
    span-narrow _ _ q.0 q.1 _ c.words_end.ensures.lower_bound c.words_end.ensures.part_value
