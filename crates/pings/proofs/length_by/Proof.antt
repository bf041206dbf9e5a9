-- `pings::length_by` meets its contract: by the words of a compressed ping, and none for any other. Assumes nothing.
use mathlib.Core.Path.{◌≡◌, refl, sym, ap, ◌∙◌}
use mathlib.Core.Bool.{true}
use mathlib.Core.List.{List}
use Prim.Native.Nat.{ℕ}
use Rattle.layout.specs.Families.{wide, narrow, encoded}
use Rattle.layout.specs.Types.{Shape, listings, shape_of, compressed}
use Rattle.layout.proofs.Families.{no_words}
use Rattle.samples.specs.Runs.{ping_length}
use Rattle.pings.specs.Headers.{told_length}
use Rattle.pings.specs.inner.Handing.{part_length}
use Rattle.pings.proofs.Parts.{arm_c, no_length, words-alike, words-asked}
use Rattle.pings.proofs.length_by.Statement.{statement}
use Rattle.pings.proofs.length_by.Tie as tie

-- the shapes of the arms' types
words : (m : tie.In-10010) → shape_of m.args.code ≡ compressed wide
words m = arm_c wide refl m.in-10010.is

words16 : (m : tie.In-10040) → shape_of m.args.code ≡ compressed narrow
words16 m = arm_c narrow refl m.in-10040.is

codes16 : (m : tie.In-10050) → shape_of m.args.code ≡ compressed encoded
codes16 m = arm_c encoded refl m.in-10050.is

returns : tie.Need-returns-in-10010
returns c =
    let m = c.before in
    let a = m.args in
    c.length_of.ensures ∙ ap (λ (q : Shape). told_length (part_length q a.msb a.part.now)) (sym (words m))

returns-2 : tie.Need-returns-in-10040
returns-2 c =
    let m = c.before in
    let a = m.args in
    c.length_of16.ensures ∙ ap (λ (q : Shape). told_length (part_length q a.msb a.part.now)) (sym (words16 m))

returns-3 : tie.Need-returns-in-10050
returns-3 c =
    let m = c.before in
    let a = m.args in
    c.length_of16-in-10050.ensures
    ∙ ap (λ (ws : List ℕ). told_length (ping_length 256 ws)) (sym (words-alike true a.msb a.part.now))
    ∙ ap (λ (q : Shape). told_length (part_length q a.msb a.part.now)) (sym (codes16 m))

returns-4 : tie.Need-returns-in_default
unfolding listings
returns-4 c =
    let a = c.args in
    sym (ap told_length (no_length (shape_of a.code) a.msb a.part.now (no_words a.code c.in_default.in_default-own.rest)))

pub length_by_spec : {M : Type 1} → statement M
length_by_spec =
    tie.close
    (tie.spec
    (λ m κs. words-asked m.requires wide (words m))
    (λ m κs. words-asked m.requires narrow (words16 m))
    (λ m κs. words-asked m.requires encoded (codes16 m))
    returns
    returns-2
    returns-3
    returns-4)
