-- `ping_forms::write_compressed` meets its contract: by the type. Assumes nothing.
use mathlib.Core.Path.{subst}
use borrow.Author.Rules.{rules}
use Rattle.intake.specs.inner.Sound.{SoundHere}
use Rattle.ping_forms.proofs.Words16.{encoded-left}
use Rattle.ping_forms.proofs.write_compressed.Statement.{statement}
use Rattle.ping_forms.proofs.write_compressed.Tie as tie

write-form-requires : tie.Need-write_form-requires
write-form-requires c κs =
    let m = c.before in
    let p = m.requires in
    (subst (SoundHere _ _ _ _) m.in-10010.is p.0, p.1.1)

write-form-requires-2 : tie.Need-write_form-requires-in-10040
write-form-requires-2 c κs =
    let m = c.before in
    let p = m.requires in
    (subst (SoundHere _ _ _ _) m.in-10040.is p.0, p.1.1)

-- the last type of words
write-form-requires-3 : tie.Need-write_form-requires-in_default
write-form-requires-3 c κs =
    let m = c.before in
    let s = m.before.before.before in
    (subst (SoundHere _ _ _ _) (encoded-left s.args.code s.requires.1.0 m.in_default.in_default-own.rest) s.requires.0, s.requires.1.1)

pub write_compressed_spec : {M : Type 1} → statement M
write_compressed_spec =
    tie.close
    (tie.spec
    write-form-requires
    write-form-requires-2
    write-form-requires-3
    (λ c. search rules)
    (λ c. search rules)
    (λ c. search rules)
    (λ c. search rules)
    (λ c. search rules)
    (λ c. search rules))
