-- `normal::normalise` meets its contract: the check's refusals, then rule by rule by what is measured. Assumes nothing.
use mathlib.Core.Path.{◌≡◌, refl, sym, ap, ◌∙◌}
use mathlib.Core.Bool.{Bool, false, ◌&&◌}
use mathlib.Core.List.{List}
use Prim.Native.Nat.{ℕ, ◌<◌}
use native.Mathlib.Omega.{arith}
use borrow.Author.Rules.{rules}
use lib.Dec.{ltb}
use lib.ListN.{length}
use Rattle.std.proofs.lemmas.Result.{err_from_is_err_and}
use Rattle.layout.specs.declared.Counts.{Counts}
use Rattle.layout.specs.Answer.{Answer}
use Rattle.layout.specs.Answer.{Refused}
use Rattle.layout.specs.Views.{as_answer}
use Rattle.frame.specs.Files.{limit, is_msb}
use Rattle.normal.specs.Normaliser.{Normalised}
use Rattle.normal.specs.declared.Measure.{Measure}
use Rattle.intake.specs.inner.Sound.{Accepts}
use Rattle.intake.proofs.Loops.{accepted_4}
use Rattle.normal.proofs.Answers.{FoundOf, refused_of, found_unturnable, found-over, found_no_room, found_writable, found-written}
use Rattle.normal.proofs.normalise.Statement.{statement}
use Rattle.normal.proofs.normalise.Tie as tie

-- the check accepts
abbrev accepts : (c : tie.In_ok-counts) → Accepts c.args.file.now
accepts c = record { counts = _; answer = sym c.check.ensures.is ∙ ap as_answer c.in_ok-counts.ensures }

-- what is measured
found : (c : tie.After-measure_file-m)
    → FoundOf c.args.file.now c.in_ok-counts.counts c.measure_file-m.result.bytes c.measure_file-m.result.unlisted
found c = record {
  accepted = sym c.check.ensures.is ∙ ap as_answer c.in_ok-counts.ensures;
  bytes = ap (λ (m : Measure). m.bytes) c.measure_file-m.ensures.0;
  unlisted = ap (λ (m : Measure). m.unlisted) c.measure_file-m.ensures.0;
}

-- whether it can be turned
turns : (c : tie.After-is_unturnable)
    → c.is_unturnable.result ≡ is_msb c.args.file.now && ltb c.measure_file-m.result.unlisted (length c.args.file.now)
turns c =
    c.is_unturnable.ensures
    ∙ ap (λ (o : Bool). o && ltb c.measure_file-m.result.unlisted (length c.args.file.now)) c.is_msb.ensures

-- a refusal as over the limit, by what was measured
over : (f out : List ℕ) {n : Counts} {b u : ℕ} → FoundOf f n b u → is_msb f && ltb u (length f) ≡ false → limit < b
    → {r : Answer} → r ≡ Refused 20 0 → Normalised f out r out
over f out t e h r = rw r (found-over f out _ _ _ t e h)

returns-2 : tie.Need-returns-then-is_unturnable
returns-2 c =
    rw (ap as_answer c.refuse.ensures)
    (found_unturnable _ _ _ _ _ (found c.before.before.before.before.before) (sym (turns c.before.before) ∙ c.if-is_unturnable.true))

returns-4 : tie.Need-returns-then-out-m
returns-4 c =
    let u = c.before.before.before.before.before.before in
    rw (ap as_answer c.refuse-then-out-m.ensures)
    (found_no_room _ _ _ _ _ (found u.before.before.before) (sym (turns u) ∙ c.if-is_unturnable.false) (omega arith) c.if-out-m.true)

write-normal-requires : tie.Need-write_normal-requires
write-normal-requires c κs =
    let u = c.before.before.before.before.before.before.before in (
      found_writable _ c.args.out.now _ _ _ (found u.before.before.before) (sym (turns u) ∙ c.if-is_unturnable.false) c.if-out-m.false,
      c.measure_file-m.ensures.1,
    )

pub normalise_spec : {M : Type 1} → statement M
normalise_spec =
    tie.close
    (tie.spec
    (λ c κs. search rules)
    (λ c κs. search rules)
    (λ c. search rules)
    (λ c. search rules)
    (λ c κs. search rules)
    (λ c.
    let p = err_from_is_err_and c.from_residual.result c.from_residual.ensures.1 in
    rw (p.1, p.2) (refused_of _ _ _ _ (sym (ap as_answer c.in_err-counts.ensures) ∙ c.check.ensures.is)))
    (λ c κs. (accepts c.before, refl))
    (λ c κs. accepted_4 _ (accepts c.before.before))
    (λ c κs. search rules)
    (λ c κs. search rules)
    returns-2
    (λ c κs. search rules)
    (λ c.
    let u = c.before.before.before.before in
    over _ _ (found u.before.before.before) (sym (turns u) ∙ c.if-is_unturnable.false) (omega arith) (search rules))
    (λ c κs. search rules)
    returns-4
    write-normal-requires
    (λ c. search rules)
    (λ c.
    let u = c.before.before.before.before.before.before.before.before.before.before in
    found-written _ _ _ _ _ (found u.before.before.before) (sym (turns u) ∙ c.if-is_unturnable.false) (omega arith) c.if-out-m.false _
    c.write_normal.ensures))
