-- `readings::fill` meets its contract: the samples of the ping's part, laid over silence, are the window. Assumes nothing.
use mathlib.Core.Path.{sym, ap, ◌∙◌}
use Prim.Native.Nat.{ℕ}
use native.Mathlib.Omega.{arith}
use borrow.Author.Rules.{rules}
use lib.ListN.{length, length-replicate}
use Rattle.samples.proofs.Rising.{rises}
use Rattle.sampling.proofs.Walking.{span-long}
use Rattle.readings.specs.Reading.{case_in, double_in, no_double}
use Rattle.readings.proofs.Laying.{filled-window}
use Rattle.readings.proofs.fill.Statement.{statement}
use Rattle.readings.proofs.fill.Tie as tie

-- ---- places
abbrev start : tie.After-span_of-span → tie.Start
start k = k.before.before.before.before.before.before

abbrev cleared : tie.After-lay-arg-3-1 → tie.After-clear
cleared k = k.before.before.before.before.before.before.before

-- ---- needs
lay-requires : tie.Need-lay-requires
lay-requires c κs =
    let k = cleared c in
    let spanned = k.before.before.before in
    let s = start spanned in
    let n = length s.args.cases.now in
    let span = spanned.span_of-span.ensures in (
      (s.requires.1.0, omega (arith, span-long span, span.within, s.requires.0.sound.few)),
      ap length k.clear.ensures.0
          ∙ length-replicate {A = ℕ} n 0
          ∙ sym (ap length k.clear.ensures.1 ∙ length-replicate n no_double),
    )

returns : tie.Need-returns
returns c =
    let lain = c.before.before.before.before in
    let k = cleared lain.before in
    let spanned = k.before.before.before in
    let s = start spanned in
    let a = s.args in
    let n = length a.cases.now in
    let span = spanned.span_of-span.ensures in
    let rising = rises _ s.requires.0.rising in (
      filled-window case_in a.ping.quantity span rising a.first n k.clear.ensures.0 lain.lay.ensures.0,
      filled-window double_in a.ping.quantity span rising a.first n k.clear.ensures.1 lain.lay.ensures.1,
    )

pub fill_spec : {M : Type 1} → statement M
fill_spec =
    tie.close
    (tie.spec
    (λ c. search rules)
    (λ c. search rules)
    (λ c. search rules)
    (λ c. search rules)
    (λ c. search rules)
    (λ c. search rules)
    (λ c κs. search rules)
    (λ c κs. search rules)
    (λ c. search rules)
    (λ c. search rules)
    (λ c. search rules)
    lay-requires
    (λ c. search rules)
    (λ c. search rules)
    returns)
