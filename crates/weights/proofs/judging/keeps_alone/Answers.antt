-- `weights::judging::keeps_alone` meets its contract: the rules of the frame, of the head, of the samples. Assumes nothing.
use Rattle.std.proofs.Common.{◌≡◌, refl, sym, ap, ◌∙◌, arith, ℕ, Bool, false, List, drop}
use mathlib.Core.Bool.{true≢false}
use lib.Dec.{eqb}
use Rattle.layout.specs.Verdict.{Verdict, Fine, Fault}
use Rattle.layout.specs.Answers.{both, is_fine}
use Rattle.layout.proofs.Views.{ok_fine, fine_ok, fine_no_err, err_unfine}
use Rattle.frame.specs.Frames.{tup_at}
use Rattle.frame.proofs.Places.{framing-whole}
use Rattle.intake.specs.Alone.{alone}
use Rattle.intake.specs.inner.Tallies.{head_verdict, inner_verdict, own_verdict, Here}
use Rattle.intake.proofs.Alone.{alone-parts}
use Rattle.intake.proofs.Judges.{head-fits, own-parts}
use Rattle.weights.proofs.judging.keeps_alone.Goals as goal

-- what isn't fine isn't with another behind it, and behind what is fine the other decides
unfine : (v w : Verdict) → is_fine v ≡ false → is_fine (both v w) ≡ false
unfine Fine w e = absurd (true≢false e)
unfine (Fault c p) w e = refl

-- by the verdicts on the frame, the head and the samples
said : {o : Bool} {f : List ℕ} {at n k : ℕ} (h : Here o f at n k) {head : Verdict} →
    let t = tup_at o (drop at f) in
    head ≡ head_verdict o (eqb k 65535) t → is_fine (both head (inner_verdict o t)) ≡ is_fine (alone o (drop at f))
said {o} {f} {at} h {head} e =
    let t = tup_at o (drop at f) in
    ap (λ (v : Verdict). is_fine (both v (inner_verdict o t))) e
    ∙ ap is_fine (own-parts h)
    ∙ ap (λ (v : Verdict). is_fine (both v (own_verdict o t))) (sym h.framed)
    ∙ ap is_fine (sym (alone-parts o (drop at f)))

pub returns-then-is_err : goal.returns-then-is_err
returns-then-is_err c =
    rw (alone-parts c.args.msb (drop c.args.at c.args.file.now), ← c.judge_frame.ensures)
    (sym (unfine _ _ (err_unfine _ (sym c.is_err.ensures.value ∙ c.if-is_err.true))))

pub length_at-whole-requires : goal.length_at-whole-requires
length_at-whole-requires c =
    let h = framing-whole c.args.msb c.args.file.now c.args.at (sym c.judge_frame.ensures ∙ fine_no_err _ (sym c.is_err.ensures.value ∙ c.if-is_err.false)) in
    omega (arith, h.long, h.fits)

pub kind_at-code-requires : goal.kind_at-code-requires
kind_at-code-requires c =
    let h = framing-whole c.args.msb c.args.file.now c.args.at (sym c.judge_frame.ensures ∙ fine_no_err _ (sym c.is_err.ensures.value ∙ c.if-is_err.false)) in
    omega (arith, h.long, h.fits)

pub keeps_inner-requires-clause-fits : goal.keeps_inner-requires-clause-fits
keeps_inner-requires-clause-fits c =
    let h : Here c.args.msb c.args.file.now c.args.at c.length_at-whole.result c.kind_at-code.result = record {
      framed = sym c.judge_frame.ensures ∙ fine_no_err _ (sym c.is_err.ensures.value ∙ c.if-is_err.false);
      size = sym c.length_at-whole.ensures;
      kind = sym c.kind_at-code.ensures;
    } in
    head-fits h _ c.judge_head.ensures (fine_ok _ (sym c.is_ok.ensures.value ∙ c.if-is_ok.true))

pub returns-then-is_ok : goal.returns-then-is_ok
returns-then-is_ok c =
    let h : Here c.args.msb c.args.file.now c.args.at c.length_at-whole.result c.kind_at-code.result = record {
      framed = sym c.judge_frame.ensures ∙ fine_no_err _ (sym c.is_err.ensures.value ∙ c.if-is_err.false);
      size = sym c.length_at-whole.ensures;
      kind = sym c.kind_at-code.ensures;
    } in
    c.keeps_inner.ensures
    ∙ ap (λ (w : Verdict). is_fine (both w (inner_verdict c.args.msb (tup_at c.args.msb (drop c.args.at c.args.file.now)))))
    (sym (fine_ok _ (sym c.is_ok.ensures.value ∙ c.if-is_ok.true)))
    ∙ said h c.judge_head.ensures

pub returns-else-is_ok : goal.returns-else-is_ok
returns-else-is_ok c =
    let h : Here c.args.msb c.args.file.now c.args.at c.length_at-whole.result c.kind_at-code.result = record {
      framed = sym c.judge_frame.ensures ∙ fine_no_err _ (sym c.is_err.ensures.value ∙ c.if-is_err.false);
      size = sym c.length_at-whole.ensures;
      kind = sym c.kind_at-code.ensures;
    } in
    c.if-is_ok.false
    ∙ sym (unfine _ _ (sym (ok_fine _) ∙ sym c.is_ok.ensures.value ∙ c.if-is_ok.false))
    ∙ said h c.judge_head.ensures
