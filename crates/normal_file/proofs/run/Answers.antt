-- What is written is what the program prints of the characters that were read, and so of the whole input.
use Rattle.std.proofs.Common.{◌≡◌, ℕ, ◌+◌, ◌≤◌, List, None, Some, IfSome, length, take, drop, sym, ap, ◌∙◌, subst, arith}
use Rattle.std.specs.Io.KnownBytes.{Appends}
use Rattle.std.proofs.lemmas.List.Edits.{sets-eq}
use Rattle.std.proofs.lemmas.Result.{on_ok_weaker}
use Rattle.std.specs.declared.option.Option.{Option}
use lib.Seq.{length-sets, take-append_seam}
use Rattle.hexlines.specs.Lines.{enough}
use Rattle.hexlines.specs.Programs.{normal_file}
use Rattle.hexlines.specs.Printing.{Prints}
use Rattle.hexlines.proofs.Stopping.{file-stops}
use Rattle.normal_file.proofs.run.Goals as goal

-- the bytes that a function left at the front of lent memory
printed-is : (out text left : List ℕ) (k : ℕ) → Prints out text k left → take k left ≡ out
printed-is out text left k p =
    let same_length = ap length p.memory ∙ length-sets text 0 out in
    let fits : 0 + length out ≤ length text = omega (arith, p.answer, p.within, same_length) in
    let front = ap (take (length out)) (p.memory ∙ sets-eq out text 0 fits) ∙ take-append_seam out (drop (0 + length out) text) in
    subst (λ n. take n left ≡ out) (sym p.answer) front

written : (known old new : Option (List ℕ)) (n k : ℕ) (space text left : List ℕ) → enough ≡ length space
    → IfSome known (λ whole. take n text ≡ take (length space) whole) → Prints (normal_file (take n text)) text k left
    → Appends old new (take k left) → IfSome known (λ whole. Appends old new (normal_file whole))
written None old new n k space text left size read printed put = tt
written (Some whole) old new n k space text left size read printed put =
    let same : take k left ≡ normal_file whole =
    printed-is _ _ _ _ printed ∙ ap normal_file (read ∙ ap (λ m. take m whole) (sym size)) ∙ file-stops whole in
    subst (Appends old new) same put

pub returns : goal.returns
returns g c =
    let said = written _ _ _ _ _ _ _ _ c.space-text.ensures c.in_ok-n.ensures.bytes c.normal_file-printed.ensures in
    on_ok_weaker _ said c.write_all.ensures.bytes
