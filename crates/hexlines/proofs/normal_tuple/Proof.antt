-- `hexlines::normal_tuple` meets its contract: what is printed of the input is what is printed of the text. Assumes nothing.
use mathlib.Core.Path.{◌≡◌, sym}
use mathlib.Core.List.{List}
use Prim.Native.Nat.{ℕ, ◌≤◌}
use native.Mathlib.Omega.{arith}
use borrow.Author.Rules.{rules}
use lib.ListN.{length, take}
use lib.Seq.{length-take-le}
use Rattle.hexlines.specs.Lines.{room, bad, bytes, input_of}
use Rattle.hexlines.proofs.Reading.{read-bad, read-bytes}
use Rattle.hexlines.proofs.Programs.{prints-tuple}
use Rattle.hexlines.proofs.normal_tuple.Statement.{statement}
use Rattle.hexlines.proofs.normal_tuple.Tie as tie

-- the characters that were read
abbrev text : tie.After-decode → List ℕ
text d = let a = d.args in take a.characters a.text.now

-- a bad line, or the bytes at the front of the space
finds-bad : (c : tie.In-Err) → input_of (text c.before.before) ≡ bad c.in-Err.number
finds-bad c = read-bad c.decode.ensures _ c.in-Err.is

finds-bytes : (c : tie.In-Ok) →
    let n = c.in-Ok.n in
    (n ≤ room) × (input_of (text c.before.before) ≡ bytes (take n c.decode.new.bytes))
finds-bytes c = let d = c.before.before in
    read-bytes d.decode.ensures _ d.space-file.ensures c.in-Ok.is

fits : (c : tie.In-Ok) → c.in-Ok.n ≤ length c.decode.new.bytes
fits c = let d = c.before.before in
    omega (arith, (finds-bytes c).0, d.decode.auto.bytes, d.space-file.ensures)

slice-aggregate-decode : tie.Need-slice_bounds-decode-end-2
slice-aggregate-decode c = sym (length-take-le _ _ c.requires.0)

array-share-prefix-file : tie.Need-slice_bounds-file-end
array-share-prefix-file c = fits c.before

slice-aggregate-print : tie.Need-slice_bounds-print-end
slice-aggregate-print c = sym (length-take-le _ _ (fits c.before.before))

returns : tie.Need-returns-in-Err
returns c = prints-tuple _ _ (finds-bad c.before.before.before.before) c.print_bad.ensures

returns-2 : tie.Need-returns-in-Ok
returns-2 c = let printed = c.before.before in
    prints-tuple _ _ (finds-bytes printed.before.before.before).1 printed.print.ensures

pub normal_tuple_spec : {M : Type 1} → statement M
normal_tuple_spec =
    tie.close
    (tie.spec
    (λ c κs. search rules)
    (λ c. search rules)
    slice-aggregate-decode
    (λ c. search rules)
    (λ c κs. search rules)
    (λ c. search rules)
    (λ c κs. search rules)
    (λ c. search rules)
    array-share-prefix-file
    slice-aggregate-print
    (λ c κs. search rules)
    (λ c. search rules)
    returns
    (λ c. search rules)
    returns-2)
