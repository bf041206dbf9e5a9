-- What is read back, of what the code hands back: each view settles it. Assumes nothing.
use mathlib.Core.List.{List}
use mathlib.Core.Option.{Option, none}
use Prim.Native.Nat.{ℕ}
use lib.IntN.{ℤ}
use lib.ListN.{length}
use Rattle.std.specs.Prelude.{Ok}
use Rattle.layout.specs.Answers.{counts}
use Rattle.layout.specs.Families.{Family}
use Rattle.layout.specs.Views.{as_answer}
use Rattle.layout.proofs.Told.{same_answer}
use Rattle.rows.specs.Readers.{row_text}
use Rattle.rows.specs.Views.{as_row}
use Rattle.rows.proofs.Told.{same_row}
use Rattle.pings.specs.declared.Ping.{Ping}
use Rattle.pings.specs.declared.PingHeader.{PingHeader}
use Rattle.pings.specs.declared.PingKind.{PingKind}
use Rattle.pings.specs.Headers.{told_length}
use Rattle.pings.specs.Views.{as_ping}
use Rattle.pings.proofs.Told.{same_ping}
use Rattle.roundtrip.specs.Pings.{PingBack, AnglesBack, PingGiven, AnglesGiven}
use Rattle.roundtrip.specs.Rows.{RowBack, RowGiven}

pub ping_given : {f : Family} {h : PingHeader} {a : ℤ} {ns : List ℕ} {vs : List ℤ} {l : Option ℕ} {kind : PingKind} {file : List ℕ} {p : ℕ}
    → PingBack f h a ns vs l kind file p → PingGiven h a ns vs l kind file p
ping_given {h = h} {a = a} {ns = ns} {l = l} {kind = kind} b =
    let it : Ping = record { header = h; attribute = a; kind = kind; values = length ns; length = told_length l } in
    record {
      fields = λ out e. same_ping out (Ok it) (b.fields (as_ping out) e);
      handed = λ numbers ms values us r m n e.
          let z = b.handed numbers ms values us (as_answer r) m n e in
          (same_answer r (Ok (counts 1 (length ns))) z.0, z.1, z.2);
    }

pub angles_given : {h : PingHeader} {a : ℤ} {ns : List ℕ} {xs ys : List ℤ} {kind : PingKind} {file : List ℕ} {p : ℕ}
    → AnglesBack h a ns xs ys kind file p → AnglesGiven h a ns xs ys kind file p
angles_given {h = h} {a = a} {ns = ns} {kind = kind} b =
    let it : Ping = record { header = h; attribute = a; kind = kind; values = length ns; length = told_length none } in
    record {
      fields = λ out e. same_ping out (Ok it) (b.fields (as_ping out) e);
      handed = λ numbers ms alongship athwartship us ws r m n k e.
          let z = b.handed numbers ms alongship athwartship us ws (as_answer r) m n k e in
          (same_answer r (Ok (counts 1 (length ns))) z.0, z.1, z.2, z.3);
    }

pub row_given : {k : ℕ} {ns t f : List ℕ} {p : ℕ} → RowBack k ns t f p → RowGiven k ns f p
row_given {k} {f = f} {p = p} b lent left r m a =
    let e = b.read lent left (as_row r) m a in
    (same_row r (Ok (row_text k f p)) e.0, e.1)
