-- The answers of all energies by what is counted, and the slices that they leave. Assumes nothing.
use mathlib.Core.Path.{◌≡◌, sym, ap, ap₂, ◌∙◌}
use mathlib.Core.Bool.{Bool, true, false, ◌||◌}
use mathlib.Core.List.{List}
use Prim.Native.Nat.{ℕ, ◌≤◌, ◌<◌}
use native.Mathlib.Omega.{arith}
use borrow.Author.Tests.{lt-ltb, le-ltb}
use lib.Dec.{ltb}
use lib.ListN.{length, length-map}
use lib.Seq.{sets}
use Rattle.rules.specs.Rules.{First}
use Rattle.rules.specs.Rules.First.{none, here, pass}
use Rattle.rules.proofs.Bools.{or_true}
use Rattle.rules.proofs.Laws.{first_eq}
use Rattle.layout.specs.declared.Counts.{Counts}
use Rattle.layout.specs.Answer.{Answer}
use Rattle.layout.specs.Answer.{Accepted, Refused}
use Rattle.layout.specs.Answers.{tells}
use Rattle.layout.proofs.Lent.{left-refused, left-accepted}
use Rattle.intake.specs.Check.{writing, check_file}
use Rattle.linked.specs.Linked.{linked_of}
use Rattle.energy.specs.Energy.{places_of, energies_of, codes_of, room_rules, behind_check, energies_answer, EnergiesTold}
use Rattle.energy.specs.inner.Telling.{Roomy}

module _ (f ps es cs : List ℕ) where
  abbrev said : Answer
  said = energies_answer f (length ps) (length es) (length cs)

  refusing : (x p : ℕ) → said ≡ Refused x p → EnergiesTold f ps es cs (Refused x p) ps es cs
  refusing x p e =
      record {
        answer = tells (sym e);
        places = left-refused said x p (places_of f) ps e;
        energies = left-refused said x p (energies_of f) es e;
        codes = left-refused said x p (codes_of f) cs e;
      }

  -- ---- the check's refusals
  pub all-refused : (x p : ℕ) → check_file f ≡ Refused x p → EnergiesTold f ps es cs (Refused x p) ps es cs
  unfolding energies_answer
  all-refused x p e = refusing x p (ap (behind_check f (length ps) (length es) (length cs)) e)

  -- ---- an acceptance, and the pings counted then
  module _ (n : Counts) (m : ℕ) (a : check_file f ≡ Accepted n) (c : m ≡ length (linked_of f)) where
    abbrev pings : ℕ
    pings = length (linked_of f)

    by-rule : {x : Answer} → First (room_rules pings (length ps) (length es) (length cs)) (Accepted (writing n pings)) x → said ≡ x
    unfolding energies_answer
    by-rule p = ap (behind_check f (length ps) (length es) (length cs)) a ∙ sym (first_eq p)

    short : ltb (length ps) pings || (ltb (length es) pings || ltb (length cs) pings) ≡ true
        → EnergiesTold f ps es cs (Refused 19 0) ps es cs
    short e = refusing 19 0 (by-rule (here e))

    pub short-places : length ps < m → EnergiesTold f ps es cs (Refused 19 0) ps es cs
    short-places h =
        short (ap (λ (b : Bool). b || (ltb (length es) pings || ltb (length cs) pings)) (lt-ltb (length ps) pings (omega (arith, c))))

    pub short-energies : length es < m → EnergiesTold f ps es cs (Refused 19 0) ps es cs
    short-energies h =
        short (or_true (ltb (length ps) pings)
        (ap (λ (b : Bool). b || ltb (length cs) pings) (lt-ltb (length es) pings (omega (arith, c)))))

    pub short-codes : length cs < m → EnergiesTold f ps es cs (Refused 19 0) ps es cs
    short-codes h =
        short (or_true (ltb (length ps) pings) (or_true (ltb (length es) pings) (lt-ltb (length cs) pings (omega (arith, c)))))

    module _ (h : m ≤ length ps) (i : m ≤ length es) (j : m ≤ length cs) where
      pub roomy : Roomy f n (length ps) (length es) (length cs)
      roomy =
          record { accepted = a; places_room = omega (arith, c); energies_room = omega (arith, c); codes_room = omega (arith, c) }

      enough : ltb (length ps) pings || (ltb (length es) pings || ltb (length cs) pings) ≡ false
      enough =
          ap₂ (λ (x y : Bool). x || (y || ltb (length cs) pings)) (le-ltb (length ps) pings (omega (arith, c)))
          (le-ltb (length es) pings (omega (arith, c)))
          ∙ le-ltb (length cs) pings (omega (arith, c))

      many : (length (places_of f) ≡ m) × (length (energies_of f) ≡ m) × (length (codes_of f) ≡ m)
      unfolding places_of energies_of codes_of
      many = (simp length-map (sym c), simp length-map (sym c), simp length-map (sym c))

      pub told-all : (ps' es' cs' : List ℕ) → ps' ≡ sets ps 0 (places_of f) → es' ≡ sets es 0 (energies_of f) → cs' ≡ sets cs 0 (codes_of f)
          → EnergiesTold f ps es cs (Accepted (writing n m)) ps' es' cs'
      told-all ps' es' cs' p e k =
          let z : said ≡ Accepted (writing n pings) = by-rule (pass enough none) in
          record {
            answer = tells (ap (λ (x : ℕ). Accepted (writing n x)) c ∙ sym z);
            places = left-accepted said _ (places_of f) ps ps' z (omega (arith, many.0)) p;
            energies = left-accepted said _ (energies_of f) es es' z (omega (arith, many.1)) e;
            codes = left-accepted said _ (codes_of f) cs cs' z (omega (arith, many.2)) k;
          }
