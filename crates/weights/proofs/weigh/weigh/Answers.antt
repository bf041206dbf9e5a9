-- `weights::weigh::weigh` meets its contract: each kind by its loop, and what n of a kind weigh at most. Assumes nothing.
use Rattle.std.proofs.Common.{◌≡◌, ℕ, ◌+◌, ◌*◌, ◌≤◌, Bool, List, take, drop, arith, rules, tests, refl, sym, ap, ◌∙◌}
use Rattle.order.specs.Order.{num_of}
use Rattle.layout.specs.Families.{Family, wide, narrow, narrow_angles, number_bytes, sample_bytes}
use Rattle.weights.specs.declared.Kind.{Kind}
use Rattle.weights.specs.declared.Kind.TheVariants.{C32, C16, CE16}
use Rattle.weights.specs.inner.Weights.{weighed, by_drops, weight_at, Dropped}
use Rattle.weights.proofs.Weighing.{weight_most, dropped}
use Rattle.weights.proofs.weigh.weigh.Goals as goal

-- the drops of a kind that counts a family's
counted : (k : Kind) (f : Family) (o : Bool) (s : ℕ) (file : List ℕ) (from n : ℕ) {m : Kind} {R : ℕ → ℕ → Type 0} {r : ℕ} → k ≡ m
    → (sample_bytes f ≡ s) × (weight_at m o file from n ≡ weighed (by_drops f o) s n (drop from file))
    → ((i x : ℕ) → i ≤ n → R i x → x ≡ num_of o (take (number_bytes f) (drop (from + s * i) file)))
    → Dropped R n r → r ≡ weight_at k o file from n
counted k f o s file from n {R = R} {r = r} e w told d =
    dropped f o s from file R w.0 n r told d ∙ sym w.1 ∙ ap (λ (k : Kind). weight_at k o file from n) (sym e)

pub returns-in-C32-clause-upper_bound : goal.returns-in-C32-clause-upper_bound
returns-in-C32-clause-upper_bound c = let a = c.args in omega (arith, c.words4.ensures, weight_most C32 a.msb a.file.now a.from a.n)

pub returns-in-C16-clause-upper_bound : goal.returns-in-C16-clause-upper_bound
returns-in-C16-clause-upper_bound c = let a = c.args in omega (arith, c.words2.ensures, weight_most C16 a.msb a.file.now a.from a.n)

pub returns-in-CE16-clause-upper_bound : goal.returns-in-CE16-clause-upper_bound
returns-in-CE16-clause-upper_bound c = let a = c.args in omega (arith, c.words2-in-CE16.ensures, weight_most CE16 a.msb a.file.now a.from a.n)

pub returns-in-Pairs-clause-value : goal.returns-in-Pairs-clause-value
returns-in-Pairs-clause-value c =
    let a = c.args in
    counted a.kind wide a.msb 8 a.file.now a.from a.n c.in-Pairs.is (refl, refl) (λ i x l q. search (rules, tests)) c.drops.ensures

pub returns-in-Pairs-clause-upper_bound : goal.returns-in-Pairs-clause-upper_bound
returns-in-Pairs-clause-upper_bound c =
    let a = c.args in
    omega (arith, returns-in-Pairs-clause-value c, weight_most a.kind a.msb a.file.now a.from a.n)

pub returns-in-Shorts-clause-value : goal.returns-in-Shorts-clause-value
returns-in-Shorts-clause-value c =
    let a = c.args in
    counted a.kind narrow a.msb 4 a.file.now a.from a.n c.in-Shorts.is (refl, refl) (λ i x l q. search (rules, tests)) c.drops-in-Shorts.ensures

pub returns-in-Shorts-clause-upper_bound : goal.returns-in-Shorts-clause-upper_bound
returns-in-Shorts-clause-upper_bound c =
    let a = c.args in
    omega (arith, returns-in-Shorts-clause-value c, weight_most a.kind a.msb a.file.now a.from a.n)

pub returns-in-Triples-clause-value : goal.returns-in-Triples-clause-value
returns-in-Triples-clause-value c =
    let a = c.args in
    counted a.kind narrow_angles a.msb 6 a.file.now a.from a.n c.in-Triples.is (refl, refl) (λ i x l q. search (rules, tests)) c.drops-in-Triples.ensures

pub returns-in-Triples-clause-upper_bound : goal.returns-in-Triples-clause-upper_bound
returns-in-Triples-clause-upper_bound c =
    let a = c.args in
    omega (arith, returns-in-Triples-clause-value c, weight_most a.kind a.msb a.file.now a.from a.n)
