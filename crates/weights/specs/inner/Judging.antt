-- What is judged by weights. Assumes nothing.
use Rattle.std.specs.Prelude.{◌≡◌, ℕ, ◌+◌, ◌≤◌, Bool, true, false}
use Rattle.layout.specs.Families.{Family, wide, narrow, encoded, narrow_angles}
use Rattle.weights.specs.declared.Kind.{Kind}
use Rattle.weights.specs.declared.Kind.TheVariants.{C32, C16, CE16, Pairs, Shorts, Triples}
use Rattle.weights.specs.inner.Weights.{step_by, ahead_by}

-- the family whose words or samples a kind's things are
abbrev pub family_by : Kind → Family
family_by C32 = wide
family_by C16 = narrow
family_by CE16 = encoded
family_by Pairs = wide
family_by Shorts = narrow
family_by Triples = narrow_angles

-- so many bytes of samples, one at least, from a place on
abbrev pub Rising : Kind → ℕ → ℕ → ℕ → Type 0
Rising k from size total = (step_by k ≤ size) × (ahead_by k ≡ 1) × (from + size ≤ total)

-- words of two bytes: encoded, or not
abbrev pub narrow_by : Bool → Kind
narrow_by true = CE16
narrow_by false = C16
