-- What is said of lists before a ping is written, by their counts and by what the loops over them found. Assumes nothing.
use Rattle.std.specs.Prelude.{ℕ, ◌+◌, ◌*◌, ◌%◌, min, Bool, true, false, not, ◌&&◌, List, [], ◌∷◌, ltb, eqb, length}
use Rattle.std.proofs.Math.Option.{Option}
use Rattle.rules.specs.Rules.{Rule, ◌⇒◌, first_of}
use Rattle.layout.specs.Answer.{Answer}
use Rattle.layout.specs.Answer.{Refused}
use Rattle.layout.specs.Answers.{accepting}
use Rattle.layout.specs.Families.{wide, narrow, value_bytes, radix_of}
use Rattle.samples.specs.inner.Lists.{numbered}
use Rattle.samples.specs.Runs.{encode_from, quiet}
use Rattle.samples.specs.Judging.{most, first_drop, too_short}
use Rattle.content.specs.Forms.{has_length}

-- ---- uncompressed
-- the bytes of a ping of n samples of k bytes
abbrev pub plain_size : ℕ → ℕ → ℕ
plain_size k n = 32 + (n * k + (n * k) % 4)

-- the lists are equal in count or not, the smallest has n entries; i is the place of the first number that doesn't rise; a sample has k
-- bytes
abbrev pub plain_rules : Bool → ℕ → ℕ → ℕ → ℕ → List (Rule Answer)
plain_rules equal n i k room =
    (not equal ⇒ Refused 23 n)
    ∷ (ltb most n ⇒ Refused 11 0)
    ∷ (eqb n 0 ⇒ Refused 22 0)
    ∷ (ltb i n ⇒ Refused 23 i)
    ∷ (ltb room (plain_size k n) ⇒ Refused 19 0)
    ∷ []

unfoldable pub plain_answer : Bool → ℕ → ℕ → ℕ → ℕ → Answer
plain_answer equal n i k room = first_of (plain_rules equal n i k room) (accepting 1 (plain_size k n))

-- ---- compressed
-- words of four bytes, or of two
abbrev pub width_by : Bool → ℕ
width_by true = value_bytes wide
width_by false = value_bytes narrow

abbrev pub radix_by : Bool → ℕ
radix_by true = radix_of wide
radix_by false = radix_of narrow

-- the bytes of a ping whose samples have these numbers, with t quiet ones behind the last: its words have k bytes, of two halves of the
-- radix R
abbrev pub packed_size : ℕ → ℕ → List ℕ → ℕ → ℕ
packed_size k R ns t =
    let n = k * length (encode_from R 0 (numbered ns) t) in
    36 + (n + n % 4)

-- there are v values; j is the place of the first that has no word
abbrev pub packed_rules : ℕ → ℕ → List ℕ → ℕ → ℕ → Option ℕ → ℕ → List (Rule Answer)
packed_rules k R ns v j l room =
    let n = packed_size k R ns (quiet (numbered ns) l) in
    (not (eqb (length ns) v) ⇒ Refused 23 (min (length ns) v))
    ∷ (ltb most (length ns) ⇒ Refused 11 0)
    ∷ (eqb (length ns) 0 && not (has_length l) ⇒ Refused 22 0)
    ∷ (ltb (first_drop 0 (numbered ns)) (length ns) ⇒ Refused 23 (first_drop 0 (numbered ns)))
    ∷ (ltb j (length ns) ⇒ Refused 21 j)
    ∷ (too_short (numbered ns) l ⇒ Refused 26 0)
    ∷ (ltb 262144 n ⇒ Refused 11 0)
    ∷ (ltb room n ⇒ Refused 19 0)
    ∷ []

unfoldable pub packed_answer : ℕ → ℕ → List ℕ → ℕ → ℕ → Option ℕ → ℕ → Answer
packed_answer k R ns v j l room =
    first_of (packed_rules k R ns v j l room) (accepting 1 (packed_size k R ns (quiet (numbered ns) l)))
