-- What the ping writers answer, and the bytes that they write, over the family. Assumes nothing.
use Rattle.std.specs.Prelude.{ℕ, min, Bool, not, ◌&&◌, List, [], ◌∷◌, ◌++◌, ltb, eqb, ℤ, length}
use Rattle.std.proofs.Math.Option.{Option, none}
use Rattle.order.specs.Order.{pattern_of}
use Rattle.rules.specs.Rules.{Rule, ◌⇒◌}
use Rattle.layout.specs.Answer.{Answer}
use Rattle.layout.specs.Answer.{Refused}
use Rattle.layout.specs.Families.{Family}
use Rattle.frame.specs.Frames.{Tup, frame}
use Rattle.samples.specs.Words.{Sample}
use Rattle.samples.specs.Lists.{handed_bytes, paired, angled}
use Rattle.samples.specs.Judging.{most, first_drop, first_wordless, too_short}
use Rattle.content.specs.Pings.{Ping}
use Rattle.content.specs.Forms.{tuple_u, tuple_c, has_length}
use Rattle.tuples.specs.Writers.{Written, too_long}
use Rattle.pings.specs.declared.PingHeader.{PingHeader}
use Rattle.pings.specs.Headers.{head_of}

-- the ping that is written
abbrev pub ping_of : Family → PingHeader → ℤ → List Sample → Option ℕ → Ping
ping_of f h a s l = record { family = f; head = head_of h; samples = s; length = l; attr = pattern_of 4 a }

-- ---- what is handed over apart: unequal in count, 23 at the smallest; 11 (count)
abbrev pub count_rules : List ℕ → List ℤ → List (Rule Answer)
count_rules ns vs =
    (not (eqb (length ns) (length vs)) ⇒ Refused 23 (min (length ns) (length vs)))
    ∷ (ltb most (length ns) ⇒ Refused 11 0)
    ∷ []

abbrev pub angle_rules : List ℕ → List ℤ → List ℤ → List (Rule Answer)
angle_rules ns xs ys =
    (not (eqb (length ns) (length xs) && eqb (length ns) (length ys)) ⇒ Refused 23 (min (length ns) (min (length xs) (length ys))))
    ∷ (ltb most (length ns) ⇒ Refused 11 0)
    ∷ []

-- ---- what is asked of samples
-- 23 at the first number not above the one before it
abbrev pub rising_rule : List Sample → Rule Answer
rising_rule s = ltb (first_drop 0 s) (length s) ⇒ Refused 23 (first_drop 0 s)

-- uncompressed: 22 without samples, 23, 11 (length)
abbrev pub rules_u : List Sample → Tup → List (Rule Answer)
rules_u s t = (eqb (length s) 0 ⇒ Refused 22 0) ∷ rising_rule s ∷ too_long t ∷ []

-- compressed: 22 with neither samples nor a length, 23; 21 at the first value that has no word; 26 for a length that ends before a quiet
-- sample behind the last; 11 (length)
abbrev pub rules_c : Family → List Sample → Option ℕ → Tup → List (Rule Answer)
rules_c f s l t =
    (eqb (length s) 0 && not (has_length l) ⇒ Refused 22 0)
    ∷ rising_rule s
    ∷ (ltb (first_wordless f s) (length s) ⇒ Refused 21 (first_wordless f s))
    ∷ (too_short s l ⇒ Refused 26 0)
    ∷ too_long t
    ∷ []

-- ---- the promises: of the writers of an uncompressed kind with values, of a compressed one, and of one with angles
abbrev pub WrittenU : Family → Bool → PingHeader → ℤ → List ℕ → List ℤ → List ℕ → Answer → List ℕ → Type 0
WrittenU f o h a ns vs out r left =
    let p = ping_of f h a (paired (handed_bytes f) ns vs) none in
    Written (count_rules ns vs ++ rules_u p.samples (tuple_u o p)) (frame o (tuple_u o p)) out r left

abbrev pub WrittenC : Family → Bool → PingHeader → ℤ → List ℕ → List ℤ → Option ℕ → List ℕ → Answer → List ℕ → Type 0
WrittenC f o h a ns vs l out r left =
    let p = ping_of f h a (paired (handed_bytes f) ns vs) l in
    Written (count_rules ns vs ++ rules_c f p.samples l (tuple_c o p)) (frame o (tuple_c o p)) out r left

abbrev pub WrittenA : Family → Bool → PingHeader → ℤ → List ℕ → List ℤ → List ℤ → List ℕ → Answer → List ℕ → Type 0
WrittenA f o h a ns xs ys out r left =
    let p = ping_of f h a (angled ns xs ys) none in
    Written (angle_rules ns xs ys ++ rules_u p.samples (tuple_u o p)) (frame o (tuple_u o p)) out r left
