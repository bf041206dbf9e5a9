-- E1 to E8 of 01, and examples of the kinds of ping: one table, and a test of each of its lines. Assumes nothing.
use Rattle.std.specs.Prelude.{ℕ, Bool, true, false, not, ◌&&◌, List, [], ◌∷◌, ◌++◌, eqb, length, ℤ, pos, negsuc}
use Prim.Native.String.{String}
use Rattle.order.specs.Order.{signed_of}
use Rattle.layout.specs.Text.{ascii}
use Rattle.layout.specs.Answers.{is_accepted}
use Rattle.frame.specs.Step.{Step}
use Rattle.frame.specs.Step.{Tuple, End, Refused}
use Rattle.frame.specs.Steps.{step_forward, step_numbers}
use Rattle.samples.specs.Runs.{radix, is_run, run_length}
use Rattle.samples.specs.Values.{count_of}
use Rattle.samples.specs.Lists.{numbers_of, values_of}
use Rattle.tuples.specs.Readers.{only, read_answer}
use Rattle.rows.specs.Integers.{row_integers}
use Rattle.navigation.specs.Navigation.{navigation_of, answered}
use Rattle.navigation.specs.NavigationRead.{NavigationRead, Read}
use Rattle.navigation.specs.NavigationRead as navigation
use Rattle.pings.specs.Readers.{samples_at, sample_answer}
use Rattle.hexlines.specs.Lines.{line, bytes_in, Input, input_of}
use Rattle.hexlines.specs.Programs.{normal_file, normal_tuple}

-- lines of text, each with its line feed
abbrev pub text : List String → List ℕ
text [] = []
text (l ∷ ls) = line (ascii l) ++ text ls

-- what an example says
pub data Example : Type 0 where
  file_program : List String → List String → Example  -- program one prints these lines for those
  tuple_program : List String → List String → Example  -- program two does
  run : ℕ → ℕ → Example  -- a word is a run of so many
  value : ℕ → ℤ → Example  -- a word is this value
  count : ℕ → ℤ → Example  -- a CE-16 word stands for this count
  heading : List String → ℤ → Example  -- the navigation read behind the mark of these lines has this heading
  samples : List String → List ℕ → List ℤ → Example  -- the ping read there has samples of these numbers and these values
  framed : String → Example  -- the tuple behind the mark is found
  unframed : String → ℕ → Example  -- it is refused with this code

abbrev pub same : List ℕ → List ℕ → Bool
same [] [] = true
same [] (y ∷ ys) = false
same (x ∷ xs) [] = false
same (x ∷ xs) (y ∷ ys) = eqb x y && same xs ys

abbrev pub same_int : ℤ → ℤ → Bool
same_int (pos m) (pos n) = eqb m n
same_int (pos m) (negsuc n) = false
same_int (negsuc m) (pos n) = false
same_int (negsuc m) (negsuc n) = eqb m n

abbrev pub same_ints : List ℤ → List ℤ → Bool
same_ints [] [] = true
same_ints [] (y ∷ ys) = false
same_ints (x ∷ xs) [] = false
same_ints (x ∷ xs) (y ∷ ys) = same_int x y && same_ints xs ys

-- the bytes of lines; none where a line is bad
abbrev pub bytes_by : Input → List ℕ
bytes_by (Input.bad n) = []
bytes_by (Input.bytes bs) = bs

abbrev pub file_of : List String → List ℕ
file_of ls = bytes_by (input_of (text ls))

-- what the step behind the mark finds: a tuple, or a refusal by its code
abbrev pub stepped : String → Step
stepped s = step_forward (bytes_in (ascii s)) 4

abbrev pub is_tuple : Step → Bool
is_tuple (Tuple p n k w) = true
is_tuple End = false
is_tuple (Refused c p) = false

-- what the navigation's reader says at place 4, by its promise
abbrev pub navigation_in : List ℕ → NavigationRead
navigation_in f = answered (read_answer (only 30) f 4) (navigation_of (row_integers 30 f 4))

abbrev pub has_heading : ℤ → NavigationRead → Bool
has_heading z (Read r) = same_int r.heading z
has_heading z (navigation.Refused c p) = false

-- the example holds
unfoldable pub holds : Example → Bool
holds (file_program is os) = same (normal_file (text is)) (text os)
holds (tuple_program is os) = same (normal_tuple (text is)) (text os)
holds (run w n) = is_run radix w && eqb (run_length radix w) n
holds (value w z) = not (is_run radix w) && same_int (signed_of 4 w) z
holds (count w z) = not (is_run 256 w) && same_int (count_of w) z
holds (heading ls z) = has_heading z (navigation_in (file_of ls))
holds (samples ls ns vs) =
    let f = file_of ls in
    let s = samples_at f 4 in
    is_accepted (sample_answer f 4 (length ns) (length vs)) && same (numbers_of s) ns && same_ints (values_of 4 s) vs
holds (framed s) = is_tuple (stepped s)
holds (unframed s c) = eqb (step_numbers (stepped s)).code c

unfoldable pub all_hold : List Example → Bool
all_hold [] = true
all_hold (e ∷ es) = holds e && all_hold es

-- the tuples of E3 and E4, each behind its mark
abbrev pub navigation_lines : List String
navigation_lines = "000000ac" ∷ "00000012001e13880000003c0001fc7714180000000000000000001c" ∷ []

abbrev pub ping_lines : List String
ping_lines = "ac000000" ∷ "260000001a2700003c0000000100000001000000ffffff7f020000000100ffff6400000090eefeff0000000030000000" ∷ []

-- one table holds these
unfoldable pub table : List Example
table =
    -- E1
    file_program ("ac000000" ∷ "0e000000ffffacac64006400acac01df0000000018000000" ∷ []) ("refused 4 28" ∷ [])
    -- E2
    ∷ file_program ("ac000000" ∷ []) ("refused 4 4" ∷ [])
    ∷ file_program [] ("refused 2 0" ∷ [])
    -- E3, heading -905
    ∷ tuple_program navigation_lines ("ac000000" ∷ "120000001e0088133c000000010077fc18140000000000001c000000" ∷ [])
    ∷ heading navigation_lines (negsuc 904)
    -- E4, samples (2, 100), (3, -70000)
    ∷ tuple_program ping_lines
    ("ac000000" ∷ "26000000102700003c0000000100000001000000ffffff7f02000000640000000300000090eefeff0000000030000000" ∷ [])
    ∷ samples ping_lines (2 ∷ 3 ∷ []) (pos 100 ∷ negsuc 69999 ∷ [])
    -- E5
    ∷ run 0xffff0000 1
    ∷ run 0xffffffff 65536
    -- E6
    ∷ value 0xfffeffff (negsuc 65536)
    -- E7: 7FFEFFFF and 80010000 are taken, 7FFF0000 and 8000FFFF give 24, at the word
    ∷ tuple_program
    ("ac000000" ∷ "1e0000001a2700003c0000000100000001000000ffffff7f01000000fffffe7f0000000028000000" ∷ [])
    ("ac000000" ∷ "1e000000102700003c0000000100000001000000ffffff7f00000000fffffe7f0000000028000000" ∷ [])
    ∷ tuple_program
    ("ac000000" ∷ "1e0000001a2700003c0000000100000001000000ffffff7f01000000000001800000000028000000" ∷ [])
    ("ac000000" ∷ "1e000000102700003c0000000100000001000000ffffff7f00000000000001800000000028000000" ∷ [])
    ∷ tuple_program ("ac000000" ∷ "1e0000001a2700003c0000000100000001000000ffffff7f010000000000ff7f0000000028000000" ∷ [])
    ("refused 24 32" ∷ [])
    ∷ tuple_program ("ac000000" ∷ "1e0000001a2700003c0000000100000001000000ffffff7f01000000ffff00800000000028000000" ∷ [])
    ("refused 24 32" ∷ [])
    -- a number that doesn't rise is at its byte, a wrong count at its field; a bad word comes before it
    ∷ tuple_program ("ac000000" ∷ "26000000102700003c0000000100000001000000ffffff7f050000000000000005000000000000000000000030000000" ∷ [])
    ("refused 23 36" ∷ [])
    ∷ tuple_program ("ac000000" ∷ "1e0000001a2700003c0000000100000001000000ffffff7f02000000000000000000000028000000" ∷ [])
    ("refused 25 28" ∷ [])
    ∷ tuple_program ("ac000000" ∷ "1e0000001a2700003c0000000100000001000000ffffff7f020000000000ff7f0000000028000000" ∷ [])
    ("refused 24 32" ∷ [])
    -- a silence of 3 in two runs is one of 3 in one; one of 65,537 is a full run, and one of 1 last
    ∷ tuple_program
    ("ac000000" ∷ "220000001a2700003c0000000100000001000000ffffff7f000000000100ffff0000ffff000000002c000000" ∷ [])
    ("ac000000" ∷ "1e0000001a2700003c0000000100000001000000ffffff7f000000000200ffff0000000028000000" ∷ [])
    ∷ tuple_program
    ("ac000000" ∷ "220000001a2700003c0000000100000001000000ffffff7f000000000000ffffffffffff000000002c000000" ∷ [])
    ("ac000000" ∷ "220000001a2700003c0000000100000001000000ffffff7f00000000ffffffff0000ffff000000002c000000" ∷ [])
    -- ---- the other kinds of ping, from docs/PINGS.md
    -- U-32-16-angles: kept
    ∷ tuple_program ("ac000000" ∷ "26000000112700003c0000000100000001000000ffffff7f00000000f1ff080700000100ff7f00800000000030000000" ∷ [])
    ("ac000000" ∷ "26000000112700003c0000000100000001000000ffffff7f00000000f1ff080700000100ff7f00800000000030000000" ∷ [])
    -- U-16: kept
    ∷ tuple_program ("ac000000" ∷ "1e0000002e2700003c0000000100000001000000ffffff7f0200ffffffff00800000000028000000" ∷ [])
    ("ac000000" ∷ "1e0000002e2700003c0000000100000001000000ffffff7f0200ffffffff00800000000028000000" ∷ [])
    -- U-16-angles: a space is 0
    ∷ tuple_program ("ac000000" ∷ "1e0000002f2700003c0000000100000001000000ffffff7f07000100020020ff0000000028000000" ∷ [])
    ("ac000000" ∷ "1e0000002f2700003c0000000100000001000000ffffff7f07000100020000000000000028000000" ∷ [])
    -- a number that doesn't rise, at its byte
    ∷ tuple_program ("ac000000" ∷ "220000002f2700003c0000000100000001000000ffffff7f070001000200070001000200000000002c000000" ∷ [])
    ("refused 23 34" ∷ [])
    -- C-16: a space behind the words, which may hold anything; U-16 says the samples
    ∷ tuple_program ("ac000000" ∷ "22000000382700003c0000000100000001000000ffffff7f0100000000ff03ff64003412000000002c000000" ∷ [])
    ("ac000000" ∷ "1a0000002e2700003c0000000100000001000000ffffff7f050064000000000024000000" ∷ [])
    -- a last word that the number of samples counts
    ∷ tuple_program ("ac000000" ∷ "22000000382700003c0000000100000001000000ffffff7f0200000000ff03ff64000000000000002c000000" ∷ [])
    ("ac000000" ∷ "1e0000002e2700003c0000000100000001000000ffffff7f05006400060000000000000028000000" ∷ [])
    -- a last run is no space
    ∷ tuple_program ("ac000000" ∷ "22000000382700003c0000000100000001000000ffffff7f0100000000ff03ff640020ff000000002c000000" ∷ [])
    ("ac000000" ∷ "22000000382700003c0000000100000001000000ffffff7f0100000004ff640020ff0000000000002c000000" ∷ [])
    -- the limits, and -32,512 outside them
    ∷ tuple_program ("ac000000" ∷ "1e000000382700003c0000000100000001000000ffffff7f020000000181ff7e0000000028000000" ∷ [])
    ("ac000000" ∷ "1e0000002e2700003c0000000100000001000000ffffff7f000001810100ff7e0000000028000000" ∷ [])
    ∷ tuple_program ("ac000000" ∷ "1e000000382700003c0000000100000001000000ffffff7f01000000008100ff0000000028000000" ∷ [])
    ("refused 24 32" ∷ [])
    -- CE-16: the limits, and 7F00 outside them
    ∷ tuple_program ("ac000000" ∷ "1e000000422700003c0000000100000001000000ffffff7f02000000ff7efffe0000000028000000" ∷ [])
    ("ac000000" ∷ "1e000000422700003c0000000100000001000000ffffff7f02000000ff7efffe0000000028000000" ∷ [])
    ∷ tuple_program ("ac000000" ∷ "1e000000422700003c0000000100000001000000ffffff7f01000000007f00ff0000000028000000" ∷ [])
    ("refused 24 32" ∷ [])
    -- 8000 is 0
    ∷ tuple_program ("ac000000" ∷ "1e000000422700003c0000000100000001000000ffffff7f02000000008001800000000028000000" ∷ [])
    ("ac000000" ∷ "1e000000422700003c0000000100000001000000ffffff7f02000000000001800000000028000000" ∷ [])
    -- counts of CE-16 words: without an exponent, with one, both limits, and the second spelling of 0
    ∷ count 0x0fff (pos 4095)
    ∷ count 0x2001 (pos 8194)
    ∷ count 0xa001 (negsuc 8193)
    ∷ count 0x7eff (pos 507840)
    ∷ count 0xfeff (negsuc 507839)
    ∷ count 0x8000 (pos 0)
    -- E8: with bytes enough left, length 16 is allowed, 14 and 12 give 5
    ∷ framed "ac00000006000000dcff61626364656610000000"
    ∷ unframed "ac00000004000000dcff616263640e0000000000000000" 5
    ∷ unframed "ac00000002000000dcff61620c000000000000000000" 5
    ∷ []
