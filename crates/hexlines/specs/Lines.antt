-- Lines of lowercase hexadecimal: input bytes to a file's bytes or a bad line, and bytes to printed lines. Assumes nothing.
use Rattle.std.specs.Prelude.{ℕ, zero, suc, ◌+◌, ◌-◌, ◌*◌, ◌/◌, ◌%◌, Bool, true, false, cond, not, ◌&&◌, ◌||◌, List, [], ◌∷◌, ◌++◌, ltb, leb, eqb, length}

abbrev pub line_feed : ℕ
line_feed = 10

-- at most 65,536 decoded bytes in and out
abbrev pub room : ℕ
room = 65536

-- ---- lines: each ends in a line feed, which the last may lack
-- a character in front of the first line
abbrev pub in_front : ℕ → List (List ℕ) → List (List ℕ)
in_front c [] = (c ∷ []) ∷ []
in_front c (l ∷ ls) = (c ∷ l) ∷ ls

unfoldable pub lines_of : List ℕ → List (List ℕ)
lines_of [] = []
lines_of (c ∷ cs) = elim (eqb c line_feed) [ true ↦ [] ∷ lines_of cs | false ↦ in_front c (lines_of cs) ]

-- ---- digits: 0-9 and a-f
abbrev pub is_digit : ℕ → Bool
is_digit c = (leb 48 c && leb c 57) || (leb 97 c && leb c 102)

abbrev pub digit_of : ℕ → ℕ
digit_of c = cond (leb c 57) (c - 48) (c - 87)

unfoldable pub all_digits : List ℕ → Bool
all_digits [] = true
all_digits (c ∷ cs) = is_digit c && all_digits cs

-- two digits a byte
unfoldable pub bytes_in : List ℕ → List ℕ
bytes_in [] = []
bytes_in (c ∷ []) = []
bytes_in (c ∷ d ∷ cs) = (16 * digit_of c + digit_of d) ∷ bytes_in cs

-- a line that is empty, odd or not hexadecimal, or the one passing the limit, n bytes being decoded before it
abbrev pub is_bad : ℕ → List ℕ → Bool
is_bad n l = eqb (length l) 0 || not (eqb (length l % 2) 0) || not (all_digits l) || ltb room (n + length l / 2)

-- ---- the input: the number of the first bad line from 1, or the bytes of all lines, joined
pub data Input : Type 0 where
  bad : ℕ → Input
  bytes : List ℕ → Input

abbrev pub joined : List ℕ → Input → Input
joined l (bad n) = bad n
joined l (bytes bs) = bytes (l ++ bs)

-- the i'th line is the first of these, n bytes being decoded before it
unfoldable pub input_from : ℕ → ℕ → List (List ℕ) → Input
input_from i n [] = bytes []
input_from i n (l ∷ ls) = elim (is_bad n l) [ true ↦ bad i | false ↦ joined (bytes_in l) (input_from (i + 1) (n + length l / 2) ls) ]

abbrev pub input_of : List ℕ → Input
input_of text = input_from 1 0 (lines_of text)

-- ---- what is printed
abbrev pub digit : ℕ → ℕ
digit n = cond (ltb n 10) (48 + n) (87 + n)

-- bytes as hexadecimal
unfoldable pub hex : List ℕ → List ℕ
hex [] = []
hex (b ∷ bs) = digit (b / 16) ∷ digit (b % 16) ∷ hex bs

-- every printed line ends in a line feed
abbrev pub line : List ℕ → List ℕ
line l = l ++ (line_feed ∷ [])

-- a number in decimal digits, the last d of them at most
unfoldable pub decimals : ℕ → ℕ → List ℕ
decimals zero n = []
decimals (suc d) n = elim (ltb n 10) [ true ↦ (48 + n) ∷ [] | false ↦ decimals d (n / 10) ++ ((48 + n % 10) ∷ []) ]

-- twenty digits hold every number of 64 bits
abbrev pub decimal : ℕ → List ℕ
decimal n = decimals 20 n

-- Characters enough to know the input by. A good line is at most three characters a byte, its line feed with them, so 65,536 bytes
-- take at most 196,608; whatever begins behind those, even by one character, is a bad line. One character fewer isn't enough: with
-- such a line cut off, its text would be good.
abbrev pub enough : ℕ
enough = 196609
