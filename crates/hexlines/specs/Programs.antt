-- The two programs, from input bytes to printed bytes. Assumes nothing.
use Rattle.std.specs.Prelude.{ℕ, false, List, [], ◌∷◌, ◌++◌}
use Rattle.layout.specs.Text.{ascii}
use Rattle.layout.specs.Answer.{Answer}
use Rattle.layout.specs.Answer.{Accepted, Refused}
use Rattle.frame.specs.Frames.{Tup, frame}
use Rattle.frame.specs.Files.{mark}
use Rattle.normal.specs.Contents.{form_tuples, content_of}
use Rattle.normal.specs.Normaliser.{normal_answer}
use Rattle.normal.specs.Single.{single_tuples, single_answer}
use Rattle.hexlines.specs.Lines.{room, Input, bad, bytes, input_of, hex, line, decimal}

-- ---- lines that both print
abbrev pub bad_line : ℕ → List ℕ
bad_line n = line (ascii "bad " ++ decimal n)

abbrev pub refused_line : ℕ → ℕ → List ℕ
refused_line c p = line (ascii "refused " ++ decimal c ++ ascii " " ++ decimal p)

-- the mark line first, then a tuple a line
abbrev pub tuple_lines : List Tup → List ℕ
tuple_lines [] = []
tuple_lines (t ∷ ts) = line (hex (frame false t)) ++ tuple_lines ts

abbrev pub file_lines : List Tup → List ℕ
file_lines ts = line (hex (mark false)) ++ tuple_lines ts

-- what is printed for an answer, with the tuples of an acceptance
abbrev pub printed : List Tup → Answer → List ℕ
printed ts (Accepted n) = file_lines ts
printed ts (Refused c p) = refused_line c p

-- ---- the first program prints a file's normal form
abbrev pub file_program : Input → List ℕ
file_program (bad n) = bad_line n
file_program (bytes f) = printed (form_tuples (content_of f)) (normal_answer f room)

unfoldable pub normal_file : List ℕ → List ℕ
normal_file text = file_program (input_of text)

-- ---- the second takes a mark and one tuple, and prints mark line and normal tuple
abbrev pub tuple_program : Input → List ℕ
tuple_program (bad n) = bad_line n
tuple_program (bytes f) = printed (single_tuples f) (single_answer f room)

unfoldable pub normal_tuple : List ℕ → List ℕ
normal_tuple text = tuple_program (input_of text)
