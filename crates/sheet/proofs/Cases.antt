-- Document 02, ask 1, tried by computation on the definitions, sentence by sentence. The numbers are literals. Assumes nothing.
use Prim.Native.Nat.{ℕ}
use mathlib.Core.Path.{◌≡◌, refl}
use mathlib.Core.List.{List, [], ◌∷◌, ◌++◌, map}
use lib.ListN.{length, replicate}
use Rattle.text.specs.Ascii.{ascii}
use Rattle.sheet.specs.declared.Line.{Line}
use Rattle.sheet.specs.declared.Line.TheVariants.{Rule, Program, Instruction as Does, Other}
use Rattle.sheet.specs.Split.{split}
use Rattle.sheet.specs.Sheet.{space, names, line_text, line_of, sheet_text, lines_of, bad_line, rule_of, programs}
use Rattle.sheet.specs.Opened.{opened}

abbrev does : ℕ → ℕ → ℕ → ℕ → Line
does op a b c = Does (record { op = op; a = a; b = b; c = c })

-- a text has one part more than separators
parts : map (split space) (ascii "a b" ∷ ascii " a" ∷ ascii "a  b" ∷ [] ∷ [])
    ≡ (ascii "a" ∷ ascii "b" ∷ []) ∷ ([] ∷ ascii "a" ∷ []) ∷ (ascii "a" ∷ [] ∷ ascii "b" ∷ []) ∷ ([] ∷ []) ∷ []
unfolding opened
parts = refl

-- "its name": the nine of document 01's table, in its order
nine_names : (length names ≡ 9) × (map (λ op. line_text (does op 0 1 255)) (0 ∷ 1 ∷ 2 ∷ 3 ∷ 4 ∷ 5 ∷ 6 ∷ 7 ∷ 8 ∷ [])
    ≡ ascii "end 0 1 255" ∷ ascii "set 0 1 255" ∷ ascii "load 0 1 255" ∷ ascii "store 0 1 255" ∷ ascii "add 0 1 255" ∷ ascii "sub 0 1 255"
    ∷ ascii "skipless 0 1 255" ∷ ascii "skipequal 0 1 255" ∷ ascii "reject 0 1 255" ∷ [])
unfolding opened
nine_names = (refl, refl)

-- each is read back; so are "rule R", "R is 0, 1 or 2", and "program"
read_lines : map line_of
    (ascii "rule 0" ∷ ascii "rule 1" ∷ ascii "rule 2" ∷ ascii "program" ∷ ascii "end 0 0 0" ∷ ascii "set 0 1 255" ∷ ascii "load 1 2 0" ∷ ascii "store 3 4 0"
    ∷ ascii "add 5 6 7" ∷ ascii "sub 10 99 100" ∷ ascii "skipless 1 2 3" ∷ ascii "skipequal 1 2 3" ∷ ascii "reject 255 0 0" ∷ [])
    ≡ Rule 0 ∷ Rule 1 ∷ Rule 2 ∷ Program ∷ does 0 0 0 0 ∷ does 1 0 1 255 ∷ does 2 1 2 0 ∷ does 3 3 4 0
    ∷ does 4 5 6 7 ∷ does 5 10 99 100 ∷ does 6 1 2 3 ∷ does 7 1 2 3 ∷ does 8 255 0 0 ∷ []
unfolding opened
read_lines = refl

-- nothing else is a line: another rule, an unknown name, a number over 255, a leading zero, more or fewer spaces or words, a carriage return, nothing
no_lines : map line_of
    (ascii "rule 3" ∷ ascii "rule" ∷ ascii "rule 01" ∷ ascii "rule 1 " ∷ ascii "Rule 1" ∷ ascii "programs" ∷ ascii "program " ∷ ascii " program"
    ∷ ascii "jump 0 0 0" ∷ ascii "set 0 0 256" ∷ ascii "set 0 00 0" ∷ ascii "set 0 0 07" ∷ ascii "set  0 0 0" ∷ ascii "set 0 0" ∷ ascii "set 0 0 0 0"
    ∷ ascii "set 0 0 -1" ∷ ascii "set a b c" ∷ ascii "program\r" ∷ ascii "end" ∷ [] ∷ [])
    ≡ replicate 20 Other
unfolding opened
no_lines = refl

-- "a newline after every line"
abbrev small : List Line
small = Rule 2 ∷ Program ∷ does 1 0 0 7 ∷ Program ∷ []

written : sheet_text small ≡ ascii "rule 2\nprogram\nset 0 0 7\nprogram\n"
unfolding opened
written = refl

-- behind the last newline there is nothing, which is no line
read_back : lines_of (ascii "rule 2\nprogram\nset 0 0 7\nprogram\n") ≡ small ++ (Other ∷ [])
unfolding opened
read_back = refl

-- ---- 51

-- every line is allowed: no program, programs without instructions, several
all_allowed : map bad_line
    (ascii "rule 0\n" ∷ ascii "rule 1\nprogram\n" ∷ ascii "rule 2\nprogram\nend 0 0 0\nend 0 0 0\nprogram\nprogram\nset 9 9 9\n" ∷ [])
    ≡ 0 ∷ 0 ∷ 0 ∷ []
unfolding opened
all_allowed = refl

-- "a missing first line": an empty sheet, a blank line, another line in its place
first_missing : map bad_line ([] ∷ ascii "\n" ∷ ascii "program\n" ∷ ascii "end 0 0 0\n" ∷ ascii "\nrule 1\n" ∷ []) ≡ 1 ∷ 1 ∷ 1 ∷ 1 ∷ 1 ∷ []
unfolding opened
first_missing = refl

-- "an unended last one", whatever it says: its number is one more than there are newlines
last_unended : map bad_line (ascii "rule 1" ∷ ascii "rule 1\nprogram" ∷ ascii "rule 1\nprogram\nend 0 0 0" ∷ ascii "rule 1\nprogram\nx" ∷ ascii "rule 1\n " ∷ [])
    ≡ 1 ∷ 2 ∷ 3 ∷ 3 ∷ 2 ∷ []
unfolding opened
last_unended = refl

-- the first of several; an instruction before the first "program"; a second rule; a blank line inside and behind
the_first : map bad_line
    (ascii "rule 1\nend 0 0 0\n" ∷ ascii "rule 1\nrule 1\n" ∷ ascii "rule 1\nprogram\nrule 1\n" ∷ ascii "rule 1\nprogram\nend 0 0\nend 0\n"
    ∷ ascii "rule 1\n\nprogram\n" ∷ ascii "rule 1\nprogram\n\n" ∷ ascii "rule 9\nprogram" ∷ [])
    ≡ 2 ∷ 2 ∷ 3 ∷ 3 ∷ 2 ∷ 3 ∷ 1 ∷ []
unfolding opened
the_first = refl

-- ---- what it says

says : (rule_of (lines_of (ascii "rule 2\n")) ≡ 2)
    × (programs (lines_of (ascii "rule 1\nprogram\nset 0 1 7\nend 0 0 0\nprogram\nprogram\nreject 9 0 0\n"))
    ≡ (1 ∷ 0 ∷ 1 ∷ 7 ∷ 0 ∷ 0 ∷ 0 ∷ 0 ∷ []) ∷ [] ∷ (8 ∷ 9 ∷ 0 ∷ 0 ∷ []) ∷ [])
unfolding opened
says = (refl, refl)
