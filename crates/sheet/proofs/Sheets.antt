-- Laws of a sheet: lines in their places, as they are typed, are read as these lines with none refused; and a sheet of which no line is refused is what its
-- lines are typed as. Assumes nothing.
use mathlib.Core.Path.{◌≡◌, refl, sym, ap, ◌∙◌}
use mathlib.Core.Bool.{Bool, true, false, cond}
use mathlib.Core.List.{List, [], ◌∷◌, ◌++◌, map}
use Prim.Native.Nat.{ℕ, zero, suc, ◌+◌, ◌<◌}
use native.Mathlib.Omega.{arith}
use lib.ListN.{length}
use Rattle.base.proofs.Bools.{clash}
use Rattle.sheet.specs.declared.Line.{Line}
use Rattle.sheet.specs.declared.Line.TheVariants as line
use Rattle.sheet.specs.Split.{split}
use Rattle.sheet.specs.Opened.{opened}
use Rattle.sheet.specs.Sheet.{newline, line_text, line_of, sheet_text, lines_of, allowed, ended, bad_from, bad_line}
use Rattle.sheet.proofs.Splits.{split_next, first_part, between, split_between}
use Rattle.sheet.proofs.Lines.{Typed, line_read, line_back, line_free}

-- ---- lines in their places

-- each can be typed, and stands where its place allows it: from a place on, and from the first, where one has to stand
abbrev pub Placed : (place : ℕ) → List Line → Type 0
Placed place [] = Unit {0}
Placed place (l ∷ ls) = Typed l × (allowed place l ≡ true) × Placed (suc place) ls

pub record WellPlaced (ls : List Line) : Type 0 where
  pub first_line_lem : 0 < length ls
  pub placed : Placed 0 ls

-- ---- they are read as they are typed

-- a part for each line, and what stands behind the last newline
abbrev parts : List Line → List (List ℕ)
parts ls = map line_text ls ++ ([] ∷ [])

sheet_parts : (place : ℕ) (ls : List Line) → Placed place ls → split newline (sheet_text ls) ≡ parts ls
unfolding split sheet_text
sheet_parts place [] p = refl
sheet_parts place (l ∷ ls) p =
    split_next newline (line_text l) (sheet_text ls) (line_free l p.0) ∙ ap (λ (ts : List (List ℕ)). line_text l ∷ ts) (sheet_parts (suc place) ls p.2)

none_behind : line_of [] ≡ line.Other
unfolding opened
none_behind = refl

parts_read : (place : ℕ) (ls : List Line) → Placed place ls → map line_of (parts ls) ≡ ls ++ (line.Other ∷ [])
parts_read place [] p = ap (λ (l : Line). l ∷ []) none_behind
parts_read place (l ∷ ls) p = λ i. line_read l p.0 i ∷ parts_read (suc place) ls p.2 i

-- a line with more behind it
bad_next : (place : ℕ) (text : List ℕ) (ts : List (List ℕ)) → 0 < length ts
    → bad_from place (text ∷ ts) ≡ cond (allowed place (line_of text)) (bad_from (suc place) ts) (suc place)
unfolding bad_from
bad_next place text [] h = absurd (omega arith)
bad_next place text (next ∷ ts) h = refl

parts_some : (ls : List Line) → 0 < length (parts ls)
parts_some [] = omega arith
parts_some (l ∷ ls) = omega arith

none_bad : (place : ℕ) (ls : List Line) → Placed (suc place) ls → bad_from (suc place) (parts ls) ≡ 0
unfolding bad_from ended
none_bad place [] p = refl
none_bad place (l ∷ ls) p = rw (bad_next (suc place) (line_text l) (parts ls) (parts_some ls), line_read l p.0, p.1) (none_bad (suc place) ls p.2)

first_bad_lem : (ls : List Line) → 0 < length ls → Placed 0 ls → bad_from 0 (parts ls) ≡ 0
first_bad_lem [] h p = absurd (omega arith)
first_bad_lem (l ∷ ls) h p = rw (bad_next 0 (line_text l) (parts ls) (parts_some ls), line_read l p.0, p.1) (none_bad 0 ls p.2)

module _ (ls : List Line) (s : WellPlaced ls) where
  pub sheet_read : lines_of (sheet_text ls) ≡ ls ++ (line.Other ∷ [])
  sheet_read = ap (map line_of) (sheet_parts 0 ls s.placed) ∙ parts_read 0 ls s.placed

  pub sheet_allowed : bad_line (sheet_text ls) ≡ 0
  unfolding bad_line
  sheet_allowed = ap (bad_from 0) (sheet_parts 0 ls s.placed) ∙ first_bad_lem ls s.first_line_lem s.placed

-- ---- and only so

not_other : (place : ℕ) (l : Line) → allowed place l ≡ true → l ≡ line.Other → ⊥
unfolding allowed
not_other place l a e = clash a (ap (allowed place) e)

-- parts of which none is refused are those of lines in their places
record Lined (place : ℕ) (ts : List (List ℕ)) : Type 0 where
  pub lines : List Line
  pub are : ts ≡ parts lines
  pub placed : Placed place lines
  pub some : 0 < place + length lines

last_part : (place : ℕ) (rest : List ℕ) → cond (ended place rest) 0 (suc place) ≡ 0 → (rest ≡ []) × (0 < place)
unfolding ended
last_part zero rest e = absurd (omega arith)
last_part (suc place) [] e = (refl, omega arith)
last_part (suc place) (x ∷ rest) e = absurd (omega arith)

lines_from : (place : ℕ) (text : List ℕ) (ts : List (List ℕ)) → bad_from place (text ∷ ts) ≡ 0 → Lined place (text ∷ ts)
unfolding bad_from
lines_from place text [] e = let p = last_part place text e in record { lines = []; are = ap (λ (t : List ℕ). t ∷ []) p.0; placed = tt; some = omega (arith, p.1) }
lines_from place text (next ∷ ts) e = go (allowed place (line_of text)) refl e (lines_from (suc place) next ts)
  where
    go : (b : Bool) → allowed place (line_of text) ≡ b → cond b (bad_from (suc place) (next ∷ ts)) (suc place) ≡ 0
        → (bad_from (suc place) (next ∷ ts) ≡ 0 → Lined (suc place) (next ∷ ts)) → Lined place (text ∷ next ∷ ts)
    go true a e more =
        let l = line_back text (not_other place (line_of text) a) in
        let m = more e in
        record {
          lines = line_of text ∷ m.lines;
          are = λ i. l.0 i ∷ m.are i;
          placed = (l.1, a, m.placed);
          some = omega arith;
        }
    go false a e more = absurd (omega arith)

parts_between : (ls : List Line) → between newline (parts ls) ≡ sheet_text ls
unfolding between sheet_text
parts_between [] = refl
parts_between (l ∷ []) = refl
parts_between (l ∷ m ∷ ls) = ap (λ (t : List ℕ). line_text l ++ (newline ∷ t)) (parts_between (m ∷ ls))

-- the lines of a sheet of which none is refused
pub record Typing (sheet : List ℕ) : Type 0 where
  pub lines : List Line
  pub placed : WellPlaced lines
  pub typed : sheet ≡ sheet_text lines

pub sheet_back : (sheet : List ℕ) → bad_line sheet ≡ 0 → Typing sheet
unfolding bad_line
sheet_back sheet e =
    let f = first_part newline sheet in
    let l = lines_from 0 f.part f.more (rw f.are at e) in
    record {
      lines = l.lines;
      placed = record { first_line_lem = omega (arith, l.some); placed = l.placed };
      typed = sym (split_between newline sheet) ∙ ap (between newline) (f.are ∙ l.are) ∙ parts_between l.lines;
    }
