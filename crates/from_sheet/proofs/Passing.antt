-- Laws of going through a sheet, line by line. Assumes nothing.
use mathlib.Core.Path.{◌≡◌, refl, sym, ap, ◌∙◌}
use mathlib.Core.Logic.{◌⊎◌, inl, inr}
use mathlib.Core.Bool.{Bool, true, false, cond}
use mathlib.Core.List.{List, [], ◌∷◌, map}
use Prim.Native.Nat.{ℕ, zero, suc, zero-le, ◌+◌, ◌-◌, ◌≤◌, ◌<◌}
use native.Mathlib.Omega.{arith}
use native.Mathlib.Numerals.{add-one}
use lib.Dec.{eqb, leb, ltb}
use lib.ListN.{length, take, drop, length-map}
use borrow.Author.Tests.{le-leb, lt-leb, ltb-true, ltb-false, eq-eqb, ne_eqb, eqb-true}
use Rattle.std.specs.Prelude.{Err}
use Rattle.base.proofs.Bools.{known}
use Rattle.base.specs.Words.{words}
use Rattle.base.proofs.Parts.{words_length}
use Rattle.image.specs.Refusals.{passed}
use Rattle.sheet.specs.declared.Line.{Line}
use Rattle.sheet.specs.declared.Line.TheVariants as line
use Rattle.sheet.specs.Split.{onto, split, Ends}
use Rattle.sheet.specs.Opened.{opened}
use Rattle.sheet.specs.Sheet.{newline, line_of, lines_of, allowed, ended, bad_from}
use Rattle.sheet.proofs.Parts.{split_some}
use Rattle.from_sheet.specs.declared.counting.Sizes.{Sizes}
use Rattle.from_sheet.specs.Passes.{lines_from, counted, tally, Small, last_bad, checked_line}

-- the line that begins at a place and ends at another
abbrev pub line_at : List ℕ → (at end : ℕ) → Line
line_at sheet at end = line_of (take (end - at) (drop at sheet))

-- ---- the lines that are still to come

pub lines_all : (sheet : List ℕ) → lines_from 0 sheet ≡ lines_of sheet
unfolding lines_from
lines_all sheet = rw (le-leb 0 (length sheet) zero-le)

pub lines_none : (sheet : List ℕ) (at : ℕ) → length sheet < at → lines_from at sheet ≡ []
unfolding lines_from
lines_none sheet at h = rw (lt-leb at (length sheet) h)

pub lines_next : (sheet : List ℕ) (at end : ℕ) → Ends newline sheet at end → lines_from at sheet ≡ line_at sheet at end ∷ lines_from (end + 1) sheet
unfolding words lines_from
lines_next sheet at end e = rw (le-leb at (length sheet) (omega (arith, e.from, e.within))) (go (last_or_more (known (ltb end (length sheet)))))
  where
    last_or_more : (ltb end (length sheet) ≡ true) ⊎ (ltb end (length sheet) ≡ false) → (end ≡ length sheet) ⊎ (end < length sheet)
    last_or_more (inl f) = inr (ltb-true end (length sheet) f)
    last_or_more (inr f) = inl (omega (arith, e.within, ltb-false end (length sheet) f))

    go : (end ≡ length sheet) ⊎ (end < length sheet)
        → map line_of (split newline (drop at sheet)) ≡ line_at sheet at end ∷ cond (leb (end + 1) (length sheet)) (map line_of (split newline (drop (end + 1) sheet))) []
    go (inl f) = rw (e.last f, lt-leb (end + 1) (length sheet) (omega (arith, f)))
    go (inr l) = rw (e.more l, le-leb (end + 1) (length sheet) (omega arith))

-- no more than one more than there are bytes
split_few : (separator : ℕ) (text : List ℕ) → length (split separator text) ≤ length text + 1
unfolding split onto
split_few separator [] = omega arith
split_few separator (x ∷ xs) = go (eqb x separator) (split separator xs) (split_few separator xs)
  where
    go : (b : Bool) (parts : List (List ℕ)) → length parts ≤ length xs + 1 → length (cond b ([] ∷ parts) (onto x parts)) ≤ length (x ∷ xs) + 1
    go true parts h = omega arith
    go false [] h = omega arith
    go false (part ∷ parts) h = omega arith

pub lines_few : (sheet : List ℕ) → length (lines_from 0 sheet) ≤ length sheet + 1
lines_few sheet = rw (lines_all sheet, length-map) (split_few newline sheet)

pub empty_line : line_of [] ≡ line.Other
unfolding opened
empty_line = refl

-- ---- the first bad line

bad_some : (place : ℕ) (text : List ℕ) (parts : List (List ℕ)) {next : List ℕ} {more : List (List ℕ)} → parts ≡ next ∷ more
    → bad_from place (text ∷ parts) ≡ cond (allowed place (line_of text)) (bad_from (suc place) parts) (suc place)
unfolding bad_from
bad_some place text parts e = rw e

module _ (sheet : List ℕ) (at end place : ℕ) (e : Ends newline sheet at end) where
  pub bad_next : end < length sheet
      → bad_from place (split newline (drop at sheet)) ≡ cond (allowed place (line_at sheet at end)) (bad_from (place + 1) (split newline (drop (end + 1) sheet))) (place + 1)
  unfolding words
  bad_next l =
      ap (bad_from place) (e.more l)
      ∙ bad_some place (words at (end - at) sheet) (split newline (drop (end + 1) sheet)) (split_some newline (drop (end + 1) sheet)).2
      ∙ rw (add-one place)

  -- behind the last newline
  bad_last : end ≡ length sheet → bad_from place (split newline (drop at sheet)) ≡ cond (ended place (words at (end - at) sheet)) 0 (suc place)
  unfolding bad_from
  bad_last l = rw (e.last l)

  long : length (words at (end - at) sheet) ≡ end - at
  long = words_length at (end - at) sheet (omega (arith, e.from, e.within))

  pub last_is : end ≡ length sheet → last_bad place (end - at) ≡ bad_from place (split newline (drop at sheet))
  unfolding ended last_bad
  last_is l = sym (bad_last l ∙ go place (words at (end - at) sheet) long)
    where
      go : (p : ℕ) (rest : List ℕ) → length rest ≡ end - at → cond (ended p rest) 0 (suc p) ≡ cond (eqb p 0) 1 (cond (eqb (end - at) 0) 0 (p + 1))
      go zero rest e = refl
      go (suc p) [] e = rw (ne_eqb (suc p) 0 (λ z. omega arith), eq-eqb (end - at) 0 (sym e))
      go (suc p) (x ∷ rest) e = rw (ne_eqb (suc p) 0 (λ z. omega arith), ne_eqb (end - at) 0 (λ z. omega arith)) (omega arith)

  -- where nothing stands behind it, the last part is no line that counts
  pub nothing_behind : end ≡ length sheet → end ≤ at → lines_from at sheet ≡ line.Other ∷ []
  unfolding words
  nothing_behind l h =
      let z : end - at ≡ 0 = omega arith in
      lines_next sheet at end e ∙ rw (z, empty_line, lines_none sheet (end + 1) (omega arith))

pub last_good_lem : (place rest : ℕ) → last_bad place rest ≡ 0 → rest ≡ 0
unfolding last_bad
last_good_lem place rest h = go (eqb place 0) (eqb rest 0) refl h
  where
    go : (a b : Bool) → eqb rest 0 ≡ b → cond a 1 (cond b 0 (place + 1)) ≡ 0 → rest ≡ 0
    go true b e k = absurd (omega arith)
    go false true e k = eqb-true rest 0 e
    go false false e k = absurd (omega arith)

-- as a check of it says
pub none_checked : (k : ℕ) → passed ≡ checked_line k → k ≡ 0
unfolding checked_line
none_checked zero e = refl
none_checked (suc k) e = cc

pub bad_checked : (k line : ℕ) → Err line ≡ checked_line k → (line ≡ k) × (0 < line)
unfolding checked_line
bad_checked zero line e = absurd (cc)
bad_checked (suc k) line e = let same : line ≡ suc k = cc in (same, omega (arith, same))

-- ---- sizes

pub tally_other : (s : Sizes) → tally s (line.Other ∷ []) ≡ s
unfolding tally counted
tally_other s = refl

pub tally_next : (s : Sizes) (l : Line) (ls : List Line) → tally s (l ∷ ls) ≡ tally (counted s l) ls
unfolding tally
tally_next s l ls = refl

pub small_next : (s : Sizes) (l : Line) (at next : ℕ) → Small s at → at < next → Small (counted s l) next
unfolding counted
small_next s (line.Rule r) at next h k =
    record { programs_few = omega (arith, h.programs_few); instructions_few = omega (arith, h.instructions_few); current_few = omega (arith, h.current_few) }
small_next s line.Program at next h k =
    record { programs_few = omega (arith, h.programs_few); instructions_few = omega (arith, h.instructions_few); current_few = omega arith }
small_next s (line.Instruction i) at next h k =
    record { programs_few = omega (arith, h.programs_few); instructions_few = omega (arith, h.instructions_few); current_few = omega (arith, h.current_few) }
small_next s line.Other at next h k =
    record { programs_few = omega (arith, h.programs_few); instructions_few = omega (arith, h.instructions_few); current_few = omega (arith, h.current_few) }
