-- Laws of the image that is written line by line: its offsets and its instructions are those of the sheet's programs. Assumes nothing.
use mathlib.Core.Path.{◌≡◌, refl, sym, ap, ◌∙◌}
use mathlib.Core.List.{List, [], ◌∷◌, ◌++◌, append_assoc, append-nil}
use Prim.Native.Nat.{ℕ, ◌+◌, ◌≤◌}
use native.Mathlib.Omega.{arith}
use lib.ListN.{length, length-append}
use Rattle.image.specs.Limits.{head_bytes, max_bytes}
use Rattle.writer.specs.Joined.{number, joined, ends, offsets, image_of}
use Rattle.sheet.specs.declared.Line.{Line}
use Rattle.sheet.specs.declared.Line.TheVariants as line
use Rattle.writer.proofs.Programs.{length_image, length_number}
use Rattle.sheet.specs.Sheet.{bytes_of, rule_of, leading, programs}
use Rattle.from_sheet.specs.FromSheet.{image_of_sheet}
use Rattle.from_sheet.specs.Passes.{lines_from, body_of, bodies, offset_at, offsets_from, Writable}
use Rattle.from_sheet.proofs.Passing.{lines_all}

-- ---- the instructions: those before the first "program", and those of the programs

pub bodies_are : (ls : List Line) → bodies ls ≡ leading ls ++ joined (programs ls)
unfolding bodies body_of leading programs joined
bodies_are [] = refl
bodies_are (line.Rule r ∷ ls) = bodies_are ls
bodies_are (line.Program ∷ ls) = bodies_are ls
bodies_are (line.Instruction i ∷ ls) = ap (λ (z : List ℕ). bytes_of i ++ z) (bodies_are ls) ∙ sym (append_assoc (bytes_of i) (leading ls) (joined (programs ls)))
bodies_are (line.Other ∷ ls) = bodies_are ls

pub bodies_none : bodies [] ≡ []
unfolding bodies
bodies_none = refl

pub bodies_next : (l : Line) (ls : List Line) → bodies (l ∷ ls) ≡ body_of l ++ bodies ls
unfolding bodies
bodies_next l ls = refl

pub bodies_long : (l : Line) (ls : List Line) → length (bodies (l ∷ ls)) ≡ length (body_of l) + length (bodies ls)
bodies_long l ls = rw (bodies_next l ls) (length-append (body_of l) (bodies ls))

-- ---- the offsets: where the program that is being read ends, and then where each of the programs does

pub offsets_are : (end : ℕ) (ls : List Line) → offsets_from end ls ≡ number (end + length (leading ls)) ++ ends (end + length (leading ls)) (programs ls)
unfolding offsets_from offset_at body_of leading programs ends
offsets_are end [] = let e : end + 0 ≡ end = omega arith in rw e (sym (append-nil (number end)))
offsets_are end (line.Rule r ∷ ls) = let e : end + 0 ≡ end = omega arith in rw e (offsets_are end ls)
offsets_are end (line.Program ∷ ls) =
    let e : end + 0 ≡ end = omega arith in
    rw e (ap (λ (z : List ℕ). number end ++ z) (offsets_are end ls))
offsets_are end (line.Instruction i ∷ ls) =
    let e : end + length (bytes_of i ++ leading ls) ≡ end + 4 + length (leading ls) = rw length-append (omega arith) in
    rw e (offsets_are (end + 4) ls)
offsets_are end (line.Other ∷ ls) = let e : end + 0 ≡ end = omega arith in rw e (offsets_are end ls)

pub offsets_last : (end : ℕ) → offsets_from end [] ≡ number end
unfolding offsets_from
offsets_last end = refl

pub offsets_next : (end : ℕ) (l : Line) (ls : List Line) → offsets_from end (l ∷ ls) ≡ offset_at end l ++ offsets_from (end + length (body_of l)) ls
unfolding offsets_from
offsets_next end l ls = refl

-- ---- where nothing leads, the image is these pieces

module _ (ls : List Line) (none : leading ls ≡ []) where
  pub all_offsets : (n : ℕ) → n ≡ length (programs ls) → offsets_from (head_bytes n) ls ≡ offsets (programs ls)
  unfolding offsets
  all_offsets n e =
      let f : head_bytes n + length (leading ls) ≡ head_bytes (length (programs ls)) = rw (none, e) (omega arith) in
      offsets_are (head_bytes n) ls ∙ rw f

  pub all_bodies : bodies ls ≡ joined (programs ls)
  all_bodies = bodies_are ls ∙ rw none

-- the image is four pieces, and for each of them there is room
module _ {sheet out : List ℕ} {n : ℕ} (w : Writable sheet out n) where
  abbrev ls : List Line
  ls = lines_from 0 sheet

  pub image_pieces : image_of_sheet sheet ≡ number n ++ (rule_of ls ∷ 0 ∷ []) ++ offsets_from (head_bytes n) ls ++ bodies ls
  unfolding image_of_sheet image_of
  image_pieces = rw (← lines_all sheet, all_offsets ls w.nothing_leads n w.count, all_bodies ls w.nothing_leads, w.count)

  pub pieces_fit : 4 + length (offsets_from (head_bytes n) ls) + length (bodies ls) ≤ length out
  pieces_fit = omega (arith, w.room.fits, ap length image_pieces, length-append {A = ℕ}, length_number n)

-- it is not too long
pub ends_short : {sheet out : List ℕ} {n : ℕ} → Writable sheet out n → head_bytes n + length (bodies (lines_from 0 sheet)) ≤ max_bytes
unfolding image_of_sheet
ends_short {sheet} {out} {n} w =
    let ls = lines_from 0 sheet in
    let short : length (image_of (rule_of ls) (programs ls)) ≤ max_bytes = rw (lines_all sheet) w.short in
    omega (arith, short, w.count, length_image (rule_of ls) (programs ls), ap length (all_bodies ls w.nothing_leads))
