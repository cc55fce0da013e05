-- The lines of good programs that are bytes are lines in their places. Assumes nothing.
use mathlib.Core.Path.{◌≡◌, refl}
use mathlib.Core.Logic.{◌⊎◌, inl, inr}
use mathlib.Core.Bool.{true, false}
use mathlib.Core.List.{List, [], ◌∷◌, ◌++◌, append_assoc}
use Prim.Native.Nat.{ℕ, zero, suc, ◌+◌, ◌*◌, ◌≤◌, ◌<◌}
use native.Mathlib.Omega.{arith}
use lib.Dec.{ltb}
use lib.ListN.{length, get_or, drop, length-take, get_or-eq_default}
use borrow.Author.Tests.{ltb-true, ltb-false, lt-ltb}
use Rattle.base.specs.Words.{words}
use Rattle.base.proofs.Bools.{known}
use Rattle.base.proofs.Parts.{words_at}
use Rattle.image.specs.Limits.{instruction_bytes}
use Rattle.image.specs.Instruction.{instructions_of}
use Rattle.image.specs.Image.{byte_at, count_of, offset_of, bytes_of, part_of}
use Rattle.image.proofs.Laws.{Accepted}
use Rattle.writer.specs.Picked.{pick, picked, all_of}
use Rattle.writer.proofs.Again.{part_fine}
use Rattle.writer.proofs.Good.{Fine}
use Rattle.sheet.specs.declared.Line.{Line}
use Rattle.sheet.specs.declared.Line.TheVariants as line
use Rattle.sheet.specs.Sheet.{largest_rule, allowed}
use Rattle.sheet.proofs.Lines.{TypedInstruction}
use Rattle.sheet.proofs.Sheets.{Placed, WellPlaced}
use Rattle.from_image.specs.FromImage.{instruction_at, first_lines, program_lines, programs_lines, lines_for}
use Rattle.from_image.proofs.Sheets.{named_at}
use Rattle.round_trip.specs.Bytes.{Bytes}

-- ---- bytes

-- at every place, since past the end there is 0
pub bytes_at : (image : List ℕ) → Bytes image → (i : ℕ) → byte_at image i < 256
bytes_at image b i = go (known (ltb i (length image)))
  where
    go : (ltb i (length image) ≡ true) ⊎ (ltb i (length image) ≡ false) → byte_at image i < 256
    go (inl l) = b.each i (ltb-true _ _ l)
    go (inr l) = omega (arith, get_or-eq_default image 0 (ltb-false i (length image) l))

words_bytes : (at n : ℕ) (xs : List ℕ) → ((i : ℕ) → get_or xs i 0 < 256) → (i : ℕ) → get_or (words at n xs) i 0 < 256
unfolding words
words_bytes at n xs b i = go (known (ltb i n))
  where
    go : (ltb i n ≡ true) ⊎ (ltb i n ≡ false) → get_or (words at n xs) i 0 < 256
    go (inl l) = omega (arith, words_at at n xs i (ltb-true _ _ l), b (at + i))
    go (inr l) =
        omega (arith, get_or-eq_default (words at n xs) 0 {n = i} (omega (arith, length-take n (drop at xs), ltb-false i n l)))

-- ---- a program that can be typed, and all of them

pub record Typable (p : List ℕ) : Type 0 where
  pub each : (i : ℕ) → i < instructions_of p → TypedInstruction (instruction_at p i)

abbrev pub AllTypable : List (List ℕ) → Type 0
AllTypable [] = Unit {0}
AllTypable (p ∷ ps) = Typable p × AllTypable ps

typable : (p : List ℕ) → Fine p → ((i : ℕ) → get_or p i 0 < 256) → Typable p
typable p f b = record {
  each = λ i l. record {
    named = named_at p f.code i l;
    byte_a = omega (arith, b (instruction_bytes * i + 1));
    byte_b = omega (arith, b (instruction_bytes * i + 2));
    byte_c = omega (arith, b (instruction_bytes * i + 3));
  };
}

typable_append : (ps qs : List (List ℕ)) → AllTypable ps → AllTypable qs → AllTypable (ps ++ qs)
typable_append [] qs h k = k
typable_append (p ∷ ps) qs h k = (h.0, typable_append ps qs h.1 k)

-- the programs of an image that is accepted and is bytes
module _ (image : List ℕ) (good : Accepted image) (b : Bytes image) where
  part_typable : (k : ℕ) → k < count_of image → Typable (part_of image k)
  unfolding part_of
  part_typable k l = typable (part_of image k) (part_fine image good k l) (words_bytes (offset_of image k) (bytes_of image k) image (bytes_at image b))

  first_typable : (k : ℕ) → k ≤ count_of image → AllTypable (picked (λ j. true) image k)
  unfolding picked pick
  first_typable zero l = tt
  first_typable (suc k) l =
      typable_append (picked (λ j. true) image k) (part_of image k ∷ []) (first_typable k (omega arith)) (part_typable k (omega arith), tt)

  pub all_typable : AllTypable (all_of image)
  all_typable = first_typable (count_of image) (omega arith)

-- ---- their lines are in their places

-- from the third line on a program and an instruction may stand at any place
module _ (p : List ℕ) (t : Typable p) where
  first_placed : (n : ℕ) → n ≤ instructions_of p → (ls : List Line) → ((place : ℕ) → Placed (suc (suc place)) ls)
      → (place : ℕ) → Placed (suc (suc place)) (first_lines p n ++ ls)
  unfolding first_lines allowed
  first_placed zero l ls h = h
  first_placed (suc n) l ls h =
      let i = line.Instruction (instruction_at p n) in
      rw (append_assoc (first_lines p n) (i ∷ []) ls)
      (first_placed n (omega arith) (i ∷ ls) (λ place. (t.each n l, lt-ltb 1 (suc (suc place)) (omega arith), h (suc place))))

programs_placed : (ps : List (List ℕ)) → AllTypable ps → (place : ℕ) → Placed (suc (suc place)) (programs_lines ps)
unfolding programs_lines program_lines allowed
programs_placed [] t place = tt
programs_placed (p ∷ ps) t place =
    (tt, lt-ltb 0 (suc (suc place)) (omega arith), first_placed p t.0 (instructions_of p) (omega arith) (programs_lines ps) (programs_placed ps t.1) (suc place))

second_placed : (ps : List (List ℕ)) → AllTypable ps → Placed 1 (programs_lines ps)
unfolding programs_lines program_lines allowed
second_placed [] t = tt
second_placed (p ∷ ps) t = (tt, refl, first_placed p t.0 (instructions_of p) (omega arith) (programs_lines ps) (programs_placed ps t.1) 0)

pub lines_placed : (rule : ℕ) (ps : List (List ℕ)) → rule ≤ largest_rule → AllTypable ps → WellPlaced (lines_for rule ps)
unfolding lines_for allowed
lines_placed rule ps r t = record { first_line_lem = omega arith; placed = (r, refl, second_placed ps t) }
