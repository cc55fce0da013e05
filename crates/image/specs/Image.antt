-- Document 01, "The image: counts and offsets": which lists of bytes are an image, which refusal the others get, and which part of the image a
-- program is. Assumes nothing.
use Rattle.std.specs.Prelude.{ℕ, ◌+◌, ◌-◌, ◌*◌, ◌%◌, ◌≤◌, Bool, ◌&&◌, List, [], ◌≡◌, length, get_or, ltb, leb, eqb, Result}
use Rattle.std.specs.Borrow.{Bor}
use Rattle.base.specs.Words.{every, words}
use Rattle.image.specs.declared.Image.{Image}
use Rattle.image.specs.Limits.{max_programs, instruction_bytes, max_program_bytes, head_bytes, min_bytes, max_bytes}
use Rattle.image.specs.declared.refusals.BadInstruction.{BadInstruction}
use Rattle.image.specs.declared.refusals.ImageRefusal.{ImageRefusal}
use Rattle.image.specs.declared.refusals.ImageRefusal.TheVariants.{Size, Header, Offsets, Instruction}
use Rattle.image.specs.declared.refusals.Refusal.{Refusal}
use Rattle.image.specs.declared.refusals.Refusal.TheVariants as refusal
use Rattle.image.specs.Refusals.{passed, check, after, given_as, unless}
use Rattle.image.specs.Instruction.{program_good, code_fault}

-- the byte at a place, 0 past the end
abbrev pub byte_at : List ℕ → ℕ → ℕ
byte_at image at = get_or image at 0

-- "All numbers are 16 bits, low byte first."
unfoldable pub number_at : List ℕ → ℕ → ℕ
number_at image at = byte_at image at + 256 * byte_at image (at + 1)

-- "Bytes 0–1: program count n. Byte 2: rule, 0 (default, means Rule 1), 1 or 2. Byte 3: 0."
abbrev pub count_of : List ℕ → ℕ
count_of image = number_at image 0

abbrev pub rule_byte : List ℕ → ℕ
rule_byte image = byte_at image 2

abbrev pub header_of : List ℕ → Image
header_of image = record { count = count_of image; rule = rule_byte image; zero = byte_at image 3 }

-- the rule in force is Rule 2; otherwise it is Rule 1
abbrev pub second_rule : List ℕ → Bool
second_rule image = eqb (rule_byte image) 2

-- "Then n+1 offsets."
abbrev pub offset_of : List ℕ → ℕ → ℕ
offset_of image p = number_at image (4 + 2 * p)

-- "Program i is the bytes from offset i up to, not including, offset i+1."
abbrev pub bytes_of : List ℕ → ℕ → ℕ
bytes_of image p = offset_of image (p + 1) - offset_of image p

unfoldable pub part_of : List ℕ → ℕ → List ℕ
part_of image p = words (offset_of image p) (bytes_of image p) image

-- It lies in the image: its two offsets stand there, are in order and end inside, and it is no longer than a program may be.
pub record Lies (image : List ℕ) (p : ℕ) : Type 0 where
  pub stand : head_bytes (p + 1) ≤ length image
  pub rise : offset_of image p ≤ offset_of image (p + 1)
  pub within : offset_of image (p + 1) ≤ length image
  pub short : bytes_of image p ≤ max_program_bytes

-- Check 1, "image under 6 or over 8326 bytes".
unfoldable pub size_good : List ℕ → Bool
size_good image = leb min_bytes (length image) && leb (length image) max_bytes

-- Check 2, "count over 64, rule over 2, or byte 3 not 0".
unfoldable pub header_good : Image → Bool
header_good h = leb h.count max_programs && leb h.rule 2 && eqb h.zero 0

-- Check 3, "image under 2n+6 bytes, or an offset rule broken". The offset rules: "The first offset is 2n+6, offsets never fall, each length is a
-- multiple of 4 and at most 128, the last offset is the image's length."
abbrev pub holds_offsets : List ℕ → Bool
holds_offsets image = leb (head_bytes (count_of image)) (length image)

abbrev pub first_good : List ℕ → Bool
first_good image = eqb (offset_of image 0) (head_bytes (count_of image))

abbrev pub rises : List ℕ → ℕ → Bool
rises image p = leb (offset_of image p) (offset_of image (p + 1))

abbrev pub whole : List ℕ → ℕ → Bool
whole image p = eqb (bytes_of image p % instruction_bytes) 0

abbrev pub short : List ℕ → ℕ → Bool
short image p = leb (bytes_of image p) max_program_bytes

unfoldable pub extent_good : List ℕ → ℕ → Bool
extent_good image p = rises image p && whole image p && short image p

unfoldable pub extents_good : List ℕ → Bool
extents_good image = every (count_of image) (λ p. extent_good image p)

abbrev pub last_good : List ℕ → Bool
last_good image = eqb (offset_of image (count_of image)) (length image)

unfoldable pub offsets_good : List ℕ → Bool
offsets_good image = holds_offsets image && first_good image && extents_good image && last_good image

-- Check 4, "some instruction is bad"; document 02, ask 2: which one, and what is wrong with it.
unfoldable pub code_good : List ℕ → Bool
code_good image = every (count_of image) (λ p. program_good (part_of image p))

unfoldable pub code_refusal : List ℕ → Result (Unit {0}) BadInstruction
code_refusal image = code_fault (count_of image) (part_of image)

-- The refusal of an image: of the first of the checks 1 to 4 that fails, where 4 is one of 41 to 44.
unfoldable pub refusal_of : List ℕ → Result (Unit {0}) ImageRefusal
refusal_of image =
    check (size_good image) Size
    (check (header_good (header_of image)) Header
    (check (offsets_good image) Offsets
    (given_as Instruction (code_refusal image))))

-- the same as that of a call which is lent the image, and of one whose fresh image it is: "21–24: as 1–4, for the fresh image", "24 by 61 to 64"
abbrev pub image_checks : List ℕ → Result (Unit {0}) Refusal
image_checks image = given_as refusal.Image (refusal_of image)

unfoldable pub fresh_refusal_of : List ℕ → Result (Unit {0}) Refusal
fresh_refusal_of image = given_as refusal.Fresh (refusal_of image)

-- Handing back program p: "checks 1 to 4 and 8".
unfoldable pub program_refusal_of : List ℕ → ℕ → Result (Unit {0}) Refusal
program_refusal_of image p = after (image_checks image) (check (ltb p (count_of image)) refusal.Number passed)

-- "returns the part alone, empty on a refusal": its bytes, and where in the image it begins
unfoldable pub program_of : List ℕ → ℕ → List ℕ
program_of image p = unless (program_refusal_of image p) (λ r. []) (part_of image p)

unfoldable pub start_of : List ℕ → ℕ → ℕ
start_of image p = unless (program_refusal_of image p) (λ r. 0) (offset_of image p)

-- "handed back as that very part of the image": r has these bytes, and lies in the image's own memory from this place on
pub record Part (image : Bor (List ℕ)) (start : ℕ) (bytes : List ℕ) (r : Bor (List ℕ)) : Type 0 where
  pub bytes_are : r.now ≡ bytes
  pub lies_at : r.ref_ptr ≡ (image.ref_ptr.0, start + image.ref_ptr.1)

-- The contracts of the two public calls.
pub record ProgramSays (image : Bor (List ℕ)) (p : ℕ) (r : Bor (List ℕ)) : Type 0 where
  pub part : Part image (start_of image.now p) (program_of image.now p) r

-- "a second call on the same two returns the refusal's number, or 0"
pub record ProgramRefusalSays (image : List ℕ) (p : ℕ) (r : Result (Unit {0}) Refusal) : Type 0 where
  pub answer : r ≡ program_refusal_of image p
