-- Laws of a page: what there is room for, and that a settled batch can be told of. Assumes nothing.
use mathlib.Core.Path.{◌≡◌, refl}
use mathlib.Core.List.{List}
use Prim.Native.Nat.{ℕ, ◌≤◌, ◌<◌}
use native.Mathlib.Omega.{arith}
use lib.ListN.{length, get_or, take}
use lib.Seq.{length-take-le}
use Rattle.base.proofs.Tables.{tabulate_length}
use Rattle.std.proofs.lemmas.Grind.{common_steps}
use Rattle.image.specs.declared.refusals.Refusal.TheVariants as refusal
use Rattle.image.specs.Refusals.{passed}
use Rattle.image.specs.Image.{count_of}
use Rattle.image.proofs.Refusing.{none_fails}
use Rattle.guard.specs.Guards.{guard_words}
use Rattle.area.specs.Checks.{Checked}
use Rattle.area.proofs.Checks.{open_shows, measured}
use Rattle.prefix.specs.Prefix.{prefix_bytes}
use Rattle.input.specs.Prefix.{table_in, image_from, prefix_good}
use Rattle.refused.specs.Refused.{most_refused}
use Rattle.refused.proofs.Lines.{refused_short}
use Rattle.results.proofs.Short.{listing_short}
use Rattle.reasons.specs.Reasons.{CanTell}
use Rattle.reasons.proofs.Short.{WordsOf, page_short}
use Rattle.report.specs.Batch.{lent, work_area, image_start, table_of, guards_of, image_of, guards_there, opening_of, input_refusal, batch_of, page_text, page_most}
use Rattle.report.specs.declared.Guards.{Guards}
use Rattle.report.specs.declared.Wanted.{Wanted}
use Rattle.report.specs.declared.Wanted.TheVariants.{Results, Reasons}
use Rattle.report.specs.Runs.{Settles}
use Rattle.report.proofs.Batches.{batch_checked}

-- a refusal's line fits wherever a page does
pub page_holds : (wanted : Wanted) → most_refused ≤ page_most wanted
page_holds Results = omega arith
page_holds Reasons = omega arith

pub ruleset rooms = (common_steps, refused_short, page_holds)

-- and the page that is wanted is short: bytes have 8 bits and words 32
pub wanted_short : (wanted : Wanted) {image opening t g a : List ℕ} → CanTell image opening t g a → ((i : ℕ) → get_or image i 0 < 256) → WordsOf opening → WordsOf t → WordsOf g
    → WordsOf a → length (page_text wanted image opening t g a) ≤ page_most wanted
wanted_short Results tell bytes cells table ends words =
    let m = tell.measured in listing_short _ _ _ _ m.programs_few m.cells_few (record { word = table }) (record { word = words })
wanted_short Reasons tell bytes cells table ends words = page_short _ _ _ _ _ tell bytes cells ends words

-- of a batch that is settled, with the parts that the code has taken
module _ (from : Guards) (input : List ℕ) {cells words : ℕ} {tables guards areas : List ℕ} (h : Settles from input cells words tables guards areas)
    {image : List ℕ} {start : ℕ} (at : start ≡ image_start from cells) (i : image ≡ image_from input start) where
  cells_taken : length (take cells tables) ≡ cells
  cells_taken = length-take-le cells tables h.cells_lie

  -- the prefix is there, for the table to be read again
  pub settled_prefix : prefix_bytes (length (take cells tables)) ≤ length input
  settled_prefix = rw cells_taken h.prefix

  image_is : image ≡ image_of from input
  image_is = rw (i, at, h.cells_are)

  opening_is_table : table_in input (length (take cells tables)) ≡ table_of input
  opening_is_table = rw (cells_taken, h.cells_are)

  opens : opening_of from input ≡ passed
  unfolding input_refusal
  opens =
      let w = (none_fails (prefix_good input) refusal.TableSize _ h.accepted).1 in
      (none_fails (guards_there from input) refusal.Guards _ w).1

  settled_checked : Checked image (take cells tables) (take words areas)
  unfolding batch_of
  settled_checked =
      rw (image_is, h.leaves.table, h.leaves.area)
      (batch_checked (image_of from input) (guards_of from input) (lent (table_of input) (work_area (image_of from input) (table_of input))) opens)

  -- what a page of it is told of
  pub settled_told : CanTell image (table_in input (length (take cells tables))) (take cells tables) (take (guard_words cells) guards) (take words areas)
  settled_told =
      let c = settled_checked in
      record {
        accepted = c.accepted;
        measured = measured _ _ _ c (count_of image) refl;
        cells_some = c.cells_some;
        same_cells = tabulate_length _ _;
        pairs = rw (opening_is_table, h.guards) (open_shows _ _ _ _ opens).pairs;
      }
