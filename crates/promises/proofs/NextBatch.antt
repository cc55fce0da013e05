-- Demand 2: "The next image holds exactly the carried programs in their order, then the fresh ones." Assumes nothing.
use Prim.Native.Nat.{ℕ, ◌<◌}
use mathlib.Core.Path.{◌≡◌, ◌∙◌}
use mathlib.Core.Bool.{not, ◌&&◌}
use mathlib.Core.List.{List, ◌++◌}
use lib.ListN.{length}
use Rattle.image.specs.Refusals.{passed}
use Rattle.image.specs.Image.{count_of, rule_byte, refusal_of}
use Rattle.slot.specs.declared.Group.TheVariants.{Carried}
use Rattle.area.specs.Layout.{in_group}
use Rattle.writer.specs.Picked.{all_of}
use Rattle.carry.specs.Next.{carried_of, next_programs, next_image, next_refusal}
use Rattle.carry.proofs.Nexts.{next_good, next_rule, next_programs_lem}
use Rattle.promises.specs.Paper.{batch_of, gets_settled, commits}
use Rattle.promises.specs.Laid.{World}
use Rattle.promises.specs.History.{RunToEnd}
use Rattle.promises.proofs.AtEnd.{carried_is, paper_ends, end_carried}

-- Where the call is not refused, its output is a good image with the fresh rule byte, and its programs are the carried ones and then the fresh ones.
pub next_holds : (image t g a fresh out : List ℕ) → next_refusal image t g a fresh out ≡ passed
    → (let next = next_image (length t) image a fresh in
    (refusal_of next ≡ passed) × (rule_byte next ≡ rule_byte fresh) × (all_of next ≡ carried_of (length t) image a ++ all_of fresh))
unfolding next_programs
next_holds image t g a fresh out e =
    (next_good image t g a fresh out e, next_rule image t g a fresh out e, next_programs_lem image t g a fresh out e)

-- At the end of a batch, the carried programs are the paper's: those that are settled and do not commit.
pub carried_are : (image t g : List ℕ) (w : World) → RunToEnd image t g w → (k : ℕ) → k < count_of image
    → in_group Carried (length t) w.area k ≡ gets_settled (batch_of image t g) k && not (commits (batch_of image t g) k)
carried_are image t g w run k l = end_carried (paper_ends run) k l ∙ carried_is (batch_of image t g) k
