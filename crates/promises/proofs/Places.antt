-- Document 02, ask 2: ""Refused 4" on a long image costs us an evening. Split the number, and return program and instruction too." Of every call on
-- an image: a refusal of a bad instruction is the image's own, or the fresh image's, with its program and instruction; every other refusal has 0 and
-- 0 there. Assumes nothing.
use mathlib.Core.Path.{◌≡◌, refl}
use mathlib.Core.Logic.{inl, inr}
use mathlib.Core.Bool.{Bool, false}
use mathlib.Core.List.{List}
use Prim.Native.Nat.{ℕ}
use Rattle.std.specs.Prelude.{Err}
use Rattle.base.proofs.Bools.{clash}
use Rattle.image.specs.declared.refusals.Refusal.{Refusal}
use Rattle.image.specs.declared.refusals.Refusal.TheVariants as refusal
use Rattle.image.specs.Refusals.{numbers_of, passed, check, after, says_where}
use Rattle.image.specs.Image.{image_checks, program_refusal_of}
use Rattle.image.proofs.Refusing.{Checks, check_either, after_either}
use Rattle.image.proofs.Places.{told_well}
use Rattle.area.specs.Checks.{room_refusal, open_refusal, call_refusal, ended_refusal}
use Rattle.steps.specs.Gathering.{step_refusal, gather_refusal}
use Rattle.steps.specs.Settling.{settle_refusal}
use Rattle.causes.specs.Why.{ask_refusal, carried_refusal, why_refusal}
use Rattle.listing.specs.Listing.{list_refusal, order_refusal}
use Rattle.carry.specs.Next.{lent_refusal, size_refusal, next_refusal}
use Rattle.promises.specs.Places.{Placed, InImage, InEither}

module _ (source : Checks Refusal → Type 0) where
  -- what a source finds has its place
  found : {r : Checks Refusal} → source r → Placed source r
  found {r} s = record { there = λ e. s; nowhere = (told_well r).nowhere }

  -- none, and a refusal whose number says nothing of a place
  none_placed : Placed source passed
  unfolding says_where
  none_placed = record { there = λ t. clash t refl; nowhere = (told_well passed).nowhere }

  plain : (r : Refusal) → says_where (numbers_of r).number ≡ false → Placed source (Err r)
  plain r e = record { there = λ t. clash t e; nowhere = (told_well (Err r)).nowhere }

  -- one check more, whose number says nothing of a place
  checked : {checks : Checks Refusal} (holds : Bool) (r : Refusal) → says_where (numbers_of r).number ≡ false → Placed source checks
      → Placed source (after checks (check holds r passed))
  checked {checks} holds r e p = after_either (Placed source) checks p (check_either (Placed source) holds (plain r e) none_placed)

  -- checks 5, 14, 6, 7, 9 after the image's own
  module _ (image t g a : List ℕ) (own : Placed source (image_checks image)) where
    opened : Placed source (open_refusal image t g a)
    unfolding open_refusal room_refusal says_where
    opened =
        after_either (Placed source) (image_checks image) own
        (check_either (Placed source) _ (plain refusal.TableSize refl)
        (check_either (Placed source) _ (plain refusal.Guards refl)
        (check_either (Placed source) _ (plain refusal.AreaSize refl) none_placed)))

    called : Placed source (call_refusal image t g a)
    unfolding call_refusal says_where
    called = checked _ refusal.Area refl opened

    ended : Placed source (ended_refusal image t g a)
    unfolding ended_refusal says_where
    ended = checked _ refusal.State refl called

module _ (image : List ℕ) where
  own : Placed (InImage image) (image_checks image)
  own = found (InImage image) refl

  pub program_placed : (k : ℕ) → Placed (InImage image) (program_refusal_of image k)
  unfolding program_refusal_of says_where
  program_placed k = checked (InImage image) _ refusal.Number refl own

  module _ (t g a : List ℕ) where
    pub open_placed : Placed (InImage image) (open_refusal image t g a)
    open_placed = opened (InImage image) image t g a own

    step_placed : (k : ℕ) → Placed (InImage image) (step_refusal image t g a k)
    unfolding step_refusal says_where
    step_placed k = checked (InImage image) _ refusal.Number refl (called (InImage image) image t g a own)

    pub gather_placed : (k : ℕ) → Placed (InImage image) (gather_refusal image t g a k)
    unfolding gather_refusal says_where
    gather_placed k = checked (InImage image) _ refusal.State refl (step_placed k)

    pub settle_placed : (k : ℕ) → Placed (InImage image) (settle_refusal image t g a k)
    unfolding settle_refusal says_where
    settle_placed k = checked (InImage image) _ refusal.State refl (step_placed k)

    pub ask_placed : (k : ℕ) → Placed (InImage image) (ask_refusal image t g a k)
    unfolding ask_refusal says_where
    ask_placed k = checked (InImage image) _ refusal.State refl (step_placed k)

    pub why_placed : (k : ℕ) → Placed (InImage image) (why_refusal image t g a k)
    unfolding carried_refusal why_refusal says_where
    why_placed k = checked (InImage image) _ refusal.Reason refl (checked (InImage image) _ refusal.NotCarried refl (ask_placed k))

    pub order_placed : (list : List ℕ) → Placed (InImage image) (order_refusal image t g a list)
    unfolding list_refusal order_refusal says_where
    order_placed list =
        checked (InImage image) _ refusal.NoOrder refl
        (checked (InImage image) _ refusal.TooShort refl (ended (InImage image) image t g a own))

    pub next_placed : (fresh out : List ℕ) → Placed (InEither image fresh) (next_refusal image t g a fresh out)
    unfolding lent_refusal size_refusal next_refusal says_where
    next_placed fresh out =
        let source = InEither image fresh in
        after_either (Placed source) _
        (after_either (Placed source) _ (ended source image t g a (found source (inl refl))) (found source (inr refl)))
        (check_either (Placed source) _ (plain source refusal.TooMany refl)
        (check_either (Placed source) _ (plain source refusal.TooShort refl) (none_placed source)))
