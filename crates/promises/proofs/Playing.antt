-- A history from an opened batch leaves the world on the way in which the history's sets are gathered and settled. Assumes nothing.
use mathlib.Core.Path.{◌≡◌, refl, sym, ap, ◌∙◌}
use mathlib.Core.List.{List, [], ◌∷◌, ◌++◌}
use Prim.Native.Nat.{ℕ, zero, suc, ◌+◌, ◌*◌}
use native.Mathlib.Omega.{arith}
use lib.ListN.{length, replicate, length-replicate, get_or-replicate, replicate-append-replicate}
use Rattle.base.specs.Words.{tabulate}
use Rattle.base.proofs.Numbers.{none_first}
use Rattle.base.proofs.Tables.{tabulate_is}
use Rattle.image.specs.Refusals.{passed}
use Rattle.image.specs.Image.{count_of}
use Rattle.slot.specs.Layout.{slot_words}
use Rattle.image.proofs.Refusing.{unless_done}
use Rattle.area.specs.declared.MarkKind.{MarkKind}
use Rattle.area.specs.declared.MarkKind.TheVariants.{Write, Read}
use Rattle.area.specs.Layout.{area_words}
use Rattle.area.specs.Checks.{open_refusal}
use Rattle.area.proofs.Checks.{open_shows}
use Rattle.steps.specs.Opening.{cleared, open_area}
use Rattle.promises.specs.Paper.{Batch, batch_of}
use Rattle.promises.specs.Laid.{World, mark_on, slot_on, slots_to, area_on, table_on, world_on}
use Rattle.promises.specs.History.{Step, gather, settle, after_step, played, opening, world_after}
use Rattle.promises.proofs.Sets.{nobody}
use Rattle.promises.proofs.Installing.{table_opening}
use Rattle.promises.proofs.Stepping.{Opens, opens, Phased, gather_on, settle_table_on, settle_area_on}
use Rattle.promises.proofs.Progress.{Progress, none_yet, moved, moved_by, none_phased, phased_by}

-- ---- an opened area: nobody is gathered, and all is 0

module _ (b : Batch) where
  marks_none : (T : ℕ) (m : MarkKind) → tabulate (mark_on m b nobody) T ≡ replicate T 0
  unfolding mark_on
  marks_none T m =
      sym (tabulate_is (mark_on m b nobody) T (replicate T 0) (length-replicate T 0)
      (λ c l. get_or-replicate T c 0 0 l ∙ sym (none_first _ b.programs (λ _ _. refl))))

  slots_none : (m : ℕ) → slots_to b nobody nobody m ≡ replicate (slot_words * m) 0
  unfolding slots_to slot_on
  slots_none zero = refl
  slots_none (suc m) =
      let e : slot_words * m + slot_words ≡ slot_words * suc m = omega arith in
      rw (slots_none m, ← e) (replicate-append-replicate (slot_words * m) slot_words 0)

  area_none : (T : ℕ) → area_on b nobody nobody T ≡ replicate (area_words T b.programs) 0
  unfolding area_on
  area_none T =
      let e : T + (T + slot_words * b.programs) ≡ area_words T b.programs = omega arith in
      rw (marks_none T Write, marks_none T Read, slots_none b.programs, ← e)
      (ap (λ (x : List ℕ). replicate T 0 ++ x) (replicate-append-replicate T (slot_words * b.programs) 0)
      ∙ replicate-append-replicate T (T + slot_words * b.programs) 0)

pub opened_on : (image t g found : List ℕ) → open_refusal image t g found ≡ passed → opening image t g found ≡ world_on image t g nobody nobody
unfolding opening open_area
opened_on image t g found e =
    rw (
      unless_done (open_refusal image t g found) (λ r. found) (cleared found) e,
      (open_shows image t g found e).sized,
      area_none (batch_of image t g) (length t),
      table_opening (batch_of image t g) t nobody (λ _ _. refl),
    )

-- ---- a history

-- the world that belongs to the two sets
abbrev pub world_at : (image t g : List ℕ) → Progress → World
world_at image t g p = world_on image t g p.gathered p.settled

module _ (image t g : List ℕ) (o : Opens image t g) where
  after_on : (s : Step) (p : Progress) → Phased (count_of image) p.gathered p.settled
      → after_step image g s (world_at image t g p) ≡ world_at image t g (moved (count_of image) s p)
  unfolding after_step
  after_on (gather k) p f =
      ap (λ (x : List ℕ). record { table = table_on (batch_of image t g) p.settled t; area = x }) (gather_on image t g o p.gathered p.settled k f)
  after_on (settle k) p f =
      λ i. record { table = settle_table_on image t g o p.gathered p.settled k i; area = settle_area_on image t g o p.gathered p.settled k i }

  played_on : (h : List Step) (p : Progress) → Phased (count_of image) p.gathered p.settled
      → played image g h (world_at image t g p) ≡ world_at image t g (moved_by (count_of image) h p)
  unfolding played
  played_on [] p f = refl
  played_on (s ∷ h) p f = rw (after_on s p f) (played_on h (moved (count_of image) s p) (phased_by (count_of image) (s ∷ []) p f))

-- who is gathered and settled after a history from an opened batch
abbrev pub reached : (image : List ℕ) → List Step → Progress
reached image h = moved_by (count_of image) h none_yet

pub reached_phased : (image : List ℕ) (h : List Step) → Phased (count_of image) (reached image h).gathered (reached image h).settled
reached_phased image h = phased_by (count_of image) h none_yet (none_phased (count_of image))

pub world_reached : (image t g found : List ℕ) → open_refusal image t g found ≡ passed → (h : List Step)
    → world_after image t g found h ≡ world_at image t g (reached image h)
world_reached image t g found e h =
    rw (opened_on image t g found e) (played_on image t g (opens image t g found e) h none_yet (none_phased (count_of image)))
