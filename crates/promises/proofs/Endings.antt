-- A world on the way, read by the states of its own area: who is gathered and settled in it, and when it is at its end. Assumes nothing.
use mathlib.Core.Path.{◌≡◌, sym, ap, ◌∙◌}
use mathlib.Core.Bool.{Bool, true, not, ◌&&◌}
use mathlib.Core.List.{List}
use Prim.Native.Nat.{ℕ, ◌<◌}
use lib.ListN.{length}
use native.Mathlib.Omega.{arith}
use borrow.Author.Tests.{eqb-true}
use Rattle.base.specs.Words.{every}
use Rattle.base.proofs.Numbers.{every_at, every_from, every_ext}
use Rattle.image.specs.Refusals.{passed}
use Rattle.image.specs.Image.{count_of, refusal_of}
use Rattle.slot.specs.States.{has_run, is_end, is_settled, is_committed, is_carried}
use Rattle.area.specs.Checks.{states_from}
use Rattle.promises.specs.Paper.{Batch, batch_of, gets_settled}
use Rattle.promises.specs.Laid.{area_on, world_on, all, paper_world, gathered_in, settled_in}
use Rattle.promises.specs.History.{is_over}
use Rattle.promises.proofs.Installing.{table_length, table_ext}
use Rattle.promises.proofs.SlotLaws.{by_ended}
use Rattle.promises.proofs.Views.{on_ext, state_on, gathered_on, settled_on}
use Rattle.promises.proofs.Stepping.{runs_fit, Phased}

-- the sets decide the world: of the settled ones only those count that are settled at all
pub world_ext : (image t g : List ℕ) (G S G' S' : ℕ → Bool) → ((k : ℕ) → k < count_of image → G k ≡ G' k)
    → ((k : ℕ) → k < count_of image → gets_settled (batch_of image t g) k ≡ true → S k ≡ S' k) → world_on image t g G S ≡ world_on image t g G' S'
world_ext image t g G S G' S' same s =
    λ i. record { table = table_ext (batch_of image t g) t S S' s i; area = on_ext (batch_of image t g) G S G' S' (length t) same s i }

module _ (image t g : List ℕ) (e : refusal_of image ≡ passed) (G S : ℕ → Bool) where
  abbrev b : Batch
  b = batch_of image t g

  abbrev area : List ℕ
  area = area_on b G S (length t)

  -- the area's own states say who is gathered and who is settled
  pub says_itself : Phased (count_of image) G S
      → world_on image t g G S ≡ world_on image t g (gathered_in (length t) area) (settled_in (length t) area)
  unfolding Phased
  says_itself phased =
      world_ext image t g G S (gathered_in (length t) area) (settled_in (length t) area)
      (λ k l. sym (gathered_on b G S (length t) (runs_fit image t g e) k l))
      (λ k l f. grind (arith, phased k k l l, settled_on b G S (length t) (runs_fit image t g e) k l f))

  ended_is : is_over image (world_on image t g G S) ≡ every (count_of image) (λ k. G k && not ((G k && not (S k)) && gets_settled b k))
  unfolding is_over states_from is_end
  ended_is =
      rw (table_length b t S)
      (every_ext (count_of image) _ _ (λ k l. ap is_end (state_on b G S (length t) (runs_fit image t g e) k l) ∙ by_ended b k (G k) (S k)))

  -- it is over exactly when everybody is gathered and everybody who is to be settled is
  pub over_shows : is_over image (world_on image t g G S) ≡ true → (k : ℕ) → k < count_of image
      → (G k ≡ true) × (gets_settled b k ≡ true → S k ≡ true)
  over_shows h k l =
      let w = every_at (count_of image) _ (sym ended_is ∙ h) k l in
      (grind arith, λ f. grind arith)

  pub over_is : ((k : ℕ) → k < count_of image → (G k ≡ true) × (gets_settled b k ≡ true → S k ≡ true)) → is_over image (world_on image t g G S) ≡ true
  over_is h = ended_is ∙ every_from (count_of image) _ (λ k l. let w = h k l in grind arith)

  -- and then it is the paper's
  pub over_paper : is_over image (world_on image t g G S) ≡ true → world_on image t g G S ≡ paper_world image t g
  over_paper h = world_ext image t g G S all all (λ k l. (over_shows h k l).0) (λ k l f. (over_shows h k l).1 f)

-- a settled state is no waiting one
pub settled_gathered : (T : ℕ) (a : List ℕ) (k : ℕ) → settled_in T a k ≡ true → gathered_in T a k ≡ true
unfolding settled_in gathered_in has_run is_settled is_committed is_carried
settled_gathered T a k s = grind (arith, eqb-true)
