-- Each call on a world on the way: gathering k leaves the world in which k is gathered too, settling k that in which k is settled too, once everybody
-- is gathered. A refused call leaves the same world, and then the sets are the same too. Assumes nothing.
use mathlib.Core.Path.{◌≡◌, refl, ap, ◌∙◌}
use mathlib.Core.Bool.{Bool, true, false, not, cond, ◌&&◌}
use mathlib.Core.List.{List}
use Prim.Native.Nat.{ℕ, ◌≤◌, ◌<◌}
use native.Mathlib.Omega.{arith}
use lib.Dec.{eqb, ltb, leb}
use lib.ListN.{length}
use borrow.Author.Tests.{eqb-true, ltb-true}
use Rattle.base.specs.Words.{every}
use Rattle.base.proofs.Bools.{and_left}
use Rattle.base.proofs.Numbers.{every_at, every_ext}
use Rattle.image.specs.Limits.{max_cells}
use Rattle.image.specs.Refusals.{passed, check, after, unless}
use Rattle.image.specs.Image.{count_of, part_of, refusal_of}
use Rattle.image.proofs.Laws.{accepted, part_short}
use Rattle.slot.specs.declared.ListKind.TheVariants.{Reads, Stores}
use Rattle.slot.specs.States.{waiting, gathered, has_run}
use Rattle.machine.proofs.Laws.{run_kept}
use Rattle.area.specs.declared.MarkKind.TheVariants.{Write, Read}
use Rattle.area.specs.Layout.{state_of}
use Rattle.guard.specs.Guards.{admits}
use Rattle.area.specs.Checks.{call_refusal, open_refusal, states_from, Checked, Paired}
use Rattle.area.proofs.Checks.{few, passed_good, checked_is, open_shows}
use Rattle.steps.specs.Gathering.{step_refusal, waits, gather_refusal, gathered_area, gather_area}
use Rattle.steps.specs.Settling.{is_ready, settle_refusal, verdict, settled_table, settled_area, settle_table, settle_area}
use Rattle.promises.specs.Paper.{Batch, batch_of, gets_settled}
use Rattle.promises.specs.Laid.{area_on, table_on}
use Rattle.promises.proofs.Sets.{also}
use Rattle.promises.proofs.Deciding.{decision_on, decided_is, decision_state, decision_detail}
use Rattle.promises.proofs.Installing.{table_length, table_opening, table_ext, table_more}
use Rattle.promises.proofs.SlotLaws.{state_by, by_started, by_gathered}
use Rattle.promises.proofs.Views.{Fitting, on_length, on_passes, state_on, on_ext}
use Rattle.promises.proofs.GatherStep.{gathered_more}
use Rattle.promises.proofs.SettleStep.{settled_more, own_list, own_values, depends_on}

-- ---- the calls, where checks 1 to 7 pass: the rest of the checks is one test

module _ (image t g a : List ℕ) (k : ℕ) (called : call_refusal image t g a ≡ passed) where
  pub gather_is : gather_area image t g a k ≡ cond (ltb k (count_of image) && waits (length t) k a) (gathered_area image t g k a) a
  unfolding gather_area gather_refusal step_refusal check after unless
  gather_is = grind arith

  pub settle_table_is : settle_table image t g a k
      ≡ cond (ltb k (count_of image) && is_ready (length t) (count_of image) k a) (settled_table (verdict image (length t) k a) k a t) t
  unfolding settle_table settle_refusal step_refusal check after unless
  settle_table_is = grind arith

  pub settle_area_is : settle_area image t g a k
      ≡ cond (ltb k (count_of image) && is_ready (length t) (count_of image) k a) (settled_area (verdict image (length t) k a) (length t) k a) a
  unfolding settle_area settle_refusal step_refusal check after unless
  settle_area_is = grind arith

-- ---- a batch that opens

-- every run's log fits its slot
pub runs_fit : (image t g : List ℕ) → refusal_of image ≡ passed → Fitting (batch_of image t g) (length t)
unfolding Fitting
runs_fit image t g e k l =
    run_kept (admits g) (part_of image k) t (part_short image (accepted image e).offsets k l)

-- what the checks 1 to 5 and 14 have shown
pub record Opens (image t g : List ℕ) : Type 0 where
  pub accepted : refusal_of image ≡ passed
  pub cells_some : 0 < length t
  pub cells_few : length t ≤ max_cells
  pub pairs : Paired t g

pub opens : (image t g found : List ℕ) → open_refusal image t g found ≡ passed → Opens image t g
opens image t g found e =
    let r = open_shows image t g found e in
    record { accepted = r.accepted; cells_some = r.cells_some; cells_few = r.cells_few; pairs = r.pairs }

-- who waits has not run
waiting_is : (s : ℕ) → eqb s waiting ≡ not (has_run s)
unfolding has_run
waiting_is s = grind arith

-- nobody is settled before everybody is gathered
unfoldable pub Phased : ℕ → (gathered settled : ℕ → Bool) → Type 0
Phased n G S = (j k : ℕ) → j < n → k < n → G j ≡ false → S k ≡ false

module _ (image t g : List ℕ) (o : Opens image t g) where
  abbrev b : Batch
  b = batch_of image t g

  abbrev n : ℕ
  n = count_of image

  abbrev T : ℕ
  T = length t

  fitting : Fitting b T
  fitting = runs_fit image t g o.accepted

  module _ (G S : ℕ → Bool) where
    abbrev table : List ℕ
    table = table_on b S t

    abbrev area : List ℕ
    area = area_on b G S T

    pub checked_on : Checked image table area
    checked_on =
        let same : length table ≡ T = table_length b t S in
        record {
          accepted = o.accepted;
          programs = few image o.accepted;
          cells_some = omega (arith, o.cells_some);
          cells_few = omega (arith, o.cells_few);
          sized = rw same (on_length b G S T fitting);
          good = rw same (passed_good T n _ (on_passes b G S T fitting));
        }

    pub paired_on : Paired table g
    paired_on = rw (table_length b t S) o.pairs

    pub call_on : call_refusal image table g area ≡ passed
    call_on = checked_is image _ _ _ checked_on paired_on

    -- ---- check 9 on the way

    waits_on : (k : ℕ) → k < n → waits T k area ≡ not (G k)
    unfolding waits
    waits_on k l = rw (state_on b G S T fitting k l) (waiting_is (state_by b k (G k) (S k)) ∙ ap not (by_started b k (G k) (S k)))

    ready_on : (k : ℕ) → k < n → is_ready T n k area ≡ every n G && ((G k && not (S k)) && gets_settled b k)
    unfolding is_ready states_from has_run
    ready_on k l =
        rw (
          every_ext n (λ j. leb gathered (state_of T j area)) G (λ j m. rw (state_on b G S T fitting j m) (by_started b j (G j) (S j))),
          state_on b G S T fitting k l,
        )
        (ap (λ (c : Bool). every n G && c) (by_gathered b k (G k) (S k)))

    -- ---- gathering

    pub gather_on : (k : ℕ) → Phased n G S → gather_area image table g area k ≡ area_on b (also k G) S T
    unfolding Phased also
    gather_on k phased = grind (arith, gather_is image table g area k call_on, table_length b t S, waits_on k, goes, stays)
      where
        goes : k < n → G k ≡ false → gathered_area image table g k area ≡ area_on b (also k G) S T
        goes l new = rw (table_opening b t S (λ j m. phased k j l m new)) (gathered_more b G S T k fitting l (phased k k l l new))

        stays : ltb k n && not (G k) ≡ false → area ≡ area_on b (also k G) S T
        stays e = on_ext b G S (also k G) S T (λ j l. grind (arith, eqb-true)) (λ j _ _. refl)

    -- ---- settling

    -- once everybody is gathered, the marks decide as the paper does
    pub verdict_on : (k : ℕ) → k < n → ((j : ℕ) → j < n → G j ≡ true) → gets_settled b k ≡ true → verdict image T k area ≡ decision_on b k
    unfolding verdict
    verdict_on k l all ran =
        rw (
          depends_on b G S T k fitting l all Stores Write,
          depends_on b G S T k fitting l all Reads Write,
          depends_on b G S T k fitting l all Stores Read,
        )
        (decided_is b k ran)

    -- who is settled after the call
    abbrev settled_too : ℕ → ℕ → Bool
    settled_too k = cond (every n G) (also k S) S

    -- the call's tests 8 and 9
    abbrev asked : ℕ → Bool
    asked k = ltb k n && is_ready T n k area

    -- they pass when the program is one more to be settled
    record Settling (k : ℕ) : Type 0 where
      pub number : k < n
      pub everybody : every n G ≡ true
      pub own : G k ≡ true
      pub unsettled : S k ≡ false
      pub ran : gets_settled b k ≡ true

    settling : (k : ℕ) → asked k ≡ true → Settling k
    settling k e =
        let l : k < n = ltb-true k n (and_left (ltb k n) _ e) in
        grind (arith, ready_on k l)

    -- where they fail, nobody who is settled at all is newly settled
    not_settling : (k : ℕ) → asked k ≡ false → (j : ℕ) → j < n → gets_settled b j ≡ true → S j ≡ settled_too k j
    unfolding also
    not_settling k e j l f = grind (arith, eqb-true, ready_on k, every_at n G)

    module _ (k : ℕ) (s : Settling k) where
      all : (j : ℕ) → j < n → G j ≡ true
      all = every_at n G s.everybody

      settles_as : verdict image T k area ≡ decision_on b k
      settles_as = verdict_on k s.number all s.ran

      table_settled : settled_table (decision_on b k) k area table ≡ table_on b (also k S) t
      unfolding settled_table decision_on
      table_settled =
          let values = own_values b G S T k fitting s.number all in
          let cells = own_list b G S T k fitting s.number all Stores in
          grind (arith, table_length b t S, table_more b t S k s.number s.unsettled)

      area_settled : settled_area (decision_on b k) T k area ≡ area_on b G (also k S) T
      area_settled =
          settled_more b G S T k fitting s.number s.own s.unsettled (decision_on b k) (decision_state b k s.ran) (decision_detail b k s.ran)

    pub settle_table_on : (k : ℕ) → settle_table image table g area k ≡ table_on b (settled_too k) t
    settle_table_on k = grind (arith, settle_table_is image table g area k call_on, table_length b t S, done, stays)
      where
        done : asked k ≡ true → settled_table (verdict image T k area) k area table ≡ table_on b (settled_too k) t
        done e = let s = settling k e in rw (settles_as k s, s.everybody) (table_settled k s)

        stays : asked k ≡ false → table ≡ table_on b (settled_too k) t
        stays e = table_ext b t S (settled_too k) (not_settling k e)

    pub settle_area_on : (k : ℕ) → settle_area image table g area k ≡ area_on b G (settled_too k) T
    settle_area_on k = grind (arith, settle_area_is image table g area k call_on, table_length b t S, done, stays)
      where
        done : asked k ≡ true → settled_area (verdict image T k area) T k area ≡ area_on b G (settled_too k) T
        done e = let s = settling k e in rw (settles_as k s, s.everybody) (area_settled k s)

        stays : asked k ≡ false → area ≡ area_on b G (settled_too k) T
        stays e = on_ext b G S G (settled_too k) T (λ _ _. refl) (not_settling k e)
