-- How far a batch has come: who is gathered and who is settled, and what a history makes of the two sets. Assumes nothing.
use mathlib.Core.Path.{◌≡◌, refl, ap}
use mathlib.Core.Bool.{Bool, true, cond, ◌||◌}
use mathlib.Core.List.{List, [], ◌∷◌, ◌++◌, map}
use Prim.Native.Nat.{ℕ, ◌<◌}
use native.Mathlib.Omega.{arith}
use lib.Dec.{eqb}
use borrow.Author.Tests.{eqb-true}
use Rattle.base.specs.Words.{every, has}
use Rattle.base.proofs.Numbers.{every_at, every_from}
use Rattle.promises.specs.History.{Step, gather, settle, gathers, settles}
use Rattle.promises.proofs.Sets.{nobody, also, also_own, also_keeps}
use Rattle.promises.proofs.Stepping.{Phased}

pub record Progress : Type 0 where
  pub gathered : ℕ → Bool
  pub settled : ℕ → Bool

abbrev pub none_yet : Progress
none_yet = record { gathered = nobody; settled = nobody }

-- n is the number of programs; a settling counts once everybody is gathered
abbrev pub moved : ℕ → Step → Progress → Progress
moved n (gather k) p = record { gathered = also k p.gathered; settled = p.settled }
moved n (settle k) p = record { gathered = p.gathered; settled = cond (every n p.gathered) (also k p.settled) p.settled }

abbrev pub moved_by : ℕ → List Step → Progress → Progress
moved_by n [] p = p
moved_by n (s ∷ h) p = moved_by n h (moved n s p)

module _ (n : ℕ) where
  pub moved_append : (first second : List Step) (p : Progress) → moved_by n (first ++ second) p ≡ moved_by n second (moved_by n first p)
  moved_append [] second p = refl
  moved_append (s ∷ first) second p = moved_append first second (moved n s p)

  -- ---- nobody is settled before everybody is gathered

  pub none_phased : Phased n nobody nobody
  unfolding Phased
  none_phased j k l m h = refl

  moved_phased : (s : Step) (p : Progress) → Phased n p.gathered p.settled → Phased n (moved n s p).gathered (moved n s p).settled
  unfolding Phased also
  moved_phased (gather i) p h j k l m e = grind (arith, h j k l m)
  moved_phased (settle i) p h j k l m e = grind (arith, h j k l m, every_at n p.gathered)

  pub phased_by : (h : List Step) (p : Progress) → Phased n p.gathered p.settled → Phased n (moved_by n h p).gathered (moved_by n h p).settled
  phased_by [] p f = f
  phased_by (s ∷ h) p f = phased_by h (moved n s p) (moved_phased s p f)

  -- ---- who is gathered stays so, and who is settled

  module _ (k : ℕ) where
    gathered_stays : (s : Step) (p : Progress) → p.gathered k ≡ true → (moved n s p).gathered k ≡ true
    gathered_stays (gather j) p g = also_keeps j p.gathered k g
    gathered_stays (settle j) p g = g

    pub gathered_keeps : (h : List Step) (p : Progress) → p.gathered k ≡ true → (moved_by n h p).gathered k ≡ true
    gathered_keeps [] p g = g
    gathered_keeps (s ∷ h) p g = gathered_keeps h (moved n s p) (gathered_stays s p g)

    settled_stays : (s : Step) (p : Progress) → p.settled k ≡ true → (moved n s p).settled k ≡ true
    settled_stays (gather j) p g = g
    settled_stays (settle j) p g = grind (arith, also_keeps j p.settled k g)

    settled_keeps : (h : List Step) (p : Progress) → p.settled k ≡ true → (moved_by n h p).settled k ≡ true
    settled_keeps [] p g = g
    settled_keeps (s ∷ h) p g = settled_keeps h (moved n s p) (settled_stays s p g)

    -- ---- whose gathering stands in the history is gathered, wherever it stands

    pub gathers_gathered : (h : List Step) (p : Progress) → gathers k h ≡ true → (moved_by n h p).gathered k ≡ true
    unfolding gathers
    gathers_gathered [] p e = absurd (cc)
    gathers_gathered (settle j ∷ h) p e = gathers_gathered h (moved n (settle j) p) e
    gathers_gathered (gather j ∷ h) p e =
        grind (arith, eqb-true, also_own k p.gathered, gathered_keeps h (moved n (gather j) p), gathers_gathered h (moved n (gather j) p))

    -- whose settling stands in a history that begins when everybody is gathered is settled
    pub settles_settled : (h : List Step) (p : Progress) → ((j : ℕ) → j < n → p.gathered j ≡ true) → settles k h ≡ true
        → (moved_by n h p).settled k ≡ true
    unfolding settles
    settles_settled [] p all e = absurd (cc)
    settles_settled (gather j ∷ h) p all e = settles_settled h (moved n (gather j) p) (λ i l. also_keeps j p.gathered i (all i l)) e
    settles_settled (settle j ∷ h) p all e =
        let everybody = every_from n p.gathered all in
        let then = moved n (settle j) p in
        grind (arith, eqb-true, also_own k p.settled, settled_keeps h then, settles_settled h then all)

-- ---- the steps of each program of a list

module _ (k : ℕ) where
  pub gathers_each : (o : List ℕ) → gathers k (map gather o) ≡ has k o
  unfolding gathers has
  gathers_each [] = refl
  gathers_each (j ∷ o) = ap (λ (c : Bool). eqb k j || c) (gathers_each o)

  pub settles_each : (o : List ℕ) → settles k (map settle o) ≡ has k o
  unfolding settles has
  settles_each [] = refl
  settles_each (j ∷ o) = ap (λ (c : Bool). eqb k j || c) (settles_each o)
