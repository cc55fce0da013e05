-- Document 02, ask 3, "prove it of the programs' own runs from the opening table": what it means that an answer is true of the paper's batch. There
-- is no work area in sight. Assumes nothing.
use Rattle.std.specs.Prelude.{ℕ, ◌≤◌, ◌<◌, ◌≡◌, Bool, true, false, not, cond, ◌&&◌, List, [], ◌∷◌, eqb, Option, Some, None, Result, Ok, Err}
use Rattle.base.specs.Words.{has}
use Rattle.slot.specs.declared.ListKind.{ListKind}
use Rattle.slot.specs.declared.ListKind.TheVariants.{Reads, Stores}
use Rattle.slot.specs.Log.{cells_of}
use Rattle.image.specs.declared.refusals.Refusal.{Refusal}
use Rattle.steps.specs.declared.Reason.TheVariants as reason
use Rattle.causes.specs.declared.answers.Cause.{Cause}
use Rattle.causes.specs.declared.answers.Why.{Why}
use Rattle.causes.specs.declared.answers.Why.TheVariants as why
use Rattle.promises.specs.Paper.{Batch, sets, keeps_stores, gets_settled, raw, commits, reason}

-- program k is carried: it is settled and does not commit
unfoldable pub is_carried_in : Batch → ℕ → Bool
is_carried_in b k = gets_settled b k && not (commits b k)

-- A cell and an earlier program are the cause of a dependency of program k. `mine` is the kind of the set of k's run that has the cell, `theirs` that
-- of the other's run; the sets of a program that did not finish are empty.
pub record TrueCause (mine theirs : ListKind) (b : Batch) (k : ℕ) (cause : Cause) : Type 0 where
  pub own_cell : has cause.cell (cells_of mine (sets b k)) ≡ true
  pub earlier : cause.program < k
  pub finished : keeps_stores b cause.program ≡ true
  pub its_cell : has cause.cell (cells_of theirs (sets b cause.program)) ≡ true
  -- "the lowest cell that shows the dependency"
  pub lowest : (c j : ℕ) → j < k → has c (cells_of mine (sets b k)) ≡ true → has c (cells_of theirs (sets b j)) ≡ true → cause.cell ≤ c
  -- "and the smallest earlier program its marks name"
  pub smallest : (j : ℕ) → j < k → has cause.cell (cells_of theirs (sets b j)) ≡ true → cause.program ≤ j

-- WAW: both store the cell. RAW: k reads it, the earlier one stores it. WAR: k stores it, the earlier one reads it.
abbrev pub TrueWaw : Batch → ℕ → Cause → Type 0
TrueWaw = TrueCause Stores Stores

abbrev pub TrueRaw : Batch → ℕ → Cause → Type 0
TrueRaw = TrueCause Reads Stores

abbrev pub TrueWar : Batch → ℕ → Cause → Type 0
TrueWar = TrueCause Stores Reads

-- the answer is no refusal, its reason is the paper's, and its cause is true, or both its causes are
abbrev pub TrueOf : Batch → ℕ → Result Why Refusal → Type 0
TrueOf b k (Err r) = ⊥
TrueOf b k (Ok (why.Waw cause)) = (reason b k ≡ reason.Waw) × TrueWaw b k cause
TrueOf b k (Ok (why.Raw cause)) = (reason b k ≡ reason.Raw) × TrueRaw b k cause
TrueOf b k (Ok (why.RawWithWar raw war)) = (reason b k ≡ reason.RawWithWar) × TrueRaw b k raw × TrueWar b k war

-- ---- before whom a program comes

-- the answer is no refusal: nobody, and then the program has no RAW, or the cause of its RAW
abbrev pub TrueBefore : Batch → ℕ → Result (Option Cause) Refusal → Type 0
TrueBefore b k (Err r) = ⊥
TrueBefore b k (Ok None) = raw b k ≡ false
TrueBefore b k (Ok (Some cause)) = TrueRaw b k cause

-- k stands behind i in a list
unfoldable pub behind : (k i : ℕ) → List ℕ → Bool
behind k i [] = false
behind k i (x ∷ xs) = cond (eqb x i) (has k xs) (behind k i xs)
