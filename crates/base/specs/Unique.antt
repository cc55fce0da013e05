-- "No second result": two outcomes that meet one contract at the same arguments look the same. It is stated over `Post`, which the check itself
-- reads off the contract, so a weaker `ensures` breaks the lines that cite it. Assumes nothing.
use Rattle.std.specs.Prelude.{◌≡◌, List, ℕ}
use contract.Lifetimes.{Lfts}
use denote.Triple.Clauses.{AtExit}
use borrow.Fn.Kinds.{ParamKind, ResultKind, Out, Dens, res_t, ended_of}

-- `see` is all that a caller can see of an outcome: the result, and what lent memory holds at the exit
abbrev pub Unique : {A : Type 0} (n : ℕ) (ps : List (ParamKind n)) (r : ResultKind n)
    → ((κs : Lfts n) → (res_t r κs).Denot → AtExit (ended_of n ps r) κs → A) → Out n ps r → Type 0
Unique n ps r see Post =
    (κs : Lfts n) (a : Dens κs ps) (x y : (res_t r κs).Denot) (s t : AtExit (ended_of n ps r) κs) → Post κs a x s → Post κs a y t
    → see κs x s ≡ see κs y t
