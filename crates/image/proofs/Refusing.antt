-- Laws of a chain of checks and of a call that may be refused: one fails, it passes, none fails. Assumes nothing.
use mathlib.Core.Path.{◌≡◌, refl, sym, ap, ◌∙◌}
use mathlib.Core.Logic.{◌⊎◌, inl, inr}
use mathlib.Core.Bool.{Bool, true, false, not, cond, ◌&&◌}
use Prim.Native.Nat.{ℕ, zero, suc, ◌<◌}
use native.Mathlib.Nat.{not-suc-le-zero}
use borrow.Author.Tests.{not-true, not-false}
use Rattle.std.specs.Prelude.{Result, Ok, Err}
use Rattle.std.specs.Result.{IsErr, IsErrAnd, MatchResult}
use Rattle.std.proofs.lemmas.Result.{err_from_is_err_and}
use Rattle.base.specs.Words.{every}
use Rattle.base.proofs.Numbers.{below}
use Rattle.image.specs.Refusals.{passed, check, passes, after, first_of, given_as, unless}

-- what checks of one kind answer
abbrev pub Checks : Type 0 → Type 0
Checks E = Result (Unit {0}) E

-- ---- checks pass, or one of them refuses, and not both

pub never_both : {E : Type 0} {r : Checks E} {e : E} → r ≡ passed → r ≡ Err e → ⊥
never_both p q = cc

pub one_refusal : {E : Type 0} {r : Checks E} {e f : E} → r ≡ Err e → r ≡ Err f → e ≡ f
one_refusal p q = cc

-- a fact of what has passed, and of each refusal, is one of the checks
pub either : {E : Type 0} (P : Checks E → Type 0) (r : Checks E) → (r ≡ passed → P passed) → ((e : E) → r ≡ Err e → P (Err e)) → P r
either P (Ok done) p q = p refl
either P (Err e) p q = q e refl

-- as a test says it
pub passed_is : {E : Type 0} (r : Checks E) → passes r ≡ true → r ≡ passed
passed_is (Ok done) e = refl
passed_is (Err r) e = cc

pub is_passed : {E : Type 0} {r : Checks E} → r ≡ passed → passes r ≡ true
is_passed e = rw e

pub refused_is : {E : Type 0} (r : Checks E) → passes r ≡ false → (e : E) × (r ≡ Err e)
refused_is (Ok done) e = absurd (cc)
refused_is (Err r) e = (r, refl)

pub is_refused : {E : Type 0} {r : Checks E} {e : E} → r ≡ Err e → passes r ≡ false
is_refused e = rw e

-- ---- a check, and the rest

-- it fails: the answer is the refusal that it gives
pub fails : {E : Type 0} {holds : Bool} {gives : E} (rest : Checks E) → holds ≡ false → Err gives ≡ check holds gives rest
unfolding check
fails rest e = rw e

-- it passes: the answer is that of the rest
pub goes_on : {E : Type 0} {holds : Bool} {rest x : Checks E} (gives : E) → holds ≡ true → x ≡ rest → x ≡ check holds gives rest
unfolding check
goes_on gives e f = rw e f

-- none fails
pub none_fails : {E : Type 0} (holds : Bool) (gives : E) (rest : Checks E) → check holds gives rest ≡ passed → (holds ≡ true) × (rest ≡ passed)
unfolding check
none_fails true gives rest e = (refl, e)
none_fails false gives rest e = absurd (cc)

-- what is refused is not what this check gives: it has passed, and the rest refuses
pub behind : {E : Type 0} {e : E} (holds : Bool) (gives : E) (rest : Checks E) → (gives ≡ e → ⊥) → check holds gives rest ≡ Err e → (holds ≡ true) × (rest ≡ Err e)
unfolding check
behind true gives rest other f = (refl, f)
behind false gives rest other f = absurd (other (cc))

-- a fact of what it gives and of the rest is one of the two together
pub check_either : {E : Type 0} (P : Checks E → Type 0) (holds : Bool) {gives : E} {rest : Checks E} → P (Err gives) → P rest → P (check holds gives rest)
unfolding check
check_either P true g r = r
check_either P false g r = g

pub check_passes : {E : Type 0} (holds : Bool) (gives : E) (rest : Checks E) → passes (check holds gives rest) ≡ holds && passes rest
unfolding check
check_passes true gives rest = refl
check_passes false gives rest = refl

-- the first two as the code has them: `if !test { return gives; }`
pub refuses : {E : Type 0} {test holds : Bool} {gives : E} (rest : Checks E) → test ≡ holds → not test ≡ true → Err gives ≡ check holds gives rest
refuses rest e f = fails rest (sym e ∙ not-true _ f)

pub accepts : {E : Type 0} {test holds : Bool} {rest x : Checks E} (gives : E) → test ≡ holds → not test ≡ false → x ≡ rest → x ≡ check holds gives rest
accepts gives e f = goes_on gives (sym e ∙ not-false _ f)

-- ---- all the checks of another call first

pub first_refuses : {E : Type 0} {r checks : Checks E} {e : E} (rest : Checks E) → r ≡ checks → r ≡ Err e → Err e ≡ after checks rest
unfolding after
first_refuses rest p q = rw (sym p ∙ q)

pub first_passes : {E : Type 0} {r checks rest x : Checks E} → r ≡ checks → r ≡ passed → x ≡ rest → x ≡ after checks rest
unfolding after
first_passes p q f = rw (sym p ∙ q) f

pub none_after : {E : Type 0} (checks rest : Checks E) → after checks rest ≡ passed → (checks ≡ passed) × (rest ≡ passed)
unfolding after
none_after (Ok done) rest e = (refl, e)
none_after (Err r) rest e = absurd (cc)

pub after_either : {E : Type 0} (P : Checks E → Type 0) (checks : Checks E) {rest : Checks E} → P checks → P rest → P (after checks rest)
unfolding after
after_either P (Ok done) c r = r
after_either P (Err e) c r = c

pub after_passes : {E : Type 0} (checks rest : Checks E) → passes (after checks rest) ≡ passes checks && passes rest
unfolding after
after_passes (Ok done) rest = refl
after_passes (Err r) rest = refl

-- ---- the same refusal, as one of another kind

pub given_passed : {E F : Type 0} (kind : E → F) {r : Checks E} → r ≡ passed → given_as kind r ≡ passed
unfolding given_as
given_passed kind e = rw e

pub passed_given : {E F : Type 0} (kind : E → F) (r : Checks E) → given_as kind r ≡ passed → r ≡ passed
unfolding given_as
passed_given kind (Ok done) e = refl
passed_given kind (Err r) e = absurd (cc)

pub given_refused : {E F : Type 0} (kind : E → F) {r : Checks E} {e : E} → r ≡ Err e → given_as kind r ≡ Err (kind e)
unfolding given_as
given_refused kind e = rw e

pub refused_given : {E F : Type 0} (kind : E → F) (r : Checks E) {f : F} → given_as kind r ≡ Err f → (e : E) × (r ≡ Err e) × (f ≡ kind e)
unfolding given_as
refused_given kind (Ok done) g = absurd (cc)
refused_given kind (Err e) g = (e, refl, cc)

pub given_passes : {E F : Type 0} (kind : E → F) (r : Checks E) → passes (given_as kind r) ≡ passes r
unfolding given_as
given_passes kind (Ok done) = refl
given_passes kind (Err e) = refl

-- as the code has them: r is what the checks gave, and `?` hands out its refusal as one of the other kind
pub given_refuses : {E F : Type 0} (kind : E → F) {r checks : Checks E} {e : E} → r ≡ checks → r ≡ Err e → Err (kind e) ≡ given_as kind checks
given_refuses kind p q = sym (given_refused kind (sym p ∙ q))

pub given_passing : {E F : Type 0} (kind : E → F) {r checks : Checks E} → r ≡ checks → r ≡ passed → passed ≡ given_as kind checks
given_passing kind p q = sym (given_passed kind (sym p ∙ q))

-- what `?` hands out, of the same kind or as another
pub handed_out : {E : Type 0} {r : Checks E} {e : E} → IsErr r × IsErrAnd r (λ f. f ≡ e) → r ≡ Err e
handed_out {r = r} p = let f = err_from_is_err_and r p.1 in f.1 ∙ ap Err f.2

-- what `map_err` makes of what the checks gave, by a closure of which each call gives it, and by a variant
pub given_through : {E F : Type 0} (kind : E → F) {r checks : Checks E} {x : Checks F} {Q : E → F → Type 0} → r ≡ checks
    → MatchResult r (λ done. x ≡ Ok done) (λ e. IsErrAnd x (λ f. Q e f)) → ((e : E) (f : F) → Q e f → f ≡ kind e) → x ≡ given_as kind checks
unfolding given_as
given_through {E} {F} kind {x = x} {Q = Q} p m gives = rw p at (go _ m)
  where
    go : (r : Checks E) → MatchResult r (λ done. x ≡ Ok done) (λ e. IsErrAnd x (λ f. Q e f)) → x ≡ given_as kind r
    go (Ok done) m = m
    go (Err e) m = let f = err_from_is_err_and x m in f.1 ∙ ap Err (gives e f.0 f.2)

pub given_by : {E F : Type 0} (kind : E → F) {r checks : Checks E} {x : Checks F} → r ≡ checks
    → MatchResult r (λ done. x ≡ Ok done) (λ e. IsErrAnd x (λ f. f ≡ kind e)) → x ≡ given_as kind checks
given_by kind p m = given_through kind {Q = λ e f. f ≡ kind e} p m (λ e f is. is)

-- all of these, for a function that answers check by check
pub ruleset checking = (fails, goes_on, first_refuses, first_passes, given_refuses, given_passing, handed_out)

-- ---- the first of several, of which a test says whether each passes

module _ {E : Type 0} (refusal : ℕ → Checks E) (good : ℕ → Bool) (is : (k : ℕ) → passes (refusal k) ≡ good k) where
  pub firsts_pass : (n : ℕ) → passes (first_of n refusal) ≡ every n good
  unfolding first_of every
  firsts_pass zero = refl
  firsts_pass (suc n) = after_passes (first_of n refusal) (refusal n) ∙ rw (firsts_pass n, is n)

  pub firsts_none : (n : ℕ) → every n good ≡ true → passed ≡ first_of n refusal
  firsts_none n e = sym (passed_is (first_of n refusal) (firsts_pass n ∙ e))

  -- one that does not pass, and all before it do
  pub firsts_found : (n k : ℕ) → k < n → every k good ≡ true → good k ≡ false → refusal k ≡ first_of n refusal
  unfolding first_of
  firsts_found zero k l e h = absurd (not-suc-le-zero l)
  firsts_found (suc n) k l e h = go (below k n l) (λ less. firsts_found n k less e h)
    where
      go : (k ≡ n) ⊎ (k < n) → (k < n → refusal k ≡ first_of n refusal) → refusal k ≡ after (first_of n refusal) (refusal n)
      go (inl same) ih = first_passes refl (passed_is (first_of n refusal) (firsts_pass n ∙ rw (← same) e)) (ap refusal same)
      go (inr less) ih = let found = refused_is (refusal k) (is k ∙ h) in found.1 ∙ first_refuses (refusal n) (ih less) found.1

-- a fact of what has passed and of each is one of the first
pub firsts_either : {E : Type 0} (P : Checks E → Type 0) (refusal : ℕ → Checks E) → P passed → ((k : ℕ) → P (refusal k)) → (n : ℕ) → P (first_of n refusal)
unfolding first_of
firsts_either P refusal start each zero = start
firsts_either P refusal start each (suc n) = after_either P (first_of n refusal) (firsts_either P refusal start each n) (each n)

-- ---- a call that may be refused

module _ {E A : Type 0} (r : Checks E) (refused : E → A) (done : A) where
  pub unless_refused : {e : E} → r ≡ Err e → unless r refused done ≡ refused e
  unfolding unless
  unless_refused h = rw h

  pub unless_done : r ≡ passed → unless r refused done ≡ done
  unfolding unless
  unless_done e = rw e

-- as the code has them: r is what the checks gave
pub refused_as_lem : {E A : Type 0} {r checks : Checks E} {e : E} (refused : E → A) (done : A) → r ≡ checks → r ≡ Err e → refused e ≡ unless checks refused done
refused_as_lem refused done p q = sym (unless_refused _ refused done (sym p ∙ q))

pub done_as : {E A : Type 0} {r checks : Checks E} {x done : A} (refused : E → A) → r ≡ checks → r ≡ passed → x ≡ done → x ≡ unless checks refused done
done_as refused p q f = f ∙ sym (unless_done _ refused _ (sym p ∙ q))

-- a fact of what is refused and of what is done is one of the call
pub unless_either : {E A : Type 0} (P : A → Type 0) (r : Checks E) (refused : E → A) (done : A) → ((e : E) → r ≡ Err e → P (refused e)) → (r ≡ passed → P done)
    → P (unless r refused done)
unfolding unless
unless_either P (Ok d) refused done p q = q refl
unless_either P (Err e) refused done p q = p e refl

-- where the checks before have passed, the last one decides
pub last_decides : {E A : Type 0} (checks : Checks E) (gives : E) (holds : Bool) (refused : E → A) (done : A) → checks ≡ passed
    → cond holds done (refused gives) ≡ unless (after checks (check holds gives passed)) refused done
unfolding check unless after
last_decides {E} {A} checks gives holds refused done e = rw e (go holds)
  where
    go : (b : Bool) → cond b done (refused gives) ≡ unless (check b gives passed) refused done
    go true = refl
    go false = refl
