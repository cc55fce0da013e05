-- What a true or a false test tells. Assumes nothing.
use mathlib.Core.Path.{◌≡◌, refl, sym}
use mathlib.Core.Logic.{◌⊎◌, inl, inr}
use mathlib.Core.Bool.{Bool, true, false, not, ◌&&◌, ◌||◌}
use Prim.Native.Nat.{ℕ}
use native.Mathlib.Omega.{arith}

-- a test is true or false, with the equation
pub known : (b : Bool) → (b ≡ true) ⊎ (b ≡ false)
known true = inl refl
known false = inr refl

pub clash : {A : Type 0} {b : Bool} → b ≡ true → b ≡ false → A
clash p q = let z : ◌≡◌ {A = ℕ} 0 1 = cc in absurd (omega arith)

pub not_true : {b : Bool} → (b ≡ true → ⊥) → b ≡ false
not_true {b = true} h = absurd (h refl)
not_true {b = false} h = refl

pub not_false : {b : Bool} → (b ≡ false → ⊥) → b ≡ true
not_false {b = true} h = refl
not_false {b = false} h = absurd (h refl)

pub and_both : (a b : Bool) → a && b ≡ true → (a ≡ true) × (b ≡ true)
and_both true b e = (refl, e)
and_both false b e = clash e refl

pub both_and : {a b : Bool} → a ≡ true → b ≡ true → a && b ≡ true
both_and p q = rw (p, q)

pub or_cases : (a b : Bool) → a || b ≡ true → (a ≡ true) ⊎ (b ≡ true)
or_cases true b e = inl refl
or_cases false b e = inr e

pub or_false : (a b : Bool) → a || b ≡ false → (a ≡ false) × (b ≡ false)
or_false true b e = clash refl e
or_false false b e = (refl, e)

pub or_left : (a b : Bool) → a ≡ true → a || b ≡ true
or_left a b e = rw e

pub or_right : (a b : Bool) → b ≡ true → a || b ≡ true
or_right true b e = refl
or_right false b e = e

pub nots : (b : Bool) → not b ≡ true → b ≡ false
nots true e = sym e
nots false e = refl

pub no_not : {b : Bool} → b ≡ false → not b ≡ true
no_not e = rw e

-- both sides of a test that holds, one by one
pub and_left : (a b : Bool) → a && b ≡ true → a ≡ true
and_left a b e = (and_both a b e).0

pub and_right : (a b : Bool) → a && b ≡ true → b ≡ true
and_right a b e = (and_both a b e).1

pub and_false : (a b : Bool) → b ≡ false → a && b ≡ false
and_false true b e = e
and_false false b e = refl

-- two tests that hold together are one test
pub same_test : {a b : Bool} → (a ≡ true → b ≡ true) → (b ≡ true → a ≡ true) → a ≡ b
same_test {a = true} {b} f g = sym (f refl)
same_test {a = false} {b = true} f g = g refl
same_test {a = false} {b = false} f g = refl

-- the second test is looked at where the first holds
pub and_same : (a : Bool) {b c : Bool} → (a ≡ true → b ≡ c) → a && b ≡ a && c
and_same true h = h refl
and_same false h = refl
