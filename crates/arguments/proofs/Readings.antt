-- Laws of an argument as a word of its kind: it is the number that was typed, every word can be typed, and it is short. Assumes nothing.
use Rattle.std.proofs.Common.{◌≡◌, ℕ, zero, suc, ◌-◌, ◌^◌, ◌<◌, ◌≤◌, Bool, true, false, cond, ltb, leb, List, [], ◌∷◌, length, drop, ℤ, pos, negsuc, neg_ℤ, Result, Ok, Err, refl, ap, ◌∙◌, subst, arith, length-drop, ltb-false, ltb-true, le-ltb, lt-ltb, ne_eqb, le-leb, leb-true}
use lib.IntN.{sub_ℕ}
use Rattle.text.specs.declared.Misread.{Misread}
use Rattle.text.specs.declared.Misread.TheVariants as misread
use Rattle.text.specs.Decimal.{decimal, is_digit, all_digits, is_number, value, numeral}
use Rattle.text.proofs.Decimals.{one_way, decimal_short, decimal_number, decimal_digits, decimal_value, digit_is}
use Rattle.base.proofs.Bools.{clash, and_both}
use Rattle.guard.specs.Signed.{signed, lowest, highest}
use Rattle.arguments.specs.declared.Kind.{Kind}
use Rattle.arguments.specs.declared.Kind.TheVariants.{Cells, Ends}
use Rattle.arguments.specs.declared.NoWord.{NoWord}
use Rattle.arguments.specs.Kinds.{largest}
use Rattle.arguments.specs.Readings.{minus, negative, negated, upwards, downwards, reading, typed}

-- ---- a minus stands before the number or not

module _ (kind : Kind) (word : List ℕ) where
  read_negative : negative kind word ≡ true → reading kind word ≡ downwards (numeral lowest (drop 1 word))
  unfolding reading
  read_negative e = rw e

  read_other : negative kind word ≡ false → reading kind word ≡ upwards (numeral (largest kind) word)
  unfolding reading
  read_other e = rw e

-- ---- what is known of a word that is a number up to the largest

record UpTo (most : ℕ) (word : List ℕ) (n : ℕ) : Type 0 where
  pub is : n ≡ value word
  pub low : n ≤ most
  pub shows : decimal n ≡ word

abbrev KnownUpTo : ℕ → List ℕ → Result ℕ Misread → Type 0
KnownUpTo most word (Ok n) = UpTo most word n
KnownUpTo most word (Err e) = Unit {0}

known_up_to : (most : ℕ) (word : List ℕ) → KnownUpTo most word (numeral most word)
unfolding numeral
known_up_to most word = go (is_number word) (leb (value word) most) refl refl
  where
    go : (a b : Bool) → is_number word ≡ a → leb (value word) most ≡ b → KnownUpTo most word (cond a (cond b (Ok (value word)) (Err misread.TooLarge)) (Err misread.NoNumber))
    go true true e f = record { is = refl; low = leb-true (value word) most f; shows = one_way word e }
    go true false e f = tt
    go false b e f = tt

-- ---- the word is the number that was typed

not_negative : (n : ℕ) → n ≤ highest → signed n ≡ pos n
unfolding signed
not_negative n h = rw (lt-ltb n (2 ^ 31) (omega (arith, h)))

below_zero : (n : ℕ) → n ≤ lowest → signed (negated n) ≡ neg_ℤ (pos n)
unfolding signed
below_zero zero h = refl
below_zero (suc n) h =
    let e : negated (suc n) ≡ 2 ^ 32 - suc n = omega (arith, h) in
    let f : 2 ^ 32 - suc (2 ^ 32 - suc n) ≡ n = omega (arith, h) in
    rw (e, le-ltb (2 ^ 32 - suc n) (2 ^ 31) (omega (arith, h)), lt-ltb (2 ^ 32 - suc n) (2 ^ 32) (omega (arith, h)), f)

typed_negative : (word : List ℕ) → negative Ends word ≡ true → typed word ≡ neg_ℤ (pos (value (drop 1 word)))
unfolding typed
typed_negative word e = rw e

typed_other : (word : List ℕ) → negative Ends word ≡ false → typed word ≡ pos (value word)
unfolding typed
typed_other word e = rw e

-- a cell is its number, and an end is the number that was typed, "read as a signed 32-bit number"
abbrev IsTyped : Kind → List ℕ → ℕ → Type 0
IsTyped Cells word w = w ≡ value word
IsTyped Ends word w = signed w ≡ typed word

record Known (kind : Kind) (word : List ℕ) (w : ℕ) : Type 0 where
  pub is : IsTyped kind word w
  pub short : length word ≤ 11

abbrev KnownAs : Kind → List ℕ → Result ℕ NoWord → Type 0
KnownAs kind word (Ok w) = Known kind word w
KnownAs kind word (Err none) = Unit {0}

down : (word : List ℕ) → negative Ends word ≡ true → (x : Result ℕ Misread) → KnownUpTo lowest (drop 1 word) x → KnownAs Ends word (downwards x)
unfolding downwards
down word e (Ok n) k =
    record {
      is = below_zero n k.low ∙ rw (typed_negative word e, k.is);
      short = omega (arith, decimal_short n (omega (arith, k.low)), ap length k.shows, length-drop 1 word);
    }
down word e (Err misread.TooLarge) k = tt
down word e (Err misread.NoNumber) k = tt

up : (kind : Kind) (word : List ℕ) → negative kind word ≡ false → (x : Result ℕ Misread) → KnownUpTo (largest kind) word x → KnownAs kind word (upwards x)
unfolding upwards
up Cells word e (Ok n) k =
    record { is = k.is; short = omega (arith, decimal_short n (omega (arith, k.low)), ap length k.shows) }
up Ends word e (Ok n) k =
    record {
      is = not_negative n k.low ∙ rw (typed_other word e, k.is);
      short = omega (arith, decimal_short n (omega (arith, k.low)), ap length k.shows);
    }
up kind word e (Err misread.TooLarge) k = tt
up kind word e (Err misread.NoNumber) k = tt

no_minus : (word : List ℕ) → negative Cells word ≡ true → ⊥
unfolding negative
no_minus word e = clash e refl

known_as : (kind : Kind) (word : List ℕ) → KnownAs kind word (reading kind word)
unfolding reading
known_as kind word = go kind (negative kind word) refl
  where
    go : (kind : Kind) (b : Bool) → negative kind word ≡ b
        → KnownAs kind word (cond b (downwards (numeral lowest (drop 1 word))) (upwards (numeral (largest kind) word)))
    go Cells true e = absurd (no_minus word e)
    go Ends true e = down word e (numeral lowest (drop 1 word)) (known_up_to lowest (drop 1 word))
    go kind false e = up kind word e (numeral (largest kind) word) (known_up_to (largest kind) word)

known : (kind : Kind) (word : List ℕ) {w : ℕ} → reading kind word ≡ Ok w → Known kind word w
known kind word e = subst (KnownAs kind word) e (known_as kind word)

-- every argument that is taken is written as the word that is the number that was typed
pub cell_is_typed : (word : List ℕ) {w : ℕ} → reading Cells word ≡ Ok w → w ≡ value word
cell_is_typed word e = (known Cells word e).is

pub end_is_typed : (word : List ℕ) {w : ℕ} → reading Ends word ≡ Ok w → signed w ≡ typed word
end_is_typed word e = (known Ends word e).is

-- and has at most 11 bytes: so one of which only the first bytes could be read is none, whatever follows
pub word_short : (kind : Kind) (word : List ℕ) {w : ℕ} → reading kind word ≡ Ok w → length word ≤ 11
word_short kind word e = (known kind word e).short

-- ---- every word can be typed

-- a signed number as it is typed
abbrev pub text_of : ℤ → List ℕ
text_of (pos n) = decimal n
text_of (negsuc n) = minus ∷ decimal (suc n)

no_sign : (word : List ℕ) → all_digits word ≡ true → negative Ends word ≡ false
unfolding negative all_digits
no_sign [] h = refl
no_sign (b ∷ bs) h = let d = digit_is b (and_both (is_digit b) (all_digits bs) h).0 in ne_eqb b minus (λ e. omega (arith, d.0, e))

read_decimal : (most n : ℕ) → n ≤ most → numeral most (decimal n) ≡ Ok n
unfolding numeral
read_decimal most n h = rw (decimal_number n, decimal_value n, le-leb n most h)

read_up : (kind : Kind) (n : ℕ) → n ≤ largest kind → negative kind (decimal n) ≡ false → reading kind (decimal n) ≡ Ok n
unfolding upwards
read_up kind n h e = read_other kind (decimal n) e ∙ rw (read_decimal (largest kind) n h)

read_down : (n : ℕ) → n ≤ lowest → reading Ends (minus ∷ decimal n) ≡ Ok (negated n)
unfolding downwards negative
read_down n h = read_negative Ends (minus ∷ decimal n) refl ∙ rw (read_decimal lowest n h)

pub every_cell : (w : ℕ) → w < 2 ^ 32 → reading Cells (decimal w) ≡ Ok w
unfolding negative
every_cell w h = read_up Cells w (omega (arith, h)) refl

pub every_end : (w : ℕ) → w < 2 ^ 32 → reading Ends (text_of (signed w)) ≡ Ok w
unfolding signed
every_end w h = go (ltb w (2 ^ 31)) refl
  where
    go : (b : Bool) → ltb w (2 ^ 31) ≡ b → reading Ends (text_of (cond b (pos w) (sub_ℕ w (2 ^ 32)))) ≡ Ok w
    go true e = read_up Ends w (omega (arith, ltb-true w (2 ^ 31) e)) (no_sign (decimal w) (decimal_digits w))
    go false e =
        let l = ltb-false w (2 ^ 31) e in
        let f : negated (suc (2 ^ 32 - suc w)) ≡ w = omega (arith, l, h) in
        rw (lt-ltb w (2 ^ 32) h) (read_down (suc (2 ^ 32 - suc w)) (omega (arith, l)) ∙ ap (λ (v : ℕ). Ok v) f)
