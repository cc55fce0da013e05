-- Laws of a text with numbers in it. Assumes nothing.
use mathlib.Core.Path.{◌≡◌, refl, ap, ◌∙◌}
use mathlib.Core.Bool.{Bool, true, false, cond}
use mathlib.Core.List.{List, [], ◌∷◌, ◌++◌, append_assoc, append-nil}
use Prim.Native.Nat.{ℕ, zero, suc, ◌+◌, ◌-◌, ◌*◌, ◌≤◌, ◌<◌}
use native.Mathlib.Omega.{arith}
use native.Mathlib.Numerals.{add-one}
use Rattle.std.proofs.lemmas.Grind.{common_steps}
use lib.Dec.{eqb}
use lib.ListN.{length, get_or, drop, length-append, drop_of_length-le}
use lib.Seq.{drop-cons}
use borrow.Author.Tests.{ne_eqb}
use Rattle.std.proofs.lemmas.List.{nil_from_length}
use Rattle.text.specs.Decimal.{decimal}
use Rattle.text.specs.Filled.{hash, shown, left, filled, texts}
use Rattle.text.proofs.Decimals.{decimal_short}

-- ---- one byte: a # while there is a number, and any other

module _ (b : ℕ) (ns : List ℕ) where
  pub shown_number : b ≡ hash → 0 < length ns → (shown b ns ≡ decimal (get_or ns 0 0)) × (left b ns ≡ drop 1 ns)
  unfolding shown left
  shown_number e h = go ns h
    where
      go : (ns : List ℕ) → 0 < length ns → (shown b ns ≡ decimal (get_or ns 0 0)) × (left b ns ≡ drop 1 ns)
      go [] h = absurd (omega arith)
      go (n ∷ ns) h = (rw e, rw e)

  pub shown_last : length ns ≡ 0 → (shown b ns ≡ b ∷ []) × (left b ns ≡ ns)
  unfolding shown left
  shown_last h = let f : ns ≡ [] = nil_from_length ns h in rw f (refl, refl)

  pub shown_itself : (b ≡ hash → ⊥) → (shown b ns ≡ b ∷ []) × (left b ns ≡ ns)
  unfolding shown left
  shown_itself h = go ns
    where
      go : (ns : List ℕ) → (shown b ns ≡ b ∷ []) × (left b ns ≡ ns)
      go [] = (refl, refl)
      go (n ∷ ns) = let f = ne_eqb b hash h in (rw f, rw f)

pub ruleset showing = (common_steps, shown_number, shown_last, shown_itself)

-- ---- a text that has come to its byte k

pub filled_end : (t ns : List ℕ) (k : ℕ) → length t ≤ k → filled (drop k t) ns ≡ []
unfolding filled
filled_end t ns k h = rw (drop_of_length-le t h)

pub filled_next : (t ns : List ℕ) (k : ℕ) → k < length t → filled (drop k t) ns ≡ shown (get_or t k 0) ns ++ filled (drop (k + 1) t) (left (get_or t k 0) ns)
unfolding filled
filled_next t ns k h = rw (drop-cons t k 0 h, add-one k)

-- ---- how long a text is with its numbers, which have 32 bits: at most 10 digits for each #

abbrev pub Words : List ℕ → Type 0
Words [] = Unit {0}
Words (n ∷ ns) = (n < 4294967296) × Words ns

shown_short : (b : ℕ) (ns : List ℕ) → Words ns → (length (shown b ns) + 10 * length (left b ns) ≤ 1 + 10 * length ns) × Words (left b ns)
unfolding shown left
shown_short b [] h = (omega arith, tt)
shown_short b (n ∷ ns) h = go (eqb b hash)
  where
    go : (x : Bool) → (length (cond x (decimal n) (b ∷ [])) + 10 * length (cond x ns (n ∷ ns)) ≤ 1 + 10 * length (n ∷ ns)) × Words (cond x ns (n ∷ ns))
    go true = (omega (arith, decimal_short n h.0), h.1)
    go false = (omega arith, h)

pub filled_short : (t ns : List ℕ) → Words ns → length (filled t ns) ≤ length t + 10 * length ns
unfolding filled
filled_short [] ns h = omega arith
filled_short (b ∷ bs) ns h =
    let s = shown_short b ns h in
    rw length-append (omega (arith, s.0, filled_short bs (left b ns) s.1))

-- ---- texts one behind the other

pub texts_none : (f : ℕ → List ℕ) → texts f 0 ≡ []
unfolding texts
texts_none f = refl

pub texts_more : (f : ℕ → List ℕ) (k : ℕ) → texts f (k + 1) ≡ texts f k ++ f k
unfolding texts
texts_more f k = rw (add-one k)

pub length_texts : (f : ℕ → List ℕ) (k : ℕ) → length (texts f (k + 1)) ≡ length (texts f k) + length (f k)
length_texts f k = rw (texts_more f k, length-append)

pub texts_short : (f : ℕ → List ℕ) (n most : ℕ) → ((k : ℕ) → k < n → length (f k) ≤ most) → length (texts f n) ≤ n * most
unfolding texts
texts_short f zero most h = omega arith
texts_short f (suc n) most h = rw length-append (omega (arith, h n (omega arith), texts_short f n most (λ k l. h k (omega arith))))

-- those below n begin with those below k
rest_of : (f : ℕ → List ℕ) (k j : ℕ) → (rest : List ℕ) × (texts f (k + j) ≡ texts f k ++ rest)
unfolding texts
rest_of f k zero = ([], let e : k + 0 ≡ k = omega arith in rw (e, append-nil))
rest_of f k (suc j) =
    let t = rest_of f k j in
    let e : k + suc j ≡ suc (k + j) = omega arith in
    (t.0 ++ f (k + j), rw (e, t.1, append_assoc))

-- a turn of a loop that puts them: behind those below k there is room for text k
pub texts_fit : (f : ℕ → List ℕ) (k n : ℕ) → k < n → length (texts f k) + length (f k) ≤ length (texts f n)
texts_fit f k n h =
    let t = rest_of f (k + 1) (n - (k + 1)) in
    let e : n ≡ k + 1 + (n - (k + 1)) = omega arith in
    omega (arith, ap length (ap (texts f) e ∙ t.1), length-append (texts f (k + 1)) t.0, length_texts f k)

pub ruleset turns = (common_steps, texts_none, texts_more)
