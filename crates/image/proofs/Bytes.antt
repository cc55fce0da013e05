-- The bytes of an instruction, tested by the bits of their kinds: those of a byte are 0 exactly where it is below a power of 2, those of four bytes as one
-- number where each byte's are, and a skip that stays in the program is below 32, so that one number and one skip decide. Assumes nothing.
use Prim.Native.Nat.{ℕ, ◌+◌, ◌-◌, ◌*◌, ◌/◌, ◌%◌, ◌^◌, ◌≤◌, ◌<◌, zero, suc}
use mathlib.Core.Path.{◌≡◌, refl, sym, ap, ap₂, ◌∙◌}
use mathlib.Core.Bool.{Bool, true, false, cond, ◌&&◌, and-true}
use native.Mathlib.Nat.{zero-mul, zero-mod, mod-eq_of_lt, div-eq_of_lt}
use native.Mathlib.Omega.{arith}
use Rattle.std.specs.Prelude.{Option, Some, None, Ok, Err}
use Rattle.std.specs.Option.{ok_or, unwrap_or}
use lib.Bits.{bit_and, and_block, and_high, and_mask, and_zero_r}
use lib.Dec.{eqb, ltb, leb}
use lib.ListN.{get_or-eq_default}
use borrow.Author.Tests.{ltb-true, ltb-false, leb-true, eqb-true, lt-ltb, le-ltb, le-leb, eq-eqb, ne_eqb}
use Rattle.base.proofs.Bools.{and_both, both_and, and_false, same_test}
use Rattle.image.specs.declared.refusals.Fault.{Fault}
use Rattle.image.specs.declared.refusals.Fault.TheVariants.{Operation, Register, Unused, Skip}
use Rattle.image.specs.declared.instruction.Row.{Row}
use Rattle.image.specs.Limits.{max_instructions, registers}
use Rattle.image.specs.Refusals.{passes}
use Rattle.image.specs.Instruction.{Kind, register, unused, skip, free, Kinds, kinds, rows, known, kinds_of}
use Rattle.image.specs.Instruction.{register_good, unused_good, skip_good, each, first_bad, fault_of}
use Rattle.image.specs.Bits.{zeros, packed, bits_of, kinds_row, row_of, ByKind}
use Rattle.image.proofs.Refusing.{check_passes}

-- ---- the kinds, as the code has them

-- the kind that has these bits
kind_with : ℕ → Kind
kind_with n = cond (eqb n (zeros register)) register (cond (eqb n (zeros unused)) unused (cond (eqb n (zeros skip)) skip free))

kind_with_lem : (k : Kind) → kind_with (zeros k) ≡ k
unfolding zeros kind_with
kind_with_lem register = refl
kind_with_lem unused = refl
kind_with_lem skip = refl
kind_with_lem free = refl

zeros_same : (k l : Kind) → zeros k ≡ zeros l → k ≡ l
zeros_same k l e = sym (kind_with_lem k) ∙ ap kind_with e ∙ kind_with_lem l

-- the code tested this kind
pub of_this : {kind : ℕ} {test : Kind → Bool} (k : Kind) → kind ≡ zeros k → ByKind kind test (test k)
of_this {test = test} k e = record { of_kind = λ l f. ap test (zeros_same k l (sym e ∙ f)) }

-- it is another kind than the one that the test asks something of
pub of_another : {kind : ℕ} {test : Kind → Bool} (k : Kind) → (kind ≡ zeros k → ⊥) → ((l : Kind) → (l ≡ k → ⊥) → test l ≡ true) → ByKind kind test true
of_another k h asks = record { of_kind = λ l f. sym (asks l (λ e. h (f ∙ ap zeros e))) }

pub asks_register : (byte : ℕ) (k : Kind) → (k ≡ register → ⊥) → register_good k byte ≡ true
unfolding register_good
asks_register byte register h = absurd (h refl)
asks_register byte unused h = refl
asks_register byte skip h = refl
asks_register byte free h = refl

pub asks_unused : (byte : ℕ) (k : Kind) → (k ≡ unused → ⊥) → unused_good k byte ≡ true
unfolding unused_good
asks_unused byte register h = refl
asks_unused byte unused h = absurd (h refl)
asks_unused byte skip h = refl
asks_unused byte free h = refl

pub asks_skip : (i m byte : ℕ) (k : Kind) → (k ≡ skip → ⊥) → skip_good i m k byte ≡ true
unfolding skip_good
asks_skip i m byte register h = refl
asks_skip i m byte unused h = refl
asks_skip i m byte skip h = absurd (h refl)
asks_skip i m byte free h = refl

-- a skip's length as the code compares it
pub lands : (i m byte : ℕ) → i < m → ltb byte (m - i) ≡ leb (i + 1 + byte) m
lands i m byte h =
    same_test
    (λ e. let l = ltb-true byte (m - i) e in le-leb (i + 1 + byte) m (omega arith))
    (λ e. let l = leb-true (i + 1 + byte) m e in lt-ltb byte (m - i) (omega arith))

pub ruleset by_kind = (of_this, of_another, asks_register, asks_unused, asks_skip, lands)

-- ---- the rows

-- an operation that is not known has none
free_kinds : (op : ℕ) → known op ≡ false → kinds_of op ≡ kinds free free free
unfolding known kinds_of rows
free_kinds op e = get_or-eq_default rows (kinds free free free) (ltb-false op 9 e)

some_row : (op : ℕ) → known op ≡ true → Some (kinds_row (kinds_of op)) ≡ row_of op
unfolding row_of
some_row op e = rw e

none_row : (op : ℕ) → known op ≡ false → None ≡ row_of op
unfolding row_of
none_row op e = rw e

-- whether an operation has a row, as the code asks for it
module _ (op : ℕ) {found : Option Row} (is : found ≡ row_of op) where
  pub row_there : {row : Row} → ok_or found Operation ≡ Ok row → (known op ≡ true) × (row ≡ kinds_row (kinds_of op))
  unfolding row_of
  row_there {row} e = go (known op) refl is
    where
      go : (b : Bool) → known op ≡ b → found ≡ cond b (Some (kinds_row (kinds_of op))) None → (known op ≡ true) × (row ≡ kinds_row (kinds_of op))
      go true k f = let h = rw f at e in (k, cc)
      go false k f = let h = rw f at e in absurd (cc)

  pub row_missing : {e : Fault} → ok_or found Operation ≡ Err e → (known op ≡ false) × (e ≡ Operation)
  unfolding row_of
  row_missing {e} g = go (known op) refl is
    where
      go : (b : Bool) → known op ≡ b → found ≡ cond b (Some (kinds_row (kinds_of op))) None → (known op ≡ false) × (e ≡ Operation)
      go true k f = let h = rw f at g in absurd (cc)
      go false k f = let h = rw f at g in (k, cc)

  pub row_or : {row : Row} → row ≡ unwrap_or found (kinds_row (kinds free free free)) → row ≡ kinds_row (kinds_of op)
  unfolding row_of
  row_or {row} e = e ∙ go (known op) refl is
    where
      go : (b : Bool) → known op ≡ b → found ≡ cond b (Some (kinds_row (kinds_of op))) None → unwrap_or found (kinds_row (kinds free free free)) ≡ kinds_row (kinds_of op)
      go true k f = rw f
      go false k f = rw (f, free_kinds op k)

module _ (op : ℕ) {row : Row} (is : row ≡ kinds_row (kinds_of op)) where
  -- each of the three bytes was tested by its kind in the row
  pub each_tested : {a b c : ℕ} {x y z r : Bool} (test : Kind → ℕ → Bool) → ByKind row.a (λ k. test k a) x → ByKind row.b (λ k. test k b) y
      → ByKind row.c (λ k. test k c) z → r ≡ x && y && z → r ≡ each test (kinds_of op) a b c
  each_tested test p q s e =
      e ∙ rw (p.of_kind _ (ap (λ (r : Row). r.a) is), q.of_kind _ (ap (λ (r : Row). r.b) is), s.of_kind _ (ap (λ (r : Row). r.c) is))

  -- and two of them, where the first is wanted that does not pass
  pub first_tested : {a b : ℕ} (c : ℕ) {x y : Bool} {r : ℕ} (test : Kind → ℕ → Bool) → ByKind row.a (λ k. test k a) x → ByKind row.b (λ k. test k b) y
      → r ≡ cond x (cond y c b) a → r ≡ first_bad test (kinds_of op) a b c
  first_tested c test p q e = e ∙ rw (p.of_kind _ (ap (λ (r : Row). r.a) is), q.of_kind _ (ap (λ (r : Row). r.b) is))

pub ruleset by_row = (row_or, first_tested)

-- one name that opens the table and the bits that the code has of it
unfoldable pub table : Unit {0}
unfolding rows known kinds_of zeros bits_of
table = tt

-- "Operations 9 to 255 are bad": they have no row
pub no_bits : (op : ℕ) → 9 ≤ op → 255 ≡ bits_of op
unfolding bits_of known rows
no_bits op h = rw (le-ltb op 9 h)

zeros_byte : (k : Kind) → zeros k < 256
unfolding zeros
zeros_byte register = omega arith
zeros_byte unused = omega arith
zeros_byte skip = omega arith
zeros_byte free = omega arith

-- the bits of an operation, by what is known of it
module _ (op : ℕ) {bits : ℕ} (is : bits ≡ bits_of op) where
  pub bits_known : known op ≡ true → bits ≡ packed 240 (zeros (kinds_of op).a) (zeros (kinds_of op).b) (zeros (kinds_of op).c)
  unfolding bits_of
  bits_known e = is ∙ rw e

  bits_unknown : known op ≡ false → bits ≡ 255
  unfolding bits_of
  bits_unknown e = is ∙ rw e

  pub told_unknown : bits ≡ 255 → known op ≡ false
  told_unknown e = go (known op) refl
    where
      go : (b : Bool) → known op ≡ b → b ≡ false
      go true t = absurd (omega (arith, bits_known t, e))
      go false t = refl

  pub told_known : (bits ≡ 255 → ⊥) → known op ≡ true
  told_known h = go (known op) refl
    where
      go : (b : Bool) → known op ≡ b → b ≡ true
      go true t = refl
      go false t = absurd (h (bits_unknown t))

-- a byte of four that are one number
byte_1 : (w x y z : ℕ) → w < 256 → x < 256 → y < 256 → packed w x y z / 256 % 256 ≡ x
byte_1 w x y z hw hx hy = omega arith

byte_2 : (w x y z : ℕ) → w < 256 → x < 256 → y < 256 → packed w x y z / 65536 % 256 ≡ y
byte_2 w x y z hw hx hy = omega arith

byte_3 : (w x y z : ℕ) → w < 256 → x < 256 → y < 256 → z < 256 → packed w x y z / 16777216 % 256 ≡ z
byte_3 w x y z hw hx hy hz = omega arith

-- the row that the bits are
module _ (op : ℕ) {bits : ℕ} (is : bits ≡ bits_of op) where
  pub no_bits_row : bits ≡ 255 → None ≡ row_of op
  no_bits_row e = none_row op (told_unknown op is e)

  pub bits_row : (bits ≡ 255 → ⊥) → Some (record { a = bits / 256 % 256; b = bits / 65536 % 256; c = bits / 16777216 % 256 }) ≡ row_of op
  bits_row h =
      let e = told_known op is h in
      let is_packed = bits_known op is e in
      let ha = zeros_byte (kinds_of op).a in
      let hb = zeros_byte (kinds_of op).b in
      let hc = zeros_byte (kinds_of op).c in
      rw is_packed
      (rw (byte_1 240 _ _ (zeros (kinds_of op).c) (omega arith) ha hb, byte_2 240 _ _ (zeros (kinds_of op).c) (omega arith) ha hb, byte_3 240 _ _ _ (omega arith) ha hb hc)
      (some_row op e))

-- "6 skipless, 7 skipequal": c alone is a skip's length
skip_last : (i m a b c op : ℕ) → each (skip_good i m) (kinds_of op) a b c ≡ skip_good i m (kinds_of op).c c
unfolding skip_good kinds_of rows
skip_last i m a b c zero = refl
skip_last i m a b c (suc zero) = refl
skip_last i m a b c (suc (suc zero)) = refl
skip_last i m a b c (suc (suc (suc zero))) = refl
skip_last i m a b c (suc (suc (suc (suc zero)))) = refl
skip_last i m a b c (suc (suc (suc (suc (suc zero))))) = refl
skip_last i m a b c (suc (suc (suc (suc (suc (suc zero)))))) = refl
skip_last i m a b c (suc (suc (suc (suc (suc (suc (suc zero))))))) = refl
skip_last i m a b c (suc (suc (suc (suc (suc (suc (suc (suc zero)))))))) = refl
skip_last i m a b c (suc (suc (suc (suc (suc (suc (suc (suc (suc o))))))))) = refl

-- ---- the bits

zero_where : (n : ℕ) {t : Bool} → (n ≡ 0 → t ≡ true) → (t ≡ true → n ≡ 0) → eqb n 0 ≡ t
zero_where n f g = same_test (λ e. f (eqb-true n 0 e)) (λ e. eq-eqb n 0 (g e))

-- what is below a power of 2 has no bit from there on
low_bits : (x j k : ℕ) → x < 2 ^ k → bit_and x (2 ^ (j + k) - 2 ^ k) ≡ 0
low_bits x j k h = and_high x j k ∙ rw (div-eq_of_lt h, zero-mod) (zero-mul (2 ^ k))

-- the bits of a byte's kind decide on all that is asked of it but where a skip lands, and that decides on the bits of a skip
bits_good : (i m x : ℕ) (k : Kind) → x < 256 → m ≤ max_instructions
    → register_good k x && (unused_good k x && skip_good i m k x) ≡ eqb (bit_and x (zeros k)) 0 && skip_good i m k x
unfolding zeros register_good unused_good skip_good
bits_good i m x register h l =
    ap (λ (t : Bool). t && true)
    (sym
    (zero_where (bit_and x (zeros register))
    (λ e. let high : x / 8 % 32 ≡ x / 8 = mod-eq_of_lt (omega arith) in lt-ltb x registers (omega (arith, and_high x 5 3)))
    (λ e. low_bits x 5 3 (ltb-true x registers e))))
bits_good i m x unused h l = rw (and_mask x 8 ∙ mod-eq_of_lt h)
bits_good i m x skip h l =
    same_test
    (λ e. let t = leb-true (i + 1 + x) m e in both_and (eq-eqb (bit_and x (zeros skip)) 0 (low_bits x 3 5 (omega arith))) e)
    (λ e. (and_both (eqb (bit_and x (zeros skip)) 0) (leb (i + 1 + x) m) e).1)
bits_good i m x free h l = rw (and_zero_r x)

-- four bytes as one number, byte by byte
and_packed : (op a b c p q r s : ℕ) → op < 256 → a < 256 → b < 256 → p < 256 → q < 256 → r < 256
    → bit_and (packed op a b c) (packed p q r s) ≡ packed (bit_and op p) (bit_and a q) (bit_and b r) (bit_and c s)
and_packed op a b c p q r s ho ha hb hp hq hr =
    let low : (w x y z : ℕ) → packed w x y z ≡ ((z * 256 + y) * 256 + x) * 256 + w = λ w x y z. omega arith in
    ap₂ bit_and (low op a b c) (low p q r s)
    ∙ and_block 8 ((c * 256 + b) * 256 + a) ((s * 256 + r) * 256 + q) op p ho hp
    ∙ ap (λ (n : ℕ). n * 256 + bit_and op p) (and_block 8 (c * 256 + b) (s * 256 + r) a q ha hq)
    ∙ ap (λ (n : ℕ). (n * 256 + bit_and a q) * 256 + bit_and op p) (and_block 8 c s b r hb hr)
    ∙ sym (low (bit_and op p) (bit_and a q) (bit_and b r) (bit_and c s))

packed_zero : (x y z : ℕ) → eqb (packed 0 x y z) 0 ≡ eqb x 0 && eqb y 0 && eqb z 0
packed_zero x y z =
    zero_where (packed 0 x y z)
    (λ e. both_and (both_and (eq-eqb x 0 (omega arith)) (eq-eqb y 0 (omega arith))) (eq-eqb z 0 (omega arith)))
    (λ e.
    let t = and_both (eqb x 0 && eqb y 0) (eqb z 0) e in
    let u = and_both (eqb x 0) (eqb y 0) t.0 in
    omega (arith, eqb-true x 0 u.0, eqb-true y 0 u.1, eqb-true z 0 t.1))

-- ---- all of an instruction

and_swapped : (a b c d : Bool) → (a && b) && (c && d) ≡ (a && c) && (b && d)
and_swapped true true c d = refl
and_swapped true false c d = sym (and_false c false refl)
and_swapped false b c d = refl

-- two tests of each byte are one
each_both : (f g : Kind → ℕ → Bool) (k : Kinds) (a b c : ℕ) → each f k a b c && each g k a b c ≡ each (λ l x. f l x && g l x) k a b c
each_both f g k a b c =
    and_swapped (f k.a a && f k.b b) (f k.c c) (g k.a a && g k.b b) (g k.c c)
    ∙ ap (λ (t : Bool). t && (f k.c c && g k.c c)) (and_swapped (f k.a a) (f k.b b) (g k.a a) (g k.b b))

-- it is good where each byte is
good_each : (op a b c i m : ℕ)
    → passes (fault_of op a b c i m) ≡ known op && each (λ k x. register_good k x && (unused_good k x && skip_good i m k x)) (kinds_of op) a b c
unfolding fault_of
good_each op a b c i m =
    let k = kinds_of op in
    let all : (Kind → ℕ → Bool) → Bool = λ test. each test k a b c in
    check_passes (known op) Operation _
    ∙ ap (λ (t : Bool). known op && t)
    (check_passes (all register_good) Register _
    ∙ ap (λ (t : Bool). all register_good && t)
    (check_passes (all unused_good) Unused _
    ∙ ap (λ (t : Bool). all unused_good && t) (check_passes (all (skip_good i m)) Skip _ ∙ and-true (all (skip_good i m)))
    ∙ each_both unused_good (skip_good i m) k a b c)
    ∙ each_both register_good (λ l x. unused_good l x && skip_good i m l x) k a b c)

pub unknown_bad : (op a b c i m : ℕ) → known op ≡ false → passes (fault_of op a b c i m) ≡ false
unknown_bad op a b c i m e = good_each op a b c i m ∙ rw e

-- one number of bits and one skip decide
bits_and_skip : (op a b c i m : ℕ) {bits : ℕ} → bits ≡ bits_of op → (bits ≡ 255 → ⊥) → a < 256 → b < 256 → c < 256 → m ≤ max_instructions
    → passes (fault_of op a b c i m) ≡ eqb (bit_and (packed op a b c) bits) 0 && skip_good i m (kinds_of op).c c
unfolding known rows
bits_and_skip op a b c i m is other ha hb hc l =
    let k = kinds_of op in
    let e = told_known op is other in
    let ho : op < 9 = ltb-true op 9 e in
    let bits : Kind → ℕ → Bool = λ l x. eqb (bit_and x (zeros l)) 0 in
    let first : bit_and op 240 ≡ 0 = low_bits op 4 4 (omega arith) in
    good_each op a b c i m
    ∙ rw (
      e,
      bits_known op is e,
      bits_good i m a k.a ha l,
      bits_good i m b k.b hb l,
      bits_good i m c k.c hc l,
      and_packed op a b c 240 (zeros k.a) (zeros k.b) (zeros k.c) (omega arith) ha hb (omega arith) (zeros_byte k.a) (zeros_byte k.b),
      first,
      packed_zero (bit_and a (zeros k.a)) (bit_and b (zeros k.b)) (bit_and c (zeros k.c)),
    )
    (sym (each_both bits (skip_good i m) k a b c) ∙ ap (λ (t : Bool). each bits k a b c && t) (skip_last i m a b c op))

-- the kind of c
bits_c : (op : ℕ) {bits : ℕ} → bits ≡ bits_of op → (bits ≡ 255 → ⊥) → bits / 16777216 % 256 ≡ zeros (kinds_of op).c
bits_c op is other =
    let k = kinds_of op in
    ap (λ (n : ℕ). n / 16777216 % 256) (bits_known op is (told_known op is other))
    ∙ byte_3 240 (zeros k.a) (zeros k.b) (zeros k.c) (omega arith) (zeros_byte k.a) (zeros_byte k.b) (zeros_byte k.c)

-- as the code has them
pub bits_bad : (op a b c i m : ℕ) {bits four : ℕ} → bits ≡ bits_of op → (bits ≡ 255 → ⊥) → a < 256 → b < 256 → c < 256 → m ≤ max_instructions
    → four ≡ packed op a b c → (bit_and four bits ≡ 0 → ⊥) → false ≡ passes (fault_of op a b c i m)
bits_bad op a b c i m is other ha hb hc l e h = sym (bits_and_skip op a b c i m is other ha hb hc l ∙ rw (sym e, ne_eqb _ 0 h))

pub bits_decide : (op a b c i m : ℕ) {bits four : ℕ} {r : Bool} → bits ≡ bits_of op → (bits ≡ 255 → ⊥) → a < 256 → b < 256 → c < 256 → m ≤ max_instructions
    → four ≡ packed op a b c → bit_and four bits ≡ 0 → ByKind (bits / 16777216 % 256) (λ k. skip_good i m k c) r → r ≡ passes (fault_of op a b c i m)
bits_decide op a b c i m is other ha hb hc l e z k =
    k.of_kind _ (bits_c op is other) ∙ sym (bits_and_skip op a b c i m is other ha hb hc l ∙ rw (sym e, eq-eqb _ 0 z))

pub ruleset by_bits = (told_unknown, unknown_bad, bits_bad)
