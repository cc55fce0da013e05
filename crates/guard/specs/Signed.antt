-- Document 02, ask 5: "read as a signed 32-bit number". It is said here and nowhere else. Assumes nothing.
use Rattle.std.specs.Prelude.{ℕ, ◌^◌, cond, ℤ, pos, nat_lt}
use Rattle.std.proofs.Math.IntN.{sub_ℕ}

-- two's complement: a word below 2^31 is itself, any other is itself less 2^32
unfoldable pub signed : ℕ → ℤ
signed w = cond (nat_lt w (2 ^ 31)) (pos w) (sub_ℕ w (2 ^ 32))

-- the smallest number and the largest, as words
abbrev pub lowest : ℕ
lowest = 2147483648

abbrev pub highest : ℕ
highest = 2147483647
