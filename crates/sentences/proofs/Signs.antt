-- A word as a signed number in decimal: the two cases that the code tells apart. Assumes nothing.
use Prim.Native.Nat.{ℕ, ◌+◌, ◌-◌, ◌≤◌, ◌<◌, suc}
use mathlib.Core.Path.{◌≡◌}
use mathlib.Core.List.{◌++◌}
use native.Mathlib.Omega.{arith}
use Rattle.text.specs.Ascii.{ascii}
use Rattle.text.specs.Decimal.{decimal}
use Rattle.guard.proofs.Laws.{half, word, not_negative, negative}
use Rattle.sentences.specs.Sentences.{integer, signed_text}

module _ (w : ℕ) where
  pub no_sign : w < half → signed_text w ≡ decimal w
  unfolding signed_text integer
  no_sign h = rw (not_negative w h)

  pub minus_sign : half ≤ w → w < word → signed_text w ≡ ascii "-" ++ decimal (word - w)
  unfolding signed_text integer
  minus_sign h l =
      let e : word - suc w + 1 ≡ word - w = omega arith in
      rw (negative w h l, e)
