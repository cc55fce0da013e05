-- Laws of reading a line: how many words it has. Assumes nothing.
use mathlib.Core.Path.{◌≡◌}
use mathlib.Core.List.{List}
use Prim.Native.Nat.{ℕ, ◌+◌, ◌-◌, ◌<◌}
use native.Mathlib.Omega.{arith}
use lib.ListN.{length, take, drop}
use Rattle.base.specs.Words.{words}
use Rattle.sheet.specs.declared.Line.TheVariants as line
use Rattle.sheet.specs.Split.{Ends}
use Rattle.sheet.specs.Sheet.{space, program_line, rule_line, instruction_line, by_words, line_of}
use Rattle.sheet.proofs.Parts.{split_some}

-- the first word, and one from a place up to another
abbrev pub front : List ℕ → (end : ℕ) → List ℕ
front text end = take end text

abbrev pub word : List ℕ → (at end : ℕ) → List ℕ
word text at end = take (end - at) (drop at text)

module _ (text : List ℕ) (first : ℕ) (e : Ends space text 0 first) where
  from_front : words 0 (first - 0) text ≡ front text first
  unfolding words
  from_front = let z : first - 0 ≡ first = omega arith in rw z

  pub one_word : first ≡ length text → program_line (front text first) ≡ line_of text
  unfolding line_of by_words
  one_word l = rw (e.last l, from_front)

  module _ (l : first < length text) (second : ℕ) (f : Ends space text (first + 1) second) where
    pub two_words : second ≡ length text → rule_line (front text first) (word text (first + 1) second) ≡ line_of text
    unfolding words line_of by_words
    two_words m = rw (e.more l, from_front, f.last m)

    module _ (m : second < length text) (third : ℕ) (g : Ends space text (second + 1) third) where
      pub three_words : third ≡ length text → line.Other ≡ line_of text
      unfolding line_of by_words
      three_words n = rw (e.more l, f.more m, g.last n)

      module _ (n : third < length text) (fourth : ℕ) (h : Ends space text (third + 1) fourth) where
        pub four_words : fourth ≡ length text
            → instruction_line (front text first) (word text (first + 1) second) (word text (second + 1) third) (word text (third + 1) fourth)
            ≡ line_of text
        unfolding words line_of by_words
        four_words o = rw (e.more l, from_front, f.more m, g.more n, h.last o)

        pub more_words : fourth < length text → line.Other ≡ line_of text
        unfolding line_of by_words
        more_words o = let s = split_some space (drop (fourth + 1) text) in rw (e.more l, f.more m, g.more n, h.more o, s.2)
