-- At each return the separators found so far say how many words there are. Assumes nothing.
use mathlib.Core.Path.{◌≡◌, ◌∙◌}
use Prim.Native.Nat.{ℕ, ◌≤◌, ◌<◌}
use native.Mathlib.Omega.{arith}
use Rattle.sheet.proofs.ReadingLines.{one_word, two_words, three_words, four_words, more_words}
use Rattle.sheet.proofs.reading.line_of.Goals as goal

less : {a b : ℕ} → a ≤ b → (a ≡ b → ⊥) → a < b
less h k = omega arith

pub returns-then-first-text : goal.returns-then-first-text
returns-then-first-text c = c.program_line.ensures ∙ one_word _ _ c.part_end-first.ensures c.if-first-text.true

pub returns-then-second-text : goal.returns-then-second-text
returns-then-second-text c =
    let first = c.part_end-first.ensures in
    c.rule_line.ensures ∙ two_words _ _ first (less first.within c.if-first-text.false) _ c.part_end-second.ensures c.if-second-text.true

pub returns-then-third-text : goal.returns-then-third-text
returns-then-third-text c =
    let first = c.part_end-first.ensures in
    let second = c.part_end-second.ensures in
    three_words _ _ first (less first.within c.if-first-text.false) _ second (less second.within c.if-second-text.false)
    _ c.part_end-third.ensures c.if-third-text.true

pub returns-then-fourth-text : goal.returns-then-fourth-text
returns-then-fourth-text c =
    let first = c.part_end-first.ensures in
    let second = c.part_end-second.ensures in
    let third = c.part_end-third.ensures in
    let fourth = c.part_end-fourth.ensures in
    more_words _ _ first (less first.within c.if-first-text.false) _ second (less second.within c.if-second-text.false)
    _ third (less third.within c.if-third-text.false) _ fourth (less fourth.within c.if-fourth-text.true)

pub returns : goal.returns
returns c =
    let first = c.part_end-first.ensures in
    let second = c.part_end-second.ensures in
    let third = c.part_end-third.ensures in
    c.instruction_line.ensures
    ∙ four_words _ _ first (less first.within c.if-first-text.false) _ second (less second.within c.if-second-text.false)
    _ third (less third.within c.if-third-text.false) _ c.part_end-fourth.ensures c.if-fourth-text.false
