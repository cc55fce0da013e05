-- The offset of each line is the next piece, and at the end where the last program ends. Assumes nothing.
use mathlib.Core.Path.{◌≡◌, refl, ap, ◌∙◌}
use mathlib.Core.List.{List, [], ◌∷◌, ◌++◌, append-nil}
use Prim.Native.Nat.{ℕ, ◌+◌}
use native.Mathlib.Omega.{arith}
use lib.ListN.{length}
use Rattle.text.proofs.Pages.{partly_room, partly_more, partly_end}
use Rattle.writer.specs.Joined.{number}
use Rattle.sheet.specs.declared.Line.{Line}
use Rattle.from_sheet.specs.Passes.{body_of, bodies, offset_at, offsets_from}
use Rattle.from_sheet.proofs.Pieces.{bodies_long, offsets_last, offsets_next}
use Rattle.from_sheet.proofs.writing.put_offsets.Goals as goal

-- what is left to write: with a line there, its offset and what is left behind it; with none, the end of the last program
next_piece : (end : ℕ) {line : Line} {here rest : List Line} → here ≡ line ∷ rest
    → offsets_from end here ≡ offset_at end line ++ offsets_from (end + length (body_of line)) rest
next_piece end e = ap (offsets_from end) e ∙ offsets_next _ _ _

last_piece : (end : ℕ) {here : List Line} → here ≡ [] → offsets_from end here ≡ number end ++ []
last_piece end e = ap (offsets_from end) e ∙ offsets_last end ∙ rw (append-nil (number end))

pub put_offset-end-requires : goal.put_offset-end-requires
put_offset-end-requires c =
    let l = c.loop-line in
    (partly_room l.invariant.0 _ _ (next_piece l.end c.in-Some.ensures.steps) c.requires.0, omega (arith, l.invariant.1))

pub loop-line-preserved : goal.loop-line-preserved
loop-line-preserved c =
    let l = c.loop-line in
    let o = c.put_offset-end.ensures in
    let steps = c.in-Some.ensures.steps in (
      rw o.end (partly_more l.invariant.0 _ _ (next_piece l.end steps) o.put),
      omega (arith, o.end, l.invariant.1, ap (λ (z : List Line). length (bodies z)) steps ∙ bodies_long _ _),
    )

pub put_number-requires : goal.put_number-requires
put_number-requires c = let l = c.loop-line in partly_room l.invariant.0 (number l.end) [] (last_piece l.end c.in-None.ensures.steps.0) c.requires.0

pub returns : goal.returns
returns c = let l = c.loop-line in partly_end (partly_more l.invariant.0 _ [] (last_piece l.end c.in-None.ensures.steps.0) c.put_number.ensures) refl
