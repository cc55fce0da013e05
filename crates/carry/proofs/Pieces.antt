-- The next image is put on a page piece by piece: the header, the ends of both sources' programs, the bytes of both. Assumes nothing.
use mathlib.Core.Path.{◌≡◌, refl, sym, ◌∙◌}
use mathlib.Core.List.{List, [], ◌++◌, append-nil}
use Prim.Native.Nat.{ℕ, ◌≤◌}
use native.Mathlib.Omega.{arith}
use lib.ListN.{length}
use Rattle.std.proofs.lemmas.Grind.{common_steps}
use Rattle.text.specs.Writing.{Wrote, PageSays}
use Rattle.text.specs.declared.page.Page.{Page}
use Rattle.text.specs.Paper.{Put, Fits}
use Rattle.text.proofs.Pages.{page_bytes, Partly, partly_none, partly_room, partly_more, partly_end}
use Rattle.text.proofs.Writing.{pasted_front}
use Rattle.image.specs.Limits.{head_bytes}
use Rattle.image.specs.Image.{rule_byte}
use Rattle.writer.specs.Joined.{joined}
use Rattle.writer.specs.Writing.{header, Ended, EndRoom}
use Rattle.carry.specs.declared.Chosen.{Chosen}
use Rattle.carry.specs.Sources.{Sources, old_programs, new_programs, image_from}
use Rattle.carry.proofs.Sources.{bytes_behind, new_ends, ends_behind, from_length, from_small, from_pieces}

-- a page is written at the front of what is lent
pub wrote_page : {w out out' : List ℕ} {r : ℕ} → PageSays w out r out' → Wrote out 0 w out' r
wrote_page {w} {out} p = record { bytes = page_bytes p ∙ sym (pasted_front out w); long = p.long; next = omega (arith, p.answer) }

-- the header is put: there is room for all of it, and the ends and the bytes are still to come
pub record Begun (c : Chosen) (s : Sources c) (p q : Page) : Type 0 where
  pub room : Fits p (image_from c)
  pub headed : Partly p (image_from c) q (ends_behind s)

pub begun : {c : Chosen} (s : Sources c) {p q : Page} {out : List ℕ} {rule : ℕ} → p.out.now ≡ out → p.at ≡ 0 → length (image_from c) ≤ length out
    → Put p (header c.programs rule) q → rule ≡ rule_byte c.fresh.now → Begun c s p q
begun s {p} same front fits h rule_is =
    record {
      room = record { fits = rw (same, front) (omega arith) };
      headed = partly_more (partly_none p _) _ _ (from_pieces s) (rw rule_is at h);
    }

module _ {c : Chosen} {s : Sources c} {p q : Page} (b : Begun c s p q) where
  module _ {first : ℕ} (first_is : first ≡ head_bytes c.programs) {q2 : Page} {middle : ℕ} (e : Ended q first (old_programs c) q2 middle) where
    old_ended : Partly p (image_from c) q2 (new_ends s ++ bytes_behind s)
    old_ended = partly_more b.headed _ _ refl (rw first_is at e.put)

    pub new_ends_room : EndRoom q2 middle (new_programs c)
    new_ends_room =
        record {
          fits = rw (e.end_is, first_is) (partly_room old_ended _ (bytes_behind s) refl b.room);
          small = omega (arith, e.end_is, from_length s, from_small s);
        }

    module _ {q3 : Page} {end : ℕ} (f : Ended q2 middle (new_programs c) q3 end) where
      ended : Partly p (image_from c) q3 (bytes_behind s)
      ended = partly_more old_ended _ _ refl (rw (e.end_is, first_is) at f.put)

      pub old_bytes_room : Fits q3 (joined (old_programs c))
      old_bytes_room = partly_room ended _ (joined (new_programs c)) refl b.room

      module _ {q4 : Page} (x : Put q3 (joined (old_programs c)) q4) where
        old_bytes : Partly p (image_from c) q4 (joined (new_programs c))
        old_bytes = partly_more ended _ _ refl x

        pub new_bytes_room : Fits q4 (joined (new_programs c))
        new_bytes_room = partly_room old_bytes _ [] (sym (append-nil _)) b.room

        pub all_put : {r : Page} → Put q4 (joined (new_programs c)) r → Put p (image_from c) r
        all_put y = partly_end (partly_more old_bytes _ [] (sym (append-nil _)) y) refl

-- the header, and the ends that stand behind it
pub ruleset first_pieces = (common_steps, from_length, from_small, from_pieces)
