-- Laws of writing one thing after another. Assumes nothing.
use mathlib.Core.Path.{◌≡◌, refl, sym, ap, ◌∙◌}
use mathlib.Core.List.{List, [], ◌++◌, append_assoc, append-nil}
use Prim.Native.Nat.{ℕ, ◌+◌, ◌≤◌}
use native.Mathlib.Omega.{arith}
use Rattle.std.proofs.lemmas.Grind.{common_steps}
use lib.ListN.{length, take, drop, length-append, length-drop, take-append-drop}
use lib.Seq.{length-take-le, take_at, drop_at, drop-drop}
use Rattle.text.specs.Writing.{pasted, Wrote, Room, PageSays}

module _ (d : List ℕ) (at : ℕ) (w : List ℕ) (room : at + length w ≤ length d) where
  head_length : length (take at d ++ w) ≡ at + length w
  head_length = rw (length-append, length-take-le at d (omega arith))

  pasted_more : (x : List ℕ) → at + length w + length x ≤ length d → pasted (pasted d at w) (at + length w) x ≡ pasted d at (w ++ x)
  unfolding pasted
  pasted_more x h =
      let rest : List ℕ = drop (at + length w) d in
      let a : take (at + length w) (take at d ++ w ++ rest) ≡ take at d ++ w = take_at (take at d ++ w) rest (at + length w) head_length in
      let b : drop (at + length w + length x) (take at d ++ w ++ rest) ≡ drop (at + length w + length x) d =
      sym (drop-drop (length x) (at + length w) (take at d ++ w ++ rest))
      ∙ ap (drop (length x)) (drop_at (take at d ++ w) rest (at + length w) head_length)
      ∙ drop-drop (length x) (at + length w) d in
      let e : at + length (w ++ x) ≡ at + length w + length x = rw length-append (omega arith) in
      rw (a, b, e, append_assoc (take at d) w x)

pasted_none : (d : List ℕ) (at : ℕ) → pasted d at [] ≡ d
unfolding pasted
pasted_none d at = let e : at + 0 ≡ at = omega arith in rw (e, append-nil, take-append-drop)

pub pasted_front : (d w : List ℕ) → pasted d 0 w ≡ w ++ drop (length w) d
unfolding pasted
pasted_front d w = let e : 0 + length w ≡ length w = omega arith in rw e

-- nothing; one after another
pub wrote_none : (d : List ℕ) (at : ℕ) → Wrote d at [] d at
wrote_none d at = record { bytes = sym (pasted_none d at); long = refl; next = omega arith }

pub wrote_more : {a : List ℕ} {at : ℕ} {w b : List ℕ} {r : ℕ} {x c : List ℕ} {s : ℕ} → Wrote a at w b r → Wrote b r x c s
    → at + length w + length x ≤ length a → Wrote a at (w ++ x) c s
wrote_more {a} {at} {w} {b} {r} {x} {c} {s} h k room =
    record {
      bytes = k.bytes ∙ rw (h.bytes, h.next) (pasted_more a at w (omega arith) x room);
      long = k.long ∙ h.long;
      next = rw length-append (omega (arith, h.next, k.next));
    }

-- what stands up to the place after it
pub wrote_up_to : {d : List ℕ} {at : ℕ} {w out : List ℕ} {r : ℕ} → Room d at w → Wrote d at w out r → take r out ≡ take at d ++ w
unfolding pasted
wrote_up_to {d} {at} {w} {out} {r} room h =
    rw (h.bytes, h.next) (take_at (take at d ++ w) (drop (at + length w) d) (at + length w) (head_length d at w room.fits))

-- ---- room: what fits whole fits piece by piece

module _ {out : List ℕ} {at : ℕ} (w x : List ℕ) (r : Room out at (w ++ x)) where
  pub room_first : Room out at w
  room_first = record { fits = omega (arith, r.fits, length-append w x) }

  pub room_then : {b : List ℕ} {next : ℕ} → Wrote out at w b next → Room b next x
  room_then h = record { fits = omega (arith, r.fits, length-append w x, h.long, h.next) }

  pub wrote_both : {b c : List ℕ} {next end : ℕ} → Wrote out at w b next → Wrote b next x c end → Wrote out at (w ++ x) c end
  wrote_both h k = wrote_more h k (omega (arith, r.fits, length-append w x))

-- a page is written at the front; it is not longer than there is
pub page_says : {page out out' : List ℕ} {r : ℕ} → Wrote out 0 page out' r → PageSays page out r out'
page_says {page} {out} {out'} {r} w =
    let e : out' ≡ page ++ drop (length page) out = w.bytes ∙ pasted_front out page in
    let n : r ≡ length page = omega (arith, w.next) in
    let l : length page ≤ length out =
    omega (arith, w.long, ap length e, length-append page (drop (length page) out), length-drop (length page) out) in
    record {
      answer = n;
      fits = omega (arith, w.long);
      front = rw (n, e) (take_at page (drop (length page) out) (length page) refl);
      behind = λ i h. rw e (grind (arith, common_steps));
      long = w.long;
    }

-- ---- a text that is written piece by piece: what stands there, and the rest, which is still to come

pub record Partly (d : List ℕ) (at : ℕ) (whole out : List ℕ) (to : ℕ) (rest : List ℕ) : Type 0 where
  pub so_far : List ℕ
  pub wrote : Wrote d at so_far out to
  pub is : whole ≡ so_far ++ rest

pub partly_none : (d : List ℕ) (at : ℕ) (whole : List ℕ) → Partly d at whole d at whole
partly_none d at whole = record { so_far = []; wrote = wrote_none d at; is = refl }

module _ {d : List ℕ} {at : ℕ} {whole out : List ℕ} {to : ℕ} {rest : List ℕ} (p : Partly d at whole out to rest) where
  pub partly_end : rest ≡ [] → Wrote d at whole out to
  partly_end e = let f : whole ≡ p.so_far = p.is ∙ rw e (append-nil p.so_far) in rw f p.wrote

  -- the next piece is x
  module _ (room : Room d at whole) (x rest' : List ℕ) (e : rest ≡ x ++ rest') where
    pub partly_room : Room out to x
    partly_room = room_first x rest' (room_then p.so_far (x ++ rest') (rw (p.is, e) at room) p.wrote)

    pub partly_more : {out' : List ℕ} {to' : ℕ} → Wrote out to x out' to' → Partly d at whole out' to' rest'
    partly_more w =
        let f : whole ≡ (p.so_far ++ x) ++ rest' = p.is ∙ rw e (sym (append_assoc p.so_far x rest')) in
        record { so_far = p.so_far ++ x; wrote = wrote_both p.so_far x (room_first (p.so_far ++ x) rest' (rw f at room)) p.wrote w; is = f }
