-- The checks of the call for the next image: what no refusal shows, and what the call answers and leaves. Assumes nothing.
use mathlib.Core.Path.{◌≡◌, refl, sym, ap, ◌∙◌}
use mathlib.Core.List.{List}
use Prim.Native.Nat.{ℕ, ◌+◌, ◌≤◌}
use native.Mathlib.Omega.{arith}
use lib.Dec.{leb}
use lib.ListN.{length}
use borrow.Author.Tests.{leb-true}
use Rattle.std.specs.Prelude.{Ok, Err}
use Rattle.image.specs.Limits.{max_programs}
use Rattle.image.specs.declared.refusals.Refusal.{Refusal}
use Rattle.image.specs.declared.refusals.Refusal.TheVariants as refusal
use Rattle.image.specs.Refusals.{passed}
use Rattle.image.specs.Image.{count_of, refusal_of, fresh_refusal_of}
use Rattle.image.proofs.Refusing.{none_fails, none_after, passed_given, first_refuses, refused_as_lem, done_as}
use Rattle.area.specs.Checks.{call_refusal, ended_refusal, Checked}
use Rattle.area.proofs.Checks.{checked}
use Rattle.text.specs.Writing.{Wrote}
use Rattle.text.proofs.Writing.{pasted_front}
use Rattle.carry.specs.Next.{carried_count, next_image, lent_refusal, size_refusal, next_refusal, next_answer, next_out, NextSays}

fresh_shows : (fresh : List ℕ) → fresh_refusal_of fresh ≡ passed → refusal_of fresh ≡ passed
unfolding fresh_refusal_of
fresh_shows fresh e = passed_given refusal.Fresh (refusal_of fresh) e

pub lent_shows : (image t g a fresh : List ℕ) → lent_refusal image t g a fresh ≡ passed → Checked image t a × (refusal_of fresh ≡ passed)
unfolding lent_refusal ended_refusal
lent_shows image t g a fresh e =
    let w = none_after (ended_refusal image t g a) _ e in
    (checked image t g a (none_after (call_refusal image t g a) _ w.0).0, fresh_shows fresh w.1)

pub size_shows : (programs : ℕ) (next out : List ℕ) → size_refusal programs next out ≡ passed → (programs ≤ max_programs) × (length next ≤ length out)
unfolding size_refusal
size_shows programs next out e =
    let a = none_fails (leb programs max_programs) refusal.TooMany _ e in
    let b = none_fails (leb (length next) (length out)) refusal.TooShort _ a.1 in
    (leb-true _ _ a.0, leb-true _ _ b.0)

-- ---- the call

module _ (image t g a fresh out : List ℕ) where
  -- what it shows of both images, and how many programs there are
  pub record NextShows : Type 0 where
    pub good : refusal_of image ≡ passed
    pub good_fresh : refusal_of fresh ≡ passed
    pub few_enough : carried_count (length t) (count_of image) a + count_of fresh ≤ max_programs

  pub next_shows : next_refusal image t g a fresh out ≡ passed → NextShows
  unfolding next_refusal
  next_shows e =
      let w = none_after (lent_refusal image t g a fresh) _ e in
      let p = lent_shows image t g a fresh w.0 in
      record { good = p.0.accepted; good_fresh = p.1; few_enough = (size_shows _ _ out w.1).0 }

  pub next_refused : {r : Refusal} → next_refusal image t g a fresh out ≡ Err r → NextSays image t g a fresh out (Err r) out
  unfolding next_answer next_out
  next_refused e = record { answer = refused_as_lem Err _ refl e; bytes = refused_as_lem (λ r. out) _ refl e }

  pub next_done : next_refusal image t g a fresh out ≡ passed → {n : ℕ} {out' : List ℕ} → Wrote out 0 (next_image (length t) image a fresh) out' n
      → NextSays image t g a fresh out (Ok n) out'
  unfolding next_answer next_out
  next_done e w =
      record {
        answer = done_as Err refl e (ap Ok (omega (arith, w.next)));
        bytes = done_as (λ r. out) refl e (w.bytes ∙ pasted_front out (next_image (length t) image a fresh));
      }

  -- the checks of what is lent come first
  pub lent_refused : {r : Refusal} → lent_refusal image t g a fresh ≡ Err r → NextSays image t g a fresh out (Err r) out
  unfolding next_refusal
  lent_refused e = next_refused (sym (first_refuses _ refl e))
