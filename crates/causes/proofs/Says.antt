-- What the calls say, from what their parts did. Assumes nothing.
use Prim.Native.Nat.{ℕ}
use mathlib.Core.Path.{◌≡◌, refl, sym, ap, ◌∙◌}
use mathlib.Core.List.{List}
use lib.ListN.{length}
use borrow.Author.Tests.{eq-eqb, ne_eqb}
use Rattle.std.specs.Prelude.{Option, Result, Ok, Err}
use Rattle.image.specs.declared.refusals.Refusal.{Refusal}
use Rattle.image.specs.declared.refusals.Refusal.TheVariants as refusal
use Rattle.image.specs.Refusals.{passed}
use Rattle.image.proofs.Refusing.{first_refuses, unless_refused, unless_done, last_decides}
use Rattle.area.specs.Layout.{detail_of}
use Rattle.steps.specs.declared.Reason.TheVariants.{Waw, Raw, RawWithWar}
use Rattle.steps.specs.declared.Settled.{Settled}
use Rattle.steps.specs.declared.Settled.TheVariants.{Committed, Carried}
use Rattle.steps.specs.declared.Verdict.{Verdict}
use Rattle.steps.specs.Answers.{reason_number, detail_of_settled}
use Rattle.steps.specs.Settling.{verdict, with_cells, settled_by}
use Rattle.steps.proofs.Says.{cells_dropped}
use Rattle.causes.specs.Causes.{cause_of}
use Rattle.causes.specs.declared.answers.Cause.{Cause}
use Rattle.causes.specs.declared.answers.Why.{Why}
use Rattle.causes.specs.Why.{explained, is_reason, explained_by, told_by, answer_for, ask_refusal}
use Rattle.causes.specs.Why.{carried_refusal, holds_reason, why_refusal, why_answer, WhySays, Explains}
use Rattle.causes.specs.Why.{before_of, before_answer, BeforeSays}

-- ---- why

-- the reason with its cause, from the cells that settling found
told_same : (v : Settled) (T k : ℕ) (a : List ℕ) → told_by (with_cells v T k a) T a ≡ explained_by v T k a
unfolding told_by with_cells explained_by explained cause_of
told_same Committed T k a = refl
told_same (Carried Waw) T k a = refl
told_same (Carried Raw) T k a = refl
told_same (Carried RawWithWar) T k a = refl

-- the detail is not the decision's, or it is; a decision to commit has a detail, but no reason
not_the_reason : (v : Settled) (T k : ℕ) (a : List ℕ) → (detail_of T k a ≡ detail_of_settled v → ⊥) → Err refusal.Reason ≡ answer_for v T k a
unfolding answer_for is_reason
not_the_reason Committed T k a h = refl
not_the_reason (Carried reason) T k a h = rw (ne_eqb (detail_of T k a) (reason_number reason) h)

the_reason : (v : Settled) (T k : ℕ) (a : List ℕ) → detail_of T k a ≡ detail_of_settled v → explained_by v T k a ≡ answer_for v T k a
unfolding answer_for is_reason explained_by
the_reason Committed T k a e = refl
the_reason (Carried reason) T k a e = rw (eq-eqb (detail_of T k a) (reason_number reason) e)

-- j is what settling found, d the detail that its decision leaves
module _ (image t a : List ℕ) (k : ℕ) (j : Verdict) (found : j ≡ with_cells (verdict image (length t) k a) (length t) k a) (d : ℕ)
    (leaves : d ≡ detail_of_settled (settled_by j)) where
  detail_left : d ≡ detail_of_settled (verdict image (length t) k a)
  detail_left = leaves ∙ ap detail_of_settled (ap settled_by found ∙ cells_dropped image a (length t) k)

  pub other_detail : (detail_of (length t) k a ≡ d → ⊥) → Explains image t a k (Err refusal.Reason)
  other_detail h = record { answer = not_the_reason (verdict image (length t) k a) (length t) k a (λ e. h (e ∙ sym detail_left)) }

  pub same_detail : detail_of (length t) k a ≡ d → {x : Result Why Refusal} → x ≡ told_by j (length t) a → Explains image t a k x
  same_detail e f =
      record {
        answer =
            f
            ∙ (ap (λ (v : Verdict). told_by v (length t) a) found
            ∙ (told_same (verdict image (length t) k a) (length t) k a ∙ the_reason (verdict image (length t) k a) (length t) k a (e ∙ detail_left)));
      }

module _ (image t g a : List ℕ) (k : ℕ) where
  pub why_refused : {r : Refusal} → carried_refusal image t g a k ≡ Err r → WhySays image t g a k (Err r)
  unfolding why_answer why_refusal
  why_refused e = record { answer = sym (unless_refused _ Err _ (sym (first_refuses _ refl e))) }

  -- where the checks up to 13 pass, 15 decides
  pub why_done : carried_refusal image t g a k ≡ passed → {x : Result Why Refusal} → Explains image t a k x → WhySays image t g a k x
  unfolding why_answer why_refusal holds_reason answer_for
  why_done e w =
      record {
        answer =
            w.answer
            ∙ last_decides (carried_refusal image t g a k) refusal.Reason (holds_reason image (length t) k a) Err
            (explained_by (verdict image (length t) k a) (length t) k a) e;
      }

  -- ---- before whom

  pub before_refused : {r : Refusal} → ask_refusal image t g a k ≡ Err r → BeforeSays image t g a k (Err r)
  unfolding before_answer
  before_refused e = record { answer = sym (unless_refused _ Err _ e) }

  pub before_done : ask_refusal image t g a k ≡ passed → {x : Option Cause} → x ≡ before_of (length t) k a → BeforeSays image t g a k (Ok x)
  unfolding before_answer
  before_done e f = record { answer = ap Ok f ∙ sym (unless_done _ Err _ e) }
