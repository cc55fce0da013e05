-- Document 02, ask 3, "Tell me why I was carried": the reason with its cause, and what the calls answer. All that they are lent they are lent to
-- read. Assumes nothing.
use Rattle.std.specs.Prelude.{ℕ, ◌≡◌, Bool, false, cond, List, eqb, length, Option, Some, None, Result, Ok, Err}
use Rattle.image.specs.declared.refusals.Refusal.{Refusal}
use Rattle.image.specs.declared.refusals.Refusal.TheVariants as refusal
use Rattle.image.specs.declared.refusals.RefusalNumbers.{RefusalNumbers}
use Rattle.image.specs.Refusals.{none, numbers_of, passed, check, after, unless}
use Rattle.image.specs.Image.{count_of}
use Rattle.slot.specs.declared.Group.TheVariants.{Carried}
use Rattle.area.specs.declared.MarkKind.TheVariants.{Write, Read}
use Rattle.area.specs.Layout.{detail_of, in_group}
use Rattle.area.specs.Marks.{raw}
use Rattle.area.specs.Checks.{all_ended}
use Rattle.steps.specs.declared.Reason.{Reason}
use Rattle.steps.specs.declared.Reason.TheVariants as reason
use Rattle.steps.specs.declared.Settled.{Settled}
use Rattle.steps.specs.declared.Settled.TheVariants as settled
use Rattle.steps.specs.declared.Verdict.{Verdict}
use Rattle.steps.specs.declared.Verdict.TheVariants as judged
use Rattle.steps.specs.Answers.{reason_number}
use Rattle.steps.specs.Gathering.{step_refusal}
use Rattle.steps.specs.Settling.{verdict}
use Rattle.causes.specs.declared.answers.Cause.{Cause}
use Rattle.causes.specs.declared.answers.Why.{Why}
use Rattle.causes.specs.declared.answers.Why.TheVariants as why
use Rattle.causes.specs.Causes.{cause_at, waw_cause, raw_cause, war_cause, NamesOne}

-- ---- the reason with its cause

-- "for reason 3 one such pair for RAW and one for WAR"
unfoldable pub explained : Reason → ℕ → ℕ → List ℕ → Why
explained reason.Waw T k a = why.Waw (waw_cause T k a)
explained reason.Raw T k a = why.Raw (raw_cause T k a)
explained reason.RawWithWar T k a = why.RawWithWar (raw_cause T k a) (war_cause T k a)

-- the same of settling's own decision; one that is not to carry has no reason
unfoldable pub explained_by : Settled → ℕ → ℕ → List ℕ → Result Why Refusal
explained_by settled.Committed T k a = Err refusal.Reason
explained_by (settled.Carried reason) T k a = Ok (explained reason T k a)

-- 15, "its detail is not the reason that its slot, the marks and the rule give", also where they give none
unfoldable pub is_reason : Settled → ℕ → Bool
is_reason settled.Committed detail = false
is_reason (settled.Carried reason) detail = eqb detail (reason_number reason)

-- ---- the checks, in their order

-- "as for settling up to 8; 9 while any state is 0 or 1"
unfoldable pub ask_refusal : (image t g a : List ℕ) → ℕ → Result (Unit {0}) Refusal
ask_refusal image t g a k = after (step_refusal image t g a k) (check (all_ended (length t) (count_of image) a) refusal.State passed)

-- "13 this program is not carried"
unfoldable pub carried_refusal : (image t g a : List ℕ) → ℕ → Result (Unit {0}) Refusal
carried_refusal image t g a k = after (ask_refusal image t g a k) (check (in_group Carried (length t) a k) refusal.NotCarried passed)

-- and then 15
unfoldable pub holds_reason : List ℕ → ℕ → ℕ → List ℕ → Bool
holds_reason image T k a = is_reason (verdict image T k a) (detail_of T k a)

unfoldable pub why_refusal : (image t g a : List ℕ) → ℕ → Result (Unit {0}) Refusal
why_refusal image t g a k = after (carried_refusal image t g a k) (check (holds_reason image (length t) k a) refusal.Reason passed)

-- ---- what the call answers

unfoldable pub why_answer : (image t g a : List ℕ) → ℕ → Result Why Refusal
why_answer image t g a k = unless (why_refusal image t g a k) Err (explained_by (verdict image (length t) k a) (length t) k a)

-- the same where the checks up to 13 have been made: the decision's reason with its cause, or 15
unfoldable pub answer_for : Settled → ℕ → ℕ → List ℕ → Result Why Refusal
answer_for v T k a = cond (is_reason v (detail_of T k a)) (explained_by v T k a) (Err refusal.Reason)

-- The contract of the call.
pub record WhySays (image t g a : List ℕ) (k : ℕ) (r : Result Why Refusal) : Type 0 where
  pub answer : r ≡ why_answer image t g a k

-- The same where the checks have been made.
pub record Explains (image t a : List ℕ) (k : ℕ) (r : Result Why Refusal) : Type 0 where
  pub answer : r ≡ answer_for (verdict image (length t) k a) (length t) k a

-- The numbers of an answer: "reasons 1 and 2 leave the war pair 0"; a refusal leaves all others 0.
pub record WhyNumbers : Type 0 where
  pub refusal : RefusalNumbers
  pub reason : ℕ
  pub cell : ℕ
  pub program : ℕ
  pub war_cell : ℕ
  pub war_program : ℕ

abbrev pub numbers_for : Reason → (cause war : Cause) → WhyNumbers
numbers_for reason cause war =
    record {
      refusal = none;
      reason = reason_number reason;
      cell = cause.cell;
      program = cause.program;
      war_cell = war.cell;
      war_program = war.program;
    }

abbrev pub no_cause : Cause
no_cause = record { cell = 0; program = 0 }

abbrev pub no_reason : Refusal → WhyNumbers
no_reason r = record { refusal = numbers_of r; reason = 0; cell = 0; program = 0; war_cell = 0; war_program = 0 }

abbrev pub numbers_of_why : Result Why Refusal → WhyNumbers
numbers_of_why (Err r) = no_reason r
numbers_of_why (Ok (why.Waw cause)) = numbers_for reason.Waw cause no_cause
numbers_of_why (Ok (why.Raw cause)) = numbers_for reason.Raw cause no_cause
numbers_of_why (Ok (why.RawWithWar cause war)) = numbers_for reason.RawWithWar cause war

-- ---- before whom a program comes

-- A program that read a cell as it was, while an earlier program stores it, comes before that program: RAW, with its cause. Rule 2 commits such a
-- program where it has neither WAW nor WAR.
unfoldable pub before_of : ℕ → ℕ → List ℕ → Option Cause
before_of T k a = cond (raw T k a) (Some (raw_cause T k a)) None

unfoldable pub before_answer : (image t g a : List ℕ) → ℕ → Result (Option Cause) Refusal
before_answer image t g a k = unless (ask_refusal image t g a k) Err (Ok (before_of (length t) k a))

-- The contract of the call.
pub record BeforeSays (image t g a : List ℕ) (k : ℕ) (r : Result (Option Cause) Refusal) : Type 0 where
  pub answer : r ≡ before_answer image t g a k

-- ---- what the functions need and leave

-- the reason with its cause, from the cells that settling found
unfoldable pub told_by : Verdict → ℕ → List ℕ → Result Why Refusal
told_by judged.Commit T a = Err refusal.Reason
told_by (judged.Waw cell) T a = Ok (why.Waw (cause_at Write T cell a))
told_by (judged.Raw cell) T a = Ok (why.Raw (cause_at Write T cell a))
told_by (judged.RawWithWar cell other) T a = Ok (why.RawWithWar (cause_at Write T cell a) (cause_at Read T other a))

-- each of these cells has a mark that names somebody
abbrev pub NamesAll : Verdict → ℕ → List ℕ → Type 0
NamesAll judged.Commit T a = Unit {0}
NamesAll (judged.Waw cell) T a = NamesOne Write T cell a
NamesAll (judged.Raw cell) T a = NamesOne Write T cell a
NamesAll (judged.RawWithWar cell other) T a = NamesOne Write T cell a × NamesOne Read T other a
