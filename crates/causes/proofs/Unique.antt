-- No second result: for each call, two outcomes that meet its contract at the same arguments look the same. Nothing that is lent may change.
-- Assumes nothing.
use Rattle.base.specs.Unique.{Unique}
use Rattle.std.specs.Prelude.{Option, Result}
use Rattle.image.specs.declared.refusals.Refusal.{Refusal}
use Rattle.causes.specs.declared.answers.Cause.{Cause}
use Rattle.causes.specs.declared.answers.Why.{Why}
use Rattle.causes.proofs.why.Kinds as why_kinds
use Rattle.causes.proofs.why.Reads as why
use Rattle.causes.proofs.why_checked.Kinds as why_checked_kinds
use Rattle.causes.proofs.why_checked.Reads as why_checked
use Rattle.causes.proofs.comes_before.Kinds as comes_before_kinds
use Rattle.causes.proofs.comes_before.Reads as comes_before

pub why_unique : Unique {A = Result Why Refusal} 4 why_kinds.ps why_kinds.r (λ κs x s. x) why.Post
why_unique κs a x y s t p q = cc

pub why_checked_unique : Unique {A = Result Why Refusal} 3 why_checked_kinds.ps why_checked_kinds.r (λ κs x s. x) why_checked.Post
why_checked_unique κs a x y s t p q = cc

pub comes_before_unique : Unique {A = Result (Option Cause) Refusal} 4 comes_before_kinds.ps comes_before_kinds.r (λ κs x s. x) comes_before.Post
comes_before_unique κs a x y s t p q = cc
