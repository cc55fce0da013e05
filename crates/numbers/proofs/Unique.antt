-- No second result: an answer's numbers are told in one way only. Assumes nothing.
use mathlib.Core.Path.{◌≡◌, sym, ◌∙◌}
use denote.RattleType.{RattleType}
use denote.Param.Laws.{Laws}
use mir.Syntax.{Dict}
use Rattle.base.specs.Unique.{Unique}
use Rattle.image.specs.Refusals.{Counted}
use Rattle.steps.specs.Answers.{Numbers}
use Rattle.causes.specs.Why.{WhyNumbers}
use Rattle.numbers.specs.declared.StepNumbers.{StepNumbers}
use Rattle.numbers.specs.declared.CauseNumbers.{CauseNumbers}
use Rattle.numbers.specs.declared.CountNumbers.{CountNumbers}
use Rattle.numbers.specs.declared.GatherAnswer as gathering
use Rattle.numbers.specs.declared.SettleAnswer as settling
use Rattle.numbers.specs.declared.WhyAnswer as asking
use Rattle.numbers.specs.Numbers.{Tells, CauseTells, CountTells}
use Rattle.numbers.proofs.of_gathered.Kinds as gathered_kinds
use Rattle.numbers.proofs.of_gathered.Reads as gathered
use Rattle.numbers.proofs.of_settled.Kinds as settled_kinds
use Rattle.numbers.proofs.of_settled.Reads as settled
use Rattle.numbers.proofs.of_why.Kinds as why_kinds
use Rattle.numbers.proofs.of_why.Reads as why
use Rattle.numbers.proofs.of_count.Kinds as count_kinds
use Rattle.numbers.proofs.of_count.Reads as count

pub told_once : (n : Numbers) (x y : StepNumbers) → Tells n x → Tells n y → x ≡ y
told_once n x y p q =
    λ i. record {
      refusal = (p.refusal ∙ sym q.refusal) i;
      state = (p.state ∙ sym q.state) i;
      detail = (p.detail ∙ sym q.detail) i;
    }

pub of_gathered_unique : (A : RattleType) (l : Laws A) (g : gathering.Ghosts A.Denot) (d : Dict)
    → Unique {A = StepNumbers} 1 (gathered_kinds.ps A l) (gathered_kinds.r A l) (λ κs x s. x) (gathered.Post A l g d)
of_gathered_unique A l g d κs a x y s t p q = told_once _ x y p q

pub of_settled_unique : (A : RattleType) (l : Laws A) (g : settling.Ghosts A.Denot) (d : Dict)
    → Unique {A = StepNumbers} 1 (settled_kinds.ps A l) (settled_kinds.r A l) (λ κs x s. x) (settled.Post A l g d)
of_settled_unique A l g d κs a x y s t p q = told_once _ x y p q

pub cause_once : (n : WhyNumbers) (x y : CauseNumbers) → CauseTells n x → CauseTells n y → x ≡ y
cause_once n x y p q =
    λ i. record {
      refusal = (p.refusal ∙ sym q.refusal) i;
      reason = (p.reason ∙ sym q.reason) i;
      cell = (p.cell ∙ sym q.cell) i;
      program = (p.program ∙ sym q.program) i;
      war_cell = (p.war_cell ∙ sym q.war_cell) i;
      war_program = (p.war_program ∙ sym q.war_program) i;
    }

pub of_why_unique : (A : RattleType) (l : Laws A) (g : asking.Ghosts A.Denot) (d : Dict)
    → Unique {A = CauseNumbers} 1 (why_kinds.ps A l) (why_kinds.r A l) (λ κs x s. x) (why.Post A l g d)
of_why_unique A l g d κs a x y s t p q = cause_once _ x y p q

pub count_once : (n : Counted) (x y : CountNumbers) → CountTells n x → CountTells n y → x ≡ y
count_once n x y p q = λ i. record { refusal = (p.refusal ∙ sym q.refusal) i; count = (p.count ∙ sym q.count) i }

pub of_count_unique : Unique {A = CountNumbers} 0 count_kinds.ps count_kinds.r (λ κs x s. x) count.Post
of_count_unique κs a x y s t p q = count_once _ x y p q
