-- `fault` meets its contract: its tests are the checks of the definition, one after another, each of the three bytes by their kinds in the row.
-- Assumes nothing.
use mathlib.Core.Path.{◌≡◌, refl, sym, ap, ◌∙◌}
use mathlib.Core.Bool.{true}
use Rattle.std.specs.Prelude.{Err}
use Rattle.image.specs.Instruction.{known, kinds_of, register_good, unused_good, skip_good, each, fault_of}
use Rattle.image.specs.Bits.{kinds_row}
use Rattle.image.proofs.Refusing.{fails, goes_on, handed_out}
use Rattle.image.proofs.Bytes.{row_there, row_missing, each_tested}
use Rattle.image.proofs.instruction.Instruction.fault.Goals.{In_ok-row, After-all, After-all-2, After-all-3}
use Rattle.image.proofs.instruction.Instruction.fault.Goals as goal

pub returns-in_err-row : goal.returns-in_err-row
unfolding fault_of
returns-in_err-row c =
    let none = row_missing c.args.self.op c.row_of.ensures (sym c.ok_or.ensures.value ∙ c.in_err-row.was) in
    handed_out c.from_residual.ensures ∙ ap Err none.1 ∙ fails _ none.0

-- what each test says, where those before it have passed
row : (c : goal.In_ok-row) → (let op = c.args.self.op in (known op ≡ true) × (c.in_ok-row.row ≡ kinds_row (kinds_of op)))
row c = row_there c.args.self.op c.row_of.ensures (sym c.ok_or.ensures.value ∙ c.in_ok-row.was)

registers : (c : goal.After-all) → (let a = c.args.self in each register_good (kinds_of a.op) a.a a.b a.c ≡ c.all.result)
registers c =
    sym (each_tested c.args.self.op (row (goal.at.After-all c).In_ok-row).1 register_good
    c.register_good.ensures c.register_good-2.ensures c.register_good-3.ensures c.all.ensures)

unused : (c : goal.After-all-2) → (let a = c.args.self in each unused_good (kinds_of a.op) a.a a.b a.c ≡ c.all-2.result)
unused c =
    sym (each_tested c.args.self.op (row (goal.at.After-all-2 c).In_ok-row).1 unused_good
    c.unused_good.ensures c.unused_good-2.ensures c.unused_good-3.ensures c.all-2.ensures)

skips : (c : goal.After-all-3) → (let a = c.args.self in each (skip_good c.args.i c.args.m) (kinds_of a.op) a.a a.b a.c ≡ c.all-3.result)
skips c =
    sym (each_tested c.args.self.op (row (goal.at.After-all-3 c).In_ok-row).1 (skip_good c.args.i c.args.m)
    c.skip_good.ensures c.skip_good-2.ensures c.skip_good-3.ensures c.all-3.ensures)

pub returns-then-not-all : goal.returns-then-not-all
unfolding fault_of
returns-then-not-all c =
    let at = goal.at.returns-then-not-all c in
    goes_on _ (row at.In_ok-row).0 (fails _ (registers at.After-all ∙ c.if-not-all.true))

pub returns-then-not-all-2 : goal.returns-then-not-all-2
unfolding fault_of
returns-then-not-all-2 c =
    let at = goal.at.returns-then-not-all-2 c in
    goes_on _ (row at.In_ok-row).0
    (goes_on _ (registers at.After-all ∙ c.if-not-all.false)
    (fails _ (unused at.After-all-2 ∙ c.if-not-all-2.true)))

pub returns-then-not-all-3 : goal.returns-then-not-all-3
unfolding fault_of
returns-then-not-all-3 c =
    let at = goal.at.returns-then-not-all-3 c in
    goes_on _ (row at.In_ok-row).0
    (goes_on _ (registers at.After-all ∙ c.if-not-all.false)
    (goes_on _ (unused at.After-all-2 ∙ c.if-not-all-2.false)
    (fails _ (skips at.After-all-3 ∙ c.if-not-all-3.true))))

pub returns : goal.returns
unfolding fault_of
returns c =
    let at = goal.at.returns c in
    goes_on _ (row at.In_ok-row).0
    (goes_on _ (registers at.After-all ∙ c.if-not-all.false)
    (goes_on _ (unused at.After-all-2 ∙ c.if-not-all-2.false)
    (goes_on _ (skips at.After-all-3 ∙ c.if-not-all-3.false) refl)))
