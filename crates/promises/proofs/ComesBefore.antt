-- Before whom a program comes (document 02, ask 3, and what the listed order makes of it): the answer is true of the programs' own runs, and in the
-- listed order the program does not stand behind the one that it names. Assumes nothing.
use Prim.Native.Nat.{ℕ, ◌<◌}
use mathlib.Core.Path.{◌≡◌, refl, sym, ◌∙◌}
use mathlib.Core.Bool.{Bool, true, false}
use mathlib.Core.List.{List, [], ◌∷◌}
use native.Mathlib.Omega.{arith}
use lib.ListN.{length}
use borrow.Author.Tests.{eqb-true}
use Rattle.std.specs.Prelude.{Ok, Err}
use Rattle.base.specs.Words.{meets}
use Rattle.base.proofs.Members.{meets_in}
use Rattle.image.specs.Image.{count_of}
use Rattle.image.proofs.Refusing.{unless_done}
use Rattle.slot.specs.declared.ListKind.TheVariants.{Reads}
use Rattle.area.specs.declared.MarkKind.TheVariants.{Write}
use Rattle.area.specs.Layout.{reads_of, stores_of}
use Rattle.area.specs.Marks.{depends}
use Rattle.causes.specs.declared.answers.Cause.{Cause}
use Rattle.causes.specs.Why.{ask_refusal, before_of, before_answer}
use Rattle.listing.specs.Order.{Ordered}
use Rattle.listing.specs.Listing.{order_of}
use Rattle.listing.proofs.Orders.{order_is}
use Rattle.promises.specs.Paper.{Batch, batch_of}
use Rattle.promises.specs.Laid.{World}
use Rattle.promises.specs.History.{RunToEnd}
use Rattle.promises.specs.Causes.{TrueRaw, TrueBefore, behind}
use Rattle.promises.proofs.AtEnd.{PaperEnd, paper_ends, end_sized, end_exists}
use Rattle.promises.proofs.WhyCarried.{asks}

-- who reads a cell that p stores does not stand behind p
behind_none : (reads stores : ℕ → List ℕ) (k p : ℕ) → meets (reads k) (stores p) ≡ true → (o : List ℕ) → Ordered reads stores o → behind k p o ≡ false
unfolding behind
behind_none reads stores k p m [] h = refl
behind_none reads stores k p m (x ∷ o) h = grind (arith, eqb-true, behind_none reads stores k p m o, h.0 k)

module _ (image t g : List ℕ) (w : World) (run : RunToEnd image t g w) (k : ℕ) (number : k < count_of image) where
  abbrev b : Batch
  b = batch_of image t g

  end : PaperEnd image t g w
  end = paper_ends run

  -- The answer is true of the runs: the program has no RAW, or this is its cause.
  pub before_true : TrueBefore b k (before_answer image w.table g w.area k)
  unfolding before_answer before_of
  before_true =
      let answer = Ok (before_of (length w.table) k w.area) in
      rw (unless_done (ask_refusal image w.table g w.area k) Err answer (sym (asks image t g w run k number)), end_sized end)
      (go (depends Reads Write (length t) k w.area) refl)
    where
      go : (d : Bool) → depends Reads Write (length t) k w.area ≡ d → TrueBefore b k (Ok (before_of (length t) k w.area))
      go true e = rw e (end.causes k number Reads Write e)
      go false e = rw e (sym (end.depends_is k number Reads Write) ∙ e)

  -- In the listed order it does not stand behind the program that its RAW names.
  pub before_listed : (cause : Cause) → TrueRaw b k cause → behind k cause.program (order_of (length t) (count_of image) w.area) ≡ false
  before_listed cause c =
      behind_none (λ j. reads_of (length t) j w.area) (λ j. stores_of (length t) j w.area) k cause.program
      (rw (end.reads_are k number, end.stores_are cause.program (omega (arith, c.earlier))) (meets_in cause.cell _ _ c.own_cell c.its_cell))
      (order_of (length t) (count_of image) w.area) (order_is (length t) (count_of image) w.area (end_exists end)).in_order
