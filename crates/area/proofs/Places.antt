-- A program's stores, as the code finds them. Assumes nothing.
use Prim.Native.Nat.{ℕ}
use mathlib.Core.Path.{◌≡◌, sym, subst}
use mathlib.Core.List.{List}
use native.Mathlib.Omega.{arith}
use lib.ListN.{length}
use Rattle.slot.specs.declared.ListKind.TheVariants.{Stores}
use Rattle.area.specs.declared.Span.{Span}
use Rattle.area.specs.Layout.{values_at, span_of}
use Rattle.area.specs.Checks.{Slotted, Storing}

-- they are such as the loop over them needs: p is where their cells lie
pub stores_list : (k : ℕ) (a t : List ℕ) (p : Span) (values : ℕ) → Slotted (length t) k a → p ≡ span_of Stores (length t) k a → values ≡ values_at (length t) k
    → Storing p.at values p.count a t
stores_list k a t p values s e q =
    subst (λ (x : Span). Storing x.at values x.count a t) (sym e)
    (record {
      few = s.few Stores;
      cells_lie = omega (arith, s.few Stores, s.lies.lies);
      values_lie = omega (arith, q, s.few Stores, s.lies.lies);
      in_table = λ i h. s.inside Stores i h;
    })
