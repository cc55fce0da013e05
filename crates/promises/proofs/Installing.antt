-- The table: programs that store no common cell can be installed in any order. Assumes nothing.
use mathlib.Core.Path.{◌≡◌, refl, ap, ◌∙◌}
use mathlib.Core.Bool.{Bool, true, false, cond, ◌&&◌}
use mathlib.Core.List.{List, [], ◌∷◌}
use Prim.Native.Nat.{ℕ, zero, suc, ◌<◌}
use native.Mathlib.Omega.{arith}
use lib.ListN.{length, set, length-set}
use lib.Seq.{set_comm}
use borrow.Author.Tests.{eqb-true}
use Rattle.base.specs.Words.{has, meets}
use Rattle.base.proofs.Bools.{and_right}
use Rattle.area.specs.Marks.{store_all}
use Rattle.promises.specs.Paper.{Batch, write_set, new_values, gets_settled, commits, installed}
use Rattle.promises.specs.Laid.{table_on}
use Rattle.promises.proofs.Sets.{also, also_failing, also_passing}
use Rattle.promises.proofs.Deciding.{commits_keeps, settled_keeps, no_common}

-- ---- stores

pub store_length : (cs vs t : List ℕ) → length (store_all cs vs t) ≡ length t
unfolding store_all
store_length [] vs t = refl
store_length (c ∷ cs) [] t = refl
store_length (c ∷ cs) (v ∷ vs) t = store_length cs vs (set t c v) ∙ length-set t c v

store_set : (cs vs t : List ℕ) (c v : ℕ) → has c cs ≡ false → store_all cs vs (set t c v) ≡ set (store_all cs vs t) c v
unfolding store_all has
store_set [] vs t c v h = refl
store_set (x ∷ cs) [] t c v h = refl
store_set (x ∷ cs) (u ∷ vs) t c v h = grind (arith, set_comm t c x v u, store_set cs vs (set t x u) c v)

-- stores to other cells can change places
store_swap : (cs vs ds us t : List ℕ) → meets cs ds ≡ false → store_all cs vs (store_all ds us t) ≡ store_all ds us (store_all cs vs t)
unfolding store_all meets
store_swap [] vs ds us t h = refl
store_swap (c ∷ cs) [] ds us t h = refl
store_swap (c ∷ cs) (v ∷ vs) ds us t h = grind (arith, store_set ds us t c v, store_swap cs vs ds us (set t c v))

-- ---- those of the first n programs that pass are installed

module _ (b : Batch) (t : List ℕ) where
  pub installed_ext : (f g : ℕ → Bool) (n : ℕ) → ((i : ℕ) → i < n → f i ≡ g i) → installed b f n t ≡ installed b g n t
  unfolding installed
  installed_ext f g zero h = refl
  installed_ext f g (suc n) h = rw (h n (omega arith), installed_ext f g n (λ i l. h i (omega arith)))

  pub installed_none : (f : ℕ → Bool) (n : ℕ) → ((i : ℕ) → i < n → f i ≡ false) → installed b f n t ≡ t
  unfolding installed
  installed_none f zero h = refl
  installed_none f (suc n) h = rw (h n (omega arith)) (installed_none f n (λ i l. h i (omega arith)))

  pub installed_length : (f : ℕ → Bool) (n : ℕ) → length (installed b f n t) ≡ length t
  unfolding installed
  installed_length f zero = refl
  installed_length f (suc n) = grind (arith, installed_length f n, store_length)

  -- One more can be installed last, whatever its number, where nobody else that passes stores a cell of it.
  pub installed_more : (f : ℕ → Bool) (k n : ℕ) → k < n → f k ≡ false
      → ((j : ℕ) → (j ≡ k → ⊥) → f j ≡ true → meets (write_set b j) (write_set b k) ≡ false)
      → installed b (also k f) n t ≡ store_all (write_set b k) (new_values b k) (installed b f n t)
  unfolding installed also
  installed_more f k zero l h apart = absurd (omega arith)
  installed_more f k (suc n) l h apart =
      let swap = store_swap (write_set b n) (new_values b n) (write_set b k) (new_values b k) (installed b f n t) in
      grind (arith, eqb-true, installed_more f k n, installed_ext (also k f) f n, apart n, swap)

-- ---- the table on the way

module _ (b : Batch) (t : List ℕ) where
  pub table_length : (settled : ℕ → Bool) → length (table_on b settled t) ≡ length t
  unfolding table_on
  table_length settled = installed_length b t (λ k. settled k && commits b k) b.programs

  -- while nobody is settled it is the opening table
  pub table_opening : (settled : ℕ → Bool) → ((k : ℕ) → k < b.programs → settled k ≡ false) → table_on b settled t ≡ t
  unfolding table_on
  table_opening settled h = installed_none b t (λ k. settled k && commits b k) b.programs (λ k l. ap (λ (c : Bool). c && commits b k) (h k l))

  -- only those that are settled at all count
  pub table_ext : (settled settled' : ℕ → Bool) → ((k : ℕ) → k < b.programs → gets_settled b k ≡ true → settled k ≡ settled' k)
      → table_on b settled t ≡ table_on b settled' t
  unfolding table_on
  table_ext settled settled' h = installed_ext b t _ _ b.programs (λ k l. grind (arith, h k l, settled_keeps b k, commits_keeps b k))

  -- one more is settled: its stores go in if it commits
  pub table_more : (settled : ℕ → Bool) (k : ℕ) → k < b.programs → settled k ≡ false
      → table_on b (also k settled) t ≡ cond (commits b k) (store_all (write_set b k) (new_values b k) (table_on b settled t)) (table_on b settled t)
  unfolding table_on
  table_more settled k l h = grind (arith, goes_in, stays)
    where
      f : ℕ → Bool
      f j = settled j && commits b j

      more : ℕ → Bool
      more j = also k settled j && commits b j

      goes_in : commits b k ≡ true → installed b more b.programs t ≡ store_all (write_set b k) (new_values b k) (installed b f b.programs t)
      goes_in e =
          installed_ext b t more (also k f) b.programs (λ j _. also_passing k settled (commits b) e j)
          ∙ installed_more b t f k b.programs l (ap (λ (c : Bool). c && commits b k) h)
          (λ j q p. no_common b j k q (and_right (settled j) (commits b j) p) e)

      stays : commits b k ≡ false → installed b more b.programs t ≡ installed b f b.programs t
      stays e = installed_ext b t more f b.programs (λ j _. also_failing k settled (commits b) e j)
