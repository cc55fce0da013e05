-- What a read and a store do to a log: it still fits, with at most one entry more, and no read is lost. Assumes nothing.
use Rattle.std.proofs.Common.{ℕ, zero, suc, ◌+◌, ◌≤◌, ◌<◌, true, ◌≡◌, refl, List, arith, length, length-set}
use Rattle.std.proofs.lemmas.List.{length_push}
use Rattle.base.specs.Words.{has}
use Rattle.slot.specs.declared.ListKind.{ListKind}
use Rattle.slot.specs.declared.ListKind.TheVariants.{Reads, Stores}
use Rattle.slot.specs.Layout.{list_words}
use Rattle.slot.specs.Log.{Log, cells_of, empty, place_in, once_by, once, value_by, loaded, reads_by, with_read, values_by, with_store, Fits}
use Rattle.slot.proofs.ListKinds.{each_kind}
use Rattle.slot.proofs.Places.{once_length, once_has, once_keeps, once_below, once_distinct}

-- at most n reads and n stored cells
pub record Room (n : ℕ) (l : Log) : Type 0 where
  pub room : (k : ListKind) → length (cells_of k l) ≤ n

-- the reads after a load of cell c, at each place that c may have among the stored cells
reads_by_length : (k c : ℕ) (reads : List ℕ) → length (reads_by k c reads) ≤ length reads + 1
reads_by_length zero c reads = once_length c reads
reads_by_length (suc k) c reads = omega arith

reads_by_keeps : (k c : ℕ) (reads : List ℕ) (d : ℕ) → has d reads ≡ true → has d (reads_by k c reads) ≡ true
reads_by_keeps zero c reads d h = once_keeps c reads d h
reads_by_keeps (suc k) c reads d h = h

module _ (T n : ℕ) (l : Log) (fits : Fits T l) (room : Room n l) (under : n < list_words) where
  reads_by_fits : (c k : ℕ) → c < T → Fits T (record { reads = reads_by k c l.reads; cells = l.cells; values = l.values })
  reads_by_fits c zero h =
      record {
        inside = each_kind _ (once_below c l.reads T h (fits.inside Reads)) (fits.inside Stores);
        few = each_kind _ (omega (arith, once_length c l.reads, room.room Reads)) (fits.few Stores);
        once_each = each_kind _ (once_distinct c l.reads (fits.once_each Reads)) (fits.once_each Stores);
        paired = fits.paired;
      }
  reads_by_fits c (suc k) h = fits

  pub read_fits : (c : ℕ) → c < T → Fits T (with_read l c)
  unfolding with_read
  read_fits c h = reads_by_fits c (place_in c l.cells) h

  values_by_paired : (c v k : ℕ) → length (values_by k v l.values) ≡ length (once_by k c l.cells)
  values_by_paired c v zero = omega (arith, length_push l.values v, length_push l.cells c, fits.paired)
  values_by_paired c v (suc k) = omega (arith, length-set l.values k v, fits.paired)

  pub store_fits : (c v : ℕ) → c < T → Fits T (with_store l c v)
  unfolding with_store once
  store_fits c v h =
      record {
        inside = each_kind _ (fits.inside Reads) (once_below c l.cells T h (fits.inside Stores));
        few = each_kind _ (fits.few Reads) (omega (arith, once_length c l.cells, room.room Stores));
        once_each = each_kind _ (fits.once_each Reads) (once_distinct c l.cells (fits.once_each Stores));
        paired = values_by_paired c v (place_in c l.cells);
      }

module _ (n : ℕ) (l : Log) (room : Room n l) (c : ℕ) where
  pub read_room : Room (n + 1) (with_read l c)
  unfolding with_read
  read_room =
      record {
        room = each_kind _ (omega (arith, reads_by_length (place_in c l.cells) c l.reads, room.room Reads)) (omega (arith, room.room Stores));
      }

  pub store_room : (v : ℕ) → Room (n + 1) (with_store l c v)
  unfolding with_store
  store_room v = record { room = each_kind _ (omega (arith, room.room Reads)) (omega (arith, once_length c l.cells, room.room Stores)) }

pub empty_room : (n : ℕ) → Room n empty
empty_room n = record { room = each_kind _ (omega arith) (omega arith) }

pub same_room : (n : ℕ) (l : Log) → Room n l → Room (n + 1) l
same_room n l room = record { room = λ k. omega (arith, room.room k) }

-- what was read stays read
pub read_keeps : (l : Log) (c d : ℕ) → has d l.reads ≡ true → has d (with_read l c).reads ≡ true
unfolding with_read
read_keeps l c d h = reads_by_keeps (place_in c l.cells) c l.reads d h

pub store_keeps : (l : Log) (c v d : ℕ) → has d l.reads ≡ true → has d (with_store l c v).reads ≡ true
unfolding with_store
store_keeps l c v d h = h

-- a load of a cell that the run has not stored depends on the opening value, and then the cell is read
pub loads_agree : (l : Log) (c v w : ℕ) → (has c (with_read l c).reads ≡ true → v ≡ w) → loaded l c v ≡ loaded l c w
unfolding loaded with_read
loads_agree l c v w = go (place_in c l.cells)
  where
    go : (k : ℕ) → (has c (reads_by k c l.reads) ≡ true → v ≡ w) → value_by k v l.values ≡ value_by k w l.values
    go zero h = h (once_has c l.reads)
    go (suc k) h = refl
