-- Document 01, "The work area" and "The steps": what a mark says, how a program reserves, and its WAW, RAW and WAR by the marks. Assumes nothing.
use Rattle.std.specs.Prelude.{ℕ, ◌+◌, ◌-◌, Bool, false, cond, ◌&&◌, ◌||◌, List, [], ◌∷◌, get_or, set, eqb, ltb, leb, Option, Some, None}
use Rattle.base.specs.Words.{least, has, words}
use Rattle.slot.specs.declared.ListKind.{ListKind}
use Rattle.slot.specs.declared.ListKind.TheVariants.{Reads, Stores}
use Rattle.area.specs.declared.MarkKind.{MarkKind}
use Rattle.area.specs.declared.MarkKind.TheVariants.{Write, Read}
use Rattle.area.specs.Layout.{marks_at, list_of, stores_of, values_of}

-- A mark is "0, or 1 + the smallest number of a gathered program that stores (reads) the cell".
abbrev pub mark_of : ℕ → ℕ
mark_of k = k + 1

-- the program that a mark names, if it names one
abbrev pub named : ℕ → ℕ
named mark = mark - 1

-- the list whose cells the marks of a kind name
abbrev pub list_for : MarkKind → ListKind
list_for Write = Stores
list_for Read = Reads

-- "a mark that is 0 or larger becomes this program's"
unfoldable pub lower : ℕ → ℕ → ℕ
lower mark mine = cond (eqb mark 0 || ltb mine mark) mine mark

-- program k reserves each of the cells, lost ones included, in the marks that begin at the place
unfoldable pub reserve : ℕ → List ℕ → ℕ → List ℕ → List ℕ
reserve at [] k a = a
reserve at (c ∷ cs) k a = reserve at cs k (set a (at + c) (lower (get_or a (at + c) 0) (mark_of k)))

-- "With 'earlier' meaning a smaller number": the mark names a program earlier than k
unfoldable pub earlier : ℕ → ℕ → Bool
earlier mark k = ltb 0 mark && leb mark k

-- some of the cells has such a mark, in the marks that begin at the place
unfoldable pub hit : ℕ → List ℕ → ℕ → List ℕ → Bool
hit at [] k a = false
hit at (c ∷ cs) k a = earlier (get_or a (at + c) 0) k || hit at cs k a

-- some cell of program k's list of a kind has such a mark of a kind
unfoldable pub depends : ListKind → MarkKind → ℕ → ℕ → List ℕ → Bool
depends l m T k a = hit (marks_at m T) (list_of l T k a) k a

-- "WAW: a stored cell's write mark names an earlier program. RAW: a read cell's write mark does. WAR: a stored cell's read mark does."
abbrev pub waw : ℕ → ℕ → List ℕ → Bool
waw T k a = depends Stores Write T k a

abbrev pub raw : ℕ → ℕ → List ℕ → Bool
raw T k a = depends Reads Write T k a

abbrev pub war : ℕ → ℕ → List ℕ → Bool
war T k a = depends Stores Read T k a

-- ---- document 02, ask 3: "the lowest cell that shows the dependency"

-- a cell shows it: it is one of the cells, and its mark, in the marks that begin at the place, names an earlier program
unfoldable pub shows : ℕ → List ℕ → ℕ → List ℕ → ℕ → Bool
shows at cs k a c = has c cs && earlier (get_or a (at + c) 0) k

-- the lowest by its number, and not by its place among them; T where none of T does
unfoldable pub lowest_of : (T at : ℕ) → List ℕ → ℕ → List ℕ → ℕ
lowest_of T at cs k a = least (shows at cs k a) T

-- with one cell more among them
unfoldable pub lower_cell : (at k : ℕ) → List ℕ → (found cell : ℕ) → ℕ
lower_cell at k a found cell = cond (ltb cell found && earlier (get_or a (at + cell) 0) k) cell found

-- of program k's list of a kind by the marks of a kind
unfoldable pub lowest : ListKind → MarkKind → ℕ → ℕ → List ℕ → ℕ
lowest l m T k a = lowest_of T (marks_at m T) (list_of l T k a) k a

-- that cell, where there is one: a number below T
abbrev pub below : (T cell : ℕ) → Option ℕ
below T cell = cond (ltb cell T) (Some cell) None

-- ---- stores

-- the table after stores, in their order
unfoldable pub store_all : List ℕ → List ℕ → List ℕ → List ℕ
store_all [] vs t = t
store_all (c ∷ cs) [] t = t
store_all (c ∷ cs) (v ∷ vs) t = store_all cs vs (set t c v)

-- of the cells and the values that stand at two places; and of program k's own
abbrev pub stored_by : (cells values count : ℕ) → List ℕ → List ℕ → List ℕ
stored_by cells values count a t = store_all (words cells count a) (words values count a) t

abbrev pub committed_table : ℕ → ℕ → List ℕ → List ℕ → List ℕ
committed_table T k a t = store_all (stores_of T k a) (values_of T k a) t
