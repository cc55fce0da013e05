-- Laws of a line: what a sheet can hold is read as it is typed, and only so. Assumes nothing.
use mathlib.Core.Path.{◌≡◌, refl, sym, ap, ◌∙◌}
use mathlib.Core.Bool.{Bool, true, false, not, cond, ◌&&◌}
use mathlib.Core.List.{List, [], ◌∷◌, ◌++◌, append-nil}
use Prim.Native.Nat.{ℕ, ◌≤◌, ◌<◌}
use native.Mathlib.Omega.{arith}
use lib.Dec.{eqb, ltb, leb}
use borrow.Author.Tests.{ltb-true, leb-true, eqb-true, lt-ltb, le-leb, ne_eqb}
use Rattle.base.specs.Words.{every, has}
use Rattle.base.proofs.Bools.{and_both, both_and, nots}
use Rattle.base.proofs.Numbers.{every_at}
use Rattle.base.proofs.Members.{has_append}
use Rattle.base.proofs.Leasts.{least_smallest}
use Rattle.text.specs.Ascii.{ascii}
use Rattle.text.specs.Decimal.{decimal, digit, is_digit, all_digits, is_number, value}
use Rattle.text.specs.Filled.{filled, shown, left}
use Rattle.text.proofs.Decimals.{digit_is, decimal_digits, decimal_number, decimal_value, one_way}
use Rattle.sheet.specs.declared.Instruction.{Instruction}
use Rattle.sheet.specs.declared.Line.{Line}
use Rattle.sheet.specs.declared.Line.TheVariants as line
use Rattle.sheet.specs.Split.{split, same}
use Rattle.sheet.specs.Opened.{opened}
use Rattle.sheet.specs.Sheet.{newline, space, operations, name_of, line_text, largest_rule, largest_byte}
use Rattle.sheet.specs.Sheet.{operation_of, is_up_to, program_line, rule_line, instruction_line, by_words, line_of}
use Rattle.sheet.proofs.Splits.{same_true, split_none, split_next, between, split_between}

-- ---- a line that a sheet can hold

pub record TypedInstruction (i : Instruction) : Type 0 where
  pub named : i.op < operations
  pub byte_a : i.a ≤ largest_byte
  pub byte_b : i.b ≤ largest_byte
  pub byte_c : i.c ≤ largest_byte

abbrev pub Typed : Line → Type 0
Typed (line.Rule r) = r ≤ largest_rule
Typed line.Program = Unit {0}
Typed (line.Instruction i) = TypedInstruction i
Typed line.Other = ⊥

-- ---- names

-- each of the nine is read as its operation, and has neither a space nor a newline in it
nine_read : every operations (λ op. eqb (operation_of (name_of op)) op) ≡ true
unfolding opened every
nine_read = refl

nine_no_space : every operations (λ op. not (has space (name_of op))) ≡ true
unfolding opened every has
nine_no_space = refl

nine_no_newline : every operations (λ op. not (has newline (name_of op))) ≡ true
unfolding opened every has
nine_no_newline = refl

module _ (op : ℕ) (h : op < operations) where
  pub operation_name : operation_of (name_of op) ≡ op
  operation_name = eqb-true _ _ (every_at operations (λ op. eqb (operation_of (name_of op)) op) nine_read op h)

  name_no_space : has space (name_of op) ≡ false
  name_no_space = nots _ (every_at operations (λ op. not (has space (name_of op))) nine_no_space op h)

  name_no_newline : has newline (name_of op) ≡ false
  name_no_newline = nots _ (every_at operations (λ op. not (has newline (name_of op))) nine_no_newline op h)

pub name_operation : (word : List ℕ) → operation_of word < operations → name_of (operation_of word) ≡ word
unfolding operation_of
name_operation word h = sym (same_true word (name_of (operation_of word)) ((least_smallest (λ op. same word (name_of op)) operations).passes h))

-- ---- numbers

digits_free : (c : ℕ) (w : List ℕ) → c < digit 0 → all_digits w ≡ true → has c w ≡ false
unfolding all_digits has
digits_free c [] h d = refl
digits_free c (b ∷ w) h d =
    let p = and_both (is_digit b) (all_digits w) d in
    let e : eqb c b ≡ false = ne_eqb c b (λ q. omega (arith, digit_is b p.0)) in
    rw (e, digits_free c w h p.1)

pub decimal_free : (c n : ℕ) → c < digit 0 → has c (decimal n) ≡ false
decimal_free c n h = digits_free c (decimal n) h (decimal_digits n)

decimal_up_to : (largest n : ℕ) → n ≤ largest → is_up_to largest (decimal n) ≡ true
unfolding is_up_to
decimal_up_to largest n h = both_and (decimal_number n) (rw (decimal_value n) (le-leb n largest h))

-- a word that is a number up to the largest one is that number in decimal
up_to : (largest : ℕ) (w : List ℕ) → is_up_to largest w ≡ true → (decimal (value w) ≡ w) × (value w ≤ largest)
unfolding is_up_to
up_to largest w h = let p = and_both (is_number w) (leb (value w) largest) h in (one_way w p.0, leb-true _ _ p.1)

-- ---- what each line says, by its words

pub rule_text : (r : ℕ) → line_text (line.Rule r) ≡ ascii "rule" ++ (space ∷ decimal r)
unfolding line_text filled shown left
rule_text r = ap (λ (t : List ℕ). ascii "rule " ++ t) (append-nil (decimal r))

pub instruction_text_lem : (i : Instruction)
    → line_text (line.Instruction i) ≡ name_of i.op ++ (space ∷ (decimal i.a ++ (space ∷ (decimal i.b ++ (space ∷ decimal i.c)))))
unfolding line_text filled shown left
instruction_text_lem i =
    ap (λ (t : List ℕ). name_of i.op ++ (space ∷ (decimal i.a ++ (space ∷ (decimal i.b ++ (space ∷ t)))))) (append-nil (decimal i.c))

-- ---- a line is read as it is typed

rule_read : (r : ℕ) → r ≤ largest_rule → line_of (line_text (line.Rule r)) ≡ line.Rule r
unfolding line_of by_words rule_line has same
rule_read r h =
    rw (rule_text r, split_next space (ascii "rule") (decimal r) refl, split_none space (decimal r) (decimal_free space r (omega arith)), decimal_up_to largest_rule r h)
    (ap line.Rule (decimal_value r))

program_read : line_of (line_text line.Program) ≡ line.Program
unfolding opened
program_read = refl

instruction_read : (i : Instruction) → TypedInstruction i → line_of (line_text (line.Instruction i)) ≡ line.Instruction i
unfolding line_of by_words instruction_line
instruction_read i t =
    let a = decimal i.a in
    let b = decimal i.b in
    let c = decimal i.c in
    let words : split space (line_text (line.Instruction i)) ≡ name_of i.op ∷ a ∷ b ∷ c ∷ [] =
    rw (
      instruction_text_lem i,
      split_next space (name_of i.op) (a ++ (space ∷ (b ++ (space ∷ c)))) (name_no_space i.op t.named),
      split_next space a (b ++ (space ∷ c)) (decimal_free space i.a (omega arith)),
      split_next space b c (decimal_free space i.b (omega arith)),
      split_none space c (decimal_free space i.c (omega arith)),
    ) in
    rw (
      words,
      operation_name i.op t.named,
      lt-ltb i.op operations t.named,
      decimal_up_to largest_byte i.a t.byte_a,
      decimal_up_to largest_byte i.b t.byte_b,
      decimal_up_to largest_byte i.c t.byte_c,
      decimal_value i.a,
      decimal_value i.b,
      decimal_value i.c,
    )

pub line_read : (l : Line) → Typed l → line_of (line_text l) ≡ l
line_read (line.Rule r) t = rule_read r t
line_read line.Program t = program_read
line_read (line.Instruction i) t = instruction_read i t
line_read line.Other t = absurd t

-- ---- only so

-- by its words: they are those of the line that is read
program_back : (word : List ℕ) (b : Bool) → same word (ascii "program") ≡ b → (cond b line.Program line.Other ≡ line.Other → ⊥)
    → (word ≡ line_text (cond b line.Program line.Other)) × Typed (cond b line.Program line.Other)
unfolding line_text
program_back word true e h = (same_true word (ascii "program") e, tt)
program_back word false e h = absurd (h refl)

rule_back : (word r : List ℕ) (b : Bool) → same word (ascii "rule") && is_up_to largest_rule r ≡ b → (cond b (line.Rule (value r)) line.Other ≡ line.Other → ⊥)
    → (word ++ (space ∷ r) ≡ line_text (cond b (line.Rule (value r)) line.Other)) × Typed (cond b (line.Rule (value r)) line.Other)
rule_back word r true e h =
    let p = and_both (same word (ascii "rule")) (is_up_to largest_rule r) e in
    let n = up_to largest_rule r p.1 in
    (rw (same_true word (ascii "rule") p.0, rule_text (value r), n.0), n.1)
rule_back word r false e h = absurd (h refl)

instruction_back : (word a b c : List ℕ) (t : Bool)
    → ltb (operation_of word) operations && is_up_to largest_byte a && is_up_to largest_byte b && is_up_to largest_byte c ≡ t
    → let l = cond t (line.Instruction (record { op = operation_of word; a = value a; b = value b; c = value c })) line.Other in
    (l ≡ line.Other → ⊥) → (word ++ (space ∷ (a ++ (space ∷ (b ++ (space ∷ c))))) ≡ line_text l) × Typed l
instruction_back word a b c true e h =
    let three = and_both (ltb (operation_of word) operations && is_up_to largest_byte a && is_up_to largest_byte b) (is_up_to largest_byte c) e in
    let two = and_both (ltb (operation_of word) operations && is_up_to largest_byte a) (is_up_to largest_byte b) three.0 in
    let one = and_both (ltb (operation_of word) operations) (is_up_to largest_byte a) two.0 in
    let o = ltb-true (operation_of word) operations one.0 in
    let x = up_to largest_byte a one.1 in
    let y = up_to largest_byte b two.1 in
    let z = up_to largest_byte c three.1 in (
      rw (instruction_text_lem (record { op = operation_of word; a = value a; b = value b; c = value c }), name_operation word o, x.0, y.0, z.0),
      record { named = o; byte_a = x.1; byte_b = y.1; byte_c = z.1 },
    )
instruction_back word a b c false e h = absurd (h refl)

words_back : (words : List (List ℕ)) → (by_words words ≡ line.Other → ⊥) → (between space words ≡ line_text (by_words words)) × Typed (by_words words)
unfolding by_words between program_line rule_line instruction_line
words_back [] h = absurd (h refl)
words_back (word ∷ []) h = program_back word (same word (ascii "program")) refl h
words_back (word ∷ r ∷ []) h = rule_back word r (same word (ascii "rule") && is_up_to largest_rule r) refl h
words_back (word ∷ a ∷ b ∷ []) h = absurd (h refl)
words_back (word ∷ a ∷ b ∷ c ∷ []) h = instruction_back word a b c _ refl h
words_back (word ∷ a ∷ b ∷ c ∷ d ∷ more) h = absurd (h refl)

pub line_back : (text : List ℕ) → (line_of text ≡ line.Other → ⊥) → (text ≡ line_text (line_of text)) × Typed (line_of text)
unfolding line_of
line_back text h = let w = words_back (split space text) h in (sym (split_between space text) ∙ w.0, w.1)

-- ---- it has no newline in it

free_both : (c : ℕ) (xs ys : List ℕ) → has c xs ≡ false → has c ys ≡ false → has c (xs ++ ys) ≡ false
free_both c xs ys p q = rw (has_append c xs ys, p, q)

pub line_free : (l : Line) → Typed l → has newline (line_text l) ≡ false
unfolding has line_text
line_free (line.Rule r) t = rw (rule_text r) (decimal_free newline r (omega arith))
line_free line.Program t = refl
line_free (line.Instruction i) t =
    rw (instruction_text_lem i)
    (free_both newline (name_of i.op) _ (name_no_newline i.op t.named)
    (free_both newline (decimal i.a) _ (decimal_free newline i.a (omega arith))
    (free_both newline (decimal i.b) _ (decimal_free newline i.b (omega arith)) (decimal_free newline i.c (omega arith)))))
line_free line.Other t = absurd t
