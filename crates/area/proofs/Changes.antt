-- What each change of the area does to the marks and the slots: what was put there is read back, the rest stays. Assumes nothing.
use Prim.Native.Nat.{ℕ, ◌+◌, ◌-◌, ◌≤◌, ◌<◌}
use mathlib.Core.Path.{◌≡◌, refl, sym, ap, ◌∙◌}
use mathlib.Core.Logic.{◌⊎◌, inl, inr}
use mathlib.Core.Bool.{true}
use mathlib.Core.List.{List, [], ◌∷◌, ◌++◌}
use native.Mathlib.Omega.{arith}
use native.Mathlib.Decide.{dec_lt}
use lib.ListN.{length, get_or, set, take, drop, length-set, length-append, length-take, length-drop, get_or-append}
use lib.Seq.{get_or-append-add, get_or-set_same, get_or-set_other, length-take-le, take_all, get_or-take, get_or-drop}
use Rattle.base.specs.Words.{has, words}
use Rattle.base.proofs.Members.{has_head, has_tail}
use Rattle.base.proofs.Parts.{words_at, words_same, words_set_in, words_set_out, words_between}
use Rattle.slot.specs.Layout.{state_word, detail_word, slot_words}
use Rattle.area.specs.declared.MarkKind.{MarkKind}
use Rattle.area.specs.declared.MarkKind.TheVariants.{Write, Read}
use Rattle.area.specs.Layout.{area_words, marks_at, slot_start, state_at, detail_at, state_of, detail_of, slot_at, with_slot, with_state}
use Rattle.area.specs.Marks.{mark_of, lower, reserve}
use Rattle.area.proofs.Views.{marks_low}

-- two slots do not overlap
pub slots_apart : (T j k : ℕ) → (j ≡ k → ⊥) → (slot_start T j + slot_words ≤ slot_start T k) ⊎ (slot_start T k + slot_words ≤ slot_start T j)
slots_apart T j k q = go (dec_lt j k)
  where
    go : Dec (j < k) → (slot_start T j + slot_words ≤ slot_start T k) ⊎ (slot_start T k + slot_words ≤ slot_start T j)
    go (yes l) = inl (omega arith)
    go (no l) = let m : k < j = omega (arith, q) in inr (omega arith)

-- ---- a slot that is put in

module _ (T n k : ℕ) (s a : List ℕ) (full : length s ≡ slot_words) (sized : length a ≡ area_words T n) (l : k < n) where
  pub slot_length : length (with_slot T k s a) ≡ length a
  unfolding with_slot
  slot_length = simp (length-append, length-take, length-drop) (omega arith)

  before : length (take (slot_start T k) a) ≡ slot_start T k
  before = length-take-le (slot_start T k) a (omega arith)

  pub slot_own : slot_at T k (with_slot T k s a) ≡ s
  unfolding slot_at with_slot
  slot_own =
      words_between (take (slot_start T k) a) s (drop (slot_start T k + slot_words) a) (slot_start T k) slot_words before (omega arith)
      ∙ take_all slot_words s (omega arith)

  word_before : (i : ℕ) → i < slot_start T k → get_or (with_slot T k s a) i 0 ≡ get_or a i 0
  unfolding with_slot
  word_before i h =
      get_or-append (take (slot_start T k) a) (s ++ drop (slot_start T k + slot_words) a) 0 i (omega (arith, before))
      ∙ get_or-take (slot_start T k) a i 0 h

  word_after : (i : ℕ) → slot_start T k + slot_words ≤ i → get_or (with_slot T k s a) i 0 ≡ get_or a i 0
  unfolding with_slot
  word_after i h =
      let r : ℕ = i - (slot_start T k + slot_words) in
      let past : i ≡ length (take (slot_start T k) a) + (length s + r) = omega (arith, before) in
      let back : slot_start T k + slot_words + r ≡ i = omega arith in
      ap (λ (x : ℕ). get_or (take (slot_start T k) a ++ (s ++ drop (slot_start T k + slot_words) a)) x 0) past
      ∙ (get_or-append-add (take (slot_start T k) a) (s ++ drop (slot_start T k + slot_words) a) (length s + r) 0
      ∙ (get_or-append-add s (drop (slot_start T k + slot_words) a) r 0
      ∙ (get_or-drop (slot_start T k + slot_words) a r 0 ∙ ap (λ (x : ℕ). get_or a x 0) back)))

  slot_elsewhere : (p m : ℕ) → p + m ≤ area_words T n → (p + m ≤ slot_start T k) ⊎ (slot_start T k + slot_words ≤ p)
      → words p m (with_slot T k s a) ≡ words p m a
  slot_elsewhere p m h out = words_same p m (with_slot T k s a) a (omega (arith, slot_length)) (omega arith) (λ i b. go out i b)
    where
      go : (p + m ≤ slot_start T k) ⊎ (slot_start T k + slot_words ≤ p) → (i : ℕ) → i < m → get_or (with_slot T k s a) (p + i) 0 ≡ get_or a (p + i) 0
      go (inl q) i b = word_before (p + i) (omega arith)
      go (inr q) i b = word_after (p + i) (omega arith)

  pub slot_other : (j : ℕ) → j < n → (j ≡ k → ⊥) → slot_at T j (with_slot T k s a) ≡ slot_at T j a
  unfolding slot_at
  slot_other j h q = slot_elsewhere (slot_start T j) slot_words (omega arith) (slots_apart T j k q)

  pub slot_marks : (m : MarkKind) → words (marks_at m T) T (with_slot T k s a) ≡ words (marks_at m T) T a
  slot_marks m = slot_elsewhere (marks_at m T) T (omega (arith, marks_low T m)) (inl (omega (arith, marks_low T m)))

-- ---- a state and a detail

module _ (T k state detail : ℕ) (a : List ℕ) where
  pub state_length : length (with_state T k state detail a) ≡ length a
  unfolding with_state
  state_length = simp length-set

  pub state_own : slot_at T k (with_state T k state detail a) ≡ set (set (slot_at T k a) state_word state) detail_word detail
  unfolding slot_at with_state
  state_own =
      let e : state_at T k ≡ slot_start T k + state_word = omega arith in
      words_set_in (slot_start T k) slot_words detail_word detail (set a (state_at T k) state) (omega arith)
      ∙ ap (λ (x : List ℕ). set x detail_word detail)
      (ap (λ (i : ℕ). words (slot_start T k) slot_words (set a i state)) e ∙ words_set_in (slot_start T k) slot_words state_word state a (omega arith))

  pub state_back : slot_start T k + slot_words ≤ length a → state_of T k (with_state T k state detail a) ≡ state
  unfolding state_of with_state
  state_back lies =
      get_or-set_other (set a (state_at T k) state) (detail_at T k) (state_at T k) detail 0 (λ e. omega arith)
      ∙ get_or-set_same a (state_at T k) state 0 (omega arith)

  pub detail_back : slot_start T k + slot_words ≤ length a → detail_of T k (with_state T k state detail a) ≡ detail
  unfolding detail_of with_state
  detail_back lies = get_or-set_same (set a (state_at T k) state) (detail_at T k) detail 0 (simp length-set (omega arith))

  state_elsewhere : (p m : ℕ) → (p + m ≤ slot_start T k) ⊎ (slot_start T k + slot_words ≤ p) → words p m (with_state T k state detail a) ≡ words p m a
  unfolding with_state
  state_elsewhere p m out =
      words_set_out p m (detail_at T k) detail (set a (state_at T k) state) (past detail_word (omega arith) (detail_at T k) refl out)
      ∙ words_set_out p m (state_at T k) state a (past state_word (omega arith) (state_at T k) (omega arith) out)
    where
      past : (i : ℕ) → i < slot_words → (x : ℕ) → x ≡ slot_start T k + i → (p + m ≤ slot_start T k) ⊎ (slot_start T k + slot_words ≤ p)
          → (x < p) ⊎ (p + m ≤ x)
      past i h x e (inl q) = inr (omega arith)
      past i h x e (inr q) = inl (omega arith)

  pub state_other : (j : ℕ) → (j ≡ k → ⊥) → slot_at T j (with_state T k state detail a) ≡ slot_at T j a
  unfolding slot_at
  state_other j q = state_elsewhere (slot_start T j) slot_words (slots_apart T j k q)

  pub state_marks : (m : MarkKind) → words (marks_at m T) T (with_state T k state detail a) ≡ words (marks_at m T) T a
  state_marks m = state_elsewhere (marks_at m T) T (inl (omega (arith, marks_low T m)))

-- ---- reservations

pub reserve_length : (at k : ℕ) (cs a : List ℕ) → length (reserve at cs k a) ≡ length a
unfolding reserve
reserve_length at k [] a = refl
reserve_length at k (c ∷ cs) a = reserve_length at k cs _ ∙ length-set a (at + c) _

-- in the marks that they are made in, which begin at the place
reserve_inside : (at T k : ℕ) (cs a : List ℕ) → ((c : ℕ) → has c cs ≡ true → c < T)
    → words at T (reserve at cs k a) ≡ reserve 0 cs k (words at T a)
unfolding reserve
reserve_inside at T k [] a f = refl
reserve_inside at T k (c ∷ cs) a f =
    let h : c < T = f c (has_head c cs) in
    let e : c ≡ 0 + c = omega arith in
    let v : ℕ = lower (get_or a (at + c) 0) (mark_of k) in
    reserve_inside at T k cs (set a (at + c) v) (λ d g. f d (has_tail d c cs g))
    ∙ ap (reserve 0 cs k)
    (words_set_in at T c v a h
    ∙ (ap (λ (m : ℕ). set (words at T a) c (lower m (mark_of k))) (sym (words_at at T a c h))
    ∙ ap (λ (x : ℕ). set (words at T a) x (lower (get_or (words at T a) x 0) (mark_of k))) e))

-- and in words that are none of these
reserve_outside : (at T k p m : ℕ) (cs a : List ℕ) → ((c : ℕ) → has c cs ≡ true → c < T) → (at + T ≤ p) ⊎ (p + m ≤ at)
    → words p m (reserve at cs k a) ≡ words p m a
unfolding reserve
reserve_outside at T k p m [] a f out = refl
reserve_outside at T k p m (c ∷ cs) a f out =
    reserve_outside at T k p m cs (set a (at + c) _) (λ d g. f d (has_tail d c cs g)) out
    ∙ words_set_out p m (at + c) _ a (go (f c (has_head c cs)) out)
  where
    go : c < T → (at + T ≤ p) ⊎ (p + m ≤ at) → (at + c < p) ⊎ (p + m ≤ at + c)
    go l (inl q) = inl (omega arith)
    go l (inr q) = inr (omega arith)

module _ (T k : ℕ) (cs a : List ℕ) (f : (c : ℕ) → has c cs ≡ true → c < T) where
  pub reserve_own : (m : MarkKind) → words (marks_at m T) T (reserve (marks_at m T) cs k a) ≡ reserve 0 cs k (words (marks_at m T) T a)
  reserve_own m = reserve_inside (marks_at m T) T k cs a f

  -- the marks of another kind, and every slot
  pub reserve_read_marks : words (marks_at Read T) T (reserve (marks_at Write T) cs k a) ≡ words (marks_at Read T) T a
  reserve_read_marks = reserve_outside (marks_at Write T) T k (marks_at Read T) T cs a f (inl (omega arith))

  pub reserve_write_marks : words (marks_at Write T) T (reserve (marks_at Read T) cs k a) ≡ words (marks_at Write T) T a
  reserve_write_marks = reserve_outside (marks_at Read T) T k (marks_at Write T) T cs a f (inr (omega arith))

  pub reserve_slot : (m : MarkKind) (j : ℕ) → slot_at T j (reserve (marks_at m T) cs k a) ≡ slot_at T j a
  unfolding slot_at
  reserve_slot m j = reserve_outside (marks_at m T) T k (slot_start T j) slot_words cs a f (inl (omega (arith, marks_low T m)))
