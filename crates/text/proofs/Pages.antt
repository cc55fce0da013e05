-- Laws of writing on a page. Assumes nothing.
use mathlib.Core.Path.{◌≡◌, ◌∙◌, sym, refl, ap}
use mathlib.Core.List.{List, [], ◌++◌, append_assoc, append-nil}
use Prim.Native.Nat.{ℕ, ◌+◌, ◌<◌}
use native.Mathlib.Omega.{arith}
use lib.ListN.{length, drop, take, take-append-drop}
use Rattle.std.proofs.lemmas.Grind.{common_steps, elements}
use Rattle.text.specs.Filled.{texts}
use Rattle.text.specs.Writing.{pasted, Wrote, PageSays}
use Rattle.text.specs.declared.page.Page.{Page}
use Rattle.text.specs.Paper.{Put, Fits}
use Rattle.text.proofs.Fillings.{texts_fit}

pub put_none : (p : Page) → Put p [] p
put_none p = grind (arith, common_steps)

pub put_more : {p q r : Page} {w x : List ℕ} → Put p w q → Put q x r → Put p (w ++ x) r
put_more h k = grind (arith, common_steps)

pub put_room : {p q : Page} {w x : List ℕ} → Fits p (w ++ x) → Put p w q → Fits q x
put_room room h = grind (arith, common_steps)

-- a write on a page is a write at its place
pub put_wrote : {p q : Page} {w : List ℕ} → Put p w q → Wrote p.out.now p.at w q.out.now q.at
unfolding pasted
put_wrote {p} {q} {w} h =
    let d : drop q.at q.out.now ≡ drop q.at p.out.now = grind (arith, elements) in
    let e : drop q.at p.out.now ≡ drop (p.at + length w) p.out.now = ap (λ (i : ℕ). drop i p.out.now) h.at in
    record {
      bytes = sym (take-append-drop q.at q.out.now) ∙ rw (h.front, d, e) refl;
      long = h.long;
      next = h.at;
    }

-- there is one outcome only
pub put_same : {p q r : Page} {w : List ℕ} → Put p w q → Put p w r → ◌≡◌ {A = List ℕ × ℕ} (q.out.now, q.at) (r.out.now, r.at)
put_same {p} {q} {r} {w} h k =
    let e : q.at ≡ r.at = omega (arith, h.at, k.at) in
    let f : take r.at q.out.now ≡ take r.at r.out.now = rw (sym e) (h.front ∙ rw e (sym k.front)) in
    let d : drop r.at q.out.now ≡ drop r.at r.out.now = grind (arith, elements) in
    let a : q.out.now ≡ r.out.now = sym (take-append-drop r.at q.out.now) ∙ rw (f, d, take-append-drop) in
    rw (a, e)

-- ---- a whole page

pub page_done : {p q : Page} {w out out' : List ℕ} {r : ℕ} → p.out.now ≡ out → p.at ≡ 0 → Fits p w → Put p w q → out' ≡ q.out.now → r ≡ q.at
    → PageSays w out r out'
page_done same front room h last place = grind (arith, common_steps)

pub page_bytes : {page out out' : List ℕ} {r : ℕ} → PageSays page out r out' → out' ≡ page ++ drop (length page) out
page_bytes {page} {out} {out'} {r} s =
    let d : drop (length page) out' ≡ drop (length page) out = grind (arith, elements) in
    sym (take-append-drop (length page) out') ∙ rw (d, ← s.answer, s.front)

pub page_same : {page out o o' : List ℕ} {r r' : ℕ} → PageSays page out r o → PageSays page out r' o' → ◌≡◌ {A = ℕ × List ℕ} (r, o) (r', o')
page_same {r = r} {r' = r'} s t =
    let e : r ≡ r' = s.answer ∙ sym t.answer in
    let f = page_bytes s ∙ sym (page_bytes t) in
    rw (e, f)

-- ---- texts one behind the other: those below k are put, and there is room for text k

pub text_room : (f : ℕ → List ℕ) {k n : ℕ} → k < n → {p q : Page} → Put p (texts f k) q → Fits p (texts f n) → Fits q (f k)
text_room f {k} {n} low h room = record { fits = omega (arith, texts_fit f k n low) }

-- ---- a text that is put piece by piece: what stands there, and the rest, which is still to come

pub record Partly (p : Page) (whole : List ℕ) (q : Page) (rest : List ℕ) : Type 0 where
  pub so_far : List ℕ
  pub put : Put p so_far q
  pub is : whole ≡ so_far ++ rest

pub partly_none : (p : Page) (whole : List ℕ) → Partly p whole p whole
partly_none p whole = record { so_far = []; put = put_none p; is = refl }

module _ {p : Page} {whole : List ℕ} {q : Page} {rest : List ℕ} (h : Partly p whole q rest) where
  pub partly_end : rest ≡ [] → Put p whole q
  partly_end e = let f : whole ≡ h.so_far = h.is ∙ rw e (append-nil h.so_far) in rw f h.put

  -- the next piece is x
  module _ (x rest' : List ℕ) (e : rest ≡ x ++ rest') where
    pub partly_room : Fits p whole → Fits q x
    partly_room room = grind (arith, common_steps)

    pub partly_more : {q' : Page} → Put q x q' → Partly p whole q' rest'
    partly_more k = record { so_far = h.so_far ++ x; put = put_more h.put k; is = h.is ∙ rw e (sym (append_assoc h.so_far x rest')) }
