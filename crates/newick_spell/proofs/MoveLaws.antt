-- What a byte that leads a reader on does to the open parentheses (`moved`): an opening parenthesis opens one, a comma ends the first subtree of the innermost,
-- a closing one closes it, and any byte behind the comma leaves all as they are; and what the pass then knows of them. Assumes nothing.
use mathlib.Core.Path.{◌≡◌, refl, sym, ap, ◌∙◌, subst}
use mathlib.Core.Bool.{Bool, true, false}
use mathlib.Core.List.{List, [], ◌∷◌}
use Prim.Native.Nat.{ℕ, suc, ◌+◌, ◌-◌, ◌*◌, ◌<◌}
use native.Mathlib.Omega.{arith}
use native.Mathlib.Numerals.{add-one}
use lib.Dec.{eqb}
use lib.ListN.{length, get_or, set}
use borrow.Author.Tests.{eq-eqb, ne_eqb, eqb-true}
use Rattle.text.specs.Rules.{is_decimal}
use Rattle.text.specs.DigitLaws.{decimal-within}
use Rattle.newick.specs.Newick.{Newick, tip, join, Frame, first, second, Mode, start, sub, name, made, colon, whole, point, tenths, hundredths, branch, done}
use Rattle.newick.specs.Newick.{Step, stuck, to, on, or_else, on_digit, on_more, step}
use Rattle.newick_spell.specs.Stands.{is_second, comma_under, Kept, Begun, Knows}
use Rattle.newick_spell.proofs.SideLaws.{told-open, told-close, told-on, kept-open}

-- ---- what a byte does to the open parentheses

pub data Moved (b : ℕ) : Mode → List Frame → Mode → List Frame → Type 0 where
  opens : {m : Mode} {fs : List Frame} → ((r : List ℕ) → Begun m r fs → eqb (get_or r 0 0) 44 ≡ is_second fs) → b ≡ 40 → Moved b m fs sub (first ∷ fs)
  turns : {m : Mode} {fs : List Frame} {t : Newick} {x : ℕ} → b ≡ 44 → Moved b m (first ∷ fs) sub (second t x ∷ fs)
  closes : {m : Mode} {fs : List Frame} {a t : Newick} {y : ℕ} → b ≡ 41 → Moved b m (second a y ∷ fs) (made t) fs
  stays : {m m' : Mode} {fs : List Frame} → ((r : List ℕ) → Begun m' r fs) → 44 < b → Moved b m fs m' fs

abbrev pub Moves : ℕ → Mode → List Frame → Step → Type 0
Moves b m fs stuck = Unit
Moves b m fs (to m' fs') = Moved b m fs m' fs'

module _ (b : ℕ) (m : Mode) (fs : List Frame) where
  on-moves : (t : Bool) (m' : Mode) (fs' : List Frame) → (t ≡ true → Moved b m fs m' fs') → Moves b m fs (on t m' fs')
  on-moves true m' fs' h = h refl
  on-moves false m' fs' h = tt

  or-moves : (t : Bool) (p q : Step) → (t ≡ true → Moves b m fs p) → Moves b m fs q → Moves b m fs (or_else t p q)
  or-moves true p q h k = h refl
  or-moves false p q h k = k

  sign-moved : (c : ℕ) (m' : Mode) → 44 < c → ((r : List ℕ) → Begun m' r fs) → eqb b c ≡ true → Moved b m fs m' fs
  sign-moved c m' h g e = let z : b ≡ c = eqb-true b c e in stays g (omega arith)

  digit-moves : (f : ℕ → Mode) → ((d : ℕ) (r : List ℕ) → Begun (f d) r fs) → Moves b m fs (on_digit b f fs)
  digit-moves f g = on-moves (is_decimal b) (f (b - 48)) fs λ e. let l = (decimal-within b e).0 in stays (g (b - 48)) (omega arith)

  more-moves : (v : ℕ) (f : ℕ → Mode) → ((d : ℕ) (r : List ℕ) → Begun (f d) r fs) → Moves b m fs (on_more v b f fs)
  more-moves v f g = or-moves (eqb v 0) stuck (on_digit b (λ d. f (v * 10 + d)) fs) (λ e. tt) (digit-moves (λ d. f (v * 10 + d)) (λ d. g (v * 10 + d)))

pub moved : (m : Mode) (fs : List Frame) (b : ℕ) → Moves b m fs (step m fs b)
unfolding step
moved start fs b = on-moves b start fs (eqb b 40) sub (first ∷ fs) λ e. opens (λ r h. h) (eqb-true b 40 e)
moved sub fs b = or-moves b sub fs (eqb b 40) (to sub (first ∷ fs)) (on_digit b name fs) (λ e. opens (λ r h. h) (eqb-true b 40 e))
    (digit-moves b sub fs name (λ d r. tt))
moved (name k) fs b = or-moves b (name k) fs (eqb b 58) (to (colon (tip k)) fs) (on_more k b name fs)
    (sign-moved b (name k) fs 58 (colon (tip k)) (omega arith) (λ r. tt)) (more-moves b (name k) fs k name (λ d r. tt))
moved (made t) [] b = on-moves b (made t) [] (eqb b 59) (done t) [] (sign-moved b (made t) [] 59 (done t) (omega arith) (λ r. tt))
moved (made t) (f ∷ fs) b = on-moves b (made t) (f ∷ fs) (eqb b 58) (colon t) (f ∷ fs)
    (sign-moved b (made t) (f ∷ fs) 58 (colon t) (omega arith) (λ r. tt))
moved (colon t) fs b = digit-moves b (colon t) fs (whole t) (λ d r. tt)
moved (whole t w) fs b = or-moves b (whole t w) fs (eqb b 46) (to (point t w) fs) (on_more w b (whole t) fs)
    (sign-moved b (whole t w) fs 46 (point t w) (omega arith) (λ r. tt)) (more-moves b (whole t w) fs w (whole t) (λ d r. tt))
moved (point t w) fs b = digit-moves b (point t w) fs (λ d. tenths t (w * 10 + d)) (λ d r. tt)
moved (tenths t w) fs b = digit-moves b (tenths t w) fs (λ d. hundredths t (w * 10 + d)) (λ d r. tt)
moved (hundredths t w) fs b = digit-moves b (hundredths t w) fs (λ d. branch t (w * 10 + d)) (λ d r. tt)
moved (branch t x) [] b = tt
moved (branch t x) (first ∷ fs) b = on-moves b (branch t x) (first ∷ fs) (eqb b 44) sub (second t x ∷ fs) λ e. turns (eqb-true b 44 e)
moved (branch t x) (second a y ∷ fs) b = on-moves b (branch t x) (second a y ∷ fs) (eqb b 41) (made (join a y t x)) fs λ e. closes (eqb-true b 41 e)
moved (done t) fs b = tt

-- ---- what the pass knows then

module _ {b : ℕ} {r : List ℕ} {d : ℕ} {side : Bool} {l : List Bool} where
  pub knows_on : {m m' : Mode} {fs fs' : List Frame} → Moved b m fs m' fs' → 44 < b → Knows r m fs d side l → Knows (b ∷ r) m' fs' d side l
  knows_on (opens g e) h K = absurd (omega arith)
  knows_on (turns e) h K = absurd (omega arith)
  knows_on (closes e) h K = absurd (omega arith)
  knows_on (stays {fs = gs} g e) h K = record {
    depth = K.depth;
    side = K.side;
    told = told-on b r gs (λ z. omega arith) (λ z. omega arith) K.told;
    kept = K.kept;
    begun = g (b ∷ r);
  }

  pub knows-comma : {m m' : Mode} {fs fs' : List Frame} → Moved b m fs m' fs' → b ≡ 44 → Knows r m fs d side l → Knows (b ∷ r) m' fs' d true l
  knows-comma (opens g e) h K = absurd (omega arith)
  knows-comma (turns {fs = gs} e) h K = record {
    depth = K.depth;
    side = refl;
    told = told-on b r (first ∷ gs) (λ z. omega arith) (λ z. omega arith) K.told;
    kept = K.kept;
    begun = eq-eqb b 44 e;
  }
  knows-comma (closes e) h K = absurd (omega arith)
  knows-comma (stays g e) h K = absurd (omega arith)

  pub knows-open : {m m' : Mode} {fs fs' : List Frame} → Moved b m fs m' fs' → b ≡ 40 → Knows r m fs d side l
      → Knows (b ∷ r) m' fs' (d + 1) false (set l d side)
  knows-open (opens {fs = gs} g e) h K = let z : d ≡ length gs = K.depth in record {
    depth = add-one d ∙ ap suc z;
    side = refl;
    told = told-open b r gs e (g r K.begun) K.told;
    kept = subst (λ (i : ℕ). Kept (set l i side) (first ∷ gs)) (sym z) (kept-open gs l side K.side K.kept);
    begun = ne_eqb b 44 (λ q. omega arith);
  }
  knows-open (turns e) h K = absurd (omega arith)
  knows-open (closes e) h K = absurd (omega arith)
  knows-open (stays g e) h K = absurd (omega arith)

  pub knows-close : {m m' : Mode} {fs fs' : List Frame} → Moved b m fs m' fs' → b ≡ 41 → Knows r m fs d side l → Knows (b ∷ r) m' fs' (d - 1) (comma_under 0 r) l
  knows-close (opens g e) h K = absurd (omega arith)
  knows-close (turns e) h K = absurd (omega arith)
  knows-close (closes {fs = gs} {a = a} {y = y} e) h K = let z : d ≡ suc (length gs) = K.depth in record {
    depth = omega arith;
    side = K.told 0;
    told = told-close b r gs (second a y) e K.told;
    kept = K.kept.1;
    begun = tt;
  }
  knows-close (stays g e) h K = absurd (omega arith)

  -- one was open, and a list that has room for its side has the side around it
  pub closes-one : {m m' : Mode} {fs fs' : List Frame} → Moved b m fs m' fs' → b ≡ 41 → Knows r m fs d side l
      → (0 < d) × (d - 1 < length l → get_or l (d - 1) false ≡ comma_under 0 r)
  closes-one (opens g e) h K = absurd (omega arith)
  closes-one (turns e) h K = absurd (omega arith)
  closes-one (closes {fs = gs} e) h K =
      let z : d ≡ suc (length gs) = K.depth in
      let o : d - 1 ≡ length gs = omega arith in
      (omega arith, λ j. ap (λ (i : ℕ). get_or l i false) o ∙ K.kept.0 (subst (λ (i : ℕ). i < length l) o j) ∙ sym (K.told 0))
  closes-one (stays g e) h K = absurd (omega arith)
