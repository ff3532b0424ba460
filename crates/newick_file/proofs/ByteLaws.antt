-- The ways through the code that files a byte. Assumes nothing.
use mathlib.Core.Path.{◌≡◌, sym, ap, ap₂, ◌∙◌}
use mathlib.Core.Bool.{Bool, true, false}
use mathlib.Core.List.{List}
use Prim.Native.Nat.{ℕ, suc, ◌+◌, ◌-◌, ◌*◌, ◌≤◌, min}
use lib.ListN.{get_or, set}
use borrow.Author.Tests.{ne_eqb}
use Rattle.text.specs.Rules.{is_decimal}
use Rattle.text.specs.DigitLaws.{decimal-within}
use Rattle.newick_file.specs.declared.Filer.{Filer}
use Rattle.newick_file.specs.Filing.{most, short, filer, after_digit, after_point, after_tip, after_close, after_other}
use Rattle.newick_file.specs.Filing.{Filing, filing, pairs_closed, ups_ended, file_sign, file_byte}

-- ---- where the pass stands

module _ (q : Filer) where
  pub digit-after : (d v : ℕ) → v ≡ min (q.value * 10 + d) most → filer q.height q.next v false ≡ after_digit d q
  digit-after d v e = ap (λ (x : ℕ). filer q.height q.next x false) e

  pub tip-after : (h : ℕ) → h ≡ short (suc q.height) → filer h q.next 0 false ≡ after_tip q
  tip-after h e = ap (λ (x : ℕ). filer x q.next 0 false) e

  pub close-after : (h n : ℕ) → h ≡ q.height - 1 → n ≡ short (suc q.next) → filer h n 0 true ≡ after_close q
  close-after h n e f = ap₂ (λ (x y : ℕ). filer x y 0 true) e f

pub ruleset after_laws = (digit-after, tip-after, close-after)

-- ---- stores

pub children-put : (h n : ℕ) (st ps : List ℕ) (i j a b : ℕ) → i ≡ h - 2 → a ≡ get_or st i 0 → j ≡ h - 1 → b ≡ get_or st j 0
    → (p q : List ℕ) → p ≡ set ps (n + n) a → q ≡ set p (suc (n + n)) b → q ≡ pairs_closed h n st ps
children-put h n st ps i j a b ei ea ej eb p q ep eq =
    let x : a ≡ get_or st (h - 2) 0 = ea ∙ ap (λ (k : ℕ). get_or st k 0) ei in
    let y : b ≡ get_or st (h - 1) 0 = eb ∙ ap (λ (k : ℕ). get_or st k 0) ej in
    eq ∙ ap₂ (λ (l : List ℕ) (z : ℕ). set l (suc (n + n)) z) (ep ∙ ap (set ps (n + n)) x) y

pub length-put : (h v : ℕ) (st us : List ℕ) (i k : ℕ) → i ≡ h - 1 → k ≡ get_or st i 0 → (l : List ℕ) → l ≡ set us k v → l ≡ ups_ended h v st us
length-put h v st us i k ei ek l e = e ∙ ap (λ (z : ℕ). set us z v) (ek ∙ ap (λ (z : ℕ). get_or st z 0) ei)

pub ruleset put_laws = (children-put, length-put)

-- ---- a byte

module _ (b : ℕ) (q : Filer) (ps us st : List ℕ) (se : List Bool) (r : Filer) where
  pub point-way : b ≡ 46 → r ≡ after_point q → filing ps us st se r ≡ file_sign (filing ps us st se q) b
  unfolding file_sign
  point-way e f = rw e (ap (filing ps us st se) f)

  pub made-way : b ≡ 58 → q.closed ≡ true → r ≡ after_other q → filing ps us st se r ≡ file_sign (filing ps us st se q) b
  unfolding file_sign
  made-way e c f = rw (e, c) (ap (filing ps us st se) f)

  pub tip-way : b ≡ 58 → q.closed ≡ false → (k : ℕ) → k ≡ short q.value → (st' : List ℕ) (se' : List Bool)
      → st' ≡ set st q.height k → se' ≡ set se k true → r ≡ after_tip q → filing ps us st' se' r ≡ file_sign (filing ps us st se q) b
  unfolding file_sign
  tip-way e c k g st' se' f₁ f₂ f = rw (e, c) (λ i. filing ps us ((f₁ ∙ ap (set st q.height) g) i) ((f₂ ∙ ap (λ (z : ℕ). set se z true) g) i) (f i))

  pub comma-way : b ≡ 44 → (us' : List ℕ) → us' ≡ ups_ended q.height q.value st us → r ≡ after_other q
      → filing ps us' st se r ≡ file_sign (filing ps us st se q) b
  unfolding file_sign
  comma-way e us' g f = rw e (λ i. filing ps (g i) st se (f i))

  pub close-way : b ≡ 41 → (us' ps' st' : List ℕ) (j k : ℕ) → us' ≡ ups_ended q.height q.value st us → ps' ≡ pairs_closed q.height q.next st ps
      → j ≡ q.height - 2 → k ≡ short q.next → st' ≡ set st j k → r ≡ after_close q → filing ps' us' st' se r ≡ file_sign (filing ps us st se q) b
  unfolding file_sign
  close-way e us' ps' st' j k g₁ g₂ ej ek g₃ f = rw e (λ i. filing (g₂ i) (g₁ i) ((g₃ ∙ ap₂ (set st) ej ek) i) se (f i))

  pub other_way : (b ≡ 46 → ⊥) → (b ≡ 58 → ⊥) → (b ≡ 44 → ⊥) → (b ≡ 41 → ⊥) → r ≡ after_other q → filing ps us st se r ≡ file_sign (filing ps us st se q) b
  unfolding file_sign
  other_way n₁ n₂ n₃ n₄ f = rw (ne_eqb b 46 n₁, ne_eqb b 58 n₂, ne_eqb b 44 n₃, ne_eqb b 41 n₄) (ap (filing ps us st se) f)

pub ruleset sign_laws = (point-way, made-way, tip-way, comma-way, close-way, other_way)

module _ (b : ℕ) (t : Bool) (e : t ≡ is_decimal b) where
  pub digit_low : t ≡ true → 48 ≤ b
  digit_low h = (decimal-within b (sym e ∙ h)).0

  module _ (q : Filer) (ps us st : List ℕ) (se : List Bool) where
    pub digit-way : t ≡ true → (r : Filer) → r ≡ after_digit (b - 48) q → filing ps us st se r ≡ file_byte (filing ps us st se q) b
    unfolding file_byte
    digit-way h r f = rw (← e, h) (ap (filing ps us st se) f)

    pub sign-way : t ≡ false → (F : Filing) → F ≡ file_sign (filing ps us st se q) b → F ≡ file_byte (filing ps us st se q) b
    unfolding file_byte
    sign-way h F f = rw (← e, h) f

pub ruleset byte_laws = (digit_low, digit-way, sign-way)
