-- The ways through `print_ages`: at the start, past a height that is printed, at one that is not, and at the end (`ages_laws`). Assumes nothing.
use mathlib.Core.Path.{◌≡◌, refl, sym, ap, ◌∙◌}
use mathlib.Core.List.{List, [], ◌∷◌}
use Prim.Native.Nat.{ℕ, zero, suc, ◌+◌, ◌≤◌, ◌<◌}
use native.Mathlib.Omega.{arith}
use native.Mathlib.Decide.{ℕ_discrete}
use lib.ListN.{length, get_or, set, length-set}
use lib.Seq.{get_or-set_same, get_or-set_other}
use lib.Ieee.{Float, nan}
use Rattle.real.specs.Printed.{printed_of}
use Rattle.newick.specs.Copies.{too_old, aged, and_aged, ages_of}
use Rattle.newick_write.specs.Given.{Printing}
use Rattle.std.specs.Prelude.{Option, Some, None}

-- ---- of a list of heights

-- all are printed
all-aged : (xs : List Float) (l : List ℕ) → length l ≡ length xs
    → ((j : ℕ) → j < length xs → printed_of (get_or xs j nan) ≡ Some (get_or l j 0)) → aged l ≡ ages_of xs
unfolding ages_of
all-aged [] [] e h = refl
all-aged [] (y ∷ l) e h = absurd (omega arith)
all-aged (x ∷ xs) [] e h = absurd (omega arith)
all-aged (x ∷ xs) (y ∷ l) e h =
    let r : aged l ≡ ages_of xs = all-aged xs l (omega arith) (λ j J. h (suc j) (omega arith)) in
    ap (and_aged (Some y)) r ∙ ap (λ (p : Option ℕ). and_aged p (ages_of xs)) (sym (h 0 (omega arith)))

old-and : (p : Option ℕ) → too_old ≡ and_aged p too_old
old-and None = refl
old-and (Some c) = refl

-- one is not
one-old : (xs : List Float) (k : ℕ) → k < length xs → printed_of (get_or xs k nan) ≡ None → too_old ≡ ages_of xs
unfolding ages_of
one-old [] k K e = absurd (omega arith)
one-old (x ∷ xs) zero K e = ap (λ (p : Option ℕ). and_aged p (ages_of xs)) (sym e)
one-old (x ∷ xs) (suc k) K e = old-and (printed_of x) ∙ ap (and_aged (printed_of x)) (one-old xs k (omega arith) e)

-- ---- the first k are printed

pub printing-none : (heights : List Float) (ages : List ℕ) → length ages ≡ length heights → Printing heights ages 0
printing-none heights ages e = record { fit = omega arith; long = e; done = λ j J. absurd (omega arith) }

module _ (heights : List Float) (ages : List ℕ) (k : ℕ) (P : Printing heights ages k) where
  printing-place : k < length heights → k < length ages
  printing-place h = let l = P.long in omega arith

  pub printing-next : k < length heights → (p : Option ℕ) → p ≡ printed_of (get_or heights k nan) → (c : ℕ) → p ≡ Some c
      → Printing heights (set ages k c) (k + 1)
  printing-next h p e c f = record { fit = omega arith; long = length-set ages k c ∙ P.long; done = λ j J. pick j J (ℕ_discrete j k) }
    where
      pick : (j : ℕ) → j < k + 1 → Dec (j ≡ k) → printed_of (get_or heights j nan) ≡ Some (get_or (set ages k c) j 0)
      pick j J (yes q) = rw q (sym e ∙ f ∙ ap Some (sym (get_or-set_same ages k c 0 (printing-place h))))
      pick j J (no q) = P.done j (omega arith) ∙ ap Some (sym (get_or-set_other ages k j c 0 q))

  pub printing-old : k < length heights → (p : Option ℕ) → p ≡ printed_of (get_or heights k nan) → p ≡ None → too_old ≡ ages_of heights
  printing-old h p e f = one-old heights k h (sym e ∙ f)

  pub printing-all : length heights ≤ k → aged ages ≡ ages_of heights
  printing-all h = all-aged heights ages P.long (λ j J. P.done j (omega arith))

pub ruleset ages_laws = (printing-none, printing-next, printing-old, printing-all)
