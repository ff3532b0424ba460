-- The ways through the code that fills the parents: one child (`adopt_laws`), both children of a node (`visit_laws`), all nodes (`scan_laws`).
-- Assumes nothing.
use mathlib.Core.Path.{◌≡◌, sym, ap, ◌∙◌}
use mathlib.Core.List.{List}
use Prim.Native.Nat.{ℕ, zero, suc, ◌+◌, ◌-◌, ◌≤◌, ◌<◌}
use native.Mathlib.Omega.{arith}
use native.Mathlib.Numerals.{add-one}
use lib.ListN.{length, get_or, set}
use borrow.Author.Tests.{lt-ltb, le-ltb, lt-leb, le-leb, eq-eqb, ne_eqb}
use Rattle.answer.specs.declared.Refusal.{Refusal}
use Rattle.answer.specs.declared.Refusal.TheVariants.{Shape}
use Rattle.tree.specs.PlaceLaws.{next_place}
use Rattle.tree.specs.New.{stopped, filled, adopt, then_adopt, visit, scan}
use Rattle.tree.specs.Given.{scan_of, Scans}
use Rattle.std.specs.Prelude.{Result, Ok, Err}

-- ---- one child

module _ (k c : ℕ) (ps : List ℕ) where
  pub adopt-out : length ps ≤ c → stopped (Shape k) ≡ adopt (length ps) k c ps
  unfolding adopt
  adopt-out a = rw (le-leb _ _ a)

  pub adopt-self : c < length ps → c ≡ k → stopped (Shape k) ≡ adopt (length ps) k c ps
  unfolding adopt
  adopt-self a b = rw (lt-leb _ _ a, eq-eqb _ _ b)

  pub adopt-taken : c < length ps → (c ≡ k → ⊥) → (get_or ps c 0 ≡ 65535 → ⊥) → stopped (Shape c) ≡ adopt (length ps) k c ps
  unfolding adopt
  adopt-taken a b d = rw (lt-leb _ _ a, ne_eqb _ _ b, ne_eqb _ _ d)

  pub adopt-done : c < length ps → (c ≡ k → ⊥) → get_or ps c 0 ≡ 65535 → filled (set ps c k) ≡ adopt (length ps) k c ps
  unfolding adopt
  adopt-done a b d = rw (lt-leb _ _ a, ne_eqb _ _ b, eq-eqb _ _ d)

pub ruleset adopt_laws = (adopt-out, adopt-self, adopt-taken, adopt-done)

-- ---- both children of a node

module _ (pairs ps : List ℕ) (k : ℕ) where
  pub visit-equal : length ps < k + k → get_or pairs (k + k) 0 ≡ get_or pairs (k + k + 1) 0 → stopped (Shape k) ≡ visit (length ps) pairs k (filled ps)
  unfolding visit
  visit-equal i e = rw (lt-ltb _ _ i, ← next_place pairs k, eq-eqb _ _ e)

  module _ (i : length ps < k + k) (e : get_or pairs (k + k) 0 ≡ get_or pairs (k + k + 1) 0 → ⊥) (r : Result (Unit {0}) Refusal) (qs : List ℕ) (a : scan_of r qs ≡ adopt (length ps) k (get_or pairs (k + k) 0) ps) where
    pub visit-first : (why : Refusal) → r ≡ Err why → stopped why ≡ visit (length ps) pairs k (filled ps)
    unfolding visit then_adopt
    visit-first why b = rw (lt-ltb _ _ i, ← next_place pairs k, ne_eqb _ _ e, ← a, b)

    pub visit-both : (r' : Result (Unit {0}) Refusal) (qs' : List ℕ) → r ≡ Ok tt → length qs ≡ length ps → scan_of r' qs' ≡ adopt (length qs) k (get_or pairs (k + k + 1) 0) qs → scan_of r' qs' ≡ visit (length ps) pairs k (filled ps)
    unfolding visit then_adopt
    visit-both r' qs' b l d = rw (lt-ltb _ _ i, ← next_place pairs k, ne_eqb _ _ e, ← a, b, ← l, d)

  pub visit-tip : k + k ≤ length ps → get_or pairs (k + k) 0 ≡ 65535 → get_or pairs (k + k + 1) 0 ≡ 65535 → filled ps ≡ visit (length ps) pairs k (filled ps)
  unfolding visit
  visit-tip i a b = rw (le-ltb _ _ i, ← next_place pairs k, eq-eqb _ _ a, eq-eqb _ _ b)

  pub visit-second : k + k ≤ length ps → get_or pairs (k + k) 0 ≡ 65535 → (get_or pairs (k + k + 1) 0 ≡ 65535 → ⊥) → stopped (Shape k) ≡ visit (length ps) pairs k (filled ps)
  unfolding visit
  visit-second i a b = rw (le-ltb _ _ i, ← next_place pairs k, eq-eqb _ _ a, ne_eqb _ _ b)

  pub visit-one : k + k ≤ length ps → (get_or pairs (k + k) 0 ≡ 65535 → ⊥) → stopped (Shape k) ≡ visit (length ps) pairs k (filled ps)
  unfolding visit
  visit-one i a = rw (le-ltb _ _ i, ne_eqb _ _ a)

pub ruleset visit_laws = (visit-equal, visit-first, visit-both, visit-tip, visit-second, visit-one)

-- ---- all nodes

scan-keeps : (n : ℕ) (pairs : List ℕ) (m d : ℕ) (why : Refusal) → scan n pairs m ≡ stopped why → scan n pairs (d + m) ≡ stopped why
unfolding scan visit
scan-keeps n pairs m zero why e = let z : zero + m ≡ m = omega arith in rw z e
scan-keeps n pairs m (suc d) why e = let z : suc d + m ≡ suc (d + m) = omega arith in rw (z, scan-keeps n pairs m d why e)

module _ (pairs ps₀ ps : List ℕ) (m : ℕ) where
  pub scan-start : Scans pairs ps₀ → scan (length ps₀) pairs 0 ≡ filled ps₀
  unfolding scan
  scan-start s = ap filled (sym s.blank)

  module _ (i : scan (length ps₀) pairs m ≡ filled ps) (l : length ps ≡ length ps₀) where
    module _ (r : Result (Unit {0}) Refusal) (qs : List ℕ) (e : scan_of r qs ≡ visit (length ps) pairs m (filled ps)) where
      pub scan_step : r ≡ Ok tt → scan (length ps₀) pairs (m + 1) ≡ filled qs
      unfolding scan
      scan_step y = rw (add-one, i, ← l, ← e, y)

      pub scan-stop : (why : Refusal) → m < length ps → r ≡ Err why → stopped why ≡ scan (length ps₀) pairs (length ps₀)
      unfolding scan
      scan-stop why h y =
          let d = length ps₀ - suc m in
          let z : length ps₀ ≡ d + suc m = omega arith in
          sym (ap (scan (length ps₀) pairs) z ∙ scan-keeps (length ps₀) pairs (suc m) d why (rw (i, ← l, ← e, y)))

    pub scan-end : length ps ≤ m → m ≤ length ps → filled ps ≡ scan (length ps₀) pairs (length ps₀)
    scan-end a b = let z : length ps₀ ≡ m = omega arith in rw z (sym (rw z at i))

pub ruleset scan_laws = (scan-start, scan_step, scan-stop, scan-end)
