-- A finite float as what it is over zero less what it is under zero, one of them being 0, over a common denominator (`over`, `under`, `den`).
-- On these three naturals the comparisons of two finite floats are linear inequalities, whatever the signs (`lt→less`, `less→lt`,
-- `le→most`, `most→le`, `nlt→most`, `nle→less`). -0.0 equals 0.0. No float has to fit a format. Assumes nothing.
use Rattle.std.specs.Prelude.{◌≡◌, ◌⊎◌, Bool, true, false, not, ◌||◌, ℕ, ◌+◌, ◌*◌, ◌≤◌, ◌<◌, T, eqb, Float}
use Rattle.std.proofs.Common.{inl, inr, le_of_lt, le_of_eq, le_of_suc-le-suc, lt_of_not-le, eq-or-lt_of_le, arith, T_not, eqb→eq, ltb→lt, lt→ltb}
use Rattle.std.specs.Bool.{beq}
use Rattle.std.specs.Float.{nan, inf, fin}
use Rattle.std.specs.Float.Ieee.{up, down, level, lt, le, eq}
use Rattle.std.specs.Float.Ieee.Fits.{and_i, and_l, and_r, eq→eqb}
use Rattle.std.specs.Float.Ieee.Positive.{den}
use Rattle.std.specs.Float.Ieee.Scale.{finite}

abbrev pub over : Float → ℕ
over nan = 0
over (inf s) = 0
over (fin true m e) = 0
over (fin false m e) = m * up e

abbrev pub under : Float → ℕ
under nan = 0
under (inf s) = 0
under (fin true m e) = m * up e
under (fin false m e) = 0

-- x < y and x ≤ y, without a difference or a fraction
abbrev pub Less : Float → Float → Type 0
Less x y = over x * den y + under y * den x < over y * den x + under x * den y

abbrev pub Most : Float → Float → Type 0
Most x y = over x * den y + under y * den x ≤ over y * den x + under x * den y

pub lt→less : (x y : Float) → T (finite x) → T (finite y) → T (lt x y) → Less x y
unfolding lt
lt→less nan y p q h = absurd p
lt→less (inf s) y p q h = absurd p
lt→less (fin s m e) nan p q h = absurd q
lt→less (fin s m e) (inf t) p q h = absurd q
lt→less (fin false m e) (fin false n d) p q h = let g = ltb→lt (m * up e * down d) (n * up d * down e) h in omega (arith, g)
lt→less (fin false m e) (fin true n d) p q h = absurd h
lt→less (fin true m e) (fin false n d) p q h = let g = ltb→lt 0 (m * up e * down d + n * up d * down e) h in omega (arith, g)
lt→less (fin true m e) (fin true n d) p q h = let g = ltb→lt (n * up d * down e) (m * up e * down d) h in omega (arith, g)

pub less→lt : (x y : Float) → T (finite x) → T (finite y) → Less x y → T (lt x y)
unfolding lt
less→lt nan y p q h = absurd p
less→lt (inf s) y p q h = absurd p
less→lt (fin s m e) nan p q h = absurd q
less→lt (fin s m e) (inf t) p q h = absurd q
less→lt (fin false m e) (fin false n d) p q h = lt→ltb (m * up e * down d) (n * up d * down e) (omega arith)
less→lt (fin false m e) (fin true n d) p q h = absurd (omega arith)
less→lt (fin true m e) (fin false n d) p q h = lt→ltb 0 (m * up e * down d + n * up d * down e) (omega arith)
less→lt (fin true m e) (fin true n d) p q h = lt→ltb (n * up d * down e) (m * up e * down d) (omega arith)

pub nlt→most : (x y : Float) → T (finite x) → T (finite y) → T (not (lt x y)) → Most y x
nlt→most x y p q h = le_of_suc-le-suc (lt_of_not-le (λ (g : Less x y). T_not (lt x y) h (less→lt x y p q g)))

-- ---- `le` is `lt` or `eq`

pub or_l : (a b : Bool) → T a → T (a || b)
or_l true b h = tt
or_l false b h = absurd h

pub or_r : (a b : Bool) → T b → T (a || b)
or_r true b h = tt
or_r false b h = h

or_split : (a b : Bool) → T (a || b) → T a ⊎ T b
or_split true b h = inl tt
or_split false b h = inr h

abbrev Same : Float → Float → Type 0
Same x y = over x * den y + under y * den x ≡ over y * den x + under x * den y

eq→same : (x y : Float) → T (finite x) → T (finite y) → T (eq x y) → Same x y
unfolding eq
eq→same nan y p q h = absurd p
eq→same (inf s) y p q h = absurd p
eq→same (fin s m e) nan p q h = absurd q
eq→same (fin s m e) (inf t) p q h = absurd q
eq→same (fin s m e) (fin t n d) p q h = go s t (eqb→eq a b (and_l (eqb a b) (beq s t || eqb a 0) h)) (and_r (eqb a b) (beq s t || eqb a 0) h)
  where
    a : ℕ
    a = m * up e * down d

    b : ℕ
    b = n * up d * down e

    go : (s t : Bool) → a ≡ b → T (beq s t || eqb a 0) → Same (fin s m e) (fin t n d)
    go false false k z = omega arith
    go false true k z = let g = eqb→eq a 0 z in omega (arith, g)
    go true false k z = let g = eqb→eq a 0 z in omega (arith, g)
    go true true k z = omega arith

same→eq : (x y : Float) → T (finite x) → T (finite y) → Same x y → T (eq x y)
unfolding eq
same→eq nan y p q h = absurd p
same→eq (inf s) y p q h = absurd p
same→eq (fin s m e) nan p q h = absurd q
same→eq (fin s m e) (inf t) p q h = absurd q
same→eq (fin s m e) (fin t n d) p q h = go s t h
  where
    a : ℕ
    a = m * up e * down d

    b : ℕ
    b = n * up d * down e

    go : (s t : Bool) → Same (fin s m e) (fin t n d) → T (level s a t b)
    go false false k = and_i (eqb a b) true (eq→eqb {a = a} {b = b} (omega arith)) tt
    go false true k = and_i (eqb a b) (eqb a 0) (eq→eqb {a = a} {b = b} (omega arith)) (eq→eqb {a = a} {b = 0} (omega arith))
    go true false k = and_i (eqb a b) (eqb a 0) (eq→eqb {a = a} {b = b} (omega arith)) (eq→eqb {a = a} {b = 0} (omega arith))
    go true true k = and_i (eqb a b) true (eq→eqb {a = a} {b = b} (omega arith)) tt

pub le→most : (x y : Float) → T (finite x) → T (finite y) → T (le x y) → Most x y
unfolding le
le→most x y p q h = elim (or_split (lt x y) (eq x y) h) [ inl l ↦ le_of_lt (lt→less x y p q l) | inr e ↦ le_of_eq (eq→same x y p q e) ]

pub most→le : (x y : Float) → T (finite x) → T (finite y) → Most x y → T (le x y)
unfolding le
most→le x y p q h = elim (eq-or-lt_of_le h) [ inl e ↦ or_r (lt x y) (eq x y) (same→eq x y p q e) | inr l ↦ or_l (lt x y) (eq x y) (less→lt x y p q l) ]

pub nle→less : (x y : Float) → T (finite x) → T (finite y) → T (not (le x y)) → Less y x
nle→less x y p q h = lt_of_not-le (λ (g : Most x y). T_not (le x y) h (most→le x y p q g))
