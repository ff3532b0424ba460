-- The tests of a tip's two ages (`age_laws`), the ways through the tips of a table (`table_laws`), the call on a table by itself (`validate_laws`), and the
-- checks of a call on a tree with a table (`check_laws`). Assumes nothing.
use mathlib.Core.Path.{◌≡◌}
use mathlib.Core.Bool.{Bool, true, false, not, ◌&&◌, ◌||◌}
use Rattle.std.specs.Prelude.{refl}
use Rattle.std.specs.Float.{nan, inf, fin}
use Rattle.std.specs.Float.Ieee.{lt, le, eq, of_bits}
use Rattle.std.specs.Float.Ieee.Scale.{finite}
use Rattle.real.specs.Real.{zero, infinity}
use Rattle.real.specs.OrderLaws.{finite-test}
use mathlib.Core.List.{List}
use Prim.Native.Nat.{ℕ}
use lib.Dec.{eqb}
use lib.ListN.{length}
use lib.Ieee.{Float}
use Rattle.answer.specs.declared.Refusal.{Refusal}
use Rattle.answer.specs.declared.Refusal.TheVariants.{Size, Parameter}
use Rattle.tree.specs.Tree.{Tree, nodes_of, tips_of}
use Rattle.tree.specs.New.{counts, validated}
use Rattle.process.specs.declared.FossilizedBirthDeath.{FossilizedBirthDeath}
use Rattle.process.specs.Process.{process_finite}
use Rattle.ages.specs.declared.TipAge.{TipAge}
use Rattle.ages.specs.Ages.{misaged, unsampled, lowest_fault, table_then, table_checked, table_call}
use Rattle.std.specs.Prelude.{Result, Ok, Err}

-- ---- two ages

-- where x is a number that is not below zero, and y not below x, y is finite where it is below infinity
finite-above : (x y : Float) → lt x zero ≡ false → lt x infinity ≡ true → lt y x ≡ false → lt y infinity ≡ finite y
unfolding lt of_bits
finite-above x nan a b c = refl
finite-above x (inf false) a b c = refl
finite-above nan (inf true) a b c = cc
finite-above (inf true) (inf true) a b c = a
finite-above (inf false) (inf true) a b c = c
finite-above (fin s m e) (inf true) a b c = c
finite-above x (fin s m e) a b c = refl

-- and x is at most zero where it equals zero
le-level : (x : Float) → lt x zero ≡ false → le x zero ≡ eq x zero
unfolding le
le-level x h = rw h

-- the tests of the definition and those of the code, by what either says of one float or two
same-tests : (below number number_above under crossed under_above late level most above : Bool) → (below ≡ false → under ≡ number)
    → (below ≡ false → under ≡ true → crossed ≡ false → under_above ≡ number_above) → (below ≡ false → most ≡ level)
    → (not number || not number_above || below || crossed || late || (level && above)) ≡ (below || not under || crossed || not under_above || late || (most && above))
same-tests true true true u c v l z m p f g h = refl
same-tests true true false u c v l z m p f g h = refl
same-tests true false b u c v l z m p f g h = refl
same-tests false false b false c v l z m p f g h = refl
same-tests false false b true c v l z m p f g h = let y : true ≡ false = f refl in cc
same-tests false true b false c v l z m p f g h = let y : false ≡ true = f refl in cc
same-tests false true true true true v l z m p f g h = refl
same-tests false true false true true v l z m p f g h = refl
same-tests false true true true false true l z m p f g h = rw (h refl)
same-tests false true true true false false l z m p f g h = let y : false ≡ true = g refl refl refl in cc
same-tests false true false true false true l z m p f g h = let y : true ≡ false = g refl refl refl in cc
same-tests false true false true false false l z m p f g h = refl

module _ (origin : Float) (a : TipAge) where
  tested : misaged origin a ≡ (lt a.minimum zero || not (lt a.minimum infinity) || lt a.maximum a.minimum || not (lt a.maximum infinity) || le origin a.maximum || (le a.minimum zero && lt zero a.maximum))
  unfolding misaged
  tested = same-tests (lt a.minimum zero) (finite a.minimum) (finite a.maximum) (lt a.minimum infinity) (lt a.maximum a.minimum) (lt a.maximum infinity)
      (le origin a.maximum) (eq a.minimum zero) (le a.minimum zero) (lt zero a.maximum) (finite-test a.minimum) (finite-above a.minimum a.maximum) (le-level a.minimum)

  pub age-below : lt a.minimum zero ≡ true → true ≡ misaged origin a
  age-below h = rw (tested, h)

  module _ (h : lt a.minimum zero ≡ false) where
    pub age-endless : lt a.minimum infinity ≡ false → true ≡ misaged origin a
    age-endless i = rw (tested, h, i)

    module _ (i : lt a.minimum infinity ≡ true) where
      pub age-crossed : lt a.maximum a.minimum ≡ true → true ≡ misaged origin a
      age-crossed c = rw (tested, h, i, c)

      module _ (c : lt a.maximum a.minimum ≡ false) where
        pub age-endless-above : lt a.maximum infinity ≡ false → true ≡ misaged origin a
        age-endless-above j = rw (tested, h, i, c, j)

        module _ (j : lt a.maximum infinity ≡ true) where
          pub age-origin : le origin a.maximum ≡ true → true ≡ misaged origin a
          age-origin k = rw (tested, h, i, c, j, k)

          module _ (k : le origin a.maximum ≡ false) where
            pub age-present : le a.minimum zero ≡ true → lt zero a.maximum ≡ misaged origin a
            age-present z = rw (tested, h, i, c, j, k, z)

            pub age-past : le a.minimum zero ≡ false → le a.minimum zero ≡ misaged origin a
            age-past z = rw (tested, h, i, c, j, k, z)

-- a tip is at the present only where its least age is at most zero
module _ (sampling : Float) (a : TipAge) where
  pub present-past : le a.minimum zero ≡ false → le a.minimum zero ≡ unsampled sampling a
  unfolding unsampled le
  present-past h = past (eq sampling zero) (lt a.minimum zero) (eq a.minimum zero) h
    where
      past : (s below level : Bool) → (below || level) ≡ false → (below || level) ≡ (s && level)
      past true false false h = refl
      past false false false h = refl
      past s true level h = let y : true ≡ false = h in cc
      past s false true h = let y : true ≡ false = h in cc

pub ruleset age_laws = (present-past, age-below, age-endless, age-crossed, age-endless-above, age-origin, age-present, age-past)

-- ---- the tips

-- v is what is said of them
module _ (p : FossilizedBirthDeath) (minima maxima : List Float) (tips : ℕ) (limits : Bool) (v : Result (Unit {0}) Refusal) (e : v ≡ lowest_fault p minima maxima tips) where
  pub table-refused : (why : Refusal) → v ≡ Err why → Err why ≡ table_then p minima maxima tips limits
  table-refused why y = rw (← e, y)

  module _ (y : v ≡ (Ok tt)) where
    pub table-limits : limits ≡ false → Err (Parameter 0) ≡ table_then p minima maxima tips limits
    table-limits h = rw (← e, y, h)

    pub table-passed : limits ≡ true → (Ok tt) ≡ table_then p minima maxima tips limits
    table-passed h = rw (← e, y, h)

pub ruleset table_laws = (table-refused, table-limits, table-passed)

-- ---- the table by itself

-- a is whether n is a number of nodes
module _ (p : FossilizedBirthDeath) (minima maxima : List Float) (n : ℕ) (a : Bool) (ea : a ≡ counts n) where
  pub validate-count : a ≡ false → Err (Size n) ≡ table_call n minima maxima p
  unfolding table_call
  validate-count h = rw (← ea, h)

  -- b is whether its lengths are in order, for m tips
  module _ (ha : a ≡ true) (m : ℕ) (em : m ≡ tips_of n) (b : Bool) (eb : b ≡ (eqb (length minima) m && eqb (length maxima) m)) where
    pub validate-size : b ≡ false → Err (Size n) ≡ table_call n minima maxima p
    unfolding table_call
    validate-size h = rw (← ea, ha, ← em, ← eb, h)

    pub validate-table : b ≡ true → (f : Bool) → f ≡ process_finite p → (r : Result (Unit {0}) Refusal) → r ≡ table_then p minima maxima m f → r ≡ table_call n minima maxima p
    unfolding table_call
    validate-table h f ef r e = rw (← ea, ha, ← em, ← eb, h, ← ef) e

pub ruleset validate_laws = (validate-count, validate-size, validate-table)

-- ---- a tree with a table

module _ (p : FossilizedBirthDeath) (minima maxima : List Float) (t : Tree) (limits : Bool) (m : ℕ) (em : m ≡ tips_of (nodes_of t.pairs)) (b : Bool)
    (eb : b ≡ (eqb (length minima) m && eqb (length maxima) m)) where
  pub check-size : b ≡ false → Err (Size (nodes_of t.pairs)) ≡ table_checked p minima maxima t limits
  check-size h = rw (← em, ← eb, h)

  -- v is what is said of the tree
  module _ (h : b ≡ true) (v : Result (Unit {0}) Refusal) (ev : v ≡ validated t) where
    pub check-tree : (why : Refusal) → v ≡ Err why → Err why ≡ table_checked p minima maxima t limits
    check-tree why y = rw (← em, ← eb, h, ← ev, y)

    pub check-table : v ≡ (Ok tt) → (r : Result (Unit {0}) Refusal) → r ≡ table_then p minima maxima m limits → r ≡ table_checked p minima maxima t limits
    check-table y r e = rw (← em, ← eb, h, ← ev, y) e

pub ruleset check_laws = (check-size, check-tree, check-table)
