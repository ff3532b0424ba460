-- The sides of the open parentheses, and how the pass stands beside a reader with values. Definitions only. Assumes nothing.
use Rattle.std.specs.Prelude.{◌≡◌, Bool, true, false, cond, List, [], ◌∷◌, ℕ, zero, suc, ◌-◌, ◌≤◌, ◌<◌, eqb, length, get_or, drop}
use Rattle.newick.specs.Newick.{Frame, first, second, Mode, start, sub, name, made, colon, whole, point, tenths, hundredths, branch, done, run, sign}
use Rattle.newick.specs.PlaceLaws.{Fine}
use Rattle.newick_spell.specs.Spelling.{spelling_in, spelling_of}
use Rattle.newick_spell.specs.Spots.{Spot, spot_of}

-- ---- sides

-- the innermost open parenthesis is at its second subtree
abbrev pub is_second : List Frame → Bool
is_second [] = false
is_second (first ∷ fs) = false
is_second (second a x ∷ fs) = true

-- the first i bytes, the last first
unfoldable pub back : ℕ → List ℕ → List ℕ
back zero s = []
back (suc i) s = get_or s i 0 ∷ back i s

-- of a text, the last byte first, a comma stands before the parenthesis that is open with k more open inside it
unfoldable pub comma_under : ℕ → List ℕ → Bool
comma_under k [] = false
comma_under k (b ∷ r) = cond (eqb b (sign "("))
    (cond (eqb k 0) (eqb (get_or r 0 0) (sign ",")) (comma_under (k - 1) r))
    (cond (eqb b (sign ")")) (comma_under (suc k) r) (comma_under k r))

-- a comma stands before the innermost parenthesis that is open at a place
abbrev pub comma_before : List ℕ → ℕ → Bool
comma_before s at = comma_under 0 (back at s)

-- ---- a reader's open parentheses

-- the text tells the side of each but the innermost
abbrev pub Told : List ℕ → List Frame → Type 0
Told r fs = (k : ℕ) → comma_under k r ≡ is_second (drop (suc k) fs)

-- and so does the list as far as it goes, from the outermost on
abbrev pub Kept : List Bool → List Frame → Type 0
Kept l [] = Unit
Kept l (f ∷ fs) = (length fs < length l → get_or l (length fs) false ≡ is_second fs) × Kept l fs

-- where a subtree begins, the byte before it is a comma if it is a second one
abbrev pub Begun : Mode → List ℕ → List Frame → Type 0
Begun start r fs = eqb (get_or r 0 0) (sign ",") ≡ is_second fs
Begun sub r fs = eqb (get_or r 0 0) (sign ",") ≡ is_second fs
Begun (name k) r fs = Unit
Begun (made t) r fs = Unit
Begun (colon t) r fs = Unit
Begun (whole t w) r fs = Unit
Begun (point t w) r fs = Unit
Begun (tenths t w) r fs = Unit
Begun (hundredths t w) r fs = Unit
Begun (branch t x) r fs = Unit
Begun (done t) r fs = Unit

-- ---- the pass

-- behind a text, the last byte first, it knows the depth and the sides of a reader's open parentheses
pub record Knows (r : List ℕ) (m : Mode) (fs : List Frame) (d : ℕ) (at_second : Bool) (l : List Bool) : Type 0 where
  pub depth : d ≡ length fs
  pub side : at_second ≡ is_second fs
  pub told : Told r fs
  pub kept : Kept l fs
  pub begun : Begun m r fs

-- before byte `at` of s it stands where a reader does whose run over the rest tells the spelling of the whole
pub record Stands (s : List ℕ) (at : ℕ) (p : Spot) (d : ℕ) (at_second : Bool) (l : List Bool) : Type 0 where
  pub mode : Mode
  pub frames : List Frame
  pub spot : p ≡ spot_of mode
  pub knows : Knows (back at s) mode frames d at_second l
  pub fine : Fine mode frames
  pub place : at ≤ length s
  pub deep : d ≤ at
  pub rest : spelling_in (length s) (run mode frames (drop at s)) ≡ spelling_of s

-- of a parenthesis that closes at `at` with so many open around it, a list that has room for its side has that
pub record Closes (s : List ℕ) (at outer : ℕ) (l : List Bool) : Type 0 where
  pub place : at ≤ length s
  pub kept : outer < length l → get_or l outer false ≡ comma_before s at
