-- What the contracts of the tokens and of the pass cite. Definitions only. Assumes nothing.
use Rattle.std.specs.Prelude.{◌≡◌, Bool, true, false, cond, List, ℕ, ◌+◌, ◌≤◌, ◌<◌, eqb, ltb, length, get_or, Result, Ok, Err}
use Rattle.text.specs.Rules.{is_decimal}
use Rattle.newick.specs.Newick.{sign}
use Rattle.std.specs.declared.ops.ControlFlow.{ControlFlow}
use Rattle.std.specs.declared.ops.ControlFlow.TheVariants.{Continue, Break}
use Rattle.newick_spell.specs.declared.Scan.{Scan}
use Rattle.newick_spell.specs.Spelling.{spelling_of}
use Rattle.newick_spell.specs.Spots.{Spot, Sub, Made, Colon, Point, Branch, only, next_spot, end_of}
use Rattle.newick_spell.specs.Stands.{Stands}
use Rattle.newick_spell.specs.declared.Misspelling.TheVariants as Misspellings
use Rattle.newick_spell.specs.declared.Misspelling.{Misspelling}

-- ---- bytes

-- a byte stands there, and a test of it holds
unfoldable pub is_here : List ℕ → ℕ → Bool → Bool
is_here s at test = cond (ltb at (length s)) test false

abbrev pub is_sign : List ℕ → ℕ → ℕ → Bool
is_sign s at c = is_here s at (eqb (get_or s at 0) c)

abbrev pub is_digit : List ℕ → ℕ → Bool
is_digit s at = is_here s at (is_decimal (get_or s at 0))

-- the answer where no byte of those that lead on stands
unfoldable pub stopped : List ℕ → ℕ → Result (Unit {0}) Misspelling
stopped s at = cond (ltb at (length s)) (Err (Misspellings.Forbidden at)) (Err Misspellings.Unfinished)

-- ---- numbers

-- from a place on to another there are digits
pub record Digits (s : List ℕ) (from to : ℕ) : Type 0 where
  pub place : from ≤ to
  pub each : (i : ℕ) → from ≤ i → i < to → is_digit s i ≡ true

-- and there none
pub record Skips (s : List ℕ) (from to : ℕ) : Type 0 where
  pub digits : Digits s from to
  pub ends : is_digit s to ≡ false

-- a number without leading zeros
pub data NumberTo (s : List ℕ) (at to : ℕ) : Type 0 where
  nought : is_sign s at (sign "0") ≡ true → to ≡ at + 1 → NumberTo s at to
  more : is_sign s at (sign "0") ≡ false → is_digit s at ≡ true → Skips s (at + 1) to → NumberTo s at to

-- the answer of a token that is such a number
abbrev pub NumberFrom : List ℕ → ℕ → Result ℕ ℕ → Type 0
NumberFrom s at (Ok e) = NumberTo s at e
NumberFrom s at (Err x) = (x ≡ at) × (is_digit s at ≡ false)

-- ---- tokens

-- where a byte leads on by one test alone, and no text ends
pub record Waits (s : List ℕ) (at : ℕ) (test : Bool) (led : Spot) (d : ℕ) (side : Bool) (l : List Bool) : Type 0 where
  pub spot : Spot
  pub stands : Stands s at spot d side l
  pub leads : at < length s → next_spot spot side (eqb d 0) (get_or s at 0) ≡ only test led
  pub short : end_of spot ≡ (Err Misspellings.Unfinished)

-- behind the whole part of a length, and behind a subtree inside a parenthesis
abbrev pub AtPoint : List ℕ → ℕ → ℕ → Bool → List Bool → Type 0
AtPoint s at = Waits s at (eqb (get_or s at 0) (sign ".")) Point

abbrev pub AtColon : List ℕ → ℕ → ℕ → Bool → List Bool → Type 0
AtColon s at = Waits s at (eqb (get_or s at 0) (sign ":")) Colon

-- a subtree begins, and not by a parenthesis
pub record AtTip (s : List ℕ) (at d : ℕ) (side : Bool) (l : List Bool) : Type 0 where
  pub stands : Stands s at Sub d side l
  pub other : is_sign s at (sign "(") ≡ false

-- where a token ends, it stands behind a branch; where it breaks off, that tells the answer
abbrev pub Lands : List ℕ → ℕ → Result ℕ ℕ → ℕ → Bool → List Bool → Type 0
Lands s at (Ok e) d side l = (at < e) × Stands s e Branch d side l
Lands s at (Err x) d side l = stopped s x ≡ spelling_of s

-- a token goes on to the end of a branch, whatever is open
abbrev pub Ends : List ℕ → ℕ → Result ℕ ℕ → (ℕ → Bool → List Bool → Type 0) → Type 0
Ends s at r Before = (d : ℕ) (side : Bool) (l : List Bool) → Before d side l → Lands s at r d side l

-- ---- the pass

-- the answer behind the last parenthesis
abbrev pub Finishes : List ℕ → ℕ → Result (Unit {0}) Misspelling → Type 0
Finishes s at r = (side : Bool) (l : List Bool) → Stands s at Made 0 side l → r ≡ spelling_of s

-- where a part of the pass leads, or what the whole answers
abbrev pub Passed : Type 0
Passed = ControlFlow (Result (Unit {0}) Misspelling) Scan

-- a part of the pass from a place on leads to a spot further on, or answers
abbrev pub Reaches : List ℕ → ℕ → Passed → Spot → List Bool → Type 0
Reaches s at (Continue q) spot l = (at < q.at) × Stands s q.at spot q.depth q.side l
Reaches s at (Break r) spot l = r ≡ spelling_of s
