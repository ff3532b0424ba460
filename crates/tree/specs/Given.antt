-- The forms in which the code of tree hands on what the definitions say, and what its internal functions ask. Definitions only. Assumes
-- nothing.
use Rattle.std.specs.Prelude.{◌≡◌, Bool, ◌&&◌, List, [], ℕ, ◌+◌, ◌%◌, ◌≤◌, ◌<◌, leb, eqb, length, replicate, Float, Result, Ok, Err}
use Rattle.tree.specs.Tree.{Tree, no_node, first_in, second_in}
use Rattle.tree.specs.New.{Scan, stopped, filled, Shaping, unshaped, shaping, NewCall}
use Rattle.answer.specs.declared.Refusal.{Refusal}

-- ---- an answer with the slice beside it

abbrev pub scan_of : Result (Unit {0}) Refusal → List ℕ → Scan
scan_of (Ok tt) ps = filled ps
scan_of (Err why) ps = stopped why

abbrev pub shaping_of : Result ℕ Refusal → List ℕ → Shaping
shaping_of (Ok r) ps = shaping ps r
shaping_of (Err why) ps = unshaped why

abbrev pub new_given : Result ℕ Refusal → List ℕ → NewCall
new_given r ps = record { answer = r; parents = ps }

abbrev pub tree_of : List ℕ → List ℕ → List Float → ℕ → Tree
tree_of pairs ps hs r = record { pairs = pairs; parents = ps; heights = hs; root = r }

-- what is read of a tree where only parents and heights are
abbrev pub dates_in : List ℕ → List Float → ℕ → Tree
dates_in ps hs r = tree_of [] ps hs r

-- what is read of a tree where only children and heights are
abbrev pub kin_in : List ℕ → List Float → Tree
kin_in pairs hs = tree_of pairs [] hs 0

-- the lengths of a tree of n nodes
unfoldable pub sizes_fit : ℕ → ℕ → ℕ → ℕ → Bool
sizes_fit n pairs parents heights = leb 3 n && leb n 4095 && eqb (n % 2) 1 && eqb pairs (n + n) && eqb heights n && eqb parents n

-- a parent that is none
abbrev pub is_no_node : ℕ → Bool
is_no_node p = eqb p no_node

-- ---- what is asked

pub record Visits (pairs ps : List ℕ) (k : ℕ) : Type 0 where
  pub node : k < length ps
  pub few : length ps ≤ 4095
  pub twice : length pairs ≡ length ps + length ps

pub record Scans (pairs ps : List ℕ) : Type 0 where
  pub few : length ps ≤ 4095
  pub twice : length pairs ≡ length ps + length ps
  pub blank : ps ≡ replicate (length ps) no_node

-- the children of n nodes are among them
pub record Inside (n : ℕ) (pairs : List ℕ) (k : ℕ) : Type 0 where
  pub few : n ≤ 4095
  pub twice : length pairs ≡ n + n
  pub node : k < n
  pub one : (j : ℕ) → j < n → n < j + j → first_in pairs j < n
  pub two : (j : ℕ) → j < n → n < j + j → second_in pairs j < n
