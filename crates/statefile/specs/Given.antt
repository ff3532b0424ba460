-- What the readers of the state file give and ask: their answers as the definitions have them, and what the lent slices hold. Definitions only.
-- Assumes nothing.
use Rattle.std.specs.Prelude.{◌≡◌, List, ◌++◌, map, ℕ, ◌+◌, ◌-◌, ◌*◌, ◌^◌, ◌≤◌, ◌<◌, length, take, drop, replicate, Float, Result, Ok, Err}
use Rattle.tree.specs.Tree.{no_node}
use Rattle.forms.specs.Forms.{pair_line, height_line}
use Rattle.statefile.specs.Lines.{Found, wrong, found, each}
use Rattle.statefile.specs.StateFile.{Nodes, faulty, read, slots, with_tips, real, nodes_for, head, tree, state_of, state_file}
use Rattle.statefile.specs.declared.Supplied.{Supplied}
use Rattle.statefile.specs.declared.Asked.{Asked}
use Rattle.statefile.specs.declared.Head.{Head}
use Rattle.statefile.specs.declared.WrongLine.{WrongLine}

-- ---- faults

abbrev pub wrong_line : ℕ → WrongLine
wrong_line k = record { 0 = k }

-- ---- lines 1 to 7

abbrev pub supplied_given : List ℕ → Result (Supplied × ℕ) WrongLine → Found Supplied
supplied_given s (Ok (a, i)) = found a 4 (drop i s)
supplied_given s (Err w) = wrong w.0

abbrev pub asked_given : List ℕ → Result (Asked × ℕ) WrongLine → Found Asked
asked_given s (Ok (a, i)) = found a 7 (drop i s)
asked_given s (Err w) = wrong w.0

abbrev pub head_given : List ℕ → Result (Head × ℕ) WrongLine → Found Head
head_given s (Ok (h, i)) = found h 8 (drop i s)
head_given s (Err w) = wrong w.0

-- ---- so many lines into a slice, from a place of it on

-- the numbers of the lines and the places of the slice are numbers of usize
pub record Counts (k count from : ℕ) : Type 0 where
  pub lines : k < 2 ^ 40
  pub many : count < 2 ^ 40
  pub places : from < 2 ^ 40

-- the values of the lines, and the slice out that was lent as out₀: it holds them where there is room for all
pub record Stored {A B : Type 0} (put : List A → List B) (width count : ℕ) (all : Found (List A)) (k : ℕ) (rest : List ℕ) (from : ℕ) (out₀ out : List B) : Type 0 where
  pub values : List A
  pub are : all ≡ found values k rest
  pub long : length values ≡ count
  pub held : from + width * count ≤ length out₀ → out ≡ take from out₀ ++ put values ++ drop (from + width * count) out₀

abbrev pub stored : {A B : Type 0} → (List A → List B) → ℕ → ℕ → Found (List A) → ℕ → List ℕ → ℕ → List B → Result ℕ WrongLine → List B → Type 0
stored put width count all k s from out₀ (Ok i) out = Stored put width count all k (drop i s) from out₀ out
stored put width count all k s from out₀ (Err w) out = all ≡ wrong w.0

-- the pairs of so many nodes, from a line and a place of the file s on
abbrev pub pairs_stored : ℕ → ℕ → ℕ → List ℕ → ℕ → List ℕ → Result ℕ WrongLine → List ℕ → Type 0
pairs_stored count k at s from out₀ r out = stored slots 2 count (each count pair_line k (drop at s)) (k + count) s from out₀ r out

abbrev pub heights_stored : ℕ → ℕ → ℕ → List ℕ → List Float → Result ℕ WrongLine → List Float → Type 0
heights_stored count k at s out₀ r out = stored (map real) 1 count (each count height_line k (drop at s)) (k + count) s 0 out₀ r out

-- ---- a tree's pairs

-- marks at the first places, where there is room for them
pub record Marked (count : ℕ) (out₀ out : List ℕ) : Type 0 where
  pub same : length out ≡ length out₀
  pub held : count ≤ length out₀ → out ≡ replicate count no_node ++ drop count out₀

-- the pairs of the internal nodes, and the slice: it holds the tips' marks and these pairs, and then what it held, where there is room for all
pub record Planted (tips : ℕ) (all : Found (List (ℕ × ℕ))) (k : ℕ) (rest : List ℕ) (out₀ out : List ℕ) : Type 0 where
  pub values : List (ℕ × ℕ)
  pub are : all ≡ found values k rest
  pub long : length values ≡ tips - 1
  pub held : 2 * nodes_for tips ≤ length out₀ → out ≡ with_tips tips values ++ drop (2 * nodes_for tips) out₀

abbrev pub planted : ℕ → ℕ → List ℕ → List ℕ → Result ℕ WrongLine → List ℕ → Type 0
planted tips at s out₀ (Ok i) out = Planted tips (each (tips - 1) pair_line 8 (drop at s)) (8 + (tips - 1)) (drop i s) out₀ out
planted tips at s out₀ (Err w) out = each (tips - 1) pair_line 8 (drop at s) ≡ wrong w.0

-- ---- a tree, and the whole file

-- the nodes of so many tips, and the slices: each holds these nodes, and then what it held, where it has room for all
pub record Shown (tips : ℕ) (t : Nodes) (pairs₀ pairs : List ℕ) (heights₀ heights : List Float) : Type 0 where
  pub places : length t.pairs ≡ 2 * nodes_for tips
  pub nodes : length t.heights ≡ nodes_for tips
  pub pairs_held : 2 * nodes_for tips ≤ length pairs₀ → pairs ≡ t.pairs ++ drop (2 * nodes_for tips) pairs₀
  pub heights_held : nodes_for tips ≤ length heights₀ → heights ≡ t.heights ++ drop (nodes_for tips) heights₀

pub record Grown (tips : ℕ) (all : Found Nodes) (pairs₀ pairs : List ℕ) (heights₀ heights : List Float) : Type 0 where
  pub tree : Nodes
  pub line : ℕ
  pub rest : List ℕ
  pub is : all ≡ found tree line rest
  pub shown : Shown tips tree pairs₀ pairs heights₀ heights

abbrev pub grown : ℕ → ℕ → List ℕ → List ℕ → List Float → Result ℕ WrongLine → List ℕ → List Float → Type 0
grown tips at s pairs₀ heights₀ (Ok i) pairs heights = Grown tips (tree tips 8 (drop at s)) pairs₀ pairs heights₀ heights
grown tips at s pairs₀ heights₀ (Err w) pairs heights = tree tips 8 (drop at s) ≡ wrong w.0

-- the lines before the tree say h, and the file the state of h with a tree
pub record Held (s : List ℕ) (h : Head) (pairs₀ pairs : List ℕ) (heights₀ heights : List Float) : Type 0 where
  pub rest : List ℕ
  pub front : head 1 s ≡ found h 8 rest
  pub tree : Nodes
  pub is : state_file s ≡ read (state_of h tree)
  pub shown : Shown h.tips tree pairs₀ pairs heights₀ heights

abbrev pub file_given : List ℕ → List ℕ → List Float → Result Head WrongLine → List ℕ → List Float → Type 0
file_given s pairs₀ heights₀ (Ok h) pairs heights = Held s h pairs₀ pairs heights₀ heights
file_given s pairs₀ heights₀ (Err w) pairs heights = state_file s ≡ faulty w.0
