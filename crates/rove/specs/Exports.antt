-- What each exported function leaves: the answer code that it returns, the slices that it is lent to change, and the words of its record. Each is the
-- call that other crates define, on what the record holds, with its answer written into the record; where the words are no record, 3, and nothing is
-- changed. Definitions only. Assumes nothing.
use Rattle.std.specs.Prelude.{cond, List, ℕ, Float, Result, Ok, Err}
use Rattle.std.specs.Float.{binary64}
use Rattle.std.specs.Float.Ieee.{to_bits}
use Rattle.random.specs.declared.Random.{Random}
use Rattle.random.specs.Generator.{seeded, drawn_word}
use Rattle.random.specs.BelowCall.{below_call}
use Rattle.tree.specs.Tree.{Tree}
use Rattle.tree.specs.New.{validated, new_call}
use Rattle.tree.specs.Given.{tree_of}
use Rattle.order.specs.Postorder.{postorder_call}
use Rattle.calls.specs.Call.{Called}
use Rattle.moves.specs.Moves.{Move, move_call, start_call}
use Rattle.slide.specs.Started.{started_of}
use Rattle.record.specs.Record.{is_record, no_record, generator_in, root_in, allowance_in, node_in, with_generator, with_root, with_node, Written, written, on_record, replied, given_reply, refused_reply, answered, judged}
use Rattle.answer.specs.declared.Refusal.{Refusal}
use Rattle.slide.specs.declared.SlideNode.{SlideNode}

-- ---- the moves

pub record Left : Type 0 where
  pub written : Written
  pub pairs : List ℕ
  pub parents : List ℕ
  pub heights : List Float

abbrev pub left : Written → List ℕ → List ℕ → List Float → Left
left w pairs parents heights = record { written = w; pairs = pairs; parents = parents; heights = heights }

abbrev pub move_left : Called → List ℕ → Left
move_left c words = left (answered c.answer c.random words) c.pairs c.parents c.heights

-- the tree of the slices, with the record's root
abbrev pub tree_in : List ℕ → List ℕ → List Float → List ℕ → Tree
tree_in pairs parents heights words = tree_of pairs parents heights (root_in words)

-- a move with its parameters
unfoldable pub exported : Move → List ℕ → List ℕ → List Float → List ℕ → Left
exported m pairs parents heights words =
    cond (is_record words)
    (move_left (move_call m (tree_in pairs parents heights words) (generator_in words) (allowance_in words)) words)
    (left (written no_record words) pairs parents heights)

-- the slide's first call: the node in word 6, the bits of the two uniforms as the values
abbrev pub begun_left : Result SlideNode Refusal → Random → List ℕ → Written
begun_left (Ok s) g words = replied (given_reply s.draws (to_bits binary64 s.first) (to_bits binary64 s.second)) (with_node s.node (with_generator g words))
begun_left (Err why) g words = replied (refused_reply why) words

unfoldable pub start_exported : List ℕ → List ℕ → List Float → List ℕ → Written
start_exported pairs parents heights words =
    let s = started_of (generator_in words) (start_call (tree_in pairs parents heights words) (generator_in words) (allowance_in words)) in
    on_record words (begun_left s.answer s.random words)

-- ---- the tree

unfoldable pub validate_exported : List ℕ → List ℕ → List Float → List ℕ → Written
validate_exported pairs parents heights words = on_record words (judged (validated (tree_in pairs parents heights words)) words)

-- with the slice that a call fills
pub record Filled : Type 0 where
  pub written : Written
  pub slice : List ℕ

abbrev pub filled : Written → List ℕ → Filled
filled w slice = record { written = w; slice = slice }

-- the root in word 4
abbrev pub root_left : Result ℕ Refusal → List ℕ → Written
root_left (Ok r) words = replied (given_reply 0 0 0) (with_root r words)
root_left (Err why) words = replied (refused_reply why) words

unfoldable pub new_exported : List ℕ → List Float → List ℕ → List ℕ → Filled
new_exported pairs heights parents words =
    cond (is_record words)
    (let c = new_call pairs heights parents in filled (root_left c.answer words) c.parents)
    (filled (written no_record words) parents)

unfoldable pub postorder_exported : List ℕ → List ℕ → List Float → List ℕ → List ℕ → Filled
postorder_exported pairs parents heights order words =
    cond (is_record words)
    (let c = postorder_call (tree_in pairs parents heights words) order in filled (judged c.answer words) c.order)
    (filled (written no_record words) order)

-- ---- the generator

-- words 0 to 3 and nothing else
unfoldable pub seed_exported : ℕ → List ℕ → Written
seed_exported seed words = on_record words (written 0 (with_generator (seeded seed) words))

unfoldable pub next_exported : List ℕ → Written
next_exported words =
    let d = drawn_word (generator_in words) in
    on_record words (replied (given_reply 1 d.0 0) (with_generator d.1 words))

abbrev pub below_left : Result (ℕ × ℕ) Refusal → Random → List ℕ → Written
below_left (Ok (k, draws)) g words = replied (given_reply draws k 0) (with_generator g words)
below_left (Err why) g words = replied (refused_reply why) words

-- a number below word 6
unfoldable pub below_exported : List ℕ → Written
below_exported words =
    let d = below_call (generator_in words) (node_in words) (allowance_in words) in
    on_record words (below_left d.0 d.1 words)
