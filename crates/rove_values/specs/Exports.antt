-- What each exported function leaves: the answer code that it returns, and the words of its record. Each is the definition of another crate, over what the
-- record holds, with its value written into the record; where the words are no record, 3, and nothing is changed (`on_record`). Definitions only. Assumes
-- nothing.
use Rattle.std.specs.Prelude.{Bool, List, [], ◌∷◌, ℕ, slice_get, Float, Option, Some, None, Result, Ok, Err}
use Rattle.std.specs.Float.{binary64}
use Rattle.std.specs.Float.Ieee.{to_bits}
use Rattle.answer.specs.declared.Refusal.TheVariants.{Parameter}
use Rattle.random.specs.Generator.{drawn_uniform, drawn_coin}
use Rattle.calls.specs.Draws.{scaler}
use Rattle.kinds.specs.declared.Move.{Move}
use Rattle.kinds.specs.declared.Move.TheVariants as Moves
use Rattle.kinds.specs.Table.{row_of}
use Rattle.process.specs.Process.{estimates}
use Rattle.nodes.specs.Nodes.{branch_length, tree_length}
use Rattle.record.specs.Record.{real_in, generator_in, node_in, tuning_in, with_generator, Written, on_record, replied, given_reply, declined_reply}
use Rattle.record_parameters.specs.Parameters.{priors_in}
use Rattle.record_parameters.specs.Answers.{value_left, refusal_left, flag_word}
use Rattle.answer.specs.declared.Refusal.{Refusal}

-- ---- the generator: one draw each

unfoldable pub uniform_exported : List ℕ → Written
uniform_exported words =
    let d = drawn_uniform (generator_in words) in
    on_record words (replied (given_reply 1 (to_bits binary64 d.0) 0) (with_generator d.1 words))

unfoldable pub coin_exported : List ℕ → Written
coin_exported words =
    let d = drawn_coin (generator_in words) in
    on_record words (replied (given_reply 1 (flag_word d.0) 0) (with_generator d.1 words))

-- the tuning in word 7, and a uniform in word 13
abbrev pub scaler_exported : List ℕ → Written
scaler_exported words = on_record words (value_left (to_bits binary64 (scaler (tuning_in words) (real_in words 13))) words)

-- ---- the table of moves

-- the moves by their numbers, in the Rust's order
abbrev pub moves : List Move
moves =
    Moves.FbdBirthScale
    ∷ Moves.FbdDeathScale
    ∷ Moves.FbdSamplingScale
    ∷ Moves.FbdRhoLogit
    ∷ Moves.FbdOriginScale
    ∷ Moves.TipAge
    ∷ Moves.ClockRateScale
    ∷ Moves.NodeHeight
    ∷ Moves.SubtreeSlide
    ∷ Moves.NarrowExchange
    ∷ Moves.WideExchange
    ∷ Moves.WilsonBalding
    ∷ Moves.RootScale
    ∷ Moves.TreeScale
    ∷ Moves.BirthDifferenceScale
    ∷ Moves.RelativeDeathScale
    ∷ Moves.GammaShapeScale
    ∷ Moves.ClockSigmaScale
    ∷ Moves.BranchRateScale
    ∷ Moves.NodeTimeRates
    ∷ Moves.RootTimeRates
    ∷ Moves.ClockSigmaRates
    ∷ Moves.NarrowExchangeRates
    ∷ Moves.BirthRateScale
    ∷ Moves.MorphologyRateScale
    ∷ []

-- the move that word 6 names
unfoldable pub move_in : List ℕ → Option Move
move_in words = slice_get moves (node_in words)

-- what is answered of a move, written as its kind is; a number that names none is a 5 with detail 0
unfoldable pub named_left : {A : Type 0} → (A → List ℕ → Written) → (Move → A) → Option Move → List ℕ → Written
named_left write answer (Some move) words = write (answer move) words
named_left write answer None words = refusal_left (Parameter 0) words

abbrev pub flag_left : Bool → List ℕ → Written
flag_left b words = value_left (flag_word b) words

-- a move that has no tuning is code 1
unfoldable pub tuning_left : Option Float → List ℕ → Written
tuning_left (Some x) words = value_left (to_bits binary64 x) words
tuning_left None words = replied (declined_reply 0) words

abbrev pub initial_tuning_exported : List ℕ → Written
initial_tuning_exported words = on_record words (named_left tuning_left (λ move. (row_of move).tuning) (move_in words) words)

abbrev pub changes_fbd_exported : List ℕ → Written
changes_fbd_exported words = on_record words (named_left flag_left (λ move. (row_of move).fbd) (move_in words) words)

abbrev pub changes_tree_exported : List ℕ → Written
changes_tree_exported words = on_record words (named_left flag_left (λ move. (row_of move).tree) (move_in words) words)

abbrev pub changes_topology_exported : List ℕ → Written
changes_topology_exported words = on_record words (named_left flag_left (λ move. (row_of move).topology) (move_in words) words)

-- the priors are in words 18 to 28
abbrev pub estimates_exported : List ℕ → Written
estimates_exported words = on_record words (named_left flag_left (estimates (priors_in words)) (move_in words) words)

-- ---- lengths

unfoldable pub quantity_left : Result Float Refusal → List ℕ → Written
quantity_left (Ok x) words = value_left (to_bits binary64 x) words
quantity_left (Err why) words = refusal_left why words

-- of the branch above the node in word 6
abbrev pub branch_length_exported : List ℕ → List Float → List ℕ → Written
branch_length_exported parents heights words = on_record words (quantity_left (branch_length parents heights (node_in words)) words)

abbrev pub tree_length_exported : List ℕ → List Float → List ℕ → Written
tree_length_exported parents heights words = on_record words (quantity_left (tree_length parents heights) words)
