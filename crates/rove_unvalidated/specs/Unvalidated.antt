-- What each unvalidated function leaves, on any slices and any words: the answer of an unvalidated call, written into the record as every answer is; and
-- where the words are no record, 3, and nothing is changed. Definitions only. Assumes nothing.
use Rattle.std.specs.Prelude.{◌≡◌, true, false, List, ℕ, Float}
use Rattle.calls.specs.Call.{Called}
use Rattle.moves.specs.Moves.{Move, UnvalidatedCall, unvalidated_start}
use Rattle.slide.specs.Started.{started_of}
use Rattle.record.specs.Record.{is_record, no_record, generator_in, allowance_in, Written, written, on_record}
use Rattle.rove.specs.Exports.{Left, left, move_left, tree_in, begun_left}

-- a move with its parameters: c is what its call leaves
pub data UnvalidatedExport (m : Move) (pairs parents : List ℕ) (heights : List Float) (words : List ℕ) : Left → Type 0 where
  on-record : is_record words ≡ true → (c : Called) → UnvalidatedCall m (tree_in pairs parents heights words) (generator_in words) (allowance_in words) c
      → UnvalidatedExport m pairs parents heights words (move_left c words)
  off_record : is_record words ≡ false → UnvalidatedExport m pairs parents heights words (left (written no_record words) pairs parents heights)

-- the slide's first call, which is one equation on any slices
unfoldable pub unvalidated_start_exported : List ℕ → List ℕ → List Float → List ℕ → Written
unvalidated_start_exported pairs parents heights words =
    let s = started_of (generator_in words) (unvalidated_start (tree_in pairs parents heights words) (generator_in words) (allowance_in words)) in
    on_record words (begun_left s.answer s.random words)
