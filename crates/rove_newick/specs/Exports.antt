-- What each exported function leaves: the answer code that it returns, the words of its record and the slices lent to it. Each is the call of crate newick, with its
-- answer written into the record; where the words are no record, 3, and nothing is changed. Definitions only. Assumes nothing.
use Rattle.std.specs.Prelude.{cond, List, ℕ, Float, Result, Ok, Err}
use Rattle.tree.specs.Given.{tree_of}
use Rattle.record.specs.declared.Reply.{Reply}
use Rattle.record.specs.Record.{root_in, Written, written, is_record, no_record, replied, reply, given_reply, refused_reply}
use Rattle.newick.specs.Copies.{copy_call, read_call}
use Rattle.newick.specs.declared.CopyError.TheVariants as CopyErrors
use Rattle.newick.specs.declared.ReadError.{ReadError}
use Rattle.newick.specs.declared.ReadError.TheVariants as ReadErrors
use Rattle.newick.specs.declared.CopyError.{CopyError}

-- a refusal by its number and detail, as `refused_reply` has document 01's
abbrev pub turned_back : ℕ → ℕ → Reply
turned_back number detail = reply 2 0 number detail 0

-- "Both refuse with 10 [...], the detail being 0"
abbrev pub room_reply : Reply
room_reply = turned_back 10 0

-- ---- the writer

-- the bytes written as the first value
unfoldable pub copied_left : Result ℕ CopyError → List ℕ → Written
copied_left (Ok count) words = replied (given_reply 0 count 0) words
copied_left (Err (CopyErrors.Refused why)) words = replied (refused_reply why) words
copied_left (Err CopyErrors.Room) words = replied room_reply words

pub record CopyLeft : Type 0 where
  pub written : Written
  pub out : List ℕ

abbrev pub copy_left : Written → List ℕ → CopyLeft
copy_left w out = record { written = w; out = out }

-- the root is in word 4
unfoldable pub write_exported : List ℕ → List ℕ → List Float → List ℕ → List ℕ → CopyLeft
write_exported pairs parents heights out words =
    cond (is_record words)
    (let c = copy_call (tree_of pairs parents heights (root_in words)) out in copy_left (copied_left c.answer words) c.out)
    (copy_left (written no_record words) out)

-- ---- the reader

-- the nodes as the first value; "with 9 [...], the detail then being the place"
unfoldable pub taken_left : Result ℕ ReadError → List ℕ → Written
taken_left (Ok count) words = replied (given_reply 0 count 0) words
taken_left (Err (ReadErrors.Place place)) words = replied (turned_back 9 place) words
taken_left (Err ReadErrors.Room) words = replied room_reply words

pub record ReadLeft : Type 0 where
  pub written : Written
  pub pairs : List ℕ
  pub ages : List ℕ

abbrev pub read_left : Written → List ℕ → List ℕ → ReadLeft
read_left w pairs ages = record { written = w; pairs = pairs; ages = ages }

unfoldable pub read_exported : List ℕ → List ℕ → List ℕ → List ℕ → ReadLeft
read_exported text pairs ages words =
    cond (is_record words)
    (let c = read_call text pairs ages in read_left (taken_left c.answer words) c.pairs c.ages)
    (read_left (written no_record words) pairs ages)
