-- The Newick text of a tree, and what the writer and the reader leave, by change request S-1. Definitions only. Assumes nothing.
use Rattle.std.specs.Prelude.{◌≡◌, Bool, true, false, cond, ◌&&◌, List, [], ◌∷◌, ◌++◌, ℕ, zero, suc, ◌+◌, ◌-◌, ltb, leb, length, get_or, drop, Float, Option, Some, None, Result, Ok, Err}
use Rattle.answer.specs.declared.Refusal.TheVariants.{Parameter}
use Rattle.real.specs.Printed.{printed_of}
use Rattle.tree.specs.Tree.{Tree, nodes_of, tips_of, inner, first_in, second_in, postorder}
use Rattle.tree.specs.New.{validated}
use Rattle.newick.specs.Newick.{Newick, tip, join, whole_text}
use Rattle.newick.specs.Numbering.{nodes_in, pairs_read, ages_read}
use Rattle.newick.specs.Reading.{Reading, faulty, says, reading}
use Rattle.answer.specs.declared.Refusal.{Refusal}
use Rattle.newick.specs.declared.CopyError.TheVariants as CopyErrors
use Rattle.newick.specs.declared.ReadError.{ReadError}
use Rattle.newick.specs.declared.ReadError.TheVariants as ReadErrors
use Rattle.newick.specs.declared.CopyError.{CopyError}

-- ---- printed ages

-- the printed ages of all heights, in whole thousandths, or that one is 2^43 or more
pub data Aged : Type 0 where
  too_old : Aged
  aged : List ℕ → Aged

abbrev pub and_aged : Option ℕ → Aged → Aged
and_aged None r = too_old
and_aged (Some x) too_old = too_old
and_aged (Some x) (aged l) = aged (x ∷ l)

-- "Ages print as document 01 has it"
unfoldable pub ages_of : List Float → Aged
ages_of [] = aged []
ages_of (x ∷ xs) = and_aged (printed_of x) (ages_of xs)

-- ---- the text of a tree with ages in whole thousandths

abbrev pub either : Bool → Newick → Newick → Newick
either true a b = a
either false a b = b

-- the value of node k of n, no deeper than so many levels: "Each branch length is the parent's printed age less the child's"
unfoldable pub dated_at : ℕ → ℕ → List ℕ → List ℕ → ℕ → Newick
dated_at zero n pairs ages k = tip k
dated_at (suc depth) n pairs ages k =
    let a = first_in pairs k in
    let b = second_in pairs k in
    either (inner n k) (join (dated_at depth n pairs ages a) (get_or ages k 0 - get_or ages a 0) (dated_at depth n pairs ages b) (get_or ages k 0 - get_or ages b 0)) (tip k)

-- of a whole tree, which is less than n deep
abbrev pub newick_of : List ℕ → ℕ → List ℕ → Newick
newick_of pairs root ages = dated_at (nodes_of pairs) (nodes_of pairs) pairs ages root

abbrev pub tree_text : List ℕ → ℕ → List ℕ → List ℕ
tree_text pairs root ages = whole_text (newick_of pairs root ages)

-- ---- the writer

-- what it answers, and the lent slice
pub record CopyCall : Type 0 where
  pub answer : Result ℕ CopyError
  pub out : List ℕ

abbrev pub copied : Result ℕ CopyError → List ℕ → CopyCall
copied answer out = record { answer = answer; out = out }

-- the text at the start of the slice, the rest being as it was; "refuse with 10 when a lent slice is too short for the result"
unfoldable pub placed : List ℕ → List ℕ → CopyCall
placed out s = cond (ltb (length out) (length s)) (copied (Err CopyErrors.Room) out) (copied (Ok (length s)) (s ++ drop (length s) out))

-- "An age of 2^43 or more is a 5"
abbrev pub copy_aged : Tree → List ℕ → Aged → CopyCall
copy_aged t out too_old = copied (Err (CopyErrors.Refused (Parameter 0))) out
copy_aged t out (aged ages) = placed out (tree_text t.pairs t.root ages)

abbrev pub copy_judged : Tree → List ℕ → Result (Unit {0}) Refusal → CopyCall
copy_judged t out (Err why) = copied (Err (CopyErrors.Refused why)) out
copy_judged t out (Ok tt) = copy_aged t out (ages_of t.heights)

-- "Write an accepted tree into a lent buffer": 10 comes "after 1 to 5 in the writer"
unfoldable pub copy_call : Tree → List ℕ → CopyCall
copy_call t out = copy_judged t out (validated t)

-- ---- the reader

-- what it answers, and the lent slices
pub record ReadCall : Type 0 where
  pub answer : Result ℕ ReadError
  pub pairs : List ℕ
  pub ages : List ℕ

abbrev pub taken : Result ℕ ReadError → List ℕ → List ℕ → ReadCall
taken answer pairs ages = record { answer = answer; pairs = pairs; ages = ages }

-- "with 9 when the text to be read is not of this form"; 10 comes "after 9 in the reader"
abbrev pub read_said : List ℕ → List ℕ → Reading → ReadCall
read_said pairs ages (faulty place) = taken (Err (ReadErrors.Place place)) pairs ages
read_said pairs ages (says t) =
    let n = nodes_in t in
    cond (leb (n + n) (length pairs) && leb n (length ages))
    (taken (Ok n) (pairs_read t ++ drop (n + n) pairs) (ages_read t ++ drop n ages))
    (taken (Err ReadErrors.Room) pairs ages)

unfoldable pub read_call : List ℕ → List ℕ → List ℕ → ReadCall
read_call s pairs ages = read_said pairs ages (reading s)

-- ---- "numbered in the order their parentheses close"

-- the internal nodes of a list of nodes
unfoldable pub inners_in : ℕ → List ℕ → List ℕ
inners_in n [] = []
inners_in n (k ∷ l) = cond (inner n k) (k ∷ inners_in n l) (inners_in n l)

-- so many numbers, one after the other
unfoldable pub up_from : ℕ → ℕ → List ℕ
up_from b zero = []
up_from b (suc c) = b ∷ up_from (suc b) c

-- a parenthesis closes behind those inside it, as a node comes after its children in postorder
abbrev pub Closing : ℕ → Tree → Type 0
Closing n t = inners_in n (postorder t) ≡ up_from (tips_of n) (n - tips_of n)
