-- Sets of tips, given by "one mark per tip": whether one is monophyletic, and the age of its clade. Definitions only. Assumes nothing.
use Rattle.std.specs.Prelude.{Bool, false, not, ◌||◌, cond, List, [], ◌∷◌, ℕ, eqb, length, get_or, Option, Some, None, Result, Ok, Err}
use Rattle.std.specs.Bool.{beq}
use Rattle.answer.specs.declared.Refusal.TheVariants.{Size, Parameter}
use Rattle.real.specs.Printed.{printed_of}
use Rattle.tree.specs.Tree.{Tree, nodes_of, tips_of, parent, height, subtree, postorder}
use Rattle.tree.specs.New.{validated}
use Rattle.tree.specs.Bounded.{every, some, count_to}
use Rattle.answer.specs.declared.Refusal.{Refusal}

-- ---- tests of numbers

-- c is in the list
unfoldable pub has : List ℕ → ℕ → Bool
has [] c = false
has (x ∷ l) c = eqb x c || has l c

-- the first in a list that passes the test; 0 where none does
unfoldable pub first_of : (ℕ → Bool) → List ℕ → ℕ
first_of test [] = 0
first_of test (x ∷ l) = cond (test x) x (first_of test l)

-- ---- sets of tips

-- tip i is in the set
abbrev pub marked : List Bool → ℕ → Bool
marked members i = get_or members i false

-- how many tips are in the set
unfoldable pub size_of : List Bool → ℕ
size_of members = count_to (marked members) (length members)

-- tip i is k or below it
abbrev pub is_below : Tree → ℕ → ℕ → Bool
is_below t k i = has (subtree (nodes_of t.pairs) (nodes_of t.pairs) t.pairs k) i

-- node k has exactly the marked tips below it
unfoldable pub exactly : Tree → List Bool → ℕ → Bool
exactly t members k = every (λ i. beq (marked members i) (is_below t k i)) (tips_of (nodes_of t.pairs))

-- node k is over all of them
unfoldable pub over : Tree → List Bool → ℕ → Bool
over t members k = every (λ i. not (marked members i) || is_below t k i) (tips_of (nodes_of t.pairs))

-- some node has exactly the marked tips below it
unfoldable pub monophyletic : Tree → List Bool → Bool
monophyletic t members = some (exactly t members) (nodes_of t.pairs)

-- "the first node in postorder over all of them"
unfoldable pub clade_node : Tree → List Bool → ℕ
clade_node t members = first_of (over t members) (postorder t)

-- the node by whose height a clade is dated. Request S-4: of "a set of one tip" it is "its parent", "the branch's upper end", the tip being the clade's node
-- (`clade-one`); "Sets of two tips and more keep document 01's node"
unfoldable pub age_node : Tree → List Bool → ℕ
age_node t members = cond (eqb (size_of members) 1) (parent t (clade_node t members)) (clade_node t members)

-- ---- the calls: marks that are not one for each tip are refusal 1, as lengths that disagree are

abbrev pub monophyly_answered : Bool → Result (Unit {0}) Refusal → Result Bool Refusal
monophyly_answered is (Ok tt) = Ok is
monophyly_answered is (Err why) = Err why

unfoldable pub monophyly_call : Tree → List Bool → Result Bool Refusal
monophyly_call t members =
    let n = nodes_of t.pairs in
    monophyly_answered (monophyletic t members) (cond (eqb (length members) (tips_of n)) (validated t) (Err (Size n)))

-- "that node at 2^43 or more, gives refusal 5"
abbrev pub age_printed : Option ℕ → Result ℕ Refusal
age_printed (Some count) = Ok count
age_printed None = Err (Parameter 0)

-- "an empty set" is refused too
unfoldable pub clade_age : Tree → List Bool → Result ℕ Refusal
clade_age t members = cond (some (marked members) (length members)) (age_printed (printed_of (height t (age_node t members)))) (Err (Parameter 0))

abbrev pub age_answered : Result ℕ Refusal → Result (Unit {0}) Refusal → Result ℕ Refusal
age_answered age (Ok tt) = age
age_answered age (Err why) = Err why

unfoldable pub age_call : Tree → List Bool → Result ℕ Refusal
age_call t members =
    let n = nodes_of t.pairs in
    age_answered (clade_age t members) (cond (eqb (length members) (tips_of n)) (validated t) (Err (Size n)))
