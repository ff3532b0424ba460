-- What the slices of a tree say of a node, as the accessors of tree.rs do: nothing is looked at but what is asked for. A number that is no
-- node's is refusal 5 with detail 0, where the Rust panics; slices whose lengths disagree are refusal 1. Definitions only. Assumes nothing.
use Rattle.std.specs.Prelude.{cond, ◌&&◌, List, ℕ, zero, suc, ◌%◌, ltb, eqb, length, get_or, Float, Option, Some, None, Result, Ok, Err}
use Rattle.std.specs.Float.{nan, binary64}
use Rattle.std.specs.Float.Ieee.{add, sub}
use Rattle.answer.specs.declared.Refusal.TheVariants.{Size, Parameter}
use Rattle.real.specs.Real as Real
use Rattle.tree.specs.Tree.{no_node, nodes_of, first_in, second_in, other_in}
use Rattle.answer.specs.declared.Refusal.{Refusal}

-- ---- nodes

-- the parent of k; the root has none
unfoldable pub parent_of : List ℕ → ℕ → Result (Option ℕ) Refusal
parent_of parents k = cond (ltb k (length parents)) (cond (eqb (get_or parents k 0) no_node) (Ok None) (Ok (Some (get_or parents k 0)))) (Err (Parameter 0))

-- the children of k, or that it is a tip: "65,535 twice marks a tip"
unfoldable pub children_of : List ℕ → ℕ → Result (Option (ℕ × ℕ)) Refusal
children_of pairs k =
    let a = first_in pairs k in
    let b = second_in pairs k in
    cond (ltb k (nodes_of pairs)) (cond (eqb a no_node && eqb b no_node) (Ok None) (Ok (Some (a, b)))) (Err (Parameter 0))

-- the child of p that is not k, if p is a node
unfoldable pub other_child : List ℕ → ℕ → ℕ → Result (Option ℕ) Refusal
other_child pairs k p = cond (ltb p (nodes_of pairs)) (Ok (Some (other_in pairs p k))) (Err (Parameter 0))

-- the other child of k's parent; the root's parent is no node, so that it has no sibling
unfoldable pub sibling_of : List ℕ → List ℕ → ℕ → Result (Option ℕ) Refusal
sibling_of pairs parents k =
    let n = nodes_of pairs in
    cond (eqb (length pairs % 2) 0 && eqb (length parents) n) (cond (ltb k n) (other_child pairs k (get_or parents k 0)) (Err (Parameter 0))) (Err (Size n))

-- ---- heights and lengths

unfoldable pub height_of : List Float → ℕ → Result Float Refusal
height_of heights k = cond (ltb k (length heights)) (Ok (get_or heights k nan)) (Err (Parameter 0))

-- the length of the branch above k, parent's height less its own; 0 above the root
unfoldable pub branch_above : List ℕ → List Float → ℕ → Result Float Refusal
branch_above parents heights k =
    let p = get_or parents k 0 in
    cond (eqb p no_node) (Ok Real.zero)
    (cond (ltb p (length heights)) (Ok (sub binary64 (get_or heights p nan) (get_or heights k nan))) (Err (Parameter 0)))

unfoldable pub branch_length : List ℕ → List Float → ℕ → Result Float Refusal
branch_length parents heights k =
    let n = length parents in
    cond (eqb (length heights) n) (cond (ltb k n) (branch_above parents heights k) (Err (Parameter 0))) (Err (Size n))

abbrev pub plus : Result Float Refusal → Result Float Refusal → Result Float Refusal
plus (Err why) q = Err why
plus (Ok x) (Err why) = Err why
plus (Ok x) (Ok y) = Ok (add binary64 x y)

-- the branches above the first m nodes, added up in the order of their numbers
unfoldable pub length_to : List ℕ → List Float → ℕ → Result Float Refusal
length_to parents heights zero = Ok Real.zero
length_to parents heights (suc m) = plus (length_to parents heights m) (branch_length parents heights m)

unfoldable pub tree_length : List ℕ → List Float → Result Float Refusal
tree_length parents heights = let n = length parents in cond (eqb (length heights) n) (length_to parents heights n) (Err (Size n))
