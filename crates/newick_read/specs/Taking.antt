-- The reader's passes over what the second pass filled, and what they leave in the lent slices: which tips were seen, the root's age, the ages of all nodes,
-- the room. They are total: over any lists of pairs fo and lengths us. Definitions only. Assumes nothing.
use Rattle.std.specs.Prelude.{Bool, true, false, cond, ◌&&◌, List, ◌++◌, ℕ, zero, suc, ◌+◌, ◌-◌, min, max, ltb, length, get_or, set, drop, replicate, Ok, Err}
use Rattle.tree.specs.Tree.{first_in, second_in}
use Rattle.newick.specs.Copies.{ReadCall, taken}
use Rattle.newick_file.specs.Filing.{most, file, blank}
use Rattle.newick.specs.declared.ReadError.TheVariants as ReadErrors

-- ---- below a node v, no deeper than so many levels

-- the longest way down to a tip, no longer than the limit
unfoldable pub reach_at : ℕ → ℕ → List ℕ → List ℕ → ℕ → ℕ
reach_at zero tips fo us v = 0
reach_at (suc depth) tips fo us v =
    let a = first_in fo v in
    let b = second_in fo v in
    cond (ltb v tips) 0 (max (min (get_or us a 0 + reach_at depth tips fo us a) most) (min (get_or us b 0 + reach_at depth tips fo us b) most))

-- the ages, put into a list, where v has the age h
unfoldable pub ages_at : ℕ → ℕ → List ℕ → List ℕ → ℕ → ℕ → List ℕ → List ℕ
ages_at zero tips fo us v h l = set l v h
ages_at (suc depth) tips fo us v h l =
    let a = first_in fo v in
    let b = second_in fo v in
    cond (ltb v tips) (set l v h) (set (ages_at depth tips fo us b (h - get_or us b 0) (ages_at depth tips fo us a (h - get_or us a 0) l)) v h)

-- ---- of the root, which is the last node

abbrev pub root_reach : ℕ → List ℕ → List ℕ → ℕ
root_reach tips fo us = reach_at tips tips fo us (length us - 1)

abbrev pub root_ages : ℕ → List ℕ → List ℕ → ℕ → ℕ → List ℕ
root_ages tips fo us h n = ages_at tips tips fo us (length us - 1) h (replicate n 0)

-- ---- the call

-- the first m tips were seen
unfoldable pub all_seen : List Bool → ℕ → Bool
all_seen se zero = true
all_seen se (suc m) = all_seen se m && get_or se m false

abbrev pub place_call : ℕ → List ℕ → List ℕ → ReadCall
place_call p pairs ages = taken (Err (ReadErrors.Place p)) pairs ages

-- into the lent slices, where both have room
unfoldable pub deliver : ℕ → List ℕ → List ℕ → ℕ → List ℕ → List ℕ → ReadCall
deliver tips fo us h pairs ages =
    cond (ltb (length pairs) (length fo)) (taken (Err ReadErrors.Room) pairs ages)
    (cond (ltb (length ages) (length us)) (taken (Err ReadErrors.Room) pairs ages)
    (taken (Ok (length us)) (fo ++ drop (length fo) pairs) (root_ages tips fo us h (length us) ++ drop (length us) ages)))

-- with the root's age h, of a text of so many bytes
unfoldable pub judge_age : ℕ → ℕ → List ℕ → List ℕ → ℕ → List ℕ → List ℕ → ReadCall
judge_age long tips fo us h pairs ages = cond (ltb h most) (deliver tips fo us h pairs ages) (place_call long pairs ages)

unfoldable pub judge : ℕ → ℕ → List ℕ → List ℕ → List Bool → List ℕ → List ℕ → ReadCall
judge long tips fo us se pairs ages =
    cond (all_seen se (length se)) (judge_age long tips fo us (root_reach tips fo us) pairs ages) (place_call long pairs ages)

-- all of it over a text of so many tips, in room for so many pairs' slots p, lengths u and tips e
unfoldable pub work : List ℕ → ℕ → ℕ → ℕ → List ℕ → ℕ → List ℕ → List ℕ → ReadCall
work s tips p u st e pairs ages =
    let F = file (blank tips p u st e) s in
    judge (length s) tips F.pairs F.ups F.seen pairs ages
