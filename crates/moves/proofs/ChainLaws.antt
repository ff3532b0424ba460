-- Chains of unvalidated calls, each known by its contract alone. From an accepted tree, where no call is one of TreeScale or every tip is at the present, a
-- chain leaves the tree that the checked calls leave (`chain-through`, `chain-through-present`), and `Tree::new` accepts it (`chain-accepted`,
-- `chain-present`). So the premise of each contract holds at every call. Assumes nothing.
use Rattle.std.specs.Prelude.{◌≡◌, refl, List, T}
use Rattle.std.proofs.Common.{ap}
use Rattle.std.proofs.Math.Path.{subst⁻¹}
use Rattle.std.specs.Float.Ieee.Fits.{and_l, and_r}
use Rattle.tree.specs.Tree.{Tree, nodes_of}
use Rattle.tree.specs.New.{Accepted}
use Rattle.calls.specs.Call.{Called}
use Rattle.moves.specs.Moves.{move_call, UnvalidatedCall}
use Rattle.moves.specs.Ends.{tree_left, Present, Asked, tree_through, no_tree_scale, without_tree_scale, Chain, ends_here, then_call}
use Rattle.moves.proofs.Demands.{steady-still, steady-present, stays-accepted, stays-present, run-accepted, run-present}

-- what one call leaves of an accepted tree is what the checked call leaves
step : (a : Asked) (t : Tree) (c : Called) → Accepted t → UnvalidatedCall a.move t a.random a.allowance c
    → tree_left c t.root ≡ tree_left (move_call a.move t a.random a.allowance) t.root
step a t c p w = ap (λ (x : Called). tree_left x t.root) (w.decided p)

-- ---- with no TreeScale among the calls

pub chain-through : {calls : List Asked} {t u : Tree} → Chain calls t u → Accepted t → T (without_tree_scale calls) → u ≡ tree_through calls t
unfolding tree_through without_tree_scale
chain-through (ends_here t) p h = refl
chain-through (then_call a later t u c w k) p h =
    let e = step a t c p w in
    let q = stays-accepted a.move t a.random p (steady-still a.move t (and_l (no_tree_scale a.move) (without_tree_scale later) h)) a.allowance in
    rw (← e) (chain-through k (subst⁻¹ Accepted e q) (and_r (no_tree_scale a.move) (without_tree_scale later) h))

pub chain-accepted : {calls : List Asked} {t u : Tree} → Chain calls t u → Accepted t → T (without_tree_scale calls) → Accepted u
chain-accepted {calls} {t} k p h = subst⁻¹ Accepted (chain-through k p h) (run-accepted calls t p h)

-- ---- with every tip at the present

pub chain-through-present : {calls : List Asked} {t u : Tree} → Chain calls t u → Accepted t → Present (nodes_of t.pairs) t → u ≡ tree_through calls t
unfolding tree_through
chain-through-present (ends_here t) p z = refl
chain-through-present (then_call a later t u c w k) p z =
    let e = step a t c p w in
    let q = stays-accepted a.move t a.random p (steady-present a.move t z) a.allowance in
    let y = stays-present a.move t a.random p z a.allowance in
    rw (← e) (chain-through-present k (subst⁻¹ Accepted e q) (subst⁻¹ (λ (x : Tree). Present (nodes_of x.pairs) x) e y))

pub chain-present : {calls : List Asked} {t u : Tree} → Chain calls t u → Accepted t → Present (nodes_of t.pairs) t → Accepted u
chain-present {calls} {t} k p z = subst⁻¹ Accepted (chain-through-present k p z) (run-present calls t p z)
