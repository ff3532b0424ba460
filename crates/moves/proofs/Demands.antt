-- The client's demands on the calls of the seven tree moves: `explained` (ExplainedLaws) and what every call on a tree leaves (calls/LeavesLaws), on the
-- answer, the generator and the slices. In order: demand 1 (`ends`, `refused-unchanged`); the draws made (`steps`, `within-allowance`);
-- what a moved, a declined and a refused call come from (`admitted`, `accepted`, `declined`, `declined-unchanged`, `infinite`, `outside-interval`); other
-- allowances (`larger`, `draws-made`, `enough`); demand 3 for what runs (`reversible`); and that a call leaves an accepted tree (`settled`, `kept`, `stays-settled`,
-- `stays-accepted`), tips at the present where they were (`stays-present`), and so does any number of calls (`run-accepted`, `run-present`). Assumes
-- nothing.
use Rattle.std.specs.Prelude.{◌≡◌, refl, true, List, [], ◌∷◌, ℕ, ◌≤◌, T, Ok}
use Rattle.std.proofs.Common.{sym, subst, arith}
use Rattle.std.specs.Float.Ieee.Fits.{and_l, and_r}
use Rattle.answer.specs.declared.Refusal.{Refusal}
use Rattle.answer.specs.declared.Refusal.TheVariants as Refusals
use Rattle.answer.specs.declared.Ratio.{Ratio}
use Rattle.answer.specs.declared.Moved.{Moved}
use Rattle.answer.specs.declared.Answer.{Answer}
use Rattle.answer.specs.declared.Answer.TheVariants as Answers
use Rattle.answer.specs.Answers.{draws_of}
use Rattle.random.specs.declared.Random.{Random}
use Rattle.random.specs.Generator.{after}
use Rattle.random.specs.Draw.{supply_of, allowed}
use Rattle.tree.specs.Tree.{Tree, nodes_of}
use Rattle.tree.specs.New.{Accepted}
use Rattle.tree.specs.Valid.{Strict}
use Rattle.accepted.specs.WayLaws.{valid-nodes}
use Rattle.accepted.specs.AcceptedLaws.{accepted-valid, valid-accepted}
use Rattle.accepted.specs.ValidatedLaws.{fine-valid, valid-fine}
use Rattle.rules.specs.Moves as Reversibles
use Rattle.rules.specs.Moves.{Reversible}
use Rattle.reversal.specs.Back.{Kept}
use Rattle.reversal.proofs.Reversal.{makes_kept, reversal}
use Rattle.calls.specs.Call.{Reply, makes, not_finite, outside, draws_made, checked, call_of, Outcome, called_on, tree_call}
use Rattle.calls.specs.Call as Call
use Rattle.calls.proofs.EntryLaws.{passed}
use Rattle.calls.proofs.TreeCallLaws.{checked-few, allows, same-checks}
use Rattle.calls.proofs.LeavesLaws.{Replied, leaves-refused, leaves_kept, leaves-steps, leaves-within, leaves-draws, leaves-larger, leaves-enough, leaves-moved, leaves-declined, leaves-infinite, leaves-outside}
use Rattle.moves.specs.Moves.{Move, node_height, subtree_slide, narrow_exchange, wide_exchange, wilson_balding, root_scale, tree_scale, limits, program, move_call}
use Rattle.moves.specs.Explained.{Admits, Admitted, Declined, Overflows, Strays, Explained, is_moved, is_declined, is_infinite, is_outside}
use Rattle.moves.proofs.ExplainedLaws.{explained}
use Rattle.moves.specs.Ends.{tree_after, root_after, tree_left, TipsUnder, Present, Settled, Steady, Asked, tree_through, no_tree_scale, without_tree_scale, Ends, Reverses, of_node_height, of_subtree_slide, of_narrow_exchange, of_wide_exchange, of_wilson_balding, TakenBack}
use Rattle.moves.specs.EndsLaws.{run_ends, left_so}
use Rattle.moves.specs.ScaleLaws.{root-scales-kept, tree-scales-nodes, tree-scales-kept, tree-scales-present}

-- the checks of a call on an accepted tree, with parameters within their limits
fine : (m : Move) (t : Tree) → Accepted t → limits m t ≡ true → (a : ℕ) → allowed a ≡ true → checked (limits m t) t a ≡ (Ok tt)
unfolding checked
fine m t v l a h = rw (valid-fine (nodes_of t.pairs) t (accepted-valid t v), l, h)

module _ (m : Move) (t : Tree) (g : Random) where
  -- on a tree that `Tree::new` accepts, with parameters within their limits, a call ends as moved, as declined, or in refusal 6, 7 or 8
  pub ends : Accepted t → limits m t ≡ true → (a : ℕ) → allowed a ≡ true → Ends (move_call m t g a).answer
  unfolding tree_call call_of
  ends v l a h = run_ends t (program m t) g (checked (limits m t) t a) (fine m t v l a h) a

  -- a refused call, whatever it was given, hands back the generator, the pairs, the parents and the heights as they came
  pub refused-unchanged : (a : ℕ) (why : Refusal) → (move_call m t g a).answer ≡ Answers.Refused why → move_call m t g a ≡ called_on (Answers.Refused why) g t
  unfolding tree_call call_of
  refused-unchanged a why = leaves-refused t (program m t) g (checked (limits m t) t a) a why

  -- ---- draws

  -- the generator is stepped as often as the answer says that draws were made, and a refused call makes none
  pub steps : (a : ℕ) → (move_call m t g a).random ≡ after (draws_of (move_call m t g a).answer) g
  unfolding tree_call call_of
  steps a = leaves-steps t (program m t) g (checked (limits m t) t a) a

  -- no more than are allowed
  pub within-allowance : (a : ℕ) → draws_of (move_call m t g a).answer ≤ a
  unfolding tree_call call_of
  within-allowance a = leaves-within t (program m t) g (checked (limits m t) t a) a

  -- ---- what an answer comes from

  -- the program's reply, of a call that passed its checks
  comes : (a : ℕ) (r : Reply Outcome) → Replied (program m t) g (checked (limits m t) t a) a r → Explained m t r
  comes a r c = let p = passed (limits m t) t a c.fine in explained m t (fine-valid t p.tree) p.within (supply_of g a) r c.supply c.ran

  -- a moved call is an admitted choice of its rule, or a factor, with the tree and the ratio that it makes
  pub admitted : (a : ℕ) (v : Moved) → (move_call m t g a).answer ≡ Answers.Moved v → Admitted m t (tree_after (move_call m t g a) v.root) v.ratio
  unfolding tree_call call_of
  admitted a v q = admits (comes a _ (leaves-moved t (program m t) g (checked (limits m t) t a) a v q))
    where
      admits : {u : Tree} {r : Ratio} → Explained m t (makes (Call.moved u r)) → Admitted m t u r
      admits (is_moved x) = x

  -- `Tree::new` accepts the tree of a call that moved
  pub accepted : (a : ℕ) (v : Moved) → (move_call m t g a).answer ≡ Answers.Moved v → Accepted t
  unfolding tree_call call_of
  accepted a v q =
      let c = leaves-moved t (program m t) g (checked (limits m t) t a) a v q in
      valid-accepted (nodes_of t.pairs) t (fine-valid t (passed (limits m t) t a c.fine).tree)

  -- a declined call has drawn what its rule declines, or has nothing to choose from
  pub declined : (a draws : ℕ) → (move_call m t g a).answer ≡ Answers.Declined draws → Declined m t
  unfolding tree_call call_of
  declined a draws q = declines-so (comes a _ (leaves-declined t (program m t) g (checked (limits m t) t a) a draws q))
    where
      declines-so : Explained m t (makes Call.declined) → Declined m t
      declines-so (is_declined x) = x

  -- and leaves the pairs, the parents and the heights as they came
  pub declined-unchanged : (a draws : ℕ) → (move_call m t g a).answer ≡ Answers.Declined draws
      → move_call m t g a ≡ called_on (Answers.Declined draws) (after draws g) t
  unfolding tree_call call_of
  declined-unchanged a draws = leaves_kept t (program m t) g (checked (limits m t) t a) a draws

  -- a 7 is a new height that is not finite, the lowest node's
  pub infinite : (a k : ℕ) → (move_call m t g a).answer ≡ Answers.Refused (Refusals.NotFinite k) → Overflows m t k
  unfolding tree_call call_of
  infinite a k q = over (comes a _ (leaves-infinite t (program m t) g (checked (limits m t) t a) a (checked-few (limits m t) t a) k q))
    where
      over : Explained m t (not_finite k) → Overflows m t k
      over (is_infinite x) = x

  -- an 8 is a drawn height outside its interval
  pub outside-interval : (a k : ℕ) → (move_call m t g a).answer ≡ Answers.Refused (Refusals.Outside k) → Strays m t k
  unfolding tree_call call_of
  outside-interval a k q = strays (comes a _ (leaves-outside t (program m t) g (checked (limits m t) t a) a (checked-few (limits m t) t a) k q))
    where
      strays : Explained m t (outside k) → Strays m t k
      strays (is_outside x) = x

  -- ---- other allowances

  -- what was answered with an allowance is answered with a larger one, unless it was a 6
  pub larger : (a b : ℕ) → 1 ≤ a → a ≤ b → b ≤ 65535 → ((move_call m t g a).answer ≡ Answers.Refused (Refusals.Allowance a) → ⊥) → move_call m t g b ≡ move_call m t g a
  unfolding tree_call call_of
  larger a b h o k =
      let y = same-checks (limits m t) t a b (allows a h (omega arith)) (allows b (omega arith) k) in
      leaves-larger t (program m t) g (checked (limits m t) t a) (checked (limits m t) t b) a b y o

  -- a call that is not refused says as many draws as its program makes
  pub draws-made : (a : ℕ) → ((why : Refusal) → (move_call m t g a).answer ≡ Answers.Refused why → ⊥) → draws_of (move_call m t g a).answer ≡ draws_made (program m t) g a
  unfolding tree_call call_of
  draws-made a = leaves-draws t (program m t) g (checked (limits m t) t a) a

  -- an allowance of as many draws as the program makes is enough, whether the call moved, declined or ended in a 7 or an 8: a 6 is answered only where
  -- more draws would be made
  pub enough : (a b : ℕ) → 1 ≤ a → a ≤ b → b ≤ 65535 → draws_made (program m t) g b ≤ a → move_call m t g a ≡ move_call m t g b
  unfolding tree_call call_of
  enough a b h o k =
      let y = same-checks (limits m t) t a b (allows a h (omega arith)) (allows b (omega arith) k) in
      leaves-enough t (program m t) g (checked (limits m t) t a) (checked (limits m t) t b) a b y o

-- ---- demand 3

admits : {m : Move} {r : Reversible} {t u : Tree} {q : Ratio} → Reverses m r → Admitted m t u q → Admits r t u q
admits of_node_height x = x
admits of_subtree_slide x = record { choice = _; makes = x.makes }
admits of_narrow_exchange x = x
admits of_wide_exchange x = x
admits of_wilson_balding x = x

-- what a call of one of the five moves makes of a tree with every child strictly younger than its parent can be taken back
pub reversible : {m : Move} {r : Reversible} → Reverses m r → (t : Tree) → Strict (nodes_of t.pairs) t → (g : Random) (a : ℕ) (v : Moved)
    → (move_call m t g a).answer ≡ Answers.Moved v → TakenBack r t (tree_after (move_call m t g a) v.root) v.ratio
reversible {m} {r} k t st g a v e =
    let x = admits k (admitted m t g a v e) in
    record { choice = x.choice; makes = x.makes; reversed = reversal t (accepted m t g a v e) st r x.choice _ v.ratio x.makes }

-- ---- what a call leaves is accepted

-- what an admitted move makes of an accepted tree is valid, with the tips' ages
admitted-kept : (m : Move) (t u : Tree) (r : Ratio) → Accepted t → limits m t ≡ true → Admitted m t u r → Settled m u → Kept (nodes_of t.pairs) t u
admitted-kept node_height t u r a l x s = makes_kept t a Reversibles.NodeHeight x.choice u r x.makes
admitted-kept (subtree_slide i step) t u r a l x s = makes_kept t a Reversibles.SubtreeSlide _ u r x.makes
admitted-kept narrow_exchange t u r a l x s = makes_kept t a Reversibles.NarrowExchange x.choice u r x.makes
admitted-kept wide_exchange t u r a l x s = makes_kept t a Reversibles.WideExchange x.choice u r x.makes
admitted-kept wilson_balding t u r a l x s = makes_kept t a Reversibles.WilsonBalding x.choice u r x.makes
admitted-kept (root_scale f) t u r a l x s = root-scales-kept (accepted-valid t a) x
admitted-kept (tree_scale f) t u r a l x s =
    let v = accepted-valid t a in
    tree-scales-kept v l x (subst (λ (k : ℕ). TipsUnder k u) (tree-scales-nodes v l x) s)

-- where what is known of the tree t is enough, what is asked of u holds
admitted-settled : (m : Move) (t u : Tree) (r : Ratio) → Accepted t → limits m t ≡ true → Admitted m t u r → Steady m t → Settled m u
admitted-settled node_height t u r a l x s = tt
admitted-settled (subtree_slide i step) t u r a l x s = tt
admitted-settled narrow_exchange t u r a l x s = tt
admitted-settled wide_exchange t u r a l x s = tt
admitted-settled wilson_balding t u r a l x s = tt
admitted-settled (root_scale f) t u r a l x s = tt
admitted-settled (tree_scale f) t u r a l x s =
    subst (λ (k : ℕ). TipsUnder k u) (sym (tree-scales-nodes (accepted-valid t a) l x)) (tree-scales-present (accepted-valid t a) l x s)

-- of a move that is not TreeScale nothing is asked
pub steady-still : (m : Move) (t : Tree) → T (no_tree_scale m) → Steady m t
steady-still node_height t h = tt
steady-still (subtree_slide i step) t h = tt
steady-still narrow_exchange t h = tt
steady-still wide_exchange t h = tt
steady-still wilson_balding t h = tt
steady-still (root_scale s) t h = tt
steady-still (tree_scale s) t h = absurd h

-- and of any move no more than that every tip is at the present
pub steady-present : (m : Move) (t : Tree) → Present (nodes_of t.pairs) t → Steady m t
steady-present node_height t h = tt
steady-present (subtree_slide i step) t h = tt
steady-present narrow_exchange t h = tt
steady-present wide_exchange t h = tt
steady-present wilson_balding t h = tt
steady-present (root_scale s) t h = tt
steady-present (tree_scale s) t h = h

module _ (m : Move) (t : Tree) (g : Random) where
  -- the parameters of a call that moved are within their limits
  moved-within : (a : ℕ) (v : Moved) → (move_call m t g a).answer ≡ Answers.Moved v → limits m t ≡ true
  unfolding tree_call call_of
  moved-within a v q = (passed (limits m t) t a (leaves-moved t (program m t) g (checked (limits m t) t a) a v q).fine).within

  -- what a call that moved leaves is valid, with the tips' ages
  moved-kept : (a : ℕ) (v : Moved) → (move_call m t g a).answer ≡ Answers.Moved v → Settled m (tree_after (move_call m t g a) v.root)
      → Kept (nodes_of t.pairs) t (tree_after (move_call m t g a) v.root)
  moved-kept a v q = admitted-kept m t _ v.ratio (accepted m t g a v q) (moved-within a v q) (admitted m t g a v q)

  -- where what is known of the tree t is enough, what is asked of the tree made holds
  moved-settled : (a : ℕ) (v : Moved) → (move_call m t g a).answer ≡ Answers.Moved v → Steady m t → Settled m (tree_after (move_call m t g a) v.root)
  moved-settled a v q = admitted-settled m t _ v.ratio (accepted m t g a v q) (moved-within a v q) (admitted m t g a v q)

  -- `Tree::new` accepts what a call that moved leaves, ties included: after TreeScale where no tip is above its parent there
  pub settled : (a : ℕ) (v : Moved) → (move_call m t g a).answer ≡ Answers.Moved v → Settled m (tree_after (move_call m t g a) v.root)
      → Accepted (tree_after (move_call m t g a) v.root)
  settled a v q s = valid-accepted (nodes_of t.pairs) _ (moved-kept a v q s).valid

  -- and so after TreeScale where every tip was at the present
  pub kept : (a : ℕ) (v : Moved) → (move_call m t g a).answer ≡ Answers.Moved v → Steady m t → Accepted (tree_after (move_call m t g a) v.root)
  kept a v q s = settled a v q (moved-settled a v q s)

  -- what any call on an accepted tree leaves, moved or not, is valid, with the tips' ages
  left-kept : Accepted t → (a : ℕ) → ((v : Moved) → (move_call m t g a).answer ≡ Answers.Moved v → Settled m (tree_after (move_call m t g a) v.root))
      → Kept (nodes_of t.pairs) t (tree_left (move_call m t g a) t.root)
  left-kept p a s =
      left_so (Kept (nodes_of t.pairs) t) t g (move_call m t g a) (λ v e. moved-kept a v e (s v e)) (declined-unchanged m t g a) (refused-unchanged m t g a)
      (record { valid = accepted-valid t p; tips = λ k h. refl })

  -- so `Tree::new` accepts it: after TreeScale where no tip is above its parent there
  pub stays-settled : Accepted t → (a : ℕ) → Settled m (tree_left (move_call m t g a) t.root) → Accepted (tree_left (move_call m t g a) t.root)
  stays-settled p a s = valid-accepted (nodes_of t.pairs) _ (left-kept p a moved).valid
    where
      moved : (v : Moved) → (move_call m t g a).answer ≡ Answers.Moved v → Settled m (tree_after (move_call m t g a) v.root)
      moved v e = subst (λ (x : Answer). Settled m (tree_after (move_call m t g a) (root_after x t.root))) e s

  -- and so after TreeScale where every tip was at the present
  pub stays-accepted : Accepted t → Steady m t → (a : ℕ) → Accepted (tree_left (move_call m t g a) t.root)
  stays-accepted p s a = valid-accepted (nodes_of t.pairs) _ (left-kept p a (λ v e. moved-settled a v e s)).valid

  -- every tip that was at the present is there still
  pub stays-present : Accepted t → Present (nodes_of t.pairs) t → (a : ℕ)
      → Present (nodes_of (tree_left (move_call m t g a) t.root).pairs) (tree_left (move_call m t g a) t.root)
  stays-present p z a =
      let k = left-kept p a (λ v e. moved-settled a v e (steady-present m t z)) in
      rw (valid-nodes k.valid) (λ c h. rw (k.tips c h) (z c h))

-- ---- calls one after the other

-- any number of calls with no TreeScale among them, from an accepted tree, leaves one that `Tree::new` accepts
pub run-accepted : (calls : List Asked) (t : Tree) → Accepted t → T (without_tree_scale calls) → Accepted (tree_through calls t)
unfolding tree_through without_tree_scale
run-accepted [] t p h = p
run-accepted (c ∷ cs) t p h =
    let m = c.move in
    run-accepted cs _ (stays-accepted m t c.random p (steady-still m t (and_l (no_tree_scale m) (without_tree_scale cs) h)) c.allowance)
    (and_r (no_tree_scale m) (without_tree_scale cs) h)

-- and so does any number of calls, TreeScale among them, where every tip is at the present
pub run-present : (calls : List Asked) (t : Tree) → Accepted t → Present (nodes_of t.pairs) t → Accepted (tree_through calls t)
unfolding tree_through
run-present [] t p z = p
run-present (c ∷ cs) t p z =
    let s = steady-present c.move t z in
    run-present cs _ (stays-accepted c.move t c.random p s c.allowance) (stays-present c.move t c.random p z c.allowance)
