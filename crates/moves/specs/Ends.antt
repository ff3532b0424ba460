-- The words in which Demands says what a call of a tree move leaves. Definitions only. Assumes nothing.
use Rattle.std.specs.Prelude.{Bool, true, false, ◌&&◌, List, [], ◌∷◌, ℕ, ◌+◌, ◌≤◌, T, Float}
use Rattle.std.specs.Float.Ieee.{le, eq}
use Rattle.answer.specs.declared.Refusal.{Refusal}
use Rattle.answer.specs.declared.Ratio.{Ratio}
use Rattle.answer.specs.declared.Moved.{Moved}
use Rattle.answer.specs.declared.Answer.{Answer}
use Rattle.answer.specs.declared.Answer.TheVariants as Answers
use Rattle.answer.specs.Answers.{number_of}
use Rattle.random.specs.declared.Random.{Random}
use Rattle.real.specs.Real as Real
use Rattle.tree.specs.Tree.{Tree, nodes_of, parent, height}
use Rattle.tree.specs.Given.{tree_of}
use Rattle.rules.specs.Moves as Reversibles
use Rattle.rules.specs.Moves.{Reversible, Choice, Makes}
use Rattle.reversal.specs.Reversed.{Reversed}
use Rattle.calls.specs.Call.{Called}
use Rattle.moves.specs.Moves.{Move, node_height, subtree_slide, narrow_exchange, wide_exchange, wilson_balding, root_scale, tree_scale, move_call, UnvalidatedCall}

-- the tree that a call leaves, with a root
abbrev pub tree_after : Called → ℕ → Tree
tree_after c root = tree_of c.pairs c.parents c.heights root

-- moved, declined, or refused with 6, 7 or 8
pub data Ends : Answer → Type 0 where
  moves : (v : Moved) → Ends (Answers.Moved v)
  declines : (draws : ℕ) → Ends (Answers.Declined draws)
  refuses : (why : Refusal) → 6 ≤ number_of why → number_of why ≤ 8 → Ends (Answers.Refused why)

-- the call is of one of the five moves of demand 3
pub data Reverses : Move → Reversible → Type 0 where
  of_node_height : Reverses node_height Reversibles.NodeHeight
  of_subtree_slide : {i : ℕ} {step : Float} → Reverses (subtree_slide i step) Reversibles.SubtreeSlide
  of_narrow_exchange : Reverses narrow_exchange Reversibles.NarrowExchange
  of_wide_exchange : Reverses wide_exchange Reversibles.WideExchange
  of_wilson_balding : Reverses wilson_balding Reversibles.WilsonBalding

-- a choice of the move m makes of t the tree u with the ratio r, and demand 3 holds of it
pub record TakenBack (m : Reversible) (t u : Tree) (r : Ratio) : Type 0 where
  pub choice : Choice m
  pub makes : Makes m t choice u r
  pub reversed : Reversed m t choice u r

-- ---- what a call leaves, whatever it answered

-- the root after a call: a moved answer gives it, and no other call changes it
abbrev pub root_after : Answer → ℕ → ℕ
root_after (Answers.Moved v) root = v.root
root_after (Answers.Declined draws) root = root
root_after (Answers.Refused why) root = root

-- the tree that a call leaves, which was made on a tree with this root
abbrev pub tree_left : Called → ℕ → Tree
tree_left c root = tree_after c (root_after c.answer root)

-- ---- when that is a tree that `Tree::new` accepts

-- no tip of t is above its parent
abbrev pub TipsUnder : ℕ → Tree → Type 0
TipsUnder n t = (k : ℕ) → k + k ≤ n → T (le (height t k) (height t (parent t k)))

-- every tip of t is at the present: its height is zero by value, as -0.0 is
abbrev pub Present : ℕ → Tree → Type 0
Present n t = (k : ℕ) → k + k ≤ n → T (eq (height t k) Real.zero)

-- what is asked of the tree u that the move m made: after TreeScale, which leaves the tips where they were, that no tip is above its parent; after
-- any other, nothing
abbrev pub Settled : Move → Tree → Type 0
Settled node_height u = Unit {0}
Settled (subtree_slide i step) u = Unit {0}
Settled narrow_exchange u = Unit {0}
Settled wide_exchange u = Unit {0}
Settled wilson_balding u = Unit {0}
Settled (root_scale s) u = Unit {0}
Settled (tree_scale s) u = TipsUnder (nodes_of u.pairs) u

-- what is enough for that, of the tree t on which the move m is called: before TreeScale, that every tip is at the present; before any other, nothing
abbrev pub Steady : Move → Tree → Type 0
Steady node_height t = Unit {0}
Steady (subtree_slide i step) t = Unit {0}
Steady narrow_exchange t = Unit {0}
Steady wide_exchange t = Unit {0}
Steady wilson_balding t = Unit {0}
Steady (root_scale s) t = Unit {0}
Steady (tree_scale s) t = Present (nodes_of t.pairs) t

-- ---- calls one after the other

-- a call that is asked for: a move with its parameters, a generator and an allowance
pub record Asked : Type 0 where
  pub move : Move
  pub random : Random
  pub allowance : ℕ

-- the tree after some calls, each made on what the one before it left
unfoldable pub tree_through : List Asked → Tree → Tree
tree_through [] t = t
tree_through (c ∷ cs) t = tree_through cs (tree_left (move_call c.move t c.random c.allowance) t.root)

-- the move is not TreeScale
abbrev pub no_tree_scale : Move → Bool
no_tree_scale node_height = true
no_tree_scale (subtree_slide i step) = true
no_tree_scale narrow_exchange = true
no_tree_scale wide_exchange = true
no_tree_scale wilson_balding = true
no_tree_scale (root_scale s) = true
no_tree_scale (tree_scale s) = false

-- none of the calls is one of TreeScale
unfoldable pub without_tree_scale : List Asked → Bool
without_tree_scale [] = true
without_tree_scale (c ∷ cs) = no_tree_scale c.move && without_tree_scale cs

-- unvalidated calls, each made on what the one before it left, lead from t to u; all that is known of each is its contract
pub data Chain : List Asked → Tree → Tree → Type 0 where
  ends_here : (t : Tree) → Chain [] t t
  then_call : (a : Asked) (later : List Asked) (t u : Tree) (c : Called) → UnvalidatedCall a.move t a.random a.allowance c → Chain later (tree_left c t.root) u
      → Chain (a ∷ later) t u
