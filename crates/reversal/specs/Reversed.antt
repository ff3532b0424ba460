-- What demand 3 says of a choice that makes of t the tree u: the choice that takes it back (`returning`), a ratio turned over, the same tips, and
-- the whole (`Reversed`). Definitions only. Assumes nothing.
use Rattle.std.specs.Prelude.{◌≡◌, ℕ, ◌<◌, Float}
use Rattle.answer.specs.declared.Ratio.{Ratio}
use Rattle.answer.specs.declared.Ratio.TheVariants.{Even, Counts, Lengths}
use Rattle.tree.specs.Tree.{Tree, nodes_of, tips_of, parent, height, sibling, place}
use Rattle.tree.specs.New.{Accepted}
use Rattle.rules.specs.Rules.{branches}
use Rattle.rules.specs.Moves.{Reversible, NodeHeight, SubtreeSlide, NarrowExchange, WideExchange, WilsonBalding, Choice, made, Makes}

-- of the tree u that a choice c makes of t, of n nodes: the old height, the old sibling, and the place of the old branch among those that a
-- slide back lists
abbrev pub returning_in : ℕ → (m : Reversible) → Tree → Choice m → Choice m
returning_in n NodeHeight t c = record { node = c.node; height = height t c.node }
returning_in n SubtreeSlide t c =
    let u = made n SubtreeSlide t c in
    let old = height t (parent t c.node) in
    record { node = c.node; height = old; index = place (branches n u old (sibling u c.node)) (sibling t c.node) }
returning_in n NarrowExchange t c = c
returning_in n WideExchange t c = c
returning_in n WilsonBalding t c = record { i = c.i; j = sibling t c.i; height = height t (parent t c.i) }

-- the choice that takes back what c makes of t
abbrev pub returning : (m : Reversible) → Tree → Choice m → Choice m
returning m t c = returning_in (nodes_of t.pairs) m t c

-- "Turned over, a ratio keeps its kind and exchanges a and b, lengths by bits; even stays even"
pub data Turned : Ratio → Ratio → Type 0 where
  even : Turned Even Even
  counts : {a b : ℕ} → Turned (Counts a b) (Counts b a)
  lengths : {a b : Float} → Turned (Lengths a b) (Lengths b a)

-- u has t's tips, at t's ages in every bit
pub record SameTips (t u : Tree) : Type 0 where
  pub nodes : nodes_of u.pairs ≡ nodes_of t.pairs
  pub ages : (k : ℕ) → k < tips_of (nodes_of t.pairs) → height u k ≡ height t k

-- `Tree::new` accepts u, which has t's tips; and on u the move admits the returning choice and makes t of it, alike in all that a tree has,
-- with the ratio turned over
pub record Reversed (m : Reversible) (t : Tree) (c : Choice m) (u : Tree) (r : Ratio) : Type 0 where
  pub accepted : Accepted u
  pub tips : SameTips t u
  pub ratio : Ratio
  pub turned : Turned r ratio
  pub back : Makes m u (returning m t c) t ratio
