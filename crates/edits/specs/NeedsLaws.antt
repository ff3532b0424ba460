-- For callers of the edits. In order: a valid tree and its nodes give what each edit needs (`valid-stands` and on); and what a contract says of
-- the slices that it is lent holds of the whole tree (`height-whole` and on). Assumes nothing.
use Rattle.std.specs.Prelude.{◌≡◌, List, ℕ, ◌≤◌, ◌<◌, length, set, Float}
use Rattle.std.proofs.Common.{arith}
use Rattle.tree.specs.Tree.{Tree, parent}
use Rattle.tree.specs.Valid.{Sized, Valid}
use Rattle.edits.specs.Slots.{top, slot_of, put, swap, rotate, set_height, bare}
use Rattle.edits.specs.Needs.{Stands, Takes, Exchanges, Rotates}

-- ---- what the edits need

module _ {n : ℕ} {t : Tree} (v : Valid n t) where
  -- `slot_of` may be asked of every node
  pub valid-stands : (c : ℕ) → c < n → Stands t.pairs t.parents t.root c
  unfolding parent
  valid-stands c C = let s : Sized n t = v.sized in record {
    few = omega arith;
    twice = omega arith;
    node = omega arith;
    under = λ d. (let p : parent t c < n = (v.below c C d).parent_node in omega arith);
  }

  -- `put` may put every node into every slot
  pub valid-takes : (x c : ℕ) → x ≤ top n → c < n → Takes t.pairs t.parents x c
  valid-takes x c X C = let s : Sized n t = v.sized in record { few = omega arith; twice = omega arith; slot = omega arith; node = omega arith }

  -- `exchange` may be asked of every two nodes
  pub valid-exchanges : (a b : ℕ) → a < n → b < n → Exchanges t.pairs t.parents t.root a b
  valid-exchanges a b A B = record { stands_a = valid-stands a A; stands_b = valid-stands b B }

  -- `rotate` may be asked of every three nodes
  pub valid-rotates : (a b c : ℕ) → a < n → b < n → c < n → Rotates t.pairs t.parents t.root a b c
  valid-rotates a b c A B C = record { stands_a = valid-stands a A; stands_b = valid-stands b B; stands_c = valid-stands c C }

  -- `set_height` may be asked of every node
  pub valid-height : (k : ℕ) → k < n → k < length t.heights
  valid-height k K = let s : Sized n t = v.sized in omega arith

-- ---- the whole tree

-- a node that took a height
pub height-whole : (t : Tree) (k : ℕ) (x : Float) {h : List Float} → h ≡ set t.heights k x
    → record { pairs = t.pairs; parents = t.parents; heights = h; root = t.root } ≡ set_height t k x
unfolding set_height
height-whole t k x e = λ i. record { pairs = t.pairs; parents = t.parents; heights = e i; root = t.root }

module _ (n : ℕ) (t : Tree) {p q : List ℕ} {r : ℕ} where
  -- a node that was put into a slot
  pub put_whole : (x c : ℕ) → bare p q r ≡ put n (bare t.pairs t.parents t.root) x c
      → record { pairs = p; parents = q; heights = t.heights; root = r } ≡ put n t x c
  unfolding put
  put_whole x c e = λ i. record { pairs = (e i).pairs; parents = (e i).parents; heights = t.heights; root = (e i).root }

  -- two nodes that changed places
  pub swap-whole : (a b : ℕ) → bare p q r ≡ swap n (bare t.pairs t.parents t.root) a b
      → record { pairs = p; parents = q; heights = t.heights; root = r } ≡ swap n t a b
  unfolding swap put slot_of parent
  swap-whole a b e = λ i. record { pairs = (e i).pairs; parents = (e i).parents; heights = t.heights; root = (e i).root }

  -- three nodes that moved round
  pub rotate-whole : (a b c : ℕ) → bare p q r ≡ rotate n (bare t.pairs t.parents t.root) a b c
      → record { pairs = p; parents = q; heights = t.heights; root = r } ≡ rotate n t a b c
  unfolding rotate put slot_of parent
  rotate-whole a b c e = λ i. record { pairs = (e i).pairs; parents = (e i).parents; heights = t.heights; root = (e i).root }
