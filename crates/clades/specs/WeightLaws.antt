-- What the tips below a node weigh, against the tests of Clades. In order: a sum of weights tells whether two tests agree (`over-told`,
-- `exactly-told`); a set is empty where its size is 0 (`size_none`, `size-some`); in a valid tree, an inner node weighs what its children
-- weigh (`weight-inner`, `weight-tip`, `weight-few`), and a node weighs as much as the set where it is over it, or has exactly its tips
-- (`weighs-over`, `weighs-exactly`). Assumes nothing.
use Rattle.std.specs.Prelude.{◌≡◌, Bool, false, not, ◌&&◌, ◌||◌, cond, List, [], ◌∷◌, ◌++◌, eqb}
use Rattle.std.proofs.Math.Path.{refl, sym, ap}
use Rattle.std.proofs.Common.{◌∙◌, true≢false, lt-ltb, le-ltb, eq-eqb, ne_eqb}
use Rattle.std.proofs.Math.Bool.{true, beq}
use Prim.Native.Nat.{ℕ, zero, suc, ◌+◌, ◌*◌, ◌≤◌, ◌<◌}
use native.Mathlib.Omega.{arith}
use Rattle.std.proofs.Math.Decide.{dec_lt}
use Rattle.std.proofs.Math.ListN.{length}
use Rattle.tree.specs.Bounded.{every, some, count_to}
use Rattle.tree.specs.BoundedLaws.{every-at, some-false}
use Rattle.tree.specs.Tree.{Tree, tips_of, first, second, subtree}
use Rattle.tree.specs.Valid.{Valid}
use Rattle.tree.specs.ListLaws.{distinct-few}
use Rattle.accepted.specs.WayLaws.{valid-nodes}
use Rattle.accepted.specs.SubtreeLaws.{subtree-inner, subtree-tip, subtree-sound, subtree-distinct}
use Rattle.clades.specs.Clades.{has, marked, size_of, exactly, over}
use Rattle.clades.specs.Counting.{total, total_to, weight, weight_below, weighs}
use Rattle.clades.specs.SumLaws.{total-append, total-most, total_to-same, within, total-distinct, count_most, count-some, count_none, total-count}

-- ---- weights against tests

-- a weight c beside a size s: they are equal where b holds, and c is less or at least w where it does not
data Told (w : ℕ) (b : Bool) (c s : ℕ) : Type 0 where
  level : b ≡ true → c ≡ s → Told w b c s
  lighter : b ≡ false → c < s → Told w b c s
  heavier : b ≡ false → w ≤ c → Told w b c s

-- so where s is below w, that they are equal tells b
told_is : (w : ℕ) (b : Bool) (c s : ℕ) → s < w → Told w b c s → eqb c s ≡ b
told_is w b c s S (level e f) = rw (e, eq-eqb c s f)
told_is w b c s S (lighter e f) = rw (e, ne_eqb c s (λ q. omega arith))
told_is w b c s S (heavier e f) = rw (e, ne_eqb c s (λ q. omega arith))

-- what a number below a node adds to its weight
abbrev weights : (ℕ → Bool) → (ℕ → Bool) → ℕ → ℕ → ℕ
weights p q others i = cond (q i) (cond (p i) 1 others) 0

-- one more number: that what is in the set is below the node, those outside the set weighing nothing
over-step : (w : ℕ) (p q b : Bool) (c s : ℕ) → Told w b c s → Told w (b && (not p || q)) (c + cond q (cond p 1 0) 0) (s + cond p 1 0)
over-step w true true b c s (level e f) = level (rw e) (omega arith)
over-step w true true b c s (lighter e f) = lighter (rw e) (omega arith)
over-step w true true b c s (heavier e f) = heavier (rw e) (omega arith)
over-step w true false b c s (level e f) = lighter (rw e) (omega arith)
over-step w true false b c s (lighter e f) = lighter (rw e) (omega arith)
over-step w true false b c s (heavier e f) = heavier (rw e) (omega arith)
over-step w false true b c s (level e f) = level (rw e) (omega arith)
over-step w false true b c s (lighter e f) = lighter (rw e) (omega arith)
over-step w false true b c s (heavier e f) = heavier (rw e) (omega arith)
over-step w false false b c s (level e f) = level (rw e) (omega arith)
over-step w false false b c s (lighter e f) = lighter (rw e) (omega arith)
over-step w false false b c s (heavier e f) = heavier (rw e) (omega arith)

-- that what is in the set, and nothing else, is below the node, those outside the set weighing w
exactly-step : (w : ℕ) (p q b : Bool) (c s : ℕ) → Told w b c s → Told w (b && beq p q) (c + cond q (cond p 1 w) 0) (s + cond p 1 0)
exactly-step w true true b c s (level e f) = level (rw e) (omega arith)
exactly-step w true true b c s (lighter e f) = lighter (rw e) (omega arith)
exactly-step w true true b c s (heavier e f) = heavier (rw e) (omega arith)
exactly-step w true false b c s (level e f) = lighter (rw e) (omega arith)
exactly-step w true false b c s (lighter e f) = lighter (rw e) (omega arith)
exactly-step w true false b c s (heavier e f) = heavier (rw e) (omega arith)
exactly-step w false true b c s (level e f) = heavier (rw e) (omega arith)
exactly-step w false true b c s (lighter e f) = heavier (rw e) (omega arith)
exactly-step w false true b c s (heavier e f) = heavier (rw e) (omega arith)
exactly-step w false false b c s (level e f) = level (rw e) (omega arith)
exactly-step w false false b c s (lighter e f) = lighter (rw e) (omega arith)
exactly-step w false false b c s (heavier e f) = heavier (rw e) (omega arith)

-- so for the first m numbers
module _ (p q : ℕ → Bool) (w : ℕ) where
  over-told : (m : ℕ) → Told w (every (λ i. not (p i) || q i) m) (total_to (weights p q 0) m) (count_to p m)
  unfolding every total_to count_to
  over-told zero = level refl refl
  over-told (suc m) = over-step w (p m) (q m) _ _ _ (over-told m)

  exactly-told : (m : ℕ) → Told w (every (λ i. beq (p i) (q i)) m) (total_to (weights p q w) m) (count_to p m)
  unfolding every total_to count_to
  exactly-told zero = level refl refl
  exactly-told (suc m) = exactly-step w (p m) (q m) _ _ _ (exactly-told m)

-- ---- the weight of a number

-- what is no tip weighs nothing
weight-tips : (members : List Bool) (others c : ℕ) → length members ≤ c → weight members others c ≡ 0
unfolding weight
weight-tips members others c h = rw (le-ltb c (length members) h)

-- what a tip weighs
pub weight-at : (members : List Bool) (others i : ℕ) → i < length members → weight members others i ≡ cond (marked members i) 1 others
unfolding weight
weight-at members others i h = rw (lt-ltb i (length members) h)

-- where others weigh 1, every tip does
pub weight-one : (members : List Bool) (i : ℕ) → i < length members → weight members 1 i ≡ 1
weight-one members i h = weight-at members 1 i h ∙ either (marked members i)
  where
    either : (b : Bool) → ◌≡◌ {A = ℕ} (cond b 1 1) 1
    either true = refl
    either false = refl

-- a weight is at most that of either kind of tip
pub weight-most : (members : List Bool) (others w : ℕ) → 1 ≤ w → others ≤ w → (k : ℕ) → weight members others k ≤ w
unfolding weight
weight-most members others w W O k = elim (dec_lt k (length members)) [
  | yes h ↦ rw (lt-ltb k (length members) h) (pick (marked members k))
  | no h ↦ rw (le-ltb k (length members) (omega arith)) (omega arith)
]
  where
    pick : (b : Bool) → cond b 1 others ≤ w
    pick true = W
    pick false = O

-- and none weighs less than where they weigh nothing
pub weight-more : (members : List Bool) (i : ℕ) → weight members 0 i ≤ weight members 1 i
weight-more members i = elim (dec_lt i (length members)) [
  | yes h ↦ let a = weight-one members i h in let b = weight-most members 0 1 (omega arith) (omega arith) i in omega arith
  | no h ↦ let a = weight-tips members 0 i (omega arith) in omega arith
]

-- ---- the size of a set

-- a set of size 0 is empty
pub size_none : (members : List Bool) → size_of members ≡ 0 → some (marked members) (length members) ≡ false
unfolding size_of
size_none members e = some-false (marked members) (length members) (λ c C. clear c C (marked members c) refl)
  where
    clear : (c : ℕ) → c < length members → (b : Bool) → marked members c ≡ b → marked members c ≡ false
    clear c C true p = let h = count-some (marked members) (length members) c C p in absurd (omega arith)
    clear c C false p = p

-- one of another size is not
pub size-some : (members : List Bool) → (size_of members ≡ 0 → ⊥) → some (marked members) (length members) ≡ true
unfolding size_of
size-some members d = pick (some (marked members) (length members)) refl
  where
    pick : (b : Bool) → some (marked members) (length members) ≡ b → some (marked members) (length members) ≡ true
    pick true e = e
    pick false e = absurd (d (count_none (marked members) (length members) e))

-- ---- the weight of a node of a valid tree

module _ (n : ℕ) (t : Tree) (v : Valid n t) (members : List Bool) (M : length members ≡ tips_of n) where
  -- the weight below an inner node is that below its two children
  pub weight-inner : (others k : ℕ) → k < n → n < k + k
      → weight_below n t.pairs members others k ≡ weight_below n t.pairs members others (first t k) + weight_below n t.pairs members others (second t k)
  unfolding weight_below total
  weight-inner others k K i =
      let f = weight members others in
      let A = subtree n n t.pairs (first t k) in
      let B = subtree n n t.pairs (second t k) in
      let one = total-append f (A ++ B) (k ∷ []) in
      let two = total-append f A B in
      let nothing = weight-tips members others k (omega (arith, v.sized.odd)) in
      rw (subtree-inner n t v k K i) (omega arith)

  -- the weight below a tip is its own
  pub weight-tip : (others k : ℕ) → k < n → k + k ≤ n → weight_below n t.pairs members others k ≡ weight members others k
  unfolding weight_below total
  weight-tip others k K i = rw (subtree-tip n t v k K i) (omega arith)

  -- no weight is above the most that all nodes could have
  pub weight-few : (others k : ℕ) → others ≤ 65536 → k < n → weight_below n t.pairs members others k ≤ 65536 * n
  unfolding weight_below
  weight-few others k O K =
      let l = subtree n n t.pairs k in
      let a = total-most (weight members others) 65536 (weight-most members others 65536 (omega arith) O) l in
      let b = distinct-few n l (subtree-distinct n t v k K) (λ c h. (subtree-sound n t v k c K h).0) in
      omega arith

  -- a node's weight, counted by the numbers of the tips
  below-weights : (others k : ℕ) → k < n
      → weight_below n t.pairs members others k ≡ total_to (weights (marked members) (has (subtree n n t.pairs k)) others) (tips_of n)
  unfolding weight_below
  below-weights others k K =
      let l = subtree n n t.pairs k in
      total-distinct (weight members others) (tips_of n) l (subtree-distinct n t v k K) (λ c h C. weight-tips members others c (omega arith))
      ∙ total_to-same (within (weight members others) l) (weights (marked members) (has l) others) (tips_of n) (λ i I. each i (omega arith))
    where
      each : (i : ℕ) → i < length members → within (weight members others) (subtree n n t.pairs k) i ≡ weights (marked members) (has (subtree n n t.pairs k)) others i
      each i I = rw (weight-at members others i I)

  -- the size of the set, counted by them too
  size-tips : size_of members ≡ count_to (marked members) (tips_of n)
  unfolding size_of
  size-tips = ap (count_to (marked members)) M

  size_less : (w : ℕ) → tips_of n < w → count_to (marked members) (tips_of n) < w
  size_less w W = let h = count_most (marked members) (tips_of n) in omega arith

  -- where tips outside the set weigh nothing, the nodes over the set are those that weigh as much
  pub weighs-over : (k : ℕ) → k < n → weighs n t.pairs members 0 k ≡ over t members k
  unfolding weighs over
  weighs-over k K = rw (below-weights 0 k K, size-tips, valid-nodes v)
      (told_is (suc (tips_of n)) _ _ _ (size_less (suc (tips_of n)) (omega arith)) (over-told (marked members) (has (subtree n n t.pairs k)) (suc (tips_of n)) (tips_of n)))

  -- where a tip outside the set weighs more than all in it, the nodes with exactly the set's tips are those that weigh as much
  pub weighs-exactly : (others k : ℕ) → tips_of n < others → k < n → weighs n t.pairs members others k ≡ exactly t members k
  unfolding weighs exactly
  weighs-exactly others k O K = rw (below-weights others k K, size-tips, valid-nodes v)
      (told_is others _ _ _ (size_less others O) (exactly-told (marked members) (has (subtree n n t.pairs k)) others (tips_of n)))

  -- a node with exactly the set's tips has as many below it as the set has
  pub exactly-tips : (k : ℕ) → k < n → exactly t members k ≡ true → weight_below n t.pairs members 1 k ≡ size_of members
  unfolding exactly
  exactly-tips k K e =
      below-weights 1 k K
      ∙ total-count (weights (marked members) (has (subtree n n t.pairs k)) 1) (marked members) (tips_of n) each
      ∙ sym size-tips
    where
      test : every (λ i. beq (marked members i) (has (subtree n n t.pairs k) i)) (tips_of n) ≡ true
      test = rw (valid-nodes v) at e

      alike : (a b : Bool) → beq a b ≡ true → ◌≡◌ {A = ℕ} (cond b (cond a 1 1) 0) (cond a 1 0)
      alike true true h = refl
      alike true false h = absurd (true≢false (sym h))
      alike false true h = absurd (true≢false (sym h))
      alike false false h = refl

      each : (i : ℕ) → i < tips_of n → weights (marked members) (has (subtree n n t.pairs k)) 1 i ≡ cond (marked members i) 1 0
      each i I = alike (marked members i) (has (subtree n n t.pairs k) i) (every-at _ (tips_of n) test i I)
