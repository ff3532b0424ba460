-- The value of a valid tree with ages in whole thousandths: what holds of every node with its value, by induction (`value-induction`); its tips, which are each
-- named once (`whole-tips`, `whole-occurs`, `whole-named`); and its text, which the spelling takes (`whole_run`). Assumes nothing.
use Rattle.std.specs.Prelude.{◌≡◌, refl, ◌⊎◌, get_or}
use Rattle.std.proofs.Common.{sym, ap₂, ◌∙◌, subst, inl, inr, ⊎_elim, lt-ltb, le-ltb}
use mathlib.Core.List.{List, [], ◌∷◌, ◌++◌}
use Prim.Native.Nat.{ℕ, zero, suc, ◌+◌, ◌-◌, ◌≤◌, ◌<◌}
use Rattle.std.proofs.Math.Decide.{dec_le}
use native.Mathlib.Omega.{arith}
use Rattle.std.proofs.Math.ListN.{length, length-append}
use Rattle.tree.specs.Tree.{Tree, tips_of, first_in, second_in, first, second, subtree}
use Rattle.tree.specs.Valid.{Valid}
use Rattle.tree.specs.ListLaws.{Has, has_one, has-cases}
use Rattle.accepted.specs.Ways.{Linked, Way}
use Rattle.accepted.specs.WayLaws.{valid-linked, valid-nodes, first_way, second_way, way, way-short}
use Rattle.accepted.specs.SubtreeLaws.{subtree-induction, postorder-all, postorder-length}
use Rattle.accepted.specs.RootLaws.{root-inner}
use Rattle.newick.specs.Newick.{Newick, tip, join, whole_text, reached, run, start, done}
use Rattle.newick.specs.Numbering.{joins, times}
use Rattle.newick.specs.Copies.{dated_at}
use Rattle.newick.specs.RunLaws.{written_read}
use Rattle.newick.specs.NumberingLaws.{times-own, Named}
use Rattle.newick.specs.NamedLaws.{all_named}

-- the length of the branch over a child
abbrev pub branch_over : List ℕ → ℕ → ℕ → ℕ
branch_over ages k c = get_or ages k 0 - get_or ages c 0

-- two values under a node
abbrev pub join_at : List ℕ → List ℕ → ℕ → Newick → Newick → Newick
join_at pairs ages k a b = join a (branch_over ages k (first_in pairs k)) b (branch_over ages k (second_in pairs k))

-- ---- one level

module _ (n : ℕ) (ps l : List ℕ) (k : ℕ) where
  level-inner : n < k + k → (f : ℕ) → dated_at (suc f) n ps l k ≡ join_at ps l k (dated_at f n ps l (first_in ps k)) (dated_at f n ps l (second_in ps k))
  unfolding dated_at
  level-inner i f = rw (lt-ltb n (k + k) i)

  level-tip : k + k ≤ n → (f : ℕ) → dated_at (suc f) n ps l k ≡ tip k
  unfolding dated_at
  level-tip i f = rw (le-ltb n (k + k) i)

-- ---- in a valid tree

module _ (n : ℕ) (t : Tree) (v : Valid n t) (ages : List ℕ) where
  linked : Linked n t
  linked = valid-linked v

  -- the value of a node, as far down as f levels
  abbrev down_to : ℕ → ℕ → Newick
  down_to f k = dated_at f n t.pairs ages k

  abbrev pub value_of : ℕ → Newick
  value_of k = down_to n k

  -- below a node that is d steps under the root there are fewer than n - d levels
  deep-same : (f k d : ℕ) → k < n → Way t d k → n ≤ d + f → down_to f k ≡ down_to (suc f) k
  deep-same zero k d K w h = let z : d < n = way-short n t linked w K in absurd (omega arith)
  deep-same (suc f) k d K w h = pick (dec_le (k + k) n) (λ m M y. deep-same f m (suc d) M y (omega arith))
    where
      pick : Dec (k + k ≤ n) → ((m : ℕ) → m < n → Way t (suc d) m → down_to f m ≡ down_to (suc f) m) → down_to (suc f) k ≡ down_to (suc (suc f)) k
      pick (yes i) rest = level-tip n t.pairs ages k i f ∙ sym (level-tip n t.pairs ages k i (suc f))
      pick (no i) rest =
          let j : n < k + k = omega arith in
          let x = v.inner k K j in
          let a = rest (first t k) x.first_node (first_way n t linked k K j w) in
          let b = rest (second t k) x.second_node (second_way n t linked k K j w) in
          level-inner n t.pairs ages k j f ∙ ap₂ (join_at t.pairs ages k) a b ∙ sym (level-inner n t.pairs ages k j (suc f))

  deeper : (k : ℕ) → k < n → value_of k ≡ down_to (suc n) k
  deeper k K = let w = way (v.joined k K) in deep-same n k w.0 K w.1 (omega arith)

  value-inner : (k : ℕ) → k < n → n < k + k → value_of k ≡ join_at t.pairs ages k (value_of (first t k)) (value_of (second t k))
  value-inner k K i = deeper k K ∙ level-inner n t.pairs ages k i n

  value-tip : (k : ℕ) → k < n → k + k ≤ n → value_of k ≡ tip k
  value-tip k K i = deeper k K ∙ level-tip n t.pairs ages k i n

  -- what holds of a tip, and of an inner node if it holds of its children, with their subtrees and values
  pub value-induction : (P : ℕ → List ℕ → Newick → Type 0) → ((k : ℕ) → k < n → k + k ≤ n → P k (k ∷ []) (tip k))
      → ((k : ℕ) → k < n → n < k + k → (A B : List ℕ) (a b : Newick) → P (first t k) A a → P (second t k) B b
      → P k ((A ++ B) ++ (k ∷ [])) (join_at t.pairs ages k a b))
      → (k : ℕ) → k < n → P k (subtree n n t.pairs k) (value_of k)
  value-induction P T I = subtree-induction n t v (λ k l. P k l (value_of k))
      (λ k K i. subst (P k (k ∷ [])) (sym (value-tip k K i)) (T k K i))
      (λ k K i A B p q. subst (P k ((A ++ B) ++ (k ∷ []))) (sym (value-inner k K i)) (I k K i A B (value_of (first t k)) (value_of (second t k)) p q))

  -- ---- its tips

  -- the value has a tip for each tip of the subtree
  abbrev Occur : List ℕ → Newick → Type 0
  Occur l w = (j : ℕ) → j + j ≤ n → Has l j → 1 ≤ times j w

  -- and as many nodes as it
  shape : (k : ℕ) → k < n → (length (subtree n n t.pairs k) ≡ suc (joins (value_of k) + joins (value_of k))) × Occur (subtree n n t.pairs k) (value_of k)
  unfolding joins times
  shape = value-induction (λ k l w. (length l ≡ suc (joins w + joins w)) × Occur l w)
      (λ k K i. (refl, λ j J h. let e = times-own j k (has_one h) in omega arith))
      (λ k K i A B a b p q. (
        (let e = three A B k in let f = p.0 in let g = q.0 in omega arith),
        λ j J h. pick k i A B a b p.1 q.1 j J (has-cases (A ++ B) (k ∷ []) h),
      ))
    where
      three : (A B : List ℕ) (k : ℕ) → length ((A ++ B) ++ (k ∷ [])) ≡ suc (length A + length B)
      three A B k = let p = length-append (A ++ B) (k ∷ []) in let q = length-append A B in omega arith

      pick : (k : ℕ) → n < k + k → (A B : List ℕ) (a b : Newick) → Occur A a → Occur B b
          → (j : ℕ) → j + j ≤ n → Has (A ++ B) j ⊎ Has (k ∷ []) j → 1 ≤ times j a + times j b
      pick k i A B a b p q j J (inl h) =
          ⊎_elim (λ (g : Has A j). let z = p j J g in omega arith) (λ (g : Has B j). let z = q j J g in omega arith) (has-cases A B h)
      pick k i A B a b p q j J (inr h) = let e = has_one h in absurd (omega arith)

  -- ---- the whole

  abbrev pub whole : Newick
  whole = value_of t.root

  pub whole-tips : suc (joins whole) ≡ tips_of n
  whole-tips =
      let p = (shape t.root v.root_node).0 in
      let q : length (subtree n n t.pairs t.root) ≡ n =
      subst (λ (m : ℕ). length (subtree m m t.pairs t.root) ≡ n) (valid-nodes v) (postorder-length n t v) in
      omega arith

  pub whole-occurs : (j : ℕ) → j < tips_of n → 1 ≤ times j whole
  whole-occurs j J =
      (shape t.root v.root_node).1 j (let o = v.sized.odd in omega arith)
      (subst (λ (m : ℕ). Has (subtree m m t.pairs t.root) j) (valid-nodes v) (postorder-all n t v j (let s = v.sized.some in omega arith)))

  -- the tips of a tree are each named once
  pub whole-named : Named (tips_of n) whole
  whole-named = all_named (tips_of n) whole whole-tips whole-occurs

  -- its text is spelled to the end, as its value
  pub whole_run : run start [] (whole_text whole) ≡ reached (done whole) []
  whole_run =
      let k = t.root in
      subst (λ (w : Newick). run start [] (whole_text w) ≡ reached (done w) []) (sym (value-inner k v.root_node (root-inner v)))
      (written_read (value_of (first t k)) (branch_over ages k (first t k)) (value_of (second t k)) (branch_over ages k (second t k)))
