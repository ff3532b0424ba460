-- A valid tree that is "numbered in the order their parentheses close", with ages that do not rise downward (`Ordered`): its own pairs and ages are those of
-- its value (`own-dated`), so that the value gives its pairs back (`own-pairs`); and no way down is longer than the age (`reach-le`). Assumes nothing.
use Rattle.std.specs.Prelude.{◌≡◌, refl, Bool, true, false, cond, List, [], ◌∷◌, ◌++◌, ℕ, zero, suc, ◌+◌, ◌-◌, ◌/◌, ◌≤◌, ◌<◌, replicate}
use Rattle.std.proofs.Common.{sym, ap, ap₂, ◌∙◌, subst, inl, le_refl, arith, length-append, lt-ltb, le-ltb}
use Rattle.std.proofs.Math.Decide.{ℕ_discrete, dec_lt}
use Rattle.std.proofs.Math.ListN.{length, get_or}
use Rattle.std.proofs.lemmas.List.{length-replicate, get_or-replicate}
use Rattle.std.proofs.Math.Seq.{ext_get_or}
use Rattle.tree.specs.Tree.{Tree, no_node, tips_of, inner, first, second, subtree}
use Rattle.tree.specs.Valid.{Valid}
use Rattle.accepted.specs.WayLaws.{valid-nodes}
use Rattle.newick.specs.Newick.{Newick, tip}
use Rattle.newick.specs.Numbering.{joins, tips_in, nodes_in, node_of, pairs_in, pairs_read, reach, ages_in}
use Rattle.newick.specs.Copies.{inners_in, up_from, Closing}
use Rattle.newick.specs.NumberingLaws.{over, pairs-length, pairs-other}
use Rattle.newick.specs.DatedLaws.{Dated, dated-built, same_pairs}
use Rattle.newick.specs.TreeLaws.{branch_over, join_at, value_of, value-induction, whole, whole-tips, whole-named}

-- ---- lists of internal nodes

inners-append : (n : ℕ) (l m : List ℕ) → inners_in n (l ++ m) ≡ inners_in n l ++ inners_in n m
unfolding inners_in
inners-append n [] m = refl
inners-append n (k ∷ l) m = go (inner n k) (inners-append n l m)
  where
    go : (c : Bool) → inners_in n (l ++ m) ≡ inners_in n l ++ inners_in n m
        → cond c (k ∷ inners_in n (l ++ m)) (inners_in n (l ++ m)) ≡ cond c (k ∷ inners_in n l) (inners_in n l) ++ inners_in n m
    go true e = ap (λ (x : List ℕ). k ∷ x) e
    go false e = e

inners-tip : (n k : ℕ) → k + k ≤ n → inners_in n (k ∷ []) ≡ []
unfolding inners_in
inners-tip n k i = rw (le-ltb n (k + k) i)

inners-inner : (n k : ℕ) → n < k + k → inners_in n (k ∷ []) ≡ k ∷ []
unfolding inners_in
inners-inner n k i = rw (lt-ltb n (k + k) i)

-- ---- numbers one after the other

head-same : (x y : ℕ) (l m : List ℕ) → x ∷ l ≡ y ∷ m → x ≡ y
head-same x y l m e = ap (λ (z : List ℕ). get_or z 0 0) e

tail-same : (x y : ℕ) (l m : List ℕ) → x ∷ l ≡ y ∷ m → l ≡ m
tail-same x y l m e = cc

-- cut in two
up_split : (l m : List ℕ) (b c d : ℕ) → length l ≡ c → l ++ m ≡ up_from b (c + d) → (l ≡ up_from b c) × (m ≡ up_from (b + c) d)
unfolding up_from
up_split [] m b zero d h e = (refl, let z : b + 0 ≡ b = omega arith in let y : 0 + d ≡ d = omega arith in rw z (rw y at e))
up_split [] m b (suc c) d h e = absurd (omega arith)
up_split (x ∷ l) m b zero d h e = absurd (omega arith)
up_split (x ∷ l) m b (suc c) d h e =
    let y : suc c + d ≡ suc (c + d) = omega arith in
    let f : x ∷ (l ++ m) ≡ b ∷ up_from (suc b) (c + d) = rw y at e in
    let r = up_split l m (suc b) c d (omega arith) (tail-same x b (l ++ m) (up_from (suc b) (c + d)) f) in
    let first-number = head-same x b (l ++ m) (up_from (suc b) (c + d)) f in
    let z : suc b + c ≡ b + suc c = omega arith in
    (ap₂ (λ (i : ℕ) (j : List ℕ). i ∷ j) first-number r.0, r.1 ∙ ap (λ (i : ℕ). up_from i d) z)

-- two parts and an end
up-parts : (A B : List ℕ) (k b c d : ℕ) → length A ≡ c → length B ≡ d → (A ++ B) ++ (k ∷ []) ≡ up_from b (suc (c + d))
    → (A ≡ up_from b c) × (B ≡ up_from (b + c) d) × (k ≡ b + c + d)
unfolding up_from
up-parts A B k b c d p q e =
    let both = length-append A B in
    let y : suc (c + d) ≡ c + d + 1 = omega arith in
    let s = up_split (A ++ B) (k ∷ []) b (c + d) 1 (omega arith) (e ∙ ap (up_from b) y) in
    let r = up_split A B b c d p s.0 in
    let last : k ≡ b + (c + d) = head-same k (b + (c + d)) [] [] s.1 in
    (r.0, r.1, omega arith)

-- ---- in a valid tree

-- a child is no older than its parent
abbrev pub Ordered : ℕ → Tree → List ℕ → Type 0
Ordered n t ages = (k : ℕ) → k < n → n < k + k → (get_or ages (first t k) 0 ≤ get_or ages k 0) × (get_or ages (second t k) 0 ≤ get_or ages k 0)

module _ (n : ℕ) (t : Tree) (v : Valid n t) (ages : List ℕ) (O : Ordered n t ages) where
  pub reach-le : (k : ℕ) → k < n → reach (value_of n t v ages k) ≤ get_or ages k 0
  unfolding reach
  reach-le = value-induction n t v ages (λ k l w. reach w ≤ get_or ages k 0) (λ k K i. omega arith)
      (λ k K i A B a b p q. let o = O k K i in let x = o.0 in let y = o.1 in omega arith)

  -- a value has a parenthesis for each internal node of its subtree l, whose upper node is k; where those are b and so on, in the order of l, they have the
  -- numbers of the parentheses, and the tree has the pairs and the ages of the value
  abbrev Numbered : ℕ → List ℕ → Newick → Type 0
  Numbered k l w = (length (inners_in n l) ≡ joins w)
      × ((b : ℕ) → tips_of n ≤ b → inners_in n l ≡ up_from b (joins w) → (node_of b w ≡ k) × Dated (tips_of n) t.pairs ages b (get_or ages k 0) w)

  numbered : (k : ℕ) → k < n → Numbered k (subtree n n t.pairs k) (value_of n t v ages k)
  unfolding joins node_of
  numbered = value-induction n t v ages Numbered tip-case inner-case
    where
      tip-case : (k : ℕ) → k < n → k + k ≤ n → Numbered k (k ∷ []) (tip k)
      tip-case k K i = (ap length (inners-tip n k i), λ b B e. (refl, ((let o = v.sized.odd in omega arith), refl)))

      inner-case : (k : ℕ) → k < n → n < k + k → (A B : List ℕ) (a b : Newick) → Numbered (first t k) A a → Numbered (second t k) B b
          → Numbered k ((A ++ B) ++ (k ∷ [])) (join_at t.pairs ages k a b)
      inner-case k K i A B a b p q = (count, held)
        where
          parts : inners_in n ((A ++ B) ++ (k ∷ [])) ≡ (inners_in n A ++ inners_in n B) ++ (k ∷ [])
          parts = inners-append n (A ++ B) (k ∷ []) ∙ ap₂ (λ (x y : List ℕ). x ++ y) (inners-append n A B) (inners-inner n k i)

          count : length (inners_in n ((A ++ B) ++ (k ∷ []))) ≡ suc (joins a + joins b)
          count =
              let all = length-append (inners_in n A ++ inners_in n B) (k ∷ []) in
              let both = length-append (inners_in n A) (inners_in n B) in
              let count-a = p.0 in
              let count-b = q.0 in
              ap length parts ∙ omega arith

          held : (c : ℕ) → tips_of n ≤ c → inners_in n ((A ++ B) ++ (k ∷ [])) ≡ up_from c (suc (joins a + joins b))
              → (over c a b ≡ k) × Dated (tips_of n) t.pairs ages c (get_or ages k 0) (join_at t.pairs ages k a b)
          held c C e =
              let r = up-parts (inners_in n A) (inners_in n B) k c (joins a) (joins b) p.0 q.0 (sym parts ∙ e) in
              let held-a = p.1 c C r.0 in
              let held-b = q.1 (c + joins a) (omega arith) r.1 in
              let own : over c a b ≡ k = sym r.2 in
              let order = O k K i in
              let order-a = order.0 in
              let order-b = order.1 in
              let age-a : get_or ages (first t k) 0 ≡ get_or ages k 0 - branch_over ages k (first t k) = omega arith in
              let age-b : get_or ages (second t k) 0 ≡ get_or ages k 0 - branch_over ages k (second t k) = omega arith in (
                own,
                (
                  ap (λ (z : ℕ). get_or t.pairs (z + z) 0) own ∙ sym held-a.0,
                  ap (λ (z : ℕ). get_or t.pairs (suc (z + z)) 0) own ∙ sym held-b.0,
                  ap (λ (z : ℕ). get_or ages z 0) own,
                  subst (λ (z : ℕ). Dated (tips_of n) t.pairs ages c z a) age-a held-a.1,
                  subst (λ (z : ℕ). Dated (tips_of n) t.pairs ages (c + joins a) z b) age-b held-b.1,
                ),
              )

  -- ---- numbered in closing order

  module _ (C : Closing n t) where
    pub own-dated : Dated (tips_of n) t.pairs ages (tips_of n) (get_or ages t.root 0) (whole n t v ages)
    own-dated = ((numbered t.root v.root_node).1 (tips_of n) (le_refl _) (closing ∙ ap (up_from (tips_of n)) count)).1
      where
        closing : inners_in n (subtree n n t.pairs t.root) ≡ up_from (tips_of n) (n - tips_of n)
        closing = subst (λ (m : ℕ). inners_in n (subtree m m t.pairs t.root) ≡ up_from (tips_of n) (n - tips_of n)) (valid-nodes v) C

        count : n - tips_of n ≡ joins (whole n t v ages)
        count = let e = whole-tips n t v ages in let o = v.sized.odd in omega arith

    pub own-pairs : pairs_read (whole n t v ages) ≡ t.pairs
    unfolding pairs_read
    own-pairs = ext_get_or 0 (pairs_in (tips_in w) w blank) t.pairs long each
      where
        w : Newick
        w = whole n t v ages

        tips : ℕ
        tips = tips_of n

        tips-alike : tips_in w ≡ tips
        tips-alike = whole-tips n t v ages

        nodes-alike : nodes_in w ≡ n
        nodes-alike = let e = tips-alike in let o = v.sized.odd in let s = v.sized.some in omega arith

        blank : List ℕ
        blank = replicate (nodes_in w + nodes_in w) no_node

        blank-long : length blank ≡ n + n
        blank-long = length-replicate (nodes_in w + nodes_in w) no_node ∙ (let e = nodes-alike in omega arith)

        long : length (pairs_in (tips_in w) w blank) ≡ length t.pairs
        long = pairs-length (tips_in w) w blank ∙ blank-long ∙ (let p = v.sized.pairs in omega arith)

        built : Dated tips (pairs_in tips w blank) (ages_in tips 0 w (replicate n 0)) tips 0 w
        built =
            let e = nodes-alike in
            let u = tips-alike in
            dated-built tips tips 0 w blank (replicate n 0) (le_refl _) (whole-named n t v ages)
            (let z = blank-long in omega arith) (let z : length (replicate n 0) ≡ n = length-replicate {A = ℕ} n 0 in omega arith)

        tips-blank : (i : ℕ) → i < tips + tips → get_or t.pairs i 0 ≡ no_node
        tips-blank i h = elim (ℕ_discrete (i - (i / 2 + i / 2)) 0) [
          | yes e ↦ let z : i ≡ i / 2 + i / 2 = omega arith in ap (λ (x : ℕ). get_or t.pairs x 0) z ∙ v.tip_first (i / 2) (omega arith)
          | no d ↦ let z : i ≡ suc (i / 2 + i / 2) = omega arith in ap (λ (x : ℕ). get_or t.pairs x 0) z ∙ v.tip_second (i / 2) (omega arith)
        ]

        each : (i : ℕ) → i < length (pairs_in (tips_in w) w blank) → get_or (pairs_in (tips_in w) w blank) i 0 ≡ get_or t.pairs i 0
        each i I = ap (λ (z : ℕ). get_or (pairs_in z w blank) i 0) tips-alike ∙ elim (dec_lt i (tips + tips)) [
          | yes h ↦
              pairs-other tips w blank i (inl h)
              ∙ get_or-replicate (nodes_in w + nodes_in w) i no_node 0 (let e = long in let f = nodes-alike in let p = v.sized.pairs in omega arith)
              ∙ sym (tips-blank i h)
          | no h ↦
              same_pairs tips (pairs_in tips w blank) (ages_in tips 0 w (replicate n 0)) t.pairs ages tips 0 (get_or ages t.root 0) w built own-dated
              i (omega arith) (let e = tips-alike in let f = long in let p = v.sized.pairs in let o = v.sized.odd in omega arith)
        ]
