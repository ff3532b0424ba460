-- A node's subtree as a list, and postorder. In order: a subtree one level down, and that it has its own node (`subtree-some`); in a linked
-- tree, that a root's subtree of n nodes has them all (`whole-joined`), and that a depth of n is enough (`deep-enough`); in a valid tree, a
-- subtree by its two children's (`subtree-inner`, `subtree-tip`, `subtree-induction`), and that it has the nodes under its node, each once
-- (`subtree-sound`, `subtree-distinct`, `subtree-complete`); and postorder, which has all nodes, each once, and children before their parent
-- (`postorder-nodes`, `postorder-all`, `postorder-distinct`, `postorder-length`, `postorder-before`). Assumes nothing.
use Rattle.std.specs.Prelude.{◌≡◌, refl, ◌≢◌, ◌⊎◌, List, [], ◌∷◌, ◌++◌, length, get_or}
use Rattle.std.proofs.Common.{sym, ◌∙◌, inl, inr, length-append, lt-ltb, le-ltb}
use Rattle.std.proofs.Math.Path.{subst}
use Prim.Native.Nat.{ℕ, zero, suc, ◌+◌, ◌-◌, ◌≤◌, ◌<◌}
use native.Mathlib.Omega.{arith}
use Rattle.std.proofs.Math.Decide.{dec_le, dec_lt}
use Rattle.std.proofs.Math.ListN.{get_or-append}
use Rattle.tree.specs.Tree.{Tree, first_in, second_in, first, second, parent, subtree, postorder}
use Rattle.tree.specs.Valid.{Inner, Below, Reach, here, Valid}
use Rattle.tree.specs.ListLaws.{Has, has-none, has_one, has_left, has_right, has-cases, get_d-right, Before, before-left, before-right, Distinct, distinct_none, distinct-one, distinct_append, distinct-few, all-many, full}
use Rattle.accepted.specs.Ways.{Linked, Way, arrived, Under, itself, through}
use Rattle.accepted.specs.WayLaws.{valid-linked, valid-nodes, under_root, first_way, second_way, way, way-only, way-short, under_parent, under-way, under_same, under-reach, reach-under}

-- ---- one level

module _ (n : ℕ) (pairs : List ℕ) (k : ℕ) where
  -- an inner node comes after its children's subtrees, which are one level less deep
  pub level-inner : n < k + k → (f : ℕ)
      → subtree (suc f) n pairs k ≡ (subtree f n pairs (first_in pairs k) ++ subtree f n pairs (second_in pairs k)) ++ (k ∷ [])
  unfolding subtree
  level-inner i f = rw (lt-ltb n (k + k) i)

  -- a tip is alone in its subtree
  pub level-tip : k + k ≤ n → (f : ℕ) → subtree (suc f) n pairs k ≡ k ∷ []
  unfolding subtree
  level-tip i f = rw (le-ltb n (k + k) i)

  -- a node is in its own subtree
  pub level-self : (f : ℕ) → 0 < f → Has (subtree f n pairs k) k
  level-self zero h = absurd (omega arith)
  level-self (suc f) h = elim (dec_le (k + k) n) [
    | yes i ↦ rw (level-tip i f) (0, omega arith, refl)
    | no i ↦
        let children = subtree f n pairs (first_in pairs k) ++ subtree f n pairs (second_in pairs k) in
        rw (level-inner (omega arith) f) (has_right children (k ∷ []) (0, omega arith, refl))
  ]

-- a subtree has at least its own node
pub subtree-some : (n : ℕ) (pairs : List ℕ) (k : ℕ) → k < n → 1 ≤ length (subtree n n pairs k)
subtree-some n pairs k K = let h = level-self n pairs k n (omega arith) in omega arith

-- ---- in a linked tree

-- nodes under k, each once
record Once (n : ℕ) (t : Tree) (k : ℕ) (l : List ℕ) : Type 0 where
  distinct : Distinct l
  sound : (c : ℕ) → Has l c → (c < n) × Under n t c k

module _ (n : ℕ) (t : Tree) (l : Linked n t) where
  once-tip : (k : ℕ) → k < n → Once n t k (k ∷ [])
  once-tip k K = record { distinct = distinct-one k; sound = λ c h. let e = has_one h in (omega arith, rw e itself) }

  once-inner : (k d : ℕ) → k < n → n < k + k → Way t d k → (A B : List ℕ) → Once n t (first t k) A → Once n t (second t k) B
      → Once n t k ((A ++ B) ++ (k ∷ []))
  once-inner k d K i w A B a b = record {
    distinct =
        distinct_append (A ++ B) (k ∷ [])
        (distinct_append A B a.distinct b.distinct (λ c p q. x.two (under_same (a.sound c p).1 (b.sound c q).1 wa wb)))
        (distinct-one k)
        (λ c p q. apart c (has_one q) (has-cases A B p));
    sound = λ c h. last c (has-cases (A ++ B) (k ∷ []) h);
  }
    where
      x : Inner n t k
      x = l.inner k K i

      wa : Way t (suc d) (first t k)
      wa = first_way n t l k K i w

      wb : Way t (suc d) (second t k)
      wb = second_way n t l k K i w

      -- k is not under a node further from the root
      further : {m : ℕ} → Way t (suc d) m → Under n t k m → ⊥
      further y u = let q = under-way u y in let z : d ≡ q.0 = way-only w q.2 in omega arith

      apart : (c : ℕ) → c ≡ k → Has A c ⊎ Has B c → ⊥
      apart c e (inl p) = further wa (rw e at (a.sound c p).1)
      apart c e (inr p) = further wb (rw e at (b.sound c p).1)

      child : (m c : ℕ) → m < n → parent t m ≡ k → (c < n) × Under n t c m → (c < n) × Under n t c k
      child m c M e u = (u.0, subst (Under n t c) e (under_parent u.1 M (under_root n t l k K m e)))

      both : (c : ℕ) → Has A c ⊎ Has B c → (c < n) × Under n t c k
      both c (inl p) = child (first t k) c x.first_node x.first_parent (a.sound c p)
      both c (inr p) = child (second t k) c x.second_node x.second_parent (b.sound c p)

      last : (c : ℕ) → Has (A ++ B) c ⊎ Has (k ∷ []) c → (c < n) × Under n t c k
      last c (inl p) = both c (has-cases A B p)
      last c (inr p) = (once-tip k K).sound c p

  -- the subtree of a node with a way to the root has nodes under it, each once, however deep it goes
  deep-once : (f k d : ℕ) → k < n → Way t d k → Once n t k (subtree f n t.pairs k)
  unfolding subtree
  deep-once zero k d K w = record { distinct = distinct_none; sound = λ c h. absurd (has-none h) }
  deep-once (suc f) k d K w = pick (dec_le (k + k) n) (λ m M y. deep-once f m (suc d) M y)
    where
      pick : Dec (k + k ≤ n) → ((m : ℕ) → m < n → Way t (suc d) m → Once n t m (subtree f n t.pairs m))
          → Once n t k (subtree (suc f) n t.pairs k)
      pick (yes i) rest = subst (Once n t k) (sym (level-tip n t.pairs k i f)) (once-tip k K)
      pick (no i) rest =
          let j : n < k + k = omega arith in
          let x = l.inner k K j in
          subst (Once n t k) (sym (level-inner n t.pairs k j f)) (once-inner k d K j w _ _
          (rest (first t k) x.first_node (first_way n t l k K j w))
          (rest (second t k) x.second_node (second_way n t l k K j w)))

  -- if the root's subtree has n nodes, every node reaches the root
  pub whole-joined : length (subtree n n t.pairs t.root) ≡ n → (c : ℕ) → c < n → Reach t c
  whole-joined e c C =
      let o = deep-once n t.root 0 l.root_node (arrived refl) in
      let h = full n (subtree n n t.pairs t.root) e o.distinct (λ b q. (o.sound b q).0) c C in
      under-reach (o.sound c h).1 (here refl)

  -- where the way to the root and the depth are n together, more depth changes nothing
  pub deep-enough : (f k d : ℕ) → k < n → Way t d k → n ≤ d + f → subtree f n t.pairs k ≡ subtree (suc f) n t.pairs k
  deep-enough zero k d K w h = let z : d < n = way-short n t l w K in absurd (omega arith)
  deep-enough (suc f) k d K w h = pick (dec_le (k + k) n) (λ m M y. deep-enough f m (suc d) M y (omega arith))
    where
      pick : Dec (k + k ≤ n) → ((m : ℕ) → m < n → Way t (suc d) m → subtree f n t.pairs m ≡ subtree (suc f) n t.pairs m)
          → subtree (suc f) n t.pairs k ≡ subtree (suc (suc f)) n t.pairs k
      pick (yes i) rest = level-tip n t.pairs k i f ∙ sym (level-tip n t.pairs k i (suc f))
      pick (no i) rest =
          let j : n < k + k = omega arith in
          let x = l.inner k K j in
          let a = rest (first t k) x.first_node (first_way n t l k K j w) in
          let b = rest (second t k) x.second_node (second_way n t l k K j w) in
          level-inner n t.pairs k j f ∙ rw (a, b) (sym (level-inner n t.pairs k j (suc f)))

-- ---- in a valid tree

module _ (n : ℕ) (t : Tree) (v : Valid n t) where
  linked : Linked n t
  linked = valid-linked v

  deeper : (k : ℕ) → k < n → subtree n n t.pairs k ≡ subtree (suc n) n t.pairs k
  deeper k K = let w = way (v.joined k K) in deep-enough n t linked n k w.0 K w.1 (omega arith)

  -- an inner node comes after its first child's subtree and its second child's
  pub subtree-inner : (k : ℕ) → k < n → n < k + k
      → subtree n n t.pairs k ≡ (subtree n n t.pairs (first t k) ++ subtree n n t.pairs (second t k)) ++ (k ∷ [])
  subtree-inner k K i = deeper k K ∙ level-inner n t.pairs k i n

  -- a tip is alone in its subtree
  pub subtree-tip : (k : ℕ) → k < n → k + k ≤ n → subtree n n t.pairs k ≡ k ∷ []
  subtree-tip k K i = deeper k K ∙ level-tip n t.pairs k i n

  -- what holds of a tip alone, and of an inner node after two lists if it holds of its children and these, holds of every node and its subtree
  pub subtree-induction : (P : ℕ → List ℕ → Type 0) → ((k : ℕ) → k < n → k + k ≤ n → P k (k ∷ []))
      → ((k : ℕ) → k < n → n < k + k → (A B : List ℕ) → P (first t k) A → P (second t k) B → P k ((A ++ B) ++ (k ∷ [])))
      → (k : ℕ) → k < n → P k (subtree n n t.pairs k)
  subtree-induction P tip inner k K = let w = way (v.joined k K) in go n k w.0 K w.1 (omega arith)
    where
      go : (f k d : ℕ) → k < n → Way t d k → n ≤ d + f → P k (subtree n n t.pairs k)
      go zero k d K w h = let z : d < n = way-short n t linked w K in absurd (omega arith)
      go (suc f) k d K w h = elim (dec_le (k + k) n) [
        | yes i ↦ rw (subtree-tip k K i) (tip k K i)
        | no i ↦
            let j : n < k + k = omega arith in
            let x = v.inner k K j in
            rw (subtree-inner k K j) (inner k K j _ _
            (go f (first t k) (suc d) x.first_node (first_way n t linked k K j w) (omega arith))
            (go f (second t k) (suc d) x.second_node (second_way n t linked k K j w) (omega arith)))
      ]

  once : (k : ℕ) → k < n → Once n t k (subtree n n t.pairs k)
  once k K = let w = way (v.joined k K) in deep-once n t linked n k w.0 K w.1

  -- what is in k's subtree is a node under k
  pub subtree-sound : (k c : ℕ) → k < n → Has (subtree n n t.pairs k) c → (c < n) × Under n t c k
  subtree-sound k c K = (once k K).sound c

  -- no node is twice in a subtree
  pub subtree-distinct : (k : ℕ) → k < n → Distinct (subtree n n t.pairs k)
  subtree-distinct k K = (once k K).distinct

  -- what is in a node's subtree is in its parent's
  subtree-parent : (c b : ℕ) → c < n → c ≢ t.root → Has (subtree n n t.pairs c) b → Has (subtree n n t.pairs (parent t c)) b
  subtree-parent c b C r h = rw (subtree-inner p x.parent_node x.parent_inner) (has_left (A ++ B) (p ∷ []) (sides x.side))
    where
      p : ℕ
      p = parent t c

      x : Below n t c
      x = v.below c C r

      A : List ℕ
      A = subtree n n t.pairs (first t p)

      B : List ℕ
      B = subtree n n t.pairs (second t p)

      sides : (c ≡ first t p) ⊎ (c ≡ second t p) → Has (A ++ B) b
      sides (inl e) = has_left A B (subst (λ (m : ℕ). Has (subtree n n t.pairs m) b) e h)
      sides (inr e) = has_right A B (subst (λ (m : ℕ). Has (subtree n n t.pairs m) b) e h)

  -- what is in the subtree of a node under k is in k's
  subtree-rise : {c k : ℕ} → Under n t c k → (b : ℕ) → Has (subtree n n t.pairs c) b → Has (subtree n n t.pairs k) b
  subtree-rise itself b h = h
  subtree-rise (through {c} C r u) b h = subtree-rise u b (subtree-parent c b C r h)

  -- a node under k is in k's subtree
  pub subtree-complete : (k c : ℕ) → k < n → Under n t c k → Has (subtree n n t.pairs k) c
  subtree-complete k c K u = subtree-rise u c (level-self n t.pairs c n (omega arith))

-- ---- children first

-- both children of node k come before place a of the list
abbrev ChildrenBefore : Tree → List ℕ → ℕ → ℕ → Type 0
ChildrenBefore t l a k = Before l a (first t k) × Before l a (second t k)

-- each inner node in the list comes after its two children
abbrev ChildrenFirst : ℕ → Tree → List ℕ → Type 0
ChildrenFirst n t l = (a k : ℕ) → a < length l → get_or l a 0 ≡ k → n < k + k → ChildrenBefore t l a k

module _ (n : ℕ) (t : Tree) (l : List ℕ) (L : ChildrenFirst n t l) where
  children-append : (m : List ℕ) → ((a k : ℕ) → a < length m → get_or m a 0 ≡ k → n < k + k → ChildrenBefore t (l ++ m) (length l + a) k)
      → ChildrenFirst n t (l ++ m)
  children-append m M a k A e i = elim (dec_lt a (length l)) [
    | yes h ↦
        let p = L a k h (sym (get_or-append l m 0 a h) ∙ e) i in
        (before-left l m (omega arith) p.0, before-left l m (omega arith) p.1)
    | no h ↦
        let w : length l + (a - length l) ≡ a = omega arith in
        rw w at (M (a - length l) k (omega (arith, length-append l m)) (sym (get_d-right l m a (omega arith)) ∙ e) i)
  ]

  children-both : (m : List ℕ) → ChildrenFirst n t m → ChildrenFirst n t (l ++ m)
  children-both m M = children-append m (λ a k A e i. let p = M a k A e i in (before-right l m p.0, before-right l m p.1))

  children-last : (r : ℕ) → Has l (first t r) → Has l (second t r) → ChildrenFirst n t (l ++ (r ∷ []))
  children-last r f s = children-append (r ∷ []) (λ a k A e i.
      let y = has_one (a, A, e) in
      let z : length l + a ≡ length l = omega arith in
      rw (y, z) (before-left l (r ∷ []) (omega arith) f, before-left l (r ∷ []) (omega arith) s))

-- ---- postorder

module _ (n : ℕ) (t : Tree) (v : Valid n t) where
  -- each number in postorder is a node
  pub postorder-nodes : (c : ℕ) → Has (postorder t) c → c < n
  postorder-nodes c h = (subtree-sound n t v t.root c v.root_node (rw (valid-nodes v) at h)).0

  -- each node is in postorder
  pub postorder-all : (c : ℕ) → c < n → Has (postorder t) c
  postorder-all c C = rw (valid-nodes v) (subtree-complete n t v t.root c v.root_node (reach-under n t (valid-linked v) C (v.joined c C)))

  -- no node is twice in postorder
  pub postorder-distinct : Distinct (postorder t)
  postorder-distinct = rw (valid-nodes v) (subtree-distinct n t v t.root v.root_node)

  -- postorder is as long as there are nodes
  pub postorder-length : length (postorder t) ≡ n
  postorder-length = omega (arith, distinct-few n (postorder t) postorder-distinct postorder-nodes, all-many n (postorder t) postorder-all)

  -- an inner node comes after both of its children in postorder
  pub postorder-before : (a k : ℕ) → a < length (postorder t) → get_or (postorder t) a 0 ≡ k → n < k + k
      → Before (postorder t) a (first t k) × Before (postorder t) a (second t k)
  postorder-before = rw (valid-nodes v) (subtree-induction n t v (λ k l. Has l k × ChildrenFirst n t l) tip inner t.root v.root_node).1
    where
      tip : (k : ℕ) → k < n → k + k ≤ n → Has (k ∷ []) k × ChildrenFirst n t (k ∷ [])
      tip k K i = ((0, omega arith, refl), λ a c A e j. let z = has_one (a, A, e) in absurd (omega arith))

      inner : (k : ℕ) → k < n → n < k + k → (A B : List ℕ) → Has A (first t k) × ChildrenFirst n t A → Has B (second t k) × ChildrenFirst n t B
          → Has ((A ++ B) ++ (k ∷ [])) k × ChildrenFirst n t ((A ++ B) ++ (k ∷ []))
      inner k K i A B a b = (
        has_right (A ++ B) (k ∷ []) (0, omega arith, refl),
        children-last n t (A ++ B) (children-both n t A a.1 B b.1) k (has_left A B a.0) (has_right A B b.0),
      )
