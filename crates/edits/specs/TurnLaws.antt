-- Two nodes that change places, and three that move round. In order: the permutations of two and of three nodes, with the cases in which a
-- node is one of them (`Among2`, `Among3`); the shape after (`swap-shaped`, `rotate-shaped`); the heights, parents, root and children after;
-- how each is undone (`swap-back`, `rotate-back`), and that two may be named in either order (`swap-comm`). Two may be the same node, three
-- are different (`Three`). Assumes nothing.
use Rattle.std.specs.Prelude.{◌≡◌, ◌≢◌, cond, ℕ, ◌+◌, ◌≤◌, ◌<◌, eqb, get_or}
use Rattle.std.proofs.Math.Path.{refl}
use Rattle.std.proofs.Common.{sym, ap, ◌∙◌, subst}
use Rattle.std.proofs.Math.Decide.{ℕ_discrete}
use borrow.Author.Tests.{eq-eqb, ne_eqb}
use Rattle.tree.specs.Tree.{Tree, no_node, first, second, parent, height}
use Rattle.tree.specs.Valid.{Sized}
use Rattle.edits.specs.Slots.{content, owner, put, swap, rotate}
use Rattle.edits.specs.SlotLaws.{Shaped, Permutation, content-same, content-other, parent-same, parent-other, put-sized, put-tip, apart, slot-of, permuted, determined, parent-turned, root-turned, first-turned, second-turned}

-- ---- two nodes

-- a and b exchanged
unfoldable pub turn2 : ℕ → ℕ → ℕ → ℕ
turn2 a b u = cond (eqb u a) b (cond (eqb u b) a u)

-- a number is a, or b and not a, or neither
pub data Among2 (a b : ℕ) : ℕ → Type 0 where
  is_a : Among2 a b a
  is_b : b ≢ a → Among2 a b b
  other : {u : ℕ} → u ≢ a → u ≢ b → Among2 a b u

-- which of these it is
pub among2 : (a b u : ℕ) → Among2 a b u
among2 a b u = elim (ℕ_discrete u a) [
  | yes e ↦ subst (Among2 a b) (sym e) is_a
  | no d ↦ elim (ℕ_discrete u b) [ yes e ↦ subst (Among2 a b) (sym e) (is_b (λ f. d (e ∙ f))) | no f ↦ other d f ]
]

module _ (a b : ℕ) where
  -- a goes to b
  pub turn2-a : turn2 a b a ≡ b
  unfolding turn2
  turn2-a = rw (eq-eqb a a refl)

  -- b goes to a
  pub turn2-b : turn2 a b b ≡ a
  unfolding turn2
  turn2-b = elim (ℕ_discrete b a) [ yes e ↦ rw (eq-eqb b a e) e | no d ↦ rw (ne_eqb b a d, eq-eqb b b refl) ]

  -- any other stays
  pub turn2-other : (u : ℕ) → u ≢ a → u ≢ b → turn2 a b u ≡ u
  unfolding turn2
  turn2-other u d e = rw (ne_eqb u a d, ne_eqb u b e)

  -- exchanged twice, all are as they were
  pub turn2-twice : (u : ℕ) → turn2 a b (turn2 a b u) ≡ u
  turn2-twice u = go (among2 a b u)
    where
      go : {u : ℕ} → Among2 a b u → turn2 a b (turn2 a b u) ≡ u
      go is_a = rw turn2-a turn2-b
      go (is_b d) = rw turn2-b turn2-a
      go (other {u} d e) = rw (turn2-other u d e) (turn2-other u d e)

  -- nodes go to nodes
  pub turn2-lt : (n : ℕ) → a < n → b < n → (u : ℕ) → u < n → turn2 a b u < n
  turn2-lt n A B u U = go (among2 a b u) U
    where
      go : {u : ℕ} → Among2 a b u → u < n → turn2 a b u < n
      go is_a U = rw turn2-a B
      go (is_b d) U = rw turn2-b A
      go (other {u} d e) U = rw (turn2-other u d e) U

-- the exchange of two nodes is its own inverse
pub turn2-permutes : {n : ℕ} (a b : ℕ) → a < n → b < n → Permutation n (turn2 a b) (turn2 a b)
turn2-permutes {n} a b A B = record { node = turn2-lt a b n A B; node⁻ = turn2-lt a b n A B; undone = λ c C. turn2-twice a b c }

-- the order in which the two are named does not matter
pub turn2-comm : (a b u : ℕ) → turn2 a b u ≡ turn2 b a u
turn2-comm a b u = go (among2 a b u)
  where
    go : {u : ℕ} → Among2 a b u → turn2 a b u ≡ turn2 b a u
    go is_a = turn2-a a b ∙ sym (turn2-b b a)
    go (is_b d) = turn2-b a b ∙ sym (turn2-a b a)
    go (other {u} d e) = turn2-other a b u d e ∙ sym (turn2-other b a u e d)

-- ---- three nodes

-- a goes to b, b to c and c to a
unfoldable pub turn3 : ℕ → ℕ → ℕ → ℕ → ℕ
turn3 a b c u = cond (eqb u a) b (cond (eqb u b) c (cond (eqb u c) a u))

-- three different nodes of n
pub record Three (n a b c : ℕ) : Type 0 where
  pub node_a : a < n
  pub node_b : b < n
  pub node_c : c < n
  pub ab : a ≢ b
  pub bc : b ≢ c
  pub ca : c ≢ a

-- the same three, named from the last to the first
pub around : {n a b c : ℕ} → Three n a b c → Three n c b a
around x = record { node_a = x.node_c; node_b = x.node_b; node_c = x.node_a; ab = λ e. x.bc (sym e); bc = λ e. x.ab (sym e); ca = λ e. x.ca (sym e) }

-- a number is one of three, or none of them
pub data Among3 (a b c : ℕ) : ℕ → Type 0 where
  is_a : Among3 a b c a
  is_b : Among3 a b c b
  is_c : Among3 a b c c
  other : {u : ℕ} → u ≢ a → u ≢ b → u ≢ c → Among3 a b c u

-- which of these it is
pub among3 : (a b c u : ℕ) → Among3 a b c u
among3 a b c u = elim (ℕ_discrete u a) [
  | yes e ↦ subst (Among3 a b c) (sym e) is_a
  | no d ↦ elim (ℕ_discrete u b) [
    | yes e ↦ subst (Among3 a b c) (sym e) is_b
    | no f ↦ elim (ℕ_discrete u c) [ yes e ↦ subst (Among3 a b c) (sym e) is_c | no g ↦ other d f g ]
  ]
]

module _ {n a b c : ℕ} (x : Three n a b c) where
  -- a goes to b
  pub turn3-a : turn3 a b c a ≡ b
  unfolding turn3
  turn3-a = rw (eq-eqb a a refl)

  -- b goes to c
  pub turn3-b : turn3 a b c b ≡ c
  unfolding turn3
  turn3-b = rw (ne_eqb b a (λ e. x.ab (sym e)), eq-eqb b b refl)

  -- c goes to a
  pub turn3-c : turn3 a b c c ≡ a
  unfolding turn3
  turn3-c = rw (ne_eqb c a x.ca, ne_eqb c b (λ e. x.bc (sym e)), eq-eqb c c refl)

  -- any other stays
  pub turn3-other : (u : ℕ) → u ≢ a → u ≢ b → u ≢ c → turn3 a b c u ≡ u
  unfolding turn3
  turn3-other u d e f = rw (ne_eqb u a d, ne_eqb u b e, ne_eqb u c f)

  -- nodes go to nodes
  pub turn3-lt : (u : ℕ) → u < n → turn3 a b c u < n
  turn3-lt u U = go (among3 a b c u) U
    where
      go : {u : ℕ} → Among3 a b c u → u < n → turn3 a b c u < n
      go is_a U = rw turn3-a x.node_b
      go is_b U = rw turn3-b x.node_c
      go is_c U = rw turn3-c x.node_a
      go (other {u} d e f) U = rw (turn3-other u d e f) U

-- one way round and then the other, all are as they were
pub turn3-back : {n a b c : ℕ} → Three n a b c → (u : ℕ) → turn3 a b c (turn3 c b a u) ≡ u
turn3-back {n} {a} {b} {c} x u = go (among3 a b c u)
  where
    y : Three n c b a
    y = around x

    go : {u : ℕ} → Among3 a b c u → turn3 a b c (turn3 c b a u) ≡ u
    go is_a = rw (turn3-c y) (turn3-c x)
    go is_b = rw (turn3-b y) (turn3-a x)
    go is_c = rw (turn3-a y) (turn3-b x)
    go (other {u} d e f) = rw (turn3-other y u f e d) (turn3-other x u d e f)

-- the turn of three nodes has the turn the other way for its inverse
pub turn3-permutes : {n a b c : ℕ} → Three n a b c → Permutation n (turn3 a b c) (turn3 c b a)
turn3-permutes x = record { node = turn3-lt x; node⁻ = turn3-lt (around x); undone = λ u U. turn3-back x u }

-- ---- the shape after

module _ {n : ℕ} {t : Tree} {σ : ℕ → ℕ} (s : Shaped n t σ) where
  module _ (a b : ℕ) (A : a < n) (B : b < n) where
    -- a stands in b's slot and b in a's
    pub swap-shaped : Shaped n (swap n t a b) (λ c. σ (turn2 a b c))
    unfolding swap
    swap-shaped = rw (slot-of s a A, slot-of s b B)
        (permuted u (turn2-permutes a b A B) s z2 marks (λ c C. holds (among2 a b c) C) (λ c C. above (among2 a b c) C))
      where
        t1 : Tree
        t1 = put n t (σ a) b

        u : Tree
        u = put n t1 (σ b) a

        z1 : Sized n t1
        z1 = put-sized n t (σ a) b s.sized

        z2 : Sized n u
        z2 = put-sized n t1 (σ b) a z1

        marks : (y : ℕ) → y ≤ n → get_or u.pairs y 0 ≡ no_node
        marks y h = put-tip n t1 (σ b) a (s.slot b B) y h ∙ put-tip n t (σ a) b (s.slot a A) y h ∙ s.tip y h

        holds : {c : ℕ} → Among2 a b c → c < n → content n u (σ (turn2 a b c)) ≡ c
        holds is_a C = rw (turn2-a a b) (content-same n t1 (σ b) a z1.pairs (s.slot b B))
        holds (is_b d) C = rw (turn2-b a b)
            (content-other n t1 (σ b) a (σ a) (apart s a b A B (λ e. d (sym e))) ∙ content-same n t (σ a) b s.sized.pairs (s.slot a A))
        holds (other {u = c} d e) C = rw (turn2-other a b c d e)
            (content-other n t1 (σ b) a (σ c) (apart s c b C B e) ∙ content-other n t (σ a) b (σ c) (apart s c a C A d) ∙ s.holds c C)

        above : {c : ℕ} → Among2 a b c → c < n → parent u c ≡ owner n (σ (turn2 a b c))
        above is_a C = rw (turn2-a a b) (parent-same n t1 (σ b) a z1.parents A)
        above (is_b d) C = rw (turn2-b a b) (parent-other n t1 (σ b) a b d ∙ parent-same n t (σ a) b s.sized.parents B)
        above (other {u = c} d e) C = rw (turn2-other a b c d e) (parent-other n t1 (σ b) a c d ∙ parent-other n t (σ a) b c e ∙ s.above c C)

  module _ {a b c : ℕ} (x : Three n a b c) where
    -- a stands in b's slot, b in c's and c in a's
    pub rotate-shaped : Shaped n (rotate n t a b c) (λ u. σ (turn3 a b c u))
    unfolding rotate
    rotate-shaped = rw (slot-of s a A, slot-of s b B, slot-of s c C)
        (permuted w (turn3-permutes x) s z3 marks (λ u U. holds (among3 a b c u) U) (λ u U. above (among3 a b c u) U))
      where
        A : a < n
        A = x.node_a

        B : b < n
        B = x.node_b

        C : c < n
        C = x.node_c

        t1 : Tree
        t1 = put n t (σ b) a

        t2 : Tree
        t2 = put n t1 (σ c) b

        w : Tree
        w = put n t2 (σ a) c

        z1 : Sized n t1
        z1 = put-sized n t (σ b) a s.sized

        z2 : Sized n t2
        z2 = put-sized n t1 (σ c) b z1

        z3 : Sized n w
        z3 = put-sized n t2 (σ a) c z2

        marks : (y : ℕ) → y ≤ n → get_or w.pairs y 0 ≡ no_node
        marks y h = put-tip n t2 (σ a) c (s.slot a A) y h ∙ put-tip n t1 (σ c) b (s.slot c C) y h ∙ put-tip n t (σ b) a (s.slot b B) y h ∙ s.tip y h

        holds : {u : ℕ} → Among3 a b c u → u < n → content n w (σ (turn3 a b c u)) ≡ u
        holds is_a U = rw (turn3-a x)
            (content-other n t2 (σ a) c (σ b) (apart s b a B A (λ e. x.ab (sym e))) ∙ content-other n t1 (σ c) b (σ b) (apart s b c B C x.bc)
            ∙ content-same n t (σ b) a s.sized.pairs (s.slot b B))
        holds is_b U = rw (turn3-b x)
            (content-other n t2 (σ a) c (σ c) (apart s c a C A x.ca) ∙ content-same n t1 (σ c) b z1.pairs (s.slot c C))
        holds is_c U = rw (turn3-c x) (content-same n t2 (σ a) c z2.pairs (s.slot a A))
        holds (other {u} d e f) U = rw (turn3-other x u d e f)
            (content-other n t2 (σ a) c (σ u) (apart s u a U A d) ∙ content-other n t1 (σ c) b (σ u) (apart s u c U C f)
            ∙ content-other n t (σ b) a (σ u) (apart s u b U B e) ∙ s.holds u U)

        above : {u : ℕ} → Among3 a b c u → u < n → parent w u ≡ owner n (σ (turn3 a b c u))
        above is_a U = rw (turn3-a x)
            (parent-other n t2 (σ a) c a (λ e. x.ca (sym e)) ∙ parent-other n t1 (σ c) b a x.ab ∙ parent-same n t (σ b) a s.sized.parents A)
        above is_b U = rw (turn3-b x) (parent-other n t2 (σ a) c b x.bc ∙ parent-same n t1 (σ c) b z1.parents B)
        above is_c U = rw (turn3-c x) (parent-same n t2 (σ a) c z2.parents C)
        above (other {u} d e f) U = rw (turn3-other x u d e f)
            (parent-other n t2 (σ a) c u f ∙ parent-other n t1 (σ c) b u e ∙ parent-other n t (σ b) a u d ∙ s.above u U)

-- ---- the heights after

module _ (n : ℕ) (t : Tree) (a b : ℕ) where
  -- two that change places keep the heights
  pub heights-swap : (swap n t a b).heights ≡ t.heights
  unfolding swap put
  heights-swap = refl

  -- so each node keeps its own
  pub height-swap : (k : ℕ) → height (swap n t a b) k ≡ height t k
  unfolding height
  height-swap k = rw heights-swap

module _ (n : ℕ) (t : Tree) (a b c : ℕ) where
  -- three that move round keep the heights
  pub heights-rotate : (rotate n t a b c).heights ≡ t.heights
  unfolding rotate put
  heights-rotate = refl

  -- so each node keeps its own
  pub height-rotate : (k : ℕ) → height (rotate n t a b c) k ≡ height t k
  unfolding height
  height-rotate k = rw heights-rotate

-- ---- parents, root and children after

module _ {n : ℕ} {t : Tree} {σ : ℕ → ℕ} (s : Shaped n t σ) where
  module _ (a b : ℕ) (A : a < n) (B : b < n) where
    -- each of the two has the other's parent
    pub parent-swap : (c : ℕ) → c < n → parent (swap n t a b) c ≡ parent t (turn2 a b c)
    parent-swap = parent-turned (turn2-permutes a b A B) s (swap-shaped s a b A B)

    -- the root is exchanged with the rest
    pub root-swap : (swap n t a b).root ≡ turn2 a b t.root
    root-swap = root-turned (turn2-permutes a b A B) s (swap-shaped s a b A B)

    -- so are first children
    pub first-swap : (k : ℕ) → k < n → n < k + k → first (swap n t a b) k ≡ turn2 a b (first t k)
    first-swap = first-turned (turn2-permutes a b A B) s (swap-shaped s a b A B)

    -- and second children
    pub second-swap : (k : ℕ) → k < n → n < k + k → second (swap n t a b) k ≡ turn2 a b (second t k)
    second-swap = second-turned (turn2-permutes a b A B) s (swap-shaped s a b A B)

  module _ {a b c : ℕ} (x : Three n a b c) where
    -- a has b's parent, b has c's and c has a's
    pub parent-rotate : (u : ℕ) → u < n → parent (rotate n t a b c) u ≡ parent t (turn3 a b c u)
    parent-rotate = parent-turned (turn3-permutes x) s (rotate-shaped s x)

    -- a is the root if b was, b if c was and c if a was
    pub root-rotate : (rotate n t a b c).root ≡ turn3 c b a t.root
    root-rotate = root-turned (turn3-permutes x) s (rotate-shaped s x)

    -- so with first children
    pub first-rotate : (k : ℕ) → k < n → n < k + k → first (rotate n t a b c) k ≡ turn3 c b a (first t k)
    first-rotate = first-turned (turn3-permutes x) s (rotate-shaped s x)

    -- and with second children
    pub second-rotate : (k : ℕ) → k < n → n < k + k → second (rotate n t a b c) k ≡ turn3 c b a (second t k)
    second-rotate = second-turned (turn3-permutes x) s (rotate-shaped s x)

-- ---- undone

module _ {n : ℕ} {t : Tree} {σ : ℕ → ℕ} (s : Shaped n t σ) where
  module _ (a b : ℕ) (A : a < n) (B : b < n) where
    -- the two change places again
    pub swap-back : swap n (swap n t a b) a b ≡ t
    swap-back =
        determined (swap-shaped (swap-shaped s a b A B) a b A B) s (λ c C. ap σ (turn2-twice a b c)) (heights-swap n (swap n t a b) a b ∙ heights-swap n t a b)

    -- the two may be named in either order
    pub swap-comm : swap n t b a ≡ swap n t a b
    swap-comm = determined (swap-shaped s b a B A) (swap-shaped s a b A B) (λ c C. ap σ (turn2-comm b a c)) (heights-swap n t b a ∙ sym (heights-swap n t a b))

  -- the three move round the other way
  pub rotate-back : {a b c : ℕ} → Three n a b c → rotate n (rotate n t a b c) c b a ≡ t
  rotate-back {a} {b} {c} x =
      determined (rotate-shaped (rotate-shaped s x) (around x)) s (λ u U. ap σ (turn3-back x u)) (heights-rotate n (rotate n t a b c) c b a ∙ heights-rotate n t a b c)
