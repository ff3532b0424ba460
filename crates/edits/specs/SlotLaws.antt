-- A tree is a bijection of slots with nodes. In order: what a shape is (`Shaped`); what a slot holds and who has it; where a node stands, in
-- its three cases; a valid tree and its shape (`valid-shaped`); what a shape gives on the root, parents and children, in the forms of
-- `Valid`, and with ways up and heights a valid tree (`shaped-valid`); permuted shapes, and where their nodes are (`permuted`,
-- `content-turned` and on); a shape and the heights fix the tree (`determined`); and one node put into a slot. Assumes nothing.
use Rattle.std.specs.Prelude.{◌≡◌, ◌≢◌, ◌⊎◌, Bool, cond, ℕ, zero, suc, ◌+◌, ◌/◌, ◌%◌, ◌≤◌, ◌<◌, eqb, set}
use Rattle.std.proofs.Math.Path.{refl, sym}
use Rattle.std.proofs.Common.{ap, ◌∙◌, subst, inl, inr, arith, ext_get_or}
use Rattle.std.proofs.Math.Bool.{true, false}
use Rattle.std.proofs.Math.Decide.{ℕ_discrete, dec_le}
use borrow.Author.Tests.{eq-eqb, ne_eqb}
use Rattle.std.proofs.Math.ListN.{length, get_or, length-set}
use Rattle.std.proofs.Math.Seq.{get_or-set_same, get_or-set_other}
use Rattle.tree.specs.Tree.{Tree, no_node, first, second, parent}
use Rattle.tree.specs.Valid.{Sized, Inner, Below, Reach, here, up, Dated, Valid}
use Rattle.edits.specs.Slots.{top, content, owner, slot_of, put}

-- ---- the shape

-- the slots of inner nodes, and the root's register
abbrev pub Slot : ℕ → ℕ → Type 0
Slot n x = (n < x) × (x ≤ top n)

-- t has the sizes and the tips' marks of a tree of n nodes, σ is a bijection of the nodes with the n slots, and the owner of a node's slot is
-- its parent
pub record Shaped (n : ℕ) (t : Tree) (σ : ℕ → ℕ) : Type 0 where
  pub sized : Sized n t
  pub tip : (x : ℕ) → x ≤ n → get_or t.pairs x 0 ≡ no_node
  pub slot : (c : ℕ) → c < n → Slot n (σ c)
  pub holds : (c : ℕ) → c < n → content n t (σ c) ≡ c
  pub above : (c : ℕ) → c < n → parent t c ≡ owner n (σ c)
  pub node : (x : ℕ) → Slot n x → content n t x < n
  pub stands : (x : ℕ) → Slot n x → σ (content n t x) ≡ x

-- ---- a slot's content and owner

module _ (n : ℕ) where
  -- the root's register holds the root
  pub content-top : (t : Tree) → content n t (top n) ≡ t.root
  unfolding content
  content-top t = rw (eq-eqb (n + n) (n + n) refl)

  -- any other slot is in the pairs
  pub content-side : (t : Tree) (x : ℕ) → x ≢ top n → content n t x ≡ get_or t.pairs x 0
  unfolding content
  content-side t x d = rw (ne_eqb x (n + n) d)

  -- nobody has the root's register
  pub owner-top : owner n (top n) ≡ no_node
  unfolding owner
  owner-top = rw (eq-eqb (n + n) (n + n) refl)

  -- slots 2k and 2k + 1 are k's
  pub owner-side : (x : ℕ) → x ≢ top n → owner n x ≡ x / 2
  unfolding owner
  owner-side x d = rw (ne_eqb x (n + n) d)

-- a slot is the root's register, or a side of an inner node
data Place (n : ℕ) : ℕ → Type 0 where
  at_top : Place n (n + n)
  at_first : (k : ℕ) → k < n → n < k + k → Place n (k + k)
  at_second : (k : ℕ) → k < n → n < k + k → Place n (suc (k + k))

place : (n x : ℕ) → n % 2 ≡ 1 → Slot n x → Place n x
place n x odd s = elim (ℕ_discrete x (n + n)) [ yes e ↦ subst (Place n) (sym e) at_top | no d ↦ side (x % 2) refl d ]
  where
    side : (r : ℕ) → x % 2 ≡ r → x ≢ n + n → Place n x
    side zero q d = let e : x / 2 + x / 2 ≡ x = omega arith in subst (Place n) e (at_first (x / 2) (omega arith) (omega arith))
    side (suc zero) q d = let e : suc (x / 2 + x / 2) ≡ x = omega arith in subst (Place n) e (at_second (x / 2) (omega arith) (omega arith))
    side (suc (suc r)) q d = absurd (omega arith)

-- ---- where a node stands

module _ (n : ℕ) (t : Tree) (c : ℕ) where
  -- the root is in its register
  pub slot-root : c ≡ t.root → slot_of n t c ≡ top n
  unfolding slot_of
  slot-root e = rw (eq-eqb c t.root e)

  -- a first child is on the first side of its parent
  pub slot-first : c ≢ t.root → first t (parent t c) ≡ c → slot_of n t c ≡ parent t c + parent t c
  unfolding slot_of
  slot-first d e = rw (ne_eqb c t.root d, eq-eqb (first t (parent t c)) c e)

  -- a node that is not its parent's first child is on the second side
  pub slot-second : c ≢ t.root → first t (parent t c) ≢ c → slot_of n t c ≡ suc (parent t c + parent t c)
  unfolding slot_of
  slot-second d e = rw (ne_eqb c t.root d, ne_eqb (first t (parent t c)) c e)

  data Standing : ℕ → Type 0 where
    as_root : c ≡ t.root → Standing (n + n)
    as_first : c ≢ t.root → first t (parent t c) ≡ c → Standing (parent t c + parent t c)
    as_second : c ≢ t.root → first t (parent t c) ≢ c → Standing (suc (parent t c + parent t c))

  standing : Standing (slot_of n t c)
  standing = elim (ℕ_discrete c t.root) [
    | yes e ↦ rw (slot-root e) (as_root e)
    | no d ↦ elim (ℕ_discrete (first t (parent t c)) c) [ yes e ↦ rw (slot-first d e) (as_first d e) | no f ↦ rw (slot-second d f) (as_second d f) ]
  ]

-- ---- a valid tree and its shape

module _ {n : ℕ} {t : Tree} (v : Valid n t) where
  -- a node with a parent among the nodes is not the root
  pub not_root : (c k : ℕ) → k < n → parent t c ≡ k → c ≢ t.root
  not_root c k K e f =
      let few : n ≤ 4095 = v.sized.few in
      let z : k ≡ no_node = sym e ∙ ap (parent t) f ∙ v.root_parent in
      absurd (omega arith)

  -- no node is its own parent
  pub not-own-parent : (c : ℕ) → c < n → c ≢ t.root → parent t c ≢ c
  not-own-parent c C d e = endless (v.joined c C) refl
    where
      endless : {k : ℕ} → Reach t k → k ≡ c → ⊥
      endless (here f) g = d (sym g ∙ f)
      endless (up f r) g = endless r (ap (parent t) g ∙ e)

  record Found (c x : ℕ) : Type 0 where
    in_slot : Slot n x
    it : content n t x ≡ c
    has : parent t c ≡ owner n x

  found : (c : ℕ) → c < n → Found c (slot_of n t c)
  found c C = go (standing n t c)
    where
      go : {x : ℕ} → Standing n t c x → Found c x
      go (as_root e) = record {
        in_slot = (let some : 3 ≤ n = v.sized.some in omega arith);
        it = content-top n t ∙ sym e;
        has = ap (parent t) e ∙ v.root_parent ∙ sym (owner-top n);
      }
      go (as_first d e) =
          let b : Below n t c = v.below c C d in
          record {
            in_slot = omega arith;
            it = content-side n t (parent t c + parent t c) (omega arith) ∙ e;
            has = sym (owner-side n (parent t c + parent t c) (omega arith) ∙ omega arith);
          }
      go (as_second d e) =
          let b : Below n t c = v.below c C d in
          record {
            in_slot = omega arith;
            it = content-side n t (suc (parent t c + parent t c)) (omega arith) ∙ other b.side;
            has = sym (owner-side n (suc (parent t c + parent t c)) (omega arith) ∙ omega arith);
          }
        where
          other : (c ≡ first t (parent t c)) ⊎ (c ≡ second t (parent t c)) → second t (parent t c) ≡ c
          other (inl f) = absurd (e (sym f))
          other (inr f) = sym f

  record Filled (x : ℕ) : Type 0 where
    small : content n t x < n
    back : slot_of n t (content n t x) ≡ x

  filled : (x : ℕ) → Slot n x → Filled x
  filled x h = go (place n x v.sized.odd h)
    where
      side : (c k : ℕ) → k < n → parent t c ≡ k → first t k ≡ c → slot_of n t c ≡ k + k
      side c k K p e = slot-first n t c (not_root c k K p) (ap (first t) p ∙ e) ∙ ap (λ (y : ℕ). y + y) p

      go : {x : ℕ} → Place n x → Filled x
      go at_top = record {
        small = rw (content-top n t) v.root_node;
        back = ap (slot_of n t) (content-top n t) ∙ slot-root n t t.root refl;
      }
      go (at_first k K I) =
          let i : Inner n t k = v.inner k K I in
          let e : content n t (k + k) ≡ first t k = content-side n t (k + k) (omega arith) in
          record {
            small = rw e i.first_node;
            back = ap (slot_of n t) e ∙ side (first t k) k K i.first_parent refl;
          }
      go (at_second k K I) =
          let i : Inner n t k = v.inner k K I in
          let e : content n t (suc (k + k)) ≡ second t k = content-side n t (suc (k + k)) (omega arith) in
          let p : parent t (second t k) ≡ k = i.second_parent in
          record {
            small = rw e i.second_node;
            back = ap (slot_of n t) e ∙ slot-second n t (second t k) (not_root (second t k) k K p) (λ f. i.two (ap (first t) (sym p) ∙ f))
                ∙ ap (λ (y : ℕ). suc (y + y)) p;
          }

  -- the slots in which the nodes of a valid tree stand are its shape
  pub valid-shaped : Shaped n t (slot_of n t)
  valid-shaped = record {
    sized = v.sized;
    tip = mark;
    slot = λ c C. (found c C).in_slot;
    holds = λ c C. (found c C).it;
    above = λ c C. (found c C).has;
    node = λ x h. (filled x h).small;
    stands = λ x h. (filled x h).back;
  }
    where
      mark : (x : ℕ) → x ≤ n → get_or t.pairs x 0 ≡ no_node
      mark x h = go (x % 2) refl
        where
          go : (r : ℕ) → x % 2 ≡ r → get_or t.pairs x 0 ≡ no_node
          go zero q = let e : x ≡ x / 2 + x / 2 = omega arith in ap (λ (y : ℕ). get_or t.pairs y 0) e ∙ v.tip_first (x / 2) (omega arith)
          go (suc zero) q = let e : x ≡ suc (x / 2 + x / 2) = omega arith in ap (λ (y : ℕ). get_or t.pairs y 0) e ∙ v.tip_second (x / 2) (omega arith)
          go (suc (suc r)) q = absurd (omega arith)

-- ---- what a shape gives

module _ {n : ℕ} {t : Tree} {σ : ℕ → ℕ} (s : Shaped n t σ) where
  -- different nodes stand in different slots
  pub apart : (a b : ℕ) → a < n → b < n → a ≢ b → σ a ≢ σ b
  apart a b A B d e = d (sym (s.holds a A) ∙ ap (content n t) e ∙ s.holds b B)

  -- the root's register is a slot
  pub top-slot : Slot n (top n)
  top-slot = let some : 3 ≤ n = s.sized.some in omega arith

  -- the root is a node
  pub root_node : t.root < n
  root_node = rw (content-top n t) at (s.node (top n) top-slot)

  -- the root stands in its register
  pub root-slot : σ t.root ≡ top n
  root-slot = rw (content-top n t) at (s.stands (top n) top-slot)

  -- no other node does
  pub slot-top : (c : ℕ) → c < n → σ c ≡ top n → c ≡ t.root
  slot-top c C e = sym (s.holds c C) ∙ ap (content n t) e ∙ content-top n t

  -- the root has no parent
  pub root_parent : parent t t.root ≡ no_node
  root_parent = s.above t.root root_node ∙ ap (owner n) root-slot ∙ owner-top n

  -- the first side of inner node k, and the node there
  pub first_slot : (k : ℕ) → k < n → n < k + k → σ (first t k) ≡ k + k
  first_slot k K I = rw (content-side n t (k + k) (omega arith)) at (s.stands (k + k) (omega arith))

  -- the second side of inner node k, and the node there
  pub second-slot : (k : ℕ) → k < n → n < k + k → σ (second t k) ≡ suc (k + k)
  second-slot k K I = rw (content-side n t (suc (k + k)) (omega arith)) at (s.stands (suc (k + k)) (omega arith))

  -- a first child is not the root
  pub first_under : (k : ℕ) → k < n → n < k + k → first t k ≢ t.root
  first_under k K I e = let q : k + k ≡ n + n = sym (first_slot k K I) ∙ ap σ e ∙ root-slot in absurd (omega arith)

  -- a second child is not the root
  pub second_under : (k : ℕ) → k < n → n < k + k → second t k ≢ t.root
  second_under k K I e = let q : suc (k + k) ≡ n + n = sym (second-slot k K I) ∙ ap σ e ∙ root-slot in absurd (omega arith)

  -- an inner node has two children, and is the parent of both
  pub shaped-inner : (k : ℕ) → k < n → n < k + k → Inner n t k
  shaped-inner k K I = record {
    first_node = a;
    second_node = b;
    two = λ e. (let q : k + k ≡ suc (k + k) = sym (first_slot k K I) ∙ ap σ e ∙ second-slot k K I in absurd (omega arith));
    first_parent = s.above (first t k) a ∙ ap (owner n) (first_slot k K I) ∙ owner-side n (k + k) (omega arith) ∙ omega arith;
    second_parent = s.above (second t k) b ∙ ap (owner n) (second-slot k K I) ∙ owner-side n (suc (k + k)) (omega arith) ∙ omega arith;
  }
    where
      a : first t k < n
      a = rw (content-side n t (k + k) (omega arith)) at (s.node (k + k) (omega arith))

      b : second t k < n
      b = rw (content-side n t (suc (k + k)) (omega arith)) at (s.node (suc (k + k)) (omega arith))

  -- a node that is not the root has a parent, and is one of its children
  pub shaped-below : (c : ℕ) → c < n → c ≢ t.root → Below n t c
  shaped-below c C d = go (place n (σ c) s.sized.odd (s.slot c C)) refl
    where
      under : (k x : ℕ) → σ c ≡ x → x ≢ n + n → x / 2 ≡ k → parent t c ≡ k
      under k x e o q = s.above c C ∙ ap (owner n) e ∙ owner-side n x o ∙ q

      child : (x : ℕ) → σ c ≡ x → x ≢ n + n → c ≡ get_or t.pairs x 0
      child x e o = sym (s.holds c C) ∙ ap (content n t) e ∙ content-side n t x o

      go : {x : ℕ} → Place n x → σ c ≡ x → Below n t c
      go at_top e = absurd (d (slot-top c C e))
      go (at_first k K I) e =
          let p : parent t c ≡ k = under k (k + k) e (omega arith) (omega arith) in
          record { parent_node = omega arith; parent_inner = omega arith; side = inl (child (k + k) e (omega arith) ∙ ap (first t) (sym p)) }
      go (at_second k K I) e =
          let p : parent t c ≡ k = under k (suc (k + k)) e (omega arith) (omega arith) in
          record { parent_node = omega arith; parent_inner = omega arith; side = inr (child (suc (k + k)) e (omega arith) ∙ ap (second t) (sym p)) }

  -- a tree with a shape, a way up from every node and heights in order is valid
  pub shaped-valid : ((c : ℕ) → c < n → Reach t c) → Dated n t → Valid n t
  shaped-valid way dated = record {
    sized = s.sized;
    tip_first = λ k h. s.tip (k + k) h;
    tip_second = λ k h. s.tip (suc (k + k)) (let odd : n % 2 ≡ 1 = s.sized.odd in omega arith);
    inner = shaped-inner;
    root_node = root_node;
    root_parent = root_parent;
    below = shaped-below;
    joined = way;
    dated = dated;
  }

  -- the slot that the fields give is the shape's
  pub slot-of : (c : ℕ) → c < n → slot_of n t c ≡ σ c
  slot-of c C = go (standing n t c)
    where
      go : {x : ℕ} → Standing n t c x → x ≡ σ c
      go (as_root e) = sym (ap σ e ∙ root-slot)
      go (as_first d e) = let b : Below n t c = shaped-below c C d in sym (ap σ (sym e) ∙ first_slot (parent t c) b.parent_node b.parent_inner)
      go (as_second d e) = second-of (shaped-below c C d)
        where
          second-of : Below n t c → suc (parent t c + parent t c) ≡ σ c
          second-of b = which b.side
            where
              which : (c ≡ first t (parent t c)) ⊎ (c ≡ second t (parent t c)) → suc (parent t c + parent t c) ≡ σ c
              which (inl f) = absurd (e (sym f))
              which (inr f) = sym (ap σ f ∙ second-slot (parent t c) b.parent_node b.parent_inner)

-- ---- permuted shapes

-- π takes nodes to nodes, and π⁻ takes them back
pub record Permutation (n : ℕ) (π π⁻ : ℕ → ℕ) : Type 0 where
  pub node : (c : ℕ) → c < n → π c < n
  pub node⁻ : (c : ℕ) → c < n → π⁻ c < n
  pub undone : (c : ℕ) → c < n → π (π⁻ c) ≡ c

-- a slot holds the node that takes the place of the one there
moved : {n : ℕ} {t : Tree} {σ π π⁻ : ℕ → ℕ} (u : Tree) → Permutation n π π⁻ → Shaped n t σ → ((c : ℕ) → c < n → content n u (σ (π c)) ≡ c)
    → (x : ℕ) → Slot n x → content n u x ≡ π⁻ (content n t x)
moved {n} {t} {σ} {π} {π⁻} u p s C x h =
    let v = content n t x in
    let m : v < n = s.node x h in
    let e : σ (π (π⁻ v)) ≡ x = ap σ (p.undone v m) ∙ s.stands x h in
    ap (content n u) (sym e) ∙ C (π⁻ v) (p.node⁻ v m)

-- a permutation of the nodes carries a shape to a shape: in u, node c stands where π c stood in t
pub permuted : {n : ℕ} {t : Tree} {σ π π⁻ : ℕ → ℕ} (u : Tree) → Permutation n π π⁻ → Shaped n t σ
    → Sized n u → ((x : ℕ) → x ≤ n → get_or u.pairs x 0 ≡ no_node)
    → ((c : ℕ) → c < n → content n u (σ (π c)) ≡ c) → ((c : ℕ) → c < n → parent u c ≡ owner n (σ (π c)))
    → Shaped n u (λ c. σ (π c))
permuted {n} {t} {σ} {π} {π⁻} u p s z m C O = record {
  sized = z;
  tip = m;
  slot = λ c h. s.slot (π c) (p.node c h);
  holds = C;
  above = O;
  node = λ x h. rw (moved u p s C x h) (p.node⁻ (content n t x) (s.node x h));
  stands = λ x h. ap (λ (v : ℕ). σ (π v)) (moved u p s C x h) ∙ ap σ (p.undone (content n t x) (s.node x h)) ∙ s.stands x h;
}

module _ {n : ℕ} {t u : Tree} {σ π π⁻ : ℕ → ℕ} (p : Permutation n π π⁻) (s : Shaped n t σ) (r : Shaped n u (λ c. σ (π c))) where
  -- a node of the permuted tree has the parent of the node whose place it takes
  pub parent-turned : (c : ℕ) → c < n → parent u c ≡ parent t (π c)
  parent-turned c C = r.above c C ∙ sym (s.above (π c) (p.node c C))

  -- a slot of the permuted tree holds the node that takes the place of the one there
  pub content-turned : (x : ℕ) → Slot n x → content n u x ≡ π⁻ (content n t x)
  content-turned = moved u p s r.holds

  -- the root's register too
  pub root-turned : u.root ≡ π⁻ t.root
  root-turned = sym (content-top n u) ∙ content-turned (top n) (top-slot s) ∙ ap π⁻ (content-top n t)

  side-turned : (x : ℕ) → n < x → x < n + n → get_or u.pairs x 0 ≡ π⁻ (get_or t.pairs x 0)
  side-turned x a b = sym (content-side n u x (omega arith)) ∙ content-turned x (omega arith) ∙ ap π⁻ (content-side n t x (omega arith))

  -- and the first side of an inner node
  pub first-turned : (k : ℕ) → k < n → n < k + k → first u k ≡ π⁻ (first t k)
  first-turned k K I = side-turned (k + k) I (omega arith)

  -- and its second side
  pub second-turned : (k : ℕ) → k < n → n < k + k → second u k ≡ π⁻ (second t k)
  second-turned k K I = side-turned (suc (k + k)) (omega arith) (omega arith)

-- ---- a shape and the heights fix the tree

-- two trees with the same slots and heights are one
pub determined : {n : ℕ} {t u : Tree} {σ τ : ℕ → ℕ} → Shaped n t σ → Shaped n u τ
    → ((c : ℕ) → c < n → σ c ≡ τ c) → t.heights ≡ u.heights → t ≡ u
unfolding parent
determined {n} {t} {u} {σ} {τ} s r e h = λ i. record { pairs = pairs i; parents = parents i; heights = h i; root = root i }
  where
    same : (x : ℕ) → Slot n x → content n t x ≡ content n u x
    same x k =
        let v = content n t x in
        let m = s.node x k in
        sym (ap (content n u) (sym (s.stands x k) ∙ e v m) ∙ r.holds v m)

    pair : (x : ℕ) → x < n + n → get_or t.pairs x 0 ≡ get_or u.pairs x 0
    pair x b = elim (dec_le x n) [
      | yes k ↦ s.tip x k ∙ sym (r.tip x k)
      | no k ↦ let d : x ≢ top n = omega arith in sym (content-side n t x d) ∙ same x (omega arith) ∙ content-side n u x d
    ]

    pairs : t.pairs ≡ u.pairs
    pairs = ext_get_or 0 t.pairs u.pairs (s.sized.pairs ∙ sym r.sized.pairs) (λ x b. pair x (rw s.sized.pairs at b))

    up : (x : ℕ) → x < n → get_or t.parents x 0 ≡ get_or u.parents x 0
    up x b = s.above x b ∙ ap (owner n) (e x b) ∙ sym (r.above x b)

    parents : t.parents ≡ u.parents
    parents = ext_get_or 0 t.parents u.parents (s.sized.parents ∙ sym r.sized.parents) (λ x b. up x (rw s.sized.parents at b))

    root : t.root ≡ u.root
    root = sym (content-top n t) ∙ same (top n) (top-slot s) ∙ content-top n u

-- ---- one node is put into a slot

module _ (n : ℕ) (t : Tree) (x c : ℕ) where
  -- the slot holds it
  pub content-same : length t.pairs ≡ n + n → Slot n x → content n (put n t x c) x ≡ c
  unfolding content put
  content-same l s = elim (ℕ_discrete x (n + n)) [
    | yes e ↦ rw (eq-eqb x (n + n) e)
    | no d ↦ rw (ne_eqb x (n + n) d) (get_or-set_same t.pairs x c 0 (omega arith))
  ]

  -- the others hold what they held
  pub content-other : (y : ℕ) → y ≢ x → content n (put n t x c) y ≡ content n t y
  unfolding content put
  content-other y d = elim (ℕ_discrete x (n + n)) [
    | yes e ↦ rw (eq-eqb x (n + n) e, ne_eqb y (n + n) (λ f. d (f ∙ sym e)))
    | no e ↦ rw (ne_eqb x (n + n) e, get_or-set_other t.pairs x y c 0 d)
  ]

  -- the slot's owner is its parent
  pub parent-same : length t.parents ≡ n → c < n → parent (put n t x c) c ≡ owner n x
  unfolding parent put
  parent-same l h = get_or-set_same t.parents c (owner n x) 0 (omega arith)

  -- the others keep their parents
  pub parent-other : (b : ℕ) → b ≢ c → parent (put n t x c) b ≡ parent t b
  unfolding parent put
  parent-other b d = get_or-set_other t.parents c b (owner n x) 0 d

  -- there are as many pairs as before
  pub put-pairs : length (put n t x c).pairs ≡ length t.pairs
  unfolding put
  put-pairs = go (eqb x (n + n))
    where
      go : (b : Bool) → length (cond b t.pairs (set t.pairs x c)) ≡ length t.pairs
      go true = refl
      go false = length-set t.pairs x c

  -- the sizes are kept
  pub put-sized : Sized n t → Sized n (put n t x c)
  put-sized s = record {
    some = s.some;
    few = s.few;
    odd = s.odd;
    pairs = put-pairs ∙ s.pairs;
    parents = unfold put in (length-set t.parents c (owner n x) ∙ s.parents);
    heights = unfold put in s.heights;
  }

  -- the tips' marks are kept
  pub put-tip : Slot n x → (y : ℕ) → y ≤ n → get_or (put n t x c).pairs y 0 ≡ get_or t.pairs y 0
  unfolding put
  put-tip s y h = go (eqb x (n + n))
    where
      go : (b : Bool) → get_or (cond b t.pairs (set t.pairs x c)) y 0 ≡ get_or t.pairs y 0
      go true = refl
      go false = get_or-set_other t.pairs x y c 0 (omega arith)
