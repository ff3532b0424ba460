-- The node of a set of tips. In order: what a search through a list gives (`sought`, `first-same`, `first-of`); in a valid tree, that some
-- node passes a test where the search through postorder finds one (`some_first`), that the root is over every set (`root_over`), so that the
-- clade's node is a node and over the set (`clade-node`, `clade-over`), and that the search by weights tells monophyly and finds the clade's
-- node (`monophyletic-found`, `clade-found`); and of a set that is not empty, that one node at most has exactly its tips (`exactly-one`),
-- that it is the clade's (`exactly-clade`), and so what monophyly says (`monophyletic-clade`, `monophyletic-empty`). Assumes nothing.
use Rattle.std.specs.Prelude.{◌≡◌, ◌≢◌, ◌⊎◌, Bool, not, ◌||◌, cond, List, [], ◌∷◌, ◌++◌, ltb, length, get_or}
use Rattle.std.proofs.Math.Path.{refl}
use Rattle.std.proofs.Common.{sym, ap, ◌∙◌, subst, inl, inr, true≢false}
use Rattle.std.proofs.Math.Bool.{true, false, beq}
use Prim.Native.Nat.{ℕ, zero, suc, ◌+◌, ◌≤◌, ◌<◌}
use native.Mathlib.Omega.{arith}
use borrow.Author.Tests.{lt-ltb, le-ltb, eqb-true}
use Rattle.tree.specs.Tree.{Tree, tips_of, nodes_of, first, second, parent, subtree, postorder}
use Rattle.tree.specs.Valid.{Inner, Below, Valid}
use Rattle.tree.specs.Bounded.{some}
use Rattle.tree.specs.BoundedLaws.{every_true, every-at, some-true, some-false, some_at}
use Rattle.tree.specs.ListLaws.{Has, has-none, Before}
use Rattle.accepted.specs.Ways.{Under, itself, through}
use Rattle.accepted.specs.WayLaws.{valid-nodes}
use Rattle.accepted.specs.SubtreeLaws.{subtree-induction, subtree-sound, postorder-nodes, postorder-all, postorder-before}
use Rattle.clades.specs.Clades.{has, first_of, marked, size_of, is_below, exactly, over, monophyletic, clade_node}
use Rattle.clades.specs.Counting.{total, weight, weight_below, weighs, first_or}
use Rattle.clades.specs.SumLaws.{has-later, has_split, has-true, has_in, total-append, total-le}
use Rattle.clades.specs.WeightLaws.{weight-one, weight-more, weight-inner, weighs-over, weighs-exactly, exactly-tips}

-- ---- looking through a list

-- what a search through a list gives: the first of its numbers that passes, or that none does
pub data Sought (none : ℕ) (test : ℕ → Bool) (l : List ℕ) : ℕ → Type 0 where
  found : {k : ℕ} (h : Has l k) → ((j : ℕ) → j < h.0 → test (get_or l j 0) ≡ false) → test k ≡ true → Sought none test l k
  missing : ((c : ℕ) → Has l c → test c ≡ false) → Sought none test l none

-- a search goes on after a number that fails
sought-later : (none : ℕ) (test : ℕ → Bool) (x : ℕ) (l : List ℕ) {k : ℕ} → test x ≡ false → Sought none test l k → Sought none test (x ∷ l) k
sought-later none test x l e (found h before p) = found (suc h.0, (let b = h.1 in omega arith), h.2) earlier p
  where
    earlier : (j : ℕ) → j < suc h.0 → test (get_or (x ∷ l) j 0) ≡ false
    earlier zero J = e
    earlier (suc j) J = before j (omega arith)
sought-later none test x l e (missing all) = missing (λ c h. pick c (has_split x l c h))
  where
    pick : (c : ℕ) → (x ≡ c) ⊎ Has l c → test c ≡ false
    pick c (inl q) = rw (← q) e
    pick c (inr q) = all c q

-- this is what it gives
pub sought : (none : ℕ) (test : ℕ → Bool) (l : List ℕ) → Sought none test l (first_or none test l)
unfolding first_or
sought none test [] = missing (λ c h. absurd (has-none h))
sought none test (x ∷ l) = pick (test x) refl (sought none test l)
  where
    pick : (b : Bool) → test x ≡ b → Sought none test l (first_or none test l) → Sought none test (x ∷ l) (cond b x (first_or none test l))
    pick true e rest = found (0, omega arith, refl) (λ j J. absurd (omega arith)) e
    pick false e rest = sought-later none test x l e rest

-- a search by a test that agrees on the list
pub first-same : (none : ℕ) (test other : ℕ → Bool) (l : List ℕ) → ((c : ℕ) → Has l c → test c ≡ other c) → first_or none test l ≡ first_or none other l
unfolding first_or
first-same none test other [] same = refl
first-same none test other (x ∷ l) same =
    rw (same x (0, omega arith, refl), first-same none test other l (λ c h. same c (has-later x l h)))

-- where one passes, it does not matter what is given otherwise
pub first-of : (none : ℕ) (test : ℕ → Bool) (l : List ℕ) (c : ℕ) → Has l c → test c ≡ true → first_or none test l ≡ first_of test l
unfolding first_or first_of
first-of none test [] c h p = absurd (has-none h)
first-of none test (x ∷ l) c h p = pick (test x) refl (first-of none test l c)
  where
    pick : (b : Bool) → test x ≡ b → (Has l c → test c ≡ true → first_or none test l ≡ first_of test l) → cond b x (first_or none test l) ≡ cond b x (first_of test l)
    pick true e rest = refl
    pick false e rest = rest (later (has_split x l c h)) p
      where
        later : (x ≡ c) ⊎ Has l c → Has l c
        later (inl q) = absurd (true≢false (sym p ∙ ap test (sym q) ∙ e))
        later (inr q) = q

-- ---- looking through the postorder of a valid tree

module _ (n : ℕ) (t : Tree) (v : Valid n t) where
  -- some node passes a test where the search through postorder finds one
  pub some_first : (test : ℕ → Bool) → ltb (first_or n test (postorder t)) n ≡ some test n
  some_first test = pick (sought n test (postorder t))
    where
      pick : {k : ℕ} → Sought n test (postorder t) k → ltb k n ≡ some test n
      pick {k} (found h before p) = let K = postorder-nodes n t v k h in lt-ltb k n K ∙ sym (some-true test n k K p)
      pick (missing all) = le-ltb n n (omega arith) ∙ sym (some-false test n (λ c C. all c (postorder-all n t v c C)))

  -- the root is over every set
  pub root_over : (members : List Bool) → over t members t.root ≡ true
  unfolding over
  root_over members = every_true _ (tips_of (nodes_of t.pairs)) each
    where
      each : (i : ℕ) → i < tips_of (nodes_of t.pairs) → (not (marked members i) || is_below t t.root i) ≡ true
      each i I =
          let e = valid-nodes v in
          let h = has-true (postorder t) i (postorder-all n t v i (omega (arith, v.sized.some))) in
          last (marked members i) (is_below t t.root i) h
        where
          last : (a b : Bool) → b ≡ true → (not a || b) ≡ true
          last true b h = h
          last false b h = refl

  module _ (members : List Bool) where
    -- the clade's node, whatever is given where none is over the set
    clade-first : (none : ℕ) → first_or none (over t members) (postorder t) ≡ clade_node t members
    unfolding clade_node
    clade-first none = first-of none (over t members) (postorder t) t.root (postorder-all n t v t.root v.root_node) (root_over members)

    -- it is over the set, and none before it in postorder is
    clade-of : (h : Has (postorder t) (clade_node t members)) × ((j : ℕ) → j < h.0 → over t members (get_or (postorder t) j 0) ≡ false)
        × (over t members (clade_node t members) ≡ true)
    clade-of = rw (← clade-first n) (pick (sought n (over t members) (postorder t)))
      where
        pick : {k : ℕ} → Sought n (over t members) (postorder t) k
            → (h : Has (postorder t) k) × ((j : ℕ) → j < h.0 → over t members (get_or (postorder t) j 0) ≡ false) × (over t members k ≡ true)
        pick (found h before p) = (h, before, p)
        pick (missing all) = absurd (true≢false (sym (root_over members) ∙ all t.root (postorder-all n t v t.root v.root_node)))

    -- the clade's node is a node
    pub clade-node : clade_node t members < n
    clade-node = postorder-nodes n t v (clade_node t members) clade-of.0

    -- and over the set
    pub clade-over : over t members (clade_node t members) ≡ true
    clade-over = clade-of.2

    module _ (M : length members ≡ tips_of n) where
      -- the set is monophyletic where the search by weights finds a node
      pub monophyletic-found : (others : ℕ) → tips_of n < others → ltb (first_or n (weighs n t.pairs members others) (postorder t)) n ≡ monophyletic t members
      unfolding monophyletic
      monophyletic-found others O =
          let same = first-same n (weighs n t.pairs members others) (exactly t members) (postorder t) (λ c h. weighs-exactly n t v members M others c O (postorder-nodes n t v c h)) in
          rw (same, some_first (exactly t members), valid-nodes v)

      -- the node that the search by weights finds is the clade's
      pub clade-found : first_or n (weighs n t.pairs members 0) (postorder t) ≡ clade_node t members
      clade-found = first-same n (weighs n t.pairs members 0) (over t members) (postorder t) (λ c h. weighs-over n t v members M c (postorder-nodes n t v c h)) ∙ clade-first n

-- ---- nodes under nodes

-- of two nodes with a node under both, one is under the other
under-chain : {n : ℕ} {t : Tree} {c a b : ℕ} → Under n t c a → Under n t c b → Under n t a b ⊎ Under n t b a
under-chain itself u = inl u
under-chain (through C r u) itself = inr (through C r u)
under-chain (through C r u) (through C' r' u') = under-chain u u'

module _ (n : ℕ) (t : Tree) (v : Valid n t) where
  -- a node under another comes before it in postorder
  under-before : {c k : ℕ} → Under n t c k → (a : ℕ) → a < length (postorder t) → get_or (postorder t) a 0 ≡ k → (c ≡ k) ⊎ Before (postorder t) a c
  under-before itself a A e = inl refl
  under-before (through {c} {k} C r u) a A e = inr (rise (under-before u a A e))
    where
      x : Below n t c
      x = v.below c C r

      -- c comes before each place of its parent
      step : (b : ℕ) → b < length (postorder t) → get_or (postorder t) b 0 ≡ parent t c → Before (postorder t) b c
      step b B f = side x.side (postorder-before n t v b (parent t c) B f x.parent_inner)
        where
          side : (c ≡ first t (parent t c)) ⊎ (c ≡ second t (parent t c))
              → Before (postorder t) b (first t (parent t c)) × Before (postorder t) b (second t (parent t c)) → Before (postorder t) b c
          side (inl q) h = subst (Before (postorder t) b) (sym q) h.0
          side (inr q) h = subst (Before (postorder t) b) (sym q) h.1

      rise : (parent t c ≡ k) ⊎ Before (postorder t) a (parent t c) → Before (postorder t) a c
      rise (inl q) = step a A (e ∙ sym q)
      rise (inr h) = let s = step h.0 (let b = h.1 in omega arith) h.2 in (s.0, (let b = h.1 in let d = s.1 in omega arith), s.2)

-- ---- how many tips are below a node

module _ (n : ℕ) (t : Tree) (v : Valid n t) (members : List Bool) (M : length members ≡ tips_of n) where
  -- each tip weighing 1
  abbrev tips_below : ℕ → ℕ
  tips_below k = weight_below n t.pairs members 1 k

  -- one or more
  tips-some : (k : ℕ) → k < n → 0 < tips_below k
  unfolding weight_below total
  tips-some = subtree-induction n t v (λ k l. 0 < total (weight members 1) l)
      (λ k K i. let e = weight-one members k (omega (arith, M)) in omega arith)
      (λ k K i A B a b. let x = total-append (weight members 1) (A ++ B) (k ∷ []) in let y = total-append (weight members 1) A B in omega arith)

  -- fewer than below its parent
  tips-parent : (c : ℕ) → c < n → c ≢ t.root → tips_below c < tips_below (parent t c)
  tips-parent c C r = side x.side
    where
      x : Below n t c
      x = v.below c C r

      p : ℕ
      p = parent t c

      i : Inner n t p
      i = v.inner p x.parent_node x.parent_inner

      both : tips_below p ≡ tips_below (first t p) + tips_below (second t p)
      both = weight-inner n t v members M 1 p x.parent_node x.parent_inner

      side : (c ≡ first t p) ⊎ (c ≡ second t p) → tips_below c < tips_below p
      side (inl q) = let z = ap tips_below q in let b = both in let o = tips-some (second t p) i.second_node in omega arith
      side (inr q) = let z = ap tips_below q in let b = both in let o = tips-some (first t p) i.first_node in omega arith

  -- fewer than below any other node that it is under
  tips-under : {c k : ℕ} → Under n t c k → (c ≡ k) ⊎ (tips_below c < tips_below k)
  tips-under itself = inl refl
  tips-under (through {c} {k} C r u) = inr (rise (tips-under u))
    where
      rise : (parent t c ≡ k) ⊎ (tips_below (parent t c) < tips_below k) → tips_below c < tips_below k
      rise (inl q) = let z = ap tips_below q in let h = tips-parent c C r in omega arith
      rise (inr l) = let h = tips-parent c C r in omega arith

  -- a node over the set has as many as it or more
  over-tips : (k : ℕ) → k < n → over t members k ≡ true → size_of members ≤ tips_below k
  unfolding weight_below weighs
  over-tips k K o =
      let e = eqb-true (weight_below n t.pairs members 0 k) (size_of members) (weighs-over n t v members M k K ∙ o) in
      let l = total-le (weight members 0) (weight members 1) (weight-more members) (subtree n n t.pairs k) in
      omega arith

  -- ---- the node of a set that is not empty

  -- a node with exactly the set's tips is over it
  pub exactly-over : (k : ℕ) → exactly t members k ≡ true → over t members k ≡ true
  unfolding exactly over
  exactly-over k e = every_true _ (tips_of (nodes_of t.pairs)) (λ i I. pick (marked members i) (is_below t k i) (every-at _ (tips_of (nodes_of t.pairs)) e i I))
    where
      pick : (a b : Bool) → beq a b ≡ true → (not a || b) ≡ true
      pick true true h = refl
      pick true false h = h
      pick false b h = refl

  -- a tip of the set is under a node that is over it
  over-under : (k i : ℕ) → k < n → over t members k ≡ true → i < tips_of n → marked members i ≡ true → Under n t i k
  unfolding over
  over-under k i K o I m =
      let e = every-at _ (tips_of (nodes_of t.pairs)) o i (rw (valid-nodes v) I) in
      let b : has (subtree (nodes_of t.pairs) (nodes_of t.pairs) t.pairs k) i ≡ true = rw m at e in
      (subtree-sound n t v k i K (has_in (subtree n n t.pairs k) i (rw (valid-nodes v) at b))).1

  module _ (E : some (marked members) (length members) ≡ true) (k : ℕ) (K : k < n) (e : exactly t members k ≡ true) where
    -- such a node and one that is over the set: one is under the other
    chain : (l : ℕ) → l < n → over t members l ≡ true → Under n t k l ⊎ Under n t l k
    chain l L o =
        let i = some_at (marked members) (length members) E in
        let I : i.0 < tips_of n = (let h = i.1 in omega arith) in
        under-chain (over-under k i.0 K (exactly-over k e) I i.2) (over-under l i.0 L o I i.2)

    -- only one node has exactly the set's tips
    pub exactly-one : (l : ℕ) → l < n → exactly t members l ≡ true → k ≡ l
    exactly-one l L f = pick (chain l L (exactly-over l f))
      where
        a : tips_below k ≡ tips_below l
        a = exactly-tips n t v members M k K e ∙ sym (exactly-tips n t v members M l L f)

        same : {c d : ℕ} → tips_below c ≡ tips_below d → (c ≡ d) ⊎ (tips_below c < tips_below d) → c ≡ d
        same q (inl z) = z
        same q (inr z) = absurd (omega arith)

        pick : Under n t k l ⊎ Under n t l k → k ≡ l
        pick (inl u) = same a (tips-under u)
        pick (inr u) = sym (same (sym a) (tips-under u))

    -- it is the clade's node
    pub exactly-clade : k ≡ clade_node t members
    exactly-clade = pick (chain c (clade-node n t v members) (clade-over n t v members))
      where
        c : ℕ
        c = clade_node t members

        first-of-all : (h : Has (postorder t) c) × ((j : ℕ) → j < h.0 → over t members (get_or (postorder t) j 0) ≡ false) × (over t members c ≡ true)
        first-of-all = clade-of n t v members

        early : (k ≡ c) ⊎ Before (postorder t) first-of-all.0.0 k → k ≡ c
        early (inl z) = z
        early (inr h) = absurd (true≢false (sym (exactly-over k e) ∙ ap (over t members) (sym h.2) ∙ first-of-all.1 h.0 h.1))

        late : (c ≡ k) ⊎ (tips_below c < tips_below k) → k ≡ c
        late (inl z) = sym z
        late (inr z) =
            let a = exactly-tips n t v members M k K e in
            let b = over-tips c (clade-node n t v members) (clade-over n t v members) in
            absurd (omega arith)

        pick : Under n t k c ⊎ Under n t c k → k ≡ c
        pick (inl u) = early (under-before n t v u first-of-all.0.0 first-of-all.0.1 first-of-all.0.2)
        pick (inr u) = late (tips-under u)

  -- a set that is not empty is monophyletic where the clade's node has exactly its tips
  pub monophyletic-clade : some (marked members) (length members) ≡ true → monophyletic t members ≡ exactly t members (clade_node t members)
  unfolding monophyletic
  monophyletic-clade E = pick (exactly t members c) refl
    where
      c : ℕ
      c = clade_node t members

      other : exactly t members c ≡ false → (k : ℕ) → k < nodes_of t.pairs → (b : Bool) → exactly t members k ≡ b → exactly t members k ≡ false
      other d k K true e =
          absurd (true≢false (sym e ∙ ap (exactly t members) (exactly-clade E k (rw (valid-nodes v) at K) e) ∙ d))
      other d k K false e = e

      pick : (b : Bool) → exactly t members c ≡ b → some (exactly t members) (nodes_of t.pairs) ≡ exactly t members c
      pick true e = some-true (exactly t members) (nodes_of t.pairs) c (rw (valid-nodes v) (clade-node n t v members)) e ∙ sym e
      pick false e = some-false (exactly t members) (nodes_of t.pairs) (λ k K. other e k K (exactly t members k) refl) ∙ sym e

  -- an empty set is not monophyletic
  pub monophyletic-empty : size_of members ≡ 0 → monophyletic t members ≡ false
  unfolding monophyletic
  monophyletic-empty z = some-false (exactly t members) (nodes_of t.pairs) (λ k K. clear k (rw (valid-nodes v) at K) (exactly t members k) refl)
    where
      clear : (k : ℕ) → k < n → (b : Bool) → exactly t members k ≡ b → exactly t members k ≡ false
      clear k K true e = let a = tips-some k K in let b = exactly-tips n t v members M k K e in absurd (omega arith)
      clear k K false e = e
