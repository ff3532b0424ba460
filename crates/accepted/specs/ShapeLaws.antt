-- Which shape the pairs give. In order: parents and root that the pairs give are those of a linked tree whose nodes all reach the root
-- (`shape-linked`, `shape-joined`); and the pairs of a valid tree give its parents and root (`valid-shape`). Assumes nothing.
use Rattle.std.specs.Prelude.{◌≡◌, ◌≢◌, ◌⊎◌, Bool, true, false, T, ltb, eqb, length, get_or, set, replicate}
use Rattle.std.proofs.Math.Path.{refl, sym, ap}
use Rattle.std.proofs.Common.{◌∙◌, inl, inr, eqb→eq, get_or-set_other, ext_get_or}
use Rattle.std.proofs.Math.Bool.{cond}
use mathlib.Core.List.{List, [], ◌∷◌, ◌++◌}
use Prim.Native.Nat.{ℕ, zero, suc, ◌+◌, ◌≤◌, ◌<◌}
use native.Mathlib.Omega.{arith}
use Rattle.std.proofs.Math.Decide.{ℕ_discrete, dec_le, dec_lt}
use borrow.Author.Tests.{lt-ltb, le-ltb, lt-leb, eq-eqb, ne_eqb}
use Rattle.answer.specs.declared.Refusal.{Refusal}
use Rattle.tree.specs.Tree.{Tree, no_node, first, second, parent, subtree}
use Rattle.tree.specs.New.{Scan, stopped, filled, adopt, then_adopt, visit, scan, roots, only_root, Shaping, unshaped, shaping, joined, scanned, shape_of}
use Rattle.tree.specs.Valid.{Inner, Below, Reach, Valid}
use Rattle.tree.specs.ListLaws.{has_one}
use Rattle.tree.specs.ScanLaws.{Scanned, scan-inv, roots-sound, roots-complete}
use Rattle.accepted.specs.Ways.{Linked, climbs}
use Rattle.accepted.specs.WayLaws.{valid-linked, valid-nodes, under_root, way, way-only}
use Rattle.accepted.specs.SubtreeLaws.{whole-joined, postorder-length}

-- ---- from the pairs to the tree

-- the tests that the pairs passed, and what they gave
record Found (n : ℕ) (pairs ps : List ℕ) (r : ℕ) : Type 0 where
  scan_is : scan n pairs n ≡ filled ps
  roots_are : roots ps (length ps) ≡ r ∷ []
  whole : length (subtree n n pairs r) ≡ n

no-shape : {why : Refusal} {ps : List ℕ} {r : ℕ} → unshaped why ≡ shaping ps r → ⊥
no-shape e = let z : ◌≡◌ {A = ℕ} 0 1 = cc in omega arith

if-shaped : (b : Bool) (s : Shaping) (why : Refusal) {ps : List ℕ} {r : ℕ} → cond b s (unshaped why) ≡ shaping ps r → T b × (s ≡ shaping ps r)
if-shaped true s why e = (tt, e)
if-shaped false s why e = absurd (no-shape e)

found : (n : ℕ) (pairs ps : List ℕ) (r : ℕ) → shape_of n pairs ≡ shaping ps r → Found n pairs ps r
unfolding scanned joined
found n pairs ps r e = by-scan (scan n pairs n) refl e
  where
    by-roots : (qs l : List ℕ) → scan n pairs n ≡ filled qs → roots qs (length qs) ≡ l → joined n pairs qs (only_root l) ≡ shaping ps r
        → Found n pairs ps r
    by-roots qs [] f g e = absurd (no-shape e)
    by-roots qs (q ∷ q' ∷ l) f g e = absurd (no-shape e)
    by-roots qs (q ∷ []) f g e =
        let size = length (subtree n n pairs q) in
        let a = if-shaped (eqb size n) _ _ e in
        let z : shaping qs q ≡ shaping ps r = a.1 in
        let x : qs ≡ ps = cc in
        let y : q ≡ r = cc in
        rw (← x, ← y) (record { scan_is = f; roots_are = g; whole = eqb→eq size n a.0 })

    by-scan : (s : Scan) → scan n pairs n ≡ s → scanned n pairs s ≡ shaping ps r → Found n pairs ps r
    by-scan (stopped why) f e = absurd (no-shape e)
    by-scan (filled qs) f e = by-roots qs (roots qs (length qs)) f refl e

-- the parents that the pairs give are those of the scan
pub shape-scanned : (n : ℕ) (pairs ps : List ℕ) (r : ℕ) → n ≤ 4095 → shape_of n pairs ≡ shaping ps r → Scanned n pairs n ps
shape-scanned n pairs ps r few e = scan-inv n few pairs n (omega arith) ps (found n pairs ps r e).scan_is

module _ (n : ℕ) (t : Tree) (few : n ≤ 4095) (e : shape_of n t.pairs ≡ shaping t.parents t.root) where
  given : Found n t.pairs t.parents t.root
  given = found n t.pairs t.parents t.root e

  -- a tree whose parents and root are the pairs' is linked
  pub shape-linked : Linked n t
  unfolding parent
  shape-linked = record {
    few = few;
    inner = λ k K i. let x = s.children k K i in record {
      first_node = x.first_node;
      second_node = x.second_node;
      two = x.two;
      first_parent = x.first_parent;
      second_parent = x.second_parent;
    };
    root_node = rw s.nodes at root_is.0;
    root_parent = root_is.1;
    below = λ c C d. let x = s.child c C (λ f. d (only-root c C f)) in record {
      parent_node = x.before;
      parent_inner = x.parent_inner;
      side = x.side;
    };
  }
    where
      s : Scanned n t.pairs n t.parents
      s = shape-scanned n t.pairs t.parents t.root few e

      root_is : (t.root < length t.parents) × (get_or t.parents t.root 0 ≡ no_node)
      root_is = roots-sound t.parents (length t.parents) t.root (rw given.roots_are (0, omega arith, refl))

      only-root : (c : ℕ) → c < n → get_or t.parents c 0 ≡ no_node → c ≡ t.root
      only-root c C f = has_one (rw given.roots_are at (roots-complete t.parents (length t.parents) c (rw s.nodes C) f))

  -- its nodes all reach the root
  pub shape-joined : (c : ℕ) → c < n → Reach t c
  shape-joined = whole-joined n t shape-linked given.whole

-- ---- from the tree to the pairs

adopts : (n k c : ℕ) (ps : List ℕ) → c < n → c ≢ k → get_or ps c 0 ≡ no_node → adopt n k c ps ≡ filled (set ps c k)
unfolding adopt
adopts n k c ps C d e = rw (lt-leb n c C, ne_eqb c k d, eq-eqb (get_or ps c 0) no_node e)

module _ (n : ℕ) (t : Tree) (v : Valid n t) where
  linked : Linked n t
  linked = valid-linked v

  -- a child's parent is not the child
  not_own : (c k : ℕ) → c < n → k < n → parent t c ≡ k → c ≢ k
  not_own c k C K e f =
      let w = way (v.joined c C) in
      let r : c ≢ t.root = under_root n t linked k K c e in
      let z : w.0 ≡ suc w.0 = way-only w.1 (climbs r (rw (e ∙ sym f) w.1)) in
      omega arith

  module _ (m : ℕ) (ps : List ℕ) (M : m ≤ n) (s : Scanned n t.pairs m ps) where
    -- a parent that the first m nodes gave is the tree's
    gave : (c : ℕ) → c < n → get_or ps c 0 ≢ no_node → (get_or ps c 0 < m) × (parent t c ≡ get_or ps c 0)
    gave c C d =
        let x = s.child c C d in
        let b = x.before in
        (b, side (v.inner (get_or ps c 0) (omega arith) x.parent_inner) x.side)
      where
        side : {k : ℕ} → Inner n t k → (c ≡ first t k) ⊎ (c ≡ second t k) → parent t c ≡ k
        side i (inl e) = rw e i.first_parent
        side i (inr e) = rw e i.second_parent

    -- a child of m has none from them
    free : (c : ℕ) → c < n → parent t c ≡ m → get_or ps c 0 ≡ no_node
    free c C e = elim (ℕ_discrete (get_or ps c 0) no_node) [ yes f ↦ f | no d ↦ let x = gave c C d in absurd (omega (arith, x.0, x.1)) ]

    -- a child of m is taken, by parents that have none for it either
    takes : m < n → (c : ℕ) (qs : List ℕ) → c < n → parent t c ≡ m → get_or qs c 0 ≡ get_or ps c 0 → adopt n m c qs ≡ filled (set qs c m)
    takes N c qs C e same = adopts n m c qs C (not_own c m C N e) (same ∙ free c C e)

    -- the next node does not stop the scan
    visits : m < n → (qs : List ℕ) × (visit n t.pairs m (filled ps) ≡ filled qs)
    unfolding visit then_adopt
    visits N = elim (dec_le (m + m) n) [
      | yes i ↦ (ps, rw (le-ltb n (m + m) i, v.tip_first m i, v.tip_second m i))
      | no i ↦
          let a = first t m in
          let b = second t m in
          let j : n < m + m = omega arith in
          let x = v.inner m N j in
          let taken = takes N a ps x.first_node x.first_parent refl in
          let both = takes N b (set ps a m) x.second_node x.second_parent (get_or-set_other ps a b m 0 (λ f. x.two (sym f))) in
          (set (set ps a m) b m, rw (lt-ltb n (m + m) j, ne_eqb a b x.two, taken) both)
    ]

  -- no node stops the scan
  unstopped : (m : ℕ) → m ≤ n → (ps : List ℕ) × (scan n t.pairs m ≡ filled ps)
  unfolding scan
  unstopped zero h = (replicate n no_node, refl)
  unstopped (suc m) h =
      let p = unstopped m (omega arith) in
      let q = visits m p.0 (omega arith) (scan-inv n v.sized.few t.pairs m (omega arith) p.0 p.1) (omega arith) in
      (q.0, ap (visit n t.pairs m) p.1 ∙ q.1)

  -- the scan gives the tree's parents
  scan_is : scan n t.pairs n ≡ filled t.parents
  unfolding parent
  scan_is = p.1 ∙ ap filled (ext_get_or 0 ps t.parents (s.nodes ∙ sym v.sized.parents) (λ c C. same c (omega (arith, s.nodes))))
    where
      p : (ps : List ℕ) × (scan n t.pairs n ≡ filled ps)
      p = unstopped n (omega arith)

      ps : List ℕ
      ps = p.0

      s : Scanned n t.pairs n ps
      s = scan-inv n v.sized.few t.pairs n (omega arith) ps p.1

      child : (c : ℕ) → Below n t c → get_or ps c 0 ≡ parent t c
      child c x = side x.side
        where
          k : ℕ
          k = parent t c

          side : (c ≡ first t k) ⊎ (c ≡ second t k) → get_or ps c 0 ≡ k
          side (inl e) = ap (λ (y : ℕ). get_or ps y 0) e ∙ (s.children k x.parent_node x.parent_inner).first_parent
          side (inr e) = ap (λ (y : ℕ). get_or ps y 0) e ∙ (s.children k x.parent_node x.parent_inner).second_parent

      same : (c : ℕ) → c < n → get_or ps c 0 ≡ get_or t.parents c 0
      same c C = elim (ℕ_discrete c t.root) [
        | yes e ↦ elim (ℕ_discrete (get_or ps c 0) no_node) [
          | yes f ↦ f ∙ sym (ap (parent t) e ∙ v.root_parent)
          | no d ↦ sym (gave n ps (omega arith) s c C d).1
        ]
        | no d ↦ child c (v.below c C d)
      ]

  -- the root, if it is among the first m nodes
  abbrev root_among : ℕ → List ℕ
  root_among m = cond (ltb t.root m) (t.root ∷ []) []

  -- the root is the only node without a parent
  roots_are : (m : ℕ) → m ≤ n → roots t.parents m ≡ root_among m
  unfolding roots parent
  roots_are zero h = rw (le-ltb t.root 0 (omega arith))
  roots_are (suc m) h = rw (roots_are m (omega arith)) (pick (ℕ_discrete m t.root))
    where
      pick : Dec (m ≡ t.root) → root_among m ++ cond (eqb (get_or t.parents m 0) no_node) (m ∷ []) [] ≡ root_among (suc m)
      pick (yes e) =
          let now = eq-eqb (get_or t.parents m 0) no_node (ap (parent t) e ∙ v.root_parent) in
          rw (now, le-ltb t.root m (omega arith), lt-ltb t.root (suc m) (omega arith)) (ap (λ (k : ℕ). k ∷ []) e)
      pick (no d) = rw (ne_eqb (get_or t.parents m 0) no_node has-parent) (elim (dec_lt t.root m) [
        | yes q ↦ rw (lt-ltb t.root m q, lt-ltb t.root (suc m) (omega arith))
        | no q ↦ rw (le-ltb t.root m (omega arith), le-ltb t.root (suc m) (omega arith))
      ])
        where
          has-parent : parent t m ≢ no_node
          has-parent f = let x = v.below m (omega arith) d in omega (arith, x.parent_node, v.sized.few)

  -- the pairs of a valid tree give its parents and its root
  pub valid-shape : shape_of n t.pairs ≡ shaping t.parents t.root
  unfolding scanned joined
  valid-shape =
      let whole = eq-eqb (length (subtree n n t.pairs t.root)) n (rw (valid-nodes v) at (postorder-length n t v)) in
      rw (scan_is, v.sized.parents, roots_are n (omega arith), lt-ltb t.root n v.root_node, whole)
