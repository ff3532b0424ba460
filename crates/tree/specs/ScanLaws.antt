-- What a scan of the pairs that is not stopped says. In order: `Scanned`, the facts about the parents that the first m nodes give; `scan-inv`,
-- that a scan which gives parents gives such; and what is in the list of roots (`roots-sound`, `roots-complete`). Assumes nothing.
use Rattle.std.specs.Prelude.{◌≡◌, ◌≢◌, ◌⊎◌, Bool, true, false, not, ◌&&◌, ◌||◌, cond, List, [], ◌∷◌, ◌++◌, T, leb, length, get_or, set, replicate}
use Rattle.std.proofs.Math.Path.{refl}
use Rattle.std.proofs.Common.{sym, ap, ◌∙◌, subst, inl, inr, arith, length-set, get_or-set_same, get_or-set_other, lt-ltb, le-ltb, eq-eqb}
use Prim.Native.Nat.{ℕ, zero, suc, ◌+◌, ◌≤◌, ◌<◌}
use Rattle.std.proofs.Math.Decide.{ℕ_discrete, dec_le}
use Rattle.std.proofs.Math.Dec.{eqb, eqb→eq, nleb→lt}
use Rattle.std.proofs.lemmas.List.{length-replicate, get_or-replicate}
use Rattle.std.specs.Float.Ieee.Fits.{and_l, and_r}
use Rattle.std.proofs.Math.Facts.{or_no}
use Rattle.answer.specs.declared.Refusal.{Refusal}
use Rattle.tree.specs.Tree.{no_node, first_in, second_in}
use Rattle.tree.specs.New.{Scan, stopped, filled, adopt, then_adopt, visit, scan, roots}
use Rattle.tree.specs.ListLaws.{Has, has-none, has_one, has_left, has_right, has-cases}

-- ---- what is said

-- both children of node k are nodes, and not the same; ps has k for the parent of each
pub record Children (n : ℕ) (pairs ps : List ℕ) (k : ℕ) : Type 0 where
  pub first_node : first_in pairs k < n
  pub second_node : second_in pairs k < n
  pub two : first_in pairs k ≢ second_in pairs k
  pub first_parent : get_or ps (first_in pairs k) 0 ≡ k
  pub second_parent : get_or ps (second_in pairs k) 0 ≡ k

-- node c is a child of k, an inner node among the first m
pub record Child (n : ℕ) (pairs : List ℕ) (m c k : ℕ) : Type 0 where
  pub before : k < m
  pub parent_inner : n < k + k
  pub side : (c ≡ first_in pairs k) ⊎ (c ≡ second_in pairs k)

-- the first m nodes have given the parents ps
pub record Scanned (n : ℕ) (pairs : List ℕ) (m : ℕ) (ps : List ℕ) : Type 0 where
  pub nodes : length ps ≡ n
  pub children : (k : ℕ) → k < m → n < k + k → Children n pairs ps k
  pub tip_first : (k : ℕ) → k < m → k + k ≤ n → first_in pairs k ≡ no_node
  pub tip_second : (k : ℕ) → k < m → k + k ≤ n → second_in pairs k ≡ no_node
  pub child : (c : ℕ) → c < n → get_or ps c 0 ≢ no_node → Child n pairs m c (get_or ps c 0)

-- ---- one test

no_stop : {why : Refusal} {ps : List ℕ} → stopped why ≡ filled ps → ⊥
no_stop e = let z : ◌≡◌ {A = ℕ} 0 1 = cc in omega arith

if-passed : (b : Bool) (s : Scan) (why : Refusal) {ps : List ℕ} → cond b s (stopped why) ≡ filled ps → T b × (s ≡ filled ps)
if-passed true s why e = (tt, e)
if-passed false s why e = absurd (no_stop e)

if-failed : (b : Bool) (s : Scan) (why : Refusal) {ps : List ℕ} → cond b (stopped why) s ≡ filled ps → T (not b) × (s ≡ filled ps)
if-failed true s why e = absurd (no_stop e)
if-failed false s why e = (tt, e)

pub neqb→ne : (a b : ℕ) → T (not (eqb a b)) → a ≢ b
neqb→ne a b h e = rw (eq-eqb a b e) at h

-- ---- one child

-- c could be taken by k as a child, and was
record Adopted (n k c : ℕ) (ps qs : List ℕ) : Type 0 where
  node : c < n
  free : get_or ps c 0 ≡ no_node
  result : set ps c k ≡ qs

adopted : (n k c : ℕ) (ps qs : List ℕ) → adopt n k c ps ≡ filled qs → Adopted n k c ps qs
unfolding adopt
adopted n k c ps qs e =
    let x = if-failed (leb n c || eqb c k) _ _ e in
    let y = if-passed (eqb (get_or ps c 0) no_node) _ _ x.1 in
    let z : filled (set ps c k) ≡ filled qs = y.1 in
    record { node = nleb→lt n c (or_no (leb n c) (eqb c k) x.0).0; free = eqb→eq (get_or ps c 0) no_node y.0; result = cc }

-- ---- one node

-- both children of k could be taken, and were
record Parenting (n : ℕ) (pairs : List ℕ) (k : ℕ) (ps qs : List ℕ) : Type 0 where
  first_node : first_in pairs k < n
  second_node : second_in pairs k < n
  two : first_in pairs k ≢ second_in pairs k
  first_free : get_or ps (first_in pairs k) 0 ≡ no_node
  second_free : get_or ps (second_in pairs k) 0 ≡ no_node
  result : set (set ps (first_in pairs k) k) (second_in pairs k) k ≡ qs

module _ (n : ℕ) (pairs : List ℕ) (k : ℕ) (ps qs : List ℕ) (e : visit n pairs k (filled ps) ≡ filled qs) where
  visited-inner : n < k + k → Parenting n pairs k ps qs
  unfolding visit then_adopt
  visited-inner i = let x = if-failed (eqb a b) _ _ (rw (lt-ltb n (k + k) i) at e) in both (adopt n k a ps) refl (neqb→ne a b x.0) x.1
    where
      a : ℕ
      a = first_in pairs k

      b : ℕ
      b = second_in pairs k

      both : (s : Scan) → adopt n k a ps ≡ s → a ≢ b → then_adopt n k b s ≡ filled qs → Parenting n pairs k ps qs
      both (stopped why) p d e = absurd (no_stop e)
      both (filled rs) p d e =
          let x = adopted n k a ps rs p in
          let y = adopted n k b rs qs e in
          record {
            first_node = x.node;
            second_node = y.node;
            two = d;
            first_free = x.free;
            second_free = sym (get_or-set_other ps a b k 0 (λ f. d (sym f))) ∙ ap (λ (l : List ℕ). get_or l b 0) x.result ∙ y.free;
            result = ap (λ (l : List ℕ). set l b k) x.result ∙ y.result;
          }

  visited-tip : k + k ≤ n → (first_in pairs k ≡ no_node) × (second_in pairs k ≡ no_node) × (ps ≡ qs)
  unfolding visit
  visited-tip i =
      let a = first_in pairs k in
      let b = second_in pairs k in
      let x = if-passed (eqb a no_node && eqb b no_node) _ _ (rw (le-ltb n (k + k) i) at e) in
      let z : filled ps ≡ filled qs = x.1 in
      (eqb→eq a no_node (and_l (eqb a no_node) (eqb b no_node) x.0), eqb→eq b no_node (and_r (eqb a no_node) (eqb b no_node) x.0), cc)

-- ---- the whole scan

module _ (n : ℕ) (few : n ≤ 4095) (pairs : List ℕ) where
  scanned-none : Scanned n pairs 0 (replicate n no_node)
  scanned-none = record {
    nodes = length-replicate n no_node;
    children = λ k h i. absurd (omega arith);
    tip_first = λ k h i. absurd (omega arith);
    tip_second = λ k h i. absurd (omega arith);
    child = λ c C d. absurd (d (get_or-replicate n c no_node 0 C));
  }

  -- a child of one of the first m nodes is one of the first m + 1
  later : {m c k : ℕ} → Child n pairs m c k → Child n pairs (suc m) c k
  later r = record { before = omega arith; parent_inner = r.parent_inner; side = r.side }

  scanned-tip : (m : ℕ) (ps : List ℕ) → Scanned n pairs m ps → m + m ≤ n → first_in pairs m ≡ no_node → second_in pairs m ≡ no_node
      → Scanned n pairs (suc m) ps
  scanned-tip m ps v i a b = record {
    nodes = v.nodes;
    children = λ k h j. v.children k (omega arith) j;
    tip_first = λ k h j. elim (ℕ_discrete k m) [ yes e ↦ rw e a | no d ↦ v.tip_first k (omega arith) j ];
    tip_second = λ k h j. elim (ℕ_discrete k m) [ yes e ↦ rw e b | no d ↦ v.tip_second k (omega arith) j ];
    child = λ c C d. later (v.child c C d);
  }

  scanned-inner : (m : ℕ) (ps qs : List ℕ) → m < n → Scanned n pairs m ps → n < m + m → Parenting n pairs m ps qs → Scanned n pairs (suc m) qs
  scanned-inner m ps qs M v i p = subst (Scanned n pairs (suc m)) p.result (record {
    nodes = length-set (set ps a m) b m ∙ length-set ps a m ∙ v.nodes;
    children = λ k h j. elim (ℕ_discrete k m) [
      | yes e ↦ rw e (record {
        first_node = p.first_node;
        second_node = p.second_node;
        two = p.two;
        first_parent = at_first;
        second_parent = at_second;
      })
      | no d ↦ let r = v.children k (omega arith) j in record {
        first_node = r.first_node;
        second_node = r.second_node;
        two = r.two;
        first_parent = taken (first_in pairs k) k r.first_parent (omega arith);
        second_parent = taken (second_in pairs k) k r.second_parent (omega arith);
      }
    ];
    tip_first = λ k h j. v.tip_first k (omega arith) j;
    tip_second = λ k h j. v.tip_second k (omega arith) j;
    child = λ c C d. elim (ℕ_discrete c b) [
      | yes e ↦ mine c (inr e) (rw e at_second)
      | no f ↦ elim (ℕ_discrete c a) [
        | yes e ↦ mine c (inl e) (rw e at_first)
        | no g ↦ old c C (get_or-set_other (set ps a m) b c m 0 f ∙ get_or-set_other ps a c m 0 g) d
      ]
    ];
  })
    where
      a : ℕ
      a = first_in pairs m

      b : ℕ
      b = second_in pairs m

      now : List ℕ
      now = set (set ps a m) b m

      at_first : get_or now a 0 ≡ m
      at_first = get_or-set_other (set ps a m) b a m 0 p.two ∙ get_or-set_same ps a m 0 (rw v.nodes p.first_node)

      at_second : get_or now b 0 ≡ m
      at_second = get_or-set_same (set ps a m) b m 0 (rw (length-set ps a m, v.nodes) p.second_node)

      -- a node that has a parent is neither of the two
      taken : (c k : ℕ) → get_or ps c 0 ≡ k → k < n → get_or now c 0 ≡ k
      taken c k e h = get_or-set_other (set ps a m) b c m 0 (away b p.second_free) ∙ get_or-set_other ps a c m 0 (away a p.first_free) ∙ e
        where
          away : (x : ℕ) → get_or ps x 0 ≡ no_node → c ≢ x
          away x free f = let z : k ≡ no_node = sym e ∙ ap (λ (y : ℕ). get_or ps y 0) f ∙ free in omega arith

      mine : (c : ℕ) → (c ≡ a) ⊎ (c ≡ b) → get_or now c 0 ≡ m → Child n pairs (suc m) c (get_or now c 0)
      mine c w e = rw e (record { before = omega arith; parent_inner = i; side = w })

      old : (c : ℕ) → c < n → get_or now c 0 ≡ get_or ps c 0 → get_or now c 0 ≢ no_node → Child n pairs (suc m) c (get_or now c 0)
      old c C e d = rw e (later (v.child c C (λ f. d (e ∙ f))))

-- a scan of the first m nodes that is not stopped gives parents in order
pub scan-inv : (n : ℕ) → n ≤ 4095 → (pairs : List ℕ) (m : ℕ) → m ≤ n → (ps : List ℕ) → scan n pairs m ≡ filled ps → Scanned n pairs m ps
unfolding scan visit
scan-inv n few pairs zero h ps e = let f : replicate n no_node ≡ ps = cc in subst (Scanned n pairs 0) f (scanned-none n few pairs)
scan-inv n few pairs (suc m) h ps e = next (scan n pairs m) (λ qs f. scan-inv n few pairs m (omega arith) qs f) e
  where
    next : (s : Scan) → ((qs : List ℕ) → s ≡ filled qs → Scanned n pairs m qs) → visit n pairs m s ≡ filled ps → Scanned n pairs (suc m) ps
    next (stopped why) before e = absurd (no_stop e)
    next (filled qs) before e = elim (dec_le (m + m) n) [
      | yes i ↦
          let r = visited-tip n pairs m qs ps e i in
          subst (Scanned n pairs (suc m)) r.2 (scanned-tip n few pairs m qs (before qs refl) i r.0 r.1)
      | no i ↦ scanned-inner n few pairs m qs ps (omega arith) (before qs refl) (omega arith) (visited-inner n pairs m qs ps e (omega arith))
    ]

-- ---- the roots

-- m alone, if it has no parent
abbrev next_root : List ℕ → ℕ → List ℕ
next_root ps m = cond (eqb (get_or ps m 0) no_node) (m ∷ []) []

-- each of the roots is a node without a parent
pub roots-sound : (ps : List ℕ) (m c : ℕ) → Has (roots ps m) c → (c < m) × (get_or ps c 0 ≡ no_node)
unfolding roots
roots-sound ps zero c h = absurd (has-none h)
roots-sound ps (suc m) c h = last (has-cases (roots ps m) (next_root ps m) h) (roots-sound ps m c)
  where
    new : (b : Bool) → (T b → get_or ps m 0 ≡ no_node) → Has (cond b (m ∷ []) []) c → (c < suc m) × (get_or ps c 0 ≡ no_node)
    new true y q = let e = has_one q in (omega arith, rw e (y tt))
    new false y q = absurd (has-none q)

    last : Has (roots ps m) c ⊎ Has (next_root ps m) c → (Has (roots ps m) c → (c < m) × (get_or ps c 0 ≡ no_node)) → (c < suc m) × (get_or ps c 0 ≡ no_node)
    last (inl q) before = let r = before q in (omega arith, r.1)
    last (inr q) before = new (eqb (get_or ps m 0) no_node) (eqb→eq (get_or ps m 0) no_node) q

-- each node without a parent is one of the roots
pub roots-complete : (ps : List ℕ) (m c : ℕ) → c < m → get_or ps c 0 ≡ no_node → Has (roots ps m) c
unfolding roots
roots-complete ps zero c h e = absurd (omega arith)
roots-complete ps (suc m) c h e = pick (ℕ_discrete c m) (λ q. roots-complete ps m c q e)
  where
    pick : Dec (c ≡ m) → (c < m → Has (roots ps m) c) → Has (roots ps m ++ next_root ps m) c
    pick (yes f) before = has_right (roots ps m) (next_root ps m) (rw (eq-eqb (get_or ps m 0) no_node (rw f at e)) (0, omega arith, sym f))
    pick (no f) before = has_left (roots ps m) (next_root ps m) (before (omega arith))
