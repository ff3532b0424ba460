-- `Tree::new` accepts exactly the valid trees. In order: sizes, shape and heights that pass make a valid tree,
-- and a valid tree passes (`passed-valid`, `valid-sizes`, `valid-dates`); what `Tree::new` made is of what it was given (`new-given`) and valid
-- (`new-valid`), so an accepted tree is valid (`accepted-valid`); a valid tree is accepted (`valid-accepted`); and pairs and heights are those of
-- one valid tree at most (`only-tree`). Assumes nothing.
use Rattle.std.specs.Prelude.{◌≡◌, refl, Bool, true, false, cond, List, ℕ, ◌+◌, T, length, Float, Result, Ok, Err}
use Rattle.std.proofs.Common.{sym, ap, ◌∙◌, arith, le-leb, eq-eqb}
use Rattle.answer.specs.declared.Refusal.{Refusal}
use Rattle.answer.specs.declared.Refusal.TheVariants.{Size}
use Rattle.tree.specs.Tree.{Tree, nodes_of}
use Rattle.tree.specs.New.{size_fits, Shaping, unshaped, shaping, shape_of, dates_of, refused, made, dated, new_from, new_tree, Accepted}
use Rattle.tree.specs.Valid.{Valid}
use Rattle.tree.specs.SizeLaws.{fit_of}
use Rattle.accepted.specs.WayLaws.{valid-nodes}
use Rattle.accepted.specs.DatesLaws.{fine-dated, dated-fine}
use Rattle.accepted.specs.ShapeLaws.{shape-scanned, shape-linked, shape-joined, valid-shape}

-- ---- the tests together

-- a tree with fitting sizes, the parents and the root that its pairs give, and no height refused, is valid
pub passed-valid : (n : ℕ) (t : Tree) → T (size_fits n t.pairs t.heights) → shape_of n t.pairs ≡ shaping t.parents t.root
    → dates_of t ≡ (Ok tt) → Valid n t
passed-valid n t fits shape fine =
    let z = fit_of n t.pairs t.heights fits in
    let s = shape-scanned n t.pairs t.parents t.root z.few shape in
    let l = shape-linked n t z.few shape in
    record {
      sized = record { some = z.some; few = z.few; odd = z.odd; pairs = z.twice; parents = s.nodes; heights = z.heights };
      tip_first = λ k i. s.tip_first k (omega (arith, z.some)) i;
      tip_second = λ k i. s.tip_second k (omega (arith, z.some)) i;
      inner = l.inner;
      root_node = l.root_node;
      root_parent = l.root_parent;
      below = l.below;
      joined = shape-joined n t z.few shape;
      dated = fine-dated n t z.heights fine;
    }

module _ (n : ℕ) (t : Tree) (v : Valid n t) where
  -- the sizes of a valid tree fit
  pub valid-sizes : size_fits n t.pairs t.heights ≡ true
  valid-sizes =
      let z = v.sized in
      let pairs = eq-eqb (length t.pairs) (n + n) z.pairs in
      let heights = eq-eqb (length t.heights) n z.heights in
      rw (le-leb 3 n z.some, le-leb n 4095 z.few, z.odd, pairs, heights)

  -- no height of a valid tree is refused
  pub valid-dates : dates_of t ≡ (Ok tt)
  valid-dates = dated-fine n t v.sized.heights v.dated

-- ---- what was made is valid

-- what `Tree::new` was given and tested, of the tree t that it made
record Made (pairs : List ℕ) (heights : List Float) (t : Tree) : Type 0 where
  same_pairs : t.pairs ≡ pairs
  same_heights : t.heights ≡ heights
  fits : T (size_fits (nodes_of pairs) pairs heights)
  shape : shape_of (nodes_of pairs) pairs ≡ shaping t.parents t.root
  fine : dates_of t ≡ (Ok tt)

no-refusal : {why : Refusal} {t : Tree} → refused why ≡ made t → ⊥
no-refusal e = let z : ◌≡◌ {A = ℕ} 0 1 = cc in omega arith

made_of : (pairs : List ℕ) (heights : List Float) (t : Tree) → new_tree pairs heights ≡ made t → Made pairs heights t
unfolding new_tree new_from dated
made_of pairs heights t e = by-sizes (size_fits n pairs heights) (λ h. h) e
  where
    n : ℕ
    n = nodes_of pairs

    with : List ℕ → ℕ → Tree
    with ps r = record { pairs = pairs; parents = ps; heights = heights; root = r }

    by-dates : T (size_fits n pairs heights) → (ps : List ℕ) (r : ℕ) → shape_of n pairs ≡ shaping ps r
        → (x : Result (Unit {0}) Refusal) → dates_of (with ps r) ≡ x → dated (with ps r) x ≡ made t → Made pairs heights t
    by-dates h ps r s (Err why) f e = absurd (no-refusal e)
    by-dates h ps r s (Ok tt) f e =
        let q : with ps r ≡ t = cc in record {
          same_pairs = sym (λ i. (q i).pairs);
          same_heights = sym (λ i. (q i).heights);
          fits = h;
          shape = s ∙ (λ i. shaping (q i).parents (q i).root);
          fine = sym (ap dates_of q) ∙ f;
        }

    by_shape : T (size_fits n pairs heights) → (s : Shaping) → shape_of n pairs ≡ s → new_from pairs heights s ≡ made t → Made pairs heights t
    by_shape h (unshaped why) f e = absurd (no-refusal e)
    by_shape h (shaping ps r) f e = by-dates h ps r f (dates_of (with ps r)) refl e

    by-sizes : (b : Bool) → (T b → T (size_fits n pairs heights)) → cond b (new_from pairs heights (shape_of n pairs)) (refused (Size n)) ≡ made t
        → Made pairs heights t
    by-sizes true h e = by_shape (h tt) (shape_of n pairs) refl e
    by-sizes false h e = absurd (no-refusal e)

module _ (pairs : List ℕ) (heights : List Float) (t : Tree) (e : new_tree pairs heights ≡ made t) where
  -- the tree that `Tree::new` made has the pairs and heights that it was given
  pub new-given : (t.pairs ≡ pairs) × (t.heights ≡ heights)
  new-given = let m = made_of pairs heights t e in (m.same_pairs, m.same_heights)

  -- the tree that `Tree::new` made is valid
  pub new-valid : Valid (nodes_of pairs) t
  new-valid =
      let m = made_of pairs heights t e in
      let shape = ap (shape_of (nodes_of pairs)) m.same_pairs ∙ m.shape in
      passed-valid (nodes_of pairs) t (rw (m.same_pairs, m.same_heights) m.fits) shape m.fine

-- an accepted tree is valid
pub accepted-valid : (t : Tree) → Accepted t → Valid (nodes_of t.pairs) t
accepted-valid t e = new-valid t.pairs t.heights t e

-- ---- what is valid is accepted

-- a valid tree is accepted
pub valid-accepted : (n : ℕ) (t : Tree) → Valid n t → Accepted t
unfolding new_tree new_from dated
valid-accepted n t v = rw (valid-nodes v, valid-sizes n t v, valid-shape n t v, valid-dates n t v)

-- two valid trees with the same pairs and heights are equal
pub only-tree : (n m : ℕ) (t u : Tree) → Valid n t → Valid m u → t.pairs ≡ u.pairs → t.heights ≡ u.heights → t ≡ u
only-tree n m t u v w p h =
    let a : new_tree t.pairs t.heights ≡ made t = valid-accepted n t v in
    let b : new_tree u.pairs u.heights ≡ made u = valid-accepted m u w in
    let e : made t ≡ made u = sym a ∙ (λ i. new_tree (p i) (h i)) ∙ b in
    cc
