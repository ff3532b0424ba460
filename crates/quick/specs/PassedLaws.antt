-- What a tree that passes the test has. In order: a tree's lengths (`sizes-lent`); what the test says of each node (`strict-passed`); and,
-- since the pairs name as many different children as there are nodes but the root, that every other node is a child and younger than its
-- parent (`passed-below`, `passed-younger`). Assumes nothing.
use Rattle.std.specs.Prelude.{◌≡◌, ◌≢◌, ◌⊎◌, Bool, not, ◌&&◌, List, [], ◌∷◌, ℕ, suc, ◌+◌, ◌-◌, ◌/◌, ◌%◌, ◌≤◌, ◌<◌, T, ltb, eqb, length, get_or, drop, Float}
use Rattle.std.proofs.Common.{sym, ap, ◌∙◌, subst, inl, inr, arith, ltb→lt, eqb→eq}
use Rattle.std.proofs.Math.Decide.{ℕ_discrete}
use Rattle.std.proofs.Math.ListN.{length-drop}
use Rattle.std.proofs.Math.Seq.{get_or-drop}
use Rattle.std.specs.Float.Ieee.{lt, le}
use Rattle.std.specs.Float.Ieee.Bits.{is_true}
use Rattle.std.specs.Float.Ieee.Fits.{and_l, and_r}
use Rattle.real.specs.Real as Real
use Rattle.tree.specs.Tree.{Tree, no_node, tips_of, first, second, parent, height}
use Rattle.tree.specs.New.{size_fits}
use Rattle.tree.specs.Given.{sizes_fit, tree_of}
use Rattle.tree.specs.Valid.{Sized, Inner, Below, Strict}
use Rattle.tree.specs.SizeLaws.{fit_of}
use Rattle.tree.specs.Bounded.{every}
use Rattle.tree.specs.BoundedLaws.{every-at}
use Rattle.tree.specs.ListLaws.{Has, has_one, has-cases, Distinct, distinct-one, distinct_append, full}
use Rattle.tree.specs.ScanLaws.{neqb→ne}
use Rattle.quick.specs.Quick.{is_mark, is_age, family, family_at, strict}

-- ---- what the test says

-- slices whose lengths fit have those of a tree, whatever its root
pub sizes-lent : (pairs ps : List ℕ) (hs : List Float) (r : ℕ) → T (sizes_fit (length hs) (length pairs) (length ps) (length hs))
    → Sized (length hs) (tree_of pairs ps hs r)
unfolding sizes_fit
sizes-lent pairs ps hs r h =
    let n = length hs in
    let fits = size_fits n pairs hs in
    let many = eqb (length ps) n in
    let f = fit_of n pairs hs (and_l fits many h) in
    record { some = f.some; few = f.few; odd = f.odd; pairs = f.twice; parents = eqb→eq (length ps) n (and_r fits many h); heights = f.heights }

-- k and its children
pub record Family (n : ℕ) (t : Tree) (k : ℕ) : Type 0 where
  pub inner : Inner n t k
  pub first_younger : T (lt (height t (first t k)) (height t k))
  pub second_younger : T (lt (height t (second t k)) (height t k))

-- what the test says
pub record Passed (n : ℕ) (t : Tree) : Type 0 where
  pub root_node : t.root < n
  pub root_parent : parent t t.root ≡ no_node
  pub root_low : T (lt (height t t.root) Real.infinity)
  pub mark : (i : ℕ) → i < n + 1 → get_or t.pairs i 0 ≡ no_node
  pub tip_age : (k : ℕ) → k + k ≤ n → T (le Real.zero (height t k))
  pub family_of : (k : ℕ) → k < n → n < k + k → Family n t k

-- where all pass, each does
every-T : (test : ℕ → Bool) (m : ℕ) → T (every test m) → (i : ℕ) → i < m → T (test i)
every-T test m h i I = subst T (sym (every-at test m (is_true (every test m) h) i I)) tt

family-passed : (n : ℕ) (t : Tree) (k : ℕ) → T (family n t.pairs t.parents t.heights k) → Family n t k
unfolding family parent height
family-passed n t k h =
    let a = first t k in
    let b = second t k in
    let p = ltb a n in
    let q = ltb b n in
    let d = not (eqb a b) in
    let e = eqb (parent t a) k in
    let f = eqb (parent t b) k in
    let x = lt (height t a) (height t k) in
    let y = lt (height t b) (height t k) in
    let h6 = and_l (p && q && d && e && f && x) y h in
    let h5 = and_l (p && q && d && e && f) x h6 in
    let h4 = and_l (p && q && d && e) f h5 in
    let h3 = and_l (p && q && d) e h4 in
    let h2 = and_l (p && q) d h3 in
    record {
      inner = record {
        first_node = ltb→lt a n (and_l p q h2);
        second_node = ltb→lt b n (and_r p q h2);
        two = neqb→ne a b (and_r (p && q) d h3);
        first_parent = eqb→eq (parent t a) k (and_r (p && q && d) e h4);
        second_parent = eqb→eq (parent t b) k (and_r (p && q && d && e) f h5);
      };
      first_younger = and_r (p && q && d && e && f) x h6;
      second_younger = and_r (p && q && d && e && f && x) y h;
    }

pub strict-passed : (n : ℕ) (t : Tree) → n % 2 ≡ 1 → T (strict n t) → Passed n t
unfolding strict height
strict-passed n t odd h =
    let r = ltb t.root n in
    let p = eqb (parent t t.root) no_node in
    let l = lt (height t t.root) Real.infinity in
    let marks = every (is_mark t.pairs) (n + 1) in
    let ages = every (is_age t.heights) (tips_of n) in
    let families = every (family_at n t.pairs t.parents t.heights) (n / 2) in
    let h4 = and_l (r && p && l && marks && ages) families h in
    let h3 = and_l (r && p && l && marks) ages h4 in
    let h2 = and_l (r && p && l) marks h3 in
    let h1 = and_l (r && p) l h2 in
    record {
      root_node = ltb→lt t.root n (and_l r p h1);
      root_parent = eqb→eq (parent t t.root) no_node (and_r r p h1);
      root_low = and_r (r && p) l h2;
      mark = λ i I. eqb→eq (get_or t.pairs i 0) no_node (every-T (is_mark t.pairs) (n + 1) (and_r (r && p && l) marks h3) i I);
      tip_age = λ k K. every-T (is_age t.heights) (tips_of n) (and_r (r && p && l && marks) ages h4) k (omega arith);
      family_of = λ k K i.
          let j = k - tips_of n in
          let z : tips_of n + j ≡ k = omega arith in
          let g = every-T (family_at n t.pairs t.parents t.heights) (n / 2) (and_r (r && p && l && marks && ages) families h) j (omega arith) in
          family-passed n t k (rw z at g);
    }

-- ---- every node but the root is a child

-- a place of the pairs is a first child's or a second child's
abbrev pub Halves : ℕ → Type 0
Halves x = (x ≡ x / 2 + x / 2) ⊎ (x ≡ suc (x / 2 + x / 2))

pub halves : (x : ℕ) → Halves x
halves x = elim (ℕ_discrete x (x / 2 + x / 2)) [ yes e ↦ inl e | no d ↦ inr (omega arith) ]

module _ (n : ℕ) (t : Tree) (z : Sized n t) (p : Passed n t) where
  -- the number at place x of the pairs: a child of node x / 2
  abbrev child : ℕ → ℕ
  child x = get_or t.pairs x 0

  -- the child at place x
  record Slot (x : ℕ) : Type 0 where
    two : first t (x / 2) ≢ second t (x / 2)
    node : child x < n
    above : parent t (child x) ≡ x / 2
    side : (child x ≡ first t (x / 2)) ⊎ (child x ≡ second t (x / 2))

  slot : (x : ℕ) → n < x → x < n + n → Slot x
  slot x A B = pick (halves x)
    where
      f : Inner n t (x / 2)
      f = let odd = z.odd in (p.family_of (x / 2) (omega arith) (omega arith)).inner

      pick : Halves x → Slot x
      pick (inl e) =
          let g : child x ≡ first t (x / 2) = ap child e in
          record { two = f.two; node = rw g f.first_node; above = ap (parent t) g ∙ f.first_parent; side = inl g }
      pick (inr e) =
          let g : child x ≡ second t (x / 2) = ap child e in
          record { two = f.two; node = rw g f.second_node; above = ap (parent t) g ∙ f.second_parent; side = inr g }

  -- the children that the pairs name, after the tips' marks
  slots : List ℕ
  slots = drop (suc n) t.pairs

  slots-long : suc (length slots) ≡ n
  unfolding slots
  slots-long = let some = z.some in omega (arith, length-drop (suc n) t.pairs, z.pairs)

  slot_at : (a : ℕ) → a < length slots → Slot (suc n + a)
  slot_at a A = let l = slots-long in slot (suc n + a) (omega arith) (omega arith)

  slots-are : (a : ℕ) → get_or slots a 0 ≡ child (suc n + a)
  unfolding slots
  slots-are a = get_or-drop (suc n) t.pairs a 0

  -- no child is named twice
  slots-distinct : Distinct slots
  slots-distinct a b A B e = pick (halves x) (halves y)
    where
      x : ℕ
      x = suc n + a

      y : ℕ
      y = suc n + b

      g : child x ≡ child y
      g = sym (slots-are a) ∙ e ∙ slots-are b

      same : x / 2 ≡ y / 2
      same = sym (slot_at a A).above ∙ ap (parent t) g ∙ (slot_at b B).above

      apart : (u v : ℕ) → child u ≡ child v → u ≡ x / 2 + x / 2 → v ≡ suc (x / 2 + x / 2) → ⊥
      apart u v q i j = (slot_at a A).two (sym (ap child i) ∙ q ∙ ap child j)

      pick : Halves x → Halves y → a ≡ b
      pick (inl i) (inl j) = omega (arith, same)
      pick (inl i) (inr j) = absurd (apart x y g i (omega (arith, same)))
      pick (inr i) (inl j) = absurd (apart y x (sym g) (omega (arith, same)) i)
      pick (inr i) (inr j) = omega (arith, same)

  -- a node in the list of the children is below its parent
  slot-below : (c : ℕ) → Has slots c → Below n t c
  slot-below c (a, A, e) =
      let s = slot_at a A in
      let g : child (suc n + a) ≡ c = sym (slots-are a) ∙ e in
      let up : parent t c ≡ (suc n + a) / 2 = sym (ap (parent t) g) ∙ s.above in
      let l = slots-long in
      let odd = z.odd in
      record { parent_node = rw up (omega arith); parent_inner = rw up (omega arith); side = rw (up, ← g) s.side }

  -- every node but the root is below its parent
  pub passed-below : (c : ℕ) → c < n → c ≢ t.root → Below n t c
  passed-below c C d = pick (has-cases (t.root ∷ []) slots (full n (t.root ∷ slots) slots-long distinct small c C))
    where
      not_root : (b : ℕ) → Has slots b → b ≢ t.root
      not_root b h e =
          let x = (slot-below b h).parent_node in
          let y : parent t b ≡ no_node = ap (parent t) e ∙ p.root_parent in
          let few = z.few in
          omega arith

      distinct : Distinct (t.root ∷ slots)
      distinct = distinct_append (t.root ∷ []) slots (distinct-one t.root) slots-distinct (λ b u v. not_root b v (has_one u))

      below : (b : ℕ) → Has (t.root ∷ []) b ⊎ Has slots b → b < n
      below b (inl u) = rw (has_one u) p.root_node
      below b (inr (a, A, e)) = rw (← e, slots-are a) (slot_at a A).node

      small : (b : ℕ) → Has (t.root ∷ slots) b → b < n
      small b h = below b (has-cases (t.root ∷ []) slots h)

      pick : Has (t.root ∷ []) c ⊎ Has slots c → Below n t c
      pick (inl u) = absurd (d (has_one u))
      pick (inr u) = slot-below c u

  -- every node but the root is younger than its parent
  pub passed-younger : Strict n t
  passed-younger c C d = let b = passed-below c C d in pick (p.family_of (parent t c) b.parent_node b.parent_inner) b.side
    where
      pick : Family n t (parent t c) → (c ≡ first t (parent t c)) ⊎ (c ≡ second t (parent t c)) → T (lt (height t c) (height t (parent t c)))
      pick f (inl e) = subst (λ (k : ℕ). T (lt (height t k) (height t (parent t c)))) (sym e) f.first_younger
      pick f (inr e) = subst (λ (k : ℕ). T (lt (height t k) (height t (parent t c)))) (sym e) f.second_younger
