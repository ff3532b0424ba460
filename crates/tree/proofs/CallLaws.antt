-- The ways through the code that puts a shape together (`shape_laws`), and through `new` and `validate`: the place for the parents, which is part of a
-- list of marks (`place-fits` and on), a given tree that is judged, one that is made, and lengths that do not fit. Assumes nothing.
use mathlib.Core.Path.{◌≡◌, refl, sym, ap, ◌∙◌, subst}
use mathlib.Core.Bool.{Bool, true, false, not, ◌&&◌, cond}
use mathlib.Core.List.{List, [], ◌∷◌}
use Prim.Native.Nat.{ℕ, ◌+◌, ◌-◌, ◌/◌, ◌≤◌, ◌<◌}
use native.Mathlib.Omega.{arith}
use lib.Dec.{T, eqb, eqb→eq}
use lib.ListN.{length, take, replicate}
use lib.Seq.{length-take-le}
use lib.Ieee.{Float}
use lib.Ieee.Fits.{and_l, and_r}
use lib.Ieee.Bits.{is_true}
use borrow.Author.Tests.{eq-eqb, ne_eqb}
use Rattle.answer.specs.declared.Refusal.{Refusal}
use Rattle.answer.specs.declared.Refusal.TheVariants.{Size, Disconnected}
use Rattle.tree.specs.Tree.{Tree, no_node, subtree, nodes_of, first_in, second_in}
use Rattle.tree.proofs.SliceLaws.{agree-same, agree-not}
use lib.Pointwise.{pointwise}
use Rattle.std.specs.Cmp.Lexicographic.{same_text, other_text}
use Rattle.std.proofs.lemmas.List.{length-replicate, take-replicate}
use Rattle.tree.specs.New.{scan, roots, only_root, root_of, Shaping, unshaped, shaping, joined, scanned, shape_of, size_fits, dates_of, judged, validated, New, refused, dated, new_from, new_tree, new_answered, new_call}
use Rattle.tree.specs.Given.{scan_of, shaping_of, tree_of, new_given, sizes_fit, Scans, Inside}
use Rattle.tree.specs.SizeLaws.{Fit, fit_of}
use Rattle.tree.specs.ScanLaws.{scan-inv, roots-sound}
use Rattle.std.specs.Prelude.{Result, Ok, Err}

-- ---- a shape

only-is : (l : List ℕ) (k : ℕ) → only_root l ≡ Ok k → l ≡ k ∷ []
only-is [] k e = absurd cc
only-is (r ∷ []) k e = let z : r ≡ k = cc in rw z
only-is (r ∷ q ∷ l) k e = absurd cc

module _ (pairs ps₀ ps : List ℕ) (r : Result (Unit {0}) Refusal) (e : scan_of r ps ≡ scan (length ps₀) pairs (length ps₀)) where
  pub shape-stopped : (why : Refusal) → r ≡ Err why → unshaped why ≡ shape_of (length ps₀) pairs
  unfolding scanned
  shape-stopped why y = rw (← e, y)

  module _ (y : r ≡ Ok tt) (x : Result ℕ Refusal) (f : x ≡ root_of ps) where
    pub shape-rootless : (why : Refusal) → x ≡ Err why → unshaped why ≡ shape_of (length ps₀) pairs
    unfolding scanned joined
    shape-rootless why z = rw (← e, y, ← f, z)

    module _ (k : ℕ) (z : x ≡ Ok k) (l : length ps ≡ length ps₀) where
      pub shape-inside : Scans pairs ps₀ → Inside (length ps) pairs k
      shape-inside s =
          let n = length ps₀ in
          let v = scan-inv n s.few pairs n (omega arith) ps (sym e ∙ ap (λ (q : Result (Unit {0}) Refusal). scan_of q ps) y) in
          let h = roots-sound ps (length ps) k (rw (only-is (roots ps (length ps)) k (sym f ∙ z)) (0, omega arith, refl)) in
          let few = s.few in
          let twice = s.twice in
          record {
            few = omega arith;
            twice = omega arith;
            node = h.0;
            one = λ j a b. subst (λ (m : ℕ). first_in pairs j < m) (sym l) (v.children j (omega arith) (omega arith)).first_node;
            two = λ j a b. subst (λ (m : ℕ). second_in pairs j < m) (sym l) (v.children j (omega arith) (omega arith)).second_node;
          }

      module _ (w : ℕ) (g : w ≡ length ps + 1 - length (subtree (length ps) (length ps) pairs k)) where
        pub shape-parts : (w ≡ 1 → ⊥) → unshaped Disconnected ≡ shape_of (length ps₀) pairs
        unfolding scanned joined
        shape-parts d = let m : length (subtree (length ps) (length ps) pairs k) ≡ length ps → ⊥ = λ q. d (omega arith) in rw (← e, y, ← f, z, ← l, ne_eqb _ _ m)

        pub shape-whole : w ≡ 1 → shaping ps k ≡ shape_of (length ps₀) pairs
        unfolding scanned joined
        shape-whole d = let m : length (subtree (length ps) (length ps) pairs k) ≡ length ps = omega arith in rw (← e, y, ← f, z, ← l, eq-eqb _ _ m)

pub ruleset shape_laws = (shape-stopped, shape-rootless, shape-inside, shape-parts, shape-whole)

-- ---- the place for the parents: as many marks as nodes

module _ (pairs ps : List ℕ) (hs : List Float) (b : Bool) (e : b ≡ sizes_fit (length pairs / 2) (length pairs) (length ps) (length hs)) (y : b ≡ true) where
  all_fit : T (size_fits (length pairs / 2) pairs hs && eqb (length ps) (length pairs / 2))
  unfolding sizes_fit
  all_fit = subst T (sym y ∙ e) tt

  fit : T (size_fits (length pairs / 2) pairs hs)
  fit = and_l (size_fits (length pairs / 2) pairs hs) (eqb (length ps) (length pairs / 2)) all_fit

  pub parents-fit : length ps ≡ length pairs / 2
  parents-fit = eqb→eq (length ps) (length pairs / 2) (and_r (size_fits (length pairs / 2) pairs hs) (eqb (length ps) (length pairs / 2)) all_fit)

  fits : Fit (length pairs / 2) pairs hs
  fits = fit_of (length pairs / 2) pairs hs fit

  pub place-fits : length pairs / 2 ≤ 4095
  place-fits = fits.few

  module _ (m : ℕ) (h : 4095 ≤ m) where
    pub place-long : length pairs / 2 ≡ length (take (length pairs / 2) (replicate m no_node))
    place-long = let f = place-fits in let g = length-replicate m no_node in sym (length-take-le _ _ (omega arith))

    pub place-scans : Scans pairs (take (length pairs / 2) (replicate m no_node))
    place-scans =
        let few = place-fits in
        let long = place-long in
        let twice = fits.twice in
        record {
          few = omega arith;
          twice = omega arith;
          blank = take-replicate (length pairs / 2) m no_node (omega arith) ∙ ap (λ (k : ℕ). replicate k no_node) long;
        }

    -- the pairs' shape, x with the parents qs
    module _ (x : Result ℕ Refusal) (qs : List ℕ) (s : shaping_of x qs ≡ shape_of (length (take (length pairs / 2) (replicate m no_node))) pairs) where
      shaped : shaping_of x qs ≡ shape_of (length pairs / 2) pairs
      shaped = s ∙ ap (λ (n : ℕ). shape_of n pairs) (sym place-long)

      -- a given tree is judged
      module _ (root : ℕ) (t : Tree) (v : tree_of pairs ps hs root ≡ t) where
        judged-is : judged (tree_of pairs ps hs root) (shaping_of x qs) ≡ validated t
        unfolding validated sizes_fit
        judged-is = ap (judged (tree_of pairs ps hs root)) shaped ∙ rw (← v, ← e, y)

        pub validate-unshaped : (why : Refusal) → x ≡ Err why → Err why ≡ validated t
        unfolding judged
        validate-unshaped why z = rw (← judged-is, z)

        module _ (k : ℕ) (z : x ≡ Ok k) where
          pub validate-root : (k ≡ root → ⊥) → Err Disconnected ≡ validated t
          unfolding judged
          validate-root d = rw (← judged-is, z, ne_eqb _ _ d)

          -- other is whether its parents are not those that are given
          module _ (d : k ≡ root) (other : Bool) (o : other ≡ not (pointwise eqb qs ps)) where
            pub validate-parents : other ≡ true → length qs ≡ length ps → Err Disconnected ≡ validated t
            unfolding judged
            validate-parents p l = rw (← judged-is, z, eq-eqb _ _ d, agree-not qs ps (other_text qs ps (grind arith)) l)

            pub validate-dates : other ≡ false → dates_of t ≡ validated t
            unfolding judged
            validate-dates p = rw (← judged-is, z, eq-eqb _ _ d, same_text qs ps (grind arith), agree-same ps (length ps), ← v)

      -- a tree is made
      made-is : new_answered ps (new_from pairs hs (shaping_of x qs)) ≡ new_call pairs hs ps
      unfolding new_call new_tree
      made-is = ap (λ (g : Shaping). new_answered ps (new_from pairs hs g)) shaped ∙ rw (is_true (size_fits (length pairs / 2) pairs hs) fit, eq-eqb _ _ parents-fit)

      pub new-unshaped : (why : Refusal) → x ≡ Err why → new_given (Err why) ps ≡ new_call pairs hs ps
      unfolding new_from
      new-unshaped why z = rw (← made-is, z)

      module _ (k : ℕ) (z : x ≡ Ok k) (v : Result (Unit {0}) Refusal) (g : v ≡ dates_of (tree_of pairs qs hs k)) where
        pub new-misdated : (why : Refusal) → v ≡ Err why → new_given (Err why) ps ≡ new_call pairs hs ps
        unfolding new_from dated
        new-misdated why w = rw (← made-is, z, ← g, w)

        pub new-made : v ≡ Ok tt → new_given (Ok k) qs ≡ new_call pairs hs ps
        unfolding new_from dated
        new-made w = rw (← made-is, z, ← g, w)

-- ---- other lengths

no_size : (fits long : Bool) (x y : New) → (fits && long) ≡ false → cond long (cond fits x y) y ≡ y
no_size true true x y e = absurd cc
no_size true false x y e = refl
no_size false true x y e = refl
no_size false false x y e = refl

module _ (pairs ps : List ℕ) (hs : List Float) (b : Bool) (e : b ≡ sizes_fit (length pairs / 2) (length pairs) (length ps) (length hs)) (y : b ≡ false) where
  pub new_size : new_given (Err (Size (length pairs / 2))) ps ≡ new_call pairs hs ps
  unfolding new_call new_tree sizes_fit
  new_size =
      let n = nodes_of pairs in
      sym (ap (new_answered ps) (no_size (size_fits n pairs hs) (eqb (length ps) n) (new_from pairs hs (shape_of n pairs)) (refused (Size n)) (sym e ∙ y)))

  pub validate_size : (root : ℕ) (t : Tree) → tree_of pairs ps hs root ≡ t → Err (Size (length pairs / 2)) ≡ validated t
  unfolding validated sizes_fit
  validate_size root t v = rw (← v, ← e, y)
