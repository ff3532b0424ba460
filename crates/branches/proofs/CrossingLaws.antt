-- The ways through the code that meets a branch (`meet_laws`), that looks for branches (`crossing_laws`), and that counts them or
-- picks one (`count_laws`), with what the code asks of its numbers. Assumes nothing.
use mathlib.Core.Path.{◌≡◌, sym, ap, ◌∙◌}
use mathlib.Core.Bool.{Bool, true, false}
use mathlib.Core.List.{List, []}
use Prim.Native.Nat.{ℕ, suc, ◌+◌, ◌-◌, ◌*◌, ◌/◌, ◌%◌, ◌≤◌, ◌<◌}
use native.Mathlib.Omega.{arith}
use borrow.Author.Tests.{eq-eqb, ne_eqb}
use lib.ListN.{get_or}
use lib.Ieee.{Float, lt, nan}
use mir.Val.{Fits}
use mir.Syntax.{w16}
use Rattle.tree.specs.Tree.{nodes_of, inner, first_in, second_in, height}
use Rattle.tree.specs.Given.{tree_of}
use Rattle.branches.specs.Walk.{Walk, outset, meet, walk, counted, picked, unpacked, Small, Ready, Holds}
use Rattle.branches.specs.WalkLaws.{look, walk-done, walk-met, walk-inner, walk-tip}

-- ---- a branch

module _ (index k w : ℕ) (g : Ready 65534 k w) where
  pub meet_one : w / 65536 % 65536 ≡ index → Holds (meet index k (unpacked w)) (k * 4294967296)
  meet_one e =
      let h = g.node in
      let a : k * 4294967296 / 4294967296 ≡ k = omega arith in
      let b : k * 4294967296 / 65536 % 65536 ≡ 0 = omega arith in
      let c : k * 4294967296 % 65536 ≡ 0 = omega arith in
      rw (eq-eqb (w / 65536 % 65536) index e)
      (record { same = λ i. record { found = a i; met = b i; left = c i }; small = record { found = omega arith; sum = omega arith } })

  pub meet-more : (w / 65536 % 65536 ≡ index → ⊥) → Holds (meet index k (unpacked w)) (w + 65536)
  meet-more e =
      let f = g.small.found in
      let s = g.small.sum in
      let a : (w + 65536) / 4294967296 ≡ w / 4294967296 = omega arith in
      let b : (w + 65536) / 65536 % 65536 ≡ suc (w / 65536 % 65536) = omega arith in
      let c : (w + 65536) % 65536 ≡ w % 65536 = omega arith in
      rw (ne_eqb (w / 65536 % 65536) index e)
      (record { same = λ i. record { found = a i; met = b i; left = c i }; small = record { found = omega arith; sum = omega arith } })

pub ruleset meet_laws = (meet_one, meet-more)

-- ---- those under a node

down-suc : (d : ℕ) → (d ≡ 0 → ⊥) → d ≡ suc (d - 1)
down-suc d h = omega arith

-- a node of the pairs is of 16 bits
child : (pairs : List ℕ) → ((j : ℕ) → Fits w16 (get_or pairs j 0)) → (c i : ℕ) → c ≡ get_or pairs i 0 → c ≤ 65535
child pairs h c i e = let p : Fits w16 (get_or pairs i 0) = h i in rw e (omega arith)

-- a node is looked at
module _ (w : ℕ) (L : w % 65536 ≡ 0 → ⊥) where
  found-same : (w - 1) / 4294967296 ≡ w / 4294967296
  found-same = omega arith

  met-same : (w - 1) / 65536 % 65536 ≡ w / 65536 % 65536
  met-same = omega arith

  left_less : (w - 1) % 65536 ≡ w % 65536 - 1
  left_less = omega arith

  looks : unpacked (w - 1) ≡ look (unpacked w)
  looks = λ i. record { found = found-same i; met = met-same i; left = left_less i }

  -- one more may be met then
  less : Small 65535 w → Small 65534 (w - 1)
  less s = let m = s.sum in record { found = rw found-same s.found; sum = rw (met-same, left_less) (omega arith) }

  small : Small 65535 w → Small 65535 (w - 1)
  small s = let m = (less s).sum in record { found = (less s).found; sum = omega arith }

  module _ (k : ℕ) (g : Ready 65535 k w) where
    pub ready-meet : Ready 65534 k (w - 1)
    ready-meet = record { node = g.node; small = less g.small }

    pub ready-first : (pairs : List ℕ) → ((j : ℕ) → Fits w16 (get_or pairs j 0)) → (c i : ℕ) → c ≡ get_or pairs i 0 → Ready 65535 c (w - 1)
    ready-first pairs h c i e = record { node = child pairs h c i e; small = small g.small }

pub ready-second : (pairs : List ℕ) → ((j : ℕ) → Fits w16 (get_or pairs j 0)) → (c i : ℕ) → c ≡ get_or pairs i 0
    → (u : Walk) (w : ℕ) → Holds u w → Ready 65535 c w
ready-second pairs h c i e u w s = record { node = child pairs h c i e; small = s.small }

module _ (pairs : List ℕ) (hs : List Float) (x : Float) (index k w d : ℕ) (g : Ready 65535 k w) where
  abbrev Walked : ℕ → Type 0
  Walked r = Holds (walk d (nodes_of pairs) (tree_of pairs [] hs 0) x index k (unpacked w)) r

  pub crossing-spent : w % 65536 ≡ 0 → Walked w
  crossing-spent h = record { same = sym (walk-done d _ _ x index k (unpacked w) h); small = g.small }

  module _ (L : w % 65536 ≡ 0 → ⊥) where
    pub crossing-flat : d ≡ 0 → Walked w
    unfolding walk
    crossing-flat e = record { same = rw e; small = g.small }

    module _ (D : d ≡ 0 → ⊥) (h : Float) (e : h ≡ get_or hs k nan) where
      height-is : (q : Bool) → lt h x ≡ q → lt (height (tree_of pairs [] hs 0) k) x ≡ q
      unfolding height
      height-is q y = rw (← e) y

      pub crossing-met : lt h x ≡ true → (r : ℕ) → Holds (meet index k (unpacked (w - 1))) r → Walked r
      crossing-met y r z = rw (down-suc d D)
          (record { same = z.same ∙ ap (meet index k) (looks w L) ∙ sym (walk-met _ _ x index k (d - 1) (unpacked w) L (height-is true y)); small = z.small })

      module _ (y : lt h x ≡ false) (i : Bool) (f : i ≡ inner (nodes_of pairs) k) where
        pub crossing-tip : i ≡ false → Walked (w - 1)
        crossing-tip z = rw (down-suc d D)
            (record { same = looks w L ∙ sym (walk-tip _ _ x index k (d - 1) (unpacked w) L (height-is false y) (sym f ∙ z)); small = small w L g.small })

        pub crossing-both : i ≡ true → (a b : ℕ) → a ≡ first_in pairs k → b ≡ second_in pairs k → (u r : ℕ)
            → Holds (walk (d - 1) (nodes_of pairs) (tree_of pairs [] hs 0) x index a (unpacked (w - 1))) u
            → Holds (walk (d - 1) (nodes_of pairs) (tree_of pairs [] hs 0) x index b (unpacked u)) r → Walked r
        crossing-both z a b A B u r U R = rw (down-suc d D)
            (record {
              same = R.same ∙ (rw (U.same, looks w L, A, B)) ∙ sym (walk-inner _ _ x index k (d - 1) (unpacked w) L (height-is false y) (sym f ∙ z));
              small = R.small;
            })

pub ruleset crossing_laws = (ready-meet, ready-first, ready-second, crossing-spent, crossing-flat, crossing-met, crossing-tip, crossing-both)

-- ---- all of them, or one

-- a walk sets out: the number is 65535 times 2^32, and n
module _ (n : ℕ) (N : n ≤ 65535) where
  pub sets-out : unpacked (281470681743360 + n) ≡ outset n
  sets-out =
      let a : (281470681743360 + n) / 4294967296 ≡ 65535 = omega arith in
      let b : (281470681743360 + n) / 65536 % 65536 ≡ 0 = omega arith in
      let c : (281470681743360 + n) % 65536 ≡ n = omega arith in
      λ i. record { found = a i; met = b i; left = c i }

  pub ready-outset : (k : ℕ) → k < n → Ready 65535 k (281470681743360 + n)
  ready-outset k K = record { node = omega arith; small = record { found = omega arith; sum = omega arith } }

module _ (pairs : List ℕ) (hs : List Float) (x : Float) (k w : ℕ) (N : nodes_of pairs ≤ 65535) where
  pub walked-is : (index : ℕ) → Holds (walk (nodes_of pairs) (nodes_of pairs) (tree_of pairs [] hs 0) x index k (unpacked (281470681743360 + nodes_of pairs))) w
      → Holds (walk (nodes_of pairs) (nodes_of pairs) (tree_of pairs [] hs 0) x index k (outset (nodes_of pairs))) w
  walked-is index h = rw (← sets-out (nodes_of pairs) N) h

pub ruleset walked_laws = (ready-outset, walked-is)

module _ (pairs : List ℕ) (hs : List Float) (x : Float) (k w : ℕ) where
  pub count-is : Holds (walk (nodes_of pairs) (nodes_of pairs) (tree_of pairs [] hs 0) x 65535 k (outset (nodes_of pairs))) w
      → w / 65536 % 65536 ≡ counted (tree_of pairs [] hs 0) x k
  unfolding counted
  count-is h = ap (λ (u : Walk). u.met) h.same

  pub branch-is : (index : ℕ) → Holds (walk (nodes_of pairs) (nodes_of pairs) (tree_of pairs [] hs 0) x index k (outset (nodes_of pairs))) w
      → w / 4294967296 ≡ picked (tree_of pairs [] hs 0) x k index
  unfolding picked
  branch-is index h = ap (λ (u : Walk). u.found) h.same

pub ruleset count_laws = (count-is, branch-is)
