-- The ways through the calls with marks (`call_laws`). Assumes nothing.
use mathlib.Core.Path.{◌≡◌, refl}
use mathlib.Core.Bool.{Bool, true, false, cond}
use mathlib.Core.List.{List, map}
use Prim.Native.Nat.{ℕ, ◌/◌, ◌<◌}
use native.Mathlib.Omega.{arith}
use lib.Dec.{eqb}
use lib.ListN.{length, length-map}
use borrow.Author.Tests.{eqb-true, le-leb, lt-leb}
use Rattle.answer.specs.declared.Refusal.TheVariants.{Size}
use Rattle.tree.specs.Tree.{Tree, nodes_of, tips_of}
use Rattle.tree.specs.New.{validated}
use Rattle.clades.specs.Clades.{monophyly_call, age_call}
use Rattle.marks.specs.Marks.{is_mark, marks_of}
use Rattle.std.specs.Prelude.{Result, Err}
use Rattle.answer.specs.declared.Refusal.{Refusal}

-- too many nodes
crowded : (t : Tree) → 4095 < nodes_of t.pairs → validated t ≡ Err (Size (nodes_of t.pairs))
unfolding validated
crowded t h = rw (le-leb 3 (nodes_of t.pairs) (omega arith), lt-leb (nodes_of t.pairs) 4095 h)

-- more marks than a tree has tips are not one for each, whatever the tree
unsized : (t : Tree) (members : List ℕ) → 2048 < length members
    → cond (eqb (length (marks_of members)) (tips_of (nodes_of t.pairs))) (validated t) (Err (Size (nodes_of t.pairs)))
    ≡ Err (Size (nodes_of t.pairs))
unfolding marks_of
unsized t members h = go (eqb (length (map is_mark members)) (tips_of (nodes_of t.pairs))) refl
  where
    go : (b : Bool) → eqb (length (map is_mark members)) (tips_of (nodes_of t.pairs)) ≡ b
        → cond b (validated t) (Err (Size (nodes_of t.pairs))) ≡ Err (Size (nodes_of t.pairs))
    go true e = let q : length (map is_mark members) ≡ tips_of (nodes_of t.pairs) = eqb-true _ _ e in crowded t (omega (arith, length-map members is_mark))
    go false e = refl

module _ (t : Tree) (members : List ℕ) where
  module _ (h : 2048 < length members) where
    pub monophyly-many : Err (Size (length t.pairs / 2)) ≡ monophyly_call t (marks_of members)
    unfolding monophyly_call
    monophyly-many = rw (unsized t members h)

    pub age-many : Err (Size (length t.pairs / 2)) ≡ age_call t (marks_of members)
    unfolding age_call
    age-many = rw (unsized t members h)

  module _ (marks : List Bool) (e : marks ≡ marks_of members) where
    pub monophyly-marked : (r : Result Bool Refusal) → r ≡ monophyly_call t marks → r ≡ monophyly_call t (marks_of members)
    monophyly-marked r f = rw (← e) f

    pub age-marked : (r : Result ℕ Refusal) → r ≡ age_call t marks → r ≡ age_call t (marks_of members)
    age-marked r f = rw (← e) f

pub ruleset call_laws = (monophyly-many, age-many, monophyly-marked, age-marked)
