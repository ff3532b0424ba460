-- By which node a clade is dated, after request S-4. In a valid tree a set of one tip has that tip for its clade's node (`clade-one`), and the node of an age
-- is a node (`age-node`). So of an accepted tree the age of a set of one tip is the height of its parent (`stem-age`), that of two tips or more is document
-- 01's (`crown-age`) and an empty set has none (`no-age`); and a set of one tip is monophyletic (`one-monophyletic`). Assumes nothing.
use Rattle.std.proofs.Math.Path.{◌≡◌, sym}
use Rattle.std.proofs.Common.{ap, ◌∙◌, true≢false, arith}
use Rattle.std.specs.Prelude.{Bool, true, false, cond, List, ℕ, ◌≤◌, ◌<◌, length, Ok, Err}
use Rattle.std.proofs.Math.Decide.{ℕ_discrete, dec_lt}
use Rattle.std.proofs.Math.ListN.{get_or-eq_default}
use borrow.Author.Tests.{eq-eqb, ne_eqb}
use Rattle.answer.specs.declared.Refusal.TheVariants.{Parameter}
use Rattle.real.specs.Printed.{printed_of}
use Rattle.tree.specs.Tree.{Tree, nodes_of, tips_of, parent, height}
use Rattle.tree.specs.New.{Accepted}
use Rattle.tree.specs.Valid.{Valid}
use Rattle.tree.specs.Bounded.{some}
use Rattle.tree.specs.BoundedLaws.{some_at}
use Rattle.accepted.specs.AcceptedLaws.{accepted-valid}
use Rattle.accepted.specs.ValidatedLaws.{valid-fine}
use Rattle.accepted.specs.RootLaws.{root-inner}
use Rattle.clades.specs.Clades.{marked, size_of, exactly, monophyletic, clade_node, age_node, age_printed, clade_age, age_call, monophyly_call}
use Rattle.clades.specs.Counting.{weighs}
use Rattle.clades.specs.WeightLaws.{weight-at, size_none, size-some, weight-tip, weighs-exactly}
use Rattle.clades.specs.CladeLaws.{clade-node, exactly-clade, monophyletic-clade}

-- what is marked is a tip
marked-tip : (members : List Bool) (i : ℕ) → marked members i ≡ true → i < length members
marked-tip members i m = elim (dec_lt i (length members)) [
  | yes h ↦ h
  | no h ↦ absurd (true≢false (sym m ∙ get_or-eq_default members false (omega arith)))
]

-- ---- a set of one tip, in a valid tree

module _ (n : ℕ) (t : Tree) (v : Valid n t) (members : List Bool) (M : length members ≡ tips_of n) where
  module _ (one : size_of members ≡ 1) where
    -- it is not empty
    not-empty : some (marked members) (length members) ≡ true
    not-empty = size-some members (λ z. omega arith)

    module _ (i : ℕ) (m : marked members i ≡ true) where
      is-tip : i < tips_of n
      is-tip = let h = marked-tip members i m in omega arith

      is-node : i < n
      is-node = let h = is-tip in let s = v.sized.some in omega arith

      -- the tip has exactly the set's tips below it, since it weighs as much as the set
      tip-exactly : exactly t members i ≡ true
      unfolding weighs
      tip-exactly =
          let h = is-tip in
          let few = v.sized.few in
          let w : ◌≡◌ {A = ℕ} (cond (marked members i) 1 4096) 1 = rw m in
          sym (weighs-exactly n t v members M 4096 i (omega arith) is-node)
          ∙ eq-eqb _ _ (weight-tip n t v members M 4096 i is-node (omega (arith, v.sized.odd)) ∙ weight-at members 4096 i (omega arith) ∙ w ∙ sym one)

      -- so it is the clade's node
      pub clade-one : clade_node t members ≡ i
      clade-one = sym (exactly-clade n t v members M not-empty i is-node tip-exactly)

      -- and it has a parent, since it is not the root
      tip-parent : parent t i < n
      tip-parent = let r = root-inner v in let h = is-tip in (v.below i is-node (λ e. omega (arith, v.sized.odd))).parent_node

    -- the one tip
    the-tip : (i : ℕ) × (i < length members) × (marked members i ≡ true)
    the-tip = some_at (marked members) (length members) not-empty

    one_parent : parent t (clade_node t members) < n
    one_parent = rw (clade-one the-tip.0 the-tip.2) (tip-parent the-tip.0 the-tip.2)

    one-exactly : monophyletic t members ≡ true
    one-exactly =
        monophyletic-clade n t v members M not-empty ∙ ap (exactly t members) (clade-one the-tip.0 the-tip.2) ∙ tip-exactly the-tip.0 the-tip.2

  -- the node by whose height a clade is dated is a node
  pub age-node : age_node t members < n
  unfolding age_node
  age-node = elim (ℕ_discrete (size_of members) 1) [
    | yes e ↦ rw (eq-eqb (size_of members) 1 e) (one_parent e)
    | no d ↦ rw (ne_eqb (size_of members) 1 d) (clade-node n t v members)
  ]

-- ---- what the calls answer

module _ (t : Tree) (a : Accepted t) (members : List Bool) (M : length members ≡ tips_of (nodes_of t.pairs)) where
  valid : Valid (nodes_of t.pairs) t
  valid = accepted-valid t a

  answered : age_call t members ≡ clade_age t members
  unfolding age_call
  answered = rw (eq-eqb _ _ M, valid-fine (nodes_of t.pairs) t valid)

  -- request S-4: "The clade age of a set of one tip is therefore its parent's height"
  pub stem-age : size_of members ≡ 1 → (i : ℕ) → marked members i ≡ true → age_call t members ≡ age_printed (printed_of (height t (parent t i)))
  unfolding clade_age age_node
  stem-age one i m =
      answered
      ∙ rw (not-empty (nodes_of t.pairs) t valid members M one, eq-eqb (size_of members) 1 one, clade-one (nodes_of t.pairs) t valid members M one i m)

  -- "Sets of two tips and more keep document 01's node"
  pub crown-age : 2 ≤ size_of members → age_call t members ≡ age_printed (printed_of (height t (clade_node t members)))
  unfolding clade_age age_node
  crown-age more = answered ∙ rw (size-some members (λ z. omega arith), ne_eqb (size_of members) 1 (λ z. omega arith))

  -- document 01: "an empty set ... gives refusal 5"
  pub no-age : size_of members ≡ 0 → age_call t members ≡ Err (Parameter 0)
  unfolding clade_age
  no-age none = answered ∙ rw (size_none members none)

  -- "a single tip counts as a clade"
  pub one-monophyletic : size_of members ≡ 1 → monophyly_call t members ≡ Ok true
  unfolding monophyly_call
  one-monophyletic one = rw (eq-eqb _ _ M, valid-fine (nodes_of t.pairs) t valid, one-exactly (nodes_of t.pairs) t valid members M one)
