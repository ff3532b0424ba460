-- The ways through the two entry points (`entry_laws`, `mono_laws`, `age_laws`). Assumes nothing.
use mathlib.Core.Path.{◌≡◌, sym, ap, ◌∙◌}
use mathlib.Core.Bool.{Bool, true, cond}
use mathlib.Core.List.{List}
use Prim.Native.Nat.{ℕ, ◌+◌, ◌*◌, ◌/◌, ◌≤◌, ◌<◌}
use native.Mathlib.Omega.{arith}
use lib.Dec.{ltb, eqb}
use lib.ListN.{length, get_or}
use lib.Ieee.{nan}
use mir.Val.{Fits}
use mir.Syntax.{w64}
use borrow.Author.Tests.{eq-eqb, ne_eqb}
use Rattle.answer.specs.declared.Refusal.{Refusal}
use Rattle.answer.specs.declared.Refusal.TheVariants.{Size, Parameter}
use Rattle.real.specs.Printed.{printed_of}
use Rattle.tree.specs.Bounded.{some}
use Rattle.tree.specs.Tree.{Tree, nodes_of, parent, height}
use Rattle.tree.specs.New.{validated}
use Rattle.tree.specs.Valid.{Valid}
use Rattle.accepted.specs.ValidatedLaws.{fine-valid}
use Rattle.clades.specs.Clades.{marked, size_of, clade_node, age_node, clade_age, monophyly_call, age_call}
use Rattle.clades.specs.Counting.{first_weighing, Seeks}
use Rattle.clades.specs.WeightLaws.{size_none, size-some}
use Rattle.clades.specs.CladeLaws.{clade-node, monophyletic-found, clade-found}
use Rattle.clades.specs.StemLaws.{age-node}
use Rattle.std.specs.Prelude.{Option, Some, None, Result, Ok, Err}

module _ (t : Tree) (members : List Bool) where
  module _ (d : length members ≡ (length t.pairs / 2 + 1) / 2 → ⊥) where
    pub mono-size : Err (Size (length t.pairs / 2)) ≡ monophyly_call t members
    unfolding monophyly_call
    mono-size = rw (ne_eqb _ _ d)

    pub age-size : Err (Size (length t.pairs / 2)) ≡ age_call t members
    unfolding age_call
    age-size = rw (ne_eqb _ _ d)

  module _ (m : length members ≡ (length t.pairs / 2 + 1) / 2) (v : Result (Unit {0}) Refusal) (e : v ≡ validated t) where
    module _ (why : Refusal) (y : v ≡ Err why) where
      pub mono-refused : Err why ≡ monophyly_call t members
      unfolding monophyly_call
      mono-refused = rw (eq-eqb _ _ m, ← e, y)

      pub age-refused : Err why ≡ age_call t members
      unfolding age_call
      age-refused = rw (eq-eqb _ _ m, ← e, y)

    module _ (y : v ≡ Ok tt) where
      fine : Valid (nodes_of t.pairs) t
      fine = fine-valid t (sym e ∙ y)

      pub entry-few : length members ≤ 4095
      entry-few = let few = fine.sized.few in omega arith

      pub mono-is : (r : ℕ) → r ≡ first_weighing (length t.pairs / 2) t.pairs t.root members 65536 → Ok (ltb r (length t.pairs / 2)) ≡ monophyly_call t members
      unfolding monophyly_call
      mono-is r f =
          let few = fine.sized.few in
          rw (eq-eqb _ _ m, ← e, y, f, monophyletic-found (nodes_of t.pairs) t fine members m 65536 (omega arith))

      module _ (s : ℕ) (c : s ≡ size_of members) where
        pub entry-seeks : (others : ℕ) → others ≤ 65536 → Seeks t.pairs t.root members others s (nodes_of t.pairs)
        entry-seeks others light = record { fills = record { parents = t.parents; heights = t.heights; valid = fine }; marks = m; light = light; counted = c }

        pub age-none : s ≡ 0 → Err (Parameter 0) ≡ age_call t members
        unfolding age_call clade_age
        age-none z = rw (eq-eqb _ _ m, ← e, y, size_none members (sym c ∙ z))

      module _ (r : ℕ) (f : r ≡ first_weighing (length t.pairs / 2) t.pairs t.root members 0) where
        is-clade : r ≡ clade_node t members
        is-clade = f ∙ clade-found (nodes_of t.pairs) t fine members m

        pub clade-place : r < length t.parents
        clade-place = let h = clade-node (nodes_of t.pairs) t fine members in let g = is-clade in let l = fine.sized.parents in omega arith

        module _ (s : ℕ) (c : s ≡ size_of members) (k : ℕ) (a : k ≡ cond (eqb s 1) (parent t r) r) where
          is-dated : k ≡ age_node t members
          unfolding age_node
          is-dated = a ∙ rw (c, is-clade)

          pub age-place : k < length t.heights
          age-place = let h = age-node (nodes_of t.pairs) t fine members m in let g = is-dated in let l = fine.sized.heights in omega arith

          pub age-bytes : Fits w64 (k * 8)
          age-bytes = let h = age-place in let l = fine.sized.heights in let few = fine.sized.few in record { fits = omega arith }

          module _ (d : s ≡ 0 → ⊥) (x : Option ℕ) (g : x ≡ printed_of (get_or t.heights k nan)) where
            printed-is : printed_of (height t (age_node t members)) ≡ x
            unfolding height
            printed-is = sym (g ∙ ap (λ (j : ℕ). printed_of (get_or t.heights j nan)) is-dated)

            not-empty : some (marked members) (length members) ≡ true
            not-empty = size-some members (λ z. d (c ∙ z))

            pub age-is : (count : ℕ) → x ≡ Some count → Ok count ≡ age_call t members
            unfolding age_call clade_age
            age-is count z = rw (eq-eqb _ _ m, ← e, y, not-empty, printed-is, z)

            pub age-outside : x ≡ None → Err (Parameter 0) ≡ age_call t members
            unfolding age_call clade_age
            age-outside z = rw (eq-eqb _ _ m, ← e, y, not-empty, printed-is, z)

pub ruleset entry_laws = (entry-few, entry-seeks)

pub ruleset mono_laws = (mono-size, mono-refused, mono-is)

pub ruleset age_laws = (age-size, age-refused, age-none, clade-place, age-place, age-bytes, age-is, age-outside)
