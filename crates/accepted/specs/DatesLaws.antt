-- The test of the heights: none is refused exactly where the tree is dated (`fine-dated`, `dated-fine`). Assumes nothing.
use Rattle.std.specs.Prelude.{◌≡◌, Bool, not, ◌&&◌, ◌||◌, ℕ, ◌<◌, eqb, length, Ok}
use Rattle.std.proofs.Common.{arith, eq-eqb, ne_eqb}
use Rattle.std.proofs.Math.Decide.{ℕ_discrete}
use Rattle.std.proofs.Math.Dec.{T}
use Rattle.std.specs.Float.Ieee.{lt, le}
use Rattle.std.specs.Float.Ieee.Bits.{is_true, is_false}
use Rattle.std.specs.Float.Ieee.Scale.{finite}
use Rattle.std.proofs.Math.Facts.{or_no, T_not-not}
use Rattle.real.specs.Real as Real
use Rattle.tree.specs.Tree.{Tree, parent, height}
use Rattle.tree.specs.New.{misdated, dates_of}
use Rattle.tree.specs.Valid.{Dated}
use Rattle.tree.specs.LowestLaws.{lowest-fine, fine-lowest}

-- c's height alone is refused
abbrev alone : Tree → ℕ → Bool
alone t c = lt (height t c) Real.zero || not (finite (height t c))

-- c's height is refused beside its parent's
abbrev beside : Tree → ℕ → Bool
beside t c = not (eqb c t.root) && not (le (height t c) (height t (parent t c)))

module _ (n : ℕ) (t : Tree) (sized : length t.heights ≡ n) where
  sound : dates_of t ≡ (Ok tt) → (c : ℕ) → c < n → T (not (misdated t c))
  sound e c C = rw (lowest-fine (misdated t) _ (length t.heights) e c (omega arith)) tt

  -- a tree none of whose heights is refused is dated
  pub fine-dated : dates_of t ≡ (Ok tt) → Dated n t
  unfolding misdated
  fine-dated e = record {
    number = λ c C. T_not-not (finite (height t c)) (not-alone c C).1;
    positive = λ c C. (not-alone c C).0;
    ordered = λ c C d. T_not-not (le (height t c) (height t (parent t c))) (rw (ne_eqb c t.root d) at (passes c C).1);
  }
    where
      passes : (c : ℕ) → c < n → T (not (alone t c)) × T (not (beside t c))
      passes c C = or_no (alone t c) (beside t c) (sound e c C)

      not-alone : (c : ℕ) → c < n → T (not (lt (height t c) Real.zero)) × T (not (not (finite (height t c))))
      not-alone c C = or_no (lt (height t c) Real.zero) (not (finite (height t c))) (passes c C).0

  -- no height of a dated tree is refused
  pub dated-fine : Dated n t → dates_of t ≡ (Ok tt)
  dated-fine d = fine-lowest (misdated t) _ (length t.heights) (λ c C. is_false (misdated t c) (passes c (omega arith)))
    where
      not-beside : (c : ℕ) → c < n → T (not (beside t c))
      not-beside c C = elim (ℕ_discrete c t.root) [
        | yes e ↦ rw (eq-eqb c t.root e) tt
        | no f ↦ rw (ne_eqb c t.root f, is_true (le (height t c) (height t (parent t c))) (d.ordered c C f)) tt
      ]

      passes : (c : ℕ) → c < n → T (not (misdated t c))
      passes c C =
          let low = is_false (lt (height t c) Real.zero) (d.positive c C) in
          let number = is_true (finite (height t c)) (d.number c C) in
          unfold misdated in (rw (low, number) (not-beside c C))
