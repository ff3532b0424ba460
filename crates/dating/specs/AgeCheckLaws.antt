-- The checks of a call of TipAge. In order: parameters that are fine are within their limits (`within-fine`); what the checks pass (`ages-fine`); that they
-- say the same of two allowances within the limits (`ages-same`); and that they refuse with 5 at most (`ages-few`). Assumes nothing.
use Rattle.std.specs.Prelude.{◌≡◌, Bool, true, false, ◌&&◌, List, T, length, Float, Result, Ok, Err}
use Prim.Native.Nat.{ℕ, ◌<◌}
use Rattle.std.proofs.Common.{arith}
use Rattle.std.proofs.Math.Dec.{eqb}
use borrow.Author.Tests.{eq-eqb}
use Rattle.answer.specs.declared.Refusal.TheVariants.{Size, Parameter}
use Rattle.random.specs.Draw.{allowed}
use Rattle.tree.specs.Tree.{Tree, nodes_of, tips_of}
use Rattle.tree.specs.New.{Accepted, validated}
use Rattle.tree.specs.LowestLaws.{fine-lowest}
use Rattle.accepted.specs.AcceptedLaws.{accepted-valid}
use Rattle.accepted.specs.ValidatedLaws.{valid-fine}
use Rattle.accepted.specs.RefusalLaws.{AtMost, either, lowest-few, validated-few, few-more}
use Rattle.calls.specs.Call.{and_then, limited}
use Rattle.calls.proofs.RunLaws.{clash}
use Rattle.calls.proofs.TreeCallLaws.{then-few, limited-few}
use Rattle.process.specs.declared.FossilizedBirthDeath.{FossilizedBirthDeath}
use Rattle.process.specs.Process.{process_finite}
use Rattle.ages.specs.Ages.{at_fault, table_sized, lowest_fault, or_parameter}
use Rattle.dating.specs.TipAge.{ages_checked}
use Rattle.answer.specs.declared.Refusal.{Refusal}

-- parameters that are fine are within their limits
pub within-fine : (b : Bool) → or_parameter b ≡ (Ok tt) → T b
within-fine true e = tt
within-fine false e = clash cc

-- ---- the checks

module _ (minima maxima : List Float) (p : FossilizedBirthDeath) (t : Tree) where
  -- on an accepted tree, with an age for each tip and no tip at fault, with finite fields and an allowance within its limits
  pub ages-fine : Accepted t → length minima ≡ tips_of (nodes_of t.pairs) → length maxima ≡ tips_of (nodes_of t.pairs)
      → ((k : ℕ) → k < tips_of (nodes_of t.pairs) → at_fault p minima maxima k ≡ false)
      → process_finite p ≡ true → (a : ℕ) → allowed a ≡ true → ages_checked minima maxima p t a ≡ (Ok tt)
  unfolding ages_checked
  ages-fine v l u f h a k =
      rw (
        eq-eqb (length minima) (tips_of (nodes_of t.pairs)) l,
        eq-eqb (length maxima) (tips_of (nodes_of t.pairs)) u,
        valid-fine (nodes_of t.pairs) t (accepted-valid t v),
        fine-lowest (at_fault p minima maxima) Parameter (tips_of (nodes_of t.pairs)) f,
        h,
        k,
      )

  -- ---- other allowances

  -- the checks say the same of two allowances within their limits
  pub ages-same : (a b : ℕ) → allowed a ≡ true → allowed b ≡ true → ages_checked minima maxima p t b ≡ ages_checked minima maxima p t a
  unfolding ages_checked
  ages-same a b h k = rw (h, k)

  -- ---- refusals

  -- the checks refuse with 1 to 5
  pub ages-few : (a : ℕ) → AtMost 5 (ages_checked minima maxima p t a)
  unfolding ages_checked
  ages-few a =
      then-few 5 (table_sized n minima maxima) (and_then (validated t) (and_then table (limited (process_finite p) a)))
      (either (AtMost 5) (eqb (length minima) (tips_of n) && eqb (length maxima) (tips_of n)) {x = (Ok tt)} {y = Err (Size n)} tt (omega arith))
      (then-few 5 (validated t) (and_then table (limited (process_finite p) a)) (few-more 4 5 (omega arith) (validated t) (validated-few t))
      (then-few 5 table (limited (process_finite p) a) (lowest-few 5 (at_fault p minima maxima) Parameter (λ k. omega arith) (tips_of n)) (limited-few (process_finite p) a)))
    where
      n : ℕ
      n = nodes_of t.pairs

      table : Result (Unit {0}) Refusal
      table = lowest_fault p minima maxima (tips_of n)
