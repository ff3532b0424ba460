-- TipAge, like every other call, does not tell a record's allowance from the word that it is read from (record/AllowanceLaws). Assumes nothing.
use Rattle.std.specs.Prelude.{◌≡◌, refl, false, List, ℕ, Float, Result, Ok, Err}
use Rattle.std.proofs.Common.{ap}
use Rattle.answer.specs.declared.Refusal.TheVariants.{Parameter}
use Rattle.random.specs.declared.Random.{Random}
use Rattle.random.specs.Draw.{Draw, allowed}
use Rattle.tree.specs.Tree.{Tree, nodes_of, tips_of}
use Rattle.tree.specs.New.{validated}
use Rattle.calls.specs.Call.{Reply, and_then, run_call, leaves}
use Rattle.process.specs.declared.FossilizedBirthDeath.{FossilizedBirthDeath}
use Rattle.process.specs.Process.{process_finite}
use Rattle.ages.specs.Ages.{table_sized, lowest_fault}
use Rattle.dating.specs.TipAge.{tip_age, ages_checked, tip_age_call}
use Rattle.record.specs.Record.{word_in, allowance_in}
use Rattle.record.specs.AllowanceLaws.{and-false, same}
use Rattle.answer.specs.declared.Refusal.{Refusal}

-- past the last check nothing is run
unrun : {A : Type 0} (size tree table : Result (Unit {0}) Refusal) (program : Draw (Reply A)) (g : Random) (a b : ℕ)
    → run_call (and_then size (and_then tree (and_then table (Err (Parameter 0))))) program g a
    ≡ run_call (and_then size (and_then tree (and_then table (Err (Parameter 0))))) program g b
unrun (Err why) tree table program g a b = refl
unrun (Ok tt) (Err why) table program g a b = refl
unrun (Ok _) (Ok _) (Err why) program g a b = refl
unrun (Ok _) (Ok _) (Ok _) program g a b = refl

module _ (minima maxima : List Float) (p : FossilizedBirthDeath) (t : Tree) (g : Random) where
  outside : (a b : ℕ) → allowed a ≡ false → allowed b ≡ false → tip_age_call minima maxima p t g a ≡ tip_age_call minima maxima p t g b
  unfolding tip_age_call ages_checked
  outside a b x y =
      let n = nodes_of t.pairs in
      rw (and-false (process_finite p) (allowed a) x, and-false (process_finite p) (allowed b) y)
      (ap (leaves t g) (unrun (table_sized n minima maxima) (validated t) (lowest_fault p minima maxima (tips_of n)) (tip_age minima maxima t) g a b))

  pub age-word : (words : List ℕ) → tip_age_call minima maxima p t g (allowance_in words) ≡ tip_age_call minima maxima p t g (word_in words 5)
  age-word words = same words (λ a. tip_age_call minima maxima p t g a) outside
