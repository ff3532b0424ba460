-- Which tip the refusal of an age table names. In order: the lowest at fault (`table-lowest`), whatever else of a call is outside its limits (`table-fault`,
-- `checked-fault`); and that a refusal 5 names such a tip, or has detail 0 where no tip is at fault (`table-five`, `checked-five`). Assumes nothing.
use Rattle.std.specs.Prelude.{◌≡◌, refl, Bool, true, false, ◌&&◌, cond, List, ℕ, ◌≤◌, ◌<◌, eqb, length, Float, Result, Ok, Err}
use Rattle.std.proofs.Common.{arith}
use borrow.Author.Tests.{eq-eqb}
use Rattle.answer.specs.declared.Refusal.TheVariants.{Size, Parameter}
use Rattle.answer.specs.Answers.{number_of}
use Rattle.tree.specs.Tree.{Tree, nodes_of, tips_of}
use Rattle.tree.specs.New.{counts, validated}
use Rattle.tree.specs.LowestLaws.{Lowest, none, first, lowest-says, lowest-is}
use Rattle.accepted.specs.RefusalLaws.{AtMost, validated-few}
use Rattle.calls.specs.Call.{and_then}
use Rattle.calls.proofs.RunLaws.{clash}
use Rattle.process.specs.declared.FossilizedBirthDeath.{FossilizedBirthDeath}
use Rattle.process.specs.Process.{process_finite}
use Rattle.ages.specs.Ages.{at_fault, lowest_fault, or_parameter, table_then, table_checked, table_call}
use Rattle.answer.specs.declared.Refusal.{Refusal}

-- ---- what is no 5

-- a wrong size
past-size : (b : Bool) (n : ℕ) (v : Result (Unit {0}) Refusal) (k : ℕ) → and_then (cond b (Ok tt) (Err (Size n))) v ≡ Err (Parameter k) → v ≡ Err (Parameter k)
past-size true n v k e = e
past-size false n v k e = clash cc

-- what is wrong with a tree
past-tree : (w : Result (Unit {0}) Refusal) → AtMost 4 w → (v : Result (Unit {0}) Refusal) (k : ℕ) → and_then w v ≡ Err (Parameter k) → v ≡ Err (Parameter k)
past-tree (Ok tt) few v k e = e
past-tree (Err why) few v k e = let z : why ≡ Parameter k = cc in let f : number_of (Parameter k) ≤ 4 = rw z at few in absurd (omega arith)

-- ---- the tips

module _ (p : FossilizedBirthDeath) (minima maxima : List Float) where
  -- of so many tips none is at fault, or the refusal names one that is, while none below it is
  pub table-lowest : (tips : ℕ) → Lowest (at_fault p minima maxima) Parameter tips (lowest_fault p minima maxima tips)
  table-lowest = lowest-says (at_fault p minima maxima) Parameter

  -- k is the lowest of so many tips that is at fault
  pub record LowestAt (tips k : ℕ) : Type 0 where
    pub tip : k < tips
    pub fault : at_fault p minima maxima k ≡ true
    pub below : (j : ℕ) → j < k → at_fault p minima maxima j ≡ false

  -- ---- "ahead of any other 5 of the call"

  fault-first : (tips k : ℕ) → LowestAt tips k → (limits : Bool) → table_then p minima maxima tips limits ≡ Err (Parameter k)
  fault-first tips k f limits = rw (lowest-is (at_fault p minima maxima) Parameter tips k f.tip f.fault f.below)

  -- of a table by itself, for a number of nodes that a tree may have and with an age for each tip, whatever the other fields of the process
  pub table-fault : (n k : ℕ) → counts n ≡ true → length minima ≡ tips_of n → length maxima ≡ tips_of n → LowestAt (tips_of n) k
      → table_call n minima maxima p ≡ Err (Parameter k)
  unfolding table_call
  table-fault n k c l u f = rw (c, eq-eqb (length minima) (tips_of n) l, eq-eqb (length maxima) (tips_of n) u, fault-first (tips_of n) k f (process_finite p))

  -- of a call on a tree that is in order
  pub checked-fault : (t : Tree) (k : ℕ) → validated t ≡ (Ok tt) → length minima ≡ tips_of (nodes_of t.pairs) → length maxima ≡ tips_of (nodes_of t.pairs)
      → LowestAt (tips_of (nodes_of t.pairs)) k → (limits : Bool) → table_checked p minima maxima t limits ≡ Err (Parameter k)
  checked-fault t k v l u f limits =
      let tips = tips_of (nodes_of t.pairs) in
      rw (eq-eqb (length minima) tips l, eq-eqb (length maxima) tips u, v, fault-first tips k f limits)

  -- ---- what a 5 says

  -- its detail is the lowest tip at fault; or 0, where no tip is at fault and another parameter is outside its limits
  pub data Five (tips : ℕ) (limits : Bool) : ℕ → Type 0 where
    of_tip : (k : ℕ) → LowestAt tips k → Five tips limits k
    of_limits : ((j : ℕ) → j < tips → at_fault p minima maxima j ≡ false) → limits ≡ false → Five tips limits 0

  five-names : (tips : ℕ) (limits : Bool) (k : ℕ) → table_then p minima maxima tips limits ≡ Err (Parameter k) → Five tips limits k
  five-names tips limits k = said (lowest_fault p minima maxima tips) (table-lowest tips) limits refl
    where
      said : (v : Result (Unit {0}) Refusal) → Lowest (at_fault p minima maxima) Parameter tips v → (b : Bool) → limits ≡ b → and_then v (or_parameter b) ≡ Err (Parameter k)
          → Five tips limits k
      said _ (first j J h below) b f e = let z : j ≡ k = cc in rw (← z) (of_tip j (record { tip = J; fault = h; below = below }))
      said _ (none fails) false f e = let z : 0 ≡ k = cc in rw (← z) (of_limits fails f)
      said _ (none fails) true f e = clash cc

  -- the lengths are those of n nodes
  abbrev sized : ℕ → Bool
  sized n = eqb (length minima) (tips_of n) && eqb (length maxima) (tips_of n)

  -- of a table by itself
  pub table-five : (n k : ℕ) → table_call n minima maxima p ≡ Err (Parameter k) → Five (tips_of n) (process_finite p) k
  unfolding table_call
  table-five n k e = five-names (tips_of n) (process_finite p) k (past-size (sized n) n _ k (past-size (counts n) n _ k e))

  -- of the checks of a call on any tree
  pub checked-five : (t : Tree) (limits : Bool) (k : ℕ) → table_checked p minima maxima t limits ≡ Err (Parameter k)
      → Five (tips_of (nodes_of t.pairs)) limits k
  checked-five t limits k e = five-names _ limits k (past-tree (validated t) (validated-few t) _ k (past-size (sized (nodes_of t.pairs)) (nodes_of t.pairs) _ k e))
