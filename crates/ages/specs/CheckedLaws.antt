-- What a call on a tree with a table has from its checks: where they are fine, each is (`passed`). Assumes nothing.
use Rattle.std.specs.Prelude.{◌≡◌, refl, Bool, List, Float, Result, Ok, Err}
use Rattle.tree.specs.Tree.{Tree, nodes_of, tips_of}
use Rattle.tree.specs.New.{validated}
use Rattle.calls.specs.Call.{and_then}
use Rattle.calls.proofs.RunLaws.{clash}
use Rattle.process.specs.declared.FossilizedBirthDeath.{FossilizedBirthDeath}
use Rattle.ages.specs.Ages.{table_sized, lowest_fault, or_parameter, table_checked}
use Rattle.answer.specs.declared.Refusal.{Refusal}

-- where two checks are fine, each is
pub both-fine : (a b : Result (Unit {0}) Refusal) → and_then a b ≡ (Ok tt) → (a ≡ (Ok tt)) × (b ≡ (Ok tt))
both-fine (Ok tt) b e = (refl, e)
both-fine (Err why) b e = clash cc

-- each of the four is fine
pub record Passed (p : FossilizedBirthDeath) (minima maxima : List Float) (t : Tree) (limits : Bool) : Type 0 where
  pub sized : table_sized (nodes_of t.pairs) minima maxima ≡ (Ok tt)
  pub tree : validated t ≡ (Ok tt)
  pub table : lowest_fault p minima maxima (tips_of (nodes_of t.pairs)) ≡ (Ok tt)
  pub within : or_parameter limits ≡ (Ok tt)

-- where the checks of a call on a tree with a table are fine, each is
pub passed : (p : FossilizedBirthDeath) (minima maxima : List Float) (t : Tree) (limits : Bool) → table_checked p minima maxima t limits ≡ (Ok tt)
    → Passed p minima maxima t limits
passed p minima maxima t limits e =
    let a = both-fine (table_sized (nodes_of t.pairs) minima maxima) _ e in
    let b = both-fine (validated t) _ a.1 in
    let c = both-fine (lowest_fault p minima maxima (tips_of (nodes_of t.pairs))) (or_parameter limits) b.1 in
    record { sized = a.0; tree = b.0; table = c.0; within = c.1 }
