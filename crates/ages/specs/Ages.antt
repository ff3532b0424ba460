-- The age table: a least and a greatest age for each tip. Which tips are at fault, and what a call answers that finds one. Definitions only.
-- Assumes nothing.
use Rattle.std.specs.Prelude.{Bool, not, ◌&&◌, ◌||◌, cond, List, ℕ, eqb, length, get_or, Float, Result, Ok, Err}
use Rattle.std.specs.Float.{nan}
use Rattle.std.specs.Float.Ieee.{lt, le, eq}
use Rattle.std.specs.Float.Ieee.Scale.{finite}
use Rattle.answer.specs.declared.Refusal.TheVariants.{Size, Parameter}
use Rattle.real.specs.Real as Real
use Rattle.tree.specs.Tree.{Tree, nodes_of, tips_of}
use Rattle.tree.specs.New.{counts, validated, lowest}
use Rattle.calls.specs.Call.{and_then}
use Rattle.process.specs.declared.FossilizedBirthDeath.{FossilizedBirthDeath}
use Rattle.process.specs.Process.{process_finite}
use Rattle.ages.specs.declared.TipAge.{TipAge}
use Rattle.answer.specs.declared.Refusal.{Refusal}

-- ---- the table

-- "The two interval ends of a tip stay together as one record"
abbrev pub age_of : List Float → List Float → ℕ → TipAge
age_of minima maxima k = record { minimum = get_or minima k nan; maximum = get_or maxima k nan }

-- refusal 1: "lengths disagree" where n nodes have not one age for each tip
abbrev pub table_sized : ℕ → List Float → List Float → Result (Unit {0}) Refusal
table_sized n minima maxima = cond (eqb (length minima) (tips_of n) && eqb (length maxima) (tips_of n)) (Ok tt) (Err (Size n))

-- ---- "Both per-tip age rules of `Dating::validate` hold, present sampling's too"

-- neither a fixed age nor an interval of ages that is younger than the origin and does not include the present
unfoldable pub misaged : Float → TipAge → Bool
misaged origin a =
    not (finite a.minimum) || not (finite a.maximum) || lt a.minimum Real.zero || lt a.maximum a.minimum || le origin a.maximum || (eq a.minimum Real.zero && lt Real.zero a.maximum)

-- a tip at the present, where nothing is sampled there
unfoldable pub unsampled : Float → TipAge → Bool
unsampled sampling a = eq sampling Real.zero && eq a.minimum Real.zero

unfoldable pub at_fault : FossilizedBirthDeath → List Float → List Float → ℕ → Bool
at_fault p minima maxima k = misaged p.origin (age_of minima maxima k) || unsampled p.present_sampling (age_of minima maxima k)

-- ---- which tip is named

-- "names the lowest-numbered tip at fault": of so many tips the lowest that is at fault is refused
abbrev pub lowest_fault : FossilizedBirthDeath → List Float → List Float → ℕ → Result (Unit {0}) Refusal
lowest_fault p minima maxima tips = lowest (at_fault p minima maxima) Parameter tips

-- ---- the limits of a call with a table, in the order of the refusals

-- "every other 5 [...] has detail 0"
abbrev pub or_parameter : Bool → Result (Unit {0}) Refusal
or_parameter limits = cond limits (Ok tt) (Err (Parameter 0))

-- the tips of the table "ahead of any other 5 of the call"; limits is whether the other parameters are within theirs
abbrev pub table_then : FossilizedBirthDeath → List Float → List Float → ℕ → Bool → Result (Unit {0}) Refusal
table_then p minima maxima tips limits = and_then (lowest_fault p minima maxima tips) (or_parameter limits)

-- of a call on the tree t
abbrev pub table_checked : FossilizedBirthDeath → List Float → List Float → Tree → Bool → Result (Unit {0}) Refusal
table_checked p minima maxima t limits =
    let n = nodes_of t.pairs in
    and_then (table_sized n minima maxima) (and_then (validated t) (table_then p minima maxima (tips_of n) limits))

-- the table by itself, for n nodes: their number, its lengths, its tips, the fields of the process
unfoldable pub table_call : ℕ → List Float → List Float → FossilizedBirthDeath → Result (Unit {0}) Refusal
table_call n minima maxima p =
    and_then (cond (counts n) (Ok tt) (Err (Size n)))
    (and_then (table_sized n minima maxima) (table_then p minima maxima (tips_of n) (process_finite p)))
