-- What each exported function leaves: the answer code that it returns, the slice that it is lent to change, and the words of its record. Each is the
-- call that other crates define, on what the record holds, with its answer written into the record; where the words are no record, 3, and nothing is
-- changed (`on_record`, `lent_on`). Definitions only. Assumes nothing.
use Rattle.std.specs.Prelude.{cond, List, ℕ, Float, Option, Some, None}
use Rattle.answer.specs.declared.Refusal.TheVariants.{Parameter}
use Rattle.random.specs.declared.Random.{Random}
use Rattle.tree.specs.Tree.{Tree}
use Rattle.tree.specs.Given.{tree_of}
use Rattle.calls.specs.Call.{Called}
use Rattle.calls.specs.Change.{Proposed}
use Rattle.scales.specs.Scales.{scale_call, clock_rate_call, birth_difference_call, birth_rate_call, relative_death_call}
use Rattle.clocks.specs.Clocks as Clocks
use Rattle.clocks.specs.Clocks.{clock_sigma_call}
use Rattle.fields.specs.declared.Field.{Field}
use Rattle.fields.specs.Fields.{fbd_call}
use Rattle.rates.specs.Clock as Clock
use Rattle.rates.specs.Clock.{RateSet, new_call, set_sigma_call, set_rate_call}
use Rattle.process.specs.Process.{priors_call}
use Rattle.speciation.specs.Yule.{yule_call}
use Rattle.ages.specs.Ages.{table_call}
use Rattle.dating.specs.Initialize.{Initialized, initialize_call}
use Rattle.dating.specs.TipAge.{tip_age_call}
use Rattle.clades.specs.Clades.{monophyly_call, age_call}
use Rattle.marks.specs.Marks.{marks_of}
use Rattle.record.specs.Record.{is_record, no_record, real_in, generator_in, root_in, allowance_in, node_in, tuning_in, Written, written, on_record, replied, refused_reply, proposed, answered, judged}
use Rattle.record_parameters.specs.Parameters.{optional_in, speciation_in, process_in, priors_in, chosen_in, with_real, with_optional, with_speciation, with_process, proposed_left}
use Rattle.record_parameters.specs.Answers.{rate_left, stored_left, sigma_left, density_left, monophyly_left, age_left}

-- with the slice of floats that a call is lent to change
pub record Lent : Type 0 where
  pub written : Written
  pub slice : List Float

abbrev pub lent : Written → List Float → Lent
lent w slice = record { written = w; slice = slice }

-- l, or nothing written where the words are no record
abbrev pub lent_on : List ℕ → List Float → Lent → Lent
lent_on words slice l = cond (is_record words) l (lent (written no_record words) slice)

-- the tree of the slices, with the record's root
abbrev pub tree_in : List ℕ → List ℕ → List Float → List ℕ → Tree
tree_in pairs parents heights words = tree_of pairs parents heights (root_in words)

-- ---- proposals

-- a call on parameters, with the record's generator and allowance; write puts the parameters where they stand
unfoldable pub call_left : {P : Type 0} → (P → List ℕ → List ℕ) → (Random → ℕ → Proposed P) → List ℕ → Written
call_left write call words = let c = call (generator_in words) (allowance_in words) in proposed_left write c.answer c.random c.value words

abbrev pub scale_exported : List ℕ → Written
scale_exported words = on_record words (call_left (with_real 13) (scale_call (real_in words 13) (real_in words 14) (tuning_in words)) words)

abbrev pub clock_rate_exported : List ℕ → Written
clock_rate_exported words = on_record words (call_left with_optional (clock_rate_call (optional_in words 13 14) (tuning_in words)) words)

abbrev pub birth_difference_exported : List ℕ → Written
birth_difference_exported words = on_record words (call_left with_speciation (birth_difference_call (speciation_in words) (real_in words 16) (tuning_in words)) words)

abbrev pub birth_rate_exported : List ℕ → Written
birth_rate_exported words = on_record words (call_left with_speciation (birth_rate_call (speciation_in words) (real_in words 16) (tuning_in words)) words)

abbrev pub relative_death_exported : List ℕ → Written
relative_death_exported words = on_record words (call_left with_speciation (relative_death_call (speciation_in words) (tuning_in words)) words)

abbrev pub clock_sigma_exported : List Float → List ℕ → Written
clock_sigma_exported rates words = on_record words (call_left with_optional (clock_sigma_call (optional_in words 13 14) rates (tuning_in words)) words)

-- the parameters are the lent rates
unfoldable pub rates_left : Proposed (List Float) → List ℕ → Lent
rates_left c words = lent (proposed c.answer c.random words) c.value

abbrev pub branch_rate_scale_exported : List Float → List ℕ → Lent
branch_rate_scale_exported rates words =
    lent_on words rates (rates_left (Clocks.branch_rate_call (optional_in words 13 14) rates (tuning_in words) (generator_in words) (allowance_in words)) words)

abbrev pub field_left : Field → List ℕ → Written
field_left field words = call_left with_process (fbd_call field (priors_in words) (process_in words) (real_in words 29) (tuning_in words)) words

-- a number that names no field is a 5 with detail 0
unfoldable pub chosen_left : Option Field → List ℕ → Written
chosen_left (Some field) words = field_left field words
chosen_left None words = replied (refused_reply (Parameter 0)) words

abbrev pub fbd_exported : List ℕ → Written
fbd_exported words = on_record words (chosen_left (chosen_in words) words)

-- ---- the clock

abbrev pub clock_exported : List Float → List ℕ → Written
clock_exported rates words = on_record words (judged (new_call (real_in words 14) rates) words)

abbrev pub branch_rate_exported : List Float → List ℕ → Written
branch_rate_exported rates words = on_record words (rate_left (Clock.branch_rate_call (real_in words 14) rates (node_in words) (root_in words)) words)

abbrev pub set_sigma_exported : List Float → List ℕ → Written
set_sigma_exported rates words = on_record words (sigma_left (set_sigma_call (real_in words 14) rates (real_in words 15)) words)

unfoldable pub set_left : RateSet → List ℕ → Lent
set_left c words = lent (stored_left c.stored words) c.rates

abbrev pub set_rate_exported : List Float → List ℕ → Lent
set_rate_exported rates words = lent_on words rates (set_left (set_rate_call (real_in words 14) rates (node_in words) (real_in words 15)) words)

-- ---- priors and density

abbrev pub priors_exported : List ℕ → Written
priors_exported words = on_record words (judged (priors_call (priors_in words)) words)

abbrev pub yule_exported : List ℕ → List ℕ → List Float → List ℕ → Written
yule_exported pairs parents heights words = on_record words (density_left (yule_call (tree_in pairs parents heights words) (real_in words 13)) words)

-- ---- tip dating

-- the table by itself, for the number of nodes in word 6
abbrev pub table_exported : List Float → List Float → List ℕ → Written
table_exported minima maxima words = on_record words (judged (table_call (node_in words) minima maxima (process_in words)) words)

unfoldable pub initialized_left : Initialized → List ℕ → Lent
initialized_left c words = lent (judged c.answer words) c.heights

abbrev pub initialize_exported : List ℕ → List ℕ → List Float → List Float → List Float → List ℕ → Lent
initialize_exported pairs parents heights minima maxima words =
    lent_on words heights (initialized_left (initialize_call minima maxima (process_in words) (tree_in pairs parents heights words)) words)

unfoldable pub aged_left : Called → List ℕ → Lent
aged_left c words = lent (answered c.answer c.random words) c.heights

abbrev pub tip_age_exported : List ℕ → List ℕ → List Float → List Float → List Float → List ℕ → Lent
tip_age_exported pairs parents heights minima maxima words =
    lent_on words heights
    (aged_left (tip_age_call minima maxima (process_in words) (tree_in pairs parents heights words) (generator_in words) (allowance_in words)) words)

-- ---- clades

abbrev pub monophyly_exported : List ℕ → List ℕ → List Float → List ℕ → List ℕ → Written
monophyly_exported pairs parents heights members words =
    on_record words (monophyly_left (monophyly_call (tree_in pairs parents heights words) (marks_of members)) words)

abbrev pub age_exported : List ℕ → List ℕ → List Float → List ℕ → List ℕ → Written
age_exported pairs parents heights members words = on_record words (age_left (age_call (tree_in pairs parents heights words) (marks_of members)) words)
