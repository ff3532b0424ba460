-- The client's demands on the calls of TipAge: what every call on a tree leaves (calls/LeavesLaws) and `age-explained` (AgeExplainedLaws). In order: demand 1
-- (`age-ends`, `age-refused`); the draws made (`age-steps`, `age-within`); what a moved, a declined and a refused
-- call come from (`age-admitted`, `age-declined`, `age-kept`, `age-outside`, `age-finite`); other allowances (`age-larger`, `age-draws`, `age-enough`); and that a call
-- leaves an accepted tree (`age-accepted`, `age-stays`). Assumes nothing.
use Rattle.std.specs.Prelude.{◌≡◌, true, false, ◌&&◌, List, ℕ, ◌≤◌, ◌<◌, length, Float, Result}
use Rattle.std.proofs.Common.{subst, arith}
use Rattle.answer.specs.declared.Refusal.{Refusal}
use Rattle.answer.specs.declared.Refusal.TheVariants as Refusals
use Rattle.answer.specs.declared.Ratio.{Ratio}
use Rattle.answer.specs.declared.Moved.{Moved}
use Rattle.answer.specs.declared.Answer.TheVariants as Answers
use Rattle.answer.specs.Answers.{draws_of}
use Rattle.random.specs.declared.Random.{Random}
use Rattle.random.specs.Generator.{after}
use Rattle.random.specs.Draw.{Draw, supply_of, allowed}
use Rattle.tree.specs.Tree.{Tree, nodes_of, tips_of}
use Rattle.tree.specs.New.{Accepted}
use Rattle.tree.specs.Valid.{Valid}
use Rattle.tree.specs.LowestLaws.{lowest-fine}
use Rattle.accepted.specs.AcceptedLaws.{valid-accepted}
use Rattle.accepted.specs.ValidatedLaws.{fine-valid}
use Rattle.calls.specs.Call.{Reply, makes, not_finite, outside, draws_made, Outcome, declined, moved, called_on}
use Rattle.calls.proofs.TreeCallLaws.{allows}
use Rattle.calls.proofs.LeavesLaws.{Replied, leaves-refused, leaves_kept, leaves-steps, leaves-within, leaves-draws, leaves-larger, leaves-enough, leaves-moved, leaves-declined, leaves-infinite, leaves-outside}
use Rattle.moves.specs.Ends.{tree_after, tree_left, Ends}
use Rattle.moves.specs.EndsLaws.{run_ends, left_so}
use Rattle.process.specs.declared.FossilizedBirthDeath.{FossilizedBirthDeath}
use Rattle.process.specs.Process.{process_finite}
use Rattle.ages.specs.Ages.{age_of, at_fault}
use Rattle.ages.specs.CheckedLaws.{Passed, passed}
use Rattle.dating.specs.TipAge.{tip_age, ages_checked, tip_age_call}
use Rattle.dating.specs.AgeEnds.{AgeAdmitted, AgeDeclined, AgeStrays, AgeExplained, is_moved, is_declined, is_outside}
use Rattle.dating.specs.AgeExplainedLaws.{age-explained}
use Rattle.dating.specs.AgeCheckLaws.{ages-fine, ages-same, ages-few}
use Rattle.dating.specs.AgeValidLaws.{sound-age, tip-age-valid}

module _ (minima maxima : List Float) (p : FossilizedBirthDeath) (t : Tree) (g : Random) where
  abbrev checks : ℕ → Result (Unit {0}) Refusal
  checks a = ages_checked minima maxima p t a

  abbrev program : Draw (Reply Outcome)
  program = tip_age minima maxima t

  -- on a tree that `Tree::new` accepts, with an age for each tip and no tip at fault, finite fields and an allowance within its limits, a call ends
  -- as moved, as declined, or in refusal 6, 7 or 8
  pub age-ends : Accepted t → length minima ≡ tips_of (nodes_of t.pairs) → length maxima ≡ tips_of (nodes_of t.pairs)
      → ((k : ℕ) → k < tips_of (nodes_of t.pairs) → at_fault p minima maxima k ≡ false)
      → process_finite p ≡ true → (a : ℕ) → allowed a ≡ true → Ends (tip_age_call minima maxima p t g a).answer
  unfolding tip_age_call
  age-ends v l u f h a k = run_ends t program g (checks a) (ages-fine minima maxima p t v l u f h a k) a

  -- a refused call, whatever it was given, hands back the generator, the pairs, the parents and the heights as they came
  pub age-refused : (a : ℕ) (why : Refusal) → (tip_age_call minima maxima p t g a).answer ≡ Answers.Refused why
      → tip_age_call minima maxima p t g a ≡ called_on (Answers.Refused why) g t
  unfolding tip_age_call
  age-refused a why = leaves-refused t program g (checks a) a why

  -- ---- draws

  -- the generator is stepped as often as the answer says that draws were made, and a refused call makes none
  pub age-steps : (a : ℕ) → (tip_age_call minima maxima p t g a).random ≡ after (draws_of (tip_age_call minima maxima p t g a).answer) g
  unfolding tip_age_call
  age-steps a = leaves-steps t program g (checks a) a

  -- no more than are allowed
  pub age-within : (a : ℕ) → draws_of (tip_age_call minima maxima p t g a).answer ≤ a
  unfolding tip_age_call
  age-within a = leaves-within t program g (checks a) a

  -- ---- what an answer comes from

  -- the program's reply
  comes : (a : ℕ) (r : Reply Outcome) → Replied program g (checks a) a r → AgeExplained minima maxima t r
  comes a r c = age-explained minima maxima t (supply_of g a) r c.supply c.ran

  -- a moved call is a tip and a drawn height that the rule admits, with the tree and the ratio that they make
  pub age-admitted : (a : ℕ) (v : Moved) → (tip_age_call minima maxima p t g a).answer ≡ Answers.Moved v
      → AgeAdmitted minima maxima t (tree_after (tip_age_call minima maxima p t g a) v.root) v.ratio
  unfolding tip_age_call
  age-admitted a v q = admits (comes a _ (leaves-moved t program g (checks a) a v q))
    where
      admits : {u : Tree} {r : Ratio} → AgeExplained minima maxima t (makes (moved u r)) → AgeAdmitted minima maxima t u r
      admits (is_moved x) = x

  -- a declined call has drawn a tip for which the rule declines
  pub age-declined : (a draws : ℕ) → (tip_age_call minima maxima p t g a).answer ≡ Answers.Declined draws → AgeDeclined minima maxima t
  unfolding tip_age_call
  age-declined a draws q = declines-so (comes a _ (leaves-declined t program g (checks a) a draws q))
    where
      declines-so : AgeExplained minima maxima t (makes declined) → AgeDeclined minima maxima t
      declines-so (is_declined x) = x

  -- and leaves the pairs, the parents and the heights as they came
  pub age-kept : (a draws : ℕ) → (tip_age_call minima maxima p t g a).answer ≡ Answers.Declined draws
      → tip_age_call minima maxima p t g a ≡ called_on (Answers.Declined draws) (after draws g) t
  unfolding tip_age_call
  age-kept a draws = leaves_kept t program g (checks a) a draws

  -- an 8 names a tip whose drawn height is outside its interval
  pub age-outside : (a k : ℕ) → (tip_age_call minima maxima p t g a).answer ≡ Answers.Refused (Refusals.Outside k) → AgeStrays minima maxima t k
  unfolding tip_age_call
  age-outside a k q = strays (comes a _ (leaves-outside t program g (checks a) a (ages-few minima maxima p t a) k q))
    where
      strays : AgeExplained minima maxima t (outside k) → AgeStrays minima maxima t k
      strays (is_outside x) = x

  -- no call is refused with a 7
  pub age-finite : (a k : ℕ) → (tip_age_call minima maxima p t g a).answer ≡ Answers.Refused (Refusals.NotFinite k) → ⊥
  unfolding tip_age_call
  age-finite a k q = never (comes a _ (leaves-infinite t program g (checks a) a (ages-few minima maxima p t a) k q))
    where
      never : AgeExplained minima maxima t (not_finite k) → ⊥
      never = elim [ ]

  -- ---- other allowances

  -- what was answered with an allowance is answered with a larger one, unless it was a 6
  pub age-larger : (a b : ℕ) → 1 ≤ a → a ≤ b → b ≤ 65535 → ((tip_age_call minima maxima p t g a).answer ≡ Answers.Refused (Refusals.Allowance a) → ⊥)
      → tip_age_call minima maxima p t g b ≡ tip_age_call minima maxima p t g a
  unfolding tip_age_call
  age-larger a b h o k =
      let y = ages-same minima maxima p t a b (allows a h (omega arith)) (allows b (omega arith) k) in
      leaves-larger t program g (checks a) (checks b) a b y o

  -- a call that is not refused says as many draws as its program makes
  pub age-draws : (a : ℕ) → ((why : Refusal) → (tip_age_call minima maxima p t g a).answer ≡ Answers.Refused why → ⊥)
      → draws_of (tip_age_call minima maxima p t g a).answer ≡ draws_made (tip_age minima maxima t) g a
  unfolding tip_age_call
  age-draws a = leaves-draws t program g (checks a) a

  -- an allowance of as many draws as the program makes is enough, whether the call moved, declined or ended in an 8: a 6 is answered only where more draws
  -- would be made
  pub age-enough : (a b : ℕ) → 1 ≤ a → a ≤ b → b ≤ 65535 → draws_made (tip_age minima maxima t) g b ≤ a
      → tip_age_call minima maxima p t g a ≡ tip_age_call minima maxima p t g b
  unfolding tip_age_call
  age-enough a b h o k =
      let y = ages-same minima maxima p t a b (allows a h (omega arith)) (allows b (omega arith) k) in
      leaves-enough t program g (checks a) (checks b) a b y o

  -- ---- what a call leaves is accepted

  -- a call that moved passed its checks
  moved-passed : (a : ℕ) (v : Moved) → (tip_age_call minima maxima p t g a).answer ≡ Answers.Moved v → Passed p minima maxima t (process_finite p && allowed a)
  unfolding tip_age_call ages_checked
  moved-passed a v q = passed p minima maxima t (process_finite p && allowed a) (leaves-moved t program g (checks a) a v q).fine

  -- `Tree::new` accepts what a call that moved leaves
  pub age-accepted : (a : ℕ) (v : Moved) → (tip_age_call minima maxima p t g a).answer ≡ Answers.Moved v → Accepted (tree_after (tip_age_call minima maxima p t g a) v.root)
  age-accepted a v q =
      let n = nodes_of t.pairs in
      let x = age-admitted a v q in
      let c = moved-passed a v q in
      let s = sound-age p minima maxima x.tip (lowest-fine (at_fault p minima maxima) _ (tips_of n) c.table x.tip x.listed.tip) in
      valid-accepted n _ (subst (Valid n) x.tree (tip-age-valid (fine-valid t c.tree) x.tip (age_of minima maxima x.tip) s x.height x.listed))

  -- and what any call on an accepted tree leaves
  pub age-stays : (a : ℕ) → Accepted t → Accepted (tree_left (tip_age_call minima maxima p t g a) t.root)
  age-stays a = left_so Accepted t g (tip_age_call minima maxima p t g a) (age-accepted a) (age-kept a) (age-refused a)
