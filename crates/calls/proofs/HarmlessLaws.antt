-- For the code of unvalidated calls on any slices. In order: drawing steps a supply (`number-stepped`, `program-stepped`); the ways in which a turn ends
-- (`mild_laws`), and a turn from a later supply (`mild-later`); and a call from its turn (`refused-harmless`, `turn-harmless`). Assumes nothing.
use Rattle.std.specs.Prelude.{◌≡◌, refl, Bool, true, false, ◌&&◌, cond, List, ℕ, ◌-◌, length, Float, Result, Ok, Err, Some}
use Rattle.std.proofs.Common.{sym, ◌∙◌, true≢false, arith}
use Rattle.std.proofs.Math.Path.{ap}
use Rattle.answer.specs.declared.Refusal.{Refusal}
use Rattle.answer.specs.declared.Refusal.TheVariants.{Parameter}
use Rattle.answer.specs.declared.Ratio.{Ratio}
use Rattle.answer.specs.declared.Answer.TheVariants as Answers
use Rattle.random.specs.declared.Random.{Random}
use Rattle.random.specs.declared.Supply.{Supply}
use Rattle.random.specs.Generator.{after}
use Rattle.random.specs.Draw.{Number, Draw, Drawn, spent, got, pick, run, supply_of, allowed, drawn}
use Rattle.random.specs.SupplyLaws.{drawn-got}
use Rattle.random.specs.Lawful.{Stepped}
use Rattle.random.proofs.DrawLaws.{stepped-refl, stepped-trans, pick-lawful, run-lawful}
use Rattle.tree.specs.Tree.{Tree}
use Rattle.tree.specs.Given.{tree_of}
use Rattle.calls.specs.declared.Turned.TheVariants as Turns
use Rattle.calls.specs.Call.{Reply, makes, not_finite, outside, Outcome, declined, moved, limited, Called, called, called_on}
use Rattle.calls.specs.Given.{After, after_on, turn_of, answered_of}
use Rattle.calls.proofs.RunLaws.{clash}
use Rattle.calls.specs.Harmless.{SameLengths, Harmless, Mild, moves, declines, spends, overflows, strays}

-- ---- drawing steps a supply

-- s is the turn's supply, u the one from which is drawn, and w the one after the draw
module _ (s u : Supply) (h : Stepped s u) where
  pub number-stepped : (n : Number) (k : ℕ) (w : Supply) → Some (k, w) ≡ drawn (pick n u) → Stepped s w
  number-stepped n k w e = stepped-trans h ((pick-lawful n).steps u k w (drawn-got (pick n u) k w e))

  pub program-stepped : {A : Type 0} (p : Draw A) (a : A) (w : Supply) → Some (a, w) ≡ drawn (run p u) → Stepped s w
  program-stepped p a w e = stepped-trans h ((run-lawful p).steps u a w (drawn-got (run p u) a w e))

-- ---- how a turn ends

module _ (pairs parents : List ℕ) (heights : List Float) (root : ℕ) (s u : Supply) where
  pub mild-moved : (top : ℕ) (r : Ratio) (ps qs : List ℕ) (hs : List Float) → Stepped s u → length ps ≡ length pairs → length qs ≡ length parents → length hs ≡ length heights
      → Mild (tree_of pairs parents heights root) s (after_on (Turns.Moved top r) u (tree_of ps qs hs top))
  mild-moved top r ps qs hs h p q d = moves top r u (tree_of ps qs hs top) h (record { pairs = p; parents = q; heights = d })

  pub mild-declined : Stepped s u → Mild (tree_of pairs parents heights root) s (after_on Turns.Declined u (tree_of pairs parents heights root))
  mild-declined h = declines u h

  pub mild-spent : Mild (tree_of pairs parents heights root) s (after_on Turns.Spent u (tree_of pairs parents heights root))
  mild-spent = spends u

  pub mild-not-finite : (k : ℕ) → Mild (tree_of pairs parents heights root) s (after_on (Turns.NotFinite k) u (tree_of pairs parents heights root))
  mild-not-finite k = overflows k u

  pub mild-outside : (k : ℕ) → Mild (tree_of pairs parents heights root) s (after_on (Turns.Outside k) u (tree_of pairs parents heights root))
  mild-outside k = strays k u

-- what is mild from a later supply is mild from the turn's
pub mild-later : {t : Tree} {s u : Supply} {a : After} → Stepped s u → Mild t u a → Mild t s a
mild-later h (moves root r w x p l) = moves root r w x (stepped-trans h p) l
mild-later h (declines w p) = declines w (stepped-trans h p)
mild-later h (spends w) = spends w
mild-later h (overflows k w) = overflows k w
mild-later h (strays k w) = strays k w

-- what a program's run makes from a supply is mild, where the slices keep their lengths
module _ (t : Tree) (s u : Supply) (program : Draw (Reply Outcome)) where
  ran-mild : (d : Drawn (Reply Outcome)) → run program u ≡ d → SameLengths t (tree_of (turn_of t s d).pairs (turn_of t s d).parents (turn_of t s d).heights 0)
      → Mild t u (turn_of t s d)
  unfolding turn_of
  ran-mild spent f l = spends s
  ran-mild (got (not_finite k) w) f l = overflows k w
  ran-mild (got (outside k) w) f l = strays k w
  ran-mild (got (makes declined) w) f l = declines w ((run-lawful program).steps u _ w f)
  ran-mild (got (makes (moved x r)) w) f l = moves x.root r w x ((run-lawful program).steps u _ w f) (record { pairs = l.pairs; parents = l.parents; heights = l.heights })

  pub run-mild : (a : After) → a ≡ turn_of t s (run program u) → length a.pairs ≡ length t.pairs → length a.parents ≡ length t.parents
      → length a.heights ≡ length t.heights → Mild t u a
  run-mild a e p q h = rw e (ran-mild (run program u) refl (record { pairs = rw e at p; parents = rw e at q; heights = rw e at h }))

pub ruleset mild_laws = (stepped-refl, number-stepped, program-stepped, mild-moved, mild-declined, mild-spent, mild-not-finite, mild-outside, mild-later)

-- ---- a call from its turn

-- the call, from what its turn leaves
abbrev pub answering : Random → ℕ → After → Called
answering g allowance a = let r = answered_of a.turned a.supply g allowance in called r.answer r.random a.pairs a.parents a.heights

module _ (limits : Bool) (t : Tree) (g : Random) (allowance : ℕ) where
  -- refused, with all as it came
  pub back-harmless : (why : Refusal) → (limits && allowed allowance ≡ false → why ≡ Parameter 0) → Harmless limits t g allowance (called_on (Answers.Refused why) g t)
  unfolding after
  back-harmless why h =
      record {
        limited = λ f. ap (λ (x : Refusal). called_on (Answers.Refused x) g t) (h f);
        refused = λ y e. let z : why ≡ y = cc in ap (λ (x : Refusal). called_on (Answers.Refused x) g t) z;
        declined = λ k e. clash cc;
        steps = refl;
        within = omega arith;
        pairs = refl;
        parents = refl;
        heights = refl;
      }

  -- v is what was said of the limits
  module _ (v : Result (Unit {0}) Refusal) (e : v ≡ limited limits allowance) where
    pub refused-harmless : (why : Refusal) → v ≡ Err why → Harmless limits t g allowance (called_on (Answers.Refused why) g t)
    refused-harmless why y = back-harmless why (λ f. let z : Err why ≡ Err (Parameter 0) = sym y ∙ e ∙ rw f in cc)

    -- past them nothing is refused for its parameters
    passed-limits : v ≡ (Ok tt) → limits && allowed allowance ≡ true
    passed-limits y = go (limits && allowed allowance) (sym e ∙ y)
      where
        go : (b : Bool) → ◌≡◌ {A = Result (Unit {0}) Refusal} (cond b (Ok tt) (Err (Parameter 0))) (Ok tt) → b ≡ true
        go true f = refl
        go false f = clash cc

    module _ (y : v ≡ (Ok tt)) where
      not-limited : {X : Type 0} → limits && allowed allowance ≡ false → X
      not-limited f = absurd (true≢false (sym (passed-limits y) ∙ f))

      pub turn-harmless : (a : After) → Mild t (supply_of g allowance) a → Harmless limits t g allowance (answering g allowance a)
      unfolding answered_of
      turn-harmless a (moves root r u w p l) =
          record {
            limited = λ f. not-limited f;
            refused = λ why q. clash cc;
            declined = λ k q. clash cc;
            steps = p.moved;
            within = omega arith;
            pairs = l.pairs;
            parents = l.parents;
            heights = l.heights;
          }
      turn-harmless a (declines u p) =
          record {
            limited = λ f. not-limited f;
            refused = λ why q. clash cc;
            declined = λ k q.
                let z : allowance - u.left ≡ k = cc in
                rw (← z, p.moved);
            steps = p.moved;
            within = omega arith;
            pairs = refl;
            parents = refl;
            heights = refl;
          }
      turn-harmless a (spends u) = back-harmless _ (λ f. not-limited f)
      turn-harmless a (overflows k u) = back-harmless _ (λ f. not-limited f)
      turn-harmless a (strays k u) = back-harmless _ (λ f. not-limited f)
