-- Request S-5 shown of every call by values (`lasting-calls`), by the law that each has on other allowances: `below-larger`, `larger`, `call-larger`, `run-larger`,
-- `age-larger` and `value-larger`, whose premise is that the answer is not the 6 with this allowance as its detail. Assumes nothing.
use Rattle.std.specs.Prelude.{◌≡◌, Bool, true, ℕ}
use Rattle.std.proofs.Common.{sym, ap, ◌∙◌, arith}
use Rattle.random.specs.declared.Random.{Random}
use Rattle.random.specs.Draw.{Draw}
use Rattle.random.proofs.DrawLaws.{allows}
use Rattle.random.specs.BelowCall.{below_call}
use Rattle.random.proofs.BelowCallLaws.{below-larger}
use Rattle.tree.specs.Tree.{Tree}
use Rattle.calls.specs.Call.{Ending, limited}
use Rattle.calls.specs.Change.{Change, value_call}
use Rattle.calls.proofs.RunLaws.{run-larger}
use Rattle.calls.proofs.TreeCallLaws.{call-larger}
use Rattle.calls.proofs.ChangeLaws.{value-larger}
use Rattle.moves.specs.Programs.{Start, slide_start}
use Rattle.moves.specs.Moves.{Move, move_call, start_call, unvalidated_start}
use Rattle.moves.proofs.Demands.{larger}
use Rattle.slide.specs.Started.{started_of}
use Rattle.scales.specs.Scales as Scales
use Rattle.clocks.specs.Clocks as Clocks
use Rattle.fields.specs.Fields as Fields
use Rattle.dating.specs.AgeDemands.{age-larger}
use Rattle.allowances.specs.Lasting.{Lasting, answer_number, proposal_number, below_number, begun_number}
use Rattle.allowances.specs.Calls.{LastingTree, LastingValue, LastingBelow, LastingStart, LastingCalls}

-- a call that is, at every allowance, one for which the statement holds
alike : {C : Type 0} (number : C → ℕ) (f call : ℕ → C) → ((a : ℕ) → f a ≡ call a) → Lasting number call → Lasting number f
alike number f call e l a b h o k n = e b ∙ l a b h o k (λ q. n (ap number (e a) ∙ q)) ∙ sym (e a)

below-lasting : (g : Random) (n : ℕ) → LastingBelow (below_call g n)
below-lasting g n a b h o k m = below-larger g n a b h o k (λ e. m (ap below_number e))

move-lasting : (m : Move) (t : Tree) (g : Random) → LastingTree (move_call m t g)
move-lasting m t g a b h o k n = larger m t g a b h o k (λ e. n (ap answer_number e))

-- the number of a slide's first call, by how it ended
abbrev begun : Random → Ending Start → ℕ
begun g e = begun_number (started_of g e).answer

start-lasting : (t : Tree) (g : Random) → LastingStart (λ a. started_of g (start_call t g a))
start-lasting t g a b h o k n = ap (started_of g) (call-larger true (slide_start t) t g a b h o k (λ e. n (ap (begun g) e)))

unvalidated-lasting : (t : Tree) (g : Random) → LastingStart (λ a. started_of g (unvalidated_start t g a))
unvalidated-lasting t g a b h o k n =
    let same : limited true b ≡ limited true a = rw (allows a h (omega arith), allows b (omega arith) k) in
    rw same (ap (started_of g) (run-larger (slide_start t) g (limited true a) a b o (λ e. n (ap (begun g) e))))

pub value-lasting : {P : Type 0} (limits : Bool) (program : Draw (Change P)) (v : P) (g : Random) → LastingValue (value_call limits program v g)
value-lasting limits program v g a b h o k n = value-larger limits program v g a b h o k (λ e. n (ap proposal_number e))

pub lasting-calls : LastingCalls
lasting-calls = record {
  below = below-lasting;
  below_lent = λ g n answer found e. alike (λ d. below_number d.0) (λ a. (answer a, found a)) (below_call g n) e (below-lasting g n);
  move = move-lasting;
  move_unvalidated = λ m t g v call c. alike (λ d. answer_number d.answer) call (move_call m t g) (λ a. (c a).decided v) (move-lasting m t g);
  slide-start = start-lasting;
  slide_start_unvalidated = unvalidated-lasting;
  tip_age = λ minima maxima p t g a b h o k n. age-larger minima maxima p t g a b h o k (λ e. n (ap answer_number e));
  scale = λ value upper tuning. value-lasting (Scales.scale_limits value upper tuning) (Scales.scale value upper tuning) value;
  clock-rate = λ mean tuning. value-lasting (Scales.clock_rate_limits mean tuning) (Scales.clock_rate mean tuning) mean;
  birth-difference = λ s upper tuning. value-lasting (Scales.speciation_limits s upper tuning) (Scales.birth_difference s upper tuning) s;
  birth-rate = λ s upper tuning. value-lasting (Scales.speciation_limits s upper tuning) (Scales.birth_rate s upper tuning) s;
  relative-death = λ s tuning. value-lasting _ (Scales.relative_death s tuning) s;
  clock-sigma = λ sigma rates tuning. value-lasting (Clocks.clock_limits sigma rates tuning) (Clocks.clock_sigma sigma tuning) sigma;
  branch-rate = λ sigma rates tuning. value-lasting (Clocks.clock_limits sigma rates tuning) (Clocks.branch_rate sigma rates tuning) rates;
  process = λ k priors p offset tuning. value-lasting (Fields.fbd_limits priors p offset tuning) (Fields.fbd k priors p offset tuning) p;
}
