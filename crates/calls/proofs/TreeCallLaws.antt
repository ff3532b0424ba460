-- What holds of every call on a tree, whatever its program: RunLaws with the checks of the tree and the limits. In order: what a call that was not
-- turned back has passed and drawn (`call-given`); draws (`call-steps`, `call-within`, `call-draws`); other allowances (`call-larger`, `call-enough`); and what
-- turns a call back past its checks (`call-refused`) and by them (`checked-few`). Assumes nothing.
use Rattle.std.specs.Prelude.{◌≡◌, ◌⊎◌, Bool, true, ◌&&◌, ℕ, ◌-◌, ◌≤◌, Result, Ok, Err}
use Rattle.std.proofs.Common.{arith, le-leb}
use Rattle.answer.specs.declared.Refusal.{Refusal}
use Rattle.answer.specs.declared.Refusal.TheVariants.{Parameter, Allowance, NotFinite, Outside}
use Rattle.random.specs.declared.Random.{Random}
use Rattle.random.specs.Generator.{after}
use Rattle.random.specs.Draw.{Draw, got, run, supply_of, allowed}
use Rattle.tree.specs.Tree.{Tree}
use Rattle.tree.specs.New.{validated}
use Rattle.accepted.specs.RefusalLaws.{AtMost, either, validated-few, few-more}
use Rattle.calls.specs.Call.{Reply, makes, refused, given, draws_made, and_then, limited, checked, call_of}
use Rattle.calls.proofs.EntryLaws.{Passed, passed}
use Rattle.calls.proofs.RunLaws.{run-given, run-steps, run-within, run-draws, run-larger, run-enough, run-refused}

-- from 1 to 65,535
pub allows : (a : ℕ) → 1 ≤ a → a ≤ 65535 → allowed a ≡ true
allows a h k = rw (le-leb 1 a h, le-leb a 65535 k)

-- the checks say the same of two such allowances
pub same-checks : (limits : Bool) (t : Tree) (a b : ℕ) → allowed a ≡ true → allowed b ≡ true → checked limits t b ≡ checked limits t a
unfolding checked
same-checks limits t a b h k = rw (h, k)

module _ {A : Type 0} (limits : Bool) (program : Draw (Reply A)) (t : Tree) (g : Random) where
  -- ---- a value

  -- the call passed its checks, and its program drew the value
  pub record Gave (allowance : ℕ) (a : A) (draws : ℕ) (h : Random) : Type 0 where
    pub passes : Passed limits t allowance
    pub left : ℕ
    pub ran : run program (supply_of g allowance) ≡ got (makes a) (supply_of h left)
    pub made : draws ≡ allowance - left

  -- a call that gave a value passed its checks, and its program drew the value
  pub call-given : (allowance : ℕ) (a : A) (draws : ℕ) (h : Random) → call_of limits program t g allowance ≡ given a draws h → Gave allowance a draws h
  unfolding call_of
  call-given allowance a draws h e =
      let c = run-given program g (checked limits t allowance) allowance a draws h e in
      record { passes = passed limits t allowance c.fine; left = c.left; ran = c.ran; made = c.made }

  module _ (allowance : ℕ) (a : A) (draws : ℕ) (h : Random) (e : call_of limits program t g allowance ≡ given a draws h) where
    -- the generator is stepped as often as the call says that it drew
    pub call-steps : h ≡ after draws g
    call-steps = run-steps program g (checked limits t allowance) allowance a draws h (unfold call_of in e)

    -- with no more draws than are allowed
    pub call-within : draws ≤ allowance
    call-within = run-within program g (checked limits t allowance) allowance a draws h (unfold call_of in e)

    -- as many as its program makes
    pub call-draws : draws ≡ draws_made program g allowance
    call-draws = run-draws program g (checked limits t allowance) allowance a draws h (unfold call_of in e)

  -- ---- other allowances

  -- what the call answered with an allowance it answers with a larger one, unless it was a 6
  pub call-larger : (a b : ℕ) → 1 ≤ a → a ≤ b → b ≤ 65535 → (call_of limits program t g a ≡ refused (Allowance a) → ⊥)
      → call_of limits program t g b ≡ call_of limits program t g a
  unfolding call_of
  call-larger a b h o k n =
      let y = same-checks limits t a b (allows a h (omega arith)) (allows b (omega arith) k) in
      rw y (run-larger program g (checked limits t a) a b o n)

  -- an allowance of as many draws as the program makes is enough, whatever it ends in: a 6 is given only where more draws would be made
  pub call-enough : (a b : ℕ) → 1 ≤ a → a ≤ b → b ≤ 65535 → draws_made program g b ≤ a → call_of limits program t g a ≡ call_of limits program t g b
  unfolding call_of
  call-enough a b h o k m =
      let y = same-checks limits t a b (allows a h (omega arith)) (allows b (omega arith) k) in
      rw y (run-enough program g (checked limits t a) a b o m)

  -- ---- what turns a call back

  -- past the checks, more draws needed than allowed, a height that is not finite, or one outside its interval
  pub call-refused : (allowance : ℕ) → Passed limits t allowance → (why : Refusal) → call_of limits program t g allowance ≡ refused why
      → (why ≡ Allowance allowance) ⊎ ((k : ℕ) × ((why ≡ NotFinite k) ⊎ (why ≡ Outside k)))
  unfolding call_of checked
  call-refused allowance p why = run-refused program g (checked limits t allowance) (rw (p.tree, p.within, p.allows)) allowance why

-- ---- the checks' own refusals

-- two checks in turn refuse with at most what each does
pub then-few : (m : ℕ) (v w : Result (Unit {0}) Refusal) → AtMost m v → AtMost m w → AtMost m (and_then v w)
then-few m (Ok tt) w h k = k
then-few m (Err why) w h k = h

-- limits refuse with a 5
pub limited-few : (limits : Bool) (allowance : ℕ) → AtMost 5 (limited limits allowance)
limited-few limits allowance = either (AtMost 5) (limits && allowed allowance) {x = (Ok tt)} {y = Err (Parameter 0)} tt (omega arith)

-- the checks of a call on a tree refuse with 1 to 5
pub checked-few : (limits : Bool) (t : Tree) (allowance : ℕ) → AtMost 5 (checked limits t allowance)
unfolding checked
checked-few limits t allowance =
    then-few 5 (validated t) (limited limits allowance) (few-more 4 5 (omega arith) (validated t) (validated-few t)) (limited-few limits allowance)
