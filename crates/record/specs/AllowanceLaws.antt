-- A record's allowance is read as 0 where its word is above 65,535. This shows that no call tells the two apart, so that the contracts of the exported
-- functions can be read as if they spoke of the word itself. Assumes nothing.
use Rattle.std.specs.Prelude.{◌≡◌, ℕ, Bool, true, false, cond, ◌&&◌, List, nat_le, nat_lt, refl, Result, Ok, Err}
use Rattle.std.proofs.Common.{sym, ◌∙◌, ltb-true}
use Rattle.std.proofs.Math.Path.{ap}
use Rattle.std.proofs.lemmas.Bool.{lt-leb}
use Rattle.answer.specs.declared.Refusal.TheVariants.{Parameter}
use Rattle.random.specs.declared.Random.{Random}
use Rattle.random.specs.Draw.{Draw, allowed, countable}
use Rattle.random.specs.BelowCall.{below_call}
use Rattle.tree.specs.Tree.{Tree}
use Rattle.tree.specs.New.{validated}
use Rattle.calls.specs.Call.{Reply, Outcome, and_then, limited, checked, run_call, call_of, leaves, tree_call}
use Rattle.calls.specs.Change.{Change, keeps, replying, value_call}
use Rattle.record.specs.Record.{word_in, allowance_in}
use Rattle.answer.specs.declared.Refusal.{Refusal}

-- ---- two allowances outside the limits

pub and-false : (b c : Bool) → c ≡ false → b && c ≡ false
and-false true c e = e
and-false false c e = refl

pub limited-outside : (limits : Bool) (a : ℕ) → allowed a ≡ false → limited limits a ≡ Err (Parameter 0)
limited-outside limits a e = rw (and-false limits (allowed a) e)

-- whatever is checked before the allowance
run-outside : {A : Type 0} (v : Result (Unit {0}) Refusal) (limits : Bool) (program : Draw (Reply A)) (g : Random) (a b : ℕ) → allowed a ≡ false → allowed b ≡ false
    → run_call (and_then v (limited limits a)) program g a ≡ run_call (and_then v (limited limits b)) program g b
run-outside (Err why) limits program g a b p q = refl
run-outside (Ok tt) limits program g a b p q = rw (limited-outside limits a p, limited-outside limits b q)

below-outside : (g : Random) (n a b : ℕ) → allowed a ≡ false → allowed b ≡ false → below_call g n a ≡ below_call g n b
unfolding below_call
below-outside g n a b p q = rw (and-false (countable n) (allowed a) p, and-false (countable n) (allowed b) q)

-- ---- the word and what is read of it

module _ (words : List ℕ) where
  -- what does not tell two allowances outside the limits apart does not tell these two apart
  pub same : {B : Type 0} (f : ℕ → B) → ((a b : ℕ) → allowed a ≡ false → allowed b ≡ false → f a ≡ f b) → f (allowance_in words) ≡ f (word_in words 5)
  same {B} f h = go (word_in words 5)
    where
      go : (w : ℕ) → f (cond (nat_lt 65535 w) 0 w) ≡ f w
      go w = split (nat_lt 65535 w) refl
        where
          split : (b : Bool) → nat_lt 65535 w ≡ b → f (cond b 0 w) ≡ f w
          split true e = h 0 w refl (and-false (nat_le 1 w) (nat_le w 65535) (lt-leb w 65535 (ltb-true 65535 w e)))
          split false e = refl

  pub limited-word : (limits : Bool) → limited limits (allowance_in words) ≡ limited limits (word_in words 5)
  limited-word limits = same (limited limits) (λ a b p q. limited-outside limits a p ∙ sym (limited-outside limits b q))

  pub run-word : {A : Type 0} (v : Result (Unit {0}) Refusal) (limits : Bool) (program : Draw (Reply A)) (g : Random)
      → run_call (and_then v (limited limits (allowance_in words))) program g (allowance_in words)
      ≡ run_call (and_then v (limited limits (word_in words 5))) program g (word_in words 5)
  run-word v limits program g = same (λ a. run_call (and_then v (limited limits a)) program g a) (run-outside v limits program g)

  pub call-word : {A : Type 0} (limits : Bool) (program : Draw (Reply A)) (t : Tree) (g : Random)
      → call_of limits program t g (allowance_in words) ≡ call_of limits program t g (word_in words 5)
  unfolding call_of checked
  call-word limits program t g = run-word (validated t) limits program g

  pub tree-word : (limits : Bool) (program : Draw (Reply Outcome)) (t : Tree) (g : Random)
      → tree_call limits program t g (allowance_in words) ≡ tree_call limits program t g (word_in words 5)
  unfolding tree_call
  tree-word limits program t g = ap (leaves t g) (call-word limits program t g)

  pub value-word : {P : Type 0} (limits : Bool) (program : Draw (Change P)) (v : P) (g : Random)
      → value_call limits program v g (allowance_in words) ≡ value_call limits program v g (word_in words 5)
  unfolding value_call
  value-word limits program v g = ap (keeps v g) (run-word (Ok tt) limits (replying program) g)

  pub below_word : (g : Random) (n : ℕ) → below_call g n (allowance_in words) ≡ below_call g n (word_in words 5)
  below_word g n = same (below_call g n) (below-outside g n)
