-- Which nodes are tips: "With n nodes, tips are 0 to (n+1)/2 − 1" is the test that the definitions make (`inner-tips`). Assumes nothing.
use Rattle.std.specs.Prelude.{◌≡◌, ℕ, ◌+◌, ◌%◌, leb}
use Rattle.std.proofs.Common.{sym, ◌∙◌, arith, lt-ltb, le-ltb, le-leb}
use Rattle.std.proofs.Math.Decide.{dec_lt}
use Rattle.std.proofs.lemmas.Bool.{lt-leb}
use Rattle.tree.specs.Tree.{tips_of, inner}

-- of an odd number of nodes, the inner ones are those that come after the tips
pub inner-tips : (n k : ℕ) → n % 2 ≡ 1 → inner n k ≡ leb (tips_of n) k
inner-tips n k o = elim (dec_lt n (k + k)) [
  | yes h ↦ lt-ltb n (k + k) h ∙ sym (le-leb (tips_of n) k (omega arith))
  | no h ↦ le-ltb n (k + k) (omega arith) ∙ sym (lt-leb (tips_of n) k (omega arith))
]
