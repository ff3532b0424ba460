-- The ways through `validate`. Assumes nothing.
use mathlib.Core.Path.{◌≡◌, sym, ◌∙◌, subst}
use mathlib.Core.Bool.{Bool, true}
use mathlib.Core.List.{List}
use Prim.Native.Nat.{ℕ}
use lib.Dec.{T}
use lib.ListN.{length}
use lib.Ieee.{Float}
use Rattle.tree.specs.Tree.{Tree}
use Rattle.tree.specs.Given.{sizes_fit, tree_of}
use Rattle.tree.specs.New.{validated}
use Rattle.tree.specs.Valid.{Sized}
use Rattle.accepted.specs.ValidatedLaws.{valid-fine}
use Rattle.quick.specs.Quick.{strict, Lent}
use Rattle.quick.specs.PassedLaws.{sizes-lent}
use Rattle.quick.specs.QuickLaws.{strict-valid}
use Rattle.std.specs.Prelude.{Ok}

module _ (pairs ps : List ℕ) (hs : List Float) (b : Bool) (e : b ≡ sizes_fit (length hs) (length pairs) (length ps) (length hs)) (y : b ≡ true) where
  fits : (root : ℕ) → Sized (length hs) (tree_of pairs ps hs root)
  fits root = sizes-lent pairs ps hs root (subst T (sym y ∙ e) tt)

  pub entry-lent : Lent pairs ps hs
  entry-lent = fits 0

  pub entry-fine : (root : ℕ) (t : Tree) → tree_of pairs ps hs root ≡ t → (s : Bool) → s ≡ strict (length hs) (tree_of pairs ps hs root) → s ≡ true → Ok tt ≡ validated t
  entry-fine root t v s f x =
      let t = tree_of pairs ps hs root in
      rw (← v) (sym (valid-fine (length hs) t (strict-valid (length hs) t (fits root) (subst T (sym x ∙ f) tt))))

pub ruleset entry_laws = (entry-lent, entry-fine)
