-- The ways through the loop that draws a node onto whose branch a parent may go. Assumes nothing.
use mathlib.Core.Path.{◌≡◌}
use mathlib.Core.Bool.{Bool, true, false}
use Prim.Native.Nat.{ℕ, ◌<◌}
use Rattle.std.specs.Prelude.{Some, None}
use Rattle.random.specs.declared.Supply.{Supply}
use Rattle.random.specs.Draw.{below, pick, drawn}
use Rattle.tree.specs.Tree.{Tree}
use Rattle.calls.specs.RedrawLaws.{redraw-fewer, redraw-spent, redraw-taken, redraw-passed}
use Rattle.moves.specs.Programs.{hosting, host}

module _ (n : ℕ) (t : Tree) (i : ℕ) (s₀ s : Supply) (inv : pick (host n t i) s₀ ≡ pick (host n t i) s) where
  pub host-spent : None ≡ drawn (pick (below n) s) → None ≡ drawn (pick (host n t i) s₀)
  unfolding host
  host-spent e = redraw-spent (hosting t i) (below n) s s₀ inv e

  module _ (j : ℕ) (u : Supply) (e : Some (j, u) ≡ drawn (pick (below n) s)) (b : Bool) (eb : b ≡ hosting t i j) where
    pub host-taken : b ≡ true → Some (j, u) ≡ drawn (pick (host n t i) s₀)
    unfolding host
    host-taken y = redraw-taken (hosting t i) (below n) s j u e s₀ inv (rw (← eb) y)

    pub host-passed : b ≡ false → pick (host n t i) s₀ ≡ pick (host n t i) u
    unfolding host
    host-passed y = redraw-passed (hosting t i) (below n) s j u e s₀ inv (rw (← eb) y)

pub host-fewer : (n : ℕ) (t : Tree) (i : ℕ) (s : Supply) (j : ℕ) (u : Supply) → Some (j, u) ≡ drawn (pick (below n) s) → u.left < s.left
host-fewer n t i s j u e = redraw-fewer (hosting t i) (below n) s j u e

pub ruleset host_laws = (host-spent, host-taken, host-passed, host-fewer)
