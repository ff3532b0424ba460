-- The ways through the grandparents of NarrowExchange: how many there are (`grands_laws`), and one that is drawn (`grandparent_laws`). Assumes nothing.
use mathlib.Core.Path.{◌≡◌, refl, sym, ap, ◌∙◌}
use mathlib.Core.Bool.{Bool, true, false, cond}
use Prim.Native.Nat.{ℕ, zero, suc, ◌+◌, ◌-◌, ◌/◌, ◌≤◌, ◌<◌}
use native.Mathlib.Numerals.{add-one}
use native.Mathlib.Omega.{arith}
use borrow.Author.Tests.{le-ltb}
use mir.Val.{Fits}
use mir.Syntax.{w64}
use Rattle.std.specs.Prelude.{Some, None}
use Rattle.random.specs.declared.Supply.{Supply}
use Rattle.random.specs.Draw.{pick, drawn}
use Rattle.tree.specs.Tree.{Tree, inner}
use Rattle.rules.specs.Rules.{grand, grands}
use Rattle.calls.specs.Draws.{internal}
use Rattle.calls.specs.RedrawLaws.{redraw-fewer, redraw-spent, redraw-taken, redraw-passed}
use Rattle.moves.specs.Programs.{grandparent}

-- ---- how many there are

module _ (n : ℕ) (t : Tree) where
  no-grands : (m : ℕ) → m ≤ n - n / 2 → 0 ≡ grands n t m
  unfolding grands grand
  no-grands zero h = refl
  no-grands (suc m) h = rw (le-ltb n (m + m) (omega arith)) (no-grands m (omega arith))

  -- no tip is one
  pub grands-tips : 0 ≡ grands n t (n - n / 2)
  grands-tips = no-grands (n - n / 2) (omega arith)

  grands-most : (m : ℕ) → grands n t m ≤ m
  unfolding grands
  grands-most zero = omega arith
  grands-most (suc m) = go (grand n t m) (grands-most m)
    where
      go : (b : Bool) → grands n t m ≤ m → cond b (suc (grands n t m)) (grands n t m) ≤ suc m
      go true h = omega arith
      go false h = omega arith

  module _ (k count : ℕ) (e : count ≡ grands n t k) where
    pub grands-fit : Fits w64 n → k < n → Fits w64 (count + 1)
    grands-fit f h = let g = grands-most k in record { fits = omega arith }

    module _ (b : Bool) (eb : b ≡ grand n t k) (next : ℕ) where
      pub grands-more : b ≡ true → next ≡ count + 1 → next ≡ grands n t (k + 1)
      unfolding grands
      grands-more h f = rw (add-one k, ← eb, h, ← e) (f ∙ add-one count)

      pub grands-same : b ≡ false → next ≡ count → next ≡ grands n t (k + 1)
      unfolding grands
      grands-same h f = rw (add-one k, ← eb, h) (f ∙ e)

    pub grands-all : k ≤ n → n ≤ k → count ≡ grands n t n
    grands-all f g = let z : k ≡ n = omega arith in e ∙ ap (grands n t) z

pub ruleset grands_laws = (grands-tips, grands-fit, grands-more, grands-same, grands-all)

-- ---- one that is drawn

module _ (n : ℕ) (t : Tree) (s₀ s : Supply) (inv : pick (grandparent n t) s₀ ≡ pick (grandparent n t) s) where
  pub grandparent-spent : None ≡ drawn (pick (internal n) s) → None ≡ drawn (pick (grandparent n t) s₀)
  unfolding grandparent
  grandparent-spent e = redraw-spent (grand n t) (internal n) s s₀ inv e

  module _ (k : ℕ) (u : Supply) (e : Some (k, u) ≡ drawn (pick (internal n) s)) (b : Bool) (eb : b ≡ grand n t k) where
    pub grandparent-taken : b ≡ true → Some (k, u) ≡ drawn (pick (grandparent n t) s₀)
    unfolding grandparent
    grandparent-taken d = redraw-taken (grand n t) (internal n) s k u e s₀ inv (sym eb ∙ d)

    pub grandparent-passed : b ≡ false → pick (grandparent n t) s₀ ≡ pick (grandparent n t) u
    unfolding grandparent
    grandparent-passed d = redraw-passed (grand n t) (internal n) s k u e s₀ inv (sym eb ∙ d)

pub grandparent-fewer : (n : ℕ) (s : Supply) (k : ℕ) (u : Supply) → Some (k, u) ≡ drawn (pick (internal n) s) → u.left < s.left
grandparent-fewer n s k u e = redraw-fewer (inner n) (internal n) s k u e

pub ruleset grandparent_laws = (grandparent-spent, grandparent-taken, grandparent-passed, grandparent-fewer)
