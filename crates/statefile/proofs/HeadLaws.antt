-- The ways through the readers of lines 1 to 7. Assumes nothing.
use mathlib.Core.Path.{◌≡◌, sym, ap, ◌∙◌}
use mathlib.Core.List.{List}
use Prim.Native.Nat.{ℕ}
use native.Mathlib.Omega.{arith}
use lib.ListN.{drop}
use lib.Ieee.{Float, binary64, of_bits}
use mir.Val.{Fits}
use mir.Syntax.{w32}
use borrow.Author.Rules.{Fits-under}
use Rattle.text.specs.Places.{numbered}
use Rattle.forms.specs.Forms.{edition_line, draws_line, state_line, move_line, node_line, tuning_line, tips_line}
use Rattle.forms.specs.FormLaws.{draws-small, tips-small}
use Rattle.forms.specs.Given.{worded, named}
use Rattle.forms.specs.declared.Words.{Words}
use Rattle.forms.specs.declared.Kind.{Kind}
use Rattle.statefile.specs.Lines.{return, onward, ◌>>=◌, line}
use Rattle.statefile.specs.StateFile.{supplied, asked, head}
use Rattle.statefile.specs.Given.{supplied_given, asked_given, head_given}
use Rattle.statefile.specs.declared.Supplied.{Supplied}
use Rattle.statefile.specs.declared.Asked.{Asked}
use Rattle.std.specs.Prelude.{Option, Some, None, Result, Ok, Err}
use Rattle.statefile.specs.Given.{wrong_line}
use Rattle.statefile.specs.declared.WrongLine.{WrongLine}

-- ---- lines 1 to 3

module _ (s : List ℕ) (a : Option (ℕ × ℕ)) (ea : numbered s a ≡ edition_line s) where
  pub supplied-edition : a ≡ None → supplied_given s (Err (wrong_line 1)) ≡ supplied 1 s
  unfolding onward ◌>>=◌ line supplied
  supplied-edition n = rw (← ea, n)

  module _ (u i : ℕ) (b : Option (ℕ × ℕ)) (pa : a ≡ Some (u, i)) (eb : numbered s b ≡ draws_line (drop i s)) where
    pub supplied-draws : b ≡ None → supplied_given s (Err (wrong_line 2)) ≡ supplied 1 s
    unfolding onward ◌>>=◌ line supplied
    supplied-draws n = rw (← ea, pa, ← eb, n)

    module _ (x j : ℕ) (c : Option (Words × ℕ)) (pb : b ≡ Some (x, j)) (ec : worded s c ≡ state_line (drop j s)) where
      pub supplied-state : c ≡ None → supplied_given s (Err (wrong_line 3)) ≡ supplied 1 s
      unfolding onward ◌>>=◌ line supplied
      supplied-state n = rw (← ea, pa, ← eb, pb, ← ec, n)

      pub supplied-all : (w : Words) (l : ℕ) → c ≡ Some (w, l) → supplied_given s (Ok ((record { draws = x; words = w }), l)) ≡ supplied 1 s
      unfolding onward ◌>>=◌ return line supplied
      supplied-all w l n = rw (← ea, pa, ← eb, pb, ← ec, n)

-- draws are a number of u32
pub draws-fit : (s t : List ℕ) (a : Option (ℕ × ℕ)) (x i : ℕ) → numbered s a ≡ draws_line t → a ≡ Some (x, i) → Fits w32 x
draws-fit s t a x i e p = let l = draws-small t x (drop i s) (sym e ∙ ap (numbered s) p) in Fits-under w32 x 4294967296 (omega arith) tt

pub ruleset supplied_laws = (supplied-edition, supplied-draws, supplied-state, supplied-all, draws-fit)

-- ---- lines 4 to 6

module _ (s t : List ℕ) (m : Option (Kind × ℕ)) (em : named s m ≡ move_line t) where
  pub asked-move : m ≡ None → asked_given s (Err (wrong_line 4)) ≡ asked 4 t
  unfolding onward ◌>>=◌ line asked
  asked-move n = rw (← em, n)

  module _ (k : Kind) (i : ℕ) (a : Option (ℕ × ℕ)) (pm : m ≡ Some (k, i)) (ea : numbered s a ≡ node_line k (drop i s)) where
    pub asked-node : a ≡ None → asked_given s (Err (wrong_line 5)) ≡ asked 4 t
    unfolding onward ◌>>=◌ line asked
    asked-node n = rw (← em, pm, ← ea, n)

    module _ (x j : ℕ) (b : Option (ℕ × ℕ)) (pa : a ≡ Some (x, j)) (eb : numbered s b ≡ tuning_line k (drop j s)) where
      pub asked-tuning : b ≡ None → asked_given s (Err (wrong_line 6)) ≡ asked 4 t
      unfolding onward ◌>>=◌ line asked
      asked-tuning n = rw (← em, pm, ← ea, pa, ← eb, n)

      pub asked-all : (w l : ℕ) (f : Float) → b ≡ Some (w, l) → f ≡ of_bits binary64 w → asked_given s (Ok ((record { kind = k; node = x; tuning = f }), l)) ≡ asked 4 t
      unfolding onward ◌>>=◌ return line asked
      asked-all w l f n q = rw (q, ← em, pm, ← ea, pa, ← eb, n)

pub ruleset asked_laws = (asked-move, asked-node, asked-tuning, asked-all)

-- ---- lines 1 to 7

module _ (s : List ℕ) (a : Result (Supplied × ℕ) WrongLine) (ea : supplied_given s a ≡ supplied 1 s) where
  pub head-supplied : (w : WrongLine) → a ≡ Err w → head_given s (Err w) ≡ head 1 s
  unfolding onward ◌>>=◌ head
  head-supplied w n = rw (← ea, n)

  module _ (x : Supplied) (i : ℕ) (b : Result (Asked × ℕ) WrongLine) (pa : a ≡ Ok (x, i)) (eb : asked_given s b ≡ asked 4 (drop i s)) where
    pub head-asked : (w : WrongLine) → b ≡ Err w → head_given s (Err w) ≡ head 1 s
    unfolding onward ◌>>=◌ head
    head-asked w n = rw (← ea, pa, ← eb, n)

    module _ (y : Asked) (j : ℕ) (c : Option (ℕ × ℕ)) (pb : b ≡ Ok (y, j)) (ec : numbered s c ≡ tips_line (drop j s)) where
      pub head-tips : c ≡ None → head_given s (Err (wrong_line 7)) ≡ head 1 s
      unfolding onward ◌>>=◌ line head
      head-tips n = rw (← ea, pa, ← eb, pb, ← ec, n)

      pub head-all : (z l : ℕ) → c ≡ Some (z, l) → head_given s (Ok ((record { supplied = x; asked = y; tips = z }), l)) ≡ head 1 s
      unfolding onward ◌>>=◌ return line head
      head-all z l n = rw (← ea, pa, ← eb, pb, ← ec, n)

-- tips are a number of u32
pub tips-fit : (s t : List ℕ) (a : Option (ℕ × ℕ)) (x i : ℕ) → numbered s a ≡ tips_line t → a ≡ Some (x, i) → Fits w32 x
tips-fit s t a x i e p = let l = tips-small t x (drop i s) (sym e ∙ ap (numbered s) p) in Fits-under w32 x 4294967296 (omega arith) tt

pub ruleset head_laws = (head-supplied, head-asked, head-tips, head-all, tips-fit)
