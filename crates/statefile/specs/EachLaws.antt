-- So many lines of one form: how those read so far stand before the others (`after`), and what each line more, or the first that is wrong, makes of
-- them. Assumes nothing.
use Rattle.std.specs.Prelude.{◌≡◌, List, [], ◌∷◌, ◌++◌, ℕ, suc}
use Rattle.std.proofs.Math.Path.{refl}
use Rattle.std.proofs.Common.{sym, ap, append_assoc}
use Rattle.text.specs.Rules.{Rule, malformed, parsed}
use Rattle.statefile.specs.Lines.{Found, wrong, found, return, onward, ◌>>=◌, line, each}

module _ {A : Type 0} where
  -- values before those of the lines to come
  abbrev pub after : List A → Found (List A) → Found (List A)
  after l (wrong k) = wrong k
  after l (found m k s) = found (l ++ m) k s

  pub after_none : (x : Found (List A)) → after [] x ≡ x
  after_none (wrong k) = refl
  after_none (found m k s) = refl

  pub after-after : (l m : List A) (x : Found (List A)) → after l (after m x) ≡ after (l ++ m) x
  after-after l m (wrong k) = refl
  after-after l m (found n k s) = ap (λ (v : List A). found v k s) (sym (append_assoc l m n))

  module _ (rule : Rule A) (n k : ℕ) (t : List ℕ) where
    pub each-wrong : malformed ≡ rule t → each (suc n) rule k t ≡ wrong k
    unfolding onward ◌>>=◌ line each
    each-wrong e = rw (← e)

    pub each_more : (a : A) (u : List ℕ) → parsed a u ≡ rule t → each (suc n) rule k t ≡ after (a ∷ []) (each n rule (suc k) u)
    unfolding onward ◌>>=◌ return line each
    each_more a u e = rw (← e) (go (each n rule (suc k) u))
      where
        go : (x : Found (List A)) → onward x (λ l. return (a ∷ l)) ≡ after (a ∷ []) x
        go (wrong i) = refl
        go (found m i s) = refl

  pub each_none : (rule : Rule A) (k : ℕ) (t : List ℕ) → each 0 rule k t ≡ found [] k t
  unfolding return each
  each_none rule k t = refl
