-- The ways through the code that draws below n. A low word is fair: not for an n of 0, always from n on, else by the remainder. The loop: no
-- draw is left, a draw is taken, a draw is passed over, for its low word or for the number that it gives. Assumes nothing.
use Rattle.std.proofs.Common.{◌≡◌, ℕ, ◌+◌, ◌-◌, ◌*◌, ◌/◌, ◌%◌, ◌^◌, ◌<◌, ◌≤◌, Bool, true, false, not, eqb, leb, sym, ap, ◌∙◌, le_trans, le_of_lt, mod-lt, mod-eq_of_lt, arith, w64, Fits, le-ltb, lt-ltb, eq-eqb, ne_eqb, le-leb}
use native.Mathlib.Nat.{mod_self, mod-add-mod}
use Rattle.words.specs.declared.Wide.{Wide}
use Rattle.words.specs.Words.{two_words}
use Rattle.random.specs.Generator.{drawn_word}
use Rattle.random.specs.Draw.{Number, word, map, fair_low, fair, below, below_other, Drawn, spent, got, onward, pick, supply_of, drawn}
use Rattle.random.proofs.DrawLaws.{until-spent, until-found, until-again, until-on, below-yields}
use Rattle.random.proofs.WordLaws.{word_none, word-one}
use Rattle.random.specs.declared.Random.{Random}
use Rattle.random.specs.declared.Supply.{Supply}
use Rattle.std.specs.Prelude.{Some, None}

-- ---- the low word

module _ (n low : ℕ) where
  pub fair-zero : n < 1 → false ≡ fair_low n low
  fair-zero h = rw (le-ltb 0 n (omega arith))

  pub fair-large : 1 ≤ n → n ≤ low → true ≡ fair_low n low
  fair-large h k = rw (lt-ltb 0 n (omega arith), le-leb (2 ^ 64 % n) low (le_trans (le_of_lt (mod-lt (2 ^ 64) h)) k))

  pub fair-tested : 1 ≤ n → (threshold : ℕ) → threshold ≡ 2 ^ 64 % n → leb threshold low ≡ fair_low n low
  fair-tested h threshold e = rw (lt-ltb 0 n (omega arith), e)

pub ruleset fair_laws = (fair-zero, fair-large, fair-tested)

-- ---- the remainder, which is one more than that of 2 ^ 64 - 1, or none

module _ (n : ℕ) (h : 0 < n) where
  more : ((2 ^ 64 - 1) % n + 1) % n ≡ 2 ^ 64 % n
  more = mod-add-mod (2 ^ 64 - 1) n 1

  pub threshold-fits : Fits w64 n → Fits w64 ((2 ^ 64 - 1) % n + 1)
  threshold-fits f = let z = f.fits in let y = mod-lt (2 ^ 64 - 1) h in record { fits = omega arith }

  pub threshold-none : (2 ^ 64 - 1) % n + 1 ≡ n → 0 ≡ 2 ^ 64 % n
  threshold-none e = sym (sym more ∙ ap (λ (m : ℕ). m % n) e ∙ mod_self n)

  pub threshold-some : ((2 ^ 64 - 1) % n + 1 ≡ n → ⊥) → (2 ^ 64 - 1) % n + 1 ≡ 2 ^ 64 % n
  threshold-some d = let y = mod-lt (2 ^ 64 - 1) h in sym (mod-eq_of_lt (omega arith)) ∙ more

pub ruleset threshold_laws = (threshold-fits, threshold-none, threshold-some)

-- ---- one draw

-- g and left are the generator and the draws left
module _ (n : ℕ) (g : Random) (left : ℕ) where
  none : left ≤ 0 → pick (below n) (supply_of g left) ≡ spent
  unfolding below pick onward
  none h = rw (until-spent (fair n) word (supply_of g left) (word_none g left h))

  -- the draw, its product with n, and whether the low word is fair
  module _ (w : ℕ × Random) (ew : w ≡ drawn_word g) (p : Wide) (ep : p ≡ two_words (w.0 * n)) (b : Bool) (eb : b ≡ fair_low n p.low) (h : 0 < left) where
    taken : pick word (supply_of g left) ≡ got w.0 (supply_of w.1 (left - 1))
    taken = word-one g left h ∙ sym (λ i. got (ew i).0 (supply_of (ew i).1 (left - 1)))

    tested : fair n w.0 ≡ b
    unfolding fair
    tested = sym (eb ∙ ap (λ (x : Wide). fair_low n x.low) ep)

    found : b ≡ true → pick (below n) (supply_of g left) ≡ got p.high (supply_of w.1 (left - 1))
    unfolding below pick onward
    found t = rw (until-found (fair n) word (supply_of g left) w.0 (supply_of w.1 (left - 1)) taken (tested ∙ t), ep)

    again : b ≡ false → pick (below n) (supply_of g left) ≡ pick (below n) (supply_of w.1 (left - 1))
    unfolding below pick
    again f =
        ap (λ (x : Drawn ℕ). onward x (λ k u. got (k * n / 2 ^ 64) u))
        (until-again (fair n) word (supply_of g left) w.0 (supply_of w.1 (left - 1)) taken (tested ∙ f))

-- ---- the loop

-- s₀ is the supply at first; g and left are the generator and the draws left at this turn
module _ (n : ℕ) (s₀ : Supply) (g : Random) (left : ℕ) (inv : pick (below n) s₀ ≡ pick (below n) (supply_of g left)) where
  pub below_none : left ≤ 0 → None ≡ drawn (pick (below n) s₀)
  below_none h = rw (inv, none n g left h)

  -- as above, for the turn's draw
  module _ (w : ℕ × Random) (ew : w ≡ drawn_word g) (p : Wide) (ep : p ≡ two_words (w.0 * n)) (b : Bool) (eb : b ≡ fair_low n p.low) (h : 0 < left) where
    pub below-found : b ≡ true → Some (p.high, supply_of w.1 (left - 1)) ≡ drawn (pick (below n) s₀)
    below-found t = rw (inv, found n g left w ew p ep b eb h t)

    pub below_again : b ≡ false → pick (below n) s₀ ≡ pick (below n) (supply_of w.1 (left - 1))
    below_again f = inv ∙ again n g left w ew p ep b eb h f

pub ruleset below_laws = (below_none, below-found, below_again)

-- ---- the loop that passes over another number too

module _ (n base other : ℕ) (s₀ : Supply) (g : Random) (left : ℕ) (inv : pick (below_other n base other) s₀ ≡ pick (below_other n base other) (supply_of g left)) where
  abbrev test : ℕ → Bool
  test k = not (eqb k other)

  abbrev raised : Number
  raised = map (λ k. base + k) (below n)

  pub other_none : left ≤ 0 → None ≡ drawn (pick (below_other n base other) s₀)
  unfolding below_other pick onward
  other_none h = rw (inv, until-spent test raised (supply_of g left) (rw (none n g left h)))

  -- as above, for the turn's draw
  module _ (w : ℕ × Random) (ew : w ≡ drawn_word g) (p : Wide) (ep : p ≡ two_words (w.0 * n)) (b : Bool) (eb : b ≡ fair_low n p.low) (h : 0 < left) where
    abbrev after : Supply
    after = supply_of w.1 (left - 1)

    pub other-unfair : b ≡ false → pick (below_other n base other) s₀ ≡ pick (below_other n base other) after
    unfolding below_other pick
    other-unfair f = inv ∙ until-on test raised (supply_of g left) after (ap (λ (x : Drawn ℕ). onward x (λ k u. got (base + k) u)) (again n g left w ew p ep b eb h f))

    module _ (t : b ≡ true) where
      raised-found : pick raised (supply_of g left) ≡ got (base + p.high) after
      unfolding pick onward
      raised-found = rw (found n g left w ew p ep b eb h t)

      pub other_fits : base + n < 2 ^ 64 → Fits w64 (base + p.high)
      other_fits l = let z = below-yields n (supply_of g left) p.high after (found n g left w ew p ep b eb h t) in record { fits = omega arith }

      pub other-found : (base + p.high ≡ other → ⊥) → Some (base + p.high, after) ≡ drawn (pick (below_other n base other) s₀)
      unfolding below_other
      other-found d = rw (inv, until-found test raised (supply_of g left) (base + p.high) after raised-found (rw (ne_eqb (base + p.high) other d)))

      pub other-passed : base + p.high ≡ other → pick (below_other n base other) s₀ ≡ pick (below_other n base other) after
      unfolding below_other
      other-passed d = inv ∙ until-again test raised (supply_of g left) (base + p.high) after raised-found (rw (eq-eqb (base + p.high) other d))

pub ruleset other_laws = (other_none, other-unfair, other_fits, other-found, other-passed)
