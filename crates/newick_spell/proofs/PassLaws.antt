-- The pass: the ways through its code, behind the last parenthesis (`end_laws`), behind a branch (`close_laws`), and where a subtree begins (`pass_laws`).
-- Assumes nothing.
use mathlib.Core.Path.{◌≡◌, refl, sym, ◌∙◌, subst}
use mathlib.Core.Bool.{Bool, true, false}
use mathlib.Core.List.{List}
use Prim.Native.Nat.{ℕ, ◌+◌, ◌-◌, ◌≤◌, ◌<◌}
use native.Mathlib.Omega.{arith}
use lib.Dec.{eqb}
use lib.ListN.{length, get_or, set}
use borrow.Author.Tests.{eqb-true, eq-eqb, ne_eqb}
use Rattle.newick_spell.specs.declared.Scan.{Scan}
use Rattle.std.proofs.Common.{Continue, Break}
use Rattle.newick_spell.specs.Tokens.{Passed}
use Rattle.newick_spell.specs.Spelling.{spelling_of}
use Rattle.newick_spell.specs.Spots.{Spot, Start, Sub, Made, Branch, Done, To, next_spot}
use Rattle.newick_spell.specs.Stands.{comma_before, Stands, Closes}
use Rattle.newick_spell.specs.Tokens.{is_sign, stopped, Waits, AtColon, AtTip, Lands, Ends, Finishes, Reaches}
use Rattle.newick_spell.proofs.TurnLaws.{stands-first, ends_here, stops-here, turn-comma, turn-open, turn-some, turn-closes, turn-close}
use Rattle.newick_spell.proofs.TokenLaws.{here-inside, takes-sign, breaks}
use Rattle.std.specs.Prelude.{Result, Ok, Err}
use Rattle.newick_spell.specs.declared.Misspelling.TheVariants as Misspellings
use Rattle.newick_spell.specs.declared.Misspelling.{Misspelling}

abbrev scan_at : ℕ → ℕ → Bool → Scan
scan_at at depth side = record { at = at; depth = depth; side = side }

-- ---- behind the last parenthesis

module _ (s : List ℕ) (at : ℕ) (u : Bool) (e : u ≡ is_sign s at 59) where
  last-waits : (side : Bool) (l : List Bool) → Stands s at Made 0 side l → Waits s at (eqb (get_or s at 0) 59) Done 0 side l
  unfolding next_spot
  last-waits side l S = record { spot = Made; stands = S; leads = λ h. refl; short = refl }

  pub end_more : u ≡ true → at + 1 < length s → Finishes s at (Err (Misspellings.Forbidden (at + 1)))
  unfolding next_spot
  end_more f h = λ side l S.
      stops-here s (at + 1) Done 0 side l (takes-sign s at 59 Done 0 side l (omega arith) (last-waits side l S) (sym e ∙ f)) h refl

  pub end-all : u ≡ true → length s ≤ at + 1 → Finishes s at (Ok tt)
  end-all f h = λ side l S. ends_here s (at + 1) Done 0 side l (takes-sign s at 59 Done 0 side l (omega arith) (last-waits side l S) (sym e ∙ f)) h

  pub end-not : u ≡ false → (r : Result (Unit {0}) Misspelling) → r ≡ stopped s at → Finishes s at r
  end-not f r g = λ side l S. g ∙ breaks s at (eqb (get_or s at 0) 59) Done 0 side l (last-waits side l S) (sym e ∙ f)

pub ruleset end_laws = (end_more, end-all, end-not)

-- ---- behind a branch

module _ (s : List ℕ) (at : ℕ) (d : ℕ) (l : List Bool) (S : Stands s at Branch d true l) (u : Bool) (e : u ≡ is_sign s at 41) where
  close-waits : Waits s at (eqb (get_or s at 0) 41) Made d true l
  unfolding next_spot
  close-waits = record { spot = Branch; stands = S; leads = λ h. refl; short = refl }

  pub close-not : u ≡ false → (a : Result (Unit {0}) Misspelling) → a ≡ stopped s at → a ≡ spelling_of s
  close-not f a g = g ∙ breaks s at (eqb (get_or s at 0) 41) Made d true l close-waits (sym e ∙ f)

  module _ (f : u ≡ true) where
    inside : (at < length s) × (get_or s at 0 ≡ 41)
    inside = let h = here-inside s at (eqb (get_or s at 0) 41) (sym e ∙ f) in (h.0, eqb-true (get_or s at 0) 41 h.1)

    leads : next_spot Branch true (eqb d 0) (get_or s at 0) ≡ To Made
    unfolding next_spot
    leads = rw (eq-eqb (get_or s at 0) 41 inside.1)

    pub close-some : 1 ≤ d
    close-some = turn-some s at Branch d true l S inside.0 Made leads inside.1

    pub close-closes : Closes s at (d - 1) l
    close-closes = turn-closes s at Branch d true l S inside.0 Made leads inside.1

    closed : Stands s (at + 1) Made (d - 1) (comma_before s at) l
    closed = turn-close s at Branch d true l S inside.0 Made leads inside.1

    pub close-last : d - 1 ≡ 0 → (r : Result (Unit {0}) Misspelling) → Finishes s (at + 1) r → r ≡ spelling_of s
    close-last z r F = F (comma_before s at) l (subst (λ (i : ℕ). Stands s (at + 1) Made i (comma_before s at) l) z closed)

    module _ (o : d - 1 ≡ 0 → ⊥) where
      colon-waits : AtColon s (at + 1) (d - 1) (comma_before s at) l
      unfolding next_spot
      colon-waits = record { spot = Made; stands = closed; leads = λ h. rw (ne_eqb (d - 1) 0 o); short = refl }

      module _ (r : Result ℕ ℕ) (E : Ends s (at + 1) r (AtColon s (at + 1))) where
        pub close-on : (x : Bool) → x ≡ comma_before s at → (to : ℕ) → r ≡ Ok to → Reaches s at (Continue (scan_at to (d - 1) x)) Branch l
        close-on x g to q =
            let L = subst (λ (r : Result ℕ ℕ). Lands s (at + 1) r (d - 1) (comma_before s at) l) q (E (d - 1) (comma_before s at) l colon-waits) in
            let k : at + 1 < to = L.0 in
            (omega arith, subst (λ (y : Bool). Stands s to Branch (d - 1) y l) (sym g) L.1)

        pub close-break : (x : ℕ) → r ≡ Err x → (a : Result (Unit {0}) Misspelling) → a ≡ stopped s x → a ≡ spelling_of s
        close-break x q a g =
            g ∙ subst (λ (r : Result ℕ ℕ). Lands s (at + 1) r (d - 1) (comma_before s at) l) q (E (d - 1) (comma_before s at) l colon-waits)

-- what the pass reaches
module _ (s : List ℕ) (at : ℕ) (r : Passed) (spot : Spot) (l : List Bool) (R : Reaches s at r spot l) where
  pub reached-told : (a : Result (Unit {0}) Misspelling) → r ≡ Break a → a ≡ spelling_of s
  reached-told a q = subst (λ (r : Passed). Reaches s at r spot l) q R

  module _ (to : Scan) (q : r ≡ Continue to) where
    reached-scan : Reaches s at (Continue to) spot l
    reached-scan = subst (λ (r : Passed). Reaches s at r spot l) q R

    pub reached-stands : Stands s to.at spot to.depth to.side l
    reached-stands = reached-scan.1

    pub reached-past : (from : ℕ) → from ≤ at → from ≤ to.at
    reached-past from h = let k = reached-scan.0 in omega arith

    pub reached-less : length s - to.at < length s - at
    reached-less = let k = reached-scan.0 in let p = reached-stands.place in omega arith

module _ (s : List ℕ) (at : ℕ) (d : ℕ) (side : Bool) (l : List Bool) (S : Stands s at Branch d side l) where
  pub all-second : side ≡ true → Stands s at Branch d true l
  all-second f = subst (λ (y : Bool). Stands s at Branch d y l) f S

  module _ (f : side ≡ false) (u : Bool) (e : u ≡ is_sign s at 44) where
    at_first : Stands s at Branch d false l
    at_first = subst (λ (y : Bool). Stands s at Branch d y l) f S

    comma-waits : Waits s at (eqb (get_or s at 0) 44) Sub d false l
    unfolding next_spot
    comma-waits = record { spot = Branch; stands = at_first; leads = λ h. refl; short = refl }

    pub all-not : u ≡ false → (a : Result (Unit {0}) Misspelling) → a ≡ stopped s at → a ≡ spelling_of s
    all-not g a h = h ∙ breaks s at (eqb (get_or s at 0) 44) Sub d false l comma-waits (sym e ∙ g)

    pub all-comma : u ≡ true → (from : ℕ) → from ≤ at → Reaches s from (Continue (scan_at (at + 1) d true)) Sub l
    unfolding next_spot
    all-comma g from k =
        let h = here-inside s at (eqb (get_or s at 0) 44) (sym e ∙ g) in
        (omega arith, turn-comma s at Branch d false l at_first h.0 Sub (rw h.1) (eqb-true (get_or s at 0) 44 h.1))

pub ruleset close_laws = (close-not, close-some, close-closes, close-last, close-on, close-break, reached-told, reached-stands, reached-past, reached-less, all-second, all-not, all-comma)

-- ---- where a subtree begins

earlier : (s : List ℕ) (i j : ℕ) (r : Passed) (spot : Spot) (l : List Bool) → i ≤ j → Reaches s j r spot l → Reaches s i r spot l
earlier s i j (Continue q) spot l h R = let k = R.0 in (omega arith, R.1)
earlier s i j (Break a) spot l h R = R

module _ (s : List ℕ) (at : ℕ) (d : ℕ) (side : Bool) (l : List Bool) where
  module _ (A : AtTip s at d side l) (r : Result ℕ ℕ) (E : Ends s at r (AtTip s at)) where
    module _ (e : ℕ) (q : r ≡ Ok e) where
      tip-lands : (at < e) × Stands s e Branch d side l
      tip-lands = subst (λ (r : Result ℕ ℕ). Lands s at r d side l) q (E d side l A)

      pub tip-stands : Stands s e Branch d side l
      tip-stands = tip-lands.1

      pub tip-reaches : (x : Passed) → Reaches s e x Sub l → Reaches s at x Sub l
      tip-reaches x R = let k = tip-lands.0 in earlier s at e x Sub l (omega arith) R

    pub tip-broken : (x : ℕ) → r ≡ Err x → (a : Result (Unit {0}) Misspelling) → a ≡ stopped s x → a ≡ spelling_of s
    tip-broken x q a g = g ∙ subst (λ (r : Result ℕ ℕ). Lands s at r d side l) q (E d side l A)

  module _ (S : Stands s at Sub d side l) (u : Bool) (e : u ≡ is_sign s at 40) where
    pub begins-tip : u ≡ false → AtTip s at d side l
    begins-tip f = record { stands = S; other = sym e ∙ f }

    module _ (f : u ≡ true) where
      opening : (at < length s) × (get_or s at 0 ≡ 40)
      opening = let h = here-inside s at (eqb (get_or s at 0) 40) (sym e ∙ f) in (h.0, eqb-true (get_or s at 0) 40 h.1)

      pub begins-open : (l' : List Bool) → l' ≡ set l d side → Stands s (at + 1) Sub (d + 1) false l'
      unfolding next_spot
      begins-open l' g = subst (Stands s (at + 1) Sub (d + 1) false) (sym g)
          (turn-open s at Sub d side l S opening.0 Sub (rw (eq-eqb (get_or s at 0) 40 opening.1)) opening.1)

module _ (s : List ℕ) (u : Bool) (e : u ≡ is_sign s 0 40) where
  first-waits : (l : List Bool) → Waits s 0 (eqb (get_or s 0 0) 40) Sub 0 false l
  unfolding next_spot
  first-waits l = record { spot = Start; stands = stands-first s l; leads = λ h. refl; short = refl }

  pub first-open : u ≡ true → (l l' : List Bool) → l' ≡ set l 0 false → Stands s 1 Sub 1 false l'
  unfolding next_spot
  first-open f l l' g =
      let h = here-inside s 0 (eqb (get_or s 0 0) 40) (sym e ∙ f) in
      subst (Stands s 1 Sub 1 false) (sym g)
      (turn-open s 0 Start 0 false l (stands-first s l) h.0 Sub (rw h.1) (eqb-true (get_or s 0 0) 40 h.1))

  pub first-not : u ≡ false → (l : List Bool) → (a : Result (Unit {0}) Misspelling) → a ≡ stopped s 0 → a ≡ spelling_of s
  first-not f l a g = g ∙ breaks s 0 (eqb (get_or s 0 0) 40) Sub 0 false l (first-waits l) (sym e ∙ f)

pub ruleset pass_laws = (reached-told, reached-stands, reached-less, tip-stands, tip-reaches, tip-broken, begins-tip, begins-open, first-open, first-not)
