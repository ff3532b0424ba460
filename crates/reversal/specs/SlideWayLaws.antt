-- The ways of SubtreeSlide. In order: the ways that are admitted, with the branch onto which P goes (`Slides`), and that an admitted choice goes
-- one of them (`slides`); what follows from a way: no decline, the index, the tree and the ratio (`slid-only` to `ratio-down`); and what is to be
-- shown of the returning choice, way by way (`Returns`, `returns-back`). Assumes nothing.
use Rattle.std.specs.Prelude.{◌≡◌, ◌≢◌, Bool, true, ◌&&◌, ◌||◌, ℕ, ◌<◌, T, length, get_or, Float}
use Rattle.std.proofs.Math.Path.{refl}
use Rattle.std.proofs.Common.{◌∙◌, arith}
use Rattle.std.proofs.Math.Bool.{false}
use borrow.Author.Tests.{eq-eqb, ne_eqb}
use Rattle.std.proofs.Math.Dec.{eqb}
use Rattle.std.specs.Float.Ieee.{lt}
use Rattle.std.specs.Float.Ieee.Scale.{finite}
use Rattle.answer.specs.declared.Ratio.{Ratio}
use Rattle.answer.specs.declared.Ratio.TheVariants.{Even, Counts}
use Rattle.tree.specs.Tree.{Tree, parent, height, sibling, place}
use Rattle.tree.specs.Valid.{Valid}
use Rattle.edits.specs.Slots.{set_height}
use Rattle.rules.specs.Rules.{regraft, rises, lowers, branches, slide_declines, SlideListed, slide_to, slid, slide_ratio}
use Rattle.rules.specs.Moves.{SubtreeSlide}
use Rattle.reversal.specs.Reversed.{Turned}
use Rattle.reversal.specs.Back.{Kept, Back}
use Rattle.reversal.specs.FailedLaws.{or-first}
use Rattle.reversal.specs.BranchLaws.{Climb, climb-is, climb-only, branches-none}

-- ---- the ways

-- the slide is admitted and P goes onto the branch over j: up, onto an ancestral one or its own; down, but no further than the sibling, so that
-- only the height changes; or down onto one of those listed under the sibling
pub data Slides (n : ℕ) (t : Tree) (i : ℕ) (x : Float) (index : ℕ) : ℕ → Type 0 where
  up : {j : ℕ} → rises t i x ≡ true → Climb t x (parent t i) j → Slides n t i x index j
  level : rises t i x ≡ false → lt x (height t i) ≡ false → lt x (height t (sibling t i)) ≡ false → Slides n t i x index (parent t i)
  down : {j : ℕ} → rises t i x ≡ false → lt x (height t i) ≡ false → lt x (height t (sibling t i)) ≡ true
      → index < length (branches n t x (sibling t i)) → get_or (branches n t x (sibling t i)) index 0 ≡ j → Slides n t i x index j

module _ {n : ℕ} {t : Tree} (v : Valid n t) {i : ℕ} {x : Float} {index : ℕ} where
  -- an admitted choice goes one of the ways
  pub slides : SlideListed n t i x index → slide_declines n t i x ≡ false → Slides n t i x index (slide_to n t i x index)
  unfolding slide_declines slide_to
  slides l f = test (rises t i x) refl (lt x (height t (sibling t i))) refl
    where
      free : rises t i x ≡ false → (lt x (height t i) || (lt x (height t (sibling t i)) && eqb (length (branches n t x (sibling t i))) 0)) ≡ false
      free r = rw r at f

      test : (a : Bool) → rises t i x ≡ a → (b : Bool) → lt x (height t (sibling t i)) ≡ b → Slides n t i x index (slide_to n t i x index)
      test true r b s = rw r (up r (climb-is v x (v.below i l.node l.under).parent_node))
      test false r false s = rw (r, s) (level r (or-first _ _ (free r)) s)
      test false r true s = rw (r, s) (down r (or-first _ _ (free r)) s (l.picked (rw (r, s) tt) f) refl)

-- ---- what a way gives

module _ {n : ℕ} {t : Tree} {i : ℕ} {x : Float} {index : ℕ} where
  -- on each way the slide is not declined
  slides-free : {j : ℕ} → Slides n t i x index j → slide_declines n t i x ≡ false
  unfolding slide_declines
  slides-free (up r c) = rw r
  slides-free (level r a b) = rw (r, a, b)
  slides-free (down r a b h e) = rw (r, a, b, ne_eqb (length (branches n t x (sibling t i))) 0 (omega arith))

  -- and has its index if it needs one
  slides-picked : {j : ℕ} → Slides n t i x index j → T (lowers t i x) → index < length (branches n t x (sibling t i))
  slides-picked (up r c) h = absurd (rw r at h)
  slides-picked (level r a b) h = absurd (rw (r, b) at h)
  slides-picked (down r a b k e) h = k

-- the branch is the one that `slide_to` names
slides-to : {n : ℕ} {t : Tree} → Valid n t → {i : ℕ} → parent t i < n → {x : Float} {index j : ℕ} → Slides n t i x index j → slide_to n t i x index ≡ j
unfolding slide_to
slides-to v P {x} (up r c) = rw r (climb-only v x P c)
slides-to v P (level r a b) = rw (r, b)
slides-to v P (down r a b h e) = rw (r, b) e

module _ {n : ℕ} {t : Tree} (v : Valid n t) {i : ℕ} (P : parent t i < n) {x : Float} {index j : ℕ} (s : Slides n t i x index j) where
  -- on P's own branch only the height changes
  pub slid-only : j ≡ parent t i → slid n t i x index ≡ set_height t (parent t i) x
  unfolding slid
  slid-only e = rw (eq-eqb (slide_to n t i x index) (parent t i) (slides-to v P s ∙ e))

  -- and the ratio is even
  pub ratio-only : j ≡ parent t i → slide_ratio n t i x index ≡ Even
  unfolding slide_ratio
  ratio-only e = rw (eq-eqb (slide_to n t i x index) (parent t i) (slides-to v P s ∙ e))

  -- P goes onto another branch
  pub slid-onto : j ≢ parent t i → slid n t i x index ≡ regraft n t i j x
  unfolding slid
  slid-onto d = rw (slides-to v P s, ne_eqb j (parent t i) d)

  -- upwards the branches are counted in the tree that is made
  pub ratio-up : j ≢ parent t i → rises t i x ≡ true → {u : Tree} → slid n t i x index ≡ u
      → slide_ratio n t i x index ≡ Counts 1 (length (branches n u (height t (parent t i)) (sibling u i)))
  unfolding slide_ratio
  ratio-up d r e = rw (slides-to v P s, ne_eqb j (parent t i) d, r, e)

  -- downwards in the tree that is left
  pub ratio-down : j ≢ parent t i → rises t i x ≡ false → slide_ratio n t i x index ≡ Counts (length (branches n t x (sibling t i))) 1
  unfolding slide_ratio
  ratio-down d r = rw (slides-to v P s, ne_eqb j (parent t i) d, r)

-- ---- the returning choice

-- the returning choice's index on u, made of t: the place of i's old sibling under its new one
abbrev pub back_index : ℕ → Tree → Tree → ℕ → ℕ
back_index n t u i = place (branches n u (height t (parent t i)) (sibling u i)) (sibling t i)

-- where the new sibling is below the old height no branch is listed, and the index is 0
pub back_none : {n : ℕ} {u : Tree} → Valid n u → (t : Tree) (i : ℕ) → sibling u i < n → T (finite (height t (parent t i)))
    → T (lt (height u (sibling u i)) (height t (parent t i))) → back_index n t u i ≡ 0
unfolding place
back_none v t i S X h = rw (branches-none v (height t (parent t i)) S X h)

-- the slide from u to the old height goes one of the ways, gives t back and turns r over; its index is 0 where it picks no branch
pub record Returns (n : ℕ) (t : Tree) (i : ℕ) (u : Tree) (r : Ratio) : Type 0 where
  pub under : i ≢ u.root
  pub to : ℕ
  pub way : Slides n u i (height t (parent t i)) (back_index n t u i) to
  pub tree : slid n u i (height t (parent t i)) (back_index n t u i) ≡ t
  pub ratio : Turned r (slide_ratio n u i (height t (parent t i)) (back_index n t u i))
  pub unused : lowers u i (height t (parent t i)) ≡ false → back_index n t u i ≡ 0

-- that is what demand 3 asks, where u and r are what the slide makes of t, and u is kept
pub returns-back : {n : ℕ} {t : Tree} → Valid n t → {i : ℕ} {x : Float} {index : ℕ} → i < n → i ≢ t.root → Kept n t (slid n t i x index)
    → Returns n t i (slid n t i x index) (slide_ratio n t i x index) → Back n SubtreeSlide t (record { node = i; height = x; index = index })
returns-back {n} {t} v {i} {x} {index} I d k b = record {
  kept = k;
  listed = record {
    node = I;
    under = b.under;
    number = v.dated.number (parent t i) (v.below i I d).parent_node;
    picked = λ h f. slides-picked b.way h;
  };
  free = slides-free b.way;
  tree = b.tree;
  ratio = b.ratio;
}
