-- The pass stands beside a reader with values: it does so after each byte that leads on (`turn_on`, `turn-comma`, `turn-open`, `turn-close`), and it can tell
-- the answer where none does (`stops-here`), or where the text ends (`ends_here`). Assumes nothing.
use mathlib.Core.Path.{◌≡◌, refl, sym, ap, ◌∙◌, subst}
use mathlib.Core.Bool.{Bool, true, false}
use mathlib.Core.List.{List, [], ◌∷◌}
use Prim.Native.Nat.{ℕ, suc, ◌+◌, ◌-◌, ◌≤◌, ◌<◌}
use native.Mathlib.Omega.{arith}
use native.Mathlib.Numerals.{add-one}
use lib.Dec.{eqb}
use lib.ListN.{length, get_or, set, drop, drop_of_length-le, length-drop}
use lib.Seq.{drop-cons}
use borrow.Author.Tests.{eq-eqb, ne_eqb}
use Rattle.newick.specs.Newick.{Frame, Mode, start, Step, stuck, to, step, run}
use Rattle.newick.specs.RunLaws.{run_step}
use Rattle.newick.specs.PlaceLaws.{Fine, Keeps, step_keeps, run-stuck}
use Rattle.newick_spell.specs.Spelling.{spelling_in, spelling_of}
use Rattle.newick_spell.specs.Spots.{Spot, Start, To, Stuck, next_spot, spot_of, led_by, end_of}
use Rattle.newick_spell.specs.Stands.{back, comma_under, comma_before, Knows, Stands, Closes}
use Rattle.newick_spell.proofs.SpotLaws.{is_over, erased, at_end}
use Rattle.newick_spell.proofs.MoveLaws.{Moved, Moves, moved, knows_on, knows-comma, knows-open, knows-close, closes-one}
use Rattle.std.specs.Prelude.{Err}
use Rattle.newick_spell.specs.declared.Misspelling.TheVariants as Misspellings

-- ---- the reader's step

over-depth : (fs : List Frame) (d : ℕ) → d ≡ length fs → eqb d 0 ≡ is_over fs
over-depth [] d e = eq-eqb d 0 e
over-depth (f ∷ fs) d e = ne_eqb d 0 (λ z. omega arith)

-- where a byte leads on to a spot, the reader goes on
record Goes (b : ℕ) (m : Mode) (fs : List Frame) (led : Spot) : Type 0 where
  mode : Mode
  frames : List Frame
  goes : step m fs b ≡ to mode frames
  spot : led ≡ spot_of mode
  move : Moved b m fs mode frames
  fine : Fine mode frames

goes_on : (b : ℕ) (m : Mode) (fs : List Frame) (led : Spot) → Fine m fs → To led ≡ led_by (step m fs b) → Goes b m fs led
unfolding Keeps
goes_on b m fs led h e = go (step m fs b) refl (moved m fs b) (step_keeps m fs b h) e
  where
    go : (x : Step) → step m fs b ≡ x → Moves b m fs x → Keeps x → To led ≡ led_by x → Goes b m fs led
    go stuck f M K e = let z : ◌≡◌ {A = ℕ} 0 1 = cc in absurd (omega arith)
    go (to m' fs') f M K e = record { mode = m'; frames = fs'; goes = f; spot = cc; move = M; fine = K }

no_step : (x : Step) → Stuck ≡ led_by x → x ≡ stuck
no_step stuck e = refl
no_step (to m fs) e = let z : ◌≡◌ {A = ℕ} 0 1 = cc in absurd (omega arith)

pub stands-first : (s : List ℕ) (l : List Bool) → Stands s 0 Start 0 false l
unfolding back comma_under spelling_of
stands-first s l = record {
  mode = start;
  frames = [];
  spot = refl;
  knows = record { depth = refl; side = refl; told = λ k. refl; kept = tt; begun = refl };
  fine = refl;
  place = omega arith;
  deep = omega arith;
  rest = refl;
}

module _ (s : List ℕ) (at : ℕ) (p : Spot) (d : ℕ) (side : Bool) (l : List Bool) (S : Stands s at p d side l) where
  led-by : next_spot p side (eqb d 0) (get_or s at 0) ≡ led_by (step S.mode S.frames (get_or s at 0))
  led-by =
      (λ i. next_spot (S.spot i) (S.knows.side i) (over-depth S.frames d S.knows.depth i) (get_or s at 0))
      ∙ sym (erased S.mode S.frames (get_or s at 0) S.fine)

  -- by the byte there and what is behind it
  rest-is : at < length s → spelling_in (length s) (run S.mode S.frames (get_or s at 0 ∷ drop (suc at) s)) ≡ spelling_of s
  rest-is h = ap (λ (r : List ℕ). spelling_in (length s) (run S.mode S.frames r)) (sym (drop-cons s at 0 h)) ∙ S.rest

  pub ends_here : length s ≤ at → end_of p ≡ spelling_of s
  unfolding run
  ends_here h =
      ap end_of S.spot ∙ sym (at_end S.mode S.frames (length s))
      ∙ ap (λ (r : List ℕ). spelling_in (length s) (run S.mode S.frames r)) (sym (drop_of_length-le s {i = at} h)) ∙ S.rest

  module _ (h : at < length s) where
    pub stops-here : next_spot p side (eqb d 0) (get_or s at 0) ≡ Stuck → Err (Misspellings.Forbidden at) ≡ spelling_of s
    stops-here e =
        let long : length (get_or s at 0 ∷ drop (suc at) s) ≡ length s - at = ap length (sym (drop-cons s at 0 h)) ∙ length-drop at s in
        let k : at ≡ length s - length (get_or s at 0 ∷ drop (suc at) s) = omega arith in
        (λ i. Err (Misspellings.Forbidden (k i)))
        ∙ ap (spelling_in (length s)) (sym (run-stuck S.mode S.frames (get_or s at 0) (drop (suc at) s) (no_step _ (sym e ∙ led-by))))
        ∙ rest-is h

    -- ---- a byte that leads on

    module _ (led : Spot) (e : next_spot p side (eqb d 0) (get_or s at 0) ≡ To led) where
      goes-here : Goes (get_or s at 0) S.mode S.frames led
      goes-here = goes_on (get_or s at 0) S.mode S.frames led S.fine (sym e ∙ led-by)

      stands-next : (d' : ℕ) (side' : Bool) (l' : List Bool) → d' ≤ d + 1
          → Knows (get_or s at 0 ∷ back at s) goes-here.mode goes-here.frames d' side' l' → Stands s (at + 1) led d' side' l'
      unfolding back
      stands-next d' side' l' g K = subst (λ (i : ℕ). Stands s i led d' side' l') (sym (add-one at)) (record {
        mode = goes-here.mode;
        frames = goes-here.frames;
        spot = goes-here.spot;
        knows = K;
        fine = goes-here.fine;
        place = h;
        deep = let p = S.deep in omega arith;
        rest =
            ap (spelling_in (length s)) (sym (run_step _ _ (get_or s at 0) (drop (suc at) s) goes-here.mode goes-here.frames goes-here.goes))
            ∙ rest-is h;
      })

      pub turn_on : 44 < get_or s at 0 → Stands s (at + 1) led d side l
      turn_on b = stands-next d side l (omega arith) (knows_on goes-here.move b S.knows)

      pub turn-comma : get_or s at 0 ≡ 44 → Stands s (at + 1) led d true l
      turn-comma b = stands-next d true l (omega arith) (knows-comma goes-here.move b S.knows)

      pub turn-open : get_or s at 0 ≡ 40 → Stands s (at + 1) led (d + 1) false (set l d side)
      turn-open b = stands-next (d + 1) false (set l d side) (omega arith) (knows-open goes-here.move b S.knows)

      module _ (b : get_or s at 0 ≡ 41) where
        closing : (0 < d) × (d - 1 < length l → get_or l (d - 1) false ≡ comma_before s at)
        closing = closes-one goes-here.move b S.knows

        pub turn-some : 1 ≤ d
        turn-some = closing.0

        pub turn-closes : Closes s at (d - 1) l
        turn-closes = record { place = S.place; kept = closing.1 }

        pub turn-close : Stands s (at + 1) led (d - 1) (comma_before s at) l
        turn-close = stands-next (d - 1) (comma_before s at) l (omega arith) (knows-close goes-here.move b S.knows)
