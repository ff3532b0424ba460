-- The ways through the unvalidated functions: words that are not ready, and words whose call was made. Assumes nothing.
use mathlib.Core.Path.{◌≡◌, refl, sym, ap, ◌∙◌}
use mathlib.Core.Bool.{Bool, true, false, cond}
use mathlib.Core.List.{List}
use Prim.Native.Nat.{ℕ}
use lib.Ieee.{Float}
use Rattle.answer.specs.declared.Refusal.TheVariants.{Parameter}
use Rattle.tree.specs.Tree.{Tree}
use Rattle.tree.specs.Given.{tree_of}
use Rattle.calls.specs.declared.Answered.{Answered}
use Rattle.calls.specs.Call.{called, limited}
use Rattle.calls.proofs.EntryLaws.{unvalidated-refused}
use Rattle.calls.specs.Given.{turned_back}
use Rattle.moves.specs.Moves.{Move, subtree_slide, root_scale, tree_scale, limits, program, UnvalidatedCall, unvalidated_start}
use Rattle.slide.specs.declared.Started.{Started}
use Rattle.slide.specs.Started.{started_of}
use Rattle.heights.specs.Given.{scaled_by}
use Rattle.record.specs.declared.Given.{Given}
use Rattle.record.specs.Record.{is_record, is_ready, no_record, word_in, generator_in, allowance_in, node_in, tuning_in, given_in, written, replied, refused_reply, unready, proposed, answered}
use Rattle.record.specs.AllowanceLaws.{limited-outside, limited-word}
use Rattle.record.specs.RoomLaws.{ready-is}
use Rattle.rove.specs.Exports.{left, tree_in, begun_left}
use Rattle.rove_unvalidated.specs.Unvalidated.{UnvalidatedExport, on-record, off_record, unvalidated_start_exported}
use Rattle.std.specs.Prelude.{Err}

-- ---- words that are not ready

module _ (words : List ℕ) (n : is_ready words ≡ false) (pairs parents : List ℕ) (heights : List Float) where
  abbrev t : Tree
  t = tree_in pairs parents heights words

  -- the allowance of words that are a record is refused, whatever else is checked
  over : is_record words ≡ true → (within : Bool) → limited within (allowance_in words) ≡ Err (Parameter 0)
  over e within = limited-word words within ∙ limited-outside within (word_in words 5) (rw e at n)

  unready-start : unready words ≡ unvalidated_start_exported pairs parents heights words
  unfolding unready unvalidated_start_exported
  unready-start = go (is_record words) refl
    where
      go : (x : Bool) → is_record words ≡ x → cond x (replied (refused_reply (Parameter 0)) words) (written no_record words)
          ≡ (let s = started_of (generator_in words) (unvalidated_start t (generator_in words) (allowance_in words)) in cond x (begun_left s.answer s.random words) (written no_record words))
      go false e = refl
      go true e = rw (over e true)

  unready-move : (m : Move) → UnvalidatedExport m pairs parents heights words (left (unready words) pairs parents heights)
  unfolding unready answered proposed
  unready-move m = go (is_record words) refl
    where
      go : (x : Bool) → is_record words ≡ x → UnvalidatedExport m pairs parents heights words (left (cond x (replied (refused_reply (Parameter 0)) words) (written no_record words)) pairs parents heights)
      go false e = off_record e
      go true e =
          on-record e _
          (unvalidated-refused pairs parents heights _ (limits m t) (limits m t) refl (allowance_in words) (Err (Parameter 0)) (sym (over e (limits m t)))
          (program m t) (generator_in words) (Parameter 0) refl (turned_back (Parameter 0) (generator_in words)) refl)

-- ---- the ways

-- b is what the test said of the words
module _ (words : List ℕ) (b : Bool) (eb : b ≡ is_ready words) (pairs parents : List ℕ) (heights : List Float) where
  -- r is the code returned, and after the words at the end
  module _ (n : b ≡ false) (r : ℕ) (after : List ℕ) (h : written r after ≡ unready words) where
    pub start-unready : written r after ≡ unvalidated_start_exported pairs parents heights words
    start-unready = h ∙ unready-start words (sym eb ∙ n) pairs parents heights

    pub move-unready : (m : Move) → UnvalidatedExport m pairs parents heights words (left (written r after) pairs parents heights)
    move-unready m = rw h (unready-move words (sym eb ∙ n) pairs parents heights m)

  -- q is what the record gives
  module _ (y : b ≡ true) (q : Given) (eq : q ≡ given_in words) (after : List ℕ) (r : ℕ) where
    pub start-done : (s : Started) → s ≡ started_of q.random (unvalidated_start (tree_of pairs parents heights q.root) q.random q.allowance)
        → written r after ≡ begun_left s.answer s.random words → written r after ≡ unvalidated_start_exported pairs parents heights words
    unfolding unvalidated_start_exported
    start-done s e h =
        rw (ready-is words b eb y)
        (h ∙ ap (λ (x : Started). begun_left x.answer x.random words)
        (e ∙ ap (λ (x : Given). started_of x.random (unvalidated_start (tree_of pairs parents heights x.root) x.random x.allowance)) eq))

    -- c is the call's answer, and ps, qs and hs the slices after it
    module _ (c : Answered) (w : written r after ≡ answered c.answer c.random words) (ps qs : List ℕ) (hs : List Float) where
      pub move-done : (m : Move)
          → UnvalidatedCall m (tree_of pairs parents heights q.root) q.random q.allowance (called c.answer c.random ps qs hs)
          → UnvalidatedExport m pairs parents heights words (left (written r after) ps qs hs)
      move-done m u =
          rw w
          (on-record (ready-is words b eb y) (called c.answer c.random ps qs hs)
          (rw eq at u))

      module _ (s : Float) (es : s ≡ tuning_in words) where
        pub root-scale-done : UnvalidatedCall (root_scale s) (tree_of pairs parents heights q.root) q.random q.allowance (called c.answer c.random ps qs hs)
            → UnvalidatedExport (root_scale (tuning_in words)) pairs parents heights words (left (written r after) ps qs hs)
        root-scale-done u = rw (← es) (move-done (root_scale s) u)

        -- the heights are scaled after the answer
        pub tree-scale-done : UnvalidatedCall (tree_scale s) (tree_of pairs parents heights q.root) q.random q.allowance (called c.answer c.random ps qs (scaled_by c.answer heights))
            → hs ≡ scaled_by c.answer heights → UnvalidatedExport (tree_scale (tuning_in words)) pairs parents heights words (left (written r after) ps qs hs)
        tree-scale-done u d = rw (← es) (move-done (tree_scale s) (rw d u))

        pub slide-done : (k : ℕ) → k ≡ node_in words
            → UnvalidatedCall (subtree_slide k s) (tree_of pairs parents heights q.root) q.random q.allowance (called c.answer c.random ps qs hs)
            → UnvalidatedExport (subtree_slide (node_in words) (tuning_in words)) pairs parents heights words (left (written r after) ps qs hs)
        slide-done k ek u = rw (← es, ← ek) (move-done (subtree_slide k s) u)

pub ruleset move_laws = (start-unready, move-unready, start-done, move-done, root-scale-done, tree-scale-done, slide-done)
