-- Request S-5 of the exported functions of a generator and a tree: `below`, the seven moves, a slide's first call, and the unvalidated ones. Assumes nothing.
use Rattle.std.specs.Prelude.{◌≡◌, refl, ◌≢◌, cond, List, ℕ, ◌≤◌, length, set, Float, Result, Ok, Err}
use Rattle.std.proofs.Common.{sym, ◌∙◌, arith}
use Rattle.std.proofs.Math.Path.{ap}
use Rattle.std.proofs.Math.Bool.{true}
use Rattle.std.proofs.lemmas.List.{set_comm}
use Rattle.std.specs.Float.{binary64}
use Rattle.std.specs.Float.Ieee.{of_bits, to_bits}
use Rattle.answer.specs.Answers.{draws_of}
use Rattle.random.specs.declared.Random.{Random}
use Rattle.random.proofs.DrawLaws.{after-four}
use Rattle.random.specs.BelowCall.{below_call}
use Rattle.random.proofs.BelowCallLaws.{below-drawn}
use Rattle.lent.specs.LentLaws.{below-as-lent}
use Rattle.tree.specs.Tree.{Tree}
use Rattle.calls.specs.Call.{Called, Ending, refused, given, limited, checked, run_call, call_of}
use Rattle.calls.proofs.RunLaws.{run-steps}
use Rattle.moves.specs.Programs.{Start, slide_start}
use Rattle.moves.specs.Moves.{Move, subtree_slide, move_call, start_call, unvalidated_start}
use Rattle.moves.proofs.Demands.{steps}
use Rattle.slide.specs.declared.Started.{Started}
use Rattle.slide.specs.Started.{started_of}
use Rattle.record.specs.Record.{is_record, no_record, word_in, generator_in, node_in, tuning_in, allowance_in, with_generator, with_node, Written, written, on_record, replied, given_reply, refused_reply}
use Rattle.rove.specs.Exports.{Left, left, move_left, tree_in, exported, begun_left, start_exported, below_left, below_exported}
use Rattle.rove_unvalidated.specs.Unvalidated.{unvalidated_start_exported}
use Rattle.rove_unvalidated.specs.HostLaws.{accepted-export}
use Rattle.allowances.specs.Lasting.{answer_number, below_number, begun_number, written_number, written_with}
use Rattle.allowances.specs.Calls.{LastingStart}
use Rattle.allowances.specs.CallLaws.{lasting-calls}
use Rattle.allowances.specs.WordLaws.{elsewhere, record_same, root-same, generator-same, put-read, generator-beside, replied-beside, answered-beside, refusal-tells, answered-tells}
use Rattle.allowances.specs.Exports.{left_with, LastingWords, LastingLeft, LastingMove, LastingUnvalidated}
use Rattle.allowances.specs.KeptLaws.{Four, kept}
use Rattle.answer.specs.declared.Refusal.{Refusal}
use Rattle.slide.specs.declared.SlideNode.{SlideNode}

-- ---- a generator that was stepped from a record's

-- a first call's, however it ended
start-four : (t : Tree) (words : List ℕ) (v : Result (Unit {0}) Refusal) (a : ℕ) → Four (started_of (generator_in words) (run_call v (slide_start t) (generator_in words) a)).random
start-four t words v a = go (run_call v (slide_start t) (generator_in words) a) refl
  where
    go : (e : Ending Start) → run_call v (slide_start t) (generator_in words) a ≡ e → Four (started_of (generator_in words) e).random
    go (refused why) q = refl
    go (given s draws h) q = rw (run-steps (slide_start t) (generator_in words) v a s draws h q) (after-four draws (generator_in words) refl)

below-four : (words : List ℕ) (n a : ℕ) → Four (below_call (generator_in words) n a).1
below-four words n a = go (below_call (generator_in words) n a).0 (λ i. below_call (generator_in words) n a)
  where
    found : Random
    found = (below_call (generator_in words) n a).1

    go : (x : Result (ℕ × ℕ) Refusal) → below_call (generator_in words) n a ≡ (x, found) → Four found
    go (Ok (k, draws)) e = rw (below-drawn (generator_in words) n a k draws found e).moved (after-four draws (generator_in words) refl)
    go (Err why) e = rw (below-as-lent (generator_in words) n a found why (sym e))

-- ---- the generator's calls and the moves

below-left-beside : (x : Result (ℕ × ℕ) Refusal) (g : Random) (words : List ℕ) (b : ℕ) → Four g → below_left x g (set words 5 b) ≡ written_with b (below_left x g words)
below-left-beside (Ok (k, draws)) g words b four =
    ap (replied (given_reply draws k 0)) (generator-beside b g words four) ∙ replied-beside b (given_reply draws k 0) (with_generator g words)
below-left-beside (Err why) g words b four = replied-beside b (refused_reply why) words

below-tells : (x : Result (ℕ × ℕ) Refusal) (g : Random) (words : List ℕ) → 32 ≤ length words → below_number x ≡ 6 → written_number (below_left x g words) ≡ 6
below-tells (Ok (k, draws)) g words long e = absurd (omega arith)
below-tells (Err why) g words long e = refusal-tells words long why ∙ e

pub below-exported : LastingWords below_exported
unfolding below_exported
below-exported words b h o k n =
    rw (record_same words b, generator-same words b, elsewhere words b 6 tt, put-read words b h k)
    (kept (λ d. below_number d.0) (below_call (generator_in words) (node_in words)) (lasting-calls.below (generator_in words) (node_in words))
    written_number written_with (λ d w. below_left d.0 d.1 w) (written no_record) words b
    (let c = below_call (generator_in words) (node_in words) (allowance_in words) in record {
      beside = below-left-beside c.0 c.1 words b (below-four words (node_in words) (allowance_in words));
      bare = refl;
      tells = below-tells c.0 c.1 words;
    })
    h o k n)

module _ (m : Move) (pairs parents : List ℕ) (heights : List Float) (words : List ℕ) where
  abbrev moving : ℕ → Called
  moving a = move_call m (tree_in pairs parents heights words) (generator_in words) a

  move-four : (a : ℕ) → Four (moving a).random
  move-four a = rw (steps m (tree_in pairs parents heights words) (generator_in words) a) (after-four (draws_of (moving a).answer) (generator_in words) refl)

  move-exported : LastingLeft (exported m pairs parents heights) words
  unfolding exported
  move-exported b h o k n =
      rw (record_same words b, root-same words b, generator-same words b, put-read words b h k)
      (kept (λ c. answer_number c.answer) moving (lasting-calls.move m (tree_in pairs parents heights words) (generator_in words))
      (λ l. written_number l.written) left_with move_left (λ w. left (written no_record w) pairs parents heights) words b
      (let c = moving (allowance_in words) in record {
        beside = ap (λ (w : Written). left w c.pairs c.parents c.heights) (answered-beside b c.answer c.random words (move-four (allowance_in words)));
        bare = refl;
        tells = λ long. answered-tells words long c.answer c.random;
      })
      h o k n)

-- a move whose parameters stand beside the allowance
module _ (move : List ℕ → Move) (same : (words : List ℕ) (b : ℕ) → move (set words 5 b) ≡ move words) where
  pub checked-move : LastingMove move
  checked-move pairs parents heights words b h o k n = rw (same words b) (move-exported (move words) pairs parents heights words b h o k n)

  pub unvalidated-move : LastingUnvalidated move
  unvalidated-move pairs parents heights words v function meets b h o k n =
      let before = accepted-export (move words) pairs parents heights words v (meets words) in
      let after = accepted-export (move (set words 5 b)) pairs parents heights (set words 5 b) (rw (root-same words b) v) (meets (set words 5 b)) in
      after
      ∙ checked-move pairs parents heights words b h o k (λ e. n (ap (λ (l : Left). written_number l.written) before ∙ e))
      ∙ ap (left_with b) (sym before)

pub fixed : (m : Move) (words : List ℕ) (b : ℕ) → m ≡ m
fixed m words b = refl

pub tuning-same : (words : List ℕ) (b : ℕ) → tuning_in (set words 5 b) ≡ tuning_in words
tuning-same words b = ap (of_bits binary64) (elsewhere words b 7 tt)

pub slide-same : (words : List ℕ) (b : ℕ) → subtree_slide (node_in (set words 5 b)) (tuning_in (set words 5 b)) ≡ subtree_slide (node_in words) (tuning_in words)
slide-same words b = rw (elsewhere words b 6 tt, elsewhere words b 7 tt)

-- ---- a slide's first call

begun-beside : (x : Result SlideNode Refusal) (g : Random) (words : List ℕ) (b : ℕ) → Four g → begun_left x g (set words 5 b) ≡ written_with b (begun_left x g words)
begun-beside (Ok s) g words b four =
    let r = given_reply s.draws (to_bits binary64 s.first) (to_bits binary64 s.second) in
    ap (λ (w : List ℕ). replied r (with_node s.node w)) (generator-beside b g words four)
    ∙ ap (replied r) (set_comm (with_generator g words) 5 6 b s.node (λ e. absurd (omega arith)))
    ∙ replied-beside b r (with_node s.node (with_generator g words))
begun-beside (Err why) g words b four = replied-beside b (refused_reply why) words

begun-tells : (x : Result SlideNode Refusal) (g : Random) (words : List ℕ) → 32 ≤ length words → begun_number x ≡ 6 → written_number (begun_left x g words) ≡ 6
begun-tells (Ok s) g words long e = absurd (omega arith)
begun-tells (Err why) g words long e = refusal-tells words long why ∙ e

module _ (call : ℕ → Started) (lasting : LastingStart call) (words : List ℕ) (four : Four (call (allowance_in words)).random) (b : ℕ) where
  start-kept : 1 ≤ word_in words 5 → word_in words 5 ≤ b → b ≤ 65535
      → written_number (on_record words (begun_left (call (allowance_in words)).answer (call (allowance_in words)).random words)) ≢ 6
      → cond (is_record words) (begun_left (call b).answer (call b).random (set words 5 b)) (written no_record (set words 5 b))
      ≡ written_with b (on_record words (begun_left (call (allowance_in words)).answer (call (allowance_in words)).random words))
  start-kept =
      kept (λ s. begun_number s.answer) call lasting written_number written_with (λ s w. begun_left s.answer s.random w) (written no_record) words b
      (let s = call (allowance_in words) in record {
        beside = begun-beside s.answer s.random words b four;
        bare = refl;
        tells = begun-tells s.answer s.random words;
      })

module _ (pairs parents : List ℕ) (heights : List Float) where
  pub start-exported : LastingWords (start_exported pairs parents heights)
  unfolding start_exported call_of
  start-exported words b h o k n =
      let t = tree_in pairs parents heights words in
      let g = generator_in words in
      rw (record_same words b, root-same words b, generator-same words b, put-read words b h k)
      (start-kept (λ a. started_of g (start_call t g a)) (lasting-calls.slide-start t g) words (start-four t words (checked true t (allowance_in words)) (allowance_in words)) b h o k n)

  pub unvalidated-start : LastingWords (unvalidated_start_exported pairs parents heights)
  unfolding unvalidated_start_exported
  unvalidated-start words b h o k n =
      let t = tree_in pairs parents heights words in
      let g = generator_in words in
      rw (record_same words b, root-same words b, generator-same words b, put-read words b h k)
      (start-kept (λ a. started_of g (unvalidated_start t g a)) (lasting-calls.slide_start_unvalidated t g) words (start-four t words (limited true (allowance_in words)) (allowance_in words)) b h o k n)
