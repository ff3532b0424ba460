-- The ways through the answer of a file: of a line that is not of its form, of a tree that is too large, and of a state.
-- Assumes nothing.
use mathlib.Core.Path.{◌≡◌, subst, sym, ap, ◌∙◌}
use mathlib.Core.List.{List}
use Prim.Native.Nat.{ℕ, ◌+◌, ◌*◌, ◌/◌, ◌≤◌, ◌<◌}
use native.Mathlib.Omega.{arith}
use lib.ListN.{length, take}
use lib.Seq.{take_at}
use lib.Ieee.{Float}
use Rattle.answer.specs.declared.Refusal.TheVariants.{Size, Line}
use Rattle.tree.specs.Tree.{nodes_of}
use Rattle.accepted.specs.NewLaws.{new-large}
use Rattle.statefile.specs.declared.Head.{Head}
use Rattle.statefile.specs.StateFile.{faulty, nodes_for, state_of, state_file}
use Rattle.statefile.specs.Given.{Held, file_given}
use Rattle.report.specs.Report.{refused_text, Delivery, delivered}
use Rattle.respond.specs.Respond.{tree_reply, state_reply, read_reply}
use Rattle.respond.specs.Given.{Room, nodes}
use Rattle.std.specs.Prelude.{Result, Ok, Err}
use Rattle.statefile.specs.declared.WrongLine.{WrongLine}

half : (k n : ℕ) → k ≡ 2 * n → k / 2 ≡ n
half k n e = omega arith

-- r is what was read of the file s into the slices ps and hs, which came as ps₀ and hs₀; d is what was delivered
module _ (s ps₀ ps qs : List ℕ) (hs₀ hs : List Float) (room : Room ps₀ qs hs₀) (r : Result Head WrongLine) (e : file_given s ps₀ hs₀ r ps hs) (out : List ℕ) (d : Delivery) where
  pub file-wrong : (w : WrongLine) → r ≡ Err w → d ≡ delivered out (refused_text (Line w.0)) → d ≡ delivered out (read_reply (state_file s))
  unfolding read_reply
  file-wrong w y h = let f : state_file s ≡ faulty w.0 = subst (λ (x : Result Head WrongLine). file_given s ps₀ hs₀ x ps hs) y e in rw f h

  module _ (head : Head) (y : r ≡ Ok head) (n : ℕ) (en : n ≡ nodes_for head.tips) where
    held : Held s head ps₀ ps hs₀ hs
    held = subst (λ (x : Result Head WrongLine). file_given s ps₀ hs₀ x ps hs) y e

    pub file-large : 4095 < n → d ≡ delivered out (refused_text (Size n)) → d ≡ delivered out (read_reply (state_file s))
    unfolding read_reply tree_reply
    file-large g h =
        let t = held.tree in
        let q : nodes_of t.pairs ≡ n = half (length t.pairs) (nodes_for head.tips) held.shown.places ∙ sym en in
        let g : 4095 < nodes_of t.pairs = rw q g in
        rw (held.is, new-large t.pairs t.heights g, q) h

    pub file-state : length hs ≡ length hs₀ → n ≤ length hs → d ≡ delivered out (state_reply (state_of head (nodes (take (n + n) ps) (take n hs)))) → d ≡ delivered out (read_reply (state_file s))
    unfolding read_reply
    file-state k g h =
        let m : n + n ≡ 2 * nodes_for head.tips = omega arith in
        let a : 2 * nodes_for head.tips ≤ length ps₀ = omega (arith, room.places) in
        let b : nodes_for head.tips ≤ length hs₀ = omega arith in
        let p : take (n + n) ps ≡ held.tree.pairs = ap (take (n + n)) (held.shown.pairs_held a) ∙ take_at held.tree.pairs _ (n + n) (held.shown.places ∙ sym m) in
        let q : take n hs ≡ held.tree.heights = ap (take n) (held.shown.heights_held b) ∙ take_at held.tree.heights _ n (held.shown.nodes ∙ sym en) in
        rw held.is (h ∙ (λ i. delivered out (state_reply (state_of head (nodes (p i) (q i))))))
