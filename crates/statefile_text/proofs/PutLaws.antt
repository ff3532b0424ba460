-- The ways through the code that writes the text of a state. w is what was written before, v what is written in the end. Assumes nothing.
use mathlib.Core.Path.{◌≡◌, refl}
use mathlib.Core.Bool.{Bool, true, false, cond}
use mathlib.Core.List.{List}
use Prim.Native.Nat.{ℕ}
use lib.Ieee.{Float, binary64, of_bits, to_bits, size}
use Rattle.text.specs.Text.{bytes, word_text, decimal_text}
use Rattle.forms.specs.Forms.{name_of, takes_node, takes_tuning}
use Rattle.forms.specs.declared.Words.{Words}
use Rattle.forms.specs.declared.Kind.{Kind}
use Rattle.forms.specs.declared.Kind.TheVariants.{NodeHeight, SubtreeSlide, NarrowExchange, WideExchange, WilsonBalding, RootScale, TreeScale}
use Rattle.print.specs.Writing.{Written, write}
use Rattle.print.specs.WritingLaws.{write_then}
use Rattle.tree.specs.Tree.{nodes_of, tips_of}
use Rattle.notation.specs.Notation.{line, state_text, pairs_text, heights_text}
use Rattle.notation.specs.NotationLaws.{line-put}
use Rattle.statefile.specs.declared.Supplied.{Supplied}
use Rattle.statefile.specs.declared.Asked.{Asked}
use Rattle.statefile.specs.StateFile.{words_of, move_of, state_in}
use Rattle.statefile_text.specs.StateText.{kind_of, node_of, tuning_of, supplied_text, asked_text, nodes_text, file_text}

-- ---- the move that is asked for

pub kind-is : (k : Kind) (n : ℕ) (x : Float) → kind_of (move_of k n x) ≡ k
kind-is NodeHeight n x = refl
kind-is SubtreeSlide n x = refl
kind-is NarrowExchange n x = refl
kind-is WideExchange n x = refl
kind-is WilsonBalding n x = refl
kind-is RootScale n x = refl
kind-is TreeScale n x = refl

node-is : (k : Kind) (n : ℕ) (x : Float) → node_of (move_of k n x) ≡ cond (takes_node k) n 0
node-is NodeHeight n x = refl
node-is SubtreeSlide n x = refl
node-is NarrowExchange n x = refl
node-is WideExchange n x = refl
node-is WilsonBalding n x = refl
node-is RootScale n x = refl
node-is TreeScale n x = refl

bits_are : (k : Kind) (n : ℕ) (x : Float) → to_bits binary64 (tuning_of (move_of k n x)) ≡ cond (takes_tuning k) (to_bits binary64 x) 0
unfolding to_bits of_bits size
bits_are NodeHeight n x = refl
bits_are SubtreeSlide n x = refl
bits_are NarrowExchange n x = refl
bits_are WideExchange n x = refl
bits_are WilsonBalding n x = refl
bits_are RootScale n x = refl
bits_are TreeScale n x = refl

module _ (k : Kind) (n : ℕ) (x : Float) (b : Bool) where
  pub node-taken : b ≡ takes_node k → b ≡ true → n ≡ node_of (move_of k n x)
  node-taken e h = rw (node-is k n x, ← e, h)

  pub node-untaken : b ≡ takes_node k → b ≡ false → 0 ≡ node_of (move_of k n x)
  node-untaken e h = rw (node-is k n x, ← e, h)

  pub bits-taken : b ≡ takes_tuning k → b ≡ true → (r : ℕ) → r ≡ to_bits binary64 x → r ≡ to_bits binary64 (tuning_of (move_of k n x))
  bits-taken e h r er = rw (bits_are k n x, ← e, h) er

  pub bits-untaken : b ≡ takes_tuning k → b ≡ false → 0 ≡ to_bits binary64 (tuning_of (move_of k n x))
  bits-untaken e h = rw (bits_are k n x, ← e, h)

pub ruleset taken_laws = (node-taken, node-untaken, bits-taken, bits-untaken)

-- ---- the lines

module _ (w a b v : Written) where
  pub supplied-put : (draws : ℕ) (words : Words) → a ≡ write w (bytes "edition=1\n") → b ≡ write a (line (bytes "draws=") (decimal_text draws))
      → v ≡ write b (line (bytes "state=") (state_text (words_of words))) → v ≡ write w (supplied_text draws (words_of words))
  unfolding supplied_text line
  supplied-put draws words ea eb ev = write_then w b v _ _ (write_then w a b (bytes "edition=1\n") _ ea eb) ev

  pub asked-put : (k : Kind) (n : ℕ) (x : Float) (i t : ℕ) → i ≡ node_of (move_of k n x) → t ≡ to_bits binary64 (tuning_of (move_of k n x))
      → a ≡ write w (line (bytes "move=") (name_of k)) → b ≡ write a (line (bytes "node=") (decimal_text i)) → v ≡ write b (line (bytes "tuning=") (word_text t))
      → v ≡ write w (asked_text (move_of k n x))
  unfolding asked_text
  asked-put k n x i t ei et ea eb ev = rw (kind-is k n x, ← ei, ← et) (write_then w b v _ _ (write_then w a b _ _ ea eb) ev)

  pub nodes-put : (pairs : List ℕ) (heights : List Float) (n : ℕ) → n ≡ tips_of (nodes_of pairs) → a ≡ write w (line (bytes "tips=") (decimal_text n))
      → b ≡ write a (pairs_text pairs)
      → v ≡ write b (heights_text heights) → v ≡ write w (nodes_text pairs heights)
  unfolding nodes_text
  nodes-put pairs heights n en ea eb ev = rw (← en) (write_then w b v _ _ (write_then w a b _ _ ea eb) ev)

  pub all-put : (x : Supplied) (y : Asked) (pairs : List ℕ) (heights : List Float) → a ≡ write w (supplied_text x.draws (words_of x.words))
      → b ≡ write a (asked_text (move_of y.kind y.node y.tuning)) → v ≡ write b (nodes_text pairs heights) → v ≡ write w (file_text (state_in x y pairs heights))
  unfolding file_text
  all-put x y pairs heights ea eb ev = write_then w b v _ _ (write_then w a b _ _ ea eb) ev

pub ruleset part_laws = (line-put, supplied-put, asked-put, nodes-put, all-put)
