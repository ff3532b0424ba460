-- What is printed from a state reads back as that state (`read_back`). Assumes nothing.
use Rattle.std.specs.Prelude.{◌≡◌, refl, Bool, true, false, cond, ℕ, suc, ◌+◌, ◌-◌, ◌*◌, ◌^◌, ◌≤◌, ◌<◌, get_or, drop, replicate, Float}
use Rattle.std.proofs.Math.Path.{sym, ap}
use Rattle.std.proofs.Common.{◌∙◌, add-zero, add-one, arith, lit<, get_or-drop, drop-drop, drop_at}
use mathlib.Core.List.{List, [], ◌∷◌, ◌++◌, map, append_assoc}
use Rattle.std.proofs.Math.ListN.{length}
use Rattle.std.proofs.lemmas.List.{length-replicate}
use Rattle.std.specs.Float.{nan, binary64}
use Rattle.std.specs.Float.Ieee.{of_bits, to_bits, size}
use Rattle.std.specs.Float.Ieee.Bits.{of_bits-to_bits, to_bits-lt}
use Rattle.text.specs.Text.{bytes, line_end, digit, hex_text, word_text, decimal_text}
use Rattle.text.specs.Rules as Rules
use Rattle.text.specs.Rules.{parsed, literal, fixed, word, decimal}
use Rattle.text.specs.ReadBackLaws.{word-reads, decimal-reads}
use Rattle.forms.specs.Forms as Forms
use Rattle.forms.specs.Forms.{most_nodes, most_elsewhere, next, words, name_of, kinds, one_of, takes_node, takes_tuning, edition_line, draws_line, state_line, move_line, node_line, tuning_line, tips_line, pair_line, height_line}
use Rattle.forms.specs.declared.Words.{Words}
use Rattle.forms.specs.declared.Kind.{Kind}
use Rattle.forms.specs.declared.Kind.TheVariants.{NodeHeight, SubtreeSlide, NarrowExchange, WideExchange, WilsonBalding, RootScale, TreeScale}
use Rattle.tree.specs.Tree.{no_node, nodes_of, tips_of}
use Rattle.moves.specs.Moves.{Move, node_height, subtree_slide, narrow_exchange, wide_exchange, wilson_balding, root_scale, tree_scale}
use Rattle.notation.specs.Notation as Notation
use Rattle.notation.specs.Notation.{comma, bits_text, state_text, pair_lines, pairs_text, heights_text}
use Rattle.statefile.specs.declared.Head.{Head}
use Rattle.statefile.specs.Lines.{found, return, onward, ◌>>=◌, each, end}
use Rattle.statefile.specs.StateFile.{State, read, closed, real, words_of, move_of, slots, nodes_for, state_of, supplied, asked, head, tree, state, state_file}
use Rattle.statefile.specs.EachLaws.{each_none}
use Rattle.statefile.specs.SlotLaws.{tips-long}
use Rattle.statefile_text.specs.StateText.{kind_of, node_of, tuning_of, supplied_text, asked_text, tips_text, nodes_text, file_text, FourWords, is_real, FileTree, Writable}
use Rattle.statefile_text.specs.ReadingLaws.{regroup, rule-then, reader-then, line-then, each_next, fixed_reads, next-reads, entry-reads}

-- ---- numbers and words

module _ (n limit : ℕ) (rest : List ℕ) (few : n ≤ limit) (large : limit < 2 ^ 64) where
  number-reads : (key : List ℕ) → Forms.entry key (decimal limit) (Notation.line key (decimal_text n) ++ rest) ≡ parsed n rest
  number-reads key = entry-reads n rest (decimal limit) key (decimal_text n) (decimal-reads n limit (line_end ++ rest) few large refl)

-- the bits of a float
bits-reads : (x : Float) (rest : List ℕ) → is_real x → word (bits_text x ++ rest) ≡ parsed (to_bits binary64 x) rest
bits-reads x rest f = word-reads (to_bits binary64 x) rest (to_bits-lt binary64 x f)

bits_back : (x : Float) → is_real x → real (to_bits binary64 x) ≡ x
bits_back x f = of_bits-to_bits binary64 x f

-- ---- the generator

abbrev words_in : List ℕ → Words
words_in l = record { a = get_or l 0 0; b = get_or l 1 0; c = get_or l 2 0; d = get_or l 3 0 }

module _ (l : List ℕ) (w : FourWords l) where
  words-read : (rest : List ℕ) → words (state_text l ++ rest) ≡ parsed (words_in l) rest
  unfolding words state_text comma Rules.return
  words-read rest =
      let x = word_text (get_or l 0 0) in
      let y = word_text (get_or l 1 0) in
      let z = word_text (get_or l 2 0) in
      let v = word_text (get_or l 3 0) in
      let two : comma z v ++ rest ≡ z ++ (bytes "," ++ (v ++ rest)) = regroup z (bytes ",") v rest in
      let three : comma y (comma z v) ++ rest ≡ y ++ (bytes "," ++ (comma z v ++ rest)) = regroup y (bytes ",") (comma z v) rest in
      ap words (regroup x (bytes ",") (comma y (comma z v)) rest ∙ ap (λ (t : List ℕ). x ++ (bytes "," ++ t)) (three ∙ ap (λ (t : List ℕ). y ++ (bytes "," ++ t)) two))
      ∙ rule-then word _ (word-reads (get_or l 0 0) _ (w.each 0))
      ∙ rule-then (next word) _ (next-reads _ _ word _ (word-reads (get_or l 1 0) _ (w.each 1)))
      ∙ rule-then (next word) _ (next-reads _ _ word _ (word-reads (get_or l 2 0) _ (w.each 2)))
      ∙ rule-then (next word) _ (next-reads _ _ word _ (word-reads (get_or l 3 0) rest (w.each 3)))

four-words : (l : List ℕ) → length l ≡ 4 → words_of (words_in l) ≡ l
four-words [] e = absurd (omega arith)
four-words (a ∷ []) e = absurd (omega arith)
four-words (a ∷ b ∷ []) e = absurd (omega arith)
four-words (a ∷ b ∷ c ∷ []) e = absurd (omega arith)
four-words (a ∷ b ∷ c ∷ d ∷ []) e = refl
four-words (a ∷ b ∷ c ∷ d ∷ f ∷ l) e = absurd (omega arith)

module _ (draws : ℕ) (l : List ℕ) (few : draws ≤ most_elsewhere) (w : FourWords l) where
  supplied-reads : (rest : List ℕ) → supplied 1 (supplied_text draws l ++ rest) ≡ found (record { draws = draws; words = words_in l }) 4 rest
  unfolding supplied supplied_text edition_line draws_line state_line return
  supplied-reads rest =
      let edition = Notation.line (bytes "edition=") (bytes "1") in
      let allowed = Notation.line (bytes "draws=") (decimal_text draws) in
      let generator = Notation.line (bytes "state=") (state_text l) in
      ap (supplied 1) (regroup edition allowed generator rest)
      ∙ line-then edition_line _ (entry-reads 1 _ (fixed (bytes "1") 1) (bytes "edition=") (bytes "1") (fixed_reads 1 _ (bytes "1")))
      ∙ line-then draws_line _ (number-reads draws most_elsewhere _ few (lit< tt) (bytes "draws="))
      ∙ line-then state_line _ (entry-reads (words_in l) rest words (bytes "state=") (state_text l) (words-read l w (line_end ++ rest)))

-- ---- the move

name-reads : (k : Kind) (rest : List ℕ) → one_of kinds (name_of k ++ (line_end ++ rest)) ≡ parsed k (line_end ++ rest)
unfolding one_of fixed Rules.◌>>=◌ Rules.onward Rules.return literal
name-reads NodeHeight rest = refl
name-reads SubtreeSlide rest = refl
name-reads NarrowExchange rest = refl
name-reads WideExchange rest = refl
name-reads WilsonBalding rest = refl
name-reads RootScale rest = refl
name-reads TreeScale rest = refl

-- a move is its kind, node and tuning
parts : (m : Move) → move_of (kind_of m) (node_of m) (tuning_of m) ≡ m
parts node_height = refl
parts (subtree_slide node step) = refl
parts narrow_exchange = refl
parts wide_exchange = refl
parts wilson_balding = refl
parts (root_scale tuning) = refl
parts (tree_scale tuning) = refl

-- the most that a node line may say
abbrev most : Kind → ℕ
most k = cond (takes_node k) most_nodes 0

most-large : (k : Kind) → most k < 2 ^ 64
most-large k = go (takes_node k)
  where
    go : (b : Bool) → cond b most_nodes 0 < 2 ^ 64
    go true = lit< tt
    go false = lit< tt

node-within : (m : Move) → node_of m ≤ most_nodes → node_of m ≤ most (kind_of m)
node-within node_height h = omega arith
node-within (subtree_slide node step) h = h
node-within narrow_exchange h = omega arith
node-within wide_exchange h = omega arith
node-within wilson_balding h = omega arith
node-within (root_scale tuning) h = omega arith
node-within (tree_scale tuning) h = omega arith

node-reads : (m : Move) (rest : List ℕ) → node_of m ≤ most_nodes
    → node_line (kind_of m) (Notation.line (bytes "node=") (decimal_text (node_of m)) ++ rest) ≡ parsed (node_of m) rest
unfolding node_line
node-reads m rest few = number-reads (node_of m) (most (kind_of m)) rest (node-within m few) (most-large (kind_of m)) (bytes "node=")

-- a float, or 16 zeros
tuning-is : (m : Move) (rest : List ℕ) → is_real (tuning_of m)
    → cond (takes_tuning (kind_of m)) word (fixed (bytes "0000000000000000") 0) (bits_text (tuning_of m) ++ rest) ≡ parsed (to_bits binary64 (tuning_of m)) rest
unfolding fixed Rules.◌>>=◌ Rules.onward Rules.return literal to_bits of_bits size hex_text digit
tuning-is node_height rest f = refl
tuning-is (subtree_slide node step) rest f = bits-reads step rest f
tuning-is narrow_exchange rest f = refl
tuning-is wide_exchange rest f = refl
tuning-is wilson_balding rest f = refl
tuning-is (root_scale tuning) rest f = bits-reads tuning rest f
tuning-is (tree_scale tuning) rest f = bits-reads tuning rest f

module _ (m : Move) (few : node_of m ≤ most_nodes) (f : is_real (tuning_of m)) where
  asked-reads : (rest : List ℕ) → asked 4 (asked_text m ++ rest) ≡ found (record { kind = kind_of m; node = node_of m; tuning = tuning_of m }) 7 rest
  unfolding asked asked_text move_line tuning_line return
  asked-reads rest =
      let name = Notation.line (bytes "move=") (name_of (kind_of m)) in
      let node = Notation.line (bytes "node=") (decimal_text (node_of m)) in
      let tuning = Notation.line (bytes "tuning=") (bits_text (tuning_of m)) in
      ap (asked 4) (regroup name node tuning rest)
      ∙ line-then move_line _ (entry-reads (kind_of m) _ (one_of kinds) (bytes "move=") (name_of (kind_of m)) (name-reads (kind_of m) _))
      ∙ line-then (node_line (kind_of m)) _ (node-reads m _ few)
      ∙ line-then (tuning_line (kind_of m)) _ (entry-reads _ rest _ (bytes "tuning=") (bits_text (tuning_of m)) (tuning-is m (line_end ++ rest) f))
      ∙ ap (λ (x : Float). found (record { kind = kind_of m; node = node_of m; tuning = x }) 7 rest) (bits_back (tuning_of m) f)

-- ---- the tree

pair_reads : (a b : ℕ) (rest : List ℕ) → a ≤ most_nodes → b ≤ most_nodes → pair_line (Notation.pair_line a b ++ rest) ≡ parsed (a, b) rest
unfolding pair_line comma Rules.return
pair_reads a b rest ha hb =
    let x = decimal_text a in
    let y = decimal_text b in
    entry-reads (a, b) rest _ (bytes "pair=") (comma x y)
    (rw (regroup x (bytes ",") y (line_end ++ rest))
    (rule-then (decimal most_nodes) _ (decimal-reads a most_nodes (bytes "," ++ (y ++ (line_end ++ rest))) ha (lit< tt) refl)
    ∙ rule-then (next (decimal most_nodes)) _
    (next-reads b (line_end ++ rest) (decimal most_nodes) (y ++ (line_end ++ rest)) (decimal-reads b most_nodes (line_end ++ rest) hb (lit< tt) refl))))

-- the pairs of the nodes from j on
pairs-read : (l : List (ℕ × ℕ)) (pairs : List ℕ) (j k : ℕ) (rest : List ℕ) → drop (j + j) pairs ≡ slots l → ((i : ℕ) → get_or (slots l) i 0 ≤ most_nodes)
    → each (length l) pair_line k (pair_lines (length l) j pairs ++ rest) ≡ found l (k + length l) rest
unfolding pair_lines slots
pairs-read [] pairs j k rest d h = each_none pair_line k rest ∙ ap (λ (i : ℕ). found [] i rest) (sym (add-zero k))
pairs-read ((a, b) ∷ l) pairs j k rest d h =
    let first : get_or pairs (j + j) 0 ≡ a = ap (λ (i : ℕ). get_or pairs i 0) (sym (add-zero (j + j)))
    ∙ sym (get_or-drop (j + j) pairs 0 0) ∙ ap (λ (m : List ℕ). get_or m 0 0) d in
    let second : get_or pairs (suc (j + j)) 0 ≡ b = ap (λ (i : ℕ). get_or pairs i 0) (sym (add-one (j + j)))
    ∙ sym (get_or-drop (j + j) pairs 1 0) ∙ ap (λ (m : List ℕ). get_or m 1 0) d in
    let on : suc j + suc j ≡ j + j + 2 = omega arith in
    let others : drop (suc j + suc j) pairs ≡ slots l = ap (λ (i : ℕ). drop i pairs) on ∙ sym (drop-drop 2 (j + j) pairs) ∙ ap (drop 2) d in
    rw (first, second, append_assoc)
    (each_next pair_line (length l) k (pair_reads a b _ (h 0) (h 1)) (pairs-read l pairs (suc j) (suc k) rest others (λ i. h (suc (suc i)))))

heights-read : (xs : List Float) (k : ℕ) → ((i : ℕ) → is_real (get_or xs i nan))
    → each (length xs) height_line k (heights_text xs) ≡ found (map (to_bits binary64) xs) (k + length xs) []
unfolding heights_text height_line
heights-read [] k h = each_none height_line k [] ∙ ap (λ (i : ℕ). found [] i []) (sym (add-zero k))
heights-read (x ∷ xs) k h =
    each_next height_line (length xs) k (entry-reads (to_bits binary64 x) (heights_text xs) word (bytes "height=") (bits_text x) (bits-reads x _ (h 0)))
    (heights-read xs (suc k) (λ i. h (suc i)))

heights-back : (xs : List Float) → ((i : ℕ) → is_real (get_or xs i nan)) → map real (map (to_bits binary64) xs) ≡ xs
heights-back [] h = refl
heights-back (x ∷ xs) h = λ i. bits_back x (h 0) i ∷ heights-back xs (λ i. h (suc i)) i

module _ (pairs : List ℕ) (heights : List Float) (t : FileTree pairs heights) where
  long : length pairs ≡ 2 * nodes_for t.tips
  long = ap length t.are ∙ tips-long t.tips t.internal t.count

  tips-are : tips_of (nodes_of pairs) ≡ t.tips
  tips-are = let e = long in omega arith

  pairs-are : pairs_text pairs ≡ pair_lines (length t.internal) t.tips pairs
  unfolding pairs_text
  pairs-are =
      let e = long in
      let n : nodes_of pairs - tips_of (nodes_of pairs) ≡ length t.internal = omega (arith, t.count) in
      λ i. pair_lines (n i) (tips-are i) pairs

  after-tips : drop (t.tips + t.tips) pairs ≡ slots t.internal
  after-tips =
      let e : 2 * t.tips ≡ t.tips + t.tips = omega arith in
      ap (drop (t.tips + t.tips)) t.are
      ∙ drop_at (replicate (2 * t.tips) no_node) (slots t.internal) (t.tips + t.tips) (length-replicate {A = ℕ} (2 * t.tips) no_node ∙ e)

  tree-reads : tree t.tips 8 (pairs_text pairs ++ heights_text heights)
      ≡ found (record { pairs = pairs; heights = heights }) (8 + length t.internal + length heights) []
  unfolding tree end return onward ◌>>=◌
  tree-reads =
      let ps = pairs-read t.internal pairs t.tips 8 (heights_text heights) after-tips t.small in
      let hs = heights-read heights (8 + length t.internal) t.dated in
      rw (← t.count, ← t.nodes, pairs-are, ps, hs)
      (λ i. found (record { pairs = sym t.are i; heights = heights-back heights t.dated i }) (8 + length t.internal + length heights) [])

-- ---- the whole file

module _ (st : State) (w : Writable st) where
  abbrev head_in : Head
  head_in = record {
    supplied = record { draws = st.allowance; words = words_in st.words };
    asked = record { kind = kind_of st.move; node = node_of st.move; tuning = tuning_of st.move };
    tips = w.tree.tips;
  }

  head-reads : (rest : List ℕ)
      → head 1 (supplied_text st.allowance st.words ++ (asked_text st.move ++ (tips_text st.pairs ++ rest))) ≡ found head_in 8 rest
  unfolding head tips_line return
  head-reads rest =
      reader-then supplied _ (supplied-reads st.allowance st.words w.draws w.generator _)
      ∙ reader-then asked _ (asked-reads st.move w.node w.tuning _)
      ∙ rw (tips-are st.pairs st.heights w.tree)
      (line-then tips_line _ (number-reads w.tree.tips most_elsewhere rest w.tree.few (lit< tt) (bytes "tips=")))

  parted : file_text st
      ≡ supplied_text st.allowance st.words ++ (asked_text st.move ++ (tips_text st.pairs ++ (pairs_text st.pairs ++ heights_text st.heights)))
  unfolding file_text nodes_text
  parted = simp append_assoc

  -- the head with the tree
  whole : state_of head_in (record { pairs = st.pairs; heights = st.heights }) ≡ st
  whole = λ i. record {
    allowance = st.allowance;
    words = four-words st.words w.generator.four i;
    move = parts st.move i;
    pairs = st.pairs;
    heights = st.heights;
  }

  pub read_back : state_file (file_text st) ≡ read st
  unfolding state_file state return onward ◌>>=◌
  read_back =
      ap (λ (t : List ℕ). closed (state 1 t)) parted
      ∙ ap closed (reader-then head _ (head-reads _) ∙ reader-then (tree w.tree.tips) _ (tree-reads st.pairs st.heights w.tree))
      ∙ ap read whole
