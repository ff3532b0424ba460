-- Every state that was read can be written (`read-writable`), so that its text reads back as the same state (`rewritten`). Assumes nothing.
use Rattle.std.specs.Prelude.{◌≡◌, refl, Bool, true, false, cond, List, [], ◌∷◌, map, ℕ, zero, suc, ◌-◌, ◌^◌, ◌≤◌, ◌<◌, get_or, Float}
use Rattle.std.proofs.Common.{◌∙◌, subst, arith, lit<}
use Rattle.std.proofs.lemmas.List.{length-map}
use Rattle.std.specs.Float.{nan, binary64}
use Rattle.std.specs.Float.Ieee.{fits}
use Rattle.std.specs.Float.Ieee.Bits.{of_bits-fits}
use Rattle.text.specs.Text.{bytes}
use Rattle.text.specs.Rules as Rules
use Rattle.text.specs.Rules.{parsed, literal, word, decimal}
use Rattle.text.specs.ExactLaws.{same-value, word_small, decimal-small}
use Rattle.forms.specs.Forms.{entry, most_nodes, most_elsewhere, next, words, takes_node, edition_line, draws_line, state_line, move_line, node_line, tuning_line, tips_line, pair_line, height_line}
use Rattle.forms.specs.FormLaws as Rule
use Rattle.forms.specs.FormLaws.{entry_value, number_small, draws-small, tips-small}
use Rattle.forms.specs.declared.Words.{Words}
use Rattle.forms.specs.declared.Kind.{Kind}
use Rattle.forms.specs.declared.Kind.TheVariants.{NodeHeight, SubtreeSlide, NarrowExchange, WideExchange, WilsonBalding, RootScale, TreeScale}
use Rattle.statefile.specs.declared.Supplied.{Supplied}
use Rattle.statefile.specs.declared.Asked.{Asked}
use Rattle.statefile.specs.declared.Head.{Head}
use Rattle.statefile.specs.Lines.{Found, wrong, found, return, line, each, end}
use Rattle.statefile.specs.StateFile.{Nodes, State, read, closed, real, words_of, move_of, slots, nodes_for, supplied, asked, head, tree, state, state_file}
use Rattle.statefile_text.specs.StateText.{node_of, tuning_of, file_text, FourWords, is_real, FileTree, Writable}
use Rattle.statefile_text.specs.ReadingLaws.{same-found, split, line_read, Every, each_read}
use Rattle.statefile_text.proofs.ReadBackLaws.{read_back}

-- ---- the generator

-- a word after a comma
next_small : (s : List ℕ) {w : ℕ} {rest : List ℕ} → next word s ≡ parsed w rest → w < 2 ^ 64
unfolding next
next_small s {w} {rest} e = let c = Rule.split (literal (bytes ",")) _ s e in word_small w c.after rest c.second

four : (w : Words) → w.a < 2 ^ 64 → w.b < 2 ^ 64 → w.c < 2 ^ 64 → w.d < 2 ^ 64 → FourWords (words_of w)
four w ha hb hc hd = record { four = refl; each = small }
  where
    small : (i : ℕ) → get_or (words_of w) i 0 < 2 ^ 64
    small zero = ha
    small (suc zero) = hb
    small (suc (suc zero)) = hc
    small (suc (suc (suc zero))) = hd
    small (suc (suc (suc (suc i)))) = lit< tt

words_small : (s : List ℕ) {w : Words} {rest : List ℕ} → words s ≡ parsed w rest → FourWords (words_of w)
unfolding words Rules.return
words_small s {w} e =
    let a = Rule.split word _ s e in
    let b = Rule.split (next word) _ a.after a.second in
    let c = Rule.split (next word) _ b.after b.second in
    let d = Rule.split (next word) _ c.after c.second in
    subst (λ (v : Words). FourWords (words_of v)) (same-value d.second)
    (four _ (word_small a.value s a.after a.first) (next_small a.after b.first) (next_small b.after c.first) (next_small c.after d.first))

record SuppliedFits (x : Supplied) : Type 0 where
  draws : x.draws ≤ most_elsewhere
  generator : FourWords (words_of x.words)

supplied-fits : (k : ℕ) (s : List ℕ) {x : Supplied} {j : ℕ} {rest : List ℕ} → supplied k s ≡ found x j rest → SuppliedFits x
unfolding supplied state_line return
supplied-fits k s e =
    let a = split (line edition_line) _ e in
    let b = split (line draws_line) _ a.second in
    let c = split (line state_line) _ b.second in
    let w = entry_value (bytes "state=") words b.after (line_read state_line b.at c.first) in
    subst SuppliedFits (same-found c.second)
    (record { draws = draws-small a.after b.value b.after (line_read draws_line a.at b.first); generator = words_small w.start w.is })

-- ---- the move

node-fits : (k : Kind) (n : ℕ) (x : Float) → n ≤ most_nodes → node_of (move_of k n x) ≤ most_nodes
node-fits NodeHeight n x h = omega arith
node-fits SubtreeSlide n x h = h
node-fits NarrowExchange n x h = omega arith
node-fits WideExchange n x h = omega arith
node-fits WilsonBalding n x h = omega arith
node-fits RootScale n x h = omega arith
node-fits TreeScale n x h = omega arith

tuning-fits : (k : Kind) (n : ℕ) (x : Float) → is_real x → is_real (tuning_of (move_of k n x))
tuning-fits NodeHeight n x h = of_bits-fits binary64 0
tuning-fits SubtreeSlide n x h = h
tuning-fits NarrowExchange n x h = of_bits-fits binary64 0
tuning-fits WideExchange n x h = of_bits-fits binary64 0
tuning-fits WilsonBalding n x h = of_bits-fits binary64 0
tuning-fits RootScale n x h = h
tuning-fits TreeScale n x h = h

node-small : (k : Kind) (s : List ℕ) {n : ℕ} {rest : List ℕ} → node_line k s ≡ parsed n rest → n ≤ most_nodes
unfolding node_line
node-small k s {n} {rest} e = go (takes_node k) e
  where
    go : (b : Bool) → entry (bytes "node=") (decimal (cond b most_nodes 0)) s ≡ parsed n rest → n ≤ most_nodes
    go true e = number_small (bytes "node=") s most_nodes n rest (lit< tt) e
    go false e = let l = number_small (bytes "node=") s 0 n rest (lit< tt) e in omega arith

record AskedFits (y : Asked) : Type 0 where
  node : node_of (move_of y.kind y.node y.tuning) ≤ most_nodes
  tuning : is_real (tuning_of (move_of y.kind y.node y.tuning))

asked-fits : (k : ℕ) (s : List ℕ) {y : Asked} {j : ℕ} {rest : List ℕ} → asked k s ≡ found y j rest → AskedFits y
unfolding asked return
asked-fits k s e =
    let a = split (line move_line) _ e in
    let b = split (line (node_line a.value)) _ a.second in
    let c = split (line (tuning_line a.value)) _ b.second in
    subst AskedFits (same-found c.second)
    (record {
      node = node-fits a.value b.value (real c.value) (node-small a.value a.after (line_read (node_line a.value) a.at b.first));
      tuning = tuning-fits a.value b.value (real c.value) (of_bits-fits binary64 c.value);
    })

-- ---- the tree

abbrev SmallPair : ℕ × ℕ → Type 0
SmallPair p = (p.0 ≤ most_nodes) × (p.1 ≤ most_nodes)

pair_small : (s : List ℕ) (p : ℕ × ℕ) (rest : List ℕ) → pair_line s ≡ parsed p rest → SmallPair p
unfolding pair_line next Rules.return
pair_small s p rest e =
    let v = entry_value (bytes "pair=") _ s e in
    let a = Rule.split (decimal most_nodes) _ v.start v.is in
    let b = Rule.split (next (decimal most_nodes)) _ a.after a.second in
    let c = Rule.split (literal (bytes ",")) _ a.after b.first in
    subst SmallPair (same-value b.second)
    (decimal-small most_nodes a.value v.start a.after (lit< tt) a.first, decimal-small most_nodes b.value c.after b.after (lit< tt) c.second)

slots_small : (l : List (ℕ × ℕ)) → Every SmallPair l → (i : ℕ) → get_or (slots l) i 0 ≤ most_nodes
unfolding slots
slots_small [] h i = omega arith
slots_small ((a, b) ∷ l) h zero = h.0.0
slots_small ((a, b) ∷ l) h (suc zero) = h.0.1
slots_small ((a, b) ∷ l) h (suc (suc i)) = slots_small l h.1 i

reals : (l : List ℕ) (i : ℕ) → is_real (get_or (map real l) i nan)
unfolding fits
reals [] i = tt
reals (w ∷ l) zero = of_bits-fits binary64 w
reals (w ∷ l) (suc i) = reals l i

tree-fits : (tips k : ℕ) (s : List ℕ) {t : Nodes} {j : ℕ} {rest : List ℕ} → tips ≤ most_elsewhere → tree tips k s ≡ found t j rest → FileTree t.pairs t.heights
unfolding tree return
tree-fits tips k s few e =
    let p = split (each (tips - 1) pair_line) _ e in
    let h = split (each (nodes_for tips) height_line) _ p.second in
    let z = split end _ h.second in
    let ps = each_read pair_line SmallPair pair_small (tips - 1) k s p.first in
    let hs = each_read height_line (λ _. Unit) (λ _ _ _ _. tt) (nodes_for tips) p.at p.after h.first in
    subst (λ (t : Nodes). FileTree t.pairs t.heights) (same-found z.second)
    (record {
      tips = tips;
      few = few;
      internal = p.value;
      count = ps.0;
      are = refl;
      small = slots_small p.value ps.1;
      nodes = length-map h.value real ∙ hs.0;
      dated = reals h.value;
    })

-- ---- the whole file

record HeadFits (h : Head) : Type 0 where
  supplied : SuppliedFits h.supplied
  asked : AskedFits h.asked
  tips : h.tips ≤ most_elsewhere

head-fits : (k : ℕ) (s : List ℕ) {h : Head} {j : ℕ} {rest : List ℕ} → head k s ≡ found h j rest → HeadFits h
unfolding head return
head-fits k s e =
    let x = split supplied _ e in
    let y = split asked _ x.second in
    let n = split (line tips_line) _ y.second in
    subst HeadFits (same-found n.second)
    (record {
      supplied = supplied-fits k s x.first;
      asked = asked-fits x.at x.after y.first;
      tips = tips-small y.after n.value n.after (line_read tips_line y.at n.first);
    })

state-fits : (k : ℕ) (s : List ℕ) {st : State} {j : ℕ} {rest : List ℕ} → state k s ≡ found st j rest → Writable st
unfolding state return
state-fits k s e =
    let h = split head _ e in
    let t = split (tree h.value.tips) _ h.second in
    let f = head-fits k s h.first in
    subst Writable (same-found t.second)
    (record {
      draws = f.supplied.draws;
      generator = f.supplied.generator;
      node = f.asked.node;
      tuning = f.asked.tuning;
      tree = tree-fits h.value.tips h.at h.after f.tips t.first;
    })

pub read-writable : (s : List ℕ) (st : State) → state_file s ≡ read st → Writable st
unfolding state_file
read-writable s st e = go (state 1 s) refl e
  where
    go : (p : Found State) → state 1 s ≡ p → closed p ≡ read st → Writable st
    go (wrong k) q e = let z : ◌≡◌ {A = ℕ} 0 1 = cc in absurd (omega arith)
    go (found a j t) q e = subst Writable (cc) (state-fits 1 s q)

pub rewritten : (s : List ℕ) (st : State) → state_file s ≡ read st → state_file (file_text st) ≡ read st
rewritten s st e = read_back st (read-writable s st e)
