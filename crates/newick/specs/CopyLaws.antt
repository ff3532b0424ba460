-- The theorems of change request S-1. Of a valid tree whose heights all print: lengths down a path add up (`path-adds`), its copy is read (`copy_read`) and
-- written (`copy_written`), and where it is numbered in closing order it comes back with its own pairs and with its printed ages above the youngest tip's
-- (`own`, `own-ages`); heights below 2^43 all print (`ages-printed`). Of a text that is read: written again it is the text (`read_again`), one tip has age 0
-- (`youngest`), and every age is below 2^53 (`ages-below`). Of one that is not: the place of the fault (`place`). Assumes nothing.
use Rattle.std.specs.Prelude.{◌≡◌, refl, ◌⊎◌, Bool, true, false, cond, List, [], ◌∷◌, ◌++◌, ℕ, ◌+◌, ◌-◌, ◌^◌, ◌≤◌, ◌<◌, T, ltb, length, get_or, drop, replicate, Ok}
use Rattle.std.proofs.Common.{sym, ap, ◌∙◌, subst, inl, inr, le_refl, length-append}
use Rattle.std.proofs.Math.Decide.{dec_lt}
use native.Mathlib.Omega.{arith}
use Rattle.std.proofs.lemmas.List.{length-replicate}
use Rattle.std.specs.Float.Ieee.{lt}
use borrow.Author.Tests.{lt-ltb, le-ltb}
use Rattle.real.specs.Printed.{print_limit}
use Rattle.tree.specs.Tree.{Tree, no_node, nodes_of, tips_of, parent, height}
use Rattle.tree.specs.Valid.{Valid}
use Rattle.tree.specs.BoundedLaws.{every_true}
use Rattle.accepted.specs.Ways.{Under, itself, through}
use Rattle.accepted.specs.WayLaws.{valid-nodes}
use Rattle.accepted.specs.ValidatedLaws.{valid-fine}
use Rattle.newick.specs.Newick.{Newick, join, whole_text, Frame, Mode, start, sub, name, made, colon, whole, point, tenths, hundredths, branch, done}
use Rattle.newick.specs.Newick.{Run, forbidden, reached, run}
use Rattle.newick.specs.Numbering.{joins, tips_in, nodes_in, times, node_of, pairs_read, reach, ages_read}
use Rattle.newick.specs.Reading.{acceptable, faulty, says, judged_run, reading}
use Rattle.newick.specs.Copies.{aged, ages_of, dated_at, newick_of, tree_text, copied, placed, copy_call, Closing}
use Rattle.newick.specs.RunLaws.{read-written}
use Rattle.newick.specs.PlaceLaws.{done-pair, Begins, First, first-forbidden, unfinished}
use Rattle.newick.specs.NumberingLaws.{pairs-length, Inside}
use Rattle.newick.specs.DatedLaws.{Dated, dated-value}
use Rattle.newick.specs.ReadingLaws.{Accepts, accepted, accepts-named, said}
use Rattle.newick.specs.TreeLaws as TreeLaws
use Rattle.newick.specs.ClosingLaws.{reach-le, own-dated, own-pairs}
use Rattle.newick.specs.AgesLaws.{all-aged, age-few, ages-order, ages-ordered}
use Rattle.newick.specs.YoungLaws.{TipAt, young-tip, dated-shift, read-dated, young-read, ages-most}

-- ---- a valid tree whose heights all print

-- the lengths of the branches from a node up to one that it is under
unfoldable pub way_length : {n : ℕ} {t : Tree} {c k : ℕ} → List ℕ → Under n t c k → ℕ
way_length ages itself = 0
way_length {t = t} {c = c} ages (through C r u) = (get_or ages (parent t c) 0 - get_or ages c 0) + way_length ages u

module _ (n : ℕ) (t : Tree) (v : Valid n t) (ages : List ℕ) (P : ages_of t.heights ≡ aged ages) where
  -- "lengths down any path add up to the difference of its ends' printed ages"
  pub path-adds : {c k : ℕ} → (u : Under n t c k) → way_length ages u + get_or ages c 0 ≡ get_or ages k 0
  unfolding way_length
  path-adds itself = omega arith
  path-adds {c = c} (through C r u) =
      let o = ages-order n t v ages P c C r in
      let s = path-adds u in
      omega arith

  abbrev pub value_of : Newick
  value_of = newick_of t.pairs t.root ages

  value-whole : value_of ≡ TreeLaws.whole n t v ages
  value-whole = ap (λ (m : ℕ). dated_at m m t.pairs ages t.root) (valid-nodes v)

  whole-accepts : Accepts (TreeLaws.whole n t v ages)
  whole-accepts =
      let w = TreeLaws.whole n t v ages in
      let e = TreeLaws.whole-tips n t v ages in
      let few = v.sized.few in
      let r = reach-le n t v ages (ages-ordered n t v ages P) t.root v.root_node in
      let a = age-few n t v ages P t.root v.root_node in
      record {
        few = omega arith;
        all = every_true (λ j. ltb 0 (times j w)) (tips_in w) (λ j J. lt-ltb 0 (times j w) (TreeLaws.whole-occurs n t v ages j (omega arith)));
        young = omega arith;
      }

  -- what is written of a tree is read, as its value
  pub copy_read : reading (tree_text t.pairs t.root ages) ≡ says value_of
  unfolding reading
  copy_read = rw value-whole (rw (TreeLaws.whole_run n t v ages, accepted (TreeLaws.whole n t v ages) whole-accepts))

  -- and it is written wherever it fits
  pub copy_written : (out : List ℕ) → length (tree_text t.pairs t.root ages) ≤ length out
      → copy_call t out
      ≡ copied (Ok (length (tree_text t.pairs t.root ages)))
      (tree_text t.pairs t.root ages ++ drop (length (tree_text t.pairs t.root ages)) out)
  unfolding copy_call placed
  copy_written out h = rw (valid-fine n t v, P, le-ltb (length out) (length (tree_text t.pairs t.root ages)) h)

  -- ---- numbered in closing order

  module _ (C : Closing n t) where
    -- "A tree already numbered in that order comes back with its own pairs"
    pub own : pairs_read value_of ≡ t.pairs
    own = ap pairs_read value-whole ∙ own-pairs n t v ages (ages-ordered n t v ages P) C

    -- and with "ages in whole thousandths above the youngest tip": young is the printed age of a tip, and is taken from every node's, so that none is younger
    pub own-ages : (young : ℕ) × TipAt (tips_of n) ages young × ((i : ℕ) → i < n → get_or (ages_read value_of) i 0 + young ≡ get_or ages i 0)
    own-ages = (top - reach w, young-tip (tips_of n) t.pairs ages (tips_of n) top w low own_held, each)
      where
        w : Newick
        w = TreeLaws.whole n t v ages

        top : ℕ
        top = get_or ages t.root 0

        low : reach w ≤ top
        low = reach-le n t v ages (ages-ordered n t v ages P) t.root v.root_node

        own_held : Dated (tips_of n) t.pairs ages (tips_of n) top w
        own_held = own-dated n t v ages (ages-ordered n t v ages P) C

        tips : tips_in w ≡ tips_of n
        tips = TreeLaws.whole-tips n t v ages

        held : Dated (tips_of n) (pairs_read w) (ages_read w) (tips_of n) (reach w) w
        held = subst (λ (m : ℕ). Dated m (pairs_read w) (ages_read w) m (reach w) w) tips (read-dated w (accepts-named w whole-accepts))

        inside : (i : ℕ) → i < n → Dec (i < tips_of n) → Inside (tips_of n) w i
        inside i I (yes h) = inl (TreeLaws.whole-occurs n t v ages i h)
        inside i I (no h) = inr (omega arith, (let e = tips in let o = v.sized.odd in omega arith))

        each : (i : ℕ) → i < n → get_or (ages_read value_of) i 0 + (top - reach w) ≡ get_or ages i 0
        each i I =
            let s = dated-shift (tips_of n) (pairs_read w) (ages_read w) t.pairs ages (tips_of n) (reach w) top w (le_refl _) low held own_held
            i (inside i I (dec_lt i (tips_of n))) in
            let l = low in
            ap (λ (u : Newick). get_or (ages_read u) i 0 + (top - reach w)) value-whole ∙ omega arith

-- every accepted tree whose heights are below 2^43 has printed ages
pub ages-printed : (n : ℕ) (t : Tree) → Valid n t → ((k : ℕ) → k < n → T (lt (height t k) print_limit)) → (ages : List ℕ) × (ages_of t.heights ≡ aged ages)
unfolding height
ages-printed n t v h = all-aged t.heights (λ k K. let l = v.sized.heights in (v.dated.positive k (omega arith), h k (omega arith)))

-- ---- a text that is read

-- the last node is that of the outermost parenthesis
root-number : (t : Newick) (a : Newick) (x : ℕ) (b : Newick) (y : ℕ) → t ≡ join a x b y → nodes_in t - 1 ≡ node_of (tips_in t) t
unfolding node_of joins
root-number t a x b y e = rw e (omega arith)

nodes-read : (t : Newick) → nodes_of (pairs_read t) ≡ nodes_in t
unfolding pairs_read
nodes-read t =
    let slots = pairs-length (tips_in t) t (replicate (nodes_in t + nodes_in t) no_node) ∙ length-replicate (nodes_in t + nodes_in t) no_node in
    omega arith

module _ (s : List ℕ) (t : Newick) (e : reading s ≡ says t) where
  -- "Written again from those thousandths, the bytes are the ones it was given"; the root is the last node
  pub read_again : tree_text (pairs_read t) (nodes_in t - 1) (ages_read t) ≡ s
  read_again =
      let r = said s t e in
      let q = done-pair s t r.ran in
      let value : dated_at (nodes_in t) (nodes_in t) (pairs_read t) (ages_read t) (node_of (tips_in t) t) ≡ t =
      dated-value (nodes_in t) (tips_in t) (nodes_in t) (pairs_read t) (ages_read t) (tips_in t) (reach t) t
      (omega arith) (le_refl _) (omega arith) (le_refl _) (read-dated t (accepts-named t r.fine)) in
      rw (nodes-read t, root-number t q.left q.upper q.right q.lower q.is) (ap whole_text value ∙ read-written s t r.ran)

  -- "ages in whole thousandths above the youngest tip"
  pub youngest : TipAt (tips_in t) (ages_read t) 0
  youngest = young-read t (accepts-named t (said s t e).fine)

  -- "root age below 2^53 thousandths": and so is every age
  pub ages-below : (i : ℕ) → get_or (ages_read t) i 0 < 2 ^ 53
  ages-below i = let y = (said s t e).fine.young in let m = ages-most t i in omega arith

-- ---- a text that is not

-- the place of its first forbidden byte, or its length, where none is forbidden
abbrev pub Placed : List ℕ → ℕ → Type 0
Placed s p = ((read : List ℕ) × (byte : ℕ) × (rest : List ℕ) × (p ≡ length read) × First s read byte rest) ⊎ ((p ≡ length s) × Begins s)

faulty-same : (a b : ℕ) → faulty a ≡ faulty b → a ≡ b
faulty-same a b e = cc

says-clash : (t : Newick) (p : ℕ) → says t ≡ faulty p → ⊥
says-clash t p e = let z : ◌≡◌ {A = ℕ} 0 1 = cc in omega arith

pub place : (s : List ℕ) (p : ℕ) → reading s ≡ faulty p → Placed s p
unfolding reading
place s p e = go (run start [] s) refl e
  where
    end : (m : Mode) (fs : List Frame) → run start [] s ≡ reached m fs → faulty (length s) ≡ faulty p → Placed s p
    end m fs q f = inr (sym (faulty-same (length s) p f), unfinished s m fs q)

    judged : (t : Newick) (b : Bool) → run start [] s ≡ reached (done t) [] → cond b (says t) (faulty (length s)) ≡ faulty p → Placed s p
    judged t true q f = absurd (says-clash t p f)
    judged t false q f = end (done t) [] q f

    go : (r : Run) → run start [] s ≡ r → judged_run (length s) r ≡ faulty p → Placed s p
    go (forbidden r) q f =
        let F = first-forbidden s r q in
        let x = ap length F.4.splits ∙ length-append F.0 (F.1 ∷ F.2) in
        let y = ap length F.3 in
        let z = faulty-same (length s - length r) p f in
        inl (F.0, F.1, F.2, omega arith, F.4)
    go (reached (done t) []) q f = judged t (acceptable t) q f
    go (reached (done t) (g ∷ fs)) q f = end (done t) (g ∷ fs) q f
    go (reached start fs) q f = end start fs q f
    go (reached sub fs) q f = end sub fs q f
    go (reached (name k) fs) q f = end (name k) fs q f
    go (reached (made t) fs) q f = end (made t) fs q f
    go (reached (colon t) fs) q f = end (colon t) fs q f
    go (reached (whole t w) fs) q f = end (whole t w) fs q f
    go (reached (point t w) fs) q f = end (point t w) fs q f
    go (reached (tenths t w) fs) q f = end (tenths t w) fs q f
    go (reached (hundredths t w) fs) q f = end (hundredths t w) fs q f
    go (reached (branch t x) fs) q f = end (branch t x) fs q f
