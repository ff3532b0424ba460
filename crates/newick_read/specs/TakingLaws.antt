-- The passes say what the text says: what a well-spelled text of at most 2,048 tips fills, judged and delivered, is what the definitions leave of the call
-- (`work-read`), and one of more tips is refused at its length (`many_read`). Assumes nothing.
use Rattle.std.specs.Prelude.{◌≡◌, refl, Bool, ◌&&◌, List, [], ◌++◌, ltb, leb, length, drop, replicate, Ok, Err}
use Rattle.std.proofs.Math.Path.{sym, ap, ap₂}
use Rattle.std.proofs.Common.{◌∙◌, subst, le_refl, arith, lt-ltb, le-ltb, le-leb}
use Rattle.std.proofs.Math.Bool.{true, false, cond}
use Rattle.std.proofs.lemmas.Bool.{false≢true, lt-leb}
use Prim.Native.Nat.{ℕ, zero, suc, ◌+◌, ◌-◌, ◌≤◌, ◌<◌, min, max}
use Rattle.std.proofs.Math.Decide.{dec_lt}
use Rattle.std.proofs.Math.ListN.{length-replicate}
use Rattle.tree.specs.Tree.{no_node}
use Rattle.newick.specs.Newick.{Newick, tip, join, start, done, reached, run}
use Rattle.newick.specs.Numbering.{joins, tips_in, nodes_in, node_of, pairs_in, pairs_read, reach, ages_in, ages_read}
use Rattle.newick.specs.Reading.{acceptable, faulty, says, ended}
use Rattle.newick.specs.Copies.{ReadCall, taken, read_said, read_call}
use Rattle.newick.specs.PlaceLaws.{Pair, done-pair}
use Rattle.newick.specs.NumberingLaws.{Named, pairs-length}
use Rattle.newick.specs.ReadingLaws.{occur, Accepts, accepted, not-accepted, occur-named, accepts-named}
use Rattle.newick_spell.specs.SpellingLaws.{spelled-reading}
use Rattle.newick_file.specs.Filing.{most, closes, capped, lengths_in, seen_in}
use Rattle.newick_file.specs.CloseLaws.{closes-whole}
use Rattle.newick_file.proofs.FilingLaws.{joins-capped, whole-filed}
use Rattle.newick_read.specs.Taking.{reach_at, ages_at, root_reach, root_ages, all_seen, place_call, deliver, judge_age, judge, work}
use Rattle.newick_read.specs.HeldLaws.{Holds, lengths-length, held}
use Rattle.newick_read.specs.LimitLaws.{seen-length, seen-occur, Low, cap-same, cap-back}
use Rattle.newick.specs.declared.ReadError.TheVariants as ReadErrors

-- ---- below a node

cap-sum : (x r : ℕ) → min (x + min r most) most ≡ min (x + r) most
cap-sum x r = omega arith

cap-max : (p q : ℕ) → max (min p most) (min q most) ≡ min (max p q) most
cap-max p q = omega arith

reach-at : (f tips : ℕ) (ps us : List ℕ) (base : ℕ) (t : Newick) → tips ≤ base → joins t < f → Holds tips ps us base t
    → reach_at f tips ps us (node_of base t) ≡ min (reach t) most
unfolding reach_at node_of joins reach
reach-at zero tips ps us base t B h H = absurd (omega arith)
reach-at (suc f) tips ps us base (tip k) B h H = rw (lt-ltb k tips H)
reach-at (suc f) tips ps us base (join a x b y) B h H =
    let A = reach-at f tips ps us base a B (omega arith) H.4 in
    let C = reach-at f tips ps us (base + joins a) b (omega arith) (omega arith) H.5 in
    rw (le-ltb (base + joins a + joins b) tips (omega arith), H.0, H.1, H.2, H.3, A, C)
    (ap₂ max (cap-sum x (reach a)) (cap-sum y (reach b)) ∙ cap-max (x + reach a) (y + reach b))

ages-at : (f tips : ℕ) (ps us : List ℕ) (base h : ℕ) (t : Newick) (l : List ℕ) → tips ≤ base → joins t < f → Holds tips ps us base t
    → ages_at f tips ps us (node_of base t) h l ≡ ages_in base h t l
unfolding ages_at node_of joins ages_in
ages-at zero tips ps us base h t l B g H = absurd (omega arith)
ages-at (suc f) tips ps us base h (tip k) l B g H = rw (lt-ltb k tips H)
ages-at (suc f) tips ps us base h (join a x b y) l B g H =
    let A = ages-at f tips ps us base (h - x) a l B (omega arith) H.4 in
    let C = ages-at f tips ps us (base + joins a) (h - y) b (ages_in base (h - x) a l) (omega arith) (omega arith) H.5 in
    rw (le-ltb (base + joins a + joins b) tips (omega arith), H.0, H.1, H.2, H.3, A, C)

-- ---- numbers of an acceptable value

named-low : (m : ℕ) (t : Newick) → m ≤ 2048 → Named m t → Low t
named-low m t h N j J = let z : j < m = N.known j J in omega arith

accepts-capped : (t : Newick) → Accepts t → capped t ≡ t
accepts-capped t A = cap-same t (named-low (tips_in t) t A.few (accepts-named t A)) A.young

-- ---- what was filled, judged

module _ (t : Newick) (F : tips_in t ≤ 2048) (L : node_of (tips_in t) (capped t) ≡ nodes_in t - 1) (long : ℕ) (pairs ages : List ℕ) where
  abbrev T : ℕ
  T = tips_in t

  abbrev N : ℕ
  N = nodes_in t

  P : List ℕ
  P = pairs_in (tips_in t) (capped t) (replicate (nodes_in t + nodes_in t) no_node)

  U : List ℕ
  U = lengths_in (tips_in t) (capped t) (replicate (nodes_in t) 0)

  long-P : length P ≡ N + N
  unfolding P
  long-P = pairs-length T (capped t) (replicate (N + N) no_node) ∙ length-replicate (N + N) no_node

  long-U : length U ≡ N
  unfolding U
  long-U = lengths-length T (capped t) (replicate N 0) ∙ length-replicate {A = ℕ} N 0

  same-tips : tips_in (capped t) ≡ T
  same-tips = ap suc (joins-capped t)

  holds : occur T (capped t) ≡ true → Holds T P U T (capped t)
  unfolding P U
  holds e =
      let j = joins-capped t in
      let p = length-replicate (N + N) no_node in
      let u = length-replicate {A = ℕ} N 0 in
      held T T (capped t) (replicate (N + N) no_node) (replicate N 0) (le_refl _) (occur-named T (capped t) same-tips e) (omega arith) (omega arith)

  root_is : length U - 1 ≡ node_of T (capped t)
  root_is = let z = long-U in let l = L in omega arith

  -- the ways in which a value is not acceptable

  unseen : occur T (capped t) ≡ false → acceptable t ≡ false
  unseen e = not-accepted t λ A. false≢true (sym e ∙ ap (occur T) (accepts-capped t A) ∙ A.all)

  old : most ≤ reach (capped t) → acceptable t ≡ false
  old h = not-accepted t λ A.
      let z : reach (capped t) ≡ reach t = ap reach (accepts-capped t A) in
      let y = A.young in
      omega arith

  -- and that in which it is

  young : occur T (capped t) ≡ true → reach (capped t) < most → (capped t ≡ t) × (acceptable t ≡ true)
  young e h =
      let z = cap-back t (named-low T (capped t) F (occur-named T (capped t) same-tips e)) h in
      let y : reach (capped t) ≡ reach t = ap reach z in
      (z, accepted t (record { few = F; all = ap (occur T) (sym z) ∙ e; young = omega arith }))

  ages-are : (h : ℕ) → h ≡ reach t → capped t ≡ t → Holds T P U T (capped t) → root_ages T P U h (length U) ≡ ages_read t
  unfolding ages_read
  ages-are h e z H =
      ap₂ (λ (v m : ℕ). ages_at T T P U v h (replicate m 0)) root_is long-U
      ∙ ages-at T T P U T h (capped t) (replicate N 0) (le_refl _) (let j = joins-capped t in omega arith) H
      ∙ ap₂ (λ (x : ℕ) (y : Newick). ages_in T x y (replicate N 0)) e z

  pairs-are : capped t ≡ t → P ≡ pairs_read t
  unfolding P pairs_read
  pairs-are z = ap (λ (y : Newick). pairs_in T y (replicate (N + N) no_node)) z

  handed : (h : ℕ) → h ≡ reach t → capped t ≡ t → Holds T P U T (capped t) → deliver T P U h pairs ages ≡ read_said pairs ages (says t)
  unfolding deliver
  handed h e z H = rw (ages-are h e z H, long-P, long-U, pairs-are z) (go (dec_lt (length pairs) (N + N)) (dec_lt (length ages) N))
    where
      none : ReadCall
      none = taken (Err ReadErrors.Room) pairs ages

      all : ReadCall
      all = taken (Ok N) (pairs_read t ++ drop (N + N) pairs) (ages_read t ++ drop N ages)

      go : Dec (length pairs < N + N) → Dec (length ages < N)
          → cond (ltb (length pairs) (N + N)) none (cond (ltb (length ages) N) none all) ≡ cond (leb (N + N) (length pairs) && leb N (length ages)) all none
      go (yes q) r = rw (lt-ltb (length pairs) (N + N) q, lt-leb (N + N) (length pairs) q)
      go (no q) (yes r) =
          let p : N + N ≤ length pairs = omega arith in
          rw (le-ltb (length pairs) (N + N) p, lt-ltb (length ages) N r, le-leb (N + N) (length pairs) p, lt-leb N (length ages) r)
      go (no q) (no r) =
          let p : N + N ≤ length pairs = omega arith in
          let s : N ≤ length ages = omega arith in
          rw (le-ltb (length pairs) (N + N) p, le-ltb (length ages) N s, le-leb (N + N) (length pairs) p, le-leb N (length ages) s)

  aged : occur T (capped t) ≡ true → judge_age long T P U (root_reach T P U) pairs ages ≡ read_said pairs ages (ended long t)
  unfolding judge_age
  aged e =
      let H = holds e in
      let r : root_reach T P U ≡ min (reach (capped t)) most =
      ap (reach_at T T P U) root_is ∙ reach-at T T P U T (capped t) (le_refl _) (let j = joins-capped t in omega arith) H in
      rw r (go H (dec_lt (reach (capped t)) most))
    where
      m : ℕ
      m = min (reach (capped t)) most

      go : Holds T P U T (capped t) → Dec (reach (capped t) < most)
          → cond (ltb m most) (deliver T P U m pairs ages) (place_call long pairs ages) ≡ read_said pairs ages (ended long t)
      go H (yes h) =
          let y = young e h in
          let x : reach (capped t) ≡ reach t = ap reach y.0 in
          rw (lt-ltb m most (omega arith), y.1) (handed m (omega arith) y.0 H)
      go H (no h) = rw (le-ltb m most (omega arith), old (omega arith))

  judged : judge long T P U (seen_in (capped t) (replicate T false)) pairs ages ≡ read_said pairs ages (ended long t)
  unfolding judge
  judged =
      let se = seen_in (capped t) (replicate T false) in
      let s : all_seen se (length se) ≡ occur T (capped t) =
      ap (all_seen se) (seen-length (capped t) (replicate T false) ∙ length-replicate T false) ∙ seen-occur (capped t) T T (le_refl _) in
      rw s (go (occur T (capped t)) refl)
    where
      go : (b : Bool) → occur T (capped t) ≡ b
          → cond b (judge_age long T P U (root_reach T P U) pairs ages) (place_call long pairs ages) ≡ read_said pairs ages (ended long t)
      go true e = aged e
      go false e = rw (unseen e)

-- ---- the whole

root_node : (t : Newick) → Pair t → node_of (tips_in t) (capped t) ≡ nodes_in t - 1
root_node t Q = subst (λ (x : Newick). node_of (tips_in x) (capped x) ≡ nodes_in x - 1) (sym Q.is) (of-join Q.left Q.upper Q.right Q.lower)
  where
    of-join : (a : Newick) (x : ℕ) (b : Newick) (y : ℕ) → node_of (tips_in (join a x b y)) (capped (join a x b y)) ≡ nodes_in (join a x b y) - 1
    of-join a x b y = let p = joins-capped a in let q = joins-capped b in (unfold node_of joins capped in omega arith)

module _ (s : List ℕ) (t : Newick) (e : run start [] s ≡ reached (done t) []) (pairs ages : List ℕ) where
  ended-read : read_call s pairs ages ≡ read_said pairs ages (ended (length s) t)
  unfolding read_call
  ended-read = ap (read_said pairs ages) (spelled-reading s t e)

  exact_read : tips_in t ≤ 2048 → (st : List ℕ) → tips_in t ≤ length st → length st ≤ 65535
      → work s (tips_in t) (nodes_in t + nodes_in t) (nodes_in t) st (tips_in t) pairs ages ≡ read_call s pairs ages
  unfolding work P U
  exact_read F st h g =
      let B = whole-filed s t e (replicate (nodes_in t + nodes_in t) no_node) (replicate (nodes_in t) 0) st (replicate (tips_in t) false) h g (omega arith) in
      (λ i. judge (length s) (tips_in t) (sym B.pairs i) (sym B.ups i) (sym B.seen i) pairs ages)
      ∙ judged t F (root_node t (done-pair s t e)) (length s) pairs ages
      ∙ sym ended-read

  -- S-1: in room for so many tips, the passes leave what the call leaves
  pub work-read : (tips p u m : ℕ) (st : List ℕ) → tips ≡ suc (closes s) → tips ≤ 2048 → p ≡ u + u → suc u ≡ tips + tips → m ≡ tips
      → tips ≤ length st → length st ≤ 65535
      → work s tips p u st m pairs ages ≡ read_call s pairs ages
  work-read tips p u m st h f hp hu hm l g =
      let c = closes-whole s t e in
      let a : tips ≡ tips_in t = omega arith in
      let b : u ≡ nodes_in t = omega arith in
      let d : p ≡ nodes_in t + nodes_in t = omega arith in
      let k : m ≡ tips_in t = omega arith in
      (λ i. work s (a i) (d i) (b i) st (k i) pairs ages) ∙ exact_read (omega arith) st (omega arith) g

  -- more tips than 2,048
  pub many_read : 2048 ≤ closes s → read_call s pairs ages ≡ place_call (length s) pairs ages
  many_read h =
      let c = closes-whole s t e in
      let r : acceptable t ≡ false = not-accepted t (λ A. let f = A.few in omega arith) in
      ended-read ∙ ap (λ (x : Bool). read_said pairs ages (cond x (says t) (faulty (length s)))) r
