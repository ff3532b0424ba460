-- The ways through the code that fills a slice with a postorder: one node placed (`visit_laws`), all of them (`fill_laws`), and the entry point
-- (`postorder_laws`). Assumes nothing.
use mathlib.Core.Path.{◌≡◌, refl, sym, ap, ◌∙◌, subst}
use mathlib.Core.List.{List, [], ◌∷◌, ◌++◌, append-nil, append_assoc}
use Prim.Native.Nat.{ℕ, suc, ◌+◌, ◌-◌, ◌/◌, ◌≤◌, ◌<◌}
use native.Mathlib.Omega.{arith}
use native.Mathlib.Numerals.{add-one}
use native.Mathlib.Decide.{ℕ_discrete, dec_le}
use lib.ListN.{length, get_or, set, take, drop, length-set, length-append, length-drop}
use lib.Seq.{drop-length, take-suc, take-suc-set, take-set-le, drop-cons, drop-set-lt, get_or-set_same, get_or-set_other, length-take-le, get_or-take}
use borrow.Author.Tests.{lt-ltb, le-ltb, eq-eqb, ne_eqb}
use Rattle.answer.specs.declared.Refusal.{Refusal}
use Rattle.answer.specs.declared.Refusal.TheVariants.{Size}
use Rattle.tree.specs.Tree.{Tree, first_in, second_in, subtree}
use Rattle.tree.specs.New.{validated}
use Rattle.tree.specs.Valid.{Valid, Inner}
use Rattle.tree.specs.Given.{tree_of}
use Rattle.tree.specs.PlaceLaws.{next_place}
use Rattle.accepted.specs.WayLaws.{valid-nodes}
use Rattle.accepted.specs.SubtreeLaws.{subtree-some, subtree-inner, subtree-tip, postorder-length}
use Rattle.accepted.specs.ValidatedLaws.{fine-valid}
use Rattle.order.specs.Postorder.{postorder_given, postorder_call}
use Rattle.order.specs.Filling.{Waiting, waiting, visited, Visits, Fills, spread, Filling}
use Rattle.std.specs.Prelude.{Result, Ok, Err}

-- ---- one node

module _ (pairs order : List ℕ) (last at : ℕ) where
  pub visit-inner : length order < get_or order last 0 + get_or order last 0
      → waiting (last + 2) (set (set (set order at (get_or order last 0)) last (get_or pairs (get_or order last 0 + get_or order last 0) 0)) (last + 1) (get_or pairs (get_or order last 0 + get_or order last 0 + 1) 0)) ≡ visited pairs order last at
  unfolding visited
  visit-inner i = rw (lt-ltb _ _ i, add-one last, next_place pairs (get_or order last 0))

  pub visit-tip : get_or order last 0 + get_or order last 0 ≤ length order → waiting last (set order at (get_or order last 0)) ≡ visited pairs order last at
  unfolding visited
  visit-tip i = rw (le-ltb _ _ i)

  pub visit-room : (x y : ℕ) → Visits pairs order last at → length order < get_or order last 0 + get_or order last 0 → last + 1 < length (set (set order at x) last y)
  visit-room x y v i = let r = v.room i in simp (length-set, length-set) (omega arith)

pub ruleset visit_laws = (visit-inner, visit-tip, visit-room)

-- ---- the subtrees that wait

module _ (n : ℕ) (pairs : List ℕ) where
  spread-one : (k : ℕ) → spread n pairs (k ∷ []) ≡ subtree n n pairs k
  unfolding spread
  spread-one k = append-nil _

  spread-append : (l m : List ℕ) → spread n pairs (l ++ m) ≡ spread n pairs l ++ spread n pairs m
  unfolding spread
  spread-append [] m = refl
  spread-append (k ∷ l) m = ap (λ (x : List ℕ). subtree n n pairs k ++ x) (spread-append l m) ∙ sym (append_assoc (subtree n n pairs k) (spread n pairs l) (spread n pairs m))

  -- each has a node or more
  spread-many : (l : List ℕ) → ((j : ℕ) → j < length l → get_or l j 0 < n) → length l ≤ length (spread n pairs l)
  unfolding spread
  spread-many [] h = omega arith
  spread-many (k ∷ l) h =
      let a = spread-many l (λ j J. h (suc j) (omega arith)) in
      let b = subtree-some n pairs k (h 0 (omega arith)) in
      let e = length-append (subtree n n pairs k) (spread n pairs l) in
      omega arith

-- ---- a node that is placed

-- the place before the placed ones, filled
placed : (order : List ℕ) (at k : ℕ) → at < length order → drop at (set order at k) ≡ k ∷ drop (suc at) order
placed order at k h =
    drop-cons (set order at k) at 0 (simp length-set h)
    ∙ (λ i. get_or-set_same order at k 0 h i ∷ drop-set-lt (suc at) order at k (omega arith) i)

-- what waits is as long as the places before the placed ones
module _ (pairs : List ℕ) (root n : ℕ) (order : List ℕ) (count at : ℕ) (f : Filling pairs root n count at order) where
  whole : length (subtree n n pairs root) ≡ n
  whole =
      let t : Tree = tree_of pairs f.fills.parents f.fills.heights root in
      subst (λ (m : ℕ). length (subtree m m pairs root) ≡ n) (valid-nodes f.fills.valid) (postorder-length n t f.fills.valid)

  waits-long : length (spread n pairs (take count order)) ≡ at
  waits-long =
      let a = ap length f.rest in
      let b = length-append (spread n pairs (take count order)) (drop at order) in
      let c = length-drop at order in
      let e = whole in
      let l = f.long in
      let g = f.end in
      omega arith

  waits-many : (j : ℕ) → j ≤ count → j ≤ length (spread n pairs (take j order))
  waits-many j J =
      let l = f.long in
      let g = f.fit in
      let e = length-take-le j order (omega arith) in
      let m = spread-many n pairs (take j order) (λ i I. subst (λ (x : ℕ). x < n) (sym (get_or-take j order i 0 (omega arith))) (f.nodes i (omega arith))) in
      omega arith

  ahead : count ≤ at
  ahead = let a = waits-long in let b = waits-many count (omega arith) in omega arith

module _ (pairs : List ℕ) (root n : ℕ) (order : List ℕ) (last at : ℕ) (f : Filling pairs root n (suc last) (suc at) order) where
  valid : Valid n (tree_of pairs f.fills.parents f.fills.heights root)
  valid = f.fills.valid

  K : get_or order last 0 < n
  K = f.nodes last (omega arith)

  here : last < length order
  here = let l = f.long in let g = f.fit in omega arith

  split : spread n pairs (take (suc last) order) ≡ spread n pairs (take last order) ++ subtree n n pairs (get_or order last 0)
  split =
      ap (spread n pairs) (take-suc order last 0 here)
      ∙ spread-append n pairs (take last order) (get_or order last 0 ∷ [])
      ∙ ap (λ (x : List ℕ). spread n pairs (take last order) ++ x) (spread-one n pairs (get_or order last 0))

  long : length (spread n pairs (take last order)) + length (subtree n n pairs (get_or order last 0)) ≡ suc at
  long =
      let a = waits-long pairs root n order (suc last) (suc at) f in
      let d = ap length split ∙ length-append (spread n pairs (take last order)) (subtree n n pairs (get_or order last 0)) in
      omega arith

  many : last ≤ length (spread n pairs (take last order))
  many = waits-many pairs root n order (suc last) (suc at) f last (omega arith)

  -- there is a place for the node
  under : last ≤ at
  under = let a = ahead pairs root n order (suc last) (suc at) f in omega arith

  -- and places for its children
  module _ (i : n < get_or order last 0 + get_or order last 0) where
    parts : subtree n n pairs (get_or order last 0) ≡ (subtree n n pairs (first_in pairs (get_or order last 0)) ++ subtree n n pairs (second_in pairs (get_or order last 0))) ++ (get_or order last 0 ∷ [])
    parts = subtree-inner n (tree_of pairs f.fills.parents f.fills.heights root) valid (get_or order last 0) K i

    both : Inner n (tree_of pairs f.fills.parents f.fills.heights root) (get_or order last 0)
    both = valid.inner (get_or order last 0) K i

    room : suc last < at
    room =
        let A = subtree n n pairs (first_in pairs (get_or order last 0)) in
        let B = subtree n n pairs (second_in pairs (get_or order last 0)) in
        let a = long in
        let b = many in
        let c = ap length parts in
        let d = length-append (A ++ B) (get_or order last 0 ∷ []) in
        let e = length-append A B in
        let x = subtree-some n pairs (first_in pairs (get_or order last 0)) both.first_node in
        let y = subtree-some n pairs (second_in pairs (get_or order last 0)) both.second_node in
        omega arith

  visits : Visits pairs order last at
  visits =
      let l = f.long in
      let g = f.end in
      let few = valid.sized.few in
      let twice = valid.sized.pairs in
      record {
        few = omega arith;
        twice = omega arith;
        node = (let h = K in omega arith);
        waits = here;
        place = omega arith;
        room = λ i. let r = room (omega arith) in omega arith;
      }

  -- ---- what waits and what is placed afterwards

  placed-rest : (S : List ℕ) → S ++ (get_or order last 0 ∷ []) ≡ spread n pairs (take (suc last) order) → S ++ (get_or order last 0 ∷ drop (suc at) order) ≡ subtree n n pairs root
  placed-rest S e = sym (append_assoc S (get_or order last 0 ∷ []) (drop (suc at) order)) ∙ ap (λ (x : List ℕ). x ++ drop (suc at) order) e ∙ f.rest

  inside : at < length order
  inside = let l = f.long in let g = f.end in omega arith

  tip-filling : get_or order last 0 + get_or order last 0 ≤ length order → Filling pairs root n last at (set order at (get_or order last 0))
  tip-filling i =
      let l = f.long in
      let g = f.end in
      let h = f.fit in
      record {
        fills = f.fills;
        long = length-set order at (get_or order last 0) ∙ f.long;
        fit = omega arith;
        end = omega arith;
        nodes = λ j J. (let u = under in subst (λ (x : ℕ). x < n) (sym (get_or-set_other order at j (get_or order last 0) 0 (omega arith))) (f.nodes j (omega arith)));
        rest = rw (placed order at (get_or order last 0) inside, take-set-le last order at (get_or order last 0) under) (placed-rest (spread n pairs (take last order))
            (sym (split ∙ ap (λ (x : List ℕ). spread n pairs (take last order) ++ x) (subtree-tip n (tree_of pairs f.fills.parents f.fills.heights root) valid (get_or order last 0) K (omega arith)))));
      }

  -- the slice after an inner node was visited
  grown : List ℕ
  grown = set (set (set order at (get_or order last 0)) last (first_in pairs (get_or order last 0))) (suc last) (second_in pairs (get_or order last 0))

  module _ (i : length order < get_or order last 0 + get_or order last 0) where
    deep : suc last < at
    deep = let l = f.long in room (omega arith)

    A : List ℕ
    A = subtree n n pairs (first_in pairs (get_or order last 0))

    B : List ℕ
    B = subtree n n pairs (second_in pairs (get_or order last 0))

    grown-take : take (suc (suc last)) grown ≡ (take last order ++ (first_in pairs (get_or order last 0) ∷ [])) ++ (second_in pairs (get_or order last 0) ∷ [])
    unfolding grown
    grown-take =
        let x = get_or order last 0 in
        let a = first_in pairs x in
        let b = second_in pairs x in
        let d = deep in
        let h = inside in
        take-suc-set (set (set order at x) last a) (suc last) b (simp (length-set, length-set) (omega arith))
        ∙ ap (λ (l : List ℕ). l ++ (b ∷ [])) (take-suc-set (set order at x) last a (simp length-set here) ∙ ap (λ (l : List ℕ). l ++ (a ∷ [])) (take-set-le last order at x under))

    grown-drop : drop at grown ≡ get_or order last 0 ∷ drop (suc at) order
    unfolding grown
    grown-drop =
        let x = get_or order last 0 in
        let a = first_in pairs x in
        let d = deep in
        drop-set-lt at (set (set order at x) last a) (suc last) (second_in pairs x) d ∙ drop-set-lt at (set order at x) last a (omega arith) ∙ placed order at x inside

    grown-spread : spread n pairs ((take last order ++ (first_in pairs (get_or order last 0) ∷ [])) ++ (second_in pairs (get_or order last 0) ∷ [])) ≡ spread n pairs (take last order) ++ (A ++ B)
    unfolding A B
    grown-spread =
        let m = n in
        let x = get_or order last 0 in
        let S = spread n pairs (take last order) in
        spread-append m pairs (take last order ++ (first_in pairs x ∷ [])) (second_in pairs x ∷ [])
        ∙ (λ j. (spread-append m pairs (take last order) (first_in pairs x ∷ []) ∙ ap (λ (l : List ℕ). S ++ l) (spread-one m pairs (first_in pairs x))) j ++ spread-one m pairs (second_in pairs x) j)
        ∙ append_assoc S (subtree m m pairs (first_in pairs x)) (subtree m m pairs (second_in pairs x))

    grown-rest : (spread n pairs (take last order) ++ (A ++ B)) ++ (get_or order last 0 ∷ []) ≡ spread n pairs (take (suc last) order)
    unfolding A B
    grown-rest =
        let S = spread n pairs (take last order) in
        let l = f.long in
        append_assoc S (A ++ B) (get_or order last 0 ∷ []) ∙ sym (split ∙ ap (λ (x : List ℕ). S ++ x) (parts (omega arith)))

    grown-nodes : (j : ℕ) → j < suc (suc last) → get_or grown j 0 < n
    unfolding grown
    grown-nodes j J =
        let l = f.long in
        let d = deep in
        let h = inside in
        let x = get_or order last 0 in
        let a = first_in pairs x in
        let b = second_in pairs x in
        let both' = both (omega arith) in
        let o2 = set (set order at x) last a in
        elim (ℕ_discrete j (suc last)) [
          | yes e ↦ rw (e, get_or-set_same o2 (suc last) b 0 (simp (length-set, length-set) (omega arith))) both'.second_node
          | no p ↦ rw (get_or-set_other o2 (suc last) j b 0 p) (elim (ℕ_discrete j last) [
            | yes e ↦ rw (e, get_or-set_same (set order at x) last a 0 (simp length-set here)) both'.first_node
            | no q ↦ rw (get_or-set_other (set order at x) last j a 0 q, get_or-set_other order at j x 0 (omega arith)) (f.nodes j (omega arith))
          ])
        ]

    grown-filling : Filling pairs root n (suc (suc last)) at grown
    grown-filling =
        let d = deep in
        let l = f.long in
        let g = f.end in
        record {
          fills = f.fills;
          long = unfold grown in simp (length-set, length-set, length-set) f.long;
          fit = omega arith;
          end = omega arith;
          nodes = grown-nodes;
          rest = rw (grown-take, grown-drop, grown-spread) (placed-rest (spread n pairs (take last order) ++ (A ++ B)) grown-rest);
        }

  visited-filling : (r : ℕ) (o : List ℕ) → waiting r o ≡ visited pairs order last at → Filling pairs root n r at o
  unfolding visited
  visited-filling r o e = elim (dec_le (get_or order last 0 + get_or order last 0) (length order)) [
    | yes i ↦ let z : waiting r o ≡ waiting last (set order at (get_or order last 0)) = e ∙ sym (visit-tip pairs order last at i) in moved z (tip-filling i)
    | no i ↦ let j : length order < get_or order last 0 + get_or order last 0 = omega arith in let z : waiting r o ≡ waiting (last + 2) grown = e ∙ grown-is j in moved z (subst (λ (m : ℕ). Filling pairs root n m at grown) {x = suc (suc last)} {y = last + 2} (omega arith) (grown-filling j))
  ]
    where
      grown-is : length order < get_or order last 0 + get_or order last 0 → visited pairs order last at ≡ waiting (last + 2) grown
      grown-is j = unfold visited grown in rw (lt-ltb _ _ j)

      moved : {m : ℕ} {l : List ℕ} → waiting r o ≡ waiting m l → Filling pairs root n m at l → Filling pairs root n r at o
      moved z g = subst (λ (w : Waiting). Filling pairs root n w.count at w.order) (sym z) g

-- ---- all nodes

module _ (pairs : List ℕ) (root : ℕ) (order₀ : List ℕ) (s : Fills pairs root (length order₀)) where
  pub fill-root : root < length order₀
  fill-root = s.valid.root_node

  pub fill-some : 0 < length order₀
  fill-some = let h = s.valid.sized.some in omega arith

  pub fill-few : length order₀ ≤ 4095
  fill-few = s.valid.sized.few

  pub fill_start : Filling pairs root (length (set order₀ 0 root)) 1 (length (set order₀ 0 root)) (set order₀ 0 root)
  fill_start = rw (length-set order₀ 0 root) start
    where
      start : Filling pairs root (length order₀) 1 (length order₀) (set order₀ 0 root)
      start =
          let h = s.valid.sized.some in
          let e : take 1 (set order₀ 0 root) ≡ root ∷ [] = take-suc-set order₀ 0 root (omega arith) in
          let d : drop (length order₀) (set order₀ 0 root) ≡ [] = drop-set-lt (length order₀) order₀ 0 root (omega arith) ∙ drop-length order₀ in
          record {
            fills = s;
            long = length-set order₀ 0 root;
            fit = omega arith;
            end = omega arith;
            nodes = λ j J. (let z : j ≡ 0 = omega arith in rw (z, get_or-set_same order₀ 0 root 0 (omega arith)) s.valid.root_node);
            rest = rw (e, d) (append-nil _ ∙ spread-one (length order₀) pairs root);
          }

module _ (pairs : List ℕ) (root n : ℕ) (order : List ℕ) (count at : ℕ) (f : Filling pairs root n count at order) where
  pub fill_end : (m : ℕ) → count ≤ 0 → n ≡ m → order ≡ subtree m m pairs root
  unfolding spread
  fill_end m h e =
      let a = waits-long pairs root n order count at f in
      let z : count ≡ 0 = omega arith in
      let y : at ≡ 0 = sym (subst (λ (j : ℕ). length (spread n pairs (take j order)) ≡ at) z a) in
      rw (← e) (subst (λ (l : List ℕ). order ≡ l) f.rest (rw (z, y)))

  module _ (h : 0 < count) where
    shifted : Filling pairs root n (suc (count - 1)) (suc (at - 1)) order
    shifted =
        let a = ahead pairs root n order count at f in
        subst (λ (m : ℕ). Filling pairs root n m (suc (at - 1)) order) {x = count} {y = suc (count - 1)} (omega arith)
        (subst (λ (m : ℕ). Filling pairs root n count m order) {x = at} {y = suc (at - 1)} (omega arith) f)

    pub fill-place : 1 ≤ at
    fill-place = let a = ahead pairs root n order count at f in omega arith

    pub fill-less : at - 1 < at
    fill-less = let a = fill-place in omega arith

    pub fill-visits : Visits pairs order (count - 1) (at - 1)
    fill-visits = visits pairs root n order (count - 1) (at - 1) shifted

    pub fill-again : (r : ℕ) (o : List ℕ) → waiting r o ≡ visited pairs order (count - 1) (at - 1) → Filling pairs root n r (at - 1) o
    fill-again r o e = visited-filling pairs root n order (count - 1) (at - 1) shifted r o e

pub ruleset fill_laws = (fill_start, fill-root, fill-some, fill-few, fill_end, fill-place, fill-less, fill-visits, fill-again)

-- ---- the entry point

module _ (t : Tree) (order : List ℕ) where
  pub postorder-size : (length order ≡ length t.pairs / 2 → ⊥) → postorder_given (Err (Size (length t.pairs / 2))) order ≡ postorder_call t order
  unfolding postorder_call
  postorder-size d = rw (ne_eqb _ _ d)

  pub postorder-fills : (u : Tree) → u ≡ t → length order ≡ length u.pairs / 2 → (v : Result (Unit {0}) Refusal) → v ≡ validated t → v ≡ Ok tt → Fills u.pairs u.root (length order)
  postorder-fills u f l v e y = record { parents = u.parents; heights = u.heights; valid = rw l (fine-valid u (ap validated f ∙ sym e ∙ y)) }

  module _ (l : length order ≡ length t.pairs / 2) (v : Result (Unit {0}) Refusal) (e : v ≡ validated t) where
    pub postorder-refused : (why : Refusal) → v ≡ Err why → postorder_given (Err why) order ≡ postorder_call t order
    unfolding postorder_call
    postorder-refused why y = rw (eq-eqb _ _ l, ← e, y)

    module _ (y : v ≡ Ok tt) where
      pub postorder-done : (o : List ℕ) → o ≡ subtree (length order) (length order) t.pairs t.root → postorder_given (Ok tt) o ≡ postorder_call t order
      unfolding postorder_call
      postorder-done o f = rw (eq-eqb _ _ l, ← e, y, f, l)

pub ruleset postorder_laws = (postorder-size, postorder-refused, postorder-done)
