-- The ways through the code that looks for the node without a parent: there is none (`root_none`), another after the first (`root_second`), or the first
-- alone (`root_one`). Assumes nothing.
use Rattle.std.specs.Prelude.{◌≡◌, Bool, cond, List, ℕ, ◌+◌, ◌-◌, ◌≤◌, ◌<◌, length, get_or, take, drop, Option, Some, None, Ok, Err}
use Rattle.std.specs.List.{position, position_or_len, list_any}
use Rattle.std.proofs.Math.Bool.{true, false}
use Rattle.std.proofs.Common.{append-nil, refl, sym, ap, ◌∙◌, [], ◌∷◌, ◌++◌, zero, suc, arith, length-drop}
use Rattle.std.proofs.lemmas.List.{get_or-drop, get_or_default, take_rest}
use Rattle.std.proofs.lemmas.Bool.Decides.{nat_tests}
use Rattle.std.proofs.lemmas.List.Sums.{fails_before_first}
use Rattle.std.proofs.lemmas.List.Folds.{Any-from_list_any, list_any_at}
use Rattle.std.proofs.lemmas.List.Quantifiers.{position-Some}
use Rattle.answer.specs.declared.Refusal.TheVariants.{Disconnected}
use Rattle.tree.specs.Given.{is_no_node}
use Rattle.tree.specs.New.{roots, only_root, root_of}

-- a list of one or more, and of two or more
record Some_in (l : List ℕ) : Type 0 where
  one : ℕ
  rest : List ℕ
  is : l ≡ one ∷ rest

record Two (l : List ℕ) : Type 0 where
  one : ℕ
  other : ℕ
  rest : List ℕ
  is : l ≡ one ∷ other ∷ rest

module _ (ps : List ℕ) where
  roots-none : (m : ℕ) → ((k : ℕ) → k < m → is_no_node (get_or ps k 0) ≡ false) → roots ps m ≡ []
  unfolding roots
  roots-none zero h = refl
  roots-none (suc m) h = rw (roots-none m (λ k K. h k (omega arith)), h m (omega arith))

  roots-first : (r : ℕ) → ((k : ℕ) → k < r → is_no_node (get_or ps k 0) ≡ false) → is_no_node (get_or ps r 0) ≡ true → roots ps (suc r) ≡ r ∷ []
  unfolding roots
  roots-first r h e = rw (roots-none r h, e)

  -- nodes that have a parent add nothing
  roots-again : (m d : ℕ) → ((j : ℕ) → j < d → is_no_node (get_or ps (j + m) 0) ≡ false) → roots ps (d + m) ≡ roots ps m
  unfolding roots
  roots-again m zero h = let z : zero + m ≡ m = omega arith in rw z
  roots-again m (suc d) h =
      let z : suc d + m ≡ suc (d + m) = omega arith in
      rw (z, h d (omega arith), roots-again m d (λ j J. h j (omega arith))) (append-nil _)

  roots-some : (m d : ℕ) → Some_in (roots ps m) → Some_in (roots ps (d + m))
  unfolding roots
  roots-some m zero h = let z : zero + m ≡ m = omega arith in rw z h
  roots-some m (suc d) h =
      let z : suc d + m ≡ suc (d + m) = omega arith in
      let g = roots-some m d h in
      let x = cond (is_no_node (get_or ps (d + m) 0)) ((d + m) ∷ []) [] in
      rw z (record { one = g.one; rest = g.rest ++ x; is = ap (λ (y : List ℕ). y ++ x) g.is })

  roots-two : (m d : ℕ) → Two (roots ps m) → Two (roots ps (d + m))
  unfolding roots
  roots-two m zero h = let z : zero + m ≡ m = omega arith in rw z h
  roots-two m (suc d) h =
      let z : suc d + m ≡ suc (d + m) = omega arith in
      let g = roots-two m d h in
      let x = cond (is_no_node (get_or ps (d + m) 0)) ((d + m) ∷ []) [] in
      rw z (record { one = g.one; other = g.other; rest = g.rest ++ x; is = ap (λ (y : List ℕ). y ++ x) g.is })

  two-refused : (l : List ℕ) → Two l → Err Disconnected ≡ only_root l
  two-refused l t = rw t.is

  pushed : (l : List ℕ) (j : ℕ) → Some_in l → Two (l ++ j ∷ [])
  pushed [] j s = absurd (let e = s.is in cc)
  pushed (k ∷ []) j s = record { one = k; other = j; rest = []; is = refl }
  pushed (k ∷ q ∷ l) j s = record { one = k; other = q; rest = l ++ j ∷ []; is = refl }

  rooted : (m : ℕ) → is_no_node (get_or ps m 0) ≡ true → Some_in (roots ps m) → Two (roots ps (suc m))
  unfolding roots
  rooted m e h = rw e (pushed (roots ps m) m h)

  pub root_none : position is_no_node ps ≡ None → Err Disconnected ≡ root_of ps
  root_none e =
      let l : length ps ≤ position_or_len is_no_node ps = grind (arith, nat_tests) in
      rw (roots-none (length ps) (λ k K. fails_before_first is_no_node ps k 0 (omega arith)))

  -- p is the first node without a parent
  module _ (p : Option ℕ) (f : p ≡ position is_no_node ps) (r : ℕ) (y : p ≡ Some r) where
    e : position is_no_node ps ≡ Some r
    e = sym f ∙ y

    at : (r < length ps) × (is_no_node (get_or ps r 0) ≡ true) × ((k : ℕ) → k < r → is_no_node (get_or ps k 0) ≡ false)
    at = position-Some is_no_node ps r 0 e

    rest : take (length ps - (r + 1)) (drop (r + 1) ps) ≡ drop (r + 1) ps
    rest = take_rest ps (r + 1)

    pub root_second : (b : Bool) → b ≡ list_any is_no_node (take (length ps - (r + 1)) (drop (r + 1) ps)) → b ≡ true → Err Disconnected ≡ root_of ps
    root_second b m n =
        let a : list_any is_no_node (drop (r + 1) ps) ≡ true = ap (list_any is_no_node) (sym rest) ∙ sym m ∙ n in
        let (k, x, K, X, p) = Any-from_list_any is_no_node (drop (r + 1) ps) a in
        let l : length (drop (r + 1) ps) ≡ length ps - (r + 1) = length-drop (r + 1) ps in
        let h = at.0 in
        let d = length ps - suc (suc (k + r)) in
        let y : is_no_node (get_or ps (suc (k + r)) 0) ≡ true = (
        let s : suc (k + r) ≡ r + 1 + k = omega arith in
        let q : get_or (drop (r + 1) ps) k 0 ≡ x = get_or_default (drop (r + 1) ps) k 0 x K ∙ X in
        rw (s, ← get_or-drop, q) p) in
        let z : length ps ≡ d + suc (suc (k + r)) = omega arith in
        let g : Some_in (roots ps (suc (k + r))) = (let m : suc (k + r) ≡ k + suc r = omega arith in rw m (roots-some (suc r) k (record { one = r; rest = []; is = roots-first r at.2 at.1 }))) in
        rw z (two-refused _ (roots-two (suc (suc (k + r))) d (rooted (suc (k + r)) y g)))

    pub root_one : (b : Bool) → b ≡ list_any is_no_node (take (length ps - (r + 1)) (drop (r + 1) ps)) → b ≡ false → Ok r ≡ root_of ps
    root_one b m n =
        let d = length ps - suc r in
        let h = at.0 in
        let z : length ps ≡ d + suc r = omega arith in
        let e : roots ps (d + suc r) ≡ r ∷ [] = roots-again (suc r) d (λ j J. later j J) ∙ roots-first r at.2 at.1 in
        rw (z, e)
      where
        later : (j : ℕ) → j < length ps - suc r → is_no_node (get_or ps (j + suc r) 0) ≡ false
        later j J = go (is_no_node (get_or ps (j + suc r) 0)) refl
          where
            go : (b : Bool) → is_no_node (get_or ps (j + suc r) 0) ≡ b → b ≡ false
            go false g = refl
            go true g =
                let l : length (drop (r + 1) ps) ≡ length ps - (r + 1) = length-drop (r + 1) ps in
                let s : r + 1 + j ≡ j + suc r = omega arith in
                let q : is_no_node (get_or (drop (r + 1) ps) j 0) ≡ true = rw (get_or-drop, s) g in
                sym (list_any_at is_no_node (drop (r + 1) ps) j 0 (omega arith) q) ∙ ap (list_any is_no_node) (sym rest) ∙ sym m ∙ n

pub ruleset root_laws = (root_none, root_second, root_one)
