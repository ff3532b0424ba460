-- The ways through the passes over the bytes of a text. Assumes nothing.
use mathlib.Core.Path.{◌≡◌, refl, sym, ap, ◌∙◌, subst}
use mathlib.Core.Bool.{Bool, true, false, cond}
use mathlib.Core.List.{List}
use Prim.Native.Nat.{ℕ, suc, ◌+◌, ◌≤◌, ◌<◌}
use native.Mathlib.Numerals.{add-one}
use native.Mathlib.Omega.{arith}
use lib.Dec.{eqb}
use lib.ListN.{length, get_or, drop, replicate, drop_of_length-le}
use lib.Seq.{drop-cons}
use mir.Val.{bool_byte}
use Rattle.tree.specs.Tree.{no_node}
use Rattle.newick_file.specs.declared.Filer.{Filer}
use Rattle.newick_file.specs.Filing.{Filing, filing, file_byte, file, begun, blank, close_of, closes}
use Rattle.newick_file.specs.Passes.{Built, Files}

-- ---- the second pass

module _ (s : List ℕ) (i : ℕ) (q : Filer) (ps us st : List ℕ) (se : List Bool) (F : Filing) (L : Files s i q ps us st se F) where
  pub files-next : i < length s → (ps' us' st' : List ℕ) (se' : List Bool) (q' : Filer)
      → filing ps' us' st' se' q' ≡ file_byte (filing ps us st se q) (get_or s i 0) → Files s (i + 1) q' ps' us' st' se' F
  unfolding file
  files-next h ps' us' st' se' q' e = record {
    fit = omega arith;
    rest =
        ap (λ (j : ℕ). file (filing ps' us' st' se' q') (drop j s)) (add-one i)
        ∙ ap (λ (G : Filing). file G (drop (suc i) s)) e
        ∙ ap (file (filing ps us st se q)) (sym (drop-cons s i 0 h))
        ∙ L.rest;
  }

  pub files-end : length s ≤ i → Built ps us se F
  unfolding file
  files-end h =
      let e : filing ps us st se q ≡ F = ap (file (filing ps us st se q)) (sym (drop_of_length-le s {i = i} h)) ∙ L.rest in
      record { pairs = ap (λ (G : Filing). G.pairs) e; ups = ap (λ (G : Filing). G.ups) e; seen = ap (λ (G : Filing). G.seen) e }

pub built-blank : (s : List ℕ) (tips : ℕ) (ps us st : List ℕ) (se : List Bool) (ps₀ us₀ : List ℕ) (se₀ : List Bool) (p u e : ℕ)
    → ps₀ ≡ replicate p no_node → us₀ ≡ replicate u 0 → se₀ ≡ replicate e false → Built ps us se (file (begun tips ps₀ us₀ st se₀) s)
    → Built ps us se (file (blank tips p u st e) s)
built-blank s tips ps us st se ps₀ us₀ se₀ p u e f g h B = subst (Built ps us se) (λ i. file (begun tips (f i) (g i) st (h i)) s) B

pub ruleset pass_laws = (files-next, files-end, built-blank)

-- ---- counting

pub close-byte : (b : ℕ) → bool_byte (eqb b 41) ≡ close_of b
close-byte b = go (eqb b 41)
  where
    go : (c : Bool) → bool_byte c ≡ cond c 1 0
    go true = refl
    go false = refl

module _ (s : List ℕ) (i n : ℕ) (few : n ≤ i) (rest : n + closes (drop i s) ≡ closes s) where
  pub counted_next : i < length s → n + close_of (get_or s i 0) + closes (drop (i + 1) s) ≡ closes s
  unfolding closes
  counted_next h =
      let z : closes (drop i s) ≡ close_of (get_or s i 0) + closes (drop (suc i) s) = ap closes (drop-cons s i 0 h) in
      ap (λ (j : ℕ). n + close_of (get_or s i 0) + closes (drop j s)) (add-one i) ∙ omega arith

  pub counted-few : n + close_of (get_or s i 0) ≤ i + 1
  counted-few = go (eqb (get_or s i 0) 41)
    where
      go : (c : Bool) → n + cond c 1 0 ≤ i + 1
      go true = omega arith
      go false = omega arith

  pub counted-end : length s ≤ i → n ≡ closes s
  unfolding closes
  counted-end h = let z : closes (drop i s) ≡ 0 = ap closes (drop_of_length-le s {i = i} h) in omega arith
