-- As many parentheses close in a well-spelled text as its value has joins (`closes-whole`), so that its tips can be counted before they are filed.
-- Assumes nothing.
use Rattle.std.specs.Prelude.{◌≡◌, List, [], ◌∷◌, ◌++◌, ℕ, zero, suc, ◌+◌, ◌/◌, ◌%◌, ◌<◌}
use Rattle.std.proofs.Common.{sym, ◌∙◌, le_refl, ne_eqb}
use Rattle.std.proofs.Math.Path.{ap}
use Rattle.std.proofs.Math.Decide.{dec_lt}
use native.Mathlib.Omega.{arith}
use Rattle.newick.specs.Newick.{Newick, tip, join, number_text, length_text, text, whole_text, start, done, reached, run}
use Rattle.newick.specs.Numbering.{joins}
use Rattle.newick.specs.DecimalLaws.{number-one, number-snoc}
use Rattle.newick.specs.RunLaws.{read-written}
use Rattle.newick_file.specs.Filing.{closes}

closes-append : (s r : List ℕ) → closes (s ++ r) ≡ closes s + closes r
unfolding closes
closes-append [] r = omega arith
closes-append (b ∷ s) r = let e = closes-append s r in omega arith

-- ---- digits do not close

closes-digit : (d : ℕ) (s : List ℕ) → closes ((48 + d) ∷ s) ≡ closes s
unfolding closes
closes-digit d s = rw (ne_eqb (48 + d) 41 (λ z. omega arith)) (omega arith)

closes-none : closes [] ≡ 0
unfolding closes
closes-none = omega arith

closes-number : (k n : ℕ) → n < k → closes (number_text n) ≡ 0
closes-number zero n h = absurd (omega arith)
closes-number (suc k) n h = go (dec_lt n 10) (closes-number k (n / 10))
  where
    go : Dec (n < 10) → (n / 10 < k → closes (number_text (n / 10)) ≡ 0) → closes (number_text n) ≡ 0
    go (yes p) before = ap closes (number-one n p) ∙ closes-digit n [] ∙ closes-none
    go (no p) before =
        let e = closes-append (number_text (n / 10)) ((48 + n % 10) ∷ []) in
        let f = before (omega arith) in
        let g = closes-digit (n % 10) [] in
        let z = closes-none in
        ap closes (number-snoc n (omega arith)) ∙ omega arith

closes-length : (x : ℕ) → closes (length_text x) ≡ 0
closes-length x =
    let a = x / 100 % 10 in
    let b = x / 10 % 10 in
    let d = x % 10 in
    let e = closes-append (number_text (x / 1000)) (46 ∷ (48 + a) ∷ (48 + b) ∷ (48 + d) ∷ []) in
    let f = closes-number (suc (x / 1000)) (x / 1000) (le_refl _) in
    let p = closes-digit a ((48 + b) ∷ (48 + d) ∷ []) in
    let q = closes-digit b ((48 + d) ∷ []) in
    let r = closes-digit d [] in
    let z = closes-none in
    let w : closes (46 ∷ (48 + a) ∷ (48 + b) ∷ (48 + d) ∷ []) ≡ closes ((48 + a) ∷ (48 + b) ∷ (48 + d) ∷ []) = (unfold closes in omega arith) in
    e ∙ omega arith

-- ---- a value

closes-parts : (a x b y : List ℕ) → closes (40 ∷ a ++ (58 ∷ x ++ (44 ∷ b ++ (58 ∷ y ++ (41 ∷ []))))) ≡ suc (closes a + closes x + closes b + closes y)
unfolding closes
closes-parts a x b y =
    let p = closes-append a (58 ∷ x ++ (44 ∷ b ++ (58 ∷ y ++ (41 ∷ [])))) in
    let q = closes-append x (44 ∷ b ++ (58 ∷ y ++ (41 ∷ []))) in
    let r = closes-append b (58 ∷ y ++ (41 ∷ [])) in
    let s = closes-append y (41 ∷ []) in
    omega arith

closes-text : (t : Newick) → closes (text t) ≡ joins t
unfolding text joins
closes-text (tip k) = closes-number (suc k) k (le_refl _)
closes-text (join a x b y) =
    let p = closes-text a in
    let q = closes-text b in
    let r = closes-length x in
    let s = closes-length y in
    closes-parts (text a) (length_text x) (text b) (length_text y) ∙ omega arith

pub closes-whole : (s : List ℕ) (t : Newick) → run start [] s ≡ reached (done t) [] → closes s ≡ joins t
unfolding whole_text
closes-whole s t e =
    let p = closes-append (text t) (59 ∷ []) in
    let q = closes-text t in
    let z : closes (59 ∷ []) ≡ 0 = (unfold closes in omega arith) in
    ap closes (sym (read-written s t e)) ∙ omega arith
