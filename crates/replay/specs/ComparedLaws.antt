-- What it says that two texts compare as alike: they are one text, and a case that is alike and has an answer has the answer of its file. Assumes nothing.
use Rattle.std.specs.Prelude.{◌≡◌, refl, Bool, true, false, cond, List, [], ◌∷◌, ℕ, suc, ltb, length, Some, None}
use Rattle.std.proofs.Common.{sym, arith, eq-eqb, ne_eqb}
use Rattle.std.proofs.Math.Decide.{ℕ_discrete}
use Rattle.respond.specs.Respond.{file_reply}
use Rattle.replay.specs.Replay.{Case, compared, within, compared_case}

differ-not-alike : {A : Type 0} {i : ℕ} → Some i ≡ None → A
differ-not-alike q = let z : ◌≡◌ {A = ℕ} 0 1 = cc in absurd (omega arith)

pub alike_same : (i : ℕ) (a b : List ℕ) → compared i a b ≡ None → a ≡ b
unfolding compared
alike_same i [] [] q = refl
alike_same i [] (y ∷ ys) q = differ-not-alike q
alike_same i (x ∷ xs) [] q = differ-not-alike q
alike_same i (x ∷ xs) (y ∷ ys) q = go (ℕ_discrete x y) (alike_same (suc i) xs ys)
  where
    go : Dec (x ≡ y) → (compared (suc i) xs ys ≡ None → xs ≡ ys) → x ∷ xs ≡ y ∷ ys
    go (yes e) same = let l : xs ≡ ys = same (rw (eq-eqb x y e) at q) in cc
    go (no e) same = differ-not-alike (rw (ne_eqb x y e) at q)

pub same_alike : (i : ℕ) (a : List ℕ) → compared i a a ≡ None
unfolding compared
same_alike i [] = refl
same_alike i (x ∷ xs) = rw (eq-eqb x x refl) (same_alike (suc i) xs)

pub case-alike : (c : Case) → (c.answer ≡ [] → ⊥) → compared_case c ≡ None → file_reply 131072 c.file ≡ c.answer
unfolding within
case-alike c given q = go (ltb 131136 (length (file_reply 131072 c.file))) (alike_same 0 (within 131136 (file_reply 131072 c.file)) c.answer q)
  where
    go : (b : Bool) → cond b [] (file_reply 131072 c.file) ≡ c.answer → file_reply 131072 c.file ≡ c.answer
    go true e = absurd (given (sym e))
    go false e = e
