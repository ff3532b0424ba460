-- Laws of what a text says: what it is to be acceptable, as facts (`accepts`, `accepted`, `not-accepted`), with tips that are each named once
-- (`occur-named`, `accepts-named`); and a text that says a value is spelled to its end as that value, which is acceptable (`said`). Assumes nothing.
use Rattle.std.specs.Prelude.{◌≡◌, refl, Bool, true, false, cond, ◌&&◌, List, [], ◌∷◌, ℕ, ◌^◌, ◌≤◌, ◌<◌, ltb, leb, length}
use Rattle.std.proofs.Common.{ap, ◌∙◌, subst, arith, lt-ltb, le-leb, ltb-true, leb-true}
use Rattle.std.proofs.lemmas.Bool.{false≢true}
use Rattle.tree.specs.Bounded.{every}
use Rattle.tree.specs.BoundedLaws.{every-at}
use Rattle.newick.specs.Newick.{Newick, start, sub, name, made, colon, whole, point, tenths, hundredths, branch, done, Run, forbidden, reached, run}
use Rattle.newick.specs.Numbering.{tips_in, times, reach}
use Rattle.newick.specs.Reading.{acceptable, faulty, says, judged_run, reading}
use Rattle.newick.specs.NumberingLaws.{Named}
use Rattle.newick.specs.NamedLaws.{all_named}

-- ---- what is acceptable

-- each number below m is a tip's
abbrev pub occur : ℕ → Newick → Bool
occur m t = every (λ j. ltb 0 (times j t)) m

pub record Accepts (t : Newick) : Type 0 where
  pub few : tips_in t ≤ 2048
  pub all : occur (tips_in t) t ≡ true
  pub young : reach t < 2 ^ 53

both : (a b : Bool) → a && b ≡ true → (a ≡ true) × (b ≡ true)
both true b e = (refl, e)
both false b e = absurd (false≢true e)

pub accepts : (t : Newick) → acceptable t ≡ true → Accepts t
unfolding acceptable
accepts t e =
    let p = both (leb (tips_in t) 2048 && occur (tips_in t) t) (ltb (reach t) (2 ^ 53)) e in
    let q = both (leb (tips_in t) 2048) (occur (tips_in t) t) p.0 in
    record { few = leb-true (tips_in t) 2048 q.0; all = q.1; young = ltb-true (reach t) (2 ^ 53) p.1 }

pub accepted : (t : Newick) → Accepts t → acceptable t ≡ true
unfolding acceptable
accepted t A =
    ap (λ (c : Bool). (c && occur (tips_in t) t) && ltb (reach t) (2 ^ 53)) (le-leb (tips_in t) 2048 A.few)
    ∙ ap (λ (c : Bool). c && ltb (reach t) (2 ^ 53)) A.all
    ∙ lt-ltb (reach t) (2 ^ 53) A.young

pub not-accepted : (t : Newick) → (Accepts t → ⊥) → acceptable t ≡ false
not-accepted t n = go (acceptable t) refl
  where
    go : (b : Bool) → acceptable t ≡ b → b ≡ false
    go true e = absurd (n (accepts t e))
    go false e = refl

-- of m tips whose numbers are all those below m, each occurs once
pub occur-named : (m : ℕ) (t : Newick) → tips_in t ≡ m → occur m t ≡ true → Named m t
occur-named m t z e = all_named m t z λ j J. ltb-true 0 (times j t) (every-at (λ j. ltb 0 (times j t)) m e j J)

pub accepts-named : (t : Newick) → Accepts t → Named (tips_in t) t
accepts-named t A = occur-named (tips_in t) t refl A.all

-- ---- what a text says

pub record Said (s : List ℕ) (t : Newick) : Type 0 where
  pub ran : run start [] s ≡ reached (done t) []
  pub fine : Accepts t

faulty-clash : (p : ℕ) (t : Newick) → faulty p ≡ says t → ⊥
faulty-clash p t e = let z : ◌≡◌ {A = ℕ} 0 1 = cc in omega arith

says_same : (t u : Newick) → says t ≡ says u → t ≡ u
says_same t u e = cc

said-run : (long : ℕ) (r : Run) (t : Newick) → judged_run long r ≡ says t → (r ≡ reached (done t) []) × (acceptable t ≡ true)
said-run long (forbidden rest) t e = absurd (faulty-clash _ t e)
said-run long (reached start fs) t e = absurd (faulty-clash _ t e)
said-run long (reached sub fs) t e = absurd (faulty-clash _ t e)
said-run long (reached (name k) fs) t e = absurd (faulty-clash _ t e)
said-run long (reached (made u) fs) t e = absurd (faulty-clash _ t e)
said-run long (reached (colon u) fs) t e = absurd (faulty-clash _ t e)
said-run long (reached (whole u w) fs) t e = absurd (faulty-clash _ t e)
said-run long (reached (point u w) fs) t e = absurd (faulty-clash _ t e)
said-run long (reached (tenths u w) fs) t e = absurd (faulty-clash _ t e)
said-run long (reached (hundredths u w) fs) t e = absurd (faulty-clash _ t e)
said-run long (reached (branch u x) fs) t e = absurd (faulty-clash _ t e)
said-run long (reached (done u) (f ∷ fs)) t e = absurd (faulty-clash _ t e)
said-run long (reached (done u) []) t e = go (acceptable u) refl e
  where
    go : (b : Bool) → acceptable u ≡ b → cond b (says u) (faulty long) ≡ says t → (reached (done u) [] ≡ reached (done t) []) × (acceptable t ≡ true)
    go true q e =
        let z = says_same u t e in
        (ap (λ (x : Newick). reached (done x) []) z, subst (λ (x : Newick). acceptable x ≡ true) z q)
    go false q e = absurd (faulty-clash long t e)

pub said : (s : List ℕ) (t : Newick) → reading s ≡ says t → Said s t
unfolding reading
said s t e = let r = said-run (length s) (run start [] s) t e in record { ran = r.0; fine = accepts t r.1 }
