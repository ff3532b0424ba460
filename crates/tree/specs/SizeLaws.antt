-- What the test of the sizes says (`fit_of`). Assumes nothing.
use Rattle.std.specs.Prelude.{◌≡◌, ◌&&◌, List, ℕ, ◌+◌, ◌%◌, ◌≤◌, T, leb, eqb, length, Float}
use Rattle.std.proofs.Common.{leb→le, eqb→eq}
use Rattle.std.specs.Float.Ieee.Fits.{and_l, and_r}
use Rattle.tree.specs.New.{size_fits}

-- n nodes, with that many pairs and heights
pub record Fit (n : ℕ) (pairs : List ℕ) (hs : List Float) : Type 0 where
  pub some : 3 ≤ n
  pub few : n ≤ 4095
  pub odd : n % 2 ≡ 1
  pub twice : length pairs ≡ n + n
  pub heights : length hs ≡ n

module _ (n : ℕ) (pairs : List ℕ) (hs : List Float) where
  pub fit_of : T (size_fits n pairs hs) → Fit n pairs hs
  fit_of h =
      let a = leb 3 n in
      let b = leb n 4095 in
      let c = eqb (n % 2) 1 in
      let d = eqb (length pairs) (n + n) in
      let e = eqb (length hs) n in
      let h4 = and_l (a && b && c && d) e h in
      let h3 = and_l (a && b && c) d h4 in
      let h2 = and_l (a && b) c h3 in
      record {
        some = leb→le 3 n (and_l a b h2);
        few = leb→le n 4095 (and_r a b h2);
        odd = eqb→eq (n % 2) 1 (and_r (a && b) c h3);
        twice = eqb→eq (length pairs) (n + n) (and_r (a && b && c) d h4);
        heights = eqb→eq (length hs) n (and_r (a && b && c && d) e h);
      }
