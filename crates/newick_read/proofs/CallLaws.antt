-- The ways through the code of the call, from what was filled up to the text. Assumes nothing.
use mathlib.Core.Path.{◌≡◌, sym, ap, ◌∙◌, subst}
use mathlib.Core.Bool.{Bool, true, false, cond}
use mathlib.Core.List.{List}
use Prim.Native.Nat.{ℕ, ◌≤◌, ◌<◌}
use native.Mathlib.Omega.{arith}
use lib.ListN.{length, take}
use lib.Seq.{length-take-le}
use borrow.Author.Tests.{lt-ltb, le-ltb}
use Rattle.newick.specs.Copies.{ReadCall, read_said, read_call}
use Rattle.newick_spell.specs.Spelling.{spelling_of}
use Rattle.newick_spell.specs.SpellingLaws.{forbidden-reading, unfinished-reading, spelled-run}
use Rattle.newick_file.specs.Filing.{most, file, blank, closes}
use Rattle.newick_file.specs.Passes.{Built}
use Rattle.newick_read.specs.Taking.{root_reach, all_seen, place_call, deliver, judge_age, judge, work}
use Rattle.newick_read.specs.Given.{Whole, Works}
use Rattle.newick_read.specs.TakingLaws.{work-read, many_read}
use Rattle.std.specs.Prelude.{Result, Ok, Err}
use Rattle.newick_spell.specs.declared.Misspelling.TheVariants as Misspellings
use Rattle.newick_spell.specs.declared.Misspelling.{Misspelling}

-- ---- what was filled, judged

module _ (long tips : ℕ) (fo us : List ℕ) (h : ℕ) (pairs ages : List ℕ) where
  pub age-young : h < most → (w : ReadCall) → w ≡ deliver tips fo us h pairs ages → w ≡ judge_age long tips fo us h pairs ages
  unfolding judge_age
  age-young e w f = rw (lt-ltb h most e) f

  pub age-old : most ≤ h → place_call long pairs ages ≡ judge_age long tips fo us h pairs ages
  unfolding judge_age
  age-old e = rw (le-ltb h most e)

module _ (long tips : ℕ) (fo us : List ℕ) (se : List Bool) (pairs ages : List ℕ) (c : Bool) (e : c ≡ all_seen se (length se)) where
  pub tips-seen : c ≡ true → (h : ℕ) → h ≡ root_reach tips fo us → (w : ReadCall) → w ≡ judge_age long tips fo us h pairs ages
      → w ≡ judge long tips fo us se pairs ages
  unfolding judge
  tips-seen f h g w i =
      i ∙ ap (λ (z : ℕ). judge_age long tips fo us z pairs ages) g
      ∙ ap (λ (x : Bool). cond x (judge_age long tips fo us (root_reach tips fo us) pairs ages) (place_call long pairs ages)) (sym f ∙ e)

  pub tips-unseen : c ≡ false → place_call long pairs ages ≡ judge long tips fo us se pairs ages
  unfolding judge
  tips-unseen f = ap (λ (x : Bool). cond x (judge_age long tips fo us (root_reach tips fo us) pairs ages) (place_call long pairs ages)) (sym f ∙ e)

pub ruleset judge_laws = (age-young, age-old, tips-seen, tips-unseen)

-- ---- in room for what is filled

pub works : (s : List ℕ) (tips : ℕ) (fo us st : List ℕ) (se : List Bool) (p u m : ℕ) → Built fo us se (file (blank tips p u st m) s)
    → (pairs ages : List ℕ) (w : ReadCall) → w ≡ judge (length s) tips fo us se pairs ages → w ≡ work s tips p u st m pairs ages
unfolding work
works s tips fo us st se p u m B pairs ages w f = f ∙ (λ i. judge (length s) tips (B.pairs i) (B.ups i) (B.seen i) pairs ages)

pub part-long : {A : Type 0} (l : List A) (m n : ℕ) → length l ≡ m → n ≤ m → length (take n l) ≡ n
part-long l m n e h = length-take-le n l (omega arith)

module _ (s : List ℕ) (tips p u : ℕ) (W : Works s tips p u tips) where
  pub nodes-room : u ≤ 4095
  nodes-room = let a = W.text.few in let b = W.ups in omega arith

  pub slots-room : p ≤ 8190
  slots-room = let a = W.text.few in let b = W.ups in let c = W.pairs in omega arith

  pub marks-read : (st : List ℕ) (l : List Bool) → length st ≡ 2048 → length l ≡ 2048 → (pairs ages : List ℕ) (w : ReadCall)
      → w ≡ work s tips p u st (length (take tips l)) pairs ages → w ≡ read_call s pairs ages
  marks-read st l e f pairs ages w g =
      let k = W.text.few in
      let m = part-long l 2048 tips f k in
      let A = W.text.whole in
      g ∙ work-read s A.value A.ran pairs ages tips p u (length (take tips l)) st W.text.count k W.pairs W.ups m (omega arith) (omega arith)

  pub lists-work : (l m : List ℕ) → length l ≡ 8190 → length m ≡ 4095 → Works s tips (length (take p l)) (length (take u m)) tips
  lists-work l m e f =
      subst (λ (x : ℕ). Works s tips x (length (take u m)) tips) (sym (part-long l 8190 p e slots-room))
      (subst (λ (x : ℕ). Works s tips p x tips) (sym (part-long m 4095 u f nodes-room)) W)

pub ruleset room_laws = (works, part-long, nodes-room, slots-room, marks-read, lists-work)

-- ---- by the count of tips

module _ (s : List ℕ) (A : Whole s) (n : ℕ) (e : n ≡ closes s) where
  pub whole-many : 2048 ≤ n → (pairs ages : List ℕ) → place_call (length s) pairs ages ≡ read_call s pairs ages
  whole-many h pairs ages = sym (many_read s A.value A.ran pairs ages (omega arith))

-- ---- by the spelling

module _ (s : List ℕ) (a : Result (Unit {0}) Misspelling) (e : a ≡ spelling_of s) where
  pub read-forbidden : (p : ℕ) → a ≡ Err (Misspellings.Forbidden p) → (pairs ages : List ℕ) → place_call p pairs ages ≡ read_call s pairs ages
  unfolding read_call
  read-forbidden p f pairs ages = sym (ap (read_said pairs ages) (forbidden-reading s p (sym e ∙ f)))

  pub read-unfinished : a ≡ (Err Misspellings.Unfinished) → (pairs ages : List ℕ) → place_call (length s) pairs ages ≡ read_call s pairs ages
  unfolding read_call
  read-unfinished f pairs ages = sym (ap (read_said pairs ages) (unfinished-reading s (sym e ∙ f)))

  pub read-spelled : a ≡ (Ok tt) → Whole s
  read-spelled f = let r = spelled-run s (sym e ∙ f) in record { value = r.0; ran = r.1 }

pub ruleset call_laws = (whole-many, read-forbidden, read-unfinished, read-spelled)
