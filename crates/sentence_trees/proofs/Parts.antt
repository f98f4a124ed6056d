-- The part of the work row that is used, and the row when it is cleared before and after. Assumes nothing.
use Prim.Native.Nat.{ℕ, ◌*◌, ◌≤◌}
use mathlib.Core.Path.{◌≡◌, ap, ◌∙◌}
use mathlib.Core.List.{List, ◌++◌}
use native.Mathlib.Nat.{mul-le-mul, le_refl}
use native.Mathlib.Omega.{arith}
use lib.ListN.{length, get_or, take, drop, replicate}
use Rattle.grammar.specs.Basics.{over}
use Rattle.clearing.proofs.Laws.{over_is, over-rest, cleared-part, cleared-rest, cleared-same}
use Rattle.trees.specs.Trees.{places}

-- m × m entries for each of Q states
pub used-some : (Q m : ℕ) → m ≤ places → Q * m ≤ places * Q
used-some Q m h = let a : Q * m ≤ Q * places = mul-le-mul (le_refl Q) h in omega arith

pub used_fits : (Q m : ℕ) → m ≤ places → Q * m * m ≤ places * places * Q
used_fits Q m h =
    let a : Q * m ≤ Q * places = mul-le-mul (le_refl Q) h in
    let b : Q * m * m ≤ Q * places * places = mul-le-mul a h in
    omega arith

-- the part is all 0
pub used-zero : (n u k : ℕ) (w x : List ℕ) → u ≤ n → x ≡ over (replicate n 0) w → get_or (take u x) k 0 ≡ 0
used-zero n u k w x h e = ap (λ z. get_or (take u z) k 0) e ∙ cleared-part n u k w h

-- a front cleared, then changed, then cleared with more is cleared once
pub clear_twice : (n u : ℕ) (p w y : List ℕ) → length p ≡ u → u ≤ n → y ≡ over (replicate u 0) w
    → over (replicate n 0) (p ++ drop u y) ≡ over (replicate n 0) w
clear_twice n u p w y q l f =
    cleared-same n w (p ++ drop u y)
    (ap (drop n) (over_is p y u q) ∙ over-rest p y n (omega arith) ∙ ap (drop n) f ∙ cleared-rest u n w l)
