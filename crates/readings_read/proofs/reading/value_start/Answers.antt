-- `readings_read::reading::value_start` meets its contract: the line has the key, and the equals sign after it. Assumes nothing.
use Rattle.std.proofs.Common.{◌≡◌, ℕ, ◌+◌, Bool, true, false, ◌&&◌, List, [], ◌∷◌, refl, ap, sym, ◌∙◌, eqb, length, drop, take, arith}
use mathlib.Core.Option.{some, none}
use borrow.Author.Tests.{eq-eqb, ne_eqb, eqb-true, eqb-false}
use lib.Pointwise.{pointwise}
use Rattle.std.specs.List.{starts_with}
use Rattle.grammar.specs.Basics.{choose}
use Rattle.text.specs.Keys.{value_of}
use Rattle.text_read.proofs.Values.{value-short, value-equals, value-other, tail-part}
use Rattle.readings_read.proofs.reading.value_start.Goals as goal

-- a line that begins with the key has the value that stands past it; another one has none
begins : (key line : List ℕ) → value_of key line ≡ choose (starts_with eqb line key) (value_of (drop (length key) key) (drop (length key) line)) none
unfolding value_of
begins [] line = refl
begins (x ∷ xs) [] = refl
begins (x ∷ xs) (y ∷ ys) = go (eqb x y) refl (begins xs ys)
  where
    go : (c : Bool) → eqb x y ≡ c
        → value_of xs ys ≡ choose (pointwise eqb xs (take (length xs) ys)) (value_of (drop (length xs) xs) (drop (length xs) ys)) none
        → choose (eqb y x) (value_of xs ys) none
        ≡ choose (c && pointwise eqb xs (take (length xs) ys)) (value_of (drop (length xs) xs) (drop (length xs) ys)) none
    go true e again = rw (eq-eqb y x (sym (eqb-true x y e))) again
    go false e again = rw (ne_eqb y x (λ q. eqb-false x y e (sym q)))

pub returns-then-line-m : goal.returns-then-line-m
returns-then-line-m c = let a = c.args in value-short a.key.now a.line.now c.if-line-m.true

pub returns-then-not-starts_with : goal.returns-then-not-starts_with
returns-then-not-starts_with c = let a = c.args in
    let e = sym c.starts_with.ensures.value ∙ c.if-not-starts_with.true in
    begins a.key.now a.line.now ∙ ap (λ b. choose b (value_of (drop (length a.key.now) a.key.now) (drop (length a.key.now) a.line.now)) none) e

pub returns-then-line-m-ne-EQUALS : goal.returns-then-line-m-ne-EQUALS
returns-then-line-m-ne-EQUALS c = let a = c.args in
    let e = sym c.starts_with.ensures.value ∙ c.if-not-starts_with.false in
    begins a.key.now a.line.now
    ∙ ap (λ b. choose b (value_of (drop (length a.key.now) a.key.now) (drop (length a.key.now) a.line.now)) none) e
    ∙ value-other a.key.now a.line.now (length a.key.now) (omega arith) (omega arith) c.if-line-m-ne-EQUALS.true

pub returns : goal.returns
returns c = let a = c.args in
    let e = sym c.starts_with.ensures.value ∙ c.if-not-starts_with.false in
    record {
      inside = omega arith;
      value = begins a.key.now a.line.now
          ∙ ap (λ b. choose b (value_of (drop (length a.key.now) a.key.now) (drop (length a.key.now) a.line.now)) none) e
          ∙ value-equals a.key.now a.line.now (length a.key.now) (omega arith) (omega arith) c.if-line-m-ne-EQUALS.false
          ∙ ap some (sym (tail-part a.line.now (length a.key.now + 1)));
    }
