-- `text_read::value::key_split` meets its contract: the line is longer than the key, begins with it, and has the sign behind. Assumes nothing.
use Rattle.std.proofs.Common.{arith, ℕ, ◌≡◌, ◌+◌, ◌<◌, ◌≤◌, ◌∙◌, List, true, false, eqb, ap, subst, length, get_or, take, drop}
use Rattle.std.specs.Cmp.Lexicographic.{pointwise}
use Rattle.std.proofs.Math.Option.{none, some}
use Rattle.text.specs.Keys.{key, value_of}
use Rattle.text_read.specs.Values.{HasValue}
use Rattle.text_read.proofs.Values.{value-short, value-differ, value-past, value-equals, value-other, split-value}
use Rattle.text_read.proofs.value.key_split.Goals as goal
use Rattle.text_read.proofs.value.key_split.Goals.{then-n-m-via-then-n-m, then-n-m-via-else-n-m+then-not-starts_with, then-n-m-via-else-n-m+else-not-starts_with+then-line-m-ne-EQUALS}

-- with the key as it was got
module _ (k : ℕ) (line got : List ℕ) (is : got ≡ key k) where
  short : length line ≤ length got → value_of (key k) line ≡ none
  short h = subst (λ x. value_of x line ≡ none) is (value-short got line h)

  differs : false ≡ pointwise eqb got (take (length got) line) → value_of (key k) line ≡ none
  differs h = subst (λ x. value_of x line ≡ none) is (value-differ got line h)

  unsigned : true ≡ pointwise eqb got (take (length got) line) → length got < length line → (get_or line (length got) 0 ≡ 61 → ⊥) → value_of (key k) line ≡ none
  unsigned h l n = subst (λ x. value_of x line ≡ none) is (value-past got line h ∙ value-other got line (length got) (omega arith) l n)

  signed : true ≡ pointwise eqb got (take (length got) line) → length got < length line → get_or line (length got) 0 ≡ 61 → HasValue k line (length got + 1) (length line)
  signed h l e = split-value k line (length got) (ap length is) l (subst (λ x. value_of x line ≡ some (drop (length got + 1) line)) is (value-past got line h ∙ value-equals got line (length got) (omega arith) l e))

pub returns-then-n-m : goal.returns-then-n-m
returns-then-n-m c = elim c.then-n-m.branch [
  | then-n-m-via-then-n-m w ↦ short c.args.k c.args.line.now c.key-key.result.now c.key-key.ensures w.if-n-m.true
  | then-n-m-via-else-n-m+then-not-starts_with w ↦ differs c.args.k c.args.line.now c.key-key.result.now c.key-key.ensures w.if-not-starts_with.ensures.value
  | then-n-m-via-else-n-m+else-not-starts_with+then-line-m-ne-EQUALS w ↦ unsigned c.args.k c.args.line.now c.key-key.result.now c.key-key.ensures
      w.if-not-starts_with.ensures.value w.if-n-m.false w.if-line-m-ne-EQUALS.true
]

pub returns : goal.returns
returns c = signed c.args.k c.args.line.now c.key-key.result.now c.key-key.ensures c.if-not-starts_with.ensures.value c.if-n-m.false c.if-line-m-ne-EQUALS.false
