-- The length of a printed text, from the lengths of its names and its rules; `printed-length` of proofs/ says that it is that.
-- Source: document 01, "Grammar text". Assumes nothing.
use Rattle.std.specs.Prelude.{ℕ, ◌+◌, List, [], ◌∷◌, map, take, drop, get_or}
use Rattle.grammar.specs.Limits.{Limits}
use Rattle.grammar.specs.Grammar.{Rule}
use Rattle.text.specs.Read.{symbol_of}

-- pieces of these lengths with one byte before each, and with one byte between them
unfoldable pub led_length : List ℕ → ℕ
led_length [] = 0
led_length (l ∷ ls) = l + 1 + led_length ls

unfoldable pub join_length : List ℕ → ℕ
join_length [] = 0
join_length (l ∷ ls) = l + led_length ls

module _ (L : Limits) (t : ℕ) (lengths : List ℕ) where
  -- the name of a code
  unfoldable pub code_length : ℕ → ℕ
  code_length code = get_or lengths (symbol_of L t code) 0

  -- a rule's line: 4 bytes are its key, 3 the equals sign, the colon and the line's end
  unfoldable pub rule_length : Rule → ℕ
  rule_length r = 7 + code_length r.left + led_length (map code_length r.right)

  unfoldable pub rules_length : List Rule → ℕ
  rules_length [] = 0
  rules_length (r ∷ rs) = rule_length r + rules_length rs

  -- the text: 21 bytes are the keys of the first two lines, 4 their equals signs and ends
  unfoldable pub text_length : List Rule → ℕ
  text_length rules = 25 + join_length (take t lengths) + join_length (drop t lengths) + rules_length rules
