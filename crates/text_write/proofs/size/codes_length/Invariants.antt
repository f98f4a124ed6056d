use Rattle.std.proofs.Common.{◌≡◌, ◌+◌, map, drop}
use Rattle.grammar.specs.Limits.{limits}
use Rattle.text_write.specs.Length.{led_length, code_length}
use Rattle.text_write.proofs.size.codes_length.Given as goal

abbrev pub invariant-loop-code : goal.invariant-loop-code
invariant-loop-code l = l.total + led_length (map (code_length limits l.t l.lengths) (drop l.code-index l.codes))
    ≡ led_length (map (code_length limits l.t l.lengths) l.codes)
