use Rattle.std.proofs.Common.{drop}
use Rattle.text.specs.Spelled.{spelled}
use Rattle.text_write.specs.Clauses.{codes_text}
use Rattle.text_write.proofs.Filling.{Filling}
use Rattle.text_write.proofs.lines.put_codes.Given as goal

abbrev pub invariant-loop-code : goal.invariant-loop-code
invariant-loop-code l = Filling l.at l.initial.out (codes_text l.t (spelled l.bytes l.starts l.lengths) l.codes) l.j l.out
    (codes_text l.t (spelled l.bytes l.starts l.lengths) (drop l.code-index l.codes))
