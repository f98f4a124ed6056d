use Rattle.tops.specs.Tops.{lows}
use Rattle.search.proofs.FinishLaws.{Way}
use Rattle.search.proofs.finish.write_way.Given as goal

abbrev pub invariant-loop-k : goal.invariant-loop-k
invariant-loop-k l = Way l.queue (lows l.parents) l.count l.place l.d l.initial.witness l.witness l.at l.k
