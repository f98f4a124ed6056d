-- begin meets its contract: what was prepared is what it gives.
use Rattle.witness_records.proofs.Begins.{stops_as, goes_as}
use Rattle.witness_records.proofs.begin.Goals as goal

pub returns : goal.returns
returns c = record {
  sized = c.prepare-w.ensures.sized;
  stops = stops_as _ _ _ _ _ _ c.prepare-w.ensures;
  goes = goes_as _ _ _ _ _ _ c.prepare-w.ensures;
}
