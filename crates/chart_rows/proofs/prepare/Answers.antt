-- prepare meets its contract: the rows are written from the columns, then wired.
use borrow.Author.Rules.{rules}
use native.Mathlib.Omega.{arith}
use native.Mathlib.Nat.{le_trans}
use Prim.Native.Nat.{ℕ, ◌≤◌}
use mathlib.Core.List.{List}
use lib.ListN.{length, replicate}
use Rattle.grammar.specs.Limits.{limits}
use Rattle.grammar.specs.Record.{IsRecord}
use Rattle.grammar.specs.declared.CheckedGrammar.{CheckedGrammar}
use Rattle.moves.specs.Clauses.{state_rows, Wide, column_states}
use Rattle.moves.proofs.Columns.{read}
use Rattle.moves.proofs.Built.{columns_of, few-nonterminals, few-states}
use Rattle.chart_rows.proofs.Written.{showing_of, wirable}
use Rattle.chart_rows.proofs.prepare.Goals as goal

-- rows of the largest length have room for all states
wide : (g : CheckedGrammar) → IsRecord g → (ahead number : List ℕ) → limits.max_states ≤ length ahead → limits.max_states ≤ length number
    → Wide (column_states g.lengths g.count) (state_rows ahead number (replicate limits.max_states 0) (replicate limits.max_states 0))
wide g r ahead number a b =
    let few : column_states g.lengths g.count ≤ limits.max_states = omega (arith, (read g r.grammar r.same).size, few-states g r) in
    record { ahead = le_trans few a; number = le_trans few b; member = le_trans few (search rules); target = le_trans few (search rules) }

pub write_rows-requires : goal.write_rows-requires
write_rows-requires c = let g = c.args.g.now in
    let r = c.requires.fact in
    let k = columns_of g r in record {
      n_le_max_nonterminals = few-nonterminals g r;
      columns = k;
      count_in_bounds = k.few;
      wide = wide g r c.args.ahead.now c.args.number.now (search rules) (search rules);
    }

pub wire-requires : goal.wire-requires
wire-requires c = let g = c.args.g.now in
    let r = c.requires.fact in
    let few = few-states g r in record {
      wirable = wirable g r.grammar r.well_formed r.same _ _ (wide g r c.args.ahead.now c.args.number.now (search rules) (search rules)) c.write_rows.ensures;
      roomy = record { leads = le_trans few (search rules); nexts = le_trans few (search rules); heads = search rules; homes = search rules };
      zeros = c.requires.zeros;
    }

pub returns : goal.returns
returns c = λ G W s. showing_of c.args.g.now G W s _ _ (wide c.args.g.now c.requires.fact c.args.ahead.now c.args.number.now (search rules) (search rules)) c.write_rows.ensures
    c.wire.new.lead c.wire.new.next c.wire.new.head c.wire.new.home c.wire.ensures.leads c.wire.ensures.links c.wire.ensures.homes
