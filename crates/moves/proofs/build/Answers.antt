-- build meets its contract: the rows are written from the columns, then the targets are sorted by class.
use borrow.Author.Rules.{rules}
use native.Mathlib.Omega.{arith}
use Prim.Native.Nat.{ℕ, ◌+◌, ◌*◌}
use mathlib.Core.Path.{◌≡◌, ap}
use lib.ListN.{length}
use Rattle.grammar.specs.Limits.{limits}
use Rattle.live.specs.Lent.{with_columns}
use Rattle.live.proofs.ColumnLaws.{lent_record}
use Rattle.moves.specs.Tables.{tables}
use Rattle.moves.proofs.Built.{columns_of, wide_of, few-nonterminals, few-states, sortable, built_of}
use Rattle.moves.proofs.build.Goals as goal

pub write_rows-requires : goal.write_rows-requires
write_rows-requires c = let a = c.args in
    let old = (tables a.ahead.now a.number.now a.member.now a.target.now a.first.now a.targets.now a.after.now) in
    let k = columns_of _ (lent_record c.requires.columns_of.1) in
    let z : length c.live_rules-live.result.rules ≡ limits.max_rules = search rules in
    record { n_le_max_nonterminals = few-nonterminals _ (lent_record c.requires.columns_of.1); columns = k; count_in_bounds = omega (arith, z, k.few); wide = wide_of _ old (lent_record c.requires.columns_of.1) c.requires.room }

pub sort-requires : goal.sort-requires
sort-requires c = let p = c.requires in
    let a = c.args in
    let G = p.columns_of.0 in
    let C = p.columns_of.1 in
    let s = sortable (with_columns G a.n a.q a.count a.used a.lefts.now a.lengths.now a.codes.now) G C.well_formed C.same _ _ (c.live_rules-live.ensures G _ _ C) a.target.now _ p.room.target c.write_rows.ensures.target in
    let n = few-nonterminals _ (lent_record c.requires.columns_of.1) in
    let q = few-states _ (lent_record c.requires.columns_of.1) in
    let k = c.from.ensures in
    record { row_len_bound = omega (arith, s.long, q); row_in_bounds = omega (arith, s.long, p.room.targets); n_lt_classes = omega (arith, k, n); n_in_bounds = omega (arith, k, p.room.first); by_index = (λ t h. omega (arith, k, s.small t h)) }

pub write_after-requires : goal.write_after-requires
write_after-requires c = (c.requires.room.after, few-states _ (lent_record c.requires.columns_of.1))

pub returns : goal.returns
returns c G C = let a = c.args in
    let old = (tables a.ahead.now a.number.now a.member.now a.target.now a.first.now a.targets.now a.after.now) in
    built_of (with_columns G a.n a.q a.count a.used a.lefts.now a.lengths.now a.codes.now) G C.same _ _ (c.live_rules-live.ensures G _ _ C)
    (2 * (c.from.result + 1) + 1) old _ c.requires.room
    (record {
      rows = c.write_rows.ensures;
      many = ap (λ (n : ℕ). 2 * (n + 1) + 1) c.from.ensures;
      sorted = c.sort.ensures;
      after = c.write_after.ensures;
    })
