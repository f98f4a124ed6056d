-- size_level meets its contract: the keys of the level below are sorted, and so each rule has its segment of callers.
use borrow.Author.Rules.{rules}
use native.Mathlib.Omega.{arith}
use Prim.Native.Nat.{ℕ, ◌+◌}
use mathlib.Core.Path.{◌≡◌, ◌∙◌}
use lib.ListN.{length}
use Rattle.grammar.specs.Limits.{limits}
use Rattle.grammar.specs.Grammar.{Grammar}
use Rattle.moves.proofs.Built.{columns_of, few-nonterminals}
use Rattle.caller_rows.specs.Levels.{sized_by, Sizable, Cut}
use Rattle.caller_rows.proofs.KeyLaws.{Keyed}
use Rattle.caller_rows.proofs.LevelLaws.{cut_segmented}
use Rattle.caller_rows.proofs.AddLaws.{some-state, record_of_lem, keys_of, cut_of}
use Rattle.caller_rows.proofs.widths.size_level.Goals as goal
use Rattle.caller_rows.proofs.widths.size_level.Lts as lts
use Rattle.caller_rows.proofs.widths.size_level.Reads as reads
use Rattle.caller_rows.proofs.widths.size_level.Tie as tie

abbrev Start : Type 0
Start = lts.Start tie.the-claims reads.Pre reads.Post tie.handed_clauses

abbrev Place-After-write_keys : Type 0
Place-After-write_keys = lts.After-write_keys tie.the-claims reads.Pre reads.Post tie.handed_clauses

abbrev Place-After-sort : Type 0
Place-After-sort = lts.After-sort tie.the-claims reads.Pre reads.Post tie.handed_clauses

-- the level that the entry is asked for
abbrev Asked : Start → Grammar → ℕ → Type 0
Asked e G m = let a = e.args in Sizable G m (sized_by G a.n a.count a.lefts.now a.lengths.now) a.live.now a.q a.ahead.now

-- its keys, and the two rows of their sort
keyed-at : (c : Place-After-write_keys) (G : Grammar) (m : ℕ) → Asked c.before.before.before G m → Keyed G m c.args.n c.args.q c.write_keys.new.keys
keyed-at c G m S = keys_of G m _ _ _ _ S _ _ S.few c.write_keys.ensures

cut_at : (c : Place-After-sort) (G : Grammar) (m : ℕ) → Asked c.before.before.before.before.before.before.before.before.before G m
    → Cut G m c.args.n c.args.q c.sort.new.first c.sort.new.targets
cut_at c G m S =
    let n = few-nonterminals _ (record_of_lem G m _ _ _ _ S) in
    let f : length c.sort.new.first ≡ limits.max_nonterminals + 3 = search rules in
    let z : length c.args.callers.now ≡ limits.max_states = search rules in
    cut_of G m _ _ _ _ S _ _ _ _ _ (keyed-at c.before.before.before.before.before.before G m S) c.from-kinds.ensures c.sort.ensures (omega (arith, f, n)) z c.requires.by_index_2

pub write_keys-requires : goal.write_keys-requires
write_keys-requires c = let p = c.requires.by_index in
    let z : length c.args.ahead.now ≡ limits.max_states = search rules in
    (some-state p.0 p.1 c.args.q p.2.states, omega (arith, z, p.2.few), p.2.few, few-nonterminals _ (record_of_lem p.0 p.1 _ _ _ _ p.2))

pub sort-requires : goal.sort-requires
sort-requires c = let w = c.from-kinds.ensures in
    let p = c.requires.by_index in
    let K = keyed-at c.before.before.before.before.before p.0 p.1 p.2 in
    let n = few-nonterminals _ (record_of_lem p.0 p.1 _ _ _ _ p.2) in
    record { row_len_bound = omega (arith, K.size, K.few); row_in_bounds = omega (arith, K.size, K.few); n_lt_classes = omega (arith, w, n); n_in_bounds = omega (arith, w, n); by_index = (λ t h. omega (arith, w, K.most t h)) }

pub write_widths-requires : goal.write_widths-requires
write_widths-requires c = let p = c.requires.by_index in
    let k = columns_of _ (record_of_lem p.0 p.1 _ _ _ _ p.2) in
    let y : length c.args.live.now ≡ limits.max_rules = search rules in
    let z : length c.args.widths.now ≡ limits.max_rules = search rules in
    record { count_in_bounds = (k.left, omega (arith, k.few, y), omega (arith, k.few, z)); by_index = cut_segmented p.0 p.2.well_formed _ p.2.same p.1 _ _ _ _ (cut_at c.before.before.before.before.before p.0 p.1 p.2) }

pub state_count-requires : goal.state_count-requires
state_count-requires c = let p = c.requires.by_index in
    let k = columns_of _ (record_of_lem p.0 p.1 _ _ _ _ p.2) in
    let z : length c.args.widths.now ≡ limits.max_rules = search rules in
    (k.size, omega (arith, k.few, z, c.write_widths.ensures.size), k.few)

pub returns : goal.returns
returns c G m S = let f : length c.sort.new.first ≡ limits.max_nonterminals + 3 = search rules in
    let z : length c.args.widths.now ≡ limits.max_rules = search rules in
    record { cut = cut_at c.before.before.before.before.before.before.before.before.before.before G m S; filled = c.write_widths.ensures; total = c.state_count.ensures; first-size = f; widths_size = c.write_widths.ensures.size ∙ z }
