-- `text_read::declaring::declare` meets its contract: the tests of `declaration` in its order: the key, the names, doubles, the count.
-- Assumes nothing.
use borrow.Author.Tests.{not-true, not-false}
use native.Mathlib.Omega.{arith}
use mathlib.Core.Path.{◌≡◌, ap, sym, ◌∙◌}
use mathlib.Core.Bool.{Bool, true, false}
use mathlib.Core.List.{◌++◌}
use mathlib.Core.Option.{some}
use Prim.Native.Nat.{◌+◌, ◌-◌, ◌≤◌}
use lib.ListN.{length, take, drop, length-drop}
use lib.Seq.{length-take-le}
use Rattle.grammar.specs.Refusal.{refused}
use Rattle.text.specs.Names.{all, is_name, has_double}
use Rattle.text.specs.Keys.{key, value_of}
use Rattle.text.specs.Read.{names_of}
use Rattle.text.specs.Spelled.{spelled}
use Rattle.names.specs.Found.{part}
use Rattle.lexicon.proofs.Growth.{lexicon_once}
use Rattle.text_read.proofs.Values.{told-value, told_none, count_bad, count_all, decl_none, decl_bad, decl_double, decl_few, decl_many, decl_done}
use Rattle.text_read.proofs.Declarations.{line-value}
use Rattle.text_read.proofs.Held.{value_room}
use Rattle.text_read.proofs.declaring.declare.Goals as goal
use Rattle.text_read.proofs.declaring.declare.Lts as lts
use Rattle.text_read.proofs.declaring.declare.Reads as reads
use Rattle.text_read.proofs.declaring.declare.Tie as tie

abbrev Place-Past-After-known_told : Type 0
Place-Past-After-known_told = lts.Past-After-known_told tie.the-claims reads.Pre reads.Post tie.handed_clauses

abbrev Place-Past-After-known_told2 : Type 0
Place-Past-After-known_told2 = lts.Past-After-known_told2 tie.the-claims reads.Pre reads.Post tie.handed_clauses

abbrev Start : Type 0
Start = lts.Start tie.the-claims reads.Pre reads.Post tie.handed_clauses

abbrev Place-After-keep : Type 0
Place-After-keep = lts.After-keep tie.the-claims reads.Pre reads.Post tie.handed_clauses

-- the value at its place in the text
value : (c : Place-Past-After-known_told) → let a = c.args in
    (a.a + c.in-Value.start ≤ a.e) × (value_of (key a.k) (part a.a a.e a.text.now) ≡ some (part (a.a + c.in-Value.start) a.e a.text.now))
value c =
    let a = c.args in line-value a.k a.text.now a.a a.e c.in-Value.start c.in-Value.end c.requires.low c.requires.high
    (told-value a.k (part a.a a.e a.text.now) c.key_split.result c.in-Value.start c.in-Value.end c.in-Value.is c.key_split.ensures)

-- its names are well formed, and so many
all-names : (d : Place-Past-After-known_told2) → let a = d.args in let ns = names_of (part (a.a + d.in-Value.start) a.e a.text.now) in
    (all is_name ns ≡ true) × (d.in-Some.count ≡ length ns)
all-names d = count_all d.in-Some.count _ (sym d.count_names.ensures ∙ d.in-Some.is)

-- no name stands twice in the earlier value
once : (e : Start) → has_double (names_of e.args.earlier.now) ≡ false
once e = sym (ap has_double e.requires.spelt) ∙ lexicon_once _ _ _ _ e.requires.tree

-- the names of the rows are those of the earlier value
doubled : (w : Place-After-keep) (t : Bool) → let a = w.args in
    let ns = names_of (part (a.a + w.in-Value.start) a.e a.text.now) in
    has_double (spelled a.text.now (take a.from a.starts.now) (take a.from a.lengths.now) ++ ns) ≡ t → has_double (names_of a.earlier.now ++ ns) ≡ t
doubled w t h =
    let a = w.args in
    sym (ap (λ ns. has_double (ns ++ names_of (part (a.a + w.in-Value.start) a.e a.text.now))) w.requires.spelt) ∙ h

pub returns-in_default : goal.returns-in_default
returns-in_default c = let a = c.args in
    record { told = decl_none a.at a.k a.lo a.hi (names_of a.earlier.now) (part a.a a.e a.text.now) (told_none a.k _ c.key_split.result c.in_default.is c.key_split.ensures); held = tt }

pub overflow_add-b : goal.overflow_add-b
overflow_add-b c = omega (arith, (value c.before).0, c.requires.high)

pub slice_bounds-v-count : goal.slice_bounds-v-count
slice_bounds-v-count c = (value c.before).0

pub slice_bounds-v-start : goal.slice_bounds-v-start
slice_bounds-v-start c = omega (arith, (value c.before).0, c.requires.high)

pub returns-in_default-count_names : goal.returns-in_default-count_names
returns-in_default-count_names c = let a = c.args in record {
  told = decl_bad a.at a.k a.lo a.hi (names_of a.earlier.now) (part a.a a.e a.text.now) _ (value c.before.before.before.before).1
      (count_bad 0 _ (sym c.count_names.ensures ∙ c.in_default-count_names.is));
  held = tt;
}

pub many-cause-requires : goal.many-cause-requires
many-cause-requires c = let a = c.args in
    let b = a.a + c.in-Value.start in
    let l = length-take-le (a.e - b) (drop b a.text.now) (omega (arith, c.requires.high, length-drop b a.text.now)) in
    let h = told-value a.k _ c.key_split.result c.in-Value.start _ c.in-Value.is c.key_split.ensures in
    (omega (arith, l, h.starts, (value c.before.before.before.before.before.before.before.before).0, c.requires.high, c.requires.short), once c.before.before.before.before.before.before.before.before.before.before.before.before.before.before.before.before, c.requires.rows.lent)

pub returns-then-hi-count : goal.returns-then-hi-count
returns-then-hi-count c = let a = c.args in record {
  told = decl_many a.at a.k a.lo a.hi (names_of a.earlier.now) (part a.a a.e a.text.now) _ (value c.before.before.before.before.before.before.before.before.before.before.before.before.before.before.before).1 (all-names c.before.before.before.before.before.before.before.before.before.before.before.before).0
      (omega (arith, c.if-hi-count.true, (all-names c.before.before.before.before.before.before.before.before.before.before.before.before).1)) ∙ ap (λ x. refused x a.at) (sym c.many-cause.ensures);
  held = tt;
}

pub returns-then-count-lo : goal.returns-then-count-lo
returns-then-count-lo c = let a = c.args in record {
  told = decl_few a.at a.k a.lo a.hi (names_of a.earlier.now) (part a.a a.e a.text.now) _ (value c.before.before.before.before.before.before).1 (all-names c.before.before.before).0
      (omega (arith, c.if-count-lo.true, (all-names c.before.before.before).1)) c.requires.least (once c.before.before.before.before.before.before.before.before.before.before.before.before.before.before);
  held = tt;
}

pub keep-requires : goal.keep-requires
keep-requires c = let a = c.args in
    let h = told-value a.k _ c.key_split.result c.in-Value.start c.in-Value.end c.in-Value.is c.key_split.ensures in (
      (value c.before.before.before.before.before.before.before.before.before).0,
      c.requires.high,
      (all-names c.before.before.before.before.before.before).1,
      value_room a.k a.lo a.hi a.earlier.now a.text.now a.a a.e a.from a.starts.now a.lengths.now a.links.now c.requires
          (a.a + c.in-Value.start) _ (omega (arith, h.starts)) (value c.before.before.before.before.before.before.before.before.before).0 (all-names c.before.before.before.before.before.before).1 (omega (arith, c.if-hi-count.false)),
    )

pub returns-then-keep : goal.returns-then-keep
returns-then-keep c = let a = c.args in
    let h = told-value a.k _ c.key_split.result c.in-Value.start c.in-Value.end c.in-Value.is c.key_split.ensures in record {
      told = record {
        starts = ap (λ m. a.a + m) h.starts;
        inside = (value c.before.before.before.before.before.before.before.before.before.before.before.before.before.before.before.before.before).0;
        read = decl_done a.at a.k a.lo a.hi (names_of a.earlier.now) (part a.a a.e a.text.now) _ (value c.before.before.before.before.before.before.before.before.before.before.before.before.before.before.before.before.before).1 (all-names c.before.before.before.before.before.before.before.before.before.before.before.before.before.before).0
            (doubled c.before.before.before.before.before.before.before.before false (not-true _ (sym c.keep.ensures.told ∙ c.if-keep.true))) (omega (arith, c.if-count-lo.false, (all-names c.before.before.before.before.before.before.before.before.before.before.before.before.before.before).1))
            (omega (arith, c.if-hi-count.false, (all-names c.before.before.before.before.before.before.before.before.before.before.before.before.before.before).1));
        counts = (all-names c.before.before.before.before.before.before.before.before.before.before.before.before.before.before).1;
        most = omega (arith, c.if-hi-count.false);
      };
      held = c.keep.ensures.held c.if-keep.true;
    }

pub returns : goal.returns
returns c = let a = c.args in record {
  told = decl_double a.at a.k a.lo a.hi (names_of a.earlier.now) (part a.a a.e a.text.now) _ (value c.before.before.before.before.before.before.before.before.before.before.before.before.before.before.before.before.before).1 (all-names c.before.before.before.before.before.before.before.before.before.before.before.before.before.before).0
      (doubled c.before.before.before.before.before.before.before.before true (not-false _ (sym c.keep.ensures.told ∙ c.if-keep.false)));
  held = tt;
}
