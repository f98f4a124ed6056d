-- From the last level to the entry's promise: rows that say of each state what it is, sorted by class, show the moves, and a level
-- with too many states has too many above it. Assumes nothing.
use Prim.Native.Nat.{ℕ, zero, suc, ◌+◌, ◌-◌, ◌*◌, ◌≤◌, ◌<◌}
use mathlib.Core.Path.{◌≡◌, refl, sym, ap, subst, subst₂, ◌∙◌}
use mathlib.Core.Bool.{Bool, true}
use mathlib.Core.List.{List}
use native.Mathlib.Omega.{arith}
use native.Mathlib.Numerals.{add-one}
use lib.ListN.{length, get_or, take}
use Rattle.grammar.specs.Limits.{limits}
use Rattle.grammar.specs.Grammar.{Grammar, WellFormed}
use Rattle.grammar.specs.Live.{is_live}
use Rattle.grammar.specs.declared.CheckedGrammar.{CheckedGrammar}
use Rattle.automaton.specs.Callers.{Spot, last, spots}
use Rattle.automaton.specs.CallerMoves.{moves_at}
use Rattle.triple_laws.proofs.CallerMoves.{first-state}
use Rattle.triple_laws.proofs.CallerZero.{zero-states}
use Rattle.moves.specs.Tables.{Sorted, Tables, tables}
use Rattle.moves.specs.Shows.{Shows}
use Rattle.moves.proofs.Built.{few-states}
use Rattle.moves.proofs.Columns.{read}
use Rattle.triple_laws.proofs.Members.{place_mem}
use Rattle.caller_laws.specs.Classes.{RowsAre}
use Rattle.caller_laws.proofs.Classes as classes
use Rattle.caller_laws.proofs.Shows.{caller_shows}
use Rattle.caller_laws.proofs.Grow.{spots_grow}
use Rattle.live.specs.Marks.{Answers}
use Rattle.live.proofs.ColumnLaws.{lent_record}
use Rattle.caller_rule.specs.RuleRows.{Six, six}
use Rattle.caller_rows.specs.Levels.{written_from, sized_by, Says, Sizable, Level, Added, Stands, Reaches}
use Rattle.caller_rows.specs.Rows.{Begun, BuiltWith}
use Rattle.caller_rows.specs.declared.Built.{Built}
use Rattle.caller_rows.proofs.KeyLaws.{ahead-zero}

-- terminals and nonterminals have different codes
apart : limits.max_terminals < limits.nonterminal_base
apart = omega arith

-- the items are the states without callers
pub items_sizable : (G : Grammar) (n q count used : ℕ) (lefts lengths codes ahead : List ℕ) (some : Bool) (live : List ℕ)
    → Begun G n q count used lefts lengths codes ahead → Answers some live G → Sizable G 0 (written_from G n count lefts lengths codes) live q ahead
items_sizable G n q count used lefts lengths codes ahead some live B A =
    let C = B.columns in
    record {
      well_formed = C.well_formed;
      same = ap (λ (g : CheckedGrammar). written_from G g.nonterminals g.count g.lefts g.lengths g.codes) C.same;
      sentence = B.sentence;
      some = some;
      lives = A;
      states = (read _ G C.same).total ∙ sym (zero-states limits G);
      few = few-states _ (lent_record C);
      codes = ahead-zero G C.well_formed B.old ahead B.items;
    }

-- what a level is written from sizes it too
pub sizable_by : (G : Grammar) (m n count : ℕ) (lefts lengths codes live : List ℕ) (q : ℕ) (ahead : List ℕ)
    → Sizable G m (written_from G n count lefts lengths codes) live q ahead → Sizable G m (sized_by G n count lefts lengths) live q ahead
sizable_by G m n count lefts lengths codes live q ahead S = record {
  well_formed = S.well_formed;
  same = ap (λ (g : CheckedGrammar). sized_by G g.nonterminals g.count g.lefts g.lengths) S.same;
  sentence = S.sentence;
  some = S.some;
  lives = S.lives;
  states = S.states;
  few = S.few;
  codes = S.codes;
}

-- the level with m callers has no fewer states than those before it, from level 1 on
pub grown : (G : Grammar) → WellFormed limits G → (l d : ℕ) → length (spots limits G (suc l)) ≤ length (spots limits G (d + suc l))
grown G W l zero = let e : 0 + suc l ≡ suc l = omega arith in omega (arith, ap (λ (k : ℕ). length (spots limits G k)) e)
grown G W l (suc d) =
    let e : suc d + suc l ≡ suc (suc (d + l)) = omega arith in
    let f : d + suc l ≡ suc (d + l) = omega arith in
    let g = spots_grow limits G W (omega arith) (d + l) in
    omega (arith, g, grown G W l d, ap (λ (k : ℕ). length (spots limits G k)) e, ap (λ (k : ℕ). length (spots limits G k)) f)

-- so too many states stay too many
pub too_many : (G : Grammar) → WellFormed limits G → (l m states : ℕ) → states ≡ length (spots limits G (suc l)) → l < m → limits.max_states < states
    → limits.max_states < length (spots limits G m)
too_many G W l m states e h many =
    let f : (m - suc l) + suc l ≡ m = omega (arith, h) in
    omega (arith, e, many, grown G W l (m - suc l), ap (λ (k : ℕ). length (spots limits G k)) f)

-- the level that is added, by its number
pub next-at : (G : Grammar) (l : ℕ) (g : CheckedGrammar) (live : List ℕ) (states : ℕ) (ahead number member target after below ranks : List ℕ)
    → Added G l g live states ahead number member target after below ranks → states ≤ limits.max_states → Level G (l + 1) g live states ahead below ranks
next-at G l g live states ahead number member target after below ranks A h =
    subst (λ (k : ℕ). Level G k g live states ahead below ranks) (sym (add-one l)) (A.next h)

-- it stands, over the q states of the one below
pub next-stands : (G : Grammar) (l : ℕ) (g : CheckedGrammar) (live : List ℕ) (q states : ℕ) (old ahead number member target after low below older ranks : List ℕ)
    → Level G l g live q old low older → Added G l g live states ahead number member target after below ranks → states ≤ limits.max_states
    → (k : ℕ) → l + 1 ≡ suc k → Stands G k states q ahead number member target after
next-stands G l g live q states old ahead number member target after low below older ranks L A h k e =
    let z : l ≡ k = omega (arith, e) in
    subst (λ (k : ℕ). Stands G k states q ahead number member target after) z
    (record { count = A.count; kinds = L.sizable.states; kinds-few = L.sizable.few; down = (A.says h).0; says = (A.says h).1 })

module _ (G : Grammar) (W : WellFormed limits G) (l : ℕ) where
  abbrev K : ℕ
  K = length (spots limits G l)

  -- the class that leads to a state is one of 2K + 2
  most : {t : Spot} {c : ℕ} → classes.Target limits G W apart l t c → c ≤ 2 * K + 1
  most (classes.by-opening i cs e s) = let z = classes.below limits G W apart l (classes.caller_state limits G W apart l s.chain) in omega (arith, z)
  most (classes.by_end e) = let z = classes.below limits G W apart l (first-state limits G W apart l) in omega (arith, z)
  most (classes.by-closing j d cs e s) = let z = classes.below limits G W apart l (classes.shorter_state limits G W apart l s) in omega (arith, z)
  most classes.by-none = omega arith

  pub target-most : (rows : Six) → Says G l rows → (p : ℕ) → p < length (spots limits G (suc l)) → get_or rows.target p 0 ≤ 2 * K + 1
  target-most rows X p h =
      let z = most (classes.target_is limits G W apart l (get_or (spots limits G (suc l)) p last) (place_mem (spots limits G (suc l)) p last h)) in
      omega (arith, X.target p h, z)

module _ (G : Grammar) (W : WellFormed limits G) (sentence : is_live limits G 0 ≡ true) (l states k : ℕ) (ahead number member target first targets after old : List ℕ)
    (X : Stands G l states k ahead number member target after) (few : states ≤ limits.max_states) (long : states ≤ length target)
    (S : Sorted (take states target) (2 * k + 1) old first targets) where
  rows_are : RowsAre G l (tables ahead number member target first targets after)
  rows_are = record {
    few = omega (arith, few, X.count);
    kinds-few = omega (arith, X.kinds, X.kinds-few);
    long = omega (arith, long, X.count);
    ahead = X.says.ahead;
    number = X.says.number;
    member = X.says.member;
    target = X.says.target;
    after = X.says.after;
    old = old;
    sorted = subst₂ (λ (q n : ℕ). Sorted (take q target) (2 * n + 1) old first targets) X.count X.kinds S;
  }

  -- the rows of the last level, sorted, show the moves
  pub level_shows : Shows (moves_at limits G (suc l)) G.terminals k (tables ahead number member target first targets after)
  level_shows =
      subst (λ (n : ℕ). Shows (moves_at limits G (suc l)) G.terminals n (tables ahead number member target first targets after)) (sym X.kinds)
      (caller_shows G W sentence l (tables ahead number member target first targets after) rows_are)

-- ---- the entry's promise

-- what sort_targets asks
pub sortable : (G : Grammar) → WellFormed limits G → (m states k : ℕ) (ahead number member target after : List ℕ) → 1 ≤ m → Reaches G m states k ahead number member target after
    → states ≤ limits.max_states → (k ≤ limits.max_states) × ((p : ℕ) → p < states → get_or target p 0 ≤ 2 * k + 1)
sortable G W zero states k ahead number member target after h X few = absurd (omega (arith, h))
sortable G W (suc l) states k ahead number member target after h X few =
    let s = X.fits few l refl in (
      s.kinds-few,
      λ p h.
          let z = target-most G W l (six ahead number member target after s.down) s.says p (omega (arith, h, s.count)) in
          omega (arith, z, s.kinds),
    )

-- too many states: nothing is said of the rows
pub built_many : (G : Grammar) (m : ℕ) (b : Built) (ahead number member target after : List ℕ) (rows : Tables) → limits.max_states < b.states
    → Reaches G m b.states b.kinds ahead number member target after → BuiltWith G m b rows
built_many G m b ahead number member target after rows h X = record { fits = λ few. absurd (omega (arith, h, few)); many = X.many }

-- the rows of the level, and its states sorted by class
pub built_fits : (G : Grammar) → WellFormed limits G → is_live limits G 0 ≡ true → (m : ℕ) (b : Built) (ahead number member target first targets after old : List ℕ) → 1 ≤ m
    → b.states ≤ limits.max_states → Reaches G m b.states b.kinds ahead number member target after → b.states ≤ length target
    → Sorted (take b.states target) (2 * b.kinds + 1) old first targets → length targets ≡ limits.max_states
    → BuiltWith G m b (tables ahead number member target first targets after)
built_fits G W sentence zero b ahead number member target first targets after old h few X wide S long = absurd (omega (arith, h))
built_fits G W sentence (suc l) b ahead number member target first targets after old h few X wide S long =
    let s = X.fits few l refl in
    record {
      fits = λ f. (s.count, level_shows G W sentence l b.states b.kinds ahead number member target first targets after old s few wide S, long);
      many = λ many. absurd (omega (arith, many, few));
    }
