-- How much the program prints at most: a refusal's number and position are small, and so are Q and the size. Assumes nothing.
use Prim.Native.Nat.{ℕ, zero, suc, ◌+◌, ◌*◌, ◌≤◌}
use mathlib.Core.Path.{◌≡◌, refl, ap, subst, ◌∙◌}
use mathlib.Core.Bool.{Bool, true, false, not, ◌&&◌}
use mathlib.Core.List.{List, [], ◌∷◌, ◌++◌}
use mathlib.Core.Option.{Option, none, some}
use native.Mathlib.Omega.{arith}
use native.Mathlib.Nat.{mul-le-mul}
use borrow.Author.Tests.{leb-true}
use lib.Dec.{leb, eqb}
use lib.ListN.{length, length-append}
use Rattle.grammar.specs.Basics.{choose, Mem, here, there}
use Rattle.grammar.specs.Limits.{limits}
use Rattle.grammar.specs.Grammar.{Rule, Grammar, WellFormed, state_count}
use Rattle.grammar.specs.Table.{encode}
use Rattle.grammar.specs.Refusal.{Answer, done, refused, refuse_unless, and_then, no_sentence, buffer_too_short, cause_number, out_of_range, rule_too_long, rule_repeated, too_many_states, malformed, name_unknown, name_repeated}
use Rattle.grammar.proofs.Answers.{then-done, unless_done, done_inj}
use Rattle.grammar.proofs.WellFormed.{room}
use Rattle.grammar.proofs.Sentence.{takes_only}
use Rattle.grammar.specs.declared.Cause.{Cause}
use Rattle.automaton.specs.Items.{states}
use Rattle.automaton.specs.PositionMoves.{moves_of}
use Rattle.triples.specs.Index.{triple_count}
use Rattle.triples.specs.Smallest.{smallest, size}
use Rattle.triple_laws.proofs.Members.{distinct_below}
use Rattle.triple_laws.proofs.Laws.{smallest_distinct, smallest-below}
use Rattle.text.specs.Pieces.{onto, split_on}
use Rattle.text.specs.Names.{is_name, all, has_double, within}
use Rattle.text.specs.Keys.{key, value_of}
use Rattle.text.specs.Read.{Source, symbol_names, grammar_of, refuse_none, names_of, declaration, sides_of, is_known, rule_line, rule_lines, whole_line, read_lines, read_text}
use Rattle.text.specs.Rules.{admit, last_tests, check_text}
use Rattle.text.proofs.PrintRead.{read_well}
use Rattle.text.proofs.Admit.{text-checked}
use Rattle.text.proofs.RoundTrip.{apart}
use Rattle.triple_laws.proofs.Position.{position-regular}
use Rattle.search.specs.Promise.{is_potential}
use Rattle.report.specs.Report.{program_text, program_states, judge, line, states_is, verdict_is, reached_is, refused_is, at_is, unambiguous, potential, witness_lines, verdict_lines, grammar_lines, printed, report_of, report_size}
use Rattle.report.specs.Clauses.{refused_lines}
use Rattle.report.proofs.Strings.{witness_most}
use Rattle.readings_write.proofs.Decimal.{decimal-most}
use Rattle.text.specs.Numbers.{decimal}
use Rattle.text.proofs.WellNamed.{WellNamedSource}
use Rattle.automaton.specs.Moves.{Moves}

-- ---- refusals

-- a refusal has one of the documents' causes and a position that is at most b
abbrev pub Small : {A : Type 0} → ℕ → Answer A → Type 0
Small b (done a) = Unit {0}
Small b (refused cause at) = (cause_number cause ≤ cause_number no_sentence) × (at ≤ b)

small_unless : {A : Type 0} (b : ℕ) (cause : Cause) (at : ℕ) (t : Bool) (o : Answer A) → cause_number cause ≤ cause_number no_sentence → at ≤ b → Small b o → Small b (refuse_unless cause at t o)
unfolding refuse_unless
small_unless b cause at true o h k s = s
small_unless b cause at false o h k s = (h, k)

small-none : {A B : Type 0} (b : ℕ) (cause : Cause) (at : ℕ) (o : Option A) (go : A → Answer B) → cause_number cause ≤ cause_number no_sentence → at ≤ b → ((a : A) → Small b (go a))
    → Small b (refuse_none cause at o go)
unfolding refuse_none
small-none b cause at none go h k s = (h, k)
small-none b cause at (some a) go h k s = s a

small-then : {A B : Type 0} (b : ℕ) (o : Answer A) (go : A → Answer B) → Small b o → ((a : A) → o ≡ done a → Small b (go a)) → Small b (and_then o go)
unfolding and_then
small-then b (done a) go s t = t a refl
small-then b (refused cause at) go s t = s

-- ---- lines

-- a text of m bytes has at most m + 1 pieces
pieces_most : (c : ℕ) (s : List ℕ) → length (split_on c s) ≤ suc (length s)
unfolding split_on
pieces_most c [] = omega arith
pieces_most c (x ∷ s) = go (eqb x c) (split_on c s) (pieces_most c s)
  where
    go : (b : Bool) (ps : List (List ℕ)) → length ps ≤ suc (length s) → length (choose b ([] ∷ ps) (onto x ps)) ≤ suc (suc (length s))
    go true ps h = omega arith
    go false [] h = omega arith
    go false (p ∷ ps) h = omega arith

module _ (b : ℕ) where
  small-declaration : (at k lo hi : ℕ) (earlier : List (List ℕ)) (l : List ℕ) → at ≤ b → Small b (declaration at k lo hi earlier l)
  unfolding declaration
  small-declaration at k lo hi earlier l h =
      small-none b malformed at (value_of (key k) l) _ (omega arith) h (λ v.
      small_unless b malformed at (all is_name (names_of v)) _ (omega arith) h
      (small_unless b name_repeated at (not (has_double (earlier ++ names_of v))) _ (omega arith) h
      (small_unless b out_of_range at (within lo hi (length (names_of v))) _ (omega arith) h tt)))

  small-rule : (at t : ℕ) (names : List (List ℕ)) (l : List ℕ) → at ≤ b → Small b (rule_line limits at t names l)
  unfolding rule_line
  small-rule at t names l h =
      small-none b malformed at (value_of (key 2) l) _ (omega arith) h (λ v.
      small-none b malformed at (sides_of (split_on 58 v)) _ (omega arith) h (λ s.
      small_unless b malformed at (is_name s.head && all is_name s.body) _ (omega arith) h
      (small_unless b name_unknown at (is_known t names s.head && all (is_known 0 names) s.body) _ (omega arith) h
      (small_unless b rule_too_long at (leb (length s.body) 12) _ (omega arith) h tt))))

  small-rules : (at t : ℕ) (names ps : List (List ℕ)) → at + length ps ≤ suc b → 1 ≤ length ps → Small b (rule_lines limits at t names ps)
  unfolding rule_lines
  small-rules at t names [] h i = absurd (omega arith)
  small-rules at t names (p ∷ []) h i = small_unless b malformed at (eqb (length p) 0) _ (omega arith) (omega arith) tt
  small-rules at t names (p ∷ q ∷ qs) h i =
      small-then b (rule_line limits at t names p) _ (small-rule at t names p (omega arith)) (λ r e.
      small-then b (rule_lines limits (suc at) t names (q ∷ qs)) _ (small-rules (suc at) t names (q ∷ qs) (omega arith) (omega arith)) (λ rs f. tt))

  small-whole : {B : Type 0} (at : ℕ) (ps : List (List ℕ)) (go : List ℕ → List (List ℕ) → Answer B) → at ≤ b
      → ((p : List ℕ) (qs : List (List ℕ)) → suc (length qs) ≡ length ps → 1 ≤ length qs → Small b (go p qs)) → Small b (whole_line at ps go)
  unfolding whole_line
  small-whole at [] go h s = (omega arith, h)
  small-whole at (p ∷ []) go h s = (omega arith, h)
  small-whole at (p ∷ q ∷ qs) go h s = s p (q ∷ qs) refl (omega arith)

  small-lines : (ps : List (List ℕ)) → length ps ≤ b → 2 ≤ b → Small b (read_lines limits ps)
  unfolding read_lines
  small-lines ps h i =
      small-whole 1 ps _ (omega arith) (λ first more e k.
      small-then b (declaration 1 0 0 limits.max_terminals [] first) _ (small-declaration 1 0 0 limits.max_terminals [] first (omega arith)) (λ ts x.
      small-whole 2 more _ (omega arith) (λ second rest f l.
      small-then b (declaration 2 1 1 limits.max_nonterminals ts second) _ (small-declaration 2 1 1 limits.max_nonterminals ts second (omega arith)) (λ ns y.
      small-then b (rule_lines limits 3 (length ts) (ts ++ ns) rest) _ (small-rules 3 (length ts) (ts ++ ns) rest (omega (arith, e, f)) l) (λ rs z. tt)))))

  small-admit : (m : ℕ) (earlier : List Rule) (at : ℕ) (rs : List Rule) → ((r : Rule) → Mem r rs → length r.right ≤ 12)
      → at + 14 * m ≤ b → Small b (admit limits m earlier at rs)
  unfolding admit
  small-admit m earlier at [] f h = tt
  small-admit zero earlier at (r ∷ rs) f h = (omega arith, omega arith)
  small-admit (suc m) earlier at (r ∷ rs) f h =
      let k = f r here in
      small_unless b rule_repeated at _ _ (omega arith) (omega arith)
      (small_unless b too_many_states at _ _ (omega arith) (omega arith)
      (small-admit m _ (at + 2 + length r.right) rs (λ s i. f s (there i)) (omega arith)))

-- no refusal of such a text has a position past this: a line of the text, or an offset in a table of all rules
abbrev pub farthest : ℕ
farthest = 6000

-- the reader's refusals of a text that the program takes
small-text : (text : List ℕ) → length text ≤ program_text → Small farthest (check_text limits text)
unfolding check_text read_text
small-text text h =
    small-then farthest (read_text limits text) _
    (small_unless farthest malformed 0 _ _ (omega arith) (omega arith) (small-lines farthest (split_on 10 text) (omega (arith, pieces_most 10 text)) (omega arith)))
    (λ s e. small-then farthest (last_tests limits s) _ (small_tests s e) (λ G f. tt))
  where
    small_tests : (s : Source) → read_text limits text ≡ done s → Small farthest (last_tests limits s)
    small_tests s e =
        unfold last_tests in
        small-then farthest (admit limits limits.max_rules [] 0 s.rules) _
        (small-admit farthest limits.max_rules [] 0 s.rules (λ r i. ((read_well limits apart text s e).fit r i).few) (omega arith))
        (λ rs f. small_unless farthest no_sentence 0 _ _ (omega arith) (omega arith) tt)

-- ---- a text that is judged

-- a test that holds may be used
small-when : {A : Type 0} (b : ℕ) (cause : Cause) (at : ℕ) (t : Bool) (o : Answer A) → cause_number cause ≤ cause_number no_sentence → at ≤ b → (t ≡ true → Small b o) → Small b (refuse_unless cause at t o)
unfolding refuse_unless
small-when b cause at true o h k s = s refl
small-when b cause at false o h k s = (h, k)

small-judge : (text : List ℕ) → Small farthest (judge text)
unfolding judge
small-judge text =
    small-when farthest buffer_too_short 0 (leb (length text) 4096) _ (omega arith) (omega arith) (λ e.
    small-then farthest (check_text limits text) _ (small-text text (leb-true (length text) 4096 e)) (λ s f.
    small_unless farthest buffer_too_short 0 (leb (state_count s.rules) 48) _ (omega arith) (omega arith) tt))

-- what is known of a text that is judged
pub record JudgedText (text : List ℕ) (s : Source) : Type 0 where
  pub checked : check_text limits text ≡ done s
  pub well : WellNamedSource limits s
  pub well_formed : WellFormed limits (grammar_of s)
  pub few : states (grammar_of s) ≤ program_states

pub judged_text : (text : List ℕ) (s : Source) → judge text ≡ done s → JudgedText text s
unfolding judge
judged_text text s e =
    let a = unless_done buffer_too_short 0 (leb (length text) program_text) _ s e in
    let b = then-done (check_text limits text) _ s a.1 in
    let c = unless_done buffer_too_short 0 (leb (state_count b.0.rules) program_states) (done b.0) s b.2 in
    let g : b.0 ≡ s = done_inj c.1 in
    let d : check_text limits text ≡ done s = b.1 ∙ ap (λ (s : Source). done s) g in
    let k = text-checked limits apart text s d in
    record {
      checked = d;
      well = k.well;
      well_formed = (takes_only limits room (length s.terminals) (length s.nonterminals) (encode s.rules) (grammar_of s) k.table).well_formed;
      few = subst (λ (s : Source). states (grammar_of s) ≤ program_states) g (leb-true (state_count b.0.rules) program_states c.0);
    }

-- the size is at most 2Q²
size-most : (G : Grammar) → WellFormed limits G → size (moves_of limits G) ≤ triple_count (states G)
size-most G w =
    let M = moves_of limits G in
    let R = position-regular limits G w (omega arith) in
    distinct_below (triple_count (states G)) (smallest M) (smallest_distinct M R) (smallest-below M R)

-- ---- what is printed

line-size : (k v : List ℕ) → length (line k v) ≡ length k + length v + 1
line-size k v = omega (arith, length-append k (v ++ (10 ∷ [])), length-append v (10 ∷ []))

-- Q's line
pub states-line : (G : Grammar) → states G ≤ program_states → length (line states_is (decimal (states G))) ≤ 10
states-line G h = omega (arith, line-size states_is (decimal (states G)), decimal-most 1 (states G) (omega (arith, h)))

-- what is printed for a grammar that is not too large, with names for its symbols
pub grammar-most : (G : Grammar) → WellFormed limits G → states G ≤ program_states → (names : List (List ℕ)) → all is_name names ≡ true
    → length names ≡ G.terminals + G.nonterminals → length (grammar_lines G names) ≤ report_size
grammar-most G W few names named many = go (is_potential M) refl
  where
    M : Moves
    M = moves_of limits G

    square : triple_count (states G) ≤ triple_count program_states
    square = let m = mul-le-mul {n₂ = program_states} {m₂ = program_states} few few in omega (arith, m)

    go : (b : Bool) → is_potential (moves_of limits G) ≡ b
        → length (line states_is (decimal (states G)) ++ verdict_lines b (size (moves_of limits G)) (witness_lines G names)) ≤ report_size
    go true e =
        omega (
          arith,
          states-line G few,
          square,
          length-append (line states_is (decimal (states G))) (line verdict_is potential ++ witness_lines G names),
          length-append (line verdict_is potential) (witness_lines G names),
          witness_most G W e names named many,
        )
    go false e =
        let n = size (moves_of limits G) in
        omega (
          arith,
          states-line G few,
          length-append (line states_is (decimal (states G))) (line verdict_is unambiguous ++ line reached_is (decimal n)),
          length-append (line verdict_is unambiguous) (line reached_is (decimal n)),
          line-size reached_is (decimal n),
          decimal-most 3 n (omega (arith, size-most G W, square)),
        )

-- a refusal
pub refused-most : (cause : Cause) (at : ℕ) → cause_number cause ≤ cause_number no_sentence → at ≤ farthest → length (refused_lines cause at) ≤ report_size
refused-most cause at h k =
    omega (
      arith,
      length-append (line refused_is (decimal (cause_number cause))) (line at_is (decimal at)),
      line-size refused_is (decimal (cause_number cause)),
      line-size at_is (decimal at),
      decimal-most 1 (cause_number cause) (omega (arith, h)),
      decimal-most 3 at (omega (arith, k)),
    )

-- an output of report_size bytes is never too short
pub never_short : (text : List ℕ) → length (report_of text) ≤ report_size
unfolding report_of
never_short text = go (judge text) refl (small-judge text)
  where
    go : (o : Answer Source) → judge text ≡ o → Small farthest o → length (printed o) ≤ report_size
    go (done s) e k =
        let j = judged_text text s e in
        grammar-most (grammar_of s) j.well_formed j.few (symbol_names s) j.well.named (length-append s.terminals s.nonterminals)
    go (refused cause at) e k = refused-most cause at k.0 k.1
