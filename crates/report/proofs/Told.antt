-- What the search tells of a table that is judged, and what is printed for a text that the reader reads. Assumes nothing.
use Prim.Native.Nat.{ℕ, ◌≤◌, ◌<◌}
use mathlib.Core.Path.{◌≡◌, refl, ap, sym, subst, ◌∙◌}
use mathlib.Core.Bool.{Bool, true, false}
use mathlib.Core.List.{List}
use native.Mathlib.Omega.{arith}
use native.Mathlib.Nat.{mul-le-mul}
use borrow.Author.Tests.{le-leb, lt-leb}
use lib.Dec.{leb}
use lib.ListN.{length, take, drop, length-append}
use lib.Seq.{take-append_seam}
use Rattle.grammar.specs.Basics.{over}
use Rattle.grammar.specs.Limits.{limits}
use Rattle.grammar.specs.Grammar.{Grammar, state_count}
use Rattle.grammar.specs.Refusal.{Answer, done, refused, refuse_unless, and_then, buffer_too_short}
use Rattle.grammar.proofs.Answers.{unless_holds, unless_fails, then-goes, then_stops}
use Rattle.grammar.proofs.WellFormed.{room}
use Rattle.grammar.specs.declared.Cause.{Cause}
use Rattle.automaton.specs.Items.{states}
use Rattle.automaton.specs.Moves.{Moves}
use Rattle.automaton.specs.PositionMoves.{moves_of}
use Rattle.triples.specs.Smallest.{size}
use Rattle.triples.specs.Shortest.{shortest}
use Rattle.triple_laws.proofs.CallerChecks.{zero-check}
use Rattle.text.specs.Read.{Source}
use Rattle.text.specs.Rules.{check_text}
use Rattle.search.specs.Promise.{Lent, is_potential, Told, Answers, Searches}
use Rattle.search.specs.declared.SearchVerdict.{SearchVerdict}
use Rattle.search.specs.declared.SearchVerdict.TheVariants as search
use Rattle.search.proofs.LentLaws.{is_enough_lem, search_enough}
use Rattle.report.specs.Report.{program_text, program_states, judge}
use Rattle.report.specs.Clauses.{Tellable}

-- ---- the search

-- the rows that the program lends suffice
pub record Rows (before : Lent) : Type 0 where
  pub certificate : length before.certificate ≡ 576
  pub queue : length before.queue ≡ 4608
  pub parents : length before.parents ≡ 4608
  pub witness : length before.witness ≡ 4608

-- the first number of a verdict: the size, or the witness's entries; and which verdict it is
abbrev number_in : SearchVerdict → ℕ
number_in (search.Unambiguous n looked) = n
number_in (search.Potential n looked) = n
number_in (search.Refused c p) = 0

abbrev kind_in : SearchVerdict → ℕ
kind_in (search.Unambiguous n looked) = 0
kind_in (search.Potential n looked) = 1
kind_in (search.Refused c p) = 2

module _ (t n : ℕ) (table : List ℕ) (q : ℕ) (text starts lengths : List ℕ) (s : Tellable t n table q text starts lengths)
    (before : Lent) (v : SearchVerdict) (after : Lent) (l : Rows before) (h : Searches t n table 0 before v after) where
  abbrev M : Moves
  M = moves_of limits s.grammar

  told : Told (is_potential M) M before v after
  told =
      let G = s.grammar in
      let k : states G ≤ program_states = omega (arith, s.counted, s.few) in
      let m = mul-le-mul {n₂ = program_states} {m₂ = program_states} k k in
      let e = is_enough_lem (states G) before (record {
        certificate = omega (arith, m, l.certificate);
        queue = omega (arith, m, l.queue);
        parents = omega (arith, m, l.parents);
        witness = omega (arith, m, l.witness);
      }) in
      subst (λ (o : Answer Grammar). Answers limits 0 o before v after) (search_enough t n table 0 before G (zero-check limits room t n table ∙ s.passes) e) h

  -- unambiguous with the size
  pub is_unambiguous : (k looked : ℕ) → v ≡ search.Unambiguous k looked → (is_potential M ≡ false) × (k ≡ size M)
  is_unambiguous k looked e = go (is_potential M) refl told
    where
      go : (b : Bool) → is_potential M ≡ b → Told b M before v after → (is_potential M ≡ false) × (k ≡ size M)
      go true d w = absurd (let z : ◌≡◌ {A = ℕ} 0 1 = ap kind_in (sym e ∙ w.verdict) in omega (arith, z))
      go false d w = (d, ap number_in (sym e ∙ w.verdict))

  -- potential with the shortest witness at the front of its row
  pub is_potential_lem : (k looked : ℕ) → v ≡ search.Potential k looked
      → (is_potential M ≡ true) × (k ≤ length after.witness) × (take k after.witness ≡ shortest M)
  unfolding over
  is_potential_lem k looked e = go (is_potential M) refl told
    where
      go : (b : Bool) → is_potential M ≡ b → Told b M before v after
          → (is_potential M ≡ true) × (k ≤ length after.witness) × (take k after.witness ≡ shortest M)
      go true d w =
          let x = shortest M in
          let n : k ≡ length x = ap number_in (sym e ∙ w.verdict) in (
            d,
            omega (arith, n, ap length w.witness, length-append x (drop (length x) before.witness)),
            ap (λ (n : ℕ). take n after.witness) n ∙ ap (take (length x)) w.witness ∙ take-append_seam x (drop (length x) before.witness),
          )
      go false d w = absurd (let z : ◌≡◌ {A = ℕ} 1 0 = ap kind_in (sym e ∙ w.verdict) in omega (arith, z))

  -- it never refuses
  pub no_refusal : {A : Type 0} (c : Cause) (p : ℕ) → v ≡ search.Refused c p → A
  no_refusal {A} c p e = go (is_potential M) told
    where
      go : (b : Bool) → Told b M before v after → A
      go true w = absurd (let z : ◌≡◌ {A = ℕ} 2 1 = ap kind_in (sym e ∙ w.verdict) in omega (arith, z))
      go false w = absurd (let z : ◌≡◌ {A = ℕ} 2 0 = ap kind_in (sym e ∙ w.verdict) in omega (arith, z))

-- ---- the reader

module _ (text : List ℕ) where
  abbrev rest : Source → Answer Source
  rest s = refuse_unless buffer_too_short 0 (leb (state_count s.rules) program_states) (done s)

  -- a longer text is 14 at 0
  pub long-text : program_text < length text → judge text ≡ refused buffer_too_short 0
  unfolding judge
  long-text h = unless_fails buffer_too_short 0 (leb (length text) program_text) _ (lt-leb (length text) program_text h)

  module _ (short : length text ≤ program_text) where
    judged : judge text ≡ and_then (check_text limits text) rest
    unfolding judge
    judged = unless_holds buffer_too_short 0 (leb (length text) program_text) _ (le-leb (length text) program_text short)

    -- the reader refuses
    pub text-refused : (cause : Cause) (at : ℕ) → check_text limits text ≡ refused cause at → judge text ≡ refused cause at
    text-refused cause at c = judged ∙ then_stops (check_text limits text) rest cause at c

    -- there are too many states, or not
    pub many_states : (s : Source) → check_text limits text ≡ done s → program_states < state_count s.rules → judge text ≡ refused buffer_too_short 0
    many_states s c h =
        judged ∙ then-goes (check_text limits text) rest s c
        ∙ unless_fails buffer_too_short 0 (leb (state_count s.rules) program_states) _ (lt-leb (state_count s.rules) program_states h)

    pub few-states : (s : Source) → check_text limits text ≡ done s → state_count s.rules ≤ program_states → judge text ≡ done s
    few-states s c h =
        judged ∙ then-goes (check_text limits text) rest s c
        ∙ unless_holds buffer_too_short 0 (leb (state_count s.rules) program_states) (done s) (le-leb (state_count s.rules) program_states h)
