-- What follows from the promise of the report. Assumes nothing.
use Prim.Native.Nat.{ℕ, ◌≤◌}
use mathlib.Core.Path.{◌≡◌, refl, ap, ap₂, sym, subst, ◌∙◌}
use mathlib.Core.Bool.{Bool, true, false, not}
use mathlib.Core.List.{List, [], ◌∷◌, ◌++◌}
use native.Mathlib.Omega.{arith}
use lib.ListN.{length, get_or, take, drop}
use lib.Seq.{drop-append_seam, append_snoc, take_at}
use borrow.Author.Tests.{ne_eqb}
use Rattle.grammar.specs.Basics.{over}
use Rattle.grammar.specs.Limits.{limits}
use Rattle.grammar.specs.Grammar.{Grammar, WellFormed}
use Rattle.grammar.specs.Refusal.{Answer, done, refused, buffer_too_short}
use Rattle.grammar.proofs.Answers.{no_bool, done_inj, unless_done}
use Rattle.automaton.specs.Items.{states}
use Rattle.automaton.specs.Strings.{Potential, Unambiguous}
use Rattle.automaton.specs.Position.{position}
use Rattle.automaton.specs.PositionMoves.{moves_of}
use Rattle.triples.specs.Index.{index}
use Rattle.triples.specs.Smallest.{smallest, size}
use Rattle.triple_laws.proofs.Explore.{is_element_lem}
use Rattle.triple_laws.proofs.Position.{position-listed, position-regular}
use Rattle.parting.proofs.Position.{potential-reached}
use Rattle.text.specs.Promise.{afterwards}
use Rattle.search.specs.Promise.{is_potential}
use Rattle.text.specs.Names.{within, all}
use Rattle.text.specs.Numbers.{decimal, number_from}
use Rattle.text.specs.Read.{Source, symbol_names, grammar_of}
use Rattle.text.specs.Rules.{check_text}
use Rattle.text.proofs.Pieces.{other, all_head, all_tail, all_weaker}
use Rattle.text.proofs.Names.{within_both}
use Rattle.text.proofs.Numbers.{number_decimal, decimal-digits}
use Rattle.report.specs.Report.{judge, line, states_is, verdict_is, reached_is, unambiguous, potential, witness_lines, verdict_lines, printed, report_of, report_size, report_into, reported, Reports}
use Rattle.report.specs.declared.Reported.{Reported}
use Rattle.report.specs.declared.Reported.TheVariants.{Written}
use Rattle.report.proofs.Strings.{witness_valid}
use Rattle.report.proofs.Sizes.{judged_text, never_short}
use Rattle.report.proofs.Written.{report_done}
use Rattle.ambiguity.proofs.Held.{parting, not_parting}
use Rattle.ambiguity.proofs.Readings.{reading_theorems, sides_theorems, back_theorems}
use Rattle.ambiguity.specs.Readings.{left, right, lines_of, strings_of}
use Rattle.ambiguity.specs.Reports.{ReportLines, GiveSides, ReportTheorems}

-- the two verdicts' lines differ in their first letter
not-both : {A : Type 0} (x y z : List ℕ) → x ++ (line verdict_is unambiguous ++ y) ≡ x ++ (line verdict_is potential ++ z) → A
not-both x y z e =
    let d : line verdict_is unambiguous ++ y ≡ line verdict_is potential ++ z
    = sym (drop-append_seam x (line verdict_is unambiguous ++ y)) ∙ ap (drop (length x)) e ∙ drop-append_seam x (line verdict_is potential ++ z) in
    let z : ◌≡◌ {A = ℕ} 117 112 = ap (λ (l : List ℕ). get_or l 8 0) d in
    absurd (let o : ⊥ = omega (arith, z) in o)

-- what stands before the first byte 10, and after it
before-end : (p q a b : List ℕ) → all (other 10) p ≡ true → all (other 10) q ≡ true → p ++ 10 ∷ a ≡ q ++ 10 ∷ b → (p ≡ q) × (a ≡ b)
before-end [] [] a b f g e = (refl, cc)
before-end [] (y ∷ q) a b f g e = let z : y ≡ 10 = cc in no_bool (sym (all_head (other 10) y q g) ∙ ap (other 10) z)
before-end (x ∷ p) [] a b f g e = let z : x ≡ 10 = cc in no_bool (sym (all_head (other 10) x p f) ∙ ap (other 10) z)
before-end (x ∷ p) (y ∷ q) a b f g e =
    let r = before-end p q a b (all_tail (other 10) x p f) (all_tail (other 10) y q g) cc in
    let z : x ≡ y = cc in
    (ap₂ (λ (x : ℕ) (p : List ℕ). x ∷ p) z r.0, r.1)

-- Q's line tells Q, and the rest stands after it
after-states : (x y : ℕ) (a b : List ℕ) → line states_is (decimal x) ++ a ≡ line states_is (decimal y) ++ b → (x ≡ y) × (a ≡ b)
after-states x y a b e =
    let d : (decimal x ++ (10 ∷ [])) ++ a ≡ (decimal y ++ (10 ∷ [])) ++ b = ap (drop (length states_is)) e in
    let r = before-end (decimal x) (decimal y) a b (digits x) (digits y) (sym (append_snoc (decimal x) 10 a) ∙ d ∙ append_snoc (decimal y) 10 b) in
    (sym (number_decimal x) ∙ ap (number_from 0) r.0 ∙ number_decimal y, r.1)
  where
    digits : (x : ℕ) → all (other 10) (decimal x) ≡ true
    digits x = all_weaker (within 48 57) (other 10) (decimal x) (λ b h. ap not (ne_eqb b 10 (λ q. omega (arith, (within_both 48 57 b h).0)))) (decimal-digits x)

-- an answer that so many bytes were written is that of so many
written_as : (o : Answer (List ℕ)) (k : ℕ) → Written k ≡ reported o → (l : List ℕ) × (o ≡ done l) × (length l ≡ k)
written_as (done l) k h = (l, refl, cc)
written_as (refused c p) k h = absurd (let z : ◌≡◌ {A = ℕ} 0 1 = cc in omega arith)

module _ (text : List ℕ) (s : Source) (c : check_text limits text ≡ done s) (W : WellFormed limits (grammar_of s)) where
  abbrev G : Grammar
  G = grammar_of s

  -- the program judges without callers, by the position automaton
  parts : is_potential (moves_of limits G) ≡ true → Potential (position limits G)
  parts = parting (position limits G) (moves_of limits G) (position-regular limits G W (omega arith)) (position-listed limits G W (omega arith)) (potential-reached limits G W (omega arith))

  never_parts : is_potential (moves_of limits G) ≡ false → Unambiguous (position limits G)
  never_parts =
      not_parting (position limits G) (moves_of limits G) (position-regular limits G W (omega arith)) (position-listed limits G W (omega arith)) (potential-reached limits G W (omega arith))

  lines-of : (b : Bool) → is_potential (moves_of limits G) ≡ b
      → ReportLines s G (line states_is (decimal (states G)) ++ verdict_lines b (size (moves_of limits G)) (witness_lines G (symbol_names s)))
  unfolding witness_lines
  lines-of true e =
      let p = parts e in
      let v = witness_valid G W e in
      let m = (is_element_lem (index (states G) 1 1 1) (smallest (moves_of limits G))).0 e in
      record {
        potential = (λ q. p, λ q. refl);
        strings = λ q. v;
        back = λ q. (reading_theorems text s c).again (left G) (right G) v.0 v.1;
        sides = λ q. sides_theorems G W m;
        otherwise = λ u. absurd (u p);
      }
  lines-of false e = record {
    potential = (λ q. not-both (line states_is (decimal (states G))) (line reached_is (decimal (size (moves_of limits G)))) (lines_of s (left G) (right G)) q, λ p. absurd (never_parts e p));
    strings = λ p. absurd (never_parts e p);
    back = λ p. absurd (never_parts e p);
    sides = λ p. absurd (never_parts e p);
    otherwise = λ u. refl;
  }

  -- what stands past the line of a potential verdict is read back as the two sides
  sides-back : (b : Bool) → is_potential (moves_of limits G) ≡ b → (rest : List ℕ)
      → verdict_lines b (size (moves_of limits G)) (witness_lines G (symbol_names s)) ≡ line verdict_is potential ++ rest → GiveSides text rest G
  unfolding witness_lines
  sides-back true e rest f =
      let l = lines-of true e in
      let p = parts e in
      let d : lines_of s (left G) (right G) ≡ rest = ap (drop (length (line verdict_is potential))) f in
      let few = (l.sides p).few in
      λ a b r a' b' h i j. (back_theorems text rest a b r a' b' h).reads s c (left G) (right G) (ap (strings_of s) (sym d) ∙ l.back p)
      (omega (arith, few.0)) (omega (arith, few.1))
  sides-back false e rest f = not-both [] (line reached_is (decimal (size (moves_of limits G)))) rest f

module _ (text out : List ℕ) (r : Reported) (out' : List ℕ) (h : Reports text out r out') where
  written : report_size ≤ length out → (r ≡ Written (length (report_of text))) × (out' ≡ over (report_of text) out)
  written l =
      let d = report_done text out (omega (arith, never_short text)) in
      (h.answer ∙ ap reported d, h.out-after ∙ ap (λ (o : Answer (List ℕ)). afterwards o (λ l. l) out) d)

  lines : (s : Source) → judge text ≡ done s → WellFormed limits (grammar_of s) × ReportLines s (grammar_of s) (report_of text)
  unfolding report_of
  lines s e =
      let j = judged_text text s e in
      let G = grammar_of s in
      (j.well_formed, subst (ReportLines s G) (sym (ap printed e)) (lines-of text s j.checked j.well_formed (is_potential (moves_of limits G)) refl))

  -- what was written is what the program prints
  front : (k : ℕ) → r ≡ Written k → take k out' ≡ report_of text
  unfolding report_into over
  front k e =
      let w = written_as (report_into (length out) text) k (sym e ∙ h.answer) in
      let d : report_of text ≡ w.0 = done_inj (unless_done buffer_too_short 0 _ (done (report_of text)) w.0 w.1).1 in
      ap (take k) (h.out-after ∙ ap (λ (o : Answer (List ℕ)). afterwards o (λ l. l) out) w.1) ∙ take_at w.0 (drop (length w.0) out) k w.2 ∙ sym d

  reads_back : (k q : ℕ) (rest : List ℕ) → r ≡ Written k → take k out' ≡ line states_is (decimal q) ++ (line verdict_is potential ++ rest)
      → (s : Source) × (judge text ≡ done s) × (states (grammar_of s) ≡ q) × GiveSides text rest (grammar_of s)
  unfolding report_of
  reads_back k q rest e f = go (judge text) refl (sym (front k e) ∙ f)
    where
      go : (o : Answer Source) → judge text ≡ o → printed o ≡ line states_is (decimal q) ++ (line verdict_is potential ++ rest)
          → (s : Source) × (judge text ≡ done s) × (states (grammar_of s) ≡ q) × GiveSides text rest (grammar_of s)
      go (done s) e g =
          let j = judged_text text s e in
          let x = after-states (states (grammar_of s)) q _ _ g in
          (s, e, x.0, sides-back text s j.checked j.well_formed (is_potential (moves_of limits (grammar_of s))) refl rest x.1)
      go (refused c p) e g = absurd (let z : ◌≡◌ {A = ℕ} 114 115 = ap (λ (l : List ℕ). get_or l 0 0) g in omega arith)

  pub report_theorems : ReportTheorems text out r out'
  report_theorems = record { written = written; lines = lines; reads_back = reads_back }
