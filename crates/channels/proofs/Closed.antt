-- What is computed of the command set, each in one test over the whole table: the table passes, there are 27 states, the certificate is
-- closed. Then the laws from the test to each triple, to the certificate check and to the trees of a sentence. Assumes nothing.
use Prim.Native.Nat.{ℕ}
use mathlib.Core.Path.{◌≡◌, refl, sym, ap, ◌∙◌}
use mathlib.Core.Bool.{Bool, true, false}
use mathlib.Core.List.{List}
use native.Mathlib.Omega.{arith}
use Rattle.grammar.specs.Basics.{each}
use Rattle.grammar.specs.Limits.{limits}
use Rattle.grammar.specs.Grammar.{rule, state_count}
use Rattle.grammar.specs.Table.{encode}
use Rattle.grammar.specs.Refusal.{done, refuse_unless, and_then}
use Rattle.grammar.specs.TableCheck.{same_codes, is_among, declared_front, read_rule, next_rule, check_from, stored_table, check_table}
use Rattle.grammar.specs.Tree.{Tree, SameTree, HasTree}
use Rattle.grammar.specs.Live.{has, has_all, concluded, waiting, rounds, nonterminals_of, productive, usable, reachable, has_sentence, is_live}
use Rattle.grammar.proofs.Answers.{no_bool}
use Rattle.grammar.proofs.Plain.{same_codes_lem}
use Rattle.grammar.proofs.Trees.{same_is}
use Rattle.automaton.specs.PositionMoves.{shown, aheads, rules_of, completed, past, ahead_row, openings, closings}
use Rattle.automaton.specs.Callers.{callers}
use Rattle.automaton.specs.CallerMoves.{moves_with}
use Rattle.triples.specs.Records.{left_alone, right_alone, both_shift, both_close, choices, insert, ordered, records}
use Rattle.triples.specs.Smallest.{is_element, successors}
use Rattle.triples.specs.Certificate.{AcceptableCertificate, check_bytes, lowest, are_set}
use Rattle.triples.specs.Verdict.{CertificateAnswer}
use Rattle.triples.specs.declared.CheckVerdict.TheVariants.{Accepted}
use Rattle.triple_laws.proofs.Laws.{certificates_of}
use Rattle.trees.specs.Trees as trees
use Rattle.ambiguity.specs.Entries.{Stores, StoresAt}
use Rattle.ambiguity.proofs.Entries.{stores, regular, lists}
use Rattle.ambiguity.proofs.FrontPage.{front_page}
use Rattle.channels.specs.Commands.{commands, rules, table, certificate}

-- the table passes
pub passes : check_table limits commands.terminals commands.nonterminals table ≡ done commands
unfolding check_table stored_table has_sentence has productive rounds concluded waiting has_all nonterminals_of check_from next_rule read_rule
    declared_front is_among same_codes state_count refuse_unless and_then encode
passes = refl

pub count : state_count rules ≡ 27
unfolding state_count
count = refl

-- the certificate is closed: one test over the whole table
pub closed : check_bytes (moves_with limits commands 0) certificate ≡ done tt
unfolding check_bytes lowest are_set successors records ordered insert choices both_close both_shift right_alone left_alone closings openings ahead_row
    shown past completed rules_of aheads each is_element rule has has_all concluded waiting rounds nonterminals_of productive usable reachable
    has_sentence is_live state_count refuse_unless certificate
closed = refl

-- so the table is that of the command set, whose states fit
pub stored : Stores commands.terminals commands.nonterminals table commands
stored = stores commands.terminals commands.nonterminals table commands passes

pub stored_at : StoresAt commands.terminals commands.nonterminals table 0 commands
unfolding state_count
stored_at = record { stores = stored; few-callers = omega arith; few-states = omega arith }

-- and the certificate holds every successor of what it holds
pub acceptable : AcceptableCertificate (callers limits commands 0) certificate
acceptable =
    let W = stored.is_table.well_formed in
    let s = stored.sentence in
    (certificates_of (callers limits commands 0) (moves_with limits commands 0) (regular commands W s 0) (lists commands W s 0) certificate).0 closed

-- so the certificate check accepts it
pub accepted : CertificateAnswer commands.terminals commands.nonterminals table 0 certificate Accepted
accepted =
    sym (((front_page.certificates commands.terminals commands.nonterminals table 0 certificate _ refl).accepted commands stored_at).1 acceptable)

-- and every sentence has one tree: trees with the same rules are the same, and no two have unequal ones
pub one-tree : (w : List ℕ) (a b : Tree) → HasTree limits commands w a → HasTree limits commands w b → SameTree a b
one-tree w a b h k = go (same_codes (trees.rules_of a) (trees.rules_of b)) refl
  where
    go : (e : Bool) → same_codes (trees.rules_of a) (trees.rules_of b) ≡ e → SameTree a b
    go true e = (front_page.listed commands stored.is_table.well_formed).same w w a b h k ((same_codes_lem (trees.rules_of a) (trees.rules_of b)).0 e)
    go false e =
        absurd ((front_page.certificates commands.terminals commands.nonterminals table 0 certificate Accepted accepted).one-tree commands stored_at refl w
        (record {
          first = a;
          second = b;
          first-has = h;
          second-has = k;
          unequal = λ s. no_bool (sym ((same_codes_lem (trees.rules_of a) (trees.rules_of b)).1 (ap trees.rules_of (same_is s))) ∙ e);
        }))
