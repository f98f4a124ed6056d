-- The grammars on file: one table of rows, each with a claim. proofs/Rows.antt has the one theorem, that every row says true.
-- Source: document 01, "Grammars on file", the rows marked P and the certificate of S → a; document 02, [4], by which no rules and
-- S → S are refused, [3]'s grammar S → a; S → A; A → A, [11]'s, which one remembered caller makes unambiguous, and [14]'s command set.
-- The claims are about the table check's definition, parting strings with m callers, the smallest set and trees. Assumes nothing.
use Rattle.std.specs.Prelude.{ℕ, ◌≡◌, List, [], ◌∷◌}
use Rattle.grammar.specs.Limits.{limits}
use Rattle.grammar.specs.Grammar.{Grammar}
use Rattle.grammar.specs.Refusal.{Answer, done, refused, no_sentence}
use Rattle.grammar.specs.TableCheck.{stored_table, check_table}
use Rattle.grammar.specs.Tree.{HasTwoTrees}
use Rattle.grammar.specs.Live.{HasSentence}
use Rattle.automaton.specs.Strings.{Potential, Unambiguous}
use Rattle.automaton.specs.Callers.{callers}
use Rattle.automaton.specs.CallerMoves.{moves_with}
use Rattle.triples.specs.Smallest.{size}
use Rattle.triples.specs.Certificate.{SmallestCertificate}

-- what is claimed of a grammar
pub data Claim : Type 0 where
  -- no sentence, so refused
  without_sentence : Claim
  -- unambiguous, with this size
  unambiguous : ℕ → Claim
  -- the same, and these bytes are the smallest certificate
  certified : ℕ → List ℕ → Claim
  potential : Claim
  -- potential, though no sentence has two trees
  potential_only : Claim

-- t, n, the table, m, Q at m and the claim
pub record Row : Type 0 where
  pub terminals : ℕ
  pub nonterminals : ℕ
  pub table : List ℕ
  pub callers : ℕ
  pub states : ℕ
  pub claim : Claim

-- the claim is true of the grammar with m callers
unfoldable pub Claimed : Grammar → ℕ → Claim → Type 0
Claimed G m without_sentence = ¬ HasSentence limits G
Claimed G m (unambiguous n) = Unambiguous (callers limits G m) × (size (moves_with limits G m) ≡ n)
Claimed G m (certified n bytes) = Unambiguous (callers limits G m) × (size (moves_with limits G m) ≡ n) × SmallestCertificate (callers limits G m) bytes
Claimed G m potential = Potential (callers limits G m)
Claimed G m potential_only = Potential (callers limits G m) × ((w : List ℕ) → ¬ HasTwoTrees limits G w)

-- what the table check answers for a grammar with this claim
unfoldable pub answer_of : Grammar → Claim → Answer Grammar
answer_of G without_sentence = refused no_sentence 0
answer_of G (unambiguous n) = done G
answer_of G (certified n bytes) = done G
answer_of G potential = done G
answer_of G potential_only = done G

-- the row says true: its table is that of a grammar of which Q and the claim are true at m, and the table check answers so
pub record Says (r : Row) : Type 0 where
  pub grammar : Grammar
  pub stored : stored_table limits r.terminals r.nonterminals r.table ≡ done grammar
  pub answers : check_table limits r.terminals r.nonterminals r.table ≡ answer_of grammar r.claim
  pub count : (callers limits grammar r.callers).states ≡ r.states
  pub claimed : Claimed grammar r.callers r.claim

-- S → b A c; S → b e d; S → A d; A → e: b, c, e, d are 1 to 4
abbrev pub biology : List ℕ
biology = 32768 ∷ 3 ∷ 1 ∷ 32769 ∷ 2 ∷ 32768 ∷ 3 ∷ 1 ∷ 3 ∷ 4 ∷ 32768 ∷ 2 ∷ 32769 ∷ 4 ∷ 32769 ∷ 1 ∷ 3 ∷ []

-- S → b C c; S → b e d; S → C d; C → A; A → e: b, c, e, d are 1 to 4, S is 32768, C is 32769, A is 32770
abbrev pub through : List ℕ
through = 32768 ∷ 3 ∷ 1 ∷ 32769 ∷ 2 ∷ 32768 ∷ 3 ∷ 1 ∷ 3 ∷ 4 ∷ 32768 ∷ 2 ∷ 32769 ∷ 4 ∷ 32769 ∷ 1 ∷ 32770 ∷ 32770 ∷ 1 ∷ 3 ∷ []

-- P → ; P → P K; K → take L vol; K → give L vol; K → repeat num P close; L → ch; L → L sep ch: take, vol, give, repeat, num, close, ch,
-- sep are 1 to 8, P is 32768, K is 32769, L is 32770
abbrev pub eight_channels : List ℕ
eight_channels =
    32768 ∷ 0 ∷ 32768 ∷ 2 ∷ 32768 ∷ 32769
    ∷ 32769 ∷ 3 ∷ 1 ∷ 32770 ∷ 2 ∷ 32769 ∷ 3 ∷ 3 ∷ 32770 ∷ 2 ∷ 32769 ∷ 4 ∷ 4 ∷ 5 ∷ 32768 ∷ 6
    ∷ 32770 ∷ 1 ∷ 7 ∷ 32770 ∷ 3 ∷ 32770 ∷ 8 ∷ 7 ∷ []

-- the rows marked P, in their order, then document 02's; a is 1, b is 2, S is 32768, A is 32769, B is 32770
unfoldable pub rows : List Row
rows =
    -- none
    record { terminals = 0; nonterminals = 1; table = []; callers = 0; states = 4; claim = without_sentence }
    -- S → (empty)
    ∷ record { terminals = 0; nonterminals = 1; table = 32768 ∷ 0 ∷ []; callers = 0; states = 5; claim = unambiguous 10 }
    -- S → a
    ∷ record {
      terminals = 1;
      nonterminals = 1;
      table = 32768 ∷ 1 ∷ 1 ∷ [];
      callers = 0;
      states = 6;
      claim = certified 11 (0x15 ∷ 0x50 ∷ 0x21 ∷ 0x15 ∷ 0x08 ∷ 0x00 ∷ 0x00 ∷ 0x00 ∷ 0x00 ∷ []);
    }
    -- S → S a; S → a
    ∷ record { terminals = 1; nonterminals = 1; table = 32768 ∷ 2 ∷ 32768 ∷ 1 ∷ 32768 ∷ 1 ∷ 1 ∷ []; callers = 0; states = 9; claim = unambiguous 24 }
    -- S → a S b; S → (empty)
    ∷ record { terminals = 2; nonterminals = 1; table = 32768 ∷ 3 ∷ 1 ∷ 32768 ∷ 2 ∷ 32768 ∷ 0 ∷ []; callers = 0; states = 9; claim = unambiguous 30 }
    -- S → S
    ∷ record { terminals = 0; nonterminals = 1; table = 32768 ∷ 1 ∷ 32768 ∷ []; callers = 0; states = 6; claim = without_sentence }
    -- S → S; S → a
    ∷ record { terminals = 1; nonterminals = 1; table = 32768 ∷ 1 ∷ 32768 ∷ 32768 ∷ 1 ∷ 1 ∷ []; callers = 0; states = 8; claim = potential }
    -- S → a S a; S → a
    ∷ record { terminals = 1; nonterminals = 1; table = 32768 ∷ 3 ∷ 1 ∷ 32768 ∷ 1 ∷ 32768 ∷ 1 ∷ 1 ∷ []; callers = 0; states = 10; claim = potential_only }
    -- S → A; S → B; A → ; B →
    ∷ record {
      terminals = 0;
      nonterminals = 3;
      table = 32768 ∷ 1 ∷ 32769 ∷ 32768 ∷ 1 ∷ 32770 ∷ 32769 ∷ 0 ∷ 32770 ∷ 0 ∷ [];
      callers = 0;
      states = 10;
      claim = potential;
    }
    -- S → a; S → A; A → A
    ∷ record {
      terminals = 1;
      nonterminals = 2;
      table = 32768 ∷ 1 ∷ 1 ∷ 32768 ∷ 1 ∷ 32769 ∷ 32769 ∷ 1 ∷ 32769 ∷ [];
      callers = 0;
      states = 10;
      claim = unambiguous 11;
    }
    -- the same with a caller: rules that no sentence uses have no states
    ∷ record { terminals = 1; nonterminals = 2; table = 32768 ∷ 1 ∷ 1 ∷ 32768 ∷ 1 ∷ 32769 ∷ 32769 ∷ 1 ∷ 32769 ∷ []; callers = 1; states = 6; claim = unambiguous 11 }
    -- the biology group's grammar with 0, 1 and 2 callers
    ∷ record { terminals = 4; nonterminals = 2; table = biology; callers = 0; states = 17; claim = potential }
    ∷ record { terminals = 4; nonterminals = 2; table = biology; callers = 1; states = 19; claim = unambiguous 58 }
    ∷ record { terminals = 4; nonterminals = 2; table = biology; callers = 2; states = 19; claim = unambiguous 58 }
    -- where A is called through C, one caller does not tell and two do
    ∷ record { terminals = 4; nonterminals = 3; table = through; callers = 1; states = 21; claim = potential }
    ∷ record { terminals = 4; nonterminals = 3; table = through; callers = 2; states = 23; claim = unambiguous 82 }
    -- the eight-channel set
    ∷ record { terminals = 8; nonterminals = 3; table = eight_channels; callers = 0; states = 27; claim = unambiguous 90 }
    ∷ record { terminals = 8; nonterminals = 3; table = eight_channels; callers = 1; states = 47; claim = unambiguous 214 }
    ∷ record { terminals = 8; nonterminals = 3; table = eight_channels; callers = 2; states = 93; claim = unambiguous 694 }
    ∷ []
