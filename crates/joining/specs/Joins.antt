-- What is told of two texts that were read and joined, and of the rows that hold their names and numbers. Assumes nothing.
use Rattle.std.specs.Prelude.{ℕ, ◌+◌, ◌*◌, ◌≤◌, ◌≡◌, List, length, take}
use Rattle.grammar.specs.Limits.{limits}
use Rattle.grammar.specs.Grammar.{state_count}
use Rattle.grammar.specs.Table.{encode}
use Rattle.grammar.specs.Refusal.{done, refused}
use Rattle.text.specs.Read.{Source, symbol_names}
use Rattle.text.specs.Rules.{check_text, check_module}
use Rattle.text.specs.Promise.{name_starts, name_lengths}
use Rattle.text.specs.declared.TextRead.TheVariants.{Read}
use Rattle.text_read.specs.Texts.{Rows, ChecksText, ChecksModule}
use Rattle.modules.specs.Joined.{joined, join_texts}
use Rattle.joining.specs.Numbers.{numbered}
use Rattle.joining.specs.declared.ListSizes.{ListSizes}
use Rattle.joining.specs.declared.Join.{Join}
use Rattle.joining.specs.declared.Join.TheVariants.{Joined, Refused}

-- rows for both texts, and for the numbers of the module's names; the robot's has room for both tables
pub record JoinRows (robot addon row starts lengths table firsts sizes terminals nonterminals : List ℕ) : Type 0 where
  pub robot-rows : Rows (length robot) row starts lengths
  pub addon-rows : Rows (length addon) table firsts sizes
  pub both : 2 * (limits.max_states + limits.max_rules) ≤ length row
  pub terminals-room : limits.max_terminals ≤ length terminals
  pub nonterminals-room : limits.max_nonterminals ≤ length nonterminals

-- both texts pass, and so does the joined table, which the row begins with; the other rows have the names and numbers
pub record JoinedHeld (robot addon row starts lengths firsts sizes terminals nonterminals : List ℕ) (z : ListSizes) (e q : ℕ) : Type 0 where
  pub r : Source
  pub m : Source
  pub robot_passes : check_text limits robot ≡ done r
  pub addon_passes : check_module limits addon ≡ done m
  pub passes : join_texts limits robot addon ≡ done (joined limits r m)
  pub t_is : z.t ≡ length r.terminals
  pub n_is : z.n ≡ length r.nonterminals
  pub u_is : z.u ≡ length m.terminals
  pub v_is : z.v ≡ length m.nonterminals
  pub terminals_are : z.terminals ≡ length (joined limits r m).terminals
  pub nonterminals_are : z.nonterminals ≡ length (joined limits r m).nonterminals
  pub entries : e ≡ length (encode (joined limits r m).rules)
  pub states : q ≡ state_count (joined limits r m).rules
  pub table-front : take e row ≡ encode (joined limits r m).rules
  pub starts-front : take (length (symbol_names r)) starts ≡ name_starts r
  pub lengths-front : take (length (symbol_names r)) lengths ≡ name_lengths (symbol_names r)
  pub firsts_front : take (length (symbol_names m)) firsts ≡ name_starts m
  pub sizes_front : take (length (symbol_names m)) sizes ≡ name_lengths (symbol_names m)
  pub terminals-front : take (length m.terminals) terminals ≡ numbered r.terminals (length r.terminals) m.terminals
  pub nonterminals-front : take (length m.nonterminals) nonterminals ≡ numbered r.nonterminals (length r.nonterminals) m.nonterminals

abbrev pub JoinTold : List ℕ → List ℕ → List ℕ → List ℕ → List ℕ → List ℕ → List ℕ → List ℕ → List ℕ → Join → Type 0
JoinTold robot addon row starts lengths firsts sizes terminals nonterminals (Refused cause at) = join_texts limits robot addon ≡ refused cause at
JoinTold robot addon row starts lengths firsts sizes terminals nonterminals (Joined z e q) =
    JoinedHeld robot addon row starts lengths firsts sizes terminals nonterminals z e q

-- both texts pass, with t, n, u, v names and e, d entries, which the rows begin with
pub record BothRead (robot addon : List ℕ) (t n e u v d : ℕ) (row starts lengths table firsts sizes terminals nonterminals : List ℕ) : Type 0 where
  pub rows : JoinRows robot addon row starts lengths table firsts sizes terminals nonterminals
  pub q : ℕ
  pub robot-read : ChecksText robot (Read t n e q) row starts lengths
  pub z : ℕ
  pub addon-read : ChecksModule addon (Read u v d z) table firsts sizes

-- the rows of texts that are joined
pub record PlaceReady (robot addon : List ℕ) (z : ListSizes) (starts lengths firsts widths terminals nonterminals : List ℕ) : Type 0 where
  pub row : List ℕ
  pub e : ℕ
  pub q : ℕ
  pub held : JoinedHeld robot addon row starts lengths firsts widths terminals nonterminals z e q
