-- What holds of the two lines of a witness, and what follows from the promise of reading back. Source: document 02, [2], [9].
-- Assumes nothing.
use Rattle.std.specs.Prelude.{ℕ, ◌≤◌, ◌<◌, ◌≡◌, List, map, ◌++◌, ◌⊎◌, length}
use Rattle.grammar.specs.Basics.{over}
use Rattle.grammar.specs.Limits.{limits}
use Rattle.grammar.specs.Grammar.{Grammar}
use Rattle.grammar.specs.Refusal.{Answer, done, refused, buffer_too_short}
use Rattle.grammar.specs.declared.Cause.{Cause}
use Rattle.automaton.specs.Strings.{Letter, PartingStrings}
use Rattle.automaton.specs.Items.{states}
use Rattle.automaton.specs.Position.{position}
use Rattle.automaton.specs.PositionMoves.{moves_of}
use Rattle.triples.specs.Index.{triple_count}
use Rattle.triples.specs.Shortest.{ShortestWitness, shortest}
use Rattle.triples.specs.Sides.{OneEach, left_side, right_side}
use Rattle.text.specs.Names.{folded}
use Rattle.text.specs.Read.{Source, symbol_names}
use Rattle.text.specs.Rules.{check_text}
use Rattle.readings.specs.Readings.{reading_lines, Valid, AllValid, read_strings}
use Rattle.readings.specs.Spelling.{spelled_readings}
use Rattle.readings.specs.Letters.{letter_number, letter_from}
use Rattle.readings.specs.declared.ReadBack.{ReadBack}
use Rattle.readings.specs.declared.ReadBack.TheVariants.{Read, GrammarRefused, Refused}

-- the sides of the shortest witness of a grammar
abbrev pub left : Grammar → List Letter
left G = left_side (moves_of limits G) (shortest (moves_of limits G))

abbrev pub right : Grammar → List Letter
right G = right_side (moves_of limits G) (shortest (moves_of limits G))

-- a string of the letters of a text's grammar
abbrev pub IsString : Source → List Letter → Type 0
IsString s u = AllValid limits (length s.terminals) (length s.nonterminals) (length s.rules) u

-- two strings in lines, by the names of a text; what lines say in its grammar
abbrev pub lines_of : Source → List Letter → List Letter → List ℕ
lines_of s u v = reading_lines limits (length s.terminals) (symbol_names s) u v

abbrev pub strings_of : Source → List ℕ → Answer (List Letter × List Letter)
strings_of s lines = read_strings limits (length s.terminals) (length s.rules) (symbol_names s) lines

-- of a text that passes the reader
pub record ReadingTheorems (s : Source) : Type 0 where
  -- the two lines of two strings say these strings, so different pairs of strings never give the same lines
  pub again : (u v : List Letter) → IsString s u → IsString s v → strings_of s (lines_of s u v) ≡ done (u, v)
  pub lines_apart : (u v u' v' : List Letter) → IsString s u → IsString s v → IsString s u' → IsString s v'
      → lines_of s u v ≡ lines_of s u' v' → (u ≡ u') × (v ≡ v')
  -- what lines say is strings of the grammar's letters
  pub said : (lines : List ℕ) (u v : List Letter) → strings_of s lines ≡ done (u, v) → IsString s u × IsString s v
  -- and in lines again they are these lines with each name as it is declared ([9]), so lines so spelled come back unchanged;
  -- nothing but the case of letters differs
  pub only : (lines : List ℕ) (u v : List Letter) → strings_of s lines ≡ done (u, v)
      → lines_of s u v ≡ spelled_readings (symbol_names s) lines
  pub only_case : (lines : List ℕ) (u v : List Letter) → strings_of s lines ≡ done (u, v)
      → map folded (lines_of s u v) ≡ map folded lines
  -- an entry of a row tells its letter
  pub entries : (l : Letter) → Valid limits (length s.terminals) (length s.nonterminals) (length s.rules) l
      → letter_from (letter_number l) ≡ l

-- of a grammar for which the verdict is potential
pub record SidesTheorems (G : Grammar) : Type 0 where
  -- the computed row is the shortest witness
  pub witness : ShortestWitness (position limits G) (shortest (moves_of limits G))
  -- each entry of the shortest witness but the last has just one step record that leads to the next: its sides are determined
  pub one : OneEach (moves_of limits G) (shortest (moves_of limits G))
  -- its sides are two strings that the automaton accepts and that part, in document 01's words
  pub part : (p : PartingStrings (position limits G)) × (p.x ++ p.z ≡ left G) × (p.y ++ p.w ≡ right G)
  -- and have fewer than 2Q² letters each
  pub few : (length (left G) < triple_count (states G)) × (length (right G) < triple_count (states G))

-- two rows are as they were
abbrev pub Unchanged : List ℕ → List ℕ → List ℕ → List ℕ → Type 0
Unchanged a b a' b' = (a' ≡ a) × (b' ≡ b)

pub record BackTheorems (text lines a b : List ℕ) (r : ReadBack) (a' b' : List ℕ) : Type 0 where
  -- the faults of the grammar's text come first, as the reader gives them; then those of the lines; demand 1: nothing is changed
  pub grammar-refused : (cause : Cause) (at : ℕ) → check_text limits text ≡ refused cause at → (r ≡ GrammarRefused cause at) × Unchanged a b a' b'
  pub lines-refused : (s : Source) → check_text limits text ≡ done s → (cause : Cause) (at : ℕ) → strings_of s lines ≡ refused cause at
      → (r ≡ Refused cause at) × Unchanged a b a' b'
  -- then 14
  pub short : (s : Source) → check_text limits text ≡ done s → (u v : List Letter) → strings_of s lines ≡ done (u, v)
      → (length a < length u) ⊎ (length b < length v) → (r ≡ Refused buffer_too_short 0) × Unchanged a b a' b'
  -- lent enough, the strings stand at the fronts of the rows
  pub reads : (s : Source) → check_text limits text ≡ done s → (u v : List Letter) → strings_of s lines ≡ done (u, v)
      → length u ≤ length a → length v ≤ length b
      → (r ≡ Read (length u) (length v)) × (a' ≡ over (map letter_number u) a) × (b' ≡ over (map letter_number v) b)
