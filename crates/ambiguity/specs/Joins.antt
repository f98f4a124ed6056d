-- What follows from the promises of the entries over two texts, the robot's and a module's, whatever these are: specs/FrontPage.antt says
-- of which promise each record holds. Source: document 02, [10]. Assumes nothing.
use Rattle.std.specs.Prelude.{ℕ, ◌+◌, ◌≤◌, ◌<◌, ◌≡◌, true, false, List, [], length, take, get_or}
use Rattle.grammar.specs.Limits.{limits}
use Rattle.grammar.specs.Grammar.{Grammar}
use Rattle.grammar.specs.Tree.{Tree, HasTree}
use Rattle.grammar.specs.Basics.{over}
use Rattle.grammar.specs.Table.{encode}
use Rattle.grammar.specs.Refusal.{done, refused, buffer_too_short, no_sentence, kinds_clash}
use Rattle.grammar.specs.declared.TableChecked.{TableChecked}
use Rattle.grammar.specs.declared.TableVerdict.TheVariants.{Passed}
use Rattle.grammar.specs.TableCheck.{TableAnswer}
use Rattle.grammar.specs.declared.Cause.{Cause}
use Rattle.text.specs.Names.{any, same_name}
use Rattle.text.specs.Read.{Source, symbol_names, number_of}
use Rattle.text.specs.Rules.{check_text, check_module}
use Rattle.text.specs.Print.{printed}
use Rattle.text.specs.Promise.{name_starts, name_lengths, text_read, ReadsText}
use Rattle.text.specs.declared.TextRead.{TextRead}
use Rattle.text.specs.declared.TextRead.TheVariants.{Read, Refused}
use Rattle.text.specs.declared.TextWritten.{TextWritten}
use Rattle.text.specs.declared.TextWritten.TheVariants as writer
use Rattle.text.specs.declared.TextWritten.TheVariants.{Written}
use Rattle.modules.specs.Joined.{meet, joined, joined_text, join_texts}
use Rattle.modules.specs.Shown.{shown, part_at}
use Rattle.modules.specs.Promise.{WritesJoined}
use Rattle.modules.specs.declared.Place.TheVariants.{Robot, Module}
use Rattle.ambiguity.specs.Entries.{IsTableOf}

module _ (robot addon : List ℕ) where
  -- whatever answers as join_texts promises
  pub record JoinTheorems (table : List ℕ) (v : TextRead) (table' : List ℕ) : Type 0 where
    -- the faults of the robot's text come first, 19 among them; a refusal changes nothing
    pub robot-first : (cause : Cause) (at : ℕ) → check_text limits robot ≡ refused cause at → (v ≡ Refused cause at) × (table' ≡ table)
    -- then those of the module's text read alone
    pub module_next : (r : Source) → check_text limits robot ≡ done r → (cause : Cause) (at : ℕ) → check_module limits addon ≡ refused cause at
        → (v ≡ Refused cause at) × (table' ≡ table)
    -- then 20, at the module's first line that declares a name of the other kind
    pub clash_first : (r m : Source) → check_text limits robot ≡ done r → check_module limits addon ≡ done m
        → meet m.terminals r.nonterminals ≡ true → (v ≡ Refused kinds_clash 1) × (table' ≡ table)
    pub clash_second : (r m : Source) → check_text limits robot ≡ done r → check_module limits addon ≡ done m
        → meet m.terminals r.nonterminals ≡ false → meet m.nonterminals r.terminals ≡ true
        → (v ≡ Refused kinds_clash 2) × (table' ≡ table)
    -- then the faults that the reader gives for the joined text
    pub joined-last : (r m : Source) → check_text limits robot ≡ done r → check_module limits addon ≡ done m
        → meet m.terminals r.nonterminals ≡ false → meet m.nonterminals r.terminals ≡ false
        → (cause : Cause) (at : ℕ) → check_text limits (joined_text limits r m) ≡ refused cause at → (v ≡ Refused cause at) × (table' ≡ table)
    -- a module's text read alone may lack sentences, and the joined one has those of the robot: past the robot's text there is no 19
    pub never_19 : (r : Source) → check_text limits robot ≡ done r → (at : ℕ) → ¬ (v ≡ Refused no_sentence at)
    -- what is joined: the robot's lists, then the names that the module adds; the robot's rules, then those of the module that are not
    -- already there. Lent enough, t, n, Q and the table are these; lent less, 14 changes nothing
    pub as_joined : (r m s : Source) → check_text limits robot ≡ done r → check_module limits addon ≡ done m → join_texts limits robot addon ≡ done s
        → s ≡ joined limits r m
    pub enough : (s : Source) → join_texts limits robot addon ≡ done s → length (encode s.rules) ≤ length table
        → (v ≡ text_read (done s)) × (table' ≡ over (encode s.rules) table)
    pub too_short : (s : Source) → join_texts limits robot addon ≡ done s → length table < length (encode s.rules)
        → (v ≡ Refused buffer_too_short 0) × (table' ≡ table)
    -- the joined table passes the table check
    pub passes_on : (t n e q : ℕ) → v ≡ Read t n e q → (c : TableChecked) → TableAnswer t n (take e table') c → c.verdict ≡ Passed
    -- it equals what the reader, lent enough, gives for the joined text
    pub as_read : (t n e q : ℕ) → v ≡ Read t n e q → (out : List ℕ) (m : ℕ) (out' : List ℕ) → WritesJoined robot addon out (Written m) out'
        → (table₂ starts lengths : List ℕ) (r : TextRead) (table₂' starts' lengths' : List ℕ)
        → ReadsText (take m out') table₂ starts lengths r table₂' starts' lengths'
        → e ≤ length table₂ → t + n ≤ length starts → t + n ≤ length lengths → (r ≡ Read t n e q) × (take e table₂' ≡ take e table')
    -- every tree of the robot's grammar, whose table the reader gives, is a tree of the joined grammar, with the same row
    pub trees-stay : (t n e q : ℕ) → v ≡ Read t n e q
        → (table₁ starts lengths : List ℕ) (t₁ n₁ e₁ q₁ : ℕ) (table₁' starts' lengths' : List ℕ)
        → ReadsText robot table₁ starts lengths (Read t₁ n₁ e₁ q₁) table₁' starts' lengths'
        → (G J : Grammar) → IsTableOf t₁ n₁ (take e₁ table₁') G → IsTableOf t n (take e table') J
        → (row : List ℕ) (tree : Tree) → HasTree limits G row tree → HasTree limits J row tree

  -- whatever answers as joined_name promises for symbol i, and the part at the place that joined_place tells
  pub record ShownTheorems (i : ℕ) (part : List ℕ) : Type 0 where
    -- it is the joined symbol's name, byte for byte; for a symbol of neither it is empty
    pub spelled : (s : Source) → join_texts limits robot addon ≡ done s → part ≡ get_or (symbol_names s) i []
    -- the robot's declaration where both declare it
    pub of-robot : (r s : Source) → check_text limits robot ≡ done r → join_texts limits robot addon ≡ done s → i < length (symbol_names s)
        → any (same_name (get_or (symbol_names s) i [])) (symbol_names r) ≡ true
        → let number = number_of (symbol_names r) (get_or (symbol_names s) i []) in
        let start = get_or (name_starts r) number 0 in
        let size = get_or (name_lengths (symbol_names r)) number 0 in
        (shown limits robot addon i ≡ Robot start size) × (part ≡ part_at robot start size)
    -- the module's where it alone does
    pub of_module : (r m s : Source) → check_text limits robot ≡ done r → check_module limits addon ≡ done m → join_texts limits robot addon ≡ done s
        → i < length (symbol_names s) → any (same_name (get_or (symbol_names s) i [])) (symbol_names r) ≡ false
        → any (same_name (get_or (symbol_names s) i [])) (symbol_names m) ≡ true
        → let number = number_of (symbol_names m) (get_or (symbol_names s) i []) in
        let start = get_or (name_starts m) number 0 in
        let size = get_or (name_lengths (symbol_names m)) number 0 in
        (shown limits robot addon i ≡ Module start size) × (part ≡ part_at addon start size)
    -- and empty for texts that are refused, before 14
    pub none : (cause : Cause) (at : ℕ) → join_texts limits robot addon ≡ refused cause at → part ≡ []

  -- whatever answers as write_joined promises
  pub record JoinedTextTheorems (out : List ℕ) (w : TextWritten) (out' : List ℕ) : Type 0 where
    -- it refuses what join_texts refuses before 14
    pub refuses : (cause : Cause) (at : ℕ) → join_texts limits robot addon ≡ refused cause at → (w ≡ writer.Refused cause at) × (out' ≡ out)
    -- lent enough, it writes the text of the joined lists and rules; as many bytes as the reader takes are always enough
    pub written : (s : Source) → join_texts limits robot addon ≡ done s → length (printed limits s) ≤ length out
        → (w ≡ Written (length (printed limits s))) × (out' ≡ over (printed limits s) out)
    pub most : (s : Source) → join_texts limits robot addon ≡ done s → length (printed limits s) ≤ limits.max_text
    -- lent less, 14 changes nothing
    pub too_short : (s : Source) → join_texts limits robot addon ≡ done s → length out < length (printed limits s)
        → (w ≡ writer.Refused buffer_too_short 0) × (out' ≡ out)
