-- What the search promises: its answer, and every lent row afterwards.
-- Source: document 01, "Triples, certificate, witness", from "The search writes the smallest such set" on, and "Causes of refusal";
-- document 02, [1] (which witness), [6] (how many successors it looked at, reported with either verdict), [8] (under any limits) and
-- [11] (with m callers).
-- Assumes nothing.
use Rattle.std.specs.Prelude.{ℕ, ◌≡◌, Bool, true, false, ◌&&◌, List, leb, length, replicate}
use Rattle.grammar.specs.Basics.{over}
use Rattle.grammar.specs.Limits.{Limits, limits}
use Rattle.grammar.specs.Grammar.{Grammar}
use Rattle.grammar.specs.Refusal.{Answer, done, refused, refuse_unless, and_then, buffer_too_short}
use Rattle.automaton.specs.Moves.{Moves}
use Rattle.automaton.specs.Callers.{check_with}
use Rattle.automaton.specs.CallerMoves.{moves_with}
use Rattle.triples.specs.Index.{index, triple_count}
use Rattle.triples.specs.Smallest.{is_element, smallest, size}
use Rattle.triples.specs.Certificate.{byte_count, certificate_of}
use Rattle.triples.specs.Shortest.{shortest}
use Rattle.triples.specs.Looked.{looked_at}
use Rattle.search.specs.declared.SearchVerdict.{SearchVerdict}
use Rattle.search.specs.declared.SearchVerdict.TheVariants.{Unambiguous, Potential, Refused}

-- the verdict, computed: potential if the smallest closed set holds (1,1,1), else unambiguous
abbrev pub is_potential : Moves → Bool
is_potential M = is_element (index M.states 1 1 1) (smallest M)

-- what the search finds: unambiguous with the size, or potential with the witness's number of entries; and how many successors it
-- looked at
pub data Found : Type 0 where
  unambiguous : ℕ → ℕ → Found
  potential : ℕ → ℕ → Found

-- its answer as the code gives it
abbrev pub search_verdict : Answer Found → SearchVerdict
search_verdict (done (unambiguous number looked)) = Unambiguous number looked
search_verdict (done (potential number looked)) = Potential number looked
search_verdict (refused cause at) = Refused cause at

-- what is lent: the certificate's bytes and three rows
pub record Lent : Type 0 where
  pub certificate : List ℕ
  pub queue : List ℕ
  pub parents : List ℕ
  pub witness : List ℕ

abbrev pub lent : List ℕ → List ℕ → List ℕ → List ℕ → Lent
lent c q p w = record { certificate = c; queue = q; parents = p; witness = w }

-- lent enough: each row has 2Q² entries, the certificate as many bytes as 2Q² bits need
unfoldable pub is_enough : ℕ → Lent → Bool
is_enough Q l =
    leb (byte_count Q) (length l.certificate)
    && (leb (triple_count Q) (length l.queue) && (leb (triple_count Q) (length l.parents) && leb (triple_count Q) (length l.witness)))

-- the grammar to search with m callers: the refusals up to [11]'s 8 first, then 14
unfoldable pub searchable : Limits → ℕ → ℕ → List ℕ → ℕ → Lent → Answer Grammar
searchable L t n table m l =
    and_then (check_with L t n table m) (λ G. refuse_unless buffer_too_short 0 (is_enough (moves_with L G m).states l) (done G))

-- a work row afterwards: the first 2Q² entries are 0
abbrev pub cleared : ℕ → List ℕ → List ℕ
cleared Q row = over (replicate (triple_count Q) 0) row

-- unambiguous: with the size; the certificate is that of the smallest closed set, the witness row is untouched
pub record Certified (M : Moves) (before : Lent) (r : SearchVerdict) (after : Lent) : Type 0 where
  pub verdict : r ≡ search_verdict (done (unambiguous (size M) (looked_at M)))
  pub certificate : after.certificate ≡ over (certificate_of M.states (smallest M)) before.certificate
  pub queue : after.queue ≡ cleared M.states before.queue
  pub parents : after.parents ≡ cleared M.states before.parents
  pub witness : after.witness ≡ before.witness

-- potential: with the number of entries of the shortest witness, which stands in the front of the witness row; the certificate is
-- untouched
pub record Witnessed (M : Moves) (before : Lent) (r : SearchVerdict) (after : Lent) : Type 0 where
  pub verdict : r ≡ search_verdict (done (potential (length (shortest M)) (looked_at M)))
  pub certificate : after.certificate ≡ before.certificate
  pub queue : after.queue ≡ cleared M.states before.queue
  pub parents : after.parents ≡ cleared M.states before.parents
  pub witness : after.witness ≡ over (shortest M) before.witness

abbrev pub Told : Bool → Moves → Lent → SearchVerdict → Lent → Type 0
Told true = Witnessed
Told false = Certified

-- a refusal changes nothing
abbrev pub Answers : Limits → ℕ → Answer Grammar → Lent → SearchVerdict → Lent → Type 0
Answers L m (done G) before r after = Told (is_potential (moves_with L G m)) (moves_with L G m) before r after
Answers L m (refused cause at) before r after = (r ≡ search_verdict (refused cause at)) × (after ≡ before)

-- the promise under any limits, and under those in force
abbrev pub SearchesAt : Limits → ℕ → ℕ → List ℕ → ℕ → Lent → SearchVerdict → Lent → Type 0
SearchesAt L t n table m before r after = Answers L m (searchable L t n table m before) before r after

abbrev pub Searches : ℕ → ℕ → List ℕ → ℕ → Lent → SearchVerdict → Lent → Type 0
Searches t n table m before r after = SearchesAt limits t n table m before r after
