-- The round trips of what the reader and the writer promise, with lent rows that may be longer than what is put in them.
-- Assumes nothing.
use Prim.Native.Nat.{ℕ, ◌+◌, ◌≤◌}
use mathlib.Core.Path.{◌≡◌, refl, ap, sym, ◌∙◌}
use mathlib.Core.List.{List, ◌++◌}
use native.Mathlib.Omega.{arith}
use lib.ListN.{length, take, drop, length-append}
use lib.Seq.{take_at}
use Rattle.grammar.specs.Basics.{over}
use Rattle.grammar.specs.Limits.{limits}
use Rattle.grammar.specs.Grammar.{state_count}
use Rattle.grammar.specs.Table.{encode, decode}
use Rattle.grammar.specs.Refusal.{Answer, done, refused}
use Rattle.grammar.proofs.Rules.{decode-encode}
use Rattle.grammar.specs.declared.Cause.{Cause}
use Rattle.text.specs.Read.{Source, symbol_names}
use Rattle.text.specs.Rules.{check_text, read_into}
use Rattle.text.specs.Spelling.{spelled_text}
use Rattle.text.specs.Print.{gather, write_into}
use Rattle.text.specs.Promise.{name_starts, name_lengths, text_read, text_written, text_length, afterwards, ReadsText, WritesText, SameAgain}
use Rattle.text.specs.declared.TextRead.{TextRead}
use Rattle.text.specs.declared.TextRead.TheVariants.{Read, Refused}
use Rattle.text.specs.declared.TextLength.TheVariants.{Bytes, Refused as LengthRefused}
use Rattle.text.specs.declared.TextWritten.{TextWritten}
use Rattle.text.specs.declared.TextWritten.TheVariants.{Written}
use Rattle.text.proofs.Case.{text-length}
use Rattle.text.proofs.Spans.{length-lengths, length-name-starts}
use Rattle.text.proofs.Admit.{text-checked}
use Rattle.text.proofs.Gather.{gather-front, gather-read}
use Rattle.text.proofs.RoundTrip.{into_checked, write-front, apart, limits-read-then-write}
use Rattle.text.proofs.RoundTrip.{limits-write-then-read}

-- an answer with a result has that result
pub record ReadAs (o : Answer Source) (t n e q : ℕ) : Type 0 where
  pub source : Source
  pub whole : o ≡ done source
  pub terminals : length source.terminals ≡ t
  pub nonterminals : length source.nonterminals ≡ n
  pub entries : length (encode source.rules) ≡ e
  pub states : state_count source.rules ≡ q

pub read_as : (o : Answer Source) (t n e q : ℕ) → Read t n e q ≡ text_read o → ReadAs o t n e q
read_as (done s) t n e q h = record { source = s; whole = refl; terminals = cc; nonterminals = cc; entries = cc; states = cc }
read_as (refused c p) t n e q h = absurd (let z : ◌≡◌ {A = ℕ} 0 1 = cc in omega arith)

-- an answer that refuses has that refusal
pub refuses_as : (o : Answer Source) (c : Cause) (p : ℕ) → Refused c p ≡ text_read o → o ≡ refused c p
refuses_as (done s) c p h = absurd (let z : ◌≡◌ {A = ℕ} 0 1 = cc in omega arith)
refuses_as (refused d q) c p h = cc

-- text that was written is that text
pub written_as : (o : Answer (List ℕ)) (m : ℕ) → Written m ≡ text_written o → (text : List ℕ) × (o ≡ done text) × (length text ≡ m)
written_as (done text) m h = (text, refl, cc)
written_as (refused c p) m h = absurd (let z : ◌≡◌ {A = ℕ} 0 1 = cc in omega arith)

-- a length that is told is that of a text; a refusal that is told is that of the text
pub told_as : (o : Answer (List ℕ)) (m : ℕ) → Bytes m ≡ text_length o → (text : List ℕ) × (o ≡ done text) × (length text ≡ m)
told_as (done text) m h = (text, refl, cc)
told_as (refused c p) m h = absurd (let z : ◌≡◌ {A = ℕ} 0 1 = cc in omega arith)

pub told-refused : (o : Answer (List ℕ)) (c : Cause) (p : ℕ) → LengthRefused c p ≡ text_length o → o ≡ refused c p
told-refused (done text) c p h = absurd (let z : ◌≡◌ {A = ℕ} 0 1 = cc in omega arith)
told-refused (refused d q) c p h = cc

-- a row after a result has it at its front
pub after-done : {A : Type 0} (o : Answer A) (front : A → List ℕ) (old new : List ℕ) (a : A) → o ≡ done a
    → new ≡ afterwards o front old → new ≡ front a ++ drop (length (front a)) old
unfolding over
after-done o front old new a e h = h ∙ ap (λ o. afterwards o front old) e

-- what the reader's rows have at their fronts
module _ (text table starts lengths : List ℕ) (r : TextRead) (table' starts' lengths' : List ℕ)
    (p : ReadsText text table starts lengths r table' starts' lengths') (s : Source)
    (e : read_into limits (length table) (length starts) (length lengths) text ≡ done s) where
  table-front : take (length (encode s.rules)) table' ≡ encode s.rules
  table-front =
      let xs = encode s.rules in
      ap (take (length xs)) (after-done _ (λ s. encode s.rules) table table' s e p.table-after)
      ∙ take_at xs (drop (length xs) table) (length xs) refl

  starts-front : starts' ≡ name_starts s ++ drop (length (name_starts s)) starts
  starts-front = after-done _ name_starts starts starts' s e p.starts-after

  lengths-front : lengths' ≡ name_lengths (symbol_names s) ++ drop (length (name_lengths (symbol_names s))) lengths
  lengths-front = after-done _ (λ s. name_lengths (symbol_names s)) lengths lengths' s e p.lengths-after

-- text read and written again with the rows that the reader left is the text with each use in its declared spelling
pub read-write : (text table starts lengths table' starts' lengths' : List ℕ) (t n e q : ℕ) (out out' : List ℕ) (r : TextWritten)
    → ReadsText text table starts lengths (Read t n e q) table' starts' lengths'
    → WritesText t n (take e table') text starts' lengths' out r out' → length text ≤ length out
    → (s : Source) × (read_into limits (length table) (length starts) (length lengths) text ≡ done s)
    × (r ≡ Written (length text)) × (out' ≡ over (spelled_text (symbol_names s) text) out)
read-write text table starts lengths table' starts' lengths' t n e q out out' r p w h =
    let a = read_as _ t n e q p.answer in
    let s = a.source in
    let room = length out in
    let xs = name_starts s in
    let ys = name_lengths (symbol_names s) in
    let xs' = drop (length xs) starts in
    let ys' = drop (length ys) lengths in
    let v = Read t n e q in
    let k = length s.terminals in
    let l = length s.nonterminals in
    let c = length-append s.terminals s.nonterminals in
    let x : take e table' ≡ encode s.rules
    = ap (λ e. take e table') (sym a.entries)
    ∙ table-front text table starts lengths v table' starts' lengths' p s a.whole in
    let y = starts-front text table starts lengths v table' starts' lengths' p s a.whole in
    let z = lengths-front text table starts lengths v table' starts' lengths' p s a.whole in
    let i = a.terminals in
    let j = a.nonterminals in
    let same : write_into limits t n (take e table') text starts' lengths' room
    ≡ write_into limits k l (encode s.rules) text (xs ++ xs') (ys ++ ys') room
    = λ d. write_into limits (sym i d) (sym j d) (x d) text (y d) (z d) room in
    let o : write_into limits t n (take e table') text starts' lengths' room ≡ done (spelled_text (symbol_names s) text)
    = same
    ∙ write-front limits k l (encode s.rules) text xs ys xs' ys' room (omega (arith, length-name-starts s))
    (omega (arith, length-lengths (symbol_names s)))
    ∙ limits-read-then-write (length table) (length starts) (length lengths) text s room a.whole h in (
      s,
      a.whole,
      w.answer ∙ ap text_written o ∙ ap (λ (k : ℕ). Written k) (text-length (symbol_names s) text),
      w.out-after ∙ ap (λ o. afterwards o (λ text. text) out) o,
    )

-- what was written stands at the output's front
written-front : (t n : ℕ) (table bytes starts lengths out : List ℕ) (m : ℕ) (out' : List ℕ) → WritesText t n table bytes starts lengths out (Written m) out'
    → (text : List ℕ) × (write_into limits t n table bytes starts lengths (length out) ≡ done text) × (take m out' ≡ text)
written-front t n table bytes starts lengths out m out' w =
    let b = written_as _ m w.answer in (
      b.0,
      b.1,
      ap (take m) (after-done _ (λ text. text) out out' b.0 b.1 w.out-after) ∙ take_at b.0 (drop (length b.0) out) m b.2,
    )

-- and passes the reader's tests
pub written_passes : (t n : ℕ) (table bytes starts lengths out : List ℕ) (m : ℕ) (out' : List ℕ)
    → WritesText t n table bytes starts lengths out (Written m) out' → (s : Source) × (check_text limits (take m out') ≡ done s)
written_passes t n table bytes starts lengths out m out' w =
    let b = written-front t n table bytes starts lengths out m out' w in
    let g = limits-write-then-read t n table bytes starts lengths (length out) b.0 (length table) (t + n) (t + n) b.1 (omega arith) (omega arith) (omega arith) in
    (g.0, ap (check_text limits) b.2 ∙ into_checked limits (length table) (t + n) (t + n) b.0 g.0 g.1)

-- a table and names written and read again with enough room are the same
pub write_read : (t n : ℕ) (table bytes starts lengths out : List ℕ) (m : ℕ) (out' table₂ starts₂ lengths₂ : List ℕ)
    (r : TextRead) (table' starts' lengths' : List ℕ)
    → WritesText t n table bytes starts lengths out (Written m) out'
    → ReadsText (take m out') table₂ starts₂ lengths₂ r table' starts' lengths'
    → length table ≤ length table₂ → t + n ≤ length starts₂ → t + n ≤ length lengths₂
    → SameAgain t n table bytes starts lengths (take m out') r table' starts' lengths'
write_read t n table bytes starts lengths out m out' table₂ starts₂ lengths₂ r table' starts' lengths' w p ke ka kb =
    let b = written-front t n table bytes starts lengths out m out' w in
    let whole = b.0 in
    let text = take m out' in
    let f : text ≡ whole = b.2 in
    let g = limits-write-then-read t n table bytes starts lengths (length out) whole (length table₂) (length starts₂)
    (length lengths₂) b.1 ke ka kb in
    let s = g.0 in
    let d = g.2 in
    let o : read_into limits (length table₂) (length starts₂) (length lengths₂) text ≡ done s
    = ap (read_into limits (length table₂) (length starts₂) (length lengths₂)) f ∙ g.1 in
    let xs = name_starts s in
    let ys = name_lengths (symbol_names s) in
    let xs' = drop (length xs) starts₂ in
    let ys' = drop (length ys) lengths₂ in
    let k = length s.terminals in
    let l = length s.nonterminals in
    let c = length-append s.terminals s.nonterminals in
    let y = starts-front text table₂ starts₂ lengths₂ r table' starts' lengths' p s o in
    let z = lengths-front text table₂ starts₂ lengths₂ r table' starts' lengths' p s o in
    let u = text-checked limits apart text s (into_checked limits (length table₂) (length starts₂) (length lengths₂) text s o) in
    let i = d.terminals in
    let j = d.nonterminals in
    let v : encode s.rules ≡ table = d.rules in
    let q : state_count s.rules ≡ state_count (decode table) = ap state_count (sym (decode-encode s.rules) ∙ ap decode v) in
    let same : gather text starts' lengths' 0 (t + n) ≡ gather text (xs ++ xs') (ys ++ ys') 0 (k + l)
    = λ h. gather text (y h) (z h) 0 (sym i h + sym j h) in
    record {
      answer = p.answer ∙ ap text_read o ∙ (λ h. Read (i h) (j h) (length (v h)) (q h));
      rules = ap (λ t. take (length t) table') (sym v)
          ∙ table-front text table₂ starts₂ lengths₂ r table' starts' lengths' p s o ∙ v;
      names = same
          ∙ gather-front text xs ys xs' ys' 0 (k + l) (omega (arith, length-name-starts s))
          (omega (arith, length-lengths (symbol_names s)))
          ∙ gather-read limits apart text s u.read ∙ sym d.names;
    }
