-- The lent rows: a refusal changes nothing, a text that passes is written if there is room.
-- Assumes nothing.
use Prim.Native.Nat.{ℕ, ◌+◌, ◌≤◌, ◌<◌}
use mathlib.Core.Path.{◌≡◌, refl, ap, ap₂, sym, ◌∙◌}
use mathlib.Core.List.{List}
use mathlib.Core.Bool.{Bool, true, false, ◌&&◌}
use native.Mathlib.Omega.{arith}
use borrow.Author.Tests.{le-leb, lt-leb, ltb-true, ltb-false}
use lib.Dec.{leb, ltb}
use lib.ListN.{length, take, length-append}
use lib.Seq.{take_all}
use Rattle.grammar.specs.Basics.{over}
use Rattle.grammar.specs.Limits.{limits}
use Rattle.grammar.specs.Table.{encode}
use Rattle.grammar.specs.Refusal.{Answer, done, refused, refuse_unless, buffer_too_short}
use Rattle.grammar.proofs.Answers.{both_and, unless_holds, unless_fails, then-goes, then_stops, and_false}
use Rattle.grammar.specs.declared.Cause.{Cause}
use Rattle.text.specs.Read.{Source, symbol_names}
use Rattle.text.specs.Rules.{check_text, read_into}
use Rattle.text.specs.Promise.{name_starts, name_lengths, text_read, afterwards, ReadsText}
use Rattle.text.specs.declared.TextRead.{TextRead}
use Rattle.text.specs.declared.TextRead.TheVariants.{Read, Refused}
use Rattle.text.proofs.Spans.{length-lengths, length-name-starts}
use Rattle.text.proofs.Promises.{ReadAs, read_as, refuses_as}
use Rattle.text.proofs.Enough.{ReadRows, rows-read}
use Rattle.text_read.specs.Texts.{Checks, ChecksText}

-- a row that begins with a list is at least as long
pub front_fits : (m : ℕ) (row xs : List ℕ) → take m row ≡ xs → length xs ≡ m → m ≤ length row
front_fits m row xs e n = go (ltb (length row) m) refl
  where
    go : (b : Bool) → ltb (length row) m ≡ b → m ≤ length row
    go true q =
        let l = ltb-true (length row) m q in
        absurd (omega (arith, ap length (sym (take_all m row (omega arith)) ∙ e)))
    go false q = ltb-false (length row) m q

-- ---- a text that passes all tests but 14

module _ (o : Answer Source) (row ks kl : List ℕ) (r : TextRead) (h : Checks o r row ks kl) (t n e q : ℕ) (g : r ≡ Read t n e q) where
  pub known : ReadAs o t n e q
  known = read_as o t n e q (sym g ∙ h.answer)

  pub count : length (symbol_names known.source) ≡ t + n
  count =
      length-append known.source.terminals known.source.nonterminals
      ∙ ap₂ (λ t n. t + n) known.terminals known.nonterminals

  -- the rows hold what is kept
  pub entries-kept : e ≤ length row
  entries-kept =
      front_fits e row (encode known.source.rules) (ap (λ m. take m row) (sym known.entries) ∙ h.table known.source known.whole)
      known.entries

  pub starts-kept : t + n ≤ length ks
  starts-kept =
      front_fits (t + n) ks (name_starts known.source)
      (ap (λ m. take m ks) (sym count) ∙ h.names.starts-front known.source known.whole) (length-name-starts known.source ∙ count)

  pub lengths-kept : t + n ≤ length kl
  lengths-kept =
      front_fits (t + n) kl (name_lengths (symbol_names known.source))
      (ap (λ m. take m kl) (sym count) ∙ h.names.lengths-front known.source known.whole)
      (length-lengths (symbol_names known.source) ∙ count)

  -- and begin with it
  pub entries-front : take e row ≡ encode known.source.rules
  entries-front = ap (λ m. take m row) (sym known.entries) ∙ h.table known.source known.whole

  pub starts-front : take (t + n) ks ≡ name_starts known.source
  starts-front = ap (λ m. take m ks) (sym count) ∙ h.names.starts-front known.source known.whole

  pub lengths-front : take (t + n) kl ≡ name_lengths (symbol_names known.source)
  lengths-front = ap (λ m. take m kl) (sym count) ∙ h.names.lengths-front known.source known.whole

pub checked-rows : (text row ks kl : List ℕ) (r : TextRead) → ChecksText text r row ks kl → (t n e q : ℕ) → r ≡ Read t n e q → ReadRows text t n e q row ks kl
checked-rows text row ks kl r h t n e q g =
    let o = check_text limits text in
    rows-read text t n e q (known o row ks kl r h t n e q g) row ks kl
    (entries-kept o row ks kl r h t n e q g, entries-front o row ks kl r h t n e q g)
    (starts-kept o row ks kl r h t n e q g, starts-front o row ks kl r h t n e q g)
    (lengths-kept o row ks kl r h t n e q g, lengths-front o row ks kl r h t n e q g)

-- ---- a refusal

module _ (text table starts lengths : List ℕ) where
  into_refused : (r : TextRead) (c : Cause) (i : ℕ) → r ≡ Refused c i
      → read_into limits (length table) (length starts) (length lengths) text ≡ refused c i
      → ReadsText text table starts lengths r table starts lengths
  into_refused r c i e q = record {
    answer = e ∙ sym (ap text_read q);
    table-after = sym (ap (λ o. afterwards o (λ s. encode s.rules) table) q);
    starts-after = sym (ap (λ o. afterwards o name_starts starts) q);
    lengths-after = sym (ap (λ o. afterwards o (λ s. name_lengths (symbol_names s)) lengths) q);
  }

  module _ (row ks kl : List ℕ) (r : TextRead) (h : ChecksText text r row ks kl) where
    -- the tests before 14 refuse
    pub read-refused : (c : Cause) (i : ℕ) → r ≡ Refused c i → ReadsText text table starts lengths r table starts lengths
    unfolding read_into
    read-refused c i e =
        into_refused r c i e (then_stops _ _ c i (refuses_as (check_text limits text) c i (sym e ∙ h.answer)))

    module _ (t n e q : ℕ) (g : r ≡ Read t n e q) where
      abbrev pub k : ReadAs (check_text limits text) t n e q
      k = known (check_text limits text) row ks kl r h t n e q g

      many : length (symbol_names k.source) ≡ t + n
      many = count (check_text limits text) row ks kl r h t n e q g

      abbrev room : Bool
      room = leb (length (encode k.source.rules)) (length table)
          && (leb (length (symbol_names k.source)) (length starts) && leb (length (symbol_names k.source)) (length lengths))

      into_is : read_into limits (length table) (length starts) (length lengths) text ≡ refuse_unless buffer_too_short 0 room (done k.source)
      unfolding read_into
      into_is = then-goes _ _ k.source k.whole

      no_room : room ≡ false → ReadsText text table starts lengths (Refused buffer_too_short 0) table starts lengths
      no_room z = into_refused (Refused buffer_too_short 0) buffer_too_short 0 refl (into_is ∙ unless_fails buffer_too_short 0 room _ z)

      -- 14 for each row
      pub short-table : length table < e → ReadsText text table starts lengths (Refused buffer_too_short 0) table starts lengths
      short-table l = no_room (rw (lt-leb (length (encode k.source.rules)) (length table) (omega (arith, k.entries))))

      pub short-starts : length starts < t + n → ReadsText text table starts lengths (Refused buffer_too_short 0) table starts lengths
      short-starts l =
          no_room (rw (lt-leb (length (symbol_names k.source)) (length starts) (omega (arith, many)))
          (and_false (leb (length (encode k.source.rules)) (length table))))

      pub short_lengths : length lengths < t + n → ReadsText text table starts lengths (Refused buffer_too_short 0) table starts lengths
      short_lengths l =
          no_room (rw (
            lt-leb (length (symbol_names k.source)) (length lengths) (omega (arith, many)),
            and_false (leb (length (symbol_names k.source)) (length starts)),
          ) (and_false (leb (length (encode k.source.rules)) (length table))))

      -- room for all
      pub read_all : e ≤ length table → t + n ≤ length starts → t + n ≤ length lengths → (table' starts' lengths' : List ℕ)
          → table' ≡ over (take e row) table → starts' ≡ over (take (t + n) ks) starts → lengths' ≡ over (take (t + n) kl) lengths
          → ReadsText text table starts lengths (Read t n e q) table' starts' lengths'
      read_all x y z table' starts' lengths' xs ys zs =
          let s = k.source in
          let w = k.whole in
          let b : room ≡ true
          = both_and _ _ (le-leb (length (encode s.rules)) (length table) (omega (arith, k.entries)))
          (both_and _ _ (le-leb (length (symbol_names s)) (length starts) (omega (arith, many)))
          (le-leb (length (symbol_names s)) (length lengths) (omega (arith, many)))) in
          let o : read_into limits (length table) (length starts) (length lengths) text ≡ done s = into_is ∙ unless_holds buffer_too_short 0 room _ b in
          record {
            answer = sym g ∙ h.answer ∙ ap text_read (w ∙ sym o);
            table-after = xs ∙ ap (λ xs. over xs table) (ap (λ m. take m row) (sym k.entries) ∙ h.table s w)
                ∙ sym (ap (λ o. afterwards o (λ s. encode s.rules) table) o);
            starts-after = ys ∙ ap (λ xs. over xs starts) (ap (λ m. take m ks) (sym many) ∙ h.names.starts-front s w)
                ∙ sym (ap (λ o. afterwards o name_starts starts) o);
            lengths-after = zs ∙ ap (λ xs. over xs lengths) (ap (λ m. take m kl) (sym many) ∙ h.names.lengths-front s w)
                ∙ sym (ap (λ o. afterwards o (λ s. name_lengths (symbol_names s)) lengths) o);
          }
