-- The lines' strings and the lent rows: a refusal changes nothing, two strings are written if there is room.
-- Assumes nothing.
use Prim.Native.Nat.{ℕ, ◌≤◌, ◌<◌}
use mathlib.Core.Path.{◌≡◌, ap, ap₂, sym, ◌∙◌}
use mathlib.Core.Bool.{◌&&◌}
use mathlib.Core.List.{List, map}
use native.Mathlib.Omega.{arith}
use borrow.Author.Tests.{le-leb, lt-leb}
use lib.Dec.{leb}
use lib.ListN.{length, length-map}
use Rattle.grammar.specs.Basics.{over}
use Rattle.grammar.specs.Limits.{limits}
use Rattle.grammar.specs.Refusal.{done, refused, refuse_unless, buffer_too_short}
use Rattle.grammar.proofs.Answers.{and_false, both_and, unless_holds, unless_fails, then-goes, then_stops}
use Rattle.grammar.specs.declared.Cause.{Cause}
use Rattle.automaton.specs.Strings.{Letter}
use Rattle.names.specs.Found.{part}
use Rattle.readings.specs.Readings.{pieces_of, read_strings}
use Rattle.readings.specs.Letters.{letter_number}
use Rattle.readings.specs.Promise.{read_back, row_after}
use Rattle.readings.specs.declared.ReadBack.TheVariants.{Read, Refused}
use Rattle.readings_read.specs.Words.{entry_at}
use Rattle.readings_read.specs.Lines.{Says, BothSaid, lines_into, BackTold}

module _ (t count : ℕ) (names : List (List ℕ)) where
  -- as many pieces as letters
  pub says_count : (v : List ℕ) (u : List Letter) (k : ℕ) → Says t count names v u k → length (pieces_of v) ≡ k
  says_count v u k s =
      omega (arith, s.counts, ap length s.entries, length-map (pieces_of v) (entry_at t count names), length-map u letter_number)

  module _ (lines left right : List ℕ) where
    into_refused : (c : Cause) (p : ℕ) → lines_into t count names (length left) (length right) lines ≡ refused c p → BackTold t count names lines left right (Refused c p) left right
    into_refused c p e = record {
      answer = sym (ap (λ o. read_back (done o)) e);
      left_after = sym (ap (λ o. row_after (done o) (λ p. p.0) left) e);
      right-after = sym (ap (λ o. row_after (done o) (λ p. p.1) right) e);
    }

    -- a line is refused
    pub back-refused : (c : Cause) (p : ℕ) → read_strings limits t count names lines ≡ refused c p → BackTold t count names lines left right (Refused c p) left right
    unfolding lines_into
    back-refused c p e = into_refused c p (then_stops _ _ c p e)

    module _ (a e k b f l : ℕ) (h : BothSaid t count names lines a e k b f l) where
      into_is : lines_into t count names (length left) (length right) lines
          ≡ refuse_unless buffer_too_short 0 (leb (length h.left) (length left) && leb (length h.right) (length right)) (done (h.left, h.right))
      unfolding lines_into
      into_is = then-goes _ _ (h.left, h.right) h.read

      -- a row is too short
      pub short-left : length left < k → BackTold t count names lines left right (Refused buffer_too_short 0) left right
      short-left s =
          into_refused buffer_too_short 0 (into_is ∙ unless_fails buffer_too_short 0 _ _
          (ap (λ b. b && leb (length h.right) (length right)) (lt-leb (length h.left) (length left) (omega (arith, h.left-says.counts)))))

      pub short-right : length right < l → BackTold t count names lines left right (Refused buffer_too_short 0) left right
      short-right s =
          into_refused buffer_too_short 0 (into_is ∙ unless_fails buffer_too_short 0 _ _
          (ap (λ b. leb (length h.left) (length left) && b) (lt-leb (length h.right) (length right) (omega (arith, h.right-says.counts)))
          ∙ and_false (leb (length h.left) (length left))))

      -- both strings are written
      pub both-written : k ≤ length left → l ≤ length right → (left' right' : List ℕ)
          → left' ≡ over (map (entry_at t count names) (pieces_of (part a e lines))) left
          → right' ≡ over (map (entry_at t count names) (pieces_of (part b f lines))) right
          → BackTold t count names lines left right (Read k l) left' right'
      both-written x y left' right' p q =
          let o : lines_into t count names (length left) (length right) lines ≡ done (h.left, h.right)
          = into_is ∙ unless_holds buffer_too_short 0 _ _ (both_and _ _ (le-leb (length h.left) (length left) (omega (arith, h.left-says.counts)))
          (le-leb (length h.right) (length right) (omega (arith, h.right-says.counts)))) in
          record {
            answer = ap₂ (λ m n. Read m n) h.left-says.counts h.right-says.counts ∙ sym (ap (λ o. read_back (done o)) o);
            left_after = p ∙ ap (λ xs. over xs left) h.left-says.entries ∙ sym (ap (λ o. row_after (done o) (λ p. p.0) left) o);
            right-after = q ∙ ap (λ xs. over xs right) h.right-says.entries ∙ sym (ap (λ o. row_after (done o) (λ p. p.1) right) o);
          }
