-- What the program prints for the bytes of its input, however many they are, is the report of those read. Assumes nothing.
use Rattle.std.proofs.Common.{◌≡◌, ℕ, ◌+◌, ◌≤◌, ◌<◌, List, [], ◌++◌, Option, None, Some, Ok, IfSome, length, take, arith, sym, ap, ◌∙◌, subst, append-nil, length-append, length-take-le, inl, inr}
use Rattle.std.proofs.lemmas.Bool.{cases_lt}
use Rattle.std.proofs.Math.Seq.{take-append_seam}
use borrow.Author.Tests.{lt-leb}
use lib.Dec.{leb}
use Rattle.grammar.specs.Basics.{over}
use Rattle.grammar.specs.Refusal.{done, refused, buffer_too_short}
use Rattle.grammar.proofs.Answers.{unless_fails}
use Rattle.text.specs.Promise.{afterwards}
use Rattle.report.specs.Report.{program_text, report_size, judge, printed, report_of, report_into, reported, Reports}
use Rattle.report.specs.declared.Reported.{Reported}
use Rattle.report.specs.declared.Reported.TheVariants.{Written}
use Rattle.report.proofs.Sizes.{never_short}
use Rattle.report.proofs.Written.{report_done}
use Rattle.ambig.specs.Input.{ReadsText}

-- an output of report_size bytes is long enough: its front is the report
module _ (text out : List ℕ) (r : Reported) (out' : List ℕ) (h : Reports text out r out') (room : report_size ≤ length out) where
  told : report_into (length out) text ≡ done (report_of text)
  told = report_done text out (omega (arith, never_short text))

  pub is_written : r ≡ Written (length (report_of text))
  is_written = h.answer ∙ ap reported told

  pub front_is_report : (n : ℕ) → r ≡ Written n → (n ≡ length (report_of text)) × (take n out' ≡ report_of text)
  unfolding over
  front_is_report n e =
      let q : n ≡ length (report_of text) = cc (is_written) in
      let z = h.out-after ∙ ap (λ o. afterwards o (λ l. l) out) told in
      (q, ap (λ m. take m out') q ∙ ap (take (length (report_of text))) z ∙ take-append_seam (report_of text) _)

-- any two texts that are too long have one report
too_long : (text : List ℕ) → program_text < length text → report_of text ≡ printed (refused buffer_too_short 0)
unfolding report_of judge
too_long text h = ap printed (unless_fails buffer_too_short 0 (leb (length text) program_text) _ (lt-leb (length text) program_text h))

same_report : (read rest all : List ℕ) → all ≡ read ++ rest → (length read ≤ program_text → rest ≡ []) → report_of read ≡ report_of all
same_report read rest all e end =
    elim (cases_lt program_text (length read)) as (λ _. report_of read ≡ report_of all) [
      | inl h ↦ too_long read h ∙ sym (too_long all (omega (arith, ap length e, length-append read rest)))
      | inr h ↦ ap report_of (sym (e ∙ ap (λ r. read ++ r) (end h) ∙ append-nil read))
    ]

-- so what holds of the report of the bytes read holds of that of the whole input
pub report_of_input : (old new : Option (List ℕ)) (n : ℕ) (text : List ℕ) (P : List ℕ → Type 0) → length text ≡ program_text + 1 → n ≤ length text
    → ReadsText old new (Ok n) text → P (report_of (take n text)) → IfSome old (λ xs. P (report_of xs))
report_of_input None new n text P size fits read p = tt
report_of_input (Some xs) None n text P size fits read p = absurd read.0
report_of_input (Some xs) (Some ys) n text P size fits read p =
    let q = length-take-le n text fits in
    subst P (same_report (take n text) ys xs read.0 (λ h. read.1 (omega (arith, q)))) p
