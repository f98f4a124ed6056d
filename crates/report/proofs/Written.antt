-- The output is what the report promises. Assumes nothing.
use Prim.Native.Nat.{ℕ, ◌+◌, ◌≤◌, ◌<◌}
use mathlib.Core.Path.{◌≡◌, refl, ap, ap₂, sym, ◌∙◌}
use mathlib.Core.List.{List, ◌++◌}
use native.Mathlib.Omega.{arith}
use borrow.Author.Tests.{le-leb, lt-leb, leb-true}
use lib.Dec.{leb}
use lib.ListN.{length, take, drop}
use lib.Seq.{take-append_seam}
use Rattle.grammar.specs.Basics.{over}
use Rattle.grammar.specs.Refusal.{Answer, done, refused, buffer_too_short}
use Rattle.grammar.proofs.Answers.{unless_holds, unless_fails, unless_done, done_inj}
use Rattle.text.specs.Promise.{afterwards}
use Rattle.text_write.specs.Clauses.{Wrote}
use Rattle.report.specs.Report.{report_of, report_into, reported, Reports}
use Rattle.report.specs.declared.Reported.{Reported}
use Rattle.report.specs.declared.Reported.TheVariants.{Written, Refused}

-- what is written from place 0 on is the front
pub front-written : (x old : List ℕ) (r : ℕ) (new : List ℕ) → Wrote 0 x old r new → (r ≡ length x) × (take r new ≡ x)
front-written x old r new w =
    let e : r ≡ length x = omega (arith, w.place) in
    (e, ap₂ (λ (r : ℕ) (new : List ℕ). take r new) e w.row ∙ take-append_seam x (drop (0 + length x) old))

module _ (text out : List ℕ) where
  -- 14 at 0
  pub report_short : (r : ℕ) → r ≡ length (report_of text) → length out < r → Reports text out (Refused buffer_too_short 0) out
  unfolding report_into
  report_short r e h =
      let q : report_into (length out) text ≡ refused buffer_too_short 0
      = unless_fails buffer_too_short 0 (leb (length (report_of text)) (length out)) _ (lt-leb (length (report_of text)) (length out) (omega (arith, e))) in
      record { answer = sym (ap reported q); out-after = sym (ap (λ o. afterwards o (λ l. l) out) q) }

  -- there is room
  pub report_done : length (report_of text) ≤ length out → report_into (length out) text ≡ done (report_of text)
  unfolding report_into
  report_done h = unless_holds buffer_too_short 0 (leb (length (report_of text)) (length out)) _ (le-leb (length (report_of text)) (length out) h)

  pub report_all : (r : ℕ) (x : List ℕ) (m : ℕ) (out' : List ℕ) → r ≡ length (report_of text) → x ≡ report_of text → r ≤ length out → Wrote 0 x out m out'
      → Reports text out (Written r) out'
  unfolding over
  report_all r x m out' e q h w =
      let d = report_done (omega (arith, e)) in
      let z : 0 + length x ≡ length x = omega arith in
      record {
        answer = ap Written e ∙ sym (ap reported d);
        out-after = w.row ∙ ap (λ (n : ℕ). x ++ drop n out) z ∙ ap (λ (x : List ℕ). x ++ drop (length x) out) q
            ∙ sym (ap (λ o. afterwards o (λ l. l) out) d);
      }

  -- what is written fits
  pub written_fits : (r : Reported) (n : ℕ) (out' : List ℕ) → Reports text out r out' → r ≡ Written n → n ≤ length out
  unfolding report_into
  written_fits r n out' h e = go (report_into (length out) text) refl (sym e ∙ h.answer)
    where
      go : (o : Answer (List ℕ)) → report_into (length out) text ≡ o → Written n ≡ reported o → n ≤ length out
      go (done l) d w =
          let u = unless_done buffer_too_short 0 (leb (length (report_of text)) (length out)) (done (report_of text)) l d in
          let q : n ≡ length l = cc in
          omega (arith, q, ap length (done_inj u.1), leb-true (length (report_of text)) (length out) u.0)
      go (refused cause at) d w = absurd (let z : ◌≡◌ {A = ℕ} 0 1 = cc in omega arith)
