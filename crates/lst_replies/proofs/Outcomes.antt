-- What the outcome of reading says of a text.
use Rattle.std.proofs.Common.{◌≡◌, ℕ, ◌<◌, List, Result, Ok, Err, refl, sym, ◌∙◌, subst}
use Rattle.std.specs.Prelude.{IfOk, MatchResult}
use Rattle.lst_replies.specs.declared.reports.Report.{Report}
use Rattle.lst_replies.specs.declared.parse.ReportFault.{ReportFault}
use Rattle.lst_replies.specs.declared.parse.ReportFault.TheVariants.{Bad, OutOfMemory}
use Rattle.lst_replies.specs.ReportTexts.{text_lines, IsReportText, IsFirstFault}
use Rattle.lst_replies.specs.Reading.{report_in, Tells}
use Rattle.lst_replies.proofs.Faults.{found, only, first_fault}

module _ (columns : ℕ) (some : 0 < columns) (text : List ℕ) where
  pub tells_found : (result : Result Report ReportFault) → Tells result (report_in columns (text_lines text)) → IfOk result (λ report. IsReportText columns text report)
  tells_found (Ok report) tells = let is = found columns some (text_lines text) report tells in record { fits = is.0; lines = is.1 }
  tells_found (Err fault) tells = tt

  pub tells_only : (result : Result Report ReportFault) → Tells result (report_in columns (text_lines text)) → (report : Report) → IsReportText columns text report
      → MatchResult result (λ read. read ≡ report) (λ fault. fault ≡ OutOfMemory)
  tells_only (Ok read) tells report is = let same : Ok read ≡ Ok report = sym tells ∙ only columns some (text_lines text) report is.fits is.lines in cc
  tells_only (Err (Bad line)) tells report is = let same : Err line ≡ Ok report = sym tells ∙ only columns some (text_lines text) report is.fits is.lines in absurd cc
  tells_only (Err OutOfMemory) tells report is = refl

  fault_is : (line : ℕ) → report_in columns (text_lines text) ≡ Err line → IsFirstFault columns text line
  fault_is line tells =
      let stands = first_fault columns some (text_lines text) line tells in
      record {
        counted = stands.counted;
        within = stands.within;
        front = stands.front;
        fault = stands.fault;
        whole = λ report is. let same : Err line ≡ Ok report = sym tells ∙ only columns some (text_lines text) report is.fits is.lines in absurd cc;
      }

  pub tells_bad : (result : Result Report ReportFault) → Tells result (report_in columns (text_lines text)) → (line : ℕ) → result ≡ Err (Bad line) → IsFirstFault columns text line
  tells_bad (Ok report) tells line is = absurd cc
  tells_bad (Err OutOfMemory) tells line is = absurd cc
  tells_bad (Err (Bad other)) tells line is = let same : other ≡ line = cc in fault_is line (subst (λ n. report_in columns (text_lines text) ≡ Err n) same tells)
