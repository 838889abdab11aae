-- The report of sessions at work, behind its script, is a claim that is legal.
use Rattle.std.proofs.Common.{◌≡◌, ℕ, ◌≤◌, List, length, inl, inr, codes, refl, sym, subst, arith}
use Rattle.lst_layout.specs.Limits.{IsValid}
use Rattle.lst_layout.specs.declared.limits.Limits.{Limits}
use Rattle.lst_legal_runs.specs.declared.levels.Level.TheVariants.{Snapshot}
use Rattle.lst_replies.specs.Legal.{IsLegalReport}
use Rattle.lst_report.specs.declared.claims.Claim.{Claim}
use Rattle.lst_report.specs.Claims.{IsClaim}
use Rattle.lst_report.specs.Fits.{IsLegalFor, claim_text}
use Rattle.lst_report.proofs.Behind.{legal_claimed, one_claim, script_few}
use Rattle.lst_session.specs.Crews.{store_told}
use Rattle.lst_command.specs.declared.status.Status.{Status}
use Rattle.lst_command.specs.declared.status.Status.TheVariants.{Done}
use Rattle.lst_command.specs.Owed.{OwesReport, IsVerdict, most_bytes}
use Rattle.lst_command.specs.Runs.{Left}
use Rattle.lst_command.specs.Reported.{IsJudgedLegal}

module _ (limits : Limits) (input text : List ℕ) (left : Left) (valid : IsValid limits) (small : length input ≤ most_bytes) (owed : OwesReport Snapshot limits input text left) where
  legal : IsLegalReport limits owed.script owed.report
  legal = subst (λ (l : Limits). IsLegalReport l owed.script owed.report) owed.limited ((store_told owed.both.1.seat.view).history, owed.by.legal)

  is_legal : IsLegalFor limits input owed.report
  is_legal = record { script = owed.script; is_script = owed.is_script; few = omega (arith, small, script_few limits input owed.script owed.is_script); legal = legal }

  abbrev claim : Claim
  claim = record { script = owed.script; report = owed.report }

  is_claim : IsClaim limits (claim_text input text) claim
  unfolding is_legal
  is_claim = subst (λ (t : List ℕ). IsClaim limits (claim_text input t) claim) (sym owed.is_text) (legal_claimed limits input owed.report valid is_legal)

  told_legal : (other : Claim) (told : List ℕ) (status : Status) → claim ≡ other → IsVerdict Snapshot limits other told status → (told ≡ codes "legal\n") × (status ≡ Done)
  told_legal other told status same (inl is) = (is.1, is.2)
  told_legal other told status same (inr is) = absurd (is.0 (subst (λ (c : Claim). IsLegalReport limits c.script c.report) same legal))

  pub judged_legal : IsJudgedLegal limits (claim_text input text)
  judged_legal = record {
    owed = record { wide = valid.columns.0; claim = claim; is_claim = is_claim; verdict = inl (legal, refl, refl) };
    alone = λ told status verdict. told_legal verdict.claim told status (one_claim limits (claim_text input text) claim verdict.claim verdict.wide is_claim verdict.is_claim) verdict.verdict;
  }
