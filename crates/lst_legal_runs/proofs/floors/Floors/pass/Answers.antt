use Rattle.std.proofs.Common.{refl, sym, ap, ◌∙◌, subst}
use Rattle.lst_replies.specs.Runs.{Answered}
use Rattle.lst_replies.specs.Seen.{seen}
use Rattle.lst_legal_runs.proofs.Flooring.{Passes, floors_pass}
use Rattle.lst_legal_runs.proofs.floors.Floors.pass.Goals as goal

pub returns-in-Phase : goal.returns-in-Phase
returns-in-Phase c =
    floors_pass c.args.self.now (record { told = c.args.self.now.told; ended = c.args.self.now.latest; latest = c.args.self.now.latest }) (seen c.args.answer.now)
    (subst (λ (one : Answered). Passes c.args.self.now (record { told = c.args.self.now.told; ended = c.args.self.now.latest; latest = c.args.self.now.latest }) one) (sym (ap seen c.in-Phase.is))
    (record { told = λ session. refl; ended = refl; latest = refl; silent = λ is. refl }))

pub returns-in-Merge : goal.returns-in-Merge
returns-in-Merge c =
    floors_pass c.args.self.now (record { told = c.args.self.now.told; ended = c.args.self.now.ended; latest = c.later_commit-self.result }) (seen c.args.answer.now)
    (subst (λ (one : Answered). Passes c.args.self.now (record { told = c.args.self.now.told; ended = c.args.self.now.ended; latest = c.later_commit-self.result }) one) (sym (ap seen c.in-Merge.is))
    (record { told = λ session. refl; ended = refl; latest = c.later_commit-self.ensures; silent = λ is. absurd (cc) }))

pub returns-in_ok-tell-in-Call : goal.returns-in_ok-tell-in-Call
returns-in_ok-tell-in-Call c =
    let t = c.in_ok-tell-in-Call.ensures in
    floors_pass c.args.self.now c.tell.new.self (seen c.args.answer.now)
    (subst (λ (one : Answered). Passes c.args.self.now c.tell.new.self one) (sym (ap seen c.in-Call.is))
    (record { told = t.told; ended = t.ended; latest = t.latest ∙ c.later_commit-self-in-Call.ensures; silent = λ is. absurd (cc) }))
