use Rattle.std.proofs.Common.{◌<◌, length, IfSome, [], ◌∷◌, ◌++◌, set, sym, ap, ◌∙◌, subst}
use Rattle.lst_replies.specs.Seen.{seen}
use Rattle.lst_replies.specs.Runs.{Answered, speaker_of}
use Rattle.lst_model.specs.declared.replies.Reply.TheVariants.{Silent}
use Rattle.lst_legal_runs.specs.Outlines.{outline_after}
use Rattle.lst_legal_runs.specs.Places.{AreOutlines}
use Rattle.lst_legal_runs.proofs.Behind.{outlines_phase, outlines_merge, outlines_call}
use Rattle.lst_legal_runs.proofs.places.pass.Goals as goal

pub returns-in-Call-clause-after : goal.returns-in-Call-clause-after
returns-in-Call-clause-after c = λ front are.
    let within = subst (λ (one : Answered). IfSome (speaker_of one.line) (λ session. session < length c.args.outlines.now)) (ap seen c.in-Call.is) c.requires.within in
    subst (λ (one : Answered). AreOutlines (set c.args.outlines.now c.in-Call.session c.after.result) (front ++ one ∷ [])) (sym (ap seen c.in-Call.is))
    (outlines_call c.args.outlines.now front c.in-Call.reply.now c.in-Call.session c.in-Call.call.now c.after.result within
    (c.after.ensures ∙ ap (outline_after c.in-Call.call.now c.in-Call.reply.now) (are c.in-Call.session _ within)) are)

pub returns-in-Phase-clause-after : goal.returns-in-Phase-clause-after
returns-in-Phase-clause-after c = λ front are. subst (λ (one : Answered). AreOutlines c.args.outlines.now (front ++ one ∷ [])) (sym (ap seen c.in-Phase.is)) (outlines_phase c.args.outlines.now front Silent are)

pub returns-in-Merge-clause-after : goal.returns-in-Merge-clause-after
returns-in-Merge-clause-after c = λ front are. subst (λ (one : Answered). AreOutlines c.args.outlines.now (front ++ one ∷ [])) (sym (ap seen c.in-Merge.is)) (outlines_merge c.args.outlines.now front _ _ _ are)
