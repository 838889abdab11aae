use Rattle.std.proofs.Common.{◌≡◌, ◌↔◌, ◌<◌, [], ◌∷◌, ◌++◌, IsTrue, length, set, IfSome, sym, ap, subst}
use Rattle.std.proofs.lemmas.List.{get_or_default}
use Rattle.std.proofs.lemmas.Result.{IfOk-weaker, on_ok_weaker}
use Rattle.lst_model.specs.declared.replies.Reply.TheVariants.{Silent}
use Rattle.lst_replies.specs.Seen.{seen}
use Rattle.lst_replies.specs.Runs.{Answered, speaker_of}
use Rattle.lst_replies.specs.States.{state_of}
use Rattle.lst_legal_runs.specs.declared.outlines.StateOutline.{StateOutline}
use Rattle.lst_legal_runs.specs.Outlines.{outline_of}
use Rattle.lst_legal_runs.specs.Places.{outline_at}
use Rattle.lst_legal.specs.declared.stales.Reads.{Reads}
use Rattle.lst_serial_laws.specs.Legal.{lines_since_begin}
use Rattle.lst_legal.specs.Serials.{AreReads, AreReadsOf, TellsStale}
use Rattle.lst_legal.proofs.Rereading.{reads_phase, reads_merge, reads_call}
use Rattle.lst_legal.proofs.stales.pass.Goals as goal

pub returns-in-Phase-clause-passed : goal.returns-in-Phase-clause-passed
returns-in-Phase-clause-passed c = λ front are. subst (λ (one : Answered). AreReads c.args.snapshots.now c.args.reads.now (front ++ one ∷ [])) (sym (ap seen c.in-Phase.is)) (reads_phase c.args.snapshots.now c.args.reads.now front Silent are)

pub returns-in-Merge-clause-passed : goal.returns-in-Merge-clause-passed
returns-in-Merge-clause-passed c = λ front are. subst (λ (one : Answered). AreReads c.args.snapshots.now c.args.reads.now (front ++ one ∷ [])) (sym (ap seen c.in-Merge.is)) (reads_merge c.args.snapshots.now c.args.reads.now front c.in-Merge.reply.now c.in-Merge.range c.in-Merge.column are)

pub returns-in-Call-clause-explained : goal.returns-in-Call-clause-explained
returns-in-Call-clause-explained c = IfOk-weaker c.goes_on.result _ _
    (λ b decides before are outline.
    let session = c.in-Call.session in
    let reads = c.args.reads.now in
    let one_is = ap seen c.in-Call.is in
    let here : c.args.place.now.outline ≡ outline_of (state_of session before) = subst (λ (one : Answered). c.args.place.now.outline ≡ outline_at before (speaker_of one.line)) one_is outline in
    let within : session < length reads = subst (λ (one : Answered). IfSome (speaker_of one.line) (λ s. s < length reads)) one_is c.requires in
    subst (λ (one : Answered). IsTrue b ↔ TellsStale c.args.snapshots.now before one) (sym one_is)
    (decides before session (state_of session before)
    (are session c.index-reads-session.result within)
    (ap (λ (o : StateOutline). o.current) here)))
    c.goes_on.ensures.explained

pub returns-in-Call-clause-passed : goal.returns-in-Call-clause-passed
returns-in-Call-clause-passed c = on_ok_weaker c.goes_on.result
    (λ passed front are.
    let session = c.in-Call.session in
    let call = c.in-Call.call.now in
    let reply = c.in-Call.reply.now in
    let history = c.args.snapshots.now in
    let reads = c.args.reads.now in
    let within : session < length reads = subst (λ (one : Answered). IfSome (speaker_of one.line) (λ s. s < length reads)) (ap seen c.in-Call.is) c.requires in
    subst (λ (one : Answered). AreReads history (set reads session c.goes_on.new.self) (front ++ one ∷ [])) (sym (ap seen c.in-Call.is))
    (reads_call history reads front reply session call c.goes_on.new.self within
    (λ is. passed session (lines_since_begin session front)
    (subst (λ (r : Reads). AreReadsOf history r (lines_since_begin session front)) (get_or_default reads session c.goes_on.new.self c.index-reads-session.result within) is))
    are))
    c.goes_on.ensures.passed
