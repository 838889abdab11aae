use Rattle.std.proofs.Common.{◌≡◌, ◌+◌, List, sym, ap, ◌∙◌, subst, IfSome}
use Rattle.lst_model.specs.declared.commits.Commit.{Commit}
use Rattle.lst_model.specs.Tables.{applied}
use Rattle.lst_snapshots.specs.Sights.{seen}
use Rattle.lst_model.specs.declared.replies.Reply.{Reply}
use Rattle.lst_replies.specs.States.{after_call, with_write, is_as_of}
use Rattle.lst_replies.specs.Runs.{write_of}
use Rattle.lst_legal.specs.Sights.{begun_time}
use Rattle.lst_legal.proofs.Sighting.{sight_begun, write_unseen, write_seen}
use Rattle.lst_legal.proofs.sights.pass_call.Goals as goal

pub returns-in-Begun : goal.returns-in-Begun
returns-in-Begun c = λ at state opens is transaction e.
    let begin = c.in-Begun.time in
    sight_begun c.args.snapshots.now at state.begun begin (is_as_of c.args.call.now) c.opened.result c.args.opening
    (subst (λ (r : Reply). IfSome (begun_time r) (λ begin. c.args.opening ≡ at (state.begun + 1) begin)) c.in-Begun.is opens)
    (c.opened.ensures c.args.snapshots.now) transaction
    (ap (λ (r : Reply). (after_call c.args.call.now r state).current) (sym c.in-Begun.is) ∙ e)

pub returns-in_default-sight : goal.returns-in_default-sight
returns-in_default-sight c = λ at state opens is transaction e.
    let now : (after_call c.args.call.now c.args.reply.now state).current ≡ with_write (write_of c.args.call.now) state.current = ap (λ (r : Reply). (after_call c.args.call.now r state).current) c.in-Done.is in
    write_unseen c.args.snapshots.now at c.args.sight.now c.in-Some.write state.current is c.in_default-sight.is transaction
    (ap (λ w. with_write w state.current) (sym c.in-Some.is ∙ c.write_of.ensures) ∙ sym now ∙ e)

pub returns-in_ok-write-in-Done : goal.returns-in_ok-write-in-Done
returns-in_ok-write-in-Done c = λ at state opens is transaction e.
    let now : (after_call c.args.call.now c.args.reply.now state).current ≡ with_write (write_of c.args.call.now) state.current = ap (λ (r : Reply). (after_call c.args.call.now r state).current) c.in-Done.is in
    write_seen c.args.snapshots.now at c.args.sight.now c.in-Some-sight.sight c.write.new.self c.in-Some.write state.current is c.in-Some-sight.is
    (subst (λ (history : List Commit). seen history c.write.new.self ≡ applied (seen history c.in-Some-sight.sight) c.in-Some.write) c.snapshots.ensures c.in_ok-write-in-Done.ensures.ok) transaction
    (ap (λ w. with_write w state.current) (sym c.in-Some.is ∙ c.write_of.ensures) ∙ sym now ∙ e)
