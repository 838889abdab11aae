use Rattle.std.proofs.Common.{ℕ, ◌≡◌, ◌+◌, List, [], ◌∷◌, ◌++◌, sym, ap, ◌∙◌}
use Rattle.lst_layout.specs.Words.{Words}
use Rattle.lst_model.specs.declared.acts.Write.{Write}
use Rattle.lst_core_state.specs.State.{commit_at}
use Rattle.lst_core_state.proofs.Histories.{history-next}
use Rattle.lst_history.specs.Peeks.{words_in}
use Rattle.lst_history.proofs.Looks.{reads_same, reads_on, same_words}
use Rattle.lst_history.proofs.Joining.{history_start}
use Rattle.lst_history.proofs.commits.commits_until.Goals as goal

pub bare_commit-requires-clause-reader : goal.bare_commit-requires-clause-reader
bare_commit-requires-clause-reader c = c.loop-done.invariant.0.reader

pub returns-clause-reads : goal.returns-clause-reads
returns-clause-reads c = c.loop-done.invariant.0

none : ℕ → List Write
none _ = []

pub loop-done-init : goal.loop-done-init
unfolding none
loop-done-init c = let w : Words = words_in c.args.seat.now.view in (reads_same c.args.store.now c.args.seat.now c.args.s c.requires.reader, c.new-commits.ensures.items ∙ sym (history_start w.log w.begins none))

pub returns-in_err-push-clause-reads : goal.returns-in_err-push-clause-reads
returns-in_err-push-clause-reads c = reads_on c.args.store.now c.args.seat.now c.loop-done.seat c.bare_commit.new.seat c.args.s c.loop-done.invariant.0 c.bare_commit.ensures.reads

pub loop-done-preserved : goal.loop-done-preserved
unfolding none
loop-done-preserved c = let w : Words = words_in c.args.seat.now.view in
    let here : c.bare_commit.result ≡ commit_at w.log w.begins none (c.loop-done.done + 1) = c.bare_commit.ensures.commit ∙ ap (λ (z : Words). commit_at z.log z.begins none (c.loop-done.done + 1)) (same_words c.args.store.now c.args.seat.now c.loop-done.seat c.args.s c.loop-done.invariant.0) in (
      reads_on c.args.store.now c.args.seat.now c.loop-done.seat c.bare_commit.new.seat c.args.s c.loop-done.invariant.0 c.bare_commit.ensures.reads,
      c.in_ok-push.ensures.items ∙ ((λ i. c.loop-done.invariant.1 i ++ here i ∷ []) ∙ sym (history-next c.loop-done.done w.log w.begins none)),
    )
