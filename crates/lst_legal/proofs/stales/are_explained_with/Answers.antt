use Rattle.std.proofs.Common.{IfSome, ℕ, ◌<◌, take, length, sym, ◌∙◌, subst}
use Rattle.lst_replies.specs.Runs.{speaker_of}
use Rattle.lst_replies.specs.States.{state_of}
use Rattle.lst_legal_runs.specs.Places.{seen_at, run_at}
use Rattle.lst_legal_runs.proofs.Deciding.{is_false, passes, refuses}
use Rattle.lst_legal_runs.proofs.Splits.{so_far_step, so_far_wrong, of_calls}
use Rattle.lst_legal_runs.proofs.Placing.{run_more, traced_read}
use Rattle.lst_legal_runs.proofs.Stepping.{speaker_within}
use Rattle.lst_serial_laws.specs.Legal.{StaleIsExplained}
use Rattle.lst_legal.specs.Serials.{AreReads, TellsStale}
use Rattle.lst_legal.proofs.stales.are_explained_with.Goals as goal

pub pass-requires : goal.pass-requires
pass-requires c =
    subst (λ (n : ℕ). IfSome (speaker_of (seen_at c.place-item.result).line) (λ session. session < n)) (sym c.loop-place.invariant.1.all)
    (speaker_within c.args.places.now (length c.args.reads.now) c.loop-place.place-index c.place-item.result c.loop-place-test.true c.place-item.is c.requires.within)

pub returns-then-not-branch : goal.returns-then-not-branch
returns-then-not-branch c =
    let history = c.args.snapshots.now in
    let places = c.args.places.now in
    let i = c.loop-place.place-index in
    let place = c.place-item.result in
    is_false (λ each.
    so_far_wrong seen_at (TellsStale history) places i place c.loop-place-test.true c.place-item.is
    (refuses c.in_ok-pass.field-0 c.if-not-branch.true (c.in_ok-pass.ensures.explained (run_at (take i places)) c.loop-place.invariant.1.are (traced_read places i place c.loop-place-test.true c.place-item.is c.requires.traced)))
    (of_calls (λ before session call reply. StaleIsExplained history before session (state_of session before).current reply) (run_at places) each))

pub loop-place-preserved : goal.loop-place-preserved
loop-place-preserved c =
    let history = c.args.snapshots.now in
    let places = c.args.places.now in
    let i = c.loop-place.place-index in
    let place = c.place-item.result in (
      so_far_step seen_at (TellsStale history) places i place c.loop-place-test.true c.place-item.is c.loop-place.invariant.0
          (passes c.in_ok-pass.field-0 c.if-not-branch.false (c.in_ok-pass.ensures.explained (run_at (take i places)) c.loop-place.invariant.1.are (traced_read places i place c.loop-place-test.true c.place-item.is c.requires.traced))),
      record {
        all = c.pass.auto.reads ∙ c.loop-place.invariant.1.all;
        are = subst (AreReads history c.pass.new.reads) (sym (run_more places i place c.loop-place-test.true c.place-item.is)) (c.in_ok-pass.ensures.passed (run_at (take i places)) c.loop-place.invariant.1.are);
      },
    )
