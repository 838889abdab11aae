use Rattle.std.proofs.Common.{IfSome, ℕ, ◌<◌, take, length, sym, ◌∙◌, subst}
use Rattle.lst_replies.specs.Runs.{speaker_of}
use Rattle.lst_legal_runs.specs.Places.{seen_at, run_at}
use Rattle.lst_legal_runs.proofs.Deciding.{is_false, passes, refuses}
use Rattle.lst_legal_runs.proofs.Splits.{so_far_step, so_far_wrong}
use Rattle.lst_legal_runs.proofs.Placing.{run_more, traced_read}
use Rattle.lst_legal_runs.proofs.Stepping.{speaker_within}
use Rattle.lst_legal.specs.Sights.{from_begin, AreSights, TellsSeen}
use Rattle.lst_legal.proofs.Sighting.{of_both, from_begin_passes}
use Rattle.lst_legal.proofs.sights.are_told_with.Goals as goal

pub tells_seen-requires : goal.tells_seen-requires
tells_seen-requires c =
    subst (λ (n : ℕ). IfSome (speaker_of (seen_at c.place-item.result).line) (λ session. session < n)) (sym c.loop-place.invariant.1.all)
    (speaker_within c.args.places.now (length c.args.sights.now) c.loop-place.place-index c.place-item.result c.loop-place-test.true c.place-item.is c.requires.within)

pub pass-requires : goal.pass-requires
pass-requires c =
    subst (λ (n : ℕ). IfSome (speaker_of (seen_at c.place-item.result).line) (λ session. session < n)) (sym c.loop-place.invariant.1.all)
    (speaker_within c.args.places.now (length c.args.sights.now) c.loop-place.place-index c.place-item.result c.loop-place-test.true c.place-item.is c.requires.within)

pub returns-then-not-tells_seen : goal.returns-then-not-tells_seen
returns-then-not-tells_seen c =
    let places = c.args.places.now in
    let i = c.loop-place.place-index in
    let place = c.place-item.result in
    is_false (λ both.
    so_far_wrong seen_at (TellsSeen c.args.limits.now c.args.snapshots.now) places i place c.loop-place-test.true c.place-item.is
    (refuses c.tells_seen.result c.if-not-tells_seen.true (c.tells_seen.ensures (run_at (take i places)) c.loop-place.invariant.1.are (traced_read places i place c.loop-place-test.true c.place-item.is c.requires.traced)))
    (of_both c.args.limits.now c.args.snapshots.now (run_at places) both))

pub loop-place-preserved : goal.loop-place-preserved
loop-place-preserved c =
    let places = c.args.places.now in
    let i = c.loop-place.place-index in
    let place = c.place-item.result in (
      so_far_step seen_at (TellsSeen c.args.limits.now c.args.snapshots.now) places i place c.loop-place-test.true c.place-item.is c.loop-place.invariant.0
          (passes c.tells_seen.result c.if-not-tells_seen.false (c.tells_seen.ensures (run_at (take i places)) c.loop-place.invariant.1.are (traced_read places i place c.loop-place-test.true c.place-item.is c.requires.traced))),
      record {
        all = c.pass.auto.sights ∙ c.loop-place.invariant.1.all;
        are = subst (AreSights c.args.snapshots.now (λ session. from_begin) c.pass.new.sights) (sym (run_more places i place c.loop-place-test.true c.place-item.is))
            (c.in_ok-pass.ensures (λ session. from_begin) (run_at (take i places)) (from_begin_passes (run_at (take i places)) (seen_at place) c.begun_time-opening.result c.begun_time-opening.ensures) c.loop-place.invariant.1.are);
      },
    )
