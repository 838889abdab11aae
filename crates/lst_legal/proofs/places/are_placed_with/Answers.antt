use Rattle.std.proofs.Common.{IfSome, ℕ, ◌<◌, take, length, sym, ◌∙◌, subst, arith}
use Rattle.lst_replies.specs.Runs.{speaker_of}
use Rattle.lst_legal_runs.specs.Places.{seen_at, run_at}
use Rattle.lst_legal_runs.proofs.Deciding.{is_true, is_false, passes, refuses}
use Rattle.lst_legal_runs.proofs.Splits.{so_far_step, so_far_wrong, so_far_all}
use Rattle.lst_legal_runs.proofs.Placing.{run_more, traced_read}
use Rattle.lst_legal_runs.proofs.Stepping.{speaker_within}
use Rattle.lst_legal.specs.Sights.{AreSights}
use Rattle.lst_legal.specs.Serials.{from_place, TellsPlace}
use Rattle.lst_legal.proofs.Serials.{begun_few, place_opens, in_place_of, of_in_place}
use Rattle.lst_legal.proofs.places.are_placed_with.Goals as goal

pub tells_place-requires : goal.tells_place-requires
tells_place-requires c =
    subst (λ (n : ℕ). IfSome (speaker_of (seen_at c.place-item.result).line) (λ session. session < n)) (sym c.loop-place.invariant.1.all)
    (speaker_within c.args.places.now (length c.args.sights.now) c.loop-place.place-index c.place-item.result c.loop-place-test.true c.place-item.is c.requires.within)

pub opening_time-opening-requires : goal.opening_time-opening-requires
opening_time-opening-requires c =
    let few = begun_few c.args.places.now c.loop-place.place-index c.place-item.result c.loop-place-test.true c.place-item.is c.requires.traced in
    omega (arith, few)

pub pass-requires : goal.pass-requires
pass-requires c =
    subst (λ (n : ℕ). IfSome (speaker_of (seen_at c.place-item.result).line) (λ session. session < n)) (sym c.loop-place.invariant.1.all)
    (speaker_within c.args.places.now (length c.args.sights.now) c.loop-place.place-index c.place-item.result c.loop-place-test.true c.place-item.is c.requires.within)

pub returns-then-not-tells_place : goal.returns-then-not-tells_place
returns-then-not-tells_place c =
    let history = c.args.snapshots.now in
    let firsts = c.args.firsts.now in
    let places = c.args.places.now in
    let i = c.loop-place.place-index in
    let place = c.place-item.result in
    is_false (λ in_place.
    so_far_wrong seen_at (TellsPlace history (from_place firsts)) places i place c.loop-place-test.true c.place-item.is
    (refuses c.tells_place.result c.if-not-tells_place.true (c.tells_place.ensures (from_place firsts) (run_at (take i places)) c.loop-place.invariant.1.are (traced_read places i place c.loop-place-test.true c.place-item.is c.requires.traced)))
    (of_in_place history c.requires.sound firsts c.requires.named (run_at places) in_place))

pub loop-place-preserved : goal.loop-place-preserved
loop-place-preserved c =
    let history = c.args.snapshots.now in
    let firsts = c.args.firsts.now in
    let places = c.args.places.now in
    let i = c.loop-place.place-index in
    let place = c.place-item.result in
    let behind = traced_read places i place c.loop-place-test.true c.place-item.is c.requires.traced in (
      so_far_step seen_at (TellsPlace history (from_place firsts)) places i place c.loop-place-test.true c.place-item.is c.loop-place.invariant.0
          (passes c.tells_place.result c.if-not-tells_place.false (c.tells_place.ensures (from_place firsts) (run_at (take i places)) c.loop-place.invariant.1.are behind)),
      record {
        all = c.pass.auto.sights ∙ c.loop-place.invariant.1.all;
        are = subst (AreSights history (from_place firsts) c.pass.new.sights) (sym (run_more places i place c.loop-place-test.true c.place-item.is))
            (c.in_ok-pass.ensures (from_place firsts) (run_at (take i places)) (place_opens firsts (run_at (take i places)) place c.opening_time-opening.result behind c.opening_time-opening.ensures) c.loop-place.invariant.1.are);
      },
    )

pub returns : goal.returns
returns c =
    let history = c.args.snapshots.now in
    let firsts = c.args.firsts.now in
    let places = c.args.places.now in
    is_true (in_place_of history c.requires.sound firsts c.requires.named (run_at places)
    (so_far_all seen_at (TellsPlace history (from_place firsts)) places c.loop-place.place-index c.loop-place-test.false c.loop-place.invariant.0))
