use Rattle.std.proofs.Common.{◌≤◌, ◌+◌, length, ◌∙◌, ap, arith}
use Rattle.std.specs.Prelude.{is_err}
use Rattle.lst_log.specs.Journals.{StandsForOrAll}
use Rattle.lst_log.specs.Stores.{HalfStored}
use Rattle.lst_log.proofs.Moments.{weakened}
use Rattle.lst_log.proofs.Crashes.{half_stored, stored, stops_so, end_after, opened_whole}
use Rattle.lst_log.proofs.Stopping.{on_err}
use Rattle.lst_log.proofs.log.Log.write_piece.Goals as goal

pub returns-in_err-store_gated-clause-any_moment : goal.returns-in_err-store_gated-clause-any_moment
returns-in_err-store_gated-clause-any_moment g c = λ so_far commits keeps piece_of follow.
    let log = c.args.self.now in
    let content = g.D.Disk.content log.disk in
    let piece = c.args.piece.now in
    let long : log.end + 1 ≤ length content = omega (arith, c.requires.within) in
    weakened g.D.Disk.clock g.D.Disk.images_since log.disk c.store_gated.new.disk (HalfStored content log.end piece) (StandsForOrAll log.columns so_far commits)
    (half_stored log.columns content so_far keeps.stands log.end keeps.end long commits follow piece piece_of) c.store_gated.ensures.any_moment

pub returns-clause-any_moment : goal.returns-clause-any_moment
returns-clause-any_moment g c = λ so_far commits keeps piece_of follow.
    let log = c.args.self.now in
    let content = g.D.Disk.content log.disk in
    let piece = c.args.piece.now in
    let long : log.end + 1 ≤ length content = omega (arith, c.requires.within) in
    weakened g.D.Disk.clock g.D.Disk.images_since log.disk c.store_gated.new.disk (HalfStored content log.end piece) (StandsForOrAll log.columns so_far commits)
    (half_stored log.columns content so_far keeps.stands log.end keeps.end long commits follow piece piece_of) c.store_gated.ensures.any_moment

pub returns-clause-kept : goal.returns-clause-kept
returns-clause-kept g c = λ so_far commits keeps piece_of follow.
    let log = c.args.self.now in
    let content = g.D.Disk.content log.disk in
    let piece = c.args.piece.now in
    let long : log.end + 1 ≤ length content = omega (arith, c.requires.within) in
    record {
      stands = stored log.columns content so_far keeps.stands log.end keeps.end long commits follow piece piece_of (g.D.Disk.content c.store_gated.new.disk) c.in_ok-store_gated.ensures.stored;
      end = omega (arith, end_after log.columns content so_far keeps.stands log.end keeps.end long commits follow piece piece_of);
      lasts = c.in_ok-store_gated.ensures.lasts;
    }

pub returns-clause-written : goal.returns-clause-written
returns-clause-written g c =
    let log = c.args.self.now in
    let content = g.D.Disk.content log.disk in
    let long : log.end + 1 ≤ length content = omega (arith, c.requires.within) in
    let keeps = c.requires.open.1 in
    c.in_ok-store_gated.ensures.stored ∙ opened_whole log.columns content c.requires.open.0 keeps.stands log.end keeps.end long c.args.piece.now

pub returns-in_err-store_gated-clause-stopped : goal.returns-in_err-store_gated-clause-stopped
returns-in_err-store_gated-clause-stopped g c = λ so_far commits keeps piece_of follow.
    let log = c.args.self.now in
    let content = g.D.Disk.content log.disk in
    let piece = c.args.piece.now in
    let long : log.end + 1 ≤ length content = omega (arith, c.requires.within) in
    let new = c.store_gated.new.disk in
    on_err _ _ (stops_so log.columns content so_far keeps.stands log.end keeps.end long commits follow piece piece_of (g.D.Disk.calls_left log.disk) (g.D.Disk.calls_left new) (g.D.Disk.outcome new) (g.D.Disk.content new) c.store_gated.result
    c.store_gated.ensures.left (ap is_err c.in_err-store_gated.was) c.in_err-store_gated.ensures.stopped)
