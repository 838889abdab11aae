use Rattle.std.proofs.Common.{sym, subst}
use Rattle.std.specs.List.{All}
use Rattle.lst_seat.proofs.Gathering.{all_last}
use Rattle.lst_session.specs.Passes.{IsReady}
use Rattle.lst_bench.proofs.levels.last.Goals as goal

pub returns-in-Some : goal.returns-in-Some
returns-in-Some c = let P = IsReady c.args.store.now in
    all_last P c.pop.new.self.items c.in-Some.session (subst (All P) c.in-Some.ensures.items (subst (All P) (sym c.into_vec-items.ensures) c.requires))
