use Rattle.std.proofs.Common.{sym, ap, ◌∙◌}
use Rattle.lst_snapshots.proofs.Newest.{follow_from, at_first}
use Rattle.lst_snapshots.proofs.fitting.fit.Goals as goal

pub loop-write-init : goal.loop-write-init
loop-write-init c = record {
  time = c.newest-newest.ensures.time;
  whole =
      at_first c.args.index.now.versions c.args.begin c.args.writes.now c.in-Some.first.now c.requires (sym c.in-Some.ensures.value)
      ∙ ap (λ there. follow_from c.args.index.now.versions c.args.begin c.in-Some.first.now.key there c.args.writes.now) (sym c.newest-newest.ensures.is_there);
}
