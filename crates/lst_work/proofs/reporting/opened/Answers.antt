use Rattle.std.proofs.Common.{ap}
use Rattle.lst_layout.specs.declared.layout.Layout.{Layout}
use Rattle.lst_work_laws.proofs.Nothing.{known_first, merger_first, merger_limits, have_done_nothing}
use Rattle.lst_work.proofs.reporting.opened.Goals as goal

pub returns-in-Ok-clause-nothing : goal.returns-in-Ok-clause-nothing
returns-in-Ok-clause-nothing c = have_done_nothing c.in_ok-store.store c.args.layout.now.limits c.in_ok-store.crew.seat.view c.in-Ok.sessions c.in-Ok.merger
    (ap (λ (x : Layout). x.limits) c.in_ok-store.ensures.store) c.in_ok-store.ensures.view c.in_ok-store.ensures.opening c.in-Ok.ensures.parted (c.in-Ok.ensures.ready c.in_ok-store.ensures.crew)

pub returns-in-Ok-clause-opening : goal.returns-in-Ok-clause-opening
returns-in-Ok-clause-opening c = let is_layout = ap (λ (x : Layout). x.limits) c.in_ok-store.ensures.store in let ready = c.in-Ok.ensures.ready c.in_ok-store.ensures.crew in record {
  each = known_first c.in_ok-store.store c.args.layout.now.limits c.in_ok-store.crew.seat.view c.in-Ok.sessions c.in-Ok.merger
      is_layout c.in_ok-store.ensures.view c.in_ok-store.ensures.opening c.in-Ok.ensures.parted ready;
  merger = merger_first c.in_ok-store.store c.args.layout.now.limits c.in_ok-store.crew.seat.view c.in-Ok.sessions c.in-Ok.merger
      is_layout c.in_ok-store.ensures.view c.in_ok-store.ensures.opening c.in-Ok.ensures.parted ready;
  merger_limits = merger_limits c.in_ok-store.store c.args.layout.now.limits c.in_ok-store.crew.seat.view c.in-Ok.sessions c.in-Ok.merger
      is_layout c.in_ok-store.ensures.view c.in_ok-store.ensures.opening c.in-Ok.ensures.parted ready;
}
