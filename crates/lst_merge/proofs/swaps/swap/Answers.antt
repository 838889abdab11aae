use Rattle.std.proofs.Common.{◌+◌, ℕ, sym, ap, subst, ◌∙◌, arith}
use Rattle.lst_layout.specs.declared.limits.Limits.{Limits}
use Rattle.lst_pages.specs.Runs.{page_known}
use Rattle.lst_pages.specs.Sound.{IsPage}
use Rattle.lst_rule.specs.PageSteps.{stock_of}
use Rattle.lst_merge.proofs.Swapping.{spares_long, spares_latest, epoch_fits, spares_few, swap_host, swap_built, swap_ready, raise_host, raise_ready, swaps, spares_after, look_known}
use Rattle.lst_merge.proofs.swaps.swap.Goals as goal

pub overflow_add-epoch : goal.overflow_add-epoch
overflow_add-epoch c = let fits = epoch_fits c.args.seat.now.view c.args.spares.now.items c.requires.host c.requires.spares c.consider.ensures in let e = c.last_epoch-epoch.ensures in record { fits = omega arith }

pub step_swap-requires-clause-host : goal.step_swap-requires-clause-host
step_swap-requires-clause-host c = swap_host c.args.seat.now.view _ _ _ c.args.frame c.requires.host c.requires.page c.requires.ready c.consider.ensures (look_known _ _ _ _ _ c.page_frame-old.ensures.looked c.page_frame-old.ensures.frame)

pub step_swap-requires-clause-within : goal.step_swap-requires-clause-within
step_swap-requires-clause-within c = subst (λ (l : Limits). IsPage l c.args.range c.args.column) (sym c.page_frame-old.ensures.looked.view.limits) c.requires.page

pub step_swap-requires-clause-enabled : goal.step_swap-requires-clause-enabled
step_swap-requires-clause-enabled c = (c.args.frame, swap_built c.args.seat.now.view _ _ _ c.args.frame c.requires.host c.requires.page c.requires.ready c.consider.ensures (look_known _ _ _ _ _ c.page_frame-old.ensures.looked c.page_frame-old.ensures.frame))

pub step_swap-requires-clause-stands : goal.step_swap-requires-clause-stands
step_swap-requires-clause-stands c = swap_ready c.args.seat.now.view _ _ _ c.args.frame c.requires.host c.requires.page c.requires.ready c.consider.ensures (look_known _ _ _ _ _ c.page_frame-old.ensures.looked c.page_frame-old.ensures.frame)
    (c.requires.seat.sized ∙ ap (λ (l : Limits). l.sessions + 1) (sym c.requires.seat.limits))

pub step_raise-requires-clause-host : goal.step_raise-requires-clause-host
step_raise-requires-clause-host c = raise_host c.args.seat.now.view _ _ _ c.args.frame c.requires.host c.requires.page c.requires.ready c.consider.ensures (look_known _ _ _ _ _ c.page_frame-old.ensures.looked c.page_frame-old.ensures.frame) _ c.step_swap.ensures.swapped

pub step_raise-requires-clause-enabled : goal.step_raise-requires-clause-enabled
step_raise-requires-clause-enabled c = (page_known (stock_of c.args.seat.now.view) c.args.range c.args.column, raise_ready c.args.seat.now.view _ _ _ c.args.frame c.requires.host c.requires.page c.requires.ready c.consider.ensures (look_known _ _ _ _ _ c.page_frame-old.ensures.looked c.page_frame-old.ensures.frame) _ c.step_swap.ensures.swapped)

pub remove-requires : goal.remove-requires
remove-requires c = let some = spares_long c.args.seat.now.view c.args.spares.now.items c.requires.host c.requires.spares c.consider.ensures in (omega arith, omega arith)

pub push-requires : goal.push-requires
push-requires c = let few = spares_few c.args.seat.now.view c.args.spares.now.items c.requires.host c.requires.spares c.consider.ensures in let some = spares_long c.args.seat.now.view c.args.spares.now.items c.requires.host c.requires.spares c.consider.ensures in let left = c.remove.ensures.len in omega arith

pub returns-clause-swaps : goal.returns-clause-swaps
returns-clause-swaps c = swaps c.args.seat.now.view _ _ _ c.args.frame c.requires.host c.requires.page c.requires.ready c.consider.ensures (look_known _ _ _ _ _ c.page_frame-old.ensures.looked c.page_frame-old.ensures.frame) _ c.step_swap.ensures.swapped _ c.step_raise.ensures.view c.step_raise.ensures.made c.args.spares.now.items c.requires.spares

pub returns-clause-spares : goal.returns-clause-spares
returns-clause-spares c = spares_after c.args.seat.now.view _ _ _ c.args.frame c.requires.host c.requires.page c.requires.ready c.consider.ensures (look_known _ _ _ _ _ c.page_frame-old.ensures.looked c.page_frame-old.ensures.frame) _ c.step_swap.ensures.swapped _ c.step_raise.ensures.view c.step_raise.ensures.made
    c.args.spares.now.items c.remove.new.self.items c.push.new.self.items _ _ c.requires.spares c.remove.ensures.items c.page_frame-old.ensures.frame (ap (λ (n : ℕ). n + 1) (c.last_epoch-epoch.ensures ∙ spares_latest c.args.seat.now.view c.args.spares.now.items c.requires.host c.requires.spares c.consider.ensures)) c.push.ensures.items
