use Rattle.std.proofs.Common.{◌+◌, ◌<◌, subst, sym, ◌∙◌}
use Rattle.lst_layout.specs.declared.limits.Limits.{Limits}
use Rattle.lst_layout.specs.declared.place.Place.TheVariants.{DirectoryWord}
use Rattle.lst_layout.specs.Addresses as addresses
use Rattle.lst_layout.specs.Areas.{words_of}
use Rattle.lst_rule.proofs.Paging.{page_looked, next_page, next_page_low}
use Rattle.lst_rule.proofs.page_steps.step_look_page_from.Goals as goal

pub later-address-requires : goal.later-address-requires
later-address-requires c = subst (λ k. c.args.first + c.args.column < k) (sym c.args.store.now.layout.counted) (next_page_low c.args.store.now.layout.limits c.args.range c.args.column c.args.first c.requires.first (subst (λ (l : Limits). addresses.IsWithin l (DirectoryWord c.args.range c.args.column)) c.requires.seat.limits c.requires.within.1))

pub load_page-requires-clause-address : goal.load_page-requires-clause-address
load_page-requires-clause-address c = c.later-address.ensures ∙ next_page c.args.store.now.layout.limits c.args.range c.args.column c.args.first c.requires.first

pub load_page-requires-clause-below : goal.load_page-requires-clause-below
load_page-requires-clause-below c = subst (λ n. n < words_of c.args.store.now.layout.limits) (sym c.later-address.ensures) (next_page_low c.args.store.now.layout.limits c.args.range c.args.column c.args.first c.requires.first (subst (λ (l : Limits). addresses.IsWithin l (DirectoryWord c.args.range c.args.column)) c.requires.seat.limits c.requires.within.1))

pub returns-clause-looked : goal.returns-clause-looked
returns-clause-looked c = page_looked _ _ _ _ _ _ c.requires.host c.requires.own c.load_page.ensures.met
