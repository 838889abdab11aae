use Rattle.std.proofs.Common.{◌≡◌, ℕ, true, sym, subst}
use Rattle.lst_layout.specs.declared.place.Place.TheVariants.{DirectoryWord}
use Rattle.lst_rule.specs.Rule.{hosts}
use Rattle.lst_rule.specs.Stores.{Looked}
use Rattle.lst_merge.proofs.Ending.{frame_low, frame_is}
use Rattle.lst_merge.proofs.Statuses.{merger_is}
use Rattle.lst_merge.proofs.frames.page_frame.Goals as goal

pub load_directory-requires-clause-host : goal.load_directory-requires-clause-host
load_directory-requires-clause-host c = subst (λ (j : ℕ). hosts c.args.seat.now.view j ≡ true) (sym (merger_is c.args.store.now c.args.seat.now _ c.requires.seat c.layout.ensures)) c.requires.host

pub load_directory-requires-clause-place : goal.load_directory-requires-clause-place
load_directory-requires-clause-place c = c.requires.page

pub returns-clause-looked : goal.returns-clause-looked
returns-clause-looked c = subst (λ (j : ℕ). Looked c.args.seat.now.view c.load_directory.new.seat.view j (DirectoryWord c.args.range c.args.column) c.load_directory.result) (merger_is c.args.store.now c.args.seat.now _ c.requires.seat c.layout.ensures) c.load_directory.ensures.looked

pub returns-clause-frame : goal.returns-clause-frame
returns-clause-frame c = frame_is c.args.seat.now.view c.load_directory.new.seat.view _ c.args.range c.args.column c.load_directory.result (merger_is c.args.store.now c.args.seat.now _ c.requires.seat c.layout.ensures) c.requires.host c.requires.page c.load_directory.ensures.looked

pub returns-clause-low : goal.returns-clause-low
returns-clause-low c = frame_low c.args.seat.now.view c.load_directory.new.seat.view _ c.args.range c.args.column c.load_directory.result (merger_is c.args.store.now c.args.seat.now _ c.requires.seat c.layout.ensures) c.requires.host c.requires.page c.load_directory.ensures.looked
