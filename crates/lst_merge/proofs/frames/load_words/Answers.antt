use Rattle.std.proofs.Common.{◌≡◌, ℕ, true, sym, subst, ap, ◌∙◌}
use Rattle.lst_pages.specs.Runs.{frame_known}
use Rattle.lst_rule.specs.Learned.{Learns}
use Rattle.lst_rule.specs.Rule.{knows, hosts}
use Rattle.lst_merge.proofs.Statuses.{merger_is}
use Rattle.lst_merge.proofs.frames.load_words.Goals as goal

pub load_frame_words-requires-clause-host : goal.load_frame_words-requires-clause-host
load_frame_words-requires-clause-host c = subst (λ (j : ℕ). hosts c.args.seat.now.view j ≡ true) (sym (merger_is c.args.store.now c.args.seat.now _ c.requires.seat c.layout.ensures)) c.requires.host

pub returns-clause-view : goal.returns-clause-view
returns-clause-view c = subst (λ (j : ℕ). Learns c.args.seat.now.view c.load_frame_words.new.seat.view j (knows c.args.seat.now.view j)) (merger_is c.args.store.now c.args.seat.now _ c.requires.seat c.layout.ensures) c.load_frame_words.ensures.found.view

pub returns-clause-words : goal.returns-clause-words
returns-clause-words c = let e = merger_is c.args.store.now c.args.seat.now _ c.requires.seat c.layout.ensures in
    λ place low. c.load_frame_words.ensures.found.own e place low ∙ ap (λ (j : ℕ). frame_known (knows c.args.seat.now.view j).pages.stock c.args.frame place) e
