use Rattle.std.proofs.Common.{ℕ, ◌+◌, ◌<◌, sym, subst}
use Rattle.lst_rule.proofs.Paging.{frame_loaded}
use Rattle.lst_rule.proofs.Wholes.{word_low, word_seen}
use Rattle.lst_rule.proofs.frames.load_frame_from.Goals as goal

pub later-address-requires : goal.later-address-requires
later-address-requires c = subst (λ (k : ℕ). c.args.first + c.args.place < k) (sym c.args.store.now.layout.counted) (word_low c.args.store.now c.args.seat.now c.requires.seat c.args.frame c.args.place c.requires.frame c.requires.place c.args.first c.requires.first)

pub load_quietly-requires-clause-place : goal.load_quietly-requires-clause-place
load_quietly-requires-clause-place c = (c.requires.frame, c.requires.place)

pub load_quietly-requires-clause-address : goal.load_quietly-requires-clause-address
load_quietly-requires-clause-address c = word_seen c.args.store.now c.args.seat.now c.requires.seat c.args.frame c.args.place c.requires.frame c.requires.place c.args.first c.requires.first _ c.later-address.ensures

pub returns-clause-loaded : goal.returns-clause-loaded
returns-clause-loaded c = frame_loaded _ _ c.args.s c.args.frame c.args.place c.load_quietly.result c.requires.host (c.requires.frame, c.requires.place) c.load_quietly.ensures.looked
