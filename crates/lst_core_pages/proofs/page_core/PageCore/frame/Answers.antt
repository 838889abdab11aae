use Rattle.std.proofs.Common.{◌≤◌, ◌+◌, ℕ, length, List, ap, sym, subst, ◌∙◌, slice_range}
use Rattle.lst_core_pages.specs.Cells.{Cells}
use Rattle.lst_layout.specs.declared.TheConstants.{FRAME_WORDS}
use Rattle.lst_core_pages.proofs.Readings.{frame_fits, frame_words}
use Rattle.lst_core_pages.proofs.page_core.PageCore.frame.Goals as goal

pub frame_from-requires : goal.frame_from-requires
frame_from-requires c = let m : Cells = record { limits = c.self.inside.layout.limits; row = c.self.inside.words.items; hands = c.self.inside.hands.items; tails = c.self.inside.tails.items; queue = c.self.inside.queue } in
    subst (λ (ws : List ℕ). c.frames.result + FRAME_WORDS ≤ length ws) (sym c.as_slice.ensures.value) (frame_fits m c.args.self.now c.self.view_is c.self.invariant c.args.frame c.frames.result c.requires c.frames.ensures.address)

pub returns-clause-words : goal.returns-clause-words
returns-clause-words c = let m : Cells = record { limits = c.self.inside.layout.limits; row = c.self.inside.words.items; hands = c.self.inside.hands.items; tails = c.self.inside.tails.items; queue = c.self.inside.queue } in
    frame_words m c.args.self.now c.self.view_is c.self.invariant c.args.frame c.frames.result c.requires c.frames.ensures.address c.frame_from.result.now
    (c.frame_from.ensures.part ∙ ap (λ (ws : List ℕ). slice_range ws c.frames.result (c.frames.result + FRAME_WORDS)) c.as_slice.ensures.value)
