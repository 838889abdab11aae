use Rattle.std.proofs.Common.{◌≡◌, length, List, Option, ap, sym, subst, ◌∙◌}
use Rattle.lst_core_pages.specs.declared.hands.PageId.{PageId}
use Rattle.lst_core_pages.specs.Cells.{Cells, IsCore, HandsFit, found_in, hands_after}
use Rattle.lst_core_pages.proofs.Readings.{found_at, numbers_at, writes, hands_fit, queue_fits, makes, made_core, same_step, written_back}
use Rattle.lst_core_pages.proofs.page_core.PageCore.make.Goals as goal

pub written-requires : goal.written-requires
written-requires c = let m : Cells = record { limits = c.self.inside.layout.limits; row = c.self.inside.words.items; hands = c.self.inside.hands.items; tails = c.self.inside.tails.items; queue = c.self.inside.queue } in let v = c.args.self.now in let e = c.args.event in
    writes m v c.self.view_is c.self.invariant e c.requires.within c.requires.enabled _ (numbers_at m v c.self.view_is c.self.invariant e c.requires.within c.requires.enabled c.epoch.result c.index.result.now c.built.result c.epoch.ensures.address c.index.ensures c.built.ensures)

pub change_hands-requires : goal.change_hands-requires
change_hands-requires c = let m : Cells = record { limits = c.self.inside.layout.limits; row = c.self.inside.words.items; hands = c.self.inside.hands.items; tails = c.self.inside.tails.items; queue = c.self.inside.queue } in let v = c.args.self.now in let e = c.args.event in
    let found = found_at m v c.self.view_is c.self.invariant e c.requires.within c.requires.enabled c.target-word.result c.index-found.result.now c.target-word.ensures.address c.index-found.ensures in
    subst (λ (hs : List (List (Option PageId))). HandsFit hs e c.index-found.result.now) (sym c.as_mut_slice.ensures.value) (hands_fit m v c.self.view_is c.self.invariant e c.requires.within c.requires.enabled c.index-found.result.now found)

pub change-requires : goal.change-requires
change-requires c = let m : Cells = record { limits = c.self.inside.layout.limits; row = c.self.inside.words.items; hands = c.self.inside.hands.items; tails = c.self.inside.tails.items; queue = c.self.inside.queue } in let v = c.args.self.now in let e = c.args.event in
    let found = found_at m v c.self.view_is c.self.invariant e c.requires.within c.requires.enabled c.target-word.result c.index-found.result.now c.target-word.ensures.address c.index-found.ensures in
    queue_fits m v c.self.view_is c.self.invariant e c.requires.within c.requires.enabled c.index-found.result.now found

pub invariant_of-self : goal.invariant_of-self
invariant_of-self c = let m : Cells = record { limits = c.self.inside.layout.limits; row = c.self.inside.words.items; hands = c.self.inside.hands.items; tails = c.self.inside.tails.items; queue = c.self.inside.queue } in let v = c.args.self.now in let e = c.args.event in
    let found = found_at m v c.self.view_is c.self.invariant e c.requires.within c.requires.enabled c.target-word.result c.index-found.result.now c.target-word.ensures.address c.index-found.ensures in
    let numbers = numbers_at m v c.self.view_is c.self.invariant e c.requires.within c.requires.enabled c.epoch.result c.index.result.now c.built.result c.epoch.ensures.address c.index.ensures c.built.ensures in
    let long : length c.self.inside.hands.items ≡ c.self.inside.hands.len = ap length (sym c.as_mut_slice.ensures.value) ∙ c.as_mut_slice.ensures.len in
    let back = written_back c.self.inside.hands.len c.self.inside.hands.items c.change_hands.new.hands long (c.change_hands.auto.hands ∙ c.as_mut_slice.ensures.len) in
    let hands = back ∙ c.change_hands.ensures ∙ ap (λ (hs : List (List (Option PageId))). hands_after hs e c.index-found.result.now) c.as_mut_slice.ensures.value in
    let made = makes m v c.self.view_is c.self.invariant e c.requires.within c.requires.enabled c.target-word.result c.index-found.result.now c.written.result _ c.change.new.self c.target-word.ensures.address found _ numbers c.written.ensures hands c.change.ensures in
    subst IsCore (sym made) (made_core m v c.self.view_is c.self.invariant e c.requires.within c.requires.enabled)

pub returns-clause-stepped : goal.returns-clause-stepped
returns-clause-stepped c = let m : Cells = record { limits = c.self.inside.layout.limits; row = c.self.inside.words.items; hands = c.self.inside.hands.items; tails = c.self.inside.tails.items; queue = c.self.inside.queue } in let v = c.args.self.now in let e = c.args.event in
    let found = found_at m v c.self.view_is c.self.invariant e c.requires.within c.requires.enabled c.target-word.result c.index-found.result.now c.target-word.ensures.address c.index-found.ensures in
    let numbers = numbers_at m v c.self.view_is c.self.invariant e c.requires.within c.requires.enabled c.epoch.result c.index.result.now c.built.result c.epoch.ensures.address c.index.ensures c.built.ensures in
    let long : length c.self.inside.hands.items ≡ c.self.inside.hands.len = ap length (sym c.as_mut_slice.ensures.value) ∙ c.as_mut_slice.ensures.len in
    let back = written_back c.self.inside.hands.len c.self.inside.hands.items c.change_hands.new.hands long (c.change_hands.auto.hands ∙ c.as_mut_slice.ensures.len) in
    let hands = back ∙ c.change_hands.ensures ∙ ap (λ (hs : List (List (Option PageId))). hands_after hs e c.index-found.result.now) c.as_mut_slice.ensures.value in
    let made = makes m v c.self.view_is c.self.invariant e c.requires.within c.requires.enabled c.target-word.result c.index-found.result.now c.written.result _ c.change.new.self c.target-word.ensures.address found _ numbers c.written.ensures hands c.change.ensures in
    made ∙ same_step m v c.self.view_is c.self.invariant e c.requires.within c.requires.enabled

pub returns-clause-found : goal.returns-clause-found
returns-clause-found c = let m : Cells = record { limits = c.self.inside.layout.limits; row = c.self.inside.words.items; hands = c.self.inside.hands.items; tails = c.self.inside.tails.items; queue = c.self.inside.queue } in let v = c.args.self.now in let e = c.args.event in
    found_at m v c.self.view_is c.self.invariant e c.requires.within c.requires.enabled c.target-word.result c.index-found.result.now c.target-word.ensures.address c.index-found.ensures ∙ ap (λ (u : Cells). found_in u e) c.self.view_is
