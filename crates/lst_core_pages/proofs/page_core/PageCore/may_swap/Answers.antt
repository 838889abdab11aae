use Rattle.std.proofs.Common.{rules, ◌≡◌, ◌<◌, ◌≤◌, ℕ, List, slice_index, sym, subst, ◌∙◌, arith}
use Rattle.lst_layout.specs.declared.TheConstants.{FRAME_WORDS}
use Rattle.lst_pages.specs.declared.tails.PageTail.{PageTail}
use Rattle.lst_pages.specs.Pages.{IsRightPage}
use Rattle.lst_pages.proofs.Pages.{right_same}
use Rattle.lst_core_pages.specs.Cells.{Cells, pages_of}
use Rattle.lst_core_pages.proofs.Readings.{tails_read}
use Rattle.lst_core_pages.proofs.page_core.PageCore.may_swap.Goals as goal

pub returns-then-new-self : goal.returns-then-new-self
returns-then-new-self c = let m : Cells = record { limits = c.self.inside.layout.limits; row = c.self.inside.words.items; hands = c.self.inside.hands.items; tails = c.self.inside.tails.items; queue = c.self.inside.queue } in let v = c.args.self.now in let column : ℕ = c.args.column in
    let ts : List PageTail = (pages_of v).tails c.args.range in let words : ℕ → ℕ = (pages_of v).words.frames c.args.frame in let found : ℕ → ℕ = slice_index c.frame-new.result.now in
    let tails : c.items.result.now ≡ ts = c.items.ensures ∙ tails_read m v c.self.view_is c.self.invariant c.args.range column c.requires.page c.index.result.now c.index.ensures in
    let new = c.frame-new.ensures.words 0 (omega arith) in let old = c.frame-old.ensures.words 0 (omega arith) in let frame = c.frame_of.ensures.frame in (
      (λ is. record {
        right = right_same column ts found words (λ n low. sym (c.frame-new.ensures.words n low)) (subst (λ (us : List PageTail). IsRightPage column us found) tails (c.is_right.ensures.0 is));
        more = search rules;
        few = search rules;
      }),
      (λ may. c.is_right.ensures.1 (subst (λ (us : List PageTail). IsRightPage column us found) (sym tails) (right_same column ts words found c.frame-new.ensures.words may.right))),
    )
