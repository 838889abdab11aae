-- A tail in hand that is whole, and its posting.
use Rattle.std.proofs.Common.{◌≡◌, ℕ, ◌+◌, ◌*◌, List, sym, subst, ap, ◌∙◌, Contains}
use Rattle.lst_layout.specs.declared.limits.Limits.{Limits}
use Rattle.lst_model.specs.declared.acts.Act.{Act}
use Rattle.lst_core_state.specs.declared.known.Known.{Known}
use Rattle.lst_core_state.specs.declared.known.Hold.{Hold}
use Rattle.lst_core_state.specs.declared.facts.Fact.TheVariants.{CellIs}
use Rattle.lst_core_state.specs.Cells.{range_of}
use Rattle.lst_core_state.specs.State.{name_of}
use Rattle.lst_rule.specs.declared.view.View.{View}
use Rattle.lst_rule.specs.Rule.{knows}
use Rattle.lst_rule.specs.Posting.{HasTail, Posts}
use Rattle.lst_rule.proofs.PostingViews.{posts_facts, posts_hold}
use Rattle.lst_write.specs.Appending.{HasWhole}

-- facts say which words it holds
pub has_tail : (l : Limits) (k : Known) (s rec head n : ℕ) (act : Act) → HasWhole l k s rec head n act → HasTail k
has_tail l k s rec head n act h = record {
  whole = ap (λ (x : Hold). x.is_whole) h.hold;
  encoding = h.encoding;
  values = h.values;
  words = (name_of s k.number, head, subst (λ (t : ℕ). Contains k.facts (CellIs t (name_of s k.number) h.encoding head h.values)) (sym (ap (λ (x : Hold). x.tail) h.hold)) h.stored);
}

-- it stays whole while it is posted
pub posts_whole : (v w : View) (s rec head n : ℕ) (act : Act) → Posts v w s → HasWhole v.limits (knows v s) s rec head n act → HasWhole w.limits (knows w s) s rec head n act
posts_whole v w s rec head n act p h = subst (λ (l : Limits). HasWhole l (knows w s) s rec head n act) (sym p.view.limits) record {
  hold = posts_hold v w s p ∙ h.hold;
  encoding = h.encoding;
  values = h.values;
  stored = posts_facts v w s p (CellIs (range_of rec * v.limits.tails + n) (name_of s (knows w s).number) h.encoding head h.values)
      (subst (λ (x : ℕ). Contains (knows v s).facts (CellIs (range_of rec * v.limits.tails + n) (name_of s x) h.encoding head h.values)) (sym (ap (λ (k : Known). k.number) p.view.now)) h.stored);
  says = h.says;
}
