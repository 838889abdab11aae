-- What the merger alone learnt over several calls.
use Rattle.std.proofs.Common.{◌≡◌, ◌⊎◌, ◌++◌, [], sym, subst, ap, ◌∙◌, inl, append_assoc, append-nil}
use Rattle.lst_layout.specs.declared.limits.Limits.{Limits}
use Rattle.lst_model.specs.Histories.{Extends}
use Rattle.lst_core_state.specs.declared.known.Known.{Known}
use Rattle.lst_core_state.specs.declared.pages.MergerFrames.{MergerFrames}
use Rattle.lst_core_state.specs.Step.{refreshed}
use Rattle.lst_core_state.proofs.Histories.{starts_trans, starts_whole}
use Rattle.lst_rule.specs.declared.view.View.{View}
use Rattle.lst_rule.specs.Rule.{knows}
use Rattle.lst_rule.specs.Learned.{Learns}
use Rattle.lst_rule.specs.PageSteps.{with_stock, StockIs, stock_of}
use Rattle.lst_rule.proofs.Learning.{learns_on}
use Rattle.lst_merge.specs.Inspections.{merger_of, inspected, Inspects}
use Rattle.lst_session.specs.Merges.{MergerLearns}
use Rattle.lst_merge.proofs.Ending.{stock_inspected, merger_later}
use Rattle.lst_merge.proofs.Inspecting.{turns_on}

pub learnt_inspected : (v w : View) → Inspects v w v.limits.sessions → MergerLearns v w
learnt_inspected v w i = record {
  facts = i.facts;
  finds = i.finds;
  view = subst (Learns v w v.limits.sessions) (λ j. with_stock (inspected (merger_of v) (later j) i.facts i.finds) (sym (stock_inspected v w i) j)) i.view;
  grows = subst (λ (k : Known). Extends k.seen (merger_of v).seen) later i.grows;
  turn = subst (λ (k : Known). (k.turn ≡ (merger_of v).turn) ⊎ (k.turn ≡ refreshed (merger_of v).turn)) later i.turn;
}
  where
    later : knows w v.limits.sessions ≡ merger_of w
    later = merger_later v w i

-- where only its stock changed
pub learnt_stock : (v w : View) (m : MergerFrames) → StockIs v w m → MergerLearns v w
learnt_stock v w m a = record {
  facts = [];
  finds = [];
  view = subst (Learns v w v.limits.sessions) (λ j. record (merger_of v) {
    seen = (sym is j).seen;
    turn = (sym is j).turn;
    counters = (sym is j).counters;
    facts = sym (append-nil (merger_of v).facts) j;
    finds = sym (append-nil (merger_of v).finds) j;
    looks = (sym is j).looks;
    pages = record (merger_of v).pages { stock = (sym is j).pages.stock };
  }) a;
  grows = starts_whole (merger_of w).seen (merger_of v).seen (ap (λ (k : Known). k.seen) is);
  turn = inl (ap (λ (k : Known). k.turn) is);
}
  where
    is : merger_of w ≡ with_stock (merger_of v) m
    is = ap (λ (l : Limits). knows w l.sessions) a.limits ∙ a.now

pub learnt_on : (u v w : View) → MergerLearns u v → MergerLearns v w → MergerLearns u w
learnt_on u v w a b = record {
  facts = a.facts ++ b.facts;
  finds = a.finds ++ b.finds;
  view = subst (Learns u w u.limits.sessions) (λ j. record (merger_of u) {
    seen = (merger_of w).seen;
    turn = (merger_of w).turn;
    counters = (merger_of w).counters;
    facts = append_assoc (merger_of u).facts a.facts b.facts j;
    finds = append_assoc (merger_of u).finds a.finds b.finds j;
    looks = (merger_of w).looks;
    pages = record (merger_of u).pages { stock = stock_of w };
  }) (learns_on u v w u.limits.sessions _ _ a.view
      (subst (Learns v w u.limits.sessions) (λ j. with_stock (inspected (is j) (merger_of w) b.facts b.finds) (stock_of w)) (subst (λ (l : Limits). Learns v w l.sessions (with_stock (inspected (merger_of v) (merger_of w) b.facts b.finds) (stock_of w))) a.view.limits b.view)));
  grows = starts_trans (merger_of w).seen (merger_of v).seen (merger_of u).seen b.grows a.grows;
  turn = turns_on (merger_of u).turn (merger_of v).turn (merger_of w).turn a.turn b.turn;
}
  where
    is : merger_of v ≡ with_stock (inspected (merger_of u) (merger_of v) a.facts a.finds) (stock_of v)
    is = ap (λ (l : Limits). knows v l.sessions) a.view.limits ∙ a.view.now

-- its finds grow
pub learnt_finds : (v w : View) (a : MergerLearns v w) → (merger_of w).finds ≡ (merger_of v).finds ++ a.finds
learnt_finds v w a = ap (λ (l : Limits). (knows w l.sessions).finds) a.view.limits ∙ ap (λ (k : Known). k.finds) a.view.now
