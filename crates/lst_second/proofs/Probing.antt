-- What a session knows after a few loads along a value's run.
use Rattle.std.proofs.Common.{◌≡◌, ℕ, ◌<◌, List, [], ◌++◌, Bool, true, false, Contains, refl, sym, subst, ap, ◌∙◌, append_assoc, append-nil, slice_index_or}
use Rattle.std.proofs.lemmas.List.Elements.{All-nil, All-append, Contains-append_left}
use Rattle.lst_layout.specs.declared.limits.Limits.{Limits}
use Rattle.lst_core_state.specs.declared.known.Known.{Known}
use Rattle.lst_core_state.specs.declared.facts.Fact.{Fact}
use Rattle.lst_rule.specs.declared.view.View.{View}
use Rattle.lst_rule.specs.Rule.{knows, hosts}
use Rattle.lst_rule.specs.Learned.{Learns}
use Rattle.lst_rule.proofs.Learning.{learns_on, learns_same, kept_same, kept_on}
use Rattle.lst_rule.specs.Posting.{IsTailLoad}
use Rattle.lst_second.specs.Candidates.{Probes}
use Rattle.lst_rule.proofs.PostingViews.{learnt}

-- nothing changed
pub probes_none : (v : View) (s : ℕ) → Probes v v s
probes_none v s = let k : Known = knows v s in record {
  facts = [];
  finds = [];
  unposted = k.draft.unposted;
  view = subst (Learns v v s) (λ i. record k { facts = sym (append-nil k.facts) i; finds = sym (append-nil k.finds) i }) (learns_same v s);
  loads = All-nil IsTailLoad;
  still = λ _. refl;
  kept = kept_same v;
}

-- and what changed in two steps
pub probes_on : (u v w : View) (s : ℕ) → Probes u v s → Probes v w s → Probes u w s
probes_on u v w s a b = let k : Known = knows u s in record {
  facts = a.facts ++ b.facts;
  finds = a.finds ++ b.finds;
  unposted = b.unposted;
  view = subst (Learns u w s) (λ i. record k {
    draft = record k.draft { unposted = b.unposted };
    facts = append_assoc k.facts a.facts b.facts i;
    finds = append_assoc k.finds a.finds b.finds i;
  }) (subst (λ (z : Known). Learns u w s (learnt z z.draft.posted b.unposted b.facts b.finds)) a.view.now (learns_on u v w s _ _ a.view b.view));
  loads = All-append IsTailLoad a.finds b.finds a.loads b.loads;
  still = λ none. b.still (ap (λ (z : Known). z.hold.is_whole) a.view.now ∙ none) ∙ (ap (λ (z : Known). z.draft.unposted) a.view.now ∙ a.still none);
  kept = kept_on u v w a.view.whole a.kept b.kept;
}

module _ (v w : View) (s : ℕ) (a : Probes v w s) where
  pub probes_facts : (f : Fact) → Contains (knows v s).facts f → Contains (knows w s).facts f
  probes_facts f h = subst (λ (k : Known). Contains k.facts f) (sym a.view.now) (Contains-append_left (knows v s).facts a.facts f h)

  pub probes_host : hosts v s ≡ true → hosts w s ≡ true
  probes_host h = ap (λ (bs : List Bool). slice_index_or bs s false) a.view.hosted ∙ h

  pub probes_own : s < v.limits.sessions → s < w.limits.sessions
  probes_own h = subst (λ (l : Limits). s < l.sessions) (sym a.view.limits) h
