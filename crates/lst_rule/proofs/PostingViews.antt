-- What a session knows after a few steps of a posting.
use Rattle.std.proofs.Common.{◌≡◌, ℕ, ◌<◌, List, [], ◌++◌, Bool, true, false, refl, sym, subst, ap, ◌∙◌, append_assoc, append-nil, slice_index_or}
use Rattle.std.specs.List.{Contains}
use Rattle.std.proofs.lemmas.List.Elements.{All-nil, All-append, Contains-append_left}
use Rattle.lst_layout.specs.declared.limits.Limits.{Limits}
use Rattle.lst_layout.specs.Words.{Words, shown}
use Rattle.lst_core_state.specs.declared.known.Known.{Known}
use Rattle.lst_core_state.specs.declared.facts.Fact.{Fact}
use Rattle.lst_core_state.specs.declared.facts.Find.{Find}
use Rattle.lst_rule.specs.declared.view.View.{View}
use Rattle.lst_rule.specs.Rule.{knows, hosts}
use Rattle.lst_rule.specs.Learned.{Learns, Kept}
use Rattle.lst_rule.proofs.Learning.{learns_on, learns_same}
use Rattle.lst_rule.specs.Posting.{IsTailLoad, ChangesPostings, Posts}

-- ---- words

pub changes_same : (a b : Words) → b ≡ a → ChangesPostings a b
changes_same a b e = e ∙ (λ i. record a { postings = (sym e i).postings })

pub changes_to : (a b : Words) (f : ℕ → ℕ → ℕ) → b ≡ record a { postings = f } → ChangesPostings a b
changes_to a b f e = e ∙ (λ i. record a { postings = (sym e i).postings })

pub changes_on : (a b c : Words) → ChangesPostings a b → ChangesPostings b c → ChangesPostings a c
changes_on a b c e f = changes_to a c c.postings (f ∙ ap (λ (x : Words). record x { postings = c.postings }) e)

-- nothing was stored
pub kept_words : (v w : View) → w.limits ≡ v.limits → Kept v w → v.whole ≡ true → ChangesPostings (shown v.limits v.words) (shown w.limits w.words)
kept_words v w same k whole = changes_same (shown v.limits v.words) (shown w.limits w.words) (λ i. shown (same i) (k.words whole i))

-- ---- views

-- what the session knew, but for these
abbrev pub learnt : Known → ℕ → ℕ → List Fact → List Find → Known
learnt k posted unposted facts finds = record k {
  draft = record k.draft { posted = posted; unposted = unposted };
  facts = k.facts ++ facts;
  finds = k.finds ++ finds;
}

-- nothing changed
pub posts_none : (v : View) (s : ℕ) → Posts v v s
posts_none v s = let k : Known = knows v s in record {
  facts = [];
  finds = [];
  posted = k.draft.posted;
  unposted = k.draft.unposted;
  view = subst (Learns v v s) (λ i. record k { facts = sym (append-nil k.facts) i; finds = sym (append-nil k.finds) i }) (learns_same v s);
  loads = All-nil IsTailLoad;
  words = λ whole. changes_same (shown v.limits v.words) (shown v.limits v.words) refl;
}

-- and what changed in two steps
pub posts_on : (u v w : View) (s : ℕ) → Posts u v s → Posts v w s → Posts u w s
posts_on u v w s a b = let k : Known = knows u s in record {
  facts = a.facts ++ b.facts;
  finds = a.finds ++ b.finds;
  posted = b.posted;
  unposted = b.unposted;
  view = subst (Learns u w s) (λ i. record k {
    draft = record k.draft { posted = b.posted; unposted = b.unposted };
    facts = append_assoc k.facts a.facts b.facts i;
    finds = append_assoc k.finds a.finds b.finds i;
  }) (subst (λ (z : Known). Learns u w s (learnt z b.posted b.unposted b.facts b.finds)) a.view.now (learns_on u v w s _ _ a.view b.view));
  loads = All-append IsTailLoad a.finds b.finds a.loads b.loads;
  words = λ whole. changes_on (shown u.limits u.words) (shown v.limits v.words) (shown w.limits w.words) (a.words whole) (b.words (a.view.whole ∙ whole));
}

module _ (v w : View) (s : ℕ) (a : Posts v w s) where
  pub posts_facts : (f : Fact) → Contains (knows v s).facts f → Contains (knows w s).facts f
  posts_facts f h = subst (λ (k : Known). Contains k.facts f) (sym a.view.now) (Contains-append_left (knows v s).facts a.facts f h)

  pub posts_hold : (knows w s).hold ≡ (knows v s).hold
  posts_hold = ap (λ (k : Known). k.hold) a.view.now

  pub posts_host : hosts v s ≡ true → hosts w s ≡ true
  posts_host h = ap (λ (bs : List Bool). slice_index_or bs s false) a.view.hosted ∙ h

  pub posts_own : s < v.limits.sessions → s < w.limits.sessions
  posts_own h = subst (λ (l : Limits). s < l.sessions) (sym a.view.limits) h
