-- Tails that are known to be settled, and what the facts about them say in each state that a view allows.
use Rattle.std.proofs.Common.{◌≡◌, ℕ, zero, suc, ◌+◌, ◌/◌, ◌%◌, ◌≤◌, List, true, length, Contains, sym, subst, ◌∙◌, arith, inl, inr}
use Rattle.lst_layout.specs.Words.{Words, shown}
use Rattle.lst_core_state.specs.declared.facts.Fact.{Fact}
use Rattle.lst_core_state.specs.declared.facts.Fact.TheVariants.{StateAt, CellIs, CommitAt}
use Rattle.lst_core_state.specs.declared.known.Known.{Known}
use Rattle.lst_core_state.specs.Facts.{IsFact}
use Rattle.lst_core_state.specs.State.{state_over, history_of}
use Rattle.lst_core_state.proofs.Histories.{starts_length}
use Rattle.lst_pages.specs.declared.tails.PageTail.{PageTail}
use Rattle.lst_pages.specs.Settled.{tail_by}
use Rattle.lst_pages.specs.StateLaws.{IsSettledAs}
use Rattle.lst_pages.proofs.Numbering.{facts_settle, commits_settle}
use Rattle.lst_rule.specs.declared.view.View.{View}
use Rattle.lst_rule.specs.Rule.{knows, hosts, Allowed}
use Rattle.lst_rule.proofs.Knowing.{is_fact, is_seen, clock_is}
use Rattle.lst_merge.specs.Inspections.{Inspects}
use Rattle.lst_merge.specs.Runs.{IsEnded, KnowsSettled, HasSettled}
use Rattle.lst_merge.proofs.Inspecting.{facts_stay}

module _ (v : View) (words : List ℕ) (known : ℕ → Known) (merger : Known) (may : Allowed v words known merger) (s : ℕ) (hosted : hosts v s ≡ true) where
  abbrev W : Words
  W = shown v.limits words

  abbrev fact : (f : Fact) → Contains (knows v s).facts f → IsFact v.limits (shown v.limits words) f
  fact = is_fact v words known merger may s hosted

  -- what was seen has happened
  pub seen_low : (n : ℕ) → n ≤ length (knows v s).seen → n ≤ (shown v.limits words).clock
  seen_low n low = let most = starts_length (history_of v.limits W) (knows v s).seen (is_seen v words known merger may s hosted) in let all = (clock_is v words known merger may).0 in omega arith

  -- a tail that is known to be settled is so
  pub settles_as : (t : ℕ) (tail : PageTail) → KnowsSettled (knows v s) t tail → IsSettledAs v.limits (shown v.limits words) t tail
  settles_as t tail k = subst (IsSettledAs v.limits W t) (sym k.is) (go tail.time k.ended)
    where
      cell : IsFact v.limits W (CellIs t k.writer k.encoding k.back k.values)
      cell = fact (CellIs t k.writer k.encoding k.back k.values) k.cell

      go : (n : ℕ) → IsEnded (knows v s) k.writer n → IsSettledAs v.limits W t (tail_by k.encoding k.values n)
      go zero ended = (facts_settle v.limits W t k.writer k.encoding k.back k.values cell).0 (fact (StateAt (k.writer % 16) (k.writer / 16) 1) ended)
      go (suc n) (inl h) = (facts_settle v.limits W t k.writer k.encoding k.back k.values cell).1 (suc n) (omega arith) (seen_low (suc n) h.0) (fact (StateAt (k.writer % 16) (k.writer / 16) (suc n + 1)) h.1)
      go (suc n) (inr h) = commits_settle (state_over v.limits words known merger) may.sound t k.writer k.encoding k.back k.values (suc n) cell (fact (CommitAt (suc n) (k.writer % 16) (k.writer / 16)) h)

  -- so what a page folds of it is told
  pub settled_same : (t : ℕ) (a b : PageTail) → KnowsSettled (knows v s) t a → KnowsSettled (knows v s) t b → a ≡ b
  settled_same t a b k h = sym (settles_as t a k).is ∙ (settles_as t b h).is

-- with more facts it stays
pub settled_more : (u v : Known) (t : ℕ) (tail : PageTail) → ((f : Fact) → Contains u.facts f → Contains v.facts f) → length u.seen ≤ length v.seen → KnowsSettled u t tail → KnowsSettled v t tail
settled_more u v t tail facts seen k = record {
  writer = k.writer;
  encoding = k.encoding;
  back = k.back;
  values = k.values;
  cell = facts (CellIs t k.writer k.encoding k.back k.values) k.cell;
  ended = go tail.time k.ended;
  is = k.is;
}
  where
    go : (n : ℕ) → IsEnded u k.writer n → IsEnded v k.writer n
    go zero ended = facts (StateAt (k.writer % 16) (k.writer / 16) 1) ended
    go (suc n) (inl h) = let low = h.0 in inl ((omega arith), facts (StateAt (k.writer % 16) (k.writer / 16) (suc n + 1)) h.1)
    go (suc n) (inr h) = inr (facts (CommitAt (suc n) (k.writer % 16) (k.writer / 16)) h)

module _ (v w : View) (s : ℕ) (a : Inspects v w s) where
  pub seen_stays : length (knows v s).seen ≤ length (knows w s).seen
  seen_stays = starts_length (knows w s).seen (knows v s).seen a.grows

  pub settled_stays : (t : ℕ) (tail : PageTail) → KnowsSettled (knows v s) t tail → KnowsSettled (knows w s) t tail
  settled_stays t tail k = settled_more (knows v s) (knows w s) t tail (facts_stay v w s a) seen_stays k

  pub has_stays : (t : ℕ) → HasSettled (knows v s) t → HasSettled (knows w s) t
  has_stays t h = (h.0, settled_stays t h.0 h.1)
