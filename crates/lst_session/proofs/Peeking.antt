-- A look at words alone leaves the crew, and the state that it tells.
use Rattle.std.proofs.Common.{◌≡◌, ℕ, ◌<◌, ◌≤◌, List, true, Contains, refl, sym, subst, ap, ◌∙◌}
use Rattle.std.proofs.lemmas.List.Elements.{Contains-append_left}
use Rattle.lst_layout.specs.declared.limits.Limits.{Limits}
use Rattle.lst_core_state.specs.declared.facts.Fact.{Fact}
use Rattle.lst_core_state.specs.Cells.{record_count}
use Rattle.lst_core_state.specs.Index.{is_placed}
use Rattle.lst_core_state.specs.declared.known.Known.{Known}
use Rattle.lst_rule.specs.declared.view.View.{View}
use Rattle.lst_rule.specs.Rule.{knows}
use Rattle.lst_refinement.specs.Crews.{IsIdle}
use Rattle.lst_refinement.specs.Effects.{SameTransactions}
use Rattle.lst_history.specs.Peeks.{Peeked, Peeks}
use Rattle.lst_session.specs.Calls.{OnlyLooks}
use Rattle.lst_session.specs.Crews.{words_of, TellsState, store_told}
use Rattle.lst_session.proofs.Crewed.{kept_words, stamped_is, same_draws, told_stays}

peeked_idle : (u k : Known) → Peeked u k → IsIdle u → IsIdle k
peeked_idle u k p idle = subst IsIdle (sym p.is) record { rec = idle.rec; hold = idle.hold; turn = idle.turn }

peeked_transactions : (u k : Known) → Peeked u k → SameTransactions u k
peeked_transactions u k p = subst (SameTransactions u) (sym p.is) record { number = refl; begin = refl; read_only = refl; is_open = refl }

module _ (v w : View) (s : ℕ) (peeks : Peeks v w s) where
  pub only_looks : OnlyLooks v w s
  only_looks = let e = peeks.peeked.is in record {
    called = record {
      learns = peeks.learns;
      seen = (peeks.peeked.later, ap (λ (k : Known). k.seen) e);
      facts = λ f has. subst (λ (fs : List Fact). Contains fs f) (sym (ap (λ (k : Known). k.facts) e)) (Contains-append_left (knows v s).facts peeks.peeked.facts f has);
      finds = (peeks.peeked.finds, ap (λ (k : Known). k.finds) e);
    };
    same = record { transaction = peeked_transactions (knows v s) (knows w s) peeks.peeked; own = ap (λ (k : Known). k.own) e; mine = peeks.own };
    pins = record { pins = ap (λ (k : Known). k.pages.pins) e; pin = ap (λ (k : Known). k.pages.session.pin) e ∙ peeks.peeked.pin };
    lists = record { drawn = ap (λ (k : Known). k.placing.drawn) e; latched = ap (λ (k : Known). k.latched) e; done = ap (λ (k : Known). k.done) e };
  }

  pub idle_still : IsIdle (knows v s) → IsIdle (knows w s)
  idle_still idle = peeked_idle (knows v s) (knows w s) peeks.peeked idle

  module _ (whole : v.whole ≡ true) where
    same_words : words_of w ≡ words_of v
    same_words = kept_words v w peeks.learns.limits peeks.kept whole

    pub told_still : store_told w ≡ store_told v
    told_still = told_stays v w s (knows w s) peeks.learns (peeked_transactions (knows v s) (knows w s) peeks.peeked) (stamped_is (words_of v) (words_of w) same_words)

    pub tells_still : TellsState v → TellsState w
    tells_still tells = let draws = same_draws (words_of v) (words_of w) same_words in record {
      whole = peeks.learns.whole ∙ tells.whole;
      records = subst (λ (l : Limits). (words_of w).counter ≤ record_count l) (sym peeks.learns.limits) (subst (λ (n : ℕ). n ≤ record_count v.limits) (sym draws.counter) tells.records);
      placed = λ r low. (λ i. is_placed (peeks.learns.limits i) (draws.index i) r) ∙ tells.placed r (subst (λ (n : ℕ). r < n) draws.counter low);
      tails = λ range low. subst (λ (l : Limits). (words_of w).counts range ≤ l.tails) (sym peeks.learns.limits)
          (subst (λ (f : ℕ → ℕ). f range ≤ v.limits.tails) (sym draws.counts) (tells.tails range (subst (λ (l : Limits). range < l.ranges) peeks.learns.limits low)));
    }
