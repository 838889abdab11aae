-- What a load of the clock and a try for the turn tell.
use Rattle.std.proofs.Common.{sym, ◌≡◌, ℕ, ◌+◌, List, ◌++◌, ◌∷◌, true, cond, eqb, refl, subst, ◌∙◌, arith, ap, ◌<◌, ◌^◌, length, Bool, ne_eqb}
use Rattle.lst_layout.specs.declared.place.Place.TheVariants.{ClockWord, CommitWord}
use Rattle.lst_layout.specs.Addresses.{address}
use Rattle.lst_layout.specs.Words.{Words, shown}
use Rattle.lst_model.specs.declared.commits.Commit.{Commit}
use Rattle.lst_model.specs.Histories.{Extends}
use Rattle.lst_core_state.specs.declared.events.Event.TheVariants.{Look, Take}
use Rattle.lst_core_state.specs.declared.facts.Fact.{Fact}
use Rattle.lst_core_state.specs.declared.facts.Find.TheVariants.{FreshClock}
use Rattle.lst_core_state.specs.Facts.{early_find, index_facts}
use Rattle.lst_core_state.specs.State.{history_of, mine}
use Rattle.lst_core_state.specs.Step.{refreshed, took, held_off}
use Rattle.lst_core_state.proofs.Histories.{starts_length}
use Rattle.lst_rule.specs.declared.actions.Action.TheVariants.{Core}
use Rattle.lst_rule.specs.declared.view.View.{View}
use Rattle.lst_rule.specs.Rule.{knows, hosts, Told}
use Rattle.lst_rule.specs.Learned.{Learns, Met}
use Rattle.lst_rule.proofs.Knowing.{is_seen, clock_is, knows_own}
use Rattle.lst_rule.proofs.Learning.{kept_by}
use Rattle.lst_rule.specs.Stores.{Looked, Clocked, Tried}

pub clocked : (v w : View) (s x : ℕ) → hosts v s ≡ true → Looked v w s ClockWord x → Clocked v w s x
clocked v w s x hosted k = record {
  all = all;
  index = index;
  grows = grows;
  clock = c.0 ∙ found;
  few = (let few = c.1 in let e = found in omega arith);
  view = view;
  looked = k;
  history = refl;
  records = refl;
  least = (let h = starts_length all (knows v s).seen grows in let e = c.0 ∙ found in omega arith);
  own = λ low. ap (mine s) view.now ∙ (sym (t.allowed.sound.views s low).own ∙ ap (mine s) (sym (knows_own v t.words t.known t.merger t.allowed s hosted (λ f. omega arith))));
}
  where
    t : Told (Core (Look s (address v.limits ClockWord))) (address v.limits ClockWord) x v w
    t = k.met.made.told

    W : Words
    W = shown v.limits t.words

    all : List Commit
    all = history_of v.limits W

    index : List Fact
    index = index_facts v.limits W

    grows : Extends all (knows v s).seen
    grows = is_seen v t.words t.known t.merger t.allowed s hosted

    c : (length all ≡ W.clock) × (W.clock < 2 ^ 32)
    c = clock_is v t.words t.known t.merger t.allowed

    found : W.clock ≡ x
    found = k.met.found

    view : Learns v w s (record (knows v s) { seen = all; turn = refreshed (knows v s).turn; facts = (knows v s).facts ++ index; finds = (knows v s).finds ++ FreshClock (length all) ∷ early_find (knows v s) (length all) })
    view = subst (λ (y : ℕ). Learns v w s (record (knows v s) { seen = all; turn = refreshed (knows v s).turn; facts = (knows v s).facts ++ index; finds = (knows v s).finds ++ FreshClock y ∷ early_find (knows v s) y })) (sym c.0) k.view

pub tried : (v w : View) (s x : ℕ) → Met v w (Take s) CommitWord (cond (eqb x 0) (s + 1) x) x → Tried v w s x
tried v w s x m = record {
  met = m;
  view = subst (λ (y : ℕ). Learns v w s (cond (eqb y 0) (took (knows v s)) (held_off (knows v s)))) m.found m.made.view;
  kept = λ lost. kept_by v w (Take s) CommitWord x (subst (λ (b : Bool). Met v w (Take s) CommitWord (cond b (s + 1) x) x) (ne_eqb x 0 (λ e. omega arith)) m);
}
