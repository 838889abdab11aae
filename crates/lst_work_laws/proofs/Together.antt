-- Sessions that are gathered, and one of which looked since.
use Rattle.std.proofs.Common.{◌≡◌, inl, ℕ, ◌<◌, List, [], ◌∷◌, ◌++◌, true, length, refl, sym, subst, ap, ◌∙◌, arith, append_assoc, append-nil}
use mathlib.Core.Logic.{dite}
use native.Mathlib.Decide.{ℕ_discrete}
use Rattle.std.specs.Prelude.{slice_index_or}
use Rattle.std.specs.List.{Contains}
use Rattle.std.proofs.lemmas.List.Elements.{Contains-append_left}
use Rattle.lst_layout.specs.declared.limits.Limits.{Limits}
use Rattle.lst_model.specs.Histories.{Extends}
use Rattle.lst_core_state.specs.declared.facts.Find.{Find}
use Rattle.lst_core_state.specs.declared.facts.Find.TheVariants.{FreshClock}
use Rattle.lst_core_state.specs.declared.known.Known.{Known}
use Rattle.lst_core_state.specs.Facts.{early_find}
use Rattle.lst_core_state.specs.State.{mine}
use Rattle.lst_rule.specs.declared.store.Store.{Store}
use Rattle.lst_rule.specs.declared.view.View.{View}
use Rattle.lst_rule.specs.Rule.{knows}
use Rattle.lst_replies.specs.Runs.{Answered}
use Rattle.lst_seat.specs.Seats.{HasSeenAll, history_in}
use Rattle.lst_refinement.specs.Crews.{IsIdle}
use Rattle.lst_session.specs.declared.crew.Crew.{Crew}
use Rattle.lst_session.specs.declared.session.Session.{Session}
use Rattle.lst_session.specs.Calls.{OnlyLooks}
use Rattle.lst_session.specs.Crews.{IsCrewOf, TakesStock, IsHistoryOfAll, store_told}
use Rattle.lst_session.specs.Parting.{known_by, IsGathered}
use Rattle.lst_session.proofs.Recounting.{hosts_all}
use Rattle.lst_work_laws.specs.Lives.{Stays}
use Rattle.lst_work_laws.specs.Laws.{is_latched_find, is_latched_cause, is_unfinished_find, is_unfinished_cause, is_full_table_find, is_full_table_cause, is_full_range_find, is_full_range_cause, Leaves}
use Rattle.lst_work_laws.specs.Legal.{HasOnlyLooked, AreTogether}
use Rattle.lst_work_laws.specs.Whole.{AreAll}
use Rattle.lst_work_laws.proofs.Leaving.{more_found, leaves_on}
use Rattle.lst_work_laws.proofs.Telling.{extends_on, same_told}

-- ---- one session

-- the clock was loaded
clocked_looked : (w : View) (s : ℕ) (k : Known) → HasSeenAll w s k → HasOnlyLooked s k (knows w s)
clocked_looked w s k x = let finds : List Find = FreshClock (length (history_in w)) ∷ early_find k (length (history_in w)) in record {
  same = record {
    transaction = record {
      number = ap (λ (u : Known). u.number) x.now;
      begin = ap (λ (u : Known). u.begin) x.now;
      read_only = ap (λ (u : Known). u.read_only) x.now;
      is_open = ap (λ (u : Known). u.is_open) x.now;
    };
    own = ap (λ (u : Known). u.own) x.now;
    mine = ap (mine s) x.now ∙ x.own;
  };
  lists = record {
    drawn = ap (λ (u : Known). u.placing.drawn) x.now;
    latched = ap (λ (u : Known). u.latched) x.now;
    done = ap (λ (u : Known). u.done) x.now;
  };
  pins = ap (λ (u : Known). u.pages.pins) x.now;
  hold = ap (λ (u : Known). u.hold) x.now;
  seen = subst (λ (u : Known). Extends u.seen k.seen) (sym x.now) x.grows;
  facts = subst (λ (u : Known). (f : _) → Contains k.facts f → Contains u.facts f) (sym x.now) (λ f h. Contains-append_left k.facts x.index f h);
  finds = (finds, ap (λ (u : Known). u.finds) x.now);
}

looks_looked : (v w : View) (s : ℕ) → OnlyLooks v w s → (knows w s).hold ≡ (knows v s).hold → HasOnlyLooked s (knows v s) (knows w s)
looks_looked v w s x hold = record {
  same = x.same;
  lists = x.lists;
  pins = x.pins.pins;
  hold = hold;
  seen = x.called.seen;
  facts = x.called.facts;
  finds = x.called.finds;
}

looked_on : (s : ℕ) (a b c : Known) → HasOnlyLooked s a b → HasOnlyLooked s b c → HasOnlyLooked s a c
looked_on s a b c x y = record {
  same = record {
    transaction = record {
      number = y.same.transaction.number ∙ x.same.transaction.number;
      begin = y.same.transaction.begin ∙ x.same.transaction.begin;
      read_only = y.same.transaction.read_only ∙ x.same.transaction.read_only;
      is_open = y.same.transaction.is_open ∙ x.same.transaction.is_open;
    };
    own = y.same.own ∙ x.same.own;
    mine = y.same.mine ∙ x.same.mine;
  };
  lists = record {
    drawn = y.lists.drawn ∙ x.lists.drawn;
    latched = y.lists.latched ∙ x.lists.latched;
    done = y.lists.done ∙ x.lists.done;
  };
  pins = y.pins ∙ x.pins;
  hold = y.hold ∙ x.hold;
  seen = extends_on a.seen b.seen c.seen x.seen y.seen;
  facts = λ f h. y.facts f (x.facts f h);
  finds = (x.finds.0 ++ y.finds.0, y.finds.1 ∙ (ap (λ (fs : List Find). fs ++ y.finds.0) x.finds.1 ∙ append_assoc a.finds x.finds.0 y.finds.0));
}

-- ---- what it leaves

pub looked_stays : (s : ℕ) (u k : Known) → HasOnlyLooked s u k → Stays s u k
looked_stays s u k x = record {
  facts = x.facts;
  finds = λ f h. subst (λ (fs : List Find). Contains fs f) (sym x.finds.1) (Contains-append_left u.finds x.finds.0 f h);
  seen = x.seen;
  state = same_told s u k x.same;
  mine = x.same.mine;
  drawn = x.lists.drawn;
  latched = x.lists.latched;
  done = x.lists.done;
}

looked_leaves : (s : ℕ) (u k : Known) → HasOnlyLooked s u k → Leaves s [] u k
looked_leaves s u k x = record {
  seen = x.seen;
  state = same_told s u k x.same;
  mine = x.same.mine ∙ sym (append-nil (mine s u));
  number = let e = x.same.transaction.number in omega arith;
  pins = let e = x.pins in omega arith;
  latches = more_found is_latched_find is_latched_cause u k x.finds.0 x.finds.1;
  unfinished = more_found is_unfinished_find is_unfinished_cause u k x.finds.0 x.finds.1;
  full_table = more_found is_full_table_find is_full_table_cause u k x.finds.0 x.finds.1;
  full_range = more_found is_full_range_find is_full_range_cause u k x.finds.0 x.finds.1;
  done = let e = ap length x.lists.done in omega arith;
  drawn = let e = ap length x.lists.drawn in omega arith;
  facts = x.facts;
  writes = λ deed at. inl (subst (λ (ds : List _). Contains ds deed) x.lists.done at);
  latched = λ rec at. inl (subst (λ (rs : List _). Contains rs rec) x.lists.latched at);
}

-- what lines left, where the session has only looked since
pub leaves_looked : (s : ℕ) (own : List Answered) (a b c : Known) → Leaves s own a b → HasOnlyLooked s b c → Leaves s own a c
leaves_looked s own a b c x y = subst (λ (ones : List Answered). Leaves s ones a c) (append-nil own) (leaves_on s own [] a b c x (looked_leaves s b c y))

-- ---- all of them

still : (s : ℕ) (k : Known) → HasOnlyLooked s k k
still s k = record {
  same = record { transaction = record { number = refl; begin = refl; read_only = refl; is_open = refl }; own = refl; mine = refl };
  lists = record { drawn = refl; latched = refl; done = refl };
  pins = refl;
  hold = refl;
  seen = ([], sym (append-nil k.seen));
  facts = λ f h. h;
  finds = ([], sym (append-nil k.finds));
}

module _ (store : Store) (sessions : List Session) (n : View) (old new : Crew) (all : AreAll store sessions) (limits : n.limits ≡ store.layout.limits)
    (g : IsGathered sessions n old.seat.view) (old_of : IsCrewOf store old) (new_of : IsCrewOf store new) (t : TakesStock old.seat.view new.seat.view 0) where
  abbrev v : View
  v = old.seat.view

  abbrev w : View
  w = new.seat.view

  w_limits : w.limits ≡ v.limits
  w_limits = t.looks.called.learns.limits ∙ ap (λ (u : View). u.limits) t.surveyed.now

  between_knows : (s : ℕ) → knows t.between s ≡ knows v s
  between_knows s = ap (λ (u : View). knows u s) t.surveyed.now

  in_v : (s : ℕ) → s < length sessions → s < v.limits.sessions
  in_v s low = let a = all.count in let b = ap (λ (l : Limits). l.sessions) (g.limits ∙ limits) in omega arith

  w_idle : (s : ℕ) → s < v.limits.sessions → IsIdle (knows w s)
  w_idle s low = new_of.idle s (subst (λ (l : Limits). s < l.sessions) (sym w_limits) low)

  hold_same : (s : ℕ) → s < v.limits.sessions → (knows w s).hold ≡ (knows v s).hold
  hold_same s low = (w_idle s low).hold ∙ sym (old_of.idle s low).hold

  gathered_looked : (s : ℕ) (d : Session) → s < length sessions → HasOnlyLooked s (known_by (slice_index_or sessions s d)) (knows v s)
  gathered_looked s d low = let session = slice_index_or sessions s d in
      subst (λ (i : ℕ). HasOnlyLooked i (known_by session) (knows v i)) (all.number s d low) (clocked_looked v session.number (known_by session) (g.each s d low))

  first_looked : (knows w 0).hold ≡ (knows v 0).hold → HasOnlyLooked 0 (knows v 0) (knows w 0)
  first_looked hold = subst (λ (k : Known). HasOnlyLooked 0 k (knows w 0)) (between_knows 0) (looks_looked t.between w 0 t.looks (hold ∙ sym (ap (λ (k : Known). k.hold) (between_knows 0))))

  since_looked : (s : ℕ) → s < v.limits.sessions → HasOnlyLooked s (knows v s) (knows w s)
  since_looked s low = dite (ℕ_discrete s 0)
      (λ is. subst (λ (i : ℕ). HasOnlyLooked i (knows v i) (knows w i)) (sym is) (first_looked (subst (λ (i : ℕ). (knows w i).hold ≡ (knows v i).hold) is (hold_same s low))))
      (λ other. subst (HasOnlyLooked s (knows v s)) (sym (t.looks.called.learns.others s other ∙ between_knows s)) (still s (knows v s)))

  pub together : w.whole ≡ true → 0 < store.layout.limits.sessions → IsHistoryOfAll v (store_told w).history → AreTogether store sessions n w
  together whole some all_of = record {
    limits = w_limits ∙ (g.limits ∙ limits);
    hosted = hosts_all store new new_of;
    whole = whole;
    looked = λ s d low. looked_on s (known_by (slice_index_or sessions s d)) (knows v s) (knows w s) (gathered_looked s d low) (since_looked s (in_v s low));
    seen = λ s d low. extends_on (known_by (slice_index_or sessions s d)).seen (knows v s).seen (store_told w).history (gathered_looked s d low).seen (all_of.seen s (in_v s low));
    own = λ s d low. all_of.mine s (in_v s low) ∙ (gathered_looked s d low).same.mine;
    merger = t.looks.called.learns.others w.limits.sessions (λ is. let e = ap (λ (l : Limits). l.sessions) (w_limits ∙ (g.limits ∙ limits)) in absurd (omega arith)) ∙ (between_knows w.limits.sessions
        ∙ (ap (λ (l : Limits). knows v l.sessions) w_limits ∙ (g.merger ∙ ap (λ (l : Limits). knows n l.sessions) g.limits)));
  }
