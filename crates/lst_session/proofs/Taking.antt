-- A session that takes the turn, and asks while it holds it.
use Rattle.std.proofs.Common.{◌≡◌, ℕ, ◌+◌, ◌-◌, ◌<◌, ◌≤◌, List, [], ◌∷◌, ◌++◌, Bool, true, false, length, take, drop, append_assoc, refl, sym, subst, ap, ◌∙◌, arith, slice_index_or, length-append}
use Rattle.std.specs.Prelude.{None}
use Rattle.std.proofs.lemmas.List.{drop_at, drop-drop, take-append-drop}
use Rattle.lst_layout.specs.declared.limits.Limits.{Limits}
use Rattle.lst_model.specs.declared.commits.Commit.{Commit}
use Rattle.lst_model.specs.Histories.{all_acts_on}
use Rattle.lst_model.proofs.Folds.{all_acts_on-append}
use Rattle.lst_core_state.specs.declared.known.Known.{Known}
use Rattle.lst_core_state.specs.State.{rank}
use Rattle.lst_core_state.specs.Step.{took, refreshed}
use Rattle.lst_core_state.specs.declared.events.Event.TheVariants.{Take}
use Rattle.lst_layout.specs.declared.place.Place.TheVariants.{CommitWord}
use Rattle.lst_rule.specs.declared.view.View.{View}
use Rattle.lst_rule.specs.declared.store.Store.{Store}
use Rattle.lst_rule.specs.Rule.{knows, hosts}
use Rattle.lst_rule.specs.Learned.{Learns, Kept, Made}
use Rattle.lst_rule.specs.Seats.{Sitting}
use Rattle.lst_rule.specs.Stores.{IsSeatOf, Clocked}
use Rattle.lst_index.specs.Searches.{Works, Keeps}
use Rattle.lst_changes.specs.Changes.{IsHolder, WroteLast, Changed, Steady}
use Rattle.lst_changes.proofs.Holding.{steady_same}
use Rattle.lst_session.specs.Turns.{Takes, Asks}

pub hosts_by : (v w : View) (s : ℕ) → w.hosts ≡ v.hosts → hosts v s ≡ true → hosts w s ≡ true
hosts_by v w s same h = ap (λ (bs : List Bool). slice_index_or bs s false) same ∙ h

-- ---- the turn

module _ (store : Store) (seat next : Sitting) (between : View) (s x : ℕ) (host : hosts seat.view s ≡ true) (own : s < seat.view.limits.sessions) (on : (knows seat.view s).is_open ≡ true) (takes : Learns seat.view between s (took (knows seat.view s))) (seat_of : IsSeatOf store next)
    (load : Clocked between next.view s x) where
  pub takes_turn : IsHolder store next s
  takes_turn = record {
    seat_of = seat_of;
    host = hosts_by between next.view s load.view.hosted (hosts_by seat.view between s takes.hosted host);
    own = subst (λ (l : Limits). s < l.sessions) (sym (load.view.limits ∙ takes.limits)) own;
    on = ap (λ (k : Known). k.is_open) load.view.now ∙ (ap (λ (k : Known). k.is_open) takes.now ∙ on);
    turn = ap (λ (k : Known). rank k.turn) load.view.now ∙ turn;
  }
    where
      turn : rank (refreshed (knows between s).turn) ≡ 2
      turn = ap (λ (k : Known). rank (refreshed k.turn)) takes.now

  pub took_it : Made seat.view between (Take s) CommitWord (s + 1) → Takes seat.view next.view s
  took_it made = record { between = between; takes = takes; made = made; clock = x; load = load }

-- ---- what is asked

pub asked_found : (v between w : View) (s : ℕ) (works : Works v between s []) → Kept v between → Keeps (knows v s).placing (knows between s).placing → Steady between w s → Asks v w s
asked_found v between w s works kept keeps steady = record {
  between = between;
  works = works;
  kept = kept;
  keeps = keeps;
  steady = steady;
}

-- the session that has looked for a record still holds the turn
pub found_holds : (store : Store) (seat next : Sitting) (s : ℕ) → IsHolder store seat s → IsSeatOf store next → Works seat.view next.view s [] → IsHolder store next s
found_holds store seat next s holder seat_of works = record {
  seat_of = seat_of;
  host = hosts_by seat.view next.view s works.view.hosted holder.host;
  own = subst (λ (l : Limits). s < l.sessions) (sym works.view.limits) holder.own;
  on = ap (λ (k : Known). k.is_open) works.view.now ∙ holder.on;
  turn = ap (λ (k : Known). rank k.turn) works.view.now ∙ holder.turn;
}

pub asked_none : (v w : View) (s : ℕ) → Works v w s [] → Kept v w → Keeps (knows v s).placing (knows w s).placing → Asks v w s
asked_none v w s works kept keeps = asked_found v w w s works kept keeps (steady_same w s)

-- ---- what the last commit on a key says of the begin

-- a back part of a list without acts has none
none_later : (history : List Commit) (key b : ℕ) → all_acts_on key history ≡ [] → all_acts_on key (drop b history) ≡ []
none_later history key b none = none_right (all_acts_on key (take b history)) (all_acts_on key (drop b history))
    (sym (all_acts_on-append key (take b history) (drop b history)) ∙ (ap (all_acts_on key) (take-append-drop b history) ∙ none))
  where
    none_right : {A : Type 0} (xs ys : List A) → xs ++ ys ≡ [] → ys ≡ []
    none_right xs [] e = refl
    none_right xs (y ∷ ys) e = absurd (let f = ap length e in let g = length-append xs (y ∷ ys) in omega arith)

pub unchanged_none : (history : List Commit) (key b : ℕ) → all_acts_on key history ≡ [] → Changed history b key None
unchanged_none history key b none = none_later history key b none

pub unchanged_old : (history : List Commit) (key b time : ℕ) → WroteLast history key time → time ≤ b → Changed history b key None
unchanged_old history key b time last low = subst (λ (h : List Commit). all_acts_on key h ≡ []) (sym late) (none_later last.rest key (b - time) last.last)
  where
    front : List Commit
    front = last.before ++ last.commit ∷ []

    whole : history ≡ front ++ last.rest
    whole = last.is ∙ sym (append_assoc last.before (last.commit ∷ []) last.rest)

    late : drop b history ≡ drop (b - time) last.rest
    late = ap (drop b) whole ∙ (ap (λ (n : ℕ). drop n (front ++ last.rest)) (sym sum) ∙ (sym (drop-drop (b - time) time (front ++ last.rest)) ∙ ap (drop (b - time)) (drop_at front last.rest time at)))
      where
        sum : time + (b - time) ≡ b
        sum = omega arith

        at : length front ≡ time
        at = let e = last.place in let f = length-append last.before (last.commit ∷ []) in omega arith
