-- A sum behind a script: histories that no session's own commits make longer, and what a crew knows that was parted, has read and is gathered again.
use Rattle.std.proofs.Common.{◌≡◌, ◌≢◌, ◌⊎◌, inl, inr, ℕ, ◌+◌, ◌<◌, ◌≤◌, List, [], ◌∷◌, ◌++◌, Bool, true, false, cond, eqb, length, get_or, Option, Some, None, refl, sym, subst, ap, ◌∙◌, arith, append_assoc, append-nil, length-append, true≢false}
use mathlib.Core.Logic.{dite}
use native.Mathlib.Decide.{ℕ_discrete}
use Rattle.std.specs.Prelude.{is_some, MatchOption}
use Rattle.std.specs.List.{All, Contains, filter}
use Rattle.std.proofs.lemmas.Bool.{eq-eqb}
use Rattle.std.proofs.lemmas.List.Elements.{Contains-append_left}
use Rattle.lst_layout.specs.declared.layout.Layout.{Layout}
use Rattle.lst_layout.specs.declared.limits.Limits.{Limits}
use Rattle.lst_layout.specs.Words.{shown}
use Rattle.lst_machine.specs.State.{State}
use Rattle.lst_model.specs.declared.commits.Commit.{Commit}
use Rattle.lst_model.specs.declared.lines.Line.{Line}
use Rattle.lst_model.specs.Histories.{Extends, table_at}
use Rattle.lst_model.specs.Tables.{sum_of}
use Rattle.lst_core_state.specs.declared.facts.Find.{Find}
use Rattle.lst_core_state.specs.declared.facts.Find.TheVariants.{FreshClock}
use Rattle.lst_core_state.specs.declared.known.Known.{Known}
use Rattle.lst_core_state.specs.Facts.{early_find}
use Rattle.lst_core_state.specs.State.{commits_of, mine, history_of, newcomer, state_over}
use Rattle.lst_rule.specs.declared.store.Store.{Store}
use Rattle.lst_rule.specs.declared.view.View.{View}
use Rattle.lst_rule.specs.Learned.{Possible}
use Rattle.lst_rule.specs.Rule.{knows, hosts, crew as opening_view}
use Rattle.lst_rule.proofs.Knowing.{is_seen}
use Rattle.lst_rule.proofs.Opening.{same_at}
use Rattle.lst_seat.specs.Seats.{HasSeenAll, history_in}
use Rattle.lst_replies.specs.declared.reports.Report.{Report}
use Rattle.lst_replies.specs.declared.states.SessionState.{SessionState}
use Rattle.lst_replies.specs.Legal.{IsLegal}
use Rattle.lst_replies.specs.Runs.{is_by, run_of}
use Rattle.lst_replies.specs.States.{state_from}
use Rattle.lst_session.specs.declared.crew.Crew.{Crew}
use Rattle.lst_session.specs.declared.passes.Merger.{Merger}
use Rattle.lst_session.specs.declared.session.Session.{Session}
use Rattle.lst_session.specs.Crews.{IsCrewOf, TakesStock, store_told, state_told}
use Rattle.lst_session.specs.Lines.{IsOpen, IsSpent, CanBegin}
use Rattle.lst_session.specs.Parting.{known_by, seen_at, IsParted, IsGathered}
use Rattle.lst_session.specs.Passes.{IsReady}
use Rattle.lst_work_laws.specs.Laws.{commits_told}
use Rattle.lst_work_laws.specs.Lines.{session_told, transaction_told}
use Rattle.lst_work_laws.specs.Whole.{AreAll}
use Rattle.lst_work_laws.specs.Worked.{HaveSeenTheHistory, IsWorked}
use Rattle.lst_work_laws.proofs.Lists.{element}
use Rattle.lst_work_laws.proofs.Owners.{AreOwned, commits_owned}
use Rattle.lst_work_laws.proofs.Telling.{extends_on, opened_told, closed_told}
use Rattle.lst_work_laws.proofs.Weaving.{own_state}
use Rattle.lst_work_laws.proofs.Worked.{merger_as}
use Rattle.lst_work.specs.ParSums.{CanBeginAsOf, HasReadOnce, HaveSummed}
use Rattle.lst_work.specs.Totals.{state_behind, MayBeginAgain, MayNotBegin, table_told, MayAllBegin, HaveReadOnce, IsSummed, HasTotal, HasNoTotal, IsTotal, IsLeftBehind, IsWorkedTotal}

-- ---- histories

none_left : {X : Type 0} (xs : List X) → length xs ≡ 0 → xs ≡ []
none_left [] e = refl
none_left (x ∷ xs) e = absurd (omega arith)

-- two histories, each of which goes on from the other
both_ways : (a b : List Commit) → Extends a b → Extends b a → a ≡ b
both_ways a b x y =
    let p : length a ≡ length b + length x.0 = ap length x.1 ∙ length-append b x.0 in
    let q : length b ≡ length a + length y.0 = ap length y.1 ∙ length-append a y.0 in
    x.1 ∙ (ap (λ (cs : List Commit). b ++ cs) (none_left x.0 (omega arith)) ∙ append-nil b)

commits_join : (s : ℕ) (xs ys : List Commit) → commits_of s (xs ++ ys) ≡ commits_of s xs ++ commits_of s ys
commits_join s [] ys = refl
commits_join s (x ∷ xs) ys = step (eqb x.session s) (commits_join s xs ys)
  where
    step : (b : Bool) → commits_of s (xs ++ ys) ≡ commits_of s xs ++ commits_of s ys → cond b (x ∷ commits_of s (xs ++ ys)) (commits_of s (xs ++ ys)) ≡ cond b (x ∷ commits_of s xs) (commits_of s xs) ++ commits_of s ys
    step true e = ap (λ (cs : List Commit). x ∷ cs) e
    step false e = e

owned_at : (n : ℕ) (front : List Commit) (one : Commit) (rest : List Commit) → AreOwned n (front ++ one ∷ rest) → one.session < n
owned_at n [] one rest all = all.0
owned_at n (first ∷ front) one rest all = owned_at n front one rest all.1

-- a history that goes on from another one, and has no more commits of any session, is that one
pub same_history : (n : ℕ) (longer shorter : List Commit) → AreOwned n longer → Extends longer shorter → ((s : ℕ) → s < n → commits_of s longer ≡ commits_of s shorter) → longer ≡ shorter
same_history n longer shorter owned e same = by_rest e.0 e.1
  where
    by_rest : (rest : List Commit) → longer ≡ shorter ++ rest → longer ≡ shorter
    by_rest [] is = is ∙ append-nil shorter
    by_rest (one ∷ rest) is =
        let low = owned_at n shorter one rest (subst (AreOwned n) is owned) in
        let own : length (commits_of one.session (one ∷ rest)) ≡ length (one ∷ commits_of one.session rest) = ap (λ (b : Bool). length (cond b (one ∷ commits_of one.session rest) (commits_of one.session rest))) (eq-eqb one.session one.session refl) in
        let all : length (commits_of one.session longer) ≡ length (commits_of one.session shorter) + length (commits_of one.session (one ∷ rest)) =
        ap (λ (cs : List Commit). length (commits_of one.session cs)) is ∙ (ap length (commits_join one.session shorter (one ∷ rest)) ∙ length-append (commits_of one.session shorter) (commits_of one.session (one ∷ rest))) in
        let less = ap length (same one.session low) in
        absurd (omega arith)

-- ---- a view that knows each word

-- what a session has seen is a front of the history that the words tell
seen_first : (w : View) (s : ℕ) → Possible w → w.whole ≡ true → hosts w s ≡ true → Extends (store_told w).history (knows w s).seen
seen_first w s p whole host = subst (λ (words : List ℕ). Extends (history_of w.limits (shown w.limits words)) (knows w s).seen) (sym (p.allowed.whole whole)) (is_seen w p.words p.known p.merger p.allowed s host)

-- and each commit of it is of a session
told_owned : (w : View) → Possible w → w.whole ≡ true → AreOwned w.limits.sessions (store_told w).history
told_owned w p whole = subst (λ (words : List ℕ). AreOwned w.limits.sessions (history_of w.limits (shown w.limits words))) (sym (p.allowed.whole whole)) (commits_owned (state_over w.limits p.words p.known p.merger) p.allowed.sound)

-- ---- a crew that took stock

module _ (store : Store) (old new : Crew) (new_of : IsCrewOf store new) (t : TakesStock old.seat.view new.seat.view 0) (p : Possible new.seat.view) (whole : new.seat.view.whole ≡ true)
    (told : old.seat.view.whole ≡ true → state_told new.seat.view ≡ state_told old.seat.view) (h : HaveSeenTheHistory old.seat.view) where
  abbrev v : View
  v = old.seat.view

  abbrev w : View
  w = new.seat.view

  w_limits : w.limits ≡ v.limits
  w_limits = t.looks.called.learns.limits ∙ ap (λ (u : View). u.limits) t.surveyed.now

  between_knows : (s : ℕ) → knows t.between s ≡ knows v s
  between_knows s = ap (λ (u : View). knows u s) t.surveyed.now

  same_told : (store_told w).history ≡ (store_told v).history
  same_told = ap (λ (state : State). state.store.history) (told h.whole)

  in_v : (s : ℕ) → s < w.limits.sessions → s < v.limits.sessions
  in_v s low = subst (λ (l : Limits). s < l.sessions) w_limits low

  first_seen : 0 < w.limits.sessions → (knows w 0).seen ≡ (store_told w).history
  first_seen some = both_ways (knows w 0).seen (store_told w).history
      (subst (λ (cs : List Commit). Extends (knows w 0).seen cs) (ap (λ (k : Known). k.seen) (between_knows 0) ∙ (h.seen 0 (in_v 0 some) ∙ sym same_told)) t.looks.called.seen)
      (seen_first w 0 p whole (new_of.hosted 0 some))

  other_seen : (s : ℕ) → s ≢ 0 → s < w.limits.sessions → (knows w s).seen ≡ (store_told w).history
  other_seen s ne low = ap (λ (k : Known). k.seen) (t.looks.called.learns.others s ne ∙ between_knows s) ∙ (h.seen s (in_v s low) ∙ sym same_told)

  pub still_seen : HaveSeenTheHistory new.seat.view
  still_seen = record {
    whole = whole;
    seen = λ s low. dite (ℕ_discrete s 0)
        (λ is. subst (λ (i : ℕ). (knows w i).seen ≡ (store_told w).history) (sym is) (first_seen (subst (λ (i : ℕ). i < w.limits.sessions) is low)))
        (λ ne. other_seen s ne low);
  }

-- ---- one session, which has read, and has then seen the whole history

read_on : (w : View) (s : ℕ) (u k : Known) → HasReadOnce s u k → HasSeenAll w s k → HasReadOnce s u (knows w s)
read_on w s u k y x = let more : List Find = FreshClock (length (history_in w)) ∷ early_find k (length (history_in w)) in record {
  closed = ap (λ (c : Known). c.is_open) x.now ∙ y.closed;
  own = ap (λ (c : Known). c.own) x.now ∙ y.own;
  number = ap (λ (c : Known). c.number) x.now ∙ y.number;
  seen = extends_on u.seen k.seen (knows w s).seen y.seen (subst (λ (c : Known). Extends c.seen k.seen) (sym x.now) x.grows);
  facts = λ f m. subst (λ (c : Known). Contains c.facts f) (sym x.now) (Contains-append_left k.facts x.index f (y.facts f m));
  finds = (y.finds.0 ++ more, ap (λ (c : Known). c.finds) x.now ∙ (ap (λ (fs : List Find). fs ++ more) y.finds.1 ∙ append_assoc u.finds y.finds.0 more));
  mine = ap (mine s) x.now ∙ (x.own ∙ y.mine);
  lists = record {
    drawn = ap (λ (c : Known). c.placing.drawn) x.now ∙ y.lists.drawn;
    latched = ap (λ (c : Known). c.latched) x.now ∙ y.lists.latched;
    done = ap (λ (c : Known). c.done) x.now ∙ y.lists.done;
  };
  pins = ap (λ (c : Known). c.pages.pins) x.now ∙ y.pins;
}

-- ---- a crew that was parted

-- it has a session
pub some_session : (store : Store) (crew : Crew) → IsCrewOf store crew → 0 < crew.seat.view.limits.sessions
some_session store crew of = subst (λ (l : Limits). 0 < l.sessions) (sym of.seat_of.limits) store.layout.valid.sessions.0

-- its sessions are all of the store's
pub all_parted : (store : Store) (crew : Crew) (sessions : List Session) (merger : Merger) → IsCrewOf store crew → IsParted store crew.seat.view sessions merger → All (IsReady store) sessions → AreAll store sessions
all_parted store crew sessions merger of parted ready = record {
  count = parted.count ∙ ap (λ (l : Limits). l.sessions) of.seat_of.limits;
  number = λ s d low. (parted.each s d (let e = parted.count in omega arith)).number;
  ready = λ s d low. ready s d low;
}

-- a session of it knows what it knew
pub known_parted : (store : Store) (v : View) (sessions : List Session) (merger : Merger) → IsParted store v sessions merger → (s : ℕ) (d : Session) → s < v.limits.sessions → known_by (get_or sessions s d) ≡ knows v s
known_parted store v sessions merger parted s d low = let from = parted.each s d low in ap (λ (n : ℕ). knows (get_or sessions s d).seat.view n) from.number ∙ from.part.knows_same

module _ (store : Store) (crew : Crew) (old : List Session) (merger : Merger) (of : IsCrewOf store crew) (h : HaveSeenTheHistory crew.seat.view) (parted : IsParted store crew.seat.view old merger) (all : AreAll store old)
    (time : ℕ) (time_is : time ≡ length (knows crew.seat.view 0).seen) where
  some : 0 < crew.seat.view.limits.sessions
  some = some_session store crew of

  in_crew : (s : ℕ) → s < length old → s < crew.seat.view.limits.sessions
  in_crew s low = let e = parted.count in omega arith

  seen_so : (s : ℕ) → s < crew.seat.view.limits.sessions → time ≡ length (knows crew.seat.view s).seen
  seen_so s low = time_is ∙ ap length (h.seen 0 some ∙ sym (h.seen s low))

  pub some_parted : 0 < length old
  some_parted = let e = parted.count in let f = some in omega arith

  pub all_seen_so : (s : ℕ) → s < crew.seat.view.limits.sessions → time ≤ length (knows crew.seat.view s).seen
  all_seen_so s low = let e = seen_so s low in omega arith

  -- each of them may begin as of the length of the history
  pub can_begin_now : MayAllBegin crew.seat.view → All (CanBeginAsOf store time) old
  can_begin_now may s d low =
      let same = known_parted store crew.seat.view old merger parted s d (in_crew s low) in let can = may s (in_crew s low) in let ready = all.ready s d low in record {
        ready = ready;
        may = (
          ap (λ (k : Known). k.is_open) same ∙ can.0,
          λ e. can.1 (sym (ap (λ (k : Known). k.number) same) ∙ (e ∙ ap (λ (l : Limits). l.txns) (ready.seat_of.limits ∙ sym of.seat_of.limits))),
        );
        seen = (let e = seen_so s (in_crew s low) in let f = ap (λ (k : Known). length k.seen) same in omega arith);
      }

  -- what the first of them has seen by then is the whole history
  pub sum_now : (column sum : ℕ) (d : Session) → sum ≡ sum_of (table_at (seen_at old 0 d) time) column → sum ≡ sum_of (table_told crew.seat.view) column
  sum_now column sum d is =
      let seen : seen_at old 0 d ≡ (store_told crew.seat.view).history = ap (λ (k : Known). k.seen) (known_parted store crew.seat.view old merger parted 0 d some) ∙ h.seen 0 some in
      is ∙ (ap (λ (cs : List Commit). sum_of (table_at cs time) column) seen
      ∙ ap (λ (n : ℕ). sum_of (table_at (store_told crew.seat.view).history n) column) (time_is ∙ ap length (h.seen 0 some)))

-- they are all of the store's still, once they have summed
pub all_summed : (store : Store) (old new : List Session) → AreAll store old → HaveSummed store old new → AreAll store new
all_summed store old new all summed = record {
  count = summed.count ∙ all.count;
  number = λ s d low. let few : s < length old = (let e = summed.count in omega arith) in (summed.each s d few).session ∙ all.number s d few;
  ready = λ s d low. let few : s < length old = (let e = summed.count in omega arith) in (summed.each s d few).ready;
}

-- ---- and is gathered again

module _ (store : Store) (crew after : Crew) (old new : List Session) (merger : Merger) (h : HaveSeenTheHistory crew.seat.view) (parted : IsParted store crew.seat.view old merger)
    (summed : HaveSummed store old new) (any : 0 < crew.seat.view.limits.sessions) (g : IsGathered new merger.seat.view after.seat.view) (p : Possible after.seat.view) where
  abbrev had : View
  had = crew.seat.view

  abbrev has : View
  has = after.seat.view

  same_limits : has.limits ≡ had.limits
  same_limits = g.limits ∙ parted.limits

  in_old : (s : ℕ) → s < had.limits.sessions → s < length old
  in_old s low = let e = parted.count in omega arith

  in_new : (s : ℕ) → s < had.limits.sessions → s < length new
  in_new s low = let e = parted.count in let f = summed.count in omega arith

  abbrev at_place : (s : ℕ) → s < had.limits.sessions → Session
  at_place s low = get_or new s (element old s (in_old s low))

  read : (s : ℕ) (low : s < had.limits.sessions) → HasReadOnce s (knows had s) (known_by (at_place s low))
  read s low = let d : Session = element old s (in_old s low) in
      subst (λ (k : Known). HasReadOnce s k (known_by (get_or new s d))) (known_parted store had old merger parted s d low)
      (subst (λ (n : ℕ). HasReadOnce n (known_by (get_or old s d)) (known_by (get_or new s d))) (parted.each s d low).number (summed.each s d (in_old s low)).reads)

  seen_all : (s : ℕ) (low : s < had.limits.sessions) → HasSeenAll has s (known_by (at_place s low))
  seen_all s low = let d : Session = element old s (in_old s low) in
      subst (λ (n : ℕ). HasSeenAll has n (known_by (get_or new s d))) ((summed.each s d (in_old s low)).session ∙ (parted.each s d low).number) (g.each s d (in_new s low))

  same_commits : (s : ℕ) → s < had.limits.sessions → commits_of s (store_told has).history ≡ commits_of s (store_told had).history
  same_commits s low = (seen_all s low).own ∙ ((read s low).mine ∙ ap (commits_of s) (h.seen s low))

  history_same : (store_told has).history ≡ (store_told had).history
  history_same = same_history has.limits.sessions (store_told has).history (store_told had).history (told_owned has p g.whole)
      (extends_on (store_told had).history (known_by (at_place 0 any)).seen (store_told has).history (subst (λ (cs : List Commit). Extends (known_by (at_place 0 any)).seen cs) (h.seen 0 any) (read 0 any).seen) (seen_all 0 any).grows)
      (λ s low. same_commits s (subst (λ (l : Limits). s < l.sessions) same_limits low))

  pub have_read_once : HaveReadOnce had has
  have_read_once = record {
    limits = same_limits;
    sessions = λ s low. read_on has s (knows had s) (known_by (at_place s low)) (read s low) (seen_all s low);
    seen = λ s low. ap (λ (k : Known). k.seen) (seen_all s low).now ∙ (history_same ∙ sym (h.seen s low));
    history = history_same;
    whole = g.whole;
    merger = g.merger ∙ (ap (λ (l : Limits). knows merger.seat.view l.sessions) same_limits ∙ parted.last.knows_same);
  }

-- the sum is that of the table which the store's commits still make
pub is_summed : (store : Store) (column : ℕ) (before : Crew) (sum : ℕ) (after : Crew) → sum ≡ sum_of (table_told before.seat.view) column → IsCrewOf store after → HaveReadOnce before.seat.view after.seat.view → IsSummed store column before sum after
is_summed store column before sum after is of read = record {
  sum_is = is ∙ ap (λ (cs : List Commit). sum_of (table_at cs (length cs)) column) (sym read.history);
  crew_of = of;
  read = read;
}

-- ---- whether there is a sum

pub found : (o : Option ℕ) (P : Type 0) (Q : ℕ → Type 0) → is_some o ≡ true → MatchOption o P Q → (s : ℕ) × Q s
found None P Q e m = absurd (true≢false (sym e))
found (Some s) P Q e m = (s, m)

pub not_found : (o : Option ℕ) (P : Type 0) (Q : ℕ → Type 0) → is_some o ≡ false → MatchOption o P Q → P
not_found None P Q e m = m
not_found (Some s) P Q e m = absurd (true≢false e)

may_again : (l : Limits) (v : View) (s : ℕ) (state : SessionState) → v.limits ≡ l → session_told (knows v s) ≡ state → CanBegin v s → MayBeginAgain l state
may_again l v s state limits is can = record {
  closed = ap (λ (st : SessionState). st.current) (sym is ∙ closed_told (knows v s) can.0);
  unspent = λ e. can.1 (ap (λ (st : SessionState). st.begun) is ∙ (e ∙ ap (λ (m : Limits). m.txns) (sym limits)));
}

may_not : (l : Limits) (v : View) (s : ℕ) (state : SessionState) → v.limits ≡ l → session_told (knows v s) ≡ state → IsOpen v s ⊎ IsSpent v s → MayNotBegin l state
may_not l v s state limits is (inl on) = inl (transaction_told (knows v s), ap (λ (st : SessionState). st.current) (sym is ∙ opened_told (knows v s) on))
may_not l v s state limits is (inr spent) = inr (sym (ap (λ (st : SessionState). st.begun) is) ∙ (spent.1 ∙ ap (λ (m : Limits). m.txns) limits))

-- it can't both be
pub never_both : (l : Limits) (state : SessionState) → MayBeginAgain l state → MayNotBegin l state → ⊥
never_both l state may (inl on) = let none = may.closed in let some = on.1 in cc
never_both l state may (inr spent) = may.unspent spent

-- what a session knows behind a script is the state that the replies tell
pub told_behind : (layout : Layout) (lines : List Line) (report : Report) (store : Store) (crew : Crew) → IsWorked layout lines report store crew → (s : ℕ) → s < layout.limits.sessions → session_told (knows crew.seat.view s) ≡ state_behind lines report s
told_behind layout lines report store crew worked s low = (worked.sessions s low).leaves.state ∙ (own_state s (run_of lines report.replies) (session_told (knows (opening_view layout.limits) s))
    ∙ ap (λ (k : Known). state_from (session_told k) s (run_of lines report.replies)) (same_at (layout.limits.sessions + 1) s (newcomer layout.limits)))

-- ---- what is left

module _ (layout : Layout) (lines : List Line) (report : Report) (store : Store) where
  -- by the script alone
  left_by_work : (crew : Crew) → IsWorked layout lines report store crew → IsLeftBehind layout lines report store crew
  left_by_work crew worked = record {
    opened = worked.opened;
    crew_of = worked.crew_of;
    whole = worked.whole;
    legal = worked.legal;
    commits = λ s low. (worked.sessions s low).leaves.mine
        ∙ ap (λ (k : Known). mine s k ++ commits_told s (session_told k) (filter (is_by s) (run_of lines report.replies))) (same_at (layout.limits.sessions + 1) s (newcomer layout.limits));
    merger = worked.merger;
  }

  -- and once each session has read once since
  left_by_sum : (before after : Crew) → before.seat.view.limits ≡ layout.limits → IsLeftBehind layout lines report store before → IsCrewOf store after → HaveReadOnce before.seat.view after.seat.view → IsLeftBehind layout lines report store after
  left_by_sum before after limits left of read = record {
    opened = left.opened;
    crew_of = of;
    whole = read.whole;
    legal = subst (IsLegal layout.limits lines report) (sym read.history) left.legal;
    commits = λ s low. (read.sessions s (subst (λ (l : Limits). s < l.sessions) (sym limits) low)).mine ∙ left.commits s low;
    merger = merger_as layout.limits (run_of lines report.replies) (opening_view layout.limits) before.seat.view (opening_view layout.limits) after.seat.view refl read.limits refl read.merger left.merger;
  }

module _ (layout : Layout) (lines : List Line) (column : ℕ) (report : Report) (store : Store) (before after : Crew) (worked : IsWorked layout lines report store before) (possible : Possible before.seat.view) (seen : HaveSeenTheHistory before.seat.view) where
  limits_are : before.seat.view.limits ≡ layout.limits
  limits_are = worked.crew_of.seat_of.limits ∙ ap (λ (x : Layout). x.limits) worked.opened

  in_layout : (s : ℕ) → s < before.seat.view.limits.sessions → s < layout.limits.sessions
  in_layout s low = subst (λ (l : Limits). s < l.sessions) limits_are low

  in_before : (s : ℕ) → s < layout.limits.sessions → s < before.seat.view.limits.sessions
  in_before s low = subst (λ (l : Limits). s < l.sessions) (sym limits_are) low

  by_total : (total : Option ℕ) → HasTotal store column before total after → MatchOption total (HasNoTotal layout lines report before after) (λ sum. IsTotal layout lines report store column before sum after)
  by_total None has = record {
    session = has.1.0;
    low = in_layout has.1.0 has.1.1.0;
    may_not = may_not layout.limits before.seat.view has.1.0 (state_behind lines report has.1.0) limits_are (told_behind layout lines report store before worked has.1.0 (in_layout has.1.0 has.1.1.0)) has.1.1.1;
    same = has.0;
  }
  by_total (Some sum) has = record {
    may = λ s low. may_again layout.limits before.seat.view s (state_behind lines report s) limits_are (told_behind layout lines report store before worked s low) (has.0 s (in_before s low));
    summed = has.1;
  }

  is_left : (total : Option ℕ) → HasTotal store column before total after → IsLeftBehind layout lines report store after
  is_left None has = subst (IsLeftBehind layout lines report store) (sym has.0) (left_by_work layout lines report store before worked)
  is_left (Some sum) has = left_by_sum layout lines report store before after limits_are (left_by_work layout lines report store before worked) has.1.crew_of has.1.read

  pub worked_total : (total : Option ℕ) → HasTotal store column before total after → IsWorkedTotal layout lines column report total store after
  worked_total total has = record { before = before; worked = worked; possible = possible; seen = seen; total_is = by_total total has; left = is_left total has }
