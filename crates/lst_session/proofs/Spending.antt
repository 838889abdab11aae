-- A session that holds the turn: from the steps to what it is promised.
use Rattle.std.proofs.Common.{◌≡◌, ℕ, ◌+◌, ◌<◌, List, [], ◌∷◌, ◌++◌, true, false, length, Contains, Result, Ok, Err, IfOk, IfErr, refl, sym, subst, ap, ◌∙◌, arith, append_assoc}
use Rattle.lst_layout.specs.declared.limits.Limits.{Limits}
use Rattle.lst_model.specs.declared.acts.Write.{Write}
use Rattle.lst_model.specs.declared.commits.Commit.{Commit}
use Rattle.lst_core_state.specs.Writes.{commit}
use Rattle.lst_core_state.specs.declared.known.Known.{Known}
use Rattle.lst_core_state.specs.declared.known.Placing.{Placing}
use Rattle.lst_core_state.specs.declared.known.Stage.{Stage}
use Rattle.lst_core_state.specs.declared.known.Stage.TheVariants.{Away}
use Rattle.lst_core_state.specs.declared.facts.Fact.{Fact}
use Rattle.lst_core_state.specs.declared.facts.Find.{Find}
use Rattle.lst_core_state.specs.declared.facts.Find.TheVariants.{FreshClock}
use Rattle.lst_core_state.specs.Facts.{early_find}
use Rattle.lst_core_state.specs.State.{rank, mine, no_hold}
use Rattle.lst_core_state.specs.Step.{took, refreshed}
use Rattle.lst_rule.specs.declared.view.View.{View}
use Rattle.lst_rule.specs.declared.store.Store.{Store}
use Rattle.lst_rule.specs.Rule.{knows, hosts, Allowed}
use Rattle.lst_rule.specs.Learned.{Possible, Learns}
use Rattle.lst_rule.specs.PageSteps.{unpinned}
use Rattle.lst_rule.specs.Seats.{Sitting}
use Rattle.lst_rule.specs.Stores.{IsSeatOf, clocked}
use Rattle.lst_rule.proofs.Learning.{learns_same, learns_then}
use Rattle.lst_rule.proofs.Watching.{clock_not_full}
use Rattle.lst_txn.specs.declared.ends.Turn.{Turn}
use Rattle.lst_txn.specs.Transactions as txn
use Rattle.lst_refinement.specs.Crews.{IsIdle}
use Rattle.lst_changes.specs.Changes.{IsFresh, IsHolder}
use Rattle.lst_changes.proofs.Holding.{seen_is, clock_same}
use Rattle.lst_session.specs.declared.kinds.CommitRefusal.{CommitRefusal}
use Rattle.lst_session.specs.declared.kinds.CommitRefusal.TheVariants.{Idle, Busy}
use Rattle.lst_session.specs.declared.session.Session.{Session}
use Rattle.lst_session.specs.Traces as traces
use Rattle.lst_session.specs.Calls.{OnlyLooks, Commits}
use Rattle.lst_session.specs.Passes.{IsReady}
use Rattle.lst_session.specs.Turns.{Takes, Asks, Spends, Returns}
use Rattle.lst_session.specs.Held.{IsHeld, HasSeenHistory, LooksStill, TakesTurn, CommitsNext}
use Rattle.lst_session.proofs.Growing.{Grown, Steps, SameHands, called, pins_by, steps_on, steps_called, works_steps, works_hold, works_latched, works_room, watched_steps, watched_hands, watched_room, none_full_on, none_full_still, same_extends, same_facts, same_finds}
use Rattle.lst_session.proofs.Writing.{kept_drawn, kept_free}
use Rattle.lst_session.proofs.Answering.{ready}
use Rattle.lst_session.proofs.Pinned.{pinned_same, pinned_ended}
use Rattle.lst_session.proofs.Turning.{finds_held, held_idle}
use Rattle.lst_session.proofs.Taking.{hosts_by}

-- while the turn is held nobody else commits
pub sees_history : (store : Store) (seat : Sitting) (s : ℕ) → IsHolder store seat s → HasSeenHistory seat.view s
sees_history store seat s h words known merger a = seen_is seat.view words known merger a s h.host h.own h.turn

still_wrote : (u k : Known) → k.own ≡ u.own → 0 < length u.own → 0 < length k.own
still_wrote u k e some = subst (λ (ws : List Write). 0 < length ws) (sym e) some

-- ---- what only looks

-- who only sees and finds more, and is at another stage of its turn
looks_by : (v w : View) (s : ℕ) (all : List Commit) (stage : Stage) (facts : List Fact) (finds : List Find) → Learns v w s (record (knows v s) { seen = all; turn = stage; facts = facts; finds = finds }) → Grown (knows v s) (knows w s)
    → mine s (knows w s) ≡ mine s (knows v s) → OnlyLooks v w s
looks_by v w s all stage facts finds view grown own = let e = view.now in record {
  called = called v w s _ view grown;
  same = record {
    transaction = record { number = ap (λ (k : Known). k.number) e; begin = ap (λ (k : Known). k.begin) e; read_only = ap (λ (k : Known). k.read_only) e; is_open = ap (λ (k : Known). k.is_open) e };
    own = ap (λ (k : Known). k.own) e;
    mine = own;
  };
  pins = pins_by (knows v s) (knows w s) (ap (λ (k : Known). k.pages) e);
  lists = record { drawn = ap (λ (k : Known). k.placing.drawn) e; latched = ap (λ (k : Known). k.latched) e; done = ap (λ (k : Known). k.done) e };
}

pub looks_same : (v : View) (s : ℕ) → OnlyLooks v v s
looks_same v s = let k = knows v s in looks_by v v s k.seen k.turn k.facts k.finds (learns_same v s) record { seen = same_extends k.seen; facts = same_facts k.facts; finds = same_finds k.finds } refl

-- ---- the turn is taken

possible_by : (v : View) (words : List ℕ) (known : ℕ → Known) (merger : Known) → Allowed v words known merger → Possible v
possible_by v words known merger allowed = record { words = words; known = known; merger = merger; allowed = allowed }

module _ (v w : View) (s : ℕ) (own : s < v.limits.sessions) (t : Takes v w s) where
  abbrev all : List Commit
  all = t.load.all

  abbrev found : List Find
  found = FreshClock (length t.load.all) ∷ early_find (took (knows v s)) (length t.load.all)

  taken_view : Learns v w s (clocked (took (knows v s)) t.load.all t.load.index)
  taken_view = learns_then v t.between w s (took (knows v s)) (λ (k : Known). clocked k t.load.all t.load.index) t.takes t.load.view

  taken_grown : Grown (knows v s) (knows w s)
  taken_grown = let e = taken_view.now in record {
    seen = (t.load.grows.0, ap (λ (k : Known). k.seen) e ∙ (t.load.grows.1 ∙ ap (λ (k : Known). k.seen ++ t.load.grows.0) t.takes.now));
    facts = (t.load.index, ap (λ (k : Known). k.facts) e);
    finds = (found, ap (λ (k : Known). k.finds) e);
  }

  abbrev after_step : Known
  after_step = knows t.between s

  abbrev found_then : List Find
  found_then = FreshClock (length t.load.all) ∷ early_find (knows t.between s) (length t.load.all)

  -- after the step the clock was loaded, and nothing else done
  clock_loaded : OnlyLooks t.between w s
  clock_loaded = let e = t.load.view.now in
      looks_by t.between w s t.load.all (refreshed after_step.turn) (after_step.facts ++ t.load.index) (after_step.finds ++ found_then) t.load.view
      record {
        seen = (t.load.grows.0, ap (λ (k : Known). k.seen) e ∙ t.load.grows.1);
        facts = (t.load.index, ap (λ (k : Known). k.facts) e);
        finds = (found_then, ap (λ (k : Known). k.finds) e);
      }
      (t.load.own (subst (λ (l : Limits). s < l.sessions) (sym t.takes.limits) own))

  pub taken : TakesTurn v w s
  taken = let e = taken_view.now in let u = took (knows v s) in record {
    looks = looks_by v w s t.load.all (refreshed u.turn) (u.facts ++ t.load.index) (u.finds ++ found) taken_view taken_grown
        (t.load.own (subst (λ (l : Limits). s < l.sessions) (sym t.takes.limits) own) ∙ ap (λ (k : Known). mine s k) t.takes.now);
    before = v;
    first = looks_same v s;
    after = t.between;
    taken = t.made;
    last = clock_loaded;
    loaded = record {
      more = found_then;
      grows = ap (λ (k : Known). k.finds) t.load.view.now;
      here = subst (λ (n : ℕ). Contains found_then (FreshClock n)) (sym (ap (λ (k : Known). length k.seen) t.load.view.now)) (0, omega arith, refl);
    };
    possible = possible_by w _ _ _ t.load.looked.met.made.told.after;
    fresh = record { more = found; grows = ap (λ (k : Known). k.finds) e; here = subst (λ (n : ℕ). Contains found (FreshClock n)) (sym (ap (λ (k : Known). length k.seen) e)) (0, omega arith, refl) };
    room = record { more = found; grows = ap (λ (k : Known). k.finds) e; room = clock_not_full (took (knows v s)) (length t.load.all) };
  }

pub held_after : (store : Store) (session : Session) (seat : Sitting) → IsReady store session → 0 < length (knows session.seat.view session.number).own → IsHolder store seat session.number → Takes session.seat.view seat.view session.number
    → IsHeld store record { seat = seat; number = session.number }
held_after store session seat r wrote holder t = let e = (taken_view session.seat.view seat.view session.number r.own t).now in let l = (taken session.seat.view seat.view session.number r.own t).looks in record {
  holder = holder;
  rec = ap (λ (k : Known). k.placing.hand) e ∙ r.idle.rec;
  hold = ap (λ (k : Known). k.hold) e ∙ r.idle.hold;
  pinned = pinned_same (knows session.seat.view session.number) (knows seat.view session.number) l.same.transaction l.pins r.pinned;
  wrote = still_wrote (knows session.seat.view session.number) (knows seat.view session.number) l.same.own wrote;
}

-- what comes of a try
module _ (store : Store) (session : Session) (seat : Sitting) (ready : IsReady store session) (writes : (knows session.seat.view session.number).is_open ≡ true → 0 < length (knows session.seat.view session.number).own) where
  abbrev Taken : Turn → Type 0
  Taken turn = (turn.session ≡ session.number) × IsHolder store seat session.number × Takes session.seat.view seat.view session.number

  pub took_turn : (result : Result Turn CommitRefusal) → IfOk result Taken → IfOk result (λ turn. (turn.session ≡ session.number) × IsHeld store record { seat = seat; number = session.number } × TakesTurn session.seat.view seat.view session.number)
  took_turn (Ok turn) ok = let t = taken session.seat.view seat.view session.number ready.own ok.2 in
      (ok.0, held_after store session seat ready (writes (sym t.looks.same.transaction.is_open ∙ ok.1.on)) ok.1 ok.2, t)
  took_turn (Err refusal) ok = tt

  pub took_history : (result : Result Turn CommitRefusal) → IfOk result Taken → IfOk result (λ _. HasSeenHistory seat.view session.number)
  took_history (Ok turn) ok = sees_history store seat session.number ok.1
  took_history (Err refusal) ok = tt

-- a session that doesn't get it is ready as before
pub refused_ready : {A : Type 0} (store : Store) (session : Session) (seat : Sitting) (result : Result A CommitRefusal) → IsReady store session → IsSeatOf store seat → (result ≡ Err Idle → seat ≡ session.seat) → (result ≡ Err Busy → traces.Holds session.seat.view seat.view session.number)
    → IfErr result (λ _. IsReady store record { seat = seat; number = session.number })
refused_ready store session seat (Ok turn) r is still busy = tt
refused_ready store session seat (Err Idle) r is still busy = subst (λ (x : Sitting). IsReady store record { seat = x; number = session.number }) (sym (still refl)) r
refused_ready store session seat (Err Busy) r is still busy = let holds = busy refl in let f = finds_held session.seat.view seat.view session.number holds in
    ready store session seat r is f.called.learns.hosted (held_idle session.seat.view seat.view session.number holds r.idle)
    (pinned_same (knows session.seat.view session.number) (knows seat.view session.number) f.same.transaction f.pins r.pinned)

-- ---- something is asked

module _ (v w : View) (s : ℕ) (own : s < v.limits.sessions) (a : Asks v w s) where
  asked_steps : Steps v w s
  asked_steps = steps_on v a.between w s (works_steps v a.between s [] a.works) (watched_steps a.between w s a.steady.watched (subst (λ (l : Limits). s < l.sessions) (sym a.works.view.limits) own))

  asked_hands : SameHands (knows a.between s) (knows w s)
  asked_hands = watched_hands a.between w s a.steady.watched

  pub asked_looks : LooksStill v w s
  asked_looks = let st = asked_steps in let hands = asked_hands in record {
    looks = record {
      called = steps_called v w s st;
      same = st.stays.same;
      pins = st.stays.pins;
      lists = record {
        drawn = ap (λ (p : Placing). p.drawn) hands.placing ∙ kept_drawn (knows v s).placing (knows a.between s).placing a.keeps;
        latched = hands.latched ∙ works_latched v a.between s [] a.works;
        done = st.stays.done;
      };
    };
    seen = a.steady.seen ∙ ap (λ (k : Known). k.seen) a.works.view.now;
    room = none_full_on v a.between w s (works_room v a.between s a.works) (watched_room a.between w s a.steady.watched);
  }

  pub asked_hand : (knows v s).placing.hand ≡ 0 → (knows w s).placing.hand ≡ 0
  asked_hand free = ap (λ (p : Placing). p.hand) asked_hands.placing ∙ kept_free (knows v s).placing (knows a.between s).placing a.keeps free

  pub asked_hold : (knows w s).hold ≡ (knows v s).hold
  asked_hold = asked_hands.hold ∙ works_hold v a.between s [] a.works

pub still_held : (store : Store) (session : Session) (seat : Sitting) → IsHeld store session → IsHolder store seat session.number → Asks session.seat.view seat.view session.number → IsHeld store record { seat = seat; number = session.number }
still_held store session seat held holder a = let v = session.seat.view in let w = seat.view in let s = session.number in let l = (asked_looks v w s held.holder.own a).looks in record {
  holder = holder;
  rec = asked_hand v w s held.holder.own a held.rec;
  hold = asked_hold v w s held.holder.own a ∙ held.hold;
  pinned = pinned_same (knows v s) (knows w s) l.same.transaction l.pins held.pinned;
  wrote = still_wrote (knows v s) (knows w s) l.same.own held.wrote;
}

-- ---- the turn is given back

pub returned_looks : (v w : View) (s : ℕ) → Returns v w s → LooksStill v w s
returned_looks v w s r = let e = r.view.now in let k = knows v s in record {
  looks = looks_by v w s k.seen Away k.facts k.finds r.view
      record {
        seen = ([], ap (λ (m : Known). m.seen) e ∙ (same_extends k.seen).1);
        facts = ([], ap (λ (m : Known). m.facts) e ∙ (same_facts k.facts).1);
        finds = ([], ap (λ (m : Known). m.finds) e ∙ (same_finds k.finds).1);
      }
      (ap (λ (m : Known). mine s m) e);
  seen = ap (λ (m : Known). m.seen) e;
  room = none_full_still v w s (ap (λ (m : Known). m.finds) e);
}

pub returned_ready : (store : Store) (session : Session) (seat : Sitting) → IsHeld store session → IsSeatOf store seat → Returns session.seat.view seat.view session.number → IsReady store record { seat = seat; number = session.number }
returned_ready store session seat held is r = let v = session.seat.view in let w = seat.view in let s = session.number in let e = r.view.now in let l = (returned_looks v w s r).looks in record {
  seat_of = is;
  host = hosts_by v w s r.view.hosted held.holder.host;
  own = subst (λ (l : Limits). s < l.sessions) (sym r.view.limits) held.holder.own;
  idle = record { rec = ap (λ (k : Known). k.placing.hand) e ∙ held.rec; hold = ap (λ (k : Known). k.hold) e ∙ held.hold; turn = ap (λ (k : Known). rank k.turn) e };
  pinned = pinned_same (knows v s) (knows w s) l.same.transaction l.pins held.pinned;
}

-- ---- the turn is spent on the commit

module _ (v w : View) (s time : ℕ) (t : Spends v w s time) where
  abbrev k : Known
  k = knows v s

  abbrev c : txn.Commits v t.committed s time
  c = t.commits

  abbrev one : Commit
  one = commit s (knows v s).number (knows v s).begin (knows v s).own

  abbrev done : Known
  done = record (clocked (knows v s) t.commits.load.all t.commits.load.index) { is_open = false; own = []; turn = Away; seen = t.commits.load.all ++ commit s (knows v s).number (knows v s).begin (knows v s).own ∷ [] }

  spent_view : Learns v w s (unpinned v.limits done)
  spent_view = learns_then v t.committed w s done (λ (m : Known). unpinned v.limits m) c.view (subst (λ (l : Limits). Learns t.committed w s (unpinned l (knows t.committed s))) c.view.limits t.unpins.view)

  abbrev spent_finds : List Find
  spent_finds = FreshClock (length t.commits.load.all) ∷ early_find (knows v s) (length t.commits.load.all)

  -- of what is known once it is committed, and also once the pin is gone
  grown_by : (m : Known) → m.seen ≡ t.commits.load.all ++ one ∷ [] → m.facts ≡ (knows v s).facts ++ t.commits.load.index → m.finds ≡ (knows v s).finds ++ spent_finds → Grown (knows v s) m
  grown_by m seen facts finds = record {
    seen = (c.load.grows.0 ++ one ∷ [], seen ∙ (ap (λ (cs : List Commit). cs ++ one ∷ []) c.load.grows.1 ∙ append_assoc k.seen c.load.grows.0 (one ∷ [])));
    facts = (c.load.index, facts);
    finds = (spent_finds, finds);
  }

  pub spent_commits : 0 < length (knows v s).own → Commits v w s time
  spent_commits wrote = let e = spent_view.now in let o = c.view.now in record {
    called = called v w s (unpinned v.limits done) spent_view (grown_by (knows w s) (ap (λ (m : Known). m.seen) e) (ap (λ (m : Known). m.facts) e) (ap (λ (m : Known). m.finds) e));
    lists = record { drawn = ap (λ (m : Known). m.placing.drawn) e; latched = ap (λ (m : Known). m.latched) e; done = ap (λ (m : Known). m.done) e };
    ended = record { number = ap (λ (m : Known). m.number) e; is_open = ap (λ (m : Known). m.is_open) e };
    unpinned = record { pins = ap (λ (m : Known). m.pages.pins) e; pin = ap (λ (m : Known). m.pages.session.pin) e };
    wrote = wrote;
    own = ap (λ (m : Known). m.own) e;
    above = c.above;
    before = c.load.all;
    place = ap (λ (n : ℕ). n + 1) c.load.clock ∙ c.time;
    seen = ap (λ (m : Known). m.seen) e;
    mine = ap (λ (m : Known). mine s m) t.unpins.view.now ∙ c.own;
    order = record {
      over = t.committed;
      called = called v t.committed s done c.view (grown_by (knows t.committed s) (ap (λ (m : Known). m.seen) o) (ap (λ (m : Known). m.facts) o) (ap (λ (m : Known). m.finds) o));
      ended = record { number = ap (λ (m : Known). m.number) o; is_open = ap (λ (m : Known). m.is_open) o };
      pins = pins_by (knows v s) (knows t.committed s) (ap (λ (m : Known). m.pages) o);
      unpins = t.unpins;
    };
    room = record { more = spent_finds; grows = ap (λ (m : Known). m.finds) e; room = clock_not_full (knows v s) (length c.load.all) };
  }

  pub spent_idle : (knows v s).placing.hand ≡ 0 → (knows v s).hold ≡ no_hold → IsIdle (knows w s)
  spent_idle rec hold = let e = spent_view.now in record {
    rec = ap (λ (m : Known). m.placing.hand) e ∙ rec;
    hold = ap (λ (m : Known). m.hold) e ∙ hold;
    turn = ap (λ (m : Known). rank m.turn) e;
  }

  pub commits_next : hosts v s ≡ true → s < v.limits.sessions → IsFresh (knows v s) → 0 < length (knows v s).own → CommitsNext v w s time
  commits_next hosted low turn wrote = let all = clock_same v c.between s c.clock hosted low turn c.load in record {
    commits = spent_commits wrote;
    next = (let e = c.time in let f = c.load.clock in let g = ap (λ (l : List Commit). length l) all in omega arith);
    seen = ap (λ (m : Known). m.seen) spent_view.now ∙ ap (λ (l : List Commit). l ++ one ∷ []) all;
  }

pub spent_ready : (store : Store) (session : Session) (seat : Sitting) (time : ℕ) → IsHeld store session → IsSeatOf store seat → Spends session.seat.view seat.view session.number time → IsReady store record { seat = seat; number = session.number }
spent_ready store session seat time held is t = let v = session.seat.view in let w = seat.view in let s = session.number in let e = spent_view v w s time t in let c = spent_commits v w s time t held.wrote in record {
  seat_of = is;
  host = hosts_by v w s e.hosted held.holder.host;
  own = subst (λ (l : Limits). s < l.sessions) (sym e.limits) held.holder.own;
  idle = spent_idle v w s time t held.rec held.hold;
  pinned = pinned_ended (knows v s) (knows w s) c.ended c.unpinned;
}
