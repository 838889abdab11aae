-- Transactions that begin and end: from what the steps leave to what the session answers.
use Rattle.std.proofs.Common.{◌≡◌, ℕ, ◌+◌, ◌<◌, ◌≤◌, List, [], ◌∷◌, ◌++◌, Bool, true, false, length, Contains, Result, Ok, Err, IfOk, refl, subst, ap, ◌∙◌, arith, append_assoc}
use Rattle.std.proofs.lemmas.List.Elements.{All-cons}
use Rattle.lst_layout.specs.declared.limits.Limits.{Limits}
use Rattle.lst_model.specs.declared.commits.Commit.{Commit}
use Rattle.lst_core_state.specs.Writes.{commit}
use Rattle.lst_core_state.specs.declared.known.Known.{Known}
use Rattle.lst_core_state.specs.declared.facts.Fact.TheVariants.{EpochAtLeast}
use Rattle.lst_core_state.specs.declared.facts.Find.{Find}
use Rattle.lst_core_state.specs.declared.facts.Find.TheVariants.{FreshClock, FreshEpoch, HeldTurn}
use Rattle.lst_core_state.specs.Facts.{early_find}
use Rattle.lst_core_state.specs.State.{rank, mine}
use Rattle.lst_core_state.specs.declared.known.Stage.TheVariants.{Away}
use Rattle.lst_core_state.specs.Step.{took}
use Rattle.lst_rule.specs.declared.view.View.{View}
use Rattle.lst_rule.specs.Rule.{knows}
use Rattle.lst_rule.specs.Learned.{Learns}
use Rattle.lst_rule.proofs.Learning.{learns_on, learns_then}
use Rattle.lst_rule.specs.PageSteps.{pinned_at, unpinned}
use Rattle.lst_core_state.specs.declared.pages.MergerFrames.{MergerFrames}
use Rattle.lst_rule.specs.Watching.{IsNotFull}
use Rattle.lst_rule.proofs.Watching.{one_not_full, clock_not_full}
use Rattle.lst_retire.specs.Pins.{epoch_loaded}
use Rattle.lst_rule.specs.Stores.{clocked}
use Rattle.lst_write.specs.Standings.{FoundSince}
use Rattle.lst_txn.specs.Transactions as txn
use Rattle.lst_refinement.specs.Crews.{IsIdle}
use Rattle.lst_refinement.specs.Effects.{SameTransactions}
use Rattle.lst_session.specs.declared.kinds.Outcome.{Outcome}
use Rattle.lst_session.specs.declared.kinds.Outcome.TheVariants.{Committed, Ended}
use Rattle.lst_session.specs.declared.kinds.CommitRefusal.{CommitRefusal}
use Rattle.lst_session.specs.declared.kinds.CommitRefusal.TheVariants.{Idle, Busy}
use Rattle.lst_session.specs.Traces as traces
use Rattle.lst_session.specs.Calls.{Called, FindsNoneFull, Begins, IsAhead, Commits, Ends, FindsHeld}
use Rattle.lst_session.proofs.Growing.{merger_hosted, stock_stays, Grown, grown_on, pins_by, found_on, none_full_on, called, same_extends, same_facts, same_finds, none_full_still, away_stays}

-- ---- begins

-- a load of the clock, in a call that began with the view v
clock_found : (v w : View) (s clock : ℕ) (all : List Commit) → length all ≡ clock → (knows w s).finds ≡ (knows v s).finds ++ FreshClock (length all) ∷ early_find (knows v s) (length all) → FoundSince v w s (FreshClock clock)
clock_found v w s clock all long grows = record {
  more = FreshClock (length all) ∷ early_find (knows v s) (length all);
  grows = grows;
  here = subst (λ (n : ℕ). Contains (FreshClock (length all) ∷ early_find (knows v s) (length all)) (FreshClock n)) long (0, omega arith, refl);
}

clock_room : (v w : View) (s clock : ℕ) (u : Known) → (knows w s).finds ≡ (knows v s).finds ++ FreshClock clock ∷ early_find u clock → FindsNoneFull v w s
clock_room v w s clock u grows = record { more = FreshClock clock ∷ early_find u clock; grows = grows; room = clock_not_full u clock }

pub load_grown : (v w : View) (s clock : ℕ) → txn.Sees v w s clock → Grown (knows v s) (knows w s)
load_grown v w s clock o = let e = o.load.view.now in record {
  seen = (o.load.grows.0, ap (λ (k : Known). k.seen) e ∙ o.load.grows.1);
  facts = (o.load.index, ap (λ (k : Known). k.facts) e);
  finds = (FreshClock (length o.load.all) ∷ early_find (knows v s) (length o.load.all), ap (λ (k : Known). k.finds) e);
}

-- the session was pinned, and then its next transaction opened
module _ (v w : View) (s clock b : ℕ) (r : Bool) (t : traces.Begins v w s clock b r) where
  abbrev u : Known
  u = knows v s

  abbrev o : txn.Opens t.between w s clock b r
  o = t.opens

  abbrev all : List Commit
  all = t.opens.load.all

  abbrev pinned : Known
  pinned = pinned_at v.limits (epoch_loaded (knows v s) t.pins.epoch) t.pins.epoch

  opens_view : Learns v w s (record (clocked pinned all o.load.index) { number = u.number + 1; begin = b; read_only = r; is_open = true; own = [] })
  opens_view = learns_then v t.between w s pinned (λ (k : Known). record (clocked k all o.load.index) { number = k.number + 1; begin = b; read_only = r; is_open = true; own = [] }) t.pins.view o.view

  -- nothing was seen by the pinning
  pinned_seen : (knows t.between s).seen ≡ u.seen
  pinned_seen = ap (λ (k : Known). k.seen) t.pins.view.now

  abbrev clock_finds : List Find
  clock_finds = FreshClock (length all) ∷ early_find u (length all)

  all_finds : (knows w s).finds ≡ u.finds ++ FreshEpoch t.pins.epoch ∷ clock_finds
  all_finds = ap (λ (k : Known). k.finds) opens_view.now ∙ append_assoc u.finds (FreshEpoch t.pins.epoch ∷ []) clock_finds

  pub begins_grown : Grown (knows v s) (knows w s)
  begins_grown = let e = opens_view.now in record {
    seen = (o.load.grows.0, ap (λ (k : Known). k.seen) e ∙ (o.load.grows.1 ∙ ap (λ (cs : List Commit). cs ++ o.load.grows.0) pinned_seen));
    facts = (EpochAtLeast t.pins.epoch ∷ o.load.index, ap (λ (k : Known). k.facts) e ∙ append_assoc u.facts (EpochAtLeast t.pins.epoch ∷ []) o.load.index);
    finds = (FreshEpoch t.pins.epoch ∷ clock_finds, all_finds);
  }

  -- the call began as it was
  at_first : Called v v s
  at_first = called v v s (knows v s) record { now = refl; others = λ t e. refl; hosted = refl; limits = refl; note = refl; note_facts = refl; whole = refl }
      record { seen = same_extends (knows v s).seen; facts = same_facts (knows v s).facts; finds = same_finds (knows v s).finds }

  -- and was pinned before it opened a transaction
  waits_pinned : SameTransactions (knows v s) (knows t.between s)
  waits_pinned = let e = t.pins.view.now in record { number = ap (λ (k : Known). k.number) e; begin = ap (λ (k : Known). k.begin) e; read_only = ap (λ (k : Known). k.read_only) e; is_open = ap (λ (k : Known). k.is_open) e }

  pub begins : Begins v w s clock b r
  begins = let e = opens_view.now in record {
    called = called v w s _ opens_view begins_grown;
    lists = record { drawn = ap (λ (k : Known). k.placing.drawn) e; latched = ap (λ (k : Known). k.latched) e; done = ap (λ (k : Known). k.done) e };
    begun = record { number = ap (λ (k : Known). k.number) e; begin_is = ap (λ (k : Known). k.begin) e; kind = ap (λ (k : Known). k.read_only) e; is_open = ap (λ (k : Known). k.is_open) e };
    own = ap (λ (k : Known). k.own) e;
    mine = o.own ∙ ap (λ (k : Known). mine s k) t.pins.view.now;
    fresh = record {
      more = FreshEpoch t.pins.epoch ∷ clock_finds;
      grows = all_finds;
      here = subst (λ (n : ℕ). Contains (FreshEpoch t.pins.epoch ∷ clock_finds) (FreshClock n)) o.load.clock (1, omega arith, refl);
    };
    least = subst (λ (cs : List Commit). length cs ≤ clock) pinned_seen o.load.least;
    seen = ap (λ (k : Known). length k.seen) e ∙ o.load.clock;
    early = o.early;
    epoch = t.pins.epoch;
    current = t.pins.own;
    fresh_epoch = record { more = FreshEpoch t.pins.epoch ∷ clock_finds; grows = all_finds; here = (0, omega arith, refl) };
    pin = ap (λ (k : Known). k.pages.session.pin) e;
    pins = ap (λ (k : Known). k.pages.pins) e;
    order = record { before = v; pinned = t.between; called = at_first; pins = t.pins; waits = waits_pinned; opens = t.opens };
    room = record { more = FreshEpoch t.pins.epoch ∷ clock_finds; grows = all_finds; room = All-cons IsNotFull (FreshEpoch t.pins.epoch) clock_finds tt (clock_not_full u (length all)) };
  }

  pub begins_idle : IsIdle (knows v s) → IsIdle (knows w s)
  begins_idle idle = let e = opens_view.now in record {
    rec = ap (λ (k : Known). k.placing.hand) e ∙ idle.rec;
    hold = ap (λ (k : Known). k.hold) e ∙ idle.hold;
    turn = ap (λ (k : Known). rank k.turn) e ∙ away_stays (knows v s).turn idle.turn;
  }

pub is_ahead : (v w : View) (s clock time : ℕ) → clock < time → txn.Sees v w s clock → IsAhead v w s clock time
is_ahead v w s clock time below o = let e = o.load.view.now in record {
  called = called v w s _ o.load.view (load_grown v w s clock o);
  same = record {
    transaction = record { number = ap (λ (k : Known). k.number) e; begin = ap (λ (k : Known). k.begin) e; read_only = ap (λ (k : Known). k.read_only) e; is_open = ap (λ (k : Known). k.is_open) e };
    own = ap (λ (k : Known). k.own) e;
    mine = o.own;
  };
  pins = pins_by (knows v s) (knows w s) (ap (λ (k : Known). k.pages) e);
  lists = record { drawn = ap (λ (k : Known). k.placing.drawn) e; latched = ap (λ (k : Known). k.latched) e; done = ap (λ (k : Known). k.done) e };
  fresh = clock_found v w s clock o.load.all o.load.clock (ap (λ (k : Known). k.finds) e);
  least = o.load.least;
  seen = ap (λ (k : Known). length k.seen) e ∙ o.load.clock;
  below = below;
  room = clock_room v w s (length o.load.all) (knows v s) (ap (λ (k : Known). k.finds) e);
}

pub ahead_idle : (v w : View) (s clock : ℕ) → txn.Sees v w s clock → IsIdle (knows v s) → IsIdle (knows w s)
ahead_idle v w s clock o idle = let e = o.load.view.now in record {
  rec = ap (λ (k : Known). k.placing.hand) e ∙ idle.rec;
  hold = ap (λ (k : Known). k.hold) e ∙ idle.hold;
  turn = ap (λ (k : Known). rank k.turn) e ∙ away_stays (knows v s).turn idle.turn;
}

-- the clock was loaded, and found not below the time, before that
module _ (v w : View) (s clock time : ℕ) (t : traces.BeginsAsOf v w s clock time) where
  abbrev a : View
  a = t.between

  -- the load by itself, as if the clock had been found below some time
  ahead : IsAhead v t.between s t.before (t.before + 1)
  ahead = is_ahead v a s t.before (t.before + 1) (omega arith) t.sees

  after : Begins t.between w s clock time true
  after = begins a w s clock time true t.begins

  both : Grown (knows v s) (knows w s)
  both = grown_on (knows v s) (knows a s) (knows w s) (load_grown v a s t.before t.sees) (begins_grown a w s clock time true t.begins)

  pub begins_as_of : s < v.limits.sessions → Begins v w s clock time true
  begins_as_of low = let x = ahead in let y = after in let grown = load_grown v a s t.before t.sees in record {
    called = called v w s (knows w s) (learns_on v a w s (knows a s) (knows w s) x.called.learns y.called.learns) both;
    lists = record { drawn = y.lists.drawn ∙ x.lists.drawn; latched = y.lists.latched ∙ x.lists.latched; done = y.lists.done ∙ x.lists.done };
    begun = record { number = y.begun.number ∙ ap (λ (n : ℕ). n + 1) x.same.transaction.number; begin_is = y.begun.begin_is; kind = y.begun.kind; is_open = y.begun.is_open };
    own = y.own;
    mine = y.mine ∙ x.same.mine;
    fresh = found_on v a w s (FreshClock clock) grown y.fresh;
    least = let low = y.least in let more = x.least in let all = x.seen in omega arith;
    seen = y.seen;
    early = y.early;
    epoch = y.epoch;
    fresh_epoch = found_on v a w s (FreshEpoch y.epoch) grown y.fresh_epoch;
    current = λ hosted. y.current (merger_hosted v a s (knows a s) x.called.learns hosted) ∙ ap (λ (m : MergerFrames). m.epoch) (stock_stays v a s (knows a s) x.called.learns low);
    pin = y.pin;
    pins = y.pins ∙ ap (λ (n : ℕ). n + 1) x.pins.pins;
    order = let same = x.same.transaction in let waits = waits_pinned a w s clock time true t.begins in record {
      before = a;
      pinned = t.begins.between;
      called = x.called;
      pins = t.begins.pins;
      waits = record { number = waits.number ∙ same.number; begin = waits.begin ∙ same.begin; read_only = waits.read_only ∙ same.read_only; is_open = waits.is_open ∙ same.is_open };
      opens = t.begins.opens;
    };
    room = none_full_on v a w s x.room y.room;
  }

  pub as_of_idle : IsIdle (knows v s) → IsIdle (knows w s)
  as_of_idle idle = begins_idle a w s clock time true t.begins (ahead_idle v a s t.before t.sees idle)

-- ---- ends

module _ (v w : View) (s : ℕ) (t : traces.Closes v w s) where
  learns : Learns v w s (unpinned v.limits (record (knows v s) { is_open = false; own = [] }))
  learns = learns_then v t.between w s (record (knows v s) { is_open = false; own = [] }) (λ (k : Known). unpinned v.limits k) t.view
      (subst (λ (l : Limits). Learns t.between w s (unpinned l (knows t.between s))) t.view.limits t.unpins.view)

  pub ends : Ends v w s
  ends = let e = learns.now in record {
    called = called v w s _ learns record {
      seen = ([], ap (λ (k : Known). k.seen) e ∙ (same_extends (knows v s).seen).1);
      facts = ([], ap (λ (k : Known). k.facts) e ∙ (same_facts (knows v s).facts).1);
      finds = ([], ap (λ (k : Known). k.finds) e ∙ (same_finds (knows v s).finds).1);
    };
    lists = record { drawn = ap (λ (k : Known). k.placing.drawn) e; latched = ap (λ (k : Known). k.latched) e; done = ap (λ (k : Known). k.done) e };
    ended = record { number = ap (λ (k : Known). k.number) e; is_open = ap (λ (k : Known). k.is_open) e };
    unpinned = record { pins = ap (λ (k : Known). k.pages.pins) e; pin = ap (λ (k : Known). k.pages.session.pin) e };
    own = ap (λ (k : Known). k.own) e;
    mine = ap (λ (k : Known). mine s k) e;
    order = let c = t.view.now in record {
      over = t.between;
      called = called v t.between s _ t.view record {
        seen = ([], ap (λ (k : Known). k.seen) c ∙ (same_extends (knows v s).seen).1);
        facts = ([], ap (λ (k : Known). k.facts) c ∙ (same_facts (knows v s).facts).1);
        finds = ([], ap (λ (k : Known). k.finds) c ∙ (same_finds (knows v s).finds).1);
      };
      ended = record { number = ap (λ (k : Known). k.number) c; is_open = ap (λ (k : Known). k.is_open) c };
      pins = pins_by (knows v s) (knows t.between s) (ap (λ (k : Known). k.pages) c);
      unpins = t.unpins;
    };
    room = none_full_still v w s (ap (λ (k : Known). k.finds) e);
  }

  pub ends_idle : IsIdle (knows v s) → IsIdle (knows w s)
  ends_idle idle = let e = learns.now in record {
    rec = ap (λ (k : Known). k.placing.hand) e ∙ idle.rec;
    hold = ap (λ (k : Known). k.hold) e ∙ idle.hold;
    turn = ap (λ (k : Known). rank k.turn) e ∙ idle.turn;
  }

module _ (v w : View) (s : ℕ) (holds : traces.Holds v w s) where
  pub finds_held : FindsHeld v w s
  finds_held = let e = holds.view.now in record {
    called = called v w s _ holds.view record {
      seen = ([], ap (λ (k : Known). k.seen) e ∙ (same_extends (knows v s).seen).1);
      facts = ([], ap (λ (k : Known). k.facts) e ∙ (same_facts (knows v s).facts).1);
      finds = (HeldTurn ∷ [], ap (λ (k : Known). k.finds) e);
    };
    same = record {
      transaction = record { number = ap (λ (k : Known). k.number) e; begin = ap (λ (k : Known). k.begin) e; read_only = ap (λ (k : Known). k.read_only) e; is_open = ap (λ (k : Known). k.is_open) e };
      own = ap (λ (k : Known). k.own) e;
      mine = ap (λ (k : Known). mine s k) e;
    };
    pins = pins_by (knows v s) (knows w s) (ap (λ (k : Known). k.pages) e);
    lists = record { drawn = ap (λ (k : Known). k.placing.drawn) e; latched = ap (λ (k : Known). k.latched) e; done = ap (λ (k : Known). k.done) e };
    wrote = holds.writes;
    found = record { more = HeldTurn ∷ []; grows = ap (λ (k : Known). k.finds) e; here = (0, omega arith, refl) };
    other = holds.other;
    room = record { more = HeldTurn ∷ []; grows = ap (λ (k : Known). k.finds) e; room = one_not_full HeldTurn tt };
  }

  pub held_idle : IsIdle (knows v s) → IsIdle (knows w s)
  held_idle idle = let e = holds.view.now in record {
    rec = ap (λ (k : Known). k.placing.hand) e ∙ idle.rec;
    hold = ap (λ (k : Known). k.hold) e ∙ idle.hold;
    turn = ap (λ (k : Known). rank k.turn) e ∙ idle.turn;
  }

-- the turn is taken, and then spent, and the pin taken away
module _ (v w : View) (s time : ℕ) (t : traces.TakesAndCommits v w s time) where
  abbrev c : txn.Commits t.between t.committed s time
  c = t.commits

  abbrev takes : Learns v t.between s (took (knows v s))
  takes = t.takes

  abbrev k : Known
  k = knows v s

  abbrev one : Commit
  one = commit s k.number k.begin k.own

  abbrev done : Known
  done = record (clocked (took k) c.load.all c.load.index) { is_open = false; own = []; turn = Away; seen = c.load.all ++ one ∷ [] }

  spent_view : Learns v t.committed s done
  spent_view = learns_then v t.between t.committed s (took k) (λ (m : Known). record (clocked m c.load.all c.load.index) { is_open = false; own = []; turn = Away; seen = c.load.all ++ commit s m.number m.begin m.own ∷ [] }) takes c.view

  commits_view : Learns v w s (unpinned v.limits done)
  commits_view = learns_then v t.committed w s done (λ (m : Known). unpinned v.limits m) spent_view (subst (λ (l : Limits). Learns t.committed w s (unpinned l (knows t.committed s))) spent_view.limits t.unpins.view)

  -- nothing was seen by the taking
  same_seen : (knows t.between s).seen ≡ k.seen
  same_seen = ap (λ (m : Known). m.seen) takes.now

  committed_grown : Grown (knows v s) (knows t.committed s)
  committed_grown = let e = spent_view.now in record {
    seen = (c.load.grows.0 ++ one ∷ [], ap (λ (m : Known). m.seen) e ∙ (ap (λ (cs : List Commit). cs ++ one ∷ []) (c.load.grows.1 ∙ ap (λ (cs : List Commit). cs ++ c.load.grows.0) same_seen) ∙ append_assoc k.seen c.load.grows.0 (one ∷ [])));
    facts = (c.load.index, ap (λ (m : Known). m.facts) e);
    finds = (FreshClock (length c.load.all) ∷ early_find (took k) (length c.load.all), ap (λ (m : Known). m.finds) e);
  }

  pub commits : 0 < length k.own → Commits v w s time
  commits wrote = let e = commits_view.now in record {
    called = called v w s (unpinned v.limits done) commits_view record {
      seen = (c.load.grows.0 ++ one ∷ [], ap (λ (m : Known). m.seen) e ∙ (ap (λ (cs : List Commit). cs ++ one ∷ []) (c.load.grows.1 ∙ ap (λ (cs : List Commit). cs ++ c.load.grows.0) same_seen) ∙ append_assoc k.seen c.load.grows.0 (one ∷ [])));
      facts = (c.load.index, ap (λ (m : Known). m.facts) e);
      finds = (FreshClock (length c.load.all) ∷ early_find (took k) (length c.load.all), ap (λ (m : Known). m.finds) e);
    };
    lists = record { drawn = ap (λ (m : Known). m.placing.drawn) e; latched = ap (λ (m : Known). m.latched) e; done = ap (λ (m : Known). m.done) e };
    ended = record { number = ap (λ (m : Known). m.number) e; is_open = ap (λ (m : Known). m.is_open) e };
    unpinned = record { pins = ap (λ (m : Known). m.pages.pins) e; pin = ap (λ (m : Known). m.pages.session.pin) e };
    wrote = wrote;
    own = ap (λ (m : Known). m.own) e;
    above = subst (λ (cs : List Commit). length cs < time) same_seen c.above;
    before = c.load.all;
    place = ap (λ (n : ℕ). n + 1) c.load.clock ∙ c.time;
    seen = ap (λ (m : Known). m.seen) e;
    mine = ap (λ (m : Known). mine s m) t.unpins.view.now ∙ (c.own ∙ (λ i. mine s (takes.now i) ++ commit s (takes.now i).number (takes.now i).begin (takes.now i).own ∷ []));
    order = let o = spent_view.now in record {
      over = t.committed;
      called = called v t.committed s done spent_view committed_grown;
      ended = record { number = ap (λ (m : Known). m.number) o; is_open = ap (λ (m : Known). m.is_open) o };
      pins = pins_by (knows v s) (knows t.committed s) (ap (λ (m : Known). m.pages) o);
      unpins = t.unpins;
    };
    room = clock_room v w s (length c.load.all) (took k) (ap (λ (m : Known). m.finds) e);
  }

  pub commits_idle : IsIdle k → IsIdle (knows w s)
  commits_idle idle = let e = commits_view.now in record {
    rec = ap (λ (m : Known). m.placing.hand) e ∙ idle.rec;
    hold = ap (λ (m : Known). m.hold) e ∙ idle.hold;
    turn = ap (λ (m : Known). rank m.turn) e;
  }

-- ---- a commit that is tried

no_writes : {A : Type 0} (xs : List A) → length xs ≡ 0 → xs ≡ []
no_writes [] e = refl
no_writes (x ∷ xs) e = absurd (omega arith)

module _ (v w : View) (s : ℕ) where
  pub committed : (result : Result Outcome CommitRefusal) → IfOk result (λ outcome. traces.Ends v w s outcome) → (time : ℕ) → result ≡ Ok (Committed time) → Commits v w s time
  committed result ok time is = let t = subst (λ (r : Result Outcome CommitRefusal). IfOk r (λ outcome. traces.Ends v w s outcome)) is ok in commits v w s time t.1 t.0

  pub ended : (result : Result Outcome CommitRefusal) → IfOk result (λ outcome. traces.Ends v w s outcome) → (time : ℕ) → result ≡ Ok (Ended time) → (time ≡ (knows v s).begin) × ((knows v s).own ≡ []) × Ends v w s
  ended result ok time is = let t = subst (λ (r : Result Outcome CommitRefusal). IfOk r (λ outcome. traces.Ends v w s outcome)) is ok in (t.1, no_writes (knows v s).own t.0, ends v w s t.2)

  pub tried_idle : (result : Result Outcome CommitRefusal) → IfOk result (λ outcome. traces.Ends v w s outcome) → (result ≡ Err Busy → traces.Holds v w s) → ¬ (result ≡ Err Idle) → IsIdle (knows v s) → IsIdle (knows w s)
  tried_idle (Ok (Committed time)) t held opened idle = commits_idle v w s time t.1 idle
  tried_idle (Ok (Ended time)) t held opened idle = ends_idle v w s t.2 idle
  tried_idle (Err Busy) t held opened idle = held_idle v w s (held refl) idle
  tried_idle (Err Idle) t held opened idle = absurd (opened refl)

  pub tried_hosted : (result : Result Outcome CommitRefusal) → IfOk result (λ outcome. traces.Ends v w s outcome) → (result ≡ Err Busy → traces.Holds v w s) → ¬ (result ≡ Err Idle) → w.hosts ≡ v.hosts
  tried_hosted (Ok (Committed time)) t held opened = (commits v w s time t.1 t.0).called.learns.hosted
  tried_hosted (Ok (Ended time)) t held opened = (ends v w s t.2).called.learns.hosted
  tried_hosted (Err Busy) t held opened = (finds_held v w s (held refl)).called.learns.hosted
  tried_hosted (Err Idle) t held opened = absurd (opened refl)
