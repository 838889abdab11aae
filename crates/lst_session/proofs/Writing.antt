-- Writes: from what the steps leave to what the session answers.
use Rattle.std.proofs.Common.{◌≡◌, ℕ, ◌+◌, ◌*◌, ◌<◌, ◌≤◌, ◌≢◌, ◌⊎◌, Bool, true, List, [], ◌∷◌, ◌++◌, length, Option, None, Result, Ok, Err, refl, sym, subst, ap, ◌∙◌, arith, append-nil, inl, inr}
use Rattle.lst_layout.specs.declared.limits.Limits.{Limits}
use Rattle.lst_model.specs.declared.acts.Act.{Act}
use Rattle.lst_model.specs.declared.commits.Commit.{Commit}
use Rattle.lst_model.specs.Cells.{Cell}
use Rattle.lst_model.specs.declared.acts.Write.{Write}
use Rattle.lst_model.specs.Histories.{row_from, joined}
use Rattle.lst_core_state.specs.Writes.{write as write_on}
use Rattle.lst_model.specs.Soundness.{Fits}
use Rattle.lst_core_state.specs.declared.known.Known.{Known}
use Rattle.lst_core_state.specs.declared.known.Placing.{Placing}
use Rattle.lst_core_state.specs.declared.facts.Find.{Find}
use Rattle.lst_core_state.specs.declared.facts.Find.TheVariants.{LatchedRecord, UnfinishedVersion, CountedTails, FullRecords, FullTails}
use Rattle.lst_core_state.specs.Cells.{range_of}
use Rattle.lst_core_state.specs.State.{rank, mine, sight, no_hold}
use Rattle.lst_rule.specs.declared.view.View.{View}
use Rattle.lst_core_state.specs.declared.known.Hold.{Hold}
use Rattle.lst_rule.specs.Rule.{knows, hosts}
use mathlib.Core.Logic.{dite}
use native.Mathlib.Decide.{dec_lt}
use Rattle.lst_rule.specs.Learned.{Learns}
use Rattle.lst_rule.proofs.Learning.{learns_on}
use Rattle.lst_rule.specs.Seen.{HasKey}
use Rattle.lst_rule.specs.Judging.{WroteAt}
use Rattle.std.specs.List.{All}
use Rattle.std.proofs.lemmas.List.Elements.{All-nil, All-cons, All-head, All-tail}
use Rattle.lst_rule.specs.Watching.{IsNotFull, Watched}
use Rattle.lst_rule.proofs.Watching.{one_not_full}
use Rattle.lst_index.specs.Searches.{Keeps}
use Rattle.lst_index.specs.Placings.{Drew, DrawsAfterLook, WasUnplaced}
use Rattle.lst_rule.specs.Posting.{IsTailLoad, Posts}
use Rattle.lst_write.specs.Holding.{Latches}
use Rattle.lst_write.specs.Standings.{FoundSince}
use Rattle.lst_write.specs.Appending.{Appends, FindsFull}
use Rattle.lst_write.specs.Appending as appending
use Rattle.lst_refinement.specs.Crews.{IsIdle}
use Rattle.lst_session.specs.declared.kinds.WriteRefusal.{WriteRefusal}
use Rattle.lst_session.specs.declared.kinds.WriteRefusal.TheVariants.{Idle, ReadOnly, Missing, Exists, TableFull, Latched, Newer, Unfinished, TailFull}
use Rattle.lst_session.specs.Traces.{Prepares, Holding, Installs, Releases, IsLatched, Tries, MayWrite, FindsRecord, PlacesRecord}
use Rattle.lst_session.proofs.Tried.{never_idle, never_read_only, never_table_full}
use Rattle.lst_write.specs.Judgements.{HasJudged}
use Rattle.lst_session.specs.Calls.{FindsNoneFull, FindsOneFull, IsTailOf, Accepts, Refuses, HasLatched, WasJudged, Cause, row_seen}
use Rattle.lst_session.proofs.Judging.{judged_then, stops_then, newer_then}
use Rattle.lst_session.proofs.Growing.{Grown, grown_on, pins_on, pins_by, key_stays, learns_itself, called, Steps, steps_on, steps_by, steps_called, same_extends, same_facts, same_finds, works_steps, works_hold, works_latched, watched_hands, watched_steps, found_on, found_then, none_full_still, none_full_on, none_full_then, one_full_on, one_full_then, works_room, watched_room, sight_stays, seen_row}

-- ---- the record of the key

-- the session has come to the key's record, and has drawn at most so many
pub record Comes (v w : View) (s rec key most : ℕ) : Type 0 where
  pub steps : Steps v w s
  pub hold : (knows w s).hold ≡ (knows v s).hold
  pub latched : (knows w s).latched ≡ (knows v s).latched
  pub drew : Drew (knows v s).placing (knows w s).placing most
  pub after_look : DrawsAfterLook v w s key
  pub free : (knows v s).placing.hand ≡ 0 → (knows w s).placing.hand ≡ 0
  pub placed : HasKey (knows w s).facts rec key
  pub room : FindsNoneFull v w s

pub kept_drawn : (a b : Placing) → Keeps a b → b.drawn ≡ a.drawn
kept_drawn a b (inl e) = ap (λ (p : Placing). p.drawn) e
kept_drawn a b (inr k) = ap (λ (p : Placing). p.drawn) k.1

pub kept_free : (a b : Placing) → Keeps a b → a.hand ≡ 0 → b.hand ≡ 0
kept_free a b (inl e) free = ap (λ (p : Placing). p.hand) e ∙ free
kept_free a b (inr k) free = ap (λ (p : Placing). p.hand) k.1

pub drew_none : (a b : Placing) (most : ℕ) → b.drawn ≡ a.drawn → Drew a b most
drew_none a b most e = record { drew = []; drawn = e ∙ sym (append-nil a.drawn); few = omega arith }

pub found_comes : (v w : View) (s rec key : ℕ) → FindsRecord v w s rec key → Comes v w s rec key 0
found_comes v w s rec key f = record {
  steps = works_steps v w s [] f.works;
  hold = works_hold v w s [] f.works;
  latched = works_latched v w s [] f.works;
  drew = drew_none (knows v s).placing (knows w s).placing 0 (kept_drawn (knows v s).placing (knows w s).placing f.keeps);
  after_look = inl (kept_drawn (knows v s).placing (knows w s).placing f.keeps);
  free = kept_free (knows v s).placing (knows w s).placing f.keeps;
  placed = f.placed;
  room = works_room v w s f.works;
}

pub placed_comes : (v w : View) (s rec key : ℕ) → PlacesRecord v w s rec key → Comes v w s rec key 1
placed_comes v w s rec key f = record {
  steps = works_steps v w s [] f.works;
  hold = works_hold v w s [] f.works;
  latched = works_latched v w s [] f.works;
  drew = f.drew;
  after_look = f.after_look;
  free = λ e. f.free;
  placed = f.placed;
  room = works_room v w s f.works;
}

-- where no record was drawn since
pub look_stays : (v u w : View) (s key : ℕ) → (knows w s).placing ≡ (knows u s).placing → DrawsAfterLook v u s key → DrawsAfterLook v w s key
look_stays v u w s key e after = subst (λ (p : Placing). (p.drawn ≡ (knows v s).placing.drawn) ⊎ WasUnplaced v s key) (sym e) after

-- ---- with the latch in hand

pub own_then : (v w : View) (s : ℕ) → Steps v w s → s < v.limits.sessions → s < w.limits.sessions
own_then v w s st own = subst (λ (l : Limits). s < l.sessions) (sym st.learns.limits) own

-- within its transaction the session has gone on, and neither drawn nor placed a record
pub record Goes (v w : View) (s : ℕ) : Type 0 where
  pub steps : Steps v w s
  pub placing : (knows w s).placing ≡ (knows v s).placing

goes_on : (u v w : View) (s : ℕ) → Goes u v s → Goes v w s → Goes u w s
goes_on u v w s a b = record { steps = steps_on u v w s a.steps b.steps; placing = b.placing ∙ a.placing }

-- and latched none
pub record Keeping (v w : View) (s : ℕ) : Type 0 where
  pub goes : Goes v w s
  pub latched : (knows w s).latched ≡ (knows v s).latched

keeping_on : (u v w : View) (s : ℕ) → Keeping u v s → Keeping v w s → Keeping u w s
keeping_on u v w s a b = record { goes = goes_on u v w s a.goes b.goes; latched = b.latched ∙ a.latched }

watched_keeping : (v w : View) (s : ℕ) → s < v.limits.sessions → Watched v w s → Keeping v w s
watched_keeping v w s own watched = let h = watched_hands v w s watched in record { goes = record { steps = watched_steps v w s watched own; placing = h.placing }; latched = h.latched }

latch_goes : (v w : View) (s rec head : ℕ) → Latches v w s rec head → Goes v w s
latch_goes v w s rec head l = record {
  steps = steps_by v w s _ l.view record {
    grown = record { seen = same_extends (knows v s).seen; facts = (l.facts, refl); finds = same_finds (knows v s).finds };
    same = record { transaction = record { number = refl; begin = refl; read_only = refl; is_open = refl }; own = refl; mine = refl };
    pins = record { pins = refl; pin = refl };
    done = refl;
    turn = λ e. e;
  };
  placing = ap (λ (k : Known). k.placing) l.view.now;
}

appends_keeping : (v w : View) (s rec head n : ℕ) (act : Act) → Appends v w s rec head n act → Keeping v w s
appends_keeping v w s rec head n act a = record {
  goes = record {
    steps = steps_by v w s _ a.view record {
      grown = record { seen = same_extends (knows v s).seen; facts = (a.facts, refl); finds = (CountedTails (range_of rec) a.count ∷ [], refl) };
      same = record { transaction = record { number = refl; begin = refl; read_only = refl; is_open = refl }; own = refl; mine = refl };
      pins = record { pins = refl; pin = refl };
      done = refl;
      turn = λ e. e;
    };
    placing = ap (λ (k : Known). k.placing) a.view.now;
  };
  latched = ap (λ (k : Known). k.latched) a.view.now;
}

posts_keeping : (v w : View) (s : ℕ) → Posts v w s → Keeping v w s
posts_keeping v w s p = record {
  goes = record {
    steps = steps_by v w s _ p.view record {
      grown = record { seen = same_extends (knows v s).seen; facts = (p.facts, refl); finds = (p.finds, refl) };
      same = record { transaction = record { number = refl; begin = refl; read_only = refl; is_open = refl }; own = refl; mine = refl };
      pins = record { pins = refl; pin = refl };
      done = refl;
      turn = λ e. e;
    };
    placing = ap (λ (k : Known). k.placing) p.view.now;
  };
  latched = ap (λ (k : Known). k.latched) p.view.now;
}

full_keeping : (v w : View) (s range : ℕ) → FindsFull v w s range → Keeping v w s
full_keeping v w s range f = record {
  goes = record {
    steps = steps_by v w s _ f.counts.view record {
      grown = record { seen = same_extends (knows v s).seen; facts = (f.counts.facts, refl); finds = (CountedTails range f.count ∷ FullTails range ∷ [], refl) };
      same = record { transaction = record { number = refl; begin = refl; read_only = refl; is_open = refl }; own = refl; mine = refl };
      pins = record { pins = refl; pin = refl };
      done = refl;
      turn = λ e. e;
    };
    placing = ap (λ (k : Known). k.placing) f.counts.view.now;
  };
  latched = ap (λ (k : Known). k.latched) f.counts.view.now;
}

release_keeping : (v w : View) (s : ℕ) → Learns v w s (record (knows v s) { hold = no_hold }) → Keeping v w s
release_keeping v w s l = record {
  goes = record {
    steps = steps_by v w s _ l record {
      grown = record { seen = same_extends (knows v s).seen; facts = same_facts (knows v s).facts; finds = same_finds (knows v s).finds };
      same = record { transaction = record { number = refl; begin = refl; read_only = refl; is_open = refl }; own = refl; mine = refl };
      pins = record { pins = refl; pin = refl };
      done = refl;
      turn = λ e. e;
    };
    placing = ap (λ (k : Known). k.placing) l.now;
  };
  latched = ap (λ (k : Known). k.latched) l.now;
}

prepares_keeping : (v w : View) (s rec head key : ℕ) (act : Act) → s < v.limits.sessions → (result : Result ℕ WriteRefusal) → Prepares v w s rec head key act result → Keeping v w s
prepares_keeping v w s rec head key act own (Ok n) p = keeping_on v p.between w s (watched_keeping v p.between s own p.judges.watched)
    (keeping_on p.between p.appended w s (appends_keeping p.between p.appended s rec head n act p.appends) (posts_keeping p.appended w s p.posts))
prepares_keeping v w s rec head key act own (Err (Newer time)) p = watched_keeping v w s own p.0
prepares_keeping v w s rec head key act own (Err (Unfinished session number)) p = watched_keeping v w s own p.0
prepares_keeping v w s rec head key act own (Err TailFull) p = keeping_on v p.between w s (watched_keeping v p.between s own p.judges.watched) (full_keeping p.between w s (range_of rec) p.full)
prepares_keeping v w s rec head key act own (Err Idle) p = watched_keeping v w s own p.watched
prepares_keeping v w s rec head key act own (Err ReadOnly) p = watched_keeping v w s own p.watched
prepares_keeping v w s rec head key act own (Err Missing) p = watched_keeping v w s own p.watched
prepares_keeping v w s rec head key act own (Err Exists) p = watched_keeping v w s own p.watched
prepares_keeping v w s rec head key act own (Err TableFull) p = watched_keeping v w s own p.watched
prepares_keeping v w s rec head key act own (Err Latched) p = watched_keeping v w s own p.watched

-- the record was latched
pub record Latching (v w : View) (s rec : ℕ) : Type 0 where
  pub goes : Goes v w s
  pub latched : (knows w s).latched ≡ (knows v s).latched ++ rec ∷ []

latching_on : (u v w : View) (s rec : ℕ) → Latching u v s rec → Keeping v w s → Latching u w s rec
latching_on u v w s rec a b = record { goes = goes_on u v w s a.goes b.goes; latched = b.latched ∙ a.latched }

latch : (v w : View) (s rec head : ℕ) → Latches v w s rec head → Latching v w s rec
latch v w s rec head l = record { goes = latch_goes v w s rec head l; latched = ap (λ (k : Known). k.latched) l.view.now }

pub holding : (v w : View) (s rec key : ℕ) (act : Act) (result : Result ℕ WriteRefusal) → s < v.limits.sessions → Holding v w s rec key act result → Latching v w s rec
holding v w s rec key act result own h = let l : Latching v h.between s rec = latch v h.between s rec h.head h.latches in
    latching_on v h.between w s rec l (prepares_keeping h.between w s rec h.head key act (own_then v h.between s l.goes.steps own) result h.prepares)

pub released : (v w : View) (s rec key : ℕ) (act : Act) (refusal : WriteRefusal) → s < v.limits.sessions → Releases v w s rec key act refusal → Latching v w s rec
released v w s rec key act refusal own r = latching_on v r.between w s rec (holding v r.between s rec key act (Err refusal) own r.holding) (release_keeping r.between w s r.view)

-- ---- counters that were found full

-- none was, but where no tail is left that of the record's range, at last
abbrev pub Counters : View → View → ℕ → ℕ → Result ℕ WriteRefusal → Type 0
Counters v w s rec (Err TailFull) = FindsOneFull v w s (FullTails (range_of rec))
Counters v w s rec result = FindsNoneFull v w s

counters_on : (u v w : View) (s rec : ℕ) → FindsNoneFull u v s → (result : Result ℕ WriteRefusal) → Counters v w s rec result → Counters u w s rec result
counters_on u v w s rec none (Err TailFull) c = one_full_on u v w s (FullTails (range_of rec)) none c
counters_on u v w s rec none result c = none_full_on u v w s none c

counters_then : (u v w : View) (s rec : ℕ) → (knows w s).finds ≡ (knows v s).finds → (result : Result ℕ WriteRefusal) → Counters u v s rec result → Counters u w s rec result
counters_then u v w s rec e (Err TailFull) c = one_full_then u v w s (FullTails (range_of rec)) c e
counters_then u v w s rec e result c = none_full_then u v w s c e

appends_room : (v w : View) (s rec head n : ℕ) (act : Act) → Appends v w s rec head n act → FindsNoneFull v w s
appends_room v w s rec head n act a = record { more = CountedTails (range_of rec) a.count ∷ []; grows = ap (λ (k : Known). k.finds) a.view.now; room = one_not_full (CountedTails (range_of rec) a.count) tt }

load_not_full : (f : Find) → IsTailLoad f → IsNotFull f
load_not_full FullRecords load = absurd load
load_not_full (FullTails range) load = absurd load
load_not_full f load = tt

loads_not_full : (fs : List Find) → All IsTailLoad fs → All IsNotFull fs
loads_not_full [] loads = All-nil IsNotFull
loads_not_full (f ∷ fs) loads = All-cons IsNotFull f fs (load_not_full f (All-head IsTailLoad f fs loads)) (loads_not_full fs (All-tail IsTailLoad f fs loads))

posts_room : (v w : View) (s : ℕ) → Posts v w s → FindsNoneFull v w s
posts_room v w s p = record { more = p.finds; grows = ap (λ (k : Known). k.finds) p.view.now; room = loads_not_full p.finds p.loads }

full_room : (v w : View) (s range : ℕ) → FindsFull v w s range → FindsOneFull v w s (FullTails range)
full_room v w s range f = record { before = CountedTails range f.count ∷ []; grows = ap (λ (k : Known). k.finds) f.counts.view.now; room = one_not_full (CountedTails range f.count) tt }

prepares_counters : (v w : View) (s rec head key : ℕ) (act : Act) → (result : Result ℕ WriteRefusal) → Prepares v w s rec head key act result → Counters v w s rec result
prepares_counters v w s rec head key act (Ok n) p = none_full_on v p.between w s (watched_room v p.between s p.judges.watched)
    (none_full_on p.between p.appended w s (appends_room p.between p.appended s rec head n act p.appends) (posts_room p.appended w s p.posts))
prepares_counters v w s rec head key act (Err (Newer time)) p = watched_room v w s p.0
prepares_counters v w s rec head key act (Err (Unfinished session number)) p = watched_room v w s p.0
prepares_counters v w s rec head key act (Err TailFull) p = one_full_on v p.between w s (FullTails (range_of rec)) (watched_room v p.between s p.judges.watched) (full_room p.between w s (range_of rec) p.full)
prepares_counters v w s rec head key act (Err refusal) p = watched_room v w s p.watched

holding_counters : (v w : View) (s rec key : ℕ) (act : Act) (result : Result ℕ WriteRefusal) → Holding v w s rec key act result → Counters v w s rec result
holding_counters v w s rec key act result h = counters_on v h.between w s rec (none_full_still v h.between s (ap (λ (k : Known). k.finds) h.latches.view.now)) result (prepares_counters h.between w s rec h.head key act result h.prepares)

released_counters : (v w : View) (s rec key : ℕ) (act : Act) (refusal : WriteRefusal) → Releases v w s rec key act refusal → Counters v w s rec (Err refusal)
released_counters v w s rec key act refusal r = counters_then v r.between w s rec (ap (λ (k : Known). k.finds) r.view.now) (Err refusal) (holding_counters v r.between s rec key act (Err refusal) r.holding)

-- ---- where the write is made

-- the row of the key is the one that was seen
pub same_row : (v b : View) (s key : ℕ) → (knows v s).begin ≤ length (knows v s).seen → Steps v b s → row_from None (sight (knows b s) key) ≡ row_seen (knows v s) key
same_row v b s key early st = ap (row_from None) (sight_stays s (knows v s) (knows b s) key early st.stays) ∙ sym (seen_row (knows v s) key)

module _ (v u w : View) (s rec key most : ℕ) (act : Act) (may : MayWrite v s) (own : s < v.limits.sessions) (early : (knows v s).begin ≤ length (knows v s).seen) (comes : Comes v u s rec key most) where
  -- with the record latched, at b
  module _ (b : View) (l : Latching u b s rec) where
    pub to : Steps v b s
    to = steps_on v u b s comes.steps l.goes.steps

    pub drew_to : Drew (knows v s).placing (knows b s).placing most
    drew_to = subst (λ (p : Placing). Drew (knows v s).placing p most) (sym l.goes.placing) comes.drew

    pub look_to : DrawsAfterLook v b s key
    look_to = look_stays v u b s key l.goes.placing comes.after_look

    pub latched_to : (knows b s).latched ≡ (knows v s).latched ++ rec ∷ []
    latched_to = l.latched ∙ ap (λ (rs : List ℕ). rs ++ rec ∷ []) comes.latched

    pub key_to : HasKey (knows b s).facts rec key
    key_to = key_stays (knows u s) (knows b s) rec key l.goes.steps.stays.grown comes.placed

    pub hand_to : (knows v s).placing.hand ≡ 0 → (knows b s).placing.hand ≡ 0
    hand_to free = ap (λ (p : Placing). p.hand) l.goes.placing ∙ comes.free free

  module _ (i : Installs u w s rec key act) where
    own_u : s < u.limits.sessions
    own_u = own_then v u s comes.steps own

    abbrev b : View
    b = i.between

    l : Latching u b s rec
    l = holding u b s rec key act (Ok i.number) own_u i.holding

    there : Steps v b s
    there = to b l

    installs : appending.Installs b w s rec i.number key act
    installs = i.installs key i.holding.head act (key_to b l) i.holding.prepares.whole

    put : Grown (knows b s) (knows w s)
    put = let e = installs.view.now in record {
      seen = ([], ap (λ (k : Known). k.seen) e ∙ (same_extends (knows b s).seen).1);
      facts = ([], ap (λ (k : Known). k.facts) e ∙ (same_facts (knows b s).facts).1);
      finds = ([], ap (λ (k : Known). k.finds) e ∙ (same_finds (knows b s).finds).1);
    }

    learns : Learns v w s (knows w s)
    learns = learns_on v b w s (knows b s) (knows w s) there.learns (learns_itself b w s _ installs.view)

    abbrev judged : View
    judged = i.holding.prepares.between

    to_judged : Steps v judged s
    to_judged = let first : Latching u i.holding.between s rec = latch u i.holding.between s rec i.holding.head i.holding.latches in
        steps_on v i.holding.between judged s (to i.holding.between first) (watched_steps i.holding.between judged s i.holding.prepares.judges.watched (own_then u i.holding.between s first.goes.steps own_u))

    belongs : IsTailOf w.limits rec (range_of rec * b.limits.tails + i.number)
    belongs = record {
      number = i.number;
      some = i.holding.prepares.appends.some;
      few = subst (λ (m : Limits). i.number ≤ m.tails) (to_judged.learns.limits ∙ sym learns.limits) i.holding.prepares.appends.few;
      is = ap (λ (m : Limits). range_of rec * m.tails + i.number) (sym installs.view.limits);
    }

    room : FindsNoneFull v w s
    room = none_full_on v u w s comes.room (none_full_then u b w s (holding_counters u b s rec key act (Ok i.number) i.holding) (ap (λ (k : Known). k.finds) installs.view.now))

    pub accepts : Accepts v w s key most act
    accepts = let e = installs.view.now in record {
      may = may;
      called = called v w s (knows w s) learns (grown_on (knows v s) (knows b s) (knows w s) there.stays.grown put);
      transaction = record {
        number = ap (λ (k : Known). k.number) e ∙ there.stays.same.transaction.number;
        begin = ap (λ (k : Known). k.begin) e ∙ there.stays.same.transaction.begin;
        read_only = ap (λ (k : Known). k.read_only) e ∙ there.stays.same.transaction.read_only;
        is_open = ap (λ (k : Known). k.is_open) e ∙ there.stays.same.transaction.is_open;
      };
      pins = pins_on (knows v s) (knows b s) (knows w s) there.stays.pins (pins_by (knows b s) (knows w s) (ap (λ (k : Known). k.pages) e));
      fits = subst (λ (row : Option (List Cell)). Fits row act) (same_row v judged s key early to_judged) i.holding.prepares.judges.agrees;
      own = ap (λ (k : Known). k.own) e ∙ ap (λ (ws : List Write). joined ws (write_on key act)) there.stays.same.own;
      mine = ap (mine s) e ∙ there.stays.same.mine;
      drew = subst (λ (p : Placing). Drew (knows v s).placing p most) (sym (ap (λ (k : Known). k.placing) e)) (drew_to b l);
      after_look = look_stays v b w s key (ap (λ (k : Known). k.placing) e) (look_to b l);
      rec = rec;
      tail = range_of rec * b.limits.tails + i.number;
      placed = key_stays (knows b s) (knows w s) rec key put (key_to b l);
      latched = ap (λ (k : Known). k.latched) e ∙ latched_to b l;
      done = ap (λ (k : Known). k.done) e ∙ (λ j. there.stays.done j ++ record { number = there.stays.same.transaction.number j; rec = rec; tail = range_of rec * b.limits.tails + i.number } ∷ []);
      belongs = belongs;
      room = room;
    }

    pub accepts_idle : IsIdle (knows v s) → IsIdle (knows w s)
    accepts_idle idle = let e = installs.view.now in record {
      rec = ap (λ (k : Known). k.placing.hand) e ∙ hand_to b l idle.rec;
      hold = ap (λ (k : Known). k.hold) e;
      turn = ap (λ (k : Known). rank k.turn) e ∙ there.stays.turn idle.turn;
    }

  -- ---- where it is refused

  -- with the latch given back
  module _ (refusal : WriteRefusal) (r : Releases u w s rec key act refusal) where
    own_s : s < u.limits.sessions
    own_s = own_then v u s comes.steps own

    -- before
    held : Latching u r.between s rec
    held = holding u r.between s rec key act (Err refusal) own_s r.holding

    pub back : Keeping r.between w s
    back = release_keeping r.between w s r.view

    pub freed : Latching u w s rec
    freed = latching_on u r.between w s rec held back

    pub refuses : Refuses v w s key most
    refuses = let st = to w freed in record { called = steps_called v w s st; same = st.stays.same; pins = st.stays.pins; done = st.stays.done; drew = drew_to w freed; after_look = look_to w freed }

    pub refuses_idle : IsIdle (knows v s) → IsIdle (knows w s)
    refuses_idle idle = let st = to w freed in record { rec = hand_to w freed idle.rec; hold = ap (λ (k : Known). k.hold) r.view.now; turn = st.stays.turn idle.turn }

    pub counters : Counters v w s rec (Err refusal)
    counters = counters_on v u w s rec comes.room (Err refusal) (released_counters u w s rec key act refusal r)

    -- since the latch, till it is given back
    pub under : Steps r.holding.between r.between s
    under = let h : View = r.holding.between in let first = latch_goes u h s rec r.holding.head r.holding.latches in
        (prepares_keeping h r.between s rec r.holding.head key act (own_then u h s first.steps own_s) (Err refusal) r.holding.prepares).goes.steps

    abbrev pub has_latched : HasLatched v w s key
    has_latched = record {
      rec = rec;
      head = r.holding.head;
      placed = key_to w freed;
      latched = latched_to w freed;
      before = u;
      after = r.holding.between;
      first = steps_called v u s comes.steps;
      latches = r.holding.latches;
      word = r.holding.word;
      last = steps_called r.holding.between w s (steps_on r.holding.between r.between w s under back.goes.steps);
      back = r.between;
      held = steps_called r.holding.between r.between s under;
      release = r.word;
    }

    -- the misfit was found at r.between
    pub is_misfit : ¬ Fits (row_from None (sight (knows r.between s) key)) act → ¬ Fits (row_seen (knows v s) key) act
    is_misfit misfit = subst (λ (row : Option (List Cell)). ¬ Fits row act) (same_row v r.between s key early (to r.between held)) misfit

    -- what was found since the latch
    since : (f : Find) → FoundSince r.holding.between r.between s f → FoundSince v w s f
    since f x = let first = latch_goes u r.holding.between s rec r.holding.head r.holding.latches in
        found_then v r.between w s f (found_on v r.holding.between r.between s f (grown_on (knows v s) (knows u s) (knows r.holding.between s) comes.steps.stays.grown first.steps.stays.grown) x) back.goes.steps.stays.grown

    begin_held : (knows r.between s).begin ≡ (knows v s).begin
    begin_held = (to r.between held).stays.same.transaction.begin

    pub seen_back : (knows w s).seen ≡ (knows r.between s).seen
    seen_back = ap (λ (k : Known). k.seen) r.view.now

    -- the chain was judged at r.between
    was_judged : HasJudged r.between.limits (knows r.between s) s rec r.holding.head → WasJudged v w s key
    was_judged is = record { latch = has_latched; judged = judged_then r.between w s rec r.holding.head back.goes.steps seen_back is }

  -- the record was found latched
  module _ (f : IsLatched u w s rec) where
    finds : Steps u w s
    finds = steps_by u w s _ f.finds.view record {
      grown = record { seen = same_extends (knows u s).seen; facts = (f.finds.facts, refl); finds = (LatchedRecord rec ∷ [], refl) };
      same = record { transaction = record { number = refl; begin = refl; read_only = refl; is_open = refl }; own = refl; mine = refl };
      pins = record { pins = refl; pin = refl };
      done = refl;
      turn = λ e. e;
    }

    -- each session had the latch in hand that it had before
    latch_stays : (t : ℕ) → (knows u t).hold.latch ≡ (knows v t).hold.latch
    latch_stays t = dite (dec_lt t s) (λ h. other t (omega arith)) (λ h. dite (dec_lt s t) (λ k. other t (omega arith)) (λ k. subst (λ (j : ℕ). (knows u j).hold.latch ≡ (knows v j).hold.latch) (let e : s ≡ t = omega arith in e) (ap (λ (d : Hold). d.latch) comes.hold)))
      where
        other : (j : ℕ) → j ≢ s → (knows u j).hold.latch ≡ (knows v j).hold.latch
        other j apart = ap (λ (k : Known). k.hold.latch) (comes.steps.learns.others j apart)

    other_has : ¬ ((t : ℕ) → t < v.limits.sessions → (hosts v t ≡ true) × ((knows v t).hold.latch ≢ rec + 1))
    other_has none = f.other (λ t low. let n = none t (subst (λ (l : Limits). t < l.sessions) comes.steps.learns.limits low) in
        (ap (λ (hs : List Bool). hosts record v { hosts = hs } t) comes.steps.learns.hosted ∙ n.0, λ e. n.1 (sym (latch_stays t) ∙ e)))

    pub latched_refuses : Refuses v w s key most
    latched_refuses = let st = steps_on v u w s comes.steps finds in record {
      called = steps_called v w s st;
      same = st.stays.same;
      pins = st.stays.pins;
      done = st.stays.done;
      drew = subst (λ (p : Placing). Drew (knows v s).placing p most) (sym (ap (λ (k : Known). k.placing) f.finds.view.now)) comes.drew;
      after_look = look_stays v u w s key (ap (λ (k : Known). k.placing) f.finds.view.now) comes.after_look;
    }

    pub latched_idle : IsIdle (knows v s) → IsIdle (knows w s)
    latched_idle idle = let st = steps_on v u w s comes.steps finds in record {
      rec = ap (λ (k : Known). k.placing.hand) f.finds.view.now ∙ comes.free idle.rec;
      hold = ap (λ (k : Known). k.hold) f.finds.view.now ∙ (comes.hold ∙ idle.hold);
      turn = st.stays.turn idle.turn;
    }

    pub latched_cause : Cause v w s key act Latched
    latched_cause = (
      may,
      record {
        rec = rec;
        placed = key_stays (knows u s) (knows w s) rec key finds.stays.grown comes.placed;
        found = found_on v u w s (LatchedRecord rec) comes.steps.stays.grown record { more = LatchedRecord rec ∷ []; grows = ap (λ (k : Known). k.finds) f.finds.view.now; here = (0, omega arith, refl) };
        other = other_has;
      },
      ap (λ (k : Known). k.latched) f.finds.view.now ∙ comes.latched,
      none_full_on v u w s comes.room record { more = LatchedRecord rec ∷ []; grows = ap (λ (k : Known). k.finds) f.finds.view.now; room = one_not_full (LatchedRecord rec) tt },
    )

  -- each refusal has its cause
  pub caused : (refusal : WriteRefusal) → Tries u w s rec key act (Err refusal) → Cause v w s key act refusal
  unfolding was_judged
  caused Idle t = absurd (never_idle u w s rec key act t)
  caused ReadOnly t = absurd (never_read_only u w s rec key act t)
  caused TableFull t = absurd (never_table_full u w s rec key act t)
  caused Latched t = latched_cause t
  caused Missing t = (may, (is_misfit Missing t t.holding.prepares.agrees.0, t.holding.prepares.agrees.1), inr (was_judged Missing t t.holding.prepares.judged), counters Missing t)
  caused Exists t = (may, (is_misfit Exists t t.holding.prepares.agrees.0, t.holding.prepares.agrees.1), was_judged Exists t t.holding.prepares.judged, counters Exists t)
  caused (Newer time) t = let f = t.holding.prepares.1 in (
    may,
    subst (λ (b : ℕ). b < time) (begin_held (Newer time) t) f.above,
    (f.version.writer, subst (λ (h : List Commit). WroteAt h time f.version.writer key) (sym (seen_back (Newer time) t)) (f.wrote key (key_to t.between (held (Newer time) t)))),
    record { latch = has_latched (Newer time) t; newer = newer_then t.between w s t.view rec t.holding.head time f },
    counters (Newer time) t,
  )
  caused (Unfinished j n) t = let f = t.holding.prepares.1 in (
    may,
    record {
      other = f.other;
      latch = has_latched (Unfinished j n) t;
      passed = f.passed;
      version = f.version;
      older = f.older;
      stops = stops_then t.between w s t.view rec t.holding.head f.passed f.version f.older f.stops;
      writer = f.writer;
      found = since (Unfinished j n) t _ (subst (λ (b : ℕ). FoundSince t.holding.between t.between s (UnfinishedVersion (rec + 1) f.version.tail j n (b + 1))) (begin_held (Unfinished j n) t) f.found);
    },
    counters (Unfinished j n) t,
  )
  caused TailFull t = let p = t.holding.prepares in let h : View = t.holding.between in
      let first : Latching u h s rec = latch u h s rec t.holding.head t.holding.latches in let own_h : s < h.limits.sessions = own_then u h s first.goes.steps (own_then v u s comes.steps own) in
      let watched : Keeping h p.between s = watched_keeping h p.between s own_h p.judges.watched in (
        may,
        subst (λ (row : Option (List Cell)). Fits row act) (same_row v p.between s key early (steps_on v h p.between s (to h first) watched.goes.steps)) p.judges.agrees,
        record {
          judged = was_judged TailFull t (judged_then p.between t.between s rec t.holding.head (full_keeping p.between t.between s (range_of rec) p.full).goes.steps (ap (λ (k : Known). k.seen) p.full.counts.view.now) p.judges.judged);
          found = since TailFull t (FullTails (range_of rec)) (found_on h p.between t.between s (FullTails (range_of rec)) watched.goes.steps.stays.grown record {
            more = CountedTails (range_of rec) p.full.count ∷ FullTails (range_of rec) ∷ [];
            grows = ap (λ (k : Known). k.finds) p.full.counts.view.now;
            here = (1, omega arith, refl);
          });
          alone = counters TailFull t;
        },
      )

  pub refused : (refusal : WriteRefusal) → Tries u w s rec key act (Err refusal) → Refuses v w s key most × Cause v w s key act refusal
  refused Idle t = absurd (never_idle u w s rec key act t)
  refused ReadOnly t = absurd (never_read_only u w s rec key act t)
  refused TableFull t = absurd (never_table_full u w s rec key act t)
  refused Latched t = (latched_refuses t, caused Latched t)
  refused Missing t = (refuses Missing t, caused Missing t)
  refused Exists t = (refuses Exists t, caused Exists t)
  refused (Newer time) t = (refuses (Newer time) t, caused (Newer time) t)
  refused (Unfinished j n) t = (refuses (Unfinished j n) t, caused (Unfinished j n) t)
  refused TailFull t = (refuses TailFull t, caused TailFull t)

  -- nothing is left in hand
  pub tried_idle : (result : Result (Unit {0}) WriteRefusal) → Tries u w s rec key act result → IsIdle (knows v s) → IsIdle (knows w s)
  tried_idle (Ok x) t idle = accepts_idle t idle
  tried_idle (Err Idle) t idle = refuses_idle Idle t idle
  tried_idle (Err ReadOnly) t idle = refuses_idle ReadOnly t idle
  tried_idle (Err TableFull) t idle = refuses_idle TableFull t idle
  tried_idle (Err Latched) t idle = latched_idle t idle
  tried_idle (Err Missing) t idle = refuses_idle Missing t idle
  tried_idle (Err Exists) t idle = refuses_idle Exists t idle
  tried_idle (Err (Newer time)) t idle = refuses_idle (Newer time) t idle
  tried_idle (Err (Unfinished j n)) t idle = refuses_idle (Unfinished j n) t idle
  tried_idle (Err TailFull) t idle = refuses_idle TailFull t idle
