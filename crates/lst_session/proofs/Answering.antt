-- What each call of a session answers, from what led to it.
use Rattle.std.proofs.Common.{◌≡◌, ◌⊎◌, ℕ, ◌<◌, ◌≤◌, List, [], ◌∷◌, ◌++◌, Bool, true, false, length, Option, None, Result, Ok, Err, IfOk, IfErr, OnOk, OnErr, refl, sym, subst, ap, ◌∙◌, arith, append-nil, inl, inr, slice_index_or}
use Rattle.lst_layout.specs.declared.limits.Limits.{Limits}
use Rattle.std.proofs.lemmas.List.Elements.{All-nil}
use Rattle.lst_model.specs.declared.acts.Act.{Act}
use Rattle.lst_model.specs.declared.acts.Act.TheVariants.{Put, Set, Del}
use Rattle.lst_model.specs.Cells.{Cell}
use Rattle.lst_model.specs.Histories.{row_from}
use Rattle.lst_model.specs.Soundness.{Fits}
use Rattle.lst_core_state.specs.declared.known.Known.{Known}
use Rattle.lst_core_state.specs.declared.known.Placing.{Placing}
use Rattle.lst_core_state.specs.declared.facts.Find.TheVariants.{FullRecords}
use Rattle.lst_rule.specs.declared.view.View.{View}
use Rattle.lst_rule.specs.Rule.{knows, hosts}
use Rattle.lst_rule.specs.Learned.{Possible}
use Rattle.lst_rule.proofs.Learning.{learns_same}
use Rattle.lst_rule.specs.Watching.{IsNotFull}
use Rattle.lst_rule.specs.declared.store.Store.{Store}
use Rattle.lst_rule.specs.Seats.{Sitting}
use Rattle.lst_rule.specs.Stores.{IsSeatOf}
use Rattle.lst_txn.specs.declared.begins.BeginFault.{BeginFault}
use Rattle.lst_txn.specs.declared.begins.BeginFault.TheVariants.{Active, Spent, Future}
use Rattle.lst_txn.specs.Transactions as txn
use Rattle.lst_refinement.specs.Crews.{IsIdle, IsPinnedWhereOpen}
use Rattle.lst_session.specs.declared.kinds.WriteRefusal.{WriteRefusal}
use Rattle.lst_session.specs.declared.kinds.WriteRefusal.TheVariants.{Idle, ReadOnly, Missing, Exists, TableFull, Latched, Newer, Unfinished, TailFull}
use Rattle.lst_session.specs.Traces as traces
use Rattle.lst_session.specs.Traces.{is_put, misfit_of, FindsNone, FindsFullTable, Reads, TriesPlaced, TriesFound, MayWrite, Inserts, Changes}
use Rattle.lst_walk.proofs.Walking.{row_of_key}
use Rattle.lst_session.specs.declared.session.Session.{Session}
use Rattle.lst_session.specs.Calls.{FindsOneFull, SameLists, Begins, Gets, Accepts, Refuses, Cause, row_seen}
use Rattle.lst_session.specs.Passes.{IsReady}
use Rattle.lst_session.proofs.Growing.{Steps, pins_stay, steps_on, steps_called, works_steps, works_hold, works_latched, watched_hands, watched_steps, none_full_on, one_full_on, works_room, watched_room, begun_early, sight_stays, seen_row}
use Rattle.lst_session.proofs.Turning.{begins, begins_idle, begins_as_of, as_of_idle, ahead_idle}
use Rattle.lst_session.proofs.Writing.{Comes, found_comes, placed_comes, kept_drawn, kept_free, own_then, accepts, refused, tried_idle}

-- ---- the session is ready again

pub ready : (store : Store) (old : Session) (seat : Sitting) → IsReady store old → IsSeatOf store seat → seat.view.hosts ≡ old.seat.view.hosts → IsIdle (knows seat.view old.number) → IsPinnedWhereOpen (knows seat.view old.number)
    → IsReady store record { seat = seat; number = old.number }
ready store old seat r is hosted idle pinned = record {
  seat_of = is;
  host = ap (λ (hs : List Bool). slice_index_or hs old.number false) hosted ∙ r.host;
  own = subst (λ (l : Limits). old.number < l.sessions) (r.seat_of.limits ∙ sym is.limits) r.own;
  idle = idle;
  pinned = pinned;
}

-- ---- begins

pub same_view : (old new : Sitting) (result : Result ℕ BeginFault) → OnErr result (new ≡ old) → OnErr result (new.view ≡ old.view)
same_view old new (Ok b) e = tt
same_view old new (Err fault) e = ap (λ (seat : Sitting). seat.view) e

module _ (v w : View) (s : ℕ) where
  pub begun : (result : Result ℕ BeginFault) → IfOk result (λ b. traces.Begins v w s b b false) → IfOk result (λ b. Begins v w s b b false)
  begun (Ok b) o = begins v w s b b false o
  begun (Err fault) o = tt

  pub begun_idle : (result : Result ℕ BeginFault) → IfOk result (λ b. traces.Begins v w s b b false) → OnErr result (w ≡ v) → IsIdle (knows v s) → IsIdle (knows w s)
  begun_idle (Ok b) o e idle = begins_idle v w s b b false o idle
  begun_idle (Err fault) o e idle = subst (λ (u : View). IsIdle (knows u s)) (sym e) idle

  module _ (time : ℕ) (low : s < v.limits.sessions) where
    pub opened : (result : Result ℕ BeginFault) → IfOk result (λ b. (b ≡ time) × ((clock : ℕ) × traces.BeginsAsOf v w s clock time)) → IfOk result (λ b. (b ≡ time) × ((clock : ℕ) × Begins v w s clock time true))
    opened (Ok b) o = (o.0, (o.1.0, begins_as_of v w s o.1.0 time o.1.1 low))
    opened (Err fault) o = tt

    pub opened_idle : (result : Result ℕ BeginFault) → IfOk result (λ b. (b ≡ time) × ((clock : ℕ) × traces.BeginsAsOf v w s clock time)) → ((clock : ℕ) → result ≡ Err (Future clock) → (clock < time) × txn.Sees v w s clock)
        → ((result ≡ Err Active) ⊎ (result ≡ Err Spent) → w ≡ v) → IsIdle (knows v s) → IsIdle (knows w s)
    opened_idle (Ok b) o f e idle = as_of_idle v w s o.1.0 time o.1.1 idle
    opened_idle (Err Active) o f e idle = subst (λ (u : View). IsIdle (knows u s)) (sym (e (inl refl))) idle
    opened_idle (Err Spent) o f e idle = subst (λ (u : View). IsIdle (knows u s)) (sym (e (inr refl))) idle
    opened_idle (Err (Future clock)) o f e idle = ahead_idle v w s clock (f clock refl).1 idle

-- ---- reads

module _ (v w : View) (s key : ℕ) (row : Option (List Cell)) (own : s < v.limits.sessions) (early : (knows v s).begin ≤ length (knows v s).seen) (is_open : (knows v s).is_open ≡ true) where
  none_lists : FindsNone v w s key → SameLists (knows v s) (knows w s)
  none_lists f = record { drawn = kept_drawn (knows v s).placing (knows w s).placing f.keeps; latched = works_latched v w s [] f.works; done = (works_steps v w s [] f.works).stays.done }

  pub gets : Reads v w s key row → Gets v w s key row
  gets (inl n) = let st : Steps v w s = works_steps v w s [] n.1.works in record {
    called = steps_called v w s st;
    same = st.stays.same;
    pins = st.stays.pins;
    lists = none_lists n.1;
    is = n.0 ∙ sym (seen_row (knows w s) key ∙ ap (row_from None) (n.1.unseen.own (st.stays.same.transaction.is_open ∙ is_open)));
    room = works_room v w s n.1.works;
  }
  gets (inr r) = let come : Comes v r.between s r.rec key 0 = found_comes v r.between s r.rec key r.found in let hands = watched_hands r.between w s r.watched in
      let st : Steps v w s = steps_on v r.between w s come.steps (watched_steps r.between w s r.watched (own_then v r.between s come.steps own)) in record {
        called = steps_called v w s st;
        same = st.stays.same;
        pins = st.stays.pins;
        lists = record {
          drawn = ap (λ (p : Placing). p.drawn) hands.placing ∙ kept_drawn (knows v s).placing (knows r.between s).placing r.found.keeps;
          latched = hands.latched ∙ come.latched;
          done = st.stays.done;
        };
        is = row_of_key r.between s r.rec row r.is key r.found.placed ∙ (ap (row_from None) (sight_stays s (knows v s) (knows r.between s) key early come.steps.stays ∙ sym (sight_stays s (knows v s) (knows w s) key early st.stays)) ∙ sym (seen_row (knows w s) key));
        room = none_full_on v r.between w s come.room (watched_room r.between w s r.watched);
      }

  pub gets_idle : Reads v w s key row → IsIdle (knows v s) → IsIdle (knows w s)
  gets_idle (inl n) idle = record {
    rec = kept_free (knows v s).placing (knows w s).placing n.1.keeps idle.rec;
    hold = works_hold v w s [] n.1.works ∙ idle.hold;
    turn = (works_steps v w s [] n.1.works).stays.turn idle.turn;
  }
  gets_idle (inr r) idle = let come : Comes v r.between s r.rec key 0 = found_comes v r.between s r.rec key r.found in let hands = watched_hands r.between w s r.watched in record {
    rec = ap (λ (p : Placing). p.hand) hands.placing ∙ come.free idle.rec;
    hold = hands.hold ∙ (come.hold ∙ idle.hold);
    turn = (watched_steps r.between w s r.watched (own_then v r.between s come.steps own)).stays.turn (come.steps.stays.turn idle.turn);
  }

-- ---- writes

-- nothing was done at all
refuses_still : (v : View) (s key most : ℕ) → Refuses v v s key most
refuses_still v s key most = record {
  called = record { learns = learns_same v s; seen = ([], sym (append-nil (knows v s).seen)); facts = λ f h. h; finds = ([], sym (append-nil (knows v s).finds)) };
  same = record { transaction = record { number = refl; begin = refl; read_only = refl; is_open = refl }; own = refl; mine = refl };
  pins = pins_stay (knows v s);
  done = refl;
  drew = record { drew = []; drawn = sym (append-nil (knows v s).placing.drawn); few = omega arith };
  after_look = inl refl;
}

pub refuses_at_once : (v w : View) (s key most : ℕ) → w ≡ v → Refuses v w s key most
refuses_at_once v w s key most e = subst (λ (u : View). Refuses v u s key most) (sym e) (refuses_still v s key most)

idle_at_once : (v w : View) (s : ℕ) → w ≡ v → IsIdle (knows v s) → IsIdle (knows w s)
idle_at_once v w s e idle = subst (λ (u : View). IsIdle (knows u s)) (sym e) idle

same_refusal : (a b : WriteRefusal) → ◌≡◌ {A = Result (Unit {0}) WriteRefusal} (Err a) (Err b) → a ≡ b
same_refusal a b e = cc

drew_nothing : (xs ys more : List ℕ) → ys ≡ xs ++ more → length more ≤ 0 → ys ≡ xs
drew_nothing xs ys [] e few = e ∙ append-nil xs
drew_nothing xs ys (m ∷ more) e few = absurd (omega arith)

-- each record was drawn
module _ (v w : View) (s key : ℕ) (f : FindsFullTable v w s key) where
  full_steps : Steps v w s
  full_steps = steps_on v f.full.then w s (works_steps v f.full.then s [] f.full.before) (works_steps f.full.then w s (FullRecords ∷ []) f.full.after)

  drawn_still : (knows w s).placing.drawn ≡ (knows v s).placing.drawn
  drawn_still = drew_nothing (knows v s).placing.drawn (knows w s).placing.drawn f.drew.drew f.drew.drawn f.drew.few

  full_refuses : Refuses v w s key 1
  full_refuses = record {
    called = steps_called v w s full_steps;
    same = full_steps.stays.same;
    pins = full_steps.stays.pins;
    done = full_steps.stays.done;
    drew = record { drew = f.drew.drew; drawn = f.drew.drawn; few = (let h = f.drew.few in omega arith) };
    after_look = inl drawn_still;
  }

  full_room : FindsOneFull v w s FullRecords
  full_room = one_full_on v f.full.then w s FullRecords (works_room v f.full.then s f.full.before) record { before = []; grows = ap (λ (k : Known). k.finds) f.full.after.view.now; room = All-nil IsNotFull }

  full_cause : MayWrite v s → (act : Act) → is_put act ≡ true → Cause v w s key act TableFull
  full_cause may act put = (may, put, f.full, works_latched f.full.then w s (FullRecords ∷ []) f.full.after ∙ works_latched v f.full.then s [] f.full.before, drawn_still, full_room)

  full_idle : IsIdle (knows v s) → IsIdle (knows w s)
  full_idle idle = record {
    rec = f.free;
    hold = works_hold f.full.then w s (FullRecords ∷ []) f.full.after ∙ (works_hold v f.full.then s [] f.full.before ∙ idle.hold);
    turn = full_steps.stays.turn idle.turn;
  }

-- an act that puts no row doesn't fit where there is none
none_misfit : (act : Act) → is_put act ≡ false → ¬ Fits None act × (Missing ≡ misfit_of act)
none_misfit (Put row) e = cc
none_misfit (Set patch) e = ((λ f. f), refl)
none_misfit Del e = ((λ f. f), refl)

-- the key has no record
module _ (v w : View) (s key : ℕ) (is_open : (knows v s).is_open ≡ true) (early : (knows v s).begin ≤ length (knows v s).seen) (f : FindsNone v w s key) where
  none_steps : Steps v w s
  none_steps = works_steps v w s [] f.works

  -- the transaction sees no row
  no_row : row_seen (knows v s) key ≡ None
  no_row = seen_row (knows v s) key ∙ ap (row_from None) (sym (sight_stays s (knows v s) (knows w s) key early none_steps.stays) ∙ f.unseen.own (none_steps.stays.same.transaction.is_open ∙ is_open))

  none_refuses : Refuses v w s key 0
  none_refuses = record {
    called = steps_called v w s none_steps;
    same = none_steps.stays.same;
    pins = none_steps.stays.pins;
    done = none_steps.stays.done;
    drew = record { drew = []; drawn = kept_drawn (knows v s).placing (knows w s).placing f.keeps ∙ sym (append-nil (knows v s).placing.drawn); few = omega arith };
    after_look = inl (kept_drawn (knows v s).placing (knows w s).placing f.keeps);
  }

  none_cause : MayWrite v s → (act : Act) → is_put act ≡ false → Cause v w s key act Missing
  none_cause may act put = (may, (subst (λ (row : Option (List Cell)). ¬ Fits row act) (sym no_row) (none_misfit act put).0, (none_misfit act put).1), inl (works_latched v w s [] f.works, record { works = f.works; ended = f.ended }), works_room v w s f.works)

  none_idle : IsIdle (knows v s) → IsIdle (knows w s)
  none_idle idle = record {
    rec = kept_free (knows v s).placing (knows w s).placing f.keeps idle.rec;
    hold = works_hold v w s [] f.works ∙ idle.hold;
    turn = none_steps.stays.turn idle.turn;
  }

module _ (v w : View) (s key : ℕ) (act : Act) (p : Possible v) (hosted : hosts v s ≡ true) (own : s < v.limits.sessions) where
  early : MayWrite v s → (knows v s).begin ≤ length (knows v s).seen
  early may = begun_early v s p hosted may.0

  -- ---- a put

  placed_accepts : (x : Unit {0}) → MayWrite v s → TriesPlaced v w s key act (Ok x) → Accepts v w s key 1 act
  placed_accepts x may t = accepts v t.between w s t.rec key 1 act may own (early may) (placed_comes v t.between s t.rec key t.places) t.tries

  placed_refused : (refusal : WriteRefusal) → MayWrite v s → TriesPlaced v w s key act (Err refusal) → Refuses v w s key 1 × Cause v w s key act refusal
  placed_refused refusal may t = refused v t.between w s t.rec key 1 act may own (early may) (placed_comes v t.between s t.rec key t.places) refusal t.tries

  placed_idle : (result : Result (Unit {0}) WriteRefusal) → MayWrite v s → TriesPlaced v w s key act result → IsIdle (knows v s) → IsIdle (knows w s)
  placed_idle result may t idle = tried_idle v t.between w s t.rec key 1 act may own (early may) (placed_comes v t.between s t.rec key t.places) result t.tries idle

  insert_refused : is_put act ≡ true → (refusal : WriteRefusal) → Inserts v w s key act (Err refusal) → Refuses v w s key 1 × Cause v w s key act refusal
  insert_refused put Idle i = (refuses_at_once v w s key 1 i.0, i)
  insert_refused put ReadOnly i = (refuses_at_once v w s key 1 i.0, i)
  insert_refused put TableFull i = (full_refuses v w s key i.1, full_cause v w s key i.1 i.0 act put)
  insert_refused put Missing i = placed_refused Missing i.0 i.1
  insert_refused put Exists i = placed_refused Exists i.0 i.1
  insert_refused put Latched i = placed_refused Latched i.0 i.1
  insert_refused put (Newer time) i = placed_refused (Newer time) i.0 i.1
  insert_refused put (Unfinished j n) i = placed_refused (Unfinished j n) i.0 i.1
  insert_refused put TailFull i = placed_refused TailFull i.0 i.1

  pub inserted : (result : Result (Unit {0}) WriteRefusal) → Inserts v w s key act result → OnOk result (Accepts v w s key 1 act)
  inserted (Ok x) i = placed_accepts x i.0 i.1
  inserted (Err refusal) i = tt

  pub not_inserted : is_put act ≡ true → (result : Result (Unit {0}) WriteRefusal) → Inserts v w s key act result → IfErr result (λ refusal. Refuses v w s key 1 × Cause v w s key act refusal)
  not_inserted put (Ok x) i = tt
  not_inserted put (Err refusal) i = insert_refused put refusal i

  pub inserted_idle : (result : Result (Unit {0}) WriteRefusal) → Inserts v w s key act result → IsIdle (knows v s) → IsIdle (knows w s)
  inserted_idle (Ok x) i idle = placed_idle (Ok x) i.0 i.1 idle
  inserted_idle (Err Idle) i idle = idle_at_once v w s i.0 idle
  inserted_idle (Err ReadOnly) i idle = idle_at_once v w s i.0 idle
  inserted_idle (Err TableFull) i idle = full_idle v w s key i.1 idle
  inserted_idle (Err Missing) i idle = placed_idle (Err Missing) i.0 i.1 idle
  inserted_idle (Err Exists) i idle = placed_idle (Err Exists) i.0 i.1 idle
  inserted_idle (Err Latched) i idle = placed_idle (Err Latched) i.0 i.1 idle
  inserted_idle (Err (Newer time)) i idle = placed_idle (Err (Newer time)) i.0 i.1 idle
  inserted_idle (Err (Unfinished j n)) i idle = placed_idle (Err (Unfinished j n)) i.0 i.1 idle
  inserted_idle (Err TailFull) i idle = placed_idle (Err TailFull) i.0 i.1 idle

  pub inserted_hosted : is_put act ≡ true → (result : Result (Unit {0}) WriteRefusal) → Inserts v w s key act result → w.hosts ≡ v.hosts
  inserted_hosted put (Ok x) i = (placed_accepts x i.0 i.1).called.learns.hosted
  inserted_hosted put (Err refusal) i = (insert_refused put refusal i).0.called.learns.hosted

  -- ---- any other act

  abbrev Tried : Result (Unit {0}) WriteRefusal → Type 0
  Tried result = ((result ≡ Err Missing) × FindsNone v w s key) ⊎ TriesFound v w s key act result

  found_accepts : (x : Unit {0}) → MayWrite v s → Tried (Ok x) → Accepts v w s key 0 act
  found_accepts x may (inl n) = absurd (let e = n.0 in cc)
  found_accepts x may (inr t) = accepts v t.between w s t.rec key 0 act may own (early may) (found_comes v t.between s t.rec key t.finds) t.tries

  found_refused : is_put act ≡ false → (refusal : WriteRefusal) → MayWrite v s → Tried (Err refusal) → Refuses v w s key 0 × Cause v w s key act refusal
  found_refused put refusal may (inl n) = subst (λ (r : WriteRefusal). Refuses v w s key 0 × Cause v w s key act r) (sym (same_refusal refusal Missing n.0))
      (none_refuses v w s key may.0 (early may) n.1, none_cause v w s key may.0 (early may) n.1 may act put)
  found_refused put refusal may (inr t) = refused v t.between w s t.rec key 0 act may own (early may) (found_comes v t.between s t.rec key t.finds) refusal t.tries

  found_idle : (result : Result (Unit {0}) WriteRefusal) → MayWrite v s → Tried result → IsIdle (knows v s) → IsIdle (knows w s)
  found_idle result may (inl n) idle = none_idle v w s key may.0 (early may) n.1 idle
  found_idle result may (inr t) idle = tried_idle v t.between w s t.rec key 0 act may own (early may) (found_comes v t.between s t.rec key t.finds) result t.tries idle

  change_refused : is_put act ≡ false → (refusal : WriteRefusal) → Changes v w s key act (Err refusal) → Refuses v w s key 0 × Cause v w s key act refusal
  change_refused put Idle i = (refuses_at_once v w s key 0 i.0, i)
  change_refused put ReadOnly i = (refuses_at_once v w s key 0 i.0, i)
  change_refused put TableFull i = found_refused put TableFull i.0 i.1
  change_refused put Missing i = found_refused put Missing i.0 i.1
  change_refused put Exists i = found_refused put Exists i.0 i.1
  change_refused put Latched i = found_refused put Latched i.0 i.1
  change_refused put (Newer time) i = found_refused put (Newer time) i.0 i.1
  change_refused put (Unfinished j n) i = found_refused put (Unfinished j n) i.0 i.1
  change_refused put TailFull i = found_refused put TailFull i.0 i.1

  pub changed : (result : Result (Unit {0}) WriteRefusal) → Changes v w s key act result → OnOk result (Accepts v w s key 0 act)
  changed (Ok x) i = found_accepts x i.0 i.1
  changed (Err refusal) i = tt

  pub not_changed : is_put act ≡ false → (result : Result (Unit {0}) WriteRefusal) → Changes v w s key act result → IfErr result (λ refusal. Refuses v w s key 0 × Cause v w s key act refusal)
  not_changed put (Ok x) i = tt
  not_changed put (Err refusal) i = change_refused put refusal i

  pub changed_idle : (result : Result (Unit {0}) WriteRefusal) → Changes v w s key act result → IsIdle (knows v s) → IsIdle (knows w s)
  changed_idle (Ok x) i idle = found_idle (Ok x) i.0 i.1 idle
  changed_idle (Err Idle) i idle = idle_at_once v w s i.0 idle
  changed_idle (Err ReadOnly) i idle = idle_at_once v w s i.0 idle
  changed_idle (Err TableFull) i idle = found_idle (Err TableFull) i.0 i.1 idle
  changed_idle (Err Missing) i idle = found_idle (Err Missing) i.0 i.1 idle
  changed_idle (Err Exists) i idle = found_idle (Err Exists) i.0 i.1 idle
  changed_idle (Err Latched) i idle = found_idle (Err Latched) i.0 i.1 idle
  changed_idle (Err (Newer time)) i idle = found_idle (Err (Newer time)) i.0 i.1 idle
  changed_idle (Err (Unfinished j n)) i idle = found_idle (Err (Unfinished j n)) i.0 i.1 idle
  changed_idle (Err TailFull) i idle = found_idle (Err TailFull) i.0 i.1 idle

  pub changed_hosted : is_put act ≡ false → (result : Result (Unit {0}) WriteRefusal) → Changes v w s key act result → w.hosts ≡ v.hosts
  changed_hosted put (Ok x) i = (found_accepts x i.0 i.1).called.learns.hosted
  changed_hosted put (Err refusal) i = (change_refused put refusal i).0.called.learns.hosted
