-- A key gets its record.
use Rattle.std.proofs.Common.{◌≡◌, ℕ, ◌/◌, ◌<◌, ◌≤◌, false, cond, not, List, [], ◌∷◌, ◌++◌, length, get_or, refl, sym, ap, ◌∙◌, subst, arith, ⊎_elim}
use Rattle.std.proofs.lemmas.Bool.{eq-eqb, cases_lt}
use Rattle.std.proofs.lemmas.List.{map-append, length-append, get_or_append_left}
use Rattle.std.proofs.Math.Seq.{get_or-append_seam}
use Rattle.std.specs.Prelude.{Option, Some, None, is_some, unwrap_or, MatchOption, ◌==◌, ◌&&◌}
use Rattle.lst_layout.specs.declared.limits.Limits.{Limits}
use Rattle.lst_machine.specs.State.{Accepted, Store}
use Rattle.lst_machine.specs.Writes.{place_of, range_of, time_of, last_where, rival_of}
use Rattle.lst_machine.specs.Calls.{with_placed}
use Rattle.lst_plain.specs.declared.versions.Pending.{Pending}
use Rattle.lst_plain.specs.Rows.{Kept, fresh, newest, keys_of, kept_of}
use Rattle.lst_plain.specs.Engines.{EngineState}
use Rattle.lst_plain.specs.Steps.{with_record}
use Rattle.lst_plain.specs.Telling.{own_acts, acts_by, has_write, is_live, is_apart, last_settled, accepted_on, IsReached, KeyTells, StoreTells}
use Rattle.lst_machine.proofs.Places.{with_last, place-append}
use Rattle.lst_plain.proofs.Placing.{kept-add}
use Rattle.lst_plain.proofs.Acting.{acts_by-none, last-none}
use Rattle.lst_plain.proofs.Seeing.{no_write_unplaced}
use Rattle.lst_plain.proofs.Opening.{pending_same}

module _ (store : Store) (new : ℕ) (unplaced : place_of store.placed new ≡ None) (reached : IsReached store) where
  abbrev after : Store
  after = record store { placed = store.placed ++ new ∷ [] }

  pub is_with_placed : with_placed store new ≡ after
  is_with_placed = ap (λ place. record store { placed = cond (is_some place) store.placed (store.placed ++ new ∷ []) }) unplaced

  place_kept : (key place : ℕ) → place_of store.placed key ≡ Some place → place_of (store.placed ++ new ∷ []) key ≡ Some place
  place_kept key place is = place-append store.placed new key ∙ ap (λ p. with_last p (new == key) (length store.placed)) is

  -- what is read of the writes on a key is the same
  same_on : {A : Type 0} (read : List Accepted → A) (none : A) (key : ℕ) → ((writes : List Accepted) → has_write key writes ≡ false → read writes ≡ none) → read (accepted_on after key) ≡ read (accepted_on store key)
  same_on read none key empty = at (place_of store.placed key) refl
    where
      at : (place : Option ℕ) → place_of store.placed key ≡ place → read (accepted_on after key) ≡ read (accepted_on store key)
      at None is = empty _ (no_write_unplaced store reached (range_of (store.placed ++ new ∷ []) key) key is) ∙ sym (empty _ (no_write_unplaced store reached (range_of store.placed key) key is))
      at (Some place) is = ap (λ p. read (store.accepted (unwrap_or p 0 / 256))) (place_kept key place is ∙ sym is)

  same_own : (session key : ℕ) → own_acts after session key ≡ own_acts store session key
  same_own session key = same_on (acts_by session (store.begins session) key) [] key (acts_by-none session (store.begins session) key)

  no_live : (key : ℕ) (write : Accepted) → (write.write.key == key) ≡ false → is_live store key write ≡ false
  no_live key write other = ap (λ b. b && not (store.closed write.session write.number)) other

  same_rival : (key : ℕ) → rival_of after key ≡ rival_of store key
  same_rival key = same_on (last_where (is_live store key)) None key (λ writes none. last-none key (is_live store key) writes none (no_live key))

  same_settled : (key : ℕ) (pending : Option Pending) → last_settled after key pending ≡ last_settled store key pending
  same_settled key pending = same_on (last_where (λ write. is_live store key write && is_apart pending write)) None key
      (λ writes none. last-none key (λ write. is_live store key write && is_apart pending write) writes none (λ write other. ap (λ b. b && is_apart pending write) (no_live key write other)))

  pub key_placed : (kept : Kept) (key : ℕ) → KeyTells kept store key → KeyTells kept after key
  key_placed kept key tells = record {
    rows = tells.rows;
    rising = tells.rising;
    early = tells.early;
    others = λ session is free. same_own session key ∙ tells.others session is free;
    pending = λ pending is. pending_same store after key kept.versions pending refl refl (same_own pending.session key) (same_rival key) (tells.pending pending is);
    last = subst (λ (last : Option Accepted). MatchOption last (newest kept.versions ≡ 0) (λ write. time_of store.history write.session write.number ≡ Some (newest kept.versions))) (sym (same_settled key kept.pending)) tells.last;
  }

  pub reached_placed : IsReached after
  reached_placed = record {
    home = λ range key is. let home = reached.home range key is in (home.0, place_kept key home.0 home.1, home.2);
    distinct = λ place low. ⊎_elim (before place) (last place low) (cases_lt place (length store.placed));
    unused = reached.unused;
    not_closed = reached.not_closed;
    not_committed = reached.not_committed;
    open_not_closed = reached.open_not_closed;
    open_not_committed = reached.open_not_committed;
    open_begun = reached.open_begun;
  }
    where
      before : (place : ℕ) → place < length store.placed → place_of (store.placed ++ new ∷ []) (get_or (store.placed ++ new ∷ []) place 0) ≡ Some place
      before place low = ap (place_of (store.placed ++ new ∷ [])) (get_or_append_left store.placed (new ∷ []) 0 place low) ∙ place_kept (get_or store.placed place 0) place (reached.distinct place low)

      last : (place : ℕ) → place < length (store.placed ++ new ∷ []) → length store.placed ≤ place → place_of (store.placed ++ new ∷ []) (get_or (store.placed ++ new ∷ []) place 0) ≡ Some place
      last place low high =
          let at : length store.placed ≡ place = omega (arith, length-append store.placed (new ∷ [])) in
          subst (λ (p : ℕ). place_of (store.placed ++ new ∷ []) (get_or (store.placed ++ new ∷ []) p 0) ≡ Some p) at
          (ap (place_of (store.placed ++ new ∷ [])) (get_or-append_seam store.placed new [] 0)
          ∙ place-append store.placed new new
          ∙ ap (λ p. with_last p (new == new) (length store.placed)) unplaced
          ∙ ap (λ b. cond b (Some (length store.placed)) None) (eq-eqb new new refl))

pub tells_placed : (engine : EngineState) (limits : Limits) (store : Store) (new : ℕ) → StoreTells engine limits store → place_of (keys_of engine.records) new ≡ None
    → StoreTells (with_record engine new) limits (with_placed store new)
tells_placed engine limits store new told absent =
    let unplaced : place_of store.placed new ≡ None = ap (λ keys. place_of keys new) told.placed ∙ absent in
    let records : List Kept = engine.records ++ fresh new ∷ [] in
    subst (λ (s : Store). StoreTells (with_record engine new) limits s) (sym (is_with_placed store new unplaced told.reached))
    (record {
      same_limits = told.same_limits;
      clock = told.clock;
      placed = ap (λ keys. keys ++ new ∷ []) told.placed ∙ sym (map-append (λ (kept : Kept). kept.key) engine.records (fresh new ∷ []));
      counts = told.counts;
      sessions = λ session low. let here = told.sessions session low in record {
        begins = here.begins;
        opened = here.opened;
      };
      keys = λ key. subst (λ (kept : Kept). KeyTells kept (record store { placed = store.placed ++ new ∷ [] }) key) (sym (kept-add engine.records new key)) (key_placed store new unplaced told.reached (kept_of engine.records key) key (told.keys key));
      reached = reached_placed store new unplaced told.reached;
    })
