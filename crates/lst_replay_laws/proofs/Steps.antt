-- One call after the other of a commit that is run again.
use Rattle.std.proofs.Common.{◌≡◌, ◌≢◌, ◌⊎◌, ⊎_elim, ℕ, ◌+◌, ◌*◌, ◌<◌, ◌≤◌, Bool, true, false, cond, not, List, [], ◌∷◌, ◌++◌, length, refl, sym, ap, ◌∙◌, subst, arith, inl, inr, append_assoc, append-nil, length-append, eq-eqb, ne_eqb}
use Rattle.std.proofs.lemmas.Bool.{leb-true, leb-false}
use Rattle.std.specs.Prelude.{Option, Some, None, is_some, is_none, unwrap_or, nat_le, ◌==◌, ◌&&◌, ◌/◌}
use Rattle.std.specs.List.{AllByRecursion}
use mathlib.Core.Logic.{dite}
use native.Mathlib.Decide.{ℕ_discrete}
use Rattle.lst_layout.specs.declared.limits.Limits.{Limits}
use Rattle.lst_model.specs.declared.acts.Act.{Act}
use Rattle.lst_model.specs.declared.acts.Act.TheVariants.{Put, Set, Del}
use Rattle.lst_model.specs.declared.acts.Write.{Write}
use Rattle.lst_model.specs.declared.commits.Commit.{Commit}
use Rattle.lst_model.specs.declared.lines.Call.TheVariants.{Begin}
use Rattle.lst_model.specs.declared.replies.Reply.{Reply}
use Rattle.lst_model.specs.declared.replies.Reply.TheVariants.{Begun, Done, Committed, Refused}
use Rattle.lst_model.specs.declared.replies.Cause.{Cause}
use Rattle.lst_model.specs.declared.replies.Cause.TheVariants.{Active, Spent, Missing, Exists, TableFull, TailFull}
use Rattle.lst_model.specs.Cells.{Cell}
use Rattle.lst_model.specs.Tables.{no_rows, all_applied, row_of}
use Rattle.lst_model.specs.Histories.{replayed, snapshot, acts_on, StandByKey}
use Rattle.lst_model.specs.Soundness.{Fits}
use Rattle.lst_model.proofs.Folds.{acts_on-append}
use Rattle.lst_machine.specs.State.{Accepted, Opened, Store}
use Rattle.lst_machine.specs.Writes.{put, is_placed, with_key, range_of, time_of, conflict_of, accepted_below, gathered, own_writes, sight_of}
use Rattle.lst_machine.specs.Calls.{first_of, where_true, refused_or, in_open, begin_refusal, opened_unless, with_opened, with_placed, with_accepted, accepted_unless, placed_unless, early_insert_refusal, late_insert_refusal, insert_refusal, change_refusal, is_range_full, after_insert, after_change, end_reply, with_commit, after_commit, call_reply, store_after}
use Rattle.lst_machine.proofs.Appending.{or_last, time-append, time-front}
use Rattle.lst_machine.proofs.Places.{place_stays, key_placed}
use Rattle.lst_machine.proofs.Acting.{acts_by, all_map, all_push, acts_none, gathered_acts, put_here, put_else, longer, flat_none, flat_other, flat_more}
use Rattle.lst_snapshots.specs.Replays.{MayFollow, FollowsLater}
use Rattle.lst_replay_laws.specs.Again.{call_of, commits_by, all_again, placed_by, keys_written, writes_in}
use Rattle.lst_replay_laws.specs.Rests.{IsCommitted, IsInPlace, IsSettled, IsSettledOrOwn, IsRested, IsUnderWay, begun_behind}
use Rattle.lst_replay_laws.specs.Laws.{OpeningRests, BeginsAgain, WritesAgain, CommitsAgain}
use Rattle.lst_replay_laws.proofs.Lists.{same_by_key, gathered_stand, front_stands, counted, uncounted, commits_by-append, writes_in-split, again-append, again-length}
use Rattle.lst_replay_laws.proofs.Keys.{placed_by-split, placed_by_all-split, range_low}
use Rattle.lst_replay_laws.proofs.Rows.{seen_again, fits_again, unplaced_is_absent, none_in_way}

pub opening_rests : OpeningRests
opening_rests limits = record {
  history = refl;
  begins = λ s. refl;
  opened = λ s. refl;
  placed = refl;
  room = omega arith;
  accepted = λ range. tt;
  few = λ range. omega arith;
  sessions = tt;
  each = λ s. omega arith;
}

-- ---- a begin

abbrev begun_at : ℕ → Opened
begun_at time = record { begin = time; read_only = false }

module _ (limits : Limits) (commits : List Commit) (store : Store) (s : ℕ) (known : s < limits.sessions) (is : IsRested limits commits store) where
  abbrev pub after : Store
  after = with_opened store s (length store.history) false

  not_made : (range : ℕ) (a : Accepted) → IsSettled store range a → a.session ≡ s → a.number ≡ after.begins s → ⊥
  not_made range a settled e f =
      let low = settled.0.begun in
      let same : store.begins a.session ≡ store.begins s = ap store.begins e in
      let next : after.begins s ≡ store.begins s + 1 = put_here store.begins s (store.begins s + 1) in
      omega (arith, low, same, next, f)

  none_own : own_writes limits after s ≡ []
  none_own = same_by_key 0 (own_writes limits after s) [] (gathered_stand s (after.begins s) [] (accepted_below after.accepted limits.ranges) tt) tt (λ key.
      gathered_acts s (after.begins s) key [] (accepted_below after.accepted limits.ranges) tt
      ∙ flat_none s (after.begins s) key store.accepted limits.ranges (λ range. acts_none s (after.begins s) key (store.accepted range) (all_map (λ a settled e f g. not_made range a settled e f) (store.accepted range) (is.accepted range))))

  begins_are : (t : ℕ) → after.begins t ≡ commits_by t commits + cond (s == t) 1 0
  begins_are t = dite (ℕ_discrete t s)
      (λ e. let here = put_here store.begins s (store.begins s + 1) in let one = counted (s == t) (eq-eqb s t (sym e)) in let was = is.begins s in let mine : after.begins t ≡ after.begins s = ap after.begins e in let same : commits_by s commits ≡ commits_by t commits = ap (λ x. commits_by x commits) (sym e) in omega (arith, here, one, was, mine, same))
      (λ other. let one = uncounted (s == t) (ne_eqb s t (λ e. other (sym e))) in let else = put_else store.begins s (store.begins s + 1) t other in let was = is.begins t in omega (arith, one, else, was))

  more_begun : (range : ℕ) (a : Accepted) → IsSettled store range a → IsSettledOrOwn after s range a
  more_begun range a settled = (record { placed = settled.0.placed; home = settled.0.home; begun = at }, inl settled.1)
    where
      at : a.number ≤ after.begins a.session
      at = let low = settled.0.begun in let was = is.begins a.session in let now = begins_are a.session in omega (arith, low, was, now)

  under_way : commits_by s commits < limits.txns → IsUnderWay limits commits s [] after
  under_way low = record {
    history = is.history;
    begins = begins_are;
    opened = put_here store.opened s (Some (begun_at (length store.history))) ∙ ap (λ (h : List Commit). Some (begun_at (length h))) is.history ∙ ap (λ (time : ℕ). Some (begun_at time)) (again-length [] commits);
    others = λ t other. put_else store.opened s (Some (begun_at (length store.history))) t other ∙ is.opened t;
    placed = is.placed;
    room = is.room;
    own = none_own;
    accepted = λ range. all_map (more_begun range) (store.accepted range) (is.accepted range);
    few = λ range. let few = is.few range in omega (arith, few);
    sessions = is.sessions;
    each = is.each;
    known = omega (arith, known);
    more = omega (arith, low);
  }

  refusal_is : (b : Bool) → nat_le limits.txns (store.begins s) ≡ b → begin_refusal limits store s ≡ cond b (Some Spent) None
  refusal_is b e = (λ i. first_of (where_true (is_some (is.opened s i)) Active ∷ where_true (e i) Spent ∷ [])) ∙ at b
    where
      at : (b : Bool) → first_of (None ∷ where_true b Spent ∷ []) ≡ cond b (Some Spent) None
      at true = refl
      at false = refl

  pub begun_again : ((call_reply limits store s Begin ≡ Begun (length commits)) × (commits_by s commits < limits.txns) × IsUnderWay limits commits s [] (store_after limits store s Begin))
      ⊎ ((call_reply limits store s Begin ≡ Refused Spent) × (limits.txns ≤ commits_by s commits))
  begun_again = at (nat_le limits.txns (store.begins s)) refl
    where
      at : (b : Bool) → nat_le limits.txns (store.begins s) ≡ b → ((call_reply limits store s Begin ≡ Begun (length commits)) × (commits_by s commits < limits.txns) × IsUnderWay limits commits s [] (store_after limits store s Begin))
          ⊎ ((call_reply limits store s Begin ≡ Refused Spent) × (limits.txns ≤ commits_by s commits))
      at true e = inr (ap (λ r. refused_or r (Begun (length store.history))) (refusal_is true e), let high = leb-true _ _ e in let was = is.begins s in omega (arith, high, was))
      at false e = let fewer : commits_by s commits < limits.txns = (let low = leb-false _ _ e in let was = is.begins s in omega (arith, low, was)) in inl (
        ap (λ r. refused_or r (Begun (length store.history))) (refusal_is false e) ∙ ap (λ (h : List Commit). Begun (length h)) is.history ∙ ap Begun (again-length [] commits),
        fewer,
        subst (λ (r : Option Cause). IsUnderWay limits commits s [] (opened_unless r store s (length store.history) false)) (sym (refusal_is false e)) (under_way fewer),
      )

pub begins_again : BeginsAgain
begins_again limits commits store s known is = begun_again limits commits store s known is

-- ---- a write

absent_is : (row : Option (List Cell)) (cells : List Cell) → Fits row (Put cells) → is_some row ≡ false
absent_is None cells fits = refl
absent_is (Some old) cells fits = absurd fits

present_is : (row : Option (List Cell)) (patch : List (Option Cell)) → Fits row (Set patch) → is_none row ≡ false
present_is None patch fits = absurd fits
present_is (Some old) patch fits = refl

present_too : (row : Option (List Cell)) → Fits row Del → is_none row ≡ false
present_too None fits = absurd fits
present_too (Some old) fits = refl

module _ (limits : Limits) (commits : List Commit) (s : ℕ) (done : List Write) (key : ℕ) (act : Act) (stand : StandByKey (done ++ record { key = key; act = act } ∷ [])) (store : Store) (is : IsUnderWay limits commits s done store) where
  abbrev pub w : Write
  w = record { key = key; act = act }

  abbrev pub n : ℕ
  n = store.begins s

  abbrev pub wide : Store
  wide = with_placed store key

  abbrev pub range : ℕ
  range = range_of wide.placed key

  abbrev pub made : Accepted
  made = record { session = s; number = n; write = w }

  abbrev pub accepted' : ℕ → List Accepted
  accepted' = longer store.accepted range made

  abbrev pub flat : List Accepted
  flat = accepted_below store.accepted limits.ranges

  abbrev pub flat' : List Accepted
  flat' = accepted_below accepted' limits.ranges

  placed_now : is_placed wide.placed key ≡ true
  placed_now = key_placed store.placed key

  in_place : (r : ℕ) (a : Accepted) → IsInPlace store.placed store.begins r a → IsInPlace wide.placed store.begins r a
  in_place r a place = record {
    placed = ap is_some (place_stays store.placed key a.write.key place.placed) ∙ place.placed;
    home = (let same = place_stays store.placed key a.write.key place.placed in λ i. range_at (same i)) ∙ place.home;
    begun = place.begun;
  }
    where
      range_at : Option ℕ → ℕ
      range_at p = unwrap_or p 0 / 256

  made_is : IsSettledOrOwn wide s range made
  made_is = (record { placed = placed_now; home = refl; begun = omega arith }, inr (refl, refl))

  at_range : (P : ℕ → List Accepted → Type 0) → ((r : ℕ) → P r (store.accepted r)) → P range (store.accepted range ++ made ∷ []) → (r : ℕ) → P r (accepted' r)
  at_range P all more r = dite (ℕ_discrete r range)
      (λ e. subst (λ (y : ℕ). P y (accepted' y)) (sym e) (subst (P range) (sym (put_here store.accepted range (store.accepted range ++ made ∷ []))) more))
      (λ other. subst (P r) (sym (put_else store.accepted range (store.accepted range ++ made ∷ []) r other)) (all r))

  elsewhere : (other : ℕ) → other ≢ range → acts_by s n key (store.accepted other) ≡ []
  elsewhere other apart = acts_none s n key (store.accepted other) (all_map (λ a settled e f g. apart (sym (in_place other a settled.0).home ∙ ap (range_of wide.placed) g)) (store.accepted other) (is.accepted other))

  module _ (room : length wide.placed ≤ 256 * limits.ranges) where
    more_acts : (q : ℕ) → acts_by s n q flat' ≡ acts_by s n q flat ++ acts_on q (w ∷ [])
    more_acts q = dite (ℕ_discrete key q)
        (λ e. flat_more store.accepted range made s n q act refl refl e refl (λ other apart. subst (λ k. acts_by s n k (store.accepted other) ≡ []) e (elsewhere other apart)) limits.ranges (range_low wide.placed key limits.ranges placed_now room)
        ∙ ap (λ b. acts_by s n q flat ++ cond b (act ∷ []) []) (sym (eq-eqb key q e)))
        (λ other. flat_other store.accepted range made s n q (λ e f g. other g) limits.ranges ∙ sym (append-nil (acts_by s n q flat)) ∙ ap (λ b. acts_by s n q flat ++ cond b (act ∷ []) []) (sym (ne_eqb key q other)))

    own_now : own_writes limits (with_accepted wide s key act) s ≡ done ++ w ∷ []
    own_now = same_by_key 0 (gathered s n [] flat') (done ++ w ∷ []) (gathered_stand s n [] flat' tt) stand (λ q.
        gathered_acts s n q [] flat' tt
        ∙ more_acts q
        ∙ ap (λ acts. acts ++ acts_on q (w ∷ [])) (sym (gathered_acts s n q [] flat tt) ∙ ap (acts_on q) is.own)
        ∙ sym (acts_on-append q done (w ∷ [])))

    pub written : IsUnderWay limits commits s (done ++ w ∷ []) (with_accepted wide s key act)
    written = record {
      history = is.history;
      begins = is.begins;
      opened = is.opened;
      others = is.others;
      placed = ap (λ p. with_key p key) is.placed ∙ sym (placed_by-split (keys_written commits) done (w ∷ []));
      room = room;
      own = own_now;
      accepted = at_range (λ r xs. AllByRecursion (IsSettledOrOwn wide s r) xs) (λ r. all_map (λ a settled. (in_place r a settled.0, settled.1)) (store.accepted r) (is.accepted r))
          (all_push (IsSettledOrOwn wide s range) (store.accepted range) made (all_map (λ a settled. (in_place range a settled.0, settled.1)) (store.accepted range) (is.accepted range)) made_is);
      few = at_range (λ r xs. length xs ≤ writes_in commits + length (done ++ w ∷ []))
          (λ r. let few = is.few r in let more = length-append done (w ∷ []) in omega (arith, few, more))
          (let few = is.few range in let more = length-append done (w ∷ []) in let longer_by = length-append (store.accepted range) (made ∷ []) in omega (arith, few, more, longer_by));
      sessions = is.sessions;
      each = is.each;
      known = is.known;
      more = is.more;
    }

  -- ---- what is asked of it

  history_length : length store.history ≡ length commits
  history_length = ap length is.history ∙ again-length [] commits

  free_in : (placed : List ℕ) → conflict_of (record store { placed = placed }) s (length commits) key ≡ None
  free_in placed = none_in_way store.history s (length commits) (λ other. other.write.key == key && not (store.closed other.session other.number)) (store.accepted (range_of placed key)) (omega (arith, history_length))
      (all_map (λ a settled. ⊎_elim (λ (x : IsCommitted store.history a.session a.number). inl x) (λ (x : (a.session ≡ s) × (a.number ≡ store.begins s)). inr x.0) settled.1) (store.accepted (range_of placed key)) (is.accepted (range_of placed key)))

  sight_is : sight_of limits store s (length commits) ≡ all_applied (replayed no_rows commits) done
  sight_is = (λ i. snapshot (is.history i) (length commits) (is.own i)) ∙ seen_again commits done

  full_is : (b : Bool) → is_range_full limits wide key ≡ b → b ≡ true → limits.tails ≤ writes_in commits + length done
  full_is b e f = let high = leb-true _ _ (e ∙ f) in let few = is.few range in omega (arith, high, few)

  abbrev pub Answered : Reply → Store → Type 0
  Answered answer later = ((answer ≡ Done) × IsUnderWay limits commits s (done ++ w ∷ []) later)
      ⊎ (((answer ≡ Refused TableFull) × (256 * limits.ranges < length (placed_by (keys_written commits) (done ++ w ∷ []))))
      ⊎ ((answer ≡ Refused TailFull) × (limits.tails ≤ writes_in commits + length done)))

  -- by whether the range is full, once the key has a record
  by_range : length wide.placed ≤ 256 * limits.ranges → (b : Bool) → is_range_full limits wide key ≡ b → Answered (refused_or (where_true b TailFull) Done) (accepted_unless (where_true b TailFull) wide s key act)
  by_range room true e = inr (inr (refl, full_is true e refl))
  by_range room false e = inl (refl, written room)

  single : (cause : Option Cause) → first_of (cause ∷ []) ≡ cause
  single None = refl
  single (Some cause) = refl

  -- a change: its key has a record already
  module _ (fits : is_none (row_of (all_applied (replayed no_rows commits) done) key) ≡ false) where
    placed_yet : is_placed store.placed key ≡ true
    placed_yet = at (is_placed store.placed key) refl
      where
        at : (b : Bool) → is_placed store.placed key ≡ b → b ≡ true
        at true e = refl
        at false e =
            let none : row_of (all_applied (replayed no_rows commits) done) key ≡ None = unplaced_is_absent commits done key (ap (λ p. is_placed p key) (sym is.placed) ∙ e) in
            let no : true ≡ false = sym (ap is_none none) ∙ fits in absurd (cc)

    same_placed : wide.placed ≡ store.placed
    same_placed = ap (λ b. cond b store.placed (store.placed ++ key ∷ [])) placed_yet

    change_is : change_refusal limits store s (begun_behind commits) key ≡ where_true (is_range_full limits store key) TailFull
    change_is =
        (λ i. first_of (None ∷ where_true (not (placed_yet i)) Missing ∷ free_in store.placed i ∷ where_true (is_none (row_of (sight_is i) key)) Missing ∷ where_true (is_range_full limits store key) TailFull ∷ []))
        ∙ ap (λ b. first_of (None ∷ None ∷ None ∷ where_true b Missing ∷ where_true (is_range_full limits store key) TailFull ∷ [])) fits
        ∙ single (where_true (is_range_full limits store key) TailFull)

    changed_by : (refusal : Option Cause) → change_refusal limits store s (begun_behind commits) key ≡ refusal → refusal ≡ where_true (is_range_full limits store key) TailFull → Answered (refused_or refusal Done) (accepted_unless refusal store s key act)
    changed_by refusal e f = subst (λ (r : Option Cause). Answered (refused_or r Done) (accepted_unless r store s key act)) (sym f)
        (subst (λ (p : List ℕ). Answered (refused_or (where_true (is_range_full limits (record store { placed = p }) key) TailFull) Done) (accepted_unless (where_true (is_range_full limits (record store { placed = p }) key) TailFull) (record store { placed = p }) s key act)) same_placed
        (by_range (subst (λ (p : List ℕ). length p ≤ 256 * limits.ranges) (sym same_placed) is.room) (is_range_full limits wide key) refl))

    pub changed : Answered (in_open (store.opened s) (λ transaction. refused_or (change_refusal limits store s transaction key) Done)) (after_change limits store s (store.opened s) key act)
    changed = subst (λ (o : Option Opened). Answered (in_open o (λ transaction. refused_or (change_refusal limits store s transaction key) Done)) (after_change limits store s o key act)) (sym is.opened)
        (changed_by (change_refusal limits store s (begun_behind commits) key) refl change_is)

  -- an insert
  module _ (fits : is_some (row_of (all_applied (replayed no_rows commits) done) key) ≡ false) where
    late_is : late_insert_refusal limits wide s (begun_behind commits) key ≡ where_true (is_range_full limits wide key) TailFull
    late_is =
        (λ i. first_of (free_in wide.placed i ∷ where_true (is_some (row_of (sight_is i) key)) Exists ∷ where_true (is_range_full limits wide key) TailFull ∷ []))
        ∙ ap (λ b. first_of (None ∷ where_true b Exists ∷ where_true (is_range_full limits wide key) TailFull ∷ [])) fits
        ∙ single (where_true (is_range_full limits wide key) TailFull)

    abbrev pub crowded : Bool
    crowded = not (is_placed store.placed key) && nat_le (256 * limits.ranges) (length store.placed)

    early_is : (b : Bool) → crowded ≡ b → early_insert_refusal limits store (begun_behind commits) key ≡ where_true b TableFull
    early_is b e = ap (λ b. first_of (None ∷ where_true b TableFull ∷ [])) e ∙ single (where_true b TableFull)

    room_now : crowded ≡ false → length wide.placed ≤ 256 * limits.ranges
    room_now e = at (is_placed store.placed key) e
      where
        at : (b : Bool) → (not b && nat_le (256 * limits.ranges) (length store.placed)) ≡ false → length (cond b store.placed (store.placed ++ key ∷ [])) ≤ 256 * limits.ranges
        at true f = is.room
        at false f = let low = leb-false _ _ f in let more = length-append store.placed (key ∷ []) in omega (arith, low, more)

    crowd : crowded ≡ true → 256 * limits.ranges < length (placed_by (keys_written commits) (done ++ w ∷ []))
    crowd e = subst (λ (p : List ℕ). 256 * limits.ranges < length p) (ap (λ p. with_key p key) is.placed ∙ sym (placed_by-split (keys_written commits) done (w ∷ []))) (at (is_placed store.placed key) e)
      where
        at : (b : Bool) → (not b && nat_le (256 * limits.ranges) (length store.placed)) ≡ true → 256 * limits.ranges < length (cond b store.placed (store.placed ++ key ∷ []))
        at true f = absurd (cc)
        at false f = let high = leb-true _ _ f in let more = length-append store.placed (key ∷ []) in omega (arith, high, more)

    by_crowd : (b : Bool) → crowded ≡ b → Answered (refused_or (first_of (where_true b TableFull ∷ late_insert_refusal limits wide s (begun_behind commits) key ∷ [])) Done)
        (accepted_unless (first_of (where_true b TableFull ∷ late_insert_refusal limits wide s (begun_behind commits) key ∷ [])) (placed_unless (where_true b TableFull) store key) s key act)
    by_crowd true e = inr (inl (refl, crowd e))
    by_crowd false e = subst (λ (r : Option Cause). Answered (refused_or r Done) (accepted_unless r wide s key act)) (sym (single (late_insert_refusal limits wide s (begun_behind commits) key) ∙ late_is))
        (by_range (room_now e) (is_range_full limits wide key) refl)

    pub inserted : Answered (in_open (store.opened s) (λ transaction. refused_or (insert_refusal limits store s transaction key) Done)) (after_insert limits store s (store.opened s) key act)
    inserted = subst (λ (o : Option Opened). Answered (in_open o (λ transaction. refused_or (insert_refusal limits store s transaction key) Done)) (after_insert limits store s o key act)) (sym is.opened)
        (subst (λ (r : Option Cause). Answered (refused_or (first_of (r ∷ late_insert_refusal limits wide s (begun_behind commits) key ∷ [])) Done) (accepted_unless (first_of (r ∷ late_insert_refusal limits wide s (begun_behind commits) key ∷ [])) (placed_unless r store key) s key act))
        (sym (early_is crowded refl)) (by_crowd crowded refl))

by_act : FollowsLater → (limits : Limits) (commits : List Commit) (c : Commit) (done rest : List Write) (store : Store) (key : ℕ) (act : Act) → MayFollow commits c → StandByKey c.writes → c.writes ≡ done ++ record { key = key; act = act } ∷ rest → (is : IsUnderWay limits commits c.session done store)
    → (stand : StandByKey (done ++ record { key = key; act = act } ∷ [])) → Answered limits commits c.session done key act stand store is (call_reply limits store c.session (call_of (record { key = key; act = act }))) (store_after limits store c.session (call_of (record { key = key; act = act })))
by_act later limits commits c done rest store key (Put row) may by_key split is stand =
    inserted limits commits c.session done key (Put row) stand store is (absent_is _ row (fits_again later commits c done (record { key = key; act = Put row }) rest may split))
by_act later limits commits c done rest store key (Set patch) may by_key split is stand =
    changed limits commits c.session done key (Set patch) stand store is (present_is _ patch (fits_again later commits c done (record { key = key; act = Set patch }) rest may split))
by_act later limits commits c done rest store key Del may by_key split is stand =
    changed limits commits c.session done key Del stand store is (present_too _ (fits_again later commits c done (record { key = key; act = Del }) rest may split))

pub writes_again : FollowsLater → WritesAgain
writes_again later limits commits c done w rest store may by_key split is =
    by_act later limits commits c done rest store w.key w.act may by_key split is
    (front_stands 0 (done ++ w ∷ []) rest (subst StandByKey (split ∙ sym (append_assoc done (w ∷ []) rest)) by_key))

-- ---- a commit

abbrev commit_with : ℕ → ℕ → ℕ → List Write → Commit
commit_with session number begin writes = record { session = session; number = number; begin = begin; writes = writes }

module _ (limits : Limits) (commits : List Commit) (s : ℕ) (writes : List Write) (store : Store) (is : IsUnderWay limits commits s writes store) where
  abbrev pub last : ℕ
  last = store.begins s

  abbrev pub c : Commit
  c = record { session = s; number = last; begin = length commits; writes = writes }

  abbrev pub later : Store
  later = record store { history = store.history ++ c ∷ []; opened = put store.opened s None }

  number_is : last ≡ commits_by s commits + 1
  number_is = is.begins s ∙ ap (λ b. commits_by s commits + cond b 1 0) (eq-eqb s s refl)

  committed : (a : Accepted) → IsCommitted store.history a.session a.number ⊎ ((a.session ≡ s) × (a.number ≡ last)) → IsCommitted later.history a.session a.number
  committed a (inl old) = (old.0, time-front store.history (c ∷ []) a.session a.number old.0 old.1)
  committed a (inr own) = at (time_of store.history a.session a.number) refl
    where
      this : (s == a.session && last == a.number) ≡ true
      this = λ i. eq-eqb s a.session (sym own.0) i && eq-eqb last a.number (sym own.1) i

      at : (o : Option ℕ) → time_of store.history a.session a.number ≡ o → IsCommitted later.history a.session a.number
      at (Some time) e = (time, time-front store.history (c ∷ []) a.session a.number time e)
      at None e = (length store.history + 1, time-append store.history c a.session a.number ∙ (λ i. or_last (e i) (this i) (length store.history + 1)))

  pub rested : (front : Commit) → front.session ≡ s → front.writes ≡ writes → IsRested limits (commits ++ front ∷ []) later
  rested front session same = record {
    history = (λ i. is.history i ++ commit_with (sym session i) last (length commits) (sym same i) ∷ [])
        ∙ ap (λ (m : ℕ). all_again commits ++ commit_with front.session m (length commits) front.writes ∷ []) (number_is ∙ ap (λ (x : ℕ). commits_by x commits + 1) (sym session))
        ∙ sym (again-append [] commits front);
    begins = λ t. is.begins t ∙ ap (λ x. commits_by t commits + cond (x == t) 1 0) (sym session) ∙ sym (commits_by-append t commits front);
    opened = λ t. dite (ℕ_discrete t s) (λ e. ap later.opened e ∙ put_here store.opened s None) (λ other. put_else store.opened s None t other ∙ is.others t other);
    placed = is.placed ∙ ap (placed_by (keys_written commits)) (sym same) ∙ sym (placed_by_all-split [] commits (front ∷ []));
    room = is.room;
    accepted = λ range. all_map (λ a settled. (settled.0, committed a settled.1)) (store.accepted range) (is.accepted range);
    few = λ range. let few = is.few range in let all = writes_in-split commits front [] in let long : length front.writes ≡ length writes = ap length same in omega (arith, few, all, long);
    sessions = all_push (λ (d : Commit). d.session + 1 ≤ limits.sessions) commits front is.sessions (subst (λ x. x + 1 ≤ limits.sessions) (sym session) is.known);
    each = λ t. dite (ℕ_discrete front.session t)
        (λ e. let one = counted (front.session == t) (eq-eqb front.session t e) in let all = commits_by-append t commits front in let most = subst (λ (x : ℕ). commits_by x commits + 1 ≤ limits.txns) (sym session ∙ e) is.more in omega (arith, one, all, most))
        (λ other. let none = uncounted (front.session == t) (ne_eqb front.session t other) in let all = commits_by-append t commits front in let most = is.each t in omega (arith, none, all, most));
  }

abbrev EndsWith : Limits → List Commit → Commit → Store → List Write → Type 0
EndsWith limits commits c store own = (end_reply store (begun_behind commits) own ≡ Committed (length commits + 1)) × IsRested limits (commits ++ c ∷ []) (with_commit store c.session (begun_behind commits) own)

ends_with : (limits : Limits) (commits : List Commit) (c : Commit) (store : Store) (writes : List Write) → c.writes ≡ writes → writes ≢ [] → IsUnderWay limits commits c.session writes store → EndsWith limits commits c store writes
ends_with limits commits c store [] e none is = absurd (none refl)
ends_with limits commits c store (w ∷ ws) e none is = (
  ap (λ (h : List Commit). Committed (length h + 1)) is.history ∙ ap (λ (m : ℕ). Committed (m + 1)) (again-length [] commits),
  rested limits commits c.session (w ∷ ws) store is c refl e,
)

pub commits_again : CommitsAgain
commits_again limits commits c store some is =
    let has = subst (EndsWith limits commits c store) (sym is.own) (ends_with limits commits c store c.writes refl some is) in (
      ap (λ (o : Option Opened). in_open o (λ transaction. end_reply store transaction (own_writes limits store c.session))) is.opened ∙ has.0,
      subst (λ (o : Option Opened). IsRested limits (commits ++ c ∷ []) (after_commit limits store c.session o)) (sym is.opened) has.1,
    )
