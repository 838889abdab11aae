-- From what a write left to the machine's answer and next state.
use Rattle.std.proofs.Common.{◌≡◌, ◌≢◌, ◌⊎◌, ⊎_elim, ℕ, ◌+◌, ◌*◌, ◌<◌, List, [], ◌∷◌, Bool, true, false, not, ◌&&◌, Option, Some, None, Result, Ok, Err, nat_le, length, slice_index_or, refl, sym, subst, ap, ◌∙◌, arith}
use Rattle.std.specs.Prelude.{is_some, is_none}
use Rattle.lst_layout.specs.declared.limits.Limits.{Limits}
use Rattle.lst_layout.specs.Words.{shown}
use Rattle.lst_model.specs.declared.acts.Act.{Act}
use Rattle.lst_model.specs.declared.replies.Reply.TheVariants.{Done}
use Rattle.lst_model.specs.declared.replies.Cause.{Cause}
use Rattle.lst_model.specs.declared.replies.Cause.TheVariants as cause
use Rattle.lst_model.specs.Tables.{row_of}
use Rattle.lst_machine.specs.State.{Store, Opened}
use Rattle.lst_machine.specs.Writes as machine
use Rattle.lst_machine.specs.Writes.{place_of, conflict_of, sight_of}
use Rattle.lst_machine.specs.Calls.{first_of, where_true, refused_or, in_open, early_insert_refusal, late_insert_refusal, insert_refusal, change_refusal, with_placed, placed_unless, accepted_unless, after_insert, after_change, is_range_full}
use Rattle.lst_core_state.specs.declared.known.Hold.{Hold}
use Rattle.lst_core_state.specs.Cells.{record_count}
use Rattle.lst_core_state.specs.Index.{is_placed}
use Rattle.lst_rule.specs.declared.view.View.{View}
use Rattle.lst_rule.specs.Rule.{knows, hosts}
use Rattle.lst_rule.specs.Learned.{Possible}
use Rattle.lst_index.specs.Searches.{IsPlaced}
use Rattle.lst_index.specs.Placings.{HasNone, HasRecord, PlacedAnew}
use Rattle.lst_index.proofs.Leaving.{ended_none}
use Rattle.lst_index.proofs.Placed.{placed_in}
use Rattle.lst_session.specs.declared.kinds.WriteRefusal.{WriteRefusal}
use Rattle.lst_session.specs.declared.kinds.WriteRefusal.TheVariants as refusal
use Rattle.lst_session.specs.Traces.{FindsNone, FindsFullTable, Releases, Tries, TriesPlaced, TriesFound, MayWrite, Inserts, Changes}
use Rattle.lst_session.specs.Crews.{words_of, store_told}
use Rattle.lst_session.specs.Replies.{write_reply}
use Rattle.lst_session.proofs.Crewed.{IsCrewView, allowed_whole, hosted_all, opened_by, opened_some, opened_none}
use Rattle.lst_session.proofs.Placing.{IsOn, found_on, full_on, none_on, absent_told, placed_on, present_told, early_present, early_full, placed_same, anew_told, anew_early, anew_on}
use Rattle.lst_session.proofs.Trying.{late_refusal, cause_of, IsTried}
use Rattle.lst_session.proofs.Refusing.{refused_tried}
use Rattle.lst_session.proofs.Accepting.{accepted_tried}

-- ---- a try, whatever comes of it

pub record IsReady (u : View) (s rec key : ℕ) : Type 0 where
  pub crew : IsCrewView u
  pub low : s < u.limits.sessions
  pub is_open : (knows u s).is_open ≡ true
  pub has : IsPlaced (knows u s) rec key
  pub hosts_all : (t : ℕ) → t < u.limits.sessions → hosts u t ≡ true

module _ (u w : View) (s rec key : ℕ) (act : Act) (ready : IsReady u s rec key) where
  nobody : (t : ℕ) → t < u.limits.sessions → (hosts u t ≡ true) × ((knows u t).hold.latch ≢ rec + 1)
  nobody t few = (ready.hosts_all t few, λ e. let none = ap (λ (h : Hold). h.latch) (ready.crew.idle t few).hold in omega arith)

  of_release : (refused : WriteRefusal) → Releases u w s rec key act refused → Possible u
  of_release refused r = let t = r.holding.word.told in record { words = t.words; known = t.known; merger = t.merger; allowed = t.allowed }

  pub possible_at : (result : Result (Unit {0}) WriteRefusal) → Tries u w s rec key act result → Possible u
  possible_at (Ok done) h = let t = h.holding.word.told in record { words = t.words; known = t.known; merger = t.merger; allowed = t.allowed }
  possible_at (Err refusal.Idle) r = of_release refusal.Idle r
  possible_at (Err refusal.ReadOnly) r = of_release refusal.ReadOnly r
  possible_at (Err refusal.Missing) r = of_release refusal.Missing r
  possible_at (Err refusal.Exists) r = of_release refusal.Exists r
  possible_at (Err refusal.TableFull) r = of_release refusal.TableFull r
  possible_at (Err refusal.Latched) t = absurd (t.other nobody)
  possible_at (Err (refusal.Newer time)) r = of_release (refusal.Newer time) r
  possible_at (Err (refusal.Unfinished j n)) r = of_release (refusal.Unfinished j n) r
  possible_at (Err refusal.TailFull) r = of_release refusal.TailFull r

  in_index : Possible u → (is_placed u.limits (words_of u).index rec ≡ true) × ((words_of u).keys rec ≡ key) × (rec < record_count u.limits)
  in_index p = placed_in u u.words p.known p.merger (allowed_whole u ready.crew p) s rec key (ready.hosts_all s ready.low) ready.has

  tried_at : Possible u → (result : Result (Unit {0}) WriteRefusal) → Tries u w s rec key act result → IsTried u w s key act result
  tried_at p (Ok done) h = let q = in_index p in accepted_tried u p ready.crew s rec key ready.low ready.is_open q.2 q.0 q.1 act w h
  tried_at p (Err refused) t = let q = in_index p in refused_tried u p ready.crew s rec key ready.low ready.is_open q.2 q.0 q.1 act w refused t

  pub tried : (result : Result (Unit {0}) WriteRefusal) → Tries u w s rec key act result → IsTried u w s key act result
  tried result t = tried_at (possible_at result t) result t

-- ---- answers

pub reply_is : (result : Result (Unit {0}) WriteRefusal) → write_reply result ≡ refused_or (cause_of result) Done
reply_is (Ok done) = refl
reply_is (Err refused) = refl

only_cause : (o : Option Cause) → first_of (o ∷ []) ≡ o
only_cause None = refl
only_cause (Some x) = refl

-- the machine's reply to an insert, and its state then
pub record InsertIs (v w : View) (s key : ℕ) (act : Act) (result : Result (Unit {0}) WriteRefusal) : Type 0 where
  pub crew : IsCrewView w
  pub reply : write_reply result ≡ in_open ((store_told v).opened s) (λ t. refused_or (insert_refusal v.limits (store_told v) s t key) Done)
  pub next : store_told w ≡ after_insert v.limits (store_told v) s ((store_told v).opened s) key act
  pub limits : w.limits ≡ v.limits

-- to an update or a delete
pub record ChangeIs (v w : View) (s key : ℕ) (act : Act) (result : Result (Unit {0}) WriteRefusal) : Type 0 where
  pub crew : IsCrewView w
  pub reply : write_reply result ≡ in_open ((store_told v).opened s) (λ t. refused_or (change_refusal v.limits (store_told v) s t key) Done)
  pub next : store_told w ≡ after_change v.limits (store_told v) s ((store_told v).opened s) key act
  pub limits : w.limits ≡ v.limits

-- the late refusal is that of an insert, or of a change
abbrev pub IsPut : Act → Type 0
IsPut act = (l : Limits) (store : Store) (s : ℕ) (t : Opened) (key : ℕ) → late_refusal l store s t.begin key act ≡ late_insert_refusal l store s t key

abbrev pub IsChange : Act → Type 0
IsChange act = (l : Limits) (store : Store) (s : ℕ) (t : Opened) (key : ℕ) → late_refusal l store s t.begin key act
    ≡ first_of (conflict_of store s t.begin key ∷ where_true (is_none (row_of (sight_of l store s t.begin) key)) cause.Missing ∷ where_true (is_range_full l store key) cause.TailFull ∷ [])

module _ (v : View) (crew : IsCrewView v) (s key : ℕ) (low : s < v.limits.sessions) (act : Act) where
  abbrev t : Opened
  t = opened_by v s low

  -- with an open transaction
  module _ (w : View) (result : Result (Unit {0}) WriteRefusal) (is_on : (knows v s).is_open ≡ true) (again : IsCrewView w) (same : w.limits ≡ v.limits) where
    insert_by : insert_refusal v.limits (store_told v) s (opened_by v s low) key ≡ cause_of result
        → store_told w ≡ accepted_unless (cause_of result) (placed_unless (early_insert_refusal v.limits (store_told v) (opened_by v s low) key) (store_told v) key) s key act → InsertIs v w s key act result
    insert_by refused next = record {
      crew = again;
      limits = same;
      reply = reply_is result ∙ ((λ i. refused_or (sym refused i) Done) ∙ (λ i. in_open (sym (opened_some v s low is_on) i) (λ x. refused_or (insert_refusal v.limits (store_told v) s x key) Done)));
      next = next ∙ ((λ i. accepted_unless (sym refused i) (placed_unless (early_insert_refusal v.limits (store_told v) (opened_by v s low) key) (store_told v) key) s key act)
          ∙ (λ i. after_insert v.limits (store_told v) s (sym (opened_some v s low is_on) i) key act));
    }

    change_by : change_refusal v.limits (store_told v) s (opened_by v s low) key ≡ cause_of result → store_told w ≡ accepted_unless (cause_of result) (store_told v) s key act → ChangeIs v w s key act result
    change_by refused next = record {
      crew = again;
      limits = same;
      reply = reply_is result ∙ ((λ i. refused_or (sym refused i) Done) ∙ (λ i. in_open (sym (opened_some v s low is_on) i) (λ x. refused_or (change_refusal v.limits (store_told v) s x key) Done)));
      next = next ∙ ((λ i. accepted_unless (sym refused i) (store_told v) s key act) ∙ (λ i. after_change v.limits (store_told v) s (sym (opened_some v s low is_on) i) key act));
    }

  -- with none
  idle_insert : (knows v s).is_open ≡ false → InsertIs v v s key act (Err refusal.Idle)
  idle_insert off = record {
    crew = crew;
    limits = refl;
    reply = λ i. in_open (sym (opened_none v s low off) i) (λ x. refused_or (insert_refusal v.limits (store_told v) s x key) Done);
    next = λ i. after_insert v.limits (store_told v) s (sym (opened_none v s low off) i) key act;
  }

  idle_change : (knows v s).is_open ≡ false → ChangeIs v v s key act (Err refusal.Idle)
  idle_change off = record {
    crew = crew;
    limits = refl;
    reply = λ i. in_open (sym (opened_none v s low off) i) (λ x. refused_or (change_refusal v.limits (store_told v) s x key) Done);
    next = λ i. after_change v.limits (store_told v) s (sym (opened_none v s low off) i) key act;
  }

  -- read-only
  read_only_early : (knows v s).read_only ≡ true → early_insert_refusal v.limits (store_told v) (opened_by v s low) key ≡ Some cause.ReadOnly
  read_only_early off = λ i. first_of (where_true (off i) cause.ReadOnly ∷ where_true (not (machine.is_placed (store_told v).placed key) && nat_le (256 * v.limits.ranges) (length (store_told v).placed)) cause.TableFull ∷ [])

  read_only_insert : (knows v s).is_open ≡ true → (knows v s).read_only ≡ true → InsertIs v v s key act (Err refusal.ReadOnly)
  read_only_insert is_on off = insert_by v (Err refusal.ReadOnly) is_on crew refl
      (λ i. first_of (read_only_early off i ∷ late_insert_refusal v.limits (with_placed (store_told v) key) s (opened_by v s low) key ∷ []))
      (λ i. placed_unless (sym (read_only_early off) i) (store_told v) key)

  read_only_change : (knows v s).is_open ≡ true → (knows v s).read_only ≡ true → ChangeIs v v s key act (Err refusal.ReadOnly)
  read_only_change is_on off = change_by v (Err refusal.ReadOnly) is_on crew refl
      (λ i. first_of (where_true (off i) cause.ReadOnly ∷ where_true (not (machine.is_placed (store_told v).placed key)) cause.Missing ∷ conflict_of (store_told v) s (knows v s).begin key
      ∷ where_true (is_none (row_of (sight_of v.limits (store_told v) s (knows v s).begin) key)) cause.Missing ∷ where_true (is_range_full v.limits (store_told v) key) cause.TailFull ∷ []))
      refl

  -- ---- the record's try

  module _ (p : Possible v) (may : MayWrite v s) where
    ready_on : (u : View) (rec : ℕ) → IsOn v u s → IsPlaced (knows u s) rec key → IsReady u s rec key
    ready_on u rec on has = record {
      crew = on.crew;
      low = subst (λ (l : Limits). s < l.sessions) (sym on.learns.limits) low;
      is_open = on.same.is_open ∙ may.0;
      has = has;
      hosts_all = λ j few. ap (λ (hs : List Bool). slice_index_or hs j false) on.learns.hosted ∙ hosted_all v crew p j (let f = subst (λ (l : Limits). j < l.sessions) on.learns.limits few in omega arith);
    }

    module _ (u w : View) (rec : ℕ) (result : Result (Unit {0}) WriteRefusal) (on : IsOn v u s) where
      late_from : IsTried u w s key act result → late_refusal v.limits (store_told u) s (knows v s).begin key act ≡ cause_of result
      late_from is = (λ i. late_refusal (sym on.learns.limits i) (store_told u) s (sym on.same.begin i) key act) ∙ is.refused

      inserted_from : IsPut act → store_told u ≡ with_placed (store_told v) key → early_insert_refusal v.limits (store_told v) (opened_by v s low) key ≡ None → IsTried u w s key act result → InsertIs v w s key act result
      inserted_from put placed early is = insert_by w result may.0 is.crew (is.limits ∙ on.learns.limits)
          ((λ i. first_of (early i ∷ late_insert_refusal v.limits (sym placed i) s (opened_by v s low) key ∷ []))
          ∙ ((λ i. first_of (sym (put v.limits (store_told u) s (opened_by v s low) key) i ∷ [])) ∙ (ap (λ (o : Option Cause). first_of (o ∷ [])) (late_from is) ∙ only_cause (cause_of result))))
          (is.next ∙ ((λ i. accepted_unless (cause_of result) (placed i) s key act) ∙ (λ i. accepted_unless (cause_of result) (placed_unless (sym early i) (store_told v) key) s key act)))

      changed_from : IsChange act → store_told u ≡ store_told v → machine.is_placed (store_told v).placed key ≡ true → IsTried u w s key act result → ChangeIs v w s key act result
      changed_from change stays there is = change_by w result may.0 is.crew (is.limits ∙ on.learns.limits)
          ((λ i. first_of (where_true (may.1 i) cause.ReadOnly ∷ where_true (not (there i)) cause.Missing ∷ conflict_of (store_told v) s (knows v s).begin key
          ∷ where_true (is_none (row_of (sight_of v.limits (store_told v) s (knows v s).begin) key)) cause.Missing ∷ where_true (is_range_full v.limits (store_told v) key) cause.TailFull ∷ []))
          ∙ (sym (change v.limits (store_told v) s (opened_by v s low) key) ∙ ((λ i. late_refusal v.limits (sym stays i) s (knows v s).begin key act) ∙ late_from is)))
          (is.next ∙ (λ i. accepted_unless (cause_of result) (stays i) s key act))

    -- the key's record, in the words before
    found_place : (u : View) (rec : ℕ) → IsOn v u s → u.words ≡ v.words → IsPlaced (knows u s) rec key → Possible u → place_of (store_told v).placed key ≡ Some rec
    found_place u rec on words has q = let r = ready_on u rec on has in let i = placed_in u u.words q.known q.merger (allowed_whole u on.crew q) s rec key (r.hosts_all s r.low) has in
        let same : words_of u ≡ words_of v = (λ j. shown (on.learns.limits j) (words j)) in
        present_told v p crew key rec (subst (λ (l : Limits). rec < record_count l) on.learns.limits i.2)
        ((λ j. is_placed (sym on.learns.limits j) (sym same j).index rec) ∙ i.0) ((λ j. (sym same j).keys rec) ∙ i.1)

    -- an insert of a key with a record
    module _ (w : View) (result : Result (Unit {0}) WriteRefusal) (put : IsPut act) (f : TriesPlaced v w s key act result) where
      abbrev u : View
      u = f.between

      abbrev rec : ℕ
      rec = f.rec

      placed_before : u.words ≡ v.words → InsertIs v w s key act result
      placed_before words = let on = placed_on v crew s low u rec key f.places words in let ready = ready_on u rec on.0 f.places.placed in
          let place = found_place u rec on.0 words f.places.placed (possible_at u w s rec key act ready result f.tries) in
          inserted_from u w rec result on.0 put (on.1 ∙ sym (placed_same v p crew key rec place)) (early_present v p crew key (opened_by v s low) rec may.1 place) (tried u w s rec key act ready result f.tries)

      placed_now : PlacedAnew v.limits v.words u.words key rec → InsertIs v w s key act result
      placed_now h = let on = anew_on v p crew s rec key low u f.places h in
          inserted_from u w rec result on put (anew_told v p crew s rec key low u f.places h) (anew_early v p crew s rec key low u f.places h (opened_by v s low) may.1)
          (tried u w s rec key act (ready_on u rec on f.places.placed) result f.tries)

      placed_insert : InsertIs v w s key act result
      placed_insert = ⊎_elim (λ (h : (u.words ≡ v.words) × HasRecord v.limits v.words key rec). placed_before h.0) (λ (h : PlacedAnew v.limits v.words u.words key rec). placed_now h) (f.places.words crew.whole)

    -- where each record is drawn
    none_full : (w : View) → FindsFullTable v w s key → InsertIs v w s key act (Err refusal.TableFull)
    none_full w f = let on = full_on v crew s low w key f in let q = f.words crew.whole in
        let early = early_full v p crew key (opened_by v s low) may.1 (absent_told v p crew key q.none) q.full in
        insert_by w (Err refusal.TableFull) may.0 on.0.crew on.0.learns.limits
        (λ i. first_of (early i ∷ late_insert_refusal v.limits (with_placed (store_told v) key) s (opened_by v s low) key ∷ []))
        (on.1 ∙ (λ i. placed_unless (sym early i) (store_told v) key))

    -- a change of a key with none
    none_change : (w : View) → FindsNone v w s key → ChangeIs v w s key act (Err refusal.Missing)
    none_change w f = let on = none_on v crew s low w key f in let ready : hosts w s ≡ true = ap (λ (hs : List Bool). slice_index_or hs s false) on.0.learns.hosted ∙ hosted_all v crew p s (omega arith) in
        let none : HasNone v.limits v.words key = subst (λ (l : Limits). HasNone l v.words key) on.0.learns.limits (subst (λ (ws : List ℕ). HasNone w.limits ws key) (f.kept.words crew.whole) (ended_none w s key ready on.0.crew.whole f.ended)) in
        let absent : place_of (store_told v).placed key ≡ None = absent_told v p crew key none in
        change_by w (Err refusal.Missing) may.0 on.0.crew on.0.learns.limits
        (λ i. first_of (where_true (may.1 i) cause.ReadOnly ∷ where_true (not (is_some (absent i))) cause.Missing ∷ conflict_of (store_told v) s (knows v s).begin key
        ∷ where_true (is_none (row_of (sight_of v.limits (store_told v) s (knows v s).begin) key)) cause.Missing ∷ where_true (is_range_full v.limits (store_told v) key) cause.TailFull ∷ []))
        on.1

    -- of a key with a record
    found_change : (w : View) (result : Result (Unit {0}) WriteRefusal) → IsChange act → TriesFound v w s key act result → ChangeIs v w s key act result
    found_change w result change f = let on = found_on v crew s low f.between f.rec key f.finds in let ready = ready_on f.between f.rec on.0 f.finds.placed in
        let place = found_place f.between f.rec on.0 (f.finds.kept.words crew.whole) f.finds.placed (possible_at f.between w s f.rec key act ready result f.tries) in
        changed_from f.between w f.rec result on.0 change on.1 (ap (λ (o : Option ℕ). is_some o) place) (tried f.between w s f.rec key act ready result f.tries)

  -- ---- all answers

  module _ (p : Possible v) (w : View) where
    pub insert_is : IsPut act → (result : Result (Unit {0}) WriteRefusal) → Inserts v w s key act result → InsertIs v w s key act result
    insert_is put (Ok done) f = placed_insert p f.0 w (Ok tt) put f.1
    insert_is put (Err refusal.Idle) f = subst (λ (x : View). InsertIs v x s key act (Err refusal.Idle)) (sym f.0) (idle_insert f.1)
    insert_is put (Err refusal.ReadOnly) f = subst (λ (x : View). InsertIs v x s key act (Err refusal.ReadOnly)) (sym f.0) (read_only_insert f.1 f.2)
    insert_is put (Err refusal.Missing) f = placed_insert p f.0 w (Err refusal.Missing) put f.1
    insert_is put (Err refusal.Exists) f = placed_insert p f.0 w (Err refusal.Exists) put f.1
    insert_is put (Err refusal.TableFull) f = none_full p f.0 w f.1
    insert_is put (Err refusal.Latched) f = placed_insert p f.0 w (Err refusal.Latched) put f.1
    insert_is put (Err (refusal.Newer time)) f = placed_insert p f.0 w (Err (refusal.Newer time)) put f.1
    insert_is put (Err (refusal.Unfinished j n)) f = placed_insert p f.0 w (Err (refusal.Unfinished j n)) put f.1
    insert_is put (Err refusal.TailFull) f = placed_insert p f.0 w (Err refusal.TailFull) put f.1

    found_or_none : IsChange act → (result : Result (Unit {0}) WriteRefusal) → MayWrite v s × (((result ≡ Err refusal.Missing) × FindsNone v w s key) ⊎ TriesFound v w s key act result) → ChangeIs v w s key act result
    found_or_none change result f = ⊎_elim
        (λ (h : (result ≡ Err refusal.Missing) × FindsNone v w s key). subst (λ (r : Result (Unit {0}) WriteRefusal). ChangeIs v w s key act r) (sym h.0) (none_change p f.0 w h.1))
        (λ (h : TriesFound v w s key act result). found_change p f.0 w result change h)
        f.1

    pub change_is : IsChange act → (result : Result (Unit {0}) WriteRefusal) → Changes v w s key act result → ChangeIs v w s key act result
    change_is change (Ok done) f = found_or_none change (Ok done) f
    change_is change (Err refusal.Idle) f = subst (λ (x : View). ChangeIs v x s key act (Err refusal.Idle)) (sym f.0) (idle_change f.1)
    change_is change (Err refusal.ReadOnly) f = subst (λ (x : View). ChangeIs v x s key act (Err refusal.ReadOnly)) (sym f.0) (read_only_change f.1 f.2)
    change_is change (Err refusal.Missing) f = found_or_none change (Err refusal.Missing) f
    change_is change (Err refusal.Exists) f = found_or_none change (Err refusal.Exists) f
    change_is change (Err refusal.TableFull) f = found_or_none change (Err refusal.TableFull) f
    change_is change (Err refusal.Latched) f = found_or_none change (Err refusal.Latched) f
    change_is change (Err (refusal.Newer time)) f = found_or_none change (Err (refusal.Newer time)) f
    change_is change (Err (refusal.Unfinished j n)) f = found_or_none change (Err (refusal.Unfinished j n)) f
    change_is change (Err refusal.TailFull) f = found_or_none change (Err refusal.TailFull) f
