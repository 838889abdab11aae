-- Lines that write.
use Rattle.std.proofs.Common.{◌≡◌, ◌⊎◌, ℕ, ◌≤◌, List, [], Bool, true, false, not, ◌&&◌, cond, length, Option, Some, None, IfSome, refl, sym, subst, ap, ◌∙◌, arith, inl, inr, append-nil}
use Rattle.std.specs.Prelude.{IsNone, IsSome}
use Rattle.lst_layout.specs.declared.limits.Limits.{Limits}
use Rattle.lst_model.specs.declared.acts.Act.{Act}
use Rattle.lst_model.specs.declared.acts.Act.TheVariants.{Put, Set, Del}
use Rattle.lst_model.specs.declared.acts.Write.{Write}
use Rattle.lst_model.specs.declared.commits.Commit.{Commit}
use Rattle.lst_model.specs.declared.lines.Call.{Call}
use Rattle.lst_model.specs.declared.lines.Call.TheVariants.{Insert, Update, Delete}
use Rattle.lst_model.specs.declared.replies.Reply.{Reply}
use Rattle.lst_model.specs.declared.replies.Reply.TheVariants.{Done, Refused}
use Rattle.lst_model.specs.declared.replies.Cause.{Cause}
use Rattle.lst_model.specs.declared.replies.Cause.TheVariants as cause
use Rattle.lst_model.specs.Cells.{Cell}
use Rattle.lst_model.specs.Tables.{Rows, row_of}
use Rattle.lst_model.specs.Histories.{Extends, snapshot}
use Rattle.lst_model.specs.Soundness.{Fits}
use Rattle.lst_core_state.specs.Writes.{write}
use Rattle.lst_rule.specs.declared.view.View.{View}
use Rattle.lst_rule.specs.Rule.{knows}
use Rattle.lst_index.specs.Placings.{Drew}
use Rattle.lst_session.specs.declared.kinds.WriteRefusal.{WriteRefusal}
use Rattle.lst_session.specs.declared.kinds.WriteRefusal.TheVariants.{Idle, ReadOnly, Missing, Exists, TableFull, Latched, Newer, Unfinished, TailFull}
use Rattle.lst_session.specs.Traces.{is_put, misfit_of}
use Rattle.lst_session.specs.Calls.{Accepts, Refuses, Cause as CauseOf, HasLatched, HasNotLatched, HasNoRecord, WasJudged, row_seen}
use Rattle.lst_replies.specs.declared.states.Transaction.{Transaction}
use Rattle.lst_replies.specs.declared.states.SessionState.{SessionState}
use Rattle.lst_replies.specs.Runs.{write_of, key_of, is_insert_call, takes_no_record, takes_no_latch}
use Rattle.lst_replies.specs.States.{after_call, time_told, with_write}
use Rattle.lst_replies.specs.Explained.{state_cause, is_not_indexed_reply, WriteIsAnswered}
use Rattle.lst_replies.specs.ReplyKinds.{begins, can_answer}
use Rattle.lst_work_laws.specs.Lines.{transaction_told, session_told, Tells, LeavesWrites, LeavesLatched, IsLastLatch, IsFound, AfterLine}
use Rattle.lst_session.specs.Replies.{write_cause}
use Rattle.lst_work_laws.proofs.Telling.{opened_told, same_told, extends_on, snapshot_later, wrote_later, wrote_low}
use Rattle.lst_work.proofs.Refusing.{at_once, idle_line}

-- the call that asks for the act on the key
abbrev pub call_of : ℕ → Act → Call
call_of key (Put row) = Insert key row
call_of key (Set patch) = Update key patch
call_of key Del = Delete key

write_is : (key : ℕ) (act : Act) → write_of (call_of key act) ≡ Some (write key act)
write_is key (Put row) = refl
write_is key (Set patch) = refl
write_is key Del = refl

insert_is : (key : ℕ) (act : Act) → is_insert_call (call_of key act) ≡ is_put act
insert_is key (Put row) = refl
insert_is key (Set patch) = refl
insert_is key Del = refl

and_true : (b : Bool) → b && true ≡ b
and_true true = refl
and_true false = refl

-- ---- what the replies tell

module _ (l : Limits) (history : List Commit) (floor n key : ℕ) (t : Transaction) (may : t.read_only ≡ false) where
  -- the state is no cause
  unrefused : cond t.read_only (Some cause.ReadOnly) None ≡ None
  unrefused = ap (λ (b : Bool). cond b (Some cause.ReadOnly) None) may

  accepted_tells : (act : Act) → WriteIsAnswered history t (write key act) Done → Tells l history floor (record { begun = n; current = Some t }) (call_of key act) Done
  accepted_tells (Put row) fits = record { times = tt; reads = record { sight = tt; index = refl }; refusals = record { refusal = sym unrefused; end = tt }; writes = fits }
  accepted_tells (Set patch) fits = record { times = tt; reads = record { sight = tt; index = refl }; refusals = record { refusal = sym unrefused; end = tt }; writes = fits }
  accepted_tells Del fits = record { times = tt; reads = record { sight = tt; index = refl }; refusals = record { refusal = sym unrefused; end = tt }; writes = fits }

  refused_tells : (act : Act) (c : Cause) → state_cause (Refused c) ≡ None → is_not_indexed_reply (Refused c) ≡ false → WriteIsAnswered history t (write key act) (Refused c)
      → Tells l history floor (record { begun = n; current = Some t }) (call_of key act) (Refused c)
  refused_tells (Put row) c other indexed answered = record { times = tt; reads = record { sight = tt; index = indexed }; refusals = record { refusal = other ∙ sym unrefused; end = tt }; writes = answered }
  refused_tells (Set patch) c other indexed answered = record { times = tt; reads = record { sight = tt; index = indexed }; refusals = record { refusal = other ∙ sym unrefused; end = tt }; writes = answered }
  refused_tells Del c other indexed answered = record { times = tt; reads = record { sight = tt; index = indexed }; refusals = record { refusal = other ∙ sym unrefused; end = tt }; writes = answered }

read_only_tells : (l : Limits) (history : List Commit) (floor n key : ℕ) (t : Transaction) → t.read_only ≡ true → (act : Act) → Tells l history floor (record { begun = n; current = Some t }) (call_of key act) (Refused cause.ReadOnly)
read_only_tells l history floor n key t only (Put row) = record { times = tt; reads = record { sight = tt; index = refl }; refusals = record { refusal = sym (ap (λ (b : Bool). cond b (Some cause.ReadOnly) None) only); end = tt }; writes = tt }
read_only_tells l history floor n key t only (Set patch) = record { times = tt; reads = record { sight = tt; index = refl }; refusals = record { refusal = sym (ap (λ (b : Bool). cond b (Some cause.ReadOnly) None) only); end = tt }; writes = tt }
read_only_tells l history floor n key t only Del = record { times = tt; reads = record { sight = tt; index = refl }; refusals = record { refusal = sym (ap (λ (b : Bool). cond b (Some cause.ReadOnly) None) only); end = tt }; writes = tt }

-- ---- kinds of reply

done_kind : (key : ℕ) (act : Act) → can_answer (call_of key act) Done ≡ true
done_kind key (Put row) = refl
done_kind key (Set patch) = refl
done_kind key Del = refl

-- what any write is refused for
idle_kind : (key : ℕ) (act : Act) → can_answer (call_of key act) (Refused cause.ReadOnly) ≡ true
idle_kind key (Put row) = refl
idle_kind key (Set patch) = refl
idle_kind key Del = refl

latched_kind : (key : ℕ) (act : Act) → can_answer (call_of key act) (Refused cause.Latched) ≡ true
latched_kind key (Put row) = refl
latched_kind key (Set patch) = refl
latched_kind key Del = refl

newer_kind : (key time : ℕ) (act : Act) → can_answer (call_of key act) (Refused (cause.Newer time)) ≡ true
newer_kind key time (Put row) = refl
newer_kind key time (Set patch) = refl
newer_kind key time Del = refl

unfinished_kind : (key j n : ℕ) (act : Act) → can_answer (call_of key act) (Refused (cause.Unfinished j n)) ≡ true
unfinished_kind key j n (Put row) = refl
unfinished_kind key j n (Set patch) = refl
unfinished_kind key j n Del = refl

tails_kind : (key : ℕ) (act : Act) → can_answer (call_of key act) (Refused cause.TailFull) ≡ true
tails_kind key (Put row) = refl
tails_kind key (Set patch) = refl
tails_kind key Del = refl

table_kind : (key : ℕ) (act : Act) → is_put act ≡ true → can_answer (call_of key act) (Refused cause.TableFull) ≡ true
table_kind key (Put row) put = refl
table_kind key (Set patch) put = cc
table_kind key Del put = cc

missing_kind : (key : ℕ) (act : Act) → Missing ≡ misfit_of act → can_answer (call_of key act) (Refused cause.Missing) ≡ true
missing_kind key (Put row) is = cc
missing_kind key (Set patch) is = refl
missing_kind key Del is = refl

exists_kind : (key : ℕ) (act : Act) → Exists ≡ misfit_of act → can_answer (call_of key act) (Refused cause.Exists) ≡ true
exists_kind key (Put row) is = refl
exists_kind key (Set patch) is = cc
exists_kind key Del is = cc

-- an act that doesn't fit
missing_row : (row : Option (List Cell)) (act : Act) → ¬ Fits row act → Missing ≡ misfit_of act → IsNone row
missing_row None act not_fits is = refl
missing_row (Some cells) (Put row) not_fits is = cc
missing_row (Some cells) (Set patch) not_fits is = absurd (not_fits tt)
missing_row (Some cells) Del not_fits is = absurd (not_fits tt)

existing_row : (row : Option (List Cell)) (act : Act) → ¬ Fits row act → Exists ≡ misfit_of act → IsSome row
existing_row (Some cells) act not_fits is = refl
existing_row None (Put row) not_fits is = absurd (not_fits tt)
existing_row None (Set patch) not_fits is = cc
existing_row None Del not_fits is = cc

-- ---- the lines

module _ (v w : View) (s key : ℕ) (act : Act) where
  abbrev asked : Call
  asked = call_of key act

  abbrev one : Transaction
  one = transaction_told (knows v s)

  if_key : (P : ℕ → Type 0) → P key → IfSome (key_of (write_of asked)) P
  if_key P p = subst (λ (o : Option Write). IfSome (key_of o) P) (sym (write_is key act)) p

  latch_is : HasLatched v w s key → IsLastLatch v w s key
  latch_is x = record { rec = x.rec; placed = x.placed; latched = x.latched }

  latches : (reply : Reply) → ((knows w s).latched ≡ (knows v s).latched) ⊎ ((takes_no_latch reply ≡ false) × IsLastLatch v w s key) → LeavesLatched v w s (key_of (write_of asked)) reply
  latches reply h = subst (λ (o : Option Write). LeavesLatched v w s (key_of o) reply) (sym (write_is key act)) h

  module _ (early : (knows v s).begin ≤ length (knows v s).seen) where
    -- the row that the transaction sees, under each history that goes on
    row_is : Extends (knows w s).seen (knows v s).seen → (history : List Commit) → Extends history (knows w s).seen → row_of (snapshot history (knows v s).begin (knows v s).own) key ≡ row_seen (knows v s) key
    row_is seen history e = ap (λ (rows : Rows). row_of rows key) (snapshot_later history (knows v s).seen (knows v s).begin (knows v s).own early (extends_on (knows v s).seen (knows w s).seen history seen e))

    -- ---- accepted

    written_state : Accepts v w s key (cond (is_put act) 1 0) act → session_told (knows w s) ≡ after_call asked Done (session_told (knows v s))
    written_state x =
        (λ i. record {
          begun = x.transaction.number i;
          current = cond ((x.transaction.is_open ∙ x.may.0) i) (Some (record { number = x.transaction.number i; begin = x.transaction.begin i; read_only = x.transaction.read_only i; writes = x.own i })) None;
        })
        ∙ sym (ap (after_call asked Done) (opened_told (knows v s) x.may.0) ∙ ap (λ (o : Option Write). record { begun = (knows v s).number; current = with_write o (Some one) }) (write_is key act))

    pub accepted : Accepts v w s key (cond (is_put act) 1 0) act → AfterLine s asked Done v w
    accepted x = record {
      called = x.called;
      kind = done_kind key act;
      tells = λ floor history low e. subst (λ (st : SessionState). Tells v.limits history floor st asked Done) (sym (opened_told (knows v s) x.may.0))
          (accepted_tells v.limits history floor (knows v s).number key one x.may.1 act (subst (λ (row : Option (List Cell)). Fits row act) (sym (row_is x.called.seen history e)) x.fits));
      told = tt;
      state = written_state x;
      commits = x.mine;
      writes = subst (λ (o : Option Write). LeavesWrites v w s o Done) (sym (write_is key act)) record { rec = x.rec; tail = x.tail; placed = x.placed; belongs = x.belongs; done = x.done };
      drawn = record {
        drew = subst (λ (b : Bool). Drew (knows v s).placing (knows w s).placing (cond b 1 0)) (sym (and_true (is_insert_call asked) ∙ insert_is key act)) x.drew;
        after_look = if_key _ x.after_look;
      };
      latched = latches Done (inr (refl, record { rec = x.rec; placed = x.placed; latched = x.latched }));
      pins = x.pins.pins;
      found = if_key _ tt;
    }

    -- ---- refused

    module _ (x : Refuses v w s key (cond (is_put act) 1 0)) (on : (knows v s).is_open ≡ true) (may : (knows v s).read_only ≡ false) where
      refused : (c : Cause) → can_answer asked (Refused c) ≡ true → state_cause (Refused c) ≡ None → is_not_indexed_reply (Refused c) ≡ false
          → ((history : List Commit) → Extends history (knows w s).seen → WriteIsAnswered history one (write key act) (Refused c))
          → IfSome (time_told (Refused c)) (λ time. time ≤ length (knows w s).seen)
          → Drew (knows v s).placing (knows w s).placing (cond (is_insert_call asked && not (takes_no_record (Refused c))) 1 0)
          → ((knows w s).latched ≡ (knows v s).latched) ⊎ ((takes_no_latch (Refused c) ≡ false) × IsLastLatch v w s key)
          → IsFound v w s key (Refused c) → AfterLine s asked (Refused c) v w
      refused c kind other indexed answered told drew latched found = record {
        called = x.called;
        kind = kind;
        tells = λ floor history low e. subst (λ (st : SessionState). Tells v.limits history floor st asked (Refused c)) (sym (opened_told (knows v s) on))
            (refused_tells v.limits history floor (knows v s).number key one may act c other indexed (answered history e));
        told = told;
        state = same_told s (knows v s) (knows w s) x.same;
        commits = x.same.mine;
        writes = subst (λ (o : Option Write). LeavesWrites v w s o (Refused c)) (sym (write_is key act)) x.done;
        drawn = record { drew = drew; after_look = if_key _ x.after_look };
        latched = latches (Refused c) latched;
        pins = x.pins.pins;
        found = if_key _ found;
      }

      -- a refusal that takes a record where the call is an insert
      drew_one : Drew (knows v s).placing (knows w s).placing (cond (is_insert_call asked && true) 1 0)
      drew_one = subst (λ (b : Bool). Drew (knows v s).placing (knows w s).placing (cond b 1 0)) (sym (and_true (is_insert_call asked) ∙ insert_is key act)) x.drew

      missing : IsNone (row_seen (knows v s) key) → (history : List Commit) → Extends history (knows w s).seen → IsNone (row_of (snapshot history (knows v s).begin (knows v s).own) key)
      missing none history e = subst (λ (row : Option (List Cell)). IsNone row) (sym (row_is x.called.seen history e)) none

      existing : IsSome (row_seen (knows v s) key) → (history : List Commit) → Extends history (knows w s).seen → IsSome (row_of (snapshot history (knows v s).begin (knows v s).own) key)
      existing some history e = subst (λ (row : Option (List Cell)). IsSome row) (sym (row_is x.called.seen history e)) some

  pub refused_line : (refusal : WriteRefusal) → ((knows v s).is_open ≡ true → (knows v s).begin ≤ length (knows v s).seen)
      → Refuses v w s key (cond (is_put act) 1 0) → CauseOf v w s key act refusal → AfterLine s asked (Refused (write_cause refusal)) v w
  refused_line Idle early x why = idle_line v w s why.0 asked (by_act act) why.1
    where
      by_act : (a : Act) → begins (call_of key a) ≡ false
      by_act (Put row) = refl
      by_act (Set patch) = refl
      by_act Del = refl
  refused_line ReadOnly early x why = at_once v w s why.0 asked cause.ReadOnly (idle_kind key act) tt
      (λ floor history. subst (λ (st : SessionState). Tells v.limits history floor st asked (Refused cause.ReadOnly)) (sym (opened_told (knows v s) why.1)) (read_only_tells v.limits history floor (knows v s).number key one why.2 act)) (λ k. tt)
  refused_line Missing early x why = let on = why.0.0 in let may = why.0.1 in let misfit = why.1 in
      refused (early on) x on may cause.Missing (missing_kind key act misfit.1) refl refl (missing (early on) x on may (missing_row (row_seen (knows v s) key) act misfit.0 misfit.1)) tt (drew_one (early on) x on may) (by_latch why.2) tt
    where
      by_latch : (HasNotLatched v w s × HasNoRecord v w s key) ⊎ WasJudged v w s key → ((knows w s).latched ≡ (knows v s).latched) ⊎ ((takes_no_latch (Refused cause.Missing) ≡ false) × IsLastLatch v w s key)
      by_latch (inl none) = inl none.0
      by_latch (inr judged) = inr (refl, latch_is judged.latch)
  refused_line Exists early x why = let on = why.0.0 in let may = why.0.1 in let misfit = why.1 in
      refused (early on) x on may cause.Exists (exists_kind key act misfit.1) refl refl (existing (early on) x on may (existing_row (row_seen (knows v s) key) act misfit.0 misfit.1)) tt (drew_one (early on) x on may) (inr (refl, latch_is why.2.latch)) tt
  refused_line TableFull early x why = let on = why.0.0 in let may = why.0.1 in
      refused (early on) x on may cause.TableFull (table_kind key act why.1) refl refl (λ history e. tt) tt
      (record { drew = []; drawn = why.4 ∙ sym (append-nil (knows v s).placing.drawn); few = omega arith }) (inl why.3) why.2
  refused_line Latched early x why = let on = why.0.0 in let may = why.0.1 in
      refused (early on) x on may cause.Latched (latched_kind key act) refl refl (λ history e. tt) tt (drew_one (early on) x on may) (inl why.2) why.1
  refused_line (Newer time) early x why = let on = why.0.0 in let may = why.0.1 in let name = why.2.0 in let wrote = why.2.1 in
      refused (early on) x on may (cause.Newer time) (newer_kind key time act) refl refl (λ history e. (why.1, wrote_later history (knows w s).seen time name key e wrote)) (wrote_low (knows w s).seen time name key wrote) (drew_one (early on) x on may) (inr (refl, latch_is why.3.latch)) tt
  refused_line (Unfinished j n) early x why = let on = why.0.0 in let may = why.0.1 in
      refused (early on) x on may (cause.Unfinished j n) (unfinished_kind key j n act) refl refl (λ history e. tt) tt (drew_one (early on) x on may) (inr (refl, latch_is why.1.latch)) why.1
  refused_line TailFull early x why = let on = why.0.0 in let may = why.0.1 in
      refused (early on) x on may cause.TailFull (tails_kind key act) refl refl (λ history e. tt) tt (drew_one (early on) x on may) (inr (refl, latch_is why.2.judged.latch)) why.2
