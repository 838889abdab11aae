-- What a session's lines leave of what it knows: line by line, and together.
use Rattle.std.proofs.Common.{◌≡◌, ◌⊎◌, inl, inr, ⊎_elim, ℕ, ◌+◌, ◌≤◌, List, [], ◌∷◌, ◌++◌, Bool, true, false, ◌||◌, ◌&&◌, not, is_some, cond, length, take, drop, Option, Some, None, IfSome, refl, sym, subst, ap, ◌∙◌, arith, append_assoc, append-nil, length-append}
use Rattle.std.specs.Prelude.{get_or, IsSomeAnd}
use Rattle.std.specs.List.{count_by, Contains}
use Rattle.std.proofs.lemmas.Bool.{eq-eqb}
use Rattle.std.proofs.lemmas.List.Elements.{Contains-append_cases}
use Rattle.std.proofs.lemmas.List.Folds.{list_any-append}
use Rattle.std.proofs.lemmas.List.Sums.{sum_by-take-drop, sum_by-drop_more, sum_by-append, sum_by-cons}
use Rattle.lst_layout.specs.declared.limits.Limits.{Limits}
use Rattle.lst_model.specs.declared.acts.Write.{Write}
use Rattle.lst_model.specs.declared.commits.Commit.{Commit}
use Rattle.lst_model.specs.declared.lines.Line.{Line}
use Rattle.lst_model.specs.declared.lines.Line.TheVariants.{Phase, Merge, Call}
use Rattle.lst_model.specs.declared.lines.Call.{Call as CallKind}
use Rattle.lst_model.specs.declared.lines.Call.TheVariants.{Begin, AsOf, Get, Insert, Update, Delete, Sum, Count, Scan, Find, Commit as CommitCall, Abort}
use Rattle.lst_model.specs.declared.replies.Reply.{Reply}
use Rattle.lst_model.specs.declared.replies.Reply.TheVariants.{Begun, Done, Row, Absent, Committed, Ended, Aborted, Sum as SumReply, Count as CountReply, Rows, Keys, Refused, Merged, NothingNew, NoFrame, Silent}
use Rattle.lst_model.specs.declared.replies.Cause.{Cause}
use Rattle.lst_model.specs.declared.replies.Cause.TheVariants.{TableFull, Latched, Unfinished, TailFull}
use Rattle.lst_core_state.specs.declared.facts.Find.{Find as FindOf}
use Rattle.lst_core_state.specs.declared.facts.Find.TheVariants.{LatchedRecord, UnfinishedVersion, FullRecords, FullTails}
use Rattle.lst_core_state.specs.declared.known.Known.{Known}
use Rattle.lst_core_state.specs.declared.known.Done.{Done as Deed}
use Rattle.lst_core_state.specs.declared.known.Placing.{Placing}
use Rattle.lst_core_state.specs.Cells.{range_of}
use Rattle.lst_core_state.specs.State.{mine}
use Rattle.lst_rule.specs.declared.view.View.{View}
use Rattle.lst_rule.specs.Rule.{knows}
use Rattle.lst_replies.specs.declared.states.SessionState.{SessionState}
use Rattle.lst_replies.specs.States.{after_call, after_line, state_from}
use Rattle.lst_replies.specs.Runs.{Answered, answered, is_by, is_begun, names, commit_time, write_of, key_of, is_done, is_accepted, may_take_record, may_take_latch, takes_no_latch}
use Rattle.lst_replies.specs.Explained.{open_cause}
use Rattle.lst_replies.specs.Levels.{StateIsToldAtAnyLevel}
use Rattle.lst_replies.specs.ReplyKinds.{can_answer, can_refuse, is_begin_cause, is_idle, is_future, is_not_indexed, is_stale}
use Rattle.lst_write.specs.Standings.{FoundSince}
use Rattle.lst_index.specs.Placings.{Drew, FoundFull}
use Rattle.lst_session.specs.declared.session.Session.{Session}
use Rattle.lst_session.proofs.Growing.{same_extends}
use Rattle.lst_work_laws.specs.Lines.{session_told, LeavesCommits, LeavesWrites, LeavesLatched, LeavesPins, IsLastLatch, IsFound, AfterLine}
use Rattle.lst_session.specs.Parting.{known_by}
use Rattle.lst_work_laws.specs.Phases.{Hears}
use Rattle.lst_work_laws.specs.Runs.{Runs}
use Rattle.lst_work_laws.specs.Laws.{answered_all, commit_told, commits_told, tells_begun, refuses_for, is_latched_find, is_latched_cause, is_unfinished_find, is_unfinished_cause, is_full_table_find, is_full_table_cause, is_full_range_find, is_full_range_cause, AreFound, HasWritten, HasHeld, Leaves}
use Rattle.lst_work_laws.proofs.Telling.{opened_told, closed_told, extends_on, same_told}
use Rattle.lst_work_laws.proofs.Closing.{own_after}
use Rattle.lst_serial_laws.proofs.Numbers.{state_on}

-- ---- the commits

pub commits_more : (v u : View) (s : ℕ) (reply : Reply) → LeavesCommits v u s reply → mine s (knows u s) ≡ mine s (knows v s) ++ commit_told s (commit_time reply) (session_told (knows v s)).current
commits_more v u s (Committed time) h = h.mine ∙ ap (λ (st : SessionState). mine s (knows v s) ++ commit_told s (Some time) st.current) (sym (opened_told (knows v s) h.was))
commits_more v u s (Begun time) h = h ∙ sym (append-nil (mine s (knows v s)))
commits_more v u s Done h = h ∙ sym (append-nil (mine s (knows v s)))
commits_more v u s (Row row) h = h ∙ sym (append-nil (mine s (knows v s)))
commits_more v u s Absent h = h ∙ sym (append-nil (mine s (knows v s)))
commits_more v u s (Ended time) h = h ∙ sym (append-nil (mine s (knows v s)))
commits_more v u s Aborted h = h ∙ sym (append-nil (mine s (knows v s)))
commits_more v u s (SumReply total) h = h ∙ sym (append-nil (mine s (knows v s)))
commits_more v u s (CountReply rows) h = h ∙ sym (append-nil (mine s (knows v s)))
commits_more v u s (Rows list) h = h ∙ sym (append-nil (mine s (knows v s)))
commits_more v u s (Keys list) h = h ∙ sym (append-nil (mine s (knows v s)))
commits_more v u s (Refused cause) h = h ∙ sym (append-nil (mine s (knows v s)))
commits_more v u s (Merged tps) h = h ∙ sym (append-nil (mine s (knows v s)))
commits_more v u s (NothingNew tps) h = h ∙ sym (append-nil (mine s (knows v s)))
commits_more v u s (NoFrame session) h = h ∙ sym (append-nil (mine s (knows v s)))
commits_more v u s Silent h = h ∙ sym (append-nil (mine s (knows v s)))

-- the commits of more lines
commits_on : (s : ℕ) (state : SessionState) (xs ys : List Answered) → commits_told s state (xs ++ ys) ≡ commits_told s state xs ++ commits_told s (state_from state s xs) ys
commits_on s state [] ys = refl
commits_on s state (one ∷ xs) ys =
    ap (λ (cs : List Commit). commit_told s (commit_time one.reply) state.current ++ cs) (commits_on s (after_line s one state) xs ys)
    ∙ sym (append_assoc (commit_told s (commit_time one.reply) state.current) (commits_told s (after_line s one state) xs) (commits_told s (state_from (after_line s one state) s xs) ys))

-- ---- the finds of one line

count_one : (p : Answered → Bool) (one : Answered) → count_by p (one ∷ []) ≡ cond {A = ℕ} (p one) 1 0
count_one p one = let h = sum_by-cons (λ (x : Answered). cond {A = ℕ} (p x) 1 0) one [] in omega arith

pub one_counted : {X : Type 0} (p : X → Bool) (xs : List X) (x : X) → Contains xs x → p x ≡ true → 1 ≤ count_by p xs
one_counted {X} p xs x h e =
    let a : count_by p (take h.0 xs) + count_by p (drop h.0 xs) ≡ count_by p xs = sum_by-take-drop (λ (y : X). cond (p y) 1 0) xs h.0 in
    let b : count_by p (drop h.0 xs) ≡ cond (p (get_or xs h.0 x)) 1 0 + count_by p (drop (h.0 + 1) xs) = sum_by-drop_more (λ (y : X). cond (p y) 1 0) xs h.0 x h.1 in
    let c : cond {A = ℕ} (p (get_or xs h.0 x)) 1 0 ≡ 1 = ap (λ (y : X). cond {A = ℕ} (p y) 1 0) h.2 ∙ ap (λ (b : Bool). cond {A = ℕ} b 1 0) e in omega arith

-- the causes that a find stands behind
abbrev is_found_cause : Cause → Bool
is_found_cause Latched = true
is_found_cause (Unfinished session number) = true
is_found_cause TableFull = true
is_found_cause TailFull = true
is_found_cause cause = false

no_other_kind : (cause : Cause) → is_found_cause cause ≡ true → (is_begin_cause cause ≡ false) × (is_idle cause ≡ false) × (is_future cause ≡ false) × (is_not_indexed cause ≡ false) × (is_stale cause ≡ false)
no_other_kind Latched e = (refl, refl, refl, refl, refl)
no_other_kind (Unfinished session number) e = (refl, refl, refl, refl, refl)
no_other_kind TableFull e = (refl, refl, refl, refl, refl)
no_other_kind TailFull e = (refl, refl, refl, refl, refl)
no_other_kind cause e = absurd (cc)

either : (a b : Bool) → a ≡ false → b ≡ false → (a || b) ≡ true → ⊥
either true b x y e = cc
either false b x y e = cc

-- only a write is refused for such a cause
key_found : (call : CallKind) (cause : Cause) → can_refuse call cause ≡ true → is_found_cause cause ≡ true → (key : ℕ) × (key_of (write_of call) ≡ Some key)
key_found (Insert key row) cause kind e = (key, refl)
key_found (Update key patch) cause kind e = (key, refl)
key_found (Delete key) cause kind e = (key, refl)
key_found Begin cause kind e = let h = no_other_kind cause e in absurd (cc (kind, h.0))
key_found (AsOf time) cause kind e = let h = no_other_kind cause e in absurd (either (is_begin_cause cause) (is_future cause) h.0 h.2 kind)
key_found (Get key) cause kind e = let h = no_other_kind cause e in absurd (cc (kind, h.1))
key_found (Sum column) cause kind e = let h = no_other_kind cause e in absurd (cc (kind, h.1))
key_found Count cause kind e = let h = no_other_kind cause e in absurd (cc (kind, h.1))
key_found Scan cause kind e = let h = no_other_kind cause e in absurd (cc (kind, h.1))
key_found (Find column value) cause kind e = let h = no_other_kind cause e in absurd (either (is_idle cause) (is_not_indexed cause) h.1 h.3 kind)
key_found CommitCall cause kind e = let h = no_other_kind cause e in absurd (either (is_idle cause) (is_stale cause) h.1 h.4 kind)
key_found Abort cause kind e = let h = no_other_kind cause e in absurd (cc (kind, h.1))

refused_for : (causes : Cause → Bool) (reply : Reply) → refuses_for causes reply ≡ true → (cause : Cause) × (reply ≡ Refused cause) × (causes cause ≡ true)
refused_for causes (Refused cause) e = (cause, refl, e)
refused_for causes reply e = absurd (cc)

module _ (finds : FindOf → Bool) (causes : Cause → Bool) where
  -- each refusal for such a cause has such a find behind it
  abbrev AreShown : Type 0
  AreShown = (cause : Cause) → causes cause ≡ true → (is_found_cause cause ≡ true) × ((v u : View) (s key : ℕ) → IsFound v u s key (Refused cause) → (find : FindOf) × FoundSince v u s find × (finds find ≡ true))

  at_key : (v u : View) (s key : ℕ) (cause : Cause) (place : Option ℕ) → place ≡ Some key → IfSome place (λ k. IsFound v u s k (Refused cause)) → IsFound v u s key (Refused cause)
  at_key v u s key cause None e found = absurd (cc)
  at_key v u s key cause (Some k) e found = let same : k ≡ key = cc in subst (λ (n : ℕ). IsFound v u s n (Refused cause)) same found

  found_by : AreShown → (s : ℕ) (call : CallKind) (reply : Reply) (v u : View) → AfterLine s call reply v u → refuses_for causes reply ≡ true → (find : FindOf) × FoundSince v u s find × (finds find ≡ true)
  found_by shown s call reply v u a e =
      let h = refused_for causes reply e in let x = shown h.0 h.2 in
      let k = key_found call h.0 (subst (λ (r : Reply). can_answer call r ≡ true) h.1 a.kind) x.0 in
      x.1 v u s k.0 (at_key v u s k.0 h.0 (key_of (write_of call)) k.1 (subst (λ (r : Reply). IfSome (key_of (write_of call)) (λ key. IsFound v u s key r)) h.1 a.found))

  line_found : AreShown → (s : ℕ) (call : CallKind) (reply : Reply) (v u : View) → AfterLine s call reply v u → (b : Bool) → refuses_for causes reply ≡ b → count_by finds (knows v s).finds + cond b 1 0 ≤ count_by finds (knows u s).finds
  line_found shown s call reply v u a false e =
      let g = ap (count_by finds) a.called.finds.1 in let b = sum_by-append (λ (f : FindOf). cond (finds f) 1 0) (knows v s).finds a.called.finds.0 in omega arith
  line_found shown s call reply v u a true e =
      let x = found_by shown s call reply v u a e in
      let g = ap (count_by finds) x.1.grows in let b = sum_by-append (λ (f : FindOf). cond (finds f) 1 0) (knows v s).finds x.1.more in
      let c = one_counted finds x.1.more x.0 x.1.here x.2 in omega arith

  pub line_counts : AreShown → (s t : ℕ) (call : CallKind) (reply : Reply) (v u : View) → AfterLine s call reply v u → AreFound finds causes (answered (Call t call) reply ∷ []) (knows v s) (knows u s)
  line_counts shown s t call reply v u a =
      let x = line_found shown s call reply v u a (refuses_for causes reply) refl in let one = count_one (λ (one : Answered). refuses_for causes one.reply) (answered (Call t call) reply) in omega arith

  pub more_found : (a b : Known) (more : List FindOf) → b.finds ≡ a.finds ++ more → AreFound finds causes [] a b
  more_found a b more e = let g = ap (count_by finds) e in let c = sum_by-append (λ (f : FindOf). cond (finds f) 1 0) a.finds more in omega arith

  pub found_on : (xs ys : List Answered) (a b c : Known) → AreFound finds causes xs a b → AreFound finds causes ys b c → AreFound finds causes (xs ++ ys) a c
  found_on xs ys a b c x y = let e = sum_by-append (λ (one : Answered). cond (refuses_for causes one.reply) 1 0) xs ys in omega arith

latches_shown : AreShown is_latched_find is_latched_cause
latches_shown Latched e = (refl, λ v u s key found. (LatchedRecord found.rec, found.found, refl))
latches_shown cause e = absurd (cc)

unfinished_shown : AreShown is_unfinished_find is_unfinished_cause
unfinished_shown (Unfinished j n) e = (refl, λ v u s key found. (UnfinishedVersion (found.latch.rec + 1) found.version.tail j n ((knows v s).begin + 1), found.found, refl))
unfinished_shown cause e = absurd (cc)

tables_shown : AreShown is_full_table_find is_full_table_cause
tables_shown TableFull e = (refl, λ v u s key found. (FullRecords, since v u s key found, refl))
  where
    since : (v u : View) (s key : ℕ) → FoundFull v u s key → FoundSince v u s FullRecords
    since v u s key found = record {
      more = FullRecords ∷ [];
      grows = ap (λ (k : Known). k.finds) found.after.view.now ∙ (ap (λ (k : Known). k.finds ++ FullRecords ∷ []) found.before.view.now ∙ ap (λ (fs : List FindOf). fs ++ FullRecords ∷ []) (append-nil (knows v s).finds));
      here = (0, omega arith, refl);
    }
tables_shown cause e = absurd (cc)

ranges_shown : AreShown is_full_range_find is_full_range_cause
ranges_shown TailFull e = (refl, λ v u s key found. (FullTails (range_of found.judged.latch.rec), found.found, refl))
ranges_shown cause e = absurd (cc)

-- ---- the writes and the records of one line

writes_more : (v u : View) (s : ℕ) (write : Option Write) (reply : Reply) → LeavesWrites v u s write reply → length (knows u s).done ≡ length (knows v s).done + cond (is_some (key_of write) && is_done reply) 1 0
writes_more v u s (Some write) Done h = let e = ap length h.done in omega (arith, length-append (knows v s).done (record { number = (knows v s).number; rec = h.rec; tail = h.tail } ∷ []))
writes_more v u s (Some write) reply h = let e = ap length h in omega arith
writes_more v u s None reply h = let e = ap length h in omega arith

key_is : (t : ℕ) (call : CallKind) (reply : Reply) → is_accepted (answered (Call t call) reply) ≡ (is_some (key_of (write_of call)) && is_done reply)
key_is t call reply = refl

drawn_more : (a b : Placing) (m : ℕ) → Drew a b m → length b.drawn ≤ length a.drawn + m
drawn_more a b m x = let e = ap length x.drawn in let f = x.few in omega (arith, length-append a.drawn x.drew)

-- ---- the begins of one line

number_more : (call : CallKind) (reply : Reply) (state : SessionState) → (after_call call reply state).begun ≡ state.begun + cond {A = ℕ} (is_begun reply) 1 0
number_more call (Begun time) state = refl
number_more call reply state = omega arith

pins_more : (v u : View) (s : ℕ) (reply : Reply) → LeavesPins v u s reply → (knows u s).pages.pins ≡ (knows v s).pages.pins + cond {A = ℕ} (is_begun reply) 1 0
pins_more v u s (Begun time) h = h
pins_more v u s reply h = let e : (knows u s).pages.pins ≡ (knows v s).pages.pins = h in omega arith

-- ---- the line behind a write, and behind a latch

one_in : {X : Type 0} (one x : X) → Contains (one ∷ []) x → one ≡ x
one_in one x h = let first : h.0 ≡ 0 = let low = h.1 in omega arith in subst (λ (i : ℕ). get_or (one ∷ []) i x ≡ x) first h.2

same_in : {X : Type 0} (xs ys : List X) (x : X) → xs ≡ ys → Contains xs x → Contains ys x
same_in xs ys x e h = subst (λ (zs : List _). Contains zs x) e h

-- a write that is accepted is one of the open transaction
numbered : (l : Limits) (k : Known) → open_cause true (session_told k).current ≡ None → IsSomeAnd (session_told k).current (λ transaction. transaction.number ≡ k.number)
numbered l k e = by_open k.is_open refl
  where
    by_open : (b : Bool) → k.is_open ≡ b → IsSomeAnd (session_told k).current (λ transaction. transaction.number ≡ k.number)
    by_open true is = subst (λ (st : SessionState). IsSomeAnd st.current (λ transaction. transaction.number ≡ k.number)) (sym (opened_told k is)) refl
    by_open false is = let none : open_cause true None ≡ None = subst (λ (st : SessionState). open_cause true st.current ≡ None) (closed_told k is) e in absurd (cc)

open_write : (l : Limits) (state : SessionState) (call : CallKind) (write : Write) → write_of call ≡ Some write → StateIsToldAtAnyLevel l state call Done → open_cause true state.current ≡ None
open_write l state (Insert key row) write is told = sym told.refusal
open_write l state (Update key patch) write is told = sym told.refusal
open_write l state (Delete key) write is told = sym told.refusal
open_write l state call write is told = absurd (cc)

module _ (s t : ℕ) (call : CallKind) (v u : View) (own : t ≡ s) where
  line_wrote : (write : Option Write) (reply : Reply) → write_of call ≡ write → StateIsToldAtAnyLevel v.limits (session_told (knows v s)) call reply → LeavesWrites v u s write reply
      → (deed : Deed) → Contains (knows u s).done deed → Contains (knows v s).done deed ⊎ HasWritten s (session_told (knows v s)) (answered (Call t call) reply ∷ []) (knows u s) deed
  line_wrote (Some write) Done is state h deed at =
      ⊎_elim (λ old. inl old)
      (λ last. inr (subst (HasWritten s (session_told (knows v s)) (answered (Call t call) Done ∷ []) (knows u s)) (one_in (record { number = (knows v s).number; rec = h.rec; tail = h.tail }) deed last) record {
        key = write.key;
        placed = h.placed;
        before = [];
        call = call;
        after = [];
        place = ap (λ (n : ℕ). answered (Call n call) Done ∷ []) own;
        on_key = ap (λ (w : Option Write). names write.key (key_of w)) is ∙ eq-eqb write.key write.key refl;
        transaction = numbered v.limits (knows v s) (open_write v.limits (session_told (knows v s)) call write is state);
      }))
      (Contains-append_cases (knows v s).done (record { number = (knows v s).number; rec = h.rec; tail = h.tail } ∷ []) deed (same_in _ _ deed h.done at))
  line_wrote (Some write) reply is state h deed at = inl (same_in _ _ deed h at)
  line_wrote None reply is state h deed at = inl (same_in _ _ deed h at)

  held_here : (a b c : Bool) → a ≡ true → b ≡ true → c ≡ false → ((a && (b && not c)) || false) ≡ true
  held_here true true false x y z = refl
  held_here a b c x y z = absurd (cc)

  line_held : (place : Option ℕ) (reply : Reply) → key_of (write_of call) ≡ place → LeavesLatched v u s place reply → (rec : ℕ) → Contains (knows u s).latched rec → Contains (knows v s).latched rec ⊎ HasHeld s (answered (Call t call) reply ∷ []) (knows u s) rec
  line_held place reply is h rec at = ⊎_elim (λ e. inl (same_in _ _ rec e at)) (λ x. last place is x.0 x.1) h
    where
      last : (place : Option ℕ) → key_of (write_of call) ≡ place → takes_no_latch reply ≡ false → IsSomeAnd place (IsLastLatch v u s) → Contains (knows v s).latched rec ⊎ HasHeld s (answered (Call t call) reply ∷ []) (knows u s) rec
      last None is e x = absurd x
      last (Some key) is e x =
          ⊎_elim (λ old. inl old)
          (λ new. inr (subst (HasHeld s (answered (Call t call) reply ∷ []) (knows u s)) (one_in x.rec rec new) record {
            key = key;
            placed = x.placed;
            held = held_here (is_by s (answered (Call t call) reply)) (names key (key_of (write_of call))) (takes_no_latch reply) (eq-eqb t s own) (ap (names key) is ∙ eq-eqb key key refl) e;
          }))
          (Contains-append_cases (knows v s).latched (x.rec ∷ []) rec (same_in _ _ rec x.latched at))

-- ---- together

pub leaves_none : (s : ℕ) (k : Known) → Leaves s [] k k
leaves_none s k = record {
  seen = same_extends k.seen;
  state = refl;
  mine = sym (append-nil (mine s k));
  number = omega arith;
  pins = omega arith;
  latches = omega arith;
  unfinished = omega arith;
  full_table = omega arith;
  full_range = omega arith;
  done = omega arith;
  drawn = omega arith;
  facts = λ fact h. h;
  writes = λ deed h. inl h;
  latched = λ rec h. inl h;
}

pub leaves_on : (s : ℕ) (xs ys : List Answered) (a b c : Known) → Leaves s xs a b → Leaves s ys b c → Leaves s (xs ++ ys) a c
leaves_on s xs ys a b c x y = record {
  seen = extends_on a.seen b.seen c.seen x.seen y.seen;
  state = y.state ∙ (ap (λ (st : SessionState). state_from st s ys) x.state ∙ sym (state_on (session_told a) s xs ys));
  mine = y.mine ∙ (ap (λ (cs : List Commit). cs ++ commits_told s (session_told b) ys) x.mine
      ∙ (append_assoc (mine s a) (commits_told s (session_told a) xs) (commits_told s (session_told b) ys)
      ∙ (ap (λ (st : SessionState). mine s a ++ (commits_told s (session_told a) xs ++ commits_told s st ys)) x.state ∙ ap (λ (cs : List Commit). mine s a ++ cs) (sym (commits_on s (session_told a) xs ys)))));
  number = let h = x.number in let g = y.number in let e = sum_by-append (λ (one : Answered). cond (tells_begun one) 1 0) xs ys in omega arith;
  pins = let h = x.pins in let g = y.pins in let e = sum_by-append (λ (one : Answered). cond (tells_begun one) 1 0) xs ys in omega arith;
  latches = found_on is_latched_find is_latched_cause xs ys a b c x.latches y.latches;
  unfinished = found_on is_unfinished_find is_unfinished_cause xs ys a b c x.unfinished y.unfinished;
  full_table = found_on is_full_table_find is_full_table_cause xs ys a b c x.full_table y.full_table;
  full_range = found_on is_full_range_find is_full_range_cause xs ys a b c x.full_range y.full_range;
  done = let h = x.done in let g = y.done in let e = sum_by-append (λ (one : Answered). cond (is_accepted one) 1 0) xs ys in omega arith;
  drawn = let h = x.drawn in let g = y.drawn in let e = sum_by-append (λ (one : Answered). cond (may_take_record one) 1 0) xs ys in omega arith;
  facts = λ fact h. y.facts fact (x.facts fact h);
  writes = λ deed h. ⊎_elim (λ old. ⊎_elim (λ older. inl older) (λ w. inr (wrote_left deed w)) (x.writes deed old)) (λ w. inr (wrote_right deed w)) (y.writes deed h);
  latched = λ rec h. ⊎_elim (λ old. ⊎_elim (λ older. inl older) (λ w. inr (held_left rec w)) (x.latched rec old)) (λ w. inr (held_right rec w)) (y.latched rec h);
}
  where
    wrote_left : (deed : Deed) → HasWritten s (session_told a) xs b deed → HasWritten s (session_told a) (xs ++ ys) c deed
    wrote_left deed w = record {
      key = w.key;
      placed = (w.placed.0, y.facts _ w.placed.1);
      before = w.before;
      call = w.call;
      after = w.after ++ ys;
      place = ap (λ (ones : List Answered). ones ++ ys) w.place ∙ append_assoc w.before (answered (Call s w.call) Done ∷ w.after) ys;
      on_key = w.on_key;
      transaction = w.transaction;
    }

    wrote_right : (deed : Deed) → HasWritten s (session_told b) ys c deed → HasWritten s (session_told a) (xs ++ ys) c deed
    wrote_right deed w = record {
      key = w.key;
      placed = w.placed;
      before = xs ++ w.before;
      call = w.call;
      after = w.after;
      place = ap (λ (ones : List Answered). xs ++ ones) w.place ∙ sym (append_assoc xs w.before (answered (Call s w.call) Done ∷ w.after));
      on_key = w.on_key;
      transaction = subst (λ (st : SessionState). IsSomeAnd st.current (λ transaction. transaction.number ≡ deed.number)) (ap (λ (st : SessionState). state_from st s w.before) x.state ∙ sym (state_on (session_told a) s xs w.before)) w.transaction;
    }

    or_first : (p q : Bool) → p ≡ true → (p || q) ≡ true
    or_first true q e = refl
    or_first false q e = absurd (cc)

    or_second : (p q : Bool) → q ≡ true → (p || q) ≡ true
    or_second true q e = refl
    or_second false q e = e

    held_left : (rec : ℕ) → HasHeld s xs b rec → HasHeld s (xs ++ ys) c rec
    held_left rec w = record {
      key = w.key;
      placed = (w.placed.0, y.facts _ w.placed.1);
      held = list_any-append (λ one. is_by s one && may_take_latch w.key one) xs ys ∙ or_first _ _ w.held;
    }

    held_right : (rec : ℕ) → HasHeld s ys c rec → HasHeld s (xs ++ ys) c rec
    held_right rec w = record {
      key = w.key;
      placed = w.placed;
      held = list_any-append (λ one. is_by s one && may_take_latch w.key one) xs ys ∙ or_second _ _ w.held;
    }

line_leaves : (s t : ℕ) (call : CallKind) (reply : Reply) (v u : View) → t ≡ s → AfterLine s call reply v u → Leaves s (answered (Call t call) reply ∷ []) (knows v s) (knows u s)
line_leaves s t call reply v u own a = record {
  seen = a.called.seen;
  state = a.state ∙ sym (own_after s t call reply (session_told (knows v s)) own);
  mine = commits_more v u s reply a.commits ∙ ap (λ (cs : List Commit). mine s (knows v s) ++ cs) (sym (append-nil (commit_told s (commit_time reply) (session_told (knows v s)).current)));
  number =
      let h : (knows u s).number ≡ (after_call call reply (session_told (knows v s))).begun = ap (λ (st : SessionState). st.begun) a.state in
      let g : (after_call call reply (session_told (knows v s))).begun ≡ (knows v s).number + cond {A = ℕ} (is_begun reply) 1 0 = number_more call reply (session_told (knows v s)) in
      let e : count_by tells_begun (answered (Call t call) reply ∷ []) ≡ cond {A = ℕ} (is_begun reply) 1 0 = count_one tells_begun (answered (Call t call) reply) in omega arith;
  pins =
      let h = pins_more v u s reply a.pins in
      let e : count_by tells_begun (answered (Call t call) reply ∷ []) ≡ cond {A = ℕ} (is_begun reply) 1 0 = count_one tells_begun (answered (Call t call) reply) in omega arith;
  latches = line_counts is_latched_find is_latched_cause latches_shown s t call reply v u a;
  unfinished = line_counts is_unfinished_find is_unfinished_cause unfinished_shown s t call reply v u a;
  full_table = line_counts is_full_table_find is_full_table_cause tables_shown s t call reply v u a;
  full_range = line_counts is_full_range_find is_full_range_cause ranges_shown s t call reply v u a;
  done = let h = writes_more v u s (write_of call) reply a.writes in let e = count_one is_accepted (answered (Call t call) reply) in omega arith;
  drawn = let h = drawn_more (knows v s).placing (knows u s).placing _ a.drawn.drew in let e = count_one may_take_record (answered (Call t call) reply) in omega arith;
  facts = a.called.facts;
  writes = line_wrote s t call v u own (write_of call) reply refl (a.tells 0 (knows u s).seen (omega arith) (same_extends (knows u s).seen)).refusals a.writes;
  latched = line_held s t call v u own (key_of (write_of call)) reply refl a.latched;
}

abbrev RunsLeave : Type 0
RunsLeave = (s : ℕ) (lines : List Line) (replies : List Reply) (v w : View) → Runs s lines replies v w → Leaves s (answered_all lines replies) (knows v s) (knows w s)

pub runs_leave : RunsLeave
runs_leave s [] [] v w x = subst (λ (u : View). Leaves s [] (knows v s) (knows u s)) (sym x) (leaves_none s (knows v s))
runs_leave s [] (reply ∷ replies) v w x = absurd x
runs_leave s (Phase ∷ lines) replies v w x = absurd x
runs_leave s (Merge range column ∷ lines) replies v w x = absurd x
runs_leave s (Call t call ∷ lines) [] v w x = absurd x
runs_leave s (Call t call ∷ lines) (reply ∷ replies) v w x =
    leaves_on s (answered (Call t call) reply ∷ []) (answered_all lines replies) (knows v s) (knows x.1.0 s) (knows w s) (line_leaves s t call reply v x.1.0 x.0 x.1.1) (runs_leave s lines replies x.1.0 w x.1.2)

-- to hear of others leaves all but what is seen and found
pub hears_leave : (s : ℕ) (old new : Session) → old.number ≡ s → Hears old new → Leaves s [] (known_by old) (known_by new)
hears_leave s old new is h = subst (λ (n : ℕ). Leaves n [] (known_by old) (known_by new)) is record {
  seen = h.seen;
  state = same_told old.number (known_by old) (known_by new) h.same;
  mine = h.same.mine ∙ sym (append-nil (mine old.number (known_by old)));
  number = let e = h.same.transaction.number in omega arith;
  pins = let e = h.pins in omega arith;
  latches = more_found is_latched_find is_latched_cause (known_by old) (known_by new) h.finds.0 h.finds.1;
  unfinished = more_found is_unfinished_find is_unfinished_cause (known_by old) (known_by new) h.finds.0 h.finds.1;
  full_table = more_found is_full_table_find is_full_table_cause (known_by old) (known_by new) h.finds.0 h.finds.1;
  full_range = more_found is_full_range_find is_full_range_cause (known_by old) (known_by new) h.finds.0 h.finds.1;
  done = let e = ap length h.lists.done in omega arith;
  drawn = let e = ap length h.lists.drawn in omega arith;
  facts = h.facts;
  writes = λ deed at. inl (same_in _ _ deed h.lists.done at);
  latched = λ rec at. inl (same_in _ _ rec h.lists.latched at);
}
