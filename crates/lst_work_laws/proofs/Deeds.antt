-- The writes that a session made on its way through a run.
use Rattle.std.proofs.Common.{◌≡◌, ◌≢◌, ◌⊎◌, ⊎_elim, inl, inr, ℕ, ◌+◌, ◌≤◌, List, [], ◌∷◌, ◌++◌, Bool, true, ◌&&◌, cond, eqb, length, Option, Some, None, Contains, refl, sym, subst, ap, ◌∙◌, arith}
use Rattle.std.specs.Prelude.{IsSomeAnd, is_some}
use Rattle.std.specs.List.{count_by, list_any}
use Rattle.std.proofs.lemmas.List.{length_push}
use Rattle.std.proofs.lemmas.List.Sums.{sum_by-cons}
use Rattle.std.proofs.lemmas.List.Elements.{Contains-push_cases}
use Rattle.std.proofs.lemmas.Bool.{eq-eqb, eqb-true, and_parts, or_cases}
use Rattle.lst_layout.specs.declared.limits.Limits.{Limits}
use Rattle.lst_model.specs.declared.acts.Write.{Write}
use Rattle.lst_model.specs.declared.lines.Line.{Line}
use Rattle.lst_model.specs.declared.lines.Line.TheVariants.{Phase, Merge, Call}
use Rattle.lst_model.specs.declared.lines.Call.{Call as CallKind}
use Rattle.lst_model.specs.declared.replies.Reply.{Reply}
use Rattle.lst_model.specs.declared.replies.Reply.TheVariants.{Begun, Done, Row, Absent, Committed, Ended, Aborted, Sum as SumReply, Count as CountReply, Rows, Keys, Refused, Merged, NothingNew, NoFrame, Silent}
use Rattle.lst_core_state.specs.declared.known.Known.{Known}
use Rattle.lst_core_state.specs.declared.known.Done.{Done as DoneWrite}
use Rattle.lst_core_state.specs.declared.facts.Fact.{Fact}
use Rattle.lst_rule.specs.Seen.{HasKey}
use Rattle.lst_replies.specs.declared.states.Transaction.{Transaction}
use Rattle.lst_replies.specs.declared.states.SessionState.{SessionState}
use Rattle.lst_replies.specs.Runs.{Answered, answered, names, write_of, key_of, is_by, is_done, is_accepted, is_accepted_on}
use Rattle.lst_replies.specs.States.{state_from}
use Rattle.lst_work_laws.specs.Lines.{session_told}
use Rattle.lst_work_laws.proofs.Telling.{opened_told}
use Rattle.lst_work_laws.specs.Lives.{Stays, Writes, MayWrite, Answers, Passes, Lives}
use Rattle.lst_work_laws.proofs.Living.{passes_state, lives_grow, key_kept}

-- ---- one line

record WroteOne (u k : Known) (o : Option Write) (reply : Reply) : Type 0 where
  pub write : Write
  pub is : o ≡ Some write
  pub accepted : reply ≡ Done
  pub writes : Writes u k write.key

may_write : (u k : Known) (o : Option Write) (reply : Reply) → MayWrite u k o reply → (k.done ≡ u.done) ⊎ WroteOne u k o reply
may_write u k None reply m = inl m
may_write u k (Some write) Done m = inr record { write = write; is = refl; accepted = refl; writes = m }
may_write u k (Some write) (Begun time) m = inl m
may_write u k (Some write) (Row row) m = inl m
may_write u k (Some write) Absent m = inl m
may_write u k (Some write) (Committed time) m = inl m
may_write u k (Some write) (Ended time) m = inl m
may_write u k (Some write) Aborted m = inl m
may_write u k (Some write) (SumReply total) m = inl m
may_write u k (Some write) (CountReply rows) m = inl m
may_write u k (Some write) (Rows list) m = inl m
may_write u k (Some write) (Keys list) m = inl m
may_write u k (Some write) (Refused cause) m = inl m
may_write u k (Some write) (Merged tps) m = inl m
may_write u k (Some write) (NothingNew tps) m = inl m
may_write u k (Some write) (NoFrame session) m = inl m
may_write u k (Some write) Silent m = inl m

is_done_says : (reply : Reply) → is_done reply ≡ true → reply ≡ Done
is_done_says Done e = refl
is_done_says (Begun time) e = cc
is_done_says (Row row) e = cc
is_done_says Absent e = cc
is_done_says (Committed time) e = cc
is_done_says (Ended time) e = cc
is_done_says Aborted e = cc
is_done_says (SumReply total) e = cc
is_done_says (CountReply rows) e = cc
is_done_says (Rows list) e = cc
is_done_says (Keys list) e = cc
is_done_says (Refused cause) e = cc
is_done_says (Merged tps) e = cc
is_done_says (NothingNew tps) e = cc
is_done_says (NoFrame session) e = cc
is_done_says Silent e = cc

-- ---- how many

accepted_one : (call : CallKind) (reply : Reply) (o : Option Write) (write : Write) → o ≡ Some write → reply ≡ Done → (is_some (key_of o) && is_done reply) ≡ true
accepted_one call reply o write e d = ap (λ (p : Option Write). is_some (key_of p) && is_done reply) e ∙ ap is_done d

passes_done : (limits : Limits) (s : ℕ) (line : Line) (reply : Reply) (u k : Known) → Passes limits s line reply u k
    → length k.done ≤ length u.done + cond {A = ℕ} (is_by s (answered line reply) && is_accepted (answered line reply)) 1 0
passes_done limits s Phase reply u k p = let e = ap length p.done in omega arith
passes_done limits s (Merge range column) reply u k p = let e = ap length p.done in omega arith
passes_done limits s (Call t call) reply u k p = ⊎_elim
    (λ (x : (t ≢ s) × Stays s u k). let e = ap length x.1.done in omega arith)
    (λ (x : (t ≡ s) × Answers limits s call reply u k). ⊎_elim
    (λ (same : k.done ≡ u.done). let e = ap length same in omega arith)
    (λ (w : WroteOne u k (write_of call) reply).
    let e = ap length w.writes.done in let more = length_push u.done (record { number = u.number; rec = w.writes.rec; tail = w.writes.tail }) in
    let b : cond {A = ℕ} (eqb t s && is_accepted (answered (Call t call) reply)) 1 0 ≡ 1
    = ap (λ (b : Bool). cond {A = ℕ} (b && is_accepted (answered (Call t call) reply)) 1 0) (eq-eqb t s x.0) ∙ ap (λ (b : Bool). cond {A = ℕ} b 1 0) (accepted_one call reply (write_of call) w.write w.is w.accepted) in
    omega arith) (may_write u k (write_of call) reply x.1.writes)) p

-- each write made came by a line of the session's that was accepted
pub lives_done : (limits : Limits) (s : ℕ) (run : List Answered) (u k : Known) → Lives limits s run u k → length k.done ≤ length u.done + count_by (λ one. is_by s one && is_accepted one) run
lives_done limits s [] u k x = let e = ap length x.done in omega arith
lives_done limits s (one ∷ run) u k x =
    let head = passes_done limits s one.line one.reply u x.0 x.1 in let rest = lives_done limits s run x.0 k x.2 in
    let split : count_by (λ y. is_by s y && is_accepted y) (one ∷ run) ≡ cond {A = ℕ} (is_by s one && is_accepted one) 1 0 + count_by (λ y. is_by s y && is_accepted y) run
    = sum_by-cons (λ y. cond {A = ℕ} (is_by s y && is_accepted y) 1 0) one run in omega arith

-- ---- which

-- the session's transaction of that number has an accepted write on the record's key
pub record Wrote (s : ℕ) (facts : List Fact) (state : SessionState) (run : List Answered) (d : DoneWrite) : Type 0 where
  pub before : List Answered
  pub call : CallKind
  pub after : List Answered
  pub key : ℕ
  pub place : run ≡ before ++ answered (Call s call) Done ∷ after
  pub on_key : names key (key_of (write_of call)) ≡ true
  pub placed : HasKey facts d.rec key
  pub transaction : IsSomeAnd (state_from state s before).current (λ transaction. transaction.number ≡ d.number)

record WroteHere (s : ℕ) (facts : List Fact) (state : SessionState) (line : Line) (reply : Reply) (d : DoneWrite) : Type 0 where
  pub call : CallKind
  pub key : ℕ
  pub is : line ≡ Call s call
  pub accepted : reply ≡ Done
  pub on_key : names key (key_of (write_of call)) ≡ true
  pub placed : HasKey facts d.rec key
  pub transaction : IsSomeAnd state.current (λ transaction. transaction.number ≡ d.number)

same_done : (u k : Known) (d : DoneWrite) (P : Type 0) → k.done ≡ u.done → Contains k.done d → Contains u.done d ⊎ P
same_done u k d P e h = inl (subst (λ (ds : List DoneWrite). Contains ds d) e h)

number_told : (u : Known) → u.is_open ≡ true → IsSomeAnd (session_told u).current (λ transaction. transaction.number ≡ u.number)
number_told u is_on = subst (λ (st : SessionState). IsSomeAnd st.current (λ (transaction : Transaction). transaction.number ≡ u.number)) (sym (opened_told u is_on)) refl

own_done : (s t : ℕ) (call : CallKind) (reply : Reply) (u k : Known) (d : DoneWrite) → t ≡ s → WroteOne u k (write_of call) reply → Contains k.done d
    → Contains u.done d ⊎ WroteHere s k.facts (session_told u) (Call t call) reply d
own_done s t call reply u k d is w h = let made : DoneWrite = record { number = u.number; rec = w.writes.rec; tail = w.writes.tail } in ⊎_elim
    (λ (old : Contains u.done d). inl old)
    (λ (e : made ≡ d). inr record {
      call = call;
      key = w.write.key;
      is = ap (λ (n : ℕ). Call n call) is;
      accepted = w.accepted;
      on_key = ap (λ (o : Option Write). names w.write.key (key_of o)) w.is ∙ eq-eqb w.write.key w.write.key refl;
      placed = subst (λ (x : DoneWrite). HasKey k.facts x.rec w.write.key) e w.writes.placed;
      transaction = subst (λ (x : DoneWrite). IsSomeAnd (session_told u).current (λ (transaction : Transaction). transaction.number ≡ x.number)) e (number_told u w.writes.opened);
    }) (Contains-push_cases u.done made d (subst (λ (ds : List DoneWrite). Contains ds d) w.writes.done h))

passes_wrote : (limits : Limits) (s : ℕ) (line : Line) (reply : Reply) (u k : Known) (d : DoneWrite) → Passes limits s line reply u k → Contains k.done d → Contains u.done d ⊎ WroteHere s k.facts (session_told u) line reply d
passes_wrote limits s Phase reply u k d p h = same_done u k d _ p.done h
passes_wrote limits s (Merge range column) reply u k d p h = same_done u k d _ p.done h
passes_wrote limits s (Call t call) reply u k d p h = ⊎_elim
    (λ (x : (t ≢ s) × Stays s u k). same_done u k d (WroteHere s k.facts (session_told u) (Call t call) reply d) x.1.done h)
    (λ (x : (t ≡ s) × Answers limits s call reply u k). ⊎_elim
    (λ (same : k.done ≡ u.done). same_done u k d (WroteHere s k.facts (session_told u) (Call t call) reply d) same h)
    (λ (w : WroteOne u k (write_of call) reply). own_done s t call reply u k d x.0 w h) (may_write u k (write_of call) reply x.1.writes)) p

-- each write on the list came by an accepted line on its record's key, within the transaction of its number
pub lives_wrote : (limits : Limits) (s : ℕ) (run : List Answered) (u k : Known) (d : DoneWrite) → Lives limits s run u k → Contains k.done d → Contains u.done d ⊎ Wrote s k.facts (session_told u) run d
lives_wrote limits s [] u k d x h = same_done u k d _ x.done h
lives_wrote limits s (one ∷ run) u k d x h = ⊎_elim
    (λ (old : Contains x.0.done d). ⊎_elim (λ (older : Contains u.done d). inl older)
    (λ (w : WroteHere s x.0.facts (session_told u) one.line one.reply d). inr record {
      before = [];
      call = w.call;
      after = run;
      key = w.key;
      place = ap (λ (line : Line). answered line one.reply ∷ run) w.is ∙ ap (λ (reply : Reply). answered (Call s w.call) reply ∷ run) w.accepted;
      on_key = w.on_key;
      placed = key_kept x.0 k d.rec w.key (lives_grow limits s run x.0 k x.2) w.placed;
      transaction = w.transaction;
    }) (passes_wrote limits s one.line one.reply u x.0 d x.1 old))
    (λ (w : Wrote s k.facts (session_told x.0) run d). inr record {
      before = one ∷ w.before;
      call = w.call;
      after = w.after;
      key = w.key;
      place = ap (λ (ones : List Answered). one ∷ ones) w.place;
      on_key = w.on_key;
      placed = w.placed;
      transaction = subst (λ (st : SessionState). IsSomeAnd (state_from st s w.before).current (λ (transaction : Transaction). transaction.number ≡ d.number)) (passes_state limits s one.line one.reply u x.0 x.1) w.transaction;
    }) (lives_wrote limits s run x.0 k d x.2 h)

-- ---- a key once written has a record, for good

named_key : (key : ℕ) (o : Option Write) → names key (key_of o) ≡ true → (write : Write) × (o ≡ Some write) × (write.key ≡ key)
named_key key None e = cc
named_key key (Some write) e = (write, refl, eqb-true write.key key e)

passes_placed : (limits : Limits) (s key : ℕ) (line : Line) (reply : Reply) (u k : Known) → Passes limits s line reply u k → (is_by s (answered line reply) && is_accepted_on key (answered line reply)) ≡ true
    → (rec : ℕ) × HasKey k.facts rec key
passes_placed limits s key Phase reply u k p e = cc
passes_placed limits s key (Merge range column) reply u k p e = cc
passes_placed limits s key (Call t call) reply u k p e =
    let parts = and_parts (eqb t s) (is_accepted_on key (answered (Call t call) reply)) e in
    let inner = and_parts (names key (key_of (write_of call))) (is_done reply) parts.1 in
    let write = named_key key (write_of call) inner.0 in ⊎_elim
    (λ (x : (t ≢ s) × Stays s u k). absurd (x.0 (eqb-true t s parts.0)))
    (λ (x : (t ≡ s) × Answers limits s call reply u k).
    let w : Writes u k write.0.key = subst (λ (r : Reply). MayWrite u k (Some write.0) r) (is_done_says reply inner.1) (subst (λ (o : Option Write). MayWrite u k o reply) write.1 x.1.writes) in
    (w.rec, subst (λ (n : ℕ). HasKey k.facts w.rec n) write.2 w.placed)) p

pub lives_placed : (limits : Limits) (s key : ℕ) (run : List Answered) (u k : Known) → Lives limits s run u k → list_any (λ one. is_by s one && is_accepted_on key one) run ≡ true → (rec : ℕ) × HasKey k.facts rec key
lives_placed limits s key [] u k x e = cc
lives_placed limits s key (one ∷ run) u k x e = ⊎_elim
    (λ (h : (is_by s one && is_accepted_on key one) ≡ true). let p = passes_placed limits s key one.line one.reply u x.0 x.1 h in (p.0, key_kept x.0 k p.0 key (lives_grow limits s run x.0 k x.2) p.1))
    (λ (h : list_any (λ y. is_by s y && is_accepted_on key y) run ≡ true). lives_placed limits s key run x.0 k x.2 h)
    (or_cases (is_by s one && is_accepted_on key one) (list_any (λ y. is_by s y && is_accepted_on key y) run) e)
