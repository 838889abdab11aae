-- A commit that is run again on a crew, call by call.
use Rattle.std.proofs.Common.{◌≡◌, ◌⊎◌, ℕ, suc, ◌+◌, ◌*◌, ◌<◌, ◌≤◌, List, [], ◌∷◌, ◌++◌, length, take, drop, get_or, refl, sym, ap, ◌∙◌, subst, arith, inl, inr, length-append}
use Rattle.std.proofs.Math.Seq.{split_at, take-suc}
use Rattle.std.specs.Prelude.{Result, Ok, Err, OnErr}
use Rattle.std.specs.List.{AllByRecursion}
use Rattle.lst_model.specs.Lines.{CallFits}
use Rattle.lst_replay_laws.proofs.Lists.{all_at}
use Rattle.lst_session.specs.declared.kinds.WriteRefusal.{WriteRefusal}
use Rattle.lst_session.specs.Replies.{write_reply, write_cause}
use Rattle.lst_layout.specs.declared.limits.Limits.{Limits}
use Rattle.lst_model.specs.declared.acts.Write.{Write}
use Rattle.lst_model.specs.declared.commits.Commit.{Commit}
use Rattle.lst_model.specs.declared.lines.Call.{Call}
use Rattle.lst_model.specs.declared.lines.Call.TheVariants.{Begin, Commit as CommitCall}
use Rattle.lst_model.specs.declared.replies.Reply.{Reply}
use Rattle.lst_model.specs.declared.replies.Reply.TheVariants.{Begun, Done, Committed, Refused}
use Rattle.lst_model.specs.declared.replies.Cause.{Cause}
use Rattle.lst_model.specs.declared.replies.Cause.TheVariants.{Spent, TableFull, TailFull}
use Rattle.lst_machine.specs.State.{Store, State}
use Rattle.lst_machine.specs.Calls.{call_reply, store_after}
use Rattle.lst_replay_laws.specs.Again.{call_of, after_writes, after_again, commits_by, placed_by, keys_written, writes_in}
use Rattle.lst_replay_laws.specs.Rests.{IsUnderWay, IsFull, MeetsLimit}
use Rattle.lst_replay_laws.specs.Runs.{HasWrites}
use Rattle.lst_replay_laws.specs.Laws.{BeginsAgain, WritesAgain, CommitsAgain}
use Rattle.lst_rule.specs.declared.view.View.{View}
use Rattle.lst_session.specs.Crews.{TellsState, Answers, store_told}
use Rattle.lst_redo.specs.Recoveries.{MayRun, IsMaking, WritesFindFull}

-- ---- writes

after_writes-more : (limits : Limits) (store : Store) (s : ℕ) (ws : List Write) (w : Write) → after_writes limits store s (ws ++ w ∷ []) ≡ store_after limits (after_writes limits store s ws) s (call_of w)
after_writes-more limits store s [] w = refl
after_writes-more limits store s (x ∷ ws) w = after_writes-more limits (store_after limits store s (call_of x)) s ws w

-- where none of these writes finds anything full, nor the next one, none of them all does
find_at : (limits : Limits) (store : Store) (s : ℕ) (ws done rest : List Write) (w x : Write) → ws ++ w ∷ [] ≡ done ++ x ∷ rest → ¬ WritesFindFull limits store s ws
    → ¬ IsFull (call_reply limits (after_writes limits store s ws) s (call_of w)) → IsFull (call_reply limits (after_writes limits store s done) s (call_of x)) → ⊥
find_at limits store s [] [] rest w x e free here full = let same : x ≡ w = cc in here (subst (λ (y : Write). IsFull (call_reply limits store s (call_of y))) same full)
find_at limits store s [] (d ∷ done) rest w x e free here full = let none : ◌≡◌ {A = List Write} [] (done ++ x ∷ rest) = cc in absurd (let long = ap length none in omega (arith, long, length-append done (x ∷ rest)))
find_at limits store s (y ∷ ws) [] rest w x e free here full = let same : x ≡ y = cc in
    free (record { done = []; write = y; rest = ws; split = refl; full = subst (λ (z : Write). IsFull (call_reply limits store s (call_of z))) same full })
find_at limits store s (y ∷ ws) (d ∷ done) rest w x e free here full =
    let same : d ≡ y = cc in
    let tails : ws ++ w ∷ [] ≡ done ++ x ∷ rest = cc in
    find_at limits (store_after limits store s (call_of y)) s ws done rest w x tails
    (λ f. free (record { done = y ∷ f.done; write = f.write; rest = f.rest; split = ap (λ (zs : List Write). y ∷ zs) f.split; full = f.full }))
    here (subst (λ (z : Write). IsFull (call_reply limits (after_writes limits (store_after limits store s (call_of z)) s done) s (call_of x))) same full)

pub free_more : (limits : Limits) (store : Store) (s : ℕ) (ws : List Write) (w : Write) → ¬ WritesFindFull limits store s ws → ¬ IsFull (call_reply limits (after_writes limits store s ws) s (call_of w)) → ¬ WritesFindFull limits store s (ws ++ w ∷ [])
free_more limits store s ws w free here f = find_at limits store s ws f.done f.rest w f.write f.split free here f.full

none_yet : (limits : Limits) (store : Store) (s : ℕ) → ¬ WritesFindFull limits store s []
none_yet limits store s f = at f.done f.split
  where
    at : (done : List Write) → ◌≡◌ {A = List Write} [] (done ++ f.write ∷ f.rest) → ⊥
    at [] e = omega (arith, ap length e)
    at (d ∷ done) e = omega (arith, ap length e)

not_full : (r : Reply) → r ≡ Done → ¬ IsFull r
not_full r e full = subst IsFull e full

is_full : (r : Reply) → (r ≡ Refused TableFull) ⊎ (r ≡ Refused TailFull) → IsFull r
is_full r (inl e) = subst IsFull (sym e) tt
is_full r (inr e) = subst IsFull (sym e) tt

done_not : (cause : Cause) → Done ≡ Refused cause → ⊥
done_not cause e = cc

begun_not : (n : ℕ) (cause : Cause) → Begun n ≡ Refused cause → ⊥
begun_not n cause e = cc

committed_not : (n : ℕ) (cause : Cause) → Committed n ≡ Refused cause → ⊥
committed_not n cause e = cc

-- ---- the calls

told_after : (v w : View) (s : ℕ) (call : Call) (answer : Reply) → Answers v w s call answer → store_told w ≡ store_after v.limits (store_told v) s call
told_after v w s call answer answers = ap (λ (st : State). st.store) answers.next

-- the session of a commit that may run has begun
pub began : BeginsAgain → (v w : View) (c : Commit) (time : ℕ) → MayRun v c → c.session < v.limits.sessions → TellsState w → Answers v w c.session Begin (Begun time) → IsMaking w (store_told w) c []
began law v w c time may low tells answers = at (law v.limits may.front (store_told v) c.session low may.rested)
  where
    at : ((call_reply v.limits (store_told v) c.session Begin ≡ Begun (length may.front)) × (commits_by c.session may.front < v.limits.txns) × IsUnderWay v.limits may.front c.session [] (store_after v.limits (store_told v) c.session Begin))
        ⊎ ((call_reply v.limits (store_told v) c.session Begin ≡ Refused Spent) × (v.limits.txns ≤ commits_by c.session may.front)) → IsMaking w (store_told w) c []
    at (inl begun) = record {
      tells = tells;
      front = may.front;
      may = may.may;
      under_way = subst (λ (l : Limits). IsUnderWay l may.front c.session [] (store_told w)) (sym answers.limits)
          (subst (IsUnderWay v.limits may.front c.session []) (sym (told_after v w c.session Begin (Begun time) answers)) begun.2);
      told = refl;
      free = none_yet w.limits (store_told w) c.session;
    }
    at (inr spent) = absurd (begun_not time Spent (answers.reply ∙ spent.0))

-- its begin is refused where it has no transaction left
pub spent_meets : BeginsAgain → (v w : View) (c : Commit) (cause : Cause) → MayRun v c → c.session < v.limits.sessions → Answers v w c.session Begin (Refused cause) → MeetsLimit v.limits (store_told v) c
spent_meets law v w c cause may low answers = at (law v.limits may.front (store_told v) c.session low may.rested)
  where
    at : ((call_reply v.limits (store_told v) c.session Begin ≡ Begun (length may.front)) × (commits_by c.session may.front < v.limits.txns) × IsUnderWay v.limits may.front c.session [] (store_after v.limits (store_told v) c.session Begin))
        ⊎ ((call_reply v.limits (store_told v) c.session Begin ≡ Refused Spent) × (v.limits.txns ≤ commits_by c.session may.front)) → MeetsLimit v.limits (store_told v) c
    at (inl begun) = absurd (begun_not (length may.front) cause (sym begun.0 ∙ sym answers.reply))
    at (inr spent) = inr (inl spent.0)

module _ (law : WritesAgain) (v w : View) (begun : Store) (c : Commit) (columns : ℕ) (done : List Write) (write : Write) (rest : List Write) (is : IsMaking v begun c done) (has : HasWrites columns c) (split : c.writes ≡ done ++ write ∷ rest) where
  abbrev Next : Type 0
  Next = ((call_reply v.limits (store_told v) c.session (call_of write) ≡ Done) × IsUnderWay v.limits is.front c.session (done ++ write ∷ []) (store_after v.limits (store_told v) c.session (call_of write)))
      ⊎ (((call_reply v.limits (store_told v) c.session (call_of write) ≡ Refused TableFull) × (256 * v.limits.ranges < length (placed_by (keys_written is.front) (done ++ write ∷ []))))
      ⊎ ((call_reply v.limits (store_told v) c.session (call_of write) ≡ Refused TailFull) × (v.limits.tails ≤ writes_in is.front + length done)))

  next : Next
  next = law v.limits is.front c done write rest (store_told v) is.may has.order split is.under_way

  -- one write more was made
  pub made_more : TellsState w → Answers v w c.session (call_of write) Done → IsMaking w begun c (done ++ write ∷ [])
  made_more tells answers = at next
    where
      at : Next → IsMaking w begun c (done ++ write ∷ [])
      at (inl made) = record {
        tells = tells;
        front = is.front;
        may = is.may;
        under_way = subst (λ (l : Limits). IsUnderWay l is.front c.session (done ++ write ∷ []) (store_told w)) (sym answers.limits)
            (subst (IsUnderWay v.limits is.front c.session (done ++ write ∷ [])) (sym (told_after v w c.session (call_of write) Done answers)) made.1);
        told = subst (λ (l : Limits). store_told w ≡ after_writes l begun c.session (done ++ write ∷ [])) (sym answers.limits)
            (told_after v w c.session (call_of write) Done answers ∙ ap (λ (st : Store). store_after v.limits st c.session (call_of write)) is.told ∙ sym (after_writes-more v.limits begun c.session done write));
        free = subst (λ (l : Limits). ¬ WritesFindFull l begun c.session (done ++ write ∷ [])) (sym answers.limits)
            (free_more v.limits begun c.session done write is.free (not_full _ (sym (ap (λ (st : Store). call_reply v.limits st c.session (call_of write)) is.told) ∙ made.0)));
      }
      at (inr (inl full)) = absurd (done_not TableFull (answers.reply ∙ full.0))
      at (inr (inr full)) = absurd (done_not TailFull (answers.reply ∙ full.0))

  -- one that is refused finds the table or the range full
  pub found_full : (cause : Cause) → Answers v w c.session (call_of write) (Refused cause) → WritesFindFull v.limits begun c.session c.writes
  found_full cause answers = at next
    where
      full_here : (call_reply v.limits (store_told v) c.session (call_of write) ≡ Refused TableFull) ⊎ (call_reply v.limits (store_told v) c.session (call_of write) ≡ Refused TailFull) → WritesFindFull v.limits begun c.session c.writes
      full_here e = record { done = done; write = write; rest = rest; split = split; full = subst (λ (st : Store). IsFull (call_reply v.limits st c.session (call_of write))) is.told (is_full _ e) }

      at : Next → WritesFindFull v.limits begun c.session c.writes
      at (inl made) = absurd (done_not cause (sym made.0 ∙ sym answers.reply))
      at (inr (inl full)) = full_here (inl full.0)
      at (inr (inr full)) = full_here (inr full.0)

-- behind all its writes the commit is answered its time
pub is_committed : CommitsAgain → (v w : View) (begun : Store) (c : Commit) (columns : ℕ) (cause : Cause) → IsMaking v begun c c.writes → HasWrites columns c → Answers v w c.session CommitCall (Refused cause) → ⊥
is_committed law v w begun c columns cause is has answers =
    committed_not (length is.front + 1) cause (sym (law v.limits is.front c (store_told v) has.some is.under_way).0 ∙ sym answers.reply)

-- and the store is that behind the commit, run again
pub ran_again : (u v w x : View) (c : Commit) (begin end : Reply) → Answers u v c.session Begin begin → IsMaking w (store_told v) c c.writes → w.limits ≡ v.limits → Answers w x c.session CommitCall end → store_told x ≡ after_again u.limits (store_told u) c
ran_again u v w x c begin end began is same ended =
    let low : w.limits ≡ u.limits = same ∙ began.limits in
    told_after w x c.session CommitCall end ended
    ∙ (λ i. store_after (low i) (is.told i) c.session CommitCall)
    ∙ (λ i. store_after u.limits (after_writes (low i) (told_after u v c.session Begin begin began i) c.session c.writes) c.session CommitCall)

-- it met no limit
pub met_none : (u v w : View) (c : Commit) (time : ℕ) → c.session < u.limits.sessions → Answers u v c.session Begin (Begun time) → IsMaking w (store_told v) c c.writes → w.limits ≡ v.limits → ¬ MeetsLimit u.limits (store_told u) c
met_none u v w c time low began is same (inl beyond) = omega (arith, low, beyond)
met_none u v w c time low began is same (inr (inl spent)) = begun_not time Spent (began.reply ∙ spent)
met_none u v w c time low began is same (inr (inr found)) =
    let limits : u.limits ≡ w.limits = sym (same ∙ began.limits) in
    is.free (subst (λ (l : Limits). WritesFindFull l (store_told v) c.session c.writes) limits
    (subst (λ (st : Store). WritesFindFull u.limits st c.session c.writes) (sym (told_after u v c.session Begin (Begun time) began))
    (record { done = found.done; write = found.write; rest = found.rest; split = found.split; full = found.full })))

-- where a write finds anything full, the commit meets a limit
pub full_meets : (u v : View) (c : Commit) (begin : Reply) → Answers u v c.session Begin begin → WritesFindFull v.limits (store_told v) c.session c.writes → MeetsLimit u.limits (store_told u) c
full_meets u v c begin began found =
    let there = subst (λ (st : Store). WritesFindFull u.limits st c.session c.writes) (told_after u v c.session Begin begin began) (subst (λ (l : Limits). WritesFindFull l (store_told v) c.session c.writes) began.limits found) in
    inr (inr (record { done = there.done; write = there.write; rest = there.rest; split = there.split; full = there.full }))

-- ---- the loop over the writes

-- the write at a place, between those before it and those behind
pub write_at : (ws : List Write) (i : ℕ) (w : Write) → i < length ws → w ≡ get_or ws i w → ws ≡ take i ws ++ w ∷ drop (suc i) ws
write_at ws i w low is = split_at ws i w low ∙ ap (λ (x : Write). take i ws ++ x ∷ drop (suc i) ws) (sym is)

pub taken_more : (ws : List Write) (i : ℕ) (w : Write) → i < length ws → w ≡ get_or ws i w → take i ws ++ w ∷ [] ≡ take (i + 1) ws
taken_more ws i w low is = ap (λ (x : Write). take i ws ++ x ∷ []) is ∙ sym (take-suc ws i w low) ∙ ap (λ (n : ℕ). take n ws) (let e : suc i ≡ i + 1 = omega arith in e)

-- one of a commit's writes is of the table's columns
pub fits_at : (columns : ℕ) (ws : List Write) (i : ℕ) (w : Write) → i < length ws → w ≡ get_or ws i w → AllByRecursion (λ (x : Write). CallFits columns (call_of x)) ws → CallFits columns (call_of w)
fits_at columns ws i w low is all = all_at (λ (x : Write). CallFits columns (call_of x)) (take i ws) w (drop (suc i) ws) (subst (AllByRecursion (λ (x : Write). CallFits columns (call_of x))) (write_at ws i w low is) all)

-- a reply that isn't Done is a refusal
pub write_refused : (v w : View) (s : ℕ) (c : Call) (refusal : WriteRefusal) → Answers v w s c (write_reply (Err refusal)) → Answers v w s c (Refused (write_cause refusal))
write_refused v w s c refusal answers = answers

pub on_err : {T E P : Type 0} (r : Result T E) → P → OnErr r P
on_err (Ok x) p = tt
on_err (Err e) p = p
