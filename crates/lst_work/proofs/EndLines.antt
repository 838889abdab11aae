-- How a session's call ends its transaction, or doesn't, at the serializable level.
use Rattle.std.proofs.Common.{◌≡◌, ◌↔◌, ℕ, ◌<◌, ◌≤◌, ◌⊎◌, ⊎_elim, inl, inr, List, [], ◌∷◌, ◌++◌, Bool, true, false, ◌||◌, cond, length, Option, Some, None, IfSome, IfOk, Result, Ok, Err, refl, sym, subst, ap, ◌∙◌, arith, append_assoc, length-append}
use Rattle.std.specs.Prelude.{IsSomeAnd, IsTrue, IsNone}
use Rattle.lst_model.specs.declared.commits.Commit.{Commit}
use Rattle.lst_model.specs.declared.memory.OutOfMemory.{OutOfMemory}
use Rattle.lst_model.specs.declared.lines.Call.{Call}
use Rattle.lst_model.specs.declared.lines.Call.TheVariants.{Begin, AsOf, Get, Insert, Update, Delete, Sum, Count, Scan, Find, Commit as CommitCall, Abort}
use Rattle.lst_model.specs.declared.replies.Reply.{Reply}
use Rattle.lst_model.specs.declared.replies.Reply.TheVariants.{Committed, Ended, Refused}
use Rattle.lst_model.specs.declared.replies.Cause.{Cause}
use Rattle.lst_model.specs.declared.replies.Cause.TheVariants.{Stale, Idle}
use Rattle.lst_model.specs.Histories.{Extends}
use Rattle.lst_core_state.specs.declared.known.Known.{Known}
use Rattle.lst_rule.specs.declared.view.View.{View}
use Rattle.lst_rule.specs.Rule.{knows}
use Rattle.lst_replies.specs.Runs.{commit_time, is_begun, names}
use Rattle.lst_replies.specs.Levels.{stale_time}
use Rattle.lst_replies.specs.Explained.{commit_at, has_write_on}
use Rattle.lst_replies.specs.ReplyKinds.{can_answer}
use Rattle.lst_session.specs.declared.kinds.Outcome.{Outcome}
use Rattle.lst_session.specs.declared.kinds.Outcome.TheVariants as outcome
use Rattle.lst_serial.specs.declared.keys.KeySet.{KeySet}
use Rattle.lst_serial.specs.declared.kinds.SerialEnd.{SerialEnd}
use Rattle.lst_serial.specs.declared.kinds.SerialEnd.TheVariants as end
use Rattle.lst_serial.specs.Keys.{has}
use Rattle.lst_serial.specs.Serials.{IsStaleAt, FirstChanged, CommitsInPlace, FindsStale}
use Rattle.lst_serial.specs.Waits.{Concludes}
use Rattle.lst_serial_laws.specs.Places.{IsInPlace}
use Rattle.lst_serial_laws.specs.Legal.{key_of_call, reads_table}
use Rattle.lst_work_laws.specs.Keeping.{IsChanged, LineReads}
use Rattle.lst_work_laws.specs.Lines.{AfterLine}
use Rattle.lst_work_laws.proofs.Telling.{later_length, at_place, any_write}
use Rattle.lst_work.specs.declared.reads.Reads.{Reads}
use Rattle.lst_work.specs.Reads.{is_commit, end_reply, EndsRead}
use Rattle.lst_work.proofs.Reading.{committed, ended, stale}

-- ---- only a commit is answered with a commit time, or told stale

commits_only : (call : Call) (time : ℕ) → is_commit call ≡ false → can_answer call (Committed time) ≡ true → ⊥
commits_only Begin time other kind = cc
commits_only (AsOf at) time other kind = cc
commits_only (Get key) time other kind = cc
commits_only (Insert key row) time other kind = cc
commits_only (Update key patch) time other kind = cc
commits_only (Delete key) time other kind = cc
commits_only (Sum column) time other kind = cc
commits_only Count time other kind = cc
commits_only Scan time other kind = cc
commits_only (Find column value) time other kind = cc
commits_only CommitCall time other kind = cc
commits_only Abort time other kind = cc

stales_only : (call : Call) (time : ℕ) → is_commit call ≡ false → can_answer call (Refused (Stale time)) ≡ true → ⊥
stales_only Begin time other kind = cc
stales_only (AsOf at) time other kind = cc
stales_only (Get key) time other kind = cc
stales_only (Insert key row) time other kind = cc
stales_only (Update key patch) time other kind = cc
stales_only (Delete key) time other kind = cc
stales_only (Sum column) time other kind = cc
stales_only Count time other kind = cc
stales_only Scan time other kind = cc
stales_only (Find column value) time other kind = cc
stales_only CommitCall time other kind = cc
stales_only Abort time other kind = cc

pub ends_none : (call : Call) (reply : Reply) → is_commit call ≡ false → can_answer call reply ≡ true → (commit_time reply ≡ None) × (stale_time reply ≡ None)
ends_none call (Committed time) other kind = absurd (commits_only call time other kind)
ends_none call (Refused (Stale time)) other kind = absurd (stales_only call time other kind)
ends_none call reply other kind = (refl, refl)

pub stale_none : (call : Call) (reply : Reply) → is_commit call ≡ false → can_answer call reply ≡ true → IsNone (stale_time reply)
stale_none call reply other kind = subst (λ (o : Option ℕ). IsNone o) (sym (ends_none call reply other kind).1) refl

-- ---- the end of a transaction

module _ (v w : View) (s : ℕ) (keys : KeySet) where
  changed : (time : ℕ) (k : Known) (all : Bool) → k.begin ≡ (knows v s).begin → (knows w s).seen ≡ k.seen → IsStaleAt k keys all (Some time) → (history : List Commit) → Extends history (knows w s).seen
      → IsChanged history (has keys) all (knows v s).begin time
  changed time k true begins same x history goes = record {
    later = (let b = x.0 in let e = x.1 in omega arith);
    past = (let h = later_length history (knows w s).seen goes in let l = ap length same in let b = x.0 in let e = x.1 in omega arith);
    read = inl refl;
  }
  changed time k false begins same x history goes =
      let wrote = x.changed.1 in
      let longer : history ≡ wrote.before ++ wrote.commit ∷ (wrote.rest ++ goes.0) = goes.1 ∙ (ap (λ (cs : List Commit). cs ++ goes.0) (same ∙ wrote.is) ∙ append_assoc wrote.before (wrote.commit ∷ wrote.rest) goes.0) in
      record {
        later = (let b = x.changed.0 in omega arith);
        past = (let h = later_length history (knows w s).seen goes in let l = ap length (same ∙ wrote.is) in let p = wrote.place in let a = length-append wrote.before (wrote.commit ∷ wrote.rest) in omega arith);
        read = inr (
          x.key,
          x.read,
          subst (λ (o : Option Commit). IsSomeAnd o (λ commit. IsTrue (has_write_on x.key commit))) (sym (at_place history wrote.before wrote.commit (wrote.rest ++ goes.0) time longer wrote.place)) (any_write x.key wrote.commit.writes wrote.wrote),
        );
      }

  module _ (all : Bool) (on : (knows v s).is_open ≡ true) (early : (knows v s).begin ≤ length (knows v s).seen) where
    pub end_line : (result : Result Outcome SerialEnd) → Concludes v w s keys all result → AfterLine s CommitCall (end_reply result) v w
    end_line (Ok (outcome.Committed time)) x = committed v w s on time x.commits
    end_line (Ok (outcome.Ended time)) x = subst (λ (t : ℕ). AfterLine s CommitCall (Ended t) v w) (sym x.0) (ended v w s on early x.1 x.2)
    end_line (Err end.Idle) x = absurd x
    end_line (Err (end.Stale time)) x = stale v w s on time x.looks x.wrote

  pub end_read : (all : Bool) (result : Result Outcome SerialEnd) → Concludes v w s keys all result → EndsRead v w s keys all (end_reply result)
  end_read all (Ok (outcome.Committed time)) x = record { placed = x.place; stale = tt }
  end_read all (Ok (outcome.Ended time)) x = record { placed = tt; stale = tt }
  end_read all (Err end.Idle) x = absurd x
  end_read all (Err (end.Stale time)) x = record { placed = tt; stale = changed time (knows x.held s) all x.takes.looks.same.transaction.begin x.still.seen x.stale }

-- ---- any call

commit_is : (call : Call) → is_commit call ≡ true → call ≡ CommitCall
commit_is Begin e = cc
commit_is (AsOf at) e = cc
commit_is (Get key) e = cc
commit_is (Insert key row) e = cc
commit_is (Update key patch) e = cc
commit_is (Delete key) e = cc
commit_is (Sum column) e = cc
commit_is Count e = cc
commit_is Scan e = cc
commit_is (Find column value) e = cc
commit_is CommitCall e = refl
commit_is Abort e = cc

or_false : (b : Bool) → (b || false) ≡ b
or_false true = refl
or_false false = refl

-- a call that is no commit ends nothing
module _ (v w : View) (s : ℕ) (keys : KeySet) (all : Bool) (call : Call) where
  no_end : (reply : Reply) → is_commit call ≡ false → can_answer call reply ≡ true → EndsRead v w s keys all reply
  no_end reply other kind = let none = ends_none call reply other kind in record {
    placed = subst (λ (o : Option ℕ). IfSome o (λ time. (history : List Commit) → Extends history (knows w s).seen → IsInPlace (has keys) all history (knows v s).begin time)) (sym none.0) tt;
    stale = subst (λ (o : Option ℕ). IfSome o (λ time. (history : List Commit) → Extends history (knows w s).seen → IsChanged history (has keys) all (knows v s).begin time)) (sym none.1) tt;
  }

  pub no_ends : (result : Result Reply OutOfMemory) → is_commit call ≡ false → IfOk result (λ reply. AfterLine s call reply v w) → IfOk result (λ reply. EndsRead v w s keys all reply)
  no_ends (Ok reply) other x = no_end reply other x.kind
  no_ends (Err none) other x = tt

  pub commit_line : (reply : Reply) → is_commit call ≡ true → AfterLine s CommitCall reply v w → AfterLine s call reply v w
  commit_line reply e x = subst (λ (c : Call). AfterLine s c reply v w) (sym (commit_is call e)) x

-- what a line reads, from the key that joined before it and the reply that was passed by
module _ (call : Call) (reply : Reply) (v w : View) (s : ℕ) (old mid new : Reads) (kind : can_answer call reply ≡ true)
    (joined : (key : ℕ) → has mid.keys key ≡ (has old.keys key || names key (key_of_call call))) (alike : mid.all ≡ old.all)
    (passed : (key : ℕ) → has new.keys key ≡ cond (is_begun reply) false (has mid.keys key)) (whole : new.all ≡ cond (is_begun reply) false (mid.all || reads_table reply))
    (ends : EndsRead v w s mid.keys mid.all reply) where
  same_keys : is_commit call ≡ true → (key : ℕ) → has mid.keys key ≡ has old.keys key
  same_keys e key = joined key ∙ (ap (λ (c : Call). has old.keys key || names key (key_of_call c)) (commit_is call e) ∙ or_false (has old.keys key))

  placed_before : is_commit call ≡ true → (told : Option ℕ) → IfSome told (λ time. (history : List Commit) → Extends history (knows w s).seen → IsInPlace (has mid.keys) mid.all history (knows v s).begin time)
      → IfSome told (λ time. (history : List Commit) → Extends history (knows w s).seen → IsInPlace (has old.keys) old.all history (knows v s).begin time)
  placed_before e None x = tt
  placed_before e (Some time) x = λ history goes. let p = x history goes in record { rows = λ key was. p.rows key (same_keys e key ∙ was); whole = λ all. p.whole (alike ∙ all) }

  stale_before : is_commit call ≡ true → (told : Option ℕ) → IfSome told (λ time. (history : List Commit) → Extends history (knows w s).seen → IsChanged history (has mid.keys) mid.all (knows v s).begin time)
      → IfSome told (λ time. (history : List Commit) → Extends history (knows w s).seen → IsChanged history (has old.keys) old.all (knows v s).begin time)
  stale_before e None x = tt
  stale_before e (Some time) x = λ history goes. let p = x history goes in record {
    later = p.later;
    past = p.past;
    read = ⊎_elim
        (λ (all : mid.all ≡ true). inl (sym alike ∙ all))
        (λ (one : (key : ℕ) × (has mid.keys key ≡ true) × IsSomeAnd (commit_at history time) (λ commit. IsTrue (has_write_on key commit))). inr (one.0, sym (same_keys e one.0) ∙ one.1, one.2))
        p.read;
  }

  pub line_reads : LineReads call reply (record { known = knows v s; reads = has old.keys; whole = old.all }) (record { known = knows w s; reads = has new.keys; whole = new.all })
  line_reads = record {
    keys = λ key. passed key ∙ ap (cond (is_begun reply) false) (joined key);
    all = whole ∙ ap (λ (b : Bool). cond (is_begun reply) false (b || reads_table reply)) alike;
    placed = by_place (is_commit call) refl;
    stale = by_stale (is_commit call) refl;
  }
    where
      by_place : (b : Bool) → is_commit call ≡ b → IfSome (commit_time reply) (λ time. (history : List Commit) → Extends history (knows w s).seen → IsInPlace (has old.keys) old.all history (knows v s).begin time)
      by_place true e = placed_before e (commit_time reply) ends.placed
      by_place false e = subst (λ (o : Option ℕ). IfSome o (λ time. (history : List Commit) → Extends history (knows w s).seen → IsInPlace (has old.keys) old.all history (knows v s).begin time)) (sym (ends_none call reply e kind).0) tt

      by_stale : (b : Bool) → is_commit call ≡ b → IfSome (stale_time reply) (λ time. (history : List Commit) → Extends history (knows w s).seen → IsChanged history (has old.keys) old.all (knows v s).begin time)
      by_stale true e = stale_before e (stale_time reply) ends.stale
      by_stale false e = subst (λ (o : Option ℕ). IfSome o (λ time. (history : List Commit) → Extends history (knows w s).seen → IsChanged history (has old.keys) old.all (knows v s).begin time)) (sym (ends_none call reply e kind).1) tt

-- a session that isn't idle has a transaction open
pub not_idle : (idle on : Bool) → (idle ≡ true) ↔ (on ≡ false) → idle ≡ false → on ≡ true
not_idle idle true x e = refl
not_idle idle false x e = let h = x.1 refl in cc
