-- What a session keeps of the causes for which it refused writes.
use Rattle.std.proofs.Common.{◌≡◌, ℕ, List, Bool, true, false, ◌&&◌, length, take, Option, Some, None, IfSome, refl, sym, subst, ap, ◌∙◌, arith, length-append}
use Rattle.std.specs.List.{list_any}
use Rattle.std.proofs.lemmas.List.{take-append-le}
use Rattle.std.proofs.lemmas.Bool.{false_from_ne_true}
use Rattle.lst_layout.specs.declared.limits.Limits.{Limits}
use Rattle.lst_model.specs.declared.commits.Commit.{Commit}
use Rattle.lst_model.specs.declared.replies.Reply.{Reply}
use Rattle.lst_model.specs.declared.replies.Reply.TheVariants.{Refused}
use Rattle.lst_model.specs.declared.replies.Cause.{Cause}
use Rattle.lst_model.specs.declared.replies.Cause.TheVariants.{TableFull, Latched, Unfinished, TailFull}
use Rattle.lst_model.specs.Histories.{Extends}
use Rattle.lst_core_state.specs.declared.known.Known.{Known}
use Rattle.lst_replies.specs.declared.states.SessionState.{SessionState}
use Rattle.lst_replies.specs.Runs.{Answered, write_of, key_of, is_by, is_accepted_on}
use Rattle.lst_replies.specs.Explained.{has_write_on, IsNewKey}
use Rattle.lst_work_laws.specs.Lines.{transaction_told, session_told}
use Rattle.lst_work_laws.specs.Lives.{FindsNoRecord, Finds, Lives}
use Rattle.lst_work_laws.specs.Works.{KeepsCause, KeepsCauses}
use Rattle.lst_work_laws.proofs.Telling.{opened_told, closed_told}
use Rattle.lst_work_laws.proofs.Living.{Grows, lives_grow, key_kept, lives_state, Here, lives_at}
use Rattle.lst_work_laws.proofs.Deeds.{lives_placed}
use Rattle.lst_work_laws.proofs.Explaining.{no_commit}

module _ (limits : Limits) (history : List Commit) (s : ℕ) (before : List Answered) (first here next now : Known) (goes : Extends history now.seen) (earlier : Lives limits s before first here) (grows : Grows next now) (is_on : here.is_open ≡ true) where
  -- the key was new
  new_key : (key : ℕ) → FindsNoRecord here next key → IsNewKey history before s here.begin key
  new_key key f = record {
    uncommitted =
        let e = grows.seen in let early = f.begun is_on in
        let front : take here.begin history ≡ take here.begin now.seen = ap (take here.begin) goes.1 ∙ take-append-le here.begin now.seen goes.0 (let m = ap length e.1 in omega (arith, length-append next.seen e.0)) in
        let same : take here.begin now.seen ≡ take here.begin next.seen = ap (take here.begin) e.1 ∙ take-append-le here.begin next.seen e.0 early in
        ap (list_any (has_write_on key)) (front ∙ same) ∙ no_commit key here.begin next.seen f.unseen;
    unwritten = false_from_ne_true (list_any (λ one. is_by s one && is_accepted_on key one) before) (λ e. let p = lives_placed limits s key before first here earlier e in f.unplaced p.0 p.1);
  }

  kept_cause : (key : ℕ) (cause : Cause) → Finds s here next key (Refused cause) → KeepsCause history before s (transaction_told here) key now (Refused cause)
  kept_cause key Latched f = record { rec = f.rec; placed = key_kept next now f.rec key grows f.placed; found = grows.finds _ f.found }
  kept_cause key (Unfinished j n) f = record { other = f.other; rec = f.rec; tail = f.tail; placed = key_kept next now f.rec key grows f.placed; found = grows.finds _ f.found }
  kept_cause key TableFull f = (grows.finds _ f.found, new_key key f)
  kept_cause key TailFull f = record { rec = f.rec; placed = key_kept next now f.rec key grows f.placed; found = grows.finds _ f.found }
  kept_cause key cause f = tt

  kept_reply : (key : ℕ) (reply : Reply) → Finds s here next key reply → KeepsCause history before s (transaction_told here) key now reply
  kept_reply key (Refused cause) f = kept_cause key cause f
  kept_reply key reply f = tt

  kept_at : (place : Option ℕ) (reply : Reply) → IfSome place (λ key. Finds s here next key reply) → IfSome place (λ key. KeepsCause history before s (transaction_told here) key now reply)
  kept_at None reply f = tt
  kept_at (Some key) reply f = kept_reply key reply f

pub keeps_causes : (limits : Limits) (history : List Commit) (s : ℕ) (run : List Answered) (first now : Known) → Lives limits s run first now → Extends history now.seen → KeepsCauses history (session_told first) s run now
keeps_causes limits history s run first now lives goes before call reply after place =
    let h = lives_at limits s before call reply after first now (subst (λ (ones : List Answered). Lives limits s ones first now) place lives) in
    subst (λ (st : SessionState). IfSome st.current (λ transaction. IfSome (key_of (write_of call)) (λ key. KeepsCause history before s transaction key now reply))) (lives_state limits s before first h.then h.earlier) (by_open h h.then.is_open refl)
  where
    by_open : (h : Here limits s before call reply after first now) (b : Bool) → h.then.is_open ≡ b → IfSome (session_told h.then).current (λ transaction. IfSome (key_of (write_of call)) (λ key. KeepsCause history before s transaction key now reply))
    by_open h true e = subst (λ (st : SessionState). IfSome st.current (λ transaction. IfSome (key_of (write_of call)) (λ key. KeepsCause history before s transaction key now reply))) (sym (opened_told h.then e))
        (kept_at limits history s before first h.then h.next now goes h.earlier (lives_grow limits s after h.next now h.later) e (key_of (write_of call)) reply h.answers.found)
    by_open h false e = subst (λ (st : SessionState). IfSome st.current (λ transaction. IfSome (key_of (write_of call)) (λ key. KeepsCause history before s transaction key now reply))) (sym (closed_told h.then e)) tt
