-- What a session's state is by its view, and histories that go on from what it has seen.
use Rattle.std.proofs.Common.{◌≡◌, ◌≢◌, ℕ, ◌+◌, ◌-◌, ◌≤◌, List, [], ◌∷◌, ◌++◌, Bool, true, false, ◌||◌, ◌==◌, cond, length, take, Option, Some, None, refl, sym, subst, ap, ◌∙◌, arith, append_assoc, length-append}
use Rattle.std.specs.Prelude.{slice_get, IsSomeAnd, IsTrue, get_or}
use Rattle.std.specs.List.{list_any}
use Rattle.std.proofs.lemmas.Bool.{ne_eqb}
use Rattle.std.proofs.lemmas.List.{take-append-le, get_or_at}
use Rattle.std.proofs.lemmas.Option.{slice_get_read}
use Rattle.lst_model.specs.declared.acts.Write.{Write}
use Rattle.lst_model.specs.declared.commits.Commit.{Commit}
use Rattle.lst_model.specs.Tables.{no_rows, all_applied}
use Rattle.lst_model.specs.Histories.{Extends, replayed, snapshot, acts_on}
use Rattle.lst_core_state.specs.declared.known.Known.{Known}
use Rattle.lst_rule.specs.Judging.{WroteAt}
use Rattle.lst_session.specs.Calls.{SameWork}
use Rattle.lst_replies.specs.declared.states.SessionState.{SessionState}
use Rattle.lst_replies.specs.Explained.{commit_at, has_write_on}
use Rattle.lst_work_laws.specs.Lines.{transaction_told, session_told}

-- ---- the state

pub opened_told : (k : Known) → k.is_open ≡ true → session_told k ≡ record { begun = k.number; current = Some (transaction_told k) }
opened_told k e = ap (λ (b : Bool). state k b) e
  where
    state : Known → Bool → SessionState
    state k b = record { begun = k.number; current = cond b (Some (transaction_told k)) None }

pub closed_told : (k : Known) → k.is_open ≡ false → session_told k ≡ record { begun = k.number; current = None }
closed_told k e = ap (λ (b : Bool). state k b) e
  where
    state : Known → Bool → SessionState
    state k b = record { begun = k.number; current = cond b (Some (transaction_told k)) None }

pub same_told : (s : ℕ) (u k : Known) → SameWork s u k → session_told k ≡ session_told u
same_told s u k same = λ i. record {
  begun = same.transaction.number i;
  current = cond (same.transaction.is_open i) (Some (record { number = same.transaction.number i; begin = same.transaction.begin i; read_only = same.transaction.read_only i; writes = same.own i })) None;
}

-- ---- histories

pub extends_on : (a b c : List Commit) → Extends b a → Extends c b → Extends c a
extends_on a b c x y = (x.0 ++ y.0, y.1 ∙ (ap (λ (cs : List Commit). cs ++ y.0) x.1 ∙ append_assoc a x.0 y.0))

pub later_length : (history seen : List Commit) → Extends history seen → length seen ≤ length history
later_length history seen e = let h = ap length e.1 in omega (arith, length-append seen e.0)

-- what a transaction sees is the same under each history that goes on from one that has its begin
pub snapshot_later : (history seen : List Commit) (begin : ℕ) (own : List Write) → begin ≤ length seen → Extends history seen → snapshot history begin own ≡ snapshot seen begin own
snapshot_later history seen begin own early e = ap (λ (front : List Commit). all_applied (replayed no_rows front) own) (ap (take begin) e.1 ∙ take-append-le begin seen e.0 early)

-- ---- the commit at a time

pub at_place : (history before : List Commit) (one : Commit) (rest : List Commit) (time : ℕ) → history ≡ before ++ one ∷ rest → length before + 1 ≡ time → commit_at history time ≡ Some one
at_place history before one rest time is place =
    ap (λ (b : Bool). cond b None (slice_get history (time - 1))) (ne_eqb time 0 (λ e. absurd (omega arith)))
    ∙ slice_get_read history (length history) (time - 1) one refl (let h = ap length is in omega (arith, length-append before (one ∷ rest))) (sym (ap (λ (h : List Commit). get_or h (time - 1) one) is ∙ get_or_at before one rest one (time - 1) (omega arith)))

pub any_write : (key : ℕ) (writes : List Write) → acts_on key writes ≢ [] → list_any (λ (write : Write). write.key == key) writes ≡ true
any_write key [] some = absurd (some refl)
any_write key (write ∷ writes) some = by_test (write.key == key) (any_write key writes) some
  where
    by_test : (b : Bool) → (acts_on key writes ≢ [] → list_any (λ (write : Write). write.key == key) writes ≡ true) → cond b (write.act ∷ acts_on key writes) (acts_on key writes) ≢ []
        → b || list_any (λ (write : Write). write.key == key) writes ≡ true
    by_test true rest h = refl
    by_test false rest h = rest h

-- a commit that was seen has a write on the key, and has it under each history that goes on
pub wrote_later : (history seen : List Commit) (time name key : ℕ) → Extends history seen → WroteAt seen time name key → IsSomeAnd (commit_at history time) (λ commit. IsTrue (has_write_on key commit))
wrote_later history seen time name key e w = subst (λ (o : Option Commit). IsSomeAnd o (λ commit. IsTrue (has_write_on key commit)))
    (sym (at_place history w.before w.commit (w.rest ++ e.0) time (e.1 ∙ (ap (λ (cs : List Commit). cs ++ e.0) w.is ∙ append_assoc w.before (w.commit ∷ w.rest) e.0)) w.place))
    (any_write key w.commit.writes w.wrote)

pub wrote_low : (seen : List Commit) (time name key : ℕ) → WroteAt seen time name key → time ≤ length seen
wrote_low seen time name key w = let h = ap length w.is in let p = w.place in omega (arith, length-append w.before (w.commit ∷ w.rest))
