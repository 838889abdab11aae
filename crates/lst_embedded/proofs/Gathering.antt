-- The store is gathered: what each session did is in the history, and nothing else is.
use Rattle.std.proofs.Common.{◌≡◌, ℕ, ◌<◌, true, cond, List, ◌∷◌, length, get_or, sym, ap, ◌∙◌, subst, arith}
use Rattle.std.specs.List.{All, AllByRecursion, insert}
use Rattle.std.specs.Prelude.{Result, Ok, Err}
use Rattle.std.specs.Result.{is_ok, result_or}
use Rattle.std.proofs.lemmas.List.{nil_from_length}
use Rattle.std.proofs.lemmas.List.Elements.{All-cons}
use Rattle.lst_layout.specs.declared.limits.Limits.{Limits}
use Rattle.lst_layout.specs.Words.{shown}
use Rattle.lst_model.specs.declared.commits.Commit.{Commit}
use Rattle.lst_machine.specs.State.{State}
use Rattle.lst_model.specs.declared.acts.Write.{Write}
use Rattle.lst_model.specs.Histories.{Extends, table_at, snapshot}
use Rattle.lst_model.specs.Soundness.{IsSound}
use Rattle.lst_model.specs.Tables.{sum_of}
use Rattle.lst_core_state.specs.State.{commits_of, mine, history_of, state_over}
use Rattle.lst_rule.specs.declared.store.Store.{Store}
use Rattle.lst_rule.specs.declared.view.View.{View}
use Rattle.lst_rule.specs.Learned.{Possible}
use Rattle.lst_rule.specs.Rule.{knows}
use Rattle.lst_seat.specs.Seats.{HasSeenAll}
use Rattle.lst_scan.specs.Scans.{table_seen}
use Rattle.lst_session.specs.Calls.{Begins}
use Rattle.lst_session.specs.Crews.{IsCrewOf, TakesStock, store_told, state_told}
use Rattle.lst_session.specs.Parting.{known_by, IsPass, IsGathered, seen_at}
use Rattle.lst_session.specs.Passes.{IsReady}
use Rattle.lst_session.specs.declared.crew.Crew.{Crew}
use Rattle.lst_session.specs.declared.session.Session.{Session}
use Rattle.lst_session.proofs.Sounding.{seen_is_sound}
use Rattle.lst_work_laws.proofs.Owners.{AreOwned, commits_owned}
use Rattle.lst_work_laws.proofs.Telling.{extends_on}
use Rattle.lst_accounts.proofs.Lasting.{same_table}
use Rattle.lst_accounts.specs.Books.{total}
use Rattle.lst_embedded.specs.declared.bank.Books.{Books}
use Rattle.lst_embedded.specs.declared.bank.Staff.{Staff}
use Rattle.lst_embedded.specs.Deeds.{IsOpening, IsMove, Lasts}
use Rattle.lst_embedded.specs.Doing.{IsBank, IsRead}
use Rattle.lst_embedded.specs.Staffs.{HasInAll, IsStaffed, sessions_of}
use Rattle.lst_embedded.specs.Kept.{IsKept}
use Rattle.lst_embedded.proofs.Adding.{all_last, openings_last, moves_last}
use Rattle.lst_embedded.proofs.Going.{kept_or}
use Rattle.lst_embedded.proofs.Looking.{reads_still, all_pass}
use Rattle.lst_embedded.proofs.Closing.{AreOurs, is_kept}

-- ---- one session

-- its commits in the history
module _ (w : View) (P : List Commit → Commit → Type 0) (lasts : Lasts P) (s n : ℕ) (session : Session) (has : HasInAll P s n session) (all : HasSeenAll w session.number (known_by session)) where
  own_are : commits_of s (store_told w).history ≡ mine s (known_by session)
  own_are = subst (λ (k : ℕ). commits_of k (store_told w).history ≡ mine k (known_by session)) has.number all.own

  pub own_count : length (commits_of s (store_told w).history) ≡ n
  own_count = ap length own_are ∙ has.count

  pub own_each : AllByRecursion (P (store_told w).history) (commits_of s (store_told w).history)
  own_each = subst (AllByRecursion (P (store_told w).history)) (sym own_are) (all_last P lasts (store_told w).history (known_by session).seen all.grows (mine s (known_by session)) has.each)

-- ---- all of them

module _ (store : Store) (crew : Crew) (m : View) (staff : Staff) (bank : IsBank store) (crew_of : IsCrewOf store crew) (possible : Possible crew.seat.view)
    (gathered : IsGathered (sessions_of staff) m crew.seat.view) (done : IsStaffed store 25 staff) where
  abbrev w : View
  w = crew.seat.view

  abbrev history : List Commit
  history = (store_told w).history

  sessions_are : w.limits.sessions ≡ 4
  sessions_are = ap (λ (l : Limits). l.sessions) crew_of.seat_of.limits ∙ bank.sessions

  abbrev banker : Session
  banker = get_or staff.auditors 0 staff.first

  abbrev other : Session
  other = get_or staff.auditors 1 staff.first

  seen_first : HasSeenAll w staff.first.number (known_by staff.first)
  seen_first = gathered.each 0 staff.first (omega arith)

  seen_second : HasSeenAll w staff.second.number (known_by staff.second)
  seen_second = gathered.each 1 staff.first (omega arith)

  seen_banker : HasSeenAll w banker.number (known_by banker)
  seen_banker = gathered.each 2 staff.first (let count = done.auditors.count in omega (arith, count))

  seen_other : HasSeenAll w other.number (known_by other)
  seen_other = gathered.each 3 staff.first (let count = done.auditors.count in omega (arith, count))

  owned : AreOwned 4 history
  owned = subst (λ (n : ℕ). AreOwned n history) sessions_are
      (subst (λ (words : List ℕ). AreOwned w.limits.sessions (history_of w.limits (shown w.limits words))) (sym (possible.allowed.whole gathered.whole)) (commits_owned (state_over w.limits possible.words possible.known possible.merger) possible.allowed.sound))

  ours : AreOurs history
  ours = record {
    owned = owned;
    first = own_each w IsMove moves_last 0 25 staff.first done.first seen_first;
    first_count = own_count w IsMove moves_last 0 25 staff.first done.first seen_first;
    second = own_each w IsMove moves_last 1 25 staff.second done.second seen_second;
    second_count = own_count w IsMove moves_last 1 25 staff.second done.second seen_second;
    banker = own_each w IsOpening openings_last 2 8 banker (done.banker staff.first) seen_banker;
    banker_count = own_count w IsOpening openings_last 2 8 banker (done.banker staff.first) seen_banker;
    other = nil_from_length (commits_of 3 history) (own_count w IsOpening openings_last 3 0 other (done.other staff.first) seen_other);
  }

  pub seen_zero : (knows w 0).seen ≡ history
  seen_zero = gathered.seen 0 (let e = sessions_are in omega (arith, e))

  sound : IsSound history
  sound = subst IsSound seen_zero (seen_is_sound w 0 possible (crew_of.hosted 0 (let e = sessions_are in omega (arith, e))) (let e = sessions_are in omega (arith, e)))

  pub books_kept : (books : Books) → books.history ≡ history → length books.audits.items ≡ 10 → ((none : Session) → AllByRecursion (IsRead (seen_at staff.auditors 0 none)) books.audits.items) → books.total ≡ total books.history → IsKept books
  books_kept books is ten reads table = is_kept history ours sound books is ten (reads_still history (known_by banker).seen seen_banker.grows books.audits.items (reads staff.first)) (table ∙ ap total is)

-- ---- the sessions together

-- the tellers are put before the auditors, where there is memory
pub together : {A E D : Type 0} (d : D) (x : A) (staff : Staff) (v one two sessions : List Session) (first second : Result A E) → v ≡ staff.auditors → Ok x ≡ result_or first (Err d) → one ≡ cond (is_ok first) (insert v 0 staff.second) v
    → Ok x ≡ result_or second (Err d) → two ≡ cond (is_ok second) (insert one 0 staff.first) one → sessions ≡ two → sessions ≡ sessions_of staff
together d x staff v one two sessions first second auditors done one_is made two_is is =
    is ∙ (kept_or second d x two _ _ made two_is ∙ ap (λ (xs : List Session). staff.first ∷ xs) (kept_or first d x one _ _ done one_is ∙ ap (λ (xs : List Session). staff.second ∷ xs) auditors))

pub ready_together : (store : Store) (n : ℕ) (staff : Staff) → IsStaffed store n staff → All (IsReady store) (sessions_of staff)
ready_together store n staff x = All-cons (IsReady store) staff.first (staff.second ∷ staff.auditors) x.first_ready (All-cons (IsReady store) staff.second staff.auditors x.second_ready x.auditors.ready)

pub pass_together : (store : Store) (n : ℕ) (staff : Staff) → IsStaffed store n staff → All (IsPass store) (sessions_of staff)
pass_together store n staff x = all_pass store (sessions_of staff) (ready_together store n staff x)

-- ---- the sum at the end

-- the history is read, and a transaction begun as of its end: it sees the final table
module _ (v w x : View) (history : List Commit) (clock : ℕ) (whole : v.whole ≡ true) (all : (knows v 0).seen ≡ (store_told v).history) (told : v.whole ≡ true → state_told w ≡ state_told v)
    (is : history ≡ (store_told w).history) (stock : TakesStock v w 0) (begins : Begins w x 0 clock (length history) true) where
  pub history_is : history ≡ (store_told v).history
  history_is = is ∙ ap (λ (s : State). s.store.history) (told whole)

  seen_before : (knows stock.between 0).seen ≡ history
  seen_before = ap (λ (u : View). (knows u 0).seen) stock.surveyed.now ∙ (all ∙ sym history_is)

  seen_after : Extends (knows x 0).seen history
  seen_after = subst (Extends (knows x 0).seen) seen_before (extends_on (knows stock.between 0).seen (knows w 0).seen (knows x 0).seen stock.looks.called.seen begins.called.seen)

  pub table_at_end : table_seen (knows x 0) ≡ table_at history (length history)
  table_at_end = ap (λ (own : List Write). snapshot (knows x 0).seen (knows x 0).begin own) begins.own
      ∙ (ap (table_at (knows x 0).seen) begins.begun.begin_is ∙ same_table (knows x 0).seen history seen_after (length history) (omega arith))

  pub total_is : (sum : ℕ) → sum ≡ sum_of (table_seen (knows x 0)) 0 → sum ≡ total history
  total_is sum e = e ∙ ap (λ t. sum_of t 0) table_at_end

pub session_zero : (store : Store) (crew : Crew) → IsBank store → IsCrewOf store crew → 0 < crew.seat.view.limits.sessions
session_zero store crew bank crew_of = let same : crew.seat.view.limits.sessions ≡ 4 = ap (λ (l : Limits). l.sessions) crew_of.seat_of.limits ∙ bank.sessions in omega (arith, same)

-- ---- the books

pub books_closed : (store : Store) (crew : Crew) (m : View) (staff : Staff) → IsBank store → IsCrewOf store crew → Possible crew.seat.view → IsGathered (sessions_of staff) m crew.seat.view → IsStaffed store 25 staff
    → (w x : View) (history : List Commit) (clock : ℕ) → (crew.seat.view.whole ≡ true → state_told w ≡ state_told crew.seat.view) → history ≡ (store_told w).history → TakesStock crew.seat.view w 0 → Begins w x 0 clock (length history) true
    → (books : Books) → books.history ≡ history → length books.audits.items ≡ 10 → ((none : Session) → AllByRecursion (IsRead (seen_at staff.auditors 0 none)) books.audits.items) → books.total ≡ sum_of (table_seen (knows x 0)) 0 → IsKept books
books_closed store crew m staff bank crew_of possible gathered done w x history clock told is stock begins books same ten reads sum =
    let v = crew.seat.view in let all = seen_zero store crew m staff bank crew_of possible gathered done in
    books_kept store crew m staff bank crew_of possible gathered done books (same ∙ history_is v w x history clock gathered.whole all told is stock begins) ten reads
    (total_is v w x history clock gathered.whole all told is stock begins books.total sum ∙ ap total (sym same))
