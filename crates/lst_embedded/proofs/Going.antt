-- What the calls of a session leave of it, one after another.
use Rattle.std.proofs.Common.{◌≡◌, ◌≢◌, ℕ, ◌+◌, ◌<◌, ◌≤◌, Bool, false, true, cond, List, [], ◌∷◌, ◌++◌, length, refl, sym, ap, ◌∙◌, subst, arith, append-nil, append_assoc, length-append}
use Rattle.std.specs.Prelude.{Some, Option, Result, Ok, Err, IfOk, OnOk, OnErr, nat_lt}
use Rattle.std.specs.Result.{is_ok, result_or}
use Rattle.lst_model.specs.declared.acts.Act.{Act}
use Rattle.lst_model.specs.declared.acts.Act.TheVariants.{Put, Set}
use Rattle.lst_model.specs.declared.acts.Write.{Write}
use Rattle.lst_model.specs.declared.commits.Commit.{Commit}
use Rattle.lst_model.specs.Cells.{Cell}
use Rattle.lst_model.specs.Tables.{row_of}
use Rattle.lst_model.specs.Histories.{Extends, table_at, snapshot, joined}
use Rattle.lst_core_state.specs.Writes.{write}
use Rattle.lst_core_state.specs.declared.known.Known.{Known}
use Rattle.lst_core_state.specs.State.{mine}
use Rattle.lst_rule.specs.declared.view.View.{View}
use Rattle.lst_rule.specs.Rule.{knows}
use Rattle.lst_rule.specs.declared.store.Store.{Store}
use Rattle.lst_refinement.specs.Effects.{SameTransactions}
use Rattle.lst_session.specs.declared.kinds.CommitRefusal.{CommitRefusal}
use Rattle.lst_session.specs.declared.kinds.CommitRefusal.TheVariants.{Idle, Busy}
use Rattle.lst_session.specs.declared.kinds.Outcome.{Outcome}
use Rattle.lst_session.specs.declared.kinds.Outcome.TheVariants.{Committed, Ended}
use Rattle.lst_session.specs.declared.session.Session.{Session}
use Rattle.lst_session.specs.Calls.{Called, Begins, Gets, Accepts, Refuses, Commits, Ends, FindsHeld, row_seen}
use Rattle.lst_session.specs.Parting.{known_by}
use Rattle.lst_session.specs.Passes.{IsReady}
use Rattle.lst_work_laws.proofs.Telling.{extends_on}
use Rattle.lst_accounts.specs.declared.transfer.Transfer.{Transfer}
use Rattle.lst_accounts.specs.Books.{account, new_balance, opening_of, setting_of, IsPaid, Transfers}
use Rattle.lst_accounts.proofs.Lasting.{same_table}
use Rattle.lst_embedded.specs.Deeds.{opening_balance, IsOpening, IsMove, Lasts}
use Rattle.lst_embedded.specs.Doing.{HasAdded, HasMade, HasDone, HasStarted, GoesOn, HasMoved, commit_of}
use Rattle.lst_embedded.proofs.Adding.{long, all_last, all_join}

-- ---- one call

now_is : (a b : Session) → b.number ≡ a.number → knows b.seat.view a.number ≡ known_by b
now_is a b e = ap (knows b.seat.view) (sym e)

pub added_by : (a b : Session) (more : List Commit) → b.number ≡ a.number → Called a.seat.view b.seat.view a.number → mine a.number (knows b.seat.view a.number) ≡ mine a.number (known_by a) ++ more → HasAdded a b more
added_by a b more e called more_is = record {
  number = e;
  hosted = called.learns.hosted;
  seen = subst (λ (k : Known). Extends k.seen (known_by a).seen) (now_is a b e) called.seen;
  mine = subst (λ (k : Known). mine a.number k ≡ mine a.number (known_by a) ++ more) (now_is a b e) more_is;
}

-- a call that leaves the session's commits
pub kept_by : (a b : Session) → b.number ≡ a.number → Called a.seat.view b.seat.view a.number → mine a.number (knows b.seat.view a.number) ≡ mine a.number (known_by a) → HasAdded a b []
kept_by a b e called same = added_by a b [] e called (same ∙ sym (append-nil (mine a.number (known_by a))))

-- and one that leaves the view
pub still_by : (a b : Session) → b.number ≡ a.number → b.seat.view ≡ a.seat.view → HasAdded a b []
still_by a b e same = record {
  number = e;
  hosted = ap (λ (v : View). v.hosts) same;
  seen = ([], ap (λ (k : Known). k.seen) known ∙ sym (append-nil (known_by a).seen));
  mine = ap (mine a.number) known ∙ sym (append-nil (mine a.number (known_by a)));
}
  where
    known : known_by b ≡ known_by a
    known = sym (now_is a b e) ∙ ap (λ (v : View). knows v a.number) same

pub added_none : (a : Session) → HasAdded a a []
added_none a = still_by a a refl refl

pub started_by : (a b : Session) (clock : ℕ) → b.number ≡ a.number → Begins a.seat.view b.seat.view a.number clock clock false → HasStarted a b
started_by a b clock e x = record {
  added = kept_by a b e x.called x.mine;
  opened = subst (λ (k : Known). k.is_open ≡ true) (now_is a b e) x.begun.is_open;
  own = subst (λ (k : Known). k.own ≡ []) (now_is a b e) x.own;
  early = subst (λ (k : Known). k.begin ≤ length k.seen) (now_is a b e) (let begun = x.begun.begin_is in let seen = x.seen in omega (arith, begun, seen));
}

committed_by : (a b : Session) (time : ℕ) → b.number ≡ a.number → Commits a.seat.view b.seat.view a.number time → HasAdded a b (commit_of a ∷ [])
committed_by a b time e x = added_by a b (commit_of a ∷ []) e x.called x.mine

goes_by : (a b : Session) (own : List Write) → b.number ≡ a.number → Called a.seat.view b.seat.view a.number → SameTransactions (known_by a) (knows b.seat.view a.number) → (knows b.seat.view a.number).own ≡ own
    → mine a.number (knows b.seat.view a.number) ≡ mine a.number (known_by a) → GoesOn a b own
goes_by a b own e called same own_is kept = record {
  added = kept_by a b e called kept;
  transaction = subst (λ (k : Known). SameTransactions (known_by a) k) (now_is a b e) same;
  own_is = subst (λ (k : Known). k.own ≡ own) (now_is a b e) own_is;
}

pub got_by : (a b : Session) (key : ℕ) (row : _) → b.number ≡ a.number → Gets a.seat.view b.seat.view a.number key row → GoesOn a b (known_by a).own
got_by a b key row e x = goes_by a b (known_by a).own e x.called x.same.transaction x.same.own x.same.mine

pub got_row : (a b : Session) (key : ℕ) (row : _) → b.number ≡ a.number → Gets a.seat.view b.seat.view a.number key row → row ≡ row_seen (known_by b) key
got_row a b key row e x = subst (λ (k : Known). row ≡ row_seen k key) (now_is a b e) x.is

pub accepted_by : (a b : Session) (key most : ℕ) (act : Act) → b.number ≡ a.number → Accepts a.seat.view b.seat.view a.number key most act → GoesOn a b (joined (known_by a).own (write key act))
accepted_by a b key most act e x = goes_by a b (joined (known_by a).own (write key act)) e x.called x.transaction x.own x.mine

pub set_by : (a b : Session) (key balance : ℕ) (patch : List (Option Cell)) → b.number ≡ a.number → patch ≡ new_balance balance → Accepts a.seat.view b.seat.view a.number key 0 (Set patch) → GoesOn a b (joined (known_by a).own (setting_of key balance))
set_by a b key balance patch e is x = accepted_by a b key 0 (Set (new_balance balance)) e (subst (λ (p : List (Option Cell)). Accepts a.seat.view b.seat.view a.number key 0 (Set p)) is x)

pub refused_by : (a b : Session) (key most : ℕ) → b.number ≡ a.number → Refuses a.seat.view b.seat.view a.number key most → GoesOn a b (known_by a).own
refused_by a b key most e x = goes_by a b (known_by a).own e x.called x.same.transaction x.same.own x.same.mine

-- ---- one call after another

pub added_on : (a b c : Session) (xs ys : List Commit) → HasAdded a b xs → HasAdded b c ys → HasAdded a c (xs ++ ys)
added_on a b c xs ys x y = record {
  number = y.number ∙ x.number;
  hosted = y.hosted ∙ x.hosted;
  seen = extends_on (known_by a).seen (known_by b).seen (known_by c).seen x.seen y.seen;
  mine = subst (λ (n : ℕ). mine n (known_by c) ≡ mine n (known_by b) ++ ys) x.number y.mine ∙ (ap (λ (cs : List Commit). cs ++ ys) x.mine ∙ append_assoc (mine a.number (known_by a)) xs ys);
}

pub goes_on : (a b c : Session) (one other : List Write) → GoesOn a b one → GoesOn b c other → GoesOn a c other
goes_on a b c one other x y = record {
  added = added_on a b c [] [] x.added y.added;
  transaction = record {
    number = y.transaction.number ∙ x.transaction.number;
    begin = y.transaction.begin ∙ x.transaction.begin;
    read_only = y.transaction.read_only ∙ x.transaction.read_only;
    is_open = y.transaction.is_open ∙ x.transaction.is_open;
  };
  own_is = y.own_is;
}

-- with what it wrote when it goes on from what it had written
pub goes_with : (a b c : Session) (act : List Write → List Write) → GoesOn a b (known_by a).own → GoesOn b c (act (known_by b).own) → GoesOn a c (act (known_by a).own)
goes_with a b c act x y = subst (λ (own : List Write). GoesOn a c (act own)) x.own_is (goes_on a b c (known_by a).own (act (known_by b).own) x y)

-- ---- a commit

-- of a transaction that was tried to commit: it is committed where it has writes, and else nothing was added
module _ (a b : Session) (e : b.number ≡ a.number) where
  pub committed_if : (result : Result Outcome CommitRefusal) → 0 < length (known_by a).own → ((time : ℕ) → result ≡ Ok (Committed time) → Commits a.seat.view b.seat.view a.number time)
      → ((time : ℕ) → result ≡ Ok (Ended time) → (time ≡ (known_by a).begin) × ((known_by a).own ≡ []) × Ends a.seat.view b.seat.view a.number) → OnOk result (HasAdded a b (commit_of a ∷ []))
  committed_if (Ok (Committed time)) wrote committed ended = committed_by a b time e (committed time refl)
  committed_if (Ok (Ended time)) wrote committed ended = absurd (let none = ap length (ended time refl).1 in omega (arith, none, wrote))
  committed_if (Err refusal) wrote committed ended = tt

  pub busy_if : (result : Result Outcome CommitRefusal) → (result ≡ Err Busy → FindsHeld a.seat.view b.seat.view a.number) → (result ≡ Err Idle → b.seat.view ≡ a.seat.view) → OnErr result (HasAdded a b [])
  busy_if (Ok outcome) held still = tt
  busy_if (Err Busy) held still = let x = held refl in kept_by a b e x.called x.same.mine
  busy_if (Err Idle) held still = still_by a b e (still refl)

-- ---- a result that another one stands for where it is a refusal

pub if_or : {A E D : Type 0} (P : A → Type 0) (result : Result A E) (d : D) (x : A) → Ok x ≡ result_or result (Err d) → IfOk result P → P x
if_or P (Ok y) d x is p = let same : x ≡ y = cc in subst P (sym same) p
if_or P (Err e) d x is p = absurd cc

pub on_or : {A E D : Type 0} (P : Type 0) (result : Result A E) (d : D) (x : A) → Ok x ≡ result_or result (Err d) → OnOk result P → P
on_or P (Ok y) d x is p = p
on_or P (Err e) d x is p = absurd cc

pub err_or : {A E D : Type 0} (P : Type 0) (result : Result A E) (d stop : D) → Err stop ≡ result_or result (Err d) → OnErr result P → P
err_or P (Ok x) d stop is p = absurd cc
err_or P (Err e) d stop is p = p

-- what is so where the result is Ok
pub kept_or : {A E D B : Type 0} (result : Result A E) (d : D) (x : A) (now one other : B) → Ok x ≡ result_or result (Err d) → now ≡ cond (is_ok result) one other → now ≡ one
kept_or (Ok y) d x now one other is e = e
kept_or (Err y) d x now one other is e = absurd cc

-- a transaction that was begun
pub begun_or : {E D : Type 0} (a b : Session) → b.number ≡ a.number → (result : Result ℕ E) (d : D) (clock : ℕ) → Ok clock ≡ result_or result (Err d)
    → IfOk result (λ (t : ℕ). Begins a.seat.view b.seat.view a.number t t false) → HasStarted a b
begun_or a b e result d clock is begun = started_by a b clock e (if_or (λ (t : ℕ). Begins a.seat.view b.seat.view a.number t t false) result d clock is begun)

module _ (P : List Commit → Commit → Type 0) (lasts : Lasts P) where
  pub made_on : (a b c : Session) (m n : ℕ) → HasMade P a b m → HasMade P b c n → HasMade P a c (m + n)
  made_on a b c m n x y = record {
    more = x.more ++ y.more;
    added = added_on a b c x.more y.more x.added y.added;
    count = let size = length-append x.more y.more in let a = x.count in let b = y.count in omega (arith, size, a, b);
    each = all_join (P (known_by c).seen) x.more y.more (all_last P lasts (known_by c).seen (known_by b).seen y.added.seen x.more x.each) y.each;
  }

  -- once after nothing
  pub made_after : (a b c : Session) (n : ℕ) → HasAdded a b [] → HasMade P b c n → HasMade P a c n
  made_after a b c n x y = record { more = y.more; added = added_on a b c [] y.more x y.added; count = y.count; each = y.each }

module _ (store : Store) (P : List Commit → Commit → Type 0) where
  pub done_none : (a : Session) → IsReady store a → HasDone store P a a 0
  done_none a ready = record { ready = ready; made = record { more = []; added = added_none a; count = refl; each = tt } }

  pub done_on : Lasts P → (a b c : Session) (n : ℕ) → HasDone store P a b n → IsReady store c → HasMade P b c 1 → HasDone store P a c (n + 1)
  done_on lasts a b c n x ready made = record { ready = ready; made = made_on P lasts a b c n 1 x.made made }

-- ---- an account is opened

pub opened_by : (a b c d : Session) (key : ℕ) → HasStarted a b → c.number ≡ b.number → Accepts b.seat.view c.seat.view b.number key 1 (Put (account opening_balance)) → HasAdded c d (commit_of c ∷ []) → HasMade IsOpening a d 1
opened_by a b c d key started e accepted added = record {
  more = commit_of c ∷ [];
  added = added_on a b d [] (commit_of c ∷ []) started.added (added_on b c d [] (commit_of c ∷ []) goes.added added);
  count = refl;
  each = (
    record {
      early = early;
      key = key;
      is = goes.own_is ∙ ap (λ (own : List Write). joined own (opening_of key opening_balance)) started.own;
    },
    tt,
  );
}
  where
    goes : GoesOn b c (joined (known_by b).own (write key (Put (account opening_balance))))
    goes = accepted_by b c key 1 (Put (account opening_balance)) e accepted

    early : (known_by c).begin ≤ length (known_by d).seen
    early = let one = long (known_by c).seen (known_by b).seen goes.added.seen in let other = long (known_by d).seen (known_by c).seen added.seen in let same = goes.transaction.begin in let low = started.early in omega (arith, one, other, same, low)

pub wrote_by : (a b c : Session) (key : ℕ) → HasStarted a b → c.number ≡ b.number → Accepts b.seat.view c.seat.view b.number key 1 (Put (account opening_balance)) → 0 < length (known_by c).own
wrote_by a b c key started e accepted = let goes = accepted_by b c key 1 (Put (account opening_balance)) e accepted in
    subst (λ (own : List Write). 0 < length own) (sym (goes.own_is ∙ ap (λ (own : List Write). joined own (opening_of key opening_balance)) started.own)) (omega arith)

-- ---- a transfer is made

-- what is seen without writes is the table as of the begin
table_seen : (a b : Session) (key : ℕ) → (known_by a).begin ≤ length (known_by a).seen → (known_by a).own ≡ [] → GoesOn a b (known_by a).own → row_seen (known_by b) key ≡ row_of (table_at (known_by a).seen (known_by a).begin) key
table_seen a b key early none goes =
    ap (λ (own : List Write). row_of (snapshot (known_by b).seen (known_by b).begin own) key) (goes.own_is ∙ none)
    ∙ (ap (λ (n : ℕ). row_of (table_at (known_by b).seen n) key) goes.transaction.begin
    ∙ ap (λ t. row_of t key) (same_table (known_by b).seen (known_by a).seen goes.added.seen (known_by a).begin early))

module _ (a b c d e : Session) (t : Transfer) (payer payee payer_after payee_after : ℕ) (early : (known_by a).begin ≤ length (known_by a).seen) (none : (known_by a).own ≡ []) (differ : t.from ≢ t.to)
    (first : GoesOn a b (known_by a).own) (has : row_seen (known_by b) t.from ≡ Some (account payer))
    (second : GoesOn b c (known_by b).own) (gets : row_seen (known_by c) t.to ≡ Some (account payee))
    (paid : IsPaid t payer payee payer_after payee_after)
    (takes : GoesOn c d (joined (known_by c).own (setting_of t.from payer_after))) (gives : GoesOn d e (joined (known_by d).own (setting_of t.to payee_after))) where
  both : GoesOn a c (known_by a).own
  both = goes_with a b c (λ own. own) first second

  pub moved_by : HasMoved a e t
  moved_by = record {
    own = joined (setting_of t.from payer_after ∷ []) (setting_of t.to payee_after);
    goes = subst (λ (own : List Write). GoesOn a e own) written (goes_on a c e (known_by a).own _ both (goes_on c d e _ _ takes gives));
    is = record {
      differ = differ;
      payer = payer;
      payee = payee;
      payer_has = sym (table_seen a b t.from early none first) ∙ has;
      payee_has = sym (table_seen a c t.to early none both) ∙ gets;
      payer_after = payer_after;
      payee_after = payee_after;
      paid = paid;
      is = refl;
    };
  }
    where
      written : joined (known_by d).own (setting_of t.to payee_after) ≡ joined (setting_of t.from payer_after ∷ []) (setting_of t.to payee_after)
      written = ap (λ (own : List Write). joined own (setting_of t.to payee_after)) (takes.own_is ∙ ap (λ (own : List Write). joined own (setting_of t.from payer_after)) (both.own_is ∙ none))

module _ (b c d : Session) (t : Transfer) (some : 0 < t.amount) (low : (known_by b).begin ≤ length (known_by b).seen) (moved : HasMoved b c t) (added : HasAdded c d (commit_of c ∷ [])) where
  after_begin : Extends (known_by d).seen (known_by b).seen
  after_begin = extends_on (known_by b).seen (known_by c).seen (known_by d).seen moved.goes.added.seen added.seen

  seen_then : table_at (known_by d).seen (known_by c).begin ≡ table_at (known_by b).seen (known_by b).begin
  seen_then = ap (table_at (known_by d).seen) moved.goes.transaction.begin ∙ same_table (known_by d).seen (known_by b).seen after_begin (known_by b).begin low

  early : (known_by c).begin ≤ length (known_by d).seen
  early = let more = long (known_by d).seen (known_by b).seen after_begin in let same = moved.goes.transaction.begin in omega (arith, more, same, low)

  pub transferred_by : HasMade IsMove b d 1
  transferred_by = record {
    more = commit_of c ∷ [];
    added = added_on b c d [] (commit_of c ∷ []) moved.goes.added added;
    count = refl;
    each = (
      record {
        early = early;
        transfer = t;
        some = some;
        is = subst (λ table. Transfers table t (known_by c).own) (sym seen_then) (subst (λ (own : List Write). Transfers (table_at (known_by b).seen (known_by b).begin) t own) (sym moved.goes.own_is) moved.is);
      },
      tt,
    );
  }

-- a transfer has writes
pub moved_writes : (b c : Session) (t : Transfer) → HasMoved b c t → 0 < length (known_by c).own
moved_writes b c t moved = subst (λ (own : List Write). 0 < length own) (sym (moved.goes.own_is ∙ moved.is.is)) (some_joined (setting_of t.from moved.is.payer_after) (setting_of t.to moved.is.payee_after))
  where
    some_joined : (one other : Write) → 0 < length (joined (one ∷ []) other)
    some_joined one other = by (nat_lt other.key one.key)
      where
        by : (b : Bool) → 0 < length (cond b (other ∷ one ∷ []) (one ∷ other ∷ []))
        by true = omega arith
        by false = omega arith

-- ---- a transaction ends without a commit, or was none

pub ended_by : (a b : Session) → b.number ≡ a.number → Ends a.seat.view b.seat.view a.number → HasAdded a b []
ended_by a b e x = kept_by a b e x.called x.mine

aborted_by : {A E : Type 0} (c d : Session) → d.number ≡ c.number → (result : Result A E) → OnOk result (((known_by c).is_open ≡ true) × Ends c.seat.view d.seat.view c.number)
    → OnErr result (((known_by c).is_open ≡ false) × (d.seat.view ≡ c.seat.view)) → HasAdded c d []
aborted_by c d e (Ok x) ends still = ended_by c d e ends.1
aborted_by c d e (Err x) ends still = still_by c d e still.1

pub aborted_after : {A E : Type 0} (a b c d : Session) → HasStarted a b → HasAdded b c [] → (result : Result A E) → d.number ≡ c.number → OnOk result (((known_by c).is_open ≡ true) × Ends c.seat.view d.seat.view c.number)
    → OnErr result (((known_by c).is_open ≡ false) × (d.seat.view ≡ c.seat.view)) → HasAdded a d []
aborted_after a b c d started refused result e ok err = added_on a b d [] [] started.added (added_on b c d [] [] refused (aborted_by c d e result ok err))

-- ---- a result of which more is so

pub when_ok : {A E : Type 0} (P Q : Type 0) → (P → Q) → (result : Result A E) → OnOk result P → OnOk result Q
when_ok P Q f (Ok x) p = f p
when_ok P Q f (Err x) p = tt

pub so_err : {A E : Type 0} (P : Type 0) → P → (result : Result A E) → OnErr result P
so_err P p (Ok x) = tt
so_err P p (Err x) = p
