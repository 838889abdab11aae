-- The auditors: what each of their calls leaves of the sessions, and what an audit reads.
use Rattle.std.proofs.Common.{◌≡◌, ℕ, ◌+◌, ◌<◌, ◌≤◌, Bool, false, eqb, List, [], ◌∷◌, ◌++◌, length, get_or, refl, sym, ap, ◌∙◌, subst, arith, append-nil, length-append}
use Rattle.std.specs.List.{All, AllByRecursion}
use Rattle.std.proofs.lemmas.List.{get_or_default}
use Rattle.lst_model.specs.declared.commits.Commit.{Commit}
use Rattle.lst_model.specs.Tables.{sum_of}
use Rattle.lst_model.specs.Histories.{Extends, table_at}
use Rattle.lst_core_state.specs.State.{mine}
use Rattle.lst_rule.specs.declared.store.Store.{Store}
use Rattle.lst_rule.specs.Learned.{Possible}
use Rattle.lst_session.specs.declared.passes.Merger.{Merger}
use Rattle.lst_session.specs.declared.session.Session.{Session}
use Rattle.lst_session.specs.Parting.{known_by, IsPass, IsAlone, IsMergerOf, HearsMore, IsNextPhase, seen_at}
use Rattle.lst_session.specs.Passes.{IsReady}
use Rattle.lst_work.specs.ParSums.{HasSummed, HaveSummed, HaveSeenAlike}
use Rattle.lst_work.proofs.SeenAlike.{phases_see_alike}
use Rattle.lst_accounts.proofs.Lasting.{same_table}
use Rattle.lst_embedded.specs.declared.audits.Audit.{Audit}
use Rattle.lst_embedded.specs.Doing.{HasAdded, HaveLooked, AreAuditors, IsRead, HaveAudited}
use Rattle.lst_embedded.proofs.Adding.{long}
use Rattle.lst_embedded.proofs.Going.{added_none, added_on}

-- ---- one session after another

pub heard_by : (store : Store) (a b : Session) → HearsMore store a b → HasAdded a b []
heard_by store a b x = record {
  number = x.number;
  hosted = x.hosted;
  seen = x.knows.grows;
  mine = x.mine ∙ sym (append-nil (mine a.number (known_by a)));
}

pub summed_by : (store : Store) (a b : Session) → HasSummed store a b → HasAdded a b []
summed_by store a b x = record {
  number = x.session;
  hosted = x.called.learns.hosted;
  seen = x.reads.seen;
  mine = x.reads.mine ∙ sym (append-nil (mine a.number (known_by a)));
}

pub looked_on : (a b c : List Session) → HaveLooked a b → HaveLooked b c → HaveLooked a c
looked_on a b c x y = record {
  count = y.count ∙ x.count;
  each = λ i none low. added_on (get_or a i none) (get_or b i none) (get_or c i none) [] [] (x.each i none low) (y.each i none (let same = x.count in omega (arith, same, low)));
}

pub looked_none : (a : List Session) → HaveLooked a a
looked_none a = record { count = refl; each = λ i none low. added_none (get_or a i none) }

pub heard_all : (store : Store) (a b : List Session) → IsNextPhase store a b → HaveLooked a b
heard_all store a b x = record { count = x.more.count; each = λ i none low. heard_by store (get_or a i none) (get_or b i none) (x.more.each i none low) }

pub summed_all : (store : Store) (a b : List Session) → HaveSummed store a b → HaveLooked a b
summed_all store a b x = record { count = x.count; each = λ i none low. summed_by store (get_or a i none) (get_or b i none) (x.each i none low) }

-- ---- the auditors stay auditors

pub alone_still : (a b : Session) (more : List Commit) → HasAdded a b more → IsAlone a → IsAlone b
alone_still a b more x alone s = ap (λ (hs : List Bool). get_or hs s false) x.hosted ∙ (alone s ∙ ap (eqb s) (sym x.number))

pub auditors_still : (store : Store) (a b : List Session) → AreAuditors store a → HaveLooked a b → All (IsReady store) b → AreAuditors store b
auditors_still store a b x looked ready = record {
  count = looked.count ∙ x.count;
  ready = ready;
  alone = λ none. alone_still (get_or a 0 none) (get_or b 0 none) [] (looked.each 0 none (let two = x.count in omega (arith, two))) (x.alone none);
}

pub summed_ready : (store : Store) (a b : List Session) → HaveSummed store a b → All (IsReady store) b
summed_ready store a b x i none low = (x.each i none (let same = x.count in omega (arith, same, low))).ready

pub ready_pass : (store : Store) (a : Session) → IsReady store a → IsPass store a
ready_pass store a x = record { seat_of = x.seat_of; host = x.host; own = x.own }

pub all_pass : (store : Store) (sessions : List Session) → All (IsReady store) sessions → All (IsPass store) sessions
all_pass store sessions all i none low = ready_pass store (get_or sessions i none) (all i none low)

pub seen_alike : (store : Store) (a b : List Session) (none : Session) (time : ℕ) → AreAuditors store a → IsNextPhase store a b → Possible (get_or a 0 none).seat.view → time ≤ length (seen_at a 0 none) → HaveSeenAlike time b
seen_alike store a b none time auditors phase possible early =
    let some : 0 < length a = let two = auditors.count in omega (arith, two) in
    phases_see_alike store a b 0 none time phase some (ready_pass store (get_or a 0 none) (auditors.ready 0 none some)) (auditors.alone none) possible early

-- ---- what an audit read

pub read_still : (longer shorter : List Commit) → Extends longer shorter → (audit : Audit) → IsRead shorter audit → IsRead longer audit
read_still longer shorter grows audit read = record {
  early = let more = long longer shorter grows in let early = read.early in omega (arith, more, early);
  is = read.is ∙ ap (λ t. sum_of t 0) (sym (same_table longer shorter grows audit.time read.early));
}

pub reads_still : (longer shorter : List Commit) → Extends longer shorter → (audits : List Audit) → AllByRecursion (IsRead shorter) audits → AllByRecursion (IsRead longer) audits
reads_still longer shorter grows [] all = tt
reads_still longer shorter grows (audit ∷ audits) all = (read_still longer shorter grows audit all.0, reads_still longer shorter grows audits all.1)

pub reads_join : (seen : List Commit) (audits more : List Audit) → AllByRecursion (IsRead seen) audits → AllByRecursion (IsRead seen) more → AllByRecursion (IsRead seen) (audits ++ more)
reads_join seen [] more all others = others
reads_join seen (audit ∷ audits) more all others = (all.0, reads_join seen audits more all.1 others)

-- ---- one audit

-- the first session of a list, and what it has seen
module _ (a : List Session) (first : Session) (some : 0 < length a) (is : first ≡ get_or a 0 first) where
  pub first_early : (time : ℕ) → time ≡ length (known_by first).seen → (none : Session) → time ≤ length (seen_at a 0 none)
  first_early time seen none =
      let same : length (known_by first).seen ≡ length (seen_at a 0 none) = ap (λ (x : Session). length (known_by x).seen) (is ∙ get_or_default a 0 first none some) in
      omega (arith, seen, same)

  pub first_alike : (store : Store) (b : List Session) (time : ℕ) → AreAuditors store a → IsNextPhase store a b → Possible first.seat.view → time ≡ length (known_by first).seen → HaveSeenAlike time b
  first_alike store b time auditors phase possible seen =
      seen_alike store a b first time auditors phase (subst (λ (x : Session). Possible x.seat.view) is possible) (first_early time seen first)

  pub first_hosts : (store : Store) → AreAuditors store a → IsReady store first
  first_hosts store auditors = subst (IsReady store) (sym is) (auditors.ready 0 first some)

pub audit_read : (store : Store) (a b c : List Session) (time total : ℕ) → AreAuditors store a → IsNextPhase store a b → HaveSummed store b c → ((none : Session) → time ≤ length (seen_at a 0 none))
    → ((i : ℕ) (none : Session) → i < length b → total ≡ sum_of (table_at (seen_at b i none) time) 0) → (none : Session) → IsRead (seen_at c 0 none) record { time = time; total = total }
audit_read store a b c time total auditors phase summed early sums none =
    let heard = heard_all store a b phase in
    let one : 0 < length a = let two = auditors.count in omega (arith, two) in
    let other : 0 < length b = let same = heard.count in omega (arith, one, same) in
    let more = long (seen_at b 0 none) (seen_at a 0 none) (heard.each 0 none one).seen in
    let low = early none in
    read_still (seen_at c 0 none) (seen_at b 0 none) ((summed_all store b c summed).each 0 none other).seen record { time = time; total = total } record { early = omega (arith, more, low); is = sums 0 none other }

pub audited_looked : (store : Store) (a b c : List Session) → IsNextPhase store a b → HaveSummed store b c → HaveLooked a c
audited_looked store a b c phase summed = looked_on a b c (heard_all store a b phase) (summed_all store b c summed)

-- ---- one audit after another

pub audited_none : (store : Store) (a : List Session) (merger : Merger) → AreAuditors store a → IsMergerOf store merger → HaveAudited store a a merger [] 0
audited_none store a merger auditors merger_of = record { auditors = auditors; looked = looked_none a; merger_of = merger_of; count = refl; each = λ none. tt }

pub audited_on : (store : Store) (a b c : List Session) (before after : Merger) (audits : List Audit) (audit : Audit) (n : ℕ) → HaveAudited store a b before audits n → AreAuditors store c → HaveLooked b c
    → ((none : Session) → IsRead (seen_at c 0 none) audit) → IsMergerOf store after → HaveAudited store a c after (audits ++ audit ∷ []) (n + 1)
audited_on store a b c before after audits audit n x auditors looked read merger_of = record {
  auditors = auditors;
  looked = looked_on a b c x.looked looked;
  merger_of = merger_of;
  count = let size = length-append audits (audit ∷ []) in let count = x.count in omega (arith, size, count);
  each = λ none. reads_join (seen_at c 0 none) audits (audit ∷ []) (reads_still (seen_at c 0 none) (seen_at b 0 none) (looked.each 0 none (let two = x.auditors.count in omega (arith, two))).seen audits (x.each none)) (read none, tt);
}
