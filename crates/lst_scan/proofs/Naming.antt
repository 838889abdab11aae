-- What a walk through a column's postings leaves of its session, and that the records which it gathers are enough for a find.
use Rattle.std.proofs.Common.{◌≡◌, ⊎_elim, ℕ, ◌<◌, List, [], ◌++◌, true, false, Contains, sym, subst, ap, ◌∙◌, append-nil, inl, refl, arith}
use Rattle.std.proofs.lemmas.Bool.{false_from_ne_true}
use Rattle.std.proofs.lemmas.List.{take-append-drop}
use Rattle.std.proofs.lemmas.List.Elements.{All-weaker, Contains-append_left, Contains-append_right, Contains-append_cases}
use Rattle.std.specs.Prelude.{take, drop}
use Rattle.lst_model.specs.declared.acts.Act.{Act}
use Rattle.lst_model.specs.declared.commits.Commit.{Commit}
use Rattle.lst_model.specs.Histories.{acts_on, all_acts_on}
use Rattle.lst_core_state.specs.declared.known.Known.{Known}
use Rattle.lst_core_state.specs.declared.facts.Find.{Find}
use Rattle.lst_core_state.specs.declared.facts.Find.TheVariants as finds
use Rattle.lst_core_state.specs.State.{mine, sight}
use Rattle.lst_core_state.proofs.Writes.{all_acts_on-append}
use Rattle.lst_rule.specs.declared.records.RecordId.{RecordId}
use Rattle.lst_rule.specs.declared.view.View.{View}
use Rattle.lst_rule.specs.Rule.{knows, hosts}
use Rattle.lst_rule.specs.Learned.{Learns, Possible}
use Rattle.lst_rule.proofs.Knowing.{knows_own}
use Rattle.lst_rule.specs.Watching.{IsNotFull, Watched}
use Rattle.lst_rule.proofs.Stamps.{kept_stamped, kept_keeps}
use Rattle.lst_rule.specs.Posting.{IsTailLoad}
use Rattle.lst_second.specs.Candidates.{AreHolders, Probes}
use Rattle.lst_scan.specs.Scans.{AreCandidates}
use Rattle.lst_scan.proofs.Putting.{numbers_were_put}

-- a load of a tail finds no counter full
load_not_full : (f : Find) → IsTailLoad f → IsNotFull f
load_not_full (finds.TailLoad t) is = tt
load_not_full (finds.LatchedRecord r) is = absurd is
load_not_full (finds.FreshClock c) is = absurd is
load_not_full (finds.FreshEpoch e) is = absurd is
load_not_full (finds.UnfinishedVersion about tail session number begin) is = absurd is
load_not_full finds.HeldTurn is = absurd is
load_not_full finds.FullRecords is = absurd is
load_not_full (finds.FullTails range) is = absurd is
load_not_full (finds.CountedTails range count) is = absurd is
load_not_full (finds.EmptyStart t) is = absurd is

-- without a whole tail in hand, the walk has only looked
pub probes_watch : (v w : View) (s : ℕ) → Probes v w s → (knows v s).hold.is_whole ≡ false → Watched v w s
probes_watch v w s a none = let k : Known = knows v s in record {
  learns = subst (λ (u : Known). Learns v w s u) (sym a.view.now) a.view;
  watches = record {
    facts = a.facts;
    finds = a.finds;
    later = [];
    turn = k.turn;
    looks = k.looks;
    counters = k.counters;
    frames = k.pages.session;
    is = a.view.now ∙ (λ i. record k { seen = sym (append-nil k.seen) i; draft = record k.draft { unposted = a.still none i }; facts = k.facts ++ a.facts; finds = k.finds ++ a.finds });
    stage = inl refl;
    room = All-weaker IsTailLoad IsNotFull load_not_full a.finds a.loads;
    pin = refl;
    hand = λ f page is. record { page = page; in_hand = is; same = λ n short. refl };
  };
  own = λ low. ap (mine s) a.view.now;
  words = kept_stamped v w a.view.limits a.kept;
  stamps = kept_keeps v w a.view.limits a.kept;
}

-- where no tail is in hand, none that is whole is
pub no_whole_tail : (v : View) (s : ℕ) → Possible v → hosts v s ≡ true → s < v.limits.sessions → (knows v s).hold.tail ≡ 0 → (knows v s).hold.is_whole ≡ false
no_whole_tail v s p host own none = false_from_ne_true (knows v s).hold.is_whole (λ whole.
    let some = subst (λ (u : Known). u.hold.is_whole ≡ true → 0 < u.hold.tail) (sym (knows_own v p.words p.known p.merger p.allowed s host (λ e. omega arith))) (p.allowed.sound.versions.hands s own).some whole in omega arith)

-- what a transaction sees of a key was committed before, or is its own
seen_before : (key n : ℕ) (seen : List Commit) (act : Act) → Contains (all_acts_on key (take n seen)) act → Contains (all_acts_on key seen) act
seen_before key n seen act h = subst (λ (cs : List Commit). Contains (all_acts_on key cs) act) (take-append-drop n seen)
    (subst (λ (acts : List Act). Contains acts act) (sym (all_acts_on-append key (take n seen) (drop n seen))) (Contains-append_left (all_acts_on key (take n seen)) (all_acts_on key (drop n seen)) act h))

sight_known : (k : Known) (key : ℕ) (act : Act) → Contains (sight k key) act → Contains (all_acts_on key k.seen ++ acts_on key k.own) act
sight_known k key act h = ⊎_elim
    (λ (committed : Contains (all_acts_on key (take k.begin k.seen)) act). Contains-append_left (all_acts_on key k.seen) (acts_on key k.own) act (seen_before key k.begin k.seen act committed))
    (λ (own : Contains (acts_on key k.own) act). Contains-append_right (all_acts_on key k.seen) (acts_on key k.own) act own)
    (Contains-append_cases (all_acts_on key (take k.begin k.seen)) (acts_on key k.own) act h)

-- so each record on which a row with the number is seen has the number by such an act, and was gathered
pub holders_are_candidates : (v : View) (s column number : ℕ) (records : List RecordId) → AreHolders v s column number records → AreCandidates (knows v s) column number records
holders_are_candidates v s column number records holders rec row on holds = let put = numbers_were_put (knows v s) on.0 column number row on.2 holds in holders.complete rec record {
  position = on.1.0;
  key = on.0;
  at = on.1.1;
  act = put.0;
  known = sight_known (knows v s) on.0 put.0 put.1;
  puts = put.2;
}
