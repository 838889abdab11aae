-- Sessions that add up a column side by side, each over its share of the ranges.
use Rattle.std.proofs.Common.{◌≡◌, ℕ, ◌+◌, ◌-◌, ◌*◌, ◌/◌, ◌^◌, ◌<◌, ◌≤◌, List, ◌++◌, true, length, take, get_or, refl, sym, subst, ap, ◌∙◌, arith, true≢false}
use Rattle.std.specs.Prelude.{slice_set}
use Rattle.std.specs.List.{All}
use mathlib.Core.Logic.{dite}
use native.Mathlib.Decide.{dec_lt}
use Rattle.std.proofs.Math.Nat.{div-mul-le_self, div-le_self, div-le_of_le-mul, mul-le-mul_right, mul-div_cancel_left}
use Rattle.std.proofs.lemmas.Nat.{le-div}
use Rattle.std.proofs.lemmas.List.{take-append-le, take_all, length-append, get_or_append_left, get_or-append-add, get_or-append_right, get_or-set_same, get_or_default, length-set}
use Rattle.lst_model.specs.declared.acts.Write.{Write}
use Rattle.lst_model.specs.declared.commits.Commit.{Commit}
use Rattle.lst_model.specs.Cells.{number_at}
use Rattle.lst_model.specs.Histories.{Extends, replayed, table_at}
use Rattle.lst_model.specs.Tables.{Rows, no_rows, row_of, sum_of, all_applied}
use Rattle.lst_core_state.specs.declared.known.Known.{Known}
use Rattle.lst_layout.specs.declared.limits.Limits.{Limits}
use Rattle.lst_core_state.specs.Cells.{record_count}
use Rattle.lst_core_state.specs.declared.facts.Fact.TheVariants.{IndexAt}
use Rattle.lst_rule.specs.declared.store.Store.{Store}
use Rattle.lst_rule.specs.declared.view.View.{View}
use Rattle.lst_rule.specs.Rule.{knows}
use Rattle.lst_rule.specs.Learned.{Possible}
use Rattle.lst_txn.specs.declared.begins.BeginFault.{BeginFault}
use Rattle.lst_txn.specs.declared.begins.BeginFault.TheVariants.{Active, Spent, Future}
use Rattle.lst_scan.specs.Scans.{table_seen, Places, between}
use Rattle.lst_scan.proofs.Parts.{total_split, whole}
use Rattle.lst_rule.proofs.Keying.{record_low}
use Rattle.lst_session.specs.declared.session.Session.{Session}
use Rattle.lst_session.specs.Calls.{Called, Begins, Ends, OnlyLooks}
use Rattle.lst_session.specs.Parting.{known_by, seen_at}
use Rattle.lst_session.specs.Passes.{IsReady}
use Rattle.lst_session.proofs.Waiting.{called_on}
use Rattle.lst_work_laws.proofs.Telling.{extends_on}
use Rattle.lst_work.specs.ParSums.{CanBeginAsOf, table_of, HasSeenFirst, HaveSeenAlike, share_start, IsSumOf, CanShare, HasReadOnce, HasSummed, HaveSummed, HaveShared}

-- ---- one session

-- a begin as of a time that the session has seen isn't refused
pub not_refused : (store : Store) (session : Session) (time : ℕ) (fault : BeginFault) → CanBeginAsOf store time session
    → (fault ≡ Active → (known_by session).is_open ≡ true) → (fault ≡ Spent → (known_by session).number ≡ session.seat.view.limits.txns)
    → (time ≤ length (known_by session).seen → (clock : ℕ) → ¬ (fault ≡ Future clock)) → ⊥
not_refused store session time Active can active spent never = true≢false (sym (active refl) ∙ can.may.0)
not_refused store session time Spent can active spent never = can.may.1 (spent refl)
not_refused store session time (Future clock) can active spent never = never can.seen clock refl

-- the first commits of a history
pub first_are : (history commits : List Commit) (time : ℕ) → length commits ≡ time → Extends history commits → take time history ≡ commits
first_are history commits time count e = ap (take time) e.1 ∙ (take-append-le time commits e.0 (omega arith) ∙ take_all time commits (omega arith))

-- what a transaction that begins as of the time sees
module _ (commits : List Commit) (place : ℕ → ℕ) (old : Session) (w : View) (clock time : ℕ) (count : length commits ≡ time) (first : HasSeenFirst commits place old) (begins : Begins old.seat.view w old.number clock time true) where
  abbrev begun : Known
  begun = knows w old.number

  table_begun : table_seen begun ≡ table_of commits
  table_begun = ap (λ (own : List Write). all_applied (table_at begun.seen begun.begin) own) begins.own
      ∙ (ap (λ (n : ℕ). table_at begun.seen n) begins.begun.begin_is ∙ ap (replayed no_rows) (first_are begun.seen commits time count (extends_on commits (known_by old).seen begun.seen first.seen begins.called.seen)))

  places_begun : Places begun place
  places_begun key row at = let h = first.places key row (ap (λ (t : Rows). row_of t key) (sym table_begun) ∙ at) in (h.0, begins.called.facts (IndexAt h.0 (place key) key) h.1)

-- so the sum over the rows of some records is that of the table that was seen
pub sum_is : (old begun : Session) (clock time low high column sum : ℕ) → begun.number ≡ old.number → Begins old.seat.view begun.seat.view old.number clock time true
    → ((place : ℕ → ℕ) → Places (known_by begun) place → sum ≡ sum_of (between place low high (table_seen (known_by begun))) column)
    → (commits : List Commit) (place : ℕ → ℕ) → length commits ≡ time → HasSeenFirst commits place old → sum ≡ sum_of (between place low high (table_of commits)) column
sum_is old begun clock time low high column sum same begins is commits place count first =
    let k : knows begun.seat.view old.number ≡ known_by begun = ap (knows begun.seat.view) (sym same) in
    is place (subst (λ (j : Known). Places j place) k (places_begun commits place old begun.seat.view clock time count first begins))
    ∙ ap (λ (t : Rows). sum_of (between place low high t) column) (subst (λ (j : Known). table_seen j ≡ table_of commits) k (table_begun commits place old begun.seat.view clock time count first begins))

-- what a transaction that has begun, looked and ended leaves
called_once : (v a b w : View) (s clock time : ℕ) → Begins v a s clock time true → OnlyLooks a b s → Ends b w s → Called v w s
called_once v a b w s clock time begins looks ends = called_on v b w s (called_on v a b s begins.called looks.called) ends.called

read_once : (v a b w : View) (s clock time : ℕ) → Begins v a s clock time true → OnlyLooks a b s → Ends b w s → HasReadOnce s (knows v s) (knows w s)
read_once v a b w s clock time begins looks ends = let all = called_once v a b w s clock time begins looks ends in record {
  closed = ends.ended.is_open;
  own = ends.own;
  number = ends.ended.number ∙ (looks.same.transaction.number ∙ begins.begun.number);
  seen = all.seen;
  facts = all.facts;
  finds = all.finds;
  mine = ends.mine ∙ (looks.same.mine ∙ begins.mine);
  lists = record {
    drawn = ends.lists.drawn ∙ (looks.lists.drawn ∙ begins.lists.drawn);
    latched = ends.lists.latched ∙ (looks.lists.latched ∙ begins.lists.latched);
    done = ends.lists.done ∙ (looks.lists.done ∙ begins.lists.done);
  };
  pins = ends.unpinned.pins ∙ (looks.pins.pins ∙ begins.pins);
}

pub summed : (store : Store) (old begun looked new : Session) (clock time : ℕ) → begun.number ≡ old.number → looked.number ≡ begun.number → new.number ≡ looked.number → IsReady store new
    → Begins old.seat.view begun.seat.view old.number clock time true → OnlyLooks begun.seat.view looked.seat.view begun.number → Ends looked.seat.view new.seat.view looked.number → HasSummed store old new
summed store old begun looked new clock time a b c ready begins looks ends =
    let looks_same = subst (λ (n : ℕ). OnlyLooks begun.seat.view looked.seat.view n) a looks in
    let ends_same = subst (λ (n : ℕ). Ends looked.seat.view new.seat.view n) (b ∙ a) ends in record {
      ready = ready;
      session = c ∙ (b ∙ a);
      called = called_once old.seat.view begun.seat.view looked.seat.view new.seat.view old.number clock time begins looks_same ends_same;
      reads = subst (λ (n : ℕ). HasReadOnce old.number (known_by old) (knows new.seat.view n)) (sym (c ∙ (b ∙ a)))
          (read_once old.seat.view begun.seat.view looked.seat.view new.seat.view old.number clock time begins looks_same ends_same);
    }

-- ---- shares

-- the shares rise
pub share_rises : (ranges shares place later : ℕ) → 0 < shares → place ≤ later → share_start ranges shares place ≤ share_start ranges shares later
share_rises ranges shares place later some rises = le-div (place * ranges / shares) (later * ranges) shares some
    (let a = div-mul-le_self (place * ranges) shares in let b : place * ranges ≤ later * ranges = mul-le-mul_right ranges rises in omega arith)

-- and none begins behind the last range
pub share_few : (ranges shares place : ℕ) → place ≤ shares → share_start ranges shares place ≤ ranges
share_few ranges shares place few = div-le_of_le-mul shares (mul-le-mul_right ranges few)

-- all shares are all ranges
pub share_none : (ranges shares : ℕ) → share_start ranges shares 0 ≡ 0
share_none ranges shares = zero_div (0 * ranges) shares (omega arith)
  where
    zero_div : (n k : ℕ) → n ≡ 0 → n / k ≡ 0
    zero_div n k e = let h = div-le_self n k in omega arith

pub share_all : (ranges shares : ℕ) → 0 < shares → share_start ranges shares shares ≡ ranges
share_all ranges shares some = mul-div_cancel_left ranges some

-- two runs of shares, one behind the other
pub sums_join : (ranges shares first middle last column : ℕ) (place : ℕ → ℕ) (table : Rows) (low high : ℕ) → share_start ranges shares first ≤ share_start ranges shares middle → share_start ranges shares middle ≤ share_start ranges shares last
    → IsSumOf ranges shares first middle column place table low → IsSumOf ranges shares middle last column place table high → IsSumOf ranges shares first last column place table (low + high)
sums_join ranges shares first middle last column place table low high a b is are =
    let all = total_split (number_at column) place table (256 * share_start ranges shares first) (256 * share_start ranges shares middle) (256 * share_start ranges shares last) (omega arith) (omega arith) in omega arith

-- ---- lists of sessions

all_front : {X : Type 0} (P : X → Type 0) (xs ys : List X) → All P (xs ++ ys) → All P xs
all_front P xs ys all i d low = subst P (get_or_append_left xs ys d i low) (all i d (omega (arith, length-append xs ys)))

all_back : {X : Type 0} (P : X → Type 0) (xs ys : List X) → All P (xs ++ ys) → All P ys
all_back P xs ys all i d low = subst P (get_or-append-add xs ys i d) (all (length xs + i) d (omega (arith, length-append xs ys)))

summed_join : (store : Store) (low high below above : List Session) → HaveSummed store low below → HaveSummed store high above → HaveSummed store (low ++ high) (below ++ above)
summed_join store low high below above a b = record {
  count = omega (arith, length-append low high, length-append below above, a.count, b.count);
  each = λ i none short. dite (dec_lt i (length low))
      (λ front. subst (λ x. HasSummed store x (get_or (below ++ above) i none)) (sym (get_or_append_left low high none i front))
      (subst (λ y. HasSummed store (get_or low i none) y) (sym (get_or_append_left below above none i (omega (arith, a.count)))) (a.each i none front)))
      (λ behind. subst (λ x. HasSummed store x (get_or (below ++ above) i none)) (sym (get_or-append_right low high (length low) i none refl (omega arith)))
      (subst (λ y. HasSummed store (get_or high (i - length low) none) y) (sym (get_or-append_right below above (length low) i none a.count (omega arith)))
      (b.each (i - length low) none (omega (arith, length-append low high)))));
}

-- the one session has added up its share
pub shared_one : (store : Store) (time column first shares : ℕ) (old : List Session) (none other : Session) (sum : ℕ) → length old ≡ 1
    → ((commits : List Commit) (place : ℕ → ℕ) → length commits ≡ time → HasSeenFirst commits place (get_or old 0 none) → IsSumOf store.layout.limits.ranges shares first (first + 1) column place (table_of commits) sum)
    → sum ≤ (share_start store.layout.limits.ranges shares (first + 1) - share_start store.layout.limits.ranges shares first) * 2 ^ 73 → HasSummed store (get_or old 0 none) other → HaveShared store time column first shares old (slice_set old 0 other) sum
shared_one store time column first shares old none other sum count sums few summed = record {
  sum_is = λ commits place long seen. subst (λ (n : ℕ). IsSumOf store.layout.limits.ranges shares first n column place (table_of commits) sum) last (sums commits place long (seen 0 none (omega arith)));
  few = subst (λ (n : ℕ). sum ≤ (share_start store.layout.limits.ranges shares n - share_start store.layout.limits.ranges shares first) * 2 ^ 73) last few;
  sessions = record {
    count = length-set old 0 other;
    each = λ i d short. let zeroth : 0 ≡ i = omega arith in subst (λ (n : ℕ). HasSummed store (get_or old n d) (get_or (slice_set old 0 other) n d)) zeroth
        (subst (λ (x : Session). HasSummed store x (get_or (slice_set old 0 other) 0 d)) (get_or_default old 0 none d (omega arith)) (subst (λ (y : Session). HasSummed store (get_or old 0 none) y) (sym (get_or-set_same old 0 other d (omega arith))) summed));
  };
}
  where
    last : first + 1 ≡ first + length old
    last = omega arith

-- the sessions of two lists have, one behind the other
module _ (store : Store) (time column first middle shares : ℕ) (low high below above : List Session) (a b : ℕ) (some : 0 < shares) (between_them : middle ≡ first + length low)
    (x : HaveShared store time column first shares low below a) (y : HaveShared store time column middle shares high above b) where
  abbrev ranges : ℕ
  ranges = store.layout.limits.ranges

  abbrev last : ℕ
  last = first + length (low ++ high)

  ends : middle + length high ≡ last
  ends = omega (arith, length-append low high)

  rises : share_start ranges shares first ≤ share_start ranges shares middle
  rises = share_rises ranges shares first middle some (omega arith)

  up : share_start ranges shares middle ≤ share_start ranges shares last
  up = share_rises ranges shares middle last some (omega (arith, length-append low high))

  few_low : a ≤ (share_start ranges shares middle - share_start ranges shares first) * 2 ^ 73
  few_low = subst (λ (n : ℕ). a ≤ (share_start ranges shares n - share_start ranges shares first) * 2 ^ 73) (sym between_them) x.few

  few_high : b ≤ (share_start ranges shares last - share_start ranges shares middle) * 2 ^ 73
  few_high = subst (λ (n : ℕ). b ≤ (share_start ranges shares n - share_start ranges shares middle) * 2 ^ 73) ends y.few

  shared_both : HaveShared store time column first shares (low ++ high) (below ++ above) (a + b)
  shared_both = record {
    sum_is = λ commits place long seen. sums_join ranges shares first middle last column place (table_of commits) a b rises up
        (subst (λ (n : ℕ). IsSumOf ranges shares first n column place (table_of commits) a) (sym between_them) (x.sum_is commits place long (all_front (HasSeenFirst commits place) low high seen)))
        (subst (λ (n : ℕ). IsSumOf ranges shares middle n column place (table_of commits) b) ends (y.sum_is commits place long (all_back (HasSeenFirst commits place) low high seen)));
    few = (let e = few_low in let f = few_high in let g = rises in let h = up in omega arith);
    sessions = summed_join store low high below above x.sessions y.sessions;
  }

pub shared_split : (store : Store) (time column first middle shares : ℕ) (sessions low high below above : List Session) (a b : ℕ) → sessions ≡ low ++ high → 0 < shares
    → HaveShared store time column first shares low below a → HaveShared store time column middle shares high above b → middle ≡ first + length low → HaveShared store time column first shares sessions (below ++ above) (a + b)
shared_split store time column first middle shares sessions low high below above a b is some x y between_them = subst (λ (old : List Session). HaveShared store time column first shares old (below ++ above) (a + b)) (sym is)
    (shared_both store time column first middle shares low high below above a b some between_them x y)

-- the sum of two runs has place in 128 bits
pub few_together : (store : Store) (time column first middle shares : ℕ) (low high below above : List Session) (a b : ℕ) → middle + length high ≤ shares → middle ≡ first + length low → store.layout.limits.ranges < 2 ^ 32
    → HaveShared store time column first shares low below a → HaveShared store time column middle shares high above b → a + b < 2 ^ 128
few_together store time column first middle shares low high below above a b inside between_them small x y = let ranges = store.layout.limits.ranges in
    let e = x.few in let f = y.few in
    let g = share_few ranges shares (first + length low) (omega arith) in let h = share_few ranges shares (middle + length high) inside in omega arith

-- the shares of the first half and of the second
pub can_low : (store : Store) (time column first shares : ℕ) (sessions low high : List Session) → CanShare store time column first shares sessions → sessions ≡ low ++ high → 0 < length low → CanShare store time column first shares low
can_low store time column first shares sessions low high can is some = let all = subst (All (CanBeginAsOf store time)) is can.each in
    record { some = some; inside = (let e = ap length is in let h = can.inside in omega (arith, length-append low high)); column_is = can.column_is; each = all_front (CanBeginAsOf store time) low high all }

pub can_high : (store : Store) (time column first middle shares : ℕ) (sessions low high : List Session) → CanShare store time column first shares sessions → sessions ≡ low ++ high → 0 < length high → middle ≡ first + length low → CanShare store time column middle shares high
can_high store time column first middle shares sessions low high can is some between_them = let all = subst (All (CanBeginAsOf store time)) is can.each in
    record { some = some; inside = (let e = ap length is in let h = can.inside in omega (arith, length-append low high)); column_is = can.column_is; each = all_back (CanBeginAsOf store time) low high all }

-- ---- all shares

-- the whole table is that on the records of all ranges
pub shares_whole : (store : Store) (session : Session) (commits : List Commit) (place : ℕ → ℕ) (shares column sum : ℕ) → Possible session.seat.view → IsReady store session → HasSeenFirst commits place session → 0 < shares
    → IsSumOf store.layout.limits.ranges shares 0 (0 + shares) column place (table_of commits) sum → sum ≡ sum_of (table_of commits) column
shares_whole store session commits place shares column sum p ready first some is = is ∙ (
    (λ i. sum_of (between place (256 * share_none store.layout.limits.ranges shares i) (256 * ends i) (table_of commits)) column)
    ∙ ap (λ (t : Rows). sum_of t column) (whole place 0 (record_count store.layout.limits) (table_of commits)
    (λ key row at. (omega arith, subst (λ (l : Limits). place key < record_count l) ready.seat_of.limits (record_low session.seat.view session.number p ready.host (place key) key (first.places key row at))))))
  where
    ends : share_start store.layout.limits.ranges shares (0 + shares) ≡ store.layout.limits.ranges
    ends = (let plus : 0 + shares ≡ shares = omega arith in ap (share_start store.layout.limits.ranges shares) plus) ∙ share_all store.layout.limits.ranges shares some

-- what each of them has seen as of the time is that table
pub summed_all : (store : Store) (time column : ℕ) (old new : List Session) (none : Session) (sum : ℕ) → 0 < length old → All (CanBeginAsOf store time) old → HaveSeenAlike time old → Possible (get_or old 0 none).seat.view
    → HaveShared store time column 0 (length old) old new sum → (i : ℕ) (d : Session) → i < length old → sum ≡ sum_of (table_at (seen_at old i d) time) column
summed_all store time column old new none sum some can alike p shared i d low =
    shares_whole store (get_or old 0 none) alike.commits alike.place (length old) column sum p (can 0 none some).ready (alike.each 0 none some) some (shared.sum_is alike.commits alike.place alike.count alike.each)
    ∙ ap (λ (cs : List Commit). sum_of (replayed no_rows cs) column) (sym (first_are (seen_at old i d) alike.commits time alike.count (alike.each i d low).seen))
