-- Seats are joined to the merger's one after the other, and then each session sees the whole history.
use Rattle.std.proofs.Common.{◌≡◌, ℕ, zero, suc, ◌+◌, ◌<◌, ◌≤◌, List, [], ◌∷◌, ◌++◌, Bool, true, false, ◌||◌, length, get_or, set, refl, sym, subst, ap, ◌∙◌, arith, ⊎_elim, length-append, length-set, append-nil, append_assoc}
use mathlib.Core.Logic.{dite}
use native.Mathlib.Decide.{ℕ_discrete, dec_lt}
use Rattle.std.proofs.lemmas.Bool.{cases_Bool}
use Rattle.std.proofs.lemmas.List.{get_or_append_left, get_or_at}
use Rattle.std.specs.List.{All, SwappedAt, list_any}
use Rattle.lst_layout.specs.declared.limits.Limits.{Limits}
use Rattle.lst_layout.specs.Words.{shown}
use Rattle.lst_model.specs.declared.commits.Commit.{Commit}
use Rattle.lst_model.specs.Histories.{Extends}
use Rattle.lst_core_state.specs.declared.known.Known.{Known}
use Rattle.lst_core_state.specs.State.{history_of, commits_of}
use Rattle.lst_rule.specs.declared.store.Store.{Store}
use Rattle.lst_rule.specs.declared.view.View.{View}
use Rattle.lst_rule.specs.Joins.{overlap, united}
use Rattle.lst_rule.specs.Rule.{knows, hosts}
use Rattle.lst_rule.specs.Seats.{Sitting}
use Rattle.lst_rule.specs.Stores.{IsSeatOf, Clocked, clocked}
use Rattle.lst_rule.specs.Surveys.{HostsAll, Surveyed}
use Rattle.lst_rule.proofs.Joining.{overlap_apart, true_low, united_both, united_ours, united_else, knows_theirs, knows_ours}
use Rattle.lst_seat.specs.Seats.{hosted_by, AreAllHosted, HasAllOf, Unites, SeesAll, HasSeenAll, history_in, IsGatheredFrom, Gathers}

module _ {A : Type 0} (P : A → Type 0) where
  pub all_none : All P []
  all_none k d low = absurd (omega arith)

  pub all_cons : (x : A) (xs : List A) → P x → All P xs → All P (x ∷ xs)
  all_cons x xs p all zero d low = p
  all_cons x xs p all (suc k) d low = all k d (omega arith)

  pub all_first : (xs : List A) (y : A) → All P (xs ++ y ∷ []) → All P xs
  all_first xs y all k d low = subst P (get_or_append_left xs (y ∷ []) d k low) (all k d (let e = length-append xs (y ∷ []) in omega arith))

  pub all_last : (xs : List A) (y : A) → All P (xs ++ y ∷ []) → P y
  all_last xs y all = subst P (get_or_at xs y [] y (length xs) refl) (all (length xs) y (let e = length-append xs (y ∷ []) in omega arith))

  pub all_with : (xs : List A) (y : A) → All P xs → P y → All P (xs ++ y ∷ [])
  all_with xs y all p k d low = dite (dec_lt k (length xs)) (λ h. subst P (sym (get_or_append_left xs (y ∷ []) d k h)) (all k d h))
      (λ h. let e : k ≡ length xs = let n = length-append xs (y ∷ []) in grind (arith, h, n, low) in subst P (sym (get_or_at xs y [] d k (sym e))) p)

  pub all_swapped : (xs ys : List A) (i j : ℕ) → SwappedAt xs ys i j → i < length xs → j < length xs → All P xs → All P ys
  all_swapped xs ys i j at low_i low_j all k d low = dite (ℕ_discrete k i) (λ e. subst P (sym (ap (λ (n : ℕ). get_or ys n d) e ∙ at.0 d)) (all j d low_j))
      (λ ne. dite (ℕ_discrete k j) (λ e. subst P (sym (ap (λ (n : ℕ). get_or ys n d) e ∙ at.1 d)) (all i d low_i))
      (λ other. subst P (sym (at.2 k d ne other)) (all k d (let n = ap length (at.3 d) ∙ (length-set (set xs i (get_or xs j d)) j (get_or xs i d) ∙ length-set xs i (get_or xs j d)) in omega arith))))

-- no seat is joined yet
pub unites_none : (v : View) → Unites [] v v
unites_none v = record {
  limits = refl;
  hosted = λ s low. nobody (hosts v s);
  each = all_none (λ (seat : Sitting). HasAllOf v seat.view);
  own = λ s h. (h, refl);
}
  where
    nobody : (b : Bool) → b ≡ (b || false)
    nobody true = refl
    nobody false = refl

-- one more seat is joined
module _ (store : Store) (seats : List Sitting) (v a b : View) (x : Sitting) (u : Unites seats v a) (merger : hosts v v.limits.sessions ≡ true) (sized : length a.known ≡ a.limits.sessions + 1) (x_of : IsSeatOf store x) (a_limits : a.limits ≡ store.layout.limits) (is : b ≡ united a x.view) (apart : overlap a.hosts x.view.hosts ≡ false) where
  x_limits : a.limits ≡ x.view.limits
  x_limits = a_limits ∙ sym x_of.limits

  x_low : (s : ℕ) → hosts x.view s ≡ true → s ≤ v.limits.sessions
  x_low s h = let low = x_of.low s h in let e = ap (λ (l : Limits). l.sessions) (sym u.limits ∙ a_limits) in omega arith

  same_width : length a.known ≡ length x.view.known
  same_width = sized ∙ (ap (λ (l : Limits). l.sessions + 1) a_limits ∙ sym x_of.sized)

  -- the merger's seat has a place for each
  wide : v.limits.sessions < length a.hosts
  wide = true_low a.hosts v.limits.sessions (u.own v.limits.sessions merger).0

  theirs : HasAllOf b x.view
  theirs s on = (
    ap (λ (z : View). hosts z s) is ∙ united_both a.hosts x.view.hosts s (let w = wide in let l = x_low s on in omega arith) on,
    ap (λ (z : View). knows z s) is ∙ knows_theirs a x.view apart x_limits same_width s on (let low = x_of.low s on in let e = x_of.sized in omega arith),
  )

  -- what was hosted before is not hosted by the seat that is joined
  ours : HasAllOf b a
  ours s on = (ap (λ (z : View). hosts z s) is ∙ united_ours a.hosts x.view.hosts s on, ap (λ (z : View). knows z s) is ∙ knows_ours a x.view apart s (overlap_apart a.hosts x.view.hosts apart s on))

  on_from : (z : View) → HasAllOf a z → HasAllOf b z
  on_from z has s on = let h = has s on in let g = ours s h.0 in (g.0, g.1 ∙ h.1)

  abbrev any : ℕ → Bool
  any s = list_any (λ (seat : Sitting). hosts seat.view s) seats

  hosts_now : (s : ℕ) → s ≤ v.limits.sessions → hosts b s ≡ hosted_by (x ∷ seats) v s
  hosts_now s low = ap (λ (z : View). hosts z s) is ∙ ⊎_elim
      (λ (on : hosts x.view s ≡ true). united_both a.hosts x.view.hosts s (let w = wide in omega arith) on ∙ sym (ap (λ (c : Bool). hosts v s || (c || any s)) on ∙ or_true (hosts v s)))
      (λ (off : hosts x.view s ≡ false). united_else x.view.hosts a.hosts x.view.hosts s false off ∙ (u.hosted s low ∙ sym (ap (λ (c : Bool). hosts v s || (c || any s)) off))) (cases_Bool (hosts x.view s))
    where
      or_true : (c : Bool) → (c || true) ≡ true
      or_true true = refl
      or_true false = refl

  pub unites_next : Unites (x ∷ seats) v b
  unites_next = record {
    limits = ap (λ (z : View). z.limits) is ∙ u.limits;
    hosted = hosts_now;
    each = all_cons (λ (seat : Sitting). HasAllOf b seat.view) x seats theirs (λ k d low. on_from (get_or seats k d).view (u.each k d low));
    own = on_from v u.own;
  }

-- the last seats of the list are joined
pub record JoinsSo (store : Store) (seats : List Sitting) (v : View) (left : List Sitting) (seat : Sitting) : Type 0 where
  pub done : List Sitting
  pub splits : seats ≡ left ++ done
  pub all : All (IsSeatOf store) left
  pub seat_of : IsSeatOf store seat
  pub united : Unites done v seat.view

pub joins_none : (store : Store) (seats : List Sitting) (seat : Sitting) → All (IsSeatOf store) seats → IsSeatOf store seat → JoinsSo store seats seat.view seats seat
joins_none store seats seat all is = record { done = []; splits = sym (append-nil seats); all = all; seat_of = is; united = unites_none seat.view }

-- where the last seat of a list is taken off, the rest are seats of the store
pub rest_of : (store : Store) (left rest : List Sitting) (x : Sitting) → All (IsSeatOf store) left → left ≡ rest ++ x ∷ [] → All (IsSeatOf store) rest
rest_of store left rest x all is = all_first (IsSeatOf store) rest x (subst (All (IsSeatOf store)) is all)

-- and so is the last
pub next_of : (store : Store) (left rest : List Sitting) (x : Sitting) → All (IsSeatOf store) left → left ≡ rest ++ x ∷ [] → IsSeatOf store x
next_of store left rest x all is = all_last (IsSeatOf store) rest x (subst (All (IsSeatOf store)) is all)

pub joins_next : (store : Store) (seats : List Sitting) (v : View) (left rest : List Sitting) (x a b : Sitting) → JoinsSo store seats v left a → left ≡ rest ++ x ∷ [] → hosts v v.limits.sessions ≡ true → IsSeatOf store b → b.view ≡ united a.view x.view → overlap a.view.hosts x.view.hosts ≡ false → JoinsSo store seats v rest b
joins_next store seats v left rest x a b so is merger b_of joined apart = let all : All (IsSeatOf store) (rest ++ x ∷ []) = subst (All (IsSeatOf store)) is so.all in record {
  done = x ∷ so.done;
  splits = so.splits ∙ (ap (λ (l : List Sitting). l ++ so.done) is ∙ append_assoc rest (x ∷ []) so.done);
  all = all_first (IsSeatOf store) rest x all;
  seat_of = b_of;
  united = unites_next store so.done v a.view b.view x so.united merger (so.seat_of.sized ∙ sym (ap (λ (l : Limits). l.sessions + 1) so.seat_of.limits)) (all_last (IsSeatOf store) rest x all) so.seat_of.limits joined apart;
}

pub joins_all : (store : Store) (seats : List Sitting) (v : View) (left : List Sitting) (seat : Sitting) → JoinsSo store seats v left seat → left ≡ [] → Unites seats v seat.view
joins_all store seats v left seat so none = subst (λ (l : List Sitting). Unites l v seat.view) (sym (so.splits ∙ ap (λ (l : List Sitting). l ++ so.done) none)) so.united

-- ---- each session sees the whole history

pub sees_none : (v : View) → v.whole ≡ true → SeesAll v v 0
sees_none v whole = record {
  limits = refl;
  hosted = refl;
  whole = whole;
  words = refl;
  seen = λ s low. absurd (omega arith);
  rest = λ s low. refl;
}

module _ (v a b : View) (s found : ℕ) (so : SeesAll v a s) (low : s < v.limits.sessions) (load : Clocked a b s found) where
  -- the words that the load met are those that were known
  met : load.all ≡ history_in a
  met = load.history ∙ ap (λ (ws : List ℕ). history_of a.limits (shown a.limits ws)) (sym (load.looked.met.made.told.allowed.whole so.whole))

  words_same : b.words ≡ a.words
  words_same = load.looked.kept.words so.whole

  history_same : history_in b ≡ history_in a
  history_same i = history_of (load.view.limits i) (shown (load.view.limits i) (words_same i))

  own_known : knows a s ≡ knows v s
  own_known = so.rest s (omega arith)

  mine_now : HasSeenAll b s (knows v s)
  mine_now = subst (HasSeenAll b s) own_known record {
    index = load.index;
    now = load.view.now ∙ ap (λ (all : List Commit). clocked (knows a s) all load.index) (met ∙ sym history_same);
    grows = subst (λ (all : List Commit). Extends all (knows a s).seen) (met ∙ sym history_same) load.grows;
    own = ap (commits_of s) (history_same ∙ sym met) ∙ (ap (λ (k : Known). commits_of s k.seen) (sym load.view.now) ∙ load.own (let e = ap (λ (l : Limits). l.sessions) so.limits in omega arith));
  }

  pub sees_next : SeesAll v b (s + 1)
  sees_next = record {
    limits = load.view.limits ∙ so.limits;
    hosted = load.view.hosted ∙ so.hosted;
    whole = load.view.whole ∙ so.whole;
    words = words_same ∙ so.words;
    seen = λ t below. dite (ℕ_discrete t s) (λ e. subst (λ (z : ℕ). HasSeenAll b z (knows v z)) (sym e) mine_now)
        (λ ne. let h = so.seen t (omega arith) in record {
          index = h.index;
          now = load.view.others t ne ∙ (h.now ∙ ap (λ (all : List Commit). clocked (knows v t) all h.index) (sym history_same));
          grows = subst (λ (all : List Commit). Extends all (knows v t).seen) (sym history_same) h.grows;
          own = ap (commits_of t) history_same ∙ h.own;
        });
    rest = λ t above. load.view.others t (λ e. omega arith) ∙ so.rest t (omega arith);
  }

-- ---- all steps

-- the same seats host everybody
pub all_of : (seats same : List Sitting) (merger : View) → seats ≡ same → AreAllHosted seats merger → AreAllHosted same merger
all_of seats same merger is = subst (λ (l : List Sitting). AreAllHosted l merger) is

module _ (seats : List Sitting) (merger a : View) (u : Unites seats merger a) (all : AreAllHosted seats merger) (on : hosts merger merger.limits.sessions ≡ true) where
  pub hosts_all : HostsAll a
  hosts_all s low = let same = ap (λ (l : Limits). l.sessions) u.limits in u.hosted s (omega arith) ∙ dite (ℕ_discrete s merger.limits.sessions)
      (λ e. subst (λ (z : ℕ). hosted_by seats merger z ≡ true) (sym e) (ap (λ (c : Bool). c || list_any (λ (seat : Sitting). hosts seat.view merger.limits.sessions) seats) on))
      (λ ne. all s (omega arith))

  -- who is hosted stays where stock is taken
  pub stock_hosts : (b : View) → Surveyed a b → HostsAll b
  stock_hosts b stock s low = ap (λ (z : View). hosts z s) stock.now ∙ hosts_all s (let e = ap (λ (z : View). z.limits.sessions) stock.now in omega arith)

  module _ (b w : View) (stock : Surveyed a b) (sees : SeesAll b w b.limits.sessions) where
    limits_b : b.limits ≡ a.limits
    limits_b = ap (λ (z : View). z.limits) stock.now

    limits_w : w.limits ≡ b.limits
    limits_w = sees.limits

    knows_b : (s : ℕ) → knows b s ≡ knows a s
    knows_b s = ap (λ (z : View). knows z s) stock.now

    from : (z : View) → HasAllOf a z → IsGatheredFrom w z
    from z has = (
      λ s low h. subst (HasSeenAll w s) (knows_b s ∙ (has s h).1) (sees.seen s (let e = ap (λ (l : Limits). l.sessions) limits_w in omega arith)),
      λ h. sees.rest w.limits.sessions (let e = ap (λ (l : Limits). l.sessions) limits_w in omega arith) ∙ (knows_b w.limits.sessions ∙ (has w.limits.sessions h).1),
    )

    pub gathers : Gathers seats merger w
    gathers = record {
      limits = limits_w ∙ (limits_b ∙ u.limits);
      hosted = λ s low. ap (λ (bs : List Bool). get_or bs s false) sees.hosted ∙ (ap (λ (z : View). hosts z s) stock.now ∙ hosts_all s (let e = ap (λ (l : Limits). l.sessions) (limits_w ∙ limits_b) in omega arith));
      whole = sees.whole;
      each = λ k d low. from (get_or seats k d).view (u.each k d low);
      own = from merger u.own;
    }
