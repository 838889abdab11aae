-- What a session knows of the store while it holds the turn, with the clock loaded since it took it.
use Rattle.std.proofs.Common.{◌≡◌, ◌≢◌, ◌⊎◌, ℕ, ◌+◌, ◌-◌, ◌*◌, ◌/◌, ◌%◌, ◌<◌, ◌≤◌, List, ◌++◌, Bool, true, false, length, take, refl, sym, subst, ap, ◌∙◌, arith, inl, inr, slice_index_or, Contains}
use Rattle.std.proofs.lemmas.List.{take_all}
use Rattle.std.proofs.lemmas.List.Elements.{Contains-append_left}
use mathlib.Core.Logic.{dite}
use native.Mathlib.Decide.{ℕ_discrete}
use Rattle.lst_layout.specs.declared.limits.Limits.{Limits}
use Rattle.lst_layout.specs.declared.place.Place.{Place}
use Rattle.lst_layout.specs.declared.place.Place.TheVariants.{ClockWord}
use Rattle.lst_layout.specs.Words.{Words, shown}
use Rattle.lst_model.specs.declared.commits.Commit.{Commit}
use Rattle.lst_core_state.specs.Lists.{is_until}
use Rattle.lst_core_state.specs.declared.known.Known.{Known}
use Rattle.lst_core_state.specs.declared.facts.Fact.{Fact}
use Rattle.lst_core_state.specs.State.{Core, rank, entry, name_of, history_of, state_over}
use Rattle.lst_core_state.proofs.Sights.{until_not}
use Rattle.lst_core_state.proofs.Steps.{name_entry}
use Rattle.lst_rule.specs.declared.view.View.{View}
use Rattle.lst_rule.specs.declared.store.Store.{Store}
use Rattle.lst_rule.specs.Rule.{knows, hosts, Allowed}
use Rattle.lst_rule.specs.Learned.{Learns}
use Rattle.lst_rule.specs.Seats.{Sitting}
use Rattle.lst_rule.specs.Stores.{IsSeatOf, Clocked}
use Rattle.lst_rule.proofs.Knowing.{knows_own}
use Rattle.lst_rule.specs.Copies.{Includes}
use Rattle.lst_rule.specs.Seen.{names}
use Rattle.lst_rule.specs.Watching.{Watches, Watched}
use Rattle.lst_rule.proofs.Watching.{watched_same, watches_join}
use Rattle.lst_changes.specs.Changes.{IsFresh, IsHolder, Steady}
use Rattle.lst_changes.proofs.Naming.{named_is, named_now, length_is}

-- in each state that its view allows
module _ (v : View) (words : List ℕ) (known : ℕ → Known) (merger : Known) (a : Allowed v words known merger) (s : ℕ) (hosted : hosts v s ≡ true) (low : s < v.limits.sessions) where
  abbrev c : Core
  c = state_over v.limits words known merger

  abbrev W : Words
  W = shown v.limits words

  pub is_known : knows v s ≡ known s
  is_known = knows_own v words known merger a s hosted (λ e. omega arith)

  module _ (turn : IsFresh (knows v s)) where
    fresh : rank (known s).turn ≡ 2
    fresh = ap (λ (k : Known). rank k.turn) (sym is_known) ∙ turn

    -- it has seen the whole history
    pub seen_is : (knows v s).seen ≡ history_of v.limits (shown v.limits words)
    seen_is = ap (λ (k : Known). k.seen) is_known ∙ (a.sound.views s low).whole (let e = fresh in omega arith)

    pub clock_is : length (knows v s).seen ≡ (shown v.limits words).clock
    clock_is = ap (λ (h : List Commit). length h) seen_is ∙ length_is c a.sound

    -- what it has seen up to a time names exactly the transactions that state words have as committed by then
    pub name_until : (b x : ℕ) → b ≤ length (knows v s).seen → x % 16 < v.limits.sessions → names (take b (knows v s).seen) x ≡ is_until b (entry (shown v.limits words).states x)
    name_until b x few session = ap (λ (h : List Commit). names (take b h) x) seen_is ∙ named_is c a.sound b x (let e = clock_is in omega arith) session

    pub name_now : (x : ℕ) → x % 16 < v.limits.sessions → names (knows v s).seen x ≡ is_until (shown v.limits words).clock (entry (shown v.limits words).states x)
    name_now x session = ap (λ (h : List Commit). names h x) seen_is ∙ named_now c a.sound x session

    -- no commit is under way
    pub none_stated : (j n : ℕ) → j < v.limits.sessions → (shown v.limits words).states j n ≤ (shown v.limits words).clock + 1
    none_stated j n in_range = let r = a.sound.each j in_range in let own = a.sound.each s low in let e = fresh in dite (ℕ_discrete n (known j).number)
        (λ is. subst (λ (m : ℕ). W.states j m ≤ W.clock + 1) (sym is) (r.settled_last (λ four. let held = own.in_turn (omega arith) in let also = r.in_turn (omega arith) in let same : j ≡ s = omega arith in
        let f = ap (λ (t : ℕ). rank (known t).turn) same in omega arith)))
        (λ ne. r.settled n ne)

    -- its own open transaction has no commit
    pub own_unnamed : (knows v s).is_open ≡ true → names (knows v s).seen (name_of s (knows v s).number) ≡ false
    own_unnamed on = let few = a.sound.sized.sessions.1 in let e = fresh in let x : ℕ = name_of s (knows v s).number in
        let is_on : (known s).is_open ≡ true = ap (λ (k : Known). k.is_open) (sym is_known) ∙ on in
        let state : entry W.states x ≡ 0 = name_entry W.states s (knows v s).number (omega arith) ∙ (ap (λ (k : Known). W.states s k.number) is_known ∙ (a.sound.each s low).open_state is_on (λ four. omega arith)) in
        name_now x (omega arith) ∙ until_not W.clock (entry W.states x) (λ h. omega arith)

-- a load of the clock shows what it has seen
pub clock_same : (v w : View) (s x : ℕ) → hosts v s ≡ true → s < v.limits.sessions → IsFresh (knows v s) → (load : Clocked v w s x) → load.all ≡ (knows v s).seen
clock_same v w s x hosted low turn load = let t = load.looked.met.made.told in load.history ∙ sym (seen_is v t.words t.known t.merger t.allowed s hosted low turn)

-- ---- looks

-- what a session that has looked knows as before
pub record Same (u v : Known) : Type 0 where
  pub number : v.number ≡ u.number
  pub begin : v.begin ≡ u.begin
  pub on : v.is_open ≡ u.is_open
  pub facts : Includes v.facts u.facts

same_of : (u v : Known) → Watches u v → Same u v
same_of u v watches = subst (λ (k : Known). Same u k) (sym watches.is) record {
  number = refl;
  begin = refl;
  on = refl;
  facts = λ f h. Contains-append_left u.facts watches.facts f h;
}

pub same : (v w : View) (s : ℕ) → Watched v w s → Same (knows v s) (knows w s)
same v w s watched = same_of (knows v s) (knows w s) watched.watches

pub still_hosts : (v w : View) (s : ℕ) → Watched v w s → hosts v s ≡ true → hosts w s ≡ true
still_hosts v w s watched h = ap (λ (bs : List Bool). slice_index_or bs s false) watched.learns.hosted ∙ h

pub still_holds : (store : Store) (seat next : Sitting) (s : ℕ) → IsHolder store seat s → IsSeatOf store next → Steady seat.view next.view s → IsHolder store next s
still_holds store seat next s holder seat_of steady = let W = steady.watched in record {
  seat_of = seat_of;
  host = still_hosts seat.view next.view s W holder.host;
  own = subst (λ (l : Limits). s < l.sessions) (sym W.learns.limits) holder.own;
  on = (same seat.view next.view s W).on ∙ holder.on;
  turn = ap rank steady.turn ∙ holder.turn;
}

pub steady_same : (v : View) (s : ℕ) → Steady v v s
steady_same v s = record { watched = watched_same v s; seen = refl; turn = refl }

pub steady_on : (u v w : View) (s : ℕ) → Steady u v s → Steady v w s → Steady u w s
steady_on u v w s a b = record { watched = watches_join u v w s a.watched b.watched; seen = b.seen ∙ a.seen; turn = b.turn ∙ a.turn }
