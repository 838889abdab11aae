-- The judge's walk down a chain.
use Rattle.std.proofs.Common.{◌≡◌, ℕ, ◌+◌, ◌*◌, ◌/◌, ◌%◌, ◌<◌, ◌≤◌, List, [], ◌∷◌, ◌++◌, true, Contains, sym, subst, ap, ◌∙◌, arith, inl, inr, append_assoc, append-nil}
use Rattle.std.specs.Prelude.{Option, None, Some}
use Rattle.lst_layout.specs.declared.limits.Limits.{Limits}
use Rattle.lst_core_state.specs.declared.known.Known.{Known}
use Rattle.lst_core_state.specs.declared.known.Hold.{Hold}
use Rattle.lst_core_state.specs.declared.facts.Fact.{Fact}
use Rattle.lst_core_state.specs.declared.facts.Fact.TheVariants.{StateAt}
use Rattle.lst_core_state.specs.declared.facts.Find.TheVariants.{UnfinishedVersion}
use Rattle.lst_core_state.specs.Cells.{range_of}
use Rattle.lst_core_state.specs.State.{rank}
use Rattle.lst_rule.specs.declared.view.View.{View}
use Rattle.lst_rule.specs.Rule.{knows, hosts}
use Rattle.lst_rule.specs.Learned.{Possible}
use Rattle.lst_rule.proofs.Knowing.{knows_own}
use Rattle.lst_rule.specs.declared.store.Store.{Store}
use Rattle.lst_rule.specs.Seats.{Sitting}
use Rattle.lst_rule.specs.Stores.{IsSeatOf}
use Rattle.lst_rule.specs.Copies.{Version, fact_of, IsVersionOf, IsChainFrom, IsCopy, IsLinked, Includes}
use Rattle.lst_rule.specs.Judging.{IsClosed, AreClosed, IsJudged}
use Rattle.lst_rule.specs.Loads.{IsBack}
use Rattle.lst_rule.specs.Watching.{Watched}
use Rattle.lst_rule.proofs.Copying.{chains_are_walked, copies_stay, chain_stays}
use Rattle.lst_rule.proofs.Writing.{closed_are_passed}
use Rattle.lst_rule.proofs.Committed.{committed_wrote}
use Rattle.lst_rule.proofs.Watching.{watched_same, watches_join}
use Rattle.lst_write.specs.Holding.{HasLatch}
use Rattle.lst_write.specs.Standings.{IsVersion, Stands}
use Rattle.lst_write.specs.declared.standing.Standing.TheVariants.{Seen, Closed, Newer, Unfinished}
use Rattle.lst_write.specs.Judgements.{HasChain, HasJudged, Stops, StopsAt, FoundNewer, FoundUnfinished, Judges}
use Rattle.lst_write.proofs.Keeping.{kept, still_hosts, still_on, found_before, turn_stays}

-- a latch is in hand in an open transaction
pub latched_on : (v : View) (s rec head : ℕ) → Possible v → hosts v s ≡ true → s < v.limits.sessions → HasLatch (knows v s) rec head → (knows v s).is_open ≡ true
latched_on v s rec head p hosted low latch = let a = p.allowed in let same : knows v s ≡ p.known s = knows_own v p.words p.known p.merger a s hosted (λ e. omega arith) in
    subst (λ (k : Known). k.is_open ≡ true) (sym same) ((a.sound.versions.hands s low).opened (subst (λ (k : Known). 0 < k.hold.latch) same (subst (λ (h : Hold). 0 < h.latch) (sym latch) (omega arith))))

-- and without the turn
pub latched_away : (v : View) (s rec head : ℕ) → Possible v → hosts v s ≡ true → s < v.limits.sessions → HasLatch (knows v s) rec head → rank (knows v s).turn ≡ 0
latched_away v s rec head p hosted low latch = let a = p.allowed in let same : knows v s ≡ p.known s = knows_own v p.words p.known p.merger a s hosted (λ e. omega arith) in
    subst (λ (k : Known). rank k.turn ≡ 0) (sym same) ((a.sound.versions.hands s low).away (subst (λ (k : Known). 0 < k.hold.latch) same (subst (λ (h : Hold). 0 < h.latch) (sym latch) (omega arith))))

pub turn_kept : (v w : View) (s rec head : ℕ) → Possible v → hosts v s ≡ true → s < v.limits.sessions → HasLatch (knows v s) rec head → Watched v w s → (knows w s).turn ≡ (knows v s).turn
turn_kept v w s rec head p hosted low latch watched = turn_stays (knows v s) (knows w s) (latched_away v s rec head p hosted low latch) watched.watches

-- ---- closed versions

closed_more : (facts more : List Fact) (cs : List Version) → Includes more facts → AreClosed facts cs → AreClosed more cs
closed_more facts more [] all closed = tt
closed_more facts more (c ∷ cs) all closed = (all (StateAt (c.writer % 16) (c.writer / 16) 1) closed.0, closed_more facts more cs all closed.1)

closed_last : (facts : List Fact) (cs : List Version) (c : Version) → AreClosed facts cs → IsClosed facts c → AreClosed facts (cs ++ c ∷ [])
closed_last facts [] c closed last = (last, tt)
closed_last facts (d ∷ cs) c closed last = (closed.0, closed_last facts cs c closed.1 last)

all_closed : (k : Known) (s : ℕ) (cs : List Version) → AreClosed k.facts cs → IsJudged k s cs
all_closed k s [] closed = tt
all_closed k s (c ∷ cs) closed = inr (closed.0, all_closed k s cs closed.1)

-- where a judge stopped, the chain is judged
pub judged_at : (l : Limits) (k : Known) (s rec head : ℕ) (newest : Option ℕ) → StopsAt l k s rec head newest → HasJudged l k s rec head
judged_at l k s rec head None q = (q.0, q.1, all_closed k s q.0 q.2)
judged_at l k s rec head (Some tail) q = (q.0 ++ q.1 ∷ q.2, q.3.copy, closed_are_passed k s q.0 (q.1 ∷ q.2) q.3.closed (inl q.5))

-- ---- the walk

-- the version at hand
pub record Hand (l : Limits) (facts : List Fact) (rec n : ℕ) (rest : List Version) : Type 0 where
  pub version : Version
  pub older : List Version
  pub split : rest ≡ version ∷ older
  pub is : IsVersionOf l rec version
  pub known : Contains facts (fact_of version)
  pub at : version.tail ≡ range_of rec * l.tails + n
  pub few : n ≤ l.tails
  pub falls : version.back < n
  pub leads : IsChainFrom l facts rec version.back older

pub hand_of : (l : Limits) (facts : List Fact) (rec n : ℕ) (rest : List Version) → 0 < n → IsChainFrom l facts rec n rest → Hand l facts rec n rest
hand_of l facts rec n rest some chain = let q = (chains_are_walked l facts rec n rest chain).some some in record { version = q.0; older = q.1; split = q.2; is = q.3; known = q.4; at = q.5; few = q.6; falls = q.7; leads = q.8 }

pub starts_walk : (store : Store) (seat : Sitting) (s rec head : ℕ) → IsSeatOf store seat → hosts seat.view s ≡ true → (knows seat.view s).is_open ≡ true → HasChain seat.view.limits (knows seat.view s) rec head → Judges store seat.view seat s rec head head
starts_walk store seat s rec head seat_of host is_on chain = record {
  seat_of = seat_of;
  host = host;
  on = is_on;
  watched = watched_same seat.view s;
  passed = [];
  rest = chain.0;
  copy = chain.1;
  closed = tt;
  leads = chain.1.chain;
}

module _ (store : Store) (v : View) (seat : Sitting) (s rec head n : ℕ) (J : Judges store v seat s rec head n) where
  abbrev u : View
  u = seat.view

  abbrev k : Known
  k = knows seat.view s

  -- at the chain's end
  pub walk_ends : n ≡ 0 → StopsAt seat.view.limits (knows seat.view s) s rec head None
  walk_ends e = let over : J.passed ++ J.rest ≡ J.passed = ap (λ (cs : List Version). J.passed ++ cs) ((chains_are_walked u.limits k.facts rec n J.rest J.leads).none e) ∙ append-nil J.passed in
      (J.passed, subst (λ (cs : List Version). IsCopy u.limits k.facts rec head cs) over J.copy, J.closed)

  module _ (some : 0 < n) where
    pub hand : Hand seat.view.limits (knows seat.view s).facts rec n J.rest
    hand = hand_of u.limits k.facts rec n J.rest some J.leads

    module _ (tail : ℕ) (at : tail ≡ range_of rec * store.layout.limits.tails + n) where
      tail_is : hand.version.tail ≡ tail
      tail_is = hand.at ∙ (ap (λ (l : Limits). range_of rec * l.tails + n) J.seat_of.limits ∙ sym at)

      pub walk_version : IsVersion seat.view.limits (knows seat.view s) tail
      walk_version = (rec, hand.version, hand.is, hand.known, tail_is)

      module _ (w : View) (watched : Watched seat.view w s) where
        -- the versions with those that were passed
        stops : Stops w.limits (knows w s) rec head J.passed hand.version hand.older
        stops = let K = kept u w s watched in record {
          copy = subst (λ (cs : List Version). IsCopy w.limits (knows w s).facts rec head (J.passed ++ cs)) hand.split
              (subst (λ (l : Limits). IsCopy l (knows w s).facts rec head (J.passed ++ J.rest)) (sym watched.learns.limits) (copies_stay u.limits k.facts (knows w s).facts rec head (J.passed ++ J.rest) K.facts J.copy));
          closed = closed_more k.facts (knows w s).facts J.passed K.facts J.closed;
        }

        -- a version that is seen
        pub walk_seen : Stands seat.view w s tail Seen → StopsAt w.limits (knows w s) s rec head (Some tail)
        walk_seen stands = (J.passed, hand.version, hand.older, stops, tail_is, stands rec hand.version hand.is hand.known tail_is)

        -- a newer one
        pub walk_newer : (time : ℕ) → Possible w → Stands seat.view w s tail (Newer time) → FoundNewer w.limits (knows w s) rec head time
        walk_newer time p stands = let q = stands rec hand.version hand.is hand.known tail_is in record {
          passed = J.passed;
          version = hand.version;
          older = hand.older;
          stops = stops;
          above = q.above;
          seen = q.seen;
          committed = q.committed;
          wrote = λ key has. committed_wrote w s rec key time hand.version p (still_hosts u w s watched J.host)
              (subst (λ (l : Limits). IsVersionOf l rec hand.version) (sym watched.learns.limits) hand.is) ((kept u w s watched).facts (fact_of hand.version) hand.known) has
              (let a = q.above in omega arith) q.seen q.committed;
        }

        -- an unfinished one
        pub walk_unfinished : (j m : ℕ) → Stands seat.view w s tail (Unfinished j m) → FoundUnfinished v w s rec head j m
        walk_unfinished j m stands = let q = stands rec hand.version hand.is hand.known tail_is in record {
          passed = J.passed;
          version = hand.version;
          older = hand.older;
          stops = stops;
          writer = let a = q.session in let b = q.number in omega arith;
          other = q.other;
          found = found_before v u w s (UnfinishedVersion (rec + 1) hand.version.tail j m ((knows w s).begin + 1)) J.watched q.found;
          live = q.live;
        }

        is_later : IsVersionOf w.limits rec hand.version
        is_later = subst (λ (l : Limits). IsVersionOf l rec hand.version) (sym watched.learns.limits) hand.is

        known_later : Contains (knows w s).facts (fact_of hand.version)
        known_later = (kept u w s watched).facts (fact_of hand.version) hand.known

        pub walk_again : IsLinked w.limits (knows w s).facts tail
        walk_again = (rec, hand.version, is_later, known_later, tail_is, let e = ap (λ (l : Limits). l.tails) watched.learns.limits in let a = hand.falls in let b = hand.few in omega arith)

        -- a closed one, and then the one below it
        module _ (next : Sitting) (m : ℕ) (seat_of : IsSeatOf store next) (later : Watched w next.view s) (back : IsBack w.limits (knows w s).facts tail m) where
          both : Watched seat.view next.view s
          both = watches_join u w next.view s watched later

          back_of : m ≡ hand.version.back
          back_of = back rec hand.version is_later known_later tail_is

          pub walk_falls : m < n
          walk_falls = let e = back_of in let f = hand.falls in omega arith

          pub walk_on : Stands seat.view w s tail Closed → Judges store v next s rec head m
          walk_on stands = let K = kept u next.view s both in let facts : List Fact = (knows next.view s).facts in record {
            seat_of = seat_of;
            host = still_hosts u next.view s both J.host;
            on = still_on u next.view s both J.on;
            watched = watches_join v u next.view s J.watched both;
            passed = J.passed ++ hand.version ∷ [];
            rest = hand.older;
            copy = subst (λ (cs : List Version). IsCopy next.view.limits facts rec head cs) ((λ i. J.passed ++ hand.split i) ∙ sym (append_assoc J.passed (hand.version ∷ []) hand.older))
                (subst (λ (l : Limits). IsCopy l facts rec head (J.passed ++ J.rest)) (sym both.learns.limits) (copies_stay u.limits k.facts facts rec head (J.passed ++ J.rest) K.facts J.copy));
            closed = closed_last facts J.passed hand.version (closed_more k.facts facts J.passed K.facts J.closed)
                ((kept w next.view s later).facts (StateAt (hand.version.writer % 16) (hand.version.writer / 16) 1) (stands rec hand.version hand.is hand.known tail_is));
            leads = subst (λ (l : Limits). IsChainFrom l facts rec m hand.older) (sym both.learns.limits) (subst (λ (b : ℕ). IsChainFrom u.limits facts rec b hand.older) (sym back_of)
                (chain_stays u.limits k.facts facts rec hand.version.back hand.older K.facts hand.leads));
          }
