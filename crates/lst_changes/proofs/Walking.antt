-- The walk to the newest version that is committed.
use Rattle.std.proofs.Common.{◌≡◌, ℕ, ◌+◌, ◌*◌, ◌/◌, ◌%◌, ◌^◌, ◌<◌, ◌≤◌, List, [], ◌∷◌, ◌++◌, true, false, length, Contains, refl, sym, subst, ap, ◌∙◌, arith, append_assoc}
use Rattle.std.specs.Prelude.{Option, Some, None}
use Rattle.std.proofs.lemmas.List.Elements.{Contains-append_left, Contains-append_right}
use Rattle.lst_layout.specs.declared.limits.Limits.{Limits}
use Rattle.lst_layout.specs.declared.place.Place.TheVariants.{HeadWord, CellWord}
use Rattle.lst_layout.specs.Addresses.{IsWithin}
use Rattle.lst_layout.specs.Words.{Words, shown}
use Rattle.lst_model.specs.declared.commits.Commit.{Commit}
use Rattle.lst_core_state.specs.Cells.{record_count, range_of}
use Rattle.lst_core_state.specs.declared.known.Known.{Known}
use Rattle.lst_core_state.specs.declared.facts.Fact.{Fact}
use Rattle.lst_core_state.specs.declared.facts.Fact.TheVariants.{IndexAt}
use Rattle.lst_core_state.specs.Facts.{IsFact, chain_facts}
use Rattle.lst_core_state.specs.State.{Core, history_of, line, state_over}
use Rattle.lst_rule.specs.declared.view.View.{View}
use Rattle.lst_rule.specs.declared.store.Store.{Store}
use Rattle.lst_rule.specs.Rule.{knows, hosts}
use Rattle.lst_rule.specs.Learned.{Possible}
use Rattle.lst_rule.specs.Seats.{Sitting}
use Rattle.lst_rule.specs.Stores.{IsSeatOf, Looked}
use Rattle.lst_rule.proofs.Knowing.{is_fact}
use Rattle.lst_rule.specs.Copies.{Version, fact_of, IsVersionOf, Leads, IsChainFrom, IsCopy, IsLinked}
use Rattle.lst_rule.specs.Loads.{IsBack}
use Rattle.lst_rule.specs.Seen.{HasKey}
use Rattle.lst_rule.proofs.Copying.{versions_at, copied, chains_are_walked, chain_stays}
use Rattle.lst_rule.proofs.Seeing.{index_holds}
use Rattle.lst_rule.proofs.Committed.{committed_wrote}
use Rattle.lst_changes.specs.Changes.{IsHolder, Steady, IsVersion, TailTime, TimeOf, AreHistory, AreUnmade, LastWrite, Walk}
use Rattle.lst_changes.proofs.Naming.{chain_told}
use Rattle.lst_changes.proofs.Holding.{seen_is, same, still_holds, steady_same, steady_on}
use Rattle.lst_changes.proofs.Listing.{unmade_last, none_wrote, wrote_last}
use Rattle.lst_changes.proofs.Timing.{steady_head}

-- ---- the head

leads_few : (l : Limits) (range n : ℕ) (cs : List Version) → Leads l range n cs → n ≤ l.tails
leads_few l range n [] e = omega arith
leads_few l range n (c ∷ cs) q = q.1

module _ (store : Store) (seat next : Sitting) (s rec x : ℕ) (holder : IsHolder store seat s) (seat_of : IsSeatOf store next) (below : rec < record_count store.layout.limits) (h : Looked seat.view next.view s (HeadWord rec) x) where
  abbrev v : View
  v = seat.view

  abbrev w : View
  w = next.view

  abbrev W : Words
  W = shown seat.view.limits h.met.made.told.words

  abbrev c : Core
  c = state_over seat.view.limits h.met.made.told.words h.met.made.told.known h.met.made.told.merger

  below_here : rec < record_count seat.view.limits
  below_here = subst (λ (l : Limits). rec < record_count l) (sym holder.seat_of.limits) below

  steady : Steady seat.view next.view s
  steady = steady_head v w s x rec holder.host below_here h

  abbrev copy : List Version
  copy = versions_at seat.view.limits W (line seat.view.limits W rec)

  is_copy : IsCopy seat.view.limits (knows next.view s).facts rec (x / 2) copy
  is_copy = subst (λ (n : ℕ). IsCopy v.limits (knows w s).facts rec (n / 2) copy) h.met.found
      (copied c h.met.made.told.allowed.sound rec below_here (knows w s).facts
      (λ f i. subst (λ (k : Known). Contains k.facts f) (sym h.view.now) (Contains-append_right (knows v s).facts (chain_facts v.limits W rec) f i)))

  -- its word is one that is packed
  pub head_few : x < 2 ^ 33
  head_few = let few = leads_few v.limits (range_of rec) (x / 2) copy is_copy.chain.leads in let most = h.met.made.told.allowed.sound.sized.tails.1 in omega arith

  told : (key : ℕ) → HasKey (knows seat.view s).facts rec key → AreHistory (knows next.view s).seen key copy
  told key has = let t = h.met.made.told in let a = t.allowed in
      let at : IsFact v.limits W (IndexAt has.0 rec key) = is_fact v t.words t.known t.merger a s holder.host (IndexAt has.0 rec key) has.1 in
      let place = index_holds c a.sound has.0 rec key at in
      subst (λ (l : List Commit). AreHistory l key copy) (sym (steady.seen ∙ seen_is v t.words t.known t.merger a s holder.host holder.own holder.turn))
      (subst (λ (k : ℕ). AreHistory (history_of v.limits W) k copy) at.1 (chain_told c a.sound rec place.0 place.1))

  pub walk_starts : (n : ℕ) → n ≡ x / 2 → Walk store seat.view next s rec n
  walk_starts n is = record {
    holder = still_holds store seat next s holder seat_of steady;
    steady = steady;
    low = subst (λ (l : Limits). rec < record_count l) (sym h.view.limits) below_here;
    passed = [];
    rest = copy;
    unmade = tt;
    leads = subst (λ (l : Limits). IsChainFrom l (knows w s).facts rec n copy) (sym h.view.limits) (subst (λ (m : ℕ). IsChainFrom v.limits (knows w s).facts rec m copy) (sym is) is_copy.chain);
    told = told;
  }

-- ---- from version to version

-- the version at hand
record Hand (l : Limits) (facts : List Fact) (rec n : ℕ) (rest : List Version) : Type 0 where
  pub version : Version
  pub older : List Version
  pub split : rest ≡ version ∷ older
  pub is : IsVersionOf l rec version
  pub known : Contains facts (fact_of version)
  pub at : version.tail ≡ range_of rec * l.tails + n
  pub few : n ≤ l.tails
  pub falls : version.back < n
  pub leads : IsChainFrom l facts rec version.back older

hand_of : (l : Limits) (facts : List Fact) (rec n : ℕ) (rest : List Version) → 0 < n → IsChainFrom l facts rec n rest → Hand l facts rec n rest
hand_of l facts rec n rest some chain = let q = (chains_are_walked l facts rec n rest chain).some some in record { version = q.0; older = q.1; split = q.2; is = q.3; known = q.4; at = q.5; few = q.6; falls = q.7; leads = q.8 }

module _ (store : Store) (v : View) (seat : Sitting) (s rec n : ℕ) (J : Walk store v seat s rec n) where
  abbrev u : View
  u = seat.view

  abbrev k : Known
  k = knows seat.view s

  older_key : (key : ℕ) → HasKey (knows v s).facts rec key → HasKey (knows seat.view s).facts rec key
  older_key key has = (has.0, (same v u s J.steady.watched).facts (IndexAt has.0 rec key) has.1)

  -- at the chain's end
  pub walk_ends : n ≡ 0 → (key : ℕ) → HasKey (knows v s).facts rec key → LastWrite (knows seat.view s).seen key None
  walk_ends e key has = none_wrote k.seen key J.passed J.unmade (subst (λ (cs : List Version). AreHistory k.seen key (J.passed ++ cs)) ((chains_are_walked u.limits k.facts rec n J.rest J.leads).none e) (J.told key has))

  module _ (some : 0 < n) where
    hand : Hand seat.view.limits (knows seat.view s).facts rec n J.rest
    hand = hand_of u.limits k.facts rec n J.rest some J.leads

    pub hand_few : n ≤ store.layout.limits.tails
    hand_few = let e = ap (λ (l : Limits). l.tails) J.holder.seat_of.limits in let f = hand.few in omega arith

    module _ (tail : ℕ) (at : tail ≡ range_of rec * store.layout.limits.tails + n) where
      tail_is : hand.version.tail ≡ tail
      tail_is = hand.at ∙ (ap (λ (l : Limits). range_of rec * l.tails + n) J.holder.seat_of.limits ∙ sym at)

      pub walk_version : IsVersion seat.view.limits (knows seat.view s) tail
      walk_version = (rec, hand.version, hand.is, hand.known, tail_is)

      module _ (next : Sitting) (steady : Steady seat.view next.view s) where
        abbrev z : View
        z = next.view

        is_later : IsVersionOf next.view.limits rec hand.version
        is_later = subst (λ (l : Limits). IsVersionOf l rec hand.version) (sym steady.watched.learns.limits) hand.is

        known_later : Contains (knows next.view s).facts (fact_of hand.version)
        known_later = (same u z s steady.watched).facts (fact_of hand.version) hand.known

        told_later : (key : ℕ) → HasKey (knows v s).facts rec key → AreHistory (knows next.view s).seen key (J.passed ++ hand.version ∷ hand.older)
        told_later key has = subst (λ (l : List Commit). AreHistory l key (J.passed ++ hand.version ∷ hand.older)) (sym steady.seen)
            (subst (λ (cs : List Version). AreHistory k.seen key (J.passed ++ cs)) hand.split (J.told key has))

        unmade_later : AreUnmade (knows next.view s).seen J.passed
        unmade_later = subst (λ (l : List Commit). AreUnmade l J.passed) (sym steady.seen) J.unmade

        -- a committed version
        pub walk_found : (time : ℕ) → Possible next.view → IsHolder store next s → TailTime seat.view.limits (knows seat.view s) (knows next.view s) tail (Some time)
            → (key : ℕ) → HasKey (knows v s).facts rec key → LastWrite (knows next.view s).seen key (Some time)
        unfolding older_key
        walk_found time p holder times key has = let q = times rec hand.version hand.is hand.known tail_is in
            let has_later : HasKey (knows z s).facts rec key = (has.0, (same u z s steady.watched).facts (IndexAt has.0 rec key) (older_key key has).1) in
            wrote_last (knows z s).seen key time J.passed hand.version hand.older unmade_later (told_later key has) q.seen q.named hand.version.writer
            (committed_wrote z s rec key time hand.version p holder.host is_later known_later has_later q.some q.seen q.committed)

        pub walk_linked : IsLinked next.view.limits (knows next.view s).facts tail
        walk_linked = (rec, hand.version, is_later, known_later, tail_is, let e = ap (λ (l : Limits). l.tails) steady.watched.learns.limits in let a = hand.falls in let b = hand.few in omega arith)

        -- one that isn't, and then the one below it
        module _ (last : Sitting) (m : ℕ) (holder : IsHolder store last s) (later : Steady next.view last.view s) (back : IsBack next.view.limits (knows next.view s).facts tail m) where
          both : Steady seat.view last.view s
          both = steady_on u z last.view s steady later

          back_of : m ≡ hand.version.back
          back_of = back rec hand.version is_later known_later tail_is

          pub walk_falls : m < n
          walk_falls = let e = back_of in let f = hand.falls in omega arith

          pub walk_on : TailTime seat.view.limits (knows seat.view s) (knows next.view s) tail None → Walk store v last s rec m
          walk_on times = let facts : List Fact = (knows last.view s).facts in record {
            holder = holder;
            steady = steady_on v u last.view s J.steady both;
            low = subst (λ (l : Limits). rec < record_count l) (sym both.watched.learns.limits) J.low;
            passed = J.passed ++ hand.version ∷ [];
            rest = hand.older;
            unmade = subst (λ (l : List Commit). AreUnmade l (J.passed ++ hand.version ∷ [])) (sym later.seen)
                (unmade_last (knows z s).seen J.passed hand.version unmade_later (times rec hand.version hand.is hand.known tail_is));
            leads = subst (λ (l : Limits). IsChainFrom l facts rec m hand.older) (sym both.watched.learns.limits) (subst (λ (b : ℕ). IsChainFrom u.limits facts rec b hand.older) (sym back_of)
                (chain_stays u.limits k.facts facts rec hand.version.back hand.older (same u last.view s both.watched).facts hand.leads));
            told = λ key has. subst (λ (cs : List Version). AreHistory (knows last.view s).seen key cs) (sym (append_assoc J.passed (hand.version ∷ []) hand.older))
                (subst (λ (l : List Commit). AreHistory l key (J.passed ++ hand.version ∷ hand.older)) (sym later.seen) (told_later key has));
          }
