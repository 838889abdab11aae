-- How a version stands that was resolved.
use Rattle.std.proofs.Common.{◌≡◌, ℕ, ◌+◌, ◌-◌, ◌*◌, ◌/◌, ◌%◌, ◌^◌, ◌<◌, ◌≤◌, true, Contains, refl, sym, subst, ap, ◌∙◌, arith, inl, inr}
use Rattle.lst_layout.specs.declared.limits.Limits.{Limits}
use Rattle.lst_layout.specs.Words.{Words, shown}
use Rattle.lst_layout.specs.declared.place.Place.TheVariants.{CellWord}
use Rattle.lst_layout.specs.Addresses.{IsWithin, address}
use Rattle.lst_core_state.proofs.CellsKept.{put_in_here}
use Rattle.lst_core_state.specs.declared.known.Known.{Known}
use Rattle.lst_core_state.specs.declared.events.Event.TheVariants.{Look, Stamp}
use Rattle.lst_core_state.specs.declared.facts.Fact.TheVariants.{StateAt}
use Rattle.lst_core_state.specs.State.{name_of, state_at}
use Rattle.lst_rule.specs.declared.view.View.{View}
use Rattle.lst_rule.specs.declared.actions.Action.TheVariants as action
use Rattle.lst_rule.specs.declared.status.Status.{Status}
use Rattle.lst_rule.specs.declared.status.Status.TheVariants as status
use Rattle.lst_rule.specs.declared.resolutions.Resolution.{Resolution}
use Rattle.lst_rule.specs.declared.resolutions.Resolution.TheVariants as resolution
use Rattle.lst_rule.specs.Rule.{knows, hosts}
use Rattle.lst_rule.specs.Learned.{Possible, CanStand, Times, Made}
use Rattle.lst_rule.specs.Copies.{Version, fact_of}
use Rattle.lst_rule.specs.Resolutions.{AsksOther, Resolved}
use Rattle.lst_rule.specs.Watching.{Watched}
use Rattle.lst_rule.proofs.Learning.{possible_after}
use Rattle.lst_rule.proofs.Resolving.{resolved_watched}
use Rattle.lst_rule.proofs.Asking.{looked_words}
use Rattle.lst_rule.proofs.Committed.{committed_may_be_stamped}
use Rattle.lst_rule.proofs.Stamps.{made_words}
use Rattle.lst_rule.proofs.Watching.{stamps_watch}
use Rattle.lst_write.specs.declared.standing.Standing.{Standing}
use Rattle.lst_write.specs.declared.standing.Standing.TheVariants.{Seen, Closed, Newer, Unfinished}
use Rattle.lst_write.specs.Standings.{IsVersion, Stands, StandsBy, IsSettled, SettledAs, standing_at}
use Rattle.lst_write.proofs.Keeping.{kept, still_hosts, still_on}
use Rattle.lst_write.proofs.Found.{version_word, start_watched, name_other, name_stands, name_is}
use Rattle.lst_write.proofs.States.{closed_stands, unfinished_stands, committed_stands}

settled_as : (w : View) (s tail : ℕ) (a : Standing) → IsSettled w s tail → SettledAs w s tail a
settled_as w s tail Seen is = is
settled_as w s tail Closed is = tt
settled_as w s tail (Newer time) is = tt
settled_as w s tail (Unfinished j n) is = tt

module _ (v w : View) (s tail : ℕ) (hosted : hosts v s ≡ true) (is_on : (knows v s).is_open ≡ true) (version : IsVersion v.limits (knows v s) tail) where
  pub inside : IsWithin v.limits (CellWord tail 0)
  inside = version_word v.limits (knows v s) tail 0 (omega arith) version

  pub look_watched : (r : Resolution) → Resolved v w s tail r → Watched v w s
  look_watched r h = resolved_watched v w s tail hosted inside r h

  -- another transaction's
  module _ (j n : ℕ) (found : Status) (q : AsksOther v w s tail j n found) where
    first : Watched v q.between s
    first = start_watched v q.between s tail (1 + 2 * name_of j n) hosted is_on version q.named.looked

    host_b : hosts q.between s ≡ true
    host_b = still_hosts v q.between s first hosted

    on_b : (knows q.between s).is_open ≡ true
    on_b = still_on v q.between s first is_on

    possible_b : Possible q.between
    possible_b = possible_after v q.between (action.Core (Look s (address v.limits (CellWord tail 0)))) (address v.limits (CellWord tail 0)) (1 + 2 * name_of j n) q.named.looked.met.made.told

    few : q.between.limits.sessions ≤ 16
    few = possible_b.allowed.sound.sized.sessions.1

    j_few : j < 16
    j_few = let a = q.named.place.0 in let b = few in omega arith

    stands : (d : View) (a : Standing) → StandsBy q.between d s (name_of j n) a → Stands v d s tail a
    stands d a by = name_stands v q.between s tail (1 + 2 * name_of j n) hosted is_on version q.named.looked j n refl d a by

    -- the version's transaction
    named : version.1.writer ≡ name_of j n
    named = name_is v q.between s tail (1 + 2 * name_of j n) hosted is_on version q.named.looked j n refl

  pub look_closed : Resolved v w s tail resolution.Closed → Stands v w s tail Closed
  look_closed h = let q = h.2 in stands h.0 h.1 status.Closed q w Closed (closed_stands q.between w s h.0 h.1 (host_b h.0 h.1 status.Closed q) (on_b h.0 h.1 status.Closed q) q.named.place (few h.0 h.1 status.Closed q) q.answers)

  -- where the own start word is
  pub look_own : Resolved v w s tail resolution.Own → SettledAs w s tail Seen
  look_own h whole = let number = h.3.1 in let session = h.3.0 in
      let e : (shown w.limits w.words).cells tail 0 ≡ 1 + 2 * name_of h.0 h.1 = ap (λ (u : Words). u.cells tail 0) (looked_words v w s (1 + 2 * name_of h.0 h.1) (CellWord tail 0) h.2.looked whole) ∙ h.2.looked.met.found in
      let same = ap (λ (k : Known). k.number) (resolved_watched v w s tail hosted inside resolution.Own h).watches.is in
      inl (omega arith)

  -- a time in the start word stays there
  pub look_timed : (time : ℕ) → Resolved v w s tail (resolution.Stamped time) → (d : View) (a : Standing) → Watched w d s → SettledAs d s tail a
  look_timed time h d a later = settled_as d s tail a (λ whole. let known : w.whole ≡ true = sym later.learns.whole ∙ whole in inr (later.stamps known tail
      (let e : (shown w.limits w.words).cells tail 0 ≡ 2 * time = ap (λ (u : Words). u.cells tail 0) (looked_words v w s (2 * time) (CellWord tail 0) h.2 known) ∙ h.2.met.found in omega arith)))

  -- the commit time of another transaction may be stored in the start word
  module _ (time : ℕ) (h : Resolved v w s tail (resolution.Committed time)) where
    abbrev q : AsksOther v w s tail h.0 h.1 (status.Committed time)
    q = h.2

    pub look_few : time < 2 ^ 32
    look_few = q.answers.known.few

    W : Watched v w s
    W = look_watched (resolution.Committed time) h

    module _ (range m : ℕ) (at : tail ≡ range * v.limits.tails + m) where
      pub may_be_stamped : CanStand w (Stamp s range m) × Times w (Stamp s range m) time
      may_be_stamped = let c : Version = version.1 in let e = named h.0 h.1 (status.Committed time) q in let low = j_few h.0 h.1 (status.Committed time) q in
          let session : c.writer % 16 ≡ h.0 = omega arith in let number : c.writer / 16 ≡ h.1 = omega arith in
          committed_may_be_stamped w s range m time c (still_hosts v w s W hosted) (subst (λ (l : Limits). c.writer % 16 < l.sessions) (sym W.learns.limits) version.2.session)
          ((kept v w s W).facts (fact_of c) version.3) (version.4 ∙ (at ∙ ap (λ (l : Limits). range * l.tails + m) (sym W.learns.limits))) q.answers.known.some q.answers.known.seen
          (inr (subst (λ (j : ℕ). Contains (knows w s).facts (StateAt j (c.writer / 16) (time + 1))) (sym session) (subst (λ (k : ℕ). Contains (knows w s).facts (StateAt h.0 k (time + 1))) (sym number) q.answers.known.fact)))

      -- and was, which led to d
      module _ (d : View) (made : Made w d (Stamp s range m) (CellWord (range * w.limits.tails + m) 0) (2 * time)) where
        pub timed_watched : Watched w d s
        timed_watched = stamps_watch w d s range m (2 * time) (CellWord (range * w.limits.tails + m) 0) made

        pub timed_stands : Possible d → Stands v d s tail (standing_at (knows d s).begin time)
        timed_stands p = let st : Status = status.Committed time in stands h.0 h.1 st q d (standing_at (knows d s).begin time)
            (committed_stands q.between w s h.0 h.1 (host_b h.0 h.1 st q) (on_b h.0 h.1 st q) q.named.place (few h.0 h.1 st q) time d p timed_watched q.answers)

        pub timed_settles : (a : Standing) → SettledAs d s tail a
        timed_settles a = settled_as d s tail a (λ whole. let known : w.whole ≡ true = sym made.view.whole ∙ whole in let t : ℕ = range * w.limits.tails + m in
            let same : t ≡ tail = ap (λ (l : Limits). range * l.tails + m) W.learns.limits ∙ sym at in
            let e : (shown d.limits d.words).cells t 0 ≡ 2 * (state_at (shown w.limits w.words) t - 1) = ap (λ (u : Words). u.cells t 0) (made_words w d (Stamp s range m) (CellWord t 0) (2 * time) made known)
            ∙ put_in_here (shown w.limits w.words).cells t 0 (2 * (state_at (shown w.limits w.words) t - 1)) in
            inr (subst (λ (x : ℕ). (shown d.limits d.words).cells x 0 % 2 ≡ 0) same (omega arith)))

  pub look_unfinished : (j n : ℕ) → Resolved v w s tail (resolution.Unfinished j n) → Stands v w s tail (Unfinished j n)
  look_unfinished j n q = let st : Status = status.Unfinished j n in stands j n st q w (Unfinished j n) (unfinished_stands q.between w s j n (host_b j n st q) (on_b j n st q) q.named.place (few j n st q) j n
      (name_other v q.between s tail (1 + 2 * name_of j n) hosted is_on version q.named.looked j n refl (possible_b j n st q) (j_few j n st q) q.other) q.answers)
