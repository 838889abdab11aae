-- What the status of a transaction tells of its versions.
use Rattle.std.proofs.Common.{◌≡◌, ℕ, ◌+◌, ◌/◌, ◌%◌, ◌<◌, ◌≤◌, true, Contains, sym, subst, ◌∙◌, arith}
use Rattle.lst_layout.specs.declared.limits.Limits.{Limits}
use Rattle.lst_layout.specs.declared.place.Place.TheVariants.{StateWord}
use Rattle.lst_layout.specs.Addresses.{IsWithin}
use Rattle.lst_core_state.specs.declared.facts.Fact.TheVariants.{StateAt}
use Rattle.lst_core_state.specs.declared.facts.Find.{Find}
use Rattle.lst_core_state.specs.declared.facts.Find.TheVariants.{UnfinishedVersion}
use Rattle.lst_core_state.specs.State.{name_of}
use Rattle.lst_rule.specs.declared.view.View.{View}
use Rattle.lst_rule.specs.Rule.{knows, hosts}
use Rattle.lst_rule.specs.Learned.{Possible}
use Rattle.lst_rule.specs.declared.status.Status.{Status}
use Rattle.lst_rule.specs.declared.status.Status.TheVariants as status
use Rattle.lst_rule.specs.Statuses.{Answers}
use Rattle.lst_rule.specs.Copies.{Version}
use Rattle.lst_rule.specs.Watching.{Watched}
use Rattle.lst_rule.proofs.AskingWatched.{status_watched}
use Rattle.lst_rule.proofs.Watching.{watches_join}
use Rattle.lst_write.specs.declared.standing.Standing.{Standing}
use Rattle.lst_write.specs.declared.standing.Standing.TheVariants.{Seen, Closed, Newer, Unfinished}
use Rattle.lst_write.specs.Standings.{IsOther, IsStanding, StandsBy, standing_at}
use Rattle.lst_write.proofs.Keeping.{kept, still_hosts, still_on, found_before}
use Rattle.lst_write.proofs.Clocks.{name_parts, find_is}
use Rattle.lst_write.proofs.Verdicts.{logged_stands}

-- what was found in a later part of a call was found in the call
pub stood_before : (u v w : View) (s rec : ℕ) (c : Version) (a : Standing) → Watched u v s → IsStanding v w s rec c a → IsStanding u w s rec c a
stood_before u v w s rec c Seen watched h = h
stood_before u v w s rec c Closed watched h = h
stood_before u v w s rec c (Newer time) watched h = h
stood_before u v w s rec c (Unfinished j n) watched h = record {
  session = h.session;
  number = h.number;
  other = h.other;
  found = found_before u v w s (UnfinishedVersion (rec + 1) c.tail j n ((knows w s).begin + 1)) watched h.found;
  live = h.live;
}

-- ---- a status that was asked for

module _ (v w : View) (s j n : ℕ) (hosted : hosts v s ≡ true) (is_on : (knows v s).is_open ≡ true) (place : IsWithin v.limits (StateWord j n)) where
  pub asked_watched : (status : Status) → Answers v w s j n status → Watched v w s
  asked_watched status h = status_watched v w s j n hosted place status h.says

  module _ (few : v.limits.sessions ≤ 16) where
    parts : (x : ℕ) → x ≡ name_of j n → (x % 16 ≡ j) × (x / 16 ≡ n)
    parts x name = name_parts j n x (let a = place.0 in omega arith) name

    fact_by : (y x : ℕ) → x ≡ name_of j n → Contains (knows w s).facts (StateAt j n y) → Contains (knows w s).facts (StateAt (x % 16) (x / 16) y)
    fact_by y x name h = let q = parts x name in subst (λ (i : ℕ). Contains (knows w s).facts (StateAt i (x / 16) y)) (sym q.0) (subst (λ (m : ℕ). Contains (knows w s).facts (StateAt j m y)) (sym q.1) h)

    pub closed_stands : Answers v w s j n status.Closed → StandsBy v w s (name_of j n) Closed
    closed_stands h rec c start name = fact_by 1 c.writer name h.known

    pub unfinished_stands : (a b : ℕ) → IsOther (knows v s) s j n → Answers v w s j n (status.Unfinished a b) → StandsBy v w s (name_of j n) (Unfinished j n)
    unfinished_stands a b other h rec c start name = let q = parts c.writer name in let W = asked_watched (status.Unfinished a b) h in let found = h.known.2.found in record {
      session = sym q.0;
      number = sym q.1;
      other = λ same. let least = h.known.2.last same in let most = other.begun same in other.name (λ i. name_of (same i) ((let e : n ≡ (knows v s).number = omega arith in e) i));
      found = record {
        more = found.0;
        grows = found.1;
        here = subst (λ (f : Find). Contains found.0 f)
            (find_is (knows v s) rec j n c is_on (let e = place.0 in omega arith) start name ∙ (λ i. UnfinishedVersion (rec + 1) c.tail j n ((sym (kept v w s W).begin i) + 1)))
            found.2;
      };
      live = h.stored;
    }

    -- the view d is a later one
    pub committed_stands : (time : ℕ) (d : View) → Possible d → Watched w d s → Answers v w s j n (status.Committed time) → StandsBy v d s (name_of j n) (standing_at (knows d s).begin time)
    committed_stands time d p later h rec c start name = let W = watches_join v w d s (asked_watched (status.Committed time) h) later in let q = parts c.writer name in let K = kept w d s later in
        logged_stands v d s rec time c p (still_hosts v d s W hosted) (still_on v d s W is_on) (subst (λ (l : Limits). c.writer % 16 < l.sessions) (sym W.learns.limits) (let e = q.0 in let a = place.0 in omega arith))
        h.known.some (let a = h.known.seen in let b = K.longer in omega arith) (K.facts (StateAt (c.writer % 16) (c.writer / 16) (time + 1)) (fact_by (time + 1) c.writer name h.known.fact))
