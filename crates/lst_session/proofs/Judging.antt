-- What was found of a chain is still known after the latch is given back.
use Rattle.std.proofs.Common.{◌≡◌, ℕ, List, take, sym, subst}
use Rattle.lst_layout.specs.declared.limits.Limits.{Limits}
use Rattle.lst_core_state.specs.declared.known.Known.{Known}
use Rattle.lst_core_state.specs.State.{no_hold}
use Rattle.lst_rule.specs.declared.view.View.{View}
use Rattle.lst_rule.specs.Rule.{knows}
use Rattle.lst_rule.specs.Learned.{Learns}
use Rattle.lst_rule.specs.Copies.{Version}
use Rattle.lst_rule.specs.Seen.{SeesAlike}
use Rattle.lst_write.specs.Judgements.{HasJudged, Stops, FoundNewer}
use Rattle.lst_write.proofs.Drawing.{has_judged_more}
use Rattle.lst_session.proofs.Growing.{Stays, Steps, facts_stay}

-- what decides what the transaction sees has stayed, where no more commits were seen
alike : (s : ℕ) (u k : Known) → Stays s u k → k.seen ≡ u.seen → SeesAlike u k
alike s u k st e = record {
  number = st.same.transaction.number;
  begin = st.same.transaction.begin;
  own = st.same.own;
  front = λ i. take (st.same.transaction.begin i) (e i);
}

pub judged_then : (b w : View) (s rec head : ℕ) → Steps b w s → (knows w s).seen ≡ (knows b s).seen → HasJudged b.limits (knows b s) s rec head → HasJudged w.limits (knows w s) s rec head
judged_then b w s rec head st e judged = subst (λ (l : Limits). HasJudged l (knows w s) s rec head) (sym st.learns.limits)
    (has_judged_more b.limits (knows b s) (knows w s) s rec head (alike s (knows b s) (knows w s) st.stays e) (facts_stay (knows b s) (knows w s) st.stays.grown) judged)

-- ---- once the latch is given back

stops_freed : (l : Limits) (k : Known) (rec head : ℕ) (passed : List Version) (c : Version) (older : List Version) → Stops l k rec head passed c older → Stops l (record k { hold = no_hold }) rec head passed c older
stops_freed l k rec head passed c older t = record { copy = t.copy; closed = t.closed }

newer_freed : (l : Limits) (k : Known) (rec head time : ℕ) → FoundNewer l k rec head time → FoundNewer l (record k { hold = no_hold }) rec head time
newer_freed l k rec head time f = record {
  passed = f.passed;
  version = f.version;
  older = f.older;
  stops = stops_freed l k rec head f.passed f.version f.older f.stops;
  above = f.above;
  seen = f.seen;
  committed = f.committed;
  wrote = f.wrote;
}

module _ (b w : View) (s : ℕ) (l : Learns b w s (record (knows b s) { hold = no_hold })) where
  pub stops_then : (rec head : ℕ) (passed : List Version) (c : Version) (older : List Version) → Stops b.limits (knows b s) rec head passed c older → Stops w.limits (knows w s) rec head passed c older
  stops_then rec head passed c older t = subst (λ (k : Known). Stops w.limits k rec head passed c older) (sym l.now)
      (subst (λ (m : Limits). Stops m (record (knows b s) { hold = no_hold }) rec head passed c older) (sym l.limits) (stops_freed b.limits (knows b s) rec head passed c older t))

  pub newer_then : (rec head time : ℕ) → FoundNewer b.limits (knows b s) rec head time → FoundNewer w.limits (knows w s) rec head time
  newer_then rec head time f = subst (λ (k : Known). FoundNewer w.limits k rec head time) (sym l.now)
      (subst (λ (m : Limits). FoundNewer m (record (knows b s) { hold = no_hold }) rec head time) (sym l.limits) (newer_freed b.limits (knows b s) rec head time f))
