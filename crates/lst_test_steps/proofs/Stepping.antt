-- What an operation of one session leaves.
use Rattle.std.proofs.lemmas.List.Elements.{Contains-append_left}
use Rattle.std.proofs.Common.{◌∷◌, ◌≡◌, ◌≢◌, ℕ, ◌+◌, ◌<◌, List, [], ◌++◌, Bool, true, false, slice_index_or, refl, sym, subst, ap, ◌∙◌, arith}
use lib.ListN.{get_or-replicate}
use Rattle.lst_layout.specs.declared.layout.Layout.{Layout}
use Rattle.lst_layout.specs.declared.limits.Limits.{Limits}
use Rattle.lst_core_state.specs.declared.known.Known.{Known}
use Rattle.lst_core_state.specs.declared.known.Stage.{Stage as Turn}
use Rattle.lst_core_state.specs.declared.known.Stage.TheVariants.{Away, Taken, Fresh, Logged, Stated, Done}
use Rattle.lst_core_state.specs.declared.facts.Fact.{Fact}
use Rattle.lst_core_state.specs.declared.facts.Fact.TheVariants.{IndexAt}
use Rattle.lst_core_state.specs.declared.facts.Find.TheVariants.{CountedTails, FullTails}
use Rattle.lst_core_state.specs.State.{newcomer, rank}
use Rattle.lst_core_state.specs.Step.{refreshed, took}
use Rattle.lst_core_state.specs.Cells.{range_of}
use Rattle.lst_rule.specs.declared.view.View.{View}
use Rattle.lst_rule.specs.Rule.{knows, hosts, crew}
use Rattle.lst_rule.specs.Learned.{Learns}
use Rattle.lst_rule.proofs.Opening.{same_at}
use Rattle.lst_rule.proofs.Learning.{learns_on}
use Rattle.lst_rule.specs.declared.store.Store.{Store}
use Rattle.lst_rule.specs.Seats.{Sitting}
use Rattle.lst_rule.specs.Stores.{IsSeatOf}
use Rattle.lst_txn.specs.Transactions.{IsFree, Opens, Commits}
use Rattle.lst_test_steps.specs.declared.stages.Pair.{Pair}
use Rattle.lst_index.specs.Searches.{Works}
use Rattle.lst_index.specs.Searches as index
use Rattle.lst_write.specs.Holding.{MayLatch, IsPlaced, Latches}
use Rattle.lst_write.specs.Judgements.{HasJudged}
use Rattle.lst_write.specs.Appending.{FindsFull}
use Rattle.lst_write.proofs.Drawing.{has_judged_more}
use Rattle.lst_test_steps.specs.declared.stages.Stage.{Stage}
use Rattle.lst_test_steps.specs.declared.stages.Stage.TheVariants.{Out, In, Latching, Judged}
use Rattle.lst_test_steps.specs.Driving.{HostsAll, IsAt, IsAtStage, ArePair, MovesTo, Rests}

-- ---- the opening

pub crew_opens : (store : Store) (seat : Sitting) (layout : Layout) → IsSeatOf store seat → store.layout ≡ layout → seat.view ≡ crew layout.limits → layout.limits.columns ≡ 2 → HostsAll store seat
crew_opens store seat layout seat_of same is two = record {
  seat_of = seat_of;
  columns = ap (λ (y : Layout). y.limits.columns) same ∙ two;
  hosted = λ s low. ap (λ (v : View). hosts v s) is ∙ get_or-replicate (layout.limits.sessions + 1) s true false (let e = ap (λ (y : Layout). y.limits.sessions) same in omega arith);
}

pub out_opens : (seat : Sitting) (l : Limits) (s : ℕ) → seat.view ≡ crew l → s < l.sessions → IsAtStage seat s Out
out_opens seat l s is low = let same : knows seat.view s ≡ newcomer l = ap (λ (v : View). knows v s) is ∙ same_at (l.sessions + 1) s (newcomer l) in record {
  low = let e = ap (λ (v : View). v.limits.sessions) is in omega arith;
  hand = ap (λ (k : Known). k.placing.hand) same;
  at = (subst (λ (k : Known). IsAt seat.view.limits k s Out) (sym same) (refl, refl));
}

-- ---- a step

module _ (store : Store) (a b : Sitting) (s : ℕ) (k : Known) (c : HostsAll store a) (seat_of : IsSeatOf store b) (learns : Learns a.view b.view s k) where
  pub crew_on : HostsAll store b
  crew_on = record { seat_of = seat_of; columns = c.columns; hosted = λ t low. ap (λ (bs : List Bool). slice_index_or bs t false) learns.hosted ∙ c.hosted t low }

  pub other_on : (t : ℕ) (stage : Stage) → t ≢ s → IsAtStage a t stage → IsAtStage b t stage
  other_on t stage apart d = let same : knows b.view t ≡ knows a.view t = learns.others t apart in record {
    low = let e = ap (λ (l : Limits). l.sessions) learns.limits in let below = d.low in omega arith;
    hand = ap (λ (m : Known). m.placing.hand) same ∙ d.hand;
    at = subst (λ (l : Limits). IsAt l (knows b.view t) t stage) (sym learns.limits) (subst (λ (m : Known). IsAt a.view.limits m t stage) (sym same) d.at);
  }

  pub drives : (stage : Stage) → s < a.view.limits.sessions → k.placing.hand ≡ 0 → IsAt b.view.limits (knows b.view s) s stage → MovesTo store a b s stage
  drives stage low hand at = record {
    crew = crew_on;
    driven = record { low = let e = ap (λ (l : Limits). l.sessions) learns.limits in omega arith; hand = ap (λ (m : Known). m.placing.hand) learns.now ∙ hand; at = at };
    others = other_on;
  }

pub drives_not : (store : Store) (a : Sitting) (s : ℕ) (stage : Stage) → HostsAll store a → IsAtStage a s stage → MovesTo store a a s stage
drives_not store a s stage c d = record { crew = c; driven = d; others = λ t other apart h. h }

-- ---- the operations

rank_refreshed : (k : Turn) → rank k ≡ 0 → rank (refreshed k) ≡ 0
rank_refreshed Away e = e
rank_refreshed Taken e = absurd (omega arith)
rank_refreshed Fresh e = e
rank_refreshed Logged e = e
rank_refreshed Stated e = e
rank_refreshed Done e = e

pub begun : (store : Store) (a b : Sitting) (s x t : ℕ) (stage : Stage) → HostsAll store a → IsAtStage a s stage → IsFree (knows a.view s) → IsSeatOf store b → Opens a.view b.view s x t false → MovesTo store a b s In
begun store a b s x t stage c d free seat_of o = drives store a b s _ c seat_of o.view In d.low d.hand record {
  on = ap (λ (k : Known). k.is_open) o.view.now;
  writes = ap (λ (k : Known). k.read_only) o.view.now;
  away = ap (λ (k : Known). rank k.turn) o.view.now ∙ rank_refreshed (knows a.view s).turn free.0;
  free = ap (λ (k : Known). k.hold.latch) o.view.now ∙ free.1;
}

pub placed : (store : Store) (a b : Sitting) (s : ℕ) (finds : List _) → HostsAll store a → IsAtStage a s In → IsSeatOf store b → Works a.view b.view s finds → (knows b.view s).placing.hand ≡ 0 → MovesTo store a b s In
placed store a b s finds c d seat_of works free = let may : MayLatch (knows a.view s) = d.at in drives store a b s _ c seat_of works.view In d.low free record {
  on = ap (λ (k : Known). k.is_open) works.view.now ∙ may.on;
  writes = ap (λ (k : Known). k.read_only) works.view.now ∙ may.writes;
  away = ap (λ (k : Known). rank k.turn) works.view.now ∙ may.away;
  free = ap (λ (k : Known). k.hold.latch) works.view.now ∙ may.free;
}

-- a record that is known to be in the index stays so
placed_more : (k : Known) (more : List Fact) (rec : ℕ) → IsPlaced k rec → IsPlaced (record k { facts = k.facts ++ more }) rec
placed_more k more rec is = let has = is.1 in (is.0, (has.0, Contains-append_left k.facts more (IndexAt has.0 rec is.0) has.1))

pub latched : (store : Store) (a b : Sitting) (u : View) (s rec head key : ℕ) (finds : List _) → HostsAll store a → IsAtStage a s In → IsSeatOf store b → Works a.view u s finds → (knows u s).placing.hand ≡ 0 → index.IsPlaced (knows u s) rec key
    → Latches u b.view s rec head → MovesTo store a b s (Latching rec head)
latched store a b u s rec head key finds c d seat_of works free has l = drives store a b s _ c seat_of (learns_on a.view u b.view s _ _ works.view l.view) (Latching rec head) d.low free (
  ap (λ (k : Known). k.hold) l.view.now,
  (l.chain.copy, l.chain.is),
  subst (λ (k : Known). IsPlaced k rec) (sym l.view.now) (placed_more (knows u s) l.facts rec (key, has)),
)

pub full : (store : Store) (a b : Sitting) (s rec head : ℕ) → HostsAll store a → IsAtStage a s (Judged rec head) → IsSeatOf store b → FindsFull a.view b.view s (range_of rec) → MovesTo store a b s (Judged rec head)
full store a b s rec head c d seat_of f = let k : Known = knows a.view s in let v = f.counts.view in let at = d.at in drives store a b s _ c seat_of v (Judged rec head) d.low d.hand (
  ap (λ (m : Known). m.hold) v.now ∙ at.0,
  subst (λ (l : Limits). HasJudged l (knows b.view s) s rec head) (sym v.limits) (subst (λ (m : Known). HasJudged a.view.limits m s rec head) (sym v.now)
      (has_judged_more a.view.limits k (record k { counters = f.counts.counters; facts = k.facts ++ f.counts.facts; finds = k.finds ++ CountedTails (range_of rec) f.count ∷ FullTails (range_of rec) ∷ [] }) s rec head
      record { number = refl; begin = refl; own = refl; front = refl } (λ g h. Contains-append_left k.facts f.counts.facts g h) at.1)),
  subst (λ (m : Known). IsPlaced m rec) (sym v.now) (placed_more k f.counts.facts rec at.2),
)

pub committed : (store : Store) (a b : Sitting) (u : View) (s turn time : ℕ) → HostsAll store a → IsAtStage a s Out → turn ≡ s → Learns a.view u s (took (knows a.view s)) → Commits u b.view turn time → IsSeatOf store b → MovesTo store a b s Out
committed store a b u s turn time c d is took commits seat_of = let o : Commits u b.view s time = subst (λ (t : ℕ). Commits u b.view t time) is commits in
    drives store a b s _ c seat_of (learns_on a.view u b.view s _ _ took o.view) Out d.low (ap (λ (k : Known). k.placing.hand) took.now ∙ d.hand) (
      ap (λ (k : Known). rank k.turn) o.view.now,
      ap (λ (k : Known). k.hold.latch) o.view.now ∙ (ap (λ (k : Known). k.hold.latch) took.now ∙ d.at.1),
    )

-- ---- two sessions

-- a third one learns
pub pair_rests : (store : Store) (a b : Sitting) (k : Known) (p : Pair) → HostsAll store a → IsSeatOf store b → Learns a.view b.view 2 k → ArePair a p → ArePair b p
pair_rests store a b k p c seat_of learns both = (other_on store a b 2 k c seat_of learns 0 p.first (λ e. omega arith) both.0, other_on store a b 2 k c seat_of learns 1 p.second (λ e. omega arith) both.1)

-- after its turn is tried for, session 0 holds it still
pub turn_holds : (v u w : View) → Learns v u 0 (took (knows v 0)) → Rests u w 1 → rank (knows w 0).turn ≡ 1
turn_holds v u w took rests = ap (λ (k : Known). rank k.turn) (rests.view.others 0 (λ e. omega arith) ∙ took.now)

pub commits_beside : (store : Store) (a b : Sitting) (u w : View) (turn time : ℕ) (first second : Stage) → HostsAll store a → IsAtStage a 0 Out → IsAtStage a 1 Out → turn ≡ 0 → Learns a.view u 0 (took (knows a.view 0)) → Rests u w 1 → Commits w b.view turn time
    → IsSeatOf store b → IsAtStage b 0 Out × IsAtStage b 1 Out
commits_beside store a b u w turn time first second c d e is took rests commits seat_of = let o : Commits w b.view 0 time = subst (λ (t : ℕ). Commits w b.view t time) is commits in
    let zero : knows w 0 ≡ knows u 0 = rests.view.others 0 (λ z. omega arith) in let one : knows b.view 1 ≡ rests.now = o.view.others 1 (λ z. omega arith) ∙ rests.view.now in
    let limits : b.view.limits ≡ a.view.limits = o.view.limits ∙ (rests.view.limits ∙ took.limits) in (
      record {
        low = subst (λ (l : Limits). 0 < l.sessions) (sym limits) d.low;
        hand = ap (λ (k : Known). k.placing.hand) o.view.now ∙ (ap (λ (k : Known). k.placing.hand) (zero ∙ took.now) ∙ d.hand);
        at = (ap (λ (k : Known). rank k.turn) o.view.now, ap (λ (k : Known). k.hold.latch) o.view.now ∙ (ap (λ (k : Known). k.hold.latch) (zero ∙ took.now) ∙ d.at.1));
      },
      record {
        low = subst (λ (l : Limits). 1 < l.sessions) (sym limits) e.low;
        hand = ap (λ (k : Known). k.placing.hand) one ∙ rests.hand;
        at = (ap (λ (k : Known). rank k.turn) one ∙ rests.free.0, ap (λ (k : Known). k.hold.latch) one ∙ rests.free.1);
      },
    )
