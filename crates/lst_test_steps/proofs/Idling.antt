-- Two sessions that one seat hosts, after the calls of one of them.
use Rattle.std.proofs.Common.{◌≡◌, ℕ, ◌+◌, ◌<◌, List, Bool, [], true, Option, None, slice_index_or, take, false, Contains, refl, sym, subst, ap, ◌∙◌, ⊎_elim, arith}
use lib.ListN.{get_or-replicate}
use Rattle.std.proofs.lemmas.List.Elements.{Contains-append_left}
use mathlib.Core.Logic.{dite}
use native.Mathlib.Decide.{ℕ_discrete}
use Rattle.lst_layout.specs.declared.layout.Layout.{Layout}
use Rattle.lst_layout.specs.declared.limits.Limits.{Limits}
use Rattle.lst_model.specs.declared.acts.Act.{Act}
use Rattle.lst_model.specs.Cells.{Cell}
use Rattle.lst_model.specs.Histories.{row_from}
use Rattle.lst_model.specs.Soundness.{Fits}
use Rattle.lst_core_state.specs.declared.known.Known.{Known}
use Rattle.lst_core_state.specs.declared.known.Placing.{Placing}
use Rattle.lst_core_state.specs.declared.known.Stage.{Stage}
use Rattle.lst_core_state.specs.declared.known.Stage.TheVariants.{Away, Taken, Fresh, Logged, Stated, Done}
use Rattle.lst_core_state.specs.declared.facts.Fact.TheVariants.{IndexAt}
use Rattle.lst_core_state.specs.declared.facts.Find.{Find}
use Rattle.lst_core_state.specs.State.{newcomer, rank, no_hold}
use Rattle.lst_core_state.specs.Step.{refreshed, took}
use Rattle.lst_rule.specs.declared.view.View.{View}
use Rattle.lst_rule.specs.Rule.{knows, hosts, crew}
use Rattle.lst_rule.specs.Learned.{Learns, Possible}
use Rattle.lst_rule.proofs.Learning.{learns_on}
use Rattle.lst_rule.proofs.Opening.{same_at}
use Rattle.lst_rule.specs.declared.store.Store.{Store}
use Rattle.lst_rule.specs.Seats.{Sitting}
use Rattle.lst_rule.specs.Stores.{IsSeatOf}
use Rattle.lst_rule.specs.Copies.{Includes}
use Rattle.lst_rule.specs.Seen.{SeesAlike, HasKey}
use Rattle.lst_rule.specs.Watching.{Watches, Watched}
use Rattle.lst_rule.specs.Laws.{KeptBy}
use Rattle.lst_rule.proofs.Seeing.{same_sight}
use Rattle.lst_rule.proofs.Watching.{watchers_keep}
use Rattle.lst_txn.specs.Transactions.{Opens, Commits}
use Rattle.lst_index.specs.Searches.{Works, Keeps}
use Rattle.lst_index.proofs.Views.{keeps_free}
use Rattle.lst_write.specs.Holding.{Latches}
use Rattle.lst_rule.specs.Posting.{Posts}
use Rattle.lst_rule.proofs.PostingViews.{posts_facts}
use Rattle.lst_write.proofs.Posting.{posts_whole}
use Rattle.lst_write.specs.Appending.{FitsSight, FindsFull, Appends, InstallsHeld}
use Rattle.lst_walk.specs.Walks.{IsRowOf}
use Rattle.lst_walk.proofs.Walking.{row_of_key}
use Rattle.lst_test_steps.specs.Idle.{IsIdle, IsPair}

still_away : (k : Stage) → rank k ≡ 0 → rank (refreshed k) ≡ 0
still_away Away e = e
still_away Taken e = absurd (cc)
still_away Fresh e = absurd (cc)
still_away Logged e = absurd (cc)
still_away Stated e = absurd (cc)
still_away Done e = absurd (cc)

-- ---- the opening

pub pair_starts : (store : Store) (seat : Sitting) (layout : Layout) (l : Limits) → IsSeatOf store seat → store.layout ≡ layout → seat.view ≡ crew layout.limits → layout.limits ≡ l → l.columns ≡ 2 → l.sessions ≡ 2 → IsPair store seat
pair_starts store seat layout l seat_of same is limits columns sessions = record {
  seat_of = seat_of;
  columns = ap (λ (y : Layout). y.limits.columns) same ∙ (ap (λ (m : Limits). m.columns) limits ∙ columns);
  sessions = ap (λ (y : Layout). y.limits.sessions) same ∙ two;
  hosted = λ s low. ap (λ (v : View). hosts v s) is ∙ get_or-replicate (layout.limits.sessions + 1) s true false (omega arith);
  idle = λ s low. subst IsIdle (sym (ap (λ (v : View). knows v s) is ∙ same_at (layout.limits.sessions + 1) s (newcomer layout.limits))) record { hand = refl; away = refl; free = refl };
}
  where
    two : layout.limits.sessions ≡ 2
    two = ap (λ (m : Limits). m.sessions) limits ∙ sessions

-- ---- after calls

-- what a session knows after looks has the same in hand
watched_hand : (u v : Known) → Watches u v → u.placing.hand ≡ 0 → v.placing.hand ≡ 0
watched_hand u v w e = ap (λ (k : Known). k.placing.hand) w.is ∙ e

watched_away : (u v : Known) → Watches u v → rank u.turn ≡ 0 → rank v.turn ≡ 0
watched_away u v w e = ap (λ (k : Known). rank k.turn) w.is ∙ ⊎_elim (λ (same : w.turn ≡ u.turn). ap rank same ∙ e) (λ (same : w.turn ≡ refreshed u.turn). ap rank same ∙ still_away u.turn e) w.stage

watched_free : (u v : Known) → Watches u v → u.hold.latch ≡ 0 → v.hold.latch ≡ 0
watched_free u v w e = ap (λ (k : Known). k.hold.latch) w.is ∙ e

module _ (store : Store) (seat : Sitting) (s : ℕ) (p : IsPair store seat) (low : s < 2) where
  idle : IsIdle (knows seat.view s)
  idle = p.idle s low

  pub pair_on : (on : Sitting) (k : Known) → IsSeatOf store on → Learns seat.view on.view s k → k.placing.hand ≡ 0 → rank k.turn ≡ 0 → k.hold.latch ≡ 0 → IsPair store on
  pair_on on k seat_of h hand away free = record {
    seat_of = seat_of;
    columns = p.columns;
    sessions = p.sessions;
    hosted = λ t few. ap (λ (bs : List Bool). slice_index_or bs t false) h.hosted ∙ p.hosted t few;
    idle = λ t few. dite (ℕ_discrete t s)
        (λ e. subst (λ (n : ℕ). IsIdle (knows on.view n)) (sym e) (subst IsIdle (sym h.now) record { hand = hand; away = away; free = free }))
        (λ ne. subst IsIdle (sym (h.others t ne)) (p.idle t few));
  }

  pub pair_watched : (on : Sitting) → IsSeatOf store on → Watched seat.view on.view s → IsPair store on
  pair_watched on seat_of w = let k : Known = knows seat.view s in let m : Known = knows on.view s in
      pair_on on m seat_of w.learns (watched_hand k m w.watches idle.hand) (watched_away k m w.watches idle.away) (watched_free k m w.watches idle.free)

  pub pair_worked : (on : Sitting) (finds : List Find) → IsSeatOf store on → Works seat.view on.view s finds → (knows on.view s).placing.hand ≡ 0 → IsPair store on
  pair_worked on finds seat_of w hand = pair_on on _ seat_of w.view hand idle.away idle.free

  pub pair_found : (on : Sitting) → IsSeatOf store on → Works seat.view on.view s [] → Keeps (knows seat.view s).placing (knows on.view s).placing → IsPair store on
  pair_found on seat_of w keeps = pair_worked on [] seat_of w (ap (λ (q : Placing). q.hand) (keeps_free (knows seat.view s).placing (knows on.view s).placing idle.hand keeps) ∙ idle.hand)

  pub pair_opens : (on : Sitting) (clock b : ℕ) (r : Bool) → IsSeatOf store on → Opens seat.view on.view s clock b r → IsPair store on
  pair_opens on clock b r seat_of o = pair_on on _ seat_of o.view idle.hand (still_away (knows seat.view s).turn idle.away) idle.free

  pub pair_commits : (mid : View) (on : Sitting) (n t : ℕ) → IsSeatOf store on → n ≡ s → Learns seat.view mid s (took (knows seat.view s)) → Commits mid on.view n t → IsPair store on
  pair_commits mid on n t seat_of is a c = let h : Commits mid on.view s t = subst (λ (i : ℕ). Commits mid on.view i t) is c in
      pair_on on _ seat_of (learns_on seat.view mid on.view s _ _ a h.view) (ap (λ (k : Known). k.placing.hand) a.now ∙ idle.hand) refl (ap (λ (k : Known). k.hold.latch) a.now ∙ idle.free)

  -- ---- a write: after the latch, l, and the judge, j

  module _ (l j : View) (rec head : ℕ) (a : Latches seat.view l s rec head) (w : Watched l j s) where
    judged : Learns seat.view j s (knows j s)
    judged = learns_on seat.view l j s _ _ a.view w.learns

    hand_held : (knows j s).placing.hand ≡ 0
    hand_held = watched_hand (knows l s) (knows j s) w.watches (ap (λ (k : Known). k.placing.hand) a.view.now ∙ idle.hand)

    turn_away : rank (knows j s).turn ≡ 0
    turn_away = watched_away (knows l s) (knows j s) w.watches (ap (λ (k : Known). rank k.turn) a.view.now ∙ idle.away)

    pub released : (on : Sitting) → IsSeatOf store on → Learns j on.view s (record (knows j s) { hold = no_hold }) → IsPair store on
    released on seat_of r = pair_on on _ seat_of (learns_on seat.view j on.view s _ _ judged r) hand_held turn_away refl

    pub released_full : (b : View) (on : Sitting) (range : ℕ) → IsSeatOf store on → FindsFull j b s range → Learns b on.view s (record (knows b s) { hold = no_hold }) → IsPair store on
    released_full b on range seat_of f r = let now = f.counts.view.now in
        pair_on on _ seat_of (learns_on seat.view b on.view s _ _ (learns_on seat.view j b s _ _ judged f.counts.view) r) (ap (λ (k : Known). k.placing.hand) now ∙ hand_held) (ap (λ (k : Known). rank k.turn) now ∙ turn_away) refl

    pub installed : (b e : View) (on : Sitting) (n : ℕ) (act : Act) → IsSeatOf store on → FitsSight (knows j s) rec act → Appends j b s rec head n act → Posts b e s → InstallsHeld e on.view s rec n → IsPair store on
    installed b e on n act seat_of fits p' q i = let now = p'.view.now in
        let key : HasKey (knows b s).facts rec fits.0 = (fits.1.0, subst (λ (k : Known). Contains k.facts (IndexAt fits.1.0 rec fits.0)) (sym now) (Contains-append_left (knows j s).facts p'.facts (IndexAt fits.1.0 rec fits.0) fits.1.1)) in
        let h = i fits.0 head act (key.0, posts_facts b e s q (IndexAt key.0 rec fits.0) key.1) (posts_whole b e s rec head n act q p'.whole) in
        pair_on on _ seat_of (learns_on seat.view e on.view s _ _ (learns_on seat.view b e s _ _ (learns_on seat.view j b s _ _ judged p'.view) q.view) h.view)
        (ap (λ (k : Known). k.placing.hand) q.view.now ∙ (ap (λ (k : Known). k.placing.hand) now ∙ hand_held)) (ap (λ (k : Known). rank k.turn) q.view.now ∙ (ap (λ (k : Known). rank k.turn) now ∙ turn_away)) refl

-- ---- an act that fits

pub fits_kept : (u v : Known) (rec : ℕ) (act : Act) → SeesAlike u v → Includes v.facts u.facts → FitsSight u rec act → FitsSight v rec act
fits_kept u v rec act same more f = (f.0, (f.1.0, more (IndexAt f.1.0 rec f.0) f.1.1), subst (λ (row : Option (List Cell)). Fits row act) (ap (row_from None) (sym (same_sight u v f.0 same))) f.2)

pub fits_latched : (u v w : View) (s rec head : ℕ) (act : Act) → Latches u v s rec head → KeptBy (knows v s) (knows w s) → FitsSight (knows u s) rec act → FitsSight (knows w s) rec act
fits_latched u v w s rec head act a k f = fits_kept (knows v s) (knows w s) rec act k.alike k.facts (fits_kept (knows u s) (knows v s) rec act
    record { number = ap (λ (z : Known). z.number) a.view.now; begin = ap (λ (z : Known). z.begin) a.view.now; own = ap (λ (z : Known). z.own) a.view.now; front = λ i. take (a.view.now i).begin (a.view.now i).seen }
    (λ g h. subst (λ (z : Known). Contains z.facts g) (sym a.view.now) (Contains-append_left (knows u s).facts a.facts g h)) f)

-- the act fits the row that was looked at, from v to w
module _ (v w : View) (s rec key q : ℕ) (possible : Possible v) (hosted : hosts v s ≡ true) (opened : (knows v s).is_open ≡ true) (watched : Watched v w s) (fact : Contains (knows v s).facts (IndexAt q rec key)) where
  kept : KeptBy (knows v s) (knows w s)
  kept = watchers_keep v w s possible hosted opened watched

  pub still_placed : HasKey (knows w s).facts rec key
  still_placed = (q, kept.facts (IndexAt q rec key) fact)

  pub fits_row : (row : Option (List Cell)) (act : Act) → IsRowOf v s rec row → Fits row act → FitsSight (knows w s) rec act
  fits_row row act is fits = fits_kept (knows v s) (knows w s) rec act kept.alike kept.facts (key, (q, fact), subst (λ (r : Option (List Cell)). Fits r act) (row_of_key v s rec row is key (q, fact)) fits)
