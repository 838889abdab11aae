-- What stays while a session has a record's latch: what it knows of its transactions, and the words.
use Rattle.std.proofs.Common.{◌≡◌, ◌≢◌, ⊎_elim, ℕ, ◌+◌, ◌-◌, ◌*◌, ◌/◌, ◌%◌, ◌<◌, List, Bool, true, false, take, refl, sym, subst, ap, ◌∙◌, arith, slice_index_or}
use mathlib.Core.Logic.{dite}
use native.Mathlib.Decide.{ℕ_discrete}
use Rattle.lst_layout.specs.declared.limits.Limits.{Limits}
use Rattle.lst_layout.specs.declared.place.Place.TheVariants.{HeadWord}
use Rattle.lst_layout.specs.Functions.{put}
use Rattle.lst_layout.proofs.Functions.{put_here, put_else}
use Rattle.lst_core_state.specs.declared.known.Known.{Known}
use Rattle.lst_core_state.specs.declared.known.Hold.{Hold}
use Rattle.lst_core_state.specs.declared.events.Event.TheVariants.{Latch}
use Rattle.lst_core_state.specs.Cells.{record_count}
use Rattle.lst_core_state.specs.State.{Words, rank, no_hold}
use Rattle.lst_core_state.specs.Step.{refreshed}
use Rattle.lst_rule.specs.declared.view.View.{View}
use Rattle.lst_rule.specs.Rule.{knows, hosts, Allowed}
use Rattle.lst_rule.specs.Learned.{Possible, Learns, Made}
use Rattle.lst_rule.proofs.Knowing.{knows_own, whole_words}
use Rattle.lst_rule.specs.declared.actions.Action.TheVariants as action
use Rattle.lst_rule.proofs.Learning.{possible_after, learns_on}
use Rattle.lst_rule.specs.Watching.{Watches, Watched, IsStamped}
use Rattle.lst_rule.specs.Laws.{KeptBy}
use Rattle.lst_rule.proofs.Watching.{watchers_keep}
use Rattle.lst_rule.proofs.Stamps.{made_words}
use Rattle.lst_write.specs.Holding.{Latches, latch_of}
use Rattle.lst_refinement.specs.Crews.{IsIdle}
use Rattle.lst_refinement.specs.Effects.{SameTransactions}
use Rattle.lst_session.specs.Crews.{words_of}
use Rattle.lst_session.proofs.Crewed.{IsCrewView, is_crew, hosted_all, away_still}
use Rattle.lst_session.proofs.CrewJudging.{with_head, with_latch, IsHeld}

-- ---- what the session knows

-- its transactions, its record in hand and its turn are as before
pub record SameWriter (u k : Known) : Type 0 where
  pub transactions : SameTransactions u k
  pub rec : k.placing.hand ≡ u.placing.hand
  pub turn : rank u.turn ≡ 0 → rank k.turn ≡ 0

pub writer_on : (a b c : Known) → SameWriter a b → SameWriter b c → SameWriter a c
writer_on a b c p q = record {
  transactions = record {
    number = q.transactions.number ∙ p.transactions.number;
    begin = q.transactions.begin ∙ p.transactions.begin;
    read_only = q.transactions.read_only ∙ p.transactions.read_only;
    is_open = q.transactions.is_open ∙ p.transactions.is_open;
  };
  rec = q.rec ∙ p.rec;
  turn = λ away. q.turn (p.turn away);
}

pub writer_same : (u : Known) → SameWriter u u
writer_same u = record { transactions = record { number = refl; begin = refl; read_only = refl; is_open = refl }; rec = refl; turn = λ away. away }

-- by an equation that names what changed
pub writer_as : (u k m : Known) → k ≡ m → SameWriter u m → SameWriter u k
writer_as u k m e same = subst (SameWriter u) (sym e) same

pub writer_watched : (u k : Known) → Watches u k → SameWriter u k
writer_watched u k watches = subst (SameWriter u) (sym watches.is) record {
  transactions = record { number = refl; begin = refl; read_only = refl; is_open = refl };
  rec = refl;
  turn = λ away. ⊎_elim (λ (e : watches.turn ≡ u.turn). ap rank e ∙ away) (λ (e : watches.turn ≡ refreshed u.turn). ap rank e ∙ away_still u.turn away) watches.stage;
}

-- once nothing is held, it is idle
pub writer_idle : (u k : Known) → SameWriter u k → IsIdle u → IsIdle (record k { hold = no_hold })
writer_idle u k same idle = record { rec = same.rec ∙ idle.rec; hold = refl; turn = same.turn idle.turn }

-- ---- the latch

module _ (u : View) (p : Possible u) (crew : IsCrewView u) (b : View) (s rec head : ℕ) (low : s < u.limits.sessions) (is_on : (knows u s).is_open ≡ true) (latches : Latches u b s rec head) (word : Made u b (Latch s rec) (HeadWord rec) (2 * head + 1)) where
  pub latched_writer : SameWriter (knows u s) (knows b s)
  latched_writer = writer_as (knows u s) (knows b s) _ latches.view.now record { transactions = record { number = refl; begin = refl; read_only = refl; is_open = refl }; rec = refl; turn = λ away. away }

  latched_possible : Possible b
  latched_possible = possible_after u b (action.Core (Latch s rec)) _ _ word.told

  latched_whole : b.whole ≡ true
  latched_whole = latches.view.whole ∙ crew.whole

  latched_hosted : hosts b s ≡ true
  latched_hosted = ap (λ (hs : List Bool). slice_index_or hs s false) latches.view.hosted ∙ hosted_all u crew p s (omega arith)

  -- after looks
  pub held_on : (m : View) → Possible m → Watched b m s → IsHeld u m s rec head
  held_on m q watched = let K : KeptBy (knows b s) (knows m s) = watchers_keep b m s latched_possible latched_hosted (ap (λ (k : Known). k.is_open) latches.view.now ∙ is_on) watched in
      let hold : (knows m s).hold ≡ latch_of rec head = K.hold ∙ ap (λ (k : Known). k.hold) latches.view.now in record {
        possible = q;
        limits = watched.learns.limits ∙ latches.view.limits;
        whole = watched.learns.whole ∙ latched_whole;
        is_open = K.is_open ∙ (ap (λ (k : Known). k.is_open) latches.view.now ∙ is_on);
        latch = ap (λ (h : Hold). h.latch) hold;
        head_is = ap (λ (h : Hold). h.head) hold;
        alike = record {
          number = K.alike.number ∙ ap (λ (k : Known). k.number) latches.view.now;
          begin = K.alike.begin ∙ ap (λ (k : Known). k.begin) latches.view.now;
          own = K.alike.own ∙ ap (λ (k : Known). k.own) latches.view.now;
          front = K.alike.front ∙ (λ i. take (latches.view.now i).begin (latches.view.now i).seen);
        };
        stamped = subst (λ (a : Words). IsStamped a (words_of m)) (made_words u b (Latch s rec) (HeadWord rec) (2 * head + 1) word crew.whole) (watched.words latched_whole);
      }

  pub held_learns : (m : View) → Watched b m s → Learns u m s (knows m s)
  held_learns m watched = learns_on u b m s _ (knows m s) latches.view watched.learns

  pub held_writer : (m : View) → Watched b m s → SameWriter (knows u s) (knows m s)
  held_writer m watched = writer_on (knows u s) (knows b s) (knows m s) latched_writer (writer_watched (knows b s) (knows m s) watched.watches)

-- ---- the words

-- nobody has the latch of a record between two calls
pub even_head : (u : View) (p : Possible u) → IsCrewView u → (rec : ℕ) → rec < record_count u.limits → (words_of u).heads rec % 2 ≢ 1
even_head u p crew rec inside odd = let c = is_crew u crew p in let h = c.sound.versions.held rec inside odd in let none = ap (λ (x : Hold). x.latch) (c.idle h.0 h.1).hold in let some = h.2 in omega arith

-- the head word of a held record
pub held_head : (u m : View) (s rec head : ℕ) → IsHeld u m s rec head → s < u.limits.sessions → ((words_of u).heads rec / 2 ≡ head) × ((words_of m).heads rec ≡ 2 * head + 1)
held_head u m s rec head held low = let q = held.possible in let a : Allowed m m.words q.known q.merger = whole_words m q.words q.known q.merger q.allowed held.whole in
    let here : s < m.limits.sessions = subst (λ (l : Limits). s < l.sessions) (sym held.limits) low in
    let same : knows m s ≡ q.known s = knows_own m m.words q.known q.merger a s (a.all held.whole s (omega arith)) (λ e. omega arith) in
    let H = a.sound.versions.hands s here in
    let latch : (q.known s).hold.latch ≡ rec + 1 = ap (λ (k : Known). k.hold.latch) (sym same) ∙ held.latch in
    let top : (q.known s).hold.head ≡ head = ap (λ (k : Known). k.hold.head) (sym same) ∙ held.head_is in
    let word : (words_of m).heads rec ≡ 2 * head + 1 = ap (words_of m).heads (let e : rec ≡ (q.known s).hold.latch - 1 = omega arith in e) ∙ (H.latched (omega arith) ∙ ap (λ (h : ℕ). 2 * h + 1) top) in
    let set : (words_of m).heads rec ≡ 2 * ((words_of u).heads rec / 2) + 1 = ap (λ (w : Words). w.heads rec) held.stamped.rest ∙ put_here (words_of u).heads rec (2 * ((words_of u).heads rec / 2) + 1) in
    (omega arith, word)

-- the latch is given back
module _ (a b : Words) (rec head : ℕ) (half : a.heads rec / 2 ≡ head) (even : a.heads rec % 2 ≢ 1) (stamped : IsStamped (with_latch a rec) b) where
  heads_back : (r : ℕ) → put b.heads rec (2 * head) r ≡ a.heads r
  heads_back r = dite (ℕ_discrete r rec)
      (λ e. subst (λ (x : ℕ). put b.heads rec (2 * head) x ≡ a.heads x) (sym e) (put_here b.heads rec (2 * head) ∙ (omega arith)))
      (λ ne. put_else b.heads rec (2 * head) r ne ∙ (ap (λ (w : Words). w.heads r) stamped.rest ∙ put_else a.heads rec (2 * (a.heads rec / 2) + 1) r ne))

  pub released_words : IsStamped a (with_head b rec (2 * head))
  released_words = record {
    rest = λ i. record (stamped.rest i) { heads = λ r. heads_back r i };
    others = stamped.others;
    stored = stamped.stored;
    writers = λ t. stamped.writers t;
  }
