-- What the view of a crew tells of the machine's state, and what it tells after a step.
use Rattle.std.proofs.Common.{◌≡◌, ⊎_elim, ℕ, ◌<◌, ◌≤◌, Bool, true, false, cond, length, refl, sym, subst, ap, ◌∙◌, arith, slice_set}
use Rattle.std.specs.Prelude.{Some, None}
use mathlib.Core.Logic.{dite}
use native.Mathlib.Decide.{ℕ_discrete}
use Rattle.lst_layout.specs.declared.limits.Limits.{Limits}
use Rattle.lst_layout.specs.declared.place.Place.{Place}
use Rattle.lst_layout.specs.Addresses.{IsWithin, address}
use Rattle.lst_layout.specs.Areas as areas
use Rattle.lst_layout.specs.Words.{Words, shown, with_word}
use Rattle.lst_layout.proofs.Shown.{changed}
use Rattle.lst_model.specs.declared.lines.Call.{Call}
use Rattle.lst_model.specs.declared.replies.Reply.{Reply}
use Rattle.lst_machine.specs.State.{Opened}
use Rattle.lst_machine.specs.Calls.{call_reply, store_after}
use Rattle.lst_core_state.specs.declared.known.Known.{Known}
use Rattle.lst_core_state.specs.declared.known.Stage.{Stage}
use Rattle.lst_core_state.specs.declared.known.Stage.TheVariants.{Away, Taken, Fresh, Logged, Stated, Done}
use Rattle.lst_core_state.specs.declared.pages.MergerFrames.{MergerFrames}
use Rattle.lst_core_state.specs.Cells.{record_count}
use Rattle.lst_core_state.specs.Index.{is_placed}
use Rattle.lst_core_state.specs.State.{Core, rank}
use Rattle.lst_core_state.specs.Step.{refreshed}
use Rattle.lst_core_state.specs.State.{state_over}
use Rattle.lst_rule.specs.declared.view.View.{View}
use Rattle.lst_rule.specs.Rule.{knows, hosts, Allowed}
use Rattle.lst_rule.specs.Learned.{Possible, Learns, Kept}
use Rattle.lst_rule.specs.PageSteps.{stock_of}
use Rattle.lst_rule.proofs.Knowing.{whole_words, knows_own, knows_merger}
use Rattle.lst_rule.specs.Watching.{IsStamped, Watches, Watched}
use Rattle.lst_rule.proofs.Stamps.{stamped_same}
use Rattle.lst_refinement.specs.Crews.{IsIdle, IsCrew}
use Rattle.lst_refinement.specs.Telling.{opened_of, told_store, told, pages_told, told_state}
use Rattle.lst_refinement.specs.Effects.{SameTransactions, SameBut}
use Rattle.lst_refinement.proofs.Openings.{below_is, transactions_are_told}
use Rattle.lst_refinement.proofs.PageParts.{pins_and_pages_are_told}
use Rattle.lst_refinement.proofs.Stamped.{stamps_tell_nothing}
use Rattle.lst_rule.specs.declared.store.Store.{Store}
use Rattle.lst_session.specs.declared.crew.Crew.{Crew}
use Rattle.lst_pages.specs.Runs.{tps_known}
use Rattle.lst_session.specs.Crews.{words_of, IsCrewOf, TellsState, store_told, pages_known, state_told}

-- ---- a crew that tells the machine's state

-- nobody has anything in hand, and the view tells a state of the machine
pub record IsCrewView (v : View) : Type 0 where
  pub whole : v.whole ≡ true
  pub idle : (s : ℕ) → s < v.limits.sessions → IsIdle (knows v s)
  pub records : (words_of v).counter ≤ record_count v.limits
  pub placed : (r : ℕ) → r < (words_of v).counter → is_placed v.limits (words_of v).index r ≡ true
  pub tails : (range : ℕ) → range < v.limits.ranges → (words_of v).counts range ≤ v.limits.tails

pub crew_view : (store : Store) (crew : Crew) → IsCrewOf store crew → TellsState crew.seat.view → IsCrewView crew.seat.view
crew_view store crew of tells = record { whole = tells.whole; idle = of.idle; records = tells.records; placed = tells.placed; tails = tells.tails }

-- the answer to the session's call is the machine's, and the view then tells the store part of its next state
pub record StoreAnswers (v w : View) (s : ℕ) (call : Call) (answer : Reply) : Type 0 where
  pub reply : answer ≡ call_reply v.limits (store_told v) s call
  pub next : store_told w ≡ store_after v.limits (store_told v) s call
  pub limits : w.limits ≡ v.limits

-- what a call answers as the machine does, and the state that the view tells then
pub told_by : {P Q : Type 0} (w : View) → (P → Q) → IsCrewView w × P → TellsState w × Q
told_by w whole both = let c = both.0 in (record { whole = c.whole; records = c.records; placed = c.placed; tails = c.tails }, whole both.1)

-- ---- the state of the core that the view is

pub same_known : (u k : Known) → k ≡ u → SameTransactions u k
same_known u k e = record {
  number = ap (λ (x : Known). x.number) e;
  begin = ap (λ (x : Known). x.begin) e;
  read_only = ap (λ (x : Known). x.read_only) e;
  is_open = ap (λ (x : Known). x.is_open) e;
}

module _ (v : View) (crew : IsCrewView v) (p : Possible v) where
  pub allowed_whole : Allowed v v.words p.known p.merger
  allowed_whole = whole_words v p.words p.known p.merger p.allowed crew.whole

  abbrev pub core_of : Core
  core_of = state_over v.limits v.words p.known p.merger

  pub hosted_all : (s : ℕ) → s ≤ v.limits.sessions → hosts v s ≡ true
  hosted_all s low = p.allowed.all crew.whole s low

  pub known_is : (s : ℕ) → s < v.limits.sessions → knows v s ≡ p.known s
  known_is s low = knows_own v v.words p.known p.merger allowed_whole s (hosted_all s (omega arith)) (λ e. omega arith)

  pub is_crew : IsCrew core_of
  is_crew = record {
    sound = allowed_whole.sound;
    idle = λ s low. subst IsIdle (known_is s low) (crew.idle s low);
    records = crew.records;
    placed = crew.placed;
    tails = crew.tails;
  }

  -- the state that it tells is that of this state of the core
  pub told_is : store_told v ≡ told core_of
  told_is = transactions_are_told v.limits (words_of v) p.known (knows v) (λ s low. same_known (p.known s) (knows v s) (known_is s low))

  pub stock_is : stock_of v ≡ p.merger.pages.stock
  stock_is = ap (λ (k : Known). k.pages.stock) (knows_merger v v.words p.known p.merger allowed_whole v.limits.sessions (hosted_all v.limits.sessions (omega arith)) refl)

  pub pages_is : pages_known v ≡ pages_told core_of
  pages_is = pins_and_pages_are_told v.limits p.known (knows v) p.merger.pages.stock (stock_of v) (λ s low. ap (λ (k : Known). k.pages.session.pin) (known_is s low))
      record { tps = λ r q inside. ap (λ (m : MergerFrames). tps_known m r q) stock_is; epoch = ap (λ (m : MergerFrames). m.epoch) stock_is }

  pub state_is : state_told v ≡ told_state core_of
  state_is = λ i. record { store = told_is i; pages = pages_is i }

  -- the other sessions are those of the core after a step of s
  pub others_on : (w : View) (s : ℕ) (k : Known) → Learns v w s k → SameBut v.limits.sessions s p.known (knows w)
  others_on w s k learns t low ne = same_known (p.known t) (knows w t) (learns.others t ne ∙ known_is t low)

-- ---- what it tells of a session

module _ (v : View) (s : ℕ) (low : s < v.limits.sessions) where
  pub begins_is : (store_told v).begins s ≡ (knows v s).number
  begins_is = below_is v.limits.sessions s (knows v s).number 0 low

  pub opened_is : (store_told v).opened s ≡ opened_of (knows v s)
  opened_is = below_is v.limits.sessions s (opened_of (knows v s)) None low

  abbrev pub opened_by : Opened
  opened_by = record { begin = (knows v s).begin; read_only = (knows v s).read_only }

  pub opened_some : (knows v s).is_open ≡ true → (store_told v).opened s ≡ Some (opened_by)
  opened_some e = opened_is ∙ ap (λ (b : Bool). cond b (Some (opened_by)) None) e

  pub opened_none : (knows v s).is_open ≡ false → (store_told v).opened s ≡ None
  opened_none e = opened_is ∙ ap (λ (b : Bool). cond b (Some (opened_by)) None) e

-- ---- the words after a step

pub kept_words : (v w : View) → w.limits ≡ v.limits → Kept v w → v.whole ≡ true → words_of w ≡ words_of v
kept_words v w same kept whole = λ i. shown (same i) (kept.words whole i)

-- a word was stored
pub set_words : (v w : View) (p : Place) (x : ℕ) → length v.words ≡ areas.words_of v.limits → IsWithin v.limits p → w.limits ≡ v.limits → w.words ≡ slice_set v.words (address v.limits p) x → words_of w ≡ with_word (words_of v) p x
set_words v w p x wide within same is = (λ i. shown (same i) (is i)) ∙ changed v.limits v.words wide p x within

pub stamped_is : (a b : Words) → b ≡ a → IsStamped a b
stamped_is a b e = subst (IsStamped a) (sym e) (stamped_same a)

-- no record and no tail was drawn, and none placed
pub record SameDraws (a b : Words) : Type 0 where
  pub counter : b.counter ≡ a.counter
  pub index : b.index ≡ a.index
  pub counts : b.counts ≡ a.counts

pub same_draws : (a b : Words) → b ≡ a → SameDraws a b
same_draws a b e = record { counter = ap (λ (w : Words). w.counter) e; index = ap (λ (w : Words). w.index) e; counts = ap (λ (w : Words). w.counts) e }

pub stamped_draws : (a b : Words) → IsStamped a b → SameDraws a b
stamped_draws a b st = record { counter = ap (λ (w : Words). w.counter) st.rest; index = ap (λ (w : Words). w.index) st.rest; counts = ap (λ (w : Words). w.counts) st.rest }

-- ---- the view after a step of the session s

module _ (v w : View) (s : ℕ) (k : Known) (learns : Learns v w s k) where
  -- it is a crew's again
  pub crew_after : IsCrewView v → IsIdle k → SameDraws (words_of v) (words_of w) → IsCrewView w
  crew_after crew idle draws = record {
    whole = learns.whole ∙ crew.whole;
    idle = λ t low. dite (ℕ_discrete t s)
        (λ e. subst (λ (x : ℕ). IsIdle (knows w x)) (sym e) (subst IsIdle (sym learns.now) idle))
        (λ ne. subst IsIdle (sym (learns.others t ne)) (crew.idle t (subst (λ (l : Limits). t < l.sessions) learns.limits low)));
    records = subst (λ (l : Limits). (words_of w).counter ≤ record_count l) (sym learns.limits) (subst (λ (n : ℕ). n ≤ record_count v.limits) (sym draws.counter) crew.records);
    placed = λ r low. (λ i. is_placed (learns.limits i) (draws.index i) r) ∙ crew.placed r (subst (λ (n : ℕ). r < n) draws.counter low);
    tails = λ range low. subst (λ (l : Limits). (words_of w).counts range ≤ l.tails) (sym learns.limits)
        (subst (λ (f : ℕ → ℕ). f range ≤ v.limits.tails) (sym draws.counts) (crew.tails range (subst (λ (l : Limits). range < l.ranges) learns.limits low)));
  }

  -- the state that it tells, by the words after
  pub told_on : (b : Words) → words_of w ≡ b → store_told w ≡ told_store v.limits b (knows w)
  told_on b is = λ i. told_store (learns.limits i) (is i) (knows w)

  pub transactions_on : SameTransactions (knows v s) k → (t : ℕ) → SameTransactions (knows v t) (knows w t)
  transactions_on same t = dite (ℕ_discrete t s)
      (λ e. subst (λ (x : ℕ). SameTransactions (knows v x) (knows w x)) (sym e) (subst (SameTransactions (knows v s)) (sym learns.now) same))
      (λ ne. same_known (knows v t) (knows w t) (learns.others t ne))

  -- the same state is told where stamps alone were stored, and the session's transactions are the same
  pub told_stays : SameTransactions (knows v s) k → IsStamped (words_of v) (words_of w) → store_told w ≡ store_told v
  told_stays same stamped = told_on (words_of w) refl ∙ (stamps_tell_nothing v.limits (words_of v) (words_of w) (knows w) stamped
      ∙ transactions_are_told v.limits (words_of v) (knows v) (knows w) (λ t low. transactions_on same t))

-- ---- looks

pub away_still : (k : Stage) → rank k ≡ 0 → rank (refreshed k) ≡ 0
away_still Away e = e
away_still Taken e = absurd (omega arith)
away_still Fresh e = absurd (omega arith)
away_still Logged e = absurd (omega arith)
away_still Stated e = absurd (omega arith)
away_still Done e = absurd (omega arith)

pub watched_idle : (u k : Known) → Watches u k → IsIdle u → IsIdle k
watched_idle u k watches idle = subst IsIdle (sym watches.is) record {
  rec = idle.rec;
  hold = idle.hold;
  turn = ⊎_elim (λ (e : watches.turn ≡ u.turn). ap rank e ∙ idle.turn) (λ (e : watches.turn ≡ refreshed u.turn). ap rank e ∙ away_still u.turn idle.turn) watches.stage;
}

pub watched_transactions : (u k : Known) → Watches u k → SameTransactions u k
watched_transactions u k watches = subst (SameTransactions u) (sym watches.is) record { number = refl; begin = refl; read_only = refl; is_open = refl }

module _ (v w : View) (s : ℕ) (watched : Watched v w s) where
  pub watched_crew : IsCrewView v → s < v.limits.sessions → IsCrewView w
  watched_crew crew low = crew_after v w s (knows w s) watched.learns crew (watched_idle (knows v s) (knows w s) watched.watches (crew.idle s low)) (stamped_draws (words_of v) (words_of w) (watched.words crew.whole))

  pub watched_told : v.whole ≡ true → store_told w ≡ store_told v
  watched_told whole = told_stays v w s (knows w s) watched.learns (watched_transactions (knows v s) (knows w s) watched.watches) (watched.words whole)
