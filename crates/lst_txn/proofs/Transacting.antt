-- What the steps of a transaction come to.
use Rattle.std.proofs.Common.{◌≡◌, ◌⊎◌, ⊎_elim, ℕ, ◌+◌, ◌*◌, ◌<◌, ◌≤◌, List, [], ◌∷◌, ◌++◌, Bool, true, false, length, refl, sym, ap, ◌∙◌, arith, slice_set}
use Rattle.lst_layout.specs.declared.place.Place.TheVariants.{ClockWord, CommitWord, LogWord, BeginWord, StateWord}
use Rattle.lst_layout.specs.Addresses.{address}
use Rattle.lst_model.specs.declared.commits.Commit.{Commit}
use Rattle.lst_core_state.specs.Writes.{commit}
use Rattle.lst_core_state.specs.declared.events.Event.TheVariants.{Begin, Log, State, Clock, Give}
use Rattle.lst_core_state.specs.declared.known.Known.{Known}
use Rattle.lst_core_state.specs.declared.known.Stage.{Stage}
use Rattle.lst_core_state.specs.declared.known.Stage.TheVariants.{Away, Taken, Fresh, Logged, Stated, Done}
use Rattle.lst_core_state.specs.State.{rank, mine}
use Rattle.lst_core_state.specs.Step.{refreshed}
use Rattle.lst_core_state.proofs.Histories.{commits_of-own}
use Rattle.lst_rule.specs.declared.view.View.{View}
use Rattle.lst_rule.specs.Rule.{knows}
use Rattle.lst_rule.specs.Learned.{Learns, Made}
use Rattle.lst_rule.proofs.Learning.{learns_then}
use Rattle.lst_rule.specs.Stores.{clocked, Clocked}
use Rattle.lst_txn.specs.Transactions.{HoldsTurn, Sees, Opens, committed_words, Commits}

pub sees : (v u : View) (s x : ℕ) → Clocked v u s x → s < v.limits.sessions → Sees v u s x
sees v u s x c low = record { load = c; own = c.own low }

pub opens : (v u w : View) (s x b : ℕ) (r : Bool) → Clocked v u s x → s < v.limits.sessions → b ≤ x → Learns u w s (record (knows u s) { number = (knows u s).number + 1; begin = b; read_only = r; is_open = true; own = [] })
    → Made u w (Begin s b r) (BeginWord s ((knows u s).number + 1)) (b + 1) → Opens v w s x b r
opens v u w s x b r c low early h made = record {
  between = u;
  load = c;
  early = early;
  view = view;
  own = ap (mine s) view.now ∙ (sym (ap (mine s) c.view.now) ∙ c.own low);
  words = λ whole. made.words ∙ (λ i. slice_set (c.looked.kept.words whole i) (address (c.view.limits i) (BeginWord s ((c.view.now i).number + 1))) (b + 1));
}
  where
    view : Learns v w s (record (clocked (knows v s) c.all c.index) { number = (knows v s).number + 1; begin = b; read_only = r; is_open = true; own = [] })
    view = learns_then v u w s (clocked (knows v s) c.all c.index) (λ k. record k { number = k.number + 1; begin = b; read_only = r; is_open = true; own = [] }) c.view h

-- the turn after a load of the clock
fresh : (k : Stage) → (rank k ≡ 1) ⊎ (rank k ≡ 2) → rank (refreshed k) ≡ 2
fresh Away h = absurd (⊎_elim (λ e. omega arith) (λ e. omega arith) h)
fresh Taken h = refl
fresh Fresh h = refl
fresh Logged h = absurd (⊎_elim (λ e. omega arith) (λ e. omega arith) h)
fresh Stated h = absurd (⊎_elim (λ e. omega arith) (λ e. omega arith) h)
fresh Done h = absurd (⊎_elim (λ e. omega arith) (λ e. omega arith) h)

pub is_fresh : (v u : View) (s x : ℕ) → Clocked v u s x → HoldsTurn (knows v s) → rank (knows u s).turn ≡ 2
is_fresh v u s x c turn = ap (λ (k : Known). rank k.turn) c.view.now ∙ fresh (knows v s).turn turn

-- the four stores of a commit, a, b, d and w being the views after each
pub record Stores (u a b d w : View) (s : ℕ) : Type 0 where
  pub logs : Learns u a s (record (knows u s) { turn = Logged })
  pub logged : Made u a (Log s) (LogWord (length (knows u s).seen + 1)) (16 * (knows u s).number + s)
  pub states : Learns a b s (record (knows a s) { turn = Stated })
  pub stated : Made a b (State s) (StateWord s (knows a s).number) (length (knows a s).seen + 2)
  pub clocks : Learns b d s (let k = knows b s in record k { is_open = false; turn = Done; own = []; seen = k.seen ++ commit s k.number k.begin k.own ∷ [] })
  pub clocked : Made b d (Clock s) ClockWord (length (knows b s).seen + 1)
  pub gives : Learns d w s (record (knows d s) { turn = Away })
  pub given : Made d w (Give s) CommitWord 0

module _ (v u a b d w : View) (s x : ℕ) (c : Clocked v u s x) (stores : Stores u a b d w s) where
  abbrev k : Known
  k = knows v s

  known_a : Learns v a s (record (clocked k c.all c.index) { turn = Logged })
  known_a = learns_then v u a s _ (λ (m : Known). record m { turn = Logged }) c.view stores.logs

  known_b : Learns v b s (record (clocked k c.all c.index) { turn = Stated })
  known_b = learns_then v a b s _ (λ (m : Known). record m { turn = Stated }) known_a stores.states

  known_d : Learns v d s (record (clocked k c.all c.index) { is_open = false; turn = Done; own = []; seen = c.all ++ commit s k.number k.begin k.own ∷ [] })
  known_d = learns_then v b d s _ (λ (m : Known). record m { is_open = false; turn = Done; own = []; seen = m.seen ++ commit s m.number m.begin m.own ∷ [] }) known_b stores.clocks

  pub commits_view : Learns v w s (record (clocked k c.all c.index) { is_open = false; own = []; turn = Away; seen = c.all ++ commit s k.number k.begin k.own ∷ [] })
  commits_view = learns_then v d w s _ (λ (m : Known). record m { turn = Away }) known_d stores.gives

  -- what each store leaves
  stored_a : v.whole ≡ true → a.words ≡ slice_set v.words (address v.limits (LogWord (x + 1))) (16 * k.number + s)
  stored_a whole = stores.logged.words ∙ ((λ i. slice_set (c.looked.kept.words whole i) (address (c.view.limits i) (LogWord (length (c.view.now i).seen + 1))) (16 * (c.view.now i).number + s))
      ∙ ap (λ (n : ℕ). slice_set v.words (address v.limits (LogWord (n + 1))) (16 * k.number + s)) c.clock)

  stored_b : b.words ≡ slice_set a.words (address v.limits (StateWord s k.number)) (x + 1 + 1)
  stored_b = stores.stated.words ∙ ((λ i. slice_set a.words (address (known_a.limits i) (StateWord s (known_a.now i).number)) (length (known_a.now i).seen + 2))
      ∙ ap (λ (n : ℕ). slice_set a.words (address v.limits (StateWord s k.number)) n) (let e = c.clock in omega arith))

  stored_d : d.words ≡ slice_set b.words (address v.limits ClockWord) (x + 1)
  stored_d = stores.clocked.words ∙ ((λ i. slice_set b.words (address (known_b.limits i) ClockWord) (length (known_b.now i).seen + 1))
      ∙ ap (λ (n : ℕ). slice_set b.words (address v.limits ClockWord) (n + 1)) c.clock)

  stored_w : w.words ≡ slice_set d.words (address v.limits CommitWord) 0
  stored_w = stores.given.words ∙ (λ i. slice_set d.words (address (known_d.limits i) CommitWord) 0)

  pub commits_words : v.whole ≡ true → w.words ≡ committed_words v.limits v.words s k.number (x + 1)
  commits_words whole = stored_w ∙ ap (λ (ws : List ℕ). slice_set ws (address v.limits CommitWord) 0)
      (stored_d ∙ ap (λ (ws : List ℕ). slice_set ws (address v.limits ClockWord) (x + 1))
      (stored_b ∙ ap (λ (ws : List ℕ). slice_set ws (address v.limits (StateWord s k.number)) (x + 1 + 1)) (stored_a whole)))

pub commits : (v u a b d w : View) (s x : ℕ) → Clocked v u s x → s < v.limits.sessions → Stores u a b d w s → Commits v w s (x + 1)
commits v u a b d w s x c low stores = record {
  clock = x;
  between = u;
  load = c;
  time = refl;
  above = (let h = c.least in omega arith);
  view = view;
  own = ap (mine s) view.now ∙ (commits_of-own s c.all one refl ∙ ap (λ (cs : List Commit). cs ++ one ∷ []) (sym (ap (mine s) c.view.now) ∙ c.own low));
  words = commits_words v u a b d w s x c stores;
}
  where
    k : Known
    k = knows v s

    one : Commit
    one = commit s k.number k.begin k.own

    view : Learns v w s (record (clocked k c.all c.index) { is_open = false; own = []; turn = Away; seen = c.all ++ one ∷ [] })
    view = commits_view v u a b d w s x c stores
