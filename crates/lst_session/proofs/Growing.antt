-- What one step of a call after another leaves of what its session knows.
use Rattle.std.proofs.Common.{slice_index_or, false, ◌≡◌, ⊎_elim, ℕ, ◌<◌, ◌≤◌, List, [], ◌∷◌, ◌++◌, true, length, take, Contains, refl, sym, subst, ap, ◌∙◌, arith, append_assoc, append-nil, None}
use Rattle.std.proofs.lemmas.List.{take-append-le}
use Rattle.std.proofs.lemmas.List.Elements.{All-nil, All-append, Contains-append_left, Contains-append_right}
use Rattle.lst_model.specs.declared.commits.Commit.{Commit}
use Rattle.lst_model.specs.Histories.{Extends, all_acts_on, acts_on, row_from}
use Rattle.lst_model.proofs.Folds.{get_snapshot}
use Rattle.lst_core_state.specs.declared.known.Known.{Known}
use Rattle.lst_core_state.specs.declared.known.Stage.{Stage}
use Rattle.lst_core_state.specs.declared.pages.PageKnown.{PageKnown}
use Rattle.lst_core_state.specs.declared.known.Stage.TheVariants.{Away, Taken, Fresh, Logged, Stated, Done}
use Rattle.lst_core_state.specs.declared.facts.Fact.{Fact}
use Rattle.lst_core_state.specs.declared.facts.Find.{Find}
use Rattle.lst_core_state.specs.State.{rank, sight}
use Rattle.lst_core_state.specs.Step.{refreshed}
use Rattle.lst_rule.specs.declared.view.View.{View}
use Rattle.lst_rule.specs.Rule.{knows, hosts}
use Rattle.lst_layout.specs.declared.limits.Limits.{Limits}
use Rattle.lst_rule.specs.Learned.{Possible, Learns}
use Rattle.lst_rule.specs.PageSteps.{stock_of}
use Rattle.lst_rule.proofs.Learning.{learns_on}
use Rattle.lst_rule.specs.Seen.{HasKey}
use Rattle.lst_rule.specs.Watching.{SamePins, IsNotFull, Watched}
use Rattle.lst_rule.proofs.Watching.{same_pins}
use Rattle.lst_rule.proofs.StatusTelling.{low, is_known, is_on_known}
use Rattle.lst_index.specs.Searches.{Works}
use Rattle.lst_write.specs.Standings.{FoundSince}
use Rattle.lst_session.specs.Calls.{Called, FindsNoneFull, FindsOneFull, SameWork, row_seen}

-- ---- lists that grow

-- what was seen, the facts and the finds have more behind
pub record Grown (u k : Known) : Type 0 where
  pub seen : Extends k.seen u.seen
  pub facts : (more : List Fact) × (k.facts ≡ u.facts ++ more)
  pub finds : (more : List Find) × (k.finds ≡ u.finds ++ more)

pub grown_on : (u k m : Known) → Grown u k → Grown k m → Grown u m
grown_on u k m a b = record {
  seen = (a.seen.0 ++ b.seen.0, b.seen.1 ∙ (ap (λ (cs : List Commit). cs ++ b.seen.0) a.seen.1 ∙ append_assoc u.seen a.seen.0 b.seen.0));
  facts = (a.facts.0 ++ b.facts.0, b.facts.1 ∙ (ap (λ (fs : List Fact). fs ++ b.facts.0) a.facts.1 ∙ append_assoc u.facts a.facts.0 b.facts.0));
  finds = (a.finds.0 ++ b.finds.0, b.finds.1 ∙ (ap (λ (fs : List Find). fs ++ b.finds.0) a.finds.1 ∙ append_assoc u.finds a.finds.0 b.finds.0));
}

pub facts_stay : (u k : Known) → Grown u k → (f : Fact) → Contains u.facts f → Contains k.facts f
facts_stay u k g f h = subst (λ (fs : List Fact). Contains fs f) (sym g.facts.1) (Contains-append_left u.facts g.facts.0 f h)

pub key_stays : (u k : Known) (rec key : ℕ) → Grown u k → HasKey u.facts rec key → HasKey k.facts rec key
key_stays u k rec key g has = (has.0, facts_stay u k g _ has.1)

-- ---- steps within a transaction

-- the transaction, its own writes, the session's commits and its pin stay, nothing is done, and no turn is taken
pub record Stays (s : ℕ) (u k : Known) : Type 0 where
  pub grown : Grown u k
  pub same : SameWork s u k
  pub pins : SamePins u k
  pub done : k.done ≡ u.done
  pub turn : rank u.turn ≡ 0 → rank k.turn ≡ 0

-- what is in hand, and what was ever drawn and latched
pub record SameHands (u k : Known) : Type 0 where
  pub placing : k.placing ≡ u.placing
  pub hold : k.hold ≡ u.hold
  pub latched : k.latched ≡ u.latched

pub work_on : (s : ℕ) (u k m : Known) → SameWork s u k → SameWork s k m → SameWork s u m
work_on s u k m a b = record {
  transaction = record {
    number = b.transaction.number ∙ a.transaction.number;
    begin = b.transaction.begin ∙ a.transaction.begin;
    read_only = b.transaction.read_only ∙ a.transaction.read_only;
    is_open = b.transaction.is_open ∙ a.transaction.is_open;
  };
  own = b.own ∙ a.own;
  mine = b.mine ∙ a.mine;
}

pub pins_on : (u k m : Known) → SamePins u k → SamePins k m → SamePins u m
pins_on u k m a b = record { pins = b.pins ∙ a.pins; pin = b.pin ∙ a.pin }

abbrev pub pins_stay : (u : Known) → SamePins u u
pins_stay u = record { pins = refl; pin = refl }

pub pins_by : (u k : Known) → k.pages ≡ u.pages → SamePins u k
pins_by u k e = record { pins = ap (λ (p : PageKnown). p.pins) e; pin = ap (λ (p : PageKnown). p.session.pin) e }

pub stays_on : (s : ℕ) (u k m : Known) → Stays s u k → Stays s k m → Stays s u m
stays_on s u k m a b = record {
  grown = grown_on u k m a.grown b.grown;
  same = work_on s u k m a.same b.same;
  pins = pins_on u k m a.pins b.pins;
  done = b.done ∙ a.done;
  turn = λ e. b.turn (a.turn e);
}

-- ---- of views

pub learns_itself : (v w : View) (s : ℕ) (k : Known) → Learns v w s k → Learns v w s (knows w s)
learns_itself v w s k l = record {
  now = refl;
  others = l.others;
  hosted = l.hosted;
  limits = l.limits;
  note = l.note;
  note_facts = l.note_facts;
  whole = l.whole;
}

pub called : (v w : View) (s : ℕ) (k : Known) → Learns v w s k → Grown (knows v s) (knows w s) → Called v w s
called v w s k l g = record { learns = learns_itself v w s k l; seen = g.seen; facts = facts_stay (knows v s) (knows w s) g; finds = g.finds }

-- of the sessions only s learnt something, within its transaction
pub record Steps (v w : View) (s : ℕ) : Type 0 where
  pub learns : Learns v w s (knows w s)
  pub stays : Stays s (knows v s) (knows w s)

pub steps_on : (u v w : View) (s : ℕ) → Steps u v s → Steps v w s → Steps u w s
steps_on u v w s a b = record { learns = learns_on u v w s (knows v s) (knows w s) a.learns b.learns; stays = stays_on s (knows u s) (knows v s) (knows w s) a.stays b.stays }

pub steps_by : (v w : View) (s : ℕ) (k : Known) → Learns v w s k → Stays s (knows v s) k → Steps v w s
steps_by v w s k l stays = record { learns = learns_itself v w s k l; stays = subst (Stays s (knows v s)) (sym l.now) stays }

pub steps_called : (v w : View) (s : ℕ) → Steps v w s → Called v w s
steps_called v w s steps = called v w s (knows w s) steps.learns steps.stays.grown

abbrev pub same_extends : (cs : List Commit) → Extends cs cs
same_extends cs = ([], sym (append-nil cs))

abbrev pub same_facts : (fs : List Fact) → (more : List Fact) × (fs ≡ fs ++ more)
same_facts fs = ([], sym (append-nil fs))

abbrev pub same_finds : (fs : List Find) → (more : List Find) × (fs ≡ fs ++ more)
same_finds fs = ([], sym (append-nil fs))

-- ---- the merger

-- where a session learnt something, the merger is hosted still, and its stock is the same
module _ (v w : View) (s : ℕ) (k : Known) (learns : Learns v w s k) where
  pub merger_hosted : hosts v v.limits.sessions ≡ true → hosts w w.limits.sessions ≡ true
  merger_hosted hosted = (λ i. slice_index_or (learns.hosted i) (learns.limits i).sessions false) ∙ hosted

  pub stock_stays : s < v.limits.sessions → stock_of w ≡ stock_of v
  stock_stays low = ap (λ (l : Limits). (knows w l.sessions).pages.stock) learns.limits ∙ ap (λ (m : Known). m.pages.stock) (learns.others v.limits.sessions (λ e. omega arith))

-- ---- the steps of the index, and looks

pub works_steps : (v w : View) (s : ℕ) (finds : List Find) → Works v w s finds → Steps v w s
works_steps v w s finds works = steps_by v w s _ works.view record {
  grown = record { seen = same_extends (knows v s).seen; facts = (works.more, refl); finds = (finds, refl) };
  same = record { transaction = record { number = refl; begin = refl; read_only = refl; is_open = refl }; own = refl; mine = refl };
  pins = record { pins = refl; pin = refl };
  done = refl;
  turn = λ e. e;
}

pub works_hold : (v w : View) (s : ℕ) (finds : List Find) → Works v w s finds → (knows w s).hold ≡ (knows v s).hold
works_hold v w s finds works = ap (λ (k : Known). k.hold) works.view.now

pub works_latched : (v w : View) (s : ℕ) (finds : List Find) → Works v w s finds → (knows w s).latched ≡ (knows v s).latched
works_latched v w s finds works = ap (λ (k : Known). k.latched) works.view.now

-- a load of the clock takes no turn
pub away_stays : (k : Stage) → rank k ≡ 0 → rank (refreshed k) ≡ 0
away_stays Away e = refl
away_stays Taken e = absurd (omega arith)
away_stays Fresh e = e
away_stays Logged e = e
away_stays Stated e = e
away_stays Done e = e

module _ (v w : View) (s : ℕ) (watched : Watched v w s) where
  pub watched_hands : SameHands (knows v s) (knows w s)
  watched_hands = let e = watched.watches.is in record { placing = ap (λ (k : Known). k.placing) e; hold = ap (λ (k : Known). k.hold) e; latched = ap (λ (k : Known). k.latched) e }

  pub watched_pins : SamePins (knows v s) (knows w s)
  watched_pins = same_pins (knows v s) (knows w s) watched.watches

  pub watched_steps : s < v.limits.sessions → Steps v w s
  watched_steps own = let e = watched.watches.is in record {
    learns = watched.learns;
    stays = record {
      grown = record { seen = (watched.watches.later, ap (λ (k : Known). k.seen) e); facts = (watched.watches.facts, ap (λ (k : Known). k.facts) e); finds = (watched.watches.finds, ap (λ (k : Known). k.finds) e) };
      same = record {
        transaction = record { number = ap (λ (k : Known). k.number) e; begin = ap (λ (k : Known). k.begin) e; read_only = ap (λ (k : Known). k.read_only) e; is_open = ap (λ (k : Known). k.is_open) e };
        own = ap (λ (k : Known). k.own) e;
        mine = watched.own own;
      };
      pins = watched_pins;
      done = ap (λ (k : Known). k.done) e;
      turn = λ away. ap (λ (k : Known). rank k.turn) e ∙ ⊎_elim (λ (f : watched.watches.turn ≡ (knows v s).turn). ap rank f ∙ away) (λ (f : watched.watches.turn ≡ refreshed (knows v s).turn). ap rank f ∙ away_stays (knows v s).turn away) watched.watches.stage;
    };
  }

-- ---- what was found

pub found_on : (u v w : View) (s : ℕ) (f : Find) → Grown (knows u s) (knows v s) → FoundSince v w s f → FoundSince u w s f
found_on u v w s f g x = record {
  more = g.finds.0 ++ x.more;
  grows = x.grows ∙ (ap (λ (fs : List Find). fs ++ x.more) g.finds.1 ∙ append_assoc (knows u s).finds g.finds.0 x.more);
  here = Contains-append_right g.finds.0 x.more f x.here;
}

pub found_then : (u v w : View) (s : ℕ) (f : Find) → FoundSince u v s f → Grown (knows v s) (knows w s) → FoundSince u w s f
found_then u v w s f x g = record {
  more = x.more ++ g.finds.0;
  grows = g.finds.1 ∙ (ap (λ (fs : List Find). fs ++ g.finds.0) x.grows ∙ append_assoc (knows u s).finds x.more g.finds.0);
  here = Contains-append_left x.more g.finds.0 f x.here;
}

-- ---- counters that were found full

pub none_full_still : (v w : View) (s : ℕ) → (knows w s).finds ≡ (knows v s).finds → FindsNoneFull v w s
none_full_still v w s e = record { more = []; grows = e ∙ (same_finds (knows v s).finds).1; room = All-nil IsNotFull }

pub none_full_on : (u v w : View) (s : ℕ) → FindsNoneFull u v s → FindsNoneFull v w s → FindsNoneFull u w s
none_full_on u v w s a b = record {
  more = a.more ++ b.more;
  grows = b.grows ∙ (ap (λ (fs : List Find). fs ++ b.more) a.grows ∙ append_assoc (knows u s).finds a.more b.more);
  room = All-append IsNotFull a.more b.more a.room b.room;
}

pub none_full_then : (u v w : View) (s : ℕ) → FindsNoneFull u v s → (knows w s).finds ≡ (knows v s).finds → FindsNoneFull u w s
none_full_then u v w s a e = record { more = a.more; grows = e ∙ a.grows; room = a.room }

pub one_full_on : (u v w : View) (s : ℕ) (f : Find) → FindsNoneFull u v s → FindsOneFull v w s f → FindsOneFull u w s f
one_full_on u v w s f a b = record {
  before = a.more ++ b.before;
  grows = b.grows ∙ (ap (λ (fs : List Find). fs ++ (b.before ++ f ∷ [])) a.grows
      ∙ (append_assoc (knows u s).finds a.more (b.before ++ f ∷ []) ∙ ap (λ (fs : List Find). (knows u s).finds ++ fs) (sym (append_assoc a.more b.before (f ∷ [])))));
  room = All-append IsNotFull a.more b.before a.room b.room;
}

pub one_full_then : (u v w : View) (s : ℕ) (f : Find) → FindsOneFull u v s f → (knows w s).finds ≡ (knows v s).finds → FindsOneFull u w s f
one_full_then u v w s f a e = record { before = a.before; grows = e ∙ a.grows; room = a.room }

pub works_room : (v w : View) (s : ℕ) → Works v w s [] → FindsNoneFull v w s
works_room v w s works = record { more = []; grows = ap (λ (k : Known). k.finds) works.view.now; room = All-nil IsNotFull }

pub watched_room : (v w : View) (s : ℕ) → Watched v w s → FindsNoneFull v w s
watched_room v w s watched = record { more = watched.watches.finds; grows = ap (λ (k : Known). k.finds) watched.watches.is; room = watched.watches.room }

-- ---- what is seen of a key

-- a transaction began by what its session has seen
pub begun_early : (v : View) (s : ℕ) → Possible v → hosts v s ≡ true → (knows v s).is_open ≡ true → (knows v s).begin ≤ length (knows v s).seen
begun_early v s p hosted is_on = let a = p.allowed in subst (λ (u : Known). u.begin ≤ length u.seen) (sym (is_known v p.words p.known p.merger a s hosted is_on))
    ((a.sound.views s (low v p.words p.known p.merger a s hosted is_on)).begun (is_on_known v p.words p.known p.merger a s hosted is_on))

pub front_stays : (s : ℕ) (u k : Known) → u.begin ≤ length u.seen → Stays s u k → take k.begin k.seen ≡ take u.begin u.seen
front_stays s u k early st = (λ i. take (st.same.transaction.begin i) (st.grown.seen.1 i)) ∙ take-append-le u.begin u.seen st.grown.seen.0 early

pub sight_stays : (s : ℕ) (u k : Known) (key : ℕ) → u.begin ≤ length u.seen → Stays s u k → sight k key ≡ sight u key
sight_stays s u k key early st = λ i. all_acts_on key (front_stays s u k early st i) ++ acts_on key (st.same.own i)

pub seen_row : (k : Known) (key : ℕ) → row_seen k key ≡ row_from None (sight k key)
seen_row k key = get_snapshot k.seen k.begin k.own key

pub row_stays : (s : ℕ) (u k : Known) (key : ℕ) → u.begin ≤ length u.seen → Stays s u k → row_seen k key ≡ row_from None (sight u key)
row_stays s u k key early st = seen_row k key ∙ ap (row_from None) (sight_stays s u k key early st)
