-- A transaction with writes is committed.
use Rattle.std.proofs.Common.{◌≡◌, ℕ, ◌+◌, ◌*◌, ◌<◌, List, [], ◌∷◌, ◌++◌, true, false, length, refl, sym, subst, ap, ◌∙◌, arith, set, slice_set, length-set}
use Rattle.std.specs.Prelude.{Ok}
use Rattle.lst_layout.specs.declared.limits.Limits.{Limits}
use Rattle.lst_layout.specs.declared.place.Place.TheVariants.{ClockWord, CommitWord, LogWord, StateWord}
use Rattle.lst_layout.specs.Addresses.{IsWithin, address}
use Rattle.lst_layout.specs.Areas as areas
use Rattle.lst_layout.specs.Functions.{put, put_in}
use Rattle.lst_layout.specs.Words.{Words, shown, with_word}
use Rattle.lst_layout.proofs.Shown.{changed}
use Rattle.lst_model.specs.declared.acts.Write.{Write}
use Rattle.lst_model.specs.declared.replies.Reply.{Reply}
use Rattle.lst_model.specs.declared.replies.Reply.TheVariants.{Committed as CommittedReply, Ended as EndedReply}
use Rattle.lst_model.specs.declared.lines.Call.TheVariants.{Commit}
use Rattle.lst_machine.specs.State.{Opened, Store}
use Rattle.lst_machine.specs.Writes.{own_writes}
use Rattle.lst_machine.specs.Calls.{in_open, end_reply, with_closed, with_commit, after_commit}
use Rattle.lst_core_state.specs.declared.known.Known.{Known}
use Rattle.lst_core_state.specs.declared.known.Stage.TheVariants.{Away}
use Rattle.lst_core_state.specs.Step.{took}
use Rattle.lst_core_state.proofs.Room.{room}
use Rattle.lst_core_state.specs.Writes.{commit}
use Rattle.lst_rule.specs.declared.view.View.{View}
use Rattle.lst_rule.specs.Rule.{knows}
use Rattle.lst_rule.specs.Learned.{Possible, Learns}
use Rattle.lst_rule.proofs.Learning.{learns_then}
use Rattle.lst_rule.specs.Stores.{clocked}
use Rattle.lst_txn.specs.Transactions as txn
use Rattle.lst_retire.specs.Pins.{Unpins}
use Rattle.lst_session.specs.Traces.{TakesAndCommits, Ends}
use Rattle.lst_session.specs.declared.kinds.Outcome.{Outcome}
use Rattle.lst_session.specs.declared.kinds.Outcome.TheVariants.{Committed, Ended}
use Rattle.lst_refinement.specs.Effects.{HasEnded, committed_words}
use Rattle.lst_refinement.proofs.Counts.{counts_are_told}
use Rattle.lst_refinement.proofs.Owns.{own_writes_are_told}
use Rattle.lst_refinement.proofs.Ended.{commits_are_told}
use Rattle.lst_session.specs.Crews.{words_of, store_told}
use Rattle.lst_session.specs.Replies.{commit_reply}
use Rattle.lst_session.proofs.Crewed.{IsCrewView, StoreAnswers, allowed_whole, core_of, known_is, is_crew, told_is, others_on, opened_some, same_draws, crew_after, told_on}
use Rattle.lst_session.proofs.Ending.{closed_crew, closed_told}
use Rattle.lst_session.proofs.Pinning.{unpinned_crew, unpinned_told, answers_to}

-- ---- the words

-- the turn is taken and given back, and between the log word, the state word and the clock are stored
shown_committed : (l : Limits) (a : List ℕ) (x s n t : ℕ) → length a ≡ areas.words_of l → IsWithin l (LogWord t) → IsWithin l (StateWord s n)
    → shown l (txn.committed_words l (set a (address l CommitWord) x) s n t) ≡ record (shown l a) { clock = t; turn = 0; log = put (shown l a).log t (16 * n + s); states = put_in (shown l a).states s n (t + 1) }
shown_committed l a x s n t wide log state = changed l e wide_e CommitWord 0 tt ∙ ap (λ (w : Words). with_word w CommitWord 0)
    (changed l d wide_d ClockWord t tt ∙ ap (λ (w : Words). with_word w ClockWord t)
    (changed l c wide_c (StateWord s n) (t + 1) state ∙ ap (λ (w : Words). with_word w (StateWord s n) (t + 1))
    (changed l b wide_b (LogWord t) (16 * n + s) log ∙ ap (λ (w : Words). with_word w (LogWord t) (16 * n + s)) (changed l a wide CommitWord x tt))))
  where
    b : List ℕ
    b = set a (address l CommitWord) x

    c : List ℕ
    c = set b (address l (LogWord t)) (16 * n + s)

    d : List ℕ
    d = set c (address l (StateWord s n)) (t + 1)

    e : List ℕ
    e = set d (address l ClockWord) t

    wide_b : length b ≡ areas.words_of l
    wide_b = length-set a (address l CommitWord) x ∙ wide

    wide_c : length c ≡ areas.words_of l
    wide_c = length-set b (address l (LogWord t)) (16 * n + s) ∙ wide_b

    wide_d : length d ≡ areas.words_of l
    wide_d = length-set c (address l (StateWord s n)) (t + 1) ∙ wide_c

    wide_e : length e ≡ areas.words_of l
    wide_e = length-set d (address l ClockWord) t ∙ wide_d

-- ---- the turn is taken and spent

pub record Spends (v w : View) (s time : ℕ) : Type 0 where
  pub between : View
  pub takes : Learns v between s (took (knows v s))
  pub words : between.words ≡ slice_set v.words (address v.limits CommitWord) (s + 1)
  pub commits : txn.Commits between w s time

-- ---- the machine

end_some : (store : Store) (o : Opened) (writes : List Write) → 0 < length writes → end_reply store o writes ≡ CommittedReply (length store.history + 1)
end_some store o [] some = absurd (omega arith)
end_some store o (w ∷ ws) some = refl

end_none : (store : Store) (o : Opened) (writes : List Write) → length writes ≡ 0 → end_reply store o writes ≡ EndedReply o.begin
end_none store o [] none = refl
end_none store o (w ∷ ws) none = absurd (omega arith)

with_none : (store : Store) (s : ℕ) (o : Opened) (writes : List Write) → length writes ≡ 0 → with_commit store s o writes ≡ with_closed store s
with_none store s o [] none = refl
with_none store s o (w ∷ ws) none = absurd (omega arith)

module _ (v w : View) (s : ℕ) (crew : IsCrewView v) (p : Possible v) (low : s < v.limits.sessions) (opened : (knows v s).is_open ≡ true) where
  known : knows v s ≡ p.known s
  known = known_is v crew p s low

  opened_core : (p.known s).is_open ≡ true
  opened_core = ap (λ (k : Known). k.is_open) (sym known) ∙ opened

  abbrev pub opening : Opened
  opening = record { begin = (knows v s).begin; read_only = (knows v s).read_only }

  own_is : own_writes v.limits (store_told v) s ≡ (knows v s).own
  own_is = (λ i. own_writes v.limits (told_is v crew p i) s) ∙ (own_writes_are_told (core_of v crew p) (is_crew v crew p) s low opened_core ∙ ap (λ (k : Known). k.own) (sym known))

  -- what the machine answers, and its next state, by what the transaction wrote
  answers_end : (answer : Reply) → answer ≡ end_reply (store_told v) opening (knows v s).own → store_told w ≡ with_commit (store_told v) s opening (knows v s).own → w.limits ≡ v.limits → StoreAnswers v w s Commit answer
  answers_end answer is next same = let is_opened = opened_some v s low opened in record {
    reply = is ∙ ((λ i. end_reply (store_told v) opening (sym own_is i)) ∙ (λ i. in_open (sym is_opened i) (λ (o : Opened). end_reply (store_told v) o (own_writes v.limits (store_told v) s))));
    next = next ∙ ((λ i. with_commit (store_told v) s opening (sym own_is i)) ∙ (λ i. after_commit v.limits (store_told v) s (sym is_opened i)));
    limits = same;
  }

  module _ (t : ℕ) (some : 0 < length (knows v s).own) (trace : Spends v w s t) where
    abbrev n : ℕ
    n = (knows v s).number

    taken_clock : (words_of trace.between).clock ≡ (words_of v).clock
    taken_clock = ap (λ (x : Words). x.clock) ((λ i. shown (trace.takes.limits i) (trace.words i)) ∙ changed v.limits v.words (allowed_whole v crew p).wide CommitWord (s + 1) tt)

    -- the time is the one above the clock
    time_is : t ≡ (words_of v).clock + 1
    time_is = let c = trace.commits in let u = trace.between in let told = c.load.looked.met.made.told in
        let found : (shown u.limits told.words).clock ≡ c.clock = c.load.looked.met.found in
        let same : (words_of u).clock ≡ (shown u.limits told.words).clock = ap (λ (ws : List ℕ). (shown u.limits ws).clock) (told.allowed.whole (trace.takes.whole ∙ crew.whole)) in
        let before = taken_clock in let time = c.time in omega arith

    within_state : IsWithin v.limits (StateWord s n)
    within_state = let runs = (allowed_whole v crew p).sound.each s low in let number : n ≡ (p.known s).number = ap (λ (k : Known). k.number) known in
        let a = runs.open_number opened_core in let b = runs.few in (low, omega arith, omega arith)

    within_log : IsWithin v.limits (LogWord t)
    within_log = let away = (crew.idle s low).turn in let turn = (is_crew v crew p).idle s low in let time = time_is in
        let h = room (core_of v crew p) (allowed_whole v crew p).sound s low opened_core (λ e. let z = turn.turn in absurd (omega arith)) in (omega arith, omega arith)

    learns : Learns v w s (let k = took (knows v s) in record (clocked k trace.commits.load.all trace.commits.load.index) { is_open = false; own = []; turn = Away; seen = trace.commits.load.all ++ commit s k.number k.begin k.own ∷ [] })
    learns = let c = trace.commits in learns_then v trace.between w s (took (knows v s)) (λ (k : Known). record (clocked k c.load.all c.load.index) { is_open = false; own = []; turn = Away; seen = c.load.all ++ commit s k.number k.begin k.own ∷ [] }) trace.takes c.view

    words : words_of w ≡ committed_words (words_of v) s n
    words = let c = trace.commits in let stored = c.words (trace.takes.whole ∙ crew.whole) in let same = trace.takes in
        (λ i. shown (learns.limits i) (stored i)) ∙ ((λ i. shown v.limits (txn.committed_words (same.limits i) (trace.words i) s (same.now i).number t))
        ∙ (shown_committed v.limits v.words (s + 1) s n t (allowed_whole v crew p).wide within_log within_state
        ∙ (λ i. record (words_of v) { clock = time_is i; turn = 0; log = put (words_of v).log (time_is i) (16 * n + s); states = put_in (words_of v).states s n (next_time i) })))
      where
        next_time : t + 1 ≡ (words_of v).clock + 2
        next_time = let e = time_is in omega arith

    pub commit_crew : IsCrewView w
    commit_crew = let i = crew.idle s low in crew_after v w s _ learns crew (record { rec = i.rec; hold = i.hold; turn = refl })
        (let e = same_draws (committed_words (words_of v) s n) (words_of w) words in record { counter = e.counter; index = e.index; counts = e.counts })

    ended : HasEnded (p.known s) (knows w s)
    ended = record { number = ap (λ (k : Known). k.number) learns.now ∙ ap (λ (k : Known). k.number) known; is_open = ap (λ (k : Known). k.is_open) learns.now }

    pub commit_told : store_told w ≡ with_commit (store_told v) s opening (knows v s).own
    commit_told = told_on v w s _ learns (committed_words (words_of v) s (p.known s).number) (words ∙ ap (λ (k : Known). committed_words (words_of v) s k.number) known)
        ∙ (commits_are_told (core_of v crew p) (is_crew v crew p) s (knows w) low opened_core (subst (λ (k : Known). 0 < length k.own) known some) (others_on v crew p w s _ learns) ended
        ∙ sym (λ i. with_commit (told_is v crew p i) s (record { begin = (known i).begin; read_only = (known i).read_only }) (known i).own))

    history_is : length (store_told v).history ≡ (words_of v).clock
    history_is = ap (λ (store : Store). length store.history) (told_is v crew p) ∙ (counts_are_told (core_of v crew p) (is_crew v crew p)).clock

    pub commit_answers : StoreAnswers v w s Commit (CommittedReply t)
    commit_answers = answers_end (CommittedReply t) (ap CommittedReply (let e = history_is in let f = time_is in let g : t ≡ length (store_told v).history + 1 = omega arith in g) ∙ sym (end_some (store_told v) opening (knows v s).own some)) commit_told learns.limits

-- ---- with the pin taken away

module _ (v w : View) (s : ℕ) (crew : IsCrewView v) (p : Possible v) (low : s < v.limits.sessions) (is_on : (knows v s).is_open ≡ true) where
  -- from the view u on
  module _ (u : View) (answer : Reply) (same : u.limits ≡ v.limits) (unpins : Unpins u w s) where
    few : s < u.limits.sessions
    few = subst (λ (l : Limits). s < l.sessions) (sym same) low

    then_unpinned : IsCrewView u → StoreAnswers v u s Commit answer → IsCrewView w × StoreAnswers v w s Commit answer
    then_unpinned again a = (unpinned_crew u w s again few unpins, answers_to v u w s Commit answer unpins.view.limits (unpinned_told u w s again few unpins) a)

  spends : (t : ℕ) (trace : TakesAndCommits v w s t) → Spends v trace.committed s t
  spends t trace = record { between = trace.between; takes = trace.takes; words = trace.words; commits = trace.commits }

  pub end_answers : (outcome : Outcome) → Ends v w s outcome → IsCrewView w × StoreAnswers v w s Commit (commit_reply (Ok outcome))
  end_answers (Committed t) e = let x = e.1 in let u : View = x.committed in let a = commit_answers v u s crew p low is_on t e.0 (spends t x) in
      then_unpinned u (CommittedReply t) a.limits x.unpins (commit_crew v u s crew p low is_on t e.0 (spends t x)) a
  end_answers (Ended t) e = let c = e.2 in let u : View = c.between in then_unpinned u (EndedReply t) c.view.limits c.unpins
      (closed_crew v u s crew p low is_on c.view c.words)
      (answers_end v u s crew p low is_on (EndedReply t) (ap EndedReply e.1 ∙ sym (end_none (store_told v) (opening v u s crew p low is_on) (knows v s).own e.0))
      (closed_told v u s crew p low is_on c.view c.words ∙ sym (with_none (store_told v) s (opening v u s crew p low is_on) (knows v s).own e.0)) c.view.limits)
