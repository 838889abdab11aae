-- A write that is tried and accepted.
use Rattle.std.proofs.Common.{◌≡◌, ℕ, ◌+◌, ◌*◌, ◌<◌, ◌≤◌, true, false, nat_le, Ok, refl, sym, subst, ap, ◌∙◌, arith}
use Rattle.std.proofs.lemmas.Bool.{lt-leb}
use mathlib.Core.Logic.{dite}
use native.Mathlib.Decide.{ℕ_discrete}
use Rattle.lst_layout.specs.declared.limits.Limits.{Limits}
use Rattle.lst_layout.specs.Functions.{put}
use Rattle.lst_layout.proofs.Functions.{each_put}
use Rattle.lst_model.specs.declared.acts.Act.{Act}
use Rattle.lst_machine.specs.Calls.{with_accepted}
use Rattle.lst_core_state.specs.declared.known.Known.{Known}
use Rattle.lst_core_state.specs.declared.events.Event.TheVariants.{Install}
use Rattle.lst_core_state.specs.Cells.{record_count, range_of}
use Rattle.lst_core_state.specs.Index.{is_placed}
use Rattle.lst_core_state.specs.Step.{known_after}
use Rattle.lst_core_state.specs.State.{Words, Core, name_of, record_in, act_in, writer_at}
use Rattle.lst_layout.specs.Words.{shown}
use Rattle.lst_rule.specs.declared.view.View.{View}
use Rattle.lst_rule.specs.Rule.{knows, hosts, Allowed}
use Rattle.lst_rule.specs.Learned.{Possible, Learns}
use Rattle.lst_rule.proofs.Knowing.{whole_words}
use Rattle.lst_rule.proofs.Learning.{learns_on}
use Rattle.lst_rule.specs.Posting.{ChangesPostings}
use Rattle.lst_write.specs.Appending.{ChangesTail, with_count}
use Rattle.lst_session.specs.Traces.{Prepared, Installs}
use Rattle.lst_refinement.specs.Crews.{IsIdle}
use Rattle.lst_refinement.specs.Effects.{SameTransactions, IsWritten}
use Rattle.lst_refinement.proofs.Openings.{transactions_are_told}
use Rattle.lst_refinement.proofs.Written.{writes_are_told}
use Rattle.lst_session.specs.Crews.{words_of, store_told}
use Rattle.lst_session.proofs.Crewed.{IsCrewView, core_of, known_is, is_crew, told_is, told_on, transactions_on}
use Rattle.lst_session.proofs.CrewJudging.{with_head, IsHeld}
use Rattle.lst_session.proofs.Holding.{SameWriter, writer_on, writer_as, held_on, held_learns, held_writer}
use Rattle.lst_session.proofs.CrewWriting.{written_rest, written, tail_here, tail_by, tail_made, tail_on, installed_words}
use Rattle.lst_session.proofs.Trying.{IsTried, full_is, fit_late}

module _ (u : View) (p : Possible u) (crew : IsCrewView u) (s rec key : ℕ) (low : s < u.limits.sessions) (is_on : (knows u s).is_open ≡ true) (inside : rec < record_count u.limits) (placed : is_placed u.limits (words_of u).index rec ≡ true) (key_is : (words_of u).keys rec ≡ key) (act : Act) (w : View) (h : Installs u w s rec key act) where
  abbrev c : Core
  c = core_of u crew p

  abbrev a : Words
  a = words_of u

  abbrev b : View
  b = h.holding.between

  abbrev e : View
  e = h.between

  abbrev n : ℕ
  n = h.number

  abbrev head : ℕ
  head = h.holding.head

  abbrev ready : Prepared h.holding.between h.between s rec h.holding.head key act h.number
  ready = h.holding.prepares

  abbrev m : View
  m = ready.between

  abbrev d : View
  d = ready.appended

  held : IsHeld u m s rec head
  held = held_on u p crew b s rec head low is_on h.holding.latches h.holding.word m ready.possible ready.judges.watched

  -- what the session knows
  learns_appended : Learns u d s (knows d s)
  learns_appended = subst (λ (k : Known). Learns u d s k) (sym ready.appends.view.now) (learns_on u m d s _ _ (held_learns u p crew b s rec head low is_on h.holding.latches h.holding.word m ready.judges.watched) ready.appends.view)

  learns_whole : Learns u e s (knows e s)
  learns_whole = subst (λ (k : Known). Learns u e s k) (sym ready.posts.view.now) (learns_on u d e s _ _ learns_appended ready.posts.view)

  same_writer : SameWriter (knows u s) (knows e s)
  same_writer = writer_on (knows u s) (knows m s) (knows e s) (held_writer u p crew b s rec head low is_on h.holding.latches h.holding.word m ready.judges.watched)
      (writer_on (knows m s) (knows d s) (knows e s)
      (writer_as (knows m s) (knows d s) _ ready.appends.view.now record { transactions = record { number = refl; begin = refl; read_only = refl; is_open = refl }; rec = refl; turn = λ away. away })
      (writer_as (knows d s) (knows e s) _ ready.posts.view.now record { transactions = record { number = refl; begin = refl; read_only = refl; is_open = refl }; rec = refl; turn = λ away. away }))

  abbrev last : Known
  last = known_after e.limits (shown e.limits h.word.told.words) (knows e s) (Install s)

  learns : Learns u w s last
  learns = learns_on u e w s (knows e s) last learns_whole h.word.view

  idle : IsIdle last
  idle = record { rec = same_writer.rec ∙ (crew.idle s low).rec; hold = refl; turn = same_writer.turn (crew.idle s low).turn }

  transactions : SameTransactions (knows u s) last
  transactions = let t = same_writer.transactions in record { number = t.number; begin = t.begin; read_only = t.read_only; is_open = t.is_open }

  -- the words
  whole : e.whole ≡ true
  whole = learns_whole.whole ∙ crew.whole

  sure : Allowed e e.words h.word.told.known h.word.told.merger
  sure = whole_words e h.word.told.words h.word.told.known h.word.told.merger h.word.told.allowed whole

  low_here : s < e.limits.sessions
  low_here = subst (λ (l : Limits). s < l.sessions) (sym learns_whole.limits) low

  hosted : hosts e s ≡ true
  hosted = sure.all whole s (let f = low_here in omega arith)

  abbrev after : Words
  after = with_head (words_of e) rec (2 * n)

  after_is : words_of w ≡ after
  after_is = installed_words e s rec head n act h.word.told.known h.word.told.merger sure hosted low_here ready.whole w whole h.word

  abbrev own : ℕ
  own = name_of s (p.known s).number

  number_is : (knows e s).number ≡ (p.known s).number
  number_is = same_writer.transactions.number ∙ ap (λ (k : Known). k.number) (known_is u crew p s low)

  next : n ≡ (words_of m).counts (range_of rec) + 1
  next = (ready.appends.words held.whole).0

  few : n ≤ u.limits.tails
  few = subst (λ (l : Limits). n ≤ l.tails) held.limits ready.appends.few

  changes : ChangesTail (with_count (words_of m) (range_of rec) n) (words_of d) (range_of rec * u.limits.tails + n)
  changes = subst (λ (l : Limits). ChangesTail (with_count (words_of m) (range_of rec) n) (words_of d) (range_of rec * l.tails + n)) held.limits (ready.appends.words held.whole).1

  posted : ChangesPostings (words_of d) (words_of e)
  posted = ready.posts.words (learns_appended.whole ∙ crew.whole)

  is_written : IsWritten u.limits a after rec n own act
  is_written = written u.limits a (words_of m) (words_of d) (words_of e) rec n own act held.stamped next changes posted
      (subst (λ (l : Limits). 0 < (words_of e).cells (range_of rec * l.tails + n) 0) learns_whole.limits (tail_here e s rec head n act h.word.told.known h.word.told.merger sure hosted low_here ready.whole))
      (subst (λ (l : Limits). writer_at (words_of e) (range_of rec * l.tails + n) ≡ own) learns_whole.limits (tail_by e s rec head n act h.word.told.known h.word.told.merger sure hosted low_here ready.whole ∙ ap (name_of s) number_is))
      (subst (λ (l : Limits). record_in l (words_of e).cells (range_of rec * l.tails + n) ≡ rec) learns_whole.limits (tail_on e s rec head n act h.word.told.known h.word.told.merger sure hosted low_here ready.whole))
      (subst (λ (l : Limits). act_in l (words_of e).cells (range_of rec * l.tails + n) ≡ act) learns_whole.limits (tail_made e s rec head n act h.word.told.known h.word.told.merger sure hosted low_here ready.whole))

  -- the state that it tells
  next_told : store_told w ≡ with_accepted (store_told u) s key act
  next_told = told_on u w s last learns after after_is
      ∙ (transactions_are_told u.limits after p.known (knows w) (λ t inside. subst (λ (k : Known). SameTransactions k (knows w t)) (known_is u crew p t inside) (transactions_on u w s last learns transactions t))
      ∙ (writes_are_told c (is_crew u crew p) s rec n act after low (ap (λ (k : Known). k.is_open) (sym (known_is u crew p s low)) ∙ is_on) inside placed few is_written
      ∙ (λ i. with_accepted (sym (told_is u crew p) i) s (key_is i) act)))

  words_are : words_of w ≡ record a { counts = put a.counts (range_of rec) n; heads = put a.heads rec (2 * n); cells = after.cells; postings = after.postings }
  words_are = after_is ∙ written_rest u.limits a (words_of m) (words_of d) (words_of e) rec n own act held.stamped next changes posted

  crew_again : IsCrewView w
  crew_again = record {
    whole = learns.whole ∙ crew.whole;
    idle = λ t inside. dite (ℕ_discrete t s)
        (λ same. subst (λ (x : ℕ). IsIdle (knows w x)) (sym same) (subst IsIdle (sym learns.now) idle))
        (λ other. subst IsIdle (sym (learns.others t other)) (crew.idle t (subst (λ (l : Limits). t < l.sessions) learns.limits inside)));
    records = subst (λ (l : Limits). (words_of w).counter ≤ record_count l) (sym learns.limits) (subst (λ (x : Words). x.counter ≤ record_count u.limits) (sym words_are) crew.records);
    placed = λ r inside. (λ i. is_placed (learns.limits i) (words_are i).index r) ∙ crew.placed r (subst (λ (x : Words). r < x.counter) words_are inside);
    tails = λ range inside. subst (λ (l : Limits). (words_of w).counts range ≤ l.tails) (sym learns.limits)
        (subst (λ (x : Words). x.counts range ≤ u.limits.tails) (sym words_are)
        (each_put (λ r (x : ℕ). r < u.limits.ranges → x ≤ u.limits.tails) a.counts (range_of rec) n (λ _. few) (λ r _. crew.tails r) range (subst (λ (l : Limits). range < l.ranges) learns.limits inside)));
  }

  -- a tail is left
  tails_left : nat_le u.limits.tails (a.counts (range_of rec)) ≡ false
  tails_left = let counts : (words_of m).counts (range_of rec) ≡ a.counts (range_of rec) = ap (λ (x : Words). x.counts (range_of rec)) held.stamped.rest in let f = next in let g = few in
      lt-leb u.limits.tails (a.counts (range_of rec)) (omega arith)

  pub accepted_tried : IsTried u w s key act (Ok tt)
  accepted_tried = record {
    crew = crew_again;
    limits = learns.limits;
    refused = fit_late u p crew s rec key low is_on inside placed key_is act b m head held false ready.judges (full_is u p crew s rec key low is_on inside placed key_is act ∙ tails_left);
    next = next_told;
  }
