-- The words once a tail is on its record's chain.
use Rattle.std.proofs.Common.{◌≡◌, ◌≢◌, ℕ, ◌+◌, ◌-◌, ◌*◌, ◌/◌, ◌<◌, true, eqb, sym, subst, ap, ◌∙◌, arith}
use mathlib.Core.Logic.{dite}
use native.Mathlib.Decide.{ℕ_discrete}
use Rattle.lst_layout.specs.declared.limits.Limits.{Limits}
use Rattle.lst_layout.specs.declared.place.Place.TheVariants.{HeadWord}
use Rattle.lst_layout.specs.Functions.{put}
use Rattle.lst_layout.proofs.Functions.{put_here, put_else}
use Rattle.lst_model.specs.declared.acts.Act.{Act}
use Rattle.lst_core_state.specs.declared.known.Known.{Known}
use Rattle.lst_core_state.specs.declared.known.Hold.{Hold}
use Rattle.lst_core_state.specs.declared.facts.Fact.TheVariants.{CellIs}
use Rattle.lst_core_state.specs.declared.events.Event.TheVariants.{Install}
use Rattle.lst_core_state.specs.Cells.{range_of, act_of, listed}
use Rattle.lst_core_state.specs.Step.{number_in}
use Rattle.lst_core_state.specs.State.{Words, writer, writer_at, record_in, act_in, name_of}
use Rattle.lst_rule.specs.declared.view.View.{View}
use Rattle.lst_rule.specs.Rule.{knows, hosts, Allowed}
use Rattle.lst_rule.specs.Learned.{Made}
use Rattle.lst_rule.proofs.Knowing.{is_fact, knows_own}
use Rattle.lst_rule.specs.Watching.{IsStamped}
use Rattle.lst_rule.proofs.Stamps.{made_words}
use Rattle.lst_rule.specs.Posting.{ChangesPostings}
use Rattle.lst_write.specs.Appending.{tail_of, HasWhole, ChangesTail, with_count}
use Rattle.lst_refinement.specs.Effects.{TellAlike, IsWritten}
use Rattle.lst_session.specs.Crews.{words_of}
use Rattle.lst_session.proofs.CrewJudging.{with_head, with_latch}

-- indirection words and postings tell nothing
alike : (a b : Words) (heads : ℕ → ℕ) (postings : ℕ → ℕ → ℕ) → b ≡ record a { heads = heads; postings = postings } → TellAlike a b
alike a b heads postings is = record {
  clock = ap (λ (w : Words). w.clock) is;
  counter = ap (λ (w : Words). w.counter) is;
  log = ap (λ (w : Words). w.log) is;
  begins = ap (λ (w : Words). w.begins) is;
  states = ap (λ (w : Words). w.states) is;
  keys = ap (λ (w : Words). w.keys) is;
  counts = ap (λ (w : Words). w.counts) is;
  cells = ap (λ (w : Words). w.cells) is;
}

-- a: before the latch; b: as the act was judged; d: once the tail is whole; e: once it is posted
module _ (l : Limits) (a b d e : Words) (rec n x : ℕ) (act : Act) (stamped : IsStamped (with_latch a rec) b) (next : n ≡ b.counts (range_of rec) + 1) (changes : ChangesTail (with_count b (range_of rec) n) d (range_of rec * l.tails + n)) (posted : ChangesPostings d e) where
  abbrev tail : ℕ
  tail = range_of rec * l.tails + n

  cells_same : e.cells ≡ d.cells
  cells_same = ap (λ (w : Words). w.cells) posted

  -- the words but cells and postings
  rest : e ≡ record (with_latch a rec) { counts = put a.counts (range_of rec) n; cells = e.cells; postings = e.postings }
  rest = posted ∙ ((λ i. record (changes.rest i) { postings = e.postings })
      ∙ ((λ i. record (stamped.rest i) { counts = put (stamped.rest i).counts (range_of rec) n; cells = d.cells; postings = e.postings })
      ∙ (λ i. record (with_latch a rec) { counts = put a.counts (range_of rec) n; cells = sym cells_same i; postings = e.postings })))

  heads_set : (r : ℕ) → put e.heads rec (2 * n) r ≡ put a.heads rec (2 * n) r
  heads_set r = dite (ℕ_discrete r rec)
      (λ same. subst (λ (y : ℕ). put e.heads rec (2 * n) y ≡ put a.heads rec (2 * n) y) (sym same) (put_here e.heads rec (2 * n) ∙ sym (put_here a.heads rec (2 * n))))
      (λ ne. put_else e.heads rec (2 * n) r ne ∙ (ap (λ (w : Words). w.heads r) rest ∙ (put_else a.heads rec (2 * (a.heads rec / 2) + 1) r ne ∙ sym (put_else a.heads rec (2 * n) r ne))))

  pub written_rest : with_head e rec (2 * n) ≡ record a { counts = put a.counts (range_of rec) n; heads = put a.heads rec (2 * n); cells = e.cells; postings = e.postings }
  written_rest = (λ i. record (rest i) { heads = λ r. heads_set r i })

  log_same : e.log ≡ b.log
  log_same = ap (λ (w : Words). w.log) posted ∙ ap (λ (w : Words). w.log) changes.rest

  other_same : (t p : ℕ) → t ≢ range_of rec * l.tails + n → e.cells t p ≡ b.cells t p
  other_same t p other = ap (λ (f : ℕ → ℕ → ℕ). f t p) cells_same ∙ changes.others t p other

  pub written : 0 < e.cells (range_of rec * l.tails + n) 0 → writer_at e (range_of rec * l.tails + n) ≡ x → record_in l e.cells (range_of rec * l.tails + n) ≡ rec → act_in l e.cells (range_of rec * l.tails + n) ≡ act
      → IsWritten l a (with_head e rec (2 * n)) rec n x act
  written here by on made = record {
    rest = alike (record a { counts = put a.counts (range_of rec) n; cells = e.cells }) (with_head e rec (2 * n)) (put a.heads rec (2 * n)) e.postings written_rest;
    next = next ∙ ap (λ (w : Words). w.counts (range_of rec) + 1) stamped.rest;
    others = λ t p other some. other_same t p other ∙ stamped.others t p some;
    stored = λ t other. ap (λ (y : ℕ). eqb y 0) (other_same t 0 other) ∙ stamped.stored t;
    writers = λ t other. (λ i. writer (log_same i) (other_same t 0 other i)) ∙ stamped.writers t;
    here = here;
    by = by;
    on = on;
    made = made;
  }

-- a whole tail in hand, in the view m
module _ (m : View) (s rec head n : ℕ) (act : Act) (known : ℕ → Known) (merger : Known) (sure : Allowed m m.words known merger) (hosted : hosts m s ≡ true) (low : s < m.limits.sessions) (whole : HasWhole m.limits (knows m s) s rec head n act) where
  abbrev e : Words
  e = words_of m

  abbrev at : ℕ
  at = range_of rec * m.limits.tails + n

  cell_is : (0 < e.cells at 0) × (writer_at e at ≡ name_of s (knows m s).number) × (e.cells at 1 ≡ whole.encoding) × (e.cells at 2 ≡ head) × (listed (e.cells at) 3 m.limits.columns ≡ whole.values)
  cell_is = is_fact m m.words known merger sure s hosted (CellIs at (name_of s (knows m s).number) whole.encoding head whole.values) whole.stored

  pub tail_here : 0 < (words_of m).cells (range_of rec * m.limits.tails + n) 0
  tail_here = cell_is.0

  pub tail_by : writer_at (words_of m) (range_of rec * m.limits.tails + n) ≡ name_of s (knows m s).number
  tail_by = cell_is.1

  pub tail_made : act_in m.limits (words_of m).cells (range_of rec * m.limits.tails + n) ≡ act
  tail_made = (λ i. act_of (cell_is.2 i) (cell_is.4 i)) ∙ whole.says

  pub tail_on : record_in m.limits (words_of m).cells (range_of rec * m.limits.tails + n) ≡ rec
  tail_on = let same : knows m s ≡ known s = knows_own m m.words known merger sure s hosted (λ f. omega arith) in
      let hold : (known s).hold ≡ tail_of m.limits rec head n true = ap (λ (k : Known). k.hold) (sym same) ∙ whole.hold in
      let here : record_in m.limits e.cells (known s).hold.tail ≡ (known s).hold.latch - 1 = (sure.sound.versions.hands s low).here (ap (λ (h : Hold). h.is_whole) hold) in
      let latch : (known s).hold.latch ≡ rec + 1 = ap (λ (h : Hold). h.latch) hold in
      ap (record_in m.limits e.cells) (sym (ap (λ (h : Hold). h.tail) hold)) ∙ (here ∙ (omega arith))

  -- the install
  pub installed_words : (w : View) → m.whole ≡ true → Made m w (Install s) (HeadWord rec) (2 * n) → words_of w ≡ with_head (words_of m) rec (2 * n)
  installed_words w sees word = made_words m w (Install s) (HeadWord rec) (2 * n) word sees
      ∙ (ap (λ (h : Hold). with_head e (h.latch - 1) (2 * number_in m.limits (h.latch - 1) h.tail)) whole.hold
      ∙ (λ i. with_head e (rec_back i) (2 * number_back i)))
    where
      rec_back : rec + 1 - 1 ≡ rec
      rec_back = omega arith

      number_back : number_in m.limits (rec + 1 - 1) (range_of rec * m.limits.tails + n) ≡ n
      number_back = (λ i. number_in m.limits (rec_back i) (range_of rec * m.limits.tails + n)) ∙ (omega arith)
