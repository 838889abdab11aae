-- Each step keeps the part on postings.
use Rattle.std.proofs.Common.{◌≡◌, ◌≢◌, ◌⊎◌, ⊎_elim, inl, inr, ℕ, ◌+◌, ◌-◌, ◌%◌, ◌^◌, ◌<◌, List, Bool, true, false, cond, eqb, nat_lt, refl, sym, subst, ap, ◌∙◌, arith, true≢false, eqb-true, eq-eqb}
use mathlib.Core.Logic.{dite}
use native.Mathlib.Decide.{ℕ_discrete}
use Rattle.lst_layout.specs.declared.limits.Limits.{Limits}
use Rattle.lst_layout.specs.declared.place.Place.{Place}
use Rattle.lst_layout.specs.declared.place.Place.TheVariants.{ClockWord, CommitWord, EpochWord, RecordCounter, LogWord, BeginWord, StateWord, KeyWord, IndexWord, HeadWord, TailCounter, CellWord, DirectoryWord, FrameWord, PinWord, PostingWord}
use Rattle.lst_layout.specs.Addresses.{place_of}
use Rattle.lst_layout.specs.Functions.{put}
use Rattle.lst_probe.specs.Run.{IsReachable}
use Rattle.lst_probe.proofs.Runs.{reachable_stays}
use Rattle.lst_core_state.specs.Lists.{Has}
use Rattle.lst_core_state.specs.declared.known.Known.{Known}
use Rattle.lst_core_state.specs.declared.known.Hold.{Hold}
use Rattle.lst_core_state.specs.declared.known.Draft.{Draft}
use Rattle.lst_core_state.specs.declared.events.Event.{Event}
use Rattle.lst_core_state.specs.declared.events.Event.TheVariants.{Look, Begin, Take, Log, State, Clock, Give, Close, DrawRecord, StoreKey, Claim, Latch, DrawTail, StoreCell, Install, Release, Stamp, Post}
use Rattle.lst_core_state.specs.Cells.{record_count, has_bit, has_number}
use Rattle.std.specs.Prelude.{bit_or}
use Rattle.lst_core_state.specs.Postings.{postings_size, value_first, IsAlike, IsPosted, ArePosted, is_unposted}
use Rattle.lst_core_state.specs.State.{Words, Core, line, record_in}
use Rattle.lst_core_state.specs.Step.{session_of, IsWithin, Enabled, Stands, words_after, known_after, look_at, gives_up, given_up, took, held_off, record_drawn, records_full, claimed, claim_lost, latched, latch_lost, tail_drawn, tails_full, cell_started, word_stored, posted, post_lost}
use Rattle.lst_core_state.specs.Sound.{Posting, Marks, MarksOf, PostingsOf, Sound}
use Rattle.lst_core_state.proofs.Functions.{either, each_put}
use Rattle.lst_core_state.proofs.Steps.{Same, record_same}
use Rattle.lst_core_state.proofs.Steady.{steady, lines_stay, IsInstall}
use Rattle.lst_core_state.proofs.CellsKept.{install_chain, install_other}
use Rattle.lst_core_state.proofs.FitPart.{whole_stored}
use Rattle.lst_core_state.proofs.FactsPart.{later}
use Rattle.lst_core_state.proofs.PostingsKept.{exchanged_else, exchanged_here, exchanged_same, exchanged_new, has_bit-none, has_bit-same, has_bit-other, unposted_says}

-- nothing in hand, nothing marked
marks_none : (l : Limits) (cells postings : ℕ → ℕ → ℕ) (h : Hold) (d : Draft) → h.tail ≡ 0 → Marks l cells postings h d
marks_none l cells postings h d none = record {
  posted = λ c some. absurd (omega arith);
  found = λ c some. absurd (omega arith);
  unposted = λ c some. absurd (omega arith);
}

-- nothing is marked yet
marks_blank : (l : Limits) (cells postings : ℕ → ℕ → ℕ) (h : Hold) (d : Draft) → ((column : ℕ) → ¬ (has_bit d.posted column ≡ true)) → ((column : ℕ) → ¬ (has_bit d.unposted column ≡ true)) → Marks l cells postings h d
marks_blank l cells postings h d a b = record { posted = λ c some f. absurd (a c f); found = λ c some f. absurd (b c f); unposted = λ c some f. absurd (b c f) }

module _ (c : Core) (sound : Sound c) where
  abbrev L : Limits
  L = c.limits

  abbrev w : Words
  w = c.words

  abbrev K : ℕ → Known
  K = c.known

  -- a posting of a record's tail with a value stands in the value's run
  alike_posted : (column r x p : ℕ) → 0 < w.postings column p → IsAlike L w.cells column r x (w.postings column p) → IsPosted L w.cells (w.postings column) column r x
  alike_posted column r x p some alike = record {
    position = p;
    reached = subst (λ (y : ℕ). IsReachable (w.postings column) (postings_size L) (value_first L y) p) alike.1 (sound.postings.filled column p some).reached;
    some = some;
    alike = alike;
  }

  -- what any step leaves of postings and of what is posted
  module _ (e : Event) (low : session_of e < L.sessions) (ok : Enabled L (K (session_of e)) e) (stands : Stands L w (K (session_of e)) e) where
    abbrev w' : Words
    w' = words_after L w (K (session_of e)) e

    abbrev s : ℕ
    s = session_of e

    stays : (column q : ℕ) → 0 < w.postings column q → w'.postings column q ≡ w.postings column q
    stays column q some = (later c sound e low ok).postings column q some

    same : (t : ℕ) → 0 < w.cells t 0 → Same L w w' t
    same t some = steady c sound e low ok stands t some

    value_same : (t column : ℕ) → 0 < w.cells t 0 → w'.cells t (3 + column) ≡ w.cells t (3 + column)
    value_same t column some = (same t some).words (3 + column) (omega arith)

    number_same : (t column : ℕ) → 0 < w.cells t 0 → has_number (w'.cells t 1) column ≡ has_number (w.cells t 1) column
    number_same t column some = ap (λ (x : ℕ). has_number x column) ((same t some).words 1 (omega arith))

    reached_on : (column first q : ℕ) → IsReachable (w.postings column) (postings_size L) first q → IsReachable (w'.postings column) (postings_size L) first q
    reached_on column first q reached = reachable_stays (w.postings column) (w'.postings column) (postings_size L) first q (λ p some. let is = stays column p some in omega arith) reached

    pub posted_on : (column r x : ℕ) → IsPosted L w.cells (w.postings column) column r x → IsPosted L w'.cells (w'.postings column) column r x
    posted_on column r x p = let t : ℕ = w.postings column p.position in let is : w'.postings column p.position ≡ t = stays column p.position p.some in let stored = (sound.postings.filled column p.position p.some).stored in record {
      position = p.position;
      reached = reached_on column (value_first L x) p.position p.reached;
      some = subst (λ (y : ℕ). 0 < y) (sym is) p.some;
      alike = subst (λ (y : ℕ). IsAlike L w'.cells column r x y) (sym is) (record_same L w.cells w'.cells t (same t stored).words ∙ p.alike.0, value_same t column stored ∙ p.alike.1);
    }

    -- a stored tail's column
    column_on : (r t column : ℕ) → 0 < w.cells t 0 → IsPosted L w.cells (w.postings column) column r (w.cells t (3 + column)) → IsPosted L w'.cells (w'.postings column) column r (w'.cells t (3 + column))
    column_on r t column some p = subst (λ (x : ℕ). IsPosted L w'.cells (w'.postings column) column r x) (sym (value_same t column some)) (posted_on column r (w.cells t (3 + column)) p)

    all_on : (r t : ℕ) → 0 < w.cells t 0 → ArePosted L w.cells w.postings r t → ArePosted L w'.cells w'.postings r t
    all_on r t some are column inside indexed number = column_on r t column some (are column inside indexed (sym (number_same t column some) ∙ number))

    on_chains : (r : ℕ) → r < record_count L → (t : ℕ) → Has t (line L w r) → ArePosted L w'.cells w'.postings r t
    on_chains r h t i = all_on r t ((sound.versions.lines r h).stored t i) (sound.postings.chained r h t i)

    posting_on : (column q : ℕ) → 0 < w.postings column q → Posting L w'.cells (w'.postings column) column q (w'.postings column q)
    posting_on column q some = let t : ℕ = w.postings column q in let k = sound.postings.filled column q some in subst (λ (y : ℕ). Posting L w'.cells (w'.postings column) column q y) (sym (stays column q some)) record {
      stored = (same t k.stored).stays;
      number = number_same t column k.stored ∙ k.number;
      reached = subst (λ (x : ℕ). IsReachable (w'.postings column) (postings_size L) (value_first L x) q) (sym (value_same t column k.stored)) (reached_on column (value_first L (w.cells t (3 + column))) q k.reached);
    }

    -- and what is posted by a posting that stood before was so
    posted_back : (column r x : ℕ) (p : IsPosted L w'.cells (w'.postings column) column r x) → w'.postings column p.position ≡ w.postings column p.position → IsPosted L w.cells (w.postings column) column r x
    posted_back column r x p is = let t : ℕ = w.postings column p.position in let some : 0 < t = subst (λ (y : ℕ). 0 < y) is p.some in let stored = (sound.postings.filled column p.position some).stored in
        let alike = subst (λ (y : ℕ). IsAlike L w'.cells column r x y) is p.alike in
        alike_posted column r x p.position some (sym (record_same L w.cells w'.cells t (same t stored).words) ∙ alike.0, sym (value_same t column stored) ∙ alike.1)

    -- what a session has marked of its tail in hand, where no tail of that record is posted anew
    marks_on : (j : ℕ) → j < L.sessions → (h : Hold) (d : Draft) → h.tail ≡ (K j).hold.tail → h.latch ≡ (K j).hold.latch → ((K j).hold.is_whole ≡ true → h.is_whole ≡ true) → d.posted ≡ (K j).draft.posted → d.unposted ≡ (K j).draft.unposted
        → ((column q : ℕ) → 0 < h.tail → IsAlike L w'.cells column (h.latch - 1) (w'.cells h.tail (3 + column)) (w'.postings column q) → w'.postings column q ≡ w.postings column q) → Marks L w'.cells w'.postings h d
    marks_on j in_range h d tail latch whole is_posted is_found kept = let m = sound.postings.marks j in_range in
        let was : (column : ℕ) → has_bit d.posted column ≡ has_bit (K j).draft.posted column = (λ column. ap (λ (b : ℕ). has_bit b column) is_posted) in
        let had : (column : ℕ) → has_bit d.unposted column ≡ has_bit (K j).draft.unposted column = (λ column. ap (λ (b : ℕ). has_bit b column) is_found) in record {
          posted = λ column some f. let q = m.posted column (omega arith) (sym (was column) ∙ f) in (
            whole q.0,
            subst (λ (r : ℕ). IsPosted L w'.cells (w'.postings column) column (r - 1) (w'.cells h.tail (3 + column))) (sym latch)
                (subst (λ (t : ℕ). IsPosted L w'.cells (w'.postings column) column ((K j).hold.latch - 1) (w'.cells t (3 + column))) (sym tail)
                (column_on ((K j).hold.latch - 1) (K j).hold.tail column (whole_stored c sound j in_range q.0).0 q.1)),
          );
          found = λ column some f. let q = m.found column (omega arith) (sym (had column) ∙ f) in (
            whole q.0,
            ap (λ (t : ℕ). has_number (w'.cells t 1) column) tail ∙ (number_same (K j).hold.tail column (whole_stored c sound j in_range q.0).0 ∙ q.1),
          );
          unposted = λ column some f g p. let q = m.found column (omega arith) (sym (had column) ∙ f) in
              let value : w'.cells h.tail (3 + column) ≡ w.cells (K j).hold.tail (3 + column) = ap (λ (t : ℕ). w'.cells t (3 + column)) tail ∙ value_same (K j).hold.tail column (whole_stored c sound j in_range q.0).0 in
              m.unposted column (omega arith) (sym (had column) ∙ f) (sym (was column) ∙ g)
              (subst (λ (x : ℕ). IsPosted L w.cells (w.postings column) column ((K j).hold.latch - 1) x) value
              (subst (λ (r : ℕ). IsPosted L w.cells (w.postings column) column (r - 1) (w'.cells h.tail (3 + column))) latch
              (posted_back column (h.latch - 1) (w'.cells h.tail (3 + column)) p (kept column p.position some p.alike))));
        }

    -- a step that posts nothing
    module _ (kept : (column q : ℕ) → w'.postings column q ≡ w.postings column q) where
      postings_step : (v' : Known) → ((r : ℕ) → r < record_count L → (t : ℕ) → Has t (line L w' r) → ArePosted L w'.cells w'.postings r t) → MarksOf L w' v' → PostingsOf L w' (put K s v')
      postings_step v' chained mine = record {
        chained = chained;
        filled = λ column q some. posting_on column q (let f = kept column q in omega arith);
        once = λ column p q some f. sound.postings.once column p q (let g = kept column p in omega arith) (sym (kept column p) ∙ f ∙ kept column q);
        marks = each_put (λ (j : ℕ) (u : Known). j < L.sessions → MarksOf L w' u) K s v' (λ _. mine)
            (λ j other h. marks_on j h (K j).hold (K j).draft refl refl (λ b. b) refl refl (λ column q _ _. kept column q));
      }

      -- no chain grows
      postings_quiet : ¬ IsInstall c sound e → (v' : Known) → MarksOf L w' v' → PostingsOf L w' (put K s v')
      postings_quiet other v' mine = postings_step v' (λ r h t i. on_chains r h t (subst (λ (ts : List ℕ). Has t ts) (lines_stay c sound e low ok stands other r h) i)) mine

      -- and the session has in hand what it had
      pub postings_same : ¬ IsInstall c sound e → (v' : Known) → v'.hold ≡ (K s).hold → v'.draft.posted ≡ (K s).draft.posted → v'.draft.unposted ≡ (K s).draft.unposted → PostingsOf L w' (put K s v')
      postings_same other v' hold is_posted is_found = postings_quiet other v'
          (marks_on s low v'.hold v'.draft (ap (λ (h : Hold). h.tail) hold) (ap (λ (h : Hold). h.latch) hold) (λ b. ap (λ (h : Hold). h.is_whole) hold ∙ b) is_posted is_found (λ column q _ _. kept column q))

      -- or nothing
      postings_free : ¬ IsInstall c sound e → (v' : Known) → v'.hold.tail ≡ 0 → PostingsOf L w' (put K s v')
      postings_free other v' none = postings_quiet other v' (marks_none L w'.cells w'.postings v'.hold v'.draft none)

  -- ---- single kinds

  abbrev Part : Words → ℕ → Known → Type 0
  Part x s u = PostingsOf L x (put K s u)

  -- a load of the end of the run of the tail in hand marks a column
  found : (s : ℕ) → s < L.sessions → (column q : ℕ) (b : Bool) → is_unposted L w (K s).hold column q ≡ b → Marks L w.cells w.postings (K s).hold (record (K s).draft { unposted = cond b (bit_or (K s).draft.unposted (2 ^ column)) (K s).draft.unposted })
  found s low column q false e = let m = sound.postings.marks s low in record { posted = m.posted; found = m.found; unposted = m.unposted }
  found s low column q true e = let m = sound.postings.marks s low in let says = unposted_says L w (K s).hold column q e in let bits : ℕ = (K s).draft.unposted in
      let old : (d : ℕ) → d ≢ column → has_bit (bit_or bits (2 ^ column)) d ≡ has_bit bits d = (λ d other. has_bit-other bits column d other) in record {
        posted = m.posted;
        found = λ d some f. dite (ℕ_discrete d column)
            (λ is. (says.0, subst (λ (y : ℕ). has_number (w.cells (K s).hold.tail 1) y ≡ true) (sym is) says.1))
            (λ ne. m.found d some (sym (old d ne) ∙ f));
        unposted = λ d some f g. dite (ℕ_discrete d column)
            (λ is. subst (λ (y : ℕ). ¬ IsPosted L w.cells (w.postings y) y ((K s).hold.latch - 1) (w.cells (K s).hold.tail (3 + y))) (sym is) says.2)
            (λ ne. m.unposted d some (sym (old d ne) ∙ f) g);
      }

  looks : (s a : ℕ) → s < L.sessions → (p : Place) → Part w s (look_at L w (K s) p)
  looks s a low ClockWord = postings_same (Look s a) low tt tt (λ _ _. refl) (λ i. i) (look_at L w (K s) ClockWord) refl refl refl
  looks s a low EpochWord = postings_same (Look s a) low tt tt (λ _ _. refl) (λ i. i) (look_at L w (K s) EpochWord) refl refl refl
  looks s a low RecordCounter = postings_same (Look s a) low tt tt (λ _ _. refl) (λ i. i) (look_at L w (K s) RecordCounter) refl refl refl
  looks s a low (StateWord j n) = postings_same (Look s a) low tt tt (λ _ _. refl) (λ i. i) (look_at L w (K s) (StateWord j n)) refl refl refl
  looks s a low (KeyWord r) = either (Part w s) (gives_up (K s) r (w.keys r)) (given_up (K s)) (K s)
      (λ _. postings_same (Look s a) low tt tt (λ _ _. refl) (λ i. i) (given_up (K s)) refl refl refl) (λ _. postings_same (Look s a) low tt tt (λ _ _. refl) (λ i. i) (K s) refl refl refl)
  looks s a low (IndexWord q) = postings_same (Look s a) low tt tt (λ _ _. refl) (λ i. i) (look_at L w (K s) (IndexWord q)) refl refl refl
  looks s a low (HeadWord r) = postings_same (Look s a) low tt tt (λ _ _. refl) (λ i. i) (look_at L w (K s) (HeadWord r)) refl refl refl
  looks s a low (TailCounter range) = postings_same (Look s a) low tt tt (λ _ _. refl) (λ i. i) (look_at L w (K s) (TailCounter range)) refl refl refl
  looks s a low (CellWord t p) = postings_same (Look s a) low tt tt (λ _ _. refl) (λ i. i) (look_at L w (K s) (CellWord t p)) refl refl refl
  looks s a low CommitWord = postings_same (Look s a) low tt tt (λ _ _. refl) (λ i. i) (K s) refl refl refl
  looks s a low (LogWord i) = postings_same (Look s a) low tt tt (λ _ _. refl) (λ i. i) (K s) refl refl refl
  looks s a low (BeginWord i n) = postings_same (Look s a) low tt tt (λ _ _. refl) (λ i. i) (K s) refl refl refl
  looks s a low (DirectoryWord i n) = postings_same (Look s a) low tt tt (λ _ _. refl) (λ i. i) (K s) refl refl refl
  looks s a low (FrameWord i n) = postings_same (Look s a) low tt tt (λ _ _. refl) (λ i. i) (K s) refl refl refl
  looks s a low (PinWord i) = postings_same (Look s a) low tt tt (λ _ _. refl) (λ i. i) (K s) refl refl refl
  looks s a low (PostingWord i n) = postings_quiet (Look s a) low tt tt (λ _ _. refl) (λ i. i) (look_at L w (K s) (PostingWord i n)) (found s low i n (is_unposted L w (K s).hold i n) refl)

  -- of a tail that is drawn now nothing is marked
  drawn : (s range : ℕ) (low : s < L.sessions) → Enabled L (K s) (DrawTail s range) → Stands L w (K s) (DrawTail s range) → Part (words_after L w (K s) (DrawTail s range)) s (known_after L w (K s) (DrawTail s range))
  drawn s range low ok stands = let w' : Words = words_after L w (K s) (DrawTail s range) in let v' : Known = tail_drawn L w (K s) range in
      either (Part w' s) (nat_lt (w.counts range) L.tails) v' (tails_full w (K s) range)
      (λ _. postings_quiet (DrawTail s range) low ok stands (λ _ _. refl) (λ i. i) v' (marks_blank L w'.cells w'.postings v'.hold v'.draft (λ column f. true≢false (sym f ∙ has_bit-none column)) (λ column f. true≢false (sym f ∙ has_bit-none column))))
      (λ _. postings_same (DrawTail s range) low ok stands (λ _ _. refl) (λ i. i) (tails_full w (K s) range) refl refl refl)

  -- before the start word is stored nothing is marked
  stored : (s p x : ℕ) (low : s < L.sessions) (ok : Enabled L (K s) (StoreCell s p x)) (stands : Stands L w (K s) (StoreCell s p x)) (v' : Known) → v'.draft.posted ≡ (K s).draft.posted → v'.draft.unposted ≡ (K s).draft.unposted → Part (words_after L w (K s) (StoreCell s p x)) s v'
  stored s p x low ok stands v' is_posted is_found = let m = sound.postings.marks s low in let w' : Words = words_after L w (K s) (StoreCell s p x) in
      postings_quiet (StoreCell s p x) low ok stands (λ _ _. refl) (λ i. i) v' (marks_blank L w'.cells w'.postings v'.hold v'.draft
      (λ column f. true≢false (sym (m.posted column ok.0 (ap (λ (b : ℕ). has_bit b column) (sym is_posted) ∙ f)).0 ∙ ok.1))
      (λ column f. true≢false (sym (m.found column ok.0 (ap (λ (b : ℕ). has_bit b column) (sym is_found) ∙ f)).0 ∙ ok.1)))

  -- the tail in hand goes on its record's chain
  installed : (s : ℕ) (low : s < L.sessions) (ok : Enabled L (K s) (Install s)) (stands : Stands L w (K s) (Install s)) → Part (words_after L w (K s) (Install s)) s (known_after L w (K s) (Install s))
  installed s low ok stands = let w' : Words = words_after L w (K s) (Install s) in let R : ℕ = (K s).hold.latch - 1 in let T : ℕ = (K s).hold.tail in
      postings_step (Install s) low ok stands (λ _ _. refl) (known_after L w (K s) (Install s))
      (λ r h t i. dite (ℕ_discrete r R)
      (λ e. subst (λ (y : ℕ). ArePosted L w'.cells w'.postings y t) (sym e) (⊎_elim
      (λ (is : t ≡ T). subst (λ (y : ℕ). ArePosted L w'.cells w'.postings R y) (sym is) stands.1)
      (λ (old : Has t (line L w R)). on_chains (Install s) low ok stands R (subst (λ (y : ℕ). y < record_count L) e h) t old)
      (subst (λ (ts : List ℕ). Has t ts) (install_chain L w K sound.sized sound.times sound.each sound.versions s low ok stands.0) (subst (λ (y : ℕ). Has t (line L w' y)) e i))))
      (λ ne. on_chains (Install s) low ok stands r h t (subst (λ (ts : List ℕ). Has t ts) (install_other L w K sound.sized sound.times sound.each sound.versions s low ok stands.0 r h ne).0 i)))
      (marks_none L w'.cells w'.postings ((known_after L w (K s) (Install s)).hold) ((known_after L w (K s) (Install s)).draft) refl)

  -- the tail in hand is posted
  module _ (s column q : ℕ) (low : s < L.sessions) (ok : Enabled L (K s) (Post s column q)) (stands : Stands L w (K s) (Post s column q)) (free : w.postings column q ≡ 0) where
    abbrev T : ℕ
    T = (K s).hold.tail

    abbrev P : ℕ → ℕ → ℕ
    P = (words_after L w (K s) (Post s column q)).postings

    held : 0 < T
    held = (sound.versions.hands s low).some ok.0

    here : P column q ≡ T
    here = exchanged_here w.postings column q T free

    new : (d p : ℕ) → (P d p ≡ w.postings d p) ⊎ ((d ≡ column) × (p ≡ q) × (P d p ≡ T))
    new d p = exchanged_new w.postings column q T free d p

    alike : IsAlike L w.cells column ((K s).hold.latch - 1) (w.cells T (3 + column)) T
    alike = ((sound.versions.hands s low).here ok.0, refl)

    -- it stood nowhere in the column
    nowhere : (p : ℕ) → w.postings column p ≢ T
    nowhere p is = stands.unposted (alike_posted column ((K s).hold.latch - 1) (w.cells T (3 + column)) p (subst (λ (t : ℕ). 0 < t) (sym is) held) (subst (λ (t : ℕ). IsAlike L w.cells column ((K s).hold.latch - 1) (w.cells T (3 + column)) t) (sym is) alike))

    -- what is filled now was so, or is the new posting
    filled_by : (d p : ℕ) → 0 < P d p → (0 < w.postings d p) ⊎ ((d ≡ column) × (p ≡ q))
    filled_by d p some = ⊎_elim (λ (f : P d p ≡ w.postings d p). inl (omega arith)) (λ (f : (d ≡ column) × (p ≡ q) × (P d p ≡ T)). inr (f.0, f.1)) (new d p)

    reached : IsReachable (P column) (postings_size L) (value_first L (w.cells T (3 + column))) q
    reached = reached_on (Post s column q) low ok stands column (value_first L (w.cells T (3 + column))) q stands.reached

    posting : Posting L w.cells (P column) column q (P column q)
    posting = subst (λ (t : ℕ). Posting L w.cells (P column) column q t) (sym here) record { stored = (whole_stored c sound s low ok.0).0; number = stands.number; reached = reached }

    mine : IsPosted L w.cells (P column) column ((K s).hold.latch - 1) (w.cells T (3 + column))
    mine = record {
      position = q;
      reached = reached;
      some = subst (λ (t : ℕ). 0 < t) (sym here) held;
      alike = subst (λ (t : ℕ). IsAlike L w.cells column ((K s).hold.latch - 1) (w.cells T (3 + column)) t) (sym here) alike;
    }

    once : (d p r : ℕ) → 0 < P d p → P d p ≡ P d r → p ≡ r
    once d p r some f = ⊎_elim
        (λ (a : P d p ≡ w.postings d p). ⊎_elim
        (λ (b : P d r ≡ w.postings d r). sound.postings.once d p r (omega arith) (sym a ∙ f ∙ b))
        (λ (b : (d ≡ column) × (r ≡ q) × (P d r ≡ T)). absurd (nowhere p (ap (λ (y : ℕ). w.postings y p) (sym b.0) ∙ (sym a ∙ f ∙ b.2))))
        (new d r))
        (λ (a : (d ≡ column) × (p ≡ q) × (P d p ≡ T)). ⊎_elim
        (λ (b : P d r ≡ w.postings d r). absurd (nowhere r (ap (λ (y : ℕ). w.postings y r) (sym a.0) ∙ (sym b ∙ sym f ∙ a.2))))
        (λ (b : (d ≡ column) × (r ≡ q) × (P d r ≡ T)). a.1 ∙ sym b.1)
        (new d r))
        (new d p)

    abbrev bits : ℕ
    bits = (posted (K s) column q).draft.posted

    old_bit : (d : ℕ) → d ≢ column → has_bit bits d ≡ has_bit (K s).draft.posted d
    old_bit d other = has_bit-other (K s).draft.posted column d other

    marks : Marks L w.cells P (K s).hold (posted (K s) column q).draft
    marks = let m = sound.postings.marks s low in record {
      posted = λ d some f. dite (ℕ_discrete d column)
          (λ e. (ok.0, subst (λ (y : ℕ). IsPosted L w.cells (P y) y ((K s).hold.latch - 1) (w.cells T (3 + y))) (sym e) mine))
          (λ ne. let was = m.posted d some (sym (old_bit d ne) ∙ f) in (was.0, posted_on (Post s column q) low ok stands d ((K s).hold.latch - 1) (w.cells T (3 + d)) was.1));
      found = m.found;
      unposted = λ d some f g p. let other : d ≢ column = (λ e. true≢false (sym (ap (has_bit bits) e ∙ has_bit-same (K s).draft.posted column) ∙ g)) in
          m.unposted d some f (sym (old_bit d other) ∙ g) (posted_back (Post s column q) low ok stands d ((K s).hold.latch - 1) (w.cells T (3 + d)) p (exchanged_else w.postings column q T d p.position (λ e. absurd (other e))));
    }

    -- no tail of another session's record is posted
    others : (j : ℕ) → j ≢ s → j < L.sessions → 0 < (K j).hold.tail → (d p x : ℕ) → IsAlike L w.cells d ((K j).hold.latch - 1) x (P d p) → P d p ≡ w.postings d p
    others j other h some d p x is = ⊎_elim (λ (f : P d p ≡ w.postings d p). f)
        (λ (f : (d ≡ column) × (p ≡ q) × (P d p ≡ T)). let theirs : record_in L w.cells T ≡ (K j).hold.latch - 1 = ap (record_in L w.cells) (sym f.2) ∙ is.0 in let ours = alike.0 in
        let a = (sound.versions.hands s low).holds held in let b = (sound.versions.hands j h).holds some in absurd (other (sym (sound.versions.latches_apart s j low h a (omega arith)))))
        (new d p)

    post_won : Part (words_after L w (K s) (Post s column q)) s (posted (K s) column q)
    post_won = record {
      chained = on_chains (Post s column q) low ok stands;
      filled = λ d p some. ⊎_elim (λ (old : 0 < w.postings d p). posting_on (Post s column q) low ok stands d p old)
          (λ (f : (d ≡ column) × (p ≡ q)). subst (λ (y : ℕ). Posting L w.cells (P y) y p (P y p)) (sym f.0) (subst (λ (z : ℕ). Posting L w.cells (P column) column z (P column z)) (sym f.1) posting)) (filled_by d p some);
      once = once;
      marks = each_put (λ (j : ℕ) (u : Known). j < L.sessions → MarksOf L (words_after L w (K s) (Post s column q)) u) K s (posted (K s) column q) (λ _. marks)
          (λ j other h. marks_on (Post s column q) low ok stands j h (K j).hold (K j).draft refl refl (λ b. b) refl refl (λ d p some is. others j other h some d p (w.cells (K j).hold.tail (3 + d)) is));
    }

  posts : (s column q : ℕ) (low : s < L.sessions) (ok : Enabled L (K s) (Post s column q)) (stands : Stands L w (K s) (Post s column q)) → Part (words_after L w (K s) (Post s column q)) s (known_after L w (K s) (Post s column q))
  posts s column q low ok stands = either (Part (words_after L w (K s) (Post s column q)) s) (eqb (w.postings column q) 0) (posted (K s) column q) (post_lost w (K s) column q)
      (λ e. post_won s column q low ok stands (eqb-true (w.postings column q) 0 e))
      (λ e. postings_same (Post s column q) low ok stands (λ d p. exchanged_same w.postings column q (K s).hold.tail (λ z. true≢false (sym (eq-eqb (w.postings column q) 0 z) ∙ e)) d p) (λ i. i) (post_lost w (K s) column q) refl refl refl)

  pub postings_keeps : (e : Event) → session_of e < L.sessions → IsWithin L e → Enabled L (K (session_of e)) e → Stands L w (K (session_of e)) e → PostingsOf L (words_after L w (K (session_of e)) e) (put K (session_of e) (known_after L w (K (session_of e)) e))
  postings_keeps (Look s a) low within ok stands = looks s a low (place_of L a)
  postings_keeps (Begin s b r) low within ok stands = postings_same (Begin s b r) low ok stands (λ _ _. refl) (λ i. i) (known_after L w (K s) (Begin s b r)) refl refl refl
  postings_keeps (Take s) low within ok stands = either (Part (words_after L w (K s) (Take s)) s) (eqb w.turn 0) (took (K s)) (held_off (K s))
      (λ _. postings_same (Take s) low ok stands (λ _ _. refl) (λ i. i) (took (K s)) refl refl refl) (λ _. postings_same (Take s) low ok stands (λ _ _. refl) (λ i. i) (held_off (K s)) refl refl refl)
  postings_keeps (Log s) low within ok stands = postings_same (Log s) low ok stands (λ _ _. refl) (λ i. i) (known_after L w (K s) (Log s)) refl refl refl
  postings_keeps (State s) low within ok stands = postings_same (State s) low ok stands (λ _ _. refl) (λ i. i) (known_after L w (K s) (State s)) refl refl refl
  postings_keeps (Clock s) low within ok stands = postings_same (Clock s) low ok stands (λ _ _. refl) (λ i. i) (known_after L w (K s) (Clock s)) refl refl refl
  postings_keeps (Give s) low within ok stands = postings_same (Give s) low ok stands (λ _ _. refl) (λ i. i) (known_after L w (K s) (Give s)) refl refl refl
  postings_keeps (Close s) low within ok stands = postings_same (Close s) low ok stands (λ _ _. refl) (λ i. i) (known_after L w (K s) (Close s)) refl refl refl
  postings_keeps (DrawRecord s) low within ok stands = either (Part (words_after L w (K s) (DrawRecord s)) s) (nat_lt w.counter (record_count L)) (record_drawn w (K s)) (records_full w (K s))
      (λ _. postings_same (DrawRecord s) low ok stands (λ _ _. refl) (λ i. i) (record_drawn w (K s)) refl refl refl) (λ _. postings_same (DrawRecord s) low ok stands (λ _ _. refl) (λ i. i) (records_full w (K s)) refl refl refl)
  postings_keeps (StoreKey s k) low within ok stands = postings_same (StoreKey s k) low ok stands (λ _ _. refl) (λ i. i) (known_after L w (K s) (StoreKey s k)) refl refl refl
  postings_keeps (Claim s q) low within ok stands = either (Part (words_after L w (K s) (Claim s q)) s) (eqb (w.index q) 0) (claimed (K s) q) (claim_lost w (K s) q)
      (λ _. postings_same (Claim s q) low ok stands (λ _ _. refl) (λ i. i) (claimed (K s) q) refl refl refl) (λ _. postings_same (Claim s q) low ok stands (λ _ _. refl) (λ i. i) (claim_lost w (K s) q) refl refl refl)
  postings_keeps (Latch s r) low within ok stands = either (Part (words_after L w (K s) (Latch s r)) s) (eqb (w.heads r % 2) 0) (latched L w (K s) r) (latch_lost L w (K s) r)
      (λ _. postings_free (Latch s r) low ok stands (λ _ _. refl) (λ i. i) (latched L w (K s) r) refl) (λ _. postings_same (Latch s r) low ok stands (λ _ _. refl) (λ i. i) (latch_lost L w (K s) r) refl refl refl)
  postings_keeps (DrawTail s range) low within ok stands = drawn s range low ok stands
  postings_keeps (StoreCell s p x) low within ok stands = either (Part (words_after L w (K s) (StoreCell s p x)) s) (eqb p 0) (cell_started L w (K s) p x) (word_stored (K s) p x)
      (λ _. stored s p x low ok stands (cell_started L w (K s) p x) refl refl) (λ _. stored s p x low ok stands (word_stored (K s) p x) refl refl)
  postings_keeps (Install s) low within ok stands = installed s low ok stands
  postings_keeps (Release s) low within ok stands = postings_free (Release s) low ok stands (λ _ _. refl) (λ i. i) (known_after L w (K s) (Release s)) refl
  postings_keeps (Stamp s range n) low within ok stands = postings_same (Stamp s range n) low ok stands (λ _ _. refl) (λ i. i) (K s) refl refl refl
  postings_keeps (Post s column q) low within ok stands = posts s column q low ok stands
