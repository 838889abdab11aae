-- Each step keeps the part on the lists of what was latched and done.
use Rattle.std.proofs.Common.{◌≡◌, ◌≢◌, ℕ, zero, suc, ◌+◌, ◌-◌, ◌*◌, ◌/◌, ◌%◌, ◌<◌, ◌≤◌, List, [], ◌∷◌, ◌++◌, true, cond, eqb, nat_lt, length, get_or, Contains, refl, sym, subst, ap, ◌∙◌, arith, true≢false, lt-ltb, ◌⊎◌, ⊎_elim, inl, inr}
use Rattle.std.proofs.lemmas.List.Elements.{Contains-append_left, Contains-append_right, Contains-append_cases}
use Rattle.std.proofs.lemmas.List.Quantifiers.{all_pairs_push}
use Rattle.std.specs.List.{AllPairs}
use mathlib.Core.Logic.{dite}
use native.Mathlib.Decide.{ℕ_discrete, dec_lt}
use Rattle.lst_layout.specs.declared.limits.Limits.{Limits}
use Rattle.lst_layout.specs.Functions.{put}
use Rattle.lst_core_state.specs.Lists.{Has}
use Rattle.lst_core_state.proofs.Lists.{links_low}
use Rattle.lst_core_state.specs.declared.known.Known.{Known}
use Rattle.lst_core_state.specs.declared.known.Done.{Done}
use Rattle.lst_core_state.specs.declared.events.Event.{Event}
use Rattle.lst_core_state.specs.declared.events.Event.TheVariants.{Look, Begin, Take, Log, State, Clock, Give, Close, DrawRecord, StoreKey, Claim, Latch, DrawTail, StoreCell, Install, Release, Stamp, Post}
use Rattle.lst_layout.specs.declared.place.Place.{Place}
use Rattle.lst_layout.specs.declared.place.Place.TheVariants.{ClockWord, CommitWord, EpochWord, RecordCounter, LogWord, BeginWord, StateWord, KeyWord, IndexWord, HeadWord, TailCounter, CellWord, DirectoryWord, FrameWord, PinWord, PostingWord}
use Rattle.lst_core_state.specs.Cells.{record_count, range_of, tail_at}
use Rattle.lst_core_state.specs.State.{Words, Core, writer_at, name_of, line, back_in, head_of}
use Rattle.lst_layout.specs.Addresses.{place_of}
use Rattle.lst_core_state.specs.Step.{session_of, Enabled, Stands, words_after, known_after, look_at, gives_up, given_up, took, held_off, record_drawn, records_full, claimed, claim_lost, latched, latch_lost, tail_drawn, tails_full, cell_started, word_stored, posted, post_lost}
use Rattle.lst_core_state.specs.Sound.{Drawn, Listed, Sound}
use Rattle.lst_core_state.proofs.Functions.{either, each_put, put_here, put_else}
use Rattle.lst_core_state.proofs.Steps.{name_session, name_number, hand_idle}
use Rattle.lst_core_state.proofs.CellsKept.{install_low, install_writer, install_chain, install_other}
use Rattle.lst_core_state.proofs.Steady.{steady, lines_stay, IsInstall}

pub any_default : {A : Type 0} (l : List A) (i : ℕ) (d d' : A) → i < length l → get_or l i d ≡ get_or l i d'
any_default [] i d d' h = absurd (omega arith)
any_default (x ∷ xs) zero d d' h = refl
any_default (x ∷ xs) (suc i) d d' h = any_default xs i d d' (omega arith)

pub at_contains : {A : Type 0} (l : List A) (i : ℕ) (d : A) → i < length l → Contains l (get_or l i d)
at_contains l i d h = (i, h, any_default l i (get_or l i d) d h)

pub contains_one : {A : Type 0} (x y : A) → Contains (x ∷ []) y → x ≡ y
contains_one {A} x y h = let low = h.1 in let first : h.0 ≡ 0 = omega arith in subst (λ (k : ℕ). get_or (x ∷ []) k y ≡ y) first h.2

pub contains_last : {A : Type 0} (l : List A) (x : A) → Contains (l ++ x ∷ []) x
contains_last l x = Contains-append_right l (x ∷ []) x (0, omega arith, refl)

abbrev pub done_by : ℕ → ℕ → ℕ → Done
done_by n r t = record { number = n; rec = r; tail = t }

module _ (c : Core) (sound : Sound c) where
  abbrev L : Limits
  L = c.limits

  abbrev w : Words
  w = c.words

  abbrev K : ℕ → Known
  K = c.known

  module _ (e : Event) (low : session_of e < L.sessions) (ok : Enabled L (K (session_of e)) e) (stands : Stands L w (K (session_of e)) e) (other : ¬ IsInstall c sound e) where
    abbrev w' : Words
    w' = words_after L w (K (session_of e)) e

    chain : (r : ℕ) → r < record_count L → line L w' r ≡ line L w r
    chain r h = lines_stay c sound e low ok stands other r h

    by : (r t : ℕ) → r < record_count L → Has t (line L w r) → writer_at w' t ≡ writer_at w t
    by r t h i = (steady c sound e low ok stands t ((sound.versions.lines r h).stored t i)).by

    -- every step but an install
    listed_step : (v' : Known) → v'.done ≡ (K (session_of e)).done → (0 < v'.hold.latch → Contains v'.latched (v'.hold.latch - 1)) → (0 < (K (session_of e)).hold.tail → v'.hold.tail ≡ (K (session_of e)).hold.tail)
        → ((range g : ℕ) → range < L.ranges → Drawn L w'.counts range g → Drawn L w.counts range g ⊎ (v'.hold.tail ≡ g)) → Listed L w' (put K (session_of e) v')
    listed_step v' done latch tail drawn = let s : ℕ = session_of e in record {
      every = λ r h t i. let was : Has t (line L w r) = subst (λ (zs : List ℕ). Has t zs) (chain r h) i in let x : ℕ = writer_at w t in
          subst (λ (y : ℕ). Contains (put K s v' (y % 16)).done (done_by (y / 16) r t)) (sym (by r t h was))
          (each_put (λ (j : ℕ) (u : Known). Contains (K j).done (done_by (x / 16) r t) → Contains u.done (done_by (x / 16) r t)) K s v' (λ a. subst (λ (l : List Done). Contains l (done_by (x / 16) r t)) (sym done) a) (λ j apart a. a) (x % 16) (sound.listed.every r h t was));
      only = each_put (λ (j : ℕ) (u : Known). j < L.sessions → (d : Done) → Contains u.done d → (d.rec < record_count L) × Has d.tail (line L w' d.rec) × (writer_at w' d.tail ≡ name_of j d.number)) K s v'
          (λ h d a. still s h d (subst (λ (l : List Done). Contains l d) done a)) (λ j apart h d a. still j h d a);
      once = each_put (λ (j : ℕ) (u : Known). j < L.sessions → AllPairs (λ d e. d.tail ≢ e.tail) u.done) K s v' (λ h. subst (λ (l : List Done). AllPairs (λ d e. d.tail ≢ e.tail) l) (sym done) (sound.listed.once s h)) (λ j apart. sound.listed.once j);
      latched = each_put (λ (j : ℕ) (u : Known). j < L.sessions → 0 < u.hold.latch → Contains u.latched (u.hold.latch - 1)) K s v' (λ _. latch) (λ j apart. sound.listed.latched j);
      tails = λ range g h d. ⊎_elim
          (λ (old : Drawn L w.counts range g). ⊎_elim
          (λ (q : (r : ℕ) × (r < record_count L) × Has g (line L w r)). inl (q.0, q.1, subst (λ (zs : List ℕ). Has g zs) (sym (chain q.0 q.1)) q.2))
          (λ (q : (j : ℕ) × (j < L.sessions) × ((K j).hold.tail ≡ g)). inr (q.0, q.1, held q.0 g (let a = old.0 in omega arith) q.2))
          (sound.listed.tails range g h old))
          (λ (new : v'.hold.tail ≡ g). inr (s, low, ap (λ (u : Known). u.hold.tail) (put_here K s v') ∙ new)) (drawn range g h d);
    }
      where
        still : (j : ℕ) → j < L.sessions → (d : Done) → Contains (K j).done d → (d.rec < record_count L) × Has d.tail (line L w' d.rec) × (writer_at w' d.tail ≡ name_of j d.number)
        still j h d a = let q = sound.listed.only j h d a in (q.0, subst (λ (zs : List ℕ). Has d.tail zs) (sym (chain d.rec q.0)) q.1, by d.rec d.tail q.0 q.1 ∙ q.2)

        held : (j g : ℕ) → 0 < g → (K j).hold.tail ≡ g → (put K (session_of e) v' j).hold.tail ≡ g
        held j g some is = dite (ℕ_discrete j (session_of e))
            (λ f. let mine : (K (session_of e)).hold.tail ≡ g = ap (λ (i : ℕ). (K i).hold.tail) (sym f) ∙ is in ap (λ (u : Known). u.hold.tail) (ap (put K (session_of e) v') f ∙ put_here K (session_of e) v') ∙ (tail (omega arith) ∙ mine))
            (λ ne. ap (λ (u : Known). u.hold.tail) (put_else K (session_of e) v' j ne) ∙ is)

  -- nothing drawn, latched or done
  pub same : (e : Event) (low : session_of e < L.sessions) (ok : Enabled L (K (session_of e)) e) (stands : Stands L w (K (session_of e)) e) → ¬ IsInstall c sound e → (words_after L w (K (session_of e)) e).counts ≡ w.counts → (v' : Known) → v'.done ≡ (K (session_of e)).done → v'.hold ≡ (K (session_of e)).hold → v'.latched ≡ (K (session_of e)).latched
      → Listed L (words_after L w (K (session_of e)) e) (put K (session_of e) v')
  same e low ok stands other counts v' done hold list = listed_step e low ok stands other v' done
      (λ p. subst (λ (h : ℕ). Contains v'.latched (h - 1)) (sym (ap (λ x. x.latch) hold)) (subst (λ (l : List ℕ). Contains l ((K (session_of e)).hold.latch - 1)) (sym list) (sound.listed.latched (session_of e) low (let z = ap (λ x. x.latch) hold in omega arith))))
      (λ _. ap (λ x. x.tail) hold) (λ range g h d. inl (subst (λ (f : ℕ → ℕ). Drawn L f range g) counts d))

  looks : (s a : ℕ) → s < L.sessions → (p : Place) → Listed L w (put K s (look_at L w (K s) p))
  looks s a low ClockWord = same (Look s a) low tt tt (λ i. i) refl (look_at L w (K s) ClockWord) refl refl refl
  looks s a low EpochWord = same (Look s a) low tt tt (λ i. i) refl (look_at L w (K s) EpochWord) refl refl refl
  looks s a low RecordCounter = same (Look s a) low tt tt (λ i. i) refl (look_at L w (K s) RecordCounter) refl refl refl
  looks s a low (StateWord j n) = same (Look s a) low tt tt (λ i. i) refl (look_at L w (K s) (StateWord j n)) refl refl refl
  looks s a low (KeyWord r) = either (λ (u : Known). Listed L w (put K s u)) (gives_up (K s) r (w.keys r)) (given_up (K s)) (K s) (λ _. same (Look s a) low tt tt (λ i. i) refl (given_up (K s)) refl refl refl) (λ _. same (Look s a) low tt tt (λ i. i) refl (K s) refl refl refl)
  looks s a low (IndexWord q) = same (Look s a) low tt tt (λ i. i) refl (look_at L w (K s) (IndexWord q)) refl refl refl
  looks s a low (HeadWord r) = same (Look s a) low tt tt (λ i. i) refl (look_at L w (K s) (HeadWord r)) refl refl refl
  looks s a low (TailCounter range) = same (Look s a) low tt tt (λ i. i) refl (look_at L w (K s) (TailCounter range)) refl refl refl
  looks s a low (CellWord t p) = same (Look s a) low tt tt (λ i. i) refl (look_at L w (K s) (CellWord t p)) refl refl refl
  looks s a low CommitWord = same (Look s a) low tt tt (λ i. i) refl (K s) refl refl refl
  looks s a low (LogWord i) = same (Look s a) low tt tt (λ i. i) refl (K s) refl refl refl
  looks s a low (BeginWord i n) = same (Look s a) low tt tt (λ i. i) refl (K s) refl refl refl
  looks s a low (DirectoryWord i n) = same (Look s a) low tt tt (λ i. i) refl (K s) refl refl refl
  looks s a low (FrameWord i n) = same (Look s a) low tt tt (λ i. i) refl (K s) refl refl refl
  looks s a low (PinWord i) = same (Look s a) low tt tt (λ i. i) refl (K s) refl refl refl
  looks s a low (PostingWord i n) = same (Look s a) low tt tt (λ i. i) refl (look_at L w (K s) (PostingWord i n)) refl refl refl

  latches : (s r : ℕ) (low : s < L.sessions) (ok : Enabled L (K s) (Latch s r)) (stands : Stands L w (K s) (Latch s r)) → Listed L (words_after L w (K s) (Latch s r)) (put K s (cond (eqb (w.heads r % 2) 0) (latched L w (K s) r) (latch_lost L w (K s) r)))
  latches s r low ok stands = either (λ (u : Known). Listed L (words_after L w (K s) (Latch s r)) (put K s u)) (eqb (w.heads r % 2) 0) (latched L w (K s) r) (latch_lost L w (K s) r)
      (λ _. listed_step (Latch s r) low ok stands (λ i. i) (latched L w (K s) r) refl (λ _. subst (λ (x : ℕ). Contains ((K s).latched ++ r ∷ []) x) (let e : r ≡ r + 1 - 1 = omega arith in e) (contains_last (K s).latched r))
      (λ p. let idle = hand_idle L w w s (K s) (sound.versions.hands s low) ok.3 in let z = idle.0 in absurd (omega arith)) (λ range g h d. inl d))
      (λ _. same (Latch s r) low ok stands (λ i. i) refl (latch_lost L w (K s) r) refl refl refl)

  tails : (s range : ℕ) (low : s < L.sessions) (ok : Enabled L (K s) (DrawTail s range)) (stands : Stands L w (K s) (DrawTail s range)) → Listed L (words_after L w (K s) (DrawTail s range)) (put K s (cond (nat_lt (w.counts range) L.tails) (tail_drawn L w (K s) range) (tails_full w (K s) range)))
  tails s range low ok stands = let counts' : ℕ → ℕ = put w.counts range (w.counts range + 1) in let here : counts' range ≡ w.counts range + 1 = put_here w.counts range (w.counts range + 1) in
      either (λ (u : Known). Listed L (words_after L w (K s) (DrawTail s range)) (put K s u)) (nat_lt (w.counts range) L.tails) (tail_drawn L w (K s) range) (tails_full w (K s) range)
      (λ _. listed_step (DrawTail s range) low ok stands (λ i. i) (tail_drawn L w (K s) range) refl (sound.listed.latched s low) (λ p. let z = ok.2 in absurd (omega arith))
      (λ q g h d. dite (ℕ_discrete q range)
      (λ e. dite (ℕ_discrete g (range * L.tails + w.counts range + 1)) (λ f. inr (sym f))
      (λ ne. inl (d.0, d.1, let most = d.2 in let at : counts' q ≡ counts' range = ap counts' e in let row : q * L.tails + w.counts q ≡ range * L.tails + w.counts range = ap (λ (x : ℕ). x * L.tails + w.counts x) e in let row' : q * L.tails ≡ range * L.tails = ap (λ (x : ℕ). x * L.tails) e in omega arith)))
      (λ ne. inl (d.0, d.1, let most = d.2 in let at = put_else w.counts range (w.counts range + 1) q ne in omega arith))))
      (λ e. listed_step (DrawTail s range) low ok stands (λ i. i) (tails_full w (K s) range) refl (sound.listed.latched s low) (λ _. refl)
      (λ q g h d. inl (
        d.0,
        d.1,
        dite (ℕ_discrete q range)
            (λ f. let full : L.tails ≤ w.counts range = dite (dec_lt (w.counts range) L.tails) (λ x. absurd (true≢false (sym (lt-ltb (w.counts range) L.tails x) ∙ e))) (λ x. grind (arith, x)) in let same : w.counts q ≡ w.counts range = ap w.counts f in let top = d.1 in omega arith)
            (λ ne. let most = d.2 in let at = put_else w.counts range (w.counts range + 1) q ne in omega arith),
      )))

  -- an install adds one
  installs : (s : ℕ) (low : s < L.sessions) (whole : (K s).hold.is_whole ≡ true) (linked : w.cells (K s).hold.tail 2 ≡ (K s).hold.head) → Listed L (words_after L w (K s) (Install s)) (put K s (known_after L w (K s) (Install s)))
  installs s low whole linked = let v : Known = K s in let v' : Known = known_after L w v (Install s) in let w' : Words = words_after L w v (Install s) in let R : ℕ = v.hold.latch - 1 in let T : ℕ = v.hold.tail in let few = sound.sized.sessions.1 in
      let in_records = install_low L w K sound.sized sound.times sound.each sound.versions s low whole linked in let by : writer_at w T ≡ name_of s v.number = install_writer L w K sound.sized sound.times sound.each sound.versions s low whole linked in
      let item : Done = done_by v.number R T in let mine : put K s v' s ≡ v' = put_here K s v' in
      let session : writer_at w T % 16 ≡ s = ap (λ (x : ℕ). x % 16) by ∙ name_session s v.number (omega arith) in let number : writer_at w T / 16 ≡ v.number = ap (λ (x : ℕ). x / 16) by ∙ name_number s v.number (omega arith) in
      let kept : (j : ℕ) (d : Done) → Contains (K j).done d → Contains (put K s v' j).done d = λ j d a. each_put (λ (i : ℕ) (u : Known). Contains (K i).done d → Contains u.done d) K s v' (λ b. Contains-append_left v.done (item ∷ []) d b) (λ i apart b. b) j a in
      let new : (t : ℕ) → t ≡ T → Contains (put K s v' (writer_at w t % 16)).done (done_by (writer_at w t / 16) R t) = λ t e. subst (λ (y : ℕ). Contains (put K s v' (writer_at w y % 16)).done (done_by (writer_at w y / 16) R y)) (sym e)
      (subst (λ (y : ℕ). Contains (put K s v' y).done (done_by (writer_at w T / 16) R T)) (sym session) (subst (λ (y : ℕ). Contains (put K s v' s).done (done_by y R T)) (sym number) (subst (λ (u : Known). Contains u.done item) (sym mine) (contains_last v.done item)))) in
      record {
        every = λ r h t i. dite (ℕ_discrete r R)
            (λ e. subst (λ (q : ℕ). Contains (put K s v' (writer_at w t % 16)).done (done_by (writer_at w t / 16) q t)) (sym e) (⊎_elim (λ (f : t ≡ T). new t f) (λ (j : Has t (line L w R)). kept (writer_at w t % 16) (done_by (writer_at w t / 16) R t) (sound.listed.every R in_records t j))
            (subst (λ (zs : List ℕ). Has t zs) (install_chain L w K sound.sized sound.times sound.each sound.versions s low whole linked) (subst (λ (q : ℕ). Has t (line L w' q)) e i))))
            (λ ne. kept (writer_at w t % 16) (done_by (writer_at w t / 16) r t) (sound.listed.every r h t (subst (λ (zs : List ℕ). Has t zs) (install_other L w K sound.sized sound.times sound.each sound.versions s low whole linked r h ne).0 i)));
        only = each_put (λ (j : ℕ) (u : Known). j < L.sessions → (d : Done) → Contains u.done d → (d.rec < record_count L) × Has d.tail (line L w' d.rec) × (writer_at w' d.tail ≡ name_of j d.number)) K s v'
            (λ h d a. ⊎_elim (λ (old : Contains v.done d). still s h d old)
            (λ (q : Contains (item ∷ []) d). subst (λ (x : Done). (x.rec < record_count L) × Has x.tail (line L w' x.rec) × (writer_at w' x.tail ≡ name_of s x.number)) (contains_one item d q)
            (in_records, subst (λ (zs : List ℕ). Has T zs) (sym (install_chain L w K sound.sized sound.times sound.each sound.versions s low whole linked)) (inl refl), by))
            (Contains-append_cases v.done (item ∷ []) d a))
            (λ j apart h d a. still j h d a);
        once = each_put (λ (j : ℕ) (u : Known). j < L.sessions → AllPairs (λ d e. d.tail ≢ e.tail) u.done) K s v'
            (λ h. all_pairs_push (λ d e. d.tail ≢ e.tail) v.done item (sound.listed.once s h) (λ k d short e. let x : Done = get_or v.done k d in let q = sound.listed.only s h x (at_contains v.done k d short) in fresh x.rec q.0 (subst (λ (y : ℕ). Has y (line L w x.rec)) e q.1)))
            (λ j apart. sound.listed.once j);
        latched = each_put (λ (j : ℕ) (u : Known). j < L.sessions → 0 < u.hold.latch → Contains u.latched (u.hold.latch - 1)) K s v' (λ _ p. absurd (omega arith)) (λ j apart. sound.listed.latched j);
        tails = λ range g h d. ⊎_elim
            (λ (q : (r : ℕ) × (r < record_count L) × Has g (line L w r)). inl (q.0, q.1, grown q.0 g q.1 q.2))
            (λ (q : (j : ℕ) × (j < L.sessions) × ((K j).hold.tail ≡ g)). dite (ℕ_discrete q.0 s)
            (λ e. inl (R, in_records, subst (λ (zs : List ℕ). Has g zs) (sym (install_chain L w K sound.sized sound.times sound.each sound.versions s low whole linked)) (inl (sym q.2 ∙ ap (λ (i : ℕ). (K i).hold.tail) e))))
            (λ ne. inr (q.0, q.1, ap (λ (u : Known). u.hold.tail) (put_else K s v' q.0 ne) ∙ q.2)))
            (sound.listed.tails range g h d);
      }
    where
      grown : (r t : ℕ) → r < record_count L → Has t (line L w r) → Has t (line L (words_after L w (K s) (Install s)) r)
      grown r t h i = dite (ℕ_discrete r ((K s).hold.latch - 1))
          (λ e. subst (λ (q : ℕ). Has t (line L (words_after L w (K s) (Install s)) q)) (sym e) (subst (λ (zs : List ℕ). Has t zs) (sym (install_chain L w K sound.sized sound.times sound.each sound.versions s low whole linked)) (inr (subst (λ (q : ℕ). Has t (line L w q)) e i))))
          (λ ne. subst (λ (zs : List ℕ). Has t zs) (sym (install_other L w K sound.sized sound.times sound.each sound.versions s low whole linked r h ne).0) i)

      still : (j : ℕ) → j < L.sessions → (d : Done) → Contains (K j).done d → (d.rec < record_count L) × Has d.tail (line L (words_after L w (K s) (Install s)) d.rec) × (writer_at w d.tail ≡ name_of j d.number)
      still j h d a = let q = sound.listed.only j h d a in (q.0, grown d.rec d.tail q.0 q.1, q.2)

      -- the tail in hand is on no chain yet
      fresh : (r : ℕ) → r < record_count L → ¬ Has (K s).hold.tail (line L w r)
      fresh r h i = let k = sound.versions.hands s low in let some = k.some whole in let lines = sound.versions.lines r h in let same : r ≡ (K s).hold.latch - 1 = sym (lines.here (K s).hold.tail i) ∙ k.here whole in
          let top = links_low (back_in L w.cells) (head_of L r (w.heads r)) (line L w r) lines.links (K s).hold.tail i in let head = k.latched (k.holds some) in let above = k.above some in
          let half : w.heads ((K s).hold.latch - 1) / 2 ≡ (K s).hold.head = omega arith in
          let at : head_of L r (w.heads r) ≡ tail_at L.tails (range_of ((K s).hold.latch - 1)) (K s).hold.head = ap (λ (q : ℕ). head_of L q (w.heads q)) same ∙ ap (tail_at L.tails (range_of ((K s).hold.latch - 1))) half in omega arith

  pub listed_keeps : (e : Event) → session_of e < L.sessions → Enabled L (K (session_of e)) e → Stands L w (K (session_of e)) e → Listed L (words_after L w (K (session_of e)) e) (put K (session_of e) (known_after L w (K (session_of e)) e))
  listed_keeps (Look s a) low ok stands = looks s a low (place_of L a)
  listed_keeps (Begin s b r) low ok stands = same (Begin s b r) low ok stands (λ i. i) refl (known_after L w (K s) (Begin s b r)) refl refl refl
  listed_keeps (Take s) low ok stands = either (λ (u : Known). Listed L (words_after L w (K s) (Take s)) (put K s u)) (eqb w.turn 0) (took (K s)) (held_off (K s))
      (λ _. same (Take s) low ok stands (λ i. i) refl (took (K s)) refl refl refl) (λ _. same (Take s) low ok stands (λ i. i) refl (held_off (K s)) refl refl refl)
  listed_keeps (Log s) low ok stands = same (Log s) low ok stands (λ i. i) refl (known_after L w (K s) (Log s)) refl refl refl
  listed_keeps (State s) low ok stands = same (State s) low ok stands (λ i. i) refl (known_after L w (K s) (State s)) refl refl refl
  listed_keeps (Clock s) low ok stands = same (Clock s) low ok stands (λ i. i) refl (known_after L w (K s) (Clock s)) refl refl refl
  listed_keeps (Give s) low ok stands = same (Give s) low ok stands (λ i. i) refl (known_after L w (K s) (Give s)) refl refl refl
  listed_keeps (Close s) low ok stands = same (Close s) low ok stands (λ i. i) refl (known_after L w (K s) (Close s)) refl refl refl
  listed_keeps (DrawRecord s) low ok stands = either (λ (u : Known). Listed L (words_after L w (K s) (DrawRecord s)) (put K s u)) (nat_lt w.counter (record_count L)) (record_drawn w (K s)) (records_full w (K s))
      (λ _. same (DrawRecord s) low ok stands (λ i. i) refl (record_drawn w (K s)) refl refl refl) (λ _. same (DrawRecord s) low ok stands (λ i. i) refl (records_full w (K s)) refl refl refl)
  listed_keeps (StoreKey s k) low ok stands = same (StoreKey s k) low ok stands (λ i. i) refl (known_after L w (K s) (StoreKey s k)) refl refl refl
  listed_keeps (Claim s q) low ok stands = either (λ (u : Known). Listed L (words_after L w (K s) (Claim s q)) (put K s u)) (eqb (w.index q) 0) (claimed (K s) q) (claim_lost w (K s) q)
      (λ _. same (Claim s q) low ok stands (λ i. i) refl (claimed (K s) q) refl refl refl) (λ _. same (Claim s q) low ok stands (λ i. i) refl (claim_lost w (K s) q) refl refl refl)
  listed_keeps (Latch s r) low ok stands = latches s r low ok stands
  listed_keeps (DrawTail s range) low ok stands = tails s range low ok stands
  listed_keeps (StoreCell s p x) low ok stands = either (λ (u : Known). Listed L (words_after L w (K s) (StoreCell s p x)) (put K s u)) (eqb p 0) (cell_started L w (K s) p x) (word_stored (K s) p x)
      (λ _. listed_step (StoreCell s p x) low ok stands (λ i. i) (cell_started L w (K s) p x) refl (sound.listed.latched s low) (λ _. refl) (λ range g h d. inl d)) (λ _. same (StoreCell s p x) low ok stands (λ i. i) refl (word_stored (K s) p x) refl refl refl)
  listed_keeps (Install s) low ok stands = installs s low ok stands.0
  listed_keeps (Release s) low ok stands = listed_step (Release s) low ok stands (λ i. i) (known_after L w (K s) (Release s)) refl (λ p. absurd (omega arith)) (λ p. let z = ok.1 in absurd (omega arith)) (λ range g h d. inl d)
  listed_keeps (Stamp s range n) low ok stands = same (Stamp s range n) low ok stands (λ i. i) refl (K s) refl refl refl
  listed_keeps (Post s column q) low ok stands = either (λ (u : Known). Listed L (words_after L w (K s) (Post s column q)) (put K s u)) (eqb (w.postings column q) 0) (posted (K s) column q) (post_lost w (K s) column q)
      (λ _. same (Post s column q) low ok stands (λ i. i) refl (posted (K s) column q) refl refl refl) (λ _. same (Post s column q) low ok stands (λ i. i) refl (post_lost w (K s) column q) refl refl refl)
