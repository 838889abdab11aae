-- What loads and latches find of a chain and of its versions.
use mathlib.Core.Logic.{dite}
use native.Mathlib.Decide.{ℕ_discrete}
use Rattle.std.proofs.Common.{◌≡◌, ◌≢◌, ◌⊎◌, ⊎_elim, ◌&&◌, ◌≤◌, Bool, ℕ, ◌+◌, ◌*◌, ◌/◌, ◌%◌, ◌<◌, List, [], ◌∷◌, ◌++◌, true, cond, eqb, get_or, Contains, refl, sym, subst, ap, ◌∙◌, arith, true≢false, eq-eqb, ne_eqb}
use Rattle.std.proofs.lemmas.List.Elements.{Contains-append_left, Contains-append_right}
use Rattle.lst_layout.specs.declared.limits.Limits.{Limits}
use Rattle.lst_layout.specs.declared.place.Place.{Place}
use Rattle.lst_layout.specs.declared.place.Place.TheVariants.{StateWord, HeadWord, TailCounter, CellWord}
use Rattle.lst_layout.specs.Addresses.{address}
use Rattle.lst_layout.specs.Words.{shown}
use Rattle.lst_layout.proofs.Places.{addresses_are_read}
use Rattle.lst_core_state.specs.Lists.{Has, is_until}
use Rattle.lst_core_state.specs.declared.known.Known.{Known}
use Rattle.lst_core_state.specs.declared.events.Event.{Event}
use Rattle.lst_core_state.specs.declared.events.Event.TheVariants.{Look, Latch}
use Rattle.lst_core_state.specs.declared.facts.Fact.{Fact}
use Rattle.lst_core_state.specs.declared.facts.Fact.TheVariants.{StateAt, CommitAt, TailsAtLeast}
use Rattle.lst_core_state.specs.declared.facts.Find.{Find}
use Rattle.lst_core_state.specs.declared.facts.Find.TheVariants.{UnfinishedVersion}
use Rattle.lst_core_state.specs.Cells.{record_count, range_of, record_of}
use Rattle.lst_core_state.specs.Facts.{IsFact, index_facts, chain_facts, range_facts, state_fact, stored_fact, commit_fact, active_find, unfinished}
use Rattle.lst_core_state.specs.State.{Core, Words, line, head_of, back_in, writer, name_of, record_in}
use Rattle.lst_core_state.specs.Step.{look_at, is_reading, latched, latch_lost}
use Rattle.lst_core_state.specs.Sound.{Drawn, Sound, FactsOf, StoredOf}
use Rattle.lst_core_state.proofs.Functions.{either}
use Rattle.lst_core_state.proofs.Steps.{writer_odd, writer_even}
use Rattle.lst_core_state.proofs.FactsPart.{more_facts, index_are_facts, chain_are_facts, range_has, look_facts}
use Rattle.lst_core_state.proofs.Reading.{links_head}
use Rattle.lst_core_state.proofs.CellsKept.{tail_at-some}
use Rattle.lst_core_state.specs.Index.{size}
use Rattle.lst_core_state.specs.State.{state_over}
use Rattle.lst_rule.specs.declared.view.View.{View}
use Rattle.lst_rule.specs.Rule.{knows, hosts}
use Rattle.lst_rule.specs.Learned.{Met}
use Rattle.lst_rule.proofs.Knowing.{is_fact}
use Rattle.lst_rule.specs.Copies.{Version, fact_of, IsVersionOf, Includes}
use Rattle.lst_rule.specs.Seen.{is_early, SeesAlike}
use Rattle.lst_rule.specs.Loads.{ChainFound, StartFound, StateFound}
use Rattle.lst_rule.specs.Laws.{RangesAreFound, LoadsFindChains, LatchesFindChains, StartsAreFound, TailsAreFound, WordsAreFound, StatesAreFound, UnfinishedIsAbout}
use Rattle.lst_rule.proofs.Copying.{listed_at, version_at, stored_is}
use Rattle.lst_rule.proofs.Seeing.{chain_found}
use Rattle.lst_rule.proofs.StatusTelling.{low, is_known, is_on_known, state_tells}

-- ---- chains

-- what a session knows that is as much as it knew, with the facts of a chain that is as it was
chain_met : (v w : View) (e : Event) (p : Place) (x y s rec : ℕ) (k : Known) → hosts v s ≡ true → (m : Met v w e p x y) → knows w s ≡ k → rec < record_count v.limits
    → FactsOf v.limits (shown v.limits m.made.told.words) k.facts → Includes k.facts (chain_facts v.limits (shown v.limits m.made.told.words) rec) → SeesAlike (knows v s) k → Includes k.facts (knows v s).facts → k.is_open ≡ (knows v s).is_open
    → (shown v.limits m.made.told.words).heads rec ≡ y → ChainFound w.limits (knows w s) s rec (y / 2)
chain_met v w e p x y s rec k hosted m now below facts all same older is_open head = let t = m.made.told in let a = t.allowed in
    subst (λ (l : Limits). ChainFound l (knows w s) s rec (y / 2)) (sym m.made.view.limits) (subst (λ (u : Known). ChainFound v.limits u s rec (y / 2)) (sym now)
    (subst (λ (z : ℕ). ChainFound v.limits k s rec (z / 2)) head
    (chain_found (state_over v.limits t.words t.known t.merger) a.sound s rec k below facts all
    (λ is_on. let was : (knows v s).is_open ≡ true = sym is_open ∙ is_on in
    (low v t.words t.known t.merger a s hosted was, is_on_known v t.words t.known t.merger a s hosted was, subst (λ (u : Known). SeesAlike u k) (is_known v t.words t.known t.merger a s hosted was) same, subst (λ (u : Known). Includes k.facts u.facts) (is_known v t.words t.known t.merger a s hosted was) older)))))

-- the number that an indirection word names was drawn
head_drawn : (c : Core) → Sound c → (rec range : ℕ) → rec < record_count c.limits → range_of rec ≡ range → c.words.heads rec / 2 ≤ c.words.counts range
head_drawn c sound rec range below is = dite (ℕ_discrete (c.words.heads rec / 2) 0)
    (λ none. omega (arith, none))
    (λ ne. let L = sound.versions.lines rec below in let h : ℕ = head_of c.limits rec (c.words.heads rec) in let n : ℕ = c.words.heads rec / 2 in
    let at : h ≡ range_of rec * c.limits.tails + n = tail_at-some c.limits.tails (range_of rec) n (omega (arith, ne)) in
    ⊎_elim (λ (z : h ≡ 0). absurd (omega (arith, at, z, ne)))
    (λ (i : Has h (line c.limits c.words rec)). drawn n h at (subst (λ (r : ℕ). Drawn c.limits c.words.counts (range_of r) h) (L.here h i) (sound.versions.stored h (L.stored h i)).drawn).2)
    (links_head (back_in c.limits c.words.cells) h (line c.limits c.words rec) L.links))
  where
    drawn : (n h : ℕ) → h ≡ range_of rec * c.limits.tails + n → h ≤ range_of rec * c.limits.tails + c.words.counts (range_of rec) → n ≤ c.words.counts range
    drawn n h at low = subst (λ (r : ℕ). n ≤ c.words.counts r) is (let e = at in omega (arith, low))

pub loads_find_chains : LoadsFindChains
loads_find_chains v w s rec x hosted below m = let t = m.made.told in let W : Words = shown v.limits t.words in let k : Known = knows v s in
    let old : FactsOf v.limits W k.facts = is_fact v t.words t.known t.merger t.allowed s hosted in
    chain_met v w (Look s (address v.limits (HeadWord rec))) (HeadWord rec) x x s rec (look_at v.limits W k (HeadWord rec)) hosted m
    (m.made.view.now ∙ ap (look_at v.limits W k) ((addresses_are_read v.limits t.allowed.sound.sized).back (HeadWord rec) below)) below
    (more_facts v.limits W k.facts (chain_facts v.limits W rec) old (chain_are_facts (state_over v.limits t.words t.known t.merger) t.allowed.sound rec below))
    (λ f h. Contains-append_right k.facts (chain_facts v.limits W rec) f h)
    record { number = refl; begin = refl; own = refl; front = refl } (λ f h. Contains-append_left k.facts (chain_facts v.limits W rec) f h) refl m.found

-- a session that reads finds all chains of a range at its counter
pub ranges_are_found : RangesAreFound
ranges_are_found v w s range x rec hosted is_on free inside m below is = let t = m.made.told in let W : Words = shown v.limits t.words in let k : Known = knows v s in let a = t.allowed in
    let more : List Fact = TailsAtLeast range (W.counts range) ∷ cond (is_reading k) (range_facts v.limits W range) [] in let u : Known = look_at v.limits W k (TailCounter range) in
    let now : knows w s ≡ u = m.made.view.now ∙ ap (look_at v.limits W k) ((addresses_are_read v.limits a.sound.sized).back (TailCounter range) inside) in
    let old : FactsOf v.limits W k.facts = is_fact v t.words t.known t.merger a s hosted in
    let facts : FactsOf v.limits W u.facts = look_facts (state_over v.limits t.words t.known t.merger) a.sound k old (TailCounter range) inside in
    let all : Includes u.facts (chain_facts v.limits W rec) = λ f h. Contains-append_right k.facts more f (Contains-append_right (TailsAtLeast range (W.counts range) ∷ []) (cond (is_reading k) (range_facts v.limits W range) []) f
    (subst (λ (b : Bool). Contains (cond b (range_facts v.limits W range) []) f) (sym (λ i. is_on i && eq-eqb k.hold.latch 0 free i))
    (range_has v.limits W range (rec % 256) f (omega arith) (subst (λ (r : ℕ). Contains (chain_facts v.limits W r) f) (let e : rec ≡ 256 * range + rec % 256 = omega (arith, is) in e) h)))) in
    let found : ChainFound v.limits u s rec (W.heads rec / 2) = chain_found (state_over v.limits t.words t.known t.merger) a.sound s rec u below facts all
    (λ _. (
      low v t.words t.known t.merger a s hosted is_on,
      is_on_known v t.words t.known t.merger a s hosted is_on,
      subst (λ (z : Known). SeesAlike z u) (is_known v t.words t.known t.merger a s hosted is_on) record { number = refl; begin = refl; own = refl; front = refl },
      subst (λ (z : Known). Includes u.facts z.facts) (is_known v t.words t.known t.merger a s hosted is_on) (λ f h. Contains-append_left k.facts more f h),
    )) in (
      W.heads rec / 2,
      subst (λ (n : ℕ). W.heads rec / 2 ≤ n) m.found (head_drawn (state_over v.limits t.words t.known t.merger) a.sound rec range below is),
      subst (λ (l : Limits). ChainFound l (knows w s) s rec (W.heads rec / 2)) (sym m.made.view.limits) (subst (λ (z : Known). ChainFound v.limits z s rec (W.heads rec / 2)) (sym now) found),
    )

pub latches_find_chains : LatchesFindChains
latches_find_chains v w s rec x y hosted m = let t = m.made.told in let W : Words = shown v.limits t.words in let k : Known = knows v s in let below = t.within.1 in
    let old : FactsOf v.limits W k.facts = is_fact v t.words t.known t.merger t.allowed s hosted in
    let chain = chain_are_facts (state_over v.limits t.words t.known t.merger) t.allowed.sound rec below in
    either (λ (u : Known). knows w s ≡ u → ChainFound w.limits (knows w s) s rec (y / 2)) (eqb (W.heads rec % 2) 0) (latched v.limits W k rec) (latch_lost v.limits W k rec)
    (λ _ now. chain_met v w (Latch s rec) (HeadWord rec) x y s rec (latched v.limits W k rec) hosted m now below
    (more_facts v.limits W k.facts (index_facts v.limits W ++ chain_facts v.limits W rec) old (more_facts v.limits W (index_facts v.limits W) (chain_facts v.limits W rec) (index_are_facts v.limits W (size v.limits)) chain))
    (λ f h. Contains-append_right k.facts (index_facts v.limits W ++ chain_facts v.limits W rec) f (Contains-append_right (index_facts v.limits W) (chain_facts v.limits W rec) f h))
    record { number = refl; begin = refl; own = refl; front = refl } (λ f h. Contains-append_left k.facts (index_facts v.limits W ++ chain_facts v.limits W rec) f h) refl m.found)
    (λ _ now. chain_met v w (Latch s rec) (HeadWord rec) x y s rec (latch_lost v.limits W k rec) hosted m now below
    (more_facts v.limits W k.facts (chain_facts v.limits W rec) old chain)
    (λ f h. Contains-append_right k.facts (chain_facts v.limits W rec) f h)
    record { number = refl; begin = refl; own = refl; front = refl } (λ f h. Contains-append_left k.facts (chain_facts v.limits W rec) f h) refl m.found)
    m.made.view.now

-- ---- words of tails

-- a load of a word of a version's tail
module _ (v w : View) (s rec p x : ℕ) (c : Version) (hosted : hosts v s ≡ true) (is : IsVersionOf v.limits rec c) (known : Contains (knows v s).facts (fact_of c)) (inside : p < 3 + v.limits.columns) (m : Met v w (Look s (address v.limits (CellWord c.tail p))) (CellWord c.tail p) x x) where
  abbrev pub W : Words
  W = shown v.limits m.made.told.words

  pub fact : IsFact v.limits (shown v.limits m.made.told.words) (fact_of c)
  fact = let t = m.made.told in is_fact v t.words t.known t.merger t.allowed s hosted (fact_of c) known

  pub cell_now : knows w s ≡ look_at v.limits (shown v.limits m.made.told.words) (knows v s) (CellWord c.tail p)
  cell_now = m.made.view.now ∙ ap (look_at v.limits (shown v.limits m.made.told.words) (knows v s)) ((addresses_are_read v.limits m.made.told.allowed.sound.sized).back (CellWord c.tail p) (is.some, is.few, inside))

-- the commit that a stamp tells
commit_at : (log : ℕ → ℕ) (x name : ℕ) → 0 < x → x % 2 ≡ 0 → log (x / 2) ≡ name → Contains (commit_fact log x) (CommitAt (x / 2) (name % 16) (name / 16))
commit_at log x name some even is = subst (λ (n : ℕ). Contains (commit_fact log x) (CommitAt (x / 2) (n % 16) (n / 16))) is
    (let here : Fact = CommitAt (x / 2) (log (x / 2) % 16) (log (x / 2) / 16) in
    either (λ (fs : List Fact). Contains fs here) (eqb x 0) [] (cond (eqb (x % 2) 0) (here ∷ []) []) (λ z. absurd (true≢false (sym z ∙ ne_eqb x 0 (λ e. omega arith))))
    (λ _. either (λ (fs : List Fact). Contains fs here) (eqb (x % 2) 0) (here ∷ []) [] (λ _. (0, omega arith, refl)) (λ z. absurd (true≢false (sym (eq-eqb (x % 2) 0 even) ∙ z)))))

-- what a load of a version's start word tells
start_found : (v w : View) (s rec x : ℕ) (c : Version) (m : Met v w (Look s (address v.limits (CellWord c.tail 0))) (CellWord c.tail 0) x x) → knows w s ≡ look_at v.limits (shown v.limits m.made.told.words) (knows v s) (CellWord c.tail 0)
    → IsVersionOf v.limits rec c → IsFact v.limits (shown v.limits m.made.told.words) (fact_of c) → StartFound (knows w s) rec c x
start_found v w s rec x c m now is f = subst (λ (u : Known). StartFound u rec c x) (sym now) (let t = m.made.told in let V = t.allowed.sound.versions in
    let log : ℕ → ℕ = (shown v.limits t.words).log in let cells : ℕ → ℕ → ℕ = (shown v.limits t.words).cells in
    let start : cells c.tail 0 ≡ x = m.found in let some : 0 < cells c.tail 0 = f.0 in
    let name : writer log x ≡ c.writer = ap (writer log) (sym start) ∙ f.1 in record {
      some = omega arith;
      named = λ odd. let e : writer log x ≡ x / 2 = writer_odd log x odd in omega arith;
      stamped = λ even. (
        (let q = ((V.stored c.tail some).stamped (ap (λ (z : ℕ). z % 2) start ∙ even)).0 in omega arith),
        Contains-append_right (knows v s).facts (stored_fact v.limits (shown v.limits t.words) c.tail ++ commit_fact log (cells c.tail 0)) (CommitAt (x / 2) (c.writer % 16) (c.writer / 16))
            (Contains-append_right (stored_fact v.limits (shown v.limits t.words) c.tail) (commit_fact log (cells c.tail 0)) (CommitAt (x / 2) (c.writer % 16) (c.writer / 16))
            (subst (λ (z : ℕ). Contains (commit_fact log z) (CommitAt (x / 2) (c.writer % 16) (c.writer / 16))) (sym start) (commit_at log x c.writer (omega arith) even (sym (writer_even log x even) ∙ name)))),
      );
      start = start;
      about = ap (λ (e : ℕ). record_of v.limits.tails c.tail e + 1) f.2 ∙ ap (λ (r : ℕ). r + 1) is.here;
      tail = refl;
    })

pub starts_are_found : StartsAreFound
starts_are_found v w s rec x c hosted is known m = start_found v w s rec x c m (cell_now v w s rec 0 x c hosted is known (omega arith) m) is (fact v w s rec 0 x c hosted is known (omega arith) m)

pub tails_are_found : TailsAreFound
tails_are_found v w s tail x hosted some few m positive = let t = m.made.told in let W : Words = shown v.limits t.words in let S = t.allowed.sound in
    let stored : 0 < W.cells tail 0 = (let e : W.cells tail 0 ≡ x = m.found in omega arith) in
    let c : Version = version_at v.limits W tail in
    let k : StoredOf v.limits W t.known tail = S.versions.stored tail stored in
    let is : IsVersionOf v.limits (record_in v.limits W.cells tail) c = stored_is (state_over v.limits t.words t.known t.merger) S tail some stored in
    let now : knows w s ≡ look_at v.limits W (knows v s) (CellWord tail 0) = m.made.view.now ∙ ap (look_at v.limits W (knows v s)) ((addresses_are_read v.limits S.sized).back (CellWord tail 0) (some, few, omega arith)) in record {
      rec = record_in v.limits W.cells tail;
      version = c;
      at = refl;
      is = subst (λ (l : Limits). IsVersionOf l (record_in v.limits W.cells tail) c) (sym m.made.view.limits) is;
      known = subst (λ (u : Known). Contains u.facts (fact_of c)) (sym now) (Contains-append_right (knows v s).facts (stored_fact v.limits W tail ++ commit_fact W.log (W.cells tail 0)) (fact_of c)
          (Contains-append_left (stored_fact v.limits W tail) (commit_fact W.log (W.cells tail 0)) (fact_of c)
          (either (λ (fs : List Fact). Contains fs (fact_of c)) (eqb (W.cells tail 0) 0) [] (fact_of c ∷ []) (λ z. absurd (true≢false (sym z ∙ ne_eqb (W.cells tail 0) 0 (λ e. omega arith)))) (λ _. (0, omega arith, refl)))));
      start = start_found v w s (record_in v.limits W.cells tail) x c m now is (stored, refl, refl, refl, refl);
    }

pub words_are_found : WordsAreFound
words_are_found v w s rec p x c hosted is known inside m = let f = fact v w s rec p x c hosted is known inside m in let cells : ℕ → ℕ → ℕ = (shown v.limits m.made.told.words).cells in let here : cells c.tail p ≡ x = m.found in record {
  encoding = λ e. sym here ∙ (ap (cells c.tail) e ∙ f.2);
  back = λ e. sym here ∙ (ap (cells c.tail) e ∙ f.3);
  value = λ i low e. sym here ∙ (ap (cells c.tail) e ∙ (sym (listed_at (cells c.tail) 3 v.limits.columns i low) ∙ ap (λ (xs : List ℕ). get_or xs i 0) f.4));
}

-- ---- state words

pub states_are_found : StatesAreFound
states_are_found v w s name x hosted session begun number m = let t = m.made.told in let W : Words = shown v.limits t.words in let k : Known = knows v s in let p : Place = StateWord (name % 16) (name / 16) in
    let found : W.states (name % 16) (name / 16) ≡ x = m.found in
    subst (λ (u : Known). StateFound k u name x) (sym (m.made.view.now ∙ ap (look_at v.limits W k) ((addresses_are_read v.limits t.allowed.sound.sized).back p (session, begun, number)))) record {
      early = λ is_on. subst (λ (y : ℕ). is_early k name ≡ is_until k.begin y) found (state_tells v t.words t.known t.merger t.allowed s hosted is_on name session);
      fact = λ some. Contains-append_right k.facts (state_fact W (name % 16) (name / 16)) (StateAt (name % 16) (name / 16) x)
          (subst (λ (y : ℕ). Contains (state_fact W (name % 16) (name / 16)) (StateAt (name % 16) (name / 16) y)) found
          (let here : Fact = StateAt (name % 16) (name / 16) (W.states (name % 16) (name / 16)) in either (λ (fs : List Fact). Contains fs here) (eqb (W.states (name % 16) (name / 16)) 0) [] (here ∷ [])
          (λ z. absurd (true≢false (sym z ∙ ne_eqb (W.states (name % 16) (name / 16)) 0 (λ e. omega arith)))) (λ _. (0, omega arith, refl))));
      find = λ none. Contains-append_right k.finds (active_find k (name % 16) (name / 16) (W.states (name % 16) (name / 16))) (unfinished k (name % 16) (name / 16))
          (let here : Find = unfinished k (name % 16) (name / 16) in either (λ (fs : List Find). Contains fs here) (eqb (W.states (name % 16) (name / 16)) 0) (here ∷ []) []
          (λ _. (0, omega arith, refl)) (λ z. absurd (true≢false (sym (eq-eqb (W.states (name % 16) (name / 16)) 0 (found ∙ none)) ∙ z))));
    }

pub unfinished_is_about : UnfinishedIsAbout
unfinished_is_about v rec c is_on found few = let same : 1 + 2 * name_of (c.writer % 16) (c.writer / 16) ≡ 1 + 2 * c.writer = omega arith in
    let yes : eqb v.looks.start (1 + 2 * name_of (c.writer % 16) (c.writer / 16)) ≡ true = eq-eqb v.looks.start (1 + 2 * name_of (c.writer % 16) (c.writer / 16)) (found.start ∙ sym same) in
    λ i. UnfinishedVersion (cond (yes i) (found.about i) 0) (cond (yes i) (found.tail i) 0) (c.writer % 16) (c.writer / 16) (cond (is_on i) (v.begin + 1) 0)
