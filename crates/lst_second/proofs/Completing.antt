-- Where a run has ended, each record is gathered that holds its value in a version that the session sees.
use Rattle.std.proofs.Common.{◌≡◌, ◌≢◌, ◌⊎◌, ⊎_elim, inl, inr, ℕ, ◌+◌, ◌-◌, ◌<◌, List, [], ◌∷◌, ◌++◌, Bool, true, false, cond, Contains, refl, sym, subst, ap, ◌∙◌, arith, slice_index}
use Rattle.std.proofs.lemmas.List.Elements.{Contains-append_left, Contains-append_cases}
use Rattle.lst_layout.specs.declared.limits.Limits.{Limits}
use Rattle.lst_layout.specs.Areas.{IsIndexed}
use Rattle.lst_layout.specs.Words.{Words, shown}
use Rattle.lst_layout.proofs.Functions.{get-listed, length-listed}
use Rattle.lst_model.specs.declared.acts.Act.{Act}
use Rattle.lst_model.specs.declared.acts.Write.{Write}
use Rattle.lst_model.specs.Histories.{acts_on, all_acts_on}
use Rattle.lst_core_state.specs.declared.known.Known.{Known}
use Rattle.lst_core_state.specs.declared.facts.Fact.TheVariants.{CellIs, IndexAt}
use Rattle.lst_core_state.specs.Lists.{Has, acts}
use Rattle.lst_core_state.specs.Index.{is_placed}
use Rattle.lst_core_state.specs.Cells.{has_number, listed, record_count, record_of}
use Rattle.lst_core_state.specs.Postings.{postings_size, value_position, IsAlike}
use Rattle.lst_core_state.specs.State.{Core, act_in, history_of, line, record_in, state_over}
use Rattle.lst_core_state.proofs.ListedPart.{contains_one}
use Rattle.lst_core_state.proofs.Positions.{placed_holds}
use Rattle.lst_core_state.proofs.Writes.{all_acts_on-append}
use Rattle.lst_core_state.proofs.Sightings.{committed_line}
use Rattle.lst_core_state.proofs.PostingsLaws.{versions_are_shown}
use Rattle.lst_rule.specs.declared.records.RecordId.{RecordId}
use Rattle.lst_rule.specs.declared.view.View.{View}
use Rattle.lst_rule.specs.Rule.{knows, hosts, Allowed}
use Rattle.lst_rule.proofs.Knowing.{is_fact, is_seen, knows_own}
use Rattle.lst_second.specs.Candidates.{puts_number, HasPut, KnownToHold, Holds}
use Rattle.lst_second.specs.Gathers.{AreCounted}
use Rattle.lst_rule.proofs.PostingFacts.{encoding_is, value_is, stands_is}
use Rattle.lst_second.proofs.Puts.{act_says}

-- an act of a chain is that of one of its tails
acts_contain : {A : Type 0} (p : ℕ → Bool) (a : ℕ → A) (ys : List ℕ) (x : A) → Contains (acts p a ys) x → (t : ℕ) × Has t ys × (a t ≡ x)
acts_contain p a [] x h = absurd (let low = h.1 in omega arith)
acts_contain {A} p a (y ∷ ys) x h = step (p y) (acts_contain p a ys x) h
  where
    step : (b : Bool) → (Contains (acts p a ys) x → (t : ℕ) × Has t ys × (a t ≡ x)) → Contains (cond b (acts p a ys ++ a y ∷ []) (acts p a ys)) x → (t : ℕ) × Has t (y ∷ ys) × (a t ≡ x)
    step true rest h = ⊎_elim
        (λ (g : Contains (acts p a ys) x). let q = rest g in (q.0, inr q.1, q.2))
        (λ (g : Contains (a y ∷ []) x). (y, inl refl, contains_one (a y) x g))
        (Contains-append_cases (acts p a ys) (a y ∷ []) x h)
    step false rest h = let q = rest h in (q.0, inr q.1, q.2)

module _ (v : View) (words : List ℕ) (known : ℕ → Known) (merger : Known) (a : Allowed v words known merger) (s : ℕ) (hosted : hosts v s ≡ true) where
  abbrev w : Words
  w = shown v.limits words

  abbrev l : Limits
  l = v.limits

  abbrev k : Known
  k = knows v s

  abbrev c : Core
  c = state_over v.limits words known merger

  -- ---- a tail that is known to hold the value

  module _ (column value rec : ℕ) (low : column < l.columns) (h : KnownToHold l k.facts column value rec) where
    stored : 0 < w.cells h.tail 0
    stored = (is_fact v words known merger a s hosted (CellIs h.tail h.words.0 h.encoding h.words.1 h.values) h.words.2).0

    here : record_in l w.cells h.tail ≡ rec
    here = ap (record_of l.tails h.tail) (encoding_is v words known merger a s hosted h.tail h.encoding h.values h.words) ∙ h.here

    pub holds_is : Holds l w column value rec
    holds_is = record {
      tail = h.tail;
      stored = stored;
      few = (a.sound.versions.stored h.tail stored).few;
      here = here;
      number = ap (λ (e : ℕ). has_number e column) (encoding_is v words known merger a s hosted h.tail h.encoding h.values h.words) ∙ h.number;
      same = value_is v words known merger a s hosted h.tail h.encoding column h.values h.words low ∙ h.same;
    }

    pub holds_low : rec < record_count l
    holds_low = subst (λ (r : ℕ). r < record_count l) here (a.sound.versions.stored h.tail stored).low

  -- ---- a record with an act that puts the value

  module _ (own : s < l.sessions) (column value rec : ℕ) (put : HasPut k column value rec) where
    place : (w.index put.position ≡ rec + 1) × (w.keys rec ≡ put.key)
    place = is_fact v words known merger a s hosted (IndexAt put.position rec put.key) put.at

    few : rec < record_count l
    few = let f = place.0 in let q = (a.sound.index.filled put.position (omega arith)).few in omega arith

    placed : is_placed l w.index rec ≡ true
    placed = let f = place.0 in placed_holds l w.index rec put.position (a.sound.index.filled put.position (omega arith)).position f

    -- the act is one of the chain's
    abbrev OnChain : Type 0
    OnChain = (t : ℕ) × Has t (line l w rec) × (act_in l w.cells t ≡ put.act)

    seen_chain : Contains (all_acts_on put.key k.seen) put.act → OnChain
    seen_chain h = let e = is_seen v words known merger a s hosted in acts_contain _ (act_in l w.cells) (line l w rec) put.act
        (subst (λ (xs : List Act). Contains xs put.act) (committed_line c a.sound rec few placed)
        (subst (λ (x : ℕ). Contains (all_acts_on x (history_of l w)) put.act) (sym place.1)
        (subst (λ (xs : List Act). Contains xs put.act) (sym (ap (all_acts_on put.key) e.1 ∙ all_acts_on-append put.key k.seen e.0))
        (Contains-append_left (all_acts_on put.key k.seen) (all_acts_on put.key e.0) put.act h))))

    own_chain : Contains (acts_on put.key k.own) put.act → OnChain
    own_chain h = choose (known s).is_open refl
      where
        mine : Contains (acts_on put.key (known s).own) put.act
        mine = subst (λ (u : Known). Contains (acts_on put.key u.own) put.act) (knows_own v words known merger a s hosted (λ e. omega arith)) h

        choose : (b : Bool) → (known s).is_open ≡ b → OnChain
        choose true on = acts_contain _ (act_in l w.cells) (line l w rec) put.act
            (subst (λ (xs : List Act). Contains xs put.act) ((a.sound.owned s own).each on rec few placed)
            (subst (λ (x : ℕ). Contains (acts_on x (known s).own) put.act) (sym place.1) mine))
        choose false off = let none : Contains (acts_on put.key []) put.act = subst (λ (ws : List Write). Contains (acts_on put.key ws) put.act) ((a.sound.owned s own).none off) mine in
            absurd (let low = none.1 in omega arith)

    chain : OnChain
    chain = ⊎_elim seen_chain own_chain (Contains-append_cases (all_acts_on put.key k.seen) (acts_on put.key k.own) put.act put.known)

    abbrev t : ℕ
    t = chain.0

    -- whose words hold the value
    words_hold : column < l.columns → (has_number (w.cells t 1) column ≡ true) × (w.cells t (3 + column) ≡ value)
    words_hold low = let image = a.sound.tail_words.images t ((a.sound.versions.lines rec few).stored t chain.1) in
        let q = act_says l.columns (w.cells t 1) column value (listed (w.cells t) 3 l.columns) (λ p. w.cells t (3 + p)) image (length-listed (w.cells t) 3 l.columns) low (ap (puts_number column value) chain.2 ∙ put.puts) in
        (q.0, sym (get-listed (w.cells t) 3 l.columns column 0 low) ∙ q.1)

    -- so a tail in the run shows it
    pub put_counted : (records : List RecordId) (n : ℕ) → column < l.columns → IsIndexed l column → n < postings_size l → w.postings column (value_position l value n) ≡ 0 → AreCounted l k.facts column value records n → Contains records record { number = rec }
    put_counted records n low indexed short empty counted = let h = words_hold low in let i = versions_are_shown c a.sound column value n low indexed short empty rec t few chain.1 h.0 h.1 in
        let q = counted i.0 i.1 in let f = stands_is v words known merger a s hosted column value i.0 q.0 q.1 in
        let alike : IsAlike l w.cells column rec value q.0 = subst (λ (y : ℕ). IsAlike l w.cells column rec value y) f.1 i.3 in
        ⊎_elim
        (λ (other : slice_index q.2.values column ≢ value). absurd (other (sym (value_is v words known merger a s hosted q.0 q.2.encoding column q.2.values q.2.words low) ∙ alike.1)))
        (λ (among : Contains records record { number = record_of l.tails q.0 q.2.encoding }). subst (λ (r : ℕ). Contains records record { number = r })
        (ap (record_of l.tails q.0) (sym (encoding_is v words known merger a s hosted q.0 q.2.encoding q.2.values q.2.words)) ∙ alike.0) among)
        q.2.counted
