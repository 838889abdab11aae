-- A key's record is found, and its row read.
use Rattle.std.proofs.Common.{◌≡◌, ⊎_elim, ℕ, ◌<◌, List, [], true, false, refl, sym, subst, ap, ◌∙◌, arith, inl, inr}
use Rattle.std.specs.Prelude.{Option, None}
use Rattle.lst_layout.specs.declared.limits.Limits.{Limits}
use Rattle.lst_model.specs.Cells.{Cell}
use Rattle.lst_model.specs.Histories.{row_from}
use Rattle.lst_model.specs.Tables.{row_of}
use Rattle.lst_model.specs.declared.lines.Call.TheVariants.{Get}
use Rattle.lst_machine.specs.State.{Opened}
use Rattle.lst_machine.specs.Writes.{sight_of}
use Rattle.lst_machine.specs.Calls.{in_open, row_reply}
use Rattle.lst_walk.proofs.Walking.{row_of_key}
use Rattle.lst_core_state.specs.declared.known.Known.{Known}
use Rattle.lst_core_state.specs.declared.known.Placing.{Placing}
use Rattle.lst_core_state.specs.State.{sight}
use Rattle.lst_rule.specs.declared.view.View.{View}
use Rattle.lst_rule.specs.Rule.{knows}
use Rattle.lst_rule.specs.Learned.{Possible, Kept}
use Rattle.lst_index.specs.Searches.{Works, Keeps}
use Rattle.lst_session.specs.Traces.{Reads}
use Rattle.lst_refinement.proofs.Owns.{sights_are_told}
use Rattle.lst_session.specs.Crews.{words_of, store_told}
use Rattle.lst_session.proofs.Crewed.{IsCrewView, StoreAnswers, core_of, known_is, is_crew, told_is, opened_some, kept_words, stamped_is, same_draws, crew_after, told_stays, watched_crew, watched_told}

-- what the machine's transaction sees of a key is its session's sight
pub sight_is : (v : View) → IsCrewView v → Possible v → (s : ℕ) → s < v.limits.sessions → (knows v s).is_open ≡ true → (key : ℕ) → row_of (sight_of v.limits (store_told v) s (knows v s).begin) key ≡ row_from None (sight (knows v s) key)
sight_is v crew p s low opened key = let known = known_is v crew p s low in
    (λ i. row_of (sight_of v.limits (told_is v crew p i) s (known i).begin) key) ∙ (sights_are_told (core_of v crew p) (is_crew v crew p) s key low (ap (λ (k : Known). k.is_open) (sym known) ∙ opened)
    ∙ ap (λ (k : Known). row_from None (sight k key)) (sym known))

-- ---- a search for a key's record

module _ (v w : View) (s : ℕ) (works : Works v w s []) (kept : Kept v w) (keeps : Keeps (knows v s).placing (knows w s).placing) (crew : IsCrewView v) (low : s < v.limits.sessions) where
  placing_stays : (knows w s).placing ≡ (knows v s).placing
  placing_stays = ⊎_elim (λ (e : (knows w s).placing ≡ (knows v s).placing). e) (λ (h : (0 < (knows v s).placing.hand) × ((knows w s).placing ≡ record (knows v s).placing { hand = 0; has_key = false })). let none = (crew.idle s low).rec in let some = h.0 in absurd (omega arith)) keeps

  found_words : words_of w ≡ words_of v
  found_words = kept_words v w works.view.limits kept crew.whole

  pub found_crew : IsCrewView w
  found_crew = let i = crew.idle s low in crew_after v w s _ works.view crew (record { rec = ap (λ (x : Placing). x.hand) placing_stays ∙ i.rec; hold = i.hold; turn = i.turn }) (same_draws (words_of v) (words_of w) found_words)

  pub found_told : store_told w ≡ store_told v
  found_told = told_stays v w s _ works.view (record { number = refl; begin = refl; read_only = refl; is_open = refl }) (stamped_is (words_of v) (words_of w) found_words)

  pub found_open : (knows w s).is_open ≡ (knows v s).is_open
  found_open = ap (λ (k : Known). k.is_open) works.view.now

  pub found_sight : (key : ℕ) → sight (knows w s) key ≡ sight (knows v s) key
  found_sight key = ap (λ (k : Known). sight k key) works.view.now

  pub found_low : s < w.limits.sessions
  found_low = subst (λ (l : Limits). s < l.sessions) (sym works.view.limits) low

-- ---- reads

module _ (v w : View) (s key : ℕ) (row : Option (List Cell)) (crew : IsCrewView v) (p : Possible v) (low : s < v.limits.sessions) (opened : (knows v s).is_open ≡ true) where
  answers_row : row ≡ row_from None (sight (knows v s) key) → store_told w ≡ store_told v → w.limits ≡ v.limits → StoreAnswers v w s (Get key) (row_reply row)
  answers_row is told same = let is_opened = opened_some v s low opened in record {
    reply = ap row_reply (is ∙ sym (sight_is v crew p s low opened key)) ∙ (λ i. in_open (sym is_opened i) (λ (t : Opened). row_reply (row_of (sight_of v.limits (store_told v) s t.begin) key)));
    next = told;
    limits = same;
  }

  pub get_answers : Reads v w s key row → IsCrewView w × StoreAnswers v w s (Get key) (row_reply row)
  get_answers (inl none) = let f = none.1 in (
    found_crew v w s f.works f.kept f.keeps crew low,
    answers_row
        (none.0 ∙ ap (row_from None) (sym (sym (found_sight v w s f.works f.kept f.keeps crew low key) ∙ f.unseen.own (found_open v w s f.works f.kept f.keeps crew low ∙ opened))))
        (found_told v w s f.works f.kept f.keeps crew low) f.works.view.limits,
  )
  get_answers (inr r) = let f = r.found in let between = found_crew v r.between s f.works f.kept f.keeps crew low in (
    watched_crew r.between w s r.watched between (found_low v r.between s f.works f.kept f.keeps crew low),
    answers_row
        (row_of_key r.between s r.rec row r.is key f.placed ∙ ap (row_from None) (found_sight v r.between s f.works f.kept f.keeps crew low key))
        (watched_told r.between w s r.watched between.whole ∙ found_told v r.between s f.works f.kept f.keeps crew low) (r.watched.learns.limits ∙ f.works.view.limits),
  )
