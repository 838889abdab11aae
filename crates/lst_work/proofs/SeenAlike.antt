-- When sessions have seen alike: those of a crew that was parted, and what leaves it so.
use Rattle.std.proofs.Common.{◌≡◌, ◌⊎◌, inl, inr, ⊎_elim, ℕ, ◌<◌, ◌≤◌, List, [], ◌∷◌, ◌++◌, true, length, take, drop, get_or, eqb-true, refl, sym, subst, ap, ◌∙◌, arith, append_assoc, append-nil}
use Rattle.std.specs.Prelude.{Some, None}
use Rattle.std.specs.List.{Contains}
use Rattle.std.proofs.lemmas.List.Elements.{Contains-append_right}
use Rattle.std.proofs.lemmas.List.{take-append-le, take_all, take-append-drop, length-take-le}
use Rattle.lst_layout.specs.Words.{shown}
use Rattle.lst_model.specs.declared.acts.Act.{Act}
use Rattle.lst_model.specs.declared.commits.Commit.{Commit}
use Rattle.lst_model.specs.Cells.{Cell}
use Rattle.lst_model.specs.Histories.{Extends, all_acts_on, acts_on, row_from}
use Rattle.lst_model.specs.Tables.{row_of}
use Rattle.lst_model.proofs.Folds.{get_snapshot}
use Rattle.lst_core_state.specs.declared.known.Known.{Known}
use Rattle.lst_core_state.specs.declared.facts.Fact.TheVariants.{IndexAt}
use Rattle.lst_core_state.specs.State.{history_of}
use Rattle.lst_core_state.specs.Sound.{IsRecorded}
use Rattle.lst_rule.specs.declared.view.View.{View}
use Rattle.lst_rule.specs.Joins.{noted}
use Rattle.lst_rule.specs.Rule.{knows, hosts}
use Rattle.lst_rule.specs.Learned.{Possible}
use Rattle.lst_rule.proofs.Knowing.{knows_own, is_seen}
use Rattle.lst_rule.specs.Seen.{HasKey}
use Rattle.lst_rule.proofs.Keying.{same_record}
use Rattle.lst_scan.proofs.Seeing.{none_is_not}
use Rattle.lst_session.specs.declared.session.Session.{Session}
use Rattle.lst_session.specs.Parting.{IsAlone, known_by}
use Rattle.lst_session.proofs.Growing.{same_extends}
use Rattle.lst_work_laws.proofs.Telling.{extends_on, later_length}
use Rattle.lst_work.proofs.Heard.{have_heard}
use Rattle.lst_work.specs.ParSums.{table_of, PartedHaveSeenAlike, GatheredHaveSeenAlike, PhasesSeeAlike, PhaseLinesSeeAlike, TellersKnow, HearersKnow, KnowersHaveSeenAlike, SeenAlikeIsKept, HearersHaveGrown, SummersHaveGrown}

-- ---- the keys of rows

-- a row of a table is what the acts on its key make
row_by_key : (commits : List Commit) (key : ℕ) → row_of (table_of commits) key ≡ row_from None (all_acts_on key commits)
row_by_key commits key = ap (λ (cs : List Commit). row_of (table_of cs) key) (sym whole) ∙ (get_snapshot commits (length commits) [] key
    ∙ (ap (λ (acts : List Act). row_from None acts) (append-nil (all_acts_on key (take (length commits) commits))) ∙ ap (λ (cs : List Commit). row_from None (all_acts_on key cs)) whole))
  where
    whole : take (length commits) commits ≡ commits
    whole = take_all (length commits) commits (omega arith)

acts_join : (key : ℕ) (front back : List Commit) → all_acts_on key (front ++ back) ≡ all_acts_on key front ++ all_acts_on key back
acts_join key [] back = refl
acts_join key (c ∷ cs) back = ap (λ (acts : List Act). acts_on key c.writes ++ acts) (acts_join key cs back) ∙ sym (append_assoc (acts_on key c.writes) (all_acts_on key cs) (all_acts_on key back))

front_none : (xs ys : List Act) → xs ++ ys ≡ [] → xs ≡ []
front_none [] ys e = refl
front_none (x ∷ xs) ys e = let h = ap length e in absurd (omega arith)

-- a key that a history doesn't write has no row in the table of a front
no_row : (seen commits : List Commit) (key : ℕ) (row : List Cell) → Extends seen commits → all_acts_on key seen ≡ [] → row_of (table_of commits) key ≡ Some row → ⊥
no_row seen commits key row e none at = none_is_not row (sym (ap (row_from None) (front_none (all_acts_on key commits) (all_acts_on key e.0) (sym (acts_join key commits e.0) ∙ (ap (all_acts_on key) (sym e.1) ∙ none)))) ∙ (sym (row_by_key commits key) ∙ at))

-- ---- one view

module _ (v : View) (p : Possible v) where
  -- a session's facts have the record of each key that it has seen
  seen_record : (s : ℕ) → hosts v s ≡ true → s < v.limits.sessions → (key : ℕ) → (all_acts_on key (knows v s).seen ≡ []) ⊎ IsRecorded (knows v s).facts key
  seen_record s host low key = subst (λ (k : Known). (all_acts_on key k.seen ≡ []) ⊎ IsRecorded k.facts key) (sym (knows_own v p.words p.known p.merger p.allowed s host (λ f. omega arith))) ((p.allowed.sound.recorded s low).seen_keys key)

  row_record : (s : ℕ) → hosts v s ≡ true → s < v.limits.sessions → (commits : List Commit) → Extends (knows v s).seen commits → (key : ℕ) (row : List Cell) → row_of (table_of commits) key ≡ Some row → (rec : ℕ) × HasKey (knows v s).facts rec key
  row_record s host low commits e key row at = ⊎_elim
      (λ (none : all_acts_on key (knows v s).seen ≡ []). absurd (no_row (knows v s).seen commits key row e none at))
      (λ (r : IsRecorded (knows v s).facts key). (r.1, (r.0, r.2)))
      (seen_record s host low key)

  module _ (first : ℕ) (host : hosts v first ≡ true) (low : first < v.limits.sessions) where
    -- the record that this session knows of
    place_by : ℕ → ℕ
    place_by key = ⊎_elim (λ (none : all_acts_on key (knows v first).seen ≡ []). 0) (λ (r : IsRecorded (knows v first).facts key). r.1) (seen_record first host low key)

    placed : (commits : List Commit) → Extends (knows v first).seen commits → (key : ℕ) (row : List Cell) → row_of (table_of commits) key ≡ Some row → HasKey (knows v first).facts (place_by key) key
    unfolding place_by
    placed commits e key row at = choose (seen_record first host low key)
      where
        choose : (q : (all_acts_on key (knows v first).seen ≡ []) ⊎ IsRecorded (knows v first).facts key) → HasKey (knows v first).facts (⊎_elim (λ (none : all_acts_on key (knows v first).seen ≡ []). 0) (λ (r : IsRecorded (knows v first).facts key). r.1) q) key
        choose (inl none) = absurd (no_row (knows v first).seen commits key row e none at)
        choose (inr r) = (r.0, r.2)

    -- is the one that every session knows of
    all_placed : (commits : List Commit) → Extends (knows v first).seen commits → (s : ℕ) → hosts v s ≡ true → s < v.limits.sessions → Extends (knows v s).seen commits
        → (key : ℕ) (row : List Cell) → row_of (table_of commits) key ≡ Some row → HasKey (knows v s).facts (place_by key) key
    all_placed commits e s hosted few f key row at = let own = row_record s hosted few commits f key row at in
        subst (λ (rec : ℕ). HasKey (knows v s).facts rec key) (same_record v s p hosted first host own.0 (place_by key) key own.1 (placed commits e key row at)) own.1

  -- what a session has seen begins with the first commits of the history
  front_seen : (s time : ℕ) → hosts v s ≡ true → time ≤ length (knows v s).seen → Extends (knows v s).seen (take time (history_of v.limits (shown v.limits p.words)))
  front_seen s time host few = let e = is_seen v p.words p.known p.merger p.allowed s host in let seen = (knows v s).seen in
      (drop time seen, sym (take-append-drop time seen) ∙ ap (λ (cs : List Commit). cs ++ drop time seen) (sym (ap (take time) e.1 ∙ take-append-le time seen e.0 few)))

-- ---- the laws

pub parted_have_seen_alike : PartedHaveSeenAlike
parted_have_seen_alike store v sessions merger time parted p hosted early =
    let some : 0 < v.limits.sessions = p.allowed.sound.sized.sessions.0 in
    let at_first : hosts v 0 ≡ true = hosted 0 (omega arith) in
    let history = history_of v.limits (shown v.limits p.words) in
    let commits = take time history in
    let seen : (s : ℕ) → s < v.limits.sessions → Extends (knows v s).seen commits = λ s low. front_seen v p s time (hosted s (omega arith)) (early s low) in
    record {
      commits = commits;
      count = length-take-le time history (let a = later_length history (knows v 0).seen (is_seen v p.words p.known p.merger p.allowed 0 at_first) in let b = early 0 some in omega arith);
      place = place_by v p 0 at_first some;
      each = λ i none low. let few : i < v.limits.sessions = (let c = parted.count in omega arith) in let from = parted.each i none few in
          let same : known_by (get_or sessions i none) ≡ knows v i = ap (λ (n : ℕ). knows (get_or sessions i none).seat.view n) from.number ∙ from.part.knows_same in
          record {
            seen = subst (λ (k : Known). Extends k.seen commits) (sym same) (seen i few);
            places = λ key row at. subst (λ (k : Known). HasKey k.facts (place_by v p 0 at_first some key) key) (sym same) (all_placed v p 0 at_first some commits (seen 0 some) i (hosted i (omega arith)) few (seen i few) key row at);
          };
    }

pub gathered_have_seen_alike : GatheredHaveSeenAlike
gathered_have_seen_alike store gathered m w sessions merger time g parted p few =
    parted_have_seen_alike store w sessions merger time parted p g.all (λ s low. subst (λ (cs : List Commit). time ≤ length cs) (sym (g.seen s low)) few)

pub lines_see_alike : PhaseLinesSeeAlike
lines_see_alike store old new i none time heard low pass alone p few =
    let from : Session = get_or old i none in let seen = (known_by from).seen in let commits = take time seen in
    let front : Extends seen commits = (drop time seen, sym (take-append-drop time seen)) in record {
      commits = commits;
      count = length-take-le time seen few;
      place = place_by from.seat.view p from.number pass.host pass.own;
      each = λ j other short. let inside : j < length old = (let c = heard.count in omega arith) in record {
        seen = extends_on commits seen (known_by (get_or new j other)).seen front (heard.all j i other none inside low);
        places = λ key row at. let h = placed from.seat.view p from.number pass.host pass.own commits front key row at in
            (h.0, heard.facts j i other none inside low alone (IndexAt h.0 (place_by from.seat.view p from.number pass.host pass.own key) key) h.1);
      };
    }

pub phases_see_alike : PhasesSeeAlike
phases_see_alike store old new i none time next = lines_see_alike store old new i none time (have_heard store old new next)

-- the session that tells a note is the one that its seat hosts
teller_is : (session : Session) → IsAlone session → (s : ℕ) → hosts session.seat.view s ≡ true → s ≡ session.number
teller_is session alone s hosted = eqb-true s session.number (sym (alone s) ∙ hosted)

pub tellers_know : TellersKnow
tellers_know store teller note alone told = let v = teller.seat.view in
    let copy : note.view ≡ noted teller.number v = told.copy ∙ ap (λ (s : ℕ). noted s v) (teller_is teller alone told.teller told.hosted) in record {
      seen = subst (λ (n : View). Extends (knows v teller.number).seen n.note) (sym copy) (same_extends (knows v teller.number).seen);
      facts = λ f has. subst (λ (n : View). Contains n.note_facts f) copy has;
    }

pub hearers_know : HearersKnow
hearers_know store old new note pass same h = let number = old.number in let now = h.now number pass.host in
    let knows_new : known_by new ≡ knows new.seat.view number = ap (λ (s : ℕ). knows new.seat.view s) same in record {
      seen = subst (λ (k : Known). Extends k.seen note.note) (sym knows_new) (h.told number pass.host);
      facts = λ f has. subst (λ (k : Known). Contains k.facts f) (sym (knows_new ∙ now)) (Contains-append_right (known_by old).facts note.note_facts f has);
    }

pub knowers_have_seen_alike : KnowersHaveSeenAlike
knowers_have_seen_alike store teller note sessions time pass alone p told early all =
    let v = teller.seat.view in let number = teller.number in let seen = (knows v number).seen in let commits = take time seen in
    let copy : note.view ≡ noted number v = told.copy ∙ ap (λ (s : ℕ). noted s v) (teller_is teller alone told.teller told.hosted) in
    let few : time ≤ length seen = subst (λ (n : View). time ≤ length n.note) copy early in
    let front : Extends seen commits = (drop time seen, sym (take-append-drop time seen)) in record {
      commits = commits;
      count = length-take-le time seen few;
      place = place_by v p number pass.host pass.own;
      each = λ i none low. let one = all i none low in record {
        seen = extends_on commits seen (known_by (get_or sessions i none)).seen front (subst (λ (n : View). Extends (known_by (get_or sessions i none)).seen n.note) copy one.seen);
        places = λ key row at. let h = placed v p number pass.host pass.own commits front key row at in
            (h.0, one.facts (IndexAt h.0 (place_by v p number pass.host pass.own key) key) (subst (λ (n : View). Contains n.note_facts (IndexAt h.0 (place_by v p number pass.host pass.own key) key)) (sym copy) h.1));
      };
    }

pub seen_alike_is_kept : SeenAlikeIsKept
seen_alike_is_kept time old new grown alike = record {
  commits = alike.commits;
  count = alike.count;
  place = alike.place;
  each = λ i none low. let few : i < length old = (let c = grown.count in omega arith) in let g = grown.each i none few in let had = alike.each i none few in record {
    seen = extends_on alike.commits (known_by (get_or old i none)).seen (known_by (get_or new i none)).seen had.seen g.seen;
    places = λ key row at. let h = had.places key row at in (h.0, g.facts (IndexAt h.0 (alike.place key) key) h.1);
  };
}

pub hearers_have_grown : HearersHaveGrown
hearers_have_grown store old new more = record {
  count = more.count;
  each = λ i none low. let h = (more.each i none low).knows in record { seen = h.grows; facts = h.keeps };
}

pub summers_have_grown : SummersHaveGrown
summers_have_grown store old new summed = record {
  count = summed.count;
  each = λ i none low. let h = (summed.each i none low).reads in record { seen = h.seen; facts = h.facts };
}
