-- A key that has a record, or gets one, or can't get one.
use Rattle.std.proofs.Common.{◌≡◌, ℕ, ◌+◌, ◌*◌, ◌<◌, ◌≤◌, List, [], ◌∷◌, ◌++◌, Bool, true, false, not, ◌&&◌, cond, length, nat_le, Option, Some, None, set, refl, sym, subst, ap, ◌∙◌, arith, inl, inr, le-leb, length-set}
use Rattle.std.specs.Prelude.{is_some}
use Rattle.std.proofs.lemmas.Bool.{lt-leb}
use mathlib.Core.Logic.{dite}
use native.Mathlib.Decide.{ℕ_discrete}
use Rattle.lst_layout.specs.declared.limits.Limits.{Limits}
use Rattle.lst_layout.specs.declared.place.Place.TheVariants.{RecordCounter, KeyWord, IndexWord}
use Rattle.lst_layout.specs.Addresses.{address, IsWithin}
use Rattle.lst_layout.specs.Areas as areas
use Rattle.lst_layout.specs.Functions.{put}
use Rattle.lst_layout.specs.Words.{Words, shown, with_word}
use Rattle.lst_layout.proofs.Functions.{put_here}
use Rattle.lst_layout.proofs.Shown.{changed}
use Rattle.lst_model.specs.declared.replies.Cause.{Cause}
use Rattle.lst_model.specs.declared.replies.Cause.TheVariants as cause
use Rattle.lst_machine.specs.State.{Store, Opened}
use Rattle.lst_machine.specs.Writes as machine
use Rattle.lst_machine.specs.Writes.{place_of}
use Rattle.lst_machine.specs.Calls.{first_of, where_true, early_insert_refusal, with_placed}
use Rattle.lst_core_state.specs.declared.known.Known.{Known}
use Rattle.lst_core_state.specs.declared.known.Placing.{Placing}
use Rattle.lst_core_state.specs.declared.facts.Find.{Find}
use Rattle.lst_core_state.specs.declared.facts.Find.TheVariants.{FullRecords}
use Rattle.lst_core_state.specs.Cells.{record_count}
use Rattle.lst_core_state.specs.Index.{size, is_placed}
use Rattle.lst_core_state.specs.State.{Core, rank}
use Rattle.lst_core_state.proofs.Positions.{placed_says, placed_holds, placed_more}
use Rattle.lst_rule.specs.declared.view.View.{View}
use Rattle.lst_rule.specs.Rule.{knows}
use Rattle.lst_rule.specs.Learned.{Possible, Learns}
use Rattle.lst_rule.proofs.Learning.{learns_on}
use Rattle.lst_index.specs.Searches.{Works, Keeps}
use Rattle.lst_index.specs.Placings.{HasNone, drawn_words, claimed_words, PlacedAnew}
use Rattle.lst_session.specs.Traces.{FindsNone, FindsRecord, PlacesRecord, FindsFullTable}
use Rattle.lst_refinement.specs.Crews.{IsIdle}
use Rattle.lst_refinement.specs.Effects.{SameTransactions, placed_words}
use Rattle.lst_refinement.proofs.Counts.{counts_are_told}
use Rattle.lst_refinement.proofs.Keys.{keys_are_placed, others_are_unplaced}
use Rattle.lst_refinement.proofs.Openings.{transactions_are_told}
use Rattle.lst_refinement.proofs.PlacedKeys.{places_are_told}
use Rattle.lst_session.specs.Crews.{words_of, store_told}
use Rattle.lst_session.proofs.Crewed.{IsCrewView, core_of, allowed_whole, known_is, is_crew, told_is, crew_after, told_stays, told_on, transactions_on, stamped_is, same_draws}

-- ---- what a search leaves

-- the view is a crew's, and its session's transaction is the same
pub record IsOn (v w : View) (s : ℕ) : Type 0 where
  pub crew : IsCrewView w
  pub learns : Learns v w s (knows w s)
  pub same : SameTransactions (knows v s) (knows w s)

learns_now : (v w : View) (s : ℕ) (k : Known) → Learns v w s k → Learns v w s (knows w s)
learns_now v w s k learns = subst (λ (x : Known). Learns v w s x) (sym learns.now) learns

leaves_on : (a b c : Known) → SameTransactions a b → SameTransactions b c → SameTransactions a c
leaves_on a b c p q = record { number = q.number ∙ p.number; begin = q.begin ∙ p.begin; read_only = q.read_only ∙ p.read_only; is_open = q.is_open ∙ p.is_open }

works_same : (v w : View) (s : ℕ) (finds : List Find) → Works v w s finds → SameTransactions (knows v s) (knows w s)
works_same v w s finds works = subst (SameTransactions (knows v s)) (sym works.view.now) record { number = refl; begin = refl; read_only = refl; is_open = refl }

works_hand : (v w : View) (s : ℕ) (finds : List Find) → Works v w s finds → ((knows w s).hold ≡ (knows v s).hold) × ((knows w s).turn ≡ (knows v s).turn)
works_hand v w s finds works = (ap (λ (k : Known). k.hold) works.view.now, ap (λ (k : Known). k.turn) works.view.now)

module _ (v : View) (crew : IsCrewView v) (s : ℕ) (low : s < v.limits.sessions) (w : View) where
  -- the words are the same
  module _ (learns : Learns v w s (knows w s)) (same : SameTransactions (knows v s) (knows w s)) (idle : IsIdle (knows w s)) (words : w.words ≡ v.words) where
    words_are : words_of w ≡ words_of v
    words_are = λ i. shown (learns.limits i) (words i)

    pub still_on : IsOn v w s
    still_on = record { crew = crew_after v w s (knows w s) learns crew idle (same_draws (words_of v) (words_of w) words_are); learns = learns; same = same }

    pub still_told : store_told w ≡ store_told v
    still_told = told_stays v w s (knows w s) learns same (stamped_is (words_of v) (words_of w) words_are)

  works_idle : (finds : List Find) → Works v w s finds → (knows w s).placing.hand ≡ 0 → IsIdle (knows w s)
  works_idle finds works free = let h = works_hand v w s finds works in record { rec = free; hold = h.0 ∙ (crew.idle s low).hold; turn = ap rank h.1 ∙ (crew.idle s low).turn }

  -- a search that has no record in hand draws none
  keeps_free : Keeps (knows v s).placing (knows w s).placing → (knows w s).placing.hand ≡ 0
  keeps_free (inl same) = ap (λ (x : Placing). x.hand) same ∙ (crew.idle s low).rec
  keeps_free (inr q) = let some = q.0 in let none = (crew.idle s low).rec in absurd (omega arith)

  pub found_on : (rec key : ℕ) → FindsRecord v w s rec key → IsOn v w s × (store_told w ≡ store_told v)
  found_on rec key f = let l = learns_now v w s _ f.works.view in let same = works_same v w s [] f.works in let idle = works_idle [] f.works (keeps_free f.keeps) in
      (still_on l same idle (f.kept.words crew.whole), still_told l same idle (f.kept.words crew.whole))

  -- a placing that stored nothing
  pub placed_on : (rec key : ℕ) → PlacesRecord v w s rec key → w.words ≡ v.words → IsOn v w s × (store_told w ≡ store_told v)
  placed_on rec key f words = let l = learns_now v w s _ f.works.view in let same = works_same v w s [] f.works in let idle = works_idle [] f.works f.free in (still_on l same idle words, still_told l same idle words)

  pub none_on : (key : ℕ) → FindsNone v w s key → IsOn v w s × (store_told w ≡ store_told v)
  none_on key f = let l = learns_now v w s _ f.works.view in let same = works_same v w s [] f.works in let idle = works_idle [] f.works (keeps_free f.keeps) in
      (still_on l same idle (f.kept.words crew.whole), still_told l same idle (f.kept.words crew.whole))

  pub full_on : (key : ℕ) → FindsFullTable v w s key → IsOn v w s × (store_told w ≡ store_told v)
  full_on key f = let mid : View = f.full.then in let l = learns_now v w s _ (learns_on v mid w s _ _ f.full.before.view f.full.after.view) in
      let same = leaves_on (knows v s) (knows mid s) (knows w s) (works_same v mid s [] f.full.before) (works_same mid w s (FullRecords ∷ []) f.full.after) in
      let one = works_hand v mid s [] f.full.before in let two = works_hand mid w s (FullRecords ∷ []) f.full.after in
      let idle : IsIdle (knows w s) = record { rec = f.free; hold = two.0 ∙ (one.0 ∙ (crew.idle s low).hold); turn = ap rank two.1 ∙ (ap rank one.1 ∙ (crew.idle s low).turn) } in
      (still_on l same idle (f.words crew.whole).same, still_told l same idle (f.words crew.whole).same)

-- ---- what the machine says of the key

module _ (v : View) (p : Possible v) (crew : IsCrewView v) (key : ℕ) where
  abbrev c : Core
  c = core_of v crew p

  abbrev a : Words
  a = words_of v

  -- a key that no position has
  pub absent_told : HasNone v.limits v.words key → place_of (store_told v).placed key ≡ None
  absent_told none = ap (λ (t : Store). place_of t.placed key) (told_is v crew p)
      ∙ others_are_unplaced c (is_crew v crew p) key (λ r inside is e. let q = placed_says v.limits a.index r is in none q.0 (let f = q.2 in omega arith) (ap a.keys (let f = q.2 in omega arith) ∙ e))

  pub present_told : (rec : ℕ) → rec < record_count v.limits → is_placed v.limits a.index rec ≡ true → a.keys rec ≡ key → place_of (store_told v).placed key ≡ Some rec
  present_told rec inside is e = (λ i. place_of (told_is v crew p i).placed (sym e i)) ∙ keys_are_placed c (is_crew v crew p) rec inside is

  records_told : length (store_told v).placed ≡ a.counter
  records_told = ap (λ (t : Store). length t.placed) (told_is v crew p) ∙ (counts_are_told c (is_crew v crew p)).records

  -- the early refusal of an insert, where the transaction may write
  abbrev early : Opened → Option Cause
  early t = early_insert_refusal v.limits (store_told v) t key

  early_is : (t : Opened) (x y : Bool) → t.read_only ≡ false → machine.is_placed (store_told v).placed key ≡ x → nat_le (256 * v.limits.ranges) (length (store_told v).placed) ≡ y
      → early t ≡ first_of (None ∷ where_true (not x && y) cause.TableFull ∷ [])
  early_is t x y may e f = λ i. first_of (where_true (may i) cause.ReadOnly ∷ where_true (not (e i) && f i) cause.TableFull ∷ [])

  pub early_present : (t : Opened) (rec : ℕ) → t.read_only ≡ false → place_of (store_told v).placed key ≡ Some rec → early_insert_refusal v.limits (store_told v) t key ≡ None
  early_present t rec may e = early_is t true (nat_le (256 * v.limits.ranges) (length (store_told v).placed)) may (ap (λ (o : Option ℕ). is_some o) e) refl

  pub early_room : (t : Opened) → t.read_only ≡ false → place_of (store_told v).placed key ≡ None → (words_of v).counter < record_count v.limits → early_insert_refusal v.limits (store_told v) t key ≡ None
  early_room t may e room = early_is t false false may (ap (λ (o : Option ℕ). is_some o) e) (let f = records_told in lt-leb (256 * v.limits.ranges) (length (store_told v).placed) (omega arith))

  pub early_full : (t : Opened) → t.read_only ≡ false → place_of (store_told v).placed key ≡ None → record_count v.limits ≤ (words_of v).counter → early_insert_refusal v.limits (store_told v) t key ≡ Some cause.TableFull
  early_full t may e full = early_is t false true may (ap (λ (o : Option ℕ). is_some o) e) (let f = records_told in le-leb (256 * v.limits.ranges) (length (store_told v).placed) (omega arith))

  -- a placed key stays placed
  pub placed_same : (rec : ℕ) → place_of (store_told v).placed key ≡ Some rec → with_placed (store_told v) key ≡ store_told v
  placed_same rec e = λ i. record (store_told v) { placed = cond (is_some (e i)) (store_told v).placed ((store_told v).placed ++ key ∷ []) }

-- ---- a key that is placed anew

module _ (l : Limits) (ws : List ℕ) (wide : length ws ≡ areas.words_of l) (key r q : ℕ) (low : r < record_count l) (short : q < size l) where
  drawn : List ℕ
  drawn = set ws (address l RecordCounter) (r + 1)

  keyed : List ℕ
  keyed = set (set ws (address l RecordCounter) (r + 1)) (address l (KeyWord r)) key

  inside : IsWithin l (IndexWord q)
  unfolding size
  inside = short

  pub claimed_shown : shown l (claimed_words l (drawn_words l ws r key) q r) ≡ record (shown l ws) { counter = r + 1; keys = put (shown l ws).keys r key; index = put (shown l ws).index q (r + 1) }
  claimed_shown = changed l (set (set ws (address l RecordCounter) (r + 1)) (address l (KeyWord r)) key)
      (length-set (set ws (address l RecordCounter) (r + 1)) (address l (KeyWord r)) key ∙ (length-set ws (address l RecordCounter) (r + 1) ∙ wide)) (IndexWord q) (r + 1) inside
      ∙ (ap (λ (w : Words). with_word w (IndexWord q) (r + 1)) (changed l (set ws (address l RecordCounter) (r + 1)) (length-set ws (address l RecordCounter) (r + 1) ∙ wide) (KeyWord r) key low)
      ∙ ap (λ (w : Words). with_word (with_word w (KeyWord r) key) (IndexWord q) (r + 1)) (changed l ws wide RecordCounter (r + 1) tt))

module _ (v : View) (p : Possible v) (crew : IsCrewView v) (s rec key : ℕ) (low : s < v.limits.sessions) (u : View) (f : PlacesRecord v u s rec key) (anew : PlacedAnew v.limits v.words u.words key rec) where
  abbrev after : Words
  after = placed_words (words_of v) key anew.position

  learns : Learns v u s (knows u s)
  learns = learns_now v u s _ f.works.view

  same : SameTransactions (knows v s) (knows u s)
  same = works_same v u s [] f.works

  idle : IsIdle (knows u s)
  idle = works_idle v crew s low u [] f.works f.free

  after_is : words_of u ≡ after
  after_is = (λ i. shown (learns.limits i) (anew.words i)) ∙ (claimed_shown v.limits v.words (allowed_whole v crew p).wide key rec anew.position anew.low anew.short
      ∙ (λ i. record (words_of v) { counter = sym anew.next i + 1; keys = put (words_of v).keys (sym anew.next i) key; index = put (words_of v).index anew.position (sym anew.next i + 1) }))

  room : (words_of v).counter < record_count v.limits
  room = let e = anew.next in let h = anew.low in omega arith

  absent : place_of (store_told v).placed key ≡ None
  absent = absent_told v p crew key anew.none

  pub anew_told : store_told u ≡ with_placed (store_told v) key
  anew_told = told_on v u s (knows u s) learns after after_is
      ∙ (transactions_are_told v.limits after p.known (knows u) (λ t inside. subst (λ (k : Known). SameTransactions k (knows u t)) (known_is v crew p t inside) (transactions_on v u s (knows u s) learns same t))
      ∙ (places_are_told (core_of v crew p) (is_crew v crew p) key anew.position room anew.short anew.empty (ap (λ (t : Store). place_of t.placed key) (sym (told_is v crew p)) ∙ absent)
      ∙ ap (λ (t : Store). with_placed t key) (sym (told_is v crew p))))

  pub anew_early : (t : Opened) → t.read_only ≡ false → early_insert_refusal v.limits (store_told v) t key ≡ None
  anew_early t may = early_room v p crew key t may absent room

  placed_all : (r : ℕ) → r < (words_of v).counter + 1 → is_placed v.limits after.index r ≡ true
  placed_all r few = dite (ℕ_discrete r (words_of v).counter)
      (λ e. placed_holds v.limits after.index r anew.position anew.short (put_here (words_of v).index anew.position ((words_of v).counter + 1) ∙ ap (λ (x : ℕ). x + 1) (sym e)))
      (λ ne. placed_more v.limits (words_of v).index anew.position (words_of v).counter anew.short anew.empty r (crew.placed r (omega arith)))

  pub anew_on : IsOn v u s
  anew_on = record {
    learns = learns;
    same = same;
    crew = record {
      whole = learns.whole ∙ crew.whole;
      idle = λ t few. dite (ℕ_discrete t s)
          (λ e. subst (λ (x : ℕ). IsIdle (knows u x)) (sym e) idle)
          (λ other. subst IsIdle (sym (learns.others t other)) (crew.idle t (subst (λ (l : Limits). t < l.sessions) learns.limits few)));
      records = subst (λ (l : Limits). (words_of u).counter ≤ record_count l) (sym learns.limits) (subst (λ (w : Words). w.counter ≤ record_count v.limits) (sym after_is) (let h = room in omega arith));
      placed = λ r few. (λ i. is_placed (learns.limits i) (after_is i).index r) ∙ placed_all r (subst (λ (w : Words). r < w.counter) after_is few);
      tails = λ range few. subst (λ (l : Limits). (words_of u).counts range ≤ l.tails) (sym learns.limits)
          (subst (λ (w : Words). w.counts range ≤ v.limits.tails) (sym after_is) (crew.tails range (subst (λ (l : Limits). range < l.ranges) learns.limits few)));
    };
  }
