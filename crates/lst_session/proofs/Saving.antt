-- A get of a key of which all pages have folded each accepted write loads no word of a tail record.
use Rattle.std.proofs.Common.{◌≡◌, ℕ, ◌/◌, ◌%◌, ◌<◌, ◌≤◌, List, [], Bool, true, false, Option, slice_index_or, sym, subst, ap, ◌∙◌, arith, inl, inr, ⊎_elim}
use Rattle.std.proofs.lemmas.List.Elements.{All-nil}
use Rattle.lst_layout.specs.declared.limits.Limits.{Limits}
use Rattle.lst_layout.specs.declared.place.Place.{Place}
use Rattle.lst_layout.specs.declared.place.Place.TheVariants.{HeadWord, DirectoryWord, FrameWord}
use Rattle.lst_layout.specs.Addresses.{address}
use Rattle.lst_layout.specs.Frames.{lineage_place, time_place}
use Rattle.lst_layout.specs.Words.{Words, shown, word_at}
use Rattle.lst_bits.specs.Times.{time_of}
use Rattle.lst_model.specs.Cells.{Cell}
use Rattle.lst_machine.specs.State.{State}
use Rattle.lst_core_state.specs.declared.known.Known.{Known}
use Rattle.lst_core_state.specs.declared.events.Event.TheVariants.{Look}
use Rattle.lst_core_state.specs.Cells.{record_count, range_of}
use Rattle.lst_core_state.specs.Index.{is_placed}
use Rattle.lst_rule.specs.declared.view.View.{View}
use Rattle.lst_rule.specs.Rule.{knows, hosts}
use Rattle.lst_rule.specs.Learned.{Possible}
use Rattle.lst_rule.specs.PageSteps.{PageLooked}
use Rattle.lst_rule.specs.Stores.{Looked}
use Rattle.lst_index.proofs.Placed.{placed_in}
use Rattle.lst_index.proofs.Wholes.{met_word}
use Rattle.lst_walk.specs.Pages.{ReadsPage, LoadsHead, SavesByPages, SavesRow}
use Rattle.lst_session.specs.Traces.{Reads, ReadsRecord}
use Rattle.lst_refinement.specs.Crews.{IsPinnedWhereOpen}
use Rattle.lst_refinement.specs.Folding.{AreFolded, NeedsNoTail}
use Rattle.lst_refinement.proofs.Folding.{folded_keys_need_no_tail, stamped_needs_no_tail}
use Rattle.lst_session.specs.Calls.{IsNoTailLoad, LoadsNoTail}
use Rattle.lst_session.specs.Crews.{words_of, state_told, IsFoldedFor}
use Rattle.lst_session.proofs.Crewed.{IsCrewView, core_of, allowed_whole, hosted_all, is_crew, state_is, kept_words}
use Rattle.lst_session.proofs.Placing.{IsOn, found_on}

-- ---- what was found stands in the words that the view knows

found_word : (v w : View) (s : ℕ) (q : Place) (x : ℕ) → Looked v w s q x → v.whole ≡ true → word_at (words_of v) q ≡ x
found_word v w s q x looked whole = met_word v w (Look s (address v.limits q)) q x x looked.met whole

found_page : (v w : View) (s r c f : ℕ) → PageLooked v w s r c f → v.whole ≡ true → (words_of v).directory r c ≡ f
found_page v w s r c f looked whole = subst (λ (ws : List ℕ). word_at (shown v.limits ws) (DirectoryWord r c) ≡ f) (sym (looked.met.made.told.allowed.whole whole)) looked.met.found

-- ---- a page that was taken in hand

module _ (v w : View) (s rec column time : ℕ) (whole : v.whole ≡ true) (page : ReadsPage v w s rec column) (needs : NeedsNoTail (words_of v) rec column time) where
  abbrev taking : Words
  taking = words_of page.before

  whole_before : page.before.whole ≡ true
  whole_before = page.first.learns.whole ∙ whole

  whole_taken : page.taken.whole ≡ true
  whole_taken = page.page.view.whole ∙ whole_before

  whole_told : page.told.whole ≡ true
  whole_told = page.lineage.looked.view.whole ∙ whole_taken

  same_taken : words_of page.taken ≡ taking
  same_taken = kept_words page.before page.taken page.page.view.limits page.page.kept whole_before

  same_told : words_of page.told ≡ taking
  same_told = kept_words page.taken page.told page.lineage.looked.view.limits page.lineage.looked.kept whole_taken ∙ same_taken

  frame_is : taking.directory (range_of rec) column ≡ page.frame
  frame_is = found_page page.before page.taken s (range_of rec) column page.frame page.page whole_before

  tps_is : taking.frames (taking.directory (range_of rec) column) lineage_place ≡ page.tps
  tps_is = (λ i. (sym same_taken i).frames (frame_is i) lineage_place) ∙ found_word page.taken page.told s (FrameWord page.frame lineage_place) page.tps page.lineage.looked whole_taken

  stamp_is : taking.frames (taking.directory (range_of rec) column) (time_place (rec % 256)) ≡ page.stamp
  stamp_is = (λ i. (sym same_told i).frames (frame_is i) (time_place (rec % 256))) ∙ found_word page.told page.timed s (FrameWord page.frame (time_place (rec % 256))) page.stamp page.time.looked whole_told

  still : NeedsNoTail taking rec column time
  still = stamped_needs_no_tail (words_of v) taking (page.first.words whole) rec column time needs

  head_is : taking.heads rec ≡ (words_of v).heads rec
  head_is = ap (λ (x : Words). x.heads rec) (page.first.words whole).rest

  pub may_be_used : (word : ℕ) → (words_of v).heads rec ≡ word → (word / 2 ≤ page.tps) × (time_of page.stamp ≤ time)
  may_be_used word is = (
    subst (λ (n : ℕ). n / 2 ≤ page.tps) (head_is ∙ is) (subst (λ (n : ℕ). taking.heads rec / 2 ≤ n) tps_is still.folded),
    subst (λ (n : ℕ). time_of n ≤ time) stamp_is still.early,
  )

-- ---- a row

-- by its pages
no_finds_by : (v w : View) (s rec : ℕ) → v.whole ≡ true → SavesByPages v w s rec → ((column : ℕ) → column < v.limits.columns → NeedsNoTail (words_of v) rec column (knows v s).begin) → (knows w s).finds ≡ (knows v s).finds
no_finds_by v w s rec whole saves needs = let u : View = saves.headed in let same : words_of u ≡ words_of v = kept_words v u saves.head.view.limits saves.head.kept whole in
    saves.quiet (λ column low. may_be_used u w s rec column (knows v s).begin (saves.head.view.whole ∙ whole) (saves.page column low)
    (subst (λ (x : Words). NeedsNoTail x rec column (knows v s).begin) (sym same) (needs column low))
    saves.word (ap (λ (x : Words). x.heads rec) same ∙ found_word v u s (HeadWord rec) saves.word saves.head whole))

-- or without a version
pub no_finds : (v w : View) (s rec : ℕ) → v.whole ≡ true → SavesRow v w s rec → ((column : ℕ) → column < v.limits.columns → NeedsNoTail (words_of v) rec column (knows v s).begin) → (knows w s).finds ≡ (knows v s).finds
no_finds v w s rec whole saves needs = ⊎_elim (λ (h : LoadsHead v w s rec). ap (λ (k : Known). k.finds) h.head.view.now) (λ (h : SavesByPages v w s rec). no_finds_by v w s rec whole h needs) saves

-- ---- a get

module _ (v w : View) (s key : ℕ) (crew : IsCrewView v) (p : Possible v) (low : s < v.limits.sessions) (pinned : IsPinnedWhereOpen (knows v s)) (opened : (knows v s).is_open ≡ true) (folded : IsFoldedFor v s key) where
  module _ (row : Option (List Cell)) (r : ReadsRecord v w s key row) where
    abbrev u : View
    u = r.between

    on : IsOn v u s
    on = (found_on v crew s low u r.rec key r.found).0

    pinned_still : 0 < (knows u s).pages.session.pin
    pinned_still = subst (λ (n : ℕ). 0 < n) (sym (ap (λ (k : Known). k.pages.session.pin) r.found.works.view.now)) (pinned.1 opened)

    saves : SavesRow u w s r.rec
    saves = r.saves pinned_still

    looked_at : (x : View) (word : ℕ) → Looked u x s (HeadWord r.rec) word → Possible u
    looked_at x word looked = let told = looked.met.made.told in record { words = told.words; known = told.known; merger = told.merger; allowed = told.allowed }

    possible : Possible u
    possible = ⊎_elim (λ (h : LoadsHead u w s r.rec). looked_at w h.word h.head) (λ (h : SavesByPages u w s r.rec). looked_at h.headed h.word h.head) saves

    hosted : hosts u s ≡ true
    hosted = ap (λ (hs : List Bool). slice_index_or hs s false) on.learns.hosted ∙ hosted_all v crew p s (omega arith)

    same : words_of u ≡ words_of v
    same = kept_words v u on.learns.limits r.found.kept crew.whole

    in_index : (is_placed u.limits (words_of u).index r.rec ≡ true) × ((words_of u).keys r.rec ≡ key) × (r.rec < record_count u.limits)
    in_index = placed_in u u.words possible.known possible.merger (allowed_whole u on.crew possible) s r.rec key hosted r.found.placed

    needs : (column : ℕ) → column < v.limits.columns → NeedsNoTail (words_of v) r.rec column (knows v s).begin
    needs column few = folded_keys_need_no_tail (core_of v crew p) (is_crew v crew p) (allowed_whole v crew p).pages r.rec column (knows v s).begin r.found.low
        ((λ i. is_placed (sym on.learns.limits i) (sym same i).index r.rec) ∙ in_index.0) few
        (subst (λ (x : State). AreFolded x ((words_of v).keys r.rec) column (knows v s).begin) (state_is v crew p)
        (subst (λ (k : ℕ). AreFolded (state_told v) k column (knows v s).begin) (sym (ap (λ (x : Words). x.keys r.rec) (sym same) ∙ in_index.1)) (folded column few)))

    needs_still : (column : ℕ) → column < u.limits.columns → NeedsNoTail (words_of u) r.rec column (knows u s).begin
    needs_still column few = subst (λ (t : ℕ). NeedsNoTail (words_of u) r.rec column t) (sym on.same.begin)
        (subst (λ (x : Words). NeedsNoTail x r.rec column (knows v s).begin) (sym same) (needs column (subst (λ (l : Limits). column < l.columns) on.learns.limits few)))

    found_saves : LoadsNoTail v w s
    found_saves = record {
      more = [];
      grows = no_finds u w s r.rec on.crew.whole saves needs_still ∙ ap (λ (k : Known). k.finds) r.found.works.view.now;
      none = All-nil IsNoTailLoad;
    }

  pub get_saves : (row : Option (List Cell)) → Reads v w s key row → LoadsNoTail v w s
  get_saves row (inl none) = record { more = []; grows = ap (λ (k : Known). k.finds) none.1.works.view.now; none = All-nil IsNoTailLoad }
  get_saves row (inr r) = found_saves row r
