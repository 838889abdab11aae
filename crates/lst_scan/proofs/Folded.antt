-- Of records whose pages have folded each write a scan loads no word of a tail record.
use Rattle.std.proofs.Common.{◌≡◌, ℕ, ◌+◌, ◌/◌, ◌<◌, ◌≤◌, List, [], true, sym, subst, ap, ◌∙◌, append-nil, arith}
use mathlib.Core.Logic.{dite}
use native.Mathlib.Decide.{ℕ_discrete}
use Rattle.std.proofs.lemmas.List.Elements.{All-nil}
use Rattle.lst_layout.specs.declared.place.Place.TheVariants.{HeadWord, DirectoryWord, FrameWord}
use Rattle.lst_layout.specs.Frames.{lineage_place}
use Rattle.lst_layout.specs.Words.{Words, shown, word_at}
use Rattle.lst_machine.specs.State.{State}
use Rattle.lst_core_state.specs.declared.known.Known.{Known}
use Rattle.lst_core_state.specs.Cells.{record_count, range_of}
use Rattle.lst_pages.specs.Sound.{tps_at}
use Rattle.lst_rule.specs.declared.view.View.{View}
use Rattle.lst_rule.specs.Rule.{knows}
use Rattle.lst_rule.specs.Learned.{Possible}
use Rattle.lst_rule.specs.Watching.{Watched}
use Rattle.lst_rule.specs.PageSteps.{PageLooked, FrameLoaded}
use Rattle.lst_rule.specs.TailLoads.{LoadsOf}
use Rattle.lst_rule.proofs.Finds.{loads_none, loads_join, loads_weaker}
use Rattle.lst_walk.specs.Chains.{IsTailOf, SavesChain}
use Rattle.lst_walk.proofs.Ahead.{tail_on}
use Rattle.lst_refinement.specs.Crews.{IsPinnedWhereOpen}
use Rattle.lst_refinement.specs.Folding.{AreAllFolded, NeedsNoTail}
use Rattle.lst_refinement.proofs.Folding.{folded_tables_need_no_tail, stamped_needs_no_tail}
use Rattle.lst_session.specs.Calls.{IsNoTailLoad, LoadsNoTail}
use Rattle.lst_session.specs.Crews.{words_of, state_told}
use Rattle.lst_session.proofs.Crewed.{IsCrewView, core_of, allowed_whole, is_crew, state_is, kept_words}
use Rattle.lst_scan.specs.Savings.{IsOfUntold, SavesPart, TellsNone}

-- ---- a page

pub same_pin : (v w : View) (s : ℕ) → Watched v w s → 0 < (knows w s).pages.session.pin → 0 < (knows v s).pages.session.pin
same_pin v w s watched pinned = subst (λ (n : ℕ). 0 < n) (ap (λ (k : Known). k.pages.session.pin) watched.watches.is ∙ watched.watches.pin) pinned

-- after it was taken in hand, and its TPS loaded
pub page_told : (v u w : View) (s range column frame tps : ℕ) → PageLooked v u s range column frame → FrameLoaded u w s frame lineage_place tps → w.whole ≡ true → (frame ≡ (words_of w).directory range column) × (tps ≡ tps_at (words_of w).directory (words_of w).frames range column)
page_told v u w s range column frame tps looked lineage whole = let whole_u : u.whole ≡ true = sym lineage.looked.view.whole ∙ whole in let whole_v : v.whole ≡ true = sym looked.view.whole ∙ whole_u in
    let same_u : words_of u ≡ words_of v = kept_words v u looked.view.limits looked.kept whole_v in
    let same_w : words_of w ≡ words_of u = kept_words u w lineage.looked.view.limits lineage.looked.kept whole_u in
    let frame_is : (words_of v).directory range column ≡ frame = subst (λ (ws : List ℕ). word_at (shown v.limits ws) (DirectoryWord range column) ≡ frame) (sym (looked.met.made.told.allowed.whole whole_v)) looked.met.found in
    let tps_is : (words_of u).frames frame lineage_place ≡ tps = subst (λ (ws : List ℕ). word_at (shown u.limits ws) (FrameWord frame lineage_place) ≡ tps) (sym (lineage.looked.met.made.told.allowed.whole whole_u)) lineage.looked.met.found in
    let here : frame ≡ (words_of w).directory range column = sym frame_is ∙ sym (ap (λ (x : Words). x.directory range column) (same_w ∙ same_u)) in
    (here, sym tps_is ∙ (λ i. (sym same_w i).frames (here i) lineage_place))

-- ---- a page into which no tail record is merged

-- looks leave it
pub none_still : (v w : View) (s range column : ℕ) → Watched v w s → TellsNone v s range column → TellsNone w s range column
none_still v w s range column watched tells whole pinned = let whole_v : v.whole ≡ true = sym watched.learns.whole ∙ whole in
    let same : words_of w ≡ record (words_of v) { cells = (words_of w).cells } = (watched.words whole_v).rest in
    ap (λ (x : Words). tps_at x.directory x.frames range column) same ∙ tells whole_v (same_pin v w s watched pinned)

-- ---- records that their pages don't tell

-- of more records, after looks
pub untold_wider : (v u w : View) (s column low high first last t : ℕ) → Watched u w s → first ≤ low → high ≤ last → IsOfUntold v u s column low high t → IsOfUntold v w s column first last t
untold_wider v u w s column low high first last t watched a b of = (of.0, (omega arith), (omega arith), of.3, tail_on u w s of.0 t watched of.4)

-- nothing was found
pub quiet_saves : (v w : View) (s column low high : ℕ) → (knows w s).finds ≡ (knows v s).finds → SavesPart v w s column low high
quiet_saves v w s column low high same whole pinned = (λ needs. same, loads_none (IsOfUntold v w s column low high) v w s same)

-- one record was walked, of which a read needs a tail record where anything was found
pub walk_saves : (v w : View) (s rec column : ℕ) → LoadsOf v w s (IsTailOf w s rec) → (v.whole ≡ true → 0 < (knows v s).pages.session.pin → NeedsNoTail (words_of v) rec column (knows v s).begin → ⊥) → SavesPart v w s column rec (rec + 1)
walk_saves v w s rec column loads untold whole pinned = (
  λ needs. absurd (untold whole pinned (needs rec (omega arith) (omega arith))),
  loads_weaker (IsTailOf w s rec) (IsOfUntold v w s column rec (rec + 1)) (λ t is. (rec, (omega arith), (omega arith), untold whole pinned, is)) v w s loads,
)

-- a record of which a read needs no tail record has no version then
pub chain_saves : (v w : View) (s rec column : ℕ) → SavesChain v w s rec → LoadsOf v w s (IsTailOf w s rec) → TellsNone v s (rec / 256) column → SavesPart v w s column rec (rec + 1)
chain_saves v w s rec column chain loads tells = dite (ℕ_discrete (chain.word / 2) 0)
    (λ none. quiet_saves v w s column rec (rec + 1) (chain.quiet none))
    (λ some. walk_saves v w s rec column loads (λ whole pinned need.
    let found : (words_of v).heads rec ≡ chain.word = subst (λ (ws : List ℕ). word_at (shown v.limits ws) (HeadWord rec) ≡ chain.word) (sym (chain.head.met.made.told.allowed.whole whole)) chain.head.met.found in
    let none : tps_at (words_of v).directory (words_of v).frames (range_of rec) column ≡ 0 = tells whole pinned in
    let folded : chain.word / 2 ≤ 0 = subst (λ (n : ℕ). n / 2 ≤ 0) found (subst (λ (n : ℕ). (words_of v).heads rec / 2 ≤ n) none need.folded) in
    some (omega arith)))

-- ---- parts

pub none_saves : (v w : View) (s column low : ℕ) → (knows w s).finds ≡ (knows v s).finds → SavesPart v w s column low low
none_saves v w s column low same = quiet_saves v w s column low low same

-- a part, after which one more was scanned
module _ (v u w : View) (s column low middle high : ℕ) (watched : Watched v u s) (more : Watched u w s) (rises : low ≤ middle) (on : middle ≤ high) (whole : v.whole ≡ true) where
  needs_on : (rec : ℕ) → NeedsNoTail (words_of v) rec column (knows v s).begin → NeedsNoTail (words_of u) rec column (knows u s).begin
  needs_on rec needs = subst (λ (t : ℕ). NeedsNoTail (words_of u) rec column t) (sym (ap (λ (k : Known). k.begin) watched.watches.is)) (stamped_needs_no_tail (words_of v) (words_of u) (watched.words whole) rec column (knows v s).begin needs)

  untold_before : (t : ℕ) → IsOfUntold u w s column middle high t → IsOfUntold v w s column low high t
  untold_before t of = (of.0, (omega arith), of.2, (λ needs. of.3 (needs_on of.0 needs)), of.4)

pub saves_join : (v u w : View) (s column low middle high : ℕ) → Watched v u s → Watched u w s → low ≤ middle → middle ≤ high → SavesPart v u s column low middle → SavesPart u w s column middle high → SavesPart v w s column low high
saves_join v u w s column low middle high watched more rises on first last whole pinned =
    let before = first whole pinned in
    let behind = last (watched.learns.whole ∙ whole) (subst (λ (n : ℕ). 0 < n) (sym (ap (λ (k : Known). k.pages.session.pin) watched.watches.is ∙ watched.watches.pin)) pinned) in (
      λ needs. behind.0 (λ rec from to. needs_on v u w s column low middle high watched more rises on whole rec (needs rec (omega arith) to)) ∙ before.0 (λ rec from to. needs rec from (omega arith)),
      loads_join (IsOfUntold v w s column low high) v u w s
          (loads_weaker (IsOfUntold v u s column low middle) (IsOfUntold v w s column low high) (λ t of. untold_wider v u w s column low middle low high t more (omega arith) on of) v u s before.1)
          (loads_weaker (IsOfUntold u w s column middle high) (IsOfUntold v w s column low high) (λ t of. untold_before v u w s column low middle high watched more rises on whole t of) u w s behind.1),
    )

-- ---- a crew's session

pub sum_saves : (v w : View) (s column : ℕ) → IsCrewView v → Possible v → IsPinnedWhereOpen (knows v s) → column < v.limits.columns → (knows v s).is_open ≡ true → SavesPart v w s column 0 (record_count v.limits)
    → (AreAllFolded v.limits (state_told v) column (knows v s).begin → LoadsNoTail v w s) × LoadsOf v w s (IsOfUntold v w s column 0 (record_count v.limits))
sum_saves v w s column crew p pinned few opened saves = let both = saves crew.whole (pinned.1 opened) in (
  λ folded. record {
    more = [];
    grows = both.0 (λ rec low high. folded_tables_need_no_tail (core_of v crew p) (is_crew v crew p) (allowed_whole v crew p).pages rec column (knows v s).begin high few
        (subst (λ (x : State). AreAllFolded v.limits x column (knows v s).begin) (state_is v crew p) folded)) ∙ sym (append-nil (knows v s).finds);
    none = All-nil IsNoTailLoad;
  },
  both.1,
)
