-- Of a record that the page in hand doesn't tell, a read needs a tail record.
use Rattle.std.proofs.Common.{◌≡◌, ℕ, zero, suc, ◌+◌, ◌*◌, ◌/◌, ◌%◌, ◌<◌, ◌≤◌, List, true, slice_index, refl, sym, subst, ap, ◌∙◌, arith}
use Rattle.lst_layout.specs.declared.TheConstants.{RANGE_RECORDS}
use Rattle.lst_layout.specs.declared.place.Place.TheVariants.{FrameWord}
use Rattle.lst_layout.specs.Frames.{lineage_place, time_place}
use Rattle.lst_layout.specs.Words.{Words, shown, word_at}
use Rattle.lst_bits.specs.Times.{time_of}
use Rattle.lst_core_state.specs.Cells.{range_of}
use Rattle.lst_pages.specs.Sound.{tps_at}
use Rattle.lst_pages.specs.Frames.{stamp_in}
use Rattle.lst_rule.specs.declared.runs.Run.{Run}
use Rattle.lst_rule.specs.declared.runs.Run.TheVariants.{Times, Heads}
use Rattle.lst_rule.specs.declared.view.View.{View}
use Rattle.lst_rule.specs.Rule.{knows}
use Rattle.lst_rule.specs.Stores.{Looked}
use Rattle.lst_rule.specs.PageSteps.{PageLooked, FrameLoaded}
use Rattle.lst_rule.specs.Runs.{place_in, LoadsRun}
use Rattle.lst_rule.specs.Watching.{Watched}
use Rattle.lst_rule.specs.TailLoads.{LoadsOf}
use Rattle.lst_rule.proofs.Finds.{loads_join, loads_weaker}
use Rattle.lst_walk.specs.Chains.{IsTailOf}
use Rattle.lst_refinement.specs.Folding.{NeedsNoTail}
use Rattle.lst_session.specs.Crews.{words_of}
use Rattle.lst_session.proofs.Crewed.{kept_words}
use Rattle.lst_scan.specs.Savings.{IsOfUntold, SavesPart, TellsFrame, TellsNone, TellsStamps}
use Rattle.lst_scan.proofs.Folded.{same_pin, page_told, untold_wider}

-- ---- many loads where each word is known

module _ (run : Run) (found : ℕ → ℕ) (v w : View) (s n : ℕ) (loads : LoadsRun run found v s n w) (whole : v.whole ≡ true) where
  abbrev IsStill : View → Type 0
  IsStill u = (u.whole ≡ true) × (words_of u ≡ words_of v)

  next_still : (i : ℕ) → i < n → IsStill (loads.between i) → IsStill (loads.between (i + 1))
  next_still i few still = let looked : Looked (loads.between i) (loads.between (i + 1)) s (place_in run i) (found i) = loads.each i few in
      (looked.view.whole ∙ still.0, kept_words (loads.between i) (loads.between (i + 1)) looked.view.limits looked.kept still.0 ∙ still.1)

  still_at : (i : ℕ) → i ≤ n → IsStill (loads.between i)
  still_at zero few = subst (λ (u : View). IsStill u) (sym loads.first) (whole, refl)
  still_at (suc i) few = let next : i + 1 ≡ suc i = omega arith in subst (λ (j : ℕ). IsStill (loads.between j)) next (next_still i (omega arith) (still_at i (omega arith)))

  -- they leave the words
  pub run_leaves : words_of w ≡ words_of v
  run_leaves = subst (λ (u : View). words_of u ≡ words_of v) loads.last (still_at n (omega arith)).1

  -- and find them
  pub run_finds : (i : ℕ) → i < n → word_at (words_of v) (place_in run i) ≡ found i
  run_finds i few = let looked : Looked (loads.between i) (loads.between (i + 1)) s (place_in run i) (found i) = loads.each i few in let still = still_at i (omega arith) in
      let here : word_at (words_of (loads.between i)) (place_in run i) ≡ found i = subst (λ (ws : List ℕ). word_at (shown (loads.between i).limits ws) (place_in run i) ≡ found i) (sym (looked.met.made.told.allowed.whole still.0)) looked.met.found in
      ap (λ (x : Words). word_at x (place_in run i)) (sym still.1) ∙ here

-- ---- a page's frame, and what stands in it

-- after the page was taken in hand
pub frame_told : (v a w : View) (s range column frame tps : ℕ) → PageLooked v a s range column frame → FrameLoaded a w s frame lineage_place tps → TellsFrame w s range column frame
frame_told v a w s range column frame tps looked lineage whole pinned = (page_told v a w s range column frame tps looked lineage whole).0

-- and no tail record was found to be merged into it
pub none_told : (v a w : View) (s range column frame tps : ℕ) → PageLooked v a s range column frame → FrameLoaded a w s frame lineage_place tps → tps ≡ 0 → TellsNone w s range column
none_told v a w s range column frame tps looked lineage none whole pinned = sym (page_told v a w s range column frame tps looked lineage whole).1 ∙ none

-- looks leave it
pub frame_still : (v w : View) (s range column frame : ℕ) → Watched v w s → TellsFrame v s range column frame → TellsFrame w s range column frame
frame_still v w s range column frame watched tells whole pinned = let whole_v : v.whole ≡ true = sym watched.learns.whole ∙ whole in
    let same : words_of w ≡ record (words_of v) { cells = (words_of w).cells } = (watched.words whole_v).rest in
    tells whole_v (same_pin v w s watched pinned) ∙ sym (ap (λ (x : Words). x.directory range column) same)

-- its TPS was loaded, and then its time words
pub stamps_told : (v a w : View) (s range column frame tps : ℕ) (stamps : List ℕ) → Watched v w s → TellsFrame v s range column frame → FrameLoaded v a s frame lineage_place tps → LoadsRun (Times frame) (slice_index stamps) a s RANGE_RECORDS w
    → TellsStamps w s range column tps stamps
stamps_told v a w s range column frame tps stamps watched tells lineage loads whole pinned = let whole_v : v.whole ≡ true = sym watched.learns.whole ∙ whole in
    let whole_a : a.whole ≡ true = lineage.looked.view.whole ∙ whole_v in
    let same_a : words_of a ≡ words_of v = kept_words v a lineage.looked.view.limits lineage.looked.kept whole_v in
    let same_w : words_of w ≡ words_of a = run_leaves (Times frame) (slice_index stamps) a w s RANGE_RECORDS loads whole_a in
    let tps_is : (words_of v).frames frame lineage_place ≡ tps = subst (λ (ws : List ℕ). word_at (shown v.limits ws) (FrameWord frame lineage_place) ≡ tps) (sym (lineage.looked.met.made.told.allowed.whole whole_v)) lineage.looked.met.found in
    let same : words_of w ≡ words_of v = same_w ∙ same_a in
    let here : frame ≡ (words_of w).directory range column = tells whole_v (same_pin v w s watched pinned) ∙ sym (ap (λ (x : Words). x.directory range column) same) in (
      sym tps_is ∙ (λ i. (sym same i).frames (here i) lineage_place),
      λ slot low.
          let stamp_is : (words_of a).frames frame (time_place slot) ≡ slice_index stamps slot = run_finds (Times frame) (slice_index stamps) a w s RANGE_RECORDS loads whole_a slot low in
          sym stamp_is ∙ (λ i. (sym same_w i).frames (here i) (time_place slot)),
    )

-- ---- records

-- a part with one more record, of which the page in hand tells
pub saves_told : (v a b : View) (s column low slot : ℕ) → b ≡ a → SavesPart v a s column low (low + slot) → SavesPart v b s column low (low + (slot + 1))
saves_told v a b s column low slot same saves = subst (λ (u : View). SavesPart v u s column low (low + (slot + 1))) (sym same) (λ whole pinned. let both = saves whole pinned in (
  λ needs. both.0 (λ rec from to. needs rec from (omega arith)),
  loads_weaker (IsOfUntold v a s column low (low + slot)) (IsOfUntold v a s column low (low + (slot + 1))) (λ t of. (of.0, of.1, (omega arith), of.3, of.4)) v a s both.1,
))

-- a record that the page doesn't tell: a read of it needs a tail record
pub needs_tail : (v w : View) (s range column tps slot : ℕ) (stamps : List ℕ) (heads : ℕ → ℕ) → slot < RANGE_RECORDS → TellsStamps v s range column tps stamps → LoadsRun (Heads range) heads v s RANGE_RECORDS w
    → ((heads slot / 2 ≤ tps) × (time_of (slice_index stamps slot) ≤ (knows v s).begin) → ⊥) → v.whole ≡ true → 0 < (knows v s).pages.session.pin → NeedsNoTail (words_of v) (256 * range + slot) column (knows v s).begin → ⊥
needs_tail v w s range column tps slot stamps heads few tells loads untold whole pinned need = let both = tells whole pinned in
    let in_range : range_of (256 * range + slot) ≡ range = omega arith in
    let at_slot : (256 * range + slot) % 256 ≡ slot = omega arith in
    let head_is : (words_of v).heads (256 * range + slot) ≡ heads slot = run_finds (Heads range) heads v w s RANGE_RECORDS loads whole slot few in
    let folded : (words_of v).heads (256 * range + slot) / 2 ≤ tps_at (words_of v).directory (words_of v).frames range column = subst (λ (r : ℕ). (words_of v).heads (256 * range + slot) / 2 ≤ tps_at (words_of v).directory (words_of v).frames r column) in_range need.folded in
    let early_at : time_of (stamp_in ((words_of v).frames ((words_of v).directory range column)) ((256 * range + slot) % 256)) ≤ (knows v s).begin =
    subst (λ (r : ℕ). time_of (stamp_in ((words_of v).frames ((words_of v).directory r column)) ((256 * range + slot) % 256)) ≤ (knows v s).begin) in_range need.early in
    let early : time_of (stamp_in ((words_of v).frames ((words_of v).directory range column)) slot) ≤ (knows v s).begin =
    subst (λ (i : ℕ). time_of (stamp_in ((words_of v).frames ((words_of v).directory range column)) i) ≤ (knows v s).begin) at_slot early_at in
    untold (
      subst (λ (n : ℕ). heads slot / 2 ≤ n) (sym both.0) (subst (λ (n : ℕ). n / 2 ≤ tps_at (words_of v).directory (words_of v).frames range column) head_is folded),
      subst (λ (n : ℕ). time_of n ≤ (knows v s).begin) (sym (both.1 slot few)) early,
    )

-- a part whose last record isn't told, and was walked
pub saves_untold : (v w a d : View) (s range column tps slot : ℕ) (stamps : List ℕ) (heads : ℕ → ℕ) → slot < RANGE_RECORDS → TellsStamps v s range column tps stamps → LoadsRun (Heads range) heads v s RANGE_RECORDS w
    → ((heads slot / 2 ≤ tps) × (time_of (slice_index stamps slot) ≤ (knows v s).begin) → ⊥) → LoadsOf a d s (IsTailOf d s (256 * range + slot)) → Watched a d s
    → SavesPart v a s column (256 * range) (256 * range + slot) → SavesPart v d s column (256 * range) (256 * range + (slot + 1))
saves_untold v w a d s range column tps slot stamps heads few tells loads untold walk watched saves whole pinned =
    let needs : NeedsNoTail (words_of v) (256 * range + slot) column (knows v s).begin → ⊥ = needs_tail v w s range column tps slot stamps heads few tells loads untold whole pinned in (
      λ none. absurd (needs (none (256 * range + slot) (omega arith) (omega arith))),
      loads_join (IsOfUntold v d s column (256 * range) (256 * range + (slot + 1))) v a d s
          (loads_weaker (IsOfUntold v a s column (256 * range) (256 * range + slot)) (IsOfUntold v d s column (256 * range) (256 * range + (slot + 1)))
          (λ t of. untold_wider v a d s column (256 * range) (256 * range + slot) (256 * range) (256 * range + (slot + 1)) t watched (omega arith) (omega arith) of) v a s (saves whole pinned).1)
          (loads_weaker (IsTailOf d s (256 * range + slot)) (IsOfUntold v d s column (256 * range) (256 * range + (slot + 1))) (λ t is. (256 * range + slot, (omega arith), (omega arith), needs, is)) a d s walk),
    )
