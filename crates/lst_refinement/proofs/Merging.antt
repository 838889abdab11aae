-- Merges: who holds a frame, and the machine's reply.
use Rattle.std.proofs.Common.{◌≡◌, ◌≢◌, ℕ, zero, suc, ◌+◌, ◌-◌, ◌<◌, Bool, true, false, cond, not, nat_lt, nat_le, ◌&&◌, ◌||◌, List, [], ◌∷◌, length, refl, ap, ◌∙◌, sym, arith, true≢false, eq-eqb, ne_eqb, le-leb, leb-true}
use mathlib.Core.Logic.{dite}
use native.Mathlib.Decide.{ℕ_discrete}
use Rattle.std.specs.Prelude.{Option, Some, None, is_some}
use Rattle.lst_model.specs.declared.replies.Reply.{Reply}
use Rattle.lst_model.specs.declared.replies.Reply.TheVariants.{Merged, NothingNew, NoFrame}
use Rattle.lst_core_state.proofs.Sights.{is_false}
use Rattle.lst_machine.specs.State.{Opened}
use Rattle.lst_machine.specs.Merges.{settled_count, holds_frame, lowest_where, merge_reply_at, merge_reply, swapped_where}
use Rattle.lst_core_state.specs.declared.known.Known.{Known}
use Rattle.lst_core_state.specs.declared.pages.MergerFrames.{MergerFrames}
use Rattle.lst_core_state.specs.declared.pages.Retired.{Retired}
use Rattle.lst_core_state.specs.State.{Core}
use Rattle.lst_pages.specs.State.{oldest_epoch}
use Rattle.lst_pages.specs.Runs.{IsSafe, tps_known}
use Rattle.lst_pages.specs.Lists.{Every}
use Rattle.lst_pages.specs.Sound.{IsPage, late}
use Rattle.lst_pages.specs.Step.{lets_go}
use Rattle.lst_pages.specs.Known.{pages_in}
use Rattle.lst_pages.proofs.Safety.{sound_safe, sound_known}
use Rattle.lst_refinement.specs.Crews.{IsCrew, IsPinnedCrew}
use Rattle.lst_refinement.specs.Telling.{opened_of, told, told_pages, pages_told}
use Rattle.lst_refinement.specs.Effects.{SamePinEach, SameStock, HasSwapped}
use Rattle.lst_refinement.specs.Laws.{pin_lets_go, HoldersAreTold, HoldingAllIsHolding, LowestHolderIsTold, NoHolderIsTold, IsMergedTo, AreSettled, NothingNewIsTold, NoFrameIsTold, SwapsAreTold}
use Rattle.lst_refinement.proofs.Openings.{below_same, below_is, put_in_is}
use Rattle.lst_refinement.proofs.PageParts.{pages_same, within_same, within_is, pins_and_pages_are_told}
use Rattle.lst_refinement.proofs.Settling.{settled_are_told}

-- ---- the lowest number that passes a test

lowest_none : (test : ℕ → Bool) (n : ℕ) → ((s : ℕ) → s < n → test s ≡ false) → lowest_where test n ≡ None
lowest_none test zero fails = refl
lowest_none test (suc n) fails = λ i. cond (is_some (lowest_none test n (λ s low. fails s (omega arith)) i)) (lowest_none test n (λ s low. fails s (omega arith)) i) (cond (fails n (omega arith) i) (Some n) None)

lowest_is : (test : ℕ → Bool) (n s : ℕ) → s < n → test s ≡ true → ((t : ℕ) → t < s → test t ≡ false) → lowest_where test n ≡ Some s
lowest_is test zero s low passes fails = absurd (omega arith)
lowest_is test (suc n) s low passes fails = dite (ℕ_discrete s n)
    (λ e. (λ i. cond (is_some (lowest_none test n (λ t h. fails t (omega arith)) i)) (lowest_none test n (λ t h. fails t (omega arith)) i) (cond ((ap test (sym e) ∙ passes) i) (Some n) None)) ∙ ap Some (sym e))
    (λ ne. λ i. cond (is_some (lowest_is test n s (omega arith) passes fails i)) (lowest_is test n s (omega arith) passes fails i) (cond (test n) (Some n) None))

-- ---- who holds a frame

module _ (c : Core) (crew : IsPinnedCrew c) (s : ℕ) where
  abbrev k : Known
  k = c.known s

  abbrev pin : ℕ
  pin = k.pages.session.pin

  abbrev oldest : ℕ
  oldest = oldest_epoch c.merger.pages.stock.retired

  safe : IsSafe (pages_in c)
  safe = sound_safe (pages_in c) crew.pages.pages

  epoch_is : c.merger.pages.stock.epoch ≡ c.words.epoch
  epoch_is = (sound_known (pages_in c) crew.pages.pages).epoch

  -- a pin lets go while fewer swaps came after its epoch than there are spare frames
  held : 0 < pin → (b : Bool) → lets_go pin oldest ≡ b → nat_le (pin - 1 + c.limits.spare) c.merger.pages.stock.epoch ≡ not b
  held some true is = is_false (nat_le (pin - 1 + c.limits.spare) c.merger.pages.stock.epoch)
      (λ le. true≢false (sym is ∙ (safe.holds pin crew.retired some).1 (let high = leb-true (pin - 1 + c.limits.spare) c.merger.pages.stock.epoch le in let e = epoch_is in omega arith)))
  held some false is = le-leb (pin - 1 + c.limits.spare) c.merger.pages.stock.epoch (let high = (safe.holds pin crew.retired some).0 is in let e = epoch_is in omega arith)

  -- what is asked of the session, once its part of the state is read off
  abbrev asked : Bool
  asked = is_some (opened_of k) && nat_le (pin - 1 + c.limits.spare) c.merger.pages.stock.epoch

  holds_is : s < c.limits.sessions → holds_frame c.limits (told c) (pages_told c) s ≡ asked
  holds_is low = λ i. is_some (below_is c.limits.sessions s (opened_of k) None low i) && nat_le (below_is c.limits.sessions s (pin - 1) 0 low i + c.limits.spare) c.merger.pages.stock.epoch

  abbrev with_open : Bool → Bool
  with_open is_on = is_some {T = Opened} (cond is_on (Some (record { begin = k.begin; read_only = k.read_only })) None) && nat_le (pin - 1 + c.limits.spare) c.merger.pages.stock.epoch

  asked_is : s < c.limits.sessions → asked ≡ not (lets_go pin oldest)
  asked_is low = dite (ℕ_discrete pin 0)
      (λ none. ap with_open (is_false k.is_open (λ is. let some = (crew.pinned s low).1 is in omega arith))
      ∙ ap (λ (b : Bool). not (b || nat_lt oldest pin)) (sym (eq-eqb pin 0 none)))
      (λ some. ap with_open ((crew.pinned s low).0 (omega arith)) ∙ held (omega arith) (lets_go pin oldest) refl)

  pub holder_told : s < c.limits.sessions → holds_frame c.limits (told c) (pages_told c) s ≡ not (pin_lets_go c s)
  holder_told low = holds_is low ∙ asked_is low

  -- there are retired frames, as many as spare ones
  some_retired : length c.merger.pages.stock.retired ≡ c.limits.spare
  some_retired = let none : late c.merger.pages.stock.waiting ≡ 0 = ap late crew.retired in let all = safe.spare in omega arith

  oldest_held : (rs : List Retired) → length rs ≡ c.limits.spare → Every (λ r. lets_go pin r.epoch ≡ false) rs → lets_go pin (oldest_epoch rs) ≡ false
  oldest_held [] none each = let some = crew.pages.pages.valid.spare.0 in absurd (omega arith)
  oldest_held (r ∷ rs) some each = each.0

pub holding_all_is_holding : HoldingAllIsHolding
holding_all_is_holding c crew s each = oldest_held c crew s c.merger.pages.stock.retired (some_retired c crew s) each

pub holders_are_told : HoldersAreTold
holders_are_told c crew s low = holder_told c crew s low

pub lowest_holder_is_told : LowestHolderIsTold
lowest_holder_is_told c crew s low here before = lowest_is (holds_frame c.limits (told c) (pages_told c)) c.limits.sessions s low
    (holder_told c crew s low ∙ ap not here)
    (λ t h. holder_told c crew t (omega arith) ∙ ap not (before t h))

pub no_holder_is_told : NoHolderIsTold
no_holder_is_told c crew each = lowest_none (holds_frame c.limits (told c) (pages_told c)) c.limits.sessions (λ s low. holder_told c crew s low ∙ ap not (each s low))

-- ---- the reply

reply_old : (tps n : ℕ) (holder : Option ℕ) → tps ≡ n → merge_reply_at tps n holder ≡ NothingNew n
reply_old tps n None e = ap (λ (b : Bool). cond b (NothingNew n) (Merged n)) (eq-eqb n tps (sym e))
reply_old tps n (Some s) e = ap (λ (b : Bool). cond b (NothingNew n) (NoFrame s)) (eq-eqb n tps (sym e))

reply_held : (tps n s : ℕ) → tps ≢ n → merge_reply_at tps n (Some s) ≡ NoFrame s
reply_held tps n s ne = ap (λ (b : Bool). cond b (NothingNew n) (NoFrame s)) (ne_eqb n tps (λ e. ne (sym e)))

reply_merged : (tps n : ℕ) → tps ≢ n → merge_reply_at tps n None ≡ Merged n
reply_merged tps n ne = ap (λ (b : Bool). cond b (NothingNew n) (Merged n)) (ne_eqb n tps (λ e. ne (sym e)))

module _ (c : Core) (crew : IsCrew c) (range column n : ℕ) (page : IsPage c.limits range column) (settled : AreSettled c range n) where
  abbrev m : MergerFrames
  m = c.merger.pages.stock

  tps_is : (pages_told c).tps range column ≡ tps_known m range column
  tps_is = within_is c.limits range column (tps_known m range column) 0 page

  count_is : settled_count (told c) range ≡ n
  count_is = settled_are_told c crew range page.0 ∙ sym settled

  abbrev holder : Option ℕ
  holder = lowest_where (holds_frame c.limits (told c) (pages_told c)) c.limits.sessions

  reply_is : merge_reply c.limits (told c) (pages_told c) range column ≡ merge_reply_at (tps_known m range column) n holder
  reply_is = λ i. merge_reply_at (tps_is i) (count_is i) holder

  -- the pages stay
  module _ (k : ℕ → Known) (o : MergerFrames) (pins : SamePinEach c.limits.sessions c.known k) where
    module _ (stock : SameStock c.limits m o) where
      pages_stay : told_pages c.limits k o ≡ pages_told c
      pages_stay = pins_and_pages_are_told c.limits c.known k m o pins stock

      pub nothing_new : tps_known m range column ≡ n → IsMergedTo c range column k o (NothingNew n)
      nothing_new e = let reply : merge_reply c.limits (told c) (pages_told c) range column ≡ NothingNew n = reply_is ∙ reply_old (tps_known m range column) n holder e in record {
        reply = reply;
        next = pages_stay ∙ ap (λ (answer : Reply). swapped_where answer (pages_told c) range column) (sym reply);
      }

      pub no_frame : (s : ℕ) → tps_known m range column ≢ n → holder ≡ Some s → IsMergedTo c range column k o (NoFrame s)
      no_frame s ne held = let reply : merge_reply c.limits (told c) (pages_told c) range column ≡ NoFrame s = reply_is ∙ (ap (merge_reply_at (tps_known m range column) n) held ∙ reply_held (tps_known m range column) n s ne) in record {
        reply = reply;
        next = pages_stay ∙ ap (λ (answer : Reply). swapped_where answer (pages_told c) range column) (sym reply);
      }

    -- the page is swapped
    module _ (swapped : HasSwapped c.limits m o range column n) where
      pages_next : told_pages c.limits k o ≡ swapped_where (Merged n) (pages_told c) range column
      pages_next = pages_same (told_pages c.limits k o) (swapped_where (Merged n) (pages_told c) range column)
          (put_in_is (pages_told c).tps (told_pages c.limits k o).tps range column n
          (within_is c.limits range column (tps_known o range column) 0 page ∙ swapped.here)
          (λ r q apart. within_same c.limits r q (tps_known o r q) (tps_known m r q) 0 (λ h. swapped.others r q h apart)))
          swapped.epoch
          (λ s. below_same c.limits.sessions s ((k s).pages.session.pin - 1) ((c.known s).pages.session.pin - 1) 0 (λ low. ap (λ (pin : ℕ). pin - 1) (pins s low)))

      pub merged : tps_known m range column ≢ n → holder ≡ None → IsMergedTo c range column k o (Merged n)
      merged ne free = let reply : merge_reply c.limits (told c) (pages_told c) range column ≡ Merged n = reply_is ∙ (ap (merge_reply_at (tps_known m range column) n) free ∙ reply_merged (tps_known m range column) n ne) in record {
        reply = reply;
        next = pages_next ∙ ap (λ (answer : Reply). swapped_where answer (pages_told c) range column) (sym reply);
      }

pub nothing_new_is_told : NothingNewIsTold
nothing_new_is_told c crew range column n k o page settled e pins stock = nothing_new c crew range column n page settled k o pins stock e

pub no_frame_is_told : NoFrameIsTold
no_frame_is_told c crew range column n s k o page settled ne low here before pins stock = no_frame c crew.crew range column n page settled k o pins stock s ne (lowest_holder_is_told c crew s low here before)

pub swaps_are_told : SwapsAreTold
swaps_are_told c crew range column n k o page settled ne each pins swapped = merged c crew.crew range column n page settled k o pins swapped ne (no_holder_is_told c crew each)
