-- The page part of the machine's state, as pins and the merger tell it.
use Rattle.std.proofs.Common.{◌≡◌, ℕ, ◌+◌, ◌-◌, ◌<◌, inl, inr, Bool, true, false, cond, nat_lt, ◌&&◌, List, [], ◌∷◌, length, refl, ap, ◌∙◌, sym, arith, true≢false, ltb-true, lt-ltb}
use Rattle.std.specs.Prelude.{Option, Some, None, not}
use Rattle.lst_layout.specs.declared.limits.Limits.{Limits}
use Rattle.lst_layout.specs.Frames.{lineage_place}
use Rattle.lst_layout.specs.Limits.{IsValid}
use Rattle.lst_model.specs.declared.acts.Write.{Write}
use Rattle.lst_model.specs.declared.lines.Call.{Call}
use Rattle.lst_model.specs.declared.lines.Call.TheVariants.{Begin, AsOf, Get, Insert, Update, Delete, Sum, Count, Scan, Find, Commit, Abort}
use Rattle.lst_model.specs.declared.replies.Cause.{Cause}
use Rattle.lst_model.specs.declared.replies.Cause.TheVariants.{NotIndexed}
use Rattle.lst_model.specs.declared.replies.Reply.{Reply}
use Rattle.lst_model.specs.declared.replies.Reply.TheVariants.{Begun, Done, Sum as SumReply, Count as CountReply, Rows as RowsReply, Keys, Aborted, Refused}
use Rattle.lst_model.specs.Cells.{Cell}
use Rattle.lst_model.specs.Tables.{row_of, sum_of, count_of, scan_of, find_of}
use Rattle.lst_machine.specs.State.{Opened, Store, Pages, opening_pages}
use Rattle.lst_machine.specs.Calls.{begin_refusal, as_of_refusal, refused_or, in_open, row_reply, is_indexed, where_true, insert_refusal, change_refusal, end_reply, call_reply}
use Rattle.lst_machine.specs.Writes.{own_writes, sight_of}
use Rattle.lst_machine.specs.Writes as machine
use Rattle.lst_machine.specs.Merges.{begun_unless, ended_where, pages_after_call}
use Rattle.lst_core_state.specs.declared.known.Known.{Known}
use Rattle.lst_core_state.specs.declared.pages.MergerFrames.{MergerFrames}
use Rattle.lst_core_state.specs.State.{newcomer}
use Rattle.lst_core_state.specs.Pages.{no_pages}
use Rattle.lst_pages.specs.State.{opening_merger}
use Rattle.lst_pages.specs.State as page_state
use Rattle.lst_pages.specs.Runs.{frame_known, IsSafe, IsKnown, tps_known}
use Rattle.lst_pages.specs.Sound.{IsPage}
use Rattle.lst_pages.proofs.Starts.{start_sound}
use Rattle.lst_pages.proofs.Safety.{sound_safe, sound_known}
use Rattle.lst_refinement.specs.Telling.{told_pages}
use Rattle.lst_refinement.specs.Effects.{SamePinBut, SameStock, begins_or_ends}
use Rattle.lst_refinement.specs.Laws.{OpeningPagesAreTold, PinsAndPagesAreTold, PinnedBeginsAreTold, PinnedEndsAreTold, OtherCallsLeavePages}
use Rattle.lst_refinement.proofs.Openings.{below_same, below_is, put_is, nothing}

-- the page part is known by its parts
pub pages_same : (a b : Pages) → ((r c : ℕ) → a.tps r c ≡ b.tps r c) → a.swaps ≡ b.swaps → ((s : ℕ) → a.swaps_at_begin s ≡ b.swaps_at_begin s) → a ≡ b
pages_same a b tps swaps begins = λ i. record { tps = λ r c. tps r c i; swaps = swaps i; swaps_at_begin = λ s. begins s i }

-- ---- what is said of the pages of a store

module _ (l : Limits) (r c : ℕ) where
  abbrev is_page : Bool
  is_page = nat_lt r l.ranges && nat_lt c l.columns

  pub within_same : (x y d : ℕ) → (IsPage l r c → x ≡ y) → cond is_page x d ≡ cond is_page y d
  within_same x y d same = at_test (nat_lt r l.ranges) (nat_lt c l.columns) refl refl
    where
      at_test : (a b : Bool) → nat_lt r l.ranges ≡ a → nat_lt c l.columns ≡ b → cond (a && b) x d ≡ cond (a && b) y d
      at_test true true p q = same (ltb-true r l.ranges p, ltb-true c l.columns q)
      at_test true false p q = refl
      at_test false true p q = refl
      at_test false false p q = refl

  pub within_is : (x d : ℕ) → IsPage l r c → cond is_page x d ≡ x
  within_is x d page = λ i. cond (lt-ltb r l.ranges page.0 i && lt-ltb c l.columns page.1 i) x d

-- ---- the opening

module _ (l : Limits) (valid : IsValid l) where
  known : IsKnown (page_state.opening l)
  known = sound_known (page_state.opening l) (start_sound l valid)

  safe : IsSafe (page_state.opening l)
  safe = sound_safe (page_state.opening l) (start_sound l valid)

  -- each page is of zeros
  first_tps : (r c : ℕ) → IsPage l r c → tps_known (opening_merger l) r c ≡ 0
  first_tps r c page = ap (λ (f : ℕ). frame_known (opening_merger l) f lineage_place) (known.directory r c page)
      ∙ known.frames ((page_state.opening l).words.directory r c) lineage_place (safe.listed r c page).frame (omega arith)

  opening_told : told_pages l (λ s. newcomer l) (opening_merger l) ≡ opening_pages
  unfolding no_pages
  opening_told = pages_same (told_pages l (λ s. newcomer l) (opening_merger l)) opening_pages
      (λ r c. within_same l r c (tps_known (opening_merger l) r c) 0 0 (first_tps r c) ∙ nothing (is_page l r c) 0)
      refl
      (λ s. nothing (nat_lt s l.sessions) 0)

pub opening_pages_are_told : OpeningPagesAreTold
opening_pages_are_told l valid = opening_told l valid

-- ---- pins and the merger's stock

pub pins_and_pages_are_told : PinsAndPagesAreTold
pins_and_pages_are_told l u k m o pins stock = pages_same (told_pages l k o) (told_pages l u m)
    (λ r c. within_same l r c (tps_known o r c) (tps_known m r c) 0 (stock.tps r c))
    stock.epoch
    (λ s. below_same l.sessions s ((k s).pages.session.pin - 1) ((u s).pages.session.pin - 1) 0 (λ low. ap (λ (pin : ℕ). pin - 1) (pins s low)))

module _ (l : Limits) (u k : ℕ → Known) (m o : MergerFrames) (s : ℕ) (low : s < l.sessions) (others : SamePinBut l.sessions s u k) (stock : SameStock l m o) where
  abbrev before : Pages
  before = told_pages l u m

  -- the session's pin is another
  pin_told : (n : ℕ) → (k s).pages.session.pin - 1 ≡ n → told_pages l k o ≡ record before { swaps_at_begin = machine.put before.swaps_at_begin s n }
  pin_told n is = pages_same (told_pages l k o) (record before { swaps_at_begin = machine.put before.swaps_at_begin s n })
      (λ r c. within_same l r c (tps_known o r c) (tps_known m r c) 0 (stock.tps r c))
      stock.epoch
      (put_is before.swaps_at_begin (told_pages l k o).swaps_at_begin s n
      (below_is l.sessions s ((k s).pages.session.pin - 1) 0 low ∙ is)
      (λ t ne. below_same l.sessions t ((k t).pages.session.pin - 1) ((u t).pages.session.pin - 1) 0 (λ h. ap (λ (pin : ℕ). pin - 1) (others t h ne))))

  pub begun_told : (k s).pages.session.pin ≡ m.epoch + 1 → told_pages l k o ≡ begun_unless None before s
  begun_told is = pin_told m.epoch (omega arith)

  pub ended_told : (transaction : Opened) → (k s).pages.session.pin ≡ 0 → told_pages l k o ≡ ended_where (Some transaction) before s
  ended_told transaction is = pin_told 0 (omega arith)

pub pinned_ends_are_told : PinnedEndsAreTold
pinned_ends_are_told l store u k m o s transaction low opened others none stock =
    ended_told l u k m o s low others stock transaction none ∙ ap (λ (at : Option Opened). ended_where at (told_pages l u m) s) (sym opened)

-- ---- what the machine answers to a call that begins a transaction, and where it refuses

abbrev is_begun : Reply → Bool
is_begun (Begun time) = true
is_begun reply = false

abbrev is_refused : Reply → Bool
is_refused (Refused cause) = true
is_refused reply = false

in_open_not : (test : Reply → Bool) (at : Option Opened) (answer : Opened → Reply) → test (in_open None answer) ≡ false → ((transaction : Opened) → test (answer transaction) ≡ false) → test (in_open at answer) ≡ false
in_open_not test None answer none some = none
in_open_not test (Some transaction) answer none some = some transaction

refused_not : (refusal : Option Cause) (answer : Reply) → is_begun answer ≡ false → is_begun (refused_or refusal answer) ≡ false
refused_not None answer fails = fails
refused_not (Some cause) answer fails = refl

row_not : (row : Option (List Cell)) → is_begun (row_reply row) ≡ false
row_not None = refl
row_not (Some row) = refl

end_begun_not : (store : Store) (transaction : Opened) (writes : List Write) → is_begun (end_reply store transaction writes) ≡ false
end_begun_not store transaction [] = refl
end_begun_not store transaction (write ∷ writes) = refl

end_refused_not : (store : Store) (transaction : Opened) (writes : List Write) → is_refused (end_reply store transaction writes) ≡ false
end_refused_not store transaction [] = refl
end_refused_not store transaction (write ∷ writes) = refl

module _ (l : Limits) (store : Store) (pages : Pages) (s : ℕ) where
  abbrev answered : (Opened → Reply) → Reply
  answered answer = in_open (store.opened s) answer

  begun_not : (answer : Opened → Reply) → ((transaction : Opened) → is_begun (answer transaction) ≡ false) → (time : ℕ) → answered answer ≡ Begun time → ⊥
  begun_not answer never time is = true≢false (sym (ap is_begun is) ∙ in_open_not is_begun (store.opened s) answer refl never)

  begun_here : (refusal : Option Cause) (clock time : ℕ) → refused_or refusal (Begun clock) ≡ Begun time → begun_unless refusal pages s ≡ begun_unless None pages s
  begun_here None clock time is = refl
  begun_here (Some cause) clock time is = absurd (true≢false (sym (ap is_begun is)))

  pub begun_pages : (call : Call) (time : ℕ) → call_reply l store s call ≡ Begun time → pages_after_call l store pages s call ≡ begun_unless None pages s
  begun_pages Begin time is = begun_here (begin_refusal l store s) (length store.history) time is
  begun_pages (AsOf at) time is = begun_here (as_of_refusal l store s at) at time is
  begun_pages (Get key) time is = absurd (begun_not (λ t. row_reply (row_of (sight_of l store s t.begin) key)) (λ t. row_not (row_of (sight_of l store s t.begin) key)) time is)
  begun_pages (Insert key row) time is = absurd (begun_not (λ t. refused_or (insert_refusal l store s t key) Done) (λ t. refused_not (insert_refusal l store s t key) Done refl) time is)
  begun_pages (Update key patch) time is = absurd (begun_not (λ t. refused_or (change_refusal l store s t key) Done) (λ t. refused_not (change_refusal l store s t key) Done refl) time is)
  begun_pages (Delete key) time is = absurd (begun_not (λ t. refused_or (change_refusal l store s t key) Done) (λ t. refused_not (change_refusal l store s t key) Done refl) time is)
  begun_pages (Sum column) time is = absurd (begun_not (λ t. SumReply (sum_of (sight_of l store s t.begin) column)) (λ t. refl) time is)
  begun_pages Count time is = absurd (begun_not (λ t. CountReply (count_of (sight_of l store s t.begin))) (λ t. refl) time is)
  begun_pages Scan time is = absurd (begun_not (λ t. RowsReply (scan_of (sight_of l store s t.begin))) (λ t. refl) time is)
  begun_pages (Find column number) time is = absurd (begun_not (λ t. refused_or (where_true (not (is_indexed l column)) NotIndexed) (Keys (find_of (sight_of l store s t.begin) column number)))
      (λ t. refused_not (where_true (not (is_indexed l column)) NotIndexed) (Keys (find_of (sight_of l store s t.begin) column number)) refl) time is)
  begun_pages Commit time is = absurd (begun_not (λ t. end_reply store t (own_writes l store s)) (λ t. end_begun_not store t (own_writes l store s)) time is)
  begun_pages Abort time is = absurd (begun_not (λ t. Aborted) (λ t. refl) time is)

  refused_here : (refusal : Option Cause) (clock : ℕ) (cause : Cause) → refused_or refusal (Begun clock) ≡ Refused cause → begun_unless refusal pages s ≡ pages
  refused_here None clock cause is = absurd (true≢false (sym (ap is_refused is)))
  refused_here (Some other) clock cause is = refl

  refused_end : (at : Option Opened) (answer : Opened → Reply) (cause : Cause) → ((transaction : Opened) → is_refused (answer transaction) ≡ false) → in_open at answer ≡ Refused cause → ended_where at pages s ≡ pages
  refused_end None answer cause never is = refl
  refused_end (Some transaction) answer cause never is = absurd (true≢false (sym (ap is_refused is) ∙ never transaction))

  pub refused_pages : (call : Call) (cause : Cause) → call_reply l store s call ≡ Refused cause → pages_after_call l store pages s call ≡ pages
  refused_pages Begin cause is = refused_here (begin_refusal l store s) (length store.history) cause is
  refused_pages (AsOf at) cause is = refused_here (as_of_refusal l store s at) at cause is
  refused_pages (Get key) cause is = refl
  refused_pages (Insert key row) cause is = refl
  refused_pages (Update key patch) cause is = refl
  refused_pages (Delete key) cause is = refl
  refused_pages (Sum column) cause is = refl
  refused_pages Count cause is = refl
  refused_pages Scan cause is = refl
  refused_pages (Find column number) cause is = refl
  refused_pages Commit cause is = refused_end (store.opened s) (λ t. end_reply store t (own_writes l store s)) cause (λ t. end_refused_not store t (own_writes l store s)) is
  refused_pages Abort cause is = refused_end (store.opened s) (λ t. Aborted) cause (λ t. refl) is

  pub other_pages : (call : Call) → begins_or_ends call ≡ false → pages_after_call l store pages s call ≡ pages
  other_pages Begin is = absurd (true≢false is)
  other_pages (AsOf at) is = absurd (true≢false is)
  other_pages (Get key) is = refl
  other_pages (Insert key row) is = refl
  other_pages (Update key patch) is = refl
  other_pages (Delete key) is = refl
  other_pages (Sum column) is = refl
  other_pages Count is = refl
  other_pages Scan is = refl
  other_pages (Find column number) is = refl
  other_pages Commit is = absurd (true≢false is)
  other_pages Abort is = absurd (true≢false is)

pub pinned_begins_are_told : PinnedBeginsAreTold
pinned_begins_are_told l store u k m o s time call low begun others pin stock = begun_told l u k m o s low others stock pin ∙ sym (begun_pages l store (told_pages l u m) s call time begun)

pub other_calls_leave_pages : OtherCallsLeavePages
other_calls_leave_pages l store u k m o s call (inl other) pins stock = pins_and_pages_are_told l u k m o pins stock ∙ sym (other_pages l store (told_pages l u m) s call other)
other_calls_leave_pages l store u k m o s call (inr refused) pins stock = pins_and_pages_are_told l u k m o pins stock ∙ sym (refused_pages l store (told_pages l u m) s call refused.0 refused.1)
