-- A write that is tried on a record of its key: the machine's refusal, and its next state.
use Rattle.std.proofs.Common.{◌≡◌, ◌≢◌, ℕ, ◌+◌, ◌-◌, ◌*◌, ◌/◌, ◌<◌, List, [], ◌∷◌, Bool, true, false, length, take, nat_le, Option, Some, None, Result, Ok, Err, refl, sym, subst, ap, ◌∙◌, arith}
use Rattle.std.specs.Prelude.{is_some, is_none, unwrap_or}
use Rattle.lst_layout.specs.declared.limits.Limits.{Limits}
use Rattle.lst_layout.specs.declared.place.Place.TheVariants.{HeadWord}
use Rattle.lst_model.specs.declared.acts.Act.{Act}
use Rattle.lst_model.specs.declared.acts.Act.TheVariants.{Put, Set, Del}
use Rattle.lst_model.specs.declared.replies.Cause.{Cause}
use Rattle.lst_model.specs.declared.replies.Cause.TheVariants as cause
use Rattle.lst_model.specs.Cells.{Cell}
use Rattle.lst_model.specs.Tables.{row_of}
use Rattle.lst_model.specs.Histories.{row_from}
use Rattle.lst_model.specs.Soundness.{Fits}
use Rattle.lst_machine.specs.State.{Store}
use Rattle.lst_machine.specs.Writes.{conflict_of, sight_of}
use Rattle.lst_machine.specs.Calls.{first_of, where_true, is_range_full, accepted_unless}
use Rattle.lst_core_state.specs.declared.known.Known.{Known}
use Rattle.lst_core_state.specs.declared.known.Hold.{Hold}
use Rattle.lst_core_state.specs.declared.events.Event.TheVariants.{Release}
use Rattle.lst_core_state.specs.Cells.{record_count, range_of}
use Rattle.lst_core_state.specs.Index.{is_placed}
use Rattle.lst_core_state.specs.State.{Words, Core, sight, no_hold}
use Rattle.lst_rule.specs.declared.view.View.{View}
use Rattle.lst_rule.specs.Rule.{knows, hosts}
use Rattle.lst_rule.specs.Learned.{Possible, Learns, Made}
use Rattle.lst_rule.proofs.Learning.{learns_on}
use Rattle.lst_rule.specs.Watching.{IsStamped}
use Rattle.lst_rule.proofs.Stamps.{made_words}
use Rattle.lst_write.specs.Judgements.{FoundNewer, FoundUnfinished}
use Rattle.lst_write.specs.Appending.{FindsFull}
use Rattle.lst_session.specs.declared.kinds.WriteRefusal.{WriteRefusal}
use Rattle.lst_session.specs.Traces.{misfit_of, Judges}
use Rattle.lst_refinement.specs.Telling.{told}
use Rattle.lst_refinement.specs.Effects.{SameTransactions}
use Rattle.lst_refinement.proofs.Keys.{keys_are_placed}
use Rattle.lst_refinement.proofs.Counts.{counts_are_told}
use Rattle.lst_session.specs.Crews.{words_of, store_told}
use Rattle.lst_session.specs.Replies.{write_cause}
use Rattle.lst_session.proofs.Crewed.{IsCrewView, core_of, known_is, is_crew, told_is, hosted_all, crew_after, told_stays, stamped_draws, kept_words}
use Rattle.lst_session.proofs.CrewJudging.{with_head, with_latch, IsHeld, judged_none, newer_is, unfinished_is, row_is}
use Rattle.lst_session.proofs.Holding.{SameWriter, writer_idle, even_head, held_head, released_words}

-- ---- the machine's refusal of an act on a key that has a record

abbrev pub is_misfit : Act → Option (List Cell) → Bool
is_misfit (Put row) seen = is_some seen
is_misfit (Set patch) seen = is_none seen
is_misfit Del seen = is_none seen

abbrev pub late_refusal : Limits → Store → ℕ → ℕ → ℕ → Act → Option Cause
late_refusal l store s begin key act =
    first_of (conflict_of store s begin key ∷ where_true (is_misfit act (row_of (sight_of l store s begin) key)) (write_cause (misfit_of act)) ∷ where_true (is_range_full l store key) cause.TailFull ∷ [])

abbrev pub cause_of : Result (Unit {0}) WriteRefusal → Option Cause
cause_of (Ok done) = None
cause_of (Err refused) = Some (write_cause refused)

-- a try, by the machine: its refusal and its next state
pub record IsTried (u w : View) (s key : ℕ) (act : Act) (result : Result (Unit {0}) WriteRefusal) : Type 0 where
  pub crew : IsCrewView w
  pub limits : w.limits ≡ u.limits
  pub refused : late_refusal u.limits (store_told u) s (knows u s).begin key act ≡ cause_of result
  pub next : store_told w ≡ accepted_unless (cause_of result) (store_told u) s key act

misfit_true : (act : Act) (row : Option (List Cell)) → ¬ Fits row act → is_misfit act row ≡ true
misfit_true (Put r) (Some x) off = refl
misfit_true (Put r) None off = absurd (off tt)
misfit_true (Set r) (Some x) off = absurd (off tt)
misfit_true (Set r) None off = refl
misfit_true Del (Some x) off = absurd (off tt)
misfit_true Del None off = refl

misfit_false : (act : Act) (row : Option (List Cell)) → Fits row act → is_misfit act row ≡ false
misfit_false (Put r) (Some x) fits = absurd fits
misfit_false (Put r) None fits = refl
misfit_false (Set r) (Some x) fits = refl
misfit_false (Set r) None fits = absurd fits
misfit_false Del (Some x) fits = refl
misfit_false Del None fits = absurd fits

-- no tail is left: the view stays held
pub full_held : (u m t : View) (s rec head range : ℕ) → IsHeld u m s rec head → FindsFull m t s range → Possible t → IsHeld u t s rec head
full_held u m t s rec head range held full q = let now = full.counts.view.now in record {
  possible = q;
  limits = full.counts.view.limits ∙ held.limits;
  whole = full.counts.view.whole ∙ held.whole;
  is_open = ap (λ (k : Known). k.is_open) now ∙ held.is_open;
  latch = ap (λ (k : Known). k.hold.latch) now ∙ held.latch;
  head_is = ap (λ (k : Known). k.hold.head) now ∙ held.head_is;
  alike = record {
    number = ap (λ (k : Known). k.number) now ∙ held.alike.number;
    begin = ap (λ (k : Known). k.begin) now ∙ held.alike.begin;
    own = ap (λ (k : Known). k.own) now ∙ held.alike.own;
    front = (λ i. take (now i).begin (now i).seen) ∙ held.alike.front;
  };
  stamped = subst (λ (b : Words). IsStamped (with_latch (words_of u) rec) b) (sym (kept_words m t full.counts.view.limits full.kept held.whole)) held.stamped;
}

module _ (u : View) (p : Possible u) (crew : IsCrewView u) (s rec key : ℕ) (low : s < u.limits.sessions) (is_on : (knows u s).is_open ≡ true) (inside : rec < record_count u.limits) (placed : is_placed u.limits (words_of u).index rec ≡ true) (key_is : (words_of u).keys rec ≡ key) (act : Act) where
  abbrev c : Core
  c = core_of u crew p

  abbrev a : Words
  a = words_of u

  abbrev row_told : Option (List Cell)
  row_told = row_of (sight_of u.limits (told c) s (p.known s).begin) (a.keys rec)

  abbrev conflict : Option Cause
  conflict = conflict_of (told c) s (p.known s).begin (a.keys rec)

  abbrev full : Bool
  full = is_range_full u.limits (told c) (a.keys rec)

  begin_is : (knows u s).begin ≡ (p.known s).begin
  begin_is = ap (λ (k : Known). k.begin) (known_is u crew p s low)

  late_is : (x : Option Cause) (y z : Bool) → conflict ≡ x → is_misfit act row_told ≡ y → full ≡ z
      → late_refusal u.limits (store_told u) s (knows u s).begin key act ≡ first_of (x ∷ where_true y (write_cause (misfit_of act)) ∷ where_true z cause.TailFull ∷ [])
  late_is x y z e f g = (λ i. late_refusal u.limits (told_is u crew p i) s (begin_is i) (sym key_is i) act)
      ∙ (λ i. first_of (e i ∷ where_true (f i) (write_cause (misfit_of act)) ∷ where_true (g i) cause.TailFull ∷ []))

  -- the tails of the record's range
  pub full_is : full ≡ nat_le u.limits.tails (a.counts (range_of rec))
  full_is = ap (λ (o : Option ℕ). nat_le u.limits.tails (length ((told c).accepted (unwrap_or o 0 / 256)))) (keys_are_placed c (is_crew u crew p) rec inside placed)
      ∙ ap (nat_le u.limits.tails) ((counts_are_told c (is_crew u crew p)).tails (range_of rec))

  -- nobody has a latch in hand
  pub nobody : (t : ℕ) → t < u.limits.sessions → (hosts u t ≡ true) × ((knows u t).hold.latch ≢ rec + 1)
  nobody t few = (hosted_all u crew p t (omega arith), λ e. let none = ap (λ (h : Hold). h.latch) (crew.idle t few).hold in omega arith)

  -- ---- the latch is given back

  module _ (m w : View) (head : ℕ) (held : IsHeld u m s rec head) (learns : Learns u m s (knows m s)) (same : SameWriter (knows u s) (knows m s)) (view : Learns m w s (record (knows m s) { hold = no_hold })) (word : Made m w (Release s) (HeadWord rec) (2 * head)) where
    released_is : words_of w ≡ with_head (words_of m) rec (2 * head)
    released_is = made_words m w (Release s) (HeadWord rec) (2 * head) word held.whole
        ∙ (λ i. with_head (words_of m) (let e : (knows m s).hold.latch - 1 ≡ rec = (let f = held.latch in omega arith) in e i) (2 * held.head_is i))

    released_stamped : IsStamped (words_of u) (words_of w)
    released_stamped = subst (λ (b : Words). IsStamped (words_of u) b) (sym released_is)
        (released_words (words_of u) (words_of m) rec head (held_head u m s rec head held low).0 (even_head u p crew rec inside) held.stamped)

    all_learns : Learns u w s (record (knows m s) { hold = no_hold })
    all_learns = learns_on u m w s (knows m s) (record (knows m s) { hold = no_hold }) learns view

    held_transactions : SameTransactions (knows u s) (record (knows m s) { hold = no_hold })
    held_transactions = let t = same.transactions in record { number = t.number; begin = t.begin; read_only = t.read_only; is_open = t.is_open }

    pub released : (refused : WriteRefusal) → late_refusal u.limits (store_told u) s (knows u s).begin key act ≡ Some (write_cause refused) → IsTried u w s key act (Err refused)
    released refused is = record {
      crew = crew_after u w s (record (knows m s) { hold = no_hold }) all_learns crew (writer_idle (knows u s) (knows m s) same (crew.idle s low)) (stamped_draws (words_of u) (words_of w) released_stamped);
      limits = all_learns.limits;
      refused = is;
      next = told_stays u w s (record (knows m s) { hold = no_hold }) all_learns held_transactions released_stamped;
    }

  -- ---- how it is refused

  module _ (b m : View) (head : ℕ) (held : IsHeld u m s rec head) where
    row_here : row_told ≡ row_from None (sight (knows m s) key)
    row_here = row_is u p crew m s rec head held low is_on inside placed ∙ ap (λ (x : ℕ). row_from None (sight (knows m s) x)) key_is

    pub misfit_late : (refused : WriteRefusal) → Judges b m s rec head key act (Err refused) → late_refusal u.limits (store_told u) s (knows u s).begin key act ≡ Some (write_cause refused)
    misfit_late refused j = late_is None true full (judged_none u p crew m s rec head held low is_on inside placed j.judged)
        (ap (is_misfit act) row_here ∙ misfit_true act (row_from None (sight (knows m s) key)) j.agrees.0) refl
        ∙ ap (λ (r : WriteRefusal). Some (write_cause r)) (sym j.agrees.1)

    pub newer_late : (time : ℕ) → FoundNewer m.limits (knows m s) rec head time → late_refusal u.limits (store_told u) s (knows u s).begin key act ≡ Some (cause.Newer time)
    newer_late time f = late_is (Some (cause.Newer time)) (is_misfit act row_told) full (newer_is u p crew m s rec head held low is_on inside placed time f) refl refl

    pub unfinished_late : (j n : ℕ) → FoundUnfinished b m s rec head j n → late_refusal u.limits (store_told u) s (knows u s).begin key act ≡ Some (cause.Unfinished j n)
    unfinished_late j n f = late_is (Some (cause.Unfinished j n)) (is_misfit act row_told) full (unfinished_is u p crew m s rec head held low is_on inside placed b j n f) refl refl

    -- of an act that fits, by the tails alone
    pub fit_late : (z : Bool) → Judges b m s rec head key act (Ok tt) → full ≡ z → late_refusal u.limits (store_told u) s (knows u s).begin key act ≡ where_true z cause.TailFull
    fit_late z j e = late_is None false z (judged_none u p crew m s rec head held low is_on inside placed j.judged)
        (ap (is_misfit act) row_here ∙ misfit_false act (row_from None (sight (knows m s) key)) j.agrees) e ∙ only z
      where
        only : (z : Bool) → first_of (None ∷ None ∷ where_true z cause.TailFull ∷ []) ≡ where_true z cause.TailFull
        only true = refl
        only false = refl
