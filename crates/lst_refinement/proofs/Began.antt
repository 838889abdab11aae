-- A transaction begins.
use Rattle.std.proofs.Common.{◌≡◌, ℕ, ◌+◌, ◌-◌, ◌/◌, ◌%◌, ◌<◌, Bool, cond, refl, ap, ◌∙◌, sym}
use Rattle.std.specs.Prelude.{Some, None}
use Rattle.lst_machine.specs.Calls.{with_opened}
use Rattle.lst_core_state.specs.declared.known.Known.{Known}
use Rattle.lst_core_state.specs.State.{Words, Core, writes_of, history_of}
use Rattle.lst_core_state.proofs.Histories.{history_same}
use Rattle.lst_core_state.proofs.TimesKept.{begin_apart}
use Rattle.lst_refinement.specs.Crews.{IsCrew}
use Rattle.lst_refinement.specs.Telling.{opened_of, told_store, told}
use Rattle.lst_refinement.specs.Effects.{SameBut, HasBegun, begun_words}
use Rattle.lst_refinement.specs.Laws.{BeginsAreTold}
use Rattle.lst_refinement.proofs.Openings.{store_same, below_same, below_is, put_is, opened_same}

module _ (c : Core) (crew : IsCrew c) (s begin : ℕ) (read_only : Bool) (k : ℕ → Known) (low : s < c.limits.sessions) (others : SameBut c.limits.sessions s c.known k) (begun : HasBegun (c.known s) (k s) begin read_only) where
  abbrev w : Words
  w = c.words

  abbrev after : Words
  after = begun_words w s ((c.known s).number + 1) begin

  history_stays : history_of c.limits after ≡ history_of c.limits w
  history_stays = history_same w.clock w.log w.log w.begins after.begins (writes_of c.limits w) (writes_of c.limits w)
      (λ t low high. λ i. record { session = w.log t % 16; number = w.log t / 16; begin = begin_apart c.limits w c.known crew.sound.times crew.sound.each s begin t low high i - 1; writes = writes_of c.limits w (w.log t) })

  begins_rise : (t : ℕ) → (told_store c.limits after k).begins t ≡ (with_opened (told c) s begin read_only).begins t
  begins_rise = put_is (told c).begins (told_store c.limits after k).begins s ((told c).begins s + 1)
      (below_is c.limits.sessions s (k s).number 0 low ∙ (begun.number ∙ ap (λ (n : ℕ). n + 1) (sym (below_is c.limits.sessions s (c.known s).number 0 low))))
      (λ t ne. below_same c.limits.sessions t (k t).number (c.known t).number 0 (λ h. (others t h ne).number))

  opened_here : opened_of (k s) ≡ Some (record { begin = begin; read_only = read_only })
  opened_here = λ i. cond (begun.is_open i) (Some (record { begin = begun.begin_is i; read_only = begun.kind i })) None

  opened_next : (t : ℕ) → (told_store c.limits after k).opened t ≡ (with_opened (told c) s begin read_only).opened t
  opened_next = put_is (told c).opened (told_store c.limits after k).opened s (Some (record { begin = begin; read_only = read_only }))
      (below_is c.limits.sessions s (opened_of (k s)) None low ∙ opened_here)
      (λ t ne. below_same c.limits.sessions t (opened_of (k t)) (opened_of (c.known t)) None (λ h. opened_same (c.known t) (k t) (others t h ne)))

  begun_store : told_store c.limits after k ≡ with_opened (told c) s begin read_only
  begun_store = store_same (told_store c.limits after k) (with_opened (told c) s begin read_only) history_stays refl (λ _. refl) begins_rise opened_next (λ _ _. refl)

pub begins_are_told : BeginsAreTold
begins_are_told c crew s begin read_only k low closed others begun = begun_store c crew s begin read_only k low others begun
