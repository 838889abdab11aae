-- The page core at opening tells the state at opening.
use Rattle.std.proofs.Common.{◌≡◌, ℕ, suc, ◌+◌, ◌-◌, ◌*◌, ◌/◌, ◌%◌, ◌<◌, ◌≤◌, List, [], ◌++◌, Bool, true, false, cond, Option, None, refl, sym, subst, ap, ◌∙◌, arith, length, replicate, slice_index, take, drop, suc-mul, zero-mul}
use Rattle.std.proofs.lemmas.List.{length-replicate}
use Rattle.lst_layout.specs.declared.limits.Limits.{Limits}
use Rattle.lst_layout.specs.Areas.{page_count, frame_count, words_of, directory_start}
use Rattle.lst_layout.specs.Limits.{IsValid}
use Rattle.lst_layout.specs.Words as store
use Rattle.lst_layout.specs.Words.{IsOpening}
use Rattle.lst_layout.proofs.Openings.{opening_is_shown}
use Rattle.lst_pages.specs.declared.tails.PageTail.{PageTail}
use Rattle.lst_core_pages.specs.declared.hands.PageId.{PageId}
use Rattle.lst_pages.specs.State.{empty_hand, opening_reader, opening}
use Rattle.lst_pages.specs.Sound.{Sound}
use Rattle.lst_core_pages.specs.Cells.{Queue, Cells, opening_queue, filled, reader_of, state_of, pages_of, IsCore}
use Rattle.lst_pages.proofs.Functions.{get-replicate}
use Rattle.lst_pages.proofs.Starts.{number_page, page_low, start_sound}
use Rattle.lst_core_pages.proofs.Steppings.{filled-empty}
use Rattle.lst_core_pages.proofs.Readings.{written_back}

module _ (l : Limits) (valid : IsValid l) (row : List ℕ) (is : IsOpening l row) where
  abbrev no_hands : List (List (Option PageId))
  no_hands = replicate l.sessions (empty_hand l)

  abbrev pub opening_cells : Cells
  opening_cells = record { limits = l; row = row; hands = no_hands; tails = replicate l.ranges []; queue = opening_queue l }

  pub opening_state : pages_of opening_cells ≡ opening l
  opening_state = (λ i. state_of l (opening_is_shown l row is i) no_hands (replicate l.ranges []) (opening_queue l)) ∙ (λ i. record (opening l) { tails = λ r. get-replicate l.ranges r [] i; readers = λ s. reader s i })
    where
      reader : (s : ℕ) → reader_of l (store.opening l) no_hands s ≡ opening_reader l
      reader s = let none = get-replicate l.sessions s (empty_hand {A = PageId} l) in λ i. record { pin = 0; hand = (ap (filled (λ f n. 0) 0) none ∙ filled-empty (λ f n. 0) 0 (frame_count l)) i }

  pub opening_core : IsCore opening_cells
  opening_core = record { wide = is.sized; each_session = length-replicate l.sessions (empty_hand l); each_range = length-replicate l.ranges []; sound = subst Sound (sym opening_state) (start_sound l valid) }

-- what the program has made at opening
module _ (l : Limits) (valid : IsValid l) (row : List ℕ) (is : IsOpening l row) (hands : List (List (Option PageId))) (tails : List (List PageTail)) (queue : Queue) (frames : ℕ) where
  abbrev pub made : Cells
  made = record { limits = l; row = row; hands = hands; tails = tails; queue = queue }

  module _ (frames_are : frames ≡ frame_count l) (hands_are : hands ≡ replicate l.sessions (replicate frames None)) (tails_are : tails ≡ replicate l.ranges []) (queue_is : queue ≡ opening_queue l) where
    made_is : made ≡ opening_cells l valid row is
    made_is = λ i. record { limits = l; row = row; hands = (hands_are ∙ ap (λ (n : ℕ). replicate l.sessions (replicate n None)) frames_are) i; tails = tails_are i; queue = queue_is i }

    pub made_core : IsCore made
    made_core = subst IsCore (sym made_is) (opening_core l valid row is)

    pub made_state : pages_of made ≡ opening l
    made_state = ap pages_of made_is ∙ opening_state l valid row is
