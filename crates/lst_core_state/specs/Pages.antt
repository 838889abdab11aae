-- What is known of pages when a store opens: each page has the frame of its number, and the other frames are retired.
use Rattle.std.specs.Prelude.{ℕ, zero, suc, List, [], ◌∷◌, Bool, false, Option, None, replicate}
use Rattle.lst_layout.specs.declared.TheConstants.{FRAME_WORDS}
use Rattle.lst_layout.specs.declared.limits.Limits.{Limits}
use Rattle.lst_layout.specs.Areas.{page_count, frame_count}
use Rattle.lst_layout.specs.Functions.{listed}
use Rattle.lst_layout.specs.Words as store
use Rattle.lst_core_state.specs.declared.pages.Retired.{Retired}
use Rattle.lst_core_state.specs.declared.pages.SessionFrames.{SessionFrames}
use Rattle.lst_core_state.specs.declared.pages.MergerFrames.{MergerFrames}
use Rattle.lst_core_state.specs.declared.pages.PageKnown.{PageKnown}

-- n rows of m words
abbrev pub rows_of : (ℕ → ℕ → ℕ) → ℕ → ℕ → List (List ℕ)
rows_of f n m = listed (λ i. listed (f i) 0 m) 0 n

-- no frame is in hand
abbrev pub empty_hand : {A : Type 0} → Limits → List (Option A)
empty_hand l = replicate (frame_count l) None

-- no session's pin was found not to hold the oldest retired frame
abbrev pub nobody_clear : Limits → List Bool
nobody_clear l = replicate l.sessions false

abbrev pub retired_at : ℕ → ℕ → Retired
retired_at f e = record { frame = f; epoch = e }

-- n frames from f on, retired at epoch 0
abbrev pub spares : ℕ → ℕ → List Retired
spares f zero = []
spares f (suc n) = retired_at f 0 ∷ spares (suc f) n

-- each page has the frame of its number
abbrev pub opening_directory : Limits → ℕ → ℕ → ℕ
opening_directory l = (store.opening l).directory

abbrev pub opening_reader : Limits → SessionFrames
opening_reader l = record { pin = 0; hand = empty_hand l }

-- the frames that no page has are retired
abbrev pub opening_merger : Limits → MergerFrames
opening_merger l = record {
  epoch = 0;
  directory = rows_of (opening_directory l) l.ranges l.columns;
  frames = rows_of (λ f n. 0) (frame_count l) FRAME_WORDS;
  retired = spares (page_count l) l.spare;
  clear = nobody_clear l;
  waiting = None;
  built = None;
  held = [];
  let_go = [];
}

-- what a newcomer knows
unfoldable pub no_pages : Limits → PageKnown
no_pages l = record { pins = 0; session = opening_reader l; stock = opening_merger l }
