-- Pages over the core's state at opening.
use Rattle.std.proofs.Common.{◌≡◌, ℕ, ◌+◌, ◌*◌, List, [], refl, sym, subst, arith}
use Rattle.std.specs.List.{Contains}
use Rattle.lst_layout.specs.declared.limits.Limits.{Limits}
use Rattle.lst_layout.specs.Words as layout
use Rattle.lst_core_state.specs.Pages.{no_pages}
use Rattle.lst_core_state.specs.Runs as core_runs
use Rattle.lst_pages.specs.State.{opening}
use Rattle.lst_pages.specs.Sound.{Sound}
use Rattle.lst_pages.specs.Settled.{tail_in, is_settled, settled_tails}
use Rattle.lst_pages.specs.Known.{pages_in}
use Rattle.lst_pages.specs.StateLaws.{OpeningIsSound}
use Rattle.lst_pages.proofs.Growing.{front_none}
use Rattle.lst_pages.proofs.Starts.{start_sound}

none_settled : (l : Limits) (range : ℕ) → settled_tails l (layout.opening l) range ≡ []
unfolding settled_tails
none_settled l range = front_none (is_settled (layout.opening l)) (tail_in l (layout.opening l)) (λ t. refl) (range * l.tails + 1) l.tails

opening_pages : (l : Limits) → pages_in (core_runs.opening l) ≡ opening l
unfolding no_pages
opening_pages l = λ i. record (opening l) { tails = λ range. none_settled l range i }

no_pin : (l : Limits) → (no_pages l).session.pin ≡ 0
unfolding no_pages
no_pin l = refl

nobody_held : (l : Limits) → (no_pages l).stock.held ≡ []
unfolding no_pages
nobody_held l = refl

pub opening_is_sound : OpeningIsSound
opening_is_sound l valid = record {
  pages = subst Sound (sym (opening_pages l)) (start_sound l valid);
  pins = λ s low some. absurd (let none = no_pin l in omega arith);
  held = λ s has. absurd (let h : Contains [] s = subst (λ (js : List ℕ). Contains js s) (nobody_held l) has in let low = h.1 in omega arith);
}
