-- The state at opening is sound.
use Rattle.std.proofs.Common.{◌≡◌, ◌≢◌, ℕ, zero, suc, ◌+◌, ◌*◌, ◌/◌, ◌%◌, ◌<◌, ◌≤◌, [], None, true, false, cond, ◌&&◌, refl, sym, ap, ◌∙◌, arith, inl, inr, length, slice_index_or, lt-ltb, mul-le-mul_right, suc-mul}
use mathlib.Core.Logic.{dite}
use native.Mathlib.Decide.{ℕ_discrete, dec_lt}
use Rattle.std.proofs.lemmas.List.{length-replicate}
use Rattle.std.proofs.lemmas.Nat.{div-mul-add, mod-mul-add, div-add-mod', mod_below, div_below}
use Rattle.lst_layout.specs.declared.TheConstants.{FRAME_WORDS}
use Rattle.lst_layout.specs.declared.limits.Limits.{Limits}
use Rattle.lst_layout.specs.Limits.{IsValid}
use Rattle.lst_layout.specs.Areas.{page_count, frame_count}
use Rattle.lst_pages.proofs.Pages.{right_blank}
use Rattle.lst_core_state.specs.declared.pages.Retired.{Retired}
use Rattle.lst_pages.specs.Lists.{Every, Any}
use Rattle.lst_pages.specs.State.{opening_directory, nobody_clear, spares, opening, hand_of, opening_reader}
use Rattle.lst_pages.specs.Sound.{IsPage, Outside, Distinct, Rise, Sound}
use Rattle.lst_pages.proofs.Functions.{if_none, rows-length, word_in-rows, length-listed}
use Rattle.lst_pages.proofs.Items.{every_map, first_each}
use Rattle.lst_pages.proofs.Moves.{none_some}
use Rattle.lst_pages.proofs.Keeps.{none_in}

-- ---- numbers of pages

pub page_is : (l : Limits) (r c : ℕ) → IsPage l r c → opening_directory l r c ≡ r * l.columns + c
page_is l r c page = λ i. cond (lt-ltb r l.ranges page.0 i && lt-ltb c l.columns page.1 i) (r * l.columns + c) 0

pub page_low : (l : Limits) (r c : ℕ) → IsPage l r c → r * l.columns + c < page_count l
page_low l r c page = let low = page.0 in let short = page.1 in let m : suc r * l.columns ≤ l.ranges * l.columns = mul-le-mul_right l.columns low in omega (arith, suc-mul r l.columns)

pub page_range : (l : Limits) (r c : ℕ) → c < l.columns → (r * l.columns + c) / l.columns ≡ r
page_range l r c short = div-mul-add r l.columns c short

pub page_column : (l : Limits) (r c : ℕ) → c < l.columns → (r * l.columns + c) % l.columns ≡ c
page_column l r c short = mod-mul-add r l.columns c short

-- a number below that of the pages is that of a page
pub number_page : (l : Limits) (f : ℕ) → 0 < l.columns → f < page_count l → IsPage l (f / l.columns) (f % l.columns) × (f / l.columns * l.columns + f % l.columns ≡ f)
number_page l f some low = ((div_below f l.columns l.ranges some low, mod_below f l.columns some), div-add-mod' f l.columns)

-- ---- spare frames

pub spares_in : (f n a b : ℕ) → a ≤ f → f + n ≤ b → Every (λ (r : Retired). (a ≤ r.frame) × (r.frame < b)) (spares f n)
spares_in f zero a b low high = tt
spares_in f (suc n) a b low high = ((low, omega arith), spares_in (suc f) n a b (omega arith) (omega arith))

spares_distinct : (f n : ℕ) → Distinct (spares f n)
spares_distinct f zero = tt
spares_distinct f (suc n) = (every_map (λ (r : Retired). (suc f ≤ r.frame) × (r.frame < suc f + n)) (λ (r : Retired). r.frame ≢ f) (spares (suc f) n) (λ r b e. let h = b.0 in omega arith) (spares_in (suc f) n (suc f) (suc f + n) (omega arith) (omega arith)), spares_distinct (suc f) n)

spares_all : (f n g : ℕ) → f ≤ g → g < f + n → Any (λ (r : Retired). r.frame ≡ g) (spares f n)
spares_all f zero g low high = absurd (omega arith)
spares_all f (suc n) g low high = dite (ℕ_discrete f g) (λ e. inl e) (λ ne. inr (spares_all (suc f) n g (omega arith) (omega arith)))

spares_rise : (f n : ℕ) → Rise (spares f n) 0
spares_rise f zero = tt
spares_rise f (suc zero) = refl
spares_rise f (suc (suc n)) = (omega arith, (λ p. absurd (omega arith)), spares_rise (suc f) (suc n))

pub length-spares : (f n : ℕ) → length (spares f n) ≡ n
length-spares f zero = refl
length-spares f (suc n) = ap suc (length-spares (suc f) n)

-- ---- the state

pub start_sound : (l : Limits) → IsValid l → Sound (opening l)
start_sound l valid = record {
  valid = valid;
  places = record {
    low = λ r c page. let e = page_is l r c page in let h = page_low l r c page in omega arith;
    once = λ r c q d page page' same. let e : r * l.columns + c ≡ q * l.columns + d = sym (page_is l r c page) ∙ same ∙ page_is l q d page' in
        (sym (page_range l r c page.1) ∙ ap (λ (x : ℕ). x / l.columns) e ∙ page_range l q d page'.1, sym (page_column l r c page.1) ∙ ap (λ (x : ℕ). x % l.columns) e ∙ page_column l q d page'.1);
    outside = every_map (λ (r : Retired). (page_count l ≤ r.frame) × (r.frame < frame_count l)) (λ (r : Retired). (r.frame < frame_count l) × Outside l (opening_directory l) r.frame) (spares (page_count l) l.spare)
        (λ x b. (b.1, (λ r c page same. let high = b.0 in let e = page_is l r c page in let h = page_low l r c page in omega arith))) (spares_in (page_count l) l.spare (page_count l) (frame_count l) (omega arith) (omega arith));
    distinct = spares_distinct (page_count l) l.spare;
    waits = λ f e. absurd (none_some e);
    placed = λ f h. dite (dec_lt f (page_count l)) (λ low. let n = number_page l f valid.columns.0 low in inl (f / l.columns, f % l.columns, n.0, page_is l (f / l.columns) (f % l.columns) n.0 ∙ n.1)) (λ high. inr (inr (spares_all (page_count l) l.spare f (omega arith) h)));
  };
  hand_sized = λ s h. length-replicate (frame_count l) None;
  pinned = λ s h. record { known = refl; low = omega arith; none = λ _ f. none_in l f };
  hand_kept = λ s h f. if_none (λ page. _) (hand_of (opening_reader l) f) (none_in l f);
  hand_same = λ s h f. if_none (λ page. _) (hand_of (opening_reader l) f) (none_in l f);
  hand_right = λ s h f. if_none (λ page. _) (hand_of (opening_reader l) f) (none_in l f);
  cleared = first_each (λ (r : Retired). (s : ℕ) → s < l.sessions → slice_index_or (nobody_clear l) s false ≡ true → hand_of (opening_reader l) r.frame ≡ None) (spares (page_count l) l.spare) (λ r s h e. none_in l r.frame);
  unlooked = λ f e. absurd (none_some e);
  built = tt;
  retirement = record { rise = spares_rise (page_count l) l.spare; count = let n = length-spares (page_count l) l.spare in omega arith; bound = omega arith; few = λ r c page. omega arith };
  right = λ r c page. right_blank c [] (λ n. 0) (λ n low. refl);
  copied = record {
    epoch_known = refl;
    directory_known = λ r c page. word_in-rows (opening_directory l) l.ranges l.columns r c page.0 page.1;
    frames_known = λ f n low short. word_in-rows (λ f n. 0) (frame_count l) FRAME_WORDS f n low short;
  };
  sized = record {
    sessions = length-replicate l.sessions false;
    ranges = length-listed (λ i. _) 0 l.ranges;
    columns = λ r low. rows-length (opening_directory l) l.ranges l.columns r low;
    each_frame = length-listed (λ i. _) 0 (frame_count l);
    each_word = λ f low. rows-length (λ f n. 0) (frame_count l) FRAME_WORDS f low;
  };
}
