-- Packed words of a page in hand, loaded one by one.
use Rattle.std.proofs.Common.{◌≡◌, ℕ, ◌+◌, ◌*◌, ◌/◌, ◌%◌, ◌<◌, ◌≤◌, List, length, slice_index, refl, sym, subst, ap, ◌∙◌, arith}
use Rattle.std.specs.Prelude.{Option, Some, None, slice_set}
use mathlib.Core.Logic.{dite}
use native.Mathlib.Decide.{ℕ_discrete}
use Rattle.std.proofs.lemmas.List.{get_or-set_same, get_or-set_other, length-set}
use Rattle.lst_layout.specs.declared.TheConstants.{FRAME_VALUES, RANGE_RECORDS}
use Rattle.lst_layout.specs.declared.limits.Limits.{Limits}
use Rattle.lst_layout.specs.Areas.{frame_count}
use Rattle.lst_layout.proofs.Functions.{length-listed}
use Rattle.lst_core_state.specs.declared.known.Known.{Known}
use Rattle.lst_core_state.specs.declared.pages.PageInHand.{PageInHand}
use Rattle.lst_pack.specs.declared.forms.Form.{Form}
use Rattle.lst_pack.specs.declared.forms.Form.TheVariants.{Constant, Dictionary, Runs, Reference, Plain}
use Rattle.lst_pack.specs.Forms.{form_word, form_words, Packs, IsPacked}
use Rattle.lst_pack.proofs.Reading.{rest_is_free}
use Rattle.lst_pages.specs.State.{hand_of}
use Rattle.lst_rule.specs.declared.view.View.{View}
use Rattle.lst_rule.specs.declared.store.Store.{Store}
use Rattle.lst_rule.specs.Rule.{knows}
use Rattle.lst_rule.specs.Seats.{Sitting}
use Rattle.lst_rule.specs.Stores.{IsSeatOf}
use Rattle.lst_rule.specs.PageSteps.{FrameLoaded}
use Rattle.lst_walk.specs.Readers.{IsReader}
use Rattle.lst_walk.specs.Packed.{Skims, packed_of, packed_words, skims_same, skims_on}
use Rattle.lst_walk.proofs.Reading.{reader_on}
use Rattle.lst_walk.proofs.Loading.{frame_skims, packed_word}

-- ---- forms

-- the number that a form has is small where its page fits a frame
pub number_few : (first : ℕ) (form : Form) → first ≡ form_word form → form_words form ≤ 257 → first / 8 ≤ 256
number_few first Constant is few = omega arith
number_few first (Dictionary size) is few = omega arith
number_few first (Runs runs) is few = omega arith
number_few first (Reference width) is few = omega arith
number_few first Plain is few = omega arith

-- how many words it takes
pub constant_words : (first : ℕ) → first % 8 ≡ 1 → (form : Form) → first ≡ form_word form → 2 ≡ form_words form
constant_words first kind Constant is = refl
constant_words first kind (Dictionary size) is = absurd (omega arith)
constant_words first kind (Runs runs) is = absurd (omega arith)
constant_words first kind (Reference width) is = absurd (omega arith)
constant_words first kind Plain is = absurd (omega arith)

pub dictionary_words : (first : ℕ) → first % 8 ≡ 2 → (form : Form) → first ≡ form_word form → 17 + first / 8 ≡ form_words form
dictionary_words first kind Constant is = absurd (omega arith)
dictionary_words first kind (Dictionary size) is = omega arith
dictionary_words first kind (Runs runs) is = absurd (omega arith)
dictionary_words first kind (Reference width) is = absurd (omega arith)
dictionary_words first kind Plain is = absurd (omega arith)

pub runs_words : (first : ℕ) → first % 8 ≡ 3 → (form : Form) → first ≡ form_word form → 1 + 2 * (first / 8) ≡ form_words form
runs_words first kind Constant is = absurd (omega arith)
runs_words first kind (Dictionary size) is = absurd (omega arith)
runs_words first kind (Runs runs) is = omega arith
runs_words first kind (Reference width) is = absurd (omega arith)
runs_words first kind Plain is = absurd (omega arith)

pub reference_words : (first : ℕ) → first % 8 ≡ 4 → (form : Form) → first ≡ form_word form → 2 + 4 * (first / 8) ≡ form_words form
reference_words first kind Constant is = absurd (omega arith)
reference_words first kind (Dictionary size) is = absurd (omega arith)
reference_words first kind (Runs runs) is = absurd (omega arith)
reference_words first kind (Reference width) is = omega arith
reference_words first kind Plain is = absurd (omega arith)

pub plain_words : (first : ℕ) → (first % 8 ≡ 1 → ⊥) → (first % 8 ≡ 2 → ⊥) → (first % 8 ≡ 3 → ⊥) → (first % 8 ≡ 4 → ⊥) → (form : Form) → first ≡ form_word form → 257 ≡ form_words form
plain_words first a b c d Constant is = absurd (a (omega arith))
plain_words first a b c d (Dictionary size) is = absurd (b (omega arith))
plain_words first a b c d (Runs runs) is = absurd (c (omega arith))
plain_words first a b c d (Reference width) is = absurd (d (omega arith))
plain_words first a b c d Plain is = refl

some_words : (form : Form) → 0 < form_words form
some_words Constant = omega arith
some_words (Dictionary size) = omega arith
some_words (Runs runs) = omega arith
some_words (Reference width) = omega arith
some_words Plain = omega arith

-- ---- the words of a page in hand

packed_few : (page : Option PageInHand) → length (packed_of page) ≤ 257
packed_few None = omega arith
packed_few (Some page) = let n = length-listed (slice_index page.words) FRAME_VALUES (RANGE_RECORDS + 1) in omega arith

-- the first n of them were loaded
pub record LoadsPacked (store : Store) (v : View) (seat : Sitting) (s frame n : ℕ) (out : List ℕ) : Type 0 where
  pub reader : IsReader store seat s
  pub skims : Skims v seat.view s
  pub same : knows seat.view s ≡ knows v s
  pub wide : length out ≡ 257
  pub are : (i : ℕ) → i < n → slice_index out i ≡ slice_index (packed_words v s frame) i

pub packed_none : (store : Store) (seat : Sitting) (s frame : ℕ) (out : List ℕ) → IsReader store seat s → length out ≡ 257 → LoadsPacked store seat.view seat s frame 0 out
packed_none store seat s frame out reader wide = record { reader = reader; skims = skims_same seat.view s; same = refl; wide = wide; are = λ i low. absurd (omega arith) }

module _ (store : Store) (v : View) (a b : Sitting) (s frame n : ℕ) (out : List ℕ) (loads : LoadsPacked store v a s frame n out) (x : ℕ) (loaded : FrameLoaded a.view b.view s frame (FRAME_VALUES + n) x) (short : n < length (packed_words v s frame)) where
  pub packed_found : x ≡ slice_index (packed_words v s frame) n
  packed_found = packed_word (hand_of (knows v s).pages.session frame) n x short (λ page in_hand. loaded.in_hand loads.reader.own page (ap (λ (k : Known). hand_of k.pages.session frame) loads.same ∙ in_hand))

  -- one more
  pub packed_next : (more : List ℕ) → IsSeatOf store b → frame < frame_count v.limits → more ≡ slice_set out n x → LoadsPacked store v b s frame (n + 1) more
  packed_next more seat_of low put = let wide = loads.wide in let few = packed_few (hand_of (knows v s).pages.session frame) in
      let skims : Skims a.view b.view s = frame_skims a.view b.view s frame (FRAME_VALUES + n) x loaded loads.reader.host (subst (λ (l : Limits). frame < frame_count l) (sym loads.skims.watched.learns.limits) low) (omega arith) in record {
        reader = reader_on store a b s loads.reader skims.watched seat_of;
        skims = skims_on v a.view b.view s loads.skims skims;
        same = loaded.looked.view.now ∙ loads.same;
        wide = ap length put ∙ (length-set out n x ∙ loads.wide);
        are = λ i up. ap (λ (xs : List ℕ). slice_index xs i) put ∙ dite (ℕ_discrete i n)
            (λ last. ap (λ (k : ℕ). slice_index (slice_set out n x) k) last ∙ (get_or-set_same out n x 0 (omega arith) ∙ (packed_found ∙ ap (λ (k : ℕ). slice_index (packed_words v s frame) k) (sym last))))
            (λ before. get_or-set_other out n i x 0 before ∙ loads.are i (omega arith));
      }

-- what the first one says of the form
pub packed_form : (v : View) (s frame x : ℕ) (values : List ℕ) → x ≡ slice_index (packed_words v s frame) 0 → (packs : Packs (packed_words v s frame) values) → (form : Form) × (x ≡ form_word form) × (form_words form ≤ 257)
packed_form v s frame x values is packs = let few = packed_few (hand_of (knows v s).pages.session frame) in let long = packs.is.long in (packs.form, is ∙ packs.is.first, omega arith)

-- the form takes some of them
pub packed_end : (v : View) (s frame x end : ℕ) → x ≡ slice_index (packed_words v s frame) 0 → ((form : Form) → x ≡ form_word form → end ≡ form_words form) → IsPacked (packed_words v s frame) → (0 < end) × (end ≤ length (packed_words v s frame)) × (end ≤ 257)
packed_end v s frame x end is by packed = let few = packed_few (hand_of (knows v s).pages.session frame) in let form : Form = packed.1.form in let long = packed.1.is.long in let some = some_words packed.1.form in
    let same : end ≡ form_words packed.1.form = by packed.1.form (is ∙ packed.1.is.first) in ((omega arith), (omega arith), (omega arith))

pub packed_some : (v : View) (s frame : ℕ) → IsPacked (packed_words v s frame) → 0 < length (packed_words v s frame)
packed_some v s frame packed = let long = packed.1.is.long in let some = some_words packed.1.form in omega arith

-- and they stand for what all stand for
pub packed_whole : (v : View) (s frame x end : ℕ) (out values : List ℕ) → x ≡ slice_index (packed_words v s frame) 0 → ((form : Form) → x ≡ form_word form → end ≡ form_words form) → length out ≡ 257
    → ((i : ℕ) → i < end → slice_index out i ≡ slice_index (packed_words v s frame) i) → Packs (packed_words v s frame) values → Packs out values
packed_whole v s frame x end out values is by wide are packs = let few = packed_few (hand_of (knows v s).pages.session frame) in let long = packs.is.long in let same : end ≡ form_words packs.form = by packs.form (is ∙ packs.is.first) in record {
  form = packs.form;
  is = rest_is_free packs.form (packed_words v s frame) out values packs.is (omega arith) (λ place low. are place (omega arith));
}
