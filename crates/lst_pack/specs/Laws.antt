-- Laws of packed words.
use Rattle.std.specs.Prelude.{◌≡◌, ℕ, ◌<◌, ◌≤◌, List, length, slice_index}
use Rattle.std.specs.List.{All}
use Rattle.lst_pack.specs.declared.forms.Form.{Form}
use Rattle.lst_pack.specs.Forms.{form_words, PacksAs, Packs}

-- words stand for one list of values at most
abbrev pub StandsForOne : Type 0
StandsForOne = (words one other : List ℕ) → Packs words one → Packs words other → one ≡ other

-- words past the form don't matter
abbrev pub RestIsFree : Type 0
RestIsFree = (form : Form) (words others values : List ℕ) → PacksAs form words values → form_words form ≤ length others
    → ((place : ℕ) → place < form_words form → slice_index others place ≡ slice_index words place) → PacksAs form others values

-- 257 words or more that begin with 257 zeros stand for 256 zeros
abbrev pub ZerosAreZeros : Type 0
ZerosAreZeros = (words values : List ℕ) → 257 ≤ length words → ((place : ℕ) → place < 257 → slice_index words place ≡ 0)
    → length values ≡ 256 → All (λ value. value ≡ 0) values → Packs words values
