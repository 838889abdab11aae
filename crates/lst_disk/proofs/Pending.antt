-- An image is what differs from the content of the last sync in pending ranges alone.
use Rattle.std.proofs.Common.{◌≡◌, inl, inr, ℕ, ◌+◌, ◌-◌, ◌≤◌, ◌<◌, List, [], ◌∷◌, length, get_or, take, drop, map, cond, refl, sym, ◌∙◌, ap, arith, length-take, length-drop}
use Rattle.std.specs.Prelude.{nat_lt}
use Rattle.std.specs.List.{range_with_len}
use Rattle.std.proofs.lemmas.Bool.{cases_lt}
use Rattle.std.proofs.lemmas.Bool.Decides.{nat_tests}
use Rattle.std.proofs.lemmas.List.{get_or-take, get_or-drop, get_or_past, ext_get_or}
use Rattle.std.proofs.lemmas.List.FromFn.{length-map-range_with_len, get_or-map-range_with_len}
use Rattle.lst_disk.specs.Disk.{Torn}
use Rattle.lst_disk.specs.Images.{IsImage, InSome, DiffersWithin}

-- ---- an image differs in pending ranges alone

torn_elsewhere : (at n : ℕ) (old new : List ℕ) → Torn at n old new → (place : ℕ) → ¬ ((at ≤ place) × (place < at + n)) → get_or new place 0 ≡ get_or old place 0
torn_elsewhere at n old new torn place out = elim (cases_lt place at) [
  | inl lt ↦ sym (get_or-take at new place 0 lt) ∙ ap (λ (l : List ℕ). get_or l place 0) torn.before ∙ get_or-take at old place 0 lt
  | inr le ↦ elim (cases_lt place (at + n)) [
    | inl within ↦ absurd (out (le, within))
    | inr beyond ↦
        let k = place - (at + n) in
        let same : at + n + k ≡ place = omega (arith, beyond) in
        ap (λ (i : ℕ). get_or new i 0) (sym same) ∙ sym (get_or-drop (at + n) new k 0) ∙ ap (λ (l : List ℕ). get_or l k 0) torn.behind ∙ get_or-drop (at + n) old k 0
        ∙ ap (λ (i : ℕ). get_or old i 0) same
  ]
]

pub image_differs : (synced : List ℕ) (ranges : List (ℕ × ℕ)) (c : List ℕ) → IsImage synced ranges c → DiffersWithin ranges synced c
image_differs synced [] c is = record { size = ap length is; elsewhere = λ place out. ap (λ (l : List ℕ). get_or l place 0) is }
image_differs synced (range ∷ earlier) c image =
    let before = image_differs synced earlier image.0 image.1 in
    record {
      size = image.2.size ∙ before.size;
      elsewhere = λ place out. torn_elsewhere range.0 range.1 image.0 c image.2 place (λ within. out (inl within)) ∙ before.elsewhere place (λ other. out (inr other));
    }

-- ---- and what differs so is an image

torn_from : (at n : ℕ) (old new : List ℕ) → length new ≡ length old → ((place : ℕ) → ¬ ((at ≤ place) × (place < at + n)) → get_or new place 0 ≡ get_or old place 0) → Torn at n old new
torn_from at n old new size elsewhere = record {
  size = size;
  before = ext_get_or 0 (take at new) (take at old) (omega (arith, size, length-take at new, length-take at old))
      (λ k lt. let low : k < at = omega (arith, lt, length-take at new) in
      get_or-take at new k 0 low ∙ elsewhere k (λ within. absurd (omega (arith, low, within.0))) ∙ sym (get_or-take at old k 0 low));
  behind = ext_get_or 0 (drop (at + n) new) (drop (at + n) old) (omega (arith, size, length-drop (at + n) new, length-drop (at + n) old))
      (λ k lt. get_or-drop (at + n) new k 0 ∙ elsewhere (at + n + k) (λ within. absurd (omega (arith, within.1))) ∙ sym (get_or-drop (at + n) old k 0));
}

-- a content with the bytes of another in a range
abbrev mended_at : ℕ → ℕ → List ℕ → List ℕ → ℕ → ℕ
mended_at at n synced c k = cond (nat_lt k at) (get_or c k 0) (cond (nat_lt k (at + n)) (get_or synced k 0) (get_or c k 0))

abbrev mended : ℕ → ℕ → List ℕ → List ℕ → List ℕ
mended at n synced c = map (mended_at at n synced c) (range_with_len 0 (length c))

module _ (at n : ℕ) (synced c : List ℕ) (size : length c ≡ length synced) where
  mended_size : length (mended at n synced c) ≡ length c
  mended_size = length-map-range_with_len (mended_at at n synced c) 0 (length c)

  inside : (place : ℕ) → at ≤ place → place < at + n → mended_at at n synced c place ≡ get_or synced place 0
  inside place le lt = grind (arith, nat_tests, le, lt)

  outside : (place : ℕ) → ¬ ((at ≤ place) × (place < at + n)) → mended_at at n synced c place ≡ get_or c place 0
  outside place out = elim (cases_lt place at) [
    | inl lt ↦ grind (arith, nat_tests, lt)
    | inr le ↦ elim (cases_lt place (at + n)) [
      | inl within ↦ absurd (out (le, within))
      | inr beyond ↦ grind (arith, nat_tests, le, beyond)
    ]
  ]

  mended_place : (place : ℕ) → get_or (mended at n synced c) place 0 ≡ mended_at at n synced c place
  mended_place place = elim (cases_lt place (length c)) [
    | inl lt ↦ get_or-map-range_with_len (mended_at at n synced c) 0 (length c) place place 0 lt (omega arith)
    | inr past ↦
        let nothing : get_or c place 0 ≡ 0 = get_or_past c place 0 past in
        let nothing_synced : get_or synced place 0 ≡ 0 = get_or_past synced place 0 (omega (arith, size, past)) in
        let here : mended_at at n synced c place ≡ 0 = elim (cases_lt place at) [
          | inl lt ↦ grind (arith, nat_tests, lt, nothing)
          | inr le ↦ elim (cases_lt place (at + n)) [
            | inl within ↦ inside place le within ∙ nothing_synced
            | inr beyond ↦ grind (arith, nat_tests, le, beyond, nothing)
          ]
        ] in
        get_or_past (mended at n synced c) place 0 (omega (arith, mended_size, past)) ∙ sym here
  ]

  mended_torn : Torn at n (mended at n synced c) c
  mended_torn = torn_from at n (mended at n synced c) c (sym mended_size) (λ place out. sym (mended_place place ∙ outside place out))

pub differs_is_image : (synced : List ℕ) (ranges : List (ℕ × ℕ)) (c : List ℕ) → DiffersWithin ranges synced c → IsImage synced ranges c
differs_is_image synced [] c differs = ext_get_or 0 c synced differs.size (λ k lt. differs.elsewhere k (λ none. none))
differs_is_image synced (range ∷ earlier) c differs =
    let at = range.0 in
    let n = range.1 in
    let d = mended at n synced c in
    let size = differs.size in
    let before : DiffersWithin earlier synced d = record {
      size = mended_size at n synced c size ∙ size;
      elsewhere = λ place out. elim (cases_lt place at) [
        | inl lt ↦ mended_place at n synced c size place ∙ outside at n synced c size place (λ within. absurd (omega (arith, lt, within.0)))
            ∙ differs.elsewhere place (λ some. elim some [ inl within ↦ absurd (omega (arith, lt, within.0)) | inr other ↦ out other ])
        | inr le ↦ elim (cases_lt place (at + n)) [
          | inl within ↦ mended_place at n synced c size place ∙ inside at n synced c size place le within
          | inr beyond ↦ mended_place at n synced c size place ∙ outside at n synced c size place (λ within. absurd (omega (arith, beyond, within.1)))
              ∙ differs.elsewhere place (λ some. elim some [ inl within ↦ absurd (omega (arith, beyond, within.1)) | inr other ↦ out other ])
        ]
      ];
    } in
    (d, differs_is_image synced earlier d before, mended_torn at n synced c size)
