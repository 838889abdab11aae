-- What the versions of a chain leave in a column, from the newest version down.
use Rattle.std.proofs.Common.{◌≡◌, ⊎_elim, ℕ, ◌++◌, List, [], ◌∷◌, map, reverse, Bool, true, false, cond, Option, None, Some, refl, sym, ap, ◌∙◌}
use Rattle.std.specs.List.{filter}
use Rattle.std.specs.Prelude.{option_map}
use Rattle.std.proofs.lemmas.List.{reverse-append, map-append, append-nil}
use Rattle.std.proofs.lemmas.List.Elements.{filter-append, All-head, All-tail}
use Rattle.std.proofs.lemmas.List.Sums.{fold_push}
use Rattle.lst_chain.specs.declared.Seen.{Seen}
use Rattle.lst_chain.specs.declared.Seen.TheVariants.{Hidden}
use Rattle.lst_chain.specs.Chain.{replaced, left_by, acts, is_visible, column_value, IsPassed, ActsAreTaken, AddsOne, PassedChangeNothing, NewestDecides, Cell, null_column, number_of, null_flag, cell_of, cell_value, CellsAreRead}

-- ---- for any test and any content

module _ {V A : Type 0} (test : V → Bool) (held : V → Option (Option A)) where
  pub left_by-acts-cons : (version : V) (older : List V) → left_by (acts test held (version ∷ older)) ≡ cond (test version) (replaced (left_by (acts test held older)) (held version)) (left_by (acts test held older))
  left_by-acts-cons version older = choose (test version)
    where
      choose : (b : Bool) → left_by (cond b (acts test held older ++ held version ∷ []) (acts test held older)) ≡ cond b (replaced (left_by (acts test held older)) (held version)) (left_by (acts test held older))
      choose true = fold_push replaced None (acts test held older) (held version)
      choose false = refl

  pub left_by-acts_hidden : (version : V) (older : List V) → test version ≡ false → left_by (acts test held (version ∷ older)) ≡ left_by (acts test held older)
  left_by-acts_hidden version older hidden = ap (λ b. left_by (cond b (acts test held older ++ held version ∷ []) (acts test held older))) hidden

  pub left_by-acts_without : (version : V) (older : List V) → held version ≡ None → left_by (acts test held (version ∷ older)) ≡ left_by (acts test held older)
  left_by-acts_without version older none = left_by-acts-cons version older ∙ choose (test version)
    where
      choose : (b : Bool) → cond b (replaced (left_by (acts test held older)) (held version)) (left_by (acts test held older)) ≡ left_by (acts test held older)
      choose true = ap (replaced (left_by (acts test held older))) none
      choose false = refl

  pub left_by-acts_with : (version : V) (older : List V) (value : Option A) → test version ≡ true → held version ≡ Some value → left_by (acts test held (version ∷ older)) ≡ value
  left_by-acts_with version older value taken some = left_by-acts-cons version older
      ∙ ap (λ b. cond b (replaced (left_by (acts test held older)) (held version)) (left_by (acts test held older))) taken
      ∙ ap (replaced (left_by (acts test held older))) some

pub acts-is : {V A : Type 0} → ActsAreTaken V A
acts-is test of [] = refl
acts-is {V} {A} test of (version ∷ older) = choose (test version) (acts-is test of older) ∙ sym whole
  where
    below : List A
    below = map of (filter test (reverse older))

    whole : map of (filter test (reverse (version ∷ older))) ≡ below ++ map of (cond (test version) (version ∷ []) [])
    whole = ap (λ versions. map of (filter test versions)) (reverse-append (version ∷ []) older) ∙ ap (map of) (filter-append test (reverse older) (version ∷ []))
        ∙ map-append of (filter test (reverse older)) (filter test (version ∷ []))

    choose : (b : Bool) → acts test of older ≡ below → cond b (acts test of older ++ of version ∷ []) (acts test of older) ≡ below ++ map of (cond b (version ∷ []) [])
    choose true same = ap (λ of_older. of_older ++ of version ∷ []) same
    choose false same = same ∙ sym (append-nil below)

-- ---- for the versions that a begin sees

module _ {V : Type 0} (status : V → ℕ → Seen) (explicit : V → ℕ → Option (Option ℕ)) where
  pub adds_one : AddsOne status explicit
  adds_one begin column version older = left_by-acts-cons (λ v. is_visible (status v begin)) (λ v. explicit v column) version older

  pub passed_one : (begin column : ℕ) (version : V) (older : List V) → IsPassed status explicit begin column version → column_value status explicit begin column (version ∷ older) ≡ column_value status explicit begin column older
  passed_one begin column version older passed =
      ⊎_elim (λ (h : status version begin ≡ Hidden). left_by-acts_hidden (λ v. is_visible (status v begin)) (λ v. explicit v column) version older (ap is_visible h))
      (λ (h : explicit version column ≡ None). left_by-acts_without (λ v. is_visible (status v begin)) (λ v. explicit v column) version older h) passed

  pub passed_change_nothing : PassedChangeNothing status explicit
  passed_change_nothing begin column [] older passed = refl
  passed_change_nothing begin column (version ∷ newer) older passed = passed_one begin column version (newer ++ older) (All-head (IsPassed status explicit begin column) version newer passed)
      ∙ passed_change_nothing begin column newer older (All-tail (IsPassed status explicit begin column) version newer passed)

  pub newest_decides : NewestDecides status explicit
  newest_decides begin column newer older version held passed visible holds = passed_change_nothing begin column newer (version ∷ older) passed
      ∙ left_by-acts_with (λ v. is_visible (status v begin)) (λ v. explicit v column) version older held (ap is_visible visible) holds

-- ---- cells that may be null

module _ {A B : Type 0} (f : A → B) where
  changed : (before : Option A) (held : Option (Option A)) → replaced (option_map f before) (option_map (option_map f) held) ≡ option_map f (replaced before held)
  changed before None = refl
  changed before (Some held) = refl

  -- what versions leave of what f makes of their content is what f makes of what they leave
  pub left_by-map : {V : Type 0} (test : V → Bool) (held : V → Option (Option A)) (chain : List V) → left_by (acts test (λ v. option_map (option_map f) (held v)) chain) ≡ option_map f (left_by (acts test held chain))
  left_by-map test held [] = refl
  left_by-map {V} test held (version ∷ older) =
      left_by-acts-cons test (λ v. option_map (option_map f) (held v)) version older
      ∙ choose (test version) (left_by-map test held older)
      ∙ ap (option_map f) (sym (left_by-acts-cons test held version older))
    where
      choose : (b : Bool) → left_by (acts test (λ v. option_map (option_map f) (held v)) older) ≡ option_map f (left_by (acts test held older))
          → cond b (replaced (left_by (acts test (λ v. option_map (option_map f) (held v)) older)) (option_map (option_map f) (held version))) (left_by (acts test (λ v. option_map (option_map f) (held v)) older))
          ≡ option_map f (cond b (replaced (left_by (acts test held older)) (held version)) (left_by (acts test held older)))
      choose true same = ap (λ before. replaced before (option_map (option_map f) (held version))) same ∙ changed (left_by (acts test held older)) (held version)
      choose false same = same

pub cells_are_read : {V : Type 0} (status : V → ℕ → Seen) (explicit : V → ℕ → Option (Option ℕ)) → CellsAreRead status explicit
cells_are_read status explicit cells begin column chain hold low = read (column_value status explicit begin column chain) (column_value status explicit begin (null_column column) chain)
    (cell_value status cells begin column chain) number flag
  where
    number : column_value status explicit begin column chain ≡ option_map number_of (cell_value status cells begin column chain)
    number = (λ i. left_by (acts (λ v. is_visible (status v begin)) (λ v. hold.numbers v column low i) chain)) ∙ left_by-map number_of (λ v. is_visible (status v begin)) (λ v. cells v column) chain

    flag : column_value status explicit begin (null_column column) chain ≡ option_map null_flag (cell_value status cells begin column chain)
    flag = (λ i. left_by (acts (λ v. is_visible (status v begin)) (λ v. hold.flags v column low i) chain)) ∙ left_by-map null_flag (λ v. is_visible (status v begin)) (λ v. cells v column) chain

    of_cell : (cell : Option Cell) → cell_of (option_map number_of cell) (option_map null_flag cell) ≡ cell
    of_cell None = refl
    of_cell (Some None) = refl
    of_cell (Some (Some number)) = refl

    read : (number flag : Option ℕ) (cell : Option Cell) → number ≡ option_map number_of cell → flag ≡ option_map null_flag cell → cell_of number flag ≡ cell
    read number flag cell is_number is_flag = (λ i. cell_of (is_number i) (is_flag i)) ∙ of_cell cell
