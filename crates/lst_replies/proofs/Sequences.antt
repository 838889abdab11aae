-- Words read one after another.
use Rattle.std.proofs.Common.{◌≡◌, ℕ, zero, suc, ◌+◌, ◌<◌, ◌≤◌, List, [], ◌∷◌, ◌++◌, length, drop, get_or, flat_map, slice_get, Option, Some, None, option_map, Bor, refl, sym, ap, ◌∙◌, append_assoc, add-one, drop-cons}
use Rattle.std.proofs.lemmas.List.{drop_all}
use Rattle.lst_model.specs.Cells.{Cell}
use Rattle.lst_replies.specs.Texts.{cell_text, cells_text}
use Rattle.lst_replies.specs.Reading.{texts, read_all, with_both}

-- what was read of a list of words, and what stands behind it, are what the whole list is read as
pub record ReadsOn {X : Type 0} (read : List ℕ → Option X) (words : List (Bor (List ℕ))) (front : List X) (i : ℕ) : Type 0 where
  pub whole : read_all read (texts words) ≡ option_map (λ rest. front ++ rest) (read_all read (texts (drop i words)))

module _ {X : Type 0} (read : List ℕ → Option X) (words : List (Bor (List ℕ))) where
  same : (o : Option (List X)) → o ≡ option_map (λ rest. [] ++ rest) o
  same None = refl
  same (Some xs) = refl

  pub reads_first : ReadsOn read words [] 0
  reads_first = record { whole = same (read_all read (texts words)) }

  opened : (i : ℕ) (d : Bor (List ℕ)) → i < length words → texts (drop i words) ≡ (get_or words i d).now ∷ texts (drop (i + 1) words)
  opened i d below = ap (λ ws. texts ws) (drop-cons words i d below) ∙ ap (λ n. (get_or words i d).now ∷ texts (drop n words)) (sym (add-one i))

  put_in : (front : List X) (x : X) (o : Option (List X)) → option_map (λ rest. front ++ rest) (with_both (λ y ys. y ∷ ys) (Some x) o) ≡ option_map (λ rest. (front ++ x ∷ []) ++ rest) o
  put_in front x None = refl
  put_in front x (Some xs) = ap (λ ys. Some ys) (sym (append_assoc front (x ∷ []) xs))

  pub reads_more : (front : List X) (i : ℕ) (d : Bor (List ℕ)) (x : X) → i < length words → read (get_or words i d).now ≡ Some x → ReadsOn read words front i → ReadsOn read words (front ++ x ∷ []) (i + 1)
  reads_more front i d x below is reads = record {
    whole = reads.whole ∙ ap (λ ws. option_map (λ rest. front ++ rest) (read_all read ws)) (opened i d below)
        ∙ ap (λ o. option_map (λ rest. front ++ rest) (with_both (λ y ys. y ∷ ys) o (read_all read (texts (drop (i + 1) words))))) is
        ∙ put_in front x (read_all read (texts (drop (i + 1) words)));
  }

  pub reads_none : (front : List X) (i : ℕ) (d : Bor (List ℕ)) → i < length words → read (get_or words i d).now ≡ None → ReadsOn read words front i → read_all read (texts words) ≡ None
  reads_none front i d below is reads =
      reads.whole ∙ ap (λ ws. option_map (λ rest. front ++ rest) (read_all read ws)) (opened i d below)
      ∙ ap (λ o. option_map (λ rest. front ++ rest) (with_both (λ y ys. y ∷ ys) o (read_all read (texts (drop (i + 1) words))))) is

  ends : (front : List X) → front ++ [] ≡ front
  ends [] = refl
  ends (x ∷ xs) = ap (λ rest. x ∷ rest) (ends xs)

  pub reads_all : (front : List X) (i : ℕ) → length words ≤ i → ReadsOn read words front i → read_all read (texts words) ≡ Some front
  reads_all front i past reads =
      reads.whole ∙ ap (λ ws. option_map (λ rest. front ++ rest) (read_all read (texts ws))) (drop_all i words past)
      ∙ ap (λ xs. Some xs) (ends front)

pub both_read : {X Y Z : Type 0} (make : X → Y → Z) (first : Option X) (second : Option Y) (x : X) (y : Y) → first ≡ Some x → second ≡ Some y → with_both make first second ≡ Some (make x y)
both_read make first second x y e f = ap (λ o. with_both make o second) e ∙ ap (λ o. with_both make (Some x) o) f

-- what stands from a place on is the item there and what follows
drop_next : {X : Type 0} (xs : List X) (i : ℕ) (x : X) → slice_get xs i ≡ Some x → drop i xs ≡ x ∷ drop (suc i) xs
drop_next [] i x e = absurd cc
drop_next (y ∷ xs) zero x e = let same : y ≡ x = cc in ap (λ z. z ∷ xs) same
drop_next (y ∷ xs) (suc i) x e = drop_next xs i x e

-- one more item is written before those behind it, each behind a byte
pub item_before : {X : Type 0} (text_of : X → List ℕ) (between : ℕ) (xs : List X) (i j : ℕ) (x : X) (old new end : List ℕ) → slice_get xs j ≡ Some x → suc j ≡ i
    → old ≡ flat_map (λ y. between ∷ text_of y) (drop i xs) ++ end → new ≡ between ∷ (text_of x ++ old)
    → new ≡ flat_map (λ y. between ∷ text_of y) (drop j xs) ++ end
item_before text_of between xs i j x old new end is next so_far written =
    written
    ∙ ap (λ t. between ∷ (text_of x ++ t)) so_far
    ∙ ap (λ t. between ∷ t) (sym (append_assoc (text_of x) (flat_map (λ y. between ∷ text_of y) (drop i xs)) end))
    ∙ ap (λ n. flat_map (λ y. between ∷ text_of y) (x ∷ drop n xs) ++ end) (sym next)
    ∙ sym (ap (λ ys. flat_map (λ y. between ∷ text_of y) ys ++ end) (drop_next xs j x is))

-- a row's first cell is written before the others
pub cells_before : (between : ℕ) (row : List Cell) (cell : Cell) (old new end : List ℕ) → slice_get row 0 ≡ Some cell
    → old ≡ flat_map (λ next. between ∷ cell_text next) (drop 1 row) ++ end → new ≡ cell_text cell ++ old
    → new ≡ cells_text between row ++ end
cells_before between [] cell old new end is so_far written = absurd cc
cells_before between (first ∷ row) cell old new end is so_far written =
    let same : cell ≡ first = cc in
    written
    ∙ ap (λ t. cell_text cell ++ t) so_far
    ∙ sym (append_assoc (cell_text cell) (flat_map (λ next. between ∷ cell_text next) row) end)
    ∙ ap (λ c. (cell_text c ++ flat_map (λ next. between ∷ cell_text next) row) ++ end) same
