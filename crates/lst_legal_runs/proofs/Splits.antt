-- What holds at each place of a run, with the places before it.
use Rattle.std.proofs.Common.{◌≡◌, ℕ, ◌+◌, ◌<◌, ◌≤◌, ◌⊎◌, inl, inr, ⊎_elim, List, [], ◌∷◌, ◌++◌, length, get_or, take, drop, map, refl, sym, ap, ◌∙◌, subst}
use Rattle.std.proofs.lemmas.List.{take_all, drop_more, take-append-drop, map-append, map_more}
use Rattle.lst_model.specs.declared.lines.Line.{Line}
use Rattle.lst_model.specs.declared.lines.Line.TheVariants.{Phase, Merge, Call}
use Rattle.lst_model.specs.declared.lines.Call.{Call as CallKind}
use Rattle.lst_model.specs.declared.replies.Reply.{Reply}
use Rattle.lst_replies.specs.Runs.{Answered, answered, AtEachCall, AtEachMerge}
use Rattle.lst_legal_runs.specs.Places.{AtEach, IfCall, IfMerge}

-- a list with one more element, split: at that element, or before it
pub split_push : {X : Type 0} (xs : List X) (x : X) (before : List X) (one : X) (after : List X) → xs ++ x ∷ [] ≡ before ++ one ∷ after → ((before ≡ xs) × (one ≡ x)) ⊎ ((rest : List X) × (xs ≡ before ++ one ∷ rest))
split_push [] x [] one after e = let same : x ≡ one = cc in inl (refl, sym same)
split_push [] x (b ∷ []) one after e = absurd (cc)
split_push [] x (b ∷ c ∷ bs) one after e = absurd (cc)
split_push (y ∷ ys) x [] one after e = let same : y ≡ one = cc in inr (ys, ap (λ z. z ∷ ys) same)
split_push (y ∷ ys) x (b ∷ bs) one after e =
    let first : y ≡ b = cc in
    let others : ys ++ x ∷ [] ≡ bs ++ one ∷ after = cc in
    ⊎_elim (λ h. inl (cc (first, h.0), h.1)) (λ h. inr (h.0, cc (first, h.1))) (split_push ys x bs one after others)

-- a list at an element
pub split_at : {X : Type 0} (xs : List X) (i : ℕ) (d : X) → i < length xs → xs ≡ take i xs ++ get_or xs i d ∷ drop (i + 1) xs
split_at xs i d below = sym (take-append-drop i xs) ∙ ap (λ rest. take i xs ++ rest) (drop_more xs i d below)

pub split_map : {X Y : Type 0} (f : X → Y) (xs : List X) (i : ℕ) (d : X) → i < length xs → map f xs ≡ map f (take i xs) ++ f (get_or xs i d) ∷ map f (drop (i + 1) xs)
split_map f xs i d below = ap (map f) (split_at xs i d below) ∙ map-append f (take i xs) (get_or xs i d ∷ drop (i + 1) xs)

pub at_each_push : (P : List Answered → Answered → Type 0) (front : List Answered) (one : Answered) → AtEach P front → P front one → AtEach P (front ++ one ∷ [])
at_each_push P front one each here before other after e =
    ⊎_elim
    (λ h. subst (λ (b : List Answered). P b other) (sym h.0) (subst (λ (o : Answered). P front o) (sym h.1) here))
    (λ h. each before other h.0 h.1)
    (split_push front one before other after e)

-- ---- a loop over lines, or over what shows one each

module _ {X : Type 0} (f : X → Answered) (P : List Answered → Answered → Type 0) where
  -- P holds at each of the first lines
  pub record SoFar (xs : List X) (i : ℕ) : Type 0 where
    pub each : AtEach P (map f (take i xs))

  pub so_far_none : (xs : List X) → SoFar xs 0
  so_far_none xs = record { each = none }
    where
      none : AtEach P []
      none [] one after e = absurd (cc)
      none (b ∷ before) one after e = absurd (cc)

  pub so_far_more : (xs : List X) (i : ℕ) (d : X) → i < length xs → SoFar xs i → P (map f (take i xs)) (f (get_or xs i d)) → SoFar xs (i + 1)
  so_far_more xs i d below so_far here = record {
    each = subst (AtEach P) (sym (map_more f xs i d below)) (at_each_push P (map f (take i xs)) (f (get_or xs i d)) so_far.each here);
  }

  pub so_far_all : (xs : List X) (i : ℕ) → length xs ≤ i → SoFar xs i → AtEach P (map f xs)
  so_far_all xs i past so_far = subst (λ (ys : List X). AtEach P (map f ys)) (take_all i xs past) so_far.each

  pub so_far_fails : (xs : List X) (i : ℕ) (d : X) → i < length xs → ¬ (P (map f (take i xs)) (f (get_or xs i d))) → ¬ (AtEach P (map f xs))
  so_far_fails xs i d below wrong each = wrong (each (map f (take i xs)) (f (get_or xs i d)) (map f (drop (i + 1) xs)) (split_map f xs i d below))

  -- the same of an item that is read
  pub so_far_step : (xs : List X) (i : ℕ) (x : X) → i < length xs → x ≡ get_or xs i x → SoFar xs i → P (map f (take i xs)) (f x) → SoFar xs (i + 1)
  so_far_step xs i x below is so_far here = so_far_more xs i x below so_far (subst (λ (y : X). P (map f (take i xs)) (f y)) is here)

  pub so_far_wrong : (xs : List X) (i : ℕ) (x : X) → i < length xs → x ≡ get_or xs i x → ¬ (P (map f (take i xs)) (f x)) → ¬ (AtEach P (map f xs))
  so_far_wrong xs i x below is wrong = so_far_fails xs i x below (λ here. wrong (subst (λ (y : X). P (map f (take i xs)) (f y)) (sym is) here))

-- ---- calls and merges alone

pub calls_of : (P : List Answered → ℕ → CallKind → Reply → Type 0) (run : List Answered) → AtEach (λ before one. IfCall (P before) one.line one.reply) run → AtEachCall P run
calls_of P run each before session call reply after e = each before (answered (Call session call) reply) after e

pub of_calls : (P : List Answered → ℕ → CallKind → Reply → Type 0) (run : List Answered) → AtEachCall P run → AtEach (λ before one. IfCall (P before) one.line one.reply) run
of_calls P run each before one after e = by_line one.line refl
  where
    by_line : (line : Line) → one.line ≡ line → IfCall (P before) line one.reply
    by_line Phase is = tt
    by_line (Merge range column) is = tt
    by_line (Call session call) is =
        let same : one ≡ answered (Call session call) one.reply = ap (λ line. answered line one.reply) is in
        each before session call one.reply after (subst (λ (o : Answered). run ≡ before ++ o ∷ after) same e)

pub merges_of : (P : List Answered → ℕ → ℕ → Reply → Type 0) (run : List Answered) → AtEach (λ before one. IfMerge (P before) one.line one.reply) run → AtEachMerge P run
merges_of P run each before range column reply after e = each before (answered (Merge range column) reply) after e

pub of_merges : (P : List Answered → ℕ → ℕ → Reply → Type 0) (run : List Answered) → AtEachMerge P run → AtEach (λ before one. IfMerge (P before) one.line one.reply) run
of_merges P run each before one after e = by_line one.line refl
  where
    by_line : (line : Line) → one.line ≡ line → IfMerge (P before) line one.reply
    by_line Phase is = tt
    by_line (Merge range column) is =
        let same : one ≡ answered (Merge range column) one.reply = ap (λ line. answered line one.reply) is in
        each before range column one.reply after (subst (λ (o : Answered). run ≡ before ++ o ∷ after) same e)
    by_line (Call session call) is = tt
