-- Writes by rising key, those of one key in the order that they had: there is one such order, and joining one by one gives it.
use Rattle.std.proofs.Common.{◌≡◌, ℕ, suc, ◌<◌, ◌≤◌, Bool, true, false, not, ◌&&◌, cond, eqb, ltb, List, [], ◌∷◌, ◌++◌, length, get_or, refl, sym, ap, ◌∙◌, subst, arith}
use Rattle.std.specs.List.{filter, fold}
use Rattle.std.specs.List.Sorted.{IsNonDecreasingBy, IsStableByKey, ties}
use Rattle.std.specs.Ordering.{nat_cmp, is_lt}
use Rattle.std.specs.declared.cmp.Ordering.TheVariants.{Less, Equal, Greater}
use Rattle.std.proofs.lemmas.Bool.{eqb-true, ne_eqb, ltb-true, ltb-false, eq-eqb}
use Rattle.std.proofs.lemmas.List.{append-nil}
use Rattle.lst_model.specs.declared.acts.Write.{Write}
use Rattle.lst_model.specs.declared.acts.Act.TheVariants.{Del}
use Rattle.lst_model.specs.Histories.{joined, by_key, StandFrom, StandByKey}
use Rattle.lst_model.proofs.Joining.{stand_joined}

-- ---- the writes of one key

abbrev pub has_key : ℕ → Write → Bool
has_key key write = eqb key write.key

abbrev on_key : ℕ → List Write → List Write
on_key key writes = filter (has_key key) writes

none_above : (key from : ℕ) (writes : List Write) → key < from → StandFrom from writes → on_key key writes ≡ []
none_above key from [] below stand = refl
none_above key from (write ∷ writes) below stand =
    let above : from ≤ write.key = stand.0 in
    ap (λ (b : Bool). cond b (write ∷ on_key key writes) (on_key key writes)) (ne_eqb key write.key (λ same. absurd (omega arith)))
    ∙ none_above key write.key writes (omega arith) stand.1

here_first : (write : Write) (writes : List Write) → on_key write.key (write ∷ writes) ≡ write ∷ on_key write.key writes
here_first write writes = ap (λ (b : Bool). cond b (write ∷ on_key write.key writes) (on_key write.key writes)) (eq-eqb write.key write.key refl)

-- of two lists in order with the same writes on each key, the first keys are the same
not_less : (first : Write) (rest : List Write) (other : Write) (others : List Write) → StandFrom other.key others → on_key first.key (first ∷ rest) ≡ on_key first.key (other ∷ others) → ¬ (first.key < other.key)
not_less first rest other others stand same below =
    let none : on_key first.key (other ∷ others) ≡ [] = none_above first.key other.key (other ∷ others) below (omega arith, stand) in
    absurd (cc (sym (here_first first rest) ∙ same ∙ none))

one_order_from : (low high : ℕ) (ones others : List Write) → StandFrom low ones → StandFrom high others → ((key : ℕ) → on_key key ones ≡ on_key key others) → ones ≡ others
one_order_from low high [] [] stand stands same = refl
one_order_from low high [] (other ∷ others) stand stands same = absurd (cc (same other.key ∙ here_first other others))
one_order_from low high (first ∷ rest) [] stand stands same = absurd (cc (sym (same first.key) ∙ here_first first rest))
one_order_from low high (first ∷ rest) (other ∷ others) stand stands same =
    let no_less = not_less first rest other others stands.1 (same first.key) in
    let no_more = not_less other others first rest stand.1 (sym (same other.key)) in
    let key : first.key ≡ other.key = omega arith in
    let both : first ∷ on_key first.key rest ≡ other ∷ on_key first.key others =
    sym (here_first first rest) ∙ same first.key ∙ subst (λ (k : ℕ). on_key k (other ∷ others) ≡ other ∷ on_key k others) (sym key) (here_first other others) in
    let head : first ≡ other = cc in
    let tail : on_key first.key rest ≡ on_key first.key others = cc in
    let left : (k : ℕ) → on_key k rest ≡ on_key k others = λ k. by_test k (eqb k first.key) refl tail key in
    cc (head, one_order_from first.key other.key rest others stand.1 stands.1 left)
  where
    by_test : (k : ℕ) (b : Bool) → eqb k first.key ≡ b → on_key first.key rest ≡ on_key first.key others → first.key ≡ other.key → on_key k rest ≡ on_key k others
    by_test k true is tail key = subst (λ (n : ℕ). on_key n rest ≡ on_key n others) (sym (eqb-true k first.key is)) tail
    by_test k false is tail key =
        let ones : on_key k (first ∷ rest) ≡ on_key k rest = ap (λ (b : Bool). cond b (first ∷ on_key k rest) (on_key k rest)) is in
        let twos : on_key k (other ∷ others) ≡ on_key k others = ap (λ (b : Bool). cond b (other ∷ on_key k others) (on_key k others)) (subst (λ (n : ℕ). eqb k n ≡ false) key is) in
        sym ones ∙ same k ∙ twos

-- ---- joining one by one

in_front : {A : Type 0} (b : Bool) (x : A) (xs : List A) → (b ≡ true → xs ≡ []) → cond b (x ∷ xs) xs ≡ xs ++ cond b (x ∷ []) []
in_front true x xs none = subst (λ ys. x ∷ ys ≡ ys ++ x ∷ []) (sym (none refl)) refl
in_front false x xs none = sym (append-nil xs)

moved : {A : Type 0} (b : Bool) (x : A) (xs ys : List A) → cond b (x ∷ (xs ++ ys)) (xs ++ ys) ≡ cond b (x ∷ xs) xs ++ ys
moved true x xs ys = refl
moved false x xs ys = refl

on_key-joined : (key from : ℕ) (writes : List Write) (new : Write) → StandFrom from writes → on_key key (joined writes new) ≡ on_key key writes ++ on_key key (new ∷ [])
on_key-joined key from [] new stand = refl
on_key-joined key from (write ∷ writes) new stand = step (on_key-joined key write.key writes new stand.1) (ltb new.key write.key) refl
  where
    step : on_key key (joined writes new) ≡ on_key key writes ++ on_key key (new ∷ []) → (b : Bool) → ltb new.key write.key ≡ b → on_key key (cond b (new ∷ write ∷ writes) (write ∷ joined writes new)) ≡ on_key key (write ∷ writes) ++ on_key key (new ∷ [])
    step behind true is = in_front (eqb key new.key) new (on_key key (write ∷ writes)) (λ same. none_above key write.key (write ∷ writes) (subst (λ k. k < write.key) (sym (eqb-true _ _ same)) (ltb-true _ _ is)) (omega arith, stand.1))
    step behind false is = ap (λ kept. cond (eqb key write.key) (write ∷ kept) kept) behind ∙ moved (eqb key write.key) write (on_key key writes) (on_key key (new ∷ []))

stand_fold : (joins writes : List Write) → StandByKey joins → StandByKey (fold joined joins writes)
stand_fold joins [] stand = stand
stand_fold joins (write ∷ writes) stand = stand_fold (joined joins write) writes (stand_joined 0 joins write (omega arith) stand)

on_key-fold : (key : ℕ) (joins writes : List Write) → StandByKey joins → on_key key (fold joined joins writes) ≡ on_key key joins ++ on_key key writes
on_key-fold key joins [] stand = sym (append-nil (on_key key joins))
on_key-fold key joins (write ∷ writes) stand =
    on_key-fold key (joined joins write) writes (stand_joined 0 joins write (omega arith) stand)
    ∙ ap (λ front. front ++ on_key key writes) (on_key-joined key 0 joins write stand)
    ∙ regroup (eqb key write.key) (on_key key joins) (on_key key writes)
  where
    regroup : (b : Bool) (front rest : List Write) → (front ++ cond b (write ∷ []) []) ++ rest ≡ front ++ cond b (write ∷ rest) rest
    regroup true [] rest = refl
    regroup true (x ∷ front) rest = ap (λ xs. x ∷ xs) (regroup true front rest)
    regroup false [] rest = refl
    regroup false (x ∷ front) rest = ap (λ xs. x ∷ xs) (regroup false front rest)

pub by_key-stands : (writes : List Write) → StandByKey (by_key writes)
by_key-stands writes = stand_fold [] writes tt

-- ---- what a stable sort gives

ties_eqb : (x y : ℕ) → (not (is_lt (nat_cmp x y)) && not (is_lt (nat_cmp y x))) ≡ eqb x y
ties_eqb x y = by_less (ltb x y) refl
  where
    not_more : (b : Bool) → is_lt (cond b Equal Greater) ≡ false
    not_more true = refl
    not_more false = refl

    by_more : ¬ (x < y) → (b : Bool) → ltb y x ≡ b → not (is_lt (cond b Less (cond (eqb y x) Equal Greater))) ≡ eqb x y
    by_more above true is = let below : y < x = ltb-true y x is in sym (ne_eqb x y (λ e. absurd (omega arith)))
    by_more above false is = let low : x ≤ y = ltb-false y x is in ap not (not_more (eqb y x)) ∙ sym (eq-eqb x y (omega arith))

    by_less : (b : Bool) → ltb x y ≡ b → (not (is_lt (cond b Less (cond (eqb x y) Equal Greater))) && not (is_lt (nat_cmp y x))) ≡ eqb x y
    by_less true is = let below : x < y = ltb-true x y is in sym (ne_eqb x y (λ e. absurd (omega arith)))
    by_less false is =
        ap (λ (b : Bool). not b && not (is_lt (nat_cmp y x))) (not_more (eqb x y))
        ∙ by_more (λ below. let above : y ≤ x = ltb-false x y is in absurd (omega arith)) (ltb y x) refl

stand_rising : (from : ℕ) (writes : List Write) → ((k : ℕ) (d : Write) → k < length writes → from ≤ (get_or writes k d).key) → IsNonDecreasingBy (λ write. write.key) writes → StandFrom from writes
stand_rising from [] least rises = tt
stand_rising from (write ∷ writes) least rises = (
  least 0 write (omega arith),
  stand_rising write.key writes
      (λ k d below. let up : write.key ≤ (get_or (write ∷ writes) (suc k) d).key = rises 0 (suc k) d (omega arith) (omega arith) in up)
      (λ i j d le below. rises (suc i) (suc j) d (omega arith) (omega arith)),
)

pub sorted_is : (writes sorted : List Write) → IsNonDecreasingBy (λ write. write.key) sorted → IsStableByKey (λ write. write.key) nat_cmp writes sorted → sorted ≡ by_key writes
sorted_is writes sorted rises stable =
    one_order_from 0 0 sorted (by_key writes) (stand_rising 0 sorted (λ k d below. omega arith) rises) (by_key-stands writes)
    (λ key. same_ties key sorted ∙ stable (one key) ∙ sym (same_ties key writes) ∙ sym (on_key-fold key [] writes tt))
  where
    one : ℕ → Write
    one key = record { key = key; act = Del }

    same_ties : (key : ℕ) (ws : List Write) → on_key key ws ≡ filter (ties (λ x y. is_lt (nat_cmp x.key y.key)) (one key)) ws
    same_ties key [] = refl
    same_ties key (w ∷ ws) =
        ap (λ (b : Bool). cond b (w ∷ on_key key ws) (on_key key ws)) (sym (ties_eqb key w.key))
        ∙ ap (λ kept. cond (not (is_lt (nat_cmp key w.key)) && not (is_lt (nat_cmp w.key key))) (w ∷ kept) kept) (same_ties key ws)
