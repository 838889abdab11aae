-- The acts of one transaction among accepted writes, the last write that passes a test, and the times of commits.
use Rattle.std.proofs.Common.{◌≡◌, ℕ, zero, suc, ◌<◌, Bool, true, false, cond, List, [], ◌∷◌, ◌++◌, refl, sym, ap, ◌∙◌, append_assoc, arith, ◌≤◌, ⊎_elim}
use Rattle.std.proofs.lemmas.Bool.{cases_lt}
use Rattle.std.specs.Prelude.{Some, None, is_some, ◌==◌, ◌&&◌, ◌||◌}
use Rattle.lst_model.specs.declared.acts.Act.{Act}
use Rattle.lst_model.specs.declared.acts.Write.{Write}
use Rattle.lst_model.specs.Histories.{acts_on, joined, StandByKey}
use Rattle.lst_model.proofs.Folds.{acts_on-append}
use Rattle.lst_model.proofs.Joining.{joins}
use Rattle.lst_machine.specs.State.{Accepted}
use Rattle.lst_machine.specs.Writes.{last_where, gathered, accepted_below}
use Rattle.lst_plain.specs.Telling.{is_by, acts_by, has_write}

chosen : {A : Type 0} (b : Bool) (x : A) (xs ys : List A) → cond b (x ∷ (xs ++ ys)) (xs ++ ys) ≡ cond b (x ∷ xs) xs ++ ys
chosen true x xs ys = refl
chosen false x xs ys = refl

pub acts_by-append : (s n key : ℕ) (xs ys : List Accepted) → acts_by s n key (xs ++ ys) ≡ acts_by s n key xs ++ acts_by s n key ys
acts_by-append s n key [] ys = refl
acts_by-append s n key (x ∷ xs) ys =
    ap (λ acts. cond (is_by s n x && x.write.key == key) (x.write.act ∷ acts) acts) (acts_by-append s n key xs ys)
    ∙ chosen (is_by s n x && x.write.key == key) x.write.act (acts_by s n key xs) (acts_by s n key ys)

and-false : (a b : Bool) → b ≡ false → (a && b) ≡ false
and-false true b is = is
and-false false b is = refl

pub or-false : (a b : Bool) → (a || b) ≡ false → (a ≡ false) × (b ≡ false)
or-false true b is = absurd (cc)
or-false false b is = (refl, is)

-- without a write on the key there are no acts on it
pub acts_by-none : (s n key : ℕ) (xs : List Accepted) → has_write key xs ≡ false → acts_by s n key xs ≡ []
acts_by-none s n key [] none = refl
acts_by-none s n key (x ∷ xs) none =
    let parts = or-false (x.write.key == key) (has_write key xs) none in
    ap (λ b. cond b (x.write.act ∷ acts_by s n key xs) (acts_by s n key xs)) (and-false (is_by s n x) (x.write.key == key) parts.0)
    ∙ acts_by-none s n key xs parts.1

pub has_write-append : (key : ℕ) (xs : List Accepted) (y : Accepted) → has_write key (xs ++ y ∷ []) ≡ (has_write key xs || y.write.key == key)
has_write-append key [] y = at_test (y.write.key == key)
  where
    at_test : (b : Bool) → (b || false) ≡ b
    at_test true = refl
    at_test false = refl
has_write-append key (x ∷ xs) y = ap (λ b. x.write.key == key || b) (has_write-append key xs y) ∙ grouped (x.write.key == key) (has_write key xs) (y.write.key == key)
  where
    grouped : (a b c : Bool) → (a || (b || c)) ≡ ((a || b) || c)
    grouped true b c = refl
    grouped false b c = refl

-- tests that differ at most on one transaction's writes to a key, of which there are none
pub last-same : (s n key : ℕ) (f g : Accepted → Bool) (xs : List Accepted) → acts_by s n key xs ≡ [] → ((w : Accepted) → (is_by s n w && w.write.key == key) ≡ false → f w ≡ g w) → last_where f xs ≡ last_where g xs
last-same s n key f g [] none same = refl
last-same s n key f g (x ∷ xs) none same = at_test (λ rest. last-same s n key f g xs rest same) (is_by s n x && x.write.key == key) refl
  where
    at_test : (acts_by s n key xs ≡ [] → last_where f xs ≡ last_where g xs) → (b : Bool) → (is_by s n x && x.write.key == key) ≡ b → last_where f (x ∷ xs) ≡ last_where g (x ∷ xs)
    at_test rest true is = let some : x.write.act ∷ acts_by s n key xs ≡ [] = sym (ap (λ b. cond b (x.write.act ∷ acts_by s n key xs) (acts_by s n key xs)) is) ∙ none in absurd (cc)
    at_test rest false is =
        let others : acts_by s n key xs ≡ [] = sym (ap (λ b. cond b (x.write.act ∷ acts_by s n key xs) (acts_by s n key xs)) is) ∙ none in
        ap (λ last. cond (is_some last) last (cond (f x) (Some x) None)) (rest others)
        ∙ ap (λ b. cond (is_some (last_where g xs)) (last_where g xs) (cond b (Some x) None)) (same x is)

pub last-equal : (f g : Accepted → Bool) (xs : List Accepted) → ((w : Accepted) → f w ≡ g w) → last_where f xs ≡ last_where g xs
last-equal f g [] same = refl
last-equal f g (x ∷ xs) same =
    ap (λ last. cond (is_some last) last (cond (f x) (Some x) None)) (last-equal f g xs same)
    ∙ ap (λ b. cond (is_some (last_where g xs)) (last_where g xs) (cond b (Some x) None)) (same x)

-- without a write on the key none is the last on it
pub last-none : (key : ℕ) (f : Accepted → Bool) (xs : List Accepted) → has_write key xs ≡ false → ((w : Accepted) → (w.write.key == key) ≡ false → f w ≡ false) → last_where f xs ≡ None
last-none key f [] none fails = refl
last-none key f (x ∷ xs) none fails =
    let parts = or-false (x.write.key == key) (has_write key xs) none in
    ap (λ last. cond (is_some last) last (cond (f x) (Some x) None)) (last-none key f xs parts.1 fails)
    ∙ ap (λ b. cond b (Some x) None) (fails x parts.0)

-- the acts on a key of the writes that are gathered of one transaction
pub acts_on-gathered : (s n key : ℕ) (writes : List Write) (xs : List Accepted) → StandByKey writes → acts_on key (gathered s n writes xs) ≡ acts_on key writes ++ acts_by s n key xs
acts_on-gathered s n key writes [] stand = sym (ends (acts_on key writes))
  where
    ends : (ys : List Act) → ys ++ [] ≡ ys
    ends [] = refl
    ends (y ∷ ys) = ap (λ rest. y ∷ rest) (ends ys)
acts_on-gathered s n key writes (x ∷ xs) stand = at_test (acts_on-gathered s n key (joined writes x.write) xs ((joins writes x.write).order stand)) (acts_on-gathered s n key writes xs stand) (is_by s n x) refl
  where
    at_key : (b : Bool) → acts_on key writes ++ cond b (x.write.act ∷ []) [] ++ acts_by s n key xs ≡ acts_on key writes ++ cond b (x.write.act ∷ acts_by s n key xs) (acts_by s n key xs)
    at_key true = append_assoc (acts_on key writes) (x.write.act ∷ []) (acts_by s n key xs)
    at_key false = append_assoc (acts_on key writes) [] (acts_by s n key xs)

    at_test : acts_on key (gathered s n (joined writes x.write) xs) ≡ acts_on key (joined writes x.write) ++ acts_by s n key xs → acts_on key (gathered s n writes xs) ≡ acts_on key writes ++ acts_by s n key xs
        → (b : Bool) → is_by s n x ≡ b → acts_on key (gathered s n (cond b (joined writes x.write) writes) xs) ≡ acts_on key writes ++ cond (b && x.write.key == key) (x.write.act ∷ acts_by s n key xs) (acts_by s n key xs)
    at_test own other true is = own ∙ ap (λ acts. acts ++ acts_by s n key xs) ((joins writes x.write).acts key stand ∙ acts_on-append key writes (x.write ∷ [])) ∙ at_key (x.write.key == key)
    at_test own other false is = other

pub ends : {A : Type 0} (ys : List A) → ys ++ [] ≡ ys
ends [] = refl
ends (y ∷ ys) = ap (λ rest. y ∷ rest) (ends ys)

-- ranges without acts of the transaction on the key
pub none_below : (s n key : ℕ) (accepted : ℕ → List Accepted) (count : ℕ) → ((range : ℕ) → range < count → acts_by s n key (accepted range) ≡ []) → acts_by s n key (accepted_below accepted count) ≡ []
none_below s n key accepted zero none = refl
none_below s n key accepted (suc count) none =
    acts_by-append s n key (accepted_below accepted count) (accepted count)
    ∙ ap (λ acts. acts ++ acts_by s n key (accepted count)) (none_below s n key accepted count (λ range low. none range (omega arith)))
    ∙ none count (omega arith)

-- the acts of one transaction on a key that has writes in one range at most
pub acts_below : (s n key : ℕ) (accepted : ℕ → List Accepted) (home count : ℕ) → ((range : ℕ) → (range ≡ home → ⊥) → acts_by s n key (accepted range) ≡ [])
    → home < count → acts_by s n key (accepted_below accepted count) ≡ acts_by s n key (accepted home)
acts_below s n key accepted home zero apart low = absurd (omega arith)
acts_below s n key accepted home (suc count) apart low = acts_by-append s n key (accepted_below accepted count) (accepted count) ∙ ⊎_elim (below (acts_below s n key accepted home count apart)) here (cases_lt home count)
  where
    here : count ≤ home → acts_by s n key (accepted_below accepted count) ++ acts_by s n key (accepted count) ≡ acts_by s n key (accepted home)
    here high = let same : count ≡ home = omega arith in
        ap (λ acts. acts ++ acts_by s n key (accepted count)) (none_below s n key accepted count (λ range under. apart range (λ e. absurd (omega arith))))
        ∙ ap (λ range. acts_by s n key (accepted range)) same

    below : (home < count → acts_by s n key (accepted_below accepted count) ≡ acts_by s n key (accepted home)) → home < count
        → acts_by s n key (accepted_below accepted count) ++ acts_by s n key (accepted count) ≡ acts_by s n key (accepted home)
    below rest under =
        ap (λ acts. acts ++ acts_by s n key (accepted count)) (rest under)
        ∙ ap (λ acts. acts_by s n key (accepted home) ++ acts) (apart count (λ e. absurd (omega arith)))
        ∙ ends (acts_by s n key (accepted home))
