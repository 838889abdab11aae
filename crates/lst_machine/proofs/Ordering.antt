-- The accepted writes of a range stand in the order of their commits, key by key, and only the last ones' transaction is open.
use Rattle.std.proofs.Common.{◌≡◌, ◌≢◌, ◌⊎◌, ℕ, ◌≤◌, Bool, true, false, not, cond, List, [], ◌∷◌, ◌++◌, refl, sym, ap, ◌∙◌, subst, inl, eq-eqb}
use Rattle.std.proofs.lemmas.Bool.{eqb-true}
use Rattle.std.specs.Prelude.{Option, Some, None, is_some, ◌==◌, ◌&&◌}
use Rattle.std.specs.List.{AllByRecursion}
use Rattle.lst_model.specs.declared.commits.Commit.{Commit}
use Rattle.lst_machine.specs.State.{Accepted}
use Rattle.lst_machine.specs.Writes.{time_of, last_where}
use Rattle.lst_machine.proofs.Acting.{is_made_by, acts_by, all_map, all_push}

-- the test by which a rival is found
abbrev pub is_unclosed_on : (ℕ → ℕ → Bool) → ℕ → Accepted → Bool
is_unclosed_on closed key a = a.write.key == key && not (closed a.session a.number)

abbrev pub AreSame : Accepted → Accepted → Type 0
AreSame a b = (a.session ≡ b.session) × (a.number ≡ b.number)

-- a write of a transaction that was committed no later than the other's
abbrev pub IsEarlier : List Commit → Accepted → Accepted → Type 0
IsEarlier history a b = (time : ℕ) × (time_of history a.session a.number ≡ Some time) × ((later : ℕ) → time_of history b.session b.number ≡ Some later → time ≤ later)

-- what is so of a write and one behind it, on one key, where none was closed
abbrev pub StandsBefore : List Commit → (ℕ → ℕ → Bool) → Accepted → Accepted → Type 0
StandsBefore history closed a b = a.write.key ≡ b.write.key → closed a.session a.number ≡ false → closed b.session b.number ≡ false → AreSame a b ⊎ IsEarlier history a b

abbrev pub AreOrdered : List Commit → (ℕ → ℕ → Bool) → List Accepted → Type 0
AreOrdered history closed [] = Unit {0}
AreOrdered history closed (a ∷ rest) = AllByRecursion (StandsBefore history closed a) rest × AreOrdered history closed rest

pub ordered_map : (h g : List Commit) (c d : ℕ → ℕ → Bool) → ((a b : Accepted) → StandsBefore h c a b → StandsBefore g d a b) → (xs : List Accepted) → AreOrdered h c xs → AreOrdered g d xs
ordered_map h g c d f [] are = tt
ordered_map h g c d f (a ∷ xs) are = (all_map (f a) xs are.0, ordered_map h g c d f xs are.1)

pub ordered_push : (h : List Commit) (c : ℕ → ℕ → Bool) (xs : List Accepted) (w : Accepted) → AreOrdered h c xs → AllByRecursion (λ (a : Accepted). StandsBefore h c a w) xs → AreOrdered h c (xs ++ w ∷ [])
ordered_push h c [] w are behind = (tt, tt)
ordered_push h c (a ∷ xs) w are behind = (all_push (StandsBefore h c a) xs w are.0 behind.0, ordered_push h c xs w are.1 behind.1)

-- ---- the rival

-- the last one that passes has what all have
pub last_passes : (P : Accepted → Type 0) (f : Accepted → Bool) (xs : List Accepted) → AllByRecursion P xs → (r : Accepted) → last_where f xs ≡ Some r → P r × (f r ≡ true)
last_passes P f [] all r e = cc
last_passes P f (a ∷ xs) all r e = at (last_where f xs) refl (f a) refl (last_passes P f xs all.1) e
  where
    at : (o : Option Accepted) → last_where f xs ≡ o → (b : Bool) → f a ≡ b → ((q : Accepted) → last_where f xs ≡ Some q → P q × (f q ≡ true)) → cond (is_some o) o (cond b (Some a) None) ≡ Some r → P r × (f r ≡ true)
    at (Some q) is b h rest e = let same : q ≡ r = cc in rest r (is ∙ ap Some same)
    at None is true h rest e = let same : a ≡ r = cc in subst (λ (x : Accepted). P x × (f x ≡ true)) same (all.0, h)
    at None is false h rest e = absurd (cc)

abbrev pub HasRival : List Commit → (ℕ → ℕ → Bool) → ℕ → List Accepted → Accepted → Type 0
HasRival history closed key xs a = a.write.key ≡ key → closed a.session a.number ≡ false → (r : Accepted) × (last_where (is_unclosed_on closed key) xs ≡ Some r) × (AreSame a r ⊎ IsEarlier history a r)

pub unclosed_parts : (c : Bool) (a b : ℕ) → ((a == b) && not c) ≡ true → (a ≡ b) × (c ≡ false)
unclosed_parts c a b e = at (a == b) refl c e
  where
    at : (t : Bool) → (a == b) ≡ t → (d : Bool) → (t && not d) ≡ true → (a ≡ b) × (d ≡ false)
    at true is false e = (eqb-true _ _ is, refl)
    at true is true e = absurd (cc)
    at false is d e = absurd (cc)

passes : (c : Bool) (a b : ℕ) → a ≡ b → c ≡ false → ((a == b) && not c) ≡ true
passes c a b e f = λ i. eq-eqb a b e i && not (f i)

module _ (history : List Commit) (closed : ℕ → ℕ → Bool) (key : ℕ) where
  pub rivals_all : (xs : List Accepted) → AreOrdered history closed xs → AllByRecursion (HasRival history closed key xs) xs
  rivals_all [] are = tt
  rivals_all (a ∷ xs) are = (first (last_where (is_unclosed_on closed key) xs) refl, all_map further xs (rivals_all xs are.1))
    where
      further : (x : Accepted) → HasRival history closed key xs x → HasRival history closed key (a ∷ xs) x
      further x has is shut = let found = has is shut in (found.0, ap (λ o. cond (is_some o) o (cond (is_unclosed_on closed key a) (Some a) None)) found.1, found.2)

      first : (o : Option Accepted) → last_where (is_unclosed_on closed key) xs ≡ o → HasRival history closed key (a ∷ xs) a
      first (Some r) e is shut =
          let last = last_passes (StandsBefore history closed a) (is_unclosed_on closed key) xs are.0 r e in
          let parts = unclosed_parts (closed r.session r.number) r.write.key key last.1 in
          (r, ap (λ o. cond (is_some o) o (cond (is_unclosed_on closed key a) (Some a) None)) e, last.0 (is ∙ sym parts.0) shut parts.1)
      first None e is shut =
          (a, ap (λ o. cond (is_some o) o (cond (is_unclosed_on closed key a) (Some a) None)) e ∙ ap (λ b. cond b (Some a) None) (passes (closed a.session a.number) a.write.key key is shut), inl (refl, refl))

  -- the rival has made an act on the key
  pub rival_acts : (xs : List Accepted) (r : Accepted) → last_where (is_unclosed_on closed key) xs ≡ Some r → acts_by r.session r.number key xs ≢ []
  rival_acts [] r e none = cc
  rival_acts (a ∷ xs) r e none = at (last_where (is_unclosed_on closed key) xs) refl (is_unclosed_on closed key a) refl (rival_acts xs r) e
    where
      skipped : (b : Bool) → cond b (a.write.act ∷ acts_by r.session r.number key xs) (acts_by r.session r.number key xs) ≡ [] → acts_by r.session r.number key xs ≡ []
      skipped true e = cc
      skipped false e = e

      at : (o : Option Accepted) → last_where (is_unclosed_on closed key) xs ≡ o → (b : Bool) → is_unclosed_on closed key a ≡ b → (last_where (is_unclosed_on closed key) xs ≡ Some r → acts_by r.session r.number key xs ≢ [])
          → cond (is_some o) o (cond b (Some a) None) ≡ Some r → ⊥
      at (Some q) is b h rest e = rest (is ∙ e) (skipped (is_made_by r.session r.number a && a.write.key == key) none)
      at None is true h rest e =
          let same : a ≡ r = cc in
          let parts = unclosed_parts (closed a.session a.number) a.write.key key h in
          let own : (is_made_by r.session r.number a && a.write.key == key) ≡ true = λ i. (eq-eqb a.session r.session (ap (λ x. x.session) same) i && eq-eqb a.number r.number (ap (λ x. x.number) same) i) && eq-eqb a.write.key key parts.0 i in
          let some : a.write.act ∷ acts_by r.session r.number key xs ≡ [] = sym (ap (λ b. cond b (a.write.act ∷ acts_by r.session r.number key xs) (acts_by r.session r.number key xs)) own) ∙ none in cc
      at None is false h rest e = cc
