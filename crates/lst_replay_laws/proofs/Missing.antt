-- Different keys that are all among others are at most as many as these.
use Rattle.std.proofs.Common.{◌≡◌, ℕ, ◌+◌, ◌≤◌, Bool, true, false, cond, List, [], ◌∷◌, ◌++◌, length, refl, sym, ap, ◌∙◌, subst, arith, length-append, eq-eqb}
use Rattle.std.proofs.lemmas.Bool.{eqb-true}
use Rattle.std.specs.Prelude.{Option, Some, None, is_some, ◌==◌}
use Rattle.lst_model.specs.declared.acts.Act.{Act}
use Rattle.lst_model.specs.declared.acts.Write.{Write}
use Rattle.lst_model.specs.declared.commits.Commit.{Commit}
use Rattle.lst_model.specs.Histories.{acts_on, all_acts_on}
use Rattle.lst_machine.specs.Writes.{place_of, is_placed, with_key}
use Rattle.lst_machine.proofs.Places.{next, place-cons, key_placed}
use Rattle.lst_replay_laws.specs.Again.{placed_by, placed_by_all, keys_written}
use Rattle.lst_replay_laws.proofs.Keys.{with_key_stays}

-- how many of the others are not among the keys
abbrev one_without : Bool → ℕ
one_without b = cond b 0 1

abbrev missing : List ℕ → List ℕ → ℕ
missing keys [] = 0
missing keys (y ∷ ys) = one_without (is_placed keys y) + missing keys ys

not_more : (b c : Bool) → (b ≡ true → c ≡ true) → one_without c ≤ one_without b
not_more true c more = let e = more refl in subst (λ (c : Bool). one_without c ≤ 0) (sym e) (omega arith)
not_more false true more = omega arith
not_more false false more = omega arith

fewer : (keys ys : List ℕ) (key : ℕ) → missing (with_key keys key) ys ≤ missing keys ys
fewer keys [] key = omega arith
fewer keys (y ∷ ys) key =
    let here = not_more (is_placed keys y) (is_placed (with_key keys key) y) (with_key_stays keys key y) in
    let rest = fewer keys ys key in omega (arith, here, rest)

further : (b : Bool) (o : Option ℕ) → b ≡ false → is_some (cond b (Some 0) (next o)) ≡ true → is_some o ≡ true
further true o e is = absurd (let no : true ≡ false = e in cc)
further false None e is = absurd (cc)
further false (Some p) e is = refl

one_fewer : (keys ys : List ℕ) (key : ℕ) → is_placed keys key ≡ false → is_placed ys key ≡ true → missing (with_key keys key) ys + 1 ≤ missing keys ys
one_fewer keys [] key new among = absurd (cc)
one_fewer keys (y ∷ ys) key new among = at (one_fewer keys ys key new) (y == key) refl
  where
    at : (is_placed ys key ≡ true → missing (with_key keys key) ys + 1 ≤ missing keys ys) → (b : Bool) → (y == key) ≡ b → missing (with_key keys key) (y ∷ ys) + 1 ≤ missing keys (y ∷ ys)
    at rest true e =
        let same : y ≡ key = eqb-true _ _ e in
        let now : one_without (is_placed (with_key keys key) y) ≡ 0 = ap one_without (ap (is_placed (with_key keys key)) same ∙ key_placed keys key) in
        let before : one_without (is_placed keys y) ≡ 1 = ap one_without (ap (is_placed keys) same ∙ new) in
        let others = fewer keys ys key in omega (arith, now, before, others)
    at rest false e =
        let below = rest (further (y == key) (place_of ys key) e (sym (ap is_some (place-cons y ys key)) ∙ among)) in
        let here = not_more (is_placed keys y) (is_placed (with_key keys key) y) (with_key_stays keys key y) in omega (arith, below, here)

all_missing : (ys : List ℕ) → missing [] ys ≡ length ys
all_missing [] = refl
all_missing (y ∷ ys) = let rest = all_missing ys in omega (arith, rest)

-- one key more that is among the others
one_more : (keys ys : List ℕ) (key n : ℕ) → is_placed ys key ≡ true → length keys + missing keys ys ≤ n → length (with_key keys key) + missing (with_key keys key) ys ≤ n
one_more keys ys key n among few = at (is_placed keys key) refl
  where
    at : (b : Bool) → is_placed keys key ≡ b → length (with_key keys key) + missing (with_key keys key) ys ≤ n
    at true e = subst (λ (ks : List ℕ). length ks + missing ks ys ≤ n) (sym (ap (λ b. cond b keys (keys ++ key ∷ [])) e)) few
    at false e =
        let less = one_fewer keys ys key e among in
        let long : length (with_key keys key) ≡ length (keys ++ key ∷ []) = ap (λ b. length (cond b keys (keys ++ key ∷ []))) e in
        let more = length-append keys (key ∷ []) in omega (arith, less, long, more, few)

-- ---- the keys of writes

act_not_nil : (a : Act) (acts : List Act) → ◌≡◌ {A = List Act} (a ∷ acts) [] → ⊥
act_not_nil a acts e = omega (arith, ap length e)

rest_none : (b : Bool) (a : Act) (acts : List Act) → ◌≡◌ {A = List Act} (cond b (a ∷ acts) acts) [] → acts ≡ []
rest_none true a acts e = absurd (act_not_nil a acts e)
rest_none false a acts e = e

front_none : (xs ys : List Act) → ◌≡◌ {A = List Act} (xs ++ ys) [] → xs ≡ []
front_none [] ys e = refl
front_none (x ∷ xs) ys e = absurd (act_not_nil x (xs ++ ys) e)

back_none : (xs ys : List Act) → ◌≡◌ {A = List Act} (xs ++ ys) [] → ys ≡ []
back_none [] ys e = e
back_none (x ∷ xs) ys e = absurd (act_not_nil x (xs ++ ys) e)

module _ (ys : List ℕ) (n : ℕ) where
  among_one : (w : Write) (ws : List Write) → ((key : ℕ) → is_placed ys key ≡ false → acts_on key (w ∷ ws) ≡ []) → is_placed ys w.key ≡ true
  among_one w ws none = at (is_placed ys w.key) refl
    where
      at : (b : Bool) → is_placed ys w.key ≡ b → b ≡ true
      at true e = refl
      at false e = absurd (act_not_nil w.act (acts_on w.key ws) (sym (ap (λ b. cond b (w.act ∷ acts_on w.key ws) (acts_on w.key ws)) (eq-eqb w.key w.key refl)) ∙ none w.key e))

  among_writes : (keys : List ℕ) (ws : List Write) → ((key : ℕ) → is_placed ys key ≡ false → acts_on key ws ≡ []) → length keys + missing keys ys ≤ n → length (placed_by keys ws) + missing (placed_by keys ws) ys ≤ n
  among_writes keys [] none few = few
  among_writes keys (w ∷ ws) none few = among_writes (with_key keys w.key) ws (λ key e. rest_none (w.key == key) w.act (acts_on key ws) (none key e)) (one_more keys ys w.key n (among_one w ws none) few)

  among_commits : (keys : List ℕ) (cs : List Commit) → ((key : ℕ) → is_placed ys key ≡ false → all_acts_on key cs ≡ []) → length keys + missing keys ys ≤ n → length (placed_by_all keys cs) + missing (placed_by_all keys cs) ys ≤ n
  among_commits keys [] none few = few
  among_commits keys (c ∷ cs) none few = among_commits (placed_by keys c.writes) cs (λ key e. back_none (acts_on key c.writes) (all_acts_on key cs) (none key e))
      (among_writes keys c.writes (λ key e. front_none (acts_on key c.writes) (all_acts_on key cs) (none key e)) few)

-- commits that write none but these keys write at most as many
pub at_most : (ys : List ℕ) (cs : List Commit) → ((key : ℕ) → is_placed ys key ≡ false → all_acts_on key cs ≡ []) → length (keys_written cs) ≤ length ys
at_most ys cs none = let few = among_commits ys (length ys) [] cs none (let all = all_missing ys in omega (arith, all)) in omega (arith, few)
