-- Commits by session and acts by key, where each session writes keys of its own.
use Rattle.std.proofs.Common.{◌≡◌, ℕ, zero, suc, ◌-◌, ◌%◌, ◌≤◌, Bool, true, false, cond, eqb, List, [], ◌∷◌, ◌++◌, length, length-append, map, take, drop, Option, Some, None, refl, sym, ap, ◌∙◌, append_assoc, arith}
use Rattle.std.specs.Prelude.{slice_get}
use Rattle.std.specs.List.{AllByRecursion}
use Rattle.std.proofs.lemmas.Bool.{eq-eqb, ne_eqb, eqb-false}
use Rattle.lst_model.specs.declared.acts.Act.{Act}
use Rattle.lst_model.specs.declared.acts.Write.{Write}
use Rattle.lst_model.specs.declared.commits.Commit.{Commit}
use Rattle.lst_model.specs.Histories.{acts_on, all_acts_on}
use Rattle.lst_core_state.specs.State.{commits_of}

-- the acts of lists of writes on one key, in order
abbrev pub acts_in : ℕ → List (List Write) → List Act
acts_in key [] = []
acts_in key (writes ∷ rest) = acts_on key writes ++ acts_in key rest

abbrev pub writes_in : Commit → List Write
writes_in commit = commit.writes

pub acts_in-map : (key : ℕ) (cs : List Commit) → all_acts_on key cs ≡ acts_in key (map writes_in cs)
acts_in-map key [] = refl
acts_in-map key (c ∷ cs) = ap (λ acts. acts_on key c.writes ++ acts) (acts_in-map key cs)

pub acts_in-append : (key : ℕ) (xs ys : List (List Write)) → acts_in key (xs ++ ys) ≡ acts_in key xs ++ acts_in key ys
acts_in-append key [] ys = refl
acts_in-append key (x ∷ xs) ys = ap (λ acts. acts_on key x ++ acts) (acts_in-append key xs ys) ∙ sym (append_assoc (acts_on key x) (acts_in key xs) (acts_in key ys))

-- the session owns the key, of n sessions
abbrev pub Has : ℕ → ℕ → ℕ → Type 0
Has n s key = s ≡ (key - 1) % n

-- all writes are on keys of the session
abbrev pub WriteOwn : ℕ → ℕ → List Write → Type 0
WriteOwn n s writes = AllByRecursion (λ (w : Write). Has n s w.key) writes

abbrev pub CommitsOwn : ℕ → List Commit → Type 0
CommitsOwn n cs = AllByRecursion (λ (c : Commit). WriteOwn n c.session c.writes) cs

pub none_on : (n s key : ℕ) (ws : List Write) → WriteOwn n s ws → ¬ Has n s key → acts_on key ws ≡ []
none_on n s key [] all other = refl
none_on n s key (w ∷ ws) all other =
    ap (λ (b : Bool). cond b (w.act ∷ acts_on key ws) (acts_on key ws)) (ne_eqb w.key key (λ same. other (all.0 ∙ ap (λ k. (k - 1) % n) same))) ∙ none_on n s key ws all.1 other

-- the acts on a key are those of its session's commits
pub acts_of_own : (n j key : ℕ) (cs : List Commit) → CommitsOwn n cs → Has n j key → all_acts_on key cs ≡ all_acts_on key (commits_of j cs)
acts_of_own n j key [] all own = refl
acts_of_own n j key (c ∷ cs) all own = by_session (eqb c.session j) refl (acts_of_own n j key cs all.1 own)
  where
    by_session : (b : Bool) → eqb c.session j ≡ b → all_acts_on key cs ≡ all_acts_on key (commits_of j cs)
        → acts_on key c.writes ++ all_acts_on key cs ≡ all_acts_on key (cond b (c ∷ commits_of j cs) (commits_of j cs))
    by_session true e rest = ap (λ acts. acts_on key c.writes ++ acts) rest
    by_session false e rest = ap (λ acts. acts ++ all_acts_on key cs) (none_on n c.session key c.writes all.0 (λ is. eqb-false c.session j e (is ∙ sym own))) ∙ rest

pub commits_append : (s : ℕ) (xs ys : List Commit) → commits_of s (xs ++ ys) ≡ commits_of s xs ++ commits_of s ys
commits_append s [] ys = refl
commits_append s (x ∷ xs) ys = step (eqb x.session s) (commits_append s xs ys)
  where
    step : (b : Bool) → commits_of s (xs ++ ys) ≡ commits_of s xs ++ commits_of s ys → cond b (x ∷ commits_of s (xs ++ ys)) (commits_of s (xs ++ ys)) ≡ cond b (x ∷ commits_of s xs) (commits_of s xs) ++ commits_of s ys
    step true e = ap (λ l. x ∷ l) e
    step false e = e

-- nothing can be added to a list that stays the same
pub nothing_added : {A : Type 0} (xs ys : List A) → xs ≡ xs ++ ys → ys ≡ []
nothing_added {A} xs [] e = refl
nothing_added {A} xs (y ∷ ys) e = absurd (let h : length xs ≡ length (xs ++ y ∷ ys) = ap length e in let g = length-append xs (y ∷ ys) in omega arith)

pub front_nil : {A : Type 0} (xs ys : List A) → xs ++ ys ≡ [] → xs ≡ []
front_nil {A} [] ys e = refl
front_nil {A} (x ∷ xs) ys e = absurd (let h : length (x ∷ xs ++ ys) ≡ 0 = ap length e in let g = length-append (x ∷ xs) ys in omega arith)

pub owns_front : (n : ℕ) (xs ys : List Commit) → CommitsOwn n (xs ++ ys) → CommitsOwn n xs
owns_front n [] ys all = tt
owns_front n (x ∷ xs) ys all = (all.0, owns_front n xs ys all.1)

pub halves : {A : Type 0} (b : ℕ) (xs : List A) → xs ≡ take b xs ++ drop b xs
halves {A} zero xs = refl
halves {A} (suc b) [] = refl
halves {A} (suc b) (x ∷ xs) = ap (λ ys. x ∷ ys) (halves b xs)

-- a session without a commit among these has none of them
pub not_among : (s b i : ℕ) (cs : List Commit) (c : Commit) → b ≤ i → slice_get cs i ≡ Some c → commits_of s (drop b cs) ≡ [] → ¬ (c.session ≡ s)
not_among s b i [] c low e none = cc
not_among s zero zero (x ∷ xs) c low e none = λ is. here (eqb x.session s) (eq-eqb x.session s (ap (λ (o : Option Commit). session_in o) e ∙ is)) none
  where
    session_in : Option Commit → ℕ
    session_in None = 0
    session_in (Some d) = d.session

    here : (b : Bool) → b ≡ true → cond b (x ∷ commits_of s xs) (commits_of s xs) ≡ [] → ⊥
    here true t n = cc
    here false t n = cc
not_among s zero (suc i) (x ∷ xs) c low e none = not_among s zero i xs c (omega arith) e (rest (eqb x.session s) none)
  where
    rest : (b : Bool) → cond b (x ∷ commits_of s xs) (commits_of s xs) ≡ [] → commits_of s xs ≡ []
    rest true n = cc
    rest false n = n
not_among s (suc b) zero (x ∷ xs) c low e none = absurd (omega arith)
not_among s (suc b) (suc i) (x ∷ xs) c low e none = not_among s b i xs c (omega arith) e none
