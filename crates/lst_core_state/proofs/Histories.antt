-- The decoded history.
use Rattle.std.proofs.Common.{◌≡◌, ◌≢◌, ℕ, zero, suc, ◌+◌, ◌<◌, ◌≤◌, List, [], ◌∷◌, ◌++◌, Bool, true, false, cond, eqb, length, refl, sym, ap, ◌∙◌, arith, append_assoc, append-nil, eq-eqb, ne_eqb, length-append}
use Rattle.lst_model.specs.declared.commits.Commit.{Commit}
use Rattle.lst_model.specs.declared.acts.Write.{Write}
use Rattle.lst_core_state.specs.State.{commit_at, history, commits_of}
use Rattle.lst_model.specs.Histories.{Extends}

pub length-history : (c : ℕ) (log : ℕ → ℕ) (begins : ℕ → ℕ → ℕ) (ws : ℕ → List Write) → length (history c log begins ws) ≡ c
unfolding history
length-history zero log begins ws = refl
length-history (suc c) log begins ws = let e = length-history c log begins ws in omega (arith, length-append (history c log begins ws) (commit_at log begins ws (suc c) ∷ []))

-- a change that leaves each entry leaves the history
pub history_same : (c : ℕ) (log log' : ℕ → ℕ) (begins begins' : ℕ → ℕ → ℕ) (ws ws' : ℕ → List Write) → ((t : ℕ) → 0 < t → t ≤ c → commit_at log' begins' ws' t ≡ commit_at log begins ws t) → history c log' begins' ws' ≡ history c log begins ws
unfolding history
history_same zero log log' begins begins' ws ws' same = refl
history_same (suc c) log log' begins begins' ws ws' same = λ i. history_same c log log' begins begins' ws ws' (λ t low high. same t low (omega arith)) i ++ same (suc c) (omega arith) (omega arith) i ∷ []

pub history-next : (c : ℕ) (log : ℕ → ℕ) (begins : ℕ → ℕ → ℕ) (ws : ℕ → List Write) → history (c + 1) log begins ws ≡ history c log begins ws ++ commit_at log begins ws (c + 1) ∷ []
unfolding history
history-next c log begins ws = rw add-one
  where
    add-one : c + 1 ≡ suc c
    add-one = omega arith

pub starts_more : (all front more : List Commit) → Extends all front → Extends (all ++ more) front
starts_more all front more h = (h.0 ++ more, ap (λ l. l ++ more) h.1 ∙ append_assoc front h.0 more)

pub starts_trans : (a b c : List Commit) → Extends a b → Extends b c → Extends a c
starts_trans a b c h k = (k.0 ++ h.0, h.1 ∙ ap (λ l. l ++ h.0) k.1 ∙ append_assoc c k.0 h.0)

pub starts_whole : (all front : List Commit) → all ≡ front → Extends all front
starts_whole all front e = ([], e ∙ sym (append-nil front))

pub starts_length : (all front : List Commit) → Extends all front → length front ≤ length all
starts_length all front h = let e = ap length h.1 in omega (arith, length-append front h.0)

pub commits_of-own : (s : ℕ) (all : List Commit) (c : Commit) → c.session ≡ s → commits_of s (all ++ c ∷ []) ≡ commits_of s all ++ c ∷ []
commits_of-own s [] c e = ap (λ b. cond b (c ∷ []) []) (eq-eqb c.session s e)
commits_of-own s (x ∷ xs) c e = own (eqb x.session s) (commits_of-own s xs c e)
  where
    own : (b : Bool) → commits_of s (xs ++ c ∷ []) ≡ commits_of s xs ++ c ∷ [] → cond b (x ∷ commits_of s (xs ++ c ∷ [])) (commits_of s (xs ++ c ∷ [])) ≡ cond b (x ∷ commits_of s xs) (commits_of s xs) ++ c ∷ []
    own true h = ap (λ l. x ∷ l) h
    own false h = h

pub commits_of-other : (s : ℕ) (all : List Commit) (c : Commit) → c.session ≢ s → commits_of s (all ++ c ∷ []) ≡ commits_of s all
commits_of-other s [] c e = ap (λ b. cond b (c ∷ []) []) (ne_eqb c.session s e)
commits_of-other s (x ∷ xs) c e = own (eqb x.session s) (commits_of-other s xs c e)
  where
    own : (b : Bool) → commits_of s (xs ++ c ∷ []) ≡ commits_of s xs → cond b (x ∷ commits_of s (xs ++ c ∷ [])) (commits_of s (xs ++ c ∷ [])) ≡ cond b (x ∷ commits_of s xs) (commits_of s xs)
    own true h = ap (λ l. x ∷ l) h
    own false h = h
