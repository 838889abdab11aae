-- Writes by key, and lists of commits that are run again.
use Rattle.std.proofs.Common.{◌≡◌, ℕ, suc, ◌+◌, ◌≤◌, Bool, true, false, cond, List, [], ◌∷◌, ◌++◌, length, refl, sym, ap, ◌∙◌, subst, arith, append_assoc, append-nil, eq-eqb}
use Rattle.std.proofs.lemmas.Bool.{ltb-true, ltb-false}
use Rattle.std.specs.Prelude.{nat_lt, ◌==◌, ◌&&◌}
use Rattle.std.specs.List.{AllByRecursion}
use Rattle.lst_model.specs.declared.acts.Act.{Act}
use Rattle.lst_model.specs.declared.acts.Write.{Write}
use Rattle.lst_model.specs.declared.commits.Commit.{Commit}
use Rattle.lst_model.specs.Tables.{Rows, all_applied}
use Rattle.lst_model.specs.Histories.{replayed, acts_on, joined, StandFrom, StandByKey}
use Rattle.lst_model.proofs.Joining.{joins, none_below}
use Rattle.lst_machine.specs.State.{Accepted}
use Rattle.lst_machine.specs.Writes.{gathered}
use Rattle.lst_snapshots.specs.Replays.{numbered_from, SameWrites}
use Rattle.lst_replay_laws.specs.Again.{commits_by, again, again_behind, writes_in}

-- ---- writes by key

not_nil : (a : Act) (acts : List Act) → ◌≡◌ {A = List Act} [] (a ∷ acts) → ⊥
not_nil a acts e = omega (arith, ap length e)

some_act : (w : Write) (ws : List Write) → acts_on w.key (w ∷ ws) ≡ w.act ∷ acts_on w.key ws
some_act w ws = ap (λ b. cond b (w.act ∷ acts_on w.key ws) (acts_on w.key ws)) (eq-eqb w.key w.key refl)

tails_same : (b : Bool) (a : Act) (xs ys : List Act) → cond b (a ∷ xs) xs ≡ cond b (a ∷ ys) ys → xs ≡ ys
tails_same true a xs ys e = cc e
tails_same false a xs ys e = e

-- by key, writes with the same acts on each key are the same
pub same_by_key : (from : ℕ) (xs ys : List Write) → StandFrom from xs → StandFrom from ys → ((key : ℕ) → acts_on key xs ≡ acts_on key ys) → xs ≡ ys
same_by_key from [] [] one two same = refl
same_by_key from [] (y ∷ ys) one two same = absurd (not_nil y.act (acts_on y.key ys) (same y.key ∙ some_act y ys))
same_by_key from (x ∷ xs) [] one two same = absurd (not_nil x.act (acts_on x.key xs) (sym (same x.key) ∙ some_act x xs))
same_by_key from (x ∷ xs) (y ∷ ys) one two same = at (same_by_key x.key xs ys one.1) (nat_lt x.key y.key) refl (nat_lt y.key x.key) refl
  where
    at : (StandFrom x.key ys → ((key : ℕ) → acts_on key xs ≡ acts_on key ys) → xs ≡ ys) → (b : Bool) → nat_lt x.key y.key ≡ b → (c : Bool) → nat_lt y.key x.key ≡ c → x ∷ xs ≡ y ∷ ys
    at behind true low c e = absurd (not_nil x.act (acts_on x.key xs) (sym (none_below x.key y.key (y ∷ ys) (ltb-true _ _ low) (omega arith, two.1)) ∙ sym (same x.key) ∙ some_act x xs))
    at behind false high true low = absurd (not_nil y.act (acts_on y.key ys) (sym (none_below y.key x.key (x ∷ xs) (ltb-true _ _ low) (omega arith, one.1)) ∙ same y.key ∙ some_act y ys))
    at behind false high false low =
        let key : x.key ≡ y.key = omega (arith, ltb-false _ _ high, ltb-false _ _ low) in
        let heads : x.act ∷ acts_on x.key xs ≡ y.act ∷ acts_on y.key ys = sym (some_act x xs) ∙ same x.key ∙ ap (λ k. acts_on k (y ∷ ys)) key ∙ some_act y ys in
        let act : x.act ≡ y.act = cc heads in
        let write : x ≡ y = λ i. record { key = key i; act = act i } in
        let rest : xs ≡ ys = behind (subst (λ k. StandFrom k ys) (sym key) two.1) (λ q. tails_same (x.key == q) x.act (acts_on q xs) (acts_on q ys) (same q ∙ (λ i. cond (sym key i == q) (sym act i ∷ acts_on q ys) (acts_on q ys)))) in
        λ i. write i ∷ rest i

pub gathered_stand : (s n : ℕ) (writes : List Write) (xs : List Accepted) → StandByKey writes → StandByKey (gathered s n writes xs)
gathered_stand s n writes [] stand = stand
gathered_stand s n writes (a ∷ xs) stand = at (λ ws st. gathered_stand s n ws xs st) (a.session == s && a.number == n)
  where
    at : ((ws : List Write) → StandByKey ws → StandByKey (gathered s n ws xs)) → (b : Bool) → StandByKey (gathered s n (cond b (joined writes a.write) writes) xs)
    at rest true = rest (joined writes a.write) ((joins writes a.write).order stand)
    at rest false = rest writes stand

pub front_stands : (from : ℕ) (xs ys : List Write) → StandFrom from (xs ++ ys) → StandFrom from xs
front_stands from [] ys stand = tt
front_stands from (x ∷ xs) ys stand = (stand.0, front_stands x.key xs ys stand.1)

-- ---- lists of commits

pub all_at : {A : Type 0} (P : A → Type 0) (xs : List A) (x : A) (ys : List A) → AllByRecursion P (xs ++ x ∷ ys) → P x
all_at P [] x ys all = all.0
all_at P (y ∷ xs) x ys all = all_at P xs x ys all.1

pub commits_by-append : (s : ℕ) (xs : List Commit) (c : Commit) → commits_by s (xs ++ c ∷ []) ≡ commits_by s xs + cond (c.session == s) 1 0
commits_by-append s [] c = omega arith
commits_by-append s (x ∷ xs) c = let rest = commits_by-append s xs c in omega (arith, rest)

-- one for a test that holds, and none for one that doesn't
pub counted : (b : Bool) → b ≡ true → ◌≡◌ {A = ℕ} (cond b 1 0) 1
counted b e = ap (λ (b : Bool). cond b 1 0) e

pub uncounted : (b : Bool) → b ≡ false → ◌≡◌ {A = ℕ} (cond b 1 0) 0
uncounted b e = ap (λ (b : Bool). cond b 1 0) e

pub commits_by-more : (xs : List Commit) (c : Commit) (ys : List Commit) → commits_by c.session xs + 1 ≤ commits_by c.session (xs ++ c ∷ ys)
commits_by-more [] c ys = let one = counted (c.session == c.session) (eq-eqb c.session c.session refl) in omega (arith, one)
commits_by-more (x ∷ xs) c ys = let rest = commits_by-more xs c ys in omega (arith, rest)

pub writes_in-split : (xs : List Commit) (c : Commit) (ys : List Commit) → writes_in (xs ++ c ∷ ys) ≡ writes_in xs + (length c.writes + writes_in ys)
writes_in-split [] c ys = omega arith
writes_in-split (x ∷ xs) c ys = let rest = writes_in-split xs c ys in omega (arith, rest)

pub again-append : (front cs : List Commit) (c : Commit) → again_behind front (cs ++ c ∷ []) ≡ again_behind front cs ++ again (front ++ cs) c ∷ []
again-append front [] c = ap (λ f. again f c ∷ []) (sym (append-nil front))
again-append front (x ∷ cs) c = ap (λ (rest : List Commit). again front x ∷ rest)
    (again-append (front ++ x ∷ []) cs c ∙ ap (λ (f : List Commit). again_behind (front ++ x ∷ []) cs ++ again f c ∷ []) (append_assoc front (x ∷ []) cs))

pub again-length : (front cs : List Commit) → length (again_behind front cs) ≡ length cs
again-length front [] = refl
again-length front (x ∷ cs) = ap suc (again-length (front ++ x ∷ []) cs)

pub again-replayed : (table : Rows) (front cs : List Commit) → replayed table (again_behind front cs) ≡ replayed table cs
again-replayed table front [] = refl
again-replayed table front (x ∷ cs) = again-replayed (all_applied table x.writes) (front ++ x ∷ []) cs

pub numbered-length : (time : ℕ) (cs : List Commit) → length (numbered_from time cs) ≡ length cs
numbered-length time [] = refl
numbered-length time (x ∷ cs) = ap suc (numbered-length (suc time) cs)

pub numbered-replayed : (table : Rows) (time : ℕ) (cs : List Commit) → replayed table (numbered_from time cs) ≡ replayed table cs
numbered-replayed table time [] = refl
numbered-replayed table time (x ∷ cs) = numbered-replayed (all_applied table x.writes) (suc time) cs

pub again_same : (front cs : List Commit) → SameWrites (again_behind front cs) cs
again_same front [] = tt
again_same front (x ∷ cs) = (refl, again_same (front ++ x ∷ []) cs)
