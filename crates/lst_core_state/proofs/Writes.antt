-- Lists of writes, by record.
use Rattle.std.proofs.Common.{◌≡◌, ◌≢◌, ℕ, zero, suc, ◌<◌, ◌≤◌, List, [], ◌∷◌, ◌++◌, Bool, true, false, cond, refl, sym, subst, ap, ◌∙◌, arith, append_assoc, eqb, eq-eqb, ne_eqb, lt-ltb, le-ltb, length, ◌&&◌}
use mathlib.Core.Logic.{dite}
use native.Mathlib.Decide.{ℕ_discrete, dec_lt}
use Rattle.lst_model.specs.declared.acts.Act.{Act}
use Rattle.lst_model.specs.declared.acts.Write.{Write}
use Rattle.lst_model.specs.declared.commits.Commit.{Commit}
use Rattle.lst_model.specs.Histories.{acts_on, all_acts_on, joined}
use Rattle.lst_core_state.specs.Writes.{Rising, write, writes_by, line_by}

-- the first write is or is not on the record
pub line_here : (r : ℕ) (w : Write) (ws : List Write) → w.key ≡ r → acts_on r (w ∷ ws) ≡ w.act ∷ acts_on r ws
line_here r w ws e = ap (λ (b : Bool). cond b (w.act ∷ acts_on r ws) (acts_on r ws)) (eq-eqb w.key r e)

pub line_else : (r : ℕ) (w : Write) (ws : List Write) → w.key ≢ r → acts_on r (w ∷ ws) ≡ acts_on r ws
line_else r w ws ne = ap (λ (b : Bool). cond b (w.act ∷ acts_on r ws) (acts_on r ws)) (ne_eqb w.key r ne)

pub acts_on-append : (r : ℕ) (xs ys : List Write) → acts_on r (xs ++ ys) ≡ acts_on r xs ++ acts_on r ys
acts_on-append r [] ys = refl
acts_on-append r (x ∷ xs) ys = dite (ℕ_discrete x.key r)
    (λ e. line_here r x (xs ++ ys) e ∙ ap (λ (l : List Act). x.act ∷ l) (acts_on-append r xs ys) ∙ ap (λ (l : List Act). l ++ acts_on r ys) (sym (line_here r x xs e)))
    (λ ne. line_else r x (xs ++ ys) ne ∙ acts_on-append r xs ys ∙ ap (λ (l : List Act). l ++ acts_on r ys) (sym (line_else r x xs ne)))

pub all_acts_on-append : (r : ℕ) (xs ys : List Commit) → all_acts_on r (xs ++ ys) ≡ all_acts_on r xs ++ all_acts_on r ys
all_acts_on-append r [] ys = refl
all_acts_on-append r (x ∷ xs) ys = ap (λ (l : List Act). acts_on r x.writes ++ l) (all_acts_on-append r xs ys) ∙ sym (append_assoc (acts_on r x.writes) (all_acts_on r xs) (all_acts_on r ys))

pub line_above : (r k : ℕ) (ws : List Write) → r < k → Rising k ws → acts_on r ws ≡ []
line_above r k [] low rising = refl
line_above r k (w ∷ ws) low rising = let h = rising.0 in line_else r w ws (λ e. omega arith) ∙ line_above r w.key ws (omega arith) rising.1

pub rising_from : (j k : ℕ) (ws : List Write) → j ≤ k → Rising k ws → Rising j ws
rising_from j k [] low rising = tt
rising_from j k (w ∷ ws) low rising = (let h = rising.0 in omega arith, rising.1)

pub rising_joined : (k : ℕ) (ws : List Write) (x : Write) → k ≤ x.key → Rising k ws → Rising k (joined ws x)
rising_joined k [] x low rising = (low, tt)
rising_joined k (w ∷ ws) x low rising = dite (dec_lt x.key w.key)
    (λ h. subst (λ (b : Bool). Rising k (cond b (x ∷ w ∷ ws) (w ∷ joined ws x))) (sym (lt-ltb x.key w.key h)) (low, (let g = h in omega arith, rising.1)))
    (λ h. let le : w.key ≤ x.key = grind (arith, h) in subst (λ (b : Bool). Rising k (cond b (x ∷ w ∷ ws) (w ∷ joined ws x))) (sym (le-ltb x.key w.key le)) (rising.0, rising_joined w.key ws x le rising.1))

pub line_joined-here : (k : ℕ) (ws : List Write) (x : Write) → Rising k ws → acts_on x.key (joined ws x) ≡ acts_on x.key ws ++ x.act ∷ []
line_joined-here k [] x rising = line_here x.key x [] refl
line_joined-here k (w ∷ ws) x rising = dite (dec_lt x.key w.key)
    (λ h. ap (λ (b : Bool). acts_on x.key (cond b (x ∷ w ∷ ws) (w ∷ joined ws x))) (lt-ltb x.key w.key h) ∙ line_here x.key x (w ∷ ws) refl ∙ (let none : acts_on x.key (w ∷ ws) ≡ [] = line_above x.key w.key (w ∷ ws) h (omega arith, rising.1) in (ap (λ (l : List Act). x.act ∷ l) none ∙ ap (λ (l : List Act). l ++ x.act ∷ []) (sym none))))
    (λ h. let le : w.key ≤ x.key = grind (arith, h) in ap (λ (b : Bool). acts_on x.key (cond b (x ∷ w ∷ ws) (w ∷ joined ws x))) (le-ltb x.key w.key le) ∙ dite (ℕ_discrete w.key x.key)
    (λ e. line_here x.key w (joined ws x) e ∙ ap (λ (l : List Act). w.act ∷ l) (line_joined-here w.key ws x rising.1) ∙ ap (λ (l : List Act). l ++ x.act ∷ []) (sym (line_here x.key w ws e)))
    (λ ne. line_else x.key w (joined ws x) ne ∙ line_joined-here w.key ws x rising.1 ∙ ap (λ (l : List Act). l ++ x.act ∷ []) (sym (line_else x.key w ws ne))))

pub line_joined-else : (r : ℕ) (ws : List Write) (x : Write) → x.key ≢ r → acts_on r (joined ws x) ≡ acts_on r ws
line_joined-else r [] x ne = line_else r x [] ne
line_joined-else r (w ∷ ws) x ne = dite (dec_lt x.key w.key)
    (λ h. ap (λ (b : Bool). acts_on r (cond b (x ∷ w ∷ ws) (w ∷ joined ws x))) (lt-ltb x.key w.key h) ∙ line_else r x (w ∷ ws) ne)
    (λ h. ap (λ (b : Bool). acts_on r (cond b (x ∷ w ∷ ws) (w ∷ joined ws x))) (le-ltb x.key w.key (grind (arith, h))) ∙ dite (ℕ_discrete w.key r)
    (λ e. line_here r w (joined ws x) e ∙ ap (λ (l : List Act). w.act ∷ l) (line_joined-else r ws x ne) ∙ sym (line_here r w ws e))
    (λ d. line_else r w (joined ws x) d ∙ line_joined-else r ws x ne ∙ sym (line_else r w ws d)))

module _ (p : ℕ → Bool) (key : ℕ → ℕ) (act : ℕ → Act) where
  pub writes_rising : (n : ℕ) → Rising 0 (writes_by p key act n)
  writes_rising zero = tt
  writes_rising (suc n) = step (p (suc n)) (writes_rising n)
    where
      step : (b : Bool) → Rising 0 (writes_by p key act n) → Rising 0 (cond b (joined (writes_by p key act n) (write (key (suc n)) (act (suc n)))) (writes_by p key act n))
      step true h = rising_joined 0 (writes_by p key act n) (write (key (suc n)) (act (suc n))) (omega arith) h
      step false h = h

  -- one key of the writes
  pub writes_line : (n k : ℕ) → acts_on k (writes_by p key act n) ≡ line_by p key act k n
  writes_line zero k = refl
  writes_line (suc n) k = step (p (suc n)) (writes_line n k)
    where
      made : Act
      made = act (suc n)

      at : ℕ
      at = key (suc n)

      before : List Write
      before = writes_by p key act n

      rest : List Act
      rest = line_by p key act k n

      step : (b : Bool) → acts_on k before ≡ rest → acts_on k (cond b (joined before (write at made)) before) ≡ cond (b && eqb at k) (rest ++ made ∷ []) rest
      step true h = dite (ℕ_discrete at k)
          (λ e. subst (λ (z : ℕ). acts_on z (joined before (write at made)) ≡ acts_on z before ++ made ∷ []) e (line_joined-here 0 before (write at made) (writes_rising n))
          ∙ (ap (λ (l : List Act). l ++ made ∷ []) h ∙ sym (ap (λ (d : Bool). cond d (rest ++ made ∷ []) rest) (eq-eqb at k e))))
          (λ ne. line_joined-else k before (write at made) ne ∙ (h ∙ sym (ap (λ (d : Bool). cond d (rest ++ made ∷ []) rest) (ne_eqb at k ne))))
      step false h = h

nil_cons : (a : Act) (l : List Act) → ¬ (a ∷ l ≡ [])
nil_cons a l e = let h : suc (length l) ≡ 0 = ap length e in omega arith

first_of : Act → List Act → Act
first_of d [] = d
first_of d (a ∷ l) = a

rest_of : List Act → List Act
rest_of [] = []
rest_of (a ∷ l) = l

cons_first : (a b : Act) (l m : List Act) → a ∷ l ≡ b ∷ m → a ≡ b
unfolding first_of
cons_first a b l m e = ap (first_of a) e

cons_rest : (a b : Act) (l m : List Act) → a ∷ l ≡ b ∷ m → l ≡ m
unfolding rest_of
cons_rest a b l m e = ap rest_of e

-- a list by record is known by its lines
pub same_lines : (j k : ℕ) (xs ys : List Write) → Rising j xs → Rising k ys → ((r : ℕ) → acts_on r xs ≡ acts_on r ys) → xs ≡ ys
same_lines j k [] [] a b same = refl
same_lines j k [] (y ∷ ys) a b same = absurd (nil_cons y.act (acts_on y.key ys) (sym (line_here y.key y ys refl) ∙ sym (same y.key)))
same_lines j k (x ∷ xs) [] a b same = absurd (nil_cons x.act (acts_on x.key xs) (sym (line_here x.key x xs refl) ∙ same x.key))
same_lines j k (x ∷ xs) (y ∷ ys) a b same = dite (ℕ_discrete x.key y.key)
    (λ e. let both : x.act ∷ acts_on x.key xs ≡ y.act ∷ acts_on x.key ys = sym (line_here x.key x xs refl) ∙ same x.key ∙ line_here x.key y ys (sym e) in
    let front : x ≡ y = (λ i. record { key = e i; act = cons_first x.act y.act (acts_on x.key xs) (acts_on x.key ys) both i }) in
    (λ i. front i ∷ same_lines x.key y.key xs ys a.1 b.1 (λ r. dite (ℕ_discrete x.key r)
    (λ f. subst (λ (q : ℕ). acts_on q xs ≡ acts_on q ys) f (cons_rest x.act y.act (acts_on x.key xs) (acts_on x.key ys) both))
    (λ f. sym (line_else r x xs f) ∙ same r ∙ line_else r y ys (λ g. f (e ∙ g)))) i))
    (λ ne. dite (dec_lt x.key y.key)
    (λ h. absurd (nil_cons x.act (acts_on x.key xs) (sym (line_here x.key x xs refl) ∙ same x.key ∙ line_above x.key y.key (y ∷ ys) h (omega arith, b.1))))
    (λ h. let less : y.key < x.key = grind (arith, h, ne) in absurd (nil_cons y.act (acts_on y.key ys) (sym (line_here y.key y ys refl) ∙ sym (same y.key) ∙ line_above y.key x.key (x ∷ xs) less (omega arith, a.1)))))

-- the tails that are taken, their keys and their acts are all that counts
pub writes_same : (p p' : ℕ → Bool) (key key' : ℕ → ℕ) (act act' : ℕ → Act) (n : ℕ) → ((t : ℕ) → p' t ≡ p t) → ((t : ℕ) → p t ≡ true → (key' t ≡ key t) × (act' t ≡ act t)) → writes_by p' key' act' n ≡ writes_by p key act n
writes_same p p' key key' act act' zero same alike = refl
writes_same p p' key key' act act' (suc n) same alike = ap (λ (b : Bool). cond b (joined before' (write (key' (suc n)) (act' (suc n)))) before') (same (suc n)) ∙ step (p (suc n)) refl (writes_same p p' key key' act act' n same alike)
  where
    before : List Write
    before = writes_by p key act n

    before' : List Write
    before' = writes_by p' key' act' n

    step : (b : Bool) → p (suc n) ≡ b → before' ≡ before → cond b (joined before' (write (key' (suc n)) (act' (suc n)))) before' ≡ cond b (joined before (write (key (suc n)) (act (suc n)))) before
    step true e rest = λ i. joined (rest i) (write ((alike (suc n) e).0 i) ((alike (suc n) e).1 i))
    step false e rest = rest
