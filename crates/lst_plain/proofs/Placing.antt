-- The places of keys among records.
use Rattle.std.proofs.Common.{◌≡◌, ℕ, suc, ◌+◌, ◌<◌, Bool, true, false, cond, List, [], ◌∷◌, ◌++◌, length, get_or, set, map, refl, sym, ap, ◌∙◌, subst, arith, add-one}
use Rattle.std.proofs.lemmas.Bool.{eqb-true, eq-eqb}
use Rattle.std.proofs.lemmas.List.{map-append, length-map}
use Rattle.std.proofs.lemmas.List.Quantifiers.{position-Some}
use Rattle.std.proofs.Math.Seq.{map-set_same}
use Rattle.std.specs.Prelude.{Option, Some, None, nat_lt, ◌==◌}
use Rattle.std.specs.Ordering.{nat_cmp}
use Rattle.std.specs.Cmp.{unsigned_tied}
use Rattle.std.specs.BTreeMap.{is_at}
use Rattle.lst_machine.specs.Writes.{place_of}
use Rattle.lst_machine.proofs.Places.{next, place-cons, with_last, place-append}
use Rattle.lst_plain.specs.declared.versions.Pending.{Pending}
use Rattle.lst_plain.specs.Rows.{Kept, fresh, keys_of, kept_of, settled, settled_row, settled_beside}

-- a key found at a place stands there, within the list
pub at_place : (xs : List ℕ) (q i : ℕ) → place_of xs q ≡ Some i → (i < length xs) × (get_or xs i 0 ≡ q)
at_place xs q i is = let found = position-Some (λ other. other == q) xs i 0 is in (found.0, eqb-true _ _ found.1)

-- the map's answer after the key of a new record is put in
pub indexed : (records : List Kept) (key q : ℕ) → place_of (keys_of records) key ≡ None
    → cond (is_at (nat_cmp key) q) (Some (length records)) (place_of (keys_of records) q) ≡ place_of (keys_of (records ++ fresh key ∷ [])) q
indexed records key q absent =
    ap (λ b. cond b (Some (length records)) (place_of (keys_of records) q)) (unsigned_tied key q)
    ∙ at_test (key == q) refl
    ∙ sym (ap (λ keys. place_of keys q) (map-append (λ (kept : Kept). kept.key) records (fresh key ∷ [])) ∙ place-append (keys_of records) key q)
  where
    at_test : (b : Bool) → (key == q) ≡ b → cond b (Some (length records)) (place_of (keys_of records) q) ≡ with_last (place_of (keys_of records) q) b (length (keys_of records))
    at_test true same = subst (λ (k : ℕ). Some (length records) ≡ with_last (place_of (keys_of records) k) true (length (keys_of records))) (eqb-true key q same)
        (subst (λ (p : Option ℕ). Some (length records) ≡ with_last p true (length (keys_of records))) (sym absent) (ap Some (sym (length-map records (λ (kept : Kept). kept.key)))))
    at_test false other = other_place (place_of (keys_of records) q)
      where
        other_place : (p : Option ℕ) → p ≡ with_last p false (length (keys_of records))
        other_place (Some p) = refl
        other_place None = refl

-- a record that takes the place of another of its key leaves the keys
pub keys-set : (records : List Kept) (i : ℕ) (kept d : Kept) → kept.key ≡ (get_or records i d).key → keys_of (set records i kept) ≡ keys_of records
keys-set records i kept d same = map-set_same (λ (kept : Kept). kept.key) records i kept d same

-- the record of a key that stands at a place
pub kept-at : (records : List Kept) (key i : ℕ) (d : Kept) → place_of (keys_of records) key ≡ Some i → kept_of records key ≡ get_or records i d
kept-at [] key i d is = absurd (cc)
kept-at (kept ∷ records) key i d is = at_test (λ j. kept-at records key j d) (kept.key == key) refl
  where
    further : ((j : ℕ) → place_of (keys_of records) key ≡ Some j → kept_of records key ≡ get_or records j d) → (p : Option ℕ) → place_of (keys_of records) key ≡ p → next p ≡ Some i → kept_of records key ≡ get_or (kept ∷ records) i d
    further rest None none e = absurd (cc)
    further rest (Some j) some e = rest j some ∙ ap (λ n. get_or (kept ∷ records) n d) (let step : j + 1 ≡ i = cc in sym (add-one j) ∙ step)

    placed : (b : Bool) → (kept.key == key) ≡ b → cond b (Some 0) (next (place_of (keys_of records) key)) ≡ Some i
    placed b e = sym (place-cons kept.key (keys_of records) key ∙ ap (λ b. cond b (Some 0) (next (place_of (keys_of records) key))) e) ∙ is

    at_test : ((j : ℕ) → place_of (keys_of records) key ≡ Some j → kept_of records key ≡ get_or records j d) → (b : Bool) → (kept.key == key) ≡ b → cond b kept (kept_of records key) ≡ get_or (kept ∷ records) i d
    at_test rest true same = ap (λ n. get_or (kept ∷ records) n d) (let first : Some 0 ≡ Some i = placed true same in let at : 0 ≡ i = cc in at)
    at_test rest false other = further rest (place_of (keys_of records) key) refl (placed false other)

-- a key without a record has a fresh one
pub kept-absent : (records : List Kept) (key : ℕ) → place_of (keys_of records) key ≡ None → kept_of records key ≡ fresh key
kept-absent [] key none = refl
kept-absent (kept ∷ records) key none = at_test (kept-absent records key) (kept.key == key) refl
  where
    further : (place_of (keys_of records) key ≡ None → kept_of records key ≡ fresh key) → (p : Option ℕ) → place_of (keys_of records) key ≡ p → next p ≡ None → kept_of records key ≡ fresh key
    further rest None is e = rest is
    further rest (Some j) is e = absurd (cc)

    placed : (b : Bool) → (kept.key == key) ≡ b → cond b (Some 0) (next (place_of (keys_of records) key)) ≡ None
    placed b e = sym (place-cons kept.key (keys_of records) key ∙ ap (λ b. cond b (Some 0) (next (place_of (keys_of records) key))) e) ∙ none

    at_test : (place_of (keys_of records) key ≡ None → kept_of records key ≡ fresh key) → (b : Bool) → (kept.key == key) ≡ b → cond b kept (kept_of records key) ≡ fresh key
    at_test rest true same = let first : ◌≡◌ {A = Option ℕ} (Some 0) None = placed true same in absurd (cc)
    at_test rest false other = further rest (place_of (keys_of records) key) refl (placed false other)

pub kept-key : (records : List Kept) (key : ℕ) → (kept_of records key).key ≡ key
kept-key [] key = refl
kept-key (kept ∷ records) key = at_test (kept-key records key) (kept.key == key) refl
  where
    at_test : (kept_of records key).key ≡ key → (b : Bool) → (kept.key == key) ≡ b → (cond b kept (kept_of records key)).key ≡ key
    at_test rest true same = eqb-true _ _ same
    at_test rest false other = rest

-- a fresh record changes no key's record
pub kept-add : (records : List Kept) (key q : ℕ) → kept_of (records ++ fresh key ∷ []) q ≡ kept_of records q
kept-add [] key q = at_test (key == q) refl
  where
    at_test : (b : Bool) → (key == q) ≡ b → cond b (fresh key) (fresh q) ≡ fresh q
    at_test true same = ap fresh (eqb-true key q same)
    at_test false other = refl
kept-add (kept ∷ records) key q = ap (cond (kept.key == q) kept) (kept-add records key q)

-- the records of the keys after one record takes the place of another of its key
pub kept-set : (records : List Kept) (key i : ℕ) (kept : Kept) (q : ℕ) → place_of (keys_of records) key ≡ Some i → kept.key ≡ key
    → kept_of (set records i kept) q ≡ cond (key == q) kept (kept_of records q)
kept-set [] key i kept q is same = absurd (cc)
kept-set (first ∷ records) key i kept q is same = at_test (λ j some. kept-set records key j kept q some same) (first.key == key) refl
  where
    placed : (b : Bool) → (first.key == key) ≡ b → cond b (Some 0) (next (place_of (keys_of records) key)) ≡ Some i
    placed b e = sym (place-cons first.key (keys_of records) key ∙ ap (λ b. cond b (Some 0) (next (place_of (keys_of records) key))) e) ∙ is

    same_place : (b : Bool) → first.key ≡ key → (key == q) ≡ b → cond b kept (kept_of records q) ≡ cond b kept (cond (first.key == q) first (kept_of records q))
    same_place true e at = refl
    same_place false e at = ap (λ b. cond b first (kept_of records q)) (sym (ap (λ k. k == q) e ∙ at))

    here : first.key ≡ key → 0 ≡ i → kept_of (set (first ∷ records) i kept) q ≡ cond (key == q) kept (kept_of (first ∷ records) q)
    here e z = subst (λ (n : ℕ). kept_of (set (first ∷ records) n kept) q ≡ cond (key == q) kept (kept_of (first ∷ records) q)) z
        (ap (λ k. cond (k == q) kept (kept_of records q)) same ∙ same_place (key == q) e refl)

    swap : (a b : Bool) → (first.key == key) ≡ false → (first.key == q) ≡ a → (key == q) ≡ b → cond a first (cond b kept (kept_of records q)) ≡ cond b kept (cond a first (kept_of records q))
    swap true true apart ea eb = let both : (first.key == key) ≡ true = eq-eqb _ _ (eqb-true _ _ ea ∙ sym (eqb-true key q eb)) in absurd (cc)
    swap true false apart ea eb = refl
    swap false true apart ea eb = refl
    swap false false apart ea eb = refl

    further : ((j : ℕ) → place_of (keys_of records) key ≡ Some j → kept_of (set records j kept) q ≡ cond (key == q) kept (kept_of records q))
        → (p : Option ℕ) → place_of (keys_of records) key ≡ p → (first.key == key) ≡ false → next p ≡ Some i → kept_of (set (first ∷ records) i kept) q ≡ cond (key == q) kept (kept_of (first ∷ records) q)
    further rest None none apart e = absurd (cc)
    further rest (Some j) some apart e = subst (λ (n : ℕ). kept_of (set (first ∷ records) n kept) q ≡ cond (key == q) kept (kept_of (first ∷ records) q)) (let step : j + 1 ≡ i = cc in sym (add-one j) ∙ step)
        (ap (cond (first.key == q) first) (rest j some) ∙ swap (first.key == q) (key == q) apart refl refl)

    at_test : ((j : ℕ) → place_of (keys_of records) key ≡ Some j → kept_of (set records j kept) q ≡ cond (key == q) kept (kept_of records q))
        → (b : Bool) → (first.key == key) ≡ b → kept_of (set (first ∷ records) i kept) q ≡ cond (key == q) kept (kept_of (first ∷ records) q)
    at_test rest true e = let first_place : Some 0 ≡ Some i = placed true e in here (eqb-true _ _ e) (let at : 0 ≡ i = cc in at)
    at_test rest false e = further rest (place_of (keys_of records) key) refl e (placed false e)

-- the records of the keys after each record is changed in a way that leaves its key, and a fresh one
pub kept-map : (f : Kept → Kept) → ((kept : Kept) → (f kept).key ≡ kept.key) → ((key : ℕ) → f (fresh key) ≡ fresh key) → (records : List Kept) (q : ℕ) → kept_of (map f records) q ≡ f (kept_of records q)
kept-map f key new [] q = sym (new q)
kept-map f key new (kept ∷ records) q = ap (λ k. cond (k == q) (f kept) (kept_of (map f records) q)) (key kept) ∙ ap (cond (kept.key == q) (f kept)) (kept-map f key new records q) ∙ at_test (kept.key == q)
  where
    at_test : (b : Bool) → cond b (f kept) (f (kept_of records q)) ≡ f (cond b kept (kept_of records q))
    at_test true = refl
    at_test false = refl

-- the end of a transaction leaves the key of a record
pub settled-key : (time : Option ℕ) (session : ℕ) (kept : Kept) → (settled time session kept).key ≡ kept.key
settled-key time session kept = at_pending time kept.pending
  where
    at_time : (time : Option ℕ) (pending : Pending) → (settled_row time kept pending).key ≡ kept.key
    at_time None pending = refl
    at_time (Some t) pending = refl

    at_test : (time : Option ℕ) (pending : Pending) (b : Bool) → (cond b (settled_row time kept pending) kept).key ≡ kept.key
    at_test time pending true = at_time time pending
    at_test time pending false = refl

    at_pending : (time : Option ℕ) (pending : Option Pending) → (settled_beside pending time session kept).key ≡ kept.key
    at_pending time None = refl
    at_pending time (Some pending) = at_test time pending (pending.session == session)

pub settled-fresh : (time : Option ℕ) (session key : ℕ) → settled time session (fresh key) ≡ fresh key
settled-fresh time session key = refl
