-- What the machine reads from its lists.
use Rattle.std.proofs.Common.{◌≡◌, ℕ, zero, suc, ◌+◌, ◌/◌, ◌<◌, ◌≤◌, Bool, true, false, cond, List, [], ◌∷◌, ◌++◌, length, get_or, take, drop, refl, sym, ap, ◌∙◌, arith, add-one, take-suc, append_assoc}
use Rattle.std.proofs.lemmas.List.{get_or_default, length-take-le, take-append-drop, drop_more}
use Rattle.std.proofs.lemmas.List.Quantifiers.{position-Some}
use Rattle.std.proofs.lemmas.List.Sums.{take_while-cons}
use Rattle.std.proofs.lemmas.Bool.{lt-ltb, le-ltb}
use Rattle.std.specs.Prelude.{Option, Some, None, unwrap_or, option_map, slice_get, take_while, nat_lt, ◌==◌, ◌&&◌}
use Rattle.lst_layout.specs.declared.limits.Limits.{Limits}
use Rattle.lst_model.specs.declared.acts.Write.{Write}
use Rattle.lst_model.specs.declared.commits.Commit.{Commit}
use Rattle.lst_model.specs.Histories.{joined}
use Rattle.lst_model.specs.declared.replies.Cause.{Cause}
use Rattle.lst_model.specs.declared.replies.Cause.TheVariants.{Newer, Unfinished}
use Rattle.lst_machine.specs.declared.parts.Author.{Author}
use Rattle.lst_machine.specs.State.{Accepted}
use Rattle.lst_machine.specs.Writes.{place_of, time_of, last_where, conflict_with, conflict_at, accepted_below, gathered}
use Rattle.lst_machine.specs.Parts.{Parts, range_in, author_of, IsWhole}
use Rattle.lst_machine.proofs.Appending.{last-append, gathered-append, or_last, time-append, time-front}

-- an element that is got from a list, or none
pub got : {A : Type 0} (xs : List A) (i : ℕ) (x d : A) → slice_get xs i ≡ Some x → get_or xs i d ≡ x
got [] i x d is = absurd (cc)
got (y ∷ xs) zero x d is = ap (λ o. unwrap_or o d) is
got (y ∷ xs) (suc i) x d is = got xs i x d is

pub none_got : {A : Type 0} (xs : List A) (i : ℕ) (d : A) → slice_get xs i ≡ None → get_or xs i d ≡ d
none_got [] i d is = refl
none_got (y ∷ xs) zero d is = absurd (cc)
none_got (y ∷ xs) (suc i) d is = none_got xs i d is

-- what an element that was read is, whatever stands past the end
pub element : {A : Type 0} (items : List A) (i : ℕ) (x d : A) → i < length items → x ≡ get_or items i x → x ≡ get_or items i d
element items i x d low is = is ∙ get_or_default items i x d low

-- one more of the elements
pub taken : {A : Type 0} (xs : List A) (i : ℕ) (x : A) → i < length xs → x ≡ get_or xs i x → take (i + 1) xs ≡ take i xs ++ x ∷ []
taken xs i x low is = ap (λ n. take n xs) (add-one i) ∙ take-suc xs i x low ∙ ap (λ y. take i xs ++ y ∷ []) (sym is)

-- the range of a key is one of the ranges
pub range_low : (limits : Limits) (parts : Parts) → IsWhole limits parts → (key : ℕ) (found : Option ℕ) → found ≡ place_of parts.placed key → unwrap_or found 0 / 256 < length parts.ranges
range_low limits parts whole key None is = let some = whole.valid.ranges.0 in let all = whole.ranges in omega (arith, some, all)
range_low limits parts whole key (Some place) is =
    let low = (position-Some (λ other. other == key) parts.placed place 0 (sym is)).0 in
    let few = whole.placed in
    let all = whole.ranges in
    omega (arith, low, few, all)

-- the last write that passes a test, by its transaction
pub last_author : (test : Accepted → Bool) (xs : List Accepted) (w : Accepted) → option_map author_of (last_where test (xs ++ w ∷ [])) ≡ cond (test w) (Some (author_of w)) (option_map author_of (last_where test xs))
last_author test xs w = ap (option_map author_of) (last-append test xs w) ∙ step (test w)
  where
    step : (b : Bool) → option_map author_of (cond b (Some w) (last_where test xs)) ≡ cond b (Some (author_of w)) (option_map author_of (last_where test xs))
    step true = refl
    step false = refl

-- what a transaction puts in the way of another
abbrev pub author_conflict : ℕ → ℕ → Author → Option ℕ → Option Cause
author_conflict session begin author (Some time) = cond (nat_lt begin time) (Some (Newer time)) None
author_conflict session begin author None = cond (author.session == session) None (Some (Unfinished author.session author.number))

pub conflict_none : (history : List Commit) (session begin : ℕ) (rival : Option Accepted) → None ≡ option_map author_of rival → None ≡ conflict_with history session begin rival
conflict_none history session begin None is = refl
conflict_none history session begin (Some rival) is = absurd (cc)

pub conflict_some : (history : List Commit) (session begin : ℕ) (rival : Option Accepted) (author : Author) → Some author ≡ option_map author_of rival → (time : Option ℕ) → time ≡ time_of history author.session author.number
    → author_conflict session begin author time ≡ conflict_with history session begin rival
conflict_some history session begin None author is time at = absurd (cc)
conflict_some history session begin (Some rival) author is time at =
    let same : author ≡ author_of rival = ap (λ o. unwrap_or o author) is in
    ap (author_conflict session begin author) at
    ∙ ap (λ (a : Author). author_conflict session begin a (time_of history a.session a.number)) same
    ∙ by_time (time_of history rival.session rival.number)
  where
    by_time : (t : Option ℕ) → author_conflict session begin (author_of rival) t ≡ conflict_at session begin rival t
    by_time None = refl
    by_time (Some time) = refl

-- a loop over the commits
pub time_next : (history : List Commit) (i s n : ℕ) (commit : Commit) → take (i + 1) history ≡ take i history ++ commit ∷ [] → time_of (take i history) s n ≡ None → (commit.session == s && commit.number == n) ≡ false
    → time_of (take (i + 1) history) s n ≡ None
time_next history i s n commit more none fails =
    ap (λ cs. time_of cs s n) more
    ∙ time-append (take i history) commit s n
    ∙ (λ j. or_last (none j) (fails j) (length (take i history) + 1))

pub time_found : (history : List Commit) (i s n : ℕ) (commit : Commit) → i < length history → take (i + 1) history ≡ take i history ++ commit ∷ [] → time_of (take i history) s n ≡ None → (commit.session == s && commit.number == n) ≡ true
    → time_of history s n ≡ Some (i + 1)
time_found history i s n commit low more none passes =
    let count : length (take i history) ≡ i = length-take-le i history (omega (arith, low)) in
    let here : time_of (take (i + 1) history) s n ≡ Some (i + 1) =
    ap (λ cs. time_of cs s n) more
    ∙ time-append (take i history) commit s n
    ∙ (λ j. or_last (none j) (passes j) (count j + 1)) in
    ap (λ cs. time_of cs s n) (sym (take-append-drop (i + 1) history)) ∙ time-front (take (i + 1) history) (drop (i + 1) history) s n (i + 1) here

-- what is left of a list
pub left : {A : Type 0} (xs : List A) (i : ℕ) (x : A) → i < length xs → x ≡ get_or xs i x → drop i xs ≡ x ∷ drop (i + 1) xs
left xs i x low is = drop_more xs i x low ∙ ap (λ y. y ∷ drop (i + 1) xs) (sym is)

-- the writes of one range more
pub own_more : (ranges : List (List Accepted)) (s n i : ℕ) (own more : List Write) (xs : List Accepted) → xs ≡ range_in ranges i → own ≡ gathered s n [] (accepted_below (λ r. range_in ranges r) i) → more ≡ gathered s n own xs
    → more ≡ gathered s n [] (accepted_below (λ r. range_in ranges r) (i + 1))
own_more ranges s n i own more xs here so_far is =
    is
    ∙ (λ j. gathered s n (so_far j) (here j))
    ∙ sym (gathered-append s n [] (accepted_below (λ r. range_in ranges r) i) (range_in ranges i))
    ∙ ap (λ (k : ℕ). gathered s n [] (accepted_below (λ r. range_in ranges r) k)) (sym (add-one i))

-- a count of the writes that pass a test, up to the first that fails
pub count_stop : (test : Accepted → Bool) (xs rest : List Accepted) (w : Accepted) (count total : ℕ) → xs ≡ w ∷ rest → test w ≡ false → count + length (take_while test xs) ≡ total → count ≡ total
count_stop test xs rest w count total is fails so_far =
    let none : length (take_while test xs) ≡ 0 = ap (λ ys. length (take_while test ys)) is ∙ ap length (take_while-cons test w rest) ∙ ap (λ b. length (cond b (w ∷ take_while test rest) [])) fails in
    omega (arith, none, so_far)

pub count_more : (test : Accepted → Bool) (xs rest : List Accepted) (w : Accepted) (count total : ℕ) → xs ≡ w ∷ rest → test w ≡ true → count + length (take_while test xs) ≡ total → count + 1 + length (take_while test rest) ≡ total
count_more test xs rest w count total is passes so_far =
    let one : length (take_while test xs) ≡ suc (length (take_while test rest)) = ap (λ ys. length (take_while test ys)) is ∙ ap length (take_while-cons test w rest) ∙ ap (λ b. length (cond b (w ∷ take_while test rest) [])) passes in
    omega (arith, one, so_far)

-- the place at which a write joins others
pub joins_here : (writes rest : List Write) (w new : Write) (i : ℕ) → drop i writes ≡ w ∷ rest → new.key < w.key → joined writes new ≡ take i writes ++ joined (drop i writes) new → joined writes new ≡ take i writes ++ new ∷ drop i writes
joins_here writes rest w new i is low so_far =
    so_far
    ∙ ap (λ ws. take i writes ++ ws) (ap (λ ws. joined ws new) is ∙ ap (λ b. cond b (new ∷ w ∷ rest) (w ∷ joined rest new)) (lt-ltb new.key w.key low))
    ∙ ap (λ ws. take i writes ++ new ∷ ws) (sym is)

pub joins_later : (writes rest : List Write) (w new : Write) (i : ℕ) → drop i writes ≡ w ∷ rest → take (i + 1) writes ≡ take i writes ++ w ∷ [] → w.key ≤ new.key → joined writes new ≡ take i writes ++ joined (drop i writes) new
    → joined writes new ≡ take (i + 1) writes ++ joined rest new
joins_later writes rest w new i is more high so_far =
    so_far
    ∙ ap (λ ws. take i writes ++ ws) (ap (λ ws. joined ws new) is ∙ ap (λ b. cond b (new ∷ w ∷ rest) (w ∷ joined rest new)) (le-ltb new.key w.key high))
    ∙ sym (append_assoc (take i writes) (w ∷ []) (joined rest new))
    ∙ ap (λ ws. ws ++ joined rest new) (sym more)

-- the rival after one more write
pub author_next : (test : Accepted → Bool) (xs : List Accepted) (i : ℕ) (w : Accepted) (before after : Option Author) → i < length xs → w ≡ get_or xs i w
    → before ≡ option_map author_of (last_where test (take i xs)) → after ≡ cond (test w) (Some (author_of w)) before → after ≡ option_map author_of (last_where test (take (i + 1) xs))
author_next test xs i w before after low is so_far here =
    here
    ∙ ap (λ (o : Option Author). cond (test w) (Some (author_of w)) o) so_far
    ∙ sym (last_author test (take i xs) w)
    ∙ ap (λ ys. option_map author_of (last_where test ys)) (sym (taken xs i w low is))

-- what a rival that was committed, or that is open, puts in the way
module _ (history : List Commit) (session begin : ℕ) (rival : Option Accepted) (author : Author) (found : Some author ≡ option_map author_of rival) where
  pub conflict_newer : (time : ℕ) → Some time ≡ time_of history author.session author.number → begin < time → Some (Newer time) ≡ conflict_with history session begin rival
  conflict_newer time at late =
      sym (ap (λ b. cond b (Some (Newer time)) None) (lt-ltb begin time late)) ∙ conflict_some history session begin rival author found (Some time) at

  pub conflict_older : (time : ℕ) → Some time ≡ time_of history author.session author.number → time ≤ begin → None ≡ conflict_with history session begin rival
  conflict_older time at early =
      sym (ap (λ b. cond b (Some (Newer time)) None) (le-ltb begin time early)) ∙ conflict_some history session begin rival author found (Some time) at
