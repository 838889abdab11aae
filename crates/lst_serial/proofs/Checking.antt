-- The check at a commit.
use Rattle.std.proofs.Common.{◌≡◌, ℕ, ◌<◌, ◌≤◌, List, [], ◌∷◌, ◌++◌, true, false, length, refl, sym, subst, ap, ◌∙◌, arith, true≢false, append_assoc, append-nil}
use Rattle.std.specs.Prelude.{Option, Some, None, IfSome, IfNone}
use Rattle.std.specs.List.{All, list_any}
use Rattle.std.specs.BTreeMap.{is_at}
use Rattle.std.specs.Ordering.{nat_cmp}
use Rattle.std.proofs.lemmas.List.Elements.{All-nil, All-cons, All-append}
use Rattle.lst_model.specs.declared.commits.Commit.{Commit}
use Rattle.lst_core_state.specs.declared.known.Known.{Known}
use Rattle.lst_rule.specs.declared.store.Store.{Store}
use Rattle.lst_rule.specs.declared.view.View.{View}
use Rattle.lst_rule.specs.Rule.{knows}
use Rattle.lst_changes.specs.Changes.{IsUnwrittenAfter, Changed}
use Rattle.lst_session.specs.declared.session.Session.{Session}
use Rattle.lst_session.specs.Held.{IsHeld, LooksStill}
use Rattle.lst_serial.proofs.Looking.{still_same, still_on}
use Rattle.lst_serial.specs.declared.checks.Change.{Change}
use Rattle.lst_serial.specs.declared.keys.KeySet.{KeySet}
use Rattle.lst_serial.specs.Keys.{members}
use Rattle.lst_serial.specs.Searches.{IsLeast, IsLeastChange, StaysLeast, Searching}
use Rattle.lst_serial.specs.Serials.{IsStaleAt}
use Rattle.lst_serial.proofs.Sets.{apart, any_front, any_last, any_without, last_or_before, each_has}

-- where all keys were read
pub above_none : (k : Known) (keys : KeySet) → k.begin ≤ length k.seen → length k.seen ≤ k.begin → IsStaleAt k keys true None
above_none k keys begun low = record { begun = begun; keys = λ e. absurd (true≢false e); none = λ e. omega arith }

-- none of the keys was changed
keys_none : (k : Known) (keys : KeySet) → k.begin ≤ length k.seen → All (λ key. IsUnwrittenAfter k.seen k.begin key) (members keys) → IsStaleAt k keys false None
keys_none k keys begun all = record {
  begun = begun;
  keys = λ e key was. each_has (λ (other : ℕ). IsUnwrittenAfter k.seen k.begin other) (members keys) all key was;
  none = λ e. absurd (true≢false (sym e));
}

-- ---- the least change, with one key more

-- what is found of a key in the history that is seen then, is so of what was seen at first
pub told_before : (v w : View) (s key : ℕ) (result : Option ℕ) → LooksStill v w s → Changed (knows w s).seen (knows w s).begin key result → Changed (knows v s).seen (knows v s).begin key result
told_before v w s key result l told = subst (λ (h : List Commit). Changed h (knows v s).begin key result) l.seen (subst (λ (b : ℕ). Changed (knows w s).seen b key result) l.looks.same.transaction.begin told)

module _ (h : List Commit) (b key : ℕ) where
  -- it isn't asked of, since it isn't below
  pub least_above : (change : Change) → change.key ≤ key → StaysLeast h b key (Some change) (Some change)
  least_above change high passed is = record {
    one = any_front change.key passed (key ∷ []) is.one;
    changed = is.changed;
    below = λ other less was. is.below other less (sym (any_without other key passed (apart other key (λ e. omega arith))) ∙ was);
  }

  -- it wasn't changed
  pub least_same : (least : Option Change) → IsUnwrittenAfter h b key → StaysLeast h b key least least
  least_same None none passed all = All-append (λ k. IsUnwrittenAfter h b k) passed (key ∷ []) all (All-cons (λ k. IsUnwrittenAfter h b k) key [] none (All-nil (λ k. IsUnwrittenAfter h b k)))
  least_same (Some change) none passed is = record {
    one = any_front change.key passed (key ∷ []) is.one;
    changed = is.changed;
    below = λ other less was. last_or_before (λ k. IsUnwrittenAfter h b k) passed key other none (is.below other less) was;
  }

  -- it was changed, and is the first one that was
  new_first : (found : Change) → found.key ≡ key → Changed h b key (Some found.time) → StaysLeast h b key None (Some found)
  new_first found is told passed all = record {
    one = subst (λ (k : ℕ). list_any (is_at (nat_cmp k)) (passed ++ key ∷ []) ≡ true) (sym is) (any_last key passed);
    changed = subst (λ (k : ℕ). Changed h b k (Some found.time)) (sym is) told;
    below = λ other less was. each_has (λ k. IsUnwrittenAfter h b k) passed all other (sym (any_without other key passed (apart other key (λ e. let f = is in omega arith))) ∙ was);
  }

  -- and it is below the one that was
  new_lower : (old found : Change) → key < old.key → found.key ≡ key → Changed h b key (Some found.time) → StaysLeast h b key (Some old) (Some found)
  new_lower old found low is told passed least = record {
    one = subst (λ (k : ℕ). list_any (is_at (nat_cmp k)) (passed ++ key ∷ []) ≡ true) (sym is) (any_last key passed);
    changed = subst (λ (k : ℕ). Changed h b k (Some found.time)) (sym is) told;
    below = λ other less was. least.below other (let f = is in omega arith) (sym (any_without other key passed (apart other key (λ e. let f = is in omega arith))) ∙ was);
  }

  -- none was changed before
  first_asked : (result : Option Change) → IfSome result (λ found. (found.key ≡ key) × Changed h b key (Some found.time)) → IfNone result (IsUnwrittenAfter h b key) → StaysLeast h b key None result
  first_asked (Some found) some none = new_first found some.0 some.1
  first_asked None some none = least_same None none

  pub least_first : (least result : Option Change) → least ≡ None → IfSome result (λ found. (found.key ≡ key) × Changed h b key (Some found.time)) → IfNone result (IsUnwrittenAfter h b key) → StaysLeast h b key least result
  least_first least result e some none = subst (λ (o : Option Change). StaysLeast h b key o result) (sym e) (first_asked result some none)

  pub least_lower : (least : Option Change) (old found : Change) → least ≡ Some old → key < old.key → found.key ≡ key → Changed h b key (Some found.time) → StaysLeast h b key least (Some found)
  least_lower least old found e low is told = subst (λ (o : Option Change). StaysLeast h b key o (Some found)) (sym e) (new_lower old found low is told)

  pub least_kept : (least : Option Change) (old : Change) → least ≡ Some old → IsUnwrittenAfter h b key → StaysLeast h b key least (Some old)
  least_kept least old e none = subst (λ (o : Option Change). StaysLeast h b key o (Some old)) (sym e) (least_same (Some old) none)

-- ---- one key after another

pub search_starts : (store : Store) (session : Session) (keys : KeySet) → IsHeld store session → Searching store session session keys (members keys) None
search_starts store session keys held = record {
  held = held;
  number = refl;
  still = still_same session.seat.view session.number;
  passed = [];
  split = refl;
  found = All-nil (λ key. IsUnwrittenAfter (knows session.seat.view session.number).seen (knows session.seat.view session.number).begin key);
}

module _ (store : Store) (before session : Session) (keys : KeySet) (rest : List ℕ) (least : Option Change) (J : Searching store before session keys rest least) where
  abbrev u : Known
  u = knows before.seat.view before.number

  all_asked : rest ≡ [] → IsLeastChange u.seen u.begin (members keys) least
  all_asked e = subst (λ (l : List ℕ). IsLeastChange u.seen u.begin l least) (sym (J.split ∙ (ap (λ (l : List ℕ). J.passed ++ l) e ∙ append-nil J.passed))) J.found

  -- at the end
  pub search_none : rest ≡ [] → least ≡ None → u.begin ≤ length u.seen → IsStaleAt (knows before.seat.view before.number) keys false None
  search_none e is begun = keys_none u keys begun (subst (λ (o : Option Change). IsLeastChange u.seen u.begin (members keys) o) is (all_asked e))

  pub search_some : rest ≡ [] → (change : Change) → least ≡ Some change → IsStaleAt (knows before.seat.view before.number) keys false (Some change.time)
  search_some e change is = let l : IsLeast u.seen u.begin (members keys) change = subst (λ (o : Option Change). IsLeastChange u.seen u.begin (members keys) o) is (all_asked e) in record {
    key = change.key;
    read = l.one;
    changed = l.changed;
    least = l.below;
  }

  -- the rest as another list
  pub search_as : (other : List ℕ) → rest ≡ other → Searching store before session keys other least
  search_as other e = subst (λ (l : List ℕ). Searching store before session keys l least) e J

  module _ (next : Session) (held : IsHeld store next) (number : next.number ≡ session.number) (still : LooksStill session.seat.view next.seat.view session.number)
      (key : ℕ) (more : List ℕ) (split : rest ≡ key ∷ more) (result : Option Change)
      (told : StaysLeast (knows session.seat.view session.number).seen (knows session.seat.view session.number).begin key least result) where
    -- of what had been seen at first
    told_first : StaysLeast u.seen u.begin key least result
    told_first = let l = J.still in subst (λ (h : List Commit). StaysLeast h u.begin key least result) l.seen
        (subst (λ (b : ℕ). StaysLeast (knows session.seat.view before.number).seen b key least result) l.looks.same.transaction.begin
        (subst (λ (s : ℕ). StaysLeast (knows session.seat.view s).seen (knows session.seat.view s).begin key least result) J.number told))

    pub search_on : Searching store before next keys more result
    search_on = record {
      held = held;
      number = number ∙ J.number;
      still = still_on before.seat.view session.seat.view next.seat.view before.number J.still (subst (λ (s : ℕ). LooksStill session.seat.view next.seat.view s) J.number still);
      passed = J.passed ++ key ∷ [];
      split = (J.split ∙ ap (λ (l : List ℕ). J.passed ++ l) split) ∙ sym (append_assoc J.passed (key ∷ []) more);
      found = told_first J.passed J.found;
    }
