-- What the open transaction of a session sees of keys that no other session writes.
use Rattle.std.proofs.Common.{◌≡◌, ⊎_elim, ℕ, zero, suc, ◌-◌, ◌%◌, ◌<◌, ◌≤◌, Bool, true, false, cond, eqb, List, [], ◌∷◌, ◌++◌, length, map, take, drop, Option, Some, None, refl, sym, ap, subst, ◌∙◌, arith, append-nil, length-append}
use Rattle.std.specs.Prelude.{IsSomeAnd, IsTrue, ◌==◌, slice_get}
use Rattle.std.specs.List.{list_any}
use Rattle.std.proofs.lemmas.Bool.{ne_eqb, eqb-true, or_cases}
use Rattle.std.proofs.lemmas.List.{take-append-le}
use Rattle.lst_model.specs.declared.acts.Write.{Write}
use Rattle.lst_model.specs.declared.commits.Commit.{Commit}
use Rattle.lst_model.specs.Histories.{Extends, acts_on, all_acts_on, row_from}
use Rattle.lst_model.specs.Tables.{row_of}
use Rattle.lst_model.proofs.Folds.{get_snapshot}
use Rattle.lst_core_state.specs.State.{commits_of}
use Rattle.lst_replies.specs.declared.states.Transaction.{Transaction}
use Rattle.lst_replies.specs.States.{sight_of}
use Rattle.lst_replies.specs.Explained.{commit_at, has_write_on}
use Rattle.lst_work.proofs.Lists.{acts_in, writes_in, acts_in-map, Has, WriteOwn, CommitsOwn, acts_of_own, commits_append, nothing_added, owns_front, halves, not_among}

-- the open transaction t of the session j has these writes, and its begin is behind all commits of the session
pub record Sees (j : ℕ) (seen : List Commit) (t : Transaction) (own : List Write) : Type 0 where
  pub writes : t.writes ≡ own
  pub free : t.read_only ≡ false
  pub begin : t.begin ≤ length seen
  pub upto : commits_of j (take t.begin seen) ≡ commits_of j seen

-- ---- what is seen later

same_front : (b : ℕ) (old new : List Commit) → b ≤ length old → Extends new old → take b new ≡ take b old
same_front b old new low e = ap (take b) e.1 ∙ take-append-le b old e.0 low

-- it stays so while no commit of the session comes
pub sees_on : (j : ℕ) (old new : List Commit) (t : Transaction) (own : List Write) → Extends new old → commits_of j new ≡ commits_of j old → Sees j old t own → Sees j new t own
sees_on j old new t own e same s = record {
  writes = s.writes;
  free = s.free;
  begin = let l = ap length e.1 in let low = s.begin in omega (arith, length-append old e.0);
  upto = ap (commits_of j) (same_front t.begin old new s.begin e) ∙ (s.upto ∙ sym same);
}

none_in_drop : (j b : ℕ) (ys : List Commit) → commits_of j ys ≡ [] → commits_of j (drop b ys) ≡ []
none_in_drop j zero ys none = none
none_in_drop j (suc b) [] none = refl
none_in_drop j (suc b) (y ∷ ys) none = none_in_drop j b ys (rest (eqb y.session j) none)
  where
    rest : (b : Bool) → cond b (y ∷ commits_of j ys) (commits_of j ys) ≡ [] → commits_of j ys ≡ []
    rest true n = cc
    rest false n = n

none_behind : (j b : ℕ) (xs ys : List Commit) → length xs ≤ b → commits_of j ys ≡ [] → commits_of j (drop b (xs ++ ys)) ≡ []
none_behind j b [] ys low none = none_in_drop j b ys none
none_behind j zero (x ∷ xs) ys low none = absurd (omega arith)
none_behind j (suc b) (x ∷ xs) ys low none = none_behind j b xs ys (omega arith) none

-- a time of all that was seen before is behind all commits of the session, where none came since
pub begun_behind : (j time : ℕ) (old new : List Commit) → Extends new old → commits_of j new ≡ commits_of j old → length old ≤ time → commits_of j (take time new) ≡ commits_of j new
begun_behind j time old new e same low =
    let parts : commits_of j new ≡ commits_of j old ++ commits_of j e.0 = ap (commits_of j) e.1 ∙ commits_append j old e.0 in
    let none : commits_of j e.0 ≡ [] = nothing_added (commits_of j old) (commits_of j e.0) (sym same ∙ parts) in
    let rest : commits_of j (drop time new) ≡ [] = ap (λ (cs : List Commit). commits_of j (drop time cs)) e.1 ∙ none_behind j time old e.0 low none in
    sym (ap (commits_of j) (halves time new) ∙ (commits_append j (take time new) (drop time new) ∙ (ap (λ cs. commits_of j (take time new) ++ cs) rest ∙ append-nil (commits_of j (take time new)))))

-- ---- the row of a key

module _ (n j : ℕ) (old new : List Commit) (t : Transaction) (own : List Write) (e : Extends new old) (owns : CommitsOwn n new) (s : Sees j old t own) where
  pub row_seen : (key : ℕ) (done : List (List Write)) → map writes_in (commits_of j old) ≡ done → Has n j key → row_of (sight_of new t) key ≡ row_from None (acts_in key done ++ acts_on key own)
  row_seen key done is has =
      let b = t.begin in
      let olds : CommitsOwn n (take b new) = owns_front n (take b new) (drop b new) (subst (CommitsOwn n) (halves b new) owns) in
      let front : all_acts_on key (take b new) ≡ acts_in key done =
      acts_of_own n j key (take b new) olds has
      ∙ ap (all_acts_on key) (ap (commits_of j) (same_front b old new s.begin e) ∙ s.upto)
      ∙ acts_in-map key (commits_of j old)
      ∙ ap (acts_in key) is in
      get_snapshot new b t.writes key
      ∙ ap (λ acts. row_from None (acts ++ acts_on key t.writes)) front
      ∙ ap (λ ws. row_from None (acts_in key done ++ acts_on key ws)) s.writes

  any_owner : (session key : ℕ) (ws : List Write) → WriteOwn n session ws → list_any (λ (w : Write). w.key == key) ws ≡ true → Has n session key
  any_owner session key [] all is = cc
  any_owner session key (w ∷ ws) all is = ⊎_elim
      (λ (here : eqb w.key key ≡ true). all.0 ∙ ap (λ k. (k - 1) % n) (eqb-true w.key key here))
      (λ (there : list_any (λ (x : Write). x.key == key) ws ≡ true). any_owner session key ws all.1 there) (or_cases (eqb w.key key) (list_any (λ (x : Write). x.key == key) ws) is)

  owns_at : (i : ℕ) (cs : List Commit) (c : Commit) → CommitsOwn n cs → slice_get cs i ≡ Some c → WriteOwn n c.session c.writes
  owns_at i [] c all e = cc
  owns_at zero (x ∷ cs) c all e = subst (λ (o : Option Commit). owned o) e all.0
    where
      owned : Option Commit → Type 0
      owned None = Unit {0}
      owned (Some d) = WriteOwn n d.session d.writes
  owns_at (suc i) (x ∷ cs) c all e = owns_at i cs c all.1 e

  slice_at : (time : ℕ) → 0 < time → commit_at new time ≡ slice_get new (time - 1)
  slice_at time some = ap (λ (b : Bool). cond b None (slice_get new (time - 1))) (ne_eqb time 0 (λ (z : time ≡ 0). absurd (omega arith)))

  -- no commit behind the begin wrote the key
  pub not_newer : (time key : ℕ) → commits_of j new ≡ commits_of j old → Has n j key → t.begin < time → IsSomeAnd (commit_at new time) (λ (c : Commit). IsTrue (has_write_on key c)) → ⊥
  not_newer time key same has late some = at (commit_at new time) refl some
    where
      at : (o : Option Commit) → commit_at new time ≡ o → IsSomeAnd o (λ (c : Commit). IsTrue (has_write_on key c)) → ⊥
      at None is y = absurd y
      at (Some c) is y =
          let there : slice_get new (time - 1) ≡ Some c = sym (slice_at time (omega arith)) ∙ is in
          let session : Has n c.session key = any_owner c.session key c.writes (owns_at (time - 1) new c owns there) y in
          let front : commits_of j (take t.begin new) ≡ commits_of j new = ap (commits_of j) (same_front t.begin old new s.begin e) ∙ (s.upto ∙ sym same) in
          let none : commits_of j (drop t.begin new) ≡ [] = nothing_added (commits_of j new) (commits_of j (drop t.begin new))
          (ap (commits_of j) (halves t.begin new) ∙ (commits_append j (take t.begin new) (drop t.begin new) ∙ ap (λ cs. cs ++ commits_of j (drop t.begin new)) front)) in
          not_among j t.begin (time - 1) new c (omega arith) there none (session ∙ sym has)
