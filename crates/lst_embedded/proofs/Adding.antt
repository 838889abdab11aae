-- What the commits of all sessions come to, added up.
use Rattle.std.proofs.Common.{◌≡◌, ℕ, zero, suc, ◌+◌, ◌*◌, ◌<◌, ◌≤◌, Bool, true, false, cond, eqb, List, [], ◌∷◌, ◌++◌, length, refl, sym, ap, ◌∙◌, subst, arith, length-append, inl, inr}
use Rattle.std.specs.List.{AllByRecursion}
use Rattle.std.specs.Prelude.{nat_lt}
use Rattle.std.proofs.lemmas.Bool.{eqb-true, eqb-false, eq-eqb, ne_eqb}
use Rattle.lst_model.specs.declared.acts.Write.{Write}
use Rattle.lst_model.specs.declared.commits.Commit.{Commit}
use Rattle.lst_model.specs.Histories.{Extends, joined}
use Rattle.lst_core_state.specs.State.{commits_of}
use Rattle.lst_accounts.specs.Books.{setting_of, Transfers, IsEntry, paid_by_act, paid_by, paid_in}
use Rattle.lst_accounts.proofs.Lasting.{same_table}
use Rattle.lst_embedded.specs.Deeds.{opening_balance, IsOpening, IsMove, Lasts}

-- ---- under a history that goes on

pub long : (longer shorter : List Commit) → Extends longer shorter → length shorter ≤ length longer
long longer shorter grows = let size = length-append shorter grows.0 in omega (arith, ap length grows.1, size)

pub openings_last : Lasts IsOpening
openings_last longer shorter grows commit opening = let more = long longer shorter grows in record { early = omega (arith, more, opening.early); key = opening.key; is = opening.is }

pub moves_last : Lasts IsMove
moves_last longer shorter grows commit move = let more = long longer shorter grows in record {
  early = omega (arith, more, move.early);
  transfer = move.transfer;
  some = move.some;
  is = subst (λ table. Transfers table move.transfer commit.writes) (sym (same_table longer shorter grows commit.begin move.early)) move.is;
}

pub all_last : (P : List Commit → Commit → Type 0) → Lasts P → (longer shorter : List Commit) → Extends longer shorter → (commits : List Commit) → AllByRecursion (P shorter) commits → AllByRecursion (P longer) commits
all_last P lasts longer shorter grows [] all = tt
all_last P lasts longer shorter grows (commit ∷ commits) all = (lasts longer shorter grows commit all.0, all_last P lasts longer shorter grows commits all.1)

pub all_join : (P : Commit → Type 0) (commits more : List Commit) → AllByRecursion P commits → AllByRecursion P more → AllByRecursion P (commits ++ more)
all_join P [] more all others = others
all_join P (commit ∷ commits) more all others = (all.0, all_join P commits more all.1 others)

-- ---- what holds of the commits of each session holds of all commits

module _ (P : Commit → Type 0) where
  of_tail : (s : ℕ) (one : Commit) (commits : List Commit) (b : Bool) → AllByRecursion P (cond b (one ∷ commits_of s commits) (commits_of s commits)) → AllByRecursion P (commits_of s commits)
  of_tail s one commits true all = all.1
  of_tail s one commits false all = all

  pub of_each : (n : ℕ) (commits : List Commit) → AllByRecursion (λ (one : Commit). one.session < n) commits → ((s : ℕ) → s < n → AllByRecursion P (commits_of s commits)) → AllByRecursion P commits
  of_each n [] owned each = tt
  of_each n (one ∷ commits) owned each =
      let own : AllByRecursion P (one ∷ commits_of one.session commits) = subst (λ (b : Bool). AllByRecursion P (cond b (one ∷ commits_of one.session commits) (commits_of one.session commits))) (eq-eqb one.session one.session refl) (each one.session owned.0) in
      (own.0, of_each n commits owned.1 (λ s low. of_tail s one commits (eqb one.session s) (each s low)))

-- ---- a number of each commit, added up

abbrev pub added : (Commit → ℕ) → List Commit → ℕ
added f [] = 0
added f (commit ∷ commits) = f commit + added f commits

-- over the commits of the first n sessions
abbrev pub over : (Commit → ℕ) → ℕ → List Commit → ℕ
over f zero commits = 0
over f (suc n) commits = over f n commits + added f (commits_of n commits)

module _ (f : Commit → ℕ) where
  over_none : (n : ℕ) → over f n [] ≡ 0
  over_none zero = refl
  over_none (suc n) = let h = over_none n in omega (arith, h)

  own : (one : Commit) (commits : List Commit) (s : ℕ) → eqb one.session s ≡ true → added f (commits_of s (one ∷ commits)) ≡ f one + added f (commits_of s commits)
  own one commits s is = ap (λ (b : Bool). added f (cond b (one ∷ commits_of s commits) (commits_of s commits))) is

  other : (one : Commit) (commits : List Commit) (s : ℕ) → eqb one.session s ≡ false → added f (commits_of s (one ∷ commits)) ≡ added f (commits_of s commits)
  other one commits s is = ap (λ (b : Bool). added f (cond b (one ∷ commits_of s commits) (commits_of s commits))) is

  above : (one : Commit) (commits : List Commit) (n : ℕ) → n ≤ one.session → over f n (one ∷ commits) ≡ over f n commits
  above one commits zero high = refl
  above one commits (suc n) high =
      let h = above one commits n (omega (arith, high)) in
      let e = other one commits n (ne_eqb one.session n (λ is. absurd (omega (arith, is, high)))) in
      omega (arith, h, e)

  below : (one : Commit) (commits : List Commit) (n : ℕ) → one.session < n → over f n (one ∷ commits) ≡ f one + over f n commits
  below one commits zero low = absurd (omega (arith, low))
  below one commits (suc n) low = by_test (eqb one.session n) refl (λ less. below one commits n less)
    where
      by_test : (b : Bool) → eqb one.session n ≡ b → (one.session < n → over f n (one ∷ commits) ≡ f one + over f n commits) → over f (suc n) (one ∷ commits) ≡ f one + over f (suc n) commits
      by_test true is rest = let same = eqb-true one.session n is in let h = above one commits n (omega (arith, same)) in let e = own one commits n is in omega (arith, h, e)
      by_test false is rest = let differ = eqb-false one.session n is in let h = rest (omega (arith, differ, low)) in let e = other one commits n is in omega (arith, h, e)

  pub over_all : (n : ℕ) (commits : List Commit) → AllByRecursion (λ (one : Commit). one.session < n) commits → over f n commits ≡ added f commits
  over_all n [] owned = over_none n
  over_all n (one ∷ commits) owned = let h = over_all n commits owned.1 in let e = below one commits n owned.0 in omega (arith, h, e)

-- ---- how many there are, and what was paid in

pub counted : (commits : List Commit) → added (λ commit. 1) commits ≡ length commits
counted [] = refl
counted (commit ∷ commits) = let h = counted commits in omega (arith, h)

abbrev pub paid_of : Commit → ℕ
paid_of commit = paid_by commit.writes

pub paid_is : (commits : List Commit) → added paid_of commits ≡ paid_in commits
paid_is [] = refl
paid_is (commit ∷ commits) = let h = paid_is commits in omega (arith, h)

pub openings_pay : (history commits : List Commit) → AllByRecursion (IsOpening history) commits → added paid_of commits ≡ 1000 * length commits
openings_pay history [] all = refl
openings_pay history (commit ∷ commits) all =
    let h = openings_pay history commits all.1 in
    let one : paid_of commit ≡ 1000 = ap paid_by all.0.is in
    omega (arith, h, one)

paid_joined : (one other : Write) → paid_by (joined (one ∷ []) other) ≡ paid_by_act one.act + paid_by_act other.act
paid_joined one other = either (nat_lt other.key one.key)
  where
    either : (b : Bool) → paid_by (cond b (other ∷ one ∷ []) (one ∷ other ∷ [])) ≡ paid_by_act one.act + paid_by_act other.act
    either true = omega arith
    either false = omega arith

pub moves_pay_nothing : (history commits : List Commit) → AllByRecursion (IsMove history) commits → added paid_of commits ≡ 0
moves_pay_nothing history [] all = refl
moves_pay_nothing history (commit ∷ commits) all =
    let h = moves_pay_nothing history commits all.1 in
    let t = all.0.transfer in
    let one : paid_of commit ≡ 0 = ap paid_by all.0.is.is ∙ paid_joined (setting_of t.from all.0.is.payer_after) (setting_of t.to all.0.is.payee_after) in
    omega (arith, h, one)

-- ---- each is an entry of the books

pub opening_entry : (history : List Commit) (commit : Commit) → IsOpening history commit → IsEntry history commit
opening_entry history commit opening = record { early = opening.early; is = inl (record { key = opening.key; balance = opening_balance; is = opening.is }) }

pub move_entry : (history : List Commit) (commit : Commit) → IsMove history commit → IsEntry history commit
move_entry history commit move = record { early = move.early; is = inr (move.transfer, move.is) }
