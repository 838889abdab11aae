-- An image stands for one list of commits at most, and for none where it is damaged.
use Rattle.std.proofs.Common.{◌≡◌, ℕ, suc, ◌+◌, List, [], ◌∷◌, ◌++◌, length, get_or, drop, Some, refl, sym, ◌∙◌, ap, subst, arith, append_assoc}
use Rattle.std.specs.List.{AllByRecursion}
use Rattle.lst_model.specs.declared.commits.Commit.{Commit}
use Rattle.lst_log.specs.Format.{body, record_of, journal, HasRecord}
use Rattle.lst_log.specs.Reading.{body_at}
use Rattle.lst_snapshots.specs.Replays.{numbered_at, numbered_from}
use Rattle.lst_log.specs.Journals.{Ends, HasOneList, DamageIsNone}
use Rattle.lst_log.proofs.Again.{body_again}

abbrev Read : Type 0
Read = Commit × List ℕ

some_is : (x y : Read) → Some x ≡ Some y → x ≡ y
some_is x y e = cc

-- two records that begin alike are one
same_record : (columns : ℕ) (c d : Commit) (x y : List ℕ) → HasRecord columns c → HasRecord columns d → record_of columns c ++ x ≡ record_of columns d ++ y → ◌≡◌ {A = Read} (c, x) (d, y)
same_record columns c d x y has hasd e =
    let behind : body columns c ++ x ≡ body columns d ++ y = ap (drop 1) e in
    some_is (c, x) (d, y) (sym (body_again columns c x has) ∙ ap (body_at columns) behind ∙ body_again columns d y hasd)

journal_cons : (columns : ℕ) (c : Commit) (cs : List Commit) (rest : List ℕ) → journal columns (c ∷ cs) ++ rest ≡ record_of columns c ++ (journal columns cs ++ rest)
journal_cons columns c cs rest = append_assoc (record_of columns c) (journal columns cs) rest

-- where no open gate stands no record does
no_more : (columns : ℕ) (c : Commit) (x rest : List ℕ) → Ends rest → rest ≡ record_of columns c ++ x → ⊥
no_more columns c x [] ended e = omega (arith, ap length e)
no_more columns c x (gate ∷ rest) ended e = ended (ap (λ (l : List ℕ). get_or l 0 0) e)

pub one_list : (columns : ℕ) (cs ds : List Commit) (r s : List ℕ) → AllByRecursion (HasRecord columns) cs → AllByRecursion (HasRecord columns) ds → Ends r → Ends s → journal columns cs ++ r ≡ journal columns ds ++ s → cs ≡ ds
one_list columns [] [] r s each others ended end e = refl
one_list columns [] (d ∷ ds) r s each others ended end e = absurd (no_more columns d (journal columns ds ++ s) r ended (e ∙ journal_cons columns d ds s))
one_list columns (c ∷ cs) [] r s each others ended end e = absurd (no_more columns c (journal columns cs ++ r) s end (sym e ∙ journal_cons columns c cs r))
one_list columns (c ∷ cs) (d ∷ ds) r s each others ended end e =
    let same = same_record columns c d (journal columns cs ++ r) (journal columns ds ++ s) each.0 others.0 (sym (journal_cons columns c cs r) ∙ e ∙ journal_cons columns d ds s) in
    let rest = one_list columns cs ds r s each.1 others.1 ended end (ap (λ (p : Read). p.1) same) in
    λ i. (same i).0 ∷ rest i

pub has_one_list : HasOneList
has_one_list columns image commits others stands also =
    one_list columns commits others stands.lists.rest also.lists.rest stands.lists.each also.lists.each stands.lists.ended also.lists.ended (sym stands.lists.whole ∙ also.lists.whole)

-- a list that goes on past an open gate has the record behind it
record GoesOn (columns : ℕ) (ds cs : List Commit) (rest : List ℕ) : Type 0 where
  next : Commit
  more : List Commit
  after : List ℕ
  split : cs ≡ ds ++ next ∷ more
  has : HasRecord columns next
  here : rest ≡ body columns next ++ after

goes_on : (columns : ℕ) (ds cs : List Commit) (rest r : List ℕ) → AllByRecursion (HasRecord columns) ds → AllByRecursion (HasRecord columns) cs → Ends r → journal columns ds ++ 1 ∷ rest ≡ journal columns cs ++ r → GoesOn columns ds cs rest
goes_on columns [] [] rest r each others ended e = absurd (subst (λ (l : List ℕ). Ends l) (sym e) ended refl)
goes_on columns [] (c ∷ cs) rest r each others ended e =
    let whole : 1 ∷ rest ≡ record_of columns c ++ (journal columns cs ++ r) = e ∙ journal_cons columns c cs r in
    record { next = c; more = cs; after = journal columns cs ++ r; split = refl; has = others.0; here = ap (drop 1) whole }
goes_on columns (d ∷ ds) [] rest r each others ended e = absurd (no_more columns d (journal columns ds ++ 1 ∷ rest) r ended (sym e ∙ journal_cons columns d ds (1 ∷ rest)))
goes_on columns (d ∷ ds) (c ∷ cs) rest r each others ended e =
    let same = same_record columns d c (journal columns ds ++ 1 ∷ rest) (journal columns cs ++ r) each.0 others.0 (sym (journal_cons columns d ds (1 ∷ rest)) ∙ e ∙ journal_cons columns c cs r) in
    let found = goes_on columns ds cs rest r each.1 others.1 ended (ap (λ (p : Read). p.1) same) in
    record { next = found.next; more = found.more; after = found.after; split = (λ i. (sym same i).0 ∷ found.split i); has = found.has; here = found.here }

numbered_split : (time : ℕ) (ds more : List Commit) (c : Commit) → numbered_from time (ds ++ c ∷ more) ≡ numbered_from time ds ++ numbered_at (length ds + time) c ∷ numbered_from (suc (length ds + time)) more
numbered_split time [] more c = ap (λ (t : ℕ). numbered_at t c ∷ numbered_from (suc t) more) (omega arith)
numbered_split time (d ∷ ds) more c =
    ap (λ (cs : List Commit). numbered_at time d ∷ cs) (numbered_split (suc time) ds more c ∙ ap (λ (t : ℕ). numbered_from (suc time) ds ++ numbered_at t c ∷ numbered_from (suc t) more) (omega arith))

pub damage_is_none : DamageIsNone
damage_is_none columns image at commits damage stands =
    let found = goes_on columns damage.commits commits damage.rest stands.lists.rest damage.each stands.lists.each stands.lists.ended (sym damage.whole ∙ stands.lists.whole) in
    let numbered = ap (numbered_from 1) found.split ∙ numbered_split 1 damage.commits found.more found.next in
    damage.none found.next found.after found.has (stands.recovered (numbered_from 1 damage.commits) (numbered_at (length damage.commits + 1) found.next) (numbered_from (suc (length damage.commits + 1)) found.more) numbered) found.here
