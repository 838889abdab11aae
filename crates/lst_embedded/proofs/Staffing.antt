-- The bank is opened and parted, and what each session has done in all.
use Rattle.std.proofs.Common.{◌≡◌, ℕ, zero, suc, ◌+◌, ◌<◌, List, [], ◌∷◌, ◌++◌, eqb, length, get_or, set, refl, sym, ap, ◌∙◌, subst, arith, length-append}
use Rattle.std.specs.Prelude.{Result, Ok, Err, IfOk, OnOk}
use Rattle.std.specs.List.{All, AllByRecursion, remove}
use Rattle.std.specs.Result.{result_and, result_or}
use Rattle.lst_layout.specs.declared.limits.Limits.{Limits}
use Rattle.lst_layout.specs.declared.layout.Layout.{Layout}
use Rattle.lst_model.specs.declared.commits.Commit.{Commit}
use Rattle.lst_core_state.specs.State.{mine, newcomer}
use Rattle.lst_rule.specs.declared.store.Store.{Store}
use Rattle.lst_rule.specs.declared.view.View.{View}
use Rattle.lst_rule.specs.Rule.{knows, crew as opening_view}
use Rattle.lst_rule.proofs.Opening.{same_at}
use Rattle.lst_rule.specs.Surveys.{HostsAll}
use Rattle.lst_session.specs.Crews.{IsCrewOf}
use Rattle.lst_session.proofs.Recounting.{hosts_all as crew_hosts_all}
use Rattle.lst_session.specs.Parting.{known_by, IsAlone, IsParted, IsPassFrom, IsMergerOf}
use Rattle.lst_session.specs.Passes.{IsReady}
use Rattle.lst_session.specs.declared.crew.Crew.{Crew}
use Rattle.lst_session.specs.declared.passes.Merger.{Merger}
use Rattle.lst_session.specs.declared.session.Session.{Session}
use Rattle.lst_work.proofs.Hires.{first_rest}
use Rattle.lst_embedded.specs.declared.audits.Audit.{Audit}
use Rattle.lst_embedded.specs.declared.bank.Staff.{Staff}
use Rattle.lst_embedded.specs.Deeds.{IsOpening, IsMove, Lasts}
use Rattle.lst_embedded.specs.Doing.{IsBank, HasAdded, HasMade, HasDone, HaveAudited}
use Rattle.lst_embedded.specs.Staffs.{IsOpened, HasInAll, IsStaffed}
use Rattle.lst_embedded.proofs.Adding.{all_last, all_join, openings_last, moves_last}
use Rattle.lst_embedded.proofs.Going.{if_or}
use Rattle.lst_embedded.proofs.Looking.{alone_still}

pub opened_is : (store : Store) (crew : Crew) (layout : Layout) (columns : layout.limits.columns ≡ 1) (ranges : layout.limits.ranges ≡ 2) (sessions : layout.limits.sessions ≡ 4)
    → store.layout ≡ layout → IsCrewOf store crew → crew.seat.view ≡ opening_view layout.limits → IsOpened store crew
opened_is store crew layout columns ranges sessions is crew_of view = record {
  bank = record {
    columns = ap (λ (l : Layout). l.limits.columns) is ∙ columns;
    ranges = let two : store.layout.limits.ranges ≡ 2 = ap (λ (l : Layout). l.limits.ranges) is ∙ ranges in omega (arith, two);
    sessions = ap (λ (l : Layout). l.limits.sessions) is ∙ sessions;
  };
  crew_of = crew_of;
  view = view ∙ ap (λ (l : Layout). opening_view l.limits) (sym is);
}

-- by results for whose refusals others stand
pub opened_or : {E F D : Type 0} (d : D) (limits : Limits) (columns : limits.columns ≡ 1) (ranges : limits.ranges ≡ 2) (sessions : limits.sessions ≡ 4)
    → (checked : Result Layout E) (layout : Layout) → Ok layout ≡ result_or checked (Err d) → IfOk checked (λ (l : Layout). l.limits ≡ limits)
    → (made : Result (Store × Crew) F) (store : Store) (crew : Crew) → Ok (store, crew) ≡ result_or made (Err d) → IfOk made (λ (both : Store × Crew). both.0.layout ≡ layout) → IfOk made (λ (both : Store × Crew). IsCrewOf both.0 both.1)
    → IfOk made (λ (both : Store × Crew). both.1.seat.view ≡ opening_view layout.limits) → IsOpened store crew
opened_or d limits columns ranges sessions checked layout valid same made store crew is layouts crews views =
    let own = if_or (λ (l : Layout). l.limits ≡ limits) checked d layout valid same in
    let both : Store × Crew = (store, crew) in
    opened_is store crew layout (ap (λ (l : Limits). l.columns) own ∙ columns) (ap (λ (l : Limits). l.ranges) own ∙ ranges) (ap (λ (l : Limits). l.sessions) own ∙ sessions)
    (if_or (λ (both : Store × Crew). both.0.layout ≡ layout) made d both is layouts) (if_or (λ (both : Store × Crew). IsCrewOf both.0 both.1) made d both is crews) (if_or (λ (both : Store × Crew). both.1.seat.view ≡ opening_view layout.limits) made d both is views)

-- ---- what a session has done in all

module _ (P : List Commit → Commit → Type 0) where
  -- nothing
  pub none_in_all : (s : ℕ) (a : Session) → a.number ≡ s → mine s (known_by a) ≡ [] → HasInAll P s 0 a
  none_in_all s a number none = record {
    number = number;
    count = ap length none;
    each = subst (AllByRecursion (P (known_by a).seen)) (sym none) tt;
  }

  module _ (lasts : Lasts P) where
    -- and then some more
    pub in_all_on : (s m n : ℕ) (a b : Session) → HasInAll P s m a → HasMade P a b n → HasInAll P s (m + n) b
    in_all_on s m n a b x y = record {
      number = y.added.number ∙ x.number;
      count = let same = ap length all in let size = length-append (mine s (known_by a)) y.more in let one = x.count in let other = y.count in omega (arith, same, size, one, other);
      each = subst (AllByRecursion (P (known_by b).seen)) (sym all) (all_join (P (known_by b).seen) (mine s (known_by a)) y.more (all_last P lasts (known_by b).seen (known_by a).seen y.added.seen (mine s (known_by a)) x.each) y.each);
    }
      where
        all : mine s (known_by b) ≡ mine s (known_by a) ++ y.more
        all = subst (λ (k : ℕ). mine k (known_by b) ≡ mine k (known_by a) ++ y.more) x.number y.added.mine

    -- and then nothing more
    pub in_all_still : (s n : ℕ) (a b : Session) → HasInAll P s n a → HasAdded a b [] → HasInAll P s n b
    in_all_still s n a b x y = let same : n + 0 ≡ n = omega arith in subst (λ (k : ℕ). HasInAll P s k b) same (in_all_on s n 0 a b x record { more = []; added = y; count = refl; each = tt })

-- ---- the sessions of a new crew

-- the session has this number, a seat of its own, and no commits
pub record IsNew (store : Store) (s : ℕ) (session : Session) : Type 0 where
  pub ready : IsReady store session
  pub number : session.number ≡ s
  pub alone : IsAlone session
  pub mine : mine s (known_by session) ≡ []

new_at : (store : Store) (v : View) (l : Limits) (s : ℕ) (session : Session) → v ≡ opening_view l → IsPassFrom store v s session → IsReady store session → IsNew store s session
new_at store v l s session opening from ready = record {
  ready = ready;
  number = from.number;
  alone = λ t. from.part.hosted t ∙ ap (eqb t) (sym from.number);
  mine = ap (mine s) (ap (knows session.seat.view) from.number ∙ (from.part.knows_same ∙ (ap (λ (u : View). knows u s) opening ∙ same_at (l.sessions + 1) s (newcomer l))));
}

new_in_all : (store : Store) (P : List Commit → Commit → Type 0) (s : ℕ) (session : Session) → IsNew store s session → HasInAll P s 0 session
new_in_all store P s session x = none_in_all P s session x.number x.mine

-- the first two are taken, one after another; two are left
pub two_left : (sessions one two : List Session) (first second : Session) → length sessions ≡ 4 → first ≡ get_or sessions 0 first → one ≡ remove sessions 0 → second ≡ get_or one 0 second → two ≡ remove one 0
    → (sessions ≡ first ∷ second ∷ two) × (length two ≡ 2)
two_left sessions one two first second count a b c d =
    let at_first = first_rest sessions one first (omega (arith, count)) a b in
    let three : length one ≡ 3 = (let l = ap length at_first in omega (arith, l, count)) in
    let at_second = first_rest one two second (omega (arith, three)) c d in
    (at_first ∙ ap (λ (xs : List Session). first ∷ xs) at_second, (let l = ap length at_second in omega (arith, l, three)))

pub three_left : (sessions one : List Session) (first : Session) → length sessions ≡ 4 → first ≡ get_or sessions 0 first → one ≡ remove sessions 0 → length one ≡ 3
three_left sessions one first count a b = let l = ap length (first_rest sessions one first (omega (arith, count)) a b) in omega (arith, l, count)

-- two that are left are two
pub two_are : (xs : List Session) (none : Session) → length xs ≡ 2 → xs ≡ get_or xs 0 none ∷ get_or xs 1 none ∷ []
two_are [] none two = absurd (omega (arith, two))
two_are (x ∷ []) none two = absurd (omega (arith, two))
two_are (x ∷ y ∷ []) none two = refl
two_are (x ∷ y ∷ z ∷ xs) none two = absurd (omega (arith, two))

module _ (store : Store) (crew : Crew) (sessions : List Session) (merger : Merger) (opened : IsOpened store crew) (parted : IsParted store crew.seat.view sessions merger) where
  limits_are : crew.seat.view.limits.sessions ≡ 4
  limits_are = ap (λ (v : View). v.limits.sessions) opened.view ∙ opened.bank.sessions

  pub four_parted : length sessions ≡ 4
  four_parted = parted.count ∙ limits_are

  module _ (first second : Session) (rest : List Session) (ready : All (IsReady store) sessions) (all : sessions ≡ first ∷ second ∷ rest) where
    at : (s : ℕ) (none : Session) → s < 4 → IsNew store s (get_or (first ∷ second ∷ rest) s none)
    at s none low = subst (λ (xs : List Session). IsNew store s (get_or xs s none)) all
        (let in_view : s < crew.seat.view.limits.sessions = (let e = limits_are in omega (arith, e, low)) in
        new_at store crew.seat.view store.layout.limits s (get_or sessions s none) opened.view (parted.each s none in_view) (ready s none (let count = parted.count in omega (arith, in_view, count))))

    -- the first of the two that are left is a new one
    pub banker_new : (banker other : Session) → rest ≡ banker ∷ other ∷ [] → IsNew store 2 banker
    banker_new banker other is = subst (λ (xs : List Session). IsNew store 2 (get_or xs 0 banker)) is (at 2 banker (omega arith))

    -- it has opened the accounts
    pub staffed : (banker other now : Session) → rest ≡ banker ∷ other ∷ [] → HasDone store IsOpening banker now 8 → IsMergerOf store merger
        → IsStaffed store 0 record { first = first; second = second; auditors = now ∷ other ∷ []; merger = merger }
    staffed banker other now is done merger_of = record {
      first_ready = (at 0 first (omega arith)).ready;
      first = new_in_all store IsMove 0 first (at 0 first (omega arith));
      second_ready = (at 1 first (omega arith)).ready;
      second = new_in_all store IsMove 1 second (at 1 first (omega arith));
      auditors = record {
        count = refl;
        ready = both_ready;
        alone = λ none. alone_still banker now done.made.more done.made.added (banker_new banker other is).alone;
      };
      banker = λ none. in_all_on IsOpening openings_last 2 0 8 banker now (new_in_all store IsOpening 2 banker (banker_new banker other is)) done.made;
      other = λ none. new_in_all store IsOpening 3 other other_new;
      merger_of = merger_of;
    }
      where
        other_new : IsNew store 3 other
        other_new = subst (λ (xs : List Session). IsNew store 3 (get_or xs 1 banker)) is (at 3 banker (omega arith))

        both_ready : All (IsReady store) (now ∷ other ∷ [])
        both_ready zero none low = done.ready
        both_ready (suc zero) none low = other_new.ready
        both_ready (suc (suc i)) none low = absurd (omega (arith, low))

    -- of those that are left it is the first
    module _ (banker now : Session) (two : length rest ≡ 2) (is : banker ≡ get_or rest 0 banker) where
      abbrev other : Session
      other = get_or rest 1 banker

      left : rest ≡ banker ∷ other ∷ []
      left = two_are rest banker two ∙ ap (λ (x : Session). x ∷ other ∷ []) (sym is)

      pub banker_ready : IsReady store banker
      banker_ready = (banker_new banker other left).ready

      pub staffed_left : HasDone store IsOpening banker now 8 → IsMergerOf store merger → IsStaffed store 0 record { first = first; second = second; auditors = set rest 0 now; merger = merger }
      staffed_left done merger_of = subst (λ (xs : List Session). IsStaffed store 0 record { first = first; second = second; auditors = xs; merger = merger })
          (sym (ap (λ (xs : List Session). set xs 0 now) left)) (staffed banker other now left done merger_of)

-- ---- the staff has worked

pub staff_worked : (store : Store) (a b : Staff) (audits : List Audit) → IsStaffed store 0 a → HasDone store IsMove a.first b.first 25 → HasDone store IsMove a.second b.second 25
    → HaveAudited store a.auditors b.auditors b.merger audits 10 → IsStaffed store 25 b
staff_worked store a b audits x first second audited = record {
  first_ready = first.ready;
  first = in_all_on IsMove moves_last 0 0 25 a.first b.first x.first first.made;
  second_ready = second.ready;
  second = in_all_on IsMove moves_last 1 0 25 a.second b.second x.second second.made;
  auditors = audited.auditors;
  banker = λ none. in_all_still IsOpening openings_last 2 8 (get_or a.auditors 0 none) (get_or b.auditors 0 none) (x.banker none) (audited.looked.each 0 none (let two = x.auditors.count in omega (arith, two)));
  other = λ none. in_all_still IsOpening openings_last 3 0 (get_or a.auditors 1 none) (get_or b.auditors 1 none) (x.other none) (audited.looked.each 1 none (let two = x.auditors.count in omega (arith, two)));
  merger_of = audited.merger_of;
}

-- if both ended
pub staff_worked_and : {A B E : Type 0} (items : A → List Audit) (store : Store) (a b : Staff) → IsStaffed store 0 a → (one : Result B E) → OnOk one (HasDone store IsMove a.first b.first 25 × HasDone store IsMove a.second b.second 25)
    → (next : Result A E) → IfOk next (λ audits. HaveAudited store a.auditors b.auditors b.merger (items audits) 10) → OnOk (result_and one next) (IsStaffed store 25 b)
staff_worked_and items store a b x (Ok one) worked (Ok audits) audited = staff_worked store a b (items audits) x worked.0 worked.1 audited
staff_worked_and items store a b x (Ok one) worked (Err e) audited = tt
staff_worked_and items store a b x (Err e) worked next audited = tt

-- ---- the limits that a session knows are the store's

pub columns_one : (store : Store) (session : Session) → IsBank store → IsReady store session → session.seat.view.limits.columns ≡ 1
columns_one store session bank ready = ap (λ (l : Limits). l.columns) ready.seat_of.limits ∙ bank.columns

pub hosts_all : (store : Store) (crew : Crew) → IsOpened store crew → HostsAll crew.seat.view
hosts_all store crew opened = crew_hosts_all store crew opened.crew_of
