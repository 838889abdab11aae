use Rattle.std.proofs.Common.{◌≡◌, List, length, refl, sym, ap, ◌∙◌, subst, rules}
use Rattle.std.specs.Prelude.{Ok, Err}
use Rattle.std.specs.Result.{result_or}
use Rattle.std.specs.List.{All}
use Rattle.lst_layout.specs.declared.limits.Limits.{Limits}
use Rattle.lst_layout.specs.Limits.{default_limits}
use Rattle.lst_session.specs.declared.passes.Merger.{Merger}
use Rattle.lst_session.specs.declared.session.Session.{Session}
use Rattle.lst_session.specs.Crews.{IsCrewOf}
use Rattle.lst_session.specs.Parting.{IsParted, IsMergerOf}
use Rattle.lst_session.specs.Passes.{IsReady}
use Rattle.lst_embedded.specs.declared.transactions.Stop.TheVariants.{Close}
use Rattle.lst_embedded.specs.Staffs.{IsStaffed}
use Rattle.lst_embedded.proofs.Going.{if_or}
use Rattle.lst_embedded.proofs.Staffing.{opened_or, hosts_all, four_parted, three_left, two_left, banker_ready, staffed_left}
use Rattle.lst_embedded.proofs.bank.open.Goals as goal

pub part-requires-clause-all : goal.part-requires-clause-all
part-requires-clause-all c =
    let store = c.in_ok-store.store in let crew = c.in_ok-store.crew in let start = c.default.result in let is : start ≡ default_limits = search rules in
    let limits : Limits = record { columns = 1; ranges = 2; tails = start.tails; sessions = start.sessions; txns = start.txns; spare = start.spare; indexed = start.indexed } in
    let valid : Ok c.in_ok-layout.layout ≡ result_or c.check.result (Err Close) = search rules in let made : Ok (store, crew) ≡ result_or c.open_crew.result (Err Close) = search rules in
    let opened = opened_or Close limits refl refl (ap (λ (l : Limits). l.sessions) is) c.check.result c.in_ok-layout.layout valid c.check.ensures.layout c.open_crew.result store crew made c.open_crew.ensures.store c.open_crew.ensures.crew c.open_crew.ensures.view in
    hosts_all store crew opened

pub remove-second-requires : goal.remove-second-requires
remove-second-requires c =
    let store = c.in_ok-store.store in let crew = c.in_ok-store.crew in let start = c.default.result in let is : start ≡ default_limits = search rules in
    let limits : Limits = record { columns = 1; ranges = 2; tails = start.tails; sessions = start.sessions; txns = start.txns; spare = start.spare; indexed = start.indexed } in
    let valid : Ok c.in_ok-layout.layout ≡ result_or c.check.result (Err Close) = search rules in let made : Ok (store, crew) ≡ result_or c.open_crew.result (Err Close) = search rules in
    let opened = opened_or Close limits refl refl (ap (λ (l : Limits). l.sessions) is) c.check.result c.in_ok-layout.layout valid c.check.ensures.layout c.open_crew.result store crew made c.open_crew.ensures.store c.open_crew.ensures.crew c.open_crew.ensures.view in
    let sessions = c.in_ok-sessions.sessions in let merger = c.in_ok-sessions.merger in let found : Ok (sessions, merger) ≡ result_or c.part.result (Err Close) = search rules in
    let parted = if_or (λ (both : List Session × Merger). IsParted store crew.seat.view both.0 both.1) c.part.result Close (sessions, merger) found c.part.ensures.parted in
    let v = c.into_vec-auditors.result.items in let a = c.remove-first in let items : v ≡ sessions = c.into_vec-auditors.ensures in let four = ap length items ∙ four_parted store crew sessions merger opened parted in
    let three = three_left v a.new.self.items a.result four a.ensures.value a.ensures.items in search (rules, three)

pub index_mut-requires : goal.index_mut-requires
index_mut-requires c =
    let store = c.in_ok-store.store in let crew = c.in_ok-store.crew in let start = c.default.result in let is : start ≡ default_limits = search rules in
    let limits : Limits = record { columns = 1; ranges = 2; tails = start.tails; sessions = start.sessions; txns = start.txns; spare = start.spare; indexed = start.indexed } in
    let valid : Ok c.in_ok-layout.layout ≡ result_or c.check.result (Err Close) = search rules in let made : Ok (store, crew) ≡ result_or c.open_crew.result (Err Close) = search rules in
    let opened = opened_or Close limits refl refl (ap (λ (l : Limits). l.sessions) is) c.check.result c.in_ok-layout.layout valid c.check.ensures.layout c.open_crew.result store crew made c.open_crew.ensures.store c.open_crew.ensures.crew c.open_crew.ensures.view in
    let sessions = c.in_ok-sessions.sessions in let merger = c.in_ok-sessions.merger in let found : Ok (sessions, merger) ≡ result_or c.part.result (Err Close) = search rules in
    let parted = if_or (λ (both : List Session × Merger). IsParted store crew.seat.view both.0 both.1) c.part.result Close (sessions, merger) found c.part.ensures.parted in
    let v = c.into_vec-auditors.result.items in let a = c.remove-first in let items : v ≡ sessions = c.into_vec-auditors.ensures in let four = ap length items ∙ four_parted store crew sessions merger opened parted in
    let b = c.remove-second in let left = two_left v a.new.self.items b.new.self.items a.result b.result four a.ensures.value a.ensures.items b.ensures.value b.ensures.items in
    let two = left.1 in search (rules, two)

pub open_accounts-requires-clause-bank : goal.open_accounts-requires-clause-bank
open_accounts-requires-clause-bank c =
    let store = c.in_ok-store.store in let crew = c.in_ok-store.crew in let start = c.default.result in let is : start ≡ default_limits = search rules in
    let limits : Limits = record { columns = 1; ranges = 2; tails = start.tails; sessions = start.sessions; txns = start.txns; spare = start.spare; indexed = start.indexed } in
    let valid : Ok c.in_ok-layout.layout ≡ result_or c.check.result (Err Close) = search rules in let made : Ok (store, crew) ≡ result_or c.open_crew.result (Err Close) = search rules in
    let opened = opened_or Close limits refl refl (ap (λ (l : Limits). l.sessions) is) c.check.result c.in_ok-layout.layout valid c.check.ensures.layout c.open_crew.result store crew made c.open_crew.ensures.store c.open_crew.ensures.crew c.open_crew.ensures.view in
    opened.bank

pub open_accounts-requires-clause-ready : goal.open_accounts-requires-clause-ready
open_accounts-requires-clause-ready c =
    let store = c.in_ok-store.store in let crew = c.in_ok-store.crew in let start = c.default.result in let is : start ≡ default_limits = search rules in
    let limits : Limits = record { columns = 1; ranges = 2; tails = start.tails; sessions = start.sessions; txns = start.txns; spare = start.spare; indexed = start.indexed } in
    let valid : Ok c.in_ok-layout.layout ≡ result_or c.check.result (Err Close) = search rules in let made : Ok (store, crew) ≡ result_or c.open_crew.result (Err Close) = search rules in
    let opened = opened_or Close limits refl refl (ap (λ (l : Limits). l.sessions) is) c.check.result c.in_ok-layout.layout valid c.check.ensures.layout c.open_crew.result store crew made c.open_crew.ensures.store c.open_crew.ensures.crew c.open_crew.ensures.view in
    let sessions = c.in_ok-sessions.sessions in let merger = c.in_ok-sessions.merger in let found : Ok (sessions, merger) ≡ result_or c.part.result (Err Close) = search rules in
    let parted = if_or (λ (both : List Session × Merger). IsParted store crew.seat.view both.0 both.1) c.part.result Close (sessions, merger) found c.part.ensures.parted in
    let v = c.into_vec-auditors.result.items in let a = c.remove-first in let items : v ≡ sessions = c.into_vec-auditors.ensures in let four = ap length items ∙ four_parted store crew sessions merger opened parted in
    let b = c.remove-second in let left = two_left v a.new.self.items b.new.self.items a.result b.result four a.ensures.value a.ensures.items b.ensures.value b.ensures.items in
    let ready = if_or (λ (both : List Session × Merger). IsCrewOf store crew → All (IsReady store) both.0) c.part.result Close (sessions, merger) found c.part.ensures.ready opened.crew_of in
    let banker = c.index_mut.result.now in
    banker_ready store crew sessions merger opened parted a.result b.result b.new.self.items ready (sym items ∙ left.0) banker banker left.1 c.index_mut.ensures.value

pub returns-clause-bank : goal.returns-clause-bank
returns-clause-bank c =
    let store = c.in_ok-store.store in let crew = c.in_ok-store.crew in let start = c.default.result in let is : start ≡ default_limits = search rules in
    let limits : Limits = record { columns = 1; ranges = 2; tails = start.tails; sessions = start.sessions; txns = start.txns; spare = start.spare; indexed = start.indexed } in
    let valid : Ok c.in_ok-layout.layout ≡ result_or c.check.result (Err Close) = search rules in let made : Ok (store, crew) ≡ result_or c.open_crew.result (Err Close) = search rules in
    let opened = opened_or Close limits refl refl (ap (λ (l : Limits). l.sessions) is) c.check.result c.in_ok-layout.layout valid c.check.ensures.layout c.open_crew.result store crew made c.open_crew.ensures.store c.open_crew.ensures.crew c.open_crew.ensures.view in
    opened.bank

pub returns-clause-staff : goal.returns-clause-staff
returns-clause-staff c =
    let store = c.in_ok-store.store in let crew = c.in_ok-store.crew in let start = c.default.result in let is : start ≡ default_limits = search rules in
    let limits : Limits = record { columns = 1; ranges = 2; tails = start.tails; sessions = start.sessions; txns = start.txns; spare = start.spare; indexed = start.indexed } in
    let valid : Ok c.in_ok-layout.layout ≡ result_or c.check.result (Err Close) = search rules in let made : Ok (store, crew) ≡ result_or c.open_crew.result (Err Close) = search rules in
    let opened = opened_or Close limits refl refl (ap (λ (l : Limits). l.sessions) is) c.check.result c.in_ok-layout.layout valid c.check.ensures.layout c.open_crew.result store crew made c.open_crew.ensures.store c.open_crew.ensures.crew c.open_crew.ensures.view in
    let sessions = c.in_ok-sessions.sessions in let merger = c.in_ok-sessions.merger in let found : Ok (sessions, merger) ≡ result_or c.part.result (Err Close) = search rules in
    let parted = if_or (λ (both : List Session × Merger). IsParted store crew.seat.view both.0 both.1) c.part.result Close (sessions, merger) found c.part.ensures.parted in
    let v = c.into_vec-auditors.result.items in let a = c.remove-first in let items : v ≡ sessions = c.into_vec-auditors.ensures in let four = ap length items ∙ four_parted store crew sessions merger opened parted in
    let b = c.remove-second in let left = two_left v a.new.self.items b.new.self.items a.result b.result four a.ensures.value a.ensures.items b.ensures.value b.ensures.items in
    let ready = if_or (λ (both : List Session × Merger). IsCrewOf store crew → All (IsReady store) both.0) c.part.result Close (sessions, merger) found c.part.ensures.ready opened.crew_of in
    let merger_of = if_or (λ (both : List Session × Merger). IsMergerOf store both.1) c.part.result Close (sessions, merger) found c.part.ensures.merger in
    subst (λ (auditors : List Session). IsStaffed store 0 record { first = a.result; second = b.result; auditors = auditors; merger = merger }) (sym c.from_vec.ensures)
    (staffed_left store crew sessions merger opened parted a.result b.result b.new.self.items ready (sym items ∙ left.0) c.index_mut.result.now c.open_accounts.new.banker left.1 c.index_mut.ensures.value
    c.in_ok-open_accounts.ensures merger_of)
