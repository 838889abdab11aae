-- Workers that are made of sessions one after another, and sessions of workers.
use Rattle.std.proofs.Common.{◌≡◌, ◌<◌, List, [], ◌∷◌, ◌++◌, length, get_or, arith, sym, subst, ap, ◌∙◌, append_assoc, append-nil}
use Rattle.std.specs.List.{AllByRecursion, remove}
use Rattle.std.proofs.lemmas.List.{map-append, nil_from_length}
use Rattle.lst_session.specs.declared.session.Session.{Session}
use Rattle.lst_work.specs.declared.workers.Worker.{Worker}
use Rattle.lst_legal_runs.specs.declared.levels.Level.{Level}
use Rattle.lst_work.specs.declared.reads.Reads.{Reads}
use Rattle.lst_work.specs.Hiring.{IsNew, AreHired, sessions_of, reads_of}

pub record IsHiring (level : Level) (all rest : List Session) (reads kept : List Reads) (workers : List Worker) : Type 0 where
  pub sessions_are : sessions_of workers ++ rest ≡ all
  pub reads_are : reads_of workers ++ kept ≡ reads
  pub long : length kept ≡ length rest
  pub all_new : AllByRecursion (IsNew level) workers

all_new_on : (level : Level) (xs : List Worker) (x : Worker) → AllByRecursion (IsNew level) xs → IsNew level x → AllByRecursion (IsNew level) (xs ++ x ∷ [])
all_new_on level [] x a n = (n, tt)
all_new_on level (y ∷ ys) x a n = (a.0, all_new_on level ys x a.1 n)

pub hiring_on : (level : Level) (all rest left : List Session) (reads kept fewer : List Reads) (workers longer : List Worker) (session : Session) (read : Reads) (worker : Worker) → IsHiring level all rest reads kept workers → rest ≡ session ∷ left
    → kept ≡ read ∷ fewer → longer ≡ workers ++ worker ∷ [] → worker.session ≡ session → worker.reads ≡ read → IsNew level worker → IsHiring level all left reads fewer longer
hiring_on level all rest left reads kept fewer workers longer session read worker x first next is same alike fresh = record {
  sessions_are = ap (λ (ws : List Worker). sessions_of ws ++ left) is ∙ (ap (λ (ss : List Session). ss ++ left) (map-append (λ (w : Worker). w.session) workers (worker ∷ []))
      ∙ (append_assoc (sessions_of workers) (worker.session ∷ []) left ∙ (ap (λ (s : Session). sessions_of workers ++ s ∷ left) same ∙ (ap (λ (ss : List Session). sessions_of workers ++ ss) (sym first) ∙ x.sessions_are))));
  reads_are = ap (λ (ws : List Worker). reads_of ws ++ fewer) is ∙ (ap (λ (rs : List Reads). rs ++ fewer) (map-append (λ (w : Worker). w.reads) workers (worker ∷ []))
      ∙ (append_assoc (reads_of workers) (worker.reads ∷ []) fewer ∙ (ap (λ (r : Reads). reads_of workers ++ r ∷ fewer) alike ∙ (ap (λ (rs : List Reads). reads_of workers ++ rs) (sym next) ∙ x.reads_are))));
  long = let l = x.long in let a = ap length first in let b = ap length next in omega arith;
  all_new = subst (AllByRecursion (IsNew level)) (sym is) (all_new_on level workers worker x.all_new fresh);
}

pub hired_all : (level : Level) (all rest : List Session) (reads kept : List Reads) (workers : List Worker) → IsHiring level all rest reads kept workers → length rest ≡ 0 → AreHired level all reads workers
hired_all level all rest reads kept workers x short = let none = nil_from_length rest short in let fewer = nil_from_length kept (x.long ∙ short) in record {
  sessions_are = sym (append-nil (sessions_of workers)) ∙ (ap (λ (ss : List Session). sessions_of workers ++ ss) (sym none) ∙ x.sessions_are);
  reads_are = sym (append-nil (reads_of workers)) ∙ (ap (λ (rs : List Reads). reads_of workers ++ rs) (sym fewer) ∙ x.reads_are);
  all_new = x.all_new;
}

-- the first of a list, and the rest
pub first_rest : {X : Type 0} (xs left : List X) (x : X) → 0 < length xs → x ≡ get_or xs 0 x → left ≡ remove xs 0 → xs ≡ x ∷ left
first_rest [] left x some is e = absurd (omega arith)
first_rest (y ∷ ys) left x some is e = ap (λ (z : _). z ∷ ys) (sym is) ∙ ap (λ (zs : _). x ∷ zs) (sym e)
