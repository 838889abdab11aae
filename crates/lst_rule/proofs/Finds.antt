-- Of which tail records words were loaded.
use Rattle.std.proofs.Common.{◌≡◌, ℕ, ◌+◌, List, [], ◌∷◌, ◌++◌, Bool, true, false, cond, eqb, nat_lt, ◌&&◌, length, sym, subst, ap, ◌∙◌, ⊎_elim, append_assoc, append-nil, Contains}
use Rattle.std.specs.Prelude.{Option, Some, None, IfSome}
use Rattle.std.specs.List.{All}
use Rattle.std.proofs.lemmas.List.Elements.{All-nil, All-cons, All-contains, Contains-append_cases}
use Rattle.lst_layout.specs.Words.{shown}
use Rattle.lst_layout.specs.declared.place.Place.TheVariants.{CellWord}
use Rattle.lst_core_state.specs.declared.known.Known.{Known}
use Rattle.lst_core_state.specs.declared.facts.Find.{Find}
use Rattle.lst_core_state.specs.declared.facts.Find.TheVariants.{TailLoad, EmptyStart, FreshClock}
use Rattle.lst_core_state.specs.Facts.{active_find, early_find, unfinished}
use Rattle.lst_rule.specs.declared.view.View.{View}
use Rattle.lst_rule.specs.Rule.{knows}
use Rattle.lst_rule.specs.Stores.{Looked}
use Rattle.lst_rule.specs.Statuses.{Says, SaysAt, SaysAfter, Reads}
use Rattle.lst_rule.specs.declared.status.Status.{Status}
use Rattle.lst_rule.specs.declared.status.Status.TheVariants.{Empty, Unfinished, Closed, Committed}
use Rattle.lst_rule.specs.TailLoads.{LoadsOf, LoadsTail}

-- the tail record of which a find says that a word was loaded
abbrev tail_loaded : Find → Option ℕ
tail_loaded (TailLoad t) = Some t
tail_loaded f = None

module _ (P : ℕ → Type 0) where
  abbrev MayLoadOf : Find → Type 0
  MayLoadOf f = IfSome (tail_loaded f) P

  maybe : (b : Bool) (f : Find) → MayLoadOf f → All MayLoadOf (cond b (f ∷ []) [])
  maybe true f is = All-cons MayLoadOf f [] is (All-nil MayLoadOf)
  maybe false f is = All-nil MayLoadOf

  loads_all : (v w : View) (s : ℕ) (more : List Find) → (knows w s).finds ≡ (knows v s).finds ++ more → All MayLoadOf more → LoadsOf v w s P
  loads_all v w s more finds all = record { more = more; finds = finds; each = λ t at. All-contains MayLoadOf more (TailLoad t) all at }

  -- nothing was found
  pub loads_none : (v w : View) (s : ℕ) → (knows w s).finds ≡ (knows v s).finds → LoadsOf v w s P
  loads_none v w s same = loads_all v w s [] (same ∙ sym (append-nil (knows v s).finds)) (All-nil MayLoadOf)

  pub loads_join : (u v w : View) (s : ℕ) → LoadsOf u v s P → LoadsOf v w s P → LoadsOf u w s P
  loads_join u v w s a b = record {
    more = a.more ++ b.more;
    finds = b.finds ∙ (ap (λ (fs : List Find). fs ++ b.more) a.finds ∙ append_assoc (knows u s).finds a.more b.more);
    each = λ t at. ⊎_elim (λ (h : Contains a.more (TailLoad t)). a.each t h) (λ (h : Contains b.more (TailLoad t)). b.each t h) (Contains-append_cases a.more b.more (TailLoad t) at);
  }

  pub loads_weaker : (Q : ℕ → Type 0) → ((t : ℕ) → P t → Q t) → (v w : View) (s : ℕ) → LoadsOf v w s P → LoadsOf v w s Q
  loads_weaker Q weaker v w s a = record { more = a.more; finds = a.finds; each = λ t at. weaker t (a.each t at) }

  -- the status of a transaction
  status_at : (v w : View) (s j n x : ℕ) → SaysAt v w s j n x → LoadsOf v w s P
  status_at v w s j n x says = loads_all v w s (active_find (knows v s) j n x) (ap (λ (k : Known). k.finds) says.view.now) (maybe (eqb x 0) (unfinished (knows v s) j n) tt)

  status_clock : (v w : View) (s : ℕ) → Reads v w s → LoadsOf v w s P
  status_clock v w s r = loads_all v w s (FreshClock (length r.load.all) ∷ early_find (knows v s) (length r.load.all)) (ap (λ (k : Known). k.finds) r.load.view.now)
      (All-cons MayLoadOf (FreshClock (length r.load.all)) (early_find (knows v s) (length r.load.all)) tt (maybe (nat_lt (length r.load.all + 1) (knows v s).looks.state) (unfinished (knows v s) (knows v s).looks.session (knows v s).looks.number) tt))

  pub loads_status : (v w : View) (s j n : ℕ) (status : Status) → Says v w s j n status → LoadsOf v w s P
  loads_status v w s j n Empty says = absurd says
  loads_status v w s j n Closed says = status_at v w s j n 1 says
  loads_status v w s j n (Committed time) says = loads_join v says.between w s (status_at v says.between s j n (time + 1) says.state)
      (⊎_elim (λ (h : w ≡ says.between). loads_none says.between w s (ap (λ (u : View). (knows u s).finds) h)) (λ (h : Reads says.between w s). status_clock says.between w s h) says.says.3)
  loads_status v w s j n (Unfinished session number) says = ⊎_elim
      (λ (h : SaysAt v w s j n 0). status_at v w s j n 0 h)
      (λ (h : (x : ℕ) × SaysAfter v w s j n x (Unfinished session number)). loads_join v h.1.between w s (status_at v h.1.between s j n h.0 h.1.state) (status_clock h.1.between w s h.1.says.3))
      says.2

-- a word of a tail record
pub loads_cell : (v w : View) (s t u p x : ℕ) → t ≡ u → Looked v w s (CellWord t p) x → LoadsTail v w s u
loads_cell v w s t u p x same looked = let b : Bool = eqb p 0 && eqb ((shown v.limits looked.met.made.told.words).cells t 0) 0 in
    loads_all (λ y. y ≡ u) v w s (TailLoad t ∷ cond b (EmptyStart t ∷ []) []) (ap (λ (k : Known). k.finds) looked.view.now)
    (All-cons (MayLoadOf (λ y. y ≡ u)) (TailLoad t) (cond b (EmptyStart t ∷ []) []) same (maybe (λ y. y ≡ u) b (EmptyStart t) tt))

-- first of one, and then of the same by another name
pub loads_tail : (u v w : View) (s t x : ℕ) → t ≡ x → LoadsTail u v s x → LoadsTail v w s t → LoadsTail u w s x
loads_tail u v w s t x same a b = loads_join (λ y. y ≡ x) u v w s a (subst (λ (z : ℕ). LoadsTail v w s z) same b)

-- where such is this one
pub loads_past : (v w : View) (s t : ℕ) (P : ℕ → Type 0) → P t → LoadsTail v w s t → LoadsOf v w s P
loads_past v w s t P is a = loads_weaker (λ y. y ≡ t) P (λ y e. subst P (sym e) is) v w s a
