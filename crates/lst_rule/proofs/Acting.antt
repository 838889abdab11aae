-- A seat's step on one word, from what its caller knows.
use Rattle.std.proofs.Common.{get_or, ◌≡◌, ℕ, List, Bool, true, set, sym, subst, ap, ◌∙◌, slice_index, length, length-set}
use Rattle.lst_layout.specs.declared.limits.Limits.{Limits}
use Rattle.lst_layout.specs.declared.place.Place.{Place}
use Rattle.lst_layout.specs.Addresses as layout
use Rattle.lst_layout.specs.Addresses.{address}
use Rattle.lst_layout.specs.Words.{shown}
use Rattle.lst_core_state.specs.declared.known.Known.{Known}
use Rattle.lst_core_state.specs.declared.events.Event.{Event}
use Rattle.lst_core_state.specs.declared.numbers.Numbers.{Numbers}
use Rattle.lst_core_state.specs.Numbers.{numbers_of, place_for, written_of}
use Rattle.lst_pages.specs.declared.events.PageEvent.{PageEvent}
use Rattle.lst_pages.specs.Step.{place_of}
use Rattle.lst_pages.specs.Numbers as page_numbers
use Rattle.lst_rule.specs.declared.actions.Action.{Action}
use Rattle.lst_rule.specs.declared.actions.Action.TheVariants.{Core, Page}
use Rattle.lst_rule.specs.declared.view.View.{View}
use Rattle.lst_rule.specs.Actions.{actor, IsActionWithin, ActionEnabled, known_after_action, place_for_action, time_for_action, written_for_action, numbers_after_action, stock_numbers}
use Rattle.lst_rule.specs.Rule.{knows, hosts, Allowed, Ready, Told}
use Rattle.lst_rule.specs.Learned.{MayStand, Made, Met, PageMade, PageMet}
use Rattle.lst_rule.proofs.Enabling.{allowed_steps, becomes, ready_at}
use Rattle.lst_rule.proofs.Learning.{made, met, page_made, page_met}
use Rattle.lst_rule.specs.declared.store.Store.{Store}
use Rattle.lst_rule.specs.Seats.{Sitting, told, Tells}
use Rattle.lst_rule.specs.Stores.{IsSeatOf}
use Rattle.lst_rule.proofs.Telling.{tells_after, tells_still, reads}

-- what the caller of a step knows: u is the seat's view, and n the numbers of s
pub record Asks (l : Limits) (n : Numbers) (a : Action) (s i : ℕ) (u v : View) : Type 0 where
  pub same : u ≡ v
  pub limits : v.limits ≡ l
  pub numbers : n ≡ told v s
  pub session : actor v.limits a ≡ s
  pub hosted : hosts v s ≡ true
  pub within : IsActionWithin v.limits a
  pub ok : ActionEnabled v.limits (knows v s) a
  pub stands : MayStand v a
  pub at : i ≡ address l (place_for_action l n a)

module _ (l : Limits) (n : Numbers) (a : Action) (s i : ℕ) (u v : View) (asks : Asks l n a s i u v) where
  abbrev P : Place
  P = place_for_action v.limits (told v s) a

  word : i ≡ address v.limits P
  word = asks.at ∙ ((λ j. address (sym asks.limits j) (place_for_action (sym asks.limits j) n a)) ∙ ap (λ (n : Numbers). address v.limits (place_for_action v.limits n a)) asks.numbers)

  -- with the actor's own name
  abbrev Own : ℕ → Type 0
  Own k = (hosts v k ≡ true) × ActionEnabled v.limits (knows v k) a

  pub acts_own : Own (actor v.limits a)
  acts_own = subst Own (sym asks.session) (asks.hosted, asks.ok)

  pub acts_ready : (f : ℕ → ℕ) → ((words : List ℕ) (known : ℕ → Known) (merger : Known) → Allowed v words known merger → (x : ℕ) → f x ≡ written_for_action l n (time_for_action v.limits (shown v.limits words) a) a x) → Ready u a i f
  acts_ready f is = subst (λ (z : View). Ready z a i f) (sym asks.same) (subst (λ (k : ℕ). Ready v a k f) (sym (word ∙ ap (λ (k : ℕ). address v.limits (place_for_action v.limits (told v k) a)) (sym asks.session)))
      (ready_at v a f acts_own.0 asks.within acts_own.1 asks.stands
      (λ words known merger may x. is words known merger may x ∙ (λ j. written_for_action (sym asks.limits j) ((asks.numbers ∙ ap (told v) (sym asks.session)) j) (time_for_action v.limits (shown v.limits words) a) a x))))

  -- what the table tells of the step, in the words of the seat's view
  pub acts_told : (x : ℕ) (w : View) → Told a i x u w → Told a (address v.limits P) x v w
  acts_told x w t = subst (λ (z : View). Told a (address v.limits P) x z w) asks.same (subst (λ (k : ℕ). Told a k x u w) word t)

  pub acts_found : (x y : ℕ) (w : View) → (h : (t : Told a i x u w) × (slice_index t.words i ≡ y)) → (t : Told a (address v.limits P) x v w) × (slice_index t.words (address v.limits P) ≡ y)
  acts_found x y w h = subst (λ (z : View). (t : Told a (address v.limits P) x z w) × (slice_index t.words (address v.limits P) ≡ y)) asks.same
      (subst (λ (k : ℕ). (t : Told a k x u w) × (slice_index t.words k ≡ y)) word h)

  -- what it writes, by the numbers that the view has of the actor
  pub acts_written : (time y : ℕ) → written_for_action l n time a y ≡ written_for_action v.limits (told v s) time a y
  acts_written time y = λ j. written_for_action (sym asks.limits j) (asks.numbers j) time a y

  pub acts_within : (w : View) (x : ℕ) → Told a (address v.limits P) x v w → layout.IsWithin v.limits P
  acts_within w x t = subst (λ (k : ℕ). layout.IsWithin v.limits (place_for_action v.limits (told v k) a)) asks.session (allowed_steps v a t.words t.known t.merger t.allowed acts_own.0 asks.within acts_own.1).within

  -- the limits, the hosts and the numbers that a seat keeps are those of its view after the step too, which found y (`none`: it has no
  -- part of the table in hand)
  module _ (numbers : List Numbers) (tells : Tells u numbers) (limits : Limits) (hosted : List Bool) (limits_are : limits ≡ u.limits) (hosted_are : hosted ≡ u.hosts) where
    here : Tells v numbers
    here = subst (λ (z : View). Tells z numbers) asks.same tells

    counts : (x y : ℕ) (w : View) → (h : (t : Told a i x u w) × (slice_index t.words i ≡ y)) → let g = acts_found x y w h in numbers_of (known_after_action v.limits (shown v.limits g.0.words) (knows v (actor v.limits a)) a) ≡ numbers_after_action l a y n
    counts x y w h = let g = acts_found x y w h in becomes v a g.0.words g.0.known g.0.merger g.0.allowed acts_own.0 asks.within acts_own.1
        ∙ ((λ j. numbers_after_action (asks.limits j) a (slice_index g.0.words (address v.limits (place_for_action v.limits (told v (asks.session j)) a))) ((ap (told v) asks.session ∙ sym asks.numbers) j))
        ∙ ap (λ (z : ℕ). numbers_after_action l a z n) g.1)

    pub acts_keep : {A : Type 0} → A → (x y : ℕ) (w : View) → (t : Told a i x u w) × (slice_index t.words i ≡ y) → (m b : Numbers) → m ≡ get_or numbers s m → b ≡ numbers_after_action l a y m → A × (limits ≡ w.limits) × (hosted ≡ w.hosts) × Tells w (set numbers s b)
    acts_keep none x y w h m b read is = let g = acts_found x y w h in (
      none,
      limits_are ∙ sym (ap (λ (z : View). z.limits) h.0.now),
      hosted_are ∙ sym (ap (λ (z : View). z.hosts) h.0.now),
      tells_after v w numbers a (address v.limits P) x s b here asks.session asks.hosted g.0
          (counts x y w h ∙ sym (is ∙ ap (numbers_after_action l a y) (reads u v numbers s m asks.same tells read asks.hosted ∙ sym asks.numbers))),
    )

    -- the same where the step leaves the numbers
    pub acts_still : {A : Type 0} → A → (x y : ℕ) (w : View) → (t : Told a i x u w) × (slice_index t.words i ≡ y) → numbers_after_action l a y n ≡ n → A × (limits ≡ w.limits) × (hosted ≡ w.hosts) × Tells w numbers
    acts_still none x y w h is = let g = acts_found x y w h in (
      none,
      limits_are ∙ sym (ap (λ (z : View). z.limits) h.0.now),
      hosted_are ∙ sym (ap (λ (z : View). z.hosts) h.0.now),
      tells_still v w numbers a (address v.limits P) x s here asks.session asks.hosted g.0 (counts x y w h ∙ (is ∙ (asks.numbers ∙ ap (told v) (sym asks.session)))),
    )

-- ---- a step of the core

module _ (l : Limits) (n : Numbers) (e : Event) (s i : ℕ) (u v : View) (asks : Asks l n (Core e) s i u v) where
  -- one that finds no number
  pub acts_made : (time x : ℕ) (w : View) → Told (Core e) i x u w → x ≡ written_of l n time e 0 → Made v w e (place_for v.limits (told v s) e) (written_of v.limits (told v s) time e 0)
  acts_made time x w t is = subst (Made v w e (place_for v.limits (told v s) e)) (is ∙ acts_written l n (Core e) s i u v asks time 0) (made v w e (place_for v.limits (told v s) e) x (acts_told l n (Core e) s i u v asks x w t) (acts_own l n (Core e) s i u v asks).0)

  -- one that finds y
  pub acts_met : (x y : ℕ) (w : View) → (t : Told (Core e) i x u w) × (slice_index t.words i ≡ y) → x ≡ written_of l n 0 e y → Met v w e (place_for v.limits (told v s) e) (written_of v.limits (told v s) 0 e y) y
  acts_met x y w h is = let g = acts_found l n (Core e) s i u v asks x y w h in subst (λ (z : ℕ). Met v w e (place_for v.limits (told v s) e) z y) (is ∙ acts_written l n (Core e) s i u v asks 0 y)
      (met v w e (place_for v.limits (told v s) e) x y (acts_within l n (Core e) s i u v asks w x g.0) g (acts_own l n (Core e) s i u v asks).0)

-- ---- a step on pages

module _ (l : Limits) (n : Numbers) (e : PageEvent) (s i : ℕ) (u v : View) (asks : Asks l n (Page e) s i u v) where
  pub acts_page_made : (x : ℕ) (w : View) → Told (Page e) i x u w → x ≡ page_numbers.written_of (stock_numbers n) e 0 → PageMade v w e (place_of e) (page_numbers.written_of (stock_numbers (told v s)) e 0)
  acts_page_made x w t is = subst (PageMade v w e (place_of e)) (is ∙ acts_written l n (Page e) s i u v asks 0 0) (page_made v w e (place_of e) x (acts_told l n (Page e) s i u v asks x w t) (acts_own l n (Page e) s i u v asks).0)

  -- a load, which found x
  pub acts_page_met : (x : ℕ) (w : View) → (t : Told (Page e) i x u w) × (slice_index t.words i ≡ x) → PageMet v w e (place_of e) x x
  acts_page_met x w h = let g = acts_found l n (Page e) s i u v asks x x w h in page_met v w e (place_of e) x x (acts_within l n (Page e) s i u v asks w x g.0) g (acts_own l n (Page e) s i u v asks).0

-- the seat is still one of the store
pub still_seat : (store : Store) (a b : Sitting) (e : Action) (i x : ℕ) → IsSeatOf store a → b.table ≡ a.table → Told e i x a.view b.view → IsSeatOf store b
still_seat store a b e i x is table t = record {
  table = table ∙ is.table;
  limits = ap (λ (u : View). u.limits) t.now ∙ is.limits;
  sized = ap (λ (u : View). length u.known) t.now ∙ (length-set a.view.known (actor a.view.limits e) (known_after_action a.view.limits (shown a.view.limits t.words) (knows a.view (actor a.view.limits e)) e) ∙ is.sized);
  low = λ r h. is.low r (sym (ap (λ (u : View). hosts u r) t.now) ∙ h);
}
