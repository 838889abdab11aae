-- The placing of a key, position by position.
use Rattle.std.proofs.Common.{◌≡◌, ◌≢◌, ℕ, ◌+◌, ◌<◌, List, [], ◌∷◌, Bool, true, false, Option, Some, None, IfSome, IfNone, Result, Ok, Err, OnErr, rules, refl, sym, subst, ap, ◌∙◌, arith, inl, inr, true≢false, ⊎_elim}
use Rattle.std.specs.List.{Contains}
use Rattle.std.specs.Result.{IsErr}
use Rattle.lst_layout.specs.declared.limits.Limits.{Limits}
use Rattle.lst_core_state.specs.declared.known.Known.{Known}
use Rattle.lst_core_state.specs.declared.known.Placing.{Placing}
use Rattle.lst_core_state.specs.declared.facts.Fact.TheVariants.{IndexAt}
use Rattle.lst_core_state.specs.declared.facts.Find.{Find}
use Rattle.lst_core_state.specs.declared.facts.Find.TheVariants.{FullRecords}
use Rattle.lst_core_state.specs.Index.{position_of}
use Rattle.lst_rule.specs.declared.view.View.{View}
use Rattle.lst_rule.specs.Rule.{knows, hosts}
use Rattle.lst_rule.specs.Learned.{Possible}
use Rattle.lst_rule.specs.declared.store.Store.{Store}
use Rattle.lst_rule.specs.Seats.{Sitting}
use Rattle.lst_rule.specs.Stores.{IsSeatOf}
use Rattle.lst_rule.specs.declared.records.RecordId.{RecordId}
use Rattle.lst_index.specs.Searches.{Passed, EndedSince, IsUnseen, Works, Keeps}
use Rattle.lst_index.specs.Placings.{Drew, IsFull, FoundFull, full_finds, DrawsAfterLook}
use Rattle.lst_index.specs.Visits.{one, Uses, HasOne, Holds, Rests, Places}
use Rattle.lst_index.proofs.Views.{works_none, works_on, works_host, uses_on, uses_one, uses_same, uses_keeps}
use Rattle.lst_index.proofs.Ending.{ended_unseen}
use Rattle.lst_index.proofs.Looks.{idle}
use Rattle.lst_index.proofs.Searching.{passed_one}

pub if_some : {T : Type 0} → {P Q : T → Type 0} → (o : Option T) → ((x : T) → P x → Q x) → IfSome o P → IfSome o Q
if_some None f p = p
if_some (Some x) f p = f x p

pub if_none : {T P Q : Type 0} → (o : Option T) → (P → Q) → IfNone o P → IfNone o Q
if_none None f p = f p
if_none (Some x) f p = p

-- a key that was unseen is so after the steps
pub unseen_on : (v w : View) (s key : ℕ) (finds : List Find) → Works v w s finds → IsUnseen (knows v s) key → IsUnseen (knows w s) key
unseen_on v w s key finds a e = subst (λ (k : Known). IsUnseen k key) (sym a.view.now) record { commits = e.commits; own = e.own }

-- what was found in a later part of a call was found in the call
pub ended_since : (u v w : View) (s key : ℕ) → Works u v s [] → EndedSince v w s key → EndedSince u w s key
ended_since u v w s key a e = record { ended = e.ended; since = works_on u v e.ended.before s [] a e.since }

pub found_full : (v t w : View) (s key : ℕ) → hosts v s ≡ true → s < v.limits.sessions → Works v t s [] → EndedSince v t s key → Works t w s (FullRecords ∷ []) → IsFull w s → FoundFull v w s key
found_full v t w s key hosted low a ended b full = record {
  then = t;
  before = a;
  ended = ended;
  after = b;
  full = full;
  unseen = unseen_on t w s key (FullRecords ∷ []) b (ended_unseen t s key (works_host v t s [] a hosted) (subst (λ (l : Limits). s < l.sessions) (sym a.view.limits) low) ended.ended);
}

-- ---- what the record in hand may be after a look, q, and a comparison, r

module _ (p q r : Placing) (same : q ≡ p) where
  pub look_uses : Keeps q r → Uses p r 1
  look_uses keeps = uses_one p r p.has_key (uses_keeps p r (subst (λ (z : Placing). Keeps z r) same keeps))

  pub look_holds : (key : ℕ) → Holds p key → Holds q key
  look_holds key holds = subst (λ (z : Placing). Holds z key) (sym same) holds

  pub look_still : r ≡ q → Uses p r (one r.has_key)
  look_still e = let is : r ≡ p = e ∙ same in uses_same p r (one r.has_key) (ap (λ (z : Placing). z.drawn) is) (let f = ap (λ (z : Placing). one z.has_key) is in omega arith)

  pub look_drawn : (m : ℕ) → Uses q r m → Uses p r m
  look_drawn m uses = subst (λ (z : Placing). Uses z r m) same uses

-- a record in hand that was drawn, r, and is still in hand or placed, u
module _ (p r u : Placing) (a : Uses p r 1) (same : u.drawn ≡ r.drawn) where
  pub settled_uses : Uses p u 1
  settled_uses = record { drew = a.drew; drawn = same ∙ a.drawn; few = a.few }

  pub settled_still : u.has_key ≡ true → Uses p u (one u.has_key)
  settled_still e = subst (λ (b : Bool). Uses p u (one b)) (sym e) settled_uses

pub keeps_drawn : (p q r : Placing) → q ≡ p → Keeps q r → r.drawn ≡ p.drawn
keeps_drawn p q r same keeps = ⊎_elim (λ (e : r ≡ q). ap (λ (z : Placing). z.drawn) (e ∙ same)) (λ (t : (0 < q.hand) × (r ≡ record q { hand = 0; has_key = false })). ap (λ (z : Placing). z.drawn) t.1 ∙ ap (λ (z : Placing). z.drawn) same) keeps

-- ---- a position that holds another key is passed

module _ (l : Limits) (u v w : View) (s key n q r : ℕ) (at : q ≡ position_of l key n) (o : Option RecordId)
    (other : IfNone o (((k : ℕ) × Contains (knows w s).facts (IndexAt q r k) × (k ≢ key)) × (Holds (knows v s).placing key → (knows w s).placing ≡ (knows v s).placing))) where
  -- which a look has found, v
  pub look_passed : Works u v s [] → (knows v s).placing ≡ (knows u s).placing → Works v w s [] → Holds (knows u s).placing key → Passed l (knows u s).facts key n
      → IfNone o (Uses (knows u s).placing (knows w s).placing (one (knows w s).placing.has_key) × Holds (knows w s).placing key × Passed l (knows w s).facts key (n + 1))
  look_passed a same b holds p = if_none o (λ h. let still = h.1 (look_holds (knows u s).placing (knows v s).placing (knows w s).placing same key holds) in (
    look_still (knows u s).placing (knows v s).placing (knows w s).placing same still,
    subst (λ (z : Placing). Holds z key) (sym (still ∙ same)) holds,
    passed_one l u v w s key n q r a b at h.0 p,
  )) other

  -- or a claim that was lost, v, with a record in hand
  pub lost_passed : Works u v s [] → HasOne (knows u s).placing key → (knows v s).placing ≡ (knows u s).placing → Works v w s [] → Passed l (knows u s).facts key n
      → IfNone o (HasOne (knows w s).placing key × Passed l (knows w s).facts key (n + 1))
  lost_passed a has is b passed = if_none o (λ h. let still = h.1 (inr (subst (λ (z : Placing). HasOne z key) (sym is) has)) in (
    subst (λ (z : Placing). HasOne z key) (sym (still ∙ is)) has,
    passed_one l u v w s key n q r a b at h.0 passed,
  )) other

-- a record in hand that was drawn, v, and is in hand after the position, w
pub settled_passed : (l : Limits) (u v w : View) (s key n : ℕ) (o : Option RecordId) → Uses (knows u s).placing (knows v s).placing 1 → (knows w s).placing.drawn ≡ (knows v s).placing.drawn → IfNone o (HasOne (knows w s).placing key × Passed l (knows w s).facts key (n + 1))
    → IfNone o (Uses (knows u s).placing (knows w s).placing (one (knows w s).placing.has_key) × Holds (knows w s).placing key × Passed l (knows w s).facts key (n + 1))
settled_passed l u v w s key n o a same h = if_none o (λ t. (settled_still (knows u s).placing (knows v s).placing (knows w s).placing a same t.0.keyed, inr t.0, t.1)) h

-- ---- where a call is refused

pub finds_of_err : {T E : Type 0} → (o : Result T E) → IsErr o → (FullRecords ∷ []) ≡ full_finds o
finds_of_err (Ok x) e = absurd (true≢false (sym e))
finds_of_err (Err x) e = refl

pub on_err : {T E P : Type 0} → (o : Result T E) → P → OnErr o P
on_err (Ok x) p = search rules
on_err (Err x) p = p

pub none_is : {T P : Type 0} → (o : Option T) → o ≡ None → IfNone o P → P
none_is {T} {P} o e h = subst (λ (z : Option T). IfNone z P) e h

-- ---- the whole placing

-- the records drawn in all
pub drew_of : (p q : Placing) (m : ℕ) → Uses p q m → Drew p q m
drew_of p q m a = record { drew = a.drew; drawn = a.drawn; few = let e = a.few in omega arith }

-- a key that is unseen after a search was before it
unseen_before : (v w : View) (s key : ℕ) (finds : List Find) → Works v w s finds → IsUnseen (knows w s) key → IsUnseen (knows v s) key
unseen_before v w s key finds a u = let t = subst (λ (k : Known). IsUnseen k key) a.view.now u in record { commits = t.commits; own = t.own }

-- a look that found the key's run ended
pub looked_first : (v t w : View) (s key : ℕ) → hosts v s ≡ true → s < v.limits.sessions → Works v t s [] → (knows t s).placing ≡ (knows v s).placing → EndedSince v t s key → DrawsAfterLook v w s key
looked_first v t w s key host low a same ended = inr record { then = t; before = a; drawn = ap (λ (p : Placing). p.drawn) same; ended = ended; unseen = unseen_before v t s key [] a (ended_unseen t s key (works_host v t s [] a host) (subst (λ (l : Limits). s < l.sessions) (sym a.view.limits) low) ended.ended) }

pub looked_on : (u v w : View) (s key : ℕ) → Works u v s [] → DrawsAfterLook u v s key → DrawsAfterLook v w s key → DrawsAfterLook u w s key
looked_on u v w s key a (inr x) b = inr x
looked_on u v w s key a (inl e) (inl f) = inl (f ∙ e)
looked_on u v w s key a (inl e) (inr x) = inr record { then = x.then; before = works_on u v x.then s [] a x.before; drawn = x.drawn ∙ e; ended = ended_since u v x.then s key a x.ended; unseen = unseen_before u v s key [] a x.unseen }

pub place_on : (store : Store) (v : View) (seat on : Sitting) (s key n : ℕ) → Places store v seat s key n → Works seat.view on.view s [] → IsSeatOf store on
    → Uses (knows seat.view s).placing (knows on.view s).placing (one (knows on.view s).placing.has_key) × Holds (knows on.view s).placing key × Passed store.layout.limits (knows on.view s).facts key (n + 1)
    → (seat.view.whole ≡ true → (knows seat.view s).placing.hand ≡ 0 → Rests seat.view on.view s) → DrawsAfterLook seat.view on.view s key → Places store v on s key (n + 1)
place_on store v seat on s key n p a seat_of h rests look = record {
  seat_of = seat_of;
  host = works_host seat.view on.view s [] a p.host;
  works = works_on v seat.view on.view s [] p.works a;
  rests = λ whole. let before = p.rests whole in let now = rests (p.works.view.whole ∙ whole) before.free in record { words = now.words ∙ before.words; free = now.free };
  uses = uses_on (knows v s).placing (knows seat.view s).placing (knows on.view s).placing (one (knows on.view s).placing.has_key) p.uses h.0;
  holds = h.1;
  passed = h.2;
  after_look = looked_on v seat.view on.view s key p.works p.after_look look;
}

pub place_first : (store : Store) (seat : Sitting) (s key : ℕ) → IsSeatOf store seat → hosts seat.view s ≡ true → s < seat.view.limits.sessions → (knows seat.view s).placing.hand ≡ 0 → Possible seat.view → Places store seat.view seat s key 0
place_first store seat s key seat_of host low free p = let none = idle seat.view s host low p free in record {
  seat_of = seat_of;
  host = host;
  works = works_none seat.view s;
  rests = λ whole. record { words = refl; free = free };
  uses = uses_same (knows seat.view s).placing (knows seat.view s).placing (one (knows seat.view s).placing.has_key) refl (omega arith);
  holds = inl (free, none);
  passed = λ i h. absurd (omega arith);
  after_look = inl refl;
}

-- and what a visit that ends it leaves
pub place_drew : (store : Store) (v : View) (seat : Sitting) (w : View) (s key n m : ℕ) → Places store v seat s key n → Uses (knows seat.view s).placing (knows w s).placing m → Drew (knows v s).placing (knows w s).placing m
place_drew store v seat w s key n m p a = drew_of (knows v s).placing (knows w s).placing m (uses_on (knows v s).placing (knows seat.view s).placing (knows w s).placing m p.uses a)

pub full_on : (u v w : View) (s key : ℕ) → Works u v s [] → FoundFull v w s key → FoundFull u w s key
full_on u v w s key a f = record {
  then = f.then;
  before = works_on u v f.then s [] a f.before;
  ended = ended_since u v f.then s key a f.ended;
  after = f.after;
  full = f.full;
  unseen = f.unseen;
}
