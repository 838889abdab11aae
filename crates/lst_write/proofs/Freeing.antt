-- What a session may do once it has given a latch back.
use Rattle.std.proofs.Common.{◌≡◌, ℕ, ◌-◌, ◌<◌, List, [], ◌∷◌, Bool, true, false, cond, nat_lt, length, sym, subst, ap, ◌∙◌, arith}
use Rattle.lst_layout.specs.declared.place.Place.{Place}
use Rattle.lst_layout.specs.Words.{Words, shown}
use Rattle.lst_model.specs.declared.acts.Write.{Write}
use Rattle.lst_model.specs.Histories.{joined}
use Rattle.lst_core_state.specs.Writes.{write}
use Rattle.lst_core_state.specs.declared.known.Known.{Known}
use Rattle.lst_core_state.specs.declared.known.Hold.{Hold}
use Rattle.lst_core_state.specs.declared.events.Event.{Event}
use Rattle.lst_core_state.specs.declared.events.Event.TheVariants.{Install, Release}
use Rattle.lst_core_state.specs.State.{rank, no_hold, act_in}
use Rattle.lst_core_state.specs.Step.{session_of}
use Rattle.lst_rule.specs.declared.actions.Action.TheVariants as action
use Rattle.lst_rule.specs.declared.view.View.{View}
use Rattle.lst_rule.specs.Rule.{knows, hosts, Told}
use Rattle.lst_rule.specs.Learned.{Made}
use Rattle.lst_rule.proofs.Knowing.{knows_own}
use Rattle.lst_write.specs.Holding.{MayLatch}

-- a session with a latch in hand may latch again without it
free_again : (v w : View) (e : Event) (i x : ℕ) → hosts v (session_of e) ≡ true → session_of e < v.limits.sessions → 0 < (knows v (session_of e)).hold.latch → Told (action.Core e) i x v w
    → (k : Known) → k.is_open ≡ (knows v (session_of e)).is_open → k.read_only ≡ (knows v (session_of e)).read_only → k.turn ≡ (knows v (session_of e)).turn → k.hold ≡ no_hold → MayLatch k
free_again v w e i x hosted own latch t k open_same writes_same turn_same hold_none = let s : ℕ = session_of e in
    let same : knows v s ≡ t.known s = knows_own v t.words t.known t.merger t.allowed s hosted (λ f. omega arith) in let hands = t.allowed.sound.versions.hands s own in
    let held : 0 < (t.known s).hold.latch = subst (λ (u : Known). 0 < u.hold.latch) same latch in record {
      on = open_same ∙ (ap (λ (u : Known). u.is_open) same ∙ hands.opened held);
      writes = writes_same ∙ (ap (λ (u : Known). u.read_only) same ∙ hands.writes held);
      away = ap rank turn_same ∙ (ap (λ (u : Known). rank u.turn) same ∙ hands.away held);
      free = ap (λ (h : Hold). h.latch) hold_none;
    }

pub install_frees : (v w : View) (s x : ℕ) (p : Place) → hosts v s ≡ true → s < v.limits.sessions → 0 < (knows v s).hold.latch → Made v w (Install s) p x → MayLatch (knows w s)
install_frees v w s x p hosted own latch made = free_again v w (Install s) _ x hosted own latch made.told (knows w s) (ap (λ (u : Known). u.is_open) made.view.now) (ap (λ (u : Known). u.read_only) made.view.now) (ap (λ (u : Known). u.turn) made.view.now)
    (ap (λ (u : Known). u.hold) made.view.now)

pub release_frees : (v w : View) (s x : ℕ) (p : Place) → hosts v s ≡ true → s < v.limits.sessions → 0 < (knows v s).hold.latch → Made v w (Release s) p x → MayLatch (knows w s)
release_frees v w s x p hosted own latch made = free_again v w (Release s) _ x hosted own latch made.told (knows w s) (ap (λ (u : Known). u.is_open) made.view.now) (ap (λ (u : Known). u.read_only) made.view.now) (ap (λ (u : Known). u.turn) made.view.now)
    (ap (λ (u : Known). u.hold) made.view.now)

joined_some : (ws : List Write) (x : Write) → 0 < length (joined ws x)
joined_some [] x = omega arith
joined_some (y ∷ ws) x = choose (nat_lt x.key y.key)
  where
    choose : (b : Bool) → 0 < length (cond b (x ∷ y ∷ ws) (y ∷ joined ws x))
    choose true = omega arith
    choose false = omega arith

-- it has an own write then
pub install_writes : (v w : View) (s x : ℕ) (p : Place) → Made v w (Install s) p x → 0 < length (knows w s).own
install_writes v w s x p made = let k : Known = knows v s in let W : Words = shown v.limits made.told.words in
    subst (λ (u : Known). 0 < length u.own) (sym made.view.now) (joined_some k.own (write (W.keys (k.hold.latch - 1)) (act_in v.limits W.cells k.hold.tail)))
