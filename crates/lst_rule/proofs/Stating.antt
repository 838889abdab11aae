-- What a load of a state word tells of a transaction's status, and what the question leaves.
use Rattle.std.proofs.Common.{◌≡◌, ◌⊎◌, ⊎_elim, ℕ, ◌+◌, ◌-◌, ◌<◌, List, [], ◌∷◌, ◌++◌, length, cond, eqb, refl, sym, subst, ap, ◌∙◌, arith, inl, inr, append_assoc, append-nil}
use Rattle.lst_layout.specs.declared.limits.Limits.{Limits}
use Rattle.lst_layout.specs.declared.place.Place.TheVariants.{StateWord}
use Rattle.lst_model.specs.declared.commits.Commit.{Commit}
use Rattle.lst_core_state.specs.declared.known.Known.{Known}
use Rattle.lst_core_state.specs.declared.known.Stage.{Stage}
use Rattle.lst_core_state.specs.declared.known.Stage.TheVariants.{Away, Taken, Fresh, Logged, Stated, Done}
use Rattle.lst_core_state.specs.declared.facts.Fact.TheVariants.{StateAt}
use Rattle.lst_core_state.specs.declared.facts.Find.TheVariants.{FreshClock}
use Rattle.lst_core_state.specs.Facts.{active_find, early_find}
use Rattle.lst_core_state.specs.State.{mine}
use Rattle.lst_core_state.specs.Step.{refreshed}
use Rattle.lst_core_state.proofs.Histories.{starts_trans, starts_whole}
use Rattle.lst_rule.specs.declared.view.View.{View}
use Rattle.lst_rule.specs.Rule.{knows}
use Rattle.lst_rule.specs.Learned.{Learns}
use Rattle.lst_rule.proofs.Learning.{learns_on, learns_same, kept_same, kept_on}
use Rattle.lst_rule.specs.declared.status.Status.{Status}
use Rattle.lst_rule.specs.declared.status.Status.TheVariants.{Empty, Unfinished, Closed, Committed}
use Rattle.lst_rule.specs.Stores.{Looked, Clocked}
use Rattle.lst_rule.specs.Statuses.{stated, SaysCommitted, SaysAt, SaysAfter, Says, Asked}

-- what the load leaves
pub states : (v u : View) (s j n x : ℕ) → Looked v u s (StateWord j n) x → SaysAt v u s j n x
states v u s j n x k = record { load = k; view = subst (λ (y : ℕ). Learns v u s (stated (knows v s) j n y)) k.met.found k.view }

-- of a state that is a commit's
pub says : (v u w : View) (s j n x : ℕ) → Looked v u s (StateWord j n) x → 1 < x → (status : Status) → SaysCommitted u w s j n (x - 1) status → Says v w s j n status
says v u w s j n x k above Empty h = absurd h
says v u w s j n x k above (Unfinished a b) h = (h.0, h.1, inr (x, record { between = u; state = states v u s j n x k; above = above; says = h }))
says v u w s j n x k above Closed h = absurd h
says v u w s j n x k above (Committed t) h = let e : x ≡ t + 1 = (let a = h.0 in omega arith) in
    subst (λ (y : ℕ). SaysAfter v w s j n y (Committed t)) e record { between = u; state = states v u s j n x k; above = above; says = h }

-- of one that is none: x is the number that it was found as
pub says_now : (v u : View) (s j n x y : ℕ) → Looked v u s (StateWord j n) x → x ≡ y → SaysAt v u s j n y
says_now v u s j n x y k e = subst (SaysAt v u s j n) e (states v u s j n x k)

-- ---- what the question leaves

pub asked_same : (v : View) (s : ℕ) → Asked v v s
asked_same v s = record {
  facts = [];
  finds = [];
  view = subst (Learns v v s) (λ i. record (knows v s) { facts = sym (append-nil (knows v s).facts) i; finds = sym (append-nil (knows v s).finds) i }) (learns_same v s);
  grows = starts_whole (knows v s).seen (knows v s).seen refl;
  turn = inl refl;
  own = λ low. refl;
  kept = kept_same v;
}

-- a load of a state word
pub asked_state : (v w : View) (s j n x : ℕ) → Looked v w s (StateWord j n) x → Asked v w s
asked_state v w s j n x k = record {
  facts = cond (eqb x 0) [] (StateAt j n x ∷ []);
  finds = active_find (knows v s) j n x;
  view = subst (λ (m : Known). Learns v w s (record (knows v s) { seen = m.seen; turn = m.turn; facts = (knows v s).facts ++ cond (eqb x 0) [] (StateAt j n x ∷ []); finds = (knows v s).finds ++ active_find (knows v s) j n x; looks = m.looks })) (sym is.now) is;
  grows = starts_whole (knows w s).seen (knows v s).seen (ap (λ (m : Known). m.seen) is.now);
  turn = inl (ap (λ (m : Known). m.turn) is.now);
  own = λ low. ap (mine s) is.now;
  kept = k.kept;
}
  where
    is : Learns v w s (stated (knows v s) j n x)
    is = (states v w s j n x k).view

-- a load of the clock
pub asked_clock : (v w : View) (s x : ℕ) → Clocked v w s x → Asked v w s
asked_clock v w s x c = record {
  facts = c.index;
  finds = FreshClock (length c.all) ∷ early_find (knows v s) (length c.all);
  view = subst (λ (m : Known). Learns v w s (record (knows v s) { seen = m.seen; turn = m.turn; facts = (knows v s).facts ++ c.index; finds = (knows v s).finds ++ FreshClock (length c.all) ∷ early_find (knows v s) (length c.all); looks = m.looks })) (sym c.view.now) c.view;
  grows = subst (λ (m : Known). (rest : List Commit) × (m.seen ≡ (knows v s).seen ++ rest)) (sym c.view.now) c.grows;
  turn = inr (ap (λ (m : Known). m.turn) c.view.now);
  own = c.own;
  kept = c.looked.kept;
}

twice : (k : Stage) → refreshed (refreshed k) ≡ refreshed k
twice Away = refl
twice Taken = refl
twice Fresh = refl
twice Logged = refl
twice Stated = refl
twice Done = refl

turns_on : (a b c : Stage) → (b ≡ a) ⊎ (b ≡ refreshed a) → (c ≡ b) ⊎ (c ≡ refreshed b) → (c ≡ a) ⊎ (c ≡ refreshed a)
turns_on a b c p q = ⊎_elim
    (λ (e : c ≡ b). subst (λ (k : Stage). (k ≡ a) ⊎ (k ≡ refreshed a)) (sym e) p)
    (λ (e : c ≡ refreshed b). inr (e ∙ ⊎_elim (λ (f : b ≡ a). ap refreshed f) (λ (f : b ≡ refreshed a). ap refreshed f ∙ twice a) p)) q

pub asked_on : (u v w : View) (s : ℕ) → Asked u v s → Asked v w s → Asked u w s
asked_on u v w s a b = record {
  facts = a.facts ++ b.facts;
  finds = a.finds ++ b.finds;
  view = subst (Learns u w s) (λ i. record (knows u s) {
    seen = (knows w s).seen;
    turn = (knows w s).turn;
    facts = append_assoc (knows u s).facts a.facts b.facts i;
    finds = append_assoc (knows u s).finds a.finds b.finds i;
    looks = (knows w s).looks;
  }) (subst (λ (k : Known). Learns u w s (record k { seen = (knows w s).seen; turn = (knows w s).turn; facts = k.facts ++ b.facts; finds = k.finds ++ b.finds; looks = (knows w s).looks })) a.view.now (learns_on u v w s _ _ a.view b.view));
  grows = starts_trans (knows w s).seen (knows v s).seen (knows u s).seen b.grows a.grows;
  turn = turns_on (knows u s).turn (knows v s).turn (knows w s).turn a.turn b.turn;
  own = λ low. b.own (subst (λ (l : Limits). s < l.sessions) (sym a.view.limits) low) ∙ a.own low;
  kept = kept_on u v w a.view.whole a.kept b.kept;
}
