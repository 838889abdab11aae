-- What loads leave of what the merger knows, one after another.
use Rattle.std.proofs.Common.{◌≡◌, ◌⊎◌, ⊎_elim, ℕ, List, [], ◌∷◌, ◌++◌, cond, eqb, ◌&&◌, Contains, refl, sym, subst, ap, ◌∙◌, arith, inl, inr, append_assoc, append-nil}
use Rattle.std.proofs.lemmas.List.Elements.{Contains-append_left}
use Rattle.lst_layout.specs.declared.place.Place.{Place}
use Rattle.lst_layout.specs.declared.place.Place.TheVariants.{TailCounter, CellWord}
use Rattle.lst_layout.specs.Words.{Words, shown}
use Rattle.lst_core_state.specs.declared.facts.Fact.{Fact}
use Rattle.lst_core_state.specs.declared.facts.Fact.TheVariants.{TailsAtLeast}
use Rattle.lst_core_state.specs.declared.facts.Find.{Find}
use Rattle.lst_core_state.specs.declared.facts.Find.TheVariants.{FullTails, CountedTails, EmptyStart, TailLoad}
use Rattle.lst_core_state.specs.declared.known.Counter.{Counter}
use Rattle.lst_core_state.specs.declared.known.Known.{Known}
use Rattle.lst_core_state.specs.declared.known.Stage.{Stage}
use Rattle.lst_core_state.specs.declared.known.Stage.TheVariants.{Away, Taken, Fresh, Logged, Stated, Done}
use Rattle.lst_core_state.specs.Facts.{stored_fact, commit_fact, range_facts}
use Rattle.lst_core_state.specs.Step.{look_at, refreshed, is_reading, if_full}
use Rattle.lst_core_state.proofs.Histories.{starts_trans, starts_whole}
use Rattle.lst_rule.specs.declared.view.View.{View}
use Rattle.lst_rule.specs.Rule.{knows}
use Rattle.lst_rule.specs.Learned.{Learns, Kept}
use Rattle.lst_rule.specs.Statuses.{Asked, FoundSince}
use Rattle.lst_rule.specs.Stores.{Looked}
use Rattle.lst_rule.proofs.Learning.{learns_on, learns_same, kept_same, kept_on}
use Rattle.lst_merge.specs.Inspections.{inspected, Inspects}

-- nothing was learnt
pub inspects_still : (v w : View) (s : ℕ) → Learns v w s (knows v s) → Kept v w → Inspects v w s
inspects_still v w s learns kept = record {
  facts = [];
  finds = [];
  view = subst (λ (m : Known). Learns v w s (inspected (knows v s) m [] [])) (sym learns.now)
      (subst (Learns v w s) (λ i. record (knows v s) { facts = sym (append-nil (knows v s).facts) i; finds = sym (append-nil (knows v s).finds) i }) learns);
  grows = starts_whole (knows w s).seen (knows v s).seen (ap (λ (m : Known). m.seen) learns.now);
  turn = inl (ap (λ (m : Known). m.turn) learns.now);
  kept = kept;
}

pub inspects_same : (v : View) (s : ℕ) → Inspects v v s
inspects_same v s = inspects_still v v s (learns_same v s) (kept_same v)

twice : (k : Stage) → refreshed (refreshed k) ≡ refreshed k
twice Away = refl
twice Taken = refl
twice Fresh = refl
twice Logged = refl
twice Stated = refl
twice Done = refl

pub turns_on : (a b c : Stage) → (b ≡ a) ⊎ (b ≡ refreshed a) → (c ≡ b) ⊎ (c ≡ refreshed b) → (c ≡ a) ⊎ (c ≡ refreshed a)
turns_on a b c p q = ⊎_elim
    (λ (e : c ≡ b). subst (λ (k : Stage). (k ≡ a) ⊎ (k ≡ refreshed a)) (sym e) p)
    (λ (e : c ≡ refreshed b). inr (e ∙ ⊎_elim (λ (f : b ≡ a). ap refreshed f) (λ (f : b ≡ refreshed a). ap refreshed f ∙ twice a) p)) q

pub inspects_on : (u v w : View) (s : ℕ) → Inspects u v s → Inspects v w s → Inspects u w s
inspects_on u v w s a b = record {
  facts = a.facts ++ b.facts;
  finds = a.finds ++ b.finds;
  view = subst (Learns u w s) (λ i. record (knows u s) {
    seen = (knows w s).seen;
    turn = (knows w s).turn;
    counters = (knows w s).counters;
    facts = append_assoc (knows u s).facts a.facts b.facts i;
    finds = append_assoc (knows u s).finds a.finds b.finds i;
    looks = (knows w s).looks;
  }) (subst (λ (k : Known). Learns u w s (inspected k (knows w s) b.facts b.finds)) a.view.now (learns_on u v w s _ _ a.view b.view));
  grows = starts_trans (knows w s).seen (knows v s).seen (knows u s).seen b.grows a.grows;
  turn = turns_on (knows u s).turn (knows v s).turn (knows w s).turn a.turn b.turn;
  kept = kept_on u v w a.view.whole a.kept b.kept;
}

-- a question for a status
pub inspects_asked : (v w : View) (s : ℕ) → Asked v w s → Inspects v w s
inspects_asked v w s a = record {
  facts = a.facts;
  finds = a.finds;
  view = subst (λ (cs : List Counter). Learns v w s (record (knows v s) { seen = (knows w s).seen; turn = (knows w s).turn; counters = cs; facts = (knows v s).facts ++ a.facts; finds = (knows v s).finds ++ a.finds; looks = (knows w s).looks }))
      (sym (ap (λ (m : Known). m.counters) a.view.now)) a.view;
  grows = a.grows;
  turn = a.turn;
  kept = a.kept;
}

-- a load that adds facts and finds
inspects_load : (v w : View) (s x : ℕ) (p : Place) (facts : List Fact) (finds : List Find) (k : Looked v w s p x)
    → (let m : Known = look_at v.limits (shown v.limits k.met.made.told.words) (knows v s) p in (m ≡ inspected (knows v s) m facts finds) × (m.seen ≡ (knows v s).seen) × (m.turn ≡ (knows v s).turn)) → Inspects v w s
inspects_load v w s x p facts finds k is = record {
  facts = facts;
  finds = finds;
  view = subst (λ (m : Known). Learns v w s (inspected (knows v s) m facts finds)) (sym k.view.now) (subst (Learns v w s) is.0 k.view);
  grows = starts_whole (knows w s).seen (knows v s).seen (ap (λ (m : Known). m.seen) k.view.now ∙ is.1);
  turn = inl (ap (λ (m : Known). m.turn) k.view.now ∙ is.2);
  kept = k.kept;
}

-- of a word of a tail
pub inspects_cell : (v w : View) (s t p x : ℕ) → Looked v w s (CellWord t p) x → Inspects v w s
inspects_cell v w s t p x k = let W : Words = shown v.limits k.met.made.told.words in
    inspects_load v w s x (CellWord t p) (stored_fact v.limits W t ++ commit_fact W.log (W.cells t 0)) (TailLoad t ∷ cond (eqb p 0 && eqb (W.cells t 0) 0) (EmptyStart t ∷ []) []) k (refl, refl, refl)

-- of a tail counter
pub inspects_counter : (v w : View) (s range x : ℕ) → Looked v w s (TailCounter range) x → Inspects v w s
inspects_counter v w s range x k = let W : Words = shown v.limits k.met.made.told.words in
    inspects_load v w s x (TailCounter range) (TailsAtLeast range (W.counts range) ∷ cond (is_reading (knows v s)) (range_facts v.limits W range) []) (CountedTails range (W.counts range) ∷ cond (is_reading (knows v s)) [] (if_full v.limits.tails (W.counts range) (FullTails range))) k (refl, refl, refl)

-- which is found
pub counter_found : (v w : View) (s range x : ℕ) → Looked v w s (TailCounter range) x → FoundSince (knows v s) (knows w s) (CountedTails range x)
counter_found v w s range x k = subst (λ (y : ℕ). FoundSince (knows v s) (knows w s) (CountedTails range y)) k.met.found (let W : Words = shown v.limits k.met.made.told.words in
    (CountedTails range (W.counts range) ∷ cond (is_reading (knows v s)) [] (if_full v.limits.tails (W.counts range) (FullTails range)), ap (λ (m : Known). m.finds) k.view.now, (0, omega arith, refl)))

-- facts and finds stay
module _ (v w : View) (s : ℕ) (a : Inspects v w s) where
  pub facts_stay : (f : Fact) → Contains (knows v s).facts f → Contains (knows w s).facts f
  facts_stay f h = subst (λ (k : Known). Contains k.facts f) (sym a.view.now) (Contains-append_left (knows v s).facts a.facts f h)
