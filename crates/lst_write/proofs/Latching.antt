-- What a session has once it has tried to latch a record.
use Rattle.std.proofs.Common.{◌≡◌, ◌≢◌, ℕ, ◌+◌, ◌*◌, ◌/◌, ◌%◌, ◌^◌, ◌<◌, ◌≤◌, List, [], ◌∷◌, ◌++◌, Bool, true, false, cond, eqb, subst, ap, ◌∙◌, arith, eq-eqb, ne_eqb}
use Rattle.lst_layout.specs.declared.limits.Limits.{Limits}
use Rattle.lst_layout.specs.Words.{Words, shown}
use Rattle.lst_layout.specs.declared.place.Place.TheVariants.{HeadWord}
use Rattle.lst_core_state.specs.declared.known.Known.{Known}
use Rattle.lst_core_state.specs.declared.events.Event.TheVariants.{Latch}
use Rattle.lst_core_state.specs.declared.facts.Fact.TheVariants.{IndexAt}
use Rattle.lst_core_state.specs.Cells.{record_count}
use Rattle.lst_core_state.specs.Facts.{index_facts, chain_facts}
use Rattle.lst_core_state.specs.Step.{latched, latch_lost}
use Rattle.lst_core_state.proofs.Positions.{placed_holds}
use Rattle.lst_rule.specs.declared.view.View.{View}
use Rattle.lst_rule.specs.Rule.{knows, hosts, Allowed}
use Rattle.lst_rule.specs.Learned.{Learns, Kept, Possible, CanStand, Met}
use Rattle.lst_rule.proofs.Knowing.{is_fact, knows_own}
use Rattle.lst_rule.proofs.Learning.{kept_by}
use Rattle.lst_rule.specs.Copies.{Version, Leads}
use Rattle.lst_rule.specs.Loads.{ChainFound}
use Rattle.lst_rule.proofs.Finding.{latches_find_chains}
use Rattle.lst_write.specs.Holding.{IsPlaced, Latches, FindsLatched}

-- a record of the index is one of the store
pub record_low : (v : View) (s rec : ℕ) → Possible v → hosts v s ≡ true → IsPlaced (knows v s) rec → rec < record_count v.limits
record_low v s rec p hosted placed = let has = placed.1 in let f = is_fact v p.words p.known p.merger p.allowed s hosted (IndexAt has.0 rec placed.0) has.1 in let is = f.0 in
    let few = (p.allowed.sound.index.filled has.0 (omega arith)).few in omega arith

-- and may be latched
pub may_latch : (v : View) (s rec : ℕ) → hosts v s ≡ true → IsPlaced (knows v s) rec → CanStand v (Latch s rec)
may_latch v s rec hosted placed words known merger a = let has = placed.1 in let f = is_fact v words known merger a s hosted (IndexAt has.0 rec placed.0) has.1 in let is = f.0 in
    placed_holds v.limits (shown v.limits words).index rec has.0 (a.sound.index.filled has.0 (omega arith)).position is

-- where a view hosts every session, and none of them has the latch of the record, its latch bit is clear
free_latch : (v : View) (words : List ℕ) (known : ℕ → Known) (merger : Known) → Allowed v words known merger → (rec : ℕ) → rec < record_count v.limits → ((t : ℕ) → t < v.limits.sessions → (hosts v t ≡ true) × ((knows v t).hold.latch ≢ rec + 1)) → (shown v.limits words).heads rec % 2 ≢ 1
free_latch v words known merger a rec low free odd = let h = a.sound.versions.held rec low odd in let q = free h.0 h.1 in
    q.1 (ap (λ (u : Known). u.hold.latch) (knows_own v words known merger a h.0 q.0 (λ e. let below = h.1 in omega arith)) ∙ h.2)

module _ (v w : View) (s rec x y : ℕ) (hosted : hosts v s ≡ true) (m : Met v w (Latch s rec) (HeadWord rec) x y) where
  abbrev W : Words
  W = shown v.limits m.made.told.words

  abbrev k : Known
  k = knows v s

  found : ChainFound w.limits (knows w s) s rec (y / 2)
  found = latches_find_chains v w s rec x y hosted m

  learns : (b : Bool) → eqb (W.heads rec % 2) 0 ≡ b → Learns v w s (cond b (latched v.limits W k rec) (latch_lost v.limits W k rec))
  learns b e = subst (λ (z : Bool). Learns v w s (cond z (latched v.limits W k rec) (latch_lost v.limits W k rec))) e m.made.view

  pub latch_won : y % 2 ≡ 0 → Latches v w s rec (y / 2)
  latch_won even = record {
    facts = index_facts v.limits W ++ chain_facts v.limits W rec;
    view = subst (λ (z : ℕ). Learns v w s (record k { hold = record { latch = rec + 1; head = z / 2; tail = 0; is_whole = false }; latched = k.latched ++ rec ∷ []; facts = k.facts ++ (index_facts v.limits W ++ chain_facts v.limits W rec) })) m.found
        (learns true (eq-eqb (W.heads rec % 2) 0 (ap (λ (z : ℕ). z % 2) m.found ∙ even)));
    chain = found;
  }

  pub latch_taken : y % 2 ≡ 1 → FindsLatched v w s rec
  latch_taken odd = record {
    facts = chain_facts v.limits W rec;
    view = learns false (ne_eqb (W.heads rec % 2) 0 (λ e. let f = m.found in omega arith));
  }

  pub latch_free : rec < record_count v.limits → ((t : ℕ) → t < v.limits.sessions → (hosts v t ≡ true) × ((knows v t).hold.latch ≢ rec + 1)) → y % 2 ≢ 1
  latch_free low free odd = let t = m.made.told in free_latch v t.words t.known t.merger t.allowed rec low free (ap (λ (z : ℕ). z % 2) m.found ∙ odd)

-- a latch that is set leaves the word
pub latch_keeps : (v w : View) (s rec y : ℕ) → Met v w (Latch s rec) (HeadWord rec) (2 * (y / 2) + 1) y → y % 2 ≡ 1 → Kept v w
latch_keeps v w s rec y m odd = kept_by v w (Latch s rec) (HeadWord rec) y (subst (λ (x : ℕ). Met v w (Latch s rec) (HeadWord rec) x y) (let e : 2 * (y / 2) + 1 ≡ y = omega arith in e) m)

-- the newest version's number is at most the number of tails
head_few : (l : Limits) (range n : ℕ) (copy : List Version) → Leads l range n copy → n ≤ l.tails
head_few l range n [] leads = let e : n ≡ 0 = leads in omega arith
head_few l range n (c ∷ cs) leads = leads.1

pub word_few : (v w : View) (s rec x y : ℕ) → hosts v s ≡ true → Met v w (Latch s rec) (HeadWord rec) x y → y < 2 ^ 33
word_few v w s rec x y hosted m = let c = found v w s rec x y hosted m in let h = head_few w.limits (rec / 256) (y / 2) c.copy c.is.chain.leads in
    let few = m.made.told.after.sound.sized.tails.1 in omega arith
