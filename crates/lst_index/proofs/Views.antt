-- What a session knows after a few steps of a search.
use Rattle.std.proofs.Common.{◌≡◌, ℕ, ◌<◌, ◌≤◌, List, [], ◌++◌, Bool, true, false, sym, subst, ap, ◌∙◌, arith, append_assoc, append-nil, length-append, slice_index_or, inl, inr, ⊎_elim}
use Rattle.std.specs.List.{Contains}
use Rattle.std.proofs.lemmas.List.Elements.{Contains-append_left}
use Rattle.lst_core_state.specs.declared.known.Known.{Known}
use Rattle.lst_core_state.specs.declared.known.Placing.{Placing}
use Rattle.lst_core_state.specs.declared.facts.Fact.{Fact}
use Rattle.lst_core_state.specs.declared.facts.Find.{Find}
use Rattle.lst_rule.specs.declared.view.View.{View}
use Rattle.lst_rule.specs.Rule.{knows, hosts}
use Rattle.lst_rule.specs.Learned.{Learns}
use Rattle.lst_rule.proofs.Learning.{learns_on, learns_same}
use Rattle.lst_index.specs.Searches.{Works, Keeps}
use Rattle.lst_index.specs.Visits.{one, Uses}

-- what the session knew, but for these
abbrev pub reworked : Known → Placing → List Fact → List Find → ℕ → Known
reworked k p more finds last = record k { placing = p; facts = k.facts ++ more; finds = k.finds ++ finds; looks = record k.looks { index = last } }

pub works_of : (v w : View) (s : ℕ) (p : Placing) (more : List Fact) (finds : List Find) (last : ℕ) → Learns v w s (reworked (knows v s) p more finds last) → Works v w s finds
works_of v w s p more finds last h = record {
  more = more;
  view = subst (λ (u : Known). Learns v w s (reworked (knows v s) u.placing more finds u.looks.index)) (sym h.now) h;
}

pub works_on : (u v w : View) (s : ℕ) (finds : List Find) → Works u v s [] → Works v w s finds → Works u w s finds
works_on u v w s finds a b = record {
  more = a.more ++ b.more;
  view = subst (Learns u w s) (λ i. record (knows u s) {
    placing = (knows w s).placing;
    facts = append_assoc (knows u s).facts a.more b.more i;
    finds = (ap (λ (fs : List Find). fs ++ finds) (append-nil (knows u s).finds)) i;
    looks = record (knows u s).looks { index = (knows w s).looks.index };
  }) (subst (λ (k : Known). Learns u w s (reworked k (knows w s).placing b.more finds (knows w s).looks.index)) a.view.now (learns_on u v w s _ _ a.view b.view));
}

pub works_none : (v : View) (s : ℕ) → Works v v s []
works_none v s = works_of v v s (knows v s).placing [] [] (knows v s).looks.index
    (subst (Learns v v s) (λ i. record (knows v s) { facts = sym (append-nil (knows v s).facts) i; finds = sym (append-nil (knows v s).finds) i }) (learns_same v s))

pub works_stay : (v w : View) (s : ℕ) (finds : List Find) → Works v w s finds → (f : Fact) → Contains (knows v s).facts f → Contains (knows w s).facts f
works_stay v w s finds a f h = subst (λ (k : Known). Contains k.facts f) (sym a.view.now) (Contains-append_left (knows v s).facts a.more f h)

pub works_host : (v w : View) (s : ℕ) (finds : List Find) → Works v w s finds → hosts v s ≡ true → hosts w s ≡ true
works_host v w s finds a h = ap (λ (bs : List Bool). slice_index_or bs s false) a.view.hosted ∙ h

-- ---- the record in hand

pub keeps_same : (p q : Placing) → q ≡ p → Keeps p q
keeps_same p q e = inl e

pub keeps_on : (p q r : Placing) → Keeps p q → Keeps q r → Keeps p r
keeps_on p q r a b = ⊎_elim
    (λ (e : r ≡ q). subst (Keeps p) (sym e) a)
    (λ (t : (0 < q.hand) × (r ≡ record q { hand = 0; has_key = false })). ⊎_elim
    (λ (e : q ≡ p). inr (subst (λ (z : Placing). (0 < z.hand) × (r ≡ record z { hand = 0; has_key = false })) e t))
    (λ (f : (0 < p.hand) × (q ≡ record p { hand = 0; has_key = false })). absurd (let h = t.0 in let g = ap (λ (z : Placing). z.hand) f.1 in omega arith)) a) b

pub keeps_free : (p q : Placing) → p.hand ≡ 0 → Keeps p q → q ≡ p
keeps_free p q free a = ⊎_elim (λ (e : q ≡ p). e) (λ (t : (0 < p.hand) × (q ≡ record p { hand = 0; has_key = false })). absurd (let h = t.0 in omega arith)) a

pub uses_on : (p q r : Placing) (m : ℕ) → Uses p q (one q.has_key) → Uses q r m → Uses p r m
uses_on p q r m a b = record {
  drew = a.drew ++ b.drew;
  drawn = b.drawn ∙ (ap (λ (ds : List ℕ). ds ++ b.drew) a.drawn ∙ append_assoc p.drawn a.drew b.drew);
  few = let e = length-append a.drew b.drew in let x = a.few in let y = b.few in omega arith;
}

one_low : (b : Bool) → one b ≤ 1
one_low true = omega arith
one_low false = omega arith

pub uses_more : (p q : Placing) (m n : ℕ) → m ≤ n → Uses p q m → Uses p q n
uses_more p q m n h a = record { drew = a.drew; drawn = a.drawn; few = let x = a.few in omega arith }

pub uses_one : (p q : Placing) (b : Bool) → Uses p q (one b) → Uses p q 1
uses_one p q b a = uses_more p q (one b) 1 (one_low b) a

-- none was drawn, and the key in hand is no other
pub uses_same : (p q : Placing) (m : ℕ) → q.drawn ≡ p.drawn → one p.has_key ≤ m → Uses p q m
uses_same p q m e few = record { drew = []; drawn = e ∙ sym (append-nil p.drawn); few = omega arith }

-- ---- steps that find nothing

pub works_plain : (v w : View) (s : ℕ) (p : Placing) (more : List Fact) (last : ℕ) → Learns v w s (let k = knows v s in record k { placing = p; facts = k.facts ++ more; looks = record k.looks { index = last } }) → Works v w s []
works_plain v w s p more last h = let k : Known = knows v s in works_of v w s p more [] last (subst (Learns v w s) (λ i. record k { placing = p; facts = k.facts ++ more; finds = sym (append-nil k.finds) i; looks = record k.looks { index = last } }) h)

pub works_placing : (v w : View) (s : ℕ) (p : Placing) → Learns v w s (record (knows v s) { placing = p }) → Works v w s []
works_placing v w s p h = let k : Known = knows v s in works_plain v w s p [] k.looks.index (subst (Learns v w s) (λ i. record k { placing = p; facts = sym (append-nil k.facts) i }) h)

pub uses_keeps : (p q : Placing) → Keeps p q → Uses p q (one p.has_key)
uses_keeps p q a = ⊎_elim (λ (e : q ≡ p). uses_same p q (one p.has_key) (ap (λ (z : Placing). z.drawn) e) (omega arith)) (λ (t : (0 < p.hand) × (q ≡ record p { hand = 0; has_key = false })). uses_same p q (one p.has_key) (ap (λ (z : Placing). z.drawn) t.1) (omega arith)) a
