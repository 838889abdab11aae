-- Each kind of step keeps that the own writes are the versions of the open transaction.
use Rattle.std.proofs.Common.{◌≡◌, ◌≢◌, ℕ, ◌-◌, ◌<◌, List, [], ◌∷◌, ◌++◌, Bool, true, false, cond, refl, sym, subst, ap, ◌∙◌, arith, true≢false, eqb, eq-eqb, ne_eqb, ◌⊎◌, ⊎_elim, inl}
use mathlib.Core.Logic.{dite}
use native.Mathlib.Decide.{ℕ_discrete}
use Rattle.lst_layout.specs.Limits.{IsValid}
use Rattle.lst_layout.specs.Functions.{put}
use Rattle.lst_model.specs.Histories.{acts_on, joined}
use Rattle.lst_core_state.specs.Writes.{Rising, write}
use Rattle.lst_core_state.specs.Cells.{record_count}
use Rattle.lst_core_state.specs.Index.{is_placed}
use Rattle.lst_core_state.specs.State.{Words, writer_at, name_of, line, act_in}
use Rattle.lst_core_state.specs.Sound.{Versions, TimesOf, Each, OwnsOf, Owned}
use Rattle.lst_core_state.proofs.Functions.{each_put}
use Rattle.lst_core_state.proofs.Steps.{Same, act_same}
use Rattle.lst_core_state.proofs.CellsKept.{install_words, install_chain, install_other, install_writer, install_low}
use Rattle.lst_layout.specs.declared.limits.Limits.{Limits}
use Rattle.lst_model.specs.declared.acts.Act.{Act}
use Rattle.lst_core_state.specs.declared.known.Known.{Known}
use Rattle.lst_model.specs.declared.acts.Write.{Write}
use Rattle.lst_core_state.specs.Lists.{Has, acts}
use Rattle.lst_core_state.proofs.Lists.{acts_same, acts_none}
use Rattle.lst_core_state.proofs.Writes.{line_joined-here, line_joined-else, rising_joined}

-- the index as it was, or with a new record of a new key that has no versions
pub record Reindexed (l : Limits) (w w' : Words) : Type 0 where
  pub more : (r : ℕ) → is_placed l w.index r ≡ true → is_placed l w'.index r ≡ true
  pub kept : (r : ℕ) → is_placed l w.index r ≡ true → w'.keys r ≡ w.keys r
  pub new : (r : ℕ) → r < record_count l → is_placed l w'.index r ≡ true → (is_placed l w.index r ≡ true) ⊎ ((line l w r ≡ []) × ((p : ℕ) → p < record_count l → is_placed l w.index p ≡ true → w.keys p ≢ w'.keys r))

pub index_same : (l : Limits) (w w' : Words) → w'.keys ≡ w.keys → w'.index ≡ w.index → Reindexed l w w'
index_same l w w' e f = record { more = λ r is. ap (λ (g : ℕ → ℕ). is_placed l g r) f ∙ is; kept = λ r is. ap (λ (g : ℕ → ℕ). g r) e; new = λ r h is. inl (ap (λ (g : ℕ → ℕ). is_placed l g r) (sym f) ∙ is) }

module _ (l : Limits) (w w' : Words) where
  pub owns_closed : (j : ℕ) (v : Known) → v.is_open ≡ false → v.own ≡ [] → OwnsOf l w' j v
  owns_closed j v e f = record {
    none = λ _. f;
    rising = subst (λ (ws : List Write). Rising 0 ws) (sym f) tt;
    else = λ k _. ap (acts_on k) f;
    each = λ g. absurd (true≢false (sym g ∙ e));
  }

  -- no cell names a new transaction
  pub owns_begun : (j : ℕ) (v : Known) → v.is_open ≡ true → v.own ≡ [] → ((r : ℕ) → r < record_count l → (t : ℕ) → Has t (line l w' r) → writer_at w' t ≢ name_of j v.number) → OwnsOf l w' j v
  owns_begun j v e f apart = record {
    none = λ g. absurd (true≢false (sym e ∙ g));
    rising = subst (λ (ws : List Write). Rising 0 ws) (sym f) tt;
    else = λ k _. ap (acts_on k) f;
    each = λ _ r h _. ap (acts_on (w'.keys r)) f ∙ sym (acts_none (λ t. eqb (writer_at w' t) (name_of j v.number)) (act_in l w'.cells) (line l w' r) (λ t i. ne_eqb (writer_at w' t) (name_of j v.number) (apart r h t i)));
  }

  pub owns_step : (j : ℕ) (v v' : Known) → Reindexed l w w' → v'.own ≡ v.own → v'.is_open ≡ v.is_open → v'.number ≡ v.number → ((r : ℕ) → r < record_count l → line l w' r ≡ line l w r) → ((r : ℕ) → r < record_count l → (t : ℕ) → Has t (line l w r) → Same l w w' t) → OwnsOf l w j v → OwnsOf l w' j v'
  owns_step j v v' x e f g chain same o = record {
    none = λ h. e ∙ o.none (sym f ∙ h);
    rising = subst (λ (ws : List Write). Rising 0 ws) (sym e) o.rising;
    else = λ k none. ap (acts_on k) e ∙ o.else k (λ r h is d. none r h (x.more r is) (x.kept r is ∙ d));
    each = λ h r low is. ap (acts_on (w'.keys r)) e ∙ (⊎_elim (λ (was : is_placed l w.index r ≡ true). ap (λ (k : ℕ). acts_on k v.own) (x.kept r was) ∙ o.each (sym f ∙ h) r low was)
        (λ (q : (line l w r ≡ []) × ((p : ℕ) → p < record_count l → is_placed l w.index p ≡ true → w.keys p ≢ w'.keys r)). o.else (w'.keys r) q.1 ∙ sym (ap (acts (λ t. eqb (writer_at w t) (name_of j v.number)) (act_in l w.cells)) q.0)) (x.new r low is) ∙ sym (
        (λ i. acts (λ t. eqb (writer_at w' t) (name_of j (g i))) (act_in l w'.cells) (chain r low i))
        ∙ acts_same (λ t. eqb (writer_at w t) (name_of j v.number)) (λ t. eqb (writer_at w' t) (name_of j v.number)) (act_in l w.cells) (act_in l w'.cells) (line l w r)
        (λ t i. ap (λ (x : ℕ). eqb x (name_of j v.number)) (same r low t i).by) (λ t i _. act_same l w.cells w'.cells t (same r low t i).words)));
  }

pub owned_put : (l : Limits) (w w' : Words) (known : ℕ → Known) (s : ℕ) (v' : Known) → Reindexed l w w' → OwnsOf l w' s v' → ((r : ℕ) → r < record_count l → line l w' r ≡ line l w r) → ((r : ℕ) → r < record_count l → (t : ℕ) → Has t (line l w r) → Same l w w' t) → Owned l w known → Owned l w' (put known s v')
owned_put l w w' known s v' x mine chain same o = each_put (λ (j : ℕ) (u : Known). j < l.sessions → OwnsOf l w' j u) known s v' (λ _. mine) (λ j other h. owns_step l w w' j (known j) (known j) x refl refl refl chain same (o j h))

module _ (l : Limits) (w : Words) (known : ℕ → Known) (sized : IsValid l) (times : TimesOf l w) (each : Each l w known) (V : Versions l w known) (o : Owned l w known) where
  pub install_owned : (s : ℕ) (v' : Known) (low : s < l.sessions) (whole : (known s).hold.is_whole ≡ true) (linked : w.cells (known s).hold.tail 2 ≡ (known s).hold.head) → v'.number ≡ (known s).number → v'.is_open ≡ (known s).is_open → v'.own ≡ joined (known s).own (write (w.keys ((known s).hold.latch - 1)) (act_in l w.cells (known s).hold.tail))
      → Owned l (install_words l w known sized times each V s low whole linked) (put known s v')
  install_owned s v' low whole linked number is_open own = let v : Known = known s in let k = V.hands s low in let few = sized.sessions.1 in let r : ℕ = v.hold.latch - 1 in let tail : ℕ = v.hold.tail in let w' : Words = install_words l w known sized times each V s low whole linked in
      let key : ℕ = w.keys r in let x : Write = write key (act_in l w.cells tail) in let indexed : is_placed l w.index r ≡ true = k.index (k.holds (k.some whole)) in let og = o s low in let opened : v.is_open ≡ true = k.opened (k.holds (k.some whole)) in let act : ℕ → Act = act_in l w.cells in
      let chain : line l w' r ≡ tail ∷ line l w r = install_chain l w known sized times each V s low whole linked in let by : writer_at w tail ≡ name_of s v.number = install_writer l w known sized times each V s low whole linked in
      let in_records : r < record_count l = install_low l w known sized times each V s low whole linked in
      let else : (q : ℕ) → q < record_count l → q ≢ r → line l w' q ≡ line l w q = λ q h ne. (install_other l w known sized times each V s low whole linked q h ne).0 in
      each_put (λ (j : ℕ) (u : Known). j < l.sessions → OwnsOf l w' j u) known s v'
      (λ _. record {
        none = λ h. absurd (true≢false (sym opened ∙ sym is_open ∙ h));
        rising = subst (λ (ws : List Write). Rising 0 ws) (sym own) (rising_joined 0 v.own x (omega arith) og.rising);
        else = λ q none. ap (acts_on q) own ∙ (line_joined-else q v.own x (none r in_records indexed) ∙ og.else q none);
        each = λ _ q h is. let p : ℕ → Bool = λ t. eqb (writer_at w t) (name_of s v.number) in
            ap (acts_on (w.keys q)) own ∙ dite (ℕ_discrete q r)
            (λ e. subst (λ (y : ℕ). acts_on (w.keys y) (joined v.own x) ≡ acts p act (line l w' y)) (sym e)
            (line_joined-here 0 v.own x og.rising ∙ (ap (λ (a : List Act). a ++ act tail ∷ []) (og.each opened r in_records indexed)
            ∙ sym (ap (acts p act) chain ∙ ap (λ (b : Bool). cond b (acts p act (line l w r) ++ act tail ∷ []) (acts p act (line l w r))) (eq-eqb (writer_at w tail) (name_of s v.number) by)))))
            (λ ne. line_joined-else (w.keys q) v.own x (λ e. ne (V.keys_apart q r h in_records is indexed (sym e))) ∙ (og.each opened q h is ∙ ap (acts p act) (sym (else q h ne))))
            ∙ ap (λ (n : ℕ). acts (λ t. eqb (writer_at w t) (name_of s n)) act (line l w' q)) (sym number);
      })
      (λ j other h. let u : Known = known j in let oj = o j h in record {
        none = oj.none;
        rising = oj.rising;
        else = oj.else;
        each = λ e q hq is. let p : ℕ → Bool = λ t. eqb (writer_at w t) (name_of j u.number) in oj.each e q hq is ∙ dite (ℕ_discrete q r)
            (λ f. subst (λ (y : ℕ). acts p act (line l w y) ≡ acts p act (line l w' y)) (sym f)
            (sym (ap (acts p act) chain ∙ ap (λ (b : Bool). cond b (acts p act (line l w r) ++ act tail ∷ []) (acts p act (line l w r))) (ne_eqb (writer_at w tail) (name_of j u.number) (λ g. other (let d : name_of s v.number ≡ name_of j u.number = sym by ∙ g in omega arith))))))
            (λ ne. ap (acts p act) (sym (else q hq ne)));
      })
