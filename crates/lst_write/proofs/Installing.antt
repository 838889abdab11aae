-- The install of a tail that is whole.
use Rattle.std.proofs.Common.{◌≡◌, ℕ, ◌+◌, ◌-◌, ◌*◌, ◌<◌, List, [], ◌∷◌, ◌++◌, true, sym, subst, ap, ◌∙◌, arith, append_assoc, take}
use Rattle.lst_layout.specs.declared.place.Place.TheVariants.{HeadWord}
use Rattle.lst_layout.specs.Words.{Words, shown}
use Rattle.lst_model.specs.declared.acts.Act.{Act}
use Rattle.lst_model.specs.Histories.{joined, acts_on, all_acts_on}
use Rattle.lst_core_state.specs.Writes.{write, Rising}
use Rattle.lst_core_state.proofs.Writes.{line_joined-here}
use Rattle.lst_core_state.specs.declared.known.Known.{Known}
use Rattle.lst_core_state.specs.declared.known.Hold.{Hold}
use Rattle.lst_core_state.specs.declared.facts.Fact.TheVariants.{CellIs, IndexAt}
use Rattle.lst_core_state.specs.declared.events.Event.TheVariants.{Install}
use Rattle.lst_core_state.specs.Cells.{range_of, act_of}
use Rattle.lst_core_state.specs.Facts.{IsFact}
use Rattle.lst_core_state.specs.State.{sight, no_hold, name_of, act_in}
use Rattle.lst_core_state.specs.Step.{Enabled, number_in}
use Rattle.lst_rule.specs.declared.view.View.{View}
use Rattle.lst_rule.specs.Rule.{knows, hosts, Allowed}
use Rattle.lst_rule.specs.Learned.{Learns, CanStand, Made}
use Rattle.lst_rule.proofs.Knowing.{is_fact, knows_own}
use Rattle.lst_rule.specs.Posting.{AllPosted}
use Rattle.lst_rule.proofs.PostingFacts.{all_posted}
use Rattle.lst_rule.specs.Seen.{HasKey}
use Rattle.lst_write.specs.Appending.{HasWhole, Installs}

one_less : (r : ℕ) → r + 1 - 1 ≡ r
one_less r = omega arith

module _ (v : View) (s rec head n : ℕ) (act : Act) (hosted : hosts v s ≡ true) (own : s < v.limits.sessions) (H : HasWhole v.limits (knows v s) s rec head n act) where
  abbrev k : Known
  k = knows v s

  abbrev T : ℕ
  T = range_of rec * v.limits.tails + n

  pub install_enabled : Enabled v.limits (knows v s) (Install s)
  install_enabled = ap (λ (h : Hold). h.is_whole) H.hold

  cell_is : (words : List ℕ) (known : ℕ → Known) (merger : Known) → Allowed v words known merger → IsFact v.limits (shown v.limits words) (CellIs (range_of rec * v.limits.tails + n) (name_of s (knows v s).number) H.encoding head H.values)
  cell_is words known merger a = is_fact v words known merger a s hosted (CellIs T (name_of s k.number) H.encoding head H.values) H.stored

  pub install_stands : AllPosted v.limits (knows v s) → CanStand v (Install s)
  install_stands posted words known merger a = (subst (λ (h : Hold). (shown v.limits words).cells h.tail 2 ≡ h.head) (sym H.hold) (cell_is words known merger a).3, all_posted v words known merger a s hosted posted)

  module _ (w : View) (made : Made v w (Install s) (HeadWord ((knows v s).hold.latch - 1)) (2 * number_in v.limits ((knows v s).hold.latch - 1) (knows v s).hold.tail)) where
    abbrev W : Words
    W = shown v.limits made.told.words

    pub install_word : Made v w (Install s) (HeadWord rec) (2 * n)
    install_word = let f : T - range_of rec * v.limits.tails ≡ n = omega arith in
        subst (λ (r : ℕ). Made v w (Install s) (HeadWord r) (2 * n)) (one_less rec)
        (subst (λ (x : ℕ). Made v w (Install s) (HeadWord (rec + 1 - 1)) (2 * x)) ((λ i. T - range_of (one_less rec i) * v.limits.tails) ∙ f)
        (subst (λ (h : Hold). Made v w (Install s) (HeadWord (h.latch - 1)) (2 * number_in v.limits (h.latch - 1) h.tail)) H.hold made))

    -- the act of the tail
    act_is : act_in v.limits W.cells (range_of rec * v.limits.tails + n) ≡ act
    act_is = let f = cell_is made.told.words made.told.known made.told.merger made.told.allowed in (λ i. act_of (f.2 i) (f.4 i)) ∙ H.says

    -- the own writes stand by rising key
    rising : Rising 0 (knows v s).own
    rising = let t = made.told in subst (λ (u : Known). Rising 0 u.own) (sym (knows_own v t.words t.known t.merger t.allowed s hosted (λ e. omega arith))) (t.allowed.sound.owned s own).rising

    module _ (key : ℕ) (has : HasKey (knows v s).facts rec key) where
      key_is : W.keys rec ≡ key
      key_is = let t = made.told in (is_fact v t.words t.known t.merger t.allowed s hosted (IndexAt has.0 rec key) has.1).1

      learns : Learns v w s (record (knows v s) {
        hold = no_hold;
        own = joined (knows v s).own (write key act);
        done = (knows v s).done ++ record { number = (knows v s).number; rec = rec; tail = range_of rec * v.limits.tails + n } ∷ [];
      })
      learns = subst (λ (u : Known). Learns v w s u) ((λ i. record k {
        hold = no_hold;
        own = joined k.own (write (W.keys ((H.hold i).latch - 1)) (act_in v.limits W.cells (H.hold i).tail));
        done = k.done ++ record { number = k.number; rec = (H.hold i).latch - 1; tail = (H.hold i).tail } ∷ [];
      }) ∙ (λ i. record k {
        hold = no_hold;
        own = joined k.own (write ((ap W.keys (one_less rec) ∙ key_is) i) (act_is i));
        done = k.done ++ record { number = k.number; rec = one_less rec i; tail = T } ∷ [];
      })) made.view

      pub installed : Installs v w s rec n key act
      installed = record {
        view = learns;
        sight = ap (λ (u : Known). sight u key) learns.now
            ∙ (ap (λ (acts : List Act). all_acts_on key (take k.begin k.seen) ++ acts) (line_joined-here 0 k.own (write key act) rising)
            ∙ sym (append_assoc (all_acts_on key (take k.begin k.seen)) (acts_on key k.own) (act ∷ [])));
      }
