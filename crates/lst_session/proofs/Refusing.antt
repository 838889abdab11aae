-- A write that is tried and refused: the latch is given back.
use Rattle.std.proofs.Common.{◌≡◌, ℕ, ◌<◌, ◌≤◌, [], ◌∷◌, true, Some, Err, refl, sym, subst, ap, ◌∙◌, arith, Contains, le-leb}
use Rattle.std.proofs.lemmas.List.Elements.{Contains-append_right}
use Rattle.lst_layout.specs.declared.limits.Limits.{Limits}
use Rattle.lst_model.specs.declared.acts.Act.{Act}
use Rattle.lst_core_state.specs.declared.known.Known.{Known}
use Rattle.lst_core_state.specs.declared.facts.Find.TheVariants.{CountedTails, FullTails}
use Rattle.lst_core_state.specs.Cells.{record_count, range_of}
use Rattle.lst_core_state.specs.Index.{is_placed}
use Rattle.lst_core_state.specs.State.{Words}
use Rattle.lst_rule.specs.declared.view.View.{View}
use Rattle.lst_rule.specs.Rule.{knows, Allowed}
use Rattle.lst_rule.specs.Learned.{Possible, Learns}
use Rattle.lst_rule.proofs.Knowing.{whole_words, knows_own}
use Rattle.lst_rule.proofs.Learning.{learns_on}
use Rattle.lst_rule.specs.Watching.{Watched}
use Rattle.lst_session.specs.declared.kinds.WriteRefusal.{WriteRefusal}
use Rattle.lst_session.specs.declared.kinds.WriteRefusal.TheVariants as refusal
use Rattle.lst_session.specs.Traces.{Judges, FoundTailsFull, Releases, Tries}
use Rattle.lst_session.specs.Crews.{words_of, store_told}
use Rattle.lst_session.proofs.Crewed.{IsCrewView}
use Rattle.lst_session.specs.Replies.{write_cause}
use Rattle.lst_session.proofs.CrewJudging.{IsHeld}
use Rattle.lst_session.proofs.Holding.{writer_on, writer_as, held_on, held_learns, held_writer}
use Rattle.lst_session.proofs.Trying.{late_refusal, IsTried, full_held, full_is, released, misfit_late, newer_late, unfinished_late, fit_late, nobody}

-- ---- with the latch given back

module _ (u : View) (p : Possible u) (crew : IsCrewView u) (s rec key : ℕ) (low : s < u.limits.sessions) (is_on : (knows u s).is_open ≡ true) (inside : rec < record_count u.limits) (placed : is_placed u.limits (words_of u).index rec ≡ true) (key_is : (words_of u).keys rec ≡ key) (act : Act) (w : View) where
  module _ (refused : WriteRefusal) (r : Releases u w s rec key act refused) where
    abbrev b : View
    b = r.holding.between

    abbrev m : View
    m = r.between

    abbrev head : ℕ
    head = r.holding.head

    before : Possible r.between
    before = record { words = r.word.told.words; known = r.word.told.known; merger = r.word.told.merger; allowed = r.word.told.allowed }

    held_at : (x : View) → Possible x → Watched r.holding.between x s → IsHeld u x s rec r.holding.head
    held_at x q watched = held_on u p crew b s rec head low is_on r.holding.latches r.holding.word x q watched

    given_back : Watched r.holding.between r.between s → late_refusal u.limits (store_told u) s (knows u s).begin key act ≡ Some (write_cause refused) → IsTried u w s key act (Err refused)
    given_back watched late = released u p crew s rec key low is_on inside placed key_is act m w head (held_at m before watched)
        (held_learns u p crew b s rec head low is_on r.holding.latches r.holding.word m watched) (held_writer u p crew b s rec head low is_on r.holding.latches r.holding.word m watched) r.view r.word refused late

    misfit : Judges r.holding.between r.between s rec r.holding.head key act (Err refused) → IsTried u w s key act (Err refused)
    misfit j = given_back j.watched (misfit_late u p crew s rec key low is_on inside placed key_is act b m head (held_at m before j.watched) refused j)

    no_tails : FoundTailsFull r.holding.between r.between s rec r.holding.head key act → refused ≡ refusal.TailFull → IsTried u w s key act (Err refused)
    no_tails f is = released u p crew s rec key low is_on inside placed key_is act m w head held
        (subst (λ (k : Known). Learns u m s k) (sym f.full.counts.view.now) (learns_on u f.between m s _ _ (held_learns u p crew b s rec head low is_on r.holding.latches r.holding.word f.between f.judges.watched) f.full.counts.view))
        (writer_on (knows u s) (knows f.between s) (knows m s) (held_writer u p crew b s rec head low is_on r.holding.latches r.holding.word f.between f.judges.watched)
        (writer_as (knows f.between s) (knows m s) _ f.full.counts.view.now record { transactions = record { number = refl; begin = refl; read_only = refl; is_open = refl }; rec = refl; turn = λ away. away }))
        r.view r.word refused
        (fit_late u p crew s rec key low is_on inside placed key_is act b f.between head (held_at f.between f.possible f.judges.watched) true f.judges (full_is u p crew s rec key low is_on inside placed key_is act ∙ le-leb u.limits.tails ((words_of u).counts (range_of rec)) all_drawn)
        ∙ ap (λ (x : WriteRefusal). Some (write_cause x)) (sym is))
      where
        held : IsHeld u r.between s rec r.holding.head
        held = full_held u f.between m s rec head (range_of rec) (held_at f.between f.possible f.judges.watched) f.full before

        all_drawn : u.limits.tails ≤ (words_of u).counts (range_of rec)
        all_drawn = let sure : Allowed m m.words before.known before.merger = whole_words m before.words before.known before.merger before.allowed held.whole in
            let here : s < m.limits.sessions = subst (λ (l : Limits). s < l.sessions) (sym held.limits) low in
            let has : Contains (knows m s).finds (FullTails (range_of rec)) = subst (λ (k : Known). Contains k.finds (FullTails (range_of rec))) (sym f.full.counts.view.now)
            (Contains-append_right (knows f.between s).finds (CountedTails (range_of rec) f.full.count ∷ FullTails (range_of rec) ∷ []) (FullTails (range_of rec)) (1, omega arith, refl)) in
            let many : m.limits.tails ≤ (words_of m).counts (range_of rec) = (sure.sound.found s here).each (FullTails (range_of rec))
            (subst (λ (k : Known). Contains k.finds (FullTails (range_of rec))) (knows_own m m.words before.known before.merger sure s (sure.all held.whole s (omega arith)) (λ e. omega arith)) has) in
            let counts : (words_of m).counts (range_of rec) ≡ (words_of u).counts (range_of rec) = ap (λ (x : Words). x.counts (range_of rec)) held.stamped.rest in
            let tails : m.limits.tails ≡ u.limits.tails = ap (λ (l : Limits). l.tails) held.limits in omega arith

  -- ---- each refusal

  pub refused_tried : (refused : WriteRefusal) → Tries u w s rec key act (Err refused) → IsTried u w s key act (Err refused)
  refused_tried refusal.Idle r = misfit refusal.Idle r r.holding.prepares
  refused_tried refusal.ReadOnly r = misfit refusal.ReadOnly r r.holding.prepares
  refused_tried refusal.Missing r = misfit refusal.Missing r r.holding.prepares
  refused_tried refusal.Exists r = misfit refusal.Exists r r.holding.prepares
  refused_tried refusal.TableFull r = misfit refusal.TableFull r r.holding.prepares
  refused_tried refusal.Latched t = absurd (t.other (nobody u p crew s rec key low is_on inside placed key_is act))
  refused_tried (refusal.Newer time) r = let q = r.holding.prepares in given_back (refusal.Newer time) r q.0
      (newer_late u p crew s rec key low is_on inside placed key_is act r.holding.between r.between r.holding.head (held_at (refusal.Newer time) r r.between (before (refusal.Newer time) r) q.0) time q.1)
  refused_tried (refusal.Unfinished j n) r = let q = r.holding.prepares in given_back (refusal.Unfinished j n) r q.0
      (unfinished_late u p crew s rec key low is_on inside placed key_is act r.holding.between r.between r.holding.head (held_at (refusal.Unfinished j n) r r.between (before (refusal.Unfinished j n) r) q.0) j n q.1)
  refused_tried refusal.TailFull r = no_tails refusal.TailFull r r.holding.prepares refl
