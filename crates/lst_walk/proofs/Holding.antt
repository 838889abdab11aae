-- A page that a session takes in hand: its frame is named, and its TPS is loaded.
use Rattle.std.proofs.Common.{◌≡◌, ℕ, ◌<◌, List, Bool, true, false, refl, sym, subst, ap, ◌∙◌, arith, slice_index, slice_index_or}
use Rattle.lst_layout.specs.declared.limits.Limits.{Limits}
use Rattle.lst_core_state.specs.declared.known.Known.{Known}
use Rattle.lst_core_state.specs.State.{state_over}
use Rattle.lst_pages.specs.Runs.{IsReadable}
use Rattle.lst_pages.specs.Known.{pages_in}
use Rattle.lst_pages.specs.State.{hand_of}
use Rattle.lst_rule.specs.declared.view.View.{View}
use Rattle.lst_rule.specs.Rule.{knows, hosts}
use Rattle.lst_rule.specs.Learned.{Possible}
use Rattle.lst_rule.specs.PageSteps.{PageLooked, FrameLoaded}
use Rattle.lst_rule.proofs.Paging.{hand_is_readable}
use Rattle.lst_rule.specs.Watching.{HasInHand}
use Rattle.lst_walk.specs.Packed.{Skims, skims_on}
use Rattle.lst_walk.specs.Taken.{Keeps}
use Rattle.lst_walk.proofs.Loading.{page_skims, frame_skims, frame_knows, frame_word}

module _ (v a w : View) (s range column f tps : ℕ) (hosted : hosts v s ≡ true) (low : s < v.limits.sessions) (looked : PageLooked v a s range column f) (lineage : FrameLoaded a w s f 0 tps) where
  va : Skims v a s
  va = page_skims v a s range column f hosted low looked

  hosted_a : hosts a s ≡ true
  hosted_a = ap (λ (hs : List Bool). slice_index_or hs s false) va.watched.learns.hosted ∙ hosted

  low_a : s < a.limits.sessions
  low_a = subst (λ (l : Limits). s < l.sessions) (sym va.watched.learns.limits) low

  now : Possible a
  now = record { words = _; known = _; merger = _; allowed = looked.met.made.told.after }

  readable : IsReadable (pages_in (state_over a.limits now.words now.known now.merger)) f looked.page
  readable = hand_is_readable a now.words now.known now.merger now.allowed s hosted_a low_a f looked.page looked.in_hand

  hand_a : HasInHand (knows a s).pages.session f (slice_index looked.page.words)
  hand_a = record { page = looked.page; in_hand = looked.in_hand; same = λ n short. refl }

  pub of_skims : Skims v w s
  of_skims = skims_on v a w s va (frame_skims a w s f 0 tps lineage hosted_a readable.frame (omega arith))

  pub of_keeps : Keeps w s range column f tps
  of_keeps = record {
    page = looked.page;
    in_hand = ap (λ (k : Known). hand_of k.pages.session f) (frame_knows a w s f 0 tps lineage) ∙ looked.in_hand;
    names = looked.names;
    tps = frame_word a w s f 0 tps lineage (slice_index looked.page.words) low_a hand_a (omega arith);
  }
