-- The places of a run, one more at a time.
use Rattle.std.proofs.Common.{◌≡◌, ℕ, ◌+◌, ◌<◌, List, [], ◌∷◌, ◌++◌, length, get_or, take, drop, map, sym, ap, ◌∙◌, subst, ⊎_elim, IfSome}
use Rattle.std.proofs.lemmas.List.{map_more, map_push, length-map, get_or-map}
use Rattle.std.proofs.lemmas.List.Elements.{All-get_or}
use Rattle.lst_replies.specs.Runs.{Answered, speaker_of}
use Rattle.lst_replies.specs.Seen.{seen, seen_all}
use Rattle.lst_replies.specs.declared.answers.Answer.{Answer}
use Rattle.lst_legal_runs.specs.declared.outlines.StateOutline.{StateOutline}
use Rattle.lst_legal_runs.specs.declared.places.Place.{Place}
use Rattle.lst_legal_runs.specs.Places.{AreWithin, AreOutlines, outline_at, seen_at, run_at, AreTraced}
use Rattle.lst_legal_runs.proofs.Splits.{split_push, split_at}

-- the places of the first lines, and the outlines behind them
pub record Traced (sessions : ℕ) (run : List Answer) (i : ℕ) (outlines : List StateOutline) (places : List Place) : Type 0 where
  pub all : length outlines ≡ sessions
  pub behind : AreOutlines outlines (seen_all (take i run))
  pub same : run_at places ≡ seen_all (take i run)
  pub traced : AreTraced places

pub traced_none : AreTraced []
traced_none = record { each = none }
  where
    none : (before : List Place) (place : Place) (after : List Place) → [] ≡ before ++ place ∷ after → place.outline ≡ outline_at (run_at before) (speaker_of (seen_at place).line)
    none [] place after e = absurd (cc)
    none (b ∷ before) place after e = absurd (cc)

pub traced_push : (places : List Place) (place : Place) → AreTraced places → place.outline ≡ outline_at (run_at places) (speaker_of (seen_at place).line) → AreTraced (places ++ place ∷ [])
traced_push places place traced here = record {
  each = λ before other after e.
      ⊎_elim
      (λ h. subst (λ (b : List Place). other.outline ≡ outline_at (run_at b) (speaker_of (seen_at other).line)) (sym h.0) (subst (λ (o : Place). o.outline ≡ outline_at (run_at places) (speaker_of (seen_at o).line)) (sym h.1) here))
      (λ h. traced.each before other h.0 h.1)
      (split_push places place before other after e);
}

pub traced_more : (sessions : ℕ) (run : List Answer) (i : ℕ) (d : Answer) (outlines next : List StateOutline) (places : List Place) (outline : StateOutline)
    → i < length run → Traced sessions run i outlines places → length next ≡ length outlines
    → ((front : List Answered) → AreOutlines outlines front → AreOutlines next (front ++ seen (get_or run i d) ∷ []))
    → ((front : List Answered) → AreOutlines outlines front → outline ≡ outline_at front (speaker_of (seen (get_or run i d)).line))
    → Traced sessions run (i + 1) next (places ++ record { answer = get_or run i d; outline = outline } ∷ [])
traced_more sessions run i d outlines next places outline below traced same after before = record {
  all = same ∙ traced.all;
  behind = subst (AreOutlines next) (sym (map_more seen run i d below)) (after (seen_all (take i run)) traced.behind);
  same = map_push seen_at places (record { answer = get_or run i d; outline = outline }) ∙ ap (λ front. front ++ seen (get_or run i d) ∷ []) traced.same ∙ sym (map_more seen run i d below);
  traced = traced_push places (record { answer = get_or run i d; outline = outline }) traced.traced
      (before (seen_all (take i run)) traced.behind ∙ ap (λ front. outline_at front (speaker_of (seen (get_or run i d)).line)) (sym traced.same));
}

-- the place at an index of traced places
pub traced_at : (places : List Place) (i : ℕ) (d : Place) → i < length places → AreTraced places → (get_or places i d).outline ≡ outline_at (run_at (take i places)) (speaker_of (seen_at (get_or places i d)).line)
traced_at places i d below traced = traced.each (take i places) (get_or places i d) (drop (i + 1) places) (split_at places i d below)

pub traced_read : (places : List Place) (i : ℕ) (place : Place) → i < length places → place ≡ get_or places i place → AreTraced places → place.outline ≡ outline_at (run_at (take i places)) (speaker_of (seen_at place).line)
traced_read places i place below is traced = subst (λ (p : Place). p.outline ≡ outline_at (run_at (take i places)) (speaker_of (seen_at p).line)) (sym is) (traced_at places i place below traced)

pub traced_step : (sessions : ℕ) (run : List Answer) (i : ℕ) (answer : Answer) (outlines next : List StateOutline) (places more : List Place) (outline : StateOutline)
    → i < length run → answer ≡ get_or run i answer → Traced sessions run i outlines places → length next ≡ length outlines
    → ((front : List Answered) → AreOutlines outlines front → AreOutlines next (front ++ seen answer ∷ []))
    → ((front : List Answered) → AreOutlines outlines front → outline ≡ outline_at front (speaker_of (seen answer).line))
    → more ≡ places ++ record { answer = answer; outline = outline } ∷ []
    → Traced sessions run (i + 1) next more
traced_step sessions run i answer outlines next places more outline below is traced same after before pushed =
    subst (λ (ps : List Place). Traced sessions run (i + 1) next ps) (sym (pushed ∙ ap (λ (a : Answer). places ++ record { answer = a; outline = outline } ∷ []) is))
    (traced_more sessions run i answer outlines next places outline below traced same
    (λ front are. subst (λ (a : Answer). AreOutlines next (front ++ seen a ∷ [])) is (after front are))
    (λ front are. subst (λ (a : Answer). outline ≡ outline_at front (speaker_of (seen a).line)) is (before front are)))

pub within_read : (sessions : ℕ) (run : List Answer) (i : ℕ) (answer : Answer) → i < length run → answer ≡ get_or run i answer → AreWithin sessions (seen_all run) → IfSome (speaker_of (seen answer).line) (λ session. session < sessions)
within_read sessions run i answer below is within =
    let P : Answered → Type 0 = λ one. IfSome (speaker_of one.line) (λ session. session < sessions) in
    let here : P (get_or (map seen run) i (seen answer)) = All-get_or P (map seen run) i (seen answer) (subst (λ n. i < n) (sym (length-map run seen)) below) within in
    subst P (get_or-map seen run i answer (seen answer) below ∙ ap seen (sym is)) here

-- the run of one place more
pub run_more : (places : List Place) (i : ℕ) (place : Place) → i < length places → place ≡ get_or places i place → run_at (take (i + 1) places) ≡ run_at (take i places) ++ seen_at place ∷ []
run_more places i place below is = map_more seen_at places i place below ∙ ap (λ p. run_at (take i places) ++ seen_at p ∷ []) (sym is)
