-- One line on: its commit is entered, or no history has it.
use Rattle.std.proofs.Common.{◌≡◌, ◌↔◌, ℕ, ◌+◌, ◌-◌, ◌<◌, Bool, true, false, IsTrue, List, [], ◌∷◌, ◌++◌, length, get_or, set, take, drop, Option, Some, None, option_map, IfSome, refl, sym, ap, ◌∙◌, subst}
use Rattle.std.specs.Prelude.{IsSomeAnd}
use Rattle.std.proofs.lemmas.Option.{some_pair_parts}
use Rattle.lst_model.specs.declared.acts.Write.{Write}
use Rattle.lst_model.specs.declared.commits.Commit.{Commit}
use Rattle.lst_model.specs.declared.lines.Line.TheVariants.{Call}
use Rattle.lst_model.specs.declared.lines.Call.{Call as CallKind}
use Rattle.lst_model.specs.declared.replies.Reply.{Reply}
use Rattle.lst_model.specs.Histories.{StandByKey}
use Rattle.lst_replies.specs.declared.reports.Stamp.{Stamp}
use Rattle.lst_replies.specs.declared.states.Transaction.{Transaction}
use Rattle.lst_replies.specs.Runs.{Answered, answered, commit_time, speaker_of}
use Rattle.lst_replies.specs.States.{state_of, commit_of}
use Rattle.lst_legal_runs.specs.declared.outlines.OpenOutline.{OpenOutline}
use Rattle.lst_legal_runs.specs.Outlines.{outline_of_open}
use Rattle.lst_legal_runs.specs.Gathering.{ArePending, AreGathered, CanEnter, IsTold, IsStep, IsNext, CommitsNothing}
use Rattle.lst_legal_runs.specs.declared.places.Place.{Place}
use Rattle.lst_legal_runs.specs.Places.{AreTraced, AreWithin, run_at, seen_at}
use Rattle.lst_legal_runs.proofs.Placing.{traced_read}
use Rattle.lst_legal_runs.proofs.Splits.{split_map}
use Rattle.std.specs.List.{All}
use Rattle.std.proofs.lemmas.List.{get_or-map, length-map}
use Rattle.std.proofs.lemmas.List.Elements.{All-get_or}
use Rattle.lst_legal_runs.proofs.Gathered.{gathered_more, can_enter, no_open}

pub ended_none : (time : Option ℕ) (writes : List Write) → ◌≡◌ {A = Option (ℕ × List Write)} None (option_map (λ (t : ℕ). (t, writes)) time) → time ≡ None
ended_none None writes e = refl
ended_none (Some t) writes e = absurd (cc)

-- a commit was told at a time, with these writes
pub record IsEnded (told : Option ℕ) (old : List Write) (time : ℕ) (writes : List Write) : Type 0 where
  pub at : told ≡ Some time
  pub all : writes ≡ old

pub ended_some : (told : Option ℕ) (old : List Write) (time : ℕ) (writes : List Write) → ◌≡◌ {A = Option (ℕ × List Write)} (Some (time, writes)) (option_map (λ (t : ℕ). (t, old)) told) → IsEnded told old time writes
ended_some None old time writes e = absurd (cc)
ended_some (Some t) old time writes e = let parts = some_pair_parts time t writes old e in record { at = ap (λ n. Some n) (sym parts.0); all = parts.1 }

module _ (run : List Answered) (stamps : List Stamp) (slots : List (Option Commit)) (front rest : List Answered) (session : ℕ) (call : CallKind) (reply : Reply) (time : ℕ) where
  pub step_commit : (b : Bool) (next : List (Option Commit)) (current : Option OpenOutline) (writes : List Write) (pending : List (List Write))
      → run ≡ front ++ answered (Call session call) reply ∷ rest → commit_time reply ≡ Some time → AreGathered run stamps slots front
      → current ≡ option_map outline_of_open (state_of session front).current
      → ((transaction : Transaction) → (state_of session front).current ≡ Some transaction → transaction.writes ≡ writes)
      → StandByKey writes
      → IsTrue b ↔ IsSomeAnd current (λ o. CanEnter slots stamps time (record { session = session; number = o.number; begin = o.begin }))
      → (IsTrue b → IfSome current (λ o. next ≡ set slots (time - 1) (Some (record { session = session; number = o.number; begin = o.begin; writes = writes }))))
      → ArePending pending (front ++ answered (Call session call) reply ∷ [])
      → IsStep b run stamps pending next (front ++ answered (Call session call) reply ∷ [])
  step_commit b next current writes pending is tells are outline same stands can entered pend = by_state (state_of session front).current refl
    where
      all : List Answered
      all = front ++ answered (Call session call) reply ∷ []

      by_state : (o : Option Transaction) → (state_of session front).current ≡ o → IsStep b run stamps pending next all
      by_state None closed = by_answer b refl
        where
          nothing : current ≡ None
          nothing = outline ∙ ap (option_map outline_of_open) closed

          by_answer : (a : Bool) → b ≡ a → IsStep a run stamps pending next all
          by_answer true sure = absurd (subst (λ (c : Option OpenOutline). IsSomeAnd c (λ o. CanEnter slots stamps time (record { session = session; number = o.number; begin = o.begin }))) nothing (can.0 sure))
          by_answer false not_so = no_open run stamps slots front rest session call reply time (record { number = 0; begin = 0; read_only = false; writes = [] }) is tells closed
      by_state (Some transaction) opened = by_answer b refl
        where
          here : current ≡ Some (outline_of_open transaction)
          here = outline ∙ ap (option_map outline_of_open) opened

          all_writes : transaction.writes ≡ writes
          all_writes = same transaction opened

          by_answer : (a : Bool) → b ≡ a → IsStep a run stamps pending next all
          by_answer true sure =
              let placed : next ≡ set slots (time - 1) (Some (record { session = session; number = transaction.number; begin = transaction.begin; writes = writes })) =
              subst (λ (c : Option OpenOutline). IfSome c (λ o. next ≡ set slots (time - 1) (Some (record { session = session; number = o.number; begin = o.begin; writes = writes })))) here (entered sure) in
              let next_is : next ≡ set slots (time - 1) (Some (commit_of session transaction)) =
              placed ∙ ap (λ (ws : List Write). set slots (time - 1) (Some (record { session = session; number = transaction.number; begin = transaction.begin; writes = ws }))) (sym all_writes) in (
                pend,
                subst (λ (ss : List (Option Commit)). AreGathered run stamps ss all) (sym next_is)
                    (gathered_more run stamps slots front rest session call reply time transaction is tells opened (subst StandByKey (sym all_writes) stands) are
                    (subst (λ (c : Option OpenOutline). IsSomeAnd c (λ o. CanEnter slots stamps time (record { session = session; number = o.number; begin = o.begin }))) here (can.0 sure))),
              )
          by_answer false not_so = λ history told.
              let sure : b ≡ true = can.1 (subst (λ (c : Option OpenOutline). IsSomeAnd c (λ o. CanEnter slots stamps time (record { session = session; number = o.number; begin = o.begin }))) (sym here)
              (can_enter run stamps slots front rest session call reply time transaction is tells opened are history told)) in
              absurd (cc (not_so, sure))

-- what has been filled in behind the front of a run
pub record Filling (run : List Answered) (stamps : List Stamp) (sessions : ℕ) (pending : List (List Write)) (slots : List (Option Commit)) (front : List Answered) : Type 0 where
  pub all : length pending ≡ sessions
  pub pend : ArePending pending front
  pub gathered : AreGathered run stamps slots front

pub next_place : (places : List Place) (stamps : List Stamp) (sessions i : ℕ) (place : Place) (pending : List (List Write)) (slots : List (Option Commit))
    → i < length places → place ≡ get_or places i place → AreTraced places → All CommitsNothing (run_at places) → Filling (run_at places) stamps sessions pending slots (run_at (take i places))
    → IsNext (run_at places) stamps pending slots (run_at (take i places)) place (run_at (drop (i + 1) places))
next_place places stamps sessions i place pending slots below read traced calls filling = record {
  is = split_map seen_at places i place below ∙ ap (λ (p : Place). run_at (take i places) ++ seen_at p ∷ run_at (drop (i + 1) places)) (sym read);
  outline = traced_read places i place below read traced;
  call = subst CommitsNothing (get_or-map seen_at places i place (seen_at place) below ∙ ap seen_at (sym read)) (All-get_or CommitsNothing (run_at places) i (seen_at place) (subst (λ n. i < n) (sym (length-map places seen_at)) below) calls);
  pend = filling.pend;
  gathered = filling.gathered;
}

pub speaker_within : (places : List Place) (sessions i : ℕ) (place : Place) → i < length places → place ≡ get_or places i place → AreWithin sessions (run_at places) → IfSome (speaker_of (seen_at place).line) (λ session. session < sessions)
speaker_within places sessions i place below read within =
    let P : Answered → Type 0 = λ one. IfSome (speaker_of one.line) (λ session. session < sessions) in
    let here : P (get_or (run_at places) i (seen_at place)) = All-get_or P (run_at places) i (seen_at place) (subst (λ n. i < n) (sym (length-map places seen_at)) below) within in
    subst P (get_or-map seen_at places i place (seen_at place) below ∙ ap seen_at (sym read)) here

pub step_on : (b : Bool) (run : List Answered) (stamps : List Stamp) (sessions : ℕ) (pending : List (List Write)) (slots : List (Option Commit)) (front : List Answered) → b ≡ true → length pending ≡ sessions → IsStep b run stamps pending slots front → Filling run stamps sessions pending slots front
step_on true run stamps sessions pending slots front is size step = record { all = size; pend = step.0; gathered = step.1 }
step_on false run stamps sessions pending slots front is size step = absurd (cc)

pub step_off : (b : Bool) (run : List Answered) (stamps : List Stamp) (pending : List (List Write)) (slots : List (Option Commit)) (front : List Answered) → b ≡ false → IsStep b run stamps pending slots front → (history : List Commit) → ¬ (IsTold run stamps history)
step_off true run stamps pending slots front is step = absurd (cc)
step_off false run stamps pending slots front is step = step
