-- What a session keeps along its own lines, with one line more.
use Rattle.std.proofs.Common.{◌≡◌, ⊎_elim, inl, inr, ℕ, List, [], ◌∷◌, ◌++◌, Bool, true, false, ◌||◌, cond, Option, Some, None, IfSome, refl, sym, subst, ap, ◌∙◌}
use Rattle.std.specs.Prelude.{IsSomeAnd, IsTrue}
use Rattle.std.proofs.lemmas.Bool.{eq-eqb}
use Rattle.std.proofs.lemmas.List.Folds.{list_any-append}
use Rattle.lst_model.specs.declared.commits.Commit.{Commit}
use Rattle.lst_model.specs.declared.lines.Line.TheVariants.{Call}
use Rattle.lst_model.specs.declared.lines.Call.{Call as CallKind}
use Rattle.lst_model.specs.declared.replies.Reply.{Reply}
use Rattle.lst_model.specs.Histories.{Extends}
use Rattle.lst_core_state.specs.declared.known.Known.{Known}
use Rattle.lst_rule.specs.Rule.{knows}
use Rattle.lst_replies.specs.declared.states.SessionState.{SessionState}
use Rattle.lst_replies.specs.Runs.{Answered, answered, names, is_by, is_begun, commit_time}
use Rattle.lst_replies.specs.States.{after_call, state_from}
use Rattle.lst_replies.specs.Explained.{commit_at, has_write_on}
use Rattle.lst_replies.specs.Levels.{stale_time}
use Rattle.lst_legal_runs.specs.declared.levels.Level.{Level}
use Rattle.lst_legal_runs.specs.declared.levels.Level.TheVariants.{Snapshot, Serializable}
use Rattle.lst_legal_runs.proofs.Splits.{split_push}
use Rattle.lst_serial_laws.specs.Places.{IsInPlace}
use Rattle.lst_serial_laws.specs.Legal.{lines_since_begin, key_named, key_of_call, reads_table, MayBeStale}
use Rattle.lst_serial_laws.specs.Ends.{is_key_named, is_table_read}
use Rattle.lst_serial_laws.proofs.Numbers.{state_on, since_push}
use Rattle.lst_work_laws.specs.Lines.{transaction_told, session_told}
use Rattle.lst_work_laws.specs.Keeping.{Pass, EndsAt, EndAll, KeepsReads, Keeps, IsChanged, LineReads, LineEnds, LinesCarryOn}
use Rattle.lst_work_laws.proofs.Telling.{extends_on}

-- ---- reads

if_all : {X : Type 0} (P Q : X → Type 0) (o : Option X) → ((x : X) → P x → Q x) → IfSome o P → IfSome o Q
if_all P Q None each h = h
if_all P Q (Some x) each h = each x h

or_false : (b : Bool) → (b || false) ≡ b
or_false true = refl
or_false false = refl

placed_as : (r q : ℕ → Bool) (a b : Bool) (history : List Commit) (begin time : ℕ) → ((key : ℕ) → r key ≡ q key) → a ≡ b → IsInPlace r a history begin time → IsInPlace q b history begin time
placed_as r q a b history begin time same alike p = record {
  rows = λ key was. p.rows key (same key ∙ was);
  whole = λ e. p.whole (alike ∙ e);
}

stale_as : (lines : List Answered) (reads : ℕ → Bool) (whole : Bool) (history : List Commit) (begin time : ℕ) → ((key : ℕ) → reads key ≡ is_key_named lines key) → whole ≡ is_table_read lines
    → IsChanged history reads whole begin time → MayBeStale history begin time lines
stale_as lines reads whole history begin time same alike x = record {
  later = x.later;
  past = x.past;
  read = ⊎_elim
      (λ (e : whole ≡ true). inl (sym alike ∙ e))
      (λ (w : (key : ℕ) × (reads key ≡ true) × IsSomeAnd (commit_at history time) (λ commit. IsTrue (has_write_on key commit))). inr (record { key = w.0; named = sym (same w.0) ∙ w.1; wrote = w.2 }))
      x.read;
}

-- ---- one line more

module _ (s : ℕ) (call : CallKind) (reply : Reply) (own : List Answered) where
  abbrev one : Answered
  one = answered (Call s call) reply

  abbrev lines : List Answered
  lines = lines_since_begin s own

  its : is_by s one ≡ true
  its = eq-eqb s s refl

  since : lines_since_begin s (own ++ one ∷ []) ≡ cond (is_begun reply) [] (lines ++ one ∷ [])
  since = since_push s own one ∙ ap (λ (b : Bool). cond b (cond (is_begun reply) [] (lines ++ one ∷ [])) lines) its

  state_push : (state : SessionState) → state_from state s (own ++ one ∷ []) ≡ after_call call reply (state_from state s own)
  state_push state = state_on state s own (one ∷ []) ∙ ap (λ (b : Bool). cond b (after_call call reply (state_from state s own)) (state_from state s own)) its

  named_push : (b : Bool) (key : ℕ) → cond b false (is_key_named lines key || names key (key_of_call call)) ≡ is_key_named (cond b [] (lines ++ one ∷ [])) key
  named_push true key = refl
  named_push false key = sym (list_any-append (λ (o : Answered). names key (key_named o.line)) lines (one ∷ []) ∙ ap (λ (b : Bool). is_key_named lines key || b) (or_false (names key (key_of_call call))))

  read_push : (b : Bool) → cond b false (is_table_read lines || reads_table reply) ≡ is_table_read (cond b [] (lines ++ one ∷ []))
  read_push true = refl
  read_push false = sym (list_any-append (λ (o : Answered). reads_table o.reply) lines (one ∷ []) ∙ ap (λ (b : Bool). is_table_read lines || b) (or_false (reads_table reply)))

  module _ (old new : Pass) where
    reads_on : (level : Level) → LineEnds level call reply old new → KeepsReads level lines old.reads old.whole → KeepsReads level (lines_since_begin s (own ++ one ∷ [])) new.reads new.whole
    reads_on Snapshot x kept = tt
    reads_on Serializable x kept = (
      λ key. x.keys key ∙ (ap (λ (b : Bool). cond (is_begun reply) false (b || names key (key_of_call call))) (kept.0 key) ∙ (named_push (is_begun reply) key ∙ ap (λ (ls : List Answered). is_key_named ls key) (sym since))),
      x.all ∙ (ap (λ (b : Bool). cond (is_begun reply) false (b || reads_table reply)) kept.1 ∙ (read_push (is_begun reply) ∙ ap is_table_read (sym since))),
    )

    -- the line ends so, in the state in which the session is
    module _ (history : List Commit) (goes : Extends history new.known.seen) where
      in_place : (x : LineReads call reply old new) → KeepsReads Serializable lines old.reads old.whole → (is_open : Bool)
          → IfSome (cond is_open (Some (transaction_told old.known)) None) (λ transaction. IfSome (commit_time reply) (λ time. IsInPlace (is_key_named lines) (is_table_read lines) history transaction.begin time))
      in_place x kept false = tt
      in_place x kept true = if_all
          (λ time. (h : List Commit) → Extends h new.known.seen → IsInPlace old.reads old.whole h old.known.begin time)
          (λ time. IsInPlace (is_key_named lines) (is_table_read lines) history old.known.begin time)
          (commit_time reply)
          (λ time p. placed_as old.reads (is_key_named lines) old.whole (is_table_read lines) history old.known.begin time kept.0 kept.1 (p history goes))
          x.placed

      is_stale : (x : LineReads call reply old new) → KeepsReads Serializable lines old.reads old.whole → (is_open : Bool)
          → IfSome (cond is_open (Some (transaction_told old.known)) None) (λ transaction. IfSome (stale_time reply) (λ time. MayBeStale history transaction.begin time lines))
      is_stale x kept false = tt
      is_stale x kept true = if_all
          (λ time. (h : List Commit) → Extends h new.known.seen → IsChanged h old.reads old.whole old.known.begin time)
          (λ time. MayBeStale history old.known.begin time lines)
          (stale_time reply)
          (λ time p. stale_as lines old.reads old.whole history old.known.begin time kept.0 kept.1 (p history goes))
          x.stale

      ends_here : (level : Level) → LineEnds level call reply old new → KeepsReads level lines old.reads old.whole → EndsAt level history own s (session_told old.known).current reply
      ends_here Snapshot x kept = x
      ends_here Serializable x kept = record { placed = in_place x kept old.known.is_open; stale = is_stale x kept old.known.is_open }

    module _ (level : Level) (state : SessionState) (kept : Keeps level state s own old) (x : LineEnds level call reply old new) (later : Extends new.known.seen old.known.seen) where
      ends_on : EndAll level state s (own ++ one ∷ []) new.known.seen
      ends_on history goes before c r after e = ⊎_elim
          (λ (h : (before ≡ own) × (answered (Call s c) r ≡ one)).
          subst (λ (b : List Answered). EndsAt level history b s (state_from state s b).current r) (sym h.0)
          (subst (λ (a : Reply). EndsAt level history own s (state_from state s own).current a) (sym (ap (λ (o : Answered). o.reply) h.1))
          (subst (λ (st : SessionState). EndsAt level history own s st.current reply) kept.told (ends_here history goes level x kept.reads))))
          (λ (h : (rest : List Answered) × (own ≡ before ++ answered (Call s c) r ∷ rest)). kept.ends history (extends_on old.known.seen new.known.seen history later goes) before c r h.0 h.1)
          (split_push own one before (answered (Call s c) r) after e)

      keeps_on : session_told new.known ≡ after_call call reply (session_told old.known) → Keeps level state s (own ++ one ∷ []) new
      keeps_on told = record {
        told = told ∙ (ap (after_call call reply) kept.told ∙ sym (state_push state));
        ends = ends_on;
        reads = reads_on level x kept.reads;
      }

pub lines_carry_on : LinesCarryOn
lines_carry_on level s call reply v w old new before after line x state own kept =
    keeps_on s call reply own old new level state kept x
    (subst (λ (k : Known). Extends k.seen old.known.seen) (sym after) (subst (λ (k : Known). Extends (knows w s).seen k.seen) (sym before) line.called.seen))
    (ap session_told after ∙ (line.state ∙ ap (λ (k : Known). after_call call reply (session_told k)) (sym before)))
