-- A session's way through a run: by induction over the lines.
use Rattle.std.proofs.Common.{◌≡◌, ◌≢◌, ◌⊎◌, ⊎_elim, inl, inr, ℕ, ◌+◌, ◌≤◌, List, [], ◌∷◌, ◌++◌, Bool, true, false, not, ◌&&◌, cond, eqb, length, Option, Some, None, Contains, refl, sym, subst, ap, ◌∙◌, arith, append-nil}
use Rattle.std.specs.Prelude.{IsSomeAnd}
use Rattle.std.specs.List.{count_by, list_any}
use Rattle.std.proofs.lemmas.List.Sums.{sum_by-cons}
use Rattle.std.proofs.lemmas.List.Elements.{Contains-push_cases}
use Rattle.std.proofs.lemmas.Bool.{eq-eqb, ne_eqb, and_from, or_left, or_right, not_from_false}
use Rattle.lst_layout.specs.declared.limits.Limits.{Limits}
use Rattle.lst_model.specs.declared.lines.Line.{Line}
use Rattle.lst_model.specs.declared.lines.Line.TheVariants.{Phase, Merge, Call}
use Rattle.lst_model.specs.declared.lines.Call.{Call as CallKind}
use Rattle.lst_model.specs.declared.replies.Reply.{Reply}
use Rattle.lst_model.specs.Histories.{Extends}
use Rattle.lst_core_state.specs.declared.known.Known.{Known}
use Rattle.lst_core_state.specs.declared.facts.Fact.{Fact}
use Rattle.lst_rule.specs.Copies.{Includes}
use Rattle.lst_rule.specs.Seen.{HasKey}
use Rattle.lst_replies.specs.declared.states.SessionState.{SessionState}
use Rattle.lst_replies.specs.Runs.{Answered, answered, names, write_of, key_of, is_by, may_take_record, may_take_latch, takes_no_latch}
use Rattle.lst_replies.specs.States.{after_call, after_line, state_from}
use Rattle.lst_work_laws.specs.Lines.{session_told}
use Rattle.lst_work_laws.proofs.Telling.{extends_on}
use Rattle.lst_work_laws.specs.Lives.{KeepsFinds, Stays, Latches, MayLatch, Answers, Passes, Lives}

-- ---- what only grows

pub record Grows (u k : Known) : Type 0 where
  pub facts : Includes k.facts u.facts
  pub finds : KeepsFinds k.finds u.finds
  pub seen : Extends k.seen u.seen

grows_on : (u a k : Known) → Grows u a → Grows a k → Grows u k
grows_on u a k x y = record { facts = λ f h. y.facts f (x.facts f h); finds = λ f h. y.finds f (x.finds f h); seen = extends_on u.seen a.seen k.seen x.seen y.seen }

stays_grow : (s : ℕ) (u k : Known) → Stays s u k → Grows u k
stays_grow s u k x = record { facts = x.facts; finds = x.finds; seen = x.seen }

passes_grow : (limits : Limits) (s : ℕ) (line : Line) (reply : Reply) (u k : Known) → Passes limits s line reply u k → Grows u k
passes_grow limits s Phase reply u k p = stays_grow s u k p
passes_grow limits s (Merge range column) reply u k p = stays_grow s u k p
passes_grow limits s (Call t call) reply u k p = ⊎_elim (λ (x : (t ≢ s) × Stays s u k). stays_grow s u k x.1)
    (λ (x : (t ≡ s) × Answers limits s call reply u k). record { facts = x.1.facts; finds = x.1.finds; seen = x.1.seen }) p

pub lives_grow : (limits : Limits) (s : ℕ) (run : List Answered) (u k : Known) → Lives limits s run u k → Grows u k
lives_grow limits s [] u k x = stays_grow s u k x
lives_grow limits s (one ∷ run) u k x = grows_on u x.0 k (passes_grow limits s one.line one.reply u x.0 x.1) (lives_grow limits s run x.0 k x.2)

pub key_kept : (u k : Known) (rec key : ℕ) → Grows u k → HasKey u.facts rec key → HasKey k.facts rec key
key_kept u k rec key g h = (h.0, g.facts _ h.1)

-- ---- the state

pub passes_state : (limits : Limits) (s : ℕ) (line : Line) (reply : Reply) (u k : Known) → Passes limits s line reply u k → session_told k ≡ after_line s (answered line reply) (session_told u)
passes_state limits s Phase reply u k p = p.state
passes_state limits s (Merge range column) reply u k p = p.state
passes_state limits s (Call t call) reply u k p = ⊎_elim
    (λ (x : (t ≢ s) × Stays s u k). x.1.state ∙ sym (ap (λ (b : Bool). cond b (after_call call reply (session_told u)) (session_told u)) (ne_eqb t s x.0)))
    (λ (x : (t ≡ s) × Answers limits s call reply u k). x.1.state ∙ sym (ap (λ (b : Bool). cond b (after_call call reply (session_told u)) (session_told u)) (eq-eqb t s x.0))) p

pub lives_state : (limits : Limits) (s : ℕ) (run : List Answered) (u k : Known) → Lives limits s run u k → session_told k ≡ state_from (session_told u) s run
lives_state limits s [] u k x = x.state
lives_state limits s (one ∷ run) u k x = lives_state limits s run x.0 k x.2 ∙ ap (λ (st : SessionState). state_from st s run) (passes_state limits s one.line one.reply u x.0 x.1)

-- ---- a place of a run

-- what the session knew there, and knew then
pub record Here (limits : Limits) (s : ℕ) (before : List Answered) (call : CallKind) (reply : Reply) (after : List Answered) (u k : Known) : Type 0 where
  pub then : Known
  pub next : Known
  pub earlier : Lives limits s before u then
  pub answers : Answers limits s call reply then next
  pub later : Lives limits s after next k

pub stays_still : (s : ℕ) (u : Known) → Stays s u u
stays_still s u = record { facts = λ f h. h; finds = λ f h. h; seen = ([], sym (append-nil u.seen)); state = refl; mine = refl; drawn = refl; latched = refl; done = refl }

pub lives_at : (limits : Limits) (s : ℕ) (before : List Answered) (call : CallKind) (reply : Reply) (after : List Answered) (u k : Known)
    → Lives limits s (before ++ answered (Call s call) reply ∷ after) u k → Here limits s before call reply after u k
lives_at limits s [] call reply after u k x = ⊎_elim
    (λ (p : (s ≢ s) × Stays s u x.0). absurd (p.0 refl))
    (λ (p : (s ≡ s) × Answers limits s call reply u x.0). record { then = u; next = x.0; earlier = stays_still s u; answers = p.1; later = x.2 }) x.1
lives_at limits s (one ∷ before) call reply after u k x = let h = lives_at limits s before call reply after x.0 k x.2 in
    record { then = h.then; next = h.next; earlier = (x.0, x.1, h.earlier); answers = h.answers; later = h.later }

-- ---- records drawn

passes_drawn : (limits : Limits) (s : ℕ) (line : Line) (reply : Reply) (u k : Known) → Passes limits s line reply u k
    → length k.placing.drawn ≤ length u.placing.drawn + cond {A = ℕ} (is_by s (answered line reply) && may_take_record (answered line reply)) 1 0
passes_drawn limits s Phase reply u k p = let e = ap length p.drawn in omega arith
passes_drawn limits s (Merge range column) reply u k p = let e = ap length p.drawn in omega arith
passes_drawn limits s (Call t call) reply u k p = ⊎_elim
    (λ (x : (t ≢ s) × Stays s u k). let e = ap length x.1.drawn in omega arith)
    (λ (x : (t ≡ s) × Answers limits s call reply u k). let d = x.1.drawn in
    let e : cond {A = ℕ} (eqb t s && may_take_record (answered (Call t call) reply)) 1 0 ≡ cond {A = ℕ} (may_take_record (answered (Call t call) reply)) 1 0
    = ap (λ (b : Bool). cond {A = ℕ} (b && may_take_record (answered (Call t call) reply)) 1 0) (eq-eqb t s x.0) in omega arith) p

-- each record drawn came by an insert of the session's that may have taken one
pub lives_drawn : (limits : Limits) (s : ℕ) (run : List Answered) (u k : Known) → Lives limits s run u k
    → length k.placing.drawn ≤ length u.placing.drawn + count_by (λ one. is_by s one && may_take_record one) run
lives_drawn limits s [] u k x = let e = ap length x.drawn in omega arith
lives_drawn limits s (one ∷ run) u k x =
    let head = passes_drawn limits s one.line one.reply u x.0 x.1 in let rest = lives_drawn limits s run x.0 k x.2 in
    let split : count_by (λ y. is_by s y && may_take_record y) (one ∷ run) ≡ cond {A = ℕ} (is_by s one && may_take_record one) 1 0 + count_by (λ y. is_by s y && may_take_record y) run
    = sum_by-cons (λ y. cond {A = ℕ} (is_by s y && may_take_record y) 1 0) one run in omega arith

-- ---- records latched

-- the record's key has a line of the session's that may have held its latch
pub record Took (s : ℕ) (facts : List Fact) (run : List Answered) (rec : ℕ) : Type 0 where
  pub key : ℕ
  pub placed : HasKey facts rec key
  pub took : list_any (λ one. is_by s one && may_take_latch key one) run ≡ true

record TookHere (s : ℕ) (facts : List Fact) (line : Line) (reply : Reply) (rec : ℕ) : Type 0 where
  pub key : ℕ
  pub placed : HasKey facts rec key
  pub took : (is_by s (answered line reply) && may_take_latch key (answered line reply)) ≡ true

same_latched : (u k : Known) (rec : ℕ) (P : Type 0) → k.latched ≡ u.latched → Contains k.latched rec → Contains u.latched rec ⊎ P
same_latched u k rec P e h = inl (subst (λ (rs : List ℕ). Contains rs rec) e h)

named : (P : ℕ → Type 0) (o : Option ℕ) → IsSomeAnd o P → (key : ℕ) × P key × (names key o ≡ true)
named P None h = absurd h
named P (Some key) h = (key, h, eq-eqb key key refl)

own_latched : (s t : ℕ) (call : CallKind) (reply : Reply) (u k : Known) (rec : ℕ) → t ≡ s → MayLatch u k (key_of (write_of call)) reply → Contains k.latched rec
    → Contains u.latched rec ⊎ TookHere s k.facts (Call t call) reply rec
own_latched s t call reply u k rec is m h = ⊎_elim
    (λ (e : k.latched ≡ u.latched). same_latched u k rec (TookHere s k.facts (Call t call) reply rec) e h)
    (λ (x : (takes_no_latch reply ≡ false) × IsSomeAnd (key_of (write_of call)) (Latches u k)). let n = named (Latches u k) (key_of (write_of call)) x.1 in
    ⊎_elim (λ (old : Contains u.latched rec). inl old)
    (λ (e : n.1.rec ≡ rec). inr record {
      key = n.0;
      placed = subst (λ (r : ℕ). HasKey k.facts r n.0) e n.1.placed;
      took = and_from (eqb t s) (may_take_latch n.0 (answered (Call t call) reply)) (eq-eqb t s is) (and_from (names n.0 (key_of (write_of call))) (not (takes_no_latch reply)) n.2 (not_from_false (takes_no_latch reply) x.0));
    }) (Contains-push_cases u.latched n.1.rec rec (subst (λ (rs : List ℕ). Contains rs rec) n.1.latched h))) m

passes_latched : (limits : Limits) (s : ℕ) (line : Line) (reply : Reply) (u k : Known) (rec : ℕ) → Passes limits s line reply u k → Contains k.latched rec → Contains u.latched rec ⊎ TookHere s k.facts line reply rec
passes_latched limits s Phase reply u k rec p h = same_latched u k rec _ p.latched h
passes_latched limits s (Merge range column) reply u k rec p h = same_latched u k rec _ p.latched h
passes_latched limits s (Call t call) reply u k rec p h = ⊎_elim
    (λ (x : (t ≢ s) × Stays s u k). same_latched u k rec (TookHere s k.facts (Call t call) reply rec) x.1.latched h)
    (λ (x : (t ≡ s) × Answers limits s call reply u k). own_latched s t call reply u k rec x.0 x.1.latched h) p

-- each record on the list came by a line on its key
pub lives_latched : (limits : Limits) (s : ℕ) (run : List Answered) (u k : Known) (rec : ℕ) → Lives limits s run u k → Contains k.latched rec → Contains u.latched rec ⊎ Took s k.facts run rec
lives_latched limits s [] u k rec x h = same_latched u k rec _ x.latched h
lives_latched limits s (one ∷ run) u k rec x h = ⊎_elim
    (λ (old : Contains x.0.latched rec). ⊎_elim (λ (older : Contains u.latched rec). inl older)
    (λ (t : TookHere s x.0.facts one.line one.reply rec). inr record {
      key = t.key;
      placed = key_kept x.0 k rec t.key (lives_grow limits s run x.0 k x.2) t.placed;
      took = or_left (is_by s one && may_take_latch t.key one) (list_any (λ y. is_by s y && may_take_latch t.key y) run) t.took;
    }) (passes_latched limits s one.line one.reply u x.0 rec x.1 old))
    (λ (t : Took s k.facts run rec). inr record {
      key = t.key;
      placed = t.placed;
      took = or_right (is_by s one && may_take_latch t.key one) (list_any (λ y. is_by s y && may_take_latch t.key y) run) t.took;
    }) (lives_latched limits s run x.0 k rec x.2 h)
