-- A phase of all sessions: from the workers' contracts to the sessions'.
use Rattle.std.proofs.Common.{◌≡◌, ℕ, ◌+◌, ◌<◌, List, [], ◌∷◌, ◌++◌, Bool, true, false, cond, eqb, zero, suc, map, length, take, drop, get_or, Option, refl, sym, subst, ap, ◌∙◌, arith, append-nil, length-append}
use Rattle.std.specs.List.{All, AllByRecursion}
use Rattle.std.proofs.lemmas.Bool.{eq-eqb, ne_eqb}
use Rattle.std.proofs.lemmas.List.{get_or-map, length-map, get_or_append_left, get_or_past, get_or_push, get_or_default, drop_all}
use Rattle.std.proofs.Math.Seq.{take-length}
use Rattle.std.proofs.lemmas.List.Elements.{filter_agree, recursion_from_All, All-from_recursion, All-take, All-drop}
use Rattle.std.proofs.lemmas.List.Sums.{sum_by-cons, length-filter}
use Rattle.lst_layout.specs.declared.limits.Limits.{Limits}
use Rattle.lst_model.specs.declared.lines.Line.{Line}
use Rattle.lst_model.specs.declared.lines.Line.TheVariants.{Phase, Merge, Call}
use Rattle.lst_model.specs.declared.replies.Reply.{Reply}
use Rattle.lst_rule.specs.declared.view.View.{View}
use Rattle.lst_replies.specs.Runs.{speaker_of}
use Rattle.lst_rule.specs.declared.store.Store.{Store}
use Rattle.lst_session.specs.declared.session.Session.{Session}
use Rattle.lst_session.specs.Passes.{IsReady}
use Rattle.lst_work.specs.declared.workers.Worker.{Worker}
use Rattle.lst_work_laws.specs.Runs.{lines_of, Runs}
use Rattle.lst_work_laws.specs.Merges.{merges_of, Merging}
use Rattle.lst_work_laws.specs.Runs.{CanRun}
use Rattle.lst_work.specs.declared.blocks.Block.{Block}
use Rattle.lst_work.specs.Blocks.{block_length, first_blocks, blocks_of, joined, parts_at, AreAsLong, AreInBlockOrder}
use Rattle.lst_work.specs.Workers.{AreReady, HaveRun, parts_of}
use Rattle.lst_work_laws.specs.Orders.{queue_of, replies_from}
use Rattle.lst_work.specs.Orders.{queue_at, lines_from, AreInOrder}
use Rattle.lst_work.specs.Hiring.{IsNew, AreHired, HaveSaid, sessions_of, reads_of, replies_of, said_in}
use Rattle.lst_work.specs.Parts.{AllCarryOn, pass_at}
use Rattle.lst_work.specs.Reads.{pass_of}
use Rattle.lst_work.specs.declared.reads.Reads.{Reads}
use Rattle.lst_legal_runs.specs.declared.levels.Level.{Level}
use Rattle.lst_work_laws.specs.Keeping.{Pass, CarriesOn}
use Rattle.lst_work_laws.specs.Laws.{answered_all, own_run}
use Rattle.lst_work.proofs.Running.{carries_as, pass_in}
use Rattle.lst_work_laws.specs.Whole.{AreAll, IsPhase}
use Rattle.lst_work_laws.proofs.Lists.{element}
use Rattle.lst_work_laws.proofs.Weaving.{queue_is}
use Rattle.lst_work.proofs.InBlocks.{joined_blocks}
use Rattle.lst_work.proofs.Parting.{by_place, said_below, said_last, said_past}

-- ---- lists

-- a slice of a vector that was written back whole
pub written : {X : Type 0} (items new : List X) (n : ℕ) → length new ≡ length items → n ≡ length items → take n (new ++ drop (length new) items) ≡ new
written {X} items new n long is =
    ap (λ (zs : List X). take n (new ++ zs)) (drop_all (length new) items (omega arith)) ∙ (ap (take n) (append-nil new) ∙ (ap (λ (k : ℕ). take k new) (is ∙ sym long) ∙ take-length new))

-- ---- how many lines have their replies in a queue

own_count : (n queue : ℕ) (lines : List Line) → queue < n → length (lines_of queue lines) ≡ lines_from n queue lines
own_count n queue lines low = ap length (filter_agree _ (λ (line : Line). eqb (queue_of n (speaker_of line)) queue) (λ line. queue_is n queue (speaker_of line) low) lines) ∙ length-filter (λ (line : Line). eqb (queue_of n (speaker_of line)) queue) lines

module _ (l : Limits) where
  step : (queue : ℕ) (line : Line) (lines : List Line) (b : Bool) → eqb (queue_of l.sessions (speaker_of line)) queue ≡ b → lines_from l.sessions queue (line ∷ lines) ≡ cond {A = ℕ} b 1 0 + lines_from l.sessions queue lines
  step queue line lines b e = sum_by-cons (λ (x : Line). cond {A = ℕ} (eqb (queue_of l.sessions (speaker_of x)) queue) 1 0) line lines ∙ ap (λ (t : Bool). cond {A = ℕ} t 1 0 + lines_from l.sessions queue lines) e

  merge_count : (lines : List Line) → AllByRecursion (CanRun l) lines → length (merges_of lines) ≡ lines_from l.sessions l.sessions lines
  merge_count [] all = refl
  merge_count (Phase ∷ lines) all = absurd all.0.within
  merge_count (Merge range column ∷ lines) all = let h = merge_count lines all.1 in let e = step l.sessions (Merge range column) lines true (eq-eqb l.sessions l.sessions refl) in omega arith
  merge_count (Call t call ∷ lines) all = let h = merge_count lines all.1 in let low = all.0.fits.0 in let e = step l.sessions (Call t call) lines false (ne_eqb t l.sessions (λ z. absurd (omega arith))) in omega arith

  none_count : (queue : ℕ) (lines : List Line) → l.sessions < queue → AllByRecursion (CanRun l) lines → 0 ≡ lines_from l.sessions queue lines
  none_count queue [] past all = refl
  none_count queue (Phase ∷ lines) past all = absurd all.0.within
  none_count queue (Merge range column ∷ lines) past all = let h = none_count queue lines past all.1 in let e = step queue (Merge range column) lines false (ne_eqb l.sessions queue (λ z. absurd (omega arith))) in omega arith
  none_count queue (Call t call ∷ lines) past all = let h = none_count queue lines past all.1 in let low = all.0.fits.0 in let e = step queue (Call t call) lines false (ne_eqb t queue (λ z. absurd (omega arith))) in omega arith

  -- the same of each block
  module _ (queue : ℕ) (count : List Line → ℕ) (is : (lines : List Line) → AllByRecursion (CanRun l) lines → count lines ≡ lines_from l.sessions queue lines) where
    first_counts : (n : ℕ) (lines : List Line) → All (CanRun l) lines → map count (first_blocks n lines) ≡ map (lines_from l.sessions queue) (first_blocks n lines)
    first_counts n [] can = refl
    first_counts zero (line ∷ lines) can = refl
    first_counts (suc n) (line ∷ lines) can =
        ap (λ (k : ℕ). k ∷ map count (first_blocks n (drop block_length (line ∷ lines)))) (is (take block_length (line ∷ lines)) (recursion_from_All (CanRun l) (take block_length (line ∷ lines)) (All-take (CanRun l) block_length (line ∷ lines) can)))
        ∙ ap (λ (ks : List ℕ). lines_from l.sessions queue (take block_length (line ∷ lines)) ∷ ks) (first_counts n (drop block_length (line ∷ lines)) (All-drop (CanRun l) block_length (line ∷ lines) can))

    counts : (lines : List Line) → All (CanRun l) lines → map count (blocks_of lines) ≡ map (lines_from l.sessions queue) (blocks_of lines)
    counts lines can = first_counts (length lines) lines can

-- nothing in as many parts as there are blocks
no_lengths : (parts : List (List Reply)) (blocks : List (List Line)) → length parts ≡ length blocks → map (length {A = Reply}) (map (λ (part : List Reply). []) parts) ≡ map (λ (block : List Line). 0) blocks
no_lengths [] [] e = refl
no_lengths [] (block ∷ blocks) e = absurd (omega arith)
no_lengths (part ∷ parts) [] e = absurd (omega arith)
no_lengths (part ∷ parts) (block ∷ blocks) e = ap (λ (ns : List ℕ). 0 ∷ ns) (no_lengths parts blocks (omega arith))

no_replies : (parts : List (List Reply)) → joined {X = Reply} (map (λ (part : List Reply). []) parts) ≡ []
no_replies [] = refl
no_replies (part ∷ parts) = no_replies parts

-- ---- the phase

module _ (store : Store) (lines : List Line) (level : Level) (old : List Session) (kept : List Reads) (first last : List Worker) (all : AreAll store old) (hires : AreHired level old kept first) where
  many : length first ≡ length old
  many = sym (length-map first (λ (w : Worker). w.session)) ∙ ap length hires.sessions_are

  session_at : (k : ℕ) (d : Worker) → k < length first → (get_or first k d).session ≡ get_or old k d.session
  session_at k d low = sym (get_or-map (λ (w : Worker). w.session) first k d d.session low) ∙ ap (λ (ss : List Session). get_or ss k d.session) hires.sessions_are

  pub ready_first : AreReady store first
  ready_first k d low = subst (IsReady store) (sym (session_at k d low)) (all.ready k d.session (subst (λ (n : ℕ). k < n) many low))

  new_at : (ws : List Worker) → AllByRecursion (IsNew level) ws → (k : ℕ) (d : Worker) → k < length ws → IsNew level (get_or ws k d)
  new_at ws news = All-from_recursion (IsNew level) ws news

  read_at : (k : ℕ) (d : Worker) → k < length first → (get_or first k d).reads ≡ get_or kept k d.reads
  read_at k d low = sym (get_or-map (λ (w : Worker). w.reads) first k d d.reads low) ∙ ap (λ (rs : List Reads). get_or rs k d.reads) hires.reads_are

  module _ (ran : HaveRun lines first last) (long : length last ≡ length first) (ready : AreReady store last) where
    number_at : (k : ℕ) (d : Worker) → k < length first → (get_or first k d).session.number ≡ k
    number_at k d low = ap (λ (s : Session). s.number) (session_at k d low) ∙ all.number k d.session (subst (λ (n : ℕ). k < n) many low)

    pub all_after : AreAll store (sessions_of last)
    all_after = record {
      count = length-map last (λ (w : Worker). w.session) ∙ (long ∙ (many ∙ all.count));
      number = λ s d low. let inside : s < length last = subst (λ (n : ℕ). s < n) (length-map last (λ (w : Worker). w.session)) low in let x = element last s inside in let before : s < length first = subst (λ (n : ℕ). s < n) long inside in
          ap (λ (t : Session). t.number) (get_or-map (λ (w : Worker). w.session) last s x d inside) ∙ ((ran s x before).number ∙ number_at s x before);
      ready = λ s d low. let inside : s < length last = subst (λ (n : ℕ). s < n) (length-map last (λ (w : Worker). w.session)) low in let x = element last s inside in
          subst (IsReady store) (sym (get_or-map (λ (w : Worker). w.session) last s x d inside)) (ready s x inside);
    }

    -- what the session's worker has said
    said_is : (k : ℕ) (d : Worker) (low : k < length first) → parts_of (get_or last k d) ≡ (ran k d low).parts
    said_is k d low = (ran k d low).grows ∙ ap (λ (ps : List (List Reply)). ps ++ (ran k d low).parts) (new_at first hires.all_new k d low).parts

    pub have_said : (parts : List (List Reply)) → length parts ≡ length (blocks_of lines) → HaveSaid last (length parts)
    have_said parts many_parts k d low = let inside : k < length first = subst (λ (n : ℕ). k < n) long low in
        ap length (said_is k d inside) ∙ (sym (length-map (ran k d inside).parts length) ∙ (ap length (ran k d inside).long
        ∙ (length-map (blocks_of lines) (λ (block : List Line). length (lines_of (get_or first k d).session.number block)) ∙ sym many_parts)))

    pub wide : length last ≡ store.layout.limits.sessions
    wide = long ∙ (many ∙ all.count)

    module _ (can : All (CanRun store.layout.limits) lines) (merges : List (List Reply)) (merged : map length merges ≡ map (λ (block : List Line). length (merges_of block)) (blocks_of lines)) where
      pub as_many : length merges ≡ length (blocks_of lines)
      as_many = sym (length-map merges length) ∙ (ap length merged ∙ length-map (blocks_of lines) (λ (block : List Line). length (merges_of block)))

      -- how much was said in each queue, block by block
      lengths : (queue : ℕ) → map length (said_in last merges queue) ≡ map (lines_from store.layout.limits.sessions queue) (blocks_of lines)
      lengths queue = by_place queue (length last)
          (λ low. let d = element last queue low in let inside : queue < length first = subst (λ (n : ℕ). queue < n) long low in
          ap (map length) (said_below last merges queue d low ∙ said_is queue d inside) ∙ ((ran queue d inside).long
          ∙ (ap (λ (s : ℕ). map (λ (block : List Line). length (lines_of s block)) (blocks_of lines)) (number_at queue d inside)
          ∙ counts store.layout.limits queue (λ block. length (lines_of queue block)) (λ block own. own_count store.layout.limits.sessions queue block (subst (λ (n : ℕ). queue < n) wide low)) lines can)))
          (λ e. ap (map length) (said_last last merges queue e) ∙ (merged
          ∙ (counts store.layout.limits store.layout.limits.sessions (λ block. length (merges_of block)) (λ block own. merge_count store.layout.limits block own) lines can
          ∙ ap (λ (q : ℕ). map (lines_from store.layout.limits.sessions q) (blocks_of lines)) (sym (e ∙ wide)))))
          (λ past. ap (map length) (said_past last merges queue past) ∙ (no_lengths merges (blocks_of lines) as_many
          ∙ counts store.layout.limits queue (λ block. 0) (λ block own. none_count store.layout.limits queue block (subst (λ (n : ℕ). n < queue) wide past) own) lines can))

      pub as_long : (blocks : List Block) → ((queue : ℕ) → parts_at blocks queue ≡ said_in last merges queue) → AreAsLong store.layout.limits.sessions lines blocks
      as_long blocks parts queue = ap (map length) (parts queue) ∙ lengths queue

    -- the order of the phase, from that of its blocks
    pub in_order : (merges : List (List Reply)) (blocks : List Block) (replies : List (Option ℕ × Reply)) → ((queue : ℕ) → parts_at blocks queue ≡ said_in last merges queue)
        → AreInBlockOrder store.layout.limits.sessions lines blocks replies → AreInOrder store.layout.limits.sessions lines (replies_of last ++ joined merges ∷ []) replies
    in_order merges blocks replies parts x = record {
      speakers = x.speakers;
      own = λ queue. x.own queue ∙ (ap joined (parts queue) ∙ by_place queue (length last)
          (λ low. let d = element last queue low in
          ap joined (said_below last merges queue d low)
          ∙ sym (get_or_append_left (replies_of last) (joined merges ∷ []) [] queue (subst (λ (n : ℕ). queue < n) (sym (length-map last (λ (w : Worker). joined (parts_of w)))) low)
          ∙ get_or-map (λ (w : Worker). joined (parts_of w)) last queue d [] low))
          (λ e. ap joined (said_last last merges queue e) ∙ sym (get_or_push (replies_of last) (joined merges) [] queue (length-map last (λ (w : Worker). joined (parts_of w)) ∙ sym e)))
          (λ past. ap joined (said_past last merges queue past) ∙ (no_replies merges
          ∙ sym (get_or_past (replies_of last ++ joined merges ∷ []) queue [] (let a = length-append (replies_of last) (joined merges ∷ []) in let b = length-map last (λ (w : Worker). joined (parts_of w)) in omega arith)))));
    }

    queue_is_own : (merges : List Reply) (k : ℕ) (d : Worker) (low : k < length first) → queue_at (replies_of last ++ merges ∷ []) k ≡ joined (ran k d low).parts
    queue_is_own merges k d low =
        let inside : k < length last = subst (λ (n : ℕ). k < n) (sym long) low in
        get_or_append_left (replies_of last) (merges ∷ []) [] k (subst (λ (n : ℕ). k < n) (sym (length-map last (λ (w : Worker). joined (parts_of w)))) inside)
        ∙ (get_or-map (λ (w : Worker). joined (parts_of w)) last k d [] inside ∙ ap joined (said_is k d low))

    pub phase_is : (m n : View) (merges : List Reply) (replies : List (Option ℕ × Reply)) → Merging (merges_of lines) merges m n → AreInOrder store.layout.limits.sessions lines (replies_of last ++ merges ∷ []) replies
        → IsPhase lines old (sessions_of last) m n replies
    phase_is m n merges replies merged ordered = record {
      speakers = ordered.speakers;
      merging =
          let wide : length (replies_of last) ≡ length old = length-map last (λ (w : Worker). joined (parts_of w)) ∙ (long ∙ many) in
          let own : merges ≡ replies_from (length old) (length old) replies =
          sym (get_or_push (replies_of last) merges [] (length old) wide) ∙ (sym (ordered.own (length old)) ∙ ap (λ (k : ℕ). replies_from k (length old) replies) (sym all.count)) in
          subst (λ (rs : List Reply). Merging (merges_of lines) rs m n) own merged;
      runs = λ s d low.
          let inside : s < length first = subst (λ (n : ℕ). s < n) (sym many) low in
          let x = element first s inside in let r = ran s x inside in let after : s < length last = subst (λ (n : ℕ). s < n) (sym long) inside in
          let here : Runs s (lines_of s lines) (joined r.parts) (get_or first s x).session.seat.view (get_or last s x).session.seat.view =
          subst (λ (n : ℕ). Runs n (lines_of n lines) (joined r.parts) (get_or first s x).session.seat.view (get_or last s x).session.seat.view) (number_at s x inside)
          (subst (λ (ls : List Line). Runs (get_or first s x).session.number (lines_of (get_or first s x).session.number ls) (joined r.parts) (get_or first s x).session.seat.view (get_or last s x).session.seat.view) (joined_blocks lines) r.runs) in
          let own : joined r.parts ≡ replies_from (length old) s replies = sym (queue_is_own merges s x inside) ∙ (sym (ordered.own s) ∙ ap (λ (k : ℕ). replies_from k s replies) (sym all.count)) in
          subst (λ (a : Session). Runs s (lines_of s lines) (replies_from (length old) s replies) a.seat.view (get_or (sessions_of last) s d).seat.view) (session_at s x inside ∙ get_or_default old s x.session d low)
          (subst (λ (b : Session). Runs s (lines_of s lines) (replies_from (length old) s replies) (get_or first s x).session.seat.view b.seat.view) (sym (get_or-map (λ (w : Worker). w.session) last s x d after))
          (subst (λ (rs : List Reply). Runs s (lines_of s lines) rs (get_or first s x).session.seat.view (get_or last s x).session.seat.view) own here));
    }

    -- what each session kept along its own lines, it keeps along those of the phase
    pub phase_carries : (merges : List Reply) (replies : List (Option ℕ × Reply)) → AreInOrder store.layout.limits.sessions lines (replies_of last ++ merges ∷ []) replies
        → AllCarryOn level (λ s. own_run (length old) s lines replies) old (sessions_of last) kept (reads_of last)
    phase_carries merges replies ordered s d e low =
        let inside : s < length first = subst (λ (n : ℕ). s < n) (sym many) low in
        let x = element first s inside in let r = ran s x inside in let after : s < length last = subst (λ (n : ℕ). s < n) (sym long) inside in
        let as_many : length kept ≡ length first = sym (ap length hires.reads_are) ∙ length-map first (λ (w : Worker). w.reads) in
        let a : Worker = get_or first s x in let b : Worker = get_or last s x in
        let whole : CarriesOn a.level a.session.number (answered_all (lines_of a.session.number lines) (joined r.parts)) (pass_in a) (pass_in b) =
        subst (λ (ls : List Line). CarriesOn a.level a.session.number (answered_all (lines_of a.session.number ls) (joined r.parts)) (pass_in a) (pass_in b)) (joined_blocks lines) r.carries in
        let here : CarriesOn level s (answered_all (lines_of s lines) (joined r.parts)) (pass_in a) (pass_in b) =
        carries_as level a.level s a.session.number lines (joined r.parts) (pass_in a) (pass_in b) (new_at first hires.all_new s x inside).level_is (number_at s x inside) whole in
        let own : joined r.parts ≡ replies_from (length old) s replies = sym (queue_is_own merges s x inside) ∙ (sym (ordered.own s) ∙ ap (λ (k : ℕ). replies_from k s replies) (sym all.count)) in
        let from : pass_in a ≡ pass_at old kept s d e = λ i. pass_of ((session_at s x inside ∙ get_or_default old s x.session d low) i) ((read_at s x inside ∙ get_or_default kept s x.reads e (omega arith)) i) in
        let to : pass_in b ≡ pass_at (sessions_of last) (reads_of last) s d e = λ i. pass_of (sym (get_or-map (λ (w : Worker). w.session) last s x d after) i) (sym (get_or-map (λ (w : Worker). w.reads) last s x e after) i) in
        subst (λ (p : Pass). CarriesOn level s (own_run (length old) s lines replies) p (pass_at (sessions_of last) (reads_of last) s d e)) from
        (subst (λ (p : Pass). CarriesOn level s (own_run (length old) s lines replies) (pass_in a) p) to
        (subst (λ (rs : List Reply). CarriesOn level s (answered_all (lines_of s lines) rs) (pass_in a) (pass_in b)) own here))
