-- What the merges of a run tell, and what they leave of the merger: by induction over the lines.
use Rattle.std.proofs.Common.{◌≡◌, inl, inr, ℕ, ◌+◌, ◌*◌, ◌<◌, ◌≤◌, List, [], ◌∷◌, ◌++◌, Bool, true, false, ◌&&◌, cond, eqb, length, map, Option, Some, None, refl, sym, subst, ap, ◌∙◌, arith, append_assoc, append-nil, length-append}
use Rattle.std.specs.List.{count_by, Contains, cons_option, AllByRecursion}
use Rattle.std.proofs.lemmas.Bool.{eq-eqb, ne_eqb, eqb-true, and_parts, and_from}
use Rattle.std.proofs.lemmas.List.Elements.{Contains-append_left, Contains-append_right}
use Rattle.std.proofs.lemmas.List.Sums.{sum_by-cons, sum_by-append}
use Rattle.lst_layout.specs.declared.limits.Limits.{Limits}
use Rattle.lst_model.specs.declared.lines.Line.{Line}
use Rattle.lst_model.specs.declared.lines.Line.TheVariants.{Phase, Merge, Call}
use Rattle.lst_model.specs.declared.replies.Reply.{Reply}
use Rattle.lst_model.specs.declared.replies.Reply.TheVariants.{Merged, NothingNew, NoFrame}
use Rattle.lst_core_state.specs.declared.facts.Find.{Find}
use Rattle.lst_core_state.specs.declared.facts.Find.TheVariants.{CountedTails, EmptyStart, UnfinishedVersion}
use Rattle.lst_core_state.specs.declared.known.Known.{Known}
use Rattle.lst_core_state.specs.declared.pages.MergerFrames.{MergerFrames}
use Rattle.lst_pages.specs.Runs.{tps_known}
use Rattle.lst_pages.specs.Sound.{IsPage}
use Rattle.lst_rule.specs.declared.view.View.{View}
use Rattle.lst_rule.specs.Rule.{knows}
use Rattle.lst_rule.specs.PageSteps.{stock_of}
use Rattle.lst_rule.specs.Statuses.{FoundSince}
use Rattle.lst_retire.specs.Frames.{FindsHeld}
use Rattle.lst_session.specs.declared.kinds.Merge.TheVariants as merges
use Rattle.lst_merge.specs.Inspections.{merger_of, Inspects}
use Rattle.lst_session.specs.Merges.{MergerLearns, Merges}
use Rattle.lst_merge.specs.Runs.{StopsAt}
use Rattle.lst_replies.specs.Runs.{Answered, answered, speaker_of}
use Rattle.lst_replies.specs.Explained.{merged_after}
use Rattle.lst_session.specs.Lines.{MergeLeaves}
use Rattle.lst_work_laws.specs.Merges.{merges_of, Merging}
use Rattle.lst_work_laws.specs.Runs.{CanRun}
use Rattle.lst_work_laws.proofs.Counting.{one_counted}
use Rattle.lst_work_laws.specs.Orders.{queue_of, replies_from}
use Rattle.lst_work_laws.specs.Laws.{phase_run}
use Rattle.lst_work_laws.specs.Works.{MergePasses, MergesIn, tells_merged, tells_nothing_new, tells_no_frame, is_stop_find, merged_by, MergeIsTold, MergerWorks}

-- ---- among the lines of sessions

module _ (l : Limits) where
  pub merges_among : (lines : List Line) (replies : List (Option ℕ × Reply)) (m n : View) → AllByRecursion (CanRun l) lines → map (λ reply. reply.0) replies ≡ map speaker_of lines
      → Merging (merges_of lines) (replies_from l.sessions l.sessions replies) m n → MergesIn (phase_run lines replies) m n
  merges_among [] [] m n can e x = x
  merges_among [] (reply ∷ replies) m n can e x = absurd (cc)
  merges_among (line ∷ lines) [] m n can e x = absurd (cc)
  merges_among (Phase ∷ lines) (reply ∷ replies) m n can e x = absurd can.0.within
  merges_among (Merge range column ∷ lines) (reply ∷ replies) m n can e x =
      let head : reply.0 ≡ None = cc in let rest : map (λ r. r.0) replies ≡ map speaker_of lines = cc in
      let y = subst (λ (b : Bool). Merging (Merge range column ∷ merges_of lines) (cons_option (cond b (Some reply.1) None) (replies_from l.sessions l.sessions replies)) m n)
      (ap (λ (o : Option ℕ). eqb (queue_of l.sessions o) l.sessions) head ∙ eq-eqb l.sessions l.sessions refl) x in
      (y.0, y.1, merges_among lines replies y.0 n can.1 rest y.2)
  merges_among (Call t call ∷ lines) (reply ∷ replies) m n can e x =
      let head : reply.0 ≡ Some t = cc in let rest : map (λ r. r.0) replies ≡ map speaker_of lines = cc in let low = can.0.fits.0 in
      let y = subst (λ (b : Bool). Merging (merges_of lines) (cons_option (cond b (Some reply.1) None) (replies_from l.sessions l.sessions replies)) m n)
      (ap (λ (o : Option ℕ). eqb (queue_of l.sessions o) l.sessions) head ∙ ne_eqb t l.sessions (λ is. absurd (omega arith))) x in
      (m, refl, merges_among lines replies m n can.1 rest y)

-- one run behind another
pub merges_then : (xs ys : List Answered) (m u n : View) → MergesIn xs m u → MergesIn ys u n → MergesIn (xs ++ ys) m n
merges_then [] ys m u n x y = subst (λ (v : View). MergesIn ys v n) x y
merges_then (one ∷ xs) ys m u n x y = (x.0, x.1, merges_then xs ys x.0 u n x.2 y)

-- the end of a phase between them
pub merges_phase : (xs ys : List Answered) (reply : Reply) (m u n : View) → MergesIn xs m u → MergesIn ys u n → MergesIn (xs ++ answered Phase reply ∷ ys) m n
merges_phase xs ys reply m u n x y = merges_then xs (answered Phase reply ∷ ys) m u n x (u, refl, y)

-- ---- one line

-- what a line leaves of the merger
record Goes (one : Answered) (m u : View) : Type 0 where
  limits : u.limits ≡ m.limits
  swaps : (stock_of u).epoch ≡ (stock_of m).epoch + cond {A = ℕ} (tells_merged one) 1 0
  stops : count_by is_stop_find (merger_of m).finds + cond {A = ℕ} (tells_nothing_new one) 1 0 ≤ count_by is_stop_find (merger_of u).finds
  more : List ℕ
  held : (stock_of u).held ≡ (stock_of m).held ++ more
  wanting : cond {A = ℕ} (tells_no_frame one) 1 0 ≤ length more
  tps : (r c : ℕ) → IsPage m.limits r c → tps_known (stock_of u) r c ≡ merged_after r c (tps_known (stock_of m) r c) one

stays : (one : Answered) (m u : View) → u ≡ m → tells_merged one ≡ false → tells_nothing_new one ≡ false → tells_no_frame one ≡ false → ((r c last : ℕ) → merged_after r c last one ≡ last) → Goes one m u
stays one m u still merged nothing wanting last = subst (Goes one m) (sym still) record {
  limits = refl;
  swaps = let e : cond {A = ℕ} (tells_merged one) 1 0 ≡ 0 = ap (λ (b : Bool). cond {A = ℕ} b 1 0) merged in omega arith;
  stops = let e : cond {A = ℕ} (tells_nothing_new one) 1 0 ≡ 0 = ap (λ (b : Bool). cond {A = ℕ} b 1 0) nothing in omega arith;
  more = [];
  held = sym (append-nil (stock_of m).held);
  wanting = let e : cond {A = ℕ} (tells_no_frame one) 1 0 ≡ 0 = ap (λ (b : Bool). cond {A = ℕ} b 1 0) wanting in omega arith;
  tps = λ r c page. sym (last r c (tps_known (stock_of m) r c));
}

same_stock : (v w : View) → Inspects v w v.limits.sessions → stock_of w ≡ stock_of v
same_stock v w x = ap (λ (l : Limits). (knows w l.sessions).pages.stock) x.view.limits ∙ ap (λ (k : Known). k.pages.stock) x.view.now

held_more : (v w : View) (s : ℕ) → FindsHeld v w s → (stock_of w).held ≡ (stock_of v).held ++ s ∷ []
held_more v w s x = ap (λ (l : Limits). (knows w l.sessions).pages.stock.held) x.view.limits ∙ ap (λ (k : Known). k.pages.stock.held) x.view.now

more_finds : (v w : View) (x : MergerLearns v w) → (merger_of w).finds ≡ (merger_of v).finds ++ x.finds
more_finds v w x = ap (λ (l : Limits). (knows w l.sessions).finds) x.view.limits ∙ ap (λ (k : Known). k.finds) x.view.now

finds_low : (v w : View) → MergerLearns v w → count_by is_stop_find (merger_of v).finds ≤ count_by is_stop_find (merger_of w).finds
finds_low v w x = let g = ap (count_by is_stop_find) (more_finds v w x) in let b = sum_by-append (λ (f : Find). cond {A = ℕ} (is_stop_find f) 1 0) (merger_of v).finds x.finds in omega arith

since_counts : (u v : Known) (f : Find) → FoundSince u v f → is_stop_find f ≡ true → count_by is_stop_find u.finds + 1 ≤ count_by is_stop_find v.finds
since_counts u v f x e =
    let g = ap (count_by is_stop_find) x.1 in let b = sum_by-append (λ (h : Find). cond {A = ℕ} (is_stop_find h) 1 0) u.finds x.0 in
    let c = one_counted is_stop_find x.0 f x.2 e in omega arith

stops_count : (l : Limits) (u v : Known) (range n : ℕ) → StopsAt l u v range n → count_by is_stop_find u.finds + 1 ≤ count_by is_stop_find v.finds
stops_count l u v range n (inl h) = since_counts u v (CountedTails range h.0) h.1 refl
stops_count l u v range n (inr (inl h)) = since_counts u v (EmptyStart (range * l.tails + n)) h refl
stops_count l u v range n (inr (inr h)) = since_counts u v (UnfinishedVersion h.0 (range * l.tails + n) h.1 h.2 0) h.3 refl

module _ (m u : View) (range column : ℕ) where
  merged_goes : (tps : ℕ) → Merges m u range column (merges.Merged tps) → Goes (answered (Merge range column) (Merged tps)) m u
  merged_goes tps x = record {
    limits = x.learns.view.limits;
    swaps = x.is.once.epoch;
    stops = let low = finds_low m u x.learns in omega arith;
    more = [];
    held = x.is.held ∙ sym (append-nil (stock_of m).held);
    wanting = omega arith;
    tps = λ r c page. by_test r c page (eqb range r && eqb column c) refl;
  }
    where
      by_test : (r c : ℕ) → IsPage m.limits r c → (b : Bool) → (eqb range r && eqb column c) ≡ b → tps_known (stock_of u) r c ≡ cond b tps (tps_known (stock_of m) r c)
      by_test r c page true e =
          let both = and_parts (eqb range r) (eqb column c) e in
          subst (λ (p : ℕ). tps_known (stock_of u) p c ≡ tps) (eqb-true range r both.0) (subst (λ (p : ℕ). tps_known (stock_of u) range p ≡ tps) (eqb-true column c both.1) x.is.tps)
      by_test r c page false e = x.is.others r c page (λ h. absurd (let same : (eqb range r && eqb column c) ≡ true = and_from (eqb range r) (eqb column c) (eq-eqb range r (sym h.0)) (eq-eqb column c (sym h.1)) in cc (e, same)))

  nothing_goes : (tps : ℕ) → Merges m u range column (merges.Idle tps) → Goes (answered (Merge range column) (NothingNew tps)) m u
  nothing_goes tps x = record {
    limits = x.learns.view.limits;
    swaps = let e = ap (λ (f : MergerFrames). f.epoch) x.is.stock in omega arith;
    stops = stops_count m.limits (merger_of m) (merger_of u) range (tps + 1) x.is.stops;
    more = [];
    held = ap (λ (f : MergerFrames). f.held) x.is.stock ∙ sym (append-nil (stock_of m).held);
    wanting = omega arith;
    tps = λ r c page. ap (λ (f : MergerFrames). tps_known f r c) x.is.stock;
  }

  -- the session's pin is one more find
  wanting_held : (session : ℕ) → Merges m u range column (merges.NoFrame session) → (stock_of u).held ≡ (stock_of m).held ++ session ∷ []
  wanting_held session x = held_more x.is.found u session x.is.held ∙ ap (λ (f : MergerFrames). f.held ++ session ∷ []) (same_stock m x.is.found x.is.inspects)

  wanting_goes : (session : ℕ) → Merges m u range column (merges.NoFrame session) → Goes (answered (Merge range column) (NoFrame session)) m u
  wanting_goes session x = record {
    limits = x.learns.view.limits;
    swaps = let e = x.is.epoch in omega arith;
    stops = let low = finds_low m u x.learns in omega arith;
    more = session ∷ [];
    held = wanting_held session x;
    wanting = omega arith;
    tps = λ r c page. x.is.tps r c;
  }

line_goes : (line : Line) (reply : Reply) (m u : View) → MergePasses line reply m u → Goes (answered line reply) m u
line_goes Phase reply m u x = stays (answered Phase reply) m u x refl refl refl (λ r c last. refl)
line_goes (Call session call) reply m u x = stays (answered (Call session call) reply) m u x refl refl refl (λ r c last. refl)
line_goes (Merge range column) (Merged tps) m u x = merged_goes m u range column tps x
line_goes (Merge range column) (NothingNew tps) m u x = nothing_goes m u range column tps x
line_goes (Merge range column) (NoFrame session) m u x = wanting_goes m u range column session x
line_goes (Merge range column) reply m u x = absurd x

-- ---- together

merges_limits : (run : List Answered) (m n : View) → MergesIn run m n → n.limits ≡ m.limits
merges_limits [] m n x = ap (λ (v : View). v.limits) x
merges_limits (one ∷ run) m n x = merges_limits run x.0 n x.2 ∙ (line_goes one.line one.reply m x.0 x.1).limits

merges_swap : (run : List Answered) (m n : View) → MergesIn run m n → (stock_of n).epoch ≡ (stock_of m).epoch + count_by tells_merged run
merges_swap [] m n x = let e = ap (λ (v : View). (stock_of v).epoch) x in omega arith
merges_swap (one ∷ run) m n x =
    let h = merges_swap run x.0 n x.2 in let g : (stock_of x.0).epoch ≡ (stock_of m).epoch + cond {A = ℕ} (tells_merged one) 1 0 = (line_goes one.line one.reply m x.0 x.1).swaps in
    let e : count_by tells_merged (one ∷ run) ≡ cond {A = ℕ} (tells_merged one) 1 0 + count_by tells_merged run = sum_by-cons (λ (o : Answered). cond {A = ℕ} (tells_merged o) 1 0) one run in omega arith

merges_stop : (run : List Answered) (m n : View) → MergesIn run m n → count_by is_stop_find (merger_of m).finds + count_by tells_nothing_new run ≤ count_by is_stop_find (merger_of n).finds
merges_stop [] m n x = let e = ap (λ (v : View). count_by is_stop_find (merger_of v).finds) x in omega arith
merges_stop (one ∷ run) m n x =
    let h = merges_stop run x.0 n x.2 in let g : count_by is_stop_find (merger_of m).finds + cond {A = ℕ} (tells_nothing_new one) 1 0 ≤ count_by is_stop_find (merger_of x.0).finds = (line_goes one.line one.reply m x.0 x.1).stops in
    let e : count_by tells_nothing_new (one ∷ run) ≡ cond {A = ℕ} (tells_nothing_new one) 1 0 + count_by tells_nothing_new run = sum_by-cons (λ (o : Answered). cond {A = ℕ} (tells_nothing_new o) 1 0) one run in omega arith

merges_hold : (run : List Answered) (m n : View) → MergesIn run m n → (more : List ℕ) × ((stock_of n).held ≡ (stock_of m).held ++ more) × (count_by tells_no_frame run ≤ length more)
merges_hold [] m n x = ([], ap (λ (v : View). (stock_of v).held) x ∙ sym (append-nil (stock_of m).held), omega arith)
merges_hold (one ∷ run) m n x =
    let h = merges_hold run x.0 n x.2 in let g = line_goes one.line one.reply m x.0 x.1 in (
      g.more ++ h.0,
      h.1 ∙ (ap (λ (ss : List ℕ). ss ++ h.0) g.held ∙ append_assoc (stock_of m).held g.more h.0),
      (let few = h.2 in let wanting : cond {A = ℕ} (tells_no_frame one) 1 0 ≤ length g.more = g.wanting in
          let e : count_by tells_no_frame (one ∷ run) ≡ cond {A = ℕ} (tells_no_frame one) 1 0 + count_by tells_no_frame run = sum_by-cons (λ (o : Answered). cond {A = ℕ} (tells_no_frame o) 1 0) one run in
          omega (arith, length-append g.more h.0)),
    )

merges_tps : (run : List Answered) (m n : View) → MergesIn run m n → (r c : ℕ) → IsPage m.limits r c → tps_known (stock_of n) r c ≡ merged_by (tps_known (stock_of m) r c) r c run
merges_tps [] m n x r c page = ap (λ (v : View). tps_known (stock_of v) r c) x
merges_tps (one ∷ run) m n x r c page =
    let g = line_goes one.line one.reply m x.0 x.1 in
    merges_tps run x.0 n x.2 r c (subst (λ (l : Limits). IsPage l r c) (sym g.limits) page) ∙ ap (λ (last : ℕ). merged_by last r c run) (g.tps r c page)

-- ---- at each merge

-- what the merger knew there, and knew then
record Here (before : List Answered) (range column : ℕ) (reply : Reply) (after : List Answered) (m n : View) : Type 0 where
  then : View
  next : View
  earlier : MergesIn before m then
  leaves : MergeLeaves then next range column reply
  later : MergesIn after next n

merges_at : (before : List Answered) (range column : ℕ) (reply : Reply) (after : List Answered) (m n : View) → MergesIn (before ++ answered (Merge range column) reply ∷ after) m n → Here before range column reply after m n
merges_at [] range column reply after m n x = record { then = m; next = x.0; earlier = refl; leaves = x.1; later = x.2 }
merges_at (one ∷ before) range column reply after m n x = let h = merges_at before range column reply after x.0 n x.2 in
    record { then = h.then; next = h.next; earlier = (x.0, x.1, h.earlier); leaves = h.leaves; later = h.later }

told_at : (l : Limits) (before : List Answered) (range column : ℕ) (reply : Reply) (after : List Answered) (m n : View) → m.limits ≡ l → IsPage l range column → Here before range column reply after m n → MergeIsTold l m n before range column reply
told_at l before range column (Merged tps) after m n is page h =
    let x : Merges h.then h.next range column (merges.Merged tps) = h.leaves in
    subst (λ (last : ℕ). last < tps) (merges_tps before m h.then h.earlier range column (subst (λ (k : Limits). IsPage k range column) (sym is) page)) x.is.more
told_at l before range column (NothingNew tps) after m n is page h =
    let x : Merges h.then h.next range column (merges.Idle tps) = h.leaves in
    x.is.tps ∙ merges_tps before m h.then h.earlier range column (subst (λ (k : Limits). IsPage k range column) (sym is) page)
told_at l before range column (NoFrame session) after m n is page h =
    let x : Merges h.then h.next range column (merges.NoFrame session) = h.leaves in
    let held = wanting_held h.then h.next range column session x in let more = merges_hold after h.next n h.later in
    let spare : h.then.limits.spare ≤ (stock_of h.then).epoch = x.is.swaps in let swaps = merges_swap before m h.then h.earlier in
    let limits : h.then.limits.spare ≡ l.spare = ap (λ (k : Limits). k.spare) (merges_limits before m h.then h.earlier ∙ is) in (
      subst (λ (ss : List ℕ). Contains ss session) (sym more.1) (Contains-append_left (stock_of h.next).held more.0 session
          (subst (λ (ss : List ℕ). Contains ss session) (sym held) (Contains-append_right (stock_of h.then).held (session ∷ []) session (0, omega arith, refl)))),
      omega arith,
    )
told_at l before range column reply after m n is page h = absurd h.leaves

-- which merges are made: those of pages of the store
abbrev pub PagesWithin : Limits → Answered → Type 0
PagesWithin l one = by_line one.line
  where
    by_line : Line → Type 0
    by_line (Merge range column) = IsPage l range column
    by_line line = Unit {0}

pub all_at : (P : Answered → Type 0) (before : List Answered) (one : Answered) (after : List Answered) → AllByRecursion P (before ++ one ∷ after) → P one
all_at P [] one after all = all.0
all_at P (other ∷ before) one after all = all_at P before one after all.1

pub merger_works : (l : Limits) (run : List Answered) (m n : View) → m.limits ≡ l → AllByRecursion (PagesWithin l) run → MergesIn run m n → MergerWorks l run m n
merger_works l run m n is pages x = record {
  limits_stay = merges_limits run m n x;
  swaps = merges_swap run m n x;
  stops = merges_stop run m n x;
  held = (let h = merges_hold run m n x in let e = ap length h.1 in let few = h.2 in omega (arith, length-append (stock_of m).held h.0));
  told = λ before range column reply after place.
      told_at l before range column reply after m n is
      (all_at (PagesWithin l) before (answered (Merge range column) reply) after (subst (AllByRecursion (PagesWithin l)) place pages))
      (merges_at before range column reply after m n (subst (λ (ones : List Answered). MergesIn ones m n) place x));
  tps = λ r c page. merges_tps run m n x r c (subst (λ (k : Limits). IsPage k r c) (sym is) page);
}
