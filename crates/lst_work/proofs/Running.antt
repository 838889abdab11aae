-- A worker that runs one line after another.
use Rattle.std.proofs.Common.{◌≡◌, ℕ, ◌+◌, ◌<◌, List, [], ◌∷◌, ◌++◌, Bool, cond, length, map, take, drop, get_or, refl, sym, subst, ap, ◌∙◌, arith, append_assoc, append-nil}
use Rattle.std.proofs.lemmas.List.{take_more, map-append}
use Rattle.std.proofs.lemmas.Grind.{flat_map-append}
use Rattle.std.proofs.lemmas.List.Elements.{filter-append}
use Rattle.std.proofs.lemmas.Bool.{ne_eqb, eq-eqb}
use Rattle.lst_model.specs.declared.lines.Line.{Line}
use Rattle.lst_model.specs.declared.lines.Line.TheVariants.{Phase, Merge, Call}
use Rattle.lst_model.specs.declared.lines.Call.{Call as CallKind}
use Rattle.lst_model.specs.declared.replies.Reply.{Reply}
use Rattle.lst_rule.specs.declared.view.View.{View}
use Rattle.lst_rule.specs.Rule.{knows}
use Rattle.lst_replies.specs.Runs.{Answered, answered, names, speaker_of}
use Rattle.lst_legal_runs.specs.declared.levels.Level.{Level}
use Rattle.lst_work.specs.declared.workers.Worker.{Worker}
use Rattle.lst_work_laws.specs.Keeping.{Pass, Keeps, CarriesOn, LineEnds}
use Rattle.lst_work_laws.specs.Laws.{answered_all}
use Rattle.lst_work_laws.specs.Lines.{AfterLine}
use Rattle.lst_work_laws.specs.Runs.{lines_of, Runs}
use Rattle.lst_rule.specs.declared.store.Store.{Store}
use Rattle.lst_session.specs.Passes.{IsReady}
use Rattle.lst_session.specs.declared.session.Session.{Session}
use Rattle.lst_work.specs.Blocks.{block_length, blocks_of, joined}
use Rattle.lst_work_laws.proofs.Keeping.{lines_carry_on}
use Rattle.lst_work.specs.Reads.{pass_of}
use Rattle.lst_work.specs.Workers.{Ran, RanBlocks, IsRunning, IsRunningBlocks, parts_of}
use Rattle.lst_work.proofs.InBlocks.{cut_on}

-- ---- runs

pub runs_on : (s : ℕ) (xs ys : List Line) (rs qs : List Reply) (v u w : View) → Runs s xs rs v u → Runs s ys qs u w → Runs s (xs ++ ys) (rs ++ qs) v w
runs_on s [] ys [] qs v u w a b = subst (λ (t : View). Runs s ys qs t w) a b
runs_on s [] ys (reply ∷ rs) qs v u w a b = absurd a
runs_on s (Phase ∷ xs) ys rs qs v u w a b = absurd a
runs_on s (Merge range column ∷ xs) ys rs qs v u w a b = absurd a
runs_on s (Call t call ∷ xs) ys [] qs v u w a b = absurd a
runs_on s (Call t call ∷ xs) ys (reply ∷ rs) qs v u w a b = (a.0, (a.1.0, a.1.1, runs_on s xs ys rs qs a.1.0 u w a.1.2 b))

pub runs_long : (s : ℕ) (lines : List Line) (replies : List Reply) (v w : View) → Runs s lines replies v w → length replies ≡ length lines
runs_long s [] [] v w x = refl
runs_long s [] (reply ∷ replies) v w x = absurd x
runs_long s (Phase ∷ lines) replies v w x = absurd x
runs_long s (Merge range column ∷ lines) replies v w x = absurd x
runs_long s (Call t call ∷ lines) [] v w x = absurd x
runs_long s (Call t call ∷ lines) (reply ∷ replies) v w x = let h = runs_long s lines replies x.1.0 w x.1.2 in omega arith

-- ---- of workers

-- ---- what a session keeps along its own lines

pub carries_none : (level : Level) (s : ℕ) (a : Pass) → CarriesOn level s [] a a
carries_none level s a state own kept = subst (λ (lines : List Answered). Keeps level state s lines a) (sym (append-nil own)) kept

pub carries_join : (level : Level) (s : ℕ) (xs ys : List Answered) (a b c : Pass) → CarriesOn level s xs a b → CarriesOn level s ys b c → CarriesOn level s (xs ++ ys) a c
carries_join level s xs ys a b c x y state own kept = subst (λ (lines : List Answered). Keeps level state s lines c) (append_assoc own xs ys) (y state (own ++ xs) (x state own kept))

answered_on : (xs ys : List Line) (rs qs : List Reply) → length rs ≡ length xs → answered_all (xs ++ ys) (rs ++ qs) ≡ answered_all xs rs ++ answered_all ys qs
answered_on [] ys [] qs e = refl
answered_on [] ys (r ∷ rs) qs e = absurd (omega arith)
answered_on (x ∷ xs) ys [] qs e = absurd (omega arith)
answered_on (x ∷ xs) ys (r ∷ rs) qs e = ap (λ (ones : List Answered). answered x r ∷ ones) (answered_on xs ys rs qs (omega arith))

-- lines and more lines, with their replies
carries_lines : (level : Level) (s : ℕ) (xs ys : List Line) (rs qs : List Reply) (a b c : Pass) → length rs ≡ length xs → CarriesOn level s (answered_all xs rs) a b → CarriesOn level s (answered_all ys qs) b c
    → CarriesOn level s (answered_all (xs ++ ys) (rs ++ qs)) a c
carries_lines level s xs ys rs qs a b c e x y =
    subst (λ (lines : List Answered). CarriesOn level s lines a c) (sym (answered_on xs ys rs qs e)) (carries_join level s (answered_all xs rs) (answered_all ys qs) a b c x y)

-- of the same session at the same level
pub carries_as : (level other : Level) (s t : ℕ) (lines : List Line) (replies : List Reply) (a b : Pass) → other ≡ level → t ≡ s → CarriesOn other t (answered_all (lines_of t lines) replies) a b → CarriesOn level s (answered_all (lines_of s lines) replies) a b
carries_as level other s t lines replies a b e is x =
    subst (λ (n : ℕ). CarriesOn level n (answered_all (lines_of n lines) replies) a b) is (subst (λ (l : Level). CarriesOn l t (answered_all (lines_of t lines) replies) a b) e x)

abbrev pub pass_in : Worker → Pass
pass_in worker = pass_of worker.session worker.reads

pub ran_nothing : (lines : List Line) (worker : Worker) → lines_of worker.session.number lines ≡ [] → Ran lines worker worker
ran_nothing lines worker none = record {
  number = refl;
  replies = [];
  grows = sym (append-nil worker.replies);
  runs = subst (λ (ls : List Line). Runs worker.session.number ls [] worker.session.seat.view worker.session.seat.view) (sym none) refl;
  level = refl;
  carries = subst (λ (ls : List Line). CarriesOn worker.level worker.session.number (answered_all ls []) (pass_in worker) (pass_in worker)) (sym none) (carries_none worker.level worker.session.number (pass_in worker));
  parts = refl;
}

-- a line of another session
pub not_own : (s t : ℕ) (call : CallKind) → ¬ (t ≡ s) → lines_of s (Call t call ∷ []) ≡ []
not_own s t call other = ap (λ (b : Bool). cond b (Call t call ∷ []) []) (ne_eqb t s other)

-- one of its own
pub own : (s : ℕ) (call : CallKind) → lines_of s (Call s call ∷ []) ≡ Call s call ∷ []
own s call = ap (λ (b : Bool). cond b (Call s call ∷ []) []) (eq-eqb s s refl)

pub ran_call : (s : ℕ) (call : CallKind) (reply : Reply) (old new : Worker) → old.session.number ≡ s → new.session.number ≡ old.session.number → new.replies ≡ old.replies ++ reply ∷ [] → new.parts ≡ old.parts
    → AfterLine old.session.number call reply old.session.seat.view new.session.seat.view → new.level ≡ old.level → LineEnds old.level call reply (pass_in old) (pass_in new) → Ran (Call s call ∷ []) old new
ran_call s call reply old new is number grows same after level ends = record {
  number = number;
  replies = reply ∷ [];
  grows = grows;
  runs = subst (λ (ls : List Line). Runs old.session.number ls (reply ∷ []) old.session.seat.view new.session.seat.view)
      (sym (subst (λ (t : ℕ). lines_of old.session.number (Call t call ∷ []) ≡ Call t call ∷ []) is (own old.session.number call)))
      (sym is, (new.session.seat.view, after, refl));
  level = level;
  carries = subst (λ (ls : List Line). CarriesOn old.level old.session.number (answered_all ls (reply ∷ [])) (pass_in old) (pass_in new))
      (sym (subst (λ (t : ℕ). lines_of old.session.number (Call t call ∷ []) ≡ Call old.session.number call ∷ []) is (own old.session.number call)))
      (lines_carry_on old.level old.session.number call reply old.session.seat.view new.session.seat.view (pass_in old) (pass_in new) refl (ap (knows new.session.seat.view) number) after ends);
  parts = same;
}

pub ran_on : (xs ys : List Line) (a b c : Worker) → Ran xs a b → Ran ys b c → Ran (xs ++ ys) a c
ran_on xs ys a b c x y = let s = a.session.number in record {
  number = y.number ∙ x.number;
  replies = x.replies ++ y.replies;
  grows = y.grows ∙ (ap (λ (rs : List Reply). rs ++ y.replies) x.grows ∙ append_assoc a.replies x.replies y.replies);
  runs = subst (λ (ls : List Line). Runs s ls (x.replies ++ y.replies) a.session.seat.view c.session.seat.view) (sym (filter-append (λ (line : Line). names s (speaker_of line)) xs ys))
      (runs_on s (lines_of s xs) (lines_of s ys) x.replies y.replies a.session.seat.view b.session.seat.view c.session.seat.view x.runs
      (subst (λ (n : ℕ). Runs n (lines_of n ys) y.replies b.session.seat.view c.session.seat.view) x.number y.runs));
  level = y.level ∙ x.level;
  carries = subst (λ (ls : List Line). CarriesOn a.level s (answered_all ls (x.replies ++ y.replies)) (pass_in a) (pass_in c)) (sym (filter-append (λ (line : Line). names s (speaker_of line)) xs ys))
      (carries_lines a.level s (lines_of s xs) (lines_of s ys) x.replies y.replies (pass_in a) (pass_in b) (pass_in c) (runs_long s (lines_of s xs) x.replies a.session.seat.view b.session.seat.view x.runs)
      x.carries (carries_as a.level b.level s b.session.number ys y.replies (pass_in b) (pass_in c) x.level x.number y.carries));
  parts = y.parts ∙ x.parts;
}

pub ran_whole : (lines all : List Line) (a b : Worker) → lines ≡ all → Ran lines a b → Ran all a b
ran_whole lines all a b e x = subst (λ (ls : List Line). Ran ls a b) e x

pub running_first : (store : Store) (lines : List Line) (worker : Worker) → IsReady store worker.session → IsRunning store lines worker worker 0
running_first store lines worker ready = record { ready = ready; number = refl; ran = ran_nothing [] worker refl }

pub running_on : (store : Store) (lines : List Line) (before now next : Worker) (n : ℕ) (line : Line) → IsRunning store lines before now n → n < length lines → line ≡ get_or lines n line
    → IsReady store next.session → next.session.number ≡ now.session.number → Ran (line ∷ []) now next → IsRunning store lines before next (n + 1)
running_on store lines before now next n line x inside is ready number ran = record {
  ready = ready;
  number = number ∙ x.number;
  ran = ran_whole (take n lines ++ line ∷ []) (take (n + 1) lines) before next (sym (take_more lines n line inside ∙ ap (λ (l : Line). take n lines ++ l ∷ []) (sym is))) (ran_on (take n lines) (line ∷ []) before now next x.ran ran);
}

-- ---- by blocks

lines_joined : (s : ℕ) (xs ys : List (List Line)) → lines_of s (joined (xs ++ ys)) ≡ lines_of s (joined xs) ++ lines_of s (joined ys)
lines_joined s xs ys = ap (lines_of s) (flat_map-append (λ (ls : List Line). ls) xs ys) ∙ filter-append (λ (line : Line). names s (speaker_of line)) (joined xs) (joined ys)

pub ran_no_blocks : (worker : Worker) → RanBlocks [] worker worker
ran_no_blocks worker = record { number = refl; parts = []; grows = sym (append-nil (parts_of worker)); long = refl; runs = refl; level = refl; carries = carries_none worker.level worker.session.number (pass_in worker) }

-- one block, from what its lines did to the worker that begins it
pub ran_block : (block : List Line) (old begun done new : Worker) (replies : List Reply) → Ran block begun done → begun.session ≡ old.session → begun.parts ≡ old.parts → begun.replies ≡ []
    → new.session ≡ done.session → replies ≡ done.replies → parts_of new ≡ parts_of done ++ replies ∷ []
    → begun.level ≡ old.level → begun.reads ≡ old.reads → new.level ≡ done.level → new.reads ≡ done.reads → RanBlocks (block ∷ []) old new
ran_block block old begun done new replies x same none_more fresh ends are more level reads level_done reads_done =
    let s = old.session.number in
    let said : replies ≡ x.replies = are ∙ (x.grows ∙ ap (λ (rs : List Reply). rs ++ x.replies) fresh) in
    let from : Runs s (lines_of s block) x.replies old.session.seat.view done.session.seat.view =
    subst (λ (a : Session). Runs a.number (lines_of a.number block) x.replies a.seat.view done.session.seat.view) same x.runs in
    let runs : Runs s (lines_of s block) replies old.session.seat.view new.session.seat.view =
    subst (λ (rs : List Reply). Runs s (lines_of s block) rs old.session.seat.view new.session.seat.view) (sym said)
    (subst (λ (a : Session). Runs s (lines_of s block) x.replies old.session.seat.view a.seat.view) (sym ends) from) in
    record {
      number = ap (λ (a : Session). a.number) ends ∙ (x.number ∙ ap (λ (a : Session). a.number) same);
      parts = replies ∷ [];
      grows = more ∙ ap (λ (ps : List (List Reply)). ps ++ replies ∷ []) (ap (λ v. v.items) (x.parts ∙ none_more));
      long = ap (λ (n : ℕ). n ∷ []) (runs_long s (lines_of s block) replies old.session.seat.view new.session.seat.view runs);
      runs = subst (λ (ls : List Line). Runs s (lines_of s ls) (replies ++ []) old.session.seat.view new.session.seat.view) (sym (append-nil block))
          (subst (λ (rs : List Reply). Runs s (lines_of s block) rs old.session.seat.view new.session.seat.view) (sym (append-nil replies)) runs);
      level = level_done ∙ (x.level ∙ level);
      carries = subst (λ (ls : List Line). CarriesOn old.level s (answered_all (lines_of s ls) (replies ++ [])) (pass_in old) (pass_in new)) (sym (append-nil block))
          (subst (λ (rs : List Reply). CarriesOn old.level s (answered_all (lines_of s block) rs) (pass_in old) (pass_in new)) (sym (append-nil replies ∙ said))
          (subst (λ (b : Pass). CarriesOn old.level s (answered_all (lines_of s block) x.replies) (pass_in old) b) (sym (λ i. pass_of (ends i) (reads_done i)))
          (subst (λ (a : Pass). CarriesOn old.level s (answered_all (lines_of s block) x.replies) a (pass_in done)) (λ i. pass_of (same i) (reads i))
          (carries_as old.level begun.level s begun.session.number block x.replies (pass_in begun) (pass_in done) level (ap (λ (a : Session). a.number) same) x.carries))));
    }

pub ran_blocks_on : (xs ys : List (List Line)) (a b c : Worker) → RanBlocks xs a b → RanBlocks ys b c → RanBlocks (xs ++ ys) a c
ran_blocks_on xs ys a b c x y =
    let s = a.session.number in
    record {
      number = y.number ∙ x.number;
      parts = x.parts ++ y.parts;
      grows = y.grows ∙ (ap (λ (ps : List (List Reply)). ps ++ y.parts) x.grows ∙ append_assoc (parts_of a) x.parts y.parts);
      long = map-append length x.parts y.parts
          ∙ (ap (λ (ns : List ℕ). ns ++ map length y.parts) x.long
          ∙ (ap (λ (ns : List ℕ). map (λ (block : List Line). length (lines_of s block)) xs ++ ns) (y.long ∙ ap (λ (n : ℕ). map (λ (block : List Line). length (lines_of n block)) ys) x.number)
          ∙ sym (map-append (λ (block : List Line). length (lines_of s block)) xs ys)));
      runs = subst (λ (ls : List Line). Runs s ls (joined (x.parts ++ y.parts)) a.session.seat.view c.session.seat.view) (sym (lines_joined s xs ys))
          (subst (λ (rs : List Reply). Runs s (lines_of s (joined xs) ++ lines_of s (joined ys)) rs a.session.seat.view c.session.seat.view) (sym (flat_map-append (λ (rs : List Reply). rs) x.parts y.parts))
          (runs_on s (lines_of s (joined xs)) (lines_of s (joined ys)) (joined x.parts) (joined y.parts) a.session.seat.view b.session.seat.view c.session.seat.view x.runs
          (subst (λ (n : ℕ). Runs n (lines_of n (joined ys)) (joined y.parts) b.session.seat.view c.session.seat.view) x.number y.runs)));
      level = y.level ∙ x.level;
      carries = subst (λ (ls : List Line). CarriesOn a.level s (answered_all ls (joined (x.parts ++ y.parts))) (pass_in a) (pass_in c)) (sym (lines_joined s xs ys))
          (subst (λ (rs : List Reply). CarriesOn a.level s (answered_all (lines_of s (joined xs) ++ lines_of s (joined ys)) rs) (pass_in a) (pass_in c)) (sym (flat_map-append (λ (rs : List Reply). rs) x.parts y.parts))
          (carries_lines a.level s (lines_of s (joined xs)) (lines_of s (joined ys)) (joined x.parts) (joined y.parts) (pass_in a) (pass_in b) (pass_in c)
          (runs_long s (lines_of s (joined xs)) (joined x.parts) a.session.seat.view b.session.seat.view x.runs)
          x.carries (carries_as a.level b.level s b.session.number (joined ys) (joined y.parts) (pass_in b) (pass_in c) x.level x.number y.carries)));
    }

pub running_blocks_first : (store : Store) (lines : List Line) (worker : Worker) → IsReady store worker.session → IsRunningBlocks store lines lines worker worker
running_blocks_first store lines worker ready = record { ready = ready; number = refl; blocks = []; are = refl; ran = ran_no_blocks worker }

pub running_blocks_on : (store : Store) (lines rest after block : List Line) (before now next : Worker) → IsRunningBlocks store lines rest before now → 0 < length rest → block ≡ take block_length rest → after ≡ drop block_length rest
    → IsReady store next.session → next.session.number ≡ now.session.number → RanBlocks (block ∷ []) now next → IsRunningBlocks store lines after before next
running_blocks_on store lines rest after block before now next x some first left ready number ran = record {
  ready = ready;
  number = number ∙ x.number;
  blocks = x.blocks ++ block ∷ [];
  are = cut_on lines rest after block x.blocks x.are some first left;
  ran = ran_blocks_on x.blocks (block ∷ []) before now next x.ran ran;
}

pub running_blocks_all : (store : Store) (lines rest : List Line) (before now : Worker) → IsRunningBlocks store lines rest before now → length rest ≡ 0 → RanBlocks (blocks_of lines) before now
running_blocks_all store lines [] before now x none = subst (λ (bs : List (List Line)). RanBlocks bs before now) (sym (append-nil x.blocks) ∙ x.are) x.ran
running_blocks_all store lines (line ∷ rest) before now x none = absurd (omega arith)
