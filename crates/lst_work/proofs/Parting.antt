-- What workers have said, and the replies to merges, by block.
use Rattle.std.proofs.Common.{◌≡◌, ℕ, ◌+◌, ◌<◌, ◌≤◌, List, [], ◌∷◌, ◌++◌, Bool, true, false, eqb, ltb, length, map, get_or, set, refl, sym, subst, ap, ◌∙◌, arith, append_assoc, append-nil, length-append}
use Rattle.std.specs.List.{AllByRecursion}
use Rattle.std.proofs.lemmas.Bool.{eqb-true, eqb-false, ltb-true, ltb-false}
use Rattle.std.proofs.lemmas.List.{map-append, map-set, length-map, length-set, get_or-map, get_or-set_same, get_or-set_other, set-get_or, get_or_append_left, get_or_past, get_or_push, get_or_default, nil_from_length}
use Rattle.lst_model.specs.declared.replies.Reply.{Reply}
use Rattle.lst_work.specs.declared.blocks.Block.{Block}
use Rattle.lst_work.specs.declared.workers.Worker.{Worker}
use Rattle.lst_work.specs.Blocks.{queues_of, parts_at}
use Rattle.lst_work.specs.Orders.{queue_at}
use Rattle.lst_work.specs.Workers.{parts_of}
use Rattle.lst_work.specs.Hiring.{AreFirst, HaveSaid, sessions_of, reads_of, said_in}
use Rattle.lst_work_laws.proofs.Lists.{element}

-- ---- a number is below another, or it is that, or it is above it

pub by_place : {C : Type 0} (q n : ℕ) → (q < n → C) → (q ≡ n → C) → (n < q → C) → C
by_place {C} q n below at above = by_lt (ltb q n) refl
  where
    by_eq : (b : Bool) → eqb q n ≡ b → n ≤ q → C
    by_eq true e past = at (eqb-true q n e)
    by_eq false e past = let other = eqb-false q n e in above (omega arith)

    by_lt : (b : Bool) → ltb q n ≡ b → C
    by_lt true e = below (ltb-true q n e)
    by_lt false e = by_eq (eqb q n) refl (ltb-false q n e)

-- ---- the queues of one block

-- the first i workers have given the first part of what they said
pub record IsTaking (old now : List Worker) (queues : List (List Reply)) (i : ℕ) : Type 0 where
  pub count : length now ≡ length old
  pub within : i ≤ length old
  pub sessions_are : sessions_of now ≡ sessions_of old
  pub reads_are : reads_of now ≡ reads_of old
  pub wide : length queues ≡ i
  pub own : (k : ℕ) (d : Worker) → k < i → parts_of (get_or old k d) ≡ queue_at queues k ∷ parts_of (get_or now k d)
  pub others : (k : ℕ) (d : Worker) → i ≤ k → get_or now k d ≡ get_or old k d

pub taking_first : (old : List Worker) (queues : List (List Reply)) → queues ≡ [] → IsTaking old old queues 0
taking_first old queues none = record { count = refl; within = omega arith; sessions_are = refl; reads_are = refl; wide = ap length none; own = λ k d low. absurd (omega arith); others = λ k d past. refl }

module _ (old now : List Worker) (queues longer : List (List Reply)) (i : ℕ) (worker next : Worker) (part : List Reply) (x : IsTaking old now queues i) (low : i < length now) (is : worker ≡ get_or now i worker) where
  module _ (same : next.session ≡ worker.session) (reads_same : next.reads ≡ worker.reads) (first : parts_of worker ≡ part ∷ parts_of next) (more : longer ≡ queues ++ part ∷ []) where
    own_at : (k : ℕ) (d : Worker) → k ≡ i → parts_of (get_or old k d) ≡ queue_at longer k ∷ parts_of (get_or (set now i next) k d)
    own_at k d e = subst (λ (n : ℕ). parts_of (get_or old n d) ≡ queue_at longer n ∷ parts_of (get_or (set now i next) n d)) (sym e)
        (ap parts_of (sym (x.others i d (omega arith)) ∙ (get_or_default now i d worker low ∙ sym is)) ∙ (first
        ∙ (ap (λ (p : List Reply). p ∷ parts_of next) (sym (ap (λ (qs : List (List Reply)). queue_at qs i) more ∙ get_or_push queues part [] i x.wide))
        ∙ ap (λ (w : Worker). queue_at longer i ∷ parts_of w) (sym (get_or-set_same now i next d low)))))

    own_below : (k : ℕ) (d : Worker) → k < i → parts_of (get_or old k d) ≡ queue_at longer k ∷ parts_of (get_or (set now i next) k d)
    own_below k d below = x.own k d below
        ∙ (ap (λ (p : List Reply). p ∷ parts_of (get_or now k d)) (sym (ap (λ (qs : List (List Reply)). queue_at qs k) more ∙ get_or_append_left queues (part ∷ []) [] k (let w = x.wide in omega arith)))
        ∙ ap (λ (w : Worker). queue_at longer k ∷ parts_of w) (sym (get_or-set_other now i k next d (λ e. absurd (omega (arith, e))))))

    pub taking_on : IsTaking old (set now i next) longer (i + 1)
    taking_on = record {
      count = length-set now i next ∙ x.count;
      within = let c = x.count in omega arith;
      sessions_are = map-set (λ (w : Worker). w.session) now i next
          ∙ (ap (set (sessions_of now) i) (same ∙ (ap (λ (w : Worker). w.session) is ∙ sym (get_or-map (λ (w : Worker). w.session) now i worker worker.session low)))
          ∙ (set-get_or (sessions_of now) i worker.session ∙ x.sessions_are));
      reads_are = map-set (λ (w : Worker). w.reads) now i next
          ∙ (ap (set (reads_of now) i) (reads_same ∙ (ap (λ (w : Worker). w.reads) is ∙ sym (get_or-map (λ (w : Worker). w.reads) now i worker worker.reads low)))
          ∙ (set-get_or (reads_of now) i worker.reads ∙ x.reads_are));
      wide = ap length more ∙ (length-append queues (part ∷ []) ∙ ap (λ (n : ℕ). n + 1) x.wide);
      own = λ k d below. by_place k i (own_below k d) (own_at k d) (λ above. absurd (omega arith));
      others = λ k d past. get_or-set_other now i k next d (λ e. absurd (omega (arith, e))) ∙ x.others k d (omega arith);
    }

pub taken_all : (old now : List Worker) (queues longer : List (List Reply)) (merges : List Reply) (i : ℕ) → IsTaking old now queues i → length now ≤ i → longer ≡ queues ++ merges ∷ [] → AreFirst old now merges longer
taken_all old now queues longer merges i x past more =
    let all : length queues ≡ length old = (let w = x.wide in let c = x.count in let n = x.within in omega arith) in record {
      count = x.count;
      sessions_are = x.sessions_are;
      reads_are = x.reads_are;
      wide = ap length more ∙ (length-append queues (merges ∷ []) ∙ ap (λ (n : ℕ). n + 1) all);
      own = λ k d low. x.own k d (let w = x.wide in omega arith)
          ∙ ap (λ (p : List Reply). p ∷ parts_of (get_or now k d)) (sym (ap (λ (qs : List (List Reply)). queue_at qs k) more ∙ get_or_append_left queues (merges ∷ []) [] k (omega arith)));
      last = ap (λ (qs : List (List Reply)). queue_at qs (length old)) more ∙ get_or_push queues merges [] (length old) all;
    }

-- ---- one block after another

module _ (left : List Worker) (merges : List (List Reply)) where
  pub said_below : (queue : ℕ) (d : Worker) → queue < length left → said_in left merges queue ≡ parts_of (get_or left queue d)
  said_below queue d low = get_or_append_left (map parts_of left) (merges ∷ []) (map (λ (part : List Reply). []) merges) queue (subst (λ (n : ℕ). queue < n) (sym (length-map left parts_of)) low)
      ∙ get_or-map parts_of left queue d (map (λ (part : List Reply). []) merges) low

  pub said_last : (queue : ℕ) → queue ≡ length left → said_in left merges queue ≡ merges
  said_last queue e = get_or_push (map parts_of left) merges (map (λ (part : List Reply). []) merges) queue (length-map left parts_of ∙ sym e)

  pub said_past : (queue : ℕ) → length left < queue → said_in left merges queue ≡ map (λ (part : List Reply). []) merges
  said_past queue past = get_or_past (map parts_of left ++ merges ∷ []) queue (map (λ (part : List Reply). []) merges)
      (let a = length-append (map parts_of left) (merges ∷ []) in let b = length-map left parts_of in omega arith)

module _ (left new : List Worker) (part : List Reply) (after : List (List Reply)) (queues : List (List Reply)) (x : AreFirst left new part queues) where
  pub said_step : (queue : ℕ) → said_in left (part ∷ after) queue ≡ queue_at queues queue ∷ said_in new after queue
  said_step queue = by_place queue (length left)
      (λ low. let d = element left queue low in
      said_below left (part ∷ after) queue d low ∙ (x.own queue d low
      ∙ ap (λ (ps : List (List Reply)). queue_at queues queue ∷ ps) (sym (said_below new after queue d (let c = x.count in omega arith)))))
      (λ e. said_last left (part ∷ after) queue e
      ∙ (ap (λ (p : List Reply). p ∷ after) (sym (ap (queue_at queues) e ∙ x.last))
      ∙ ap (λ (ps : List (List Reply)). queue_at queues queue ∷ ps) (sym (said_last new after queue (e ∙ sym x.count)))))
      (λ past. said_past left (part ∷ after) queue past
      ∙ (ap (λ (p : List Reply). p ∷ map (λ (part : List Reply). []) after) (sym (get_or_past queues queue [] (let w = x.wide in omega arith)))
      ∙ ap (λ (ps : List (List Reply)). queue_at queues queue ∷ ps) (sym (said_past new after queue (let c = x.count in omega arith)))))

  pub said_fewer : HaveSaid left (length (part ∷ after)) → HaveSaid new (length after)
  said_fewer said k d low =
      let inside : k < length left = (let c = x.count in omega arith) in let a = said k d inside in let b = ap length (x.own k d inside) in omega arith

said_nothing : (left : List Worker) → HaveSaid left 0 → (queue : ℕ) → said_in left [] queue ≡ []
said_nothing left said queue = by_place queue (length left)
    (λ low. let d = element left queue low in said_below left [] queue d low ∙ nil_from_length (parts_of (get_or left queue d)) (said queue d low))
    (λ e. said_last left [] queue e)
    (λ past. said_past left [] queue past)

-- the blocks so far, and what was said to the others
pub record IsParting (all left : List Worker) (merges rest : List (List Reply)) (blocks : List Block) : Type 0 where
  pub count : length left ≡ length all
  pub sessions_are : sessions_of left ≡ sessions_of all
  pub reads_are : reads_of left ≡ reads_of all
  pub said : HaveSaid left (length rest)
  pub wide : AllByRecursion (λ block. length block.queues.items ≡ length all + 1) blocks
  pub parts : (queue : ℕ) → parts_at blocks queue ++ said_in left rest queue ≡ said_in all merges queue

pub parting_first : (all : List Worker) (merges : List (List Reply)) (blocks : List Block) → HaveSaid all (length merges) → blocks ≡ [] → IsParting all all merges merges blocks
parting_first all merges [] said none = record { count = refl; sessions_are = refl; reads_are = refl; said = said; wide = tt; parts = λ queue. refl }
parting_first all merges (block ∷ blocks) said none = let e = ap length none in absurd (omega arith)

all_on : {X : Type 0} (P : X → Type 0) (xs : List X) (x : X) → AllByRecursion P xs → P x → AllByRecursion P (xs ++ x ∷ [])
all_on P [] x a p = (p, tt)
all_on P (y ∷ ys) x a p = (a.0, all_on P ys x a.1 p)

pub parting_on : (all left new : List Worker) (merges rest after : List (List Reply)) (part : List Reply) (blocks longer : List Block) (block : Block) → IsParting all left merges rest blocks → rest ≡ part ∷ after
    → AreFirst left new part (queues_of block) → longer ≡ blocks ++ block ∷ [] → IsParting all new merges after longer
parting_on all left new merges rest after part blocks longer block x first f more =
    let wide : length block.queues.items ≡ length all + 1 = (let w = f.wide in let c = x.count in omega arith) in record {
      count = f.count ∙ x.count;
      sessions_are = f.sessions_are ∙ x.sessions_are;
      reads_are = f.reads_are ∙ x.reads_are;
      said = said_fewer left new part after (queues_of block) f (subst (λ (ps : List (List Reply)). HaveSaid left (length ps)) first x.said);
      wide = subst (AllByRecursion (λ block. length block.queues.items ≡ length all + 1)) (sym more) (all_on (λ block. length block.queues.items ≡ length all + 1) blocks block x.wide wide);
      parts = λ queue. ap (λ (bs : List Block). parts_at bs queue ++ said_in new after queue) more
          ∙ (ap (λ (ps : List (List Reply)). ps ++ said_in new after queue) (map-append (λ (b : Block). queue_at (queues_of b) queue) blocks (block ∷ []))
          ∙ (append_assoc (parts_at blocks queue) (queue_at (queues_of block) queue ∷ []) (said_in new after queue)
          ∙ (ap (λ (ps : List (List Reply)). parts_at blocks queue ++ ps) (sym (said_step left new part after (queues_of block) f queue) ∙ ap (λ (ms : List (List Reply)). said_in left ms queue) (sym first)) ∙ x.parts queue)));
    }

pub parted_all : (all left : List Worker) (merges rest : List (List Reply)) (blocks : List Block) → IsParting all left merges rest blocks → length rest ≡ 0 → (queue : ℕ) → parts_at blocks queue ≡ said_in all merges queue
parted_all all left merges [] blocks x none queue = sym (append-nil (parts_at blocks queue)) ∙ (ap (λ (ps : List (List Reply)). parts_at blocks queue ++ ps) (sym (said_nothing left x.said queue)) ∙ x.parts queue)
parted_all all left merges (part ∷ rest) blocks x none queue = absurd (omega arith)
