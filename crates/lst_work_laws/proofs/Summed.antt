-- The rule on merges of a legal report.
use Rattle.std.proofs.Common.{◌≡◌, ℕ, zero, suc, ◌+◌, ◌*◌, ◌<◌, ◌≤◌, List, [], ◌∷◌, ◌++◌, Bool, true, false, ◌==◌, ◌&&◌, ◌||◌, cond, eqb, length, Option, refl, sym, subst, ap, ◌∙◌, arith, append_assoc, append-nil, ltb-true}
use Rattle.std.specs.List.{AllByRecursion, count_by, filter, list_any}
use Rattle.std.proofs.lemmas.Bool.{eq-eqb, eqb-true}
use Rattle.std.proofs.lemmas.List.Sums.{fold-append, sum_by-cons}
use Rattle.lst_layout.specs.declared.limits.Limits.{Limits}
use Rattle.lst_layout.specs.Words.{Words}
use Rattle.lst_model.specs.declared.lines.Line.{Line}
use Rattle.lst_model.specs.declared.lines.Line.TheVariants.{Phase, Merge, Call}
use Rattle.lst_model.specs.declared.replies.Reply.{Reply}
use Rattle.lst_model.specs.declared.replies.Reply.TheVariants.{Merged}
use Rattle.lst_model.specs.Lines.{LineFits}
use Rattle.lst_core_state.specs.State.{Core, record_in}
use Rattle.lst_core_state.specs.Cells.{range_of}
use Rattle.lst_core_state.specs.Sound.{Sound}
use Rattle.lst_core_state.proofs.VersionsKept.{one_range}
use Rattle.lst_pages.specs.Settled.{is_settled, settled_tails}
use Rattle.lst_pages.proofs.Numbering.{settled_are_numbered}
use Rattle.lst_replies.specs.Runs.{Answered, answered, run_of, is_by, is_begun, is_merged}
use Rattle.lst_replies.specs.Explained.{merged_after}
use Rattle.lst_work_laws.specs.Laws.{tells_begun}
use Rattle.lst_work_laws.specs.Merges.{is_merge}
use Rattle.lst_work_laws.specs.Works.{merged_by, tells_merged}
use Rattle.lst_work_laws.proofs.Mergers.{PagesWithin}

-- ---- merges are of pages of the store

pub pages_within : (l : Limits) (lines : List Line) (replies : List (Option ℕ × Reply)) → AllByRecursion (λ line. LineFits l.sessions l.ranges l.columns line) lines → AllByRecursion (PagesWithin l) (run_of lines replies)
pages_within l [] replies all = tt
pages_within l (Phase ∷ lines) replies all = (tt, pages_within l lines replies all.1)
pages_within l (Merge range column ∷ lines) [] all = tt
pages_within l (Merge range column ∷ lines) (reply ∷ replies) all = (all.0, pages_within l lines replies all.1)
pages_within l (Call t call ∷ lines) [] all = tt
pages_within l (Call t call ∷ lines) (reply ∷ replies) all = (tt, pages_within l lines replies all.1)

-- ---- what was merged last of a page never falls

module _ (range column : ℕ) where
  -- each number that is told of the page, from a front on, is above the one before it
  abbrev pub AreAbove : ℕ → List Answered → List Answered → Type 0
  AreAbove first front run = (before : List Answered) (tps : ℕ) (after : List Answered) → run ≡ before ++ answered (Merge range column) (Merged tps) ∷ after → merged_by first range column (front ++ before) < tps

  above_next : (first : ℕ) (front : List Answered) (one : Answered) (run : List Answered) → AreAbove first front (one ∷ run) → AreAbove first (front ++ one ∷ []) run
  above_next first front one run above before tps after place = subst (λ (ones : List Answered). merged_by first range column ones < tps) (sym (append_assoc front (one ∷ []) before))
      (above (one ∷ before) tps after (ap (λ (ones : List Answered). one ∷ ones) place))

  merged_next : (first : ℕ) (front : List Answered) (one : Answered) → merged_by first range column (front ++ one ∷ []) ≡ merged_after range column (merged_by first range column front) one
  merged_next first front one = fold-append (merged_after range column) first front (one ∷ [])

  and_both : (a b : Bool) → (a && b) ≡ true → (a ≡ true) × (b ≡ true)
  and_both true b e = (refl, e)
  and_both false b e = absurd (cc)

  -- one line
  goes_up : (last : ℕ) (line : Line) (reply : Reply) → ((tps : ℕ) → answered line reply ≡ answered (Merge range column) (Merged tps) → last < tps) → last ≤ merged_after range column last (answered line reply)
  goes_up last Phase reply above = omega arith
  goes_up last (Call session call) reply above = omega arith
  goes_up last (Merge other place) (Merged tps) above = by_test (other == range && place == column) refl
    where
      by_test : (b : Bool) → (other == range && place == column) ≡ b → last ≤ cond b tps last
      by_test true is = let both = and_both (other == range) (place == column) is in
          let low = above tps (λ i. answered (Merge (eqb-true other range both.0 i) (eqb-true place column both.1 i)) (Merged tps)) in omega arith
      by_test false is = omega arith
  goes_up last (Merge other place) reply above = omega arith

  pub never_falls : (first : ℕ) (front run : List Answered) → AreAbove first front run → merged_by first range column front ≤ merged_by first range column (front ++ run)
  never_falls first front [] above = subst (λ (ones : List Answered). merged_by first range column front ≤ merged_by first range column ones) (sym (append-nil front)) (omega arith)
  never_falls first front (one ∷ run) above =
      let up = goes_up (merged_by first range column front) one.line one.reply
      (λ tps is. subst (λ (ones : List Answered). merged_by first range column ones < tps) (append-nil front) (above [] tps run (ap (λ (o : Answered). o ∷ run) is))) in
      let next = merged_next first front one in
      let rest = never_falls first (front ++ one ∷ []) run (above_next first front one run above) in
      let e : merged_by first range column ((front ++ one ∷ []) ++ run) ≡ merged_by first range column (front ++ one ∷ run) = ap (merged_by first range column) (append_assoc front (one ∷ []) run) in omega arith

  above_from : (first : ℕ) (front rest : List Answered) → AreAbove first [] (front ++ rest) → AreAbove first front rest
  above_from first front rest above before tps after place =
      above (front ++ before) tps after (ap (λ (ones : List Answered). front ++ ones) place ∙ sym (append_assoc front before (answered (Merge range column) (Merged tps) ∷ after)))

  same_page : (tps last : ℕ) → merged_after range column last (answered (Merge range column) (Merged tps)) ≡ tps
  same_page tps last = ap (λ (b : Bool). cond {A = ℕ} (b && eqb column column) tps last) (eq-eqb range range refl) ∙ ap (λ (b : Bool). cond {A = ℕ} b tps last) (eq-eqb column column refl)

  -- a number that is told of the page is at most the last one
  pub told_low : (first : ℕ) (run before : List Answered) (tps : ℕ) (after : List Answered) → AreAbove first [] run → run ≡ before ++ answered (Merge range column) (Merged tps) ∷ after → tps ≤ merged_by first range column run
  told_low first run before tps after above place =
      let one : Answered = answered (Merge range column) (Merged tps) in
      let there : AreAbove first before (one ∷ after) = above_from first before (one ∷ after) (subst (AreAbove first []) place above) in
      let here : merged_by first range column (before ++ one ∷ []) ≡ tps = merged_next first before one ∙ same_page tps (merged_by first range column before) in
      let rest = never_falls first (before ++ one ∷ []) after (above_next first before one after there) in
      let e : merged_by first range column ((before ++ one ∷ []) ++ after) ≡ merged_by first range column run = ap (merged_by first range column) (append_assoc before (one ∷ []) after ∙ sym place) in omega arith

-- ---- merged tails were drawn

module _ (c : Core) (sound : Sound c) where
  abbrev w : Words
  w = c.words

  pub settled_drawn : (range n : ℕ) → n ≤ length (settled_tails c.limits w range) → n ≤ w.counts range
  settled_drawn range zero low = omega arith
  settled_drawn range (suc k) low =
      let numbered = settled_are_numbered c.limits w range in
      let t : ℕ = range * c.limits.tails + suc k in let few = numbered.few in
      let stored : 0 < w.cells t 0 = (settled_stored t (numbered.each (suc k) (omega arith) low)) in
      let drawn = (sound.versions.stored t stored).drawn in let high = drawn.0 in let most = drawn.1 in
      let r : ℕ = range_of (record_in c.limits w.cells t) in
      let same : r ≡ range = one_range c.limits w c.known sound.sized sound.times sound.each sound.versions r range t high most (omega arith) (omega arith) in
      let last : t ≤ range * c.limits.tails + w.counts range = subst (λ (q : ℕ). t ≤ q * c.limits.tails + w.counts q) same drawn.2 in omega arith
    where
      both_first : (a b : Bool) → (a && b) ≡ true → a ≡ true
      both_first true b e = refl
      both_first false b e = absurd (cc)

      settled_stored : (t : ℕ) → is_settled w t ≡ true → 0 < w.cells t 0
      settled_stored t is = ltb-true 0 (w.cells t 0) (both_first _ _ is)

-- ---- counts

module _ {X : Type 0} (p q : X → Bool) (less : (x : X) → p x ≡ true → q x ≡ true) where
  cond_less : (a b : Bool) → (a ≡ true → b ≡ true) → cond {A = ℕ} a 1 0 ≤ cond {A = ℕ} b 1 0
  cond_less true true h = omega arith
  cond_less true false h = let e = h refl in absurd (cc)
  cond_less false b h = omega arith

  pub count_less : (xs : List X) → count_by p xs ≤ count_by q xs
  count_less [] = omega arith
  count_less (x ∷ xs) =
      let h = count_less xs in let a = cond_less (p x) (q x) (less x) in
      let e = sum_by-cons (λ (y : X). cond {A = ℕ} (p y) 1 0) x xs in let f = sum_by-cons (λ (y : X). cond {A = ℕ} (q y) 1 0) x xs in omega arith

pub merged_told : (one : Answered) → tells_merged one ≡ true → is_merged one.reply ≡ true
merged_told one is = second (is_merge one.line) (is_merged one.reply) is
  where
    second : (a b : Bool) → (a && b) ≡ true → b ≡ true
    second true b e = e
    second false b e = absurd (cc)

-- where a line of a session is counted, there is one
pub any_counted : (s : ℕ) (run : List Answered) → 0 < count_by tells_begun (filter (is_by s) run) → list_any (λ one. is_by s one && is_begun one.reply) run ≡ true
any_counted s [] some = absurd (omega arith)
any_counted s (one ∷ run) some = by_test (is_by s one) (is_begun one.reply) refl refl some (any_counted s run)
  where
    or_late : (a c : Bool) → c ≡ true → (a || c) ≡ true
    or_late true c e = refl
    or_late false c e = e

    by_test : (a b : Bool) → is_by s one ≡ a → is_begun one.reply ≡ b → 0 < count_by tells_begun (cond a (one ∷ filter (is_by s) run) (filter (is_by s) run))
        → (0 < count_by tells_begun (filter (is_by s) run) → list_any (λ one. is_by s one && is_begun one.reply) run ≡ true)
        → ((is_by s one && is_begun one.reply) || list_any (λ one. is_by s one && is_begun one.reply) run) ≡ true
    by_test false b not_its be some rest = or_late _ _ (rest some)
    by_test true true is be some rest = ap (λ (x : Bool). (x && is_begun one.reply) || list_any (λ one. is_by s one && is_begun one.reply) run) is ∙ ap (λ (x : Bool). x || list_any (λ one. is_by s one && is_begun one.reply) run) be
    by_test true false is be some rest =
        or_late _ _ (rest (let e = sum_by-cons (λ (o : Answered). cond {A = ℕ} (tells_begun o) 1 0) one (filter (is_by s) run) in let none : cond {A = ℕ} (is_begun one.reply) 1 0 ≡ 0 = ap (λ (b : Bool). cond {A = ℕ} b 1 0) be in omega arith))
