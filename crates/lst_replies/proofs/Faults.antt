-- A report is read exactly where the lines are a report's, and else the fault is the first line that can't stand in its place.
use Rattle.std.proofs.Common.{◌≡◌, ℕ, zero, suc, ◌+◌, ◌-◌, ◌<◌, ◌≤◌, ◌^◌, Bool, true, false, ◌&&◌, eqb, cond, List, [], ◌∷◌, ◌++◌, length, take, drop, map, replicate, Option, Some, None, Result, Ok, Err, refl, sym, ap, ◌∙◌, subst, append_assoc, arith}
use Rattle.std.specs.List.{All}
use Rattle.std.proofs.lemmas.Bool.{and_parts, and_from, cond-true, eq-eqb, eqb-true}
use Rattle.std.proofs.lemmas.List.{length-map, length-append, length-take, take_all, length-replicate}
use Rattle.std.proofs.lemmas.List.Elements.{All-append, All-cons}
use Rattle.std.proofs.Math.Seq.{take-append_seam, take-append-add, drop-append_seam}
use Rattle.lst_model.specs.declared.replies.Reply.{Reply}
use Rattle.lst_replies.specs.declared.reports.Stamp.{Stamp}
use Rattle.lst_replies.specs.declared.reports.Report.{Report}
use Rattle.lst_replies.specs.ReportTexts.{reply_line, history_line, stamp_line, stamp_lines, lines_of, report_lines, ReplyFits, StampFits, ReportFits, CanBegin}
use Rattle.lst_replies.specs.Reading.{reply_of, count_of, stamp_of, read_front, front_with, replies_front, stamps_front, after_stamps, after_count, after_replies, report_in}
use Rattle.lst_replies.proofs.Readings.{reply_takes}
use Rattle.lst_replies.proofs.Spelled.{reply_again}
use Rattle.lst_replies.proofs.Whole.{count_again, count_takes, history_no_reply, stamp_again, stamp_takes, texts_at, texts_at-replies, texts_at-stamps, Front, front_takes, front_again}

ends : {A : Type 0} (xs : List A) → xs ++ [] ≡ xs
ends [] = refl
ends (x ∷ xs) = ap (λ rest. x ∷ rest) (ends xs)

same_front : {A : Type 0} (front xs ys : List A) → front ++ xs ≡ front ++ ys → xs ≡ ys
same_front [] xs ys e = e
same_front (x ∷ front) xs ys e = same_front front xs ys cc

length-stamp_lines : (time : ℕ) (stamps : List Stamp) → length (stamp_lines time stamps) ≡ length stamps
length-stamp_lines time [] = refl
length-stamp_lines time (stamp ∷ stamps) = ap suc (length-stamp_lines (time + 1) stamps)

stamp_lines-append : (time : ℕ) (xs ys : List Stamp) → stamp_lines time (xs ++ ys) ≡ stamp_lines time xs ++ stamp_lines (time + length xs) ys
stamp_lines-append time [] ys = let here : time ≡ time + 0 = omega arith in ap (λ t. stamp_lines t ys) here
stamp_lines-append time (x ∷ xs) ys =
    let here : time + 1 + length xs ≡ time + length (x ∷ xs) = omega arith in
    ap (λ rest. stamp_line time x ∷ rest) (stamp_lines-append (time + 1) xs ys ∙ ap (λ t. stamp_lines (time + 1) xs ++ stamp_lines t ys) here)

module _ (columns : ℕ) (some : 0 < columns) where
  abbrev read_reply : ℕ → List ℕ → Option (Option ℕ × Reply)
  read_reply place line = reply_of columns line

  replies_of : (lines : List (List ℕ)) → Front read_reply (λ i told. reply_line told) (ReplyFits columns) 0 lines
  replies_of lines = front_takes read_reply (λ i told. reply_line told) (ReplyFits columns) (λ i line told e. let is = reply_takes columns line some told e in (is.line_is, is.fits)) 0 lines

  stamps_of : (lines : List (List ℕ)) → Front stamp_of stamp_line StampFits 1 lines
  stamps_of lines = front_takes stamp_of stamp_line StampFits stamp_takes 1 lines

  -- replies, and a line that is none
  replies_again : (replies : List (Option ℕ × Reply)) (line : List ℕ) (more : List (List ℕ)) → All (ReplyFits columns) replies → reply_of columns line ≡ None → replies_front columns (map reply_line replies ++ line ∷ more) ≡ replies
  replies_again replies line more fits none =
      ap (λ ls. read_front read_reply 0 (ls ++ line ∷ more)) (sym (texts_at-replies 0 replies))
      ∙ front_again read_reply (λ i told. reply_line told) (ReplyFits columns) (length replies) (λ i told below fit. reply_again columns told some fit) 0 replies (line ∷ more) (omega arith) fits
      ∙ ap (λ o. replies ++ front_with o (read_front read_reply (0 + length replies + 1) more)) none
      ∙ ends replies

  stamps_again : (stamps : List Stamp) → length stamps < 2 ^ 64 → All StampFits stamps → stamps_front (stamp_lines 1 stamps) ≡ stamps
  stamps_again stamps few fits =
      ap (λ ls. read_front stamp_of 1 ls) (sym (texts_at-stamps 1 stamps) ∙ sym (ends (texts_at stamp_line 1 stamps)))
      ∙ front_again stamp_of stamp_line StampFits (10 ^ 64) stamp_again 1 stamps [] (omega arith) fits
      ∙ ends stamps

  -- the first replies of lines, and what stands behind them
  pub record Replied (lines : List (List ℕ)) : Type 0 where
    pub replies : List (Option ℕ × Reply)
    pub rest : List (List ℕ)
    pub whole : lines ≡ map reply_line replies ++ rest
    pub fits : All (ReplyFits columns) replies
    pub stops : (line : List ℕ) (more : List (List ℕ)) → rest ≡ line ∷ more → reply_of columns line ≡ None
    pub is : report_in columns lines ≡ after_replies replies rest

  replied : (lines : List (List ℕ)) → Replied lines
  replied lines =
      let front = replies_of lines in
      let whole : lines ≡ map reply_line front.xs ++ front.rest = front.whole ∙ ap (λ ls. ls ++ front.rest) (texts_at-replies 0 front.xs) in
      let behind : drop (length front.xs) lines ≡ front.rest =
      ap (drop (length front.xs)) whole ∙ ap (λ n. drop n (map reply_line front.xs ++ front.rest)) (sym (length-map front.xs reply_line)) ∙ drop-append_seam (map reply_line front.xs) front.rest in
      record {
        replies = front.xs;
        rest = front.rest;
        whole = whole;
        fits = front.each;
        stops = front.stops;
        is = ap (λ xs. after_replies xs (drop (length xs) lines)) front.is ∙ ap (after_replies front.xs) behind;
      }

  -- ---- what is a report's is read as it

  pub only : (lines : List (List ℕ)) (report : Report) → ReportFits columns report → lines ≡ report_lines report → report_in columns lines ≡ Ok report
  only lines report fits is =
      let n = length report.history in
      let stamps = stamp_lines 1 report.history in
      let read : replies_front columns (report_lines report) ≡ report.replies = replies_again report.replies (history_line n) stamps fits.replies (history_no_reply columns n fits.few) in
      let behind : drop (length report.replies) (report_lines report) ≡ history_line n ∷ stamps =
      ap (λ k. drop k (report_lines report)) (sym (length-map report.replies reply_line)) ∙ drop-append_seam (map reply_line report.replies) (history_line n ∷ stamps) in
      let long : length stamps ≡ n = length-stamp_lines 1 report.history in
      let front : stamps_front (take n stamps) ≡ report.history = ap stamps_front (take_all n stamps (omega arith)) ∙ stamps_again report.history fits.few fits.history in
      ap (report_in columns) is
      ∙ ap (λ xs. after_replies xs (drop (length xs) (report_lines report))) read
      ∙ ap (after_replies report.replies) behind
      ∙ ap (after_count report.replies stamps) (count_again n fits.few)
      ∙ ap (λ xs. after_stamps report.replies n xs (length stamps)) front
      ∙ cond-true _ _ _ (and_from _ _ (eq-eqb n n refl) (eq-eqb _ _ long))

  -- ---- what is read is a report's

  abbrev IsRead : List (List ℕ) → Result Report ℕ → Report → Type 0
  IsRead lines read report = read ≡ Ok report → ReportFits columns report × (lines ≡ report_lines report)

  -- the stamps behind the replies, and what stands behind them
  pub record Stamped (lines : List (List ℕ)) (replies : List (Option ℕ × Reply)) (count : ℕ) (more : List (List ℕ)) : Type 0 where
    pub stamps : List Stamp
    pub rest : List (List ℕ)
    pub whole : take count more ≡ stamp_lines 1 stamps ++ rest
    pub fits : All StampFits stamps
    pub stops : (line : List ℕ) (others : List (List ℕ)) → rest ≡ line ∷ others → stamp_of (1 + length stamps) line ≡ None
    pub is : after_count replies more (Some count) ≡ after_stamps replies count stamps (length more)

  stamped : (lines : List (List ℕ)) (replies : List (Option ℕ × Reply)) (count : ℕ) (more : List (List ℕ)) → Stamped lines replies count more
  stamped lines replies count more =
      let front = stamps_of (take count more) in
      record {
        stamps = front.xs;
        rest = front.rest;
        whole = front.whole ∙ ap (λ ls. ls ++ front.rest) (texts_at-stamps 1 front.xs);
        fits = front.each;
        stops = front.stops;
        is = ap (λ xs. after_stamps replies count xs (length more)) front.is;
      }

  few_stamps : (stamps : List Stamp) (rest more : List (List ℕ)) (count : ℕ) → take count more ≡ stamp_lines 1 stamps ++ rest → length stamps + length rest ≡ length (take count more)
  few_stamps stamps rest more count whole = omega (arith, ap length whole, length-append (stamp_lines 1 stamps) rest, length-stamp_lines 1 stamps)

  found_stamps : (lines : List (List ℕ)) (r : Replied lines) (line : List ℕ) (more : List (List ℕ)) (count : ℕ) → r.rest ≡ line ∷ more → line ≡ history_line count → count < 2 ^ 64
      → (s : Stamped lines r.replies count more) (report : Report) → IsRead lines (after_stamps r.replies count s.stamps (length more)) report
  found_stamps lines r line more count rest_is line_is few s report = by_test _ refl
    where
      by_test : (b : Bool) → (eqb (length s.stamps) count && eqb (length more) count) ≡ b → IsRead lines (cond b (Ok (record { replies = r.replies; history = s.stamps })) (Err (length r.replies + 2 + length s.stamps))) report
      by_test false test e = absurd cc
      by_test true test e =
          let same : record { replies = r.replies; history = s.stamps } ≡ report = cc in
          let both = and_parts _ _ test in
          let as_many : length s.stamps ≡ count = eqb-true _ _ both.0 in
          let all : length more ≡ count = eqb-true _ _ both.1 in
          let none : length s.rest ≡ 0 = omega (arith, few_stamps s.stamps s.rest more count s.whole, length-take count more) in
          let nothing : s.rest ≡ [] = empty s.rest none in
          let stamps : more ≡ stamp_lines 1 s.stamps = sym (take_all count more (omega arith)) ∙ s.whole ∙ ap (λ ls. stamp_lines 1 s.stamps ++ ls) nothing ∙ ends (stamp_lines 1 s.stamps) in
          let lines_are : lines ≡ lines_of r.replies s.stamps =
          r.whole ∙ ap (λ ls. map reply_line r.replies ++ ls) (rest_is ∙ ap (λ l. l ∷ more) (line_is ∙ ap history_line (sym as_many)) ∙ ap (λ ls. history_line (length s.stamps) ∷ ls) stamps) in
          subst (λ (told : Report). ReportFits columns told × (lines ≡ report_lines told)) same (record { replies = r.fits; history = s.fits; few = omega arith }, lines_are)
        where
          empty : (xs : List (List ℕ)) → length xs ≡ 0 → xs ≡ []
          empty [] e = refl
          empty (x ∷ xs) e = absurd (omega arith)

  found_count : (lines : List (List ℕ)) (r : Replied lines) (line : List ℕ) (more : List (List ℕ)) → r.rest ≡ line ∷ more → (o : Option ℕ) → count_of line ≡ o → (report : Report) → IsRead lines (after_count r.replies more o) report
  found_count lines r line more rest_is None is report e = absurd cc
  found_count lines r line more rest_is (Some count) is report e =
      let takes = count_takes line count is in
      let s = stamped lines r.replies count more in
      found_stamps lines r line more count rest_is takes.0 takes.1 s report (sym s.is ∙ e)

  found_rest : (lines : List (List ℕ)) (r : Replied lines) (rest : List (List ℕ)) → r.rest ≡ rest → (report : Report) → IsRead lines (after_replies r.replies rest) report
  found_rest lines r [] rest_is report e = absurd cc
  found_rest lines r (line ∷ more) rest_is report e = found_count lines r line more rest_is (count_of line) refl report e

  pub found : (lines : List (List ℕ)) (report : Report) → report_in columns lines ≡ Ok report → ReportFits columns report × (lines ≡ report_lines report)
  found lines report e = let r = replied lines in found_rest lines r r.rest refl report (sym r.is ∙ e)

  -- ---- the first line that can't stand in its place

  take-take : {A : Type 0} (k n : ℕ) (xs : List A) → k ≤ n → take k (take n xs) ≡ take k xs
  take-take zero n xs few = refl
  take-take (suc k) zero xs few = absurd (omega arith)
  take-take (suc k) (suc n) [] few = refl
  take-take (suc k) (suc n) (x ∷ xs) few = ap (λ rest. x ∷ rest) (take-take k n xs (omega arith))

  stamps_stop : (stamps : List Stamp) (line : List ℕ) (more : List (List ℕ)) → length stamps < 2 ^ 64 → All StampFits stamps → stamp_of (1 + length stamps) line ≡ None → stamps_front (stamp_lines 1 stamps ++ line ∷ more) ≡ stamps
  stamps_stop stamps line more few fits none =
      ap (λ ls. read_front stamp_of 1 (ls ++ line ∷ more)) (sym (texts_at-stamps 1 stamps))
      ∙ front_again stamp_of stamp_line StampFits (10 ^ 64) stamp_again 1 stamps (line ∷ more) (omega arith) fits
      ∙ ap (λ o. stamps ++ front_with o (read_front stamp_of (1 + length stamps + 1) more)) none
      ∙ ends stamps

  -- a report that begins with these replies and a line that is none
  pub record Heads (report : Report) (replies : List (Option ℕ × Reply)) (line : List ℕ) (tail : List (List ℕ)) : Type 0 where
    pub replies_are : report.replies ≡ replies
    pub line_is : history_line (length report.history) ≡ line
    pub stamps_are : stamp_lines 1 report.history ≡ tail

  heads_alike : (report : Report) → ReportFits columns report → (replies : List (Option ℕ × Reply)) → All (ReplyFits columns) replies → (line : List ℕ) (tail : List (List ℕ)) → reply_of columns line ≡ None
      → report_lines report ≡ map reply_line replies ++ line ∷ tail → Heads report replies line tail
  heads_alike report fits replies fit line tail none is =
      let n = length report.history in
      let same : report.replies ≡ replies =
      sym (replies_again report.replies (history_line n) (stamp_lines 1 report.history) fits.replies (history_no_reply columns n fits.few))
      ∙ ap (replies_front columns) is ∙ replies_again replies line tail fit none in
      let tails : history_line n ∷ stamp_lines 1 report.history ≡ line ∷ tail =
      same_front (map reply_line replies) (history_line n ∷ stamp_lines 1 report.history) (line ∷ tail)
      (ap (λ told. map reply_line told ++ history_line n ∷ stamp_lines 1 report.history) (sym same) ∙ is) in
      let line_is : history_line n ≡ line = cc in
      let stamps_are : stamp_lines 1 report.history ≡ tail = cc in
      record { replies_are = same; line_is = line_is; stamps_are = stamps_are }

  pub record StandsFirst (lines : List (List ℕ)) (number : ℕ) : Type 0 where
    pub counted : 0 < number
    pub within : number ≤ length lines + 1
    pub front : (before : ℕ) → number ≡ before + 1 → CanBegin columns (take before lines)
    pub fault : number ≤ length lines → ¬ CanBegin columns (take number lines)

  no_stamps : All StampFits []
  no_stamps k d below = absurd (omega arith)

  -- the replies begin a report
  replies_begin : (lines : List (List ℕ)) (r : Replied lines) (before : ℕ) → before ≡ length r.replies → CanBegin columns (take before lines)
  replies_begin lines r before is =
      let front : take before lines ≡ map reply_line r.replies =
      ap (λ n. take n lines) (is ∙ sym (length-map r.replies reply_line)) ∙ ap (take (length (map reply_line r.replies))) r.whole ∙ take-append_seam (map reply_line r.replies) r.rest in
      record {
        report = record { replies = r.replies; history = [] };
        fits = record { replies = r.fits; history = no_stamps; few = omega arith };
        rest = history_line 0 ∷ [];
        lines = ap (λ ls. ls ++ history_line 0 ∷ []) (sym front);
      }

  length-lines : (lines : List (List ℕ)) (r : Replied lines) → length lines ≡ length r.replies + length r.rest
  length-lines lines r = omega (arith, ap length r.whole, length-append (map reply_line r.replies) r.rest, length-map r.replies reply_line)

  -- there is no line behind the replies
  fault_missing : (lines : List (List ℕ)) (r : Replied lines) → r.rest ≡ [] → StandsFirst lines (length r.replies + 1)
  fault_missing lines r none = record {
    counted = omega arith;
    within = omega (arith, length-lines lines r);
    front = λ before is. replies_begin lines r before (omega arith);
    fault = λ within. absurd (omega (arith, length-lines lines r, ap length none));
  }

  -- the line behind the replies is no number of commits
  fault_line : (lines : List (List ℕ)) (r : Replied lines) (line : List ℕ) (more : List (List ℕ)) → r.rest ≡ line ∷ more → count_of line ≡ None → StandsFirst lines (length r.replies + 1)
  fault_line lines r line more rest_is none = record {
    counted = omega arith;
    within = omega (arith, length-lines lines r);
    front = λ before is. replies_begin lines r before (omega arith);
    fault = λ within begun.
        let texts = map reply_line r.replies in
        let front : take (length r.replies + 1) lines ≡ texts ++ line ∷ [] =
        ap (λ n. take (n + 1) lines) (sym (length-map r.replies reply_line)) ∙ ap (take (length texts + 1)) (r.whole ∙ ap (λ ls. texts ++ ls) rest_is) ∙ take-append-add texts (line ∷ more) 1 in
        let whole : report_lines begun.report ≡ texts ++ line ∷ begun.rest = begun.lines ∙ ap (λ ls. ls ++ begun.rest) front ∙ append_assoc texts (line ∷ []) begun.rest in
        let heads = heads_alike begun.report begun.fits r.replies r.fits line begun.rest (r.stops line more rest_is) whole in
        let read : None ≡ Some (length begun.report.history) = sym none ∙ ap count_of (sym heads.line_is) ∙ count_again (length begun.report.history) begun.fits.few in
        cc;
  }

  zero_stamp : Stamp
  zero_stamp = record { session = 0; number = 0; begin = 0 }

  fill_fits : (n : ℕ) → All StampFits (replicate n zero_stamp)
  unfolding zero_stamp
  fill_fits zero = λ k d below. absurd (omega arith)
  fill_fits (suc n) = All-cons StampFits zero_stamp (replicate n zero_stamp) (record { session = omega arith; number = omega arith; begin = omega arith }) (fill_fits n)

  same_counts : (m n : ℕ) → m < 2 ^ 64 → n < 2 ^ 64 → history_line m ≡ history_line n → m ≡ n
  same_counts m n few small e = let same : Some m ≡ Some n = sym (count_again m few) ∙ ap count_of e ∙ count_again n small in cc

  module _ (lines : List (List ℕ)) (r : Replied lines) (line : List ℕ) (more : List (List ℕ)) (count : ℕ) (rest_is : r.rest ≡ line ∷ more) (line_is : line ≡ history_line count) (few : count < 2 ^ 64) (s : Stamped lines r.replies count more) where
    abbrev texts : List (List ℕ)
    texts = map reply_line r.replies

    whole : lines ≡ texts ++ history_line count ∷ more
    whole = r.whole ∙ ap (λ ls. texts ++ ls) rest_is ∙ ap (λ l. texts ++ l ∷ more) line_is

    long : length lines ≡ length r.replies + 1 + length more
    long = omega (arith, length-lines lines r, ap length rest_is)

    fewer : (length s.stamps ≤ count) × (length s.stamps ≤ length more)
    fewer = (omega (arith, few_stamps s.stamps s.rest more count s.whole, length-take count more), omega (arith, few_stamps s.stamps s.rest more count s.whole, length-take count more))

    front_lines : (k : ℕ) → take (length r.replies + 1 + k) lines ≡ texts ++ history_line count ∷ take k more
    front_lines k =
        let here : length r.replies + 1 + k ≡ length texts + suc k = omega (arith, length-map r.replies reply_line) in
        ap (λ n. take n lines) here ∙ ap (take (length texts + suc k)) whole ∙ take-append-add texts (history_line count ∷ more) (suc k)

    stamp_front : take (length s.stamps) more ≡ stamp_lines 1 s.stamps
    stamp_front =
        sym (take-take (length s.stamps) count more fewer.0) ∙ ap (take (length s.stamps)) s.whole
        ∙ ap (λ n. take n (stamp_lines 1 s.stamps ++ s.rest)) (sym (length-stamp_lines 1 s.stamps)) ∙ take-append_seam (stamp_lines 1 s.stamps) s.rest

    stamps_begin : (before : ℕ) → before ≡ length r.replies + 1 + length s.stamps → CanBegin columns (take before lines)
    stamps_begin before is =
        let fill = replicate (count - length s.stamps) zero_stamp in
        let history = s.stamps ++ fill in
        let as_many : length history ≡ count = omega (arith, length-append s.stamps fill, length-replicate (count - length s.stamps) zero_stamp, fewer.0) in
        let front : take before lines ≡ texts ++ history_line count ∷ stamp_lines 1 s.stamps = ap (λ n. take n lines) is ∙ front_lines (length s.stamps) ∙ ap (λ ls. texts ++ history_line count ∷ ls) stamp_front in
        record {
          report = record { replies = r.replies; history = history };
          fits = record { replies = r.fits; history = All-append StampFits s.stamps fill s.fits (fill_fits (count - length s.stamps)); few = omega arith };
          rest = stamp_lines (1 + length s.stamps) fill;
          lines = ap (λ ls. texts ++ history_line (length history) ∷ ls) (stamp_lines-append 1 s.stamps fill)
              ∙ ap (λ n. texts ++ history_line n ∷ (stamp_lines 1 s.stamps ++ stamp_lines (1 + length s.stamps) fill)) as_many
              ∙ sym (append_assoc texts (history_line count ∷ stamp_lines 1 s.stamps) (stamp_lines (1 + length s.stamps) fill))
              ∙ ap (λ ls. ls ++ stamp_lines (1 + length s.stamps) fill) (sym front);
        }

    -- one line more can't begin a report
    stuck : length s.stamps < length more → ¬ CanBegin columns (take (length r.replies + 2 + length s.stamps) lines)
    stuck further begun =
        let k = length s.stamps in
        let here : length r.replies + 2 + k ≡ length r.replies + 1 + (k + 1) = omega arith in
        let front : take (length r.replies + 2 + k) lines ≡ texts ++ history_line count ∷ take (k + 1) more = ap (λ n. take n lines) here ∙ front_lines (k + 1) in
        let all : report_lines begun.report ≡ texts ++ history_line count ∷ (take (k + 1) more ++ begun.rest) = begun.lines ∙ ap (λ ls. ls ++ begun.rest) front ∙ append_assoc texts (history_line count ∷ take (k + 1) more) begun.rest in
        let heads = heads_alike begun.report begun.fits r.replies r.fits (history_line count) (take (k + 1) more ++ begun.rest) (history_no_reply columns count few) all in
        let counts : length begun.report.history ≡ count = same_counts (length begun.report.history) count begun.fits.few few heads.line_is in
        let sizes : length begun.report.history ≡ length (take (k + 1) more) + length begun.rest =
        omega (arith, ap length heads.stamps_are, length-stamp_lines 1 begun.report.history, length-append (take (k + 1) more) begun.rest) in
        let fewest : k < count = omega (arith, length-take (k + 1) more, fewer.0) in
        by_rest s.rest refl begun heads.stamps_are counts fewest
      where
        by_rest : (rest : List (List ℕ)) → s.rest ≡ rest → (begun : CanBegin columns (take (length r.replies + 2 + length s.stamps) lines))
            → stamp_lines 1 begun.report.history ≡ take (length s.stamps + 1) more ++ begun.rest → length begun.report.history ≡ count → length s.stamps < count → ⊥
        by_rest [] rest_none begun stamps_are counts fewest = absurd (omega (arith, few_stamps s.stamps s.rest more count s.whole, ap length rest_none, length-take count more))
        by_rest (next ∷ others) rest_some begun stamps_are counts fewest =
            let k = length s.stamps in
            let stamps = stamp_lines 1 s.stamps in
            let taken : take (k + 1) more ≡ stamps ++ next ∷ [] =
            sym (take-take (k + 1) count more (omega arith)) ∙ ap (take (k + 1)) (s.whole ∙ ap (λ ls. stamps ++ ls) rest_some)
            ∙ ap (λ n. take (n + 1) (stamps ++ next ∷ others)) (sym (length-stamp_lines 1 s.stamps)) ∙ take-append-add stamps (next ∷ others) 1 in
            let alike : stamp_lines 1 begun.report.history ≡ stamps ++ next ∷ begun.rest = stamps_are ∙ ap (λ ls. ls ++ begun.rest) taken ∙ append_assoc stamps (next ∷ []) begun.rest in
            let same : begun.report.history ≡ s.stamps =
            sym (stamps_again begun.report.history begun.fits.few begun.fits.history) ∙ ap stamps_front alike ∙ stamps_stop s.stamps next begun.rest (omega arith) s.fits (s.stops next others rest_some) in
            omega (arith, ap length same)

    fault_stamps : StandsFirst lines (length r.replies + 2 + length s.stamps)
    fault_stamps = record {
      counted = omega arith;
      within = omega (arith, long, fewer.1);
      front = λ before is. stamps_begin before (omega arith);
      fault = λ within. stuck (omega (arith, long));
    }

    stamps_fault : (number : ℕ) → after_stamps r.replies count s.stamps (length more) ≡ Err number → StandsFirst lines number
    stamps_fault number = by_test (eqb (length s.stamps) count && eqb (length more) count)
      where
        by_test : (b : Bool) → cond {A = Result Report ℕ} b (Ok (record { replies = r.replies; history = s.stamps })) (Err (length r.replies + 2 + length s.stamps)) ≡ Err number → StandsFirst lines number
        by_test true e = absurd cc
        by_test false e = let same : length r.replies + 2 + length s.stamps ≡ number = cc in subst (StandsFirst lines) same fault_stamps

  count_fault : (lines : List (List ℕ)) (r : Replied lines) (line : List ℕ) (more : List (List ℕ)) → r.rest ≡ line ∷ more → (o : Option ℕ) → count_of line ≡ o → (number : ℕ) → after_count r.replies more o ≡ Err number → StandsFirst lines number
  count_fault lines r line more rest_is None is number e = let same : length r.replies + 1 ≡ number = cc in subst (StandsFirst lines) same (fault_line lines r line more rest_is is)
  count_fault lines r line more rest_is (Some count) is number e =
      let takes = count_takes line count is in
      let s = stamped lines r.replies count more in
      stamps_fault lines r line more count rest_is takes.0 takes.1 s number (sym s.is ∙ e)

  rest_fault : (lines : List (List ℕ)) (r : Replied lines) (rest : List (List ℕ)) → r.rest ≡ rest → (number : ℕ) → after_replies r.replies rest ≡ Err number → StandsFirst lines number
  rest_fault lines r [] rest_is number e = let same : length r.replies + 1 ≡ number = cc in subst (StandsFirst lines) same (fault_missing lines r rest_is)
  rest_fault lines r (line ∷ more) rest_is number e = count_fault lines r line more rest_is (count_of line) refl number e

  pub first_fault : (lines : List (List ℕ)) (number : ℕ) → report_in columns lines ≡ Err number → StandsFirst lines number
  first_fault lines number e = let r = replied lines in rest_fault lines r r.rest refl number (sym r.is ∙ e)
