-- Whole reports: what is read of their lines, and which line is the first that can't stand in its place.
use Rattle.std.proofs.Common.{◌≡◌, ℕ, suc, ◌+◌, ◌<◌, ◌≤◌, ◌^◌, true, false, eqb, List, [], ◌∷◌, ◌++◌, length, map, decimal, codes, bytes_eq, Option, Some, None, refl, sym, ap, ◌∙◌, subst, arith}
use Rattle.std.specs.List.{All, list_any}
use Rattle.std.proofs.lemmas.Bool.{cond-true, false≢true}
use Rattle.std.proofs.lemmas.List.Elements.{All-cons, All-nil}
use Rattle.std.proofs.lemmas.Slice.Eq.{bytes_eq-Decides}
use Rattle.lst_model.specs.declared.replies.Reply.{Reply}
use Rattle.lst_replies.specs.declared.reports.Stamp.{Stamp}
use Rattle.lst_replies.specs.ReportTexts.{reply_line, history_line, stamp_line, stamp_lines, StampFits}
use Rattle.lst_replies.specs.Reading.{words_of, with_both, number32, number64, call_reply, told_by, reply_of, count_in, count_of, stamp_in, stamp_of, read_front, front_with}
use Rattle.lst_replies.proofs.Decimals.{number_of-none}
use Rattle.lst_replies.proofs.Joined.{any-decimal, decimal-named}
use Rattle.lst_replies.proofs.Chains.{Reads, named, reads_none, reads_if, reads_both}
use Rattle.lst_replies.proofs.Spelling.{split-words}
use Rattle.lst_replies.proofs.Readings.{takes64, again64, takes32, again32}
use Rattle.std.proofs.lemmas.List.Splits.{join_with_byte-slice_split}
use Rattle.std.specs.List.{join_with_byte}

-- ---- the line with the number of commits, and those of commits

number_free : (n : ℕ) → n < 10 ^ 64 → list_any (λ c. eqb c 32) (decimal n) ≡ false
number_free n small = any-decimal 32 n (λ low. omega arith) small

history_words : (n : ℕ) → n < 2 ^ 64 → words_of (history_line n) ≡ codes "history" ∷ decimal n ∷ []
history_words n small = split-words (codes "history" ∷ decimal n ∷ []) (omega arith) (refl, (number_free n (omega arith), tt))

pub count_again : (n : ℕ) → n < 2 ^ 64 → count_of (history_line n) ≡ Some n
count_again n small = ap count_in (history_words n small) ∙ again64 n small

count_words : (words : List (List ℕ)) → Reads (λ n. (words ≡ codes "history" ∷ decimal n ∷ []) × (n < 2 ^ 64)) (count_in words)
count_words [] = reads_none (λ n. ([] ≡ codes "history" ∷ decimal n ∷ []) × (n < 2 ^ 64))
count_words (name ∷ []) = reads_none (λ n. (name ∷ [] ≡ codes "history" ∷ decimal n ∷ []) × (n < 2 ^ 64))
count_words (name ∷ word ∷ []) =
    reads_if (λ n. (name ∷ word ∷ [] ≡ codes "history" ∷ decimal n ∷ []) × (n < 2 ^ 64)) (bytes_eq name (codes "history")) (number64 word) None
    (λ e n f. let takes = takes64 word n f in (ap (λ w. w ∷ word ∷ []) (named name (codes "history") e) ∙ ap (λ w. codes "history" ∷ w ∷ []) takes.0, takes.1))
    (reads_none (λ n. (name ∷ word ∷ [] ≡ codes "history" ∷ decimal n ∷ []) × (n < 2 ^ 64)))
count_words (name ∷ word ∷ third ∷ words) = reads_none (λ n. (name ∷ word ∷ third ∷ words ≡ codes "history" ∷ decimal n ∷ []) × (n < 2 ^ 64))

pub count_takes : (line : List ℕ) → Reads (λ n. (line ≡ history_line n) × (n < 2 ^ 64)) (count_of line)
count_takes line n e =
    let takes = count_words (words_of line) n e in
    (sym (join_with_byte-slice_split 32 line) ∙ ap (join_with_byte 32) takes.0, takes.1)

-- a name is no number
no_number : number32 (codes "history") ≡ None
no_number = number_of-none (2 ^ 32) (codes "history") (λ n below written.
    false≢true (sym (decimal-named n 104 _ (omega arith) (omega arith)) ∙ (bytes_eq-Decides (decimal n) (codes "history")).1 (sym written)))

pub history_no_reply : (columns n : ℕ) → n < 2 ^ 64 → reply_of columns (history_line n) ≡ None
history_no_reply columns n small =
    ap (told_by columns) (history_words n small)
    ∙ ap (λ o. with_both (λ session reply. (Some session, reply)) o (call_reply columns (decimal n ∷ []))) no_number

stamp_words : (time : ℕ) (stamp : Stamp) → time < 10 ^ 64 → StampFits stamp → words_of (stamp_line time stamp) ≡ decimal time ∷ decimal stamp.session ∷ decimal stamp.number ∷ decimal stamp.begin ∷ []
stamp_words time stamp small fits =
    split-words (decimal time ∷ decimal stamp.session ∷ decimal stamp.number ∷ decimal stamp.begin ∷ []) (omega arith)
    (number_free time small, (number_free stamp.session (omega (arith, fits.session)), (number_free stamp.number (omega (arith, fits.number)), (number_free stamp.begin (omega (arith, fits.begin)), tt))))

same_bytes : (word : List ℕ) → bytes_eq word word ≡ true
same_bytes word = (bytes_eq-Decides word word).1 refl

make_pair : ℕ → ℕ → ℕ × ℕ
make_pair number begin = (number, begin)

pub stamp_again : (time : ℕ) (stamp : Stamp) → time < 10 ^ 64 → StampFits stamp → stamp_of time (stamp_line time stamp) ≡ Some stamp
stamp_again time stamp small fits =
    ap (stamp_in time) (stamp_words time stamp small fits)
    ∙ cond-true _ _ _ (same_bytes (decimal time))
    ∙ ap (λ o. with_both (λ (session : ℕ) (rest : ℕ × ℕ). record { session = session; number = rest.0; begin = rest.1 }) o (with_both (λ (number begin : ℕ). (number, begin)) (number32 (decimal stamp.number)) (number64 (decimal stamp.begin)))) (again32 stamp.session fits.session)
    ∙ ap (λ o. with_both (λ (session : ℕ) (rest : ℕ × ℕ). record { session = session; number = rest.0; begin = rest.1 }) (Some stamp.session) (with_both (λ (number begin : ℕ). (number, begin)) o (number64 (decimal stamp.begin)))) (again32 stamp.number fits.number)
    ∙ ap (λ o. with_both (λ (session : ℕ) (rest : ℕ × ℕ). record { session = session; number = rest.0; begin = rest.1 }) (Some stamp.session) (with_both (λ (number begin : ℕ). (number, begin)) (Some stamp.number) o)) (again64 stamp.begin fits.begin)

abbrev IsStampOf : ℕ → List (List ℕ) → Stamp → Type 0
IsStampOf time words stamp = (words ≡ decimal time ∷ decimal stamp.session ∷ decimal stamp.number ∷ decimal stamp.begin ∷ []) × StampFits stamp

stamp_read : (time : ℕ) (words : List (List ℕ)) → Reads (IsStampOf time words) (stamp_in time words)
stamp_read time [] = reads_none (IsStampOf time [])
stamp_read time (a ∷ []) = reads_none (IsStampOf time (a ∷ []))
stamp_read time (a ∷ b ∷ []) = reads_none (IsStampOf time (a ∷ b ∷ []))
stamp_read time (a ∷ b ∷ c ∷ []) = reads_none (IsStampOf time (a ∷ b ∷ c ∷ []))
stamp_read time (a ∷ b ∷ c ∷ d ∷ []) =
    let P : Stamp → Type 0 = IsStampOf time (a ∷ b ∷ c ∷ d ∷ []) in
    reads_if P (bytes_eq a (decimal time)) _ None (λ e. reads_both P (λ (session : ℕ) (rest : ℕ × ℕ). record { session = session; number = rest.0; begin = rest.1 }) (number32 b) (with_both (λ (number begin : ℕ). (number, begin)) (number32 c) (number64 d)) (λ session rest f g.
    let first = takes32 b session f in
    let others = reads_both (λ (pair : ℕ × ℕ). ((c ≡ decimal pair.0) × (pair.0 < 2 ^ 32)) × ((d ≡ decimal pair.1) × (pair.1 < 2 ^ 64))) (λ (number begin : ℕ). (number, begin)) (number32 c) (number64 d) (λ number begin h k. (takes32 c number h, takes64 d begin k)) rest g in (
      ap (λ w. w ∷ b ∷ c ∷ d ∷ []) (named a (decimal time) e) ∙ ap (λ w. decimal time ∷ w ∷ c ∷ d ∷ []) first.0
          ∙ ap (λ w. decimal time ∷ decimal session ∷ w ∷ d ∷ []) others.0.0 ∙ ap (λ w. decimal time ∷ decimal session ∷ decimal rest.0 ∷ w ∷ []) others.1.0,
      record { session = first.1; number = others.0.1; begin = others.1.1 },
    )))
    (reads_none P)
stamp_read time (a ∷ b ∷ c ∷ d ∷ e ∷ words) = reads_none (IsStampOf time (a ∷ b ∷ c ∷ d ∷ e ∷ words))

pub stamp_takes : (time : ℕ) (line : List ℕ) → Reads (λ stamp. (line ≡ stamp_line time stamp) × StampFits stamp) (stamp_of time line)
stamp_takes time line stamp e =
    let takes = stamp_read time (words_of line) stamp e in
    (sym (join_with_byte-slice_split 32 line) ∙ ap (join_with_byte 32) takes.0, takes.1)

-- ---- what is read from the first line on

abbrev pub texts_at : {X : Type 0} → (ℕ → X → List ℕ) → ℕ → List X → List (List ℕ)
texts_at text place [] = []
texts_at text place (x ∷ xs) = text place x ∷ texts_at text (place + 1) xs

pub length-texts_at : {X : Type 0} (text : ℕ → X → List ℕ) (place : ℕ) (xs : List X) → length (texts_at text place xs) ≡ length xs
length-texts_at text place [] = refl
length-texts_at text place (x ∷ xs) = ap suc (length-texts_at text (place + 1) xs)

pub texts_at-replies : (place : ℕ) (replies : List (Option ℕ × Reply)) → texts_at (λ i told. reply_line told) place replies ≡ map reply_line replies
texts_at-replies place [] = refl
texts_at-replies place (told ∷ replies) = ap (λ rest. reply_line told ∷ rest) (texts_at-replies (place + 1) replies)

pub texts_at-stamps : (time : ℕ) (stamps : List Stamp) → texts_at stamp_line time stamps ≡ stamp_lines time stamps
texts_at-stamps time [] = refl
texts_at-stamps time (stamp ∷ stamps) = ap (λ rest. stamp_line time stamp ∷ rest) (texts_at-stamps (time + 1) stamps)

module _ {X : Type 0} (read : ℕ → List ℕ → Option X) (text : ℕ → X → List ℕ) (P : X → Type 0) where
  pub record Front (place : ℕ) (lines : List (List ℕ)) : Type 0 where
    pub xs : List X
    pub rest : List (List ℕ)
    pub is : read_front read place lines ≡ xs
    pub whole : lines ≡ texts_at text place xs ++ rest
    pub each : All P xs
    pub stops : (line : List ℕ) (more : List (List ℕ)) → rest ≡ line ∷ more → read (place + length xs) line ≡ None

  pub front_takes : ((i : ℕ) (line : List ℕ) → Reads (λ x. (line ≡ text i x) × P x) (read i line)) → (place : ℕ) (lines : List (List ℕ)) → Front place lines
  front_takes takes place [] = record { xs = []; rest = []; is = refl; whole = refl; each = All-nil P; stops = λ line more e. absurd cc }
  front_takes takes place (line ∷ lines) = by_reading (read place line) refl (front_takes takes (place + 1) lines)
    where
      by_reading : (o : Option X) → read place line ≡ o → Front (place + 1) lines → Front place (line ∷ lines)
      by_reading None e behind = record {
        xs = [];
        rest = line ∷ lines;
        is = ap (λ o. front_with o (read_front read (place + 1) lines)) e;
        whole = refl;
        each = All-nil P;
        stops = λ other more f. let same : line ≡ other = cc in let here : place ≡ place + 0 = omega arith in subst (λ (l : List ℕ). read (place + 0) l ≡ None) same (subst (λ (i : ℕ). read i line ≡ None) here e);
      }
      by_reading (Some x) e behind =
          let first = takes place line x e in
          record {
            xs = x ∷ behind.xs;
            rest = behind.rest;
            is = ap (λ o. front_with o (read_front read (place + 1) lines)) e ∙ ap (λ xs. x ∷ xs) behind.is;
            whole = ap (λ l. l ∷ lines) first.0 ∙ ap (λ ls. text place x ∷ ls) behind.whole;
            each = All-cons P x behind.xs first.1 behind.each;
            stops = λ other more f. let here : place + 1 + length behind.xs ≡ place + length (x ∷ behind.xs) = omega arith in subst (λ (i : ℕ). read i other ≡ None) here (behind.stops other more f);
          }

  pub front_again : (limit : ℕ) → ((i : ℕ) (x : X) → i < limit → P x → read i (text i x) ≡ Some x) → (place : ℕ) (xs : List X) (rest : List (List ℕ)) → place + length xs ≤ limit → All P xs
      → read_front read place (texts_at text place xs ++ rest) ≡ xs ++ read_front read (place + length xs) rest
  front_again limit again place [] rest few fits = let here : place ≡ place + 0 = omega arith in ap (λ i. read_front read i rest) here
  front_again limit again place (x ∷ xs) rest few fits =
      let here : place + 1 + length xs ≡ place + length (x ∷ xs) = omega arith in
      ap (λ o. front_with o (read_front read (place + 1) (texts_at text (place + 1) xs ++ rest))) (again place x (omega arith) (fits 0 x (omega arith)))
      ∙ ap (λ ys. x ∷ ys) (front_again limit again (place + 1) xs rest (omega arith) (λ k d h. fits (suc k) d (omega arith)))
      ∙ ap (λ i. x ∷ (xs ++ read_front read i rest)) here
