-- What is spelled is read.
use Rattle.std.proofs.Common.{◌≡◌, ℕ, ◌<◌, ◌^◌, Bool, List, [], ◌∷◌, map, decimal, codes, bytes_eq, Option, Some, None, option_map, refl, ap, ◌∙◌, arith}
use Rattle.std.specs.Prelude.{if◌then◌else◌}
use Rattle.lst_model.specs.declared.replies.Reply.{Reply}
use Rattle.lst_model.specs.declared.replies.Reply.TheVariants.{Begun, Done, Row, Absent, Committed, Ended, Aborted, Sum, Count, Rows, Keys, Refused, Merged, NothingNew, NoFrame, Silent}
use Rattle.lst_model.specs.declared.replies.Cause.{Cause}
use Rattle.lst_model.specs.declared.replies.Cause.TheVariants.{Idle, Active, ReadOnly, Spent, Future, Missing, Exists, TableFull, Latched, Newer, Unfinished, TailFull, NotIndexed, Stale}
use Rattle.lst_replies.specs.ReportTexts.{reply_line, CauseFits, EntryFits, CallReplyFits, MergeReplyFits, ReplyFits}
use Rattle.lst_replies.specs.Texts.{cell_text}
use Rattle.lst_replies.specs.Reading.{or_else, with_both, number64, number32, entry_of, short_reply, list_reply, call_reply, merge_reply, told_by, reply_of}
use Rattle.lst_replies.proofs.Decimals.{number_of-decimal}
use Rattle.lst_replies.proofs.Joined.{decimal-named}
use Rattle.lst_replies.proofs.Spelling.{entry_word, cause_words_of, words_in, words_told, words-line}
use Rattle.lst_replies.proofs.Readings.{all_again, again64, again32, cells_again, entry_again}

-- ---- replies to calls

cause_again : (cause : Cause) → CauseFits cause → short_reply (cause_words_of cause) ≡ Some (Refused cause)
cause_again Idle fits = refl
cause_again Active fits = refl
cause_again ReadOnly fits = refl
cause_again Spent fits = refl
cause_again (Future clock) fits = ap (λ o. option_map (λ cause. Refused cause) (option_map (λ n. Future n) o)) (again64 clock fits)
cause_again Missing fits = refl
cause_again Exists fits = refl
cause_again TableFull fits = refl
cause_again Latched fits = refl
cause_again (Newer time) fits = ap (λ o. option_map (λ cause. Refused cause) (option_map (λ n. Newer n) o)) (again64 time fits)
cause_again (Unfinished session number) fits =
    ap (λ o. option_map (λ cause. Refused cause) (with_both (λ j n. Unfinished j n) o (number32 (decimal number)))) (again32 session fits.0)
    ∙ ap (λ o. option_map (λ cause. Refused cause) (with_both (λ j n. Unfinished j n) (Some session) o)) (again32 number fits.1)
cause_again TailFull fits = refl
cause_again NotIndexed fits = refl
cause_again (Stale time) fits = ap (λ o. option_map (λ cause. Refused cause) (option_map (λ n. Stale n) o)) (again64 time fits)

-- no reply of a few words begins with the name of a list
row_long : (words : List (List ℕ)) → short_reply (codes "row" ∷ words) ≡ None
row_long [] = refl
row_long (a ∷ []) = refl
row_long (a ∷ b ∷ []) = refl
row_long (a ∷ b ∷ c ∷ []) = refl
row_long (a ∷ b ∷ c ∷ d ∷ words) = refl

rows_long : (words : List (List ℕ)) → short_reply (codes "rows" ∷ words) ≡ None
rows_long [] = refl
rows_long (a ∷ []) = refl
rows_long (a ∷ b ∷ []) = refl
rows_long (a ∷ b ∷ c ∷ []) = refl
rows_long (a ∷ b ∷ c ∷ d ∷ words) = refl

keys_long : (words : List (List ℕ)) → short_reply (codes "keys" ∷ words) ≡ None
keys_long [] = refl
keys_long (a ∷ []) = refl
keys_long (a ∷ b ∷ []) = refl
keys_long (a ∷ b ∷ c ∷ []) = refl
keys_long (a ∷ b ∷ c ∷ d ∷ words) = refl

call_again : (columns : ℕ) (reply : Reply) → 0 < columns → CallReplyFits columns reply → call_reply columns (words_in reply) ≡ Some reply
call_again columns (Begun time) some fits = ap (λ o. or_else (option_map (λ n. Begun n) o) (list_reply columns (words_in (Begun time)))) (again64 time fits)
call_again columns Done some fits = refl
call_again columns (Row row) some fits =
    let words = map cell_text row in
    ap (λ o. or_else o (list_reply columns (codes "row" ∷ words))) (row_long words) ∙ ap (λ o. option_map (λ cells. Row cells) o) (cells_again columns row fits)
call_again columns Absent some fits = refl
call_again columns (Committed time) some fits = ap (λ o. or_else (option_map (λ n. Committed n) o) (list_reply columns (words_in (Committed time)))) (again64 time fits)
call_again columns (Ended time) some fits = ap (λ o. or_else (option_map (λ n. Ended n) o) (list_reply columns (words_in (Ended time)))) (again64 time fits)
call_again columns Aborted some fits = refl
call_again columns (Sum total) some fits = ap (λ o. or_else (option_map (λ n. Sum n) o) (list_reply columns (words_in (Sum total)))) (number_of-decimal (2 ^ 128) total fits (omega arith))
call_again columns (Count rows) some fits = ap (λ o. or_else (option_map (λ n. Count n) o) (list_reply columns (words_in (Count rows)))) (again64 rows fits)
call_again columns (Rows list) some fits =
    let words = map entry_word list in
    ap (λ o. or_else o (list_reply columns (codes "rows" ∷ words))) (rows_long words)
    ∙ ap (λ o. option_map (λ entries. Rows entries) o) (all_again (entry_of columns) entry_word (EntryFits columns) (λ entry. entry_again columns entry some) list fits)
call_again columns (Keys list) some fits =
    let words = map (λ key. decimal key) list in
    ap (λ o. or_else o (list_reply columns (codes "keys" ∷ words))) (keys_long words)
    ∙ ap (λ o. option_map (λ keys. Keys keys) o) (all_again number64 (λ n. decimal n) (λ n. n < 2 ^ 64) again64 list fits)
call_again columns (Refused cause) some fits = ap (λ o. or_else o (list_reply columns (cause_words_of cause))) (cause_again cause fits)
call_again columns (Merged tps) some fits = absurd fits
call_again columns (NothingNew tps) some fits = absurd fits
call_again columns (NoFrame session) some fits = absurd fits
call_again columns Silent some fits = absurd fits

-- ---- whole lines

-- a session's number is no name
no_merge : (session : ℕ) (words : List (List ℕ)) → session < 2 ^ 32 → merge_reply (decimal session ∷ words) ≡ None
no_merge session [] small = refl
no_merge session (word ∷ []) small =
    let few : session < 10 ^ 64 = omega arith in
    ap (λ (b : Bool). if b then option_map (λ n. Merged n) (number32 word) else (if bytes_eq (decimal session) (codes "idle") then option_map (λ n. NothingNew n) (number32 word) else (if bytes_eq (decimal session) (codes "noframe") then option_map (λ n. NoFrame n) (number32 word) else None))) (decimal-named session 109 _ few (omega arith))
    ∙ ap (λ (b : Bool). if b then option_map (λ n. NothingNew n) (number32 word) else (if bytes_eq (decimal session) (codes "noframe") then option_map (λ n. NoFrame n) (number32 word) else None)) (decimal-named session 105 _ few (omega arith))
    ∙ ap (λ (b : Bool). if b then option_map (λ n. NoFrame n) (number32 word) else None) (decimal-named session 110 _ few (omega arith))
no_merge session (word ∷ third ∷ words) small = refl

merge_again : (columns : ℕ) (reply : Reply) → MergeReplyFits reply → told_by columns (words_in reply) ≡ Some (None, reply)
merge_again columns (Merged tps) fits = ap (λ o. or_else (option_map (λ reply. (None, reply)) (option_map (λ n. Merged n) o)) (with_both (λ session reply. (Some session, reply)) (number32 (codes "merged")) (call_reply columns (decimal tps ∷ [])))) (again32 tps fits)
merge_again columns (NothingNew tps) fits = ap (λ o. or_else (option_map (λ reply. (None, reply)) (option_map (λ n. NothingNew n) o)) (with_both (λ session reply. (Some session, reply)) (number32 (codes "idle")) (call_reply columns (decimal tps ∷ [])))) (again32 tps fits)
merge_again columns (NoFrame session) fits = ap (λ o. or_else (option_map (λ reply. (None, reply)) (option_map (λ n. NoFrame n) o)) (with_both (λ session reply. (Some session, reply)) (number32 (codes "noframe")) (call_reply columns (decimal session ∷ [])))) (again32 session fits)
merge_again columns (Begun time) fits = absurd fits
merge_again columns Done fits = absurd fits
merge_again columns (Row row) fits = absurd fits
merge_again columns Absent fits = absurd fits
merge_again columns (Committed time) fits = absurd fits
merge_again columns (Ended time) fits = absurd fits
merge_again columns Aborted fits = absurd fits
merge_again columns (Sum total) fits = absurd fits
merge_again columns (Count rows) fits = absurd fits
merge_again columns (Rows list) fits = absurd fits
merge_again columns (Keys list) fits = absurd fits
merge_again columns (Refused cause) fits = absurd fits
merge_again columns Silent fits = absurd fits

told_again : (columns : ℕ) (told : Option ℕ × Reply) → 0 < columns → ReplyFits columns told → told_by columns (words_told told) ≡ Some told
told_again columns (None, reply) some fits = merge_again columns reply fits
told_again columns (Some session, reply) some fits =
    ap (λ o. or_else (option_map (λ answer. (None, answer)) o) (with_both (λ speaker answer. (Some speaker, answer)) (number32 (decimal session)) (call_reply columns (words_in reply)))) (no_merge session (words_in reply) fits.0)
    ∙ ap (λ o. with_both (λ speaker answer. (Some speaker, answer)) o (call_reply columns (words_in reply))) (again32 session fits.0)
    ∙ ap (λ o. with_both (λ speaker answer. (Some speaker, answer)) (Some session) o) (call_again columns reply some fits.1)

-- the line of a reply is read as it
pub reply_again : (columns : ℕ) (told : Option ℕ × Reply) → 0 < columns → ReplyFits columns told → reply_of columns (reply_line told) ≡ Some told
reply_again columns told some fits = ap (told_by columns) (words-line columns told some fits) ∙ told_again columns told some fits
