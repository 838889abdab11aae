-- What the record of a file's calls says where one call more was noted.
use Rattle.std.specs.Prelude.{◌≡◌, ℕ, ◌+◌, ◌-◌, ◌<◌, ◌≤◌, List, ◌∷◌, length, Bool, true, false, ◌==◌, if◌then◌else◌}
use Rattle.std.proofs.Common.{sym, ap, ◌∙◌, subst, inl, inr, arith}
use Rattle.std.proofs.lemmas.Bool.Decides.{nat_tests}
use Rattle.lst_disk.specs.Disk.{overwritten, Torn, Follows, Elapses}
use Rattle.lst_disk.specs.Images.{Stored, after_write, IsImage}
use Rattle.lst_disk.specs.ImageLaws.{torn_by_write}
use Rattle.lst_file.specs.Events.{Event, wrote, failed, synced, is_within, lengthened, after_end, stored, ImageNow, ImageSince}
use Rattle.lst_file.specs.FilesLaws.{content_image, torn_nowhere}

elapses_one : (base : ℕ) (e : Event) (events : List Event) → Elapses (length events) (length (e ∷ events)) (ImageSince base events) (ImageSince base (e ∷ events)) (ImageNow base (e ∷ events))
elapses_one base e events = record {
  later = omega arith;
  nothing_else = λ t c le since. elim since [ inl image ↦ inr image | inr past ↦ inl past.1 ];
  keeps = λ t c le past. inr (le, past);
}

-- time goes on by a call that is noted, and stands still without one
pub elapses : (base : ℕ) (e : Event) (events after : List Event) → after ≡ e ∷ events → Elapses (length events) (length after) (ImageSince base events) (ImageSince base after) (ImageNow base after)
elapses base e events after is = subst (λ (es : List Event). Elapses (length events) (length es) (ImageSince base events) (ImageSince base es) (ImageNow base es)) (sym is) (elapses_one base e events)

pub stands_still : (base : ℕ) (events after : List Event) → after ≡ events → Elapses (length events) (length after) (ImageSince base events) (ImageSince base after) (ImageNow base after)
stands_still base events after is =
    subst (λ (es : List Event). Elapses (length events) (length es) (ImageSince base events) (ImageSince base es) (ImageNow base es)) (sym is)
    (record { later = omega arith; nothing_else = λ t c le since. inl since; keeps = λ t c le past. past })

if_so : {X : Type 0} (b : Bool) (x y : X) → b ≡ true → (if b then x else y) ≡ x
if_so b x y is = ap (λ (it : Bool). if it then x else y) is

if_not : {X : Type 0} (b : Bool) (x y : X) → b ≡ false → (if b then x else y) ≡ y
if_not b x y is = ap (λ (it : Bool). if it then x else y) is

fits_within : (base at : ℕ) (bytes : List ℕ) (s : Stored) → at + length bytes ≤ length s.content → is_within base (base + at) bytes s ≡ true
fits_within base at bytes s fits = grind (arith, nat_tests, fits)

lies_at : (base at : ℕ) → (base + at) - base ≡ at
lies_at base at = omega arith

-- a write within the disk
pub stores_write : (base : ℕ) (events after : List Event) (at : ℕ) (bytes : List ℕ) → after ≡ wrote (base + at) bytes ∷ events → at + length bytes ≤ length (stored base events).content → stored base after ≡ after_write at bytes (stored base events)
stores_write base events after at bytes is fits =
    let s = stored base events in
    ap (stored base) is
    ∙ if_so (is_within base (base + at) bytes s) (after_write ((base + at) - base) bytes s) (after_end base (base + at) bytes s) (fits_within base at bytes s fits)
    ∙ ap (λ (n : ℕ). after_write n bytes s) (lies_at base at)

pub stores_failure : (base : ℕ) (events after : List Event) (at : ℕ) (bytes : List ℕ) → after ≡ failed (base + at) bytes ∷ events → at + length bytes ≤ length (stored base events).content → stored base after ≡ (record (stored base events) { pending = (at, length bytes) ∷ (stored base events).pending })
stores_failure base events after at bytes is fits =
    let s = stored base events in
    ap (stored base) is
    ∙ if_so (is_within base (base + at) bytes s) (record s { pending = ((base + at) - base, length bytes) ∷ s.pending }) (after_end base (base + at) bytes s) (fits_within base at bytes s fits)
    ∙ ap (λ (n : ℕ). record s { pending = (n, length bytes) ∷ s.pending }) (lies_at base at)

pub write_content : (base : ℕ) (events after : List Event) (at : ℕ) (bytes : List ℕ) → after ≡ wrote (base + at) bytes ∷ events → at + length bytes ≤ length (stored base events).content → (stored base after).content ≡ overwritten (stored base events).content at bytes
write_content base events after at bytes is fits = ap (λ (s : Stored). s.content) (stores_write base events after at bytes is fits)

pub write_torn : (base : ℕ) (events after : List Event) (at : ℕ) (bytes : List ℕ) → after ≡ wrote (base + at) bytes ∷ events → at + length bytes ≤ length (stored base events).content → Torn at (length bytes) (stored base events).content (stored base after).content
write_torn base events after at bytes is fits =
    subst (λ (c : List ℕ). Torn at (length bytes) (stored base events).content c) (sym (write_content base events after at bytes is fits)) (torn_by_write (stored base events).content at bytes fits)

pub write_follows : (base : ℕ) (events after : List Event) (at : ℕ) (bytes : List ℕ) → after ≡ wrote (base + at) bytes ∷ events → at + length bytes ≤ length (stored base events).content → Follows (Torn at (length bytes)) (ImageNow base events) (ImageNow base after)
write_follows base events after at bytes is fits = λ c image. subst (λ (s : Stored). IsImage s.synced s.pending c) (stores_write base events after at bytes is fits) image

pub failure_content : (base : ℕ) (events after : List Event) (at : ℕ) (bytes : List ℕ) → after ≡ failed (base + at) bytes ∷ events → at + length bytes ≤ length (stored base events).content → (stored base after).content ≡ (stored base events).content
failure_content base events after at bytes is fits = ap (λ (s : Stored). s.content) (stores_failure base events after at bytes is fits)

pub failure_torn : (base : ℕ) (events after : List Event) (at : ℕ) (bytes : List ℕ) → after ≡ failed (base + at) bytes ∷ events → at + length bytes ≤ length (stored base events).content → Torn at (length bytes) (stored base events).content (stored base after).content
failure_torn base events after at bytes is fits =
    subst (λ (c : List ℕ). Torn at (length bytes) (stored base events).content c) (sym (failure_content base events after at bytes is fits)) (torn_nowhere at (length bytes) (stored base events).content)

pub failure_follows : (base : ℕ) (events after : List Event) (at : ℕ) (bytes : List ℕ) → after ≡ failed (base + at) bytes ∷ events → at + length bytes ≤ length (stored base events).content → Follows (Torn at (length bytes)) (ImageNow base events) (ImageNow base after)
failure_follows base events after at bytes is fits = λ c image. subst (λ (s : Stored). IsImage s.synced s.pending c) (stores_failure base events after at bytes is fits) image

-- what a crash leaves behind a sync is an image before it
pub sync_crash : (base : ℕ) (events after : List Event) → after ≡ synced ∷ events → (c : List ℕ) → ImageNow base after c → ImageNow base events c
sync_crash base events after is c image =
    let now : ImageNow base (synced ∷ events) c = subst (λ (es : List Event). ImageNow base es c) is image in
    subst (ImageNow base events) (sym now) (content_image base events)

-- bytes behind the end
at_end : (base : ℕ) (bytes : List ℕ) (s : Stored) → 0 < length bytes → is_within base (base + length s.content) bytes s ≡ false
at_end base bytes s some = grind (arith, nat_tests, some)

adds : (base : ℕ) (bytes : List ℕ) (s : Stored) → after_end base (base + length s.content) bytes s ≡ lengthened bytes s
adds base bytes s = if_so ((base + length s.content) == base + length s.content) (lengthened bytes s) s (grind (arith, nat_tests))

pub adds_written : (base : ℕ) (events after : List Event) (bytes : List ℕ) → after ≡ wrote (base + length (stored base events).content) bytes ∷ events → 0 < length bytes → stored base after ≡ lengthened bytes (stored base events)
adds_written base events after bytes is some =
    let s = stored base events in let at = base + length s.content in
    ap (stored base) is ∙ if_not (is_within base at bytes s) (after_write (at - base) bytes s) (after_end base at bytes s) (at_end base bytes s some) ∙ adds base bytes s

pub adds_failed : (base : ℕ) (events after : List Event) (bytes : List ℕ) → after ≡ failed (base + length (stored base events).content) bytes ∷ events → 0 < length bytes → stored base after ≡ lengthened bytes (stored base events)
adds_failed base events after bytes is some =
    let s = stored base events in let at = base + length s.content in
    ap (stored base) is ∙ if_not (is_within base at bytes s) (record s { pending = (at - base, length bytes) ∷ s.pending }) (after_end base at bytes s) (at_end base bytes s some) ∙ adds base bytes s
