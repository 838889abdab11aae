-- What a crash leaves of a disk that is made longer.
use Rattle.std.specs.Prelude.{◌≡◌, ◌⊎◌, ℕ, zero, suc, ◌+◌, ◌-◌, ◌<◌, ◌≤◌, ◌==◌, List, [], ◌∷◌, ◌++◌, length, take, drop, replicate, Bool, true, false, Ok, Err, IsTrue, if◌then◌else◌}
use Rattle.std.proofs.Common.{refl, sym, ap, ◌∙◌, subst, inl, inr, arith, length-append, append_assoc}
use Rattle.std.proofs.Math.Seq.{take-append_seam}
use Rattle.std.proofs.lemmas.List.{take_all, append-nil, length-replicate, replicate-append-replicate}
use Rattle.lst_disk.specs.Disk.{Torn, LeavesOnly}
use Rattle.lst_disk.specs.Images.{Stored, after_write, IsImage}
use Rattle.lst_disk.specs.ImageLaws.{torn_by_write}
use Rattle.lst_file.specs.Events.{Event, wrote, failed, synced, unsynced, is_within, lengthened, after_end, after_call, stored, ImageNow, ImageSince}
use Rattle.lst_file.specs.declared.calls.Calls as calls
use Rattle.lst_file.specs.declared.file_disk.FileDisk.{FileDisk}
use Rattle.lst_file.specs.Files.{file_events, file_offset, file_content, file_images, file_images_since, file_clock, file_faults, file_is_dead, file_has_copy, WasImage}
use Rattle.lst_file.specs.FilesLaws.{within, content_image, is_now, is_only_now}
use Rattle.lst_file.specs.Faults.{Makes}
use Rattle.lst_file.proofs.Noting.{adds_written, adds_failed}

-- what was synced is as long as the content
abbrev Wide : Stored → Type 0
Wide s = length s.synced ≡ length s.content

wide_end : (b : Bool) (bytes : List ℕ) (s : Stored) → Wide s → Wide (if b then lengthened bytes s else s)
wide_end true bytes s wide = length-append s.synced bytes ∙ ap (λ (n : ℕ). n + length bytes) wide ∙ sym (length-append s.content bytes)
wide_end false bytes s wide = wide

wide_write : (b : Bool) (at : ℕ) (bytes : List ℕ) (s other : Stored) → (IsTrue b → at + length bytes ≤ length s.content) → Wide s → Wide other → Wide (if b then after_write at bytes s else other)
wide_write true at bytes s other fits wide others = wide ∙ sym (torn_by_write s.content at bytes (fits refl)).size
wide_write false at bytes s other fits wide others = others

wide_failed : (b : Bool) (at n : ℕ) (s other : Stored) → Wide s → Wide other → Wide (if b then record s { pending = (at, n) ∷ s.pending } else other)
wide_failed true at n s other wide others = wide
wide_failed false at n s other wide others = others

wide_after : (base kind place : ℕ) (bytes : List ℕ) (s : Stored) → Wide s → Wide (after_call base kind place bytes s)
wide_after base zero place bytes s wide = wide
wide_after base (suc zero) place bytes s wide = refl
wide_after base (suc (suc zero)) place bytes s wide = refl
wide_after base (suc (suc (suc zero))) place bytes s wide =
    wide_write (is_within base place bytes s) (place - base) bytes s (after_end base place bytes s) (within base place bytes s) wide (wide_end (place == base + length s.content) bytes s wide)
wide_after base (suc (suc (suc (suc zero)))) place bytes s wide =
    wide_failed (is_within base place bytes s) (place - base) (length bytes) s (after_end base place bytes s) wide (wide_end (place == base + length s.content) bytes s wide)
wide_after base (suc (suc (suc (suc (suc zero))))) place bytes s wide = refl
wide_after base (suc (suc (suc (suc (suc (suc more)))))) place bytes s wide = wide

pub is_wide : (base : ℕ) (events : List Event) → Wide (stored base events)
is_wide base [] = refl
is_wide base (e ∷ earlier) = wide_after base e.0 e.1 e.2 (stored base earlier) (is_wide base earlier)

image_length : (old : List ℕ) (pending : List (ℕ × ℕ)) (c : List ℕ) → IsImage old pending c → length c ≡ length old
image_length old [] c image = ap length image
image_length old (range ∷ earlier) c image = image.2.size ∙ image_length old earlier image.0 image.1

-- the fronts of lists that are torn are torn
front_before : (k n : ℕ) (xs ys : List ℕ) → length xs ≡ length ys → take n xs ≡ take n ys → take n (take k xs) ≡ take n (take k ys)
front_before zero n xs ys wide same = refl
front_before (suc k) zero xs ys wide same = refl
front_before (suc k) (suc n) [] [] wide same = refl
front_before (suc k) (suc n) [] (y ∷ ys) wide same = absurd (omega (arith, wide))
front_before (suc k) (suc n) (x ∷ xs) [] wide same = absurd (omega (arith, wide))
front_before (suc k) (suc n) (x ∷ xs) (y ∷ ys) wide same = grind (arith, same, wide, front_before k n xs ys)

front_behind : (k n : ℕ) (xs ys : List ℕ) → length xs ≡ length ys → drop n xs ≡ drop n ys → drop n (take k xs) ≡ drop n (take k ys)
front_behind k zero xs ys wide same = ap (take k) same
front_behind zero (suc n) xs ys wide same = refl
front_behind (suc k) (suc n) [] [] wide same = refl
front_behind (suc k) (suc n) [] (y ∷ ys) wide same = absurd (omega (arith, wide))
front_behind (suc k) (suc n) (x ∷ xs) [] wide same = absurd (omega (arith, wide))
front_behind (suc k) (suc n) (x ∷ xs) (y ∷ ys) wide same = front_behind k n xs ys (omega (arith, wide)) same

front_size : (k : ℕ) (xs ys : List ℕ) → length xs ≡ length ys → length (take k xs) ≡ length (take k ys)
front_size zero xs ys wide = refl
front_size (suc k) [] [] wide = refl
front_size (suc k) [] (y ∷ ys) wide = absurd (omega (arith, wide))
front_size (suc k) (x ∷ xs) [] wide = absurd (omega (arith, wide))
front_size (suc k) (x ∷ xs) (y ∷ ys) wide = ap suc (front_size k xs ys (omega (arith, wide)))

front_torn : (k at n : ℕ) (d c : List ℕ) → Torn at n d c → Torn at n (take k d) (take k c)
front_torn k at n d c torn = record {
  size = front_size k c d torn.size;
  before = front_before k at c d torn.size torn.before;
  behind = front_behind k (at + n) c d torn.size torn.behind;
}

front_image : (old more : List ℕ) (pending : List (ℕ × ℕ)) (c : List ℕ) → IsImage (old ++ more) pending c → IsImage old pending (take (length old) c)
front_image old more [] c image = ap (take (length old)) image ∙ take-append_seam old more
front_image old more (range ∷ earlier) c image = (take (length old) image.0, front_image old more earlier image.0 image.1, front_torn (length old) range.0 range.1 image.0 c image.2)

-- an image of the longer disk is, as far as the shorter one goes, an image of that one
longer_image : (s : Stored) (bytes c : List ℕ) → Wide s → IsImage (lengthened bytes s).synced (lengthened bytes s).pending c → IsImage s.synced s.pending (take (length s.content) c)
longer_image s bytes c wide image =
    let same : take (length s.content) c ≡ take (length s.content) image.0 = image.2.before in
    let front : IsImage s.synced s.pending (take (length s.synced) image.0) = front_image s.synced bytes s.pending image.0 image.1 in
    subst (λ (x : List ℕ). IsImage s.synced s.pending x) (ap (λ (n : ℕ). take n image.0) wide ∙ sym same) front

take_less : (k n : ℕ) (xs : List ℕ) → k ≤ n → take k (take n xs) ≡ take k xs
take_less zero n xs le = refl
take_less (suc k) zero xs le = absurd (omega (arith, le))
take_less (suc k) (suc n) [] le = refl
take_less (suc k) (suc n) (x ∷ xs) le = ap (λ (l : List ℕ). x ∷ l) (take_less k n xs (omega (arith, le)))

since_split : (base other : ℕ) (e : Event) (events after : List Event) → other ≡ base → after ≡ e ∷ events → (t : ℕ) (c : List ℕ) → ImageSince other after t c
    → ImageNow base (e ∷ events) c ⊎ ((t ≤ length events) × ImageSince base events t c)
since_split base other e events after same is t c since = subst (λ (es : List Event). ImageSince base es t c) is (subst (λ (n : ℕ). ImageSince n after t c) same since)

alive_or : (b : Bool) → (b ≡ true) ⊎ (b ≡ false)
alive_or true = inl refl
alive_or false = inr refl

if_dead : {X : Type 0} (b : Bool) (x y : X) → b ≡ false → (if b then x else y) ≡ y
if_dead b x y is = ap (λ (it : Bool). if it then x else y) is

no_error : false ≡ true → ⊥
no_error is = cc

module _ {F : Type 0} {g : calls.Ghosts F} where
  abbrev Leaves : FileDisk F g → FileDisk F g → Type 0
  Leaves start now = LeavesOnly file_clock file_images_since start now (WasImage start)

  pub leaves_same : (start now new : FileDisk F g) → Leaves start now → file_offset new ≡ file_offset now → file_events new ≡ file_events now → Leaves start new
  leaves_same start now new old same is =
      let back : (t : ℕ) (c : List ℕ) → file_images_since new t c → file_images_since now t c
      = λ t c since. subst (λ (es : List Event). ImageSince now.offset es t c) is (subst (λ (n : ℕ). ImageSince n (g.events new.calls) t c) same since) in
      record {
        later = omega (arith, old.later, ap length is);
        each = λ c since. old.each c (back (file_clock start) c since);
        before = λ t c le since. old.before t c le (back t c since);
      }

  leaves_on : (e : Event) (start now new : FileDisk F g) → Leaves start now → file_offset new ≡ file_offset now → file_events new ≡ e ∷ file_events now
      → ((c : List ℕ) → ImageNow (file_offset now) (e ∷ file_events now) c → WasImage start c) → Leaves start new
  leaves_on e start now new old same is hence =
      let split = since_split (file_offset now) (file_offset new) e (file_events now) (file_events new) same is in
      record {
        later = omega (arith, old.later, ap length is);
        each = λ c since. elim (split (file_clock start) c since) [ inl image ↦ hence c image | inr past ↦ old.each c past.1 ];
        before = λ t c le since. elim (split t c since) [ inl image ↦ inr (hence c image) | inr past ↦ old.before t c le past.1 ];
      }

  was_now : (start now : FileDisk F g) → Leaves start now → (c : List ℕ) → file_images now c → WasImage start c
  was_now start now old c image = old.each c (is_now now (file_clock start) c old.later image)

  pub leaves_start : (start : FileDisk F g) → Leaves start start
  leaves_start start =
      let whole : (c : List ℕ) → file_images start c → WasImage start c
      = λ c image. subst (file_images start) (sym (take_all (length (file_content start)) c (omega (arith, image_length (stored start.offset (g.events start.calls)).synced (stored start.offset (g.events start.calls)).pending c image, is_wide start.offset (g.events start.calls))))) image in
      record {
        later = omega arith;
        each = λ c since. whole c (is_only_now start c since);
        before = λ t c le since. inl since;
      }

  -- bytes were added, or may have been
  leaves_longer : (e : Event) (bytes : List ℕ) (start now new : FileDisk F g) → Leaves start now → length (file_content start) ≤ length (file_content now) → file_offset new ≡ file_offset now
      → file_events new ≡ e ∷ file_events now → stored (file_offset now) (e ∷ file_events now) ≡ lengthened bytes (stored (file_offset now) (file_events now)) → Leaves start new
  leaves_longer e bytes start now new old le same is adds =
      leaves_on e start now new old same is (λ c image.
      let there = longer_image (stored (file_offset now) (file_events now)) bytes c (is_wide (file_offset now) (file_events now)) (subst (λ (s : Stored). IsImage s.synced s.pending c) adds image) in
      subst (file_images start) (take_less (length (file_content start)) (length (file_content now)) c le) (was_now start now old (take (length (file_content now)) c) there))

  pub leaves_written : (bytes : List ℕ) (start now new : FileDisk F g) → Leaves start now → length (file_content start) ≤ length (file_content now) → file_offset new ≡ file_offset now → 0 < length bytes
      → file_events new ≡ wrote (file_offset now + length (file_content now)) bytes ∷ file_events now → Leaves start new
  leaves_written bytes start now new old le same some is =
      leaves_longer (wrote (file_offset now + length (file_content now)) bytes) bytes start now new old le same is (adds_written (file_offset now) (file_events now) _ bytes refl some)

  pub leaves_failed : (bytes : List ℕ) (start now new : FileDisk F g) → Leaves start now → length (file_content start) ≤ length (file_content now) → file_offset new ≡ file_offset now → 0 < length bytes
      → file_events new ≡ failed (file_offset now + length (file_content now)) bytes ∷ file_events now → Leaves start new
  leaves_failed bytes start now new old le same some is =
      leaves_longer (failed (file_offset now + length (file_content now)) bytes) bytes start now new old le same is (adds_failed (file_offset now) (file_events now) _ bytes refl some)

  pub leaves_synced : (start now new : FileDisk F g) → Leaves start now → file_offset new ≡ file_offset now → file_events new ≡ synced ∷ file_events now → Leaves start new
  leaves_synced start now new old same is =
      leaves_on synced start now new old same is (λ c image. was_now start now old c (subst (file_images now) (sym image) (content_image (file_offset now) (file_events now))))

  pub leaves_unsynced : (start now new : FileDisk F g) → Leaves start now → file_offset new ≡ file_offset now → file_events new ≡ unsynced ∷ file_events now → Leaves start new
  leaves_unsynced start now new old same is = leaves_on unsynced start now new old same is (λ c image. was_now start now old c image)

  -- a disk that had so many zeros added so far, each of whose calls succeeded
  pub record Grown (start now : FileDisk F g) (done : ℕ) : Type 0 where
    pub content : file_content now ≡ file_content start ++ replicate done 0
    pub crash : LeavesOnly file_clock file_images_since start now (WasImage start)
    pub offset : file_offset now ≡ file_offset start
    pub copy : file_has_copy now ≡ false
    pub dead : file_is_dead now ≡ file_is_dead start
    pub faults : file_faults now ≡ file_faults start
    pub calls : file_is_dead start ≡ true → file_events now ≡ file_events start

  pub grown_start : (start now : FileDisk F g) → file_events now ≡ file_events start → file_offset now ≡ file_offset start → file_content now ≡ file_content start → file_has_copy now ≡ false
      → file_is_dead now ≡ file_is_dead start → file_faults now ≡ file_faults start → Grown start now 0
  grown_start start now events offset content copy dead faults = record {
    content = content ∙ sym (append-nil (file_content start));
    crash = leaves_same start start now (leaves_start start) offset events;
    offset = offset;
    copy = copy;
    dead = dead;
    faults = faults;
    calls = λ is. events;
  }

  grown_length : (start now : FileDisk F g) (done : ℕ) → Grown start now done → length (file_content start) ≤ length (file_content now)
  grown_length start now done grown = omega (arith, ap length grown.content, length-append (file_content start) (replicate done 0))

  pub grown_on : {T E : Type 0} (value : T) (start now new : FileDisk F g) (done n : ℕ) (piece : List ℕ) → Grown start now done → piece ≡ replicate n 0 → 0 < n
      → Makes {E = E} (wrote (file_offset now + length (file_content now)) piece) (failed (file_offset now + length (file_content now)) piece) now new (Ok value)
      → file_content new ≡ (if file_is_dead now then file_content now else file_content now ++ piece) → Grown start new (done + n)
  grown_on value start now new done n piece grown is some makes content =
      let alive : file_is_dead now ≡ false = elim (alive_or (file_is_dead now)) [ inl dead ↦ absurd (no_error (makes.dead dead).0) | inr it ↦ it ] in
      let some_piece : 0 < length piece = omega (arith, some, ap length is, length-replicate {A = ℕ} n 0) in
      record {
        content = content ∙ if_dead (file_is_dead now) (file_content now) (file_content now ++ piece) alive ∙ ap (λ (l : List ℕ). l ++ piece) grown.content ∙ append_assoc (file_content start) (replicate done 0) piece
            ∙ ap (λ (l : List ℕ). file_content start ++ l) (ap (λ (l : List ℕ). replicate done 0 ++ l) is ∙ replicate-append-replicate done n 0);
        crash = leaves_written piece start now new grown.crash (grown_length start now done grown) makes.offset some_piece (makes.alive alive);
        offset = makes.offset ∙ grown.offset;
        copy = makes.copy ∙ grown.copy;
        dead = makes.lives ∙ grown.dead;
        faults = makes.faults ∙ grown.faults;
        calls = λ dead. let clash : true ≡ false = sym dead ∙ sym grown.dead ∙ alive in cc;
      }

  -- what a crash leaves where a piece more couldn't be written
  pub crash_add : {T E : Type 0} (error : E) (start now new : FileDisk F g) (done : ℕ) (piece : List ℕ) → Grown start now done → 0 < length piece
      → Makes {T = T} (wrote (file_offset now + length (file_content now)) piece) (failed (file_offset now + length (file_content now)) piece) now new (Err error) → Leaves start new
  crash_add error start now new done piece grown some makes = elim (alive_or (file_is_dead now)) [
    | inl dead ↦ leaves_same start now new grown.crash makes.offset (makes.dead dead).1
    | inr alive ↦ leaves_failed piece start now new grown.crash (grown_length start now done grown) makes.offset some (makes.alive alive)
  ]

  pub crash_synced : {T E : Type 0} (value : T) (start now new : FileDisk F g) (done : ℕ) → Grown start now done → Makes {E = E} synced unsynced now new (Ok value) → Leaves start new
  crash_synced value start now new done grown makes = elim (alive_or (file_is_dead now)) [
    | inl dead ↦ absurd (no_error (makes.dead dead).0)
    | inr alive ↦ leaves_synced start now new grown.crash makes.offset (makes.alive alive)
  ]

  pub crash_unsynced : {T E : Type 0} (error : E) (start now new : FileDisk F g) (done : ℕ) → Grown start now done → Makes {T = T} synced unsynced now new (Err error) → Leaves start new
  crash_unsynced error start now new done grown makes = elim (alive_or (file_is_dead now)) [
    | inl dead ↦ leaves_same start now new grown.crash makes.offset (makes.dead dead).1
    | inr alive ↦ leaves_unsynced start now new grown.crash makes.offset (makes.alive alive)
  ]
