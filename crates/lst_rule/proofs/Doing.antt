-- What each operation makes of a word and of the numbers, by kinds of step.
use Rattle.std.proofs.Common.{◌≡◌, ℕ, ◌+◌, ◌*◌, ◌/◌, ◌%◌, ◌^◌, ◌==◌, bit_or, bit_and, refl, subst, arith}
use Rattle.std.specs.Int.Bits.{or_add_and}
use Rattle.std.proofs.lemmas.Nat.Bits.{shr_and_one}
use prog.Atomic.{either}
use Rattle.lst_layout.specs.declared.limits.Limits.{Limits}
use Rattle.lst_layout.specs.declared.place.Place.{Place}
use Rattle.lst_layout.specs.declared.place.Place.TheVariants.{ClockWord, CommitWord, EpochWord, RecordCounter, LogWord, BeginWord, StateWord, KeyWord, IndexWord, HeadWord, TailCounter, CellWord, DirectoryWord, FrameWord, PinWord, PostingWord}
use Rattle.lst_core_state.specs.declared.events.Event.{Event}
use Rattle.lst_core_state.specs.declared.events.Event.TheVariants.{Look, Begin, Take, Log, State, Clock, Give, Close, DrawRecord, StoreKey, Claim, Latch, DrawTail, StoreCell, Install, Release, Stamp, Post}
use Rattle.lst_core_state.specs.declared.numbers.Numbers.{Numbers}
use Rattle.lst_core_state.specs.Numbers.{written_of, numbers_look, numbers_after}
use Rattle.lst_rule.specs.Operations.{IsStore, IsExchange, IsDraw, IsLatch, IsQuiet}

-- what a store leaves doesn't depend on what it found
pub stored : (l : Limits) (n : Numbers) (time : ℕ) (e : Event) → IsStore e → (x y : ℕ) → written_of l n time e x ≡ written_of l n time e y
stored l n time (Look s a) is x y = absurd is
stored l n time (Begin s b r) is x y = refl
stored l n time (Take s) is x y = absurd is
stored l n time (Log s) is x y = refl
stored l n time (State s) is x y = refl
stored l n time (Clock s) is x y = refl
stored l n time (Give s) is x y = refl
stored l n time (Close s) is x y = refl
stored l n time (DrawRecord s) is x y = absurd is
stored l n time (StoreKey s k) is x y = refl
stored l n time (Claim s q) is x y = absurd is
stored l n time (Latch s r) is x y = absurd is
stored l n time (DrawTail s range) is x y = absurd is
stored l n time (StoreCell s p x1) is x y = refl
stored l n time (Install s) is x y = refl
stored l n time (Release s) is x y = refl
stored l n time (Stamp s range t) is x y = refl
stored l n time (Post s c q) is x y = absurd is

pub stored_after : (l : Limits) (e : Event) → IsStore e → (n : Numbers) (x y : ℕ) → numbers_after l e x n ≡ numbers_after l e y n
stored_after l (Look s a) is n x y = absurd is
stored_after l (Begin s b r) is n x y = refl
stored_after l (Take s) is n x y = absurd is
stored_after l (Log s) is n x y = refl
stored_after l (State s) is n x y = refl
stored_after l (Clock s) is n x y = refl
stored_after l (Give s) is n x y = refl
stored_after l (Close s) is n x y = refl
stored_after l (DrawRecord s) is n x y = absurd is
stored_after l (StoreKey s k) is n x y = refl
stored_after l (Claim s q) is n x y = absurd is
stored_after l (Latch s r) is n x y = absurd is
stored_after l (DrawTail s range) is n x y = absurd is
stored_after l (StoreCell s p x1) is n x y = refl
stored_after l (Install s) is n x y = refl
stored_after l (Release s) is n x y = refl
stored_after l (Stamp s range t) is n x y = refl
stored_after l (Post s c q) is n x y = absurd is

-- an exchange of 0 for what it would store
pub exchanged : (l : Limits) (n : Numbers) (time : ℕ) (e : Event) → IsExchange e → (x : ℕ) → either (x == 0) (written_of l n 0 e 0) x ≡ written_of l n time e x
exchanged l n time (Look s a) is x = absurd is
exchanged l n time (Begin s b r) is x = absurd is
exchanged l n time (Take s) is x = refl
exchanged l n time (Log s) is x = absurd is
exchanged l n time (State s) is x = absurd is
exchanged l n time (Clock s) is x = absurd is
exchanged l n time (Give s) is x = absurd is
exchanged l n time (Close s) is x = absurd is
exchanged l n time (DrawRecord s) is x = absurd is
exchanged l n time (StoreKey s k) is x = absurd is
exchanged l n time (Claim s q) is x = refl
exchanged l n time (Latch s r) is x = absurd is
exchanged l n time (DrawTail s range) is x = absurd is
exchanged l n time (StoreCell s p x1) is x = absurd is
exchanged l n time (Install s) is x = absurd is
exchanged l n time (Release s) is x = absurd is
exchanged l n time (Stamp s range t) is x = absurd is
exchanged l n time (Post s c q) is x = refl

-- an addition
pub drawn : (l : Limits) (n : Numbers) (time : ℕ) (e : Event) → IsDraw e → (x : ℕ) → (x + 1) % 2 ^ 64 ≡ written_of l n time e x
drawn l n time (Look s a) is x = absurd is
drawn l n time (Begin s b r) is x = absurd is
drawn l n time (Take s) is x = absurd is
drawn l n time (Log s) is x = absurd is
drawn l n time (State s) is x = absurd is
drawn l n time (Clock s) is x = absurd is
drawn l n time (Give s) is x = absurd is
drawn l n time (Close s) is x = absurd is
drawn l n time (DrawRecord s) is x = refl
drawn l n time (StoreKey s k) is x = absurd is
drawn l n time (Claim s q) is x = absurd is
drawn l n time (Latch s r) is x = absurd is
drawn l n time (DrawTail s range) is x = refl
drawn l n time (StoreCell s p x1) is x = absurd is
drawn l n time (Install s) is x = absurd is
drawn l n time (Release s) is x = absurd is
drawn l n time (Stamp s range t) is x = absurd is
drawn l n time (Post s c q) is x = absurd is

and_one : (n : ℕ) → bit_and n 1 ≡ n % 2
and_one n = let d : n / 1 ≡ n = omega arith in subst (λ (m : ℕ). bit_and m 1 ≡ m % 2) d (shr_and_one n 0)

-- the lowest bit set
pub or_one : (n : ℕ) → bit_or n 1 ≡ 2 * (n / 2) + 1
or_one n = let e = or_add_and n 1 in let f : bit_and n 1 ≡ n % 2 = and_one n in omega arith

pub latched : (l : Limits) (n : Numbers) (time : ℕ) (e : Event) → IsLatch e → (x : ℕ) → bit_or x 1 ≡ written_of l n time e x
latched l n time (Look s a) is x = absurd is
latched l n time (Begin s b r) is x = absurd is
latched l n time (Take s) is x = absurd is
latched l n time (Log s) is x = absurd is
latched l n time (State s) is x = absurd is
latched l n time (Clock s) is x = absurd is
latched l n time (Give s) is x = absurd is
latched l n time (Close s) is x = absurd is
latched l n time (DrawRecord s) is x = absurd is
latched l n time (StoreKey s k) is x = absurd is
latched l n time (Claim s q) is x = absurd is
latched l n time (Latch s r) is x = or_one x
latched l n time (DrawTail s range) is x = absurd is
latched l n time (StoreCell s p x1) is x = absurd is
latched l n time (Install s) is x = absurd is
latched l n time (Release s) is x = absurd is
latched l n time (Stamp s range t) is x = absurd is
latched l n time (Post s c q) is x = absurd is

-- a quiet load
pub quiet : (l : Limits) (x : ℕ) (n : Numbers) (p : Place) → IsQuiet p → numbers_look l x n p ≡ n
quiet l x n ClockWord is = absurd is
quiet l x n CommitWord is = refl
quiet l x n EpochWord is = refl
quiet l x n RecordCounter is = absurd is
quiet l x n (LogWord t) is = refl
quiet l x n (BeginWord s k) is = refl
quiet l x n (StateWord s k) is = refl
quiet l x n (KeyWord r) is = absurd is
quiet l x n (IndexWord q) is = absurd is
quiet l x n (HeadWord r) is = refl
quiet l x n (TailCounter range) is = absurd is
quiet l x n (CellWord t c) is = refl
quiet l x n (DirectoryWord r c) is = refl
quiet l x n (FrameWord f c) is = refl
quiet l x n (PinWord s) is = refl
quiet l x n (PostingWord c q) is = refl
