-- The numbers of a session fit their words.
use Rattle.std.proofs.Common.{◌≡◌, ℕ, ◌+◌, ◌-◌, ◌*◌, ◌<◌, ◌≤◌, ◌^◌, true, arith, mul-le-mul}
use Rattle.lst_layout.specs.declared.limits.Limits.{Limits}
use Rattle.lst_layout.specs.Limits.{IsValid}
use Rattle.lst_core_state.specs.declared.events.Event.{Event}
use Rattle.lst_core_state.specs.declared.events.Event.TheVariants.{Look, Begin, Take, Log, State, Clock, Give, Close, DrawRecord, StoreKey, Claim, Latch, DrawTail, StoreCell, Install, Release, Stamp, Post}
use Rattle.lst_core_state.specs.Cells.{tail_count, range_of}
use Rattle.lst_core_state.specs.declared.numbers.Numbers.{Numbers}
use Rattle.lst_core_state.specs.Numbers.{Allows}
use Rattle.lst_core_state.specs.Bounds.{BeginFits, TailFits, HeadFits}

pub begin_fits : (l : Limits) (n : Numbers) (e : Event) → Allows l n e → BeginFits n e
begin_fits l n (Look s a) ok = tt
begin_fits l n (Begin s b r) ok = ok.2
begin_fits l n (Take s) ok = tt
begin_fits l n (Log s) ok = tt
begin_fits l n (State s) ok = tt
begin_fits l n (Clock s) ok = tt
begin_fits l n (Give s) ok = tt
begin_fits l n (Close s) ok = tt
begin_fits l n (DrawRecord s) ok = tt
begin_fits l n (StoreKey s k) ok = tt
begin_fits l n (Claim s q) ok = tt
begin_fits l n (Latch s r) ok = tt
begin_fits l n (DrawTail s range) ok = tt
begin_fits l n (StoreCell s p x) ok = tt
begin_fits l n (Install s) ok = tt
begin_fits l n (Release s) ok = tt
begin_fits l n (Stamp s range t) ok = tt
begin_fits l n (Post s column q) ok = tt

pub tail_fits : (l : Limits) (n : Numbers) (e : Event) → Allows l n e → (n.hold.is_whole ≡ true → (range_of (n.hold.latch - 1) * l.tails < n.hold.tail) × (n.hold.tail ≤ range_of (n.hold.latch - 1) * l.tails + l.tails) × (0 < n.hold.latch)) → TailFits l n e
tail_fits l n (Look s a) ok h = tt
tail_fits l n (Begin s b r) ok h = tt
tail_fits l n (Take s) ok h = tt
tail_fits l n (Log s) ok h = tt
tail_fits l n (State s) ok h = tt
tail_fits l n (Clock s) ok h = tt
tail_fits l n (Give s) ok h = tt
tail_fits l n (Close s) ok h = tt
tail_fits l n (DrawRecord s) ok h = tt
tail_fits l n (StoreKey s k) ok h = tt
tail_fits l n (Claim s q) ok h = tt
tail_fits l n (Latch s r) ok h = tt
tail_fits l n (DrawTail s range) ok h = tt
tail_fits l n (StoreCell s p x) ok h = tt
tail_fits l n (Install s) ok h = h ok
tail_fits l n (Release s) ok h = tt
tail_fits l n (Stamp s range t) ok h = tt
tail_fits l n (Post s column q) ok h = tt

pub head_fits : (l : Limits) (n : Numbers) (e : Event) → Allows l n e → (0 < n.hold.latch → n.hold.head < 2 ^ 32) → HeadFits n e
head_fits l n (Look s a) ok h = tt
head_fits l n (Begin s b r) ok h = tt
head_fits l n (Take s) ok h = tt
head_fits l n (Log s) ok h = tt
head_fits l n (State s) ok h = tt
head_fits l n (Clock s) ok h = tt
head_fits l n (Give s) ok h = tt
head_fits l n (Close s) ok h = tt
head_fits l n (DrawRecord s) ok h = tt
head_fits l n (StoreKey s k) ok h = tt
head_fits l n (Claim s q) ok h = tt
head_fits l n (Latch s r) ok h = tt
head_fits l n (DrawTail s range) ok h = tt
head_fits l n (StoreCell s p x) ok h = tt
head_fits l n (Install s) ok h = tt
head_fits l n (Release s) ok h = h ok.0
head_fits l n (Stamp s range t) ok h = tt
head_fits l n (Post s column q) ok h = tt

pub rows_few : (l : Limits) → IsValid l → l.sessions * l.txns < 2 ^ 32
rows_few l sized = let a = sized.sessions.1 in let b = sized.txns.1 in let h : l.sessions * l.txns ≤ 16 * 65535 = mul-le-mul a b in omega arith

pub tails_few : (l : Limits) → IsValid l → tail_count l < 2 ^ 32
tails_few l sized = let a = sized.ranges.1 in let b = sized.tails.1 in let h : l.ranges * l.tails ≤ 64 * 16384 = mul-le-mul a b in omega arith

-- a tail's identifier is below 2 ^ 21
pub tail_few : (range tails ranges n : ℕ) → range < ranges → ranges ≤ 64 → tails ≤ 16384 → n ≤ tails → range * tails + n ≤ 1048576
tail_few range tails ranges n low a b few = let h : range * tails ≤ 63 * 16384 = mul-le-mul (let a : range ≤ 63 = omega arith in a) b in omega arith
