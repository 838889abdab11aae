-- The log has room for the commit of an open transaction.
use Rattle.std.proofs.Common.{◌≡◌, ◌≢◌, ℕ, zero, suc, ◌+◌, ◌-◌, ◌*◌, ◌/◌, ◌%◌, ◌<◌, ◌≤◌, true, sym, ap, ◌∙◌, arith, length}
use Rattle.std.proofs.Math.Arith.{digits_div, digits_mod}
use Rattle.lst_layout.proofs.Apart.{row_low}
use Rattle.lst_probe.proofs.Counting.{pigeonhole}
use Rattle.lst_core_state.specs.State.{Core, rank}
use Rattle.lst_core_state.specs.Sound.{Sound}
use Rattle.lst_core_state.proofs.RunsKept.{seen_low}

-- the place of a session's number among all
abbrev row_of : ℕ → ℕ → ℕ → ℕ
row_of txns s n = s * txns + (n - 1)

row_apart : (txns s n j m : ℕ) → 0 < n → n ≤ txns → 0 < m → m ≤ txns → row_of txns s n ≡ row_of txns j m → (s ≡ j) × (n ≡ m)
row_apart txns s n j m a b d f e = let i : n - 1 < txns = omega arith in let k : m - 1 < txns = omega arith in (
  sym (digits_div s {m = txns} {r = n - 1} i) ∙ (ap (λ (x : ℕ). x / txns) e ∙ digits_div j {m = txns} {r = m - 1} k),
  let g : n - 1 ≡ m - 1 = sym (digits_mod s {m = txns} {r = n - 1} i) ∙ (ap (λ (x : ℕ). x % txns) e ∙ digits_mod j {m = txns} {r = m - 1} k) in omega arith,
)

-- a at 0, and b elsewhere
abbrev or : ℕ → ℕ → ℕ → ℕ
or zero a b = a
or (suc t) a b = b

times_one : (t u : ℕ) → or t 0 (t + 1) ≡ or u 0 (u + 1) → t ≡ u
times_one zero zero e = omega arith
times_one zero (suc u) e = omega arith
times_one (suc t) zero e = omega arith
times_one (suc t) (suc u) e = omega arith

-- a number that isn't in use yet is above all that are
used_low : (number n x : ℕ) → (number < n → x ≡ 0) → 0 < x → n ≤ number
used_low number n x unused some = grind arith

module _ (c : Core) (sound : Sound c) where
  abbrev rows : ℕ
  rows = c.limits.sessions * c.limits.txns

  pub logged_number : (t : ℕ) → 0 < t → t ≤ c.words.clock → (c.words.log t % 16 < c.limits.sessions) × (0 < c.words.log t / 16) × (c.words.log t / 16 ≤ c.limits.txns)
  logged_number t some low = let n = sound.times.named t some low in let r = sound.each (c.words.log t % 16) n.session in
      (n.session, n.number, let a = used_low (c.known (c.words.log t % 16)).number (c.words.log t / 16) (c.words.states (c.words.log t % 16) (c.words.log t / 16)) (r.unused (c.words.log t / 16)) (let e = n.state in omega arith) in let b = r.few in omega arith)

  pub room : (s : ℕ) → s < c.limits.sessions → (c.known s).is_open ≡ true → rank (c.known s).turn ≢ 4 → c.words.clock + 1 ≤ rows
  room s in_range is_on not_stated = pigeonhole (c.words.clock + 1) rows place low apart
    where
      session : ℕ → ℕ
      session t = or t s (c.words.log t % 16)

      number : ℕ → ℕ
      number t = or t (c.known s).number (c.words.log t / 16)

      place : ℕ → ℕ
      place t = row_of c.limits.txns (session t) (number t)

      state : (t : ℕ) → t < c.words.clock + 1 → c.words.states (session t) (number t) ≡ or t 0 (t + 1)
      state zero h = (sound.each s in_range).open_state is_on not_stated
      state (suc t) h = (sound.times.named (suc t) (omega arith) (omega arith)).state

      within : (t : ℕ) → t < c.words.clock + 1 → (session t < c.limits.sessions) × (0 < number t) × (number t ≤ c.limits.txns)
      within zero h = let own = sound.each s in_range in (in_range, own.open_number is_on, own.few)
      within (suc t) h = logged_number (suc t) (omega arith) (omega arith)

      low : (t : ℕ) → t < c.words.clock + 1 → place t < rows
      low t h = let p : (session t < c.limits.sessions) × (0 < number t) × (number t ≤ c.limits.txns) = within t h in row_low c.limits.sessions (session t) c.limits.txns (number t - 1) p.0 (let a : 0 < number t = p.1 in let b : number t ≤ c.limits.txns = p.2 in let d : number t - 1 < c.limits.txns = omega arith in d)

      apart : (t u : ℕ) → t < c.words.clock + 1 → u < c.words.clock + 1 → place t ≡ place u → t ≡ u
      apart t u h k e = let p = within t h in let q = within u k in let r = row_apart c.limits.txns (session t) (number t) (session u) (number u) p.1 p.2 q.1 q.2 e in
          let same : c.words.states (session t) (number t) ≡ c.words.states (session u) (number u) = (λ i. c.words.states (r.0 i) (r.1 i)) in times_one t u (sym (state t h) ∙ (same ∙ state u k))

  -- no more commits than transactions
  pub clock_low : c.words.clock ≤ rows
  clock_low = pigeonhole c.words.clock rows place low apart
    where
      place : ℕ → ℕ
      place t = row_of c.limits.txns (c.words.log (t + 1) % 16) (c.words.log (t + 1) / 16)

      low : (t : ℕ) → t < c.words.clock → place t < rows
      low t h = let p = logged_number (t + 1) (omega arith) (omega arith) in row_low c.limits.sessions (c.words.log (t + 1) % 16) c.limits.txns (c.words.log (t + 1) / 16 - 1) p.0 (let a = p.1 in let b = p.2 in omega arith)

      apart : (t u : ℕ) → t < c.words.clock → u < c.words.clock → place t ≡ place u → t ≡ u
      apart t u h k e = let p = logged_number (t + 1) (omega arith) (omega arith) in let q = logged_number (u + 1) (omega arith) (omega arith) in
          let r = row_apart c.limits.txns (c.words.log (t + 1) % 16) (c.words.log (t + 1) / 16) (c.words.log (u + 1) % 16) (c.words.log (u + 1) / 16) p.1 p.2 q.1 q.2 e in
          let same : c.words.states (c.words.log (t + 1) % 16) (c.words.log (t + 1) / 16) ≡ c.words.states (c.words.log (u + 1) % 16) (c.words.log (u + 1) / 16) = (λ i. c.words.states (r.0 i) (r.1 i)) in
          let a = (sound.times.named (t + 1) (omega arith) (omega arith)).state in let b = (sound.times.named (u + 1) (omega arith) (omega arith)).state in omega arith

  -- what a session has seen, and its number, are within the limits
  pub seen_few : (s : ℕ) → s < c.limits.sessions → (length (c.known s).seen ≤ rows) × ((c.known s).number ≤ c.limits.txns)
  seen_few s low = let a = seen_low c sound s low in let b = clock_low in (omega arith, (sound.each s low).few)
