-- What the crates above may rest on, of what a session has seen.
use Rattle.std.specs.Prelude.{◌≡◌, ℕ, ◌<◌, true}
use Rattle.lst_model.specs.Soundness.{IsSound}
use Rattle.lst_rule.specs.declared.view.View.{View}
use Rattle.lst_rule.specs.Rule.{knows, hosts}
use Rattle.lst_rule.specs.Learned.{Possible}

-- in a possible view, the commits that a session hosted there has seen are a sound history
abbrev pub SeenIsSound : Type 0
SeenIsSound = (v : View) (s : ℕ) → Possible v → hosts v s ≡ true → s < v.limits.sessions → IsSound (knows v s).seen
