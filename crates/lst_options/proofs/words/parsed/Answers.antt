use Rattle.std.proofs.Common.{true≢false, map, string_bytes, refl, sym, ◌∙◌}
use Rattle.clap.specs.Words.{app_of, fault_of}
use Rattle.lst_options.proofs.FaultKinds.{has_a_kind}
use Rattle.lst_options.proofs.words.parsed.Goals as goal

pub returns-in-Ok-clause-taken : goal.returns-in-Ok-clause-taken
returns-in-Ok-clause-taken c = (λ _. c.in-Ok.ensures.kinds c.requires.free, λ _. refl)

pub returns-in-Ok-clause-rows : goal.returns-in-Ok-clause-rows
returns-in-Ok-clause-rows c = (c.in-Ok.ensures.matches c.requires.simple).0

pub returns : goal.returns
returns c = record {
  taken = (
    λ no. absurd (true≢false (sym no)),
    λ none. absurd (has_a_kind (fault_of (app_of c.args.command) (map string_bytes c.args.words.now)) c.in-Err.error (c.in-Err.ensures.kinds c.requires.free)
        (λ memory. c.in_default.not-OutOfMemory (c.kind.ensures ∙ memory)) none),
  );
  rows = tt;
}
