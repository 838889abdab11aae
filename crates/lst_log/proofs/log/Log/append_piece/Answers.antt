use Rattle.std.proofs.Common.{rules, ap, ◌∙◌}
use Rattle.lst_disk.specs.Disk.{tears}
use Rattle.lst_log.proofs.Opens.{ok_err}
use Rattle.lst_log.proofs.log.Log.append_piece.Goals as goal

pub returns-in-Ok-write_piece : goal.returns-in-Ok-write_piece
returns-in-Ok-write_piece g c = λ commits piece_of. record {
  kept = search rules;
  any_moment = search rules;
  written = search rules;
  never = search rules;
  memory = search rules;
  unspent = search rules;
  rises = search rules;
  fault = search rules;
  left = search rules;
  stopped = λ same. absurd (ok_err _ _ _ _ same);
  torn = c.write_piece.ensures.torn ∙ ap tears c.room.ensures.outcome;
  columns = search rules;
}
