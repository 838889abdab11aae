use Rattle.std.proofs.Common.{◌∷◌, [], sym, subst, ◌∙◌, refl, arith}
use Rattle.lst_log.specs.Format.{IsPieceOf}
use Rattle.lst_log.proofs.Crashes.{piece_of_one}
use Rattle.lst_log.proofs.Logging.{memory_full, memory_disk, at_start}
use Rattle.lst_log.proofs.log.Log.append_within.Goals as goal

pub returns : goal.returns
returns g c =
    let columns = c.args.self.now.columns in
    let commit = c.args.commit.now in
    c.append_piece.ensures (commit ∷ []) (subst (IsPieceOf columns (commit ∷ [])) (sym (c.as_slice.ensures.value ∙ c.in-Ok.ensures)) (piece_of_one columns commit c.requires.record))

pub returns-in_default : goal.returns-in_default
returns-in_default g c =
    let log = c.args.self.now in record {
      kept = λ _ _ _. tt;
      any_moment = λ so_far keeps follow. at_start g.D.Disk.content g.D.Disk.images log so_far keeps (c.args.commit.now ∷ []) g.D.Disk.clock g.D.Disk.images_since (g.met.D.Disk.only_now log.disk);
      written = tt;
      never = memory_full _ refl;
      memory = λ _ so_far keeps. keeps;
      unspent = λ _. (refl, refl, refl);
      rises = omega arith;
      fault = λ same. absurd (memory_disk _ refl same);
      left = λ no. absurd (no refl);
      stopped = λ same. absurd (memory_disk _ refl same);
      torn = refl;
      columns = refl;
    }
