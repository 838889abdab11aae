-- Merges change no other reply.
use Rattle.std.proofs.Common.{◌≡◌, List, [], ◌∷◌, refl, ap, ◌∙◌}
use Rattle.lst_layout.specs.declared.limits.Limits.{Limits}
use Rattle.lst_model.specs.declared.lines.Line.{Line}
use Rattle.lst_model.specs.declared.lines.Line.TheVariants.{Phase, Merge, Call}
use Rattle.lst_machine.specs.State.{State, Store}
use Rattle.lst_machine.specs.Calls.{call_reply, store_after}
use Rattle.lst_machine.specs.Machine.{reply, next, replies}
use Rattle.lst_machine.specs.Others.{without_merges, other_replies}

pub merges_apart : (limits : Limits) (one other : State) (lines : List Line) → one.store ≡ other.store
    → other_replies lines (replies limits one lines) ≡ replies limits other (without_merges lines)
merges_apart limits one other [] same = refl
merges_apart limits one other (Phase ∷ lines) same = ap (λ rest. reply limits other Phase ∷ rest) (merges_apart limits one other lines same)
merges_apart limits one other (Merge range column ∷ lines) same = merges_apart limits (next limits one (Merge range column)) other lines same
merges_apart limits one other (Call session call ∷ lines) same =
    ap (λ store. call_reply limits store session call ∷ other_replies lines (replies limits (next limits one (Call session call)) lines)) same
    ∙ ap (λ rest. call_reply limits other.store session call ∷ rest)
    (merges_apart limits (next limits one (Call session call)) (next limits other (Call session call)) lines (ap (λ (store : Store). store_after limits store session call) same))
