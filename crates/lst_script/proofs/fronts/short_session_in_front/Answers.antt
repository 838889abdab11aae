use Rattle.std.proofs.Common.{◌≡◌, ◌-◌, ◌∷◌, ◌∙◌, arith, rules}
use Rattle.lst_script.proofs.Beginnings.{session_here, one_digit}
use Rattle.lst_script.proofs.fronts.short_session_in_front.Goals as goal

pub returns : goal.returns
returns c =
    let byte = c.in_ok-byte.byte.now in
    let rest = c.in_ok-byte.rest.now in
    let parts : c.args.text.now ≡ byte ∷ rest = search rules in
    let is_digit = c.digit_of-digit.ensures.digit (omega (arith, c.if-digit-ge10.false)) in
    session_here c.args.text.now rest c.in_ok-call.call.now (byte - 48) c.in_ok-session.session c.args.sessions
    (rw parts (one_digit byte rest is_digit)) (c.in_ok-session.ensures.is ∙ c.digit_of-digit.ensures.value is_digit) c.in_ok-session.ensures.within c.in_ok-call.ensures
