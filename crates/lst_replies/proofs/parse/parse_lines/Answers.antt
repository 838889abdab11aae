use Rattle.std.proofs.Common.{◌≡◌, drop, length, ap, ◌∙◌, arith, subst}
use Rattle.lst_replies.specs.Reading.{texts, reply_of, replies_front, after_replies, report_in, Tells}
use Rattle.lst_replies.proofs.Fronts.{length-read_front, length-texts}
use Rattle.lst_replies.proofs.parse.parse_lines.Goals as goal

pub behind-rest-requires : goal.behind-rest-requires
behind-rest-requires c =
    omega (arith, c.len.ensures, ap length c.in_ok-replies.ensures, length-read_front (λ place line. reply_of c.args.columns line) 0 (texts c.args.lines.now), length-texts c.args.lines.now)

pub returns : goal.returns
returns c =
    let lines = texts c.args.lines.now in
    let replies = c.in_ok-replies.ensures in
    let rest : texts c.behind-rest.result.now ≡ drop (length (replies_front c.args.columns lines)) lines = c.behind-rest.ensures ∙ ap (λ n. drop n lines) (c.len.ensures ∙ ap length replies) in
    let same : after_replies c.in_ok-replies.replies (texts c.behind-rest.result.now) ≡ report_in c.args.columns lines =
    ap (λ told. after_replies told (texts c.behind-rest.result.now)) replies ∙ ap (after_replies (replies_front c.args.columns lines)) rest in
    subst (Tells c.after_replies.result) same c.after_replies.ensures
