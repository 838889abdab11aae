use Rattle.std.proofs.Common.{◌≡◌, ◌≢◌, ◌+◌, ◌*◌, ◌/◌, ◌%◌, ◌^◌, ◌<◌, arith, sym, ap, ◌∙◌, slice_index, get_or-set_other}
use mathlib.Core.Logic.{dite}
use native.Mathlib.Decide.{dec_lt}
use Rattle.std.proofs.lemmas.Grind.{get_or-set_at}
use Rattle.lst_pack.specs.Forms.{number_at}
use Rattle.lst_pack.proofs.Numbers.{number_in_byte, per_byte, byte_within, one_in_byte}
use Rattle.lst_pack.proofs.widths.read_narrow.Goals as goal

pub loop-k-preserved : goal.loop-k-preserved
loop-k-preserved g c = λ p low.
    let width = g.row.WIDTH in
    let words = c.args.words.now in
    let per = per_byte width c.requires.width in
    let within = byte_within width c.requires.width c.loop-place.place c.loop-k.k (omega (arith, c.requires.count)) (omega arith) in
    dite (dec_lt p (c.loop-place.place * (8 / width) + c.loop-k.k))
    (λ (before : p < c.loop-place.place * (8 / width) + c.loop-k.k).
    let ne : p ≢ c.loop-place.place * (8 / width) + c.loop-k.k = omega arith in rw get_or-set_other (c.loop-k.invariant p before))
    (λ past.
    let here : p ≡ c.loop-place.place * (8 / width) + c.loop-k.k = omega (arith, past) in
    get_or-set_at c.loop-k.numbers (c.loop-place.place * (8 / width) + c.loop-k.k) p _ 0 here (omega arith)
    ∙ ap (λ n. slice_index c.read_bytes.new.bytes c.loop-place.place / 2 ^ (c.loop-k.k * width) % n) (one_in_byte width c.requires.width)
    ∙ ap (λ n. n / 2 ^ (c.loop-k.k * width) % 2 ^ width) (c.read_bytes.ensures c.loop-place.place (omega arith))
    ∙ sym (number_in_byte words c.args.from width (8 / width) c.loop-place.place c.loop-k.k per.0 per.1 (omega arith))
    ∙ ap (λ n. number_at words c.args.from width n) (sym here))
