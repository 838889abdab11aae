use Rattle.std.proofs.Common.{rules, arith, ◌+◌, ◌<◌, sym, subst}
use Rattle.lst_layout.specs.declared.limits.Limits.{Limits}
use Rattle.lst_layout.specs.Areas.{frame_count}
use Rattle.lst_pages.specs.State.{hand_of}
use Rattle.lst_rule.specs.Rule.{knows}
use Rattle.lst_walk.proofs.Reading.{reader_on}
use Rattle.lst_walk.proofs.Loading.{frame_skims, frame_knows, packed_low, packed_word}
use Rattle.lst_walk.proofs.packed.PackedWords.word.Goals as goal

pub invariant_of-self : goal.invariant_of-self
invariant_of-self c = let p = c.args.self.now in let skims = frame_skims p.seat.now.view c.load_frame_from.new.seat.view p.s p.frame (1 + c.args.place) c.load_frame_from.result c.load_frame_from.ensures.loaded p.ready.reader.host p.ready.low (let few = packed_low (hand_of (knows p.seat.now.view p.s).pages.session p.frame) c.args.place c.requires in omega arith) in record {
  ready = record {
    reader = reader_on p.store.now p.seat.now c.load_frame_from.new.seat p.s p.ready.reader skims.watched c.load_frame_from.ensures.seat;
    low = subst (λ (l : Limits). p.frame < frame_count l) (sym skims.watched.learns.limits) p.ready.low;
    is = p.ready.is;
  };
}

pub returns-clause-word : goal.returns-clause-word
returns-clause-word c = let p = c.args.self.now in packed_word (hand_of (knows p.seat.now.view p.s).pages.session p.frame) c.args.place c.load_frame_from.result c.requires (λ page is. c.load_frame_from.ensures.loaded.in_hand p.ready.reader.own page is)

pub returns-clause-later : goal.returns-clause-later
returns-clause-later c = let p = c.args.self.now in record {
  store = search rules;
  same_reference = search rules;
  s = search rules;
  frame = search rules;
  first = search rules;
  skims = frame_skims p.seat.now.view c.load_frame_from.new.seat.view p.s p.frame (1 + c.args.place) c.load_frame_from.result c.load_frame_from.ensures.loaded p.ready.reader.host p.ready.low (let few = packed_low (hand_of (knows p.seat.now.view p.s).pages.session p.frame) c.args.place c.requires in omega arith);
  same = frame_knows p.seat.now.view c.load_frame_from.new.seat.view p.s p.frame (1 + c.args.place) c.load_frame_from.result c.load_frame_from.ensures.loaded;
}
